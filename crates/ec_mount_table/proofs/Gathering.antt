-- The replies to a sync of all volumes.
use Rattle.std.proofs.Common.{◌≡◌, ◌+◌, ◌<◌, ◌≤◌, ◌⊎◌, ℕ, zero, suc, List, [], ◌∷◌, ◌++◌, length, drop, Option, Some, None, Result, Ok, Err, slice_index_or, refl, sym, ap, ◌∙◌, subst, inl, inr, ⊎_elim, arith}
use Rattle.std.specs.Prelude.{map, slice_get, Vec}
use Rattle.std.specs.declared.alloc.Global.{Global}
use Rattle.std.proofs.lemmas.List.{append-nil, drop_all, drop_more, length-map}
use Rattle.ec_plain.specs.declared.call.Call.TheVariants.{Sync}
use Rattle.ec_lock.specs.PassViews.{front}
use Rattle.ec_lock.specs.declared.types.Pass.{Pass}
use Rattle.ec_outs.specs.Outs.{Reply}
use Rattle.ec_clerknode.specs.declared.fault.NodeFault.{NodeFault}
use Rattle.ec_clerknode.specs.declared.state.Node.{Node}
use Rattle.ec_clerknode.specs.declared.step.Step.{Step}
use Rattle.ec_mounts.specs.Mounts.{Makes}
use Rattle.ec_mounts.specs.Parts.{Answered}
use Rattle.ec_mount_table.specs.Rows.{reply_in}
use Rattle.ec_mount_table.specs.Going.{Both, Did, GatherAll, GatherFront, Gathered, PassHas, SyncCame, SyncCut, Tried, Unless}
use Rattle.ec_mount_table.specs.declared.seen.Cut.{Cut}
use Rattle.ec_mount_table.proofs.Calls.{makes_has}
use Rattle.ec_mount_table.proofs.Sofar.{unless_is, unless_so}
use Rattle.ec_mounts.proofs.Seats.{IsNothing, some_is, found}

abbrev Met : Type 0
Met = Option (Result Reply NodeFault)

module _ {S : Type 0} (met_of : S → Met) where
  -- these are the replies of the first so many parts, before which no fault stands
  abbrev pub AreFirst : List S → ℕ → List Reply → Type 0
  AreFirst parts i replies = ((rest : List Reply) → GatherAll (map met_of (drop i parts)) rest → GatherAll (map met_of parts) (replies ++ rest))
      × ((rest : List Reply) (f : NodeFault) → GatherFront (map met_of (drop i parts)) rest f → GatherFront (map met_of parts) (replies ++ rest) f)

  -- a part met the first fault
  pub first_fault : (parts : List S) (i : ℕ) (d : S) (replies : List Reply) (f : NodeFault) → i < length parts → met_of (slice_index_or parts i d) ≡ Some (Err f) → AreFirst parts i replies → GatherFront (map met_of parts) replies f
  first_fault parts i d replies f l is first =
      subst (λ l. GatherFront (map met_of parts) l f) (append-nil replies)
      (first.1 [] f (subst (λ l. GatherFront (map met_of l) [] f) (sym (drop_more parts i d l)) (subst (λ m. GatherFront (m ∷ map met_of (drop (i + 1) parts)) [] f) (sym is) refl)))

  pub first_cut : (parts : List S) (i : ℕ) (d : S) (replies : List Reply) (f : NodeFault) → i < length parts → met_of (slice_index_or parts i d) ≡ Some (Err f) → AreFirst parts i replies → Unless f (GatherFront (map met_of parts) replies f)
  first_cut parts i d replies f l is first = unless_is f (GatherFront (map met_of parts) replies f) (first_fault parts i d replies f l is first)

  -- all replied
  pub first_all : (parts : List S) (i : ℕ) (replies : List Reply) → length parts ≤ i → AreFirst parts i replies → GatherAll (map met_of parts) replies
  first_all parts i replies l first =
      subst (GatherAll (map met_of parts)) (append-nil replies) (first.0 [] (subst (λ l. GatherAll (map met_of l) []) (sym (drop_all i parts l)) tt))

-- The reply at a place.

reply_here : (met : Met) (mets : List Met) (replies : List Reply) → GatherAll (met ∷ mets) replies → (reply : Reply) × (rest : List Reply) × (replies ≡ reply ∷ rest) × (met ≡ Some (Ok reply)) × GatherAll mets rest
reply_here None mets replies all = absurd all
reply_here (Some (Err f)) mets replies all = absurd all
reply_here (Some (Ok r)) mets [] all = absurd all
reply_here (Some (Ok r)) mets (reply ∷ rest) all = (reply, rest, refl, ap (λ x. Some (Ok x)) (sym all.0), all.1)

reply_at : (mets : List Met) (replies : List Reply) (i : ℕ) (met : Met) → GatherAll mets replies → slice_get mets i ≡ Some met → (reply : Reply) × (met ≡ Some (Ok reply)) × (reply_in replies i ≡ reply ∷ [])
reply_at [] replies i met all e = absurd (subst IsNothing e tt)
reply_at (m ∷ mets) replies zero met all e =
    let h = reply_here m mets replies all in (h.0, sym (some_is e) ∙ h.3, ap (λ l. reply_in l 0) h.2)
reply_at (m ∷ mets) replies (suc i) met all e =
    let h = reply_here m mets replies all in
    let later = reply_at mets h.1 i met h.4 e in
    (later.0, later.1, ap (λ l. reply_in l (suc i)) h.2 ∙ later.2)

-- or none, behind the first fault
front_here : (met : Met) (mets : List Met) (replies : List Reply) (f : NodeFault) → GatherFront (met ∷ mets) replies f
    → ((reply : Reply) × (rest : List Reply) × (replies ≡ reply ∷ rest) × (met ≡ Some (Ok reply)) × GatherFront mets rest f) ⊎ ((replies ≡ []) × (met ≡ Some (Err f)))
front_here None mets replies f front = absurd front
front_here (Some (Err g)) mets [] f front = inr (refl, ap (λ h. Some (Err h)) front)
front_here (Some (Err g)) mets (reply ∷ rest) f front = absurd front
front_here (Some (Ok r)) mets [] f front = absurd front
front_here (Some (Ok r)) mets (reply ∷ rest) f front = inl (reply, rest, refl, ap (λ x. Some (Ok x)) (sym front.0), front.1)

abbrev At : List Reply → ℕ → Met → Type 0
At replies i met = (reply_in replies i ≡ []) ⊎ ((reply : Reply) × (met ≡ Some (Ok reply)) × (reply_in replies i ≡ reply ∷ []))

front_at : (mets : List Met) (replies : List Reply) (f : NodeFault) (i : ℕ) (met : Met) → GatherFront mets replies f → slice_get mets i ≡ Some met → At replies i met
front_at [] replies f i met front e = absurd front
front_at (m ∷ mets) replies f zero met front e =
    ⊎_elim
    (λ (h : (reply : Reply) × (rest : List Reply) × (replies ≡ reply ∷ rest) × (m ≡ Some (Ok reply)) × GatherFront mets rest f). inr (h.0, sym (some_is e) ∙ h.3, ap (λ l. reply_in l 0) h.2))
    (λ (h : (replies ≡ []) × (m ≡ Some (Err f))). inl (ap (λ l. reply_in l 0) h.0))
    (front_here m mets replies f front)
front_at (m ∷ mets) replies f (suc i) met front e =
    ⊎_elim
    (λ (h : (reply : Reply) × (rest : List Reply) × (replies ≡ reply ∷ rest) × (m ≡ Some (Ok reply)) × GatherFront mets rest f). subst (λ l. At l (suc i) met) (sym h.2) (front_at mets h.1 f i met h.4 e))
    (λ (h : (replies ≡ []) × (m ≡ Some (Err f))). inl (ap (λ l. reply_in l (suc i)) h.0))
    (front_here m mets replies f front)

-- where the fault is
fault_at : (mets : List Met) (replies : List Reply) (f : NodeFault) → GatherFront mets replies f → (i : ℕ) × (slice_get mets i ≡ Some (Some (Err f)))
fault_at [] replies f front = absurd front
fault_at (m ∷ mets) replies f front =
    ⊎_elim
    (λ (h : (reply : Reply) × (rest : List Reply) × (replies ≡ reply ∷ rest) × (m ≡ Some (Ok reply)) × GatherFront mets rest f). let later = fault_at mets h.1 f h.4 in (suc later.0, later.1))
    (λ (h : (replies ≡ []) × (m ≡ Some (Err f))). (0, ap (λ x. Some x) h.1))
    (front_here m mets replies f front)

get_mapped : {S T : Type 0} (f : S → T) (xs : List S) (i : ℕ) (x : S) → slice_get xs i ≡ Some x → slice_get (map f xs) i ≡ Some (f x)
get_mapped f [] i x e = absurd (subst IsNothing e tt)
get_mapped f (y ∷ xs) zero x e = ap (λ z. Some (f z)) (some_is e)
get_mapped f (y ∷ xs) (suc i) x e = get_mapped f xs i x e

get_indexed : {S : Type 0} (xs : List S) (i : ℕ) (d : S) → i < length xs → slice_get xs i ≡ Some (slice_index_or xs i d)
get_indexed [] i d l = absurd (omega (arith, l))
get_indexed (x ∷ xs) zero d l = refl
get_indexed (x ∷ xs) (suc i) d l = get_indexed xs i d (omega (arith, l))

module _ {L S : Type 0} (pass_of : S → Pass (Node L) Step) (met_of : S → Met) (olds news : List S) (many : length news ≡ length olds)
    (each : (i : ℕ) (d : S) → i < length olds → Answered (Some Sync) (pass_of (slice_index_or olds i d)) (pass_of (slice_index_or news i d)) (met_of (slice_index_or news i d))) where
  passes_many : length (map pass_of news) ≡ length (map pass_of olds)
  passes_many = length-map news pass_of ∙ (many ∙ sym (length-map olds pass_of))

  -- what a volume met, and did
  did_here : (i : ℕ) (old new : Pass (Node L) Step) → slice_get (map pass_of olds) i ≡ Some old → slice_get (map pass_of news) i ≡ Some new
      → (met : Met) × (slice_get (map met_of news) i ≡ Some met) × Answered (Some Sync) old new met
  did_here i old new o n =
      let was = found pass_of olds i old o in
      let is = found pass_of news i new n in
      let x = is.0 in
      let here = each i x was.1 in (
        met_of x,
        subst (λ y. slice_get (map met_of news) i ≡ Some (met_of y)) (is.2 x) (get_mapped met_of news i (slice_index_or news i x) (get_indexed news i x is.1)),
        subst (λ p. Answered (Some Sync) p new (met_of x)) (ap pass_of (was.2 x) ∙ was.3)
            (subst (λ p. Answered (Some Sync) (pass_of (slice_index_or olds i x)) p (met_of x)) is.3
            (subst (λ y. Answered (Some Sync) (pass_of (slice_index_or olds i x)) (pass_of y) (met_of y)) (is.2 x) here)),
      )

  made_here : (old new : Pass (Node L) Step) (met : Met) (result : Result Reply NodeFault) → Answered (Some Sync) old new met → met ≡ Some result → Makes Sync old new result
  made_here old new met result a e = subst (Makes Sync old new) (some_is (sym a.1 ∙ e)) a.2

  all_came : (replies : List Reply) → GatherAll (map met_of news) replies → Both (map pass_of olds) (map pass_of news) (λ place old new. Did (Sync ∷ []) (reply_in replies place) old new)
  all_came replies all = (
    passes_many,
    λ i old new o n.
        let here = did_here i old new o n in
        let r = reply_at (map met_of news) replies i here.0 all here.1 in
        subst (λ l. Did (Sync ∷ []) l old new) (sym r.2) (made_here old new here.0 (Ok r.0) here.2 r.1),
  )

  one_tried : (replies : List Reply) (i : ℕ) (old new : Pass (Node L) Step) (met : Met) → Answered (Some Sync) old new met → At replies i met → Tried (Sync ∷ []) (reply_in replies i) old new
  one_tried replies i old new met a (inl none) = subst (λ l. Tried (Sync ∷ []) l old new) (sym none) (a.0, a.2)
  one_tried replies i old new met a (inr r) = subst (λ l. Tried (Sync ∷ []) l old new) (sym r.2) (made_here old new met (Ok r.0) a r.1)

  front_came : (replies : List Reply) (f : NodeFault) → GatherFront (map met_of news) replies f → Both (map pass_of olds) (map pass_of news) (λ place old new. Tried (Sync ∷ []) (reply_in replies place) old new) × PassHas f (map pass_of news)
  front_came replies f front =
      let at = fault_at (map met_of news) replies f front in
      let part = found met_of news at.0 (Some (Err f)) at.1 in
      let x = part.0 in
      let l : at.0 < length olds = omega (arith, many, part.1) in
      let here = each at.0 x l in
      let is = part.2 x in
      let old = pass_of (slice_index_or olds at.0 x) in
      let made = made_here old (pass_of x) (met_of x) (Err f) (subst (λ y. Answered (Some Sync) old (pass_of y) (met_of y)) is here) part.3 in (
        (
          passes_many,
          λ i old new o n. let h = did_here i old new o n in one_tried replies i old new h.0 h.2 (front_at (map met_of news) replies f i h.0 front h.1),
        ),
        (at.0, pass_of x, subst (λ y. slice_get (map pass_of news) at.0 ≡ Some (pass_of y)) is (get_mapped pass_of news at.0 (slice_index_or news at.0 x) (get_indexed news at.0 x part.1)), makes_has Sync old (pass_of x) f made),
      )

  pub sync_came : (result : Result (Vec Reply Global) Cut) → Gathered (map met_of news) result → SyncCame (map pass_of olds) (map pass_of news) result
  sync_came (Ok replies) all = all_came replies.items all
  sync_came (Err cut) front = unless_so cut.fault (GatherFront (map met_of news) cut.replies.items cut.fault) (SyncCut (map pass_of olds) (map pass_of news) cut.replies.items cut.fault) (λ h. front_came cut.replies.items cut.fault h) front
