-- What an answer covers is durable; and a late one covers nothing of what its start lost.
use Rattle.std.proofs.Common.{◌≡◌, refl, sym, ap, subst, ◌∙◌, inl, inr, ◌⊎◌, arith, ◌<◌, ◌+◌, ◌-◌, ℕ, T, Bool, true, false, not, ◌==◌, ◌&&◌, ◌||◌, cond, map, List, [], ◌∷◌, ◌++◌, length, Option, Some, None, is_some}
use Rattle.std.specs.List.{filter}
use Rattle.std.proofs.lemmas.Bool.{and_parts, true≢false}
use Rattle.ec_base.specs.declared.ids.Age.{Age}
use Rattle.ec_volume.specs.Volume.{after}
use Rattle.ec_volume.specs.declared.update.Update.{Update}
use Rattle.ec_order.specs.Order.{Holds}
use Rattle.ec_history.specs.History.{Base, Op, Each, Covers, is_lost, issued, kept, numbers, of_issue, of_start, same_start, updates}
use Rattle.ec_history.specs.Legal.{IsLegal}
use Rattle.ec_history.specs.declared.entry.Answer.{Answer}
use Rattle.ec_history.specs.declared.entry.Entry.{Entry}
use Rattle.ec_history.specs.declared.entry.Entry.TheVariants as entry
use Rattle.ec_history.proofs.OfLaws.ForPlacing.Cuts.{legal-split}
use Rattle.ec_history.proofs.OfLaws.ForPlacing.Numbers.{each-front}
use Rattle.ec_machine_laws.specs.Picks.{IsRest}
use Rattle.ec_machine_laws.proofs.Holding.{holds-kept}
use Rattle.ec_cache.specs.OfReport.Report.{Owed}
use Rattle.ec_cache.specs.OfResolve.Agreement.{Shows}
use Rattle.ec_sessions.specs.declared.slot.Slot.{Slot}
use Rattle.ec_sessions.specs.declared.window.Window.{Window}
use Rattle.ec_durable.specs.Durable.{slot}
use Rattle.ec_protocol.specs.Clerk.{first_id, verdict, is_session}
use Rattle.ec_protocol.specs.declared.clerk.Clerk.{Clerk}
use Rattle.ec_protocol.specs.declared.clerk.Waiting.{Waiting}
use Rattle.ec_coherence.specs.System.{System, clerk_in, clerk_of, if_in, is_of, is_open}
use Rattle.ec_coherence.specs.Events.{CutAgrees, cut_in, shown_boot, shown_op}
use Rattle.ec_coherence.specs.Log.{HasWrites, Knows, LogAgrees, mine, numbered}
use Rattle.ec_coherence.specs.Invariant.{Invariant}
use Rattle.ec_coherence.specs.Steps.{call_of}
use Rattle.ec_coherence.proofs.ForBatches.ClerkIn.{was-in}
use Rattle.ec_coherence.proofs.ForServer.SlotLaws.{open-of}
use Rattle.ec_coherence.proofs.ForServer.Tables.{same_some, some-of}
use Rattle.ec_coherence.specs.Starts.{StartsAgree}
use Rattle.ec_coherence.specs.Answers.{Gives, IsLive, Sees, based, fresh_of}
use Rattle.ec_coherence.specs.Comes.{begun_at, entry_next}
use Rattle.ec_coherence.proofs.ForCommits.Answering.{alike, is-at, kept-now, new_fresh, old_fresh, shown-updates}
use Rattle.ec_coherence.proofs.ForCommits.Rebased.{Alike, kept-same, legal-same}
use Rattle.ec_lawful.specs.OfClerkSteps.Calls.{Began, CallsAgree, IsBefore, LosesBelow, StartCalls, before_last, is_shown, told_to}
use Rattle.ec_lawful.specs.OfClerkSteps.CallLaws.{IsWaiting, Passes}
use Rattle.ec_lawful.proofs.OfClerkSteps.ForCalls.Covered.{covered-done}
use Rattle.ec_lawful.proofs.OfClerkSteps.ForCalls.Issued.{kept-of}
use Rattle.ec_lawful.proofs.OfClerkSteps.ForCalls.Known.{last-is}
use Rattle.ec_lawful.proofs.OfClerkSteps.ForCalls.Lined.{began-last}
use Rattle.ec_base.proofs.Numbers.{same-self as same, equal}
use Rattle.ec_base.proofs.Options.{none_some}
use Rattle.ec_base.proofs.Bools.{not-both as refutes}
use Rattle.ec_history.proofs.OfLaws.Answered.{closure-held}
use Rattle.ec_history.proofs.OfLaws.ForPlacing.BasesAlike.{each-map}

-- Boots are told apart as they are shown.
minus-same : (f x b : ℕ) → f < b → ((b - f) == (x - f)) ≡ (b == x)
minus-same f x b l = go (b == x) refl
  where
    apart : (f x b : ℕ) → f < b → b - f ≡ x - f → b ≡ x
    apart f x b l e = omega (arith, l, e)

    go : (z : Bool) → (b == x) ≡ z → ((b - f) == (x - f)) ≡ z
    go true e = ap (λ y. b - f == y - f) (sym (equal b x e)) ∙ same (b - f)
    go false e = by ((b - f) == (x - f)) refl
      where
        by : (y : Bool) → ((b - f) == (x - f)) ≡ y → y ≡ false
        by false p = refl
        by true p = absurd (true≢false (sym (ap (λ z. b == z) (sym (apart f x b l (equal (b - f) (x - f) p))) ∙ same b) ∙ e))

each-at : {A : Type 0} (P : A → Type 0) (xs : List A) (y : A) (ys : List A) → Each P (xs ++ y ∷ ys) → P y
each-at P [] y ys h = h.0
each-at P (x ∷ xs) y ys h = each-at P xs y ys h.1

-- an operation of these has the number, and each fact on them
held-op : (P : Op → Type 0) (ks : List Op) (n : ℕ) (u : Update) → Each P ks → Holds (numbered ks) n u → (o : Op) × (o.number ≡ n) × P o
held-op P [] n u h t = absurd t
held-op P (k ∷ ks) n u h (inl e) = (k, e.0, h.0)
held-op P (k ∷ ks) n u h (inr t) = held-op P ks n u h.1 t

each-part : (P : Op → Type 0) (p : Op → Bool) (ks : List Op) → Each (λ o. p o ≡ true → P o) ks → Each P (filter p ks)
each-part P p [] h = tt
each-part P p (k ∷ ks) h = go (p k) refl (each-part P p ks h.1)
  where
    go : (x : Bool) → p k ≡ x → Each P (filter p ks) → Each P (cond x (k ∷ filter p ks) (filter p ks))
    go true e r = (h.0 e, r)
    go false e r = r

each-any : (P : Op → Type 0) (ks : List Op) → ((o : Op) → P o) → Each P ks
each-any P [] f = tt
each-any P (k ∷ ks) f = (f k, each-any P ks f)

each-two : (P Q : Op → Type 0) (ks : List Op) → Each P ks → Each Q ks → Each (λ o. P o × Q o) ks
each-two P Q [] h i = tt
each-two P Q (k ∷ ks) h i = ((h.0, i.0), each-two P Q ks h.1 i.1)

-- The operations of a start, as they are shown and as they are.
module _ (g : System) (c b : ℕ) (above : g.first_boot c < b) where
  abbrev sb : ℕ
  sb = shown_boot g c b

  same-shown : (o : Op) → of_start c sb (shown_op g o) ≡ of_start c b o
  same-shown o = go (c == o.clerk) refl
    where
      go : (x : Bool) → (c == o.clerk) ≡ x → (x && (sb == shown_boot g o.clerk o.boot)) ≡ (x && (b == o.boot))
      go true e = ap (λ z. sb == shown_boot g z o.boot) (sym (equal c o.clerk e)) ∙ minus-same (g.first_boot c) o.boot b above
      go false e = refl

  pub shown-issue : (ks : List Op) → of_issue c sb (map (shown_op g) ks) ≡ numbered (filter (of_start c b) ks)
  shown-issue [] = refl
  shown-issue (k ∷ ks) =
      ap (λ x. map (λ j. (j.number, j.update)) (cond x (shown_op g k ∷ filter (of_start c sb) (map (shown_op g) ks)) (filter (of_start c sb) (map (shown_op g) ks)))) (same-shown k)
      ∙ go (of_start c b k) (shown-issue ks)
    where
      go : (x : Bool) → of_issue c sb (map (shown_op g) ks) ≡ numbered (filter (of_start c b) ks)
          → map (λ j. (j.number, j.update)) (cond x (shown_op g k ∷ filter (of_start c sb) (map (shown_op g) ks)) (filter (of_start c sb) (map (shown_op g) ks))) ≡ numbered (cond x (k ∷ filter (of_start c b) ks) (filter (of_start c b) ks))
      go true r = ap (λ z. (k.number, k.update) ∷ z) r
      go false r = r

  -- who is shown as the start is of it
  pub shown-start : (d f : ℕ) → T (same_start d (shown_boot g d f) c sb) → (d ≡ c) × (f ≡ b)
  shown-start d f t = go (d == c) refl t
    where
      true-is : (x : Bool) → T x → x ≡ true
      true-is true t = refl
      true-is false t = absurd t

      go : (x : Bool) → (d == c) ≡ x → T (x && (shown_boot g d f == sb)) → (d ≡ c) × (f ≡ b)
      go true e t =
          let dc : d ≡ c = equal d c e in
          let one : (shown_boot g c f == sb) ≡ true = ap (λ z. shown_boot g z f == sb) (sym dc) ∙ true-is _ t in
          let boots : (b == f) ≡ true = sym (minus-same (g.first_boot c) f b above) ∙ ap (λ z. sb == z) (equal (shown_boot g c f) sb one) ∙ same sb in
          (dc, sym (equal b f boots))
      go false e t = absurd t

module _ (g : System) (inv : Invariant g) (st : StartsAgree g) (q : CallsAgree g) (c b : ℕ) (k : Clerk) (w : Waiting) (l : ℕ) (waiting : IsWaiting g c b k w l) where
  abbrev x : ℕ
  x = fresh_of k

  abbrev B : Base
  B = based g x

  its : StartCalls g c b k
  its = q.starts c b k waiting.running waiting.stands

  above : g.first_boot c < b
  above = st.started c b k waiting.stands

  abbrev most : ℕ
  most = g.durable.max_objects

  whole-legal : IsLegal B most g.ghost.history
  whole-legal = legal-same g.origin (old_fresh g x) (new_fresh g x) most g.ghost.history (alike g x inv.events) inv.events.legal

  -- what was issued before the call
  before-it : Each (IsBefore c (shown_boot g c b) (begun_at g c b l) w.begun) g.ghost.history
  before-it = go (is_shown g l) refl
    where
      here : (m : ℕ) × (call_of c w.no g.calls ≡ Some (m, w.call)) × Began g c b k w m
      here = each-at (λ v. (m : ℕ) × (call_of c v.no g.calls ≡ Some (m, v.call)) × Began g c b k v m) waiting.before w waiting.after (subst (Each (λ v. (m : ℕ) × (call_of c v.no g.calls ≡ Some (m, v.call)) × Began g c b k v m)) waiting.waits its.lined)

      began : Began g c b k w l
      began = subst (Began g c b k w) (ap (λ z. z.0) (same_some (sym here.1 ∙ waiting.line))) here.2

      go : (y : Bool) → is_shown g l ≡ y → Each (IsBefore c (shown_boot g c b) (begun_at g c b l) w.begun) g.ghost.history
      go true e = began.earlier e
      go false e = began-last g inv.events c b k waiting.running waiting.stands w.begun (began.now e) (begun_at g c b l)

  module _ (live : IsLive g c k) (sees : Sees g k) (passes : Passes k w) (m : ℕ) (a : Answer) (op : Option ℕ) (left : Owed) (gives : Gives m k (verdict w.call k) a op left) where
    abbrev its_ops : List Op
    its_ops = filter (of_start c b) g.ghost.kept

    kept-is : of_issue c (shown_boot g c b) (kept B g.ghost.history) ≡ numbered its_ops
    kept-is = ap (of_issue c (shown_boot g c b)) (kept-now g x inv.events) ∙ shown-issue g c b above g.ghost.kept

    -- a covered number is that of an operation of the start that is kept
    kept-op : (P : Op → Type 0) (n : ℕ) → Each P its_ops → Covers B g.ghost.history (entry_next g c b l w.call a op) c (shown_boot g c b) n → (o : Op) × (o.number ≡ n) × P o
    kept-op P n h v =
        let held = closure-held (of_issue c (shown_boot g c b) (issued B g.ghost.history)) _ n v.closed_in in
        held-op P its_ops n held.0 h (subst (λ xs. Holds xs n held.0) (sym (kept-of B most c (shown_boot g c b) g.ghost.history whole-legal) ∙ kept-is)
        (holds-kept (λ y. not (is_lost c (shown_boot g c b) y.0 g.ghost.history)) (of_issue c (shown_boot g c b) (issued B g.ghost.history)) n held.0 held.1 (true-is (not (is_lost c (shown_boot g c b) n g.ghost.history)) v.not_lost)))
      where
        true-is : (x : Bool) → T x → x ≡ true
        true-is true t = refl
        true-is false t = absurd t

    -- it's durable like each of its number
    durable-like : (o j : Op) → o.clerk ≡ c → o.boot ≡ b → (of_start c b j ≡ true) → j.number ≡ o.number → T (g.ghost.is_durable j) → T (g.ghost.is_durable o)
    durable-like o j oc ob s n t =
        let two = and_parts (c == j.clerk) (b == j.boot) s in
        subst T (sym (st.alike o j (oc ∙ equal c j.clerk two.0) (ob ∙ equal b j.boot two.1) (sym n))) t

    -- in a session
    module _ (s : ℕ) (at : k.session ≡ Some s) where
      owns : g.ghost.owner s ≡ Some (c, k.age)
      owns = (inv.sessions.in_session c b s k waiting.stands at).0

      boot-is : k.age.boot ≡ b
      boot-is = (inv.sessions.starts c b k waiting.stands).1

      unfrozen : g.ghost.frozen s ≡ None
      unfrozen = ap (cut_in g) (sym at) ∙ live.sees_all

      open-now : T (is_open g s)
      open-now = go (inv.images.cut_off s (some-of owns))
        where
          go : T (is_open g s) ⊎ T (is_some (g.ghost.frozen s)) → T (is_open g s)
          go (inl o) = o
          go (inr f) = absurd (subst (λ z. T (is_some z)) unfrozen f)

      there : clerk_in g s ≡ Some k
      there = was-in g.ghost.owner g.clerks c s k.age k k owns (ap (g.clerks c) boot-is ∙ waiting.stands) at at

      mine-is : mine g.ghost s ≡ its_ops
      mine-is = ap (λ o. filter (is_of o) g.ghost.kept) owns ∙ ap (λ z. filter (of_start c z) g.ghost.kept) boot-is

      slot-now : (d : ℕ) × (sl : Slot) × (slot g.durable d ≡ Some sl) × T sl.is_open × (sl.session ≡ s)
      slot-now = open-of g.durable.sessions s open-now

      log-now : LogAgrees g s slot-now.1 k
      log-now = inv.logs.logs s slot-now.0 slot-now.1 slot-now.2 slot-now.4 slot-now.3 k there

      rest-now : IsRest (of_issue c (shown_boot g c b) (kept B g.ghost.history)) log-now.knows.known k.log
      rest-now = subst (λ xs. IsRest xs log-now.knows.known k.log) (ap numbered mine-is ∙ sym kept-is) log-now.knows.rest

      lost-now : Each (LosesBelow c (shown_boot g c b) k.log.first) g.ghost.history
      lost-now = subst (λ o. Each (LosesBelow c (shown_boot g c b) k.log.first) (told_to c (shown_boot g c b) o g.ghost.history)) (inv.events.untold c b k waiting.running waiting.stands live.uncut) its.lost

      settled-in : (o : Op) → o.clerk ≡ c → o.boot ≡ b → Covers B g.ghost.history (entry_next g c b l w.call a op) c (shown_boot g c b) o.number → T (g.ghost.is_durable o)
      settled-in o oc ob v =
          let both = covered-done B most c (shown_boot g c b) g.ghost.history whole-legal k (is-at g x inv.events c b k waiting.running waiting.stands live sees).shows log-now.knows.known rest-now its.own lost-now w (begun_at g c b l) before-it passes (length g.ghost.shown + 1) l m op left o.number a gives v in
          let sure : T (log-now.knows.known o.number) = first-of (log-now.knows.known o.number) (is_lost c (shown_boot g c b) o.number g.ghost.history) both v.not_lost in
          let j = kept-op (λ i. (of_start c b i ≡ true) × (g.ghost.is_durable i ≡ log-now.knows.durable i.number)) o.number facts v in
          durable-like o j.0 oc ob (j.2).0 j.1 (subst T (sym ((j.2).1 ∙ ap log-now.knows.durable j.1)) (log-now.knows.sure o.number sure))
        where
          first-of : (y z : Bool) → T (y || z) → T (not z) → T y
          first-of true z t n = tt
          first-of false true t n = absurd n
          first-of false false t n = absurd t

          facts : Each (λ i. (of_start c b i ≡ true) × (g.ghost.is_durable i ≡ log-now.knows.durable i.number)) its_ops
          facts = each-two (λ i. of_start c b i ≡ true) (λ i. g.ghost.is_durable i ≡ log-now.knows.durable i.number) its_ops (each-part (λ i. of_start c b i ≡ true) (of_start c b) g.ghost.kept (each-any (λ i. of_start c b i ≡ true → of_start c b i ≡ true) g.ghost.kept (λ i e. e)))
              (subst (Each (λ i. g.ghost.is_durable i ≡ log-now.knows.durable i.number)) mine-is log-now.knows.agrees)

    -- without one nothing is undurable
    module _ (none : k.session ≡ None) where
      nobody : (s : ℕ) (o : Op) → of_start c b o ≡ true → T (is_of (g.ghost.owner s) o) → (j : Clerk) → clerk_in g s ≡ Some j → ⊥
      nobody s o e t j p = go (g.ghost.owner s) t p
        where
          go : (y : Option (ℕ × Age)) → T (is_of y o) → clerk_of s y g.clerks ≡ Some j → ⊥
          go None t p = t
          go (Some z) t p =
              let one = and_parts (c == o.clerk) (b == o.boot) e in
              let two = and_parts (z.0 == o.clerk) ((z.1).boot == o.boot) (true-is _ t) in
              let place : g.clerks z.0 (z.1).boot ≡ Some k = ap (λ y. g.clerks y (z.1).boot) (equal z.0 o.clerk two.0 ∙ sym (equal c o.clerk one.0)) ∙ ap (g.clerks c) (equal (z.1).boot o.boot two.1 ∙ sym (equal b o.boot one.1)) ∙ waiting.stands in
              none_some (sym (ap (if_in s) place ∙ ap (λ y. elim (is_session s y) as (λ u. Option Clerk) [ true ↦ Some k | false ↦ None ]) none) ∙ p)
            where
              true-is : (y : Bool) → T y → y ≡ true
              true-is true t = refl
              true-is false t = absurd t

      all-durable : Each (λ i. (of_start c b i ≡ true) × T (g.ghost.is_durable i)) its_ops
      all-durable = each-part (λ i. (of_start c b i ≡ true) × T (g.ghost.is_durable i)) (of_start c b) g.ghost.kept
          (each-map (λ o. T (not (g.ghost.is_durable o)) → HasWrites g o) (λ o. of_start c b o ≡ true → (of_start c b o ≡ true) × T (g.ghost.is_durable o)) (λ o h e. (e, go o (g.ghost.is_durable o) e h)) g.ghost.kept inv.logs.writes)
        where
          go : (o : Op) (y : Bool) → of_start c b o ≡ true → (T (not y) → HasWrites g o) → T y
          go o true e h = tt
          go o false e h = let u = h tt in absurd (nobody u.session o e u.own u.clerk u.in_place)

      settled-out : (o : Op) → o.clerk ≡ c → o.boot ≡ b → Covers B g.ghost.history (entry_next g c b l w.call a op) c (shown_boot g c b) o.number → T (g.ghost.is_durable o)
      settled-out o oc ob v = let j = kept-op (λ i. (of_start c b i ≡ true) × T (g.ghost.is_durable i)) o.number all-durable v in durable-like o j.0 oc ob (j.2).0 j.1 (j.2).1

    pub settled : (o : Op) → Covers B g.ghost.history (entry_next g c b l w.call a op) o.clerk (shown_boot g o.clerk o.boot) o.number → T (g.ghost.is_durable o)
    settled o v =
        let who = shown-start g c b above o.clerk o.boot v.own in
        go k.session refl who.0 who.1 (subst (λ z. Covers B g.ghost.history (entry_next g c b l w.call a op) c (shown_boot g c z) o.number) who.1 (subst (λ z. Covers B g.ghost.history (entry_next g c b l w.call a op) z (shown_boot g z o.boot) o.number) who.0 v))
      where
        go : (y : Option ℕ) → k.session ≡ y → o.clerk ≡ c → o.boot ≡ b → Covers B g.ghost.history (entry_next g c b l w.call a op) c (shown_boot g c b) o.number → T (g.ghost.is_durable o)
        go None e oc ob v = settled-out e o oc ob v
        go (Some s) e oc ob v = settled-in s e o oc ob v

  -- Of a start whose session ended: nothing that it lost.
  module _ (s : ℕ) (ks : List Op) (owns : g.ghost.owner s ≡ Some (c, k.age)) (sees : Shows k.cache (first_id k.ids) (after g.origin (updates ks))) (window : Window) (knows : Knows k.log window (filter (is_of (g.ghost.owner s)) ks) g.ghost.is_durable)
      (z : CutAgrees g c b s k ks) (lost-is : z.lost ≡ numbers (filter (λ o. is_of (g.ghost.owner s) o && not (g.ghost.is_durable o)) ks)) (passes : Passes k w) (m : ℕ) (a : Answer) (op : Option ℕ) (left : Owed) (gives : Gives m k (verdict w.call k) a op left) where
    abbrev loss : ℕ × Entry
    loss = (z.at, entry.Loss c (shown_boot g c b) z.lost)

    boot-of : k.age.boot ≡ b
    boot-of = (inv.sessions.starts c b k waiting.stands).1

    same-ids : Alike (old_fresh g x) (new_fresh g x) z.before
    same-ids = each-front (λ y. old_fresh g x y.0 ≡ new_fresh g x y.0) z.before (loss ∷ z.behind) (subst (Alike (old_fresh g x) (new_fresh g x)) z.was (alike g x inv.events))

    kept-before : kept B z.before ≡ map (shown_op g) ks
    kept-before = sym (kept-same g.origin (old_fresh g x) (new_fresh g x) z.before same-ids) ∙ z.keeps

    its-before : of_issue c (shown_boot g c b) (kept B z.before) ≡ numbered (filter (is_of (g.ghost.owner s)) ks)
    its-before = ap (of_issue c (shown_boot g c b)) kept-before ∙ shown-issue g c b above ks ∙ ap (λ y. numbered (filter (of_start c y) ks)) (sym boot-of) ∙ ap (λ o. numbered (filter (is_of o) ks)) (sym owns)

    legal-before : IsLegal B most z.before
    legal-before = (legal-split B most z.before (loss ∷ z.behind) (subst (IsLegal B most) z.was whole-legal)).0

    lost-before : Each (LosesBelow c (shown_boot g c b) k.log.first) z.before
    lost-before =
        subst (Each (LosesBelow c (shown_boot g c b) k.log.first)) (ap (before_last c (shown_boot g c b)) z.was ∙ last-is c (shown_boot g c b) z.before z.behind loss own-loss z.alone)
        (subst (λ o. Each (LosesBelow c (shown_boot g c b) k.log.first) (told_to c (shown_boot g c b) o g.ghost.history)) z.untold its.lost)
      where
        own-loss : (same_start c (shown_boot g c b) c (shown_boot g c b)) ≡ true
        own-loss = ap (λ y. y && (shown_boot g c b == shown_boot g c b)) (same c) ∙ same (shown_boot g c b)

    volume-is : after g.origin (updates ks) ≡ after g.origin (updates (kept B z.before))
    volume-is = ap (after g.origin) (sym (shown-updates g ks) ∙ ap updates (sym kept-before))

    before-call : Each (IsBefore c (shown_boot g c b) (begun_at g c b l) w.begun) z.before
    before-call = each-front (IsBefore c (shown_boot g c b) (begun_at g c b l) w.begun) z.before (loss ∷ z.behind) (subst (Each (IsBefore c (shown_boot g c b) (begun_at g c b l) w.begun)) z.was before-it)

    abbrev Uncovered : ℕ → Type 0
    Uncovered n = ¬ (Covers B z.before (entry_next g c b l w.call a op) c (shown_boot g c b) n)

    -- an operation that isn't durable isn't covered
    uncovered-one : (o : Op) → g.ghost.is_durable o ≡ knows.durable o.number → T (not (g.ghost.is_durable o)) → Uncovered o.number
    uncovered-one o agrees still v =
        let both = covered-done B most c (shown_boot g c b) z.before legal-before k (subst (Shows k.cache (first_id k.ids)) volume-is sees) knows.known (subst (λ xs. IsRest xs knows.known k.log) (sym its-before) knows.rest) its.own lost-before w (begun_at g c b l) before-call passes
        (length g.ghost.shown + 1) l m op left o.number a gives v in
        refutes (g.ghost.is_durable o) (subst T (sym agrees) (knows.sure o.number (first-of (knows.known o.number) (is_lost c (shown_boot g c b) o.number z.before) both v.not_lost))) still
      where
        first-of : (y u : Bool) → T (y || u) → T (not u) → T y
        first-of true u t n = tt
        first-of false true t n = absurd n
        first-of false false t n = absurd t

    each-uncovered : (is : List Op) → Each (λ o. g.ghost.is_durable o ≡ knows.durable o.number) (filter (is_of (g.ghost.owner s)) is) → Each Uncovered (numbers (filter (λ o. is_of (g.ghost.owner s) o && not (g.ghost.is_durable o)) is))
    each-uncovered [] h = tt
    each-uncovered (o ∷ is) h = go (is_of (g.ghost.owner s) o) (not (g.ghost.is_durable o)) refl h (each-uncovered is)
      where
        go : (y u : Bool) → not (g.ghost.is_durable o) ≡ u → Each (λ o. g.ghost.is_durable o ≡ knows.durable o.number) (cond y (o ∷ filter (is_of (g.ghost.owner s)) is) (filter (is_of (g.ghost.owner s)) is))
            → (Each (λ o. g.ghost.is_durable o ≡ knows.durable o.number) (filter (is_of (g.ghost.owner s)) is) → Each Uncovered (numbers (filter (λ o. is_of (g.ghost.owner s) o && not (g.ghost.is_durable o)) is)))
            → Each Uncovered (numbers (cond (y && u) (o ∷ filter (λ o. is_of (g.ghost.owner s) o && not (g.ghost.is_durable o)) is) (filter (λ o. is_of (g.ghost.owner s) o && not (g.ghost.is_durable o)) is)))
        go true true e h r = (uncovered-one o h.0 (subst T (sym e) tt), r h.1)
        go true false e h r = r h.1
        go false u e h r = r h

    pub late-settled : Each Uncovered z.lost
    late-settled = subst (Each Uncovered) (sym lost-is) (each-uncovered ks knows.agrees)
