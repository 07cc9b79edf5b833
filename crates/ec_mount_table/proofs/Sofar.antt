-- Rows and what they met, one row more.
use Rattle.std.proofs.Common.{◌≡◌, ◌==◌, ◌⊎◌, ◌<◌, ◌+◌, ◌≤◌, ℕ, zero, suc, Bool, true, false, if◌then◌else◌, List, [], ◌∷◌, ◌++◌, length, take, drop, get_or, Some, None, Result, Ok, Err, refl, sym, ap, ◌∙◌, subst, ⊎_elim, arith, append_assoc, append-nil}
use Rattle.std.specs.Prelude.{slice_get, Vec}
use Rattle.std.specs.declared.alloc.Global.{Global}
use Rattle.std.proofs.lemmas.Bool.{eqb-true, eqb-false}
use Rattle.ec_plain.specs.Walk.{Path}
use Rattle.ec_plain.specs.declared.call.Call.{Call}
use Rattle.ec_plain.specs.declared.call.Call.TheVariants.{Sync}
use Rattle.ec_lock.specs.declared.types.Pass.{Pass}
use Rattle.ec_outs.specs.Outs.{Reply}
use Rattle.ec_clerknode.specs.declared.fault.NodeFault.{NodeFault}
use Rattle.ec_clerknode.specs.declared.fault.NodeFault.TheVariants as fault
use Rattle.ec_clerknode.specs.declared.state.Node.{Node}
use Rattle.ec_clerknode.specs.declared.step.Step.{Step}
use Rattle.ec_mount_words.specs.OfRoute.Calls.{call_below, paths_of}
use Rattle.ec_mount_words.specs.OfRoute.Routes.{path_at, IsRoute}
use Rattle.ec_mount_words.specs.declared.route.routes.Route.TheVariants as route
use Rattle.ec_mounts.specs.Mounts.{MadeAt, Makes, Rests}
use Rattle.ec_mount_table.specs.Rows.{AreSeen, IsTarget, asked_of, calls_at, replies_at, reply_in, reply_of, target}
use Rattle.ec_mount_table.specs.Going.{Both, CallCame, CallCut, CameAt, Did, Holding, LastCame, MadeAll, RowsCame, Stopped, SyncCame, SyncCut, Tried, Unless, items_of}
use Rattle.ec_mount_table.specs.declared.script.Row.{Row}
use Rattle.ec_mount_table.specs.declared.seen.Cut.{Cut}
use Rattle.ec_mount_table.specs.declared.seen.Seen.{Seen}
use Rattle.ec_mount_table.specs.declared.seen.Seen.TheVariants as seen
use Rattle.ec_mount_table.proofs.Calls.{did_all, hold_same, makes_has, tried_all}
use Rattle.ec_mount_table.proofs.Places.{get_at}
use Rattle.ec_mounts.proofs.Seats.{some_is}
use Rattle.ec_mounts.proofs.Turning.{rests_self}

pub unless_so : (f : NodeFault) (P Q : Type 0) → (P → Q) → Unless f P → Unless f Q
unless_so fault.Net P Q h p = h p
unless_so (fault.Peer why) P Q h p = h p
unless_so (fault.Long n) P Q h p = h p
unless_so (fault.OldBoot age) P Q h p = h p
unless_so (fault.Spent c) P Q h p = h p
unless_so fault.NoMemory P Q h p = tt

pub unless_wanting : (f : NodeFault) (P : Type 0) → f ≡ fault.NoMemory → Unless f P
unless_wanting f P e = subst (λ g. Unless g P) (sym e) tt

pub unless_is : (f : NodeFault) (P : Type 0) → P → Unless f P
unless_is fault.Net P p = p
unless_is (fault.Peer why) P p = p
unless_is (fault.Long n) P p = p
unless_is (fault.OldBoot age) P p = p
unless_is (fault.Spent c) P p = p
unless_is fault.NoMemory P p = tt

seen_snoc : (table : List Path) (rows : List Row) (mets : List Seen) (row : Row) (met : Seen) → AreSeen table rows mets → IsTarget table row.call (target met) → AreSeen table (rows ++ row ∷ []) (mets ++ met ∷ [])
seen_snoc table [] [] row met are is = (is, tt)
seen_snoc table [] (m ∷ mets) row met are is = absurd are
seen_snoc table (r ∷ rows) [] row met are is = absurd are
seen_snoc table (r ∷ rows) (m ∷ mets) row met are is = (are.0, seen_snoc table rows mets row met are.1 is)

calls_snoc : (table : List Path) (place : ℕ) (rows : List Row) (mets : List Seen) (row : Row) (met : Seen) → AreSeen table rows mets → calls_at table place rows mets ++ asked_of table place row.call (target met) ≡ calls_at table place (rows ++ row ∷ []) (mets ++ met ∷ [])
calls_snoc table place [] [] row met are = sym (append-nil (asked_of table place row.call (target met)))
calls_snoc table place [] (m ∷ mets) row met are = absurd are
calls_snoc table place (r ∷ rows) [] row met are = absurd are
calls_snoc table place (r ∷ rows) (m ∷ mets) row met are =
    let first = asked_of table place r.call (target m) in
    append_assoc first (calls_at table place rows mets) (asked_of table place row.call (target met)) ∙ ap (λ l. first ++ l) (calls_snoc table place rows mets row met are.1)

replies_snoc : (place : ℕ) (mets : List Seen) (met : Seen) → replies_at place mets ++ reply_of place met ≡ replies_at place (mets ++ met ∷ [])
replies_snoc place [] met = sym (append-nil (reply_of place met))
replies_snoc place (m ∷ mets) met = append_assoc (reply_of place m) (replies_at place mets) (reply_of place met) ∙ ap (λ l. reply_of place m ++ l) (replies_snoc place mets met)

module _ {L : Type 0} (table : List Path) where
  -- the rows that were made, and what the passes hold of them
  abbrev pub Sofar : List Row → List Seen → List (Pass (Node L) Step) → Type 0
  Sofar rows mets passes = AreSeen table rows mets × Holding (λ place. calls_at table place rows mets) (λ place. replies_at place mets) passes

  pub sofar_more : (rows more : List Row) (mets longer : List Seen) (row : Row) (met : Seen) (olds news : List (Pass (Node L) Step)) → Sofar rows mets olds → more ≡ rows ++ row ∷ [] → longer ≡ mets ++ met ∷ [] → CallCame table row.call olds news (Ok met) → Sofar more longer news
  sofar_more rows more mets longer row met olds news s e f came =
      let held = did_all (λ place. calls_at table place rows mets) (λ place. asked_of table place row.call (target met)) (λ place. replies_at place mets) (λ place. reply_of place met) olds news s.1 came.1 in
      subst (λ l. Sofar l longer news) (sym e) (subst (λ l. Sofar (rows ++ row ∷ []) l news) (sym f) (
        seen_snoc table rows mets row met s.0 came.0,
        hold_same (λ place. calls_at table place rows mets ++ asked_of table place row.call (target met)) (λ place. calls_at table place (rows ++ row ∷ []) (mets ++ met ∷ []))
            (λ place. replies_at place mets ++ reply_of place met) (λ place. replies_at place (mets ++ met ∷ [])) news (λ place. calls_snoc table place rows mets row met s.0) (λ place. replies_snoc place mets met) held,
      ))

  pub sofar_stops : (all rows rest : List Row) (mets : List Seen) (row : Row) (cut : Cut) (olds news : List (Pass (Node L) Step)) → Sofar rows mets olds → rows ++ row ∷ rest ≡ all → CallCame table row.call olds news (Err cut) → RowsCame table all mets news (Err cut)
  sofar_stops all rows rest mets row cut olds news s whole came =
      unless_so cut.fault (CallCut table row.call olds news cut.replies.items cut.fault) (Stopped table all mets cut.replies.items cut.fault news)
      (λ c. record {
        done = rows;
        rest = row ∷ rest;
        whole = whole;
        seen = s.0;
        to = c.0;
        next = c.1;
        shown = c.2;
        has = c.4;
        fronts = tried_all (λ place. calls_at table place rows mets) (λ place. asked_of table place row.call c.0) (λ place. replies_at place mets) (λ place. reply_in cut.replies.items place) olds news s.1 c.3;
      })
      came

  unshown : (replies : List Reply) (old new : Pass (Node L) Step) → Tried (Sync ∷ []) replies old new → Tried (Sync ∷ []) [] old new
  unshown [] old new t = t
  unshown (r ∷ []) old new t = (Ok r, t)
  unshown (r ∷ s ∷ more) old new t = absurd t

  did_tried : (replies : List Reply) (old new : Pass (Node L) Step) → Did (Sync ∷ []) replies old new → Tried (Sync ∷ []) replies old new
  did_tried [] old new d = absurd d
  did_tried (r ∷ []) old new d = d
  did_tried (r ∷ s ∷ more) old new d = absurd d

  made_stop : (rows : List Row) (mets : List Seen) (shown replies : List Reply) (f : NodeFault) (olds news : List (Pass (Node L) Step)) → replies ≡ [] → Sofar rows mets olds → SyncCut olds news shown f → Stopped table rows mets replies f news
  made_stop rows mets shown replies f olds news none s c = subst (λ l. Stopped table rows mets l f news) (sym none) (record {
    done = rows;
    rest = [];
    whole = append-nil rows;
    seen = s.0;
    to = None;
    next = refl;
    shown = refl;
    has = c.1;
    fronts = tried_all (λ place. calls_at table place rows mets) (λ place. Sync ∷ []) (λ place. replies_at place mets) (λ place. []) olds news s.1 (c.0.0, λ place old new o n. unshown (reply_in shown place) old new (c.0.1 place old new o n));
  })

  made_all : (rows : List Row) (mets : List Seen) (replies lasts : List Reply) (olds news : List (Pass (Node L) Step)) → replies ≡ [] → Sofar rows mets olds → Both olds news (λ place old new. Did (Sync ∷ []) (reply_in lasts place) old new) → MadeAll table rows mets replies news (Ok lasts)
  made_all rows mets replies lasts olds news none s both = (
    s.0,
    did_all (λ place. calls_at table place rows mets) (λ place. Sync ∷ []) (λ place. replies_at place mets) (λ place. reply_in lasts place) olds news s.1 both,
    none,
    tried_all (λ place. calls_at table place rows mets) (λ place. Sync ∷ []) (λ place. replies_at place mets) (λ place. []) olds news s.1 (both.0, λ place old new o n. unshown (reply_in lasts place) old new (did_tried (reply_in lasts place) old new (both.1 place old new o n))),
  )

  pub made_last : (rows : List Row) (mets : List Seen) (replies : List Reply) (last : Result (Vec Reply Global) NodeFault) (olds news : List (Pass (Node L) Step)) → replies ≡ [] → Sofar rows mets olds → LastCame olds news last → MadeAll table rows mets replies news (items_of last)
  made_last rows mets replies (Ok lasts) olds news none s came = made_all rows mets replies lasts.items olds news none s came
  made_last rows mets replies (Err f) olds news none s came =
      unless_so f ((shown : List Reply) × SyncCut olds news shown f) (Stopped table rows mets replies f news) (λ c. made_stop rows mets c.0 replies f olds news none s c.1) came

  -- A call that was made at one volume.
  did_at : (path : Path) (call : Call) (place i : ℕ) (reply : Reply) (old new : Pass (Node L) Step) (b : Bool) → (place == i) ≡ b → path ≡ path_at table place → (i ≡ place → Makes (call_below (length path) call) old new (Ok reply)) → ((i ≡ place → ⊥) → Rests old new)
      → Did (if b then call_below (length (path_at table i)) call ∷ [] else []) (if b then reply ∷ [] else []) old new
  did_at path call place i reply old new true e is here other =
      let same : place ≡ i = eqb-true place i e in
      subst (λ p. Makes (call_below (length p) call) old new (Ok reply)) (is ∙ ap (path_at table) same) (here (sym same))
  did_at path call place i reply old new false e is here other = other (λ same. eqb-false place i e (sym same))

  tried_at : (path : Path) (call : Call) (place i : ℕ) (met : Result Reply NodeFault) (old new : Pass (Node L) Step) (b : Bool) → (place == i) ≡ b → path ≡ path_at table place → (i ≡ place → Makes (call_below (length path) call) old new met) → ((i ≡ place → ⊥) → Rests old new)
      → Tried (if b then call_below (length (path_at table i)) call ∷ [] else []) [] old new
  tried_at path call place i met old new true e is here other =
      let same : place ≡ i = eqb-true place i e in
      (met, subst (λ p. Makes (call_below (length p) call) old new met) (is ∙ ap (path_at table) same) (here (sym same)))
  tried_at path call place i met old new false e is here other = other (λ same. eqb-false place i e (sym same))

  module _ (path : Path) (call : Call) (place : ℕ) (olds news : List (Pass (Node L) Step)) (is : path ≡ path_at table place) (not_sync : call ≡ Sync → ⊥) (to : IsRoute table (paths_of call) (route.To place)) where
    came_ok : (reply : Reply) → MadeAt place (call_below (length path) call) olds news (Ok reply) → CallCame table call olds news (Ok (seen.To place reply))
    came_ok reply m = (
      (not_sync, to),
      (m.many, λ i old new o n. did_at path call place i reply old new (place == i) refl is (λ same. m.here old new (subst (λ k. slice_get olds k ≡ Some old) same o) (subst (λ k. slice_get news k ≡ Some new) same n)) (λ apart. m.others i old new apart o n)),
    )

    came_err : (cut : Cut) → (cut.fault ≡ fault.NoMemory) ⊎ ((cut.replies.items ≡ []) × MadeAt place (call_below (length path) call) olds news (Err cut.fault)) → CallCame table call olds news (Err cut)
    came_err cut came =
        ⊎_elim
        (λ (e : cut.fault ≡ fault.NoMemory). unless_wanting cut.fault (CallCut table call olds news cut.replies.items cut.fault) e)
        (λ (h : (cut.replies.items ≡ []) × MadeAt place (call_below (length path) call) olds news (Err cut.fault)).
        let m = h.1 in
        let old = get_at olds place m.inside in
        let new = get_at news place (omega (arith, m.many, m.inside)) in
        unless_is cut.fault (CallCut table call olds news cut.replies.items cut.fault) (
          Some (route.To place),
          (not_sync, to),
          h.0,
          (
            m.many,
            λ i old new o n. subst (λ l. Tried (asked_of table i call (Some (route.To place))) (reply_in l i) old new) (sym h.0)
                (tried_at path call place i (Err cut.fault) old new (place == i) refl is (λ same. m.here old new (subst (λ k. slice_get olds k ≡ Some old) same o) (subst (λ k. slice_get news k ≡ Some new) same n)) (λ apart. m.others i old new apart o n)),
          ),
          (place, new.0, new.1, makes_has (call_below (length path) call) old.0 new.0 cut.fault (m.here old.0 new.0 old.1 new.1)),
        ))
        came

    pub came_at : (result : Result Seen Cut) → CameAt path place call olds news result → CallCame table call olds news result
    came_at (Ok met) came = subst (λ m. CallCame table call olds news (Ok m)) (sym came.1) (came_ok came.0 came.2)
    came_at (Err cut) came = came_err cut came

module _ {L : Type 0} where
  -- no volume did anything
  pub went_nowhere : (passes : List (Pass (Node L) Step)) → Both passes passes (λ place old new. Did [] [] old new)
  went_nowhere passes = (refl, λ i old new o n. subst (Rests old) (some_is (sym o ∙ n)) (rests_self old))

-- Rows one after another.

take_suc : {A : Type 0} (xs : List A) (i : ℕ) (x : A) → i < length xs → x ≡ get_or xs i x → take (suc i) xs ≡ take i xs ++ x ∷ []
take_suc [] i x l is = absurd (omega (arith, l))
take_suc (y ∷ xs) zero x l is = ap (λ z. z ∷ []) (sym is)
take_suc (y ∷ xs) (suc i) x l is = ap (λ t. y ∷ t) (take_suc xs i x (omega (arith, l)) is)

whole_suc : {A : Type 0} (xs : List A) (i : ℕ) (x : A) → i < length xs → x ≡ get_or xs i x → take i xs ++ x ∷ drop (suc i) xs ≡ xs
whole_suc [] i x l is = absurd (omega (arith, l))
whole_suc (y ∷ xs) zero x l is = ap (λ z. z ∷ xs) is
whole_suc (y ∷ xs) (suc i) x l is = ap (λ t. y ∷ t) (whole_suc xs i x (omega (arith, l)) is)

one_more : (i : ℕ) → suc i ≡ i + 1
one_more i = omega arith

pub take_next : {A : Type 0} (xs : List A) (i : ℕ) (x : A) → i < length xs → x ≡ get_or xs i x → take (i + 1) xs ≡ take i xs ++ x ∷ []
take_next xs i x l is = subst (λ k. take k xs ≡ take i xs ++ x ∷ []) (one_more i) (take_suc xs i x l is)

pub take_whole : {A : Type 0} (xs : List A) (i : ℕ) (x : A) → i < length xs → x ≡ get_or xs i x → take i xs ++ x ∷ drop (i + 1) xs ≡ xs
take_whole xs i x l is = subst (λ k. take i xs ++ x ∷ drop k xs ≡ xs) (one_more i) (whole_suc xs i x l is)

pub take_all : {A : Type 0} (xs : List A) (i : ℕ) → length xs ≤ i → take i xs ≡ xs
take_all [] zero l = refl
take_all [] (suc i) l = refl
take_all (x ∷ xs) zero l = absurd (omega (arith, l))
take_all (x ∷ xs) (suc i) l = ap (λ t. x ∷ t) (take_all xs i (omega (arith, l)))

pub get_of : {A : Type 0} (xs : List A) (i : ℕ) (x : A) → i < length xs → x ≡ get_or xs i x → slice_get xs i ≡ Some x
get_of [] i x l is = absurd (omega (arith, l))
get_of (y ∷ xs) zero x l is = ap (λ z. Some z) (sym is)
get_of (y ∷ xs) (suc i) x l is = get_of xs i x (omega (arith, l)) is

pub sofar_none : {L : Type 0} (table : List Path) (rows : List Row) (mets : List Seen) (passes : List (Pass (Node L) Step)) → rows ≡ [] → mets ≡ [] → Holding (λ place. []) (λ place. []) passes → Sofar table rows mets passes
sofar_none table rows mets passes none nothing h =
    subst (λ r. Sofar table r mets passes) (sym none) (subst (λ m. Sofar table [] m passes) (sym nothing) (tt, h))

pub last_cut : {L : Type 0} (olds news : List (Pass (Node L) Step)) (cut : Cut) (f : NodeFault) → f ≡ cut.fault → SyncCame olds news (Err cut) → LastCame olds news (Err f)
last_cut olds news cut f same came =
    subst (λ g. LastCame olds news (Err g)) (sym same) (unless_so cut.fault (SyncCut olds news cut.replies.items cut.fault) ((replies : List Reply) × SyncCut olds news replies cut.fault) (λ c. (cut.replies.items, c)) came)
