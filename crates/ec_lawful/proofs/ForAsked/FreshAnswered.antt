-- The facts on fresh ids behind an answer.
use Rattle.std.proofs.Common.{◌≡◌, refl, sym, ap, subst, ◌∙◌, inl, inr, ◌⊎◌, arith, ◌<◌, ◌≤◌, ◌+◌, ◌-◌, ◌==◌, ℕ, suc, zero, Bool, true, false, not, cond, T, List, [], ◌∷◌, ◌++◌, length, Option, None, Some, append-nil}
use Rattle.std.specs.Prelude.{is_some}
use Rattle.ec_base.specs.Tables.{Table, at, at_or, or_else, put}
use Rattle.ec_volume.specs.Update.{member}
use Rattle.ec_volume.specs.declared.image.Image.TheVariants.{Gone}
use Rattle.ec_plain.specs.declared.call.Call.{Call}
use Rattle.ec_history.specs.History.{Each, Throughout, same_start}
use Rattle.ec_history.specs.Placing.{begun, place}
use Rattle.ec_history.specs.declared.entry.Answer.{Answer}
use Rattle.ec_history.specs.declared.entry.Entry.{Entry}
use Rattle.ec_history.specs.declared.entry.Entry.TheVariants as entry
use Rattle.ec_history.specs.declared.shown.Shown.{Shown}
use Rattle.ec_history.specs.declared.shown.Shown.TheVariants as show
use Rattle.ec_history.proofs.OfLaws.ForPlacing.Places.{places-within}
use Rattle.ec_coherence.specs.System.{System, base_of}
use Rattle.ec_coherence.specs.Tokens.{in_sixteen}
use Rattle.ec_coherence.specs.Events.{shown_boot}
use Rattle.ec_coherence.proofs.ForServer.Tables.{at-put}
use Rattle.ec_coherence.specs.CommitLaws.{AllAgree}
use Rattle.ec_lawful.specs.OfClerkSteps.Names.{NamesAgree}
use Rattle.ec_lawful.specs.OfClerkSteps.Zeros.{ZerosAgree}
use Rattle.ec_lawful.specs.Creates.{creates}
use Rattle.ec_lawful.specs.FreshIds.{IsFresh, IsGiven, MadeNone, OnCreate}
use Rattle.ec_lawful.specs.Fresh.{AreFresh, FreshAgrees, IsOfStart, Stored, Taken}
use Rattle.ec_lawful.specs.FreshLaws.{GoesAnswered}
use Rattle.ec_lawful.proofs.ForAsked.Grows.{agree-within, answer-each, answer-fresh, each-agree, fresh-as, st}
use Rattle.ec_lawful.proofs.ForWhole.Goes.{not-both, taken-named}
use Rattle.ec_lawful.proofs.ForWhole.Quiet.{cut-front}
use Rattle.ec_base.proofs.Bools.{left as and_first, not-both as no_both, right as and_next, is-true}
use Rattle.ec_base.proofs.Numbers.{same-self as same, equal}
use Rattle.ec_history.proofs.OfLaws.ForPlacing.BasesAlike.{each-map}

-- no id in store is 0
pub stored-above : (g : System) → AllAgree g → ZerosAgree g → (c b x : ℕ) → Stored g c b x → 1 ≤ x
stored-above g all z c b x (inl (s, k, i, t)) = go x t
  where
    go : (y : ℕ) → T (member y k.ids) → 1 ≤ y
    go zero t = absurd (no_both (member 0 k.ids) t ((z.clerks c b k i.stands).ids))
    go (suc y) t = omega arith
stored-above g all z c b x (inr (s, k, i, t)) =
    above (g.ghost.first s) x (and_next (k.got + 1 == g.ghost.grants s) (in_sixteen (g.ghost.first s) x) t)
    (z.first s (some-given (g.ghost.grants s) k.got (equal (k.got + 1) (g.ghost.grants s) (is-true (k.got + 1 == g.ghost.grants s) (and_first (k.got + 1 == g.ghost.grants s) (in_sixteen (g.ghost.first s) x) t)))))
  where
    some-given : (n m : ℕ) → m + 1 ≡ n → suc zero ≤ n
    some-given n m e = omega (arith, e)

    low : (f y : ℕ) → T (in_sixteen f y) → f ≤ y
    low f y t = grind arith

    above : (f y : ℕ) → T (in_sixteen f y) → suc zero ≤ f → 1 ≤ y
    above f y t l = let u = low f y t in omega (arith, u, l)

later : (n p : ℕ) → p ≤ n → (p == n + 1) ≡ false
later n p le = grind arith

put-later : (n x p : ℕ) (t : Table ℕ) → p ≤ n → at_or 0 p (put (n + 1) x t) ≡ at_or 0 p t
put-later n x p t le = ap (or_else 0) (at-put p (n + 1) x t ∙ ap (λ z. cond z (Some x) (at p t)) (later n p le))

put-here : (n x : ℕ) (t : Table ℕ) → at_or 0 n (put n x t) ≡ x
put-here n x t = ap (or_else 0) (at-put n n x t ∙ ap (λ z. cond z (Some x) (at n t)) (same n))

module _ (g h : System) (c b l : ℕ) (cl : Call) (a : Answer) (op : Option ℕ) (x : ℕ) (all : AllAgree g) (now : AllAgree h) (na : NamesAgree g) (zeros : ZerosAgree g) (go : GoesAnswered g h c b l cl a op x) (fa : FreshAgrees g) where
  abbrev ss : List Shown
  ss = g.ghost.shown

  abbrev f : ℕ → ℕ
  f = (base_of g).fresh

  -- the ids with the one for the next line
  abbrev q : ℕ → ℕ
  q = λ p. at_or 0 p (put (length g.ghost.shown + 1) x g.ghost.fresh)

  abbrev p : ℕ
  p = length ss + 1

  abbrev more : List Shown
  more = ss ++ show.Answered l c cl a op ∷ []

  same-base : (base_of h).fresh ≡ q
  same-base = ap (λ t. λ (r : ℕ). at_or 0 r t) go.fresh

  agree : (r : ℕ) → r ≤ length ss → q r ≡ f r
  agree r le = put-later (length ss) x r g.ghost.fresh le

  its : q p ≡ x
  its = put-here (length ss + 1) x g.ghost.fresh

  start-is : g.running c ≡ Some b → st f q ss l c cl a op ≡ shown_boot g c b
  start-is runs = (all.0).events.starts c b runs

  lines-now : place h.ghost.shown ≡ place more
  lines-now = ap place go.shown

  old : AreFresh g.origin f g.durable.next_id ss
  old = fa.fronts ss [] (append-nil ss)

  -- an id in store
  stored-old : (d m y : ℕ) → Stored g d m y → Each (IsOfStart g d m y) (place ss)
  stored-old d m y t = subst (Each (IsOfStart g d m y)) (sym (all.0).events.placed) (fa.stored d m y t)

  -- Calls made nothing with the new id.

  none-zero : (e : ℕ × Entry) → IsGiven g.origin f g.durable.next_id e → OnCreate (λ r d m on. f r ≡ 0 → on ≡ None) e
  none-zero (r, entry.Call d m k begun call ans on) v = λ cr z. by on (λ t. let u = (v cr).2 t in absurd (omega (arith, u, z)))
    where
      by : (o : Option ℕ) → (T (is_some o) → ⊥) → o ≡ None
      by None n = refl
      by (Some i) n = absurd (n tt)
  none-zero (r, entry.Loss d m ns) v = tt

  of-made : (y : ℕ) (e : ℕ × Entry) → IsOfStart g c b y e → OnCreate (λ r d m on. f r ≡ y → on ≡ None) e
  of-made y (r, entry.Call d m k begun call ans on) v = λ cr z. (v cr z).2
  of-made y (r, entry.Loss d m ns) v = tt

  made : MadeNone f x (place ss)
  made = by go.own
    where
      by : (x ≡ 0) ⊎ ((g.running c ≡ Some b) × Taken g c b x) → MadeNone f x (place ss)
      by (inl z) = subst (λ y. MadeNone f y (place ss)) (sym z) (each-map (IsGiven g.origin f g.durable.next_id) (OnCreate (λ r d m on. f r ≡ 0 → on ≡ None)) none-zero (place ss) old.0)
      by (inr t) = each-map (IsOfStart g c b x) (OnCreate (λ r d m on. f r ≡ x → on ≡ None)) (of-made x) (place ss) (stored-old c b x (inl t.1))

  -- where an object is made with it, the entries that have it are of the start
  own-start : g.running c ≡ Some b → (e : ℕ × Entry) → IsOfStart g c b x e → OnCreate (λ r d m on. f r ≡ q p → same_start c (st f q ss l c cl a op) d m ≡ true) e
  own-start runs (r, entry.Call d m k begun call ans on) v = λ cr z.
      let w = v cr (z ∙ its) in
      ap (λ y. same_start c y d m) (start-is runs) ∙ ap (λ y. same_start c (shown_boot g c b) y m) w.0 ∙ ap (λ y. same_start c (shown_boot g c b) c y) w.1
      ∙ ap (λ y. Rattle.std.specs.Prelude.◌&&◌ y (shown_boot g c b == shown_boot g c b)) (same c) ∙ same (shown_boot g c b)
  own-start runs (r, entry.Loss d m ns) v = tt

  owned : creates cl ≡ true → T (is_some op) → Each (OnCreate (λ r d m on. f r ≡ q p → same_start c (st f q ss l c cl a op) d m ≡ true)) (place ss)
  owned cr t = by go.own
    where
      by : (x ≡ 0) ⊎ ((g.running c ≡ Some b) × Taken g c b x) → Each (OnCreate (λ r d m on. f r ≡ q p → same_start c (st f q ss l c cl a op) d m ≡ true)) (place ss)
      by (inl z) = absurd (let u = (go.spent cr t).0 in omega (arith, u, z))
      by (inr i) = each-map (IsOfStart g c b x) (OnCreate (λ r d m on. f r ≡ q p → same_start c (st f q ss l c cl a op) d m ≡ true)) (own-start i.0) (place ss) (stored-old c b x (inl i.1))

  fresh-more : Throughout (IsFresh q) [] (place more)
  fresh-more = answer-fresh f q ss l c cl a op agree (λ cr. subst (λ y. MadeNone f y (place ss)) (sym its) made) owned old.1

  -- Each id was given out.

  x-below : x < g.durable.next_id
  x-below = by go.own
    where
      by : (x ≡ 0) ⊎ ((g.running c ≡ Some b) × Taken g c b x) → x < g.durable.next_id
      by (inl z) = let n = zeros.next in omega (arith, z, n)
      by (inr t) = (taken-named g all na c b x t.1).0

  given-more : Each (IsGiven g.origin q g.durable.next_id) (place more)
  given-more = answer-each f q ss l c cl a op (λ r d m on. (q r < g.durable.next_id) × (g.origin (q r) ≡ Gone) × (T (is_some on) → 1 ≤ q r))
      (each-agree f q (λ y d m on. (y < g.durable.next_id) × (g.origin y ≡ Gone) × (T (is_some on) → 1 ≤ y)) (place ss) (agree-within f q (length ss) agree (place ss) (places-within ss)) old.0)
      (λ cr. subst (λ y. (y < g.durable.next_id) × (g.origin y ≡ Gone) × (T (is_some op) → 1 ≤ y)) (sym its) (x-below, go.gone, λ t. (go.spent cr t).0))

  -- Fronts.

  whole-now : AreFresh h.origin (base_of h).fresh h.durable.next_id more
  whole-now = subst (λ z. AreFresh h.origin z h.durable.next_id more) (sym same-base)
      (subst (λ v. AreFresh v q h.durable.next_id more) (sym go.origin) (subst (λ n. AreFresh g.origin q n more) (sym go.next) (given-more, fresh-more)))

  front-now : (front rest : List Shown) → front ++ rest ≡ ss → AreFresh h.origin (base_of h).fresh h.durable.next_id front
  front-now front rest e =
      let was = fa.fronts front rest e in
      let near = agree-within f q (length front) (λ r le. agree r (shorter front rest ss r e le)) (place front) (places-within front) in
      subst (λ z. AreFresh h.origin z h.durable.next_id front) (sym same-base)
      (subst (λ v. AreFresh v q h.durable.next_id front) (sym go.origin) (subst (λ n. AreFresh g.origin q n front) (sym go.next)
      (each-agree f q (λ y d m on. (y < g.durable.next_id) × (g.origin y ≡ Gone) × (T (is_some on) → 1 ≤ y)) (place front) near was.0, fresh-as f q [] (place front) tt near was.1)))
    where
      shorter : (xs ys zs : List Shown) (r : ℕ) → xs ++ ys ≡ zs → r ≤ length xs → r ≤ length zs
      shorter xs ys zs r e le = let n = sym (Rattle.std.proofs.Common.length-append xs ys) ∙ ap length e in omega (arith, n, le)

  fronts-now : (front rest : List Shown) → front ++ rest ≡ h.ghost.shown → AreFresh h.origin (base_of h).fresh h.durable.next_id front
  fronts-now front rest e = elim (cut-front front rest ss (show.Answered l c cl a op ∷ []) (e ∙ go.shown) (omega arith)) [
    | inl r ↦ front-now front r.0 r.1
    | inr z ↦ subst (λ y. AreFresh h.origin (base_of h).fresh h.durable.next_id y) (sym z) whole-now
  ]

  -- What is in store.

  was-stored : (d m y : ℕ) → Stored h d m y → Stored g d m y
  was-stored d m y (inl t) = inl (go.taken d m y t)
  was-stored d m y (inr t) = inr (go.hidden d m y t)

  -- the new entry is of the start that has its id
  new-of : (d m y : ℕ) → Stored h d m y → creates cl ≡ true → x ≡ y → (c ≡ d) × (st f q ss l c cl a op ≡ shown_boot g d m) × (op ≡ None)
  new-of d m y t cr e = by go.own
    where
      its-start : Taken g c b x → (c ≡ d) × (b ≡ m)
      its-start i = who t
        where
          who : Stored h d m y → (c ≡ d) × (b ≡ m)
          who (inl j) = fa.apart c b d m y (subst (Taken g c b) e i) (go.taken d m y j)
          who (inr j) = absurd (not-both g all na c b d m y (subst (Taken g c b) e i) (go.hidden d m y j))

      unspent : Taken g c b x → (o : Option ℕ) → op ≡ o → op ≡ None
      unspent i None z = z
      unspent i (Some n) z = absurd (left t)
        where
          left : Stored h d m y → ⊥
          left (inl j) = let w = its-start i in (go.spent cr (subst (λ o. T (is_some o)) (sym z) tt)).1 (subst (λ k. Taken h k b x) (sym w.0) (subst (λ k. Taken h d k x) (sym w.1) (subst (Taken h d m) (sym e) j)))
          left (inr j) = not-both g all na c b d m y (subst (Taken g c b) e i) (go.hidden d m y j)

      by : (x ≡ 0) ⊎ ((g.running c ≡ Some b) × Taken g c b x) → (c ≡ d) × (st f q ss l c cl a op ≡ shown_boot g d m) × (op ≡ None)
      by (inl z) = absurd (let u = stored-above g all zeros d m y (was-stored d m y t) in omega (arith, u, z, e))
      by (inr i) = let w = its-start i.1 in (w.0, start-is i.0 ∙ ap (λ z. z - g.first_boot c) w.1 ∙ ap (λ z. m - g.first_boot z) w.0, unspent i.1 op refl)

  stored-now : (d m y : ℕ) → Stored h d m y → Each (IsOfStart h d m y) h.ghost.history
  stored-now d m y t =
      subst (Each (IsOfStart h d m y)) (sym lines-now ∙ (now.0).events.placed)
      (subst (λ z. Each (OnCreate (λ r e i on. z r ≡ y → (e ≡ d) × (i ≡ shown_boot h d m) × (on ≡ None))) (place more)) (sym same-base)
      (subst (λ z. Each (OnCreate (λ r e i on. q r ≡ y → (e ≡ d) × (i ≡ m - z d) × (on ≡ None))) (place more)) (sym go.first_boot)
      (answer-each f q ss l c cl a op (λ r e i on. q r ≡ y → (e ≡ d) × (i ≡ shown_boot g d m) × (on ≡ None))
      (each-agree f q (λ z e i on. z ≡ y → (e ≡ d) × (i ≡ shown_boot g d m) × (on ≡ None)) (place ss) (agree-within f q (length ss) agree (place ss) (places-within ss)) (stored-old d m y (was-stored d m y t)))
      (λ cr z. let w = new-of d m y t cr (sym its ∙ z) in (w.0, w.1, w.2)))))

  pub answers-fresh : FreshAgrees h
  answers-fresh = record { stored = stored-now; apart = λ d m e i y t u. fa.apart d m e i y (go.taken d m y t) (go.taken e i y u); fronts = fronts-now }
