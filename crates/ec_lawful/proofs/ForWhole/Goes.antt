-- The facts on fresh ids behind a step that answers nothing.
use Rattle.std.proofs.Common.{◌≡◌, sym, ap, subst, ◌∙◌, inl, inr, ◌⊎◌, arith, ◌<◌, ◌≤◌, ◌+◌, ◌==◌, ℕ, suc, zero, true, false, T, List, [], ◌++◌, Option, None, Some, append-nil}
use Rattle.ec_base.specs.Tables.{at_or}
use Rattle.ec_history.specs.History.{Each}
use Rattle.ec_history.specs.Placing.{place}
use Rattle.ec_history.specs.declared.entry.Entry.{Entry}
use Rattle.ec_history.specs.declared.entry.Entry.TheVariants as entry
use Rattle.ec_history.specs.declared.shown.Shown.{Shown}
use Rattle.ec_protocol.specs.declared.clerk.Clerk.{Clerk}
use Rattle.ec_coherence.specs.System.{System, base_of, clerk_in, clerk_of}
use Rattle.ec_coherence.specs.Tokens.{Names, in_sixteen, is_hidden, is_untaken, side, side_in, view}
use Rattle.ec_coherence.specs.Events.{shown_boot}
use Rattle.ec_coherence.proofs.ForServer.Lists.{each-at}
use Rattle.ec_coherence.proofs.ForServer.Tables.{same_some}
use Rattle.ec_coherence.specs.CommitLaws.{AllAgree}
use Rattle.ec_lawful.specs.OfClerkSteps.Names.{NamesAgree}
use Rattle.ec_lawful.specs.FreshIds.{IsGiven, OnCreate}
use Rattle.ec_lawful.specs.Fresh.{AreFresh, FreshAgrees, Hidden, IsIn, IsOfStart, Stored, Taken}
use Rattle.ec_lawful.specs.FreshLaws.{GoesQuiet}
use Rattle.ec_lawful.proofs.ForWhole.Quiet.{cut-front, quiet-each, quiet-few, quiet-fresh}
use Rattle.ec_base.proofs.Bools.{left as and_first, not-both as no_both, right as and_next}
use Rattle.ec_history.proofs.OfLaws.ForPlacing.BasesAlike.{each-map}

-- Where starts are.

module _ (g : System) (all : AllAgree g) where
  -- one in a session owns it
  pub owns : (c b s : ℕ) (k : Clerk) → IsIn g c b s k → g.ghost.owner s ≡ Some (c, k.age)
  owns c b s k i = ((all.0).sessions.in_session c b s k i.stands i.session).0

  boot-of : (c b s : ℕ) (k : Clerk) → IsIn g c b s k → k.age.boot ≡ b
  boot-of c b s k i = ((all.0).sessions.starts c b k i.stands).1

  -- no other one is in it
  pub one-start : (c b d a s : ℕ) (k m : Clerk) → IsIn g c b s k → IsIn g d a s m → (c ≡ d) × (b ≡ a)
  one-start c b d a s k m i j =
      let q = same_some (sym (owns c b s k i) ∙ owns d a s m j) in
      (ap (λ z. z.0) q, sym (boot-of c b s k i) ∙ ap (λ z. z.1.boot) q ∙ boot-of d a s m j)

  pub in-it : (c b s : ℕ) (k : Clerk) → IsIn g c b s k → clerk_in g s ≡ Some k
  in-it c b s k i =
      ap (λ o. clerk_of s o g.clerks) (owns c b s k i)
      ∙ ap (λ a. clerk_of s (Some (c, record (k.age) { boot = a })) g.clerks) (boot-of c b s k i)
      ∙ ap (λ o. Rattle.ec_coherence.specs.System.if_in s o) i.stands
      ∙ ap (λ o. elim (Rattle.ec_protocol.specs.Clerk.is_session s o) as (λ z. Option Clerk) [ true ↦ Some k | false ↦ None ]) i.session
      ∙ ap (λ z. elim z as (λ z. Option Clerk) [ true ↦ Some k | false ↦ None ]) (Rattle.ec_base.proofs.Numbers.same-self s)

  pub hidden-in : (c b s x : ℕ) (k : Clerk) → IsIn g c b s k → T (is_untaken (g.ghost.grants s) (g.ghost.first s) (Some (side k)) x) → T (is_hidden (view g) s x)
  hidden-in c b s x k i t = subst (λ o. T (is_untaken (g.ghost.grants s) (g.ghost.first s) (side_in o) x)) (sym (in-it c b s k i)) t

  -- ids that it has taken are named
  pub taken-named : NamesAgree g → (c b x : ℕ) → Taken g c b x → Names (view g) x
  taken-named na c b x (s, k, i, t) = each-at (Names (view g)) x k.ids (na.ids s k (in-it c b s k i)) t

  -- and hidden from nobody
  pub not-both : NamesAgree g → (c b d a x : ℕ) → Taken g c b x → Hidden g d a x → ⊥
  not-both na c b d a x t (s, k, i, u) = no_both (is_hidden (view g) s x) (hidden-in d a s x k i u) ((taken-named na c b x t).1 s)

  -- an id is hidden from one start
  pub hidden-one : (c b d a x : ℕ) → Hidden g c b x → Hidden g d a x → (c ≡ d) × (b ≡ a)
  hidden-one c b d a x (s, k, i, t) (r, m, j, u) = elim (Rattle.std.proofs.lemmas.Bool.cases_eq r s) [
    | inl e ↦ one-start c b d a s k m i (subst (λ z. IsIn g d a z m) e j)
    | inr n ↦ absurd (no_both (is_hidden (view g) r x) (hidden-in d a r x m j u) (((all.0).tokens.alone s x (hidden-in c b s x k i t)).0 r n).1)
  ]

  -- an id in store was given out
  pub stored-below : NamesAgree g → (c b x : ℕ) → Stored g c b x → x < g.durable.next_id
  stored-below na c b x (inl t) = (taken-named na c b x t).0
  stored-below na c b x (inr (s, k, i, t)) =
      let given = (all.0).tokens.given s (some-given (g.ghost.grants s) k.got (Rattle.ec_base.proofs.Numbers.equal (k.got + 1) (g.ghost.grants s) (Rattle.ec_base.proofs.Bools.is-true (k.got + 1 == g.ghost.grants s) (and_first (k.got + 1 == g.ghost.grants s) (in_sixteen (g.ghost.first s) x) t)))) in
      below (g.ghost.first s) x g.durable.next_id (and_next (k.got + 1 == g.ghost.grants s) (in_sixteen (g.ghost.first s) x) t) given.0
    where
      some-given : (n m : ℕ) → m + 1 ≡ n → suc zero ≤ n
      some-given n m e = omega (arith, e)

      top : (f x : ℕ) → T (in_sixteen f x) → x < f + 16
      top f x t = grind arith

      below : (f x n : ℕ) → T (in_sixteen f x) → f + 16 ≤ n → x < n
      below f x n t l = let u = top f x t in omega (arith, u, l)

-- A step that answers nothing.

module _ (g h : System) (all : AllAgree g) (now : AllAgree h) (na : NamesAgree g) (ls : List Shown) (go : GoesQuiet g h ls) (fa : FreshAgrees g) where
  abbrev f : ℕ → ℕ
  f = (base_of g).fresh

  same-base : (base_of h).fresh ≡ f
  same-base = ap (λ t. λ (p : ℕ). at_or 0 p t) go.fresh

  lines-now : place h.ghost.shown ≡ place (g.ghost.shown ++ ls)
  lines-now = ap place go.shown

  -- what is so of all entries of calls
  each-now : (P : ℕ → ℕ → ℕ → Option ℕ → Type 0) → Each (OnCreate P) g.ghost.history → Each (OnCreate P) h.ghost.history
  each-now P e = subst (Each (OnCreate P)) (sym lines-now ∙ (now.0).events.placed) (quiet-each P g.ghost.shown ls go.quiet (subst (Each (OnCreate P)) (sym (all.0).events.placed) e))

  -- entries are of the same starts
  of-start-now : (c b x : ℕ) → Each (IsOfStart g c b x) g.ghost.history → Each (IsOfStart h c b x) h.ghost.history
  of-start-now c b x e =
      subst (λ q. Each (OnCreate (λ p d a op. q p ≡ x → (d ≡ c) × (a ≡ shown_boot h c b) × (op ≡ None))) h.ghost.history) (sym same-base)
      (subst (λ y. Each (OnCreate (λ p d a op. f p ≡ x → (d ≡ c) × (a ≡ y) × (op ≡ None))) h.ghost.history) (sym (ap (λ z. Rattle.std.specs.Prelude.◌-◌ b (z c)) go.first_boot))
      (each-now (λ p d a op. f p ≡ x → (d ≡ c) × (a ≡ shown_boot g c b) × (op ≡ None)) e))

  -- ids that come since are at no place
  later-of-start : (c b x : ℕ) → g.durable.next_id ≤ x → Each (IsOfStart g c b x) g.ghost.history
  later-of-start c b x l = subst (Each (IsOfStart g c b x)) (all.0).events.placed (each-map (IsGiven g.origin f g.durable.next_id) (IsOfStart g c b x) one (place g.ghost.shown) (fa.fronts g.ghost.shown [] (append-nil g.ghost.shown)).0)
    where
      one : (e : ℕ × Entry) → IsGiven g.origin f g.durable.next_id e → IsOfStart g c b x e
      one (p, entry.Call d a k begun cl r op) v = λ cr q. absurd (let m = (v cr).0 in omega (arith, l, m, q))
      one (p, entry.Loss d a ns) v = tt

  was-stored : (c b x : ℕ) → Stored h c b x → Stored g c b x ⊎ (g.durable.next_id ≤ x)
  was-stored c b x (inl t) = inl (go.taken c b x t)
  was-stored c b x (inr t) = elim (go.hidden c b x t) [ inl u ↦ inl (inr u) | inr l ↦ inr l ]

  stored-now : (c b x : ℕ) → Stored h c b x → Each (IsOfStart h c b x) h.ghost.history
  stored-now c b x s = of-start-now c b x (elim (was-stored c b x s) [ inl t ↦ fa.stored c b x t | inr l ↦ later-of-start c b x l ])

  apart-now : (c b d a x : ℕ) → Taken h c b x → Taken h d a x → (c ≡ d) × (b ≡ a)
  apart-now c b d a x t u = by (go.taken c b x t) (go.taken d a x u)
    where
      by : Stored g c b x → Stored g d a x → (c ≡ d) × (b ≡ a)
      by (inl i) (inl j) = fa.apart c b d a x i j
      by (inl i) (inr j) = absurd (not-both g all na c b d a x i j)
      by (inr i) (inl j) = absurd (not-both g all na d a c b x j i)
      by (inr i) (inr j) = hidden-one g all c b d a x i j

  -- Fronts.

  given-on : (e : ℕ × Entry) → IsGiven g.origin f g.durable.next_id e → IsGiven g.origin f h.durable.next_id e
  given-on (p, entry.Call d a k begun cl r op) v = λ cr. let m = v cr in (let n = m.0 in let l = go.next in omega (arith, n, l), m.1, m.2)
  given-on (p, entry.Loss d a ns) v = tt

  front-on : (front : List Shown) → AreFresh g.origin f g.durable.next_id front → AreFresh h.origin (base_of h).fresh h.durable.next_id front
  front-on front a =
      subst (λ q. AreFresh h.origin q h.durable.next_id front) (sym same-base)
      (subst (λ v. AreFresh v f h.durable.next_id front) (sym go.origin) (each-map (IsGiven g.origin f g.durable.next_id) (IsGiven g.origin f h.durable.next_id) given-on (place front) a.0, a.1))

  whole-on : AreFresh g.origin f g.durable.next_id (g.ghost.shown ++ ls)
  whole-on = let a = fa.fronts g.ghost.shown [] (append-nil g.ghost.shown) in
      (quiet-each (λ p c b op. (f p < g.durable.next_id) × (g.origin (f p) ≡ Rattle.ec_volume.specs.declared.image.Image.TheVariants.Gone) × (T (Rattle.std.specs.Prelude.is_some op) → 1 ≤ f p)) g.ghost.shown ls go.quiet a.0, quiet-fresh f g.ghost.shown ls go.quiet a.1)

  fronts-now : (front rest : List Shown) → front ++ rest ≡ h.ghost.shown → AreFresh h.origin (base_of h).fresh h.durable.next_id front
  fronts-now front rest e = elim (cut-front front rest g.ghost.shown ls (e ∙ go.shown) (quiet-few ls go.quiet)) [
    | inl r ↦ front-on front (fa.fronts front r.0 r.1)
    | inr q ↦ front-on front (subst (AreFresh g.origin f g.durable.next_id) (sym q) whole-on)
  ]

  pub goes-fresh : FreshAgrees h
  goes-fresh = record { stored = stored-now; apart = apart-now; fronts = fronts-now }
