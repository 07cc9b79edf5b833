-- What starts have in store behind a change of one of them, and behind a record.
use Rattle.std.proofs.Common.{◌≡◌, refl, sym, ap, subst, ◌∙◌, inl, inr, ◌⊎◌, arith, ◌≤◌, ◌+◌, ◌&&◌, ◌==◌, ℕ, Bool, true, false, T, List, [], ◌++◌, Option, None, Some}
use Rattle.std.proofs.lemmas.Bool.{and_parts}
use Rattle.ec_volume.specs.Update.{member}
use Rattle.ec_history.specs.declared.shown.Shown.{Shown}
use Rattle.ec_protocol.specs.Clerk.{Doing}
use Rattle.ec_protocol.specs.declared.clerk.Clerk.{Clerk}
use Rattle.ec_coherence.specs.System.{System, Ghost, with_start}
use Rattle.ec_coherence.specs.Steps.{doing_in}
use Rattle.ec_coherence.specs.Tokens.{in_sixteen, is_untaken, side}
use Rattle.ec_coherence.proofs.ForBatches.ClerkIn.{start-same}
use Rattle.ec_coherence.proofs.ForServer.Tables.{same_some}
use Rattle.ec_coherence.specs.CommitLaws.{AllAgree}
use Rattle.ec_lawful.specs.OfClerkSteps.Names.{NamesAgree}
use Rattle.ec_lawful.specs.OfClerkSteps.Moves.{IsStill}
use Rattle.ec_lawful.specs.FreshIds.{AreQuiet}
use Rattle.ec_lawful.specs.Fresh.{FreshAgrees, Hidden, IsIn, Taken}
use Rattle.ec_lawful.specs.FreshLaws.{HasOld, SameLines}
use Rattle.ec_lawful.proofs.ForWhole.Goes.{goes-fresh}
use Rattle.ec_base.proofs.Options.{none_some}
use Rattle.ec_base.proofs.Numbers.{equal}
use Rattle.ec_base.proofs.Bools.{right as and_next}

-- One start changes.
module _ (c b : ℕ) (now : Clerk) (g h : System) (clerks : h.clerks ≡ with_start c b now g.clerks) where
  -- it's this one, or it's in the session as before
  pub in-cases : (d a s : ℕ) (k : Clerk) → IsIn h d a s k → ((d ≡ c) × (a ≡ b) × (now ≡ k)) ⊎ IsIn g d a s k
  in-cases d a s k i = go ((d == c) && (a == b)) refl (sym (ap (λ f. f d a) clerks) ∙ i.stands)
    where
      go : (z : Bool) → ((d == c) && (a == b)) ≡ z → elim z as (λ y. Option Clerk) [ true ↦ Some now | false ↦ g.clerks d a ] ≡ Some k → ((d ≡ c) × (a ≡ b) × (now ≡ k)) ⊎ IsIn g d a s k
      go true e q = let two = and_parts (d == c) (a == b) e in inl (equal d c two.0, equal a b two.1, same_some q)
      go false e q = inr (record { stands = q; session = i.session })

  module _ (grants : h.ghost.grants ≡ g.ghost.grants) (first : h.ghost.first ≡ g.ghost.first) where
    pub same-untaken : (s x : ℕ) (k m : Clerk) → k.got ≡ m.got → T (is_untaken (h.ghost.grants s) (h.ghost.first s) (Some (side k)) x) → T (is_untaken (g.ghost.grants s) (g.ghost.first s) (Some (side m)) x)
    same-untaken s x k m e t = subst (λ n. T ((n + 1 == g.ghost.grants s) && in_sixteen (g.ghost.first s) x)) e (subst (λ f. T ((k.got + 1 == g.ghost.grants s) && in_sixteen (f s) x)) first (subst (λ f. T ((k.got + 1 == f s) && in_sixteen (h.ghost.first s) x)) grants t))

    pub hidden-other : (d a s x : ℕ) (k : Clerk) → IsIn g d a s k → T (is_untaken (h.ghost.grants s) (h.ghost.first s) (Some (side k)) x) → Hidden g d a x
    hidden-other d a s x k i t = (s, k, i, same-untaken s x k k refl t)

    module _ (placed : HasOld g c b now) where
      abbrev Old : ℕ → Type 0
      Old s = (k : Clerk) × IsIn g c b s k × (now.got ≡ k.got) × ((x : ℕ) → T (member x now.ids) → T (member x k.ids))

      abbrev None-left : ℕ → Type 0
      None-left s = (now.ids ≡ []) × ((x : ℕ) → T (is_untaken (g.ghost.grants s) (g.ghost.first s) (Some (side now)) x) → ⊥)

      own : (s : ℕ) → now.session ≡ Some s → Old s ⊎ None-left s
      own s q = elim placed [
        | inl i ↦ inl (i.0, record { stands = i.1; session = sym (i.2).0 ∙ q }, (i.2).1, (i.3))
        | inr n ↦ inr (n s q)
      ]

      at-own : (F : ℕ → ℕ → Type 0) (d a : ℕ) → d ≡ c → a ≡ b → F c b → F d a
      at-own F d a p q f = subst (λ y. F y a) (sym p) (subst (F c) (sym q) f)

      pub taken-was : (d a x : ℕ) → Taken h d a x → Taken g d a x
      taken-was d a x (s, k, i, t) = elim (in-cases d a s k i) [ inl e ↦ at-own (λ y z. Taken g y z x) d a e.0 e.1 (by (own s (ap (λ z. z.session) e.2 ∙ i.session)) (subst (λ z. T (member x z.ids)) (sym e.2) t)) | inr j ↦ (s, k, j, t) ]
        where
          by : Old s ⊎ None-left s → T (member x now.ids) → Taken g c b x
          by (inl o) m = (s, o.0, o.1, o.3 x m)
          by (inr n) m = absurd (subst (λ z. T (member x z)) n.0 m)

      pub hidden-was : (d a x : ℕ) → Hidden h d a x → Hidden g d a x
      hidden-was d a x (s, k, i, t) = elim (in-cases d a s k i) [
        | inl e ↦ at-own (λ y z. Hidden g y z x) d a e.0 e.1 (by (own s (ap (λ z. z.session) e.2 ∙ i.session)) (subst (λ z. T (is_untaken (h.ghost.grants s) (h.ghost.first s) (Some (side z)) x)) (sym e.2) t))
        | inr j ↦ hidden-other d a s x k j t
      ]
        where
          by : Old s ⊎ None-left s → T (is_untaken (h.ghost.grants s) (h.ghost.first s) (Some (side now)) x) → Hidden g c b x
          by (inl o) u = (s, o.0, o.1, same-untaken s x now o.0 o.2 u)
          by (inr n) u = absurd (n.1 x (same-untaken s x now now refl u))

-- Behind a change of one start that goes on with ids that it has, or is in no session.
pub start-fresh : (g h : System) → AllAgree g → AllAgree h → NamesAgree g → (ls : List Shown) → SameLines g h ls → (c b : ℕ) (now : Clerk) → h.clerks ≡ with_start c b now g.clerks → h.ghost.grants ≡ g.ghost.grants → h.ghost.first ≡ g.ghost.first
    → HasOld g c b now → FreshAgrees g → FreshAgrees h
start-fresh g h all after na ls l c b now clerks grants first placed fa = goes-fresh g h all after na ls (record {
  quiet = l.quiet;
  origin = l.origin;
  first_boot = l.first_boot;
  next = l.next;
  shown = l.shown;
  fresh = l.fresh;
  taken = λ d a x t. inl (taken-was c b now g h clerks grants first placed d a x t);
  hidden = λ d a x t. inl (hidden-was c b now g h clerks grants first placed d a x t);
}) fa

-- A step under way.
module _ (g : System) (c b : ℕ) (d e : Doing) (γ δ : Ghost) where
  abbrev here : System
  here = doing_in c b d γ g

  abbrev on : System
  on = doing_in c b e δ g

  pub twice : (now : Clerk) → with_start c b now g.clerks ≡ with_start c b now here.clerks
  twice now = λ j x y. point ((x == c) && (y == b)) x y j
    where
      point : (z : Bool) (x y : ℕ) → elim z as (λ o. Option Clerk) [ true ↦ Some now | false ↦ g.clerks x y ] ≡ elim z as (λ o. Option Clerk) [ true ↦ Some now | false ↦ elim z as (λ o. Option Clerk) [ true ↦ Some d.clerk | false ↦ g.clerks x y ] ]
      point true x y = refl
      point false x y = refl

  pub still-old : IsStill d.clerk e.clerk ⊎ (e.clerk.session ≡ None) → HasOld here c b e.clerk
  still-old (inl i) = inl (d.clerk, start-same c b d.clerk g.clerks, (i.0, i.1), λ x m. subst (λ z. T (member x z)) i.2 m)
  still-old (inr n) = inr (λ s q. absurd (none_some (sym n ∙ q)))

  pub step-fresh : AllAgree here → AllAgree on → NamesAgree here → (ls : List Shown) → AreQuiet ls → δ.shown ≡ γ.shown ++ ls → δ.fresh ≡ γ.fresh → δ.grants ≡ γ.grants → δ.first ≡ γ.first → IsStill d.clerk e.clerk ⊎ (e.clerk.session ≡ None) → FreshAgrees here → FreshAgrees on
  step-fresh all after na ls quiet shown fresh grants first placed fa =
      start-fresh here on all after na ls (record { quiet = quiet; origin = refl; first_boot = refl; next = omega arith; shown = shown; fresh = fresh }) c b e.clerk (twice e.clerk) grants first (still-old placed) fa

-- No clerk changes: a record is committed, and ids were perhaps given.
pub record-fresh : (g h : System) → AllAgree g → AllAgree h → NamesAgree g → (ls : List Shown) → SameLines g h ls → h.clerks ≡ g.clerks → ((s : ℕ) → ((h.ghost.grants s ≡ g.ghost.grants s) × (h.ghost.first s ≡ g.ghost.first s)) ⊎ (h.ghost.first s ≡ g.durable.next_id)) → FreshAgrees g → FreshAgrees h
record-fresh g h all after na ls l clerks given fa = goes-fresh g h all after na ls (record {
  quiet = l.quiet;
  origin = l.origin;
  first_boot = l.first_boot;
  next = l.next;
  shown = l.shown;
  fresh = l.fresh;
  taken = λ c b x (s, k, i, t). inl (s, k, was c b s k i, t);
  hidden = λ c b x (s, k, i, t). elim (given s) [
    | inl e ↦ inl (s, k, was c b s k i, subst (λ n. T ((k.got + 1 == g.ghost.grants s) && in_sixteen n x)) e.1 (subst (λ n. T ((k.got + 1 == n) && in_sixteen (h.ghost.first s) x)) e.0 t))
    | inr e ↦ inr (low (h.ghost.first s) x (g.durable.next_id) e (and_next (k.got + 1 == h.ghost.grants s) (in_sixteen (h.ghost.first s) x) t))
  ];
}) fa
  where
    was : (c b s : ℕ) (k : Clerk) → IsIn h c b s k → IsIn g c b s k
    was c b s k i = record { stands = sym (ap (λ f. f c b) clerks) ∙ i.stands; session = i.session }

    bottom : (f x : ℕ) → T (in_sixteen f x) → f ≤ x
    bottom f x t = grind arith

    low : (f x n : ℕ) → f ≡ n → T (in_sixteen f x) → n ≤ x
    low f x n e t = let u = bottom f x t in omega (arith, e, u)
