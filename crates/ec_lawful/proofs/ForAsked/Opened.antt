-- Before anything happened.
use Rattle.std.proofs.Common.{◌≡◌, refl, sym, ap, subst, ◌∙◌, arith, ◌<◌, ◌≤◌, ◌+◌, ◌-◌, ℕ, Bool, true, false, Option, Some, None}
use Rattle.std.specs.Prelude.{is_some, nat_lt}
use Rattle.ec_base.specs.Tables.{at}
use Rattle.ec_history.specs.History.{Each}
use Rattle.ec_protocol.specs.World.{boot}
use Rattle.ec_protocol.specs.declared.clerk.Clerk.{Clerk}
use Rattle.ec_protocol.specs.declared.world.World.{World}
use Rattle.ec_coherence.specs.System.{System}
use Rattle.ec_coherence.specs.Steps.{Stands, to_show}
use Rattle.ec_lawful.specs.Asked.{AsksAgree, EndsAsked, IsNoBye, ended_by, passed, seat, to_end, top}
use Rattle.ec_lawful.specs.AskedLaws.{IsFresh}

passed-first : (f b : ℕ) → f + 1 ≤ passed f b
passed-first f b = go (nat_lt f b) refl
  where
    above : (f b : ℕ) → nat_lt f b ≡ true → f + 1 ≤ b
    above f b q = grind arith

    go : (z : Bool) → nat_lt f b ≡ z → f + 1 ≤ elim z as (λ y. ℕ) [ true ↦ b | false ↦ f + 1 ]
    go true q = above f b q
    go false q = omega arith

module _ (w : World) (g : System) (st : Stands w g) (fresh : IsFresh g) where
  nobody : (c : ℕ) → at c w.clerks ≡ None
  nobody c = st.clerks c ∙ ap (λ o. elim o as (λ z. Option Clerk) [ None ↦ None | Some b ↦ g.clerks c b ]) (fresh.idle c)

  first-top : (c : ℕ) → top c w ≡ g.first_boot c + 1
  first-top c = ap (λ o. elim (is_some o) as (λ z. ℕ) [ true ↦ boot c w | false ↦ boot c w + 1 ]) (nobody c) ∙ ap (λ n. n + 1) (st.boots c ∙ fresh.boots c)

  pub opened-agrees : AsksAgree g.first_boot g
  opened-agrees = record {
    began = λ c. refl;
    stands = λ c b l m. absurd (both (g.first_boot c) (g.boots c) b (fresh.boots c) l m);
    silent = subst (λ ms. Each (λ m. IsNoBye m.1) ms) (sym fresh.pool) tt;
  }
    where
      both : (f n b : ℕ) → n ≡ f → f < b → b ≤ n → ⊥
      both f n b q l m = omega (arith, q, l, m)

  pub opened-asks : EndsAsked g.first_boot (λ c. 0) w
  opened-asks = record {
    within = λ c. none (ended_by c w.shown) (to_end c w.unshown) (top c w) (g.first_boot c) (passed (g.first_boot c) (seat c w.durable)) (ap (ended_by c) (st.shown ∙ fresh.shown)) (ap (to_end c) (st.unshown ∙ ap (to_show g.durable) fresh.unshown)) (first-top c)
        (passed-first (g.first_boot c) (seat c w.durable));
  }
    where
      none : (e u n f p : ℕ) → e ≡ 0 → u ≡ 0 → n ≡ f + 1 → f + 1 ≤ p → e + u + (n - p) ≤ 0
      none e u n f p q r s l = omega (arith, q, r, s, l)
