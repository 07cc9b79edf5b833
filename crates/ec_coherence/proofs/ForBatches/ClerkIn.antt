-- The clerk in a session changes, and goes on in it.
use Rattle.std.proofs.Common.{◌≡◌, ◌≢◌, refl, sym, ap, ◌∙◌, ℕ, Bool, true, false, ◌&&◌, T}
use Rattle.std.specs.Prelude.{◌==◌, Option, None, Some, is_some}
use Rattle.ec_base.specs.declared.ids.Age.{Age}
use Rattle.ec_protocol.specs.declared.clerk.Clerk.{Clerk}
use Rattle.ec_coherence.specs.System.{clerk_of, if_in, with_start}
use Rattle.ec_coherence.proofs.ForServer.Tables.{differ}
use Rattle.ec_protocol.specs.Clerk.{is_session}
use Rattle.ec_base.proofs.Numbers.{same-self as same, equal}
use Rattle.ec_base.proofs.Bools.{and-both as and_both, is-true}

module _ (c boot s : ℕ) (k : Clerk) (sk : k.session ≡ Some s) where
  pub in-it : if_in s (Some k) ≡ Some k
  in-it = ap (λ b. elim b as (λ z. Option Clerk) [ true ↦ Some k | false ↦ None ]) (ap (is_session s) sk ∙ same s)

  pub not-in-it : (t : ℕ) → t ≢ s → if_in t (Some k) ≡ None
  not-in-it t d = ap (λ b. elim b as (λ z. Option Clerk) [ true ↦ Some k | false ↦ None ]) (ap (is_session t) sk ∙ differ t s d)

-- it has an owner
pub owned : (s : ℕ) (o : Option (ℕ × Age)) (clerks : ℕ → ℕ → Option Clerk) (k : Clerk) → clerk_of s o clerks ≡ Some k → T (is_some o)
owned s None clerks k p = absurd (Rattle.ec_base.proofs.Options.none_some p)
owned s (Some o) clerks k p = tt

pub start-same : (c b : ℕ) (k : Clerk) (clerks : ℕ → ℕ → Option Clerk) → with_start c b k clerks c b ≡ Some k
start-same c b k clerks = ap (λ z. elim z as (λ z. Option Clerk) [ true ↦ Some k | false ↦ clerks c b ]) (is-true ((c == c) && (b == b)) (and_both (c == c) (b == b) (Rattle.ec_base.proofs.Bools.holds-true (c == c) (same c)) (Rattle.ec_base.proofs.Bools.holds-true (b == b) (same b))))

module _ (owner : ℕ → Option (ℕ × Age)) (clerks : ℕ → ℕ → Option Clerk) (c s : ℕ) (age : Age) (k m : Clerk) (is-owner : owner s ≡ Some (c, age)) (at-start : clerks c age.boot ≡ Some k) (sk : k.session ≡ Some s) (sm : m.session ≡ Some s) where
  pub was-in : clerk_of s (owner s) clerks ≡ Some k
  was-in = ap (λ o. clerk_of s o clerks) is-owner ∙ ap (if_in s) at-start ∙ in-it c age.boot s k sk

  pub now-in : clerk_of s (owner s) (with_start c age.boot m clerks) ≡ Some m
  now-in = ap (λ o. clerk_of s o (with_start c age.boot m clerks)) is-owner ∙ ap (if_in s) (start-same c age.boot m clerks) ∙ in-it c age.boot s m sm

  pub other-in : (t : ℕ) → t ≢ s → clerk_of t (owner t) (with_start c age.boot m clerks) ≡ clerk_of t (owner t) clerks
  other-in t d = go (owner t)
    where
      go : (o : Option (ℕ × Age)) → clerk_of t o (with_start c age.boot m clerks) ≡ clerk_of t o clerks
      go None = refl
      go (Some o) = inner ((o.0 == c) && ((o.1).boot == age.boot)) refl
        where
          inner : (b : Bool) → ((o.0 == c) && ((o.1).boot == age.boot)) ≡ b → if_in t (elim b as (λ z. Option Clerk) [ true ↦ Some m | false ↦ clerks o.0 (o.1).boot ]) ≡ if_in t (clerks o.0 (o.1).boot)
          inner false e = refl
          inner true e =
              let ec : o.0 ≡ c = equal o.0 c (is-true (o.0 == c) (Rattle.ec_base.proofs.Bools.left (o.0 == c) _ (Rattle.ec_base.proofs.Bools.holds-true _ e))) in
              let eb : (o.1).boot ≡ age.boot = equal (o.1).boot age.boot (is-true ((o.1).boot == age.boot) (Rattle.ec_base.proofs.Bools.right (o.0 == c) _ (Rattle.ec_base.proofs.Bools.holds-true _ e))) in
              not-in-it c age.boot s m sm t d ∙ sym (ap (if_in t) (ap (λ z. clerks z (o.1).boot) ec ∙ ap (clerks c) eb ∙ at-start) ∙ not-in-it c age.boot s k sk t d)
