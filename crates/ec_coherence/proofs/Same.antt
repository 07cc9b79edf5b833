-- The facts on tokens don't read a clerk's log: they stay where it changes alone, and where a message is sent of which they hold.
use Rattle.std.proofs.Common.{◌≡◌, refl, sym, ap, subst, ◌∙◌, ℕ, Bool, true, false, ◌==◌, ◌&&◌, List, [], ◌∷◌, ◌++◌, Option, Some, None, append-nil}
use Rattle.std.proofs.lemmas.Bool.{and_parts}
use Rattle.ec_base.specs.declared.ids.Age.{Age}
use Rattle.ec_wire.specs.declared.msg.Msg.{Msg}
use Rattle.ec_protocol.specs.declared.clerk.Clerk.{Clerk}
use Rattle.ec_coherence.specs.System.{System, clerk_of, if_in, with_start}
use Rattle.ec_coherence.specs.Tokens.{Fits, TokensAgree, side, side_in, view}
use Rattle.ec_coherence.specs.ChangeLaws.{Calls, IsInIt, with_clerk}
use Rattle.ec_coherence.proofs.ForClerk.Sends.{sent-agrees}
use Rattle.ec_protocol.specs.Clerk.{is_session}
use Rattle.ec_base.proofs.Numbers.{equal}

module _ (g : System) (c s : ℕ) (age : Age) (k now : Clerk) (in-it : IsInIt g c s age k) (same_session : now.session ≡ k.session) (same_side : side now ≡ side k) (calls : Calls) where
  one-side : (t : ℕ) → side_in (if_in t (Some now)) ≡ side_in (if_in t (Some k))
  one-side t = ap (λ o. side_in (elim (is_session t o) as (λ z. Option Clerk) [ true ↦ Some now | false ↦ None ])) same_session ∙ go (is_session t k.session)
    where
      go : (z : Bool) → side_in (elim z as (λ z. Option Clerk) [ true ↦ Some now | false ↦ None ]) ≡ side_in (elim z as (λ z. Option Clerk) [ true ↦ Some k | false ↦ None ])
      go true = ap Some same_side
      go false = refl

  same-sides : (t : ℕ) → side_in (clerk_of t (g.ghost.owner t) (with_start c age.boot now g.clerks)) ≡ side_in (clerk_of t (g.ghost.owner t) g.clerks)
  same-sides t = by (g.ghost.owner t)
    where
      by : (o : Option (ℕ × Age)) → side_in (clerk_of t o (with_start c age.boot now g.clerks)) ≡ side_in (clerk_of t o g.clerks)
      by None = refl
      by (Some o) = go ((o.0 == c) && ((o.1).boot == age.boot)) refl
        where
          go : (z : Bool) → ((o.0 == c) && ((o.1).boot == age.boot)) ≡ z → side_in (if_in t (elim z as (λ y. Option Clerk) [ true ↦ Some now | false ↦ g.clerks o.0 (o.1).boot ])) ≡ side_in (if_in t (g.clerks o.0 (o.1).boot))
          go true e = let two = and_parts (o.0 == c) ((o.1).boot == age.boot) e in
              one-side t ∙ sym (ap (λ m. side_in (if_in t m)) (ap (λ z. g.clerks z (o.1).boot) (equal o.0 c two.0) ∙ ap (g.clerks c) (equal (o.1).boot age.boot two.1) ∙ (in-it.start).stands))
          go false e = refl

  pub view-with : (ms : List (ℕ × Msg)) → view (with_clerk g c age.boot now calls ms) ≡ record (view g) { pool = g.pool ++ ms }
  view-with ms = λ j. record (view g) { clerk = λ t. same-sides t j; pool = g.pool ++ ms }

  pub silent-tokens : TokensAgree (view g) → TokensAgree (view (with_clerk g c age.boot now calls []))
  silent-tokens agree = subst TokensAgree (sym (view-with [] ∙ ap (λ p. record (view g) { pool = p }) (append-nil g.pool))) agree

  pub sent-tokens : (m : Msg) → TokensAgree (view g) → Fits (view g) m → TokensAgree (view (with_clerk g c age.boot now calls ((c, m) ∷ [])))
  sent-tokens m agree f = subst TokensAgree (sym (view-with ((c, m) ∷ []))) (sent-agrees (view g) c m agree f)
