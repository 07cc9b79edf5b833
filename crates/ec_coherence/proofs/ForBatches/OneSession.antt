-- Of the operations that aren't durable, those with a common operand are of one session.
use Rattle.std.proofs.Common.{◌≡◌, sym, ap, ◌∙◌, inl, inr, arith, ℕ, Bool, true, not, T, ◌≤◌, List, [], ◌∷◌}
use Rattle.std.specs.Prelude.{◌==◌, Option, None, Some}
use Rattle.std.specs.List.{list_any}
use Rattle.std.proofs.lemmas.Bool.{cases_eq}
use Rattle.ec_base.specs.Tables.{at}
use Rattle.ec_base.specs.declared.ids.Hold.{Hold}
use Rattle.ec_base.specs.declared.ids.Hold.TheVariants.{Free, Read, Write}
use Rattle.ec_volume.specs.Update.{member, operands}
use Rattle.ec_volume.specs.declared.update.Update.{Update}
use Rattle.ec_order.specs.Order.{share, needs}
use Rattle.ec_history.specs.History.{Op}
use Rattle.ec_history.proofs.OfLaws.ForPlacing.Pulled.{needs-strangers}
use Rattle.ec_base.specs.Holds.{rank, clash, is_write}
use Rattle.ec_cache.specs.Cache.{last}
use Rattle.ec_cache.specs.declared.state.Held.{Held}
use Rattle.ec_protocol.specs.declared.clerk.Clerk.{Clerk}
use Rattle.ec_coherence.specs.System.{System, Eff, clerk_in, is_open}
use Rattle.ec_coherence.specs.Tokens.{side, side_in, view, eff, eff_hold, Below, IsWrite, TokensAgree}
use Rattle.ec_coherence.specs.Log.{HasWrites}
use Rattle.ec_coherence.proofs.ForServer.Lists.{or_else, each-at}
use Rattle.std.proofs.lemmas.Bool.{cases_Bool, true≢false}
use Rattle.ec_base.proofs.Bools.{or-right as or_next, or_first, is-true, holds-true as holds}

pub any-member : (p : ℕ → Bool) (xs : List ℕ) → T (list_any p xs) → (x : ℕ) × T (member x xs) × T (p x)
any-member p [] h = absurd h
any-member p (x ∷ xs) h = elim (or_else (p x) (list_any p xs) h) [
  | inl t ↦ (x, or_first (x == x) (member x xs) (holds (x == x) (same x)), t)
  | inr r ↦ let q = any-member p xs r in (q.0, or_next (q.0 == x) (member q.0 xs) q.1, q.2)
]
  where
    same : (k : ℕ) → (k == k) ≡ true
    same k = grind arith

pub needs-shares : (a b : Update) → T (needs a b) → T (share a b)
needs-shares a b n = elim (cases_Bool (share a b)) [ inl e ↦ holds (share a b) e | inr e ↦ absurd (true≢false (sym (is-true (needs a b) n) ∙ needs-strangers a b e)) ]

both-write : (a b : Hold) → 2 ≤ rank a → 2 ≤ rank b → T (not (clash a b)) → ⊥
both-write Write Write p q n = n
both-write Free b p q n = absurd (omega arith)
both-write Read b p q n = absurd (omega arith)
both-write Write Free p q n = absurd (omega arith)
both-write Write Read p q n = absurd (omega arith)

is-two : (h : Hold) → T (is_write h) → 2 ≤ rank h
is-two Write t = omega arith
is-two Free t = absurd t
is-two Read t = absurd t

module _ (g : System) (tokens : TokensAgree (view g)) where
  pub write-eff : (s x : ℕ) (k : Clerk) → clerk_in g s ≡ Some k → IsWrite (at x k.cache.held) → 2 ≤ rank (eff_hold (eff (view g) s x))
  write-eff s x k here w = go (at x k.cache.held) (eff (view g) s x) w (tokens.below s x (side k) (ap side_in here))
    where
      go : (o : Option Held) (f : Option Eff) → IsWrite o → Below k.epoch (last x k.cache) o f → 2 ≤ rank (eff_hold f)
      go None f w b = absurd w
      go (Some h) None w b = absurd b
      go (Some h) (Some f) w b = let p = is-two h.hold w in let q = b.0 in omega arith

  pub same-writer : (s t x : ℕ) (k m : Clerk) → clerk_in g s ≡ Some k → clerk_in g t ≡ Some m → T (is_open g s) → T (is_open g t) → IsWrite (at x k.cache.held) → IsWrite (at x m.cache.held) → s ≡ t
  same-writer s t x k m here there o p v w = elim (cases_eq s t) [
    | inl e ↦ e
    | inr d ↦ absurd (both-write (eff_hold (eff (view g) s x)) (eff_hold (eff (view g) t x)) (write-eff s x k here v) (write-eff t x m there w) (tokens.exclusive s t x d o p))
  ]

  pub one-session : (a b : Op) (ha : HasWrites g a) (hb : HasWrites g b) → T (share a.update b.update) → ha.session ≡ hb.session
  one-session a b ha hb sh =
      let q = any-member (λ o. member o (operands b.update)) (operands a.update) sh in
      same-writer ha.session hb.session q.0 ha.clerk hb.clerk ha.in_place hb.in_place ha.is_open hb.is_open
      (each-at (λ x. IsWrite (at x ha.clerk.cache.held)) q.0 (operands a.update) ha.writes q.1) (each-at (λ x. IsWrite (at x hb.clerk.cache.held)) q.0 (operands b.update) hb.writes q.2)
