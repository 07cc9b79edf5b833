-- A clerk claims what it holds.
use Rattle.std.proofs.Common.{◌≡◌, refl, sym, ap, subst, ◌∙◌, arith, ℕ, Bool, true, false, not, cond, T, ◌≤◌, [], ◌∷◌}
use Rattle.std.specs.Prelude.{◌==◌, Option, None, Some, map}
use Rattle.ec_base.specs.Tables.{Table, at, at_or, or_else, by_key}
use Rattle.ec_base.specs.declared.ids.Hold.{Hold}
use Rattle.ec_base.specs.declared.ids.Hold.TheVariants.{Free}
use Rattle.ec_history.specs.History.{Each}
use Rattle.ec_base.specs.Holds.{rank}
use Rattle.ec_wire.specs.declared.msg.Msg.TheVariants.{Claim}
use Rattle.ec_cache.specs.Cache as cache
use Rattle.ec_cache.specs.Cache.{last, mode, held_mode}
use Rattle.ec_cache.specs.declared.state.Held.{Held}
use Rattle.ec_protocol.specs.Clerk.{Doing, session, epoch, claim}
use Rattle.ec_coherence.specs.Clerks.{acting}
use Rattle.ec_coherence.specs.System.{Eff}
use Rattle.ec_coherence.specs.Tokens.{View, Side, side, eff, eff_hold, Names, Below, is_hidden, ClaimFits, TokensAgree}
use Rattle.ec_coherence.proofs.ForClerk.Acting.{is-in}
use Rattle.ec_coherence.proofs.ForClerk.Goes.{Goes, goes-send, passed-now}
use Rattle.ec_coherence.proofs.ForClerk.SendWant.{of-now, while-all}
use Rattle.ec_coherence.proofs.ForServer.Tables.{at-put, differs, by-session}
use Rattle.ec_base.proofs.Numbers.{same-self as same}
use Rattle.ec_base.proofs.Options.{none_some}
use Rattle.ec_coherence.proofs.ForClerk.CacheChange.{at-cons}

-- What is found in the list of a Claim.

at-keyed : {X : Type 0} (x : ℕ) (es : Table X) → at x (by_key es) ≡ at x es
at-keyed x [] = refl
at-keyed x (e ∷ es) = at-put x e.0 e.1 (by_key es) ∙ ap (cond (x == e.0) (Some e.1)) (at-keyed x es) ∙ sym (at-cons x e es)

abbrev mode_of : Option Held → Option Hold
mode_of None = None
mode_of (Some h) = Some h.hold

at-modes : (x : ℕ) (es : Table Held) → at x (map (λ e. (e.0, (e.1).hold)) es) ≡ mode_of (at x es)
at-modes x [] = refl
at-modes x (e ∷ es) = at-cons x (e.0, (e.1).hold) (map (λ e. (e.0, (e.1).hold)) es) ∙ ap (cond (x == e.0) (Some (e.1).hold)) (at-modes x es) ∙ go (x == e.0) ∙ ap mode_of (sym (at-cons x e es))
  where
    go : (b : Bool) → cond b (Some (e.1).hold) (mode_of (at x es)) ≡ mode_of (cond b (Some e.1) (at x es))
    go true = refl
    go false = refl

claimed-mode : (x : ℕ) (k : Rattle.ec_cache.specs.declared.state.CacheState.CacheState) → at_or Free x (cache.tokens k) ≡ mode x k
claimed-mode x k = ap (or_else Free) (at-keyed x (map (λ e. (e.0, (e.1).hold)) k.held) ∙ at-modes x k.held) ∙ go (at x k.held)
  where
    go : (o : Option Held) → or_else Free (mode_of o) ≡ held_mode o
    go None = refl
    go (Some h) = refl

-- a fact about what is found is one about each key
pub each-key : {X : Type 0} (P : ℕ → Type 0) (es : Table X) → ((x : ℕ) (v : X) → at x es ≡ Some v → P x) → Each (λ e. P e.0) es
each-key P [] f = tt
each-key P (e ∷ es) f = (f e.0 e.1 (at-cons e.0 e es ∙ ap (λ b. cond b (Some e.1) (at e.0 es)) (same e.0)), each-key P es (λ x v p. go x v p (x == e.0) refl))
  where
    go : (x : ℕ) (v : _) → at x es ≡ Some v → (b : Bool) → (x == e.0) ≡ b → P x
    go x v p true q = f x e.1 (at-cons x e es ∙ ap (λ b. cond b (Some e.1) (at x es)) q)
    go x v p false q = f x v (at-cons x e es ∙ ap (λ b. cond b (Some e.1) (at x es)) q ∙ p)

-- an object that is held is named
module _ (w : View) (s : ℕ) (k : Side) (agree : TokensAgree w) (was : w.clerk s ≡ Some k) (next : w.next_token ≤ w.next_id) (x : ℕ) (h : Held) (held : at x k.cache.held ≡ Some h) where
  some-below : (e l : ℕ) (f : Option Eff) → Below e l (Some h) f → (g : Eff) × (f ≡ Some g)
  some-below e l None b = absurd b
  some-below e l (Some g) b = (g, refl)

  its-eff : (g : Eff) × (eff w s x ≡ Some g)
  its-eff = some-below k.epoch (last x k.cache) (eff w s x) (subst (λ o. Below k.epoch (last x k.cache) o (eff w s x)) held (agree.below s x k was))

  shown : (t : ℕ) → T (is_hidden w t x) → ⊥
  shown t = by-session s t (λ t. T (is_hidden w t x) → ⊥)
      (λ z. none_some (sym ((agree.alone s x z).1 k was).0 ∙ held))
      (λ d z. none_some (sym ((agree.alone t x z).0 s (λ p. differs t s d (sym p))).0 ∙ its-eff.1))

  pub held-names : Names w x
  held-names = ((let a = (agree.known s x its-eff.0 its-eff.1).0 in omega arith), λ t. off (is_hidden w t x) (shown t))
    where
      off : (b : Bool) → (T b → ⊥) → T (not b)
      off true f = absurd (f tt)
      off false f = tt

held-below : (e l : ℕ) (o : Option Held) (f : Option Eff) → Below e l o f → rank (held_mode o) ≤ rank (eff_hold f)
held-below e l None f b = omega arith
held-below e l (Some h) None b = absurd b
held-below e l (Some h) (Some f) b = b.0

pub goes-claim : (w : View) (c s : ℕ) (d e : Doing) → w.next_token ≤ w.next_id → Goes w c s d e → Goes w c s d (claim e)
goes-claim w c s d e next g = goes-send w c s d e g (Claim (session e) (epoch e) (cache.tokens e.clerk.cache)) (
  passed-now w c s d e g,
  (λ a o. while-all w.tables _ (λ v n. of-now w c s d e g (ClaimFits (acting w c s e) (session e) (epoch e) (cache.tokens e.clerk.cache)) (
    refl,
    λ x. (
      subst (λ m. rank (mode x e.clerk.cache) ≤ rank m) (sym (claimed-mode x e.clerk.cache)) (omega arith),
      subst (λ m. rank m ≤ rank (eff_hold (eff (acting w c s e) (session e) x))) (sym (claimed-mode x e.clerk.cache))
          (subst (λ t. rank (mode x e.clerk.cache) ≤ rank (eff_hold (eff (acting w c s e) t x))) (sym own)
          (held-below e.clerk.epoch (last x e.clerk.cache) (at x e.clerk.cache.held) (eff (acting w c s e) s x) (g.agree.below s x (side e.clerk) (is-in w c s e)))),
    ),
  ))),
  each-key (Names (acting w c s e)) (cache.tokens e.clerk.cache) (λ x m p. named x (at x e.clerk.cache.held) refl (sym (at-keyed x (map (λ e. (e.0, (e.1).hold)) e.clerk.cache.held) ∙ at-modes x e.clerk.cache.held) ∙ p)),
)
  where
    own : session e ≡ s
    own = ap (or_else 0) g.session

    named : (x : ℕ) (o : Option Held) → at x e.clerk.cache.held ≡ o → {m : Hold} → mode_of (at x e.clerk.cache.held) ≡ Some m → Names (acting w c s e) x
    named x None q p = absurd (none_some (ap mode_of (sym q) ∙ p))
    named x (Some h) q p = held-names (acting w c s e) s (side e.clerk) g.agree (is-in w c s e) next x h q
