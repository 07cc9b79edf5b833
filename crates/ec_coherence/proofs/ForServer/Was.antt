-- A session that has claimed: what holds of its recorded tokens.
use Rattle.std.proofs.Common.{◌≡◌, ◌≢◌, refl, sym, ap, subst, ◌∙◌, ℕ, false, T, ◌≤◌, ◌<◌}
use Rattle.std.specs.Prelude.{◌==◌, Option, None, Some}
use Rattle.ec_base.specs.Tables.{at}
use Rattle.ec_base.specs.declared.ids.Hold.{Hold}
use Rattle.ec_volume.specs.Update.{member}
use Rattle.ec_sessions.specs.OfTokens.Tokens as tokens
use Rattle.ec_sessions.specs.declared.tokens.token.Token.{Token}
use Rattle.ec_cache.specs.Cache.{last}
use Rattle.ec_coherence.specs.System.{Eff, recorded, eff_from}
use Rattle.ec_coherence.specs.Tokens.{Tables, View, InSession, eff, Apart, Below, is_hidden, TokensAgree}
use Rattle.ec_coherence.proofs.ForServer.Changed.{over}
use Rattle.ec_coherence.proofs.ForServer.Tables.{differs}
use Rattle.ec_base.proofs.Bools.{is-true}

pub none-recorded : (o : Option Token) (e : ℕ) → recorded o e ≡ None → o ≡ None
none-recorded None e p = refl
none-recorded (Some t) e p = absurd (cc)

pub some-recorded : (o : Option Token) (e : ℕ) (f : Eff) → recorded o e ≡ Some f → (t : Token) × (o ≡ Some t) × (t.hold ≡ f.hold) × (t.number ≡ f.number) × (e ≡ f.epoch)
some-recorded None e f p = absurd (cc)
some-recorded (Some t) e f p = (t, refl, cc, cc, cc)

module _ (w : View) (v : Tables) (s : ℕ) (agree : TokensAgree (over v w)) (claimed : T (member s v.claimed)) where
  pub eff-is : (x : ℕ) → eff (over v w) s x ≡ recorded (tokens.token v.tokens s x) w.epoch
  eff-is x = ap (λ b. eff_from b (tokens.token v.tokens s x) w.epoch (w.old s x)) (is-true (member s v.claimed) claimed)

  pub was-open : T (w.is_open s)
  was-open = agree.tables.are_open s claimed

  pub was-known : (x : ℕ) (t : Token) → tokens.token v.tokens s x ≡ Some t → (x < w.next_token) × T (w.taken s) × (t.number ≤ v.number)
  was-known x t p =
      let q = agree.known s x (record { hold = t.hold; number = t.number; epoch = w.epoch }) (eff-is x ∙ ap (λ o. recorded o w.epoch) p) in
      (q.0, q.1, agree.tables.numbers s x t p)

  pub was-apart : (t x : ℕ) → (t == s) ≡ false → T (w.is_open t) → Apart (recorded (tokens.token v.tokens s x) w.epoch) (eff (over v w) t x)
  was-apart t x d o = subst (λ f. Apart f (eff (over v w) t x)) (eff-is x) (agree.exclusive s t x (λ p. differs t s d (sym p)) was-open o)

  pub was-below : (x : ℕ) → InSession w s (λ k. Below k.epoch (last x k.cache) (at x k.cache.held) (recorded (tokens.token v.tokens s x) w.epoch))
  was-below x k i = subst (Below k.epoch (last x k.cache) (at x k.cache.held)) (eff-is x) (agree.below s x k i)

  pub was-live : (x e m : ℕ) (h : Hold) → eff (over v w) s x ≡ Some (record { hold = h; number = m; epoch = e }) → recorded (tokens.token v.tokens s x) w.epoch ≡ Some (record { hold = h; number = m; epoch = e })
  was-live x e m h p = sym (eff-is x) ∙ p

  pub was-alone : (t x : ℕ) → s ≢ t → T (is_hidden w t x) → tokens.token v.tokens s x ≡ None
  was-alone t x d h = none-recorded (tokens.token v.tokens s x) w.epoch (sym (eff-is x) ∙ ((agree.alone t x h).0 s d).0)
