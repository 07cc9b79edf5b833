-- One recorded token changes, that of a session that has claimed.
use Rattle.std.proofs.Common.{◌≡◌, refl, sym, ap, subst, ◌∙◌, inl, arith, ℕ, Bool, true, false, ◌&&◌, cond, T, ◌≤◌, ◌<◌, List}
use Rattle.std.specs.Prelude.{◌==◌, Option, None, Some}
use Rattle.ec_base.specs.Tables.{at}
use Rattle.ec_base.specs.declared.ids.Hold.{Hold}
use Rattle.ec_volume.specs.Update.{member}
use Rattle.ec_history.specs.History.{Each}
use Rattle.std.proofs.lemmas.Bool.{and_parts}
use Rattle.ec_sessions.specs.OfTokens.Tokens as tokens
use Rattle.ec_sessions.specs.OfTokens.SoundTokens as sound_tokens
use Rattle.ec_sessions.specs.declared.tokens.token.Token.{Token}
use Rattle.ec_sessions.specs.declared.recall.want.Want as want
use Rattle.ec_cache.specs.Cache.{last}
use Rattle.ec_coherence.specs.System.{recorded}
use Rattle.ec_coherence.specs.Tokens.{Tables, View, Side, InSession, eff, Apart, Below, Names, is_hidden, NotedFits, Noted, TokensAgree, WantsAreDistinct}
use Rattle.ec_coherence.proofs.ForServer.Changed.{over, changed, Own, changed-agrees}
use Rattle.ec_coherence.proofs.ForServer.Tables.{each-map}
use Rattle.ec_coherence.proofs.ForServer.Was.{was-open, was-known, was-apart, was-below, was-live, was-alone}
use Rattle.ec_base.proofs.Numbers.{same-self as same, equal}
use Rattle.ec_base.proofs.Bools.{not-both as refutes}

-- What is to be seen of the new token o of s on x.
pub record One (w : View) (v : Tables) (ts : tokens.Tokens) (qs : List want.Want) (n s x : ℕ) (o : Option Token) : Type 0 where
  pub claimed : T (member s v.claimed)
  pub taken : T (w.taken s)
  pub shape : (t y : ℕ) → tokens.token ts t y ≡ cond ((t == s) && (y == x)) o (tokens.token v.tokens t y)
  pub sound : sound_tokens.IsSound ts
  pub apart : (t : ℕ) → (t == s) ≡ false → T (w.is_open t) → Apart (recorded o w.epoch) (eff (over v w) t x)
  pub known : (t : Token) → o ≡ Some t → (x < w.next_token) × (t.number ≤ n)
  pub below : InSession w s (λ k. Below k.epoch (last x k.cache) (at x k.cache.held) (recorded o w.epoch))
  pub live : (e m : ℕ) (h : Hold) → InSession w s (λ k. e ≡ k.epoch → last x k.cache < m → recorded (tokens.token v.tokens s x) w.epoch ≡ Some (record { hold = h; number = m; epoch = e })
      → recorded o w.epoch ≡ Some (record { hold = h; number = m; epoch = e }))
  pub names : Names w x
  pub number : v.number ≤ n
  pub wants : Each (λ q. Noted (over v w) v q × (q.session ≡ s → q.obj ≡ x → InSession w s (λ k. NotedFits q.hold o (at x k.cache.held) (last x k.cache)))) qs
  pub distinct : WantsAreDistinct qs

module _ (w : View) (v : Tables) (ts : tokens.Tokens) (qs : List want.Want) (n s x : ℕ) (o : Option Token) (agree : TokensAgree (over v w)) (one : One w v ts qs n s x o) where
  shape-s : (y : ℕ) → tokens.token ts s y ≡ cond (y == x) o (tokens.token v.tokens s y)
  shape-s y = one.shape s y ∙ ap (λ b. cond (b && (y == x)) o (tokens.token v.tokens s y)) (same s)

  only : (t y : ℕ) → (t == s) ≡ false → tokens.token ts t y ≡ tokens.token v.tokens t y
  only t y d = one.shape t y ∙ ap (λ b. cond (b && (y == x)) o (tokens.token v.tokens t y)) d

  own-at : (P : ℕ → Option Token → Type 0) → P x o → ((y : ℕ) → P y (tokens.token v.tokens s y)) → (y : ℕ) → P y (tokens.token ts s y)
  own-at P a b y = subst (P y) (sym (shape-s y)) (go (y == x) refl)
    where
      go : (c : Bool) → (y == x) ≡ c → P y (cond c o (tokens.token v.tokens s y))
      go true e = subst (λ z. P z o) (sym (equal y x e)) a
      go false e = b y

  noted : (q : want.Want) → Noted (over v w) v q × (q.session ≡ s → q.obj ≡ x → InSession w s (λ k. NotedFits q.hold o (at x k.cache.held) (last x k.cache)))
      → Noted (over (changed ts qs v.claimed n v.recorded) w) (changed ts qs v.claimed n v.recorded) q
  noted q f = (f.0.0, f.0.1, f.0.2, f.0.3, λ k i. subst (λ z. NotedFits q.hold z (at q.obj k.cache.held) (last q.obj k.cache)) (sym (one.shape q.session q.obj)) (go k i ((q.session == s) && (q.obj == x)) refl))
    where
      left : ((q.session == s) && (q.obj == x)) ≡ true → q.session ≡ s
      left e = equal q.session s (and_parts (q.session == s) (q.obj == x) e).0

      right : ((q.session == s) && (q.obj == x)) ≡ true → q.obj ≡ x
      right e = equal q.obj x (and_parts (q.session == s) (q.obj == x) e).1

      go : (k : Side) → w.clerk q.session ≡ Some k → (b : Bool) → ((q.session == s) && (q.obj == x)) ≡ b → NotedFits q.hold (cond b o (tokens.token v.tokens q.session q.obj)) (at q.obj k.cache.held) (last q.obj k.cache)
      go k i true e = subst (λ y. NotedFits q.hold o (at y k.cache.held) (last y k.cache)) (sym (right e)) (f.1 (left e) (right e) k (subst (λ t. w.clerk t ≡ Some k) (left e) i))
      go k i false e = f.0.4 k i

  own : Own w v ts qs v.claimed n v.recorded s
  own = record {
    claimed = one.claimed;
    stay = λ t d. refl;
    is_open = was-open w v s agree one.claimed;
    taken = one.taken;
    epoch = agree.tables.epochs s one.claimed;
    only = only;
    sound = one.sound;
    apart = λ t y d p. own-at (λ y z. Apart (recorded z w.epoch) (eff (over v w) t y)) (one.apart t d p) (λ y. was-apart w v s agree one.claimed t y d p) y;
    known = own-at (λ y z. (t : Token) → z ≡ Some t → (y < w.next_token) × T (w.taken s) × (t.number ≤ n)) (λ t p. let q = one.known t p in (q.0, one.taken, q.1))
        (λ y t p. let q = was-known w v s agree one.claimed y t p in (q.0, q.1, let a = q.2 in let b = one.number in omega arith));
    below = own-at (λ y z. InSession w s (λ k. Below k.epoch (last y k.cache) (at y k.cache.held) (recorded z w.epoch))) one.below (λ y. was-below w v s agree one.claimed y);
    live = own-at (λ y z. (e m : ℕ) (h : Hold) → InSession w s (λ k. e ≡ k.epoch → last y k.cache < m → eff (over v w) s y ≡ Some (record { hold = h; number = m; epoch = e }) → recorded z w.epoch ≡ Some (record { hold = h; number = m; epoch = e })))
        (λ e m h k i a l p. one.live e m h k i a l (was-live w v s agree one.claimed x e m h p)) (λ y e m h k i a l p. was-live w v s agree one.claimed y e m h p);
    alone = λ t y d. own-at (λ y z. T (is_hidden w t y) → z ≡ None) (λ h. absurd (refutes (is_hidden w t x) h (one.names.1 t))) (λ y h. was-alone w v s agree one.claimed t y d h) y;
    number = one.number;
    grown = λ t g. g;
    wants = each-map _ (Noted (over (changed ts qs v.claimed n v.recorded) w) (changed ts qs v.claimed n v.recorded)) qs noted one.wants;
    distinct = one.distinct;
    recorded = λ t m p. inl p;
    unrecorded = λ y r. own-at (λ y z. T (is_hidden w s y) → z ≡ None) (λ h. absurd (refutes (is_hidden w s x) h (one.names.1 s))) (λ y h. agree.tables.unrecorded s y one.claimed r h) y;
  }

  pub one-agrees : TokensAgree (over (changed ts qs v.claimed n v.recorded) w)
  one-agrees = changed-agrees w v ts qs v.claimed n v.recorded s agree own
