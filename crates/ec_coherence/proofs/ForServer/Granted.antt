-- The server grants a want: the token is recorded and sent.
use Rattle.std.proofs.Common.{◌≡◌, refl, sym, ap, subst, ◌∙◌, inl, arith, ℕ, Bool, true, false, not, ◌&&◌, cond, T, ◌<◌, ◌+◌, List, [], ◌∷◌, ◌++◌}
use Rattle.std.specs.Prelude.{◌==◌, Option, None, Some}
use Rattle.ec_base.specs.Tables.{at}
use Rattle.ec_base.specs.declared.ids.Hold.{Hold}
use Rattle.ec_volume.specs.Update.{member}
use Rattle.ec_volume.specs.declared.image.Image.{Image}
use Rattle.ec_history.specs.History.{Each}
use Rattle.ec_base.specs.Holds.{clash, is_write}
use Rattle.ec_sessions.specs.OfTokens.Laws.{sound_granted}
use Rattle.ec_sessions.specs.OfTokens.Tokens as tokens
use Rattle.ec_sessions.specs.OfTokens.SoundTokens as sound_tokens
use Rattle.ec_sessions.specs.declared.tokens.token.Token.{Token}
use Rattle.ec_sessions.specs.OfRecall.Wants.{is_of}
use Rattle.ec_sessions.specs.declared.recall.want.Want as want
use Rattle.ec_wire.specs.declared.msg.Msg.TheVariants.{Grant}
use Rattle.ec_cache.specs.Cache.{last}
use Rattle.ec_cache.specs.declared.state.Held.{Held}
use Rattle.ec_coherence.specs.System.{recorded}
use Rattle.ec_coherence.specs.Tokens.{Tables, View, Side, InSession, eff, Apart, Below, IsWrite, NotedFits, Wanted, Noted, TokensAgree}
use Rattle.ec_coherence.proofs.ForServer.Changed.{over, changed}
use Rattle.ec_coherence.proofs.ForServer.OneRow.{One, one-agrees}
use Rattle.ec_coherence.proofs.ForServer.Said.{with_pool, said-agrees}
use Rattle.ec_coherence.proofs.ForServer.Tables.{token-granted, not-write}
use Rattle.ec_coherence.proofs.ForServer.Was.{was-below, some-recorded, eff-is}
use Rattle.ec_base.proofs.Bools.{not-both as refutes, holds-true as holds}
use Rattle.ec_wire.proofs.MessagesLemmas.{not-free}

module _ (w : View) (v : Tables) (s x : ℕ) (h : Hold) (agree : TokensAgree (over v w)) (wanted : Wanted (over v w) v s x h) (others : Each (λ q. T (not (is_of s x q))) v.recalls)
    (all : (t : ℕ) → T (w.is_open t) → T (member t v.claimed)) (clear : tokens.is_clear v.tokens s x h ≡ true) where
  abbrev n : ℕ
  n = v.number + 1

  abbrev given : Token
  given = record { hold = h; number = n }

  abbrev ts : tokens.Tokens
  ts = tokens.granted s x h n v.tokens

  abbrev v' : Tables
  v' = changed ts v.recalls v.claimed n v.recorded

  sound : sound_tokens.IsSound ts
  sound = sound_granted v.tokens s agree.tables.sound x h n (not-free h wanted.2) clear

  fits : (k : Side) → w.clerk s ≡ Some k → NotedFits h (tokens.token v.tokens s x) (at x k.cache.held) (last x k.cache)
  fits = wanted.4

  token-is : (t y : ℕ) → tokens.token ts t y ≡ cond ((t == s) && (y == x)) (Some given) (tokens.token v.tokens t y)
  token-is = token-granted v.tokens s x h n

  own-token : tokens.token ts s x ≡ Some given
  own-token = token-is s x ∙ ap (λ b. cond b (Some given) (tokens.token v.tokens s x)) (itself s x)
    where
      itself : (s x : ℕ) → ((s == s) && (x == x)) ≡ true
      itself s x = grind arith

  -- the new token meets no other one, since they don't clash in the new table
  apart : (t : ℕ) → (t == s) ≡ false → T (w.is_open t) → Apart (recorded (Some given) w.epoch) (eff (over v w) t x)
  apart t d o = subst (λ f. Apart (recorded (Some given) w.epoch) f) (sym (eff-is w v t agree (all t o) x)) (go (tokens.token v.tokens t x) (unclashed ∙ refl))
    where
      other : tokens.token ts t x ≡ tokens.token v.tokens t x
      other = token-is t x ∙ ap (λ b. cond (b && (x == x)) (Some given) (tokens.token v.tokens t x)) d

      unclashed : clash h (tokens.mode (tokens.token v.tokens t x)) ≡ false
      unclashed = sym (ap (λ o. clash (tokens.mode o) (tokens.mode (tokens.token v.tokens t x))) own-token) ∙ sym (ap (λ o. clash (tokens.mode (tokens.token ts s x)) (tokens.mode o)) other) ∙ sound.apart s t x (λ p. absurd (no p))
        where
          no : s ≡ t → ⊥
          no p = grind arith

      go : (o : Option Token) → clash h (tokens.mode o) ≡ false → Apart (recorded (Some given) w.epoch) (recorded o w.epoch)
      go None e = subst (λ b. T (not b)) (sym e) tt
      go (Some t) e = subst (λ b. T (not b)) (sym e) tt

  below : InSession w s (λ k. Below k.epoch (last x k.cache) (at x k.cache.held) (recorded (Some given) w.epoch))
  below k i = go (tokens.token v.tokens s x) refl (at x k.cache.held) (fits k i) (was-below w v s agree wanted.0 x k i)
    where
      go : (o : Option Token) → tokens.token v.tokens s x ≡ o → (z : Option Held) → NotedFits h o z (last x k.cache) → Below k.epoch (last x k.cache) z (recorded o w.epoch) → Below k.epoch (last x k.cache) z (recorded (Some given) w.epoch)
      go None p None f b = tt
      go None p (Some d) f b = absurd (cc)
      go (Some t) p None f b = tt
      go (Some t) p (Some d) f b =
          let m = agree.tables.numbers s x t p in let a = f.1.0 in let c = f.1.1 in
          (omega arith, b.1, inl (sym (agree.tables.epochs s wanted.0 k i), omega arith, λ l. holds-not d.hold (not-write d.hold h c)))
        where
          holds-not : (a : Hold) → (T (is_write a) → ⊥) → T (not (is_write a))
          holds-not a f = by (is_write a) refl
            where
              by : (b : Bool) → is_write a ≡ b → T (not b)
              by true e = absurd (f (holds (is_write a) e))
              by false e = tt

  -- nothing was on its way
  dead : (e m : ℕ) (g : Hold) (k : Side) → w.clerk s ≡ Some k → last x k.cache < m → recorded (tokens.token v.tokens s x) w.epoch ≡ Some (record { hold = g; number = m; epoch = e }) → ⊥
  dead e m g k i l p = let q = some-recorded (tokens.token v.tokens s x) w.epoch _ p in let f = subst (λ o. NotedFits h o (at x k.cache.held) (last x k.cache)) q.1 (fits k i) in
      let a = f.0 in let b = q.3 in absurd (omega arith)

  one : One w v ts v.recalls n s x (Some given)
  one = record {
    claimed = wanted.0;
    taken = wanted.1;
    shape = token-is;
    sound = sound;
    apart = apart;
    known = λ t p. ((let a = wanted.3.0 in let b = agree.next in omega arith), (let q : given ≡ t = cc in let r = ap (λ z. z.number) q in omega arith));
    below = below;
    live = λ e m g k i a l p. absurd (dead e m g k i l p);
    names = wanted.3;
    number = omega arith;
    wants = with-others v.recalls agree.tables.wants others;
    distinct = agree.tables.apart;
  }
    where
      with-others : (qs : List want.Want) → Each (Noted (over v w) v) qs → Each (λ q. T (not (is_of s x q))) qs
          → Each (λ q. Noted (over v w) v q × (q.session ≡ s → q.obj ≡ x → InSession w s (λ k. NotedFits q.hold (Some given) (at x k.cache.held) (last x k.cache)))) qs
      with-others [] f g = tt
      with-others (q ∷ qs) f g = ((f.0, λ a b. absurd (refutes (is_of s x q) (holds (is_of s x q) (it a b)) g.0)), with-others qs f.1 g.1)
        where
          it : q.session ≡ s → q.obj ≡ x → is_of s x q ≡ true
          it a b = itself s q.session x q.obj (sym a) (sym b)
            where
              itself : (a b c d : ℕ) → a ≡ b → c ≡ d → ((a == b) && (c == d)) ≡ true
              itself a b c d p q = grind arith

  pub granted-agrees : TokensAgree (over v' w)
  granted-agrees = one-agrees w v ts v.recalls n s x (Some given) agree one

  -- and with the message
  pub not-held : (k : Side) → w.clerk s ≡ Some k → ¬ (IsWrite (at x k.cache.held))
  not-held k i = go (tokens.token v.tokens s x) (at x k.cache.held) (fits k i)
    where
      go : (o : Option Token) (z : Option Held) → NotedFits h o z (last x k.cache) → ¬ (IsWrite z)
      go None z f q = subst IsWrite f q
      go (Some t) None f q = q
      go (Some t) (Some d) f q = not-write d.hold h f.1.1 q

  pub granted-said : (c : ℕ) (i : Image) → i ≡ w.seen s x → TokensAgree (over v' (with_pool (w.pool ++ (c, Grant s w.epoch x n h i) ∷ []) w))
  granted-said c i image = said-agrees w v' c (Grant s w.epoch x n h i) granted-agrees (
    (wanted.1, omega arith, λ k j. (let a = agree.tables.epochs s wanted.0 k j in omega arith)),
    (λ e o. (wanted.0, omega arith)),
    wanted.2,
    wanted.3,
    λ k j a l. (eff-is w v' s granted-agrees wanted.0 x ∙ ap (λ o. recorded o w.epoch) own-token, image, not-held k j),
  )
