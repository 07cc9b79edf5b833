-- The server's tables change for one session: what has to be seen of it, and that then all facts stay.
use Rattle.std.proofs.Common.{◌≡◌, ◌≢◌, refl, sym, ap, subst, ◌∙◌, inl, inr, ◌⊎◌, arith, ℕ, Bool, true, false, not, ◌+◌, T, ◌≤◌, ◌<◌, List}
use Rattle.std.specs.Prelude.{◌==◌, Option, None, Some, is_some}
use Rattle.ec_base.specs.Tables.{Table, at, at_or}
use Rattle.ec_base.specs.declared.ids.Hold.{Hold}
use Rattle.ec_base.specs.declared.ids.Hold.TheVariants.{Free, Write}
use Rattle.ec_volume.specs.Update.{member}
use Rattle.ec_history.specs.History.{Each}
use Rattle.ec_base.specs.Holds.{rank}
use Rattle.ec_sessions.specs.OfTokens.Tokens as tokens
use Rattle.ec_sessions.specs.OfTokens.SoundTokens as sound_tokens
use Rattle.ec_sessions.specs.declared.tokens.token.Token.{Token}
use Rattle.ec_sessions.specs.declared.recall.want.Want as want
use Rattle.ec_wire.specs.Messages.{is_held_mode}
use Rattle.ec_wire.specs.declared.msg.Msg.{Msg}
use Rattle.ec_wire.specs.declared.msg.Msg.TheVariants.{Want, Back, Flush, Room, Claim, Bye, Opened, Grant, Recall, Ids, Restarted}
use Rattle.ec_cache.specs.Cache.{last}
use Rattle.ec_coherence.specs.System.{Eff, recorded, eff_from}
use Rattle.ec_coherence.specs.Tokens.{Tables, View, Side, InSession, eff, eff_hold, Apart, Below, is_hidden, Fits, Passed, OfNow, IdsFit, IsEarlier, Noted, TablesAgree, TokensAgree, WantsAreDistinct}
use Rattle.ec_coherence.proofs.ForServer.Tables.{by-session, each-map, held-mode, clash-turn, same_some}
use Rattle.ec_base.proofs.Options.{none_some}
use Rattle.ec_base.proofs.Numbers.{equal}
use Rattle.ec_base.proofs.Bools.{not-both as refutes, is-true}

-- these facts while the server has these tables
abbrev pub over : Tables → View → View
over v w = record w { tables = Some v }

-- the session's tokens, and what goes with them
abbrev pub changed : tokens.Tokens → List want.Want → List ℕ → ℕ → Table ℕ → Tables
changed ts qs cl n rs = record { tokens = ts; recalls = qs; claimed = cl; number = n; recorded = rs }

-- What is to be seen where the session s gets other tokens.
pub record Own (w : View) (v : Tables) (ts : tokens.Tokens) (qs : List want.Want) (cl : List ℕ) (n : ℕ) (rs : Table ℕ) (s : ℕ) : Type 0 where
  -- the session has claimed now, and of the others as many as before
  pub claimed : T (member s cl)
  pub stay : (t : ℕ) → (t == s) ≡ false → member t cl ≡ member t v.claimed
  pub is_open : T (w.is_open s)
  pub taken : T (w.taken s)
  pub epoch : InSession w s (λ k. k.epoch ≡ w.epoch)
  -- only its tokens change, and they may stand beside the others
  pub only : (t x : ℕ) → (t == s) ≡ false → tokens.token ts t x ≡ tokens.token v.tokens t x
  pub sound : sound_tokens.IsSound ts
  pub apart : (t x : ℕ) → (t == s) ≡ false → T (w.is_open t) → Apart (recorded (tokens.token ts s x) w.epoch) (eff (over v w) t x)
  pub known : (x : ℕ) (t : Token) → tokens.token ts s x ≡ Some t → (x < w.next_token) × T (w.taken s) × (t.number ≤ n)
  pub below : (x : ℕ) → InSession w s (λ k. Below k.epoch (last x k.cache) (at x k.cache.held) (recorded (tokens.token ts s x) w.epoch))
  -- a token that is on its way stays as it is
  pub live : (x e m : ℕ) (h : Hold) → InSession w s (λ k. e ≡ k.epoch → last x k.cache < m → eff (over v w) s x ≡ Some (record { hold = h; number = m; epoch = e })
      → recorded (tokens.token ts s x) w.epoch ≡ Some (record { hold = h; number = m; epoch = e }))
  pub alone : (t x : ℕ) → s ≢ t → T (is_hidden w t x) → tokens.token ts s x ≡ None
  -- numbers, wants and recordings
  pub number : v.number ≤ n
  pub grown : (t : ℕ) → T (is_some (at t v.recorded)) → T (is_some (at t rs))
  pub wants : Each (Noted (over (changed ts qs cl n rs) w) (changed ts qs cl n rs)) qs
  pub distinct : WantsAreDistinct qs
  pub unrecorded : (x : ℕ) → at s rs ≡ None → T (is_hidden w s x) → tokens.token ts s x ≡ None
  pub recorded : (t m : ℕ) → at t rs ≡ Some m → (at t v.recorded ≡ Some m) ⊎
      T (member t cl) × (m ≤ n) × ((got : ℕ) → got + 1 ≡ w.grants t → InSession w t (IdsFit (over (changed ts qs cl n rs) w) t w.epoch got m (w.first t)))

module _ (w : View) (v : Tables) (ts : tokens.Tokens) (qs : List want.Want) (cl : List ℕ) (n : ℕ) (rs : Table ℕ) (s : ℕ)
    (agree : TokensAgree (over v w)) (own : Own w v ts qs cl n rs s) where
  abbrev v' : Tables
  v' = changed ts qs cl n rs

  abbrev old : View
  old = over v w

  abbrev new : View
  new = over v' w

  pub eff-own : (x : ℕ) → eff new s x ≡ recorded (tokens.token ts s x) w.epoch
  eff-own x = ap (λ b. eff_from b (tokens.token ts s x) w.epoch (w.old s x)) (is-true (member s cl) own.claimed)

  pub eff-other : (t x : ℕ) → (t == s) ≡ false → eff new t x ≡ eff old t x
  eff-other t x d = ap (λ b. eff_from b (tokens.token ts t x) w.epoch (w.old t x)) (own.stay t d) ∙ ap (λ o. eff_from (member t v.claimed) o w.epoch (w.old t x)) (own.only t x d)

  more : (t : ℕ) → T (member t v.claimed) → T (member t cl)
  more t = by-session s t (λ u. T (member u v.claimed) → T (member u cl)) (λ c. own.claimed) (λ d c. subst T (sym (own.stay t d)) c)

  fewer : (t : ℕ) → T (not (member t cl)) → T (not (member t v.claimed))
  fewer t = by-session s t (λ u. T (not (member u cl)) → T (not (member u v.claimed))) (λ c. absurd (refutes (member s cl) own.claimed c)) (λ d c. subst (λ b. T (not b)) (own.stay t d) c)

  outside : (t : ℕ) → T (not (member t cl)) → (t == s) ≡ false
  outside t c = go (t == s) refl
    where
      go : (b : Bool) → (t == s) ≡ b → b ≡ false
      go true e = absurd (refutes (member s cl) own.claimed (subst (λ u. T (not (member u cl))) (equal t s e) c))
      go false e = refl

  live-kept : (t x e m : ℕ) (h : Hold) (k : Side) → w.clerk t ≡ Some k → e ≡ k.epoch → last x k.cache < m → eff old t x ≡ Some (record { hold = h; number = m; epoch = e }) → eff new t x ≡ Some (record { hold = h; number = m; epoch = e })
  live-kept t x e m h k = by-session s t (λ u. w.clerk u ≡ Some k → e ≡ k.epoch → last x k.cache < m → eff old u x ≡ Some (record { hold = h; number = m; epoch = e }) → eff new u x ≡ Some (record { hold = h; number = m; epoch = e }))
      (λ i p l f. eff-own x ∙ own.live x e m h k i p l f) (λ d i p l f. eff-other t x d ∙ f)

  pass : (t e : ℕ) → Passed old t e → Passed new t e
  pass t e p = p

  now : (t e m : ℕ) → OfNow old t e m → OfNow new t e m
  now t e m f a o = let q = f a o in (more t q.0, let r = q.1 in let z = own.number in omega arith)

  ids-kept : (t e got m first : ℕ) (k : Side) → w.clerk t ≡ Some k → IdsFit old t e got m first k → IdsFit new t e got m first k
  ids-kept t e got m first k i f a b x z = let q = f a b x z in (live-kept t x e m Write k i a q.2 q.0, q.1, q.2, q.3)

  claimed-before : (t : ℕ) → T (member t cl) → T (not (w.taken t)) → T (member t v.claimed)
  claimed-before t = by-session s t (λ u. T (member u cl) → T (not (w.taken u)) → T (member u v.claimed)) (λ c u. absurd (refutes (w.taken s) own.taken u)) (λ d c u. subst T (own.stay t d) c)

  none-grown : (t : ℕ) → at t rs ≡ None → at t v.recorded ≡ None
  none-grown t e = go (at t v.recorded) refl
    where
      go : (o : Option ℕ) → at t v.recorded ≡ o → o ≡ None
      go None q = refl
      go (Some z) q = absurd (none_some (sym e ∙ some-is (at t rs) (own.grown t (subst (λ o. T (is_some o)) (sym q) tt))))
        where
          some-is : (o : Option ℕ) → T (is_some o) → o ≡ Some (elim o [ None ↦ 0 | Some y ↦ y ])
          some-is None h = absurd h
          some-is (Some y) h = refl

  pub message-kept : (m : Msg) → Fits old m → Fits new m
  message-kept (Want t e x h l) q = (pass t e q.0, q.1, q.2, q.3)
  message-kept (Back t e x m h) q = (pass t e q.0, q.1, q.2)
  message-kept (Flush t e b ops) q = pass t e q
  message-kept (Room t e got ask) q = (pass t e q.0, λ k i. let f = q.1 k i in (f.0, λ a o r z. f.1 a o (none-grown t r) z))
  message-kept (Claim t e l) q =
      (pass t e q.0, λ a o u k i. let f = q.1 a o (fewer t u) k i in (f.0, λ x. ((f.1 x).0, subst (λ z. rank (at_or Free x l) ≤ rank (eff_hold z)) (sym (eff-other t x (outside t u))) (f.1 x).1)), q.2)
  message-kept (Bye t e) q = pass t e q
  message-kept (Opened age t e) q = (q.0, λ c u. q.1 (claimed-before t c u) u)
  message-kept (Grant t e x m h i) q = (pass t e q.0, now t e m q.1, q.2, q.3, λ k j a l. let f = q.4 k j a l in (live-kept t x e m h k j a l f.0, f.1, f.2))
  message-kept (Recall t e x m h) q = (pass t e q.0, q.1)
  message-kept (Ids t e got m first) q = (pass t e q.0, now t e m q.1, λ a o. own.grown t (q.2 a o), q.3, q.4, λ k i. ids-kept t e got m first k i (q.5 k i))
  message-kept (Restarted t e) q = q
  message-kept _ q = q

  is-s : (t : ℕ) → (t == s) ≡ true → s ≡ t
  is-s t e = sym (equal t s e)

  exclusive : (t u x : ℕ) → t ≢ u → T (w.is_open t) → T (w.is_open u) → Apart (eff new t x) (eff new u x)
  exclusive t u x d p q = go (t == s) (u == s) refl refl
    where
      beside : (a : ℕ) → (a == s) ≡ false → T (w.is_open a) → Apart (eff new s x) (eff new a x)
      beside a e o = subst (λ f. Apart (eff new s x) f) (sym (eff-other a x e)) (subst (λ f. Apart f (eff old a x)) (sym (eff-own x)) (own.apart a x e o))

      turn : (e f : Option Eff) → Apart e f → Apart f e
      turn e f a = subst (λ b. T (not b)) (clash-turn (eff_hold e) (eff_hold f)) a

      go : (a b : Bool) → (t == s) ≡ a → (u == s) ≡ b → Apart (eff new t x) (eff new u x)
      go true true e f = absurd (d (equal t s e ∙ sym (equal u s f)))
      go true false e f = subst (λ z. Apart (eff new z x) (eff new u x)) (is-s t e) (beside u f q)
      go false true e f = subst (λ z. Apart (eff new t x) (eff new z x)) (is-s u f) (turn (eff new s x) (eff new t x) (beside t e p))
      go false false e f = subst (λ z. Apart z (eff new u x)) (sym (eff-other t x e)) (subst (λ z. Apart (eff old t x) z) (sym (eff-other u x f)) (agree.exclusive t u x d p q))

  from-token : (o : Option Token) (e : ℕ) (f : Eff) → recorded o e ≡ Some f → (t : Token) × (o ≡ Some t) × (t.hold ≡ f.hold) × (e ≡ f.epoch)
  from-token None e f p = absurd (none_some p)
  from-token (Some t) e f p = (t, refl, ap (λ z. z.hold) (same_some p), ap (λ z. z.epoch) (same_some p))

  held : (t x : ℕ) (f : Eff) → eff new t x ≡ Some f → T (is_held_mode f.hold)
  held t x f = by-session s t (λ u. eff new u x ≡ Some f → T (is_held_mode f.hold))
      (λ p. let q = from-token (tokens.token ts s x) w.epoch f (sym (eff-own x) ∙ p) in subst (λ h. T (is_held_mode h)) q.2 (held-mode (q.0).hold (own.sound.held s x q.0 q.1)))
      (λ d p. agree.held t x f (sym (eff-other t x d) ∙ p))

  known : (t x : ℕ) (f : Eff) → eff new t x ≡ Some f → (x < w.next_token) × T (w.taken t) × (f.epoch ≤ w.epoch)
  known t x f = by-session s t (λ u. eff new u x ≡ Some f → (x < w.next_token) × T (w.taken u) × (f.epoch ≤ w.epoch))
      (λ p. let q = from-token (tokens.token ts s x) w.epoch f (sym (eff-own x) ∙ p) in let r = own.known x q.0 q.1 in (r.0, r.1, (let z = q.3 in omega arith)))
      (λ d p. agree.known t x f (sym (eff-other t x d) ∙ p))

  below : (t x : ℕ) → InSession new t (λ k. Below k.epoch (last x k.cache) (at x k.cache.held) (eff new t x))
  below t x k = by-session s t (λ u. w.clerk u ≡ Some k → Below k.epoch (last x k.cache) (at x k.cache.held) (eff new u x))
      (λ i. subst (Below k.epoch (last x k.cache) (at x k.cache.held)) (sym (eff-own x)) (own.below x k i))
      (λ d i. subst (Below k.epoch (last x k.cache) (at x k.cache.held)) (sym (eff-other t x d)) (agree.below t x k i))

  none-beside : (t u x : ℕ) → u ≢ t → T (is_hidden w t x) → eff old u x ≡ None → eff new u x ≡ None
  none-beside t u x = by-session s u (λ a. a ≢ t → T (is_hidden w t x) → eff old a x ≡ None → eff new a x ≡ None)
      (λ d h p. eff-own x ∙ ap (λ o. recorded o w.epoch) (own.alone t x d h)) (λ e d h p. eff-other u x e ∙ p)

  numbers : (t x : ℕ) (k : Token) → tokens.token ts t x ≡ Some k → k.number ≤ n
  numbers t x k = by-session s t (λ u. tokens.token ts u x ≡ Some k → k.number ≤ n) (λ p. (own.known x k p).2)
      (λ d p. let a = agree.tables.numbers t x k (sym (own.only t x d) ∙ p) in let z = own.number in omega arith)

  are_open : (t : ℕ) → T (member t cl) → T (w.is_open t)
  are_open t = by-session s t (λ u. T (member u cl) → T (w.is_open u)) (λ c. own.is_open) (λ d c. agree.tables.are_open t (subst T (own.stay t d) c))

  epochs : (t : ℕ) → T (member t cl) → InSession new t (λ k. k.epoch ≡ w.epoch)
  epochs t = by-session s t (λ u. T (member u cl) → InSession new u (λ k. k.epoch ≡ w.epoch)) (λ c. own.epoch) (λ d c. agree.tables.epochs t (subst T (own.stay t d) c))

  others : (t x : ℕ) → T (not (member t cl)) → (tokens.token ts t x ≡ None) × (T (w.is_open t) → IsEarlier w.epoch (w.old t x))
  others t x c = let q = agree.tables.others t x (fewer t c) in (own.only t x (outside t c) ∙ q.0, q.1)

  recordings : (t m : ℕ) → at t rs ≡ Some m → T (member t cl) × (m ≤ n) × ((got : ℕ) → got + 1 ≡ w.grants t → InSession w t (IdsFit new t w.epoch got m (w.first t)))
  recordings t m p = elim (own.recorded t m p) [
    | inl q ↦ let r = agree.tables.recorded t m q in (more t r.0, (let a = r.1 in let z = own.number in omega arith), λ got g k i. ids-kept t w.epoch got m (w.first t) k i (r.2 got g k i))
    | inr q ↦ q
  ]

  unrecorded : (t x : ℕ) → T (member t cl) → at t rs ≡ None → T (is_hidden w t x) → tokens.token ts t x ≡ None
  unrecorded t x = by-session s t (λ u. T (member u cl) → at u rs ≡ None → T (is_hidden w u x) → tokens.token ts u x ≡ None)
      (λ c r h. own.unrecorded x r h) (λ d c r h. own.only t x d ∙ agree.tables.unrecorded t x (subst T (own.stay t d) c) (none-grown t r) h)

  pub changed-tables : TablesAgree new v'
  changed-tables = record {
    sound = own.sound;
    are_open = are_open;
    epochs = epochs;
    others = others;
    wants = own.wants;
    apart = own.distinct;
    numbers = numbers;
    recorded = recordings;
    unrecorded = unrecorded;
  }

  pub changed-agrees : TokensAgree new
  changed-agrees = record {
    held = held;
    holds = agree.holds;
    known = known;
    next = agree.next;
    exclusive = exclusive;
    below = below;
    got = agree.got;
    given = agree.given;
    alone = λ t x h. let q = agree.alone t x h in ((λ u d. let r = q.0 u d in (none-beside t u x d h r.0, r.1)), q.1, q.2);
    lasts = agree.lasts;
    recalled = agree.recalled;
    present = agree.present;
    messages = each-map (λ m. Fits old m.1) (λ m. Fits new m.1) w.pool (λ m. message-kept m.1) agree.messages;
    tables = changed-tables;
  }
