-- A new session opens. Nobody took it, so it has nothing.
use Rattle.std.proofs.Common.{◌≡◌, ◌≢◌, refl, sym, ap, subst, ◌∙◌, arith, ℕ, Bool, true, false, not, ◌||◌, T, ◌≤◌, List, [], ◌∷◌, ◌++◌}
use Rattle.std.specs.Prelude.{◌==◌, Option, None, Some, ⊤}
use Rattle.ec_base.specs.Tables.{at, at_or}
use Rattle.ec_base.specs.declared.ids.Age.{Age}
use Rattle.ec_base.specs.declared.ids.Hold.{Hold}
use Rattle.ec_base.specs.declared.ids.Hold.TheVariants.{Free}
use Rattle.ec_volume.specs.Update.{member}
use Rattle.ec_history.specs.History.{Each}
use Rattle.ec_base.specs.Holds.{rank, clash}
use Rattle.ec_sessions.specs.OfTokens.Tokens as tokens
use Rattle.ec_wire.specs.declared.msg.Msg.{Msg}
use Rattle.ec_wire.specs.declared.msg.Msg.TheVariants.{Want, Back, Flush, Room, Claim, Bye, Opened, Grant, Recall, Ids, Restarted}
use Rattle.ec_cache.specs.Cache.{last}
use Rattle.ec_coherence.specs.System.{Eff, recorded, eff_from}
use Rattle.ec_coherence.specs.Tokens.{Tables, View, Side, InSession, eff, eff_hold, Apart, Below, IdsFit, OfNow, Noted, is_hidden, Fits, TablesAgree, TokensAgree}
use Rattle.ec_coherence.proofs.ForServer.Changed.{over}
use Rattle.ec_coherence.proofs.ForServer.Said.{with_pool, said-agrees}
use Rattle.ec_coherence.proofs.ForServer.Tables.{each-map, by-session}
use Rattle.ec_base.proofs.Numbers.{same-self as same, equal}
use Rattle.ec_base.proofs.Options.{none_some}
use Rattle.ec_base.proofs.Bools.{not-both as refutes, is-true, holds-true as holds}

-- the message doesn't open this session
abbrev pub OpensNot : ℕ → Msg → Type 0
OpensNot s (Opened age t e) = (t == s) ≡ false
OpensNot s _ = ⊤

module _ (w : View) (v : Tables) (s : ℕ) (op : ℕ → Bool) (agree : TokensAgree (over v w)) (untaken : T (not (w.taken s))) (nobody : w.clerk s ≡ None) (not_open : T (not (w.is_open s)))
    (others_open : (t : ℕ) → (t == s) ≡ false → op t ≡ w.is_open t) (opens : T (op s)) (unheard : Each (λ m. OpensNot s m.1) w.pool) where
  abbrev pub v' : Tables
  v' = record v { claimed = s ∷ v.claimed }

  abbrev pub opened : View
  opened = record w { is_open = op }

  abbrev old : View
  old = over v w

  abbrev new : View
  new = over v' opened

  not-claimed : T (not (member s v.claimed))
  not-claimed = go (member s v.claimed) refl
    where
      go : (b : Bool) → member s v.claimed ≡ b → T (not b)
      go true e = refutes (w.is_open s) (agree.tables.are_open s (holds (member s v.claimed) e)) not_open
      go false e = tt

  token-none : (x : ℕ) → tokens.token v.tokens s x ≡ None
  token-none x = (agree.tables.others s x not-claimed).0

  eff-none : (x : ℕ) → eff old s x ≡ None
  eff-none x = go (eff old s x) refl
    where
      go : (o : Option Eff) → eff old s x ≡ o → o ≡ None
      go None p = refl
      go (Some f) p = absurd (refutes (w.taken s) (agree.known s x f p).1 untaken)

  member-own : T (member s v'.claimed)
  member-own = subst (λ b. T (b || member s v.claimed)) (sym (same s)) tt

  member-other : (t : ℕ) → (t == s) ≡ false → member t v'.claimed ≡ member t v.claimed
  member-other t d = ap (λ b. b || member t v.claimed) d

  more : (t : ℕ) → T (member t v.claimed) → T (member t v'.claimed)
  more t c = go (t == s) c
    where
      go : (b : Bool) → T (member t v.claimed) → T (b || member t v.claimed)
      go true c = tt
      go false c = c

  eff-same : (t x : ℕ) → eff new t x ≡ eff old t x
  eff-same t x = by-session s t (λ u. eff new u x ≡ eff old u x)
      (ap (λ b. eff_from b (tokens.token v.tokens s x) w.epoch (w.old s x)) (is-true (member s v'.claimed) member-own) ∙ ap (λ o. recorded o w.epoch) (token-none x) ∙ sym (eff-none x))
      (λ d. ap (λ b. eff_from b (tokens.token v.tokens t x) w.epoch (w.old t x)) (member-other t d))

  taken-other : (t : ℕ) → T (w.taken t) → (t == s) ≡ false
  taken-other t k = go (t == s) refl
    where
      go : (b : Bool) → (t == s) ≡ b → b ≡ false
      go true e = absurd (refutes (w.taken s) (subst (λ u. T (w.taken u)) (equal t s e) k) untaken)
      go false e = refl

  was-open : (t : ℕ) → T (w.taken t) → T (op t) → T (w.is_open t)
  was-open t k o = subst T (others_open t (taken-other t k)) o

  fewer : (t : ℕ) → T (not (member t v'.claimed)) → T (not (member t v.claimed))
  fewer t c = go (member t v.claimed) refl
    where
      go : (b : Bool) → member t v.claimed ≡ b → T (not b)
      go true e = absurd (refutes (member t v'.claimed) (more t (holds (member t v.claimed) e)) c)
      go false e = tt

  now : (t e m : ℕ) → T (w.taken t) → OfNow old t e m → OfNow new t e m
  now t e m k f a o = let q = f a (was-open t k o) in (more t q.0, q.1)

  ids-kept : (t e got m first : ℕ) (k : Side) → IdsFit old t e got m first k → IdsFit new t e got m first k
  ids-kept t e got m first k f a b x z = let q = f a b x z in (eff-same t x ∙ q.0, q.1, q.2, q.3)

  message-kept : (m : Msg) → OpensNot s m → Fits old m → Fits new m
  message-kept (Room t e got ask) u q = (q.0, λ k i. let f = q.1 k i in (f.0, λ a o r. f.1 a (was-open t q.0.0 o) r))
  message-kept (Claim t e l) u q = (
    q.0,
    (λ a o c k i. let f = q.1 a (was-open t q.0.0 o) (fewer t c) k i in
        (f.0, λ x. ((f.1 x).0, subst (λ z. rank (at_or Free x l) ≤ rank (eff_hold z)) (sym (eff-same t x)) (f.1 x).1))),
    q.2,
  )
  message-kept (Opened age t e) u q = (q.0, λ c k. q.1 (subst T (member-other t u) c) k)
  message-kept (Grant t e x m h i) u q = (q.0, now t e m q.0.0 q.1, q.2, q.3, λ k j a l. let f = q.4 k j a l in (eff-same t x ∙ f.0, f.1, f.2))
  message-kept (Ids t e got m first) u q = (q.0, now t e m q.0.0 q.1, (λ a o. q.2 a (was-open t q.0.0 o)), q.3, q.4, λ k i. ids-kept t e got m first k (q.5 k i))
  message-kept (Want t e x h l) u q = q
  message-kept (Back t e x m h) u q = q
  message-kept (Flush t e b ops) u q = q
  message-kept (Bye t e) u q = q
  message-kept (Recall t e x m h) u q = q
  message-kept (Restarted t e) u q = q
  message-kept _ u q = q

  each-kept : (p : List (ℕ × Msg)) → Each (λ m. OpensNot s m.1) p → Each (λ m. Fits old m.1) p → Each (λ m. Fits new m.1) p
  each-kept [] u f = tt
  each-kept (m ∷ p) u f = (message-kept m.1 u.0 f.0, each-kept p u.1 f.1)

  tables : TablesAgree new v'
  tables = let a = agree.tables in record {
    sound = a.sound;
    are_open = λ t c. by-session s t (λ u. T (member u v'.claimed) → T (op u)) (λ c. opens) (λ d c. subst T (sym (others_open t d)) (a.are_open t (subst T (member-other t d) c))) c;
    epochs = λ t c. by-session s t (λ u. T (member u v'.claimed) → InSession new u (λ k. k.epoch ≡ w.epoch)) (λ c k i. absurd (none_some (sym nobody ∙ i))) (λ d c. a.epochs t (subst T (member-other t d) c)) c;
    others = λ t x c. let q = a.others t x (fewer t c) in (q.0, λ o. q.1 (subst T (others_open t (other t c)) o));
    wants = each-map (Noted old v) (Noted new v') v.recalls (λ q f. (more q.session f.0, f.1, f.2, f.3, f.4)) a.wants;
    apart = a.apart;
    numbers = a.numbers;
    recorded = λ t m p. let r = a.recorded t m p in (more t r.0, r.1, λ got g k i. ids-kept t w.epoch got m (w.first t) k (r.2 got g k i));
    unrecorded = λ t x c p h. by-session s t (λ u. T (member u v'.claimed) → at u v.recorded ≡ None → T (is_hidden w u x) → tokens.token v.tokens u x ≡ None)
        (λ c p h. token-none x) (λ d c p h. a.unrecorded t x (subst T (member-other t d) c) p h) c p h;
  }
    where
      other : (t : ℕ) → T (not (member t v'.claimed)) → (t == s) ≡ false
      other t c = go (t == s) refl
        where
          go : (b : Bool) → (t == s) ≡ b → b ≡ false
          go true e = absurd (refutes (member s v'.claimed) member-own (subst (λ u. T (not (member u v'.claimed))) (equal t s e) c))
          go false e = refl

  pub opened-agrees : TokensAgree new
  opened-agrees = record {
    held = λ t x f p. agree.held t x f (sym (eff-same t x) ∙ p);
    holds = agree.holds;
    known = λ t x f p. agree.known t x f (sym (eff-same t x) ∙ p);
    next = agree.next;
    exclusive = exclusive;
    below = λ t x k i. subst (Below k.epoch (last x k.cache) (at x k.cache.held)) (sym (eff-same t x)) (agree.below t x k i);
    got = agree.got;
    given = agree.given;
    alone = λ t x h. let q = agree.alone t x h in ((λ u d. let r = q.0 u d in (eff-same u x ∙ r.0, r.1)), q.1, q.2);
    lasts = agree.lasts;
    recalled = agree.recalled;
    present = λ t o k. agree.present t (was-open t k o) k;
    messages = each-kept w.pool unheard agree.messages;
    tables = tables;
  }
    where
      free-left : (f : Option Eff) → Apart None f
      free-left None = tt
      free-left (Some f) = subst (λ b. T (not b)) (sym (none f.hold)) tt
        where
          none : (h : Hold) → clash Free h ≡ false
          none h = grind arith

      free-right : (f : Option Eff) → Apart f None
      free-right None = tt
      free-right (Some f) = subst (λ b. T (not b)) (sym (none f.hold)) tt
        where
          none : (h : Hold) → clash h Free ≡ false
          none h = grind arith

      exclusive : (t u x : ℕ) → t ≢ u → T (op t) → T (op u) → Apart (eff new t x) (eff new u x)
      exclusive t u x d p q = subst (λ f. Apart f (eff new u x)) (sym (eff-same t x)) (subst (λ f. Apart (eff old t x) f) (sym (eff-same u x)) (go (t == s) (u == s) refl refl))
        where
          go : (a b : Bool) → (t == s) ≡ a → (u == s) ≡ b → Apart (eff old t x) (eff old u x)
          go true b e f = subst (λ z. Apart z (eff old u x)) (sym (ap (λ y. eff old y x) (equal t s e) ∙ eff-none x)) (free-left (eff old u x))
          go false true e f = subst (λ z. Apart (eff old t x) z) (sym (ap (λ y. eff old y x) (equal u s f) ∙ eff-none x)) (free-right (eff old t x))
          go false false e f = agree.exclusive t u x d (subst T (others_open t e) p) (subst T (others_open u f) q)

-- that a session is open is said in this epoch
pub opened-said : (w : View) (v : Tables) (c : ℕ) (age : Age) (s : ℕ) → TokensAgree (over v w) → TokensAgree (over v (with_pool (w.pool ++ (c, Opened age s w.epoch) ∷ []) w))
opened-said w v c age s agree = said-agrees w v c (Opened age s w.epoch) agree (omega arith, λ a b. refl)
