-- A clerk takes a session that was opened for it.
use Rattle.std.proofs.Common.{◌≡◌, refl, sym, ap, subst, ◌∙◌, arith, ℕ, suc, zero, Bool, true, false, not, ◌+◌, T, []}
use Rattle.std.specs.Prelude.{◌==◌, Some, is_some}
use Rattle.ec_base.specs.declared.ids.Age.{Age}
use Rattle.ec_volume.specs.Update.{member}
use Rattle.ec_sessions.specs.declared.recall.want.Want as want
use Rattle.ec_wire.specs.declared.msg.Msg.{Msg}
use Rattle.ec_wire.specs.declared.msg.Msg.TheVariants.{Want, Back, Flush, Room, Claim, Bye, Opened, Grant, Recall, Ids, Restarted}
use Rattle.ec_cache.specs.Cache as cache
use Rattle.ec_cache.specs.Cache.{last}
use Rattle.ec_coherence.specs.System.{at_session}
use Rattle.ec_coherence.specs.Tokens.{Tables, View, Side, InSession, Names, is_untaken, is_hidden, in_sixteen, Fits, Passed, IdsFit, ClaimFits, RoomFits, Noted, TablesAgree, TokensAgree}
use Rattle.ec_coherence.proofs.ForClerk.Acting.{here}
use Rattle.ec_coherence.proofs.ForClerk.Sends.{sent, sent-agrees}
use Rattle.ec_coherence.proofs.ForClerk.SendWant.{while-all}
use Rattle.ec_coherence.proofs.ForClerk.Sides.{while-map, while-is, contra, is-equal}
use Rattle.ec_coherence.proofs.ForServer.Tables.{each-map, same_some}
use Rattle.ec_base.proofs.Bools.{left as and-left, not-both as refutes}
use Rattle.ec_base.proofs.Options.{none_some}
use Rattle.ec_base.proofs.Numbers.{equal}

-- a clerk that took a session of the epoch e, and nothing else
abbrev pub fresh : ℕ → ℕ → Side
fresh e capacity = record { epoch = e; got = 0; cache = cache.empty capacity; recalls = [] }

abbrev pub opened : ℕ → ℕ → ℕ → View → View
opened s e capacity w = record w { taken = at_session s true w.taken; clerk = at_session s (Some (fresh e capacity)) w.clerk }

module _ (w : View) (s e capacity : ℕ) (age : Age) (agree : TokensAgree w) (untaken : T (not (w.taken s))) (fits : Fits w (Opened age s e)) where
  abbrev new : View
  new = opened s e capacity w

  abbrev k : Side
  k = fresh e capacity

  inside : (t : ℕ) (P Q : Side → Type 0) → (t ≡ s → Q k) → ((j : Side) → P j → Q j) → InSession w t P → InSession new t Q
  inside t P Q own other f j = go (t == s) refl
    where
      go : (b : Bool) → (t == s) ≡ b → elim b [ true ↦ Some k | false ↦ w.clerk t ] ≡ Some j → Q j
      go true d p = subst Q (same_some p) (own (equal t s d))
      go false d p = other j (f j p)

  -- nothing of the session is known yet
  not-taken : (t : ℕ) → t ≡ s → T (w.taken t) → ⊥
  not-taken t z h = refutes (w.taken s) (subst (λ u. T (w.taken u)) z h) untaken

  no-grants : w.grants s ≡ 0
  no-grants = go (w.grants s) refl
    where
      go : (n : ℕ) → w.grants s ≡ n → n ≡ 0
      go zero p = refl
      go (suc n) p = absurd (not-taken s refl (agree.given s (let a = p in omega arith)).1)

  taken-more : (t : ℕ) → T (w.taken t) → T (new.taken t)
  taken-more t h = go (t == s)
    where
      go : (b : Bool) → T (elim b [ true ↦ true | false ↦ w.taken t ])
      go true = tt
      go false = h

  hidden-less : (t x : ℕ) → T (is_hidden new t x) → T (is_hidden w t x)
  hidden-less t x h = go (t == s) refl h
    where
      go : (b : Bool) → (t == s) ≡ b → T (is_untaken (w.grants t) (w.first t) (elim b [ true ↦ Some k | false ↦ w.clerk t ]) x) → T (is_hidden w t x)
      go true d h = absurd (let a = is-equal (0 + 1) (w.grants t) (and-left (0 + 1 == w.grants t) (in_sixteen (w.first t) x) h) in let b = ap w.grants (equal t s d) in let c = no-grants in omega arith)
      go false d h = h

  names-more : (x : ℕ) → Names w x → Names new x
  names-more x q = (q.0, λ t. contra (is_hidden w t x) (is_hidden new t x) (hidden-less t x) (q.1 t))

  pass : (t a : ℕ) → Passed w t a → Passed new t a
  pass t a p = (taken-more t p.0, p.1, inside t _ _ (λ z. absurd (not-taken t z p.0)) (λ j q. q) p.2)

  message-kept : (m : Msg) → Fits w m → Fits new m
  message-kept (Want t a x h n) q = (pass t a q.0, q.1, names-more x q.2, inside t _ _ (λ z. absurd (not-taken t z q.0.0)) (λ j f. f) q.3)
  message-kept (Back t a x n h) q = (pass t a q.0, names-more x q.1, inside t _ _ (λ z. absurd (not-taken t z q.0.0)) (λ j f. f) q.2)
  message-kept (Flush t a b ops) q = pass t a q
  message-kept (Room t a got ask) q = (pass t a q.0, inside t (RoomFits w t a got) (RoomFits new t a got) (λ z. absurd (not-taken t z q.0.0)) (λ j f. f) q.1)
  message-kept (Claim t a l) q = (
    pass t a q.0,
    (λ b o. while-map w.tables _ _ (λ v up f c. inside t (ClaimFits w t a l) (ClaimFits new t a l) (λ z. absurd (not-taken t z q.0.0)) (λ j g. g) (f c)) (q.1 b o)),
    each-map _ _ l (λ c. names-more c.0) q.2,
  )
  message-kept (Bye t a) q = pass t a q
  message-kept (Opened age t a) q = (q.0, while-map w.tables _ _ (λ v up f c u. f c (contra (new.taken t) (w.taken t) (taken-more t) u)) q.1)
  message-kept (Grant t a x n h i) q = (pass t a q.0, q.1, q.2, names-more x q.3, inside t _ _ (λ z. absurd (not-taken t z q.0.0)) (λ j f. f) q.4)
  message-kept (Recall t a x n h) q = (pass t a q.0, names-more x q.1)
  message-kept (Ids t a got n first) q = (pass t a q.0, q.1, q.2, q.3, q.4, inside t (IdsFit w t a got n first) (IdsFit new t a got n first) (λ z. absurd (not-taken t z q.0.0)) (λ j f. f) q.5)
  message-kept (Restarted t a) q = q
  message-kept _ q = q

  noted-want : (v : Tables) → (q : want.Want) → Noted w v q → Noted new v q
  noted-want v q f = (f.0, taken-more q.session f.1, f.2, names-more q.obj f.3, inside q.session _ _ (λ z. absurd (not-taken q.session z f.1)) (λ j g. g) f.4)

  tables-kept : (v : Tables) → w.tables ≡ Some v → TablesAgree w v → TablesAgree new v
  tables-kept v up a = record {
    sound = a.sound;
    are_open = a.are_open;
    epochs = λ t c. inside t _ _ (λ z. while-is w.tables (λ v. T (member s v.claimed) → T (not (w.taken s)) → e ≡ w.epoch) v up fits.1 (subst (λ u. T (member u v.claimed)) z c) untaken) (λ j b. b) (a.epochs t c);
    others = a.others;
    wants = each-map (Noted w v) (Noted new v) v.recalls (noted-want v) a.wants;
    apart = a.apart;
    numbers = a.numbers;
    recorded = λ t n p. let q = a.recorded t n p in (
      q.0,
      q.1,
      λ got g. inside t (IdsFit w t w.epoch got n (w.first t)) (IdsFit new t w.epoch got n (w.first t))
          (λ z. absurd (let b = ap w.grants z in let c = no-grants in omega arith)) (λ j f. f) (q.2 got g),
    );
    unrecorded = λ t x c r h. a.unrecorded t x c r (hidden-less t x h);
  }

  pub opened-agrees : TokensAgree new
  opened-agrees = record {
    held = agree.held;
    holds = λ t x. inside t _ _ (λ z h p. absurd (none_some p)) (λ j f. f) (agree.holds t x);
    known = λ t x f p. let q = agree.known t x f p in (q.0, taken-more t q.1, q.2);
    next = agree.next;
    exclusive = agree.exclusive;
    below = λ t x. inside t _ _ (λ z. tt) (λ j f. f) (agree.below t x);
    got = λ t. inside t _ _ (λ z. (fits.0, own-taken t z, omega arith, (let b = ap w.grants z in let c = no-grants in omega arith))) (λ j f. (f.0, taken-more t f.1, f.2, f.3)) (agree.got t);
    given = λ t h. let q = agree.given t h in (q.0, taken-more t q.1);
    alone = λ t x h. let q = agree.alone t x (hidden-less t x h) in
        ((λ u d. ((q.0 u d).0, contra (is_hidden w u x) (is_hidden new u x) (hidden-less u x) (q.0 u d).1)), inside t _ _ (λ z. (refl, refl)) (λ j f. f) q.1, q.2);
    lasts = λ t x. inside t _ _ (λ z l. refl) (λ j f. f) (agree.lasts t x);
    recalled = λ t. inside t _ _ (λ z. tt) (λ j f. each-map _ _ j.recalls (λ r. names-more r.obj) f) (agree.recalled t);
    present = λ t o u. there t (t == s) u (agree.present t o);
    messages = each-map (λ m. Fits w m.1) (λ m. Fits new m.1) w.pool (λ m. message-kept m.1) agree.messages;
    tables = while-map w.tables (TablesAgree w) (TablesAgree new) tables-kept agree.tables;
  }
    where
      own-taken : (t : ℕ) → t ≡ s → T (new.taken t)
      own-taken t z = subst (λ u. T (new.taken u)) (sym z) (subst T (sym (here s true w.taken)) tt)

      there : (t : ℕ) (b : Bool) → T (elim b [ true ↦ true | false ↦ w.taken t ]) → (T (w.taken t) → T (is_some (w.clerk t))) → T (is_some (elim b [ true ↦ Some k | false ↦ w.clerk t ]))
      there t true u h = tt
      there t false u h = h u

  -- its Claim is empty
  pub opened-claims : (c : ℕ) → TokensAgree (sent c (Claim s e []) new)
  opened-claims c = sent-agrees new c (Claim s e []) opened-agrees (
    (subst T (sym (here s true w.taken)) tt, fits.0, λ j i. let p : e ≡ j.epoch = ap (λ z. z.epoch) (same_some (sym (here s (Some k) w.clerk) ∙ i)) in omega arith),
    (λ a o. while-all w.tables _ (λ v n j i. let p : k ≡ j = same_some (sym (here s (Some k) w.clerk) ∙ i) in subst (ClaimFits new s e []) p (refl, λ x. (omega arith, omega arith)))),
    tt,
  )
