-- A clerk leaves its session, which has ended.
use Rattle.std.proofs.Common.{◌≡◌, refl, subst, ℕ, Bool, true, false, not, T}
use Rattle.std.specs.Prelude.{◌==◌, None, Some, is_some}
use Rattle.ec_sessions.specs.declared.recall.want.Want as want
use Rattle.ec_wire.specs.declared.msg.Msg.{Msg}
use Rattle.ec_wire.specs.declared.msg.Msg.TheVariants.{Want, Back, Flush, Room, Claim, Bye, Opened, Grant, Recall, Ids, Restarted}
use Rattle.ec_coherence.specs.Tokens.{Tables, View, Side, InSession, Names, is_untaken, is_hidden, Fits, Passed, IdsFit, ClaimFits, RoomFits, Noted, TablesAgree, TokensAgree}
use Rattle.ec_coherence.proofs.ForClerk.Sides.{sided, while-map, contra}
use Rattle.ec_coherence.proofs.ForServer.Tables.{each-map}
use Rattle.ec_base.proofs.Options.{none_some}
use Rattle.ec_base.proofs.Numbers.{equal}
use Rattle.ec_base.proofs.Bools.{not-both as refutes}

module _ (w : View) (s : ℕ) (agree : TokensAgree w) (over : T (not (w.is_open s))) where
  abbrev new : View
  new = sided s None w

  -- of the clerks that are still in sessions all stays
  inside : (t : ℕ) (P Q : Side → Type 0) → ((j : Side) → P j → Q j) → InSession w t P → InSession new t Q
  inside t P Q other f j = go (t == s)
    where
      go : (b : Bool) → elim b [ true ↦ None | false ↦ w.clerk t ] ≡ Some j → Q j
      go true p = absurd (none_some p)
      go false p = other j (f j p)

  hidden-less : (t x : ℕ) → T (is_hidden new t x) → T (is_hidden w t x)
  hidden-less t x h = go (t == s) h
    where
      go : (b : Bool) → T (is_untaken (w.grants t) (w.first t) (elim b [ true ↦ None | false ↦ w.clerk t ]) x) → T (is_hidden w t x)
      go true h = absurd h
      go false h = h

  names-more : (x : ℕ) → Names w x → Names new x
  names-more x q = (q.0, λ t. contra (is_hidden w t x) (is_hidden new t x) (hidden-less t x) (q.1 t))

  pass : (t e : ℕ) → Passed w t e → Passed new t e
  pass t e p = (p.0, p.1, inside t _ _ (λ j q. q) p.2)

  message-kept : (m : Msg) → Fits w m → Fits new m
  message-kept (Want t e x h n) q = (pass t e q.0, q.1, names-more x q.2, inside t _ _ (λ j f. f) q.3)
  message-kept (Back t e x n h) q = (pass t e q.0, names-more x q.1, inside t _ _ (λ j f. f) q.2)
  message-kept (Flush t e b ops) q = pass t e q
  message-kept (Room t e got ask) q = (pass t e q.0, inside t (RoomFits w t e got) (RoomFits new t e got) (λ j f. f) q.1)
  message-kept (Claim t e l) q = (pass t e q.0, (λ a o. while-map w.tables _ _ (λ v up f c. inside t (ClaimFits w t e l) (ClaimFits new t e l) (λ j g. g) (f c)) (q.1 a o)), each-map _ _ l (λ c. names-more c.0) q.2)
  message-kept (Bye t e) q = pass t e q
  message-kept (Opened age t e) q = q
  message-kept (Grant t e x n h i) q = (pass t e q.0, q.1, q.2, names-more x q.3, inside t _ _ (λ j f. f) q.4)
  message-kept (Recall t e x n h) q = (pass t e q.0, names-more x q.1)
  message-kept (Ids t e got n first) q = (pass t e q.0, q.1, q.2, q.3, q.4, inside t (IdsFit w t e got n first) (IdsFit new t e got n first) (λ j f. f) q.5)
  message-kept (Restarted t e) q = q
  message-kept _ q = q

  noted-want : (v : Tables) → (q : want.Want) → Noted w v q → Noted new v q
  noted-want v q f = (f.0, f.1, f.2, names-more q.obj f.3, inside q.session _ _ (λ j g. g) f.4)

  tables-kept : (v : Tables) → w.tables ≡ Some v → TablesAgree w v → TablesAgree new v
  tables-kept v up a = record {
    sound = a.sound;
    are_open = a.are_open;
    epochs = λ t c. inside t _ _ (λ j b. b) (a.epochs t c);
    others = a.others;
    wants = each-map (Noted w v) (Noted new v) v.recalls (noted-want v) a.wants;
    apart = a.apart;
    numbers = a.numbers;
    recorded = λ t n p. let q = a.recorded t n p in (q.0, q.1, λ got g. inside t (IdsFit w t w.epoch got n (w.first t)) (IdsFit new t w.epoch got n (w.first t)) (λ j f. f) (q.2 got g));
    unrecorded = λ t x c r h. a.unrecorded t x c r (hidden-less t x h);
  }

  pub left-agrees : TokensAgree new
  left-agrees = record {
    held = agree.held;
    holds = λ t x. inside t _ _ (λ j f. f) (agree.holds t x);
    known = agree.known;
    next = agree.next;
    exclusive = agree.exclusive;
    below = λ t x. inside t _ _ (λ j f. f) (agree.below t x);
    got = λ t. inside t _ _ (λ j f. f) (agree.got t);
    given = agree.given;
    alone = λ t x h. let q = agree.alone t x (hidden-less t x h) in
        ((λ u d. ((q.0 u d).0, contra (is_hidden w u x) (is_hidden new u x) (hidden-less u x) (q.0 u d).1)), inside t _ _ (λ j f. f) q.1, q.2);
    lasts = λ t x. inside t _ _ (λ j f. f) (agree.lasts t x);
    recalled = λ t. inside t _ _ (λ j f. each-map _ _ j.recalls (λ r. names-more r.obj) f) (agree.recalled t);
    present = λ t o u. there t (t == s) refl o (agree.present t o u);
    messages = each-map (λ m. Fits w m.1) (λ m. Fits new m.1) w.pool (λ m. message-kept m.1) agree.messages;
    tables = while-map w.tables (TablesAgree w) (TablesAgree new) tables-kept agree.tables;
  }
    where
      there : (t : ℕ) (b : Bool) → (t == s) ≡ b → T (w.is_open t) → T (is_some (w.clerk t)) → T (is_some (elim b [ true ↦ None | false ↦ w.clerk t ]))
      there t true e o h = absurd (refutes (w.is_open s) (subst (λ u. T (w.is_open u)) (equal t s e) o) over)
      there t false e o h = h
