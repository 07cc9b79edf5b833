-- What a commit leaves of the step and its keeper. No public clause cites this file.
use Rattle.std.proofs.Common.{◌≡◌, ◌<◌, ◌≤◌, ◌⊎◌, inl, inr, refl, sym, ap, subst, ◌∙◌, arith, ℕ, Bool, true, false, not, ◌||◌, List, [], ◌∷◌, Option, None, Some, Result, Ok, Err, length}
use Rattle.std.specs.Prelude.{◌==◌, ◌+◌, nat_lt, nat_le, IfOk, IfErr, OnOk, IsOk}
use Rattle.ec_base.specs.Limits.{last_counter}
use Rattle.ec_base.specs.Tables.{put}
use Rattle.ec_base.specs.declared.counter.Counter.TheVariants as counter
use Rattle.ec_base.specs.declared.ids.Age.{Age}
use Rattle.ec_sessions.specs.Limits.{last_first_id, last_grants}
use Rattle.ec_sessions.specs.Slots.{Slots, run}
use Rattle.ec_sessions.specs.declared.slot.Slot.{Slot}
use Rattle.ec_volume.specs.declared.update.Update.{Update}
use Rattle.ec_wire.specs.declared.msg.Msg.TheVariants.{Kept, Restarted}
use Rattle.ec_durable.specs.Durable.{step, slot, has_batch, is_full}
use Rattle.ec_durable.specs.declared.state.Durable.{Durable}
use Rattle.ec_durable.specs.declared.record.Record.{Record}
use Rattle.ec_durable.specs.declared.record.Record.TheVariants.{Batch, Open, End, Ids, Epoch}
use Rattle.ec_durable.specs.declared.record.RecordFault.{RecordFault}
use Rattle.ec_protocol.specs.Server.{Serving, commit, stay, tell, with_server, forget, tell_ended, tell_opened, finish, open_new, spend, epoch, flush, may_write, grant_ids, ids_are_spent, send_ids, record_ids, with_ids, start, serving, new_server, tell_start, tell_all, serve}
use Rattle.ec_protocol.specs.declared.server.Served.{Served}
use Rattle.ec_server.specs.ClerkLaws.{goes_on, behind}
use Rattle.ec_server.specs.Keepers.{Did, MayHave, Hurts, SpendsNothing, HasNumbers, HasRoom, Moves, EndsRecord, Fails}
use Rattle.ec_server.specs.Laws.{at_some, at_none, flush_by, ids_by, spent_or, start_by, no_session, not_le}
use Rattle.ec_admission.specs.Waits.{fewer}
use Rattle.ec_server.specs.NumberLaws.{no_clash, serve_lasts}
use Rattle.ec_server.specs.ServeLaws.{serve_serves, told_all}
use Rattle.ec_server.specs.Steps.{under, at_slot, Commits}
use Rattle.ec_server.specs.declared.state.Core.{Core}
use Rattle.ec_server.specs.declared.fault.ServerFault.{ServerFault}
use Rattle.ec_server.specs.declared.fault.ServerFault.TheVariants.{DiskFailed, DiskStopped, Spent, NoMemory}

-- A step by this record: it's the step's, and leaves numbers.
pub record TakesRecord (r : Record) (core : Core) (done : Serving) : Type 0 where
  pub rec : done.rec ≡ Some r
  pub numbers : HasRoom core → HasNumbers done

committed_by : (r : Record) (f g : Serving → Serving) (d e : Durable) (core : Core) → step r d ≡ Ok e → commit r f g (under d core) ≡ f (behind r e (under d core))
unfolding goes_on
committed_by r f g d e core is = ap (goes_on r f g (under d core)) is

refused_by : (r : Record) (f g : Serving → Serving) (d : Durable) (core : Core) (fault : RecordFault) → step r d ≡ Err fault → commit r f g (under d core) ≡ g (under d core)
unfolding goes_on
refused_by r f g d core fault is = ap (goes_on r f g (under d core)) is

within : (a b x c : ℕ) → x ≤ b → a + b < c → a + x ≤ c
within a b x c p q = omega arith

same_within : (a b c : ℕ) → a + b < c → a + b ≤ c
same_within a b c p = omega arith

-- An end.
pub finish_takes : (c : ℕ) (sl : Slot) (s : ℕ) (d e : Durable) (core : Core) → slot d c ≡ Some sl → sl.session ≡ s → step (End c s) d ≡ Ok e → TakesRecord (End c s) core (at_slot c (finish c) (under d core))
finish_takes c sl s d e core at same is = subst (λ (n : ℕ). step (End c n) d ≡ Ok e → TakesRecord (End c n) core (at_slot c (finish c) (under d core))) same by is
  where
    by : step (End c sl.session) d ≡ Ok e → TakesRecord (End c sl.session) core (at_slot c (finish c) (under d core))
    by is =
        subst (TakesRecord (End c sl.session) core) (sym (at_some c (finish c) (under d core) sl at ∙ committed_by (End c sl.session) (λ u. tell_ended c sl (with_server (forget sl.session) u)) stay d e core is))
        (record { rec = refl; numbers = λ room. (refl, within core.number (length core.recalls) _ last_counter (fewer (λ w. not (w.session == sl.session)) core.recalls) room) })

-- An opening.
pub open_takes : (c : ℕ) (age : Age) (s : ℕ) (old : Option ℕ) (d e : Durable) (core : Core) → s ≡ d.next_session → s < last_counter → step (Open c age s) d ≡ Ok e → TakesRecord (Open c age s) core (open_new c age old (under d core))
unfolding spent_or
open_takes c age s old d e core same less is =
    subst (λ (n : ℕ). n < last_counter → step (Open c age n) d ≡ Ok e → TakesRecord (Open c age n) core (open_new c age old (under d core))) (sym same) by less is
  where
    told : (o : Option ℕ) → TakesRecord (Open c age d.next_session) core (tell_opened c age d.next_session o (behind (Open c age d.next_session) e (under d core)))
    told None = record { rec = refl; numbers = λ room. (refl, same_within core.number (length core.recalls) last_counter room) }
    told (Some n) = record { rec = refl; numbers = λ room. (refl, within core.number (length core.recalls) _ last_counter (fewer (λ w. not (w.session == n)) core.recalls) room) }

    by : d.next_session < last_counter → step (Open c age d.next_session) d ≡ Ok e → TakesRecord (Open c age d.next_session) core (open_new c age old (under d core))
    by less is =
        subst (TakesRecord (Open c age d.next_session) core)
        (sym (ap (spent_or (spend counter.Session (under d core)) (commit (Open c age d.next_session) (tell_opened c age d.next_session old) stay (under d core))) (not_le last_counter d.next_session less)
        ∙ committed_by (Open c age d.next_session) (tell_opened c age d.next_session old) stay d e core is))
        (told old)

-- A batch.
pub flush_takes : (c ss b : ℕ) (ops : List (ℕ × Update)) (d e : Durable) (core : Core) → has_batch b (slot d c) ≡ false → may_write core.tokens ss ops ≡ true → step (Batch c ss b ops) d ≡ Ok e
    → TakesRecord (Batch c ss b ops) core (at_slot c (flush c ss b ops) (under d core))
unfolding flush_by
flush_takes c ss b ops d e core had may is = go (slot d c) refl had
  where
    go : (o : Option Slot) → slot d c ≡ o → has_batch b o ≡ false → TakesRecord (Batch c ss b ops) core (at_slot c (flush c ss b ops) (under d core))
    go None p h = absurd (no_session c ss b ops d e p is)
    go (Some sl) p h =
        subst (TakesRecord (Batch c ss b ops) core)
        (sym (at_some c (flush c ss b ops) (under d core) sl p
        ∙ ap (λ x. flush_by c ss b ops sl (under d core) x (may_write core.tokens ss ops)) h
        ∙ ap (λ x. flush_by c ss b ops sl (under d core) false x) may
        ∙ committed_by (Batch c ss b ops) (λ u. tell c (Kept ss (epoch u) b) u) (finish c sl) d e core is))
        (record { rec = refl; numbers = λ room. (refl, same_within core.number (length core.recalls) last_counter room) })

pub flush_takes_by : (c ss b : ℕ) (xs ops : List (ℕ × Update)) (d e : Durable) (core : Core) → xs ≡ ops → has_batch b (slot d c) ≡ false → may_write core.tokens ss ops ≡ true → step (Batch c ss b xs) d ≡ Ok e
    → TakesRecord (Batch c ss b xs) core (at_slot c (flush c ss b ops) (under d core))
flush_takes_by c ss b xs ops d e core same had may =
    subst (λ (ys : List (ℕ × Update)). step (Batch c ss b ys) d ≡ Ok e → TakesRecord (Batch c ss b ys) core (at_slot c (flush c ss b ops) (under d core))) (sym same) (flush_takes c ss b ops d e core had may)

-- a batch that may not be written, or is refused, ends the session
pub flush_ends : (c ss b : ℕ) (ops : List (ℕ × Update)) (d : Durable) (core : Core) → has_batch b (slot d c) ≡ false → (may_write core.tokens ss ops ≡ false) ⊎ ((fault : RecordFault) × (step (Batch c ss b ops) d ≡ Err fault))
    → at_slot c (finish c) (under d core) ≡ at_slot c (flush c ss b ops) (under d core)
unfolding flush_by
flush_ends c ss b ops d core had why = go (slot d c) refl had
  where
    by : (sl : Slot) (x : Bool) → may_write core.tokens ss ops ≡ x → (x ≡ false) ⊎ ((fault : RecordFault) × (step (Batch c ss b ops) d ≡ Err fault)) → flush_by c ss b ops sl (under d core) false x ≡ finish c sl (under d core)
    by sl false q w = refl
    by sl true q (inl w) = absurd cc
    by sl true q (inr w) = refused_by (Batch c ss b ops) (λ u. tell c (Kept ss (epoch u) b) u) (finish c sl) d core w.0 w.1

    go : (o : Option Slot) → slot d c ≡ o → has_batch b o ≡ false → at_slot c (finish c) (under d core) ≡ at_slot c (flush c ss b ops) (under d core)
    go None p h = at_none c (finish c) (under d core) p ∙ sym (at_none c (flush c ss b ops) (under d core) p)
    go (Some sl) p h =
        at_some c (finish c) (under d core) sl p
        ∙ sym (at_some c (flush c ss b ops) (under d core) sl p
        ∙ ap (λ x. flush_by c ss b ops sl (under d core) x (may_write core.tokens ss ops)) h
        ∙ by sl (may_write core.tokens ss ops) refl why)

-- Ids.
pub grant_takes : (c ss got ask n : ℕ) (d e : Durable) (core : Core) → is_full d ≡ false → (nat_lt last_first_id d.next_id || nat_le last_grants got) ≡ false → n ≡ d.next_id → step (Ids c ss got n) d ≡ Ok e
    → TakesRecord (Ids c ss got n) core (grant_ids c ss got ask (under d core))
unfolding ids_by
grant_takes c ss got ask n d e core full fits same is = subst (λ (m : ℕ). step (Ids c ss got m) d ≡ Ok e → TakesRecord (Ids c ss got m) core (grant_ids c ss got ask (under d core))) (sym same) by is
  where
    t : Serving
    t = behind (Ids c ss got d.next_id) e (under d core)

    one_more : (a b c : ℕ) → a + b < c → (a + 1) + b ≤ c
    one_more a b c p = omega arith

    no_room : (a b c : ℕ) → nat_le c a ≡ true → a + b < c → ⊥
    no_room a b c p q = no_clash c a b p (omega (arith, q))

    recorded : Serving → Serving
    recorded u = send_ids c ss got d.next_id (with_server (λ s. record s { tokens = with_ids ss s.number (run d.next_id 16) s.tokens; recorded = put ss s.number s.recorded }) u)

    sent : (x : Bool) → nat_le last_counter core.number ≡ x
        → TakesRecord (Ids c ss got d.next_id) core
        (recorded (elim x as (λ z. Serving) [
          | true ↦ spend counter.Number (behind (Ids c ss got d.next_id) e (under d core))
          | false ↦ with_server (λ s. record s { number = s.number + 1 }) (behind (Ids c ss got d.next_id) e (under d core))
        ]))
    sent true p = record { rec = refl; numbers = λ room. absurd (no_room core.number (length core.recalls) last_counter p room) }
    sent false p = record { rec = refl; numbers = λ room. (refl, one_more core.number (length core.recalls) last_counter room) }

    by : step (Ids c ss got d.next_id) d ≡ Ok e → TakesRecord (Ids c ss got d.next_id) core (grant_ids c ss got ask (under d core))
    by is =
        subst (TakesRecord (Ids c ss got d.next_id) core)
        (sym (ap (λ x. ids_by c ss got ask (under d core) x (ids_are_spent got (under d core))) full
        ∙ ap (λ x. ids_by c ss got ask (under d core) false x) fits
        ∙ committed_by (Ids c ss got d.next_id) (λ u. send_ids c ss got d.next_id (record_ids ss d.next_id u)) stay d e core is))
        (sent (nat_le last_counter core.number) refl)

-- A start.

told_spent : (c : ℕ) (list : Slots) (t : Serving) → (tell_all c list t).spent ≡ t.spent
told_spent c [] t = refl
told_spent c (o ∷ list) t = told_spent (c + 1) list (tell_start c t o) ∙ one o
  where
    told : Slot → Bool → Serving
    told sl b = elim b [ true ↦ tell c (Restarted sl.session t.server.durable.epoch) t | false ↦ tell_ended c sl t ]

    by : (sl : Slot) (b : Bool) → (told sl b).spent ≡ t.spent
    by sl true = refl
    by sl false = refl

    one : (o : Option Slot) → (tell_start c t o).spent ≡ t.spent
    one None = refl
    one (Some sl) = by sl sl.is_open

-- the start's record, which spends nothing
pub start_takes : (n : ℕ) (d e : Durable) → n ≡ d.epoch → n < last_counter → step (Epoch (n + 1)) d ≡ Ok e → ((start d).rec ≡ Some (Epoch (n + 1))) × ((start d).spent ≡ None)
unfolding start_by goes_on
start_takes n d e same less is = subst (λ (m : ℕ). m < last_counter → step (Epoch (m + 1)) d ≡ Ok e → ((start d).rec ≡ Some (Epoch (m + 1))) × ((start d).spent ≡ None)) (sym same) by less is
  where
    by : d.epoch < last_counter → step (Epoch (d.epoch + 1)) d ≡ Ok e → ((start d).rec ≡ Some (Epoch (d.epoch + 1))) × ((start d).spent ≡ None)
    by less is =
        let t = behind (Epoch (d.epoch + 1)) e (serving (new_server d)) in
        let goes : start d ≡ tell_all 0 e.sessions t =
        ap (start_by d (serving (new_server d))) (not_le last_counter d.epoch less)
        ∙ ap (goes_on (Epoch (d.epoch + 1)) (λ u. tell_all 0 u.server.durable.sessions u) stay (serving (new_server d))) is in
        (ap (λ (u : Serving). u.rec) goes ∙ (told_all 0 e.sessions t).1, ap (λ (u : Serving). u.spent) goes ∙ told_spent 0 e.sessions t)

-- Keepers.

module _ {K : Type 0} (did broke : K → Record → K → Type 0) where
  pub fails : (r : Record) (d : Durable) (core : Core) (k l : K) → HasRoom core → broke k r l → ((fault : RecordFault) → step r d ≡ Err fault → l ≡ k) → Fails broke NoMemory r d core k l
  fails r d core k l room b f = go (step r d) refl
    where
      go : (res : Result Durable RecordFault) → step r d ≡ res → Fails broke NoMemory r d core k l
      go (Ok e) is = inr (room, (e, is), b)
      go (Err fault) is = inl (f fault is)

  -- a commit that a fault ends
  pub hurts : (fault : ServerFault) (r : Record) (d : Durable) (core : Core) (done : Serving) (k l : K) → Fails broke fault r d core k l → ((e : Durable) → step r d ≡ Ok e → TakesRecord r core done) → Hurts HasNumbers did broke fault done k l
  hurts (Spent n) r d core done k l h f = absurd h
  hurts DiskFailed r d core done k l h f = let p = f h.1.0 h.1.1 in (p.numbers h.0, (r, p.rec, h.2))
  hurts DiskStopped r d core done k l h f = let p = f h.1.0 h.1.1 in (p.numbers h.0, (r, p.rec, h.2))
  hurts NoMemory r d core done k l (inl h) f = inl h
  hurts NoMemory r d core done k l (inr h) f = let p = f h.1.0 h.1.1 in inr (p.numbers h.0, (r, p.rec, inr h.2))

  -- the same of a start
  pub hurts_start : (fault : ServerFault) (r : Record) (d : Durable) (core : Core) (done : Serving) (k l : K) → Fails broke fault r d core k l → ((e : Durable) → step r d ≡ Ok e → (done.rec ≡ Some r) × (done.spent ≡ None))
      → Hurts SpendsNothing did broke fault done k l
  hurts_start (Spent n) r d core done k l h f = absurd h
  hurts_start DiskFailed r d core done k l h f = let p = f h.1.0 h.1.1 in (p.1, (r, p.0, h.2))
  hurts_start DiskStopped r d core done k l h f = let p = f h.1.0 h.1.1 in (p.1, (r, p.0, h.2))
  hurts_start NoMemory r d core done k l (inl h) f = inl h
  hurts_start NoMemory r d core done k l (inr h) f = let p = f h.1.0 h.1.1 in inr (p.1, (r, p.0, inr h.2))

  -- a commit behind which there are numbers
  pub commits : (b : Bool) (r : Record) (d e f : Durable) (old mid new : Core) (done : Serving) (before rec : Option Record) (k l : K) → b ≡ true → Commits b r d e old mid → EndsRecord did b r before rec old k l → new.rec ≡ rec
      → (step r d ≡ Ok e → TakesRecord r old done) → done ≡ under f new → Moves did before new k l
  commits false r d e f old mid new done before rec k l p h q same g is = absurd cc
  commits true r d e f old mid new done before rec k l p h q same g is = inr (r, same ∙ q.0, q.1, (subst HasNumbers is ((g h.1).numbers q.2)).1)

  -- want of memory behind a commit
  pub late_want : (b : Bool) (r : Record) (d e : Durable) (old new : Core) (done : Serving) (before after : Option Record) (k l : K) → b ≡ true → Commits b r d e old new → EndsRecord did b r before after old k l → (step r d ≡ Ok e → TakesRecord r old done)
      → MayHave HasNumbers did broke done k l
  late_want false r d e old new done before after k l p h q f = absurd cc
  late_want true r d e old new done before after k l p h q f = let t = f h.1 in inr (t.numbers q.2, (r, t.rec, inl q.1))

  -- the same of a start
  pub late_start : (b : Bool) (r : Record) (d e : Durable) (old new : Core) (done : Serving) (before after : Option Record) (k l : K) → b ≡ true → Commits b r d e old new → EndsRecord did b r before after old k l
      → (step r d ≡ Ok e → (done.rec ≡ Some r) × (done.spent ≡ None)) → MayHave SpendsNothing did broke done k l
  late_start false r d e old new done before after k l p h q f = absurd cc
  late_start true r d e old new done before after k l p h q f = let t = f h.1 in inr (t.1, (r, t.0, inl q.1))

  -- an end in the place of a refused batch
  pub hurts_refused : {U : Type 0} (res : Result U ServerFault) (x : Bool) (c ss b : ℕ) (xs ops : List (ℕ × Update)) (d e : Durable) (old new : Core) (before after : Option Record) (k m l : K) → x ≡ false → xs ≡ ops
      → has_batch b (slot d c) ≡ false → Commits x (Batch c ss b xs) d e old new → EndsRecord did x (Batch c ss b xs) before after old k m → IfErr res (λ fault. Hurts HasNumbers did broke fault (at_slot c (finish c) (under e new)) m l)
      → IfErr res (λ fault. Hurts HasNumbers did broke fault (at_slot c (flush c ss b ops) (under d old)) k l)
  hurts_refused res true c ss b xs ops d e old new before after k m l p same had h q r = absurd cc
  hurts_refused res false c ss b xs ops d e old new before after k m l p same had h q r =
      let refused : (fault : RecordFault) × (step (Batch c ss b ops) d ≡ Err fault) = subst (λ (ys : List (ℕ × Update)). (fault : RecordFault) × (step (Batch c ss b ys) d ≡ Err fault)) same h.2 in
      let state : under e new ≡ under d old = h.1 ∙ ap (λ (x : Durable). under x old) h.0 in
      let done : at_slot c (finish c) (under e new) ≡ at_slot c (flush c ss b ops) (under d old) = ap (at_slot c (finish c)) state ∙ flush_ends c ss b ops d old had (inr refused) in
      subst (λ (t : Serving). IfErr res (λ fault. Hurts HasNumbers did broke fault t k l)) done (subst (λ (n : K). IfErr res (λ fault. Hurts HasNumbers did broke fault (at_slot c (finish c) (under e new)) n l)) q.1 r)

  moved_by : (before after : Option Record) (k l : K) → before ≡ None → ((after ≡ before) × (l ≡ k)) ⊎ ((r : Record) × (after ≡ Some r) × did k r l) → Did did after k l
  moved_by before None k l none (inl p) = p.1
  moved_by before (Some r) k l none (inl p) = absurd (not_none (p.0 ∙ none))
    where
      not_none : Some r ≡ None → ⊥
      not_none q = absurd cc
  moved_by before None k l none (inr q) = absurd (not_none q.1)
    where
      not_none : None ≡ Some q.0 → ⊥
      not_none p = absurd cc
  moved_by before (Some r) k l none (inr q) = subst (λ (x : Record). did k x l) (sym (same q.1)) q.2
    where
      same : Some r ≡ Some q.0 → r ≡ q.0
      same p = cc

  pub moved : (before : Option Record) (core : Core) (k l : K) → before ≡ None → Moves did before core k l → Did did core.rec k l
  moved before core k l none (inl p) = moved_by before core.rec k l none (inl p)
  moved before core k l none (inr q) = moved_by before core.rec k l none (inr (q.0, q.1, q.2))

  -- Whole steps: what is served changes none of it.

  pub hurts_served : (fault : ServerFault) (t u : Serving) (f : Serving → Serving) (k l : K) → t ≡ u → Hurts HasNumbers did broke fault (f t) k l → Hurts SpendsNothing did broke fault (serve (f u)) k l
  hurts_served fault t u f k l p h = go fault (subst (λ (v : Serving). Hurts HasNumbers did broke fault (f v) k l) p h)
    where
      rec_too : (r : Record) → (f u).rec ≡ Some r → (serve (f u)).rec ≡ Some r
      rec_too r q = (serve_serves (f u)).rec ∙ q

      go : (fault : ServerFault) → Hurts HasNumbers did broke fault (f u) k l → Hurts SpendsNothing did broke fault (serve (f u)) k l
      go (Spent n) h = h
      go DiskFailed h = ((serve_lasts (f u) h.0).0, (h.1.0, rec_too h.1.0 h.1.1, h.1.2))
      go DiskStopped h = ((serve_lasts (f u) h.0).0, (h.1.0, rec_too h.1.0 h.1.1, h.1.2))
      go NoMemory (inl h) = inl h
      go NoMemory (inr h) = inr ((serve_lasts (f u) h.0).0, (h.1.0, rec_too h.1.0 h.1.1, h.1.2))

  pub did_served : (e : Durable) (before : Option Record) (now after : Core) (k l : K) → before ≡ None → serve (under e now) ≡ under e after → Moves did before now k l → Did did after.rec k l
  did_served e before now after k l none same m =
      subst (λ (o : Option Record). Did did o k l) (sym (serve_serves (under e now)).rec ∙ ap (λ (t : Serving). t.rec) same) (moved before now k l none m)

  -- want of memory while wants are served
  pub may_served : (before : Option Record) (e : Durable) (now : Core) (done : Serving) (k l : K) → before ≡ None → done ≡ under e now → Moves did before now k l → MayHave SpendsNothing did broke (serve done) k l
  may_served before e now done k l none same (inl p) = inl p.1
  may_served before e now done k l none same (inr q) =
      let numbers : HasNumbers done = subst HasNumbers (sym same) (refl, q.3) in
      inr ((serve_lasts done numbers).0, (q.0, (serve_serves done).rec ∙ ap (λ (t : Serving). t.rec) same ∙ q.1, inl q.2))

  -- Answers.

  pub answers_did : {U : Type 0} (done : Result U ServerFault) (res : Result Served ServerFault) (core : Core) (k l : K) → OnOk done (Did did core.rec k l)
      → IfOk res (λ served. IsOk done × (served.sent ≡ core.sent.items) × (served.rec ≡ core.rec)) → IfOk res (λ served. Did did served.rec k l)
  answers_did (Ok u) (Ok served) core k l p r = subst (λ (o : Option Record). Did did o k l) (sym r.2) p
  answers_did (Err f) (Ok served) core k l p r = absurd (apart r.0)
    where
      apart : false ≡ true → ⊥
      apart p = absurd cc
  answers_did done (Err f) core k l p r = tt

  pub answers_hurt : (U : Type 0) (done : Result U ServerFault) (res : Result Served ServerFault) (m : Serving) (k l : K)
      → IfErr done (λ fault. Hurts SpendsNothing did broke fault m k l) → IfErr res (λ fault. done ≡ Err fault) → IfErr res (λ fault. Hurts SpendsNothing did broke fault m k l)
  answers_hurt U done (Ok served) m k l p r = tt
  answers_hurt U done (Err f) m k l p r = by done p r
    where
      by : (d : Result U ServerFault) → IfErr d (λ fault. Hurts SpendsNothing did broke fault m k l) → d ≡ Err f → Hurts SpendsNothing did broke f m k l
      by (Ok u) p r = absurd cc
      by (Err g) p r = let same : g ≡ f = cc in subst (λ (x : ServerFault). Hurts SpendsNothing did broke x m k l) same p
