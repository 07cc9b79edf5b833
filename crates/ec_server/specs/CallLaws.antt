-- What a call of a server leaves. No public clause cites this file.
use Rattle.std.proofs.Common.{◌≡◌, ◌≤◌, refl, sym, ap, subst, ◌∙◌, arith, ℕ, Bool, true, false, not, ◌&&◌, List, [], ◌∷◌, Option, None, Some, Result, Ok, Err, length}
use Rattle.std.specs.Prelude.{◌↔◌, nat_lt, nat_le, OnOk, IfOk, IfErr, IsOk, IsTrue}
use Rattle.std.specs.List.{list_all}
use Rattle.std.proofs.lemmas.Bool.{and_parts, lt-ltb}
use Rattle.ec_base.specs.declared.ids.Hold.{Hold}
use Rattle.ec_base.specs.declared.ids.Hold.TheVariants.{Free, Read, Write}
use Rattle.ec_base.specs.Holds.{is_free}
use Rattle.ec_base.specs.Tables.{keys}
use Rattle.ec_disk.specs.Disk.{Counts}
use Rattle.ec_sessions.specs.Slots as slots
use Rattle.ec_sessions.specs.OfTokens.SoundTokens.{rises_from, is_claim}
use Rattle.ec_volume.specs.Update.{is_sound as is_sound_update}
use Rattle.ec_volume.specs.declared.update.Update.{Update}
use Rattle.ec_wire.specs.Messages.{is_sound, rises, is_held_mode}
use Rattle.ec_wire.specs.declared.msg.Msg.{Msg}
use Rattle.ec_wire.specs.declared.msg.Msg.TheVariants as msg
use Rattle.ec_durable.specs.Durable.{slot, steps}
use Rattle.ec_durable.specs.WellFormed.{IsInOrder}
use Rattle.ec_durable.specs.SoundRecords.{is_sound_record}
use Rattle.ec_durable.specs.declared.state.Durable.{Durable}
use Rattle.ec_durable.specs.declared.record.Record.{Record}
use Rattle.ec_durable.specs.declared.record.Record.TheVariants.{Batch}
use Rattle.ec_durable.specs.declared.record.RecordFault.{RecordFault}
use Rattle.ec_protocol.specs.Server.{Serving, serving, taken, in_session, end_open, serve, end}
use Rattle.ec_protocol.specs.declared.server.Server.{Server}
use Rattle.ec_protocol.specs.declared.server.Served.{Served}
use Rattle.ec_machine_laws.specs.OfAppliedOnce.Once.{record_list, NoneAgain, AllPast}
use Rattle.ec_machine_laws.proofs.OfAppliedOnce.Once.{again, past}
use Rattle.ec_server.specs.Clerks.{HaveClerks, Records, Goes}
use Rattle.ec_server.specs.ClerkLaws.{taken_goes}
use Rattle.ec_server.specs.ServeLaws.{serve_serves, ended_goes, end_rec}
use Rattle.ec_server.specs.Servers.{GoesDown}
use Rattle.ec_server.specs.Steps.{server, under, FaultLeaves, does}
use Rattle.ec_admission.specs.Parts.{part_of}
use Rattle.ec_admission.specs.declared.messages.Part.{Part}
use Rattle.ec_server.specs.declared.state.Core.{Core}
use Rattle.ec_server.specs.declared.fault.ServerFault.{ServerFault}
use Rattle.ec_server.specs.declared.fault.ServerFault.TheVariants.{DiskFailed, DiskStopped, Spent, NoMemory}

-- Steps.

pub taken_clerks : (c : ℕ) (m : Msg) (s : Server) (t u : Serving) → t ≡ serving s → taken c m t ≡ u → HaveClerks s → HaveClerks u.server
taken_clerks c m s t u p q h = subst (λ (v : Serving). HaveClerks v.server) (ap (taken c m) (sym p) ∙ q) (taken_goes c m (serving s) refl h).clerks

pub end_clerks : (c : ℕ) (s : Server) (t u : Serving) → t ≡ serving s → end_open c (slot s.durable c) t ≡ u → HaveClerks s → HaveClerks u.server
end_clerks c s t u p q h = subst (λ (v : Serving). HaveClerks v.server) (ap (end_open c (slot s.durable c)) (sym p) ∙ q) (ended_goes c (slot s.durable c) (serving s) refl h).clerks

-- a fault before the wants are served
pub leaves_served : (fault : ServerFault) (a b : Counts) (f : Serving → Serving) (s new : Server) (t : Serving) → t ≡ serving s → FaultLeaves fault a b (f t) t.server new → FaultLeaves fault a b (serve (f (serving s))) s new
leaves_served fault a b f s new t p h = go fault (subst (λ (v : Serving). FaultLeaves fault a b (f v) v.server new) p h)
  where
    go : (e : ServerFault) → FaultLeaves e a b (f (serving s)) s new → FaultLeaves e a b (serve (f (serving s))) s new
    go (Spent n) h = ((serve_serves (f (serving s))).spent n h.0, h.1)
    go DiskFailed h = h
    go DiskStopped h = h
    go NoMemory h = tt

-- Answers.

abbrev pub with_answer : Server → Served → Serving
with_answer s served = record { server = s; sent = served.sent; rec = served.rec; spent = None }

pub call_answered : (m : Serving) (e : Durable) (core after : Core) (served : Served) → m ≡ under e core → server e after ≡ server e core → served.sent ≡ core.sent.items → served.rec ≡ core.rec → m ≡ with_answer (server e after) served
call_answered m e core after served p q r n =
    p ∙ ap (λ (s : Server). record { server = s; sent = core.sent.items; rec = core.rec; spent = None }) (sym q)
    ∙ ap (λ (l : List (ℕ × Msg)). record { server = server e after; sent = l; rec = core.rec; spent = None }) (sym r)
    ∙ ap (λ (o : Option Record). record { server = server e after; sent = served.sent; rec = o; spent = None }) (sym n)

apart : false ≡ true → ⊥
apart p = absurd cc

pub answers_ok : {U : Type 0} (done : Result U ServerFault) (res : Result Served ServerFault) (m : Serving) (e : Durable) (core after : Core) → OnOk done (m ≡ under e core)
    → IfOk res (λ served. IsOk done × (served.sent ≡ core.sent.items) × (served.rec ≡ core.rec)) → server e after ≡ server e core → IfOk res (λ served. m ≡ with_answer (server e after) served)
answers_ok (Ok u) (Ok served) m e core after p r q = call_answered m e core after served p q r.1 r.2
answers_ok (Err f) (Ok served) m e core after p r q = absurd (apart r.0)
answers_ok done (Err f) m e core after p r q = tt

pub answers_err : (U : Type 0) (done : Result U ServerFault) (res : Result Served ServerFault) (a b : Counts) (m : Serving) (e : Durable) (old : Server) (core after : Core)
    → IfErr done (λ fault. FaultLeaves fault a b m old (server e core)) → IfErr res (λ fault. done ≡ Err fault) → server e after ≡ server e core → IfErr res (λ fault. FaultLeaves fault a b m old (server e after))
answers_err U done (Ok served) a b m e old core after p r q = tt
answers_err U done (Err f) a b m e old core after p r q =
    subst (λ (s : Server). FaultLeaves f a b m old s) (sym q) (by done p r)
  where
    by : (d : Result U ServerFault) → IfErr d (λ fault. FaultLeaves fault a b m old (server e core)) → d ≡ Err f → FaultLeaves f a b m old (server e core)
    by (Ok u) p r = absurd cc
    by (Err g) p r = let same : g ≡ f = cc in subst (λ (x : ServerFault). FaultLeaves x a b m old (server e core)) same p

both : (x : Bool) → x ≡ true → x ≡ false → ⊥
both x p q = absurd cc

-- what the machine's step keeps stays, unless the server is down
pub answers_stand : (P : Server → Type 0) (res : Result Served ServerFault) (down now : Bool) (a b : Counts) (m : Serving) (old new : Server) → GoesDown res down now → IfOk res (λ served. m ≡ with_answer new served)
    → IfErr res (λ fault. FaultLeaves fault a b m old new) → P m.server → P old → now ≡ false → P new
answers_stand P (Ok served) down now a b m old new g p r h k q = subst (λ (v : Serving). P v.server) p h
answers_stand P (Err (Spent n)) down now a b m old new g p r h k q = subst P (sym r.1) k
answers_stand P (Err DiskFailed) down now a b m old new g p r h k q = absurd (both now g.1 q)
answers_stand P (Err DiskStopped) down now a b m old new g p r h k q = absurd (both now g.1 q)
answers_stand P (Err NoMemory) down now a b m old new g p r h k q = absurd (both now g q)

pub record_by : (m : Serving) (d : Durable) (new : Server) (served : Served) → m ≡ with_answer new served → Goes d m → Records served.rec d new.durable
record_by m d new served p g = subst (λ (v : Serving). Records v.rec d v.server.durable) p g.record_of

pub answers_record : (res : Result Served ServerFault) (m : Serving) (d : Durable) (new : Server) → IfOk res (λ served. m ≡ with_answer new served) → Goes d m → IfOk res (λ served. Records served.rec d new.durable)
answers_record (Ok served) m d new p g = record_by m d new served p g
answers_record (Err f) m d new p g = tt

led_by : (o : Option Record) (d e : Durable) → Records o d e → steps (record_list o) d ≡ Ok e
led_by None d e r = ap (λ (z : Durable). Ok z) (sym r)
led_by (Some k) d e r = ap (λ (z : Result Durable RecordFault). elim z as (λ y. Result Durable RecordFault) [ Err fault ↦ Err fault | Ok m ↦ Ok m ]) r

pub once_by : (o : Option Record) (d e : Durable) → Records o d e → NoneAgain (record_list o) d e
once_by o d e r = again (record_list o) d e (led_by o d e r)

pub answers_once : (res : Result Served ServerFault) (d e : Durable) → IfOk res (λ served. Records served.rec d e) → IfOk res (λ served. NoneAgain (record_list served.rec) d e)
answers_once (Ok served) d e r = once_by served.rec d e r
answers_once (Err f) d e r = tt

pub answers_now : (res : Result Served ServerFault) (d e : Durable) → IfOk res (λ served. Records served.rec d e) → IfOk res (λ served. IsInOrder d → AllPast (record_list served.rec) e)
answers_now (Ok served) d e r = λ order. past (record_list served.rec) d e order (led_by served.rec d e r)
answers_now (Err f) d e r = tt

pub answers_none : (res : Result Served ServerFault) (c : ℕ) (s new : Server) → IfOk res (λ served. end c s ≡ with_answer new served) → IfOk res (λ served. (served.rec ≡ None) ↔ (slots.is_open (slot s.durable c) ≡ false))
answers_none (Ok served) c s new p = subst (λ (v : Serving). (v.rec ≡ None) ↔ (slots.is_open (slot s.durable c) ≡ false)) p (end_rec c s)
answers_none (Err f) c s new p = tt

-- Messages.

same_part : {p q : Part} → Some p ≡ Some q → p ≡ q
same_part is = cc

pub taken_part : (c : ℕ) (m : Msg) (q : Part) (t : Serving) → part_of m ≡ Some q → taken c m t ≡ in_session c q.session q.at_epoch q.needs_no_claim (does c m) t
taken_part c (msg.Want ss e x h last) q t is = ap (λ (p : Part). in_session c p.session p.at_epoch p.needs_no_claim (does c (msg.Want ss e x h last)) t) (same_part is)
taken_part c (msg.Back ss e x n h) q t is = ap (λ (p : Part). in_session c p.session p.at_epoch p.needs_no_claim (does c (msg.Back ss e x n h)) t) (same_part is)
taken_part c (msg.Flush ss e b ops) q t is = ap (λ (p : Part). in_session c p.session p.at_epoch p.needs_no_claim (does c (msg.Flush ss e b ops)) t) (same_part is)
taken_part c (msg.Room ss e got ask) q t is = ap (λ (p : Part). in_session c p.session p.at_epoch p.needs_no_claim (does c (msg.Room ss e got ask)) t) (same_part is)
taken_part c (msg.Claim ss e list) q t is = ap (λ (p : Part). in_session c p.session p.at_epoch p.needs_no_claim (does c (msg.Claim ss e list)) t) (same_part is)
taken_part c (msg.Bye ss e) q t is = ap (λ (p : Part). in_session c p.session p.at_epoch p.needs_no_claim (does c (msg.Bye ss e)) t) (same_part is)
taken_part c _ q t is = absurd cc

-- What is sound.

pub sound_ops : (m : Msg) (c s e b : ℕ) (ops : List (ℕ × Update)) → IsTrue (is_sound m) → m ≡ msg.Flush s e b ops → is_sound_record (Batch c s b ops) ≡ true
sound_ops m c s e b ops h is = both (nat_le 1 (length ops)) (nat_le (length ops) 64) (rises (keys ops)) (list_all (λ op. is_sound_update op.1) ops) (subst (λ (n : Msg). IsTrue (is_sound n)) is h)
  where
    both : (x y z w : Bool) → (x && y && z && w) ≡ true → (x && y && w) ≡ true
    both x y z w h = grind (arith, h)

-- the first id is one
abbrev pub IsFromOne : List (ℕ × Hold) → Type 0
IsFromOne [] = Unit {0}
IsFromOne (e ∷ es) = 1 ≤ e.0

held_all : (list : List (ℕ × Hold)) → list_all (λ t. is_held_mode t.1) list ≡ true → list_all (λ e. not (is_free e.1)) list ≡ true
held_all [] h = refl
held_all (e ∷ es) h =
    let p = and_parts (is_held_mode e.1) (list_all (λ t. is_held_mode t.1) es) h in
    ap (λ b. b && list_all (λ e. not (is_free e.1)) es) (by e.1 p.0) ∙ held_all es p.1
  where
    by : (h : Hold) → is_held_mode h ≡ true → not (is_free h) ≡ true
    by Free h = absurd cc
    by Read h = refl
    by Write h = refl

rising : (e : ℕ × Hold) (es : List (ℕ × Hold)) → rises (keys (e ∷ es)) ≡ true → rises_from e.0 es ≡ true
rising e [] h = refl
rising e (f ∷ es) h =
    let p = and_parts (nat_lt e.0 f.0) (rises (keys (f ∷ es))) h in
    ap (λ b. b && rises_from f.0 es) p.0 ∙ rising f es p.1

pub sound_claim : (m : Msg) (s e : ℕ) (list : List (ℕ × Hold)) → IsTrue (is_sound m) → m ≡ msg.Claim s e list → IsFromOne list → IsTrue (is_claim list)
sound_claim m s e list h is one =
    let p = and_parts (rises (keys list)) (list_all (λ t. is_held_mode t.1) list) (subst (λ (n : Msg). IsTrue (is_sound n)) is h) in
    ap (λ b. b && list_all (λ e. not (is_free e.1)) list) (from list p.0 one) ∙ held_all list p.1
  where
    from : (l : List (ℕ × Hold)) → rises (keys l) ≡ true → IsFromOne l → rises_from 0 l ≡ true
    from [] h one = refl
    from (e ∷ es) h one = ap (λ b. b && rises_from e.0 es) (lt-ltb 0 e.0 (omega (arith, one))) ∙ rising e es h
