-- A server refuses room only with the counts of its state, and serving wants refuses none.
use Rattle.std.proofs.Common.{◌≡◌, refl, arith, ◌≤◌, ◌+◌, ℕ, zero, suc, T, Bool, true, false, if◌then◌else◌, List, [], ◌∷◌, length, Option, Some, None}
use Rattle.std.specs.Prelude.{nat_le, Result, Ok, Err, ⊤}
use Rattle.std.specs.List.{list_any}
use Rattle.std.proofs.lemmas.List.{length-append}
use Rattle.ec_base.specs.Limits.{last_counter}
use Rattle.ec_base.specs.declared.counter.Counter.TheVariants as counter
use Rattle.ec_history.specs.History.{Each}
use Rattle.ec_volume.specs.Volume.{images}
use Rattle.ec_sessions.specs.Slots as slots
use Rattle.ec_sessions.specs.Slots.{Slots, all_unspent}
use Rattle.ec_sessions.specs.declared.slot.Slot.{Slot}
use Rattle.ec_sessions.specs.OfRecall.Due.{actions, wants_after}
use Rattle.ec_sessions.specs.declared.recall.want.Action.{Action}
use Rattle.ec_sessions.specs.declared.recall.want.Action.TheVariants.{Grant, Recall}
use Rattle.ec_wire.specs.declared.msg.Msg.{Msg}
use Rattle.ec_wire.specs.declared.msg.Msg.TheVariants as msg
use Rattle.ec_durable.specs.Durable.{live, reserved, slot, step}
use Rattle.ec_durable.specs.WellFormed.{IsInOrder}
use Rattle.ec_durable.specs.declared.record.Record.TheVariants as record_of
use Rattle.ec_durable.specs.declared.record.RecordFault.{RecordFault}
use Rattle.ec_durable.specs.declared.state.Durable.{Durable}
use Rattle.ec_protocol.specs.Server.{Serving, act, act_all, all_claimed, clerk_of, end, end_open, epoch, is_grant, is_last_number, new_server, next_number, serve, serve_rounds, serving, spend, start, stay, take, taken, tell, tell_all, tell_ended, tell_start, with_server}
use Rattle.ec_protocol.specs.declared.server.Server.{Server}
use Rattle.ec_machine_laws.specs.OfNodeLaws.Rooms.{RefusesNone, TellsCounts}
use Rattle.ec_machine_laws.proofs.OfNodeLaws.Taken.{IsKept, IsPlain, MayCome, ended-goes, taken-goes}
use Rattle.ec_history.proofs.HistoryLemmas.{each-more}

-- Reserved ids are unspent ones of open sessions.
few-reserved : (ss : Slots) → slots.reserved ss ≤ length (all_unspent ss)
few-reserved [] = omega arith
few-reserved (None ∷ ss) = let le = few-reserved ss in omega (arith, le)
few-reserved (Some sl ∷ ss) = one sl.is_open (length sl.unspent) (slots.reserved ss) (length (all_unspent ss)) (length (all_unspent (Some sl ∷ ss))) (few-reserved ss) (length-append sl.unspent (all_unspent ss))
  where
    one : (b : Bool) (n r u a : ℕ) → r ≤ u → a ≡ n + u → (if b then n else 0) + r ≤ a
    one true n r u a le is = omega (arith, le, is)
    one false n r u a le is = omega (arith, le, is)

within : (d : Durable) → IsInOrder d → live d + reserved d ≤ d.max_objects
within d o = add (length d.volume) (slots.reserved d.sessions) (length (all_unspent d.sessions)) d.max_objects (few-reserved d.sessions) o.few
  where
    add : (n r u most : ℕ) → r ≤ u → T (nat_le (n + u) most) → n + r ≤ most
    add n r u most le few = grind (arith, le, few)

-- A step before wants are served.

abbrev Any : Server → Type 0
Any v = ⊤

any-kept : IsKept Any (λ ss. ⊤)
any-kept = record { steps = λ v r e ok h. tt; forgets = λ v ss h. tt; opens = λ v c age old e ok h. tt; others = λ v ts ws n rs h. tt; claims = λ v ss ts may h. tt }

-- P holds of all messages but refusals
module _ (P : Msg → Type 0) (plain : (m : Msg) → RefusesNone m → P m) where
  plainly : (m : Msg) → IsPlain m → P m
  plainly (msg.Grant s e x n h i) p = absurd p
  plainly (msg.Recall s e x n h) p = absurd p
  plainly (msg.NoRoom s e ask live reserved) p = absurd p
  plainly (msg.Hello from age) p = plain (msg.Hello from age) tt
  plainly (msg.Want s e x h last) p = plain (msg.Want s e x h last) tt
  plainly (msg.Back s e x n h) p = plain (msg.Back s e x n h) tt
  plainly (msg.Flush s e b ops) p = plain (msg.Flush s e b ops) tt
  plainly (msg.Room s e got ask) p = plain (msg.Room s e got ask) tt
  plainly (msg.Claim s e list) p = plain (msg.Claim s e list) tt
  plainly (msg.Bye s e) p = plain (msg.Bye s e) tt
  plainly (msg.Opened age s e) p = plain (msg.Opened age s e) tt
  plainly (msg.Kept s e b) p = plain (msg.Kept s e b) tt
  plainly (msg.Ids s e got n first) p = plain (msg.Ids s e got n first) tt
  plainly (msg.Ended s low mask) p = plain (msg.Ended s low mask) tt
  plainly (msg.Restarted s e) p = plain (msg.Restarted s e) tt
  plainly (msg.OldBoot asked greatest) p = plain (msg.OldBoot asked greatest) tt

  abbrev Sends : Serving → Type 0
  Sends t = Each {A = ℕ × Msg} (λ s. P s.1) t.sent

  says : (c : ℕ) (m : Msg) (t : Serving) → RefusesNone m → Sends t → Sends (tell c m t)
  says c m t p h = each-more (λ s. P s.1) t.sent ((c, m) ∷ []) h (plain m p, tt)

  numbered : (t : Serving) → Sends t → Sends (next_number t)
  numbered t h = go (is_last_number t)
    where
      go : (b : Bool) → Sends (elim b as (λ z. Serving) [ true ↦ spend counter.Number t | false ↦ with_server (λ v. record v { number = v.number + 1 }) t ])
      go true = h
      go false = h

  acts : (t : Serving) (a : Action) → Sends t → Sends (act a t)
  acts t (Grant ss x h) k =
      let u : Serving = next_number t in
      each-more (λ s. P s.1) u.sent ((clerk_of ss u, msg.Grant ss (epoch u) x u.server.number h (images u.server.durable.volume x)) ∷ []) (numbered t k) (plain (msg.Grant ss (epoch u) x u.server.number h (images u.server.durable.volume x)) tt, tt)
  acts t (Recall ss x n h) k = says (clerk_of ss t) (msg.Recall ss (epoch t) x n h) t tt k

  acts-all : (as' : List Action) (t : Serving) → Sends t → Sends (act_all as' t)
  acts-all [] t h = h
  acts-all (a ∷ more) t h = acts-all more (act a t) (acts t a h)

  rounds : (k : ℕ) (t : Serving) → Sends t → Sends (serve_rounds k t)
  rounds zero t h = h
  rounds (suc k) t h = go (list_any is_grant due) (rounds k u on)
    where
      due : List Action
      due = actions t.server.tokens t.server.recalls

      u : Serving
      u = act_all due (with_server (λ v. record v { recalls = wants_after v.tokens v.recalls }) t)

      on : Sends u
      on = acts-all due (with_server (λ v. record v { recalls = wants_after v.tokens v.recalls }) t) h

      go : (b : Bool) → Sends (serve_rounds k u) → Sends (elim b as (λ z. Serving) [ true ↦ serve_rounds k u | false ↦ u ])
      go true r = r
      go false r = on

  serves : (t : Serving) → Sends t → Sends (serve t)
  serves t h = go (all_claimed t.server)
    where
      go : (b : Bool) → Sends (elim b as (λ z. Serving) [ true ↦ serve_rounds (suc (length t.server.recalls)) t | false ↦ t ])
      go true = rounds (suc (length t.server.recalls)) t h
      go false = h

  taken-sends : (c : ℕ) (m : Msg) (v : Server) → MayCome Any (λ ss. ⊤) any-kept P plainly m (serving v) → Sends (take c m v)
  taken-sends c m v may = serves (taken c m (serving v)) (taken-goes Any (λ ss. ⊤) any-kept P plainly c m (serving v) may (tt, tt)).1

  ended-sends : (c : ℕ) (v : Server) → Sends (end c v)
  ended-sends c v = serves (end_open c (slot v.durable c) (serving v)) (ended-goes Any (λ ss. ⊤) any-kept P plainly c (slot v.durable c) (serving v) (tt, tt)).1

  -- A start tells each clerk.

  starts-one : (c : ℕ) (t : Serving) (o : Option Slot) → Sends t → Sends (tell_start c t o)
  starts-one c t None h = says c (msg.Restarted 0 (epoch t)) t tt h
  starts-one c t (Some sl) h = go sl.is_open
    where
      go : (b : Bool) → Sends (elim b as (λ z. Serving) [ true ↦ tell c (msg.Restarted sl.session (epoch t)) t | false ↦ tell_ended c sl t ])
      go true = says c (msg.Restarted sl.session (epoch t)) t tt h
      go false = says c (msg.Ended sl.session sl.window.low sl.window.mask) t tt h

  starts-all : (c : ℕ) (ss : Slots) (t : Serving) → Sends t → Sends (tell_all c ss t)
  starts-all c [] t h = h
  starts-all c (o ∷ ss) t h = starts-all (c + 1) ss (tell_start c t o) (starts-one c t o h)

  started-sends : (d : Durable) → Sends (start d)
  started-sends d = go (nat_le last_counter d.epoch) (step (record_of.Epoch (d.epoch + 1)) d)
    where
      go : (b : Bool) (o : Result Durable RecordFault) → Sends (elim b as (λ z. Serving) [
        | true ↦ spend counter.Epoch (serving (new_server d))
        | false ↦ elim o as (λ z. Serving) [
          | Ok e ↦ tell_all 0 e.sessions (record (serving (new_server d)) { server = record (new_server d) { durable = e }; rec = Some (record_of.Epoch (d.epoch + 1)) })
          | Err fault ↦ stay (serving (new_server d))
        ]
      ])
      go true o = tt
      go false (Ok e) = starts-all 0 e.sessions (record (serving (new_server d)) { server = record (new_server d) { durable = e }; rec = Some (record_of.Epoch (d.epoch + 1)) }) tt
      go false (Err fault) = tt

-- The two laws.

counted : (d : Durable) (m : Msg) → RefusesNone m → TellsCounts d m
counted d (msg.NoRoom s e ask live reserved) p = absurd p
counted d _ p = tt

none : (m : Msg) → RefusesNone m → RefusesNone m
none m p = p

may-count : (m : Msg) (v : Server) → IsInOrder v.durable → MayCome Any (λ ss. ⊤) any-kept (TellsCounts v.durable) (plainly (TellsCounts v.durable) (counted v.durable)) m (serving v)
may-count (msg.Want ss e x h last) v o = λ k is. tt
may-count (msg.Room ss e got ask) v o = (refl, refl, within v.durable o)
may-count (msg.Claim ss e list) v o = tt
may-count _ v o = tt

pub takes-count : (c : ℕ) (m : Msg) (v : Server) → IsInOrder v.durable → Each (λ (s : ℕ × Msg). TellsCounts v.durable s.1) (take c m v).sent
takes-count c m v o = taken-sends (TellsCounts v.durable) (counted v.durable) c m v (may-count m v o)

pub ends-refuse-none : (c : ℕ) (v : Server) → Each (λ (s : ℕ × Msg). RefusesNone s.1) (end c v).sent
ends-refuse-none c v = ended-sends RefusesNone none c v

pub starts-refuse-none : (d : Durable) → Each (λ (s : ℕ × Msg). RefusesNone s.1) (start d).sent
starts-refuse-none d = started-sends RefusesNone none d
