-- Claims come before service.
use Rattle.std.proofs.Common.{◌≡◌, refl, sym, subst, ◌∙◌, arith, ◌<◌, ◌==◌, ◌+◌, ℕ, T, Bool, true, false, not, List, [], ◌∷◌, Option, Some, None}
use Rattle.std.specs.Prelude.{nat_le, Result, Ok, Err, ⊤}
use Rattle.ec_base.specs.Limits.{last_counter}
use Rattle.ec_base.specs.declared.counter.Counter.{Counter}
use Rattle.ec_base.specs.declared.counter.Counter.TheVariants as counter
use Rattle.ec_history.specs.History.{Each}
use Rattle.ec_sessions.specs.Slots.{Slots}
use Rattle.ec_sessions.specs.declared.slot.Slot.{Slot}
use Rattle.ec_wire.specs.declared.msg.Msg.{Msg}
use Rattle.ec_wire.specs.declared.msg.Msg.TheVariants as msg
use Rattle.ec_durable.specs.Durable.{slot, step}
use Rattle.ec_durable.specs.declared.record.Record.TheVariants as record_of
use Rattle.ec_durable.specs.declared.record.RecordFault.{RecordFault}
use Rattle.ec_durable.specs.declared.state.Durable.{Durable}
use Rattle.ec_protocol.specs.Server.{Serving, new_server, serve, serving, spend, start, stay, taken, tell_all, tell_start, end_open}
use Rattle.ec_protocol.specs.declared.server.Server.{Server}
use Rattle.ec_machine_laws.specs.OfAppliedOnce.Safe.{Act, acted, does, ends, server_after, starts, takes}
use Rattle.ec_machine_laws.specs.OfNodeLaws.Claims.{ClaimsComeFirst, IsBefore, IsOpen, ServesNone}
use Rattle.ec_machine_laws.proofs.OfNodeLaws.Served.{served-none, served-not}
use Rattle.ec_machine_laws.proofs.OfNodeLaws.Taken.{IsPlain, MayCome, ended-goes, taken-goes}
use Rattle.ec_machine_laws.proofs.OfNodeLaws.Unclaimed.{HasNot, IsOther, next-later, unclaimed-kept}

any-message : (m : Msg) → IsPlain m → ⊤
any-message m p = tt

no-want : (a : Act) (v : Server) (m : Msg) → IsPlain m → ServesNone a v m
no-want a v (msg.Grant s e x n h i) p = absurd p
no-want a v (msg.Recall s e x n h) p = absurd p
no-want a v (msg.NoRoom s e ask live reserved) p = absurd p
no-want a v _ p = tt

-- the act before wants are served
abbrev before_service : Act → Server → Serving
before_service (takes c m) v = taken c m (serving v)
before_service (ends c) v = end_open c (slot v.durable c) (serving v)
before_service starts v = start v.durable

other-session : (s ss : ℕ) → T (not (ss == s)) → (s == ss) ≡ false
other-session s ss h = grind (arith, h)

module _ (s : ℕ) where
  may-come : (c : ℕ) (m : Msg) (v : Server) → IsBefore s (takes c m) → MayCome (HasNot s) (IsOther s) (unclaimed-kept s) (λ m. ⊤) any-message m (serving v)
  may-come c (msg.Want ss e x h last) v b = λ k is. tt
  may-come c (msg.Room ss e got ask) v b = tt
  may-come c (msg.Claim ss e list) v b = other-session s ss b
  may-come c _ v b = tt

  may-serve : (c : ℕ) (m : Msg) (v : Server) → IsBefore s (takes c m) → MayCome (HasNot s) (IsOther s) (unclaimed-kept s) (ServesNone (takes c m) v) (no-want (takes c m) v) m (serving v)
  may-serve c (msg.Want ss e x h last) v b = λ k is. (refl, refl, k, is, refl)
  may-serve c (msg.Room ss e got ask) v b = tt
  may-serve c (msg.Claim ss e list) v b = other-session s ss b
  may-serve c _ v b = tt

  -- each step leaves it so
  step-not : (a : Act) (v : Server) → IsBefore s a → HasNot s v → HasNot s (does a v).server
  step-not (takes c m) v b h = served-not s (taken c m (serving v)) (taken-goes (HasNot s) (IsOther s) (unclaimed-kept s) (λ m. ⊤) any-message c m (serving v) (may-come c m v b) (h, tt)).0
  step-not (ends c) v b h = served-not s (end_open c (slot v.durable c) (serving v)) (ended-goes (HasNot s) (IsOther s) (unclaimed-kept s) (λ m. ⊤) any-message c (slot v.durable c) (serving v) (h, tt)).0
  step-not starts v b h = absurd b

  after-not : (t : Serving) (v : Server) → HasNot s v → HasNot s t.server → HasNot s (server_after t v)
  after-not t v h k = go t.spent
    where
      go : (o : Option Counter) → HasNot s (elim o as (λ z. Server) [ None ↦ t.server | Some n ↦ v ])
      go None = k
      go (Some n) = h

  acts-not : (acts : List Act) (v : Server) → Each (IsBefore s) acts → HasNot s v → HasNot s (acted acts v)
  acts-not [] v b h = h
  acts-not (a ∷ more) v b h = acts-not more (server_after (does a v) v) b.1 (after-not (does a v) v h (step-not a v b.0 h))

  -- and in it nothing is served
  step-serves : (a : Act) (v : Server) → IsBefore s a → HasNot s v → IsOpen s (does a v).server.durable → Each {A = ℕ × Msg} (λ m. ServesNone a v m.1) (does a v).sent
  step-serves (takes c m) v b h o =
      let g = taken-goes (HasNot s) (IsOther s) (unclaimed-kept s) (ServesNone (takes c m) v) (no-want (takes c m) v) c m (serving v) (may-serve c m v b) (h, tt) in
      subst (λ t. Each {A = ℕ × Msg} (λ m'. ServesNone (takes c m) v m'.1) t.sent) (sym (served-none s (taken c m (serving v)) g.0 o)) g.1
  step-serves (ends c) v b h o =
      let g = ended-goes (HasNot s) (IsOther s) (unclaimed-kept s) (ServesNone (ends c) v) (no-want (ends c) v) c (slot v.durable c) (serving v) (h, tt) in
      subst (λ t. Each {A = ℕ × Msg} (λ m'. ServesNone (ends c) v m'.1) t.sent) (sym (served-none s (end_open c (slot v.durable c) (serving v)) g.0 o)) g.1
  step-serves starts v b h o = absurd b

-- A start.

told-same : (c : ℕ) (slots : Slots) (t : Serving) → (tell_all c slots t).server ≡ t.server
told-same c [] t = refl
told-same c (o ∷ slots) t = told-same (c + 1) slots (tell_start c t o) ∙ one o
  where
    one : (o : Option Slot) → (tell_start c t o).server ≡ t.server
    one None = refl
    one (Some sl) = go sl.is_open
      where
        go : (b : Bool) → (elim b as (λ z. Serving) [ true ↦ Rattle.ec_protocol.specs.Server.tell c (msg.Restarted sl.session t.server.durable.epoch) t | false ↦ Rattle.ec_protocol.specs.Server.tell_ended c sl t ]).server ≡ t.server
        go true = refl
        go false = refl

start-not : (d : Durable) (s : ℕ) → s < d.next_session → HasNot s (start d).server
start-not d s lt = go (nat_le last_counter d.epoch) (step (record_of.Epoch (d.epoch + 1)) d) refl
  where
    new : HasNot s (new_server d)
    new = record { unclaimed = λ m. m; given = lt }

    go : (b : Bool) (o : Result Durable RecordFault) → step (record_of.Epoch (d.epoch + 1)) d ≡ o → HasNot s (elim b as (λ z. Serving) [
      | true ↦ spend counter.Epoch (serving (new_server d))
      | false ↦ elim o as (λ z. Serving) [
        | Ok e ↦ tell_all 0 e.sessions (record (serving (new_server d)) { server = record (new_server d) { durable = e }; rec = Some (record_of.Epoch (d.epoch + 1)) })
        | Err fault ↦ stay (serving (new_server d))
      ]
    ]).server
    go true o is = new
    go false (Ok e) is = subst (HasNot s) (sym (told-same 0 e.sessions (record (serving (new_server d)) { server = record (new_server d) { durable = e }; rec = Some (record_of.Epoch (d.epoch + 1)) }))) (record { unclaimed = λ m. m; given = next-later (record_of.Epoch (d.epoch + 1)) d e is s lt })
    go false (Err fault) is = new

pub claims-first : ClaimsComeFirst
claims-first d s lt acts a before last spent o = step-serves s a (acted acts (start d).server) last (acts-not s acts (start d).server before (start-not d s lt)) o
