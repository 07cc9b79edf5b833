-- A start that spends nothing has a record: the new epoch.
use Rattle.std.proofs.Common.{◌≡◌, ◌+◌, Bool, true, false, eq-eqb, None, Some, Result, Ok, Err, refl, sym, ap, ◌∙◌}
use Rattle.std.specs.Prelude.{nat_le}
use Rattle.ec_base.specs.Limits.{last_counter}
use Rattle.ec_base.specs.declared.counter.Counter.{Counter}
use Rattle.ec_base.specs.declared.counter.Counter.TheVariants as counter
use Rattle.ec_durable.specs.Durable.{step}
use Rattle.ec_durable.specs.declared.state.Durable.{Durable}
use Rattle.ec_durable.specs.declared.record.Record.TheVariants as record_of
use Rattle.ec_durable.specs.declared.record.RecordFault.{RecordFault}
use Rattle.ec_durable.specs.declared.record.RecordFault.TheVariants as record_fault
use Rattle.ec_protocol.specs.Server.{Serving, start, new_server, serving, spend, commit, stay, tell_all}
use Rattle.ec_protocol.specs.declared.server.Server.{Server as State}
use Rattle.ec_server.specs.ServeLaws.{told_all}

step_epoch : (d : Durable) → step (record_of.Epoch (d.epoch + 1)) d ≡ Ok (record d { epoch = d.epoch + 1 })
step_epoch d =
    let by : Bool → Result Durable RecordFault = λ b. elim b [ false ↦ Err record_fault.BadNumber | true ↦ Ok (record d { epoch = d.epoch + 1 }) ] in
    ap by (eq-eqb (d.epoch + 1) (d.epoch + 1) refl)

started_by : Durable → Bool → Serving
started_by d b = elim b [ true ↦ spend counter.Epoch (serving (new_server d)) | false ↦ commit (record_of.Epoch (d.epoch + 1)) (λ u. tell_all 0 u.server.durable.sessions u) stay (serving (new_server d)) ]

committed_by : Durable → Result Durable RecordFault → Serving
committed_by d res =
    let t = serving (new_server d) in
    elim res [ Ok e ↦ tell_all 0 e.sessions (record t { server = record (t.server) { durable = e }; rec = Some (record_of.Epoch (d.epoch + 1)) }) | Err f ↦ t ]

pub start_records : (d : Durable) → (start d).spent ≡ None → (start d).rec ≡ Some (record_of.Epoch (start d).server.durable.epoch)
unfolding started_by committed_by
start_records d none = go (nat_le last_counter d.epoch) none
  where
    told : (t : Serving) → t ≡ committed_by d (Ok (record d { epoch = d.epoch + 1 })) → t.rec ≡ Some (record_of.Epoch t.server.durable.epoch)
    told t is =
        let e : Durable = record d { epoch = d.epoch + 1 } in
        let u : Serving = record (serving (new_server d)) { server = record (new_server d) { durable = e }; rec = Some (record_of.Epoch (d.epoch + 1)) } in
        let same = told_all 0 e.sessions u in
        ap (λ (x : Serving). x.rec) is ∙ same.1 ∙ ap (λ (s : State). Some (record_of.Epoch s.durable.epoch)) (sym same.0 ∙ sym (ap (λ (x : Serving). x.server) is))

    spent : (n : Counter) → Some n ≡ None → ⊥
    spent n e = absurd cc

    go : (b : Bool) → (started_by d b).spent ≡ None → (started_by d b).rec ≡ Some (record_of.Epoch (started_by d b).server.durable.epoch)
    go true none = absurd (spent counter.Epoch none)
    go false none = told (started_by d false) (ap (committed_by d) (step_epoch d))
