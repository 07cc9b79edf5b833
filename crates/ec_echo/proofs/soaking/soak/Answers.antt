use Rattle.std.proofs.Common.{List, ℕ, Some, None, subst, ◌∙◌}
use Rattle.ec_echo.specs.Soak.{Told}
use Rattle.ec_echo.proofs.Soaks.{soaked_by}
use Rattle.ec_echo.proofs.soaking.soak.Goals as goal

pub returns-clause-soaked : goal.returns-clause-soaked
returns-clause-soaked g c =
    let held = g.K.Sink.held c.args.sink.now in
    let now = g.K.Sink.held c.tell.new.sink in
    let writes = g.K.Sink.faults c.args.sink.now in
    let later = g.K.Sink.faults c.tell.new.sink in
    soaked_by c.args.number c.drill-end.result c.tell.result
    (record {
      source = record { bytes = None; bytes_after = None; faults = 0; faults_after = 0 };
      sink = record { bytes = held; bytes_after = now; faults = writes; faults_after = later };
      store = record { tells = g.D.Disk.tells; disk = g.D.Disk.view c.args.disk.now; disk_after = g.D.Disk.view c.drill-end.new.disk; counts = g.D.Disk.counts c.args.disk.now; counts_after = g.D.Disk.counts c.drill-end.new.disk };
    })
    c.deref.result.now c.new-transcript.result.bytes.items (Some c.drill-end.new.source.ahead.now) c.drill-end.new.sink.bytes.items (c.deref.ensures.value ∙ c.in-Ok.ensures) c.new-transcript.ensures c.drill-end.ensures.drilled
    (subst (λ (t : List ℕ). Told c.args.number c.drill-end.result t c.tell.result held now writes later) c.bytes.ensures c.tell.ensures.told)
