use Rattle.std.proofs.Common.{◌≡◌, ℕ, sym, subst, ◌∙◌, map}
use Rattle.std.specs.String.{string_bytes}
use Rattle.ec_echo.specs.OfNamed.Forms.{Asks}
use Rattle.ec_echo.specs.OfNamed.Seen.{stream, store}
use Rattle.ec_echo.proofs.OfNamed.Promised.{asked, say-all}
use Rattle.echofs.proofs.process.Goals as goal

pub returns-clause-usage : goal.returns-clause-usage
returns-clause-usage g c =
    let words = map string_bytes c.args.words.now in
    asked words _ (subst (λ (k : ℕ). Asks words k) (sym c.end.ensures) c.echo_main.ensures.usage)

pub returns-clause-echoes : goal.returns-clause-echoes
returns-clause-echoes g c =
    let e = c.echo_main.ensures in
    let source = stream g.S.Source.left g.S.Source.faults c.args.source.now c.echo_main.new.source in
    let sink = stream g.K.Sink.held g.K.Sink.faults c.args.sink.now c.echo_main.new.sink in
    let disk = store g.D.Disk.tells g.D.Disk.view g.D.Disk.counts c.args.disk.now c.echo_main.new.disk in
    let did = say-all _ _ c.echo_main.result source sink disk _ (record {
      usage = e.usage;
      untouched = e.untouched;
      alone = e.alone;
      claims = e.claims;
      drill = e.drill;
      check = e.check;
      make = e.make;
      soak = e.soak;
      serve = e.serve;
      mount = e.mount;
      mounts = e.mounts;
      leases = e.leases;
    }) in
    (did.0, c.end.ensures ∙ did.1, did.2)
