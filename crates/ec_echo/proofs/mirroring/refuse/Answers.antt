use Rattle.std.proofs.Common.{sym, subst}
use Rattle.ec_echo.specs.Mirroring.{TellsFault, mirror_text}
use Rattle.ec_echo.specs.OfNamed.Seen.{stream}
use Rattle.ec_echo.specs.declared.status.Status.TheVariants as status
use Rattle.ec_echo.proofs.Mirrors.{text-told}
use Rattle.ec_echo.proofs.mirroring.refuse.Goals as goal

pub returns-in-BadMirror-clause-told : goal.returns-in-BadMirror-clause-told
returns-in-BadMirror-clause-told g c =
    let sink = stream g.K.Sink.held g.K.Sink.faults c.args.sink.now c.write_made.new.sink in
    subst (λ f. TellsFault f c.write_made.result sink) (sym c.in-BadMirror.is)
    (text-told c.mirror_text.result (λ t. t.items) (mirror_text c.in-BadMirror.which c.in-BadMirror.place) status.BadDisk c.write_made.result sink.bytes sink.bytes_after sink.faults sink.faults_after c.mirror_text.ensures c.write_made.ensures.written)
