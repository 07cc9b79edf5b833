use Rattle.std.proofs.Common.{◌≡◌, IfOk, ◌∙◌, subst}
use Rattle.ec_mount.proofs.Texts.{wrote_piece}
use Rattle.ec_mount.proofs.shown.write_line.Goals as goal

pub returns-in-Ok-clause-written : goal.returns-in-Ok-clause-written
returns-in-Ok-clause-written g c text some is =
    wrote_piece c.deref.result.now text (g.K.Sink.held c.args.sink.now) (g.K.Sink.held c.write_whole.new.sink) (g.K.Sink.faults c.args.sink.now) (g.K.Sink.faults c.write_whole.new.sink) c.write_whole.result
    (c.deref.ensures.value ∙ subst (λ l. IfOk l (λ made. made.items ≡ text)) c.in-Ok.is is) c.write_whole.ensures.ok c.write_whole.ensures.err
