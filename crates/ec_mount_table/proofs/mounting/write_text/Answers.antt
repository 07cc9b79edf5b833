use Rattle.std.proofs.Common.{◌≡◌, IfOk, ◌∙◌, inl, subst}
use Rattle.ec_mount.proofs.Texts.{wrote_piece}
use Rattle.ec_mount_table.proofs.mounting.write_text.Goals as goal

pub returns-in-Ok-clause-wrote : goal.returns-in-Ok-clause-wrote
returns-in-Ok-clause-wrote g c t is =
    inl (
      c.write_whole.result,
      c.ended_by.ensures,
      wrote_piece c.deref.result.now t (g.K.Sink.held c.args.sink.now) (g.K.Sink.held c.write_whole.new.sink) (g.K.Sink.faults c.args.sink.now) (g.K.Sink.faults c.write_whole.new.sink) c.write_whole.result
          (c.deref.ensures.value ∙ subst (λ l. IfOk l (λ made. made.items ≡ t)) c.in-Ok.is is) c.write_whole.ensures.ok c.write_whole.ensures.err,
    )
