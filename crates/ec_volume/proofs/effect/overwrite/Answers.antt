use Rattle.std.proofs.Common.{◌∙◌, arith}
use Rattle.ec_volume.proofs.Bytes.{overwritten_filled, whole}
use Rattle.ec_volume.proofs.effect.overwrite.Goals as goal

pub returns-clause-ok : goal.returns-clause-ok
returns-clause-ok c =
    whole c.write_at.new.bytes c.lengthen.new.bytes.items c.lengthen.new.bytes.len (omega arith)
    ∙ c.write_at.ensures ∙ overwritten_filled c.args.at c.args.new.now c.args.bytes.now.items c.deref_mut.result.now (c.deref_mut.ensures.value ∙ c.in_ok-lengthen.ensures.ok)
