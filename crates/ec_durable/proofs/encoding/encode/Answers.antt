use Rattle.ec_durable.specs.CodeLaws.{short_code}
use Rattle.ec_durable.proofs.encoding.encode.Goals as goal

pub returns-clause-short : goal.returns-clause-short
returns-clause-short c = short_code c.args.change.now c.in_ok-out.out.items c.put_record.new.out.items c.in_ok-out.ensures.items c.in_ok-put_record.ensures
