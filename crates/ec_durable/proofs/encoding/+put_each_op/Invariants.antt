use Rattle.std.proofs.Common.{length}
use Rattle.ec_durable.proofs.encoding.+put_each_op.Given as goal

abbrev pub decreases-put_each_op : goal.decreases-put_each_op
decreases-put_each_op l = length l.ops.now
