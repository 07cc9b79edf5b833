use Rattle.std.proofs.Common.{arith}
use Rattle.ec_store.proofs.Heads.{most_spelled}
use Rattle.ec_store.proofs.reading.head_of.Goals as goal

pub returns-clause-most : goal.returns-clause-most
returns-clause-most c = most_spelled c.args.bytes.now c.read.result (omega arith) (λ i. omega (arith, c.fits-bytes i)) c.read.ensures
