use Rattle.std.proofs.lemmas.Bool.Decides.{Decides-eqb}
use Rattle.std.proofs.lemmas.Slice.Eq.{slice_eq-Decides}
use Rattle.ec_pending.proofs.owes.calls.same_ops.Goals as goal

pub returns : goal.returns
returns c = slice_eq-Decides Decides-eqb c.args.ops.now c.args.others.now _ c.eq.ensures
