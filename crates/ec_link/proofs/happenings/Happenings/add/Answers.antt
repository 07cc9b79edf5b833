use Rattle.ec_link.proofs.Pushed.{more_by}
use Rattle.ec_link.proofs.happenings.Happenings.add.Goals as goal

pub returns : goal.returns
returns c = more_by c.args.self.now record { trace = c.and-self.result } c.args.happening.now c.and-self.ensures
