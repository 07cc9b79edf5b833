use Rattle.std.proofs.Common.{refl, sym, ap, ◌∙◌, arith, rules}
use Rattle.ec_servernode.proofs.Ends.{no_more, check_gives}
use Rattle.ec_servernode.proofs.state.Node.give.Goals as goal

pub give_own-requires-clause-sized : goal.give_own-requires-clause-sized
give_own-requires-clause-sized g c κs within = c.requires.since.1.sized

pub returns-in_err-check-clause-keeps : goal.returns-in_err-check-clause-keeps
returns-in_err-check-clause-keeps g c first s = s

pub returns-in_err-check-clause-gives : goal.returns-in_err-check-clause-gives
returns-in_err-check-clause-gives g c =
    let b = check_gives g.L.Link.faults g.L.Link.got c.args.pass c.args.caller.now c.args.self.now c.args.link.now c.in_err-check.field-0.0 c.in_err-check.ensures.err in
    search (rules, b)

pub returns-in_err-check-clause-counts : goal.returns-in_err-check-clause-counts
returns-in_err-check-clause-counts g c = (omega arith, omega arith)
