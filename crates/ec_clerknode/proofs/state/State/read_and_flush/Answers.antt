use Rattle.std.proofs.Common.{rules}
use Rattle.ec_clerknode.proofs.Turns.{fails_both}
use Rattle.ec_clerknode.proofs.state.State.read_and_flush.Goals as goal

pub returns-in_err-flushed-clause-keeps : goal.returns-in_err-flushed-clause-keeps
returns-in_err-flushed-clause-keeps g c = (λ first s. c.flush.ensures.keeps first (c.read.ensures.keeps first s))

pub returns-in_err-flushed-clause-flushes : goal.returns-in_err-flushed-clause-flushes
returns-in_err-flushed-clause-flushes g c =
    let w = c.in_ok-heard.ensures.works in
    let b = fails_both c.args.pass c.args.self.now c.read.new.self c.flush.new.self c.in_err-flushed.field-0.0 w.1.0 w.1.1 w.1.2 c.in_err-flushed.ensures.flushes in
    search (rules, b)

pub returns-clause-keeps : goal.returns-clause-keeps
returns-clause-keeps g c = (λ first s. c.flush.ensures.keeps first (c.read.ensures.keeps first s))

pub returns-clause-flushes : goal.returns-clause-flushes
returns-clause-flushes g c =
    let w = c.in_ok-heard.ensures.works in
    (c.read.new.self, c.read.ensures.keeps, (w.1.0, w.1.1, w.1.2), c.in_ok-flushed.ensures.flushes)
