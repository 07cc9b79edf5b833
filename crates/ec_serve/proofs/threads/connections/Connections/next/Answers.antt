use Rattle.std.proofs.Common.{rules, true, refl, inl, inr, Option}
use Rattle.ec_serve.specs.OfThreads.ServingMoments.{back_of}
use Rattle.ec_serve.specs.OfThreads.Goings.{goes_same}
use Rattle.ec_serve.proofs.OfThreads.Goes.{goes_on, goes_begun, knows_same, one_le, faults_one}
use Rattle.ec_serve.proofs.threads.connections.Connections.next.Goals as goal

pub returns-then-self-eq0-clause-goes : goal.returns-then-self-eq0-clause-goes
returns-then-self-eq0-clause-goes g c = goes_same g.N.Net.faults g.N.Net.bad g.N.Net.ended (back_of g.N.Link.Link.faults g.N.Link.Link.closes g.N.Link.Link.given g.N.Link.Link.got) _

pub returns-in-Ok-Some-clause-goes : goal.returns-in-Ok-Some-clause-goes
returns-in-Ok-Some-clause-goes g c =
    let came = c.in-Ok-Some.ensures in
    let begun = c.begin.ensures in
    goes_begun g.N.Net.faults g.N.Net.bad g.N.Net.ended (back_of g.N.Link.Link.faults g.N.Link.Link.closes g.N.Link.Link.given g.N.Link.Link.got) c.args.net.now c.next.new.self c.args.self.now.tally c.begin.new.self.tally c.args.pass.now.pass c.begin.new.pass.pass _
    came.faults came.same.0 came.same.1 begun.tally begun.knows

pub returns-in-Ok-None-clause-goes : goal.returns-in-Ok-None-clause-goes
returns-in-Ok-None-clause-goes g c =
    let t = c.args.self.now.tally in
    let came = c.in-Ok-None.ensures in
    goes_on g.N.Net.faults g.N.Net.bad g.N.Net.ended (back_of g.N.Link.Link.faults g.N.Link.Link.closes g.N.Link.Link.given g.N.Link.Link.got) c.args.net.now c.next.new.self t t c.args.pass.now.pass c.args.pass.now.pass 0
    came.faults came.same.0 came.same.1 refl refl (λ e. inl e) (λ e. e) (knows_same c.args.pass.now.pass)

pub returns-in-Err-Failed-clause-goes : goal.returns-in-Err-Failed-clause-goes
returns-in-Err-Failed-clause-goes g c =
    let t = c.args.self.now.tally in
    let came = c.in-Err-Failed.ensures in
    goes_on g.N.Net.faults g.N.Net.bad g.N.Net.ended (back_of g.N.Link.Link.faults g.N.Link.Link.closes g.N.Link.Link.given g.N.Link.Link.got) c.args.net.now c.next.new.self t (record t { failed = true }) c.args.pass.now.pass c.args.pass.now.pass 1
    (faults_one (Option g.row.N-Link.Denot) (g.N.Net.faults c.args.net.now) (g.N.Net.faults c.next.new.self) c.in-Err-Failed.field-0 (search rules) came.faults) came.same.0 came.same.1 refl refl (λ e. inr one_le) (λ e. e) (knows_same c.args.pass.now.pass)

pub returns-in-Err-NoMemory-clause-goes : goal.returns-in-Err-NoMemory-clause-goes
returns-in-Err-NoMemory-clause-goes g c =
    let t = c.args.self.now.tally in
    let came = c.in-Err-NoMemory.ensures in
    goes_on g.N.Net.faults g.N.Net.bad g.N.Net.ended (back_of g.N.Link.Link.faults g.N.Link.Link.closes g.N.Link.Link.given g.N.Link.Link.got) c.args.net.now c.next.new.self t (record t { wants = true }) c.args.pass.now.pass c.args.pass.now.pass _
    came.faults came.same.0 came.same.1 refl refl (λ e. inl e) (λ e. absurd (cc e)) (knows_same c.args.pass.now.pass)
