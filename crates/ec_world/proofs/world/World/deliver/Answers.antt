use Rattle.std.proofs.Common.{◌≡◌, ◌∙◌, refl, sym, ap}
use Rattle.ec_protocol.specs.World as machine
use Rattle.ec_protocol.specs.World.{Fate}
use Rattle.ec_store.specs.Store.{view_of as state_of}
use Rattle.ec_world.specs.Laws.{in_step_keeps, in_step_stands}
use Rattle.ec_world.specs.Worlds.{view_of}
use Rattle.ec_world.specs.StepEnds.{as_before, under}
use Rattle.ec_world.proofs.Pooled.{deliver_none}
use Rattle.ec_world.proofs.Quiet.{fated, in_step, refuses, not_failed, uncounted, left_as_was}
use Rattle.ec_world.proofs.world.World.deliver.Goals as goal

pub deliver_to_server-requires-clause-message : goal.deliver_to_server-requires-clause-message
deliver_to_server-requires-clause-message g c = record { message = c.in-Some.sent.now; kept = sym c.in-Some.ensures.value; is_for = sym c.is_for_server.ensures ∙ c.if-is_for_server.true }

pub deliver_to_clerk-requires-clause-message : goal.deliver_to_clerk-requires-clause-message
deliver_to_clerk-requires-clause-message g c = record { message = c.in-Some.sent.now; kept = sym c.in-Some.ensures.value; is_for = sym c.is_for_server.ensures ∙ c.if-is_for_server.false }

pub returns-in_default-clause-err : goal.returns-in_default-clause-err
returns-in_default-clause-err g c = (deliver_none machine.runs c.args.number (view_of c.args.self.now) (sym c.in_default.ensures.value), refl, c.requires.in_step)

pub returns-in_default-clause-counts : goal.returns-in_default-clause-counts
returns-in_default-clause-counts g c = uncounted (g.D.Disk.counts c.args.disk.now) _ (λ is. cc)

pub returns-in_default-clause-left : goal.returns-in_default-clause-left
returns-in_default-clause-left g c = λ told image left. as_before (in_step_stands g.D.Disk.tells (g.D.Disk.view c.args.disk.now) c.args.self.now c.requires.in_step told image left)

pub returns-else-is_for_server-clause-ok : goal.returns-else-is_for_server-clause-ok
returns-else-is_for_server-clause-ok g c =
    fated c.deliver_to_clerk.result g.D.Disk.tells (view_of c.args.self.now).durable (view_of c.args.self.now).shown (g.D.Disk.counts c.args.disk.now) c.args.self.now.choice (λ (fate : Fate). machine.deliver fate c.args.number (view_of c.args.self.now)) (under c.deliver_to_clerk.new.self) (ap state_of c.deliver_to_clerk.ensures.same.store) c.deliver_to_clerk.ensures.ok

pub returns-else-is_for_server-clause-in_step : goal.returns-else-is_for_server-clause-in_step
returns-else-is_for_server-clause-in_step g c =
    in_step c.deliver_to_clerk.result g.D.Disk.tells (g.D.Disk.view c.args.disk.now) c.args.self.now c.deliver_to_clerk.new.self c.deliver_to_clerk.ensures.same c.requires.in_step

pub returns-else-is_for_server-clause-err : goal.returns-else-is_for_server-clause-err
returns-else-is_for_server-clause-err g c =
    let w = view_of c.args.self.now in
    refuses c.deliver_to_clerk.result (machine.deliver machine.runs c.args.number w) w (view_of c.deliver_to_clerk.new.self) _ c.deliver_to_clerk.ensures.err
    (in_step_keeps g.D.Disk.tells (g.D.Disk.view c.args.disk.now) c.args.self.now c.deliver_to_clerk.new.self c.deliver_to_clerk.ensures.same c.requires.in_step)

pub returns-else-is_for_server-clause-counts : goal.returns-else-is_for_server-clause-counts
returns-else-is_for_server-clause-counts g c =
    let w = view_of c.args.self.now in
    uncounted (g.D.Disk.counts c.args.disk.now) _ (not_failed c.deliver_to_clerk.result (machine.deliver machine.runs c.args.number w) w (view_of c.deliver_to_clerk.new.self) c.deliver_to_clerk.ensures.err)

pub returns-else-is_for_server-clause-left : goal.returns-else-is_for_server-clause-left
returns-else-is_for_server-clause-left g c =
    left_as_was c.deliver_to_clerk.result g.D.Disk.tells (g.D.Disk.view c.args.disk.now) c.args.self.now (machine.deliver machine.runs c.args.number (view_of c.args.self.now)) c.requires.in_step
