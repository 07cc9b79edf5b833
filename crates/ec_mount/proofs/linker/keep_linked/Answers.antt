use Rattle.std.proofs.Common.{◌+◌, ◌≤◌, refl, ◌∙◌, arith, rules}
use Rattle.ec_lock.specs.PassViews.{first}
use Rattle.ec_mount.proofs.Linking.{linked_self, linked_both, more_both, more_still}
use Rattle.ec_mount.proofs.linker.keep_linked.Goals as goal

pub loop-init : goal.loop-init
loop-init g c = (search rules, search rules, omega arith, linked_self c.args.clerk.now.lock c.args.pass.now c.requires, λ start h. h, refl)

pub returns-in_default-clause-more : goal.returns-in_default-clause-more
returns-in_default-clause-more g c = more_still (λ l. g.M.Link.Link.faults l + g.M.Link.Link.closes l) g.M.Link.Link.given g.M.Link.Link.got (first c.args.clerk.now.lock) c.args.pass.now c.loop.pass (record { faults = g.M.Lending.faults c.args.net.now; bad = g.M.Lending.bad c.args.net.now; ended = g.M.Lending.ended c.args.net.now }) (record { faults = g.M.Lending.faults c.loop.net; bad = g.M.Lending.bad c.loop.net; ended = g.M.Lending.ended c.loop.net }) (record { faults = g.M.Lending.faults c.call_until.new.net; bad = g.M.Lending.bad c.call_until.new.net; ended = g.M.Lending.ended c.call_until.new.net }) c.call_until.ensures.same.0 c.call_until.ensures.same.1 c.loop.invariant.4

pub loop-preserved : goal.loop-preserved
loop-preserved g c = (
  search rules,
  search rules,
  (let few = c.loop.invariant.2 in let more = c.call_until.ensures.later in let last = c.hand_in.ensures.later in omega arith),
  linked_both c.args.clerk.now.lock c.args.pass.now c.loop.pass c.hand_in.new.pass c.loop.invariant.3 c.hand_in.ensures.linked,
  more_both (λ l. g.M.Link.Link.faults l + g.M.Link.Link.closes l) g.M.Link.Link.given g.M.Link.Link.got (first c.args.clerk.now.lock) c.args.pass.now c.loop.pass c.hand_in.new.pass (record { faults = g.M.Lending.faults c.args.net.now; bad = g.M.Lending.bad c.args.net.now; ended = g.M.Lending.ended c.args.net.now }) (record { faults = g.M.Lending.faults c.call_until.new.net; bad = g.M.Lending.bad c.call_until.new.net; ended = g.M.Lending.ended c.call_until.new.net }) (record { faults = g.M.Lending.faults c.hand_in.new.net; bad = g.M.Lending.bad c.hand_in.new.net; ended = g.M.Lending.ended c.hand_in.new.net }) c.loop.invariant.3.same.0 (more_still (λ l. g.M.Link.Link.faults l + g.M.Link.Link.closes l) g.M.Link.Link.given g.M.Link.Link.got (first c.args.clerk.now.lock) c.args.pass.now c.loop.pass (record { faults = g.M.Lending.faults c.args.net.now; bad = g.M.Lending.bad c.args.net.now; ended = g.M.Lending.ended c.args.net.now }) (record { faults = g.M.Lending.faults c.loop.net; bad = g.M.Lending.bad c.loop.net; ended = g.M.Lending.ended c.loop.net }) (record { faults = g.M.Lending.faults c.call_until.new.net; bad = g.M.Lending.bad c.call_until.new.net; ended = g.M.Lending.ended c.call_until.new.net }) c.call_until.ensures.same.0 c.call_until.ensures.same.1 c.loop.invariant.4) c.in_ok-hand_in.ensures.more,
  c.hand_in.ensures.name ∙ (c.call_until.ensures.name ∙ c.loop.invariant.5),
)

pub loop-preserved-then-branch : goal.loop-preserved-then-branch
loop-preserved-then-branch g c = (
  search rules,
  search rules,
  (let few = c.loop.invariant.2 in let more = c.call_until.ensures.later in let last = c.hand_in.ensures.later in omega arith),
  linked_both c.args.clerk.now.lock c.args.pass.now c.loop.pass c.hand_in.new.pass c.loop.invariant.3 c.hand_in.ensures.linked,
  more_both (λ l. g.M.Link.Link.faults l + g.M.Link.Link.closes l) g.M.Link.Link.given g.M.Link.Link.got (first c.args.clerk.now.lock) c.args.pass.now c.loop.pass c.hand_in.new.pass (record { faults = g.M.Lending.faults c.args.net.now; bad = g.M.Lending.bad c.args.net.now; ended = g.M.Lending.ended c.args.net.now }) (record { faults = g.M.Lending.faults c.call_until.new.net; bad = g.M.Lending.bad c.call_until.new.net; ended = g.M.Lending.ended c.call_until.new.net }) (record { faults = g.M.Lending.faults c.hand_in.new.net; bad = g.M.Lending.bad c.hand_in.new.net; ended = g.M.Lending.ended c.hand_in.new.net }) c.loop.invariant.3.same.0 (more_still (λ l. g.M.Link.Link.faults l + g.M.Link.Link.closes l) g.M.Link.Link.given g.M.Link.Link.got (first c.args.clerk.now.lock) c.args.pass.now c.loop.pass (record { faults = g.M.Lending.faults c.args.net.now; bad = g.M.Lending.bad c.args.net.now; ended = g.M.Lending.ended c.args.net.now }) (record { faults = g.M.Lending.faults c.loop.net; bad = g.M.Lending.bad c.loop.net; ended = g.M.Lending.ended c.loop.net }) (record { faults = g.M.Lending.faults c.call_until.new.net; bad = g.M.Lending.bad c.call_until.new.net; ended = g.M.Lending.ended c.call_until.new.net }) c.call_until.ensures.same.0 c.call_until.ensures.same.1 c.loop.invariant.4) c.in_ok-hand_in.ensures.more,
  c.hand_in.ensures.name ∙ (c.call_until.ensures.name ∙ c.loop.invariant.5),
)
