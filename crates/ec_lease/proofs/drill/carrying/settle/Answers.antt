use Rattle.std.proofs.Common.{sym, ◌∙◌}
use Rattle.ec_lease.specs.Worlds.{leased}
use Rattle.ec_lease.specs.OfDrill.Steps.{IsAsMachine, IsSeen, come, fault_in}
use Rattle.ec_lease.proofs.OfDrill.Carried.{rested, settled, settles_not, settles_on, settling}
use Rattle.ec_lease.proofs.OfDrill.Known.{goes_none, later_by, later_still, later_then, still_goes}
use Rattle.ec_lease.proofs.drill.carrying.settle.Goals as goal

pub settling-init : goal.settling-init
settling-init g c = (
  settling g.D.Disk.tells (g.D.Disk.counts c.args.disk.now).stops c.args.means.bound (leased c.args.world.now) c.args.piece.now.items,
  c.requires,
  later_still (g.D.Disk.counts c.args.disk.now) ⊥ (λ f. f),
  goes_none (leased c.args.world.now),
)

pub settling-preserved : goal.settling-preserved
settling-preserved g c =
    let tells = g.D.Disk.tells in
    let a = (g.D.Disk.counts c.args.disk.now).stops in
    let b = (g.D.Disk.counts c.settling.disk).stops in
    let d = (g.D.Disk.counts c.deliver.new.disk).stops in
    let s = c.in_default-deliver.ensures.delivered in (
      settles_on tells a b c.args.means.bound c.settling.left (leased c.args.world.now) (leased c.settling.world) c.args.piece.now.items c.settling.piece.items c.settling.invariant.0
          d c.in-Some.number s.0 (leased c.deliver.new.world) c.deliver.new.piece.items c.settling.invariant.2.stops c.in_default-deliver.ensures.counts.stops c.settling-test.true (sym c.in-Ok.ensures.ok ∙ c.in-Some.is) s.1 (s.2 tt),
      c.in_default-deliver.ensures.in_step tt,
      later_by _ _ _ _ (λ f. absurd f) (later_then _ _ _ _ _ c.settling.invariant.2 c.in_default-deliver.ensures.counts),
      still_goes _ _ _ c.settling.invariant.3 c.in_default-deliver.ensures.time,
    )

pub returns-in-Err-deliver-clause-settled : goal.returns-in-Err-deliver-clause-settled
returns-in-Err-deliver-clause-settled g c =
    let tells = g.D.Disk.tells in
    let a = (g.D.Disk.counts c.args.disk.now).stops in
    let b = (g.D.Disk.counts c.settling.disk).stops in
    let d = (g.D.Disk.counts c.deliver.new.disk).stops in
    let s = c.in-Err-deliver.ensures.delivered in
    settles_not tells a b c.args.means.bound c.settling.left (leased c.args.world.now) (leased c.settling.world) c.args.piece.now.items c.settling.piece.items c.settling.invariant.0
    d c.in-Some.number s.0 (leased c.deliver.new.world) c.deliver.new.piece.items c.settling.invariant.2.stops c.in-Err-deliver.ensures.counts.stops c.settling-test.true (sym c.in-Ok.ensures.ok ∙ c.in-Some.is) s.1
    (IsSeen c.in-Err-deliver.fault) c.in-Err-deliver.fault s.2

pub returns-in_default-clause-settled : goal.returns-in_default-clause-settled
returns-in_default-clause-settled g c =
    let b = (g.D.Disk.counts c.settling.disk).stops in
    settled g.D.Disk.tells (g.D.Disk.counts c.args.disk.now).stops b c.args.means.bound c.settling.left (leased c.args.world.now) (leased c.settling.world) c.args.piece.now.items c.settling.piece.items c.settling.invariant.0
    (sym c.in-Ok.ensures.ok ∙ c.in_default.is)

pub returns-clause-settled : goal.returns-clause-settled
returns-clause-settled g c =
    rested g.D.Disk.tells (g.D.Disk.counts c.args.disk.now).stops (g.D.Disk.counts c.settling.disk).stops c.args.means.bound c.settling.left (leased c.args.world.now) (leased c.settling.world) c.args.piece.now.items c.settling.piece.items c.settling.invariant.0
    (IsAsMachine c.end_settling.result) (come (fault_in c.end_settling.result) (leased c.end_settling.new.world) c.end_settling.new.piece.items) c.settling-test.false c.end_settling.ensures.rested
