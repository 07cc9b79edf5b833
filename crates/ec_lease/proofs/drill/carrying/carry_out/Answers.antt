use Rattle.std.proofs.Common.{refl, inl, [], ◌∷◌, arith}
use Rattle.ec_lease.specs.Worlds.{leased}
use Rattle.ec_lease.specs.OfDrill.Script.{machine_lease}
use Rattle.ec_lease.specs.OfDrill.Steps.{come, fault_in}
use Rattle.std.specs.Prelude.{None, Some}
use Rattle.ec_lease.proofs.OfDrill.Carried.{carries, settle_ended}
use Rattle.ec_lease.proofs.OfDrill.Known.{clear_first, clear_later, later_then, ran_before, ran_first}
use Rattle.ec_lease.proofs.drill.carrying.carry_out.Goals as goal

pub returns-in-Err-clause-carried : goal.returns-in-Err-clause-carried
returns-in-Err-clause-carried g c =
    let a = (g.D.Disk.counts c.args.disk.now).stops in
    let b = (g.D.Disk.counts c.begin.new.disk).stops in
    let s = c.in-Err.ensures.begun in
    let m = come (Some c.in-Err.fault) (leased c.begin.new.world) c.begin.new.piece.items in (
      s.0 ∷ [],
      ran_before s.0 [] a b b c.in-Err.ensures.counts.stops (omega arith) s.1 (inl tt),
      λ goes clear. carries c.args.means.bound c.args.number [] s.0 (machine_lease c.args.line) (leased c.args.world.now) m m m (s.2 goes clear) refl (settle_ended c.args.means.bound [] (leased c.begin.new.world) c.begin.new.piece.items c.in-Err.fault),
    )

pub returns-in-Err-renew-clause-carried : goal.returns-in-Err-renew-clause-carried
returns-in-Err-renew-clause-carried g c =
    let tells = g.D.Disk.tells in
    let a = (g.D.Disk.counts c.args.disk.now).stops in
    let b = (g.D.Disk.counts c.begin.new.disk).stops in
    let d = (g.D.Disk.counts c.renew.new.disk).stops in
    let s = c.in_default.ensures.begun in
    let m = come None (leased c.begin.new.world) c.begin.new.piece.items in
    let n = come (Some c.in-Err-renew.fault) (leased c.renew.new.world) c.renew.new.piece.items in (
      s.0 ∷ [],
      ran_before s.0 [] a b d c.in_default.ensures.counts.stops c.in-Err-renew.ensures.counts.stops s.1 (inl tt),
      λ goes clear.
          carries c.args.means.bound c.args.number [] s.0 (machine_lease c.args.line) (leased c.args.world.now) m n n
          (s.2 tt (clear_first tells a b d c.in-Err-renew.ensures.counts.stops clear)) (c.in-Err-renew.ensures.renewed goes (clear_later tells a b d c.in_default.ensures.counts.stops clear))
          (settle_ended c.args.means.bound [] (leased c.renew.new.world) c.renew.new.piece.items c.in-Err-renew.fault),
    )

pub returns-clause-carried : goal.returns-clause-carried
returns-clause-carried g c =
    let tells = g.D.Disk.tells in
    let a = (g.D.Disk.counts c.args.disk.now).stops in
    let b = (g.D.Disk.counts c.begin.new.disk).stops in
    let d = (g.D.Disk.counts c.renew.new.disk).stops in
    let e = (g.D.Disk.counts c.settle.new.disk).stops in
    let one = c.in_default.ensures.counts in
    let two = c.in_default-renew.ensures.counts in
    let three = c.settle.ensures.counts in
    let s = c.in_default.ensures.begun in
    let t = c.settle.ensures.settled in
    let m = come None (leased c.begin.new.world) c.begin.new.piece.items in
    let n = come None (leased c.renew.new.world) c.renew.new.piece.items in (
      s.0 ∷ t.0,
      ran_before s.0 t.0 a d e (later_then _ _ _ _ _ one two).stops three.stops (ran_first s.0 a b d two.stops s.1) t.1,
      λ goes clear.
          let early = clear_first tells a d e three.stops clear in
          carries c.args.means.bound c.args.number t.0 s.0 (machine_lease c.args.line) (leased c.args.world.now) m n (come (fault_in c.settle.result) (leased c.settle.new.world) c.settle.new.piece.items)
          (s.2 tt (clear_first tells a b d two.stops early)) (c.in_default-renew.ensures.renewed tt (clear_later tells a b d one.stops early))
          (t.2 goes (clear_later tells a d e (later_then _ _ _ _ _ one two).stops clear)),
    )
