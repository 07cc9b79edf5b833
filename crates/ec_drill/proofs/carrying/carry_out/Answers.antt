use Rattle.std.proofs.Common.{refl}
use Rattle.ec_world.specs.Worlds.{view_of}
use Rattle.ec_drill.specs.ArmedSteps.{heard}
use Rattle.ec_drill.specs.Script.{machine_line}
use Rattle.ec_drill.proofs.Carried.{line_settles, line_stops}
use Rattle.ec_drill.proofs.Heard.{heard_fate, heard_later, still_none}
use Rattle.ec_drill.proofs.carrying.carry_out.Goals as goal

pub returns-in-Err-clause-carried : goal.returns-in-Err-clause-carried
returns-in-Err-clause-carried g c = λ m calm.
    let old = g.D.Disk.counts c.args.disk.now in
    let new = g.D.Disk.counts c.begin.new.disk in
    let s = c.in-Err.ensures.begun in
    line_stops g.D.Disk.tells (g.D.Disk.view c.begin.new.disk) (heard m old) (heard m new) c.args.means.bound c.args.number (machine_line c.args.line) (view_of c.args.world.now) (view_of c.begin.new.world)
    c.begin.new.piece.items c.in-Err.fault s.0 (heard_later m old new c.in-Err.ensures.counts.stops) (heard_fate m s.0 old new (λ e. (calm e).1) s.1) s.2 s.3

pub returns-clause-carried : goal.returns-clause-carried
returns-clause-carried g c = λ m calm.
    let old = g.D.Disk.counts c.args.disk.now in
    let mid = g.D.Disk.counts c.begin.new.disk in
    let new = g.D.Disk.counts c.settle.new.disk in
    let s = c.in_default.ensures.begun in
    let t = c.settle.ensures.settled m (λ e. (refl, still_none old.armed mid.armed (c.in_default.ensures.quiet (calm e).0) (calm e).1)) in
    line_settles g.D.Disk.tells (g.D.Disk.view c.settle.new.disk) (heard m old) (heard m mid) (heard m new) c.args.means.bound c.args.number (machine_line c.args.line)
    (view_of c.args.world.now) (view_of c.begin.new.world) (view_of c.settle.new.world) c.begin.new.piece.items c.settle.new.piece.items c.settle.result s.0 t.0
    (heard_later m old mid c.in_default.ensures.counts.stops) (heard_later m mid new c.settle.ensures.counts.stops) (heard_fate m s.0 old mid (λ e. (calm e).1) s.1) s.2 t.1 t.2 t.3 s.4 t.4

pub returns-clause-quiet : goal.returns-clause-quiet
returns-clause-quiet g c = λ isnt h. c.in_default.ensures.quiet isnt (c.settle.ensures.quiet h)
