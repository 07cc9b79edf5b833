use Rattle.std.proofs.Common.{◌+◌, ◌≤◌, arith, refl, sym, ap, subst, List, length, map, Option}
use Rattle.std.specs.Vec.Iter.{into_iter_items, into_iter_len}
use Rattle.ec_world.specs.Worlds.{view_of}
use Rattle.ec_drill.specs.Arms.{any_arm, is_arm_read}
use Rattle.ec_drill.specs.ArmedSteps.{IsCalm, heard}
use Rattle.ec_drill.specs.Lines.{read_of}
use Rattle.ec_drill.specs.Steps.{Sofar, LineDone}
use Rattle.ec_drill.specs.declared.running.Ending.{Ending}
use Rattle.ec_drill.specs.declared.script.ScriptLine.{ScriptLine}
use Rattle.ec_drill.proofs.Carried.{later_same, later_two}
use Rattle.ec_drill.proofs.Runs.{sofar, goes_on, ends_at, cut_at, ends_done, no_more}
use Rattle.ec_drill.proofs.Ends.{cause_from}
use Rattle.ec_drill.proofs.Heard.{calm_now, calm_on, heard_later}
use Rattle.ec_drill.proofs.running.run.Goals as goal

pub lines-init : goal.lines-init
lines-init g c =
    let counts = g.D.Disk.counts c.args.disk.now in
    let start = view_of c.args.world.now in
    let held = g.K.Sink.held c.args.sink.now in
    let all = map read_of c.args.lines.items in (
      λ m calm. (
        subst (λ (ls : List ScriptLine). Sofar g.D.Disk.tells (heard m counts).stops (heard m counts).stops c.args.means.bound counts.armed counts.armed all start 1 (map read_of ls) start held held) (sym c.into_iter-ahead.ensures.rest)
            (sofar g.D.Disk.tells (heard m counts).stops c.args.means.bound counts.armed all start held),
        subst (λ (ls : List ScriptLine). IsCalm m (any_arm (map read_of ls)) counts) (sym c.into_iter-ahead.ensures.rest) calm,
      ),
      c.requires.in_step,
      later_same counts,
      omega arith,
      subst (λ (ls : List ScriptLine). 1 + length ls ≤ 65537) (sym c.into_iter-ahead.ensures.rest) (omega (arith, c.requires.few)),
    )

pub lines-preserved : goal.lines-preserved
lines-preserved g c =
    let tells = g.D.Disk.tells in
    let first = g.D.Disk.counts c.args.disk.now in
    let old = g.D.Disk.counts c.lines.disk in
    let new = g.D.Disk.counts c.carry.new.disk in
    let start = view_of c.args.world.now in
    let world = view_of c.lines.world in
    let now = view_of c.carry.new.world in
    let begun = g.K.Sink.held c.args.sink.now in
    let held = g.K.Sink.held c.lines.sink in
    let written = g.K.Sink.held c.carry.new.sink in
    let all = map read_of c.args.lines.items in
    let did = c.in-Ok-None.ensures in
    let line = c.in-Some.line in (
      λ m calm.
          let so = c.lines.invariant.0 m calm in
          let still = subst (λ (ls : List ScriptLine). IsCalm m (any_arm (map read_of ls)) old) c.in-Some.ensures.items so.1 in
          let rest = map read_of (into_iter_items c.next.new.self) in (
            goes_on tells (heard m first).stops (heard m old).stops (heard m old) (heard m new) c.args.means.bound first.armed all start c.lines.number (read_of line) rest world begun held written
                (subst (λ (ls : List ScriptLine). Sofar tells (heard m first).stops (heard m old).stops c.args.means.bound first.armed old.armed all start c.lines.number (map read_of ls) world begun held) c.in-Some.ensures.items so.0)
                refl (heard_later m first old c.lines.invariant.2.stops) (heard_later m old new did.counts.stops) now
                (subst (λ (e : Option Ending). LineDone tells (heard m old) (heard m new) c.args.means.bound c.lines.number (read_of line) world now e held written) c.in-Ok-None.field-0-is
                (did.carried m (calm_now m (is_arm_read (read_of line)) (any_arm rest) old still))),
            calm_on m (is_arm_read (read_of line)) (any_arm rest) old new did.quiet still,
          ),
      did.in_step,
      later_two _ _ _ _ _ c.lines.invariant.2 did.counts,
      omega (arith, c.lines.invariant.3, did.later),
      (let all_left = c.lines.invariant.4 in let one = ap (length {A = ScriptLine}) c.in-Some.ensures.items in omega (arith, all_left, one)),
    )

pub returns-in-Ok-Some-clause-ran : goal.returns-in-Ok-Some-clause-ran
returns-in-Ok-Some-clause-ran g c = λ m calm.
    let tells = g.D.Disk.tells in
    let first = g.D.Disk.counts c.args.disk.now in
    let old = g.D.Disk.counts c.lines.disk in
    let new = g.D.Disk.counts c.carry.new.disk in
    let start = view_of c.args.world.now in
    let world = view_of c.lines.world in
    let now = view_of c.carry.new.world in
    let begun = g.K.Sink.held c.args.sink.now in
    let held = g.K.Sink.held c.lines.sink in
    let written = g.K.Sink.held c.carry.new.sink in
    let all = map read_of c.args.lines.items in
    let did = c.in-Ok-Some.ensures in
    let line = c.in-Some.line in
    let so = c.lines.invariant.0 m calm in
    let still = subst (λ (ls : List ScriptLine). IsCalm m (any_arm (map read_of ls)) old) c.in-Some.ensures.items so.1 in
    ends_at tells (heard m first).stops (heard m old).stops (heard m old) (heard m new) c.args.means.bound first.armed all start c.lines.number (read_of line) (map read_of (into_iter_items c.next.new.self)) world begun held written
    (subst (λ (ls : List ScriptLine). Sofar tells (heard m first).stops (heard m old).stops c.args.means.bound first.armed old.armed all start c.lines.number (map read_of ls) world begun held) c.in-Some.ensures.items so.0)
    refl (heard_later m first old c.lines.invariant.2.stops) (heard_later m old new did.counts.stops) now c.in-Ok-Some.ending
    (subst (λ (e : Option Ending). LineDone tells (heard m old) (heard m new) c.args.means.bound c.lines.number (read_of line) world now e held written) c.in-Ok-Some.field-0-is
    (did.carried m (calm_now m (is_arm_read (read_of line)) (any_arm (map read_of (into_iter_items c.next.new.self))) old still)))

pub returns-in-Err-clause-ran : goal.returns-in-Err-clause-ran
returns-in-Err-clause-ran g c = λ m calm.
    let tells = g.D.Disk.tells in
    let first = g.D.Disk.counts c.args.disk.now in
    let old = g.D.Disk.counts c.lines.disk in
    let new = g.D.Disk.counts c.carry.new.disk in
    let start = view_of c.args.world.now in
    let world = view_of c.lines.world in
    let begun = g.K.Sink.held c.args.sink.now in
    let held = g.K.Sink.held c.lines.sink in
    let written = g.K.Sink.held c.carry.new.sink in
    let all = map read_of c.args.lines.items in
    let did = c.in-Err.ensures in
    let line = c.in-Some.line in
    let writes = g.K.Sink.faults c.args.sink.now in
    let writes_now = g.K.Sink.faults c.lines.sink in
    let writes_after = g.K.Sink.faults c.carry.new.sink in
    let so = c.lines.invariant.0 m calm in
    let still = subst (λ (ls : List ScriptLine). IsCalm m (any_arm (map read_of ls)) old) c.in-Some.ensures.items so.1 in
    cut_at tells (heard m first).stops (heard m old).stops (heard m old) (heard m new) c.args.means.bound first.armed all start c.lines.number (read_of line) (map read_of (into_iter_items c.next.new.self)) world begun held written
    (subst (λ (ls : List ScriptLine). Sofar tells (heard m first).stops (heard m old).stops c.args.means.bound first.armed old.armed all start c.lines.number (map read_of ls) world begun held) c.in-Some.ensures.items so.0)
    refl (heard_later m first old c.lines.invariant.2.stops) (heard_later m old new did.counts.stops) (g.D.Disk.view c.carry.new.disk) c.in-Err.cut writes writes_now writes_after first.faults (did.carried m (calm_now m (is_arm_read (read_of line)) (any_arm (map read_of (into_iter_items c.next.new.self))) old still))
    (λ last. cause_from c.in-Err.cut last writes writes_now writes_after first.faults old.faults new.faults c.lines.invariant.3 c.lines.invariant.2.faults)

pub returns-clause-ran : goal.returns-clause-ran
returns-clause-ran g c = λ m calm.
    let tells = g.D.Disk.tells in
    let first = g.D.Disk.counts c.args.disk.now in
    let old = g.D.Disk.counts c.lines.disk in
    let start = view_of c.args.world.now in
    let world = view_of c.lines.world in
    let begun = g.K.Sink.held c.args.sink.now in
    let held = g.K.Sink.held c.lines.sink in
    let all = map read_of c.args.lines.items in
    ends_done tells (heard m first).stops (heard m old).stops c.args.means.bound first.armed old.armed all start c.lines.number world begun held
    (subst (λ (ls : List ScriptLine). Sofar tells (heard m first).stops (heard m old).stops c.args.means.bound first.armed old.armed all start c.lines.number (map read_of ls) world begun held)
    (no_more (into_iter_items c.lines.ahead) (into_iter_len c.lines.ahead) c.lines.ahead.rest.ok.0 c.in_default.ensures.cases.0) (c.lines.invariant.0 m calm).0)
