use Rattle.std.proofs.Common.{sym, ap, subst, arith, ◌+◌, ◌≤◌, List, Option, length, map}
use Rattle.std.specs.Vec.Iter.{into_iter_items, into_iter_len}
use Rattle.ec_lease.specs.Worlds.{leased}
use Rattle.ec_lease.specs.OfDrill.Lines.{AreTimed, read_of}
use Rattle.ec_lease.specs.OfDrill.Steps.{LineDone, Sofar}
use Rattle.ec_lease.specs.declared.drill.running.Ending.{Ending}
use Rattle.ec_lease.specs.declared.drill.script.ScriptLine.{ScriptLine}
use Rattle.ec_lease.proofs.OfDrill.Known.{later_still, later_then}
use Rattle.ec_lease.proofs.OfDrill.Runs.{all_done, first_in_time, line_cut, line_last, line_more, no_lines, none_ahead, now_in_time, rest_timed}
use Rattle.ec_lease.proofs.drill.running.run.Goals as goal

pub lines-init : goal.lines-init
lines-init g c =
    let counts = g.D.Disk.counts c.args.disk.now in
    let start = leased c.args.world.now in
    let held = g.K.Sink.held c.args.sink.now in
    let all = map read_of c.args.lines.items in
    let rest = c.into_iter-ahead.ensures.rest in (
      subst (λ (ls : List ScriptLine). Sofar g.D.Disk.tells counts.stops counts.stops c.args.means.bound all start 1 (map read_of ls) start held held) (sym rest) (no_lines g.D.Disk.tells counts.stops c.args.means.bound all start held),
      c.requires.in_step,
      later_still counts ⊥ (λ f. f),
      omega arith,
      subst (λ (ls : List ScriptLine). 1 + length ls ≤ 65537) (sym rest) (omega (arith, c.requires.few)),
      subst (λ (ls : List ScriptLine). AreTimed start.most (map read_of ls)) (sym rest) c.requires.timed,
      first_in_time start c.requires.early,
    )

pub lines-preserved : goal.lines-preserved
lines-preserved g c =
    let tells = g.D.Disk.tells in
    let first = g.D.Disk.counts c.args.disk.now in
    let old = g.D.Disk.counts c.lines.disk in
    let new = g.D.Disk.counts c.carry.new.disk in
    let start = leased c.args.world.now in
    let world = leased c.lines.world in
    let now = leased c.carry.new.world in
    let begun = g.K.Sink.held c.args.sink.now in
    let held = g.K.Sink.held c.lines.sink in
    let written = g.K.Sink.held c.carry.new.sink in
    let all = map read_of c.args.lines.items in
    let did = c.in-Ok-None.ensures in
    let line = c.in-Some.line in
    let rest = into_iter_items c.next.new.self in
    let time = did.time c.in-Ok-None.field-0-is in (
      line_more tells first old new c.args.means.bound all start c.lines.number (read_of line) (map read_of rest) world begun held written
          (subst (λ (ls : List ScriptLine). Sofar tells first.stops old.stops c.args.means.bound all start c.lines.number (map read_of ls) world begun held) c.in-Some.ensures.items c.lines.invariant.0)
          c.lines.invariant.2.stops did.counts.stops now
          (subst (λ (e : Option Ending). LineDone tells old.stops new.stops c.args.means.bound c.lines.number (read_of line) world now e held written) c.in-Ok-None.field-0-is did.carried),
      did.in_step,
      later_then first old new ⊥ ⊥ c.lines.invariant.2 did.counts,
      omega (arith, c.lines.invariant.3, did.later),
      (let all_left = c.lines.invariant.4 in let one = ap (length {A = ScriptLine}) c.in-Some.ensures.items in omega (arith, all_left, one)),
      rest_timed world.most now.most line rest (into_iter_items c.lines.ahead) c.in-Some.ensures.items time.is_most c.lines.invariant.5,
      now_in_time world.most (c.lines.number + 1) now time,
    )

pub returns-in-Ok-Some-clause-ran : goal.returns-in-Ok-Some-clause-ran
returns-in-Ok-Some-clause-ran g c =
    let tells = g.D.Disk.tells in
    let first = g.D.Disk.counts c.args.disk.now in
    let old = g.D.Disk.counts c.lines.disk in
    let new = g.D.Disk.counts c.carry.new.disk in
    let start = leased c.args.world.now in
    let world = leased c.lines.world in
    let now = leased c.carry.new.world in
    let begun = g.K.Sink.held c.args.sink.now in
    let held = g.K.Sink.held c.lines.sink in
    let written = g.K.Sink.held c.carry.new.sink in
    let all = map read_of c.args.lines.items in
    let did = c.in-Ok-Some.ensures in
    let line = c.in-Some.line in
    line_last tells first old new c.args.means.bound all start c.lines.number (read_of line) (map read_of (into_iter_items c.next.new.self)) world begun held written
    (subst (λ (ls : List ScriptLine). Sofar tells first.stops old.stops c.args.means.bound all start c.lines.number (map read_of ls) world begun held) c.in-Some.ensures.items c.lines.invariant.0)
    c.lines.invariant.2.stops did.counts.stops now c.in-Ok-Some.ending
    (subst (λ (e : Option Ending). LineDone tells old.stops new.stops c.args.means.bound c.lines.number (read_of line) world now e held written) c.in-Ok-Some.field-0-is did.carried)

pub returns-in-Err-clause-ran : goal.returns-in-Err-clause-ran
returns-in-Err-clause-ran g c =
    let tells = g.D.Disk.tells in
    let first = g.D.Disk.counts c.args.disk.now in
    let old = g.D.Disk.counts c.lines.disk in
    let new = g.D.Disk.counts c.carry.new.disk in
    let start = leased c.args.world.now in
    let world = leased c.lines.world in
    let begun = g.K.Sink.held c.args.sink.now in
    let held = g.K.Sink.held c.lines.sink in
    let written = g.K.Sink.held c.carry.new.sink in
    let all = map read_of c.args.lines.items in
    let did = c.in-Err.ensures in
    let line = c.in-Some.line in
    line_cut tells first old new c.args.means.bound all start c.lines.number (read_of line) (map read_of (into_iter_items c.next.new.self)) world begun held written
    (subst (λ (ls : List ScriptLine). Sofar tells first.stops old.stops c.args.means.bound all start c.lines.number (map read_of ls) world begun held) c.in-Some.ensures.items c.lines.invariant.0)
    c.lines.invariant.2.stops did.counts.stops c.in-Err.cut (g.K.Sink.faults c.args.sink.now) (g.K.Sink.faults c.lines.sink) (g.K.Sink.faults c.carry.new.sink) c.lines.invariant.3 c.lines.invariant.2.faults did.carried

pub returns-clause-ran : goal.returns-clause-ran
returns-clause-ran g c =
    let tells = g.D.Disk.tells in
    let first = (g.D.Disk.counts c.args.disk.now).stops in
    let old = (g.D.Disk.counts c.lines.disk).stops in
    let start = leased c.args.world.now in
    let world = leased c.lines.world in
    let begun = g.K.Sink.held c.args.sink.now in
    let held = g.K.Sink.held c.lines.sink in
    let all = map read_of c.args.lines.items in
    all_done tells first old c.args.means.bound all start c.lines.number world begun held
    (subst (λ (ls : List ScriptLine). Sofar tells first old c.args.means.bound all start c.lines.number (map read_of ls) world begun held)
    (none_ahead (into_iter_items c.lines.ahead) (into_iter_len c.lines.ahead) c.lines.ahead.rest.ok.0 c.in_default.ensures.cases.0) c.lines.invariant.0)
