use Rattle.std.proofs.Common.{◌≡◌, ℕ, List, Option, None, Some, Ok, Err, Bool, false, length, refl, sym, ap, subst}
use Rattle.std.specs.Prelude.{IfErr}
use Rattle.ec_disk.specs.Effects.{Counted}
use Rattle.ec_durable.specs.declared.record.Record.{Record}
use Rattle.ec_protocol.specs.Server as machine
use Rattle.ec_protocol.specs.declared.server.Served.{Served}
use Rattle.ec_server.specs.Clerks.{Records}
use Rattle.ec_server.specs.ServeLaws.{take_goes}
use Rattle.ec_server.specs.Servers.{standing}
use Rattle.ec_server.specs.declared.server.Server.{Server}
use Rattle.ec_server.specs.declared.fault.ServerFault.TheVariants as server
use Rattle.ec_store.specs.Store.{view_of}
use Rattle.ec_marking.specs.Keeping.{IsDone, Turns, HasMark}
use Rattle.ec_marking.specs.declared.marks.Mark.{Mark}
use Rattle.ec_marking.proofs.Outcomes.{Undone, disk_did, disk_broke, means, done_is, undone, has_mark, came_is, spent_is, same_is, ok_counted, ok_ran, err_counted, came_ran, err_stops, came_stops, counts_are, leaves_spends, unstarted_spends, steps_up}
use Rattle.ec_marking.proofs.keeping.take_by.Goals as goal

pub turned-requires : goal.turned-requires
turned-requires g c =
    let k = c.args.keeper.now in
    let l = c.take-answer.new.keeper in
    let answer = c.take-answer.result in
    let tells = g.D.Disk.tells in
    let view = g.D.Disk.view in
    let counts = g.D.Disk.counts in
    let did = disk_did tells view counts in
    let broke = disk_broke tells view counts in
    let d = view_of k.keeper.store.now in
    let done = machine.take c.args.from c.args.msg.now (standing d c.args.server.now) in
    let a = counts k.keeper.disk.now in
    let b = counts l.keeper.disk.now in
    let stops = length l.marks.now.stopped.items in
    let now = view l.keeper.disk.now in
    let before = k.records.now.items in
    let mark = l.marks.now.mark in
    let moved = subst (λ (n : ℕ). Counted (record a { stops = n }) (record b { stops = stops }) (answer ≡ Err server.DiskFailed) (answer ≡ Err server.DiskStopped)) (ap (λ (rs : List Record). length rs) c.requires.running) c.take-answer.ensures.counts in
    let m = means tells view counts k l (λ told image le left. g.met.D.Disk.counts_now told l.keeper.disk.now (view k.keeper.disk.now).moment image le left) (λ told. g.met.D.Disk.given_synced told k.keeper.disk.now) c.requires.held c.requires.unmarked c.requires.running in
    let steps = steps_up answer _ _ done d k l c.take-answer.ensures.down c.take-answer.ensures.rests (λ up. (take_goes c.args.from c.args.msg.now (standing d c.args.server.now) (c.requires.stands up)).record_of) in
    let u = undone Served _ did broke k l tells k.keeper.store.now l.keeper.store.now now mark before a b stops done m answer c.take-answer.ensures.keeper (leaves_spends Served answer _ _ done (standing d c.args.server.now) (standing (view_of l.keeper.store.now) c.take-answer.new.self) c.take-answer.ensures.err) steps moved.stopped in
    let marked = has_mark Served tells done k.keeper.store.now l.keeper.store.now now mark before answer u in
    subst (λ (o : Option Mark). HasMark answer o) (sym c.take.ensures.value) marked

pub returns-clause-came : goal.returns-clause-came
returns-clause-came g c =
    let k = c.args.keeper.now in
    let l = c.take-answer.new.keeper in
    let answer = c.take-answer.result in
    let tells = g.D.Disk.tells in
    let view = g.D.Disk.view in
    let counts = g.D.Disk.counts in
    let did = disk_did tells view counts in
    let broke = disk_broke tells view counts in
    let d = view_of k.keeper.store.now in
    let done = machine.take c.args.from c.args.msg.now (standing d c.args.server.now) in
    let a = counts k.keeper.disk.now in
    let b = counts l.keeper.disk.now in
    let stops = length l.marks.now.stopped.items in
    let now = view l.keeper.disk.now in
    let before = k.records.now.items in
    let mark = l.marks.now.mark in
    let moved = subst (λ (n : ℕ). Counted (record a { stops = n }) (record b { stops = stops }) (answer ≡ Err server.DiskFailed) (answer ≡ Err server.DiskStopped)) (ap (λ (rs : List Record). length rs) c.requires.running) c.take-answer.ensures.counts in
    let m = means tells view counts k l (λ told image le left. g.met.D.Disk.counts_now told l.keeper.disk.now (view k.keeper.disk.now).moment image le left) (λ told. g.met.D.Disk.given_synced told k.keeper.disk.now) c.requires.held c.requires.unmarked c.requires.running in
    let steps = steps_up answer _ _ done d k l c.take-answer.ensures.down c.take-answer.ensures.rests (λ up. (take_goes c.args.from c.args.msg.now (standing d c.args.server.now) (c.requires.stands up)).record_of) in
    let u = undone Served _ did broke k l tells k.keeper.store.now l.keeper.store.now now mark before a b stops done m answer c.take-answer.ensures.keeper (leaves_spends Served answer _ _ done (standing d c.args.server.now) (standing (view_of l.keeper.store.now) c.take-answer.new.self) c.take-answer.ensures.err) steps moved.stopped in
    let turns = subst (λ (o : Option Mark). Turns answer o c.turned.result) c.take.ensures.value c.turned.ensures in
    let did_is = done_is Served (λ (x : Served). c.take-answer.new.self) (λ (x : Served). x) _ did broke k l tells k.keeper.store.now l.keeper.store.now now mark before a b stops done m answer c.take-answer.ensures.ok c.take-answer.ensures.did c.take-answer.ensures.record in
    came_is Served (λ served o. IsDone tells done d before c.take-answer.new.self l.keeper.store.now now served o) tells done k.keeper.store.now l.keeper.store.now now mark before answer c.turned.result turns did_is u

pub returns-clause-spent : goal.returns-clause-spent
returns-clause-spent g c =
    let k = c.args.keeper.now in
    let l = c.take-answer.new.keeper in
    let answer = c.take-answer.result in
    let tells = g.D.Disk.tells in
    let view = g.D.Disk.view in
    let counts = g.D.Disk.counts in
    let did = disk_did tells view counts in
    let broke = disk_broke tells view counts in
    let d = view_of k.keeper.store.now in
    let done = machine.take c.args.from c.args.msg.now (standing d c.args.server.now) in
    let a = counts k.keeper.disk.now in
    let b = counts l.keeper.disk.now in
    let stops = length l.marks.now.stopped.items in
    let now = view l.keeper.disk.now in
    let before = k.records.now.items in
    let mark = l.marks.now.mark in
    let moved = subst (λ (n : ℕ). Counted (record a { stops = n }) (record b { stops = stops }) (answer ≡ Err server.DiskFailed) (answer ≡ Err server.DiskStopped)) (ap (λ (rs : List Record). length rs) c.requires.running) c.take-answer.ensures.counts in
    let m = means tells view counts k l (λ told image le left. g.met.D.Disk.counts_now told l.keeper.disk.now (view k.keeper.disk.now).moment image le left) (λ told. g.met.D.Disk.given_synced told k.keeper.disk.now) c.requires.held c.requires.unmarked c.requires.running in
    let steps = steps_up answer _ _ done d k l c.take-answer.ensures.down c.take-answer.ensures.rests (λ up. (take_goes c.args.from c.args.msg.now (standing d c.args.server.now) (c.requires.stands up)).record_of) in
    let u = undone Served _ did broke k l tells k.keeper.store.now l.keeper.store.now now mark before a b stops done m answer c.take-answer.ensures.keeper (leaves_spends Served answer _ _ done (standing d c.args.server.now) (standing (view_of l.keeper.store.now) c.take-answer.new.self) c.take-answer.ensures.err) steps moved.stopped in
    let turns = subst (λ (o : Option Mark). Turns answer o c.turned.result) c.take.ensures.value c.turned.ensures in
    spent_is Served tells done k.keeper.store.now l.keeper.store.now now mark before answer c.turned.result turns u

pub returns-clause-counts : goal.returns-clause-counts
returns-clause-counts g c =
    let k = c.args.keeper.now in
    let l = c.take-answer.new.keeper in
    let answer = c.take-answer.result in
    let tells = g.D.Disk.tells in
    let view = g.D.Disk.view in
    let counts = g.D.Disk.counts in
    let did = disk_did tells view counts in
    let broke = disk_broke tells view counts in
    let d = view_of k.keeper.store.now in
    let done = machine.take c.args.from c.args.msg.now (standing d c.args.server.now) in
    let a = counts k.keeper.disk.now in
    let b = counts l.keeper.disk.now in
    let stops = length l.marks.now.stopped.items in
    let now = view l.keeper.disk.now in
    let before = k.records.now.items in
    let mark = l.marks.now.mark in
    let moved = subst (λ (n : ℕ). Counted (record a { stops = n }) (record b { stops = stops }) (answer ≡ Err server.DiskFailed) (answer ≡ Err server.DiskStopped)) (ap (λ (rs : List Record). length rs) c.requires.running) c.take-answer.ensures.counts in
    let m = means tells view counts k l (λ told image le left. g.met.D.Disk.counts_now told l.keeper.disk.now (view k.keeper.disk.now).moment image le left) (λ told. g.met.D.Disk.given_synced told k.keeper.disk.now) c.requires.held c.requires.unmarked c.requires.running in
    let turns = subst (λ (o : Option Mark). Turns answer o c.turned.result) c.take.ensures.value c.turned.ensures in
    let ok = ok_counted Served (λ (x : Served). x) _ did broke k l tells k.keeper.store.now l.keeper.store.now now mark before a b stops m answer c.take-answer.ensures.did in
    let err = err_counted Served _ did broke k l tells k.keeper.store.now l.keeper.store.now now mark before a b stops done m answer c.take-answer.ensures.keeper moved.stopped in
    counts_are Served a b stops mark answer c.turned.result turns moved ok err

pub returns-clause-same : goal.returns-clause-same
returns-clause-same g c =
    let k = c.args.keeper.now in
    let l = c.take-answer.new.keeper in
    let answer = c.take-answer.result in
    let tells = g.D.Disk.tells in
    let view = g.D.Disk.view in
    let counts = g.D.Disk.counts in
    let did = disk_did tells view counts in
    let broke = disk_broke tells view counts in
    let d = view_of k.keeper.store.now in
    let done = machine.take c.args.from c.args.msg.now (standing d c.args.server.now) in
    let a = counts k.keeper.disk.now in
    let b = counts l.keeper.disk.now in
    let stops = length l.marks.now.stopped.items in
    let now = view l.keeper.disk.now in
    let before = k.records.now.items in
    let mark = l.marks.now.mark in
    let moved = subst (λ (n : ℕ). Counted (record a { stops = n }) (record b { stops = stops }) (answer ≡ Err server.DiskFailed) (answer ≡ Err server.DiskStopped)) (ap (λ (rs : List Record). length rs) c.requires.running) c.take-answer.ensures.counts in
    let m = means tells view counts k l (λ told image le left. g.met.D.Disk.counts_now told l.keeper.disk.now (view k.keeper.disk.now).moment image le left) (λ told. g.met.D.Disk.given_synced told k.keeper.disk.now) c.requires.held c.requires.unmarked c.requires.running in
    let turns = subst (λ (o : Option Mark). Turns answer o c.turned.result) c.take.ensures.value c.turned.ensures in
    let was = standing d c.args.server.now in
    let is = standing (view_of l.keeper.store.now) c.take-answer.new.self in
    same_is Served answer mark c.turned.result _ _ done was is turns c.take-answer.ensures.err

pub returns-clause-ran : goal.returns-clause-ran
returns-clause-ran g c =
    let k = c.args.keeper.now in
    let l = c.take-answer.new.keeper in
    let answer = c.take-answer.result in
    let tells = g.D.Disk.tells in
    let view = g.D.Disk.view in
    let counts = g.D.Disk.counts in
    let did = disk_did tells view counts in
    let broke = disk_broke tells view counts in
    let d = view_of k.keeper.store.now in
    let done = machine.take c.args.from c.args.msg.now (standing d c.args.server.now) in
    let a = counts k.keeper.disk.now in
    let b = counts l.keeper.disk.now in
    let stops = length l.marks.now.stopped.items in
    let now = view l.keeper.disk.now in
    let before = k.records.now.items in
    let mark = l.marks.now.mark in
    let m = means tells view counts k l (λ told image le left. g.met.D.Disk.counts_now told l.keeper.disk.now (view k.keeper.disk.now).moment image le left) (λ told. g.met.D.Disk.given_synced told k.keeper.disk.now) c.requires.held c.requires.unmarked c.requires.running in
    let turns = subst (λ (o : Option Mark). Turns answer o c.turned.result) c.take.ensures.value c.turned.ensures in
    came_ran Served (view_of k.keeper.store.now) (view_of l.keeper.store.now) a b mark answer c.turned.result turns (ok_ran Served (λ (x : Served). x) _ did broke k l tells k.keeper.store.now l.keeper.store.now now mark before a b stops m answer c.take-answer.ensures.did)

pub returns-clause-stops : goal.returns-clause-stops
returns-clause-stops g c =
    let k = c.args.keeper.now in
    let l = c.take-answer.new.keeper in
    let answer = c.take-answer.result in
    let tells = g.D.Disk.tells in
    let view = g.D.Disk.view in
    let counts = g.D.Disk.counts in
    let did = disk_did tells view counts in
    let broke = disk_broke tells view counts in
    let d = view_of k.keeper.store.now in
    let done = machine.take c.args.from c.args.msg.now (standing d c.args.server.now) in
    let a = counts k.keeper.disk.now in
    let b = counts l.keeper.disk.now in
    let stops = length l.marks.now.stopped.items in
    let now = view l.keeper.disk.now in
    let before = k.records.now.items in
    let mark = l.marks.now.mark in
    let moved = subst (λ (n : ℕ). Counted (record a { stops = n }) (record b { stops = stops }) (answer ≡ Err server.DiskFailed) (answer ≡ Err server.DiskStopped)) (ap (λ (rs : List Record). length rs) c.requires.running) c.take-answer.ensures.counts in
    let m = means tells view counts k l (λ told image le left. g.met.D.Disk.counts_now told l.keeper.disk.now (view k.keeper.disk.now).moment image le left) (λ told. g.met.D.Disk.given_synced told k.keeper.disk.now) c.requires.held c.requires.unmarked c.requires.running in
    let steps = steps_up answer _ _ done d k l c.take-answer.ensures.down c.take-answer.ensures.rests (λ up. (take_goes c.args.from c.args.msg.now (standing d c.args.server.now) (c.requires.stands up)).record_of) in
    let turns = subst (λ (o : Option Mark). Turns answer o c.turned.result) c.take.ensures.value c.turned.ensures in
    came_stops Served tells a.armed d done.server.durable now mark answer c.turned.result turns (err_stops Served _ did broke k l tells k.keeper.store.now l.keeper.store.now now mark before a b stops done m answer c.take-answer.ensures.keeper steps moved.stopped)
