use Rattle.std.proofs.Common.{◌≡◌, ℕ, List, Option, None, Some, Ok, Err, Bool, false, length, refl, sym, ap, subst}
use Rattle.std.specs.Prelude.{IfErr}
use Rattle.ec_disk.specs.Effects.{Counted}
use Rattle.ec_durable.specs.declared.record.Record.{Record}
use Rattle.ec_protocol.specs.Server as machine
use Rattle.ec_protocol.specs.declared.server.Served.{Served}
use Rattle.ec_server.specs.Clerks.{Records}
use Rattle.ec_server.specs.ServeLaws.{start_goes}
use Rattle.ec_server.specs.Servers.{standing, StandsOn}
use Rattle.ec_server.specs.declared.server.Server.{Server}
use Rattle.ec_server.specs.declared.fault.ServerFault.TheVariants as server
use Rattle.ec_store.specs.Store.{view_of}
use Rattle.ec_marking.specs.Keeping.{IsDone, Turns, HasMark}
use Rattle.ec_marking.specs.declared.marks.Mark.{Mark}
use Rattle.ec_marking.proofs.Outcomes.{Undone, disk_did, disk_broke, means, done_is, undone, has_mark, came_is, spent_is, same_is, ok_counted, ok_ran, err_counted, came_ran, err_stops, came_stops, counts_are, leaves_spends, unstarted_spends, steps_any}
use Rattle.ec_marking.proofs.Begun.{marked_is, stands_is}
use Rattle.ec_marking.proofs.keeping.start_by.Goals as goal

pub turned-requires : goal.turned-requires
turned-requires g c =
    let k = c.args.keeper.now in
    let l = c.start-answer.new.keeper in
    let answer = c.start-answer.result in
    let tells = g.D.Disk.tells in
    let view = g.D.Disk.view in
    let counts = g.D.Disk.counts in
    let did = disk_did tells view counts in
    let broke = disk_broke tells view counts in
    let d = view_of k.keeper.store.now in
    let done = machine.start d in
    let a = counts k.keeper.disk.now in
    let b = counts l.keeper.disk.now in
    let stops = length l.marks.now.stopped.items in
    let now = view l.keeper.disk.now in
    let before = k.records.now.items in
    let mark = l.marks.now.mark in
    let moved = subst (λ (n : ℕ). Counted (record a { stops = n }) (record b { stops = stops }) (answer ≡ Err server.DiskFailed) (answer ≡ Err server.DiskStopped)) (ap (λ (rs : List Record). length rs) c.requires.running) c.start-answer.ensures.counts in
    let m = means tells view counts k l (λ told image le left. g.met.D.Disk.counts_now told l.keeper.disk.now (view k.keeper.disk.now).moment image le left) (λ told. g.met.D.Disk.given_synced told k.keeper.disk.now) c.requires.held c.requires.unmarked c.requires.running in
    let steps = steps_any (Server × Served) answer done d k l (start_goes d).record_of in
    let u = undone (Server × Served) _ did broke k l tells k.keeper.store.now l.keeper.store.now now mark before a b stops done m answer c.start-answer.ensures.keeper (unstarted_spends (Server × Served) answer done d (view_of l.keeper.store.now) c.start-answer.ensures.err) steps moved.stopped in
    let marked = has_mark (Server × Served) tells done k.keeper.store.now l.keeper.store.now now mark before answer u in
    subst (λ (o : Option Mark). HasMark answer o) (sym c.take.ensures.value) marked

pub returns-clause-came : goal.returns-clause-came
returns-clause-came g c =
    let k = c.args.keeper.now in
    let l = c.start-answer.new.keeper in
    let answer = c.start-answer.result in
    let tells = g.D.Disk.tells in
    let view = g.D.Disk.view in
    let counts = g.D.Disk.counts in
    let did = disk_did tells view counts in
    let broke = disk_broke tells view counts in
    let d = view_of k.keeper.store.now in
    let done = machine.start d in
    let a = counts k.keeper.disk.now in
    let b = counts l.keeper.disk.now in
    let stops = length l.marks.now.stopped.items in
    let now = view l.keeper.disk.now in
    let before = k.records.now.items in
    let mark = l.marks.now.mark in
    let moved = subst (λ (n : ℕ). Counted (record a { stops = n }) (record b { stops = stops }) (answer ≡ Err server.DiskFailed) (answer ≡ Err server.DiskStopped)) (ap (λ (rs : List Record). length rs) c.requires.running) c.start-answer.ensures.counts in
    let m = means tells view counts k l (λ told image le left. g.met.D.Disk.counts_now told l.keeper.disk.now (view k.keeper.disk.now).moment image le left) (λ told. g.met.D.Disk.given_synced told k.keeper.disk.now) c.requires.held c.requires.unmarked c.requires.running in
    let steps = steps_any (Server × Served) answer done d k l (start_goes d).record_of in
    let u = undone (Server × Served) _ did broke k l tells k.keeper.store.now l.keeper.store.now now mark before a b stops done m answer c.start-answer.ensures.keeper (unstarted_spends (Server × Served) answer done d (view_of l.keeper.store.now) c.start-answer.ensures.err) steps moved.stopped in
    let turns = subst (λ (o : Option Mark). Turns answer o c.turned.result) c.take.ensures.value c.turned.ensures in
    let did_is = done_is (Server × Served) (λ (x : Server × Served). x.0) (λ (x : Server × Served). x.1) _ did broke k l tells k.keeper.store.now l.keeper.store.now now mark before a b stops done m answer c.start-answer.ensures.ok c.start-answer.ensures.did c.start-answer.ensures.record in
    came_is (Server × Served) (λ made o. IsDone tells done d before made.0 l.keeper.store.now now made.1 o) tells done k.keeper.store.now l.keeper.store.now now mark before answer c.turned.result turns did_is u

pub returns-clause-spent : goal.returns-clause-spent
returns-clause-spent g c =
    let k = c.args.keeper.now in
    let l = c.start-answer.new.keeper in
    let answer = c.start-answer.result in
    let tells = g.D.Disk.tells in
    let view = g.D.Disk.view in
    let counts = g.D.Disk.counts in
    let did = disk_did tells view counts in
    let broke = disk_broke tells view counts in
    let d = view_of k.keeper.store.now in
    let done = machine.start d in
    let a = counts k.keeper.disk.now in
    let b = counts l.keeper.disk.now in
    let stops = length l.marks.now.stopped.items in
    let now = view l.keeper.disk.now in
    let before = k.records.now.items in
    let mark = l.marks.now.mark in
    let moved = subst (λ (n : ℕ). Counted (record a { stops = n }) (record b { stops = stops }) (answer ≡ Err server.DiskFailed) (answer ≡ Err server.DiskStopped)) (ap (λ (rs : List Record). length rs) c.requires.running) c.start-answer.ensures.counts in
    let m = means tells view counts k l (λ told image le left. g.met.D.Disk.counts_now told l.keeper.disk.now (view k.keeper.disk.now).moment image le left) (λ told. g.met.D.Disk.given_synced told k.keeper.disk.now) c.requires.held c.requires.unmarked c.requires.running in
    let steps = steps_any (Server × Served) answer done d k l (start_goes d).record_of in
    let u = undone (Server × Served) _ did broke k l tells k.keeper.store.now l.keeper.store.now now mark before a b stops done m answer c.start-answer.ensures.keeper (unstarted_spends (Server × Served) answer done d (view_of l.keeper.store.now) c.start-answer.ensures.err) steps moved.stopped in
    let turns = subst (λ (o : Option Mark). Turns answer o c.turned.result) c.take.ensures.value c.turned.ensures in
    spent_is (Server × Served) tells done k.keeper.store.now l.keeper.store.now now mark before answer c.turned.result turns u

pub returns-clause-counts : goal.returns-clause-counts
returns-clause-counts g c =
    let k = c.args.keeper.now in
    let l = c.start-answer.new.keeper in
    let answer = c.start-answer.result in
    let tells = g.D.Disk.tells in
    let view = g.D.Disk.view in
    let counts = g.D.Disk.counts in
    let did = disk_did tells view counts in
    let broke = disk_broke tells view counts in
    let d = view_of k.keeper.store.now in
    let done = machine.start d in
    let a = counts k.keeper.disk.now in
    let b = counts l.keeper.disk.now in
    let stops = length l.marks.now.stopped.items in
    let now = view l.keeper.disk.now in
    let before = k.records.now.items in
    let mark = l.marks.now.mark in
    let moved = subst (λ (n : ℕ). Counted (record a { stops = n }) (record b { stops = stops }) (answer ≡ Err server.DiskFailed) (answer ≡ Err server.DiskStopped)) (ap (λ (rs : List Record). length rs) c.requires.running) c.start-answer.ensures.counts in
    let m = means tells view counts k l (λ told image le left. g.met.D.Disk.counts_now told l.keeper.disk.now (view k.keeper.disk.now).moment image le left) (λ told. g.met.D.Disk.given_synced told k.keeper.disk.now) c.requires.held c.requires.unmarked c.requires.running in
    let turns = subst (λ (o : Option Mark). Turns answer o c.turned.result) c.take.ensures.value c.turned.ensures in
    let ok = ok_counted (Server × Served) (λ (x : Server × Served). x.1) _ did broke k l tells k.keeper.store.now l.keeper.store.now now mark before a b stops m answer c.start-answer.ensures.did in
    let err = err_counted (Server × Served) _ did broke k l tells k.keeper.store.now l.keeper.store.now now mark before a b stops done m answer c.start-answer.ensures.keeper moved.stopped in
    counts_are (Server × Served) a b stops mark answer c.turned.result turns moved ok err

pub returns-clause-marked : goal.returns-clause-marked
returns-clause-marked g c =
    let k = c.args.keeper.now in
    let l = c.start-answer.new.keeper in
    let answer = c.start-answer.result in
    let tells = g.D.Disk.tells in
    let view = g.D.Disk.view in
    let counts = g.D.Disk.counts in
    let did = disk_did tells view counts in
    let broke = disk_broke tells view counts in
    let d = view_of k.keeper.store.now in
    let done = machine.start d in
    let a = counts k.keeper.disk.now in
    let b = counts l.keeper.disk.now in
    let stops = length l.marks.now.stopped.items in
    let now = view l.keeper.disk.now in
    let before = k.records.now.items in
    let mark = l.marks.now.mark in
    let moved = subst (λ (n : ℕ). Counted (record a { stops = n }) (record b { stops = stops }) (answer ≡ Err server.DiskFailed) (answer ≡ Err server.DiskStopped)) (ap (λ (rs : List Record). length rs) c.requires.running) c.start-answer.ensures.counts in
    let m = means tells view counts k l (λ told image le left. g.met.D.Disk.counts_now told l.keeper.disk.now (view k.keeper.disk.now).moment image le left) (λ told. g.met.D.Disk.given_synced told k.keeper.disk.now) c.requires.held c.requires.unmarked c.requires.running in
    let steps = steps_any (Server × Served) answer done d k l (start_goes d).record_of in
    let u = undone (Server × Served) _ did broke k l tells k.keeper.store.now l.keeper.store.now now mark before a b stops done m answer c.start-answer.ensures.keeper (unstarted_spends (Server × Served) answer done d (view_of l.keeper.store.now) c.start-answer.ensures.err) steps moved.stopped in
    let turns = subst (λ (o : Option Mark). Turns answer o c.turned.result) c.take.ensures.value c.turned.ensures in
    let did_is = done_is (Server × Served) (λ (x : Server × Served). x.0) (λ (x : Server × Served). x.1) _ did broke k l tells k.keeper.store.now l.keeper.store.now now mark before a b stops done m answer c.start-answer.ensures.ok c.start-answer.ensures.did c.start-answer.ensures.record in
    marked_is tells d before l.keeper.store.now now mark answer c.turned.result turns did_is

pub returns-clause-stands : goal.returns-clause-stands
returns-clause-stands g c =
    let turns = subst (λ (o : Option Mark). Turns c.start-answer.result o c.turned.result) c.take.ensures.value c.turned.ensures in
    stands_is (Server × Served) (λ made. StandsOn (view_of c.start-answer.new.keeper.keeper.store.now) made.0) c.start-answer.new.keeper.marks.now.mark c.start-answer.result c.turned.result turns c.start-answer.ensures.stands

pub returns-clause-ran : goal.returns-clause-ran
returns-clause-ran g c =
    let k = c.args.keeper.now in
    let l = c.start-answer.new.keeper in
    let answer = c.start-answer.result in
    let tells = g.D.Disk.tells in
    let view = g.D.Disk.view in
    let counts = g.D.Disk.counts in
    let did = disk_did tells view counts in
    let broke = disk_broke tells view counts in
    let d = view_of k.keeper.store.now in
    let done = machine.start d in
    let a = counts k.keeper.disk.now in
    let b = counts l.keeper.disk.now in
    let stops = length l.marks.now.stopped.items in
    let now = view l.keeper.disk.now in
    let before = k.records.now.items in
    let mark = l.marks.now.mark in
    let m = means tells view counts k l (λ told image le left. g.met.D.Disk.counts_now told l.keeper.disk.now (view k.keeper.disk.now).moment image le left) (λ told. g.met.D.Disk.given_synced told k.keeper.disk.now) c.requires.held c.requires.unmarked c.requires.running in
    let turns = subst (λ (o : Option Mark). Turns answer o c.turned.result) c.take.ensures.value c.turned.ensures in
    came_ran (Server × Served) (view_of k.keeper.store.now) (view_of l.keeper.store.now) a b mark answer c.turned.result turns (ok_ran (Server × Served) (λ (x : Server × Served). x.1) _ did broke k l tells k.keeper.store.now l.keeper.store.now now mark before a b stops m answer c.start-answer.ensures.did)

pub returns-clause-stops : goal.returns-clause-stops
returns-clause-stops g c =
    let k = c.args.keeper.now in
    let l = c.start-answer.new.keeper in
    let answer = c.start-answer.result in
    let tells = g.D.Disk.tells in
    let view = g.D.Disk.view in
    let counts = g.D.Disk.counts in
    let did = disk_did tells view counts in
    let broke = disk_broke tells view counts in
    let d = view_of k.keeper.store.now in
    let done = machine.start d in
    let a = counts k.keeper.disk.now in
    let b = counts l.keeper.disk.now in
    let stops = length l.marks.now.stopped.items in
    let now = view l.keeper.disk.now in
    let before = k.records.now.items in
    let mark = l.marks.now.mark in
    let moved = subst (λ (n : ℕ). Counted (record a { stops = n }) (record b { stops = stops }) (answer ≡ Err server.DiskFailed) (answer ≡ Err server.DiskStopped)) (ap (λ (rs : List Record). length rs) c.requires.running) c.start-answer.ensures.counts in
    let m = means tells view counts k l (λ told image le left. g.met.D.Disk.counts_now told l.keeper.disk.now (view k.keeper.disk.now).moment image le left) (λ told. g.met.D.Disk.given_synced told k.keeper.disk.now) c.requires.held c.requires.unmarked c.requires.running in
    let steps = steps_any (Server × Served) answer done d k l (start_goes d).record_of in
    let turns = subst (λ (o : Option Mark). Turns answer o c.turned.result) c.take.ensures.value c.turned.ensures in
    came_stops (Server × Served) tells a.armed d done.server.durable now mark answer c.turned.result turns (err_stops (Server × Served) _ did broke k l tells k.keeper.store.now l.keeper.store.now now mark before a b stops done m answer c.start-answer.ensures.keeper steps moved.stopped)
