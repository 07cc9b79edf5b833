use Rattle.std.proofs.Common.{rules, arith, refl, ◌+◌, ◌≤◌, ◌<◌, length, inl, IsOk, IsErrOf}
use Rattle.ec_durable.specs.Codes.{record_code}
use Rattle.ec_journal.specs.Journal.{need_of}
use Rattle.ec_journal.specs.OfLayout.Selected.{free_now}
use Rattle.ec_stands.specs.Stands.{StandsFor}
use Rattle.ec_store.specs.declared.fault.StoreFault.TheVariants as fault
use Rattle.ec_volume.proofs.Held.{then_ok}
use Rattle.ec_store.specs.Store.{StoreHolds, StandsForEither}
use Rattle.ec_store.proofs.Holding.{leaves_none, held_stands}
use Rattle.ec_store.proofs.Turning.{commit_none, commit_room, commit_turn}
use Rattle.ec_store.proofs.store.Store.commit.Goals as goal

pub returns-in_err-body-clause-any_moment : goal.returns-in_err-body-clause-any_moment
returns-in_err-body-clause-any_moment g c told held =
    let s = c.args.self.now in
    leaves_none (StandsForEither c.args.change.now s.state) (g.D.Disk.view c.args.disk.now) (λ image left. g.met.D.Disk.only_now told c.args.disk.now image left)
    (λ image left. inl (held_stands (g.D.Disk.view c.args.disk.now) s.selected s.named.items s.kept s.state held image left))

pub returns-in_err-ids-clause-any_moment : goal.returns-in_err-ids-clause-any_moment
returns-in_err-ids-clause-any_moment g c told held =
    let s = c.args.self.now in
    leaves_none (StandsForEither c.args.change.now s.state) (g.D.Disk.view c.args.disk.now) (λ image left. g.met.D.Disk.only_now told c.args.disk.now image left)
    (λ image left. inl (held_stands (g.D.Disk.view c.args.disk.now) s.selected s.named.items s.kept s.state held image left))

pub returns-in_err-plan-clause-any_moment : goal.returns-in_err-plan-clause-any_moment
returns-in_err-plan-clause-any_moment g c told held =
    let s = c.args.self.now in
    leaves_none (StandsForEither c.args.change.now s.state) (g.D.Disk.view c.args.disk.now) (λ image left. g.met.D.Disk.only_now told c.args.disk.now image left)
    (λ image left. inl (held_stands (g.D.Disk.view c.args.disk.now) s.selected s.named.items s.kept s.state held image left))

pub returns-then-has_room-clause-stands : goal.returns-then-has_room-clause-stands
returns-then-has_room-clause-stands g c =
    let s = c.add.new.self in
    then_ok c.add.result _ _ (λ ok told held image left. held_stands (g.D.Disk.view c.add.new.disk) s.selected s.named.items s.kept s.state (ok told held) image left) c.add.ensures.ok

pub returns-clause-stands : goal.returns-clause-stands
returns-clause-stands g c =
    let s = c.turn_and_add.new.self in
    then_ok c.turn_and_add.result _ _ (λ ok told held image left. held_stands (g.D.Disk.view c.turn_and_add.new.disk) s.selected s.named.items s.kept s.state (ok told held) image left) c.turn_and_add.ensures.ok

pub returns-in_err-body-clause-turned : goal.returns-in_err-body-clause-turned
returns-in_err-body-clause-turned g c =
    commit_none (need_of (record_code.spell c.args.change.now)) (free_now c.args.self.now.selected) (g.D.Disk.counts c.args.disk.now).armed _ _ (λ h. search rules) (λ t. search rules)

pub returns-in_err-body-clause-old : goal.returns-in_err-body-clause-old
returns-in_err-body-clause-old g c =
    let s = c.args.self.now in
    let now = g.D.Disk.view c.args.disk.now in
    let stands : g.D.Disk.tells → StoreHolds now s.selected s.named.items s.kept s.state → StandsFor now.synced s.state = λ told held. held_stands now s.selected s.named.items s.kept s.state held now.synced (g.met.D.Disk.given_synced told c.args.disk.now) in
    search (rules, stands)

pub returns-in_err-ids-clause-turned : goal.returns-in_err-ids-clause-turned
returns-in_err-ids-clause-turned g c =
    commit_none (need_of (record_code.spell c.args.change.now)) (free_now c.args.self.now.selected) (g.D.Disk.counts c.args.disk.now).armed _ _ (λ h. search rules) (λ t. search rules)

pub returns-in_err-ids-clause-old : goal.returns-in_err-ids-clause-old
returns-in_err-ids-clause-old g c =
    let s = c.args.self.now in
    let now = g.D.Disk.view c.args.disk.now in
    let stands : g.D.Disk.tells → StoreHolds now s.selected s.named.items s.kept s.state → StandsFor now.synced s.state = λ told held. held_stands now s.selected s.named.items s.kept s.state held now.synced (g.met.D.Disk.given_synced told c.args.disk.now) in
    search (rules, stands)

pub returns-in_err-entry-clause-any_moment : goal.returns-in_err-entry-clause-any_moment
returns-in_err-entry-clause-any_moment g c told held =
    let s = c.args.self.now in
    leaves_none (StandsForEither c.args.change.now s.state) (g.D.Disk.view c.args.disk.now) (λ image left. g.met.D.Disk.only_now told c.args.disk.now image left)
    (λ image left. inl (held_stands (g.D.Disk.view c.args.disk.now) s.selected s.named.items s.kept s.state held image left))

pub returns-in_err-entry-clause-turned : goal.returns-in_err-entry-clause-turned
returns-in_err-entry-clause-turned g c =
    commit_none (need_of (record_code.spell c.args.change.now)) (free_now c.args.self.now.selected) (g.D.Disk.counts c.args.disk.now).armed _ _ (λ h. search rules) (λ t. search rules)

pub returns-in_err-entry-clause-old : goal.returns-in_err-entry-clause-old
returns-in_err-entry-clause-old g c =
    let s = c.args.self.now in
    let now = g.D.Disk.view c.args.disk.now in
    let stands : g.D.Disk.tells → StoreHolds now s.selected s.named.items s.kept s.state → StandsFor now.synced s.state = λ told held. held_stands now s.selected s.named.items s.kept s.state held now.synced (g.met.D.Disk.given_synced told c.args.disk.now) in
    search (rules, stands)

pub returns-in_err-plan-clause-turned : goal.returns-in_err-plan-clause-turned
returns-in_err-plan-clause-turned g c =
    commit_none (need_of (record_code.spell c.args.change.now)) (free_now c.args.self.now.selected) (g.D.Disk.counts c.args.disk.now).armed _ _ (λ h. search rules) (λ t. search rules)

pub returns-in_err-plan-clause-old : goal.returns-in_err-plan-clause-old
returns-in_err-plan-clause-old g c =
    let s = c.args.self.now in
    let now = g.D.Disk.view c.args.disk.now in
    let stands : g.D.Disk.tells → StoreHolds now s.selected s.named.items s.kept s.state → StandsFor now.synced s.state = λ told held. held_stands now s.selected s.named.items s.kept s.state held now.synced (g.met.D.Disk.given_synced told c.args.disk.now) in
    search (rules, stands)

pub returns-then-has_room-clause-turned : goal.returns-then-has_room-clause-turned
returns-then-has_room-clause-turned g c =
    let room : need_of (record_code.spell c.args.change.now) ≤ free_now c.args.self.now.selected = search rules in
    commit_room (need_of (record_code.spell c.args.change.now)) (free_now c.args.self.now.selected) (g.D.Disk.counts c.args.disk.now).armed (g.D.Disk.counts c.add.new.disk).armed (IsOk c.add.result) (IsErrOf c.add.result fault.DiskStopped) room c.add.ensures.turned

pub returns-clause-turned : goal.returns-clause-turned
returns-clause-turned g c =
    let none : free_now c.args.self.now.selected < need_of (record_code.spell c.args.change.now) = search rules in
    commit_turn (need_of (record_code.spell c.args.change.now)) (free_now c.args.self.now.selected) (length c.in_ok-plan.plan.pieces.items) (g.D.Disk.counts c.args.disk.now).armed (g.D.Disk.counts c.turn_and_add.new.disk).armed (IsOk c.turn_and_add.result) (IsErrOf c.turn_and_add.result fault.DiskStopped) none c.turn_and_add.ensures.turned

pub returns-then-has_room-clause-halves : goal.returns-then-has_room-clause-halves
returns-then-has_room-clause-halves g c is told held turn armed =
    let room : need_of (record_code.spell c.args.change.now) ≤ free_now c.args.self.now.selected = search rules in
    let way = c.add.ensures.halves is told held turn armed in
    record { most = 4; room = λ le. refl; no_room = λ lt. absurd (omega (arith, lt, room)); within = way.0; halves = way.1 }

pub returns-clause-halves : goal.returns-clause-halves
returns-clause-halves g c is told held turn armed =
    let none : free_now c.args.self.now.selected < need_of (record_code.spell c.args.change.now) = search rules in
    let way = c.turn_and_add.ensures.halves is told held turn armed in
    record { most = length c.in_ok-plan.plan.pieces.items + 9; room = λ le. absurd (omega (arith, le, none)); no_room = λ lt. omega arith; within = way.0; halves = way.1 }
