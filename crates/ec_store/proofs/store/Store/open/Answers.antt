use Rattle.std.proofs.Common.{ℕ, List, subst, refl, ◌∙◌}
use Rattle.ec_disk.specs.Effects.{LeavesOnly}
use Rattle.ec_stands.specs.Stands.{IsBadAt}
use Rattle.ec_store.specs.Opening.{IsOlder, IsSameOrStands}
use Rattle.ec_store.proofs.Resting.{rests_then}
use Rattle.ec_store.proofs.Opens.{rests_open, none_leaves, open_leaves, stood_before}
use Rattle.ec_store.proofs.store.Store.open.Goals as goal

pub returns-in_err-done-clause-any_moment : goal.returns-in_err-done-clause-any_moment
returns-in_err-done-clause-any_moment g c told =
    rests_open (g.D.Disk.view c.args.disk.now) (g.D.Disk.view c.sync.new.self) (c.sync.ensures.rests told) (λ image left. g.met.D.Disk.only_now told c.args.disk.now image left)

pub returns-in_err-done-clause-sync_first : goal.returns-in_err-done-clause-sync_first
returns-in_err-done-clause-sync_first g c told =
    let old = g.D.Disk.view c.args.disk.now in
    let mid = g.D.Disk.view c.sync.new.self in
    record {
      answer = c.sync.result;
      first = c.sync.new.self;
      syncs = c.sync.ensures.does;
      ends = λ other. refl;
      leaves = λ is. none_leaves mid old.gives (c.sync.ensures.synced told is) (c.sync.ensures.rests told).gives (λ image left. g.met.D.Disk.only_now told c.sync.new.self image left);
    }

pub open_synced-requires : goal.open_synced-requires
open_synced-requires g c = record { synced = λ told. c.sync.ensures.synced told c.in_ok-done.ensures.ok }

pub returns-clause-stands : goal.returns-clause-stands
returns-clause-stands g c =
    stood_before c.open_synced.result g.D.Disk.tells (g.D.Disk.view c.sync.new.self).gives (g.D.Disk.view c.args.disk.now).gives (λ told. (c.sync.ensures.rests told).gives) c.open_synced.ensures.stands

pub returns-clause-bad : goal.returns-clause-bad
returns-clause-bad g c place is told = subst (λ (image : List ℕ). IsBadAt image place) (c.sync.ensures.rests told).gives (c.open_synced.ensures.bad place is told)

pub returns-clause-unchanged : goal.returns-clause-unchanged
returns-clause-unchanged g c place is told = c.open_synced.ensures.unchanged place is told ∙ (c.sync.ensures.rests told).gives

pub returns-clause-any_moment : goal.returns-clause-any_moment
returns-clause-any_moment g c told =
    open_leaves (g.D.Disk.view c.args.disk.now) (g.D.Disk.view c.sync.new.self) (g.D.Disk.view c.open_synced.new.disk) (g.met.D.Disk.given told c.args.disk.now) (λ image left. g.met.D.Disk.only_now told c.args.disk.now image left)
    (c.sync.ensures.rests told) (c.open_synced.ensures.any_moment told)

pub returns-clause-sync_first : goal.returns-clause-sync_first
returns-clause-sync_first g c told =
    let mid = g.D.Disk.view c.sync.new.self in
    let new = g.D.Disk.view c.open_synced.new.disk in
    record {
      answer = c.sync.result;
      first = c.sync.new.self;
      syncs = c.sync.ensures.does;
      ends = λ other. absurd (other c.in_ok-done.ensures.ok);
      leaves = λ is. subst (λ (image : List ℕ). LeavesOnly mid new (IsSameOrStands image)) (c.sync.ensures.rests told).gives (c.open_synced.ensures.any_moment told);
    }

pub returns-clause-quiet : goal.returns-clause-quiet
returns-clause-quiet g c told not_older =
    let old = g.D.Disk.view c.args.disk.now in
    let mid = g.D.Disk.view c.sync.new.self in
    rests_then old mid (g.D.Disk.view c.open_synced.new.disk) (λ t image le left. g.met.D.Disk.counts_now told c.args.disk.now t image le left) (c.sync.ensures.rests told)
    (c.open_synced.ensures.quiet told (λ is. not_older (subst IsOlder (c.sync.ensures.rests told).gives is)))
