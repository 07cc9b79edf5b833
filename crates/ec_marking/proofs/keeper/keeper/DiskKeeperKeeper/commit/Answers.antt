use Rattle.std.proofs.Common.{refl}
use Rattle.ec_durable.specs.Codes.{record_code}
use Rattle.ec_journal.specs.Journal.{need_of}
use Rattle.ec_journal.specs.OfLayout.Selected.{free_now}
use Rattle.ec_store.specs.Store.{view_of}
use Rattle.ec_marking.proofs.OfKeeper.Steps.{steps, failed_refuses, failed_wants, stopped_refuses, stopped_wants, committed_turns, ended_turns}
use Rattle.ec_marking.proofs.keeper.keeper.DiskKeeperKeeper.commit.Goals as goal

pub returns-in-Err-DiskFailed-clause-err : goal.returns-in-Err-DiskFailed-clause-err
returns-in-Err-DiskFailed-clause-err g c =
    let e = c.in-Err-DiskFailed.field-0 in
    let is = c.in-Err-DiskFailed.field-0-is in (
      steps _ _ c.args.change.now (view_of c.args.self.now.store.now) e (λ f p. failed_refuses e f is p) (λ p. failed_wants e is p) c.in-Err-DiskFailed.ensures.refuses,
      (refl, refl, c.commit.ensures.any_moment, ended_turns _ _ _ _ _ _ c.commit.ensures.turned, c.in-Err-DiskFailed.ensures.old),
    )

pub returns-in-Err-DiskStopped-clause-err : goal.returns-in-Err-DiskStopped-clause-err
returns-in-Err-DiskStopped-clause-err g c =
    let e = c.in-Err-DiskStopped.field-0 in
    let is = c.in-Err-DiskStopped.field-0-is in (
      steps _ _ c.args.change.now (view_of c.args.self.now.store.now) e (λ f p. stopped_refuses e f is p) (λ p. stopped_wants e is p) c.in-Err-DiskStopped.ensures.refuses,
      (refl, refl, c.commit.ensures.any_moment, ended_turns _ _ _ _ _ _ c.commit.ensures.turned, c.in-Err-DiskStopped.ensures.old),
    )

pub returns-in-Ok-clause-did : goal.returns-in-Ok-clause-did
returns-in-Ok-clause-did g c =
    let s = c.args.self.now.store.now in (
      refl,
      refl,
      c.in-Ok.ensures.view,
      λ told held. record { held = c.in-Ok.ensures.ok told held; synced = c.in-Ok.ensures.synced told; leaves = c.commit.ensures.any_moment told held },
      c.in-Ok.ensures.calls,
      committed_turns (need_of (record_code.spell c.args.change.now)) (free_now s.selected) (g.D.Disk.counts c.args.self.now.disk.now).armed (g.D.Disk.counts c.commit.new.disk).armed c.commit.result c.in-Ok.field-0 c.in-Ok.is c.commit.ensures.turned,
    )
