use Rattle.std.proofs.Common.{rules, ◌≡◌, ◌≤◌, ◌-◌, ◌∙◌, arith, IsOk, IsErrOf}
use Rattle.ec_disk.specs.declared.disk.DiskAnswer.TheVariants as said
use Rattle.ec_disk.specs.Counting.{called_both}
use Rattle.ec_journal.specs.Ends.{did_both, ends_later, ends_sooner, stops_behind, stops_within, turns_later, turns_for}
use Rattle.ec_journal.specs.Journal.{FromGate, LeavesOld}
use Rattle.ec_journal.specs.declared.fault.JournalFault.TheVariants as fault
use Rattle.ec_journal.proofs.Append.{size-records, kept_by_first, first_leaves, both_leave, both_ran, given_both, appended, old_stays, ends_for}
use Rattle.ec_journal.proofs.journal.Journal.append_staged.Goals as goal

pub returns-in_err-write_staged-clause-any_moment : goal.returns-in_err-write_staged-clause-any_moment
returns-in_err-write_staged-clause-any_moment g c told bodies on =
    let j = c.args.self.now in
    first_leaves j.at j.size j.end bodies c.args.entry.now on.ends (omega (arith, c.size-size.ensures.small)) (omega (arith, c.in_ok-find_room.ensures, c.size-size.ensures.size)) j.room (g.D.Disk.view c.args.disk.now) (g.D.Disk.view c.write_staged.new.disk) on.each
    (c.write_staged.ensures.ran told)

pub returns-in_err-write_synced-clause-any_moment : goal.returns-in_err-write_synced-clause-any_moment
returns-in_err-write_synced-clause-any_moment g c told bodies on =
    let j = c.args.self.now in
    both_leave j.at j.size j.end bodies c.args.entry.now on.ends (omega (arith, c.size-size.ensures.small)) (omega (arith, c.in_ok-find_room.ensures, c.size-size.ensures.size)) j.room (g.D.Disk.view c.args.disk.now) (g.D.Disk.view c.write_staged.new.disk) on.each
    (c.write_staged.ensures.ran told) (g.met.D.Disk.given told c.write_staged.new.disk) (c.in_ok-write_staged.ensures.written told) (c.in_ok-write_staged.ensures.synced told)
    (g.D.Disk.view c.write_synced.new.disk) (c.write_synced.ensures.ran told)

pub returns-clause-any_moment : goal.returns-clause-any_moment
returns-clause-any_moment g c told bodies on =
    let j = c.args.self.now in
    both_leave j.at j.size j.end bodies c.args.entry.now on.ends (omega (arith, c.size-size.ensures.small)) (omega (arith, c.in_ok-find_room.ensures, c.size-size.ensures.size)) j.room (g.D.Disk.view c.args.disk.now) (g.D.Disk.view c.write_staged.new.disk) on.each
    (c.write_staged.ensures.ran told) (g.met.D.Disk.given told c.write_staged.new.disk) (c.in_ok-write_staged.ensures.written told) (c.in_ok-write_staged.ensures.synced told)
    (g.D.Disk.view c.write_synced.new.disk) (c.write_synced.ensures.ran told)

pub returns-clause-ok : goal.returns-clause-ok
returns-clause-ok g c told bodies on =
    let j = c.args.self.now in
    record {
      ends = omega (arith, on.ends, size-records j.at j.size bodies c.args.entry.now (omega (arith, c.size-size.ensures.small)) (omega (arith, on.ends, c.in_ok-find_room.ensures, c.size-size.ensures.size, j.room)));
      each =
          appended j.at j.size j.end bodies c.args.entry.now on.ends (omega (arith, c.size-size.ensures.small)) (omega (arith, c.in_ok-find_room.ensures, c.size-size.ensures.size)) j.room (g.D.Disk.view c.args.disk.now) (g.D.Disk.view c.write_staged.new.disk) on.each
          (c.write_staged.ensures.ran told) (g.met.D.Disk.given told c.write_staged.new.disk) (c.in_ok-write_staged.ensures.written told) (c.in_ok-write_staged.ensures.synced told)
          (g.D.Disk.view c.write_synced.new.disk) (c.write_synced.ensures.ran told) (c.in_ok-write_synced.ensures.written told) (c.in_ok-write_synced.ensures.synced told)
          (g.met.D.Disk.given told c.write_synced.new.disk);
    }

pub returns-in_err-write_synced-clause-ran : goal.returns-in_err-write_synced-clause-ran
returns-in_err-write_synced-clause-ran g c told =
    let j = c.args.self.now in
    both_ran j.at j.size j.end c.args.entry.now (omega (arith, c.in_ok-find_room.ensures, c.size-size.ensures.size)) j.room (FromGate j) (λ i low high. (low, high)) (g.D.Disk.view c.args.disk.now) (g.D.Disk.view c.write_staged.new.disk)
    (g.D.Disk.view c.write_synced.new.disk) (c.write_staged.ensures.ran told) (c.write_synced.ensures.ran told)

pub returns-clause-ran : goal.returns-clause-ran
returns-clause-ran g c told =
    let j = c.args.self.now in
    both_ran j.at j.size j.end c.args.entry.now (omega (arith, c.in_ok-find_room.ensures, c.size-size.ensures.size)) j.room (FromGate j) (λ i low high. (low, high)) (g.D.Disk.view c.args.disk.now) (g.D.Disk.view c.write_staged.new.disk)
    (g.D.Disk.view c.write_synced.new.disk) (c.write_staged.ensures.ran told) (c.write_synced.ensures.ran told)

pub returns-clause-calls : goal.returns-clause-calls
returns-clause-calls g c =
    called_both 2 2 (g.D.Disk.counts c.args.disk.now) (g.D.Disk.counts c.write_staged.new.disk) (g.D.Disk.counts c.write_synced.new.disk) c.in_ok-write_staged.ensures.calls c.in_ok-write_synced.ensures.calls

pub returns-clause-did : goal.returns-clause-did
returns-clause-did g c = did_both g.D.Disk.does 2 2 c.args.disk.now c.write_staged.new.disk c.write_synced.new.disk c.in_ok-write_staged.ensures.did c.in_ok-write_synced.ensures.did

pub returns-in_err-write_staged-clause-failed : goal.returns-in_err-write_staged-clause-failed
returns-in_err-write_staged-clause-failed g c is =
    let same : c.in_err-write_staged.field-0.0 ≡ fault.DiskFailed = search rules in
    ends_sooner g.D.Disk.does said.Failed 2 2 c.args.disk.now c.write_staged.new.disk (ends_for g.D.Disk.does c.in_err-write_staged.field-0.0 fault.DiskFailed 2 c.args.disk.now c.write_staged.new.disk same c.in_err-write_staged.ensures.ends)

pub returns-in_err-write_synced-clause-failed : goal.returns-in_err-write_synced-clause-failed
returns-in_err-write_synced-clause-failed g c is =
    let same : c.in_err-write_synced.field-0.0 ≡ fault.DiskFailed = search rules in
    ends_later g.D.Disk.does said.Failed 2 2 c.args.disk.now c.write_staged.new.disk c.write_synced.new.disk c.in_ok-write_staged.ensures.did
    (ends_for g.D.Disk.does c.in_err-write_synced.field-0.0 fault.DiskFailed 2 c.write_staged.new.disk c.write_synced.new.disk same c.in_err-write_synced.ensures.ends)

pub returns-in_err-write_staged-clause-stopped : goal.returns-in_err-write_staged-clause-stopped
returns-in_err-write_staged-clause-stopped g c is =
    let same : c.in_err-write_staged.field-0.0 ≡ fault.DiskStopped = search rules in
    ends_sooner g.D.Disk.does said.Stopped 2 2 c.args.disk.now c.write_staged.new.disk (ends_for g.D.Disk.does c.in_err-write_staged.field-0.0 fault.DiskStopped 2 c.args.disk.now c.write_staged.new.disk same c.in_err-write_staged.ensures.ends)

pub returns-in_err-write_synced-clause-stopped : goal.returns-in_err-write_synced-clause-stopped
returns-in_err-write_synced-clause-stopped g c is =
    let same : c.in_err-write_synced.field-0.0 ≡ fault.DiskStopped = search rules in
    ends_later g.D.Disk.does said.Stopped 2 2 c.args.disk.now c.write_staged.new.disk c.write_synced.new.disk c.in_ok-write_staged.ensures.did
    (ends_for g.D.Disk.does c.in_err-write_synced.field-0.0 fault.DiskStopped 2 c.write_staged.new.disk c.write_synced.new.disk same c.in_err-write_synced.ensures.ends)

pub returns-in_err-write_staged-clause-no_memory : goal.returns-in_err-write_staged-clause-no_memory
returns-in_err-write_staged-clause-no_memory g c is =
    let same : c.in_err-write_staged.field-0.0 ≡ fault.NoMemory = search rules in
    ends_sooner g.D.Disk.does said.NoMemory 2 2 c.args.disk.now c.write_staged.new.disk (ends_for g.D.Disk.does c.in_err-write_staged.field-0.0 fault.NoMemory 2 c.args.disk.now c.write_staged.new.disk same c.in_err-write_staged.ensures.ends)

pub returns-in_err-write_synced-clause-no_memory : goal.returns-in_err-write_synced-clause-no_memory
returns-in_err-write_synced-clause-no_memory g c is =
    let same : c.in_err-write_synced.field-0.0 ≡ fault.NoMemory = search rules in
    ends_later g.D.Disk.does said.NoMemory 2 2 c.args.disk.now c.write_staged.new.disk c.write_synced.new.disk c.in_ok-write_staged.ensures.did
    (ends_for g.D.Disk.does c.in_err-write_synced.field-0.0 fault.NoMemory 2 c.write_staged.new.disk c.write_synced.new.disk same c.in_err-write_synced.ensures.ends)

pub returns-in_err-write_synced-clause-turned : goal.returns-in_err-write_synced-clause-turned
returns-in_err-write_synced-clause-turned g c =
    let a = (g.D.Disk.counts c.args.disk.now).armed in
    let b = (g.D.Disk.counts c.write_staged.new.disk).armed in
    let d = (g.D.Disk.counts c.write_synced.new.disk).armed in
    let went : IsOk c.write_staged.result = search rules in
    turns_for 4 a d (IsOk c.write_synced.result) (IsOk c.from_residual-in_err-write_synced.result) (IsErrOf c.write_synced.result fault.DiskStopped) (IsErrOf c.from_residual-in_err-write_synced.result fault.DiskStopped)
    (turns_later 2 2 a b d (IsOk c.write_staged.result) (IsOk c.write_synced.result) (IsErrOf c.write_staged.result fault.DiskStopped) (IsErrOf c.write_synced.result fault.DiskStopped) c.write_staged.ensures.turned went c.write_synced.ensures.turned)
    (λ h. search rules) (λ t. search rules)

pub returns-clause-turned : goal.returns-clause-turned
returns-clause-turned g c =
    let a = (g.D.Disk.counts c.args.disk.now).armed in
    let b = (g.D.Disk.counts c.write_staged.new.disk).armed in
    let d = (g.D.Disk.counts c.write_synced.new.disk).armed in
    let went : IsOk c.write_staged.result = search rules in
    let went_on : IsOk c.write_synced.result = search rules in
    turns_for 4 a d (IsOk c.write_synced.result) _ (IsErrOf c.write_synced.result fault.DiskStopped) _
    (turns_later 2 2 a b d (IsOk c.write_staged.result) (IsOk c.write_synced.result) (IsErrOf c.write_staged.result fault.DiskStopped) (IsErrOf c.write_synced.result fault.DiskStopped) c.write_staged.ensures.turned went c.write_synced.ensures.turned)
    (λ h. went_on) (λ t. search rules)

pub returns-in_err-write_synced-clause-old : goal.returns-in_err-write_synced-clause-old
returns-in_err-write_synced-clause-old g c =
    let j = c.args.self.now in
    let old : g.D.Disk.tells → LeavesOld (g.D.Disk.view c.args.disk.now) (g.D.Disk.view c.write_synced.new.disk) j = λ told bodies on.
    old_stays j.at j.size j.end bodies c.args.entry.now on.ends (omega (arith, c.size-size.ensures.small)) (omega (arith, c.in_ok-find_room.ensures, c.size-size.ensures.size)) j.room (g.D.Disk.view c.args.disk.now) (g.D.Disk.view c.write_staged.new.disk) on.each
    (c.write_staged.ensures.ran told) (g.met.D.Disk.given told c.write_staged.new.disk) (c.in_ok-write_staged.ensures.written told) (c.in_ok-write_staged.ensures.synced told)
    (g.D.Disk.view c.write_synced.new.disk) (c.write_synced.ensures.ran told) (c.in_err-write_synced.ensures.kept told ∙ c.in_ok-write_staged.ensures.saved told) in
    search (rules, old)

pub returns-in_err-write_staged-clause-halves : goal.returns-in_err-write_staged-clause-halves
returns-in_err-write_staged-clause-halves g c is told turn armed =
    let j = c.args.self.now in
    let stopped : IsErrOf c.write_staged.result fault.DiskStopped = search rules in
    let within : turn ≤ 2 = stops_within 2 turn (g.D.Disk.counts c.args.disk.now).armed (g.D.Disk.counts c.write_staged.new.disk).armed (IsOk c.write_staged.result) (IsErrOf c.write_staged.result fault.DiskStopped) c.write_staged.ensures.turned stopped armed in
    record {
      early = λ first bodies on image left.
          kept_by_first j.at j.size j.end bodies c.args.entry.now on.ends (omega (arith, c.size-size.ensures.small)) (omega (arith, c.in_ok-find_room.ensures, c.size-size.ensures.size)) j.room (g.D.Disk.view c.args.disk.now) (g.D.Disk.view c.write_staged.new.disk) on.each
          (c.write_staged.ensures.ran told) image ((c.write_staged.ensures.ran told).crash image left);
      late = λ third. absurd (omega (arith, within, third));
    }

pub returns-in_err-write_synced-clause-halves : goal.returns-in_err-write_synced-clause-halves
returns-in_err-write_synced-clause-halves g c is told turn armed =
    let j = c.args.self.now in
    let stopped : IsErrOf c.write_synced.result fault.DiskStopped = search rules in
    let went : IsOk c.write_staged.result = search rules in
    let behind : 2 ≤ turn - 1 = stops_behind 2 turn (g.D.Disk.counts c.args.disk.now).armed (g.D.Disk.counts c.write_staged.new.disk).armed (IsOk c.write_staged.result) (IsErrOf c.write_staged.result fault.DiskStopped) c.write_staged.ensures.turned went armed in
    record {
      early = λ first. absurd (omega (arith, behind, first));
      late = λ third bodies on.
          given_both j.at j.size j.end bodies c.args.entry.now on.ends (omega (arith, c.size-size.ensures.small)) (omega (arith, c.in_ok-find_room.ensures, c.size-size.ensures.size)) j.room (g.D.Disk.view c.args.disk.now) (g.D.Disk.view c.write_staged.new.disk) on.each
          (c.write_staged.ensures.ran told) (g.met.D.Disk.given told c.write_staged.new.disk) (c.in_ok-write_staged.ensures.written told) (c.in_ok-write_staged.ensures.synced told)
          (g.D.Disk.view c.write_synced.new.disk) (c.write_synced.ensures.ran told) (c.write_synced.ensures.stopped stopped told) (g.met.D.Disk.given told c.write_synced.new.disk);
    }
