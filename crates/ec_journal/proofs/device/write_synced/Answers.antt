use Rattle.std.proofs.Common.{rules, ◌≡◌, ◌∙◌, length, IsOk, IsErrOf}
use Rattle.std.proofs.lemmas.Result.{err_from_is_err_and}
use Rattle.ec_disk.specs.Calls.{Write, Sync}
use Rattle.ec_disk.specs.declared.disk.DiskAnswer.TheVariants as said
use Rattle.ec_disk.specs.Effects.{InRange}
use Rattle.ec_disk.specs.Counting.{called_both}
use Rattle.ec_disk.specs.Runs.{run_begun, and_wrote, and_rests}
use Rattle.ec_journal.specs.Ends.{answer_of, did_one, did_both, ends_at_once, ends_later, turns_later, turns_for, one_turn}
use Rattle.ec_journal.specs.declared.fault.JournalFault.TheVariants as fault
use Rattle.ec_journal.proofs.device.write_synced.Goals as goal

pub returns-in_err-done-clause-ran : goal.returns-in_err-done-clause-ran
returns-in_err-done-clause-ran g c told =
    let W = InRange c.args.at (length c.args.piece.now) in
    let old = g.D.Disk.view c.args.disk.now in
    and_wrote W W (λ i at. at) old old (g.D.Disk.view c.write_at.new.self) (run_begun W old (g.met.D.Disk.only_now told c.args.disk.now)) (c.write_at.ensures.wrote told)

pub returns-in_err-done-2-clause-ran : goal.returns-in_err-done-2-clause-ran
returns-in_err-done-2-clause-ran g c told =
    let W = InRange c.args.at (length c.args.piece.now) in
    let old = g.D.Disk.view c.args.disk.now in
    let mid = g.D.Disk.view c.write_at.new.self in
    and_rests W old mid (g.D.Disk.view c.sync.new.self) (and_wrote W W (λ i at. at) old old mid (run_begun W old (g.met.D.Disk.only_now told c.args.disk.now)) (c.write_at.ensures.wrote told)) (c.sync.ensures.rests told)

pub returns-clause-ran : goal.returns-clause-ran
returns-clause-ran g c told =
    let W = InRange c.args.at (length c.args.piece.now) in
    let old = g.D.Disk.view c.args.disk.now in
    let mid = g.D.Disk.view c.write_at.new.self in
    and_rests W old mid (g.D.Disk.view c.sync.new.self) (and_wrote W W (λ i at. at) old old mid (run_begun W old (g.met.D.Disk.only_now told c.args.disk.now)) (c.write_at.ensures.wrote told)) (c.sync.ensures.rests told)

pub returns-clause-calls : goal.returns-clause-calls
returns-clause-calls g c =
    called_both 1 1 (g.D.Disk.counts c.args.disk.now) (g.D.Disk.counts c.write_at.new.self) (g.D.Disk.counts c.sync.new.self)
    (record { numbered = c.write_at.ensures.call; armed = c.write_at.ensures.armed.next }) (record { numbered = c.sync.ensures.call; armed = c.sync.ensures.armed.next })

pub returns-clause-did : goal.returns-clause-did
returns-clause-did g c =
    let does = g.D.Disk.does in
    let mid = c.write_at.new.self in
    did_both does 1 1 c.args.disk.now mid c.sync.new.self
    (did_one does (Write c.args.at c.args.piece.now c.write_at.result) c.args.disk.now mid c.write_at.ensures.does c.in_ok-done.ensures.ok)
    (did_one does (Sync c.sync.result) mid c.sync.new.self c.sync.ensures.does c.in_ok-done-2.ensures.ok)

pub returns-in_err-done-clause-ends : goal.returns-in_err-done-clause-ends
returns-in_err-done-clause-ends g c =
    let p = err_from_is_err_and c.from_residual.result c.from_residual.ensures.1 in
    rw (p.1, p.2) (ends_at_once g.D.Disk.does (answer_of c.in_err-done.field-0.0) 1 (Write c.args.at c.args.piece.now c.write_at.result) c.args.disk.now c.write_at.new.self c.write_at.ensures.does c.in_err-done.ensures.err)

pub returns-in_err-done-2-clause-ends : goal.returns-in_err-done-2-clause-ends
returns-in_err-done-2-clause-ends g c =
    let does = g.D.Disk.does in
    let mid = c.write_at.new.self in
    let answer = answer_of c.in_err-done-2.field-0.0 in
    let p = err_from_is_err_and c.from_residual-in_err-done-2.result c.from_residual-in_err-done-2.ensures.1 in
    rw (p.1, p.2)
    (ends_later does answer 1 1 c.args.disk.now mid c.sync.new.self
    (did_one does (Write c.args.at c.args.piece.now c.write_at.result) c.args.disk.now mid c.write_at.ensures.does c.in_ok-done.ensures.ok)
    (ends_at_once does answer 0 (Sync c.sync.result) mid c.sync.new.self c.sync.ensures.does c.in_err-done-2.ensures.err))

pub returns-in_err-done-2-clause-turned : goal.returns-in_err-done-2-clause-turned
returns-in_err-done-2-clause-turned g c =
    let a = (g.D.Disk.counts c.args.disk.now).armed in
    let b = (g.D.Disk.counts c.write_at.new.self).armed in
    let d = (g.D.Disk.counts c.sync.new.self).armed in
    turns_for 2 a d (c.sync.result ≡ said.Done) (IsOk c.from_residual-in_err-done-2.result) (c.sync.result ≡ said.Stopped) (IsErrOf c.from_residual-in_err-done-2.result fault.DiskStopped)
    (turns_later 1 1 a b d (c.write_at.result ≡ said.Done) (c.sync.result ≡ said.Done) (c.write_at.result ≡ said.Stopped) (c.sync.result ≡ said.Stopped)
    (one_turn a b (c.write_at.result ≡ said.Done) (c.write_at.result ≡ said.Stopped) c.write_at.ensures.armed) c.in_ok-done.ensures.ok
    (one_turn b d (c.sync.result ≡ said.Done) (c.sync.result ≡ said.Stopped) c.sync.ensures.armed))
    (λ h. search rules) (λ t. search rules)

pub returns-in_err-done-clause-stopped : goal.returns-in_err-done-clause-stopped
returns-in_err-done-clause-stopped g c is told = let stopped : c.write_at.result ≡ said.Stopped = search rules in c.write_at.ensures.stopped told stopped

pub returns-in_err-done-2-clause-stopped : goal.returns-in_err-done-2-clause-stopped
returns-in_err-done-2-clause-stopped g c is told = (c.sync.ensures.rests told).gives ∙ c.write_at.ensures.written told c.in_ok-done.ensures.ok
