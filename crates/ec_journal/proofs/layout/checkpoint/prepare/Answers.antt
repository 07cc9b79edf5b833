use Rattle.std.proofs.Common.{rules, arith, ◌≡◌, ◌+◌, ◌∙◌, length, refl}
use Rattle.ec_disk.specs.declared.disk.DiskAnswer.TheVariants as said
use Rattle.ec_journal.specs.OfLayout.Traces.{no_sync_failed, first_sync}
use Rattle.ec_disk.specs.Calls.{Sync}
use Rattle.ec_journal.specs.Ends.{did_one, ends_at_once, one_turn}
use Rattle.ec_journal.proofs.OfLayout.Calls.{saves_done, saves_not, one_call, did_then, ends_within, ends_then, turns_then, turns_within}
use Rattle.ec_journal.proofs.layout.checkpoint.prepare.Goals as goal

pub returns-clause-calls : goal.returns-clause-calls
returns-clause-calls g c is =
    let done : c.write_side-written.result ≡ said.Done = search rules in
    let n = length c.args.pieces.now in
    one_call (n + 2) (n + 3) (g.D.Disk.counts c.args.disk.now) (g.D.Disk.counts c.write_side-written.new.disk) (g.D.Disk.counts c.sync.new.self) (omega arith)
    (c.write_side-written.ensures.calls done) c.sync.ensures.call c.sync.ensures.armed.next

pub returns-clause-unsynced : goal.returns-clause-unsynced
returns-clause-unsynced g c other =
    no_sync_failed g.D.Disk.does c.sync.result c.args.disk.now c.write_side-written.new.disk c.sync.new.self c.write_side-written.ensures.unsynced c.sync.ensures.does other

pub returns-clause-first : goal.returns-clause-first
returns-clause-first g c is =
    first_sync g.D.Disk.does c.sync.result c.args.disk.now c.write_side-written.new.disk c.sync.new.self c.write_side-written.ensures.unsynced c.sync.ensures.does is

pub returns-clause-did : goal.returns-clause-did
returns-clause-did g c is =
    let done : c.write_side-written.result ≡ said.Done = search rules in
    let n = length c.args.pieces.now in
    did_then g.D.Disk.does (n + 2) 1 (n + 3) c.args.disk.now c.write_side-written.new.disk c.sync.new.self (omega arith) (c.write_side-written.ensures.did done)
    (did_one g.D.Disk.does (Sync c.sync.result) c.write_side-written.new.disk c.sync.new.self c.sync.ensures.does is)

pub returns-then-ne-clause-ends : goal.returns-then-ne-clause-ends
returns-then-ne-clause-ends g c other =
    let n = length c.args.pieces.now in
    ends_within g.D.Disk.does c.write_side-written.result (n + 2) (n + 3) c.args.disk.now c.write_side-written.new.disk (omega arith) (c.write_side-written.ensures.ends other)

pub returns-clause-ends : goal.returns-clause-ends
returns-clause-ends g c other =
    let done : c.write_side-written.result ≡ said.Done = search rules in
    let n = length c.args.pieces.now in
    ends_then g.D.Disk.does c.sync.result (n + 2) 1 (n + 3) c.args.disk.now c.write_side-written.new.disk c.sync.new.self (omega arith) (c.write_side-written.ensures.did done)
    (ends_at_once g.D.Disk.does c.sync.result 0 (Sync c.sync.result) c.write_side-written.new.disk c.sync.new.self c.sync.ensures.does refl)

pub returns-then-ne-clause-turns : goal.returns-then-ne-clause-turns
returns-then-ne-clause-turns g c =
    let n = length c.args.pieces.now in
    turns_within (n + 2) (n + 3) (g.D.Disk.counts c.args.disk.now).armed (g.D.Disk.counts c.write_side-written.new.disk).armed (c.write_side-written.result ≡ said.Done) _ (c.write_side-written.result ≡ said.Stopped) _ (omega arith)
    c.write_side-written.ensures.turns (λ h. search rules) (λ t. t)

pub returns-clause-turns : goal.returns-clause-turns
returns-clause-turns g c =
    let done : c.write_side-written.result ≡ said.Done = search rules in
    let n = length c.args.pieces.now in
    let b = (g.D.Disk.counts c.write_side-written.new.disk).armed in
    let d = (g.D.Disk.counts c.sync.new.self).armed in
    turns_then (n + 2) 1 (n + 3) (g.D.Disk.counts c.args.disk.now).armed b d (c.write_side-written.result ≡ said.Done) (c.sync.result ≡ said.Done) (c.write_side-written.result ≡ said.Stopped) (c.sync.result ≡ said.Stopped) (omega arith)
    c.write_side-written.ensures.turns done (one_turn b d (c.sync.result ≡ said.Done) (c.sync.result ≡ said.Stopped) c.sync.ensures.armed)

pub returns-clause-saved : goal.returns-clause-saved
returns-clause-saved g c told is =
    saves_done c.sync.result (g.D.Disk.view c.write_side-written.new.disk) (g.D.Disk.view c.sync.new.self) is (c.sync.ensures.saved told)

pub returns-clause-kept : goal.returns-clause-kept
returns-clause-kept g c told other =
    saves_not c.sync.result (g.D.Disk.view c.write_side-written.new.disk) (g.D.Disk.view c.sync.new.self) other (c.sync.ensures.saved told) ∙ c.write_side-written.ensures.kept told
