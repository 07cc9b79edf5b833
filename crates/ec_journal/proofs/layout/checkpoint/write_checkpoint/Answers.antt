use Rattle.std.proofs.Common.{rules, arith, ◌≡◌, ◌+◌, ◌∙◌, List, ℕ, length, sym, subst}
use Rattle.ec_disk.specs.declared.disk.DiskAnswer.TheVariants as said
use Rattle.ec_journal.specs.OfLayout.Layout.{Lies}
use Rattle.ec_journal.specs.OfLayout.Pieces.{pieces_of}
use Rattle.ec_journal.specs.OfLayout.Frame.{prepare_leaves, prepare_keeps, checkpoint_leaves, checkpoint_done}
use Rattle.ec_journal.proofs.OfLayout.Calls.{both_called, did_then, ends_within, ends_then, turns_then, turns_within}
use Rattle.ec_journal.proofs.layout.checkpoint.write_checkpoint.Goals as goal

pub returns-then-ne-clause-any_moment : goal.returns-then-ne-clause-any_moment
returns-then-ne-clause-any_moment g c told before after follows laid =
    prepare_leaves c.args.side c.args.table.now (pieces_of c.args.pieces.now) before after follows (g.D.Disk.view c.args.disk.now) (g.D.Disk.view c.prepare-answer.new.disk) laid (c.prepare-answer.ensures.ran told)

pub returns-clause-any_moment : goal.returns-clause-any_moment
returns-clause-any_moment g c told before after follows laid =
    let done : c.prepare-answer.result ≡ said.Done = search rules in
    checkpoint_leaves c.args.side c.args.table.now (pieces_of c.args.pieces.now) before after follows (g.D.Disk.view c.args.disk.now) (g.D.Disk.view c.prepare-answer.new.disk) laid (c.prepare-answer.ensures.ran told)
    (g.met.D.Disk.given told c.prepare-answer.new.disk) (c.prepare-answer.ensures.synced told done) (c.prepare-answer.ensures.side told done) (c.prepare-answer.ensures.slots told done)
    (g.D.Disk.view c.select.new.disk) (c.select.ensures.ran told)

pub returns-clause-done : goal.returns-clause-done
returns-clause-done g c told is before after follows laid =
    let done : c.prepare-answer.result ≡ said.Done = search rules in
    checkpoint_done c.args.side c.args.table.now (pieces_of c.args.pieces.now) before after follows (g.D.Disk.view c.args.disk.now) (g.D.Disk.view c.prepare-answer.new.disk) laid (c.prepare-answer.ensures.ran told)
    (g.met.D.Disk.given told c.prepare-answer.new.disk) (c.prepare-answer.ensures.synced told done) (c.prepare-answer.ensures.side told done) (c.prepare-answer.ensures.slots told done)
    (g.D.Disk.view c.select.new.disk) (c.select.ensures.ran told) (c.select.ensures.synced told is) (g.met.D.Disk.given told c.select.new.disk) (c.select.ensures.turned told is)

pub returns-clause-calls : goal.returns-clause-calls
returns-clause-calls g c is =
    let done : c.prepare-answer.result ≡ said.Done = search rules in
    let n = length c.args.pieces.now in
    both_called (n + 3) 2 (n + 5) (g.D.Disk.counts c.args.disk.now) (g.D.Disk.counts c.prepare-answer.new.disk) (g.D.Disk.counts c.select.new.disk) (omega arith) (c.prepare-answer.ensures.calls done) (c.select.ensures.calls is)

pub returns-clause-did : goal.returns-clause-did
returns-clause-did g c is =
    let done : c.prepare-answer.result ≡ said.Done = search rules in
    let n = length c.args.pieces.now in
    did_then g.D.Disk.does (n + 3) 2 (n + 5) c.args.disk.now c.prepare-answer.new.disk c.select.new.disk (omega arith) (c.prepare-answer.ensures.did done) (c.select.ensures.did is)

pub returns-then-ne-clause-ends : goal.returns-then-ne-clause-ends
returns-then-ne-clause-ends g c other =
    let n = length c.args.pieces.now in
    ends_within g.D.Disk.does c.prepare-answer.result (n + 3) (n + 5) c.args.disk.now c.prepare-answer.new.disk (omega arith) (c.prepare-answer.ensures.ends other)

pub returns-clause-ends : goal.returns-clause-ends
returns-clause-ends g c other =
    let done : c.prepare-answer.result ≡ said.Done = search rules in
    let n = length c.args.pieces.now in
    ends_then g.D.Disk.does c.select.result (n + 3) 2 (n + 5) c.args.disk.now c.prepare-answer.new.disk c.select.new.disk (omega arith) (c.prepare-answer.ensures.did done) (c.select.ensures.ends other)

pub returns-then-ne-clause-turns : goal.returns-then-ne-clause-turns
returns-then-ne-clause-turns g c =
    let n = length c.args.pieces.now in
    turns_within (n + 3) (n + 5) (g.D.Disk.counts c.args.disk.now).armed (g.D.Disk.counts c.prepare-answer.new.disk).armed (c.prepare-answer.result ≡ said.Done) _ (c.prepare-answer.result ≡ said.Stopped) _ (omega arith)
    c.prepare-answer.ensures.turns (λ h. search rules) (λ t. t)

pub returns-clause-turns : goal.returns-clause-turns
returns-clause-turns g c =
    let done : c.prepare-answer.result ≡ said.Done = search rules in
    let n = length c.args.pieces.now in
    turns_then (n + 3) 2 (n + 5) (g.D.Disk.counts c.args.disk.now).armed (g.D.Disk.counts c.prepare-answer.new.disk).armed (g.D.Disk.counts c.select.new.disk).armed (c.prepare-answer.result ≡ said.Done) (c.select.result ≡ said.Done) (c.prepare-answer.result ≡ said.Stopped) (c.select.result ≡ said.Stopped) (omega arith)
    c.prepare-answer.ensures.turns done c.select.ensures.turns

pub returns-then-ne-clause-old : goal.returns-then-ne-clause-old
returns-then-ne-clause-old g c told other before after follows laid =
    subst (λ (image : List ℕ). Lies image before) (sym (c.prepare-answer.ensures.kept told other)) (laid (g.D.Disk.view c.args.disk.now).synced (g.met.D.Disk.given_synced told c.args.disk.now))

pub returns-clause-old : goal.returns-clause-old
returns-clause-old g c told other before after follows laid =
    let done : c.prepare-answer.result ≡ said.Done = search rules in
    let old = g.D.Disk.view c.args.disk.now in
    let mid = g.D.Disk.view c.prepare-answer.new.disk in
    subst (λ (image : List ℕ). Lies image before) (sym (c.select.ensures.kept told other ∙ c.prepare-answer.ensures.saved told done))
    (prepare_keeps c.args.side c.args.table.now (pieces_of c.args.pieces.now) before after follows old mid laid (c.prepare-answer.ensures.ran told) mid.gives (g.met.D.Disk.given told c.prepare-answer.new.disk))
