use Rattle.std.proofs.Common.{rules, arith, ◌≡◌, ◌+◌, ℕ, [], ◌∷◌, length, ap, ◌∙◌, subst, refl}
use Rattle.ec_disk.specs.declared.disk.DiskAnswer.TheVariants as said
use Rattle.ec_disk.specs.Effects.{InRange, Wrote, written}
use Rattle.ec_journal.specs.OfLayout.Pieces.{pieces_of}
use Rattle.ec_disk.specs.Calls.{Write}
use Rattle.ec_journal.specs.OfLayout.Traces.{no_sync_more}
use Rattle.ec_journal.specs.Ends.{did_one, ends_at_once, one_turn}
use Rattle.ec_journal.proofs.OfLayout.Calls.{one_call, did_then, ends_within, ends_then, turns_then, turns_within}
use Rattle.ec_journal.proofs.OfLayout.Sides.{side_stands, slots_stand, front_stays, side_ran}
use Rattle.ec_journal.proofs.layout.checkpoint.write_side.Goals as goal

pub returns-clause-side : goal.returns-clause-side
returns-clause-side g c told is =
    let done : c.write_at-answer.result ≡ said.Done = search rules in
    let old = (g.D.Disk.view c.write_slots-answer.new.disk).gives in
    let mid = (g.D.Disk.view c.write_at-answer.new.self).gives in
    side_stands c.args.side c.args.table.now c.requires.small old mid (g.D.Disk.view c.write_at.new.self).gives
    (c.write_at-answer.ensures.written told done ∙ ap (λ (k : ℕ). written k c.args.table.now old) c.table_at.ensures)
    (c.write_at.ensures.written told is ∙ ap (λ (k : ℕ). written k (0 ∷ []) mid) c.journal_at.ensures)

pub returns-clause-slots : goal.returns-clause-slots
returns-clause-slots g c told is =
    let done : c.write_at-answer.result ≡ said.Done = search rules in
    let first : c.write_slots-answer.result ≡ said.Done = search rules in
    let old = (g.D.Disk.view c.write_slots-answer.new.disk).gives in
    let mid = (g.D.Disk.view c.write_at-answer.new.self).gives in
    slots_stand c.args.side c.args.table.now c.requires.small old mid (g.D.Disk.view c.write_at.new.self).gives
    (c.write_at-answer.ensures.written told done ∙ ap (λ (k : ℕ). written k c.args.table.now old) c.table_at.ensures)
    (c.write_at.ensures.written told is ∙ ap (λ (k : ℕ). written k (0 ∷ []) mid) c.journal_at.ensures)
    _ (c.write_slots-answer.ensures.written told first)

pub returns-clause-front : goal.returns-clause-front
returns-clause-front g c told is i lt =
    let done : c.write_at-answer.result ≡ said.Done = search rules in
    let first : c.write_slots-answer.result ≡ said.Done = search rules in
    let old = (g.D.Disk.view c.write_slots-answer.new.disk).gives in
    let mid = (g.D.Disk.view c.write_at-answer.new.self).gives in
    front_stays c.args.side c.args.table.now c.requires.small old mid (g.D.Disk.view c.write_at.new.self).gives
    (c.write_at-answer.ensures.written told done ∙ ap (λ (k : ℕ). written k c.args.table.now old) c.table_at.ensures)
    (c.write_at.ensures.written told is ∙ ap (λ (k : ℕ). written k (0 ∷ []) mid) c.journal_at.ensures)
    i lt ∙ c.write_slots-answer.ensures.below told first i (omega (arith, lt))

pub returns-clause-calls : goal.returns-clause-calls
returns-clause-calls g c is =
    let done : c.write_at-answer.result ≡ said.Done = search rules in
    let first : c.write_slots-answer.result ≡ said.Done = search rules in
    let n = length c.args.pieces.now in
    let start = g.D.Disk.counts c.args.disk.now in
    let slots = g.D.Disk.counts c.write_slots-answer.new.disk in
    let table = g.D.Disk.counts c.write_at-answer.new.self in
    one_call (n + 1) (n + 2) start table (g.D.Disk.counts c.write_at.new.self) (omega arith)
    (one_call n (n + 1) start slots table refl (c.write_slots-answer.ensures.calls first) c.write_at-answer.ensures.call c.write_at-answer.ensures.armed.next)
    c.write_at.ensures.call c.write_at.ensures.armed.next

pub returns-clause-ran : goal.returns-clause-ran
returns-clause-ran g c told =
    let slots = g.D.Disk.view c.write_slots-answer.new.disk in
    let mid = g.D.Disk.view c.write_at-answer.new.self in
    let new = g.D.Disk.view c.write_at.new.self in
    side_ran c.args.side c.args.table.now (pieces_of c.args.pieces.now) (g.D.Disk.view c.args.disk.now) slots mid new c.requires.small (c.write_slots-answer.ensures.ran told)
    (subst (λ (k : ℕ). Wrote (InRange k (length c.args.table.now)) slots mid) c.table_at.ensures (c.write_at-answer.ensures.wrote told))
    (subst (λ (k : ℕ). Wrote (InRange k 1) mid new) c.journal_at.ensures (c.write_at.ensures.wrote told))

pub returns-then-ne-2-clause-unsynced : goal.returns-then-ne-2-clause-unsynced
returns-then-ne-2-clause-unsynced g c =
    no_sync_more g.D.Disk.does (Write c.table_at.result c.args.table.now c.write_at-answer.result) c.args.disk.now c.write_slots-answer.new.disk c.write_at-answer.new.self c.write_slots-answer.ensures.unsynced c.write_at-answer.ensures.does tt

pub returns-clause-unsynced : goal.returns-clause-unsynced
returns-clause-unsynced g c =
    let table = no_sync_more g.D.Disk.does (Write c.table_at.result c.args.table.now c.write_at-answer.result) c.args.disk.now c.write_slots-answer.new.disk c.write_at-answer.new.self c.write_slots-answer.ensures.unsynced c.write_at-answer.ensures.does tt in
    no_sync_more g.D.Disk.does (Write c.journal_at.result (0 ∷ []) c.write_at.result) c.args.disk.now c.write_at-answer.new.self c.write_at.new.self table c.write_at.ensures.does tt

pub returns-clause-did : goal.returns-clause-did
returns-clause-did g c is =
    let does = g.D.Disk.does in
    let n = length c.args.pieces.now in
    let slots = c.write_slots-answer.new.disk in
    let mid = c.write_at-answer.new.self in
    let first : c.write_slots-answer.result ≡ said.Done = search rules in
    let done : c.write_at-answer.result ≡ said.Done = search rules in
    did_then does (n + 1) 1 (n + 2) c.args.disk.now mid c.write_at.new.self (omega arith)
    (did_then does n 1 (n + 1) c.args.disk.now slots mid refl (c.write_slots-answer.ensures.did first) (did_one does (Write c.table_at.result c.args.table.now c.write_at-answer.result) slots mid c.write_at-answer.ensures.does done))
    (did_one does (Write c.journal_at.result (0 ∷ []) c.write_at.result) mid c.write_at.new.self c.write_at.ensures.does is)

pub returns-then-ne-clause-ends : goal.returns-then-ne-clause-ends
returns-then-ne-clause-ends g c other =
    let n = length c.args.pieces.now in
    ends_within g.D.Disk.does c.write_slots-answer.result n (n + 2) c.args.disk.now c.write_slots-answer.new.disk (omega arith) (c.write_slots-answer.ensures.ends other)

pub returns-then-ne-2-clause-ends : goal.returns-then-ne-2-clause-ends
returns-then-ne-2-clause-ends g c other =
    let does = g.D.Disk.does in
    let n = length c.args.pieces.now in
    let slots = c.write_slots-answer.new.disk in
    let mid = c.write_at-answer.new.self in
    let first : c.write_slots-answer.result ≡ said.Done = search rules in
    ends_then does c.write_at-answer.result n 1 (n + 2) c.args.disk.now slots mid (omega arith) (c.write_slots-answer.ensures.did first)
    (ends_at_once does c.write_at-answer.result 0 (Write c.table_at.result c.args.table.now c.write_at-answer.result) slots mid c.write_at-answer.ensures.does refl)

pub returns-clause-ends : goal.returns-clause-ends
returns-clause-ends g c other =
    let does = g.D.Disk.does in
    let n = length c.args.pieces.now in
    let slots = c.write_slots-answer.new.disk in
    let mid = c.write_at-answer.new.self in
    let first : c.write_slots-answer.result ≡ said.Done = search rules in
    let done : c.write_at-answer.result ≡ said.Done = search rules in
    ends_then does c.write_at.result (n + 1) 1 (n + 2) c.args.disk.now mid c.write_at.new.self (omega arith)
    (did_then does n 1 (n + 1) c.args.disk.now slots mid refl (c.write_slots-answer.ensures.did first) (did_one does (Write c.table_at.result c.args.table.now c.write_at-answer.result) slots mid c.write_at-answer.ensures.does done))
    (ends_at_once does c.write_at.result 0 (Write c.journal_at.result (0 ∷ []) c.write_at.result) mid c.write_at.new.self c.write_at.ensures.does refl)

pub returns-then-ne-clause-turns : goal.returns-then-ne-clause-turns
returns-then-ne-clause-turns g c =
    let n = length c.args.pieces.now in
    turns_within n (n + 2) (g.D.Disk.counts c.args.disk.now).armed (g.D.Disk.counts c.write_slots-answer.new.disk).armed (c.write_slots-answer.result ≡ said.Done) _ (c.write_slots-answer.result ≡ said.Stopped) _ (omega arith)
    c.write_slots-answer.ensures.turns (λ h. search rules) (λ t. t)

pub returns-then-ne-2-clause-turns : goal.returns-then-ne-2-clause-turns
returns-then-ne-2-clause-turns g c =
    let a = (g.D.Disk.counts c.args.disk.now).armed in
    let b = (g.D.Disk.counts c.write_slots-answer.new.disk).armed in
    let d = (g.D.Disk.counts c.write_at-answer.new.self).armed in
    let n = length c.args.pieces.now in
    let G = c.write_slots-answer.result ≡ said.Done in
    let S = c.write_slots-answer.result ≡ said.Stopped in
    let H = c.write_at-answer.result ≡ said.Done in
    let T = c.write_at-answer.result ≡ said.Stopped in
    let first : c.write_slots-answer.result ≡ said.Done = search rules in
    turns_within (n + 1) (n + 2) a d H H T T (omega arith)
    (turns_then n 1 (n + 1) a b d G H S T refl c.write_slots-answer.ensures.turns first (one_turn b d H T c.write_at-answer.ensures.armed))
    (λ h. search rules) (λ t. t)

pub returns-clause-turns : goal.returns-clause-turns
returns-clause-turns g c =
    let a = (g.D.Disk.counts c.args.disk.now).armed in
    let b = (g.D.Disk.counts c.write_slots-answer.new.disk).armed in
    let d = (g.D.Disk.counts c.write_at-answer.new.self).armed in
    let n = length c.args.pieces.now in
    let G = c.write_slots-answer.result ≡ said.Done in
    let S = c.write_slots-answer.result ≡ said.Stopped in
    let H = c.write_at-answer.result ≡ said.Done in
    let T = c.write_at-answer.result ≡ said.Stopped in
    let e = (g.D.Disk.counts c.write_at.new.self).armed in
    let I = c.write_at.result ≡ said.Done in
    let U = c.write_at.result ≡ said.Stopped in
    let first : c.write_slots-answer.result ≡ said.Done = search rules in
    let done : c.write_at-answer.result ≡ said.Done = search rules in
    turns_then (n + 1) 1 (n + 2) a d e H I T U (omega arith)
    (turns_then n 1 (n + 1) a b d G H S T refl c.write_slots-answer.ensures.turns first (one_turn b d H T c.write_at-answer.ensures.armed))
    done (one_turn d e I U c.write_at.ensures.armed)
