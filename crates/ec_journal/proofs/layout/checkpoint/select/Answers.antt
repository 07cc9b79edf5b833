use Rattle.std.proofs.Common.{rules, arith, ◌≡◌, ℕ, List, [], ◌∷◌, ap, ◌∙◌, refl}
use Rattle.ec_disk.specs.declared.disk.DiskAnswer.TheVariants as said
use Rattle.ec_disk.specs.Disk.{byte}
use Rattle.ec_disk.specs.Images.{byte-written}
use Rattle.ec_disk.specs.Calls.{Write, Sync}
use Rattle.ec_journal.specs.Ends.{did_one, ends_at_once, one_turn}
use Rattle.ec_journal.proofs.OfLayout.Calls.{no_call, one_call, saves_not, did_then, ends_then, turns_then, turns_within}
use Rattle.ec_journal.proofs.layout.checkpoint.select.Goals as goal

pub returns-clause-turned : goal.returns-clause-turned
returns-clause-turned g c told is =
    let done : c.write_at-answer.result ≡ said.Done = search rules in
    let mid = g.D.Disk.view c.write_at-answer.new.self in
    ap (λ (image : List ℕ). byte image 12) ((c.sync.ensures.rests told).gives ∙ c.write_at-answer.ensures.written told done) ∙ byte-written 12 c.select_byte.result (g.D.Disk.view c.args.disk.now).gives ∙ c.select_byte.ensures

pub returns-clause-calls : goal.returns-clause-calls
returns-clause-calls g c is =
    let old = g.D.Disk.counts c.args.disk.now in
    let mid = g.D.Disk.counts c.write_at-answer.new.self in
    one_call 1 2 old mid (g.D.Disk.counts c.sync.new.self) refl (one_call 0 1 old old mid refl (no_call old) c.write_at-answer.ensures.call c.write_at-answer.ensures.armed.next) c.sync.ensures.call c.sync.ensures.armed.next

pub returns-clause-did : goal.returns-clause-did
returns-clause-did g c is =
    let does = g.D.Disk.does in
    let mid = c.write_at-answer.new.self in
    let done : c.write_at-answer.result ≡ said.Done = search rules in
    did_then does 1 1 2 c.args.disk.now mid c.sync.new.self refl (did_one does (Write 12 (c.select_byte.result ∷ []) c.write_at-answer.result) c.args.disk.now mid c.write_at-answer.ensures.does done)
    (did_one does (Sync c.sync.result) mid c.sync.new.self c.sync.ensures.does is)

pub returns-then-ne-clause-ends : goal.returns-then-ne-clause-ends
returns-then-ne-clause-ends g c other = ends_at_once g.D.Disk.does c.write_at-answer.result 1 (Write 12 (c.select_byte.result ∷ []) c.write_at-answer.result) c.args.disk.now c.write_at-answer.new.self c.write_at-answer.ensures.does refl

pub returns-clause-ends : goal.returns-clause-ends
returns-clause-ends g c other =
    let does = g.D.Disk.does in
    let mid = c.write_at-answer.new.self in
    let done : c.write_at-answer.result ≡ said.Done = search rules in
    ends_then does c.sync.result 1 1 2 c.args.disk.now mid c.sync.new.self (omega arith) (did_one does (Write 12 (c.select_byte.result ∷ []) c.write_at-answer.result) c.args.disk.now mid c.write_at-answer.ensures.does done)
    (ends_at_once does c.sync.result 0 (Sync c.sync.result) mid c.sync.new.self c.sync.ensures.does refl)

pub returns-then-ne-clause-turns : goal.returns-then-ne-clause-turns
returns-then-ne-clause-turns g c =
    let a = (g.D.Disk.counts c.args.disk.now).armed in
    let b = (g.D.Disk.counts c.write_at-answer.new.self).armed in
    let H = c.write_at-answer.result ≡ said.Done in
    let T = c.write_at-answer.result ≡ said.Stopped in
    turns_within 1 2 a b H H T T (omega arith) (one_turn a b H T c.write_at-answer.ensures.armed) (λ h. search rules) (λ t. t)

pub returns-clause-turns : goal.returns-clause-turns
returns-clause-turns g c =
    let a = (g.D.Disk.counts c.args.disk.now).armed in
    let b = (g.D.Disk.counts c.write_at-answer.new.self).armed in
    let d = (g.D.Disk.counts c.sync.new.self).armed in
    let G = c.write_at-answer.result ≡ said.Done in
    let S = c.write_at-answer.result ≡ said.Stopped in
    let H = c.sync.result ≡ said.Done in
    let T = c.sync.result ≡ said.Stopped in
    let done : c.write_at-answer.result ≡ said.Done = search rules in
    turns_then 1 1 2 a b d G H S T refl (one_turn a b G S c.write_at-answer.ensures.armed) done (one_turn b d H T c.sync.ensures.armed)

pub returns-clause-kept : goal.returns-clause-kept
returns-clause-kept g c told other =
    saves_not c.sync.result (g.D.Disk.view c.write_at-answer.new.self) (g.D.Disk.view c.sync.new.self) other (c.sync.ensures.saved told) ∙ c.write_at-answer.ensures.kept told
