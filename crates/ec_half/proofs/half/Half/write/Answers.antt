use Rattle.std.proofs.Common.{rules, ◌≡◌, ◌+◌, length, sym, subst}
use Rattle.ec_disk.specs.declared.disk.DiskAnswer.TheVariants as said
use Rattle.ec_disk.specs.Effects.{InRange}
use Rattle.ec_half.specs.Contents.{Loosened, content_behind, loosened-same}
use Rattle.ec_half.proofs.Halves.{half-grown, some_is, written-behind, header-stays, loosened-behind}
use Rattle.ec_half.proofs.Raises.{have-wrote}
use Rattle.ec_half.proofs.half.Half.write.Goals as goal

pub invariant_of-self-2-clause-whole : goal.invariant_of-self-2-clause-whole
invariant_of-self-2-clause-whole g c n is told =
    let done : c.write_at-answer.result ≡ said.Done = search rules in
    let grown = c.grown-self.ensures.known n is in
    half-grown c.args.at grown.0 n c.in-Some.end c.in-Some-checked_add.place c.args.piece.now (g.D.Disk.view c.args.self.now.disk.now) (g.D.Disk.view c.write_at-answer.new.self)
    (some_is c.checked_add-2.result _ (c.args.at + 4096) c.in-Some-checked_add.place c.checked_add-2.ensures c.in-Some-checked_add.is)
    (some_is c.checked_add.result _ (c.args.at + length c.args.piece.now) c.in-Some.end c.checked_add.ensures c.in-Some.is)
    grown.2 (c.args.self.now.whole grown.0 grown.1 told) (g.met.D.Disk.given told c.args.self.now.disk.now) (c.write_at-answer.ensures.wrote told) (c.write_at-answer.ensures.written told done)

pub returns-in_default-clause-loosened : goal.returns-in_default-clause-loosened
returns-in_default-clause-loosened g c told = loosened-same (InRange c.args.at (length c.args.piece.now)) (content_behind (g.D.Disk.view c.args.self.now.disk.now))

pub returns-in_default-checked_add-clause-loosened : goal.returns-in_default-checked_add-clause-loosened
returns-in_default-checked_add-clause-loosened g c told = loosened-same (InRange c.args.at (length c.args.piece.now)) (content_behind (g.D.Disk.view c.args.self.now.disk.now))

pub returns-then-ne-clause-loosened : goal.returns-then-ne-clause-loosened
returns-then-ne-clause-loosened g c told =
    subst (λ d. Loosened (InRange c.args.at (length c.args.piece.now)) (content_behind (g.D.Disk.view c.args.self.now.disk.now)) (content_behind (g.D.Disk.view d))) (sym c.note.ensures.disk)
    (loosened-behind c.args.at c.in-Some-checked_add.place (length c.args.piece.now) (g.D.Disk.view c.args.self.now.disk.now) (g.D.Disk.view c.write_at-answer.new.self)
    (some_is c.checked_add-2.result _ (c.args.at + 4096) c.in-Some-checked_add.place c.checked_add-2.ensures c.in-Some-checked_add.is) (c.write_at-answer.ensures.wrote told) (c.write_at-answer.ensures.kept told))

pub returns-clause-written : goal.returns-clause-written
returns-clause-written g c told is long =
    let done : c.write_at-answer.result ≡ said.Done = search rules in
    written-behind c.args.at c.in-Some-checked_add.place c.args.piece.now (g.D.Disk.view c.args.self.now.disk.now) (g.D.Disk.view c.write_at-answer.new.self)
    (some_is c.checked_add-2.result _ (c.args.at + 4096) c.in-Some-checked_add.place c.checked_add-2.ensures c.in-Some-checked_add.is) long (c.write_at-answer.ensures.written told done)

pub returns-clause-header : goal.returns-clause-header
returns-clause-header g c told is long =
    let done : c.write_at-answer.result ≡ said.Done = search rules in
    header-stays c.in-Some-checked_add.place c.args.piece.now (g.D.Disk.view c.args.self.now.disk.now) (g.D.Disk.view c.write_at-answer.new.self) long (c.write_at-answer.ensures.written told done)

pub returns-clause-loosened : goal.returns-clause-loosened
returns-clause-loosened g c told =
    loosened-behind c.args.at c.in-Some-checked_add.place (length c.args.piece.now) (g.D.Disk.view c.args.self.now.disk.now) (g.D.Disk.view c.write_at-answer.new.self)
    (some_is c.checked_add-2.result _ (c.args.at + 4096) c.in-Some-checked_add.place c.checked_add-2.ensures c.in-Some-checked_add.is) (c.write_at-answer.ensures.wrote told) (c.write_at-answer.ensures.kept told)

pub returns-then-ne-clause-have : goal.returns-then-ne-clause-have
returns-then-ne-clause-have g c told have =
    c.note.ensures.have told
    (have-wrote c.args.at c.in-Some-checked_add.place (length c.args.piece.now) (g.D.Disk.view c.args.self.now.disk.now) (g.D.Disk.view c.write_at-answer.new.self) c.args.self.now.generation
    (some_is c.checked_add-2.result _ (c.args.at + 4096) c.in-Some-checked_add.place c.checked_add-2.ensures c.in-Some-checked_add.is) (c.write_at-answer.ensures.wrote told) have)

pub returns-clause-have : goal.returns-clause-have
returns-clause-have g c told have =
    have-wrote c.args.at c.in-Some-checked_add.place (length c.args.piece.now) (g.D.Disk.view c.args.self.now.disk.now) (g.D.Disk.view c.write_at-answer.new.self) c.args.self.now.generation
    (some_is c.checked_add-2.result _ (c.args.at + 4096) c.in-Some-checked_add.place c.checked_add-2.ensures c.in-Some-checked_add.is) (c.write_at-answer.ensures.wrote told) have
