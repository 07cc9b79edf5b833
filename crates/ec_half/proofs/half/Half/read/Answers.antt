use Rattle.std.proofs.Common.{length, sym, subst}
use Rattle.ec_half.specs.Contents.{Rested, content_behind, behind-rests, rested-same}
use Rattle.ec_half.proofs.Halves.{read-behind}
use Rattle.ec_half.proofs.Raises.{have-fewer}
use Rattle.ec_half.proofs.half.Half.read.Goals as goal

pub returns-in_default-clause-rests : goal.returns-in_default-clause-rests
returns-in_default-clause-rests g c told = rested-same (content_behind (g.D.Disk.view c.args.self.now.disk.now))

pub returns-clause-bytes : goal.returns-clause-bytes
returns-clause-bytes g c told is = read-behind c.args.at c.in-Some.place (length c.args.into.now) _ (g.D.Disk.view c.args.self.now.disk.now) c.in-Some.ensures.place (c.read_at-answer.ensures.bytes told is)

pub returns-clause-rests : goal.returns-clause-rests
returns-clause-rests g c told =
    subst (λ d. Rested (content_behind (g.D.Disk.view c.args.self.now.disk.now)) (content_behind (g.D.Disk.view d))) (sym c.note.ensures.disk) (behind-rests (g.D.Disk.view c.args.self.now.disk.now) (g.D.Disk.view c.read_at-answer.new.self) (c.read_at-answer.ensures.rests told) (c.read_at-answer.ensures.kept told))

pub returns-clause-have : goal.returns-clause-have
returns-clause-have g c told have = c.note.ensures.have told (have-fewer (g.D.Disk.view c.args.self.now.disk.now) (g.D.Disk.view c.read_at-answer.new.self) c.args.self.now.generation have (c.read_at-answer.ensures.rests told).crash)
