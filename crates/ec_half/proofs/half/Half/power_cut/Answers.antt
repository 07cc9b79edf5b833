use Rattle.std.proofs.Common.{◌≡◌, sym, subst}
use Rattle.ec_disk.specs.Choices.{cut}
use Rattle.ec_half.specs.Contents.{Fewer, AllSynced, content_behind, behind-synced}
use Rattle.ec_half.proofs.Halves.{fewer-behind, left-behind, synced-gives}
use Rattle.ec_half.proofs.Raises.{have-fewer}
use Rattle.ec_half.proofs.half.Half.power_cut.Goals as goal

pub returns-clause-fewer : goal.returns-clause-fewer
returns-clause-fewer g c told =
    subst (λ d. Fewer (content_behind (g.D.Disk.view c.args.self.now.disk.now)) (content_behind (g.D.Disk.view d))) (sym c.note.ensures.disk) (fewer-behind (g.D.Disk.view c.args.self.now.disk.now) (g.D.Disk.view c.power_cut-answer.new.self) (c.power_cut-answer.ensures.cut told))

pub returns-clause-leaves : goal.returns-clause-leaves
returns-clause-leaves g c told is =
    subst (λ d. (content_behind (g.D.Disk.view d)).gives ≡ cut c.args.choice (content_behind (g.D.Disk.view c.args.self.now.disk.now)).gives (content_behind (g.D.Disk.view c.args.self.now.disk.now)).synced) (sym c.note.ensures.disk) (left-behind c.args.choice (g.D.Disk.view c.args.self.now.disk.now) (g.D.Disk.view c.power_cut-answer.new.self) (c.power_cut-answer.ensures.leaves told is))

pub returns-clause-all_synced : goal.returns-clause-all_synced
returns-clause-all_synced g c told is =
    subst (λ d. AllSynced (content_behind (g.D.Disk.view d))) (sym c.note.ensures.disk) (behind-synced (g.D.Disk.view c.power_cut-answer.new.self) (c.power_cut-answer.ensures.synced told is))

pub returns-clause-saved : goal.returns-clause-saved
returns-clause-saved g c told is =
    subst (λ d. (content_behind (g.D.Disk.view d)).synced ≡ (content_behind (g.D.Disk.view d)).gives) (sym c.note.ensures.disk) (synced-gives (g.D.Disk.view c.power_cut-answer.new.self) (c.power_cut-answer.ensures.synced told is) (g.met.D.Disk.given_synced told c.power_cut-answer.new.self))

pub returns-clause-have : goal.returns-clause-have
returns-clause-have g c told have = c.note.ensures.have told (have-fewer (g.D.Disk.view c.args.self.now.disk.now) (g.D.Disk.view c.power_cut-answer.new.self) c.args.self.now.generation have (c.power_cut-answer.ensures.cut told).crash)
