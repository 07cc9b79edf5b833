use Rattle.std.proofs.Common.{◌≡◌, sym, subst}
use Rattle.ec_half.specs.Contents.{Stays, AllSynced, content_behind, behind-stays, behind-synced}
use Rattle.ec_half.proofs.Halves.{saves-done, saves-not}
use Rattle.ec_half.proofs.Raises.{have-fewer}
use Rattle.ec_half.proofs.half.Half.sync.Goals as goal

pub returns-clause-stays : goal.returns-clause-stays
returns-clause-stays g c told =
    subst (λ d. Stays (content_behind (g.D.Disk.view c.args.self.now.disk.now)) (content_behind (g.D.Disk.view d))) (sym c.note.ensures.disk) (behind-stays (g.D.Disk.view c.args.self.now.disk.now) (g.D.Disk.view c.sync-answer.new.self) (c.sync-answer.ensures.rests told))

pub returns-clause-all_synced : goal.returns-clause-all_synced
returns-clause-all_synced g c told is =
    subst (λ d. AllSynced (content_behind (g.D.Disk.view d))) (sym c.note.ensures.disk) (behind-synced (g.D.Disk.view c.sync-answer.new.self) (c.sync-answer.ensures.synced told is))

pub returns-clause-saved : goal.returns-clause-saved
returns-clause-saved g c told is =
    subst (λ d. (content_behind (g.D.Disk.view d)).synced ≡ (content_behind (g.D.Disk.view d)).gives) (sym c.note.ensures.disk) (saves-done c.sync-answer.result (g.D.Disk.view c.args.self.now.disk.now) (g.D.Disk.view c.sync-answer.new.self) is (c.sync-answer.ensures.saved told))

pub returns-clause-unsaved : goal.returns-clause-unsaved
returns-clause-unsaved g c told not =
    subst (λ d. (content_behind (g.D.Disk.view d)).synced ≡ (content_behind (g.D.Disk.view c.args.self.now.disk.now)).synced) (sym c.note.ensures.disk) (saves-not c.sync-answer.result (g.D.Disk.view c.args.self.now.disk.now) (g.D.Disk.view c.sync-answer.new.self) not (c.sync-answer.ensures.saved told))

pub returns-clause-have : goal.returns-clause-have
returns-clause-have g c told have = c.note.ensures.have told (have-fewer (g.D.Disk.view c.args.self.now.disk.now) (g.D.Disk.view c.sync-answer.new.self) c.args.self.now.generation have (c.sync-answer.ensures.rests told).crash)
