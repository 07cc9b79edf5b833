use Rattle.std.proofs.Common.{◌∙◌, ap}
use Rattle.ec_half.specs.Contents.{AllSynced}
use Rattle.ec_mirror.specs.Shown.{first_of, second_of}
use Rattle.ec_mirror.proofs.Lives.{shown-saved}
use Rattle.ec_mirror.proofs.Showing.{synced-of}
use Rattle.ec_mirror.proofs.parts.Parts.save.Goals as goal

pub returns-clause-synced : goal.returns-clause-synced
returns-clause-synced g c told =
    let pair = c.args.self.now.present.pair in
    let live = c.args.self.now.lives c.requires.sound in
    shown-saved g.A.Disk.view g.B.Disk.view AllSynced _ _ pair _ (ap (λ x. x.items) c.save.ensures.frozen ∙ c.args.self.now.thawed live) c.save.ensures.pair c.save.ensures.saved
    (synced-of (g.A.Disk.tells × g.B.Disk.tells) pair.kept (first_of g.A.Disk.view g.B.Disk.view pair) (second_of g.A.Disk.view g.B.Disk.view pair) told (c.args.self.now.stands live) ((c.args.self.now.whole c.requires.sound).alike told) c.requires.saved)
