use Rattle.std.proofs.Common.{◌≡◌, ◌∙◌, ap}
use Rattle.std.specs.Prelude.{is_some}
use Rattle.std.specs.Ordering.{nat_cmp}
use Rattle.std.specs.FinMap.{put}
use Rattle.ec_volume.proofs.Held.{found, on_some, changed, volume_put}
use Rattle.ec_volume.proofs.carry.give.Goals as goal

pub returns-clause-images : goal.returns-clause-images
returns-clause-images c =
    changed c.args.id c.args.image c.args.map.now c.replace.new.self
    (on_some c.replace.result (c.replace.new.self ≡ put nat_cmp c.args.id c.args.image c.args.map.now) (ap is_some (c.replace.ensures.value ∙ found c.args.map.now c.args.id c.requires.live)) c.replace.ensures.some)

pub returns-clause-volume : goal.returns-clause-volume
returns-clause-volume c =
    volume_put c.args.id c.args.image c.args.map.now c.replace.new.self
    (on_some c.replace.result (c.replace.new.self ≡ put nat_cmp c.args.id c.args.image c.args.map.now) (ap is_some (c.replace.ensures.value ∙ found c.args.map.now c.args.id c.requires.live)) c.replace.ensures.some)
    c.requires.held c.requires.volume
