use Rattle.std.proofs.Common.{◌∙◌, ap}
use Rattle.ec_volume.specs.Held.{is_held}
use Rattle.ec_volume.proofs.Held.{volume_on_ok}
use Rattle.ec_volume.proofs.carry.add.Goals as goal

pub returns-clause-volume : goal.returns-clause-volume
returns-clause-volume c =
    volume_on_ok c.insert.result c.args.obj c.in_ok-shared.shared c.args.map.now c.insert.new.self c.insert.ensures.ok c.insert.ensures.err
    (ap is_held c.in_ok-shared.ensures ∙ c.requires.held) c.requires.volume
