use Rattle.std.proofs.Common.{◌≡◌, ℕ}
use Rattle.std.specs.Prelude.{MatchOption}
use Rattle.std.specs.Ordering.{nat_cmp}
use Rattle.std.specs.FinMap.{find, put}
use Rattle.ec_volume.specs.Update.{effect}
use Rattle.ec_volume.specs.Volume.{images}
use Rattle.ec_volume.specs.Carry.{instead}
use Rattle.ec_volume.proofs.Held.{made, changed, volume_on_ok, then_ok, image_held}
use Rattle.ec_volume.proofs.Within.{effect_held}
use Rattle.ec_volume.proofs.carry.change_at.Goals as goal

pub returns-clause-ok : goal.returns-clause-ok
returns-clause-ok c =
    let id = c.args.id in
    let old = c.args.map.now in
    let new = c.change_at.new.self in
    let f = effect c.args.update.now id in
    then_ok c.change_at.result (MatchOption (find nat_cmp id old) (new ≡ old) (λ i. new ≡ put nat_cmp id (f i) old)) ((o : ℕ) → images new o ≡ instead id (f (images old id)) (images old) o)
    (λ is. changed id (f (images old id)) old new (made id f old new c.requires.live is))
    c.change_at.ensures.ok

pub returns-clause-volume : goal.returns-clause-volume
returns-clause-volume c =
    let id = c.args.id in
    let old = c.args.map.now in
    let new = c.change_at.new.self in
    let f = effect c.args.update.now id in
    volume_on_ok c.change_at.result id (f (images old id)) old new
    (then_ok c.change_at.result (MatchOption (find nat_cmp id old) (new ≡ old) (λ i. new ≡ put nat_cmp id (f i) old)) (new ≡ put nat_cmp id (f (images old id)) old)
    (made id f old new c.requires.live) c.change_at.ensures.ok)
    c.change_at.ensures.err
    (effect_held c.args.update.now id (images old id) c.requires.sound c.requires.fits (image_held old id c.requires.volume c.requires.live) c.requires.stays) c.requires.volume
