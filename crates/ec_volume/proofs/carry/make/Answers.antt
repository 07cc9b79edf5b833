use Rattle.std.proofs.Common.{◌≡◌, ◌∙◌, ℕ, ap, sym}
use Rattle.ec_volume.specs.Image.{is_gone, new_object}
use Rattle.ec_volume.specs.Update.{fits, effect}
use Rattle.ec_volume.specs.Volume.{images}
use Rattle.ec_volume.specs.Carry.{instead}
use Rattle.ec_volume.proofs.Held.{added_removed, changed, image_stays, volume_same, then_ok, then_err, on_err}
use Rattle.ec_volume.proofs.carry.make.Goals as goal

pub change-done-requires-clause-live : goal.change-done-requires-clause-live
change-done-requires-clause-live c =
    ap is_gone (image_stays c.args.obj c.args.dir c.new_object.result c.args.map.now c.add.new.map c.requires.apart c.in_ok-add.ensures.ok) ∙ c.requires.live

pub change-done-requires-clause-fits : goal.change-done-requires-clause-fits
change-done-requires-clause-fits c =
    ap (fits c.args.update.now c.args.dir) (image_stays c.args.obj c.args.dir c.new_object.result c.args.map.now c.add.new.map c.requires.apart c.in_ok-add.ensures.ok) ∙ c.requires.fits

pub change-done-requires-clause-stays : goal.change-done-requires-clause-stays
change-done-requires-clause-stays c =
    ap (λ i. is_gone (effect c.args.update.now c.args.dir i)) (image_stays c.args.obj c.args.dir c.new_object.result c.args.map.now c.add.new.map c.requires.apart c.in_ok-add.ensures.ok) ∙ c.requires.stays

pub returns-then-is_err-clause-err : goal.returns-then-is_err-clause-err
returns-then-is_err-clause-err c =
    then_err c.change-done.result (c.change-done.new.map ≡ c.add.new.map) (c.remove.new.self ≡ c.args.map.now)
    (λ e. added_removed c.args.obj c.new_object.result c.args.map.now c.change-done.new.map c.remove.new.self c.requires.volume c.requires.gone (e ∙ c.in_ok-add.ensures.ok) c.remove.ensures.others)
    c.change-done.ensures.err

pub returns-then-is_err-clause-volume : goal.returns-then-is_err-clause-volume
returns-then-is_err-clause-volume c =
    volume_same c.args.map.now c.remove.new.self
    (added_removed c.args.obj c.new_object.result c.args.map.now c.change-done.new.map c.remove.new.self c.requires.volume c.requires.gone
    (on_err c.change-done.result (c.change-done.new.map ≡ c.add.new.map) (sym c.is_err.ensures.value ∙ c.if-is_err.true) c.change-done.ensures.err ∙ c.in_ok-add.ensures.ok) c.remove.ensures.others)
    c.requires.volume

pub returns-else-is_err-clause-ok : goal.returns-else-is_err-clause-ok
returns-else-is_err-clause-ok c =
    let old = images c.args.map.now in
    let u = c.args.update.now in
    let added : (o : ℕ) → images c.add.new.map o ≡ instead c.args.obj (new_object c.args.kind) old o =
    λ o. changed c.args.obj c.new_object.result c.args.map.now c.add.new.map c.in_ok-add.ensures.ok o ∙ ap (λ i. instead c.args.obj i old o) c.new_object.ensures in
    then_ok c.change-done.result ((o : ℕ) → images c.change-done.new.map o ≡ instead c.args.dir (effect u c.args.dir (images c.add.new.map c.args.dir)) (images c.add.new.map) o)
    ((o : ℕ) → images c.change-done.new.map o ≡ instead c.args.dir (effect u c.args.dir (old c.args.dir)) (instead c.args.obj (new_object c.args.kind) old) o)
    (λ e o. e o ∙ ap (λ i. instead c.args.dir (effect u c.args.dir i) (images c.add.new.map) o) (image_stays c.args.obj c.args.dir c.new_object.result c.args.map.now c.add.new.map c.requires.apart c.in_ok-add.ensures.ok)
    ∙ ap (λ j. instead c.args.dir (effect u c.args.dir (old c.args.dir)) (λ _. j) o) (added o))
    c.change-done.ensures.ok
