use Rattle.std.proofs.Common.{◌∙◌, ap}
use Rattle.ec_volume.specs.Volume.{images}
use Rattle.ec_volume.specs.Carry.{instead}
use Rattle.ec_volume.proofs.Shift.{shift_live, shift_stays, carried}
use Rattle.ec_volume.proofs.carry.carry_out.Goals as goal

pub change-requires-in-Shift-clause-live : goal.change-requires-in-Shift-clause-live
change-requires-in-Shift-clause-live c =
    let s = c.in-Shift in
    shift_live s.dir s.from s.into s.to s.obj s.kind s.victim s.up (images c.args.map.now) (rw s.is at c.requires.fits)

pub change-requires-in-Shift-clause-stays : goal.change-requires-in-Shift-clause-stays
change-requires-in-Shift-clause-stays c =
    let s = c.in-Shift in
    rw s.is (shift_stays s.dir s.from s.into s.to s.obj s.kind s.victim s.up (images c.args.map.now) (rw s.is at c.requires.fits))

pub returns-in_ok-change-in-Shift-clause-ok : goal.returns-in_ok-change-in-Shift-clause-ok
returns-in_ok-change-in-Shift-clause-ok c = λ o.
    let s = c.in-Shift in
    let later = images c.change-in-Shift.new.map in
    rw s.is (carried s.dir s.from s.into s.to s.obj s.kind s.victim s.up (images c.args.map.now) (rw s.is at c.requires.sound)
    later (images c.give.new.map) (images c.clear-in-Shift.new.map)
    (λ p. rw s.is at (c.in_ok-change-in-Shift.ensures.ok p))
    (λ p. c.give.ensures.images p ∙ ap (λ i. instead s.dir i later p) (rw s.is at c.in_ok-left-in-Shift.ensures.image))
    c.clear-in-Shift.ensures.images o)
