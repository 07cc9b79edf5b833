use Rattle.std.proofs.Common.{ap, sym, ◌∙◌, true, false}
use Rattle.ec_volume.specs.Update.{fits}
use Rattle.ec_volume.specs.Volume.{images}
use Rattle.ec_volume.proofs.Held.{found_live}
use Rattle.ec_volume.proofs.Alone.{gone_unfit, stays_alone, looked_at, absent_at, decides_alone, after_alone}
use Rattle.ec_volume.proofs.Changed.{is_changed}
use Rattle.ec_volume.proofs.volume.Volume.apply_itself.Goals as goal

pub returns-in_default-clause-unfit : goal.returns-in_default-clause-unfit
returns-in_default-clause-unfit c = rw (← c.self.view_is)
    (decides_alone c.args.update.now (images c.self.inside.map) c.args.id _ false c.requires.operand (absent_at c.self.inside.map c.args.id c.in_default.ensures) (gone_unfit c.args.update.now c.args.id c.requires.itself))

pub returns-then-not-fits-clause-unfit : goal.returns-then-not-fits-clause-unfit
returns-then-not-fits-clause-unfit c = rw (← c.self.view_is)
    (decides_alone c.args.update.now (images c.self.inside.map) c.args.id _ false c.requires.operand (looked_at c.self.inside.map c.args.id c.in-Some.image.now c.in-Some.ensures.1) (ap (fits c.args.update.now c.args.id) (sym c.get.ensures) ∙ sym c.if-not-fits.ensures))

pub change_at-requires-clause-fits : goal.change_at-requires-clause-fits
change_at-requires-clause-fits c = rw (looked_at c.self.inside.map c.args.id c.in-Some.image.now c.in-Some.ensures.1) (ap (fits c.args.update.now c.args.id) (sym c.get.ensures) ∙ sym c.if-not-fits.ensures)

pub change_at-requires-clause-live : goal.change_at-requires-clause-live
change_at-requires-clause-live c = found_live c.self.inside.map c.args.id c.in-Some.image.now c.self.invariant c.in-Some.ensures.1

pub change_at-requires-clause-stays : goal.change_at-requires-clause-stays
change_at-requires-clause-stays c = stays_alone c.args.update.now c.args.id _ c.requires.itself (found_live c.self.inside.map c.args.id c.in-Some.image.now c.self.invariant c.in-Some.ensures.1)

pub returns-clause-changed : goal.returns-clause-changed
returns-clause-changed c = rw (← c.self.view_is)
    (is_changed c.args.update.now c.self.inside.map c.change_at.new.map c.requires.sound c.self.invariant c.change_at.ensures.volume
    (λ o. c.in_ok-change_at.ensures.ok o ∙ after_alone c.args.update.now (images c.self.inside.map) c.args.id c.requires.operand o))

pub returns-clause-fits : goal.returns-clause-fits
returns-clause-fits c = rw (← c.self.view_is)
    (decides_alone c.args.update.now (images c.self.inside.map) c.args.id _ true c.requires.operand (looked_at c.self.inside.map c.args.id c.in-Some.image.now c.in-Some.ensures.1) (ap (fits c.args.update.now c.args.id) (sym c.get.ensures) ∙ sym c.if-not-fits.ensures))
