use Rattle.std.proofs.Common.{sym, subst}
use Rattle.std.specs.Prelude.{IfOk, MatchBool}
use Rattle.ec_pending.specs.OfOverlay.Shown.{shown}
use Rattle.ec_pending.proofs.OfOverlay.Shown.{Changes, Unfit}
use Rattle.ec_pending.proofs.overlay.overlay.Overlay.carry_out.Goals as goal

pub returns-in-Some-clause-images : goal.returns-in-Some-clause-images
returns-in-Some-clause-images c =
    let u = c.args.update.now in
    let v = shown c.args.self.now in
    subst (λ os. IfOk c.carry_out_at.result (λ done. MatchBool done (Changes u v os (shown c.carry_out_at.new.self)) (Unfit u v os))) (sym c.in-Some.ensures) c.carry_out_at.ensures.images
