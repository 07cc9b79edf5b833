use Rattle.std.proofs.Common.{◌≡◌, Bool, sym, ap, ◌∙◌}
use Rattle.ec_world.specs.Worlds.{view_of}
use Rattle.ec_world.specs.declared.world.World.{World}
use Rattle.ec_world.proofs.CutOff.{keeping, stop_shows, stopped_in_step}
use Rattle.ec_world.proofs.world.World.stop_in.Goals.{then-branch, else-branch}
use Rattle.ec_world.proofs.world.World.stop_in.Goals as goal

pub returns-clause-ok : goal.returns-clause-ok
returns-clause-ok g c = λ r d e is takes either.
    let there = c.in_ok-cut_off.field-0 in
    let shows = c.args.mark.noted in
    let cut = c.cut_off.new.self in
    let mid = c.if-branch.self in
    let mid_is : mid ≡ keeping there shows cut = elim c.if-branch.branch [
      | then-branch w ↦ w.self-is ∙ ap (λ (b : Bool). keeping b shows cut) (sym w.if-branch.true)
      | else-branch w ↦ w.self-is ∙ ap (λ (b : Bool). keeping b shows cut) (sym w.if-branch.false)
    ] in (
      there,
      λ told. stop_shows there r d shows c.args.self.now cut mid c.show_line.new.self is.noted_is (c.in_ok-cut_off.ensures.ok told r d e is.sign_is is.records_are takes (either told)) (ap view_of mid_is)
          (ap (λ (w : World). w.piece.items) mid_is ∙ ap (λ p. p.items) c.in_ok-cut_off.ensures.piece ∙ c.requires) c.in_ok-show_line.ensures.ok,
      λ told. c.in_ok-cut_off.ensures.chosen told r d e is.sign_is takes,
    )

pub returns-clause-in_step : goal.returns-clause-in_step
returns-clause-in_step g c =
    let there = c.in_ok-cut_off.field-0 in
    let shows = c.args.mark.noted in
    let cut = c.cut_off.new.self in
    let mid = c.if-branch.self in
    let mid_is : mid ≡ keeping there shows cut = elim c.if-branch.branch [
      | then-branch w ↦ w.self-is ∙ ap (λ (b : Bool). keeping b shows cut) (sym w.if-branch.true)
      | else-branch w ↦ w.self-is ∙ ap (λ (b : Bool). keeping b shows cut) (sym w.if-branch.false)
    ] in
    stopped_in_step g.D.Disk.tells (g.D.Disk.view c.cut_off.new.disk) there shows cut mid c.show_line.new.self c.in_ok-cut_off.ensures.server c.in_ok-cut_off.ensures.held mid_is c.in_ok-show_line.ensures.same
