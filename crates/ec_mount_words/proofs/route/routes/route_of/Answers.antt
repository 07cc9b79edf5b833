use Rattle.std.proofs.Common.{◌≡◌, ◌∙◌, ℕ, inl, inr, length, arith, subst, sym}
use Rattle.ec_mount_words.specs.declared.route.routes.Route.{Route}
use Rattle.ec_mount_words.specs.OfRoute.Calls.{paths_of}
use Rattle.ec_mount_words.specs.OfRoute.Routes.{IsRoute}
use Rattle.ec_mount_words.proofs.OfRoute.SoFar.{AreSeen, IsFirst, Grows, past, no_volume, one_more, all_seen}
use Rattle.ec_mount_words.proofs.route.routes.route_of.Goals as goal
use Rattle.ec_mount_words.proofs.route.routes.route_of.Goals.{then-i-eq0, else-i-eq0, then-crosses, else-crosses}

pub returns-in_default : goal.returns-in_default
returns-in_default c =
    let table = c.args.table.now in
    let paths = paths_of c.args.call.now in
    let whole : c.paths.i ≡ length paths = omega (arith, c.paths.invariant.within, past paths c.paths.i c.in_default.ensures) in
    subst (λ (r : Route). IsRoute table paths r) (sym c.route_to.ensures)
    (all_seen table paths c.paths.to c.paths.crosses c.requires (subst (λ (n : ℕ). AreSeen table paths n c.paths.to c.paths.crosses) whole c.paths.invariant))

pub returns-in_default-volume_of : goal.returns-in_default-volume_of
returns-in_default-volume_of c =
    no_volume c.args.table.now (paths_of c.args.call.now) c.paths.i c.paths.to c.paths.crosses c.in-Some.path.now c.paths.invariant c.in-Some.ensures c.in_default-volume_of.ensures

pub paths-preserved : goal.paths-preserved
paths-preserved c =
    let first : IsFirst c.paths.i c.in-Some-volume_of.place c.paths.to c.if-i-eq0.to = elim c.if-i-eq0.branch [
      | then-i-eq0 w ↦ inl (w.if-i-eq0.true, w.to-is)
      | else-i-eq0 w ↦ inr (omega (arith, w.if-i-eq0.false), w.to-is)
    ] in
    let grows : Grows c.in-Some-volume_of.place c.if-i-eq0.to c.paths.crosses c.if-crosses.crosses = elim c.if-crosses.branch [
      | then-crosses w ↦ inl (w.if-crosses.true, w.crosses-is ∙ w.if-crosses.true)
      | else-crosses w ↦ inr (w.if-crosses.false, w.crosses-is)
    ] in
    one_more c.args.table.now (paths_of c.args.call.now) c.paths.i c.paths.to c.in-Some-volume_of.place c.if-i-eq0.to c.paths.crosses c.if-crosses.crosses c.in-Some.path.now c.paths.invariant c.in-Some.ensures c.in-Some-volume_of.ensures first grows

pub returns : goal.returns
returns c =
    let table = c.args.table.now in
    let paths = paths_of c.args.call.now in
    let whole : c.paths.i ≡ length paths = omega (arith, c.paths.invariant.within, c.requires.1, c.paths-test.false) in
    subst (λ (r : Route). IsRoute table paths r) (sym c.route_to-2.ensures)
    (all_seen table paths c.paths.to c.paths.crosses c.requires (subst (λ (n : ℕ). AreSeen table paths n c.paths.to c.paths.crosses) whole c.paths.invariant))
