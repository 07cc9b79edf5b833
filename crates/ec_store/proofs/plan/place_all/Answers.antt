use Rattle.std.proofs.Common.{Vec, rules, arith, ◌≡◌, ◌∙◌, ℕ, ap, subst}
use Rattle.std.specs.declared.alloc.Global.{Global}
use Rattle.std.specs.List.{All}
use mathlib.Core.Bool.{Bool-set}
use Rattle.std.proofs.Math.Logic.{∥∥₁_elim}
use Rattle.std.proofs.lemmas.List.{take_all}
use Rattle.ec_base.specs.Tables.{at}
use Rattle.ec_volume.specs.declared.image.Image.{Image}
use Rattle.ec_journal.specs.OfLayout.Pieces.{pieces_of}
use Rattle.ec_store.specs.Places.{IsPlaced}
use Rattle.ec_store.specs.Placing.{free_now}
use Rattle.ec_store.specs.declared.plan.Placing.{Placing}
use Rattle.ec_store.proofs.Images.{sound_image}
use Rattle.ec_store.proofs.Placing.{places_more, pieces_more, each_more}
use Rattle.ec_store.proofs.plan.place_all.Goals as goal
use Rattle.ec_store.proofs.plan.place_all.Goals.{in-Some+in_ok-place, in_default}

pub place-requires-clause-sound : goal.place-requires-clause-sound
place-requires-clause-sound c =
    ∥∥₁_elim c.requires.formed (Bool-set _ _) (λ w. sound_image c.args.volume.now c.objects.place (c.in-Some.object.0, c.in-Some.object.1.now) c.live-place-end.ensures.volume w c.in-Some.ensures)

pub objects-preserved : goal.objects-preserved
objects-preserved c =
    elim c.match-at.branch [
      | in-Some+in_ok-place w ↦
          let found : w.copied.result ≡ at w.in-Some.object.0 c.args.kept.now = w.copied.ensures ∙ w.get.ensures in
          let e : ℕ × Image = (w.in-Some.object.0, w.in-Some.object.1.now) in
          record {
            places = places_more c.args.kept.now c.args.volume.now c.objects.place e c.objects.placing.places.items c.match-at.placing.places.items _ (free_now c.objects.placing) (free_now c.match-at.placing) w.copied.result found w.in-Some.ensures
                (ap (λ (p : Placing). p.places.items) w.placing-is ∙ w.in_ok-place.ensures.places) (ap free_now w.placing-is ∙ w.in_ok-place.ensures.left) c.objects.invariant.places;
            pieces_are = pieces_more c.args.kept.now c.args.volume.now c.objects.place e (pieces_of c.objects.placing.pieces.items) (pieces_of c.match-at.placing.pieces.items) _ (free_now c.objects.placing) (free_now c.match-at.placing) w.copied.result found w.in-Some.ensures
                (ap (λ (p : Placing). pieces_of p.pieces.items) w.placing-is ∙ w.in_ok-place.ensures.pieces) (ap free_now w.placing-is ∙ w.in_ok-place.ensures.left) c.objects.invariant.pieces_are;
            free = ap (λ (p : Placing). p.free.items) w.placing-is ∙ ap (λ (v : Vec ℕ Global). v.items) w.in_ok-place.ensures.free ∙ c.objects.invariant.free;
            used = omega (arith, ap (λ (p : Placing). p.used) w.placing-is, w.in_ok-place.ensures.used, c.objects.invariant.used);
            each = each_more c.args.kept.now c.args.volume.now c.objects.place e w.copied.result found w.in-Some.ensures w.in_ok-place.ensures.fits c.objects.invariant.each;
          }
      | in_default w ↦ absurd (search rules)
    ]

pub returns-clause-each : goal.returns-clause-each
returns-clause-each c = subst (All (IsPlaced c.args.kept.now)) (take_all c.objects.place c.args.volume.now (omega (arith, c.objects-test.false, c.live-place-end.ensures.count))) c.objects.invariant.each
