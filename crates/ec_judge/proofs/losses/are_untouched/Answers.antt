use Rattle.std.proofs.Common.{◌≡◌, ◌&&◌, ◌+◌, not, Bool, true, false, refl, ap, ◌∙◌, drop}
use Rattle.std.specs.List.{list_all}
use Rattle.ec_judge.specs.declared.carried.Kept.{Kept}
use Rattle.ec_judge.specs.Carried.{is_among, is_touched, touches_in}
use Rattle.ec_judge.proofs.Loops.{back-more}
use Rattle.ec_judge.proofs.losses.are_untouched.Goals as goal

none_of : (a b : Bool) → b ≡ false → (a && b) ≡ false
none_of true b e = e
none_of false b e = refl

pub loop-kept-preserved-then-not-is_among : goal.loop-kept-preserved-then-not-is_among
loop-kept-preserved-then-not-is_among c =
    let named = c.args.named.now in
    let kept = c.kept-item.result in
    let own : Kept → Bool = is_among named.clerk named.boot named.ops.now in
    let touched : Kept → Bool = is_touched (touches_in c.args.touches.now) in
    let other : own kept ≡ false = cc in
    c.loop-kept.invariant
    ∙ ap (list_all (λ k. not (touched k && own k))) (back-more c.args.kept.now c.loop-kept.kept-index kept c.loop-kept-test.true c.kept-item.is)
    ∙ ap (λ b. not b && list_all (λ k. not (touched k && own k)) (drop (c.loop-kept.kept-index + 1) c.args.kept.now)) (none_of (touched kept) (own kept) other)
