use Rattle.std.proofs.Common.{◌≡◌, Some, sym, subst, ◌∙◌, arith}
use Rattle.std.specs.Prelude.{slice_get}
use Rattle.ec_watch.proofs.Watched.{few-at, named-at}
use Rattle.ec_lines.specs.Named.{IsNamed}
use Rattle.ec_lines.proofs.Named.{may}
use Rattle.ec_lines.proofs.lines.broken.Goals as goal

pub is_named-requires : goal.is_named-requires
is_named-requires c =
    let got = subst (λ ws. slice_get ws c.in-Some.clerk ≡ Some c.watch_of.result.now) c.deref.ensures.value c.watch_of.ensures.value in
    omega (arith, c.requires.few, few-at c.args.seen.now.watches.items c.args.above.now c.in-Some.clerk c.watch_of.result.now c.requires.sees.watched c.watch_of.ensures.below got)

pub returns-then-named : goal.returns-then-named
returns-then-named c =
    let got = subst (λ ws. slice_get ws c.in-Some.clerk ≡ Some c.watch_of.result.now) c.deref.ensures.value c.watch_of.ensures.value in
    let same = named-at c.args.seen.now.watches.items c.args.above.now c.in-Some.clerk c.watch_of.result.now c.requires.sees.watched c.watch_of.ensures.below got in
    may c.args.above.now c.args.line.now c.in-Some.clerk (sym c.clerk_of.ensures ∙ c.in-Some.is) (c.has_shape.ensures.0 c.if-not-has_shape.false)
    (subst (λ w. IsNamed w c.args.line.now) same (c.in_ok-named-in-Some.ensures.0 c.if-named.true))
