use Rattle.std.proofs.Common.{◌≡◌, Some, ◌<◌, ◌==◌, cond, sym, ap, subst, ◌∙◌, arith}
use Rattle.std.specs.Prelude.{MatchOption, slice_get}
use Rattle.std.proofs.lemmas.Option.{slice_get_within}
use Rattle.ec_base.specs.Limits.{clerk_count}
use Rattle.ec_lines.specs.Index.{NumberIsNew, IsCalled}
use Rattle.ec_lines.proofs.Indexed.{begun-known, begun-new}
use Rattle.ec_lines.proofs.Onward.{last-at}
use Rattle.ec_lines.proofs.seen.begun.Goals as goal

pub returns-in-Some : goal.returns-in-Some
returns-in-Some c =
    let past = c.args.above.now in
    let n = c.args.number in
    let h = subst (λ o. MatchOption o (NumberIsNew n past) (IsCalled past n)) c.in-Some.is c.requires.known in
    c.begun_at.ensures
    ∙ ap (λ b. cond (b == c.in-Some.lines.boot) c.in-Some.lines.begun 0) c.start_of-boot.ensures
    ∙ sym (begun-known past n c.args.clerk c.requires.call.0 c.in-Some.lines h c.requires.call.1)

pub returns-in-None : goal.returns-in-None
returns-in-None c =
    let past = c.args.above.now in
    let n = c.args.number in
    let ls = c.args.seen.now.last.items in
    let new = subst (λ o. MatchOption o (NumberIsNew n past) (IsCalled past n)) c.in-None.is c.requires.known in
    let got = subst (λ xs. slice_get xs c.args.clerk ≡ Some c.last_of.result) c.deref-in-None.ensures.value c.last_of.ensures in
    let within : c.args.clerk < clerk_count = omega (arith, slice_get_within ls c.args.clerk c.last_of.result got, c.requires.sees.last.count) in
    last-at ls past c.args.clerk c.last_of.result c.requires.sees.last within got ∙ sym (begun-new past n c.args.clerk new)
