use Rattle.std.proofs.Common.{◌≡◌, sym, subst, [], take, length}
use Rattle.ec_lines.specs.Index.{AreBegins}
use Rattle.ec_legal.proofs.Begun.{begins-above, begins-reach}
use Rattle.ec_legal.proofs.ahead.place_block.Goals as goal

pub slice_bounds-begins-end : goal.slice_bounds-begins-end
slice_bounds-begins-end c =
    let a = c.args.ahead.now in
    let h = c.requires.ahead in
    subst (λ bs. a.settled ≡ length (take a.settled bs)) (sym c.deref.ensures.value) (begins-reach c.args.shown.now a.following.begins.items a.settled a.followed h.known h.within h.follows.begins)

pub place_lines-requires-clause-begins : goal.place_lines-requires-clause-begins
place_lines-requires-clause-begins c =
    let a = c.args.ahead.now in
    let h = c.requires.ahead in
    subst (λ bs. AreBegins [] (take a.settled c.args.shown.now) (take a.settled bs)) (sym c.deref.ensures.value) (begins-above c.args.shown.now a.following.begins.items a.settled a.followed h.known h.follows.begins)
