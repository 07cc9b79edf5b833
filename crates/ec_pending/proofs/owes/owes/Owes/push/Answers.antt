use Rattle.std.proofs.Common.{◌∙◌, ◌++◌, ◌∷◌, [], ℕ, sym, ap, subst, arith}
use Rattle.ec_pending.specs.OfOwes.Owes.{AreIn}
use Rattle.ec_pending.proofs.OfOwes.Staying.{push-in, push-more, push-view}
use Rattle.ec_pending.proofs.owes.owes.Owes.push.Goals as goal

pub invariant_of-self : goal.invariant_of-self
invariant_of-self c = subst (λ s. AreIn s 0 c.self.inside.pairs.items) (sym c.in_err-extend.ensures.err) c.self.invariant

pub invariant_of-self-in_err-push : goal.invariant_of-self-in_err-push
invariant_of-self-in_err-push c =
    let at-end = c.len-end.ensures ∙ c.self.inside.pairs.ok.0 in
    subst (AreIn c.extend.new.spans 0) (sym c.in_err-push.ensures.items) (push-in c.args.obj c.len-end.result c.self.inside.spans c.extend.new.spans c.in_ok-extend.ensures.ok c.self.inside.pairs.items (omega (arith, at-end)) c.self.invariant)

pub invariant_of-self-2 : goal.invariant_of-self-2
invariant_of-self-2 c =
    push-more c.args.obj c.len-end.result c.self.inside.spans c.extend.new.spans c.in_ok-extend.ensures.ok c.args.op c.self.inside.pairs.items c.push.new.self.items (c.len-end.ensures ∙ c.self.inside.pairs.ok.0) c.in_ok-push.ensures.items c.self.invariant

pub returns : goal.returns
returns c =
    let pair : ℕ × ℕ = (c.args.op, c.args.obj) in
    push-view c.args.obj c.len-end.result c.self.inside.spans c.extend.new.spans c.in_ok-extend.ensures.ok c.args.op c.self.inside.pairs.items c.push.new.self.items (c.len-end.ensures ∙ c.self.inside.pairs.ok.0) c.in_ok-push.ensures.items c.self.invariant
    ∙ ap (λ l. l ++ pair ∷ []) c.self.view_is
