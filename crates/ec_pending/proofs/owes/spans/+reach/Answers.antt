use Rattle.std.proofs.Common.{◌≤◌, ◌<◌, ℕ, subst, sym}
use Rattle.ec_pending.proofs.OfOwes.Ended.{has-more}
use Rattle.ec_pending.proofs.owes.spans.+reach.Goals as goal
use Rattle.ec_base.proofs.Lists.{split_first}

pub returns-in-len1-up : goal.returns-in-len1-up
returns-in-len1-up t c =
    has-more c.args.spans.now c.args.objs.now _ c.obj-item.result c.reach.result c.join.result (split_first c.args.objs.now c.obj-item.result c.obj-item.is c.in-len1-up.len_at_least)
    (λ i low high. c.join.ensures.one i (subst (λ (s : ℕ × ℕ). s.0 ≤ i) (sym c.span_of.ensures) low) (subst (λ (s : ℕ × ℕ). i < s.1) (sym c.span_of.ensures) high))
    c.join.ensures.other c.reach.ensures
