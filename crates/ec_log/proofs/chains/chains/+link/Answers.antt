use Rattle.std.proofs.Common.{subst, sym, inl, inr}
use Rattle.std.specs.Prelude.{T, []}
use Rattle.ec_base.specs.Tables.{at_or}
use Rattle.ec_volume.specs.Update.{member}
use Rattle.ec_log.proofs.OfChains.Linked.{on-both}
use Rattle.ec_log.proofs.OfChains.Numbers.{member-first}
use Rattle.ec_log.proofs.chains.chains.+link.Goals as goal
use Rattle.ec_base.proofs.Lists.{split_first}

pub returns-in_ok-link-in-len1-up-clause-new : goal.returns-in_ok-link-in-len1-up-clause-new
returns-in_ok-link-in-len1-up-clause-new t c =
    on-both c.link_one.result c.link_one.ensures.new c.link_one.ensures.kept
    (λ here kept o m. elim (member-first o c.obj-item.result _ (subst (λ l. T (member o l)) (split_first c.args.objs.now c.obj-item.result c.obj-item.is c.in-len1-up.len_at_least) m)) [
      | inl e ↦ subst (λ p. T (member c.args.op (at_or [] p c.link_one.new.chains))) (sym e) here
      | inr r ↦ kept o (c.in_ok-link-in-len1-up.ensures.new o r)
    ])
