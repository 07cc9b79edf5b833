use Rattle.std.proofs.Common.{◌∙◌, ◌+◌, ap, sym, drop, reverse}
use Rattle.std.proofs.lemmas.List.{drop_all}
use Rattle.ec_base.specs.Tables.{keys}
use Rattle.ec_cache.specs.Held.{unnumbered}
use Rattle.ec_cache.proofs.Lists.{left}
use Rattle.ec_cache.proofs.tokens.unnumber.Goals as goal

pub loop-obj-preserved : goal.loop-obj-preserved
loop-obj-preserved c =
    let held = c.args.held.now in
    let first = left held c.loop-obj.obj-index c.loop-obj-item.result c.loop-obj-test.true c.loop-obj-item.is in
    ap (unnumbered (keys (drop (c.loop-obj.obj-index + 1) held))) c.unnumber_one.ensures
    ∙ sym (ap (λ hs. unnumbered (keys hs) (reverse c.loop-obj.tokens.entries)) first)
    ∙ c.loop-obj.invariant

pub returns : goal.returns
returns c = ap (λ hs. unnumbered (keys hs) (reverse c.loop-obj.tokens.entries)) (sym (drop_all c.loop-obj.obj-index c.args.held.now c.loop-obj-test.false)) ∙ c.loop-obj.invariant
