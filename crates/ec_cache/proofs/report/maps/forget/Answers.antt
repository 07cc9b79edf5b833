use Rattle.std.proofs.Common.{ap, sym, ◌∙◌, subst}
use Rattle.std.proofs.lemmas.List.{take_all}
use Rattle.ec_cache.specs.OfReport.Index.{ops_of}
use Rattle.ec_cache.proofs.OfReport.Rows.{Stripping, stripping_none, stripping_next, all_stripped, agrees_stripped, strips_nothing}
use Rattle.ec_cache.proofs.report.maps.forget.Goals as goal

pub loop-op-init : goal.loop-op-init
loop-op-init c = record { sorted = c.requires.agrees.rising; stripped = stripping_none c.args.obj c.args.rows.now }

pub loop-op-preserved : goal.loop-op-preserved
loop-op-preserved c = record {
  sorted = c.strip.ensures.sorted;
  stripped = stripping_next c.args.obj c.loop-op.op-index c.op-item.result c.as_slice-op-items.result.now c.args.rows.now c.loop-op.rows c.strip.new.rows c.loop-op-test.true c.op-item.is c.loop-op.invariant.stripped c.strip.ensures.found;
}

pub returns-after-loop-op-clause-rows : goal.returns-after-loop-op-clause-rows
returns-after-loop-op-clause-rows c =
    let ops = c.as_slice-op-items.result.now in
    all_stripped c.args.obj ops c.args.rows.now c.loop-op.rows c.requires.agrees.rising c.loop-op.invariant.sorted (c.as_slice-op-items.ensures ∙ ap ops_of c.in-Some.ensures.value ∙ c.requires.agrees.alike c.args.obj)
    (subst (λ l. Stripping c.args.obj l c.args.rows.now c.loop-op.rows) (take_all c.loop-op.op-index ops c.loop-op-test.false) c.loop-op.invariant.stripped)

pub returns-after-loop-op-clause-agrees : goal.returns-after-loop-op-clause-agrees
returns-after-loop-op-clause-agrees c = agrees_stripped c.args.obj c.args.rows.now c.args.places.now c.loop-op.rows c.remove.new.self c.requires.agrees (returns-after-loop-op-clause-rows c) c.remove.ensures.others

pub returns-in_default-clause-rows : goal.returns-in_default-clause-rows
returns-in_default-clause-rows c = strips_nothing c.args.obj c.args.rows.now c.args.places.now c.requires.agrees (sym c.in_default.ensures.value)

pub returns-in_default-clause-agrees : goal.returns-in_default-clause-agrees
returns-in_default-clause-agrees c = agrees_stripped c.args.obj c.args.rows.now c.args.places.now c.args.rows.now c.remove.new.self c.requires.agrees (returns-in_default-clause-rows c) c.remove.ensures.others
