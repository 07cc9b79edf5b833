use Rattle.std.proofs.Common.{◌≡◌, ◌==◌, ℕ, sym, refl, ap, ◌∙◌}
use Rattle.std.specs.Prelude.{Result, Err}
use Rattle.ec_base.specs.Tables.{keys}
use Rattle.ec_log.specs.OfChains.ClosureLaws.{walk-closure}
use Rattle.ec_log.specs.declared.chains.order.OrderFault.{OrderFault}
use Rattle.ec_log.specs.declared.chains.order.OrderFault.TheVariants as fault
use Rattle.ec_log.proofs.OfChains.Walks.{op_absent, op_present}
use Rattle.ec_log.proofs.chains.order.Order.closure_of_op.Goals as goal

pub returns-then-is_empty-clause-none : goal.returns-then-is_empty-clause-none
returns-then-is_empty-clause-none c n e = (
  named e,
  op_absent c.args.op c.args.self.now c.in_ok-ops.ops.items c.as_slice.result.now c.in_ok-ops.ensures c.as_slice.ensures.value (sym c.if-is_empty.ensures),
)
  where
    named : {X : Type 0} {a b : ℕ} → ◌≡◌ {A = Result X OrderFault} (Err (fault.NoSuchOp a)) (Err (fault.NoSuchOp b)) → b ≡ a
    named e = cc

pub returns-clause-ops : goal.returns-clause-ops
returns-clause-ops c =
    c.in_ok-ops.ensures
    ∙ ap keys (walk-closure (λ x. x.0 == c.args.op) (λ n. n == c.args.op) c.args.self.now (λ n u h. refl))

pub returns-clause-held : goal.returns-clause-held
returns-clause-held c =
    op_present c.args.op c.args.self.now c.in_ok-ops.ops.items c.as_slice.result.now c.in_ok-ops.ensures c.as_slice.ensures.value (sym c.if-is_empty.ensures)
