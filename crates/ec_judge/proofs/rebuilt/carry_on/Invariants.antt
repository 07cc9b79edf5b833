use Rattle.std.proofs.Common.{◌≡◌, ℕ, T, not}
use Rattle.ec_pending.specs.OfOverlay.Shown.{shown, has_own}
use Rattle.ec_history.specs.History.{is_one_of}
use Rattle.ec_judge.specs.Carried.{is_noted, IsFrontAt, IsWholeBeside}
use Rattle.ec_judge.proofs.rebuilt.carry_on.Given as goal

abbrev pub invariant-loop-at : goal.invariant-loop-at
invariant-loop-at l = record {
  front : IsFrontAt (is_noted l.noted) (λ k. not (is_one_of l.named.clerk l.named.boot l.named.ops.now k)) l.kept l.at (shown l.volume);
  beside : IsWholeBeside (is_noted l.noted) (λ k. not (is_one_of l.named.clerk l.named.boot l.named.ops.now k)) l.kept (shown l.volume);
  own : (o : ℕ) → T (has_own l.fn.volume o) → T (has_own l.volume o);
  under : l.volume.under ≡ l.fn.volume.under;
}
