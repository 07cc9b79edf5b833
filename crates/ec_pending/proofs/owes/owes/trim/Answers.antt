use Rattle.std.proofs.Common.{◌≡◌, ◌∙◌, ◌+◌, ◌-◌, ap, sym, subst, arith, length, ℕ, false}
use Rattle.std.specs.Prelude.{nat_le}
use Rattle.ec_pending.specs.OfOwes.Owes.{span, staying, AreIn}
use Rattle.ec_pending.proofs.OfOwes.Staying.{trimmed-count, trimmed-in, trimmed-same}
use Rattle.ec_pending.proofs.owes.owes.trim.Goals as goal

first : (n : ℕ) → n ≡ 0 + n
first n = omega arith

pub back-preserved : goal.back-preserved
back-preserved c =
    let n = c.back.end - 1 in
    let qs = c.back.pairs.items in
    let some = c.back-test.true in
    let end = c.back.invariant.end in
    let last : n + 1 ≡ length qs = omega (arith, some, end) in
    let gone = subst (λ k. nat_le (span c.index.result.now.1 c.args.spans.now).0 k ≡ false) (first n) (sym (sym c.if-is_staying.false ∙ c.is_staying.ensures)) in
    record {
      end = trimmed-count n qs last ∙ ap length (sym c.truncate.ensures.items);
      within = subst (AreIn c.args.spans.now 0) (sym c.truncate.ensures.items) (trimmed-in c.args.spans.now 0 n qs c.back.invariant.within);
      same = ap (staying c.args.spans.now 0) c.truncate.ensures.items ∙ trimmed-same c.args.spans.now 0 n qs c.index.result.now last c.index.ensures gone ∙ c.back.invariant.same;
    }
