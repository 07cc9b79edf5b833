use Rattle.std.proofs.Common.{◌≡◌, ◌==◌, ◌<◌, ◌≤◌, ◌^◌, ℕ, false, nat_lt, le-ltb, sym, ◌∙◌, ap, arith}
use Rattle.std.specs.Int.{bit_at}
use Rattle.std.proofs.lemmas.Nat.Bits.{bit_at_above}
use Rattle.ec_sessions.proofs.window.is_set.Goals as goal

no_bit : (mask place : ℕ) → mask < 2 ^ 8 → 8 ≤ place → false ≡ (bit_at mask place == 1)
no_bit mask place m p = sym (ap (λ b. b == 1) (bit_at_above mask 8 place m p))

pub returns-else-place-lt8 : goal.returns-else-place-lt8
returns-else-place-lt8 c =
    let m : c.args.mask < 2 ^ 8 = omega arith in
    let out : nat_lt c.args.place 8 ≡ false = le-ltb c.args.place 8 c.if-place-lt8.false in
    out ∙ no_bit c.args.mask c.args.place m c.if-place-lt8.false
