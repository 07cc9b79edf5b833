use Rattle.std.proofs.Common.{◌≡◌, ◌∙◌, ap, sym, reverse, nat_eq, is_some, true, Result, Ok, Err}
use Rattle.std.specs.Result.{OnOk, IsOk}
use Rattle.std.specs.Map.{lookup}
use Rattle.ec_cache.proofs.Order.{at-reverse, renewed-old}
use Rattle.ec_cache.proofs.tokens.renew.Goals as goal

of_ok : {A E P : Type 0} (r : Result A E) → OnOk r P → IsOk r → P
of_ok (Ok a) p is = p
of_ok (Err e) p is = absurd (cc is)

pub returns-then-len-gt0-clause-order : goal.returns-then-len-gt0-clause-order
returns-then-len-gt0-clause-order c =
    let es = c.args.tokens.now.entries in
    let apart = c.len.ensures.valid.0 in
    let there : is_some (lookup (nat_eq c.get-number.result) es) ≡ true =
    ap (λ k. is_some (lookup (nat_eq k) es)) c.get-number.ensures.value ∙ sym (ap is_some (at-reverse c.args.obj es apart)) ∙ c.requires
    in
    let put = of_ok c.put-replaced.result c.put-replaced.ensures.entries (c.put-replaced.ensures.succeeds there) in
    ap (λ k. reverse k.entries) put ∙ renewed-old c.args.tokens.now c.args.obj c.get-number.result c.args.held c.get-number.ensures.value c.requires apart
