use Rattle.std.proofs.Common.{◌≡◌, ℕ, length, map, ap, sym, ◌∙◌, arith}
use Rattle.std.proofs.lemmas.List.{at_drop_all}
use Rattle.ec_base.specs.Tables.{once}
use Rattle.ec_lease_machine.specs.Drill.{named_in}
use Rattle.ec_lease.specs.OfDrill.Lines.{read_of, each_noted}
use Rattle.ec_lease.proofs.OfDrill.Fresh.{noted_once}
use Rattle.ec_lease.proofs.drill.script.bound_of.Goals as goal

pub returns : goal.returns
returns c =
    let named = c.naming.named in
    let lines = c.args.lines.now in
    let all : named.items ≡ once (named_in (map read_of lines)) = sym (at_drop_all (λ ls. each_noted named.items (named_in (map read_of ls))) lines c.naming.line-index (omega arith)) ∙ c.naming.invariant.0 ∙ noted_once (named_in (map read_of lines)) in
    omega (arith, c.len.ensures, named.ok.0, ap (length {A = ℕ}) all)
