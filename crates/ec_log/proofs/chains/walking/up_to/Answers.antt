use Rattle.std.proofs.Common.{rules, ◌≡◌, ◌≤◌, ℕ, true, false, arith}
use Rattle.std.specs.Prelude.{nat_le}
use Rattle.std.specs.List.Sorted.{IsPartitionPoint}
use Rattle.std.proofs.lemmas.Bool.Decides.{nat_tests}
use Rattle.std.proofs.lemmas.List.Sorted.{IsPartitionPoint-from_clause, IsPartitionedBy-leb}
use Rattle.ec_log.proofs.OfChains.Numbers.{passing-in-front}
use Rattle.ec_log.proofs.chains.walking.up_to.Goals as goal

pub returns-clause-members : goal.returns-clause-members
returns-clause-members c =
    let op = c.args.op in
    let chain = c.args.chain.now in
    let parts : IsPartitionPoint (λ y. nat_le y op ≡ true) (λ y. nat_le y op ≡ false) chain c.partition_point.result =
    IsPartitionPoint-from_clause (λ y. nat_le y op) chain c.partition_point.result c.partition_point.ensures.partitioned (IsPartitionedBy-leb (λ y. y) chain op c.requires) (λ a r f called. search rules) in
    λ n l t. passing-in-front (λ y. nat_le y op) chain c.partition_point.result parts.1 n (passes n op l) t
  where
    passes : (n op : ℕ) → n ≤ op → nat_le n op ≡ true
    passes n op l = grind (arith, nat_tests, l)
