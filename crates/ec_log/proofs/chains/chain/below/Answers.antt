use Rattle.std.proofs.Common.{rules, ◌≡◌, true, false}
use Rattle.std.specs.Prelude.{nat_lt}
use Rattle.std.specs.List.Sorted.{IsPartitionPoint}
use Rattle.std.proofs.lemmas.Bool.{lt-ltb, ltb-true}
use Rattle.std.proofs.lemmas.List.Sorted.{IsPartitionPoint-from_clause, IsPartitionedBy-ltb}
use Rattle.ec_log.proofs.OfChains.Numbers.{passing-in-front, in-front-passing}
use Rattle.ec_log.proofs.chains.chain.below.Goals as goal

pub returns-clause-members : goal.returns-clause-members
returns-clause-members c =
    let op = c.args.op in
    let chain = c.args.chain.now in
    let parts : IsPartitionPoint (λ y. nat_lt y op ≡ true) (λ y. nat_lt y op ≡ false) chain c.partition_point.result =
    IsPartitionPoint-from_clause (λ y. nat_lt y op) chain c.partition_point.result c.partition_point.ensures.partitioned (IsPartitionedBy-ltb (λ y. y) chain op c.requires) (λ a r f called. search rules) in
    λ n l t. passing-in-front (λ y. nat_lt y op) chain c.partition_point.result parts.1 n (lt-ltb n op l) t

pub returns-clause-lower : goal.returns-clause-lower
returns-clause-lower c =
    let op = c.args.op in
    let chain = c.args.chain.now in
    let parts : IsPartitionPoint (λ y. nat_lt y op ≡ true) (λ y. nat_lt y op ≡ false) chain c.partition_point.result =
    IsPartitionPoint-from_clause (λ y. nat_lt y op) chain c.partition_point.result c.partition_point.ensures.partitioned (IsPartitionedBy-ltb (λ y. y) chain op c.requires) (λ a r f called. search rules) in
    λ n t. ltb-true n op (in-front-passing (λ y. nat_lt y op) chain c.partition_point.result parts.0 n t)
