use Rattle.std.proofs.Common.{◌≡◌, ℕ, Bool, true, false, rules}
use Rattle.std.specs.Prelude.{nat_le, MatchBool}
use Rattle.std.proofs.lemmas.Bool.{le-leb}
use Rattle.ec_base.specs.SortedLaws.{both}
use Rattle.ec_durable.specs.WellFormed.{WellFormed}
use Rattle.ec_durable.specs.OfWellFormed.WellFormed.{IsTree, state_with, is_in_order}
use Rattle.ec_durable.proofs.OfWellFormed.Trees.{tree_formed, formed_tree}
use Rattle.ec_durable.proofs.OfWellFormed.Deciding.{granted, denied, ok_is, tells, in_order, order_tells}
use Rattle.ec_durable.proofs.well_formed.well_formed.is_well_formed.Goals as goal
use Rattle.ec_base.proofs.Bools.{holds-true as told}

pub returns-then-not-branch : goal.returns-then-not-branch
returns-then-not-branch c epoch w =
    let no : c.in_ok-is_tree.field-0 ≡ false = search rules in
    denied c.in_ok-is_tree.field-0 (IsTree c.args.images.now) c.in_ok-is_tree.ensures no (formed_tree c.args.images.now w.volume w.order.images)

pub returns : goal.returns
returns c =
    let yes : c.in_ok-is_tree.field-0 ≡ true = search rules in
    let most = c.args.max_objects in
    let next = c.args.next_id in
    let session = c.args.next_session in
    let slots = c.args.slots.now in
    let es = c.args.images.now in
    let tree = tree_formed es c.requires.ids (granted c.in_ok-is_tree.field-0 (IsTree es) c.in_ok-is_tree.ensures yes) in
    let limits = both (nat_le 32 most) (nat_le most 1024) (told (nat_le 32 most) (le-leb 32 most c.requires.least)) (told (nat_le most 1024) (le-leb most 1024 c.requires.limit)) in
    ok_is c.is_in_order.result (is_in_order most next session slots es) (λ is. (epoch : ℕ) → MatchBool is (WellFormed (state_with most next session epoch slots es)) (WellFormed (state_with most next session epoch slots es) → ⊥)) c.is_in_order.ensures
    (λ epoch. tells (is_in_order most next session slots es) (WellFormed (state_with most next session epoch slots es))
    (λ is. record { volume = tree.0; order = in_order most next session epoch slots es tree.1 limits is })
    (λ w. order_tells most next session epoch slots es w.order))
