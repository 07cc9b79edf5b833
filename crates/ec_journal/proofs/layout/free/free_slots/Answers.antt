use Rattle.std.proofs.Common.{rules, Vec, ◌≡◌, ◌≤◌, ◌+◌, ◌∙◌, ℕ, List, true, false, length, ap, sym, subst, arith, get_or}
use Rattle.std.specs.List.{All}
use Rattle.std.specs.List.Sorted.{IsStrictlyIncreasing}
use Rattle.std.specs.declared.alloc.Global.{Global}
use Rattle.std.proofs.lemmas.List.{take_all, get_or_read_under}
use Rattle.ec_journal.specs.OfLayout.Free.{is_named, free_below, IsFreeBelow}
use Rattle.ec_journal.specs.OfLayout.FreeLaws.{mark_more, free_more, free_same, free_enough, free_are, free_rise}
use Rattle.ec_journal.proofs.layout.free.free_slots.Goals as goal
use Rattle.ec_journal.proofs.layout.free.free_slots.Goals.{then-not-index+in_ok-push, else-not-index}

pub named-preserved : goal.named-preserved
named-preserved c = mark_more c.named.is_named.items c.args.count c.args.named.now c.named.slot-index c.named-test.true (c.requires c.named.slot-index 0 c.named-test.true) c.named.invariant

pub slots-preserved : goal.slots-preserved
slots-preserved c =
    let marked : get_or c.named.is_named.items c.slots.slot false ≡ is_named c.slots.slot c.args.named.now =
    c.named.invariant.1 c.slots.slot c.slots-test.true ∙ ap (λ (l : List ℕ). is_named c.slots.slot l) (take_all c.named.slot-index c.args.named.now (omega (arith, c.named-test.false))) in
    elim c.if-not-index.branch [
      | then-not-index+in_ok-push w ↦
          let is_free : get_or c.named.is_named.items c.slots.slot false ≡ false = search rules in
          ap (λ (v : Vec ℕ Global). v.items) w.free-is ∙ w.in_ok-push.ensures.items ∙ free_more c.slots.slot c.args.named.now c.slots.free.items (sym marked ∙ is_free) c.slots.invariant
      | else-not-index w ↦
          let is_taken : get_or c.named.is_named.items c.slots.slot false ≡ true =
          sym (get_or_read_under c.named.is_named.items c.slots.slot c.args.count c.index.result.now false c.index.ensures c.slots-test.true (sym c.named.invariant.0)) ∙ w.if-not-index.false in
          ap (λ (v : Vec ℕ Global). v.items) w.free-is ∙ free_same c.slots.slot c.args.named.now c.slots.free.items (sym marked ∙ is_taken) c.slots.invariant
    ]

pub returns-clause-rising : goal.returns-clause-rising
returns-clause-rising c =
    let end : c.slots.slot ≡ c.args.count = omega arith in
    let all : c.slots.free.items ≡ free_below c.args.count c.args.named.now = c.slots.invariant ∙ ap (λ (k : ℕ). free_below k c.args.named.now) end in
    subst IsStrictlyIncreasing (sym all) (free_rise c.args.count c.args.named.now)

pub returns-clause-each : goal.returns-clause-each
returns-clause-each c =
    let end : c.slots.slot ≡ c.args.count = omega arith in
    let all : c.slots.free.items ≡ free_below c.args.count c.args.named.now = c.slots.invariant ∙ ap (λ (k : ℕ). free_below k c.args.named.now) end in
    subst (All (IsFreeBelow c.args.count c.args.named.now)) (sym all) (free_are c.args.count c.args.named.now)

pub returns-clause-enough : goal.returns-clause-enough
returns-clause-enough c =
    let end : c.slots.slot ≡ c.args.count = omega arith in
    let all : c.slots.free.items ≡ free_below c.args.count c.args.named.now = c.slots.invariant ∙ ap (λ (k : ℕ). free_below k c.args.named.now) end in
    subst (λ (l : List ℕ). c.args.count ≤ length l + length c.args.named.now) (sym all) (free_enough c.args.count c.args.named.now)
