use Rattle.std.proofs.Common.{◌++◌, length, map, sym, ap, ◌∙◌, subst, arith}
use Rattle.std.specs.List.{All}
use Rattle.std.specs.Vec.Iter.{into_iter_items, into_iter_len}
use Rattle.ec_lock.specs.PassViews.{IsPassOf}
use Rattle.ec_lock.specs.declared.types.Pass.{Pass}
use Rattle.ec_lock.specs.declared.types.TracedLock.{TracedLock}
use Rattle.ec_clerknode.specs.declared.shared.SharedClerk.{SharedClerk}
use Rattle.ec_clerknode.specs.declared.state.Node.{Node}
use Rattle.ec_clerknode.specs.declared.step.Step.{Step}
use Rattle.ec_plain.specs.Walk.{Path}
use Rattle.ec_mounts.specs.declared.part.Part.{Part}
use Rattle.ec_mounts.proofs.Built.{all_first, all_later, both_longer, many_moved, map_push, moved, moved_all, none_where, seated_none}
use Rattle.ec_mounts.proofs.Seats.{seated_longer}
use Rattle.ec_mounts.proofs.mounts.Mounts.new.Goals as goal

pub list-init : goal.list-init
list-init g c =
    let One = Path × SharedClerk g.row.L.Denot g.row.L-Bell.Denot × Pass (Node g.row.L.Denot) Step in
    let lock_of : SharedClerk g.row.L.Denot g.row.L-Bell.Denot → TracedLock (Node g.row.L.Denot) Step = λ k. k.lock in
    let pass_of : Part g.row.L.Denot g.row.L-Bell.Denot → Pass (Node g.row.L.Denot) Step = λ p. p.pass in
    let it = c.into_iter-one-iterator.result in
    let gives = c.into_iter-one-iterator.ensures.into_iter_gives in
    let none = c.in_ok-table.ensures.items in
    let no_clerks = c.in_ok-clerks.ensures.items in
    let no_parts = c.in_ok-parts.ensures.items in (
      ap (λ l. l ++ map (λ (one : One). one.0) (into_iter_items it)) none ∙ ap (map (λ (one : One). one.0)) gives.0,
      ap (λ l. l ++ map (λ (one : One). one.1) (into_iter_items it)) no_clerks ∙ ap (map (λ (one : One). one.1)) gives.0,
      ap (λ l. map pass_of l ++ map (λ (one : One). one.2) (into_iter_items it)) no_parts ∙ ap (map (λ (one : One). one.2)) gives.0,
      gives.1 ∙ (c.args.list.ok.0 ∙ ap length (sym gives.0)),
      subst (All (λ (one : One). IsPassOf one.1.lock one.2)) (sym gives.0) c.requires,
      seated_none lock_of pass_of c.in_ok-clerks.clerks.items c.in_ok-parts.parts.items no_clerks no_parts,
      ap length no_parts ∙ sym (ap length none),
    )

pub list-preserved : goal.list-preserved
list-preserved g c =
    let One = Path × SharedClerk g.row.L.Denot g.row.L-Bell.Denot × Pass (Node g.row.L.Denot) Step in
    let lock_of : SharedClerk g.row.L.Denot g.row.L-Bell.Denot → TracedLock (Node g.row.L.Denot) Step = λ k. k.lock in
    let pass_of : Part g.row.L.Denot g.row.L-Bell.Denot → Pass (Node g.row.L.Denot) Step = λ p. p.pass in
    let seat = λ (one : One). IsPassOf one.1.lock one.2 in
    let inv = c.list.invariant in
    let steps = c.in-Some.ensures.steps in
    let one = c.in-Some.one in
    let all = c.args.list.items in
    let now = into_iter_items c.list.one-iterator in
    let rest = into_iter_items c.next.new.self in
    let paths = c.in_ok-push.ensures.items in
    let clerks = c.in_ok-push-2.ensures.items in
    let parts = c.in_ok-push-3.ensures.items in (
      moved (λ (one : One). one.0) c.list.table.items c.push.new.self.items (map (λ (one : One). one.0) all) one now rest paths steps.0 inv.0,
      moved (λ (one : One). one.1) c.list.clerks.items c.push-in-list.new.self.items (map (λ (one : One). one.1) all) one now rest clerks steps.0 inv.1,
      moved (λ (one : One). one.2) (map pass_of c.list.parts.items) (map pass_of c.push-in-list-2.new.self.items) (map (λ (one : One). one.2) all) one now rest (map_push pass_of c.list.parts.items c.push-in-list-2.new.self.items _ parts) steps.0 inv.2,
      (let was = inv.3 in let gone = steps.1 in let short = ap length steps.0 in omega arith),
      all_later seat now rest one steps.0 inv.4,
      seated_longer lock_of pass_of c.list.clerks.items c.push-in-list.new.self.items c.list.parts.items c.push-in-list-2.new.self.items one.1 _ clerks parts inv.5 (all_first seat now rest one steps.0 inv.4),
      both_longer c.list.parts.items c.push-in-list-2.new.self.items c.list.table.items c.push.new.self.items _ one.0 parts paths inv.6,
    )

pub returns-clause-table : goal.returns-clause-table
returns-clause-table g c =
    let One = Path × SharedClerk g.row.L.Denot g.row.L-Bell.Denot × Pass (Node g.row.L.Denot) Step in
    let inv = c.list.invariant in
    let rest = into_iter_items c.list.one-iterator in
    let none = none_where rest (into_iter_len c.list.one-iterator) inv.3 c.in-None.ensures.steps.0 in
    moved_all (λ (one : One). one.0) c.list.table.items (map (λ (one : One). one.0) c.args.list.items) rest none inv.0

pub returns-clause-clerks : goal.returns-clause-clerks
returns-clause-clerks g c =
    let One = Path × SharedClerk g.row.L.Denot g.row.L-Bell.Denot × Pass (Node g.row.L.Denot) Step in
    let inv = c.list.invariant in
    let rest = into_iter_items c.list.one-iterator in
    let none = none_where rest (into_iter_len c.list.one-iterator) inv.3 c.in-None.ensures.steps.0 in
    moved_all (λ (one : One). one.1) c.list.clerks.items (map (λ (one : One). one.1) c.args.list.items) rest none inv.1

pub returns-clause-passes : goal.returns-clause-passes
returns-clause-passes g c =
    let One = Path × SharedClerk g.row.L.Denot g.row.L-Bell.Denot × Pass (Node g.row.L.Denot) Step in
    let pass_of : Part g.row.L.Denot g.row.L-Bell.Denot → Pass (Node g.row.L.Denot) Step = λ p. p.pass in
    let inv = c.list.invariant in
    let rest = into_iter_items c.list.one-iterator in
    let none = none_where rest (into_iter_len c.list.one-iterator) inv.3 c.in-None.ensures.steps.0 in
    moved_all (λ (one : One). one.2) (map pass_of c.list.parts.items) (map (λ (one : One). one.2) c.args.list.items) rest none inv.2

pub returns-clause-seated : goal.returns-clause-seated
returns-clause-seated g c = c.list.invariant.5

pub invariant_of-result : goal.invariant_of-result
invariant_of-result g c =
    let One = Path × SharedClerk g.row.L.Denot g.row.L-Bell.Denot × Pass (Node g.row.L.Denot) Step in
    let inv = c.list.invariant in
    let list = c.args.list in
    let moved_few = many_moved (λ (one : One). one.0) c.list.table.items (into_iter_items c.list.one-iterator) list.items inv.0 in
    record { many = inv.6; few = (let as_many = inv.6 in let at_most = moved_few in let so_many = list.ok.0 in omega arith) }
