use Rattle.std.proofs.Common.{arith, ◌≤◌, ◌<◌, ◌+◌, ◌*◌, ◌∙◌, ℕ, List, [], length, ap, sym, subst}
use Rattle.std.specs.Prelude.{T}
use Rattle.std.specs.Ordering.{nat_cmp}
use Rattle.std.specs.FinMap.{is_sorted}
use Rattle.ec_codes.specs.Formats.{rows_fit}
use Rattle.ec_sessions.specs.Slots.{all_unspent}
use Rattle.ec_stands.specs.OfTable.Codes.{place_after}
use Rattle.ec_journal.specs.OfLayout.Free.{free_below}
use Rattle.ec_store.specs.Places.{placed}
use Rattle.ec_store.proofs.Members.{all_of_members}
use Rattle.ec_store.proofs.Placing.{placed_sorted}
use Rattle.ec_store.proofs.Holding.{enough_slots, few_objects, plan_rows, plan_few}
use Rattle.ec_store.proofs.plan.lay_out.Goals as goal

pub free_slots-requires : goal.free_slots-requires
free_slots-requires c = all_of_members (λ n. n < 2 * c.args.state.now.max_objects) c.args.named.now c.requires.places.below

pub place_all-requires-clause-room : goal.place_all-requires-clause-room
place_all-requires-clause-room c =
    let d = c.args.state.now in
    omega (arith, enough_slots d.max_objects (length d.volume) c.args.named.now c.requires.places.few (omega (arith, few_objects d c.requires.order)), ap length c.in_ok-free.ensures.all, c.in_ok-free.free.ok.0)

pub put_table-requires-clause-places : goal.put_table-requires-clause-places
put_table-requires-clause-places c =
    let d = c.args.state.now in
    let made = c.as_slice.ensures.value ∙ c.in_ok-placing.ensures.places ∙ ap (placed c.args.kept.now d.volume) c.in_ok-free.ensures.all in
    ap (λ (ps : List (ℕ × ℕ)). rows_fit (place_after d.max_objects) [] ps) made ∙ plan_rows d c.args.named.now c.args.kept.now c.requires.order c.requires.places c.in_ok-placing.ensures.each

pub put_table-requires-clause-few : goal.put_table-requires-clause-few
put_table-requires-clause-few c =
    let d = c.args.state.now in
    let made = c.as_slice.ensures.value ∙ c.in_ok-placing.ensures.places ∙ ap (placed c.args.kept.now d.volume) c.in_ok-free.ensures.all in
    subst (λ ps. length ps + length (all_unspent d.sessions) ≤ 1024) (sym made) (plan_few d c.args.named.now c.args.kept.now c.requires.order c.requires.places c.in_ok-placing.ensures.each)

pub of-requires : goal.of-requires
of-requires c =
    let d = c.args.state.now in
    let made = c.in_ok-placing.ensures.places ∙ ap (placed c.args.kept.now d.volume) c.in_ok-free.ensures.all in
    subst (λ ps. T (is_sorted nat_cmp ps)) (sym made) (placed_sorted c.args.kept.now d.volume (free_below (2 * d.max_objects) c.args.named.now) c.requires.order.images.sorted)
