use Rattle.std.proofs.Common.{◌≡◌, ◌+◌, ◌++◌, ◌∙◌, ℕ, false, Some, List, length, take, drop, sym, ap, subst, arith}
use Rattle.ec_history.specs.declared.watch.Watch.{Watch}
use Rattle.ec_watch.specs.Watches.{AreWatched}
use Rattle.std.specs.Prelude.{slice_get}
use Rattle.std.proofs.Math.Logic.{∥∥₁_elim, ∥∥₁_map}
use Rattle.std.specs.Coded.{Coded-set, coded_ℕ, le_prop}
use Rattle.ec_world.specs.Noted.{Kept}
use Rattle.ec_world.proofs.Kept.{next_kept, written_over}
use Rattle.ec_world.proofs.lines.Lines.note.Goals as goal

pub note-requires-clause-count : goal.note-requires-clause-count
note-requires-clause-count c =
    ∥∥₁_elim c.self.invariant (Coded-set coded_ℕ _ _) (λ k. let sound : c.self.inside.is_broken ≡ false = cc in let count = (k sound).watched.count in cc)

pub note-requires-clause-starts : goal.note-requires-clause-starts
note-requires-clause-starts c = λ w i is.
    ∥∥₁_elim c.self.invariant le_prop
    (λ k.
    let sound : c.self.inside.is_broken ≡ false = cc in
    let kept = k sound in
    let here : slice_get c.self.inside.watches.items i ≡ Some w = cc in
    let few = c.starts_are_few.ensures c.self.inside.watches.items c.self.inside.shown.items i w kept.watched here in
    omega (arith, few, kept.count_is))

pub invariant_of-self-2 : goal.invariant_of-self-2
invariant_of-self-2 c =
    ∥∥₁_map c.self.invariant
    (λ k whole.
    let sound : c.self.inside.is_broken ≡ false = cc in
    let slice : c.deref_mut.result.now ≡ c.self.inside.watches.items = cc in
    let past = c.self.inside.shown.items in
    let count = c.self.inside.count in
    let before = subst (λ (ws : List Watch). AreWatched ws past) (sym slice) (k sound).watched in
    let behind = next_kept _ _ _ _ _ _ (k sound) c.and-self-inside.ensures (λ watched. c.in_ok-note.ensures past before) in
    let new = c.note.new.watches in
    let old = c.self.inside.watches.items in
    let same : length old ≡ length new = (k sound).watched.count ∙ sym behind.watched.count in
    let len : c.self.inside.watches.len ≡ length new = cc in
    let over : take c.self.inside.watches.len (new ++ drop (length new) old) ≡ new = ap (λ (n : ℕ). take n (new ++ drop (length new) old)) len ∙ written_over new old same in
    subst (λ (ws : List Watch). Kept ws c.and-self-inside.result.items (count + 1)) (sym over) behind)
