use Rattle.std.proofs.Common.{ℕ, List, [], refl, sym, subst}
use Rattle.ec_journal.specs.OfLayout.Sides.{other}
use Rattle.ec_journal.specs.OfLayout.Layout.{Follows}
use Rattle.ec_journal.specs.OfLayout.Pieces.{AreApart, pieces_of}
use Rattle.ec_journal.specs.OfLayout.Selected.{side_now}
use Rattle.ec_stands.specs.OfTable.Codes.{numbers_in}
use Rattle.ec_store.specs.Places.{ArePlaces}
use Rattle.ec_store.specs.Plan.{IsPlan}
use Rattle.ec_store.proofs.Renewing.{not_two, none_kept, none_renewed, renewed_apart, renewed_places, renewed_leaves, renewed_holds}
use Rattle.ec_store.proofs.store.Store.renewed.Goals as goal

pub lay_out_all-requires-clause-formed : goal.lay_out_all-requires-clause-formed
lay_out_all-requires-clause-formed g c =
    ∣ c.requires.formed.volume ∣₁

pub lay_out_all-requires-clause-places : goal.lay_out_all-requires-clause-places
lay_out_all-requires-clause-places g c =
    let o = c.args.opened in
    subst (λ (ps : List (ℕ × ℕ)). ArePlaces o.state.max_objects (numbers_in ps) []) (sym c.as_slice.ensures.value) (none_kept o.state.max_objects (numbers_in o.places.items) o.places.items c.requires.places)

pub checkpoint-turned-requires-clause-apart : goal.checkpoint-turned-requires-clause-apart
checkpoint-turned-requires-clause-apart g c =
    let o = c.args.opened in
    let plan = c.in-Ok.plan in
    let is = subst (λ (ps : List (ℕ × ℕ)). IsPlan o.state.max_objects (numbers_in ps) [] o.state.volume plan) c.as_slice.ensures.value c.in-Ok.ensures.plan in
    subst (λ ps. AreApart (pieces_of ps)) (sym c.as_slice-2.ensures.value) (renewed_apart o (numbers_in o.places.items) refl c.requires.formed c.requires.places plan is)

pub invariant_of-result : goal.invariant_of-result
invariant_of-result g c =
    let o = c.args.opened in
    let plan = c.in-Ok.plan in
    let is = subst (λ (ps : List (ℕ × ℕ)). IsPlan o.state.max_objects (numbers_in ps) [] o.state.volume plan) c.as_slice.ensures.value c.in-Ok.ensures.plan in
    record { formed = ∣ c.requires.formed.volume ∣₁; order = c.requires.formed.order; places = renewed_places o (numbers_in o.places.items) refl c.requires.formed c.requires.places plan is }

pub returns-in_default-clause-any_moment : goal.returns-in_default-clause-any_moment
returns-in_default-clause-any_moment g c told =
    none_renewed (g.D.Disk.view c.args.disk.now) c.args.opened (c.requires.synced told) (c.requires.is told) (λ image left. g.met.D.Disk.only_now told c.args.disk.now image left)

pub returns-in-Err-clause-any_moment : goal.returns-in-Err-clause-any_moment
returns-in-Err-clause-any_moment g c told =
    let o = c.args.opened in
    let plan = c.in-Ok.plan in
    let is = subst (λ (ps : List (ℕ × ℕ)). IsPlan o.state.max_objects (numbers_in ps) [] o.state.volume plan) c.as_slice.ensures.value c.in-Ok.ensures.plan in
    renewed_leaves o (numbers_in o.places.items) refl c.requires.formed c.requires.places plan is c.in-Ok.ensures.table c.in-Ok.ensures.fits (not_two o.version c.requires.older) (g.D.Disk.view c.args.disk.now) (c.requires.synced told) (c.requires.is told) c.new-selected.result c.new-selected.ensures
    (g.D.Disk.view c.checkpoint-turned.new.disk) (λ l m follows on. c.checkpoint-turned.ensures.any_moment told l m (subst (λ t. Follows (other (side_now c.new-selected.result)) t (pieces_of c.as_slice-2.result.now) l m) (sym c.as_slice-3.ensures.value) (subst (λ ps. Follows (other (side_now c.new-selected.result)) plan.table.items (pieces_of ps) l m) (sym c.as_slice-2.ensures.value) follows)) on)

pub returns-clause-any_moment : goal.returns-clause-any_moment
returns-clause-any_moment g c told =
    let o = c.args.opened in
    let plan = c.in-Ok.plan in
    let is = subst (λ (ps : List (ℕ × ℕ)). IsPlan o.state.max_objects (numbers_in ps) [] o.state.volume plan) c.as_slice.ensures.value c.in-Ok.ensures.plan in
    renewed_leaves o (numbers_in o.places.items) refl c.requires.formed c.requires.places plan is c.in-Ok.ensures.table c.in-Ok.ensures.fits (not_two o.version c.requires.older) (g.D.Disk.view c.args.disk.now) (c.requires.synced told) (c.requires.is told) c.new-selected.result c.new-selected.ensures
    (g.D.Disk.view c.checkpoint-turned.new.disk) (λ l m follows on. c.checkpoint-turned.ensures.any_moment told l m (subst (λ t. Follows (other (side_now c.new-selected.result)) t (pieces_of c.as_slice-2.result.now) l m) (sym c.as_slice-3.ensures.value) (subst (λ ps. Follows (other (side_now c.new-selected.result)) plan.table.items (pieces_of ps) l m) (sym c.as_slice-2.ensures.value) follows)) on)

pub returns-clause-ok : goal.returns-clause-ok
returns-clause-ok g c told =
    let o = c.args.opened in
    let plan = c.in-Ok.plan in
    let is = subst (λ (ps : List (ℕ × ℕ)). IsPlan o.state.max_objects (numbers_in ps) [] o.state.volume plan) c.as_slice.ensures.value c.in-Ok.ensures.plan in
    renewed_holds o (numbers_in o.places.items) refl c.requires.formed c.requires.places plan is c.in-Ok.ensures.table c.in-Ok.ensures.fits (not_two o.version c.requires.older) (g.D.Disk.view c.args.disk.now) (c.requires.synced told) (c.requires.is told) c.new-selected.result c.new-selected.ensures
    (g.D.Disk.view c.checkpoint-turned.new.disk) c.checkpoint-turned.new.self (λ l m follows on. c.checkpoint-turned.ensures.done told c.in_default-done.ensures.ok l m (subst (λ t. Follows (other (side_now c.new-selected.result)) t (pieces_of c.as_slice-2.result.now) l m) (sym c.as_slice-3.ensures.value) (subst (λ ps. Follows (other (side_now c.new-selected.result)) plan.table.items (pieces_of ps) l m) (sym c.as_slice-2.ensures.value) follows)) on)
