use Rattle.std.proofs.Common.{rules, ℕ, List, T, sym, subst}
use Rattle.std.specs.Ordering.{nat_cmp}
use Rattle.std.specs.FinMap.{is_sorted}
use Rattle.ec_volume.specs.declared.image.Image.{Image}
use Rattle.ec_sessions.specs.SlotChecks.{AreSlots}
use Rattle.ec_stands.specs.OfTable.Codes.{numbers_in}
use Rattle.ec_store.specs.Places.{ArePlaces}
use Rattle.ec_store.proofs.Assembling.{rising, images_rise, slots_are, places_are, formed_state}
use Rattle.ec_store.proofs.opening.assemble.Goals as goal

pub is_well_formed-requires-clause-ids : goal.is_well_formed-requires-clause-ids
is_well_formed-requires-clause-ids c =
    subst (λ (es : List (ℕ × Image)). T (is_sorted nat_cmp es)) (sym c.as_slice-2.ensures.value) (images_rise c.args.max_objects c.args.version c.args.table c.args.images.items c.requires.fits c.requires.ids)

pub of-requires : goal.of-requires
of-requires c =
    (formed_state c.args.max_objects c.args.table c.args.images.items c.as_slice-2.result.now c.as_slice.result.now c.in-Ok.is_formed c.as_slice.ensures c.as_slice-2.ensures.value c.in-Ok.ensures (search rules)).order.images

pub of-requires-2 : goal.of-requires-2
of-requires-2 c =
    let formed = formed_state c.args.max_objects c.args.table c.args.images.items c.as_slice-2.result.now c.as_slice.result.now c.in-Ok.is_formed c.as_slice.ensures c.as_slice-2.ensures.value c.in-Ok.ensures (search rules) in
    subst AreSlots (sym c.into_vec.ensures) (slots_are c.args.max_objects c.args.version c.args.table c.args.images.items c.requires.fits c.requires.ids formed)

pub returns-clause-places : goal.returns-clause-places
returns-clause-places c =
    let formed = formed_state c.args.max_objects c.args.table c.args.images.items c.as_slice-2.result.now c.as_slice.result.now c.in-Ok.is_formed c.as_slice.ensures c.as_slice-2.ensures.value c.in-Ok.ensures (search rules) in
    subst (λ (ps : List (ℕ × ℕ)). ArePlaces c.args.max_objects (numbers_in ps) ps) (sym c.into_vec-places.ensures) (places_are c.args.max_objects c.args.version c.args.table c.args.images.items c.requires.fits c.requires.ids formed)

pub returns-clause-rising : goal.returns-clause-rising
returns-clause-rising c =
    subst (λ (ps : List (ℕ × ℕ)). T (is_sorted nat_cmp ps)) (sym c.into_vec-places.ensures) (rising c.args.max_objects c.args.version c.args.table c.args.images.items c.requires.fits c.requires.ids)
