use Rattle.std.proofs.Common.{◌++◌, ℕ, [], ap, sym, subst, refl, inl, inr}
use Rattle.std.specs.Int.{w32, to_be_bytes}
use Rattle.ec_volume.specs.Volume as volume
use Rattle.ec_durable.specs.declared.state.Durable.{Durable}
use Rattle.ec_durable.specs.WellFormed.{WellFormed, IsInOrder}
use Rattle.ec_stands.proofs.Volumes.{formatted_well}
use Rattle.ec_durable.specs.Durable.{formatted}
use Rattle.ec_journal.specs.OfLayout.Head.{first_word}
use Rattle.ec_journal.specs.OfLayout.Heads.{empty_awaits}
use Rattle.ec_journal.specs.OfLayout.Traces.{no_sync_yet}
use Rattle.ec_journal.specs.OfLayout.Layout.{HasSide, HasSlots}
use Rattle.ec_journal.specs.OfLayout.Pieces.{AreApart, pieces_of}
use Rattle.ec_journal.specs.declared.layout.side.Side.TheVariants as side
use Rattle.ec_stands.specs.Stands.{StandsFor}
use Rattle.ec_store.proofs.Holding.{held_stands}
use Rattle.ec_store.proofs.Planning.{no_places, pieces_stand_apart, new_places_are, fresh, fresh_stands, fresh_holds}
use Rattle.ec_store.proofs.Formatting.{format_leaves}
use Rattle.ec_store.proofs.store.Store.format.Goals as goal

pub lay_out_all-requires-clause-formed : goal.lay_out_all-requires-clause-formed
lay_out_all-requires-clause-formed g c = subst (λ (d : Durable). ∥ volume.WellFormed (volume.images d.volume) ∥₁) (sym c.in_ok-state.ensures) ∣ (formatted_well c.args.max_objects c.requires.least c.requires.limit).volume ∣₁

pub lay_out_all-requires-clause-order : goal.lay_out_all-requires-clause-order
lay_out_all-requires-clause-order g c = subst IsInOrder (sym c.in_ok-state.ensures) (formatted_well c.args.max_objects c.requires.least c.requires.limit).order

pub prepare-prepared-requires-clause-apart : goal.prepare-prepared-requires-clause-apart
prepare-prepared-requires-clause-apart g c =
    let d = c.in_ok-state.state in
    let plan = c.in-Ok.plan in
    let well = subst WellFormed (sym c.in_ok-state.ensures) (formatted_well c.args.max_objects c.requires.least c.requires.limit) in
    let is = c.in-Ok.ensures.plan in
    subst (λ ps. AreApart (pieces_of ps)) (sym c.as_slice.ensures.value) (pieces_stand_apart d [] [] well.order (no_places d.max_objects) plan is)

pub invariant_of-result : goal.invariant_of-result
invariant_of-result g c =
    let d = c.in_ok-state.state in
    let plan = c.in-Ok.plan in
    let well = subst WellFormed (sym c.in_ok-state.ensures) (formatted_well c.args.max_objects c.requires.least c.requires.limit) in
    let is = c.in-Ok.ensures.plan in
    record { formed = ∣ well.volume ∣₁; order = well.order; places = new_places_are d [] [] well.order (no_places d.max_objects) plan is }

pub returns-clause-ok : goal.returns-clause-ok
returns-clause-ok g c told =
    let d = c.in_ok-state.state in
    let plan = c.in-Ok.plan in
    let well = subst WellFormed (sym c.in_ok-state.ensures) (formatted_well c.args.max_objects c.requires.least c.requires.limit) in
    let is = c.in-Ok.ensures.plan in
    let l = fresh d well plan is c.in-Ok.ensures.table c.in-Ok.ensures.fits in
    let old = g.D.Disk.view c.args.disk.now in
    let mid = g.D.Disk.view c.prepare-prepared.new.disk in
    let done = c.in_default-done.ensures.ok in
    let awaits = empty_awaits old mid l (c.requires.empty told) (c.prepare-prepared.ensures.front told done) (c.prepare-prepared.ensures.synced told done)
    (subst (λ t. HasSide mid.gives side.Even t []) c.as_slice-2.ensures.value (c.prepare-prepared.ensures.side told done)) (subst (λ ps. HasSlots mid.gives (pieces_of ps)) c.as_slice.ensures.value (c.prepare-prepared.ensures.slots told done)) in
    fresh_holds d well plan is c.in-Ok.ensures.table c.in-Ok.ensures.fits (g.D.Disk.view c.write_head.new.disk) c.new.result
    (record {
      side = c.new.ensures.side;
      journal = record { place = c.new.ensures.place; size = c.new.ensures.size; ends = c.new.ensures.ends };
      laid = c.in_default-write_head.ensures.done told l
          (record { front_is = ap (λ (m : ℕ). first_word ++ to_be_bytes w32 m) (ap (λ (x : Durable). x.max_objects) c.in_ok-state.ensures); back_is = refl; even = refl })
          awaits;
    })

pub returns-clause-stands : goal.returns-clause-stands
returns-clause-stands g c told image left =
    subst (λ e. StandsFor image e) c.in_ok-state.ensures
    (held_stands (g.D.Disk.view c.write_head.new.disk) c.new.result c.in-Ok.plan.named.items c.in-Ok.plan.kept c.in_ok-state.state (returns-clause-ok g c told) image left)

pub returns-in_err-state-clause-since_sync : goal.returns-in_err-state-clause-since_sync
returns-in_err-state-clause-since_sync g c told =
    inl (no_sync_yet g.D.Disk.does c.args.disk.now)

pub returns-in_default-clause-since_sync : goal.returns-in_default-clause-since_sync
returns-in_default-clause-since_sync g c told =
    inl (no_sync_yet g.D.Disk.does c.args.disk.now)

pub returns-in-Err-clause-since_sync : goal.returns-in-Err-clause-since_sync
returns-in-Err-clause-since_sync g c told =
    inl (c.prepare-prepared.ensures.unsynced c.in-Err.ensures.not_done)

pub returns-in-Err-write_head-clause-since_sync : goal.returns-in-Err-write_head-clause-since_sync
returns-in-Err-write_head-clause-since_sync g c told =
    let d = c.in_ok-state.state in
    let plan = c.in-Ok.plan in
    let well = subst WellFormed (sym c.in_ok-state.ensures) (formatted_well c.args.max_objects c.requires.least c.requires.limit) in
    let is = c.in-Ok.ensures.plan in
    let l = fresh d well plan is c.in-Ok.ensures.table c.in-Ok.ensures.fits in
    let old = g.D.Disk.view c.args.disk.now in
    let mid = g.D.Disk.view c.prepare-prepared.new.disk in
    let done = c.in_default-done.ensures.ok in
    let awaits = empty_awaits old mid l (c.requires.empty told) (c.prepare-prepared.ensures.front told done) (c.prepare-prepared.ensures.synced told done)
    (subst (λ t. HasSide mid.gives side.Even t []) c.as_slice-2.ensures.value (c.prepare-prepared.ensures.side told done)) (subst (λ ps. HasSlots mid.gives (pieces_of ps)) c.as_slice.ensures.value (c.prepare-prepared.ensures.slots told done)) in
    inr (
      c.prepare-prepared.new.disk,
      c.prepare-prepared.ensures.first done,
      format_leaves l d (formatted c.args.max_objects) mid (g.D.Disk.view c.write_head.new.disk) c.in_ok-state.ensures (fresh_stands d well plan is c.in-Ok.ensures.table c.in-Ok.ensures.fits)
          (c.write_head.ensures.any_moment told l
          (record { front_is = ap (λ (m : ℕ). first_word ++ to_be_bytes w32 m) (ap (λ (x : Durable). x.max_objects) c.in_ok-state.ensures); back_is = refl; even = refl })
          awaits),
    )

pub returns-clause-since_sync : goal.returns-clause-since_sync
returns-clause-since_sync g c told =
    let d = c.in_ok-state.state in
    let plan = c.in-Ok.plan in
    let well = subst WellFormed (sym c.in_ok-state.ensures) (formatted_well c.args.max_objects c.requires.least c.requires.limit) in
    let is = c.in-Ok.ensures.plan in
    let l = fresh d well plan is c.in-Ok.ensures.table c.in-Ok.ensures.fits in
    let old = g.D.Disk.view c.args.disk.now in
    let mid = g.D.Disk.view c.prepare-prepared.new.disk in
    let done = c.in_default-done.ensures.ok in
    let awaits = empty_awaits old mid l (c.requires.empty told) (c.prepare-prepared.ensures.front told done) (c.prepare-prepared.ensures.synced told done)
    (subst (λ t. HasSide mid.gives side.Even t []) c.as_slice-2.ensures.value (c.prepare-prepared.ensures.side told done)) (subst (λ ps. HasSlots mid.gives (pieces_of ps)) c.as_slice.ensures.value (c.prepare-prepared.ensures.slots told done)) in
    inr (
      c.prepare-prepared.new.disk,
      c.prepare-prepared.ensures.first done,
      format_leaves l d (formatted c.args.max_objects) mid (g.D.Disk.view c.write_head.new.disk) c.in_ok-state.ensures (fresh_stands d well plan is c.in-Ok.ensures.table c.in-Ok.ensures.fits)
          (c.write_head.ensures.any_moment told l
          (record { front_is = ap (λ (m : ℕ). first_word ++ to_be_bytes w32 m) (ap (λ (x : Durable). x.max_objects) c.in_ok-state.ensures); back_is = refl; even = refl })
          awaits),
    )
