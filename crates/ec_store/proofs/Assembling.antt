-- What of a table and of images makes a state.
use Rattle.std.proofs.Common.{◌≡◌, ℕ, ◌+◌, ◌≤◌, Bool, true, false, List, ◌++◌, length, T, subst, arith}
use Rattle.std.specs.Prelude.{MatchBool}
use Rattle.std.specs.Ordering.{nat_cmp}
use Rattle.std.specs.FinMap.{is_sorted}
use Rattle.ec_base.specs.Tables.{keys}
use Rattle.ec_volume.specs.declared.image.Image.{Image}
use Rattle.ec_sessions.specs.Slots.{Slots, all_unspent}
use Rattle.ec_sessions.specs.SlotChecks.{AreSlots}
use Rattle.ec_durable.specs.WellFormed.{WellFormed}
use Rattle.ec_durable.proofs.Counts.{once_apart}
use Rattle.ec_stands.specs.OfTable.Codes.{table_code, ids_in, numbers_in}
use Rattle.ec_stands.specs.declared.table.table.Table.{Table}
use Rattle.ec_stands.specs.declared.table.table.Version.{Version}
use Rattle.ec_durable.specs.OfWellFormed.WellFormed.{state_with}
use Rattle.ec_stands.specs.Stands.{state_of}
use Rattle.ec_store.specs.Places.{ArePlaces}
use Rattle.ec_store.proofs.Holding.{few_objects}
use Rattle.ec_store.proofs.Placing.{are_places}
use Rattle.ec_store.proofs.Rows.{table_parts, table_rows, places_rise, sorted_as, length_as, are_slots, unspent_once}

module _ (most : ℕ) (v : Version) (t : Table) (es : List (ℕ × Image)) (fits : (table_code most).fits (v, t) ≡ true) (ids : keys es ≡ ids_in t.places) where
  pub rising : T (is_sorted nat_cmp t.places)
  rising = places_rise most t.places (table_rows most t.places (table_parts most v t fits).1)

  pub images_rise : T (is_sorted nat_cmp es)
  images_rise = sorted_as es t.places ids rising

  module _ (formed : WellFormed (state_of most t es)) where
    pub slots_are : AreSlots t.slots
    slots_are = are_slots t.slots (table_parts most v t fits).0 (unspent_once (keys es) t.slots (once_apart (keys es ++ all_unspent t.slots) formed.order.ids))

    pub places_are : ArePlaces most (numbers_in t.places) t.places
    places_are =
        let few : length es + length (all_unspent t.slots) ≤ most = few_objects (state_of most t es) formed.order in
        are_places most t.places (table_rows most t.places (table_parts most v t fits).1) (omega (arith, length_as es t.places ids, few))

-- what was tested

pub formed_state : (most : ℕ) (t : Table) (es given : List (ℕ × Image)) (slots : Slots) (b : Bool) → slots ≡ t.slots → given ≡ es
    → ((epoch : ℕ) → MatchBool b (WellFormed (state_with most t.next_id t.next_session epoch slots given)) (WellFormed (state_with most t.next_id t.next_session epoch slots given) → ⊥)) → b ≡ true → WellFormed (state_of most t es)
formed_state most t es given slots true same given_is is so =
    subst (λ (e : List (ℕ × Image)). WellFormed (state_with most t.next_id t.next_session t.epoch t.slots e)) given_is
    (subst (λ (s : Slots). WellFormed (state_with most t.next_id t.next_session t.epoch s given)) same (is t.epoch))
formed_state most t es given slots false same given_is is so = absurd cc
