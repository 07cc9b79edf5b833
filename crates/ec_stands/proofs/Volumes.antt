-- Records keep the tree of a state's volume well formed.
use Rattle.std.proofs.Common.{◌≡◌, ◌==◌, ℕ, ◌+◌, ◌≤◌, Bool, true, false, List, [], ◌∷◌, Option, None, Some, Result, Ok, Err, T, refl, sym, subst}
use Rattle.ec_base.specs.SortedLaws.{both}
use Rattle.ec_base.specs.Tables.{Table}
use Rattle.ec_volume.specs.Image.{new_object}
use Rattle.ec_volume.specs.Update.{root, operands, is_sound, first_unfit}
use Rattle.ec_volume.specs.Volume as volume
use Rattle.ec_volume.specs.Held.{changed}
use Rattle.ec_volume.specs.declared.image.Image.{Image}
use Rattle.ec_volume.specs.declared.image.Kind.TheVariants as kind
use Rattle.ec_volume.specs.declared.update.Update.{Update}
use Rattle.ec_volume.proofs.Changed.{changed_images}
use Rattle.ec_volume.proofs.Fitting.{none_is_fit}
use Rattle.ec_history.proofs.OfLaws.ForFormed.Formatted.{formatted-formed}
use Rattle.ec_history.proofs.OfLaws.ForFormed.KeptFormed.{kept-formed}
use Rattle.ec_sessions.specs.Slots as slots
use Rattle.ec_durable.specs.declared.state.Durable.{Durable}
use Rattle.ec_durable.specs.declared.record.Record.{Record}
use Rattle.ec_durable.specs.declared.record.Record.TheVariants.{Batch, Open, End, Ids, Epoch}
use Rattle.ec_durable.specs.declared.record.RecordFault.{RecordFault}
use Rattle.ec_durable.specs.declared.record.RecordFault.TheVariants.{NoSession, Done, Beyond, BadAge, BadNumber, NoRoom}
use Rattle.ec_durable.specs.Durable.{formatted, step, steps, slot, live, reserved, is_full, is_session, with_slot, made, unreserved, op_fault, carried_out, operations, low, has_batch, is_beyond, marked, is_next_grant, is_next_session}
use Rattle.ec_durable.specs.Steps.{AreSound, AreAllSound, AreSoundOps}
use Rattle.ec_durable.specs.WellFormed.{WellFormed, least_max_objects, most_max_objects}
use Rattle.ec_durable.proofs.Batches.{same_Ok, not_Ok, fault_none}
use Rattle.ec_durable.proofs.Kept.{step_kept, formatted_kept}
use Rattle.ec_volume.proofs.VolumeLemmas.{all-same}

-- the tree of the state's volume is well formed
abbrev HasTree : Durable → Type 0
HasTree d = volume.WellFormed (volume.images d.volume)

changed_formed : (u : Update) (es : Table Image) → T (is_sound u) → volume.Fits (volume.images es) (u ∷ []) → volume.WellFormed (volume.images es) → volume.WellFormed (volume.images (changed u es))
changed_formed u es s f w =
    subst volume.WellFormed (sym (all-same (volume.images (changed u es)) (volume.after (volume.images es) (u ∷ [])) (changed_images u es s)))
    (kept-formed (volume.images es) (u ∷ []) w (both _ _ s tt) f)

op_formed : (c n : ℕ) (u : Update) (d : Durable) → HasTree d → T (is_sound u) → op_fault c n u d ≡ None → HasTree (carried_out c u d)
op_formed c n u d w s none =
    let parts = fault_none n (unreserved (made u) (slot d c)) (first_unfit u (volume.images d.volume) (operands u)) none in
    changed_formed u d.volume s ((none_is_fit (volume.images d.volume) u).0 parts.1) w

operations_formed : (c : ℕ) (ops : List (ℕ × Update)) (d e : Durable) → HasTree d → AreSoundOps ops → operations c ops d ≡ Ok e → HasTree e
operations_formed c [] d e w s is = subst HasTree (same_Ok is) w
operations_formed c (op ∷ ops) d e w s is = go (op_fault c op.0 op.1 d) refl is (λ k. operations_formed c ops (carried_out c op.1 d) e k s.1)
  where
    go : (f : Option RecordFault) → op_fault c op.0 op.1 d ≡ f
        → (elim f as (λ z. Result Durable RecordFault) [ Some fault ↦ Err fault | None ↦ operations c ops (carried_out c op.1 d) ]) ≡ Ok e
        → (HasTree (carried_out c op.1 d) → operations c ops (carried_out c op.1 d) ≡ Ok e → HasTree e) → HasTree e
    go (Some fault) p is rest = absurd (not_Ok is)
    go None p is rest = rest (op_formed c op.0 op.1 d w s.0 p) is

step_formed : (r : Record) (d e : Durable) → HasTree d → AreSound r → step r d ≡ Ok e → HasTree e
step_formed (Batch c s b ops) d e w sound is = go (is_session s (slot d c)) (has_batch b (slot d c)) (is_beyond b (slot d c)) (operations c ops d) refl is
  where
    go : (x y z : Bool) (r : Result Durable RecordFault) → operations c ops d ≡ r
        → (elim x as (λ w. Result Durable RecordFault) [
          | false ↦ Err NoSession
          | true ↦ elim y as (λ w. Result Durable RecordFault) [
            | true ↦ Err (Done b)
            | false ↦ elim z as (λ w. Result Durable RecordFault) [
              | true ↦ Err (Beyond (low (slot d c)))
              | false ↦ elim r as (λ w. Result Durable RecordFault) [ Err fault ↦ Err fault | Ok m ↦ Ok (marked c b m) ]
            ]
          ]
        ]) ≡ Ok e → HasTree e
    go false y z r p is = absurd (not_Ok is)
    go true true z r p is = absurd (not_Ok is)
    go true false true r p is = absurd (not_Ok is)
    go true false false (Err fault) p is = absurd (not_Ok is)
    go true false false (Ok m) p is = subst HasTree (same_Ok is) (operations_formed c ops d m w sound p)
step_formed (Open c age s) d e w sound is = go (slots.is_greater (slot d c) age) (is_next_session s d) is
  where
    go : (x y : Bool)
        → (elim x as (λ w. Result Durable RecordFault) [ false ↦ Err BadAge | true ↦ elim y as (λ w. Result Durable RecordFault) [ false ↦ Err BadNumber | true ↦ Ok (with_slot c (Some (slots.new_slot age s)) (record d { next_session = s + 1 })) ] ]) ≡ Ok e → HasTree e
    go false y is = absurd (not_Ok is)
    go true false is = absurd (not_Ok is)
    go true true is = subst HasTree (same_Ok is) w
step_formed (End c s) d e w sound is = go (is_session s (slot d c)) is
  where
    go : (x : Bool) → (elim x as (λ w. Result Durable RecordFault) [ false ↦ Err NoSession | true ↦ Ok (with_slot c (slots.ended (slot d c)) d) ]) ≡ Ok e → HasTree e
    go false is = absurd (not_Ok is)
    go true is = subst HasTree (same_Ok is) w
step_formed (Ids c s got f) d e w sound is = go (is_session s (slot d c)) (is_next_grant c got f d) (is_full d) is
  where
    go : (x y z : Bool)
        → (elim x as (λ w. Result Durable RecordFault) [
          | false ↦ Err NoSession
          | true ↦ elim y as (λ w. Result Durable RecordFault) [
            | false ↦ Err BadNumber
            | true ↦ elim z as (λ w. Result Durable RecordFault) [
              | true ↦ Err (NoRoom (live d) (reserved d))
              | false ↦ Ok (with_slot c (slots.granted f (slot d c)) (record d { next_id = f + 16 }))
            ]
          ]
        ]) ≡ Ok e → HasTree e
    go false y z is = absurd (not_Ok is)
    go true false z is = absurd (not_Ok is)
    go true true true is = absurd (not_Ok is)
    go true true false is = subst HasTree (same_Ok is) w
step_formed (Epoch n) d e w sound is = go (n == d.epoch + 1) is
  where
    go : (x : Bool) → (elim x as (λ w. Result Durable RecordFault) [ false ↦ Err BadNumber | true ↦ Ok (record d { epoch = n }) ]) ≡ Ok e → HasTree e
    go false is = absurd (not_Ok is)
    go true is = subst HasTree (same_Ok is) w

pub step_well : (r : Record) (d e : Durable) → WellFormed d → AreSound r → step r d ≡ Ok e → WellFormed e
step_well r d e w s is = record { volume = step_formed r d e w.volume s is; order = step_kept r d e w.order s is }

pub steps_well : (rs : List Record) (d e : Durable) → WellFormed d → AreAllSound rs → steps rs d ≡ Ok e → WellFormed e
steps_well [] d e w s is = subst WellFormed (same_Ok is) w
steps_well (r ∷ rs) d e w s is = go (step r d) refl is (λ m k. steps_well rs m e k s.1)
  where
    go : (x : Result Durable RecordFault) → step r d ≡ x → (elim x as (λ z. Result Durable RecordFault) [ Err fault ↦ Err fault | Ok m ↦ steps rs m ]) ≡ Ok e
        → ((m : Durable) → WellFormed m → steps rs m ≡ Ok e → WellFormed e) → WellFormed e
    go (Err fault) p is rest = absurd (not_Ok is)
    go (Ok m) p is rest = rest m (step_well r d m w s.0 p) is

pub formatted_well : (most : ℕ) → least_max_objects ≤ most → most ≤ most_max_objects → WellFormed (formatted most)
formatted_well most least le = record {
  volume = subst volume.WellFormed (all-same volume.formatted (volume.images ((root, new_object kind.Dir) ∷ [])) (λ o. refl)) formatted-formed;
  order = formatted_kept most least le;
}
