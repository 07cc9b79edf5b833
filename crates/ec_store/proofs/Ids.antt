-- The ids to come of a well-formed state.
use Rattle.std.proofs.Common.{◌≡◌, ℕ, ◌+◌, ◌<◌, ◌≤◌, Bool, true, false, if◌then◌else◌, List, [], ◌∷◌, ◌++◌, Option, None, Some, T, refl, sym, subst, arith}
use Rattle.std.specs.Prelude.{◌==◌, ◌&&◌, ◌||◌, nat_lt, nat_le, length}
use Rattle.std.specs.List.{list_all}
use Rattle.std.proofs.Math.Logic.{∥∥₁_elim}
use mathlib.Core.Bool.{Bool-set}
use Rattle.std.proofs.lemmas.Bool.{eqb-true, leb-true, le-leb, ltb-true}
use Rattle.ec_base.specs.SortedLaws.{first, second}
use Rattle.ec_base.specs.Tables.{keys}
use Rattle.ec_volume.specs.Image.{is_gone, is_dir}
use Rattle.ec_volume.specs.Update.{root}
use Rattle.ec_volume.specs.Volume.{images}
use Rattle.ec_volume.specs.Volume as volume
use Rattle.ec_volume.specs.declared.image.Image.{Image}
use Rattle.ec_volume.specs.declared.image.Image.TheVariants.{Gone, File, Dir}
use Rattle.ec_sessions.specs.Slots.{all_unspent}
use Rattle.ec_sessions.specs.declared.slot.Slot.{Slot}
use Rattle.ec_durable.specs.declared.state.Durable.{Durable}
use Rattle.ec_durable.specs.Durable.{slot}
use Rattle.ec_durable.specs.WellFormed.{IsInOrder, fits_slot, last_first_fits}
use Rattle.ec_durable.proofs.Slots.{slot_passes}
use Rattle.ec_base.proofs.Bools.{is-true as told}

dir_live : (i : Image) → T (is_dir i) → is_gone i ≡ false
dir_live Gone h = absurd h
dir_live (File m s w bs) h = absurd h
dir_live (Dir m s w es) h = refl

-- a live object's id is below the next one
live_below : (o next : ℕ) (es : List (ℕ × Image)) (rest : List ℕ) → is_gone (images es o) ≡ false → T (list_all (λ k. nat_lt k next) (keys es ++ rest)) → o < next
live_below o next [] rest live all = absurd cc
live_below o next (e ∷ es) rest live all = go (o == e.0) refl live (live_below o next es rest)
  where
    go : (b : Bool) → (o == e.0) ≡ b → is_gone (if b then e.1 else images es o) ≡ false → (is_gone (images es o) ≡ false → T (list_all (λ k. nat_lt k next) (keys es ++ rest)) → o < next) → o < next
    go true same here rec = subst (λ k. k < next) (sym (eqb-true o e.0 same)) (ltb-true e.0 next (told (nat_lt e.0 next) (first (nat_lt e.0 next) (list_all (λ k. nat_lt k next) (keys es ++ rest)) all)))
    go false differs later rec = rec later (second (nat_lt e.0 next) (list_all (λ k. nat_lt k next) (keys es ++ rest)) all)

pub next_from_one : (d : Durable) → ∥ volume.WellFormed (images d.volume) ∥₁ → IsInOrder d → 1 ≤ d.next_id
next_from_one d formed order =
    leb-true 1 d.next_id
    (∥∥₁_elim formed (Bool-set _ _) (λ w. le-leb 1 d.next_id (omega (arith, live_below root d.next_id d.volume (all_unspent d.sessions) (dir_live (images d.volume root) w.root_is_dir) order.below))))

pub grants_below : (d : Durable) → IsInOrder d → (c : ℕ) (sl : Slot) (f : ℕ) → slot d c ≡ Some sl → sl.last_first ≡ Some f → f + 16 ≤ d.next_id
grants_below d order c sl f is last =
    go sl.last_first last
    (second (sl.is_open || (length sl.unspent == 0)) (last_first_fits d.next_id sl) (subst (λ s. T (fits_slot d.next_id s)) is (slot_passes (fits_slot d.next_id) c d.sessions order.slots tt)))
  where
    go : (x : Option ℕ) → x ≡ Some f → T (elim x as (λ z. Bool) [ None ↦ sl.grants == 0 | Some g ↦ nat_lt 0 sl.grants && nat_le (g + 16) d.next_id ]) → f + 16 ≤ d.next_id
    go None e h = absurd cc
    go (Some g) e h =
        let same : g ≡ f = some_is g f e in
        subst (λ k. k + 16 ≤ d.next_id) same (leb-true (g + 16) d.next_id (told (nat_le (g + 16) d.next_id) (second (nat_lt 0 sl.grants) (nat_le (g + 16) d.next_id) h)))
      where
        some_is : (x y : ℕ) → ◌≡◌ {A = Option ℕ} (Some x) (Some y) → x ≡ y
        some_is x y p = cc
