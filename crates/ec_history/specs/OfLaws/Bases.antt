-- Bases of histories, entries that stand at lines, and what operations leave of a base.
use Rattle.std.specs.Prelude.{◌≡◌, ◌≤◌, ℕ, T, Bool, true, ◌||◌, List, map}
use Rattle.std.specs.List.{list_all}
use Rattle.ec_volume.specs.Image.{is_gone}
use Rattle.ec_volume.specs.Held.{is_held}
use Rattle.ec_volume.specs.Update.{distinct, is_sound}
use Rattle.ec_volume.specs.Volume.{Images, after, Fits, WellFormed, AllReached}
use Rattle.ec_plain.specs.BoundedCalls.{is_bounded}
use Rattle.ec_history.specs.History.{Base, History, Op, Each, updates}
use Rattle.ec_history.specs.declared.entry.Entry.{Entry}
use Rattle.ec_history.specs.declared.entry.Entry.TheVariants as entry

-- A well-formed volume, with a fresh id of its own for each place from 1 on.
pub record IsBase (base : Base) : Type 0 where
  pub formed : WellFormed base.volume
  pub gone : (p : ℕ) → 1 ≤ p → T (is_gone (base.volume (base.fresh p)))
  pub apart : (p q : ℕ) → base.fresh p ≡ base.fresh q → p ≡ q

abbrev pub is_bounded_entry : Entry → Bool
is_bounded_entry (entry.Call c b l begun cl a op) = is_bounded cl
is_bounded_entry (entry.Loss c b ns) = true

-- Places count from 1, no two entries have one place, and calls are within their bounds.
pub record AreAtLines (h : History) : Type 0 where
  pub from_one : Each (λ p. 1 ≤ p) (map (λ e. e.0) h)
  pub apart : T (distinct (map (λ e. e.0) h))
  pub bounded : T (list_all (λ e. is_bounded_entry e.1) h)

-- each live object is within the limits of modes, bytes and entries
abbrev pub AllHeld : Images → Type 0
AllHeld v = (o : ℕ) → T (is_gone (v o) || is_held (v o))

-- Sound operations that fit the base and leave a well-formed volume: each object reached, or within its limits, where each one of
-- the base is.
pub record LeaveWellFormed (base : Base) (ks : List Op) : Type 0 where
  pub sound : T (list_all is_sound (updates ks))
  pub fits : Fits base.volume (updates ks)
  pub formed : WellFormed (after base.volume (updates ks))
  pub reached : AllReached base.volume → AllReached (after base.volume (updates ks))
  pub held : AllHeld base.volume → AllHeld (after base.volume (updates ks))
