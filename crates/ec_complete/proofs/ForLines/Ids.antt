-- The ids of new objects, by the places of their calls' lines, rise.
use Rattle.std.proofs.Common.{◌≡◌, refl, ap, arith, ◌<◌, ◌+◌, ℕ, suc, List, [], ◌∷◌, length}
use Rattle.ec_history.specs.declared.shown.Shown.{Shown}
use Rattle.ec_history.specs.declared.shown.Shown.TheVariants as show
use Rattle.ec_volume.specs.Volume.{Images}
use Rattle.ec_lawful.specs.Headline.{placed_on}
use Rattle.ec_machine_laws.specs.PlainLines.{asked_in, ids_from}
use Rattle.ec_complete.specs.Complete.{AreRising}

module _ (v : Images) (top : ℕ) where
  next : (n at : ℕ) → n < top + at → n < top + (at + 1)
  next n at l = omega (arith, l)

  pub ids-rise : (ss : List Shown) (at n : ℕ) → n < top + at → AreRising n (ids_from (placed_on v top) at ss)
  ids-rise [] at n l = tt
  ids-rise (show.Answered k c cl a op ∷ ss) at n l = (l, ids-rise ss (at + 1) (top + at) (omega arith))
  ids-rise (show.Waits k c cl ∷ ss) at n l = ids-rise ss (at + 1) n (next n at l)
  ids-rise (show.Durable c ns ∷ ss) at n l = ids-rise ss (at + 1) n (next n at l)
  ids-rise (show.Ended c ns ∷ ss) at n l = ids-rise ss (at + 1) n (next n at l)
  ids-rise (show.Unseen c ∷ ss) at n l = ids-rise ss (at + 1) n (next n at l)
  ids-rise (show.Told c ns ∷ ss) at n l = ids-rise ss (at + 1) n (next n at l)
  ids-rise (show.Crashed c ∷ ss) at n l = ids-rise ss (at + 1) n (next n at l)
  ids-rise (show.Stopped ∷ ss) at n l = ids-rise ss (at + 1) n (next n at l)
  ids-rise (show.Started ∷ ss) at n l = ids-rise ss (at + 1) n (next n at l)
  ids-rise (show.Nothing ∷ ss) at n l = ids-rise ss (at + 1) n (next n at l)
  ids-rise (show.Unsettled ∷ ss) at n l = ids-rise ss (at + 1) n (next n at l)
  ids-rise (show.Bad k m ∷ ss) at n l = ids-rise ss (at + 1) n (next n at l)
  ids-rise (show.DiskBad k ∷ ss) at n l = ids-rise ss (at + 1) n (next n at l)
  ids-rise (show.Limit name k ∷ ss) at n l = ids-rise ss (at + 1) n (next n at l)
  ids-rise (show.Spent k ∷ ss) at n l = ids-rise ss (at + 1) n (next n at l)

  pub as-many : (ss : List Shown) (at : ℕ) → length (ids_from (placed_on v top) at ss) ≡ length (asked_in ss)
  as-many [] at = refl
  as-many (show.Answered k c cl a op ∷ ss) at = ap suc (as-many ss (at + 1))
  as-many (show.Waits k c cl ∷ ss) at = as-many ss (at + 1)
  as-many (show.Durable c ns ∷ ss) at = as-many ss (at + 1)
  as-many (show.Ended c ns ∷ ss) at = as-many ss (at + 1)
  as-many (show.Unseen c ∷ ss) at = as-many ss (at + 1)
  as-many (show.Told c ns ∷ ss) at = as-many ss (at + 1)
  as-many (show.Crashed c ∷ ss) at = as-many ss (at + 1)
  as-many (show.Stopped ∷ ss) at = as-many ss (at + 1)
  as-many (show.Started ∷ ss) at = as-many ss (at + 1)
  as-many (show.Nothing ∷ ss) at = as-many ss (at + 1)
  as-many (show.Unsettled ∷ ss) at = as-many ss (at + 1)
  as-many (show.Bad k m ∷ ss) at = as-many ss (at + 1)
  as-many (show.DiskBad k ∷ ss) at = as-many ss (at + 1)
  as-many (show.Limit name k ∷ ss) at = as-many ss (at + 1)
  as-many (show.Spent k ∷ ss) at = as-many ss (at + 1)
