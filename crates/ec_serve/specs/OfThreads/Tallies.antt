-- What becomes of the tally of a server's links, and of its own pass.
use Rattle.std.specs.Prelude.{◌≡◌, ◌⊎◌, ◌+◌, ◌<◌, ℕ, true, false, length}
use mathlib.Core.List.{IsPrefix}
use Rattle.ec_lock.specs.PassViews.{front, numbers}
use Rattle.ec_lock.specs.Steps.{Member, of}
use Rattle.ec_lock.specs.declared.types.Pass.{Pass}
use Rattle.ec_servernode.specs.declared.state.Node.{Node}
use Rattle.ec_servernode.specs.declared.step.Step.{Step}
use Rattle.ec_servernode.specs.Run.{number_of}
use Rattle.ec_serve.specs.declared.threads.connections.Tally.{Tally}

module _ {L : Type 0} where
  -- no further link is to come
  abbrev pub NoneComes : Tally L → Type 0
  NoneComes t = (t.left ≡ 0) ⊎ ((t.failed ≡ true) ⊎ (t.wants ≡ true))

  -- a further link is to come
  abbrev pub OneComes : Tally L → Type 0
  OneComes t = (0 < t.left) × (t.failed ≡ false) × (t.wants ≡ false)

  -- it was looked whether one is to come
  abbrev pub Looks : Tally L → Tally L → Type 0
  Looks old new = (new.left ≡ old.left) × (new.begun ≡ old.begun) × (new.back ≡ old.back) × (new.failed ≡ old.failed) × (new.wants ≡ false → old.wants ≡ false)

  -- so many of those that were to come came
  abbrev pub Begins : ℕ → Tally L → Tally L → Type 0
  Begins came old new =
      (new.left + length new.begun.items ≡ old.left + length old.begun.items) × (length new.begun.items ≡ length old.begun.items + came) × (new.back ≡ old.back) × (new.failed ≡ old.failed) × (new.wants ≡ false → old.wants ≡ false)

  -- so many came back
  abbrev pub GivesBack : ℕ → Tally L → Tally L → Type 0
  GivesBack count old new =
      (new.left ≡ old.left) × (new.begun ≡ old.begun) × (new.failed ≡ old.failed) × (length new.back.items ≡ length old.back.items + count) × (old.wants ≡ true → new.wants ≡ true)

  -- those that came and didn't come back are live
  abbrev pub AreLive : Tally L → Tally L → ℕ → ℕ → Type 0
  AreLive old new live live_now = length new.begun.items + length old.back.items + live ≡ length old.begun.items + length new.back.items + live_now

  -- all that came came back, and no further one is to come
  abbrev pub AllEnded : Tally L → Tally L → Type 0
  AllEnded old new = (length new.begun.items + length old.back.items ≡ length old.begun.items + length new.back.items) × NoneComes new

-- the pass knows more of the list, in which its own steps are the same, and has the same numbers
abbrev pub KnowsMore : {K : Type 0} → Pass (Node K) Step → Pass (Node K) Step → Type 0
KnowsMore old new =
    (numbers new ≡ numbers old) × IsPrefix (front old) (front new) × ((n : ℕ) → Member n (numbers old) → of number_of n (front old) ≡ of number_of n (front new))
