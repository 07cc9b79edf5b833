-- Ids that no call before made an object with.
use Rattle.std.specs.Prelude.{◌≡◌, ◌<◌, ◌≤◌, ℕ, T, true, List, [], ◌∷◌, Option, None, is_some, ⊤}
use Rattle.ec_volume.specs.Volume.{Images}
use Rattle.ec_volume.specs.declared.image.Image.TheVariants.{Gone}
use Rattle.ec_history.specs.History.{Each, History}
use Rattle.ec_history.specs.declared.entry.Entry.{Entry}
use Rattle.ec_history.specs.declared.entry.Entry.TheVariants as entry
use Rattle.ec_history.specs.declared.shown.Shown.{Shown}
use Rattle.ec_history.specs.declared.shown.Shown.TheVariants.{Answered}
use Rattle.ec_lawful.specs.Creates.{creates}

-- of the entry of such a call: of its place, its clerk, its start, and its operation's number
abbrev pub OnCreate : (ℕ → ℕ → ℕ → Option ℕ → Type 0) → ℕ × Entry → Type 0
OnCreate P (p, entry.Call c b l begun cl a op) = creates cl ≡ true → P p c b op
OnCreate P (p, entry.Loss c b ns) = ⊤

-- no call of these made an object with this id
abbrev pub MadeNone : (ℕ → ℕ) → ℕ → History → Type 0
MadeNone fresh x h = Each (OnCreate (λ p c b op. fresh p ≡ x → op ≡ None)) h

-- no call before made an object with the id at the entry's place
abbrev pub IsFresh : (ℕ → ℕ) → History → ℕ × Entry → Type 0
IsFresh fresh past e = OnCreate (λ p c b op. MadeNone fresh (fresh p) past) e

-- The id at an entry's place is below this one, and of no object of the volume; it's 0 only where nothing was made.
abbrev pub IsGiven : Images → (ℕ → ℕ) → ℕ → ℕ × Entry → Type 0
IsGiven volume fresh next e = OnCreate (λ p c b op. (fresh p < next) × (volume (fresh p) ≡ Gone) × (T (is_some op) → 1 ≤ fresh p)) e

-- Lines.

abbrev pub IsQuiet : Shown → Type 0
IsQuiet (Answered l c cl a op) = ⊥
IsQuiet _ = ⊤

-- no line, or one that is no answer
abbrev pub AreQuiet : List Shown → Type 0
AreQuiet [] = ⊤
AreQuiet (s ∷ []) = IsQuiet s
AreQuiet (s ∷ r ∷ ls) = ⊥
