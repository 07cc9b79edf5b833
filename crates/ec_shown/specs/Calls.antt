-- Calls, and what became of them.
use Rattle.std.specs.Prelude.{◌-◌, ℕ, suc, List, [], ◌∷◌}
use Rattle.ec_plain.specs.Walk.{Path}
use Rattle.ec_plain.specs.declared.call.Call.{Call}
use Rattle.ec_plain.specs.declared.call.Call.TheVariants as call
use Rattle.ec_volume.specs.Limits.{max_ordered}
use Rattle.ec_words.specs.declared.name.Verb.{Verb}
use Rattle.ec_words.specs.declared.name.Verb.TheVariants as verb
use Rattle.ec_words.specs.Rows.{Word, ◌▸◌, ◌⊳◌, ◌makes◌}
use Rattle.ec_words.specs.Spelling.{IsSmallNumber, IsNumber, IsCount, IsMode, IsVerb}
use Rattle.ec_shown.specs.declared.answer.Outcome.{Outcome}
use Rattle.ec_shown.specs.Spelling.{IsPathShown, IsWritten}
use Rattle.ec_shown.specs.Answers.{SpellsOutcome}

-- A call, and what became of it.
abbrev pub Asked : Type 0
Asked = Call × Outcome

-- at most so many paths, and then what became of the call
abbrev pub PathsThen : ℕ → List Word → List Path → Outcome → Type 0
PathsThen n (w ∷ ws) [] o = SpellsOutcome (w ∷ ws) o
PathsThen (suc n) (w ∷ ws) (p ∷ ps) o = IsPathShown w p × PathsThen n ws ps o
PathsThen _ _ _ o = ⊥

abbrev pub Paths : ℕ → List Word → List Path × Outcome → Type 0
Paths n ws x = PathsThen n ws x.0 x.1

abbrev pub OnPath : List Word → Path × Outcome → Type 0
OnPath = IsPathShown ▸ SpellsOutcome

-- what stands behind a verb, and what it makes
abbrev pub Asks : Verb → List Word → Asked → Type 0
Asks verb.Mkdir = OnPath makes λ x. (call.Mkdir x.0, x.1)
Asks verb.Create = OnPath makes λ x. (call.Create x.0, x.1)
Asks verb.Write = (IsPathShown ▸ IsSmallNumber ▸ IsWritten ▸ SpellsOutcome) makes λ x. (call.Write x.0 x.1.0 x.1.1.0, x.1.1.1)
Asks verb.SetLen = (IsPathShown ▸ IsSmallNumber ▸ SpellsOutcome) makes λ x. (call.SetLen x.0 x.1.0, x.1.1)
Asks verb.Read = (IsPathShown ▸ IsSmallNumber ▸ IsCount ▸ SpellsOutcome) makes λ x. (call.Read x.0 x.1.0 x.1.1.0, x.1.1.1)
Asks verb.Chmod = (IsPathShown ▸ IsMode ▸ SpellsOutcome) makes λ x. (call.Chmod x.0 x.1.0, x.1.1)
Asks verb.Touch = (IsPathShown ▸ IsNumber ▸ SpellsOutcome) makes λ x. (call.Touch x.0 x.1.0, x.1.1)
Asks verb.Stat = OnPath makes λ x. (call.Stat x.0, x.1)
Asks verb.List = OnPath makes λ x. (call.List x.0, x.1)
Asks verb.Remove = OnPath makes λ x. (call.Remove x.0, x.1)
Asks verb.Rmdir = OnPath makes λ x. (call.Rmdir x.0, x.1)
Asks verb.Rename = (IsPathShown ▸ OnPath) makes λ x. (call.Rename x.0 x.1.0, x.1.1)
Asks verb.Fsync = OnPath makes λ x. (call.Fsync x.0, x.1)
Asks verb.Forder = (IsPathShown ▸ Paths (max_ordered - 1)) makes λ x. (call.Forder (x.0 ∷ x.1.0), x.1.1)
Asks verb.Sync = SpellsOutcome makes λ o. (call.Sync, o)
Asks verb.Chown = (IsPathShown ▸ IsSmallNumber ▸ SpellsOutcome) makes λ x. (call.Chown x.0 x.1.0, x.1.1)

abbrev pub SpellsAsked : List Word → Asked → Type 0
SpellsAsked = IsVerb ⊳ Asks
