-- The calls that words spell.
use Rattle.std.specs.Prelude.{◌-◌, List, ◌∷◌}
use Rattle.ec_plain.specs.declared.call.Call.{Call}
use Rattle.ec_plain.specs.declared.call.Call.TheVariants as call
use Rattle.ec_volume.specs.Limits.{max_ordered}
use Rattle.ec_words.specs.declared.name.Verb.{Verb}
use Rattle.ec_words.specs.declared.name.Verb.TheVariants as verb
use Rattle.ec_words.specs.Rows.{Word, ◌▸◌, End, Last, UpTo, ◌⊳◌, ◌makes◌}
use Rattle.ec_words.specs.Spelling.{IsSmallNumber, IsNumber, IsCount, IsMode, IsText, IsPathText, IsVerb}

-- what stands behind a verb, and the call that it makes
abbrev pub Asks : Verb → List Word → Call → Type 0
Asks verb.Mkdir = Last IsPathText makes call.Mkdir
Asks verb.Create = Last IsPathText makes call.Create
Asks verb.Write = (IsPathText ▸ IsSmallNumber ▸ Last IsText) makes λ x. call.Write x.0 x.1.0 x.1.1
Asks verb.SetLen = (IsPathText ▸ Last IsSmallNumber) makes λ x. call.SetLen x.0 x.1
Asks verb.Read = (IsPathText ▸ IsSmallNumber ▸ Last IsCount) makes λ x. call.Read x.0 x.1.0 x.1.1
Asks verb.Chmod = (IsPathText ▸ Last IsMode) makes λ x. call.Chmod x.0 x.1
Asks verb.Touch = (IsPathText ▸ Last IsNumber) makes λ x. call.Touch x.0 x.1
Asks verb.Stat = Last IsPathText makes call.Stat
Asks verb.List = Last IsPathText makes call.List
Asks verb.Remove = Last IsPathText makes call.Remove
Asks verb.Rmdir = Last IsPathText makes call.Rmdir
Asks verb.Rename = (IsPathText ▸ Last IsPathText) makes λ x. call.Rename x.0 x.1
Asks verb.Fsync = Last IsPathText makes call.Fsync
Asks verb.Forder = (IsPathText ▸ UpTo IsPathText (max_ordered - 1)) makes λ x. call.Forder (x.0 ∷ x.1)
Asks verb.Sync = End makes λ x. call.Sync
Asks verb.Chown = (IsPathText ▸ Last IsSmallNumber) makes λ x. call.Chown x.0 x.1

abbrev pub SpellsCall : List Word → Call → Type 0
SpellsCall = IsVerb ⊳ Asks
