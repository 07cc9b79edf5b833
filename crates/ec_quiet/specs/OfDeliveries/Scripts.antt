-- Write-behind, told by a script and the lines that are shown: each operation that a durable line names lies in a closure that its line of the script asks for.
use Rattle.std.specs.Prelude.{◌≡◌, ◌⊎◌, ◌==◌, ℕ, T, false, List, [], ◌∷◌, ◌++◌, Some, ⊤}
use Rattle.ec_volume.specs.Update.{member}
use Rattle.ec_volume.specs.Volume.{Images, after}
use Rattle.ec_history.specs.History.{Base, kept, updates}
use Rattle.ec_history.specs.Placing.{place}
use Rattle.ec_history.specs.declared.shown.Shown.{Shown}
use Rattle.ec_history.specs.declared.shown.Shown.TheVariants.{Durable}
use Rattle.ec_plain.specs.Plain.{plain}
use Rattle.ec_log.specs.declared.state.Asked.{Asked}
use Rattle.ec_log.specs.declared.state.Asked.TheVariants.{Object, Op as OneOp}
use Rattle.ec_protocol.specs.declared.script.Line.{Line}
use Rattle.ec_protocol.specs.declared.script.Line.TheVariants.{Call, Push}
use Rattle.ec_quiet.specs.OfDeliveries.Behind.{saved_by}
use Rattle.ec_quiet.specs.OfDeliveries.Closures.{IsInClosureOf, operations}

-- What a line asks of the clerk c, over this volume: of its own clerk what its call or its push is to make durable; of another one what is on an object that its call
-- touches, whatever id a new object would have.
abbrev pub LineAsks : Images → Line → ℕ → Asked → Type 0
LineAsks v (Call d cl) c a = ((c ≡ d) × (saved_by v cl ≡ Some a)) ⊎ (((c == d) ≡ false) × (x : ℕ) × (a ≡ Object x) × ((id : ℕ) → T (member x (plain v cl id).touched)))
LineAsks v (Push d n) c a = (c ≡ d) × (a ≡ OneOp n)
LineAsks v _ c a = ⊥

-- the volume behind these lines
abbrev pub volume_behind : Base → List Shown → Images
volume_behind base ss = after base.volume (updates (kept base (place ss)))

-- Each operation that a durable line behind these lines names, in the piece of this line of the script.
abbrev pub IsWriteBehind : Base → Line → List Shown → Shown → Type 0
IsWriteBehind base l ss (Durable c ns) = (n : ℕ) → T (member n ns) → (a : Asked) × LineAsks (volume_behind base ss) l c a × IsInClosureOf a (operations base c ss) n
IsWriteBehind base l ss _ = ⊤

-- so with each of these lines, which stand behind the past ones
abbrev pub AreWriteBehind : Base → Line → List Shown → List Shown → Type 0
AreWriteBehind base l past [] = ⊤
AreWriteBehind base l past (s ∷ ss) = IsWriteBehind base l past s × AreWriteBehind base l (past ++ s ∷ []) ss
