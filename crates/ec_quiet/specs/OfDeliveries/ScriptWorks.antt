-- What a line of a script is about, and what its durable lines name by that.
use Rattle.std.specs.Prelude.{◌≡◌, ◌⊎◌, ℕ, T, false, not, List, [], ◌∷◌, ◌++◌}
use Rattle.ec_volume.specs.Update.{has_operand, member}
use Rattle.ec_volume.specs.Volume.{Images, after}
use Rattle.ec_history.specs.History.{Base, Each, Op, kept, updates}
use Rattle.ec_history.specs.Placing.{place}
use Rattle.ec_history.specs.declared.shown.Shown.{Shown}
use Rattle.ec_history.specs.declared.shown.Shown.TheVariants.{Durable}
use Rattle.ec_plain.specs.Plain.{plain}
use Rattle.ec_plain.specs.declared.call.Call as call
use Rattle.ec_protocol.specs.declared.script.Line.{Line}
use Rattle.ec_protocol.specs.declared.script.Line.TheVariants.{Call, Push}
use Rattle.ec_quiet.specs.Works.{Calls, Pushes, Work, saves}
use Rattle.ec_quiet.specs.OfDeliveries.PhasesBehind.{saved}
use Rattle.ec_quiet.specs.OfDeliveries.WithinClosures.{IsWithin}
use Rattle.ec_quiet.specs.OfDeliveries.Scripts.{volume_behind, IsWriteBehind}

-- Works of lines.

-- none of these operations has the object
abbrev pub LeaveOut : ℕ → List Op → Type 0
LeaveOut x ks = Each (λ o. T (not (has_operand x o.update))) ks

-- Where these operations are kept on the volume at the beginning, the work is that of the line; it's about the objects that the call touches, and perhaps about some that
-- have no operation.
abbrev pub IsWorkOn : Images → List Op → Line → Work → Type 0
IsWorkOn origin ks (Call d cl) j = (j.clerk ≡ d) × (j.task ≡ Calls cl) × ((x : ℕ) → T (member x j.touched) → ((id : ℕ) → T (member x (plain (after origin (updates ks)) cl id).touched)) ⊎ LeaveOut x ks)
IsWorkOn origin ks (Push d n) j = (j.clerk ≡ d) × (j.task ≡ Pushes n) × (j.touched ≡ [])
IsWorkOn origin ks _ j = ⊥

-- behind these lines
abbrev pub IsWorkOf : Base → List Shown → Line → Work → Type 0
IsWorkOf base ss l j = IsWorkOn base.volume (kept base (place ss)) l j

-- So it is where it's about what the call touches while its new object has no id, and about one more id, where that and the id 0 have no operation.
abbrev pub TouchesAreWorks : Type 0
TouchesAreWorks = (origin : Images) (ks : List Op) (d id : ℕ) (cl : call.Call) (j : Work) → j.clerk ≡ d → j.task ≡ Calls cl → j.touched ≡ (plain (after origin (updates ks)) cl 0).touched ++ id ∷ [] → LeaveOut 0 ks → LeaveOut id ks
    → IsWorkOn origin ks (Call d cl) j

-- A durable line within what such a work asks for is one of write-behind, where the volume behind the lines shows the same to be made durable.
abbrev pub WorksWriteBehind : Type 0
WorksWriteBehind = (base : Base) (v : Images) (j : Work) (l : Line) (ss : List Shown) (s : Shown) → saved (volume_behind base ss) j.task ≡ saved v j.task → IsWorkOf base ss l j → IsWithin base v j ss s → IsWriteBehind base l ss s

-- Where a call isn't to make anything durable, its line makes no operation of its own clerk durable.
abbrev pub OwnOperationsWait : Type 0
OwnOperationsWait = (base : Base) (d : ℕ) (cl : call.Call) (ss : List Shown) (n : ℕ) (ns : List ℕ) → saves cl ≡ false → IsWriteBehind base (Call d cl) ss (Durable d (n ∷ ns)) → ⊥
