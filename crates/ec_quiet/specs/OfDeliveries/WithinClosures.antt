-- Durable lines that name only what their line of the script asks for.
use Rattle.std.specs.Prelude.{ℕ, T, List, [], ◌∷◌, ◌++◌, ⊤}
use Rattle.ec_volume.specs.Update.{member}
use Rattle.ec_volume.specs.Volume.{Images}
use Rattle.ec_order.specs.Order.{Issued}
use Rattle.ec_history.specs.History.{Base, kept, of_issue}
use Rattle.ec_history.specs.Placing.{begun, place, watch}
use Rattle.ec_history.specs.declared.shown.Shown.{Shown}
use Rattle.ec_history.specs.declared.shown.Shown.TheVariants.{Durable}
use Rattle.ec_log.specs.declared.state.Asked.{Asked}
use Rattle.ec_quiet.specs.Works.{Work}
use Rattle.ec_quiet.specs.OfDeliveries.PhasesBehind.{AsksOf}
use Rattle.ec_quiet.specs.OfDeliveries.Closures.{IsInClosureOf}

abbrev pub kept_operations : Base → ℕ → List Shown → Issued
kept_operations base c ss = of_issue c (begun (watch c ss)).starts (kept base (place ss))

-- A durable line behind these lines names operations in a closure that the line of the script asks of their clerk.
abbrev pub IsWithin : Base → Images → Work → List Shown → Shown → Type 0
IsWithin base v j ss (Durable c ns) = (a : Asked) × AsksOf v j c a × ((n : ℕ) → T (member n ns) → IsInClosureOf a (kept_operations base c ss) n)
IsWithin base v j ss _ = ⊤

-- each of these lines, which stand behind those, is such
abbrev pub AreWithin : Base → Images → Work → List Shown → List Shown → Type 0
AreWithin base v j past [] = ⊤
AreWithin base v j past (l ∷ ls) = IsWithin base v j past l × AreWithin base v j (past ++ l ∷ []) ls
