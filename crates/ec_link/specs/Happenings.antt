-- What the happenings at a link come to: its counts, and the bodies that it gave and got.
use Rattle.std.specs.Prelude.{ℕ, ◌+◌, List, [], ◌∷◌, ◌++◌}
use Rattle.ec_link.specs.declared.happenings.Happening.{Happening}
use Rattle.ec_link.specs.declared.happenings.Happening.TheVariants as at
use Rattle.ec_link.specs.declared.happenings.Happenings.{Happenings}

abbrev pub fault_at : Happening → ℕ
fault_at at.Fault = 1
fault_at _ = 0

abbrev pub total : {A : Type 0} → (A → ℕ) → List A → ℕ
total f [] = 0
total f (x ∷ xs) = f x + total f xs

abbrev pub each : {A B : Type 0} → (A → List B) → List A → List B
each f [] = []
each f (x ∷ xs) = f x ++ each f xs

abbrev pub faults_in : Happenings → ℕ
faults_in h = total fault_at h.trace.items
