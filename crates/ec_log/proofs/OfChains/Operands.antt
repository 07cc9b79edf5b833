-- Members of the operands of a move between directories.
use Rattle.std.proofs.Common.{◌≡◌, refl, ◌∙◌, ℕ, Bool, false, List, ◌∷◌, ◌++◌}
use Rattle.std.specs.Prelude.{◌==◌, not, ◌||◌}
use Rattle.std.specs.List.{filter}
use Rattle.std.proofs.lemmas.List.Folds.{list_any-append}
use Rattle.ec_volume.specs.Update.{member}
use Rattle.ec_volume.proofs.Distinct.{member-others}

pub beside : (id dir into obj : ℕ) (vs up : List ℕ) (r : Bool) → r ≡ (id == into || (id == obj || (member id vs || member id up))) → (id == dir) ≡ false
    → r ≡ member id (dir ∷ into ∷ obj ∷ vs ++ filter (λ o. not (o == dir)) up)
beside id dir into obj vs up r is other =
    is
    ∙ rw (other, list_any-append (λ p. id == p) vs (filter (λ o. not (o == dir)) up), member-others dir id up other) refl
