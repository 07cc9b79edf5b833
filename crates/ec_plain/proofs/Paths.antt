-- The last name of a path, and calls on paths that have one.
use Rattle.std.proofs.Common.{◌≡◌, ℕ, suc, ◌-◌, ◌≤◌, List, [], ◌∷◌, length, get_or, refl, ◌∙◌, arith}
use Rattle.std.specs.Prelude.{Result, Ok, Err, IfOk}
use Rattle.ec_volume.specs.Volume.{Images}
use Rattle.ec_volume.specs.declared.image.Kind.{Kind}
use Rattle.ec_plain.specs.Walk.{Path, last_of}
use Rattle.ec_plain.specs.Plain.{on_entry, drop_in, plain_drop, rename_in, plain_rename}
use Rattle.ec_plain.specs.declared.call.Outcome.{Outcome}

pub last_get : (ns : List (List ℕ)) (x d : List ℕ) → 1 ≤ length ns → x ≡ get_or ns (length ns - 1) d → x ≡ last_of ns
last_get [] x d h e = absurd (omega arith)
last_get (n ∷ []) x d h e = e
last_get (n ∷ m ∷ ns) x d h e =
    let p : suc (suc (length ns)) - 1 ≡ suc (length ns) = omega arith in
    let q : suc (length ns) - 1 ≡ length ns = omega arith in
    last_get (m ∷ ns) x d (omega arith) (rw q (rw p at e))

pub same_ok : {E : Type 0} (r : Result Outcome E) (a b : Outcome) → a ≡ b → IfOk r (λ o. o ≡ a) → IfOk r (λ o. o ≡ b)
same_ok (Ok o) a b e h = h ∙ e
same_ok (Err f) a b e h = h

pub drops : (v : Images) (k : Kind) (p : Path) → 1 ≤ length p → plain_drop v k p ≡ on_entry v p (drop_in v k p)
drops v k [] h = absurd (omega arith)
drops v k (n ∷ ns) h = refl

pub renames_below : (v : Images) (p q : Path) → 1 ≤ length p → 1 ≤ length q → plain_rename v p q ≡ on_entry v p (rename_in v p q)
renames_below v [] q h g = absurd (omega arith)
renames_below v (a ∷ rest) [] h g = absurd (omega arith)
renames_below v (a ∷ rest) (b ∷ bs) h g = refl
