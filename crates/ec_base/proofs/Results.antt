-- Lemmas on results.
use Rattle.std.specs.Prelude.{Result, Ok, Err, IfErr, OnOk}
use Rattle.std.proofs.Common.{◌≡◌, refl}

pub if-err : {A B : Type 0} (P Q : B → Type 0) (r : Result A B) → ((f : B) → P f → Q f) → IfErr r P → IfErr r Q
if-err P Q (Ok x) k h = h
if-err P Q (Err f) k h = k f h

pub taken-ok : {A B X : Type 0} (r : Result A B) → ((f : B) → r ≡ Err f → ⊥) → OnOk r X → X
taken-ok (Ok x) n h = h
taken-ok (Err f) n h = absurd (n f refl)
