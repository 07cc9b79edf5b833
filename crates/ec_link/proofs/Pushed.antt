-- One happening more.
use Rattle.std.proofs.Common.{◌≡◌, ℕ, ◌+◌, List, [], ◌∷◌, ◌++◌, refl, sym, ap, ◌∙◌, arith, append_assoc, append-nil}
use Rattle.ec_link.specs.declared.happenings.Happening.{Happening}
use Rattle.ec_link.specs.declared.happenings.Happenings.{Happenings}
use Rattle.ec_link.specs.Links.{Heard}
use Rattle.ec_link.specs.Happenings.{fault_at, total, each}
use Rattle.ec_link.specs.HappeningBodies.{close_at, given_at, got_at, More}

pub total-push : {A : Type 0} (f : A → ℕ) (xs : List A) (x : A) → total f (xs ++ x ∷ []) ≡ total f xs + f x
total-push f [] x = omega arith
total-push f (y ∷ ys) x = omega (arith, total-push f ys x)

pub each-push : {A B : Type 0} (f : A → List B) (xs : List A) (x : A) → each f (xs ++ x ∷ []) ≡ each f xs ++ f x
each-push f [] x = append-nil (f x)
each-push f (y ∷ ys) x = ap (λ l. f y ++ l) (each-push f ys x) ∙ sym (append_assoc (f y) (each f ys) (f x))

pub more_by : (old new : Happenings) (x : Happening) → new.trace.items ≡ old.trace.items ++ x ∷ [] → More old new (fault_at x) (close_at x) (given_at x) (got_at x)
more_by old new x is = record {
  faults = ap (total fault_at) is ∙ total-push fault_at old.trace.items x;
  closes = ap (total close_at) is ∙ total-push close_at old.trace.items x;
  given = ap (each given_at) is ∙ each-push given_at old.trace.items x;
  got = ap (each got_at) is ∙ each-push got_at old.trace.items x;
}
