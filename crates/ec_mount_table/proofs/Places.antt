-- Facts at each place of a list.
use Rattle.std.proofs.Common.{◌≡◌, ◌⊎◌, ◌<◌, ℕ, zero, suc, List, [], ◌∷◌, ◌++◌, length, get_or, Some, refl, sym, ap, subst, inl, inr, ⊎_elim, arith}
use Rattle.std.specs.Prelude.{map, slice_get}
use Rattle.std.specs.List.{All}
use Rattle.ec_mount_table.specs.Runs.{Each}
use Rattle.ec_clerknode.proofs.Lists.{get_last}
use Rattle.ec_mounts.proofs.Seats.{IsNothing, some_is}

-- what is at a place of a list with one more at its end
pub get_snoc : {A : Type 0} (xs : List A) (y x : A) (i : ℕ) → slice_get (xs ++ y ∷ []) i ≡ Some x → (slice_get xs i ≡ Some x) ⊎ ((i ≡ length xs) × (y ≡ x))
get_snoc [] y x zero e = inr (refl, some_is e)
get_snoc [] y x (suc i) e = absurd (subst IsNothing e tt)
get_snoc (z ∷ xs) y x zero e = inl e
get_snoc (z ∷ xs) y x (suc i) e = ⊎_elim (λ (h : slice_get xs i ≡ Some x). inl h) (λ (h : (i ≡ length xs) × (y ≡ x)). inr (ap suc h.0, h.1)) (get_snoc xs y x i e)

pub each_none : {A : Type 0} (xs : List A) (P : ℕ → A → Type 0) → xs ≡ [] → Each xs P
each_none xs P none i x e = absurd (subst IsNothing (subst (λ l. slice_get l i ≡ Some x) none e) tt)

pub each_snoc : {A : Type 0} (xs : List A) (y : A) (P : ℕ → A → Type 0) → Each xs P → P (length xs) y → Each (xs ++ y ∷ []) P
each_snoc xs y P all one i x e =
    ⊎_elim (λ (h : slice_get xs i ≡ Some x). all i x h) (λ (h : (i ≡ length xs) × (y ≡ x)). subst (λ k. P k x) (sym h.0) (subst (P (length xs)) h.1 one)) (get_snoc xs y x i e)

pub each_cons : {A : Type 0} (x : A) (xs : List A) (P : ℕ → A → Type 0) → P 0 x → Each xs (λ i. P (suc i)) → Each (x ∷ xs) P
each_cons x xs P one all zero y e = subst (P 0) (some_is e) one
each_cons x xs P one all (suc i) y e = all i y e

-- what is at a place of one of two lists of one length, and of the other
pub get_other : {A B : Type 0} (xs : List A) (ys : List B) (i : ℕ) (y : B) → length ys ≡ length xs → slice_get ys i ≡ Some y → (x : A) × (slice_get xs i ≡ Some x)
get_other xs [] i y many e = absurd (subst IsNothing e tt)
get_other [] (z ∷ ys) i y many e = absurd (omega (arith, many))
get_other (x ∷ xs) (z ∷ ys) zero y many e = (x, refl)
get_other (x ∷ xs) (z ∷ ys) (suc i) y many e = get_other xs ys i y (omega (arith, many)) e

pub get_at : {A : Type 0} (xs : List A) (i : ℕ) → i < length xs → (x : A) × (slice_get xs i ≡ Some x)
get_at [] i l = absurd (omega (arith, l))
get_at (x ∷ xs) zero l = (x, refl)
get_at (x ∷ xs) (suc i) l = get_at xs i (omega (arith, l))

-- what is at a place of the front of a list
pub get_left : {A : Type 0} (xs ys : List A) (i : ℕ) (x : A) → slice_get xs i ≡ Some x → slice_get (xs ++ ys) i ≡ Some x
get_left [] ys i x e = absurd (subst IsNothing e tt)
get_left (z ∷ xs) ys zero x e = e
get_left (z ∷ xs) ys (suc i) x e = get_left xs ys i x e

pub each_left : {A : Type 0} (whole xs ys : List A) (P : ℕ → A → Type 0) → whole ≡ xs ++ ys → Each whole P → Each xs P
each_left whole xs ys P is all i x e = subst (λ l. Each l P) is all i x (get_left xs ys i x e)

pub each_last : {A : Type 0} (whole xs : List A) (x : A) (P : ℕ → A → Type 0) → whole ≡ xs ++ x ∷ [] → Each whole P → P (length xs) x
each_last whole xs x P is all = subst (λ l. Each l P) is all (length xs) x (get_last xs x)

-- so it is of all
get_or_at : {A : Type 0} (xs : List A) (i : ℕ) (d : A) → i < length xs → slice_get xs i ≡ Some (get_or xs i d)
get_or_at [] i d l = absurd (omega (arith, l))
get_or_at (x ∷ xs) zero d l = refl
get_or_at (x ∷ xs) (suc i) d l = get_or_at xs i d (omega (arith, l))

pub all_of_each : {A : Type 0} (P : A → Type 0) (xs : List A) → Each xs (λ place x. P x) → All P xs
all_of_each P xs each i d l = each i (get_or xs i d) (get_or_at xs i d l)

-- what was mapped
pub each_mapped : {A B : Type 0} (f : A → B) (xs : List A) (P : ℕ → B → Type 0) → Each xs (λ place x. P place (f x)) → Each (map f xs) P
each_mapped f [] P each i x e = absurd (subst IsNothing e tt)
each_mapped f (y ∷ xs) P each zero x e = subst (P 0) (some_is e) (each 0 y refl)
each_mapped f (y ∷ xs) P each (suc i) x e = each_mapped f xs (λ k. P (suc k)) (λ k z g. each (suc k) z g) i x e
