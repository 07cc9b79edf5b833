-- Passes and the locks beside them, place by place.
use Rattle.std.proofs.Common.{◌≡◌, ◌<◌, ℕ, zero, suc, List, [], ◌∷◌, ◌++◌, length, Option, Some, None, slice_index_or, refl, sym, ap, ◌∙◌, subst, arith}
use Rattle.std.specs.Prelude.{map, slice_get, slice_set}
use Rattle.ec_lock.specs.PassViews.{IsPassOf}
use Rattle.ec_lock.specs.declared.types.Pass.{Pass}
use Rattle.ec_lock.specs.declared.types.TracedLock.{TracedLock}
use Rattle.ec_clerknode.specs.declared.state.Node.{Node}
use Rattle.ec_clerknode.specs.declared.step.Step.{Step}
use Rattle.ec_mounts.specs.Mounts.{AreSeated}
use Rattle.ec_mounts.specs.Parts.{IsSeatedAt}

pub some_is : {A : Type 0} {a b : A} → Some a ≡ Some b → a ≡ b
some_is {a = a} e = ap (λ o. elim o [ None ↦ a | Some w ↦ w ]) e

abbrev pub IsNothing : {A : Type 0} → Option A → Type 0
IsNothing None = Unit {0}
IsNothing (Some x) = ⊥

-- what is found at a place of a list that was mapped
pub found : {S T : Type 0} (f : S → T) (xs : List S) (i : ℕ) (v : T) → slice_get (map f xs) i ≡ Some v → (x : S) × (i < length xs) × ((d : S) → slice_index_or xs i d ≡ x) × (f x ≡ v)
found f [] i v e = absurd (subst IsNothing e tt)
found f (x ∷ xs) zero v e = (x, omega arith, λ d. refl, some_is e)
found f (x ∷ xs) (suc i) v e =
    let rest = found f xs i v e in (rest.0, omega (arith, rest.1), rest.2, rest.3)

module _ {L C S : Type 0} (lock_of : C → TracedLock (Node L) Step) (pass_of : S → Pass (Node L) Step) where
  pub same_length : (clerks : List C) (parts : List S) → AreSeated (map lock_of clerks) (map pass_of parts) → length parts ≡ length clerks
  same_length [] [] are = refl
  same_length [] (part ∷ parts) are = absurd are
  same_length (clerk ∷ clerks) [] are = absurd are
  same_length (clerk ∷ clerks) (part ∷ parts) are = ap suc (same_length clerks parts are.1)

  pub seated_at : (clerks : List C) (parts : List S) (i : ℕ) (d : S) → AreSeated (map lock_of clerks) (map pass_of parts) → i < length parts → IsSeatedAt lock_of clerks i (pass_of (slice_index_or parts i d))
  seated_at [] [] i d are l = absurd (omega (arith, l))
  seated_at [] (part ∷ parts) i d are l = absurd are
  seated_at (clerk ∷ clerks) [] i d are l = absurd are
  seated_at (clerk ∷ clerks) (part ∷ parts) zero d are l = (clerk, refl, are.0)
  seated_at (clerk ∷ clerks) (part ∷ parts) (suc i) d are l = seated_at clerks parts i d are.1 (omega (arith, l))

  pub seated_all : (clerks : List C) (parts : List S) → length parts ≡ length clerks → ((i : ℕ) (d : S) → i < length parts → IsSeatedAt lock_of clerks i (pass_of (slice_index_or parts i d))) → AreSeated (map lock_of clerks) (map pass_of parts)
  seated_all [] [] many each = tt
  seated_all [] (part ∷ parts) many each = absurd (omega (arith, many))
  seated_all (clerk ∷ clerks) [] many each = absurd (omega (arith, many))
  seated_all (clerk ∷ clerks) (part ∷ parts) many each =
      let first = each 0 part (omega arith) in (
        subst (λ c. IsPassOf (lock_of c) (pass_of part)) (sym (some_is first.1)) first.2,
        seated_all clerks parts (omega (arith, many)) (λ i d l. each (suc i) d (omega (arith, l))),
      )

  pub seated_snoc : (clerks : List C) (parts : List S) (clerk : C) (part : S) → AreSeated (map lock_of clerks) (map pass_of parts) → IsPassOf (lock_of clerk) (pass_of part) → AreSeated (map lock_of (clerks ++ clerk ∷ [])) (map pass_of (parts ++ part ∷ []))
  seated_snoc [] [] clerk part are is = (is, tt)
  seated_snoc [] (p ∷ ps) clerk part are is = absurd are
  seated_snoc (c ∷ cs) [] clerk part are is = absurd are
  seated_snoc (c ∷ cs) (p ∷ ps) clerk part are is = (are.0, seated_snoc cs ps clerk part are.1 is)

  pub seated_last : (clerks : List C) (parts : List S) (clerk : C) (part : S) → AreSeated (map lock_of (clerks ++ clerk ∷ [])) (map pass_of (parts ++ part ∷ [])) → AreSeated (map lock_of clerks) (map pass_of parts) × IsPassOf (lock_of clerk) (pass_of part)
  seated_last [] [] clerk part are = (tt, are.0)
  seated_last [] (p ∷ []) clerk part are = absurd are.1
  seated_last [] (p ∷ q ∷ ps) clerk part are = absurd are.1
  seated_last (c ∷ []) [] clerk part are = absurd are.1
  seated_last (c ∷ d ∷ cs) [] clerk part are = absurd are.1
  seated_last (c ∷ cs) (p ∷ ps) clerk part are = let rest = seated_last cs ps clerk part are.1 in ((are.0, rest.0), rest.1)

  pub seated_longer : (clerks clerks_more : List C) (parts parts_more : List S) (clerk : C) (part : S) → clerks_more ≡ clerks ++ clerk ∷ [] → parts_more ≡ parts ++ part ∷ [] → AreSeated (map lock_of clerks) (map pass_of parts) → IsPassOf (lock_of clerk) (pass_of part)
      → AreSeated (map lock_of clerks_more) (map pass_of parts_more)
  seated_longer clerks clerks_more parts parts_more clerk part e f are is =
      subst (λ l. AreSeated (map lock_of clerks_more) (map pass_of l)) (sym f) (subst (λ l. AreSeated (map lock_of l) (map pass_of (parts ++ part ∷ []))) (sym e) (seated_snoc clerks parts clerk part are is))

  pub seated_popped : (clerks clerks_left : List C) (parts parts_left : List S) (clerk : C) (part : S) → clerks ≡ clerks_left ++ clerk ∷ [] → parts ≡ parts_left ++ part ∷ [] → AreSeated (map lock_of clerks) (map pass_of parts)
      → AreSeated (map lock_of clerks_left) (map pass_of parts_left) × IsPassOf (lock_of clerk) (pass_of part)
  seated_popped clerks clerks_left parts parts_left clerk part e f are =
      seated_last clerks_left parts_left clerk part (subst (λ l. AreSeated (map lock_of l) (map pass_of (parts_left ++ part ∷ []))) e (subst (λ l. AreSeated (map lock_of clerks) (map pass_of l)) f are))

-- an element of a list that has some
pub any_of : {T : Type 0} (xs : List T) (i : ℕ) → i < length xs → T
any_of [] i l = absurd (omega (arith, l))
any_of (x ∷ xs) i l = x

-- what is found at a place is within the list
pub get_inside : {T : Type 0} (xs : List T) (i : ℕ) (x : T) → slice_get xs i ≡ Some x → i < length xs
get_inside [] i x e = absurd (subst IsNothing e tt)
get_inside (y ∷ xs) zero x e = omega arith
get_inside (y ∷ xs) (suc i) x e = omega (arith, get_inside xs i x e)

pub get_here : {T : Type 0} (xs : List T) (i : ℕ) (x : T) → i < length xs → x ≡ slice_index_or xs i x → slice_get xs i ≡ Some x
get_here [] i x l e = absurd (omega (arith, l))
get_here (y ∷ xs) zero x l e = ap (λ z. Some z) (sym e)
get_here (y ∷ xs) (suc i) x l e = get_here xs i x (omega (arith, l)) e

module _ {L C S : Type 0} (lock_of : C → TracedLock (Node L) Step) (pass_of : S → Pass (Node L) Step) where
  -- the pass at a place is of the lock there
  pub seated_here : (clerks : List C) (parts : List S) (i : ℕ) (clerk : C) (d : S) → AreSeated (map lock_of clerks) (map pass_of parts) → i < length parts → slice_get clerks i ≡ Some clerk → IsPassOf (lock_of clerk) (pass_of (slice_index_or parts i d))
  seated_here clerks parts i clerk d are l at =
      let seat = seated_at lock_of pass_of clerks parts i d are l in
      subst (λ c. IsPassOf (lock_of c) (pass_of (slice_index_or parts i d))) (some_is (sym seat.1 ∙ at)) seat.2

  -- the part at one place is exchanged for another one with a pass of its lock
  pub seated_put : (clerks : List C) (parts : List S) (i : ℕ) (clerk : C) (part : S) → AreSeated (map lock_of clerks) (map pass_of parts) → slice_get clerks i ≡ Some clerk → IsPassOf (lock_of clerk) (pass_of part) → AreSeated (map lock_of clerks) (map pass_of (slice_set parts i part))
  seated_put [] [] i clerk part are at is = tt
  seated_put [] (p ∷ parts) i clerk part are at is = absurd are
  seated_put (c ∷ clerks) [] i clerk part are at is = absurd are
  seated_put (c ∷ clerks) (p ∷ parts) zero clerk part are at is = (subst (λ k. IsPassOf (lock_of k) (pass_of part)) (sym (some_is at)) is, are.1)
  seated_put (c ∷ clerks) (p ∷ parts) (suc i) clerk part are at is = (are.0, seated_put clerks parts i clerk part are.1 at is)
