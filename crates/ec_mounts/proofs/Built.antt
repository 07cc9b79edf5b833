-- A table that is made from a list of volumes, one after another.
use Rattle.std.proofs.Common.{◌≡◌, ◌+◌, ◌<◌, ◌≤◌, ℕ, suc, List, [], ◌∷◌, ◌++◌, length, slice_index_or, refl, sym, ap, ◌∙◌, subst, append_assoc, append-nil, arith}
use Rattle.std.specs.Prelude.{map}
use Rattle.std.specs.List.{All}
use Rattle.std.proofs.lemmas.List.{length-append, length-map, map-append}
use Rattle.ec_lock.specs.declared.types.Pass.{Pass}
use Rattle.ec_lock.specs.declared.types.TracedLock.{TracedLock}
use Rattle.ec_clerknode.specs.declared.state.Node.{Node}
use Rattle.ec_clerknode.specs.declared.step.Step.{Step}
use Rattle.ec_mounts.specs.Mounts.{AreSeated}

pub moved : {A B : Type 0} (f : A → B) (old new whole : List B) (x : A) (now rest : List A) → new ≡ old ++ f x ∷ [] → now ≡ x ∷ rest → old ++ map f now ≡ whole → new ++ map f rest ≡ whole
moved f old new whole x now rest longer next h = ap (λ l. l ++ map f rest) longer ∙ (append_assoc old (f x ∷ []) (map f rest) ∙ (ap (λ l. old ++ map f l) (sym next) ∙ h))

pub moved_all : {A B : Type 0} (f : A → B) (done whole : List B) (rest : List A) → rest ≡ [] → done ++ map f rest ≡ whole → done ≡ whole
moved_all f done whole rest none h = sym (append-nil done) ∙ (ap (λ l. done ++ map f l) (sym none) ∙ h)

pub map_push : {A B : Type 0} (f : A → B) (old new : List A) (x : A) → new ≡ old ++ x ∷ [] → map f new ≡ map f old ++ f x ∷ []
map_push f old new x longer = ap (map f) longer ∙ map-append f old (x ∷ [])

pub all_first : {A : Type 0} (P : A → Type 0) (now rest : List A) (x : A) → now ≡ x ∷ rest → All P now → P x
all_first P now rest x next all = subst (All P) next all 0 x (omega arith)

pub all_later : {A : Type 0} (P : A → Type 0) (now rest : List A) (x : A) → now ≡ x ∷ rest → All P now → All P rest
all_later P now rest x next all k d l = subst (All P) next all (suc k) d (omega (arith, l))

pub seated_none : {L C S : Type 0} (lock_of : C → TracedLock (Node L) Step) (pass_of : S → Pass (Node L) Step) (clerks : List C) (parts : List S) → clerks ≡ [] → parts ≡ [] → AreSeated (map lock_of clerks) (map pass_of parts)
seated_none lock_of pass_of [] [] e n = tt
seated_none lock_of pass_of [] (p ∷ parts) e n = absurd (omega (arith, ap length n))
seated_none lock_of pass_of (c ∷ clerks) parts e n = absurd (omega (arith, ap length e))

-- so many were moved
pub many_moved : {A B : Type 0} (f : A → B) (done : List B) (rest whole : List A) → done ++ map f rest ≡ map f whole → length done ≤ length whole
many_moved f done rest whole h = omega (arith, sym (length-append done (map f rest)) ∙ (ap length h ∙ length-map whole f))

-- both lists are longer by one
pub both_longer : {A B : Type 0} (xs xs_more : List A) (ys ys_more : List B) (x : A) (y : B) → xs_more ≡ xs ++ x ∷ [] → ys_more ≡ ys ++ y ∷ [] → length xs ≡ length ys → length xs_more ≡ length ys_more
both_longer xs xs_more ys ys_more x y e f same = omega (arith, ap length e, length-append xs (x ∷ []), ap length f, length-append ys (y ∷ []), same)

pub none_where : {A : Type 0} (xs : List A) (n : ℕ) → n ≡ length xs → n ≡ 0 → xs ≡ []
none_where [] n e z = refl
none_where (x ∷ xs) n e z = absurd (omega (arith, e, z))
