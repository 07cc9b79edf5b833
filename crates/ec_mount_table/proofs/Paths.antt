-- The mount paths of words, one after another.
use Rattle.std.proofs.Common.{◌≡◌, ◌+◌, ◌<◌, ◌≤◌, ℕ, zero, suc, List, [], ◌∷◌, ◌++◌, length, take, get_or, sym, ap, ◌∙◌, subst, arith}
use Rattle.std.specs.Prelude.{map}
use Rattle.std.proofs.lemmas.List.{map-append}
use Rattle.ec_plain.specs.Walk.{Path}
use Rattle.ec_mount_words.specs.Mounts.{AreAll, IsMount, mount_path}
use Rattle.ec_mount_table.proofs.Sofar.{take_all, take_next}

-- each word of a table has a path and an address
pub mount_here : {A : Type 0} (f : A → List ℕ) (xs : List A) (i : ℕ) (x : A) → AreAll (map f xs) → i < length xs → x ≡ get_or xs i x → IsMount (f x)
mount_here f [] i x all l is = absurd (omega (arith, l))
mount_here f (y ∷ xs) zero x all l is = subst (λ z. IsMount (f z)) (sym is) all.0
mount_here f (y ∷ xs) (suc i) x all l is = mount_here f xs i x all.2 (omega (arith, l)) is

module _ {A : Type 0} (f : A → List ℕ) (words : List A) where
  pub paths_more : (i : ℕ) (word : A) (old new : List Path) (path : Path) → i < length words → word ≡ get_or words i word → old ≡ map mount_path (map f (take i words)) → path ≡ mount_path (f word) → new ≡ old ++ path ∷ [] → new ≡ map mount_path (map f (take (i + 1) words))
  paths_more i word old new path l is had path_is longer =
      let done = take i words in
      longer ∙ (ap (λ t. t ++ path ∷ []) had ∙ (ap (λ p. map mount_path (map f done) ++ p ∷ []) path_is
      ∙ sym (ap (λ w. map mount_path (map f w)) (take_next words i word l is) ∙ (ap (map mount_path) (map-append f done (word ∷ [])) ∙ map-append mount_path (map f done) (f word ∷ [])))))

  pub paths_all : (i : ℕ) (table : List Path) → length words ≤ i → table ≡ map mount_path (map f (take i words)) → table ≡ map mount_path (map f words)
  paths_all i table l is = is ∙ ap (λ w. map mount_path (map f w)) (take_all words i l)
