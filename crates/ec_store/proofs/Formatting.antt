-- What a crash leaves of a disk that is being formatted.
use Rattle.std.proofs.Common.{◌≡◌, ◌⊎◌, ℕ, ◌≤◌, Bool, true, false, List, [], ◌∷◌, length, refl, ap, subst, ◌∙◌, inl, inr, ⊎_elim}
use Rattle.std.specs.Prelude.{◌==◌}
use Rattle.std.proofs.lemmas.Bool.{cases_lt, eqb-true, eqb-false}
use Rattle.ec_disk.specs.Disk.{View, part}
use Rattle.ec_disk.specs.Effects.{LeavesOnly}
use Rattle.ec_durable.specs.declared.state.Durable.{Durable}
use Rattle.ec_journal.specs.OfLayout.Head.{first_word}
use Rattle.ec_journal.specs.OfLayout.Heads.{LiesIfWhole}
use Rattle.ec_journal.specs.OfLayout.Layout.{Layout, Lies}
use Rattle.ec_stands.specs.Stands.{StandsFor}
use Rattle.ec_stands.specs.Stands.{short_head, other_word}
use Rattle.ec_store.specs.Opening.{IsBadOrStands}
use Rattle.ec_store.proofs.Holding.{leaves_map}

same_or_not : (xs ys : List ℕ) → (xs ≡ ys) ⊎ (xs ≡ ys → ⊥)
same_or_not [] [] = inl refl
same_or_not [] (y ∷ ys) = inr (λ e. none e)
  where
    none : ◌≡◌ {A = List ℕ} [] (y ∷ ys) → ⊥
    none e = cc
same_or_not (x ∷ xs) [] = inr (λ e. none e)
  where
    none : ◌≡◌ {A = List ℕ} (x ∷ xs) [] → ⊥
    none e = cc
same_or_not (x ∷ xs) (y ∷ ys) = by (same_or_not xs ys) (x == y) refl
  where
    heads : x ∷ xs ≡ y ∷ ys → x ≡ y
    heads e = cc

    tails : x ∷ xs ≡ y ∷ ys → xs ≡ ys
    tails e = cc

    by : (xs ≡ ys) ⊎ (xs ≡ ys → ⊥) → (b : Bool) → (x == y) ≡ b → (x ∷ xs ≡ y ∷ ys) ⊎ (x ∷ xs ≡ y ∷ ys → ⊥)
    by rest true is = ⊎_elim (λ same. inl (ap (λ (n : ℕ). n ∷ xs) (eqb-true x y is) ∙ ap (λ (l : List ℕ). y ∷ l) same)) (λ other. inr (λ e. other (tails e))) rest
    by rest false is = inr (λ e. eqb-false x y is (heads e))

bad_or_stands : (l : Layout) (d : Durable) → ((image : List ℕ) → Lies image l → StandsFor image d) → (image : List ℕ) → LiesIfWhole l image → IsBadOrStands d image
bad_or_stands l d stands image whole = ⊎_elim (λ short. inl (0, short_head short refl)) long (cases_lt (length image) 16)
  where
    long : 16 ≤ length image → IsBadOrStands d image
    long le = ⊎_elim (λ is. inr (stands image (whole is))) (λ other. inl (0, other_word le other refl)) (same_or_not (part image 0 8) first_word)

pub format_leaves : (l : Layout) (d e : Durable) (old new : View) → d ≡ e → ((image : List ℕ) → Lies image l → StandsFor image d) → LeavesOnly old new (LiesIfWhole l) → LeavesOnly old new (IsBadOrStands e)
format_leaves l d e old new same stands leaves = subst (λ s. LeavesOnly old new (IsBadOrStands s)) same (leaves_map (LiesIfWhole l) (IsBadOrStands d) old new (bad_or_stands l d stands) leaves)
