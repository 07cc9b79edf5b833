-- Operands that differ, and the object that goes, if any.
use Rattle.std.proofs.Common.{◌≡◌, refl, sym, ap, subst, ◌∙◌, inl, inr, ℕ, T, Bool, true, false, not, ◌==◌, ◌&&◌, List, [], ◌∷◌, ◌++◌, Option, Some, None}
use Rattle.std.proofs.lemmas.Bool.{cases_Bool, eqb-true, true≢false, or_left, or_right, or_from}
use Rattle.ec_volume.specs.Entries.{entry}
use Rattle.ec_volume.specs.Image.{is_dir, is_id, gives, yields, entries_of}
use Rattle.ec_volume.specs.Update.{distinct, member, listed}
use Rattle.ec_volume.specs.declared.image.Image.{Image}
use Rattle.std.specs.Prelude.{is_none}
use Rattle.ec_history.proofs.OfLaws.ForFormed.Entries.{id-is, none-is}
use Rattle.ec_base.proofs.Numbers.{same-self as same_number}
use Rattle.ec_base.proofs.Bools.{first as left, right}

pub apart : (x y : ℕ) (ys : List ℕ) → T (distinct (x ∷ ys)) → member y ys ≡ true → (y == x) ≡ false
apart x y ys d m = elim (cases_Bool (y == x)) [
  | inr e ↦ e
  | inl e ↦ absurd (true≢false (sym (subst (λ z. member z ys ≡ true) (eqb-true y x e) m) ∙ lacks_it (member x ys) (distinct ys) d))
]
  where
    lacks_it : (a b : Bool) → T (not a && b) → a ≡ false
    lacks_it true b h = absurd h
    lacks_it false b h = refl

pub member-first : (x : ℕ) (ys : List ℕ) → member x (x ∷ ys) ≡ true
member-first x ys = or_left (x == x) (member x ys) (same_number x)

pub member-next : (x y : ℕ) (ys : List ℕ) → member x ys ≡ true → member x (y ∷ ys) ≡ true
member-next x y ys m = or_right (x == y) (member x ys) m

pub distinct-rest : (x : ℕ) (ys : List ℕ) → T (distinct (x ∷ ys)) → T (distinct ys)
distinct-rest x ys d = right (not (member x ys)) (distinct ys) d

-- The object that goes is the one that the name stood for.

pub victim-member : (o : ℕ) (victim : Option ℕ) (ys : List ℕ) → victim ≡ Some o → member o (listed victim ++ ys) ≡ true
victim-member o victim ys e = subst (λ x. member o (listed x ++ ys) ≡ true) (sym e) (member-first o ys)

pub victim-listed : (o : ℕ) (victim : Option ℕ) → victim ≡ Some o → member o (listed victim) ≡ true
victim-listed o victim e = subst (λ x. member o (listed x) ≡ true) (sym e) (member-first o [])

pub listed-victim : (o : ℕ) (victim : Option ℕ) → member o (listed victim) ≡ true → victim ≡ Some o
listed-victim o None m = absurd (true≢false (sym m))
listed-victim o (Some p) m = elim (cases_Bool (o == p)) [
  | inl e ↦ ap Some (sym (eqb-true o p e))
  | inr e ↦ absurd (true≢false (sym m ∙ or_from (o == p) false e refl))
]

pub gives-is : (n : List ℕ) (o : ℕ) (i : Image) → T (gives n o i) → entry (entries_of i) n ≡ Some o
gives-is n o i h = id-is o (entry (entries_of i) n) (right (is_dir i) (is_id o (entry (entries_of i) n)) h)

pub gives-dir : (n : List ℕ) (o : ℕ) (i : Image) → T (gives n o i) → T (is_dir i)
gives-dir n o i h = left (is_dir i) (is_id o (entry (entries_of i) n)) h

pub yields-is : (n : List ℕ) (victim : Option ℕ) (i : Image) → T (yields n victim i) → entry (entries_of i) n ≡ victim
yields-is n None i h = none-is (entry (entries_of i) n) (right (is_dir i) (is_none (entry (entries_of i) n)) h)
yields-is n (Some o) i h = gives-is n o i h

pub yields-dir : (n : List ℕ) (victim : Option ℕ) (i : Image) → T (yields n victim i) → T (is_dir i)
yields-dir n None i h = left (is_dir i) (is_none (entry (entries_of i) n)) h
yields-dir n (Some o) i h = gives-dir n o i h
