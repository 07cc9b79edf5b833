-- What is found in a directory's entries behind a new one or without an old one, and which images show entries.
use Rattle.std.proofs.Common.{◌≡◌, refl, sym, ap, subst, ◌∙◌, arith, ℕ, suc, T, Bool, true, false, not, ◌==◌, ◌&&◌, cond, List, [], ◌∷◌, Option, Some, None}
use Rattle.std.specs.Prelude.{is_none, length}
use Rattle.std.proofs.lemmas.Bool.{and_parts, and_from, eqb-true}
use Rattle.std.specs.Ordering.{is_eq}
use Rattle.std.specs.Cmp.{eq_by_cmp_equiv, tied_itself}
use Rattle.std.specs.Cmp.Lexicographic.{nat_list_cmp_total}
use Rattle.std.specs.FinMap.{nat_cmp-IsAntisymmetric, slice_cmp-IsAntisymmetric, is_sorted}
use Rattle.std.specs.FinMap.Entries.{find-put, is_sorted-put, is_sorted-where_key}
use Rattle.std.specs.declared.cmp.Ordering.{Ordering}
use Rattle.std.specs.declared.cmp.Ordering.TheVariants.{Less, Equal, Greater}
use Rattle.ec_base.specs.SortedLaws.{find-without}
use Rattle.ec_volume.specs.Entries.{Entries, by_bytes, same_name, entry, with_entry, without_entry}
use Rattle.ec_volume.specs.Image.{is_gone, is_dir, is_id, is_kind, is_bare, entries_of, with_entries, new_object}
use Rattle.ec_volume.specs.declared.image.Image.{Image}
use Rattle.ec_volume.specs.declared.image.Image.TheVariants.{Gone, File, Dir}
use Rattle.ec_volume.specs.declared.image.Kind.{Kind}
use Rattle.ec_volume.specs.declared.image.Kind.TheVariants as kind
use Rattle.ec_base.proofs.Numbers.{same-self as same_number}
use Rattle.ec_base.proofs.Bools.{on as holds, is-true}

-- Names.

pub same_name-self : (n : List ℕ) → same_name n n ≡ true
same_name-self n = ap is_eq (tied_itself nat_list_cmp_total n)

ties : (r : Ordering) → is_eq r ≡ true → r ≡ Equal
ties Less h = absurd (holds h)
ties Equal h = refl
ties Greater h = absurd (holds h)

pub same_name-is : (m n : List ℕ) → same_name m n ≡ true → m ≡ n
same_name-is m n h = slice_cmp-IsAntisymmetric nat_cmp-IsAntisymmetric m n (ties (by_bytes m n) h)

pub same_name-swapped : (m n : List ℕ) → same_name m n ≡ same_name n m
same_name-swapped m n = (eq_by_cmp_equiv nat_list_cmp_total).symm m n

-- the entry n of the object d stands at the place (e, m)
abbrev pub at : ℕ → List ℕ → ℕ → List ℕ → Bool
at e m d n = (d == e) && same_name n m

pub at-is : (e : ℕ) (m : List ℕ) (d : ℕ) (n : List ℕ) → at e m d n ≡ true → (d ≡ e) × (n ≡ m)
at-is e m d n h = let p = and_parts (d == e) (same_name n m) h in (eqb-true d e p.0, same_name-is n m p.1)

pub at-self : (e : ℕ) (m : List ℕ) → at e m e m ≡ true
at-self e m = and_from (e == e) (same_name m m) (same_number e) (same_name-self m)

pub at-from : (e : ℕ) (m : List ℕ) (d : ℕ) (n : List ℕ) → d ≡ e → n ≡ m → at e m d n ≡ true
at-from e m d n p q = subst (λ x. at e m x n ≡ true) (sym p) (subst (λ x. at e m e x ≡ true) (sym q) (at-self e m))

-- What is found.

pub found-with : (es : Entries) (m : List ℕ) (o : ℕ) (n : List ℕ) → entry (with_entry es m o) n ≡ cond (same_name n m) (Some o) (entry es n)
found-with es m o n = find-put by_bytes nat_list_cmp_total n m o es

pub found-without : (es : Entries) (m n : List ℕ) → entry (without_entry es m) n ≡ cond (same_name n m) None (entry es n)
found-without es m n = find-without by_bytes nat_list_cmp_total n m es ∙ ap (λ b. cond b None (entry es n)) (same_name-swapped m n)

pub sorted-with : (es : Entries) (m : List ℕ) (o : ℕ) → T (is_sorted by_bytes es) → T (is_sorted by_bytes (with_entry es m o))
sorted-with es m o h = is_sorted-put by_bytes nat_list_cmp_total m o es h

pub sorted-without : (es : Entries) (m : List ℕ) → T (is_sorted by_bytes es) → T (is_sorted by_bytes (without_entry es m))
sorted-without es m h = is_sorted-where_key by_bytes (λ x. not (same_name m x)) es h

pub no_entry : {P : Type 0} (o : ℕ) → None ≡ Some o → P
no_entry o e = absurd (apart e)
  where
    apart : None ≡ Some o → ⊥
    apart e = cc

pub none-is : (f : Option ℕ) → T (is_none f) → f ≡ None
none-is None h = refl
none-is (Some o) h = absurd h

pub id-is : (o : ℕ) (f : Option ℕ) → T (is_id o f) → f ≡ Some o
id-is o None h = absurd h
id-is o (Some p) h = ap Some (sym (eqb-true o p (is-true (o == p) h)))

pub id-from : (o : ℕ) (f : Option ℕ) → f ≡ Some o → is_id o f ≡ true
id-from o f e = subst (λ x. is_id o x ≡ true) (sym e) (same_number o)

-- Images.

pub entries-with : (g : Entries → Entries) (i : Image) → T (is_dir i) → entries_of (with_entries g i) ≡ g (entries_of i)
entries-with g Gone h = absurd h
entries-with g (File m s w bs) h = absurd h
entries-with g (Dir m s w es) h = refl

pub dir-with : (g : Entries → Entries) (i : Image) → is_dir (with_entries g i) ≡ is_dir i
dir-with g Gone = refl
dir-with g (File m s w bs) = refl
dir-with g (Dir m s w es) = refl

pub gone-with : (g : Entries → Entries) (i : Image) → is_gone (with_entries g i) ≡ is_gone i
gone-with g Gone = refl
gone-with g (File m s w bs) = refl
gone-with g (Dir m s w es) = refl

pub entries-gone : (i : Image) → T (is_gone i) → entries_of i ≡ []
entries-gone Gone h = refl
entries-gone (File m s w bs) h = absurd h
entries-gone (Dir m s w es) h = absurd h

pub entries-new : (k : Kind) → entries_of (new_object k) ≡ []
entries-new kind.File = refl
entries-new kind.Dir = refl

pub live-new : (k : Kind) → T (not (is_gone (new_object k)))
live-new kind.File = tt
live-new kind.Dir = tt

pub dir-live : (i : Image) → T (is_dir i) → T (not (is_gone i))
dir-live Gone h = absurd h
dir-live (File m s w bs) h = absurd h
dir-live (Dir m s w es) h = tt

none-left : (es : Entries) → T (length es == 0) → es ≡ []
none-left [] h = refl
none-left (e ∷ es) h = absurd (no (length es) h)
  where
    no : (n : ℕ) → T (suc n == 0) → ⊥
    no n h = grind arith

pub entries-bare : (k : Kind) (i : Image) → T (is_bare k i) → entries_of i ≡ []
entries-bare k i h = none-left (entries_of i) (later (is_kind k i) (length (entries_of i) == 0) h)
  where
    later : (a b : Bool) → T (a && b) → T b
    later true b h = h
    later false b h = absurd h
