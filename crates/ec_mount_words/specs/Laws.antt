-- A path has one spelling, so words of a mount table have different paths.
use Rattle.std.proofs.Common.{◌≡◌, ◌≢◌, ◌∙◌, ℕ, zero, suc, ◌<◌, ◌≤◌, List, [], ◌∷◌, length, get_or, ap, sym, refl, arith, Bool, true, false, cond, Option, None, Some}
use Rattle.std.specs.Prelude.{map, if◌then◌else◌}
use Rattle.std.specs.List.{slice_split, onto_first, join_with_byte}
use Rattle.std.proofs.lemmas.Bool.{eqb-true}
use Rattle.std.proofs.lemmas.List.Splits.{join_with_byte-slice_split}
use Rattle.ec_base.specs.Names.{is_slash, names_fault, path_fault, path_names}
use Rattle.ec_base.specs.declared.name.PathFault.{PathFault}
use Rattle.ec_base.specs.declared.name.PathFault.TheVariants as unread
use Rattle.ec_words.specs.Rows.{Word}
use Rattle.ec_mount_words.specs.OfRoute.Conditions.{AreApart}
use Rattle.ec_mount_words.specs.OfRoute.Routes.{path_at}
use Rattle.ec_mount_words.specs.Mounts.{path_bytes, mount_path, IsMount, IsNew, AreAll}
use Rattle.ec_base.specs.SortedLaws.{not_None}

some_onto : (byte : ℕ) (parts : List (List ℕ)) → 1 ≤ length (onto_first byte parts)
some_onto byte [] = omega arith
some_onto byte (part ∷ parts) = omega arith

-- parts are there
some_part : (bytes : List ℕ) → 1 ≤ length (slice_split is_slash bytes)
some_part [] = omega arith
some_part (byte ∷ bytes) = elim (is_slash byte) as (λ b. 1 ≤ length (cond b ([] ∷ slice_split is_slash bytes) (onto_first byte (slice_split is_slash bytes)))) [ true ↦ omega arith | false ↦ some_onto byte (slice_split is_slash bytes) ]

none_split : (bytes : List ℕ) → [] ≡ slice_split is_slash bytes → ⊥
none_split bytes none = omega (arith, some_part bytes, ap (λ (l : List (List ℕ)). length l) none)

-- what was cut at slashes is one with what gave the same parts
same_parts : (one other : List ℕ) → slice_split is_slash one ≡ slice_split is_slash other → one ≡ other
same_parts one other same = sym (join_with_byte-slice_split 47 one) ∙ ap (λ (parts : List (List ℕ)). join_with_byte 47 parts) same ∙ join_with_byte-slice_split 47 other

open_root : (byte : ℕ) (later : Option PathFault) (b : Bool) → is_slash byte ≡ b → (if b then later else Some unread.NotRooted) ≡ None → byte ≡ 47
open_root byte later true is none = eqb-true byte 47 is
open_root byte later false is none = absurd (not_None none)

-- a path begins with a slash
rooted : (byte : ℕ) (bytes : List ℕ) → path_fault (byte ∷ bytes) ≡ None → byte ≡ 47
rooted byte bytes none = open_root byte (names_fault 0 (path_names (byte ∷ bytes))) (is_slash byte) refl none

pub spelled_once : (one other : List ℕ) → path_fault one ≡ None → path_fault other ≡ None → path_names one ≡ path_names other → one ≡ other
spelled_once [] other p q same = absurd (not_None p)
spelled_once (x ∷ xs) [] p q same = absurd (not_None q)
spelled_once (x ∷ []) (y ∷ []) p q same = ap (λ (b : ℕ). b ∷ []) (rooted x [] p ∙ sym (rooted y [] q))
spelled_once (x ∷ []) (y ∷ b ∷ bs) p q same = absurd (none_split (b ∷ bs) same)
spelled_once (x ∷ a ∷ us) (y ∷ []) p q same = absurd (none_split (a ∷ us) (sym same))
spelled_once (x ∷ a ∷ us) (y ∷ b ∷ bs) p q same =
    ap (λ (t : List ℕ). x ∷ t) (same_parts (a ∷ us) (b ∷ bs) same) ∙ ap (λ (t : ℕ). t ∷ b ∷ bs) (rooted x (a ∷ us) p ∙ sym (rooted y (b ∷ bs) q))

new_at : (path : List ℕ) (words : List Word) (i : ℕ) → IsNew path words → i < length words → path_bytes (get_or words i []) ≢ path
new_at path [] i new lt = absurd (omega (arith, lt))
new_at path (word ∷ words) zero new lt = new.0
new_at path (word ∷ words) (suc i) new lt = new_at path words i new.1 (omega (arith, lt))

pub mount_at : (words : List Word) (i : ℕ) → AreAll words → i < length words → IsMount (get_or words i [])
mount_at [] i all lt = absurd (omega (arith, lt))
mount_at (word ∷ words) zero all lt = all.0
mount_at (word ∷ words) (suc i) all lt = mount_at words i all.2 (omega (arith, lt))

one_word : (words : List Word) (i j : ℕ) → AreAll words → i < length words → j < length words → mount_path (get_or words i []) ≡ mount_path (get_or words j []) → i ≡ j
one_word [] i j all p q same = absurd (omega (arith, p))
one_word (word ∷ words) zero zero all p q same = refl
one_word (word ∷ words) zero (suc j) all p q same =
    let there : IsMount (get_or words j []) = mount_at words j all.2 (omega (arith, q)) in
    absurd (new_at (path_bytes word) words j all.1 (omega (arith, q)) (spelled_once (path_bytes (get_or words j [])) (path_bytes word) there.0 all.0.0 (sym same)))
one_word (word ∷ words) (suc i) zero all p q same =
    let there : IsMount (get_or words i []) = mount_at words i all.2 (omega (arith, p)) in
    absurd (new_at (path_bytes word) words i all.1 (omega (arith, p)) (spelled_once (path_bytes (get_or words i [])) (path_bytes word) there.0 all.0.0 same))
one_word (word ∷ words) (suc i) (suc j) all p q same = ap suc (one_word words i j all.2 (omega (arith, p)) (omega (arith, q)) same)

path_in : (words : List Word) (i : ℕ) → path_at (map mount_path words) i ≡ mount_path (get_or words i [])
path_in [] i = refl
path_in (word ∷ words) zero = refl
path_in (word ∷ words) (suc i) = path_in words i

paths_in : (words : List Word) → length (map mount_path words) ≡ length words
paths_in [] = refl
paths_in (word ∷ words) = ap suc (paths_in words)

pub mounts_apart : (words : List Word) → AreAll words → AreApart (map mount_path words)
mounts_apart words all i j p q same =
    one_word words i j all (omega (arith, p, paths_in words)) (omega (arith, q, paths_in words)) (sym (path_in words i) ∙ same ∙ path_in words j)
