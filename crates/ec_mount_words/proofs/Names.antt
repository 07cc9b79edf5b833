-- Names between slashes, one more at a time.
use Rattle.std.proofs.Common.{◌≡◌, ℕ, ◌+◌, ◌<◌, List, [], ◌∷◌, length, Bool, true, false, cond, Option, None, Some, refl, ap, sym, subst, ◌∙◌, arith}
use Rattle.std.specs.Prelude.{eqb, ltb, T, is_some, if◌then◌else◌}
use Rattle.std.specs.List.{position, slice_split, onto_first}
use Rattle.std.specs.Str.{is_utf8}
use Rattle.ec_base.specs.Limits.{max_name_bytes}
use Rattle.ec_base.specs.Names.{is_slash, is_bad, is_dots, name_fault, names_fault, or_later, IsName}
use Rattle.ec_base.specs.declared.name.NameFault.{NameFault}
use Rattle.ec_base.specs.declared.name.PathFault.{PathFault}
use Rattle.ec_base.specs.declared.name.NameFault.TheVariants as fault
use Rattle.ec_base.specs.declared.name.PathFault.TheVariants as unread

pub never : (b : Bool) → (b ≡ true → ⊥) → b ≡ false
never true h = absurd (h refl)
never false h = refl

-- what is left when no other fault is there
pub left : (bytes : List ℕ) (text : Bool) → false ≡ eqb (length bytes) 0 → false ≡ ltb max_name_bytes (length bytes) → None ≡ position is_bad bytes → false ≡ is_dots bytes → is_utf8 bytes ≡ text → name_fault bytes ≡ cond text None (Some fault.NotUtf8)
left bytes text some few good name utf = cc

pub not_none : {A : Type 0} {x : A} → Some x ≡ None → ⊥
not_none e = subst T (ap is_some e) tt

neither : (n : Option NameFault) (place : ℕ) (later : Option PathFault) → or_later place n later ≡ None → (n ≡ None) × (later ≡ None)
neither None place later is = (refl, is)
neither (Some f) place later is = absurd (not_none is)

opened : (before : ℕ) (part : List ℕ) (parts : List (List ℕ)) → before < 16 → names_fault before (part ∷ parts) ≡ or_later (before + 1) (name_fault part) (names_fault (before + 1) parts)
opened before part parts lt =
    let t : ltb before 16 ≡ true = grind (arith, lt) in
    ap (λ (b : Bool). if b then or_later (before + 1) (name_fault part) (names_fault (before + 1) parts) else Some unread.Deep) t

-- where no fault is found, the first part is a name, and there's none behind it
pub named : (before : ℕ) (part : List ℕ) (parts : List (List ℕ)) → before < 16 → names_fault before (part ∷ parts) ≡ None → IsName part × (names_fault (before + 1) parts ≡ None)
named before part parts lt none = neither (name_fault part) (before + 1) (names_fault (before + 1) parts) (sym (opened before part parts lt) ∙ none)

pub behind : (before : ℕ) (part : List ℕ) (parts : List (List ℕ)) → before < 16 → IsName part → names_fault before (part ∷ parts) ≡ names_fault (before + 1) parts
behind before part parts lt is = opened before part parts lt ∙ ap (λ (n : Option NameFault). or_later (before + 1) n (names_fault (before + 1) parts)) is

deep_onto : (byte : ℕ) (parts : List (List ℕ)) → names_fault 16 (onto_first byte parts) ≡ Some unread.Deep
deep_onto byte [] = refl
deep_onto byte (part ∷ parts) = refl

-- a further name is one too many
pub deep : (bytes : List ℕ) → names_fault 16 (slice_split is_slash bytes) ≡ Some unread.Deep
deep [] = refl
deep (byte ∷ bytes) = elim (is_slash byte) as (λ b. names_fault 16 (cond b ([] ∷ slice_split is_slash bytes) (onto_first byte (slice_split is_slash bytes))) ≡ Some unread.Deep) [ true ↦ refl | false ↦ deep_onto byte (slice_split is_slash bytes) ]
