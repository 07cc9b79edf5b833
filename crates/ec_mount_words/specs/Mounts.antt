-- The words of a mount table, `mounts CLERK PATH=ADDR ..`.
use Rattle.std.specs.Prelude.{◌≡◌, ◌≢◌, ◌≤◌, ℕ, Bool, eqb, None, List, [], ◌∷◌, length, codes}
use Rattle.std.specs.List.{before_first, after_first}
use Rattle.ec_base.specs.Names.{path_fault, path_names}
use Rattle.ec_plain.specs.Walk.{Path}
use Rattle.ec_words.specs.Rows.{Word}
use Rattle.ec_words.specs.Spelling.{IsClerk}

abbrev pub is_equals : ℕ → Bool
is_equals byte = eqb byte 61

-- what stands before the first `=`, or all where there is none
abbrev pub path_bytes : Word → List ℕ
path_bytes word = before_first is_equals word

-- what stands behind the first `=`, or nothing where there is none
abbrev pub address_bytes : Word → List ℕ
address_bytes word = after_first is_equals word

abbrev pub mount_path : Word → Path
mount_path word = path_names (path_bytes word)

-- a path as it stands, `=`, and an address
abbrev pub IsMount : Word → Type 0
IsMount word = (path_fault (path_bytes word) ≡ None) × (1 ≤ length (address_bytes word))

-- none of the words has the path of this one; a path has one spelling
abbrev pub IsNew : List ℕ → List Word → Type 0
IsNew path [] = Unit {0}
IsNew path (word ∷ words) = (path_bytes word ≢ path) × IsNew path words

-- words with different paths
abbrev pub AreAll : List Word → Type 0
AreAll [] = Unit {0}
AreAll (word ∷ words) = IsMount word × IsNew (path_bytes word) words × AreAll words

abbrev pub max_mounts : ℕ
max_mounts = 8

abbrev pub AreMounts : List Word → Type 0
AreMounts words = (1 ≤ length words) × (length words ≤ max_mounts) × AreAll words

-- a clerk's letter, and a word for each volume
abbrev pub SpellsMounts : List Word → ℕ → Type 0
SpellsMounts words c = (letter : Word) × (mounts : List Word) × (words ≡ codes "mounts" ∷ letter ∷ mounts) × IsClerk letter c × AreMounts mounts
