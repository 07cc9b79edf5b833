-- The words of the program.
use Rattle.std.specs.Prelude.{◌≡◌, ◌⊎◌, ◌-◌, ◌^◌, ℕ, List, [], ◌∷◌, codes}
use Rattle.ec_words.specs.Spelling.{IsNumberIn, IsClerk}
use Rattle.ec_durable.specs.WellFormed.{least_max_objects, most_max_objects}
use Rattle.ec_drill.specs.Limits.{most_objects}
use Rattle.ec_mount_words.specs.Mounts.{SpellsMounts}
use Rattle.ec_echo.specs.declared.command.Command.{Command}
use Rattle.ec_echo.specs.declared.command.Command.TheVariants.{Drill, Check, Make, Soak, Serve, Mount, Leases, MountTable}

-- a word, and a number within these limits
abbrev pub IsNumbered : List ℕ → ℕ → ℕ → List (List ℕ) → ℕ → Type 0
IsNumbered text least most words n = (word : List ℕ) × (words ≡ text ∷ word ∷ []) × IsNumberIn least most word n

-- a word, and the greatest number of objects of a volume, which may be left out
abbrev pub IsOfVolume : List ℕ → List (List ℕ) → ℕ → Type 0
IsOfVolume text words most = ((words ≡ text ∷ []) × (most ≡ most_objects)) ⊎ IsNumbered text least_max_objects most_max_objects words most

-- It isn't empty, and doesn't begin with a hyphen.
abbrev pub IsAddress : List ℕ → Type 0
IsAddress [] = ⊥
IsAddress (first ∷ rest) = first ≡ 45 → ⊥

-- a word, an address, and a number within these limits
abbrev pub IsAddressed : List ℕ → ℕ → ℕ → List (List ℕ) → ℕ → Type 0
IsAddressed text least most words n = (addr : List ℕ) × (word : List ℕ) × (words ≡ text ∷ addr ∷ word ∷ []) × IsAddress addr × IsNumberIn least most word n

-- a word, an address, and the letter of a clerk
abbrev pub IsOfClerk : List ℕ → List (List ℕ) → ℕ → Type 0
IsOfClerk text words c = (addr : List ℕ) × (word : List ℕ) × (words ≡ text ∷ addr ∷ word ∷ []) × IsAddress addr × IsClerk word c

-- a word, how long Leases run, and by how much clocks differ at most, which is less
abbrev pub IsOfLeases : List ℕ → List (List ℕ) → ℕ → ℕ → Type 0
IsOfLeases text words l e = (length : List ℕ) × (most : List ℕ) × (words ≡ text ∷ length ∷ most ∷ []) × IsNumberIn 1 1000000 length l × IsNumberIn 0 (l - 1) most e

-- the forms of words, and what each asks for
abbrev pub Spells : List (List ℕ) → Command → Type 0
Spells words (Drill most) = IsOfVolume (codes "drill") words most
Spells words (Check most) = IsOfVolume (codes "check") words most
Spells words (Make n) = IsNumbered (codes "make") 0 (2 ^ 32 - 1) words n
Spells words (Soak n) = IsNumbered (codes "soak") 0 (2 ^ 32 - 1) words n
Spells words (Serve n) = IsAddressed (codes "serve") 1 1000000 words n
Spells words (Mount c) = IsOfClerk (codes "mount") words c
Spells words (Leases l e) = IsOfLeases (codes "leases") words l e
Spells words (MountTable c) = SpellsMounts words c
