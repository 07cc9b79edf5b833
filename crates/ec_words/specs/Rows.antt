-- Rows of words by what their words stand for.
use Rattle.std.specs.Prelude.{◌≡◌, ◌-◌, ◌^◌, ◌<◌, ◌≤◌, min, ℕ, zero, suc, List, [], ◌∷◌, ◌++◌, length, take}
use Rattle.ec_words.specs.Words.{column_of}

abbrev pub Word : Type 0
Word = List ℕ

-- Rows.

-- a first word by the test P, and the rest by G
infixr 30 ◌▸◌
abbrev pub ◌▸◌ : {V X : Type 0} → (Word → V → Type 0) → (List Word → X → Type 0) → List Word → V × X → Type 0
◌▸◌ P G [] vx = ⊥
◌▸◌ P G (w ∷ ws) vx = P w (vx.0) × G ws (vx.1)

-- no further word
abbrev pub End : List Word → Unit {0} → Type 0
End ws u = ws ≡ []

-- one word by the test P, and no further one
abbrev pub Last : {V : Type 0} → (Word → V → Type 0) → List Word → V → Type 0
Last P [] v = ⊥
Last P (w ∷ ws) v = P w v × (ws ≡ [])

-- at most so many words, each by the test P
abbrev pub UpTo : {V : Type 0} → (Word → V → Type 0) → ℕ → List Word → List V → Type 0
UpTo P zero ws vs = (ws ≡ []) × (vs ≡ [])
UpTo P (suc n) [] vs = vs ≡ []
UpTo P (suc n) (w ∷ ws) [] = ⊥
UpTo P (suc n) (w ∷ ws) (v ∷ vs) = P w v × UpTo P n ws vs

-- a first word by the test P, and the rest by what the first one stands for
infixr 30 ◌⊳◌
abbrev pub ◌⊳◌ : {V X : Type 0} → (Word → V → Type 0) → (V → List Word → X → Type 0) → List Word → X → Type 0
◌⊳◌ P F [] x = ⊥
◌⊳◌ {V} P F (w ∷ ws) x = (v : V) × (P w v × F v ws x)

-- a row of G, and what its values make
infixr 20 ◌makes◌
abbrev pub ◌makes◌ : {X Y : Type 0} → (List Word → X → Type 0) → (X → Y) → List Word → Y → Type 0
◌makes◌ {X} G f ws y = (x : X) × (G ws x × (f x ≡ y))

-- Words outside a row.

-- some words behind these make up something that G has
abbrev pub Begins : {X : Type 0} → (List Word → X → Type 0) → List Word → Type 0
Begins {X} G ws = (rest : List Word) × ((x : X) × G (ws ++ rest) x)

-- The word behind the first k words is the first that doesn't fit: these k words begin something that G has, and with
-- the next word they don't; where there is no next word, it is missing.
pub record FirstUnfit {X : Type 0} (G : List Word → X → Type 0) (ws : List Word) (k : ℕ) : Type 0 where
  pub within : k ≤ length ws
  pub begins : Begins G (take k ws)
  pub stops : k < length ws → Begins G (take (suc k) ws) → ⊥
  pub none : (x : X) → G ws x → ⊥

-- the same place by the number of words before it
abbrev pub shown_column : List ℕ → ℕ → ℕ
shown_column line k = min (column_of line k) (2 ^ 32 - 1)
