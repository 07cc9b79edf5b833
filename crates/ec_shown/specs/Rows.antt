-- Rows of words: a mark before others, what may stand at the end, so many words, and lists of operations.
use Rattle.std.specs.Prelude.{◌≡◌, ℕ, zero, suc, Option, None, Some, List, [], ◌∷◌, codes}
use Rattle.ec_words.specs.Rows.{Word, Last}
use Rattle.ec_words.specs.Spelling.{IsNumber}
use Rattle.ec_shown.specs.Spelling.{IsAbove}

-- this mark, and behind it a row of G
abbrev pub Marked : {X : Type 0} → Word → (List Word → X → Type 0) → List Word → X → Type 0
Marked mark G [] x = ⊥
Marked mark G (w ∷ ws) x = (w ≡ mark) × G ws x

-- no word, or this mark and one word by the test P
abbrev pub Tail : {V : Type 0} → Word → (Word → V → Type 0) → List Word → Option V → Type 0
Tail mark P [] o = o ≡ None
Tail mark P (w ∷ ws) None = ⊥
Tail mark P (w ∷ ws) (Some v) = (w ≡ mark) × Last P ws v

-- just so many words, each by the test P
abbrev pub Times : {V : Type 0} → (Word → V → Type 0) → ℕ → List Word → List V → Type 0
Times P zero ws vs = (ws ≡ []) × (vs ≡ [])
Times P (suc n) (w ∷ ws) (v ∷ vs) = P w v × Times P n ws vs
Times P _ _ _ = ⊥

-- operations, each above the one before it
abbrev pub Rises : ℕ → List Word → List ℕ → Type 0
Rises last [] ops = ops ≡ []
Rises last (w ∷ ws) [] = ⊥
Rises last (w ∷ ws) (op ∷ ops) = IsAbove last w op × Rises op ws ops

-- operations in strictly rising order, or `-`
abbrev pub SpellsList : List Word → List ℕ → Type 0
SpellsList [] ops = ⊥
SpellsList (w ∷ ws) [] = (w ≡ codes "-") × (ws ≡ [])
SpellsList (w ∷ ws) (op ∷ ops) = IsNumber w op × Rises op ws ops
