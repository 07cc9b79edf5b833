-- The last word of a line.
use Rattle.std.proofs.Common.{◌≡◌, ◌+◌, ◌-◌, ◌^◌, min, ℕ, List, [], ◌∷◌, length, drop, refl, sym, ap, ◌∙◌, arith}
use Rattle.ec_words.specs.Words.{words_of, column_of}
use Rattle.ec_words.specs.Rows.{Word, shown_column}
use Rattle.ec_words.specs.RowsLeft.{joined_len, column_left}
use Rattle.ec_words.proofs.Left.{column_by_left}
use Rattle.ec_script.specs.Last.{last_len}

last_joined : (w : Word) (ws : List Word) → last_len (w ∷ ws) ≡ joined_len (drop (length ws) (w ∷ ws))
last_joined w [] = refl
last_joined w (v ∷ ws) = last_joined v ws

last_dropped : (ws : List Word) → last_len ws ≡ joined_len (drop (length ws - 1) ws)
last_dropped [] = refl
last_dropped (w ∷ ws) = let e : length ws ≡ length (w ∷ ws) - 1 = omega arith in last_joined w ws ∙ ap (λ k. joined_len (drop k (w ∷ ws))) e

pub last_placed : (bs : List ℕ) → column_left bs (last_len (words_of bs)) ≡ shown_column bs (length (words_of bs) - 1)
last_placed bs =
    let k : ℕ = length (words_of bs) - 1 in
    let e : length bs + 1 - last_len (words_of bs) ≡ column_of bs (length (words_of bs) - 1) = omega (arith, column_by_left bs (length (words_of bs) - 1), last_dropped (words_of bs)) in
    ap (λ c. min c (2 ^ 32 - 1)) e

pub last_none : (ws : List Word) → ws ≡ [] → 0 ≡ last_len ws
last_none ws e = ap last_len (sym e)

pub last_one : (ws : List Word) (w : Word) (rest : List Word) → ws ≡ w ∷ rest → rest ≡ [] → length w ≡ last_len ws
last_one ws w rest e f = ap last_len (sym (e ∙ ap (λ r. w ∷ r) f))

behind_some : (w : Word) (rest : List Word) → (rest ≡ [] → ⊥) → last_len (w ∷ rest) ≡ last_len rest
behind_some w [] some = absurd (some refl)
behind_some w (v ∷ ws) some = refl

pub last_more : (ws : List Word) (w : Word) (rest : List Word) → ws ≡ w ∷ rest → (rest ≡ [] → ⊥) → last_len ws ≡ last_len rest
last_more ws w rest e some = ap last_len e ∙ behind_some w rest some
