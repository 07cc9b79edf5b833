-- How a line falls into words.
use Rattle.std.proofs.Common.{◌≡◌, ℕ, suc, ◌+◌, ◌<◌, ◌≤◌, List, [], ◌∷◌, zero, length, take, drop, true, false, refl, ap, ◌∙◌, arith}
use Rattle.std.specs.Prelude.{◌==◌, nat_lt, if◌then◌else◌}
use Rattle.std.proofs.lemmas.Bool.{ltb-true}
use Rattle.ec_words.specs.Pieces.{onto}
use Rattle.ec_words.specs.PieceLengths.{piece_len}
use Rattle.ec_words.specs.Words.{words_of, spaced_len, column_of}

-- a first piece, by the byte that ends it
pub with_piece : (stop : ℕ) (f : List ℕ → List (List ℕ)) → ((b : ℕ) (bs : List ℕ) → f (b ∷ bs) ≡ (if b == stop then [] ∷ f bs else onto b (f bs))) → (bs : List ℕ) → piece_len stop bs < length bs → f bs ≡ take (piece_len stop bs) bs ∷ f (drop (suc (piece_len stop bs)) bs)
with_piece stop f step [] lt = absurd (omega arith)
with_piece stop f step (b ∷ bs) lt =
    step b bs
    ∙ elim (b == stop) as (λ t. (if t then 0 else suc (piece_len stop bs)) < suc (length bs) → (if t then [] ∷ f bs else onto b (f bs)) ≡ take (if t then 0 else suc (piece_len stop bs)) (b ∷ bs) ∷ f (drop (suc (if t then 0 else suc (piece_len stop bs))) (b ∷ bs))) [
      | true ↦ λ l. refl
      | false ↦ λ l. ap (onto b) (with_piece stop f step bs (omega arith))
    ] lt

pub with_space : (bs : List ℕ) → piece_len 32 bs < length bs → words_of bs ≡ take (piece_len 32 bs) bs ∷ words_of (drop (suc (piece_len 32 bs)) bs)
with_space = with_piece 32 words_of (λ b bs. refl)

pub without_space : (bs : List ℕ) → length bs ≤ piece_len 32 bs → words_of bs ≡ bs ∷ []
without_space [] le = refl
without_space (b ∷ bs) le =
    elim (b == 32) as (λ t. suc (length bs) ≤ (if t then 0 else suc (piece_len 32 bs)) → (if t then [] ∷ words_of bs else onto b (words_of bs)) ≡ (b ∷ bs) ∷ []) [
      | true ↦ λ l. absurd (omega arith)
      | false ↦ λ l. ap (onto b) (without_space bs (omega arith))
    ] le

spaced_len-onto : (b : ℕ) (ws : List (List ℕ)) → 1 ≤ length ws → (1 ≤ length (onto b ws)) × (spaced_len (onto b ws) ≡ spaced_len ws + 1)
spaced_len-onto b [] some = absurd (omega arith)
spaced_len-onto b (w ∷ ws) some = (omega arith, omega arith)

-- words and the spaces between them are as long as the line
pub spaced_len-words_of : (bs : List ℕ) → (1 ≤ length (words_of bs)) × (spaced_len (words_of bs) ≡ length bs + 1)
spaced_len-words_of [] = (omega arith, refl)
spaced_len-words_of (b ∷ bs) =
    let before : (1 ≤ length (words_of bs)) × (spaced_len (words_of bs) ≡ length bs + 1) = spaced_len-words_of bs in
    let more : (1 ≤ length (onto b (words_of bs))) × (spaced_len (onto b (words_of bs)) ≡ spaced_len (words_of bs) + 1) = spaced_len-onto b (words_of bs) before.0 in
    elim (b == 32) as (λ t. (1 ≤ length (if t then [] ∷ words_of bs else onto b (words_of bs))) × (spaced_len (if t then [] ∷ words_of bs else onto b (words_of bs)) ≡ suc (length bs) + 1)) [
      | true ↦ (omega arith, omega (arith, before.1))
      | false ↦ (more.0, omega (arith, more.1, before.1))
    ]

pub spaced_len-take : (k : ℕ) (ws : List (List ℕ)) → spaced_len (take k ws) ≤ spaced_len ws
spaced_len-take zero [] = omega arith
spaced_len-take (suc k) [] = omega arith
spaced_len-take zero (w ∷ ws) = omega arith
spaced_len-take (suc k) (w ∷ ws) = let le : spaced_len (take k ws) ≤ spaced_len ws = spaced_len-take k ws in omega arith

spaced_len-take_lt : (k : ℕ) (ws : List (List ℕ)) → k < length ws → spaced_len (take k ws) + 1 ≤ spaced_len ws
spaced_len-take_lt k [] lt = absurd (omega arith)
spaced_len-take_lt zero (w ∷ ws) lt = omega arith
spaced_len-take_lt (suc k) (w ∷ ws) lt = let le : spaced_len (take k ws) + 1 ≤ spaced_len ws = spaced_len-take_lt k ws (omega arith) in omega arith

pub column_within : (bs : List ℕ) (k : ℕ) → column_of bs k ≤ length bs + 1
column_within bs k =
    let inside : k < length (words_of bs) → spaced_len (take k (words_of bs)) + 1 ≤ length bs + 1 = λ lt. omega (arith, spaced_len-take_lt k (words_of bs) lt, (spaced_len-words_of bs).1) in
    elim (nat_lt k (length (words_of bs))) as (λ t. (nat_lt k (length (words_of bs)) ≡ t) → (if t then spaced_len (take k (words_of bs)) + 1 else length bs + 1) ≤ length bs + 1) [
      | true ↦ λ e. inside (ltb-true k (length (words_of bs)) e)
      | false ↦ λ e. omega arith
    ] refl
