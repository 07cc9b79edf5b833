-- The bytes that are left of a line.
use Rattle.std.proofs.Common.{ap, ◌≡◌, ℕ, suc, zero, ◌+◌, ◌<◌, ◌≤◌, List, [], ◌∷◌, length, take, drop, true, false, refl, arith}
use Rattle.std.specs.Prelude.{nat_lt, if◌then◌else◌}
use Rattle.std.proofs.lemmas.Bool.{ltb-true, ltb-false}
use Rattle.ec_words.specs.Words.{words_of, spaced_len, column_of}
use Rattle.ec_words.specs.RowsLeft.{joined_len}
use Rattle.ec_words.proofs.Splits.{spaced_len-words_of}

-- words have a space less between them than behind each
joined_spaced : (w : List ℕ) (ws : List (List ℕ)) → joined_len (w ∷ ws) + 1 ≡ spaced_len (w ∷ ws)
joined_spaced w [] = omega arith
joined_spaced w (v ∷ ws) = let e : joined_len (v ∷ ws) + 1 ≡ spaced_len (v ∷ ws) = joined_spaced v ws in omega (arith, e)

joined_some : (ws : List (List ℕ)) → 1 ≤ length ws → joined_len ws + 1 ≡ spaced_len ws
joined_some [] some = absurd (omega arith)
joined_some (w ∷ ws) some = joined_spaced w ws

pub joined_len-words_of : (bs : List ℕ) → joined_len (words_of bs) ≡ length bs
joined_len-words_of bs =
    let s : (1 ≤ length (words_of bs)) × (spaced_len (words_of bs) ≡ length bs + 1) = spaced_len-words_of bs in
    omega (arith, joined_some (words_of bs) s.0, s.1)

pub no_words : (bs : List ℕ) → words_of bs ≡ [] → ⊥
no_words bs e = let n : length (words_of bs) ≡ 0 = ap length e in absurd (omega (arith, n, (spaced_len-words_of bs).0))

-- what stands before and behind the first k words
spaced_split : (k : ℕ) (ws : List (List ℕ)) → spaced_len (take k ws) + spaced_len (drop k ws) ≡ spaced_len ws
spaced_split zero ws = omega arith
spaced_split (suc k) [] = omega arith
spaced_split (suc k) (w ∷ ws) = let e : spaced_len (take k ws) + spaced_len (drop k ws) ≡ spaced_len ws = spaced_split k ws in omega (arith, e)

joined_drop : (k : ℕ) (ws : List (List ℕ)) → k < length ws → joined_len (drop k ws) + 1 ≡ spaced_len (drop k ws)
joined_drop k [] lt = absurd (omega arith)
joined_drop zero (w ∷ ws) lt = joined_spaced w ws
joined_drop (suc k) (w ∷ ws) lt = joined_drop k ws (omega (arith, lt))

past_all : (k : ℕ) (ws : List (List ℕ)) → length ws ≤ k → joined_len (drop k ws) ≡ 0
past_all zero [] le = refl
past_all (suc k) [] le = refl
past_all zero (w ∷ ws) le = absurd (omega (arith, le))
past_all (suc k) (w ∷ ws) le = past_all k ws (omega (arith, le))

-- the column of a word by the bytes left from it on
pub column_by_left : (bs : List ℕ) (k : ℕ) → column_of bs k + joined_len (drop k (words_of bs)) ≡ length bs + 1
column_by_left bs k =
    let all : spaced_len (words_of bs) ≡ length bs + 1 = (spaced_len-words_of bs).1 in
    let split : spaced_len (take k (words_of bs)) + spaced_len (drop k (words_of bs)) ≡ spaced_len (words_of bs) = spaced_split k (words_of bs) in
    let inside : k < length (words_of bs) → spaced_len (take k (words_of bs)) + 1 + joined_len (drop k (words_of bs)) ≡ length bs + 1 = λ lt. omega (arith, joined_drop k (words_of bs) lt, all, split) in
    let past : length (words_of bs) ≤ k → length bs + 1 + joined_len (drop k (words_of bs)) ≡ length bs + 1 = λ le. omega (arith, past_all k (words_of bs) le) in
    elim (nat_lt k (length (words_of bs))) as (λ t. (nat_lt k (length (words_of bs)) ≡ t) → (if t then spaced_len (take k (words_of bs)) + 1 else length bs + 1) + joined_len (drop k (words_of bs)) ≡ length bs + 1) [
      | true ↦ λ e. inside (ltb-true k (length (words_of bs)) e)
      | false ↦ λ e. past (ltb-false k (length (words_of bs)) e)
    ] refl
