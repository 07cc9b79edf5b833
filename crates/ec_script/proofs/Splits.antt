-- How a line falls into words, and a script into lines.
use Rattle.std.proofs.Common.{◌≡◌, ◌≢◌, ℕ, suc, ◌+◌, ◌<◌, ◌≤◌, List, [], ◌∷◌, ◌++◌, length, take, drop, drop-cons, get_or, add-one, map, true, false, refl, sym, ap, ◌∙◌, append_assoc, arith}
use Rattle.std.specs.Prelude.{◌==◌, if◌then◌else◌}
use Rattle.std.specs.List.{take-map, drop-map}
use Rattle.std.proofs.lemmas.List.{length-map}
use Rattle.std.proofs.lemmas.Bool.{lt-ltb, le-ltb}
use Rattle.ec_words.specs.Pieces.{onto}
use Rattle.ec_words.specs.PieceLengths.{piece_len}
use Rattle.ec_words.specs.Words.{words_of, spaced_len, column_of}
use Rattle.ec_script.specs.Lines.{lines_of}
use Rattle.ec_words.proofs.Splits.{with_piece, spaced_len-take, spaced_len-words_of}

pub with_end : (bs : List ℕ) → piece_len 10 bs < length bs → lines_of bs ≡ take (piece_len 10 bs) bs ∷ lines_of (drop (suc (piece_len 10 bs)) bs)
with_end = with_piece 10 lines_of (λ b bs. refl)

pub without_end : (bs : List ℕ) → bs ≢ [] → length bs ≤ piece_len 10 bs → lines_of bs ≡ bs ∷ []
without_end [] some le = absurd (some refl)
without_end (b ∷ []) some le =
    elim (b == 10) as (λ t. 1 ≤ (if t then 0 else 1) → (if t then [] ∷ [] else onto b []) ≡ (b ∷ []) ∷ []) [
      | true ↦ λ l. absurd (omega arith)
      | false ↦ λ l. refl
    ] le
without_end (b ∷ c ∷ bs) some le =
    elim (b == 10) as (λ t. suc (suc (length bs)) ≤ (if t then 0 else suc (piece_len 10 (c ∷ bs))) → (if t then [] ∷ lines_of (c ∷ bs) else onto b (lines_of (c ∷ bs))) ≡ (b ∷ c ∷ bs) ∷ []) [
      | true ↦ λ l. absurd (omega arith)
      | false ↦ λ l. ap (onto b) (without_end (c ∷ bs) (λ e. cc) (omega arith))
    ] le

map-push : {A B : Type 0} (f : A → B) (xs : List A) (x : A) → map f (xs ++ x ∷ []) ≡ map f xs ++ f x ∷ []
map-push f [] x = refl
map-push f (y ∷ xs) x = ap (λ l. f y ∷ l) (map-push f xs x)

pub one_more : {A : Type 0} (f : A → List ℕ) (xs : List A) (x : A) (all more next : List (List ℕ)) → all ≡ map f xs ++ more → more ≡ f x ∷ next → all ≡ map f (xs ++ x ∷ []) ++ next
one_more f xs x all more next e is = e ∙ ap (λ m. map f xs ++ m) is ∙ sym (append_assoc (map f xs) (f x ∷ []) next) ∙ ap (λ m. m ++ next) (sym (map-push f xs x))

pub last_one : {A : Type 0} (f : A → List ℕ) (xs : List A) (x : A) (all more : List (List ℕ)) → all ≡ map f xs ++ more → more ≡ f x ∷ [] → map f (xs ++ x ∷ []) ≡ all
last_one f xs x all more e is = map-push f xs x ∙ ap (λ m. map f xs ++ m) (sym is) ∙ sym e

-- the first k words of a line, as the code holds them
pub first_words : {A : Type 0} (f : A → List ℕ) (words : List A) (k : ℕ) (bs : List ℕ) → map f words ≡ words_of bs → spaced_len (map f (take k words)) ≡ spaced_len (take k (words_of bs))
first_words f words k bs e = ap spaced_len (sym (take-map f k words)) ∙ ap (λ ws. spaced_len (take k ws)) e

pub first_words_fit : {A : Type 0} (f : A → List ℕ) (words : List A) (k : ℕ) (bs : List ℕ) → map f words ≡ words_of bs → spaced_len (map f (take k words)) ≤ length bs + 1
first_words_fit f words k bs e = omega (arith, first_words f words k bs e, spaced_len-take k (words_of bs), (spaced_len-words_of bs).1)

length_words : {A : Type 0} (f : A → List ℕ) (words : List A) (bs : List ℕ) → map f words ≡ words_of bs → length (words_of bs) ≡ length words
length_words f words bs e = ap length (sym e) ∙ length-map words f

pub column_inside : {A : Type 0} (f : A → List ℕ) (words : List A) (k : ℕ) (bs : List ℕ) → map f words ≡ words_of bs → k < length words → spaced_len (map f (take k words)) + 1 ≡ column_of bs k
column_inside f words k bs e lt =
    let inside : k < length (words_of bs) = omega (arith, length_words f words bs e) in
    rw (lt-ltb k (length (words_of bs)) inside) (ap (λ n. n + 1) (first_words f words k bs e))

pub column_behind : {A : Type 0} (f : A → List ℕ) (words : List A) (k : ℕ) (bs : List ℕ) → map f words ≡ words_of bs → length words ≤ k → length bs + 1 ≡ column_of bs k
column_behind f words k bs e le =
    let past : length (words_of bs) ≤ k = omega (arith, length_words f words bs e) in
    rw (le-ltb k (length (words_of bs)) past)

-- the word behind the first k ones, as the code holds it
pub word_behind : {A : Type 0} (f : A → List ℕ) (words : List A) (k : ℕ) (d : A) → k < length words → drop k (map f words) ≡ f (get_or words k d) ∷ drop (k + 1) (map f words)
word_behind f words k d lt = rw add-one (drop-map f k words ∙ ap (map f) (drop-cons words k d lt) ∙ ap (λ r. f (get_or words k d) ∷ r) (sym (drop-map f (suc k) words)))
