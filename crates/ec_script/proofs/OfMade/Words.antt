-- Words without spaces, lines without ends, and what words stand for as they are.
use Rattle.std.proofs.Common.{◌≡◌, ◌==◌, ◌<◌, ◌&&◌, ℕ, zero, suc, Bool, true, false, not, List, [], ◌∷◌, ◌++◌, Option, Some, None, cond, refl, sym, ap, ◌∙◌, arith}
use Rattle.std.specs.Prelude.{eqb}
use Rattle.std.specs.List.{list_all}
use Rattle.std.proofs.lemmas.Bool.{and_from, and_parts, true≢false}
use Rattle.std.proofs.lemmas.List.Folds.{list_all-append}
use Rattle.ec_words.specs.Pieces.{onto}
use Rattle.ec_words.specs.Rows.{Word}
use Rattle.ec_words.specs.Spelling.{is_printed, led_by, plain_byte, text_of}
use Rattle.ec_words.specs.Words.{words_of}
use Rattle.ec_script.specs.Lines.{lines_of}

pub from-not : (x : Bool) → not x ≡ true → x ≡ false
from-not false e = refl
from-not true e = absurd (true≢false (sym e))

-- numbers below this one
abbrev pub below : ℕ → List ℕ
below zero = []
below (suc n) = n ∷ below n

pub at-below : (P : ℕ → Bool) (n k : ℕ) → k < n → list_all P (below n) ≡ true → P k ≡ true
at-below P zero k lt all = absurd (omega (arith, lt))
at-below P (suc n) k lt all = go (k == n) refl (and_parts (P n) (list_all P (below n)) all) (at-below P n k)
  where
    same : (k n : ℕ) → (k == n) ≡ true → n ≡ k
    same k n e = grind (arith, e)

    less : (k n : ℕ) → k < suc n → (k == n) ≡ false → k < n
    less k n lt e = grind (arith, lt, e)

    go : (b : Bool) → (k == n) ≡ b → (P n ≡ true) × (list_all P (below n) ≡ true) → (k < n → list_all P (below n) ≡ true → P k ≡ true) → P k ≡ true
    go true e all more = sym (ap P (same k n e)) ∙ all.0
    go false e all more = more (less k n lt e) all.1

-- A byte that a word has as it is: printed, no space, no end of a line, and no `%`.
abbrev pub is_clean : ℕ → Bool
is_clean b = is_printed b && not (eqb b 37)

abbrev pub is_word : Word → Bool
is_word w = list_all is_clean w

-- no end of a line
abbrev pub is_line : List ℕ → Bool
is_line t = list_all (λ b. not (b == 10)) t

pub line-two : (a b : List ℕ) → is_line a ≡ true → is_line b ≡ true → is_line (a ++ b) ≡ true
line-two a b e f = list_all-append (λ b. not (b == 10)) a b ∙ and_from (is_line a) (is_line b) e f

pub word-line : (w : Word) → is_word w ≡ true → is_line w ≡ true
word-line [] e = refl
word-line (b ∷ w) e = let c = and_parts (is_clean b) (is_word w) e in and_from (not (b == 10)) (is_line w) (one b c.0) (word-line w c.1)
  where
    one : (b : ℕ) → is_clean b ≡ true → not (b == 10) ≡ true
    one b e = grind (arith, e)

no-space : (b : ℕ) → is_clean b ≡ true → (b == 32) ≡ false
no-space b e = grind (arith, e)

pub words-one : (w : Word) → is_word w ≡ true → words_of w ≡ w ∷ []
words-one [] e = refl
words-one (b ∷ w) e =
    let c = and_parts (is_clean b) (is_word w) e in
    ap (λ x. cond x ([] ∷ words_of w) (onto b (words_of w))) (no-space b c.0) ∙ ap (onto b) (words-one w c.1)

pub words-more : (w : Word) (rest : List ℕ) → is_word w ≡ true → words_of (w ++ (32 ∷ rest)) ≡ w ∷ words_of rest
words-more [] rest e = refl
words-more (b ∷ w) rest e =
    let c = and_parts (is_clean b) (is_word w) e in
    ap (λ x. cond x ([] ∷ words_of (w ++ (32 ∷ rest))) (onto b (words_of (w ++ (32 ∷ rest))))) (no-space b c.0) ∙ ap (onto b) (words-more w rest c.1)

pub lines-more : (t rest : List ℕ) → is_line t ≡ true → lines_of (t ++ (10 ∷ rest)) ≡ t ∷ lines_of rest
lines-more [] rest e = refl
lines-more (b ∷ t) rest e =
    let c = and_parts (not (b == 10)) (is_line t) e in
    ap (λ x. cond x ([] ∷ lines_of (t ++ (10 ∷ rest))) (onto b (lines_of (t ++ (10 ∷ rest))))) (from-not (b == 10) c.0) ∙ ap (onto b) (lines-more t rest c.1)

-- Texts.

led : (b : ℕ) → is_clean b ≡ true → (other x : Option (List ℕ)) (rest : List ℕ) → x ≡ Some rest → cond (eqb b 37) other (led_by (plain_byte b) x) ≡ Some (b ∷ rest)
led b e other x rest is =
    let c = and_parts (is_printed b) (not (eqb b 37)) e in
    ap (λ z. cond z other (led_by (plain_byte b) x)) (from-not (eqb b 37) c.1)
    ∙ ap (λ z. led_by (cond z (Some b) None) x) c.0
    ∙ ap (led_by (Some b)) is

pub text-word : (w : Word) → is_word w ≡ true → text_of w ≡ Some w
text-word [] e = refl
text-word (b ∷ []) e = led b (and_parts (is_clean b) true e).0 None (Some []) [] refl
text-word (b ∷ h ∷ []) e = let c = and_parts (is_clean b) (is_word (h ∷ [])) e in led b c.0 None (text_of (h ∷ [])) (h ∷ []) (text-word (h ∷ []) c.1)
text-word (b ∷ h ∷ l ∷ w) e = let c = and_parts (is_clean b) (is_word (h ∷ l ∷ w)) e in led b c.0 _ (text_of (h ∷ l ∷ w)) (h ∷ l ∷ w) (text-word (h ∷ l ∷ w) c.1)
