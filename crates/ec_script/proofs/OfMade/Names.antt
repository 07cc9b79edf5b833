-- Words that are paths, and words that are numbers.
use Rattle.std.proofs.Common.{◌≡◌, ◌<◌, ◌≤◌, ◌+◌, ◌&&◌, ◌^◌, ◌/◌, ◌%◌, ℕ, zero, suc, Bool, true, false, not, List, [], ◌∷◌, length, Option, Some, None, refl, sym, ap, ◌∙◌, arith, inl, inr}
use Rattle.std.specs.Prelude.{eqb, ltb, nat_le, is_none}
use Rattle.std.specs.Fmt.{decimal}
use Rattle.std.specs.List.{list_all, position}
use Rattle.std.specs.Str.{IsAscii}
use Rattle.std.specs.Str.Parse.{AllDigits}
use Rattle.std.proofs.lemmas.Bool.{and_from, and_parts, cases_lt, true≢false}
use Rattle.std.proofs.lemmas.Fmt.{decimal_digit, decimal_is_IsNumeral, decimal_step}
use Rattle.std.proofs.lemmas.List.{length-append}
use Rattle.std.proofs.lemmas.Str.{IsUtf8-from_ascii, is_utf8-from_IsUtf8}
use Rattle.std.proofs.lemmas.Str.Parse.{digit_from_value}
use Rattle.ec_base.specs.Limits.{max_name_bytes, max_path_names}
use Rattle.ec_base.specs.Names.{is_bad, is_dots, is_slash, name_fault, names_fault, path_fault, path_names}
use Rattle.ec_words.specs.Rows.{Word}
use Rattle.ec_words.specs.Spelling.{IsPathText}
use Rattle.ec_script.proofs.OfMade.Words.{from-not, is_clean, is_word, text-word}

none : {X : Type 0} → (x : Option X) → is_none x ≡ true → x ≡ None
none None e = refl
none (Some f) e = absurd (true≢false (sym e))

-- Names.

abbrev has_name_length : Word → Bool
has_name_length w = not (eqb (length w) 0) && not (ltb max_name_bytes (length w))

abbrev is_without_marks : Word → Bool
is_without_marks w = is_none (position is_bad w) && not (is_dots w)

abbrev is_plain_name : Word → Bool
is_plain_name w = is_word w && (has_name_length w && is_without_marks w)

clean-ascii : (b : ℕ) → is_clean b ≡ true → b < 128
clean-ascii b e = grind (arith, e)

word-ascii : (w : Word) → is_word w ≡ true → IsAscii w
word-ascii [] e i = omega arith
word-ascii (b ∷ w) e zero = clean-ascii b (and_parts (is_clean b) (is_word w) e).0
word-ascii (b ∷ w) e (suc i) = word-ascii w (and_parts (is_clean b) (is_word w) e).1 i

name-so : (w : Word) → is_plain_name w ≡ true → name_fault w ≡ None
name-so w e =
    let clean = and_parts (is_word w) (has_name_length w && is_without_marks w) e in
    let so = and_parts (has_name_length w) (is_without_marks w) clean.1 in
    let long = and_parts (not (eqb (length w) 0)) (not (ltb max_name_bytes (length w))) so.0 in
    let marks = and_parts (is_none (position is_bad w)) (not (is_dots w)) so.1 in
    let utf = is_utf8-from_IsUtf8 w (IsUtf8-from_ascii w (word-ascii w clean.0)) in
    rw (from-not (eqb (length w) 0) long.0, from-not (ltb max_name_bytes (length w)) long.1, none (position is_bad w) marks.0, from-not (is_dots w) marks.1, utf) refl

names-so : (before : ℕ) (ws : List Word) → list_all is_plain_name ws ≡ true → before + length ws ≤ 16 → names_fault before ws ≡ None
names-so before [] e le = refl
names-so before (w ∷ ws) e le =
    let c = and_parts (is_plain_name w) (list_all is_plain_name ws) e in
    rw (less before (omega (arith, le)), name-so w c.0) (names-so (before + 1) ws c.1 (omega (arith, le)))
  where
    less : (k : ℕ) → k < 16 → ltb k max_path_names ≡ true
    less k lt = grind (arith, lt)

abbrev starts : Word → Bool
starts [] = false
starts (b ∷ w) = is_slash b

abbrev has_plain_names : Word → Bool
has_plain_names w = nat_le (length (path_names w)) 16 && list_all is_plain_name (path_names w)

abbrev pub is_path : Word → Bool
is_path w = is_word w && (starts w && has_plain_names w)

path-so : (w : Word) → starts w ≡ true → has_plain_names w ≡ true → path_fault w ≡ None
path-so [] e f = absurd (true≢false (sym e))
path-so (b ∷ w) e f =
    let so = and_parts (nat_le (length (path_names (b ∷ w))) 16) (list_all is_plain_name (path_names (b ∷ w))) f in
    rw (e) (names-so 0 (path_names (b ∷ w)) so.1 (at-most (length (path_names (b ∷ w))) so.0))
  where
    at-most : (n : ℕ) → nat_le n 16 ≡ true → 0 + n ≤ 16
    at-most n e = grind (arith, e)

pub path-is-word : (w : Word) → is_path w ≡ true → is_word w ≡ true
path-is-word w e = (and_parts (is_word w) (starts w && has_plain_names w) e).0

pub path-word : (w : Word) → is_path w ≡ true → IsPathText w (path_names w)
path-word w e =
    let so = and_parts (is_word w) (starts w && has_plain_names w) e in
    let named = and_parts (starts w) (has_plain_names w) so.1 in
    (w, (text-word w so.0, (path-so w named.0 named.1, refl)))

-- Numbers.

digits-word : (ds : List ℕ) → AllDigits 10 ds → is_word ds ≡ true
digits-word [] a = refl
digits-word (d ∷ ds) a = let r = digit_from_value d a.0 in and_from (is_clean d) (is_word ds) (clean d r.0 r.1) (digits-word ds a.1)
  where
    clean : (d : ℕ) → 48 ≤ d → d ≤ 57 → is_clean d ≡ true
    clean d l m = grind (arith, l, m)

pub number-word : (n : ℕ) → n < 2 ^ 64 → is_word (decimal n) ≡ true
number-word n lt = digits-word (decimal n) (decimal_is_IsNumeral n lt).0.1

pub number-some : (n : ℕ) → n < 2 ^ 64 → 1 ≤ length (decimal n)
number-some n lt = let some = (decimal_is_IsNumeral n lt).0.0 in omega (arith, some)

one-digit : (n : ℕ) → n < 10 → length (decimal n) ≡ 1
one-digit n lt = ap length (decimal_digit n lt)

step : (n : ℕ) → 10 ≤ n → n < 10000 → length (decimal n) ≡ length (decimal (n / 10)) + 1
step n ge lt = ap length (decimal_step n ge (omega (arith, lt))) ∙ length-append (decimal (n / 10)) ((48 + n % 10) ∷ [])

-- with at most so many digits below each power of ten
two-digits : (n : ℕ) → n < 100 → length (decimal n) ≤ 2
two-digits n lt = elim (cases_lt n 10) [ inl l ↦ let is = one-digit n l in omega (arith, is) | inr g ↦ let is = step n g (omega (arith, lt)) in let front = one-digit (n / 10) (omega (arith, lt)) in omega (arith, is, front) ]

three-digits : (n : ℕ) → n < 1000 → length (decimal n) ≤ 3
three-digits n lt = elim (cases_lt n 10) [ inl l ↦ let is = one-digit n l in omega (arith, is) | inr g ↦ let is = step n g (omega (arith, lt)) in let front = two-digits (n / 10) (omega (arith, lt)) in omega (arith, is, front) ]

pub four-digits : (n : ℕ) → n < 10000 → length (decimal n) ≤ 4
four-digits n lt = elim (cases_lt n 10) [ inl l ↦ let is = one-digit n l in omega (arith, is) | inr g ↦ let is = step n g lt in let front = three-digits (n / 10) (omega (arith, lt)) in omega (arith, is, front) ]
