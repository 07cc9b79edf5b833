-- A line begins with one thing.
use Rattle.std.proofs.Common.{◌≡◌, inl, inr, ℕ, ◌+◌, ◌≤◌, ◌<◌, ◌^◌, ◌%◌, ◌/◌, List, [], ◌∷◌, ◌++◌, length, get_or, refl, sym, ap, subst, ◌∙◌, arith}
use Rattle.std.specs.Fmt.{decimal}
use Rattle.std.proofs.lemmas.Fmt.{decimal_by_steps}
use Rattle.ec_history.specs.declared.shown.Shown.{Shown}
use Rattle.ec_words.specs.declared.cursor.Misfit.{Misfit}
use Rattle.ec_words.specs.declared.cursor.Misfit.TheVariants as misfit
use Rattle.ec_words.specs.Rows.{Word}
use Rattle.ec_words.specs.RowsLeft.{IsMisfit, joined_len}
use Rattle.ec_words.specs.Spelling.{IsSmallNumber}
use Rattle.ec_words.proofs.Misfits.{choice_lacks, choice_has, choice_is}
use Rattle.ec_words.proofs.OneCall.{small}
use Rattle.std.specs.Prelude.{Result, Ok, Err, MatchResult}
use Rattle.ec_shown.specs.declared.name.Head.{Head}
use Rattle.ec_shown.specs.declared.name.Head.TheVariants as head
use Rattle.ec_shown.specs.Spelling.{head_name, IsHead}
use Rattle.ec_shown.specs.Lines.{First, IsFirst, Begun, SpellsShown}
use Rattle.ec_shown.proofs.Named.{head_once}
use Rattle.ec_shown.proofs.Said.{a_line}
use Rattle.ec_script.proofs.Heads.{cons_not_nil, first_is}

-- The first byte of a number is a digit.
abbrev pub DigitFirst : ℕ → List ℕ → Type 0
DigitFirst n ds = (1 ≤ length ds) × ((48 ≤ get_or ds 0 0) × (get_or ds 0 0 ≤ 57))

one_digit : (n : ℕ) → n < 10 → DigitFirst n ((48 + n) ∷ [])
one_digit n lt = (omega arith, (omega arith, omega (arith, lt)))

more_digits : (n : ℕ) (ds : List ℕ) → 10 ≤ n → DigitFirst (n / 10) ds → DigitFirst n (ds ++ ((48 + n % 10) ∷ []))
more_digits n [] le d = absurd (omega (arith, d.0))
more_digits n (b ∷ ds) le d = (omega arith, d.1)

pub digit_first : (n : ℕ) → n < 2 ^ 64 → DigitFirst n (decimal n)
digit_first n lt = decimal_by_steps DigitFirst one_digit more_digits n lt

head_letter : (h : Head) → 97 ≤ get_or (head_name h) 0 0
head_letter head.Durable = omega arith
head_letter head.Ended = omega arith
head_letter head.Unseen = omega arith
head_letter head.Told = omega arith
head_letter head.Crashed = omega arith
head_letter head.Stopped = omega arith
head_letter head.Started = omega arith
head_letter head.Nothing = omega arith
head_letter head.Unsettled = omega arith
head_letter head.Bad = omega arith
head_letter head.Disk = omega arith
head_letter head.Limit = omega arith
head_letter head.Spent = omega arith

number_or_head : (w : Word) (n : ℕ) (h : Head) → IsSmallNumber w n → IsHead w h → ⊥
number_or_head w n h g f =
    let e : get_or (decimal n) 0 0 ≡ get_or (head_name h) 0 0 = ap (λ v. get_or v 0 0) (sym g.0 ∙ f) in
    omega (arith, (digit_first n (omega (arith, g.1.1))).1.1, head_letter h, e)

pub first_once : (w : Word) (f g : First) → IsFirst w f → IsFirst w g → f ≡ g
first_once w (inl m) (inl n) p q = ap inl (small w m n p q)
first_once w (inl m) (inr h) p q = absurd (number_or_head w m h p q)
first_once w (inr h) (inl m) p q = absurd (number_or_head w m h q p)
first_once w (inr h) (inr i) p q = ap inr (head_once w h i p q)

-- a word that is neither
no_first : (w : Word) → ((n : ℕ) → IsSmallNumber w n → ⊥) → ((h : Head) → IsHead w h → ⊥) → (f : First) → IsFirst w f → ⊥
no_first w a b (inl n) g = a n g
no_first w a b (inr h) g = b h g

pub missing : (ws : List Word) → ws ≡ [] → IsMisfit SpellsShown ws (misfit.Unfit 0)
missing ws is = choice_lacks IsFirst Begun ws (misfit.Unfit 0) a_line (subst (λ d. 0 ≡ joined_len d) (sym is) refl, λ w rest h e g. cons_not_nil w rest (sym e ∙ is))

pub unknown : (ws : List Word) (w : Word) (rest : List Word) (n : ℕ) → ws ≡ w ∷ rest → n ≡ joined_len ws → ((n : ℕ) → IsSmallNumber w n → ⊥) → ((h : Head) → IsHead w h → ⊥) → IsMisfit SpellsShown ws (misfit.Unfit n)
unknown ws w rest n is len a b = choice_lacks IsFirst Begun ws (misfit.Unfit n) a_line (len, λ v others h e g. no_first w a b h (subst (λ u. IsFirst u h) (first_is v w others rest (sym e ∙ is)) g))

pub behind_first : (ws : List Word) (w : Word) (rest : List Word) (f : First) (r : Result Shown Misfit) → ws ≡ w ∷ rest → IsFirst w f → MatchResult r (Begun f rest) (IsMisfit (Begun f) rest) → MatchResult r (SpellsShown ws) (IsMisfit SpellsShown ws)
behind_first ws w rest f (Ok l) is p g = choice_is IsFirst Begun ws w rest f l is p g
behind_first ws w rest f (Err e) is p r = choice_has IsFirst Begun ws w rest f e (λ u q. first_once w u f q p) is p r
