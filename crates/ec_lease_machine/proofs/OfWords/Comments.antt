-- No comment begins with a word of clocks and leases.
use Rattle.std.proofs.Common.{◌≡◌, ℕ, ◌≤◌, List, [], ◌∷◌, get_or, refl, sym, ap, subst, ◌∙◌, arith}
use Rattle.ec_words.specs.Pieces.{onto}
use Rattle.ec_words.specs.Words.{words_of}
use Rattle.ec_words.specs.Rows.{Word}
use Rattle.ec_script.specs.Grammar.{IsComment}
use Rattle.ec_lease_machine.specs.OfWords.Grammar.{IsClockWord, clock_name}
use Rattle.ec_lease_machine.specs.declared.words.name.ClockWord.{ClockWord}
use Rattle.ec_lease_machine.specs.declared.words.name.ClockWord.TheVariants as clock

letter : (x : ClockWord) → 97 ≤ get_or (clock_name x) 0 0
letter clock.Tick = omega arith
letter clock.Skew = omega arith
letter clock.Grant = omega arith
letter clock.Hand = omega arith

-- the first byte of the first word
abbrev first_byte : List Word → ℕ
first_byte [] = 0
first_byte (w ∷ ws) = get_or w 0 0

led : (b : ℕ) (ws : List Word) → first_byte (onto b ws) ≡ b
led b [] = refl
led b (w ∷ ws) = refl

clock_led : (ws : List Word) (w : Word) (rest : List Word) (x : ClockWord) → ws ≡ w ∷ rest → IsClockWord w x → 97 ≤ first_byte ws
clock_led ws w rest x is e = let same : first_byte ws ≡ get_or (clock_name x) 0 0 = ap first_byte is ∙ ap (λ v. get_or v 0 0) e in omega (arith, letter x, same)

pub comment_or_clock : (bytes : List ℕ) (w : Word) (rest : List Word) (x : ClockWord) → words_of bytes ≡ w ∷ rest → IsClockWord w x → IsComment bytes → ⊥
comment_or_clock [] w rest x is e i = omega (arith, clock_led (words_of []) w rest x is e)
comment_or_clock (b ∷ bs) w rest x is e i =
    let high : 97 ≤ first_byte (words_of (b ∷ bs)) = clock_led (words_of (b ∷ bs)) w rest x is e in
    let low : first_byte (words_of (b ∷ bs)) ≡ 35 = subst (λ n. first_byte (words_of (n ∷ bs)) ≡ 35) (sym i) (led 35 (words_of bs)) in
    omega (arith, high, low)
