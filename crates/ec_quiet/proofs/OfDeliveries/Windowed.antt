-- The next batch moves a window.
use Rattle.std.proofs.Common.{◌≡◌, ap, ◌∙◌, arith, ◌+◌, ◌-◌, ◌^◌, ℕ, false, ◌==◌, ◌||◌, cond, bit_or}
use Rattle.std.specs.Int.{bit_at}
use Rattle.std.specs.Prelude.{nat_le, nat_lt}
use Rattle.std.proofs.lemmas.Bool.Decides.{nat_tests}
use Rattle.ec_sessions.specs.Windows.{has, moved_past, marked, mark_answer, is_marked, after_mark}
use Rattle.ec_sessions.specs.declared.window.Marked.{Marked}
use Rattle.ec_sessions.specs.declared.window.Marked.TheVariants as answer
use Rattle.ec_sessions.specs.declared.window.Window.{Window}

above : (l : ℕ) → nat_le (l + 1) l ≡ false
above l = grind (arith, nat_tests)

near : (l : ℕ) → nat_lt (l + 8) (l + 1) ≡ false
near l = grind (arith, nat_tests)

place : (l : ℕ) → l + 1 - l - 1 ≡ 0
place l = omega arith

abbrev at-low : ℕ → Window
at-low l = record { low = l; mask = 0 }

new-at : (l : ℕ) → has (record { low = l; mask = 0 }) (l + 1) ≡ false
new-at l = ap (λ b. b || (bit_at 0 (l + 1 - l - 1) == 1)) (above l) ∙ ap (λ i. bit_at 0 i == 1) (place l)

marks : (l : ℕ) → mark_answer (record { low = l; mask = 0 }) (l + 1) ≡ answer.Marked
marks l =
    ap (λ b. cond b (answer.Beyond l) (cond (has (at-low l) (l + 1)) answer.Already answer.Marked)) (near l)
    ∙ ap (λ b. cond {A = Marked} b answer.Already answer.Marked) (new-at l)

moves : (l : ℕ) → after_mark (record { low = l; mask = 0 }) (l + 1) ≡ record { low = l + 1; mask = 0 }
unfolding marked
moves l = ap (λ a. cond (is_marked a) (marked (at-low l) (l + 1)) (at-low l)) (marks l) ∙ ap (λ i. moved_past 8 l (bit_or 0 (2 ^ i))) (place l)

pub next-new : (w : Window) → w.mask ≡ 0 → has w (w.low + 1) ≡ false
next-new w e = ap (λ m. has (record { low = w.low; mask = m }) (w.low + 1)) e ∙ new-at w.low

pub next-moved : (w : Window) → w.mask ≡ 0 → after_mark w (w.low + 1) ≡ record { low = w.low + 1; mask = 0 }
next-moved w e = ap (λ m. after_mark (record { low = w.low; mask = m }) (w.low + 1)) e ∙ moves w.low
