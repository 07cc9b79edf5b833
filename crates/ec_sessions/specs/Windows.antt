-- Windows: the numbers up to `low` are marked, and of the eight behind it those whose bit is set.
use Rattle.std.specs.Prelude.{◌==◌, ◌+◌, ◌-◌, ◌/◌, ◌%◌, ◌^◌, ℕ, zero, suc, Bool, true, false, ◌||◌, if◌then◌else◌, nat_lt, nat_le, bit_or}
use Rattle.std.specs.Int.{bit_at}
use Rattle.ec_sessions.specs.declared.window.Window.{Window}
use Rattle.ec_sessions.specs.declared.window.Marked.{Marked}
use Rattle.ec_sessions.specs.declared.window.Marked.TheVariants as answer

abbrev pub new_window : Window
new_window = record { low = 0; mask = 0 }

abbrev pub has : Window → ℕ → Bool
has w n = nat_le n w.low || (bit_at w.mask (n - w.low - 1) == 1)

-- `low` goes past marked numbers, at most so many
abbrev pub moved_past : ℕ → ℕ → ℕ → Window
moved_past zero low mask = record { low = low; mask = mask }
moved_past (suc k) low mask = if mask % 2 == 1 then moved_past k (low + 1) (mask / 2) else record { low = low; mask = mask }

-- the window with one more number, of the eight behind `low`
unfoldable pub marked : Window → ℕ → Window
marked w n = moved_past 8 w.low (bit_or w.mask (2 ^ (n - w.low - 1)))

abbrev pub mark_answer : Window → ℕ → Marked
mark_answer w n = if nat_lt (w.low + 8) n then answer.Beyond w.low else (if has w n then answer.Already else answer.Marked)

abbrev pub is_marked : Marked → Bool
is_marked answer.Marked = true
is_marked _ = false

abbrev pub after_mark : Window → ℕ → Window
after_mark w n = if is_marked (mark_answer w n) then marked w n else w
