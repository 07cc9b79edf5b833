-- Several marks in a window, one after the other.
use Rattle.std.specs.Prelude.{◌==◌, ◌+◌, ℕ, if◌then◌else◌, List, [], ◌∷◌}
use Rattle.ec_sessions.specs.declared.window.Window.{Window}
use Rattle.ec_sessions.specs.Windows.{mark_answer, is_marked, after_mark}

-- Over a list of marks: the window after them, and the numbers that were answered `Marked`.

abbrev pub after_marks : Window → List ℕ → Window
after_marks w [] = w
after_marks w (n ∷ ns) = after_marks (after_mark w n) ns

abbrev pub newly_marked : Window → List ℕ → List ℕ
newly_marked w [] = []
newly_marked w (n ∷ ns) = if is_marked (mark_answer w n) then n ∷ newly_marked (after_mark w n) ns else newly_marked (after_mark w n) ns

-- how often a number stands in a list
abbrev pub times : ℕ → List ℕ → ℕ
times n [] = 0
times n (m ∷ ms) = (if m == n then 1 else 0) + times n ms
