-- What lines give, behind the watches of their clerks.
use Rattle.std.specs.Prelude.{◌≡◌, ◌+◌, ℕ, true, if◌then◌else◌, take, drop, List, [], ◌∷◌, ◌++◌, length, None, is_some}
use Rattle.ec_history.specs.History.{History}
use Rattle.ec_history.specs.Placing.{begun, owner, is_call_of, is_running, late, ops_in}
use Rattle.ec_history.specs.declared.entry.Entry.TheVariants as entry
use Rattle.ec_history.specs.declared.shown.Shown.{Shown}
use Rattle.ec_history.specs.declared.shown.Shown.TheVariants.{Answered}
use Rattle.ec_history.specs.declared.watch.Watch.{Watch}
use Rattle.ec_lines.specs.Index.{begun_in}
use Rattle.ec_base.specs.Options.{or_zero}

-- The start b was ended and isn't told yet.
pub record IsHeld (b : ℕ) (w : Watch) : Type 0 where
  pub untold : is_some w.untold ≡ true
  pub open_start : w.open_start ≡ None
  pub running : w.running ≡ true
  pub starts : w.starts ≡ b

-- the entry of an answer of this start
abbrev pub call_of_start : ℕ → List Shown → Shown → History
call_of_start b past (Answered l c cl a op) = (length past + 1, entry.Call c b l (begun_in b past (Answered l c cl a op)) cl a op) ∷ []
call_of_start b past _ = []

-- the same of the clerk's own answers alone
abbrev pub own_call : ℕ → ℕ → List Shown → Shown → History
own_call c b past s = if is_call_of c s then call_of_start b past s else []

-- the late answers behind a line at this place, if it ends the session of the running start
abbrev pub late_calls : ℕ → Watch → List Shown → ℕ → History
late_calls c w ss at = if is_running w (owner w) then late c (take (at + 1) ss) (drop (at + 1) ss) else []

-- what an ended line gives behind a watch of its clerk
abbrev pub loss_of : ℕ → Watch → List ℕ → List Shown → ℕ → History
loss_of c w ns ss at = late_calls c w ss at ++ (at + 1, entry.Loss c (or_zero (owner w)) (ns ++ ops_in (late_calls c w ss at))) ∷ []

-- what an answer gives behind a watch of its clerk
abbrev pub answer_behind : Watch → List Shown → Shown → History
answer_behind w past s = if is_some w.untold then [] else call_of_start (begun w).starts past s
