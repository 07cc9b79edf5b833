-- The answers of a script's calls on one plain volume, one after the other, and transcripts that show just these.
use Rattle.std.specs.Prelude.{◌==◌, ◌+◌, ℕ, true, false, drop, List, [], ◌∷◌, ◌++◌, Option, None, Some}
use Rattle.ec_volume.specs.Volume.{Images, after}
use Rattle.ec_volume.specs.declared.update.Update.{Update}
use Rattle.ec_plain.specs.Plain.{plain}
use Rattle.ec_plain.specs.declared.call.Call.{Call}
use Rattle.ec_plain.specs.declared.call.Outcome.{Outcome}
use Rattle.ec_history.specs.declared.entry.Answer.TheVariants as answer
use Rattle.ec_history.specs.declared.shown.Shown.{Shown}
use Rattle.ec_history.specs.declared.shown.Shown.TheVariants as show
use Rattle.ec_protocol.specs.declared.script.Line.{Line}
use Rattle.ec_protocol.specs.declared.script.Line.TheVariants as line

-- Calls of a script.

-- a call, with the number of its line and its clerk
abbrev pub Asking : Type 0
Asking = ℕ × ℕ × Call

abbrev pub asking_in : ℕ → Line → List Asking
asking_in n (line.Call c cl) = (n, c, cl) ∷ []
asking_in n _ = []

-- those of the lines, of which the first one has this number
abbrev pub asked_from : ℕ → List Line → List Asking
asked_from n [] = []
asked_from n (l ∷ ls) = asking_in n l ++ asked_from (n + 1) ls

-- Their plain answers.

-- the updates so far, and how many operations each clerk issued
pub record Plainly : Type 0 where
  pub updates : List Update
  pub issued : ℕ → ℕ

abbrev pub none_yet : Plainly
none_yet = record { updates = []; issued = λ c. 0 }

-- what the call comes to, where a new object is to have this id
abbrev pub outcome_on : Images → Plainly → Call → ℕ → Outcome
outcome_on v s cl id = plain (after v s.updates) cl id

-- the number of the clerk's operation, where the call has an update
abbrev pub operation_number : Plainly → ℕ → Option Update → Option ℕ
operation_number s c None = None
operation_number s c (Some u) = Some (s.issued c + 1)

abbrev pub after_call : Plainly → ℕ → Option Update → Plainly
after_call s c None = s
after_call s c (Some u) = record { updates = s.updates ++ u ∷ []; issued = λ d. elim (d == c) [ true ↦ s.issued d + 1 | false ↦ s.issued d ] }

abbrev pub first_number : List ℕ → ℕ
first_number [] = 0
first_number (id ∷ ids) = id

-- each call is answered by what it comes to behind those before it; a new object has the next one of these ids
abbrev pub answers_to : Images → Plainly → List ℕ → List Asking → List Shown
answers_to v s ids [] = []
answers_to v s ids (q ∷ qs) =
    let o = outcome_on v s q.2 (first_number ids) in
    show.Answered q.0 q.1 q.2 (answer.Reply o.reply) (operation_number s q.1 o.update) ∷ answers_to v (after_call s q.1 o.update) (drop 1 ids) qs

-- Transcripts.

abbrev pub answer_in : Shown → List Shown
answer_in (show.Answered l c cl a op) = show.Answered l c cl a op ∷ []
answer_in _ = []

-- the lines that answer calls
abbrev pub answers_in : List Shown → List Shown
answers_in [] = []
answers_in (s ∷ ss) = answer_in s ++ answers_in ss
