-- The text of transcript lines.
use Rattle.std.specs.Prelude.{ℕ, List, [], ◌∷◌, ◌++◌, codes}
use Rattle.std.specs.List.{flat_map}
use Rattle.std.specs.Fmt.{decimal}
use Rattle.ec_base.specs.declared.counter.Counter.{Counter}
use Rattle.ec_base.specs.declared.counter.Counter.TheVariants as counter
use Rattle.ec_plain.specs.declared.call.Call.{Call}
use Rattle.ec_history.specs.declared.shown.Shown.{Shown}
use Rattle.ec_history.specs.declared.shown.Shown.TheVariants as shown
use Rattle.ec_history.specs.declared.shown.LimitName.{LimitName}
use Rattle.ec_history.specs.declared.shown.LimitName.TheVariants as limit
use Rattle.ec_words.specs.OfText.Pieces.{clerk_text, numbers_text}
use Rattle.ec_words.specs.OfText.Calls.{call_text}
use Rattle.ec_words.specs.OfText.Answers.{answered_text}

abbrev pub limit_text : LimitName → List ℕ
limit_text limit.Bytes = codes "bytes"
limit_text limit.Lines = codes "lines"
limit_text limit.Pending = codes "pending"

abbrev pub counter_text : Counter → List ℕ
counter_text counter.Boot = codes "Boot"
counter_text counter.Session = codes "Session"
counter_text counter.Epoch = codes "Epoch"
counter_text counter.Number = codes "Number"
counter_text counter.Op = codes "Op"
counter_text counter.Batch = codes "Batch"
counter_text counter.CallNo = codes "CallNo"
counter_text counter.Ask = codes "Ask"
counter_text counter.Pass = codes "Pass"
counter_text counter.Id = codes "Id"
counter_text counter.Round = codes "Round"

-- the number of the script line, the clerk and the call
abbrev pub asked_text : ℕ → ℕ → Call → List ℕ
asked_text n clerk c = decimal n ++ codes " " ++ clerk_text clerk ++ codes " " ++ call_text c

-- a line without its end
abbrev pub shown_line : Shown → List ℕ
shown_line (shown.Waits n clerk c) = asked_text n clerk c ++ codes " -> waits"
shown_line (shown.Answered n clerk c answer op) = asked_text n clerk c ++ codes " -> " ++ answered_text answer op
shown_line (shown.Durable clerk ops) = codes "durable " ++ clerk_text clerk ++ codes " " ++ numbers_text ops
shown_line (shown.Ended clerk ops) = codes "ended " ++ clerk_text clerk ++ codes " lost " ++ numbers_text ops
shown_line (shown.Unseen clerk) = codes "unseen " ++ clerk_text clerk
shown_line (shown.Told clerk ops) = codes "told " ++ clerk_text clerk ++ codes " lost " ++ numbers_text ops
shown_line (shown.Crashed clerk) = codes "crashed " ++ clerk_text clerk
shown_line shown.Stopped = codes "stopped"
shown_line shown.Started = codes "started"
shown_line shown.Nothing = codes "none"
shown_line shown.Unsettled = codes "unsettled"
shown_line (shown.Bad line column) = codes "bad " ++ decimal line ++ codes " col " ++ decimal column
shown_line (shown.DiskBad place) = codes "disk bad " ++ decimal place
shown_line (shown.Limit name n) = codes "limit " ++ limit_text name ++ codes " " ++ decimal n
shown_line (shown.Spent name) = codes "spent " ++ counter_text name

-- A written line ends in LF.
abbrev pub shown_text : Shown → List ℕ
shown_text s = shown_line s ++ 10 ∷ []

-- the text of whole lines
abbrev pub text_of : List Shown → List ℕ
text_of ss = flat_map shown_text ss
