-- What the program tells of a transcript.
use Rattle.std.specs.Prelude.{◌≡◌, ◌⊎◌, ℕ, List, [], ◌∷◌, ◌++◌, codes}
use Rattle.std.specs.Fmt.{decimal}
use Rattle.std.specs.Io.KnownBytes.{Appends}
use Rattle.ec_base.specs.Outside.{Rose}
use Rattle.ec_history.specs.declared.rule.Rule.{Rule}
use Rattle.ec_history.specs.declared.rule.Rule.TheVariants as rule
use Rattle.ec_history.specs.declared.shown.Shown.TheVariants as shown
use Rattle.ec_history.specs.declared.shown.LimitName.TheVariants as limit
use Rattle.ec_words.specs.OfText.Lines.{shown_text}
use Rattle.ec_check.specs.Checked.{IsChecked, IsRefused}
use Rattle.ec_check.specs.declared.checking.Checked.TheVariants as checked
use Rattle.ec_check.specs.declared.checking.CheckFault.TheVariants as fault
use Rattle.ec_drill.specs.Seen.{Stream}
use Rattle.ec_echo.specs.Written.{WroteInPart}
use Rattle.ec_echo.specs.declared.status.Status.{Status}
use Rattle.ec_echo.specs.declared.status.Status.TheVariants as status

abbrev pub rule_text : Rule → List ℕ
rule_text rule.Shape = codes "shape"
rule_text rule.Number = codes "number"
rule_text rule.Report = codes "report"
rule_text rule.Room = codes "room"
rule_text rule.Reply = codes "reply"
rule_text rule.Named = codes "named"
rule_text rule.Covered = codes "covered"
rule_text rule.Touched = codes "touched"
rule_text rule.Closed = codes "closed"
rule_text rule.Fits = codes "fits"

-- the line that tells a legal transcript
abbrev pub legal_text : List ℕ
legal_text = codes "legal" ++ 10 ∷ []

-- the line that tells the first fault of a transcript, by its line and the rule
abbrev pub illegal_text : ℕ → Rule → List ℕ
illegal_text n r = codes "illegal " ++ decimal n ++ codes " " ++ rule_text r ++ 10 ∷ []

-- What the transcript is, with the status and the line that tell it: it's legal; this is its first fault; a line is outside the
-- grammar; there are too many bytes.
abbrev pub Finds : ℕ → Stream → Status → List ℕ → Type 0
Finds most source status.Done text = IsChecked source.bytes source.bytes_after most checked.Legal × (text ≡ legal_text)
Finds most source status.Illegal text = (n : ℕ) × (r : Rule) × IsChecked source.bytes source.bytes_after most (checked.Illegal n r) × (text ≡ illegal_text n r)
Finds most source status.BadLine text = (n : ℕ) × (column : ℕ) × IsRefused source.bytes source.bytes_after source.faults source.faults_after (fault.BadLine n column) × (text ≡ shown_text (shown.Bad n column))
Finds most source status.Limit text = (n : ℕ) × IsRefused source.bytes source.bytes_after source.faults source.faults_after (fault.Limit n) × (text ≡ shown_text (shown.Limit limit.Bytes n))
Finds most source _ text = ⊥

-- the line that tells what the transcript is was written
abbrev pub Tells : ℕ → Status → Stream → Stream → Type 0
Tells most st source sink = (text : List ℕ) × Finds most source st text × Appends sink.bytes sink.bytes_after text

-- a part of that line was written
abbrev pub TellsInPart : ℕ → Stream → Stream → Type 0
TellsInPart most source sink = (st : Status) × (text : List ℕ) × Finds most source st text × WroteInPart text sink.bytes sink.bytes_after

-- Each status, by its causes, with what was written.
abbrev pub Judged : ℕ → Status → Stream → Stream → Type 0
Judged most status.SourceFault source sink = Rose source.faults source.faults_after × (sink.bytes_after ≡ sink.bytes)
Judged most status.SinkFault source sink = Rose sink.faults sink.faults_after × TellsInPart most source sink
Judged most status.NoMemory source sink = TellsInPart most source sink ⊎ (sink.bytes_after ≡ sink.bytes)
Judged most st source sink = Tells most st source sink
