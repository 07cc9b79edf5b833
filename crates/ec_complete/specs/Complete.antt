-- Scripts without faults: where each line settles, each call is answered, as one plain volume answers it.
use Rattle.std.specs.Prelude.{◌≡◌, ◌<◌, ℕ, List, [], ◌∷◌, length, ⊤}
use Rattle.ec_history.specs.Placing.{EachLine}
use Rattle.ec_history.specs.declared.shown.Shown.{Shown}
use Rattle.ec_volume.specs.Volume.{Images}
use Rattle.ec_protocol.specs.Drill.{Read, reads, unfit}
use Rattle.ec_protocol.specs.declared.script.Line.{Line}
use Rattle.ec_protocol.specs.declared.script.Line.TheVariants as line
use Rattle.ec_lawful.specs.Headline.{IsGreatest}
use Rattle.ec_quiet.specs.Settling.{IsSettled}
use Rattle.ec_machine_laws.specs.Answers.{answers_in, answers_to, asked_from, none_yet}

-- The line makes no fault: it's a comment, a call or a push.
abbrev pub IsFaultless : Line → Type 0
IsFaultless line.Comment = ⊤
IsFaultless (line.Call c cl) = ⊤
IsFaultless (line.Push c n) = ⊤
IsFaultless _ = ⊥

abbrev pub IsFaultlessRead : Read → Type 0
IsFaultlessRead (reads l column) = IsFaultless l
IsFaultlessRead (unfit column) = ⊥

-- each is above the one before it, and the first one above this
abbrev pub AreRising : ℕ → List ℕ → Type 0
AreRising n [] = ⊤
AreRising n (id ∷ ids) = (n < id) × AreRising id ids

-- A run over these lines on this volume: its status is 0, no line says that messages didn't settle, or why it ended early; and its answers are, in order, the
-- plain ones to all calls of the script. A new object gets the next of these ids, one for each call, which rise above the greatest id of the volume.
pub record IsComplete (v : Images) (lines : List Line) (shown : List Shown) (status : ℕ) : Type 0 where
  pub done : status ≡ 0
  pub settled : EachLine IsSettled shown
  pub top : ℕ
  pub greatest : IsGreatest v top
  pub ids : List ℕ
  pub rising : AreRising top ids
  pub one_each : length ids ≡ length (asked_from 1 lines)
  pub answers : answers_in shown ≡ answers_to v none_yet ids (asked_from 1 lines)
