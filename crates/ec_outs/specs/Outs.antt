-- What came out of a step, and what is kept of it.
use Rattle.std.specs.Prelude.{ℕ, List, [], ◌∷◌, Option}
use Rattle.ec_base.specs.declared.ids.Age.{Age}
use Rattle.ec_history.specs.declared.entry.Answer.{Answer}
use Rattle.ec_wire.specs.declared.msg.Msg.{Msg}
use Rattle.ec_wire.specs.Codes.{msg_code}
use Rattle.ec_protocol.specs.declared.clerk.Out.{Out}
use Rattle.ec_protocol.specs.declared.clerk.Out.TheVariants as out
use Rattle.ec_link.specs.Happenings.{each}

-- an answer, with its operation's number
abbrev pub Reply : Type 0
Reply = Answer × Option ℕ

abbrev pub send_of : Out → List Msg
send_of (out.Send msg) = msg ∷ []
send_of _ = []

abbrev pub sends : List Out → List Msg
sends = each send_of

-- the answers, by the numbers of their calls
abbrev pub answer_of : Out → List (ℕ × Reply)
answer_of (out.Answer number answer op) = (number, (answer, op)) ∷ []
answer_of _ = []

abbrev pub answers : List Out → List (ℕ × Reply)
answers = each answer_of

abbrev pub told_of : Out → List (List ℕ)
told_of (out.Told ops) = ops ∷ []
told_of _ = []

-- the operations that were told lost, as each session ended
abbrev pub told : List Out → List (List ℕ)
told = each told_of

abbrev pub old_boot_of : Out → List Age
old_boot_of (out.OldBoot age) = age ∷ []
old_boot_of _ = []

abbrev pub old_boots : List Out → List Age
old_boots = each old_boot_of

-- the bytes of a message
abbrev pub encoded : Msg → List ℕ
encoded msg = msg_code.spell msg
