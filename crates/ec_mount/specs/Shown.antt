-- What a mount writes.
use Rattle.std.specs.Prelude.{◌+◌, ℕ, List, [], ◌∷◌, ◌++◌, codes}
use Rattle.std.specs.List.{flat_map}
use Rattle.std.specs.Fmt.{decimal}
use Rattle.ec_base.specs.declared.ids.Age.{Age}
use Rattle.ec_words.specs.OfText.Answers.{answered_text}
use Rattle.ec_words.specs.OfText.Calls.{call_text}
use Rattle.ec_words.specs.OfText.Pieces.{numbers_text}
use Rattle.ec_mount.specs.Script.{rows_of}
use Rattle.ec_mount.specs.declared.script.Row.{Row}
use Rattle.ec_outs.specs.Outs.{Reply}

-- a row with its answer
abbrev pub row_text : Row → Reply → List ℕ
row_text row reply = decimal row.line ++ codes " " ++ decimal row.lane ++ codes " " ++ call_text row.call ++ codes " -> " ++ answered_text reply.0 reply.1 ++ 10 ∷ []

abbrev pub answers_text : List Row → List Reply → List ℕ
answers_text (row ∷ rows) (reply ∷ replies) = row_text row reply ++ answers_text rows replies
answers_text _ _ = []

-- lane by lane, from this one on
abbrev pub lanes_text : ℕ → List Row → List (List Reply) → List ℕ
lanes_text lane rows [] = []
lanes_text lane rows (replies ∷ all) = answers_text (rows_of lane rows) replies ++ lanes_text (lane + 1) rows all

-- the operations that were told lost as a session ended
abbrev pub told_text : List ℕ → List ℕ
told_text ops = codes "told lost " ++ numbers_text ops ++ 10 ∷ []

-- the answer to the last sync
abbrev pub end_text : Reply → List ℕ
end_text reply = codes "end sync -> " ++ answered_text reply.0 reply.1 ++ 10 ∷ []

-- the answers that came, lane by lane, and what was told lost
abbrev pub came_text : List Row → List (List Reply) → List (List ℕ) → List ℕ
came_text rows all told = lanes_text 1 rows all ++ flat_map told_text told

abbrev pub mount_text : List Row → List (List Reply) → List (List ℕ) → Reply → List ℕ
mount_text rows all told last = came_text rows all told ++ end_text last

-- the last line where the server knows a greater age
abbrev pub old_boot_text : Age → List ℕ
old_boot_text age = codes "oldboot " ++ decimal age.boot ++ 10 ∷ []

-- the last line where the server sent what is no message
abbrev pub peer_text : ℕ → List ℕ
peer_text place = codes "peer " ++ decimal place ++ 10 ∷ []
