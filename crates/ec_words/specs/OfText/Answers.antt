-- The text of answers.
use Rattle.std.specs.Prelude.{ℕ, List, [], ◌∷◌, ◌++◌, ◌==◌, if◌then◌else◌, length, codes, Option, None, Some}
use Rattle.std.specs.List.{flat_map}
use Rattle.std.specs.Fmt.{decimal}
use Rattle.ec_volume.specs.declared.image.Kind.{Kind}
use Rattle.ec_volume.specs.declared.image.Kind.TheVariants as kind
use Rattle.ec_plain.specs.declared.call.Reply.{Reply}
use Rattle.ec_plain.specs.declared.call.Reply.TheVariants as reply
use Rattle.ec_plain.specs.declared.call.Refusal.{Refusal}
use Rattle.ec_plain.specs.declared.call.Refusal.TheVariants as refusal
use Rattle.ec_history.specs.declared.entry.Answer.{Answer}
use Rattle.ec_history.specs.declared.entry.Answer.TheVariants as answer
use Rattle.ec_words.specs.OfText.Pieces.{escaped, octal, numbers_text}

-- a refusal by its name, with its number where it has one
abbrev pub refusal_text : Refusal → List ℕ
refusal_text (refusal.NotFound i) = codes "NotFound " ++ decimal i
refusal_text (refusal.NotDir i) = codes "NotDir " ++ decimal i
refusal_text refusal.IsDir = codes "IsDir"
refusal_text refusal.Exists = codes "Exists"
refusal_text refusal.NotEmpty = codes "NotEmpty"
refusal_text refusal.TooLong = codes "TooLong"
refusal_text refusal.DirFull = codes "DirFull"
refusal_text refusal.Root = codes "Root"
refusal_text refusal.Loop = codes "Loop"

abbrev pub kind_text : Kind → List ℕ
kind_text kind.File = codes "file"
kind_text kind.Dir = codes "dir"

-- a text stands only where there is one
abbrev pub data_text : List ℕ → List ℕ
data_text [] = []
data_text (byte ∷ bytes) = 32 ∷ escaped (byte ∷ bytes)

abbrev pub next_name : List ℕ → List ℕ
next_name name = 32 ∷ escaped name

-- an owner stands only where it isn't 0
abbrev pub owner_text : ℕ → List ℕ
owner_text owner = if owner == 0 then [] else codes " owner " ++ decimal owner

abbrev pub reply_text : Reply → List ℕ
reply_text reply.Ok = codes "ok"
reply_text (reply.Data bytes) = codes "data " ++ decimal (length bytes) ++ data_text bytes
reply_text (reply.Stat k mode stamp owner size) = codes "stat " ++ kind_text k ++ codes " " ++ octal mode ++ codes " " ++ decimal stamp ++ codes " " ++ decimal size ++ owner_text owner
reply_text (reply.Names names) = codes "names " ++ decimal (length names) ++ flat_map next_name names
reply_text (reply.Refused why) = codes "refused " ++ refusal_text why

abbrev pub answer_text : Answer → List ℕ
answer_text (answer.Reply r) = reply_text r
answer_text (answer.NoRoom live reserved) = codes "noroom " ++ decimal live ++ codes " " ++ decimal reserved
answer_text (answer.Lost ops) = codes "lost " ++ numbers_text ops

-- An answer with an operation names it.
abbrev pub answered_text : Answer → Option ℕ → List ℕ
answered_text a None = answer_text a
answered_text a (Some op) = codes "ok op " ++ decimal op
