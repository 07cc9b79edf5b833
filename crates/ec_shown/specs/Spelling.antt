-- What the words of a transcript line stand for.
use Rattle.std.specs.Prelude.{◌≡◌, ◌≤◌, ◌+◌, ◌-◌, ◌^◌, ◌&&◌, not, ℕ, Bool, nat_le, eqb, if◌then◌else◌, Option, None, Some, List, [], ◌∷◌, length, codes}
use Rattle.ec_base.specs.Names.{IsName, path_fault, path_names}
use Rattle.ec_base.specs.declared.counter.Counter.{Counter}
use Rattle.ec_history.specs.declared.shown.LimitName.{LimitName}
use Rattle.ec_plain.specs.Walk.{Path}
use Rattle.ec_volume.specs.Limits.{max_write_bytes}
use Rattle.ec_volume.specs.declared.image.Kind.{Kind}
use Rattle.ec_words.specs.OfText.Answers.{kind_text}
use Rattle.ec_words.specs.OfText.Lines.{limit_text, counter_text}
use Rattle.ec_words.specs.Rows.{Word}
use Rattle.ec_words.specs.Spelling.{IsNumberIn, is_printed, hex_byte, led_by}
use Rattle.ec_shown.specs.declared.name.Head.{Head}
use Rattle.ec_shown.specs.declared.name.Head.TheVariants as head
use Rattle.ec_shown.specs.declared.name.Said.{Said}
use Rattle.ec_shown.specs.declared.name.Said.TheVariants as said
use Rattle.ec_shown.specs.declared.name.Why.{Why}
use Rattle.ec_shown.specs.declared.name.Why.TheVariants as why

-- Texts, in the one spelling of transcripts: a byte has an escape only where it needs one, of upper-case digits.

-- a byte that stands for itself
abbrev pub is_plain : ℕ → Bool
is_plain b = is_printed b && not (eqb b 37)

abbrev pub bare_byte : ℕ → Option ℕ
bare_byte b = if is_plain b then Some b else None

-- the value of a hexadecimal digit, which isn't in lower case
abbrev pub upper_digit : ℕ → Option ℕ
upper_digit b =
    if nat_le 48 b && nat_le b 57 then Some (b - 48)
    else if nat_le 65 b && nat_le b 70 then Some (b - 55)
    else None

-- a byte that needs an escape
abbrev pub unless_plain : Option ℕ → Option ℕ
unless_plain (Some b) = if is_plain b then None else Some b
unless_plain None = None

-- the byte of an escape
abbrev pub escape_of : ℕ → ℕ → Option ℕ
escape_of high low = unless_plain (hex_byte (upper_digit high) (upper_digit low))

-- the text that a word stands for
abbrev pub written_of : Word → Option (List ℕ)
written_of [] = Some []
written_of (b ∷ []) = if eqb b 37 then None else led_by (bare_byte b) (Some [])
written_of (b ∷ h ∷ []) = if eqb b 37 then None else led_by (bare_byte b) (written_of (h ∷ []))
written_of (b ∷ h ∷ l ∷ w) = if eqb b 37 then led_by (escape_of h l) (written_of w) else led_by (bare_byte b) (written_of (h ∷ l ∷ w))

-- the bytes of a write
abbrev pub IsWritten : Word → List ℕ → Type 0
IsWritten w bytes = (written_of w ≡ Some bytes) × ((1 ≤ length bytes) × (length bytes ≤ max_write_bytes))

-- a text of so many bytes
abbrev pub IsTextOf : ℕ → Word → List ℕ → Type 0
IsTextOf n w bytes = (written_of w ≡ Some bytes) × (length bytes ≡ n)

abbrev pub IsNameText : Word → List ℕ → Type 0
IsNameText w name = (written_of w ≡ Some name) × IsName name

abbrev pub IsPathShown : Word → Path → Type 0
IsPathShown w p = (bytes : List ℕ) × ((written_of w ≡ Some bytes) × ((path_fault bytes ≡ None) × (p ≡ path_names bytes)))

-- Numbers.

-- the place of a name in a path
abbrev pub IsPlace : Word → ℕ → Type 0
IsPlace = IsNumberIn 0 255

-- an owner other than 0
abbrev pub IsOwner : Word → ℕ → Type 0
IsOwner = IsNumberIn 1 (2 ^ 32 - 1)

-- an operation behind this one
abbrev pub IsAbove : ℕ → Word → ℕ → Type 0
IsAbove last = IsNumberIn (last + 1) (2 ^ 64 - 1)

-- Names.

abbrev pub IsKindName : Word → Kind → Type 0
IsKindName w k = w ≡ kind_text k

abbrev pub IsLimit : Word → LimitName → Type 0
IsLimit w n = w ≡ limit_text n

abbrev pub IsCounter : Word → Counter → Type 0
IsCounter w c = w ≡ counter_text c

-- what a line without a call begins with
abbrev pub head_name : Head → Word
head_name head.Durable = codes "durable"
head_name head.Ended = codes "ended"
head_name head.Unseen = codes "unseen"
head_name head.Told = codes "told"
head_name head.Crashed = codes "crashed"
head_name head.Stopped = codes "stopped"
head_name head.Started = codes "started"
head_name head.Nothing = codes "none"
head_name head.Unsettled = codes "unsettled"
head_name head.Bad = codes "bad"
head_name head.Disk = codes "disk"
head_name head.Limit = codes "limit"
head_name head.Spent = codes "spent"

abbrev pub IsHead : Word → Head → Type 0
IsHead w h = w ≡ head_name h

-- what an answer begins with
abbrev pub said_name : Said → Word
said_name said.Waits = codes "waits"
said_name said.Ok = codes "ok"
said_name said.Data = codes "data"
said_name said.Stat = codes "stat"
said_name said.Names = codes "names"
said_name said.Refused = codes "refused"
said_name said.NoRoom = codes "noroom"
said_name said.Lost = codes "lost"

abbrev pub IsSaid : Word → Said → Type 0
IsSaid w s = w ≡ said_name s

-- the names of refusals
abbrev pub why_name : Why → Word
why_name why.NotFound = codes "NotFound"
why_name why.NotDir = codes "NotDir"
why_name why.IsDir = codes "IsDir"
why_name why.Exists = codes "Exists"
why_name why.NotEmpty = codes "NotEmpty"
why_name why.TooLong = codes "TooLong"
why_name why.DirFull = codes "DirFull"
why_name why.Root = codes "Root"
why_name why.Loop = codes "Loop"

abbrev pub IsWhy : Word → Why → Type 0
IsWhy w y = w ≡ why_name y
