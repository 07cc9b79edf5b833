-- What a word of a line stands for.
use Rattle.std.specs.Prelude.{◌≡◌, ◌≤◌, ◌<◌, ◌+◌, ◌*◌, ◌-◌, ◌^◌, ◌&&◌, ℕ, Bool, nat_le, eqb, if◌then◌else◌, Option, None, Some, List, [], ◌∷◌, length, codes}
use Rattle.std.specs.Fmt.{decimal}
use Rattle.ec_base.specs.Limits.{clerk_count}
use Rattle.ec_base.specs.Names.{path_fault, path_names}
use Rattle.ec_disk.specs.declared.disk.Choice.{Choice}
use Rattle.ec_disk.specs.declared.disk.Choice.TheVariants as choice
use Rattle.ec_plain.specs.Bounds.{max_read_bytes}
use Rattle.ec_plain.specs.Walk.{Path}
use Rattle.ec_volume.specs.Limits.{max_write_bytes}
use Rattle.ec_wire.specs.declared.msg.MsgKind.{MsgKind}
use Rattle.ec_wire.specs.declared.msg.MsgKind.TheVariants as kind
use Rattle.ec_words.specs.Rows.{Word}
use Rattle.ec_words.specs.declared.name.Verb.{Verb}
use Rattle.ec_words.specs.declared.name.Verb.TheVariants as verb
use Rattle.ec_words.specs.declared.name.Keyword.{Keyword}
use Rattle.ec_words.specs.declared.name.Keyword.TheVariants as keyword

-- the first clerk is `A`
abbrev pub IsClerk : Word → ℕ → Type 0
IsClerk w c = (w ≡ (65 + c) ∷ []) × (c < clerk_count)

-- Numbers.

-- in decimal, without leading zeros, from `least` to `most`
abbrev pub IsNumberIn : ℕ → ℕ → Word → ℕ → Type 0
IsNumberIn least most w n = (w ≡ decimal n) × ((least ≤ n) × (n ≤ most))

-- a place, a length, an owner, or the place of a message among its like
abbrev pub IsSmallNumber : Word → ℕ → Type 0
IsSmallNumber = IsNumberIn 0 (2 ^ 32 - 1)

-- a stamp or an operation
abbrev pub IsNumber : Word → ℕ → Type 0
IsNumber = IsNumberIn 0 (2 ^ 64 - 1)

-- how many bytes a read asks for
abbrev pub IsCount : Word → ℕ → Type 0
IsCount = IsNumberIn 0 max_read_bytes

-- a stop is armed for one of so many device calls
abbrev pub max_armed : ℕ
max_armed = 1000000

abbrev pub IsArmed : Word → ℕ → Type 0
IsArmed = IsNumberIn 1 max_armed

abbrev pub max_lane : ℕ
max_lane = 8

abbrev pub IsLane : Word → ℕ → Type 0
IsLane = IsNumberIn 1 max_lane

-- an octal digit
abbrev pub is_octal : ℕ → Bool
is_octal b = nat_le 48 b && nat_le b 55

-- four octal digits
abbrev pub mode_of : Word → Option ℕ
mode_of (a ∷ b ∷ c ∷ d ∷ []) = if is_octal a && is_octal b && is_octal c && is_octal d then Some ((a - 48) * 512 + (b - 48) * 64 + (c - 48) * 8 + (d - 48)) else None
mode_of _ = None

abbrev pub IsMode : Word → ℕ → Type 0
IsMode w mode = mode_of w ≡ Some mode

-- Texts and paths.

-- a byte that a word may have
abbrev pub is_printed : ℕ → Bool
is_printed b = nat_le 33 b && nat_le b 126

-- the value of a hexadecimal digit of either case
abbrev pub hex_digit : ℕ → Option ℕ
hex_digit b =
    if nat_le 48 b && nat_le b 57 then Some (b - 48)
    else if nat_le 97 b && nat_le b 102 then Some (b - 87)
    else if nat_le 65 b && nat_le b 70 then Some (b - 55)
    else None

-- the byte of two digits
abbrev pub hex_byte : Option ℕ → Option ℕ → Option ℕ
hex_byte (Some h) (Some l) = Some (h * 16 + l)
hex_byte _ _ = None

-- this byte in front of a text
abbrev pub led_by : Option ℕ → Option (List ℕ) → Option (List ℕ)
led_by (Some b) (Some bytes) = Some (b ∷ bytes)
led_by _ _ = None

abbrev pub plain_byte : ℕ → Option ℕ
plain_byte b = if is_printed b then Some b else None

-- The text that a word stands for: `%` and two hexadecimal digits stand for one byte, every other byte for itself.
abbrev pub text_of : Word → Option (List ℕ)
text_of [] = Some []
text_of (b ∷ []) = if eqb b 37 then None else led_by (plain_byte b) (Some [])
text_of (b ∷ h ∷ []) = if eqb b 37 then None else led_by (plain_byte b) (text_of (h ∷ []))
text_of (b ∷ h ∷ l ∷ w) = if eqb b 37 then led_by (hex_byte (hex_digit h) (hex_digit l)) (text_of w) else led_by (plain_byte b) (text_of (h ∷ l ∷ w))

-- the bytes of a write
abbrev pub IsText : Word → List ℕ → Type 0
IsText w bytes = (text_of w ≡ Some bytes) × ((1 ≤ length bytes) × (length bytes ≤ max_write_bytes))

-- Escapes are read before the names are told apart.
abbrev pub IsPathText : Word → Path → Type 0
IsPathText w p = (bytes : List ℕ) × ((text_of w ≡ Some bytes) × ((path_fault bytes ≡ None) × (p ≡ path_names bytes)))

-- Names.

abbrev pub kind_name : MsgKind → Word
kind_name kind.Hello = codes "hello"
kind_name kind.Want = codes "want"
kind_name kind.Back = codes "back"
kind_name kind.Flush = codes "flush"
kind_name kind.Room = codes "room"
kind_name kind.Claim = codes "claim"
kind_name kind.Bye = codes "bye"
kind_name kind.Opened = codes "opened"
kind_name kind.Grant = codes "grant"
kind_name kind.Recall = codes "recall"
kind_name kind.Kept = codes "kept"
kind_name kind.Ids = codes "ids"
kind_name kind.NoRoom = codes "noroom"
kind_name kind.Ended = codes "ended"
kind_name kind.Restarted = codes "restarted"
kind_name kind.OldBoot = codes "oldboot"

abbrev pub IsKind : Word → MsgKind → Type 0
IsKind w k = w ≡ kind_name k

abbrev pub choice_name : Choice → Word
choice_name choice.Old = codes "old"
choice_name choice.New = codes "new"
choice_name choice.Torn = codes "torn"

abbrev pub IsChoice : Word → Choice → Type 0
IsChoice w c = w ≡ choice_name c

abbrev pub verb_name : Verb → Word
verb_name verb.Mkdir = codes "mkdir"
verb_name verb.Create = codes "create"
verb_name verb.Write = codes "write"
verb_name verb.SetLen = codes "setlen"
verb_name verb.Read = codes "read"
verb_name verb.Chmod = codes "chmod"
verb_name verb.Touch = codes "touch"
verb_name verb.Stat = codes "stat"
verb_name verb.List = codes "list"
verb_name verb.Remove = codes "remove"
verb_name verb.Rmdir = codes "rmdir"
verb_name verb.Rename = codes "rename"
verb_name verb.Fsync = codes "fsync"
verb_name verb.Forder = codes "forder"
verb_name verb.Sync = codes "sync"
verb_name verb.Chown = codes "chown"

abbrev pub IsVerb : Word → Verb → Type 0
IsVerb w v = w ≡ verb_name v

abbrev pub keyword_name : Keyword → Word
keyword_name keyword.Push = codes "push"
keyword_name keyword.Cut = codes "cut"
keyword_name keyword.Uncut = codes "uncut"
keyword_name keyword.Drop = codes "drop"
keyword_name keyword.Repeat = codes "repeat"
keyword_name keyword.Deliver = codes "deliver"
keyword_name keyword.Resend = codes "resend"
keyword_name keyword.Crash = codes "crash"
keyword_name keyword.End = codes "end"
keyword_name keyword.Stop = codes "stop"
keyword_name keyword.Arm = codes "arm"
keyword_name keyword.Restart = codes "restart"

abbrev pub IsKeyword : Word → Keyword → Type 0
IsKeyword w k = w ≡ keyword_name k
