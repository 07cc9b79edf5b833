-- The fields of the codes, each with its range.
use Rattle.std.specs.Prelude.{◌==◌, ◌+◌, ℕ, Bool, true, false, not, ◌&&◌, if◌then◌else◌, nat_le, List, [], ◌∷◌, length, Option, None, Some, is_none}
use Rattle.std.specs.Int.{w8, w16, w32, w64}
use Rattle.ec_base.specs.Limits.{max_name_bytes}
use Rattle.ec_base.specs.Names.{name_fault}
use Rattle.ec_volume.specs.Update.{member}
use Rattle.ec_volume.specs.declared.image.Kind.{Kind}
use Rattle.ec_volume.specs.declared.image.Kind.TheVariants as kind
use Rattle.ec_codes.specs.Formats.{Format, byte, number, such, standing, text}
use Rattle.ec_base.specs.Options.{or_zero}

-- any u32
unfoldable pub word : Format ℕ
word = number w32

-- any u64
unfoldable pub long : Format ℕ
long = number w64

-- an object's id, from 1
unfoldable pub id : Format ℕ
id = such (λ n. nat_le 1 n) (number w32)

-- an id that isn't one of these
abbrev pub id_but : List ℕ → Format ℕ
id_but os = such (λ o. not (member o os)) id

abbrev pub kind_number : Kind → ℕ
kind_number kind.File = 1
kind_number kind.Dir = 2

abbrev pub kind_of : ℕ → Option Kind
kind_of n = if n == 1 then Some kind.File else if n == 2 then Some kind.Dir else None

-- 1 for a file, 2 for a directory
unfoldable pub kind_field : Format Kind
kind_field = standing kind_number (λ k. true) kind_of byte

abbrev pub flag_number : Bool → ℕ
flag_number false = 0
flag_number true = 1

abbrev pub flag_of : ℕ → Option Bool
flag_of n = if n == 0 then Some false else if n == 1 then Some true else None

-- 0 for no, 1 for yes
unfoldable pub flag : Format Bool
flag = standing flag_number (λ b. true) flag_of byte

abbrev pub is_from_one : Option ℕ → Bool
is_from_one None = true
is_from_one (Some o) = nat_le 1 o

abbrev pub id_or_none : ℕ → Option (Option ℕ)
id_or_none n = if n == 0 then Some None else Some (Some n)

abbrev pub is_apart : List ℕ → Option ℕ → Bool
is_apart os None = true
is_apart os (Some o) = not (member o os)

-- 0 for none, or an id that isn't one of these
abbrev pub victim_but : List ℕ → Format (Option ℕ)
victim_but os = such (is_apart os) (standing or_zero is_from_one id_or_none (number w32))

-- a mode, at most 0o7777
unfoldable pub mode_field : Format ℕ
mode_field = such (λ m. nat_le m 4095) (number w16)

abbrev pub is_name_length : ℕ → Bool
is_name_length n = nat_le 1 n && nat_le n max_name_bytes

abbrev pub is_name : List ℕ → Bool
is_name bs = is_none (name_fault bs)

-- a length in one byte, and so many bytes
unfoldable pub name : Format (List ℕ)
name = such is_name (text (such is_name_length byte))
