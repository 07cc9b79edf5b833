-- The text of bytes, names, paths, numbers and clerks.
use Rattle.std.specs.Prelude.{ℕ, ◌+◌, ◌/◌, ◌%◌, ◌&&◌, not, ◌==◌, nat_lt, nat_le, if◌then◌else◌, List, [], ◌∷◌, ◌++◌, codes}
use Rattle.std.specs.List.{flat_map}
use Rattle.std.specs.Fmt.{decimal}
use Rattle.ec_plain.specs.Walk.{Path}

-- `0` to `9`, then `A` to `F`
abbrev pub hex_digit : ℕ → ℕ
hex_digit n = if nat_lt n 10 then 48 + n else 55 + n

-- `%` and all bytes outside 0x21 to 0x7E become `%` and two digits.
abbrev pub escaped_byte : ℕ → List ℕ
escaped_byte byte =
    if nat_le 33 byte && nat_le byte 126 && not (byte == 37) then byte ∷ []
    else 37 ∷ hex_digit (byte / 16) ∷ hex_digit (byte % 16) ∷ []

abbrev pub escaped : List ℕ → List ℕ
escaped bytes = flat_map escaped_byte bytes

-- a name of a path, with the `/` before it
abbrev pub step_text : List ℕ → List ℕ
step_text name = 47 ∷ escaped name

-- `/` alone, or each name with a `/` before it
abbrev pub path_text : Path → List ℕ
path_text [] = codes "/"
path_text (name ∷ names) = flat_map step_text (name ∷ names)

-- a mode as four octal digits
abbrev pub octal : ℕ → List ℕ
octal mode = (48 + mode / 512 % 8) ∷ (48 + mode / 64 % 8) ∷ (48 + mode / 8 % 8) ∷ (48 + mode % 8) ∷ []

-- `A` to `P`
abbrev pub clerk_text : ℕ → List ℕ
clerk_text clerk = (65 + clerk) ∷ []

abbrev pub next_number : ℕ → List ℕ
next_number n = 32 ∷ decimal n

-- numbers in their order, or `-`
abbrev pub numbers_text : List ℕ → List ℕ
numbers_text [] = codes "-"
numbers_text (n ∷ ns) = decimal n ++ flat_map next_number ns
