-- Which bytes are a name, and which lists of names are a path.
use Rattle.std.specs.Prelude.{◌≡◌, ◌+◌, ◌||◌, ◌&&◌, ℕ, Bool, false, List, [], ◌∷◌, Option, Some, None, length, eqb, ltb, if◌then◌else◌}
use Rattle.std.specs.List.{position, slice_split}
use Rattle.std.specs.Str.{is_utf8}
use Rattle.ec_base.specs.Limits.{max_name_bytes, max_path_names}
use Rattle.ec_base.specs.declared.name.NameFault.{NameFault}
use Rattle.ec_base.specs.declared.name.NameFault.TheVariants as fault
use Rattle.ec_base.specs.declared.name.PathFault.{PathFault}
use Rattle.ec_base.specs.declared.name.PathFault.TheVariants as unread

abbrev pub is_slash : ℕ → Bool
is_slash byte = eqb byte 47

-- a slash or NUL
abbrev pub is_bad : ℕ → Bool
is_bad byte = is_slash byte || eqb byte 0

-- `.` or `..`
abbrev pub is_dots : List ℕ → Bool
is_dots (a ∷ []) = eqb a 46
is_dots (a ∷ b ∷ []) = eqb a 46 && eqb b 46
is_dots _ = false

abbrev pub fault_in_text : List ℕ → Option ℕ → Option NameFault
fault_in_text bytes (Some at) = Some (fault.BadByte at)
fault_in_text bytes None = if is_dots bytes then Some fault.DotName else (if is_utf8 bytes then None else Some fault.NotUtf8)

-- the first fault, in the order of the tests
abbrev pub name_fault : List ℕ → Option NameFault
name_fault bytes = if eqb (length bytes) 0 then Some fault.Empty else (if ltb max_name_bytes (length bytes) then Some fault.Long else fault_in_text bytes (position is_bad bytes))

abbrev pub IsName : List ℕ → Type 0
IsName bytes = name_fault bytes ≡ None

-- the names that the bytes after the first one hold: no name where there is none, and else the parts between the slashes
abbrev pub path_names : List ℕ → List (List ℕ)
path_names (slash ∷ byte ∷ bytes) = slice_split is_slash (byte ∷ bytes)
path_names _ = []

abbrev pub or_later : ℕ → Option NameFault → Option PathFault → Option PathFault
or_later place (Some f) later = Some (unread.Name place f)
or_later place None later = later

-- the first fault of names of which this many stand before
abbrev pub names_fault : ℕ → List (List ℕ) → Option PathFault
names_fault before [] = None
names_fault before (name ∷ names) = if ltb before max_path_names then or_later (before + 1) (name_fault name) (names_fault (before + 1) names) else Some unread.Deep

-- the first fault, in the order of the tests
abbrev pub path_fault : List ℕ → Option PathFault
path_fault [] = Some unread.NotRooted
path_fault (byte ∷ bytes) = if is_slash byte then names_fault 0 (path_names (byte ∷ bytes)) else Some unread.NotRooted
