-- The scripts of the generator: numbers drawn from a start number on, and lines that are written with them.
use Rattle.std.specs.Prelude.{◌==◌, ◌||◌, ◌+◌, ◌*◌, ◌/◌, ◌%◌, ◌^◌, ℕ, zero, suc, if◌then◌else◌, Bool, List, [], ◌∷◌, ◌++◌, codes}
use Rattle.std.specs.Fmt.{decimal}

-- Drawing.

abbrev pub multiplier : ℕ
multiplier = 6364136223846793005

abbrev pub increment : ℕ
increment = 1442695040888963407

abbrev pub next : ℕ → ℕ
next state = (state * multiplier + increment) % 2 ^ 64

-- the state that so many draws lead to from a start number on
abbrev pub state_after : ℕ → ℕ → ℕ
state_after zero start = start
state_after (suc draws) start = next (state_after draws start)

-- what is drawn at a state: all but its lowest 33 bits
abbrev pub drawn : ℕ → ℕ
drawn state = state / 2 ^ 33

-- Lines, counted from 1. What a line does goes by its number.

abbrev pub is_write : ℕ → Bool
is_write line = line % 8 == 3

abbrev pub is_rename : ℕ → Bool
is_rename line = line % 8 == 5

-- A line draws its clerk, directory and file, also where it names no file; a write draws its place too, a rename its new name.
abbrev pub draws_of : ℕ → ℕ
draws_of line = if is_write line || is_rename line then 4 else 3

-- how many numbers the lines up to this one draw
abbrev pub draws_to : ℕ → ℕ
draws_to zero = 0
draws_to (suc line) = draws_to line + draws_of (suc line)

-- one of 4 clerks, from `A` on
abbrev pub clerk_text : ℕ → List ℕ
clerk_text number = (65 + number % 4) ∷ []

-- one of 8 directories
abbrev pub dir_text : ℕ → List ℕ
dir_text number = codes "/d" ++ decimal (number % 8)

-- one of 16 files in a directory
abbrev pub file_text : ℕ → ℕ → List ℕ
file_text dir number = dir_text dir ++ codes "/f" ++ decimal (number % 16)

-- The call of a line by the numbers drawn for its directory, its file and, where it draws a fourth, for that.
abbrev pub call_text : ℕ → ℕ → ℕ → ℕ → List ℕ
call_text line dir file fourth =
    if line % 8 == 0 then codes "list " ++ dir_text dir
    else (if line % 8 == 1 then codes "mkdir " ++ dir_text dir
    else (if line % 8 == 2 then codes "create " ++ file_text dir file
    else (if is_write line then codes "write " ++ file_text dir file ++ codes " " ++ decimal (fourth % 64) ++ codes " " ++ decimal line
    else (if line % 8 == 4 then codes "read " ++ file_text dir file ++ codes " 0 64"
    else (if is_rename line then codes "rename " ++ file_text dir file ++ codes " " ++ file_text dir fourth
    else (if line % 8 == 6 then codes "stat " ++ file_text dir file
    else codes "fsync " ++ file_text dir file))))))

-- a line by its four numbers; a written line ends in LF
abbrev pub line_text : ℕ → ℕ → ℕ → ℕ → ℕ → List ℕ
line_text line clerk dir file fourth = clerk_text clerk ++ codes " " ++ call_text line dir file fourth ++ 10 ∷ []

-- the k-th number that is drawn behind the lines before a line
abbrev pub drawn_for : ℕ → ℕ → ℕ → ℕ
drawn_for start before k = drawn (state_after (draws_to before + k) start)

-- the line that stands behind so many lines of the script of this number
abbrev pub line_of : ℕ → ℕ → List ℕ
line_of start before = line_text (suc before) (drawn_for start before 1) (drawn_for start before 2) (drawn_for start before 3) (drawn_for start before 4)

-- the script of this number, of so many lines
abbrev pub script_of : ℕ → ℕ → List ℕ
script_of start zero = []
script_of start (suc before) = script_of start before ++ line_of start before
