-- Frames: the length of a body in four bytes, the highest first, and then the body.
use Rattle.std.specs.Prelude.{◌≡◌, ◌<◌, ◌≤◌, ◌-◌, ◌^◌, ℕ, min, nat_lt, if◌then◌else◌, List, ◌++◌, length}
use Rattle.std.specs.Int.{w32, to_be_bytes}
use Rattle.ec_streams.specs.declared.frame.fault.FrameFault.{FrameFault}
use Rattle.ec_streams.specs.declared.frame.fault.FrameFault.TheVariants.{LongFrame, NoMemory}

abbrev pub header_bytes : ℕ
header_bytes = 4

-- a frame's body has at most so many bytes
abbrev pub max_body_bytes : ℕ
max_body_bytes = 1048576

-- the greatest length that a fault shows
abbrev pub max_shown_length : ℕ
max_shown_length = 2 ^ 32 - 1

unfoldable pub header : ℕ → List ℕ
header n = to_be_bytes w32 n

abbrev pub frame : List ℕ → List ℕ
frame body = header (length body) ++ body

abbrev pub IsBody : List ℕ → Type 0
IsBody body = length body ≤ max_body_bytes

-- why a body is not framed: its length, or the greatest that is shown for a longer one
abbrev pub NotFramed : FrameFault → List ℕ → Type 0
NotFramed (LongFrame n) body = (max_body_bytes < length body) × (n ≡ min (length body) max_shown_length)
NotFramed NoMemory body = IsBody body

-- the bytes are the frame of this body, and then the rest
pub record Begins (bytes body rest : List ℕ) : Type 0 where
  pub small : IsBody body
  pub spelled : bytes ≡ frame body ++ rest

-- the bytes begin with this length, which no frame may have
pub record BeginsLong (bytes : List ℕ) (n : ℕ) : Type 0 where
  pub large : max_body_bytes < n
  pub fits : n < 2 ^ 32
  pub spelled : (rest : List ℕ) × (bytes ≡ header n ++ rest)

-- the bytes begin no whole frame, and no length that is too large
pub record BeginsNone (bytes : List ℕ) : Type 0 where
  pub frame : (body rest : List ℕ) → Begins bytes body rest → ⊥
  pub long : (n : ℕ) → BeginsLong bytes n → ⊥

-- why no body comes next
abbrev pub NoNext : FrameFault → List ℕ → Type 0
NoNext (LongFrame n) bytes = BeginsLong bytes n
NoNext NoMemory bytes = (body rest : List ℕ) × Begins bytes body rest

-- the bytes of a stream that are held: those left, and behind how many that are taken they stand
pub record Held : Type 0 where
  pub taken : ℕ
  pub left : List ℕ

-- Taken bytes stay while they are fewer than those left. Else they go as a piece comes, and those left are moved to the front.
abbrev pub taken_kept : Held → ℕ
taken_kept held = if nat_lt held.taken (length held.left) then held.taken else 0

abbrev pub bytes_moved : Held → ℕ
bytes_moved held = if nat_lt held.taken (length held.left) then 0 else length held.left
