-- Streams of frames, which come in any pieces.
use Rattle.std.specs.Prelude.{◌≡◌, ℕ, ◌+◌, List, [], ◌∷◌, ◌++◌, flat_map, length, drop}
use Rattle.std.specs.List.{AllByRecursion}
use Rattle.ec_streams.specs.OfFrame.Frames.{frame, IsBody, Begins, Held, taken_kept, bytes_moved}

-- A piece comes, or a body is taken.
pub data Event : Type 0 where
  Fed : List ℕ → Event
  Took : List ℕ → Event

-- from the bytes held before these events to the bytes held after them
abbrev pub Runs : List ℕ → List Event → List ℕ → Type 0
Runs old [] new = old ≡ new
Runs old (Fed piece ∷ events) new = Runs (old ++ piece) events new
Runs old (Took body ∷ events) new = (rest : List ℕ) × Begins old body rest × Runs rest events new

-- all bytes that came
abbrev pub stream : List Event → List ℕ
stream [] = []
stream (Fed piece ∷ events) = piece ++ stream events
stream (Took body ∷ events) = stream events

abbrev pub taken : List Event → List (List ℕ)
taken [] = []
taken (Fed piece ∷ events) = taken events
taken (Took body ∷ events) = body ∷ taken events

-- how many bytes are moved in all
abbrev pub all_moved : Held → List Event → ℕ
all_moved held [] = 0
all_moved held (Fed piece ∷ events) = bytes_moved held + all_moved (record { taken = taken_kept held; left = held.left ++ piece }) events
all_moved held (Took body ∷ events) = all_moved (record { taken = held.taken + length (frame body); left = drop (length (frame body)) held.left }) events

abbrev pub IsAtEnd : List ℕ → Type 0
IsAtEnd bytes = (body rest : List ℕ) → Begins bytes body rest → ⊥

-- The bytes are the frames of these bodies, and then a rest that begins no whole frame.
pub record AreMessages (bytes : List ℕ) (bodies : List (List ℕ)) (rest : List ℕ) : Type 0 where
  pub whole : bytes ≡ flat_map frame bodies ++ rest
  pub each : AllByRecursion IsBody bodies
  pub last : IsAtEnd rest
