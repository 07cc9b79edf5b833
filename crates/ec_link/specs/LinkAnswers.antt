-- What a link's answers to one send or receive come to.
use Rattle.std.specs.Prelude.{◌≡◌, ℕ, Bool, true, List, [], ◌∷◌, ◌++◌, Option, Some, None}
use Rattle.ec_streams.specs.OfFrame.Frames.{Begins, BeginsLong, BeginsNone}
use Rattle.ec_link.specs.declared.link.Sent.{Sent}
use Rattle.ec_link.specs.declared.link.Sent.TheVariants as sent
use Rattle.ec_link.specs.declared.link.Got.{Got}
use Rattle.ec_link.specs.declared.link.Got.TheVariants as got
use Rattle.ec_link.specs.Links.{Heard, body, long}

abbrev pub failed : Sent → ℕ
failed sent.Done = 0
failed sent.Failed = 1
failed sent.NoMemory = 0

-- the bodies that the link got with this answer
abbrev pub carried : Sent → List ℕ → List (List ℕ)
carried sent.Done bytes = bytes ∷ []
carried sent.Failed bytes = []
carried sent.NoMemory bytes = []

abbrev pub fault_of : Got → ℕ
fault_of (got.Body bytes) = 0
fault_of got.Nothing = 0
fault_of (got.Long n) = 0
fault_of got.Closed = 0
fault_of got.Failed = 1
fault_of got.NoMemory = 0

abbrev pub close_of : Got → ℕ
close_of (got.Body bytes) = 0
close_of got.Nothing = 0
close_of (got.Long n) = 0
close_of got.Closed = 1
close_of got.Failed = 0
close_of got.NoMemory = 0

-- what the link gave with this answer
abbrev pub heard : Got → List Heard
heard (got.Body bytes) = body bytes.items ∷ []
heard got.Nothing = []
heard (got.Long n) = long n ∷ []
heard got.Closed = []
heard got.Failed = []
heard got.NoMemory = []

-- What the bytes read and not yet given were and are, by the answer: this call's read adds `more`. A body is the first whole frame,
-- a length above the limit stands in front, and with Nothing and Closed neither is there.
abbrev pub Reads : List ℕ → List ℕ → Got → Type 0
Reads old new (got.Body bytes) = (more : List ℕ) × Begins (old ++ more) bytes.items new
Reads old new got.Nothing = (more : List ℕ) × (new ≡ old ++ more) × BeginsNone new
Reads old new (got.Long n) = (more : List ℕ) × (new ≡ old ++ more) × BeginsLong new n
Reads old new got.Closed = (more : List ℕ) × (new ≡ old ++ more) × BeginsNone new
Reads old new got.Failed = (more : List ℕ) × (new ≡ old ++ more)
Reads old new got.NoMemory = (more : List ℕ) × (new ≡ old ++ more)

-- it was ended for the other end, where it is told
abbrev pub IsShut : Option Bool → Type 0
IsShut None = Unit {0}
IsShut (Some b) = b ≡ true
