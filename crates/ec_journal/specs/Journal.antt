-- What a journal on a disk stands for.
use Rattle.std.specs.Prelude.{◌≡◌, ◌⊎◌, ◌<◌, ◌≤◌, ◌+◌, ◌-◌, ℕ, true, false, List, [], ◌∷◌, ◌++◌, length}
use Rattle.ec_disk.specs.Disk.{View}
use Rattle.ec_disk.specs.Effects.{LeavesOnly}
use Rattle.ec_journal.specs.Records.{around_bytes, records, HasBodies, RunsPast}
use Rattle.ec_journal.specs.declared.journal.Journal.{Journal}
use Rattle.ec_journal.specs.declared.read.Found.{Found}

abbrev pub place_of : Journal → ℕ
place_of journal = journal.at

abbrev pub size_of : Journal → ℕ
size_of journal = journal.size

-- where its closed gate stands, from its first byte on
abbrev pub end_of : Journal → ℕ
end_of journal = journal.end

-- the bytes from its closed gate on
abbrev pub free_of : Journal → ℕ
free_of journal = journal.size - journal.end

-- what an append of this body needs: a gate, a length, the body and the next gate
abbrev pub need_of : List ℕ → ℕ
need_of body = length body + around_bytes

-- A disk stands for a journal with these bodies.
pub record IsOn (now : View) (journal : Journal) (bodies : List (List ℕ)) : Type 0 where
  pub ends : end_of journal ≡ length (records bodies)
  pub each : (c : List ℕ) → now.may_leave c → HasBodies c (place_of journal) (size_of journal) bodies

-- an image with these bodies, or with one more
abbrev pub HasEither : Journal → List (List ℕ) → List ℕ → List ℕ → Type 0
HasEither journal bodies body image =
    HasBodies image (place_of journal) (size_of journal) bodies ⊎ HasBodies image (place_of journal) (size_of journal) (bodies ++ body ∷ [])

-- Where the old disk stands for some bodies, the new one stands for these and one more.
abbrev pub Adds : View → View → Journal → Journal → List ℕ → Type 0
Adds old new journal later body = (bodies : List (List ℕ)) → IsOn old journal bodies → IsOn new later (bodies ++ body ∷ [])

-- Where the old disk stands for some bodies, each image that a crash since might have left has these, or these and one more.
abbrev pub LeavesEither : View → View → Journal → List ℕ → Type 0
LeavesEither old new journal body = (bodies : List (List ℕ)) → IsOn old journal bodies → LeavesOnly old new (HasEither journal bodies body)

-- Where the old disk stands for some bodies, what was synced of the new one has these.
abbrev pub LeavesOld : View → View → Journal → Type 0
LeavesOld old new journal = (bodies : List (List ℕ)) → IsOn old journal bodies → HasBodies new.synced (place_of journal) (size_of journal) bodies

-- How an append that stopped in the turn with this number, of four, left a disk that stood for some bodies. Up to the second one the gate is closed: each image that
-- a crash may leave has these bodies. From the third one on it's open in what a read gives: that has these and one more.
pub record StopsIn (turn : ℕ) (old new : View) (journal : Journal) (body : List ℕ) : Type 0 where
  pub early : turn ≤ 2 → (bodies : List (List ℕ)) → IsOn old journal bodies → (c : List ℕ) → new.may_leave c → HasBodies c (place_of journal) (size_of journal) bodies
  pub late : 3 ≤ turn → (bodies : List (List ℕ)) → IsOn old journal bodies → HasBodies new.gives (place_of journal) (size_of journal) (bodies ++ body ∷ [])

-- an open gate at this place stands over a record that runs past the journal
abbrev pub IsBadJournal : List ℕ → ℕ → ℕ → ℕ → Type 0
IsBadJournal image at size place = (bodies : List (List ℕ)) × (place ≡ at + length (records bodies)) × RunsPast image at size bodies

-- the places of a journal from its closed gate on
abbrev pub FromGate : Journal → ℕ → Type 0
FromGate journal i = (place_of journal + end_of journal ≤ i) × (i < place_of journal + size_of journal)

-- what was found in a journal, whole or up to a record that runs past it
pub record IsFound (image : List ℕ) (at size : ℕ) (found : Found) : Type 0 where
  pub end : found.end ≡ length (records found.bodies)
  pub whole : found.is_whole ≡ true → HasBodies image at size found.bodies
  pub past : found.is_whole ≡ false → RunsPast image at size found.bodies
