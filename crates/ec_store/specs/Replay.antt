-- Records that are carried out again.
use Rattle.std.specs.Prelude.{◌≡◌, ◌+◌, ℕ, false, List, [], ◌∷◌, ◌++◌, length, Ok}
use Rattle.ec_volume.specs.Update.{member}
use Rattle.ec_volume.specs.Volume.{images}
use Rattle.ec_durable.specs.declared.state.Durable.{Durable}
use Rattle.ec_durable.specs.declared.record.Record.{Record}
use Rattle.ec_durable.specs.Codes.{said}
use Rattle.ec_durable.specs.Durable.{step}
use Rattle.ec_journal.specs.Records.{records}
use Rattle.ec_stands.specs.Stands.{StepsTo, IsRefused}
use Rattle.ec_store.specs.Places.{touched}

-- the record of a body steps one state to the other
abbrev pub Steps : List ℕ → Durable → Durable → Type 0
Steps body d e = (r : Record) × (said body ≡ Ok r) × (step r d ≡ Ok e)

-- the images of all objects but these are the same
abbrev pub Spares : List ℕ → Durable → Durable → Type 0
Spares ids d e = (o : ℕ) → member o ids ≡ false → images e.volume o ≡ images d.volume o

-- Behind records that step, the next one is refused. The place is its gate, where the first gate stands at `at`.
pub record HasRefused (at : ℕ) (d : Durable) (bodies : List (List ℕ)) (place : ℕ) : Type 0 where
  pub before : List (List ℕ)
  pub body : List ℕ
  pub rest : List (List ℕ)
  pub split : bodies ≡ before ++ body ∷ rest
  pub mid : Durable
  pub steps : StepsTo before d mid
  pub gate : place ≡ at + length (records before)
  pub refused : IsRefused body mid

-- the record of a body hasn't this object as an operand
abbrev pub Avoids : ℕ → List ℕ → Type 0
Avoids o body = (r : Record) → said body ≡ Ok r → member o (touched r) ≡ false

-- none of the records of these bodies has
abbrev pub IsUntouched : ℕ → List (List ℕ) → Type 0
IsUntouched o [] = Unit {0}
IsUntouched o (body ∷ bodies) = Avoids o body × IsUntouched o bodies
