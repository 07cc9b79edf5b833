-- The bodies that a link gave and got by its happenings.
use Rattle.std.specs.Prelude.{◌≡◌, ℕ, ◌+◌, List, [], ◌∷◌, ◌++◌, drop}
use Rattle.ec_link.specs.declared.happenings.Happening.{Happening}
use Rattle.ec_link.specs.declared.happenings.Happening.TheVariants as at
use Rattle.ec_link.specs.declared.happenings.Happenings.{Happenings}
use Rattle.ec_link.specs.Links.{Heard, body, long}
use Rattle.ec_link.specs.Happenings.{total, each, faults_in}

abbrev pub close_at : Happening → ℕ
close_at at.Fault = 0
close_at at.Close = 1
close_at (at.Gave bytes) = 0
close_at (at.Long n) = 0
close_at (at.Got bytes) = 0

abbrev pub given_at : Happening → List Heard
given_at at.Fault = []
given_at at.Close = []
given_at (at.Gave bytes) = body bytes.value.items ∷ []
given_at (at.Long n) = long n ∷ []
given_at (at.Got bytes) = []

-- the body of the frame that went out, which stands behind its length
abbrev pub got_at : Happening → List (List ℕ)
got_at at.Fault = []
got_at at.Close = []
got_at (at.Gave bytes) = []
got_at (at.Long n) = []
got_at (at.Got bytes) = drop 4 bytes.value.items ∷ []

abbrev pub closes_in : Happenings → ℕ
closes_in h = total close_at h.trace.items

abbrev pub given_in : Happenings → List Heard
given_in h = each given_at h.trace.items

abbrev pub got_in : Happenings → List (List ℕ)
got_in h = each got_at h.trace.items

-- so many faults and closes more, and these bodies behind those given and got before
pub record More (old new : Happenings) (fault close : ℕ) (heard : List Heard) (carried : List (List ℕ)) : Type 0 where
  pub faults : faults_in new ≡ faults_in old + fault
  pub closes : closes_in new ≡ closes_in old + close
  pub given : given_in new ≡ given_in old ++ heard
  pub got : got_in new ≡ got_in old ++ carried
