-- The results of jobs that were started are still the jobs' own later.
use Rattle.std.proofs.Common.{◌≡◌, List, ◌∷◌}
use Rattle.std.specs.List.{All}
use Rattle.std.proofs.lemmas.List.Elements.{All-rest}
use Rattle.ec_link.specs.JobCounts.{IsPromised}

module _ {J O S H : Type 0} (job_of : H → J) (gives : J → O → Type 0) (owns : S → O → Type 0) where
  pub still_owned : (a b : S) (hs : List H) → ((out : O) → owns a out → owns b out) → All (IsPromised job_of gives owns a) hs → All (IsPromised job_of gives owns b) hs
  still_owned a b hs on all k d l out gave = on out (all k d l out gave)

  -- of those that are left too
  pub left_owned : (a b : S) (x : H) (hs all : List H) → all ≡ x ∷ hs → ((out : O) → owns a out → owns b out) → All (IsPromised job_of gives owns a) all → All (IsPromised job_of gives owns b) hs
  left_owned a b x hs all is on each = still_owned a b hs on (All-rest (IsPromised job_of gives owns a) x hs all is each)
