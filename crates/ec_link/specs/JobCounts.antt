-- Jobs that were taken and refused.
use Rattle.std.specs.Prelude.{ℕ, Option, Some, None}
use Rattle.ec_link.specs.declared.spawn.Spawned.{Spawned}
use Rattle.ec_link.specs.declared.spawn.Spawned.TheVariants as spawned

abbrev pub job_taken : {A : Type 0} → Option A → ℕ
job_taken None = 0
job_taken (Some job) = 1

-- the jobs that were dropped since they couldn't be started
abbrev pub refused : Spawned → ℕ
refused spawned.All = 0
refused spawned.Failed = 1
refused spawned.NoMemory = 0

abbrev pub refused_by : Option Spawned → ℕ
refused_by None = 0
refused_by (Some s) = refused s

-- what this job gives is a result of the jobs' own
abbrev pub IsPromised : {J O S H : Type 0} → (H → J) → (J → O → Type 0) → (S → O → Type 0) → S → H → Type 0
IsPromised {O} job_of gives owns jobs handle = (out : O) → gives (job_of handle) out → owns jobs out
