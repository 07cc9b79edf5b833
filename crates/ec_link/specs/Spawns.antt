-- What is counted of jobs.
use Rattle.std.specs.Prelude.{ℕ}
use Rattle.ec_link.specs.declared.spawn.Spawner.{Spawner}
use Rattle.ec_link.specs.declared.spawn.Spawner.TheVariants as by
use Rattle.ec_link.specs.Happenings.{faults_in}

-- how often a job couldn't be started
abbrev pub faults_of : Spawner → ℕ
faults_of (by.Threads s) = faults_in s.happened
faults_of (by.Fails s) = faults_in s.happened
