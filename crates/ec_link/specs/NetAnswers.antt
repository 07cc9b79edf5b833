-- What a net's answers come to.
use Rattle.std.specs.Prelude.{◌≡◌, ◌==◌, ℕ, ◌+◌, List, [], Option, Some, None, Result, Ok, Err, if◌then◌else◌}
use Rattle.ec_link.specs.declared.net.NetFault.{NetFault}
use Rattle.ec_link.specs.declared.net.NetFault.TheVariants as fault

-- one bad link more, where it failed or closed
abbrev pub is_bad : ℕ → ℕ → ℕ
is_bad faults closes = if faults + closes == 0 then 0 else 1

-- nothing was given or got, where it is told
abbrev pub IsEmpty : {A : Type 0} → Option (List A) → Type 0
IsEmpty None = Unit {0}
IsEmpty (Some xs) = xs ≡ []

-- the faults of the net in this answer
abbrev pub faulted : {A : Type 0} → Result A NetFault → ℕ
faulted (Ok a) = 0
faulted (Err fault.Failed) = 1
faulted (Err fault.NoMemory) = 0
