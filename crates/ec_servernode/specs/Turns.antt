-- What a turn with a link adds to the list, and what its pass knows then.
use Rattle.std.specs.Prelude.{◌≡◌, ℕ, true, false, List, None}
use Rattle.ec_servernode.specs.declared.step.Step.{Step}
use Rattle.ec_servernode.specs.declared.caller.Caller.{Caller}
use Rattle.ec_servernode.specs.Run.{is_for, owner}

-- its clerk has greeted with another pass since, and no refusal is to be sent
abbrev pub IsReplaced : ℕ → Caller → List Step → Type 0
IsReplaced pass caller steps = (caller.has_greeted ≡ true) × (is_for pass (owner caller.clerk steps) ≡ false) × (caller.refusal ≡ None)
