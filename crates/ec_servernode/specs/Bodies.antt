-- The bodies that a link gave and got, by the steps of its pass.
use Rattle.std.specs.Prelude.{ℕ, List, [], ◌∷◌}
use Rattle.ec_wire.specs.Codes.{msg_code}
use Rattle.ec_link.specs.Links.{Heard, body}
use Rattle.ec_servernode.specs.declared.step.Deed.{Deed}
use Rattle.ec_servernode.specs.declared.step.Deed.TheVariants.{Took, Gave, Refused, Halted}
use Rattle.ec_servernode.specs.declared.step.Step.{Step}
use Rattle.ec_link.specs.Happenings.{each}

-- what the link gave for a step: the body of the message that was taken
abbrev pub heard_of : Deed → List Heard
heard_of (Took c bytes m served) = body bytes.value.items ∷ []
heard_of (Halted c bytes m h) = body bytes.value.items ∷ []
heard_of _ = []

abbrev pub heard_by : List Step → List Heard
heard_by = each (λ s. heard_of s.deed)

-- what the link got by a step: the bytes of the message that was sent
abbrev pub said_of : Deed → List (List ℕ)
said_of (Gave c m) = msg_code.spell m.value ∷ []
said_of (Refused m) = msg_code.spell m.value ∷ []
said_of _ = []

abbrev pub said_by : List Step → List (List ℕ)
said_by = each (λ s. said_of s.deed)
