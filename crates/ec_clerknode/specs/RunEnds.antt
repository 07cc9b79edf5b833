-- Where a clerk run leads, and what its link came to.
use Rattle.std.specs.Prelude.{◌≡◌, ℕ, ◌+◌, ◌≤◌, List, [], ◌∷◌, ◌++◌, length, max, Option, ◌⊎◌}
use Rattle.ec_protocol.specs.declared.clerk.Clerk.{Clerk}
use Rattle.ec_link.specs.declared.link.Sent.TheVariants as sent
use Rattle.ec_link.specs.Links.{Heard, added}
use Rattle.ec_link.specs.LinkAnswers.{failed}
use Rattle.ec_clerknode.specs.declared.step.Deed.{Deed}
use Rattle.ec_clerknode.specs.declared.step.Deed.TheVariants.{Began, Took, Picked, Parted, Resent, Linked, Net, Peer, Long, NotBegun, NotTaken, NotPicked, Broke}
use Rattle.ec_clerknode.specs.declared.step.Step.{Step}
use Rattle.ec_clerknode.specs.declared.fault.NodeFault.TheVariants as fault
use Rattle.ec_clerknode.specs.Run.{after}

-- the clerk to which the steps lead
abbrev pub leads : Clerk → List Step → Clerk
leads c [] = c
leads c (s ∷ ss) = leads (after c s.deed) ss

-- the highest floor that a step left: it never falls as the list grows
abbrev pub highest : List Step → ℕ
highest [] = 0
highest (s ∷ ss) = max s.floor (highest ss)

-- what the link gave is what the steps heard, and at most one more, for which memory was wanting
abbrev pub Came : Option (List Heard) → List Heard → Option (List Heard) → Type 0
Came before heard now = (lost : List Heard) × (length lost ≤ 1) × (now ≡ added before (heard ++ lost))

-- memory was wanting in one of these steps: for a message, for an answer or for the step
abbrev pub Wanted : List Step → Type 0
Wanted [] = ⊥
Wanted (s ∷ ss) = (s.end ≡ sent.NoMemory) ⊎ Wanted ss

abbrev pub net_of : Deed → ℕ
net_of (Began call number) = 0
net_of (Took bytes msg) = 0
net_of (Picked asked) = 0
net_of Parted = 0
net_of Resent = 0
net_of Linked = 0
net_of Net = 1
net_of (Peer bytes fault) = 0
net_of (Long n) = 0
net_of (NotBegun call counter) = 0
net_of (NotTaken bytes msg counter) = 0
net_of (NotPicked asked counter) = 0
net_of Broke = 0

-- how many marks of a failed or closed link there are
abbrev pub nets : List Step → ℕ
nets [] = 0
nets (s ∷ ss) = (net_of s.deed + failed s.end) + nets ss
