-- A clerk run: a list of steps from a clerk, each with what came out.
use Rattle.std.specs.Prelude.{◌≡◌, ℕ, ◌+◌, List, [], ◌∷◌, ◌++◌, length, map, take, Option, Some, None, Ok, Err, ◌⊎◌, Bool, true, false, ◌||◌}
use Rattle.ec_base.specs.declared.ids.Age.{Age}
use Rattle.ec_plain.specs.declared.call.Call.{Call}
use Rattle.ec_wire.specs.declared.msg.Msg.{Msg}
use Rattle.ec_wire.specs.declared.msg.Msg.TheVariants as message
use Rattle.ec_wire.specs.Codes.{said}
use Rattle.ec_protocol.specs.declared.clerk.Clerk.{Clerk}
use Rattle.ec_protocol.specs.declared.clerk.Out.{Out}
use Rattle.ec_protocol.specs.Clerk.{Doing}
use Rattle.ec_link.specs.declared.link.Sent.{Sent}
use Rattle.ec_link.specs.declared.link.Sent.TheVariants as sent
use Rattle.ec_link.specs.Links.{Heard, body, long}
use Rattle.ec_outs.specs.Outs.{sends, told, old_boots, encoded}
use Rattle.ec_clerknode.specs.declared.step.Deed.{Deed}
use Rattle.ec_clerknode.specs.declared.step.Deed.TheVariants.{Began, Took, Picked, Parted, Resent, Linked, Net, Peer, Long, NotBegun, NotTaken, NotPicked, Broke}
use Rattle.ec_clerknode.specs.declared.step.Step.{Step}
use Rattle.ec_clerknode.specs.declared.fault.NodeFault.{NodeFault}
use Rattle.ec_clerknode.specs.declared.fault.NodeFault.TheVariants as fault
use Rattle.ec_clerknode.specs.Folded.{begun, taken, picked, parted, resent, linked, floor_of}
use Rattle.ec_link.specs.Happenings.{each}
use Rattle.ec_base.specs.Lists.{first_of}

-- What a step makes of the clerk.

-- nothing changes, and nothing comes out
abbrev pub still : Clerk → Doing
still c = record { clerk = c; outs = []; spent = None }

abbrev pub done : Clerk → Deed → Doing
done c (Began call number) = begun call.value c
done c (Took bytes msg) = taken msg.value c
done c (Picked asked) = picked asked.value c
done c Parted = parted c
done c Resent = resent c
done c Linked = linked c
done c _ = still c

abbrev pub after : Clerk → Deed → Clerk
after c deed = (done c deed).clerk

abbrev pub outs_of : Clerk → Deed → List Out
outs_of c deed = (done c deed).outs

-- A call has the clerk's next number, a message is what its body says, and no counter is passed. A mark has its cause.
abbrev pub IsDeed : Clerk → Deed → Type 0
IsDeed c (Began call number) = (number ≡ c.calls + 1) × ((begun call.value c).spent ≡ None)
IsDeed c (Took bytes msg) = (said bytes.value.items ≡ Ok msg.value) × ((taken msg.value c).spent ≡ None)
IsDeed c (Picked asked) = (picked asked.value c).spent ≡ None
IsDeed c Parted = (parted c).spent ≡ None
IsDeed c Resent = (resent c).spent ≡ None
IsDeed c Linked = (linked c).spent ≡ None
IsDeed c Net = Unit {0}
IsDeed c (Peer bytes fault) = said bytes.value.items ≡ Err fault
IsDeed c (Long n) = Unit {0}
IsDeed c (NotBegun call counter) = (begun call.value c).spent ≡ Some counter
IsDeed c (NotTaken bytes msg counter) = (said bytes.value.items ≡ Ok msg.value) × ((taken msg.value c).spent ≡ Some counter)
IsDeed c (NotPicked asked counter) = (picked asked.value c).spent ≡ Some counter
IsDeed c Broke = ⊥

-- all that came out stands in the step, and all its messages were sent where the sending ended well
abbrev pub IsDone : Clerk → Step → Type 0
IsDone c s = IsDeed c s.deed × (s.outs.value.items ≡ outs_of c s.deed) × (s.floor ≡ floor_of (after c s.deed)) × (s.end ≡ sent.Done → s.sent ≡ length (sends s.outs.value.items))

-- the mark that memory was wanting for a step, of which nothing came out
abbrev pub IsBroken : Step → Type 0
IsBroken s = (s.deed ≡ Broke) × (s.outs.value.items ≡ []) × (s.sent ≡ 0) × (s.end ≡ sent.NoMemory) × (s.floor ≡ 0)

abbrev pub IsStep : Clerk → Step → Type 0
IsStep c s = IsBroken s ⊎ IsDone c s

abbrev pub IsRun : Clerk → List Step → Type 0
IsRun c [] = Unit {0}
IsRun c (s ∷ ss) = IsStep c s × IsRun (after c s.deed) ss

-- What a list of steps holds.

-- the calls begun
abbrev pub call_of : Deed → List Call
call_of (Began call number) = call.value ∷ []
call_of _ = []

abbrev pub calls : List Step → List Call
calls = each (λ s. call_of s.deed)

-- what the link gave for a step
abbrev pub heard_of : Deed → List Heard
heard_of (Took bytes msg) = body bytes.value.items ∷ []
heard_of (Peer bytes fault) = body bytes.value.items ∷ []
heard_of (Long n) = long n ∷ []
heard_of (NotTaken bytes msg counter) = body bytes.value.items ∷ []
heard_of _ = []

abbrev pub heard_by : List Step → List Heard
heard_by = each (λ s. heard_of s.deed)

-- the bodies that were sent: of each step's messages as many as it says
abbrev pub said_in : Step → List (List ℕ)
said_in s = map encoded (take s.sent (sends s.outs.value.items))

abbrev pub said_by : List Step → List (List ℕ)
said_by = each said_in

abbrev pub told_in : Step → List (List ℕ)
told_in s = told s.outs.value.items

-- the sending went well, or the link failed
abbrev pub IsSaid : Sent → Type 0
IsSaid sent.NoMemory = ⊥
IsSaid _ = Unit {0}

-- memory was wanting in none of these steps
abbrev pub AreSaid : List Step → Type 0
AreSaid [] = Unit {0}
AreSaid (s ∷ ss) = IsSaid s.end × AreSaid ss

-- a message that says goodbye
abbrev pub is_bye : Msg → Bool
is_bye (message.Bye session epoch) = true
is_bye _ = false

abbrev pub says_bye : List Msg → Bool
says_bye [] = false
says_bye (m ∷ ms) = is_bye m || says_bye ms

-- a goodbye, which was sent
abbrev pub IsGoodbye : Step → Type 0
IsGoodbye s = (s.deed ≡ Parted) × (says_bye (sends s.outs.value.items) ≡ true) × (s.end ≡ sent.Done)

-- the lists that were told lost
abbrev pub told_by : List Step → List (List ℕ)
told_by = each told_in

-- the faults of which a step is the cause
abbrev pub mark_of_deed : Deed → List NodeFault
mark_of_deed Net = fault.Net ∷ []
mark_of_deed (Peer bytes place) = fault.Peer place ∷ []
mark_of_deed (Long n) = fault.Long n ∷ []
mark_of_deed (NotBegun call counter) = fault.Spent counter ∷ []
mark_of_deed (NotTaken bytes msg counter) = fault.Spent counter ∷ []
mark_of_deed (NotPicked asked counter) = fault.Spent counter ∷ []
mark_of_deed _ = []

abbrev pub mark_of_end : Sent → List NodeFault
mark_of_end sent.Failed = fault.Net ∷ []
mark_of_end _ = []

abbrev pub marks : List Step → List NodeFault
marks = each (λ s. mark_of_deed s.deed ++ mark_of_end s.end)

abbrev pub Among : {A : Type 0} → A → List A → Type 0
Among x [] = ⊥
Among x (y ∷ ys) = (y ≡ x) ⊎ Among x ys

abbrev pub old_boots_in : Step → List Age
old_boots_in s = old_boots s.outs.value.items

-- the first greater age that came out
abbrev pub old_boot : List Step → Option Age
old_boot steps = first_of (each old_boots_in steps)
