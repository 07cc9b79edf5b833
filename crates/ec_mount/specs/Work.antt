-- No public clause cites this module: it says what the private steps of a mount's run do.
use Rattle.std.specs.Prelude.{◌≡◌, ◌≤◌, ◌<◌, ◌+◌, ◌⊎◌, ℕ, List, [], ◌∷◌, ◌++◌, length, map, Option, Some, None, Result, Ok, Err}
use Rattle.ec_base.specs.declared.ids.Age.{Age}
use Rattle.ec_plain.specs.declared.call.Call.{Call}
use Rattle.ec_protocol.specs.declared.clerk.Clerk.{Clerk}
use Rattle.ec_protocol.specs.declared.clerk.Out.{Out}
use Rattle.ec_link.specs.Links.{Heard, added}
use Rattle.ec_link.specs.Nets.{Ended}
use Rattle.ec_link.specs.NetAnswers.{IsEmpty}
use Rattle.ec_outs.specs.Outs.{Reply, encoded, sends}
use Rattle.ec_clerknode.specs.declared.fault.NodeFault.{NodeFault}
use Rattle.ec_clerknode.specs.declared.fault.NodeFault.TheVariants as fault
use Rattle.ec_clerknode.specs.declared.step.Step.{Step}
use Rattle.ec_clerknode.specs.Parts.{parts}
use Rattle.ec_clerknode.specs.Run.{IsRun, AreSaid, told_by, old_boot}
use Rattle.ec_clerknode.specs.RunEnds.{nets}
use Rattle.ec_clerknode.specs.LaneRuns.{lists_of}
use Rattle.ec_mount.specs.Run.{NetSeen, AreTold, AreUnsent, LostUnsent, Ran, Holds, HoldsFronts, Has, Met, Lost, Spends}
use Rattle.ec_mount.specs.Linking.{AreToldFrom}
use Rattle.ec_mount.specs.declared.work.Answers.{Answers}

-- the answers of the lanes, what was told lost, and the last answer or the fault
abbrev pub Given : Type 0
Given = List (List Reply) × List (List ℕ) × Result Reply NodeFault

abbrev pub given_of : Answers → Given
given_of a = (lists_of a.lanes, a.told.items, a.last)

-- a link, by its count of faults and closes, and what it gave and got, where told
pub record LinkSeen : Type 0 where
  pub counts : ℕ
  pub given : Option (List Heard)
  pub got : Option (List (List ℕ))

-- the links that came back before the last one, and then that one, have what these steps heard and said
pub record RanOver (clerk : Clerk) (old new : LinkSeen) (before after : NetSeen) (steps : List Step) : Type 0 where
  pub run : IsRun clerk steps
  pub whole : AreSaid steps
  pub links : List Ended
  pub ended : after.ended ≡ before.ended ++ links
  pub told : AreToldFrom old.given old.got [] (links ++ (new.given, new.got) ∷ []) (parts steps)
  pub low : before.bad ≤ after.bad
  pub counted : 0 < nets steps → (before.bad < after.bad) ⊎ (0 < new.counts)

-- the steps hold the cause of this fault, and what came before it
pub record Cut (lanes : List (List Call)) (steps : List Step) (all : List (List Reply)) (told : List (List ℕ)) (f : NodeFault) : Type 0 where
  pub old_boot : old_boot steps ≡ None
  pub has : Has f steps
  pub came : HoldsFronts 0 lanes steps all
  pub told_is : told ≡ told_by steps

-- what the steps hold of an answer, or of a fault
abbrev pub TellsAnswer : List (List Call) → List Step → List (List Reply) → List (List ℕ) → Result Reply NodeFault → Type 0
TellsAnswer lanes steps all told (Ok last) = (old_boot steps ≡ None) × Holds 0 lanes steps all last × (told ≡ told_by steps)
TellsAnswer lanes steps all told (Err fault.Net) = Cut lanes steps all told fault.Net
TellsAnswer lanes steps all told (Err (fault.Peer why)) = Cut lanes steps all told (fault.Peer why)
TellsAnswer lanes steps all told (Err (fault.Long n)) = Cut lanes steps all told (fault.Long n)
TellsAnswer lanes steps all told (Err (fault.OldBoot age)) = Has (fault.OldBoot age) steps
TellsAnswer lanes steps all told (Err (fault.Spent c)) = Cut lanes steps all told (fault.Spent c)
TellsAnswer lanes steps all told (Err fault.NoMemory) = Unit {0}

-- for want of memory nothing is said
abbrev pub UnlessWanting : {A : Type 0} → Result A NodeFault → Type 0 → Type 0
UnlessWanting (Ok x) P = P
UnlessWanting (Err fault.Net) P = P
UnlessWanting (Err (fault.Peer why)) P = P
UnlessWanting (Err (fault.Long n)) P = P
UnlessWanting (Err (fault.OldBoot age)) P = P
UnlessWanting (Err (fault.Spent c)) P = P
UnlessWanting (Err fault.NoMemory) P = Unit {0}

abbrev pub last_answer : Option Age → Result Reply NodeFault → Result Reply NodeFault
last_answer None last = last
last_answer (Some age) last = Err (fault.OldBoot age)

-- what is answered, by what the shared clerk handed back
abbrev pub Concludes : Option Clerk → List (List ℕ) → Option Age → List (List Reply) → Result Reply NodeFault → Given → Type 0
Concludes None told boot all last given = given.2 ≡ Err fault.NoMemory
Concludes (Some c) told boot all last given = given ≡ (all, told, last_answer boot last)

-- the clerk ran over links, of which the last one is left
abbrev pub RunsOver : Clerk → List (List Call) → LinkSeen → LinkSeen → NetSeen → NetSeen → Given → Type 0
RunsOver clerk lanes old new before after given = UnlessWanting given.2 ((steps : List Step) × RanOver clerk old new before after steps × TellsAnswer lanes steps given.0 given.1 given.2)

-- a new link, which gave this and got that, took these messages
abbrev pub Took : List Out → Option (List Heard) → Option (List (List ℕ)) → Type 0
Took outs given got = (base : Option (List (List ℕ))) × IsEmpty given × IsEmpty base × (got ≡ added base (map encoded (sends outs)))

-- none took these messages, and all came back
abbrev pub NotGreeted : List Out → NetSeen → NetSeen → NodeFault → Type 0
NotGreeted outs before after fault.Net = LostUnsent outs before after
NotGreeted outs before after (fault.Peer why) = ⊥
NotGreeted outs before after (fault.Long n) = ⊥
NotGreeted outs before after (fault.OldBoot age) = ⊥
NotGreeted outs before after (fault.Spent c) = ⊥
NotGreeted outs before after fault.NoMemory = Unit {0}

-- all links of these steps came back, behind those that took no message of the start
pub record CameBack (clerk : Clerk) (outs : List Out) (before after : NetSeen) (steps : List Step) : Type 0 where
  pub run : IsRun clerk steps
  pub whole : AreSaid steps
  pub unsent : List Ended
  pub mute : AreUnsent outs unsent
  pub bad : before.bad + length unsent ≤ after.bad
  pub links : List Ended
  pub ended : after.ended ≡ before.ended ++ (unsent ++ links)
  pub told : AreTold (map encoded (sends outs)) links (parts steps)
  pub counted : 0 < nets steps → before.bad < after.bad

-- a clerk greeted and ran, or no link took its greeting
abbrev pub WorksOver : Clerk → List Out → List (List Call) → NetSeen → NetSeen → Given → Type 0
WorksOver clerk outs lanes before after given = ((given ≡ ([], [], Err fault.Net)) × LostUnsent outs before after)
    ⊎ UnlessWanting given.2 ((steps : List Step) × CameBack clerk outs before after steps × TellsAnswer lanes steps given.0 given.1 given.2)

-- a clerk was started, run over a link of the net and ended
abbrev pub WorksTo : ℕ → ℕ → List (List Call) → NetSeen → NetSeen → List (List Reply) → List (List ℕ) → Result Reply NodeFault → Type 0
WorksTo id boot lanes before after all told (Ok last) = (steps : List Step) × Ran id boot before after steps × TellsAnswer lanes steps all told (Ok last)
WorksTo id boot lanes before after all told (Err fault.Net) = Lost id boot lanes before after all told
WorksTo id boot lanes before after all told (Err (fault.Peer why)) = Met id boot lanes before after (fault.Peer why) all told
WorksTo id boot lanes before after all told (Err (fault.Long n)) = Met id boot lanes before after (fault.Long n) all told
WorksTo id boot lanes before after all told (Err (fault.OldBoot age)) = (steps : List Step) × Ran id boot before after steps × Has (fault.OldBoot age) steps
WorksTo id boot lanes before after all told (Err (fault.Spent c)) = Spends id boot lanes before after c all told
WorksTo id boot lanes before after all told (Err fault.NoMemory) = Unit {0}

abbrev pub Works : ℕ → ℕ → List (List Call) → NetSeen → NetSeen → Given → Type 0
Works id boot lanes before after given = WorksTo id boot lanes before after given.0 given.1 given.2
