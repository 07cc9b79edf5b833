-- The run of a mounted clerk, and what the net has of it.
use Rattle.std.specs.Prelude.{◌≡◌, ◌<◌, ◌≤◌, ◌+◌, ◌⊎◌, ℕ, List, [], ◌∷◌, ◌++◌, length, map, take, Some, None}
use mathlib.Core.List.{IsPrefix}
use Rattle.ec_base.specs.declared.counter.Counter.{Counter}
use Rattle.ec_plain.specs.declared.call.Call.{Call}
use Rattle.ec_plain.specs.declared.call.Call.TheVariants.{Sync}
use Rattle.ec_wire.specs.declared.fault.WireFault.{WireFault}
use Rattle.ec_wire.specs.declared.fault.WireFault.TheVariants as wire
use Rattle.ec_protocol.specs.Clerk.{start}
use Rattle.ec_protocol.specs.declared.clerk.Clerk.{Clerk}
use Rattle.ec_protocol.specs.declared.clerk.Out.{Out}
use Rattle.ec_lock.specs.Steps.{Member, Distinct, of}
use Rattle.ec_link.specs.Nets.{Ended}
use Rattle.ec_outs.specs.Outs.{Reply, encoded, sends}
use Rattle.ec_clerknode.specs.declared.fault.NodeFault.{NodeFault}
use Rattle.ec_clerknode.specs.declared.fault.NodeFault.TheVariants as fault
use Rattle.ec_clerknode.specs.declared.step.Step.{Step}
use Rattle.ec_clerknode.specs.Parts.{parts}
use Rattle.ec_clerknode.specs.Run.{IsRun, AreSaid, Among, heard_by, said_by, told_by, marks, old_boot}
use Rattle.ec_clerknode.specs.Turns.{number_of, calls_by, Replied, SaidBye}
use Rattle.ec_clerknode.specs.Lanes.{AreLanes, AreFronts}
use Rattle.ec_base.specs.Lists.{Tells}

-- how often a net failed, how many of the links that came back had failed or closed, and what those that came back gave and got, in order
pub record NetSeen : Type 0 where
  pub faults : ℕ
  pub bad : ℕ
  pub ended : List Ended

-- Each link tells what the steps of its part heard and said, the first one behind these messages.
abbrev pub AreTold : List (List ℕ) → List Ended → List (List Step) → Type 0
AreTold start [] [] = Unit {0}
AreTold start (e ∷ es) (p ∷ ps) = Tells e.0 (heard_by p) × Tells e.1 (start ++ said_by p) × AreTold [] es ps
AreTold start _ _ = ⊥

-- Each link gave nothing, and got a front of these messages alone.
abbrev pub AreUnsent : List Out → List Ended → Type 0
AreUnsent outs [] = Unit {0}
AreUnsent outs (e ∷ es) = Tells e.0 [] × ((n : ℕ) × Tells e.1 (map encoded (take n (sends outs)))) × AreUnsent outs es

-- links came back, each of which failed or was closed before it took these messages
pub record CameUnsent (outs : List Out) (before after : NetSeen) : Type 0 where
  pub links : List Ended
  pub unsent : AreUnsent outs links
  pub ended : after.ended ≡ before.ended ++ links
  pub bad : before.bad + length links ≤ after.bad

-- The steps of a clerk from its start with this boot, in none of which memory was wanting. The links that came back are first those that failed or were
-- closed before they took the messages of the start, which are mostly none, and then those of the parts of the steps, in order. Each of these gave,
-- in order, the messages that the steps of its part take, with the bodies and lengths of their marks, and got those that these steps sent, the first one behind the messages of the start.
pub record Ran (id boot : ℕ) (before after : NetSeen) (steps : List Step) : Type 0 where
  pub clerk : Clerk
  pub outs : List Out
  pub starts : start id boot ≡ record { clerk = clerk; outs = outs; spent = None }
  pub run : IsRun clerk steps
  pub whole : AreSaid steps
  pub unsent : List Ended
  pub mute : AreUnsent outs unsent
  pub bad : before.bad + length unsent ≤ after.bad
  pub links : List Ended
  pub ended : after.ended ≡ before.ended ++ (unsent ++ links)
  pub told : AreTold (map encoded (sends outs)) links (parts steps)

-- The steps hold the calls of lanes, each lane's by a pass of its own, in order and each once, with these answers. Behind all of them the pass `own`
-- made one call, a sync, with the last answer, and then said goodbye.
pub record Holds (own : ℕ) (lanes : List (List Call)) (steps : List Step) (all : List (List Reply)) (last : Reply) : Type 0 where
  pub passes : List ℕ
  pub distinct : Distinct passes
  pub other : Member own passes → ⊥
  -- the list before the lanes, behind them, before the sync and behind it
  pub before : List Step
  pub ran : List Step
  pub idle : List Step
  pub synced : List Step
  pub lanes_done : AreLanes before ran passes lanes all
  pub first_then : IsPrefix ran idle
  pub sync : Replied own Sync idle synced last
  pub later : IsPrefix synced steps
  pub lanes_once : (n : ℕ) → Member n passes → of number_of n ran ≡ of number_of n steps
  pub sync_once : calls_by own steps ≡ Sync ∷ []
  -- behind the sync this pass said goodbye
  pub goodbye : SaidBye own synced steps

-- The steps hold the calls of lanes up to a fault: each lane's pass made a front of its calls, in order and each once, with these answers, and nothing
-- else. The last call that it began may have none.
pub record HoldsFronts (own : ℕ) (lanes : List (List Call)) (steps : List Step) (all : List (List Reply)) : Type 0 where
  pub passes : List ℕ
  pub distinct : Distinct passes
  pub other : Member own passes → ⊥
  pub before : List Step
  pub ran : List Step
  pub fronts : AreFronts before ran passes lanes all
  pub later : IsPrefix ran steps
  pub once : (n : ℕ) → Member n passes → of number_of n ran ≡ of number_of n steps

-- the list has the cause of a fault
abbrev pub Has : NodeFault → List Step → Type 0
Has fault.Net steps = Among fault.Net (marks steps)
Has (fault.Peer place) steps = Among (fault.Peer place) (marks steps)
Has (fault.Long n) steps = Among (fault.Long n) (marks steps)
Has (fault.OldBoot age) steps = old_boot steps ≡ Some age
Has (fault.Spent c) steps = Among (fault.Spent c) (marks steps)
Has fault.NoMemory steps = Unit {0}

-- The run has the fault's cause, and the server told no greater age. These answers of lanes came before it, and this was told lost.
pub record Met (id boot : ℕ) (lanes : List (List Call)) (before after : NetSeen) (f : NodeFault) (all : List (List Reply)) (told : List (List ℕ)) : Type 0 where
  pub steps : List Step
  pub ran : Ran id boot before after steps
  pub old_boot : old_boot steps ≡ None
  pub has : Has f steps
  pub came : HoldsFronts 0 lanes steps all
  pub told_is : told ≡ told_by steps

-- nothing was answered
abbrev pub NothingCame : List (List Reply) → List (List ℕ) → Type 0
NothingCame all told = (all ≡ []) × (told ≡ [])

-- links came back, one or more, none of which took these messages
abbrev pub LostUnsent : List Out → NetSeen → NetSeen → Type 0
LostUnsent outs before after = (came : CameUnsent outs before after) × (0 < length came.links)

-- the same of the messages of the clerk's start with this boot
abbrev pub Unheard : ℕ → ℕ → NetSeen → NetSeen → Type 0
Unheard id boot before after = (clerk : Clerk) × (outs : List Out) × (start id boot ≡ record { clerk = clerk; outs = outs; spent = None }) × LostUnsent outs before after

-- the net gave no link
abbrev pub Unreached : NetSeen → NetSeen → Type 0
Unreached before after = (before.faults < after.faults) × (after.bad ≡ before.bad) × (after.ended ≡ before.ended)

-- Nobody was reached, or a link failed or was closed: each before the clerk's first step, or one in a step of its run.
abbrev pub Lost : ℕ → ℕ → List (List Call) → NetSeen → NetSeen → List (List Reply) → List (List ℕ) → Type 0
Lost id boot lanes before after all told = (Unreached before after × NothingCame all told)
    ⊎ ((before.bad < after.bad) × ((Unheard id boot before after × NothingCame all told) ⊎ Met id boot lanes before after fault.Net all told))

-- the counter was spent at the clerk's start, or in a step of its run
abbrev pub Spends : ℕ → ℕ → List (List Call) → NetSeen → NetSeen → Counter → List (List Reply) → List (List ℕ) → Type 0
Spends id boot lanes before after c all told = (((start id boot).spent ≡ Some c) × (after ≡ before) × NothingCame all told) ⊎ Met id boot lanes before after (fault.Spent c) all told

-- the place that the last line shows of bytes that are no message: that of the byte at fault, and 0 for an unknown kind or too great a length
abbrev pub place_in : WireFault → ℕ
place_in (wire.Short place) = place
place_in (wire.Field place) = place
place_in (wire.Trailing place) = place
place_in _ = 0

abbrev pub IsPeerFault : NodeFault → ℕ → Type 0
IsPeerFault (fault.Peer why) place = place ≡ place_in why
IsPeerFault (fault.Long n) place = place ≡ 0
IsPeerFault _ place = ⊥
