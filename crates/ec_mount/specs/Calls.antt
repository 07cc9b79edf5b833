-- No public clause cites this module: it says what the private steps of a mount's calls do.
use Rattle.std.specs.Prelude.{◌≡◌, ◌⊎◌, ℕ, List, Option, Some, None, Result, Ok, Err, IfSome, Vec}
use Rattle.std.specs.declared.alloc.Global.{Global}
use mathlib.Core.List.{IsPrefix}
use Rattle.ec_base.specs.declared.counter.Counter.TheVariants as counter
use Rattle.ec_plain.specs.declared.call.Call.{Call}
use Rattle.ec_plain.specs.declared.call.Call.TheVariants.{Sync}
use Rattle.ec_lock.specs.PassViews.{front, numbers, IsPassOf, Same}
use Rattle.ec_lock.specs.Steps.{Member, Distinct, of}
use Rattle.ec_lock.specs.declared.types.Pass.{Pass}
use Rattle.ec_lock.specs.declared.types.TracedLock.{TracedLock}
use Rattle.ec_outs.specs.Outs.{Reply}
use Rattle.ec_clerknode.specs.declared.fault.NodeFault.{NodeFault}
use Rattle.ec_clerknode.specs.declared.fault.NodeFault.TheVariants as fault
use Rattle.ec_clerknode.specs.declared.state.Node.{Node}
use Rattle.ec_clerknode.specs.declared.step.Step.{Step}
use Rattle.ec_clerknode.specs.Turns.{number_of, calls_by, Replied, SaidBye}
use Rattle.ec_clerknode.specs.Lanes.{AreLanes, AreFronts}
use Rattle.ec_clerknode.specs.LaneRuns.{LanesCame, lists_of}
use Rattle.ec_mount.specs.Run.{Has, Holds}
use Rattle.ec_mount.specs.Script.{IsBadAt}
use Rattle.ec_mount.specs.declared.calls.Met.{Met}
use Rattle.ec_mount.specs.declared.calls.Met.TheVariants as met
use Rattle.ec_mount.specs.declared.script.Unread.{Unread}
use Rattle.ec_mount.specs.declared.script.Unread.TheVariants as unread

-- why lines give no rows
abbrev pub ReadsRows : List (List ℕ) → Unread → Type 0
ReadsRows lines (unread.Bad n column) = IsBadAt lines n column
ReadsRows lines unread.NoMemory = Unit {0}
ReadsRows lines unread.Bytes = ⊥
ReadsRows lines (unread.Lines n) = ⊥
ReadsRows lines unread.Source = ⊥

-- what a mount writes of the answers that came before a fault, it holds: with want of memory and a greater age it writes none
abbrev pub IfSaid : NodeFault → Type 0 → Type 0
IfSaid fault.Net P = P
IfSaid (fault.Peer place) P = P
IfSaid (fault.Long n) P = P
IfSaid (fault.OldBoot age) P = Unit {0}
IfSaid (fault.Spent c) P = P
IfSaid fault.NoMemory P = Unit {0}

-- how the lanes ended, where the worker beside them met this fault
abbrev pub Judges : Result (Unit {0}) NodeFault → Option NodeFault → Result (Unit {0}) NodeFault → Type 0
Judges end flushed (Ok u) = end ≡ Ok u
Judges end flushed (Err f) = (f ≡ fault.NoMemory) ⊎ (((end ≡ Err f) × (f ≡ fault.Spent counter.Pass → ⊥)) ⊎ ((((u : Unit {0}) × (end ≡ Ok u)) ⊎ (end ≡ Err fault.Net)) × (flushed ≡ Some f)))

module _ {L : Type 0} (lock : TracedLock (Node L) Step) where
  -- a pass made flush turns, up to its first fault
  pub record Flushed (old new : Pass (Node L) Step) (met : Option NodeFault) : Type 0 where
    pub is_pass : IsPassOf lock new
    pub same : (new.number ≡ old.number) × (numbers new ≡ numbers old)
    pub later : IsPrefix (front old) (front new)
    pub has : IfSome met (λ f. Has f (front new))

  -- the lanes were run, or the worker beside them
  abbrev pub SideRan : Pass (Node L) Step → Option (Vec (List Call) Global) → Pass (Node L) Step → Met → Type 0
  SideRan old (Some lanes) new (met.Lanes all) = LanesCame lock (front old) old lanes.items new (lists_of all.lanes) all.end
  SideRan old (Some lanes) new (met.Worker f) = ⊥
  SideRan old None new (met.Lanes all) = ⊥
  SideRan old None new (met.Worker f) = Flushed old new f

  -- passes were drawn beside this one
  pub record Drew (old new : Pass (Node L) Step) : Type 0 where
    pub is_pass : IsPassOf lock new
    pub same : Same old new
    pub later : IsPrefix (front old) (front new)
    pub own : (n : ℕ) → Member n (numbers old) → of number_of n (front old) ≡ of number_of n (front new)

  -- The passes of lanes, and what they made, stand in the list.
  pub record LanesStand (pass : Pass (Node L) Step) (lanes : List (List Call)) (all : List (List Reply)) : Type 0 where
    pub passes : List ℕ
    pub distinct : Distinct passes
    pub other : Member pass.number passes → ⊥
    pub within : (n : ℕ) → Member n passes → Member n (numbers pass)
    pub before : List Step
    pub ran : List Step
    pub done : AreLanes before ran passes lanes all
    pub later : IsPrefix ran (front pass)
    pub once : (n : ℕ) → Member n passes → of number_of n ran ≡ of number_of n (front pass)

  -- the same of fronts of their calls
  pub record FrontsStand (pass : Pass (Node L) Step) (lanes : List (List Call)) (all : List (List Reply)) : Type 0 where
    pub passes : List ℕ
    pub distinct : Distinct passes
    pub other : Member pass.number passes → ⊥
    pub within : (n : ℕ) → Member n passes → Member n (numbers pass)
    pub before : List Step
    pub ran : List Step
    pub fronts : AreFronts before ran passes lanes all
    pub later : IsPrefix ran (front pass)
    pub once : (n : ℕ) → Member n passes → of number_of n ran ≡ of number_of n (front pass)

  abbrev pub LanesEnd : Pass (Node L) Step → List (List Call) → List (List Reply) → Result (Unit {0}) NodeFault → Type 0
  LanesEnd pass lanes all (Ok u) = LanesStand pass lanes all
  LanesEnd pass lanes all (Err f) = Has f (front pass) × IfSaid f (FrontsStand pass lanes all)

  -- lanes were run beside a worker that flushed, and all came back to this pass
  pub record RanBeside (old : Pass (Node L) Step) (lanes : List (List Call)) (new : Pass (Node L) Step) (all : List (List Reply)) (end : Result (Unit {0}) NodeFault) : Type 0 where
    pub is_pass : IsPassOf lock new
    pub number : new.number ≡ old.number
    pub later : IsPrefix (front old) (front new)
    pub own : of number_of old.number (front old) ≡ of number_of old.number (front new)
    pub done : LanesEnd new lanes all end

  abbrev pub EndDone : Pass (Node L) Step → Pass (Node L) Step → Result Reply NodeFault → Type 0
  EndDone old new (Ok last) = (synced : List Step) × Replied old.number Sync (front old) synced last × IsPrefix synced (front new) × (calls_by old.number (front new) ≡ calls_by old.number synced) × SaidBye old.number synced (front new)
  EndDone old new (Err f) = Has f (front new)

  -- the last sync was made, and goodbye said
  pub record Ended (old new : Pass (Node L) Step) (result : Result Reply NodeFault) : Type 0 where
    pub is_pass : IsPassOf lock new
    pub same : (new.number ≡ old.number) × (numbers new ≡ numbers old)
    pub later : IsPrefix (front old) (front new)
    pub others : (n : ℕ) → Member n (numbers old) → ¬ (n ≡ old.number) → of number_of n (front old) ≡ of number_of n (front new)
    pub done : EndDone old new result

  -- the list holds all calls, and the passes of the lanes came back to this one
  pub record HoldsAll (pass : Pass (Node L) Step) (lanes : List (List Call)) (all : List (List Reply)) (last : Reply) : Type 0 where
    pub holds : Holds pass.number lanes (front pass) all last
    pub within : (n : ℕ) → Member n holds.passes → Member n (numbers pass)

  abbrev pub CallsEnd : Pass (Node L) Step → List (List Call) → List (List Reply) → Result Reply NodeFault → Type 0
  CallsEnd pass lanes all (Ok last) = HoldsAll pass lanes all last
  CallsEnd pass lanes all (Err f) = Has f (front pass) × IfSaid f (FrontsStand pass lanes all)

  -- all calls were made by this pass, which had begun none, up to a fault
  pub record Called (old : Pass (Node L) Step) (lanes : List (List Call)) (new : Pass (Node L) Step) (all : List (List Reply)) (last : Result Reply NodeFault) : Type 0 where
    pub is_pass : IsPassOf lock new
    pub number : new.number ≡ old.number
    pub later : IsPrefix (front old) (front new)
    pub done : CallsEnd new lanes all last
