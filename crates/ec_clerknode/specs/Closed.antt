-- What one turn adds: the clerk takes a step, its messages are sent, its answers kept, and the step stands in the list.
use Rattle.std.specs.Prelude.{◌≡◌, ℕ, ◌+◌, ◌≤◌, ◌⊎◌, true, false, List, [], ◌∷◌, ◌++◌, length, map, Option, Some, None, Result, Ok, Err, IfSome, max, Bool}
use Rattle.std.specs.declared.snapshot.Snapshot.{Snapshot}
use Rattle.ec_base.specs.declared.ids.Age.{Age}
use Rattle.ec_log.specs.declared.state.Asked.{Asked}
use Rattle.ec_plain.specs.declared.call.Call.{Call}
use Rattle.ec_protocol.specs.declared.clerk.Clerk.{Clerk}
use Rattle.ec_protocol.specs.declared.clerk.Out.{Out}
use Rattle.ec_protocol.specs.declared.clerk.Flushed.{Flushed}
use Rattle.ec_link.specs.declared.link.Sent.{Sent}
use Rattle.ec_link.specs.declared.link.Sent.TheVariants as sent
use Rattle.ec_link.specs.declared.link.Got.{Got}
use Rattle.ec_link.specs.declared.link.Got.TheVariants as gave
use Rattle.ec_link.specs.Links.{Heard, added}
use Rattle.ec_link.specs.LinkAnswers.{heard, failed, fault_of, close_of}
use Rattle.ec_outs.specs.Outs.{Reply, told, answers, sends, old_boots}
use Rattle.ec_outs.specs.KeptAnswers.{first_known, kept_at}
use Rattle.ec_clerknode.specs.declared.act.Act.{Act}
use Rattle.ec_clerknode.specs.declared.fault.NodeFault.{NodeFault}
use Rattle.ec_clerknode.specs.declared.fault.NodeFault.TheVariants as fault
use Rattle.ec_clerknode.specs.declared.step.Deed.{Deed}
use Rattle.ec_clerknode.specs.declared.step.Deed.TheVariants.{Began, Picked, Resent, Linked}
use Rattle.ec_clerknode.specs.declared.step.Step.{Step}
use Rattle.ec_clerknode.specs.declared.state.Node.{Node}
use Rattle.ec_clerknode.specs.Folded.{floor_of}
use Rattle.ec_clerknode.specs.FoldedAnswers.{answer_to}
use Rattle.ec_clerknode.specs.Run.{after, outs_of, IsDeed, heard_of, call_of, mark_of_deed, calls, marks, Among, said_in, IsSaid, IsBroken, IsGoodbye}
use Rattle.ec_clerknode.specs.RunEnds.{net_of}
use Rattle.ec_clerknode.specs.Parts.{is_linked}
use Rattle.ec_clerknode.specs.NodeSteps.{AnsweredFrom, Since, By}

abbrev pub is_wanting : Sent → Bool
is_wanting sent.Done = false
is_wanting sent.Failed = false
is_wanting sent.NoMemory = true

module _ {L : Type 0} (counts : L → ℕ) (given : L → Option (List Heard)) (got : L → Option (List (List ℕ))) where
  -- the step was added. Where memory was wanting for an answer or a message, the clerk is followed no more.
  pub record Closed (pass : ℕ) (deed : Deed) (outs : List Out) (step : Step) (old new : Node L) : Type 0 where
    pub list : new.trace.items ≡ old.trace.items ++ step ∷ []
    pub steps : new.steps ≡ old.steps + 1
    pub pass_is : step.pass ≡ pass
    pub deed_is : step.deed ≡ deed
    pub outs_are : step.outs.value.items ≡ outs
    pub floor : step.floor ≡ floor_of old.clerk
    pub whole : step.end ≡ sent.Done → step.sent ≡ length (sends outs)
    pub top : new.top ≡ max old.top step.floor
    pub clerk : new.clerk ≡ old.clerk
    pub kept : (new.kept.items ≡ old.kept.items ++ map (kept_at old.steps) (answers outs)) ⊎ (new.kept.items ≡ [])
    pub told_more : new.broken ≡ false → new.told.items ≡ old.told.items ++ told outs
    pub old_boot : new.boot ≡ first_known old.boot (old_boots outs)
    pub given_same : given new.link ≡ given old.link
    pub got_more : got new.link ≡ added (got old.link) (said_in step)
    pub counted : failed step.end + counts old.link ≤ counts new.link
    pub said : new.broken ≡ false → IsSaid step.end
    pub wanted : new.broken ≡ true → (old.broken ≡ true) ⊎ (step.end ≡ sent.NoMemory)
    pub linker : new.linker ≡ old.linker

-- `mid` is `old` with the clerk after the deed, but for the link
pub record Moved {L : Type 0} (deed : Deed) (outs : List Out) (old mid : Node L) : Type 0 where
  pub up : old.broken ≡ false
  pub still_up : mid.broken ≡ false
  pub is : IsDeed old.clerk deed
  pub outs_are : outs ≡ outs_of old.clerk deed
  pub clerk : mid.clerk ≡ after old.clerk deed
  pub kept : mid.kept.items ≡ old.kept.items
  pub told_same : mid.told.items ≡ old.told.items
  pub boot : mid.boot ≡ old.boot
  pub steps : mid.steps ≡ old.steps
  pub top : mid.top ≡ old.top
  pub list : mid.trace.items ≡ old.trace.items
  pub linker : mid.linker ≡ old.linker

-- The mark that memory was wanting was added, by this pass, and the clerk is followed no more.
pub record Fell {L : Type 0} (pass : ℕ) (old new : Node L) : Type 0 where
  pub same : new ≡ record old { broken = true; steps = old.steps + 1; trace = new.trace }
  pub step : Step
  pub list : new.trace.items ≡ old.trace.items ++ step ∷ []
  pub is : IsBroken step
  pub pass_is : step.pass ≡ pass

-- What a turn of the clerk made of it, and the fault that its mark is the cause of.
abbrev pub Acts : Clerk → Act → Clerk → Type 0
Acts old act new = IsDeed old act.deed × (act.outs.items ≡ outs_of old act.deed) × (new ≡ after old act.deed) × IfSome act.fault (λ f. mark_of_deed act.deed ≡ f ∷ []) × (is_linked act.deed ≡ false)

-- the link gave nothing for it
abbrev pub IsOwn : Deed → Type 0
IsOwn deed = (heard_of deed ≡ []) × (net_of deed ≡ 0)

-- a fault that has a mark, or want of memory
abbrev pub IsMark : NodeFault → Type 0
IsMark fault.Net = Unit {0}
IsMark (fault.Peer place) = Unit {0}
IsMark (fault.Long n) = Unit {0}
IsMark (fault.OldBoot age) = ⊥
IsMark (fault.Spent counter) = Unit {0}
IsMark fault.NoMemory = Unit {0}

-- how a turn with this mark ends
abbrev pub StopsTurn : Option Age → Sent → Option NodeFault → NodeFault → Type 0
StopsTurn boot end marked fault.Net = (boot ≡ None) × ((end ≡ sent.Failed) ⊎ (marked ≡ Some fault.Net))
StopsTurn boot end marked (fault.Peer place) = (boot ≡ None) × (marked ≡ Some (fault.Peer place))
StopsTurn boot end marked (fault.Long n) = (boot ≡ None) × (marked ≡ Some (fault.Long n))
StopsTurn boot end marked (fault.OldBoot age) = boot ≡ Some age
StopsTurn boot end marked (fault.Spent counter) = (boot ≡ None) × (marked ≡ Some (fault.Spent counter))
StopsTurn boot end marked fault.NoMemory = Unit {0}

-- all went well, or the link failed or was closed where another one will come
abbrev pub GoesOnAfter : Bool → Bool → Sent → Option NodeFault → Type 0
GoesOnAfter lasts is_down end marked = ((marked ≡ None) × (end ≡ sent.Done)) ⊎ ((lasts ≡ true) × (is_down ≡ true) × ((marked ≡ None) ⊎ (marked ≡ Some fault.Net)) × ((end ≡ sent.Done) ⊎ (end ≡ sent.Failed)))

abbrev pub EndsAs : {A : Type 0} → Option Age → Bool → Bool → Sent → Option NodeFault → Result A NodeFault → Type 0
EndsAs boot lasts is_down end marked (Ok x) = (boot ≡ None) × GoesOnAfter lasts is_down end marked
EndsAs boot lasts is_down end marked (Err f) = StopsTurn boot end marked f

-- the list has grown by these steps of this pass
abbrev pub More : {L : Type 0} → ℕ → Node L → Node L → List Step → Type 0
More pass old new more = (new.trace.items ≡ old.trace.items ++ more) × By pass more

-- A fault of the link or of a counter has its mark among these steps, and no greater age is known. For a greater age that age is known.
abbrev pub Caused : Option Age → NodeFault → List Step → Type 0
Caused boot fault.Net more = (boot ≡ None) × Among fault.Net (marks more)
Caused boot (fault.Peer place) more = (boot ≡ None) × Among (fault.Peer place) (marks more)
Caused boot (fault.Long n) more = (boot ≡ None) × Among (fault.Long n) (marks more)
Caused boot (fault.OldBoot age) more = boot ≡ Some age
Caused boot (fault.Spent counter) more = (boot ≡ None) × Among (fault.Spent counter) (marks more)
Caused boot fault.NoMemory more = Unit {0}

-- steps that begin these calls or none, and a fault with its cause
abbrev pub Fails : {L : Type 0} → ℕ → List Call → Node L → Node L → NodeFault → Type 0
Fails pass cs old new f = (more : List Step) × More pass old new more × ((calls more ≡ []) ⊎ (calls more ≡ cs)) × Caused new.boot f more

-- the call was begun, in one step
abbrev pub Begun : {L : Type 0} → ℕ → Call → Node L → Node L → Result ℕ NodeFault → Type 0
Begun pass call old new (Ok number) = (new.boot ≡ None) × ((shot : Snapshot Call) × (step : Step) × (shot.value ≡ call) × (step.deed ≡ Began shot number) × More pass old new (step ∷ []))
Begun pass call old new (Err f) = Fails pass (call ∷ []) old new f

-- steps that begin no call
abbrev pub Works : {L A : Type 0} → ℕ → Node L → Node L → Result A NodeFault → Type 0
Works pass old new (Ok x) = (new.boot ≡ None) × ((more : List Step) × More pass old new more × (calls more ≡ []))
Works pass old new (Err f) = Fails pass [] old new f

-- a batch was asked for, in one step, and this is the clerk's answer
abbrev pub Flushes : {L : Type 0} → ℕ → Asked → Node L → Node L → Result Flushed NodeFault → Type 0
Flushes pass asked old new (Ok answer) = (new.boot ≡ None) × (old.broken ≡ false) × ((step : Step) × (shot : Snapshot Asked) × (shot.value ≡ asked) × (step.deed ≡ Picked shot) × (answer ≡ answer_to asked old.clerk) × More pass old new (step ∷ []))
Flushes pass asked old new (Err f) = Fails pass [] old new f

abbrev pub PartsIf : {L : Type 0} → Bool → ℕ → Node L → Node L → Type 0
PartsIf true pass old new = (step : Step) × IsGoodbye step × More pass old new (step ∷ [])
PartsIf false pass old new = (more : List Step) × More pass old new more × (calls more ≡ [])

-- It may have said goodbye, in one step, and begins no call. A goodbye that the link didn't take is none.
abbrev pub Parts : {L : Type 0} → ℕ → Node L → Node L → Result Bool NodeFault → Type 0
Parts pass old new (Ok is_said) = (new.boot ≡ None) × PartsIf is_said pass old new
Parts pass old new (Err f) = Fails pass [] old new f

-- the link was read once, and then it may have said goodbye
abbrev pub PartsBehind : {L A : Type 0} → ℕ → Node L → Node L → Result (A × Bool) NodeFault → Type 0
PartsBehind {L = L} pass old new (Ok r) = (new.boot ≡ None) × ((mid : Node L) × ((more : List Step) × More pass old mid more × (calls more ≡ [])) × PartsIf r.1 pass mid new)
PartsBehind pass old new (Err f) = Fails pass [] old new f

-- it sent again what is outstanding, in one step
abbrev pub Resends : {L : Type 0} → ℕ → Node L → Node L → Result (Unit {0}) NodeFault → Type 0
Resends pass old new (Ok u) = (new.boot ≡ None) × ((step : Step) × (step.deed ≡ Resent) × More pass old new (step ∷ []))
Resends pass old new (Err f) = Fails pass [] old new f

-- the link was exchanged: in one step the clerk greeted by the new one, and this one came back
abbrev pub Links : {L : Type 0} → ℕ → Node L → Node L → L → Type 0
Links pass old new link = (link ≡ old.link) × (old.broken ≡ false) × (old.linker ≡ Some pass) × ((step : Step) × (step.deed ≡ Linked) × More pass old new (step ∷ []))

-- what is done with what the link gave; with nothing, nothing
abbrev pub Hears : Clerk → Got → Clerk → Option Act → Type 0
Hears old got new None = (new ≡ old) × (heard got ≡ []) × (got ≡ gave.Nothing)
Hears old got new (Some act) = Acts old act new × (heard got ≡ heard_of act.deed) × (net_of act.deed ≤ fault_of got + close_of got) × (call_of act.deed ≡ [])

module _ {L : Type 0} (counts : L → ℕ) (given : L → Option (List Heard)) (got : L → Option (List (List ℕ))) where
  -- where it is there, the answer stands at the place of the call's step or behind it
  abbrev pub Waited : {A : Type 0} → ℕ → ℕ → Node L → Node L → Result (A × Option Reply) NodeFault → Type 0
  Waited number place old new (Ok r) = (first : Node L) → Since counts given got first old → IfSome r.1 (λ a. AnsweredFrom new.trace.items place number a)
  Waited number place old new (Err f) = Unit {0}

  abbrev pub Started : ℕ → Call → Node L → Node L → Result (ℕ × ℕ × Option Reply) NodeFault → Type 0
  Started pass call old new (Ok r) = Begun pass call old new (Ok r.0) × (r.1 ≡ old.steps) × Waited r.0 r.1 old new (Ok (r.0, r.2))
  Started pass call old new (Err f) = Begun pass call old new (Err f)

  -- the link was read once, and then a batch asked for
  abbrev pub ReadsFlushes : {A : Type 0} → ℕ → Asked → Node L → Node L → Result (A × Flushed) NodeFault → Type 0
  ReadsFlushes pass asked old new (Ok r) = (mid : Node L) × ((first : Node L) → Since counts given got first old → Since counts given got first mid) × ((more : List Step) × More pass old mid more × (calls more ≡ [])) × Flushes pass asked mid new (Ok r.1)
  ReadsFlushes pass asked old new (Err f) = Fails pass [] old new f
