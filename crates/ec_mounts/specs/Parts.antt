-- No public clause cites this module: it says what the private steps of a call over the volumes do.
use Rattle.std.specs.Prelude.{◌≡◌, ◌==◌, ◌⊎◌, ℕ, zero, suc, List, [], ◌∷◌, Option, Some, None, Result, Ok, Err, Vec, slice_get, slice_set, if◌then◌else◌}
use Rattle.std.specs.declared.alloc.Global.{Global}
use Rattle.ec_history.specs.declared.entry.Answer.{Answer}
use Rattle.ec_plain.specs.declared.call.Call.{Call}
use Rattle.ec_plain.specs.declared.call.Call.TheVariants.{Sync}
use Rattle.ec_lock.specs.PassViews.{front, IsPassOf}
use Rattle.ec_lock.specs.declared.types.Pass.{Pass}
use Rattle.ec_lock.specs.declared.types.TracedLock.{TracedLock}
use Rattle.ec_outs.specs.Outs.{Reply}
use Rattle.ec_clerknode.specs.declared.fault.NodeFault.{NodeFault}
use Rattle.ec_clerknode.specs.declared.fault.NodeFault.TheVariants as fault
use Rattle.ec_clerknode.specs.declared.state.Node.{Node}
use Rattle.ec_clerknode.specs.declared.step.Step.{Step}
use Rattle.ec_clerknode.specs.Run.{told_by}
use Rattle.ec_clerknode.specs.PassTurns.{Turned, Called}
use Rattle.ec_mounts.specs.Mounts.{Rests, Makes}

-- what the volume at a place is to call: where one volume is named, what is asked there, and else each is to sync
abbrev pub asked_at : Option ℕ → ℕ → Option Call → Option Call
asked_at None at asked = Some Sync
asked_at (Some place) at asked = if place == at then asked else None

-- the first fault that was met
abbrev pub MetFirst : List (Option (Result Reply NodeFault)) → NodeFault → Type 0
MetFirst (Some (Err g) ∷ mets) f = g ≡ f
MetFirst (Some (Ok reply) ∷ mets) f = MetFirst mets f
MetFirst _ f = ⊥

-- the answers that were met, in order
abbrev pub MetAll : List (Option (Result Reply NodeFault)) → List Answer → Type 0
MetAll [] [] = Unit {0}
MetAll (Some (Ok reply) ∷ mets) (answer ∷ answers) = (answer ≡ reply.0) × MetAll mets answers
MetAll _ answers = ⊥

-- all answers, or the first fault
abbrev pub Gathers : List (Option (Result Reply NodeFault)) → Result (Vec Answer Global) NodeFault → Type 0
Gathers mets (Ok answers) = MetAll mets answers.items
Gathers mets (Err f) = MetFirst mets f ⊎ (f ≡ fault.NoMemory)

module _ {L : Type 0} where
  -- a pass of this lock had turns, or none, and began no call
  abbrev pub TookTurns : TracedLock (Node L) Step → Pass (Node L) Step → Pass (Node L) Step → Type 0
  TookTurns lock old new = IsPassOf lock new × Rests old new

  -- a pass of this lock made the call
  abbrev pub MadeOne : TracedLock (Node L) Step → Call → Pass (Node L) Step → Pass (Node L) Step → Result Reply NodeFault → Type 0
  MadeOne lock call old new met = Turned lock old new × Called old.number call (front old) (front new) met

  -- it made the call that was asked, or none was
  abbrev pub Answered : Option Call → Pass (Node L) Step → Pass (Node L) Step → Option (Result Reply NodeFault) → Type 0
  Answered None old new met = Rests old new × (met ≡ None)
  Answered (Some call) old new met = (result : Result Reply NodeFault) × (met ≡ Some result) × Makes call old new result

  -- the volume at this place took turns at most, and no other one any
  abbrev pub TookAt : ℕ → List (Pass (Node L) Step) → List (Pass (Node L) Step) → Type 0
  TookAt place olds news = (new : Pass (Node L) Step) × (news ≡ slice_set olds place new) × ((old : Pass (Node L) Step) → slice_get olds place ≡ Some old → Rests old new)

  -- what the volume at this place told lost
  abbrev pub told_at : ℕ → List (Pass (Node L) Step) → List (List ℕ)
  told_at place [] = []
  told_at zero (pass ∷ passes) = told_by (front pass)
  told_at (suc place) (pass ∷ passes) = told_at place passes

  module _ {C : Type 0} (lock_of : C → TracedLock (Node L) Step) where
    -- the pass is of the lock of the clerk at this place
    abbrev pub IsSeatedAt : List C → ℕ → Pass (Node L) Step → Type 0
    IsSeatedAt clerks at pass = (clerk : C) × (slice_get clerks at ≡ Some clerk) × IsPassOf (lock_of clerk) pass

    -- the volume at this place made its call, if one was asked, and took turns
    abbrev pub PartRan : List C → ℕ → Pass (Node L) Step → Option Call → Pass (Node L) Step → Option (Result Reply NodeFault) → Type 0
    PartRan clerks at old asked new met = IsSeatedAt clerks at new × Answered asked old new met
