-- What the value behind the lock keeps of its list of steps.
use Rattle.std.specs.Prelude.{◌≡◌, ℕ, ◌≤◌, true, false, List, [], ◌∷◌, length, Option}
use Rattle.std.specs.List.{All}
use Rattle.ec_link.specs.Links.{Heard}
use Rattle.ec_outs.specs.Outs.{Reply}
use Rattle.ec_clerknode.specs.declared.step.Step.{Step}
use Rattle.ec_clerknode.specs.declared.state.Node.{Node}
use Rattle.ec_clerknode.specs.Run.{IsRun, heard_of, said_in, told_by, old_boot, AreSaid}
use Rattle.ec_clerknode.specs.RunEnds.{highest, leads, Wanted}
use Rattle.ec_clerknode.specs.PresentLink.{Over, CameOver, Counted, LinksBy}
use Rattle.ec_clerknode.specs.Node.{AnsweredAt}

-- the step at this place, or behind it, answers the call of this number
abbrev pub AnsweredFrom : List Step → ℕ → ℕ → Reply → Type 0
AnsweredFrom steps place number reply = (at : ℕ) × (place ≤ at) × AnsweredAt steps at number reply

module _ {L : Type 0} (counts : L → ℕ) (given : L → Option (List Heard)) (got : L → Option (List (List ℕ))) where
  -- how the value stands to the one that the lock was made with
  pub record Since (first now : Node L) : Type 0 where
    pub run : IsRun first.clerk now.trace.items
    pub counted : now.steps ≡ length now.trace.items
    pub leads_to : now.broken ≡ false → leads first.clerk now.trace.items ≡ now.clerk
    pub kept : All (λ a. AnsweredAt now.trace.items a.at a.number a.reply) now.kept.items
    pub told : now.broken ≡ false → now.told.items ≡ told_by now.trace.items
    pub old : now.boot ≡ old_boot now.trace.items
    pub top : now.top ≡ highest now.trace.items
    pub net : Counted (counts first.link) now.trace.items (counts now.link)
    pub heard : now.broken ≡ false → Over (λ s. heard_of s.deed) (given first.link) now.trace.items (given now.link)
    pub sent : Over said_in (got first.link) now.trace.items (got now.link)
    pub said : now.broken ≡ false → AreSaid now.trace.items
    pub wanted : now.broken ≡ true → Wanted now.trace.items
    pub came : CameOver (given first.link) now.trace.items (given now.link)
    pub linker : now.linker ≡ first.linker
    pub links : LinksBy first.linker now.trace.items

  abbrev pub Keeps : Node L → Node L → Type 0
  Keeps old new = (first : Node L) → Since first old → Since first new

-- each step is of this pass
abbrev pub By : ℕ → List Step → Type 0
By pass [] = Unit {0}
By pass (s ∷ ss) = (s.pass ≡ pass) × By pass ss
