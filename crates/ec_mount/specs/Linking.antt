-- No public clause cites this module: it says what who links again does beside the calls.
use Rattle.std.specs.Prelude.{◌≡◌, ◌+◌, ◌≤◌, ◌<◌, ℕ, List, [], ◌∷◌, ◌++◌, Option, Some}
use mathlib.Core.List.{IsPrefix}
use Rattle.ec_lock.specs.PassViews.{front, numbers, IsPassOf}
use Rattle.ec_lock.specs.Steps.{Member, of}
use Rattle.ec_lock.specs.declared.types.Pass.{Pass}
use Rattle.ec_lock.specs.declared.types.TracedLock.{TracedLock}
use Rattle.ec_link.specs.Links.{Heard, added}
use Rattle.ec_link.specs.Nets.{Ended}
use Rattle.ec_clerknode.specs.declared.state.Node.{Node}
use Rattle.ec_clerknode.specs.declared.step.Step.{Step}
use Rattle.ec_clerknode.specs.Parts.{parts}
use Rattle.ec_clerknode.specs.PresentLink.{part}
use Rattle.ec_clerknode.specs.Run.{heard_by, said_by}
use Rattle.ec_clerknode.specs.RunEnds.{nets}
use Rattle.ec_clerknode.specs.Turns.{number_of}
use Rattle.ec_mount.specs.Run.{NetSeen, AreTold}

-- each link tells what the steps of its part heard and said, the first one behind what it had told before and these messages
abbrev pub AreToldFrom : Option (List Heard) → Option (List (List ℕ)) → List (List ℕ) → List Ended → List (List Step) → Type 0
AreToldFrom given got start [] [] = Unit {0}
AreToldFrom given got start (e ∷ es) (p ∷ ps) = (e.0 ≡ added given (heard_by p)) × (e.1 ≡ added got (start ++ said_by p)) × AreTold [] es ps
AreToldFrom given got start [] (p ∷ ps) = ⊥
AreToldFrom given got start (e ∷ es) [] = ⊥

-- how many marks of a failed or closed link these parts have
abbrev pub nets_in : List (List Step) → ℕ
nets_in [] = 0
nets_in (p ∷ ps) = nets p + nets_in ps

-- a pass had turns, or none
pub record Linked {L : Type 0} (lock : TracedLock (Node L) Step) (old new : Pass (Node L) Step) : Type 0 where
  pub is_pass : IsPassOf lock new
  pub same : (new.number ≡ old.number) × (numbers new ≡ numbers old)
  pub later : IsPrefix (front old) (front new)

module _ {L : Type 0} (counts : L → ℕ) (given : L → Option (List Heard)) (got : L → Option (List (List ℕ))) (first : Node L) where
  -- The links before the last one of these steps came back to the net, in order. Each tells what the steps of its part heard and said, and is bad where one
  -- of them has a mark.
  pub record Handed (before now : NetSeen) (steps : List Step) : Type 0 where
    pub over : List (List Step)
    pub whole : parts steps ≡ over ++ part steps ∷ []
    pub links : List Ended
    pub ended : now.ended ≡ before.ended ++ links
    pub told : AreToldFrom (given first.link) (got first.link) [] links over
    pub low : before.bad ≤ now.bad
    pub rose : 0 < nets_in over → before.bad < now.bad

  -- the same where the pass with this number has this front, and has made no exchange behind these steps
  pub record HandedBy (pass : ℕ) (before now : NetSeen) (front : List Step) : Type 0 where
    pub steps : List Step
    pub later : IsPrefix steps front
    pub own : of number_of pass steps ≡ of number_of pass front
    pub handed : Handed before now steps

  -- whatever came back before, what came back since is that of the exchanges since
  abbrev pub LinkedMore : Pass (Node L) Step → Pass (Node L) Step → NetSeen → NetSeen → Type 0
  LinkedMore old new before after = (start : NetSeen) → HandedBy old.number start before (front old) → HandedBy old.number start after (front new)

  -- who linked again came back to this pass
  pub record HasLinked (pass : Pass (Node L) Step) (before after : NetSeen) : Type 0 where
    pub within : Member 1 (numbers pass)
    pub handed : HandedBy 1 before after (front pass)
