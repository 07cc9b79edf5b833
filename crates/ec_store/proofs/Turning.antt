-- How many calls a commit makes.
use Rattle.std.proofs.Common.{ℕ, ◌+◌, ◌<◌, ◌≤◌, Option, ⊎_elim, refl, arith, inl, inr}
use Rattle.std.proofs.lemmas.Bool.{cases_lt}
use Rattle.ec_journal.specs.Ends.{TurnedUpTo}
use Rattle.ec_journal.proofs.OfLayout.Calls.{turns_none, turns_within}
use Rattle.ec_store.specs.Store.{CommitTurns}

pub commit_room : (need free : ℕ) (a b : Option ℕ) (G S : Type 0) → need ≤ free → TurnedUpTo 4 a b G S → CommitTurns need free a b G S
commit_room need free a b G S room turned = record { most = 4; turned = turned; room = λ le. refl; no_room = λ lt. absurd (omega (arith, lt, room)) }

pub commit_turn : (need free pieces : ℕ) (a b : Option ℕ) (G S : Type 0) → free < need → TurnedUpTo (pieces + 9) a b G S → CommitTurns need free a b G S
commit_turn need free pieces a b G S none turned = record { most = pieces + 9; turned = turned; room = λ le. absurd (omega (arith, le, none)); no_room = λ lt. omega arith }

-- no call
pub commit_none : (need free : ℕ) (a : Option ℕ) (G S : Type 0) → (G → ⊥) → (S → ⊥) → CommitTurns need free a a G S
commit_none need free a G S goes stops = ⊎_elim (λ lt. commit_turn need free 0 a a G S lt (none 9)) (λ le. commit_room need free a a G S le (none 4)) (cases_lt free need)
  where
    none : (most : ℕ) → TurnedUpTo most a a G S
    none most = turns_within 0 most a a (Unit {0}) G ⊥ S (omega arith) (turns_none a (Unit {0})) goes (λ s. absurd (stops s))
