-- What a pass knows of lanes of calls, each of which was made by a pass of its own.
use Rattle.std.specs.Prelude.{◌≡◌, ℕ, ◌+◌, ◌≤◌, List, [], ◌∷◌, ◌++◌, length}
use Rattle.ec_plain.specs.declared.call.Call.{Call}
use Rattle.ec_lock.specs.Passes.{answered}
use Rattle.ec_outs.specs.Outs.{Reply}
use Rattle.ec_clerknode.specs.declared.step.Step.{Step}
use Rattle.ec_clerknode.specs.Node.{AnsweredAt}
use Rattle.ec_clerknode.specs.Turns.{calls_by, BeganAt}

-- The pass has begun these calls at this place or behind it, one after another, each behind the answer of the one before, and they have these answers.
abbrev pub AreReplied : ℕ → List Step → ℕ → List Call → List Reply → Type 0
AreReplied pass steps least [] [] = Unit {0}
AreReplied pass steps least (call ∷ calls) (reply ∷ replies) = (number : ℕ) × (at : ℕ) × (end : ℕ) × (least ≤ at) × (at ≤ end) × BeganAt pass steps at call number × AnsweredAt steps end number reply
    × AreReplied pass steps (end + 1) calls replies
AreReplied pass steps least _ _ = ⊥

-- The pass has begun a front of these calls behind the list before, each once and in order, beside those that it had begun. They have these answers, but
-- the one begun last may have none.
pub record IsFront (pass : ℕ) (had calls : List Call) (before after : List Step) (replies : List Reply) : Type 0 where
  pub answered : List Call
  pub last : List Call
  pub rest : List Call
  pub whole : answered ++ (last ++ rest) ≡ calls
  pub few : length last ≤ 1
  pub begun : calls_by pass after ≡ had ++ (answered ++ last)
  pub replied : AreReplied pass after (length before) answered replies

-- Each pass of these has begun just the calls of its lane, each once and in order behind the list before, with these answers.
abbrev pub AreLanes : List Step → List Step → List ℕ → List (List Call) → List (List Reply) → Type 0
AreLanes before after [] [] [] = Unit {0}
AreLanes before after (pass ∷ passes) (calls ∷ lanes) (replies ∷ all) = (calls_by pass after ≡ calls) × AreReplied pass after (length before) calls replies × AreLanes before after passes lanes all
AreLanes before after _ _ _ = ⊥

-- each of these passes has begun nothing but a front of the calls of its lane, with these answers
abbrev pub AreFronts : List Step → List Step → List ℕ → List (List Call) → List (List Reply) → Type 0
AreFronts before after [] [] [] = Unit {0}
AreFronts before after (pass ∷ passes) (calls ∷ lanes) (replies ∷ all) = IsFront pass [] calls before after replies × AreFronts before after passes lanes all
AreFronts before after _ _ _ = ⊥
