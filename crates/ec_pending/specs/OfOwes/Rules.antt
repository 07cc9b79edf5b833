-- The rules of a call, by what its start has done and owes.
use Rattle.std.specs.Prelude.{◌≡◌, ◌+◌, ℕ, List, Option, None, Some, ⊤}
use Rattle.std.specs.List.{filter}
use Rattle.ec_plain.specs.declared.call.Call.{Call}
use Rattle.ec_plain.specs.declared.call.Outcome.{Outcome}
use Rattle.ec_history.specs.History.{Owed, meets, distinct_numbers}
use Rattle.ec_history.specs.Legal.{IsReported, IsFull, IsReply}
use Rattle.ec_history.specs.declared.entry.Answer.{Answer}
use Rattle.ec_history.specs.declared.rule.Rule.{Rule}
use Rattle.ec_history.specs.declared.rule.Rule.TheVariants as rule

-- the number, if any, is the next one of a start that issued so many
abbrev pub IsNumbered : ℕ → Option ℕ → Type 0
IsNumbered count None = ⊤
IsNumbered count (Some n) = n ≡ count + 1

-- what a call has to report of what its start owes
abbrev pub due_of : Owed → Outcome → Call → List ℕ
due_of qs out cl = distinct_numbers (filter (meets out cl) qs)

pub record KeepsRules (count : ℕ) (dues : List ℕ) (most : ℕ) (out : Outcome) (a : Answer) (op : Option ℕ) : Type 0 where
  pub number : IsNumbered count op
  pub report : IsReported dues a
  pub room : IsFull most out a
  pub reply : IsReply out a op

abbrev pub BreaksRule : ℕ → List ℕ → ℕ → Outcome → Answer → Option ℕ → Rule → Type 0
BreaksRule count dues most out a op rule.Number = ¬ (IsNumbered count op)
BreaksRule count dues most out a op rule.Report = IsNumbered count op × ¬ (IsReported dues a)
BreaksRule count dues most out a op rule.Room = IsNumbered count op × IsReported dues a × ¬ (IsFull most out a)
BreaksRule count dues most out a op rule.Reply = IsNumbered count op × IsReported dues a × IsFull most out a × ¬ (IsReply out a op)
BreaksRule count dues most out a op _ = ⊥
