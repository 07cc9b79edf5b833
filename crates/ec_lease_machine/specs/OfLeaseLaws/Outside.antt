-- Answers of a clerk without a session.
use Rattle.std.specs.Prelude.{ℕ, T, Option}
use Rattle.ec_plain.specs.BoundedCalls.{is_bounded}
use Rattle.ec_plain.specs.declared.call.Call.{Call}
use Rattle.ec_history.specs.History.{Owed}
use Rattle.ec_history.specs.declared.entry.Answer.{Answer}
use Rattle.ec_protocol.specs.Clerk.{verdict}
use Rattle.ec_protocol.specs.declared.clerk.Clerk.{Clerk}
use Rattle.ec_coherence.specs.Answers.{Gives}
use Rattle.ec_coherence.specs.Sessions.{HasNone}
use Rattle.ec_history.specs.OfLaws.OfPrinted.Timely.{IsBare}

-- no volume changes them
abbrev pub OutsideAreBare : Type 0
OutsideAreBare = (k : Clerk) → HasNone k → (cl : Call) → T (is_bounded cl) → (most : ℕ) (a : Answer) (op : Option ℕ) (rest : Owed) → Gives most k (verdict cl k) a op rest → IsBare cl a op
