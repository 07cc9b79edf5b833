use Rattle.std.proofs.Common.{◌≡◌, ◌-◌, ◌++◌, true, List, length, take, drop}
use Rattle.ec_protocol.specs.declared.clerk.Waiting.{Waiting}
use Rattle.ec_protocol.specs.Clerk as clerk
use Rattle.ec_doing.specs.Seen.{doing_of}
use Rattle.ec_doing.specs.Resting.{AllRest}
use Rattle.ec_doing.proofs.rounds.first_answered.Given as goal

abbrev pub invariant-calls : goal.invariant-calls
invariant-calls l = record {
  went : (ws before : List Waiting) → clerk.try_each before l.waiting (doing_of ws l.fn.doing) ≡ clerk.try_each (before ++ take l.place l.waiting) (drop l.place l.waiting) (doing_of ws l.doing);
  rest : l.rest ≡ true → AllRest (take l.place l.waiting) l.doing;
}

abbrev pub decreases-calls : goal.decreases-calls
decreases-calls l = length l.waiting - l.place
