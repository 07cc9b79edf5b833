use Rattle.std.proofs.Common.{◌≡◌, take}
use Rattle.ec_protocol.specs.Clerk as clerk
use Rattle.ec_doing.specs.Seen.{doing_of}
use Rattle.ec_doing.specs.Resting.{AllRest}
use Rattle.ec_doing.proofs.rounds.try_all.Given as goal

abbrev pub invariant-rounds : goal.invariant-rounds
invariant-rounds l = record {
  went : clerk.try_all (doing_of l.fn.waiting.items l.fn.doing) ≡ clerk.try_rounds l.rounds (doing_of l.waiting.items l.doing);
  rest : AllRest (take l.front l.waiting.items) l.doing;
}

abbrev pub decreases-rounds : goal.decreases-rounds
decreases-rounds l = l.rounds
