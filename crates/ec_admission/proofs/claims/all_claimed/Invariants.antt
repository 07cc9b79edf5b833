use Rattle.std.proofs.Common.{◌≡◌, drop}
use Rattle.std.specs.List.{list_all}
use Rattle.ec_admission.specs.Claims.{is_claimed, all_claimed}
use Rattle.ec_admission.proofs.claims.all_claimed.Given as goal

abbrev pub invariant-clerks : goal.invariant-clerks
invariant-clerks l = list_all (is_claimed l.claimed) (drop l.number l.sessions) ≡ all_claimed l.claimed l.sessions
