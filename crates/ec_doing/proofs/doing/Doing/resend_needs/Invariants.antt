use Rattle.std.proofs.Common.{◌≡◌, ◌≤◌, ◌-◌, [], List, length, take, drop}
use Rattle.std.specs.Prelude.{reverse}
use Rattle.ec_protocol.specs.declared.clerk.Waiting.{Waiting}
use Rattle.ec_protocol.specs.Clerk as clerk
use Rattle.ec_doing.specs.Seen.{doing_of}
use Rattle.ec_doing.proofs.doing.Doing.resend_needs.Given as goal

abbrev pub invariant-needs : goal.invariant-needs
invariant-needs l = record {
  within : l.place ≤ length l.needs;
  went : (ws : List Waiting) → clerk.resend_needs [] l.needs (doing_of ws l.fn.self) ≡ clerk.resend_needs (reverse (take l.place l.needs)) (drop l.place l.needs) (doing_of ws l.self);
}

abbrev pub decreases-needs : goal.decreases-needs
decreases-needs l = length l.needs - l.place
