-- Counters that are no higher than the messages that were sent, and the calls, are far below their limits.
use Rattle.std.proofs.Common.{◌≡◌, ap, ◌∙◌, arith, ◌≤◌, ◌+◌, ℕ, length}
use Rattle.std.specs.Prelude.{Some}
use Rattle.ec_base.specs.Tables.{at}
use Rattle.ec_protocol.specs.declared.clerk.Clerk.{Clerk}
use Rattle.ec_protocol.specs.declared.world.World.{World}
use Rattle.ec_quiet.specs.Scenes.{IsScene, Scene}
use Rattle.ec_complete.specs.OfAgreedLines.Counting as clerks
use Rattle.ec_complete.specs.Spare.{IsBelow, IsFarBelow, max_calls}
use Rattle.ec_quiet.specs.OfDeliveries.Runs.{IsFar}
use Rattle.ec_complete.specs.Begins.{most_sent}
use Rattle.ec_complete.specs.Worlds.{IsCounted, IsEarly, Outset}

module _ (outset : Outset) (calls : ℕ) (w : World) (sc : Scene) (i : IsScene w sc) (counted : IsCounted outset calls w sc) (few : calls ≤ max_calls) (sent : w.sent ≤ most_sent) where
  of-clerk : (c : ℕ) (k : Clerk) → at c sc.clerks ≡ Some k → clerks.IsCounted calls w.sent k
  of-clerk c k e = counted.clerks c k (ap (at c) i.clerks ∙ e)

  pub below : IsBelow 0 outset.session outset.first calls w sc
  below = record { server = counted.server; clerks = counted.clerks; ids = counted.ids; few = few; numbers = omega (arith, sent) }

  pub far-below : IsEarly outset → IsFarBelow outset.session outset.first w
  far-below early = record { sessions = omega (arith, sent, early.sessions); firsts = early.ids }

  pub far : IsFar most_sent sc
  far =
      let v = counted.server sc.server i.server in
      record {
        number = omega (arith, v.0, sent);
        sends = λ c k e. let n = of-clerk c k e in omega (arith, n.sends, sent);
        calls = λ c k e. let n = of-clerk c k e in omega (arith, n.ops, n.made, few);
      }
