-- Lines that begin in phases from which they can settle do settle, one behind the other.
use Rattle.std.proofs.Common.{◌≡◌, sym, ap, ◌∙◌, subst, arith, ◌≤◌, ◌+◌, ◌*◌, ℕ, List, [], ◌∷◌, inl, inr, length}
use Rattle.std.specs.Prelude.{Option, None, Some}
use Rattle.ec_base.specs.Tables.{at}
use Rattle.ec_history.specs.History.{Each}
use Rattle.ec_history.specs.Placing.{EachLine}
use Rattle.ec_protocol.specs.Drill.{Read, line_happens, reads, settle, unfit}
use Rattle.ec_protocol.specs.World as world
use Rattle.ec_protocol.specs.World.{Moving, due, forget, moving, pending, runs}
use Rattle.ec_protocol.specs.declared.clerk.Clerk.{Clerk}
use Rattle.ec_protocol.specs.declared.script.Line.{Line}
use Rattle.ec_protocol.specs.declared.script.Line.TheVariants as line
use Rattle.ec_protocol.specs.declared.world.World.{World}
use Rattle.ec_quiet.specs.Quiet.{IsIdle}
use Rattle.ec_quiet.specs.Scenes.{IsScene, Scene}
use Rattle.ec_quiet.proofs.Bounded.{measure-most}
use Rattle.ec_quiet.proofs.Delivering as delivering
use Rattle.ec_quiet.specs.SettlingScenes.{here}
use Rattle.ec_quiet.specs.Settling.{IsSettled}
use Rattle.ec_quiet.specs.SettlingCounts.{Counts}
use Rattle.ec_quiet.proofs.Counting.{calls, pushes}
use Rattle.ec_quiet.proofs.Mail.{few, pending-is}
use Rattle.ec_quiet.proofs.Showing.{settled-lines}
use Rattle.ec_quiet.proofs.Ending.{ends}
use Rattle.ec_quiet.specs.OfDeliveries.Runs.{HasSettled}
use Rattle.ec_quiet.proofs.OfDeliveries.Lines.{line-settles}
use Rattle.ec_complete.specs.Complete.{IsFaultless, IsFaultlessRead}
use Rattle.ec_complete.specs.SettledRuns.{EachSettles}
use Rattle.ec_complete.specs.Begins.{BeginsLine, EachBegins, IsBegun, RunsSettle, bound_for, most_sent}
use Rattle.ec_quiet.proofs.Settled.{stops}

-- The first step of a line.
module _ (n : ℕ) (w : World) where
  shows : (l : Line) → IsFaultless l → EachLine IsSettled (line_happens runs n l w).shown
  shows line.Comment a = tt
  shows (line.Call c cl) a = (settled-lines w).1 c n cl
  shows (line.Push c i) a = go (at c w.clerks)
    where
      go : (o : Option Clerk) → EachLine IsSettled (world.push c i o w).shown
      go None = tt
      go (Some k) = (settled-lines w).2 c i k
  shows (line.Cut c) a = absurd a
  shows (line.Uncut c) a = absurd a
  shows (line.Drop c i j) a = absurd a
  shows (line.Repeat c i j) a = absurd a
  shows (line.Deliver c i j) a = absurd a
  shows (line.Resend c) a = absurd a
  shows (line.Crash c) a = absurd a
  shows (line.End c) a = absurd a
  shows line.Stop a = absurd a
  shows (line.Arm i ch) a = absurd a
  shows line.Restart a = absurd a

  counts : (l : Line) → IsFaultless l → Counts 0 w (line_happens runs n l w).world
  counts line.Comment a = omega arith
  counts (line.Call c cl) a = calls w c n cl
  counts (line.Push c i) a = go (at c w.clerks)
    where
      go : (o : Option Clerk) → Counts 0 w (world.push c i o w).world
      go None = omega arith
      go (Some k) = pushes w c i k
  counts (line.Cut c) a = absurd a
  counts (line.Uncut c) a = absurd a
  counts (line.Drop c i j) a = absurd a
  counts (line.Repeat c i j) a = absurd a
  counts (line.Deliver c i j) a = absurd a
  counts (line.Resend c) a = absurd a
  counts (line.Crash c) a = absurd a
  counts (line.End c) a = absurd a
  counts line.Stop a = absurd a
  counts (line.Arm i ch) a = absurd a
  counts line.Restart a = absurd a

module _ (k : ℕ) (sixteen : k ≤ 16) where
  abbrev b : ℕ
  b = bound_for k

  few-deliveries : b ≤ 69632
  few-deliveries = omega (arith, sixteen)

  -- behind this line's first step, which found so many messages sent
  module _ (m : Moving) (most : ℕ) (fine : m.fault ≡ None) (shown : EachLine IsSettled m.shown) where
    -- what a step sends is pending
    abbrev IsSent : Type 0
    IsSent = m.world.sent ≤ most + pending m.world

    idles : (sc : Scene) → IsScene m.world sc → IsIdle sc → HasSettled b m (settle b [] m)
    idles sc i idle =
        let none : due m.world ≡ None = delivering.none-due m.world sc i idle.mail in
        subst (HasSettled b m) (sym (stops b m none)) (record { reached = here; none = none; fault = fine; sent = omega arith; shown = shown; scene = sc; stands = i; idle = idle })

    few-first : (begun : BeginsLine k m) → pending m.world ≤ b + 2
    few-first q = omega (arith, pending-is m.world q.scene q.stands, few q.work q.scene q.first.phase q.first.comes, measure-most q.work q.scene q.first.phase k q.first.first q.first.none_back q.few q.rows q.unsent)

    begins : IsSent → most + 139266 + 69634 ≤ most_sent → (q : BeginsLine k m) → HasSettled b m (settle b [] m)
    begins sent room q = line-settles q.work k most_sent m q.scene q.can fine shown q.stands q.first q.few q.rows q.unsent (omega (arith, sent, few-first q, room, few-deliveries))

    settles : IsSent → most + 139266 + 69634 ≤ most_sent → IsBegun k m → HasSettled b m (settle b [] m)
    settles sent room (inl q) = begins sent room q
    settles sent room (inr (sc, i, idle)) = idles sc i idle

    few-begun : IsBegun k m → pending m.world ≤ b + 2
    few-begun (inl q) = few-first q
    few-begun (inr (sc, i, idle)) = omega (arith, pending-is m.world sc i, ap length idle.mail)

    -- so many messages were sent behind the line
    sent-then : IsSent → (begun : IsBegun k m) → (r : Moving) → HasSettled b m r → r.world.sent ≤ most + 139266
    sent-then sent begun r s = omega (arith, sent, few-begun begun, s.sent, few-deliveries)

  each : (ls : List Read) (number : ℕ) (w : World) → w.sent ≤ 139266 * number → pending w ≡ 0 → number + length ls ≤ 65537 → Each IsFaultlessRead ls → EachBegins k number ls w → EachSettles b number ls w
  each [] number w sent none few a e = tt
  each (unfit column ∷ ls) number w sent none few a e = absurd a.0
  each (reads l column ∷ ls) number w sent none few a e =
      (e.0, settled, each ls (number + 1) (forget (settle b [] m).world) sent-on over (omega (arith, few)) a.1 e.2)
    where
      m : Moving
      m = line_happens runs number l w

      from : (line_happens runs number l w).world.sent ≤ 139266 * number + pending (line_happens runs number l w).world
      from = omega (arith, counts number w l a.0, sent, none)

      settled : HasSettled b (line_happens runs number l w) (settle b [] (line_happens runs number l w))
      settled = settles (line_happens runs number l w) (139266 * number) e.0 (shows number w l a.0) from (omega (arith, few)) e.1

      over : pending (forget (settle b [] (line_happens runs number l w)).world) ≡ 0
      over = (ends (settle b [] (line_happens runs number l w)).world settled.scene settled.stands settled.idle.mail).0

      sent-on : (settle b [] (line_happens runs number l w)).world.sent ≤ 139266 * (number + 1)
      sent-on = omega (arith, sent-then (line_happens runs number l w) (139266 * number) e.0 (shows number w l a.0) from e.1 (settle b [] (line_happens runs number l w)) settled)

pub runs-settle : RunsSettle
runs-settle k ls w sc sixteen few none i idle a e = each k sixteen ls 1 w (omega (arith, none)) (pending-is w sc i ∙ ap length idle.mail) (omega (arith, few)) a e
