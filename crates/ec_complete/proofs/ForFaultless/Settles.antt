-- A line whose work began settles, and sends few messages.
use Rattle.std.proofs.Common.{◌≡◌, sym, ap, ◌∙◌, subst, arith, ◌≤◌, ◌+◌, ◌*◌, ℕ, T, true, List, [], inl, inr, length}
use Rattle.std.specs.Prelude.{Option, None, Some, is_some}
use Rattle.ec_base.specs.Tables.{at, once}
use Rattle.ec_volume.specs.Update.{member}
use Rattle.ec_history.specs.Placing.{EachLine}
use Rattle.ec_sessions.specs.declared.slot.Slot.{Slot}
use Rattle.ec_durable.specs.Durable.{slot}
use Rattle.ec_protocol.specs.Drill.{line_happens, settle}
use Rattle.ec_protocol.specs.World as world
use Rattle.ec_protocol.specs.World.{Moving, due, pending, runs}
use Rattle.ec_protocol.specs.declared.clerk.Clerk.{Clerk}
use Rattle.ec_protocol.specs.declared.script.Line.{Line}
use Rattle.ec_protocol.specs.declared.script.Line.TheVariants as line
use Rattle.ec_protocol.specs.declared.world.World.{World}
use Rattle.ec_protocol.specs.declared.world.WorldFault.{WorldFault}
use Rattle.ec_quiet.specs.Measure.{sum, unsent_by}
use Rattle.ec_quiet.specs.Phases.{InPhase, Phase, backs}
use Rattle.ec_quiet.specs.Quiet.{IsIdle}
use Rattle.ec_quiet.specs.Scenes.{IsScene, Scene}
use Rattle.ec_quiet.specs.Works.{Work}
use Rattle.ec_quiet.specs.Bounds.{IsFirstPhase}
use Rattle.ec_quiet.specs.SettlingScenes.{here}
use Rattle.ec_quiet.specs.Settling.{IsSettled}
use Rattle.ec_quiet.specs.SettlingCounts.{Counts}
use Rattle.ec_quiet.proofs.Mail.{few, pending-is}
use Rattle.ec_quiet.specs.OfDeliveries.Runs.{HasEnded, HasSettled}
use Rattle.ec_complete.specs.Begins.{IsBegun, bound_for, most_sent}
use Rattle.ec_complete.specs.Complete.{IsFaultless}
use Rattle.ec_complete.specs.Worlds.{IsEarly, LineIsKnown, Outset}
use Rattle.ec_complete.specs.Goes.{HasStarted, IsStarted}
use Rattle.ec_complete.proofs.ForFaultless.Laws.{calls-send, lines-can-go-on, lines-can-settle, lines-settle, lines-settle-or-end, lines-settled, measure-most, nothing-due, pushes-send, rows-few}
use Rattle.ec_complete.proofs.ForFaultless.Tables.{few-named}
use Rattle.ec_base.proofs.Options.{none_some}
use Rattle.ec_quiet.proofs.Settled.{stops}

-- Work that is in a phase in which lines begin, where clerks have names and few operations are undurable.
module _ (outset : Outset) (names : List ℕ) (number : ℕ) (j : Work) (m : Moving) (now : Scene) (i : IsScene m.world now) (known : LineIsKnown outset j number m) (few-touched : length j.touched ≤ 137) (named : (a : ℕ) (b : Clerk) → at a now.clerks ≡ Some b → T (member a names)) where
  pub work-begins : (p : Phase) → IsFirstPhase p → InPhase j now p → backs j now.mail ≡ [] → T (is_some (at j.clerk now.clerks)) → ((sl : Slot) → slot now.server.durable j.clerk ≡ Some sl → sl.is_open ≡ true → sl.session ≡ j.session) → sum (unsent_by j) now.clerks ≤ 65535
      → IsStarted outset (length (once names)) number m
  work-begins p first comes none there own unsent = inl (record {
    work = j;
    known = known;
    scene = now;
    stands = i;
    first = record { phase = p; first = first; comes = comes; none_back = none };
    few = few-touched;
    rows = omega (arith, rows-few now.server now.clerks j.clerk j.session comes.orderly there own, few-named now.clerks names comes.orderly.rising named);
    unsent = unsent;
  })

-- The first step of a line.
module _ (n : ℕ) (w : World) where
  pub shows : (l : Line) → IsFaultless l → EachLine IsSettled (line_happens runs n l w).shown
  shows line.Comment a = tt
  shows (line.Call c cl) a = (lines-settled w).1 c n cl
  shows (line.Push c i) a = go (at c w.clerks)
    where
      go : (o : Option Clerk) → EachLine IsSettled (world.push c i o w).shown
      go None = tt
      go (Some k) = (lines-settled w).2 c i k
  shows (line.Cut c) a = absurd a
  shows (line.Uncut c) a = absurd a
  shows (line.Drop c i j) a = absurd a
  shows (line.Repeat c i j) a = absurd a
  shows (line.Deliver c i j) a = absurd a
  shows (line.Resend c) a = absurd a
  shows (line.Crash c) a = absurd a
  shows (line.End c) a = absurd a
  shows line.Stop a = absurd a
  shows (line.Arm i ch) a = absurd a
  shows line.Restart a = absurd a

  pub counts : (l : Line) → IsFaultless l → Counts 0 w (line_happens runs n l w).world
  counts line.Comment a = omega arith
  counts (line.Call c cl) a = calls-send w c n cl
  counts (line.Push c i) a = go (at c w.clerks)
    where
      go : (o : Option Clerk) → Counts 0 w (world.push c i o w).world
      go None = omega arith
      go (Some k) = pushes-send w c i k
  counts (line.Cut c) a = absurd a
  counts (line.Uncut c) a = absurd a
  counts (line.Drop c i j) a = absurd a
  counts (line.Repeat c i j) a = absurd a
  counts (line.Deliver c i j) a = absurd a
  counts (line.Resend c) a = absurd a
  counts (line.Crash c) a = absurd a
  counts (line.End c) a = absurd a
  counts line.Stop a = absurd a
  counts (line.Arm i ch) a = absurd a
  counts line.Restart a = absurd a

-- Behind it, where so many messages were sent before.
module _ (outset : Outset) (number k : ℕ) (few-lines : number ≤ 65536) (sixteen : k ≤ 16) (m : Moving) (most : ℕ) (fine : m.fault ≡ None) (shown : EachLine IsSettled m.shown) (sent : m.world.sent ≤ most + pending m.world) (room : most + 208900 ≤ most_sent) where
  abbrev b : ℕ
  b = bound_for k

  few-deliveries : b ≤ 69632
  few-deliveries = omega (arith, sixteen)

  idles : (sc : Scene) → IsScene m.world sc → IsIdle sc → HasSettled b m (settle b [] m)
  idles sc i idle =
      let none : due m.world ≡ None = nothing-due m.world sc i idle.mail in
      subst (HasSettled b m) (sym (stops b m none)) (record { reached = here; none = none; fault = fine; sent = omega arith; shown = shown; scene = sc; stands = i; idle = idle })

  few-first : (begun : HasStarted outset k number m) → pending m.world ≤ b + 2
  few-first q = omega (arith, pending-is m.world q.scene q.stands, few q.work q.scene q.first.phase q.first.comes, measure-most q.work q.scene q.first.phase k q.first.first q.first.none_back q.few q.rows q.unsent)

  few-then : (begun : HasStarted outset k number m) → m.world.sent + 4096 * (k + 1) + 2 ≤ most_sent
  few-then q = omega (arith, sent, few-first q, room, few-deliveries)

  -- where the line ends without a fault, and where it ends in a delivery
  pub settles-or-ends : IsStarted outset k number m → ((settle b [] m).fault ≡ None → HasSettled b m (settle b [] m)) × ((f : WorldFault) → (settle b [] m).fault ≡ Some f → HasEnded most_sent m (settle b [] m))
  settles-or-ends (inl q) = lines-settle-or-end q.work k most_sent m q.scene (lines-can-go-on outset q.work number m q.known few-lines) fine shown q.stands q.first q.few q.rows q.unsent (few-then q)
  settles-or-ends (inr (sc, i, idle)) = (λ e. idles sc i idle, λ f e. absurd (none_some (sym fine ∙ ap (λ (x : Moving). x.fault) (sym (stops b m (nothing-due m.world sc i idle.mail))) ∙ e)))

  -- where counters were far below their limits
  pub begins : IsEarly outset → IsStarted outset k number m → IsBegun k m
  begins early (inl q) = inl (record { work = q.work; scene = q.scene; stands = q.stands; first = q.first; can = lines-can-settle outset q.work number m q.known few-lines early; few = q.few; rows = q.rows; unsent = q.unsent })
  begins early (inr q) = inr q

  pub settles : IsEarly outset → IsStarted outset k number m → HasSettled b m (settle b [] m)
  settles early (inl q) = lines-settle q.work k most_sent m q.scene (lines-can-settle outset q.work number m q.known few-lines early) fine shown q.stands q.first q.few q.rows q.unsent (few-then q)
  settles early (inr (sc, i, idle)) = idles sc i idle

  few-begun : IsStarted outset k number m → pending m.world ≤ b + 2
  few-begun (inl q) = few-first q
  few-begun (inr (sc, i, idle)) = omega (arith, pending-is m.world sc i, ap length idle.mail)

  -- so many messages were sent behind the line
  pub sent-behind : IsStarted outset k number m → (r : Moving) → HasSettled b m r → r.world.sent ≤ most + 139266
  sent-behind started r s = omega (arith, sent, few-begun started, s.sent, few-deliveries)
