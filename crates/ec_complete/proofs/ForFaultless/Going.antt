-- Each line without a fault goes on, in a world that is ready for it.
use Rattle.std.proofs.Common.{◌≡◌, refl, sym, ap, ◌∙◌, subst, arith, ◌≤◌, ◌<◌, ◌+◌, ℕ, T, false, List, inr}
use Rattle.std.specs.Prelude.{Option, None, Some, nat_lt, ⊤}
use Rattle.ec_base.specs.Limits.{last_counter}
use Rattle.ec_base.specs.Tables.{at}
use Rattle.ec_volume.specs.Update.{member}
use Rattle.ec_volume.specs.Volume.{Images}
use Rattle.ec_history.specs.History.{Each}
use Rattle.ec_plain.specs.BoundedCalls.{is_bounded}
use Rattle.ec_plain.specs.declared.call.Call.{Call}
use Rattle.ec_protocol.specs.Drill.{clerk_in, line_happens, reads}
use Rattle.ec_protocol.specs.World as world
use Rattle.ec_protocol.specs.World.{boot, runs}
use Rattle.ec_protocol.specs.declared.clerk.Clerk.{Clerk}
use Rattle.ec_protocol.specs.declared.script.Line.{Line}
use Rattle.ec_protocol.specs.declared.script.Line.TheVariants as line
use Rattle.ec_protocol.specs.declared.world.World.{World}
use Rattle.ec_lawful.specs.DrillRuns.{IsFit}
use Rattle.ec_quiet.specs.Measure.{sum}
use Rattle.ec_complete.specs.Complete.{IsFaultless}
use Rattle.ec_complete.specs.Goes.{LinesGoOn, LinesGoThrough, PushGoes, PushesGo}
use Rattle.ec_complete.specs.Worlds.{IsEarly, Outset}
use Rattle.ec_complete.specs.Ready.{IsReady, calls_of}
use Rattle.ec_complete.proofs.ForFaultless.Along.{goes-on, goes-through}
use Rattle.ec_complete.proofs.ForFaultless.Idle as idle
use Rattle.ec_complete.proofs.ForFaultless.Calling as calling
use Rattle.ec_complete.proofs.ForFaultless.First.{IsStepped}
use Rattle.ec_complete.proofs.ForFaultless.Pushing as pushing
use Rattle.ec_complete.proofs.ForFaultless.Starting as starting
use Rattle.ec_base.proofs.Numbers.{not-above}

module _ (outset : Outset) (v : Images) (most : ℕ) (names : List ℕ) (number : ℕ) (w : World) (q : IsReady outset v most names number w) (few : number ≤ 65536) (first : 1 ≤ number) where
  comment : IsStepped outset v most names number line.Comment w q (line_happens runs number line.Comment w)
  comment = record {
    fine = refl;
    known = inr q.stands;
    started = inr (q.scene, q.stands, q.idle);
    calls = subst (λ cs. sum calls_of cs ≤ number) (sym q.stands.clerks) (omega (arith, q.calls));
    named = λ a b e. q.named a b (ap (at a) (sym q.stands.clerks) ∙ e);
  }

  call : (c : ℕ) (cl : Call) → c < 16 → T (is_bounded cl) → T (member c names) → (o : Option Clerk) → at c q.scene.clerks ≡ o → (o ≡ None → nat_lt last_counter (boot c w + 1) ≡ false) → IsStepped outset v most names number (line.Call c cl) w q (line_happens runs number (line.Call c cl) w)
  call c cl small bounded name (Some k) e left = calling.steps outset v most names number w q few first c cl k e small bounded name
  call c cl small bounded name None e left = starting.steps outset v most names number w q few first c cl e small bounded name (left refl)

  -- a clerk that starts may count its start
  abbrev MayStart : Line → Type 0
  MayStart (line.Call c cl) = at c q.scene.clerks ≡ None → nat_lt last_counter (boot c w + 1) ≡ false
  MayStart _ = ⊤

  steps : (l : Line) (column : ℕ) → IsFaultless l → IsFit (reads l column) → Each (λ c. T (member c names)) (clerk_in l) → MayStart l → PushGoes number l w → IsStepped outset v most names number l w q (line_happens runs number l w)
  steps line.Comment column a fit n s p = comment
  steps (line.Call c cl) column a fit n s p = call c cl fit.0 fit.1 n.0 (at c q.scene.clerks) refl s
  steps (line.Push c i) column a fit n s p = pushing.steps-on outset v most names number w q few first c i p
  steps (line.Cut c) column a fit n s p = absurd a
  steps (line.Uncut c) column a fit n s p = absurd a
  steps (line.Drop c i j) column a fit n s p = absurd a
  steps (line.Repeat c i j) column a fit n s p = absurd a
  steps (line.Deliver c i j) column a fit n s p = absurd a
  steps (line.Resend c) column a fit n s p = absurd a
  steps (line.Crash c) column a fit n s p = absurd a
  steps (line.End c) column a fit n s p = absurd a
  steps line.Stop column a fit n s p = absurd a
  steps (line.Arm i ch) column a fit n s p = absurd a
  steps line.Restart column a fit n s p = absurd a

  -- so it is where the first step meets no fault
  fine-starts : (l : Line) → IsFaultless l → (line_happens runs number l w).fault ≡ None → MayStart l × PushGoes number l w
  fine-starts line.Comment a f = (tt, tt)
  fine-starts (line.Call c cl) a f = (λ e. starting.may-start c number cl w (ap (at c) q.stands.clerks ∙ e) f, tt)
  fine-starts (line.Push c i) a f = (tt, f)
  fine-starts (line.Cut c) a f = absurd a
  fine-starts (line.Uncut c) a f = absurd a
  fine-starts (line.Drop c i j) a f = absurd a
  fine-starts (line.Repeat c i j) a f = absurd a
  fine-starts (line.Deliver c i j) a f = absurd a
  fine-starts (line.Resend c) a f = absurd a
  fine-starts (line.Crash c) a f = absurd a
  fine-starts (line.End c) a f = absurd a
  fine-starts line.Stop a f = absurd a
  fine-starts (line.Arm i ch) a f = absurd a
  fine-starts line.Restart a f = absurd a

  -- and where counters were far below their limits
  early-starts : (l : Line) → IsFaultless l → IsEarly outset → MayStart l
  early-starts line.Comment a early = tt
  early-starts (line.Call c cl) a early = λ e. not-above last_counter (boot c w + 1) (omega (arith, q.boots c, early.boots c, few))
  early-starts (line.Push c i) a early = tt
  early-starts (line.Cut c) a early = absurd a
  early-starts (line.Uncut c) a early = absurd a
  early-starts (line.Drop c i j) a early = absurd a
  early-starts (line.Repeat c i j) a early = absurd a
  early-starts (line.Deliver c i j) a early = absurd a
  early-starts (line.Resend c) a early = absurd a
  early-starts (line.Crash c) a early = absurd a
  early-starts (line.End c) a early = absurd a
  early-starts line.Stop a early = absurd a
  early-starts (line.Arm i ch) a early = absurd a
  early-starts line.Restart a early = absurd a

pub lines-go-on : LinesGoOn
lines-go-on outset v most names number l column w q sixteen first few faultless fit named fine =
    let s = fine-starts outset v most names number w q few first l faultless fine in
    goes-on outset v most names number w q few first sixteen l column faultless fit (steps outset v most names number w q few first l column faultless fit named s.0 s.1)

pub lines-go-through : LinesGoThrough
lines-go-through outset v most names number l column w q early sixteen first few faultless fit named push =
    goes-through outset v most names number w q few first sixteen l column faultless fit (steps outset v most names number w q few first l column faultless fit named (early-starts outset v most names number w q few first l faultless early) push) early

pub pushes-go : PushesGo
pushes-go outset v most names number w q first few c n k there issued =
    ap (λ o. (world.push c n o w).fault) there ∙ pushing.issued-fine outset v most names number w q few first c n k (ap (at c) (sym q.stands.clerks) ∙ there) issued
