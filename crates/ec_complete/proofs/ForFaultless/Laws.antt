-- The laws of other crates that lines without faults need.
use Rattle.std.proofs.Common.{◌≡◌, ◌<◌, ◌≤◌, ◌+◌, ◌*◌, ℕ, T, true, [], length, Option, Some, None}
use Rattle.std.specs.Prelude.{is_some, Ok}
use Rattle.ec_base.specs.Tables.{Table, at}
use Rattle.ec_base.specs.declared.ids.Hold.{Hold}
use Rattle.ec_volume.specs.Update.{member}
use Rattle.ec_volume.specs.Volume.{Images, images}
use Rattle.ec_volume.specs.declared.image.Image.TheVariants.{Gone}
use Rattle.ec_plain.specs.Plain.{plain}
use Rattle.ec_plain.specs.declared.call.Call.{Call}
use Rattle.ec_sessions.specs.declared.slot.Slot.{Slot}
use Rattle.ec_durable.specs.Durable.{slot}
use Rattle.ec_durable.specs.WellFormed.{WellFormed}
use Rattle.ec_durable.specs.declared.state.Durable.{Durable}
use Rattle.ec_cache.specs.declared.state.CacheState.{CacheState}
use Rattle.ec_cache.specs.OfReport.Report.{Owed}
use Rattle.ec_cache.specs.OfResolve.Agreement.{IsFor, Shows}
use Rattle.ec_cache.specs.OfResolve.Resolve.{evaluate}
use Rattle.ec_cache.specs.declared.resolve.verdict.Verdict.TheVariants.{Need}
use Rattle.ec_protocol.specs.World as world
use Rattle.ec_protocol.specs.World.{call, deliver, happen, open_world, runs}
use Rattle.ec_protocol.specs.declared.clerk.Clerk.{Clerk}
use Rattle.ec_protocol.specs.declared.server.Server.{Server}
use Rattle.ec_protocol.specs.declared.world.Event.{Event}
use Rattle.ec_protocol.specs.declared.world.Event.TheVariants as event
use Rattle.ec_protocol.specs.declared.world.World.{World}
use Rattle.ec_lawful.specs.Calls.{AreOf}
use Rattle.ec_lawful.specs.Steps.{HoldsIn, MayHappen}
use Rattle.ec_lawful.specs.Runs.{OfRun}
use Rattle.ec_quiet.specs.Facts.{IsOrderly}
use Rattle.ec_quiet.specs.Measure.{measure, sum, unsent_by}
use Rattle.ec_quiet.specs.Phases.{Phase, backs}
use Rattle.ec_quiet.specs.Scenes.{Scene}
use Rattle.ec_quiet.specs.Works.{Work}
use Rattle.ec_quiet.specs.Bounds.{IsFirstPhase, other_rows}
use Rattle.ec_quiet.specs.SettlingScenes.{DeliveriesKeepScenes, EndsAreIdle, NothingIsDue}
use Rattle.ec_machine_laws.specs.Counts as server
use Rattle.ec_complete.specs.OfAgreedLines.Counting as clerks
use Rattle.ec_quiet.specs.SettlingCounts as settling
use Rattle.ec_complete.specs.OfAgreedLines.Lines.{CallsBegin}
use Rattle.ec_quiet.specs.First.{PushesBegin, StartsGreet}
use Rattle.ec_complete.specs.LineCalls.{CallsComeOn, CallsMayBegin, StartsComeOn}
use Rattle.ec_quiet.specs.Lines.{CallsAreCarriedOut, EndsKeepScenes}
use Rattle.ec_quiet.specs.OfDeliveries.Runs.{LinesSettle, LinesSettleOrEnd}
use Rattle.ec_complete.specs.Quiet.{IdleWorldsAreQuiet}
use Rattle.ec_machine_laws.specs.Unspent.{CallsSpendNothing}
use Rattle.ec_complete.specs.SettledRuns.{RunsThatSettleArePlain}
use Rattle.ec_complete.specs.Worlds.{LinesCanGoOn, LinesCanSettle, LinesStayKnown}
use Rattle.ec_machine_laws.proofs.Needing.{needed-touched}
use Rattle.ec_lawful.proofs.Clerks.{clerks-keep-all}
use Rattle.ec_lawful.proofs.CallsShown as tells
use Rattle.ec_lawful.proofs.Events as events
use Rattle.ec_lawful.proofs.Runs.{keep}
use Rattle.ec_lawful.proofs.Worlds as reached
use Rattle.ec_quiet.proofs.Bounded as bounded
use Rattle.ec_quiet.proofs.Counted.{rows-fewer}
use Rattle.ec_quiet.proofs.Delivering as delivering
use Rattle.ec_quiet.proofs.Idle.{all-idle}
use Rattle.ec_machine_laws.proofs.Sent as sent
use Rattle.ec_complete.proofs.OfAgreedLines.Steps as steps
use Rattle.ec_complete.proofs.OfAgreedLines.Worlds as worlds
use Rattle.ec_quiet.proofs.Counting as counting
use Rattle.ec_quiet.proofs.Showing.{settled-lines}
use Rattle.ec_complete.proofs.OfAgreedLines.Beginning as beginning
use Rattle.ec_quiet.proofs.Pushing as pushing
use Rattle.ec_quiet.proofs.Starting as starting
use Rattle.ec_complete.proofs.ForLines.Taking.{can-take-next}
use Rattle.ec_complete.proofs.ForLines.Delivering.{lines-stay-on}
use Rattle.ec_complete.proofs.ForLines.Below.{counters-spare, next-spare}
use Rattle.ec_complete.proofs.ForLines.Given.{ids-stay-given}
use Rattle.ec_complete.proofs.ForLines.May as may
use Rattle.ec_complete.proofs.ForLines.On as coming
use Rattle.ec_complete.proofs.ForLines.Starts as first
use Rattle.ec_quiet.proofs.Ending.{ends}
use Rattle.ec_quiet.proofs.Stepping.{called-on}
use Rattle.ec_quiet.proofs.OfDeliveries.Ended as ended
use Rattle.ec_quiet.proofs.OfDeliveries.Lines as lines
use Rattle.ec_complete.proofs.ForLines.Quieting.{quiets}
use Rattle.ec_machine_laws.proofs.Taking as unspent
use Rattle.ec_complete.proofs.ForLines.Runs.{completes}
use Rattle.ec_complete.proofs.ForFaultless.Settling.{all-go-on, all-settle, all-stay}

-- All facts hold behind each event and each delivery.

pub events-hold : (v : Images) (most : ℕ) (e : Event) (w : World) → HoldsIn (OfRun v most) w → MayHappen w e → (happen runs e w).fault ≡ None → HoldsIn (OfRun v most) (happen runs e w).world
events-hold v most e w h may f = events.event-holds (OfRun v most) (keep clerks-keep-all v most) runs e w h may f

pub deliveries-hold : (v : Images) (most : ℕ) (n : ℕ) (w : World) → HoldsIn (OfRun v most) w → (deliver runs n w).fault ≡ None → HoldsIn (OfRun v most) (deliver runs n w).world
deliveries-hold v most n w h f = events.deliver-holds (OfRun v most) (keep clerks-keep-all v most) runs n w h f

-- of which calls the lines are
pub calls-tell : (P : ℕ → ℕ → Call → Type 0) (c n : ℕ) (cl : Call) (w : World) → AreOf P w → P n c cl → (call c n cl w).fault ≡ None → AreOf P (call c n cl w).world
calls-tell P c n cl w a p f = (tells.event-tells P runs (event.Call c n cl) w a p f).of

pub pushes-tell : (P : ℕ → ℕ → Call → Type 0) (c n : ℕ) (w : World) → AreOf P w → (world.push c n (at c w.clerks) w).fault ≡ None → AreOf P (world.push c n (at c w.clerks) w).world
pushes-tell P c n w a f = (tells.event-tells P runs (event.Push c n) w a tt f).of

pub deliveries-tell : (P : ℕ → ℕ → Call → Type 0) (n : ℕ) (w : World) → AreOf P w → (deliver runs n w).fault ≡ None → AreOf P (deliver runs n w).world
deliveries-tell P n w a f = (tells.deliver-tells P runs n w a f).of

-- A world that is opened.

pub openings-hold : (d : Durable) → WellFormed d → length d.sessions ≡ 16 → images d.volume 0 ≡ Gone → (w : World) → open_world d ≡ Ok w → HoldsIn (OfRun (images d.volume) d.max_objects) w
openings-hold d formed sixteen gone w e = reached.opened-holds d formed sixteen gone w e

pub openings-tell : (d : Durable) → WellFormed d → length d.sessions ≡ 16 → images d.volume 0 ≡ Gone → (w : World) → open_world d ≡ Ok w → w.shown ≡ []
openings-tell d formed sixteen gone w e = reached.no-lines d formed sixteen gone w e

-- Scenes.

pub deliveries-keep : DeliveriesKeepScenes
deliveries-keep w sc c m rest i e = (delivering.n w sc i c m rest e, delivering.due-is w sc i c m rest e, delivering.scene-then w sc i c m rest e)

pub nothing-due : NothingIsDue
nothing-due w sc i e = delivering.none-due w sc i e

pub ends-idle : EndsAreIdle
ends-idle j sc p q e = all-idle j sc e p q

pub ends-keep : EndsKeepScenes
ends-keep w sc i e = ends w sc i e

pub carried-out : CallsAreCarriedOut
carried-out w sc c n cl k i there unspent = called-on w sc c n cl k i there unspent

pub quiet-again : IdleWorldsAreQuiet
quiet-again w g sc sessions calls stands i idle = quiets w g sc sessions calls stands i idle

-- Counts.

pub servers-count : server.DeliveriesCount
servers-count = sent.deliveries-count

pub calls-count : clerks.CallsCount
calls-count = steps.calls-count

pub pushes-count : clerks.PushesCount
pushes-count = steps.pushes-count

pub messages-count : clerks.MessagesCount
messages-count = steps.messages-count

pub calls-send : settling.CallsCount
calls-send w c n cl = counting.calls w c n cl

pub pushes-send : settling.PushesCount
pushes-send w c n k = counting.pushes w c n k

pub lines-settled : settling.SettledLines
lines-settled = settled-lines

pub spend-nothing : CallsSpendNothing
spend-nothing cl k e low = unspent.begins cl k e low

-- First steps.

pub calls-begin : CallsBegin
calls-begin j sc sl k cl idle is e m = beginning.begins j sc sl k cl idle is e m

pub starts-greet : StartsGreet
starts-greet j sc boot cl idle is = starting.greets j sc boot cl idle is

pub pushes-begin : PushesBegin
pushes-begin j sc sl k n idle is = pushing.begins j sc sl k n idle is

pub calls-may-begin : CallsMayBegin
calls-may-begin = may.calls-may-begin

pub calls-come-on : CallsComeOn
calls-come-on = coming.calls-come-on

pub starts-come-on : StartsComeOn
starts-come-on = first.starts-come-on

pub needs-touched : (k : CacheState) (owed : Owed) (cl : Call) (fresh : Option ℕ) (x : ℕ) (h : Hold) → evaluate k owed cl fresh ≡ Need x h → (v : Images) → Shows k fresh v → (id : ℕ) → IsFor fresh id → T (member x (plain v cl id).touched)
needs-touched = needed-touched

-- Settling.

pub measure-most : (j : Work) (sc : Scene) (p : Phase) (k : ℕ) → IsFirstPhase p → backs j sc.mail ≡ [] → length j.touched ≤ 137 → other_rows j.session sc.server.tokens < k → sum (unsent_by j) sc.clerks ≤ 65535 → measure j sc p ≤ 32 * (4096 * (k + 1))
measure-most j sc p k f b t r u = bounded.measure-most j sc p k f b t r u

pub rows-few : (v : Server) (clerks : Table Clerk) (c s : ℕ) → IsOrderly v clerks → T (is_some (at c clerks)) → ((sl : Slot) → slot v.durable c ≡ Some sl → sl.is_open ≡ true → sl.session ≡ s) → other_rows s v.tokens < length clerks
rows-few v clerks c s orderly there own = rows-fewer v clerks orderly c s own there

pub lines-settle : LinesSettle
lines-settle j k most m sc can f shown i has few rows unsent room = lines.line-settles j k most m sc can f shown i has few rows unsent room

pub lines-settle-or-end : LinesSettleOrEnd
lines-settle-or-end j k most m sc can f shown i has few rows unsent room = ended.line-settles-or-ends j k most m sc can f shown i has few rows unsent room

pub lines-can-settle : LinesCanSettle
lines-can-settle = all-settle can-take-next lines-stay-on counters-spare next-spare ids-stay-given sent.deliveries-count worlds.deliveries-count

pub lines-can-go-on : LinesCanGoOn
lines-can-go-on = all-go-on can-take-next lines-stay-on counters-spare ids-stay-given sent.deliveries-count worlds.deliveries-count

pub lines-stay-known : LinesStayKnown
lines-stay-known = all-stay can-take-next lines-stay-on counters-spare ids-stay-given sent.deliveries-count worlds.deliveries-count

pub runs-plain : RunsThatSettleArePlain
runs-plain d formed sixteen gone w sc opened i idle ls fs fit faultless all-run settles room = completes d formed sixteen gone w sc opened i idle ls fs fit faultless all-run settles room
