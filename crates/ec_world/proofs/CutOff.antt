-- A world goes on with the store that a power cut left.
use Rattle.std.proofs.Common.{◌≡◌, Bool, true, false, List, [], ◌∷◌, ◌++◌, Option, None, Some, refl, sym, ap, subst, ◌∙◌}
use Rattle.std.specs.Prelude.{Result, Ok, Err}
use Rattle.ec_disk.specs.Disk.{View}
use Rattle.ec_durable.specs.Durable.{step}
use Rattle.ec_durable.specs.declared.record.Record.{Record}
use Rattle.ec_durable.specs.declared.record.RecordFault.{RecordFault}
use Rattle.ec_durable.specs.declared.state.Durable.{Durable}
use Rattle.ec_history.specs.declared.shown.Shown.TheVariants as show
use Rattle.ec_protocol.specs.World.{noted, on_disk, stepped, stop, Moving, moving, show_line}
use Rattle.ec_protocol.specs.declared.server.Server.{Server as State}
use Rattle.ec_protocol.specs.declared.world.Noted.{Noted}
use Rattle.ec_protocol.specs.declared.world.World.{World as Moved}
use Rattle.ec_server.specs.declared.server.Server.{Server}
use Rattle.ec_store.specs.Store.{IsHeld, view_of as state_of}
use Rattle.ec_store.specs.declared.store.Store.{Store}
use Rattle.ec_base.specs.declared.trace.Trace.{Trace}
use Rattle.ec_world.proofs.Fresh.{fresh}
use Rattle.ec_world.specs.Cutting.{left_of}
use Rattle.ec_world.specs.Laws.{in_step_keeps}
use Rattle.ec_world.specs.Serving.{left_in, stopped_in, with_durable}
use Rattle.ec_world.specs.StepEnds.{under}
use Rattle.ec_world.specs.Worlds.{view_of, server_of, ServerStands, IsInStep, KeepsServer}
use Rattle.ec_world.specs.declared.world.World.{World}

-- the records, with this one more where it's there
abbrev pub records_of : Bool → Record → List Record → List Record
records_of false r before = before
records_of true r before = before ++ r ∷ []

-- the machine's world behind a power cut
abbrev cut_to : Bool → Record → Durable → Moved → Moved
cut_to there r left w = record w { durable = left; records = records_of there r w.records }

steps_to : (r : Record) (d e : Durable) → step r d ≡ Ok e → stepped r d ≡ e
steps_to r d e is = ap (λ (x : Result Durable RecordFault). elim x as (λ z. Durable) [ Ok y ↦ y | Err f ↦ d ]) is

cut_is : (there : Bool) (r : Record) (d e left : Durable) (w : Moved) → step r d ≡ Ok e → left ≡ left_of there d e → cut_to there r left w ≡ left_in there r (with_durable d w)
cut_is false r d e left w takes is = ap (λ (x : Durable). record w { durable = x }) is
cut_is true r d e left w takes is = ap (λ (x : Durable). record w { durable = x; records = w.records ++ r ∷ [] }) (is ∙ sym (steps_to r d e takes))

pub cut_off_is : (there : Bool) (w : World) (s : Store) (more : Trace Record) (r : Record) (d e : Durable) → w.server ≡ None → more.items ≡ records_of there r w.records.items → step r d ≡ Ok e → state_of s ≡ left_of there d e
    → view_of (record w { store = s; records = more }) ≡ left_in there r (with_durable d (view_of w))
cut_off_is there w s more r d e none more_is takes is =
    let by : Option State → List Record → Moved = λ o xs. record (view_of w) { durable = state_of s; server = o; records = xs } in
    ap (λ (o : Option Server). by (server_of (state_of s) o) more.items) none
    ∙ ap (λ (xs : List Record). by None xs) more_is
    ∙ ap (λ (o : Option Server). by (server_of (state_of w.store) o) (records_of there r w.records.items)) (sym none)
    ∙ cut_is there r d e (state_of s) (view_of w) takes is

-- The same of a server's step: what the record is to show is kept, where it's there.

abbrev pub unshown_of : Bool → Option Noted → Option Noted → Option Noted
unshown_of false shows before = before
unshown_of true shows before = shows

abbrev pub keeping_unshown : Bool → Option Noted → Moved → Moved
keeping_unshown there shows w = record w { unshown = unshown_of there shows w.unshown }

stopped_is : (there : Bool) (r : Record) (d : Durable) (shows : Option Noted) (w : Moved) → shows ≡ noted d r → keeping_unshown there shows (left_in there r (with_durable d (stop w))) ≡ stopped_in there r (with_durable d w)
stopped_is false r d shows w is = refl
stopped_is true r d shows w is = ap (λ (x : Option Noted). on_disk r (record (stop (with_durable d w)) { unshown = x })) is

pub stop_shows : (there : Bool) (r : Record) (d : Durable) (shows : Option Noted) (old cut mid new : World) → shows ≡ noted d r → view_of cut ≡ left_in there r (with_durable d (stop (view_of old)))
    → view_of mid ≡ keeping_unshown there shows (view_of cut) → mid.piece.items ≡ [] → under new ≡ show_line show.Stopped (under mid)
    → show_line show.Stopped (moving (stopped_in there r (with_durable d (view_of old)))) ≡ under new
stop_shows there r d shows old cut mid new is left kept none shown =
    let mid_is : view_of mid ≡ stopped_in there r (with_durable d (view_of old)) = kept ∙ ap (keeping_unshown there shows) left ∙ stopped_is there r d shows (view_of old) is in
    ap (λ (u : Moved). show_line show.Stopped (moving u)) (sym mid_is) ∙ ap (λ (m : Moving). show_line show.Stopped m) (sym (fresh mid none)) ∙ sym shown

-- the code's world, the same
abbrev pub keeping : Bool → Option Noted → World → World
keeping there shows w = record w { unshown = unshown_of there shows w.unshown }

-- it's in step: no server runs
pub stopped_in_step : (tells : Type 0) (now : View) (there : Bool) (shows : Option Noted) (cut mid new : World) → cut.server ≡ None → (tells → IsHeld now cut.store) → mid ≡ keeping there shows cut → KeepsServer mid new → IsInStep tells now new
stopped_in_step tells now there shows cut mid new none held is same =
    in_step_keeps tells now mid new same (subst (λ (w : World). IsInStep tells now w) (sym is) (record { server = subst (λ (o : Option Server). ServerStands (state_of cut.store) o) (sym none) tt; disk = held }))
