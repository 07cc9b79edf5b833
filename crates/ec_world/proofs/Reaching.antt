-- Worlds of runs lead to such worlds.
use Rattle.std.proofs.Common.{◌≡◌, refl, sym, ap, subst, ◌∙◌, ℕ, List, [], ◌∷◌, ◌++◌, None, Result, Ok, Err}
use Rattle.std.proofs.Math.Logic.{∥∥₁_map}
use Rattle.std.specs.Prelude.{IfOk, OnOk}
use Rattle.ec_disk.specs.Disk.{Counts}
use Rattle.ec_disk.specs.declared.disk.Choice.{Choice}
use Rattle.ec_history.specs.declared.shown.Shown.{Shown}
use Rattle.ec_history.specs.declared.shown.Shown.TheVariants.{Unsettled}
use Rattle.ec_durable.specs.declared.state.Durable.{Durable}
use Rattle.ec_protocol.specs.World.{Fate, Moving, forget, happen, open_world}
use Rattle.ec_protocol.specs.declared.world.Event.{Event}
use Rattle.ec_protocol.specs.declared.world.World.{World as State}
use Rattle.ec_protocol.specs.declared.world.WorldFault.{WorldFault}
use Rattle.ec_lawful.specs.ReachedWorlds.{Reached, opens, happens, forgets, unsettles}
use Rattle.ec_lawful.proofs.Worlds.{reached-in-order}
use Rattle.ec_world.specs.Reaching.{IsReached, Leads, LeadsKnown, StaysReached}
use Rattle.ec_world.specs.Steps.{IsShown, IsWhole, Opens}
use Rattle.ec_world.specs.StepEnds.{FateOf, IsTold}
use Rattle.ec_world.specs.Worlds.{view_of}
use Rattle.ec_world.specs.declared.world.World.{World}

is_reached : (d : Durable) → IsWhole d → (w : State) → Reached d w → IsReached d w
is_reached d is w r = record { reached = r; in_order = ∥∥₁_map is.formed (λ wf. reached-in-order d wf is.slots is.from_one w r) }

pub leads : (fate : Fate) (e : Event) (old : State) (m : Moving) → happen fate e old ≡ m → m.fault ≡ None → Leads old e m.world
leads fate e old m q f d is r may = is_reached d is m.world (subst (λ x. Reached d x.world) q (happens old r fate e may (ap (λ x. x.fault) q ∙ f)))

-- a step that was done
pub leads_known : {A : Type 0} (result : Result A WorldFault) (shown_of : A → List Shown) (tells : Type 0) (before behind : Counts) (ch : Choice) (e : Event) (old : State) (end : World)
    → IfOk result (λ a. (fate : Fate) × FateOf fate old.durable (view_of end).durable before behind × (IsTold fate tells → happen fate e old ≡ record { world = view_of end; shown = shown_of a; fault = None }) × (tells → IsShown fate ch before.armed old.shown (view_of end).shown)) → OnOk result (LeadsKnown tells before behind old e (view_of end))
leads_known (Ok a) shown_of tells before behind ch e old end is = (is.0, is.1, λ told. leads is.0 e old (record { world = view_of end; shown = shown_of a; fault = None }) (is.2 told) refl)
leads_known (Err f) shown_of tells before behind ch e old end is = tt

-- a world that was opened
pub opened : {A : Type 0} (result : Result World A) (tells : Type 0) (gives : List ℕ) (most : ℕ)
    → IfOk result (λ w. (d : Durable) × Opens tells gives most d × (open_world d ≡ Ok (view_of w))) → IfOk result (λ w. (d : Durable) × Opens tells gives most d × IsReached d (view_of w))
opened (Ok w) tells gives most is = (is.0, is.1, is_reached is.0 (is.1).whole (view_of w) (opens (view_of w) is.2))
opened (Err f) tells gives most is = tt

pub forgotten : (old new : State) → new ≡ forget old → StaysReached old new
forgotten old new q d r = subst (Reached d) (sym q) (forgets old r)

pub unsettled : (old : State) (lines : List Shown) → lines ≡ old.shown ++ Unsettled ∷ [] → StaysReached old (record old { shown = lines })
unsettled old lines q d r = subst (λ ls. Reached d (record old { shown = ls })) (sym q) (unsettles old r)
