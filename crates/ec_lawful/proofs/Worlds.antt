-- Each world that is reached is in order.
use Rattle.std.proofs.Common.{◌≡◌, refl, sym, ap, subst, ◌∙◌, ℕ, [], append-nil}
use Rattle.std.specs.Prelude.{length, Ok}
use Rattle.ec_volume.specs.Volume as volume
use Rattle.ec_volume.specs.Volume.{images}
use Rattle.ec_volume.specs.declared.image.Image.TheVariants.{Gone}
use Rattle.ec_history.specs.History.{Throughout}
use Rattle.ec_history.specs.Placing.{EachLine, place}
use Rattle.ec_history.specs.declared.shown.Shown.TheVariants.{Unsettled}
use Rattle.ec_history.specs.OfLaws.Renaming.{image_by}
use Rattle.ec_history.specs.OfLaws.NewIds.{IsNewId}
use Rattle.ec_history.proofs.OfLaws.ForRenamed.Reading.{read-by-places}
use Rattle.ec_durable.specs.WellFormed.{WellFormed}
use Rattle.ec_durable.specs.declared.state.Durable.{Durable}
use Rattle.ec_protocol.specs.World.{moving, open_world}
use Rattle.ec_protocol.specs.declared.world.Event.{Event}
use Rattle.ec_protocol.specs.declared.world.Event.TheVariants as event
use Rattle.ec_protocol.specs.declared.world.World.{World}
use Rattle.ec_coherence.specs.System.{System, base_of}
use Rattle.ec_coherence.specs.Steps.{Stands, call_of}
use Rattle.ec_coherence.specs.StandLaws.{lined}
use Rattle.ec_lawful.specs.Olds.{opened_in}
use Rattle.ec_lawful.proofs.ForWhole.Opens.{world-stands}
use Rattle.ec_lawful.proofs.ForWhole.Volumes.{volumes-are-bases, volumes-have-greatest}
use Rattle.ec_lawful.specs.Headline.{FrontsAreLawful, IsGreatest, placed_on}
use Rattle.ec_lawful.specs.Calls.{AreOf, IsOf}
use Rattle.ec_lawful.specs.Steps as steps
use Rattle.ec_lawful.specs.Steps.{MayHappen, StepsKeep}
use Rattle.ec_lawful.proofs.CallsShown.{MayBe, event-tells, line-tells, quiet-tells}
use Rattle.ec_lawful.proofs.Events.{event-holds}
use Rattle.ec_lawful.proofs.ForWhole.Frames.{forgotten-stands, lined-stands}
use Rattle.ec_lawful.specs.Runs.{OfRun}
use Rattle.ec_lawful.specs.Whole.{Whole}
use Rattle.ec_lawful.proofs.Runs.{keep}
use Rattle.ec_lawful.proofs.ForWhole.OpensWhole.{opened-whole}
use Rattle.ec_lawful.proofs.Clerks.{clerks-keep-all}
use Rattle.ec_lawful.proofs.News.{ids-new}
use Rattle.ec_lawful.proofs.PlacesServe.{fronts-there}
use Rattle.ec_lawful.specs.Coherent.{AreFitting}
use Rattle.ec_lawful.specs.Reached.{IsInOrder}
use Rattle.ec_lawful.specs.ReachedWorlds.{Reached, opens, happens, forgets, unsettles}
use Rattle.ec_lawful.proofs.Bounded.{IsBounded, place-bounded}
use Rattle.ec_lawful.proofs.Entries.{are-fitting}
use Rattle.ec_lawful.proofs.Licences.{held-image, no-conflict}
use Rattle.ec_base.proofs.Options.{none_some}

-- Where all facts hold of a system, a world that stands in it is in order, if the calls in its lines are within their bounds.
module _ (g : System) (whole : Whole g) (w : World) (st : Stands w g) (bounded : EachLine (IsOf IsBounded) w.shown) (top : ℕ) (greatest : IsGreatest g.origin top) where
  formed : volume.WellFormed g.origin
  formed = ((whole.all).0).images.origin

  new : Throughout (IsNewId g.origin (base_of g).fresh) [] (place w.shown)
  new = subst (λ ss. Throughout (IsNewId g.origin (base_of g).fresh) [] (place ss)) (sym st.shown) (ids-new g whole.shows.fresh g.ghost.shown [] (append-nil g.ghost.shown))

  lawful : FrontsAreLawful (placed_on g.origin top) g.durable.max_objects w.shown
  lawful = subst (FrontsAreLawful (placed_on g.origin top) g.durable.max_objects) (sym st.shown) (fronts-there g top whole.shows.fresh formed greatest.least g.durable.max_objects whole.shows.tells.fronts)

  fitting : AreFitting (placed_on g.origin top) (place w.shown)
  fitting = are-fitting (placed_on g.origin top) g.durable.max_objects w.shown (volumes-are-bases g.origin formed top greatest.least) (place-bounded w.shown bounded) (lawful w.shown [] (append-nil w.shown)).history

  pub in-order : IsInOrder g.origin g.durable.max_objects w
  in-order =
      let rd = read-by-places g.origin (base_of g).fresh top w.shown formed greatest.least new in
      record {
        top = top;
        greatest = greatest;
        lawful = lawful;
        ids = (base_of g).fresh;
        read = rd.0;
        reads = rd.1;
        coherent = record { apart = no-conflict g whole.all w st; images = λ c x h o. ap (image_by rd.0) (held-image g whole.all w st c x h o) ∙ sym (rd.2 x) };
        fitting = fitting;
      }

may-be : (w : World) (e : Event) → MayHappen w e → MayBe IsBounded e
may-be w (event.Call c l cl) may = may.2
may-be w (event.Push c n) may = tt
may-be w (event.Resend c) may = tt
may-be w (event.Cut c) may = tt
may-be w (event.Uncut c) may = tt
may-be w (event.Drop n) may = tt
may-be w (event.Repeat n) may = tt
may-be w (event.Deliver n) may = tt
may-be w (event.Crash c) may = tt
may-be w (event.End c) may = tt
may-be w event.Stop may = tt
may-be w (event.Arm n ch) may = tt
may-be w event.Restart may = tt

module _ (d : Durable) (wf : WellFormed d) (sixteen : length d.sessions ≡ 16) (zero : images d.volume 0 ≡ Gone) where
  abbrev pub F : System → Type 0
  F = OfRun (images d.volume) d.max_objects

  pub kept-by : StepsKeep F
  kept-by = keep clerks-keep-all (images d.volume) d.max_objects

  pub opened-holds : (w : World) → open_world d ≡ Ok w → steps.HoldsIn F w
  opened-holds w q = (opened_in d, record { whole = opened-whole d wf sixteen zero; origin = refl; most_is = refl }, world-stands d sixteen w q)

  pub no-calls : (w : World) → open_world d ≡ Ok w → w.calls ≡ []
  no-calls w q = (world-stands d sixteen w q).calls

  pub no-lines : (w : World) → open_world d ≡ Ok w → w.shown ≡ []
  no-lines w q = (world-stands d sixteen w q).shown

  -- all facts hold of it, and its calls are within their bounds
  record Comes (w : World) : Type 0 where
    holds : steps.HoldsIn F w
    of : AreOf IsBounded w

  comes : (w : World) → Reached d w → Comes w
  comes _ (opens w q) = record {
    holds = opened-holds w q;
    of = record { calls = λ c n l cl x. absurd (none_some (sym (ap (λ t. call_of c n t) (no-calls w q)) ∙ x)); shown = subst (EachLine (IsOf IsBounded)) (sym (no-lines w q)) tt };
  }
  comes _ (happens w r fate e may ok) =
      let k = comes w r in
      record { holds = event-holds F kept-by fate e w k.holds may ok; of = (event-tells IsBounded fate e w k.of (may-be w e may) ok).of }
  comes _ (forgets w r) =
      let k = comes w r in
      record { holds = ((k.holds).0, (k.holds).1, forgotten-stands w (k.holds).0 (k.holds).2); of = record { calls = (k.of).calls; shown = (k.of).shown } }
  comes _ (unsettles w r) =
      let k = comes w r in
      record {
        holds = (lined (k.holds).0 Unsettled, kept-by.unsettled (k.holds).0 (k.holds).1, lined-stands w (k.holds).0 (k.holds).2 Unsettled);
        of = (line-tells IsBounded w (moving w) (quiet-tells IsBounded w k.of w refl refl) Unsettled tt).of;
      }

  pub in-order-of : (w : World) → steps.HoldsIn F w → EachLine (IsOf IsBounded) w.shown → IsInOrder (images d.volume) d.max_objects w
  in-order-of w (g, f, st) bounded =
      let n = volumes-have-greatest d wf in
      subst (λ m. IsInOrder (images d.volume) m w) f.most_is
      (subst (λ o. IsInOrder o g.durable.max_objects w) f.origin (in-order g f.whole w st bounded n.0 (subst (λ o. IsGreatest o n.0) (sym f.origin) record { lives = n.1; least = n.2 })))

  pub reached-in-order : (w : World) → Reached d w → IsInOrder (images d.volume) d.max_objects w
  reached-in-order w r = let k = comes w r in in-order-of w k.holds (k.of).shown
