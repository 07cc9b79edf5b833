-- A world in which all facts hold: its volume has the shape that durable lines leave, with the line of a record in doubt behind the others.
use Rattle.std.proofs.Common.{◌≡◌, ◌≤◌, ℕ, T, Bool, true, false, List, [], ◌∷◌, ◌++◌, Option, Some, None, refl, sym, ap, subst, ◌∙◌, arith, append-nil}
use Rattle.std.specs.Prelude.{◌==◌, ◌&&◌, ◌||◌, not, is_some}
use Rattle.ec_volume.specs.Image.{is_gone}
use Rattle.ec_volume.specs.Volume as volume
use Rattle.ec_volume.specs.Volume.{Images, images}
use Rattle.ec_history.specs.Lines.{IsStored}
use Rattle.ec_history.specs.Placing.{watch}
use Rattle.ec_history.specs.declared.shown.Shown.{Shown}
use Rattle.ec_history.specs.declared.shown.Shown.TheVariants as show
use Rattle.ec_sessions.specs.declared.slot.Slot.{Slot}
use Rattle.ec_durable.specs.Durable.{slot}
use Rattle.ec_durable.specs.declared.state.Durable.{Durable}
use Rattle.ec_durable.specs.declared.record.Record.{Record}
use Rattle.ec_durable.specs.declared.record.Record.TheVariants as record_of
use Rattle.ec_protocol.specs.World.{boot, ended_in, is_running, moving, show_ended, show_noted, stepped}
use Rattle.ec_protocol.specs.declared.clerk.Clerk.{Clerk}
use Rattle.ec_protocol.specs.declared.server.Server.{Server}
use Rattle.ec_protocol.specs.declared.world.Noted.{Noted}
use Rattle.ec_protocol.specs.declared.world.Noted.TheVariants as noted_of
use Rattle.ec_protocol.specs.declared.world.World.{World}
use Rattle.ec_coherence.specs.System.{System}
use Rattle.ec_coherence.specs.Steps as steps
use Rattle.ec_coherence.specs.Steps.{Stands, end_lines, ended_line, found, record_lines, running_clerk, to_show}
use Rattle.ec_coherence.specs.Stops.{RunsOn}
use Rattle.ec_lawful.specs.Founds.{with_found}
use Rattle.ec_lawful.proofs.ForWhole.Founds.{found-shown, founds-stand, steps-so}
use Rattle.ec_lawful.proofs.OfClerkSteps.ForJoins.Steps.{step-most}
use Rattle.ec_lawful.specs.Headline.{FrontsAreLawful, IsGreatest, placed_on}
use Rattle.ec_lawful.proofs.Stored.{show-lawfully}
use Rattle.ec_lawful.proofs.PlacesServe.{disk-there, fronts-there}
use Rattle.ec_lawful.specs.Runs.{OfRun}
use Rattle.ec_lawful.proofs.ForWhole.Halts.{found-whole}
use Rattle.ec_drill.specs.OfPromise.Left.{IsStoredIn, in_doubt}
use Rattle.ec_base.proofs.Options.{none_some}

module _ (v : Images) (most : ℕ) (g : System) (f : OfRun v most g) (w : World) (st : Stands w g) where
  -- The line of the record in doubt is that of the system.

  same-runs : (c b : ℕ) → is_running c b w ≡ steps.runs g c b
  same-runs c b = ap (λ o. is_some o && (b == boot c w)) (st.clerks c) ∙ ap (λ n. is_some (running_clerk g c) && (b == n)) (st.boots c) ∙ go (g.running c) refl
    where
      there : (o : Option Clerk) → T (is_some o) → is_some o ≡ true
      there None z = absurd z
      there (Some k) z = refl

      go : (o : Option ℕ) → g.running c ≡ o → (is_some (elim o as (λ z. Option Clerk) [ None ↦ None | Some a ↦ g.clerks c a ]) && (b == g.boots c)) ≡ (is_some o && (b == g.boots c))
      go None p = refl
      go (Some a) p = ap (λ z. z && (b == g.boots c)) (there (g.clerks c a) ((((f.whole).all).0).sessions.running c a p).1)

  line-is : (c b : ℕ) → show_ended c b w ≡ ended_line g c b
  line-is c b = ap (λ z. elim (is_some ((watch c w.shown).open_start) || z) as (λ y. Shown) [ true ↦ show.Ended c ((watch c w.shown).undurable) | false ↦ show.Unseen c ]) (same-runs c b)
      ∙ ap (λ ss. elim (is_some ((watch c ss).open_start) || steps.runs g c b) as (λ y. Shown) [ true ↦ show.Ended c ((watch c ss).undurable) | false ↦ show.Unseen c ]) st.shown

  end-noted : (c : ℕ) (o : Option Slot) → (show_noted (ended_in c o) (moving w)).shown ≡ end_lines g c o
  end-noted c None = refl
  end-noted c (Some sl) = go sl.is_open
    where
      go : (b : Bool) → (show_noted (elim b as (λ z. Option Noted) [ true ↦ Some (noted_of.Ended c (sl.age).boot) | false ↦ None ]) (moving w)).shown ≡ elim b as (λ z. List Shown) [ true ↦ ended_line g c (sl.age).boot ∷ [] | false ↦ [] ]
      go true = ap (λ l. l ∷ []) (line-is c (sl.age).boot)
      go false = refl

  noted-is : (o : Option Record) → (show_noted (to_show g.durable o) (moving w)).shown ≡ record_lines g o
  noted-is None = refl
  noted-is (Some (record_of.Batch c s b ops)) = refl
  noted-is (Some (record_of.Open c age s)) = end-noted c (slot g.durable c)
  noted-is (Some (record_of.End c s)) = end-noted c (slot g.durable c)
  noted-is (Some (record_of.Ids c s got first)) = refl
  noted-is (Some (record_of.Epoch e)) = refl

  doubt-is : in_doubt w ≡ record_lines g g.unshown
  doubt-is = ap (λ o. (show_noted o (moving w)).shown) st.unshown ∙ noted-is g.unshown

  -- The system in which that record was found shows its line, and has the volume in store.
  record Found : Type 0 where
    system : System
    facts : OfRun v most system
    lines : system.ghost.shown ≡ w.shown ++ in_doubt w
    volume_is : images w.durable.volume ≡ images (system.durable).volume

  volume-as : (o : Option Record) → g.unshown ≡ o → w.durable.volume ≡ (found o g.durable).volume
  volume-as o p = ap (λ (d : Durable). d.volume) st.durable ∙ ap (λ z. (found z g.durable).volume) p

  lines-as : (o : Option Record) → g.unshown ≡ o → g.ghost.shown ++ record_lines g o ≡ w.shown ++ in_doubt w
  lines-as o p = ap (λ ss. ss ++ record_lines g o) (sym st.shown) ∙ ap (λ z. w.shown ++ record_lines g z) (sym p) ∙ ap (λ ss. w.shown ++ ss) (sym doubt-is)

  -- only a stopped server has a record in doubt
  down : (r : Record) → g.unshown ≡ Some r → g.server ≡ None
  down r p = go g.server refl
    where
      go : (o : Option Server) → g.server ≡ o → o ≡ None
      go None q = refl
      go (Some s) q = absurd (none_some (sym (subst (RunsOn g) q (((f.whole).all).0).stops.runs).1 ∙ p))

  found-in : (o : Option Record) → g.unshown ≡ o → Found
  found-in None p = record { system = g; facts = f; lines = sym (append-nil g.ghost.shown) ∙ lines-as None p; volume_is = ap images (volume-as None p) }
  found-in (Some r) p =
      let all = (f.whole).all in
      let from = (f.whole).doubts in
      let off = down r p in
      record {
        system = with_found g r;
        facts = record {
          whole = found-whole g f.whole off r p (founds-stand g all from off r p);
          origin = f.origin;
          most_is = step-most r g.durable (stepped r g.durable) (steps-so g all from off r p) ∙ f.most_is;
        };
        lines = found-shown g r ∙ lines-as (Some r) p;
        volume_is = ap images (volume-as (Some r) p);
      }

  -- So it's stored.
  module _ (state : Durable) (origin : images state.volume ≡ v) (limit : state.max_objects ≡ most) (top : ℕ) (greatest : IsGreatest (images state.volume) top) where
    stored-as : (s : Found) → IsStoredIn state w w.shown
    stored-as s =
        let h = s.system in
        let all = ((s.facts).whole).all in
        let fresh = (((s.facts).whole).shows).fresh in
        let there : h.origin ≡ images state.volume = (s.facts).origin ∙ sym origin in
        let above : (x : ℕ) → T (not (is_gone (h.origin x))) → x ≤ top = subst (λ o. (x : ℕ) → T (not (is_gone (o x))) → x ≤ top) (sym there) greatest.least in
        let formed : volume.WellFormed h.origin = (all.0).images.origin in
        let shows = show-lawfully h all (((s.facts).whole).shows).tells in
        record {
          last = [];
          told = sym (append-nil w.shown);
          at_most_one = omega arith;
          why = tt;
          top = top;
          greatest = greatest;
          fronts = subst (λ n. FrontsAreLawful (placed_on (images state.volume) top) n (w.shown ++ in_doubt w)) ((s.facts).most_is ∙ sym limit)
              (subst (λ ss. FrontsAreLawful (placed_on (images state.volume) top) (h.durable).max_objects ss) s.lines
              (subst (λ o. FrontsAreLawful (placed_on o top) (h.durable).max_objects h.ghost.shown) there (fronts-there h top fresh formed above (h.durable).max_objects shows.fronts)));
          formed = subst volume.WellFormed (sym s.volume_is) shows.formed;
          stored = subst (λ i. IsStored (placed_on (images state.volume) top) (w.shown ++ in_doubt w) i) (sym s.volume_is)
              (subst (λ ss. IsStored (placed_on (images state.volume) top) ss (images (h.durable).volume)) s.lines
              (subst (λ o. IsStored (placed_on o top) h.ghost.shown (images (h.durable).volume)) there (disk-there h top fresh formed above (images (h.durable).volume) shows.stored)));
        }

    pub stored-in : IsStoredIn state w w.shown
    stored-in = stored-as (found-in g.unshown refl)
