-- In a drill with leases no session ends but as its script asks.
use Rattle.std.proofs.Common.{◌≡◌, ◌≤◌, ◌+◌, ◌⊎◌, ℕ, List, [], ◌∷◌, ◌++◌, length, Result, Ok, Err, map, refl, sym, ap, subst, ◌∙◌, inl, inr, arith, append-nil}
use Rattle.std.proofs.Math.Logic.{∥∥₁_map}
use Rattle.std.proofs.lemmas.List.{length-map}
use Rattle.std.specs.Io.KnownBytes.{Appends}
use Rattle.ec_base.specs.declared.counter.Counter.{Counter}
use Rattle.ec_volume.specs.Volume.{images}
use Rattle.ec_durable.specs.declared.state.Durable.{Durable}
use Rattle.ec_history.specs.History.{Each}
use Rattle.ec_history.specs.Placing.{EachLine, place}
use Rattle.ec_history.specs.declared.shown.Shown.{Shown}
use Rattle.ec_history.proofs.PlacingLemmas.{each-turn}
use Rattle.ec_lawful.specs.Calls.{IsOf}
use Rattle.ec_lawful.specs.Drills.{lines_in}
use Rattle.ec_lawful.specs.Headline.{AreEndsAsked, Lines, Pieces, joined, placed_on}
use Rattle.ec_protocol.specs.World.{open_world}
use Rattle.ec_protocol.specs.Drill.{last_line}
use Rattle.ec_protocol.specs.declared.world.World.{World}
use Rattle.ec_lease_machine.specs.Drill.{LeaseRan, drill_in, joined_lease}
use Rattle.ec_lease_machine.specs.OfLeaseWorlds.Lines.{lease_run, unheld}
use Rattle.ec_lease_machine.specs.OfLeaseWorlds.Runs.{AreAskedBy, AreLeased, IsCallIn, IsFit, as_line}
use Rattle.ec_lease_machine.specs.OfWords.Text.{lease_texts}
use Rattle.ec_lease_machine.specs.declared.world.LeaseShown.{LeaseShown}
use Rattle.ec_lease_machine.specs.declared.world.LeaseShown.TheVariants.{Line}
use Rattle.ec_lease_machine.proofs.OfLeaseWorlds.Coming.{unheld-append}
use Rattle.ec_lease_machine.proofs.OfLeaseWorlds.Runs.{runs-asked, runs-leased}
use Rattle.ec_lease.specs.OfDrill.Drill.{IsSeenAll, LeaseDrilled}
use Rattle.ec_lease.specs.OfDrill.Promise.{SaysEnd}
use Rattle.ec_lease.specs.declared.drill.status.Status.{Status}
use Rattle.ec_lease.proofs.OfDrill.Promise.{as-long, few-why, fits_given, says-why, split}
use Rattle.ec_drill.specs.OfPromise.Pieces.{first_lines}
use Rattle.ec_drill.specs.OfPromise.Spared.{IsNoLoss}
use Rattle.ec_drill.specs.Seen.{Stream, Store}
use Rattle.ec_drill.proofs.OfPromise.Lawful.{each-front}
use Rattle.ec_drill.proofs.OfPromise.Cut.{first-are, first-ends, first-fewer, first-numbered}
use Rattle.ec_drill.proofs.OfPromise.Spared.{lose-nothing}
use Rattle.ec_echo.specs.Echo.{leasing}
use Rattle.ec_echo.specs.Statuses.{code, of_leases}
use Rattle.ec_echo.specs.OfNamed.Forms.{outside}
use Rattle.ec_echo.specs.OfNamed.Leases.{HoldsOfLeases, LeaseSessions, WroteLeases, as_read}
use Rattle.ec_echo.specs.OfNamed.Runs.{EndAsAsked}
use Rattle.ec_echo.specs.OfNamed.Seen.{IsNew}
use Rattle.ec_echo.specs.OfNamed.Told.{EndsEarly}
use Rattle.ec_echo.proofs.OfNamed.Leased.{Facts, NoLines, all-lines, are-own, facts-of, says-early, unopened}

module _ (l e result : ℕ) (source sink : Stream) (store : Store) where
  abbrev Known : Type 0
  Known = Facts l e result source sink store

  -- Of a run over this script, with these lines, and of a front of what it wrote.
  module _ (f : Known) (run : LeaseRan) (leased : AreLeased f.reads (images f.state.volume) f.state.max_objects (unheld (joined_lease run.pieces))) (asked : AreAskedBy f.reads run.pieces) where
    abbrev lines : Lines
    lines = lines_in (map as_read f.reads)

    abbrev pieces : Pieces
    pieces = map unheld run.pieces

    all-ends : AreEndsAsked lines pieces
    all-ends = subst (λ (ls : Lines). AreEndsAsked ls pieces) (sym (all-lines f.reads)) asked.fronts

    few-pieces : (n : ℕ) → length (first_lines n pieces) ≤ length lines + 2
    few-pieces n = by (length (first_lines n pieces)) (length pieces) (length f.reads) (length lines) (first-fewer n pieces) asked.counted (ap length (all-lines f.reads) ∙ length-map f.reads as_line)
      where
        by : (a b c d : ℕ) → a ≤ b → b ≤ c + 1 → d ≡ c → a ≤ d + 2
        by a b c d p q r = omega (arith, p, q, r)

    front-asked : (told rest why : List Shown) → told ++ rest ≡ unheld (joined_lease run.pieces) → EndAsAsked (map as_read f.reads) (placed_on (images f.state.volume) leased.top) f.state.max_objects told why
    front-asked told rest why q =
        let here : told ≡ joined (first_lines (length told) pieces) = first-are told rest pieces (q ∙ asked.joined) in
        let ends = first-ends (length told) lines pieces all-ends in
        record {
          own = are-own f.reads (placed_on (images f.state.volume) leased.top) f.state.max_objects told why (each-front (IsOf (IsCallIn f.reads)) told rest (subst (EachLine (IsOf (IsCallIn f.reads))) (sym q) leased.own));
          pieces = first_lines (length told) pieces;
          in_pieces = here;
          counted = few-pieces (length told);
          numbered = first-numbered (length told) 1 [] pieces asked.numbered;
          ends = ends;
          spared = λ s. subst (λ (ls : List Shown). Each IsNoLoss (place ls)) (sym here) (lose-nothing lines (first_lines (length told) pieces) ends s);
        }

    holds-with : (told : List LeaseShown) (why : List Shown) → f.shown ≡ told ++ map Line why → length why ≤ 1 → EachLine SaysEnd why → (rest : List Shown) → unheld told ++ rest ≡ unheld (joined_lease run.pieces) → HoldsOfLeases e result source sink store EndAsAsked
    holds-with told why written few says rest q = record {
      reads = f.reads;
      gave = f.given;
      volume = images f.state.volume;
      limit = f.state.max_objects;
      new = λ (n : IsNew store). (ap (λ (d : Durable). images d.volume) (f.opens.empty n.0 n.1), ap (λ (d : Durable). d.max_objects) (f.opens.empty n.0 n.1));
      top = leased.top;
      greatest = leased.greatest;
      told = told;
      wrote = record {
        why = why;
        at_most_one = few;
        says = each-turn SaysEnd EndsEarly says-early why says;
        part = f.part;
        in_part = f.in_part;
        whole = f.whole;
        bytes = subst (λ (ls : List LeaseShown). Appends sink.bytes sink.bytes_after (lease_texts ls ++ f.part)) written f.bytes;
      };
      holds = front-asked (unheld told) rest why q;
    }

    of-run : (more : List LeaseShown) → f.shown ++ more ≡ joined_lease run.pieces ++ map Line (last_line run.ending) → HoldsOfLeases e result source sink store EndAsAsked
    of-run more q = by (split f.shown more (joined_lease run.pieces) (map Line (last_line run.ending)) q (few (length (map Line (last_line run.ending))) (length (last_line run.ending)) (as-long (last_line run.ending)) (few-why run.ending)))
      where
        few : (a b : ℕ) → a ≤ b → b ≤ 1 → a ≤ 1
        few a b p r = omega (arith, p, r)

        by : ((rest : List LeaseShown) × (joined_lease run.pieces ≡ f.shown ++ rest)) ⊎ (f.shown ≡ joined_lease run.pieces ++ map Line (last_line run.ending)) → HoldsOfLeases e result source sink store EndAsAsked
        by (inl r) = holds-with f.shown [] (sym (append-nil f.shown)) (omega arith) tt (unheld r.0) (sym (unheld-append f.shown r.0) ∙ ap unheld (sym r.1))
        by (inr is) = holds-with (joined_lease run.pieces) (last_line run.ending) is (few-why run.ending) (says-why run.ending) [] (append-nil (unheld (joined_lease run.pieces)))

  asked-so : (f : Known) → IsSeenAll (leasing (outside source sink store)) → (start : World) → open_world f.state ≡ Ok start → ∥ HoldsOfLeases e result source sink store EndAsAsked ∥₁
  asked-so f clear start opened = ∥∥₁_map ((f.opens).whole).formed (λ formed. of-run f run
      (runs-leased f.state formed ((f.opens).whole).slots ((f.opens).whole).from_one f.reads start opened l e f.fates fit)
      (runs-asked f.state formed ((f.opens).whole).slots ((f.opens).whole).from_one f.reads start opened l e f.fates fit) (f.front clear).0 lines-are)
    where
      fit : Each IsFit f.reads
      fit = fits_given e (leasing (outside source sink store)) f.reads f.given

      run : LeaseRan
      run = lease_run l e f.reads f.fates start

      lines-are : f.shown ++ (f.front clear).0 ≡ joined_lease run.pieces ++ map Line (last_line run.ending)
      lines-are = sym (f.front clear).1 ∙ ap (λ (o : Result World Counter). (drill_in l e f.reads f.fates o).0) opened

  of-facts : Known ⊎ NoLines l e result source sink store → LeaseSessions result source sink store l e
  of-facts (inr none) clear = ∣ inl none ∣₁
  of-facts (inl f) clear = by (open_world f.state) refl
    where
      by : (o : Result World Counter) → open_world f.state ≡ o → ∥ WroteLeases result sink [] ⊎ HoldsOfLeases e result source sink store EndAsAsked ∥₁
      by (Err n) not = ∣ inl (unopened l e result source sink store f n not clear) ∣₁
      by (Ok start) opened = ∥∥₁_map (asked-so f clear start opened) (λ h. inr h)

  pub lease-sessions : (end : Status) → result ≡ code (of_leases end) → LeaseDrilled l e end (leasing (outside source sink store)) → LeaseSessions result source sink store l e
  lease-sessions end is d = of-facts (facts-of l e result source sink store end is d)
