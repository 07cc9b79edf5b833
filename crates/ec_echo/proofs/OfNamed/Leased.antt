-- What holds of the lines of each drill with leases.
use Rattle.std.proofs.Common.{◌≡◌, ◌⊎◌, ◌≤◌, ◌-◌, ℕ, List, [], ◌∷◌, ◌++◌, Some, Result, Ok, Err, map, refl, sym, ap, subst, ◌∙◌, inl, inr, arith, append-nil}
use Rattle.std.specs.Prelude.{slice_get}
use Rattle.std.specs.Option.{option_map}
use Rattle.std.proofs.Math.Logic.{∥∥₁_map}
use Rattle.std.proofs.lemmas.Option.{slice_get-map}
use Rattle.std.specs.Io.KnownBytes.{Appends, Keeps}
use Rattle.ec_base.proofs.Lists.{all-taken}
use Rattle.ec_base.specs.declared.counter.Counter.{Counter}
use Rattle.ec_plain.specs.declared.call.Call.{Call}
use Rattle.ec_volume.specs.Volume as volume
use Rattle.ec_volume.specs.Volume.{images}
use Rattle.ec_durable.specs.declared.state.Durable.{Durable}
use Rattle.ec_history.specs.History.{Base, Each}
use Rattle.ec_history.specs.Legal.{IsLegal}
use Rattle.ec_history.specs.Lines.{IsStored}
use Rattle.ec_history.specs.Placing.{EachLine}
use Rattle.ec_history.specs.OfLaws.OfPrinted.Printed.{printed}
use Rattle.ec_history.specs.declared.shown.Shown.{Shown}
use Rattle.ec_history.specs.declared.shown.Shown.TheVariants as show
use Rattle.ec_history.proofs.PlacingLemmas.{each-turn}
use Rattle.ec_words.specs.OfText.Lines.{shown_text}
use Rattle.ec_lawful.specs.Calls.{IsOf}
use Rattle.ec_lawful.specs.Drills.{lines_in}
use Rattle.ec_lawful.specs.Headline.{AreLawful, InScript, IsGreatest, placed_on}
use Rattle.ec_protocol.specs.World.{open_world}
use Rattle.ec_protocol.specs.Drill.{Ending, Fates, Read, Done, BadLine, TooMany, IsSpent, last_line, status}
use Rattle.ec_protocol.specs.declared.script.Line.{Line as Scripted}
use Rattle.ec_protocol.specs.declared.script.Line.TheVariants as line
use Rattle.ec_protocol.specs.declared.world.World.{World}
use Rattle.ec_world.specs.Steps.{Opens}
use Rattle.ec_lease_machine.specs.Drill.{LeaseRan, LeaseRead, drill, drill_in, joined_lease, reads, unfit}
use Rattle.ec_lease_machine.specs.OfLeaseWorlds.Lines.{lease_run, unheld}
use Rattle.ec_lease_machine.specs.OfLeaseWorlds.Runs.{AreLeased, IsCallIn, IsFit, as_line}
use Rattle.ec_lease_machine.proofs.OfLeaseWorlds.Runs.{IsUnspent, runs-leased}
use Rattle.ec_lease_machine.proofs.OfLeaseWorlds.Stored.{runs-stored}
use Rattle.ec_lease_machine.specs.OfWords.Text.{lease_text, lease_texts}
use Rattle.ec_lease_machine.specs.declared.script.LeaseLine.TheVariants as lines
use Rattle.ec_lease_machine.specs.declared.world.LeaseShown.{LeaseShown}
use Rattle.ec_lease_machine.specs.declared.world.LeaseShown.TheVariants.{Line}
use Rattle.ec_lease.specs.OfDrill.Drill.{GivesReads, IsFrontOf, IsPartOf, IsSeenAll, LeaseDrilled, LeaseOutside, RanAll, leased_state, RanPart, ToldPart, WasCut}
use Rattle.ec_lease.specs.OfDrill.Promise.{AreLegalOn, IsLegalRun, SaysEnd}
use Rattle.ec_lease.specs.OfDrill.Script.{lease_objects}
use Rattle.ec_lease.specs.declared.drill.status.Status.{Status}
use Rattle.ec_lease.specs.declared.drill.status.Status.TheVariants as own
use Rattle.ec_lease.proofs.OfDrill.Promise.{all_legal, few-why, fits_given, part_legal, says-why}
use Rattle.ec_drill.specs.Cuts.{IsCutFront}
use Rattle.ec_drill.specs.Seen.{Stream, Store}
use Rattle.ec_echo.specs.Echo.{leasing}
use Rattle.ec_echo.specs.Statuses.{code, of_leases}
use Rattle.ec_echo.specs.OfNamed.Forms.{outside}
use Rattle.ec_echo.specs.OfNamed.Leases.{HoldsOfLeases, LeaseBytes, LeaseCalls, LeaseHistory, LeaseLines, LeaseStores, OfLeases, WroteLeases, as_read}
use Rattle.ec_echo.specs.OfNamed.Runs.{AreOwn, AreStored}
use Rattle.ec_echo.specs.OfNamed.Seen.{IsNew}
use Rattle.ec_echo.specs.OfNamed.Told.{EndsEarly, OnFronts}
use Rattle.ec_echo.proofs.OfNamed.Bytes.{kept-none, more-none}

-- nothing, or a front of a line
abbrev IsLeasePart : List ℕ → Type 0
IsLeasePart part = (part ≡ []) ⊎ ((s : LeaseShown) × IsCutFront (lease_text s) part)

cut-front : (text front : List ℕ) → IsFrontOf text front → IsCutFront text front
cut-front text front f = record { count = f.count; short = f.short; is = f.is }

part-is : (ss : List LeaseShown) (last : List ℕ) → IsPartOf ss last → IsLeasePart last
part-is [] last p = inl p
part-is (s ∷ ss) last (inl p) = inl p
part-is (s ∷ ss) last (inr p) = inr (s, cut-front (lease_text s) last p)

pub says-early : (s : Shown) → SaysEnd s → EndsEarly s
says-early (show.Bad n k) e = tt
says-early (show.Limit n k) e = tt
says-early (show.Spent n) e = tt
says-early (show.DiskBad n) e = tt
says-early (show.Waits l c cl) e = absurd e
says-early (show.Answered l c cl a op) e = absurd e
says-early (show.Durable c ns) e = absurd e
says-early (show.Ended c ns) e = absurd e
says-early (show.Unseen c) e = absurd e
says-early (show.Told c ns) e = absurd e
says-early (show.Crashed c) e = absurd e
says-early show.Stopped e = absurd e
says-early show.Started e = absurd e
says-early show.Nothing e = absurd e
says-early show.Unsettled e = absurd e

-- The calls of a script stand at their numbers among its lines as a drill's.

pub all-lines : (ls : List LeaseRead) → lines_in (map as_read ls) ≡ map as_line ls
all-lines [] = refl
all-lines (reads (lines.Drill l) column ∷ ls) = ap (λ z. l ∷ z) (all-lines ls)
all-lines (reads (lines.Tick n) column ∷ ls) = ap (λ z. line.Comment ∷ z) (all-lines ls)
all-lines (reads (lines.Skew c s) column ∷ ls) = ap (λ z. line.Comment ∷ z) (all-lines ls)
all-lines (reads (lines.Grant c) column ∷ ls) = ap (λ z. line.Comment ∷ z) (all-lines ls)
all-lines (reads (lines.Hand c n) column ∷ ls) = ap (λ z. line.Comment ∷ z) (all-lines ls)
all-lines (unfit column ∷ ls) = ap (λ z. line.Comment ∷ z) (all-lines ls)

call-in : (script : List LeaseRead) (l c : ℕ) (cl : Call) → IsCallIn script l c cl → (1 ≤ l) × (slice_get (lines_in (map as_read script)) (l - 1) ≡ Some (line.Call c cl))
call-in script l c cl (first, column, at) =
    (first, ap (λ (ls : List Scripted). slice_get ls (l - 1)) (all-lines script) ∙ slice_get-map as_line script (l - 1) ∙ ap (option_map as_line) at)

pub in-script : (script : List LeaseRead) (s : Shown) → IsOf (IsCallIn script) s → InScript (lines_in (map as_read script)) s
in-script script (show.Waits l c cl) p = call-in script l c cl p
in-script script (show.Answered l c cl a op) p = call-in script l c cl p
in-script script (show.Durable c ns) p = tt
in-script script (show.Ended c ns) p = tt
in-script script (show.Unseen c) p = tt
in-script script (show.Told c ns) p = tt
in-script script (show.Crashed c) p = tt
in-script script show.Stopped p = tt
in-script script show.Started p = tt
in-script script show.Nothing p = tt
in-script script show.Unsettled p = tt
in-script script (show.Bad n k) p = tt
in-script script (show.DiskBad n) p = tt
in-script script (show.Limit n k) p = tt
in-script script (show.Spent n) p = tt

abbrev pub are-own : (script : List LeaseRead) (base : Base) (limit : ℕ) (told why : List Shown) → EachLine (IsOf (IsCallIn script)) told → AreOwn (map as_read script) base limit told why
are-own script base limit told why own = record {
  lines = lines_in (map as_read script);
  front = sym (all-taken (lines_in (map as_read script)));
  own = each-turn (IsOf (IsCallIn script)) (InScript (lines_in (map as_read script))) (in-script script) told own;
}

-- a front of one line
front-of-one : {A : Type 0} (x : A) (xs ys : List A) → xs ++ ys ≡ x ∷ [] → (xs ≡ []) ⊎ (xs ≡ x ∷ [])
front-of-one x [] ys e = inl refl
front-of-one {A} x (z ∷ []) ys e = inr (first z ys e)
  where
    first : (z : A) (ys : List A) → z ∷ ys ≡ x ∷ [] → z ∷ [] ≡ x ∷ []
    first z ys e = cc
front-of-one {A} x (y ∷ z ∷ zs) ys e = absurd (two y z (zs ++ ys) e)
  where
    two : (y z : A) (zs : List A) → y ∷ z ∷ zs ≡ x ∷ [] → ⊥
    two y z zs e = cc

module _ (l e result : ℕ) (source sink : Stream) (store : Store) where
  abbrev w : LeaseOutside
  w = leasing (outside source sink store)

  abbrev pub NoLines : Type 0
  NoLines = WroteLeases result sink []

  -- What is known of each drill that carried out lines of its script, whatever its status.
  pub record Facts : Type 0 where
    pub reads : List LeaseRead
    pub given : GivesReads e w reads
    pub state : Durable
    pub opens : Opens store.tells store.disk.gives lease_objects state
    pub fates : List Fates
    -- the lines, which are a front of the machine's, and a part of one
    pub shown : List LeaseShown
    pub front : IsSeenAll w → (more : List LeaseShown) × ((drill l e reads fates state).0 ≡ shown ++ more)
    pub part : List ℕ
    pub in_part : IsLeasePart part
    pub whole : (result ≡ 5 → ⊥) → (result ≡ 9 → ⊥) → part ≡ []
    pub bytes : Appends sink.bytes sink.bytes_after (lease_texts shown ++ part)
    pub legal : IsLegalRun w reads state shown

  all-facts : (number : ℕ) → RanAll l e number w → Facts
  all-facts number r = record {
    reads = r.reads;
    given = r.given;
    state = r.state;
    opens = r.opens;
    fates = r.fates;
    shown = r.shown;
    front = λ clear. ([], r.lines clear ∙ sym (append-nil r.shown));
    part = [];
    in_part = inl refl;
    whole = λ five nine. refl;
    bytes = more-none sink.bytes sink.bytes_after (lease_texts r.shown) r.bytes;
    legal = all_legal l e number w r;
  }

  part-facts : (last : List ℕ) → ((result ≡ 5 → ⊥) → (result ≡ 9 → ⊥) → last ≡ []) → RanPart l e w last → Facts
  part-facts last whole r = record {
    reads = r.reads;
    given = r.given;
    state = r.state;
    opens = r.opens;
    fates = r.fates;
    shown = r.shown;
    front = λ clear. let at = r.front clear in (r.unwritten ++ at.0, at.1);
    part = last;
    in_part = part-is r.unwritten last r.part;
    whole = whole;
    bytes = r.bytes;
    legal = part_legal l e w last r;
  }

  -- no line of a run was written
  pub silent : Keeps sink.bytes sink.bytes_after → NoLines
  silent k = record { why = []; at_most_one = omega arith; says = tt; part = []; in_part = inl refl; whole = λ five nine. refl; bytes = kept-none sink.bytes sink.bytes_after k }

  pub said : (s : Shown) → EndsEarly s → Appends sink.bytes sink.bytes_after (shown_text s) → NoLines
  said s why a = record {
    why = s ∷ [];
    at_most_one = omega arith;
    says = (why, tt);
    part = [];
    in_part = inl refl;
    whole = λ five nine. refl;
    bytes = more-none sink.bytes sink.bytes_after (lease_texts (Line s ∷ [])) (more-none sink.bytes sink.bytes_after (shown_text s) a);
  }

  told : ((result ≡ 5 → ⊥) → (result ≡ 9 → ⊥) → ⊥) → ToldPart e w → NoLines
  told barred t = record { why = []; at_most_one = omega arith; says = tt; part = t.last; in_part = in_one t.part; whole = λ five nine. absurd (barred five nine); bytes = t.bytes }
    where
      in_one : (t.last ≡ []) ⊎ IsFrontOf (shown_text t.line) t.last → IsLeasePart t.last
      in_one (inl none) = inl none
      in_one (inr front) = inr (Line t.line, cut-front (shown_text t.line) t.last front)

  cut-facts : ((result ≡ 5 → ⊥) → (result ≡ 9 → ⊥) → ⊥) → WasCut l e w → Facts ⊎ NoLines
  cut-facts barred (inl part) = inl (part-facts part.0 (λ five nine. absurd (barred five nine)) part.1)
  cut-facts barred (inr t) = inr (told barred t)

  pub facts-of : (end : Status) → result ≡ code (of_leases end) → LeaseDrilled l e end w → Facts ⊎ NoLines
  facts-of own.Done is d = inl (all-facts 0 d)
  facts-of own.BadLine is d = inl (all-facts 3 d)
  facts-of own.Spent is d = inl (all-facts 15 d)
  facts-of own.Limit is (inl over) = inr (said (show.Limit over.0 over.1) tt over.4)
  facts-of own.Limit is (inr d) = inl (all-facts 11 d)
  facts-of own.SourceFault is d = inr (silent d.1)
  facts-of own.SinkFault is d = cut-facts (λ five nine. five is) d.1
  facts-of own.DiskFault is (rose, inl part) = inl (part-facts [] (λ five nine. refl) part)
  facts-of own.DiskFault is (rose, inr quiet) = inr (silent quiet)
  facts-of own.BadDisk is d = inr (said (show.DiskBad d.0) tt d.4)
  facts-of own.NoMemory is (inl cut) = cut-facts (λ five nine. nine is) cut
  facts-of own.NoMemory is (inr quiet) = inr (silent quiet)

  -- the opening would have spent a counter
  pub unopened : (f : Facts) (n : Counter) → open_world f.state ≡ Err n → IsSeenAll w → NoLines
  unopened f n not clear =
      let at = f.front clear in
      by (front-of-one (Line (show.Spent n)) f.shown at.0 (sym at.1 ∙ ap (λ (x : Result World Counter). (drill_in l e f.reads f.fates x).0) not))
    where
      by : (f.shown ≡ []) ⊎ (f.shown ≡ Line (show.Spent n) ∷ []) → NoLines
      by (inl is) = record { why = []; at_most_one = omega arith; says = tt; part = f.part; in_part = f.in_part; whole = f.whole; bytes = subst (λ (ls : List LeaseShown). Appends sink.bytes sink.bytes_after (lease_texts ls ++ f.part)) is f.bytes }
      by (inr is) = record { why = show.Spent n ∷ []; at_most_one = omega arith; says = (tt, tt); part = f.part; in_part = f.in_part; whole = f.whole; bytes = subst (λ (ls : List LeaseShown). Appends sink.bytes sink.bytes_after (lease_texts ls ++ f.part)) is f.bytes }

  -- Of a run that began.
  module _ (P : List Read → Base → ℕ → List Shown → List Shown → Type 0)
      (from : (f : Facts) (a : AreLegalOn f.reads f.state f.shown) → P (map as_read f.reads) (placed_on (images f.state.volume) (a.leased).top) f.state.max_objects (unheld a.told) a.why) where
    held : (f : Facts) → AreLegalOn f.reads f.state f.shown → HoldsOfLeases e result source sink store P
    held f a = record {
      reads = f.reads;
      gave = f.given;
      volume = images f.state.volume;
      limit = f.state.max_objects;
      new = λ (n : IsNew store). (ap (λ (d : Durable). images d.volume) (f.opens.empty n.0 n.1), ap (λ (d : Durable). d.max_objects) (f.opens.empty n.0 n.1));
      top = (a.leased).top;
      greatest = (a.leased).greatest;
      told = a.told;
      wrote = record {
        why = a.why;
        at_most_one = a.at_most_one;
        says = each-turn SaysEnd EndsEarly says-early a.why a.says;
        part = f.part;
        in_part = f.in_part;
        whole = f.whole;
        bytes = subst (λ (ls : List LeaseShown). Appends sink.bytes sink.bytes_after (lease_texts ls ++ f.part)) a.written f.bytes;
      };
      holds = from f a;
    }

    of-facts : Facts ⊎ NoLines → OfLeases P result source sink store l e
    of-facts (inr none) clear = ∣ inl none ∣₁
    of-facts (inl f) clear = by (open_world f.state) refl
      where
        by : (o : Result World Counter) → open_world f.state ≡ o → ∥ NoLines ⊎ HoldsOfLeases e result source sink store P ∥₁
        by (Err n) not = ∣ inl (unopened f n not clear) ∣₁
        by (Ok start) opened = ∥∥₁_map (f.legal clear start opened) (λ a. inr (held f a))

  pub lease-history : (end : Status) → result ≡ code (of_leases end) → LeaseDrilled l e end w → LeaseHistory result source sink store l e
  lease-history end is d = of-facts (λ script. OnFronts (λ base limit front. IsLegal base limit (printed front))) (λ f a. (a.leased).legal) (facts-of end is d)

  pub lease-lines : (end : Status) → result ≡ code (of_leases end) → LeaseDrilled l e end w → LeaseLines result source sink store l e
  lease-lines end is d = of-facts (λ script. OnFronts AreLawful) (λ f a. (a.leased).lawful) (facts-of end is d)

  pub lease-calls : (end : Status) → result ≡ code (of_leases end) → LeaseDrilled l e end w → LeaseCalls result source sink store l e
  lease-calls end is d = of-facts AreOwn
      (λ f a. are-own f.reads (placed_on (images f.state.volume) (a.leased).top) f.state.max_objects (unheld a.told) a.why (a.leased).own) (facts-of end is d)

  wrote-of : Facts ⊎ NoLines → LeaseBytes result sink l e
  wrote-of (inl f) = (f.shown, record { why = []; at_most_one = omega arith; says = tt; part = f.part; in_part = f.in_part; whole = f.whole; bytes = subst (λ (ls : List LeaseShown). Appends sink.bytes sink.bytes_after (lease_texts ls ++ f.part)) (sym (append-nil f.shown)) f.bytes })
  wrote-of (inr none) = ([], none)

  pub lease-bytes : (end : Status) → result ≡ code (of_leases end) → LeaseDrilled l e end w → LeaseBytes result sink l e
  lease-bytes end is d = wrote-of (facts-of end is d)

  -- The disk behind a run that ended by itself.

  unspent-of : (end : Ending) (number : ℕ) → status end ≡ number → (number ≡ 15 → ⊥) → IsUnspent end
  unspent-of (IsSpent n) number is not = absurd (not (sym is))
  unspent-of Done number is not = tt
  unspent-of (BadLine n k) number is not = tt
  unspent-of (TooMany n) number is not = tt

  abbrev Stores : Type 0
  Stores = WroteLeases result sink [] ⊎ HoldsOfLeases e result source sink store (AreStored store)

  opened-stored : (number : ℕ) (r : RanAll l e number w) → (number ≡ 15 → ⊥) → IsSeenAll w → (start : World) → open_world r.state ≡ Ok start → ∥ Stores ∥₁
  opened-stored number r not clear start opened = ∥∥₁_map ((r.opens).whole).formed (λ formed. inr (of (runs-leased (r.state) formed ((r.opens).whole).slots ((r.opens).whole).from_one r.reads start opened l e r.fates fit)
      (λ top greatest. runs-stored r.state formed ((r.opens).whole).slots ((r.opens).whole).from_one top greatest r.reads start opened l e r.fates fit (unspent-of run.ending number status-is not))))
    where
      fit : Each IsFit r.reads
      fit = fits_given e w r.reads r.given

      run : LeaseRan
      run = lease_run l e r.reads r.fates start

      shown-are : joined_lease run.pieces ++ map Line (last_line run.ending) ≡ r.shown
      shown-are = ap (λ (o : Result World Counter). (drill_in l e r.reads r.fates o).0) (sym opened) ∙ r.lines clear

      status-is : status run.ending ≡ number
      status-is = ap (λ (o : Result World Counter). (drill_in l e r.reads r.fates o).1) (sym opened) ∙ r.status clear

      end-is : leased_state l e r.reads r.fates r.state ≡ run.world.world.durable
      end-is = ap (λ (o : Result World Counter). elim o as (λ z. Durable) [ Err n ↦ r.state | Ok first ↦ (lease_run l e r.reads r.fates first).world.world.durable ]) opened

      of : AreLeased r.reads (images (r.state).volume) (r.state).max_objects (unheld (joined_lease run.pieces))
          → ((top : ℕ) → IsGreatest (images (r.state).volume) top → volume.WellFormed (images run.world.world.durable.volume) × IsStored (placed_on (images (r.state).volume) top) (unheld (joined_lease run.pieces)) (images run.world.world.durable.volume))
          → HoldsOfLeases e result source sink store (AreStored store)
      of a stored = record {
        reads = r.reads;
        gave = r.given;
        volume = images (r.state).volume;
        limit = (r.state).max_objects;
        new = λ (n : IsNew store). (ap (λ (d : Durable). images d.volume) ((r.opens).empty n.0 n.1), ap (λ (d : Durable). d.max_objects) ((r.opens).empty n.0 n.1));
        top = a.top;
        greatest = a.greatest;
        told = joined_lease run.pieces;
        wrote = record {
          why = last_line run.ending;
          at_most_one = few-why run.ending;
          says = each-turn SaysEnd EndsEarly says-early (last_line run.ending) (says-why run.ending);
          part = [];
          in_part = inl refl;
          whole = λ five nine. refl;
          bytes = subst (λ (ls : List LeaseShown). Appends sink.bytes sink.bytes_after (lease_texts ls ++ [])) (sym shown-are) (more-none sink.bytes sink.bytes_after (lease_texts r.shown) r.bytes);
        };
        holds = record {
          before = r.state;
          stood = (r.opens).stands;
          volume = refl;
          state = leased_state l e r.reads r.fates r.state;
          stands = λ tells. (let k = r.disk not tells in record { gives = k.gives; crash = k.crash });
          formed = subst (λ (d : Durable). volume.WellFormed (images d.volume)) (sym end-is) (stored a.top a.greatest).0;
          stored = subst (λ (d : Durable). IsStored (placed_on (images (r.state).volume) a.top) (unheld (joined_lease run.pieces)) (images d.volume)) (sym end-is) (stored a.top a.greatest).1;
        };
      }

  all-stored : (number : ℕ) → RanAll l e number w → (number ≡ 15 → ⊥) → OfLeases (AreStored store) result source sink store l e
  all-stored number r not clear = by (open_world r.state) refl
    where
      by : (o : Result World Counter) → open_world r.state ≡ o → ∥ Stores ∥₁
      by (Err n) unopened = absurd (not (sym (ap (λ (x : Result World Counter). (drill_in l e r.reads r.fates x).1) (sym unopened) ∙ r.status clear)))
      by (Ok start) opened = opened-stored number r not clear start opened

  none-stored : NoLines → OfLeases (AreStored store) result source sink store l e
  none-stored none clear = ∣ inl none ∣₁

  pub lease-stores : (end : Status) → result ≡ code (of_leases end) → LeaseDrilled l e end w → LeaseStores result source sink store l e
  lease-stores own.Done is d uncut unspent = all-stored 0 d (λ x. absurd (omega (arith, x)))
  lease-stores own.BadLine is d uncut unspent = all-stored 3 d (λ x. absurd (omega (arith, x)))
  lease-stores own.Limit is (inl over) uncut unspent = none-stored (said (show.Limit over.0 over.1) tt over.4)
  lease-stores own.Limit is (inr d) uncut unspent = all-stored 11 d (λ x. absurd (omega (arith, x)))
  lease-stores own.SourceFault is d uncut unspent = none-stored (silent d.1)
  lease-stores own.BadDisk is d uncut unspent = none-stored (said (show.DiskBad d.0) tt d.4)
  lease-stores own.Spent is d uncut unspent = absurd (unspent is)
  lease-stores own.SinkFault is d uncut unspent = absurd (uncut.0 is)
  lease-stores own.DiskFault is d uncut unspent = absurd (uncut.1 is)
  lease-stores own.NoMemory is d uncut unspent = absurd (uncut.2 is)
