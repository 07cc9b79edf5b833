-- The lines that a drill wrote are lawful, where those of each run of the machine are.
use Rattle.std.proofs.Common.{◌≡◌, ◌≤◌, ◌+◌, ◌⊎◌, ℕ, zero, suc, List, [], ◌∷◌, ◌++◌, length, take, drop, Result, Ok, Err, refl, sym, ap, subst, ◌∙◌, inl, inr, arith, append_assoc, append-nil}
use Rattle.std.specs.List.{filter}
use Rattle.std.proofs.lemmas.List.{length-append}
use Rattle.std.proofs.Math.Logic.{∥∥₁_map}
use Rattle.ec_base.specs.declared.counter.Counter.{Counter}
use Rattle.ec_disk.specs.Disk.{View}
use Rattle.ec_volume.specs.Volume.{images}
use Rattle.ec_volume.specs.declared.image.Image.TheVariants.{Gone}
use Rattle.ec_history.specs.History.{Each}
use Rattle.ec_history.specs.Placing.{EachLine, place}
use Rattle.ec_history.specs.declared.shown.Shown.{Shown}
use Rattle.ec_history.specs.declared.shown.Shown.TheVariants as show
use Rattle.ec_durable.specs.WellFormed.{WellFormed}
use Rattle.ec_durable.specs.declared.state.Durable.{Durable}
use Rattle.ec_protocol.specs.World.{open_world}
use Rattle.ec_protocol.specs.Drill.{Read, Fates, Ran, Ending, IsSpent, Done, BadLine, TooMany, bound, close, drill, drill_in, joined, last_line, run_from, status}
use Rattle.ec_protocol.specs.declared.world.World.{World}
use Rattle.ec_lawful.specs.Headline.{AreLawful, FrontsAreLawful, IsGreatest}
use Rattle.ec_lawful.specs.Headline as headline
use Rattle.ec_lawful.specs.DrillRuns.{AreFit, IsUnspent}
use Rattle.ec_lawful.specs.Runs.{RunShows}
use Rattle.ec_lawful.proofs.Shows.{runs-show}
use Rattle.ec_drill.specs.Drill.{Outside, Drilled, IsCut, IsCutClean, IsToldAll, RanWhole, RanInPart, end_of, state_after}
use Rattle.ec_drill.specs.Left.{LeavesOf, at_end}
use Rattle.ec_drill.specs.declared.status.Status.{Status}
use Rattle.ec_drill.specs.declared.status.Status.TheVariants as own
use Rattle.ec_lawful.proofs.RunsInOrder.{run-in-order}
use Rattle.ec_drill.specs.OfPromise.Left.{EndsStored, IsStoredIn, LeavesStored}
use Rattle.ec_drill.specs.OfPromise.Pieces.{first_lines, pieces_in, pieces_of}
use Rattle.ec_drill.specs.OfPromise.Spared.{IsNoLoss}
use Rattle.ec_drill.specs.OfPromise.Promise.{AreInOrder}
use Rattle.ec_drill.specs.OfPromise.LawfulEnds.{AreLawfulOn, AreStoredOn, AreWholeOn, CutIsLawful, DrillsAreLawful, CleanIsLawful, IsLawful, MomentsAreStored, PartIsLawful, SpentIsLawful, WholeIsLawful, WholeState, base_on}
use Rattle.ec_drill.proofs.OfPromise.Behind.{behind-kept, part-kept}
use Rattle.ec_drill.proofs.OfPromise.Cut.{cut-front, first-all, first-are, first-ends, first-fewer, first-numbered}
use Rattle.ec_drill.proofs.OfPromise.Fit.{fit_script}
use Rattle.ec_drill.proofs.OfPromise.Greatest.{greatest-id}
use Rattle.ec_drill.proofs.OfPromise.Moments.{end-in-order, moment-stored, one-last}
use Rattle.ec_drill.proofs.OfPromise.Plain.{plain-complete}
use Rattle.ec_drill.proofs.OfPromise.Spared.{lose-nothing}
use Rattle.ec_drill.proofs.OfPromise.OfRooms.Rooms.{same-joined}

-- Lists.

pub each-front : (P : Shown → Type 0) (xs rest : List Shown) → EachLine P (xs ++ rest) → EachLine P xs
each-front P [] rest each = tt
each-front P (x ∷ xs) rest each = (each.0, each-front P xs rest each.1)

-- fronts of a front
fronts-front : (state : Durable) (top : ℕ) (xs rest : List Shown) → FrontsAreLawful (base_on state top) state.max_objects (xs ++ rest) → FrontsAreLawful (base_on state top) state.max_objects xs
fronts-front state top xs rest lawful front more e = lawful front (more ++ rest) (sym (append_assoc front more rest) ∙ ap (λ (ls : List Shown). ls ++ rest) e)

-- a front of lawful lines is lawful
lawful-front : (reads : List Read) (state : Durable) (pieces : headline.Pieces) (all xs more : List Shown) → AreLawfulOn reads state pieces all → xs ++ more ≡ all → AreLawfulOn reads state (first_lines (length xs) pieces) xs
lawful-front reads state pieces all xs more a e = go (cut-front xs more a.told a.last (e ∙ a.written) a.at_most_one)
  where
    few : (a b n : ℕ) → n ≡ a + b → a ≤ n
    few a b n is = omega (arith, is)

    fewer : (a b n : ℕ) → a ≤ b → b ≤ n → a ≤ n
    fewer a b n le most = omega (arith, le, most)

    ends : headline.AreEndsAsked a.lines (first_lines (length xs) pieces)
    ends = first-ends (length xs) a.lines pieces a.ends

    go : ((rest : List Shown) × (xs ++ rest ≡ a.told)) ⊎ (xs ≡ a.told ++ a.last) → AreLawfulOn reads state (first_lines (length xs) pieces) xs
    go (inr q) =
        let whole = first-all (length xs) pieces (subst (λ ls. length ls ≤ length xs) a.in_pieces (few (length a.told) (length a.last) (length xs) (ap length q ∙ length-append a.told a.last))) in
        subst (λ ps. AreLawfulOn reads state ps xs) (sym whole) (record {
          told = a.told;
          last = a.last;
          written = q;
          at_most_one = a.at_most_one;
          why = a.why;
          lines = a.lines;
          front = a.front;
          own_calls = a.own_calls;
          in_pieces = a.in_pieces;
          counted = a.counted;
          numbered = a.numbered;
          ends = a.ends;
          spared = a.spared;
          top = a.top;
          greatest = a.greatest;
          fronts = a.fronts;
        })
    go (inl (rest, q)) = record {
      told = xs;
      last = [];
      written = sym (append-nil xs);
      at_most_one = omega arith;
      why = tt;
      lines = a.lines;
      front = a.front;
      own_calls = each-front (headline.InScript a.lines) xs rest (subst (EachLine (headline.InScript a.lines)) (sym q) a.own_calls);
      in_pieces = first-are xs rest pieces (q ∙ a.in_pieces);
      counted = fewer _ _ _ (first-fewer (length xs) pieces) a.counted;
      numbered = first-numbered (length xs) 1 [] pieces a.numbered;
      ends = ends;
      spared = λ s. subst (λ ls. Each IsNoLoss (place ls)) (sym (first-are xs rest pieces (q ∙ a.in_pieces))) (lose-nothing a.lines (first_lines (length xs) pieces) ends s);
      top = a.top;
      greatest = a.greatest;
      fronts = fronts-front state a.top xs rest (subst (FrontsAreLawful (base_on state a.top) state.max_objects) (sym q) a.fronts);
    }

-- Each run of the machine shows what is lawful.

no-ends : (c k : ℕ) → length (filter (headline.ends c) (headline.joined (take k []))) ≤ length (filter (headline.may_end c) (take k []))
no-ends c zero = omega arith
no-ends c (suc k) = omega arith

module _ (reads : List Read) (fates : List Fates) (d : Durable) (wf : WellFormed d) (sixteen : length d.sessions ≡ 16) (zero : images d.volume 0 ≡ Gone) (fit : AreFit reads) where
  -- the greatest id of its volume
  highest : (n : ℕ) × IsGreatest (images d.volume) n
  highest = greatest-id d wf

  -- nothing is told but that a counter is spent
  unopened-lines : (n : Counter) → AreLawfulOn reads d [] (show.Spent n ∷ [])
  unopened-lines n = record {
    told = [];
    last = show.Spent n ∷ [];
    written = refl;
    at_most_one = omega arith;
    why = (tt, tt);
    lines = [];
    front = refl;
    own_calls = tt;
    in_pieces = refl;
    counted = omega arith;
    numbered = tt;
    ends = λ c k le. no-ends c k;
    spared = λ s. tt;
    top = highest.0;
    greatest = highest.1;
    fronts = λ front rest e. subst (AreLawful (base_on d highest.0) d.max_objects) (sym (none front rest e)) record { placed = tt; history = tt; fsync = tt };
  }
    where
      none : (xs ys : List Shown) → xs ++ ys ≡ [] → xs ≡ []
      none [] ys e = refl
      none (x ∷ xs) ys e = absurd cc

  unopened : (n : Counter) → AreWholeOn reads d [] (show.Spent n ∷ [])
  unfolding unopened-lines
  unopened n = record { lawful = unopened-lines n; fit = λ o. tt }

  module _ (w : World) (o : open_world d ≡ Ok w) where
    abbrev ran : Ran
    ran = run_from (bound reads) 1 reads fates w

    shows : RunShows (images d.volume) highest.0 d.max_objects reads (close ran.ending ran)
    shows = runs-show d wf sixteen zero w o reads fates fit highest.0 highest.1

    opened-lines : AreLawfulOn reads d (close ran.ending ran).pieces (joined (close ran.ending ran).pieces ++ last_line (close ran.ending ran).ending)
    opened-lines = record {
      told = headline.joined (close ran.ending ran).pieces;
      last = last_line (close ran.ending ran).ending;
      written = ap (λ (ls : List Shown). ls ++ last_line (close ran.ending ran).ending) (sym (same-joined (close ran.ending ran).pieces));
      at_most_one = (one-last (close ran.ending ran).ending).0;
      why = (one-last (close ran.ending ran).ending).1;
      lines = shows.lines;
      front = shows.front;
      own_calls = shows.own_calls;
      in_pieces = refl;
      counted = shows.counted;
      numbered = shows.numbered;
      ends = shows.ends;
      spared = lose-nothing shows.lines (close ran.ending ran).pieces shows.ends;
      top = highest.0;
      greatest = highest.1;
      fronts = shows.fronts;
    }

    opened : AreWholeOn reads d (close ran.ending ran).pieces (joined (close ran.ending ran).pieces ++ last_line (close ran.ending ran).ending)
    unfolding opened-lines
    opened = record { lawful = opened-lines; fit = shows.fit }

  all-lawful : AreWholeOn reads d (pieces_of reads fates d) (drill reads fates d).0
  all-lawful = go (open_world d) refl
    where
      go : (o : Result World Counter) → open_world d ≡ o → AreWholeOn reads d (pieces_in reads fates o) (drill_in reads fates o).0
      go (Err n) q = unopened n
      go (Ok w) q = opened w q

  ends-unspent : (e : Ending) (number : ℕ) → status e ≡ number → (number ≡ 15 → ⊥) → IsUnspent e
  ends-unspent (IsSpent n) number q not = absurd (not (sym q))
  ends-unspent Done number q not = tt
  ends-unspent (BadLine n k) number q not = tt
  ends-unspent (TooMany n) number q not = tt

  all-stored : (number : ℕ) → (drill reads fates d).1 ≡ number → (number ≡ 15 → ⊥) → AreStoredOn reads d (state_after reads fates d) (pieces_of reads fates d) (drill reads fates d).0
  unfolding opened opened-lines
  all-stored number is not = go (open_world d) refl is
    where
      after-of : Result World Counter → Durable
      after-of o = elim o [ Err n ↦ d | Ok start ↦ (end_of reads fates start).durable ]

      go : (o : Result World Counter) → open_world d ≡ o → (drill_in reads fates o).1 ≡ number → AreStoredOn reads d (elim o [ Err n ↦ d | Ok start ↦ (end_of reads fates start).durable ]) (pieces_in reads fates o) (drill_in reads fates o).0
      go (Err n) q s = absurd (not (sym s))
      go (Ok w) q s =
          let u = ends-unspent (close (ran w q).ending (ran w q)).ending number s not in
          record { whole = opened w q; formed = (shows w q).formed u; stored = (shows w q).stored u }

-- On the way, and behind the restart at the end.
all-in-order : (reads : List Read) (fates : List Fates) (d : Durable) → WellFormed d → length d.sessions ≡ 16 → images d.volume 0 ≡ Gone → AreFit reads → AreInOrder reads fates d
all-in-order reads fates d wf sixteen gone fit = λ w o. (λ n. run-in-order d wf sixteen gone w o reads fates fit n, end-in-order d wf sixteen gone w o reads fates fit)

pub machine-lawful : DrillsAreLawful
machine-lawful reads fates d is fit =
    (all-lawful reads fates d is.formed is.slots is.from_one fit, λ not. all-stored reads fates d is.formed is.slots is.from_one fit (drill reads fates d).1 refl not, all-in-order reads fates d is.formed is.slots is.from_one fit)

-- Each moment of its run is stored, and so is its end.
pub machine-stored : MomentsAreStored
machine-stored reads fates d is fit start o w shown m =
    let highest = greatest-id d is.formed in
    moment-stored d is.formed is.slots is.from_one highest.0 highest.1 start o reads fates fit w shown m

ends-stored : (reads : List Read) (fates : List Fates) (d : Durable) → WholeState d → AreFit reads → EndsStored reads fates d (drill reads fates d).0
ends-stored reads fates d is fit = ((is.formed).volume, λ start o. subst (λ x. IsStoredIn d (end_of reads fates start) (drill_in reads fates x).0) (sym o) (machine-stored reads fates d is fit start o (end_of reads fates start) _ (at_end (run_from (bound reads) 1 reads fates start) refl refl refl)))

leaves-stored : (now : View) (reads : List Read) (fates : List Fates) (d : Durable) → WholeState d → AreFit reads → (written : List Shown) → (o : Result World Counter) → open_world d ≡ o → LeavesOf now reads fates d o written → LeavesStored now reads fates d o written
leaves-stored now reads fates d is fit written (Err n) q left = ((is.formed).volume, left)
leaves-stored now reads fates d is fit written (Ok start) q left = λ image may. (let at = left image may in (at, machine-stored reads fates d is fit start q at.world at.shown at.moment))

-- The same of what a drill did.

whole-state : (d : Durable) → WellFormed d → length d.sessions ≡ 16 → images d.volume 0 ≡ Gone → WholeState d
whole-state d formed slots from_one = record { formed = formed; slots = slots; from_one = from_one }

whole-lawful : (most number : ℕ) (w : Outside) (r : RanWhole most number w) → (number ≡ 15 → ⊥) → WholeIsLawful most number w r
whole-lawful most number w r not told =
    let is = (r.opens).whole in
    let fit = fit_script _ r.reads (r.given).read in
    ∥∥₁_map is.formed (λ wf. (
      subst (AreStoredOn r.reads r.state (state_after r.reads r.fates r.state) (pieces_of r.reads r.fates r.state)) (r.lines told) (all-stored r.reads r.fates r.state wf is.slots is.from_one fit number (r.status told) not),
      all-in-order r.reads r.fates r.state wf is.slots is.from_one fit,
    ))

spent-lawful : (most number : ℕ) (w : Outside) (r : RanWhole most number w) → SpentIsLawful most number w r
spent-lawful most number w r told =
    let is = (r.opens).whole in
    let fit = fit_script _ r.reads (r.given).read in
    ∥∥₁_map is.formed (λ wf. (
      subst (AreWholeOn r.reads r.state (pieces_of r.reads r.fates r.state)) (r.lines told) (all-lawful r.reads r.fates r.state wf is.slots is.from_one fit),
      subst (EndsStored r.reads r.fates r.state) (r.lines told) (ends-stored r.reads r.fates r.state (whole-state r.state wf is.slots is.from_one) fit),
      all-in-order r.reads r.fates r.state wf is.slots is.from_one fit,
    ))

part-lawful : (most : ℕ) (w : Outside) (last : List ℕ) (r : RanInPart most w last) → PartIsLawful most w last r
part-lawful most w last r = (lawful, stored)
  where
    fit : AreFit r.reads
    fit = fit_script _ r.reads (r.given).read

    lawful : IsToldAll w r.reads → ∥ AreLawfulOn r.reads r.state (first_lines (length r.shown) (pieces_of r.reads r.fates r.state)) r.shown × AreInOrder r.reads r.fates r.state ∥₁
    lawful told =
        let is = (r.opens).whole in
        let f = r.front told in
        ∥∥₁_map is.formed (λ wf. (
          lawful-front r.reads r.state (pieces_of r.reads r.fates r.state) (drill r.reads r.fates r.state).0 r.shown (r.unwritten ++ f.0) (all-lawful r.reads r.fates r.state wf is.slots is.from_one fit).lawful (sym f.1),
          all-in-order r.reads r.fates r.state wf is.slots is.from_one fit,
        ))

    stored : w.store.tells → ∥ LeavesStored w.store.disk_after r.reads r.fates r.state (open_world r.state) r.shown ∥₁
    stored tells =
        let is = (r.opens).whole in
        ∥∥₁_map is.formed (λ wf. leaves-stored w.store.disk_after r.reads r.fates r.state (whole-state r.state wf is.slots is.from_one) fit r.shown (open_world r.state) refl (r.left tells))

cut-lawful : (most : ℕ) (w : Outside) (c : IsCut most w) → CutIsLawful most w c
cut-lawful most w (inl part) = (part-lawful most w part.0 part.1, part-kept most w part.0 part.1)
cut-lawful most w (inr refused) = tt

clean-lawful : (most : ℕ) (w : Outside) (c : IsCutClean most w) → CleanIsLawful most w c
clean-lawful most w (inl part) = (part-lawful most w [] part, part-kept most w [] part)
clean-lawful most w (inr silent) = tt

pub drills-lawful : (most : ℕ) (st : Status) (w : Outside) (d : Drilled most st w) → IsLawful most st w d
drills-lawful most own.Done w d = (whole-lawful most 0 w d (λ e. absurd cc), behind-kept most 0 w d, plain-complete most 0 w d)
drills-lawful most own.BadLine w d = (whole-lawful most 3 w d (λ e. absurd cc), behind-kept most 3 w d, plain-complete most 3 w d)
drills-lawful most own.Limit w (inl tells) = tt
drills-lawful most own.Limit w (inr d) = (whole-lawful most 11 w d (λ e. absurd cc), behind-kept most 11 w d, plain-complete most 11 w d)
drills-lawful most own.Spent w d = (spent-lawful most 15 w d, behind-kept most 15 w d, plain-complete most 15 w d)
drills-lawful most own.SinkFault w d = cut-lawful most w d.1
drills-lawful most own.DiskFault w d = clean-lawful most w d.1
drills-lawful most own.NoMemory w (inl cut) = cut-lawful most w cut
drills-lawful most own.NoMemory w (inr silent) = tt
drills-lawful most own.Usage w d = tt
drills-lawful most own.SourceFault w d = tt
drills-lawful most own.BadDisk w d = tt
