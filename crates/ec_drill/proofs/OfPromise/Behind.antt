-- What a run without faults made durable is what its lines asked for.
use Rattle.std.proofs.Common.{◌≡◌, refl, sym, ap, ◌∙◌, subst, arith, ◌≤◌, ◌+◌, ℕ, List, [], ◌∷◌, ◌++◌, length, Result, Ok, Err, inl, inr, ◌⊎◌, append-nil}
use Rattle.std.proofs.Math.Logic.{∥∥₁_map}
use Rattle.std.proofs.lemmas.List.{length-append}
use Rattle.ec_base.specs.Tables.{once}
use Rattle.ec_base.specs.declared.counter.Counter.{Counter}
use Rattle.ec_volume.specs.Volume.{images}
use Rattle.ec_volume.specs.declared.image.Image.TheVariants.{Gone}
use Rattle.ec_history.specs.History.{Each}
use Rattle.ec_history.specs.declared.shown.Shown.{Shown}
use Rattle.ec_history.specs.declared.shown.Shown.TheVariants as show
use Rattle.ec_durable.specs.WellFormed.{WellFormed}
use Rattle.ec_durable.specs.declared.state.Durable.{Durable}
use Rattle.ec_script.specs.Lines.{lines_of}
use Rattle.ec_protocol.specs.World.{open_world}
use Rattle.ec_protocol.specs.Drill.{Fates, Ran, Read, bound, close, drill, drill_in, joined, last_line, named_in, run_from}
use Rattle.ec_protocol.specs.declared.world.World.{World}
use Rattle.ec_lawful.specs.Headline.{IsGreatest}
use Rattle.ec_lawful.specs.Headline as headline
use Rattle.ec_lawful.specs.Drills.{lines_in}
use Rattle.ec_lawful.specs.DrillRuns.{AreFit}
use Rattle.ec_lawful.specs.Runs.{RunShows}
use Rattle.ec_lawful.proofs.Shows.{runs-show}
use Rattle.ec_world.specs.Steps.{Opens}
use Rattle.ec_drill.specs.Drill.{AreStops, IsGiven, Outside, RanInPart, RanWhole}
use Rattle.ec_quiet.specs.OfDeliveries.Runs.{AllRun}
use Rattle.ec_complete.specs.Complete.{IsFaultlessRead}
use Rattle.ec_complete.specs.Pieces.{ArePiecesBehind}
use Rattle.ec_complete.specs.RunsBehind.{WritesBehind}
use Rattle.ec_complete.proofs.Drills.{disks-behind}
use Rattle.ec_drill.specs.OfPromise.Behind.{AreBehindOn, BehindIsKept, DrillsAreBehind, PartIsKept}
use Rattle.ec_drill.specs.OfPromise.Pieces.{first_lines, pieces_in, pieces_of}
use Rattle.ec_drill.proofs.OfPromise.Cut.{cut-front, first-all, first-are, first-behind, first-numbered}
use Rattle.ec_drill.proofs.OfPromise.Calm.{all-run}
use Rattle.ec_drill.proofs.OfPromise.Fit.{fit_script}
use Rattle.ec_drill.proofs.OfPromise.Greatest.{greatest-id}
use Rattle.ec_drill.proofs.OfPromise.Moments.{one-last}
use Rattle.ec_drill.proofs.OfPromise.Named.{few-named}
use Rattle.ec_drill.proofs.Given.{as_many as as-many}
use Rattle.ec_drill.proofs.OfPromise.OfRooms.Rooms.{same-joined}

module _ (reads : List Read) (fs : List Fates) (d : Durable) (formed : WellFormed d) (slots : length d.sessions ≡ 16) (zero : images d.volume 0 ≡ Gone) (few : length reads ≤ 65536) (sixteen : length (once (named_in reads)) ≤ 16) (fit : AreFit reads) (faultless : Each IsFaultlessRead reads) (all : Each AllRun fs) where
  highest : (n : ℕ) × IsGreatest (images d.volume) n
  highest = greatest-id d formed

  unopened : (n : Counter) → AreBehindOn reads d [] (show.Spent n ∷ [])
  unopened n = record { told = []; last = show.Spent n ∷ []; written = refl; at_most_one = omega arith; why = (tt, tt); in_pieces = refl; numbered = tt; top = highest.0; greatest = highest.1; behind = tt }

  module _ (w : World) (o : open_world d ≡ Ok w) where
    abbrev ran : Ran
    ran = run_from (bound reads) 1 reads fs w

    abbrev closed : Ran
    closed = close ran.ending ran

    shows : RunShows (images d.volume) highest.0 d.max_objects reads closed
    shows = runs-show d formed slots zero w o reads fs fit highest.0 highest.1

    writes : WritesBehind (headline.placed_on (images d.volume) highest.0) (lines_in reads) [] ran × (closed ≡ ran)
    writes = disks-behind d formed slots zero w o highest.0 highest.1.least reads fs few sixteen fit faultless all

    opened : AreBehindOn reads d closed.pieces (joined closed.pieces ++ last_line closed.ending)
    opened = record {
      told = headline.joined closed.pieces;
      last = last_line closed.ending;
      written = ap (λ (ls : List Shown). ls ++ last_line closed.ending) (sym (same-joined closed.pieces));
      at_most_one = (one-last closed.ending).0;
      why = (one-last closed.ending).1;
      in_pieces = refl;
      numbered = shows.numbered;
      top = highest.0;
      greatest = highest.1;
      behind = subst (λ (r : Ran). ArePiecesBehind (headline.placed_on (images d.volume) highest.0) (lines_in reads) [] r.pieces) (sym writes.1) writes.0.pieces;
    }

  pub machine-behind : AreBehindOn reads d (pieces_of reads fs d) (drill reads fs d).0
  machine-behind = go (open_world d) refl
    where
      go : (o : Result World Counter) → open_world d ≡ o → AreBehindOn reads d (pieces_in reads fs o) (drill_in reads fs o).0
      go (Err n) e = unopened n
      go (Ok w) e = opened w e

pub machines-behind : DrillsAreBehind
machines-behind reads fs d formed slots zero few sixteen fit faultless all = machine-behind reads fs d formed slots zero few sixteen fit faultless all

-- So is a front of its lines.
behind-cut : (reads : List Read) (state : Durable) (pieces : headline.Pieces) (all xs more : List Shown) → AreBehindOn reads state pieces all → xs ++ more ≡ all → AreBehindOn reads state (first_lines (length xs) pieces) xs
behind-cut reads state pieces all xs more a e = go (cut-front xs more a.told a.last (e ∙ a.written) a.at_most_one)
  where
    few : (a b n : ℕ) → n ≡ a + b → a ≤ n
    few a b n is = omega (arith, is)

    go : ((rest : List Shown) × (xs ++ rest ≡ a.told)) ⊎ (xs ≡ a.told ++ a.last) → AreBehindOn reads state (first_lines (length xs) pieces) xs
    go (inr q) =
        let whole = first-all (length xs) pieces (subst (λ ls. length ls ≤ length xs) a.in_pieces (few (length a.told) (length a.last) (length xs) (ap length q ∙ length-append a.told a.last))) in
        subst (λ ps. AreBehindOn reads state ps xs) (sym whole)
        (record { told = a.told; last = a.last; written = q; at_most_one = a.at_most_one; why = a.why; in_pieces = a.in_pieces; numbered = a.numbered; top = a.top; greatest = a.greatest; behind = a.behind })
    go (inl (rest, q)) = record {
      told = xs;
      last = [];
      written = sym (append-nil xs);
      at_most_one = omega arith;
      why = tt;
      in_pieces = first-are xs rest pieces (q ∙ a.in_pieces);
      numbered = first-numbered (length xs) 1 [] pieces a.numbered;
      top = a.top;
      greatest = a.greatest;
      behind = first-behind (headline.placed_on (images state.volume) a.top) (length xs) (lines_in reads) [] pieces a.behind;
    }

module _ (most : ℕ) (w : Outside) (reads : List Read) (given : IsGiven w.source reads) (state : Durable) (opens : Opens w.store.tells w.store.disk.gives most state) (fs : List Fates) (stopped : AreStops w reads fs) where
  fit : AreFit reads
  fit = fit_script (lines_of given.script) reads given.read

  few : length reads ≤ 65536
  few = omega (arith, as-many (lines_of given.script) reads given.read, given.few_lines)

  all-kept : Each IsFaultlessRead reads → WellFormed state → AreBehindOn reads state (pieces_of reads fs state) (drill reads fs state).0
  all-kept faultless formed = machine-behind reads fs state formed opens.whole.slots opens.whole.from_one few (few-named (lines_of given.script) reads given.read) fit faultless (all-run w reads fs stopped faultless)

pub behind-kept : (most number : ℕ) (w : Outside) (r : RanWhole most number w) → BehindIsKept most number w r
behind-kept most number w r tells faultless =
    ∥∥₁_map r.opens.whole.formed (λ formed. subst (AreBehindOn r.reads r.state (pieces_of r.reads r.fates r.state)) (r.lines (inl (inl tells))) (all-kept most w r.reads r.given r.state r.opens r.fates r.stopped faultless formed))

pub part-kept : (most : ℕ) (w : Outside) (last : List ℕ) (r : RanInPart most w last) → PartIsKept most w last r
part-kept most w last r tells faultless =
    let f = r.front (inl (inl tells)) in
    ∥∥₁_map r.opens.whole.formed (λ formed. behind-cut r.reads r.state (pieces_of r.reads r.fates r.state) (drill r.reads r.fates r.state).0 r.shown (r.unwritten ++ f.0) (all-kept most w r.reads r.given r.state r.opens r.fates r.stopped faultless formed) (sym f.1))
