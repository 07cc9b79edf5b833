-- What a drill wrote tells no spent counter but those of boots, sessions, epochs and ids.
use Rattle.std.proofs.Common.{arith, subst, inl, inr, ◌≤◌, ℕ, List, [], ◌++◌, length}
use Rattle.ec_durable.specs.declared.state.Durable.{Durable}
use Rattle.ec_script.specs.Lines.{lines_of}
use Rattle.ec_protocol.specs.Drill.{Fates, Read, drill}
use Rattle.ec_drill.specs.OfPromise.OfSpent.SpentDrills.{AllSpendFew, most_lines}
use Rattle.ec_drill.proofs.OfPromise.OfSpent.Drills.{drills-spend-few, front-few}
use Rattle.ec_drill.specs.Drill.{Outside, Drilled, IsCut, IsCutClean, IsGiven, RanInPart, RanWhole}
use Rattle.ec_drill.specs.declared.status.Status.{Status}
use Rattle.ec_drill.specs.declared.status.Status.TheVariants as own
use Rattle.ec_drill.specs.OfPromise.Spent.{CleanTellsSpent, CutTellsSpent, PartTellsSpent, SpentIsTold, TellsSpent}
use Rattle.ec_drill.proofs.OfPromise.Named.{few-named}
use Rattle.ec_drill.proofs.Given.{as_many as as-many}

-- the machine's drill over the script
machine-spent : (w : Outside) (reads : List Read) (given : IsGiven w.source reads) (fates : List Fates) (d : Durable) → AllSpendFew (drill reads fates d).0
machine-spent w reads given fates d = drills-spend-few reads fates d few (few-named (lines_of given.script) reads given.read)
  where
    few : length reads ≤ most_lines
    few = omega (arith, as-many (lines_of given.script) reads given.read, given.few_lines)

whole-spent : (most number : ℕ) (w : Outside) (r : RanWhole most number w) → SpentIsTold w r.reads r.shown
whole-spent most number w r told = subst AllSpendFew (r.lines told) (machine-spent w r.reads r.given r.fates r.state)

part-spent : (most : ℕ) (w : Outside) (last : List ℕ) (r : RanInPart most w last) → PartTellsSpent most w last r
part-spent most w last r told =
    let f = r.front told in
    front-few r.shown (r.unwritten ++ f.0) (subst AllSpendFew f.1 (machine-spent w r.reads r.given r.fates r.state))

cut-spent : (most : ℕ) (w : Outside) (c : IsCut most w) → CutTellsSpent most w c
cut-spent most w (inl part) = part-spent most w part.0 part.1
cut-spent most w (inr refused) = tt

clean-spent : (most : ℕ) (w : Outside) (c : IsCutClean most w) → CleanTellsSpent most w c
clean-spent most w (inl part) = part-spent most w [] part
clean-spent most w (inr silent) = tt

pub drills-spent : (most : ℕ) (st : Status) (w : Outside) (d : Drilled most st w) → TellsSpent most st w d
drills-spent most own.Done w d = whole-spent most 0 w d
drills-spent most own.BadLine w d = whole-spent most 3 w d
drills-spent most own.Limit w (inl tells) = tt
drills-spent most own.Limit w (inr d) = whole-spent most 11 w d
drills-spent most own.Spent w d = whole-spent most 15 w d
drills-spent most own.SinkFault w d = cut-spent most w d.1
drills-spent most own.DiskFault w d = clean-spent most w d.1
drills-spent most own.NoMemory w (inl cut) = cut-spent most w cut
drills-spent most own.NoMemory w (inr silent) = tt
drills-spent most own.Usage w d = tt
drills-spent most own.SourceFault w d = tt
drills-spent most own.BadDisk w d = tt
