-- What a drill wrote refuses room with counts that are within the number of objects.
use Rattle.std.proofs.Common.{ap, subst, inl, inr, ℕ, List, [], ◌++◌}
use Rattle.std.proofs.Math.Logic.{∥∥₁_map}
use Rattle.ec_drill.specs.Drill.{Outside, Drilled, IsCut, IsCutClean, IsToldAll, RanInPart, RanWhole}
use Rattle.ec_drill.specs.declared.status.Status.{Status}
use Rattle.ec_drill.specs.declared.status.Status.TheVariants as own
use Rattle.ec_drill.specs.OfPromise.OfRooms.DrillRooms.{AreWithinRoom}
use Rattle.ec_drill.proofs.OfPromise.OfRooms.Rooms.{drills-tell-room, front-within}
use Rattle.ec_drill.specs.OfPromise.Rooms.{CleanTellsRoom, CutTellsRoom, PartTellsRoom, RoomIsTold, TellsRoom}
use Rattle.ec_drill.proofs.OfPromise.Fit.{fit_script}

whole-room : (most number : ℕ) (w : Outside) (r : RanWhole most number w) → RoomIsTold w r.reads r.state r.shown
whole-room most number w r told =
    let is = (r.opens).whole in
    ∥∥₁_map is.formed (λ wf. subst (AreWithinRoom r.state.max_objects) (r.lines told) (drills-tell-room r.reads r.fates r.state wf is.slots is.from_one (fit_script _ r.reads (r.given).read)))

part-room : (most : ℕ) (w : Outside) (last : List ℕ) (r : RanInPart most w last) → PartTellsRoom most w last r
part-room most w last r told =
    let is = (r.opens).whole in
    let f = r.front told in
    ∥∥₁_map is.formed (λ wf. front-within r.state.max_objects r.shown (r.unwritten ++ f.0) (subst (AreWithinRoom r.state.max_objects) f.1 (drills-tell-room r.reads r.fates r.state wf is.slots is.from_one (fit_script _ r.reads (r.given).read))))

cut-room : (most : ℕ) (w : Outside) (c : IsCut most w) → CutTellsRoom most w c
cut-room most w (inl part) = part-room most w part.0 part.1
cut-room most w (inr refused) = tt

clean-room : (most : ℕ) (w : Outside) (c : IsCutClean most w) → CleanTellsRoom most w c
clean-room most w (inl part) = part-room most w [] part
clean-room most w (inr silent) = tt

pub drills-told : (most : ℕ) (st : Status) (w : Outside) (d : Drilled most st w) → TellsRoom most st w d
drills-told most own.Done w d = whole-room most 0 w d
drills-told most own.BadLine w d = whole-room most 3 w d
drills-told most own.Limit w (inl tells) = tt
drills-told most own.Limit w (inr d) = whole-room most 11 w d
drills-told most own.Spent w d = whole-room most 15 w d
drills-told most own.SinkFault w d = cut-room most w d.1
drills-told most own.DiskFault w d = clean-room most w d.1
drills-told most own.NoMemory w (inl cut) = cut-room most w cut
drills-told most own.NoMemory w (inr silent) = tt
drills-told most own.Usage w d = tt
drills-told most own.SourceFault w d = tt
drills-told most own.BadDisk w d = tt
