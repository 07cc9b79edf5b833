-- The lines of a drill refuse room with counts that are within the number of objects.
use Rattle.std.proofs.Common.{◌≡◌, refl, sym, ap, subst, ◌∙◌, inl, inr, ℕ, List, [], ◌∷◌, ◌++◌, Option}
use Rattle.std.specs.Prelude.{length, Result, Ok, Err}
use Rattle.ec_base.specs.declared.counter.Counter.{Counter}
use Rattle.ec_volume.specs.Volume.{images}
use Rattle.ec_volume.specs.declared.image.Image.TheVariants.{Gone}
use Rattle.ec_history.specs.declared.shown.Shown.{Shown}
use Rattle.ec_durable.specs.WellFormed.{WellFormed}
use Rattle.ec_durable.specs.declared.state.Durable.{Durable}
use Rattle.ec_protocol.specs.Drill.{BadLine, Done, Ending, Fates, IsSpent, Ran, Read, TooMany, bound, close, drill, drill_in, last_line, run_from}
use Rattle.ec_protocol.specs.Drill as machine
use Rattle.ec_protocol.specs.World.{open_world}
use Rattle.ec_protocol.specs.declared.world.World.{World}
use Rattle.ec_lawful.specs.DrillRuns.{AreFit, Closed}
use Rattle.ec_lawful.specs.Headline as headline
use Rattle.ec_lawful.specs.Steps.{HoldsIn}
use Rattle.ec_lawful.proofs.Drills.{drills-on}
use Rattle.ec_lawful.proofs.Worlds.{no-calls, no-lines}
use Rattle.ec_drill.specs.OfPromise.OfRooms.DrillRooms.{AreWithinRoom}
use Rattle.ec_drill.specs.OfPromise.OfRooms.DrillRooms.{DrillsTellRoom}
use Rattle.ec_drill.proofs.OfPromise.OfRooms.Roomy.{K, opened-room, room-kept}

-- the same pieces
pub same-joined : (pieces : List (List Shown)) → headline.joined pieces ≡ machine.joined pieces
same-joined [] = refl
same-joined (p ∷ ps) = ap (λ (ls : List Shown). p ++ ls) (same-joined ps)

more-within : (most : ℕ) (xs ys : List Shown) → AreWithinRoom most xs → AreWithinRoom most ys → AreWithinRoom most (xs ++ ys)
more-within most [] ys h k = k
more-within most (x ∷ xs) ys h k = (h.0, more-within most xs ys h.1 k)

pub front-within : (most : ℕ) (xs ys : List Shown) → AreWithinRoom most (xs ++ ys) → AreWithinRoom most xs
front-within most [] ys h = tt
front-within most (x ∷ xs) ys h = (h.0, front-within most xs ys h.1)

last-within : (most : ℕ) (e : Ending) → AreWithinRoom most (last_line e)
last-within most Done = tt
last-within most (BadLine n k) = (tt, tt)
last-within most (TooMany n) = (tt, tt)
last-within most (IsSpent n) = (tt, tt)

module _ (reads : List Read) (fates : List Fates) (d : Durable) (wf : WellFormed d) (sixteen : length d.sessions ≡ 16) (gone : images d.volume 0 ≡ Gone) (fit : AreFit reads) where
  module _ (w : World) (q : open_world d ≡ Ok w) where
    abbrev r : Ran
    r = close (run_from (bound reads) 1 reads fates w).ending (run_from (bound reads) 1 reads fates w)

    closed : Closed (K d.max_objects (images d.volume)) [] [] reads r
    closed =
        drills-on (K d.max_objects (images d.volume)) (room-kept d.max_objects (images d.volume)) reads fates w (opened-room d wf sixteen gone w q) (no-calls d wf sixteen gone w q) (no-lines d wf sixteen gone w q) fit

    world-within : HoldsIn (K d.max_objects (images d.volume)) r.world → AreWithinRoom d.max_objects r.world.shown
    world-within (g, k, st) = subst (AreWithinRoom d.max_objects) (sym st.shown) k.1.lines

    run-within : AreWithinRoom d.max_objects (machine.joined r.pieces ++ last_line r.ending)
    run-within =
        more-within d.max_objects (machine.joined r.pieces) (last_line r.ending)
        (subst (AreWithinRoom d.max_objects) ((closed.sofar).shown ∙ same-joined r.pieces) (world-within (closed.sofar).holds))
        (last-within d.max_objects r.ending)

  all-within : AreWithinRoom d.max_objects (drill reads fates d).0
  all-within = go (open_world d) refl
    where
      go : (o : Result World Counter) → open_world d ≡ o → AreWithinRoom d.max_objects (drill_in reads fates o).0
      go (Err n) q = (tt, tt)
      go (Ok w) q = run-within w q

pub drills-tell-room : DrillsTellRoom
drills-tell-room reads fates d wf sixteen gone fit = all-within reads fates d wf sixteen gone fit
