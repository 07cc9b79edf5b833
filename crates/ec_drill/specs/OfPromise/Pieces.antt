-- The pieces in which a run shows its lines.
use Rattle.std.specs.Prelude.{◌-◌, ℕ, nat_lt, if◌then◌else◌, List, [], ◌∷◌, length, take, Result, Ok, Err}
use Rattle.ec_base.specs.declared.counter.Counter.{Counter}
use Rattle.ec_durable.specs.declared.state.Durable.{Durable}
use Rattle.ec_protocol.specs.Drill.{Fates, Ran, Read, bound, close, run_from}
use Rattle.ec_protocol.specs.World.{open_world}
use Rattle.ec_protocol.specs.declared.world.World.{World}
use Rattle.ec_lawful.specs.Headline.{Pieces}

-- One for each line carried out, one for a line that ended the run, and one for the restart at the end, if there is one. There is none where the opening would
-- have spent a counter.
abbrev pub pieces_in : List Read → List Fates → Result World Counter → Pieces
pieces_in reads fates (Err n) = []
pieces_in reads fates (Ok start) = let ran : Ran = run_from (bound reads) 1 reads fates start in (close ran.ending ran).pieces

-- those of a run over this state
abbrev pub pieces_of : List Read → List Fates → Durable → Pieces
pieces_of reads fates d = pieces_in reads fates (open_world d)

-- The pieces of the first so many lines of these: the last one may be a front of a piece.
abbrev pub first_lines : ℕ → Pieces → Pieces
first_lines n [] = []
first_lines n (p ∷ ps) = if nat_lt n (length p) then take n p ∷ [] else p ∷ first_lines (n - length p) ps
