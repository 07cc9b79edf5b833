-- Scripts without faults.
use Rattle.std.specs.Prelude.{ℕ, zero, suc, List, [], ◌∷◌, ◌++◌, codes}
use Rattle.ec_plain.specs.declared.call.Call.{Call}
use Rattle.ec_plain.specs.declared.call.Call.TheVariants as call
use Rattle.ec_protocol.specs.Drill.{Read, reads}
use Rattle.ec_protocol.specs.Runs.{A, B, C, D}
use Rattle.ec_protocol.specs.declared.script.Line.TheVariants as line

abbrev pub calls : ℕ → Call → Read
calls c cl = reads (line.Call c cl) 1

abbrev pub pushes : ℕ → ℕ → Read
pushes c n = reads (line.Push c n) 1

-- A file goes between clerks: a writer that makes its work durable first, readers, and a writer that takes their tokens. Then calls that save, and more objects.
abbrev pub shared : List Read
shared =
    calls A (call.Create (codes "f" ∷ []))
    ∷ calls A (call.Write (codes "f" ∷ []) 0 (codes "hi"))
    ∷ calls B (call.Read (codes "f" ∷ []) 0 9)
    ∷ calls C (call.Stat (codes "f" ∷ []))
    ∷ calls A (call.Write (codes "f" ∷ []) 2 (codes "yo"))
    ∷ calls B (call.Fsync (codes "f" ∷ []))
    ∷ calls A (call.Mkdir (codes "d" ∷ []))
    ∷ pushes A 4
    ∷ calls B (call.Create (codes "d" ∷ codes "x" ∷ []))
    ∷ calls A (call.Rename (codes "d" ∷ codes "x" ∷ []) (codes "y" ∷ []))
    ∷ calls B (call.Forder ((codes "f" ∷ []) ∷ (codes "y" ∷ []) ∷ []))
    ∷ pushes B 2
    ∷ calls D call.Sync
    ∷ calls D (call.Remove (codes "y" ∷ []))
    ∷ calls A (call.Fsync (codes "d" ∷ []))
    ∷ calls D call.Sync
    ∷ reads line.Comment 1
    ∷ []

-- There is no room for the ids of a second clerk.
abbrev pub crowded : List Read
crowded =
    calls A (call.Create (codes "f" ∷ []))
    ∷ calls B (call.Create (codes "g" ∷ []))
    ∷ calls B (call.Mkdir (codes "f" ∷ []))
    ∷ calls A (call.Remove (codes "f" ∷ []))
    ∷ []

-- so many operations on the file
abbrev pub touches : ℕ → List Read
touches zero = []
touches (suc n) = calls A (call.Touch (codes "f" ∷ []) n) ∷ touches n

-- More than one batch, for another clerk's call and for the clerk's own.
abbrev pub batches : List Read
batches =
    (calls A (call.Create (codes "f" ∷ [])) ∷ touches 65) ++ (calls B (call.Stat (codes "f" ∷ [])) ∷ touches 66) ++ calls A (call.Fsync (codes "f" ∷ [])) ∷ []
