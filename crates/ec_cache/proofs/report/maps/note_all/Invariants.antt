use Rattle.std.proofs.Common.{◌≡◌, ◌-◌, ◌∷◌, ◌++◌, [], ℕ, length, take, cond}
use Rattle.ec_volume.specs.Update.{member}
use Rattle.ec_cache.specs.OfReport.Index.{ops_at}
use Rattle.ec_cache.proofs.report.maps.note_all.Given as goal

abbrev pub invariant-loop-place : goal.invariant-loop-place
invariant-loop-place l = (x : ℕ) → ops_at x l.places ≡ ops_at x l.fn.places ++ cond (member x (take l.place l.objs)) (l.op ∷ []) []

abbrev pub decreases-loop-place : goal.decreases-loop-place
decreases-loop-place l = length l.objs - l.place
