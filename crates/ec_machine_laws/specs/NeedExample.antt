-- A cache before and behind grants of the root, and a volume of directories in which each path leads round to the root's first entry.
use Rattle.std.specs.Prelude.{ℕ, zero, suc, List, [], ◌∷◌}
use Rattle.ec_base.specs.declared.ids.Hold.TheVariants.{Read, Write}
use Rattle.ec_volume.specs.Volume.{Images}
use Rattle.ec_volume.specs.declared.image.Image.TheVariants.{Dir}
use Rattle.ec_plain.specs.Walk.{Path}
use Rattle.ec_plain.specs.declared.call.Call.{Call}
use Rattle.ec_plain.specs.declared.call.Call.TheVariants as call
use Rattle.ec_cache.specs.Cache.{empty, take}
use Rattle.ec_cache.specs.declared.state.CacheState.{CacheState}

abbrev pub bare : CacheState
bare = empty 4096

-- the root is held, empty
abbrev pub reading : CacheState
reading = take 1 Read 1 (Dir 493 0 0 []) bare

abbrev pub writing : CacheState
writing = take 1 Write 2 (Dir 493 0 0 []) reading

-- the new object's name is `a`
abbrev pub making : Call
making = call.Create ((97 ∷ []) ∷ [])

-- a path of so many names
abbrev pub names : ℕ → Path
names zero = []
names (suc k) = (97 ∷ []) ∷ names k

abbrev pub paths : ℕ → List Path
paths zero = []
paths (suc k) = names 16 ∷ paths k

-- each object is a directory that names the next one
abbrev pub deep : Images
deep o = Dir 493 0 0 ((97 ∷ [], suc o) ∷ [])

abbrev pub ordering : Call
ordering = call.Forder (paths 8)
