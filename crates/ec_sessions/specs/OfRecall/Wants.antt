-- The wants that wait, in the order of arrival.
use Rattle.std.specs.Prelude.{◌==◌, ℕ, Bool, ◌&&◌, if◌then◌else◌, List, [], ◌∷◌}
use Rattle.ec_base.specs.declared.ids.Hold.{Hold}
use Rattle.ec_base.specs.Holds.{stronger}
use Rattle.ec_sessions.specs.declared.recall.want.Want.{Want}

-- The want is this session's for this object.
abbrev pub is_of : ℕ → ℕ → Want → Bool
is_of s x w = (s == w.session) && (x == w.obj)

-- A further noting leaves the stronger want at its place, and none of its recalls is told any more.
abbrev pub noted : ℕ → ℕ → Hold → List Want → List Want
noted s x h [] = record { session = s; obj = x; hold = h; told = [] } ∷ []
noted s x h (w ∷ ws) = if is_of s x w then record w { hold = stronger w.hold h; told = [] } ∷ ws else w ∷ noted s x h ws
