-- Wants that aren't Free.
use Rattle.std.specs.Prelude.{◌≡◌, false, List, [], ◌∷◌}
use Rattle.ec_base.specs.Holds.{is_free}
use Rattle.ec_sessions.specs.declared.recall.want.Want.{Want}

-- No want is Free.
abbrev pub NoneFree : List Want → Type 0
NoneFree [] = Unit {0}
NoneFree (w ∷ ws) = (is_free w.hold ≡ false) × NoneFree ws
