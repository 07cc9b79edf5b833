-- Slots for the modes down to which tokens under recall count: each held object has one, with a mode in it or without.
use Rattle.std.specs.Prelude.{ℕ, [], ◌∷◌, map, Option, None, Some}
use Rattle.ec_base.specs.Tables.{Table}

abbrev pub with_mark : {Y : Type 0} → ℕ → Option Y → Table Y → Table Y
with_mark k None es = es
with_mark k (Some y) es = (k, y) ∷ es

-- the slots with something in them
abbrev pub marks : {Y : Type 0} → Table (Option Y) → Table Y
marks [] = []
marks (e ∷ es) = with_mark e.0 e.1 (marks es)

-- what stands in a slot, if there is one
abbrev pub joined : {Y : Type 0} → Option (Option Y) → Option Y
joined None = None
joined (Some o) = o

-- the same slots with nothing in them
abbrev pub emptied : {Y : Type 0} → Table (Option Y) → Table (Option Y)
emptied es = map (λ e. (e.0, None)) es
