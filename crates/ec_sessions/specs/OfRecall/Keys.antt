-- The keys of wants.
use Rattle.std.specs.Prelude.{◌≡◌, ◌==◌, ℕ, Bool, ◌&&◌, List, [], ◌∷◌, map}
use Rattle.std.specs.List.{IsDistinct}
use Rattle.ec_sessions.specs.declared.recall.want.Want.{Want}

abbrev pub Key : Type 0
Key = ℕ × ℕ

abbrev pub key_of : Want → Key
key_of w = (w.session, w.obj)

abbrev pub same_key : Key → Key → Bool
same_key a b = (a.0 == b.0) && (a.1 == b.1)

-- Each want stands under its key.
abbrev pub IsKeyed : List (Key × Want) → Type 0
IsKeyed [] = Unit {0}
IsKeyed (e ∷ es) = (e.0 ≡ key_of e.1) × IsKeyed es

-- No two wants are of one session for one object.
abbrev pub AreApart : List Want → Type 0
AreApart ws = IsDistinct same_key (map key_of ws)
