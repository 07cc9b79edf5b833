-- The modes of a token, in the order Free, Read, Write.
use Rattle.std.specs.Prelude.{ℕ, Bool, true, false, not, ◌&&◌, ◌||◌, if◌then◌else◌, nat_lt}
use Rattle.ec_base.specs.declared.ids.Hold.{Hold}
use Rattle.ec_base.specs.declared.ids.Hold.TheVariants.{Free, Read, Write}

abbrev pub is_free : Hold → Bool
is_free Free = true
is_free _ = false

abbrev pub is_write : Hold → Bool
is_write Write = true
is_write _ = false

abbrev pub rank : Hold → ℕ
rank Free = 0
rank Read = 1
rank Write = 2

abbrev pub is_below : Hold → Hold → Bool
is_below a b = nat_lt (rank a) (rank b)

abbrev pub stronger : Hold → Hold → Hold
stronger a b = if is_below a b then b else a

abbrev pub weaker : Hold → Hold → Hold
weaker a b = if is_below a b then a else b

-- Of two sessions on one object: one is Write and the other isn't Free.
abbrev pub clash : Hold → Hold → Bool
clash a b = (is_write a && not (is_free b)) || (is_write b && not (is_free a))
