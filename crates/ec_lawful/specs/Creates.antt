-- In a history the id at the place of each call is new: no call before made an object with it.
use Rattle.std.specs.Prelude.{Bool, true, false}
use Rattle.ec_plain.specs.declared.call.Call.{Call}
use Rattle.ec_plain.specs.declared.call.Call.TheVariants as call

-- calls that make an object, where they are carried out
abbrev pub creates : Call → Bool
creates (call.Mkdir path) = true
creates (call.Create path) = true
creates _ = false
