-- Whether an update may want memory at an operand.
use Rattle.std.specs.Prelude.{◌==◌, ℕ, Bool, true, false, not, ◌&&◌}
use Rattle.ec_volume.specs.declared.update.Update.{Update}
use Rattle.ec_volume.specs.declared.update.Update.TheVariants.{Make, Drop, Move, Put, Len, Mode, Stamp, Order, Shift, Owner}

-- Whether the new image of the operand o may want memory: a directory gets an entry, or a file gets bytes.
abbrev pub wants_room : Update → ℕ → Bool
wants_room (Make dir name obj k) o = o == dir
wants_room (Drop dir name obj k) o = false
wants_room (Move dir from to obj k victim) o = o == dir
wants_room (Put obj at bytes inside) o = true
wants_room (Len obj len) o = true
wants_room (Mode obj mode) o = false
wants_room (Stamp obj stamp) o = false
wants_room (Order objs) o = false
wants_room (Shift dir from into to obj k victim up) o = not (o == dir) && (o == into)
wants_room (Owner obj owner) o = false
