-- What a line of a script without faults makes durable: of its own clerk what its call or its push is for, and of another clerk what is on an object that its call touches.
use Rattle.std.specs.Prelude.{Option, None, Some}
use Rattle.ec_volume.specs.Volume.{Images}
use Rattle.ec_plain.specs.Walk.{At, Not, walk}
use Rattle.ec_plain.specs.declared.call.Call.{Call}
use Rattle.ec_plain.specs.declared.call.Call.TheVariants.{Fsync, Sync}
use Rattle.ec_log.specs.declared.state.Asked.{Asked}
use Rattle.ec_log.specs.declared.state.Asked.TheVariants.{Object, All}

-- What a line asks for.

-- what a call is to make durable: an fsync the object that its path reaches on this volume, a sync all, any other call nothing
abbrev pub saved_by : Images → Call → Option Asked
saved_by v (Fsync p) = elim ((walk v p).to) [ At x ↦ Some (Object x) | Not r ↦ None ]
saved_by v Sync = Some All
saved_by v _ = None
