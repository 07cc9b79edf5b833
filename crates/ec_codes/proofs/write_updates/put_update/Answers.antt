use Rattle.std.proofs.Common.{◌≡◌, subst, true}
use Rattle.ec_volume.specs.Update.{is_sound}
use Rattle.ec_codes.specs.SoundLaws.{shift_parts}
use Rattle.ec_codes.proofs.write_updates.put_update.Goals as goal

pub put_shift-requires-clause-way : goal.put_shift-requires-clause-way
put_shift-requires-clause-way c =
    let s = c.in-Shift in
    rw c.as_slice-in-Shift.ensures (shift_parts s.dir s.into s.obj s.kind s.victim s.up (subst (λ u. is_sound u ≡ true) s.is c.requires)).1
