use Rattle.ec_volume.proofs.update.Update.sound.Goals as goal

pub returns-in-Shift : goal.returns-in-Shift
returns-in-Shift c = rw c.in-Shift.is (rw c.as_slice.ensures at c.is_shift_sound.ensures)
