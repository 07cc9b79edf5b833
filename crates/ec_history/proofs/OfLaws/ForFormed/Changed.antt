-- What an update that is sound and fits makes of a well-formed volume's entries.
use Rattle.std.proofs.Common.{T, ◌==◌, ◌||◌, false, [], ◌∷◌}
use Rattle.ec_volume.specs.Image.{with_bytes, with_mode, with_stamp, with_owner, resized, overwritten}
use Rattle.ec_volume.specs.Update.{has_operand, is_sound}
use Rattle.ec_volume.specs.Volume.{Images, after, Fits, WellFormed}
use Rattle.ec_volume.specs.declared.update.Update.{Update}
use Rattle.ec_volume.specs.declared.update.Update.TheVariants.{Make, Drop, Move, Put, Len, Mode, Stamp, Order, Shift, Owner}
use Rattle.ec_history.proofs.OfLaws.ForFormed.Change.{Change, New, Stay}
use Rattle.ec_history.proofs.OfLaws.ForFormed.SameFrames.{same-entries, same-frame, same-frame-self, bytes-frame, mode-frame, stamp-frame, owner-frame}
use Rattle.ec_history.proofs.OfLaws.ForFormed.Made.{make-changed}
use Rattle.ec_history.proofs.OfLaws.ForFormed.Dropped.{drop-changed}
use Rattle.ec_history.proofs.OfLaws.ForFormed.Moved.{move-changed}
use Rattle.ec_history.proofs.OfLaws.ForFormed.Shifted.{shift-changed}

pub changed : (v : Images) (u : Update) → WellFormed v → T (is_sound u) → Fits v (u ∷ []) → Change v (after v (u ∷ [])) (New u) (Stay u)
changed v (Make dir name obj k) f s t = make-changed dir obj name k v f s t
changed v (Drop dir name obj k) f s t = drop-changed dir obj name k v f s t
changed v (Move dir from to obj k victim) f s t = move-changed dir from to obj k victim v f s t
changed v (Shift dir from into to obj k victim up) f s t = shift-changed dir from into to obj k victim up v f s t
changed v (Put obj at bytes inside) f s t =
    same-entries v (after v (Put obj at bytes inside ∷ [])) (λ o. same-frame ((o == obj) || false) (v o) (with_bytes (overwritten at bytes) (v o)) (bytes-frame (overwritten at bytes) (v o))) f
changed v (Len obj len) f s t = same-entries v (after v (Len obj len ∷ [])) (λ o. same-frame ((o == obj) || false) (v o) (with_bytes (resized len) (v o)) (bytes-frame (resized len) (v o))) f
changed v (Mode obj mode) f s t = same-entries v (after v (Mode obj mode ∷ [])) (λ o. same-frame ((o == obj) || false) (v o) (with_mode mode (v o)) (mode-frame mode (v o))) f
changed v (Stamp obj stamp) f s t = same-entries v (after v (Stamp obj stamp ∷ [])) (λ o. same-frame ((o == obj) || false) (v o) (with_stamp stamp (v o)) (stamp-frame stamp (v o))) f
changed v (Order objs) f s t = same-entries v (after v (Order objs ∷ [])) (λ o. same-frame (has_operand o (Order objs)) (v o) (v o) (same-frame-self (v o))) f
changed v (Owner obj owner) f s t = same-entries v (after v (Owner obj owner ∷ [])) (λ o. same-frame ((o == obj) || false) (v o) (with_owner owner (v o)) (owner-frame owner (v o))) f
