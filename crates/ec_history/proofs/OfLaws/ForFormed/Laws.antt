-- The laws of updates and of calls, as histories take them.
use Rattle.std.proofs.Common.{◌≡◌, ℕ, T, List, [], ◌∷◌, Some}
use Rattle.std.specs.List.{list_all}
use Rattle.ec_volume.specs.Image.{is_gone}
use Rattle.ec_volume.specs.Update.{is_sound}
use Rattle.ec_volume.specs.Volume.{Images, after, Fits, WellFormed, AllReached}
use Rattle.ec_volume.specs.declared.update.Update.{Update}
use Rattle.ec_plain.specs.Plain.{plain}
use Rattle.ec_plain.specs.BoundedCalls.{is_bounded}
use Rattle.ec_plain.specs.declared.call.Call.{Call}
use Rattle.ec_history.proofs.OfLaws.ForFormed.Changed.{changed}
use Rattle.ec_history.proofs.OfLaws.ForFormed.Reached.{reached_all}
use Rattle.ec_history.proofs.OfLaws.ForFormed.Renamed.{rename-fine}
use Rattle.ec_history.proofs.OfLaws.ForFormed.Planned.{call-fine}

pub kept-reached : (v : Images) (us : List Update) → WellFormed v → AllReached v → T (list_all is_sound us) → Fits v us → AllReached (after v us)
kept-reached = reached_all changed

pub call-sound : (v : Images) (cl : Call) (fresh : ℕ) (u : Update) → WellFormed v → T (is_gone (v fresh)) → T (is_bounded cl) → (plain v cl fresh).update ≡ Some u → T (is_sound u)
call-sound v cl fresh u f gone bounded e = (call-fine v f (rename-fine v f) cl fresh gone u e).sound bounded

pub call-fits : (v : Images) (cl : Call) (fresh : ℕ) (u : Update) → WellFormed v → T (is_gone (v fresh)) → (plain v cl fresh).update ≡ Some u → Fits v (u ∷ [])
call-fits v cl fresh u f gone e = (call-fine v f (rename-fine v f) cl fresh gone u e).fitting
