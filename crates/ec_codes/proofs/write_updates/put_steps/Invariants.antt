use Rattle.std.proofs.Common.{◌≡◌, ◌++◌, take, true}
use Rattle.std.specs.List.{flat_map, list_all}
use Rattle.ec_codes.specs.Updates.{step_spell}
use Rattle.ec_codes.specs.SoundLaws.{is_step}
use Rattle.ec_codes.proofs.write_updates.put_steps.Given as goal

abbrev pub invariant-loop-step : goal.invariant-loop-step
invariant-loop-step l =
    (l.out.items ≡ l.fn.out.items ++ flat_map step_spell (take l.step-index l.up)) × (list_all is_step (take l.step-index l.up) ≡ true)
