use Rattle.std.proofs.lemmas.Result.{on_ok_weaker}
use Rattle.ec_log.proofs.OfChains.Taken.{one-awaited}
use Rattle.ec_log.specs.OfChains.Slots.{placed}
use Rattle.ec_log.proofs.chains.walking.await_one.Goals as goal

pub returns-in-Some : goal.returns-in-Some
returns-in-Some c = on_ok_weaker c.insert.result (λ e. one-awaited c.args.obj c.in-Some.place (placed c.args.held.now) c.args.places.now c.insert.new.self e c.in-Some.ensures) c.insert.ensures.ok
