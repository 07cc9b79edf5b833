use Rattle.std.proofs.Common.{subst, ℕ}
use Rattle.std.specs.Prelude.{OnOk}
use Rattle.ec_server.specs.Servers.{standing}
use Rattle.ec_store.specs.Store.{view_of}
use Rattle.ec_world.specs.Opening.{EndsOne}
use Rattle.ec_world.proofs.opening.end_numbered.Goals as goal

pub returns-clause-ok : goal.returns-clause-ok
returns-clause-ok g c =
    subst (λ (n : ℕ). OnOk c.end_open.result (EndsOne n (standing (view_of c.args.store.now) c.args.server.now) (standing (view_of c.end_open.new.store) c.end_open.new.server) c.args.records.now.items c.end_open.new.records.items))
    c.in-Some.ensures.some c.end_open.ensures.ok
