-- Whether a server runs.
use Rattle.std.proofs.Common.{◌≡◌, Bool, Option, None, Some, true, false, not, refl}
use Rattle.std.specs.Prelude.{is_some, is_none}
use Rattle.ec_durable.specs.declared.state.Durable.{Durable}
use Rattle.ec_server.specs.declared.server.Server.{Server}
use Rattle.ec_world.specs.Worlds.{server_of}

pub runs_is : (d : Durable) (s : Option Server) → is_some (server_of d s) ≡ is_some s
runs_is d None = refl
runs_is d (Some s) = refl

pub stopped_is : (d : Durable) (s : Option Server) (stopped : Bool) → is_some s ≡ not stopped → stopped ≡ is_none (server_of d s)
stopped_is d None true is = refl
stopped_is d None false is = cc
stopped_is d (Some s) true is = cc
stopped_is d (Some s) false is = refl
