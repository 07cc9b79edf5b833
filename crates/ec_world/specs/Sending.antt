-- Messages of the pool.
use Rattle.std.specs.Prelude.{◌≡◌, ℕ, Bool, Some}
use Rattle.ec_base.specs.Tables.{Table, at}
use Rattle.ec_protocol.specs.World.{is_for_server}
use Rattle.ec_protocol.specs.declared.world.Sent.{Sent}

-- The message is kept, and is for the server, or isn't.
pub record IsFor (server : Bool) (n : ℕ) (pool : Table Sent) : Type 0 where
  pub message : Sent
  pub kept : at n pool ≡ Some message
  pub is_for : is_for_server message ≡ server
