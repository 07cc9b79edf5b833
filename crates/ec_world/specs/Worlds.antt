-- What the machine sees of the code's world, and what holds of it and its disk between steps.
use Rattle.std.specs.Prelude.{◌≡◌, Option, None, Some}
use Rattle.ec_disk.specs.Disk.{View}
use Rattle.ec_durable.specs.declared.state.Durable.{Durable}
use Rattle.ec_protocol.specs.declared.server.Server.{Server as ServerState}
use Rattle.ec_protocol.specs.declared.world.World.{World as State}
use Rattle.ec_server.specs.Servers.{standing, StandsOn}
use Rattle.ec_server.specs.declared.server.Server.{Server}
use Rattle.ec_store.specs.Store as store
use Rattle.ec_world.specs.declared.world.World.{World}

-- the machine's server, where one runs on this state
abbrev pub server_of : Durable → Option Server → Option ServerState
server_of d None = None
server_of d (Some s) = Some (standing d s)

-- the machine's world
abbrev pub view_of : World → State
view_of w =
    record {
      durable = store.view_of w.store;
      server = server_of (store.view_of w.store) w.server;
      unshown = w.unshown;
      choice = w.choice;
      clerks = w.clerks;
      boots = w.boots;
      calls = w.calls;
      sent = w.pool.sent;
      counts = w.pool.counts;
      pool = w.pool.pool;
      pending = w.pool.pending;
      cut = w.pool.cut;
      shown = w.lines;
      records = w.records.items;
    }

abbrev pub ServerStands : Durable → Option Server → Type 0
ServerStands d None = Unit {0}
ServerStands d (Some s) = StandsOn d s

-- Between steps: the running server stands on the store's state, and the disk, where it tells, holds what the store has.
pub record IsInStep (tells : Type 0) (now : View) (w : World) : Type 0 where
  pub server : ServerStands (store.view_of w.store) w.server
  pub disk : tells → store.IsHeld now w.store

-- The store and the server are as before: what is in step stays so.
pub record KeepsServer (old new : World) : Type 0 where
  pub store : new.store ≡ old.store
  pub server : new.server ≡ old.server
