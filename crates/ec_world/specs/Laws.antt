-- What follows for a world that is in step with its disk.
use Rattle.std.proofs.Common.{sym, subst, ℕ, List, Option}
use Rattle.ec_disk.specs.Disk.{View}
use Rattle.ec_disk.specs.Effects.{Rests}
use Rattle.ec_stands.specs.Stands.{StandsFor}
use Rattle.ec_server.specs.declared.server.Server.{Server}
use Rattle.ec_store.specs.Store.{IsHeld, StoreHolds, view_of as state_of}
use Rattle.ec_store.specs.declared.store.Store.{Store}
use Rattle.ec_marking.specs.Held.{held_stands}
use Rattle.ec_world.specs.declared.world.World.{World}
use Rattle.ec_world.specs.Worlds.{view_of, ServerStands, IsInStep, KeepsServer}

-- a call of the disk that writes nothing
pub held_rests : (old new : View) (s : Store) → Rests old new → IsHeld old s → IsHeld new s
held_rests old new s rests h = record {
  layout = h.layout;
  base = h.base;
  places = h.places;
  on = record { side = h.on.side; journal = h.on.journal; laid = λ image left. h.on.laid image (rests.crash image left) };
  checkpoint = h.checkpoint;
  steps = h.steps;
  formed = h.formed;
  keeps = h.keeps;
  rest = h.rest;
}

pub in_step_rests : (tells : Type 0) (old new : View) (w : World) → (tells → Rests old new) → IsInStep tells old w → IsInStep tells new w
in_step_rests tells old new w rests h = record { server = h.server; disk = λ told. held_rests old new w.store (rests told) (h.disk told) }

pub in_step_stands : (tells : Type 0) (now : View) (w : World) → IsInStep tells now w → tells → (image : List ℕ) → now.may_leave image → StandsFor image (view_of w).durable
in_step_stands tells now w h told image left = held_stands now w.store (h.disk told) image left

-- a change of the world that keeps its store and its server
pub in_step_keeps : (tells : Type 0) (now : View) (old new : World) → KeepsServer old new → IsInStep tells now old → IsInStep tells now new
in_step_keeps tells now old new same h = record {
  server =
      let to : Store → Option Server → Type 0 = λ s v. ServerStands (state_of s) v in
      subst (λ (v : Option Server). to new.store v) (sym same.server) (subst (λ (s : Store). to s old.server) (sym same.store) h.server);
  disk = λ told. subst (λ (s : Store). IsHeld now s) (sym same.store) (h.disk told);
}
