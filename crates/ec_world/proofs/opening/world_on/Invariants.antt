use Rattle.std.proofs.Common.{◌≡◌, ◌-◌, [], ◌∷◌}
use Rattle.ec_disk.specs.Effects.{Counted}
use Rattle.ec_durable.specs.declared.record.Record.TheVariants as record_of
use Rattle.ec_protocol.specs.Server as machine
use Rattle.ec_protocol.specs.World.{clerks}
use Rattle.ec_server.specs.Servers.{standing, StandsOn}
use Rattle.ec_sessions.specs.Slots.{run}
use Rattle.ec_store.specs.Store.{IsHeld, view_of}
use Rattle.ec_world.proofs.Ends.{ends}
use Rattle.ec_world.proofs.opening.world_on.Given as goal

abbrev pub invariant-clerks : goal.invariant-clerks
invariant-clerks g l =
    (ends (run l.number (16 - l.number)) (standing (view_of l.store) l.server) l.records.items ≡ ends clerks (machine.start (view_of l.fn.store)).server (record_of.Epoch (machine.start (view_of l.fn.store)).server.durable.epoch ∷ []))
    × StandsOn (view_of l.store) l.server
    × (g.D.Disk.tells → IsHeld (g.D.Disk.view l.disk) l.store)
    × Counted (g.D.Disk.counts l.fn.disk) (g.D.Disk.counts l.disk) ⊥ ⊥
