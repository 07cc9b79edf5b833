-- All facts where the server stops in a step, and where it is restarted, for each fate of the disk.
use Rattle.std.proofs.Common.{◌≡◌, subst, Some, None}
use Rattle.ec_durable.specs.declared.record.Record.{Record}
use Rattle.ec_protocol.specs.Server.{Serving, start}
use Rattle.ec_protocol.specs.World.{Fate, committed, restart, stops_with, stops_without}
use Rattle.ec_protocol.specs.declared.server.Server.{Server}
use Rattle.ec_protocol.specs.declared.world.World.{World}
use Rattle.ec_coherence.specs.System.{System}
use Rattle.ec_coherence.specs.Stops.{RunsOn}
use Rattle.ec_coherence.specs.Steps.{Stands}
use Rattle.ec_coherence.specs.StandLaws.{stopped}
use Rattle.ec_lawful.proofs.ForWhole.Keeps.{doubts-hold, restarts-hold}
use Rattle.ec_lawful.specs.Steps.{HoldsIn, IsStep}
use Rattle.ec_lawful.specs.Whole.{Whole}
use Rattle.ec_lawful.proofs.ForWhole.Halts.{doubted-whole, found-whole, stopped-line-whole, stopped-whole, up-whole}

pub stops-keep : (g : System) (v : Server) → Whole g → g.server ≡ Some v → Whole (stopped g)
stops-keep g v w up = stopped-whole g w v up (subst (RunsOn g) up (w.all.0).stops.runs).1

pub doubts-keep : (w : World) (g : System) → Whole g → Stands w g → (v : Server) → g.server ≡ Some v → (t : Serving) → IsStep g v t → (r : Record) → t.rec ≡ Some r → t.spent ≡ None
    → HoldsIn Whole (committed stops_without r t w).world × HoldsIn Whole (committed stops_with r t w).world
doubts-keep w g f st v up t is r q n = doubts-hold Whole (λ h x. (x.all, x.doubts)) stops-keep (λ h u x p s from now. doubted-whole h x u p s from now) w g f st v up t is r q n

pub restarts-keep : (w : World) (g : System) → Whole g → Stands w g → w.server ≡ None → (start w.durable).spent ≡ None → (fate : Fate) → HoldsIn Whole (restart fate w).world
restarts-keep w g f st down spare fate = restarts-hold Whole (λ h x. (x.all, x.doubts)) stopped-line-whole (λ h x d r p m now. found-whole h x d r p now) (λ h x d s e now. up-whole h x d s e now) w g f st down spare fate
