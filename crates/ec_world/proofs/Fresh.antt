-- A step that has shown nothing yet.
use Rattle.std.proofs.Common.{◌≡◌, List, [], None, ap}
use Rattle.ec_history.specs.declared.shown.Shown.{Shown}
use Rattle.ec_protocol.specs.World.{Moving, moving}
use Rattle.ec_world.specs.StepEnds.{under}
use Rattle.ec_world.specs.Worlds.{view_of}
use Rattle.ec_world.specs.declared.world.World.{World}

pub fresh : (w : World) → w.piece.items ≡ [] → under w ≡ moving (view_of w)
fresh w h = let on : List Shown → Moving = λ s. record { world = view_of w; shown = s; fault = None } in ap on h
