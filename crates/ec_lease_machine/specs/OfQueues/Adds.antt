-- What a step of a world adds: the lines that it shows, and whose calls they and the calls behind it are.
use Rattle.std.specs.Prelude.{◌≡◌, ℕ, ◌++◌, ⊤}
use Rattle.ec_plain.specs.declared.call.Call.{Call}
use Rattle.ec_history.specs.Placing.{EachLine}
use Rattle.ec_protocol.specs.World.{Moving}
use Rattle.ec_protocol.specs.declared.world.Event.{Event}
use Rattle.ec_protocol.specs.declared.world.Event.TheVariants as event
use Rattle.ec_protocol.specs.declared.world.World.{World}
use Rattle.ec_lawful.specs.Calls.{EachCall, IsOf}

-- the calls behind a step, and the lines that it shows, are of calls of which P holds
pub record AddsCalls (P : ℕ → ℕ → Call → Type 0) (w : World) (m : Moving) : Type 0 where
  pub lines : m.world.shown ≡ w.shown ++ m.shown
  pub calls : EachCall P m.world.calls
  pub piece : EachLine (IsOf P) m.shown

-- P holds of the call of an event, if it's one
abbrev pub MayBe : (ℕ → ℕ → Call → Type 0) → Event → Type 0
MayBe P (event.Call c l cl) = P l c cl
MayBe P _ = ⊤
