-- The lines show no more ends than were asked for.
use Rattle.std.proofs.Common.{arith, ◌≤◌, ◌+◌, ℕ}
use Rattle.ec_protocol.specs.declared.world.World.{World}
use Rattle.ec_lawful.specs.Asked.{EndsAsked, ended_by, spare, to_end}

pub asked-show : (first asked : ℕ → ℕ) (w : World) → EndsAsked first asked w → (c : ℕ) → ended_by c w.shown ≤ asked c
asked-show first asked w a c = first-part (ended_by c w.shown) (to_end c w.unshown) (spare (first c) c w) (asked c) (a.within c)
  where
    first-part : (e u s n : ℕ) → e + u + s ≤ n → e ≤ n
    first-part e u s n p = omega (arith, p)
