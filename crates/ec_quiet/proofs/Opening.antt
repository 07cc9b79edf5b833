-- A world that is opened on a new disk is quiet.
use Rattle.std.proofs.Common.{◌≡◌, refl, sym, ◌∙◌, subst, arith, ℕ, zero, suc, [], ◌∷◌, replicate}
use Rattle.std.specs.Prelude.{None, Some, Result, Ok}
use Rattle.ec_base.specs.declared.counter.Counter.{Counter}
use Rattle.ec_sessions.specs.Slots.{slot_at}
use Rattle.ec_sessions.specs.declared.slot.Slot.{Slot}
use Rattle.ec_sessions.specs.OfTokens.Laws.{sound_none}
use Rattle.ec_durable.specs.Durable.{formatted, slot}
use Rattle.ec_durable.specs.declared.record.Record.TheVariants.{Epoch}
use Rattle.ec_protocol.specs.World.{new_world, open_world}
use Rattle.ec_protocol.specs.declared.server.Server.{Server}
use Rattle.ec_protocol.specs.declared.world.World.{World}
use Rattle.ec_quiet.specs.Facts.{IsOrderly}
use Rattle.ec_quiet.specs.Quiet.{IsQuiet}
use Rattle.ec_quiet.specs.Scenes.{Scene}
use Rattle.ec_quiet.proofs.Ending.{none-rise}

no-slot : (n c : ℕ) (sl : Slot) → slot_at (replicate n None) c ≡ Some sl → ⊥
no-slot zero c sl e = grind (arith, e)
no-slot (suc n) zero sl e = grind (arith, e)
no-slot (suc n) (suc c) sl e = no-slot n c sl e

module _ (most : ℕ) where
  abbrev v : Server
  v = record { durable = record (formatted most) { epoch = 1 }; tokens = []; recalls = []; claimed = []; number = 0; recorded = [] }

  abbrev new : World
  new = new_world v (Epoch 1 ∷ [])

  opened-is : open_world (formatted most) ≡ Ok new
  opened-is = refl

  none : (c : ℕ) (sl : Slot) → slot v.durable c ≡ Some sl → ⊥
  none c sl e = no-slot 16 c sl e

  orderly : IsOrderly v []
  orderly = record {
    sixteen = refl;
    rising = tt;
    sound = sound_none;
    claimed = refl;
    run = λ c sl e f. absurd (none c sl e);
    own = λ c sl e. absurd (none c sl e);
    earlier = λ c sl e. absurd (none c sl e);
    holders = λ s x t e. absurd (grind (arith, e));
  }

  abbrev sc : Scene
  sc = record { server = v; clerks = []; mail = [] }

  quiet : IsQuiet new
  quiet = record {
    scene = sc;
    stands = record { server = refl; durable = refl; sure = refl; linked = refl; clerks = refl; mail = refl; kept = tt; rising = none-rise; pending = tt; pool = tt };
    idle = record { mail = refl; wants = refl; orderly = orderly; clerks = λ c k e. absurd (grind (arith, e)) };
    calls = λ c. refl;
    boots = λ c sl e. absurd (none c sl e);
  }

  pub opens : (w : World) → open_world (formatted most) ≡ Ok w → IsQuiet w
  opens w e = subst IsQuiet (same new w (sym opened-is ∙ e)) quiet
    where
      same : (a b : World) → ◌≡◌ {A = Result World Counter} (Ok a) (Ok b) → a ≡ b
      same a b p = cc
