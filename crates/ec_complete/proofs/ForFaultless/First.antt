-- What holds behind a line's first step.
use Rattle.std.proofs.Common.{◌≡◌, refl, sym, ◌∙◌, subst, ◌≤◌, ◌==◌, ◌⊎◌, ℕ, T, Bool, true, false, List, length}
use Rattle.std.specs.Prelude.{None, Some}
use Rattle.ec_base.specs.Tables.{at, once, put}
use Rattle.ec_volume.specs.Update.{member}
use Rattle.ec_volume.specs.Volume.{Images}
use Rattle.ec_protocol.specs.World.{Moving}
use Rattle.ec_protocol.specs.declared.clerk.Clerk.{Clerk}
use Rattle.ec_protocol.specs.declared.script.Line.{Line}
use Rattle.ec_protocol.specs.declared.world.World.{World}
use Rattle.ec_quiet.specs.Measure.{sum}
use Rattle.ec_quiet.specs.Scenes.{IsScene, Scene}
use Rattle.ec_quiet.specs.Works.{Work}
use Rattle.ec_quiet.specs.Bounds.{IsFirstPhase}
use Rattle.ec_quiet.proofs.Beside.{other-at}
use Rattle.ec_complete.specs.Worlds.{LineIsKnown, Outset}
use Rattle.ec_complete.specs.Goes.{IsStarted, IsWorkOf}
use Rattle.ec_complete.specs.Ready.{IsReady, calls_of}
use Rattle.ec_base.proofs.Numbers.{equal}

-- The step met no fault. The line's work is known, or nothing was done; the clerks have their names, and made few calls.
pub record IsStepped (outset : Outset) (v : Images) (most : ℕ) (names : List ℕ) (number : ℕ) (l : Line) (w : World) (q : IsReady outset v most names number w) (m : Moving) : Type 0 where
  pub fine : m.fault ≡ None
  pub known : ((j : Work) × IsWorkOf l w q.scene q.system j × (k : LineIsKnown outset j number m) × IsFirstPhase k.phase) ⊎ IsScene m.world q.scene
  pub started : IsStarted outset (length (once names)) number m
  pub calls : sum calls_of m.world.clerks ≤ number
  pub named : (a : ℕ) (b : Clerk) → at a m.world.clerks ≡ Some b → T (member a names)

-- a clerk's step adds its own name
pub named-now : (names : List ℕ) (sc : Scene) (c : ℕ) (x : Clerk) → T (member c names) → ((a : ℕ) (b : Clerk) → at a sc.clerks ≡ Some b → T (member a names)) → (a : ℕ) (b : Clerk) → at a (put c x sc.clerks) ≡ Some b → T (member a names)
named-now names sc c x name named a b e = go (a == c) refl
  where
    go : (z : Bool) → (a == c) ≡ z → T (member a names)
    go true p = subst (λ y. T (member y names)) (sym (equal a c p)) name
    go false p = named a b (sym (other-at c x sc.clerks a p) ∙ e)
