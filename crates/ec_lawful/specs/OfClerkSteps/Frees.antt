-- The ids that a clerk has in store, taken or on their way, are of no object that it sees, and of no operation.
use Rattle.std.specs.Prelude.{◌≡◌, ◌⊎◌, ◌<◌, ◌+◌, ℕ, T, nat_lt}
use Rattle.ec_volume.specs.Update.{distinct, member}
use Rattle.ec_volume.specs.declared.image.Image.TheVariants.{Gone}
use Rattle.ec_history.specs.History.{Each}
use Rattle.ec_wire.specs.declared.msg.Msg.{Msg}
use Rattle.ec_wire.specs.declared.msg.Msg.TheVariants.{NoRoom}
use Rattle.ec_coherence.specs.System.{System, seen_ops}
use Rattle.ec_coherence.specs.Tokens.{is_hidden, view}
use Rattle.ec_coherence.specs.Log.{InSession}
use Rattle.ec_lawful.specs.OfClerkSteps.Zeros.{LeaveOut}

pub record FreesAgree (g : System) : Type 0 where
  pub unused : (s x : ℕ) → InSession g s (λ k. T (member x k.ids) ⊎ T (is_hidden (view g) s x) → LeaveOut x (seen_ops (g.ghost.frozen s) g.ghost.kept) × (g.origin x ≡ Gone))
  -- those that it took are there once
  pub once : (s : ℕ) → InSession g s (λ k. T (distinct k.ids))

-- A message that there is no room says so of a full volume.
abbrev pub IsFull : System → Msg → Type 0
IsFull g (NoRoom s e ask live reserved) = T (nat_lt g.durable.max_objects (live + reserved + 16))
IsFull g _ = Rattle.std.specs.Prelude.⊤

abbrev pub FullsAgree : System → Type 0
FullsAgree g = Each (λ m. IsFull g m.1) g.pool
