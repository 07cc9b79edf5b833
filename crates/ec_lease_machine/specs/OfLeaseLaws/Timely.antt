-- Sessions of a running clerk's age, and what is untold of them.
use Rattle.std.specs.Prelude.{◌≡◌, ◌==◌, ℕ, Bool, true, false, None, Some, Ok, ⊤}
use Rattle.ec_base.specs.declared.ids.Age.{Age}
use Rattle.ec_history.specs.Placing.{watch}
use Rattle.ec_sessions.specs.declared.slot.Slot.{Slot}
use Rattle.ec_durable.specs.Durable.{slot, step}
use Rattle.ec_durable.specs.declared.state.Durable.{Durable}
use Rattle.ec_durable.specs.declared.record.Record.{Record}
use Rattle.ec_durable.specs.declared.record.Record.TheVariants.{End}
use Rattle.ec_protocol.specs.declared.clerk.Clerk.{Clerk}
use Rattle.ec_coherence.specs.System.{System}
use Rattle.ec_coherence.specs.CommitLaws.{AllAgree}
use Rattle.ec_coherence.specs.Steps.{Stands}
use Rattle.ec_lawful.specs.Doubts.{ComesFrom, DoubtAgrees}
use Rattle.ec_lease_machine.specs.Leases.{is_held}
use Rattle.ec_protocol.specs.Resumes.{session}
use Rattle.ec_lease_machine.specs.declared.world.LeaseWorld.{LeaseWorld}
use Rattle.ec_lease_machine.specs.OfLeaseLaws.Agrees.{LeasesAgree}

-- the clerk's slot has the session, open or not, and it was opened with this age
pub record HasSession (d : Durable) (c s : ℕ) (age : Age) (still : Bool) : Type 0 where
  pub slot_of : Slot
  pub in_slot : slot d c ≡ Some slot_of
  pub is_open : slot_of.is_open ≡ still
  pub session : slot_of.session ≡ s
  pub age_is : slot_of.age ≡ age

-- the record ends no session of the clerk
abbrev pub EndsNot : ℕ → Record → Type 0
EndsNot c (End d s) = (c == d) ≡ false
EndsNot c _ = ⊤

-- an open session of a running clerk's age stays so behind each record but its end, and one that ended behind each
abbrev pub SessionsStay : Type 0
SessionsStay = (g : System) → AllAgree g → (c b s : ℕ) (k : Clerk) → g.running c ≡ Some b → g.clerks c b ≡ Some k → (still : Bool) → HasSession g.durable c s k.age still
    → (r : Record) (d : Durable) → ComesFrom g r → (still ≡ true → EndsNot c r) → step r g.durable ≡ Ok d → HasSession d c s k.age still

-- while it's open nothing is untold
abbrev pub OpenAreTold : Type 0
OpenAreTold = (g : System) → AllAgree g → (c b s : ℕ) (k : Clerk) → g.running c ≡ Some b → g.clerks c b ≡ Some k → HasSession g.durable c s k.age true → (watch c g.ghost.shown).untold ≡ None

-- a clerk that is in a session and isn't held has nothing untold
abbrev pub UnheldAreTold : Type 0
UnheldAreTold = (g : System) → AllAgree g → DoubtAgrees g → (x : LeaseWorld) → Stands x.world g → LeasesAgree x → (c s : ℕ) → session c x.world ≡ Some s → is_held c x ≡ false → (watch c x.world.shown).untold ≡ None
