-- Servers that are safe behind any acts.
use Rattle.std.specs.Prelude.{◌≡◌, ◌≤◌, ℕ, T, List, [], ◌∷◌, ◌++◌, None, Some, Ok}
use Rattle.ec_wire.specs.Messages.{is_sound}
use Rattle.ec_sessions.specs.OfTokens.SoundTokens.{IsSound}
use Rattle.ec_sessions.specs.OfRecall.HeldWants.{NoneFree}
use Rattle.ec_durable.specs.Durable.{steps}
use Rattle.ec_durable.specs.WellFormed.{WellFormed}
use Rattle.ec_durable.specs.declared.record.Record.{Record}
use Rattle.ec_durable.specs.declared.state.Durable.{Durable}
use Rattle.ec_protocol.specs.Server.{Serving}
use Rattle.ec_protocol.specs.declared.server.Server.{Server}
use Rattle.ec_machine_laws.specs.OfAppliedOnce.Once.{applied, record_list}
use Rattle.ec_machine_laws.specs.OfAppliedOnce.Safe.{Act, takes, ends, starts, does, server_after}

-- No two tokens conflict, no want is Free, and the volume is well formed.
pub record IsSafe (v : Server) : Type 0 where
  pub tokens : IsSound v.tokens
  pub wants : NoneFree v.recalls
  pub formed : WellFormed v.durable

-- A safe server to which these records lead, which apply each batch of a session at most once.
pub record IsSafeBehind (d : Durable) (rs : List Record) (v : Server) : Type 0 where
  pub safe : IsSafe v
  pub stepped : steps rs d ≡ Ok v.durable
  pub once : (s b : ℕ) → applied s b rs ≤ 1

-- A message's fields are within their ranges.
abbrev pub AreSound : List Act → Type 0
AreSound [] = Unit {0}
AreSound (takes c m ∷ more) = T (is_sound m) × AreSound more
AreSound (ends c ∷ more) = AreSound more
AreSound (starts ∷ more) = AreSound more

abbrev pub records_after : Serving → List Record
records_after t = elim t.spent [ None ↦ record_list t.rec | Some n ↦ [] ]

-- the records that were committed, in order
abbrev pub committed : List Act → Server → List Record
committed [] v = []
committed (a ∷ more) v = records_after (does a v) ++ committed more (server_after (does a v) v)
