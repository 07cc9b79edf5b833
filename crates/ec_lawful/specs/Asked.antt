-- How many sessions of a clerk end: no more than crashes and ends allow for.
use Rattle.std.specs.Prelude.{◌≡◌, ◌<◌, ◌≤◌, ◌==◌, ◌+◌, ◌-◌, nat_lt, ℕ, T, true, false, List, length, Option, None, Some, is_some, ⊤}
use Rattle.std.specs.List.{filter}
use Rattle.ec_base.specs.Tables.{at}
use Rattle.ec_history.specs.History.{Each}
use Rattle.ec_history.specs.declared.shown.Shown.{Shown}
use Rattle.ec_wire.specs.declared.msg.Msg.{Msg}
use Rattle.ec_wire.specs.declared.msg.Msg.TheVariants.{Bye}
use Rattle.ec_durable.specs.Durable.{slot}
use Rattle.ec_durable.specs.declared.state.Durable.{Durable}
use Rattle.ec_protocol.specs.World.{boot, session_boot}
use Rattle.ec_protocol.specs.declared.world.Event.{Event}
use Rattle.ec_protocol.specs.declared.world.Event.TheVariants as event
use Rattle.ec_protocol.specs.declared.world.Noted.{Noted}
use Rattle.ec_protocol.specs.declared.world.Noted.TheVariants as noted_of
use Rattle.ec_protocol.specs.declared.world.World.{World}
use Rattle.ec_coherence.specs.System.{System}
use Rattle.ec_lawful.specs.Headline.{Lines, ends, may_end}
use Rattle.ec_base.specs.Bools.{one_if}

-- how many sessions of the clerk these lines show ended, and whether the end of one is still to be shown
abbrev pub ended_by : ℕ → List Shown → ℕ
ended_by c ss = length (filter (ends c) ss)

abbrev pub to_end : ℕ → Option Noted → ℕ
to_end c None = 0
to_end c (Some (noted_of.Durable d ns)) = 0
to_end c (Some (noted_of.Ended d b)) = one_if (c == d)

-- how many ends of sessions of the clerk these lines of a script ask for
abbrev pub asked_by : Lines → ℕ → ℕ
asked_by lines c = length (filter (may_end c) lines)

-- the boot of the clerk's last session
abbrev pub seat : ℕ → Durable → ℕ
seat c d = session_boot (slot d c)

-- each start of the clerk below this boot has crashed
abbrev pub top : ℕ → World → ℕ
top c w = elim (is_some (at c w.clerks)) [ true ↦ boot c w | false ↦ boot c w + 1 ]

-- the boot of its last session that is of this run, or the first boot of the run
abbrev pub passed : ℕ → ℕ → ℕ
passed first b = elim (nat_lt first b) [ true ↦ b | false ↦ first + 1 ]

-- how many crashed starts may still have a session that ends: those not below the last one that opened one
abbrev pub spare : ℕ → ℕ → World → ℕ
spare first c w = top c w - passed first (seat c w.durable)

-- `first` is the last boot of each clerk before the run; of each clerk so many crashes and ends were carried out
pub record EndsAsked (first asked : ℕ → ℕ) (w : World) : Type 0 where
  pub within : (c : ℕ) → ended_by c w.shown + to_end c w.unshown + spare (first c) c w ≤ asked c

-- a crash and an end allow for one end of a session more
abbrev pub allows : Event → ℕ → ℕ
allows (event.Crash d) c = one_if (c == d)
allows (event.End d) c = one_if (c == d)
allows _ c = 0

abbrev pub with_event : Event → (ℕ → ℕ) → ℕ → ℕ
with_event e asked c = asked c + allows e c

-- no clerk says goodbye
abbrev pub IsNoBye : Msg → Type 0
IsNoBye (Bye s e) = ⊥
IsNoBye _ = ⊤

-- What a system has for it: the run began behind these boots, each start since then stands, and nobody said goodbye.
pub record AsksAgree (first : ℕ → ℕ) (g : System) : Type 0 where
  pub began : (c : ℕ) → g.first_boot c ≡ first c
  pub stands : (c b : ℕ) → g.first_boot c < b → b ≤ g.boots c → T (is_some (g.clerks c b))
  pub silent : Each (λ m. IsNoBye m.1) g.pool
