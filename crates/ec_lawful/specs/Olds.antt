-- The opening over any durable state: sessions of earlier runs that are still open end, and nothing happened in this run yet.
use Rattle.std.specs.Prelude.{◌≡◌, ◌==◌, ◌+◌, ◌≤◌, ◌<◌, ℕ, T, true, false, not, List, [], ◌∷◌, length, map, Option, None, Some, Ok}
use Rattle.ec_base.specs.declared.ids.Age.{Age}
use Rattle.ec_volume.specs.Image.{entries_of, is_gone}
use Rattle.ec_volume.specs.Volume as volume
use Rattle.ec_volume.specs.Volume.{Images, images}
use Rattle.ec_history.specs.History.{Base, Each, Op}
use Rattle.ec_history.specs.OfLaws.Bases.{IsBase}
use Rattle.ec_sessions.specs.Slots.{Slots, ended}
use Rattle.ec_durable.specs.Durable.{slot}
use Rattle.ec_durable.specs.WellFormed.{WellFormed}
use Rattle.ec_durable.specs.declared.state.Durable.{Durable}
use Rattle.ec_protocol.specs.Server.{new_server}
use Rattle.ec_protocol.specs.World.{open_world, session_boot}
use Rattle.ec_protocol.specs.declared.world.World.{World}
use Rattle.ec_coherence.specs.System.{System, Ghost}
use Rattle.ec_coherence.specs.Opening.{nothing_yet}
use Rattle.ec_coherence.specs.Steps.{Stands}
use Rattle.ec_coherence.specs.CommitLaws.{AllAgree}

-- each open session ended
abbrev pub all_ended : Slots → Slots
all_ended slots = map ended slots

-- the state behind an opening: the epoch was raised, and no session is open
abbrev pub opened_state : Durable → Durable
opened_state d = record d { epoch = d.epoch + 1; sessions = all_ended d.sessions }

-- the session of a slot, by the clerk and the age with which it was opened
abbrev pub owner_from : ℕ → Slots → ℕ → Option (ℕ × Age)
owner_from c [] s = None
owner_from c (None ∷ slots) s = owner_from (c + 1) slots s
owner_from c (Some sl ∷ slots) s = elim (sl.session == s) [ true ↦ Some (c, sl.age) | false ↦ owner_from (c + 1) slots s ]

-- sessions of earlier runs are frozen, and nothing of them is kept
abbrev pub frozen_if : Option (ℕ × Age) → Option (List Op)
frozen_if None = None
frozen_if (Some o) = Some []

abbrev pub olds_only : Slots → Ghost
olds_only slots = record nothing_yet { owner = owner_from 0 slots; frozen = λ s. frozen_if (owner_from 0 slots s) }

-- the system behind it: the server has started, and no clerk has yet
abbrev pub opened_in : Durable → System
opened_in d =
    record {
      durable = opened_state d;
      server = Some (new_server (opened_state d));
      unshown = None;
      clerks = λ c b. None;
      running = λ c. None;
      boots = λ c. session_boot (slot d c);
      calls = [];
      pool = [];
      origin = images d.volume;
      first_boot = λ c. session_boot (slot d c);
      ghost = olds_only d.sessions;
    }

-- over any well-formed state of sixteen slots that opens, all facts hold of it, and the world stands in it
abbrev pub OpensStand : Type 0
OpensStand = (d : Durable) → WellFormed d → length d.sessions ≡ 16 → (w : World) → open_world d ≡ Ok w → AllAgree (opened_in d) × Stands w (opened_in d)

-- A volume as a base of histories: the fresh id of a place is so much above a bound of the live ids.
abbrev pub base_above : Images → ℕ → Base
base_above v n = record { volume = v; fresh = λ place. n + place }

abbrev pub AreAtMost : Images → ℕ → Type 0
AreAtMost v n = (x : ℕ) → T (not (is_gone (v x))) → x ≤ n

-- a well-formed volume of finitely many ids has a greatest one, and is a base above any such bound
abbrev pub VolumesAreBases : Type 0
VolumesAreBases = (v : Images) → volume.WellFormed v → (n : ℕ) → AreAtMost v n → IsBase (base_above v n)

abbrev pub VolumesHaveGreatest : Type 0
VolumesHaveGreatest = (d : Durable) → WellFormed d → (n : ℕ) × T (not (is_gone (images d.volume n))) × AreAtMost (images d.volume) n

-- its live ids, and the ids that its entries name, were given out
abbrev pub VolumesNameIds : Type 0
VolumesNameIds = (d : Durable) → WellFormed d → (x : ℕ) → (T (not (is_gone (images d.volume x))) → x < d.next_id) × Each (λ e. e.1 < d.next_id) (entries_of (images d.volume x))
