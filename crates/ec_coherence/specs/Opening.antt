-- The beginning of a run on a formatted disk.
use Rattle.std.specs.Prelude.{ℕ, false, [], None}
use Rattle.ec_volume.specs.Volume as volume
use Rattle.ec_durable.specs.Durable.{formatted}
use Rattle.ec_protocol.specs.Server.{start}
use Rattle.ec_coherence.specs.System.{System, Ghost}
use Rattle.ec_coherence.specs.Invariant.{Invariant}
use Rattle.ec_coherence.specs.Steps.{Stood}

-- nobody has a session, and nothing happened
abbrev pub nothing_yet : Ghost
nothing_yet =
    record {
      owner = λ s. None;
      taken = λ s. false;
      old = λ s x. None;
      grants = λ s. 0;
      first = λ s. 0;
      kept = [];
      is_durable = λ o. false;
      frozen = λ s. None;
      shown = [];
      history = [];
      fresh = [];
    }

-- a formatted disk, and no server, no clerk and no message yet
abbrev pub opening : ℕ → System
opening most =
    record {
      durable = formatted most;
      server = None;
      unshown = None;
      clerks = λ c b. None;
      running = λ c. None;
      boots = λ c. 0;
      calls = [];
      pool = [];
      origin = volume.formatted;
      first_boot = λ c. 0;
      ghost = nothing_yet;
    }

-- all facts hold of it, and behind the first start of a server on it
abbrev pub OpeningAgrees : Type 0
OpeningAgrees = (most : ℕ) → Invariant (opening most)

abbrev pub FirstStartStands : Type 0
FirstStartStands = (most : ℕ) → Stood (opening most) (start (formatted most))
