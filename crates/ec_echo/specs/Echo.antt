-- What the program does, by its words and its exit status.
use Rattle.std.specs.Prelude.{◌≡◌, ◌⊎◌, ℕ, List, Option}
use Rattle.std.specs.Io.KnownBytes.{Appends}
use Rattle.ec_base.specs.Outside.{Rose}
use Rattle.ec_script.specs.OfGenerator.Generator.{script_of}
use Rattle.ec_drill.specs.Drill.{Outside, IsDiskUntouched}
use Rattle.ec_lease.specs.OfDrill.Drill.{LeaseOutside}
use Rattle.ec_serve.specs.Serve.{Outer, Outside as Serving}
use Rattle.ec_mount.specs.Mount.{Outside as Mounting}
use Rattle.ec_echo.specs.Made.{made_lines}
use Rattle.ec_echo.specs.Written.{WroteInPart}
use Rattle.ec_echo.specs.declared.status.Status.{Status}
use Rattle.ec_echo.specs.declared.status.Status.TheVariants as status

-- the source wasn't touched
pub record IsSourceUntouched (w : Outside) : Type 0 where
  pub left : w.source.bytes_after ≡ w.source.bytes
  pub reads : w.source.faults_after ≡ w.source.faults

-- neither source nor sink nor disk was touched
pub record IsUntouched (w : Outside) : Type 0 where
  pub source : IsSourceUntouched w
  pub held : w.sink.bytes_after ≡ w.sink.bytes
  pub writes : w.sink.faults_after ≡ w.sink.faults
  pub disk : IsDiskUntouched w

-- a net and who starts threads, before and after
pub record Links : Type 0 where
  pub before : Outer
  pub later : Outer

-- a server's disk, net and who starts threads
abbrev pub serving : Outside → Links → Serving
serving w n = record {
  tells = w.store.tells;
  disk = w.store.disk;
  disk_after = w.store.disk_after;
  counts = w.store.counts;
  counts_after = w.store.counts_after;
  links = n.before;
  links_after = n.later;
}

-- a mount's source, sink and net
abbrev pub mounting : Outside → Links → Mounting
mounting w n = record {
  left = w.source.bytes;
  left_after = w.source.bytes_after;
  reads = w.source.faults;
  reads_after = w.source.faults_after;
  held = w.sink.bytes;
  held_after = w.sink.bytes_after;
  writes = w.sink.faults;
  writes_after = w.sink.faults_after;
  net = record { faults = n.before.faults; bad = n.before.bad; ended = n.before.ended };
  net_after = record { faults = n.later.faults; bad = n.later.bad; ended = n.later.ended };
}

-- the source, the sink and the disk of a drill with leases
abbrev pub leasing : Outside → LeaseOutside
leasing w = record {
  left = w.source.bytes;
  left_after = w.source.bytes_after;
  reads = w.source.faults;
  reads_after = w.source.faults_after;
  held = w.sink.bytes;
  held_after = w.sink.bytes_after;
  writes = w.sink.faults;
  writes_after = w.sink.faults_after;
  tells = w.store.tells;
  disk = w.store.disk;
  disk_after = w.store.disk_after;
  counts = w.store.counts;
  counts_after = w.store.counts_after;
}

-- The script of this number was written, or a part of it, or nothing.
abbrev pub Made : ℕ → Status → Option (List ℕ) → Option (List ℕ) → ℕ → ℕ → Type 0
Made n status.Done held now before later = Appends held now (script_of n made_lines)
Made n status.SinkFault held now before later = Rose before later × WroteInPart (script_of n made_lines) held now
Made n status.NoMemory held now before later = WroteInPart (script_of n made_lines) held now ⊎ (now ≡ held)
Made n _ held now before later = ⊥
