use Rattle.std.proofs.Common.{sym, map}
use Rattle.std.specs.Prelude.{ℕ}
use Rattle.std.specs.String.{string_bytes}
use Rattle.ec_link.specs.Spawns.{faults_of}
use Rattle.ec_mirror.specs.Disks.{mirror_view}
use Rattle.ec_mirror.specs.Tally.{counts_of}
use Rattle.ec_echo.specs.OfNamed.Forms.{links}
use Rattle.ec_echo.specs.OfNamed.Seen.{stream}
use Rattle.ec_echo.proofs.Mirrors.{promised-moved}
use Rattle.ec_echo.proofs.mirroring.echo_pinned.Goals as goal

pub returns-clause-promised : goal.returns-clause-promised
returns-clause-promised g c =
    let e = c.echo_main-status.ensures in
    let source = stream g.S.Source.left g.S.Source.faults c.args.source.now c.echo_main-status.new.source in
    let sink = stream g.K.Sink.held g.K.Sink.faults c.args.sink.now c.echo_main-status.new.sink in
    let net = links g.N.Net.faults g.N.Net.bad g.N.Net.ended faults_of c.args.net.now c.echo_main-status.new.net c.args.spawner.now c.echo_main-status.new.spawner in
    promised-moved (g.A.Disk.tells × g.B.Disk.tells) (mirror_view g.A.Disk.view g.B.Disk.view) (λ m. counts_of m.parts.tally) _ _ c.echo_main-status.result source sink net _ _ _ _ c.new-pinned.ensures (sym c.into_mirror.ensures.mirror)
    (record {
      lines = record {
        history = e.history;
        lines = e.lines;
        replies = e.replies;
        reports = e.reports;
        losses = e.losses;
        fsync = e.fsync;
        room = e.room;
        bytes = e.bytes;
        own_calls = e.own_calls;
        sessions = e.sessions;
        spent = e.spent;
        together = e.together;
        complete = e.complete;
        write_behind = e.write_behind;
        disk = e.disk;
        statuses = e.statuses;
      };
      leases = record { lease_history = e.lease_history; lease_lines = e.lease_lines; lease_calls = e.lease_calls; lease_sessions = e.lease_sessions; lease_disk = e.lease_disk; lease_complete = e.lease_complete; lease_bytes = e.lease_bytes };
      forms = record {
        usage = e.usage;
        untouched = e.untouched;
        alone = e.alone;
        drill = e.drill;
        states = e.states;
        disk_cut = e.disk_cut;
        claims = e.claims;
        check = e.check;
        make = e.make;
        soak = e.soak;
        serve = e.serve;
        mount = e.mount;
        mounts = e.mounts;
        leases = e.leases;
      };
    })
