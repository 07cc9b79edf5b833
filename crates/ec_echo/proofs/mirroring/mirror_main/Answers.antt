use Rattle.std.proofs.Common.{◌≡◌, ◌∙◌, ℕ, List, refl, sym, subst, ap, arith, inl, inr, map, rules, length}
use Rattle.std.specs.String.{string_bytes}
use Rattle.ec_base.proofs.Equalities.{moved}
use Rattle.ec_link.specs.Spawns.{faults_of}
use Rattle.ec_mirror.specs.Disks.{mirror_view}
use Rattle.ec_mirror.specs.Tally.{counts_of}
use Rattle.ec_echo.specs.Mirroring.{Mirrored}
use Rattle.ec_echo.specs.OfNamed.Forms.{links}
use Rattle.ec_echo.specs.OfNamed.Seen.{stream}
use Rattle.ec_echo.proofs.Mirrors.{before-of, fault-not-usage, fault-of-six, mirrored-so, refused-moved, unarmed-still, uses-some}
use Rattle.ec_echo.proofs.mirroring.mirror_main.Goals as goal

pub returns-then-not-use_disk-clause-diskless : goal.returns-then-not-use_disk-clause-diskless
returns-then-not-use_disk-clause-diskless g c none =
    let e = c.echo_main.ensures in
    record {
      lines = record {
        history = e.history;
        lines = e.lines;
        replies = e.replies;
        reports = e.reports;
        losses = e.losses;
        fsync = e.fsync;
        room = e.room;
        bytes = e.bytes;
        own_calls = e.own_calls;
        sessions = e.sessions;
        spent = e.spent;
        together = e.together;
        complete = e.complete;
        write_behind = e.write_behind;
        disk = e.disk;
        statuses = e.statuses;
      };
      leases = record { lease_history = e.lease_history; lease_lines = e.lease_lines; lease_calls = e.lease_calls; lease_sessions = e.lease_sessions; lease_disk = e.lease_disk; lease_complete = e.lease_complete; lease_bytes = e.lease_bytes };
      forms = record {
        usage = e.usage;
        untouched = e.untouched;
        alone = e.alone;
        drill = e.drill;
        states = e.states;
        disk_cut = e.disk_cut;
        claims = e.claims;
        check = e.check;
        make = e.make;
        soak = e.soak;
        serve = e.serve;
        mount = e.mount;
        mounts = e.mounts;
        leases = e.leases;
      };
    }

pub echo_mirrored-status-requires-clause-first : goal.echo_mirrored-status-requires-clause-first
echo_mirrored-status-requires-clause-first g c κs within = ap length c.in-Ok.ensures.first_from.1

pub echo_mirrored-status-requires-clause-second : goal.echo_mirrored-status-requires-clause-second
echo_mirrored-status-requires-clause-second g c κs within = ap length c.in-Ok.ensures.second_from.1

pub echo_mirrored-status-requires-clause-unarmed : goal.echo_mirrored-status-requires-clause-unarmed
echo_mirrored-status-requires-clause-unarmed g c κs within = ap (λ t. t.armed) c.in-Ok.ensures.counts

pub returns-in-Err-clause-mirrored : goal.returns-in-Err-clause-mirrored
returns-in-Err-clause-mirrored g c uses =
    let source = stream g.S.Source.left g.S.Source.faults c.args.source.now c.args.source.now in
    let sink = stream g.K.Sink.held g.K.Sink.faults c.args.sink.now c.refuse.new.sink in
    let net = links g.N.Net.faults g.N.Net.bad g.N.Net.ended faults_of c.args.net.now c.args.net.now c.args.spawner.now c.args.spawner.now in
    let back = c.in-Err.ensures in
    inl (refused-moved (record { tells = g.A.Disk.tells; view = g.A.Disk.view; counts = g.A.Disk.counts }) (record { tells = g.B.Disk.tells; view = g.B.Disk.view; counts = g.B.Disk.counts }) c.code.result source sink net c.args.first.now c.in-Err.back.first.now _ c.args.second.now c.in-Err.back.second.now _
    (record {
      why = c.in-Err.back.fault;
      st = c.refuse.result;
      result_is = c.code.ensures;
      told = c.refuse.ensures.told;
      which = back.which;
      bad_first = back.bad_first;
      bad_second = back.bad_second;
      first_is_good = back.first_is_good;
      first_rests = back.first_rests;
      second_rests = back.second_rests;
      first_unarmed = λ k place is. unarmed-still (g.A.Disk.counts c.args.first.now).armed (g.A.Disk.counts c.in-Err.back.first.now).armed c.requires.first (back.first_arms k place is);
      second_unarmed = λ k place is. unarmed-still (g.B.Disk.counts c.args.second.now).armed (g.B.Disk.counts c.in-Err.back.second.now).armed c.requires.second (back.second_arms k place is);
      disk_failed = λ is. back.failed (fault-of-six c.in-Err.back.fault c.refuse.result sink c.refuse.ensures.told (sym c.code.ensures ∙ is));
      source_rests = refl;
      links_rest = refl;
    })
    (sym (c.first-1.given.1 (sym back.first_back))) (sym (c.second-1.given.1 (sym back.second_back))))

pub returns-clause-mirrored : goal.returns-clause-mirrored
returns-clause-mirrored g c uses =
    let source = stream g.S.Source.left g.S.Source.faults c.args.source.now c.echo_mirrored-status.new.source in
    let sink = stream g.K.Sink.held g.K.Sink.faults c.args.sink.now c.echo_mirrored-status.new.sink in
    let net = links g.N.Net.faults g.N.Net.bad g.N.Net.ended faults_of c.args.net.now c.echo_mirrored-status.new.net c.args.spawner.now c.echo_mirrored-status.new.spawner in
    let m = c.in-Ok.ensures in
    inr (mirrored-so (record { tells = g.A.Disk.tells; view = g.A.Disk.view; counts = g.A.Disk.counts }) (record { tells = g.B.Disk.tells; view = g.B.Disk.view; counts = g.B.Disk.counts }) (record { tells = g.A.Disk.tells × g.B.Disk.tells; view = mirror_view g.A.Disk.view g.B.Disk.view; counts = λ m. counts_of m.parts.tally }) c.args.boot (map string_bytes c.args.words.now) c.echo_mirrored-status.result.status source sink net c.args.first.now c.echo_mirrored-status.result.first.now _ c.args.second.now c.echo_mirrored-status.result.second.now _ c.in-Ok.mirror _ _
    (record {
      first_is_good = λ tells. (m.both_are_good refl).0 tells;
      second_is_good = λ tells. (m.both_are_good refl).1 tells;
      gives = m.gives;
      synced = λ first second. (m.synced (first, second)).only;
      counts = ap counts_of m.counts;
    })
    uses (before-of g.A.Disk.counts _ _ _ m.first_from.1 m.first_from.2) (before-of g.B.Disk.counts _ _ _ m.second_from.1 m.second_from.2) c.echo_mirrored-status.ensures.ran (sym (c.first-2-1.given.1 (sym (c.echo_mirrored-status.ensures.first ∙ m.first_disk)))) (sym (c.second-2-1.given.1 (sym (c.echo_mirrored-status.ensures.second ∙ m.second_disk)))))
