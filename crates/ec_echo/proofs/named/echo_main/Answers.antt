use Rattle.ec_machine_laws.proofs.OfNodeLaws.Claims.{claims-first}
use Rattle.ec_echo.proofs.OfNamed.Promised.{are-in-order, are-placed, asks, covers-fsync, does-check, does-drill, does-leases, does-make, does-mount, does-mounts, does-serve, does-soak, has-bytes, has-causes, has-history, has-lease-bytes, has-lease-calls, has-lease-complete, has-lease-disk, has-lease-history, has-lease-lines, has-lease-sessions, has-left, has-losses, has-own, has-replies, has-reports, has-sessions, is-alone, is-behind, is-complete, is-stored, is-together, tells-room, tells-spent, touches-nothing}
use Rattle.ec_echo.specs.OfNamed.Seen.{stream, store}
use Rattle.ec_echo.proofs.named.echo_main.Goals as goal

pub returns-clause-history : goal.returns-clause-history
returns-clause-history g c =
    has-history _ _ _ (stream g.S.Source.left g.S.Source.faults c.args.source.now c.run_words.new.source) (stream g.K.Sink.held g.K.Sink.faults c.args.sink.now c.run_words.new.sink)
    (store g.D.Disk.tells g.D.Disk.view g.D.Disk.counts c.args.disk.now c.run_words.new.disk) _ c.run_words.ensures.echoes

pub returns-clause-lines : goal.returns-clause-lines
returns-clause-lines g c =
    are-placed _ _ _ (stream g.S.Source.left g.S.Source.faults c.args.source.now c.run_words.new.source) (stream g.K.Sink.held g.K.Sink.faults c.args.sink.now c.run_words.new.sink)
    (store g.D.Disk.tells g.D.Disk.view g.D.Disk.counts c.args.disk.now c.run_words.new.disk) _ c.run_words.ensures.echoes

pub returns-clause-replies : goal.returns-clause-replies
returns-clause-replies g c =
    has-replies _ _ _ (stream g.S.Source.left g.S.Source.faults c.args.source.now c.run_words.new.source) (stream g.K.Sink.held g.K.Sink.faults c.args.sink.now c.run_words.new.sink)
    (store g.D.Disk.tells g.D.Disk.view g.D.Disk.counts c.args.disk.now c.run_words.new.disk) _ c.run_words.ensures.echoes

pub returns-clause-reports : goal.returns-clause-reports
returns-clause-reports g c =
    has-reports _ _ _ (stream g.S.Source.left g.S.Source.faults c.args.source.now c.run_words.new.source) (stream g.K.Sink.held g.K.Sink.faults c.args.sink.now c.run_words.new.sink)
    (store g.D.Disk.tells g.D.Disk.view g.D.Disk.counts c.args.disk.now c.run_words.new.disk) _ c.run_words.ensures.echoes

pub returns-clause-losses : goal.returns-clause-losses
returns-clause-losses g c =
    has-losses _ _ _ (stream g.S.Source.left g.S.Source.faults c.args.source.now c.run_words.new.source) (stream g.K.Sink.held g.K.Sink.faults c.args.sink.now c.run_words.new.sink)
    (store g.D.Disk.tells g.D.Disk.view g.D.Disk.counts c.args.disk.now c.run_words.new.disk) _ c.run_words.ensures.echoes

pub returns-clause-fsync : goal.returns-clause-fsync
returns-clause-fsync g c =
    covers-fsync _ _ _ (stream g.S.Source.left g.S.Source.faults c.args.source.now c.run_words.new.source) (stream g.K.Sink.held g.K.Sink.faults c.args.sink.now c.run_words.new.sink)
    (store g.D.Disk.tells g.D.Disk.view g.D.Disk.counts c.args.disk.now c.run_words.new.disk) _ c.run_words.ensures.echoes

pub returns-clause-room : goal.returns-clause-room
returns-clause-room g c =
    tells-room _ _ _ (stream g.S.Source.left g.S.Source.faults c.args.source.now c.run_words.new.source) (stream g.K.Sink.held g.K.Sink.faults c.args.sink.now c.run_words.new.sink)
    (store g.D.Disk.tells g.D.Disk.view g.D.Disk.counts c.args.disk.now c.run_words.new.disk) _ c.run_words.ensures.echoes

pub returns-clause-spent : goal.returns-clause-spent
returns-clause-spent g c =
    tells-spent _ _ _ (stream g.S.Source.left g.S.Source.faults c.args.source.now c.run_words.new.source) (stream g.K.Sink.held g.K.Sink.faults c.args.sink.now c.run_words.new.sink)
    (store g.D.Disk.tells g.D.Disk.view g.D.Disk.counts c.args.disk.now c.run_words.new.disk) _ c.run_words.ensures.echoes

pub returns-clause-bytes : goal.returns-clause-bytes
returns-clause-bytes g c =
    has-bytes _ _ _ (stream g.S.Source.left g.S.Source.faults c.args.source.now c.run_words.new.source) (stream g.K.Sink.held g.K.Sink.faults c.args.sink.now c.run_words.new.sink)
    (store g.D.Disk.tells g.D.Disk.view g.D.Disk.counts c.args.disk.now c.run_words.new.disk) _ c.run_words.ensures.echoes

pub returns-clause-together : goal.returns-clause-together
returns-clause-together g c =
    is-together _ _ _ (stream g.S.Source.left g.S.Source.faults c.args.source.now c.run_words.new.source) (stream g.K.Sink.held g.K.Sink.faults c.args.sink.now c.run_words.new.sink)
    (store g.D.Disk.tells g.D.Disk.view g.D.Disk.counts c.args.disk.now c.run_words.new.disk) _ c.run_words.ensures.echoes

pub returns-clause-own_calls : goal.returns-clause-own_calls
returns-clause-own_calls g c =
    has-own _ _ _ (stream g.S.Source.left g.S.Source.faults c.args.source.now c.run_words.new.source) (stream g.K.Sink.held g.K.Sink.faults c.args.sink.now c.run_words.new.sink)
    (store g.D.Disk.tells g.D.Disk.view g.D.Disk.counts c.args.disk.now c.run_words.new.disk) _ c.run_words.ensures.echoes

pub returns-clause-sessions : goal.returns-clause-sessions
returns-clause-sessions g c =
    has-sessions _ _ _ (stream g.S.Source.left g.S.Source.faults c.args.source.now c.run_words.new.source) (stream g.K.Sink.held g.K.Sink.faults c.args.sink.now c.run_words.new.sink)
    (store g.D.Disk.tells g.D.Disk.view g.D.Disk.counts c.args.disk.now c.run_words.new.disk) _ c.run_words.ensures.echoes

pub returns-clause-complete : goal.returns-clause-complete
returns-clause-complete g c =
    is-complete _ _ _ (stream g.S.Source.left g.S.Source.faults c.args.source.now c.run_words.new.source) (stream g.K.Sink.held g.K.Sink.faults c.args.sink.now c.run_words.new.sink)
    (store g.D.Disk.tells g.D.Disk.view g.D.Disk.counts c.args.disk.now c.run_words.new.disk) _ c.run_words.ensures.echoes

pub returns-clause-write_behind : goal.returns-clause-write_behind
returns-clause-write_behind g c =
    is-behind _ _ _ (stream g.S.Source.left g.S.Source.faults c.args.source.now c.run_words.new.source) (stream g.K.Sink.held g.K.Sink.faults c.args.sink.now c.run_words.new.sink)
    (store g.D.Disk.tells g.D.Disk.view g.D.Disk.counts c.args.disk.now c.run_words.new.disk) _ c.run_words.ensures.echoes

pub returns-clause-disk : goal.returns-clause-disk
returns-clause-disk g c =
    is-stored _ _ _ (stream g.S.Source.left g.S.Source.faults c.args.source.now c.run_words.new.source) (stream g.K.Sink.held g.K.Sink.faults c.args.sink.now c.run_words.new.sink)
    (store g.D.Disk.tells g.D.Disk.view g.D.Disk.counts c.args.disk.now c.run_words.new.disk) _ c.run_words.ensures.echoes

pub returns-clause-statuses : goal.returns-clause-statuses
returns-clause-statuses g c =
    has-causes _ _ _ (stream g.S.Source.left g.S.Source.faults c.args.source.now c.run_words.new.source) (stream g.K.Sink.held g.K.Sink.faults c.args.sink.now c.run_words.new.sink)
    (store g.D.Disk.tells g.D.Disk.view g.D.Disk.counts c.args.disk.now c.run_words.new.disk) _ c.run_words.ensures.echoes

pub returns-clause-states : goal.returns-clause-states
returns-clause-states g c =
    are-in-order _ _ _ (stream g.S.Source.left g.S.Source.faults c.args.source.now c.run_words.new.source) (stream g.K.Sink.held g.K.Sink.faults c.args.sink.now c.run_words.new.sink)
    (store g.D.Disk.tells g.D.Disk.view g.D.Disk.counts c.args.disk.now c.run_words.new.disk) _ c.run_words.ensures.echoes

pub returns-clause-disk_cut : goal.returns-clause-disk_cut
returns-clause-disk_cut g c =
    has-left _ _ _ (stream g.S.Source.left g.S.Source.faults c.args.source.now c.run_words.new.source) (stream g.K.Sink.held g.K.Sink.faults c.args.sink.now c.run_words.new.sink)
    (store g.D.Disk.tells g.D.Disk.view g.D.Disk.counts c.args.disk.now c.run_words.new.disk) _ c.run_words.ensures.echoes

pub returns-clause-usage : goal.returns-clause-usage
returns-clause-usage g c = asks _ _ _ _ _ c.run_words.ensures.usage c.run_words.ensures.echoes

pub returns-clause-drill : goal.returns-clause-drill
returns-clause-drill g c = does-drill _ _ _ _ _ c.run_words.ensures.echoes

pub returns-clause-check : goal.returns-clause-check
returns-clause-check g c = does-check _ _ _ _ _ c.run_words.ensures.echoes

pub returns-clause-make : goal.returns-clause-make
returns-clause-make g c = does-make _ _ _ _ _ c.run_words.ensures.echoes

pub returns-clause-soak : goal.returns-clause-soak
returns-clause-soak g c =
    does-soak _ _ _ (stream g.S.Source.left g.S.Source.faults c.args.source.now c.run_words.new.source) (stream g.K.Sink.held g.K.Sink.faults c.args.sink.now c.run_words.new.sink)
    (store g.D.Disk.tells g.D.Disk.view g.D.Disk.counts c.args.disk.now c.run_words.new.disk) _ c.run_words.ensures.echoes

pub returns-clause-serve : goal.returns-clause-serve
returns-clause-serve g c = does-serve _ _ _ _ _ c.run_words.ensures.echoes

pub returns-clause-mount : goal.returns-clause-mount
returns-clause-mount g c = does-mount _ _ _ _ _ c.run_words.ensures.echoes

pub returns-clause-mounts : goal.returns-clause-mounts
returns-clause-mounts g c = does-mounts _ _ _ _ _ c.run_words.ensures.echoes

pub returns-clause-untouched : goal.returns-clause-untouched
returns-clause-untouched g c = touches-nothing _ _ _ _ _ c.run_words.ensures.echoes

pub returns-clause-alone : goal.returns-clause-alone
returns-clause-alone g c = is-alone _ _ _ _ _ c.run_words.ensures.echoes

pub returns-clause-claims : goal.returns-clause-claims
returns-clause-claims g c = claims-first

pub returns-clause-lease_history : goal.returns-clause-lease_history
returns-clause-lease_history g c =
    has-lease-history _ _ _ (stream g.S.Source.left g.S.Source.faults c.args.source.now c.run_words.new.source) (stream g.K.Sink.held g.K.Sink.faults c.args.sink.now c.run_words.new.sink)
    (store g.D.Disk.tells g.D.Disk.view g.D.Disk.counts c.args.disk.now c.run_words.new.disk) _ c.run_words.ensures.echoes

pub returns-clause-lease_lines : goal.returns-clause-lease_lines
returns-clause-lease_lines g c =
    has-lease-lines _ _ _ (stream g.S.Source.left g.S.Source.faults c.args.source.now c.run_words.new.source) (stream g.K.Sink.held g.K.Sink.faults c.args.sink.now c.run_words.new.sink)
    (store g.D.Disk.tells g.D.Disk.view g.D.Disk.counts c.args.disk.now c.run_words.new.disk) _ c.run_words.ensures.echoes

pub returns-clause-lease_calls : goal.returns-clause-lease_calls
returns-clause-lease_calls g c =
    has-lease-calls _ _ _ (stream g.S.Source.left g.S.Source.faults c.args.source.now c.run_words.new.source) (stream g.K.Sink.held g.K.Sink.faults c.args.sink.now c.run_words.new.sink)
    (store g.D.Disk.tells g.D.Disk.view g.D.Disk.counts c.args.disk.now c.run_words.new.disk) _ c.run_words.ensures.echoes

pub returns-clause-lease_sessions : goal.returns-clause-lease_sessions
returns-clause-lease_sessions g c =
    has-lease-sessions _ _ _ (stream g.S.Source.left g.S.Source.faults c.args.source.now c.run_words.new.source) (stream g.K.Sink.held g.K.Sink.faults c.args.sink.now c.run_words.new.sink)
    (store g.D.Disk.tells g.D.Disk.view g.D.Disk.counts c.args.disk.now c.run_words.new.disk) _ c.run_words.ensures.echoes

pub returns-clause-lease_disk : goal.returns-clause-lease_disk
returns-clause-lease_disk g c =
    has-lease-disk _ _ _ (stream g.S.Source.left g.S.Source.faults c.args.source.now c.run_words.new.source) (stream g.K.Sink.held g.K.Sink.faults c.args.sink.now c.run_words.new.sink)
    (store g.D.Disk.tells g.D.Disk.view g.D.Disk.counts c.args.disk.now c.run_words.new.disk) _ c.run_words.ensures.echoes

pub returns-clause-lease_complete : goal.returns-clause-lease_complete
returns-clause-lease_complete g c =
    has-lease-complete _ _ _ (stream g.S.Source.left g.S.Source.faults c.args.source.now c.run_words.new.source) (stream g.K.Sink.held g.K.Sink.faults c.args.sink.now c.run_words.new.sink)
    (store g.D.Disk.tells g.D.Disk.view g.D.Disk.counts c.args.disk.now c.run_words.new.disk) _ c.run_words.ensures.echoes

pub returns-clause-lease_bytes : goal.returns-clause-lease_bytes
returns-clause-lease_bytes g c =
    has-lease-bytes _ _ _ (stream g.S.Source.left g.S.Source.faults c.args.source.now c.run_words.new.source) (stream g.K.Sink.held g.K.Sink.faults c.args.sink.now c.run_words.new.sink)
    (store g.D.Disk.tells g.D.Disk.view g.D.Disk.counts c.args.disk.now c.run_words.new.disk) _ c.run_words.ensures.echoes

pub returns-clause-leases : goal.returns-clause-leases
returns-clause-leases g c = does-leases _ _ _ _ _ c.run_words.ensures.echoes
