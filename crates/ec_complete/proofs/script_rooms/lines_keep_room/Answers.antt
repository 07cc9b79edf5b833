use Rattle.ec_complete.proofs.Firsts.{calls-keep-room, pushes-keep-room}
use Rattle.ec_complete.proofs.LinesHaveRoom.{lines-keep-room}
use Rattle.ec_complete.proofs.script_rooms.lines_keep_room.Goals as goal

pub returns-clause-calls : goal.returns-clause-calls
returns-clause-calls c = calls-keep-room

pub returns-clause-pushes : goal.returns-clause-pushes
returns-clause-pushes c = pushes-keep-room

pub returns-clause-deliveries : goal.returns-clause-deliveries
returns-clause-deliveries c = lines-keep-room
