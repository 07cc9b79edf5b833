use Rattle.ec_complete.proofs.Full.{askings-find-room}
use Rattle.ec_complete.proofs.script_rooms.askings_find_room.Goals as goal

pub returns : goal.returns
returns c = askings-find-room
