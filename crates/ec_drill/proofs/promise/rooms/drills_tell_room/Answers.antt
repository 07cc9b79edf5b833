use Rattle.ec_drill.proofs.OfPromise.OfRooms.Rooms.{drills-tell-room}
use Rattle.ec_drill.proofs.promise.rooms.drills_tell_room.Goals as goal

pub returns : goal.returns
returns c = drills-tell-room
