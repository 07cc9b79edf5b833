use Rattle.ec_complete.proofs.RoomsServe.{servers-grant-room}
use Rattle.ec_complete.proofs.clerk_rooms.servers_grant_room.Goals as goal

pub returns : goal.returns
returns c = servers-grant-room
