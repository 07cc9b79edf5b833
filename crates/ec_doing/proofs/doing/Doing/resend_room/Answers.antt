use Rattle.ec_doing.proofs.doing.Doing.resend_room.Goals as goal

pub returns-in-Some : goal.returns-in-Some
returns-in-Some c = rw c.in-Some.is c.send_room.ensures
