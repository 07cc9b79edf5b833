use Rattle.ec_doing.proofs.Steps.{on_ok, room_asked}
use Rattle.std.proofs.lemmas.Bool.{lt-leb}
use Rattle.ec_doing.proofs.doing.Doing.ask_anew.Goals as goal

pub returns : goal.returns
returns c = on_ok c.send_room.result (λ p ws. room_asked ws c.args.self.now c.in-Some.ask _ c.in-Some.ensures.0 (lt-leb _ _ c.in-Some.ensures.1) (p ws)) c.send_room.ensures
