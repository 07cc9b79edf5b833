use Rattle.ec_world.specs.Worlds as worlds
use Rattle.ec_lease.proofs.Noting.{notes_one}
use Rattle.ec_lease.proofs.world.LeaseWorld.note_of.Goals as goal

pub returns-in-Some-open_session-clause-ok : goal.returns-in-Some-open_session-clause-ok
returns-in-Some-open_session-clause-ok c =
    notes_one c.note.result c.args.number c.in-Some.clerk c.in-Some-open_session.session (worlds.view_of c.args.self.now.world) c.args.self.now.book c.note.new.self
    c.in-Some.ensures.some c.in-Some-open_session.ensures.value c.note.ensures
