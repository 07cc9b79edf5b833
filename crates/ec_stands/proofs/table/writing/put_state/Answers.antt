use Rattle.ec_stands.specs.OfTable.Codes.{described}
use Rattle.ec_stands.proofs.OfTable.Written.{state_written}
use Rattle.ec_stands.proofs.table.writing.put_state.Goals as goal

pub returns-clause-written : goal.returns-clause-written
returns-clause-written c =
    state_written c.args.state.now.max_objects (described c.args.state.now c.args.places.now) c.args.out.now.items c.put_word.new.out.items c.put_long.new.out.items c.put_long-2.new.out.items c.put_slots.new.out.items c.put_places.new.out.items
    c.in_ok-put_word.ensures c.in_ok-put_long.ensures c.in_ok-put_long-2.ensures c.in_ok-put_slots.ensures.written (c.in_ok-put_places.ensures c.args.state.now.max_objects c.requires.places)
