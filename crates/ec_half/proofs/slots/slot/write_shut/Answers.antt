use Rattle.std.proofs.Common.{rules, arith, ◌≡◌, ◌∙◌, ◌+◌, ◌<◌, ◌^◌, [], ◌∷◌}
use Rattle.std.specs.Int.{w64, to_be_bytes}
use Rattle.ec_disk.specs.declared.disk.DiskAnswer.TheVariants as said
use Rattle.ec_disk.specs.Effects.{InRange}
use Rattle.ec_disk.specs.Runs.{ran_then}
use Rattle.ec_half.specs.OfSlots.Slots.{place_of}
use Rattle.ec_half.proofs.OfSlots.Raising.{number_ran, gate_ran, number_there, gate_there, number_written, gate_written, numbering_leaves, opening_leaves, is_raised, gate_leaves, number_leaves, written_long}
use Rattle.ec_half.proofs.slots.slot.write_shut.Goals as goal

pub returns-then-ne-clause-ran : goal.returns-then-ne-clause-ran
returns-then-ne-clause-ran g c told =
    let spelled : c.to_be_bytes.result ≡ to_be_bytes w64 c.args.number = search rules in
    let old = g.D.Disk.view c.args.disk.now in
    let mid = g.D.Disk.view c.write_synced-answer.new.disk in
    number_ran (place_of c.args.spare) old mid (number_there c.args.spare c.args.number c.place-at.result _ c.place-at.ensures spelled old mid (c.write_synced-answer.ensures.ran told))

pub returns-clause-ran : goal.returns-clause-ran
returns-clause-ran g c told =
    let spelled : c.to_be_bytes.result ≡ to_be_bytes w64 c.args.number = search rules in
    let old = g.D.Disk.view c.args.disk.now in
    let mid = g.D.Disk.view c.write_synced-answer.new.disk in
    let new = g.D.Disk.view c.write_synced.new.disk in
    let p = place_of c.args.spare in
    ran_then (InRange p 9) old mid new
    (number_ran p old mid (number_there c.args.spare c.args.number c.place-at.result _ c.place-at.ensures spelled old mid (c.write_synced-answer.ensures.ran told)))
    (gate_ran p mid new (gate_there c.args.spare c.place-at.result c.place-at.ensures mid new (c.write_synced.ensures.ran told)))

pub returns-then-ne-clause-any_moment : goal.returns-then-ne-clause-any_moment
returns-then-ne-clause-any_moment g c told present rises ready =
    let spelled : c.to_be_bytes.result ≡ to_be_bytes w64 c.args.number = search rules in
    let short : c.args.number < 2 ^ 64 = omega (arith, c.ranges.number) in
    let old = g.D.Disk.view c.args.disk.now in
    let mid = g.D.Disk.view c.write_synced-answer.new.disk in
    numbering_leaves c.args.spare present c.args.number short rises old mid ready (number_there c.args.spare c.args.number c.place-at.result _ c.place-at.ensures spelled old mid (c.write_synced-answer.ensures.ran told))

pub returns-clause-any_moment : goal.returns-clause-any_moment
returns-clause-any_moment g c told present rises ready =
    let spelled : c.to_be_bytes.result ≡ to_be_bytes w64 c.args.number = search rules in
    let short : c.args.number < 2 ^ 64 = omega (arith, c.ranges.number) in
    let done : c.write_synced-answer.result ≡ said.Done = search rules in
    let old = g.D.Disk.view c.args.disk.now in
    let mid = g.D.Disk.view c.write_synced-answer.new.disk in
    let new = g.D.Disk.view c.write_synced.new.disk in
    opening_leaves c.args.spare present c.args.number short rises old mid ready
    (number_there c.args.spare c.args.number c.place-at.result _ c.place-at.ensures spelled old mid (c.write_synced-answer.ensures.ran told))
    (number_written c.args.spare c.args.number c.place-at.result _ old.gives mid.gives c.place-at.ensures spelled (c.write_synced-answer.ensures.written done told))
    (g.met.D.Disk.given told c.write_synced-answer.new.disk) (c.write_synced-answer.ensures.synced done told)
    new (gate_there c.args.spare c.place-at.result c.place-at.ensures mid new (c.write_synced.ensures.ran told))

pub returns-clause-done : goal.returns-clause-done
returns-clause-done g c is told present rises ready =
    let spelled : c.to_be_bytes.result ≡ to_be_bytes w64 c.args.number = search rules in
    let short : c.args.number < 2 ^ 64 = omega (arith, c.ranges.number) in
    let done : c.write_synced-answer.result ≡ said.Done = search rules in
    let old = g.D.Disk.view c.args.disk.now in
    let mid = g.D.Disk.view c.write_synced-answer.new.disk in
    let new = g.D.Disk.view c.write_synced.new.disk in
    is_raised c.args.spare present c.args.number short rises old mid ready
    (number_there c.args.spare c.args.number c.place-at.result _ c.place-at.ensures spelled old mid (c.write_synced-answer.ensures.ran told))
    (number_written c.args.spare c.args.number c.place-at.result _ old.gives mid.gives c.place-at.ensures spelled (c.write_synced-answer.ensures.written done told))
    (g.met.D.Disk.given told c.write_synced-answer.new.disk) (c.write_synced-answer.ensures.synced done told)
    new (gate_there c.args.spare c.place-at.result c.place-at.ensures mid new (c.write_synced.ensures.ran told))
    (gate_written c.args.spare c.place-at.result 79 mid.gives new.gives c.place-at.ensures (c.write_synced.ensures.written is told))
    (g.met.D.Disk.given told c.write_synced.new.disk) (c.write_synced.ensures.synced is told)

pub returns-clause-content : goal.returns-clause-content
returns-clause-content g c is told long =
    let spelled : c.to_be_bytes.result ≡ to_be_bytes w64 c.args.number = search rules in
    let done : c.write_synced-answer.result ≡ said.Done = search rules in
    let old = g.D.Disk.view c.args.disk.now in
    let mid = g.D.Disk.view c.write_synced-answer.new.disk in
    let new = g.D.Disk.view c.write_synced.new.disk in
    let numbered = number_written c.args.spare c.args.number c.place-at.result _ old.gives mid.gives c.place-at.ensures spelled (c.write_synced-answer.ensures.written done told) in
    gate_leaves c.args.spare 79 mid.gives new.gives (written_long (place_of c.args.spare + 1) (to_be_bytes w64 c.args.number) old.gives mid.gives long numbered)
    (gate_written c.args.spare c.place-at.result 79 mid.gives new.gives c.place-at.ensures (c.write_synced.ensures.written is told))
    ∙ number_leaves c.args.spare c.args.number old.gives mid.gives long numbered

pub returns-clause-long : goal.returns-clause-long
returns-clause-long g c is told long =
    let spelled : c.to_be_bytes.result ≡ to_be_bytes w64 c.args.number = search rules in
    let done : c.write_synced-answer.result ≡ said.Done = search rules in
    let old = g.D.Disk.view c.args.disk.now in
    let mid = g.D.Disk.view c.write_synced-answer.new.disk in
    let new = g.D.Disk.view c.write_synced.new.disk in
    written_long (place_of c.args.spare) (79 ∷ []) mid.gives new.gives
    (written_long (place_of c.args.spare + 1) (to_be_bytes w64 c.args.number) old.gives mid.gives long
    (number_written c.args.spare c.args.number c.place-at.result _ old.gives mid.gives c.place-at.ensures spelled (c.write_synced-answer.ensures.written done told)))
    (gate_written c.args.spare c.place-at.result 79 mid.gives new.gives c.place-at.ensures (c.write_synced.ensures.written is told))
