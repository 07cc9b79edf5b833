use Rattle.std.proofs.Common.{rules, arith, ◌≡◌, ◌∙◌, [], ◌∷◌}
use Rattle.ec_disk.specs.declared.disk.DiskAnswer.TheVariants as said
use Rattle.ec_disk.specs.Effects.{InRange}
use Rattle.ec_disk.specs.Runs.{ran_then, leaves_then}
use Rattle.ec_half.specs.OfSlots.Slots.{place_of, HoldsEither}
use Rattle.ec_half.proofs.OfSlots.Raising.{gate_ran, gate_there, gate_written, shutting_leaves, is_shut, gate_leaves, written_long}
use Rattle.ec_half.proofs.slots.slot.write_open.Goals as goal

pub returns-then-ne-clause-ran : goal.returns-then-ne-clause-ran
returns-then-ne-clause-ran g c told =
    let old = g.D.Disk.view c.args.disk.now in
    let mid = g.D.Disk.view c.write_synced-answer.new.disk in
    gate_ran (place_of c.args.spare) old mid (gate_there c.args.spare c.place-at.result c.place-at.ensures old mid (c.write_synced-answer.ensures.ran told))

pub returns-clause-ran : goal.returns-clause-ran
returns-clause-ran g c told =
    let old = g.D.Disk.view c.args.disk.now in
    let mid = g.D.Disk.view c.write_synced-answer.new.disk in
    let new = g.D.Disk.view c.write_shut.new.disk in
    let p = place_of c.args.spare in
    ran_then (InRange p 9) old mid new (gate_ran p old mid (gate_there c.args.spare c.place-at.result c.place-at.ensures old mid (c.write_synced-answer.ensures.ran told))) (c.write_shut.ensures.ran told)

pub returns-then-ne-clause-any_moment : goal.returns-then-ne-clause-any_moment
returns-then-ne-clause-any_moment g c told present rises ready =
    let old = g.D.Disk.view c.args.disk.now in
    let mid = g.D.Disk.view c.write_synced-answer.new.disk in
    shutting_leaves c.args.spare present old mid ready (gate_there c.args.spare c.place-at.result c.place-at.ensures old mid (c.write_synced-answer.ensures.ran told)) c.args.number

pub returns-clause-any_moment : goal.returns-clause-any_moment
returns-clause-any_moment g c told present rises ready =
    let done : c.write_synced-answer.result ≡ said.Done = search rules in
    let old = g.D.Disk.view c.args.disk.now in
    let mid = g.D.Disk.view c.write_synced-answer.new.disk in
    let new = g.D.Disk.view c.write_shut.new.disk in
    let ran = gate_there c.args.spare c.place-at.result c.place-at.ensures old mid (c.write_synced-answer.ensures.ran told) in
    leaves_then (HoldsEither c.args.spare present c.args.number) old mid new (shutting_leaves c.args.spare present old mid ready ran c.args.number)
    (c.write_shut.ensures.any_moment told present rises (is_shut c.args.spare present old mid ready ran 0 (λ e. absurd (omega (arith, e))) (gate_written c.args.spare c.place-at.result 0 old.gives mid.gives c.place-at.ensures (c.write_synced-answer.ensures.written done told))
    (g.met.D.Disk.given told c.write_synced-answer.new.disk) (c.write_synced-answer.ensures.synced done told)))

pub returns-clause-done : goal.returns-clause-done
returns-clause-done g c is told present rises ready =
    let done : c.write_synced-answer.result ≡ said.Done = search rules in
    let old = g.D.Disk.view c.args.disk.now in
    let mid = g.D.Disk.view c.write_synced-answer.new.disk in
    let ran = gate_there c.args.spare c.place-at.result c.place-at.ensures old mid (c.write_synced-answer.ensures.ran told) in
    c.write_shut.ensures.done is told present rises (is_shut c.args.spare present old mid ready ran 0 (λ e. absurd (omega (arith, e))) (gate_written c.args.spare c.place-at.result 0 old.gives mid.gives c.place-at.ensures (c.write_synced-answer.ensures.written done told))
    (g.met.D.Disk.given told c.write_synced-answer.new.disk) (c.write_synced-answer.ensures.synced done told))

pub returns-clause-content : goal.returns-clause-content
returns-clause-content g c is told long =
    let done : c.write_synced-answer.result ≡ said.Done = search rules in
    let old = g.D.Disk.view c.args.disk.now in
    let mid = g.D.Disk.view c.write_synced-answer.new.disk in
    let wrote = gate_written c.args.spare c.place-at.result 0 old.gives mid.gives c.place-at.ensures (c.write_synced-answer.ensures.written done told) in
    c.write_shut.ensures.content is told (written_long (place_of c.args.spare) (0 ∷ []) old.gives mid.gives long wrote) ∙ gate_leaves c.args.spare 0 old.gives mid.gives long wrote

pub returns-clause-long : goal.returns-clause-long
returns-clause-long g c is told long =
    let done : c.write_synced-answer.result ≡ said.Done = search rules in
    let old = g.D.Disk.view c.args.disk.now in
    let mid = g.D.Disk.view c.write_synced-answer.new.disk in
    c.write_shut.ensures.long is told
    (written_long (place_of c.args.spare) (0 ∷ []) old.gives mid.gives long (gate_written c.args.spare c.place-at.result 0 old.gives mid.gives c.place-at.ensures (c.write_synced-answer.ensures.written done told)))
