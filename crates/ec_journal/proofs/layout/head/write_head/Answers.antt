use Rattle.std.proofs.Common.{ℕ, List, length, ap, subst, refl, ◌∙◌}
use Rattle.ec_disk.specs.Effects.{InRange, written}
use Rattle.ec_disk.specs.Runs.{Ran}
use Rattle.ec_journal.specs.OfLayout.Heads.{second_word_leaves, head_leaves, head_done}
use Rattle.ec_journal.proofs.OfLayout.Calls.{both_called}
use Rattle.ec_journal.proofs.layout.head.write_head.Goals as goal

pub returns-in_err-write_synced-clause-any_moment : goal.returns-in_err-write_synced-clause-any_moment
returns-in_err-write_synced-clause-any_moment g c told l headed awaits =
    let old = g.D.Disk.view c.args.disk.now in
    let mid = g.D.Disk.view c.write_synced.new.disk in
    second_word_leaves c.args.max_objects l headed old mid awaits (subst (λ (x : List ℕ). Ran (InRange 8 (length x)) old mid) c.second_word.ensures (c.write_synced.ensures.ran told))

pub returns-in_err-write_synced-2-clause-any_moment : goal.returns-in_err-write_synced-2-clause-any_moment
returns-in_err-write_synced-2-clause-any_moment g c told l headed awaits =
    let old = g.D.Disk.view c.args.disk.now in
    let mid = g.D.Disk.view c.write_synced.new.disk in
    head_leaves c.args.max_objects l headed old mid awaits (subst (λ (x : List ℕ). Ran (InRange 8 (length x)) old mid) c.second_word.ensures (c.write_synced.ensures.ran told))
    (g.met.D.Disk.given told c.write_synced.new.disk) (c.in_ok-write_synced.ensures.synced told) (c.in_ok-write_synced.ensures.written told ∙ ap (λ (x : List ℕ). written 8 x old.gives) c.second_word.ensures)
    (g.D.Disk.view c.write_synced-2.new.disk) (c.write_synced-2.ensures.ran told)

pub returns-clause-any_moment : goal.returns-clause-any_moment
returns-clause-any_moment g c told l headed awaits =
    let old = g.D.Disk.view c.args.disk.now in
    let mid = g.D.Disk.view c.write_synced.new.disk in
    head_leaves c.args.max_objects l headed old mid awaits (subst (λ (x : List ℕ). Ran (InRange 8 (length x)) old mid) c.second_word.ensures (c.write_synced.ensures.ran told))
    (g.met.D.Disk.given told c.write_synced.new.disk) (c.in_ok-write_synced.ensures.synced told) (c.in_ok-write_synced.ensures.written told ∙ ap (λ (x : List ℕ). written 8 x old.gives) c.second_word.ensures)
    (g.D.Disk.view c.write_synced-2.new.disk) (c.write_synced-2.ensures.ran told)

pub returns-clause-done : goal.returns-clause-done
returns-clause-done g c told l headed awaits =
    let old = g.D.Disk.view c.args.disk.now in
    let mid = g.D.Disk.view c.write_synced.new.disk in
    let new = g.D.Disk.view c.write_synced-2.new.disk in
    head_done c.args.max_objects l headed old mid awaits (subst (λ (x : List ℕ). Ran (InRange 8 (length x)) old mid) c.second_word.ensures (c.write_synced.ensures.ran told))
    (g.met.D.Disk.given told c.write_synced.new.disk) (c.in_ok-write_synced.ensures.synced told) (c.in_ok-write_synced.ensures.written told ∙ ap (λ (x : List ℕ). written 8 x old.gives) c.second_word.ensures)
    new (c.write_synced-2.ensures.ran told) (c.in_ok-write_synced-2.ensures.synced told) (g.met.D.Disk.given told c.write_synced-2.new.disk) (c.in_ok-write_synced-2.ensures.written told)

pub returns-clause-calls : goal.returns-clause-calls
returns-clause-calls g c =
    both_called 2 2 4 (g.D.Disk.counts c.args.disk.now) (g.D.Disk.counts c.write_synced.new.disk) (g.D.Disk.counts c.write_synced-2.new.disk) refl c.in_ok-write_synced.ensures.calls c.in_ok-write_synced-2.ensures.calls
