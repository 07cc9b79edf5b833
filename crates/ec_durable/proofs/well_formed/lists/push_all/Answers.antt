use Rattle.std.proofs.Common.{ℕ, List, [], get_or, arith}
use Rattle.std.proofs.lemmas.Option.{slice_get-get_or}
use Rattle.ec_durable.proofs.OfWellFormed.Adding.{entries_more}
use Rattle.ec_durable.proofs.well_formed.lists.push_all.Goals as goal

pub entries-preserved : goal.entries-preserved
entries-preserved c =
    let es = c.args.entries.now in
    let i = c.entries.place in
    let d : List ℕ × ℕ = ([], 0) in
    entries_more es i d c.args.ids.now.items c.entries.ids.items c.push_at.new.ids.items (omega (arith, c.entries-test.true, c.len-place-end.ensures.value)) c.entries.invariant
    (c.in_ok-push_at.ensures (get_or es i d) (slice_get-get_or es i d (omega (arith, c.entries-test.true, c.len-place-end.ensures.value))))
