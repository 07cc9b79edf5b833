use Rattle.ec_sessions.specs.Slots.{sixteen}
use Rattle.ec_sessions.specs.IdLaws.{with_ids-made}
use Rattle.ec_sessions.proofs.unspent.with_ids.Goals as goal

pub returns : goal.returns
unfolding sixteen
returns c =
    with_ids-made c.args.first c.count_below-at.result c.args.ids.now c.in_ok-all.all.items c.extend_from_slice.new.self.items c.push_run.new.ids.items c.extend_from_slice-2.new.self.items
    c.count_below-at.ensures c.in_ok-all.ensures.items c.in_ok-extend_from_slice.ensures.items c.in_ok-push_run.ensures c.in_ok-extend_from_slice-2.ensures.items
