use Rattle.std.proofs.Common.{◌≡◌, arith, true}
use Rattle.ec_sessions.specs.Slots.{all_unspent}
use Rattle.ec_durable.specs.Durable.{is_next_grant}
use Rattle.ec_durable.specs.StepLaws.{first_next}
use Rattle.ec_durable.proofs.StepLemmas.{none_unspent}
use Rattle.ec_durable.proofs.state.Durable.grant_ids.Goals as goal

pub reserve-requires-clause-new : goal.reserve-requires-clause-new
reserve-requires-clause-new c id from to =
    let next : is_next_grant c.args.clerk c.args.got c.args.first c.args.self.now ≡ true = grind (arith, c.is_next_grant.ensures, c.if-not-is_next_grant.false) in
    let same = first_next c.args.clerk c.args.got c.args.first c.args.self.now next in
    none_unspent c.args.self.now.next_id (all_unspent c.args.self.now.sessions) c.requires.below id (omega (arith, from, same))
