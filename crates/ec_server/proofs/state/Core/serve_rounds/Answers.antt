use Rattle.std.proofs.Common.{sym, ◌∙◌}
use Rattle.ec_server.specs.LoopLaws.{rounds_on, rounds_shorten, rounds_keep}
use Rattle.ec_server.specs.Steps.{under}
use Rattle.ec_server.proofs.state.Core.serve_rounds.Goals as goal

pub rounds-smaller : goal.rounds-smaller
rounds-smaller g c =
    let d = g.K.Keeper.kept c.args.keeper.now in
    rounds_shorten (under d c.rounds.self) (under d c.serve_round.new.self) _ c.in_ok-serve_round.ensures.round c.in_ok-serve_round.ensures.grants c.if-not-branch.false

pub rounds-preserved : goal.rounds-preserved
rounds-preserved g c =
    let d = g.K.Keeper.kept c.args.keeper.now in (
      sym (rounds_on (under d c.rounds.self) (under d c.serve_round.new.self) _ c.in_ok-serve_round.ensures.round c.in_ok-serve_round.ensures.grants c.if-not-branch.false) ∙ c.rounds.invariant.0,
      rounds_keep (under d c.rounds.self) (under d c.serve_round.new.self) c.in_ok-serve_round.ensures.round c.rounds.invariant.1,
    )
