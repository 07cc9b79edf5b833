use Rattle.std.proofs.Common.{sym, subst, ℕ, Option, MatchOption}
use Rattle.ec_protocol.specs.OfPool.Insides.{CountsAt, CountsNew}
use Rattle.ec_protocol.proofs.OfPool.Laws.{places}
use Rattle.ec_protocol.proofs.pool.counts.place_of.Goals as goal

pub returns : goal.returns
returns c =
    subst (λ (o : Option ℕ). MatchOption o (CountsNew c.args.clerk c.args.kind c.args.counts.now) (CountsAt c.args.clerk c.args.kind c.args.counts.now)) (sym c.position_of.ensures)
    (places c.args.clerk c.args.kind c.args.counts.now)
