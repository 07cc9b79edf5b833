-- A server stops with a record of which it isn't shown that it's on the disk.
use Rattle.std.proofs.Common.{◌≡◌, refl, sym, [], None, Some, append-nil}
use Rattle.std.specs.Prelude.{Ok}
use Rattle.ec_durable.specs.Durable.{step}
use Rattle.ec_durable.specs.declared.state.Durable.{Durable}
use Rattle.ec_durable.specs.declared.record.Record.{Record}
use Rattle.ec_protocol.specs.declared.server.Server.{Server}
use Rattle.ec_coherence.specs.System.{System}
use Rattle.ec_coherence.specs.CommitLaws.{AllAgree}
use Rattle.ec_coherence.specs.StandLaws.{stopped}
use Rattle.ec_coherence.proofs.Halts.{halts-stand}
use Rattle.ec_lawful.specs.Doubts.{ComesFrom, DoubtAgrees, doubted}
use Rattle.ec_lawful.proofs.ForWhole.Dressed.{dressed-all}
use Rattle.ec_lawful.proofs.ForWhole.From.{from-more}

module _ (g : System) (all : AllAgree g) (v : Server) (up : g.server ≡ Some v) (r : Record) (d : Durable) (steps : step r g.durable ≡ Ok d) where
  down : AllAgree (stopped g)
  down = halts-stand g all v up

  pub doubted-all : AllAgree (doubted g r)
  doubted-all = dressed-all (stopped g) down g.durable.epoch None (Some r) (stopped g).ghost.old g.pool [] (sym (append-nil g.pool)) (down.0).tokens (λ s x. refl) tt (d, steps)

  pub doubted-from : ComesFrom g r → DoubtAgrees (doubted g r)
  doubted-from q = from-more g (doubted g r) (λ m p. p) r q
