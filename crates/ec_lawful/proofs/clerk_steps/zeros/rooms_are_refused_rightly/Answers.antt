use Rattle.std.proofs.Common.{sym, ap, subst, ◌++◌}
use Rattle.ec_protocol.specs.Clerk.{begin, bye, flush, push, resend, start as start_clerk, take as take_message}
use Rattle.ec_protocol.specs.Server.{end, start, take}
use Rattle.ec_coherence.proofs.ForServer.Lists.{each-more}
use Rattle.ec_lawful.specs.OfClerkSteps.Fulls.{AreFullAt, IsFullAt}
use Rattle.ec_lawful.proofs.OfClerkSteps.ForNames.Sent.{begin-own, bye-own, flush-own, own-full, push-own, resend-own, start-own, take-own}
use Rattle.ec_lawful.proofs.OfClerkSteps.ForNames.Served.{end-right, start-right, take-right}
use Rattle.ec_lawful.proofs.clerk_steps.zeros.rooms_are_refused_rightly.Goals as goal

pub returns-clause-servers : goal.returns-clause-servers
returns-clause-servers z g v same fulls γ = (
  (λ c m. let q = take-right g.durable.max_objects c m v (ap (λ d. d.max_objects) same) in
      subst (λ n. AreFullAt n (g.pool ++ (take c m v).sent)) (sym q.0) (each-more (λ m. IsFullAt g.durable.max_objects m.1) g.pool (take c m v).sent fulls q.1)),
  (λ c. let q = end-right g.durable.max_objects c v (ap (λ d. d.max_objects) same) in
      subst (λ n. AreFullAt n (g.pool ++ (end c v).sent)) (sym q.0) (each-more (λ m. IsFullAt g.durable.max_objects m.1) g.pool (end c v).sent fulls q.1)),
)

pub returns-clause-starts : goal.returns-clause-starts
returns-clause-starts z g fulls γ d same =
    let q = start-right g.durable.max_objects d same in
    subst (λ n. AreFullAt n (g.pool ++ (start d).sent)) (sym q.0) (each-more (λ m. IsFullAt g.durable.max_objects m.1) g.pool (start d).sent fulls q.1)

pub returns-clause-clerks : goal.returns-clause-clerks
returns-clause-clerks z g c b γ fulls = (
  (λ m k. each-more (λ m. IsFullAt g.durable.max_objects m.1) g.pool _ fulls (own-full c g.durable.max_objects (take_message m k).outs (take-own m k))),
  (λ cl k. each-more (λ m. IsFullAt g.durable.max_objects m.1) g.pool _ fulls (own-full c g.durable.max_objects (begin cl k).outs (begin-own cl k))),
  (λ n k. each-more (λ m. IsFullAt g.durable.max_objects m.1) g.pool _ fulls (own-full c g.durable.max_objects (push n k).outs (push-own n k))),
  (λ k. each-more (λ m. IsFullAt g.durable.max_objects m.1) g.pool _ fulls (own-full c g.durable.max_objects (resend k).outs (resend-own k))),
  (λ k. each-more (λ m. IsFullAt g.durable.max_objects m.1) g.pool _ fulls (own-full c g.durable.max_objects (bye k).outs (bye-own k))),
  (λ a k. each-more (λ m. IsFullAt g.durable.max_objects m.1) g.pool _ fulls (own-full c g.durable.max_objects (flush a k).outs (flush-own a k))),
  (λ boot. each-more (λ m. IsFullAt g.durable.max_objects m.1) g.pool _ fulls (own-full c g.durable.max_objects (start_clerk c boot).outs (start-own c boot))),
)
