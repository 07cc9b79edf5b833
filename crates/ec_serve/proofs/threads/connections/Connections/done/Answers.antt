use Rattle.std.proofs.Common.{◌≡◌, ◌+◌, [], ◌∷◌, ◌++◌, length, inl, refl, sym, ap, ◌∙◌, subst}
use Rattle.ec_link.specs.NetAnswers.{is_bad}
use Rattle.ec_lock.specs.PassViews.{front, numbers}
use Rattle.ec_lock.specs.Steps.{Member}
use Rattle.ec_serve.specs.OfThreads.ServingMoments.{back_of, moment}
use Rattle.ec_serve.specs.OfThreads.Goings.{goes_back}
use Rattle.ec_serve.proofs.OfThreads.Backs.{gone_back}
use Rattle.ec_serve.proofs.threads.connections.Connections.done.Goals as goal

pub returns-clause-goes : goal.returns-clause-goes
returns-clause-goes g c =
    let faults = g.N.Link.Link.faults in
    let closes = g.N.Link.Link.closes in
    let given = g.N.Link.Link.given in
    let got = g.N.Link.Link.got in
    let self = c.args.self.now in
    let new = c.give_back.new.self in
    let pass = c.args.pass.now.pass in
    let joined = c.join.new.pass.pass in
    let out = c.args.out in
    let other = out.pass.pass in
    let join = c.join.ensures in
    let back = c.give_back.ensures in
    let shot = back.back.0 in
    let alone = c.requires.out.2.0 in
    let in_own : Member other.number (numbers other) = subst (Member other.number) (sym alone) (inl refl) in
    goes_back g.N.Net.faults g.N.Net.bad g.N.Net.ended (back_of faults closes given got)
    (moment c.args.net.now self.tally pass) (moment c.give_back.new.net new.tally joined)
    shot other.number back.faults back.others.0 (ap (λ t. length t.items) back.others.1) back.others.2 back.back.2
    (join.same.0 ∙ ap (λ l. numbers pass ++ l) alone) (λ m. join.apart other.number m in_own) join.later join.own
    (λ e.
    let came = back.came e in
    let gone = gone_back faults closes given got out.is_over other (front joined) out.link shot came.1 back.back.1 (join.others other.number in_own) join.other c.requires.out.1 c.requires.out.2.1 in (
      came.0,
      subst (λ x. g.N.Net.ended c.give_back.new.net ≡ g.N.Net.ended c.args.net.now ++ (given x, got x) ∷ []) (sym back.back.1) came.2,
      came.3 ∙ ap (λ x. g.N.Net.bad c.args.net.now + is_bad (faults x) (closes x)) (sym back.back.1),
      gone.0,
      gone.1,
    ))
