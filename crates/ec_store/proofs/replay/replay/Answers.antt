use Rattle.std.proofs.Common.{rules, arith, ℕ, List, length, ap, sym, subst}
use Rattle.ec_stands.specs.Stands.{IsRefused}
use Rattle.std.specs.Prelude.{IsErrOf}
use Rattle.ec_store.specs.declared.fault.StoreFault.TheVariants.{BadDisk}
use Rattle.ec_store.specs.Replay.{Steps, Avoids}
use Rattle.ec_store.proofs.Replaying.{steps_so_far, spares_more, touches_more, front_shorter, record_more, refused_at}
use Rattle.ec_store.proofs.replay.replay.Goals as goal

pub bodies-preserved : goal.bodies-preserved
bodies-preserved c =
    let inv = c.bodies.invariant in
    let x = c.body-item.result in
    record {
      steps = steps_so_far c.args.bodies.now c.bodies.body-index x c.args.state.now c.bodies.state c.replay_one.new.state c.bodies-test.true c.body-item.is inv.steps
          (subst (λ (b : List ℕ). Steps b c.bodies.state c.replay_one.new.state) c.as_slice.ensures c.in_ok-replay_one.ensures.ok);
      formed = c.in_ok-replay_one.ensures.formed;
      spares = spares_more c.bodies.ids.items c.replay_one.new.ids.items c.args.state.now c.bodies.state c.replay_one.new.state inv.spares c.in_ok-replay_one.ensures.spares;
      touches = touches_more c.args.bodies.now c.bodies.body-index x c.bodies.ids.items c.replay_one.new.ids.items c.bodies-test.true c.body-item.is inv.touches
          (λ o avoids. c.in_ok-replay_one.ensures.touches o (subst (Avoids o) (sym c.as_slice.ensures) avoids));
      gate = λ lt. omega (arith, record_more c.args.bodies.now c.bodies.body-index x c.bodies-test.true c.body-item.is, inv.gate (omega (arith, lt, record_more c.args.bodies.now c.bodies.body-index x c.bodies-test.true c.body-item.is)), ap (λ (l : List ℕ). length l) c.as_slice-in-bodies.ensures, c.saturating_add-gate.ensures, lt, c.requires.place);
    }

pub returns-in_err-replay_one-clause-bad : goal.returns-in_err-replay_one-clause-bad
returns-in_err-replay_one-clause-bad c p is short =
    let inv = c.bodies.invariant in
    let x = c.body-item.result in
    let one : IsErrOf c.replay_one.result (BadDisk p) = search rules in
    let u = c.replay_one.ensures.bad p one in
    refused_at c.args.at c.bodies.gate c.args.bodies.now c.bodies.body-index x c.args.state.now c.bodies.state p c.bodies-test.true c.body-item.is inv.steps
    (inv.gate (omega (arith, short, front_shorter c.args.bodies.now c.bodies.body-index x c.bodies-test.true c.body-item.is))) u.0
    (subst (λ (b : List ℕ). IsRefused b c.bodies.state) c.as_slice.ensures u.1)
