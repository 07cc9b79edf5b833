use Rattle.std.proofs.Common.{[], ◌∷◌, ◌++◌, ◌∙◌, ap, sym, length}
use Rattle.ec_servernode.specs.declared.step.Step.{Step}
use Rattle.ec_servernode.specs.Node.{queue_at, owner_at}
use Rattle.ec_servernode.specs.Run.{put_all, for_clerk}
use Rattle.ec_servernode.proofs.state.Node.grow.Goals as goal

pub returns-in-Ok : goal.returns-in-Ok
returns-in-Ok g c =
    let others = c.add.ensures.others in
    let step : _ → Step = λ b. record { pass = c.args.pass; deed = c.args.deed; lost = b } in
    let up = ap (λ n. n.broken) others ∙ c.requires.up in
    record {
      list = c.add.ensures.list ∙ ap (λ b. c.args.self.now.trace.items ++ step b ∷ []) (sym up);
      steps = ap (λ n. n.steps) others;
      server = ap (λ n. n.server) others;
      keeper = ap (λ n. n.keeper) others;
      halt_is = ap (λ n. n.halt) others;
      sized = ap (λ n. length n.boxes.items) others ∙ c.post_all.ensures.sized;
      posted = λ _ k. ap (λ n. queue_at n.boxes.items k) others ∙ (c.in-Ok.ensures.put k ∙ ap (λ q. put_all q (for_clerk k c.args.sent.items)) (c.own.ensures.same k));
      owners = λ k le. ap (λ n. owner_at n.boxes.items k) others ∙ (c.post_all.ensures.owners k ∙ c.own.ensures.owners k le);
    }

pub returns-in-Err : goal.returns-in-Err
returns-in-Err g c =
    let others = c.add-in-Err.ensures.others in
    record {
      list = c.add-in-Err.ensures.list;
      steps = ap (λ n. n.steps) others;
      server = ap (λ n. n.server) others;
      keeper = ap (λ n. n.keeper) others;
      halt_is = ap (λ n. n.halt) others;
      sized = ap (λ n. length n.boxes.items) others ∙ c.post_all.ensures.sized;
      posted = λ up. absurd (cc up);
      owners = λ k le. ap (λ n. owner_at n.boxes.items k) others ∙ (c.post_all.ensures.owners k ∙ c.own.ensures.owners k le);
    }
