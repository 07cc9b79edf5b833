use Rattle.std.proofs.Common.{Some, None, [], ◌∷◌, ◌++◌, ap, ◌∙◌, arith}
use Rattle.ec_mount.specs.declared.calls.Side.{Side}
use Rattle.ec_mount.proofs.Passing.{first_ran, second_ran}
use Rattle.ec_mount.proofs.calls.run_both.Goals as goal

pub returns-clause-lanes : goal.returns-clause-lanes
returns-clause-lanes g c =
    let first : Side g.row.L.Denot g.row.L-Bell.Denot = record { pass = c.args.passes.0; lanes = Some c.args.lanes } in
    let second : Side g.row.L.Denot g.row.L-Bell.Denot = record { pass = c.args.passes.1; lanes = None } in
    let are = c.in_ok-push-2.ensures.items ∙ ap (λ l. l ++ second ∷ []) (c.in_ok-push.ensures.items ∙ ap (λ l. l ++ first ∷ []) c.in_ok-sides.ensures.items) in
    first_ran c.args.clerk.now.lock (λ (s : Side g.row.L.Denot g.row.L-Bell.Denot). s.pass) (λ (s : Side g.row.L.Denot g.row.L-Bell.Denot). s.lanes) first second c.push-2.new.self.items c.in_ok-ran.ran.items
    c.in-Some.both.lanes c.in-Some.both.worker c.in-Some.both.all c.in-Some.both.met are c.in-Some.ensures
    (λ i d e l. c.in_ok-ran.ensures.each i d e (omega (arith, l, c.in_ok-sides.ensures.len, c.in_ok-push.ensures.len, c.in_ok-push-2.ensures.len)))

pub returns-clause-worker : goal.returns-clause-worker
returns-clause-worker g c =
    let first : Side g.row.L.Denot g.row.L-Bell.Denot = record { pass = c.args.passes.0; lanes = Some c.args.lanes } in
    let second : Side g.row.L.Denot g.row.L-Bell.Denot = record { pass = c.args.passes.1; lanes = None } in
    let are = c.in_ok-push-2.ensures.items ∙ ap (λ l. l ++ second ∷ []) (c.in_ok-push.ensures.items ∙ ap (λ l. l ++ first ∷ []) c.in_ok-sides.ensures.items) in
    second_ran c.args.clerk.now.lock (λ (s : Side g.row.L.Denot g.row.L-Bell.Denot). s.pass) (λ (s : Side g.row.L.Denot g.row.L-Bell.Denot). s.lanes) first second c.push-2.new.self.items c.in_ok-ran.ran.items
    c.in-Some.both.lanes c.in-Some.both.worker c.in-Some.both.all c.in-Some.both.met are c.in-Some.ensures
    (λ i d e l. c.in_ok-ran.ensures.each i d e (omega (arith, l, c.in_ok-sides.ensures.len, c.in_ok-push.ensures.len, c.in_ok-push-2.ensures.len)))
