use Rattle.std.proofs.Common.{◌≤◌, ℕ, Err, refl, ◌∙◌, arith, rules}
use Rattle.ec_lock.specs.PassViews.{first}
use Rattle.ec_servernode.specs.Node.{queue_at}
use Rattle.ec_servernode.specs.declared.shared.Turned.TheVariants as turned
use Rattle.ec_attend.proofs.Bodies.{turned_pass, turned_as, ends_anyhow, ends_there}
use Rattle.ec_attend.specs.OverLinks.{own_steps}
use Rattle.ec_attend.proofs.connection.take_rest.Goals as goal

still_failed : (before after : ℕ) → before ≤ after → 1 ≤ before → 1 ≤ after
still_failed before after le some = omega (arith, le, some)

pub returns-in-Ok : goal.returns-in-Ok
returns-in-Ok g c =
    let inv = c.loop.invariant in
    let same = c.serve_one.ensures.same in
    let old = c.loop.pass in
    let new = c.serve_one.new.pass.pass in
    let link = c.serve_one.new.link in record {
      pass = c.serve_one.ensures.pass;
      same = (same.0 ∙ inv.1.0, same.1 ∙ inv.1.1, same.2 ∙ inv.1.2, same.3 ∙ inv.1.3);
      over = still_failed (g.L.Link.faults c.loop.link) (g.L.Link.faults link) c.serve_one.ensures.counts.0 inv.3;
      served = ends_anyhow c.in-Ok.field-0 (own_steps new) (g.L.Link.given link) (g.L.Link.got link)
          (turned_as g.L.Link.given g.L.Link.got g.L.Link.faults g.L.Link.closes g.L.Link.held g.L.Link.clear (queue_at (first c.args.server.now.lock).boxes.items) old.caller old.pass new c.loop.link link
          c.in-Ok.field-0 c.in-Ok.field-0 refl same c.in-Ok.ensures.serves inv.2);
    }

pub returns-in-Err-clause-served : goal.returns-in-Err-clause-served
returns-in-Err-clause-served g c =
    let old = c.loop.pass in
    turned_pass g.L.Link.given g.L.Link.got g.L.Link.faults g.L.Link.closes g.L.Link.held g.L.Link.clear (queue_at (first c.args.server.now.lock).boxes.items) old.caller old.pass c.serve_one.new.pass.pass c.loop.link c.serve_one.new.link
    (Err c.in-Err.fault) c.serve_one.ensures.same c.in-Err.ensures.serves c.loop.invariant.2

pub loop-preserved : goal.loop-preserved
loop-preserved g c =
    let inv = c.loop.invariant in
    let same = c.serve_one.ensures.same in
    let old = c.loop.pass in (
      c.serve_one.ensures.pass,
      (same.0 ∙ inv.1.0, same.1 ∙ inv.1.1, same.2 ∙ inv.1.2, same.3 ∙ inv.1.3),
      turned_as g.L.Link.given g.L.Link.got g.L.Link.faults g.L.Link.closes g.L.Link.held g.L.Link.clear (queue_at (first c.args.server.now.lock).boxes.items) old.caller old.pass c.serve_one.new.pass.pass c.loop.link c.serve_one.new.link
          c.in-Ok-Took.field-0 (turned.Took c.in-Ok-Took.told) (search rules) same c.in-Ok-Took.ensures.serves inv.2,
      still_failed (g.L.Link.faults c.loop.link) (g.L.Link.faults c.serve_one.new.link) c.serve_one.ensures.counts.0 inv.3,
    )

pub returns-clause-served : goal.returns-clause-served
returns-clause-served g c = ends_there g.L.Link.given g.L.Link.got c.loop.pass.pass c.loop.link c.loop.link refl refl c.loop.invariant.2
