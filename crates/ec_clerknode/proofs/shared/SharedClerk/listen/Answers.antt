use Rattle.std.proofs.Common.{◌+◌, sym, ◌∙◌, subst}
use Rattle.ec_lock.specs.PassViews.{first, front}
use Rattle.ec_clerknode.specs.Closed.{Works}
use Rattle.ec_clerknode.proofs.Turns.{own_only, grown, later_front, works_more, turned, works, said_if}
use Rattle.ec_clerknode.proofs.shared.SharedClerk.listen.Goals as goal

pub end-requires-clause-own : goal.end-requires-clause-own
end-requires-clause-own g c κs within =
    let v = c.enter-turn.result.value in
    let w = c.read-result.new.self in
    own_only c.number-number.result c.enter-turn.new.pass.number (front c.enter-turn.new.pass) v w c.enter-turn.ensures.front (c.enter-turn.ensures.same.0 ∙ sym c.number-number.ensures)
    (works_more c.number-number.result v w c.read-result.result (rw (c.deref_mut.ensures.value ∙ c.node.view_is) at c.read-result.ensures.works))

pub returns-clause-turned : goal.returns-clause-turned
returns-clause-turned g c =
    let v = c.enter-turn.result.value in
    let w = c.read-result.new.self in
    turned (λ l. g.L.Link.faults l + g.L.Link.closes l) g.L.Link.given g.L.Link.got c.args.self.now.lock c.args.pass.now c.enter-turn.new.pass c.end.new.pass v w ((rw (c.deref_mut.ensures.value ∙ c.node.view_is) at c.read-result.ensures.keeps) (first c.args.self.now.lock) c.enter-turn.ensures.since) c.enter-turn.ensures.later
    (grown c.number-number.result v w (works_more c.number-number.result v w c.read-result.result (rw (c.deref_mut.ensures.value ∙ c.node.view_is) at c.read-result.ensures.works)))
    c.enter-turn.ensures.same c.enter-turn.ensures.mark c.end.ensures.pass c.end.ensures.front c.end.ensures.stays c.end.ensures.raises c.enter-turn.ensures.front c.enter-turn.ensures.own
    (own_only c.number-number.result c.enter-turn.new.pass.number (front c.enter-turn.new.pass) v w c.enter-turn.ensures.front (c.enter-turn.ensures.same.0 ∙ sym c.number-number.ensures) (works_more c.number-number.result v w c.read-result.result (rw (c.deref_mut.ensures.value ∙ c.node.view_is) at c.read-result.ensures.works)))

pub returns-clause-worked : goal.returns-clause-worked
returns-clause-worked g c =
    let v = c.enter-turn.result.value in
    let w = c.read-result.new.self in
    let since = c.enter-turn.ensures.since in
    works (λ l. g.L.Link.faults l + g.L.Link.closes l) g.L.Link.given g.L.Link.got (first c.args.self.now.lock) c.args.pass.now.number (front c.args.pass.now) (front c.end.new.pass) v w since ((rw (c.deref_mut.ensures.value ∙ c.node.view_is) at c.read-result.ensures.keeps) (first c.args.self.now.lock) since) c.enter-turn.ensures.later
    (c.enter-turn.ensures.own c.args.pass.now.number c.requires.pass.1) (sym c.end.ensures.front) c.read-result.result
    (subst (λ n. Works n v w c.read-result.result) c.number-number.ensures (rw (c.deref_mut.ensures.value ∙ c.node.view_is) at c.read-result.ensures.works))

pub end-requires-clause-later : goal.end-requires-clause-later
end-requires-clause-later g c κs within =
    let v = c.enter-turn.result.value in
    let w = c.read-result.new.self in
    later_front c.number-number.result (front c.enter-turn.new.pass) v w c.enter-turn.ensures.front (works_more c.number-number.result v w c.read-result.result (rw (c.deref_mut.ensures.value ∙ c.node.view_is) at c.read-result.ensures.works))

pub end-requires-clause-since : goal.end-requires-clause-since
end-requires-clause-since g c κs within = (rw (c.deref_mut.ensures.value ∙ c.node.view_is) at c.read-result.ensures.keeps) (first c.args.self.now.lock) c.enter-turn.ensures.since

pub returns-clause-said : goal.returns-clause-said
returns-clause-said g c =
    said_if (λ l. g.L.Link.faults l + g.L.Link.closes l) g.L.Link.given g.L.Link.got (first c.args.self.now.lock) c.read-result.new.self (front c.end.new.pass) ((rw (c.deref_mut.ensures.value ∙ c.node.view_is) at c.read-result.ensures.keeps) (first c.args.self.now.lock) c.enter-turn.ensures.since) c.end.ensures.front c.read-result.result
    c.read-result.ensures.up
