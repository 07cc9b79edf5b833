use Rattle.std.proofs.Common.{◌+◌, sym, ◌∙◌, subst}
use Rattle.ec_lock.specs.PassViews.{first, front}
use Rattle.ec_clerknode.specs.Closed.{PartsBehind}
use Rattle.ec_clerknode.proofs.Turns.{own_only, grown, later_front, parts_more, turned, partings, said_if}
use Rattle.ec_clerknode.proofs.shared.SharedClerk.part.Goals as goal

pub end-requires-clause-own : goal.end-requires-clause-own
end-requires-clause-own g c κs within =
    let v = c.enter-turn.result.value in
    let w = c.read_and_bye-result.new.self in
    own_only c.number-number.result c.enter-turn.new.pass.number (front c.enter-turn.new.pass) v w c.enter-turn.ensures.front (c.enter-turn.ensures.same.0 ∙ sym c.number-number.ensures)
    (parts_more c.number-number.result v w c.read_and_bye-result.result (rw (c.deref_mut.ensures.value ∙ c.node.view_is) at c.read_and_bye-result.ensures.parts))

pub returns-clause-turned : goal.returns-clause-turned
returns-clause-turned g c =
    let v = c.enter-turn.result.value in
    let w = c.read_and_bye-result.new.self in
    turned (λ l. g.L.Link.faults l + g.L.Link.closes l) g.L.Link.given g.L.Link.got c.args.self.now.lock c.args.pass.now c.enter-turn.new.pass c.end.new.pass v w ((rw (c.deref_mut.ensures.value ∙ c.node.view_is) at c.read_and_bye-result.ensures.keeps) (first c.args.self.now.lock) c.enter-turn.ensures.since) c.enter-turn.ensures.later
    (grown c.number-number.result v w (parts_more c.number-number.result v w c.read_and_bye-result.result (rw (c.deref_mut.ensures.value ∙ c.node.view_is) at c.read_and_bye-result.ensures.parts)))
    c.enter-turn.ensures.same c.enter-turn.ensures.mark c.end.ensures.pass c.end.ensures.front c.end.ensures.stays c.end.ensures.raises c.enter-turn.ensures.front c.enter-turn.ensures.own
    (own_only c.number-number.result c.enter-turn.new.pass.number (front c.enter-turn.new.pass) v w c.enter-turn.ensures.front (c.enter-turn.ensures.same.0 ∙ sym c.number-number.ensures) (parts_more c.number-number.result v w c.read_and_bye-result.result (rw (c.deref_mut.ensures.value ∙ c.node.view_is) at c.read_and_bye-result.ensures.parts)))

pub returns-clause-partings : goal.returns-clause-partings
returns-clause-partings g c =
    let v = c.enter-turn.result.value in
    let w = c.read_and_bye-result.new.self in
    let since = c.enter-turn.ensures.since in
    partings (λ l. g.L.Link.faults l + g.L.Link.closes l) g.L.Link.given g.L.Link.got (first c.args.self.now.lock) c.args.pass.now.number (front c.args.pass.now) (front c.end.new.pass) v w since ((rw (c.deref_mut.ensures.value ∙ c.node.view_is) at c.read_and_bye-result.ensures.keeps) (first c.args.self.now.lock) since) c.enter-turn.ensures.later
    (c.enter-turn.ensures.own c.args.pass.now.number c.requires.pass.1) (sym c.end.ensures.front) c.read_and_bye-result.result
    (subst (λ n. PartsBehind n v w c.read_and_bye-result.result) c.number-number.ensures (rw (c.deref_mut.ensures.value ∙ c.node.view_is) at c.read_and_bye-result.ensures.parts))

pub end-requires-clause-later : goal.end-requires-clause-later
end-requires-clause-later g c κs within =
    let v = c.enter-turn.result.value in
    let w = c.read_and_bye-result.new.self in
    later_front c.number-number.result (front c.enter-turn.new.pass) v w c.enter-turn.ensures.front (parts_more c.number-number.result v w c.read_and_bye-result.result (rw (c.deref_mut.ensures.value ∙ c.node.view_is) at c.read_and_bye-result.ensures.parts))

pub end-requires-clause-since : goal.end-requires-clause-since
end-requires-clause-since g c κs within = (rw (c.deref_mut.ensures.value ∙ c.node.view_is) at c.read_and_bye-result.ensures.keeps) (first c.args.self.now.lock) c.enter-turn.ensures.since

pub returns-clause-said : goal.returns-clause-said
returns-clause-said g c =
    said_if (λ l. g.L.Link.faults l + g.L.Link.closes l) g.L.Link.given g.L.Link.got (first c.args.self.now.lock) c.read_and_bye-result.new.self (front c.end.new.pass) ((rw (c.deref_mut.ensures.value ∙ c.node.view_is) at c.read_and_bye-result.ensures.keeps) (first c.args.self.now.lock) c.enter-turn.ensures.since) c.end.ensures.front c.read_and_bye-result.result
    c.read_and_bye-result.ensures.up
