use Rattle.std.proofs.Common.{◌≤◌, length, sym, ap, ◌∙◌, subst, rules}
use Rattle.ec_lock.specs.Steps.{Member, Distinct}
use Rattle.ec_lock.proofs.Keeps.{joins, meets}
use Rattle.ec_lock.proofs.Numbers.{member_left, distinct_apart}
use Rattle.ec_lock.proofs.Turns.{both_le}
use Rattle.ec_lock.proofs.types.TracedLock.take_in.Goals as goal

pub join_seat-requires : goal.join_seat-requires
join_seat-requires g c = (search rules, search rules, search rules, search rules, joins g.V.Traced.list g.V.Traced.number g.V.Traced.floor g.V.Traced.since g.met.V.Traced.grows c.args.self.now.table.shared.key.value _ _ _ _ c.requires.pass.0.2 c.requires.other.2)

pub load-requires : goal.load-requires
load-requires g c =
    let me = c.join_seat.ensures.2 in
    (search rules, search rules, meets g.V.Traced.list g.V.Traced.number g.V.Traced.floor g.V.Traced.since g.met.V.Traced.grows c.args.self.now.table.shared.key.value _ _ c.join_seat.new.seat.me (subst (λ m. length m.0.other ≤ length m.0.front) (sym me) (both_le c.args.pass.now.seat.me.0 c.args.other.me.0)))

pub returns-clause-pass : goal.returns-clause-pass
returns-clause-pass g c =
    let e = c.join_seat.ensures.2 in
    let f = c.load.ensures.2.0 in
    let p = c.requires.pass in (
      (search rules, ap (λ m. m.1) f ∙ (ap (λ m. m.1) e ∙ p.0.1), ap (λ m. m.0.stage) f ∙ (ap (λ m. m.0.stage) e ∙ p.0.2), ap (λ m. m.0.first) f ∙ (ap (λ m. m.0.first) e ∙ p.0.3)),
      subst (Member c.args.pass.now.number) (sym (ap (λ m. m.0.numbers) f ∙ ap (λ m. m.0.numbers) e)) (member_left c.args.pass.now.number c.args.pass.now.seat.me.0.numbers c.args.other.me.0.numbers p.1),
    )

pub returns-clause-apart : goal.returns-clause-apart
returns-clause-apart g c =
    let distinct = subst Distinct (ap (λ m. m.0.numbers) c.join_seat.ensures.2) c.load.ensures.2.3 in
    λ n mine theirs. distinct_apart n c.args.pass.now.seat.me.0.numbers c.args.other.me.0.numbers distinct mine theirs
