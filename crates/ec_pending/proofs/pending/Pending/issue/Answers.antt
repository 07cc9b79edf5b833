use Rattle.std.proofs.Common.{◌≡◌, ◌<◌, ◌+◌, refl, sym, subst, true}
use Rattle.std.proofs.lemmas.Result.{on_ok_weaker}
use Rattle.ec_log.specs.OfChains.Held.{is_behind}
use Rattle.ec_pending.specs.Pending.{AreEarly, AreRising, AreWithin}
use Rattle.ec_pending.proofs.Holding.{behind-held, up_to-on, within-on, within-more, early-kept, early-issued, count-below, issued-up_to, issued-view}
use Rattle.ec_pending.proofs.Rising.{rising-issued}
use Rattle.ec_pending.proofs.pending.Pending.issue.Goals as goal

pub invariant_of-self : goal.invariant_of-self
invariant_of-self c = (
  up_to-on c.self.inside.count c.op.inside.0 c.self.inside.order (count-below c.self.inside.count c.op.inside.0 c.args.op _ c.args.self.now c.self.view_is c.op.view_is c.requires) c.self.invariant.0,
  c.self.invariant.1,
  c.self.invariant.2,
  c.self.invariant.3,
)

pub invariant_of-self-in-Err : goal.invariant_of-self-in-Err
invariant_of-self-in-Err c =
    let last = c.later-self-inside.result in (
      up_to-on c.self.inside.count c.op.inside.0 c.self.inside.order (count-below c.self.inside.count c.op.inside.0 c.args.op _ c.args.self.now c.self.view_is c.op.view_is c.requires) c.self.invariant.0,
      subst (AreWithin last) (sym c.in-Err.ensures.err) (within-on c.self.inside.last last c.self.inside.places c.later-self-inside.ensures.place c.self.invariant.1),
      subst (λ ps. AreEarly c.prepare-ready.new.lasts ps c.self.inside.order) (sym c.in-Err.ensures.err)
          (early-kept last c.self.inside.places c.self.inside.lasts c.prepare-ready.new.lasts c.self.inside.order (within-on c.self.inside.last last c.self.inside.places c.later-self-inside.ensures.place c.self.invariant.1) c.prepare-ready.ensures.old c.self.invariant.2),
      (λ e. subst (λ ps. AreRising ps c.self.inside.order) (sym c.in-Err.ensures.err) (c.self.invariant.3 (c.rises-self-inside.ensures e).0)),
    )

pub hold-requires : goal.hold-requires
hold-requires c = behind-held c.self.inside.count c.args.op c.self.inside.order (count-below c.self.inside.count c.args.op c.args.op _ c.args.self.now c.self.view_is refl c.requires) c.self.invariant.0

pub invariant_of-self-2 : goal.invariant_of-self-2
invariant_of-self-2 c =
    let last = c.later-self-inside.result in
    let less : c.self.inside.count < c.args.op = count-below c.self.inside.count c.args.op c.args.op _ c.args.self.now c.self.view_is refl c.requires in
    let behind : is_behind c.args.op c.self.inside.order ≡ true = behind-held c.self.inside.count c.args.op c.self.inside.order less c.self.invariant.0 in (
      subst (λ n. is_behind (n + 1) c.hold.new.self ≡ true) (sym c.op.view_is) (issued-up_to c.hold.result c.self.inside.count c.args.op c.in-Some.update c.self.inside.order c.hold.new.self less c.self.invariant.0 c.hold.ensures.ok c.hold.ensures.err),
      subst (AreWithin last) (sym c.in_default-ready.ensures.ok) (within-more c.self.inside.last last c.args.op c.args.place c.self.inside.places c.later-self-inside.ensures.place c.later-self-inside.ensures.other c.self.invariant.1),
      subst (λ ps. AreEarly c.prepare-ready.new.lasts ps c.hold.new.self) (sym c.in_default-ready.ensures.ok)
          (early-issued c.hold.result c.args.op c.args.place last c.in-Some.update c.self.inside.places c.self.inside.lasts c.prepare-ready.new.lasts c.self.inside.order c.hold.new.self behind
          (within-on c.self.inside.last last c.self.inside.places c.later-self-inside.ensures.place c.self.invariant.1) c.prepare-ready.ensures.old c.later-self-inside.ensures.other
          c.in_default-ready.ensures.new c.self.invariant.2 c.hold.ensures.ok c.hold.ensures.err),
      (λ e. subst (λ ps. AreRising ps c.hold.new.self) (sym c.in_default-ready.ensures.ok)
          (rising-issued c.hold.result c.args.op c.args.place c.self.inside.last c.in-Some.update c.self.inside.places c.self.inside.order c.hold.new.self behind c.self.invariant.1 (c.rises-self-inside.ensures e).1 (c.self.invariant.3 (c.rises-self-inside.ensures e).0) c.hold.ensures.ok c.hold.ensures.err)),
    )

pub returns-clause-pending : goal.returns-clause-pending
returns-clause-pending c =
    let less : c.self.inside.count < c.args.op = count-below c.self.inside.count c.args.op c.args.op _ c.args.self.now c.self.view_is refl c.requires in
    on_ok_weaker c.hold.result
    (issued-view c.self.inside.count c.args.op c.op.inside.0 c.args.place c.in-Some.update c.self.inside.places c.prepare-ready.new.places c.self.inside.order c.hold.new.self c.args.self.now c.args.update c.self.view_is c.op.view_is c.in-Some.is c.in_default-ready.ensures.ok
    (behind-held c.self.inside.count c.args.op c.self.inside.order less c.self.invariant.0))
    c.hold.ensures.ok
