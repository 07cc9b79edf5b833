use Rattle.std.specs.FinMap.Entries.{put}
use Rattle.ec_protocol.specs.declared.pool.links.Link.{Link}
use Rattle.std.proofs.Common.{◌≡◌, subst, OnOk, nat_cmp, sym, ap, ◌∙◌, arith, vec_capacity, option_copied}
use Rattle.ec_base.specs.Tables.{at}
use Rattle.ec_volume.specs.Update.{member}
use Rattle.ec_protocol.specs.OfPool.Pools.{Pooled}
use Rattle.ec_protocol.proofs.OfPool.Laws.{repeat_is, made_same, made_put, pending_on, on_ok, none_of}
use Rattle.ec_protocol.proofs.OfPool.Lists.{member_keys, found}
use Rattle.ec_protocol.proofs.pool.pool.Pool.make_pending.Goals as goal

pub returns-then-contains-clause-ok : goal.returns-then-contains-clause-ok
returns-then-contains-clause-ok c = λ w.
    repeat_is w c.args.self.now c.args.self.now c.args.number c.requires
    (made_same w c.args.self.now c.args.number (ap (λ (p : Pooled). member c.args.number p.pending) (sym c.self.view_is) ∙ member_keys c.args.number c.self.inside.pending ∙ sym c.contains.ensures ∙ c.if-contains.true))

pub returns-then-contains-clause-pending : goal.returns-then-contains-clause-pending
returns-then-contains-clause-pending c = λ w.
    made_same w c.args.self.now c.args.number (ap (λ (p : Pooled). member c.args.number p.pending) (sym c.self.view_is) ∙ member_keys c.args.number c.self.inside.pending ∙ sym c.contains.ensures ∙ c.if-contains.true)

pub invariant_of-self-2 : goal.invariant_of-self-2
invariant_of-self-2 c =
    let p = c.self.inside in
    pending_on p.sent p.counts.items p.kept.entries p.pending p.cut.items p.settled.items p.forgotten_at (vec_capacity p.settled) c.self.invariant c.insert.result c.args.number c.in-Some.sent.now c.insert.new.self c.reserve.new.self.items (vec_capacity c.reserve.new.self)
    (sym (found c.args.number p.kept.entries) ∙ sym c.get.ensures.value ∙ ap option_copied c.in-Some.is) (none_of (at c.args.number p.pending) (sym c.contains.ensures ∙ c.if-contains.false)) c.in_ok-reserve.ensures.items (let a = c.in_ok-reserve.ensures.ok in let b = c.in_ok-reserve.ensures.len in let d = p.settled.ok in let e = c.len.ensures in omega arith) c.in_ok-reserve.ensures.capacity
    (subst (λ (l : Link). OnOk c.insert.result (c.insert.new.self ≡ put nat_cmp c.args.number l p.pending)) c.link_of-link.ensures c.insert.ensures.ok) c.insert.ensures.err

pub returns-clause-ok : goal.returns-clause-ok
returns-clause-ok c =
    let p = c.self.inside in
    on_ok c.insert.result c.insert.ensures.ok (λ e w. repeat_is w c.args.self.now _ c.args.number c.requires
    (made_put p.sent p.counts.items p.kept.entries p.pending p.cut.items c.args.self.now c.self.view_is c.args.number _ c.insert.new.self (none_of (at c.args.number p.pending) (sym c.contains.ensures ∙ c.if-contains.false)) e w))

pub returns-clause-pending : goal.returns-clause-pending
returns-clause-pending c =
    let p = c.self.inside in
    on_ok c.insert.result c.insert.ensures.ok (λ e w.
    made_put p.sent p.counts.items p.kept.entries p.pending p.cut.items c.args.self.now c.self.view_is c.args.number _ c.insert.new.self (none_of (at c.args.number p.pending) (sym c.contains.ensures ∙ c.if-contains.false)) e w)
