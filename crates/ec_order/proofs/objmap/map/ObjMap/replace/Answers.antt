use Rattle.std.proofs.Common.{◌∙◌, refl, ap, sym, subst, Some, IsSome}
use Rattle.std.specs.Option.{option_copied_mut}
use Rattle.ec_base.specs.Tables.{at, put}
use Rattle.ec_order.specs.OfObjmap.Objects.{by_object}
use Rattle.ec_order.proofs.OfObjmap.Entries.{at-is, put-with, on-none, on-any}
use Rattle.ec_order.proofs.objmap.map.ObjMap.replace.Goals as goal
use Rattle.ec_order.proofs.objmap.map.ObjMap.replace.Goals.{in-Some, in-None}

pub returns-clause-value : goal.returns-clause-value
returns-clause-value g c =
    let found = c.get_mut.ensures.value ∙ at-is c.args.obj.now c.self.inside.map.entries ∙ ap (at c.args.obj.now) c.self.view_is in
    elim c.match-get_mut.branch [
      | in-Some w ↦ w.result-is ∙ ap Some w.replace.ensures.value ∙ sym (ap option_copied_mut w.in-Some.is) ∙ found
      | in-None w ↦ w.result-is ∙ sym (ap option_copied_mut w.in-None.is) ∙ found
    ]

pub returns-clause-some : goal.returns-clause-some
returns-clause-some g c = elim c.match-get_mut.branch [
  | in-Some w ↦ on-any c.match-get_mut.result (ap (λ i. by_object i.map.entries) w.self-inside-is
      ∙ put-with c.args.obj.now w.replace.new.dest c.self.inside.map.entries (c.get_mut.follows.lender w.replace.new.dest).entries
      ((c.get_mut.follows.holds w.replace.new.dest).3 (subst IsSome (sym (sym c.get_mut.ensures.value ∙ ap option_copied_mut w.in-Some.is)) refl)).0
      ∙ ap (put c.args.obj.now w.replace.new.dest) c.self.view_is
      ∙ ap (λ v. put c.args.obj.now v c.args.self.now) w.replace.ensures.after)
  | in-None w ↦ on-none _ c.match-get_mut.result w.result-is
]
