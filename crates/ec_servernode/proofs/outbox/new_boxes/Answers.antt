use Rattle.std.proofs.Common.{◌≡◌, [], ◌∷◌, ◌++◌, ◌+◌, None, length, length-append, sym, ap, ◌∙◌, subst, rules}
use Rattle.ec_servernode.specs.Node.{queue_at, owner_at}
use Rattle.ec_servernode.proofs.Boxes.{push_empty}
use Rattle.ec_servernode.proofs.outbox.new_boxes.Goals as goal

pub loop-preserved : goal.loop-preserved
loop-preserved c =
    let bs = c.loop.boxes.items in
    let is : c.add_box.new.boxes.items ≡ bs ++ c.new.result ∷ [] = search rules in (
      ap length is ∙ (length-append bs (c.new.result ∷ []) ∙ ap (λ n. n + 1) c.loop.invariant.0),
      λ k. subst (λ l. (queue_at l k ≡ []) × (owner_at l k ≡ None)) (sym is) (push_empty bs c.new.result c.loop.invariant.1 c.new.ensures.0 c.new.ensures.1 k),
    )
