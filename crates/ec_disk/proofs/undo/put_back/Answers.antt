use Rattle.std.proofs.Common.{◌≡◌, ◌+◌, ◌-◌, ◌<◌, ◌≤◌, ◌∷◌, [], ◌++◌, ◌∙◌, ap, sym, subst, arith, List, ℕ, length, take, get_or}
use Rattle.std.proofs.lemmas.List.{take_more}
use Rattle.ec_disk.specs.Effects.{written}
use Rattle.ec_disk.specs.Undo.{undone}
use Rattle.ec_disk.specs.declared.undo.Undo.{Undo}
use Rattle.ec_disk.proofs.UndoLaws.{undone-push, last_inside, rest_inside}
use Rattle.ec_disk.proofs.undo.put_back.Goals as goal

-- the undos that are left, and the last of them
split : (undos : List Undo) (left : ℕ) (undo : Undo) → 0 < left → left ≤ length undos → undo ≡ get_or undos (left - 1) undo → take left undos ≡ take (left - 1) undos ++ undo ∷ []
split undos left undo some le is =
    ap (λ (k : ℕ). take k undos) (one_more left some)
    ∙ take_more undos (left - 1) undo (omega (arith, some, le))
    ∙ ap (λ (u : Undo). take (left - 1) undos ++ u ∷ []) (sym is)
  where
    one_more : (n : ℕ) → 0 < n → n ≡ n - 1 + 1
    one_more n some = omega (arith, some)

pub put-requires : goal.put-requires
put-requires c =
    let undo = c.index-undos-left.result in
    let is = split c.args.undos.now c.undos.left undo c.undos-test.true c.undos.invariant.2 c.index-undos-left.is in
    let inside = subst (λ (us : List Undo). length (undone us c.undos.image.items) ≡ length c.undos.image.items) is c.undos.invariant.1 in
    omega (arith, last_inside (take (c.undos.left - 1) c.args.undos.now) undo c.undos.image.items inside, ap length c.as_slice.ensures)

pub undos-preserved : goal.undos-preserved
undos-preserved c =
    let undo = c.index-undos-left.result in
    let undos = take (c.undos.left - 1) c.args.undos.now in
    let image = c.undos.image.items in
    let is = split c.args.undos.now c.undos.left undo c.undos-test.true c.undos.invariant.2 c.index-undos-left.is in
    let inside = subst (λ (us : List Undo). length (undone us image) ≡ length image) is c.undos.invariant.1 in
    let put : c.put.new.image.items ≡ written undo.at undo.old image = c.put.ensures ∙ ap (λ (bytes : List ℕ). written undo.at bytes image) c.as_slice.ensures in (
      ap (λ (l : List ℕ). undone undos l) put ∙ sym (undone-push undos undo image) ∙ ap (λ (us : List Undo). undone us image) (sym is) ∙ c.undos.invariant.0,
      subst (λ (l : List ℕ). length (undone undos l) ≡ length l) (sym put) (rest_inside undos undo image inside),
      omega (arith, c.undos.invariant.2),
    )
