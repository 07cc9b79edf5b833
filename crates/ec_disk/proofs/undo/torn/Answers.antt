use Rattle.std.proofs.Common.{◌≡◌, ◌∷◌, [], ◌++◌, ◌∙◌, ap, sym, arith, List, ℕ, map}
use Rattle.std.specs.List.{range_with_len}
use Rattle.std.proofs.lemmas.List.FromFn.{map-range_with_len_more}
use Rattle.ec_disk.specs.Undo.{torn_byte}
use Rattle.ec_disk.proofs.undo.torn.Goals as goal

pub loop-i-preserved : goal.loop-i-preserved
loop-i-preserved c =
    let f = torn_byte c.args.at c.args.new.now c.args.old.now in
    let pushed : c.push.new.self.items ≡ c.loop-i.bytes.items ++ c.torn_byte-byte.result ∷ [] = c.in_ok-push.ensures.items in
    pushed
    ∙ ap (λ (l : List ℕ). l ++ c.torn_byte-byte.result ∷ []) c.loop-i.invariant
    ∙ ap (λ (b : ℕ). map f (range_with_len 0 c.loop-i.i) ++ b ∷ []) c.torn_byte-byte.ensures
    ∙ sym (map-range_with_len_more f 0 c.loop-i.i c.loop-i.i (omega arith))
