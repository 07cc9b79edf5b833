-- What a link tells, with more at its end.
use Rattle.std.proofs.Common.{◌≡◌, ℕ, List, [], ◌++◌, length, map, take, Option, Some, None, sym, refl, ap, ◌∙◌, append_assoc, append-nil}
use Rattle.ec_link.specs.Links.{added}
use Rattle.ec_protocol.specs.declared.clerk.Out.{Out}
use Rattle.ec_outs.specs.Outs.{encoded, send_of, sends}
use Rattle.ec_outs.proofs.Each.{each-take}

pub added-nil : {A : Type 0} (o : Option (List A)) → added o [] ≡ o
added-nil None = refl
added-nil (Some xs) = ap Some (append-nil xs)

pub added-added : {A : Type 0} (o : Option (List A)) (xs ys : List A) → added (added o xs) ys ≡ added o (xs ++ ys)
added-added None xs ys = refl
added-added (Some zs) xs ys = ap Some (append_assoc zs xs ys)

-- what was sent before the end
pub cut_off : (o p : Option (List (List ℕ))) (outs : List Out) (i n : ℕ) → n ≡ length (sends (take i outs)) → p ≡ added o (map encoded (sends (take i outs))) → p ≡ added o (map encoded (take n (sends outs)))
cut_off o p outs i n is e = e ∙ ap (λ l. added o (map encoded l)) (sym (ap (λ k. take k (sends outs)) is ∙ each-take send_of outs i))
