use Rattle.std.proofs.Common.{◌≡◌, ℕ, List, [], ◌∷◌, Some, true, false, refl, inr, ◌∙◌, ap, arith, cond}
use Rattle.std.specs.List.{slice_split, onto_first}
use Rattle.ec_base.specs.declared.name.PathFault.TheVariants as unread
use Rattle.ec_base.specs.Names.{is_slash, names_fault}
use Rattle.ec_base.proofs.name.names_of.Goals as goal

deep_onto : (byte : ℕ) (parts : List (List ℕ)) → names_fault 16 (onto_first byte parts) ≡ Some unread.Deep
deep_onto byte [] = refl
deep_onto byte (part ∷ parts) = refl

-- a further name is one too many
deep : (bytes : List ℕ) → names_fault 16 (slice_split is_slash bytes) ≡ Some unread.Deep
deep [] = refl
deep (byte ∷ bytes) = elim (is_slash byte) as (λ b. names_fault 16 (cond b ([] ∷ slice_split is_slash bytes) (onto_first byte (slice_split is_slash bytes))) ≡ Some unread.Deep) [ true ↦ refl | false ↦ deep_onto byte (slice_split is_slash bytes) ]

pub returns-clause-err : goal.returns-clause-err
returns-clause-err c =
    let all : c.loop-before.before ≡ 16 = omega arith in
    inr (c.loop-before.invariant.faults ∙ ap (λ n. names_fault n (slice_split is_slash c.loop-before.rest.now)) all ∙ deep c.loop-before.rest.now)
