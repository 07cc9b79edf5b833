-- Members of lists.
use Rattle.std.proofs.Common.{sym, subst, ℕ, T, ◌==◌, List, [], ◌∷◌, ◌++◌}
use Rattle.ec_volume.specs.Update.{member}
use Rattle.ec_base.proofs.Numbers.{same-self}
use Rattle.ec_base.proofs.Bools.{or-right, or_first}
use Rattle.ec_volume.proofs.UpdateLemmas.{member-append}

pub member-self : (o : ℕ) (os : List ℕ) → T (member o (o ∷ os))
member-self o os = or_first (o == o) (member o os) (subst T (sym (same-self o)) tt)

pub member-left : (o : ℕ) (xs ys : List ℕ) → T (member o xs) → T (member o (xs ++ ys))
member-left o xs ys h = subst T (sym (member-append o xs ys)) (or_first (member o xs) (member o ys) h)

pub member-right : (o : ℕ) (xs ys : List ℕ) → T (member o ys) → T (member o (xs ++ ys))
member-right o xs ys h = subst T (sym (member-append o xs ys)) (or-right (member o xs) (member o ys) h)

pub member-last : (o : ℕ) (xs : List ℕ) → T (member o (xs ++ o ∷ []))
member-last o xs = member-right o xs (o ∷ []) (member-self o [])
