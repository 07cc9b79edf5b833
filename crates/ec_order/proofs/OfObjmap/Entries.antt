-- A map's pairs by rising objects.
use Rattle.std.proofs.Common.{◌≡◌, ◌∙◌, refl, sym, ap, arith, ℕ, T, cond, List, [], ◌∷◌, Option, Some, None}
use Rattle.std.specs.Prelude.{◌==◌, OnSome}
use Rattle.std.specs.Ordering.{nat_cmp, is_eq}
use Rattle.std.specs.Cmp.{nat_cmp_total, unsigned_ties}
use Rattle.std.specs.FinMap.{is_sorted}
use Rattle.std.specs.FinMap.Entries.{is_sorted-put, find-put, same_entries}
use Rattle.std.specs.declared.cmp.Reverse.{Reverse}
use Rattle.std.specs.BTreeMap.{is_at}
use Rattle.std.specs.Map.{lookup}
use Rattle.std.proofs.lemmas.Bool.Decides.{nat_tests}
use Rattle.ec_base.specs.Tables.{Table, at, put}
use Rattle.ec_order.specs.OfObjmap.Objects.{by_object}
use Rattle.ec_base.proofs.Numbers.{tied}

-- the value of the object
abbrev pub found : {X : Type 0} → ℕ → List (Reverse ℕ × X) → Option X
found k es = lookup (is_at (λ r. nat_cmp r.0 k)) es

pub at-put : {X : Type 0} (j k : ℕ) (x : X) (es : Table X) → at j (put k x es) ≡ cond (j == k) (Some x) (at j es)
at-put j k x es = find-put nat_cmp nat_cmp_total j k x es ∙ ap (λ b. cond b (Some x) (at j es)) (sym (unsigned_ties j k))

turned : (j k : ℕ) → is_eq (nat_cmp k j) ≡ (j == k)
turned j k = grind (arith, nat_tests)

pub at-is : {X : Type 0} (k : ℕ) (es : List (Reverse ℕ × X)) → found k es ≡ at k (by_object es)
at-is k [] = refl
at-is k (e ∷ es) = ap (λ b. cond b (Some e.1) (found k es)) (turned k (e.0).0) ∙ ap (cond (k == (e.0).0) (Some e.1)) (at-is k es) ∙ sym (at-put k (e.0).0 e.1 (by_object es))

rising : {X : Type 0} (es : List (Reverse ℕ × X)) → T (is_sorted nat_cmp (by_object es))
rising [] = tt
rising (e ∷ es) = is_sorted-put nat_cmp nat_cmp_total (e.0).0 e.1 (by_object es) (rising es)

-- one object has another value, or none
abbrev pub IsWith : {X : Type 0} → ℕ → Option X → List (Reverse ℕ × X) → List (Reverse ℕ × X) → Type 0
IsWith k w old new = (q : Reverse ℕ) → found q.0 new ≡ cond (is_at (λ r. nat_cmp r.0 k) q) w (found q.0 old)

pub at-with : {X : Type 0} (k : ℕ) (w : Option X) (old new : List (Reverse ℕ × X)) → IsWith k w old new → (o : ℕ) → at o (by_object new) ≡ cond (o == k) w (at o (by_object old))
at-with k w old new h o = sym (at-is o new) ∙ h (record { 0 = o }) ∙ ap (λ b. cond b w (found o old)) (sym (unsigned_ties o k)) ∙ ap (cond (o == k) w) (at-is o old)

pub put-with : {X : Type 0} (k : ℕ) (x : X) (old new : List (Reverse ℕ × X)) → IsWith k (Some x) old new → by_object new ≡ put k x (by_object old)
put-with k x old new h =
    same_entries nat_cmp nat_cmp_total tied (by_object new) (put k x (by_object old)) (rising new) (is_sorted-put nat_cmp nat_cmp_total k x (by_object old) (rising old))
    (λ o. at-with k (Some x) old new h o ∙ sym (at-put o k x (by_object old)))

pub on-none : {A : Type 0} (P : Type 0) (r : Option A) → r ≡ None → OnSome r P
on-none P None e = tt
on-none P (Some a) e = absurd (apart e)
  where
    apart : {A : Type 0} {x : A} → ◌≡◌ {A = Option A} (Some x) None → ⊥
    apart e = cc

pub on-any : {A P : Type 0} (r : Option A) → P → OnSome r P
on-any None p = tt
on-any (Some a) p = p
