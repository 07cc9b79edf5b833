-- Rows in a map of rows.
use Rattle.std.proofs.Common.{◌≡◌, ◌+◌, ◌<◌, true, refl, sym, ap, subst, ◌∙◌, ℕ, List, [], ◌∷◌, drop, length, get_or, drop-cons, add-one, Option, None, Some, cond, not, ◌&&◌, filter, arith}
use Rattle.std.specs.Prelude.{◌==◌, OnSome, is_some}
use Rattle.std.specs.declared.cmp.Ordering.TheVariants.{Less, Equal, Greater}
use Rattle.std.proofs.lemmas.Cmp.{tied_itself}
use Rattle.std.specs.Ordering.{nat_cmp}
use Rattle.std.specs.Cmp.{nat_cmp_total, eq_by_cmp_equiv}
use Rattle.std.specs.FinMap.{find, put}
use Rattle.std.specs.FinMap.Entries.{find-put}
use Rattle.ec_base.specs.Sorted.{without}
use Rattle.ec_base.specs.SortedLaws.{put-put, put-found, first as front}
use Rattle.ec_base.specs.declared.ids.Hold.{Hold}
use Rattle.ec_sessions.specs.declared.tokens.token.Token.{Token}
use Rattle.ec_base.specs.Holds.{clash}
use Rattle.ec_sessions.specs.OfTokens.Tokens.{Row, Tokens, with_row, Holder, holders, held_by, mode, first_holder, first_conflict, is_conflict}
use Rattle.ec_sessions.specs.OfTokens.SoundTokens.{IsSound}
use Rattle.ec_base.proofs.Bools.{no-longer}

-- The first of the rows that are left.

module _ (ts : Tokens) (i : ℕ) (r : ℕ × Row) (within : i < length ts) (is : r ≡ get_or ts i r) (x : ℕ) where
  left : drop i ts ≡ r ∷ drop (i + 1) ts
  left = drop-cons ts i r within ∙ (λ k. sym is k ∷ drop (sym (add-one i) k) ts)

  pub holders_left : (o : Option Token) → o ≡ find nat_cmp x r.1 → holders (drop i ts) x ≡ held_by r.0 o (holders (drop (i + 1) ts) x)
  holders_left o found = ap (λ l. holders l x) left ∙ ap (λ p. held_by r.0 p (holders (drop (i + 1) ts) x)) (sym found)

  pub conflict_left : (s : ℕ) (h : Hold) → first_conflict (drop i ts) s x h ≡ cond (not (r.0 == s) && clash (mode (find nat_cmp x r.1)) h) (Some r.0) (first_conflict (drop (i + 1) ts) s x h)
  conflict_left s h = ap (λ l. first_conflict l s x h) left ∙ go (find nat_cmp x r.1)
    where
      more : List Holder
      more = holders (drop (i + 1) ts) x

      go : (o : Option Token) → first_holder (filter (is_conflict s h) (held_by r.0 o more)) ≡ cond (not (r.0 == s) && clash (mode o) h) (Some r.0) (first_holder (filter (is_conflict s h) more))
      go None = grind arith
      go (Some k) = grind arith

-- A row that was taken out, and another one that is put in its place.
pub given : (s : ℕ) (empty r : Row) (old middle new : Tokens) (was : Option Row) → middle ≡ put nat_cmp s empty old → was ≡ find nat_cmp s middle → OnSome was (new ≡ put nat_cmp s r middle) → new ≡ put nat_cmp s r old
given s empty r old middle new (Some w) taken found is = is ∙ ap (put nat_cmp s r) taken ∙ put-put nat_cmp nat_cmp_total s empty r old
given s empty r old middle new None taken found is =
    let none : None ≡ Some empty = found ∙ ap (find nat_cmp s) taken ∙ find-put nat_cmp nat_cmp_total s s empty old ∙ ap (λ b. cond b (Some empty) (find nat_cmp s old)) ((eq_by_cmp_equiv nat_cmp_total).refl s) in
    cc

-- A row that is put in the place of another one.

without-put : (s : ℕ) (q : Row) (ts : Tokens) → without nat_cmp s (put nat_cmp s q ts) ≡ without nat_cmp s ts
without-put s q [] = rw (tied_itself nat_cmp_total s) refl
without-put s q (e ∷ es) =
    elim (nat_cmp s e.0) as (λ r. nat_cmp s e.0 ≡ r → without nat_cmp s (put nat_cmp s q (e ∷ es)) ≡ without nat_cmp s (e ∷ es)) [
      | Less ↦ λ p. rw (p, tied_itself nat_cmp_total s, p) refl
      | Equal ↦ λ p. rw (p, p) refl
      | Greater ↦ λ p. rw (p, p) (ap (λ l. e ∷ l) (without-put s q es))
    ] refl

pub with_row-put : (s : ℕ) (q r : Row) (ts : Tokens) → with_row s r (put nat_cmp s q ts) ≡ with_row s r ts
with_row-put s q r ts = (λ i. cond (length r == 0) (without-put s q ts i) (put-put nat_cmp nat_cmp_total s q r ts i))

-- The row that stands there may be put there again.
pub with_row-found : (s : ℕ) (r : Row) (ts : Tokens) → IsSound ts → find nat_cmp s ts ≡ Some r → with_row s r ts ≡ ts
with_row-found s r ts sound found =
    ap (λ b. cond b (without nat_cmp s ts) (put nat_cmp s r ts)) (no-longer (length r == 0) (front _ _ (sound.rows s r found))) ∙ put-found nat_cmp nat_cmp_total s r ts sound.rising found

pub put_there : (s : ℕ) (q : Row) (ts : Tokens) → is_some (find nat_cmp s (put nat_cmp s q ts)) ≡ true
put_there s q ts = ap is_some (find-put nat_cmp nat_cmp_total s s q ts) ∙ ap (λ b. is_some (cond b (Some q) (find nat_cmp s ts))) ((eq_by_cmp_equiv nat_cmp_total).refl s)

pub taken_out : (s : ℕ) (q r : Row) (old new : Tokens) (was : Option Row) → was ≡ Some r → OnSome was (new ≡ put nat_cmp s q old) → new ≡ put nat_cmp s q old
taken_out s q r old new was is took = subst (λ o. OnSome o (new ≡ put nat_cmp s q old)) is took
