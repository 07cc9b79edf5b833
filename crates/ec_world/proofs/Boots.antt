-- The last boot of each clerk that had a session.
use Rattle.std.proofs.Common.{◌≡◌, ◌+◌, ◌<◌, ◌≤◌, ◌==◌, ℕ, zero, suc, Bool, false, cond, List, [], ◌∷◌, take, length, Option, None, Some, refl, sym, ap, ◌∙◌, arith}
use Rattle.std.specs.Prelude.{nat_lt}
use Rattle.std.specs.Ordering.{nat_cmp}
use Rattle.std.specs.declared.cmp.Ordering.{Ordering}
use Rattle.std.specs.declared.cmp.Ordering.TheVariants.{Less, Equal, Greater}
use Rattle.std.specs.FinMap.Entries.{put}
use Rattle.ec_sessions.specs.Slots.{Slots, slot_at}
use Rattle.ec_sessions.specs.declared.slot.Slot.{Slot}
use Rattle.ec_protocol.specs.World.{boots_from}

not_less : (k c : ℕ) → c < k → nat_lt k c ≡ false
not_less k c lt = grind arith

not_same : (k c : ℕ) → c < k → (k == c) ≡ false
not_same k c lt = grind arith

greater : (k c : ℕ) → c < k → nat_cmp k c ≡ Greater
greater k c lt = ap (λ (b : Bool). cond b Less (cond (k == c) Equal Greater)) (not_less k c lt) ∙ ap (λ (b : Bool). cond b Equal Greater) (not_same k c lt)

-- a key above the first one goes behind it
above : {X : Type 0} (k c : ℕ) (v w : X) (es : List (ℕ × X)) → c < k → put nat_cmp k v ((c, w) ∷ es) ≡ (c, w) ∷ put nat_cmp k v es
above k c v w es lt = rw (greater k c lt) refl

pub boots_some : (c n k : ℕ) (slots : Slots) (sl : Slot) → k ≡ c + n → slot_at slots n ≡ Some sl → put nat_cmp k sl.age.boot (boots_from c (take n slots)) ≡ boots_from c (take (suc n) slots)
boots_some c zero k [] sl e is = absurd (nothing is)
  where
    nothing : None ≡ Some sl → ⊥
    nothing e = cc
boots_some c (suc n) k [] sl e is = absurd (nothing is)
  where
    nothing : None ≡ Some sl → ⊥
    nothing e = cc
boots_some c zero k (s ∷ ss) sl e is = ap (λ (x : ℕ). (x, sl.age.boot) ∷ []) (first k c e) ∙ sym (ap (λ (o : Option Slot). boots_from c (o ∷ [])) is)
  where
    first : (k c : ℕ) → k ≡ c + 0 → k ≡ c
    first k c e = omega (arith, e)
boots_some c (suc n) k (None ∷ ss) sl e is = boots_some (c + 1) n k ss sl (next k c n e) is
  where
    next : (k c n : ℕ) → k ≡ c + suc n → k ≡ (c + 1) + n
    next k c n e = omega (arith, e)
boots_some c (suc n) k (Some t ∷ ss) sl e is = above k c sl.age.boot t.age.boot (boots_from (c + 1) (take n ss)) (less k c n e) ∙ ap (λ (es : List (ℕ × ℕ)). (c, t.age.boot) ∷ es) (boots_some (c + 1) n k ss sl (next k c n e) is)
  where
    next : (k c n : ℕ) → k ≡ c + suc n → k ≡ (c + 1) + n
    next k c n e = omega (arith, e)

    less : (k c n : ℕ) → k ≡ c + suc n → c < k
    less k c n e = omega (arith, e)

pub boots_none : (c n : ℕ) (slots : Slots) → slot_at slots n ≡ None → boots_from c (take n slots) ≡ boots_from c (take (suc n) slots)
boots_none c zero [] is = refl
boots_none c (suc n) [] is = refl
boots_none c zero (s ∷ ss) is = sym (ap (λ (o : Option Slot). boots_from c (o ∷ [])) is)
boots_none c (suc n) (None ∷ ss) is = boots_none (c + 1) n ss is
boots_none c (suc n) (Some t ∷ ss) is = ap (λ (es : List (ℕ × ℕ)). (c, t.age.boot) ∷ es) (boots_none (c + 1) n ss is)

-- all slots
pub take_all : {X : Type 0} (xs : List X) (n : ℕ) → length xs ≡ n → take n xs ≡ xs
take_all [] zero e = refl
take_all [] (suc n) e = refl
take_all (x ∷ xs) zero e = absurd (omega (arith, e))
take_all (x ∷ xs) (suc n) e = ap (λ l. x ∷ l) (take_all xs n (less (length xs) n e))
  where
    less : (m n : ℕ) → suc m ≡ suc n → m ≡ n
    less m n e = omega (arith, e)

-- one clerk more
pub boots_next : (n k : ℕ) (slots : Slots) (sl : Slot) (old new joined : List (ℕ × ℕ)) → joined ≡ new → new ≡ put nat_cmp k sl.age.boot old → old ≡ boots_from 0 (take n slots) → k ≡ n → slot_at slots k ≡ Some sl → joined ≡ boots_from 0 (take (n + 1) slots)
boots_next n k slots sl old new joined is made old_is same there =
    is ∙ made ∙ ap (put nat_cmp k sl.age.boot) old_is ∙ boots_some 0 n k slots sl (plain k n same) (ap (slot_at slots) (sym same) ∙ there) ∙ ap (λ (m : ℕ). boots_from 0 (take m slots)) (more n)
  where
    plain : (k n : ℕ) → k ≡ n → k ≡ 0 + n
    plain k n e = omega (arith, e)

    more : (n : ℕ) → suc n ≡ n + 1
    more n = omega arith

pub boots_same : (n k : ℕ) (slots : Slots) (old joined : List (ℕ × ℕ)) → joined ≡ old → old ≡ boots_from 0 (take n slots) → k ≡ n → slot_at slots k ≡ None → joined ≡ boots_from 0 (take (n + 1) slots)
boots_same n k slots old joined is old_is same there =
    is ∙ old_is ∙ boots_none 0 n slots (ap (slot_at slots) (sym same) ∙ there) ∙ ap (λ (m : ℕ). boots_from 0 (take m slots)) (more n)
  where
    more : (n : ℕ) → suc n ≡ n + 1
    more n = omega arith

pub boots_all : (n : ℕ) (slots : Slots) (boots : List (ℕ × ℕ)) → boots ≡ boots_from 0 (take n slots) → (0 < n → length slots ≡ 16) → 16 ≤ n → n ≤ 16 → boots ≡ boots_from 0 slots
boots_all n slots boots is sixteen low high = is ∙ ap (boots_from 0) (take_all slots n (sixteen (some n low) ∙ all n low high))
  where
    some : (n : ℕ) → 16 ≤ n → 0 < n
    some n low = omega (arith, low)

    all : (n : ℕ) → 16 ≤ n → n ≤ 16 → 16 ≡ n
    all n low high = omega (arith, low, high)

pub past : (n : ℕ) → 16 ≤ n → n < 16 → ⊥
past n low lt = omega (arith, low, lt)
