-- The batches under way of a clerk: one more begins, and one ends.
use Rattle.std.proofs.Common.{◌≡◌, refl, sym, ap, subst, ◌∙◌, arith, ◌≤◌, ◌<◌, ◌+◌, ℕ, Bool, true, false, not, ◌==◌, cond, List, [], ◌∷◌, ◌++◌}
use Rattle.std.specs.Ordering.{nat_cmp, eq_by_cmp}
use Rattle.std.specs.Cmp.{nat_cmp_is}
use Rattle.std.specs.declared.cmp.Ordering.{Ordering}
use Rattle.std.specs.declared.cmp.Ordering.TheVariants.{Greater}
use Rattle.std.specs.FinMap.Entries.{by_order, where_key}
use Rattle.std.proofs.lemmas.Bool.Decides.{nat_tests}
use Rattle.ec_base.specs.Tables.{Table, put, without}
use Rattle.ec_log.specs.Log.{in_window}
use Rattle.ec_log.specs.declared.state.LogState.{LogState}
use Rattle.ec_drill.proofs.OfPromise.OfSpent.Few.{IsWindow, Rises, least}

above : (n m : ℕ) → m < n → nat_cmp n m ≡ Greater
above n m l = sym (nat_cmp_is n m Greater l)

-- the next number goes to the end
put-last : (first n : ℕ) (x : List ℕ) (bs : Table (List ℕ)) → Rises first n bs → put n x bs ≡ bs ++ (n, x) ∷ []
put-last first n x [] r = refl
put-last first n x (b ∷ bs) r =
    ap (λ (o : Ordering). by_order {A = Table (List ℕ)} o ((n, x) ∷ b ∷ bs) ((b.0, x) ∷ bs) (b ∷ put n x bs)) (above n b.0 r.1) ∙ ap (λ (es : Table (List ℕ)). b ∷ es) (put-last (b.0 + 1) n x bs r.2)

least-more : (n : ℕ) (x : List ℕ) (bs : Table (List ℕ)) → least (n + 1) (bs ++ (n, x) ∷ []) ≡ least n bs
least-more n x [] = refl
least-more n x (b ∷ bs) = refl

rises-more : (first n : ℕ) (x : List ℕ) (bs : Table (List ℕ)) → Rises first n bs → Rises first (n + 1) (bs ++ (n, x) ∷ [])
rises-more first n x [] r = (r, omega arith, omega arith)
rises-more first n x (b ∷ bs) r = (r.0, omega (arith, r.1), rises-more (b.0 + 1) n x bs r.2)

-- the window has room for one more
pub has-room : (l : LogState) (bs : Table (List ℕ)) → in_window l bs ≡ true → l.next_batch ≤ least l.next_batch bs + 8 → l.next_batch + 1 ≤ least l.next_batch bs + 8
has-room l [] e near = omega arith
has-room l (b ∷ bs) e near = go (l.next_batch == b.0 + 8) refl e
  where
    apart : (n m : ℕ) → (n == m) ≡ false → n ≤ m → n + 1 ≤ m
    apart n m e l = grind (arith, nat_tests, e, l)

    go : (z : Bool) → (l.next_batch == b.0 + 8) ≡ z → not z ≡ true → l.next_batch + 1 ≤ b.0 + 8
    go true q f = absurd cc
    go false q f = apart l.next_batch (b.0 + 8) q near

module _ (n : ℕ) (x : List ℕ) (bs : Table (List ℕ)) (w : IsWindow n bs) where
  last : put n x bs ≡ bs ++ (n, x) ∷ []
  last = put-last (least n bs) n x bs w.rises

  pub least-begun : least (n + 1) (put n x bs) ≡ least n bs
  least-begun = ap (least (n + 1)) last ∙ least-more n x bs

  pub begins : n + 1 ≤ least n bs + 8 → IsWindow (n + 1) (put n x bs)
  begins room = record {
    near = omega (arith, room, least-begun);
    rises = subst (λ (first : ℕ). Rises first (n + 1) (put n x bs)) (sym least-begun) (subst (Rises (least n bs) (n + 1)) (sym last) (rises-more (least n bs) n x bs w.rises));
  }

-- Batches that are kept.

wider : (first later n : ℕ) (bs : Table (List ℕ)) → first ≤ later → Rises later n bs → Rises first n bs
wider first later n [] l r = omega (arith, l, r)
wider first later n (b ∷ bs) l r = (omega (arith, l, r.0), r.1, r.2)

from-least : (first n : ℕ) (bs : Table (List ℕ)) → Rises first n bs → (first ≤ least n bs) × Rises (least n bs) n bs
from-least first n [] r = (r, omega arith)
from-least first n (b ∷ bs) r = (r.0, (omega arith, r.1, r.2))

fewer : (p : ℕ → Bool) (first n : ℕ) (bs : Table (List ℕ)) → Rises first n bs → Rises first n (where_key nat_cmp p bs)
fewer p first n [] r = r
fewer p first n (b ∷ bs) r = go (p b.0) (fewer p (b.0 + 1) n bs r.2)
  where
    go : (z : Bool) → Rises (b.0 + 1) n (where_key nat_cmp p bs) → Rises first n (cond z (b ∷ where_key nat_cmp p bs) (where_key nat_cmp p bs))
    go true rest = (r.0, r.1, rest)
    go false rest = wider first (b.0 + 1) n (where_key nat_cmp p bs) (omega (arith, r.0)) rest

pub kept : (n k : ℕ) (bs : Table (List ℕ)) → IsWindow n bs → IsWindow n (without k bs)
kept n k bs w =
    let r = from-least (least n bs) n (without k bs) (fewer (λ other. not (eq_by_cmp nat_cmp k other)) (least n bs) n bs w.rises) in
    record { near = omega (arith, w.near, r.0); rises = r.1 }

-- the least one is no later than the next one
pub least-within : (n : ℕ) (bs : Table (List ℕ)) → IsWindow n bs → least n bs ≤ n
least-within n bs w = go n bs (w.rises)
  where
    go : (n : ℕ) (bs : Table (List ℕ)) → Rises (least n bs) n bs → least n bs ≤ n
    go n [] r = r
    go n (b ∷ bs) r = omega (arith, r.1)

-- where none was begun
pub new-window : IsWindow 1 []
new-window = record { near = omega arith; rises = omega arith }
