-- Lists that are taken out of a map and put back, and their places counted from 1.
use Rattle.std.proofs.Common.{◌≡◌, ◌<◌, ◌+◌, ◌-◌, ℕ, suc, zero, List, [], ◌∷◌, ◌++◌, Bool, Option, Some, None, true, false, length, drop, get_or, drop-cons, refl, sym, ap, subst, ◌∙◌, arith}
use Rattle.std.specs.Prelude.{◌==◌, T, slice_get}
use Rattle.std.specs.declared.cmp.Ordering.{Ordering}
use Rattle.std.specs.declared.cmp.Ordering.TheVariants.{Less, Equal, Greater}
use Rattle.std.specs.Cmp.{nat_cmp_total}
use Rattle.std.specs.Ordering.{nat_cmp}
use Rattle.std.specs.FinMap.Entries.{is_sorted, below_all}
use Rattle.std.proofs.lemmas.Map.Lookups.{exact_unsigned}
use Rattle.ec_base.specs.Tables.{Table, at, at_or, or_else, put, without}
use Rattle.ec_base.proofs.Numbers.{differ}
use Rattle.ec_base.specs.SortedLaws.{first, second, kept_below, below_first, below_tied}
use Rattle.ec_lease_machine.specs.OfBook.Book.{Booked, with_book}
use Rattle.ec_protocol.specs.declared.world.World.{World}
use Rattle.ec_lease_machine.specs.Leases.{nth, with_queue}
use Rattle.ec_plain.specs.declared.call.Call.{Call}
use Rattle.ec_lease_machine.specs.declared.world.LeaseWorld.{LeaseWorld}
use Rattle.ec_lease_machine.specs.declared.world.Lease.{Lease}

put_below : {X : Type 0} (k : ℕ) (v : X) (es : Table X) → T (below_all nat_cmp k es) → put k v es ≡ (k, v) ∷ es
put_below k v [] h = refl
put_below k v (e ∷ es) h = let l : nat_cmp k e.0 ≡ Less = less _ (first _ _ h) in rw l refl
  where
    less : (r : Ordering) → T (Rattle.std.specs.Ordering.is_lt r) → r ≡ Less
    less Less p = refl
    less Equal p = absurd p
    less Greater p = absurd p

put-without : {X : Type 0} (k : ℕ) (v : X) (es : Table X) → T (is_sorted nat_cmp es) → put k v (without k es) ≡ put k v es
put-without k v [] h = refl
put-without k v (e ∷ es) h =
    elim (nat_cmp k e.0) as (λ r. nat_cmp k e.0 ≡ r → put k v (without k (e ∷ es)) ≡ put k v (e ∷ es)) [
      | Less ↦ λ p. ap (put k v) (kept_below nat_cmp k (e ∷ es) (below_first nat_cmp nat_cmp_total k e es p h))
      | Equal ↦ λ p.
          let below = below_tied nat_cmp nat_cmp_total k e.0 es p (first _ _ h) in
          let same = exact_unsigned k e.0 p in
          rw p (ap (put k v) (kept_below nat_cmp k es below) ∙ put_below k v es below ∙ ap (λ x. (x, v) ∷ es) same)
      | Greater ↦ λ p. rw (p, p) (ap (λ xs. e ∷ xs) (put-without k v es (second _ _ h)))
    ] refl

without-without : {X : Type 0} (k : ℕ) (es : Table X) → without k (without k es) ≡ without k es
without-without k [] = refl
without-without k (e ∷ es) =
    elim (nat_cmp k e.0) as (λ r. nat_cmp k e.0 ≡ r → without k (without k (e ∷ es)) ≡ without k (e ∷ es)) [
      | Less ↦ λ p. rw (p, p) (ap (λ xs. e ∷ xs) (without-without k es))
      | Equal ↦ λ p. rw p (without-without k es)
      | Greater ↦ λ p. rw (p, p) (ap (λ xs. e ∷ xs) (without-without k es))
    ] refl

-- one more
pub added : {X : Type 0} (c : ℕ) (x : X) (old left new : Table (List X)) (own more : List X) → T (is_sorted nat_cmp old) → own ≡ at_or [] c old → left ≡ without c old → more ≡ own ++ x ∷ [] → new ≡ put c more left → new ≡ put c (at_or [] c old ++ x ∷ []) old
added c x old left new own more sorted own_is left_is more_is is =
    is ∙ ap (put c more) left_is ∙ put-without c more old sorted ∙ ap (λ xs. put c xs old) (more_is ∙ ap (λ xs. xs ++ x ∷ []) own_is)

-- Places counted from 1.

pub nth_zero : (xs : List Lease) → nth 0 xs ≡ None
nth_zero [] = refl
nth_zero (a ∷ more) = nth_zero more

nth_behind : (n : ℕ) (a : Lease) (more : List Lease) → (n ≡ 1 → ⊥) → nth n (a ∷ more) ≡ nth (n - 1) more
nth_behind n a more other = subst (λ (b : Bool). elim b as (λ _. Option Lease) [ true ↦ Some a | false ↦ nth (n - 1) more ] ≡ nth (n - 1) more) (sym (differ n 1 other)) refl

nth_at : (xs : List Lease) (n k : ℕ) → n ≡ k + 1 → nth n xs ≡ slice_get xs k
nth_at [] n k e = refl
nth_at (a ∷ more) n zero e = subst (λ m. nth m (a ∷ more) ≡ Some a) (sym e) refl
nth_at (a ∷ more) n (suc k) e = nth_behind n a more (λ x. omega (arith, e, x)) ∙ nth_at more (n - 1) k (omega (arith, e))

pub nth_from : (n : ℕ) (xs : List Lease) → (n ≡ 0 → ⊥) → nth n xs ≡ slice_get xs (n - 1)
nth_from zero xs some = absurd (some refl)
nth_from (suc k) xs some = let e : suc k - 1 ≡ k = omega arith in subst (λ m. nth (suc k) xs ≡ slice_get xs m) (sym e) (nth_at xs (suc k) k (omega arith))

-- a key's list

pub list_at : {X : Type 0} (k : ℕ) (es : Table (List X)) (xs : List X) → at k es ≡ Some xs → xs ≡ at_or [] k es
list_at k es xs is = sym (ap (or_else []) is)

pub no_list : {X : Type 0} (k : ℕ) (es : Table (List X)) → at k es ≡ None → [] ≡ at_or [] k es
no_list k es is = sym (ap (or_else []) is)

-- the call at a place of a queue
pub queued_is : (n : ℕ) (xs own : List (ℕ × Call)) (q : ℕ × Call) (cl : Call) → xs ≡ own → n < length xs → q ≡ get_or xs n q → cl ≡ q.1 → drop n own ≡ (q.0, cl) ∷ drop (n + 1) own
queued_is n xs own q cl same within there copy =
    let next : suc n ≡ n + 1 = omega arith in
    ap (drop n) (sym same) ∙ drop-cons xs n q within ∙ ap (λ (p : ℕ × Call). p ∷ drop (suc n) xs) (sym there ∙ ap (λ (c : Call). (q.0, c)) (sym copy))
    ∙ ap (λ (k : ℕ). (q.0, cl) ∷ drop k xs) next ∙ ap (λ (ys : List (ℕ × Call)). (q.0, cl) ∷ drop (n + 1) ys) same

-- a clerk's calls that are still queued

pub queue_left : (c : ℕ) (qs : List (ℕ × Call)) (x : LeaseWorld) → (length qs == 0) ≡ false → with_queue c qs x ≡ record x { queued = put c qs x.queued }
queue_left c [] x e = let f : true ≡ false = e in absurd cc
queue_left c (q ∷ qs) x e = refl

-- a book with other queues
abbrev pub queued_in : Booked → Table (List (ℕ × Call)) → Booked
queued_in b q = record b { queued = q }

-- calls that are put back once all of the clerk's were taken out

back_in : (c : ℕ) (b : Booked) (w : World) → T (is_sorted nat_cmp b.queued) → (qs : List (ℕ × Call)) → with_queue c qs (with_book (queued_in b (without c b.queued)) w) ≡ with_queue c qs (with_book b w)
back_in c b w h [] = ap (λ t. with_book (queued_in b t) w) (without-without c b.queued)
back_in c b w h (q ∷ qs) = ap (λ t. with_book (queued_in b t) w) (put-without c (q ∷ qs) b.queued h)

pub back : (c : ℕ) (old new : Booked) → new ≡ queued_in old (without c old.queued) → T (is_sorted nat_cmp old.queued) → (qs : List (ℕ × Call)) (w : World) → with_queue c qs (with_book new w) ≡ with_queue c qs (with_book old w)
back c old new is h qs w = ap (λ b. with_queue c qs (with_book b w)) is ∙ back_in c old w h qs

abbrev pub issued_in : Booked → Table (List Lease) → Booked
issued_in b xs = record b { issued = xs }
