-- What is owed comes before the operations of the session, and the lost ones of those come behind it.
use Rattle.std.proofs.Common.{◌≡◌, ◌<◌, ◌≤◌, ◌+◌, refl, sym, ap, ◌∙◌, inl, inr, arith, ℕ, Bool, true, false, cond, List, [], ◌∷◌, ◌++◌}
use Rattle.std.specs.Prelude.{T, not, nat_lt, nat_le, map, filter}
use Rattle.std.specs.Ordering.{nat_cmp}
use Rattle.std.specs.FinMap.{is_sorted}
use Rattle.std.specs.FinMap.Entries.{below_all}
use Rattle.std.proofs.lemmas.Bool.{and_parts, and_from, lt-ltb, ltb-true, le-leb, leb-true}
use Rattle.ec_base.specs.SortedLaws.{first, second}
use Rattle.ec_base.specs.Tables.{keys}
use Rattle.ec_volume.specs.Update.{member, operands}
use Rattle.ec_volume.specs.declared.update.Update.{Update}
use Rattle.ec_order.specs.Order.{Issued, Holds}
use Rattle.ec_log.specs.OfChains.Held.{is_behind}
use Rattle.ec_log.specs.OfChains.ClosureLaws.{passes-member}
use Rattle.ec_log.specs.Log as logs
use Rattle.ec_log.specs.LogOrder as log_order
use Rattle.ec_log.specs.declared.state.LogState.{LogState}
use Rattle.ec_log.specs.declared.state.Pick.{Pick}
use Rattle.ec_log.specs.declared.state.Pick.TheVariants as pick_of
use Rattle.ec_sessions.specs.declared.window.Window.{Window}
use Rattle.ec_cache.specs.OfReport.Report.{Owed, owe, pairs_of}
use Rattle.ec_cache.specs.OfReport.OwedOrder.{come_behind}
use Rattle.ec_protocol.specs.Clerk.{with_operands}
use Rattle.ec_doing.specs.OfHoldings.Owing.{lost_of, owed_before}
use Rattle.ec_base.proofs.Bools.{below}

pub later : (n m : ℕ) (owed : Owed) → n ≤ m → owed_before n owed ≡ true → owed_before m owed ≡ true
later n m [] l h = refl
later n m (q ∷ qs) l h =
    let p = and_parts (nat_lt q.0 n) (owed_before n qs) h in
    let b : q.0 < n = ltb-true q.0 n p.0 in
    and_from (nat_lt q.0 m) (owed_before m qs) (lt-ltb q.0 m (omega (arith, b, l))) (later n m qs l p.1)

both_before : (n : ℕ) (xs ys : Owed) → owed_before n xs ≡ true → owed_before n ys ≡ true → owed_before n (xs ++ ys) ≡ true
both_before n [] ys p q = q
both_before n (x ∷ xs) ys p q =
    let e = and_parts (nat_lt x.0 n) (owed_before n xs) p in
    and_from (nat_lt x.0 n) (owed_before n (xs ++ ys)) e.0 (both_before n xs ys e.1 q)

mentions : (n k : ℕ) (objs : List ℕ) → k < n → owed_before n (map (λ x. (k, x)) objs) ≡ true
mentions n k [] l = refl
mentions n k (x ∷ xs) l = and_from (nat_lt k n) (owed_before n (map (λ y. (k, y)) xs)) (lt-ltb k n l) (mentions n k xs l)

pub cleared : (n : ℕ) (q : ℕ × ℕ → Bool) (owed : Owed) → owed_before n owed ≡ true → owed_before n (filter q owed) ≡ true
cleared n q [] h = refl
cleared n q (x ∷ xs) h =
    let p = and_parts (nat_lt x.0 n) (owed_before n xs) h in
    go (q x) p.0 (cleared n q xs p.1)
  where
    go : (b : Bool) → nat_lt x.0 n ≡ true → owed_before n (filter q xs) ≡ true → owed_before n (cond b (x ∷ filter q xs) (filter q xs)) ≡ true
    go true e r = and_from (nat_lt x.0 n) (owed_before n (filter q xs)) e r
    go false e r = r

-- a pick begins no session
pub first_stays : (p : Pick) (l : LogState) → l.first ≡ (logs.after_pick p l).first
first_stays (pick_of.Batch b ns) l = refl
first_stays pick_of.Settled l = refl
first_stays (pick_of.Behind b) l = refl
first_stays (pick_of.Window b) l = refl

from_above : (m : ℕ) (xs : Issued) → T (below_all nat_cmp m xs) → log_order.is_from (m + 1) xs ≡ true
from_above m [] b = refl
from_above m (x ∷ xs) b =
    let l : m < x.0 = below m x.0 (first _ _ b) in
    and_from (nat_le (m + 1) x.0) (log_order.is_from (m + 1) xs) (le-leb (m + 1) x.0 (omega (arith, l))) (from_above m xs (second _ _ b))

module _ (q : ℕ × Update → Bool) where
  pub lost_behind : (n : ℕ) (xs : Issued) (owed : Owed) → log_order.is_from n xs ≡ true → T (is_sorted nat_cmp xs) → owed_before n owed ≡ true → come_behind (with_operands (filter q xs)) owed ≡ true
  lost_behind n [] owed f s b = refl
  lost_behind n (x ∷ xs) owed f s b =
      let p = and_parts (nat_le n x.0) (log_order.is_from n xs) f in
      let l : n ≤ x.0 = leb-true n x.0 p.0 in
      let more = owe ((x.0, operands x.1) ∷ []) owed in
      let named : owed_before (x.0 + 1) (pairs_of ((x.0, operands x.1) ∷ [])) ≡ true =
      both_before (x.0 + 1) (map (λ y. (x.0, y)) (operands x.1)) [] (mentions (x.0 + 1) x.0 (operands x.1) (omega arith)) refl in
      let before : owed_before (x.0 + 1) more ≡ true = both_before (x.0 + 1) owed (pairs_of ((x.0, operands x.1) ∷ [])) (later n (x.0 + 1) owed (omega (arith, l)) b) named in
      go (q x) (later n x.0 owed l b) (lost_behind (x.0 + 1) xs more (from_above x.0 xs (first _ _ s)) (second _ _ s) before) (lost_behind n xs owed p.1 (second _ _ s) b)
    where
      go : (t : Bool) → owed_before x.0 owed ≡ true → come_behind (with_operands (filter q xs)) (owe ((x.0, operands x.1) ∷ []) owed) ≡ true → come_behind (with_operands (filter q xs)) owed ≡ true
          → come_behind (with_operands (cond t (x ∷ filter q xs) (filter q xs))) owed ≡ true
      go true e r k = and_from (owed_before x.0 owed) (come_behind (with_operands (filter q xs)) (owe ((x.0, operands x.1) ∷ []) owed)) e r
      go false e r k = k

  lost_before : (n : ℕ) (xs : Issued) → is_behind n xs ≡ true → owed_before n (pairs_of (with_operands (filter q xs))) ≡ true
  lost_before n [] h = refl
  lost_before n (x ∷ xs) h =
      let p = and_parts (nat_lt x.0 n) (is_behind n xs) h in
      go (q x) (ltb-true x.0 n p.0) (lost_before n xs p.1)
    where
      go : (t : Bool) → x.0 < n → owed_before n (pairs_of (with_operands (filter q xs))) ≡ true → owed_before n (pairs_of (with_operands (cond t (x ∷ filter q xs) (filter q xs)))) ≡ true
      go true l r = both_before n (map (λ y. (x.0, y)) (operands x.1)) (pairs_of (with_operands (filter q xs))) (mentions n x.0 (operands x.1) l) r
      go false l r = r

  -- all of it comes before the next session
  pub owed_ends : (n m : ℕ) (xs : Issued) (owed : Owed) → n ≤ m → is_behind m xs ≡ true → owed_before n owed ≡ true → owed_before m (owe (with_operands (filter q xs)) owed) ≡ true
  owed_ends n m xs owed l h b = both_before m owed (pairs_of (with_operands (filter q xs))) (later n m owed l b) (lost_before m xs h)

-- of rising operations, those with the numbers of some of them are these
same_filter : (p q : ℕ × Update → Bool) (xs : Issued) → ((n : ℕ) (u : Update) → Holds xs n u → p (n, u) ≡ q (n, u)) → filter p xs ≡ filter q xs
same_filter p q [] h = refl
same_filter p q (x ∷ xs) h =
    ap (λ b. cond b (x ∷ filter p xs) (filter p xs)) (h x.0 x.1 (inl (refl, refl)))
    ∙ ap (λ l. cond (q x) (x ∷ l) l) (same_filter p q xs (λ n u k. h n u (inr k)))

lost_of-keys : (p : ℕ × Update → Bool) (xs : Issued) → T (is_sorted nat_cmp xs) → lost_of (keys (filter p xs)) xs ≡ filter p xs
lost_of-keys p xs s = same_filter (λ op. member op.0 (keys (filter p xs))) p xs (λ n u h. sym (passes-member p xs s n u h))

-- so their numbers are these
pub lost_are_some : (w : Window) (l : LogState) → log_order.AreOwn l → (ns : List ℕ) (ops : Issued) → ns ≡ keys (logs.lost w l) → ops ≡ l.undurable → keys (lost_of ns ops) ≡ ns
lost_are_some w l own ns ops at_ns at_ops =
    ap (λ ms. keys (lost_of ms ops)) at_ns
    ∙ ap (λ us. keys (lost_of (keys (logs.lost w l)) us)) at_ops
    ∙ ap keys (lost_of-keys (λ op. not (logs.is_kept_by w l op.0)) l.undurable own.rising)
    ∙ sym at_ns

-- A walk over both lists.

first_member : (ns : List ℕ) (ops : Issued) (n : ℕ) (rest : List ℕ) → keys (lost_of ns ops) ≡ n ∷ rest → member n ns ≡ true
first_member ns [] n rest e = absurd (apart e)
  where
    apart : ◌≡◌ {A = List ℕ} [] (n ∷ rest) → ⊥
    apart e = cc
first_member ns (x ∷ xs) n rest e = go (member x.0 ns) refl e (first_member ns xs n rest)
  where
    head : (ms : List ℕ) → ◌≡◌ {A = List ℕ} (x.0 ∷ ms) (n ∷ rest) → x.0 ≡ n
    head ms e = cc

    go : (b : Bool) → member x.0 ns ≡ b → keys (cond b (x ∷ lost_of ns xs) (lost_of ns xs)) ≡ n ∷ rest → (keys (lost_of ns xs) ≡ n ∷ rest → member n ns ≡ true) → member n ns ≡ true
    go true m e r = ap (λ k. member k ns) (sym (head (keys (lost_of ns xs)) e)) ∙ m
    go false m e r = r e

module _ (ns : List ℕ) (ops after : Issued) (x : ℕ × Update) (next : ops ≡ x ∷ after) (left : List ℕ) (walked : keys (lost_of ns ops) ≡ left) where
  next_left : keys (lost_of ns (x ∷ after)) ≡ left
  next_left = ap (λ l. keys (lost_of ns l)) (sym next) ∙ walked

  by_test : (b : Bool) → member x.0 ns ≡ b → keys (cond b (x ∷ lost_of ns after) (lost_of ns after)) ≡ left
  by_test b e = sym (ap (λ t. keys (cond t (x ∷ lost_of ns after) (lost_of ns after))) e) ∙ next_left

  -- the next one is lost
  pub is_next : (rest : List ℕ) → left ≡ x.0 ∷ rest → member x.0 ns ≡ true
  is_next rest e = first_member ns (x ∷ after) x.0 rest (next_left ∙ e)

  pub left_behind : (rest : List ℕ) → left ≡ x.0 ∷ rest → keys (lost_of ns after) ≡ rest
  left_behind rest e = tail (by_test true (is_next rest e) ∙ e)
    where
      tail : {ms : List ℕ} → ◌≡◌ {A = List ℕ} (x.0 ∷ ms) (x.0 ∷ rest) → ms ≡ rest
      tail e = cc

  -- it isn't
  pub is_other : ((rest : List ℕ) → left ≡ x.0 ∷ rest → ⊥) → member x.0 ns ≡ false
  is_other h = go (member x.0 ns) refl
    where
      go : (b : Bool) → member x.0 ns ≡ b → member x.0 ns ≡ false
      go false e = e
      go true e = absurd (h (keys (lost_of ns after)) (sym (by_test true e)))

  pub left_same : ((rest : List ℕ) → left ≡ x.0 ∷ rest → ⊥) → keys (lost_of ns after) ≡ left
  left_same h = by_test false (is_other h)

-- what the code finds of them
module _ (w : Window) (l : LogState) (own : log_order.AreOwn l) (ns : List ℕ) (ops : Issued) (lost : List (ℕ × List ℕ)) (at_ns : ns ≡ keys (logs.lost w l)) (at_ops : ops ≡ l.undurable) (at_lost : lost ≡ with_operands (lost_of ns ops)) where
  abbrev is_lost : ℕ × Update → Bool
  is_lost op = not (logs.is_kept_by w l op.0)

  pub lost_are : lost ≡ with_operands (logs.lost w l)
  lost_are = at_lost ∙ ap (λ ms. with_operands (lost_of ms ops)) at_ns ∙ ap (λ us. with_operands (lost_of (keys (logs.lost w l)) us)) at_ops ∙ ap with_operands (lost_of-keys is_lost l.undurable own.rising)

  pub lost_come_behind : (owed : Owed) → owed_before l.first owed ≡ true → come_behind lost owed ≡ true
  lost_come_behind owed b = ap (λ os. come_behind os owed) lost_are ∙ lost_behind is_lost l.first l.undurable owed own.from own.rising b

  pub lost_owed : (owed after : Owed) (m : LogState) → owed_before l.first owed ≡ true → m ≡ logs.end l → after ≡ owe lost owed → owed_before m.first after ≡ true
  lost_owed owed after m b over more = ap (λ k. owed_before k.first after) over ∙ ap (owed_before l.next) (more ∙ ap (λ os. owe os owed) lost_are) ∙ owed_ends is_lost l.first l.next l.undurable owed own.begun own.behind b
