-- What the numbers of a legal history's operations say: none is kept twice, what is kept wasn't lost, and a new one isn't covered or touched. That they rise stands in ec_laws.
use Rattle.std.proofs.Common.{◌≡◌, refl, sym, ap, subst, ◌∙◌, arith, ◌≤◌, ◌<◌, ℕ, T, Bool, true, false, not, ◌==◌, ◌&&◌, ◌||◌, cond, map, List, [], ◌∷◌, ◌++◌, Option, Some, None, append-nil, append_assoc}
use Rattle.std.specs.Prelude.{nat_lt, ⊤}
use Rattle.std.specs.Ordering.{nat_cmp, is_lt}
use Rattle.std.specs.FinMap.{is_sorted}
use Rattle.std.specs.FinMap.Entries.{below_all}
use Rattle.ec_base.specs.SortedLaws.{first, second}
use Rattle.std.specs.List.{filter, list_all, list_any}
use Rattle.std.proofs.lemmas.Bool.{and_parts, eqb-true, true≢false}
use Rattle.std.proofs.lemmas.List.Elements.{filter-append}
use Rattle.ec_volume.specs.Update.{member}
use Rattle.ec_volume.specs.declared.update.Update.{Update}
use Rattle.ec_log.specs.OfChains.Held.{is_behind}
use Rattle.ec_log.proofs.OfChains.Rising.{sorted_more}
use Rattle.ec_history.specs.History.{Base, History, Op, Throughout, Each, Covers, same_start, of_start, is_one_of, of_issue, outcome, kept, kept_next, issued, issued_by, without, is_lost, names}
use Rattle.ec_history.specs.Legal.{IsLegal, IsLegalNext, leaves, is_call_of_other}
use Rattle.ec_history.specs.declared.entry.Answer.{Answer}
use Rattle.ec_history.specs.declared.entry.Entry.{Entry}
use Rattle.ec_history.specs.declared.entry.Entry.TheVariants as entry
use Rattle.ec_history.proofs.OfLaws.ForPlacing.Cuts.{throughout-append}
use Rattle.ec_history.proofs.OfLaws.Issues.{by-steps}
use Rattle.ec_history.proofs.OfLaws.Unlost as unlosts
use Rattle.ec_history.proofs.OfLaws.ForPlacing.More.{kept-step, issued-step, is_lost-append, count-step}
use Rattle.ec_history.proofs.OfLaws.ForPlacing.Numbers.{count, IsUpTo, issued-up_to, kept-up_to, kept-each, throughout-issued, covers-up_to, each-append}
use Rattle.ec_judge.specs.Carried.{IsUncovered, IsUntouched}
use Rattle.ec_base.proofs.Numbers.{itself}
use Rattle.ec_base.proofs.Bools.{both, first as left, right, on as holds, is-true}
use Rattle.ec_history.proofs.OfLaws.ForPlacing.BasesAlike.{each-map}
use Rattle.ec_base.proofs.Lists.{filter-swap}

-- Lists.

pub each-kept : {A : Type 0} (P Q : A → Type 0) (p : A → Bool) → ((x : A) → p x ≡ true → P x → Q x) → (xs : List A) → Each P xs → Each Q (filter p xs)
each-kept P Q p f [] h = tt
each-kept P Q p f (x ∷ xs) h = go (p x) refl (each-kept P Q p f xs h.1)
  where
    go : (b : Bool) → p x ≡ b → Each Q (filter p xs) → Each Q (cond b (x ∷ filter p xs) (filter p xs))
    go true e r = (f x e h.0, r)
    go false e r = r

filter-none : {A : Type 0} (p : A → Bool) (xs : List A) → Each (λ x. p x ≡ false) xs → filter p xs ≡ []
filter-none p [] h = refl
filter-none p (x ∷ xs) h = ap (λ c. cond c (x ∷ filter p xs) (filter p xs)) h.0 ∙ filter-none p xs h.1

pub all-member : (p : ℕ → Bool) (ns : List ℕ) (n : ℕ) → T (list_all p ns) → T (member n ns) → T (p n)
all-member p [] n h m = absurd m
all-member p (k ∷ ns) n h m = go (n == k) refl m (all-member p ns n (right (p k) _ h))
  where
    go : (b : Bool) → (n == k) ≡ b → T (b || member n ns) → (T (member n ns) → T (p n)) → T (p n)
    go true e t r = subst (λ x. T (p x)) (sym (eqb-true n k e)) (left (p k) _ h)
    go false e t r = r t

-- Numbers.

one-parts : (c b n : ℕ) (k : Op) → is_one_of c b (n ∷ []) k ≡ true → (of_start c b k ≡ true) × (k.number ≡ n)
one-parts c b n k e =
    let parts = and_parts (of_start c b k) ((k.number == n) || false) e in
    (parts.0, go (k.number == n) refl parts.1)
  where
    go : (x : Bool) → (k.number == n) ≡ x → (x || false) ≡ true → k.number ≡ n
    go true f t = eqb-true k.number n f
    go false f t = absurd (true≢false (sym t))

not-one : (c b m n : ℕ) (k : Op) → IsUpTo c b m k → m < n → is_one_of c b (n ∷ []) k ≡ false
not-one c b m n k u l = go (is_one_of c b (n ∷ []) k) refl
  where
    go : (x : Bool) → is_one_of c b (n ∷ []) k ≡ x → x ≡ false
    go false e = refl
    go true e =
        let parts = one-parts c b n k e in
        absurd (omega (arith, u parts.0, parts.1, l))

abbrev pub only : List Op → Op → Type 0
only ks k = filter (is_one_of k.clerk k.boot (k.number ∷ [])) ks ≡ k ∷ []

own-one : (k : Op) → is_one_of k.clerk k.boot (k.number ∷ []) k ≡ true
own-one k = ap (λ x. (x && (k.boot == k.boot)) && ((k.number == k.number) || false)) (itself k.clerk) ∙ ap (λ x. x && ((k.number == k.number) || false)) (itself k.boot) ∙ ap (λ x. x || false) (itself k.number)

-- one more operation, with a number above those of its start
only-more : (ks : List Op) (j : Op) (m : ℕ) → Each (only ks) ks → Each (IsUpTo j.clerk j.boot m) ks → m < j.number → Each (only (ks ++ j ∷ [])) (ks ++ j ∷ [])
only-more ks j m h u l =
    each-append (only (ks ++ j ∷ [])) ks (j ∷ []) (old ks h u) (
      filter-append (is_one_of j.clerk j.boot (j.number ∷ [])) ks (j ∷ [])
          ∙ ap (λ l. l ++ filter (is_one_of j.clerk j.boot (j.number ∷ [])) (j ∷ [])) (filter-none _ ks (each-map (IsUpTo j.clerk j.boot m) _ (λ k v. not-one j.clerk j.boot m j.number k v l) ks u))
          ∙ ap (λ x. cond x (j ∷ []) []) (own-one j),
      tt,
    )
  where
    apart : (k : Op) → IsUpTo j.clerk j.boot m k → is_one_of k.clerk k.boot (k.number ∷ []) j ≡ false
    apart k v = go (is_one_of k.clerk k.boot (k.number ∷ []) j) refl
      where
        go : (x : Bool) → is_one_of k.clerk k.boot (k.number ∷ []) j ≡ x → x ≡ false
        go false e = refl
        go true e =
            let parts = one-parts k.clerk k.boot k.number j e in
            let both = and_parts (k.clerk == j.clerk) (k.boot == j.boot) parts.0 in
            let own : of_start j.clerk j.boot k ≡ true = ap (λ x. (x == k.clerk) && (j.boot == k.boot)) (sym (eqb-true k.clerk j.clerk both.0)) ∙ ap (λ x. (k.clerk == k.clerk) && (x == k.boot)) (sym (eqb-true k.boot j.boot both.1))
            ∙ ap (λ x. x && (k.boot == k.boot)) (itself k.clerk) ∙ itself k.boot in
            absurd (omega (arith, v own, parts.1, l))

    old : (xs : List Op) → Each (only ks) xs → Each (IsUpTo j.clerk j.boot m) xs → Each (only (ks ++ j ∷ [])) xs
    old [] h u = tt
    old (k ∷ xs) h u = (
      filter-append (is_one_of k.clerk k.boot (k.number ∷ [])) ks (j ∷ [])
          ∙ ap (λ x. filter (is_one_of k.clerk k.boot (k.number ∷ [])) ks ++ cond x (j ∷ []) []) (apart k u.0)
          ∙ append-nil _
          ∙ h.0,
      old xs h.1 u.1,
    )

only-without : (c b : ℕ) (ns : List ℕ) (ks : List Op) → Each (only ks) ks → Each (only (without c b ns ks)) (without c b ns ks)
only-without c b ns ks h =
    each-kept (only ks) (only (without c b ns ks)) (λ k. not (is_one_of c b ns k)) (λ k e o.
    filter-swap (is_one_of k.clerk k.boot (k.number ∷ [])) (λ k. not (is_one_of c b ns k)) ks
    ∙ ap (filter (λ k. not (is_one_of c b ns k))) o
    ∙ ap (λ x. cond x (k ∷ []) []) e) ks h

module _ (base : Base) (most : ℕ) where
  -- a new operation is behind those of its start
  new-number : (past : History) (p c b l g : ℕ) (cl : _) (a : Answer) (n : ℕ) → IsLegalNext base most past (p, entry.Call c b l g cl a (Some n)) → count c b past < n
  new-number past p c b l g cl a n k = omega (arith, k.number)

  -- No operation is kept twice.

  only-next : (past : History) (e : ℕ × Entry) → IsLegal base most past → IsLegalNext base most past e → Each (only (kept base past)) (kept base past) → Each (only (kept_next base (kept base past) e)) (kept_next base (kept base past) e)
  only-next past (p, entry.Loss c b ns) l k h = only-without c b ns (kept base past) h
  only-next past (p, entry.Call c b li g cl a None) l k h = subst (λ ks. Each (only ks) ks) (sym (append-nil (kept base past))) h
  only-next past (p, entry.Call c b li g cl a (Some n)) l k h = go ((outcome base (kept base past) p cl).update)
    where
      go : (u : Option Update) → Each (only (kept base past ++ elim u [ None ↦ [] | Some w ↦ record { clerk = c; boot = b; number = n; place = p; update = w } ∷ [] ]))
          (kept base past ++ elim u [ None ↦ [] | Some w ↦ record { clerk = c; boot = b; number = n; place = p; update = w } ∷ [] ])
      go None = subst (λ ks. Each (only ks) ks) (sym (append-nil (kept base past))) h
      go (Some w) =
          let j : Op = record { clerk = c; boot = b; number = n; place = p; update = w } in
          only-more (kept base past) j (count c b past) h (kept-up_to base most c b past l) (new-number past p c b li g cl a n k)

  pub kept-only : (h : History) → IsLegal base most h → Each (only (kept base h)) (kept base h)
  kept-only = by-steps base most (λ h. Each (only (kept base h)) (kept base h)) (λ past e l k h. subst (λ ks. Each (only ks) ks) (sym (kept-step base past e)) (only-next past e l k h)) tt

  -- What is kept wasn't lost.

  abbrev pub unlost : History → Op → Type 0
  unlost h k = is_lost k.clerk k.boot k.number h ≡ false

  pub kept-unlost : (h : History) → IsLegal base most h → Each (unlost h) (kept base h)
  kept-unlost h l = each-map (λ k. T (is_lost k.clerk k.boot k.number h) → ⊥) (unlost h) (λ k n. go (is_lost k.clerk k.boot k.number h) n) (kept base h) (unlosts.kept-unlost base most h l)
    where
      go : (x : Bool) → (T x → ⊥) → x ≡ false
      go true n = absurd (n tt)
      go false n = refl

  -- A new operation isn't covered or touched.

  anything : (past h : History) → Throughout (λ h e. ⊤) past h
  anything past [] = tt
  anything past (e ∷ h) = (tt, anything (past ++ e ∷ []) h)

  module _ (past : History) (e : ℕ × Entry) (k : Op) (l : IsLegal base most past) (new : count k.clerk k.boot past < k.number) where
    up_to : Each (IsUpTo k.clerk k.boot (count k.clerk k.boot past)) (issued base past)
    up_to = issued-up_to base most k.clerk k.boot past l

    not-covered : (h : History) (f : ℕ × Entry) → Each (IsUpTo k.clerk k.boot (count k.clerk k.boot past)) (issued base h) → ¬ (Covers base h f k.clerk k.boot k.number)
    not-covered h f i v = omega (arith, covers-up_to base h f k.clerk k.boot (count k.clerk k.boot past) k.number i v, new)

    pub new-uncovered : IsUncovered base (past ++ e ∷ []) k
    new-uncovered = throughout-append _ [] past (e ∷ []) (throughout-issued base (IsUpTo k.clerk k.boot (count k.clerk k.boot past)) (λ h f. ⊤) (λ h f. ¬ (Covers base h f k.clerk k.boot k.number)) (λ h f i t. not-covered h f i) [] past up_to (anything [] past)) (not-covered past e up_to, tt)

    not-touched : (h : History) (f : ℕ × Entry) → Each (IsUpTo k.clerk k.boot (count k.clerk k.boot past)) (issued base h) → T (leaves base (kept base h) k.clerk (filter (is_one_of k.clerk k.boot (k.number ∷ [])) (kept base h)) f)
    not-touched h f i =
        let none : filter (is_one_of k.clerk k.boot (k.number ∷ [])) (kept base h) ≡ [] =
        filter-none _ (kept base h) (each-map (IsUpTo k.clerk k.boot (count k.clerk k.boot past)) _ (λ j u. not-one k.clerk k.boot (count k.clerk k.boot past) k.number j u new) (kept base h) (kept-each base (IsUpTo k.clerk k.boot (count k.clerk k.boot past)) h i)) in
        subst (λ ls. T (leaves base (kept base h) k.clerk ls f)) (sym none) (go (not (is_call_of_other k.clerk f.1)))
      where
        go : (x : Bool) → T (x || true)
        go true = tt
        go false = tt

    pub new-untouched : IsUntouched base (past ++ e ∷ []) k
    new-untouched = throughout-append _ [] past (e ∷ []) (throughout-issued base (IsUpTo k.clerk k.boot (count k.clerk k.boot past)) (λ h f. ⊤) _ (λ h f i t. not-touched h f i) [] past up_to (anything [] past)) (not-touched past e up_to, tt)
