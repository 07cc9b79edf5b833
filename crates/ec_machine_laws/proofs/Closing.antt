-- Closures of what is asked for.
use Rattle.std.proofs.Common.{◌≡◌, ◌≢◌, ◌∙◌, refl, sym, ap, subst, inl, inr, ◌⊎◌, ℕ, zero, suc, T, Bool, true, false, not, ◌||◌, cond, List, [], ◌∷◌, ◌++◌, length, take, Option, Some, None}
use Rattle.std.specs.Ordering.{nat_cmp}
use Rattle.std.specs.FinMap.{is_sorted}
use Rattle.std.specs.List.{list_any}
use Rattle.ec_base.specs.Tables.{keys, first as first_that}
use Rattle.ec_volume.specs.Update.{member}
use Rattle.ec_volume.specs.declared.update.Update.{Update}
use Rattle.ec_order.specs.Order.{Issued, Holds, InClosure, ask, need, closure, needs}
use Rattle.ec_history.proofs.OfLaws.ForPlacing.Least.{list-complete, list-least, list-part}
use Rattle.ec_log.specs.Log.{is_asked, asked_for, first_number, first, closure_of, has_one_of, in_window, least, new_batch, pick_from, pick}
use Rattle.ec_log.specs.declared.state.Asked.{Asked}
use Rattle.ec_log.specs.declared.state.LogState.{LogState}
use Rattle.ec_log.specs.declared.state.Pick.{Pick}
use Rattle.ec_log.specs.declared.state.Pick.TheVariants.{Batch, Settled, Behind, Window}
use Rattle.ec_machine_laws.specs.Needs.{IsPart, AreAskedToo}
use Rattle.ec_machine_laws.specs.Picks.{IsRest}
use Rattle.ec_machine_laws.proofs.Holding.{number-of, held-by, holds-front, holds-passed, holds-kept, one-update, sorted-part, take-holds}
use Rattle.ec_base.proofs.Bools.{or_first as or_l, on as holds, is-true}

-- More operations, and more that is asked.

pub set-grows : (xs ys : Issued) (asked wider : ℕ → Bool) → IsPart xs ys → AreAskedToo xs asked wider → (n : ℕ) → InClosure xs asked n → InClosure ys wider n
set-grows xs ys asked wider part more n (ask m u h t) = ask m u (part m u h) (more m u h t)
set-grows xs ys asked wider part more n (need m k a b h i l t c) = need m k a b (part m a h) (part k b i) l t (set-grows xs ys asked wider part more k c)

pub list-grows : (xs ys : Issued) (asked wider : ℕ → Bool) → IsPart xs ys → AreAskedToo xs asked wider → T (is_sorted nat_cmp xs) → T (is_sorted nat_cmp ys) → (n : ℕ) (u : Update) → Holds (closure asked xs) n u → Holds (closure wider ys) n u
list-grows xs ys asked wider part more s t n u h =
    let c = list-complete ys wider n t (set-grows xs ys asked wider part more n (list-least xs asked n s u h)) in
    subst (λ w. Holds (closure wider ys) n w) (one-update ys t n c.0 u (list-part ys wider n c.0 c.1) (part n u (list-part xs asked n u h))) c.1

in-front : (xs ys : Issued) → IsPart xs (xs ++ ys)
in-front [] ys n u h = absurd h
in-front (x ∷ xs) ys n u (inl e) = inl e
in-front (x ∷ xs) ys n u (inr h) = inr (in-front xs ys n u h)

pub front-grows : (xs ys : Issued) (asked : ℕ → Bool) (n : ℕ) → InClosure xs asked n → InClosure (xs ++ ys) asked n
front-grows xs ys asked n c = set-grows xs (xs ++ ys) asked asked (in-front xs ys) (λ m u h t. t) n c

-- What is asked for.

asked-in : (asked : ℕ → Bool) (xs : Issued) (n : ℕ) (u : Update) → Holds xs n u → T (asked n) → Holds (closure asked xs) n u
asked-in asked [] n u h t = h
asked-in asked (x ∷ xs) n u h t = go (asked x.0 || list_any (λ y. needs x.1 y.1) (closure asked xs)) refl h (λ i. asked-in asked xs n u i t)
  where
    go : (b : Bool) → (asked x.0 || list_any (λ y. needs x.1 y.1) (closure asked xs)) ≡ b → Holds (x ∷ xs) n u → (Holds xs n u → Holds (closure asked xs) n u) → Holds (cond b (x ∷ closure asked xs) (closure asked xs)) n u
    go true e (inl k) r = inl k
    go true e (inr k) r = inr (r k)
    go false e (inl k) r = absurd (subst T e (or_l (asked x.0) (list_any (λ y. needs x.1 y.1) (closure asked xs)) (subst (λ m. T (asked m)) (sym k.0) t)))
    go false e (inr k) r = r k

pub asked-closed : (a : Asked) (l : LogState) (n : ℕ) (u : Update) → Holds l.undurable n u → T (is_asked a (n, u)) → Holds (closure_of a l) n u
asked-closed a l n u h t =
    asked-in (λ m. member m (keys (asked_for a l))) l.undurable n u h (number-of (asked_for a l) n u (holds-kept (is_asked a) l.undurable n u h (is-true (is_asked a (n, u)) t)))

-- the first is one of them
first-held : (xs : Issued) (m : ℕ) → first_number xs ≡ Some m → (u : Update) × Holds xs m u
first-held [] m e = absurd (apart e)
  where
    apart : ◌≡◌ {A = Option ℕ} None (Some m) → ⊥
    apart e = cc
first-held (x ∷ xs) m e =
    let same : x.0 ≡ m = cc in
    (x.1, inl (same, refl))

pub some-closed : (a : Asked) (l : LogState) (m : ℕ) → first a l ≡ Some m → closure_of a l ≢ []
some-closed a l m e none =
    let f = first-held (asked_for a l) m e in
    let h : Holds (closure_of a l) m f.0 = asked-closed a l m f.0 (holds-front (is_asked a) l.undurable m f.0 f.1) (holds (holds-passed (is_asked a) l.undurable m f.0 f.1)) in
    subst (λ ys. Holds ys m f.0) none h

-- Picks.

pub begins : (a : Asked) (l : LogState) (m : ℕ) → l.batches ≡ [] → first a l ≡ Some m → pick a l ≡ Batch l.next_batch (keys (take 64 (closure_of a l)))
begins a l m b e = go (closure_of a l) (some-closed a l m e)
  where
    go : (xs : Issued) → xs ≢ [] → pick_from xs l ≡ Batch l.next_batch (keys (take 64 xs))
    go [] f = absurd (f refl)
    go (x ∷ xs) f =
        ap (λ bs. elim (first_that (has_one_of (keys (x ∷ xs))) bs) as (λ z. Pick) [ Some b ↦ Behind b.0 | None ↦ new_batch (x ∷ xs) l ]) b
        ∙ ap (λ bs. elim (in_window l bs) as (λ z. Pick) [ true ↦ Batch l.next_batch (keys (take 64 (x ∷ xs))) | false ↦ Window (least bs) ]) b

picked : (xs : Issued) (l : LogState) (b : ℕ) (ns : List ℕ) → pick_from xs l ≡ Batch b ns → ns ≡ keys (take 64 xs)
picked [] l b ns e = absurd (apart e)
  where
    apart : Settled ≡ Batch b ns → ⊥
    apart e = cc
picked (x ∷ xs) l b ns e = go (first_that (has_one_of (keys (x ∷ xs))) l.batches) e
  where
    inside : (t : Bool) → elim t as (λ z. Pick) [ true ↦ Batch l.next_batch (keys (take 64 (x ∷ xs))) | false ↦ Window (least l.batches) ] ≡ Batch b ns → ns ≡ keys (take 64 (x ∷ xs))
    inside true e = cc
    inside false e = absurd (apart e)
      where
        apart : Window (least l.batches) ≡ Batch b ns → ⊥
        apart e = cc

    go : (r : Option (ℕ × List ℕ)) → elim r as (λ z. Pick) [ Some c ↦ Behind c.0 | None ↦ new_batch (x ∷ xs) l ] ≡ Batch b ns → ns ≡ keys (take 64 (x ∷ xs))
    go (Some c) e = absurd (apart e)
      where
        apart : Behind c.0 ≡ Batch b ns → ⊥
        apart e = cc
    go None e = inside (in_window l l.batches) e

pub unsettled : (a : Asked) (l : LogState) (m : ℕ) → first a l ≡ Some m → pick a l ≢ Settled
unsettled a l m e = go (closure_of a l) (some-closed a l m e)
  where
    go : (xs : Issued) → xs ≢ [] → pick_from xs l ≢ Settled
    go [] f = absurd (f refl)
    go (x ∷ xs) f = behind (first_that (has_one_of (keys (x ∷ xs))) l.batches)
      where
        inside : (t : Bool) → elim t as (λ z. Pick) [ true ↦ Batch l.next_batch (keys (take 64 (x ∷ xs))) | false ↦ Window (least l.batches) ] ≢ Settled
        inside true e = cc
        inside false e = cc

        behind : (r : Option (ℕ × List ℕ)) → elim r as (λ z. Pick) [ Some c ↦ Behind c.0 | None ↦ new_batch (x ∷ xs) l ] ≢ Settled
        behind (Some c) e = cc
        behind None e = inside (in_window l l.batches) e

-- all of these, or so many
full-or-all : (k : ℕ) (xs : Issued) → (length (keys (take k xs)) ≡ k) ⊎ (take k xs ≡ xs)
full-or-all zero xs = inl refl
full-or-all (suc k) [] = inr refl
full-or-all (suc k) (x ∷ xs) = elim (full-or-all k xs) [ inl e ↦ inl (ap suc e) | inr e ↦ inr (ap (λ ys. x ∷ ys) e) ]

pub full-or-whole : (a : Asked) (l : LogState) (b : ℕ) (ns : List ℕ) → pick a l ≡ Batch b ns → (length ns ≡ 64) ⊎ (ns ≡ keys (closure_of a l))
full-or-whole a l b ns e =
    let p : ns ≡ keys (take 64 (closure_of a l)) = picked (closure_of a l) l b ns e in
    elim (full-or-all 64 (closure_of a l)) [ inl q ↦ inl (ap length p ∙ q) | inr q ↦ inr (p ∙ ap keys q) ]

-- All operations of the start.

pub rest-within : (issued : Issued) (done : ℕ → Bool) (l : LogState) → IsRest issued done l → (a : Asked) (asked : ℕ → Bool) → ((n : ℕ) (u : Update) → Holds issued n u → T (is_asked a (n, u)) → T (asked n))
    → (n : ℕ) → T (member n (keys (closure_of a l))) → InClosure issued asked n
rest-within issued done l r a asked q n m =
    let f = held-by (closure_of a l) n m in
    let c : InClosure l.undurable (λ i. member i (keys (asked_for a l))) n = list-least l.undurable (λ i. member i (keys (asked_for a l))) n sorted f.0 f.1 in
    set-grows l.undurable issued (λ i. member i (keys (asked_for a l))) asked part more n c
  where
    sorted : T (is_sorted nat_cmp l.undurable)
    sorted = subst (λ xs. T (is_sorted nat_cmp xs)) (sym r.rest) (sorted-part (λ x. not (done x.0)) issued r.sorted)

    part : IsPart l.undurable issued
    part n u h = holds-front (λ x. not (done x.0)) issued n u (subst (λ xs. Holds xs n u) r.rest h)

    more : AreAskedToo l.undurable (λ i. member i (keys (asked_for a l))) asked
    more n u h t =
        let f = held-by (asked_for a l) n t in
        q n f.0 (part n f.0 (holds-front (is_asked a) l.undurable n f.0 f.1)) (holds (holds-passed (is_asked a) l.undurable n f.0 f.1))

pub batch-within : (issued : Issued) (done : ℕ → Bool) (l : LogState) → IsRest issued done l → (a : Asked) (asked : ℕ → Bool) → ((n : ℕ) (u : Update) → Holds issued n u → T (is_asked a (n, u)) → T (asked n))
    → (b : ℕ) (ns : List ℕ) → pick a l ≡ Batch b ns → (n : ℕ) → T (member n ns) → InClosure issued asked n
batch-within issued done l r a asked q b ns e n m =
    let f = held-by (take 64 (closure_of a l)) n (subst (λ ys. T (member n ys)) (picked (closure_of a l) l b ns e) m) in
    rest-within issued done l r a asked q n (number-of (closure_of a l) n f.0 (take-holds 64 (closure_of a l) n f.0 f.1))
