-- Lists of ids: one taken out, and sixteen put in. No public clause cites this file.
use Rattle.std.proofs.Common.{◌≡◌, ◌==◌, ◌+◌, ◌-◌, ◌<◌, ◌≤◌, ◌^◌, inl, inr, ℕ, zero, suc, Bool, true, false, ◌||◌, ◌&&◌, not, Option, None, Some, if◌then◌else◌, nat_lt, cond, List, [], ◌∷◌, ◌++◌, length, get_or, take, drop, refl, sym, ◌∙◌, ap, subst, append-nil, arith}
use Rattle.std.specs.Prelude.{◌≢◌, Result, Ok, Err, MatchResult}
use Rattle.std.specs.Ordering.{nat_cmp}
use Rattle.std.specs.List.{prefix_len, remove, AllPairs}
use Rattle.std.specs.List.Sorted.{IsStrictlyIncreasing, IsBinarySearchResult}
use Rattle.std.proofs.lemmas.Bool.{cases_Bool, cases_eq, eq-eqb, lt-ltb, ltb-true, ltb-false, ne_eqb}
use Rattle.std.proofs.lemmas.List.{take_rest}
use Rattle.std.proofs.lemmas.List.Kept.{AllPairs-from_increasing}
use Rattle.std.proofs.lemmas.List.Sorted.{searched}
use Rattle.ec_sessions.specs.declared.slot.Slot.{Slot}
use Rattle.ec_sessions.specs.Slots.{unspent_of, is_reserved, spent, is_in, without, run, sixteen, with_ids}
use Rattle.ec_sessions.specs.SlotChecks.{AreIds}
use Rattle.ec_sessions.specs.WindowMarks.{times}

without-hit : (id other : ℕ) (ids : List ℕ) → (other == id) ≡ true → without id (other ∷ ids) ≡ ids
without-hit id other ids h = ap (λ b. if b then ids else other ∷ without id ids) h

without-miss : (id other : ℕ) (ids : List ℕ) → (other == id) ≡ false → without id (other ∷ ids) ≡ other ∷ without id ids
without-miss id other ids h = ap (λ b. if b then ids else other ∷ without id ids) h

-- an id that is there is taken out at its place
out_found : (id at : ℕ) (ids : List ℕ) → AllPairs (λ x y. x < y) ids → at < length ids → get_or ids at 0 ≡ id → remove ids at ≡ without id ids
out_found id at [] rising l e = absurd (omega arith)
out_found id zero (other ∷ ids) rising l e = sym (without-hit id other ids (eq-eqb other id e))
out_found id (suc at) (other ∷ ids) rising l e =
    let miss : (other == id) ≡ false = ne_eqb other id (λ same. absurd (omega (arith, rising 0 (suc at) 0 (omega arith) l))) in
    ap (λ x. other ∷ x) (out_found id at ids (λ i j d before within. rising (suc i) (suc j) d (omega arith) (omega arith)) (omega arith) e) ∙ sym (without-miss id other ids miss)

-- and else nothing is taken out
out_none : (id : ℕ) (ids : List ℕ) → ((k : ℕ) → k < length ids → get_or ids k 0 ≢ id) → (false ≡ is_in id ids) × (ids ≡ without id ids)
out_none id [] other = (refl, refl)
out_none id (first ∷ ids) other =
    let miss : (first == id) ≡ false = ne_eqb first id (other 0 (omega arith)) in
    let out = out_none id ids (λ k l. other (suc k) (omega arith)) in
    (out.0 ∙ sym (ap (λ b. b || is_in id ids) miss), ap (λ x. first ∷ x) out.1 ∙ sym (without-miss id first ids miss))

rises : (ids : List ℕ) → IsStrictlyIncreasing ids → (i j : ℕ) → i ≤ j → j < length ids → get_or ids i 0 ≤ get_or ids j 0
rises ids increasing i j l within =
    elim (cases_eq i j) [ inl e ↦ omega (arith, ap (λ k. get_or ids k 0) e) | inr d ↦ omega (arith, AllPairs-from_increasing ids increasing i j 0 (omega arith) within) ]

-- what a binary search answers tells what is taken out
pub taken_out : (id : ℕ) (ids seen : List ℕ) (r : Result ℕ ℕ) → seen ≡ ids → IsStrictlyIncreasing ids → IsBinarySearchResult (λ y. nat_cmp y id) seen r
    → MatchResult r (λ at. remove ids at ≡ without id ids) (λ at. (false ≡ is_in id ids) × (ids ≡ without id ids))
taken_out id ids seen (Ok at) is increasing found =
    let at_id = searched ids id (Ok at) (subst (λ l. IsBinarySearchResult (λ y. nat_cmp y id) l (Ok at)) is found) (rises ids increasing) in
    out_found id at ids (AllPairs-from_increasing ids increasing) at_id.0 at_id.1
taken_out id ids seen (Err at) is increasing found =
    let apart = searched ids id (Err at) (subst (λ l. IsBinarySearchResult (λ y. nat_cmp y id) l (Err at)) is found) (rises ids increasing) in
    out_none id ids (λ k within same. elim (cases_Bool (nat_lt k at)) [ inl h ↦ omega (arith, apart.1 k (ltb-true k at h)) | inr h ↦ omega (arith, apart.2 k (ltb-false k at h) within) ])

found_there : (id at : ℕ) (ids : List ℕ) → at < length ids → get_or ids at 0 ≡ id → true ≡ is_in id ids
found_there id at [] l e = absurd (omega arith)
found_there id zero (other ∷ ids) l e = sym (ap (λ b. b || is_in id ids) (eq-eqb other id e))
found_there id (suc at) (other ∷ ids) l e = grind (arith, found_there id at ids (omega arith) e)

-- and tells what is there
pub seen_there : (id : ℕ) (ids : List ℕ) (at : ℕ) → IsStrictlyIncreasing ids → IsBinarySearchResult (λ y. nat_cmp y id) ids (Ok at) → true ≡ is_in id ids
seen_there id ids at increasing found = let at_id = searched ids id (Ok at) found (rises ids increasing) in found_there id at ids at_id.0 at_id.1

-- what is there behind it
in_without : (id other : ℕ) (ids : List ℕ) → AllPairs (λ x y. x < y) ids → is_in other (without id ids) ≡ (is_in other ids && not (other == id))
in_without id other [] rising = refl
in_without id other (e ∷ es) rising =
    elim (cases_Bool (e == id)) [
      | inl hit ↦ ap (is_in other) (without-hit id e es hit) ∙ grind (arith, hit, gone)
      | inr miss ↦ ap (is_in other) (without-miss id e es miss) ∙ grind (arith, miss, in_without id other es later)
    ]
  where
    later : AllPairs (λ x y. x < y) es
    later i j d before within = rising (suc i) (suc j) d (omega arith) (omega arith)

    gone : false ≡ is_in e es
    gone = (out_none e es (λ k within same. omega (arith, rising 0 (suc k) 0 (omega arith) (omega arith), same))).0

pub one_spent : (slot : Option Slot) (id other : ℕ) → IsStrictlyIncreasing (unspent_of slot) → is_reserved (spent id slot) other ≡ (is_reserved slot other && not (other == id))
one_spent None id other rising = refl
one_spent (Some slot) id other rising =
    let there = in_without id other slot.unspent (AllPairs-from_increasing slot.unspent rising) in
    elim (cases_Bool slot.is_open) [
      | inl is ↦ ap (λ b. is_reserved (Some (if b then record slot { unspent = without id slot.unspent } else slot)) other) is ∙ ap (λ b. slot.is_open && b) there ∙ grind (arith, is)
      | inr shut ↦ ap (λ b. is_reserved (Some (if b then record slot { unspent = without id slot.unspent } else slot)) other) shut ∙ grind (arith, shut)
    ]

-- the sixteen ids stand behind those below
pub with_ids-split : (first n : ℕ) (ids : List ℕ) → n ≡ prefix_len (λ id. nat_lt id first) ids → (take n ids ++ sixteen first) ++ drop n ids ≡ with_ids first ids
with_ids-split first n [] e = subst (λ k. (take k [] ++ sixteen first) ++ drop k [] ≡ sixteen first) (sym e) (append-nil (sixteen first))
with_ids-split first zero (id ∷ ids) e =
    elim (cases_Bool (nat_lt id first)) [
      | inl h ↦ absurd (omega (arith, ap (λ b. cond b (1 + prefix_len (λ id. nat_lt id first) ids) 0) h))
      | inr h ↦ sym (ap (λ b. if b then id ∷ with_ids first ids else sixteen first ++ id ∷ ids) h)
    ]
with_ids-split first (suc n) (id ∷ ids) e =
    elim (cases_Bool (nat_lt id first)) [
      | inl h ↦
          let rest : n ≡ prefix_len (λ id. nat_lt id first) ids = omega (arith, ap (λ b. cond b (1 + prefix_len (λ id. nat_lt id first) ids) 0) h) in
          ap (λ x. id ∷ x) (with_ids-split first n ids rest) ∙ sym (ap (λ b. if b then id ∷ with_ids first ids else sixteen first ++ id ∷ ids) h)
      | inr h ↦ absurd (omega (arith, ap (λ b. cond b (1 + prefix_len (λ id. nat_lt id first) ids) 0) h))
    ]

-- the same, as slices are appended
pub with_ids-made : (first at : ℕ) (ids none front more all : List ℕ) → at ≡ prefix_len (λ id. nat_lt id first) ids → none ≡ [] → front ≡ none ++ take at ids → more ≡ front ++ sixteen first → all ≡ more ++ take (length ids - at) (drop at ids) → all ≡ with_ids first ids
with_ids-made first at ids none front more all e a b c d =
    d
    ∙ ap (λ x. more ++ x) (take_rest ids at)
    ∙ ap (λ x. x ++ drop at ids) (c ∙ ap (λ x. x ++ sixteen first) (b ∙ ap (λ x. x ++ take at ids) a))
    ∙ with_ids-split first at ids e

-- how often an id stands in a list

abbrev as_one : Bool → ℕ
as_one b = if b then 1 else 0

pub times-append : (id : ℕ) (xs ys : List ℕ) → times id (xs ++ ys) ≡ times id xs + times id ys
times-append id [] ys = omega arith
times-append id (x ∷ xs) ys = omega (arith, times-append id xs ys)

pub times-run_below : (id first k : ℕ) → id < first → times id (run first k) ≡ 0
times-run_below id first zero l = refl
times-run_below id first (suc k) l =
    let miss : (first == id) ≡ false = ne_eqb first id (λ e. absurd (omega arith)) in
    omega (arith, ap as_one miss, times-run_below id (first + 1) k (omega arith))

pub times-run_above : (id first k : ℕ) → first + k ≤ id → times id (run first k) ≡ 0
times-run_above id first zero l = refl
times-run_above id first (suc k) l =
    let miss : (first == id) ≡ false = ne_eqb first id (λ e. absurd (omega arith)) in
    omega (arith, ap as_one miss, times-run_above id (first + 1) k (omega arith))

pub times-run : (id first k : ℕ) → times id (run first k) ≤ 1
times-run id first zero = omega arith
times-run id first (suc k) =
    elim (cases_eq first id) [
      | inl same ↦ omega (arith, ap as_one (eq-eqb first id same), times-run_below id (first + 1) k (omega arith))
      | inr other ↦ omega (arith, ap as_one (ne_eqb first id other), times-run id (first + 1) k)
    ]

pub times-with_ids : (id first : ℕ) (ids : List ℕ) → times id (with_ids first ids) ≡ times id ids + times id (sixteen first)
times-with_ids id first [] = omega arith
times-with_ids id first (other ∷ ids) =
    elim (cases_Bool (nat_lt other first)) [
      | inl h ↦ ap (λ b. times id (if b then other ∷ with_ids first ids else sixteen first ++ other ∷ ids)) h ∙ omega (arith, times-with_ids id first ids)
      | inr h ↦ ap (λ b. times id (if b then other ∷ with_ids first ids else sixteen first ++ other ∷ ids)) h ∙ omega (arith, times-append id (sixteen first) (other ∷ ids))
    ]

pub times-without : (id gone : ℕ) (ids : List ℕ) → times id (without gone ids) ≤ times id ids
times-without id gone [] = omega arith
times-without id gone (other ∷ ids) =
    elim (cases_Bool (other == gone)) [
      | inl h ↦ omega (arith, ap (times id) (without-hit gone other ids h))
      | inr h ↦ omega (arith, ap (times id) (without-miss gone other ids h), times-without id gone ids)
    ]

-- ids are u32s from 1

pub AreIds-append : (xs ys : List ℕ) → AreIds xs → AreIds ys → AreIds (xs ++ ys)
AreIds-append [] ys h k = k
AreIds-append (x ∷ xs) ys h k = (h.0, h.1, AreIds-append xs ys h.2 k)

pub AreIds-front : (xs ys : List ℕ) → AreIds (xs ++ ys) → AreIds xs
AreIds-front [] ys h = tt
AreIds-front (x ∷ xs) ys h = (h.0, h.1, AreIds-front xs ys h.2)

pub AreIds-back : (xs ys : List ℕ) → AreIds (xs ++ ys) → AreIds ys
AreIds-back [] ys h = h
AreIds-back (x ∷ xs) ys h = AreIds-back xs ys h.2

pub AreIds-run : (first k : ℕ) → 1 ≤ first → first + k ≤ 2 ^ 32 → AreIds (run first k)
AreIds-run first zero h l = tt
AreIds-run first (suc k) h l = (h, omega arith, AreIds-run (first + 1) k (omega arith) (omega arith))

pub AreIds-without : (gone : ℕ) (ids : List ℕ) → AreIds ids → AreIds (without gone ids)
AreIds-without gone [] h = tt
AreIds-without gone (other ∷ ids) h =
    elim (cases_Bool (other == gone)) [
      | inl e ↦ subst AreIds (sym (without-hit gone other ids e)) h.2
      | inr e ↦ subst AreIds (sym (without-miss gone other ids e)) (h.0, h.1, AreIds-without gone ids h.2)
    ]

pub AreIds-with_ids : (first : ℕ) (ids : List ℕ) → AreIds (sixteen first) → AreIds ids → AreIds (with_ids first ids)
AreIds-with_ids first [] s h = s
AreIds-with_ids first (other ∷ ids) s h =
    elim (cases_Bool (nat_lt other first)) [
      | inl e ↦ subst AreIds (sym (ap (λ b. if b then other ∷ with_ids first ids else sixteen first ++ other ∷ ids) e)) (h.0, h.1, AreIds-with_ids first ids s h.2)
      | inr e ↦ subst AreIds (sym (ap (λ b. if b then other ∷ with_ids first ids else sixteen first ++ other ∷ ids) e)) (AreIds-append (sixteen first) (other ∷ ids) s h)
    ]

-- sixteen ids above all others stand behind them
pub with_ids-behind : (first : ℕ) (ids : List ℕ) → ((id : ℕ) → 1 ≤ times id ids → id < first) → with_ids first ids ≡ ids ++ sixteen first
with_ids-behind first [] h = refl
with_ids-behind first (id ∷ ids) h =
    let here : nat_lt id first ≡ true = lt-ltb id first (h id (omega (arith, ap as_one (eq-eqb id id refl)))) in
    ap (λ b. if b then id ∷ with_ids first ids else sixteen first ++ id ∷ ids) here
    ∙ ap (λ x. id ∷ x) (with_ids-behind first ids (λ other l. h other (omega arith)))
