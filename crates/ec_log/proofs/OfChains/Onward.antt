-- A walk over the chains, from the last operation to the first.
use Rattle.std.proofs.Common.{◌≡◌, ◌⊎◌, ◌≤◌, ◌<◌, ◌+◌, ◌-◌, ◌∙◌, inl, inr, refl, sym, ap, subst, arith, ℕ, zero, suc, T, Bool, true, false, List, [], ◌∷◌, ◌++◌, length, take, get_or, Option, None, Some}
use Rattle.std.specs.Prelude.{◌==◌, ◌||◌, is_some, slice_get, reverse}
use Rattle.std.specs.Ordering.{nat_cmp}
use Rattle.std.specs.FinMap.{is_sorted}
use Rattle.std.specs.List.{list_any}
use Rattle.std.proofs.lemmas.Bool.{cases_Bool, true≢false}
use Rattle.std.proofs.lemmas.Bool.Decides.{nat_tests}
use Rattle.std.proofs.lemmas.List.{take_all, take-take, length-take-le}
use Rattle.std.proofs.lemmas.Option.{get_or_from_slice_get}
use Rattle.ec_base.specs.Tables.{Table, at, or_else, keys}
use Rattle.ec_volume.specs.Update.{member, has_operand, operands}
use Rattle.ec_volume.specs.declared.update.Update.{Update}
use Rattle.ec_volume.specs.declared.update.Update.TheVariants.{Mode}
use Rattle.ec_order.specs.Order.{Issued, needs, meet}
use Rattle.ec_log.specs.OfChains.Chains.{AreLinked, IsOne, touches, Places, Ahead, IsTaken, AreAwaited}
use Rattle.ec_order.specs.OfNeeded.Needed.{Others, Ranges, is_on, is_needed}
use Rattle.ec_log.specs.OfChains.Walk.{passes, walk}
use Rattle.ec_log.specs.declared.chains.closure.Ask.{Ask}
use Rattle.ec_log.specs.declared.chains.closure.Ask.TheVariants.{Object, Op, All}
use Rattle.ec_log.proofs.OfChains.Fronts.{sorted-front}
use Rattle.ec_order.proofs.OfNeeded.Needs.{Plain, look, plain_needs}
use Rattle.ec_log.proofs.OfChains.Places.{same-item, item-at, rise, get-front, front-get, front-within, linked-front}
use Rattle.ec_log.proofs.OfChains.Walks.{Walked, walk_begins, walk_takes, walk_passes, walk_ends}
use Rattle.ec_base.proofs.Bools.{is-true as from-true, holds-true}

-- What is needed is on an object that is met.

any-where : (p : ℕ → Bool) (os : List ℕ) → list_any p os ≡ true → (o : ℕ) × T (member o os) × T (p o)
any-where p [] e = absurd (true≢false (sym e))
any-where p (o ∷ os) e = go (p o) refl e (any-where p os)
  where
    itself : (n : ℕ) → (n == n) ≡ true
    itself n = grind (arith, nat_tests)

    or-left : (a b : Bool) → a ≡ true → T (a || b)
    or-left true b e = tt
    or-left false b e = absurd (true≢false (sym e))

    or-right : (a b : Bool) → T b → T (a || b)
    or-right true b t = tt
    or-right false b t = t

    go : (b : Bool) → p o ≡ b → (b || list_any p os) ≡ true → (list_any p os ≡ true → (n : ℕ) × T (member n os) × T (p n)) → (n : ℕ) × T (member n (o ∷ os)) × T (p n)
    go true q e r = (o, or-left (o == o) (member o os) (itself o), holds-true (p o) q)
    go false q e r = let s = r e in (s.0, or-right (s.0 == o) (member s.0 os) s.1, s.2)

pub needed-on : (others : Others) (ranges : Ranges) (u : Update) → is_needed others ranges u ≡ true → (o : ℕ) × T (has_operand o u) × T (is_on o others ranges)
needed-on others ranges u e = elim (look u) [
  | inl r ↦ (
    r.obj,
    subst (λ z. T (has_operand r.obj z)) (sym r.is) (self r.obj),
    on-either (is_some (at r.obj others)) (at r.obj ranges) (λ q. meet r.place (length r.bytes) q.0 q.1) (ap (is_needed others ranges) (sym r.is) ∙ e),
  )
  | inr p ↦ any-where (λ o. is_on o others ranges) (operands u) (sym (p.wanted others ranges) ∙ e)
]
  where
    self : (o : ℕ) → T ((o == o) || false)
    self o = holds-true ((o == o) || false) (ap (λ b. b || false) same)
      where
        same : (o == o) ≡ true
        same = grind (arith, nat_tests)

    on-either : (a : Bool) (z : Option (List (ℕ × ℕ))) (f : ℕ × ℕ → Bool) → (a || list_any f (or_else [] z)) ≡ true → T (a || is_some z)
    on-either true z f e = tt
    on-either false None f e = absurd (true≢false (sym e))
    on-either false (Some l) f e = tt

-- one more is chosen: an object that is met is one of its operands, or was met before
pub met-more : (x : Update) (others others' : Others) (ranges ranges' : Ranges) → ((z : Update) → is_needed others' ranges' z ≡ (needs z x || is_needed others ranges z)) → (o : ℕ) → T (is_on o others' ranges') → T (has_operand o x) ⊎ T (is_on o others ranges)
met-more x others others' ranges ranges' h o t =
    parts (is_on o others' ranges') (member o (operands x)) (is_on o others ranges) (h (Mode o 0) ∙ ap (λ b. b || is_needed others ranges (Mode o 0)) (plain_needs (Mode o 0) x plain)) t
  where
    plain : Plain (Mode o 0)
    plain = record { is = refl; none = refl; lower = λ y. refl; upper = λ o m xs. refl; wanted = λ o r. refl }

    parts : (new operand old : Bool) → (new || false) ≡ ((operand || false) || (old || false)) → T new → T operand ⊎ T old
    parts new true old e t = inl tt
    parts new false true e t = inr tt
    parts true false false e t = absurd (true≢false e)
    parts false false false e t = absurd t

module _ (ask : Ask) (held : Issued) where
  abbrev q : ℕ × Update → Bool
  q = passes ask

  -- all but the first ones are walked over, and what may be chosen of these is at one of the places or before it
  pub record Walking (rest : Issued) (places : Places) (ops : List ℕ) (others : Others) (ranges : Ranges) : Type 0 where
    pub walked : Walked q held (length rest) ops others ranges
    pub front : rest ≡ take (length rest) held
    pub within : (k : ℕ) → T (is_some (at k places)) → k < length rest
    pub asked : Ahead q rest places
    pub touched : (o : ℕ) → T (is_on o others ranges) → Ahead (touches o) rest places

  pub walking-begins : (places : Places) (ops : List ℕ) (others : Others) (ranges : Ranges) → ops ≡ [] → others ≡ [] → ranges ≡ [] → Ahead q held places → ((k : ℕ) → T (is_some (at k places)) → k < length held) → Walking held places ops others ranges
  walking-begins places ops others ranges a b c ahead within = record {
    walked = walk_begins q held ops others ranges a b c;
    front = sym (take_all (length held) held (omega arith));
    within = within;
    asked = ahead;
    touched = λ o t. absurd (subst T (ap (λ m. is_on o m ranges) b ∙ ap (λ m. is_on o [] m) c) t);
  }

  module _ (rest : Issued) (places : Places) (ops : List ℕ) (others : Others) (ranges : Ranges) (w : Walking rest places ops others ranges) where
    -- an operation behind each of the places isn't chosen
    not-chosen : (i : ℕ) (x : ℕ × Update) → slice_get rest i ≡ Some x → ((k : ℕ) → T (is_some (at k places)) → k < i) → (q x || is_needed others ranges x.1) ≡ false
    not-chosen i x e before = both (q x) (is_needed others ranges x.1) by-ask by-need
      where
        both : (a b : Bool) → (a ≡ true → ⊥) → (b ≡ true → ⊥) → (a || b) ≡ false
        both true b f g = absurd (f refl)
        both false true f g = absurd (g refl)
        both false false f g = refl

        by-ask : q x ≡ true → ⊥
        by-ask t = let a = w.asked i x e (holds-true (q x) t) in let far = before a.0 a.2 in let near = a.3 in omega (arith, far, near)

        by-need : is_needed others ranges x.1 ≡ true → ⊥
        by-need t =
            let o = needed-on others ranges x.1 t in
            let a = w.touched o.0 o.2 i x e o.1 in
            let far = before a.0 a.2 in
            let near = a.3 in
            omega (arith, far, near)

    -- so the walk passes over such operations
    skip : (n to left : ℕ) → left ≡ to + n → left ≤ length rest → ((k : ℕ) → T (is_some (at k places)) → k < to) → Walked q held left ops others ranges → Walked q held to ops others ranges
    skip zero to left e l before walked = subst (λ k. Walked q held k ops others ranges) (plain e) walked
      where
        plain : left ≡ to + 0 → left ≡ to
        plain e = omega (arith, e)
    skip (suc n) to left e l before walked =
        let some : 0 < left = omega (arith, e) in
        let item = item-at rest (left - 1) (omega (arith, e, l)) in
        let there : slice_get held (left - 1) ≡ Some item.0 = get-front (length rest) (left - 1) held item.0 (subst (λ xs. slice_get xs (left - 1) ≡ Some item.0) w.front item.1) in
        skip n to (left - 1) (omega (arith, e)) (omega (arith, l)) before
        (walk_passes q held left ops others ranges walked item.0 some (sym (get_or_from_slice_get held (left - 1) item.0 item.0 there))
        (not-chosen (left - 1) item.0 item.1 (λ k t. let low = before k t in omega (arith, low, e))))

    -- no place is left
    pub walking-ends : ((k : ℕ) → T (is_some (at k places)) → ⊥) → reverse ops ≡ keys (walk q held)
    walking-ends none =
        walk_ends q held 0 ops others ranges (skip (length rest) 0 (length rest) (omega arith) (omega arith) (λ k t. absurd (none k t)) w.walked) (omega arith)

    rest-sorted : T (is_sorted nat_cmp held) → T (is_sorted nat_cmp rest)
    rest-sorted s = subst (λ xs. T (is_sorted nat_cmp xs)) (sym w.front) (sorted-front (length rest) held s)

    pub walking-sorted : (place : ℕ) → T (is_sorted nat_cmp held) → T (is_sorted nat_cmp (take place rest))
    walking-sorted place s = sorted-front place rest (rest-sorted s)

    pub walking-linked : (place : ℕ) (chains : Table (List ℕ)) → AreLinked chains held → AreLinked chains (take place rest)
    walking-linked place chains l = linked-front chains place rest (subst (AreLinked chains) (sym w.front) (linked-front chains (length rest) held l))

    -- The operation at the last place is taken out.
    module _ (s : T (is_sorted nat_cmp held)) (one : IsOne ask) (place : ℕ) (left : Places) (taken : IsTaken place places left) (x : ℕ × Update) (is : slice_get rest place ≡ Some x) (rest' : Issued) (fewer : rest' ≡ take place rest) (places' : Places)
        (awaited : AreAwaited rest' (operands x.1) left places') where
      abbrev inside : place < length rest
      inside = w.within place taken.there

      shorter : length rest' ≡ place
      shorter = ap length fewer ∙ length-take-le place rest (omega (arith, inside))

      sorted : T (is_sorted nat_cmp rest)
      sorted = rest-sorted s

      here : slice_get held place ≡ Some x
      here = get-front (length rest) place held x (subst (λ xs. slice_get xs place ≡ Some x) w.front is)

      up-to : Walked q held (place + 1) ops others ranges
      up-to = skip (length rest - (place + 1)) (place + 1) (length rest) (omega (arith, inside)) (omega arith) (λ k t. let most = taken.most k t in omega (arith, most)) w.walked

      before : place + 1 - 1 ≡ place
      before = omega arith

      indexed : x ≡ get_or held (place + 1 - 1) x
      indexed = subst (λ k. x ≡ get_or held k x) (sym before) (sym (get_or_from_slice_get held place x x here))

      down : (ops' : List ℕ) (others' : Others) (ranges' : Ranges) → Walked q held (place + 1 - 1) ops' others' ranges' → Walked q held (length rest') ops' others' ranges'
      down ops' others' ranges' walked = subst (λ k. Walked q held k ops' others' ranges') (before ∙ sym shorter) walked

      fronted : rest' ≡ take (length rest') held
      fronted =
          fewer ∙ ap (take place) w.front ∙ take-take place (length rest) held (omega (arith, inside)) ∙ ap (λ k. take k held) (sym shorter)

      inner : (k : ℕ) → T (is_some (at k places')) → k < length rest'
      inner k t = elim (awaited.within k t) [ inl old ↦ let low = taken.lower k old in omega (arith, low, shorter) | inr new ↦ new ]

      -- what was ahead is still ahead, where it is so of what the operation itself passes
      goes-on : (p : ℕ × Update → Bool) → Ahead p rest places → (T (p x) → Ahead p rest' places') → Ahead p rest' places'
      goes-on p ahead again = elim (cases_Bool (p x)) [ inl t ↦ again (holds-true (p x) t) | inr f ↦ others-stay f ]
        where
          others-stay : p x ≡ false → Ahead p rest' places'
          others-stay f i y e t =
              let a = ahead i y (get-front place i rest y (subst (λ xs. slice_get xs i ≡ Some y) fewer e)) t in
              elim (taken.rest a.0 a.2) [
                | inl same ↦ absurd (apart a.1 (same-item (sym is ∙ ap (slice_get rest) (sym same) ∙ a.4)) a.5)
                | inr still ↦ (
                  a.0,
                  a.1,
                  awaited.kept a.0 still,
                  a.3,
                  subst (λ xs. slice_get xs a.0 ≡ Some a.1) (sym fewer) (front-get place a.0 rest a.1 (taken.lower a.0 still) a.4),
                  a.5,
                )
              ]
            where
              apart : (z : ℕ × Update) → x ≡ z → T (p z) → ⊥
              apart z k u = true≢false (sym (from-true (p z) u) ∙ ap p (sym k) ∙ f)

      asked-again : (a : Ask) → IsOne a → T (passes a x) → Ahead (passes a) rest' places'
      asked-again (Object o) u t = awaited.ahead o t
      asked-again (Op n) u t = λ i y e v. absurd (once i y e v)
        where
          number : (m n : ℕ) → T (m == n) → m ≡ n
          number m n t = grind (arith, nat_tests, from-true (m == n) t)

          once : (i : ℕ) (y : ℕ × Update) → slice_get rest' i ≡ Some y → T (y.0 == n) → ⊥
          once i y e v =
              let front : slice_get (take place rest) i ≡ Some y = subst (λ xs. slice_get xs i ≡ Some y) fewer e in
              let low = rise rest i place y x sorted (get-front place i rest y front) is (front-within place i rest y front) in
              let a = number x.0 n t in
              let b = number y.0 n v in
              omega (arith, low, a, b)
      asked-again All u t = absurd u

      touched-again : (o : ℕ) → T (has_operand o x.1) ⊎ T (is_on o others ranges) → Ahead (touches o) rest' places'
      touched-again o (inl t) = awaited.ahead o t
      touched-again o (inr t) = goes-on (touches o) (w.touched o t) (awaited.ahead o)

      pub walking-takes : (q x || is_needed others ranges x.1) ≡ true → (ops' : List ℕ) (others' : Others) (ranges' : Ranges) → ops' ≡ ops ++ x.0 ∷ []
          → ((z : Update) → is_needed others' ranges' z ≡ (needs z x.1 || is_needed others ranges z)) → Walking rest' places' ops' others' ranges'
      walking-takes e ops' others' ranges' more h = record {
        walked = down ops' others' ranges' (walk_takes q held (place + 1) ops others ranges up-to x (omega arith) indexed e ops' others' ranges' more h);
        front = fronted;
        within = inner;
        asked = goes-on q w.asked (asked-again ask one);
        touched = λ o t. touched-again o (met-more x.1 others others' ranges ranges' h o t);
      }

      pub walking-passes : (q x || is_needed others ranges x.1) ≡ false → Walking rest' places' ops others ranges
      walking-passes e = record {
        walked = down ops others ranges (walk_passes q held (place + 1) ops others ranges up-to x (omega arith) indexed e);
        front = fronted;
        within = inner;
        asked = goes-on q w.asked (asked-again ask one);
        touched = λ o t. touched-again o (inr t);
      }

      -- it's chosen, or not
      pub walking-goes : (ops' : List ℕ) (others' : Others) (ranges' : Ranges)
          → ((q x || is_needed others ranges x.1) ≡ true → (ops' ≡ ops ++ x.0 ∷ []) × ((z : Update) → is_needed others' ranges' z ≡ (needs z x.1 || is_needed others ranges z)))
          → ((q x || is_needed others ranges x.1) ≡ false → (ops' ≡ ops) × (others' ≡ others) × (ranges' ≡ ranges)) → Walking rest' places' ops' others' ranges'
      walking-goes ops' others' ranges' taken-in left-out = elim (cases_Bool (q x || is_needed others ranges x.1)) [
        | inl t ↦ let a = taken-in t in walking-takes t ops' others' ranges' a.0 a.1
        | inr f ↦
            let a = left-out f in
            subst (λ l. Walking rest' places' l others' ranges') (sym a.0) (subst (λ l. Walking rest' places' ops l ranges') (sym a.1) (subst (λ l. Walking rest' places' ops others l) (sym a.2) (walking-passes f)))
      ]
