-- Places that come and go.
use Rattle.std.proofs.Common.{◌≡◌, ◌⊎◌, ◌≤◌, ◌<◌, ◌+◌, ◌-◌, ◌∙◌, inl, inr, refl, sym, ap, subst, arith, ℕ, zero, suc, T, Bool, true, false, cond, List, [], ◌∷◌, length, get_or, take, Option, None, Some}
use Rattle.std.specs.Prelude.{◌==◌, ◌||◌, is_some, slice_get, MatchOption}
use Rattle.std.specs.Cmp.{nat_cmp_total, unsigned_ties}
use Rattle.std.specs.Ordering.{nat_cmp, is_lt, is_eq}
use Rattle.std.specs.FinMap.{is_sorted}
use Rattle.std.specs.FinMap.Entries.{below_all}
use Rattle.std.specs.List.Sorted.{IsNonDecreasing}
use Rattle.std.proofs.lemmas.Bool.{cases_Bool, true≢false}
use Rattle.std.proofs.lemmas.Bool.Decides.{nat_tests}
use Rattle.std.proofs.lemmas.Option.{slice_get_read}
use Rattle.ec_base.specs.SortedLaws.{first, second, find-without}
use Rattle.ec_base.specs.Tables.{at, put, without}
use Rattle.ec_volume.specs.Update.{member, has_operand}
use Rattle.ec_volume.specs.declared.update.Update.{Update}
use Rattle.ec_order.specs.Order.{Issued, Holds}
use Rattle.ec_log.specs.OfChains.Chains.{IsAt, IsPlaceOn, touches, NonePass, IsLatest, Places, Ahead, IsTaken, AreAwaited}
use Rattle.ec_log.specs.OfChains.Walk.{passes}
use Rattle.ec_log.specs.declared.chains.closure.Ask.{Ask}
use Rattle.ec_log.specs.declared.chains.closure.Ask.TheVariants.{Op}
use Rattle.ec_log.proofs.OfChains.Numbers.{member-first, member-next, most-of-front, same-number}
use Rattle.ec_log.proofs.OfChains.Places.{same-item, item-at, at-holds, holds-at, rise, not-behind, held-once, within-list}
use Rattle.ec_order.proofs.OfObjmap.Entries.{at-put}

-- The last key.

some-or : {X : Type 0} (b : Bool) (x : X) (o : Option X) → T (is_some (cond b (Some x) o)) → (b ≡ true) ⊎ T (is_some o)
some-or true x o t = inl refl
some-or false x o t = inr t

equal : (m n : ℕ) → is_eq (nat_cmp m n) ≡ true → m ≡ n
equal m n e = grind (arith, nat_tests, sym (unsigned_ties m n), e)

above-found : (m : ℕ) (es : Places) → T (below_all nat_cmp m es) → (k : ℕ) → T (is_some (at k es)) → m < k
above-found m [] b k t = absurd t
above-found m (e ∷ es) b k t = elim (some-or (is_eq (nat_cmp k e.0)) e.1 (at k es) t) [
  | inl q ↦ let low = lower (first _ _ b) in let same = equal k e.0 q in omega (arith, low, same)
  | inr r ↦ above-found m es (second _ _ b) k r
]
  where
    lower : T (is_lt (nat_cmp m e.0)) → m < e.0
    lower l = grind (arith, nat_tests, l)

there : {X : Type 0} (b : Bool) (x : X) (o : Option X) → (b ≡ true) ⊎ T (is_some o) → T (is_some (cond b (Some x) o))
there true x o s = tt
there false x o (inl e) = absurd (true≢false (sym e))
there false x o (inr t) = t

pub last-key : (es : Places) (i : ℕ) (d : ℕ × Unit {0}) → T (is_sorted nat_cmp es) → i + 1 ≡ length es → T (is_some (at (get_or es i d).0 es)) × ((k : ℕ) → T (is_some (at k es)) → k ≤ (get_or es i d).0)
last-key [] i d s l = absurd (omega (arith, l))
last-key (e ∷ []) zero d s l = (
  there (is_eq (nat_cmp e.0 e.0)) e.1 None (inl (sym (unsigned_ties e.0 e.0) ∙ self)),
  λ k t. elim (some-or (is_eq (nat_cmp k e.0)) e.1 None t) [ inl q ↦ let same = equal k e.0 q in omega (arith, same) | inr r ↦ absurd r ],
)
  where
    self : (e.0 == e.0) ≡ true
    self = grind (arith, nat_tests)
last-key (e ∷ f ∷ es) zero d s l = absurd (omega (arith, l))
last-key (e ∷ es) (suc i) d s l =
    let r = last-key es i d (second _ _ s) (omega (arith, l)) in
    let n = (get_or es i d).0 in
    let above : e.0 < n = above-found e.0 es (first _ _ s) n r.0 in (
      there (is_eq (nat_cmp n e.0)) e.1 (at n es) (inr r.0),
      λ k t. elim (some-or (is_eq (nat_cmp k e.0)) e.1 (at k es) t) [ inl q ↦ let same = equal k e.0 q in omega (arith, same, above) | inr u ↦ r.1 k u ],
    )

-- The last one is taken out.
pub last-taken : (place : ℕ) (old new : Places) → T (is_some (at place old)) → ((k : ℕ) → T (is_some (at k old)) → k ≤ place) → new ≡ without place old → IsTaken place old new
last-taken place old new here most is = record {
  there = here;
  most = most;
  rest = λ k t. stays k (place == k) refl t;
  lower = λ k t. before k (place == k) refl (subst (λ o. T (is_some o)) (found k) t);
}
  where
    found : (k : ℕ) → at k new ≡ cond (place == k) None (at k old)
    found k = ap (at k) is ∙ find-without nat_cmp nat_cmp_total k place old ∙ ap (λ b. cond b None (at k old)) (sym (unsigned_ties place k))

    alike : (k : ℕ) → (place == k) ≡ true → k ≡ place
    alike k e = grind (arith, nat_tests, e)

    stays : (k : ℕ) (b : Bool) → (place == k) ≡ b → T (is_some (at k old)) → (k ≡ place) ⊎ T (is_some (at k new))
    stays k true e t = inl (alike k e)
    stays k false e t = inr (subst (λ o. T (is_some o)) (sym (found k ∙ ap (λ b. cond b None (at k old)) e)) t)

    unlike : (k : ℕ) → (place == k) ≡ false → k ≤ place → k < place
    unlike k e l = grind (arith, nat_tests, e, l)

    before : (k : ℕ) (b : Bool) → (place == k) ≡ b → T (is_some (cond b None (at k old))) → k < place
    before k true e t = absurd t
    before k false e t = unlike k e (most k t)

-- One more place.

pub one-awaited : (obj place : ℕ) (held : Issued) (old new : Places) → new ≡ put place tt old → IsLatest (touches obj) held place → AreAwaited held (obj ∷ []) old new
one-awaited obj place held old new is latest =
    let inside = latest.within in
    record {
      kept = λ k t. stays k (k == place) refl t;
      within = λ k t. before k (k == place) refl (subst (λ o. T (is_some o)) (found k) t);
      ahead = λ o t. subst (λ p. Ahead (touches p) held new) (sym (one o t)) ahead-here;
    }
  where
    found : (k : ℕ) → at k new ≡ cond (k == place) (Some tt) (at k old)
    found k = ap (at k) is ∙ at-put k place tt old

    stays : (k : ℕ) (b : Bool) → (k == place) ≡ b → T (is_some (at k old)) → T (is_some (at k new))
    stays k true e t = subst (λ o. T (is_some o)) (sym (found k ∙ ap (λ b. cond b (Some tt) (at k old)) e)) tt
    stays k false e t = subst (λ o. T (is_some o)) (sym (found k ∙ ap (λ b. cond b (Some tt) (at k old)) e)) t

    alike : (k : ℕ) → (k == place) ≡ true → k ≡ place
    alike k e = grind (arith, nat_tests, e)

    before : (k : ℕ) (b : Bool) → (k == place) ≡ b → T (is_some (cond b (Some tt) (at k old))) → T (is_some (at k old)) ⊎ (k < length held)
    before k true e t = let same = alike k e in let inside = latest.within in inr (omega (arith, same, inside))
    before k false e t = inl t

    one : (o : ℕ) → T (member o (obj ∷ [])) → o ≡ obj
    one o t = elim (member-first o obj [] t) [ inl e ↦ e | inr r ↦ absurd r ]

    self : (place == place) ≡ true
    self = grind (arith, nat_tests)

    ahead-here : Ahead (touches obj) held new
    ahead-here i x e t =
        let item = item-at held place latest.within in (
          place,
          item.0,
          subst (λ o. T (is_some o)) (sym (found place ∙ ap (λ b. cond b (Some tt) (at place old)) self)) tt,
          latest.most i x e t,
          item.1,
          latest.passing item.0 item.1,
        )

pub none-awaited : (obj : ℕ) (held : Issued) (old : Places) → NonePass (touches obj) held → AreAwaited held (obj ∷ []) old old
none-awaited obj held old none = record {
  kept = λ k t. t;
  within = λ k t. inl t;
  ahead = λ o t. subst (λ p. Ahead (touches p) held old) (sym (one o t)) (λ i x e u. absurd (none i x e u));
}
  where
    one : (o : ℕ) → T (member o (obj ∷ [])) → o ≡ obj
    one o t = elim (member-first o obj [] t) [ inl e ↦ e | inr r ↦ absurd r ]

pub both-awaited : (obj : ℕ) (rest objs : List ℕ) (held : Issued) (old middle new : Places) → objs ≡ obj ∷ rest → AreAwaited held (obj ∷ []) old middle → AreAwaited held rest middle new → AreAwaited held objs old new
both-awaited obj rest objs held old middle new split a b = record {
  kept = λ k t. b.kept k (a.kept k t);
  within = λ k t. elim (b.within k t) [ inl m ↦ a.within k m | inr l ↦ inr l ];
  ahead = λ o t. elim (member-first o obj rest (subst (λ l. T (member o l)) split t)) [
    | inl e ↦ λ i x f u. let p = a.ahead o (first-one o e) i x f u in (p.0, p.1, b.kept p.0 p.2, p.3, p.4, p.5)
    | inr m ↦ b.ahead o m
  ];
}
  where
    first-one : (o : ℕ) → o ≡ obj → T (member o (obj ∷ []))
    first-one o e = subst T (sym (ap (λ b. b || false) (same o e))) tt
      where
        same : (o : ℕ) → o ≡ obj → (o == obj) ≡ true
        same o e = grind (arith, nat_tests, e)

-- The place of an operation.

module _ (op obj : ℕ) (held : Issued) (place : ℕ) (x : ℕ × Update) (s : T (is_sorted nat_cmp held)) (at_place : IsAt op held place) (is : x ≡ get_or held place x) where
  here : slice_get held place ≡ Some x
  here = slice_get_read held (length held) place x refl at_place.0 is

  pub place-off : has_operand obj (get_or held place x).1 ≡ false → (u : Update) → Holds held op u → T (has_operand obj u) → ⊥
  place-off e u h t = let off = ap (λ (y : ℕ × Update). has_operand obj y.1) is ∙ e in let same = held-once held place x op u s here (at_place.1 x here) h in absurd (subst T (ap (λ (y : ℕ × Update). has_operand obj y.1) (sym same) ∙ off) t)

  pub place-on : has_operand obj (get_or held place x).1 ≡ true → IsPlaceOn op obj held place
  place-on e = let on = ap (λ (y : ℕ × Update). has_operand obj y.1) is ∙ e in record {
    within = at_place.0;
    is = λ y f. (at_place.1 y f, subst T (sym (ap (λ (z : ℕ × Update). has_operand obj z.1) (same-item (sym f ∙ here)) ∙ on)) tt);
  }

-- no number is above that of the last one
pub last-most : (held : Issued) (x : ℕ × Update) → T (is_sorted nat_cmp held) → 1 ≤ length held → x ≡ get_or held (length held - 1) x → (n : ℕ) (u : Update) → Holds held n u → n ≤ x.0
last-most held x s some is n u h =
    let r = holds-at held n u h in
    let here : slice_get held (length held - 1) ≡ Some x = slice_get_read held (length held) (length held - 1) x refl (omega (arith, some)) is in
    let inside = within-list held r.0 (n, u) r.1 in
    elim (cases_Bool (r.0 == (length held - 1))) [
      | inl e ↦ let last = alike r.0 (length held - 1) e in let same : (n, u) ≡ x = same-item (sym r.1 ∙ ap (slice_get held) last ∙ here) in let number = ap (λ (y : ℕ × Update). y.0) same in omega (arith, number)
      | inr e ↦ let low = rise held r.0 (length held - 1) (n, u) x s r.1 here (before r.0 (length held) e inside) in omega (arith, low)
    ]
  where
    alike : (i j : ℕ) → (i == j) ≡ true → i ≡ j
    alike i j e = grind (arith, nat_tests, e)

    before : (i j : ℕ) → (i == (j - 1)) ≡ false → i < j → i < j - 1
    before i j e l = grind (arith, nat_tests, e, l)

-- Down a chain.

module _ (obj : ℕ) (chain : List ℕ) (held : Issued) (s : T (is_sorted nat_cmp held)) (up : IsNonDecreasing chain) where
  abbrev pub AreBelow : ℕ → Type 0
  AreBelow count = (count ≤ length chain) × ((n : ℕ) (u : Update) → Holds held n u → T (has_operand obj u) → T (member n (take count chain)))

  pub latest-found : (count op place : ℕ) → AreBelow count → 0 < count → op ≡ get_or chain (count - 1) op → IsPlaceOn op obj held place → IsLatest (touches obj) held place
  latest-found count op place below some is on =
      let item = item-at held place on.within in
      let this = on.is item.0 item.1 in
      record {
        within = on.within;
        passing = λ x e. (on.is x e).1;
        most = λ i x e t. not-behind held i place x item.0 s e item.1 (low i x e t item.0 this.0);
      }
    where
      within : count ≤ length chain
      within = below.0

      next : count ≡ count - 1 + 1
      next = omega (arith, some)

      low : (i : ℕ) (x : ℕ × Update) → slice_get held i ≡ Some x → T (has_operand obj x.1) → (y : ℕ × Update) → y.0 ≡ op → x.0 ≤ y.0
      low i x e t y number =
          let least = most-of-front x.0 (count - 1) chain op up (omega (arith, some, within)) is (subst (λ k. T (member x.0 (take k chain))) next (below.1 x.0 x.1 (at-holds held i x e) t)) in
          omega (arith, least, number)

  pub none-found : (count : ℕ) → AreBelow count → count ≤ 0 → NonePass (touches obj) held
  none-found count below none i x e t = subst (λ k. T (member x.0 (take k chain))) (zero-is none) (below.1 x.0 x.1 (at-holds held i x e) t)
    where
      zero-is : count ≤ 0 → count ≡ 0
      zero-is l = omega (arith, l)

  pub further-down : (count op : ℕ) → AreBelow count → 0 < count → op ≡ get_or chain (count - 1) op → ((u : Update) → Holds held op u → T (has_operand obj u) → ⊥) → AreBelow (count - 1)
  further-down count op below some is none =
      let within : count ≤ length chain = below.0 in (
        omega (arith, within),
        λ n u h t. member-next n (count - 1) chain op is (subst (λ k. T (member n (take k chain))) next (below.1 n u h t)) (λ e. none u (subst (λ m. Holds held m u) e h) t),
      )
    where
      next : count ≡ count - 1 + 1
      next = omega (arith, some)

-- An operation that is asked for.

pub op-latest : (ask : Ask) (op : ℕ) (held : Issued) (r : Option ℕ) → T (is_sorted nat_cmp held) → ask ≡ Op op → MatchOption r ((u : Update) → Holds held op u → ⊥) (IsAt op held) → MatchOption r (NonePass (passes ask) held) (IsLatest (passes ask) held)
op-latest ask op held None s is absent = subst (λ a. NonePass (passes a) held) (sym is) (λ i x e t. absent x.1 (subst (λ n. Holds held n x.1) (same-number x.0 op t) (at-holds held i x e)))
op-latest ask op held (Some place) s is there = subst (λ a. IsLatest (passes a) held place) (sym is) (record {
  within = there.0;
  passing = λ x e. self x.0 op (there.1 x e);
  most = λ i x e t. let item = item-at held place there.0 in not-behind held i place x item.0 s e item.1 (low x.0 item.0 (same-number x.0 op t) (there.1 item.0 item.1));
})
  where
    self : (m n : ℕ) → m ≡ n → T (m == n)
    self m n e = subst T (sym (same m n e)) tt
      where
        same : (m n : ℕ) → m ≡ n → (m == n) ≡ true
        same m n e = grind (arith, nat_tests, e)

    low : (n : ℕ) (y : ℕ × Update) → n ≡ op → y.0 ≡ op → n ≤ y.0
    low n y a b = omega (arith, a, b)

-- The first place.
pub one-ahead : (p : ℕ × Update → Bool) (held : Issued) (place : ℕ) (places : Places) → places ≡ put place tt [] → IsLatest p held place → Ahead p held places
one-ahead p held place places is latest i x e t =
    let item = item-at held place latest.within in (
      place,
      item.0,
      subst (λ o. T (is_some o)) (sym (ap (at place) is ∙ at-put place place tt [] ∙ ap (λ b. cond b (Some tt) None) self)) tt,
      latest.most i x e t,
      item.1,
      latest.passing item.0 item.1,
    )
  where
    self : (place == place) ≡ true
    self = grind (arith, nat_tests)

pub one-within : (place : ℕ) (places : Places) (n : ℕ) → places ≡ put place tt [] → place < n → (k : ℕ) → T (is_some (at k places)) → k < n
one-within place places n is l k t = elim (some-or (k == place) tt None (subst (λ o. T (is_some o)) (ap (at k) is ∙ at-put k place tt []) t)) [ inl e ↦ let same = alike e in omega (arith, same, l) | inr r ↦ absurd r ]
  where
    alike : (k == place) ≡ true → k ≡ place
    alike e = grind (arith, nat_tests, e)
