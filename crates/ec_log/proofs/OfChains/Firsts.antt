-- The first of the operations that are asked for, and fronts that are whole closures.
use Rattle.std.proofs.Common.{◌≡◌, ◌≤◌, ◌<◌, ◌+◌, ◌∙◌, inl, inr, refl, sym, ap, subst, arith, ℕ, zero, suc, T, Bool, true, false, cond, List, [], ◌∷◌, length, take, drop, get_or, None, Some}
use Rattle.std.specs.Prelude.{◌==◌, ◌||◌, filter}
use Rattle.std.specs.Ordering.{nat_cmp}
use Rattle.std.specs.FinMap.{is_sorted}
use Rattle.std.specs.List.{list_any}
use Rattle.std.specs.List.Sorted.{IsNonDecreasing}
use Rattle.std.proofs.lemmas.Bool.Decides.{nat_tests}
use Rattle.std.proofs.lemmas.List.{drop_all, take-take}
use Rattle.ec_base.specs.SortedLaws.{first, second}
use Rattle.ec_base.specs.Tables.{keys}
use Rattle.ec_volume.specs.Update.{member, has_operand}
use Rattle.ec_volume.specs.declared.update.Update.{Update}
use Rattle.ec_order.specs.Order.{Issued, Holds}
use Rattle.ec_log.specs.OfChains.Chains.{touches, IsPlaceOn}
use Rattle.ec_log.specs.OfChains.ClosureLaws.{above-held, walk-passing, walk-none, walk-all}
use Rattle.ec_log.specs.OfChains.Front.{closure_for, IsFront}
use Rattle.ec_log.specs.OfChains.Held.{first_number}
use Rattle.ec_log.specs.OfChains.Slots.{Slots, live, placed}
use Rattle.ec_log.specs.OfChains.Walk.{passes, walk}
use Rattle.ec_log.specs.declared.chains.closure.Ask.{Ask}
use Rattle.ec_log.specs.declared.chains.closure.Ask.TheVariants.{Op, All}
use Rattle.ec_log.proofs.OfChains.Fronts.{passing-found}
use Rattle.ec_log.proofs.OfChains.Live.{Apart, walk-live, filter-live, object-apart, sorted-live}
use Rattle.ec_log.proofs.OfChains.Numbers.{same-number, member-behind, least-behind}
use Rattle.ec_log.proofs.OfChains.Places.{item-at, at-holds}
use Rattle.ec_log.proofs.OfChains.Reached.{filter-all}

itself : (n : ℕ) → T (n == n)
itself n = subst T (sym (same n)) tt
  where
    same : (n : ℕ) → (n == n) ≡ true
    same n = grind (arith, nat_tests)

module _ (p : ℕ × Update → Bool) where
  pub none-pass : (xs : Issued) → ((n : ℕ) (u : Update) → Holds xs n u → T (p (n, u)) → ⊥) → filter p xs ≡ []
  none-pass [] f = refl
  none-pass (x ∷ xs) f = go (p x) refl (none-pass xs (λ n u h. f n u (inr h)))
    where
      go : (b : Bool) → p x ≡ b → filter p xs ≡ [] → cond b (x ∷ filter p xs) (filter p xs) ≡ []
      go true e r = absurd (f x.0 x.1 (inl (refl, refl)) (subst T (sym e) tt))
      go false e r = r

  none-any : (xs : Issued) → ((n : ℕ) (u : Update) → Holds xs n u → T (p (n, u)) → ⊥) → list_any p xs ≡ false
  none-any [] f = refl
  none-any (x ∷ xs) f = go (p x) refl (none-any xs (λ n u h. f n u (inr h)))
    where
      go : (b : Bool) → p x ≡ b → list_any p xs ≡ false → (b || list_any p xs) ≡ false
      go true e r = absurd (f x.0 x.1 (inl (refl, refl)) (subst T (sym e) tt))
      go false e r = r

  -- of rising operations the least one that passes is the first
  least-first : (op : ℕ) (u : Update) (xs : Issued) → T (is_sorted nat_cmp xs) → Holds xs op u → T (p (op, u)) → ((n : ℕ) (w : Update) → Holds xs n w → T (p (n, w)) → op ≤ n) → Some op ≡ first_number (filter p xs)
  least-first op u [] s h t least = absurd h
  least-first op u (x ∷ xs) s h t least = go (p x) refl h (λ k. least-first op u xs (second _ _ s) k t (λ n w q r. least n w (inr q) r))
    where
      same : op ≤ x.0 → x.0 < op → ⊥
      same a b = omega (arith, a, b)

      here : ((x.0 ≡ op) × (x.1 ≡ u)) → p x ≡ p (op, u)
      here k = ap (λ m. p (m, x.1)) k.0 ∙ ap (λ w. p (op, w)) k.1

      go : (b : Bool) → p x ≡ b → Holds (x ∷ xs) op u → (Holds xs op u → Some op ≡ first_number (filter p xs)) → Some op ≡ first_number (cond b (x ∷ filter p xs) (filter p xs))
      go true e (inl k) r = ap Some (sym k.0)
      go true e (inr k) r = absurd (same (least x.0 x.1 (inl (refl, refl)) (subst T (sym e) tt)) (above-held x.0 xs (first _ _ s) op u k))
      go false e (inl k) r = absurd (subst T (sym (here k) ∙ e) t)
      go false e (inr k) r = r k

-- Along the chain of an object.

module _ (obj : ℕ) (chain : List ℕ) (held : Slots) (i : ℕ) (ahead : (n : ℕ) (u : Update) → Holds (placed held) n u → T (has_operand obj u) → T (member n (drop i chain))) where
  pub first-none : length chain ≤ i → None ≡ first_number (filter (touches obj) (live held))
  first-none l = sym (ap first_number (sym (filter-live (touches obj) held (object-apart obj held)) ∙ none-pass (touches obj) (placed held) (λ n u h t. subst (λ ns. T (member n ns)) (drop_all i chain l) (ahead n u h t))))

  module _ (op : ℕ) (is : op ≡ get_or chain i op) where
    pub first-found : (place : ℕ) → T (is_sorted nat_cmp (placed held)) → IsNonDecreasing chain → IsPlaceOn op obj (placed held) place → Some op ≡ first_number (filter (touches obj) (live held))
    first-found place s up on =
        let item = item-at (placed held) place on.within in
        let x = item.0 in
        let this = on.is x item.1 in
        let there : Holds (placed held) op x.1 = subst (λ n. Holds (placed held) n x.1) this.0 (at-holds (placed held) place x item.1) in
        least-first (touches obj) op x.1 (placed held) s there this.1 (λ n w h t. least-behind n i chain op up is (ahead n w h t))
        ∙ ap first_number (filter-live (touches obj) held (object-apart obj held))

    pub first-next : ((u : Update) → Holds (placed held) op u → T (has_operand obj u) → ⊥) → (n : ℕ) (u : Update) → Holds (placed held) n u → T (has_operand obj u) → T (member n (drop (i + 1) chain))
    first-next none n u h t = elim (member-behind n i chain op is (ahead n u h t)) [ inl e ↦ absurd (none u (subst (λ m. Holds (placed held) m u) e h) t) | inr r ↦ r ]

-- One operation.

module _ (op : ℕ) (held : Issued) where
  pub first-op : T (is_sorted nat_cmp held) → (u : Update) × Holds held op u → Some op ≡ first_number (filter (passes (Op op)) held)
  first-op s h = least-first (passes (Op op)) op h.0 held s h.1 (itself op) (λ n w k t. let e = same-number n op t in omega (arith, e))

  other : ((u : Update) → Holds held op u → ⊥) → (n : ℕ) (u : Update) → Holds held n u → T (passes (Op op) (n, u)) → ⊥
  other f n u h t = f u (subst (λ m. Holds held m u) (same-number n op t) h)

  pub no-op : ((u : Update) → Holds held op u → ⊥) → None ≡ first_number (filter (passes (Op op)) held)
  no-op f = sym (ap first_number (none-pass (passes (Op op)) held (other f)))

  pub no-closure : ((u : Update) → Holds held op u → ⊥) → [] ≡ keys (walk (passes (Op op)) held)
  no-closure f = sym (ap keys (walk-none (passes (Op op)) held (none-any (passes (Op op)) held (other f))))

pub first-all : (held : Issued) → first_number held ≡ first_number (filter (passes All) held)
first-all held = sym (ap first_number (filter-all held))

-- Fronts.

module _ (ask : Ask) where
  -- the whole closure
  pub front-whole : (held : Issued) (most : ℕ) (ops : List ℕ) → T (is_sorted nat_cmp held) → ops ≡ keys (walk (passes ask) held) → IsFront ask held most ops
  front-whole held most ops s e = subst (IsFront ask held most) (sym e) (record {
    first = ap (λ xs. take most (keys xs)) (walk-passing (passes ask) held s);
    members = λ n. ap (λ xs. member n (keys xs)) (sym (walk-passing (passes ask) held s)) ∙ sym (passing-found (passes ask) n held);
  })

  -- places that are empty add nothing
  pub front-live : (held : Slots) (most : ℕ) (ops : List ℕ) → T (is_sorted nat_cmp (placed held)) → Apart (passes ask) held → IsFront ask (placed held) most ops → IsFront ask (live held) most ops
  front-live held most ops s a f = record {
    first = f.first ∙ ap (λ xs. take most (keys xs)) same;
    members = λ n. ap (λ xs. member n (keys xs)) (sym same) ∙ f.members n ∙ ap (λ xs. member n ops || member n (keys xs)) (filter-live (passes ask) held a);
  }
    where
      same : closure_for ask (placed held) ≡ closure_for ask (live held)
      same = sym (walk-passing (passes ask) (placed held) s) ∙ walk-live (passes ask) held a ∙ walk-passing (passes ask) (live held) (sorted-live held s)

pub front-all : (held : Issued) (most : ℕ) (ops : List ℕ) → T (is_sorted nat_cmp held) → ops ≡ take most (keys held) → IsFront All held most ops
front-all held most ops s e = subst (IsFront All held most) (sym e) (record {
  first = take-take most most (keys held) (omega arith) ∙ ap (λ xs. take most (keys xs)) (sym whole);
  members = λ n. ap (λ xs. member n (keys xs)) whole ∙ sym (either n most (keys held)) ∙ ap (λ xs. member n (take most (keys held)) || member n (keys xs)) (sym (filter-all held));
})
  where
    whole : closure_for All held ≡ held
    whole = sym (walk-passing (passes All) held s) ∙ walk-all held

    either : (n k : ℕ) (ns : List ℕ) → (member n (take k ns) || member n ns) ≡ member n ns
    either n zero ns = refl
    either n (suc k) [] = refl
    either n (suc k) (m ∷ ns) = go (n == m) (either n k ns)
      where
        go : (b : Bool) → (member n (take k ns) || member n ns) ≡ member n ns → ((b || member n (take k ns)) || (b || member n ns)) ≡ (b || member n ns)
        go true r = refl
        go false r = r
