-- How far a closure reaches.
use Rattle.std.proofs.Common.{◌≡◌, ◌≤◌, ◌<◌, ◌+◌, ◌-◌, ◌∙◌, inl, inr, refl, sym, ap, subst, arith, ℕ, zero, suc, T, Bool, true, false, cond, List, [], ◌∷◌, ◌++◌, length, take, drop, get_or, Some}
use Rattle.std.specs.Prelude.{filter, slice_get}
use Rattle.std.specs.Ordering.{nat_cmp}
use Rattle.std.specs.FinMap.{is_sorted}
use Rattle.std.specs.List.Sorted.{IsNonDecreasing}
use Rattle.std.proofs.lemmas.List.{drop_all}
use Rattle.ec_base.specs.SortedLaws.{second}
use Rattle.ec_volume.specs.Update.{member, has_operand}
use Rattle.ec_volume.specs.declared.update.Update.{Update}
use Rattle.ec_order.specs.Order.{Issued, Holds}
use Rattle.ec_log.specs.OfChains.Chains.{IsReached, touches, IsPlaceOn}
use Rattle.ec_log.specs.OfChains.Front.{IsBound}
use Rattle.ec_log.specs.OfChains.Walk.{passes}
use Rattle.ec_log.specs.declared.chains.closure.Ask.TheVariants.{Object, All}
use Rattle.ec_log.proofs.OfChains.Fronts.{holds-behind, filter-both, length-both}
use Rattle.ec_log.proofs.OfChains.Numbers.{member-behind, least-behind}
use Rattle.ec_log.proofs.OfChains.Places.{same-item, no-item, item-at, at-holds, holds-at, rise, get-front, front-within, get-behind, behind-get}

pub filter-all : (xs : Issued) → filter (passes All) xs ≡ xs
filter-all [] = refl
filter-all (x ∷ xs) = ap (λ l. x ∷ l) (filter-all xs)

-- Along the chain of an object.

module _ (obj : ℕ) (chain : List ℕ) (held : Issued) where
  abbrev p : ℕ × Update → Bool
  p = touches obj

  -- so many on the object come before the place, and those behind it are in the rest of the chain
  pub record AreFound (index place found : ℕ) : Type 0 where
    pub within : place ≤ length held
    pub few : found ≤ place
    pub count : found ≡ length (filter p (take place held))
    pub ahead : (n : ℕ) (u : Update) → Holds (drop place held) n u → T (has_operand obj u) → T (member n (drop index chain))

  pub found-none : ((n : ℕ) (u : Update) → Holds held n u → T (has_operand obj u) → T (member n chain)) → AreFound 0 0 0
  found-none linked = record { within = omega arith; few = omega arith; count = refl; ahead = linked }

  none-there : (xs : Issued) → ((n : ℕ) (u : Update) → Holds xs n u → T (has_operand obj u) → ⊥) → filter p xs ≡ []
  none-there [] f = refl
  none-there (x ∷ xs) f = go (p x) refl (none-there xs (λ n u h. f n u (inr h)))
    where
      go : (b : Bool) → p x ≡ b → filter p xs ≡ [] → cond b (x ∷ filter p xs) (filter p xs) ≡ []
      go true e r = absurd (f x.0 x.1 (inl (refl, refl)) (subst T (sym e) tt))
      go false e r = r

  module _ (s : T (is_sorted nat_cmp held)) (up : IsNonDecreasing chain) (index place found : ℕ) (f : AreFound index place found) where
    abbrev rest : Issued
    rest = drop place held

    pub found-all : (most : ℕ) → length chain ≤ index → IsReached (Object obj) held most place
    found-all most end = record {
      within = f.within;
      needs_asked = λ n u h t x d. absurd (none n u h t);
      enough = inr (none-there rest none);
    }
      where
        none : (n : ℕ) (u : Update) → Holds rest n u → T (has_operand obj u) → ⊥
        none n u h t = subst (λ l. T (member n l)) (drop_all index chain end) (f.ahead n u h t)

    module _ (op : ℕ) (l : index < length chain) (is : op ≡ get_or chain index op) where
      pub found-enough : (most bound : ℕ) → IsBound (Object obj) held bound → most ≤ found → bound < op → IsReached (Object obj) held most place
      found-enough most bound b m above = record {
        within = f.within;
        needs_asked = λ n u h t x d. let low = least-behind n index chain op up is (f.ahead n u h t) in b n u (holds-behind place held n u h) (omega (arith, low, above)) t x d;
        enough = inl (let count = f.count in omega (arith, count, m));
      }

      -- the operation has left
      pub found-past : ((u : Update) → Holds rest op u → T (has_operand obj u) → ⊥) → AreFound (index + 1) place found
      found-past none = record {
        within = f.within;
        few = f.few;
        count = f.count;
        ahead = λ n u h t. elim (member-behind n index chain op is (f.ahead n u h t)) [ inl e ↦ absurd (none u (subst (λ m. Holds rest m u) e h) t) | inr r ↦ r ];
      }

      -- it's there
      pub found-next : (at : ℕ) → T (is_sorted nat_cmp rest) → IsPlaceOn op obj rest at → AreFound (index + 1) (place + (at + 1)) (found + 1)
      found-next at sorted on =
          let within : at < length rest = on.within in
          let item = item-at rest at within in
          let this = on.is item.0 item.1 in
          let long = rest-length in
          let few = f.few in
          let start = f.within in
          record {
            within = omega (arith, within, long, start);
            few = omega (arith, few);
            count = counted item.0 item.1 this.1 this.0;
            ahead = behind item.0 item.1 this.0;
          }
        where
          further : (a r : ℕ) → place + (a + 1) + r ≡ place + (a + 1 + r)
          further a r = omega arith

          behind : (x : ℕ × Update) → slice_get rest at ≡ Some x → x.0 ≡ op → (n : ℕ) (u : Update) → Holds (drop (place + (at + 1)) held) n u → T (has_operand obj u) → T (member n (drop (index + 1) chain))
          behind x e number n u h t =
              let r = holds-at (drop (place + (at + 1)) held) n u h in
              let there : slice_get rest (at + 1 + r.0) ≡ Some (n, u) = behind-get place (at + 1 + r.0) held (n, u) (subst (λ k. slice_get held k ≡ Some (n, u)) (further at r.0) (get-behind (place + (at + 1)) r.0 held (n, u) r.1)) in
              let later : x.0 < n = rise rest at (at + 1 + r.0) x (n, u) sorted e there (omega arith) in
              elim (member-behind n index chain op is (f.ahead n u (at-holds rest (at + 1 + r.0) (n, u) there) t)) [ inl e ↦ absurd (omega (arith, later, number, e)) | inr m ↦ m ]

          rest-length : length rest ≡ length held - place
          rest-length = length-rest place held
            where
              length-rest : (k : ℕ) (xs : Issued) → length (drop k xs) ≡ length xs - k
              length-rest zero xs = omega arith
              length-rest (suc k) [] = omega arith
              length-rest (suc k) (x ∷ xs) = let r = length-rest k xs in omega (arith, r)

          take-two : (k j : ℕ) (xs : Issued) → k ≤ length xs → take (k + j) xs ≡ take k xs ++ take j (drop k xs)
          take-two zero j xs l = ap (λ n. take n xs) (plain j)
            where
              plain : (j : ℕ) → 0 + j ≡ j
              plain j = omega arith
          take-two (suc k) j [] l = absurd (omega (arith, l))
          take-two (suc k) j (x ∷ xs) l = ap (λ n. take n (x ∷ xs)) (next k j) ∙ ap (λ l. x ∷ l) (take-two k j xs (omega (arith, l)))
            where
              next : (k j : ℕ) → suc k + j ≡ suc (k + j)
              next k j = omega arith

          take-one : (k : ℕ) (xs : Issued) (x : ℕ × Update) → slice_get xs k ≡ Some x → take (k + 1) xs ≡ take k xs ++ x ∷ []
          take-one k [] x e = absurd (no-item e)
          take-one zero (y ∷ ys) x e = ap (λ z. z ∷ []) (same-item e)
          take-one (suc k) (y ∷ ys) x e = ap (λ n. take n (y ∷ ys)) (next k) ∙ ap (λ l. y ∷ l) (take-one k ys x e)
            where
              next : (k : ℕ) → suc k + 1 ≡ suc (k + 1)
              next k = omega arith

          counted : (x : ℕ × Update) → slice_get rest at ≡ Some x → T (has_operand obj x.1) → x.0 ≡ op → found + 1 ≡ length (filter p (take (place + (at + 1)) held))
          counted x e t number =
              let count = f.count in
              let whole =
              ap (λ xs. length (filter p xs)) (take-two place (at + 1) held f.within)
              ∙ ap length (filter-both p (take place held) (take (at + 1) rest))
              ∙ length-both (filter p (take place held)) (filter p (take (at + 1) rest))
              ∙ ap (λ n. length (filter p (take place held)) + n) one in
              omega (arith, count, whole)
            where
              early : (n : ℕ) (u : Update) → Holds (take at rest) n u → T (has_operand obj u) → ⊥
              early n u h v =
                  let r = holds-at (take at rest) n u h in
                  let there = get-front at r.0 rest (n, u) r.1 in
                  let low = rise rest r.0 at (n, u) x sorted there e (front-within at r.0 rest (n, u) r.1) in
                  let least = least-behind n index chain op up is (f.ahead n u (at-holds rest r.0 (n, u) there) v) in
                  omega (arith, low, least, number)

              empty : filter p (take at rest) ≡ []
              empty = none-there (take at rest) early

              single : (b : Bool) → p x ≡ b → T b → filter p (x ∷ []) ≡ x ∷ []
              single true q u = ap (λ b. cond b (x ∷ []) []) q
              single false q u = absurd u

              one : length (filter p (take (at + 1) rest)) ≡ 1
              one =
                  ap (λ xs. length (filter p xs)) (take-one at rest x e)
                  ∙ ap length (filter-both p (take at rest) (x ∷ []))
                  ∙ length-both (filter p (take at rest)) (filter p (x ∷ []))
                  ∙ ap (λ xs. length xs + length (filter p (x ∷ []))) empty
                  ∙ ap (λ xs. 0 + length xs) (single (p x) refl t)

pub sorted-behind : (k : ℕ) (xs : Issued) → T (is_sorted nat_cmp xs) → T (is_sorted nat_cmp (drop k xs))
sorted-behind zero xs s = s
sorted-behind (suc k) [] s = s
sorted-behind (suc k) (x ∷ xs) s = sorted-behind k xs (second _ _ s)
