-- The first operations of a closure, and how far they reach.
use Rattle.std.proofs.Common.{◌≡◌, ◌⊎◌, ◌≤◌, ◌<◌, ◌∙◌, inl, inr, refl, sym, ap, subst, arith, ℕ, zero, suc, T, Bool, true, false, cond, List, [], ◌∷◌, ◌++◌, length, take, drop, append-nil, Some}
use Rattle.std.specs.Prelude.{nat_lt, ◌==◌, ◌||◌, ◌+◌}
use Rattle.std.specs.Ordering.{nat_cmp}
use Rattle.std.specs.FinMap.{is_sorted}
use Rattle.std.specs.FinMap.Entries.{below_all}
use Rattle.std.specs.List.{filter, list_any}
use Rattle.std.proofs.lemmas.Bool.{true≢false, and_parts, ltb-true}
use Rattle.std.proofs.lemmas.Bool.Decides.{nat_tests}
use Rattle.ec_base.specs.SortedLaws.{first, second, both}
use Rattle.ec_base.specs.Tables.{Table, keys, at, at_or, or_else, put}
use Rattle.ec_volume.specs.Update.{member, operands}
use Rattle.ec_volume.specs.declared.update.Update.{Update}
use Rattle.ec_volume.specs.declared.update.Update.TheVariants.{Make, Drop, Move, Put, Len, Mode, Stamp, Order, Shift, Owner}
use Rattle.ec_order.specs.Order.{Issued, Holds, share, needs, meet}
use Rattle.ec_log.specs.OfChains.ClosureLaws.{walk-passing}
use Rattle.ec_log.specs.OfChains.Front.{closure_for, IsFront, is_alone, Covers, IsBound}
use Rattle.ec_log.specs.OfChains.Held.{is_behind}
use Rattle.ec_log.specs.OfChains.Walk.{passes, walk}
use Rattle.ec_order.proofs.OfNeeded.Needs.{look, plain_needs, range_needs, ranges_need}
use Rattle.ec_log.specs.declared.chains.closure.Ask.{Ask}
use Rattle.ec_log.specs.declared.chains.closure.Ask.TheVariants.{Object}
use Rattle.ec_base.proofs.Bools.{left, is-true as from-true, holds-true}
use Rattle.ec_order.proofs.OfObjmap.Entries.{at-put}

-- Lists in two parts.

pub split : {X : Type 0} (n : ℕ) (xs : List X) → xs ≡ take n xs ++ drop n xs
split zero xs = refl
split (suc n) [] = refl
split (suc n) (x ∷ xs) = ap (λ l. x ∷ l) (split n xs)

pub filter-both : (p : ℕ × Update → Bool) (xs ys : Issued) → filter p (xs ++ ys) ≡ filter p xs ++ filter p ys
filter-both p [] ys = refl
filter-both p (x ∷ xs) ys = go (p x) (filter-both p xs ys)
  where
    go : (b : Bool) → filter p (xs ++ ys) ≡ filter p xs ++ filter p ys → cond b (x ∷ filter p (xs ++ ys)) (filter p (xs ++ ys)) ≡ cond b (x ∷ filter p xs) (filter p xs) ++ filter p ys
    go true e = ap (λ l. x ∷ l) e
    go false e = e

pub length-both : (xs ys : Issued) → length (xs ++ ys) ≡ length xs + length ys
length-both [] ys = omega arith
length-both (x ∷ xs) ys = let rest = length-both xs ys in omega (arith, rest)

any-both : (t : ℕ × Update → Bool) (xs ys : Issued) → list_any t (xs ++ ys) ≡ (list_any t xs || list_any t ys)
any-both t [] ys = refl
any-both t (x ∷ xs) ys = go (t x) (any-both t xs ys)
  where
    go : (b : Bool) → list_any t (xs ++ ys) ≡ (list_any t xs || list_any t ys) → (b || list_any t (xs ++ ys)) ≡ ((b || list_any t xs) || list_any t ys)
    go true e = refl
    go false e = e

pub keys-both : (xs ys : Issued) → keys (xs ++ ys) ≡ keys xs ++ keys ys
keys-both [] ys = refl
keys-both (x ∷ xs) ys = ap (λ l. x.0 ∷ l) (keys-both xs ys)

member-both : (n : ℕ) (xs ys : List ℕ) → member n (xs ++ ys) ≡ (member n xs || member n ys)
member-both n [] ys = refl
member-both n (x ∷ xs) ys = go (n == x) (member-both n xs ys)
  where
    go : (b : Bool) → member n (xs ++ ys) ≡ (member n xs || member n ys) → (b || member n (xs ++ ys)) ≡ ((b || member n xs) || member n ys)
    go true e = refl
    go false e = e

pub holds-behind : (i : ℕ) (xs : Issued) (n : ℕ) (u : Update) → Holds (drop i xs) n u → Holds xs n u
holds-behind zero xs n u h = h
holds-behind (suc i) [] n u h = h
holds-behind (suc i) (x ∷ xs) n u h = inr (holds-behind i xs n u h)

take-front : (most : ℕ) (xs ys : List ℕ) → most ≤ length xs → take most (xs ++ ys) ≡ take most xs
take-front zero xs ys l = refl
take-front (suc m) [] ys l = absurd (omega (arith, l))
take-front (suc m) (x ∷ xs) ys l = ap (λ zs. x ∷ zs) (take-front m xs ys (omega (arith, l)))

pub sorted-front : (i : ℕ) (xs : Issued) → T (is_sorted nat_cmp xs) → T (is_sorted nat_cmp (take i xs))
sorted-front zero xs s = tt
sorted-front (suc i) [] s = tt
sorted-front (suc i) (x ∷ xs) s = both _ _ (below-front i xs (first _ _ s)) (sorted-front i xs (second _ _ s))
  where
    below-front : (j : ℕ) (ys : Issued) → T (below_all nat_cmp x.0 ys) → T (below_all nat_cmp x.0 (take j ys))
    below-front zero ys b = tt
    below-front (suc j) [] b = tt
    below-front (suc j) (y ∷ ys) b = both _ _ (first _ _ b) (below-front j ys (second _ _ b))

-- What is asked for among these needs nothing that isn't asked for.

abbrev NeedsAsked : (ℕ × Update → Bool) → Issued → Type 0
NeedsAsked p ys = (n : ℕ) (u : Update) → Holds ys n u → T (p (n, u)) → (x : ℕ × Update) → T (needs x.1 u) → T (p x)

module _ (p : ℕ × Update → Bool) where
  -- nothing that passes needs one that doesn't
  none-needed : (ys : Issued) → NeedsAsked p ys → (x : ℕ × Update) → p x ≡ false → list_any (λ y. needs x.1 y.1) (filter p ys) ≡ false
  none-needed [] a x e = refl
  none-needed (y ∷ ys) a x e = go (p y) refl (needs x.1 y.1) refl (none-needed ys (λ n u h. a n u (inr h)) x e)
    where
      go : (b : Bool) → p y ≡ b → (c : Bool) → needs x.1 y.1 ≡ c → list_any (λ z. needs x.1 z.1) (filter p ys) ≡ false → list_any (λ z. needs x.1 z.1) (cond b (y ∷ filter p ys) (filter p ys)) ≡ false
      go false q c i r = r
      go true q false i r = ap (λ t. t || list_any (λ z. needs x.1 z.1) (filter p ys)) i ∙ r
      go true q true i r = absurd (true≢false (sym (from-true (p x) (a y.0 y.1 (inl (refl, refl)) (holds-true (p y) q) x (holds-true (needs x.1 y.1) i))) ∙ e))

  -- so the walk over them finds those that pass
  walk-asked : (ys : Issued) → NeedsAsked p ys → walk p ys ≡ filter p ys
  walk-asked [] a = refl
  walk-asked (y ∷ ys) a = go (p y) refl (walk-asked ys (λ n u h. a n u (inr h)))
    where
      go : (b : Bool) → p y ≡ b → walk p ys ≡ filter p ys → cond (p y || list_any (λ z. needs y.1 z.1) (walk p ys)) (y ∷ walk p ys) (walk p ys) ≡ cond b (y ∷ filter p ys) (filter p ys)
      go true q r = ap (λ t. cond (t || list_any (λ z. needs y.1 z.1) (walk p ys)) (y ∷ walk p ys) (walk p ys)) q ∙ ap (λ l. y ∷ l) r
      go false q r =
          ap (λ t. cond (t || list_any (λ z. needs y.1 z.1) (walk p ys)) (y ∷ walk p ys) (walk p ys)) q
          ∙ ap (λ l. cond (list_any (λ z. needs y.1 z.1) l) (y ∷ l) l) r
          ∙ ap (λ t. cond t (y ∷ filter p ys) (filter p ys)) (none-needed ys (λ n u h. a n u (inr h)) y q)

  -- and those before them are walked over as if they weren't there
  walk-parts : (xs ys : Issued) → NeedsAsked p ys → walk p (xs ++ ys) ≡ walk p xs ++ filter p ys
  walk-parts [] ys a = walk-asked ys a
  walk-parts (x ∷ xs) ys a = go (p x) refl (walk-parts xs ys a)
    where
      step : Bool → Issued → Issued
      step t l = cond t (x ∷ l) l

      cond-both : (t : Bool) → step t (walk p xs ++ filter p ys) ≡ step t (walk p xs) ++ filter p ys
      cond-both true = refl
      cond-both false = refl

      or-none : (a b : Bool) → b ≡ false → (a || b) ≡ a
      or-none true b e = refl
      or-none false b e = e

      go : (b : Bool) → p x ≡ b → walk p (xs ++ ys) ≡ walk p xs ++ filter p ys
          → step (p x || list_any (λ z. needs x.1 z.1) (walk p (xs ++ ys))) (walk p (xs ++ ys)) ≡ step (p x || list_any (λ z. needs x.1 z.1) (walk p xs)) (walk p xs) ++ filter p ys
      go true q r =
          ap (λ t. step (t || list_any (λ z. needs x.1 z.1) (walk p (xs ++ ys))) (walk p (xs ++ ys))) q
          ∙ ap (λ l. x ∷ l) r
          ∙ sym (ap (λ t. step (t || list_any (λ z. needs x.1 z.1) (walk p xs)) (walk p xs) ++ filter p ys) q)
      go false q r =
          ap (λ t. step (t || list_any (λ z. needs x.1 z.1) (walk p (xs ++ ys))) (walk p (xs ++ ys))) q
          ∙ ap (λ l. step (list_any (λ z. needs x.1 z.1) l) l) r
          ∙ ap (λ t. step t (walk p xs ++ filter p ys)) (any-both (λ z. needs x.1 z.1) (walk p xs) (filter p ys) ∙ or-none (list_any (λ z. needs x.1 z.1) (walk p xs)) (list_any (λ z. needs x.1 z.1) (filter p ys)) (none-needed ys a x q))
          ∙ cond-both (list_any (λ z. needs x.1 z.1) (walk p xs))
          ∙ sym (ap (λ t. step (t || list_any (λ z. needs x.1 z.1) (walk p xs)) (walk p xs) ++ filter p ys) q)

  -- those that pass are found
  length-walk : (xs : Issued) → length (filter p xs) ≤ length (walk p xs)
  length-walk [] = omega arith
  length-walk (x ∷ xs) = go (p x) (list_any (λ z. needs x.1 z.1) (walk p xs)) (length-walk xs)
    where
      go : (b c : Bool) → length (filter p xs) ≤ length (walk p xs) → length (cond b (x ∷ filter p xs) (filter p xs)) ≤ length (cond (b || c) (x ∷ walk p xs) (walk p xs))
      go true c l = omega (arith, l)
      go false true l = omega (arith, l)
      go false false l = l

  pub passing-found : (n : ℕ) (xs : Issued) → (member n (keys (walk p xs)) || member n (keys (filter p xs))) ≡ member n (keys (walk p xs))
  passing-found n [] = refl
  passing-found n (x ∷ xs) = go (p x) (list_any (λ z. needs x.1 z.1) (walk p xs)) (passing-found n xs)
    where
      more : (d a b : Bool) → (a || b) ≡ a → ((d || a) || (d || b)) ≡ (d || a)
      more true a b e = refl
      more false a b e = e

      less : (d a b : Bool) → (a || b) ≡ a → ((d || a) || b) ≡ (d || a)
      less true a b e = refl
      less false a b e = e

      go : (b c : Bool) → (member n (keys (walk p xs)) || member n (keys (filter p xs))) ≡ member n (keys (walk p xs))
          → (member n (keys (cond (b || c) (x ∷ walk p xs) (walk p xs))) || member n (keys (cond b (x ∷ filter p xs) (filter p xs)))) ≡ member n (keys (cond (b || c) (x ∷ walk p xs) (walk p xs)))
      go true c e = more (n == x.0) (member n (keys (walk p xs))) (member n (keys (filter p xs))) e
      go false true e = less (n == x.0) (member n (keys (walk p xs))) (member n (keys (filter p xs))) e
      go false false e = e

-- The front of a closure.

module _ (ask : Ask) (held : Issued) (s : T (is_sorted nat_cmp held)) where
  abbrev q : ℕ × Update → Bool
  q = passes ask

  pub front-of : (place most : ℕ) → NeedsAsked q (drop place held) → ((most ≤ length (filter q (take place held))) ⊎ (filter q (drop place held) ≡ [])) → IsFront ask held most (keys (walk q (take place held)))
  front-of place most a r =
      let found : keys (closure_for ask held) ≡ keys (walk q (take place held)) ++ keys (filter q (drop place held)) =
      ap keys (sym (walk-passing q held s) ∙ ap (walk q) (split place held) ∙ walk-parts q (take place held) (drop place held) a) ∙ keys-both (walk q (take place held)) (filter q (drop place held)) in
      record {
        first = sym (ap (take most) found ∙ enough r);
        members = λ n. ap (member n) found ∙ member-both n (keys (walk q (take place held))) (keys (filter q (drop place held))) ∙ parts n;
      }
    where
      length-keys : (xs : Issued) → length (keys xs) ≡ length xs
      length-keys [] = refl
      length-keys (x ∷ xs) = ap suc (length-keys xs)

      enough : ((most ≤ length (filter q (take place held))) ⊎ (filter q (drop place held) ≡ [])) → take most (keys (walk q (take place held)) ++ keys (filter q (drop place held))) ≡ take most (keys (walk q (take place held)))
      enough (inl l) =
          let found = length-walk q (take place held) in
          let same = length-keys (walk q (take place held)) in
          take-front most (keys (walk q (take place held))) (keys (filter q (drop place held))) (omega (arith, l, found, same))
      enough (inr e) = ap (λ l. take most (keys (walk q (take place held)) ++ keys l)) e ∙ ap (take most) (append-nil (keys (walk q (take place held))))

      three : (a b c : Bool) → (a || b) ≡ a → (a || c) ≡ (a || (b || c))
      three true b c e = refl
      three false true c e = absurd (true≢false e)
      three false false c e = refl

      parts : (n : ℕ) → (member n (keys (walk q (take place held))) || member n (keys (filter q (drop place held)))) ≡ (member n (keys (walk q (take place held))) || member n (keys (filter q held)))
      parts n =
          three (member n (keys (walk q (take place held)))) (member n (keys (filter q (take place held)))) (member n (keys (filter q (drop place held)))) (passing-found q n (take place held))
          ∙ ap (λ b. member n (keys (walk q (take place held))) || b)
          (sym (ap (λ l. member n (keys l)) (ap (filter q) (split place held) ∙ filter-both q (take place held) (drop place held)) ∙ ap (member n) (keys-both (filter q (take place held)) (filter q (drop place held)))
          ∙ member-both n (keys (filter q (take place held))) (keys (filter q (drop place held)))))

-- Updates on one object.

one-operand : (u : Update) → is_alone u ≡ true → (o : ℕ) × (operands u ≡ o ∷ [])
one-operand (Put obj at bytes inside) e = (obj, refl)
one-operand (Len obj len) e = (obj, refl)
one-operand (Mode obj mode) e = (obj, refl)
one-operand (Stamp obj stamp) e = (obj, refl)
one-operand (Owner obj owner) e = (obj, refl)
one-operand (Make dir name obj k) e = absurd (true≢false (sym e))
one-operand (Drop dir name obj k) e = absurd (true≢false (sym e))
one-operand (Move dir from to obj k victim) e = absurd (true≢false (sym e))
one-operand (Order objs) e = absurd (true≢false (sym e))
one-operand (Shift dir from into to obj k victim up) e = absurd (true≢false (sym e))

or-none : (b : Bool) → T (b || false) → T b
or-none true t = tt
or-none false t = absurd t

to-or : (b : Bool) → T b → T (b || false)
to-or true t = tt
to-or false t = absurd t

-- what is needed shares an operand
needs-shares : (x u : Update) → T (needs x u) → T (share x u)
needs-shares x u t = elim (look x) [
  | inr p ↦ subst T (plain_needs x u p) t
  | inl r ↦ elim (look u) [
    | inr p ↦ subst (λ z. T (share z u)) (sym r.is) (to-or (member r.obj (operands u)) (subst T (range_needs r.obj r.place r.bytes u p) (subst (λ z. T (needs z u)) r.is t)))
    | inl q ↦
        subst (λ z. T (share z u)) (sym r.is) (subst (λ z. T (share (Put r.obj r.place r.bytes true) z)) (sym q.is)
        (to-or ((r.obj == q.obj) || false) (to-or (r.obj == q.obj) (left (r.obj == q.obj) (meet r.place (length r.bytes) q.place (length q.bytes))
        (subst T (ranges_need r.obj r.place q.obj q.place r.bytes q.bytes) (subst (λ z. T (needs (Put r.obj r.place r.bytes true) z)) q.is (subst (λ z. T (needs z u)) r.is t)))))))
  ]
]

shares-one : (o : ℕ) (xs : List ℕ) → T (list_any (λ p. member p (o ∷ [])) xs) → T (member o xs)
shares-one o [] t = absurd t
shares-one o (x ∷ xs) t = go (x == o) refl t (shares-one o xs)
  where
    turned : (x == o) ≡ true → (o == x) ≡ true
    turned e = grind (arith, nat_tests, e)

    or-left : (a b : Bool) → a ≡ true → T (a || b)
    or-left true b e = tt
    or-left false b e = absurd (true≢false (sym e))

    or-right : (a b : Bool) → T b → T (a || b)
    or-right true b t = tt
    or-right false b t = t

    go : (b : Bool) → (x == o) ≡ b → T ((b || false) || list_any (λ p. member p (o ∷ [])) xs) → (T (list_any (λ p. member p (o ∷ [])) xs) → T (member o xs)) → T ((o == x) || member o xs)
    go true e t h = or-left (o == x) (member o xs) (turned e)
    go false e t h = or-right (o == x) (member o xs) (h t)

-- what an update on this object alone needs is on it too
alone-needs : (u : Update) → is_alone u ≡ true → (obj : ℕ) → T (member obj (operands u)) → (x : Update) → T (needs x u) → T (member obj (operands x))
alone-needs u e obj t x n =
    let one = one-operand u e in
    let same : obj ≡ one.0 = is-same obj one.0 (or-none (obj == one.0) (subst (λ os. T (member obj os)) one.1 t)) in
    subst (λ o. T (member o (operands x))) (sym same) (shares-one one.0 (operands x) (subst (λ os. T (list_any (λ p. member p os) (operands x))) one.1 (needs-shares x u n)))
  where
    is-same : (a b : ℕ) → T (a == b) → a ≡ b
    is-same a b t = grind (arith, nat_tests, from-true (a == b) t)

pub bound-object : (shared : Table ℕ) (held : Issued) (obj : ℕ) → Covers shared held → IsBound (Object obj) held (at_or 0 obj shared)
bound-object shared held obj covers n u h l p x d = go (is_alone u) refl
  where
    go : (b : Bool) → is_alone u ≡ b → T (member obj (operands x.1))
    go true e = alone-needs u e obj p x.1 d
    go false e = let most : n ≤ at_or 0 obj shared = covers n u h e obj p in absurd (omega (arith, most, l))

-- What the map of shared objects covers.

pub covers-none : (shared : Table ℕ) → Covers shared []
covers-none shared n u h e o m = absurd h

pub holds-part : (t : ℕ × Update → Bool) (xs : Issued) (n : ℕ) (u : Update) → Holds (filter t xs) n u → Holds xs n u
holds-part t [] n u h = h
holds-part t (x ∷ xs) n u h = go (t x) h (holds-part t xs n u)
  where
    go : (b : Bool) → Holds (cond b (x ∷ filter t xs) (filter t xs)) n u → (Holds (filter t xs) n u → Holds xs n u) → Holds (x ∷ xs) n u
    go true (inl e) f = inl e
    go true (inr k) f = inr (f k)
    go false k f = inr (f k)

pub covers-part : (t : ℕ × Update → Bool) (shared : Table ℕ) (xs : Issued) → Covers shared xs → Covers shared (filter t xs)
covers-part t shared xs c n u h = c n u (holds-part t xs n u h)

pub holds-last : (xs : Issued) (y : ℕ × Update) (n : ℕ) (u : Update) → Holds (xs ++ y ∷ []) n u → Holds xs n u ⊎ ((y.0 ≡ n) × (y.1 ≡ u))
holds-last [] y n u (inl e) = inr e
holds-last [] y n u (inr h) = absurd h
holds-last (x ∷ xs) y n u (inl e) = inl (inl e)
holds-last (x ∷ xs) y n u (inr h) = elim (holds-last xs y n u h) [ inl k ↦ inl (inr k) | inr k ↦ inr k ]

holds-below : (op : ℕ) (xs : Issued) → is_behind op xs ≡ true → (n : ℕ) (u : Update) → Holds xs n u → n ≤ op
holds-below op [] b n u h = absurd h
holds-below op (x ∷ xs) b n u (inl e) =
    let l : x.0 < op = ltb-true x.0 op (and_parts (nat_lt x.0 op) (is_behind op xs) b).0 in
    let same : x.0 ≡ n = e.0 in
    omega (arith, l, same)
holds-below op (x ∷ xs) b n u (inr h) = holds-below op xs (and_parts (nat_lt x.0 op) (is_behind op xs) b).1 n u h

-- one more operation, where the map was raised for its operands or it is on one object alone
pub covers-more : (old new : Table ℕ) (xs : Issued) (op : ℕ) (w : Update) → is_behind op xs ≡ true → Covers old xs → ((o n : ℕ) → n ≤ at_or 0 o old → n ≤ op → n ≤ at_or 0 o new) → (is_alone w ≡ false → (o : ℕ) → T (member o (operands w)) → op ≤ at_or 0 o new)
    → Covers new (xs ++ (op, w) ∷ [])
covers-more old new xs op w b c raised its n u h e o m = elim (holds-last xs (op, w) n u h) [
  | inl k ↦ raised o n (c n u k e o m) (holds-below op xs b n u k)
  | inr k ↦
      let same : op ≡ n = k.0 in
      let at-least : op ≤ at_or 0 o new = its (ap is_alone k.1 ∙ e) o (subst (λ z. T (member o (operands z))) (sym k.1) m) in
      omega (arith, same, at-least)
]

-- the same operations under a map that was raised
pub covers-raised : (old new : Table ℕ) (xs : Issued) (op : ℕ) → is_behind op xs ≡ true → Covers old xs → ((o n : ℕ) → n ≤ at_or 0 o old → n ≤ op → n ≤ at_or 0 o new) → Covers new xs
covers-raised old new xs op b c raised n u h e o m = raised o n (c n u h e o m) (holds-below op xs b n u h)

-- Notes.

pub noted-old : (k op o n : ℕ) (old middle new : Table ℕ) → middle ≡ put k op old → ((p m : ℕ) → m ≤ at_or 0 p middle → m ≤ op → m ≤ at_or 0 p new) → n ≤ at_or 0 o old → n ≤ op → n ≤ at_or 0 o new
noted-old k op o n old middle new is rest l b = rest o n (subst (λ z. n ≤ z) (sym (ap (at_or 0 o) is ∙ ap (or_else 0) (at-put o k op old))) (go (o == k))) b
  where
    go : (t : Bool) → n ≤ or_else 0 (cond t (Some op) (at o old))
    go true = b
    go false = l

pub noted-new : (k op o : ℕ) (ks : List ℕ) (old middle new : Table ℕ) → middle ≡ put k op old → ((p m : ℕ) → m ≤ at_or 0 p middle → m ≤ op → m ≤ at_or 0 p new) → ((p : ℕ) → T (member p ks) → op ≤ at_or 0 p new) → T (member o (k ∷ ks)) → op ≤ at_or 0 o new
noted-new k op o ks old middle new is rest more t = go (o == k) refl t
  where
    go : (b : Bool) → (o == k) ≡ b → T (b || member o ks) → op ≤ at_or 0 o new
    go true e t =
        let here : at_or 0 o middle ≡ op = ap (at_or 0 o) is ∙ ap (or_else 0) (at-put o k op old ∙ ap (λ b. cond b (Some op) (at o old)) e) in
        rest o op (omega (arith, here)) (omega arith)
    go false e t = more o t
