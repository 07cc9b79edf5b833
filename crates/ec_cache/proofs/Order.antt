-- Pairs with the most recently used first, and the same pairs with it last.
use Rattle.std.proofs.Common.{◌≡◌, ◌==◌, ◌+◌, ◌-◌, ◌<◌, ◌≤◌, if◌then◌else◌, ℕ, zero, suc, length, take, is_some, Bool, true, false, not, cond, List, [], ◌∷◌, ◌++◌, map, reverse, append-nil, Option, None, Some, refl, sym, ◌∙◌, ap, subst, arith, nat_eq}
use Rattle.std.specs.Ordering.{is_eq, nat_cmp}
use Rattle.std.specs.Option.{option_map_or}
use Rattle.std.specs.List.{IsDistinct, AllByRecursion}
use Rattle.std.specs.Map.{keys_of, lookup, lookup_entry, remove_entry, set_value}
use Rattle.std.proofs.lemmas.List.{reverse-append}
use Rattle.std.proofs.lemmas.List.Elements.{filter-append}
use Rattle.std.proofs.lemmas.Bool.Decides.{nat_tests}
use Rattle.lru.specs.LruCache.{LruCache, promoted, put_entries}
use Rattle.ec_base.specs.Tables.{Table, at, without, renewed}
use Rattle.ec_cache.specs.Held.{used_in}

same-key : (x y : ℕ) → is_eq (nat_cmp x y) ≡ nat_eq x y
same-key x y = grind (arith, nat_tests)

all-taken : {A : Type 0} (n : ℕ) (xs : List A) → length xs ≤ n → take n xs ≡ xs
all-taken zero [] h = refl
all-taken (suc n) [] h = refl
all-taken zero (x ∷ xs) h = absurd (omega (arith, h))
all-taken (suc n) (x ∷ xs) h = ap (λ ys. x ∷ ys) (all-taken n xs (omega (arith, h)))

module _ {X : Type 0} where
  at-here : (x : ℕ) (e : ℕ × X) (es : Table X) (b : Bool) → nat_eq x e.0 ≡ b → at x (e ∷ es) ≡ cond b (Some e.1) (at x es)
  at-here x e es b h = ap (λ t. cond t (Some e.1) (at x es)) (same-key x e.0 ∙ h)

  without-here : (x : ℕ) (e : ℕ × X) (es : Table X) (b : Bool) → nat_eq x e.0 ≡ b → without x (e ∷ es) ≡ cond (not b) (e ∷ without x es) (without x es)
  without-here x e es b h = ap (λ t. cond (not t) (e ∷ without x es) (without x es)) (same-key x e.0 ∙ h)

  none-append : (x : ℕ) (es fs : Table X) → at x es ≡ None → at x (es ++ fs) ≡ at x fs
  none-append x [] fs h = refl
  none-append x (e ∷ es) fs h = go (none-append x es fs) (nat_eq x e.0) refl
    where
      go : (at x es ≡ None → at x (es ++ fs) ≡ at x fs) → (b : Bool) → nat_eq x e.0 ≡ b → at x (e ∷ (es ++ fs)) ≡ at x fs
      go rest true t = absurd (cc (sym (at-here x e es true t) ∙ h))
      go rest false t = at-here x e (es ++ fs) false t ∙ rest (sym (at-here x e es false t) ∙ h)

  append-none : (x : ℕ) (es fs : Table X) → at x fs ≡ None → at x (es ++ fs) ≡ at x es
  append-none x [] fs h = h
  append-none x (e ∷ es) fs h = ap (λ o. cond (is_eq (nat_cmp x e.0)) (Some e.1) o) (append-none x es fs h)

  -- the pairs the other way round: one more goes last
  last-first : (e : ℕ × X) (es : Table X) → reverse (e ∷ es) ≡ reverse es ++ e ∷ []
  last-first e es = reverse-append (e ∷ []) es

  -- no pair has the key
  abbrev Absent : ℕ → Table X → Type 0
  Absent x es = AllByRecursion (λ y. nat_eq x y ≡ false) (keys_of es)

  absent-at : (x : ℕ) (es : Table X) → Absent x es → at x (reverse es) ≡ None
  absent-at x [] h = refl
  absent-at x (e ∷ es) h = ap (at x) (last-first e es) ∙ none-append x (reverse es) (e ∷ []) (absent-at x es h.1) ∙ at-here x e [] false h.0

  absent-without : (x : ℕ) (es : Table X) → Absent x es → without x (reverse es) ≡ reverse es
  absent-without x [] h = refl
  absent-without x (e ∷ es) h =
      ap (without x) (last-first e es)
      ∙ filter-append (λ f. not (is_eq (nat_cmp x f.0))) (reverse es) (e ∷ [])
      ∙ ap (λ fs. fs ++ without x (e ∷ [])) (absent-without x es h.1)
      ∙ ap (λ fs. reverse es ++ fs) (without-here x e [] false h.0)
      ∙ sym (last-first e es)

  -- keys are apart
  abbrev pub Apart : Table X → Type 0
  Apart es = IsDistinct nat_eq (keys_of es)

  key-is : (x : ℕ) (e : ℕ × X) → nat_eq x e.0 ≡ true → e.0 ≡ x
  key-is x e t = grind (arith, nat_tests, t)

  pub at-reverse : (x : ℕ) (es : Table X) → Apart es → at x (reverse es) ≡ lookup (nat_eq x) es
  unfolding IsDistinct
  at-reverse x [] h = refl
  at-reverse x (e ∷ es) h = ap (at x) (last-first e es) ∙ go (at-reverse x es h.1) (nat_eq x e.0) refl
    where
      go : at x (reverse es) ≡ lookup (nat_eq x) es → (b : Bool) → nat_eq x e.0 ≡ b → at x (reverse es ++ e ∷ []) ≡ cond (nat_eq x e.0) (Some e.1) (lookup (nat_eq x) es)
      go rest true t = none-append x (reverse es) (e ∷ []) (absent-at x es (subst (λ k. Absent k es) (key-is x e t) h.0)) ∙ at-here x e [] true t ∙ sym (ap (λ c. cond c (Some e.1) (lookup (nat_eq x) es)) t)
      go rest false t = append-none x (reverse es) (e ∷ []) (at-here x e [] false t) ∙ rest ∙ sym (ap (λ c. cond c (Some e.1) (lookup (nat_eq x) es)) t)

  pub without-reverse : (x : ℕ) (es : Table X) → Apart es → without x (reverse es) ≡ reverse (remove_entry (nat_eq x) es)
  unfolding IsDistinct
  without-reverse x [] h = refl
  without-reverse x (e ∷ es) h =
      ap (without x) (last-first e es) ∙ filter-append (λ f. not (is_eq (nat_cmp x f.0))) (reverse es) (e ∷ []) ∙ go (without-reverse x es h.1) (nat_eq x e.0) refl
    where
      go : without x (reverse es) ≡ reverse (remove_entry (nat_eq x) es) → (b : Bool) → nat_eq x e.0 ≡ b → without x (reverse es) ++ without x (e ∷ []) ≡ reverse (cond (nat_eq x e.0) es (e ∷ remove_entry (nat_eq x) es))
      go rest true t =
          ap (λ fs. fs ++ without x (e ∷ [])) (absent-without x es (subst (λ k. Absent k es) (key-is x e t) h.0))
          ∙ ap (λ fs. reverse es ++ fs) (without-here x e [] true t)
          ∙ append-nil (reverse es)
          ∙ sym (ap (λ c. reverse (cond c es (e ∷ remove_entry (nat_eq x) es))) t)
      go rest false t =
          ap (λ fs. fs ++ without x (e ∷ [])) rest
          ∙ ap (λ fs. reverse (remove_entry (nat_eq x) es) ++ fs) (without-here x e [] false t)
          ∙ sym (last-first e (remove_entry (nat_eq x) es))
          ∙ sym (ap (λ c. reverse (cond c es (e ∷ remove_entry (nat_eq x) es))) t)

  -- the entry that a look-up finds
  abbrev pub Found : ℕ → Table X → Option (ℕ × X) → Type 0
  Found x es None = lookup (nat_eq x) es ≡ None
  Found x es (Some e) = (e.0 ≡ x) × (lookup (nat_eq x) es ≡ Some e.1)

  pub found : (x : ℕ) (es : Table X) → Found x es (lookup_entry (nat_eq x) es)
  found x [] = refl
  found x (e ∷ es) = go (found x es) (nat_eq x e.0) refl
    where
      over : (o : Option (ℕ × X)) → nat_eq x e.0 ≡ false → Found x es o → Found x (e ∷ es) o
      over None t f = ap (λ c. cond c (Some e.1) (lookup (nat_eq x) es)) t ∙ f
      over (Some g) t f = (f.0, ap (λ c. cond c (Some e.1) (lookup (nat_eq x) es)) t ∙ f.1)

      go : Found x es (lookup_entry (nat_eq x) es) → (b : Bool) → nat_eq x e.0 ≡ b → Found x (e ∷ es) (lookup_entry (nat_eq x) (e ∷ es))
      go rest true t = subst (Found x (e ∷ es)) (sym (ap (λ c. cond c (Some e) (lookup_entry (nat_eq x) es)) t)) (key-is x e t, ap (λ c. cond c (Some e.1) (lookup (nat_eq x) es)) t)
      go rest false t = subst (Found x (e ∷ es)) (sym (ap (λ c. cond c (Some e) (lookup_entry (nat_eq x) es)) t)) (over (lookup_entry (nat_eq x) es) t rest)

  pub promoted-reverse : (x : ℕ) (es : Table X) → Apart es → reverse (promoted (nat_eq x) es) ≡ used_in x (reverse es) (at x (reverse es))
  promoted-reverse x es h = subst (λ o. reverse (promoted (nat_eq x) es) ≡ used_in x (reverse es) o) (sym (at-reverse x es h)) (go (lookup_entry (nat_eq x) es) (found x es))
    where
      go : (o : Option (ℕ × X)) → Found x es o → reverse (option_map_or (λ e. e ∷ remove_entry (nat_eq x) es) o es) ≡ used_in x (reverse es) (lookup (nat_eq x) es)
      go None f = sym (ap (used_in x (reverse es)) f)
      go (Some e) f =
          last-first e (remove_entry (nat_eq x) es)
          ∙ ap (λ fs. fs ++ e ∷ []) (sym (without-reverse x es h))
          ∙ ap (λ k. without x (reverse es) ++ (k, e.1) ∷ []) f.0
          ∙ sym (ap (used_in x (reverse es)) f.1)

  -- a look-up that finds nothing

  pub without-none : (x : ℕ) (es : Table X) → at x es ≡ None → without x es ≡ es
  without-none x [] h = refl
  without-none x (e ∷ es) h = go (without-none x es) (nat_eq x e.0) refl
    where
      go : (at x es ≡ None → without x es ≡ es) → (b : Bool) → nat_eq x e.0 ≡ b → without x (e ∷ es) ≡ e ∷ es
      go rest true t = absurd (cc (sym (at-here x e es true t) ∙ h))
      go rest false t = without-here x e es false t ∙ ap (λ fs. e ∷ fs) (rest (sym (at-here x e es false t) ∙ h))

  unfound : (x : ℕ) (es : Table X) → lookup (nat_eq x) es ≡ None → lookup_entry (nat_eq x) es ≡ None
  unfound x es h = go (lookup_entry (nat_eq x) es) (found x es)
    where
      go : (o : Option (ℕ × X)) → Found x es o → o ≡ None
      go None f = refl
      go (Some e) f = absurd (cc (sym f.1 ∙ h))

  -- puts

  pub put-new : (c : LruCache ℕ X) (x k : ℕ) (v : X) → k ≡ x → at x (reverse c.entries) ≡ None → Apart c.entries → length c.entries + 1 < c.cap → put_entries nat_eq c k v ≡ (x, v) ∷ c.entries
  put-new c x k v same none apart room =
      ap (λ j. put_entries nat_eq c j v) same
      ∙ ap (λ o. option_map_or (λ e. (e.0, v) ∷ remove_entry (nat_eq x) c.entries) o ((x, v) ∷ take (c.cap - 1) c.entries)) (unfound x c.entries (sym (at-reverse x c.entries apart) ∙ none))
      ∙ ap (λ es. (x, v) ∷ es) (all-taken (c.cap - 1) c.entries (omega (arith, room)))

  pub renewed-new : (x : ℕ) (v : X) (es : Table X) → at x (reverse es) ≡ None → reverse ((x, v) ∷ es) ≡ renewed x v (reverse es)
  renewed-new x v es none = last-first (x, v) es ∙ ap (λ fs. fs ++ (x, v) ∷ []) (sym (without-none x (reverse es) none))

  pub renewed-old : (c : LruCache ℕ X) (x k : ℕ) (v : X) → k ≡ x → is_some (at x (reverse c.entries)) ≡ true → Apart c.entries → reverse (put_entries nat_eq c k v) ≡ renewed x v (reverse c.entries)
  renewed-old c x k v same there apart = ap (λ j. reverse (put_entries nat_eq c j v)) same ∙ go (lookup_entry (nat_eq x) c.entries) (found x c.entries)
    where
      go : (o : Option (ℕ × X)) → Found x c.entries o → reverse (option_map_or (λ e. (e.0, v) ∷ remove_entry (nat_eq x) c.entries) o ((x, v) ∷ take (c.cap - 1) c.entries)) ≡ renewed x v (reverse c.entries)
      go None f = absurd (cc (sym (ap is_some (at-reverse x c.entries apart ∙ f)) ∙ there))
      go (Some e) f =
          last-first (e.0, v) (remove_entry (nat_eq x) c.entries)
          ∙ ap (λ fs. fs ++ (e.0, v) ∷ []) (sym (without-reverse x c.entries apart))
          ∙ ap (λ k. without x (reverse c.entries) ++ (k, v) ∷ []) f.0

  -- one value changes

  abbrev change_value : ℕ → (X → X) → ℕ × X → ℕ × X
  change_value x g e = if e.0 == x then (e.0, g e.1) else e

  changed-here : (x : ℕ) (g : X → X) (e : ℕ × X) (b : Bool) → nat_eq x e.0 ≡ b → change_value x g e ≡ cond b (e.0, g e.1) e
  changed-here x g e b t = ap (λ c. cond c (e.0, g e.1) e) (other x e.0 b t)
    where
      other : (x y : ℕ) (b : Bool) → nat_eq x y ≡ b → (y == x) ≡ b
      other x y true t = grind (arith, nat_tests, t)
      other x y false t = grind (arith, nat_tests, t)

  map-last : (f : ℕ × X → ℕ × X) (es fs : Table X) → map f (es ++ fs) ≡ map f es ++ map f fs
  map-last f [] fs = refl
  map-last f (e ∷ es) fs = ap (λ gs. f e ∷ gs) (map-last f es fs)

  map-reversed : (f : ℕ × X → ℕ × X) (es : Table X) → map f (reverse es) ≡ reverse (map f es)
  map-reversed f [] = refl
  map-reversed f (e ∷ es) = ap (map f) (last-first e es) ∙ map-last f (reverse es) (e ∷ []) ∙ ap (λ gs. gs ++ f e ∷ []) (map-reversed f es) ∙ sym (last-first (f e) (map f es))

  unchanged : (x : ℕ) (g : X → X) (es : Table X) → Absent x es → map (change_value x g) es ≡ es
  unchanged x g [] h = refl
  unchanged x g (e ∷ es) h = ap (λ f. f ∷ map (change_value x g) es) (changed-here x g e false h.0) ∙ ap (λ fs. e ∷ fs) (unchanged x g es h.1)

  none-changed : (x : ℕ) (g : X → X) (es : Table X) → lookup (nat_eq x) es ≡ None → map (change_value x g) es ≡ es
  none-changed x g [] h = refl
  none-changed x g (e ∷ es) h = go (none-changed x g es) (nat_eq x e.0) refl
    where
      go : (lookup (nat_eq x) es ≡ None → map (change_value x g) es ≡ es) → (b : Bool) → nat_eq x e.0 ≡ b → map (change_value x g) (e ∷ es) ≡ e ∷ es
      go rest true t = absurd (cc (sym (ap (λ c. cond c (Some e.1) (lookup (nat_eq x) es)) t) ∙ h))
      go rest false t = ap (λ f. f ∷ map (change_value x g) es) (changed-here x g e false t) ∙ ap (λ fs. e ∷ fs) (rest (sym (ap (λ c. cond c (Some e.1) (lookup (nat_eq x) es)) t) ∙ h))

  one-changed : (x : ℕ) (g : X → X) (v : X) (es : Table X) → Apart es → lookup (nat_eq x) es ≡ Some v → set_value (nat_eq x) es (g v) ≡ map (change_value x g) es
  unfolding IsDistinct
  one-changed x g v [] h found = absurd (cc found)
  one-changed x g v (e ∷ es) h found = go (one-changed x g v es h.1) (nat_eq x e.0) refl
    where
      here : nat_eq x e.0 ≡ true → v ≡ e.1
      here t = let found' = sym (ap (λ c. cond c (Some e.1) (lookup (nat_eq x) es)) t) ∙ found in cc

      go : (lookup (nat_eq x) es ≡ Some v → set_value (nat_eq x) es (g v) ≡ map (change_value x g) es) → (b : Bool) → nat_eq x e.0 ≡ b
          → cond (nat_eq x e.0) ((e.0, g v) ∷ es) (e ∷ set_value (nat_eq x) es (g v)) ≡ map (change_value x g) (e ∷ es)
      go rest true t =
          ap (λ c. cond c ((e.0, g v) ∷ es) (e ∷ set_value (nat_eq x) es (g v))) t
          ∙ ap (λ w. (e.0, g w) ∷ es) (here t)
          ∙ ap (λ fs. (e.0, g e.1) ∷ fs) (sym (unchanged x g es (subst (λ k. Absent k es) (key-is x e t) h.0)))
          ∙ sym (ap (λ f. f ∷ map (change_value x g) es) (changed-here x g e true t))
      go rest false t =
          ap (λ c. cond c ((e.0, g v) ∷ es) (e ∷ set_value (nat_eq x) es (g v))) t
          ∙ ap (λ fs. e ∷ fs) (rest (sym (ap (λ c. cond c (Some e.1) (lookup (nat_eq x) es)) t) ∙ found))
          ∙ sym (ap (λ f. f ∷ map (change_value x g) es) (changed-here x g e false t))

  pub changed-reverse : (x : ℕ) (g : X → X) (v : X) (es : Table X) → Apart es → lookup (nat_eq x) es ≡ Some v → reverse (set_value (nat_eq x) es (g v)) ≡ map (change_value x g) (reverse es)
  changed-reverse x g v es h found = ap reverse (one-changed x g v es h found) ∙ sym (map-reversed (change_value x g) es)

  pub unchanged-reverse : (x : ℕ) (g : X → X) (es : Table X) → lookup (nat_eq x) es ≡ None → reverse es ≡ map (change_value x g) (reverse es)
  unchanged-reverse x g es none = sym (ap reverse (none-changed x g es none)) ∙ sym (map-reversed (change_value x g) es)
