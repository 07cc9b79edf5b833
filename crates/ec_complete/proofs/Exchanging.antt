-- Two rising lists of ids of one length: a renaming that leads from the one to the other, and leaves what is not above them.
use Rattle.std.proofs.Common.{◌≡◌, refl, sym, ap, ◌∙◌, arith, ◌≤◌, ◌<◌, ◌+◌, ℕ, suc, Bool, true, false, ◌==◌, List, [], ◌∷◌, map, length}
use Rattle.std.specs.Prelude.{Option, None, Some, nat_le}
use Rattle.std.proofs.lemmas.Bool.{eq-eqb, eqb-true}
use Rattle.std.proofs.lemmas.Bool.Decides.{nat_tests}
use Rattle.ec_complete.specs.Ids.{AreAbove}

-- the other list's id at the id's place
abbrev other : ℕ → List ℕ → List ℕ → Option ℕ
other x [] others = None
other x (id ∷ ids) [] = None
other x (id ∷ ids) (o ∷ others) = elim (x == id) [ true ↦ Some o | false ↦ other x ids others ]

-- the last one of a list, or this one
abbrev last : ℕ → List ℕ → ℕ
last n [] = n
last n (id ∷ ids) = last id ids

last-above : (n : ℕ) (ids : List ℕ) → AreAbove n ids → n ≤ last n ids
last-above n [] a = omega arith
last-above n (id ∷ ids) a = omega (arith, a.0, last-above id ids a.1)

-- An id of the other list lies between the first and the last.
others-between : (n m x y : ℕ) (ids others : List ℕ) → AreAbove m others → other x ids others ≡ Some y → (m < y) × (y ≤ last m others)
others-between n m x y [] others a e = absurd (none e)
  where
    none : ◌≡◌ {A = Option ℕ} None (Some y) → ⊥
    none e = grind (arith, e)
others-between n m x y (id ∷ ids) [] a e = absurd (none e)
  where
    none : ◌≡◌ {A = Option ℕ} None (Some y) → ⊥
    none e = grind (arith, e)
others-between n m x y (id ∷ ids) (o ∷ others) a e = go (x == id) e (others-between n o x y ids others a.1)
  where
    some : (a b : ℕ) → ◌≡◌ {A = Option ℕ} (Some a) (Some b) → a ≡ b
    some a b e = cc

    go : (b : Bool) → elim b as (λ z. Option ℕ) [ true ↦ Some o | false ↦ other x ids others ] ≡ Some y → (other x ids others ≡ Some y → (o < y) × (y ≤ last o others)) → (m < y) × (y ≤ last o others)
    go true e f = (omega (arith, a.0, some o y e), omega (arith, some o y e, last-above o others a.1))
    go false e f = let r = f e in (omega (arith, r.0, a.0), r.1)

-- an id that has another one is above this one
own-above : (n x y : ℕ) (ids others : List ℕ) → AreAbove n ids → other x ids others ≡ Some y → n < x
own-above n x y [] others a e = absurd (none e)
  where
    none : ◌≡◌ {A = Option ℕ} None (Some y) → ⊥
    none e = grind (arith, e)
own-above n x y (id ∷ ids) [] a e = absurd (none e)
  where
    none : ◌≡◌ {A = Option ℕ} None (Some y) → ⊥
    none e = grind (arith, e)
own-above n x y (id ∷ ids) (o ∷ others) a e = go (x == id) refl e (own-above id x y ids others a.1)
  where
    go : (b : Bool) → (x == id) ≡ b → elim b as (λ z. Option ℕ) [ true ↦ Some o | false ↦ other x ids others ] ≡ Some y → (other x ids others ≡ Some y → id < x) → n < x
    go true p e f = omega (arith, a.0, eqb-true x id p)
    go false p e f = omega (arith, a.0, f e)

-- ids with the same other one are the same
apart-others : (n m x z y : ℕ) (ids others : List ℕ) → AreAbove n ids → AreAbove m others → other x ids others ≡ Some y → other z ids others ≡ Some y → x ≡ z
apart-others n m x z y [] others a b e f = absurd (none e)
  where
    none : ◌≡◌ {A = Option ℕ} None (Some y) → ⊥
    none e = grind (arith, e)
apart-others n m x z y (id ∷ ids) [] a b e f = absurd (none e)
  where
    none : ◌≡◌ {A = Option ℕ} None (Some y) → ⊥
    none e = grind (arith, e)
apart-others n m x z y (id ∷ ids) (o ∷ others) a b e f = go (x == id) refl (z == id) refl e f (apart-others id o x z y ids others a.1 b.1)
  where
    some : (a b : ℕ) → ◌≡◌ {A = Option ℕ} (Some a) (Some b) → a ≡ b
    some a b e = cc

    go : (s : Bool) → (x == id) ≡ s → (t : Bool) → (z == id) ≡ t → elim s as (λ z. Option ℕ) [ true ↦ Some o | false ↦ other x ids others ] ≡ Some y → elim t as (λ z. Option ℕ) [ true ↦ Some o | false ↦ other z ids others ] ≡ Some y
        → (other x ids others ≡ Some y → other z ids others ≡ Some y → x ≡ z) → x ≡ z
    go true p true q e f r = eqb-true x id p ∙ sym (eqb-true z id q)
    go true p false q e f r = absurd (omega (arith, some o y e, (others-between id o z y ids others b.1 f).0))
    go false p true q e f r = absurd (omega (arith, some o y f, (others-between id o x y ids others b.1 e).0))
    go false p false q e f r = r e f

module _ (top : ℕ) (ids others : List ℕ) (a : AreAbove top ids) (b : AreAbove top others) where
  -- what has no other id goes beyond all of them
  abbrev beyond : Bool → ℕ → ℕ
  beyond true x = x
  beyond false x = x + last top others

  abbrev by : Option ℕ → ℕ → ℕ
  by (Some y) x = y
  by None x = beyond (nat_le x top) x

  pub exchange : ℕ → ℕ
  exchange x = by (other x ids others) x

  -- where it leads
  data Leads (x : ℕ) : ℕ → Type 0 where
    low : x ≤ top → Leads x x
    high : other x ids others ≡ None → top < x → Leads x (x + last top others)
    across : (y : ℕ) → other x ids others ≡ Some y → Leads x y

  leads : (x : ℕ) → Leads x (exchange x)
  unfolding exchange
  leads x = go (other x ids others) refl
    where
      go : (o : Option ℕ) → other x ids others ≡ o → Leads x (by o x)
      go (Some y) e = across y e
      go None e = side (nat_le x top) refl
        where
          side : (z : Bool) → nat_le x top ≡ z → Leads x (beyond z x)
          side true f = low (grind (arith, nat_tests, f))
          side false f = high e (grind (arith, nat_tests, f))

  same : (x z u w : ℕ) → Leads x u → Leads z w → u ≡ w → x ≡ z
  same x z _ _ (low l) (low k) e = e
  same x z _ _ (low l) (high n k) e = absurd (omega (arith, l, k, e))
  same x z _ _ (low l) (across y k) e = absurd (omega (arith, l, e, (others-between top top z y ids others b k).0))
  same x z _ _ (high n l) (low k) e = absurd (omega (arith, l, k, e))
  same x z _ _ (high n l) (high m k) e = omega (arith, e)
  same x z _ _ (high n l) (across y k) e = absurd (omega (arith, l, e, (others-between top top z y ids others b k).1))
  same x z _ _ (across y l) (low k) e = absurd (omega (arith, k, e, (others-between top top x y ids others b l).0))
  same x z _ _ (across y l) (high m k) e = absurd (omega (arith, k, e, (others-between top top x y ids others b l).1))
  same x z _ _ (across y l) (across w k) e = apart-others top top x z w ids others a b (l ∙ ap Some e) k

  pub injective : (x z : ℕ) → exchange x ≡ exchange z → x ≡ z
  injective x z e = same x z (exchange x) (exchange z) (leads x) (leads z) e

  pub stays : (x : ℕ) → x ≤ top → exchange x ≡ x
  unfolding exchange
  stays x l = go (other x ids others) refl
    where
      go : (o : Option ℕ) → other x ids others ≡ o → by o x ≡ x
      go (Some y) e = absurd (omega (arith, l, own-above top x y ids others a e))
      go None e = ap (λ z. beyond z x) (is-low x top l)
        where
          is-low : (x top : ℕ) → x ≤ top → nat_le x top ≡ true
          is-low x top l = grind (arith, nat_tests, l)

  -- the one list becomes the other
  not-first : (x id : ℕ) → id < x → (x == id) ≡ false
  not-first x id l = grind (arith, l)

  less-long : (m n : ℕ) → suc m ≡ suc n → m ≡ n
  less-long m n e = omega (arith, e)

  abbrev Leading : (ℕ → ℕ) → List ℕ → List ℕ → Type 0
  Leading f is js = (x y : ℕ) → other x is js ≡ Some y → f x ≡ y

  leads-first : (f : ℕ → ℕ) (i j : ℕ) (is js : List ℕ) → Leading f (i ∷ is) (j ∷ js) → f i ≡ j
  leads-first f i j is js h = h i j (ap (λ b. elim b as (λ z. Option ℕ) [ true ↦ Some j | false ↦ other i is js ]) (eq-eqb i i refl))

  leads-rest : (f : ℕ → ℕ) (i j : ℕ) (is js : List ℕ) → AreAbove i is → Leading f (i ∷ is) (j ∷ js) → Leading f is js
  leads-rest f i j is js c h x y e = h x y (ap (λ b. elim b as (λ z. Option ℕ) [ true ↦ Some j | false ↦ other x is js ]) (not-first x i (own-above i x y is js c e)) ∙ e)

  at-place : (n : ℕ) (f : ℕ → ℕ) (is js : List ℕ) → AreAbove n is → length is ≡ length js → Leading f is js → map f is ≡ js
  at-place n f [] [] c l h = refl
  at-place n f [] (j ∷ js) c l h = absurd (omega (arith, l))
  at-place n f (i ∷ is) [] c l h = absurd (omega (arith, l))
  at-place n f (i ∷ is) (j ∷ js) c l h = let tail = at-place i f is js c.1 (less-long (length is) (length js) l) (leads-rest f i j is js c.1 h) in (λ z. leads-first f i j is js h z ∷ tail z)

  pub mapped : length ids ≡ length others → map exchange ids ≡ others
  unfolding exchange
  mapped l = at-place top exchange ids others a l (λ x y e. ap (λ o. by o x) e)
