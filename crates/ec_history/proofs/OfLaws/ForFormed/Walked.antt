-- Walks that reach an object, in a well-formed volume.
use Rattle.std.proofs.Common.{◌≡◌, refl, sym, ap, ap₂, subst, ◌∙◌, inl, inr, arith, ◌⊎◌, ◌+◌, ◌<◌, ℕ, T, Bool, true, false, not, ◌==◌, ◌||◌, cond, List, [], ◌∷◌, ◌++◌, Option, Some, None, append-nil}
use Rattle.std.specs.Prelude.{length}
use Rattle.std.proofs.lemmas.Bool.{cases_Bool, eqb-true}
use Rattle.ec_volume.specs.Entries.{Entries, entry}
use Rattle.ec_volume.specs.Image.{is_gone, is_dir, entries_of, is_id, gives}
use Rattle.ec_volume.specs.Update.{root, member, distinct, ids_of, first_of, leads}
use Rattle.ec_volume.specs.Volume.{Images, Names, WellFormed}
use Rattle.ec_volume.specs.declared.image.Image.{Image}
use Rattle.ec_volume.specs.declared.image.Image.TheVariants.{Gone, File, Dir}
use Rattle.ec_plain.specs.Walk.{Path, Walk, At, Not, stop, walk_from}
use Rattle.ec_plain.specs.Plain.{with_names}
use Rattle.ec_plain.specs.declared.call.Refusal.{Refusal}
use Rattle.ec_plain.specs.declared.call.Refusal.TheVariants as no
use Rattle.ec_base.proofs.Numbers.{same-self}
use Rattle.ec_base.proofs.Bools.{or-right as or_r, both, first as left, right, on as holds}

-- the names lead from the object o to q, by way of these objects, o first and q last
abbrev pub Walked : Images → ℕ → Path → List ℕ → ℕ → Type 0
Walked v o [] os q = (os ≡ o ∷ []) × (q ≡ o) × T (not (is_gone (v o)))
Walked v o (n ∷ ns) os q = T (is_dir (v o)) × (p : ℕ) × (ps : List ℕ) × Names v o n p × (os ≡ o ∷ ps) × Walked v p ns ps q

-- A walk of the definitions that comes to an object.
module _ (v : Images) where
  abbrev at_image : ℕ → List ℕ → Path → Image → Walk
  at_image i n ns Gone = stop (Not (no.NotFound i))
  at_image i n ns (File m s w bs) = stop (Not (no.NotDir i))
  at_image i n ns (Dir m s w es) = elim (entry es n) [ None ↦ stop (Not (no.NotFound (i + 1))) | Some p ↦ walk_from v (i + 1) p ns ]

  abbrev at_entry : ℕ → Path → Option ℕ → Walk
  at_entry i ns None = stop (Not (no.NotFound (i + 1)))
  at_entry i ns (Some p) = walk_from v (i + 1) p ns

  not_at : (r : Refusal) (q : ℕ) {X : Type 0} → Not r ≡ At q → X
  not_at r q h = absurd (apart h)
    where
      apart : Not r ≡ At q → ⊥
      apart h = cc

  same_at : (o q : ℕ) → At o ≡ At q → o ≡ q
  same_at o q h = cc

  -- what the walk read behind its first object leads from the entry of this name
  abbrev Onward : List ℕ → Path → Image → List ℕ → ℕ → Type 0
  Onward n ns im ps q = T (is_dir im) × (p : ℕ) × (entry (entries_of im) n ≡ Some p) × Walked v p ns ps q

  module _ (i : ℕ) (n : List ℕ) (ns : Path) (q : ℕ) (later : (p : ℕ) → (walk_from v (i + 1) p ns).to ≡ At q → Walked v p ns ((walk_from v (i + 1) p ns).read) q) where
    behind : (es : Entries) (x : Option ℕ) → entry es n ≡ x → (at_entry i ns x).to ≡ At q → (p : ℕ) × (entry es n ≡ Some p) × Walked v p ns ((at_entry i ns x).read) q
    behind es None e h = not_at (no.NotFound (i + 1)) q h
    behind es (Some p) e h = (p, e, later p h)

    onward : (im : Image) → (at_image i n ns im).to ≡ At q → Onward n ns im ((at_image i n ns im).read) q
    onward Gone h = not_at (no.NotFound i) q h
    onward (File m s w bs) h = not_at (no.NotDir i) q h
    onward (Dir m s w es) h = let (p, name, rest) = behind es (entry es n) refl h in (tt, p, name, rest)

  pub walked : (i o : ℕ) (ns : Path) (q : ℕ) → (walk_from v i o ns).to ≡ At q → Walked v o ns ((walk_from v i o ns).read) q
  walked i o [] q h = go (is_gone (v o)) refl h
    where
      go : (b : Bool) → is_gone (v o) ≡ b → cond b (Not (no.NotFound i)) (At o) ≡ At q → (o ∷ [] ≡ o ∷ []) × (q ≡ o) × T (not (is_gone (v o)))
      go true e h = not_at (no.NotFound i) q h
      go false e h = (refl, sym (same_at o q h), subst (λ b. T (not b)) (sym e) tt)
  walked i o (n ∷ ns) q h =
      let (dir, p, name, rest) = onward i n ns q (λ p. walked (i + 1) p ns q) (v o) h in
      (dir, p, (at_image i n ns (v o)).read, name, refl, rest)

clash : (b : Bool) → T (not b) → T b → ⊥
clash true a t = absurd a
clash false a t = absurd t

module _ (v : Images) where
  pub walked-live : (o : ℕ) (ns : Path) (os : List ℕ) (q : ℕ) → Walked v o ns os q → T (not (is_gone (v q)))
  walked-live o [] os q (e, same, live) = subst (λ x. T (not (is_gone (v x)))) (sym same) live
  walked-live o (n ∷ ns) os q (dir, p, ps, name, e, rest) = walked-live p ns ps q rest

  pub walked-count : (o : ℕ) (ns : Path) (os : List ℕ) (q : ℕ) → Walked v o ns os q → length os ≡ length ns + 1
  walked-count o [] os q (e, same, live) = ap length e
  walked-count o (n ∷ ns) os q (dir, p, ps, name, e, rest) =
      let count = walked-count p ns ps q rest in
      ap length e ∙ omega (arith, count)

  pub walked-last : (o : ℕ) (ns : Path) (os : List ℕ) (q : ℕ) → Walked v o ns os q → T (member q os)
  walked-last o [] os q (e, same, live) = subst (λ xs. T (member q xs)) (sym e) (subst (λ b. T (b || false)) (sym (subst (λ x. (x == o) ≡ true) (sym same) (same-self o))) tt)
  walked-last o (n ∷ ns) os q (dir, p, ps, name, e, rest) = subst (λ xs. T (member q xs)) (sym e) (or_r (q == o) (member q ps) (walked-last p ns ps q rest))

  pub walked-starts : (o : ℕ) (ns : Path) (os : List ℕ) (q : ℕ) → Walked v o ns os q → T (not (is_gone (v o)))
  walked-starts o [] os q (e, same, live) = live
  walked-starts o (n ∷ ns) os q (dir, p, ps, name, e, rest) = live_dir (v o) dir
    where
      live_dir : (i : Image) → T (is_dir i) → T (not (is_gone i))
      live_dir Gone h = absurd h
      live_dir (File m s w bs) h = tt
      live_dir (Dir m s w es) h = tt

  pub walked-length : (o : ℕ) (ns : Path) (os : List ℕ) (q : ℕ) → Walked v o ns os q → length (with_names os ns) ≡ length ns
  walked-length o [] os q (e, same, live) = subst (λ xs. length (with_names xs []) ≡ length {A = List ℕ} []) (sym e) refl
  walked-length o (n ∷ ns) os q (dir, p, ps, name, e, rest) =
      let count = walked-length p ns ps q rest in
      subst (λ xs. length (with_names xs (n ∷ ns)) ≡ length (n ∷ ns)) (sym e) (omega (arith, count))

  -- the directories of the walk, and behind them the object that it reaches
  pub walked-split : (o : ℕ) (ns : Path) (os : List ℕ) (q : ℕ) → Walked v o ns os q → os ≡ ids_of (with_names os ns) ++ q ∷ []
  walked-split o [] os q (e, same, live) = subst (λ xs. xs ≡ ids_of (with_names xs []) ++ q ∷ []) (sym e) (ap (λ x. x ∷ []) (sym same))
  walked-split o (n ∷ ns) os q (dir, p, ps, name, e, rest) =
      subst (λ xs. xs ≡ ids_of (with_names xs (n ∷ ns)) ++ q ∷ []) (sym e) (ap (λ xs. o ∷ xs) (walked-split p ns ps q rest))

  -- the directories of the walk, or what it reaches, begin with its first object
  pub walked-first : (o : ℕ) (ns : Path) (os : List ℕ) (q : ℕ) → Walked v o ns os q → first_of (with_names os ns) q ≡ o
  walked-first o [] os q (e, same, live) = subst (λ xs. first_of (with_names xs []) q ≡ o) (sym e) same
  walked-first o (n ∷ ns) os q (dir, p, ps, name, e, rest) = subst (λ xs. first_of (with_names xs (n ∷ ns)) q ≡ o) (sym e) refl

  -- each directory's entry leads on
  pub walked-leads : (o : ℕ) (ns : Path) (os : List ℕ) (q : ℕ) → Walked v o ns os q → (x : ℕ) → T (leads (with_names os ns) q x (v x))
  walked-leads o [] os q (e, same, live) x = subst (λ xs. T (leads (with_names xs []) q x (v x))) (sym e) tt
  walked-leads o (n ∷ ns) os q (dir, p, ps, name, e, rest) x =
      subst (λ xs. T (leads (with_names xs (n ∷ ns)) q x (v x))) (sym e)
      (both (not (x == o) || gives n (first_of (with_names ps ns) q) (v x)) (leads (with_names ps ns) q x (v x)) (here (cases_Bool (x == o))) (walked-leads p ns ps q rest x))
    where
      given : (y : Option ℕ) → y ≡ Some p → T (is_id p y)
      given y g = subst (λ z. T (is_id p z)) (sym g) (holds (same-self p))

      at_first : T (gives n (first_of (with_names ps ns) q) (v o))
      at_first = subst (λ y. T (gives n y (v o))) (sym (walked-first p ns ps q rest)) (both (is_dir (v o)) (is_id p (entry (entries_of (v o)) n)) dir (given (entry (entries_of (v o)) n) name))

      here : ((x == o) ≡ true) ⊎ ((x == o) ≡ false) → T (not (x == o) || gives n (first_of (with_names ps ns) q) (v x))
      here (inl s) = subst (λ b. T (not b || gives n (first_of (with_names ps ns) q) (v x))) (sym s) (subst (λ y. T (gives n (first_of (with_names ps ns) q) (v y))) (sym (eqb-true x o s)) at_first)
      here (inr s) = subst (λ b. T (not b || gives n (first_of (with_names ps ns) q) (v x))) (sym s) tt

  -- each object but the first is named in a directory of the walk, and each but the last has an entry
  pub walked-named : (o : ℕ) (ns : Path) (os : List ℕ) (q : ℕ) → Walked v o ns os q → (x : ℕ) → T (member x os) → (x ≡ o) ⊎ ((d : ℕ) × (n : List ℕ) × Names v d n x)
  walked-named o [] os q (e, same, live) x m = here (cases_Bool (x == o))
    where
      here : ((x == o) ≡ true) ⊎ ((x == o) ≡ false) → (x ≡ o) ⊎ ((d : ℕ) × (n : List ℕ) × Names v d n x)
      here (inl s) = inl (eqb-true x o s)
      here (inr s) = absurd (subst (λ b. T (b || false)) s (subst (λ xs. T (member x xs)) e m))
  walked-named o (n ∷ ns) os q (dir, p, ps, name, e, rest) x m = here (cases_Bool (x == o)) (walked-named p ns ps q rest x)
    where
      here : ((x == o) ≡ true) ⊎ ((x == o) ≡ false) → (T (member x ps) → (x ≡ p) ⊎ ((d : ℕ) × (n : List ℕ) × Names v d n x)) → (x ≡ o) ⊎ ((d : ℕ) × (n : List ℕ) × Names v d n x)
      here (inl s) later = inl (eqb-true x o s)
      here (inr s) later = elim (later (subst (λ b. T (b || member x ps)) s (subst (λ xs. T (member x xs)) e m))) [
        | inl same ↦ inr (o, n, subst (λ y. Names v o n y) (sym same) name)
        | inr found ↦ inr found
      ]

  pub walked-dirs : (o : ℕ) (ns : Path) (os : List ℕ) (q : ℕ) → Walked v o ns os q → (x : ℕ) → T (member x (ids_of (with_names os ns))) → T (is_dir (v x)) × (n : List ℕ) × (p : ℕ) × Names v x n p
  walked-dirs o [] os q (e, same, live) x m = absurd (subst (λ xs. T (member x (ids_of (with_names xs [])))) e m)
  walked-dirs o (n ∷ ns) os q (dir, p, ps, name, e, rest) x m = here (cases_Bool (x == o)) (walked-dirs p ns ps q rest x)
    where
      here : ((x == o) ≡ true) ⊎ ((x == o) ≡ false) → (T (member x (ids_of (with_names ps ns))) → T (is_dir (v x)) × (m : List ℕ) × (p : ℕ) × Names v x m p) → T (is_dir (v x)) × (m : List ℕ) × (p : ℕ) × Names v x m p
      here (inl s) later = subst (λ y. T (is_dir (v y)) × (m : List ℕ) × (p : ℕ) × Names v y m p) (sym (eqb-true x o s)) (dir, n, p, name)
      here (inr s) later = later (subst (λ b. T (b || member x (ids_of (with_names ps ns)))) s (subst (λ xs. T (member x (ids_of (with_names xs (n ∷ ns))))) e m))

-- The same ways, from their ends.

onto : {A : Type 0} → List A → List A → List A
onto [] ys = ys
onto (x ∷ xs) ys = onto xs (x ∷ ys)

twice : {A : Type 0} (xs ys zs : List A) → onto (onto xs ys) zs ≡ onto ys (xs ++ zs)
unfolding onto
twice [] ys zs = refl
twice (x ∷ xs) ys zs = twice xs (x ∷ ys) zs

back : {A : Type 0} (xs ys : List A) → onto xs [] ≡ onto ys [] → xs ≡ ys
unfolding onto
back xs ys e = sym (append-nil xs) ∙ sym (twice xs [] []) ∙ ap (λ zs. onto zs []) e ∙ twice ys [] [] ∙ append-nil ys

-- the names, the last one first, lead from o to q by way of these directories, the last one first
abbrev Came : Images → ℕ → Path → List ℕ → ℕ → Type 0
Came v o [] os q = (os ≡ []) × (q ≡ o)
Came v o (n ∷ ns) os q = (d : ℕ) × (ds : List ℕ) × Names v d n q × (os ≡ d ∷ ds) × Came v o ns ds d

module _ (x : ℕ) (xs ys : List ℕ) (apart : T (distinct (x ∷ ys))) (none : (z : ℕ) → T (member z (x ∷ ys)) → T (not (member z xs))) where
  none_first : T (not (member x xs))
  none_first = none x (subst (λ b. T (b || member x ys)) (sym (same-self x)) tt)

  none_behind : (z : ℕ) → T (member z ys) → ((z == x) ≡ true) ⊎ ((z == x) ≡ false) → T (not (member z (x ∷ xs)))
  none_behind z m (inl s) = absurd (clash (member x ys) (left (not (member x ys)) (distinct ys) apart) (subst (λ y. T (member y ys)) (eqb-true z x s) m))
  none_behind z m (inr s) = subst (λ b. T (not (b || member z xs))) (sym s) (none z (or_r (z == x) (member z ys) m))

forward : (xs ys : List ℕ) → T (distinct (onto xs ys)) → T (distinct xs) × T (distinct ys) × ((z : ℕ) → T (member z ys) → T (not (member z xs)))
unfolding onto
forward [] ys h = (tt, h, λ z m. tt)
forward (x ∷ xs) ys h =
    let (later, apart, none) = forward xs (x ∷ ys) h in (
      both (not (member x xs)) (distinct xs) (none_first x xs ys apart none) later,
      right (not (member x ys)) (distinct ys) apart,
      λ z m. none_behind x xs ys apart none z m (cases_Bool (z == x)),
    )

module _ (v : Images) (f : WellFormed v) where
  came_once : (ns ms : Path) (os ps : List ℕ) (q : ℕ) → Came v root ns os q → Came v root ms ps q → (ns ≡ ms) × (os ≡ ps)
  came_once [] [] os ps q (e, same) (g, like) = (refl, e ∙ sym g)
  came_once [] (m ∷ ms) os ps q (e, same) (d, ds, name, g, rest) = absurd (f.root_unnamed d m (subst (λ x. Names v d m x) same name))
  came_once (n ∷ ns) [] os ps q (d, ds, name, g, rest) (e, same) = absurd (f.root_unnamed d n (subst (λ x. Names v d n x) same name))
  came_once (n ∷ ns) (m ∷ ms) os ps q (d, ds, name, e, rest) (c, cs, like, g, more) =
      let (dirs, names) = f.once q d c n m name like in
      let (first, later) = came_once ns ms ds cs d rest (subst (λ x. Came v root ms cs x) (sym dirs) more) in
      (ap₂ (λ x xs. x ∷ xs) names first, e ∙ ap₂ (λ x xs. x ∷ xs) dirs later ∙ sym g)

  -- no way comes back to an object
  came_long : (ns : Path) (os : List ℕ) (q : ℕ) → Came v root ns os q → (x : ℕ) → T (member x os) → (ms : Path) × (ps : List ℕ) × Came v root ms ps x × (length ms < length ns)
  came_long [] os q (e, same) x m = absurd (subst (λ xs. T (member x xs)) e m)
  came_long (n ∷ ns) os q (d, ds, name, e, rest) x m = here (cases_Bool (x == d)) (came_long ns ds d rest x)
    where
      next : (a : ℕ) (xs : Path) → a < length xs → a < length (n ∷ xs)
      next a xs h = omega (arith, h)

      here : ((x == d) ≡ true) ⊎ ((x == d) ≡ false) → (T (member x ds) → (ms : Path) × (ps : List ℕ) × Came v root ms ps x × (length ms < length ns)) → (ms : Path) × (ps : List ℕ) × Came v root ms ps x × (length ms < length (n ∷ ns))
      here (inl s) later = (ns, ds, subst (λ y. Came v root ns ds y) (sym (eqb-true x d s)) rest, omega arith)
      here (inr s) later =
          let (ms, ps, way, short) = later (subst (λ b. T (b || member x ds)) s (subst (λ xs. T (member x xs)) e m)) in
          (ms, ps, way, next (length ms) ns short)

  never_back : (ns : Path) (os : List ℕ) (q : ℕ) → Came v root ns os q → T (member q os) → ⊥
  never_back ns os q way m =
      let (ms, ps, short_way, short) = came_long ns os q way q m in
      let same : length ms ≡ length ns = ap length (came_once ms ns ps os q short_way way).0 in
      apart (length ms) (length ns) same short
    where
      apart : (a b : ℕ) → a ≡ b → a < b → ⊥
      apart a b e h = omega (arith, e, h)

  not_back : (ns : Path) (os : List ℕ) (q : ℕ) → Came v root ns os q → T (not (member q os))
  not_back ns os q way = here (cases_Bool (member q os))
    where
      here : (member q os ≡ true) ⊎ (member q os ≡ false) → T (not (member q os))
      here (inl s) = absurd (never_back ns os q way (holds s))
      here (inr s) = subst (λ b. T (not b)) (sym s) tt

  came_apart : (ns : Path) (os : List ℕ) (q : ℕ) → Came v root ns os q → T (distinct (q ∷ os))
  came_apart [] os q way = both (not (member q os)) (distinct os) (not_back [] os q way) (subst (λ xs. T (distinct xs)) (sym way.0) tt)
  came_apart (n ∷ ns) os q way =
      both (not (member q os)) (distinct os) (not_back (n ∷ ns) os q way) (subst (λ xs. T (distinct xs)) (sym way.3) (came_apart ns way.1 way.0 way.4))

  -- a walk goes on with a way
  came : (rs : Path) (zs : List ℕ) (o : ℕ) (ns : Path) (os : List ℕ) (q : ℕ) → Came v root rs zs o → Walked v o ns os q → (ds : List ℕ) × (onto os zs ≡ q ∷ ds) × Came v root (onto ns rs) ds q
  unfolding onto
  came rs zs o [] os q way (e, same, live) = (zs, ap (λ xs. onto xs zs) e ∙ ap (λ x. x ∷ zs) (sym same), subst (λ x. Came v root rs zs x) (sym same) way)
  came rs zs o (n ∷ ns) os q way (dir, p, ps, name, e, rest) =
      let (ds, last, whole) = came (n ∷ rs) (o ∷ zs) p ns ps q (o, zs, name, refl, way) rest in
      (ds, ap (λ xs. onto xs zs) e ∙ last, whole)

  abbrev Way : Path → List ℕ → ℕ → Type 0
  Way ns os q = (ds : List ℕ) × (onto os [] ≡ q ∷ ds) × Came v root (onto ns []) ds q

  whole_way : (ns : Path) (os : List ℕ) (q : ℕ) → Walked v root ns os q → Way ns os q
  whole_way ns os q w = came [] [] root ns os q (refl, refl) w

  -- An object is reached in one way.
  pub one_way : (ns ms : Path) (os ps : List ℕ) (q : ℕ) → Walked v root ns os q → Walked v root ms ps q → (ns ≡ ms) × (os ≡ ps)
  one_way ns ms os ps q w u =
      let (ds, last, way) = whole_way ns os q w in
      let (cs, end, other) = whole_way ms ps q u in
      let (names, dirs) = came_once (onto ns []) (onto ms []) ds cs q way other in
      (back ns ms names, back os ps (last ∙ ap (λ xs. q ∷ xs) dirs ∙ sym end))

  -- Its walk reads each object once.
  pub read_once : (ns : Path) (os : List ℕ) (q : ℕ) → Walked v root ns os q → T (distinct os)
  read_once ns os q w =
      let (ds, last, way) = whole_way ns os q w in
      (forward os [] (subst (λ xs. T (distinct xs)) (sym last) (came_apart (onto ns []) ds q way))).0

  -- No directory has an entry for itself.
  pub no_own_entry : (ns : Path) (os : List ℕ) (d : ℕ) → Walked v root ns os d → (n : List ℕ) → Names v d n d → ⊥
  no_own_entry ns os d w n name =
      let (ds, last, way) = whole_way ns os d w in
      never_back (n ∷ onto ns []) (d ∷ ds) d (d, ds, name, refl, way) (subst (λ b. T (b || member d ds)) (sym (same-self d)) tt)

  -- Only the empty path leads to the root.
  pub home : (ns : Path) (os : List ℕ) → Walked v root ns os root → ns ≡ []
  home ns os w = sym (one_way [] ns (root ∷ []) os root (refl, refl, walked-starts v root ns os root w) w).0
