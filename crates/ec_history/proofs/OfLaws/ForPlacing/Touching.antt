-- A call touches the operands of its update.
use Rattle.std.proofs.Common.{◌≡◌, refl, sym, subst, ◌∙◌, inl, inr, arith, ◌+◌, ℕ, T, Bool, true, false, not, ◌==◌, ◌&&◌, ◌||◌, cond, List, [], ◌∷◌, ◌++◌, eqb, eqb→eq, Option, Some, None}
use Rattle.std.specs.Prelude.{map, take, drop, length, ◌-◌, nat_le, nat_lt, is_some}
use Rattle.std.proofs.lemmas.Bool.{or_cases}
use Rattle.std.specs.List.{filter}
use Rattle.ec_volume.specs.Entries.{Entries, entry}
use Rattle.ec_volume.specs.Image.{entries_of, bytes_of, is_gone, is_dir}
use Rattle.ec_volume.specs.Update.{Above, ids_of, listed, operands, member, root}
use Rattle.ec_volume.specs.Volume.{Images}
use Rattle.ec_volume.specs.declared.image.Image.TheVariants.{Gone, File, Dir}
use Rattle.ec_volume.specs.declared.image.Kind.{Kind}
use Rattle.ec_volume.specs.declared.image.Kind.TheVariants as kind
use Rattle.ec_volume.specs.declared.update.Update.{Update}
use Rattle.ec_volume.specs.declared.update.Update.TheVariants.{Make, Drop, Move, Put, Len, Mode, Stamp, Order, Shift, Owner}
use Rattle.ec_plain.specs.Walk.{Path, Reached, At, Not, Walk, walk, walk_from, parent_of, last_of, same_path}
use Rattle.ec_plain.specs.Plain.{on_reached, on_parent, on_entry, answers, refuses, issues, plain, plain_make, plain_drop, plain_rename, plain_forder, once_more, blocked, kind_of, make_in, drop_in, with_names, above, renames, move_into, loops, rename_in, write_in, len_in, read_in, list_in, stat_of}
use Rattle.ec_plain.specs.declared.call.Call.{Call}
use Rattle.ec_plain.specs.declared.call.Call.TheVariants as call
use Rattle.ec_plain.specs.declared.call.Reply.{Reply}
use Rattle.ec_plain.specs.declared.call.Reply.TheVariants as reply
use Rattle.ec_plain.specs.declared.call.Refusal.{Refusal}
use Rattle.ec_plain.specs.declared.call.Refusal.TheVariants as no
use Rattle.ec_plain.specs.declared.call.Outcome.{Outcome}
use Rattle.ec_base.proofs.Bools.{or-right, or_first, on as holds, is-true}
use Rattle.ec_plain.proofs.WalkLemmas.{entry-step, image-step, not-at, same-at}
use Rattle.ec_volume.proofs.UpdateLemmas.{member-append}

member-self : (o : ℕ) (os : List ℕ) → T (member o (o ∷ os))
member-self o os = or_first (eqb o o) _ (self o)
  where
    self : (n : ℕ) → T (eqb n n)
    self n = holds (same n)
      where
        same : (m : ℕ) → eqb m m ≡ true
        same m = grind arith

member-left : (o : ℕ) (xs ys : List ℕ) → T (member o xs) → T (member o (xs ++ ys))
member-left o xs ys h = subst T (sym (member-append o xs ys)) (or_first _ _ h)

member-right : (o : ℕ) (xs ys : List ℕ) → T (member o ys) → T (member o (xs ++ ys))
member-right o xs ys h = subst T (sym (member-append o xs ys)) (or-right (member o xs) _ h)

-- The object that a walk reached was read.
walk-read : (v : Images) (i o : ℕ) (p : Path) (q : ℕ) → (walk_from v i o p).to ≡ At q → T (member q (walk_from v i o p).read)
walk-read v i o [] q = elim (is_gone (v o)) as (λ b. cond b (Not (no.NotFound i)) (At o) ≡ At q → T (member q (o ∷ []))) [
  | true ↦ λ e. not-at (no.NotFound i) q e
  | false ↦ λ e. subst (λ x. T (member x (o ∷ []))) (same-at o q e) (member-self o [])
]
walk-read v i o (n ∷ ns) q =
    elim (v o) as (λ im. (image-step v i n ns im).to ≡ At q → T (member q (o ∷ (image-step v i n ns im).read))) [
      | Gone ↦ λ e. not-at (no.NotFound i) q e
      | File m s w bs ↦ λ e. not-at (no.NotDir i) q e
      | Dir m s w es ↦ elim (entry es n) as (λ x. (entry-step v i ns x).to ≡ At q
          → T (member q (o ∷ (entry-step v i ns x).read))) [
            | None ↦ λ e. not-at (no.NotFound (i + 1)) q e
            | Some p ↦ λ e. or-right (eqb q o) _ (walk-read v (i + 1) p ns q e)
          ]
    ]

abbrev pub Touches : Outcome → Type 0
Touches out = (u : Update) → out.update ≡ Some u → (o : ℕ) → T (member o (operands u)) → T (member o out.touched)

answers-touches : (r : Reply) (os : List ℕ) → Touches (answers r os)
answers-touches r os u e = absurd (none e)
  where
    none : ◌≡◌ {A = Option Update} None (Some u) → ⊥
    none e = cc

refuses-touches : (r : Refusal) (os : List ℕ) → Touches (refuses r os)
refuses-touches r os u e = absurd (none e)
  where
    none : ◌≡◌ {A = Option Update} None (Some u) → ⊥
    none e = cc

issues-touches : (w : Update) (os : List ℕ) → ((o : ℕ) → T (member o (operands w)) → T (member o os)) → Touches (issues w os)
issues-touches w os f u e o h = f o (subst (λ x. T (member o (operands x))) (sym (same e)) h)
  where
    same : Some w ≡ Some u → w ≡ u
    same e = cc

cond-touches : (b : Bool) (x y : Outcome) → Touches x → Touches y → Touches (cond b x y)
cond-touches true x y p q = p
cond-touches false x y p q = q

reached-touches : (w : Walk) (f : ℕ → List ℕ → Outcome) → ((o : ℕ) → w.to ≡ At o → Touches (f o w.read)) → Touches (on_reached w f)
reached-touches w f h = go w.to h
  where
    go : (r : Reached) → ((o : ℕ) → r ≡ At o → Touches (f o w.read)) → Touches (elim r [ At o ↦ f o w.read | Not x ↦ refuses x w.read ])
    go (At o) k = k o refl
    go (Not x) k = refuses-touches x w.read

-- the first of the operands is the object, and there is no other
only : (p : ℕ) (os : List ℕ) → T (member p os) → (o : ℕ) → T (member o (p ∷ [])) → T (member o os)
only p os h o k = go (eqb o p) refl k
  where
    go : (b : Bool) → eqb o p ≡ b → T (b || false) → T (member o os)
    go true e t = subst (λ x. T (member x os)) (sym (eqb→eq o p (holds e))) h
    go false e t = absurd t

more : (p : ℕ) (ps os : List ℕ) → T (member p os) → ((o : ℕ) → T (member o ps) → T (member o os)) → (o : ℕ) → T (member o (p ∷ ps)) → T (member o os)
more p ps os h f o k = go (eqb o p) refl k
  where
    go : (b : Bool) → eqb o p ≡ b → T (b || member o ps) → T (member o os)
    go true e t = subst (λ x. T (member x os)) (sym (eqb→eq o p (holds e))) h
    go false e t = f o t

none-more : (os : List ℕ) (o : ℕ) → T (member o []) → T (member o os)
none-more os o k = absurd k

abbrev Within : List ℕ → List ℕ → Type 0
Within xs os = (o : ℕ) → T (member o xs) → T (member o os)

both-within : (xs ys os : List ℕ) → Within xs os → Within ys os → Within (xs ++ ys) os
both-within xs ys os f g o h = elim (or_cases (member o xs) (member o ys) (sym (member-append o xs ys) ∙ is-true _ h)) [ inl e ↦ f o (holds e) | inr e ↦ g o (holds e) ]

some-of : (p : ℕ → Bool) (xs : List ℕ) → Within (filter p xs) xs
some-of p [] o h = h
some-of p (x ∷ xs) o h = go (p x) h (some-of p xs o)
  where
    go : (b : Bool) → T (member o (cond b (x ∷ filter p xs) (filter p xs))) → (T (member o (filter p xs)) → T (member o xs)) → T (member o (x ∷ xs))
    go true t r = elim (or_cases (o == x) (member o (filter p xs)) (is-true _ t)) [ inl e ↦ or_first (o == x) (member o xs) (holds e) | inr e ↦ or-right (o == x) (member o xs) (r (holds e)) ]
    go false t r = or-right (o == x) (member o xs) (r t)

ids-named : (os : List ℕ) (ns : Path) → Within (ids_of (with_names os ns)) os
ids-named [] ns o h = h
ids-named (x ∷ os) [] o h = absurd h
ids-named (x ∷ os) (n ∷ ns) o h = elim (or_cases (o == x) (member o (ids_of (with_names os ns))) (is-true _ h)) [
  | inl e ↦ or_first (o == x) (member o os) (holds e)
  | inr e ↦ or-right (o == x) (member o os) (ids-named os ns o (holds e))
]

ids-above : (k : Kind) (os : List ℕ) (ns : Path) → Within (ids_of (above k os ns)) os
ids-above kind.File os ns o h = absurd h
ids-above kind.Dir os ns o h = ids-named os ns o h

module _ (v : Images) where
  at-path : (p : Path) (f : ℕ → List ℕ → Outcome) → ((o : ℕ) (os : List ℕ) → T (member o os) → Touches (f o os)) → Touches (on_reached (walk v p) f)
  at-path p f h = reached-touches (walk v p) f (λ o e. h o (walk v p).read (walk-read v 0 root p o e))

  parent-touches : (p : Path) (f : ℕ → Entries → List ℕ → Outcome) → ((d : ℕ) (es : Entries) (os : List ℕ) → T (member d os) → Touches (f d es os)) → Touches (on_parent v p f)
  parent-touches p f h =
      at-path (parent_of p) (λ d os. cond (is_dir (v d)) (f d (entries_of (v d)) os) (refuses (no.NotDir (length p - 1)) os))
      (λ d os m. cond-touches (is_dir (v d)) (f d (entries_of (v d)) os) (refuses (no.NotDir (length p - 1)) os) (h d (entries_of (v d)) os m) (refuses-touches (no.NotDir (length p - 1)) os))

  below : (p : Path) (f : ℕ → Entries → ℕ → List ℕ → Outcome) → ℕ → Entries → List ℕ → Option ℕ → Outcome
  below p f d es os None = refuses (no.NotFound (length p)) os
  below p f d es os (Some o) = cond (is_gone (v o)) (refuses (no.NotFound (length p)) (os ++ o ∷ [])) (f d es o (os ++ o ∷ []))

  entry-touches : (p : Path) (f : ℕ → Entries → ℕ → List ℕ → Outcome) → ((d : ℕ) (es : Entries) (o : ℕ) (os : List ℕ) → T (member d os) → T (member o os) → Touches (f d es o os)) → Touches (on_entry v p f)
  unfolding below
  entry-touches p f h = parent-touches p (λ d es os. below p f d es os (entry es (last_of p))) (λ d es os m. go d es os m (entry es (last_of p)))
    where
      go : (d : ℕ) (es : Entries) (os : List ℕ) → T (member d os) → (x : Option ℕ) → Touches (below p f d es os x)
      go d es os m None = refuses-touches (no.NotFound (length p)) os
      go d es os m (Some o) =
          cond-touches (is_gone (v o)) (refuses (no.NotFound (length p)) (os ++ o ∷ [])) (f d es o (os ++ o ∷ []))
          (refuses-touches (no.NotFound (length p)) (os ++ o ∷ [])) (h d es o (os ++ o ∷ []) (member-left d os (o ∷ []) m) (member-right o os (o ∷ []) (member-self o [])))

  make-in : (k : Kind) (n : List ℕ) (fresh d : ℕ) (es : Entries) (os : List ℕ) → T (member d os) → Touches (make_in k n fresh d es os)
  make-in k n fresh d es os m =
      let full : Outcome = cond (nat_le 128 (length es)) (refuses no.DirFull os) (issues (Make d n fresh k) (os ++ fresh ∷ [])) in
      cond-touches (is_some (entry es n)) (refuses no.Exists os) full (refuses-touches no.Exists os)
      (cond-touches (nat_le 128 (length es)) (refuses no.DirFull os) (issues (Make d n fresh k) (os ++ fresh ∷ [])) (refuses-touches no.DirFull os)
      (issues-touches (Make d n fresh k) (os ++ fresh ∷ [])
      (more d (fresh ∷ []) (os ++ fresh ∷ []) (member-left d os (fresh ∷ []) m) (only fresh (os ++ fresh ∷ []) (member-right fresh os (fresh ∷ []) (member-self fresh []))))))

  make-touches : (k : Kind) (p : Path) (fresh : ℕ) → Touches (plain_make v k p fresh)
  make-touches k [] fresh = refuses-touches no.Root []
  make-touches k (n ∷ ns) fresh = parent-touches (n ∷ ns) (make_in k (last_of (n ∷ ns)) fresh) (make-in k (last_of (n ∷ ns)) fresh)

  drop-in : (k : Kind) (p : Path) (d : ℕ) (es : Entries) (o : ℕ) (os : List ℕ) → T (member d os) → T (member o os) → Touches (drop_in v k p d es o os)
  drop-in kind.File p d es o os md mo =
      cond-touches (is_dir (v o)) (refuses no.IsDir os) (issues (Drop d (last_of p) o kind.File) os) (refuses-touches no.IsDir os)
      (issues-touches (Drop d (last_of p) o kind.File) os (more d (o ∷ []) os md (only o os mo)))
  drop-in kind.Dir p d es o os md mo =
      cond-touches (not (is_dir (v o))) (refuses (no.NotDir (length p)) os) (cond (nat_lt 0 (length (entries_of (v o)))) (refuses no.NotEmpty os) (issues (Drop d (last_of p) o kind.Dir) os)) (refuses-touches (no.NotDir (length p)) os)
      (cond-touches (nat_lt 0 (length (entries_of (v o)))) (refuses no.NotEmpty os) (issues (Drop d (last_of p) o kind.Dir) os) (refuses-touches no.NotEmpty os)
      (issues-touches (Drop d (last_of p) o kind.Dir) os (more d (o ∷ []) os md (only o os mo))))

  drop-touches : (k : Kind) (p : Path) → Touches (plain_drop v k p)
  drop-touches k [] = refuses-touches no.Root []
  drop-touches k (n ∷ ns) = entry-touches (n ∷ ns) (drop_in v k (n ∷ ns)) (drop-in k (n ∷ ns))

  -- the new place of a renamed object
  new-place : (d : ℕ) (from : List ℕ) (e : ℕ) (to : List ℕ) (o : ℕ) (k : Kind) (victim : Option ℕ) (up : Above) (os : List ℕ) → T (member d os) → T (member e os) → T (member o os) → Within (listed victim) os → Within (ids_of up) os
      → Touches (renames d from e to o k victim up os)
  new-place d from e to o k victim up os md me mo mv mu =
      cond-touches (d == e) (issues (Move d from to o k victim) os) (issues (Shift d from e to o k victim up) os)
      (issues-touches (Move d from to o k victim) os (more d (o ∷ listed victim) os md (more o (listed victim) os mo mv)))
      (issues-touches (Shift d from e to o k victim up) os
      (more d (e ∷ o ∷ (listed victim ++ filter (λ x. not (x == d)) (ids_of up))) os md
      (more e (o ∷ (listed victim ++ filter (λ x. not (x == d)) (ids_of up))) os me
      (more o (listed victim ++ filter (λ x. not (x == d)) (ids_of up)) os mo
      (both-within (listed victim) (filter (λ x. not (x == d)) (ids_of up)) os mv (λ x h. mu x (some-of (λ y. not (y == d)) (ids_of up) x h)))))))

  move-into : (p q : Path) (d o e : ℕ) (fs : Entries) (ps os : List ℕ) → T (member d os) → T (member o os) → T (member e os) → Within ps os → Touches (move_into v p q d o e fs ps os)
  move-into p q d o e fs ps os md mo me mp = go (entry fs (last_of q))
    where
      up : Above
      up = above (kind_of (v o)) ps (parent_of q)

      leads-up : Within (ids_of (above (kind_of (v o)) ps (parent_of q))) os
      leads-up x h = mp x (ids-above (kind_of (v o)) ps (parent_of q) x h)

      taken : (t : ℕ) (r : Option Refusal)
          → Touches (elim r [ Some n ↦ refuses n (os ++ t ∷ []) | None ↦ renames d (last_of p) e (last_of q) o (kind_of (v o)) (Some t) (above (kind_of (v o)) ps (parent_of q)) (os ++ t ∷ []) ])
      taken t (Some n) = refuses-touches n (os ++ t ∷ [])
      taken t None =
          new-place d (last_of p) e (last_of q) o (kind_of (v o)) (Some t) (above (kind_of (v o)) ps (parent_of q)) (os ++ t ∷ [])
          (member-left d os (t ∷ []) md) (member-left e os (t ∷ []) me) (member-left o os (t ∷ []) mo)
          (only t (os ++ t ∷ []) (member-right t os (t ∷ []) (member-self t []))) (λ x h. member-left x os (t ∷ []) (leads-up x h))

      go : (x : Option ℕ) → Touches (elim x [
        | None ↦ cond (not (d == e) && nat_le 128 (length fs)) (refuses no.DirFull os) (renames d (last_of p) e (last_of q) o (kind_of (v o)) None (above (kind_of (v o)) ps (parent_of q)) os)
        | Some t ↦ elim (blocked (kind_of (v o)) (v t) (length q)) [
          | Some r ↦ refuses r (os ++ t ∷ [])
          | None ↦ renames d (last_of p) e (last_of q) o (kind_of (v o)) (Some t) (above (kind_of (v o)) ps (parent_of q)) (os ++ t ∷ [])
        ]
      ])
      go None =
          cond-touches (not (d == e) && nat_le 128 (length fs)) (refuses no.DirFull os) (renames d (last_of p) e (last_of q) o (kind_of (v o)) None (above (kind_of (v o)) ps (parent_of q)) os)
          (refuses-touches no.DirFull os) (new-place d (last_of p) e (last_of q) o (kind_of (v o)) None (above (kind_of (v o)) ps (parent_of q)) os md me mo (none-more os) leads-up)
      go (Some t) = taken t (blocked (kind_of (v o)) (v t) (length q))

  abbrev moved-to : Path → Path → ℕ → ℕ → List ℕ → List ℕ → Reached → Outcome
  moved-to p q d o ps os (Not r) = refuses r (os ++ ps)
  moved-to p q d o ps os (At e) =
      cond (not (is_dir (v e))) (refuses (no.NotDir (length q - 1)) (os ++ ps)) (cond (loops v o ps) (refuses no.Loop (os ++ ps)) (move_into v p q d o e (entries_of (v e)) ps (os ++ ps)))

  rename-in : (p q : Path) (d : ℕ) (es : Entries) (o : ℕ) (os : List ℕ) → T (member d os) → T (member o os) → Touches (rename_in v p q d es o os)
  rename-in p q d es o os md mo =
      cond-touches (same_path p q) (answers reply.Ok os) (moved-to p q d o (walk v (parent_of q)).read os (walk v (parent_of q)).to) (answers-touches reply.Ok os)
      (go (walk v (parent_of q)).read (walk v (parent_of q)).to (walk-read v 0 root (parent_of q)))
    where
      go : (ps : List ℕ) (r : Reached) → ((x : ℕ) → r ≡ At x → T (member x ps)) → Touches (moved-to p q d o ps os r)
      go ps (Not r) m = refuses-touches r (os ++ ps)
      go ps (At e) m =
          cond-touches (not (is_dir (v e))) (refuses (no.NotDir (length q - 1)) (os ++ ps)) (cond (loops v o ps) (refuses no.Loop (os ++ ps)) (move_into v p q d o e (entries_of (v e)) ps (os ++ ps)))
          (refuses-touches (no.NotDir (length q - 1)) (os ++ ps))
          (cond-touches (loops v o ps) (refuses no.Loop (os ++ ps)) (move_into v p q d o e (entries_of (v e)) ps (os ++ ps)) (refuses-touches no.Loop (os ++ ps))
          (move-into p q d o e (entries_of (v e)) ps (os ++ ps) (member-left d os ps md) (member-left o os ps mo) (member-right e os ps (m e refl)) (λ x h. member-right x os ps h)))

  rename-touches : (p q : Path) → Touches (plain_rename v p q)
  rename-touches [] q = refuses-touches no.Root []
  rename-touches (a ∷ as') [] = refuses-touches no.Root []
  rename-touches (a ∷ as') (b ∷ bs) = entry-touches (a ∷ as') (rename_in v (a ∷ as') (b ∷ bs)) (rename-in (a ∷ as') (b ∷ bs))

  once : (b : Bool) (o : ℕ) (objs os rs : List ℕ) → ((x : ℕ) → T (member x objs) → T (member x os)) → T (member o rs) → (x : ℕ) → T (member x (cond b objs (objs ++ o ∷ []))) → T (member x (os ++ rs))
  once true o objs os rs h m x k = member-left x os rs (h x k)
  once false o objs os rs h m x k = go (member x objs) refl (subst T (member-append x objs (o ∷ [])) k)
    where
      go : (b : Bool) → member x objs ≡ b → T (member x objs || member x (o ∷ [])) → T (member x (os ++ rs))
      go true e t = member-left x os rs (h x (holds e))
      go false e t = member-right x os rs (only o rs m x (subst (λ b. T (b || member x (o ∷ []))) e t))

  forder-touches : (ps : List Path) (objs os : List ℕ) → ((x : ℕ) → T (member x objs) → T (member x os)) → Touches (plain_forder v ps objs os)
  forder-touches [] objs os h = issues-touches (Order objs) os h
  forder-touches (p ∷ ps) objs os h =
      elim ((walk v p).to) as (λ r. ((o : ℕ) → r ≡ At o → T (member o (walk v p).read))
      → Touches (elim r [ At o ↦ plain_forder v ps (once_more o objs) (os ++ (walk v p).read) | Not x ↦ refuses x (os ++ (walk v p).read) ])) [
        | At o ↦ λ m. forder-touches ps (once_more o objs) (os ++ (walk v p).read) (once (member o objs) o objs os (walk v p).read h (m o refl))
        | Not x ↦ λ m. refuses-touches x (os ++ (walk v p).read)
      ] (walk-read v 0 root p)

  write-in : (at : ℕ) (bytes : List ℕ) (o : ℕ) (os : List ℕ) → T (member o os) → Touches (write_in v at bytes o os)
  write-in at bytes o os m =
      cond-touches (is_dir (v o)) (refuses no.IsDir os) (cond (nat_lt 65536 (at + length bytes)) (refuses no.TooLong os) (issues (Put o at bytes (nat_le (at + length bytes) (length (bytes_of (v o))))) os)) (refuses-touches no.IsDir os)
      (cond-touches (nat_lt 65536 (at + length bytes)) (refuses no.TooLong os) (issues (Put o at bytes (nat_le (at + length bytes) (length (bytes_of (v o))))) os) (refuses-touches no.TooLong os)
      (issues-touches (Put o at bytes (nat_le (at + length bytes) (length (bytes_of (v o))))) os (only o os m)))

  len-in : (len : ℕ) (o : ℕ) (os : List ℕ) → T (member o os) → Touches (len_in v len o os)
  len-in len o os m =
      cond-touches (is_dir (v o)) (refuses no.IsDir os) (cond (nat_lt 65536 len) (refuses no.TooLong os) (issues (Len o len) os)) (refuses-touches no.IsDir os)
      (cond-touches (nat_lt 65536 len) (refuses no.TooLong os) (issues (Len o len) os) (refuses-touches no.TooLong os) (issues-touches (Len o len) os (only o os m)))

  -- A call touches the operands of its update.
  pub plain-touches : (c : Call) (fresh : ℕ) → Touches (plain v c fresh)
  plain-touches (call.Mkdir p) fresh = make-touches kind.Dir p fresh
  plain-touches (call.Create p) fresh = make-touches kind.File p fresh
  plain-touches (call.Write p at bytes) fresh = at-path p (write_in v at bytes) (write-in at bytes)
  plain-touches (call.SetLen p len) fresh = at-path p (len_in v len) (len-in len)
  plain-touches (call.Read p at count) fresh = at-path p (read_in v at count) (λ o os m. cond-touches (is_dir (v o)) (refuses no.IsDir os) (answers (reply.Data (take count (drop at (bytes_of (v o))))) os) (refuses-touches no.IsDir os) (answers-touches (reply.Data (take count (drop at (bytes_of (v o))))) os))
  plain-touches (call.Chmod p mode) fresh = at-path p (λ o os. issues (Mode o mode) os) (λ o os m. issues-touches (Mode o mode) os (only o os m))
  plain-touches (call.Touch p stamp) fresh = at-path p (λ o os. issues (Stamp o stamp) os) (λ o os m. issues-touches (Stamp o stamp) os (only o os m))
  plain-touches (call.Stat p) fresh = at-path p (λ o os. answers (stat_of (v o)) os) (λ o os m. answers-touches (stat_of (v o)) os)
  plain-touches (call.List p) fresh = at-path p (list_in v p) (λ o os m. cond-touches (is_dir (v o)) (answers (reply.Names (map (λ e. e.0) (entries_of (v o)))) os) (refuses (no.NotDir (length p)) os) (answers-touches (reply.Names (map (λ e. e.0) (entries_of (v o)))) os) (refuses-touches (no.NotDir (length p)) os))
  plain-touches (call.Remove p) fresh = drop-touches kind.File p
  plain-touches (call.Rmdir p) fresh = drop-touches kind.Dir p
  plain-touches (call.Rename p q) fresh = rename-touches p q
  plain-touches (call.Fsync p) fresh = at-path p (λ o os. answers reply.Ok os) (λ o os m. answers-touches reply.Ok os)
  plain-touches (call.Forder ps) fresh = forder-touches ps [] [] (λ x k. k)
  plain-touches call.Sync fresh = answers-touches reply.Ok []
  plain-touches (call.Chown p owner) fresh = at-path p (λ o os. issues (Owner o owner) os) (λ o os m. issues-touches (Owner o owner) os (only o os m))
