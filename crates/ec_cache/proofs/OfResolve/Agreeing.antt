-- A call on two volumes that agree on what it touches.
use Rattle.std.proofs.Common.{◌≡◌, refl, sym, ap, subst, ◌∙◌, inl, inr, ◌⊎◌, ◌+◌, ◌-◌, ℕ, T, Bool, true, false, not, ◌==◌, ◌&&◌, cond, List, [], ◌∷◌, ◌++◌, map, length, Option, Some, None, append-nil, append_assoc}
use Rattle.std.specs.Prelude.{is_some, nat_lt, nat_le, take, drop}
use Rattle.ec_volume.specs.Entries.{Entries, entry}
use Rattle.ec_volume.specs.Image.{entries_of, bytes_of, is_gone, is_dir}
use Rattle.ec_volume.specs.Update.{Above, member, root}
use Rattle.ec_volume.specs.Volume.{Images}
use Rattle.ec_volume.specs.declared.image.Image.{Image}
use Rattle.ec_volume.specs.declared.image.Image.TheVariants.{Gone, File, Dir}
use Rattle.ec_volume.specs.declared.image.Kind.{Kind}
use Rattle.ec_volume.specs.declared.image.Kind.TheVariants as kind
use Rattle.ec_volume.specs.declared.update.Update.{Update}
use Rattle.ec_volume.specs.declared.update.Update.TheVariants.{Make, Drop, Move, Put, Len, Mode, Stamp, Order, Shift, Owner}
use Rattle.ec_plain.specs.Walk.{Path, Reached, At, Not, Walk, reading, stop, walk_from, walk, parent_of, last_of, same_path}
use Rattle.ec_plain.specs.Plain.{on_reached, on_parent, on_entry, answers, refuses, issues, plain, plain_make, plain_drop, plain_rename, plain_forder, once_more, blocked, kind_of, make_in, drop_in, above, renames, move_into, loops, rename_in, write_in, len_in, read_in, list_in, stat_of}
use Rattle.ec_plain.specs.declared.call.Call.{Call}
use Rattle.ec_plain.specs.declared.call.Call.TheVariants as call
use Rattle.ec_plain.specs.declared.call.Reply.{Reply}
use Rattle.ec_plain.specs.declared.call.Reply.TheVariants as reply
use Rattle.ec_plain.specs.declared.call.Refusal.{Refusal}
use Rattle.ec_plain.specs.declared.call.Refusal.TheVariants as no
use Rattle.ec_plain.specs.declared.call.Outcome.{Outcome}
use Rattle.ec_cache.specs.OfResolve.Agreement.{Agree}
use Rattle.ec_cache.proofs.OfResolve.Members.{member-self, member-left, member-right, member-last}
use Rattle.ec_base.proofs.Bools.{or-right as or_r}
use Rattle.ec_plain.proofs.WalkLemmas.{entry-step, image-step, not-at, same-at}

-- Walks.

-- The object that a walk reached was read.
pub walk-read : (v : Images) (i o : ℕ) (p : Path) (q : ℕ) → (walk_from v i o p).to ≡ At q → T (member q (walk_from v i o p).read)
walk-read v i o [] q = elim (is_gone (v o)) as (λ b. cond b (Not (no.NotFound i)) (At o) ≡ At q → T (member q (o ∷ []))) [
  | true ↦ λ e. not-at (no.NotFound i) q e
  | false ↦ λ e. subst (λ x. T (member x (o ∷ []))) (same-at o q e) (member-self o [])
]
walk-read v i o (n ∷ ns) q =
    elim (v o) as (λ im. (image-step v i n ns im).to ≡ At q → T (member q (o ∷ (image-step v i n ns im).read))) [
      | Gone ↦ λ e. not-at (no.NotFound i) q e
      | File m s w bs ↦ λ e. not-at (no.NotDir i) q e
      | Dir m s w es ↦ elim (entry es n) as (λ x. (entry-step v i ns x).to ≡ At q → T (member q (o ∷ (entry-step v i ns x).read))) [
        | None ↦ λ e. not-at (no.NotFound (i + 1)) q e
        | Some p ↦ λ e. or_r (q == o) _ (walk-read v (i + 1) p ns q e)
      ]
    ]

-- Lists that begin with another one.

abbrev pub Front : List ℕ → List ℕ → Type 0
Front os ts = (rest : List ℕ) × (ts ≡ os ++ rest)

front-self : (os : List ℕ) → Front os os
front-self os = ([], sym (append-nil os))

front-left : (os ps ts : List ℕ) → Front (os ++ ps) ts → Front os ts
front-left os ps ts f = (ps ++ f.0, f.1 ∙ append_assoc os ps f.0)

front-both : (xs ys zs : List ℕ) → Front xs ys → Front ys zs → Front xs zs
front-both xs ys zs f g = (f.0 ++ g.0, g.1 ∙ ap (λ x. x ++ g.0) f.1 ∙ append_assoc xs f.0 g.0)

front-member : (os ts : List ℕ) → Front os ts → (o : ℕ) → T (member o os) → T (member o ts)
front-member os ts f o m = subst (λ x. T (member o x)) (sym f.1) (member-left o os f.0 m)

-- of two lists with which one begins, the first and one more, or the other one
split : (ps : List ℕ) (z : ℕ) (os r s : List ℕ) → (ps ++ z ∷ []) ++ r ≡ os ++ s → Front (ps ++ z ∷ []) os ⊎ Front os ps
split ps z [] r s e = inr (ps, refl)
split [] z (o ∷ os) r s e =
    let same : z ≡ o = cc in
    inl (os, ap (λ x. x ∷ os) (sym same))
split (p ∷ ps) z (o ∷ os) r s e =
    let same : p ≡ o = cc in
    let tails : (ps ++ z ∷ []) ++ r ≡ os ++ s = cc in
    elim (split ps z os r s tails) [
      | inl f ↦ inl (f.0, ap (λ x. x ∷ os) (sym same) ∙ ap (λ xs. p ∷ xs) f.1)
      | inr f ↦ inr (f.0, ap (λ x. x ∷ ps) same ∙ ap (λ xs. o ∷ xs) f.1)
    ]

cancel : (os xs ys : List ℕ) → os ++ xs ≡ os ++ ys → xs ≡ ys
cancel [] xs ys e = e
cancel (o ∷ os) xs ys e = let tails : os ++ xs ≡ os ++ ys = cc in cancel os xs ys tails

-- Both touch these objects first; y is the same as x where the volumes agree on all that x touches, and it touches the same objects up to the
-- first one where they don't.
pub record Goes (v w : Images) (os : List ℕ) (x y : Outcome) : Type 0 where
  pub here : Front os x.touched
  pub there : Front os y.touched
  pub same : Agree v w x.touched → y ≡ x
  pub on : (ps : List ℕ) (z : ℕ) → Front (ps ++ z ∷ []) x.touched → Agree v w ps → Front (ps ++ z ∷ []) y.touched

module _ (v w : Images) where
  walk-same : (i o : ℕ) (p : Path) → Agree v w (walk_from v i o p).read → walk_from w i o p ≡ walk_from v i o p
  walk-same i o [] a = ap (λ im. reading o (stop (cond (is_gone im) (Not (no.NotFound i)) (At o)))) (a o (member-self o []))
  walk-same i o (n ∷ ns) a =
      ap (λ im. reading o (image-step w i n ns im)) (a o (member-self o (image-step v i n ns (v o)).read))
      ∙ (elim (v o) as (λ im. Agree v w (o ∷ (image-step v i n ns im).read) → reading o (image-step w i n ns im) ≡ reading o (image-step v i n ns im)) [
        | Gone ↦ λ b. refl
        | File m s u bs ↦ λ b. refl
        | Dir m s u es ↦ elim (entry es n) as (λ x. Agree v w (o ∷ (entry-step v i ns x).read) → reading o (entry-step w i ns x) ≡ reading o (entry-step v i ns x)) [
          | None ↦ λ b. refl
          | Some p ↦ λ b. ap (reading o) (walk-same (i + 1) p ns (λ q m. b q (or_r (q == o) _ m)))
        ]
      ]) a

  agree-front : (os ts : List ℕ) → Front os ts → Agree v w ts → Agree v w os
  agree-front os ts f a o m = a o (front-member os ts f o m)

  -- what comes behind the first object of a walk
  steps-on : (i : ℕ) (n : List ℕ) (ns : Path) (im : Image) → ((p : ℕ) (ps : List ℕ) (z : ℕ) → Front (ps ++ z ∷ []) (walk_from v (i + 1) p ns).read → Agree v w ps → Front (ps ++ z ∷ []) (walk_from w (i + 1) p ns).read)
      → (ps : List ℕ) (z : ℕ) → Front (ps ++ z ∷ []) (image-step v i n ns im).read → Agree v w ps → Front (ps ++ z ∷ []) (image-step w i n ns im).read
  steps-on i n ns Gone r ps z f a = f
  steps-on i n ns (File m s u bs) r ps z f a = f
  steps-on i n ns (Dir m s u es) r ps z f a = (elim (entry es n) as (λ x. Front (ps ++ z ∷ []) (entry-step v i ns x).read → Agree v w ps → Front (ps ++ z ∷ []) (entry-step w i ns x).read) [
    | None ↦ λ g b. g
    | Some p ↦ λ g b. r p ps z g b
  ]) f a

  walk-on : (i o : ℕ) (p : Path) (ps : List ℕ) (z : ℕ) → Front (ps ++ z ∷ []) (walk_from v i o p).read → Agree v w ps → Front (ps ++ z ∷ []) (walk_from w i o p).read
  walk-on i o [] ps z f a = f
  walk-on i o (n ∷ ns) [] z f a =
      let e : o ∷ (image-step v i n ns (v o)).read ≡ z ∷ f.0 = f.1 in
      let same : o ≡ z = cc in
      ((image-step w i n ns (w o)).read, ap (λ x. x ∷ (image-step w i n ns (w o)).read) same)
  walk-on i o (n ∷ ns) (p ∷ ps) z f a =
      let e : o ∷ (image-step v i n ns (v o)).read ≡ p ∷ ((ps ++ z ∷ []) ++ f.0) = f.1 in
      let same : o ≡ p = cc in
      let tails : (image-step v i n ns (v o)).read ≡ (ps ++ z ∷ []) ++ f.0 = cc in
      let image : w o ≡ v o = subst (λ x. w x ≡ v x) (sym same) (a p (member-self p ps)) in
      let g : Front (ps ++ z ∷ []) (image-step w i n ns (v o)).read = steps-on i n ns (v o) (λ q. walk-on (i + 1) q ns) ps z (f.0, tails) (λ x m. a x (or_r (x == p) (member x ps) m)) in
      (g.0, ap (λ im. o ∷ (image-step w i n ns im).read) image ∙ ap (λ xs. o ∷ xs) g.1 ∙ ap (λ x. x ∷ ((ps ++ z ∷ []) ++ g.0)) same)

  -- the same behind what was read before
  behind-on : (os rs ts : List ℕ) → ((ps : List ℕ) (z : ℕ) → Front (ps ++ z ∷ []) rs → Agree v w ps → Front (ps ++ z ∷ []) ts) → (ps : List ℕ) (z : ℕ) → Front (ps ++ z ∷ []) (os ++ rs) → Agree v w ps → Front (ps ++ z ∷ []) (os ++ ts)
  behind-on os rs ts h ps z f a = elim (split ps z os f.0 rs (sym f.1)) [
    | inl g ↦ front-both (ps ++ z ∷ []) os (os ++ ts) g (ts, refl)
    | inr g ↦
        let e : os ++ rs ≡ os ++ ((g.0 ++ z ∷ []) ++ f.0) = f.1 ∙ ap (λ xs. (xs ++ z ∷ []) ++ f.0) g.1 ∙ ap (λ xs. xs ++ f.0) (append_assoc os g.0 (z ∷ [])) ∙ append_assoc os (g.0 ++ z ∷ []) f.0 in
        let k : Front (g.0 ++ z ∷ []) ts = h g.0 z (f.0, cancel os rs ((g.0 ++ z ∷ []) ++ f.0) e) (λ o m. a o (subst (λ xs. T (member o xs)) (sym g.1) (member-right o os g.0 m))) in
        (k.0, ap (λ xs. os ++ xs) k.1 ∙ sym (append_assoc os (g.0 ++ z ∷ []) k.0) ∙ ap (λ xs. xs ++ k.0) (sym (append_assoc os g.0 (z ∷ []))) ∙ ap (λ xs. (xs ++ z ∷ []) ++ k.0) (sym g.1))
  ]

  -- How outcomes are put together.

  goes-answers : (r : Reply) (os : List ℕ) → Goes v w os (answers r os) (answers r os)
  goes-answers r os = record { here = front-self os; there = front-self os; same = λ a. refl; on = λ ps z f a. f }

  goes-refuses : (r : Refusal) (os : List ℕ) → Goes v w os (refuses r os) (refuses r os)
  goes-refuses r os = goes-answers (reply.Refused r) os

  goes-issues : (u : Update) (os : List ℕ) → Goes v w os (issues u os) (issues u os)
  goes-issues u os = record { here = front-self os; there = front-self os; same = λ a. refl; on = λ ps z f a. f }

  -- it is enough where the volumes agree on what was read so far
  goes-when : (os : List ℕ) (x y : Outcome) → Front os x.touched → Front os y.touched → (Agree v w os → Goes v w os x y) → Goes v w os x y
  goes-when os x y f g h = record {
    here = f;
    there = g;
    same = λ a. (h (agree-front os x.touched f a)).same a;
    on = λ ps z k a. elim (split ps z os k.0 f.0 (sym k.1 ∙ f.1)) [
      | inl q ↦ front-both (ps ++ z ∷ []) os y.touched q g
      | inr q ↦ (h (agree-front os ps q a)).on ps z k a
    ];
  }

  cond-front : (b : Bool) (os : List ℕ) (x y : Outcome) → Front os x.touched → Front os y.touched → Front os (cond b x y).touched
  cond-front true os x y f g = f
  cond-front false os x y f g = g

  -- a test that reads no image
  goes-if : (b : Bool) (os : List ℕ) (x x' y y' : Outcome) → Goes v w os x x' → Goes v w os y y' → Goes v w os (cond b x y) (cond b x' y')
  goes-if true os x x' y y' g h = g
  goes-if false os x x' y y' g h = h

  goes-cond : (b c : Bool) (os : List ℕ) (x x' y y' : Outcome) → (Agree v w os → c ≡ b) → Goes v w os x x' → Goes v w os y y' → Goes v w os (cond b x y) (cond c x' y')
  goes-cond b c os x x' y y' e g h =
      goes-when os (cond b x y) (cond c x' y') (cond-front b os x y g.here h.here) (cond-front c os x' y' g.there h.there)
      (λ a. subst (λ t. Goes v w os (cond b x y) (cond t x' y')) (sym (e a)) (goes-if b os x x' y y' g h))

  goes-to : (os : List ℕ) (x y z : Outcome) → Goes v w os x y → Front os z.touched → (Agree v w os → z ≡ y) → Goes v w os x z
  goes-to os x y z g f e = goes-when os x z g.here f (λ a. subst (λ t. Goes v w os x t) (sym (e a)) g)

  -- more was read
  goes-more : (os ps : List ℕ) (x y : Outcome) → Goes v w (os ++ ps) x y → Goes v w os x y
  goes-more os ps x y g = record { here = front-left os ps x.touched g.here; there = front-left os ps y.touched g.there; same = g.same; on = g.on }

  -- along a path
  goes-along : (os : List ℕ) (p : Path) (f g : Walk → Outcome) → Goes v w (os ++ (walk v p).read) (f (walk v p)) (g (walk v p)) → Front (os ++ (walk w p).read) (g (walk w p)).touched → Goes v w os (f (walk v p)) (g (walk w p))
  goes-along os p f g h k = record {
    here = front-left os (walk v p).read (f (walk v p)).touched h.here;
    there = front-left os (walk w p).read (g (walk w p)).touched k;
    same = λ a. ap g (one (agree-front (os ++ (walk v p).read) (f (walk v p)).touched h.here a)) ∙ h.same a;
    on = λ ps z q a. elim (split ps z (os ++ (walk v p).read) q.0 h.here.0 (sym q.1 ∙ h.here.1)) [
      | inl r ↦ front-both (ps ++ z ∷ []) (os ++ (walk w p).read) (g (walk w p)).touched (behind-on os (walk v p).read (walk w p).read (walk-on 0 root p) ps z r a) k
      | inr r ↦ subst (λ x. Front (ps ++ z ∷ []) (g x).touched) (sym (one (agree-front (os ++ (walk v p).read) ps r a))) (h.on ps z q a)
    ];
  }
    where
      one : Agree v w (os ++ (walk v p).read) → walk w p ≡ walk v p
      one a = walk-same 0 root p (λ o m. a o (member-right o os (walk v p).read m))

  goes-reached : (p : Path) (f g : ℕ → List ℕ → Outcome) → ((o : ℕ) (os : List ℕ) → T (member o os) → Goes v w os (f o os) (g o os)) → Goes v w [] (on_reached (walk v p) f) (on_reached (walk w p) g)
  goes-reached p f g h = goes-along [] p (λ x. on_reached x f) (λ x. on_reached x g) (go (walk v p).to (walk-read v 0 root p)) (ends (walk w p).to (walk-read w 0 root p))
    where
      ends : (r : Reached) → ((o : ℕ) → r ≡ At o → T (member o (walk w p).read)) → Front (walk w p).read (elim r as (λ x. Outcome) [ At o ↦ g o (walk w p).read | Not x ↦ refuses x (walk w p).read ]).touched
      ends (At o) m = (h o (walk w p).read (m o refl)).there
      ends (Not x) m = front-self (walk w p).read

      go : (r : Reached) → ((o : ℕ) → r ≡ At o → T (member o (walk v p).read))
          → Goes v w (walk v p).read (elim r [ At o ↦ f o (walk v p).read | Not x ↦ refuses x (walk v p).read ]) (elim r [ At o ↦ g o (walk v p).read | Not x ↦ refuses x (walk v p).read ])
      go (At o) m = h o (walk v p).read (m o refl)
      go (Not x) m = goes-refuses x (walk v p).read

  goes-parent : (p : Path) (f g : ℕ → Entries → List ℕ → Outcome) → ((d : ℕ) (es : Entries) (os : List ℕ) → T (member d os) → Goes v w os (f d es os) (g d es os)) → Goes v w [] (on_parent v p f) (on_parent w p g)
  goes-parent p f g h =
      goes-reached (parent_of p) (λ d os. cond (is_dir (v d)) (f d (entries_of (v d)) os) (refuses (no.NotDir (length p - 1)) os)) (λ d os. cond (is_dir (w d)) (g d (entries_of (w d)) os) (refuses (no.NotDir (length p - 1)) os))
      (λ d os m. goes-cond (is_dir (v d)) (is_dir (w d)) os (f d (entries_of (v d)) os) (g d (entries_of (w d)) os) (refuses (no.NotDir (length p - 1)) os) (refuses (no.NotDir (length p - 1)) os) (λ a. ap is_dir (a d m))
      (goes-to os (f d (entries_of (v d)) os) (g d (entries_of (v d)) os) (g d (entries_of (w d)) os) (h d (entries_of (v d)) os m) (h d (entries_of (w d)) os m).there (λ a. ap (λ im. g d (entries_of im) os) (a d m)))
      (goes-refuses (no.NotDir (length p - 1)) os))

  abbrev below : Images → Path → (ℕ → Entries → ℕ → List ℕ → Outcome) → ℕ → Entries → List ℕ → Option ℕ → Outcome
  below x p f d es os None = refuses (no.NotFound (length p)) os
  below x p f d es os (Some o) = cond (is_gone (x o)) (refuses (no.NotFound (length p)) (os ++ o ∷ [])) (f d es o (os ++ o ∷ []))

  goes-entry : (p : Path) (f g : ℕ → Entries → ℕ → List ℕ → Outcome) → ((d : ℕ) (es : Entries) (o : ℕ) (os : List ℕ) → T (member d os) → T (member o os) → Goes v w os (f d es o os) (g d es o os)) → Goes v w [] (on_entry v p f) (on_entry w p g)
  goes-entry p f g h = goes-parent p (λ d es os. below v p f d es os (entry es (last_of p))) (λ d es os. below w p g d es os (entry es (last_of p))) (λ d es os m. go d es os m (entry es (last_of p)))
    where
      go : (d : ℕ) (es : Entries) (os : List ℕ) → T (member d os) → (x : Option ℕ) → Goes v w os (below v p f d es os x) (below w p g d es os x)
      go d es os m None = goes-refuses (no.NotFound (length p)) os
      go d es os m (Some o) =
          goes-more os (o ∷ []) (below v p f d es os (Some o)) (below w p g d es os (Some o))
          (goes-cond (is_gone (v o)) (is_gone (w o)) (os ++ o ∷ []) (refuses (no.NotFound (length p)) (os ++ o ∷ [])) (refuses (no.NotFound (length p)) (os ++ o ∷ [])) (f d es o (os ++ o ∷ [])) (g d es o (os ++ o ∷ []))
          (λ a. ap is_gone (a o (member-last o os))) (goes-refuses (no.NotFound (length p)) (os ++ o ∷ [])) (h d es o (os ++ o ∷ []) (member-left d os (o ∷ []) m) (member-last o os)))

  -- a test of an object that was read
  goes-by : (t : Image → Bool) (o : ℕ) (os : List ℕ) → T (member o os) → (x x' y y' : Outcome) → Goes v w os x x' → Goes v w os y y' → Goes v w os (cond (t (v o)) x y) (cond (t (w o)) x' y')
  goes-by t o os m x x' y y' g h = goes-cond (t (v o)) (t (w o)) os x x' y y' (λ a. ap t (a o m)) g h

  -- something that its image gives
  goes-with : (f : Image → Outcome) (o : ℕ) (os : List ℕ) → T (member o os) → ((im : Image) → Goes v w os (f im) (f im)) → Goes v w os (f (v o)) (f (w o))
  goes-with f o os m g = goes-to os (f (v o)) (f (v o)) (f (w o)) (g (v o)) (g (w o)).there (λ a. ap f (a o m))

  -- The calls.

  goes-make : (k : Kind) (p : Path) (fresh : ℕ) → Goes v w [] (plain_make v k p fresh) (plain_make w k p fresh)
  goes-make k [] fresh = goes-refuses no.Root []
  goes-make k (n ∷ ns) fresh = goes-parent (n ∷ ns) (make_in k (last_of (n ∷ ns)) fresh) (make_in k (last_of (n ∷ ns)) fresh) (λ d es os m. inside (last_of (n ∷ ns)) d es os)
    where
      inside : (n : List ℕ) (d : ℕ) (es : Entries) (os : List ℕ) → Goes v w os (make_in k n fresh d es os) (make_in k n fresh d es os)
      inside n d es os =
          let rest = cond (nat_le 128 (length es)) (refuses no.DirFull os) (issues (Make d n fresh k) (os ++ fresh ∷ [])) in
          goes-if (is_some (entry es n)) os (refuses no.Exists os) (refuses no.Exists os) rest rest (goes-refuses no.Exists os)
          (goes-if (nat_le 128 (length es)) os (refuses no.DirFull os) (refuses no.DirFull os) (issues (Make d n fresh k) (os ++ fresh ∷ [])) (issues (Make d n fresh k) (os ++ fresh ∷ [])) (goes-refuses no.DirFull os)
          (goes-more os (fresh ∷ []) (issues (Make d n fresh k) (os ++ fresh ∷ [])) (issues (Make d n fresh k) (os ++ fresh ∷ [])) (goes-issues (Make d n fresh k) (os ++ fresh ∷ []))))

  goes-drop-in : (k : Kind) (p : Path) (d : ℕ) (es : Entries) (o : ℕ) (os : List ℕ) → T (member o os) → Goes v w os (drop_in v k p d es o os) (drop_in w k p d es o os)
  goes-drop-in kind.File p d es o os m =
      goes-by is_dir o os m (refuses no.IsDir os) (refuses no.IsDir os) (issues (Drop d (last_of p) o kind.File) os) (issues (Drop d (last_of p) o kind.File) os) (goes-refuses no.IsDir os) (goes-issues (Drop d (last_of p) o kind.File) os)
  goes-drop-in kind.Dir p d es o os m =
      goes-by (λ im. not (is_dir im)) o os m (refuses (no.NotDir (length p)) os) (refuses (no.NotDir (length p)) os)
      (cond (nat_lt 0 (length (entries_of (v o)))) (refuses no.NotEmpty os) (issues (Drop d (last_of p) o kind.Dir) os)) (cond (nat_lt 0 (length (entries_of (w o)))) (refuses no.NotEmpty os) (issues (Drop d (last_of p) o kind.Dir) os))
      (goes-refuses (no.NotDir (length p)) os)
      (goes-by (λ im. nat_lt 0 (length (entries_of im))) o os m (refuses no.NotEmpty os) (refuses no.NotEmpty os) (issues (Drop d (last_of p) o kind.Dir) os) (issues (Drop d (last_of p) o kind.Dir) os) (goes-refuses no.NotEmpty os) (goes-issues (Drop d (last_of p) o kind.Dir) os))

  goes-drop : (k : Kind) (p : Path) → Goes v w [] (plain_drop v k p) (plain_drop w k p)
  goes-drop k [] = goes-refuses no.Root []
  goes-drop k (n ∷ ns) = goes-entry (n ∷ ns) (drop_in v k (n ∷ ns)) (drop_in w k (n ∷ ns)) (λ d es o os md mo. goes-drop-in k (n ∷ ns) d es o os mo)

  goes-renames : (d : ℕ) (from : List ℕ) (e : ℕ) (to : List ℕ) (o : ℕ) (k : Kind) (victim : Option ℕ) (up : Above) (os : List ℕ) → Goes v w os (renames d from e to o k victim up os) (renames d from e to o k victim up os)
  goes-renames d from e to o k victim up os =
      goes-if (d == e) os (issues (Move d from to o k victim) os) (issues (Move d from to o k victim) os) (issues (Shift d from e to o k victim up) os) (issues (Shift d from e to o k victim up) os)
      (goes-issues (Move d from to o k victim) os) (goes-issues (Shift d from e to o k victim up) os)

  module _ (p q : Path) (d o : ℕ) where
    abbrev into : Images → ℕ → Entries → List ℕ → List ℕ → Kind → Option ℕ → Outcome
    into x e fs ps os k None = cond (not (d == e) && nat_le 128 (length fs)) (refuses no.DirFull os) (renames d (last_of p) e (last_of q) o k None (above k ps (parent_of q)) os)
    into x e fs ps os k (Some t) = elim (blocked k (x t) (length q)) [
      | Some r ↦ refuses r (os ++ t ∷ [])
      | None ↦ renames d (last_of p) e (last_of q) o k (Some t) (above k ps (parent_of q)) (os ++ t ∷ [])
    ]

    abbrev replaces : ℕ → ℕ → List ℕ → List ℕ → Kind → Option Refusal → Outcome
    replaces e t ps os k b = elim b [
      | Some r ↦ refuses r (os ++ t ∷ [])
      | None ↦ renames d (last_of p) e (last_of q) o k (Some t) (above k ps (parent_of q)) (os ++ t ∷ [])
    ]

    goes-replaces : (e t : ℕ) (ps os : List ℕ) (k : Kind) (b : Option Refusal) → Goes v w (os ++ t ∷ []) (replaces e t ps os k b) (replaces e t ps os k b)
    goes-replaces e t ps os k (Some r) = goes-refuses r (os ++ t ∷ [])
    goes-replaces e t ps os k None = goes-renames d (last_of p) e (last_of q) o k (Some t) (above k ps (parent_of q)) (os ++ t ∷ [])

    goes-into : (e : ℕ) (fs : Entries) (ps os : List ℕ) (k : Kind) (t : Option ℕ) → Goes v w os (into v e fs ps os k t) (into w e fs ps os k t)
    goes-into e fs ps os k None =
        goes-if (not (d == e) && nat_le 128 (length fs)) os (refuses no.DirFull os) (refuses no.DirFull os)
        (renames d (last_of p) e (last_of q) o k None (above k ps (parent_of q)) os) (renames d (last_of p) e (last_of q) o k None (above k ps (parent_of q)) os)
        (goes-refuses no.DirFull os) (goes-renames d (last_of p) e (last_of q) o k None (above k ps (parent_of q)) os)
    goes-into e fs ps os k (Some t) =
        goes-more os (t ∷ []) (into v e fs ps os k (Some t)) (into w e fs ps os k (Some t))
        (goes-with (λ im. replaces e t ps os k (blocked k im (length q))) t (os ++ t ∷ []) (member-last t os) (λ im. goes-replaces e t ps os k (blocked k im (length q))))

    goes-move : (e : ℕ) (fs : Entries) (ps os : List ℕ) → T (member o os) → Goes v w os (move_into v p q d o e fs ps os) (move_into w p q d o e fs ps os)
    goes-move e fs ps os m =
        goes-to os (into v e fs ps os (kind_of (v o)) (entry fs (last_of q))) (into w e fs ps os (kind_of (v o)) (entry fs (last_of q))) (into w e fs ps os (kind_of (w o)) (entry fs (last_of q)))
        (goes-into e fs ps os (kind_of (v o)) (entry fs (last_of q))) (goes-into e fs ps os (kind_of (w o)) (entry fs (last_of q))).there (λ a. ap (λ im. into w e fs ps os (kind_of im) (entry fs (last_of q))) (a o m))

    abbrev arrives : Images → List ℕ → List ℕ → Reached → Outcome
    arrives x os ps (Not r) = refuses r (os ++ ps)
    arrives x os ps (At e) =
        cond (not (is_dir (x e))) (refuses (no.NotDir (length q - 1)) (os ++ ps)) (cond (loops x o ps) (refuses no.Loop (os ++ ps)) (move_into x p q d o e (entries_of (x e)) ps (os ++ ps)))

    goes-arrives : (os ps : List ℕ) (r : Reached) → T (member o os) → ((e : ℕ) → r ≡ At e → T (member e ps)) → Goes v w (os ++ ps) (arrives v os ps r) (arrives w os ps r)
    goes-arrives os ps (Not r) m f = goes-refuses r (os ++ ps)
    goes-arrives os ps (At e) m f =
        let me : T (member e (os ++ ps)) = member-right e os ps (f e refl) in
        let mo : T (member o (os ++ ps)) = member-left o os ps m in
        goes-by (λ im. not (is_dir im)) e (os ++ ps) me (refuses (no.NotDir (length q - 1)) (os ++ ps)) (refuses (no.NotDir (length q - 1)) (os ++ ps))
        (cond (loops v o ps) (refuses no.Loop (os ++ ps)) (move_into v p q d o e (entries_of (v e)) ps (os ++ ps))) (cond (loops w o ps) (refuses no.Loop (os ++ ps)) (move_into w p q d o e (entries_of (w e)) ps (os ++ ps)))
        (goes-refuses (no.NotDir (length q - 1)) (os ++ ps))
        (goes-by (λ im. is_dir im && member o ps) o (os ++ ps) mo (refuses no.Loop (os ++ ps)) (refuses no.Loop (os ++ ps)) (move_into v p q d o e (entries_of (v e)) ps (os ++ ps)) (move_into w p q d o e (entries_of (w e)) ps (os ++ ps))
        (goes-refuses no.Loop (os ++ ps))
        (goes-to (os ++ ps) (move_into v p q d o e (entries_of (v e)) ps (os ++ ps)) (move_into w p q d o e (entries_of (v e)) ps (os ++ ps)) (move_into w p q d o e (entries_of (w e)) ps (os ++ ps))
        (goes-move e (entries_of (v e)) ps (os ++ ps) mo) (goes-move e (entries_of (w e)) ps (os ++ ps) mo).there (λ a. ap (λ im. move_into w p q d o e (entries_of im) ps (os ++ ps)) (a e me))))

    goes-rename-in : (es : Entries) (os : List ℕ) → T (member o os) → Goes v w os (rename_in v p q d es o os) (rename_in w p q d es o os)
    goes-rename-in es os m =
        goes-if (same_path p q) os (answers reply.Ok os) (answers reply.Ok os) (arrives v os (walk v (parent_of q)).read (walk v (parent_of q)).to) (arrives w os (walk w (parent_of q)).read (walk w (parent_of q)).to)
        (goes-answers reply.Ok os)
        (goes-along os (parent_of q) (λ x. arrives v os x.read x.to) (λ x. arrives w os x.read x.to) (goes-arrives os (walk v (parent_of q)).read (walk v (parent_of q)).to m (walk-read v 0 root (parent_of q)))
        (goes-arrives os (walk w (parent_of q)).read (walk w (parent_of q)).to m (walk-read w 0 root (parent_of q))).there)

  goes-rename : (p q : Path) → Goes v w [] (plain_rename v p q) (plain_rename w p q)
  goes-rename [] q = goes-refuses no.Root []
  goes-rename (a ∷ as') [] = goes-refuses no.Root []
  goes-rename (a ∷ as') (b ∷ bs) = goes-entry (a ∷ as') (rename_in v (a ∷ as') (b ∷ bs)) (rename_in w (a ∷ as') (b ∷ bs)) (λ d es o os md mo. goes-rename-in (a ∷ as') (b ∷ bs) d o es os mo)

  goes-forder : (ps : List Path) (objs os : List ℕ) → Goes v w os (plain_forder v ps objs os) (plain_forder w ps objs os)
  goes-forder [] objs os = goes-issues (Order objs) os
  goes-forder (p ∷ ps) objs os =
      goes-along os p (λ x. elim (x.to) [ At o ↦ plain_forder v ps (once_more o objs) (os ++ x.read) | Not r ↦ refuses r (os ++ x.read) ])
      (λ x. elim (x.to) [ At o ↦ plain_forder w ps (once_more o objs) (os ++ x.read) | Not r ↦ refuses r (os ++ x.read) ])
      (elim ((walk v p).to) as (λ t. Goes v w (os ++ (walk v p).read) (elim t [ At o ↦ plain_forder v ps (once_more o objs) (os ++ (walk v p).read) | Not r ↦ refuses r (os ++ (walk v p).read) ])
      (elim t [ At o ↦ plain_forder w ps (once_more o objs) (os ++ (walk v p).read) | Not r ↦ refuses r (os ++ (walk v p).read) ])) [
        | At o ↦ goes-forder ps (once_more o objs) (os ++ (walk v p).read)
        | Not r ↦ goes-refuses r (os ++ (walk v p).read)
      ])
      (elim ((walk w p).to) as (λ t. Front (os ++ (walk w p).read) (elim t as (λ x. Outcome) [ At o ↦ plain_forder w ps (once_more o objs) (os ++ (walk w p).read) | Not r ↦ refuses r (os ++ (walk w p).read) ]).touched) [
        | At o ↦ (goes-forder ps (once_more o objs) (os ++ (walk w p).read)).there
        | Not r ↦ front-self (os ++ (walk w p).read)
      ])

  goes-write : (at : ℕ) (bytes : List ℕ) (o : ℕ) (os : List ℕ) → T (member o os) → Goes v w os (write_in v at bytes o os) (write_in w at bytes o os)
  goes-write at bytes o os m = goes-with (λ im. write_in (λ x. im) at bytes o os) o os m
      (λ im. goes-if (is_dir im) os (refuses no.IsDir os) (refuses no.IsDir os) (rest im) (rest im) (goes-refuses no.IsDir os)
      (goes-if (nat_lt 65536 (at + length bytes)) os (refuses no.TooLong os) (refuses no.TooLong os) (put im) (put im) (goes-refuses no.TooLong os) (goes-issues (Put o at bytes (nat_le (at + length bytes) (length (bytes_of im)))) os)))
    where
      put : Image → Outcome
      put im = issues (Put o at bytes (nat_le (at + length bytes) (length (bytes_of im)))) os

      rest : Image → Outcome
      rest im = cond (nat_lt 65536 (at + length bytes)) (refuses no.TooLong os) (put im)

  goes-len : (len o : ℕ) (os : List ℕ) → T (member o os) → Goes v w os (len_in v len o os) (len_in w len o os)
  goes-len len o os m =
      goes-by is_dir o os m (refuses no.IsDir os) (refuses no.IsDir os) (cond (nat_lt 65536 len) (refuses no.TooLong os) (issues (Len o len) os)) (cond (nat_lt 65536 len) (refuses no.TooLong os) (issues (Len o len) os)) (goes-refuses no.IsDir os)
      (goes-if (nat_lt 65536 len) os (refuses no.TooLong os) (refuses no.TooLong os) (issues (Len o len) os) (issues (Len o len) os) (goes-refuses no.TooLong os) (goes-issues (Len o len) os))

  goes-read : (at count o : ℕ) (os : List ℕ) → T (member o os) → Goes v w os (read_in v at count o os) (read_in w at count o os)
  goes-read at count o os m = goes-with (λ im. read_in (λ x. im) at count o os) o os m
      (λ im. goes-if (is_dir im) os (refuses no.IsDir os) (refuses no.IsDir os) (answers (reply.Data (take count (drop at (bytes_of im)))) os) (answers (reply.Data (take count (drop at (bytes_of im)))) os)
      (goes-refuses no.IsDir os) (goes-answers (reply.Data (take count (drop at (bytes_of im)))) os))

  goes-list : (p : Path) (o : ℕ) (os : List ℕ) → T (member o os) → Goes v w os (list_in v p o os) (list_in w p o os)
  goes-list p o os m = goes-with (λ im. list_in (λ x. im) p o os) o os m
      (λ im. goes-if (is_dir im) os (answers (reply.Names (map (λ e. e.0) (entries_of im))) os) (answers (reply.Names (map (λ e. e.0) (entries_of im))) os) (refuses (no.NotDir (length p)) os) (refuses (no.NotDir (length p)) os)
      (goes-answers (reply.Names (map (λ e. e.0) (entries_of im))) os) (goes-refuses (no.NotDir (length p)) os))

  goes-plain : (cl : Call) (fresh : ℕ) → Goes v w [] (plain v cl fresh) (plain w cl fresh)
  goes-plain (call.Mkdir p) fresh = goes-make kind.Dir p fresh
  goes-plain (call.Create p) fresh = goes-make kind.File p fresh
  goes-plain (call.Write p at bytes) fresh = goes-reached p (write_in v at bytes) (write_in w at bytes) (goes-write at bytes)
  goes-plain (call.SetLen p len) fresh = goes-reached p (len_in v len) (len_in w len) (goes-len len)
  goes-plain (call.Read p at count) fresh = goes-reached p (read_in v at count) (read_in w at count) (goes-read at count)
  goes-plain (call.Chmod p mode) fresh = goes-reached p (λ o os. issues (Mode o mode) os) (λ o os. issues (Mode o mode) os) (λ o os m. goes-issues (Mode o mode) os)
  goes-plain (call.Touch p stamp) fresh = goes-reached p (λ o os. issues (Stamp o stamp) os) (λ o os. issues (Stamp o stamp) os) (λ o os m. goes-issues (Stamp o stamp) os)
  goes-plain (call.Stat p) fresh = goes-reached p (λ o os. answers (stat_of (v o)) os) (λ o os. answers (stat_of (w o)) os) (λ o os m. goes-with (λ im. answers (stat_of im) os) o os m (λ im. goes-answers (stat_of im) os))
  goes-plain (call.List p) fresh = goes-reached p (list_in v p) (list_in w p) (goes-list p)
  goes-plain (call.Remove p) fresh = goes-drop kind.File p
  goes-plain (call.Rmdir p) fresh = goes-drop kind.Dir p
  goes-plain (call.Rename p q) fresh = goes-rename p q
  goes-plain (call.Fsync p) fresh = goes-reached p (λ o os. answers reply.Ok os) (λ o os. answers reply.Ok os) (λ o os m. goes-answers reply.Ok os)
  goes-plain (call.Forder ps) fresh = goes-forder ps [] []
  goes-plain call.Sync fresh = goes-answers reply.Ok []
  goes-plain (call.Chown p owner) fresh = goes-reached p (λ o os. issues (Owner o owner) os) (λ o os. issues (Owner o owner) os) (λ o os m. goes-issues (Owner o owner) os)

-- A call sees no images but those of the objects that it touches.
pub plain-agrees : (v w : Images) (cl : Call) (fresh : ℕ) → Agree v w (plain v cl fresh).touched → plain w cl fresh ≡ plain v cl fresh
plain-agrees v w cl fresh a = (goes-plain v w cl fresh).same a

-- Where the volumes agree up to one of the objects touched, the same are touched up to that one.
pub plain-touches_on : (v w : Images) (cl : Call) (fresh : ℕ) (front : List ℕ) (x : ℕ) (back : List ℕ) → (plain v cl fresh).touched ≡ front ++ x ∷ back → Agree v w front → (more : List ℕ) × ((plain w cl fresh).touched ≡ front ++ x ∷ more)
plain-touches_on v w cl fresh front x back e a =
    let f : Front (front ++ x ∷ []) (plain w cl fresh).touched = (goes-plain v w cl fresh).on front x (back, e ∙ sym (append_assoc front (x ∷ []) back)) a in
    (f.0, f.1 ∙ append_assoc front (x ∷ []) f.0)
