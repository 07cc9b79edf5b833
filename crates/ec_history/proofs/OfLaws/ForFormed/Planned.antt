-- The update of a call fits, and is sound where the call is within its bounds.
use Rattle.std.proofs.Common.{◌≡◌, refl, sym, ap, subst, inl, inr, arith, ◌⊎◌, ◌+◌, ◌≤◌, ℕ, T, Bool, true, false, not, ◌==◌, ◌&&◌, ◌||◌, cond, List, [], ◌∷◌, ◌++◌, Some}
use Rattle.std.specs.Prelude.{length, nat_le, nat_lt, map, take, drop}
use Rattle.std.specs.List.{list_all}
use Rattle.std.proofs.lemmas.Bool.{cases_Bool}
use Rattle.std.proofs.lemmas.Bool.Decides.{nat_tests}
use Rattle.std.proofs.lemmas.List.{length_push}
use Rattle.ec_volume.specs.Image.{bytes_of, entries_of, is_gone, is_dir, is_file}
use Rattle.ec_volume.specs.Update.{root, member, distinct, fits, is_sound}
use Rattle.ec_volume.specs.Volume.{Images, Fits, WellFormed}
use Rattle.ec_volume.specs.declared.image.Image.{Image}
use Rattle.ec_volume.specs.declared.image.Image.TheVariants.{Gone, File, Dir}
use Rattle.ec_volume.specs.declared.image.Kind.{Kind}
use Rattle.ec_volume.specs.declared.image.Kind.TheVariants as kind
use Rattle.ec_volume.specs.declared.update.Update.{Update}
use Rattle.ec_volume.specs.declared.update.Update.TheVariants.{Put, Len, Mode, Stamp, Order, Owner}
use Rattle.ec_plain.specs.Walk.{Path, Reached, At, Not, walk, parent_of, last_of}
use Rattle.ec_plain.specs.Plain.{answers, refuses, issues, on_reached, make_in, drop_in, write_in, len_in, read_in, list_in, stat_of, once_more, plain, plain_make, plain_drop, plain_rename, plain_forder}
use Rattle.ec_plain.specs.BoundedCalls.{is_short, is_bounded}
use Rattle.ec_plain.specs.declared.call.Call.{Call}
use Rattle.ec_plain.specs.declared.call.Call.TheVariants as call
use Rattle.ec_plain.specs.declared.call.Reply.TheVariants as reply
use Rattle.ec_plain.specs.declared.call.Refusal.TheVariants as no
use Rattle.ec_history.proofs.OfLaws.ForPlacing.Removed.{off}
use Rattle.ec_history.proofs.OfLaws.ForFormed.Walked.{Walked, walked, walked-live}
use Rattle.ec_history.proofs.OfLaws.ForFormed.Called.{IsFine, IsGood, weaker, fits_at, unless, on_walk, one, make_good, drop_good}
use Rattle.ec_history.proofs.OfLaws.ForFormed.Makes.{answers-makes, refuses-makes, issues-makes, cond-makes, parent-makes, entry-makes}
use Rattle.ec_base.proofs.Bools.{both, first as left, right, on as holds}

behind : (a b c : Bool) → T (a && b && c) → T (b && c)
behind true b c t = t
behind false b c t = absurd t

-- Calls that change one object.

a_file : (i : Image) → is_dir i ≡ false → T (not (is_gone i)) → T (is_file i)
a_file Gone e l = absurd l
a_file (File m s w bs) e l = tt
a_file (Dir m s w es) e l = absurd (off e tt)

within : (m : ℕ) → nat_lt 65536 m ≡ false → T (nat_le m 65536)
within m h = grind arith

module _ (v : Images) where
  put_fine : (at : ℕ) (bytes : List ℕ) (o : ℕ) → T (is_file (v o)) → nat_lt 65536 (at + length bytes) ≡ false → IsFine v (T (nat_le 1 (length bytes) && nat_le (length bytes) 4096)) (Put o at bytes (nat_le (at + length bytes) (length (bytes_of (v o)))))
  put_fine at bytes o file short =
      record {
        sound = λ b. both (nat_le 1 (length bytes) && nat_le (length bytes) 4096) (nat_le (at + length bytes) 65536) b (within (at + length bytes) short);
        fitting = fits_at v (Put o at bytes (nat_le (at + length bytes) (length (bytes_of (v o))))) (one (λ x. T (fits (Put o at bytes (nat_le (at + length bytes) (length (bytes_of (v o))))) x (v x))) o
            (both (is_file (v o)) _ file (inside (nat_le (at + length bytes) (length (bytes_of (v o)))))));
      }
    where
      inside : (b : Bool) → T (not b || b)
      inside true = tt
      inside false = tt

  write_good : (at : ℕ) (bytes : List ℕ) (o : ℕ) (os : List ℕ) → T (not (is_gone (v o))) → IsGood v (T (nat_le 1 (length bytes) && nat_le (length bytes) 4096)) (write_in v at bytes o os)
  write_good at bytes o os live =
      unless v (T (nat_le 1 (length bytes) && nat_le (length bytes) 4096)) (is_dir (v o)) no.IsDir os (cond (nat_lt 65536 (at + length bytes)) (refuses no.TooLong os) (issues (Put o at bytes (nat_le (at + length bytes) (length (bytes_of (v o))))) os))
      (λ a. unless v (T (nat_le 1 (length bytes) && nat_le (length bytes) 4096)) (nat_lt 65536 (at + length bytes)) no.TooLong os (issues (Put o at bytes (nat_le (at + length bytes) (length (bytes_of (v o))))) os)
      (λ b. issues-makes (IsFine v (T (nat_le 1 (length bytes) && nat_le (length bytes) 4096))) (Put o at bytes (nat_le (at + length bytes) (length (bytes_of (v o))))) os (put_fine at bytes o (a_file (v o) a live) b)))

  len_good : (B : Type 0) (len o : ℕ) (os : List ℕ) → T (not (is_gone (v o))) → IsGood v B (len_in v len o os)
  len_good B len o os live =
      unless v B (is_dir (v o)) no.IsDir os (cond (nat_lt 65536 len) (refuses no.TooLong os) (issues (Len o len) os))
      (λ a. unless v B (nat_lt 65536 len) no.TooLong os (issues (Len o len) os)
      (λ b. issues-makes (IsFine v B) (Len o len) os (record {
        sound = λ _. within len b;
        fitting = fits_at v (Len o len) (one (λ x. T (fits (Len o len) x (v x))) o (a_file (v o) a live));
      })))

  mode_good : (mode o : ℕ) (os : List ℕ) → T (not (is_gone (v o))) → IsGood v (T (nat_le mode 4095)) (issues (Mode o mode) os)
  mode_good mode o os live = issues-makes (IsFine v (T (nat_le mode 4095))) (Mode o mode) os (record {
    sound = λ b. b;
    fitting = fits_at v (Mode o mode) (one (λ x. T (fits (Mode o mode) x (v x))) o live);
  })

  stamp_good : (B : Type 0) (stamp o : ℕ) (os : List ℕ) → T (not (is_gone (v o))) → IsGood v B (issues (Stamp o stamp) os)
  stamp_good B stamp o os live = issues-makes (IsFine v B) (Stamp o stamp) os (record {
    sound = λ b. tt;
    fitting = fits_at v (Stamp o stamp) (one (λ x. T (fits (Stamp o stamp) x (v x))) o live);
  })

  owner_good : (B : Type 0) (owner o : ℕ) (os : List ℕ) → T (not (is_gone (v o))) → IsGood v B (issues (Owner o owner) os)
  owner_good B owner o os live = issues-makes (IsFine v B) (Owner o owner) os (record {
    sound = λ b. tt;
    fitting = fits_at v (Owner o owner) (one (λ x. T (fits (Owner o owner) x (v x))) o live);
  })

-- Objects ordered, each once.

member-snoc : (p o : ℕ) (os : List ℕ) → (p == o) ≡ false → member p (os ++ o ∷ []) ≡ member p os
member-snoc p o [] h = subst (λ b. (b || false) ≡ false) (sym h) refl
member-snoc p o (q ∷ os) h = ap (λ b. (p == q) || b) (member-snoc p o os h)

distinct-snoc : (o : ℕ) (os : List ℕ) → T (distinct os) → member o os ≡ false → T (distinct (os ++ o ∷ []))
distinct-snoc o [] h a = tt
distinct-snoc o (p ∷ os) h a =
    let other : (p == o) ≡ false = grind (arith, nat_tests) in
    let later : member o os ≡ false = grind (arith, nat_tests) in
    both (not (member p (os ++ o ∷ []))) (distinct (os ++ o ∷ [])) (subst (λ b. T (not b)) (sym (member-snoc p o os other)) (left (not (member p os)) (distinct os) h))
    (distinct-snoc o os (right (not (member p os)) (distinct os) h) later)

-- these objects are live and distinct
record AreThere (v : Images) (objs : List ℕ) : Type 0 where
  apart : T (distinct objs)
  live : (o : ℕ) → T (member o objs) → T (not (is_gone (v o)))

member-either : (p o : ℕ) (os : List ℕ) → T (member p (os ++ o ∷ [])) → T (member p os) ⊎ T (p == o)
member-either p o os m = elim (cases_Bool (p == o)) [
  | inl e ↦ inr (holds e)
  | inr e ↦ inl (subst T (member-snoc p o os e) m)
]

once_there : (v : Images) (o : ℕ) (objs : List ℕ) → T (not (is_gone (v o))) → AreThere v objs → AreThere v (once_more o objs)
once_there v o objs live there = go (cases_Bool (member o objs))
  where
    same : (p : ℕ) → T (p == o) → T (not (is_gone (v p)))
    same p t = one (λ x. T (not (is_gone (v x)))) o live p (subst (λ b. T (b || false)) (sym (yes (p == o) t)) tt)
      where
        yes : (b : Bool) → T b → b ≡ true
        yes true t = refl
        yes false t = absurd t

    go : (member o objs ≡ true) ⊎ (member o objs ≡ false) → AreThere v (cond (member o objs) objs (objs ++ o ∷ []))
    go (inl e) = subst (λ b. AreThere v (cond b objs (objs ++ o ∷ []))) (sym e) there
    go (inr e) = subst (λ b. AreThere v (cond b objs (objs ++ o ∷ []))) (sym e) (record {
      apart = distinct-snoc o objs there.apart e;
      live = λ p m. elim (member-either p o objs m) [ inl k ↦ there.live p k | inr k ↦ same p k ];
    })

once_count : (o : ℕ) (objs : List ℕ) → (1 ≤ length (once_more o objs)) × (length (once_more o objs) ≤ length objs + 1)
once_count o objs = go (cases_Bool (member o objs))
  where
    some : (xs : List ℕ) → member o xs ≡ true → 1 ≤ length xs
    some [] e = absurd (subst T (sym e) tt)
    some (x ∷ xs) e = omega arith

    go : (member o objs ≡ true) ⊎ (member o objs ≡ false) → (1 ≤ length (cond (member o objs) objs (objs ++ o ∷ []))) × (length (cond (member o objs) objs (objs ++ o ∷ [])) ≤ length objs + 1)
    go (inl e) = subst (λ b. (1 ≤ length (cond b objs (objs ++ o ∷ []))) × (length (cond b objs (objs ++ o ∷ [])) ≤ length objs + 1)) (sym e) (some objs e, omega arith)
    go (inr e) =
        let more = length_push objs o in
        subst (λ b. (1 ≤ length (cond b objs (objs ++ o ∷ []))) × (length (cond b objs (objs ++ o ∷ [])) ≤ length objs + 1)) (sym e) (omega (arith, more), omega (arith, more))

-- 1 to 8 objects and paths
abbrev AreFew : List ℕ → List Path → Type 0
AreFew objs ps = (1 ≤ length objs + length ps) × (length objs + length ps ≤ 8)

once_few : (o : ℕ) (objs : List ℕ) (p : Path) (ps : List Path) → AreFew objs (p ∷ ps) → AreFew (once_more o objs) ps
once_few o objs p ps (some, few) =
    let (least, most) = once_count o objs in
    (omega (arith, least), omega (arith, most, few))

few_paths : (m : ℕ) (b : Bool) → T (nat_le 1 m && nat_le m 8 && b) → (1 ≤ 0 + m) × (0 + m ≤ 8)
few_paths m b h = (grind arith, grind arith)

module _ (v : Images) where
  order_good : (objs os : List ℕ) → AreThere v objs → IsGood v (AreFew objs []) (issues (Order objs) os)
  order_good objs os there = issues-makes (IsFine v (AreFew objs [])) (Order objs) os (record {
    sound = λ b. both (distinct objs) (nat_le 1 (length objs) && nat_le (length objs) 8) there.apart (both (nat_le 1 (length objs)) (nat_le (length objs) 8) (least (length objs) b.0) (most (length objs) b.1));
    fitting = fits_at v (Order objs) there.live;
  })
    where
      least : (m : ℕ) → 1 ≤ m + 0 → T (nat_le 1 m)
      least m h = grind arith

      most : (m : ℕ) → m + 0 ≤ 8 → T (nat_le m 8)
      most m h = grind arith

  forder_good : (ps : List Path) (objs os : List ℕ) → AreThere v objs → IsGood v (AreFew objs ps) (plain_forder v ps objs os)
  forder_good [] objs os there = order_good objs os there
  forder_good (p ∷ ps) objs os there = go (λ o live. forder_good ps (once_more o objs) (os ++ (walk v p).read) (once_there v o objs live there)) ((walk v p).to) (λ q e. walked-live v root p ((walk v p).read) q (walked v 0 root p q e))
    where
      go : ((o : ℕ) → T (not (is_gone (v o))) → IsGood v (AreFew (once_more o objs) ps) (plain_forder v ps (once_more o objs) (os ++ (walk v p).read))) → (t : Reached) → ((q : ℕ) → t ≡ At q → T (not (is_gone (v q))))
          → IsGood v (AreFew objs (p ∷ ps)) (elim t [ At o ↦ plain_forder v ps (once_more o objs) (os ++ (walk v p).read) | Not r ↦ refuses r (os ++ (walk v p).read) ])
      go later (At o) live = weaker v (AreFew (once_more o objs) ps) (AreFew objs (p ∷ ps)) (plain_forder v ps (once_more o objs) (os ++ (walk v p).read)) (once_few o objs p ps) (later o (live o refl))
      go later (Not r) live = refuses-makes (IsFine v (AreFew objs (p ∷ ps))) r (os ++ (walk v p).read)

-- Each call.

module _ (v : Images) (f : WellFormed v) where
  make_call : (B : Type 0) (k : Kind) (p : Path) (fresh : ℕ) → T (is_gone (v fresh)) → IsGood v B (plain_make v k p fresh)
  make_call B k [] fresh gone = refuses-makes (IsFine v B) no.Root []
  make_call B k (n ∷ ns) fresh gone =
      parent-makes (IsFine v B) v (n ∷ ns) (make_in k (last_of (n ∷ ns)) fresh) (λ d at dir. make_good v B k (last_of (n ∷ ns)) fresh d (walk v (parent_of (n ∷ ns))).read gone (holds dir))

  drop_call : (B : Type 0) (k : Kind) (p : Path) → IsGood v B (plain_drop v k p)
  drop_call B k [] = refuses-makes (IsFine v B) no.Root []
  drop_call B k (n ∷ ns) =
      let above = parent_of (n ∷ ns) in
      entry-makes (IsFine v B) v (n ∷ ns) (drop_in v k (n ∷ ns)) (λ d o os at dir name live. drop_good v f B (n ∷ ns) d o above (walk v above).read os (walked v 0 root above d at) (holds dir) name live k)

  live_at : (p : Path) (o : ℕ) (os : List ℕ) → Walked v root p os o → T (not (is_gone (v o)))
  live_at p o os w = walked-live v root p os o w

  read_good : (B : Type 0) (at count o : ℕ) (os : List ℕ) → IsGood v B (read_in v at count o os)
  read_good B at count o os = unless v B (is_dir (v o)) no.IsDir os (answers (reply.Data (take count (drop at (bytes_of (v o))))) os) (λ a. answers-makes (IsFine v B) (reply.Data (take count (drop at (bytes_of (v o))))) os)

  list_good : (B : Type 0) (p : Path) (o : ℕ) (os : List ℕ) → IsGood v B (list_in v p o os)
  list_good B p o os = cond-makes (IsFine v B) (is_dir (v o)) (answers (reply.Names (map (λ e. e.0) (entries_of (v o)))) os) (refuses (no.NotDir (length p)) os)
      (λ a. answers-makes (IsFine v B) (reply.Names (map (λ e. e.0) (entries_of (v o)))) os) (λ a. refuses-makes (IsFine v B) (no.NotDir (length p)) os)

  -- where renames are known to fit and to be sound
  module _ (renames : (p q : Path) (u : Update) → (plain_rename v p q).update ≡ Some u → (T (is_short q) → T (is_sound u)) × Fits v (u ∷ [])) where
    rename_call : (p q : Path) → IsGood v (T (is_short p && is_short q)) (plain_rename v p q)
    rename_call p q u e = let (sound, fitting) = renames p q u e in record { sound = λ b. sound (right (is_short p) (is_short q) b); fitting = fitting }

    pub call-fine : (cl : Call) (fresh : ℕ) → T (is_gone (v fresh)) → IsGood v (T (is_bounded cl)) (plain v cl fresh)
    call-fine (call.Mkdir p) fresh gone = make_call (T (is_short p)) kind.Dir p fresh gone
    call-fine (call.Create p) fresh gone = make_call (T (is_short p)) kind.File p fresh gone
    call-fine (call.Write p at bytes) fresh gone =
        weaker v (T (nat_le 1 (length bytes) && nat_le (length bytes) 4096)) (T (is_short p && nat_le 1 (length bytes) && nat_le (length bytes) 4096)) (on_reached (walk v p) (write_in v at bytes)) (behind (is_short p) (nat_le 1 (length bytes)) (nat_le (length bytes) 4096))
        (on_walk v (T (nat_le 1 (length bytes) && nat_le (length bytes) 4096)) p (write_in v at bytes) (λ o os w. write_good v at bytes o os (live_at p o os w)))
    call-fine (call.SetLen p len) fresh gone = on_walk v (T (is_short p)) p (len_in v len) (λ o os w. len_good v (T (is_short p)) len o os (live_at p o os w))
    call-fine (call.Read p at count) fresh gone = on_walk v (T (is_short p && nat_le count 4096)) p (read_in v at count) (λ o os w. read_good (T (is_short p && nat_le count 4096)) at count o os)
    call-fine (call.Chmod p mode) fresh gone =
        weaker v (T (nat_le mode 4095)) (T (is_short p && nat_le mode 4095)) (on_reached (walk v p) (λ o os. issues (Mode o mode) os)) (right (is_short p) (nat_le mode 4095))
        (on_walk v (T (nat_le mode 4095)) p (λ o os. issues (Mode o mode) os) (λ o os w. mode_good v mode o os (live_at p o os w)))
    call-fine (call.Touch p stamp) fresh gone = on_walk v (T (is_short p)) p (λ o os. issues (Stamp o stamp) os) (λ o os w. stamp_good v (T (is_short p)) stamp o os (live_at p o os w))
    call-fine (call.Stat p) fresh gone = on_walk v (T (is_short p)) p (λ o os. answers (stat_of (v o)) os) (λ o os w. answers-makes (IsFine v (T (is_short p))) (stat_of (v o)) os)
    call-fine (call.List p) fresh gone = on_walk v (T (is_short p)) p (list_in v p) (λ o os w. list_good (T (is_short p)) p o os)
    call-fine (call.Remove p) fresh gone = drop_call (T (is_short p)) kind.File p
    call-fine (call.Rmdir p) fresh gone = drop_call (T (is_short p)) kind.Dir p
    call-fine (call.Rename p q) fresh gone = rename_call p q
    call-fine (call.Fsync p) fresh gone = on_walk v (T (is_short p)) p (λ o os. answers reply.Ok os) (λ o os w. answers-makes (IsFine v (T (is_short p))) reply.Ok os)
    call-fine (call.Forder ps) fresh gone =
        weaker v (AreFew [] ps) (T (nat_le 1 (length ps) && nat_le (length ps) 8 && list_all is_short ps)) (plain_forder v ps [] []) (few_paths (length ps) (list_all is_short ps)) (forder_good v ps [] [] (record { apart = tt; live = λ o m. absurd m }))
    call-fine call.Sync fresh gone = answers-makes (IsFine v (T true)) reply.Ok []
    call-fine (call.Chown p owner) fresh gone = on_walk v (T (is_short p)) p (λ o os. issues (Owner o owner) os) (λ o os w. owner_good v (T (is_short p)) owner o os (live_at p o os w))
