-- What a call touches: the root, what entries name, and its fresh id.
use Rattle.std.proofs.Common.{◌≡◌, refl, subst, ◌+◌, ◌-◌, ℕ, Bool, true, false, not, ◌==◌, ◌&&◌, cond, List, [], ◌∷◌, ◌++◌, length, take, drop, map}
use Rattle.std.specs.Prelude.{Option, None, Some, is_some, nat_le, nat_lt}
use Rattle.ec_volume.specs.Entries.{Entries, entry}
use Rattle.ec_volume.specs.Image.{bytes_of, entries_of, is_dir, is_gone}
use Rattle.ec_volume.specs.Limits.{max_entries, max_file_bytes}
use Rattle.ec_volume.specs.Update.{Above, root}
use Rattle.ec_volume.specs.Volume.{Images}
use Rattle.ec_volume.specs.declared.image.Image.{Image}
use Rattle.ec_volume.specs.declared.image.Image.TheVariants.{Gone, File, Dir}
use Rattle.ec_volume.specs.declared.image.Kind.{Kind}
use Rattle.ec_volume.specs.declared.image.Kind.TheVariants as kind
use Rattle.ec_volume.specs.declared.update.Update.TheVariants.{Make, Drop, Move, Put, Len, Mode, Stamp, Shift, Owner}
use Rattle.ec_history.specs.History.{Each}
use Rattle.ec_plain.specs.Walk.{At, Not, Path, Reached, Walk, last_of, parent_of, same_path, stop, walk, walk_from}
use Rattle.ec_plain.specs.Plain.{above, answers, blocked, drop_in, issues, kind_of, len_in, list_in, loops, make_in, move_into, on_entry, on_parent, on_reached, once_more, plain, plain_drop, plain_forder, plain_make, plain_rename, read_in, refuses, rename_in, renames, stat_of, write_in}
use Rattle.ec_plain.specs.declared.call.Call.{Call}
use Rattle.ec_plain.specs.declared.call.Call.TheVariants as call
use Rattle.ec_plain.specs.declared.call.Outcome.{Outcome}
use Rattle.ec_plain.specs.declared.call.Refusal.{Refusal}
use Rattle.ec_plain.specs.declared.call.Refusal.TheVariants as no
use Rattle.ec_plain.specs.declared.call.Reply.TheVariants as reply
use Rattle.ec_coherence.proofs.ForServer.Lists.{each-more}
use Rattle.ec_lawful.proofs.OfClerkSteps.ForDoings.Entries.{In, Of, entry-in}

module _ (P : ℕ → Type 0) (v : Images) (is-root : P root) (names : (o : ℕ) → Of P (v o)) where
  not-at : (r : Refusal) (q : ℕ) → Not r ≡ At q → ⊥
  not-at r q e = absurd (cc)

  same-at : (o q : ℕ) → At o ≡ At q → o ≡ q
  same-at o q e = cc

  -- a walk reads such objects, and comes to one
  abbrev Goes : Walk → Type 0
  Goes w = Each P w.read × ((q : ℕ) → w.to ≡ At q → P q)

  abbrev entry-step : ℕ → Path → Option ℕ → Walk
  entry-step i ns None = stop (Not (no.NotFound (i + 1)))
  entry-step i ns (Some p) = walk_from v (i + 1) p ns

  abbrev image-step : ℕ → List ℕ → Path → Image → Walk
  image-step i n ns Gone = stop (Not (no.NotFound i))
  image-step i n ns (File m s w bs) = stop (Not (no.NotDir i))
  image-step i n ns (Dir m s w es) = entry-step i ns (entry es n)

  walk-goes : (i o : ℕ) (p : Path) → P o → Goes (walk_from v i o p)
  walk-goes i o [] h = ((h, tt), λ q. elim (is_gone (v o)) as (λ b. cond b (Not (no.NotFound i)) (At o) ≡ At q → P q) [ true ↦ λ e. absurd (not-at (no.NotFound i) q e) | false ↦ λ e. subst P (same-at o q e) h ])
  walk-goes i o (n ∷ ns) h = let r = go (v o) (names o) (λ p k. walk-goes (i + 1) p ns k) in ((h, r.0), r.1)
    where
      by-entry : (es : Entries) (x : Option ℕ) → entry es n ≡ x → In P es → ((p : ℕ) → P p → Goes (walk_from v (i + 1) p ns)) → Goes (entry-step i ns x)
      by-entry es None e k f = (tt, λ q z. absurd (not-at (no.NotFound (i + 1)) q z))
      by-entry es (Some p) e k f = f p (entry-in P es n p e k)

      go : (im : Image) → Of P im → ((p : ℕ) → P p → Goes (walk_from v (i + 1) p ns)) → Goes (image-step i n ns im)
      go Gone k f = (tt, λ q z. absurd (not-at (no.NotFound i) q z))
      go (File m s w bs) k f = (tt, λ q z. absurd (not-at (no.NotDir i) q z))
      go (Dir m s w es) k f = by-entry es (entry es n) refl k f

  root-goes : (p : Path) → Goes (walk v p)
  root-goes p = walk-goes 0 root p is-root

  abbrev On : Outcome → Type 0
  On out = Each P out.touched

  choose : (b : Bool) (x y : Outcome) → On x → On y → On (cond b x y)
  choose true x y p q = p
  choose false x y p q = q

  more : (xs : List ℕ) (x : ℕ) → Each P xs → P x → Each P (xs ++ x ∷ [])
  more xs x h p = each-more P xs (x ∷ []) h (p, tt)

  reached-on : (w : Walk) (f : ℕ → List ℕ → Outcome) → Goes w → ((o : ℕ) → P o → On (f o w.read)) → On (on_reached w f)
  reached-on w f g h = go w.to refl
    where
      go : (r : Reached) → w.to ≡ r → On (elim r as (λ z. Outcome) [ At o ↦ f o w.read | Not x ↦ refuses x w.read ])
      go (At o) e = h o (g.1 o e)
      go (Not x) e = g.0

  parent-on : (p : Path) (f : ℕ → Entries → List ℕ → Outcome) → ((d : ℕ) (xs : List ℕ) → P d → Each P xs → On (f d (entries_of (v d)) xs)) → On (on_parent v p f)
  parent-on p f h = let w = walk v (parent_of p) in let g = root-goes (parent_of p) in
      reached-on w (λ d xs. cond (is_dir (v d)) (f d (entries_of (v d)) xs) (refuses (no.NotDir (length p - 1)) xs)) g (λ d k. choose (is_dir (v d)) (f d (entries_of (v d)) w.read) (refuses (no.NotDir (length p - 1)) w.read) (h d w.read k g.0) g.0)

  entry-on : (p : Path) (f : ℕ → Entries → ℕ → List ℕ → Outcome) → ((d o : ℕ) (xs : List ℕ) → P d → P o → Each P xs → On (f d (entries_of (v d)) o xs)) → On (on_entry v p f)
  entry-on p f h = parent-on p (λ d es xs. elim (entry es (last_of p)) as (λ z. Outcome) [ None ↦ refuses (no.NotFound (length p)) xs | Some o ↦ cond (is_gone (v o)) (refuses (no.NotFound (length p)) (xs ++ o ∷ [])) (f d es o (xs ++ o ∷ [])) ]) (λ d xs k l. go d xs k l (entry (entries_of (v d)) (last_of p)) refl)
    where
      go : (d : ℕ) (xs : List ℕ) → P d → Each P xs → (x : Option ℕ) → entry (entries_of (v d)) (last_of p) ≡ x
          → On (elim x as (λ z. Outcome) [ None ↦ refuses (no.NotFound (length p)) xs | Some o ↦ cond (is_gone (v o)) (refuses (no.NotFound (length p)) (xs ++ o ∷ [])) (f d (entries_of (v d)) o (xs ++ o ∷ [])) ])
      go d xs k l None e = l
      go d xs k l (Some o) e =
          let q = entry-in P (entries_of (v d)) (last_of p) o e (names d) in
          let r = more xs o l q in
          choose (is_gone (v o)) (refuses (no.NotFound (length p)) (xs ++ o ∷ [])) (f d (entries_of (v d)) o (xs ++ o ∷ [])) r (h d o (xs ++ o ∷ []) k q r)

  make-on : (k : Kind) (p : Path) (fresh : ℕ) → P fresh → On (plain_make v k p fresh)
  make-on k [] fresh q = tt
  make-on k (n ∷ ns) fresh q = parent-on (n ∷ ns) (make_in k (last_of (n ∷ ns)) fresh) (λ d xs h l.
      choose (is_some (entry (entries_of (v d)) (last_of (n ∷ ns)))) (refuses no.Exists xs) (cond (nat_le max_entries (length (entries_of (v d)))) (refuses no.DirFull xs) (issues (Make d (last_of (n ∷ ns)) fresh k) (xs ++ fresh ∷ []))) l
      (choose (nat_le max_entries (length (entries_of (v d)))) (refuses no.DirFull xs) (issues (Make d (last_of (n ∷ ns)) fresh k) (xs ++ fresh ∷ [])) l (more xs fresh l q)))

  drop-in-on : (k : Kind) (p : Path) (d : ℕ) (es : Entries) (o : ℕ) (xs : List ℕ) → Each P xs → On (drop_in v k p d es o xs)
  drop-in-on kind.File p d es o xs l = choose (is_dir (v o)) (refuses no.IsDir xs) (issues (Drop d (last_of p) o kind.File) xs) l l
  drop-in-on kind.Dir p d es o xs l = choose (not (is_dir (v o))) (refuses (no.NotDir (length p)) xs) (cond (nat_lt 0 (length (entries_of (v o)))) (refuses no.NotEmpty xs) (issues (Drop d (last_of p) o kind.Dir) xs)) l
      (choose (nat_lt 0 (length (entries_of (v o)))) (refuses no.NotEmpty xs) (issues (Drop d (last_of p) o kind.Dir) xs) l l)

  drop-on : (k : Kind) (p : Path) → On (plain_drop v k p)
  drop-on k [] = tt
  drop-on k (n ∷ ns) = entry-on (n ∷ ns) (drop_in v k (n ∷ ns)) (λ d o xs h q l. drop-in-on k (n ∷ ns) d (entries_of (v d)) o xs l)

  renames-on : (d : ℕ) (from : List ℕ) (into : ℕ) (to : List ℕ) (o : ℕ) (k : Kind) (victim : Option ℕ) (up : Above) (xs : List ℕ) → Each P xs → On (renames d from into to o k victim up xs)
  renames-on d from into to o k victim up xs l = choose (d == into) (issues (Move d from to o k victim) xs) (issues (Shift d from into to o k victim up) xs) l l

  module _ (p t : Path) (d o into : ℕ) (passed xs : List ℕ) (l : Each P xs) where
    abbrev es : Entries
    es = entries_of (v into)

    abbrev k : Kind
    k = kind_of (v o)

    abbrev up : Above
    up = above k passed (parent_of t)

    by-victim : (x : ℕ) → P x → (r : Option Refusal) → On (elim r as (λ z. Outcome) [ Some r ↦ refuses r (xs ++ x ∷ []) | None ↦ renames d (last_of p) into (last_of t) o k (Some x) up (xs ++ x ∷ []) ])
    by-victim x q (Some r) = more xs x l q
    by-victim x q None = renames-on d (last_of p) into (last_of t) o k (Some x) up (xs ++ x ∷ []) (more xs x l q)

    move-on : On (move_into v p t d o into (entries_of (v into)) passed xs)
    move-on = go (entry es (last_of t)) refl
      where
        go : (x : Option ℕ) → entry es (last_of t) ≡ x → On (elim x as (λ z. Outcome) [
          | None ↦ cond (not (d == into) && nat_le max_entries (length es)) (refuses no.DirFull xs) (renames d (last_of p) into (last_of t) o k None up xs)
          | Some victim ↦ elim (blocked k (v victim) (length t)) as (λ z. Outcome) [ Some r ↦ refuses r (xs ++ victim ∷ []) | None ↦ renames d (last_of p) into (last_of t) o k (Some victim) up (xs ++ victim ∷ []) ]
        ])
        go None e = choose (not (d == into) && nat_le max_entries (length es)) (refuses no.DirFull xs) (renames d (last_of p) into (last_of t) o k None up xs) l (renames-on d (last_of p) into (last_of t) o k None up xs l)
        go (Some x) e = by-victim x (entry-in P es (last_of t) x e (names into)) (blocked k (v x) (length t))

  module _ (p t : Path) (d : ℕ) (es : Entries) (o : ℕ) (xs : List ℕ) (l : Each P xs) where
    abbrev w : Walk
    w = walk v (parent_of t)

    g : Goes w
    g = root-goes (parent_of t)

    both : Each P (xs ++ w.read)
    both = each-more P xs w.read l g.0

    abbrev rest : Reached → Outcome
    rest (Not r) = refuses r (xs ++ w.read)
    rest (At into) = cond (not (is_dir (v into))) (refuses (no.NotDir (length t - 1)) (xs ++ w.read)) (cond (loops v o w.read) (refuses no.Loop (xs ++ w.read)) (move_into v p t d o into (entries_of (v into)) w.read (xs ++ w.read)))

    rest-on : (r : Reached) → On (rest r)
    rest-on (Not r) = both
    rest-on (At into) = choose (not (is_dir (v into))) (refuses (no.NotDir (length t - 1)) (xs ++ w.read)) (cond (loops v o w.read) (refuses no.Loop (xs ++ w.read)) (move_into v p t d o into (entries_of (v into)) w.read (xs ++ w.read))) both
        (choose (loops v o w.read) (refuses no.Loop (xs ++ w.read)) (move_into v p t d o into (entries_of (v into)) w.read (xs ++ w.read)) both (move-on p t d o into w.read (xs ++ w.read) both))

    rename-in-on : On (rename_in v p t d es o xs)
    rename-in-on = go (same_path p t)
      where
        go : (b : Bool) → On (cond b (answers reply.Ok xs) (rest w.to))
        go true = l
        go false = rest-on w.to

  rename-on : (p t : Path) → On (plain_rename v p t)
  rename-on [] t = tt
  rename-on (n ∷ ns) [] = tt
  rename-on (n ∷ ns) (m ∷ ms) = entry-on (n ∷ ns) (rename_in v (n ∷ ns) (m ∷ ms)) (λ d o xs h q l. rename-in-on (n ∷ ns) (m ∷ ms) d (entries_of (v d)) o xs l)

  forder-on : (ps : List Path) (objs xs : List ℕ) → Each P xs → On (plain_forder v ps objs xs)
  forder-on [] objs xs l = l
  forder-on (p ∷ ps) objs xs l = go (walk v p).to (λ o k. forder-on ps (once_more o objs) (xs ++ (walk v p).read) k)
    where
      both : Each P (xs ++ (walk v p).read)
      both = each-more P xs (walk v p).read l (root-goes p).0

      go : (r : Reached) → ((o : ℕ) → Each P (xs ++ (walk v p).read) → On (plain_forder v ps (once_more o objs) (xs ++ (walk v p).read)))
          → On (elim r as (λ z. Outcome) [ At o ↦ plain_forder v ps (once_more o objs) (xs ++ (walk v p).read) | Not x ↦ refuses x (xs ++ (walk v p).read) ])
      go (At o) f = f o both
      go (Not x) f = both

  pub touched-on : (cl : Call) (fresh : ℕ) → P fresh → On (plain v cl fresh)
  touched-on (call.Mkdir p) fresh q = make-on kind.Dir p fresh q
  touched-on (call.Create p) fresh q = make-on kind.File p fresh q
  touched-on (call.Write p at bytes) fresh q = let xs = (walk v p).read in let l = (root-goes p).0 in reached-on (walk v p) (write_in v at bytes) (root-goes p) (λ o k.
      choose (is_dir (v o)) (refuses no.IsDir xs) (cond (nat_lt max_file_bytes (at + length bytes)) (refuses no.TooLong xs) (issues (Put o at bytes (nat_le (at + length bytes) (length (bytes_of (v o))))) xs)) l
      (choose (nat_lt max_file_bytes (at + length bytes)) (refuses no.TooLong xs) (issues (Put o at bytes (nat_le (at + length bytes) (length (bytes_of (v o))))) xs) l l))
  touched-on (call.SetLen p len) fresh q = let xs = (walk v p).read in let l = (root-goes p).0 in reached-on (walk v p) (len_in v len) (root-goes p) (λ o k.
      choose (is_dir (v o)) (refuses no.IsDir xs) (cond (nat_lt max_file_bytes len) (refuses no.TooLong xs) (issues (Len o len) xs)) l (choose (nat_lt max_file_bytes len) (refuses no.TooLong xs) (issues (Len o len) xs) l l))
  touched-on (call.Read p at count) fresh q = let xs = (walk v p).read in let l = (root-goes p).0 in reached-on (walk v p) (read_in v at count) (root-goes p) (λ o k.
      choose (is_dir (v o)) (refuses no.IsDir xs) (answers (reply.Data (take count (drop at (bytes_of (v o))))) xs) l l)
  touched-on (call.Chmod p mode) fresh q = reached-on (walk v p) (λ o xs. issues (Mode o mode) xs) (root-goes p) (λ o k. (root-goes p).0)
  touched-on (call.Touch p stamp) fresh q = reached-on (walk v p) (λ o xs. issues (Stamp o stamp) xs) (root-goes p) (λ o k. (root-goes p).0)
  touched-on (call.Stat p) fresh q = reached-on (walk v p) (λ o xs. answers (stat_of (v o)) xs) (root-goes p) (λ o k. (root-goes p).0)
  touched-on (call.List p) fresh q = let xs = (walk v p).read in let l = (root-goes p).0 in reached-on (walk v p) (list_in v p) (root-goes p) (λ o k.
      choose (is_dir (v o)) (answers (reply.Names (map (λ e. e.0) (entries_of (v o)))) xs) (refuses (no.NotDir (length p)) xs) l l)
  touched-on (call.Remove p) fresh q = drop-on kind.File p
  touched-on (call.Rmdir p) fresh q = drop-on kind.Dir p
  touched-on (call.Rename p t) fresh q = rename-on p t
  touched-on (call.Fsync p) fresh q = reached-on (walk v p) (λ o xs. answers reply.Ok xs) (root-goes p) (λ o k. (root-goes p).0)
  touched-on (call.Forder ps) fresh q = forder-on ps [] [] tt
  touched-on call.Sync fresh q = tt
  touched-on (call.Chown p owner) fresh q = reached-on (walk v p) (λ o xs. issues (Owner o owner) xs) (root-goes p) (λ o k. (root-goes p).0)
