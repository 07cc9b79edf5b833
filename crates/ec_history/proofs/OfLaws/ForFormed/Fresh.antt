-- A call makes no object but the fresh one, and what is gone stays so until it is made.
use Rattle.std.proofs.Common.{◌≡◌, refl, sym, ap, subst, ℕ, T, Bool, true, false, not, ◌==◌, ◌&&◌, ◌||◌, cond, List, [], ◌∷◌, ◌++◌, eqb, eqb→eq, Option, Some, None}
use Rattle.std.specs.Prelude.{map, length, ◌+◌, ◌-◌, nat_le, nat_lt, is_some, take, drop}
use Rattle.ec_volume.specs.Entries.{Entries, entry}
use Rattle.ec_volume.specs.Image.{entries_of, bytes_of, is_gone, is_dir, is_id, new_object}
use Rattle.ec_volume.specs.Update.{Above, has_operand}
use Rattle.ec_volume.specs.Volume.{Images, image_next}
use Rattle.ec_volume.specs.declared.image.Image.{Image}
use Rattle.ec_volume.specs.declared.image.Image.TheVariants.{Gone, File, Dir}
use Rattle.ec_volume.specs.declared.image.Kind.{Kind}
use Rattle.ec_volume.specs.declared.image.Kind.TheVariants as kind
use Rattle.ec_volume.specs.declared.update.Update.{Update}
use Rattle.ec_volume.specs.declared.update.Update.TheVariants.{Make, Drop, Move, Put, Len, Mode, Stamp, Order, Shift, Owner}
use Rattle.ec_plain.specs.Walk.{Path, Reached, At, Not, walk, parent_of, last_of, same_path}
use Rattle.ec_plain.specs.Plain.{on_reached, answers, refuses, issues, plain, plain_make, plain_drop, plain_rename, plain_forder, once_more, blocked, kind_of, make_in, drop_in, above, renames, move_into, loops, rename_in, write_in, len_in, read_in, list_in, stat_of}
use Rattle.ec_plain.specs.declared.call.Call.{Call}
use Rattle.ec_plain.specs.declared.call.Call.TheVariants as call
use Rattle.ec_plain.specs.declared.call.Reply.{Reply}
use Rattle.ec_plain.specs.declared.call.Reply.TheVariants as reply
use Rattle.ec_plain.specs.declared.call.Refusal.{Refusal}
use Rattle.ec_plain.specs.declared.call.Refusal.TheVariants as no
use Rattle.ec_plain.specs.declared.call.Outcome.{Outcome}
use Rattle.ec_history.proofs.OfLaws.ForFormed.Makes.{Makes, answers-makes, refuses-makes, issues-makes, cond-makes, reached-makes, parent-makes, entry-makes}
use Rattle.ec_base.proofs.Bools.{on as holds}

-- the object that an update makes
abbrev pub makes : Update → Option ℕ
makes (Make dir name obj k) = Some obj
makes (Drop dir name obj k) = None
makes (Move dir from to obj k victim) = None
makes (Put obj at bytes inside) = None
makes (Len obj len) = None
makes (Mode obj mode) = None
makes (Stamp obj stamp) = None
makes (Order objs) = None
makes (Shift dir from into to obj k victim up) = None
makes (Owner obj owner) = None

gone-of : (i : Image) → T (is_gone i) → i ≡ Gone
gone-of Gone h = refl
gone-of (File m s w bs) h = absurd h
gone-of (Dir m s w es) h = absurd h

-- What is gone stays so under an update that doesn't make it.
cond-gone : (b : Bool) (i : Image) → T (is_gone i) → T (is_gone (cond b i Gone))
cond-gone true i h = h
cond-gone false i h = tt

gone-next : (o : ℕ) (u : Update) → (makes u ≡ Some o → ⊥) → T (is_gone (image_next o Gone u))
gone-next o (Make dir name obj k) n = go (eqb o dir) (eqb o obj) refl
  where
    go : (a b : Bool) → eqb o obj ≡ b → T (is_gone (cond (a || (b || false)) (cond a Gone (new_object k)) Gone))
    go true b e = tt
    go false true e = absurd (n (ap Some (sym (eqb→eq o obj (holds e)))))
    go false false e = tt
gone-next o (Drop dir name obj k) n = go (has_operand o (Drop dir name obj k)) (eqb o dir)
  where
    go : (a b : Bool) → T (is_gone (cond a (cond b Gone Gone) Gone))
    go true true = tt
    go true false = tt
    go false b = tt
gone-next o (Move dir from to obj k victim) n = go (has_operand o (Move dir from to obj k victim)) (eqb o dir) (eqb o obj)
  where
    go : (a b d : Bool) → T (is_gone (cond a (cond b Gone (cond d Gone Gone)) Gone))
    go true true d = tt
    go true false true = tt
    go true false false = tt
    go false b d = tt
gone-next o (Put obj at bytes inside) n = cond-gone (has_operand o (Put obj at bytes inside)) Gone tt
gone-next o (Len obj len) n = cond-gone (has_operand o (Len obj len)) Gone tt
gone-next o (Mode obj mode) n = cond-gone (has_operand o (Mode obj mode)) Gone tt
gone-next o (Stamp obj stamp) n = cond-gone (has_operand o (Stamp obj stamp)) Gone tt
gone-next o (Order objs) n = cond-gone (has_operand o (Order objs)) Gone tt
gone-next o (Shift dir from into to obj k victim up) n = go (has_operand o (Shift dir from into to obj k victim up)) (eqb o dir) (eqb o into) (is_id o victim)
  where
    go : (a b d e : Bool) → T (is_gone (cond a (cond b Gone (cond d Gone (cond e Gone Gone))) Gone))
    go true true d e = tt
    go true false true e = tt
    go true false false true = tt
    go true false false false = tt
    go false b d e = tt
gone-next o (Owner obj owner) n = cond-gone (has_operand o (Owner obj owner)) Gone tt

pub gone-stays : (o : ℕ) (i : Image) (u : Update) → T (is_gone i) → (makes u ≡ Some o → ⊥) → T (is_gone (image_next o i u))
gone-stays o i u h n = subst (λ j. T (is_gone (image_next o j u))) (sym (gone-of i h)) (gone-next o u n)

-- The update of a call.
module _ (fresh : ℕ) where
  abbrev pub IsFresh : Update → Type 0
  IsFresh u = (o : ℕ) → makes u ≡ Some o → o ≡ fresh

  abbrev pub OnlyFresh : Outcome → Type 0
  OnlyFresh out = Makes IsFresh out

  by-refusal : (r : Refusal) (os : List ℕ) → OnlyFresh (refuses r os)
  by-refusal r os = refuses-makes IsFresh r os

  by-answer : (r : Reply) (os : List ℕ) → OnlyFresh (answers r os)
  by-answer r os = answers-makes IsFresh r os

  by-issue : (w : Update) (os : List ℕ) → IsFresh w → OnlyFresh (issues w os)
  by-issue w os h = issues-makes IsFresh w os h

  no-make : (o : ℕ) → ◌≡◌ {A = Option ℕ} None (Some o) → o ≡ fresh
  no-make o e = cc

  by-cond : (b : Bool) (x y : Outcome) → OnlyFresh x → OnlyFresh y → OnlyFresh (cond b x y)
  by-cond b x y p q = cond-makes IsFresh b x y (λ e. p) (λ e. q)

  module _ (v : Images) where
    by-walk : (p : Path) (f : ℕ → List ℕ → Outcome) → ((o : ℕ) (os : List ℕ) → OnlyFresh (f o os)) → OnlyFresh (on_reached (walk v p) f)
    by-walk p f h = reached-makes IsFresh v p f (λ o at. h o (walk v p).read)

    made_in : (k : Kind) (n : List ℕ) (d : ℕ) (es : Entries) (os : List ℕ) → OnlyFresh (make_in k n fresh d es os)
    made_in k n d es os =
        by-cond (is_some (entry es n)) (refuses no.Exists os) (cond (nat_le 128 (length es)) (refuses no.DirFull os) (issues (Make d n fresh k) (os ++ fresh ∷ []))) (by-refusal no.Exists os)
        (by-cond (nat_le 128 (length es)) (refuses no.DirFull os) (issues (Make d n fresh k) (os ++ fresh ∷ [])) (by-refusal no.DirFull os)
        (by-issue (Make d n fresh k) (os ++ fresh ∷ []) (λ o e. sym (same fresh o e))))
      where
        same : (a b : ℕ) → Some a ≡ Some b → a ≡ b
        same a b e = cc

    by-make : (k : Kind) (p : Path) → OnlyFresh (plain_make v k p fresh)
    by-make k [] = by-refusal no.Root []
    by-make k (n ∷ ns) = parent-makes IsFresh v (n ∷ ns) (make_in k (last_of (n ∷ ns)) fresh) (λ d at dir. made_in k (last_of (n ∷ ns)) d (entries_of (v d)) (walk v (parent_of (n ∷ ns))).read)

    by-drop-in : (k : Kind) (p : Path) (d : ℕ) (es : Entries) (o : ℕ) (os : List ℕ) → OnlyFresh (drop_in v k p d es o os)
    by-drop-in kind.File p d es o os =
        by-cond (is_dir (v o)) (refuses no.IsDir os) (issues (Drop d (last_of p) o kind.File) os) (by-refusal no.IsDir os) (by-issue (Drop d (last_of p) o kind.File) os no-make)
    by-drop-in kind.Dir p d es o os =
        by-cond (not (is_dir (v o))) (refuses (no.NotDir (length p)) os) (cond (nat_lt 0 (length (entries_of (v o)))) (refuses no.NotEmpty os) (issues (Drop d (last_of p) o kind.Dir) os)) (by-refusal (no.NotDir (length p)) os)
        (by-cond (nat_lt 0 (length (entries_of (v o)))) (refuses no.NotEmpty os) (issues (Drop d (last_of p) o kind.Dir) os) (by-refusal no.NotEmpty os) (by-issue (Drop d (last_of p) o kind.Dir) os no-make))

    by-drop : (k : Kind) (p : Path) → OnlyFresh (plain_drop v k p)
    by-drop k [] = by-refusal no.Root []
    by-drop k (n ∷ ns) = entry-makes IsFresh v (n ∷ ns) (drop_in v k (n ∷ ns)) (λ d o os at dir named live. by-drop-in k (n ∷ ns) d (entries_of (v d)) o os)

    by-renames : (d : ℕ) (from : List ℕ) (e : ℕ) (to : List ℕ) (o : ℕ) (k : Kind) (victim : Option ℕ) (up : Above) (os : List ℕ) → OnlyFresh (renames d from e to o k victim up os)
    by-renames d from e to o k victim up os =
        by-cond (d == e) (issues (Move d from to o k victim) os) (issues (Shift d from e to o k victim up) os) (by-issue (Move d from to o k victim) os no-make) (by-issue (Shift d from e to o k victim up) os no-make)

    by-move : (p q : Path) (d o e : ℕ) (fs : Entries) (ps os : List ℕ) → OnlyFresh (move_into v p q d o e fs ps os)
    by-move p q d o e fs ps os = go (entry fs (last_of q))
      where
        taken : (t : ℕ) (x : Option Refusal) → OnlyFresh (elim x [ Some r ↦ refuses r (os ++ t ∷ []) | None ↦ renames d (last_of p) e (last_of q) o (kind_of (v o)) (Some t) (above (kind_of (v o)) ps (parent_of q)) (os ++ t ∷ []) ])
        taken t (Some r) = by-refusal r (os ++ t ∷ [])
        taken t None = by-renames d (last_of p) e (last_of q) o (kind_of (v o)) (Some t) (above (kind_of (v o)) ps (parent_of q)) (os ++ t ∷ [])

        go : (x : Option ℕ) → OnlyFresh (elim x [
          | None ↦ cond (not (d == e) && nat_le 128 (length fs)) (refuses no.DirFull os) (renames d (last_of p) e (last_of q) o (kind_of (v o)) None (above (kind_of (v o)) ps (parent_of q)) os)
          | Some t ↦ elim (blocked (kind_of (v o)) (v t) (length q)) [
            | Some r ↦ refuses r (os ++ t ∷ [])
            | None ↦ renames d (last_of p) e (last_of q) o (kind_of (v o)) (Some t) (above (kind_of (v o)) ps (parent_of q)) (os ++ t ∷ [])
          ]
        ])
        go None =
            by-cond (not (d == e) && nat_le 128 (length fs)) (refuses no.DirFull os) (renames d (last_of p) e (last_of q) o (kind_of (v o)) None (above (kind_of (v o)) ps (parent_of q)) os)
            (by-refusal no.DirFull os) (by-renames d (last_of p) e (last_of q) o (kind_of (v o)) None (above (kind_of (v o)) ps (parent_of q)) os)
        go (Some t) = taken t (blocked (kind_of (v o)) (v t) (length q))

    abbrev behind : (p q : Path) (d o : ℕ) (os read : List ℕ) → Reached → Outcome
    behind p q d o os read (Not r) = refuses r (os ++ read)
    behind p q d o os read (At e) =
        cond (not (is_dir (v e))) (refuses (no.NotDir (length q - 1)) (os ++ read)) (cond (loops v o read) (refuses no.Loop (os ++ read)) (move_into v p q d o e (entries_of (v e)) read (os ++ read)))

    by-behind : (p q : Path) (d o : ℕ) (os read : List ℕ) (r : Reached) → OnlyFresh (behind p q d o os read r)
    by-behind p q d o os read (Not r) = by-refusal r (os ++ read)
    by-behind p q d o os read (At e) =
        by-cond (not (is_dir (v e))) (refuses (no.NotDir (length q - 1)) (os ++ read)) (cond (loops v o read) (refuses no.Loop (os ++ read)) (move_into v p q d o e (entries_of (v e)) read (os ++ read)))
        (by-refusal (no.NotDir (length q - 1)) (os ++ read))
        (by-cond (loops v o read) (refuses no.Loop (os ++ read)) (move_into v p q d o e (entries_of (v e)) read (os ++ read)) (by-refusal no.Loop (os ++ read))
        (by-move p q d o e (entries_of (v e)) read (os ++ read)))

    by-rename-in : (p q : Path) (d : ℕ) (es : Entries) (o : ℕ) (os : List ℕ) → OnlyFresh (rename_in v p q d es o os)
    by-rename-in p q d es o os =
        by-cond (same_path p q) (answers reply.Ok os) (behind p q d o os (walk v (parent_of q)).read (walk v (parent_of q)).to) (by-answer reply.Ok os)
        (by-behind p q d o os (walk v (parent_of q)).read (walk v (parent_of q)).to)

    by-rename : (p q : Path) → OnlyFresh (plain_rename v p q)
    by-rename [] q = by-refusal no.Root []
    by-rename (a ∷ as') [] = by-refusal no.Root []
    by-rename (a ∷ as') (b ∷ bs) = entry-makes IsFresh v (a ∷ as') (rename_in v (a ∷ as') (b ∷ bs)) (λ d o os at dir named live. by-rename-in (a ∷ as') (b ∷ bs) d (entries_of (v d)) o os)

    by-forder : (ps : List Path) (objs os : List ℕ) → OnlyFresh (plain_forder v ps objs os)
    by-forder [] objs os = by-issue (Order objs) os no-make
    by-forder (p ∷ ps) objs os =
        elim ((walk v p).to) as (λ r. OnlyFresh (elim r [ At o ↦ plain_forder v ps (once_more o objs) (os ++ (walk v p).read) | Not x ↦ refuses x (os ++ (walk v p).read) ])) [
          | At o ↦ by-forder ps (once_more o objs) (os ++ (walk v p).read)
          | Not x ↦ by-refusal x (os ++ (walk v p).read)
        ]

    by-write : (at : ℕ) (bytes : List ℕ) (o : ℕ) (os : List ℕ) → OnlyFresh (write_in v at bytes o os)
    by-write at bytes o os =
        by-cond (is_dir (v o)) (refuses no.IsDir os) (cond (nat_lt 65536 (at + length bytes)) (refuses no.TooLong os) (issues (Put o at bytes (nat_le (at + length bytes) (length (bytes_of (v o))))) os)) (by-refusal no.IsDir os)
        (by-cond (nat_lt 65536 (at + length bytes)) (refuses no.TooLong os) (issues (Put o at bytes (nat_le (at + length bytes) (length (bytes_of (v o))))) os) (by-refusal no.TooLong os)
        (by-issue (Put o at bytes (nat_le (at + length bytes) (length (bytes_of (v o))))) os no-make))

    by-len : (len o : ℕ) (os : List ℕ) → OnlyFresh (len_in v len o os)
    by-len len o os =
        by-cond (is_dir (v o)) (refuses no.IsDir os) (cond (nat_lt 65536 len) (refuses no.TooLong os) (issues (Len o len) os)) (by-refusal no.IsDir os)
        (by-cond (nat_lt 65536 len) (refuses no.TooLong os) (issues (Len o len) os) (by-refusal no.TooLong os) (by-issue (Len o len) os no-make))

    pub plain-makes : (cl : Call) → OnlyFresh (plain v cl fresh)
    plain-makes (call.Mkdir p) = by-make kind.Dir p
    plain-makes (call.Create p) = by-make kind.File p
    plain-makes (call.Write p at bytes) = by-walk p (write_in v at bytes) (by-write at bytes)
    plain-makes (call.SetLen p len) = by-walk p (len_in v len) (by-len len)
    plain-makes (call.Read p at count) = by-walk p (read_in v at count) (λ o os.
        by-cond (is_dir (v o)) (refuses no.IsDir os) (answers (reply.Data (take count (drop at (bytes_of (v o))))) os) (by-refusal no.IsDir os) (by-answer (reply.Data (take count (drop at (bytes_of (v o))))) os))
    plain-makes (call.Chmod p mode) = by-walk p (λ o os. issues (Mode o mode) os) (λ o os. by-issue (Mode o mode) os no-make)
    plain-makes (call.Touch p stamp) = by-walk p (λ o os. issues (Stamp o stamp) os) (λ o os. by-issue (Stamp o stamp) os no-make)
    plain-makes (call.Stat p) = by-walk p (λ o os. answers (stat_of (v o)) os) (λ o os. by-answer (stat_of (v o)) os)
    plain-makes (call.List p) = by-walk p (list_in v p) (λ o os.
        by-cond (is_dir (v o)) (answers (reply.Names (map (λ e. e.0) (entries_of (v o)))) os) (refuses (no.NotDir (length p)) os) (by-answer (reply.Names (map (λ e. e.0) (entries_of (v o)))) os) (by-refusal (no.NotDir (length p)) os))
    plain-makes (call.Remove p) = by-drop kind.File p
    plain-makes (call.Rmdir p) = by-drop kind.Dir p
    plain-makes (call.Rename p q) = by-rename p q
    plain-makes (call.Fsync p) = by-walk p (λ o os. answers reply.Ok os) (λ o os. by-answer reply.Ok os)
    plain-makes (call.Forder ps) = by-forder ps [] []
    plain-makes call.Sync = by-answer reply.Ok []
    plain-makes (call.Chown p owner) = by-walk p (λ o os. issues (Owner o owner) os) (λ o os. by-issue (Owner o owner) os no-make)
