-- A call that is refused has no update.
use Rattle.std.proofs.Common.{◌≡◌, ℕ, Bool, true, false, not, ◌==◌, ◌&&◌, cond, List, [], ◌∷◌, ◌++◌, Option, Some, None, refl}
use Rattle.std.specs.Prelude.{map, length, ◌+◌, ◌-◌, nat_le, nat_lt, is_some, take, drop}
use Rattle.ec_volume.specs.Entries.{Entries, entry}
use Rattle.ec_volume.specs.Image.{entries_of, bytes_of, is_gone, is_dir}
use Rattle.ec_volume.specs.Update.{Above}
use Rattle.ec_volume.specs.Volume.{Images}
use Rattle.ec_volume.specs.declared.image.Kind.{Kind}
use Rattle.ec_volume.specs.declared.image.Kind.TheVariants as kind
use Rattle.ec_volume.specs.declared.update.Update.{Update}
use Rattle.ec_volume.specs.declared.update.Update.TheVariants.{Make, Drop, Move, Put, Len, Mode, Stamp, Order, Shift, Owner}
use Rattle.ec_plain.specs.Walk.{Path, Reached, At, Not, walk, parent_of, last_of, same_path}
use Rattle.ec_plain.specs.Plain.{on_reached, on_parent, on_entry, answers, refuses, issues, plain, plain_make, plain_drop, plain_rename, plain_forder, once_more, blocked, kind_of, make_in, drop_in, above, renames, move_into, loops, rename_in, write_in, len_in, read_in, list_in, stat_of}
use Rattle.ec_plain.specs.declared.call.Call.{Call}
use Rattle.ec_plain.specs.declared.call.Call.TheVariants as call
use Rattle.ec_plain.specs.declared.call.Reply.{Reply}
use Rattle.ec_plain.specs.declared.call.Reply.TheVariants as reply
use Rattle.ec_plain.specs.declared.call.Refusal.{Refusal}
use Rattle.ec_plain.specs.declared.call.Refusal.TheVariants as no
use Rattle.ec_plain.specs.declared.call.Outcome.{Outcome}

abbrev pub Fair : Outcome → Type 0
Fair out = (r : Refusal) → out.reply ≡ reply.Refused r → out.update ≡ None

by-refusal : (r : Refusal) (os : List ℕ) → Fair (refuses r os)
by-refusal r os x e = refl

by-answer : (r : Reply) (os : List ℕ) → Fair (answers r os)
by-answer r os x e = refl

by-issue : (w : Update) (os : List ℕ) → Fair (issues w os)
by-issue w os x e = absurd (apart x e)
  where
    apart : (x : Refusal) → ◌≡◌ {A = Reply} reply.Ok (reply.Refused x) → ⊥
    apart x e = cc

by-cond : (b : Bool) (x y : Outcome) → Fair x → Fair y → Fair (cond b x y)
by-cond true x y p q = p
by-cond false x y p q = q

module _ (fresh : ℕ) where
  module _ (v : Images) where
    by-walk : (p : Path) (f : ℕ → List ℕ → Outcome) → ((o : ℕ) (os : List ℕ) → Fair (f o os)) → Fair (on_reached (walk v p) f)
    by-walk p f h = go (walk v p).to
      where
        go : (r : Reached) → Fair (elim r as (λ z. Outcome) [ At o ↦ f o (walk v p).read | Not x ↦ refuses x (walk v p).read ])
        go (At o) = h o (walk v p).read
        go (Not x) = by-refusal x (walk v p).read

    by-parent : (p : Path) (f : ℕ → Entries → List ℕ → Outcome) → ((d : ℕ) (at : (walk v (parent_of p)).to ≡ At d) (dir : is_dir (v d) ≡ true) → Fair (f d (entries_of (v d)) (walk v (parent_of p)).read)) → Fair (on_parent v p f)
    by-parent p f h = go (walk v (parent_of p)).to refl
      where
        inner : (d : ℕ) → (walk v (parent_of p)).to ≡ At d → (b : Bool) → is_dir (v d) ≡ b → Fair (cond b (f d (entries_of (v d)) (walk v (parent_of p)).read) (refuses (no.NotDir (length p - 1)) (walk v (parent_of p)).read))
        inner d at true e = h d at e
        inner d at false e = by-refusal (no.NotDir (length p - 1)) (walk v (parent_of p)).read

        go : (r : Reached) → (walk v (parent_of p)).to ≡ r → Fair (elim r as (λ z. Outcome) [
          | At d ↦ cond (is_dir (v d)) (f d (entries_of (v d)) (walk v (parent_of p)).read) (refuses (no.NotDir (length p - 1)) (walk v (parent_of p)).read)
          | Not x ↦ refuses x (walk v (parent_of p)).read
        ])
        go (At d) e = inner d e (is_dir (v d)) refl
        go (Not x) e = by-refusal x (walk v (parent_of p)).read

    by-entry : (p : Path) (f : ℕ → Entries → ℕ → List ℕ → Outcome) → ((d o : ℕ) (os : List ℕ) (at : (walk v (parent_of p)).to ≡ At d) (named live : is_dir (v d) ≡ true) → Fair (f d (entries_of (v d)) o os)) → Fair (on_entry v p f)
    by-entry p f h = by-parent p (λ dir entries read. elim (entry entries (last_of p)) as (λ z. Outcome) [
      | None ↦ refuses (no.NotFound (length p)) read
      | Some obj ↦ cond (is_gone (v obj)) (refuses (no.NotFound (length p)) (read ++ obj ∷ [])) (f dir entries obj (read ++ obj ∷ []))
    ]) (λ d at dir. go d at dir (entry (entries_of (v d)) (last_of p)))
      where
        go : (d : ℕ) → (walk v (parent_of p)).to ≡ At d → is_dir (v d) ≡ true → (x : Option ℕ) → Fair (elim x as (λ z. Outcome) [
          | None ↦ refuses (no.NotFound (length p)) (walk v (parent_of p)).read
          | Some obj ↦ cond (is_gone (v obj)) (refuses (no.NotFound (length p)) ((walk v (parent_of p)).read ++ obj ∷ [])) (f d (entries_of (v d)) obj ((walk v (parent_of p)).read ++ obj ∷ []))
        ])
        go d at dir None = by-refusal (no.NotFound (length p)) (walk v (parent_of p)).read
        go d at dir (Some o) = by-cond (is_gone (v o)) (refuses (no.NotFound (length p)) ((walk v (parent_of p)).read ++ o ∷ [])) (f d (entries_of (v d)) o ((walk v (parent_of p)).read ++ o ∷ []))
            (by-refusal (no.NotFound (length p)) ((walk v (parent_of p)).read ++ o ∷ [])) (h d o ((walk v (parent_of p)).read ++ o ∷ []) at dir dir)

    made_in : (k : Kind) (n : List ℕ) (d : ℕ) (es : Entries) (os : List ℕ) → Fair (make_in k n fresh d es os)
    made_in k n d es os =
        by-cond (is_some (entry es n)) (refuses no.Exists os) (cond (nat_le 128 (length es)) (refuses no.DirFull os) (issues (Make d n fresh k) (os ++ fresh ∷ []))) (by-refusal no.Exists os)
        (by-cond (nat_le 128 (length es)) (refuses no.DirFull os) (issues (Make d n fresh k) (os ++ fresh ∷ [])) (by-refusal no.DirFull os)
        (by-issue (Make d n fresh k) (os ++ fresh ∷ [])))

    by-make : (k : Kind) (p : Path) → Fair (plain_make v k p fresh)
    by-make k [] = by-refusal no.Root []
    by-make k (n ∷ ns) = by-parent (n ∷ ns) (make_in k (last_of (n ∷ ns)) fresh) (λ d at dir. made_in k (last_of (n ∷ ns)) d (entries_of (v d)) (walk v (parent_of (n ∷ ns))).read)

    by-drop-in : (k : Kind) (p : Path) (d : ℕ) (es : Entries) (o : ℕ) (os : List ℕ) → Fair (drop_in v k p d es o os)
    by-drop-in kind.File p d es o os =
        by-cond (is_dir (v o)) (refuses no.IsDir os) (issues (Drop d (last_of p) o kind.File) os) (by-refusal no.IsDir os) (by-issue (Drop d (last_of p) o kind.File) os)
    by-drop-in kind.Dir p d es o os =
        by-cond (not (is_dir (v o))) (refuses (no.NotDir (length p)) os) (cond (nat_lt 0 (length (entries_of (v o)))) (refuses no.NotEmpty os) (issues (Drop d (last_of p) o kind.Dir) os)) (by-refusal (no.NotDir (length p)) os)
        (by-cond (nat_lt 0 (length (entries_of (v o)))) (refuses no.NotEmpty os) (issues (Drop d (last_of p) o kind.Dir) os) (by-refusal no.NotEmpty os) (by-issue (Drop d (last_of p) o kind.Dir) os))

    by-drop : (k : Kind) (p : Path) → Fair (plain_drop v k p)
    by-drop k [] = by-refusal no.Root []
    by-drop k (n ∷ ns) = by-entry (n ∷ ns) (drop_in v k (n ∷ ns)) (λ d o os at named live. by-drop-in k (n ∷ ns) d (entries_of (v d)) o os)

    by-renames : (d : ℕ) (from : List ℕ) (e : ℕ) (to : List ℕ) (o : ℕ) (k : Kind) (victim : Option ℕ) (up : Above) (os : List ℕ) → Fair (renames d from e to o k victim up os)
    by-renames d from e to o k victim up os =
        by-cond (d == e) (issues (Move d from to o k victim) os) (issues (Shift d from e to o k victim up) os) (by-issue (Move d from to o k victim) os) (by-issue (Shift d from e to o k victim up) os)

    by-move : (p q : Path) (d o e : ℕ) (fs : Entries) (ps os : List ℕ) → Fair (move_into v p q d o e fs ps os)
    by-move p q d o e fs ps os = go (entry fs (last_of q))
      where
        taken : (t : ℕ) (x : Option Refusal) → Fair (elim x [ Some r ↦ refuses r (os ++ t ∷ []) | None ↦ renames d (last_of p) e (last_of q) o (kind_of (v o)) (Some t) (above (kind_of (v o)) ps (parent_of q)) (os ++ t ∷ []) ])
        taken t (Some r) = by-refusal r (os ++ t ∷ [])
        taken t None = by-renames d (last_of p) e (last_of q) o (kind_of (v o)) (Some t) (above (kind_of (v o)) ps (parent_of q)) (os ++ t ∷ [])

        go : (x : Option ℕ) → Fair (elim x [
          | None ↦ cond (not (d == e) && nat_le 128 (length fs)) (refuses no.DirFull os) (renames d (last_of p) e (last_of q) o (kind_of (v o)) None (above (kind_of (v o)) ps (parent_of q)) os)
          | Some t ↦ elim (blocked (kind_of (v o)) (v t) (length q)) [
            | Some r ↦ refuses r (os ++ t ∷ [])
            | None ↦ renames d (last_of p) e (last_of q) o (kind_of (v o)) (Some t) (above (kind_of (v o)) ps (parent_of q)) (os ++ t ∷ [])
          ]
        ])
        go None =
            by-cond (not (d == e) && nat_le 128 (length fs)) (refuses no.DirFull os) (renames d (last_of p) e (last_of q) o (kind_of (v o)) None (above (kind_of (v o)) ps (parent_of q)) os)
            (by-refusal no.DirFull os) (by-renames d (last_of p) e (last_of q) o (kind_of (v o)) None (above (kind_of (v o)) ps (parent_of q)) os)
        go (Some t) = taken t (blocked (kind_of (v o)) (v t) (length q))

    abbrev behind : (p q : Path) (d o : ℕ) (os read : List ℕ) → Reached → Outcome
    behind p q d o os read (Not r) = refuses r (os ++ read)
    behind p q d o os read (At e) =
        cond (not (is_dir (v e))) (refuses (no.NotDir (length q - 1)) (os ++ read)) (cond (loops v o read) (refuses no.Loop (os ++ read)) (move_into v p q d o e (entries_of (v e)) read (os ++ read)))

    by-behind : (p q : Path) (d o : ℕ) (os read : List ℕ) (r : Reached) → Fair (behind p q d o os read r)
    by-behind p q d o os read (Not r) = by-refusal r (os ++ read)
    by-behind p q d o os read (At e) =
        by-cond (not (is_dir (v e))) (refuses (no.NotDir (length q - 1)) (os ++ read)) (cond (loops v o read) (refuses no.Loop (os ++ read)) (move_into v p q d o e (entries_of (v e)) read (os ++ read)))
        (by-refusal (no.NotDir (length q - 1)) (os ++ read))
        (by-cond (loops v o read) (refuses no.Loop (os ++ read)) (move_into v p q d o e (entries_of (v e)) read (os ++ read)) (by-refusal no.Loop (os ++ read))
        (by-move p q d o e (entries_of (v e)) read (os ++ read)))

    by-rename-in : (p q : Path) (d : ℕ) (es : Entries) (o : ℕ) (os : List ℕ) → Fair (rename_in v p q d es o os)
    by-rename-in p q d es o os =
        by-cond (same_path p q) (answers reply.Ok os) (behind p q d o os (walk v (parent_of q)).read (walk v (parent_of q)).to) (by-answer reply.Ok os)
        (by-behind p q d o os (walk v (parent_of q)).read (walk v (parent_of q)).to)

    by-rename : (p q : Path) → Fair (plain_rename v p q)
    by-rename [] q = by-refusal no.Root []
    by-rename (a ∷ as') [] = by-refusal no.Root []
    by-rename (a ∷ as') (b ∷ bs) = by-entry (a ∷ as') (rename_in v (a ∷ as') (b ∷ bs)) (λ d o os at named live. by-rename-in (a ∷ as') (b ∷ bs) d (entries_of (v d)) o os)

    by-forder : (ps : List Path) (objs os : List ℕ) → Fair (plain_forder v ps objs os)
    by-forder [] objs os = by-issue (Order objs) os
    by-forder (p ∷ ps) objs os =
        elim ((walk v p).to) as (λ r. Fair (elim r [ At o ↦ plain_forder v ps (once_more o objs) (os ++ (walk v p).read) | Not x ↦ refuses x (os ++ (walk v p).read) ])) [
          | At o ↦ by-forder ps (once_more o objs) (os ++ (walk v p).read)
          | Not x ↦ by-refusal x (os ++ (walk v p).read)
        ]

    by-write : (at : ℕ) (bytes : List ℕ) (o : ℕ) (os : List ℕ) → Fair (write_in v at bytes o os)
    by-write at bytes o os =
        by-cond (is_dir (v o)) (refuses no.IsDir os) (cond (nat_lt 65536 (at + length bytes)) (refuses no.TooLong os) (issues (Put o at bytes (nat_le (at + length bytes) (length (bytes_of (v o))))) os)) (by-refusal no.IsDir os)
        (by-cond (nat_lt 65536 (at + length bytes)) (refuses no.TooLong os) (issues (Put o at bytes (nat_le (at + length bytes) (length (bytes_of (v o))))) os) (by-refusal no.TooLong os)
        (by-issue (Put o at bytes (nat_le (at + length bytes) (length (bytes_of (v o))))) os))

    by-len : (len o : ℕ) (os : List ℕ) → Fair (len_in v len o os)
    by-len len o os =
        by-cond (is_dir (v o)) (refuses no.IsDir os) (cond (nat_lt 65536 len) (refuses no.TooLong os) (issues (Len o len) os)) (by-refusal no.IsDir os)
        (by-cond (nat_lt 65536 len) (refuses no.TooLong os) (issues (Len o len) os) (by-refusal no.TooLong os) (by-issue (Len o len) os))

    pub plain-fair : (cl : Call) → Fair (plain v cl fresh)
    plain-fair (call.Mkdir p) = by-make kind.Dir p
    plain-fair (call.Create p) = by-make kind.File p
    plain-fair (call.Write p at bytes) = by-walk p (write_in v at bytes) (by-write at bytes)
    plain-fair (call.SetLen p len) = by-walk p (len_in v len) (by-len len)
    plain-fair (call.Read p at count) = by-walk p (read_in v at count) (λ o os.
        by-cond (is_dir (v o)) (refuses no.IsDir os) (answers (reply.Data (take count (drop at (bytes_of (v o))))) os) (by-refusal no.IsDir os) (by-answer (reply.Data (take count (drop at (bytes_of (v o))))) os))
    plain-fair (call.Chmod p mode) = by-walk p (λ o os. issues (Mode o mode) os) (λ o os. by-issue (Mode o mode) os)
    plain-fair (call.Touch p stamp) = by-walk p (λ o os. issues (Stamp o stamp) os) (λ o os. by-issue (Stamp o stamp) os)
    plain-fair (call.Stat p) = by-walk p (λ o os. answers (stat_of (v o)) os) (λ o os. by-answer (stat_of (v o)) os)
    plain-fair (call.List p) = by-walk p (list_in v p) (λ o os.
        by-cond (is_dir (v o)) (answers (reply.Names (map (λ e. e.0) (entries_of (v o)))) os) (refuses (no.NotDir (length p)) os) (by-answer (reply.Names (map (λ e. e.0) (entries_of (v o)))) os) (by-refusal (no.NotDir (length p)) os))
    plain-fair (call.Remove p) = by-drop kind.File p
    plain-fair (call.Rmdir p) = by-drop kind.Dir p
    plain-fair (call.Rename p q) = by-rename p q
    plain-fair (call.Fsync p) = by-walk p (λ o os. answers reply.Ok os) (λ o os. by-answer reply.Ok os)
    plain-fair (call.Forder ps) = by-forder ps [] []
    plain-fair call.Sync = by-answer reply.Ok []
    plain-fair (call.Chown p owner) = by-walk p (λ o os. issues (Owner o owner) os) (λ o os. by-issue (Owner o owner) os)
