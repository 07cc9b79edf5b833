-- A call on a volume with renamed ids comes to the same.
use Rattle.std.proofs.Common.{◌≡◌, refl, sym, ap, ◌∙◌, ◌+◌, ℕ, true, false, not, cond, List, [], ◌∷◌, ◌++◌, map, length}
use Rattle.std.specs.Prelude.{is_some, nat_lt, nat_le, take, drop}
use Rattle.ec_volume.specs.Entries.{Entries, entry}
use Rattle.ec_volume.specs.Image.{entries_of, bytes_of, is_dir}
use Rattle.ec_volume.specs.Update.{member}
use Rattle.ec_volume.specs.Volume.{Images}
use Rattle.ec_volume.specs.declared.image.Kind.{Kind}
use Rattle.ec_volume.specs.declared.image.Kind.TheVariants as kind
use Rattle.ec_volume.specs.declared.image.Image.{Image}
use Rattle.ec_volume.specs.declared.image.Image.TheVariants.{Gone, File, Dir}
use Rattle.ec_volume.specs.declared.update.Update.TheVariants.{Make, Drop, Put, Len, Mode, Stamp, Owner}
use Rattle.ec_plain.specs.Walk.{Path, At, Not, walk, last_of}
use Rattle.ec_plain.specs.Plain.{answers, refuses, issues, make_in, plain_make, drop_in, plain_drop, once_more, plain_forder, stat_of, write_in, len_in, read_in, list_in, plain}
use Rattle.ec_plain.specs.declared.call.Call.{Call}
use Rattle.ec_plain.specs.declared.call.Call.TheVariants as call
use Rattle.ec_plain.specs.declared.call.Reply.TheVariants as reply
use Rattle.ec_plain.specs.declared.call.Refusal.TheVariants as no
use Rattle.ec_history.specs.OfLaws.Renaming.{IsRenaming, entries_by, image_by}
use Rattle.ec_history.specs.OfLaws.Renamed.{outcome_by, IsRenamed}
use Rattle.ec_history.proofs.OfLaws.ForRenamed.Images.{entry-by, length-by, some-by, member-by, map-both}
use Rattle.ec_history.proofs.OfLaws.ForRenamed.Shapes.{dir-at, entries-at, bytes-at}
use Rattle.ec_history.proofs.OfLaws.ForRenamed.Walks.{reached_by, map-snoc, cond-out, path-by, on-path, on-parent, on-entry}
use Rattle.ec_history.proofs.OfLaws.ForRenamed.Renames.{rename-by}

module _ (r : ℕ → ℕ) (ren : IsRenaming r) where
  make-in : (k : Kind) (n : List ℕ) (fresh d : ℕ) (es : Entries) (os : List ℕ) → make_in k n (r fresh) (r d) (entries_by r es) (map r os) ≡ outcome_by r (make_in k n fresh d es os)
  make-in k n fresh d es os =
      (λ x. cond ((ap is_some (entry-by r ren es n) ∙ some-by r ren (entry es n)) x) (refuses no.Exists (map r os))
      (cond (nat_le 128 (length-by r ren es x)) (refuses no.DirFull (map r os)) (issues (Make (r d) n (r fresh) k) (sym (map-snoc r ren os fresh) x))))
      ∙ ap (cond (is_some (entry es n)) (outcome_by r (refuses no.Exists os))) (cond-out r ren (nat_le 128 (length es)) (refuses no.DirFull os) (issues (Make d n fresh k) (os ++ fresh ∷ [])))
      ∙ cond-out r ren (is_some (entry es n)) (refuses no.Exists os) (cond (nat_le 128 (length es)) (refuses no.DirFull os) (issues (Make d n fresh k) (os ++ fresh ∷ [])))

  once-by : (o : ℕ) (os : List ℕ) → once_more (r o) (map r os) ≡ map r (once_more o os)
  once-by o os =
      (λ x. cond (member-by r ren o os x) (map r os) (sym (map-snoc r ren os o) x))
      ∙ (elim (member o os) as (λ b. cond b (map r os) (map r (os ++ o ∷ [])) ≡ map r (cond b os (os ++ o ∷ []))) [ true ↦ refl | false ↦ refl ])

  names-by : (es : Entries) → map (λ e. e.0) (entries_by r es) ≡ map (λ e. e.0) es
  names-by [] = refl
  names-by (e ∷ es) = ap (λ ns. e.0 ∷ ns) (names-by es)

  stat-by : (i : Image) → stat_of (image_by r i) ≡ stat_of i
  stat-by Gone = refl
  stat-by (File m s w bs) = refl
  stat-by (Dir m s w es) = λ x. reply.Stat kind.Dir m s w (length-by r ren es x)

  module _ (v w : Images) (same : IsRenamed r v w) where
    -- what the renamed object shows
    dir-of : (o : ℕ) → is_dir (w (r o)) ≡ is_dir (v o)
    dir-of = dir-at r ren v w same

    bytes-in : (o : ℕ) → bytes_of (w (r o)) ≡ bytes_of (v o)
    bytes-in = bytes-at r ren v w same

    count-of : (o : ℕ) → length (entries_of (w (r o))) ≡ length (entries_of (v o))
    count-of o = ap length (entries-at r ren v w same o) ∙ length-by r ren (entries_of (v o))

    make-by : (k : Kind) (p : Path) (fresh : ℕ) → plain_make w k p (r fresh) ≡ outcome_by r (plain_make v k p fresh)
    make-by k [] fresh = refl
    make-by k (n ∷ ns) fresh = on-parent r ren v w same (n ∷ ns) (make_in k (last_of (n ∷ ns)) (r fresh)) (make_in k (last_of (n ∷ ns)) fresh) (make-in k (last_of (n ∷ ns)) fresh)

    drop-in : (k : Kind) (p : Path) (d : ℕ) (es : Entries) (o : ℕ) (os : List ℕ) → drop_in w k p (r d) (entries_by r es) (r o) (map r os) ≡ outcome_by r (drop_in v k p d es o os)
    drop-in kind.File p d es o os =
        (λ x. cond (dir-of o x) (refuses no.IsDir (map r os)) (issues (Drop (r d) (last_of p) (r o) kind.File) (map r os)))
        ∙ cond-out r ren (is_dir (v o)) (refuses no.IsDir os) (issues (Drop d (last_of p) o kind.File) os)
    drop-in kind.Dir p d es o os =
        (λ x. cond (not (dir-of o x)) (refuses (no.NotDir (length p)) (map r os)) (cond (nat_lt 0 (count-of o x)) (refuses no.NotEmpty (map r os)) (issues (Drop (r d) (last_of p) (r o) kind.Dir) (map r os))))
        ∙ ap (cond (not (is_dir (v o))) (outcome_by r (refuses (no.NotDir (length p)) os))) (cond-out r ren (nat_lt 0 (length (entries_of (v o)))) (refuses no.NotEmpty os) (issues (Drop d (last_of p) o kind.Dir) os))
        ∙ cond-out r ren (not (is_dir (v o))) (refuses (no.NotDir (length p)) os) (cond (nat_lt 0 (length (entries_of (v o)))) (refuses no.NotEmpty os) (issues (Drop d (last_of p) o kind.Dir) os))

    drop-by : (k : Kind) (p : Path) → plain_drop w k p ≡ outcome_by r (plain_drop v k p)
    drop-by k [] = refl
    drop-by k (n ∷ ns) = on-entry r ren v w same (n ∷ ns) (drop_in w k (n ∷ ns)) (drop_in v k (n ∷ ns)) (drop-in k (n ∷ ns))

    forder-by : (ps : List Path) (objs os : List ℕ) → plain_forder w ps (map r objs) (map r os) ≡ outcome_by r (plain_forder v ps objs os)
    forder-by [] objs os = refl
    forder-by (p ∷ ps) objs os =
        (λ x. elim ((path-by r ren v w same p x).to) [ At o ↦ plain_forder w ps (once_more o (map r objs)) (map r os ++ (path-by r ren v w same p x).read) | Not f ↦ refuses f (map r os ++ (path-by r ren v w same p x).read) ])
        ∙ (elim ((walk v p).to) as (λ t. elim (reached_by r ren t) [ At o ↦ plain_forder w ps (once_more o (map r objs)) (map r os ++ map r (walk v p).read) | Not f ↦ refuses f (map r os ++ map r (walk v p).read) ]
        ≡ outcome_by r (elim t [ At o ↦ plain_forder v ps (once_more o objs) (os ++ (walk v p).read) | Not f ↦ refuses f (os ++ (walk v p).read) ])) [
          | At o ↦ (λ x. plain_forder w ps (once-by o objs x) (sym (map-both r ren os (walk v p).read) x)) ∙ forder-by ps (once_more o objs) (os ++ (walk v p).read)
          | Not f ↦ λ x. refuses f (sym (map-both r ren os (walk v p).read) x)
        ])

    write-in : (at : ℕ) (bytes : List ℕ) (o : ℕ) (os : List ℕ) → write_in w at bytes (r o) (map r os) ≡ outcome_by r (write_in v at bytes o os)
    write-in at bytes o os =
        (λ x. cond (dir-of o x) (refuses no.IsDir (map r os)) (cond (nat_lt 65536 (at + length bytes)) (refuses no.TooLong (map r os)) (issues (Put (r o) at bytes (nat_le (at + length bytes) (length (bytes-in o x)))) (map r os))))
        ∙ ap (cond (is_dir (v o)) (refuses no.IsDir (map r os))) (cond-out r ren (nat_lt 65536 (at + length bytes)) (refuses no.TooLong os) (issues (Put o at bytes (nat_le (at + length bytes) (length (bytes_of (v o))))) os))
        ∙ cond-out r ren (is_dir (v o)) (refuses no.IsDir os) (cond (nat_lt 65536 (at + length bytes)) (refuses no.TooLong os) (issues (Put o at bytes (nat_le (at + length bytes) (length (bytes_of (v o))))) os))

    len-in : (len o : ℕ) (os : List ℕ) → len_in w len (r o) (map r os) ≡ outcome_by r (len_in v len o os)
    len-in len o os =
        (λ x. cond (dir-of o x) (refuses no.IsDir (map r os)) (cond (nat_lt 65536 len) (refuses no.TooLong (map r os)) (issues (Len (r o) len) (map r os))))
        ∙ ap (cond (is_dir (v o)) (refuses no.IsDir (map r os))) (cond-out r ren (nat_lt 65536 len) (refuses no.TooLong os) (issues (Len o len) os))
        ∙ cond-out r ren (is_dir (v o)) (refuses no.IsDir os) (cond (nat_lt 65536 len) (refuses no.TooLong os) (issues (Len o len) os))

    read-in : (at count o : ℕ) (os : List ℕ) → read_in w at count (r o) (map r os) ≡ outcome_by r (read_in v at count o os)
    read-in at count o os =
        (λ x. cond (dir-of o x) (refuses no.IsDir (map r os)) (answers (reply.Data (take count (drop at (bytes-in o x)))) (map r os)))
        ∙ cond-out r ren (is_dir (v o)) (refuses no.IsDir os) (answers (reply.Data (take count (drop at (bytes_of (v o))))) os)

    list-in : (p : Path) (o : ℕ) (os : List ℕ) → list_in w p (r o) (map r os) ≡ outcome_by r (list_in v p o os)
    list-in p o os =
        (λ x. cond (dir-of o x) (answers (reply.Names ((ap (map (λ e. e.0)) (entries-at r ren v w same o) ∙ names-by (entries_of (v o))) x)) (map r os)) (refuses (no.NotDir (length p)) (map r os)))
        ∙ cond-out r ren (is_dir (v o)) (answers (reply.Names (map (λ e. e.0) (entries_of (v o)))) os) (refuses (no.NotDir (length p)) os)

    -- A call answers alike, issues its update and touches its objects under the new ids.
    pub plain-by : (cl : Call) (fresh : ℕ) → plain w cl (r fresh) ≡ outcome_by r (plain v cl fresh)
    plain-by (call.Mkdir p) fresh = make-by kind.Dir p fresh
    plain-by (call.Create p) fresh = make-by kind.File p fresh
    plain-by (call.Write p at bytes) fresh = on-path r ren v w same p (write_in w at bytes) (write_in v at bytes) (write-in at bytes)
    plain-by (call.SetLen p len) fresh = on-path r ren v w same p (len_in w len) (len_in v len) (len-in len)
    plain-by (call.Read p at count) fresh = on-path r ren v w same p (read_in w at count) (read_in v at count) (read-in at count)
    plain-by (call.Chmod p mode) fresh = on-path r ren v w same p (λ o os. issues (Mode o mode) os) (λ o os. issues (Mode o mode) os) (λ o os. refl)
    plain-by (call.Touch p stamp) fresh = on-path r ren v w same p (λ o os. issues (Stamp o stamp) os) (λ o os. issues (Stamp o stamp) os) (λ o os. refl)
    plain-by (call.Stat p) fresh = on-path r ren v w same p (λ o os. answers (stat_of (w o)) os) (λ o os. answers (stat_of (v o)) os) (λ o os x. answers ((ap stat_of (same o) ∙ stat-by (v o)) x) (map r os))
    plain-by (call.List p) fresh = on-path r ren v w same p (list_in w p) (list_in v p) (list-in p)
    plain-by (call.Remove p) fresh = drop-by kind.File p
    plain-by (call.Rmdir p) fresh = drop-by kind.Dir p
    plain-by (call.Rename p q) fresh = rename-by r ren v w same p q
    plain-by (call.Fsync p) fresh = on-path r ren v w same p (λ o os. answers reply.Ok os) (λ o os. answers reply.Ok os) (λ o os. refl)
    plain-by (call.Forder ps) fresh = forder-by ps [] []
    plain-by call.Sync fresh = refl
    plain-by (call.Chown p owner) fresh = on-path r ren v w same p (λ o os. issues (Owner o owner) os) (λ o os. issues (Owner o owner) os) (λ o os. refl)
