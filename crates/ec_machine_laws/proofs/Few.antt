-- How many objects a call touches.
use Rattle.std.proofs.Common.{◌≡◌, arith, ◌≤◌, ◌+◌, ◌-◌, ◌*◌, ℕ, T, Bool, true, false, not, ◌==◌, ◌&&◌, cond, List, [], ◌∷◌, ◌++◌, map, length, take, drop, Option, Some, None, length-append}
use Rattle.std.specs.Prelude.{is_some, nat_lt, nat_le}
use Rattle.std.specs.List.{list_all}
use Rattle.std.proofs.lemmas.Bool.Decides.{nat_tests}
use Rattle.ec_volume.specs.Entries.{Entries, entry}
use Rattle.ec_volume.specs.Image.{entries_of, bytes_of, is_gone, is_dir}
use Rattle.ec_volume.specs.Update.{Above, root}
use Rattle.ec_volume.specs.Volume.{Images}
use Rattle.ec_volume.specs.declared.image.Image.TheVariants.{Gone, File, Dir}
use Rattle.ec_volume.specs.declared.image.Kind.{Kind}
use Rattle.ec_volume.specs.declared.image.Kind.TheVariants as kind
use Rattle.ec_volume.specs.declared.update.Update.TheVariants.{Make, Drop, Move, Put, Len, Mode, Stamp, Shift, Owner}
use Rattle.ec_plain.specs.BoundedCalls.{is_short, is_bounded}
use Rattle.ec_plain.specs.Walk.{Path, Reached, At, Not, Walk, walk, walk_from, parent_of, last_of, same_path}
use Rattle.ec_plain.specs.Plain.{on_reached, on_parent, on_entry, answers, refuses, issues, plain, plain_make, plain_drop, plain_rename, plain_forder, once_more, blocked, kind_of, make_in, drop_in, above, renames, move_into, loops, rename_in, write_in, len_in, read_in, list_in, stat_of}
use Rattle.ec_plain.specs.declared.call.Call.{Call}
use Rattle.ec_plain.specs.declared.call.Call.TheVariants as call
use Rattle.ec_plain.specs.declared.call.Reply.TheVariants as reply
use Rattle.ec_plain.specs.declared.call.Refusal.{Refusal}
use Rattle.ec_plain.specs.declared.call.Refusal.TheVariants as no
use Rattle.ec_plain.specs.declared.call.Outcome.{Outcome}
use Rattle.ec_machine_laws.specs.Needs.{max_touched}
use Rattle.ec_base.proofs.Bools.{first as left, right}
use Rattle.ec_plain.proofs.WalkLemmas.{entry-step, image-step}
use Rattle.ec_base.proofs.Lists.{take-few}

-- Walks.

walk-few : (v : Images) (i o : ℕ) (p : Path) → length (walk_from v i o p).read ≤ length p + 1
walk-few v i o [] = omega arith
walk-few v i o (n ∷ ns) =
    elim (v o) as (λ im. length (o ∷ (image-step v i n ns im).read) ≤ length (n ∷ ns) + 1) [
      | Gone ↦ omega arith
      | File m s w bs ↦ omega arith
      | Dir m s w es ↦ elim (entry es n) as (λ x. length (o ∷ (entry-step v i ns x).read) ≤ length (n ∷ ns) + 1) [
        | None ↦ omega arith
        | Some p ↦ omega (arith, walk-few v (i + 1) p ns)
      ]
    ]

pub walks-few : (v : Images) (p : Path) → length (walk v p).read ≤ length p + 1
walks-few v p = walk-few v 0 root p

-- the walk to the parent of a path that has names
parent-few : (v : Images) (n : List ℕ) (ns : Path) → length (walk v (parent_of (n ∷ ns))).read ≤ length (n ∷ ns)
parent-few v n ns = omega (arith, walks-few v (parent_of (n ∷ ns)), take-few (length (n ∷ ns) - 1) (n ∷ ns))

one-more : (x : ℕ) (xs : List ℕ) → length (xs ++ x ∷ []) ≡ length xs + 1
one-more x xs = length-append xs (x ∷ [])

short : (p : Path) → T (is_short p) → length p ≤ 16
short p h = grind (arith, nat_tests, h)

-- Outcomes.

abbrev Few : ℕ → Outcome → Type 0
Few m out = length out.touched ≤ m

few-cond : (m : ℕ) (b : Bool) (x y : Outcome) → Few m x → Few m y → Few m (cond b x y)
few-cond m true x y p q = p
few-cond m false x y p q = q

few-reached : (m : ℕ) (w : Walk) (f : ℕ → List ℕ → Outcome) → length w.read ≤ m → ((o : ℕ) → Few m (f o w.read)) → Few m (on_reached w f)
few-reached m w f l h = go w.to
  where
    go : (r : Reached) → Few m (elim r [ At o ↦ f o w.read | Not x ↦ refuses x w.read ])
    go (At o) = h o
    go (Not x) = l

module _ (v : Images) where
  -- what is done where the path leads touches no more than the walk
  at-end : (p : Path) (f : ℕ → List ℕ → Outcome) → T (is_short p) → ((o : ℕ) (os : List ℕ) → length os ≤ 136 → Few 136 (f o os)) → Few 136 (on_reached (walk v p) f)
  at-end p f s h =
      let l : length (walk v p).read ≤ 136 = omega (arith, walks-few v p, short p s) in
      few-reached 136 (walk v p) f l (λ o. h o (walk v p).read l)

  few-parent : (m : ℕ) (n : List ℕ) (ns : Path) (f : ℕ → Entries → List ℕ → Outcome) → length (n ∷ ns) ≤ m → ((d : ℕ) (es : Entries) (os : List ℕ) → length os ≤ length (n ∷ ns) → Few m (f d es os)) → Few m (on_parent v (n ∷ ns) f)
  few-parent m n ns f l h =
      let few : length (walk v (parent_of (n ∷ ns))).read ≤ length (n ∷ ns) = parent-few v n ns in
      few-reached m (walk v (parent_of (n ∷ ns))) (λ d os. cond (is_dir (v d)) (f d (entries_of (v d)) os) (refuses (no.NotDir (length (n ∷ ns) - 1)) os)) (omega (arith, few, l))
      (λ d. few-cond m (is_dir (v d)) (f d (entries_of (v d)) (walk v (parent_of (n ∷ ns))).read) (refuses (no.NotDir (length (n ∷ ns) - 1)) (walk v (parent_of (n ∷ ns))).read)
      (h d (entries_of (v d)) (walk v (parent_of (n ∷ ns))).read few) (omega (arith, few, l)))

  abbrev below : List ℕ → Path → (ℕ → Entries → ℕ → List ℕ → Outcome) → ℕ → Entries → List ℕ → Option ℕ → Outcome
  below n ns f d es os None = refuses (no.NotFound (length (n ∷ ns))) os
  below n ns f d es os (Some o) = cond (is_gone (v o)) (refuses (no.NotFound (length (n ∷ ns))) (os ++ o ∷ [])) (f d es o (os ++ o ∷ []))

  few-entry : (m : ℕ) (n : List ℕ) (ns : Path) (f : ℕ → Entries → ℕ → List ℕ → Outcome) → length (n ∷ ns) + 1 ≤ m → ((d : ℕ) (es : Entries) (o : ℕ) (os : List ℕ) → length os ≤ length (n ∷ ns) + 1 → Few m (f d es o os)) → Few m (on_entry v (n ∷ ns) f)
  few-entry m n ns f l h = few-parent m n ns (λ d es os. below n ns f d es os (entry es (last_of (n ∷ ns)))) (omega (arith, l)) (λ d es os few. go d es os few (entry es (last_of (n ∷ ns))))
    where
      go : (d : ℕ) (es : Entries) (os : List ℕ) → length os ≤ length (n ∷ ns) → (x : Option ℕ) → Few m (below n ns f d es os x)
      go d es os few None = omega (arith, few, l)
      go d es os few (Some o) =
          let more : length (os ++ o ∷ []) ≤ length (n ∷ ns) + 1 = omega (arith, few, one-more o os) in
          few-cond m (is_gone (v o)) (refuses (no.NotFound (length (n ∷ ns))) (os ++ o ∷ [])) (f d es o (os ++ o ∷ [])) (omega (arith, more, l)) (h d es o (os ++ o ∷ []) more)

  few-make : (k : Kind) (p : Path) (fresh : ℕ) → T (is_short p) → Few 136 (plain_make v k p fresh)
  few-make k [] fresh s = omega arith
  few-make k (n ∷ ns) fresh s =
      let l : length (n ∷ ns) ≤ 16 = short (n ∷ ns) s in
      few-parent 136 n ns (make_in k (last_of (n ∷ ns)) fresh) (omega (arith, l))
      (λ d es os few. few-cond 136 (is_some (entry es (last_of (n ∷ ns)))) (refuses no.Exists os) (cond (nat_le 128 (length es)) (refuses no.DirFull os) (issues (Make d (last_of (n ∷ ns)) fresh k) (os ++ fresh ∷ []))) (omega (arith, few, l))
      (few-cond 136 (nat_le 128 (length es)) (refuses no.DirFull os) (issues (Make d (last_of (n ∷ ns)) fresh k) (os ++ fresh ∷ [])) (omega (arith, few, l)) (omega (arith, few, l, one-more fresh os))))

  few-drop_in : (k : Kind) (p : Path) (d : ℕ) (es : Entries) (o : ℕ) (os : List ℕ) → length os ≤ 136 → Few 136 (drop_in v k p d es o os)
  few-drop_in kind.File p d es o os l = few-cond 136 (is_dir (v o)) (refuses no.IsDir os) (issues (Drop d (last_of p) o kind.File) os) l l
  few-drop_in kind.Dir p d es o os l =
      few-cond 136 (not (is_dir (v o))) (refuses (no.NotDir (length p)) os) (cond (nat_lt 0 (length (entries_of (v o)))) (refuses no.NotEmpty os) (issues (Drop d (last_of p) o kind.Dir) os)) l
      (few-cond 136 (nat_lt 0 (length (entries_of (v o)))) (refuses no.NotEmpty os) (issues (Drop d (last_of p) o kind.Dir) os) l l)

  few-drop : (k : Kind) (p : Path) → T (is_short p) → Few 136 (plain_drop v k p)
  few-drop k [] s = omega arith
  few-drop k (n ∷ ns) s =
      let l : length (n ∷ ns) ≤ 16 = short (n ∷ ns) s in
      few-entry 136 n ns (drop_in v k (n ∷ ns)) (omega (arith, l)) (λ d es o os few. few-drop_in k (n ∷ ns) d es o os (omega (arith, few, l)))

  few-renames : (d : ℕ) (from : List ℕ) (e : ℕ) (to : List ℕ) (o : ℕ) (k : Kind) (victim : Option ℕ) (up : Above) (os : List ℕ) → length os ≤ 136 → Few 136 (renames d from e to o k victim up os)
  few-renames d from e to o k victim up os l = few-cond 136 (d == e) (issues (Move d from to o k victim) os) (issues (Shift d from e to o k victim up) os) l l

  few-move : (p q : Path) (d o e : ℕ) (fs : Entries) (ps os : List ℕ) → length os + 1 ≤ 136 → Few 136 (move_into v p q d o e fs ps os)
  few-move p q d o e fs ps os l = go (entry fs (last_of q))
    where
      taken : (t : ℕ) (r : Option Refusal) → Few 136 (elim r [
        | Some n ↦ refuses n (os ++ t ∷ [])
        | None ↦ renames d (last_of p) e (last_of q) o (kind_of (v o)) (Some t) (above (kind_of (v o)) ps (parent_of q)) (os ++ t ∷ [])
      ])
      taken t (Some n) = omega (arith, l, one-more t os)
      taken t None = few-renames d (last_of p) e (last_of q) o (kind_of (v o)) (Some t) (above (kind_of (v o)) ps (parent_of q)) (os ++ t ∷ []) (omega (arith, l, one-more t os))

      go : (x : Option ℕ) → Few 136 (elim x [
        | None ↦ cond (not (d == e) && nat_le 128 (length fs)) (refuses no.DirFull os) (renames d (last_of p) e (last_of q) o (kind_of (v o)) None (above (kind_of (v o)) ps (parent_of q)) os)
        | Some t ↦ elim (blocked (kind_of (v o)) (v t) (length q)) [
          | Some r ↦ refuses r (os ++ t ∷ [])
          | None ↦ renames d (last_of p) e (last_of q) o (kind_of (v o)) (Some t) (above (kind_of (v o)) ps (parent_of q)) (os ++ t ∷ [])
        ]
      ])
      go None =
          few-cond 136 (not (d == e) && nat_le 128 (length fs)) (refuses no.DirFull os) (renames d (last_of p) e (last_of q) o (kind_of (v o)) None (above (kind_of (v o)) ps (parent_of q)) os) (omega (arith, l))
          (few-renames d (last_of p) e (last_of q) o (kind_of (v o)) None (above (kind_of (v o)) ps (parent_of q)) os (omega (arith, l)))
      go (Some t) = taken t (blocked (kind_of (v o)) (v t) (length q))

  few-rename_in : (p q : Path) (d : ℕ) (es : Entries) (o : ℕ) (os : List ℕ) → length os + (length (walk v (parent_of q)).read + 1) ≤ 136 → Few 136 (rename_in v p q d es o os)
  few-rename_in p q d es o os l = few-cond 136 (same_path p q) (answers reply.Ok os) _ (omega (arith, l)) (go (walk v (parent_of q)).read (walk v (parent_of q)).to l)
    where
      go : (ps : List ℕ) (r : Reached) → length os + (length ps + 1) ≤ 136 → Few 136 (elim r [
        | Not n ↦ refuses n (os ++ ps)
        | At e ↦ cond (not (is_dir (v e))) (refuses (no.NotDir (length q - 1)) (os ++ ps)) (cond (loops v o ps) (refuses no.Loop (os ++ ps)) (move_into v p q d o e (entries_of (v e)) ps (os ++ ps)))
      ])
      go ps (Not n) l = omega (arith, l, length-append os ps)
      go ps (At e) l =
          let few : length (os ++ ps) + 1 ≤ 136 = omega (arith, l, length-append os ps) in
          few-cond 136 (not (is_dir (v e))) (refuses (no.NotDir (length q - 1)) (os ++ ps)) (cond (loops v o ps) (refuses no.Loop (os ++ ps)) (move_into v p q d o e (entries_of (v e)) ps (os ++ ps))) (omega (arith, few))
          (few-cond 136 (loops v o ps) (refuses no.Loop (os ++ ps)) (move_into v p q d o e (entries_of (v e)) ps (os ++ ps)) (omega (arith, few)) (few-move p q d o e (entries_of (v e)) ps (os ++ ps) few))

  few-rename : (p q : Path) → T (is_short p) → T (is_short q) → Few 136 (plain_rename v p q)
  few-rename [] q s t = omega arith
  few-rename (a ∷ as') [] s t = omega arith
  few-rename (a ∷ as') (b ∷ bs) s t =
      let l : length (a ∷ as') ≤ 16 = short (a ∷ as') s in
      let m : length (walk v (parent_of (b ∷ bs))).read ≤ 16 = omega (arith, parent-few v b bs, short (b ∷ bs) t) in
      few-entry 136 a as' (rename_in v (a ∷ as') (b ∷ bs)) (omega (arith, l)) (λ d es o os few. few-rename_in (a ∷ as') (b ∷ bs) d es o os (omega (arith, few, l, m)))

  few-forder : (ps : List Path) (objs os : List ℕ) → T (list_all is_short ps) → length os + 17 * length ps ≤ 136 → Few 136 (plain_forder v ps objs os)
  few-forder [] objs os s l = omega (arith, l)
  few-forder (p ∷ ps) objs os s l =
      let here : length (walk v p).read ≤ 17 = omega (arith, walks-few v p, short p (left (is_short p) (list_all is_short ps) s)) in
      let more : length (os ++ (walk v p).read) + 17 * length ps ≤ 136 = omega (arith, l, here, length-append os (walk v p).read) in
      elim ((walk v p).to) as (λ r. Few 136 (elim r [ At o ↦ plain_forder v ps (once_more o objs) (os ++ (walk v p).read) | Not x ↦ refuses x (os ++ (walk v p).read) ])) [
        | At o ↦ few-forder ps (once_more o objs) (os ++ (walk v p).read) (right (is_short p) (list_all is_short ps) s) more
        | Not x ↦ omega (arith, more)
      ]

pub calls-few : (v : Images) (cl : Call) (id : ℕ) → T (is_bounded cl) → length (plain v cl id).touched ≤ max_touched
calls-few v (call.Mkdir p) id b = few-make v kind.Dir p id b
calls-few v (call.Create p) id b = few-make v kind.File p id b
calls-few v (call.Write p at bytes) id b =
    at-end v p (write_in v at bytes) (left (is_short p) (nat_le 1 (length bytes)) (left (is_short p && nat_le 1 (length bytes)) (nat_le (length bytes) 4096) b))
    (λ o os l. few-cond 136 (is_dir (v o)) (refuses no.IsDir os) _ l (few-cond 136 (nat_lt 65536 (at + length bytes)) (refuses no.TooLong os) (issues (Put o at bytes (nat_le (at + length bytes) (length (bytes_of (v o))))) os) l l))
calls-few v (call.SetLen p len) id b = at-end v p (len_in v len) b (λ o os l. few-cond 136 (is_dir (v o)) (refuses no.IsDir os) _ l (few-cond 136 (nat_lt 65536 len) (refuses no.TooLong os) (issues (Len o len) os) l l))
calls-few v (call.Read p at count) id b = at-end v p (read_in v at count) (left (is_short p) (nat_le count 4096) b) (λ o os l. few-cond 136 (is_dir (v o)) (refuses no.IsDir os) (answers (reply.Data (take count (drop at (bytes_of (v o))))) os) l l)
calls-few v (call.Chmod p mode) id b = at-end v p (λ o os. issues (Mode o mode) os) (left (is_short p) (nat_le mode 4095) b) (λ o os l. l)
calls-few v (call.Touch p stamp) id b = at-end v p (λ o os. issues (Stamp o stamp) os) b (λ o os l. l)
calls-few v (call.Stat p) id b = at-end v p (λ o os. answers (stat_of (v o)) os) b (λ o os l. l)
calls-few v (call.List p) id b = at-end v p (list_in v p) b (λ o os l. few-cond 136 (is_dir (v o)) (answers (reply.Names (map (λ e. e.0) (entries_of (v o)))) os) (refuses (no.NotDir (length p)) os) l l)
calls-few v (call.Remove p) id b = few-drop v kind.File p b
calls-few v (call.Rmdir p) id b = few-drop v kind.Dir p b
calls-few v (call.Rename p q) id b = few-rename v p q (left (is_short p) (is_short q) b) (right (is_short p) (is_short q) b)
calls-few v (call.Fsync p) id b = at-end v p (λ o os. answers reply.Ok os) b (λ o os l. l)
calls-few v (call.Forder ps) id b =
    let counts : T (nat_le 1 (length ps) && nat_le (length ps) 8) = left (nat_le 1 (length ps) && nat_le (length ps) 8) (list_all is_short ps) b in
    let most : length ps ≤ 8 = at-most (length ps) (right (nat_le 1 (length ps)) (nat_le (length ps) 8) counts) in
    few-forder v ps [] [] (right (nat_le 1 (length ps) && nat_le (length ps) 8) (list_all is_short ps) b) (omega (arith, most))
  where
    at-most : (n : ℕ) → T (nat_le n 8) → n ≤ 8
    at-most n h = grind (arith, nat_tests, h)
calls-few v call.Sync id b = omega arith
calls-few v (call.Chown p owner) id b = at-end v p (λ o os. issues (Owner o owner) os) b (λ o os l. l)
