-- Renames in a volume with renamed ids.
use Rattle.std.proofs.Common.{◌≡◌, refl, sym, ap, ◌∙◌, ◌-◌, ℕ, not, ◌==◌, ◌&&◌, cond, List, [], ◌∷◌, ◌++◌, map, length, Option, Some, None}
use Rattle.std.specs.Prelude.{nat_lt, nat_le}
use Rattle.ec_volume.specs.Entries.{Entries, entry}
use Rattle.ec_volume.specs.Image.{entries_of, is_dir}
use Rattle.ec_volume.specs.Update.{Above}
use Rattle.ec_volume.specs.Volume.{Images}
use Rattle.ec_volume.specs.declared.image.Kind.{Kind}
use Rattle.ec_volume.specs.declared.image.Kind.TheVariants as kind
use Rattle.ec_volume.specs.declared.image.Image.{Image}
use Rattle.ec_volume.specs.declared.image.Image.TheVariants.{Gone, File, Dir}
use Rattle.ec_volume.specs.declared.update.Update.TheVariants.{Move, Shift}
use Rattle.ec_plain.specs.Walk.{Path, At, Not, Walk, walk, parent_of, last_of, same_path}
use Rattle.ec_plain.specs.Plain.{answers, refuses, issues, kind_of, blocked, with_names, above, renames, move_into, loops, rename_in, plain_rename}
use Rattle.ec_plain.specs.declared.call.Reply.TheVariants as reply
use Rattle.ec_plain.specs.declared.call.Refusal.TheVariants as no
use Rattle.ec_plain.specs.declared.call.Outcome.{Outcome}
use Rattle.ec_history.specs.OfLaws.Renaming.{IsRenaming, entries_by, image_by}
use Rattle.ec_history.specs.OfLaws.Renamed.{option_by, above_by, outcome_by, IsRenamed}
use Rattle.ec_history.proofs.OfLaws.ForRenamed.Images.{entry-by, length-by, member-by, map-both}
use Rattle.ec_history.proofs.OfLaws.ForRenamed.Shapes.{dir-at, entries-at}
use Rattle.ec_history.proofs.OfLaws.ForRenamed.Walks.{reached_by, walk_by, map-snoc, cond-out, path-by, on-entry}

module _ (r : ℕ → ℕ) (ren : IsRenaming r) where
  kind_of-by : (i : Image) → kind_of (image_by r i) ≡ kind_of i
  kind_of-by Gone = refl
  kind_of-by (File m s w bs) = refl
  kind_of-by (Dir m s w es) = refl

  blocked-by : (k : Kind) (i : Image) (n : ℕ) → blocked k (image_by r i) n ≡ blocked k i n
  blocked-by kind.File Gone n = refl
  blocked-by kind.File (File m s w bs) n = refl
  blocked-by kind.File (Dir m s w es) n = refl
  blocked-by kind.Dir Gone n = refl
  blocked-by kind.Dir (File m s w bs) n = refl
  blocked-by kind.Dir (Dir m s w es) n = λ x. cond (nat_lt 0 (length-by r ren es x)) (Some no.NotEmpty) None

  names-by : (os : List ℕ) (ns : Path) → with_names (map r os) ns ≡ above_by r (with_names os ns)
  names-by [] ns = refl
  names-by (o ∷ os) [] = refl
  names-by (o ∷ os) (n ∷ ns) = ap (λ up. (r o, n) ∷ up) (names-by os ns)

  above-by : (k : Kind) (os : List ℕ) (ns : Path) → above k (map r os) ns ≡ above_by r (above k os ns)
  above-by kind.File os ns = refl
  above-by kind.Dir os ns = names-by os ns

  renames-by : (d : ℕ) (from : List ℕ) (e : ℕ) (to : List ℕ) (o : ℕ) (k : Kind) (victim : Option ℕ) (up : Above) (os : List ℕ)
      → renames (r d) from (r e) to (r o) k (option_by r victim) (above_by r up) (map r os) ≡ outcome_by r (renames d from e to o k victim up os)
  renames-by d from e to o k victim up os =
      (λ x. cond (ren.apart d e x) (issues (Move (r d) from to (r o) k (option_by r victim)) (map r os)) (issues (Shift (r d) from (r e) to (r o) k (option_by r victim) (above_by r up)) (map r os)))
      ∙ cond-out r ren (d == e) (issues (Move d from to o k victim) os) (issues (Shift d from e to o k victim up) os)

  module _ (v w : Images) (same : IsRenamed r v w) where
    kind-at : (o : ℕ) → kind_of (w (r o)) ≡ kind_of (v o)
    kind-at o = ap kind_of (same o) ∙ kind_of-by (v o)

    loops-at : (o : ℕ) (ps : List ℕ) → loops w (r o) (map r ps) ≡ loops v o ps
    loops-at o ps = λ x. dir-at r ren v w same o x && member-by r ren o ps x

    module _ (p q : Path) (d o : ℕ) where
      -- the new name's entry, if any, is known
      abbrev taken : Images → ℕ → ℕ → ℕ → Entries → List ℕ → Kind → Above → Option ℕ → Outcome
      taken x c s e fs os k up None = cond (not (c == e) && nat_le 128 (length fs)) (refuses no.DirFull os) (renames c (last_of p) e (last_of q) s k None up os)
      taken x c s e fs os k up (Some t) = elim (blocked k (x t) (length q)) [
        | Some f ↦ refuses f (os ++ t ∷ [])
        | None ↦ renames c (last_of p) e (last_of q) s k (Some t) up (os ++ t ∷ [])
      ]

      taken-by : (e : ℕ) (fs : Entries) (os : List ℕ) (k : Kind) (up : Above) (t : Option ℕ)
          → taken w (r d) (r o) (r e) (entries_by r fs) (map r os) k (above_by r up) (option_by r t) ≡ outcome_by r (taken v d o e fs os k up t)
      taken-by e fs os k up None =
          (λ x. cond (not (ren.apart d e x) && nat_le 128 (length-by r ren fs x)) (refuses no.DirFull (map r os)) (renames-by d (last_of p) e (last_of q) o k None up os x))
          ∙ cond-out r ren (not (d == e) && nat_le 128 (length fs)) (refuses no.DirFull os) (renames d (last_of p) e (last_of q) o k None up os)
      taken-by e fs os k up (Some t) =
          (λ x. elim ((ap (λ i. blocked k i (length q)) (same t) ∙ blocked-by k (v t) (length q)) x) [
            | Some f ↦ refuses f (sym (map-snoc r ren os t) x)
            | None ↦ renames (r d) (last_of p) (r e) (last_of q) (r o) k (Some (r t)) (above_by r up) (sym (map-snoc r ren os t) x)
          ])
          ∙ (elim (blocked k (v t) (length q)) as (λ b. elim b [
            | Some f ↦ refuses f (map r (os ++ t ∷ []))
            | None ↦ renames (r d) (last_of p) (r e) (last_of q) (r o) k (Some (r t)) (above_by r up) (map r (os ++ t ∷ []))
          ] ≡ outcome_by r (elim b [ Some f ↦ refuses f (os ++ t ∷ []) | None ↦ renames d (last_of p) e (last_of q) o k (Some t) up (os ++ t ∷ []) ])) [
            | Some f ↦ refl
            | None ↦ renames-by d (last_of p) e (last_of q) o k (Some t) up (os ++ t ∷ [])
          ])

      into-by : (e : ℕ) (fs : Entries) (ps os : List ℕ) → move_into w p q (r d) (r o) (r e) (entries_by r fs) (map r ps) (map r os) ≡ outcome_by r (move_into v p q d o e fs ps os)
      into-by e fs ps os =
          (λ x. taken w (r d) (r o) (r e) (entries_by r fs) (map r os) (kind-at o x) (above (kind-at o x) (map r ps) (parent_of q)) (entry-by r ren fs (last_of q) x))
          ∙ ap (λ up. taken w (r d) (r o) (r e) (entries_by r fs) (map r os) (kind_of (v o)) up (option_by r (entry fs (last_of q)))) (above-by (kind_of (v o)) ps (parent_of q))
          ∙ taken-by e fs os (kind_of (v o)) (above (kind_of (v o)) ps (parent_of q)) (entry fs (last_of q))

      -- the walk to the new parent is known
      abbrev arrives : Images → ℕ → ℕ → List ℕ → Walk → Outcome
      arrives x c s os t = elim t.to [
        | Not f ↦ refuses f (os ++ t.read)
        | At e ↦ cond (not (is_dir (x e))) (refuses (no.NotDir (length q - 1)) (os ++ t.read))
            (cond (loops x s t.read) (refuses no.Loop (os ++ t.read)) (move_into x p q c s e (entries_of (x e)) t.read (os ++ t.read)))
      ]

      reaches-by : (os ps : List ℕ) (e : ℕ)
          → cond (not (is_dir (w (r e)))) (refuses (no.NotDir (length q - 1)) (map r os ++ map r ps))
          (cond (loops w (r o) (map r ps)) (refuses no.Loop (map r os ++ map r ps)) (move_into w p q (r d) (r o) (r e) (entries_of (w (r e))) (map r ps) (map r os ++ map r ps)))
          ≡ outcome_by r (cond (not (is_dir (v e))) (refuses (no.NotDir (length q - 1)) (os ++ ps)) (cond (loops v o ps) (refuses no.Loop (os ++ ps)) (move_into v p q d o e (entries_of (v e)) ps (os ++ ps))))
      reaches-by os ps e =
          (λ x. cond (not (dir-at r ren v w same e x)) (refuses (no.NotDir (length q - 1)) (sym (map-both r ren os ps) x))
          (cond (loops-at o ps x) (refuses no.Loop (sym (map-both r ren os ps) x)) (move_into w p q (r d) (r o) (r e) (entries-at r ren v w same e x) (map r ps) (sym (map-both r ren os ps) x))))
          ∙ (λ x. cond (not (is_dir (v e))) (refuses (no.NotDir (length q - 1)) (map r (os ++ ps))) (cond (loops v o ps) (refuses no.Loop (map r (os ++ ps))) (into-by e (entries_of (v e)) ps (os ++ ps) x)))
          ∙ ap (cond (not (is_dir (v e))) (refuses (no.NotDir (length q - 1)) (map r (os ++ ps)))) (cond-out r ren (loops v o ps) (refuses no.Loop (os ++ ps)) (move_into v p q d o e (entries_of (v e)) ps (os ++ ps)))
          ∙ cond-out r ren (not (is_dir (v e))) (refuses (no.NotDir (length q - 1)) (os ++ ps)) (cond (loops v o ps) (refuses no.Loop (os ++ ps)) (move_into v p q d o e (entries_of (v e)) ps (os ++ ps)))

      arrives-by : (os : List ℕ) (x : Walk) → arrives w (r d) (r o) (map r os) (walk_by r ren x) ≡ outcome_by r (arrives v d o os x)
      arrives-by os x = elim (x.to) as (λ t. elim (reached_by r ren t) [
        | Not f ↦ refuses f (map r os ++ map r x.read)
        | At e ↦ cond (not (is_dir (w e))) (refuses (no.NotDir (length q - 1)) (map r os ++ map r x.read))
            (cond (loops w (r o) (map r x.read)) (refuses no.Loop (map r os ++ map r x.read)) (move_into w p q (r d) (r o) e (entries_of (w e)) (map r x.read) (map r os ++ map r x.read)))
      ] ≡ outcome_by r (elim t [
        | Not f ↦ refuses f (os ++ x.read)
        | At e ↦ cond (not (is_dir (v e))) (refuses (no.NotDir (length q - 1)) (os ++ x.read))
            (cond (loops v o x.read) (refuses no.Loop (os ++ x.read)) (move_into v p q d o e (entries_of (v e)) x.read (os ++ x.read)))
      ])) [
        | Not f ↦ λ y. refuses f (sym (map-both r ren os x.read) y)
        | At e ↦ reaches-by os x.read e
      ]

      in-by : (es : Entries) (os : List ℕ) → rename_in w p q (r d) (entries_by r es) (r o) (map r os) ≡ outcome_by r (rename_in v p q d es o os)
      in-by es os =
          ap (cond (same_path p q) (answers reply.Ok (map r os))) (ap (arrives w (r d) (r o) (map r os)) (path-by r ren v w same (parent_of q)) ∙ arrives-by os (walk v (parent_of q)))
          ∙ cond-out r ren (same_path p q) (answers reply.Ok os) (arrives v d o os (walk v (parent_of q)))

    pub rename-by : (p q : Path) → plain_rename w p q ≡ outcome_by r (plain_rename v p q)
    rename-by [] q = refl
    rename-by (a ∷ as') [] = refl
    rename-by (a ∷ as') (b ∷ bs) =
        on-entry r ren v w same (a ∷ as') (rename_in w (a ∷ as') (b ∷ bs)) (rename_in v (a ∷ as') (b ∷ bs)) (λ d es o os. in-by (a ∷ as') (b ∷ bs) d o es os)
