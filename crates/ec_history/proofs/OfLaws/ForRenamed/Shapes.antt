-- Volumes with renamed ids: what updates leave of them, which lists fit, and their shape.
use Rattle.std.proofs.Common.{◌≡◌, refl, sym, ap, subst, ◌∙◌, arith, inl, inr, ℕ, suc, T, Bool, true, false, not, ◌==◌, cond, List, [], ◌∷◌, map, Option, Some, None}
use Rattle.std.specs.Prelude.{slice_get}
use Rattle.std.specs.List.{list_all}
use Rattle.std.proofs.lemmas.Bool.{cases_Bool, eqb-true, true≢false}
use Rattle.std.proofs.lemmas.Cmp.{nat_list_cmp_total}
use Rattle.ec_base.specs.SortedLaws.{both, found_at}
use Rattle.ec_volume.specs.Entries.{Entries, entry, by_bytes}
use Rattle.ec_volume.specs.Image.{is_gone, is_dir, entries_of, bytes_of}
use Rattle.ec_volume.specs.Update.{root, operands}
use Rattle.ec_volume.specs.Volume.{Images, after, image_after, fits_in_turn, Fits, WellFormed, reach, shown, HaveOneShape}
use Rattle.ec_volume.specs.declared.image.Kind.{Kind}
use Rattle.ec_volume.specs.declared.image.Image.{Image}
use Rattle.ec_volume.specs.declared.image.Image.TheVariants.{Gone, File, Dir}
use Rattle.ec_volume.specs.declared.update.Update.{Update}
use Rattle.ec_history.proofs.OfLaws.ForPlacing.Objects.{fits-tried}
use Rattle.ec_history.specs.OfLaws.Renaming.{IsRenaming, entries_by, image_by}
use Rattle.ec_history.specs.OfLaws.Renamed.{option_by, update_by, IsRenamed}
use Rattle.ec_history.proofs.OfLaws.ForRenamed.Images.{entry-by, gone-by, dir-by, bytes-by, entries-by, operands-by, after-at, fits-in-turn-by}

module _ (r : ℕ → ℕ) (ren : IsRenaming r) where
  -- a test that each renamed id passes is passed by each operand
  passed : (p : ℕ → Bool) → ((o : ℕ) → T (p (r o))) → (os : List ℕ) → T (list_all p (map r os))
  passed p h [] = tt
  passed p h (o ∷ os) = both (p (r o)) (list_all p (map r os)) (h o) (passed p h os)

  all-passed : (p : ℕ → Bool) → ((o : ℕ) → T (p (r o))) → (us : List Update) → T (list_all (λ u. list_all p (operands u)) (map (update_by r) us))
  all-passed p h [] = tt
  all-passed p h (u ∷ us) =
      both (list_all p (operands (update_by r u))) (list_all (λ u. list_all p (operands u)) (map (update_by r) us))
      (subst (λ os. T (list_all p os)) (sym (operands-by r ren u)) (passed p h (operands u))) (all-passed p h us)

  shown-by : (i : Image) → shown (image_by r i) ≡ shown i
  shown-by Gone = refl
  shown-by (File m s w bs) = refl
  shown-by (Dir m s w es) = refl

  end-reach : (b : Bool) (o : ℕ) → ◌≡◌ {A = Option ℕ} (cond b None (Some (r o))) (option_by r (cond b None (Some o)))
  end-reach true o = refl
  end-reach false o = refl

  module _ (v w : Images) (same : IsRenamed r v w) where
    -- What the renamed object shows to a test.

    pub gone-at : (o : ℕ) → is_gone (w (r o)) ≡ is_gone (v o)
    gone-at o = ap is_gone (same o) ∙ gone-by r ren (v o)

    pub dir-at : (o : ℕ) → is_dir (w (r o)) ≡ is_dir (v o)
    dir-at o = ap is_dir (same o) ∙ dir-by r ren (v o)

    pub entries-at : (o : ℕ) → entries_of (w (r o)) ≡ entries_by r (entries_of (v o))
    entries-at o = ap entries_of (same o) ∙ entries-by r ren (v o)

    pub bytes-at : (o : ℕ) → bytes_of (w (r o)) ≡ bytes_of (v o)
    bytes-at o = ap bytes_of (same o) ∙ bytes-by r ren (v o)

    pub after-by : (us : List Update) → IsRenamed r (after v us) (after w (map (update_by r) us))
    after-by us o = ap (λ i. image_after (r o) i (map (update_by r) us)) (same o) ∙ after-at r ren o (v o) us

    -- Lists of updates fit alike.

    fits-at : (us : List Update) (o : ℕ) → fits_in_turn (r o) (w (r o)) (map (update_by r) us) ≡ fits_in_turn o (v o) us
    fits-at us o = ap (λ i. fits_in_turn (r o) i (map (update_by r) us)) (same o) ∙ fits-in-turn-by r ren o (v o) us

    pub Fits-by : (us : List Update) → Fits v us → Fits w (map (update_by r) us)
    Fits-by us f = fits-tried w (map (update_by r) us)
        (all-passed (λ o. fits_in_turn o (w o) (map (update_by r) us)) (λ o. subst T (sym (fits-at us o)) (f o)) us)

    pub Fits-back : (us : List Update) → Fits w (map (update_by r) us) → Fits v us
    Fits-back us f o = subst T (fits-at us o) (f (r o))

    -- Renamed ids leave the shape.

    reach-by : (o : ℕ) (p : List (List ℕ)) → reach w (r o) p ≡ option_by r (reach v o p)
    reach-by o [] = (λ x. cond (gone-at o x) None (Some (r o))) ∙ end-reach (is_gone (v o)) o
    reach-by o (n ∷ ns) =
        (λ x. elim ((ap (λ es. entry es n) (entries-at o) ∙ entry-by r ren (entries_of (v o)) n) x) [ None ↦ None | Some q ↦ reach w q ns ])
        ∙ (elim (entry (entries_of (v o)) n) as (λ t. ◌≡◌ {A = Option ℕ} (elim (option_by r t) [ None ↦ None | Some q ↦ reach w q ns ]) (option_by r (elim t [ None ↦ None | Some q ↦ reach v q ns ]))) [
          | None ↦ refl
          | Some q ↦ reach-by q ns
        ])

    pub shape-by : HaveOneShape v w
    shape-by p =
        (elim (reach v root p) as (λ t. ◌≡◌ {A = Option (Kind × ℕ × ℕ × ℕ × List ℕ)} (elim t [ None ↦ None | Some o ↦ shown (v o) ]) (elim (option_by r t) [ None ↦ None | Some o ↦ shown (w o) ])) [
          | None ↦ refl
          | Some o ↦ sym (ap shown (same o) ∙ shown-by (v o))
        ])
        ∙ (λ x. elim ((sym (reach-by root p) ∙ ap (λ o. reach w o p) ren.root_stays) x) [ None ↦ None | Some o ↦ shown (w o) ])

  -- A well-formed volume whose own ids are kept.

  entries-kept : (es : Entries) → ((i : ℕ) (e : List ℕ × ℕ) → slice_get es i ≡ Some e → r e.1 ≡ e.1) → entries_by r es ≡ es
  entries-kept [] h = refl
  entries-kept (e ∷ es) h = λ x. (e.0, h 0 e refl x) ∷ entries-kept es (λ i f g. h (suc i) f g) x

  image-kept : (i : Image) → entries_by r (entries_of i) ≡ entries_of i → i ≡ image_by r i
  image-kept Gone e = refl
  image-kept (File m s w bs) e = refl
  image-kept (Dir m s w es) e = ap (Dir m s w) (sym e)

  is-gone : (i : Image) → is_gone i ≡ true → i ≡ Gone
  is-gone Gone e = refl
  is-gone (File m s w bs) e = absurd (true≢false (sym e))
  is-gone (Dir m s w es) e = absurd (true≢false (sym e))

  module _ (v : Images) (formed : WellFormed v) (keep : (o : ℕ) → T (not (is_gone (v o))) → r o ≡ o) where
    live : (o : ℕ) → is_gone (v o) ≡ false → r o ≡ o
    live o e = keep o (subst (λ b. T (not b)) (sym e) tt)

    itself : (o : ℕ) → v o ≡ image_by r (v o)
    itself o = image-kept (v o) (entries-kept (entries_of (v o))
        (λ i e g. keep e.1 (formed.live e.1 o e.0 (found_at by_bytes nat_list_cmp_total (entries_of (v o)) i e (formed.maps o) g))))

    still-gone : (o : ℕ) → is_gone (v o) ≡ true → is_gone (v (r o)) ≡ true
    still-gone o e = elim (cases_Bool (is_gone (v (r o)))) [
      | inl g ↦ g
      | inr l ↦
          ap (λ p. is_gone (v p)) (eqb-true (r o) o (sym (ren.apart (r o) o) ∙ ap (λ p. p == r o) (live (r o) l) ∙ grind arith)) ∙ e
    ]

    pub kept-by : IsRenamed r v v
    kept-by o = elim (cases_Bool (is_gone (v o))) [
      | inl g ↦ is-gone (v (r o)) (still-gone o g) ∙ ap (image_by r) (sym (is-gone (v o) g))
      | inr l ↦ ap v (live o l) ∙ itself o
    ]
