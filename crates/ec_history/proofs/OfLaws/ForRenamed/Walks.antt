-- A walk in a volume with renamed ids reads the renamed objects.
use Rattle.std.proofs.Common.{◌≡◌, refl, sym, ap, ◌∙◌, ◌+◌, ◌-◌, ℕ, Bool, true, false, cond, List, [], ◌∷◌, ◌++◌, map, length, Option, Some, None}
use Rattle.ec_volume.specs.Entries.{Entries, entry}
use Rattle.ec_volume.specs.Image.{is_gone, is_dir, entries_of}
use Rattle.ec_volume.specs.Update.{root}
use Rattle.ec_volume.specs.Volume.{Images}
use Rattle.ec_volume.specs.declared.image.Image.TheVariants.{Gone, File, Dir}
use Rattle.ec_plain.specs.Walk.{Path, Reached, At, Not, Walk, reading, stop, walk_from, walk, parent_of, last_of}
use Rattle.ec_plain.specs.Plain.{refuses, on_reached, on_parent, on_entry}
use Rattle.ec_plain.specs.declared.call.Refusal.TheVariants as no
use Rattle.ec_plain.specs.declared.call.Outcome.{Outcome}
use Rattle.ec_history.specs.OfLaws.Renaming.{IsRenaming, entries_by, image_by}
use Rattle.ec_history.specs.OfLaws.Renamed.{option_by, outcome_by, IsRenamed}
use Rattle.ec_history.proofs.OfLaws.ForRenamed.Images.{entry-by}
use Rattle.ec_history.proofs.OfLaws.ForRenamed.Shapes.{gone-at, dir-at, entries-at}

module _ (r : ℕ → ℕ) (ren : IsRenaming r) where
  abbrev pub reached_by : Reached → Reached
  reached_by (At o) = At (r o)
  reached_by (Not f) = Not f

  abbrev pub walk_by : Walk → Walk
  walk_by w = record { to = reached_by w.to; read = map r w.read }

  pub map-snoc : (os : List ℕ) (o : ℕ) → map r (os ++ o ∷ []) ≡ map r os ++ r o ∷ []
  map-snoc [] o = refl
  map-snoc (p ∷ os) o = ap (λ ps. r p ∷ ps) (map-snoc os o)

  pub cond-out : (b : Bool) (x y : Outcome) → cond b (outcome_by r x) (outcome_by r y) ≡ outcome_by r (cond b x y)
  cond-out true x y = refl
  cond-out false x y = refl

  end-by : (b : Bool) (i o : ℕ) → cond b (Not (no.NotFound i)) (At (r o)) ≡ reached_by (cond b (Not (no.NotFound i)) (At o))
  end-by true i o = refl
  end-by false i o = refl

  module _ (v w : Images) (same : IsRenamed r v w) where
    walk-by : (i o : ℕ) (ns : Path) → walk_from w i (r o) ns ≡ walk_by (walk_from v i o ns)
    walk-by i o [] = λ x. record { to = ((λ y. cond (gone-at r ren v w same o y) (Not (no.NotFound i)) (At (r o))) ∙ end-by (is_gone (v o)) i o) x; read = r o ∷ [] }
    walk-by i o (n ∷ ns) =
        (λ x. reading (r o) (elim (same o x) [
          | Gone ↦ stop (Not (no.NotFound i))
          | File m s u bs ↦ stop (Not (no.NotDir i))
          | Dir m s u es ↦ elim (entry es n) [ None ↦ stop (Not (no.NotFound (i + 1))) | Some p ↦ walk_from w (i + 1) p ns ]
        ]))
        ∙ (elim (v o) as (λ j. reading (r o) (elim (image_by r j) [
          | Gone ↦ stop (Not (no.NotFound i))
          | File m s u bs ↦ stop (Not (no.NotDir i))
          | Dir m s u es ↦ elim (entry es n) [ None ↦ stop (Not (no.NotFound (i + 1))) | Some p ↦ walk_from w (i + 1) p ns ]
        ]) ≡ walk_by (reading o (elim j [
          | Gone ↦ stop (Not (no.NotFound i))
          | File m s u bs ↦ stop (Not (no.NotDir i))
          | Dir m s u es ↦ elim (entry es n) [ None ↦ stop (Not (no.NotFound (i + 1))) | Some p ↦ walk_from v (i + 1) p ns ]
        ]))) [
          | Gone ↦ refl
          | File m s u bs ↦ refl
          | Dir m s u es ↦
              (λ x. reading (r o) (elim (entry-by r ren es n x) [ None ↦ stop (Not (no.NotFound (i + 1))) | Some p ↦ walk_from w (i + 1) p ns ]))
              ∙ (elim (entry es n) as (λ q. reading (r o) (elim (option_by r q) [ None ↦ stop (Not (no.NotFound (i + 1))) | Some p ↦ walk_from w (i + 1) p ns ])
              ≡ walk_by (reading o (elim q [ None ↦ stop (Not (no.NotFound (i + 1))) | Some p ↦ walk_from v (i + 1) p ns ]))) [
                | None ↦ refl
                | Some p ↦ ap (reading (r o)) (walk-by (i + 1) p ns)
              ])
        ])

    pub path-by : (p : Path) → walk w p ≡ walk_by (walk v p)
    path-by p = ap (λ o. walk_from w 0 o p) (sym ren.root_stays) ∙ walk-by 0 root p

    -- What comes once a walk has reached an object, its parent or both.

    reached-by : (x : Walk) (f g : ℕ → List ℕ → Outcome) → ((o : ℕ) (os : List ℕ) → f (r o) (map r os) ≡ outcome_by r (g o os)) → on_reached (walk_by x) f ≡ outcome_by r (on_reached x g)
    reached-by x f g h = elim (x.to) as (λ t. elim (reached_by t) [ At o ↦ f o (map r x.read) | Not q ↦ refuses q (map r x.read) ] ≡ outcome_by r (elim t [ At o ↦ g o x.read | Not q ↦ refuses q x.read ])) [
      | At o ↦ h o x.read
      | Not q ↦ refl
    ]

    pub on-path : (p : Path) (f g : ℕ → List ℕ → Outcome) → ((o : ℕ) (os : List ℕ) → f (r o) (map r os) ≡ outcome_by r (g o os)) → on_reached (walk w p) f ≡ outcome_by r (on_reached (walk v p) g)
    on-path p f g h = ap (λ x. on_reached x f) (path-by p) ∙ reached-by (walk v p) f g h

    pub on-parent : (p : Path) (f g : ℕ → Entries → List ℕ → Outcome) → ((d : ℕ) (es : Entries) (os : List ℕ) → f (r d) (entries_by r es) (map r os) ≡ outcome_by r (g d es os)) → on_parent w p f ≡ outcome_by r (on_parent v p g)
    on-parent p f g h = on-path (parent_of p) (λ d os. cond (is_dir (w d)) (f d (entries_of (w d)) os) (refuses (no.NotDir (length p - 1)) os)) (λ d os. cond (is_dir (v d)) (g d (entries_of (v d)) os) (refuses (no.NotDir (length p - 1)) os))
        (λ d os. (λ x. cond (dir-at r ren v w same d x) ((ap (λ es. f (r d) es (map r os)) (entries-at r ren v w same d) ∙ h d (entries_of (v d)) os) x) (refuses (no.NotDir (length p - 1)) (map r os)))
        ∙ cond-out (is_dir (v d)) (g d (entries_of (v d)) os) (refuses (no.NotDir (length p - 1)) os))

    abbrev found : Images → Path → (ℕ → Entries → ℕ → List ℕ → Outcome) → ℕ → Entries → List ℕ → Option ℕ → Outcome
    found x p f d es os None = refuses (no.NotFound (length p)) os
    found x p f d es os (Some o) = cond (is_gone (x o)) (refuses (no.NotFound (length p)) (os ++ o ∷ [])) (f d es o (os ++ o ∷ []))

    pub on-entry : (p : Path) (f g : ℕ → Entries → ℕ → List ℕ → Outcome) → ((d : ℕ) (es : Entries) (o : ℕ) (os : List ℕ) → f (r d) (entries_by r es) (r o) (map r os) ≡ outcome_by r (g d es o os)) → on_entry w p f ≡ outcome_by r (on_entry v p g)
    on-entry p f g h = on-parent p (λ d es os. found w p f d es os (entry es (last_of p))) (λ d es os. found v p g d es os (entry es (last_of p)))
        (λ d es os. ap (found w p f (r d) (entries_by r es) (map r os)) (entry-by r ren es (last_of p)) ∙ go d es os (entry es (last_of p)))
      where
        go : (d : ℕ) (es : Entries) (os : List ℕ) (x : Option ℕ) → found w p f (r d) (entries_by r es) (map r os) (option_by r x) ≡ outcome_by r (found v p g d es os x)
        go d es os None = refl
        go d es os (Some o) =
            (λ x. cond (gone-at r ren v w same o x) (refuses (no.NotFound (length p)) (sym (map-snoc os o) x)) ((ap (f (r d) (entries_by r es) (r o)) (sym (map-snoc os o)) ∙ h d es o (os ++ o ∷ [])) x))
            ∙ cond-out (is_gone (v o)) (refuses (no.NotFound (length p)) (os ++ o ∷ [])) (g d es o (os ++ o ∷ []))
