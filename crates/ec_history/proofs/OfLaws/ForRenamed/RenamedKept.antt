-- Over a base with renamed ids a history keeps and issues the same operations, with renamed ids.
use Rattle.std.proofs.Common.{◌≡◌, refl, sym, ap, ap₂, ◌∙◌, ℕ, not, List, [], ◌∷◌, ◌++◌, map, Option, Some, None}
use Rattle.std.proofs.lemmas.List.{map-append}
use Rattle.ec_volume.specs.Volume.{after}
use Rattle.ec_volume.specs.declared.update.Update.{Update}
use Rattle.ec_plain.specs.Plain.{plain}
use Rattle.ec_plain.specs.declared.call.Call.{Call}
use Rattle.ec_history.specs.History.{Base, History, Op, updates, is_one_of, outcome, issued_by, kept_next, kept_from, kept, issued_from, issued, touched}
use Rattle.ec_history.specs.declared.entry.Entry.{Entry}
use Rattle.ec_history.specs.declared.entry.Entry.TheVariants as entry
use Rattle.ec_history.specs.OfLaws.Renaming.{IsRenaming}
use Rattle.ec_history.specs.OfLaws.Renamed.{AreRenamed, update_by, issued_update_by, outcome_by, op_by}
use Rattle.ec_history.proofs.OfLaws.ForRenamed.Shapes.{after-by}
use Rattle.ec_history.proofs.OfLaws.ForRenamed.Calls.{plain-by}
use Rattle.ec_history.proofs.OfLaws.ForRenamed.Mapped.{filter-map}

module _ (r : ℕ → ℕ) where
  pub updates-by : (ks : List Op) → updates (map (op_by r) ks) ≡ map (update_by r) (updates ks)
  updates-by [] = refl
  updates-by (k ∷ ks) = ap (λ us. update_by r k.update ∷ us) (updates-by ks)

  -- the operation that a call issues with this update, if any
  abbrev issue : ℕ → ℕ → ℕ → ℕ → Option Update → List Op
  issue c b n p t = elim t [ None ↦ [] | Some u ↦ record { clerk = c; boot = b; number = n; place = p; update = u } ∷ [] ]

  issue-by : (c b n p : ℕ) (t : Option Update) → issue c b n p (issued_update_by r t) ≡ map (op_by r) (issue c b n p t)
  issue-by c b n p None = refl
  issue-by c b n p (Some u) = refl

module _ (r : ℕ → ℕ) (ren : IsRenaming r) (base other : Base) (same : AreRenamed r base other) where
  pub outcome-at : (ks : List Op) (p : ℕ) (cl : Call) → outcome other (map (op_by r) ks) p cl ≡ outcome_by r (outcome base ks p cl)
  outcome-at ks p cl =
      ap₂ (λ us o. plain (after other.volume us) cl o) (updates-by r ks) (same.fresh p)
      ∙ plain-by r ren (after base.volume (updates ks)) (after other.volume (map (update_by r) (updates ks))) (after-by r ren base.volume other.volume same.volume (updates ks)) cl (base.fresh p)

  issued-at : (ks : List Op) (e : ℕ × Entry) → issued_by other (map (op_by r) ks) e ≡ map (op_by r) (issued_by base ks e)
  issued-at ks (p, entry.Call c b l g cl a None) = refl
  issued-at ks (p, entry.Call c b l g cl a (Some n)) = ap (λ out. issue r c b n p out.update) (outcome-at ks p cl) ∙ issue-by r c b n p (outcome base ks p cl).update
  issued-at ks (p, entry.Loss c b ns) = refl

  pub next-at : (ks : List Op) (e : ℕ × Entry) → kept_next other (map (op_by r) ks) e ≡ map (op_by r) (kept_next base ks e)
  next-at ks (p, entry.Call c b l g cl a op) =
      ap (λ js. map (op_by r) ks ++ js) (issued-at ks (p, entry.Call c b l g cl a op)) ∙ sym (map-append (op_by r) ks (issued_by base ks (p, entry.Call c b l g cl a op)))
  next-at ks (p, entry.Loss c b ns) = filter-map (op_by r) (λ k. not (is_one_of c b ns k)) (λ k. not (is_one_of c b ns k)) (λ k. refl) ks

  kept-from-at : (ks : List Op) (h : History) → kept_from other (map (op_by r) ks) h ≡ map (op_by r) (kept_from base ks h)
  kept-from-at ks [] = refl
  kept-from-at ks (e ∷ h) = ap (λ js. kept_from other js h) (next-at ks e) ∙ kept-from-at (kept_next base ks e) h

  pub kept-at : (h : History) → kept other h ≡ map (op_by r) (kept base h)
  kept-at h = kept-from-at [] h

  issued-from-at : (ks : List Op) (h : History) → issued_from other (map (op_by r) ks) h ≡ map (op_by r) (issued_from base ks h)
  issued-from-at ks [] = refl
  issued-from-at ks (e ∷ h) =
      ap₂ (λ js is. js ++ is) (issued-at ks e) (ap (λ js. issued_from other js h) (next-at ks e) ∙ issued-from-at (kept_next base ks e) h)
      ∙ sym (map-append (op_by r) (issued_by base ks e) (issued_from base (kept_next base ks e) h))

  pub issues-at : (h : History) → issued other h ≡ map (op_by r) (issued base h)
  issues-at h = issued-from-at [] h

  -- Behind a history a call comes to the same, and an entry touches the renamed objects.

  pub outcome-now : (h : History) (p : ℕ) (cl : Call) → outcome other (kept other h) p cl ≡ outcome_by r (outcome base (kept base h) p cl)
  outcome-now h p cl = ap (λ ks. outcome other ks p cl) (kept-at h) ∙ outcome-at (kept base h) p cl

  pub touched-now : (h : History) (e : ℕ × Entry) → touched other (kept other h) e ≡ map r (touched base (kept base h) e)
  touched-now h (p, entry.Call c b l g cl a op) = ap (λ out. out.touched) (outcome-now h p cl)
  touched-now h (p, entry.Loss c b ns) = refl
