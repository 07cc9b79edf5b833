-- Over a base with renamed ids a start owes the same, with renamed objects.
use Rattle.std.proofs.Common.{◌≡◌, refl, sym, ap, ap₂, ◌∙◌, ℕ, not, ◌||◌, cond, List, [], ◌∷◌, ◌++◌, map}
use Rattle.std.specs.Prelude.{◌==◌}
use Rattle.std.specs.List.{filter}
use Rattle.std.proofs.lemmas.List.{map-append}
use Rattle.ec_volume.specs.Update.{operands}
use Rattle.ec_plain.specs.Plain.{is_sync}
use Rattle.ec_plain.specs.declared.call.Call.{Call}
use Rattle.ec_plain.specs.declared.call.Outcome.{Outcome}
use Rattle.ec_history.specs.History.{Base, History, Op, same_start, is_one_of, outcome, kept_next, kept, Owed, pairs_of, meets, owed_next, owed_from, owed, distinct_numbers, due}
use Rattle.ec_history.specs.declared.entry.Entry.{Entry}
use Rattle.ec_history.specs.declared.entry.Entry.TheVariants as entry
use Rattle.ec_history.specs.OfLaws.Renaming.{IsRenaming}
use Rattle.ec_history.specs.OfLaws.Renamed.{AreRenamed, outcome_by, op_by, owed_by}
use Rattle.ec_history.proofs.OfLaws.ForRenamed.Images.{member-by, operands-by}
use Rattle.ec_history.proofs.OfLaws.ForRenamed.Mapped.{cond-map, filter-map}
use Rattle.ec_history.proofs.OfLaws.ForRenamed.RenamedKept.{outcome-at, next-at, outcome-now}

module _ (r : ℕ → ℕ) (ren : IsRenaming r) where
  abbrev pair_by : ℕ × ℕ → ℕ × ℕ
  pair_by q = (q.0, r q.1)

  owed-pairs : (qs : Owed) → map pair_by qs ≡ owed_by r qs
  owed-pairs [] = refl
  owed-pairs (q ∷ qs) = ap (λ ps. (q.0, r q.1) ∷ ps) (owed-pairs qs)

  meets-at : (out : Outcome) (cl : Call) (q : ℕ × ℕ) → meets (outcome_by r out) cl (pair_by q) ≡ meets out cl q
  meets-at out cl q = ap (λ b. is_sync cl || b) (member-by r ren q.1 out.touched)

  pairs-map : (n : ℕ) (os : List ℕ) → map (λ o. (n, o)) (map r os) ≡ map pair_by (map (λ o. (n, o)) os)
  pairs-map n [] = refl
  pairs-map n (o ∷ os) = ap (λ qs. (n, r o) ∷ qs) (pairs-map n os)

  pairs-at : (ks : List Op) → pairs_of (map (op_by r) ks) ≡ map pair_by (pairs_of ks)
  pairs-at [] = refl
  pairs-at (k ∷ ks) =
      ap₂ (λ xs ys. xs ++ ys) (ap (map (λ o. (k.number, o))) (operands-by r ren k.update) ∙ pairs-map k.number (operands k.update)) (pairs-at ks)
      ∙ sym (map-append pair_by (map (λ o. (k.number, o)) (operands k.update)) (pairs_of ks))

  distinct-at : (qs : Owed) → distinct_numbers (map pair_by qs) ≡ distinct_numbers qs
  distinct-at [] = refl
  distinct-at (q ∷ qs) = ap (λ ns. q.0 ∷ filter (λ n. not (n == q.0)) ns) (distinct-at qs)

  module _ (base other : Base) (same : AreRenamed r base other) (c b : ℕ) where
    owed-next-at : (ks : List Op) (qs : Owed) (e : ℕ × Entry) → owed_next other c b (map (op_by r) ks) (map pair_by qs) e ≡ map pair_by (owed_next base c b ks qs e)
    owed-next-at ks qs (p, entry.Call d e l g cl a op) =
        ap (λ xs. cond (same_start c b d e) xs (map pair_by qs))
        (ap (λ out. filter (λ q. not (meets out cl q)) (map pair_by qs)) (outcome-at r ren base other same ks p cl)
        ∙ filter-map pair_by (λ q. not (meets (outcome_by r (outcome base ks p cl)) cl q)) (λ q. not (meets (outcome base ks p cl) cl q)) (λ q. ap not (meets-at (outcome base ks p cl) cl q)) qs)
        ∙ cond-map pair_by (same_start c b d e) (filter (λ q. not (meets (outcome base ks p cl) cl q)) qs) qs
    owed-next-at ks qs (p, entry.Loss d e ns) =
        ap (λ xs. cond (same_start c b d e) xs (map pair_by qs))
        (ap (λ js. map pair_by qs ++ pairs_of js) (filter-map (op_by r) (is_one_of d e ns) (is_one_of d e ns) (λ k. refl) ks)
        ∙ ap (λ ps. map pair_by qs ++ ps) (pairs-at (filter (is_one_of d e ns) ks)) ∙ sym (map-append pair_by qs (pairs_of (filter (is_one_of d e ns) ks))))
        ∙ cond-map pair_by (same_start c b d e) (qs ++ pairs_of (filter (is_one_of d e ns) ks)) qs

    owed-from-at : (ks : List Op) (qs : Owed) (h : History) → owed_from other c b (map (op_by r) ks) (map pair_by qs) h ≡ map pair_by (owed_from base c b ks qs h)
    owed-from-at ks qs [] = refl
    owed-from-at ks qs (e ∷ h) =
        ap₂ (λ js ps. owed_from other c b js ps h) (next-at r ren base other same ks e) (owed-next-at ks qs e) ∙ owed-from-at (kept_next base ks e) (owed_next base c b ks qs e) h

    pub owed-at : (h : History) → owed other h c b ≡ owed_by r (owed base h c b)
    owed-at h = owed-from-at [] [] h ∙ owed-pairs (owed base h c b)

    -- The same calls have to report it.
    pub due-at : (h : History) (p : ℕ) (cl : Call) → due other h c b p cl ≡ due base h c b p cl
    due-at h p cl =
        ap₂ (λ out qs. distinct_numbers (filter (meets out cl) qs)) (outcome-now r ren base other same h p cl) (owed-from-at [] [] h)
        ∙ ap distinct_numbers (filter-map pair_by (meets (outcome_by r (outcome base (kept base h) p cl)) cl) (meets (outcome base (kept base h) p cl) cl) (meets-at (outcome base (kept base h) p cl) cl) (owed base h c b))
        ∙ distinct-at (filter (meets (outcome base (kept base h) p cl) cl) (owed base h c b))
