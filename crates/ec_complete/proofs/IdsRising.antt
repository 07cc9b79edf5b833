-- With other rising ids the answers are the same.
use Rattle.std.proofs.Common.{◌≡◌, refl, sym, ap, ◌∙◌, subst, arith, ◌≤◌, ℕ, Bool, true, false, ◌==◌, List, map}
use Rattle.std.proofs.lemmas.Bool.{eq-eqb, eqb-true}
use Rattle.ec_history.specs.OfLaws.Renaming.{IsRenaming}
use Rattle.ec_history.specs.OfLaws.Renamed.{IsRenamed}
use Rattle.ec_history.proofs.OfLaws.ForRenamed.Shapes.{kept-by}
use Rattle.ec_machine_laws.specs.Answers.{answers_to, none_yet}
use Rattle.ec_complete.specs.Ids.{AreAbove, RisingIdsAnswerAlike, behind_calls}
use Rattle.ec_complete.proofs.Exchanging.{exchange, injective, mapped, stays}
use Rattle.ec_complete.proofs.Alike.{alike-all}

module _ (top : ℕ) (ids others : List ℕ) (a : AreAbove top ids) (b : AreAbove top others) (one : 1 ≤ top) where
  abbrev r : ℕ → ℕ
  r = exchange top ids others a b

  two-ids : (x z : ℕ) → (r x == r z) ≡ (x == z)
  two-ids x z = go (x == z) refl (r x == r z) refl
    where
      go : (s : Bool) → (x == z) ≡ s → (t : Bool) → (r x == r z) ≡ t → t ≡ s
      go true p t q = sym q ∙ eq-eqb (r x) (r z) (ap r (eqb-true x z p))
      go false p false q = refl
      go false p true q = sym (eq-eqb x z (injective top ids others a b x z (eqb-true (r x) (r z) q))) ∙ p

  pub renames : IsRenaming r
  renames = record { apart = two-ids; root_stays = stays top ids others a b 1 one }

pub rising-answer : RisingIdsAnswerAlike
rising-answer v top ids others qs formed gone least one a b l = subst (λ os. (answers_to v none_yet ids qs ≡ answers_to v none_yet os qs) × ((c : ℕ) → (behind_calls v none_yet ids qs).issued c ≡ (behind_calls v none_yet os qs).issued c)) (mapped top ids others a b l) (sym both.0, λ c. sym (both.1 c))
  where
    r : ℕ → ℕ
    r = exchange top ids others a b

    renamed : IsRenamed (exchange top ids others a b) v v
    renamed = kept-by (exchange top ids others a b) (renames top ids others a b one) v formed (λ o live. stays top ids others a b o (least o live))

    both : (answers_to v none_yet (map (exchange top ids others a b) ids) qs ≡ answers_to v none_yet ids qs) × ((c : ℕ) → (behind_calls v none_yet (map (exchange top ids others a b) ids) qs).issued c ≡ (behind_calls v none_yet ids qs).issued c)
    both = alike-all (exchange top ids others a b) (renames top ids others a b one) (stays top ids others a b 0 (omega arith)) v renamed ids qs
