-- Calls on the plain volume with renamed ids.
use Rattle.std.proofs.Common.{◌≡◌, refl, sym, ap, ◌∙◌, subst, ◌+◌, ℕ, Bool, true, false, ◌==◌, List, [], ◌∷◌, ◌++◌, map}
use Rattle.std.specs.Prelude.{Option, None, Some, drop}
use Rattle.ec_volume.specs.Volume.{Images, after}
use Rattle.ec_volume.specs.declared.update.Update.{Update}
use Rattle.ec_plain.specs.declared.call.Call.{Call}
use Rattle.ec_plain.specs.declared.call.Outcome.{Outcome}
use Rattle.ec_history.specs.declared.entry.Answer.TheVariants as answer
use Rattle.ec_history.specs.declared.shown.Shown.TheVariants as show
use Rattle.ec_history.specs.OfLaws.Renaming.{IsRenaming}
use Rattle.ec_history.specs.OfLaws.Renamed.{IsRenamed, issued_update_by, outcome_by, update_by}
use Rattle.ec_history.proofs.OfLaws.ForRenamed.Calls.{plain-by}
use Rattle.ec_history.proofs.OfLaws.ForRenamed.Shapes.{after-by}
use Rattle.ec_machine_laws.specs.Answers.{Asking, Plainly, after_call, answers_to, first_number, none_yet, operation_number, outcome_on}
use Rattle.ec_complete.specs.Ids.{behind_calls}

module _ (r : ℕ → ℕ) (ren : IsRenaming r) (zero-stays : r 0 ≡ 0) (v : Images) (same : IsRenamed r v v) where
  -- the same operations were issued, with renamed ids
  record Alike (s t : Plainly) : Type 0 where
    updates : t.updates ≡ map (update_by r) s.updates
    issued : (c : ℕ) → t.issued c ≡ s.issued c

  first-by : (ids : List ℕ) → first_number (map r ids) ≡ r (first_number ids)
  first-by [] = sym zero-stays
  first-by (id ∷ ids) = refl

  rest-by : (ids : List ℕ) → drop 1 (map r ids) ≡ map r (drop 1 ids)
  rest-by [] = refl
  rest-by (id ∷ ids) = refl

  mapped-more : (us : List Update) (u : Update) → map (update_by r) (us ++ u ∷ []) ≡ map (update_by r) us ++ update_by r u ∷ []
  mapped-more [] u = refl
  mapped-more (x ∷ us) u = ap (λ l. update_by r x ∷ l) (mapped-more us u)

  outcome-by : (s t : Plainly) → Alike s t → (cl : Call) (ids : List ℕ) → outcome_on v t cl (first_number (map r ids)) ≡ outcome_by r (outcome_on v s cl (first_number ids))
  outcome-by s t a cl ids = (λ z. Rattle.ec_plain.specs.Plain.plain (after v (a.updates z)) cl (first-by ids z)) ∙ plain-by r ren (after v s.updates) (after v (map (update_by r) s.updates)) (after-by r ren v v same s.updates) cl (first_number ids)

  -- behind one more call, and its number
  goes-on : (s t : Plainly) → Alike s t → (c : ℕ) (u : Option Update) → Alike (after_call s c u) (after_call t c (issued_update_by r u))
  goes-on s t a c None = a
  goes-on s t a c (Some u) = record {
    updates = ap (λ us. us ++ update_by r u ∷ []) a.updates ∙ sym (mapped-more s.updates u);
    issued = λ d. counted d (d == c);
  }
    where
      counted : (d : ℕ) (b : Bool) → elim b as (λ z. ℕ) [ true ↦ t.issued d + 1 | false ↦ t.issued d ] ≡ elim b as (λ z. ℕ) [ true ↦ s.issued d + 1 | false ↦ s.issued d ]
      counted d true = ap (λ n. n + 1) (a.issued d)
      counted d false = a.issued d

  number-by : (s t : Plainly) → Alike s t → (c : ℕ) (u : Option Update) → operation_number t c (issued_update_by r u) ≡ operation_number s c u
  number-by s t a c None = refl
  number-by s t a c (Some u) = ap (λ n. Some (n + 1)) (a.issued c)

  -- with these ids in the second
  abbrev AnswersBy : Plainly → Plainly → List ℕ → List Asking → List ℕ → Type 0
  AnswersBy s t ids qs others = (answers_to v t others qs ≡ answers_to v s ids qs) × ((c : ℕ) → (behind_calls v t others qs).issued c ≡ (behind_calls v s ids qs).issued c)

  abbrev Answers : Plainly → Plainly → List ℕ → List Asking → Type 0
  Answers s t ids qs = AnswersBy s t ids qs (map r ids)

  -- one call, and those behind it
  module _ (s t : Plainly) (a : Alike s t) (ids : List ℕ) (q : Asking) (qs : List Asking) where
    abbrev o : Outcome
    o = outcome_on v s q.2 (first_number ids)

    abbrev p : Outcome
    p = outcome_on v t q.2 (first_number (map r ids))

    is : p ≡ outcome_by r o
    is = outcome-by s t a q.2 ids

    number : operation_number t q.1 p.update ≡ operation_number s q.1 o.update
    number = ap (λ (x : Outcome). operation_number t q.1 x.update) is ∙ number-by s t a q.1 o.update

    next : Alike (after_call s q.1 o.update) (after_call t q.1 p.update)
    next = subst (λ (x : Outcome). Alike (after_call s q.1 o.update) (after_call t q.1 x.update)) (sym is) (goes-on s t a q.1 o.update)

    more : Answers (after_call s q.1 o.update) (after_call t q.1 p.update) (drop 1 ids) qs → Answers s t ids (q ∷ qs)
    more then =
        let turned : AnswersBy (after_call s q.1 o.update) (after_call t q.1 p.update) (drop 1 ids) qs (drop 1 (map r ids)) = subst (AnswersBy (after_call s q.1 o.update) (after_call t q.1 p.update) (drop 1 ids) qs) (sym (rest-by ids)) then in
        (λ z. show.Answered q.0 q.1 q.2 (answer.Reply (is z).reply) (number z) ∷ turned.0 z, turned.1)

  alike : (qs : List Asking) (s t : Plainly) (ids : List ℕ) → Alike s t → Answers s t ids qs
  alike [] s t ids a = (refl, a.issued)
  alike (q ∷ qs) s t ids a = more s t a ids q qs (alike qs (after_call s q.1 (o s t a ids q qs).update) (after_call t q.1 (p s t a ids q qs).update) (drop 1 ids) (next s t a ids q qs))

  pub alike-all : (ids : List ℕ) (qs : List Asking) → (answers_to v none_yet (map r ids) qs ≡ answers_to v none_yet ids qs) × ((c : ℕ) → (behind_calls v none_yet (map r ids) qs).issued c ≡ (behind_calls v none_yet ids qs).issued c)
  alike-all ids qs = alike qs none_yet none_yet ids (record { updates = refl; issued = λ c. refl })
