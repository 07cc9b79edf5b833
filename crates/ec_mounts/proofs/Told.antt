-- What the volumes told lost, place by place.
use Rattle.std.proofs.Common.{◌≡◌, ◌+◌, ◌<◌, ℕ, zero, suc, List, [], ◌∷◌, ◌++◌, length, take, Option, Some, None, refl, sym, ap, ◌∙◌, subst, arith}
use Rattle.std.specs.Prelude.{map, slice_get, slice_set}
use Rattle.std.proofs.lemmas.List.{append-nil, append_assoc, length-take, take_more_set}
use Rattle.ec_lock.specs.PassViews.{front}
use Rattle.ec_lock.specs.declared.types.Pass.{Pass}
use Rattle.ec_clerknode.specs.declared.state.Node.{Node}
use Rattle.ec_clerknode.specs.declared.step.Step.{Step}
use Rattle.ec_clerknode.specs.Run.{told_by}
use Rattle.ec_mounts.specs.Mounts.{AllRest, Rests, told_from}
use Rattle.ec_mounts.specs.Parts.{TookAt, told_at}
use Rattle.ec_mounts.proofs.Turning.{rests_self, rests_more}

module _ {L : Type 0} where
  pub all_rest_self : (passes : List (Pass (Node L) Step)) → AllRest passes passes
  all_rest_self [] = tt
  all_rest_self (pass ∷ passes) = (rests_self pass, all_rest_self passes)

  rest_set : (olds mids : List (Pass (Node L) Step)) (place : ℕ) (new : Pass (Node L) Step) → AllRest olds mids → ((mid : Pass (Node L) Step) → slice_get mids place ≡ Some mid → Rests mid new) → AllRest olds (slice_set mids place new)
  rest_set [] [] place new all one = tt
  rest_set [] (mid ∷ mids) place new all one = absurd all
  rest_set (old ∷ olds) [] place new all one = absurd all
  rest_set (old ∷ olds) (mid ∷ mids) zero new all one = (rests_more old mid new all.0 (one mid refl), all.1)
  rest_set (old ∷ olds) (mid ∷ mids) (suc place) new all one = (all.0, rest_set olds mids place new all.1 one)

  -- one more volume took turns
  pub all_rest_more : (olds mids news : List (Pass (Node L) Step)) (place : ℕ) → AllRest olds mids → TookAt place mids news → AllRest olds news
  all_rest_more olds mids news place all took = subst (AllRest olds) (sym took.1) (rest_set olds mids place took.0 all took.2)

  told_snoc : (n : ℕ) (passes : List (Pass (Node L) Step)) (pass : Pass (Node L) Step) → told_from n (passes ++ pass ∷ []) ≡ told_from n passes ++ map (λ ops. (n + length passes, ops)) (told_by (front pass))
  told_snoc n [] pass = append-nil _ ∙ ap (λ k. map (λ ops. (k, ops)) (told_by (front pass))) (omega arith)
  told_snoc n (one ∷ passes) pass =
      let here = map (λ ops. (n, ops)) (told_by (front one)) in
      ap (λ l. here ++ l) (told_snoc (n + 1) passes pass ∙ ap (λ k. told_from (n + 1) passes ++ map (λ ops. (k, ops)) (told_by (front pass))) (omega arith))
      ∙ sym (append_assoc here (told_from (n + 1) passes) (map (λ ops. (n + length (one ∷ passes), ops)) (told_by (front pass))))

  told_set : (passes : List (Pass (Node L) Step)) (place : ℕ) (new : Pass (Node L) Step) → place < length passes → told_at place (slice_set passes place new) ≡ told_by (front new)
  told_set [] place new l = absurd (omega (arith, l))
  told_set (pass ∷ passes) zero new l = refl
  told_set (pass ∷ passes) (suc place) new l = told_set passes place new (omega (arith, l))

  taken : (passes : List (Pass (Node L) Step)) (place : ℕ) → place < length passes → 0 + length (take place passes) ≡ place
  taken passes place l = omega (arith, length-take place passes)

  -- what was told up to one volume more
  pub told_more : (mids news : List (Pass (Node L) Step)) (place : ℕ) → TookAt place mids news → place < length mids
      → told_from 0 (take (place + 1) news) ≡ told_from 0 (take place mids) ++ map (λ ops. (place, ops)) (told_at place news)
  told_more mids news place took l =
      let new = took.0 in
      ap (λ passes. told_from 0 (take (place + 1) passes)) took.1
      ∙ (ap (told_from 0) (take_more_set mids place new l)
      ∙ (told_snoc 0 (take place mids) new
      ∙ (ap (λ k. told_from 0 (take place mids) ++ map (λ ops. (k, ops)) (told_by (front new))) (taken mids place l)
      ∙ ap (λ lists. told_from 0 (take place mids) ++ map (λ ops. (place, ops)) lists) (sym (ap (told_at place) took.1 ∙ told_set mids place new l)))))

module _ {L S : Type 0} (pass_of : S → Pass (Node L) Step) where
  pub told_put : (parts : List S) (place : ℕ) (part : S) → place < length parts → told_at place (map pass_of (slice_set parts place part)) ≡ told_by (front (pass_of part))
  told_put [] place part l = absurd (omega (arith, l))
  told_put (p ∷ parts) zero part l = refl
  told_put (p ∷ parts) (suc place) part l = told_put parts place part (omega (arith, l))
