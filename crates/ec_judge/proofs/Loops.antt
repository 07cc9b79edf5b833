-- Single steps of loops.
use Rattle.std.proofs.Common.{◌≡◌, refl, sym, ap, subst, ◌∙◌, ◌<◌, ◌+◌, ℕ, suc, T, Bool, true, false, not, ◌==◌, ◌&&◌, ◌||◌, cond, map, List, [], ◌∷◌, ◌++◌, length, take, drop, get_or, Some, None, append-nil, append_assoc, add-one, drop-cons}
use Rattle.std.specs.List.{filter, list_all, list_any}
use Rattle.std.proofs.lemmas.Bool.{cond-true, cond-false, and_from, true≢false}
use Rattle.std.proofs.lemmas.List.{take_more, take-append-drop}
use Rattle.std.proofs.lemmas.List.Elements.{filter-append}
use Rattle.std.proofs.lemmas.List.Folds.{list_all-append}
use Rattle.ec_volume.specs.Update.{member, operands, is_sound, first_unfit}
use Rattle.ec_volume.specs.Volume.{Images, formatted, after, Fits}
use Rattle.ec_order.specs.Order.{before}
use Rattle.ec_volume.specs.declared.update.Update.{Update}
use Rattle.ec_history.specs.History.{Op, Owed, updates, pairs_of}
use Rattle.ec_history.specs.Legal.{is_closed}
use Rattle.ec_pending.proofs.OfOutside.Known.{any-either, any-same}
use Rattle.ec_judge.specs.declared.carried.Kept.{Kept}
use Rattle.ec_judge.proofs.Volumes.{fits-more, after-more, unfit-not}
use Rattle.ec_judge.specs.Carried.{op_of, ops_of, IsFrontKept}
use Rattle.ec_base.proofs.Bools.{first as left, right}
use Rattle.ec_base.proofs.Numbers.{flip_too}

-- Two lists with a common number.

any-none : (xs : List ℕ) → false ≡ list_any (λ x. false) xs
any-none [] = refl
any-none (x ∷ xs) = any-none xs

pub any-flip : (xs ys : List ℕ) → list_any (λ x. member x ys) xs ≡ list_any (λ y. member y xs) ys
any-flip [] ys = any-none ys
any-flip (x ∷ xs) ys =
    ap (λ b. b || list_any (λ z. member z ys) xs) (any-same (λ y. x == y) (λ y. y == x) (flip_too x) ys)
    ∙ ap (λ b. list_any (λ y. y == x) ys || b) (any-flip xs ys)
    ∙ sym (any-either (λ y. y == x) (λ y. member y xs) ys)

-- Kept operations, one more.

module _ (ks : List Kept) (i : ℕ) (k : Kept) (within : i < length ks) (is : k ≡ get_or ks i k) where
  pub front-more : take (i + 1) ks ≡ take i ks ++ k ∷ []
  front-more = take_more ks i k within ∙ ap (λ z. take i ks ++ z ∷ []) (sym is)

  pub back-more : drop i ks ≡ k ∷ drop (i + 1) ks
  back-more = drop-cons ks i k within ∙ ap (λ x. x ∷ drop (suc i) ks) (sym is) ∙ ap (λ n. k ∷ drop n ks) (sym (add-one i))

  pub cut-at : take i ks ++ k ∷ drop (i + 1) ks ≡ ks
  cut-at = ap (λ l. take i ks ++ l) (sym back-more) ∙ take-append-drop i ks

  ops-front : ops_of (take (i + 1) ks) ≡ ops_of (take i ks) ++ op_of k ∷ []
  ops-front = ap ops_of front-more ∙ ops-more (take i ks)
    where
      ops-more : (js : List Kept) → ops_of (js ++ k ∷ []) ≡ ops_of js ++ op_of k ∷ []
      ops-more [] = refl
      ops-more (j ∷ js) = ap (λ l. op_of j ∷ l) (ops-more js)

  -- of the front, those that pass
  pub part-front : (q : Op → Bool) → filter q (ops_of (take (i + 1) ks)) ≡ filter q (ops_of (take i ks)) ++ cond (q (op_of k)) (op_of k ∷ []) []
  part-front q = ap (filter q) ops-front ∙ filter-append q (ops_of (take i ks)) (op_of k ∷ [])

  pub part-all : (q : Op → Bool) → filter q (ops_of ks) ≡ filter q (ops_of (take i ks)) ++ cond (q (op_of k)) (op_of k ∷ filter q (ops_of (drop (i + 1) ks))) (filter q (ops_of (drop (i + 1) ks)))
  part-all q = ap (λ l. filter q (ops_of l)) (sym cut-at) ∙ ap (filter q) (ops-append (take i ks) (k ∷ drop (i + 1) ks)) ∙ filter-append q (ops_of (take i ks)) (ops_of (k ∷ drop (i + 1) ks))
    where
      ops-append : (xs ys : List Kept) → ops_of (xs ++ ys) ≡ ops_of xs ++ ops_of ys
      ops-append [] ys = refl
      ops-append (x ∷ xs) ys = ap (λ l. op_of x ∷ l) (ops-append xs ys)

  pub sound-at : T (list_all is_sound (updates (ops_of ks))) → T (is_sound k.update)
  sound-at s = behind (take i ks) (subst (λ l. T (list_all is_sound (updates (ops_of l)))) (sym cut-at) s)
    where
      behind : (js : List Kept) → T (list_all is_sound (updates (ops_of (js ++ k ∷ drop (i + 1) ks)))) → T (is_sound k.update)
      behind [] t = left (is_sound k.update) _ t
      behind (j ∷ js) t = behind js (right (is_sound j.update) _ t)

  pub all-fails : (p q : Op → Bool) → q (op_of k) ≡ true → p (op_of k) ≡ false → false ≡ list_all p (filter q (ops_of ks))
  all-fails p q a b = sym (ap (list_all p) (part-all q) ∙ ap (λ x. list_all p (filter q (ops_of (take i ks)) ++ cond x (op_of k ∷ filter q (ops_of (drop (i + 1) ks))) (filter q (ops_of (drop (i + 1) ks))))) a ∙ fails (filter q (ops_of (take i ks))))
    where
      fails : (js : List Op) → list_all p (js ++ op_of k ∷ filter q (ops_of (drop (i + 1) ks))) ≡ false
      fails [] = ap (λ x. x && list_all p (filter q (ops_of (drop (i + 1) ks)))) b
      fails (j ∷ js) = ap (λ x. p j && x) (fails js) ∙ off (p j)
        where
          off : (x : Bool) → (x && false) ≡ false
          off true = refl
          off false = refl

  pub all-next : (p q : Op → Bool) → list_all p (filter q (ops_of (take i ks))) ≡ true → (q (op_of k) && not (p (op_of k))) ≡ false → list_all p (filter q (ops_of (take (i + 1) ks))) ≡ true
  all-next p q h e = ap (list_all p) (part-front q) ∙ list_all-append p (filter q (ops_of (take i ks))) (cond (q (op_of k)) (op_of k ∷ []) []) ∙ and_from _ _ h (go (q (op_of k)) (p (op_of k)) refl e)
    where
      go : (x y : Bool) → p (op_of k) ≡ y → (x && not y) ≡ false → list_all p (cond x (op_of k ∷ []) []) ≡ true
      go true true d f = ap (λ z. z && true) d
      go true false d f = absurd (true≢false f)
      go false y d f = refl

  -- the lost ones' pairs
  pub pairs-more : (q : Op → Bool) → pairs_of (filter q (ops_of (take (i + 1) ks))) ≡ pairs_of (filter q (ops_of (take i ks))) ++ cond (q (op_of k)) (map (λ o. (k.number, o)) (operands k.update)) []
  pairs-more q = ap pairs_of (part-front q) ∙ pairs-append (filter q (ops_of (take i ks))) (cond (q (op_of k)) (op_of k ∷ []) []) ∙ ap (λ l. pairs_of (filter q (ops_of (take i ks))) ++ l) (go (q (op_of k)))
    where
      pairs-append : (xs ys : List Op) → pairs_of (xs ++ ys) ≡ pairs_of xs ++ pairs_of ys
      pairs-append [] ys = refl
      pairs-append (x ∷ xs) ys = ap (λ l. map (λ o. (x.number, o)) (operands x.update) ++ l) (pairs-append xs ys) ∙ sym (append_assoc (map (λ o. (x.number, o)) (operands x.update)) (pairs_of xs) (pairs_of ys))

      go : (x : Bool) → pairs_of (cond x (op_of k ∷ []) []) ≡ cond x (map (λ o. (k.number, o)) (operands k.update)) []
      go true = append-nil _
      go false = refl

  pub owed-takes : (q : Op → Bool) (start old new : Owed) (objs : List ℕ) → q (op_of k) ≡ true → old ≡ start ++ pairs_of (filter q (ops_of (take i ks))) → new ≡ old ++ map (λ o. (k.number, o)) objs → objs ≡ operands k.update
      → new ≡ start ++ pairs_of (filter q (ops_of (take (i + 1) ks)))
  owed-takes q start old new objs lost was now os =
      now
      ∙ ap (λ l. old ++ map (λ o. (k.number, o)) l) os
      ∙ ap (λ l. l ++ map (λ o. (k.number, o)) (operands k.update)) was
      ∙ append_assoc start (pairs_of (filter q (ops_of (take i ks)))) (map (λ o. (k.number, o)) (operands k.update))
      ∙ ap (λ l. start ++ l) (sym (pairs-more q ∙ ap (λ l. pairs_of (filter q (ops_of (take i ks))) ++ l) (cond-true (q (op_of k)) (map (λ o. (k.number, o)) (operands k.update)) [] lost)))

  pub owed-skips : (q : Op → Bool) (start old : Owed) → q (op_of k) ≡ false → old ≡ start ++ pairs_of (filter q (ops_of (take i ks))) → old ≡ start ++ pairs_of (filter q (ops_of (take (i + 1) ks)))
  owed-skips q start old kept was =
      was ∙ ap (λ l. start ++ l) (sym (pairs-more q ∙ ap (λ l. pairs_of (filter q (ops_of (take i ks))) ++ l) (cond-false (q (op_of k)) (map (λ o. (k.number, o)) (operands k.update)) [] kept) ∙ append-nil (pairs_of (filter q (ops_of (take i ks))))))

  module _ (inside q : Op → Bool) where
    abbrev behind : List Op
    behind = filter q (ops_of (drop (i + 1) ks))

    abbrev last : Bool
    last = list_all (λ j. inside j || not (before k.update j.update)) behind

    -- whether none outside is ordered after one inside
    pub closed-next : (inside (op_of k) ≡ true → last ≡ true) → is_closed inside (filter q (ops_of (drop i ks))) ≡ is_closed inside behind
    closed-next h = ap (λ l. is_closed inside (filter q (ops_of l))) back-more ∙ go (q (op_of k))
      where
        one : (y z : Bool) → (y ≡ true → z ≡ true) → ((not y || z) && is_closed inside (filter q (ops_of (drop (i + 1) ks)))) ≡ is_closed inside (filter q (ops_of (drop (i + 1) ks)))
        one true z f = ap (λ x. x && is_closed inside (filter q (ops_of (drop (i + 1) ks)))) (f refl)
        one false z f = refl

        go : (x : Bool) → is_closed inside (cond x (op_of k ∷ filter q (ops_of (drop (i + 1) ks))) (filter q (ops_of (drop (i + 1) ks)))) ≡ is_closed inside (filter q (ops_of (drop (i + 1) ks)))
        go true = one (inside (op_of k)) _ h
        go false = refl

    pub closed-fails : inside (op_of k) ≡ true → q (op_of k) ≡ true → last ≡ false → false ≡ is_closed inside (filter q (ops_of (drop i ks)))
    closed-fails a b f =
        sym (ap (λ l. is_closed inside (filter q (ops_of l))) back-more
        ∙ ap (λ x. is_closed inside (cond x (op_of k ∷ behind) behind)) b
        ∙ ap (λ x. (not x || last) && is_closed inside behind) a
        ∙ ap (λ x. x && is_closed inside behind) f)

-- One step of the volume without some operations.
module _ (q : Op → Bool) (ks : List Kept) (i : ℕ) (k : Kept) (within : i < length ks) (is : k ≡ get_or ks i k) where
  updates-more : (js : List Op) (j : Op) → updates (js ++ j ∷ []) ≡ updates js ++ j.update ∷ []
  updates-more [] j = refl
  updates-more (x ∷ js) j = ap (λ l. x.update ∷ l) (updates-more js j)

  updates-append : (js hs : List Op) → updates (js ++ hs) ≡ updates js ++ updates hs
  updates-append [] hs = refl
  updates-append (x ∷ js) hs = ap (λ l. x.update ∷ l) (updates-append js hs)

  pub front-skips : (v : Images) → IsFrontKept q ks i v → q (op_of k) ≡ false → IsFrontKept q ks (i + 1) v
  front-skips v f e =
      let same : filter q (ops_of (take (i + 1) ks)) ≡ filter q (ops_of (take i ks)) = part-front ks i k within is q ∙ ap (λ x. filter q (ops_of (take i ks)) ++ cond x (op_of k ∷ []) []) e ∙ append-nil _ in
      record { fits = subst (λ l. Fits formatted (updates l)) (sym same) f.fits; same = λ o. f.same o ∙ ap (λ l. after formatted (updates l) o) (sym same) }

  pub front-takes : (v w : Images) → IsFrontKept q ks i v → q (op_of k) ≡ true → first_unfit k.update v (operands k.update) ≡ None → ((o : ℕ) → w o ≡ after v (k.update ∷ []) o) → IsFrontKept q ks (i + 1) w
  front-takes v w f e none step =
      let us : List Update = updates (filter q (ops_of (take i ks))) in
      let same : updates (filter q (ops_of (take (i + 1) ks))) ≡ us ++ k.update ∷ [] =
      ap updates (part-front ks i k within is q ∙ ap (λ x. filter q (ops_of (take i ks)) ++ cond x (op_of k ∷ []) []) e) ∙ updates-more (filter q (ops_of (take i ks))) (op_of k) in
      record { fits = subst (Fits formatted) (sym same) (fits-more formatted us k.update v f.same f.fits none); same = λ o. after-more formatted us k.update v w f.same step o ∙ ap (λ l. after formatted l o) (sym same) }

  pub front-unfit : (v : Images) (o : ℕ) → IsFrontKept q ks i v → q (op_of k) ≡ true → first_unfit k.update v (operands k.update) ≡ Some o → ¬ (Fits formatted (updates (filter q (ops_of ks))))
  front-unfit v o f e some all =
      let us : List Update = updates (filter q (ops_of (take i ks))) in
      let rest : List Op = filter q (ops_of (drop (i + 1) ks)) in
      let same : updates (filter q (ops_of ks)) ≡ us ++ k.update ∷ updates rest =
      ap updates (part-all ks i k within is q ∙ ap (λ x. filter q (ops_of (take i ks)) ++ cond x (op_of k ∷ rest) rest) e) ∙ updates-append (filter q (ops_of (take i ks))) (op_of k ∷ rest) in
      unfit-not formatted us (updates rest) k.update v o f.same some (subst (Fits formatted) same all)
