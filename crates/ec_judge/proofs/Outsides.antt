-- A walk from the last operation of a start to the first: whether one outside is ordered after one inside.
use Rattle.std.proofs.Common.{◌≡◌, refl, sym, ap, subst, ◌∙◌, ◌<◌, ◌+◌, ℕ, Bool, true, false, not, ◌&&◌, ◌||◌, cond, List, [], ◌∷◌, ◌++◌, length, take, drop, get_or}
use Rattle.std.specs.Prelude.{is_some}
use Rattle.std.specs.List.{filter, list_any, list_all}
use Rattle.std.proofs.lemmas.Bool.{true≢false}
use Rattle.std.proofs.lemmas.List.{take-append-drop}
use Rattle.std.proofs.lemmas.List.Elements.{filter-append}
use Rattle.ec_base.specs.Tables.{Table, at}
use Rattle.ec_volume.specs.Update.{member, operands}
use Rattle.ec_volume.specs.declared.update.Update.{Update}
use Rattle.ec_order.specs.Order.{is_overwrite, share, before}
use Rattle.ec_history.specs.History.{Op}
use Rattle.ec_history.specs.Legal.{is_closed}
use Rattle.ec_judge.specs.declared.carried.Kept.{Kept}
use Rattle.ec_judge.specs.Carried.{op_of, ops_of}
use Rattle.ec_pending.specs.OfOutside.Outside.{is_after}
use Rattle.ec_judge.proofs.Loops.{back-more}
use Rattle.ec_base.proofs.Bools.{and-none}

any-nothing : (ts : Table (Unit {0})) (os : List ℕ) → ts ≡ [] → list_any (λ o. is_some (at o ts)) os ≡ false
any-nothing ts [] e = refl
any-nothing ts (o ∷ os) e = ap (λ t. is_some (at o t) || list_any (λ o. is_some (at o ts)) os) e ∙ any-nothing ts os e

module _ (inside own : Op → Bool) (ks : List Kept) where
  abbrev later : ℕ → List Op
  later i = filter own (ops_of (drop i ks))

  abbrev outside : Update → List Op → Bool
  outside u js = list_any (λ j. not (inside j) && before u j.update) js

  -- from the index on none outside is ordered after one inside, and this is what those outside are ordered after
  pub record Closing (i : ℕ) (objs others : Table (Unit {0})) : Type 0 where
    pub closed : is_closed inside (filter own (ops_of (drop i ks))) ≡ true
    pub after : (u : Update) → is_after objs others u ≡ list_any (λ j. not (inside j) && before u j.update) (filter own (ops_of (drop i ks)))

  pub closing-begins : (i : ℕ) (objs others : Table (Unit {0})) → drop i ks ≡ [] → objs ≡ [] → others ≡ [] → Closing i objs others
  closing-begins i objs others e a b = record {
    closed = ap (λ l. is_closed inside (filter own (ops_of l))) e;
    after = λ u. go u (is_overwrite u) ∙ sym (ap (λ l. outside u (filter own (ops_of l))) e);
  }
    where
      go : (u : Update) (x : Bool) → list_any (λ o. is_some (at o (cond x others objs))) (operands u) ≡ false
      go u true = any-nothing others (operands u) b
      go u false = any-nothing objs (operands u) a

  none-outside : (u : Update) (js : List Op) → outside u js ≡ false → list_all (λ j. inside j || not (before u j.update)) js ≡ true
  none-outside u [] e = refl
  none-outside u (j ∷ js) e = go (inside j) (before u j.update) e (none-outside u js)
    where
      go : (x y : Bool) → ((not x && y) || outside u js) ≡ false → (outside u js ≡ false → list_all (λ j. inside j || not (before u j.update)) js ≡ true) → ((x || not y) && list_all (λ j. inside j || not (before u j.update)) js) ≡ true
      go true y d f = f d
      go false true d f = absurd (true≢false d)
      go false false d f = f d

  one-outside : (u : Update) (js : List Op) → outside u js ≡ true → list_all (λ j. inside j || not (before u j.update)) js ≡ false
  one-outside u [] e = absurd (true≢false (sym e))
  one-outside u (j ∷ js) e = go (inside j) (before u j.update) e (one-outside u js)
    where
      go : (x y : Bool) → ((not x && y) || outside u js) ≡ true → (outside u js ≡ true → list_all (λ j. inside j || not (before u j.update)) js ≡ false) → ((x || not y) && list_all (λ j. inside j || not (before u j.update)) js) ≡ false
      go true y d f = f d
      go false true d f = refl
      go false false d f = f d

  closed-off : (hs js : List Op) → is_closed inside js ≡ false → is_closed inside (hs ++ js) ≡ false
  closed-off [] js e = e
  closed-off (h ∷ hs) js e = ap (λ z. (not (inside h) || list_all (λ j. inside j || not (before h.update j.update)) (hs ++ js)) && z) (closed-off hs js e) ∙ and-none (not (inside h) || list_all (λ j. inside j || not (before h.update j.update)) (hs ++ js))

  module _ (n i : ℕ) (k : Kept) (next : n ≡ i + 1) (within : i < length ks) (is : k ≡ get_or ks i k) (objs others : Table (Unit {0})) (from : Closing n objs others) where
    w : Closing (i + 1) objs others
    w = subst (λ m. Closing m objs others) next from

    later-is : later i ≡ cond (own (op_of k)) (op_of k ∷ later (i + 1)) (later (i + 1))
    later-is = ap (λ l. filter own (ops_of l)) (back-more ks i k within is)

    pub closing-other : own (op_of k) ≡ false → Closing i objs others
    closing-other e =
        let same : later i ≡ later (i + 1) = later-is ∙ ap (λ x. cond x (op_of k ∷ later (i + 1)) (later (i + 1))) e in
        record { closed = ap (is_closed inside) same ∙ w.closed; after = λ u. w.after u ∙ sym (ap (outside u) same) }

    module _ (mine : own (op_of k) ≡ true) where
      more : later i ≡ op_of k ∷ later (i + 1)
      more = later-is ∙ ap (λ x. cond x (op_of k ∷ later (i + 1)) (later (i + 1))) mine

      pub closing-inside : inside (op_of k) ≡ true → is_after objs others k.update ≡ false → Closing i objs others
      closing-inside e f = record {
        closed = ap (is_closed inside) more ∙ ap (λ x. (not x || list_all (λ j. inside j || not (before k.update j.update)) (later (i + 1))) && is_closed inside (later (i + 1))) e
            ∙ ap (λ x. x && is_closed inside (later (i + 1))) (none-outside k.update (later (i + 1)) (sym (w.after k.update) ∙ f)) ∙ w.closed;
        after = λ u. w.after u ∙ sym (ap (outside u) more ∙ ap (λ x. (not x && before u k.update) || outside u (later (i + 1))) e);
      }

      pub closing-outside : inside (op_of k) ≡ false → (objs' others' : Table (Unit {0})) → ((u : Update) → is_after objs' others' u ≡ (before u k.update || is_after objs others u)) → Closing i objs' others'
      closing-outside e objs' others' h = record {
        closed = ap (is_closed inside) more ∙ ap (λ x. (not x || list_all (λ j. inside j || not (before k.update j.update)) (later (i + 1))) && is_closed inside (later (i + 1))) e ∙ w.closed;
        after = λ u. h u ∙ ap (λ x. before u k.update || x) (w.after u) ∙ sym (ap (outside u) more ∙ ap (λ x. (not x && before u k.update) || outside u (later (i + 1))) e);
      }

      pub closing-fails : inside (op_of k) ≡ true → is_after objs others k.update ≡ true → false ≡ is_closed inside (filter own (ops_of ks))
      closing-fails e f =
          let bad : is_closed inside (later i) ≡ false =
          ap (is_closed inside) more ∙ ap (λ x. (not x || list_all (λ j. inside j || not (before k.update j.update)) (later (i + 1))) && is_closed inside (later (i + 1))) e
          ∙ ap (λ x. x && is_closed inside (later (i + 1))) (one-outside k.update (later (i + 1)) (sym (w.after k.update) ∙ f)) in
          sym (ap (λ l. is_closed inside (filter own (ops_of l))) (sym (take-append-drop i ks)) ∙ ap (λ l. is_closed inside (filter own l)) (ops-append (take i ks) (drop i ks)) ∙ ap (is_closed inside) (filter-append own (ops_of (take i ks)) (ops_of (drop i ks))) ∙ closed-off (filter own (ops_of (take i ks))) (later i) bad)
        where
          ops-append : (xs ys : List Kept) → ops_of (xs ++ ys) ≡ ops_of xs ++ ops_of ys
          ops-append [] ys = refl
          ops-append (x ∷ xs) ys = ap (λ l. op_of x ∷ l) (ops-append xs ys)
