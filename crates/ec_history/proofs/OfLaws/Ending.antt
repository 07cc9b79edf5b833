-- The end of a session: what wasn't durable is lost.
use Rattle.std.proofs.Common.{◌≡◌, refl, sym, ap, subst, ◌∙◌, inl, inr, ◌+◌, ◌≤◌, ◌⊎◌, ℕ, T, Bool, true, false, ◌==◌, ◌&&◌, cond, not, length, List, [], ◌∷◌, ◌++◌, Option, Some, None, is_some, is_none, append-nil}
use Rattle.std.specs.List.{filter, list_all}
use Rattle.std.proofs.lemmas.Bool.{cond_both, cond-true, cond-false, cases_Bool, and_parts, and_from, or_left, eqb-true, eq-eqb, true≢false}
use Rattle.ec_volume.specs.Update.{member}
use Rattle.ec_history.specs.History.{Base, same_start, names, is_lost, issued}
use Rattle.ec_history.specs.Legal.{is_op_of}
use Rattle.ec_history.specs.Lines.{durable}
use Rattle.ec_history.specs.Placing.{watch, watch_next, ended, is_running, owner, place, same_numbers, to_lose}
use Rattle.ec_history.specs.declared.entry.Entry.{Entry}
use Rattle.ec_history.specs.declared.entry.Entry.TheVariants as entry
use Rattle.ec_history.specs.declared.watch.Watch.{Watch}
use Rattle.ec_history.specs.declared.shown.Shown.{Shown}
use Rattle.ec_history.specs.declared.shown.Shown.TheVariants.{Ended}
use Rattle.ec_history.proofs.OfLaws.ForPlacing.Late.{place-ended}
use Rattle.ec_history.proofs.OfLaws.ForPlacing.More.{count-next, durable-step, issued-step}
use Rattle.ec_history.proofs.OfLaws.ForPlacing.Watching.{own_end, other_end}
use Rattle.ec_history.specs.OfLaws.Accounts.{IsUndurable, IsAccounted}
use Rattle.ec_history.proofs.OfLaws.Members.{lost-left, lost-right, member-all, none_some}
use Rattle.ec_history.proofs.OfLaws.Watched.{Has}
use Rattle.ec_history.proofs.OfLaws.Accounting.{Accounts, Named, accounts-stay, has-now, has-of, now-has, of-has}
use Rattle.ec_base.specs.Options.{or_zero}
use Rattle.ec_base.proofs.Numbers.{same-self as self}
use Rattle.ec_base.proofs.Bools.{on, is-true as is_on}

module _ (ss : List Shown) (d : ℕ) (ns : List ℕ) where
  abbrev s : Shown
  s = Ended d ns

  abbrev e : ℕ × Entry
  e = (length ss + 1, entry.Loss d (or_zero (owner (watch d ss))) ns)

  at : place (ss ++ s ∷ []) ≡ place ss ++ e ∷ []
  at = place-ended ss d ns

  away : (c : ℕ) → (c == d) ≡ false → watch_next c (watch c ss) s ≡ watch c ss
  away c y = cond-false (c == d) (ended (watch c ss) ns) (watch c ss) y

  -- nothing is open behind it
  closed : (c b n : ℕ) → (c == d) ≡ true → Has b n (watch_next c (watch c ss) s) → ⊥
  closed c b n y h = none_some (sym (none (watch c ss)) ∙ (subst (Has b n) (cond-true (c == d) (ended (watch c ss) ns) (watch c ss) y) h).0)
    where
      none : (w : Watch) → (ended w ns).open_start ≡ None
      none w = cond_both (is_running w (owner w)) (own_end w ns) (other_end w) (λ v. v.open_start ≡ None) (λ x. refl) (λ x. refl)

  named : T (same_numbers ns (to_lose (watch d ss))) → (c b n : ℕ) → c ≡ d → IsUndurable c b n ss → T (names c b n (entry.Loss d (or_zero (owner (watch d ss))) ns))
  named may c b n q u =
      let open-is : (watch d ss).open_start ≡ Some b = subst (λ x. (watch x ss).open_start ≡ Some b) q u.open_start in
      let o : or_zero (owner (watch d ss)) ≡ b = ap (λ x. or_zero (elim x [ Some i ↦ Some i | None ↦ cond ((watch d ss).running && is_none (watch d ss).untold) (Some (watch d ss).starts) None ])) open-is in
      let among : T (member n (to_lose (watch d ss))) = subst (λ l. T (member n l)) (sym (cond-true (is_some (watch d ss).open_start) (watch d ss).undurable (watch d ss).early (ap is_some open-is))) (subst (λ x. T (member n (watch x ss).undurable)) q u.among) in
      let both = and_parts (list_all (λ i. member i (to_lose (watch d ss))) ns) (list_all (λ m. member m ns) (to_lose (watch d ss))) (is_on _ may) in
      on (and_from (same_start c b d (or_zero (owner (watch d ss)))) _ (and_from (c == d) _ (eq-eqb c d q) (eq-eqb b _ (sym o))) (is_on _ (member-all (λ m. member m ns) n (to_lose (watch d ss)) (on both.1) among)))

  pub accounts-ended : T (same_numbers ns (to_lose (watch d ss))) → (base : Base) → Accounts base ss → Accounts base (ss ++ s ∷ [])
  accounts-ended may base a = accounts-stay base ss s a
      (ap (issued base) at ∙ issued-step base (place ss) e ∙ append-nil (issued base (place ss)))
      (λ c b n t. subst (λ h. T (is_lost c b n h)) (sym at) (lost-left c b n (place ss) (e ∷ []) t)) λ c b n u. elim (cases_Bool (c == d)) [
        | inl y ↦ inr (inl (subst (λ h. T (is_lost c b n h)) (sym at) (lost-right c b n (place ss) (e ∷ []) (on (or_left (names c b n e.1) false (is_on _ (named may c b n (eqb-true c d y) u)))))))
        | inr y ↦ inr (inr (now-has c b n ss s (subst (Has b n) (sym (away c y)) (has-of c b n ss u))))
      ]

  same-durable : (c b : ℕ) → durable c b (ss ++ s ∷ []) ≡ durable c b ss
  same-durable c b = durable-step c b ss s ∙ append-nil (durable c b ss)

  same-count : (c b : ℕ) → length (filter (is_op_of c b) (place (ss ++ s ∷ []))) ≡ length (filter (is_op_of c b) (place ss))
  same-count c b = ap (λ h. length (filter (is_op_of c b) h)) at ∙ count-next c b (place ss) e

  still : (c b n : ℕ) → IsUndurable c b n (ss ++ s ∷ []) → IsUndurable c b n ss
  still c b n u = elim (cases_Bool (c == d)) [
    | inl y ↦ absurd (closed c b n y (has-now c b n ss s u))
    | inr y ↦ of-has c b n ss (subst (Has b n) (away c y) (has-now c b n ss s u))
  ]

  pub named-ended : Named ss → Named (ss ++ s ∷ [])
  named-ended m = record {
    apart = λ c b n u. subst (λ l. T (not (member n l))) (sym (same-durable c b)) (m.apart c b n (still c b n u));
    counted = λ c b n k. subst (λ z. n ≤ z) (sym (same-count c b)) (m.counted c b n (elim k [ inl t ↦ inl (subst (λ l. T (member n l)) (same-durable c b) t) | inr u ↦ inr (still c b n u) ]));
  }
