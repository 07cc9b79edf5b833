-- A start that issued nothing covers nothing.
use Rattle.std.proofs.Common.{◌≡◌, refl, sym, subst, arith, ◌≤◌, ℕ, Bool, true, false, cond, map, List, [], ◌∷◌, ◌++◌, Option, Some, None, append-nil, append_assoc}
use Rattle.std.specs.List.{filter}
use Rattle.ec_volume.specs.declared.update.Update.{Update}
use Rattle.ec_order.specs.Order.{Holds}
use Rattle.ec_history.specs.History.{Base, History, Op, Throughout, Each, Covers, issued, issued_by, kept, of_issue, of_start, outcome}
use Rattle.ec_history.specs.Legal.{IsLegal, IsLegalNext}
use Rattle.ec_history.specs.declared.entry.Entry.{Entry}
use Rattle.ec_history.specs.declared.entry.Entry.TheVariants as entry
use Rattle.ec_history.proofs.OfLaws.ForPlacing.More.{issued-step}
use Rattle.ec_history.proofs.OfLaws.ForPlacing.Numbers.{IsUpTo, count, each-append, issued-up_to}
use Rattle.ec_history.proofs.OfLaws.Answered.{closure-held}

module _ (base : Base) (most : ℕ) where
  one-next : (past : History) (e : ℕ × Entry) → IsLegalNext base most past e → Each (λ k. 1 ≤ k.number) (issued_by base (kept base past) e)
  one-next past (p, entry.Loss d f ns) n = tt
  one-next past (p, entry.Call d f l begun cl a None) n = tt
  one-next past (p, entry.Call d f l begun cl a (Some m)) n = go ((outcome base (kept base past) p cl).update)
    where
      positive : 1 ≤ m
      positive = omega (arith, n.number)

      go : (u : Option Update) → Each (λ k. 1 ≤ k.number) (elim u as (λ z. List Op) [ None ↦ [] | Some w ↦ record { clerk = d; boot = f; number = m; place = p; update = w } ∷ [] ])
      go None = tt
      go (Some w) = (positive, tt)

  from-one : (past h : History) → Each (λ k. 1 ≤ k.number) (issued base past) → Throughout (IsLegalNext base most) past h → Each (λ k. 1 ≤ k.number) (issued base (past ++ h))
  from-one past [] i t = subst (λ z. Each (λ k. 1 ≤ k.number) (issued base z)) (sym (append-nil past)) i
  from-one past (e ∷ h) i t = subst (λ z. Each (λ k. 1 ≤ k.number) (issued base z)) (append_assoc past (e ∷ []) h)
      (from-one (past ++ e ∷ []) h (subst (Each (λ k. 1 ≤ k.number)) (sym (issued-step base past e)) (each-append (λ k. 1 ≤ k.number) (issued base past) (issued_by base (kept base past) e) i (one-next past e t.0))) t.1)

  module _ (c b : ℕ) where
    none-held : (ks : List Op) (n : ℕ) (u : Update) → Each (IsUpTo c b 0) ks → Each (λ k. 1 ≤ k.number) ks → Holds (of_issue c b ks) n u → ⊥
    none-held [] n u i j h = h
    none-held (k ∷ ks) n u i j h = go (of_start c b k) refl h (λ r. none-held ks n u i.1 j.1 r)
      where
        go : (x : Bool) → of_start c b k ≡ x → Holds (map (λ y. (y.number, y.update)) (cond x (k ∷ filter (of_start c b) ks) (filter (of_start c b) ks))) n u → (Holds (of_issue c b ks) n u → ⊥) → ⊥
        go true e h r = omega (arith, i.0 e, j.0)
        go false e h r = r h

    pub nothing-covered : (h : History) → IsLegal base most h → count c b h ≡ 0 → (e : ℕ × Entry) (n : ℕ) → Covers base h e c b n → ⊥
    nothing-covered h legal zero-is e n v =
        let held = closure-held (of_issue c b (issued base h)) _ n v.closed_in in
        none-held (issued base h) n held.0 (subst (λ m. Each (IsUpTo c b m) (issued base h)) zero-is (issued-up_to base most c b h legal)) (from-one [] h tt legal) held.1
