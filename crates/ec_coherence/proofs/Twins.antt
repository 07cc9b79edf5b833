-- In a legal history the operations of a start have distinct numbers.
use Rattle.std.proofs.Common.{◌≡◌, refl, sym, ap, subst, ◌∙◌, arith, ◌≤◌, ◌+◌, ℕ, true, ◌==◌, ◌&&◌, List, [], ◌∷◌, ◌++◌, Option, Some, None, append-nil, append_assoc}
use Rattle.std.proofs.lemmas.Bool.{and_parts}
use Rattle.ec_volume.specs.declared.update.Update.{Update}
use Rattle.ec_history.specs.History.{Base, History, Op, Throughout, Each, of_start, outcome, kept, issued, issued_by}
use Rattle.ec_history.specs.Legal.{IsLegal, IsLegalNext}
use Rattle.ec_history.specs.declared.entry.Entry.{Entry}
use Rattle.ec_history.specs.declared.entry.Entry.TheVariants as entry
use Rattle.ec_history.proofs.OfLaws.ForPlacing.More.{issued-step}
use Rattle.ec_history.proofs.OfLaws.ForPlacing.Numbers.{count, each-append, issued-front, issued-up_to, kept-each, IsUpTo}
use Rattle.ec_history.proofs.OfLaws.ForPlacing.Cuts.{legal-step}
use Rattle.ec_base.proofs.Numbers.{equal}
use Rattle.ec_history.proofs.OfLaws.ForPlacing.BasesAlike.{each-map}

abbrev one_op : ℕ → ℕ → ℕ → ℕ → Option Update → List Op
one_op d f m p u = elim u as (λ z. List Op) [ None ↦ [] | Some w ↦ record { clerk = d; boot = f; number = m; place = p; update = w } ∷ [] ]

module _ (base : Base) (most c b : ℕ) where
  -- of one number there is one update
  abbrev pub Twin : Op → Op → Type 0
  Twin j k = of_start c b j ≡ true → of_start c b k ≡ true → j.number ≡ k.number → j.update ≡ k.update

  abbrev IsNew : ℕ → Op → Type 0
  IsNew m k = of_start c b k ≡ true → k.number ≡ m + 1

  new-one : (past : History) (e : ℕ × Entry) → IsLegalNext base most past e → Each (IsNew (count c b past)) (issued_by base (kept base past) e) × Each (λ j. Each (Twin j) (issued_by base (kept base past) e)) (issued_by base (kept base past) e)
  new-one past (p, entry.Call d f l begun cl a None) n = (tt, tt)
  new-one past (p, entry.Loss d f ns) n = (tt, tt)
  new-one past (p, entry.Call d f l begun cl a (Some m)) n = go ((outcome base (kept base past) p cl).update)
    where
      own : (c == d) && (b == f) ≡ true → m ≡ count c b past + 1
      own y = let k = and_parts (c == d) (b == f) y in n.number ∙ ap (λ x. count x f past + 1) (sym (equal c d k.0)) ∙ ap (λ x. count c x past + 1) (sym (equal b f k.1))

      go : (u : Option Update) → Each (IsNew (count c b past)) (one_op d f m p u) × Each (λ j. Each (Twin j) (one_op d f m p u)) (one_op d f m p u)
      go None = (tt, tt)
      go (Some w) = ((own, tt), (((λ x y z. refl), tt), tt))

  above-old : (j k : Op) (m : ℕ) → IsUpTo c b m j → IsNew m k → Twin j k
  above-old j k m u n x y z = absurd (off j.number k.number m (u x) (n y) z)
    where
      off : (i j m : ℕ) → i ≤ m → j ≡ m + 1 → i ≡ j → ⊥
      off i j m l e q = omega (arith, l, e, q)

  turned : (j k : Op) → Twin j k → Twin k j
  turned j k t x y z = sym (t y x (sym z))

  each-each : (P Q : Op → Type 0) (R : Op → Op → Type 0) → ((j k : Op) → P j → Q k → R j k) → (xs ys : List Op) → Each P xs → Each Q ys → Each (λ j. Each (R j) ys) xs
  each-each P Q R f [] ys p q = tt
  each-each P Q R f (x ∷ xs) ys p q = (each-map Q (R x) (λ k r. f x k p.0 r) ys q, each-each P Q R f xs ys p.1 q)

  each-two : (P Q : Op → Type 0) (xs : List Op) → Each P xs → Each Q xs → Each (λ j. P j × Q j) xs
  each-two P Q [] p q = tt
  each-two P Q (x ∷ xs) p q = ((p.0, q.0), each-two P Q xs p.1 q.1)

  next : (past : History) (e : ℕ × Entry) → IsLegal base most past → IsLegalNext base most past e → Each (λ j. Each (Twin j) (issued base past)) (issued base past)
      → Each (λ j. Each (Twin j) (issued base (past ++ e ∷ []))) (issued base (past ++ e ∷ []))
  next past e l n t =
      let old = issued base past in
      let new = issued_by base (kept base past) e in
      let up = issued-up_to base most c b past l in
      let one = new-one past e n in
      subst (λ xs. Each (λ j. Each (Twin j) xs) xs) (sym (issued-step base past e)) (each-append (λ j. Each (Twin j) (old ++ new)) old new
      (each-map (λ j. Each (Twin j) old × Each (Twin j) new) (λ j. Each (Twin j) (old ++ new)) (λ j q. each-append (Twin j) old new q.0 q.1) old
      (each-two (λ j. Each (Twin j) old) (λ j. Each (Twin j) new) old t (each-each (IsUpTo c b (count c b past)) (IsNew (count c b past)) Twin (λ j k p q. above-old j k (count c b past) p q) old new up one.0)))
      (each-map (λ j. Each (Twin j) old × Each (Twin j) new) (λ j. Each (Twin j) (old ++ new)) (λ j q. each-append (Twin j) old new q.0 q.1) new
      (each-two (λ j. Each (Twin j) old) (λ j. Each (Twin j) new) new
      (each-each (IsNew (count c b past)) (IsUpTo c b (count c b past)) Twin (λ j k p q. turned k j (above-old k j (count c b past) q p)) new old one.0 up) one.1)))

  all-from : (past h : History) → IsLegal base most past → Throughout (IsLegalNext base most) past h → Each (λ j. Each (Twin j) (issued base past)) (issued base past)
      → Each (λ j. Each (Twin j) (issued base (past ++ h))) (issued base (past ++ h))
  all-from past [] l t i = subst (λ x. Each (λ j. Each (Twin j) (issued base x)) (issued base x)) (sym (append-nil past)) i
  all-from past (e ∷ h) l t i = subst (λ x. Each (λ j. Each (Twin j) (issued base x)) (issued base x)) (append_assoc past (e ∷ []) h)
      (all-from (past ++ e ∷ []) h (legal-step base most past e l t.0) t.1 (next past e l t.0 i))

  -- what was kept before, and what is kept
  pub twins : (past rest : History) → IsLegal base most (past ++ rest) → Each (λ j. Each (Twin j) (kept base (past ++ rest))) (kept base past)
  twins past rest l = each-map (λ j. Each (Twin j) (issued base (past ++ rest))) (λ j. Each (Twin j) (kept base (past ++ rest))) (λ j q. kept-each base (Twin j) (past ++ rest) q) (kept base past)
      (kept-each base (λ j. Each (Twin j) (issued base (past ++ rest))) past (issued-front base (λ j. Each (Twin j) (issued base (past ++ rest))) past rest (all-from [] (past ++ rest) tt l tt)))
