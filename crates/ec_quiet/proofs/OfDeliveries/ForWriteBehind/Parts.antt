-- Operations of a start that are kept are among those that it issued, and closures of what is asked grow with them.
use Rattle.std.proofs.Common.{◌≡◌, refl, subst, inl, inr, ℕ, T, Bool, true, false, not, cond, List, [], ◌∷◌, ◌++◌, map, filter}
use Rattle.ec_volume.specs.Update.{member}
use Rattle.ec_volume.specs.declared.update.Update.{Update}
use Rattle.ec_order.specs.Order.{Holds, Issued}
use Rattle.ec_history.specs.History.{Base, History, Op, issued, issued_by, issued_from, is_one_of, kept, kept_from, kept_next, of_issue, of_start}
use Rattle.ec_history.specs.declared.entry.Entry.{Entry}
use Rattle.ec_history.specs.declared.entry.Entry.TheVariants as entry
use Rattle.ec_log.specs.Choice.{numbers_asked}
use Rattle.ec_log.specs.Log.{is_asked}
use Rattle.ec_log.specs.declared.state.Asked.{Asked}
use Rattle.ec_machine_laws.specs.Needs.{IsPart}
use Rattle.ec_machine_laws.proofs.Closing.{set-grows}
use Rattle.ec_machine_laws.proofs.Holding.{held-by, holds-front, holds-kept, holds-passed, number-of}
use Rattle.ec_quiet.specs.OfDeliveries.Closures.{IsInClosureOf}
use Rattle.ec_base.proofs.Bools.{on as holds, is-true}

-- Lists of operations.

module _ (c b : ℕ) where
  abbrev Ops : List Op → Issued
  Ops ks = of_issue c b ks

  abbrev one : Op → ℕ × Update
  one k = (k.number, k.update)

  -- the first of a list, where it's of the start
  abbrev first : Bool → Op → List Op → Issued
  first z k ks = map one (cond z (k ∷ filter (of_start c b) ks) (filter (of_start c b) ks))

  joined : (xs ys : List Op) (zs : Issued) → IsPart (Ops xs) zs → IsPart (Ops ys) zs → IsPart (Ops (xs ++ ys)) zs
  joined [] ys zs p q n u h = q n u h
  joined (x ∷ xs) ys zs p q n u h = go (of_start c b x) (λ m w. p m w) (λ r. joined xs ys zs r q n u) h
    where
      go : (z : Bool) → IsPart (first z x xs) zs → (IsPart (Ops xs) zs → Holds (Ops (xs ++ ys)) n u → Holds zs n u) → Holds (first z x (xs ++ ys)) n u → Holds zs n u
      go true p r (inl e) = p n u (inl e)
      go true p r (inr h) = r (λ m w i. p m w (inr i)) h
      go false p r h = r p h

  left-part : (xs ys : List Op) → IsPart (Ops xs) (Ops (xs ++ ys))
  left-part [] ys n u h = absurd h
  left-part (x ∷ xs) ys n u h = go (of_start c b x) (left-part xs ys n u) h
    where
      go : (z : Bool) → (Holds (Ops xs) n u → Holds (Ops (xs ++ ys)) n u) → Holds (first z x xs) n u → Holds (first z x (xs ++ ys)) n u
      go true r (inl e) = inl e
      go true r (inr h) = inr (r h)
      go false r h = r h

  right-part : (xs ys : List Op) → IsPart (Ops ys) (Ops (xs ++ ys))
  right-part [] ys n u h = h
  right-part (x ∷ xs) ys n u h = go (of_start c b x) (right-part xs ys n u h)
    where
      go : (z : Bool) → Holds (Ops (xs ++ ys)) n u → Holds (first z x (xs ++ ys)) n u
      go true r = inr r
      go false r = r

  less-part : (p : Op → Bool) (ks : List Op) → IsPart (Ops (filter p ks)) (Ops ks)
  less-part p [] n u h = h
  less-part p (k ∷ ks) n u h = go (p k) (of_start c b k) refl (less-part p ks n u) h
    where
      go : (y z : Bool) → of_start c b k ≡ z → (Holds (Ops (filter p ks)) n u → Holds (Ops ks) n u) → Holds (Ops (cond y (k ∷ filter p ks) (filter p ks))) n u → Holds (first z k ks) n u
      go true z e r h = same z (subst (λ t. Holds (first t k (filter p ks)) n u) e h)
        where
          same : (z : Bool) → Holds (first z k (filter p ks)) n u → Holds (first z k ks) n u
          same true (inl e) = inl e
          same true (inr h) = inr (r h)
          same false h = r h
      go false true e r h = inr (r h)
      go false false e r h = r h

  module _ (base : Base) where
    kept-within : (ks : List Op) (h : History) (zs : Issued) → IsPart (Ops ks) zs → IsPart (Ops (issued_from base ks h)) zs → IsPart (Ops (kept_from base ks h)) zs
    kept-within ks [] zs p q = p
    kept-within ks (e ∷ h) zs p q =
        kept-within (kept_next base ks e) h zs (next e (λ n u i. q n u (left-part (issued_by base ks e) (issued_from base (kept_next base ks e) h) n u i))) (λ n u i. q n u (right-part (issued_by base ks e) (issued_from base (kept_next base ks e) h) n u i))
      where
        next : (e : ℕ × Entry) → IsPart (Ops (issued_by base ks e)) zs → IsPart (Ops (kept_next base ks e)) zs
        next (at, entry.Call d f l begun cl a op) r = joined ks (issued_by base ks (at, entry.Call d f l begun cl a op)) zs p r
        next (at, entry.Loss d f ns) r = λ n u i. p n u (less-part (λ k. not (is_one_of d f ns k)) ks n u i)

    pub kept-issued : (h : History) → IsPart (Ops (kept base h)) (Ops (issued base h))
    kept-issued h = kept-within [] h (Ops (issued base h)) (λ n u i. absurd i) (λ n u i. i)

-- What is asked of a part is asked of the whole.
module _ (a : Asked) (xs ys : Issued) (part : IsPart xs ys) where
  pub asked-of : (zs : Issued) (n : ℕ) (u : Update) → Holds zs n u → T (is_asked a (n, u)) → T (member n (numbers_asked a zs))
  asked-of zs n u h t = number-of (filter (is_asked a) zs) n u (holds-kept (is_asked a) zs n u h (is-true (is_asked a (n, u)) t))

  asked-too : (n : ℕ) (u : Update) → Holds xs n u → T (member n (numbers_asked a xs)) → T (member n (numbers_asked a ys))
  asked-too n u h t =
      let f = held-by (filter (is_asked a) xs) n t in
      asked-of ys n f.0 (part n f.0 (holds-front (is_asked a) xs n f.0 f.1)) (holds (holds-passed (is_asked a) xs n f.0 f.1))

  pub closure-grows : (n : ℕ) → IsInClosureOf a xs n → IsInClosureOf a ys n
  closure-grows n c = set-grows xs ys (λ m. member m (numbers_asked a xs)) (λ m. member m (numbers_asked a ys)) part asked-too n c
