-- What one more line makes of a start's operations that aren't durable, as the lines show them.
use Rattle.std.proofs.Common.{◌≡◌, refl, sym, ap, subst, ◌∙◌, inl, inr, ◌⊎◌, ◌+◌, ℕ, T, Bool, true, false, not, ◌==◌, ◌||◌, cond, List, [], ◌∷◌, ◌++◌, Option, Some, None, is_some, is_none}
use Rattle.std.specs.List.{filter}
use Rattle.std.proofs.lemmas.Bool.{cond_both, cond-true, cond-false, eqb-true}
use Rattle.ec_volume.specs.Image.{is_id}
use Rattle.ec_volume.specs.Update.{listed, member}
use Rattle.ec_history.specs.Placing.{watch, watch_next, begun, answered, or_else, may_show}
use Rattle.ec_history.specs.declared.watch.Watch.{Watch}
use Rattle.ec_history.proofs.OfLaws.ForPlacing.Watching.{answered_as, in_session, before_session}
use Rattle.ec_history.proofs.OfLaws.Members.{member-left, member-right, member-parts, some_is, none_some}
use Rattle.ec_base.proofs.Numbers.{same-self as self}
use Rattle.ec_base.proofs.Bools.{on, is-true as is_on}
use Rattle.ec_history.proofs.PlacingLemmas.{showing}

-- the operation is of the open start b and not durable
abbrev pub Has : ℕ → ℕ → Watch → Type 0
Has b n w = (w.open_start ≡ Some b) × T (member n w.undurable)

-- it was so, or the operation is the answer's own, of the running start
abbrev pub Was : Watch → Option ℕ → ℕ → ℕ → Type 0
Was w op b n = Has b n w ⊎ ((op ≡ Some n) × (w.untold ≡ None) × (b ≡ w.starts))

-- a call line leaves what is open
pub begun-has : (b n : ℕ) (w : Watch) → Has b n (begun w) → Has b n w
begun-has b n w h = cond_both w.running w (record w { starts = w.starts + 1; running = true }) (λ v. Has b n v → Has b n w) (λ e x. x) (λ e x. x) h

pub has-begun : (b n : ℕ) (w : Watch) → Has b n w → Has b n (begun w)
has-begun b n w h = cond_both w.running w (record w { starts = w.starts + 1; running = true }) (Has b n) (λ e. h) (λ e. h)

one-of : (n m : ℕ) (op : Option ℕ) → T (member n (listed op)) → op ≡ Some n
one-of n m None t = absurd t
one-of n m (Some k) t = ap Some (sym (go (n == k) refl t))
  where
    go : (b : Bool) → (n == k) ≡ b → T (b || false) → n ≡ k
    go true e t = eqb-true n k e
    go false e t = absurd t

pub listed-has : (n : ℕ) → T (member n (listed (Some n)))
listed-has n = on (ap (λ b. b || false) (self n))

-- An answer behind which no operation waits for a session to be shown.
module _ (w : Watch) (sh : Bool) (op : Option ℕ) (before : w.early ≡ []) (behind : (answered w sh op).early ≡ []) (closed : w.open_start ≡ None → w.undurable ≡ []) where
  open-or : (o : Option ℕ) (b m : ℕ) → or_else o m ≡ Some b → (o ≡ Some b) ⊎ ((o ≡ None) × (b ≡ m))
  open-or (Some a) b m q = inl q
  open-or None b m q = inr (refl, sym (some_is q))

  -- what was so stays so
  pub stays : (b n : ℕ) → Has b n w → Has b n (answered w sh op)
  stays b n h = go w.untold
    where
      go : (u : Option (List ℕ)) → Has b n (answered_as w sh op u)
      go (Some ns) = h
      go None = cond_both sh (showing w op) (cond (is_id w.starts w.open_start) (in_session w op) (before_session w op)) (Has b n)
          (λ e. (ap (λ o. or_else o w.starts) h.0, subst (λ l. T (member n (l ++ (w.undurable ++ listed op)))) (sym before) (member-left n w.undurable (listed op) h.1)))
          (λ e. cond_both (is_id w.starts w.open_start) (in_session w op) (before_session w op) (Has b n) (λ f. (h.0, member-left n w.undurable (listed op) h.1)) (λ f. h))

  -- what is so was so, or is the answer's own operation, of the running start
  pub was : T (not sh || may_show w) → (b n : ℕ) → Has b n (answered w sh op) → Was w op b n
  was may b n h = go w.untold refl h
    where
      id-is : (o : Option ℕ) → o ≡ Some b → is_id w.starts o ≡ true → b ≡ w.starts
      id-is None q e = absurd (none_some q)
      id-is (Some a) q e = sym (some_is q) ∙ sym (eqb-true w.starts a e)

      shown-is : (o : Option ℕ) → o ≡ Some b → T (is_none o || is_id w.starts o) → b ≡ w.starts
      shown-is None q t = absurd (none_some q)
      shown-is (Some a) q t = id-is (Some a) q (is_on _ t)

      last : (w.open_start ≡ Some b) ⊎ (w.open_start ≡ None) → b ≡ w.starts → T (member n (w.undurable ++ listed op)) → w.untold ≡ None → Was w op b n
      last o e m q = elim (member-parts n w.undurable (listed op) m) [
        | inr x ↦ inr (one-of n 0 op x, q, e)
        | inl x ↦ elim o [
          | inl y ↦ inl (y, x)
          | inr y ↦ absurd (subst (λ l. T (member n l)) (closed y) x)
        ]
      ]

      showing-was : sh ≡ true → w.untold ≡ None → Has b n (showing w op) → Was w op b n
      showing-was e q x =
          let m = subst (λ l. T (member n (l ++ (w.undurable ++ listed op)))) before x.1 in
          elim (open-or w.open_start b w.starts x.0) [
            | inl y ↦ last (inl y) (shown-is w.open_start y (subst (λ u. T (is_some u || (is_none w.open_start || is_id w.starts w.open_start))) q (subst (λ z. T (not z || may_show w)) e may))) m q
            | inr y ↦ last (inr y.0) y.1 m q
          ]

      go : (u : Option (List ℕ)) → w.untold ≡ u → Has b n (answered_as w sh op u) → Was w op b n
      go (Some ns) q h = inl h
      go None q h = cond_both sh (showing w op) (cond (is_id w.starts w.open_start) (in_session w op) (before_session w op)) (λ v. Has b n v → Was w op b n)
          (λ e x. showing-was e q x)
          (λ e. cond_both (is_id w.starts w.open_start) (in_session w op) (before_session w op) (λ v. Has b n v → Was w op b n)
          (λ f x. last (inl x.0) (id-is w.open_start x.0 f) x.1 q) (λ f x. inl x)) h

  -- the answer's own operation is of the running start, whose session is open
  pub own : (n : ℕ) → op ≡ Some n → w.untold ≡ None → T (not sh || may_show w) → Has w.starts n (answered w sh op)
  own n e none may = go w.untold none refl
    where
      last : T (member n (w.undurable ++ listed op))
      last = member-right n w.undurable (listed op) (subst (λ o. T (member n (listed o))) (sym e) (listed-has n))

      open-is : (o : Option ℕ) → T (is_none o || is_id w.starts o) → or_else o w.starts ≡ Some w.starts
      open-is None t = refl
      open-is (Some b) t = ap Some (sym (eqb-true w.starts b (is_on _ t)))

      is-open : (o : Option ℕ) → is_id w.starts o ≡ true → o ≡ Some w.starts
      is-open None t = absurd (on t)
      is-open (Some b) t = ap Some (sym (eqb-true w.starts b t))

      waits : (o : Option ℕ) → o ≡ Some n → (w.early ++ listed o) ≡ [] → ⊥
      waits None q z = none_some q
      waits (Some k) q z = some-not w.early z
        where
          some-not : (xs : List ℕ) → (xs ++ k ∷ []) ≡ [] → ⊥
          some-not [] z = cc
          some-not (x ∷ xs) z = cc

      go : (u : Option (List ℕ)) → u ≡ None → w.untold ≡ u → Has w.starts n (answered_as w sh op u)
      go (Some ns) q r = absurd (none_some (sym q))
      go None q r = cond_both sh (showing w op) (cond (is_id w.starts w.open_start) (in_session w op) (before_session w op)) (λ v. v.early ≡ [] → Has w.starts n v)
          (λ s z. (
            open-is w.open_start (subst (λ u. T (is_some u || (is_none w.open_start || is_id w.starts w.open_start))) none (subst (λ b. T (not b || may_show w)) s may)),
            subst (λ l. T (member n (l ++ (w.undurable ++ listed op)))) (sym before) last,
          ))
          (λ s. cond_both (is_id w.starts w.open_start) (in_session w op) (before_session w op) (λ v. v.early ≡ [] → Has w.starts n v)
          (λ f z. (is-open w.open_start f, last)) (λ f z. absurd (waits op e z)))
          (subst (λ u. (answered_as w sh op u).early ≡ []) r behind)
