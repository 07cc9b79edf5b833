-- A loss that takes one more operation of its start, issued just before it.
use Rattle.std.proofs.Common.{◌≡◌, refl, sym, ap, subst, ◌∙◌, arith, ◌≤◌, ◌<◌, ℕ, T, Bool, true, false, not, ◌==◌, ◌&&◌, ◌||◌, cond, List, [], ◌∷◌, ◌++◌, Option, Some, None, is_some, append-nil}
use Rattle.std.proofs.lemmas.Bool.{and_parts, and_from, or_from, ne_eqb, true≢false}
use Rattle.std.specs.List.{filter, list_any, list_all}
use Rattle.std.proofs.lemmas.List.Folds.{list_any-append, list_all-append}
use Rattle.std.proofs.lemmas.List.Elements.{filter-append}
use Rattle.ec_volume.specs.Update.{listed, member}
use Rattle.ec_volume.specs.Volume.{Fits}
use Rattle.ec_volume.specs.declared.update.Update.{Update}
use Rattle.ec_plain.specs.declared.call.Call.{Call}
use Rattle.ec_order.specs.Order.{before}
use Rattle.ec_history.specs.History.{Base, History, Op, Each, updates, of_start, is_one_of, outcome, kept, issued, issued_by, without, Covers}
use Rattle.ec_history.specs.Legal.{IsLegal, IsCall, IsReply, IsLawful, leaves, is_closed}
use Rattle.ec_history.specs.declared.entry.Answer.{Answer}
use Rattle.ec_history.specs.declared.entry.Answer.TheVariants as answer
use Rattle.ec_history.specs.declared.entry.Entry.{Entry}
use Rattle.ec_history.specs.declared.entry.Entry.TheVariants as entry
use Rattle.ec_history.proofs.OfLaws.ForPlacing.More.{kept-step}
use Rattle.ec_history.proofs.OfLaws.ForPlacing.Cuts.{throughout-append}
use Rattle.ec_history.proofs.OfLaws.ForPlacing.Numbers.{each-append, each-filter, kept-each, throughout-issued, count, IsUpTo, issued-up_to, kept-up_to, covers-up_to}
use Rattle.ec_base.proofs.Numbers.{same-self as same_number}
use Rattle.ec_base.proofs.Bools.{or-right, both, first, right, or_first}
use Rattle.ec_history.proofs.OfLaws.ForPlacing.BasesAlike.{each-map}

pub filter-same : (p q : Op → Bool) (ks : List Op) → Each (λ k. p k ≡ q k) ks → filter p ks ≡ filter q ks
filter-same p q [] h = refl
filter-same p q (k ∷ ks) h = ap (λ b. cond b (k ∷ filter p ks) (filter p ks)) h.0 ∙ ap (λ x. cond (q k) (k ∷ x) x) (filter-same p q ks h.1)

pub filter-none : (p : Op → Bool) (ks : List Op) → Each (λ k. p k ≡ false) ks → filter p ks ≡ []
filter-none p [] h = refl
filter-none p (k ∷ ks) h = ap (λ b. cond b (k ∷ filter p ks) (filter p ks)) h.0 ∙ filter-none p ks h.1

filter-all : (p : Op → Bool) (ks : List Op) → Each (λ k. p k ≡ true) ks → filter p ks ≡ ks
filter-all p [] h = refl
filter-all p (k ∷ ks) h = ap (λ b. cond b (k ∷ filter p ks) (filter p ks)) h.0 ∙ ap (λ x. k ∷ x) (filter-all p ks h.1)

all-more : {A : Type 0} (p q : A → Bool) → ((x : A) → T (p x) → T (q x)) → (xs : List A) → T (list_all p xs) → T (list_all q xs)
all-more p q f [] h = tt
all-more p q f (x ∷ xs) h = both (q x) (list_all q xs) (f x (first (p x) (list_all p xs) h)) (all-more p q f xs (right (p x) (list_all p xs) h))

-- What is closed stays so with more inside behind it.
module _ (inside more : Op → Bool) (new : List Op) (fresh : Each (λ k. more k ≡ true) new) where
  all-inside : (u : Update) (ks : List Op) → Each (λ k. more k ≡ true) ks → T (list_all (λ j. more j || not (before u j.update)) ks)
  all-inside u [] h = tt
  all-inside u (k ∷ ks) h = both _ _ (or_first (more k) _ (subst T (sym h.0) tt)) (all-inside u ks h.1)

  list-more : (u : Update) (ks : List Op) → Each (λ k. more k ≡ inside k) ks → T (list_all (λ j. inside j || not (before u j.update)) ks) → T (list_all (λ j. more j || not (before u j.update)) (ks ++ new))
  list-more u [] s h = all-inside u new fresh
  list-more u (k ∷ ks) s h =
      both _ _ (subst (λ b. T (b || not (before u k.update))) (sym s.0) (first _ _ h)) (list-more u ks s.1 (right (inside k || not (before u k.update)) _ h))

  closed-new : (ks : List Op) → Each (λ k. more k ≡ true) ks → T (is_closed more ks)
  closed-new [] h = tt
  closed-new (k ∷ ks) h = both _ _ (or-right (not (more k)) _ (all-inside k.update ks h.1)) (closed-new ks h.1)

  closed-more : (ks : List Op) → Each (λ k. more k ≡ inside k) ks → T (is_closed inside ks) → T (is_closed more (ks ++ new))
  closed-more [] s h = closed-new new fresh
  closed-more (k ∷ ks) s h =
      both _ _ (go (inside k) s.0 (first _ _ h)) (closed-more ks s.1 (right (not (inside k) || list_all (λ j. inside j || not (before k.update j.update)) ks) _ h))
    where
      go : (b : Bool) → more k ≡ b → T (not b || list_all (λ j. inside j || not (before k.update j.update)) ks) → T (not (more k) || list_all (λ j. more j || not (before k.update j.update)) (ks ++ new))
      go true e t = or-right (not (more k)) _ (list-more k.update ks s.1 t)
      go false e t = or_first (not (more k)) _ (subst (λ b. T (not b)) (sym e) tt)

-- The operation that a call issues, and its number: both or none.
pub record IsNew (c b m : ℕ) (ks : List Op) (ns : List ℕ) : Type 0 where
  pub own : Each (λ k. is_one_of c b ns k ≡ true) ks
  pub named : T (list_all (λ n. list_any (is_one_of c b (n ∷ [])) ks) ns)
  pub above : Each (λ n. m < n) ns

module _ (base : Base) (most c b p l g : ℕ) (cl : Call) (a : Answer) (h : History) where
  pub call-new : (op : Option ℕ) → IsCall base most h c b p cl a op → IsNew c b (count c b h) (issued_by base (kept base h) (p, entry.Call c b l g cl a op)) (listed op)
  call-new None is = record { own = tt; named = tt; above = tt }
  call-new (Some n) is = go ((outcome base (kept base h) p cl).update) (issues a is.reply)
    where
      none_some : Some n ≡ None → ⊥
      none_some q = cc

      issues : (x : Answer) → IsReply (outcome base (kept base h) p cl) x (Some n) → true ≡ is_some ((outcome base (kept base h) p cl).update)
      issues (answer.Reply r) q = q.1
      issues (answer.NoRoom live reserved) q = absurd (none_some q)
      issues (answer.Lost ns) q = absurd (none_some q)

      mine : (w : Update) → is_one_of c b (n ∷ []) (record { clerk = c; boot = b; number = n; place = p; update = w }) ≡ true
      mine w = and_from ((c == c) && (b == b)) ((n == n) || false) (and_from (c == c) (b == b) (same_number c) (same_number b)) (ap (λ x. x || false) (same_number n))

      go : (u : Option Update) → true ≡ is_some u
          → IsNew c b (count c b h) (elim u [ None ↦ [] | Some w ↦ record { clerk = c; boot = b; number = n; place = p; update = w } ∷ [] ]) (n ∷ [])
      go None e = absurd (true≢false e)
      go (Some w) e = record {
        own = (mine w, tt);
        named = subst (λ x. T ((x || false) && true)) (sym (mine w)) tt;
        above = (omega (arith, is.number), tt);
      }

-- The loss with the new numbers ms, of the operations ks.
module _ (c b m : ℕ) (ks : List Op) (ns ms : List ℕ) (new : IsNew c b m ks ms) where
  abbrev old_loss : Op → Bool
  old_loss = is_one_of c b ns

  abbrev new_loss : Op → Bool
  new_loss = is_one_of c b (ns ++ ms)

  not_above : (n : ℕ) → n ≤ m → member n ms ≡ false
  not_above n l = go ms new.above
    where
      go : (xs : List ℕ) → Each (λ x. m < x) xs → member n xs ≡ false
      go [] h = refl
      go (x ∷ xs) h = or_from (n == x) (member n xs) (ne_eqb n x (λ e. omega arith)) (go xs h.1)

  -- operations that were issued before are lost as before
  old-same : (k : Op) → IsUpTo c b m k → new_loss k ≡ old_loss k
  old-same k u = go (of_start c b k) u
    where
      go : (x : Bool) → (x ≡ true → k.number ≤ m) → (x && member k.number (ns ++ ms)) ≡ (x && member k.number ns)
      go true f = list_any-append (λ o. k.number == o) ns ms ∙ ap (λ x. member k.number ns || x) (not_above k.number (f refl)) ∙ or_false (member k.number ns)
        where
          or_false : (x : Bool) → (x || false) ≡ x
          or_false true = refl
          or_false false = refl
      go false f = refl

  old-all : (xs : List Op) → Each (IsUpTo c b m) xs → Each (λ k. new_loss k ≡ old_loss k) xs
  old-all xs = each-map (IsUpTo c b m) (λ k. new_loss k ≡ old_loss k) old-same xs

  new-lost : Each (λ k. new_loss k ≡ true) ks
  new-lost = each-map (λ k. is_one_of c b ms k ≡ true) (λ k. new_loss k ≡ true) lost ks new.own
    where
      or_true : (x : Bool) → (x || true) ≡ true
      or_true true = refl
      or_true false = refl

      lost : (k : Op) → is_one_of c b ms k ≡ true → new_loss k ≡ true
      lost k e =
          let y = and_parts (of_start c b k) (member k.number ms) e in
          and_from (of_start c b k) (member k.number (ns ++ ms)) y.0 (list_any-append (λ o. k.number == o) ns ms ∙ ap (λ x. member k.number ns || x) y.1 ∙ or_true (member k.number ns))

  pub new-own : Each (λ k. of_start c b k ≡ true) ks
  new-own = each-map (λ k. is_one_of c b ms k ≡ true) (λ k. of_start c b k ≡ true) (λ k e. (and_parts (of_start c b k) (member k.number ms) e).0) ks new.own

  pub filter-old : (xs : List Op) → Each (IsUpTo c b m) xs → filter new_loss xs ≡ filter old_loss xs
  filter-old xs u = filter-same new_loss old_loss xs (old-all xs u)

  pub filter-new : (xs : List Op) → Each (IsUpTo c b m) xs → filter new_loss (xs ++ ks) ≡ filter old_loss xs ++ ks
  filter-new xs u = filter-append new_loss xs ks ∙ ap (λ x. x ++ filter new_loss ks) (filter-old xs u) ∙ ap (λ x. filter old_loss xs ++ x) (filter-all new_loss ks new-lost)

  pub without-new : (xs : List Op) → Each (IsUpTo c b m) xs → without c b (ns ++ ms) (xs ++ ks) ≡ without c b ns xs
  without-new xs u =
      filter-append (λ k. not (new_loss k)) xs ks
      ∙ ap (λ x. filter (λ k. not (new_loss k)) xs ++ x) (filter-none (λ k. not (new_loss k)) ks (each-map (λ k. new_loss k ≡ true) (λ k. not (new_loss k) ≡ false) (λ k e. ap not e) ks new-lost))
      ∙ append-nil (filter (λ k. not (new_loss k)) xs)
      ∙ filter-same (λ k. not (new_loss k)) (λ k. not (old_loss k)) xs (each-map (λ k. new_loss k ≡ old_loss k) (λ k. not (new_loss k) ≡ not (old_loss k)) (λ k e. ap not e) xs (old-all xs u))

  closed-loss : (xs : List Op) → Each (IsUpTo c b m) xs → T (is_closed old_loss (filter (of_start c b) xs)) → T (is_closed new_loss (filter (of_start c b) (xs ++ ks)))
  closed-loss xs u t =
      subst (λ x. T (is_closed new_loss x)) (sym (filter-append (of_start c b) xs ks ∙ ap (λ x. filter (of_start c b) xs ++ x) (filter-all (of_start c b) ks new-own)))
      (closed-more old_loss new_loss ks new-lost (filter (of_start c b) xs) (each-filter (λ k. new_loss k ≡ old_loss k) (of_start c b) xs (old-all xs u)) t)

  kept-loss : (xs : List Op) → T (list_all (λ n. list_any (is_one_of c b (n ∷ [])) xs) ns) → T (list_all (λ n. list_any (is_one_of c b (n ∷ [])) (xs ++ ks)) (ns ++ ms))
  kept-loss xs t =
      subst T (sym (list_all-append (λ n. list_any (is_one_of c b (n ∷ [])) (xs ++ ks)) ns ms))
      (both _ _ (all-more (λ n. list_any (is_one_of c b (n ∷ [])) xs) (λ n. list_any (is_one_of c b (n ∷ [])) (xs ++ ks)) before_new ns t)
      (all-more (λ n. list_any (is_one_of c b (n ∷ [])) ks) (λ n. list_any (is_one_of c b (n ∷ [])) (xs ++ ks)) in_new ms new.named))
    where
      before_new : (n : ℕ) → T (list_any (is_one_of c b (n ∷ [])) xs) → T (list_any (is_one_of c b (n ∷ [])) (xs ++ ks))
      before_new n h = subst T (sym (list_any-append (is_one_of c b (n ∷ [])) xs ks)) (or_first _ _ h)

      in_new : (n : ℕ) → T (list_any (is_one_of c b (n ∷ [])) ks) → T (list_any (is_one_of c b (n ∷ [])) (xs ++ ks))
      in_new n h = subst T (sym (list_any-append (is_one_of c b (n ∷ [])) xs ks)) (or-right (list_any (is_one_of c b (n ∷ [])) xs) _ h)

module _ (base : Base) (most c b p l g : ℕ) (cl : Call) (a : Answer) (op : Option ℕ) (ns : List ℕ) (h : History) (legal : IsLegal base most h) (call : IsCall base most h c b p cl a op) where
  abbrev late_call : ℕ × Entry
  late_call = (p, entry.Call c b l g cl a op)

  pub late-new : IsNew c b (count c b h) (issued_by base (kept base h) late_call) (listed op)
  late-new = call-new base most c b p l g cl a h op call

  pub old-issued : Each (IsUpTo c b (count c b h)) (issued base h)
  old-issued = issued-up_to base most c b h legal

  pub old-kept : Each (IsUpTo c b (count c b h)) (kept base h)
  old-kept = kept-up_to base most c b h legal

  uncovered-new : (past : History) (e : ℕ × Entry) → Each (IsUpTo c b (count c b h)) (issued base past) → Each (λ n. ¬ (Covers base past e c b n)) (listed op)
  uncovered-new past e u = each-map (λ n. count c b h < n) (λ n. ¬ (Covers base past e c b n)) (λ n k v. omega (arith, covers-up_to base past e c b (count c b h) n u v)) (listed op) late-new.above

  -- The loss with the call's operation is lawful, where the call covers nothing lost.
  pub late-lawful : IsLawful base h c b ns → Each (λ n. ¬ (Covers base h late_call c b n)) ns → IsLawful base (h ++ late_call ∷ []) c b (ns ++ listed op)
  late-lawful t v = record {
    kept_so_far =
        subst (λ ks. T (list_all (λ n. list_any (is_one_of c b (n ∷ [])) ks) (ns ++ listed op))) (sym after)
        (kept-loss c b (count c b h) (issued_by base (kept base h) late_call) ns (listed op) late-new (kept base h) t.kept_so_far);
    uncovered =
        throughout-append (λ g e. Each (λ n. ¬ (Covers base g e c b n)) (ns ++ listed op)) [] h (late_call ∷ [])
        (throughout-issued base (IsUpTo c b (count c b h)) (λ g e. Each (λ n. ¬ (Covers base g e c b n)) ns) (λ g e. Each (λ n. ¬ (Covers base g e c b n)) (ns ++ listed op))
        (λ g e u k. each-append (λ n. ¬ (Covers base g e c b n)) ns (listed op) k (uncovered-new g e u)) [] h old-issued t.uncovered)
        (each-append (λ n. ¬ (Covers base h late_call c b n)) ns (listed op) v (uncovered-new h late_call old-issued), tt);
    untouched =
        throughout-append (λ g e. T (leaves base (kept base g) c (filter (is_one_of c b (ns ++ listed op)) (kept base g)) e)) [] h (late_call ∷ [])
        (throughout-issued base (IsUpTo c b (count c b h)) (λ g e. T (leaves base (kept base g) c (filter (is_one_of c b ns) (kept base g)) e)) (λ g e. T (leaves base (kept base g) c (filter (is_one_of c b (ns ++ listed op)) (kept base g)) e))
        (λ g e u k. subst (λ ls. T (leaves base (kept base g) c ls e))
        (sym (filter-old c b (count c b h) (issued_by base (kept base h) late_call) ns (listed op) late-new (kept base g) (kept-each base (IsUpTo c b (count c b h)) g u))) k) [] h old-issued t.untouched)
        (own_call, tt);
    closed =
        subst (λ ks. T (is_closed (is_one_of c b (ns ++ listed op)) (filter (of_start c b) ks))) (sym after)
        (closed-loss c b (count c b h) (issued_by base (kept base h) late_call) ns (listed op) late-new (kept base h) old-kept t.closed);
    fits =
        subst (λ ks. Fits base.volume (updates (without c b (ns ++ listed op) ks))) (sym after)
        (subst (λ ks. Fits base.volume (updates ks)) (sym (without-new c b (count c b h) (issued_by base (kept base h) late_call) ns (listed op) late-new (kept base h) old-kept)) t.fits);
  }
    where
      after : kept base (h ++ late_call ∷ []) ≡ kept base h ++ issued_by base (kept base h) late_call
      after = kept-step base h late_call

      own_call : T (leaves base (kept base h) c (filter (is_one_of c b (ns ++ listed op)) (kept base h)) late_call)
      own_call = or_first (not (not (c == c))) _ (subst (λ x. T (not (not x))) (sym (same_number c)) tt)
