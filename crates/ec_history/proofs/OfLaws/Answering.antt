-- An answer: its operation is of the open session, or lost with its start's last loss.
use Rattle.std.proofs.Common.{◌≡◌, refl, sym, ap, subst, ◌∙◌, inl, inr, arith, ◌+◌, ◌-◌, ◌≤◌, ◌⊎◌, ℕ, suc, T, Bool, true, false, not, ◌==◌, ◌&&◌, ◌||◌, cond, length, List, [], ◌∷◌, ◌++◌, Option, Some, None, is_some, append-nil}
use Rattle.std.specs.Prelude.{take}
use Rattle.std.specs.List.{filter, list_any}
use Rattle.std.proofs.lemmas.Bool.{cond_both, cond-true, cond-false, cases_Bool, and_parts, and_from, or_left, or_right, eqb-true, ne_eqb}
use Rattle.std.proofs.lemmas.List.{length-append}
use Rattle.std.proofs.lemmas.List.Elements.{filter-append}
use Rattle.ec_volume.specs.Update.{listed, member}
use Rattle.ec_volume.specs.declared.update.Update.{Update}
use Rattle.ec_plain.specs.declared.call.Call.{Call}
use Rattle.ec_history.specs.History.{Base, History, Op, Each, Throughout, Covers, same_start, of_start, names, is_entry_of, is_lost, outcome, kept, issued, issued_by, issued_from}
use Rattle.ec_history.specs.Legal.{IsLegal, IsLegalNext, IsNext, is_op_of}
use Rattle.ec_history.specs.Lines.{durable, IsCovered}
use Rattle.ec_history.specs.Placing.{watch, watch_next, unwatched, begun, answered, shows, may_show, last_place, before_line, place, MayFollow}
use Rattle.ec_history.specs.declared.entry.Answer.{Answer}
use Rattle.ec_history.specs.declared.entry.Entry.{Entry}
use Rattle.ec_history.specs.declared.entry.Entry.TheVariants as entry
use Rattle.ec_history.specs.declared.shown.Shown.{Shown}
use Rattle.ec_history.specs.declared.shown.Shown.TheVariants.{Answered}
use Rattle.ec_history.proofs.OfLaws.ForPlacing.Cuts.{legal-split, throughout-append}
use Rattle.ec_history.proofs.OfLaws.ForPlacing.Held.{place-late}
use Rattle.ec_history.proofs.OfLaws.ForPlacing.Late.{place-answer}
use Rattle.ec_history.proofs.OfLaws.ForPlacing.More.{count-next, durable-step, issued-append, issued-step, kept-step}
use Rattle.ec_history.proofs.OfLaws.ForPlacing.Numbers.{each-append, each-back, each-front}
use Rattle.ec_history.proofs.OfLaws.ForPlacing.Taken.{taken-covered, taken-issues}
use Rattle.ec_history.proofs.OfLaws.ForPlacing.Watching.{closed-undurable, untold-runs}
use Rattle.ec_history.specs.OfLaws.Accounts.{IsUndurable, IsAccounted}
use Rattle.ec_history.proofs.OfLaws.Members.{lost-left, lost-parts, lost-right, member-left, member-right, none_some}
use Rattle.ec_history.proofs.OfLaws.Watched.{Has, begun-has, has-begun, listed-has, stays, was, own}
use Rattle.ec_history.proofs.OfLaws.Accounting.{Accounts, Named, has-now, has-of, now-has, of-has, stays-durable}
use Rattle.ec_base.proofs.Numbers.{same-self as self}
use Rattle.ec_base.proofs.Bools.{clash as off, none as off-from, on, is-true as is_on}
use Rattle.ec_history.proofs.OfLaws.ForPlacing.BasesAlike.{each-map}

-- One more call among the entries: the operations grow by its own, and are counted. It stands behind `past`, and is legal there.
pub record Grows (base : Base) (most : ℕ) (old new : History) (e : ℕ × Entry) : Type 0 where
  pub past : History
  pub rest : History
  pub at : new ≡ past ++ e ∷ rest
  pub legal : IsLegalNext base most past e
  pub back : List Op
  pub was : issued base old ≡ issued base past ++ back
  pub is : issued base new ≡ issued base past ++ (issued_by base (kept base past) e ++ back)
  pub lost : (c b n : ℕ) → T (is_lost c b n old) → T (is_lost c b n new)
  pub covers : (zs : List Shown) → Throughout (IsCovered base zs) [] old → IsCovered base zs past e → Throughout (IsCovered base zs) [] new
  pub counts : (c b : ℕ) → length (filter (is_op_of c b) new) ≡ cond (is_op_of c b e) (length (filter (is_op_of c b) old) + 1) (length (filter (is_op_of c b) old))

-- of one more entry beside one that changes and isn't counted
inserted : (p : ℕ × Entry → Bool) (h h' : History) (x z y : ℕ × Entry) → p x ≡ false → p z ≡ false
    → length (filter p ((h ++ y ∷ []) ++ z ∷ h')) ≡ cond (p y) (length (filter p (h ++ (x ∷ h'))) + 1) (length (filter p (h ++ (x ∷ h'))))
inserted p h h' x z y ex ez =
    ap length (filter-append p (h ++ y ∷ []) (z ∷ h')) ∙ length-append (filter p (h ++ y ∷ [])) (filter p (z ∷ h'))
    ∙ ap (λ u. length u + length (filter p (z ∷ h'))) (filter-append p h (y ∷ [])) ∙ ap (λ u. u + length (filter p (z ∷ h'))) (length-append (filter p h) (filter p (y ∷ [])))
    ∙ ap (λ u. (length (filter p h) + length (cond (p y) (y ∷ []) [])) + length u) (cond-false (p z) (z ∷ filter p h') (filter p h') ez)
    ∙ go (p y)
    ∙ ap (λ u. cond (p y) (u + 1) u) (sym (ap length (filter-append p h (x ∷ h')) ∙ length-append (filter p h) (filter p (x ∷ h')) ∙ ap (λ u. length (filter p h) + length u) (cond-false (p x) (x ∷ filter p h') (filter p h') ex)))
  where
    sum : (m n : ℕ) → (m + 1) + n ≡ (m + n) + 1
    sum m n = omega arith

    none : (m n : ℕ) → (m + 0) + n ≡ m + n
    none m n = omega arith

    go : (b : Bool) → (length (filter p h) + length {A = ℕ × Entry} (cond b (y ∷ []) [])) + length (filter p h') ≡ cond b ((length (filter p h) + length (filter p h')) + 1) (length (filter p h) + length (filter p h'))
    go true = sum (length (filter p h)) (length (filter p h'))
    go false = none (length (filter p h)) (length (filter p h'))

module _ (ss : List Shown) (c l : ℕ) (cl : Call) (a : Answer) (op : Option ℕ) where
  abbrev pub s : Shown
  s = Answered l c cl a op

  abbrev pub b : ℕ
  b = (begun (watch c ss)).starts

  abbrev pub e : ℕ × Entry
  e = (length ss + 1, entry.Call c b l (last_place c b unwatched 1 0 (before_line l ss)) cl a op)

  module _ (base : Base) (most : ℕ) (legal : IsLegal base most (place (ss ++ s ∷ []))) where
    -- while nothing is untold it's the last entry
    grows-last : (watch c ss).untold ≡ None → Grows base most (place ss) (place (ss ++ s ∷ [])) e
    grows-last none = let at = place-answer ss l c cl a op none in record {
      past = place ss;
      rest = [];
      at = at;
      legal = (legal-split base most (place ss) (e ∷ []) (subst (IsLegal base most) at legal)).1.0;
      back = [];
      was = sym (append-nil (issued base (place ss)));
      is = ap (issued base) at ∙ issued-step base (place ss) e ∙ ap (λ x. issued base (place ss) ++ x) (sym (append-nil (issued_by base (kept base (place ss)) e)));
      lost = λ d f n t. subst (λ h. T (is_lost d f n h)) (sym at) (lost-left d f n (place ss) (e ∷ []) t);
      covers = λ zs t v. subst (Throughout (IsCovered base zs) []) (sym at) (throughout-append (IsCovered base zs) [] (place ss) (e ∷ []) t (v, tt));
      counts = λ d f. ap (λ h. length (filter (is_op_of d f) h)) at ∙ count-next d f (place ss) e;
    }

    -- its operation has the next number then
    pub number-last : (watch c ss).untold ≡ None → (n : ℕ) → op ≡ Some n → n ≡ length (filter (is_op_of c b) (place ss)) + 1
    unfolding grows-last
    number-last none n q = subst (IsNext c b (place ss)) q (grows-last none).legal.number

    -- of a clerk that is cut off it stands before the loss, which names its operation too
    module _ (ns : List ℕ) (h : History) (q : ℕ) (h' : History) (old : place ss ≡ h ++ (q, entry.Loss c b ns) ∷ h') (alone : list_any (λ x. is_entry_of c b x.1) h' ≡ false)
        (new : place (ss ++ s ∷ []) ≡ h ++ e ∷ [] ++ (q, entry.Loss c b (ns ++ listed op)) ∷ h') where
      abbrev z : ℕ × Entry
      z = (q, entry.Loss c b ns)

      abbrev z' : ℕ × Entry
      z' = (q, entry.Loss c b (ns ++ listed op))

      assoc : h ++ e ∷ [] ++ z' ∷ h' ≡ h ++ e ∷ (z' ∷ h')
      assoc = cut h
        where
          cut : (g : History) → g ++ e ∷ [] ++ z' ∷ h' ≡ g ++ e ∷ (z' ∷ h')
          cut [] = refl
          cut (x ∷ g) = ap (λ y. x ∷ y) (cut g)

      parts : IsLegal base most h × Throughout (IsLegalNext base most) h (e ∷ (z' ∷ h'))
      parts = legal-split base most h (e ∷ (z' ∷ h')) (subst (IsLegal base most) (new ∙ assoc) legal)

      lost-more : (d f n : ℕ) → T (is_lost d f n (place ss)) → T (is_lost d f n (place (ss ++ s ∷ [])))
      lost-more d f n t = subst (λ x. T (is_lost d f n x)) (sym (new ∙ assoc)) (elim (lost-parts d f n h (z ∷ h') (subst (λ x. T (is_lost d f n x)) old t)) [
        | inl x ↦ lost-left d f n h (e ∷ (z' ∷ h')) x
        | inr x ↦ lost-right d f n h (e ∷ (z' ∷ h')) (grown (names d f n z.1) (is_lost d f n h') refl x)
      ])
        where
          grown : (u v : Bool) → names d f n z.1 ≡ u → T (u || v) → T (names d f n z'.1 || v)
          grown true v y x = let p = and_parts (same_start d f c b) (member n ns) y in on (or_left _ v (and_from (same_start d f c b) _ p.0 (is_on _ (member-left n ns (listed op) (on p.1)))))
          grown false v y x = on (or_right (names d f n z'.1) v (is_on _ x))

      grows-late : Grows base most (place ss) (place (ss ++ s ∷ [])) e
      grows-late = record {
        past = h;
        rest = z' ∷ h';
        at = new ∙ assoc;
        legal = parts.1.0;
        back = issued_from base (kept base (h ++ z ∷ [])) h';
        was = ap (issued base) old ∙ issued-append base h (z ∷ h') ∙ ap (λ ks. issued base h ++ issued_from base ks h') (sym (kept-step base h z));
        is = ap (issued base) new ∙ taken-issues base most c b (length ss + 1) l (last_place c b unwatched 1 0 (before_line l ss)) q cl a op ns h h' parts.0 parts.1.0
            ∙ assoc-ops (issued base h) (issued_by base (kept base h) e) (issued_from base (kept base (h ++ z ∷ [])) h');
        lost = lost-more;
        covers = λ zs t v. subst (Throughout (IsCovered base zs) []) (sym new) (taken-covered base most c b (length ss + 1) l (last_place c b unwatched 1 0 (before_line l ss)) q cl a op ns h h' parts.0 parts.1.0 zs alone
            (subst (Throughout (IsCovered base zs) []) old t) v);
        counts = λ d f. ap (λ x. length (filter (is_op_of d f) x)) new ∙ inserted (is_op_of d f) h h' z z' e refl refl ∙ ap (λ x. cond (is_op_of d f e) (length (filter (is_op_of d f) x) + 1) (length (filter (is_op_of d f) x))) (sym old);
      }
        where
          assoc-ops : (x y w : List Op) → x ++ y ++ w ≡ x ++ (y ++ w)
          assoc-ops [] y w = refl
          assoc-ops (k ∷ x) y w = ap (λ u. k ∷ u) (assoc-ops x y w)

    pub grows : Grows base most (place ss) (place (ss ++ s ∷ [])) e
    grows = go (watch c ss).untold refl
      where
        go : (u : Option (List ℕ)) → (watch c ss).untold ≡ u → Grows base most (place ss) (place (ss ++ s ∷ [])) e
        go None q = grows-last q
        go (Some ns) q =
            let p = place-late ss c ns q in
            let same : (watch c ss).starts ≡ b = ap (λ w. w.starts) (sym (untold-runs c ss ns q).2) in
            grows-late ns p.0 p.1 p.2 (subst (λ f. place ss ≡ p.0 ++ (p.1, entry.Loss c f ns) ∷ p.2) same p.3)
            (subst (λ f. list_any (λ x. is_entry_of c f x.1) p.2 ≡ false) same p.4)
            (subst (λ f. place (ss ++ s ∷ []) ≡ p.0 ++ e ∷ [] ++ (p.1, entry.Loss c f (ns ++ listed op)) ∷ p.2) same (p.5 l cl a op))
