-- A call is answered and leaves.
use Rattle.std.proofs.Common.{◌≡◌, refl, sym, ap, subst, ◌∙◌, arith, ◌≤◌, ◌+◌, ℕ, suc, Bool, true, false, not, ◌==◌, ◌&&◌, ◌||◌, cond, List, [], ◌∷◌, ◌++◌, length, Option, Some, None}
use Rattle.std.specs.List.{list_any}
use Rattle.std.proofs.lemmas.Bool.{cond_both, cond-false, cond-true}
use Rattle.std.proofs.lemmas.List.Folds.{list_any-append}
use Rattle.ec_volume.specs.Update.{listed}
use Rattle.ec_plain.specs.declared.call.Call.{Call}
use Rattle.ec_history.specs.declared.entry.Answer.{Answer}
use Rattle.ec_history.specs.declared.entry.Entry.{Entry}
use Rattle.ec_history.specs.declared.entry.Entry.TheVariants as entry
use Rattle.ec_history.specs.History.{History, Each, is_entry_of, same_start}
use Rattle.ec_history.specs.Placing.{answered, before_line, begun, is_numbered, last_place, gives_entry, place, shows, unwatched, watch, watch_next}
use Rattle.ec_history.specs.declared.watch.Watch.{Watch}
use Rattle.ec_history.specs.declared.shown.Shown.{Shown}
use Rattle.ec_history.specs.declared.shown.Shown.TheVariants as show
use Rattle.ec_history.proofs.OfLaws.ForPlacing.Held.{place-late}
use Rattle.ec_history.proofs.OfLaws.ForPlacing.Late.{place-answer}
use Rattle.ec_history.proofs.OfLaws.ForPlacing.More.{watch-step}
use Rattle.ec_history.proofs.OfLaws.ForPlacing.Numbers.{each-append, each-back, each-front}
use Rattle.ec_history.proofs.OfLaws.ForPlacing.Watching.{answered_as, before_session, in_session, untold-runs}
use Rattle.ec_volume.specs.Image.{is_id}
use Rattle.ec_lawful.specs.OfClerkSteps.Calls.{LosesBelow, before_last, told_to}
use Rattle.ec_lawful.proofs.OfClerkSteps.ForCalls.Known.{Knows, last-is, loses-other, other-last}
use Rattle.ec_base.proofs.Numbers.{same-self as same}
use Rattle.ec_history.proofs.PlacingLemmas.{showing}

-- The place of a start's last entry among these lines is one of them.
last-within : (c b : ℕ) (w : Watch) (p found m : ℕ) (ss : List Shown) → found ≤ m → p + length ss ≤ m + 1 → last_place c b w p found ss ≤ m
last-within c b w p found m [] f l = f
last-within c b w p found m (s ∷ ss) f l = last-within c b (watch_next c w s) (p + 1) (cond (gives_entry c b w s) p found) m ss (here (gives_entry c b w s) (length ss) refl) (more (length ss) refl)
  where
    here : (x : Bool) (n : ℕ) → length ss ≡ n → cond x p found ≤ m
    here true n e = within (length ss) l
      where
        within : (n : ℕ) → p + suc n ≤ m + 1 → p ≤ m
        within n k = omega (arith, k)
    here false n e = f

    more : (n : ℕ) → length ss ≡ n → (p + 1) + length ss ≤ m + 1
    more n e = move (length ss) l
      where
        move : (n : ℕ) → p + suc n ≤ m + 1 → (p + 1) + n ≤ m + 1
        move n k = omega (arith, k)

front-shorter : (l : ℕ) (ss : List Shown) → length (before_line l ss) ≤ length ss
front-shorter l [] = omega arith
front-shorter l (s ∷ ss) = go (is_numbered l s) (front-shorter l ss)
  where
    go : (x : Bool) → length (before_line l ss) ≤ length ss → length (cond x [] (s ∷ before_line l ss)) ≤ length (s ∷ ss)
    go true r = omega arith
    go false r = omega (arith, r)

pub begun-within : (c b l : ℕ) (ss : List Shown) → last_place c b unwatched 1 0 (before_line l ss) ≤ length ss
begun-within c b l ss = last-within c b unwatched 1 0 (length ss) (before_line l ss) (omega arith) (shift (length (before_line l ss)) (length ss) (front-shorter l ss))
  where
    shift : (m n : ℕ) → m ≤ n → 1 + m ≤ n + 1
    shift m n l = omega (arith, l)

-- What an answer's line adds to the entries: its call, and perhaps a loss names one operation more.

answered-none : (w : Watch) (sh : Bool) (op : Option ℕ) → w.untold ≡ None → (answered w sh op).untold ≡ None
answered-none w sh op e =
    ap (λ u. (answered_as w sh op u).untold) e
    ∙ cond_both sh (showing w op) (cond (is_id w.starts w.open_start) (in_session w op) (before_session w op)) (λ z. z.untold ≡ None) (λ f. e)
    (λ f. cond_both (is_id w.starts w.open_start) (in_session w op) (before_session w op) (λ z. z.untold ≡ None) (λ i. e) (λ i. e))

answered-some : (w : Watch) (sh : Bool) (op : Option ℕ) (ns : List ℕ) → w.untold ≡ Some ns → (answered w sh op).untold ≡ Some (ns ++ listed op)
answered-some w sh op ns e = ap (λ u. (answered_as w sh op u).untold) e

-- before the last entry of a start, one of another start is put in, and another one changes
inserted : (c b : ℕ) (P : ℕ × Entry → Type 0) (h rest : History) (x old now : ℕ × Entry) → is_entry_of c b x.1 ≡ false → is_entry_of c b old.1 ≡ false → is_entry_of c b now.1 ≡ false → P x → P now
    → Each P (before_last c b (h ++ old ∷ rest)) → Each P (before_last c b ((h ++ x ∷ []) ++ now ∷ rest))
inserted c b P [] rest x old now nx nold nn px pn k =
    subst (λ z. Each P (elim (z && not (is_entry_of c b now.1 || list_any (λ e. is_entry_of c b e.1) rest)) as (λ y. History) [ true ↦ [] | false ↦ x ∷ before_last c b (now ∷ rest) ])) (sym nx)
    (px, subst (λ z. Each P (elim (z && not (list_any (λ e. is_entry_of c b e.1) rest)) as (λ y. History) [ true ↦ [] | false ↦ now ∷ before_last c b rest ])) (sym nn) (pn, more))
  where
    more : Each P (before_last c b rest)
    more = (subst (λ z. Each P (elim (z && not (list_any (λ e. is_entry_of c b e.1) rest)) as (λ y. History) [ true ↦ [] | false ↦ old ∷ before_last c b rest ])) nold k).1
inserted c b P (y ∷ h) rest x old now nx nold nn px pn k = by (is_entry_of c b y.1) (list_any (λ e. is_entry_of c b e.1) h) (list_any (λ e. is_entry_of c b e.1) rest) _ _ before behind k (inserted c b P h rest x old now nx nold nn px pn)
  where
    before : list_any (λ e. is_entry_of c b e.1) (h ++ old ∷ rest) ≡ (list_any (λ e. is_entry_of c b e.1) h || list_any (λ e. is_entry_of c b e.1) rest)
    before = list_any-append (λ e. is_entry_of c b e.1) h (old ∷ rest) ∙ ap (λ z. list_any (λ e. is_entry_of c b e.1) h || (z || list_any (λ e. is_entry_of c b e.1) rest)) nold

    or_false : (z : Bool) → (z || false) ≡ z
    or_false true = refl
    or_false false = refl

    behind : list_any (λ e. is_entry_of c b e.1) ((h ++ x ∷ []) ++ now ∷ rest) ≡ (list_any (λ e. is_entry_of c b e.1) h || list_any (λ e. is_entry_of c b e.1) rest)
    behind = list_any-append (λ e. is_entry_of c b e.1) (h ++ x ∷ []) (now ∷ rest) ∙ ap (λ z. list_any (λ e. is_entry_of c b e.1) (h ++ x ∷ []) || (z || list_any (λ e. is_entry_of c b e.1) rest)) nn ∙ ap (λ z. z || list_any (λ e. is_entry_of c b e.1) rest) (list_any-append (λ e. is_entry_of c b e.1) h (x ∷ []) ∙ ap (λ z. list_any (λ e. is_entry_of c b e.1) h || (z || false)) nx ∙ or_false (list_any (λ e. is_entry_of c b e.1) h))

    by : (i m r p q : Bool) → p ≡ (m || r) → q ≡ (m || r) → Each P (elim (i && not p) as (λ z. History) [ true ↦ [] | false ↦ y ∷ before_last c b (h ++ old ∷ rest) ])
        → (Each P (before_last c b (h ++ old ∷ rest)) → Each P (before_last c b ((h ++ x ∷ []) ++ now ∷ rest))) → Each P (elim (i && not q) as (λ z. History) [ true ↦ [] | false ↦ y ∷ before_last c b ((h ++ x ∷ []) ++ now ∷ rest) ])
    by i m r p q e f k g = at i p q (e ∙ sym f) k g
      where
        at : (i p q : Bool) → p ≡ q → Each P (elim (i && not p) as (λ z. History) [ true ↦ [] | false ↦ y ∷ before_last c b (h ++ old ∷ rest) ])
            → (Each P (before_last c b (h ++ old ∷ rest)) → Each P (before_last c b ((h ++ x ∷ []) ++ now ∷ rest))) → Each P (elim (i && not q) as (λ z. History) [ true ↦ [] | false ↦ y ∷ before_last c b ((h ++ x ∷ []) ++ now ∷ rest) ])
        at i p q e k g = subst (λ z. Each P (elim (i && not z) as (λ w. History) [ true ↦ [] | false ↦ y ∷ before_last c b ((h ++ x ∷ []) ++ now ∷ rest) ])) e (on i p k)
          where
            on : (i p : Bool) → Each P (elim (i && not p) as (λ z. History) [ true ↦ [] | false ↦ y ∷ before_last c b (h ++ old ∷ rest) ]) → Each P (elim (i && not p) as (λ z. History) [ true ↦ [] | false ↦ y ∷ before_last c b ((h ++ x ∷ []) ++ now ∷ rest) ])
            on true true k = (k.0, g k.1)
            on true false k = tt
            on false p k = (k.0, g k.1)

module _ (ss : List Shown) (l c : ℕ) (cl : Call) (a : Answer) (op : Option ℕ) where
  abbrev w : Watch
  w = watch c ss

  abbrev line : Shown
  line = show.Answered l c cl a op

  abbrev pub answered_now : List Shown
  answered_now = ss ++ line ∷ []

  abbrev pub new_entry : ℕ × Entry
  new_entry = (length ss + 1, entry.Call c (begun w).starts l (last_place c (begun w).starts unwatched 1 0 (before_line l ss)) cl a op)

  watched : watch c answered_now ≡ answered (begun w) (shows cl a) op
  watched = watch-step c ss line ∙ cond-true (c == c) (answered (begun w) (shows cl a) op) w (same c)

  -- of each entry, where it's true of the new one and of losses of the clerk
  pub answer-entries : (P : ℕ × Entry → Type 0) → P new_entry → ((p b : ℕ) (ns : List ℕ) → P (p, entry.Loss c b ns)) → Each P (place ss) → Each P (place answered_now)
  answer-entries P new losses k = go w.untold refl
    where
      go : (u : Option (List ℕ)) → w.untold ≡ u → Each P (place answered_now)
      go None e = subst (Each P) (sym (place-answer ss l c cl a op e)) (each-append P (place ss) (new_entry ∷ []) k (new, tt))
      go (Some ns) e =
          let at = place-late ss c ns e in
          let old : Each P (at.0 ++ (at.1, entry.Loss c w.starts ns) ∷ at.2) = subst (Each P) at.3 k in
          subst (Each P) (sym (at.5 l cl a op)) (each-append P (at.0 ++ new_entry ∷ []) ((at.1, entry.Loss c w.starts (ns ++ listed op)) ∷ at.2)
          (each-append P at.0 (new_entry ∷ []) (each-front P at.0 ((at.1, entry.Loss c w.starts ns) ∷ at.2) old) (new, tt))
          (losses at.1 w.starts (ns ++ listed op), (each-back P at.0 ((at.1, entry.Loss c w.starts ns) ∷ at.2) old).1))

  -- what its start knows to be lost
  pub answer-knows : (sb n : ℕ) → (begun w).starts ≡ sb → Knows c sb n ss → Knows c sb n answered_now
  answer-knows sb n starts k = go w.untold refl
    where
      begun-still : (begun w).untold ≡ w.untold
      begun-still = cond_both w.running w (record w { starts = w.starts + 1; running = true }) (λ v. v.untold ≡ w.untold) (λ r. refl) (λ r. refl)

      go : (u : Option (List ℕ)) → w.untold ≡ u → Knows c sb n answered_now
      go None e =
          let none : (watch c answered_now).untold ≡ None = ap (λ z. z.untold) watched ∙ answered-none (begun w) (shows cl a) op (begun-still ∙ e) in
          subst (λ o. Each (LosesBelow c sb n) (told_to c sb o (place answered_now))) (sym none) (subst (Each (LosesBelow c sb n)) (sym (place-answer ss l c cl a op e)) (each-append (LosesBelow c sb n) (place ss) (new_entry ∷ []) (subst (λ o. Each (LosesBelow c sb n) (told_to c sb o (place ss))) e k) (tt, tt)))
      go (Some ns) e =
          let at = place-late ss c ns e in
          let run = untold-runs c ss ns e in
          let number : w.starts ≡ sb = sym (ap (λ z. z.starts) run.2) ∙ starts in
          let some : (watch c answered_now).untold ≡ Some (ns ++ listed op) = ap (λ z. z.untold) watched ∙ answered-some (begun w) (shows cl a) op ns (begun-still ∙ e) in
          let lacks : list_any (λ x. is_entry_of c sb x.1) at.2 ≡ false = subst (λ z. list_any (λ x. is_entry_of c z x.1) at.2 ≡ false) number at.4 in
          let its : (same_start c sb c w.starts) ≡ true = ap (λ z. same_start c sb c z) number ∙ ap (λ z. z && (sb == sb)) (same c) ∙ same sb in
          let was : Each (LosesBelow c sb n) at.0 = subst (Each (LosesBelow c sb n)) (ap (before_last c sb) at.3 ∙ last-is c sb at.0 at.2 (at.1, entry.Loss c w.starts ns) its lacks) (subst (λ o. Each (LosesBelow c sb n) (told_to c sb o (place ss))) e k) in
          subst (λ o. Each (LosesBelow c sb n) (told_to c sb o (place answered_now))) (sym some)
          (subst (Each (LosesBelow c sb n)) (sym (ap (before_last c sb) (at.5 l cl a op) ∙ last-is c sb (at.0 ++ new_entry ∷ []) at.2 (at.1, entry.Loss c w.starts (ns ++ listed op)) its lacks)) (each-append (LosesBelow c sb n) at.0 (new_entry ∷ []) was (tt, tt)))

  -- and another clerk's
  pub answer-knows-other : (f sb n : ℕ) → (f == c) ≡ false → Knows f sb n ss → Knows f sb n answered_now
  answer-knows-other f sb n d k = subst (λ o. Each (LosesBelow f sb n) (told_to f sb o (place answered_now))) (sym still) (at (watch f ss).untold k)
    where
      still : (watch f answered_now).untold ≡ (watch f ss).untold
      still = ap (λ z. z.untold) (watch-step f ss line ∙ cond-false (f == c) (answered (begun (watch f ss)) (shows cl a) op) (watch f ss) d)

      not-its : (b : ℕ) → same_start f sb c b ≡ false
      not-its b = ap (λ z. z && (sb == b)) d

      at : (o : Option (List ℕ)) → Each (LosesBelow f sb n) (told_to f sb o (place ss)) → Each (LosesBelow f sb n) (told_to f sb o (place answered_now))
      at None k = answer-entries (LosesBelow f sb n) tt (λ p b ns. loses-other f sb n p c b ns (not-its b)) k
      at (Some ms) k = go w.untold refl
        where
          go : (u : Option (List ℕ)) → w.untold ≡ u → Each (LosesBelow f sb n) (before_last f sb (place answered_now))
          go None e = subst (λ h. Each (LosesBelow f sb n) (before_last f sb h)) (sym (place-answer ss l c cl a op e)) (other-last f sb (LosesBelow f sb n) (place ss) new_entry (not-its (begun w).starts) tt k)
          go (Some ns) e =
              let at = place-late ss c ns e in
              subst (λ h. Each (LosesBelow f sb n) (before_last f sb h)) (sym (at.5 l cl a op))
              (inserted f sb (LosesBelow f sb n) at.0 at.2 new_entry (at.1, entry.Loss c w.starts ns) (at.1, entry.Loss c w.starts (ns ++ listed op)) (not-its (begun w).starts) (not-its w.starts) (not-its w.starts) tt
              (loses-other f sb n at.1 c w.starts (ns ++ listed op) (not-its w.starts)) (subst (λ h. Each (LosesBelow f sb n) (before_last f sb h)) at.3 k))
