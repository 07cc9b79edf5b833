-- How a clerk's starts go on from line to line, and which of them a line's entry can be of.
use Rattle.std.proofs.Common.{◌≡◌, refl, sym, ap, subst, ◌∙◌, arith, inl, inr, ◌≤◌, ◌<◌, ◌+◌, ℕ, Bool, true, false, ◌==◌, ◌&&◌, cond, List, [], ◌∷◌, ◌++◌, length, Option, Some, None}
use Rattle.std.specs.Prelude.{◌⊎◌, is_none}
use Rattle.std.proofs.lemmas.Bool.{cond_both, cond-true, cond-false, cases_eq, ne_eqb}
use Rattle.ec_volume.specs.Image.{is_id}
use Rattle.ec_history.proofs.OfLaws.ForPlacing.More.{watch-step, last_place-step}
use Rattle.ec_history.proofs.OfLaws.ForPlacing.Watching.{from_front, IsSound, sound, answered_as, in_session, before_session, own_end, other_end, runs-begun}
use Rattle.ec_history.specs.Placing.{watch, watch_next, unwatched, begun, answered, ended, owner, is_running, shows, last_place, gives_entry}
use Rattle.ec_history.specs.declared.watch.Watch.{Watch}
use Rattle.ec_history.specs.declared.shown.Shown.{Shown}
use Rattle.ec_history.specs.declared.shown.Shown.TheVariants.{Waits, Answered, Durable, Ended, Told, Crashed}
use Rattle.ec_watch.specs.Watches.{clerk_of}
use Rattle.ec_lines.specs.Index.{start_of, last_entry, last_after}
use Rattle.ec_history.proofs.PlacingLemmas.{showing}
use Rattle.ec_base.proofs.Options.{other-clerk}
use Rattle.ec_watch.proofs.Watched.{unchanged, unmoved}

-- the start that runs or comes next, by whether the last one of so many runs
abbrev next_start : Bool → ℕ → ℕ
next_start true n = n
next_start false n = n + 1

begun-starts : (w : Watch) → (begun w).starts ≡ next_start w.running w.starts
begun-starts w = go w.running
  where
    go : (r : Bool) → (cond r w (record w { starts = w.starts + 1; running = true })).starts ≡ next_start r w.starts
    go true = refl
    go false = refl

answered-keeps : (P : Bool → ℕ → Type 0) (w : Watch) (sh : Bool) (op : Option ℕ) → P w.running w.starts → P (answered w sh op).running (answered w sh op).starts
answered-keeps P w sh op h = go w.untold
  where
    go : (u : Option (List ℕ)) → P (answered_as w sh op u).running (answered_as w sh op u).starts
    go (Some ns) = h
    go None = cond_both sh (showing w op) (cond (is_id w.starts w.open_start) (in_session w op) (before_session w op)) (λ v. P v.running v.starts) (λ e. h)
        (λ e. cond_both (is_id w.starts w.open_start) (in_session w op) (before_session w op) (λ v. P v.running v.starts) (λ f. h) (λ f. h))

-- a line leaves the clerk's last start as it was, or it is a call of the start that runs or comes next, or that start crashed
by-kind : (P : Bool → ℕ → Type 0) (c : ℕ) (w : Watch) (s : Shown) → P w.running w.starts → P true (begun w).starts → P false w.starts → P (watch_next c w s).running (watch_next c w s).starts
by-kind P c w (Waits l d cl) same call crash = cond_both (c == d) (begun w) w (λ v. P v.running v.starts) (λ e. subst (λ r. P r (begun w).starts) (sym (runs-begun w)) call) (λ e. same)
by-kind P c w (Answered l d cl a op) same call crash =
    cond_both (c == d) (answered (begun w) (shows cl a) op) w (λ v. P v.running v.starts)
    (λ e. answered-keeps P (begun w) (shows cl a) op (subst (λ r. P r (begun w).starts) (sym (runs-begun w)) call)) (λ e. same)
by-kind P c w (Durable d ns) same call crash = cond_both (c == d) _ w (λ v. P v.running v.starts) (λ e. same) (λ e. same)
by-kind P c w (Ended d ns) same call crash =
    cond_both (c == d) (ended w ns) w (λ v. P v.running v.starts)
    (λ e. cond_both (is_running w (owner w)) (own_end w ns) (other_end w) (λ v. P v.running v.starts) (λ r. same) (λ r. same))
    (λ e. same)
by-kind P c w (Told d ns) same call crash = cond_both (c == d) _ w (λ v. P v.running v.starts) (λ e. same) (λ e. same)
by-kind P c w (Crashed d) same call crash = cond_both (c == d) _ w (λ v. P v.running v.starts) (λ e. crash) (λ e. same)
by-kind P c w s same call crash = same

next-above : (r : Bool) (n : ℕ) → n ≤ next_start r n
next-above true n = omega arith
next-above false n = omega arith

next-within : (r : Bool) (n : ℕ) → next_start r n ≤ n + 1
next-within true n = omega arith
next-within false n = omega arith

starts-below : (w : Watch) → w.starts ≤ (begun w).starts
starts-below w = omega (arith, begun-starts w, next-above w.running w.starts)

starts-up : (c : ℕ) (w : Watch) (s : Shown) → w.starts ≤ (watch_next c w s).starts
starts-up c w s = by-kind (λ r n. w.starts ≤ n) c w s (omega arith) (starts-below w) (omega arith)

next-up : (c : ℕ) (w : Watch) (s : Shown) → (begun w).starts ≤ (begun (watch_next c w s)).starts
next-up c w s =
    let go : (begun w).starts ≤ next_start (watch_next c w s).running (watch_next c w s).starts =
    by-kind (λ r n. (begun w).starts ≤ next_start r n) c w s (omega (arith, begun-starts w)) (omega arith) (omega (arith, begun-starts w, next-within w.running w.starts)) in
    omega (arith, go, begun-starts (watch_next c w s))

-- a start goes on, or comes anew
new-start : (c : ℕ) (w : Watch) (s : Shown) → ((begun w).starts ≡ (begun (watch_next c w s)).starts) ⊎ ((watch_next c w s).starts < (begun (watch_next c w s)).starts)
new-start c w s = elim go [
  | inl e ↦ inl (e ∙ sym (begun-starts (watch_next c w s)))
  | inr l ↦ inr (omega (arith, l, begun-starts (watch_next c w s)))
]
  where
    go : ((begun w).starts ≡ next_start (watch_next c w s).running (watch_next c w s).starts) ⊎ ((watch_next c w s).starts < next_start (watch_next c w s).running (watch_next c w s).starts)
    go = by-kind (λ r n. ((begun w).starts ≡ next_start r n) ⊎ (n < next_start r n)) c w s (inl (begun-starts w)) (inl refl) (inr (omega arith))

pub start-rises : (c : ℕ) (past : List Shown) (s : Shown) → start_of c past ≤ start_of c (past ++ s ∷ [])
start-rises c past s = subst (λ w. start_of c past ≤ (begun w).starts) (sym (watch-step c past s)) (next-up c (watch c past) s)

-- A line gives no entry of a start that is still to come behind it.

owner-within : (w : Watch) (b : ℕ) → IsSound w → w.starts < b → is_id b (owner w) ≡ false
owner-within w b h l = go w.open_start (λ x e. (h.opened x e).1)
  where
    go : (o : Option ℕ) → ((x : ℕ) → o ≡ Some x → x ≤ w.starts) → is_id b (elim o [ Some x ↦ Some x | None ↦ cond (w.running && is_none w.untold) (Some w.starts) None ]) ≡ false
    go (Some x) k = ne_eqb b x (λ e. let le : x ≤ w.starts = k x refl in omega (arith, le, l, e))
    go None k = cond_both (w.running && is_none w.untold) (Some w.starts) None (λ q. is_id b q ≡ false) (λ e. ne_eqb b w.starts (λ f. omega (arith, l, f))) (λ e. refl)

gives-below : (c b : ℕ) (w : Watch) (s : Shown) → IsSound w → (watch_next c w s).starts < b → gives_entry c b w s ≡ false
gives-below c b w (Answered l d cl a op) h lt = go (c == d) lt
  where
    go : (q : Bool) → (cond q (answered (begun w) (shows cl a) op) w).starts < b → (q && (b == (begun w).starts)) ≡ false
    go true k = ne_eqb b (begun w).starts (λ e. let le : (begun w).starts ≤ (answered (begun w) (shows cl a) op).starts = answered-keeps (λ r n. (begun w).starts ≤ n) (begun w) (shows cl a) op (omega arith) in omega (arith, le, k, e))
    go false k = refl
gives-below c b w (Ended d ns) h lt = go (c == d)
  where
    go : (q : Bool) → (q && is_id b (owner w)) ≡ false
    go true = owner-within w b h (let le : w.starts ≤ (watch_next c w (Ended d ns)).starts = starts-up c w (Ended d ns) in omega (arith, le, lt))
    go false = refl
gives-below c b w s h lt = refl

-- no line gives an entry of a start to come
pub none-given : (c b : ℕ) (ss : List Shown) → (watch c ss).starts < b → last_place c b unwatched 1 0 ss ≡ 0
none-given c b = from_front (λ ss. (watch c ss).starts < b → last_place c b unwatched 1 0 ss ≡ 0) (λ l. refl) λ ss s h l.
    let now : (watch_next c (watch c ss) s).starts < b = subst (λ w. w.starts < b) (watch-step c ss s) l in
    let up : (watch c ss).starts ≤ (watch_next c (watch c ss) s).starts = starts-up c (watch c ss) s in
    last_place-step c b ss s ∙ cond-false (gives_entry c b (watch c ss) s) _ _ (gives-below c b (watch c ss) s (sound c ss) now) ∙ h (omega (arith, up, now))

-- nor of one behind the next
pub none-later : (c b : ℕ) (ss : List Shown) → start_of c ss < b → last_place c b unwatched 1 0 ss ≡ 0
none-later c b ss l = none-given c b ss (let up : (watch c ss).starts ≤ start_of c ss = starts-below (watch c ss) in omega (arith, up, l))

-- The last entry, one line on.
pub last-step : (c : ℕ) (ss : List Shown) (s : Shown) → last_entry c (ss ++ s ∷ []) ≡ last_after (start_of c ss) (start_of c (ss ++ s ∷ [])) (gives_entry c (start_of c ss) (watch c ss) s) (length ss) (last_entry c ss)
last-step c ss s = elim (cases_eq (start_of c ss) (start_of c (ss ++ s ∷ []))) [
  | inl e ↦ ap (λ b. last_place c b unwatched 1 0 (ss ++ s ∷ [])) (sym e) ∙ last_place-step c (start_of c ss) ss s ∙ sym (cond-true (start_of c ss == start_of c (ss ++ s ∷ [])) _ 0 (same (start_of c ss) _ e))
  | inr n ↦ none-given c (start_of c (ss ++ s ∷ [])) (ss ++ s ∷ []) (fresh n) ∙ sym (cond-false (start_of c ss == start_of c (ss ++ s ∷ [])) _ 0 (ne_eqb (start_of c ss) _ n))
]
  where
    same : (m n : ℕ) → m ≡ n → (m == n) ≡ true
    same m n e = grind (arith, e)

    fresh : (start_of c ss ≡ start_of c (ss ++ s ∷ []) → ⊥) → (watch c (ss ++ s ∷ [])).starts < start_of c (ss ++ s ∷ [])
    fresh n = subst (λ w. w.starts < (begun w).starts) (sym (watch-step c ss s)) (elim (new-start c (watch c ss) s) [
      | inl e ↦ absurd (n (e ∙ ap (λ w. (begun w).starts) (sym (watch-step c ss s))))
      | inr l ↦ l
    ])

-- A line of another clerk.

gives-none : (d c b : ℕ) (w : Watch) (s : Shown) → clerk_of s ≡ Some c → (d == c) ≡ false → gives_entry d b w s ≡ false
gives-none d c b w (Answered l e cl a op) p n = ap (λ q. q && (b == (begun w).starts)) (other-clerk e c d p n)
gives-none d c b w (Ended e ns) p n = ap (λ q. q && is_id b (owner w)) (other-clerk e c d p n)
gives-none d c b w s p n = refl

pub last-other : (d c : ℕ) (ss : List Shown) (s : Shown) → clerk_of s ≡ Some c → (d == c) ≡ false → last_entry d (ss ++ s ∷ []) ≡ last_entry d ss
last-other d c ss s p n =
    let here : watch d (ss ++ s ∷ []) ≡ watch d ss = watch-step d ss s ∙ unchanged d c (watch d ss) s p n in
    ap (λ w. last_place d (begun w).starts unwatched 1 0 (ss ++ s ∷ [])) here ∙ last_place-step d (start_of d ss) ss s ∙ cond-false (gives_entry d (start_of d ss) (watch d ss) s) _ _ (gives-none d c (start_of d ss) (watch d ss) s p n)

-- a line of no clerk

gives-nothing : (d b : ℕ) (w : Watch) (s : Shown) → clerk_of s ≡ None → gives_entry d b w s ≡ false
gives-nothing d b w (Answered l e cl a op) p = absurd (cc)
gives-nothing d b w (Ended e ns) p = absurd (cc)
gives-nothing d b w s p = refl

pub last-nobody : (d : ℕ) (ss : List Shown) (s : Shown) → clerk_of s ≡ None → last_entry d (ss ++ s ∷ []) ≡ last_entry d ss
last-nobody d ss s p =
    let here : watch d (ss ++ s ∷ []) ≡ watch d ss = watch-step d ss s ∙ unmoved d (watch d ss) s p in
    ap (λ w. last_place d (begun w).starts unwatched 1 0 (ss ++ s ∷ [])) here ∙ last_place-step d (start_of d ss) ss s ∙ cond-false (gives_entry d (start_of d ss) (watch d ss) s) _ _ (gives-nothing d (start_of d ss) (watch d ss) s p)
