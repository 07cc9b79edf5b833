-- The watches of all clerks, line by line.
use Rattle.std.proofs.Common.{◌≡◌, refl, sym, ap, subst, ◌∙◌, arith, inl, inr, ◌≤◌, ◌<◌, ◌+◌, ℕ, Bool, true, false, ◌==◌, cond, List, [], ◌∷◌, ◌++◌, length, set, get_or, Option, Some, None, length-append, length-set, get_or-set_same, get_or-set_other, append_assoc, append-nil}
use Rattle.std.specs.Prelude.{slice_get}
use Rattle.std.proofs.lemmas.Bool.{cond_both, cond-false, cases_eq, ne_eqb}
use Rattle.std.proofs.lemmas.Option.{get_or_from_slice_get, slice_get-get_or}
use Rattle.ec_base.specs.Limits.{clerk_count}
use Rattle.ec_volume.specs.Image.{is_id}
use Rattle.ec_volume.specs.Update.{listed}
use Rattle.ec_history.specs.Placing.{watch, watch_from, watch_next, unwatched, begun, answered, ended, owner, is_running, shows}
use Rattle.ec_history.specs.declared.watch.Watch.{Watch}
use Rattle.ec_history.specs.declared.shown.Shown.{Shown}
use Rattle.ec_history.specs.declared.shown.Shown.TheVariants.{Waits, Answered, Durable, Ended, Unseen, Told, Crashed}
use Rattle.ec_watch.specs.Watches.{AreWatched, clerk_of}
use Rattle.ec_history.proofs.PlacingLemmas.{showing, watch-push}
use Rattle.ec_base.proofs.Options.{other-clerk}

-- one more line
pub watch-step : (c : ℕ) (ss : List Shown) (s : Shown) → watch c (ss ++ s ∷ []) ≡ watch_next c (watch c ss) s
watch-step c ss s = watch-push c unwatched ss s

abbrev in_session : Watch → Option ℕ → Watch
in_session w op = record w { undurable = w.undurable ++ listed op }

abbrev before_session : Watch → Option ℕ → Watch
before_session w op = record w { early = w.early ++ listed op }

abbrev answered_as : Watch → Bool → Option ℕ → Option (List ℕ) → Watch
answered_as w sh op u = elim u [
  | Some ns ↦ record w { untold = Some (ns ++ listed op) }
  | None ↦ cond sh (showing w op) (cond (is_id w.starts w.open_start) (in_session w op) (before_session w op))
]

-- The watch behind the end of a session: of the running start's, or of an earlier one's.
abbrev own_end : Watch → List ℕ → Watch
own_end w ns = record w { open_start = None; undurable = []; early = []; untold = Some ns }

abbrev other_end : Watch → Watch
other_end w = record w { open_start = None; undurable = [] }

-- a line of another clerk changes nothing
pub unchanged : (d c : ℕ) (w : Watch) (s : Shown) → clerk_of s ≡ Some c → (d == c) ≡ false → watch_next d w s ≡ w
unchanged d c w (Waits l e cl) p n = cond-false (d == e) _ w (other-clerk e c d p n)
unchanged d c w (Answered l e cl a op) p n = cond-false (d == e) _ w (other-clerk e c d p n)
unchanged d c w (Durable e ns) p n = cond-false (d == e) _ w (other-clerk e c d p n)
unchanged d c w (Ended e ns) p n = cond-false (d == e) _ w (other-clerk e c d p n)
unchanged d c w (Unseen e) p n = refl
unchanged d c w (Told e ns) p n = cond-false (d == e) _ w (other-clerk e c d p n)
unchanged d c w (Crashed e) p n = cond-false (d == e) _ w (other-clerk e c d p n)
unchanged d c w s p n = refl

-- and a line of no clerk neither
pub unmoved : (d : ℕ) (w : Watch) (s : Shown) → clerk_of s ≡ None → watch_next d w s ≡ w
unmoved d w (Waits l e cl) p = absurd (cc)
unmoved d w (Answered l e cl a op) p = absurd (cc)
unmoved d w (Durable e ns) p = absurd (cc)
unmoved d w (Ended e ns) p = absurd (cc)
unmoved d w (Unseen e) p = refl
unmoved d w (Told e ns) p = absurd (cc)
unmoved d w (Crashed e) p = absurd (cc)
unmoved d w s p = refl

pub watched-at : (ws : List Watch) (past : List Shown) (c : ℕ) (d : Watch) → AreWatched ws past → c < clerk_count → get_or ws c d ≡ watch c past
watched-at ws past c d h l = get_or_from_slice_get ws c (watch c past) d (h.each c l)

pub noted : (ws : List Watch) (i c : ℕ) (d w' : Watch) (s : Shown) (past : List Shown) → i ≡ c → clerk_of s ≡ Some c → c < clerk_count → w' ≡ watch_next c (get_or ws i d) s → AreWatched ws past → AreWatched (set ws i w') (past ++ s ∷ [])
noted ws i c d w' s past e p l q h = subst (λ j. AreWatched (set ws j w') (past ++ s ∷ [])) (sym e) record { count = longer; each = each }
  where
    here : c < length ws
    here = omega (arith, l, h.count)

    longer : length (set ws c w') ≡ clerk_count
    longer = length-set ws c w' ∙ h.count

    now : w' ≡ watch c (past ++ s ∷ [])
    now = q ∙ ap (λ j. watch_next c (get_or ws j d) s) e ∙ ap (λ w. watch_next c w s) (watched-at ws past c d h l) ∙ sym (watch-step c past s)

    each : (b : ℕ) → b < clerk_count → slice_get (set ws c w') b ≡ Some (watch b (past ++ s ∷ []))
    each b m =
        let within : b < length (set ws c w') = omega (arith, m, longer) in
        slice_get-get_or (set ws c w') b d within ∙ ap Some (elim (cases_eq b c) [
          | inl f ↦ subst (λ k. get_or (set ws c w') k d ≡ watch k (past ++ s ∷ [])) (sym f) (get_or-set_same ws c w' d here ∙ now)
          | inr f ↦ get_or-set_other ws c b w' d f ∙ watched-at ws past b d h m ∙ sym (watch-step b past s ∙ unchanged b c (watch b past) s p (ne_eqb b c f))
        ])

pub unnoted : (ws : List Watch) (s : Shown) (past : List Shown) → clerk_of s ≡ None → AreWatched ws past → AreWatched ws (past ++ s ∷ [])
unnoted ws s past p h = record { count = h.count; each = λ c l. h.each c l ∙ ap Some (sym (watch-step c past s ∙ unmoved c (watch c past) s p)) }

-- Starts are at most as many as lines.

more-begun : (w : Watch) → (begun w).starts ≤ w.starts + 1
more-begun w = cond_both w.running w (record w { starts = w.starts + 1; running = true }) (λ v. v.starts ≤ w.starts + 1) (λ e. omega arith) (λ e. omega arith)

more-answered : (w : Watch) (sh : Bool) (op : Option ℕ) (n : ℕ) → w.starts ≤ n → (answered w sh op).starts ≤ n
more-answered w sh op n h = go w.untold
  where
    go : (u : Option (List ℕ)) → (answered_as w sh op u).starts ≤ n
    go (Some ns) = h
    go None = cond_both sh (showing w op) (cond (is_id w.starts w.open_start) (in_session w op) (before_session w op)) (λ v. v.starts ≤ n) (λ e. h)
        (λ e. cond_both (is_id w.starts w.open_start) (in_session w op) (before_session w op) (λ v. v.starts ≤ n) (λ f. h) (λ f. h))

pub more-next : (c : ℕ) (w : Watch) (s : Shown) → (watch_next c w s).starts ≤ w.starts + 1
more-next c w (Waits l d cl) = cond_both (c == d) (begun w) w (λ v. v.starts ≤ w.starts + 1) (λ e. more-begun w) (λ e. omega arith)
more-next c w (Answered l d cl a op) = cond_both (c == d) (answered (begun w) (shows cl a) op) w (λ v. v.starts ≤ w.starts + 1) (λ e. more-answered (begun w) (shows cl a) op (w.starts + 1) (more-begun w)) (λ e. omega arith)
more-next c w (Durable d ns) = cond_both (c == d) _ w (λ v. v.starts ≤ w.starts + 1) (λ e. omega arith) (λ e. omega arith)
more-next c w (Ended d ns) =
    cond_both (c == d) (ended w ns) w (λ v. v.starts ≤ w.starts + 1)
    (λ e. cond_both (is_running w (owner w)) (own_end w ns) (other_end w) (λ v. v.starts ≤ w.starts + 1) (λ r. omega arith) (λ r. omega arith))
    (λ e. omega arith)
more-next c w (Told d ns) = cond_both (c == d) _ w (λ v. v.starts ≤ w.starts + 1) (λ e. omega arith) (λ e. omega arith)
more-next c w (Crashed d) = cond_both (c == d) _ w (λ v. v.starts ≤ w.starts + 1) (λ e. omega arith) (λ e. omega arith)
more-next c w s = omega arith

pub few-starts : (c : ℕ) (ss : List Shown) → (watch c ss).starts ≤ length ss
few-starts c ss = omega (arith, go unwatched 0 ss (omega arith))
  where
    go : (w : Watch) (n : ℕ) (ts : List Shown) → w.starts ≤ n → (watch_from c w ts).starts ≤ n + length ts
    go w n [] h = omega (arith, h)
    go w n (s ∷ ts) h =
        let next : (watch_next c w s).starts ≤ n + 1 = omega (arith, h, more-next c w s) in
        omega (arith, go (watch_next c w s) (n + 1) ts next)

pub got : (w v : Watch) → Some w ≡ Some v → v ≡ w
got w v p = cc

pub few-at : (ws : List Watch) (past : List Shown) (c : ℕ) (w : Watch) → AreWatched ws past → c < clerk_count → slice_get ws c ≡ Some w → w.starts ≤ length past
few-at ws past c w h l g = subst (λ v. v.starts ≤ length past) (got w (watch c past) (sym g ∙ h.each c l)) (few-starts c past)

pub named-at : (ws : List Watch) (past : List Shown) (c : ℕ) (w : Watch) → AreWatched ws past → c < clerk_count → slice_get ws c ≡ Some w → w ≡ watch c past
named-at ws past c w h l g = sym (got w (watch c past) (sym g ∙ h.each c l))
