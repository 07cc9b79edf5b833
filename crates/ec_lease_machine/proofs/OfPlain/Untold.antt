-- A clerk of which no session ended has nothing untold.
use Rattle.std.proofs.Common.{◌≡◌, refl, sym, subst, arith, ◌≤◌, ◌+◌, ℕ, suc, Bool, true, false, not, ◌==◌, cond, List, [], ◌∷◌, length, Option, Some, None}
use Rattle.std.specs.List.{filter}
use Rattle.std.proofs.lemmas.Bool.{cond_both}
use Rattle.ec_volume.specs.Image.{is_id}
use Rattle.ec_volume.specs.Update.{member}
use Rattle.ec_history.specs.Placing.{answered, begun, ended, shows, unwatched, watch, watch_from, watch_next}
use Rattle.ec_history.specs.declared.shown.Shown.{Shown}
use Rattle.ec_history.specs.declared.shown.Shown.TheVariants.{Waits, Answered, Durable, Ended, Told, Crashed}
use Rattle.ec_history.specs.declared.watch.Watch.{Watch}
use Rattle.ec_history.proofs.OfLaws.ForPlacing.Watching.{answered_as, before_session, in_session}
use Rattle.ec_history.proofs.PlacingLemmas.{showing}
use Rattle.ec_lawful.specs.Asked.{ended_by}
use Rattle.ec_lawful.specs.Headline.{ends}
use Rattle.ec_base.proofs.Options.{none_some}

abbrev IsTold : Watch → Type 0
IsTold w = w.untold ≡ None

told-begun : (w : Watch) → IsTold w → IsTold (begun w)
told-begun w t = cond_both w.running w (record w { starts = w.starts + 1; running = true }) IsTold (λ e. t) (λ e. t)

told-answered : (w : Watch) (sh : Bool) (op : Option ℕ) → IsTold w → IsTold (answered w sh op)
told-answered w sh op t = go w.untold t
  where
    go : (u : Option (List ℕ)) → u ≡ None → IsTold (answered_as w sh op u)
    go (Some ns) e = absurd (none_some (sym e))
    go None e = cond_both sh (showing w op) (cond (is_id w.starts w.open_start) (in_session w op) (before_session w op)) IsTold (λ f. t)
        (λ f. cond_both (is_id w.starts w.open_start) (in_session w op) (before_session w op) IsTold (λ i. t) (λ i. t))

told-next : (c : ℕ) (w : Watch) (s : Shown) → ends c s ≡ false → IsTold w → IsTold (watch_next c w s)
told-next c w (Waits l d cl) e t = cond_both (c == d) (begun w) w IsTold (λ f. told-begun w t) (λ f. t)
told-next c w (Answered l d cl a op) e t = cond_both (c == d) (answered (begun w) (shows cl a) op) w IsTold (λ f. told-answered (begun w) (shows cl a) op (told-begun w t)) (λ f. t)
told-next c w (Durable d ns) e t = cond_both (c == d) (record w { undurable = filter (λ n. not (member n ns)) w.undurable }) w IsTold (λ f. t) (λ f. t)
told-next c w (Ended d ns) e t = subst (λ z. IsTold (cond z (ended w ns) w)) (sym e) t
told-next c w (Told d ns) e t = cond_both (c == d) (record w { untold = None }) w IsTold (λ f. refl) (λ f. t)
told-next c w (Crashed d) e t = cond_both (c == d) (record w { running = false; early = []; untold = None; crashed = true }) w IsTold (λ f. refl) (λ f. t)
told-next c w s e t = t

told-from : (c : ℕ) (ss : List Shown) (w : Watch) → ended_by c ss ≤ 0 → IsTold w → IsTold (watch_from c w ss)
told-from c [] w e t = t
told-from c (s ∷ ss) w e t = by (ends c s) refl e (λ f v. told-from c ss v f)
  where
    by : (z : Bool) → ends c s ≡ z → length (cond z (s ∷ filter (ends c) ss) (filter (ends c) ss)) ≤ 0 → (ended_by c ss ≤ 0 → (v : Watch) → IsTold v → IsTold (watch_from c v ss)) → IsTold (watch_from c (watch_next c w s) ss)
    by true q e more = absurd (none (length (filter (ends c) ss)) e)
      where
        none : (n : ℕ) → suc n ≤ 0 → ⊥
        none n p = omega (arith, p)
    by false q e more = more e (watch_next c w s) (told-next c w s q t)

pub unended-told : (c : ℕ) (ss : List Shown) → ended_by c ss ≤ 0 → (watch c ss).untold ≡ None
unended-told c ss e = told-from c ss unwatched e refl
