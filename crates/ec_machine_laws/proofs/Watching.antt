-- What plain lines show of a clerk: one start, and no loss that it's to be told.
use Rattle.std.proofs.Common.{◌≡◌, refl, sym, ap, ◌∙◌, subst, ◌+◌, ℕ, Bool, true, false, cond, [], ◌++◌}
use Rattle.std.specs.Prelude.{Option, None, Some, ◌==◌, filter, not}
use Rattle.ec_volume.specs.Image.{is_id}
use Rattle.ec_volume.specs.Update.{listed, member}
use Rattle.ec_history.specs.Placing.{answered, begun, or_else, shows, watch_next}
use Rattle.ec_history.specs.declared.entry.Answer.TheVariants as answer
use Rattle.ec_history.specs.declared.shown.Shown.{Shown}
use Rattle.ec_history.specs.declared.shown.Shown.TheVariants as show
use Rattle.ec_history.specs.declared.watch.Watch.{Watch}
use Rattle.ec_machine_laws.specs.PlainLines.{IsPlain}

-- one start has begun, or is to begin, and nothing is to be told
pub record IsOne (w : Watch) : Type 0 where
  pub untold : w.untold ≡ None
  pub starts : (begun w).starts ≡ 1

-- by what is read of it
abbrev starts-by : Bool → ℕ → ℕ
starts-by running n = cond running n (n + 1)

read : (w : Watch) → (begun w).starts ≡ starts-by w.running w.starts
read w = go w.running
  where
    go : (b : Bool) → (cond b w (record w { starts = w.starts + 1; running = true })).starts ≡ cond b w.starts (w.starts + 1)
    go true = refl
    go false = refl

alike : (w x : Watch) → IsOne w → x.untold ≡ w.untold → x.running ≡ w.running → x.starts ≡ w.starts → IsOne x
alike w x i u r s = record { untold = u ∙ i.untold; starts = read x ∙ (λ z. starts-by (r z) (s z)) ∙ sym (read w) ∙ i.starts }

begins : (w : Watch) → IsOne w → IsOne (begun w) × ((begun w).running ≡ true) × ((begun w).starts ≡ 1)
begins w i = (record { untold = same ∙ i.untold; starts = read (begun w) ∙ ap (λ b. starts-by b (begun w).starts) runs ∙ i.starts }, runs, i.starts)
  where
    runs : (begun w).running ≡ true
    runs = go w.running refl
      where
        go : (b : Bool) → w.running ≡ b → (cond b w (record w { starts = w.starts + 1; running = true })).running ≡ true
        go true e = e
        go false e = refl

    same : (begun w).untold ≡ w.untold
    same = go w.running
      where
        go : (b : Bool) → (cond b w (record w { starts = w.starts + 1; running = true })).untold ≡ w.untold
        go true = refl
        go false = refl

-- an answer changes what is undurable, and whether the start is open
answers : (w : Watch) (b : Bool) (op : Option ℕ) → IsOne w → IsOne (answered w b op)
answers w b op i = subst IsOne (sym (ap (λ o. elim o as (λ z. Watch) [ Some ns ↦ record w { untold = Some (ns ++ listed op) } | None ↦ none b ]) i.untold)) (go b (is_id w.starts w.open_start))
  where
    none : Bool → Watch
    none b = cond b (record w { open_start = or_else w.open_start w.starts; undurable = w.early ++ (w.undurable ++ listed op); early = [] })
        (cond (is_id w.starts w.open_start) (record w { undurable = w.undurable ++ listed op }) (record w { early = w.early ++ listed op }))

    go : (x y : Bool) → IsOne (cond x (record w { open_start = or_else w.open_start w.starts; undurable = w.early ++ (w.undurable ++ listed op); early = [] })
        (cond y (record w { undurable = w.undurable ++ listed op }) (record w { early = w.early ++ listed op })))
    go true y = alike w _ i refl refl refl
    go false true = alike w _ i refl refl refl
    go false false = alike w _ i refl refl refl

pub stays-one : (c : ℕ) (w : Watch) (s : Shown) → IsPlain s → IsOne w → IsOne (watch_next c w s)
stays-one c w (show.Waits l d cl) p i = go (c == d)
  where
    go : (b : Bool) → IsOne (cond b (begun w) w)
    go true = (begins w i).0
    go false = i
stays-one c w (show.Answered l d cl (answer.Reply r) op) p i = go (c == d)
  where
    go : (b : Bool) → IsOne (cond b (answered (begun w) (shows cl (answer.Reply r)) op) w)
    go true = answers (begun w) (shows cl (answer.Reply r)) op (begins w i).0
    go false = i
stays-one c w (show.Answered l d cl (answer.Lost ns) op) p i = absurd p
stays-one c w (show.Answered l d cl (answer.NoRoom a b) op) p i = absurd p
stays-one c w (show.Durable d ns) p i = go (c == d)
  where
    go : (b : Bool) → IsOne (cond b (record w { undurable = filter (λ n. not (member n ns)) w.undurable }) w)
    go true = alike w _ i refl refl refl
    go false = i
stays-one c w show.Nothing p i = i
stays-one c w (show.Ended d ns) p i = absurd p
stays-one c w (show.Unseen d) p i = absurd p
stays-one c w (show.Told d ns) p i = absurd p
stays-one c w (show.Crashed d) p i = absurd p
stays-one c w show.Stopped p i = absurd p
stays-one c w show.Started p i = absurd p
stays-one c w show.Unsettled p i = absurd p
stays-one c w (show.Bad n m) p i = absurd p
stays-one c w (show.DiskBad n) p i = absurd p
stays-one c w (show.Limit name n) p i = absurd p
stays-one c w (show.Spent n) p i = absurd p
