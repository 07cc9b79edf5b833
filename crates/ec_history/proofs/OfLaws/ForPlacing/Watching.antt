-- What the lines so far show of a clerk.
use Rattle.std.proofs.Common.{◌≡◌, refl, sym, ap, subst, ◌∙◌, arith, ◌≤◌, ◌+◌, ℕ, Bool, true, false, not, ◌==◌, ◌&&◌, cond, List, [], ◌∷◌, ◌++◌, Option, Some, None, is_some, is_none, append_assoc, append-nil}
use Rattle.std.proofs.lemmas.Bool.{cond_both, cond-true, and_parts, or_parts, eqb-true, true≢false}
use Rattle.std.specs.List.{filter, list_any}
use Rattle.ec_volume.specs.Image.{is_id}
use Rattle.ec_volume.specs.Update.{member, listed}
use Rattle.ec_history.specs.Placing.{watch, watch_from, watch_next, unwatched, begun, answered, ended, or_else, owner, is_running, is_end_of, shows}
use Rattle.ec_history.specs.declared.watch.Watch.{Watch}
use Rattle.ec_history.specs.declared.shown.Shown.{Shown}
use Rattle.ec_history.specs.declared.shown.Shown.TheVariants.{Waits, Answered, Durable, Ended, Told, Crashed}
use Rattle.ec_history.proofs.OfLaws.ForPlacing.More.{watch-step}
use Rattle.ec_history.proofs.PlacingLemmas.{showing}

-- an induction from the front
pub from_front : (P : List Shown → Type 0) → P [] → ((ss : List Shown) (s : Shown) → P ss → P (ss ++ s ∷ [])) → (ss : List Shown) → P ss
from_front P z next ss = go [] ss z
  where
    go : (past rest : List Shown) → P past → P (past ++ rest)
    go past [] p = subst P (sym (append-nil past)) p
    go past (s ∷ rest) p = subst P (append_assoc past (s ∷ []) rest) (go (past ++ s ∷ []) rest (next past s p))

-- While a loss isn't told no session is open and the start runs; starts count from 1.
pub record IsSound (w : Watch) : Type 0 where
  pub ended_runs : is_some w.untold ≡ true → (w.open_start ≡ None) × (w.running ≡ true)
  pub counted : w.running ≡ true → 1 ≤ w.starts
  pub opened : (b : ℕ) → w.open_start ≡ Some b → (1 ≤ b) × (b ≤ w.starts)

sound-begun : (w : Watch) → IsSound w → IsSound (begun w)
sound-begun w h =
    cond_both w.running w (record w { starts = w.starts + 1; running = true }) IsSound (λ e. h)
    λ e. record {
      ended_runs = λ u. ((h.ended_runs u).0, refl);
      counted = λ r. omega arith;
      opened = λ b o. ((h.opened b o).0, omega (arith, (h.opened b o).1));
    }

pub runs-begun : (w : Watch) → (begun w).running ≡ true
runs-begun w = cond_both w.running w (record w { starts = w.starts + 1; running = true }) (λ v. v.running ≡ true) (λ e. e) (λ e. refl)

abbrev pub in_session : Watch → Option ℕ → Watch
in_session w op = record w { undurable = w.undurable ++ listed op }

abbrev pub before_session : Watch → Option ℕ → Watch
before_session w op = record w { early = w.early ++ listed op }

abbrev pub answered_as : Watch → Bool → Option ℕ → Option (List ℕ) → Watch
answered_as w sh op u = elim u [
  | Some ns ↦ record w { untold = Some (ns ++ listed op) }
  | None ↦ cond sh (showing w op) (cond (is_id w.starts w.open_start) (in_session w op) (before_session w op))
]

-- The watch behind the end of a session: of the running start's, or of an earlier one's.
abbrev pub own_end : Watch → List ℕ → Watch
own_end w ns = record w { open_start = None; undurable = []; early = []; untold = Some ns }

abbrev pub other_end : Watch → Watch
other_end w = record w { open_start = None; undurable = [] }

sound-answered : (w : Watch) (sh : Bool) (op : Option ℕ) → w.running ≡ true → IsSound w → IsSound (answered w sh op)
sound-answered w sh op r h = go w.untold refl
  where
    go : (u : Option (List ℕ)) → w.untold ≡ u → IsSound (answered_as w sh op u)
    go (Some ns) e = record { ended_runs = λ u. h.ended_runs (ap is_some e); counted = h.counted; opened = h.opened }
    go None e =
        cond_both sh (showing w op) (cond (is_id w.starts w.open_start) (in_session w op) (before_session w op)) IsSound (λ f. record {
          ended_runs = λ u. absurd (true≢false (sym u ∙ ap is_some e));
          counted = h.counted;
          opened = λ b. here w.open_start h.opened b;
        })
        (λ f. cond_both (is_id w.starts w.open_start) (in_session w op) (before_session w op) IsSound
        (λ i. record { ended_runs = h.ended_runs; counted = h.counted; opened = h.opened }) (λ i. record { ended_runs = h.ended_runs; counted = h.counted; opened = h.opened }))
      where
        here : (o : Option ℕ) → ((b : ℕ) → o ≡ Some b → (1 ≤ b) × (b ≤ w.starts)) → (b : ℕ) → or_else o w.starts ≡ Some b → (1 ≤ b) × (b ≤ w.starts)
        here (Some a) k b q = k b q
        here None k b q = (omega (arith, h.counted r, some_is w.starts b q), omega (arith, some_is w.starts b q))
          where
            some_is : (m n : ℕ) → Some m ≡ Some n → m ≡ n
            some_is m n q = cc

pub sound-next : (c : ℕ) (w : Watch) (s : Shown) → IsSound w → IsSound (watch_next c w s)
sound-next c w (Waits l d cl) h = cond_both (c == d) (begun w) w IsSound (λ e. sound-begun w h) (λ e. h)
sound-next c w (Answered l d cl a op) h =
    cond_both (c == d) (answered (begun w) (shows cl a) op) w IsSound (λ e. sound-answered (begun w) (shows cl a) op (runs-begun w) (sound-begun w h)) (λ e. h)
sound-next c w (Durable d ns) h = cond_both (c == d) _ w IsSound (λ e. record { ended_runs = h.ended_runs; counted = h.counted; opened = h.opened }) (λ e. h)
sound-next c w (Ended d ns) h =
    cond_both (c == d) (ended w ns) w IsSound
    (λ e. cond_both (is_running w (owner w)) (own_end w ns) (other_end w) IsSound
    (λ r. record { ended_runs = λ u. (refl, (and_parts w.running (is_id w.starts (owner w)) r).0); counted = h.counted; opened = λ b o. absurd (none_some b o) })
    (λ r. record { ended_runs = λ u. (refl, (h.ended_runs u).1); counted = h.counted; opened = λ b o. absurd (none_some b o) }))
    (λ e. h)
  where
    none_some : (b : ℕ) → None ≡ Some b → ⊥
    none_some b q = cc
sound-next c w (Told d ns) h = cond_both (c == d) _ w IsSound (λ e. record { ended_runs = λ u. absurd (true≢false (sym u)); counted = h.counted; opened = h.opened }) (λ e. h)
sound-next c w (Crashed d) h = cond_both (c == d) _ w IsSound (λ e. record { ended_runs = λ u. absurd (true≢false (sym u)); counted = λ r. absurd (true≢false (sym r)); opened = h.opened }) (λ e. h)
sound-next c w s h = h

sound-none : IsSound unwatched
sound-none = record { ended_runs = λ u. absurd (true≢false (sym u)); counted = λ r. absurd (true≢false (sym r)); opened = λ b o. absurd (none_some b o) }
  where
    none_some : (b : ℕ) → None ≡ Some b → ⊥
    none_some b q = cc

pub sound : (c : ℕ) (ss : List Shown) → IsSound (watch c ss)
sound c = from_front (λ ss. IsSound (watch c ss)) sound-none (λ ss s h. subst IsSound (sym (watch-step c ss s)) (sound-next c (watch c ss) s h))

-- The start b was ended and isn't told yet.
pub record IsHeld (b : ℕ) (w : Watch) : Type 0 where
  pub untold : is_some w.untold ≡ true
  pub open_start : w.open_start ≡ None
  pub running : w.running ≡ true
  pub starts : w.starts ≡ b

held-begun : (b : ℕ) (w : Watch) → IsHeld b w → IsHeld b (begun w)
held-begun b w h = subst (IsHeld b) (sym (cond-true w.running w _ h.running)) h

held-answered : (b : ℕ) (w : Watch) (sh : Bool) (op : Option ℕ) → IsHeld b w → IsHeld b (answered w sh op)
held-answered b w sh op h = go w.untold h.untold
  where
    go : (u : Option (List ℕ)) → is_some u ≡ true → IsHeld b (answered_as w sh op u)
    go (Some ns) e = record { untold = refl; open_start = h.open_start; running = h.running; starts = h.starts }
    go None e = absurd (true≢false (sym e))

pub held-next : (c b : ℕ) (w : Watch) (s : Shown) → is_end_of c s ≡ false → IsHeld b w → IsHeld b (watch_next c w s)
held-next c b w (Waits l d cl) e h = cond_both (c == d) (begun w) w (IsHeld b) (λ f. held-begun b w h) (λ f. h)
held-next c b w (Answered l d cl a op) e h =
    cond_both (c == d) (answered (begun w) (shows cl a) op) w (IsHeld b) (λ f. held-answered b (begun w) (shows cl a) op (held-begun b w h)) (λ f. h)
held-next c b w (Durable d ns) e h = cond_both (c == d) _ w (IsHeld b) (λ f. record { untold = h.untold; open_start = h.open_start; running = h.running; starts = h.starts }) (λ f. h)
held-next c b w (Ended d ns) e h =
    cond_both (c == d) (ended w ns) w (IsHeld b)
    (λ f. cond_both (is_running w (owner w)) (own_end w ns) (other_end w) (IsHeld b)
    (λ r. record { untold = refl; open_start = refl; running = h.running; starts = h.starts })
    (λ r. record { untold = h.untold; open_start = refl; running = h.running; starts = h.starts }))
    (λ f. h)
held-next c b w (Told d ns) e h = cond_both (c == d) _ w (IsHeld b) (λ f. absurd (true≢false (sym f ∙ e))) (λ f. h)
held-next c b w (Crashed d) e h = cond_both (c == d) _ w (IsHeld b) (λ f. absurd (true≢false (sym f ∙ e))) (λ f. h)
held-next c b w s e h = h

pub held-from : (c b : ℕ) (w : Watch) (ss : List Shown) → list_any (is_end_of c) ss ≡ false → IsHeld b w → IsHeld b (watch_from c w ss)
held-from c b w [] e h = h
held-from c b w (s ∷ ss) e h =
    let p = or_parts (is_end_of c s) (list_any (is_end_of c) ss) e in
    held-from c b (watch_next c w s) ss p.1 (held-next c b w s p.0 h)

-- the ended line of a running start holds it
pub held-ended : (c : ℕ) (w : Watch) (ns : List ℕ) → is_running w (owner w) ≡ true → IsHeld w.starts (watch_next c w (Ended c ns))
held-ended c w ns r =
    let same : (c == c) ≡ true = grind arith in
    subst (IsHeld w.starts) (sym (cond-true (c == c) (ended w ns) w same ∙ cond-true (is_running w (owner w)) (own_end w ns) (other_end w) r)) record {
      untold = refl;
      open_start = refl;
      running = (and_parts w.running (is_id w.starts (owner w)) r).0;
      starts = refl;
    }

-- a held start owns no further ended line
pub held-owner : (b : ℕ) (w : Watch) → IsHeld b w → owner w ≡ None
held-owner b w h =
    ap (λ o. elim o [ Some a ↦ Some a | None ↦ cond (w.running && is_none w.untold) (Some w.starts) None ]) h.open_start
    ∙ go w.untold h.untold
  where
    go : (u : Option (List ℕ)) → is_some u ≡ true → cond (w.running && is_none u) (Some w.starts) None ≡ None
    go (Some ns) e = elim w.running as (λ r. cond (r && false) (Some w.starts) None ≡ None) [ true ↦ refl | false ↦ refl ]
    go None e = absurd (true≢false (sym e))

pub running-owner : (w : Watch) → is_running w (owner w) ≡ true → owner w ≡ Some w.starts
running-owner w r = go (owner w) (and_parts w.running (is_id w.starts (owner w)) r).1
  where
    go : (o : Option ℕ) → is_id w.starts o ≡ true → o ≡ Some w.starts
    go (Some a) e = ap Some (sym (eqb-true w.starts a e))
    go None e = absurd (true≢false (sym e))

-- where an ended line belongs to the running start, nothing was untold
pub running-told : (w : Watch) → IsSound w → is_running w (owner w) ≡ true → w.untold ≡ None
running-told w h r = go w.untold refl
  where
    go : (u : Option (List ℕ)) → w.untold ≡ u → u ≡ None
    go None e = refl
    go (Some ns) e =
        let k = h.ended_runs (ap is_some e) in
        absurd (some_none (sym (running-owner w r) ∙ held-owner w.starts w record { untold = ap is_some e; open_start = k.0; running = k.1; starts = refl }))
      where
        some_none : Some w.starts ≡ None → ⊥
        some_none q = cc

pub untold-runs : (c : ℕ) (ss : List Shown) (ns : List ℕ) → (watch c ss).untold ≡ Some ns → ((watch c ss).open_start ≡ None) × ((watch c ss).running ≡ true) × (begun (watch c ss) ≡ watch c ss)
untold-runs c ss ns u =
    let k = (sound c ss).ended_runs (ap is_some u) in
    (k.0, k.1, cond-true (watch c ss).running (watch c ss) _ k.1)

pub running-counted : (c : ℕ) (ss : List Shown) → (watch c ss).running ≡ true → 1 ≤ (watch c ss).starts
running-counted c ss = (sound c ss).counted

-- Where no session is open, nothing is undurable.
abbrev IsClosed : Watch → Type 0
IsClosed w = w.open_start ≡ None → w.undurable ≡ []

closed-begun : (w : Watch) → IsClosed w → IsClosed (begun w)
closed-begun w h = cond_both w.running w (record w { starts = w.starts + 1; running = true }) IsClosed (λ e. h) (λ e. h)

closed-answered : (w : Watch) (sh : Bool) (op : Option ℕ) → IsClosed w → IsClosed (answered w sh op)
closed-answered w sh op h = go w.untold refl
  where
    opens : (o : Option ℕ) (n : ℕ) → or_else o n ≡ None → ⊥
    opens (Some b) n e = absurd (true≢false (ap is_some e))
    opens None n e = absurd (true≢false (ap is_some e))

    not_open : (n : ℕ) (o : Option ℕ) → is_id n o ≡ true → o ≡ None → ⊥
    not_open n o e f = true≢false (sym e ∙ ap (is_id n) f)

    go : (u : Option (List ℕ)) → w.untold ≡ u → IsClosed (answered_as w sh op u)
    go (Some ns) e = h
    go None e =
        cond_both sh (showing w op) (cond (is_id w.starts w.open_start) (in_session w op) (before_session w op)) IsClosed (λ f o. absurd (opens w.open_start w.starts o))
        (λ f. cond_both (is_id w.starts w.open_start) (in_session w op) (before_session w op) IsClosed (λ i o. absurd (not_open w.starts w.open_start i o)) (λ i. h))

closed-next : (c : ℕ) (w : Watch) (s : Shown) → IsClosed w → IsClosed (watch_next c w s)
closed-next c w (Waits l d cl) h = cond_both (c == d) (begun w) w IsClosed (λ e. closed-begun w h) (λ e. h)
closed-next c w (Answered l d cl a op) h = cond_both (c == d) (answered (begun w) (shows cl a) op) w IsClosed (λ e. closed-answered (begun w) (shows cl a) op (closed-begun w h)) (λ e. h)
closed-next c w (Durable d ns) h = cond_both (c == d) _ w IsClosed (λ e o. ap (filter (λ n. not (member n ns))) (h o)) (λ e. h)
closed-next c w (Ended d ns) h =
    cond_both (c == d) (ended w ns) w IsClosed (λ e. cond_both (is_running w (owner w)) (own_end w ns) (other_end w) IsClosed (λ r o. refl) (λ r o. refl)) (λ e. h)
closed-next c w (Told d ns) h = cond_both (c == d) _ w IsClosed (λ e. h) (λ e. h)
closed-next c w (Crashed d) h = cond_both (c == d) _ w IsClosed (λ e. h) (λ e. h)
closed-next c w s h = h

pub closed-undurable : (c : ℕ) (ss : List Shown) → (watch c ss).open_start ≡ None → (watch c ss).undurable ≡ []
closed-undurable c = from_front (λ ss. IsClosed (watch c ss)) (λ o. refl) (λ ss s h. subst IsClosed (sym (watch-step c ss s)) (closed-next c (watch c ss) s h))

pub open-counted : (c b : ℕ) (ss : List Shown) → (watch c ss).open_start ≡ Some b → (1 ≤ b) × (b ≤ (watch c ss).starts)
open-counted c b ss = (sound c ss).opened b
