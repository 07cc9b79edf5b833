-- What the lines show of each clerk behind an answer of one that is in its open session.
use Rattle.std.proofs.Common.{◌≡◌, refl, sym, ap, subst, ◌∙◌, ◌+◌, ℕ, Bool, true, false, not, ◌==◌, ◌&&◌, cond, T, List, [], ◌∷◌, ◌++◌, Option, Some, None, append-nil}
use Rattle.std.specs.Prelude.{is_some}
use Rattle.std.specs.List.{filter}
use Rattle.std.proofs.lemmas.Bool.{true≢false}
use Rattle.std.proofs.lemmas.List.{map-append}
use Rattle.std.proofs.lemmas.List.Elements.{filter-append}
use Rattle.ec_base.specs.declared.ids.Age.{Age}
use Rattle.ec_volume.specs.Image.{is_id}
use Rattle.ec_volume.specs.Update.{listed}
use Rattle.ec_history.specs.History.{Each, Op, numbers}
use Rattle.ec_history.specs.History.{History}
use Rattle.ec_history.specs.Placing.{answered, begun, or_else, shows, watch}
use Rattle.ec_history.specs.declared.entry.Answer.{Answer}
use Rattle.ec_history.specs.declared.shown.Shown.{Shown}
use Rattle.ec_history.specs.declared.shown.Shown.TheVariants.{Answered}
use Rattle.ec_plain.specs.declared.call.Call.{Call}
use Rattle.ec_base.specs.Tables.{Table}
use Rattle.ec_history.proofs.OfLaws.ForPlacing.More.{watch-step}
use Rattle.ec_wire.specs.declared.msg.Msg.{Msg}
use Rattle.ec_protocol.specs.declared.clerk.Clerk.{Clerk}
use Rattle.ec_coherence.specs.ChangeLaws.{Calls}
use Rattle.ec_coherence.specs.Sessions.{SessionsAgree}
use Rattle.ec_history.specs.declared.watch.Watch.{Watch}
use Rattle.ec_sessions.specs.declared.slot.Slot.{Slot}
use Rattle.ec_durable.specs.Durable.{slot}
use Rattle.ec_coherence.specs.System.{System, Ghost, is_of, undurable}
use Rattle.ec_coherence.specs.Events.{shown_boot}
use Rattle.ec_coherence.proofs.ForServer.Tables.{by-session, each-map, same_some}
use Rattle.ec_coherence.specs.Watches.{WatchAgrees, WatchesAgree, still_in}
use Rattle.ec_base.proofs.Numbers.{same-self as same}
use Rattle.ec_base.proofs.Options.{none_some}
use Rattle.ec_base.proofs.Bools.{is-true}

-- One clerk's watch, on plain variables.
module _ (w : Watch) (runs : w.running ≡ true) (untold : w.untold ≡ None) (early : w.early ≡ []) (s : Bool) (op : Option ℕ) where
  abbrev pub shown_or : Bool → Bool → Watch
  shown_or s own = cond s (record w { open_start = or_else w.open_start w.starts; undurable = w.early ++ (w.undurable ++ listed op); early = [] })
      (cond own (record w { undurable = w.undurable ++ listed op }) (record w { early = w.early ++ listed op }))

  abbrev late_or : Option (List ℕ) → Watch
  late_or o = elim o as (λ z. Watch) [ Some ns ↦ record w { untold = Some (ns ++ listed op) } | None ↦ shown_or s (is_id w.starts w.open_start) ]

  pub begun-is : begun w ≡ w
  begun-is = ap (λ b. cond b w (record w { starts = w.starts + 1; running = true })) runs

  pub answered-is : answered (begun w) s op ≡ shown_or s (is_id w.starts w.open_start)
  answered-is = ap (λ z. answered z s op) begun-is ∙ ap late_or untold

-- The new operations are of the session's start, and aren't durable.
pub record IsPending (γ : Ghost) (c b : ℕ) (o : Op) : Type 0 where
  pub clerk : o.clerk ≡ c
  pub boot : o.boot ≡ b
  pub pending : γ.is_durable o ≡ false

module _ (γ : Ghost) (c b : ℕ) (os : List Op) (new : Each (IsPending γ c b) os) where
  abbrev more : Ghost
  more = record γ { kept = γ.kept ++ os }

  abbrev pends : ℕ → Op → Bool
  pends t o = is_of (γ.owner t) o && not (γ.is_durable o)

  all-of : (p : Op → Bool) (xs : List Op) → Each (λ o. p o ≡ true) xs → filter p xs ≡ xs
  all-of p [] h = refl
  all-of p (x ∷ xs) h = ap (λ z. cond z (x ∷ filter p xs) (filter p xs)) h.0 ∙ ap (λ z. x ∷ z) (all-of p xs h.1)

  none-of : (p : Op → Bool) (xs : List Op) → Each (λ o. p o ≡ false) xs → filter p xs ≡ []
  none-of p [] h = refl
  none-of p (x ∷ xs) h = ap (λ z. cond z (x ∷ filter p xs) (filter p xs)) h.0 ∙ none-of p xs h.1

  pub undurable-own : (s : ℕ) (age : Age) → γ.owner s ≡ Some (c, age) → age.boot ≡ b → undurable more s ≡ undurable γ s ++ os
  undurable-own s age w e = filter-append (pends s) γ.kept os ∙ ap (λ z. undurable γ s ++ z) (all-of (pends s) os (each-map (IsPending γ c b) (λ o. pends s o ≡ true) os one new))
    where
      one : (o : Op) → IsPending γ c b o → pends s o ≡ true
      one o f = ap (λ z. is_of z o && not (γ.is_durable o)) w ∙ ap (λ z. ((c == o.clerk) && (age.boot == o.boot)) && not z) f.pending
          ∙ ap (λ z. ((c == z) && (age.boot == o.boot)) && true) f.clerk ∙ ap (λ z. (z && (age.boot == o.boot)) && true) (same c) ∙ ap (λ z. (age.boot == z) && true) (f.boot ∙ sym e) ∙ ap (λ z. z && true) (same age.boot)

  pub undurable-other : (t d : ℕ) (a : Age) → γ.owner t ≡ Some (d, a) → (d == c) ≡ false → undurable more t ≡ undurable γ t
  undurable-other t d a w n = filter-append (pends t) γ.kept os ∙ ap (λ z. undurable γ t ++ z) (none-of (pends t) os (each-map (IsPending γ c b) (λ o. pends t o ≡ false) os one new)) ∙ append-nil (undurable γ t)
    where
      one : (o : Op) → IsPending γ c b o → pends t o ≡ false
      one o f = ap (λ z. is_of z o && not (γ.is_durable o)) w ∙ ap (λ z. ((d == z) && (a.boot == o.boot)) && not (γ.is_durable o)) f.clerk ∙ ap (λ z. (z && (a.boot == o.boot)) && not (γ.is_durable o)) n

module _ (g : System) (sa : SessionsAgree g) (ws : WatchesAgree g) (c s : ℕ) (age : Age) (owns : g.ghost.owner s ≡ Some (c, age)) (sl : Slot) (here : slot g.durable c ≡ Some sl) (of : sl.session ≡ s) (opened : T sl.is_open) (aged : sl.age ≡ age)
    (running : g.running c ≡ Some age.boot) (starts : (begun (watch c g.ghost.shown)).starts ≡ shown_boot g c age.boot) (untold : (watch c g.ghost.shown).untold ≡ None)
    (os : List Op) (new : Each (IsPending g.ghost c age.boot) os) (l : ℕ) (cl : Call) (a : Answer) (op : Option ℕ) (named : numbers os ≡ listed op) (quiet : shows cl a ≡ false → op ≡ None)
    (f : ℕ → ℕ → Option Clerk) (calls : Calls) (p : List (ℕ × Msg)) (hi : History) (fr : Table ℕ) where
  abbrev w : Watch
  w = watch c g.ghost.shown

  abbrev line : Shown
  line = Answered l c cl a op

  abbrev pub now : Ghost
  now = record (g.ghost) { kept = g.ghost.kept ++ os; shown = g.ghost.shown ++ line ∷ []; history = hi; fresh = fr }

  abbrev pub h : System
  h = record g { clerks = f; calls = calls; pool = p; ghost = now }

  runs-now : w.running ≡ true
  runs-now = (ws c).running ∙ ap is_some running

  its-start : w.starts ≡ shown_boot g c age.boot
  its-start = sym (ap (λ z. z.starts) (begun-is w runs-now untold (ws c).early (shows cl a) op)) ∙ starts

  still-is : (δ : Ghost) → still_in δ (slot g.durable c) ≡ numbers (undurable δ s)
  still-is δ = ap (still_in δ) here ∙ ap (λ z. elim z as (λ y. List ℕ) [ true ↦ numbers (undurable δ sl.session) | false ↦ [] ]) (is-true sl.is_open opened) ∙ ap (λ t. numbers (undurable δ t)) of

  -- what may still be lost
  grows : w.undurable ++ listed op ≡ still_in now (slot g.durable c)
  grows = ap (λ z. z ++ listed op) ((ws c).still ∙ still-is g.ghost) ∙ ap (λ z. numbers (undurable g.ghost s) ++ z) (sym named) ∙ sym (map-append (λ o. o.number) (undurable g.ghost s) os)
      ∙ ap numbers (sym (undurable-own g.ghost c age.boot os new s age owns refl)) ∙ sym (still-is now)

  its-session : (b : ℕ) → b ≡ shown_boot g c age.boot → (sm : Slot) × (slot g.durable c ≡ Some sm) × T sm.is_open × (b ≡ shown_boot g c (sm.age).boot)
  its-session b e = (sl, here, opened, e ∙ ap (λ z. shown_boot g c z.boot) (sym aged))

  own-watch : (t u : Bool) → shows cl a ≡ t → is_id w.starts w.open_start ≡ u → WatchAgrees h c (shown_or w runs-now untold (ws c).early (shows cl a) op t u)
  own-watch true u e i = record {
    running = (ws c).running;
    early = refl;
    still = ap (λ z. z ++ (w.undurable ++ listed op)) (ws c).early ∙ grows;
    unseen = λ n. absurd (never w.open_start n);
    open_start = λ b q. opens w.open_start refl b q;
    crashed = (ws c).crashed;
  }
    where
      never : (o : Option ℕ) → or_else o w.starts ≡ None → ⊥
      never None n = none_some (sym n)
      never (Some b) n = none_some (sym n)

      opens : (o : Option ℕ) → w.open_start ≡ o → (b : ℕ) → or_else o w.starts ≡ Some b → (sm : Slot) × (slot g.durable c ≡ Some sm) × T sm.is_open × (b ≡ shown_boot g c (sm.age).boot)
      opens None q b r = its-session b (sym (same_some r) ∙ its-start)
      opens (Some x) q b r = (ws c).open_start b (q ∙ r)
  own-watch false true e i = record {
    running = (ws c).running;
    early = (ws c).early;
    still = grows;
    unseen = λ n. absurd (true≢false (sym i ∙ ap (is_id w.starts) n));
    open_start = (ws c).open_start;
    crashed = (ws c).crashed;
  }
  own-watch false false e i = record {
    running = (ws c).running;
    early = ap (λ z. w.early ++ listed z) (quiet e) ∙ append-nil w.early ∙ (ws c).early;
    still = sym (append-nil w.undurable) ∙ ap (λ z. w.undurable ++ listed z) (sym (quiet e)) ∙ grows;
    unseen = (ws c).unseen;
    open_start = (ws c).open_start;
    crashed = (ws c).crashed;
  }

  other-watch : (d : ℕ) → (d == c) ≡ false → WatchAgrees h d (watch d g.ghost.shown)
  other-watch d n = record {
    running = (ws d).running;
    early = (ws d).early;
    still = (ws d).still ∙ still-other (slot g.durable d) refl;
    unseen = (ws d).unseen;
    open_start = (ws d).open_start;
    crashed = (ws d).crashed;
  }
    where
      still-other : (o : Option Slot) → slot g.durable d ≡ o → still_in g.ghost o ≡ still_in now o
      still-other None q = refl
      still-other (Some sm) q = ap (λ z. elim (sm.is_open) as (λ y. List ℕ) [ true ↦ numbers z | false ↦ [] ]) (sym (undurable-other g.ghost c age.boot os new sm.session d sm.age (sa.slots d sm q).2 n))

  watched : (d : ℕ) → watch d (g.ghost.shown ++ line ∷ []) ≡ cond (d == c) (answered (begun (watch d g.ghost.shown)) (shows cl a) op) (watch d g.ghost.shown)
  watched d = watch-step d g.ghost.shown line

  pub watches-stay : WatchesAgree h
  watches-stay d = by-session c d (λ z. WatchAgrees h z (watch z (g.ghost.shown ++ line ∷ [])))
      (subst (WatchAgrees h c) (sym (watched c ∙ ap (λ z. cond z (answered (begun w) (shows cl a) op) w) (same c) ∙ answered-is w runs-now untold (ws c).early (shows cl a) op)) (own-watch (shows cl a) (is_id w.starts w.open_start) refl refl))
      (λ n. subst (WatchAgrees h d) (sym (watched d ∙ ap (λ z. cond z (answered (begun (watch d g.ghost.shown)) (shows cl a) op) (watch d g.ghost.shown)) n)) (other-watch d n))
