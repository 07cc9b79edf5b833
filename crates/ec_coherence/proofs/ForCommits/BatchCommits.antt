-- The whole invariant behind a batch that the server commits.
use Rattle.std.proofs.Common.{◌≡◌, ◌≢◌, refl, sym, ap, subst, ◌∙◌, inl, inr, ℕ, Bool, true, false, not, ◌==◌, ◌&&◌, ◌||◌, cond, T, List, [], ◌∷◌, ◌++◌, Option, Some, None, append-nil}
use Rattle.std.specs.Prelude.{Ok}
use Rattle.std.specs.List.{filter, list_all}
use Rattle.std.proofs.lemmas.Bool.{cases_eq, ne_eqb}
use Rattle.ec_base.specs.Tables.{at, keys}
use Rattle.ec_volume.specs.Update.{member}
use Rattle.ec_volume.specs.declared.update.Update.{Update}
use Rattle.ec_history.specs.History.{Each, Op, numbers, of_start}
use Rattle.ec_history.specs.Placing.{watch}
use Rattle.ec_history.specs.declared.watch.Watch.{Watch}
use Rattle.ec_history.specs.declared.shown.Shown.TheVariants as show
use Rattle.ec_sessions.specs.Windows.{has}
use Rattle.ec_sessions.specs.declared.slot.Slot.{Slot}
use Rattle.ec_wire.specs.declared.msg.Msg.TheVariants.{Kept}
use Rattle.ec_durable.specs.Durable.{slot, step}
use Rattle.ec_durable.specs.declared.state.Durable.{Durable}
use Rattle.ec_durable.specs.declared.record.Record.TheVariants as record_of
use Rattle.ec_log.specs.Log.{batch}
use Rattle.ec_sessions.specs.OfTokens.Tokens as tokens
use Rattle.ec_protocol.specs.Server.{Serving, flush, tell}
use Rattle.ec_protocol.specs.declared.clerk.Clerk.{Clerk}
use Rattle.ec_coherence.specs.System.{System, Ghost, clerk_in, eff_from, is_of, is_open, undurable}
use Rattle.ec_coherence.specs.Tokens.{eff, view}
use Rattle.ec_coherence.specs.Events.{EventsAgree, shown_boot}
use Rattle.ec_coherence.specs.Steps.{keep_batch, serving_in, Under}
use Rattle.ec_coherence.specs.BatchLaws.{BatchFacts}
use Rattle.ec_coherence.proofs.ForBatches.Batched.{sent-numbers}
use Rattle.ec_coherence.proofs.ForBatches.FlushAgrees as flushing
use Rattle.ec_coherence.proofs.ForBatches.FlushAgrees.{flush-agrees}
use Rattle.ec_coherence.proofs.ForBatches.Flushed.{flushes}
use Rattle.ec_coherence.proofs.ForServer.Lists.{filter-alike}
use Rattle.ec_coherence.proofs.ForBatches.OpenSlots.{at-open, open-at}
use Rattle.ec_coherence.proofs.ForServer.Tables.{same_some}
use Rattle.ec_coherence.specs.Starts.{StartsAgree}
use Rattle.ec_coherence.specs.Watches.{WatchesAgree, still_in}
use Rattle.ec_coherence.proofs.ForCommits.Durables as durables
use Rattle.ec_coherence.proofs.ForCommits.Durables.{durable-events, member-less, numbers-left}
use Rattle.ec_coherence.proofs.ForCommits.Given.{before-lines, before-record, ended-unclaimed}
use Rattle.ec_coherence.proofs.ForCommits.Shown.{lines-agree}
use Rattle.ec_coherence.proofs.ForCommits.Starting.{alike-with, quiet-with, starts-behind}
use Rattle.ec_coherence.proofs.ForCommits.Stopping.{stops-behind}
use Rattle.ec_base.proofs.Bools.{left as and_first, left-other, left-own, is-true}
use Rattle.ec_base.proofs.Numbers.{same-self as same, equal}

all-members : (P : ℕ → Bool) (xs : List ℕ) → ((n : ℕ) → T (member n xs) → T (P n)) → T (list_all P xs)
all-members P [] f = tt
all-members P (x ∷ xs) f = both (P x) (list_all P xs) (f x (subst (λ b. T (b || member x xs)) (sym (same x)) tt)) (all-members P xs (λ n m. f n (or-next (n == x) (member n xs) m)))
  where
    or-next : (a b : Bool) → T b → T (a || b)
    or-next true b t = tt
    or-next false b t = t

    both : (a b : Bool) → T a → T b → T (a && b)
    both true b t s = s
    both false b t s = absurd t

pub every : (P : Op → Type 0) → ((k : Op) → P k) → (ks : List Op) → Each P ks
every P f [] = tt
every P f (k ∷ ks) = (f k, every P f ks)

module _ (g : System) (γ : Ghost) (t : Serving) (u : Under g t γ) (none : t.rec ≡ None) (wa : WatchesAgree (serving_in t γ g)) (c : ℕ) (sl : Slot) (k : Clerk)
    (in_slot : slot t.server.durable c ≡ Some sl) (opened : T sl.is_open) (there : clerk_in (serving_in t γ g) sl.session ≡ Some k) (claimed : T (member sl.session t.server.claimed))
    (b : ℕ) (ns : List ℕ) (under : at b k.log.batches ≡ Some ns) (unmarked : T (not (has sl.window b))) where
  abbrev here : System
  here = serving_in t γ g

  abbrev s : ℕ
  s = sl.session

  abbrev ops : List (ℕ × Update)
  ops = batch b k.log

  pub tokens-now : (x : ℕ) → eff (view here) s x ≡ eff_from true (tokens.token t.server.tokens s x) t.server.durable.epoch (γ.old s x)
  tokens-now x = ap (λ o. eff_from o (tokens.token t.server.tokens s x) t.server.durable.epoch (γ.old s x)) (is-true (member s t.server.claimed) claimed)

  abbrev now : Durable
  now = flushing.now g γ t u c sl k in_slot opened there b ns under unmarked tokens-now

  abbrev done : Serving
  done = tell c (Kept s now.epoch b) (flushing.committed_step g γ t u c sl k in_slot opened there b ns under unmarked tokens-now now)

  abbrev γ1 : Ghost
  γ1 = keep_batch c (sl.age).boot (keys ops) γ

  abbrev γ' : Ghost
  γ' = record γ1 { shown = γ.shown ++ show.Durable c (keys ops) ∷ [] }

  abbrev behind : System
  behind = serving_in done γ' g

  own : slot now c ≡ Some (flushing.newslot g γ t u c sl k in_slot opened there b ns under unmarked tokens-now)
  own = (flushing.done g γ t u c sl k in_slot opened there b ns under unmarked tokens-now).own

  others : (j : ℕ) → j ≢ c → slot now j ≡ slot t.server.durable j
  others j n = (flushing.done g γ t u c sl k in_slot opened there b ns under unmarked tokens-now).others j n

  was-open : (r : ℕ) → T (is_open behind r) → T (is_open here r)
  was-open r o =
      let q = open-at r now.sessions o in
      elim (cases_eq q.0 c) [
        | inl e ↦ let is = same_some (sym (ap (slot now) (sym e) ∙ (q.2).0) ∙ own) in at-open r t.server.durable.sessions c sl (in_slot, sym (ap (λ w. w.session) is) ∙ (q.2).1, opened)
        | inr n ↦ at-open r t.server.durable.sessions q.0 q.1 (sym (others q.0 n) ∙ (q.2).0, (q.2).1, (q.2).2)
      ]

  same-tokens : (r : ℕ) (fs : List Op) → γ.frozen r ≡ Some fs → (x : ℕ) → eff (view behind) r x ≡ eff (view here) r x
  same-tokens r fs f x =
      let out = ended-unclaimed g γ t u.invariant r fs f in
      ap (λ z. eff_from z (tokens.token t.server.tokens r x) now.epoch (γ.old r x)) out ∙ sym (ap (λ z. eff_from z (tokens.token t.server.tokens r x) t.server.durable.epoch (γ.old r x)) out)

  -- what the session may still lose is what the lines say, and the batch is of it

  abbrev pending : Op → Bool
  pending o = is_of (γ.owner s) o && not (γ.is_durable o)

  still-now : (watch c γ.shown).undurable ≡ numbers (filter pending γ.kept)
  still-now = (wa c).still ∙ ap (still_in γ) in_slot ∙ ap (λ z. elim z as (λ y. List ℕ) [ true ↦ numbers (undurable γ s) | false ↦ [] ]) (is-true sl.is_open opened)

  named : T (list_all (λ n. member n (watch c γ.shown).undurable) (keys ops))
  named = all-members (λ n. member n (watch c γ.shown).undurable) (keys ops) (λ n m. subst (λ xs. T (member n xs)) (sym still-now)
      (member-less n pending (λ o. not (γ.is_durable o) && (is_of (γ.owner s) o && member o.number (keys ops))) (λ o h. turn (γ.is_durable o) (is_of (γ.owner s) o) (member o.number (keys ops)) h) γ.kept
      (subst (λ xs. T (member n xs)) (sent-numbers γ.kept (is_of (γ.owner s)) γ.is_durable k.log sl.window b ns ((u.invariant.logs.logs s c sl in_slot refl opened k there).knows) under unmarked) m)))
    where
      turn : (d o m : Bool) → T (not d && (o && m)) → T (o && not d)
      turn true o m h = absurd h
      turn false true m h = tt
      turn false false m h = absurd h

  events : EventsAgree behind
  events = durable-events here u.invariant.events c (sl.age).boot (keys ops) now (Some done.server) behind.pool ((flushing.done g γ t u c sl k in_slot opened there b ns under unmarked tokens-now).most) named was-open same-tokens

  pub flush-is : flush c s b ops sl t ≡ done
  flush-is = flushes here u.invariant.sessions u.invariant.tokens u.invariant.logs u.invariant.images c s sl k in_slot refl opened there b ns under unmarked t refl tokens-now

  agrees : BatchFacts behind
  agrees = lines-agree (serving_in done γ1 g) γ'.shown γ.history γ.fresh
      (subst (λ z. BatchFacts (serving_in z γ1 g)) flush-is (flush-agrees g γ t u c sl k in_slot opened there b ns under unmarked tokens-now))

  flushed : Under g done γ'
  flushed = record {
    committed = subst (λ d. step (record_of.Batch c s b ops) d ≡ Ok now) (before-record g γ t u none) ((flushing.done g γ t u c sl k in_slot opened there b ns under unmarked tokens-now).steps);
    shown = ap (λ z. z ++ show.Durable c (keys ops) ∷ []) (before-lines g γ t u none ∙ append-nil g.ghost.shown);
    invariant = record { sessions = agrees.sessions; tokens = agrees.tokens; logs = agrees.logs; images = agrees.images; events = events; stops = stops-behind g γ γ' t done u agrees.images };
  }

  -- the lines behind it

  owner-is : γ.owner s ≡ Some (c, sl.age)
  owner-is = (u.invariant.sessions.slots c sl in_slot).2

  abbrev same-field : {A : Type 0} (f : Watch → A) → ((w : Watch) → f (durables.before here u.invariant.events c (sl.age).boot (keys ops) now (Some done.server) behind.pool ((flushing.done g γ t u c sl k in_slot opened there b ns under unmarked tokens-now).most) named w) ≡ f w)
      → (e : ℕ) → f (watch e γ'.shown) ≡ f (watch e γ.shown)
  same-field f h e = durables.same-field here u.invariant.events c (sl.age).boot (keys ops) now (Some done.server) behind.pool ((flushing.done g γ t u c sl k in_slot opened there b ns under unmarked tokens-now).most) named f h e

  watched : (e : ℕ) → watch e γ'.shown ≡ cond (e == c) (record (watch e γ.shown) { undurable = filter (λ n. not (member n (keys ops))) (watch e γ.shown).undurable }) (watch e γ.shown)
  watched e = durables.watched here u.invariant.events c (sl.age).boot (keys ops) now (Some done.server) behind.pool ((flushing.done g γ t u c sl k in_slot opened there b ns under unmarked tokens-now).most) named e

  left : numbers (undurable γ' s) ≡ filter (λ n. not (member n (keys ops))) (numbers (undurable γ s))
  left = sym (numbers-left pending (λ n. not (member n (keys ops))) γ.kept ∙ ap numbers (filter-alike (λ o. pending o && not (member o.number (keys ops))) (λ o. is_of (γ.owner s) o && not (γ'.is_durable o)) γ.kept (every _ alike γ.kept)))
    where
      alike : (o : Op) → (pending o && not (member o.number (keys ops))) ≡ (is_of (γ.owner s) o && not (γ'.is_durable o))
      alike o = left-own (is_of (γ.owner s) o) (γ.is_durable o) (member o.number (keys ops))
          ∙ ap (λ w. is_of (γ.owner s) o && not (γ.is_durable o || (is_of w o && member o.number (keys ops)))) owner-is

  left-others : (e : ℕ) (sm : Slot) → e ≢ c → slot t.server.durable e ≡ Some sm → undurable γ' sm.session ≡ undurable γ sm.session
  left-others e sm n p = filter-alike (λ o. is_of (γ.owner sm.session) o && not (γ'.is_durable o)) (λ o. is_of (γ.owner sm.session) o && not (γ.is_durable o)) γ.kept (every _ alike γ.kept)
    where
      off : (o : Op) → T (of_start e (sm.age).boot o) → of_start c (sl.age).boot o ≡ false
      off o h = ap (λ z. z && ((sl.age).boot == o.boot)) (ne_eqb c o.clerk (λ q. n (equal e o.clerk (is-true (e == o.clerk) (and_first (e == o.clerk) _ h)) ∙ sym q)))

      alike : (o : Op) → (is_of (γ.owner sm.session) o && not (γ'.is_durable o)) ≡ (is_of (γ.owner sm.session) o && not (γ.is_durable o))
      alike o = left-other (is_of (γ.owner sm.session) o) (γ.is_durable o) (of_start c (sl.age).boot o) (member o.number (keys ops))
          (λ h. off o (subst (λ w. T (is_of w o)) ((u.invariant.sessions.slots e sm p).2) h))

  still-others : (e : ℕ) → e ≢ c → still_in γ' (slot t.server.durable e) ≡ still_in γ (slot t.server.durable e)
  still-others e n = go (slot t.server.durable e) refl
    where
      go : (o : Option Slot) → slot t.server.durable e ≡ o → still_in γ' o ≡ still_in γ o
      go None p = refl
      go (Some sm) p = ap (λ ks. elim sm.is_open as (λ y. List ℕ) [ true ↦ numbers ks | false ↦ [] ]) (left-others e sm n p)

  pub flush-watches : WatchesAgree behind
  flush-watches e = record {
    running = same-field (λ w. w.running) (λ w. refl) e ∙ (wa e).running;
    early = same-field (λ w. w.early) (λ w. refl) e ∙ (wa e).early;
    still = elim (cases_eq e c) [
      | inl q ↦
          ap (λ w. w.undurable) (watched e ∙ ap (λ z. cond z (record (watch e γ.shown) { undurable = filter (λ n. not (member n (keys ops))) (watch e γ.shown).undurable }) (watch e γ.shown)) (ap (λ z. z == c) q ∙ same c))
          ∙ ap (λ z. filter (λ n. not (member n (keys ops))) (watch z γ.shown).undurable) q ∙ ap (filter (λ n. not (member n (keys ops)))) still-now ∙ sym left
          ∙ sym (ap (λ z. elim z as (λ y. List ℕ) [ true ↦ numbers (undurable γ' s) | false ↦ [] ]) (is-true sl.is_open opened)) ∙ sym (ap (still_in γ') (ap (slot now) q ∙ own))
      | inr n ↦
          ap (λ w. w.undurable) (watched e ∙ ap (λ z. cond z (record (watch e γ.shown) { undurable = filter (λ n. not (member n (keys ops))) (watch e γ.shown).undurable }) (watch e γ.shown)) (ne_eqb e c n))
          ∙ (wa e).still ∙ sym (still-others e n) ∙ sym (ap (still_in γ') (others e n))
    ];
    unseen = λ q. ap (λ w. w.undurable) (watched e) ∙ none-left (e == c) ((wa e).unseen (sym (same-field (λ w. w.open_start) (λ w. refl) e) ∙ q));
    open_start = λ f q.
        let z = (wa e).open_start f (sym (same-field (λ w. w.open_start) (λ w. refl) e) ∙ q) in
        elim (cases_eq e c) [
          | inl i ↦
              let is : z.0 ≡ sl = same_some (sym z.1 ∙ ap (slot t.server.durable) i ∙ in_slot) in
              (flushing.newslot g γ t u c sl k in_slot opened there b ns under unmarked tokens-now, ap (slot now) i ∙ own, opened, z.3 ∙ ap (λ w. shown_boot g e (w.age).boot) is)
          | inr n ↦ (z.0, others e n ∙ z.1, z.2, z.3)
        ];
    crashed = λ f l m r. same-field (λ w. w.crashed) (λ w. refl) e ∙ (wa e).crashed f l m r;
  }
    where
      none-left : (z : Bool) → (watch e γ.shown).undurable ≡ [] → (cond z (record (watch e γ.shown) { undurable = filter (λ n. not (member n (keys ops))) (watch e γ.shown).undurable }) (watch e γ.shown)).undurable ≡ []
      none-left true h = ap (filter (λ n. not (member n (keys ops)))) h
      none-left false h = h

  pub flush-stands : Under g (flush c s b ops sl t) γ'
  flush-stands = subst (λ z. Under g z γ') (sym flush-is) flushed

  pub flush-shows : WatchesAgree (serving_in (flush c s b ops sl t) γ' g)
  flush-shows = subst (λ z. WatchesAgree (serving_in z γ' g)) (sym flush-is) flush-watches

  pub flush-starts : StartsAgree here → StartsAgree (serving_in (flush c s b ops sl t) γ' g)
  flush-starts st = subst (λ z. StartsAgree (serving_in z γ' g)) (sym flush-is)
      (starts-behind g γ t st γ' done (quiet-with g γ t st c (Kept s now.epoch b) tt) st.owned st.above (alike-with g γ t st c (sl.age).boot (keys ops)))
