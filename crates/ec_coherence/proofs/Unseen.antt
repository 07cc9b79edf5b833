-- A session ends that its start never showed, of a start that doesn't run any more: the history stays.
use Rattle.std.proofs.Common.{◌≡◌, ◌≢◌, refl, sym, ap, subst, ◌∙◌, ◌+◌, ℕ, Bool, true, false, not, ◌==◌, ◌&&◌, cond, map, T, List, [], ◌∷◌, ◌++◌, length, Option, Some, None, append-nil}
use Rattle.std.specs.List.{filter, list_any}
use Rattle.ec_history.specs.History.{Base, History, Op, Each, Throughout, Covers, kept, owed, numbers, is_one_of}
use Rattle.ec_history.specs.Legal.{IsLegal, is_op_of}
use Rattle.ec_history.specs.Placing.{watch, begun, place}
use Rattle.ec_history.specs.declared.watch.Watch.{Watch}
use Rattle.ec_history.specs.declared.entry.Entry.{Entry}
use Rattle.ec_history.specs.declared.entry.Entry.TheVariants as entry
use Rattle.ec_history.specs.declared.shown.Shown.{Shown}
use Rattle.ec_history.specs.declared.shown.Shown.TheVariants as show
use Rattle.ec_history.proofs.OfLaws.ForPlacing.Cuts.{placeable-step}
use Rattle.ec_history.proofs.OfLaws.ForPlacing.Late.{place-no_call}
use Rattle.ec_history.proofs.OfLaws.ForPlacing.More.{watch-step}
use Rattle.ec_sessions.specs.declared.slot.Slot.{Slot}
use Rattle.ec_wire.specs.declared.msg.Msg.{Msg}
use Rattle.ec_durable.specs.Durable.{slot}
use Rattle.ec_durable.specs.declared.state.Durable.{Durable}
use Rattle.ec_protocol.specs.declared.clerk.Clerk.{Clerk}
use Rattle.ec_protocol.specs.declared.server.Server.{Server}
use Rattle.ec_coherence.specs.System.{System, base_of, is_of, undurable}
use Rattle.ec_coherence.specs.Tokens.{eff, view}
use Rattle.ec_coherence.specs.Events.{EventsAgree, CutAgrees, Frees, IsUncut, Untouched, same_op, shown_boot, shown_op}
use Rattle.ec_coherence.specs.Invariant.{Invariant}
use Rattle.ec_coherence.specs.Steps.{end_session, runs}
use Rattle.ec_coherence.proofs.ForServer.Lists.{each-turn}
use Rattle.ec_coherence.proofs.ForServer.Tables.{by-session, same_some}
use Rattle.std.proofs.lemmas.Bool.{true≢false}
use Rattle.ec_coherence.specs.Starts.{StartsAgree}
use Rattle.ec_coherence.specs.Watches.{WatchesAgree}
use Rattle.ec_coherence.proofs.Behind as around
use Rattle.ec_coherence.proofs.Its as its

-- where none passes, all that don't are all
all-left : (p : Op → Bool) (ks : List Op) → numbers (filter p ks) ≡ [] → filter (λ k. not (p k)) ks ≡ ks
all-left p [] e = refl
all-left p (k ∷ ks) e = go (p k) refl e (all-left p ks)
  where
    go : (b : Bool) → p k ≡ b → numbers (cond b (k ∷ filter p ks) (filter p ks)) ≡ [] → (numbers (filter p ks) ≡ [] → filter (λ k. not (p k)) ks ≡ ks)
        → cond (not (p k)) (k ∷ filter (λ k. not (p k)) ks) (filter (λ k. not (p k)) ks) ≡ k ∷ ks
    go true q f r = absurd (more k.number (numbers (filter p ks)) f)
      where
        more : (n : ℕ) (ns : List ℕ) → n ∷ ns ≡ [] → ⊥
        more n ns e = absurd (cc)
    go false q f r = ap (λ z. cond (not z) (k ∷ filter (λ k. not (p k)) ks) (filter (λ k. not (p k)) ks)) q ∙ ap (λ z. k ∷ z) (r f)

module _ (g : System) (i : Invariant g) (wa : WatchesAgree g) (st : StartsAgree g) (c : ℕ) (sl : Slot) (in_slot : slot g.durable c ≡ Some sl) (opened : T sl.is_open)
    (d : Durable) (v : Option Server) (p : List (ℕ × Msg)) (others : (j : ℕ) → j ≢ c → slot d j ≡ slot g.durable j) (closed : (so : Slot) → slot d c ≡ Some so → T so.is_open → ⊥)
    (own-tokens : (x : ℕ) → eff (view (record g { durable = d; server = v; pool = p; ghost = end_session g sl.session g.ghost })) sl.session x ≡ eff (view g) sl.session x)
    (cut-tokens : (r : ℕ) (ks : List Op) → g.ghost.frozen r ≡ Some ks → (x : ℕ) → eff (view (record g { durable = d; server = v; pool = p; ghost = end_session g sl.session g.ghost })) r x ≡ eff (view g) r x)
    (most : d.max_objects ≡ g.durable.max_objects) (hidden : (watch c g.ghost.shown).open_start ≡ None) (idle : runs g c (sl.age).boot ≡ false) where
  abbrev s : ℕ
  s = sl.session

  abbrev b : ℕ
  b = (sl.age).boot

  abbrev w : Watch
  w = watch c g.ghost.shown

  abbrev B : Base
  B = base_of g

  abbrev H : History
  H = g.ghost.history

  abbrev line : Shown
  line = show.Unseen c

  abbrev pub passed : System
  passed = around.behind g i wa st c sl in_slot opened d v p others closed own-tokens cut-tokens line

  stays : place (g.ghost.shown ++ line ∷ []) ≡ H
  stays = place-no_call g.ghost.shown line (λ e. refl) ∙ append-nil (place g.ghost.shown) ∙ i.events.placed

  pub watched : (f : ℕ) → watch f (g.ghost.shown ++ line ∷ []) ≡ watch f g.ghost.shown
  watched f = watch-step f g.ghost.shown line

  owner-is : g.ghost.owner s ≡ Some (c, sl.age)
  owner-is = its.owner-is g i wa st c sl in_slot opened

  -- its start crashed
  crashed : w.crashed ≡ true
  crashed = (wa c).crashed b (its.above g i wa st c sl in_slot opened) (i.sessions.owned s (c, sl.age) owner-is).1 idle

  stopped : g.running c ≡ Some b → ⊥
  stopped q = absurd (true≢false (sym (its.runs-then g i wa st c sl in_slot opened q) ∙ idle))

  none-lost : filter (λ k. not (is_of (g.ghost.owner s) k && not (g.ghost.is_durable k))) g.ghost.kept ≡ g.ghost.kept
  none-lost = all-left (λ k. is_of (g.ghost.owner s) k && not (g.ghost.is_durable k)) g.ghost.kept (sym (its.still-now g i wa st c sl in_slot opened) ∙ (wa c).unseen hidden)

  before : (f : ℕ) (k : Clerk) → IsUncut passed f k → IsUncut g f k
  before f k n = around.uncut-before g i wa st c sl in_slot opened d v p others closed own-tokens cut-tokens line f k n

  cut-now : (f r u : ℕ) (k : Clerk) (ks : List Op) → g.ghost.frozen u ≡ Some ks → CutAgrees g f r u k ks → CutAgrees passed f r u k ks
  cut-now f r u k ks z q = record {
    before = q.before;
    at = q.at;
    lost = q.lost;
    behind = q.behind;
    was = stays ∙ q.was;
    keeps = q.keeps;
    alone = q.alone;
    untold = ap (λ x. x.untold) (watched f) ∙ q.untold;
    owes = q.owes;
    frozen = λ y o. let now = around.was-open g i wa st c sl in_slot opened d v p others closed own-tokens cut-tokens line y o in
        subst (Each (λ x. T (list_any (λ j. same_op j x) ks) → Frees passed u x)) (sym (around.undurable-stays g i wa st c sl in_slot opened d v p others closed own-tokens cut-tokens line y now.0 now.1))
        (each-turn (λ x. T (list_any (λ j. same_op j x) ks) → Frees g u x) (λ x. T (list_any (λ j. same_op j x) ks) → Frees passed u x) (undurable g.ghost y)
        (λ x h t. around.frees-stay g i wa st c sl in_slot opened d v p others closed own-tokens cut-tokens line u ks z x (h t)) (q.frozen y now.0));
    later = each-turn (λ e. (m a x : ℕ) (ms : List ℕ) → e ≡ (m, entry.Loss a x ms) → Each (Frees g u) (filter (is_one_of a x ms) (kept B q.before)))
        (λ e. (m a x : ℕ) (ms : List ℕ) → e ≡ (m, entry.Loss a x ms) → Each (Frees passed u) (filter (is_one_of a x ms) (kept B q.before))) q.behind
        (λ e h m a x ms y. each-turn (Frees g u) (Frees passed u) (filter (is_one_of a x ms) (kept B q.before)) (λ o t. around.frees-stay g i wa st c sl in_slot opened d v p others closed own-tokens cut-tokens line u ks z o t) (h m a x ms y)) q.later;
  }

  cuts-now : (f r u : ℕ) (k : Clerk) (ks : List Op) → g.running f ≡ Some r → g.clerks f r ≡ Some k → g.ghost.owner u ≡ Some (f, k.age) → passed.ghost.frozen u ≡ Some ks → CutAgrees passed f r u k ks
  cuts-now f r u k ks rn q m z = by-session s u (λ y. g.ghost.owner y ≡ Some (f, k.age) → passed.ghost.frozen y ≡ Some ks → CutAgrees passed f r y k ks) own other m z
    where
      own : g.ghost.owner s ≡ Some (f, k.age) → passed.ghost.frozen s ≡ Some ks → CutAgrees passed f r s k ks
      own m z =
          let o = same_some (sym owner-is ∙ m) in
          absurd (stopped (ap g.running (ap (λ y. y.0) o) ∙ rn ∙ ap Some (sym (ap (λ y. (y.1).boot) o ∙ (i.sessions.starts f r k q).1))))

      other : (u == s) ≡ false → g.ghost.owner u ≡ Some (f, k.age) → passed.ghost.frozen u ≡ Some ks → CutAgrees passed f r u k ks
      other n m z =
          let was = sym (around.frozen-other g i wa st c sl in_slot opened d v p others closed own-tokens cut-tokens line u n) ∙ z in
          cut-now f r u k ks was (i.events.cuts f r u k ks rn q m was)

  abbrev IsCovered : History → ℕ × Entry → Type 0
  IsCovered h z = (o : Op) → Covers B h z o.clerk (shown_boot g o.clerk o.boot) o.number → T (g.ghost.is_durable o)

  pub passed-events : EventsAgree passed
  passed-events = record {
    placeable = placeable-step g.ghost.shown line i.events.placeable (crashed, hidden);
    placed = refl;
    starts = λ f r rn. ap (λ z. (begun z).starts) (watched f) ∙ i.events.starts f r rn;
    untold = λ f r k rn q n. ap (λ z. z.untold) (watched f) ∙ i.events.untold f r k rn q (before f k n);
    keeps = ap (kept B) stays ∙ i.events.keeps ∙ ap (map (shown_op g)) (sym none-lost);
    legal = subst (λ m. IsLegal B m passed.ghost.history) (sym most) (subst (IsLegal B g.durable.max_objects) (sym stays) i.events.legal);
    owes = λ f r k rn q n. ap (λ h. owed B h f (shown_boot g f r)) stays ∙ i.events.owes f r k rn q (before f k n);
    counts = λ f r k rn q. ap (λ h. length (filter (is_op_of f (shown_boot g f r)) h) + 1) stays ∙ i.events.counts f r k rn q;
    covered = subst (Throughout IsCovered []) (sym stays) i.events.covered;
    untouched = λ r o m q. subst (Throughout (Untouched passed r o) []) (sym stays) (around.untouched-stays g i wa st c sl in_slot opened d v p others closed own-tokens cut-tokens line r o m q);
    cuts = λ f r u k ks rn q m z. cuts-now f r u k ks rn q m z;
  }
