-- A line names operations of an open session durable: the history stays, and fewer may be lost.
use Rattle.std.proofs.Common.{◌≡◌, refl, sym, ap, subst, ◌∙◌, ℕ, Bool, true, false, not, ◌==◌, ◌&&◌, ◌||◌, cond, T, List, [], ◌∷◌, ◌++◌, ◌+◌, Option, Some, append-nil}
use Rattle.std.specs.List.{filter, list_any, list_all}
use Rattle.ec_base.specs.declared.ids.Age.{Age}
use Rattle.ec_base.specs.Holds.{is_free}
use Rattle.ec_volume.specs.Update.{member, operands}
use Rattle.ec_history.specs.History.{History, Op, Each, Throughout, Covers, kept, numbers, of_start, is_one_of, touched}
use Rattle.ec_history.specs.Legal.{IsLegal, is_call_of_other}
use Rattle.ec_history.specs.Placing.{watch, begun, place}
use Rattle.ec_history.specs.declared.watch.Watch.{Watch}
use Rattle.ec_history.specs.declared.entry.Entry.{Entry}
use Rattle.ec_history.specs.declared.entry.Entry.TheVariants as entry
use Rattle.ec_history.specs.declared.shown.Shown.TheVariants as show
use Rattle.ec_history.proofs.OfLaws.ForPlacing.Cuts.{placeable-step}
use Rattle.ec_history.proofs.OfLaws.ForPlacing.Late.{place-no_call}
use Rattle.ec_history.proofs.OfLaws.ForPlacing.More.{watch-step}
use Rattle.ec_wire.specs.declared.msg.Msg.{Msg}
use Rattle.ec_durable.specs.declared.state.Durable.{Durable}
use Rattle.ec_protocol.specs.declared.server.Server.{Server}
use Rattle.ec_protocol.specs.declared.clerk.Clerk.{Clerk}
use Rattle.ec_coherence.specs.System.{System, base_of, is_of, is_open, undurable}
use Rattle.ec_coherence.specs.Tokens.{eff, eff_hold, view}
use Rattle.ec_coherence.specs.Events.{EventsAgree, CutAgrees, Frees, Untouched, same_op, shown_boot}
use Rattle.ec_coherence.specs.Steps.{keep_batch}
use Rattle.ec_coherence.proofs.ForServer.Tables.{each-map}
use Rattle.ec_base.proofs.Bools.{left as and_first, either-way, not-left, and-both as and_both, right as and_next, or_first}

-- Fewer pass a stricter test.

pub each-less : (P : Op → Type 0) (p q : Op → Bool) → ((k : Op) → T (q k) → T (p k)) → (ks : List Op) → Each P (filter p ks) → Each P (filter q ks)
each-less P p q f [] h = tt
each-less P p q f (k ∷ ks) h = go (q k) (p k) (f k) h (λ r. each-less P p q f ks r)
  where
    go : (b a : Bool) → (T b → T a) → Each P (cond a (k ∷ filter p ks) (filter p ks)) → (Each P (filter p ks) → Each P (filter q ks)) → Each P (cond b (k ∷ filter q ks) (filter q ks))
    go true true i h r = (h.0, r h.1)
    go true false i h r = absurd (i tt)
    go false true i h r = r h.1
    go false false i h r = r h

pub member-less : (n : ℕ) (p q : Op → Bool) → ((k : Op) → T (q k) → T (p k)) → (ks : List Op) → T (member n (numbers (filter q ks))) → T (member n (numbers (filter p ks)))
member-less n p q f [] h = h
member-less n p q f (k ∷ ks) h = go (q k) (p k) (f k) h (λ r. member-less n p q f ks r)
  where
    or-next : (a b : Bool) → T b → T (a || b)
    or-next true b t = tt
    or-next false b t = t

    both : (a b c : Bool) → (T b → T c) → T (a || b) → T (a || c)
    both true b c r t = tt
    both false b c r t = r t

    go : (b a : Bool) → (T b → T a) → T (member n (numbers (cond b (k ∷ filter q ks) (filter q ks)))) → (T (member n (numbers (filter q ks))) → T (member n (numbers (filter p ks)))) → T (member n (numbers (cond a (k ∷ filter p ks) (filter p ks))))
    go true true i h r = both (n == k.number) (member n (numbers (filter q ks))) (member n (numbers (filter p ks))) r h
    go true false i h r = absurd (i tt)
    go false true i h r = or-next (n == k.number) (member n (numbers (filter p ks))) (r h)
    go false false i h r = r h

all-less : (P p q : Op → Bool) → ((k : Op) → T (q k) → T (p k)) → (ks : List Op) → T (list_all P (filter p ks)) → T (list_all P (filter q ks))
all-less P p q f [] h = tt
all-less P p q f (k ∷ ks) h = go (q k) (p k) (f k) h (λ r. all-less P p q f ks r)
  where
    go : (b a : Bool) → (T b → T a) → T (list_all P (cond a (k ∷ filter p ks) (filter p ks))) → (T (list_all P (filter p ks)) → T (list_all P (filter q ks))) → T (list_all P (cond b (k ∷ filter q ks) (filter q ks)))
    go true true i h r = and_both (P k) (list_all P (filter q ks)) (and_first (P k) (list_all P (filter p ks)) h) (r (and_next (P k) (list_all P (filter p ks)) h))
    go true false i h r = absurd (i tt)
    go false true i h r = r (and_next (P k) (list_all P (filter p ks)) h)
    go false false i h r = r h

-- Numbers that are left of those kept.
pub numbers-left : (p : Op → Bool) (q : ℕ → Bool) (ks : List Op) → filter q (numbers (filter p ks)) ≡ numbers (filter (λ k. p k && q k.number) ks)
numbers-left p q [] = refl
numbers-left p q (k ∷ ks) = go (p k) (q k.number) refl (numbers-left p q ks)
  where
    go : (a b : Bool) → q k.number ≡ b → filter q (numbers (filter p ks)) ≡ numbers (filter (λ k. p k && q k.number) ks)
        → filter q (numbers (cond a (k ∷ filter p ks) (filter p ks))) ≡ numbers (cond (a && q k.number) (k ∷ filter (λ k. p k && q k.number) ks) (filter (λ k. p k && q k.number) ks))
    go true true e r = ap (λ z. cond z (k.number ∷ filter q (numbers (filter p ks))) (filter q (numbers (filter p ks)))) e ∙ ap (λ ns. k.number ∷ ns) r
        ∙ sym (ap (λ z. numbers (cond z (k ∷ filter (λ k. p k && q k.number) ks) (filter (λ k. p k && q k.number) ks))) e)
    go true false e r = ap (λ z. cond z (k.number ∷ filter q (numbers (filter p ks))) (filter q (numbers (filter p ks)))) e ∙ r
        ∙ sym (ap (λ z. numbers (cond z (k ∷ filter (λ k. p k && q k.number) ks) (filter (λ k. p k && q k.number) ks))) e)
    go false b e r = r

module _ (g : System) (ev : EventsAgree g) (c b : ℕ) (ns : List ℕ) (d : Durable) (v : Option Server) (p : List (ℕ × Msg)) (most : d.max_objects ≡ g.durable.max_objects)
    (named : T (list_all (λ n. member n (watch c g.ghost.shown).undurable) ns)) where
  abbrev pub later : System
  later = record g { durable = d; server = v; pool = p; ghost = record (keep_batch c b ns g.ghost) { shown = g.ghost.shown ++ show.Durable c ns ∷ [] } }

  abbrev pub before : Watch → Watch
  before w = record w { undurable = filter (λ n. not (member n ns)) w.undurable }

  pub watched : (e : ℕ) → watch e later.ghost.shown ≡ cond (e == c) (before (watch e g.ghost.shown)) (watch e g.ghost.shown)
  watched e = watch-step e g.ghost.shown (show.Durable c ns)

  pub same-field : {A : Type 0} (f : Watch → A) → ((w : Watch) → f (before w) ≡ f w) → (e : ℕ) → f (watch e later.ghost.shown) ≡ f (watch e g.ghost.shown)
  same-field f h e = ap f (watched e) ∙ go (e == c)
    where
      go : (z : Bool) → f (cond z (before (watch e g.ghost.shown)) (watch e g.ghost.shown)) ≡ f (watch e g.ghost.shown)
      go true = h (watch e g.ghost.shown)
      go false = refl

  begun-same : (w : Watch) → (begun (before w)).starts ≡ (begun w).starts
  begun-same w = go w.running
    where
      go : (z : Bool) → (cond z (before w) (record (before w) { starts = w.starts + 1; running = true })).starts ≡ (cond z w (record w { starts = w.starts + 1; running = true })).starts
      go true = refl
      go false = refl

  stricter : (s : ℕ) (k : Op) → T (is_of (g.ghost.owner s) k && not (later.ghost.is_durable k)) → T (is_of (g.ghost.owner s) k && not (g.ghost.is_durable k))
  stricter s k t = and_both (is_of (g.ghost.owner s) k) (not (g.ghost.is_durable k)) (and_first (is_of (g.ghost.owner s) k) _ t)
      (not-left (g.ghost.is_durable k) (of_start c b k && member k.number ns) (and_next (is_of (g.ghost.owner s) k) _ t))

  module _ (opens : (s : ℕ) → T (is_open later s) → T (is_open g s)) (closed : (s : ℕ) (ks : List Op) → g.ghost.frozen s ≡ Some ks → (x : ℕ) → eff (view later) s x ≡ eff (view g) s x) where
    frees-stay : (s : ℕ) (ks : List Op) → g.ghost.frozen s ≡ Some ks → (op : Op) → Frees g s op → Frees later s op
    frees-stay s ks f op r = each-map (λ x. T (is_free (eff_hold (eff (view g) s x)))) (λ x. T (is_free (eff_hold (eff (view later) s x)))) (operands op.update)
        (λ x z. subst (λ e. T (is_free (eff_hold e))) (sym (closed s ks f x)) z) r

    one-less : (s : ℕ) (o : ℕ × Age) (k : Op) → T (is_one_of o.0 (shown_boot g o.0 (o.1).boot) (numbers (undurable later.ghost s)) k) → T (is_one_of o.0 (shown_boot g o.0 (o.1).boot) (numbers (undurable g.ghost s)) k)
    one-less s o k t = and_both (of_start o.0 (shown_boot g o.0 (o.1).boot) k) (member k.number (numbers (undurable g.ghost s))) (and_first (of_start o.0 (shown_boot g o.0 (o.1).boot) k) _ t)
        (member-less k.number (λ j. is_of (g.ghost.owner s) j && not (g.ghost.is_durable j)) (λ j. is_of (g.ghost.owner s) j && not (later.ghost.is_durable j)) (stricter s) g.ghost.kept
        (and_next (of_start o.0 (shown_boot g o.0 (o.1).boot) k) _ t))

    throughout-map : (P Q : History → ℕ × Entry → Type 0) → ((h : History) (e : ℕ × Entry) → P h e → Q h e) → (past h : History) → Throughout P past h → Throughout Q past h
    throughout-map P Q f past [] t = tt
    throughout-map P Q f past (e ∷ h) t = (f past e t.0, throughout-map P Q f (past ++ e ∷ []) h t.1)

    untouched-now : (s : ℕ) (o : ℕ × Age) → g.ghost.owner s ≡ Some o → T (is_open later s) → Throughout (Untouched later s o) [] g.ghost.history
    untouched-now s o w i = throughout-map (Untouched g s o) (Untouched later s o)
        (λ h e t. either-way (not (is_call_of_other o.0 e.1)) (list_all (λ k. not (list_any (λ x. member x (touched (base_of g) (kept (base_of g) h) e)) (operands k.update))) (filter (is_one_of o.0 (shown_boot g o.0 (o.1).boot) (numbers (undurable g.ghost s))) (kept (base_of g) h)))
        (list_all (λ k. not (list_any (λ x. member x (touched (base_of g) (kept (base_of g) h) e)) (operands k.update))) (filter (is_one_of o.0 (shown_boot g o.0 (o.1).boot) (numbers (undurable later.ghost s))) (kept (base_of g) h)))
        (λ z. all-less (λ k. not (list_any (λ x. member x (touched (base_of g) (kept (base_of g) h) e)) (operands k.update))) (is_one_of o.0 (shown_boot g o.0 (o.1).boot) (numbers (undurable g.ghost s)))
        (is_one_of o.0 (shown_boot g o.0 (o.1).boot) (numbers (undurable later.ghost s))) (one-less s o) (kept (base_of g) h) z) t) [] g.ghost.history (ev.untouched s o w (opens s i))

    cut-stays : (e f s : ℕ) (k : Clerk) (ks : List Op) → g.ghost.frozen s ≡ Some ks → CutAgrees g e f s k ks → CutAgrees later e f s k ks
    cut-stays e f s k ks z q = record {
      before = q.before;
      at = q.at;
      lost = q.lost;
      behind = q.behind;
      was = q.was;
      keeps = q.keeps;
      alone = q.alone;
      untold = same-field (λ w. w.untold) (λ w. refl) e ∙ q.untold;
      owes = q.owes;
      frozen = λ t o. each-less (λ op. T (list_any (λ j. same_op j op) ks) → Frees later s op) (λ j. is_of (g.ghost.owner t) j && not (g.ghost.is_durable j)) (λ j. is_of (g.ghost.owner t) j && not (later.ghost.is_durable j)) (stricter t) g.ghost.kept
          (each-map (λ op. T (list_any (λ j. same_op j op) ks) → Frees g s op) (λ op. T (list_any (λ j. same_op j op) ks) → Frees later s op) (undurable g.ghost t) (λ op r y. frees-stay s ks z op (r y)) (q.frozen t (opens t o)));
      later = each-map (λ y. (r a h : ℕ) (ms : List ℕ) → y ≡ (r, entry.Loss a h ms) → Each (Frees g s) (filter (is_one_of a h ms) (kept (base_of g) q.before)))
          (λ y. (r a h : ℕ) (ms : List ℕ) → y ≡ (r, entry.Loss a h ms) → Each (Frees later s) (filter (is_one_of a h ms) (kept (base_of g) q.before))) q.behind
          (λ y x r a h ms w. each-map (Frees g s) (Frees later s) (filter (is_one_of a h ms) (kept (base_of g) q.before)) (λ op j. frees-stay s ks z op j) (x r a h ms w)) q.later;
    }

    pub durable-events : EventsAgree later
    durable-events = record {
      placeable = placeable-step g.ghost.shown (show.Durable c ns) ev.placeable named;
      placed = place-no_call g.ghost.shown (show.Durable c ns) (λ e. refl) ∙ append-nil (place g.ghost.shown) ∙ ev.placed;
      starts = λ e f r. same-field (λ w. (begun w).starts) begun-same e ∙ ev.starts e f r;
      untold = λ e f k r q n. same-field (λ w. w.untold) (λ w. refl) e ∙ ev.untold e f k r q n;
      keeps = ev.keeps;
      legal = subst (λ n. IsLegal (base_of g) n g.ghost.history) (sym most) ev.legal;
      owes = ev.owes;
      counts = ev.counts;
      covered = throughout-map (λ h e. (o : Op) → Covers (base_of g) h e o.clerk (shown_boot g o.clerk o.boot) o.number → T (g.ghost.is_durable o))
          (λ h e. (o : Op) → Covers (base_of g) h e o.clerk (shown_boot g o.clerk o.boot) o.number → T (later.ghost.is_durable o))
          (λ h e f o y. or_first (g.ghost.is_durable o) (of_start c b o && member o.number ns) (f o y)) [] g.ghost.history ev.covered;
      untouched = untouched-now;
      cuts = λ e f s k ks r q m z. cut-stays e f s k ks z (ev.cuts e f s k ks r q m z);
    }
