-- All facts behind an answer of a clerk that is cut off, in its session or in none, where it may stand before its loss.
use Rattle.std.proofs.Common.{◌≡◌, refl, sym, ap, subst, ◌∙◌, ◌<◌, ◌≤◌, ◌+◌, ℕ, zero, suc, not, Bool, true, false, ◌==◌, cond, T, List, [], ◌∷◌, ◌++◌, length, Option, Some, None}
use Rattle.std.specs.Prelude.{is_some}
use Rattle.std.specs.List.{filter}
use Rattle.ec_base.specs.Tables.{Table, at, put}
use Rattle.ec_volume.specs.Update.{listed}
use Rattle.ec_volume.specs.Image.{is_id}
use Rattle.ec_volume.specs.declared.image.Image.TheVariants.{Gone}
use Rattle.ec_plain.specs.declared.call.Call.{Call}
use Rattle.ec_cache.specs.declared.state.Held.{Held}
use Rattle.ec_history.specs.History.{Each, Op, of_start}
use Rattle.ec_history.specs.Placing.{MayFollow, answered, begun, or_else, place, shows, watch}
use Rattle.ec_history.specs.declared.entry.Answer.{Answer}
use Rattle.ec_history.specs.declared.shown.Shown.{Shown}
use Rattle.ec_history.specs.declared.shown.Shown.TheVariants.{Answered}
use Rattle.ec_history.specs.declared.watch.Watch.{Watch}
use Rattle.ec_history.proofs.OfLaws.ForPlacing.More.{watch-step}
use Rattle.ec_cache.specs.declared.resolve.verdict.Verdict.{Verdict}
use Rattle.ec_protocol.specs.Clerk.{verdict}
use Rattle.ec_protocol.specs.declared.clerk.Clerk.{Clerk}
use Rattle.ec_coherence.specs.System.{System, Ghost, at_session, is_open}
use Rattle.ec_coherence.specs.Sessions.{HasNone}
use Rattle.ec_coherence.specs.Log.{IsNumbered, next_of}
use Rattle.ec_coherence.specs.Steps.{calls_after, doing_in}
use Rattle.ec_coherence.specs.Events.{CutAgrees}
use Rattle.ec_coherence.specs.ChangeLaws.{Calls}
use Rattle.ec_coherence.proofs.ForServer.Tables.{by-session, each-map, same_some}
use Rattle.ec_coherence.specs.CommitLaws.{AllAgree}
use Rattle.ec_coherence.specs.Watches.{WatchAgrees, WatchesAgree}
use Rattle.ec_coherence.specs.Answers.{Gives, fresh_of, op_given}
use Rattle.ec_lawful.specs.OfClerkSteps.Answering.{Suits, answered_clerk, answering}
use Rattle.ec_lawful.specs.OfClerkSteps.Trying.{late_ghost}
use Rattle.ec_lawful.specs.OfClerkSteps.Zeros.{LeaveOut, ZerosAgree}
use Rattle.ec_lawful.proofs.OfClerkSteps.Framed as framed
use Rattle.ec_lawful.proofs.OfClerkSteps.NodesAnswered.{NodesAgree}
use Rattle.ec_lawful.proofs.OfClerkSteps.Late as late
use Rattle.ec_lawful.proofs.OfClerkSteps.Late.{IsLate}
use Rattle.ec_lawful.proofs.OfClerkSteps.LateBase as base
use Rattle.ec_lawful.proofs.OfClerkSteps.Turned.{same-age, same-id, same-session}
use Rattle.ec_lawful.proofs.OfClerkSteps.Zeroless.{ops-left-out, still-no-zero}
use Rattle.ec_base.proofs.Numbers.{same-self as same, equal}
use Rattle.ec_base.proofs.Options.{none_some}
use Rattle.ec_history.proofs.HistoryLemmas.{each-more as each-append}

module _ (g : System) (all : AllAgree g) (zeros : ZerosAgree g) (c b s : ℕ) (k : Clerk) (r : g.running c ≡ Some b) (at-start : g.clerks c b ≡ Some k) (own : g.ghost.owner s ≡ Some (c, k.age)) (ks : List Op) (fz : g.ghost.frozen s ≡ Some ks)
    (n l : ℕ) (cl : Call) (a : Answer) (op : Option ℕ) (gives : Gives g.durable.max_objects k (verdict cl k) a op (answered_clerk (verdict cl k) k).owed) (suit : Suits (verdict cl k) k) (line : MayFollow g.ghost.shown (Answered l c cl a op)) where
  abbrev v : Verdict
  v = verdict cl k

  abbrev pub now : Clerk
  now = answered_clerk v k

  abbrev p : ℕ
  p = length g.ghost.shown + 1

  abbrev pub os : List Op
  os = op_given c b p k v

  abbrev pub shown : List Shown
  shown = g.ghost.shown ++ Answered l c cl a op ∷ []

  abbrev pub fresh : Table ℕ
  fresh = put p (fresh_of k) g.ghost.fresh

  abbrev pub calls : Calls
  calls = calls_after c (answering now n a op).outs g.calls

  abbrev pub δ : Ghost
  δ = late_ghost s c ks l cl a op (fresh_of k) os g.ghost

  abbrev pub h : System
  h = doing_in c b (answering now n a op) δ g

  abbrev pub cut : CutAgrees g c b s k ks
  cut = base.cut g all c b s k r at-start own ks fz l cl a op gives line

  -- What it saw of sessions.

  abbrev fz2 : ℕ → Option (List Op)
  fz2 = at_session s (Some (ks ++ os)) g.ghost.frozen

  by-own : (P : Option (List Op) → ℕ → Type 0) → P (Some (ks ++ os)) s → ((t : ℕ) → P (g.ghost.frozen t) t) → (t : ℕ) → P (fz2 t) t
  by-own P own other t = go (t == s) refl
    where
      go : (y : Bool) → (t == s) ≡ y → P (elim y as (λ z. Option (List Op)) [ true ↦ Some (ks ++ os) | false ↦ g.ghost.frozen t ]) t
      go true q = subst (P (Some (ks ++ os))) (sym (equal t s q)) own
      go false q = other t

  still-open : (t : ℕ) → T (is_open g t) → fz2 t ≡ None
  still-open = by-own (λ z t. T (is_open g t) → z ≡ None) (λ o. absurd (none_some (sym (((all.0).images).unfrozen s o) ∙ fz))) (((all.0).stops).open_sessions)

  still-ended : (t : ℕ) → T (is_some (g.ghost.frozen t)) → T (is_some (fz2 t))
  still-ended = by-own (λ z t. T (is_some (g.ghost.frozen t)) → T (is_some z)) (λ o. tt) (λ t o. o)

  was-none : (t : ℕ) → fz2 t ≡ None → g.ghost.frozen t ≡ None
  was-none = by-own (λ z t. z ≡ None → g.ghost.frozen t ≡ None) (λ q. absurd (none_some (sym q))) (λ t q. q)

  -- The lines: only what isn't told yet grows.

  module _ (w : Watch) where
    abbrev shown_or : Bool → Bool → Watch
    shown_or t own = cond t (record w { open_start = or_else w.open_start w.starts; undurable = w.early ++ (w.undurable ++ listed op); early = [] }) (cond own (record w { undurable = w.undurable ++ listed op }) (record w { early = w.early ++ listed op }))

    abbrev late_or : Option (List ℕ) → Bool → Bool → Watch
    late_or o t own = elim o as (λ z. Watch) [ Some ms ↦ record w { untold = Some (ms ++ listed op) } | None ↦ shown_or t own ]

    late-is : (ns : List ℕ) → w.untold ≡ Some ns → answered w (shows cl a) op ≡ record w { untold = Some (ns ++ listed op) }
    late-is ns u = ap (λ o. late_or o (shows cl a) (is_id w.starts w.open_start)) u

  again : (d : ℕ) (w v : Watch) → WatchAgrees g d w → v.running ≡ w.running → v.early ≡ w.early → v.undurable ≡ w.undurable → v.open_start ≡ w.open_start → v.crashed ≡ w.crashed → WatchAgrees h d v
  again d w v x a1 a2 a3 a4 a5 = record {
    running = a1 ∙ x.running;
    early = a2 ∙ x.early;
    still = a3 ∙ x.still;
    unseen = λ n. a3 ∙ x.unseen (sym a4 ∙ n);
    open_start = λ b q. x.open_start b (sym a4 ∙ q);
    crashed = λ b m n r. a5 ∙ x.crashed b m n r;
  }

  begun-is : begun (watch c g.ghost.shown) ≡ watch c g.ghost.shown
  begun-is = go (watch c g.ghost.shown) ((all.1 c).running ∙ ap is_some r)
    where
      go : (x : Watch) → x.running ≡ true → begun x ≡ x
      go x e = ap (λ z. cond z x (record x { starts = x.starts + 1; running = true })) e

  watched-own : WatchAgrees h c (answered (begun (watch c g.ghost.shown)) (shows cl a) op)
  watched-own = subst (WatchAgrees h c) (sym (ap (λ z. answered z (shows cl a) op) begun-is ∙ late-is (watch c g.ghost.shown) cut.lost cut.untold))
      (again c (watch c g.ghost.shown) (record (watch c g.ghost.shown) { untold = Some (cut.lost ++ listed op) }) (all.1 c) refl refl refl refl refl)

  watches : WatchesAgree h
  watches d = by-session c d (λ z. WatchAgrees h z (watch z shown))
      (subst (WatchAgrees h c) (sym (watch-step c g.ghost.shown (Answered l c cl a op) ∙ ap (λ z. cond z (answered (begun (watch c g.ghost.shown)) (shows cl a) op) (watch c g.ghost.shown)) (same c))) watched-own)
      (λ n. subst (WatchAgrees h d) (sym (watch-step d g.ghost.shown (Answered l c cl a op) ∙ ap (λ z. cond z (answered (begun (watch d g.ghost.shown)) (shows cl a) op) (watch d g.ghost.shown)) n)) (again d (watch d g.ghost.shown) (watch d g.ghost.shown) (all.1 d) refl refl refl refl refl))

  numbered : IsNumbered g.ghost c b k.log.next
  numbered = subst (λ z. IsNumbered g.ghost c b (next_of z)) at-start (((all.0).logs).starts c b)

  below : Each (λ o. T (of_start c b o) → o.number < k.log.next) g.ghost.kept
  below = each-map (λ o. T (of_start c b o) → (suc zero ≤ o.number) × (o.number < k.log.next)) (λ o. T (of_start c b o) → o.number < k.log.next) g.ghost.kept (λ o f t. (f t).1) numbered.numbers

  module _ (seen_none : (x : Held) → at 0 k.cache.held ≡ Some x → x.image ≡ Gone) where
    zeros-saw : (t : ℕ) (is : List Op) → fz2 t ≡ Some is → LeaveOut 0 is
    zeros-saw = by-own (λ z t. (is : List Op) → z ≡ Some is → LeaveOut 0 is)
        (λ is q. subst (LeaveOut 0) (same_some q) (each-append (λ j. T (Rattle.std.specs.Prelude.not (Rattle.ec_volume.specs.Update.has_operand 0 j.update))) ks os (zeros.frozen s ks fz) (ops-left-out cl k (zeros.clerks c b k at-start) seen_none c b p v refl suit)))
        (λ t is q. zeros.frozen t is q)

    pub late-all : (k.session ≡ None → HasNone k → HasNone now) → NodesAgree h → IsLate g c b k now cut.before cut.at cut.lost cut.behind os l cl a op → AllAgree h × ZerosAgree h
    late-all none nodes it = (
      (
        record {
          sessions = framed.sessions-stay g c b k now at-start (same-id k v) (same-age k v) (same-session k v) calls g.ghost.kept fz2 shown (place shown) fresh none (all.0).sessions;
          tokens = nodes.0;
          logs = nodes.1;
          images = nodes.2;
          events = late.late-keeps g (all.0).events c b s k now ks os r at-start own fz ((all.0).sessions).once below l cl a op calls (g.pool ++ []) it;
          stops = framed.stops-stay g c b k now at-start (same-id k v) (same-age k v) (same-session k v) calls g.ghost.kept fz2 shown (place shown) fresh still-open still-ended (all.0).stops;
        },
        watches,
        all.2,
        framed.starts-stay g c b k now at-start (same-id k v) (same-age k v) (same-session k v) calls g.ghost.kept fz2 shown (place shown) fresh (all.3).above was-none all.3,
      ),
      framed.zeros-stay g c b k now at-start (same-id k v) (same-age k v) (same-session k v) calls g.ghost.kept fz2 shown (place shown) fresh zeros.kept zeros-saw (λ z. still-no-zero cl k z seen_none v refl suit) zeros,
    )
