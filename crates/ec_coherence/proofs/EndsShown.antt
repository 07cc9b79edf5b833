-- What the lines show behind the end of a session.
use Rattle.std.proofs.Common.{◌≡◌, ◌≢◌, refl, sym, ap, subst, ◌∙◌, inl, inr, ℕ, Bool, true, false, not, ◌==◌, ◌&&◌, ◌||◌, cond, T, List, [], ◌∷◌, ◌++◌, Option, Some, None}
use Rattle.std.specs.Prelude.{is_some}
use Rattle.std.specs.List.{filter}
use Rattle.std.proofs.lemmas.Bool.{cases_eq, ne_eqb, true≢false}
use Rattle.ec_history.specs.History.{Op, numbers}
use Rattle.ec_history.specs.Placing.{watch, ended, is_running, owner}
use Rattle.ec_history.specs.declared.watch.Watch.{Watch}
use Rattle.ec_history.specs.declared.shown.Shown.{Shown}
use Rattle.ec_history.specs.declared.shown.Shown.TheVariants as show
use Rattle.ec_history.proofs.OfLaws.ForPlacing.More.{watch-step}
use Rattle.ec_history.proofs.OfLaws.ForPlacing.Watching.{other_end, own_end}
use Rattle.ec_volume.specs.Volume.{Fits}
use Rattle.ec_history.specs.History.{updates}
use Rattle.ec_sessions.specs.declared.slot.Slot.{Slot}
use Rattle.ec_wire.specs.declared.msg.Msg.{Msg}
use Rattle.ec_durable.specs.Durable.{slot}
use Rattle.ec_durable.specs.declared.state.Durable.{Durable}
use Rattle.ec_protocol.specs.declared.server.Server.{Server}
use Rattle.ec_coherence.specs.System.{System, is_of, undurable}
use Rattle.ec_coherence.specs.Tokens.{eff, view}
use Rattle.ec_coherence.specs.Events.{EventsAgree}
use Rattle.ec_coherence.specs.Invariant.{Invariant}
use Rattle.ec_coherence.specs.Steps.{end_session, ended_line, runs}
use Rattle.ec_coherence.proofs.ForBatches.OpenSlots.{at-open}
use Rattle.ec_coherence.proofs.ForServer.Tables.{same_some}
use Rattle.ec_coherence.specs.Starts.{StartsAgree}
use Rattle.ec_coherence.specs.Watches.{WatchAgrees, WatchesAgree, still_in}
use Rattle.ec_coherence.proofs.Behind as around
use Rattle.ec_coherence.proofs.Its as its
use Rattle.ec_coherence.proofs.LossesTold as told
use Rattle.ec_coherence.proofs.LossesTold.{end-field}
use Rattle.ec_coherence.proofs.Unseen as unseen
use Rattle.ec_base.proofs.Numbers.{same-self as same}
use Rattle.ec_base.proofs.Options.{none_some}

-- What a clerk's lines show where nothing of it is open any more.
record IsLeft (before after : Watch) : Type 0 where
  running : after.running ≡ before.running
  early : after.early ≡ []
  undurable : after.undurable ≡ []
  open_start : after.open_start ≡ None
  crashed : after.crashed ≡ before.crashed

module _ (g : System) (i : Invariant g) (wa : WatchesAgree g) (st : StartsAgree g) (c : ℕ) (sl : Slot) (in_slot : slot g.durable c ≡ Some sl) (opened : T sl.is_open)
    (d : Durable) (v : Option Server) (p : List (ℕ × Msg)) (others : (j : ℕ) → j ≢ c → slot d j ≡ slot g.durable j) (closed : (so : Slot) → slot d c ≡ Some so → T so.is_open → ⊥)
    (own-tokens : (x : ℕ) → eff (view (record g { durable = d; server = v; pool = p; ghost = end_session g sl.session g.ghost })) sl.session x ≡ eff (view g) sl.session x)
    (cut-tokens : (r : ℕ) (ks : List Op) → g.ghost.frozen r ≡ Some ks → (x : ℕ) → eff (view (record g { durable = d; server = v; pool = p; ghost = end_session g sl.session g.ghost })) r x ≡ eff (view g) r x)
    (most : d.max_objects ≡ g.durable.max_objects) (fits : Fits g.origin (updates (filter (λ k. not (is_of (g.ghost.owner sl.session) k && not (g.ghost.is_durable k))) g.ghost.kept))) where
  abbrev w : Watch
  w = watch c g.ghost.shown

  abbrev b : ℕ
  b = (sl.age).boot

  abbrev pub behind-line : Shown → System
  behind-line l = around.behind g i wa st c sl in_slot opened d v p others closed own-tokens cut-tokens l

  still-none : (o : Option Slot) → ((so : Slot) → o ≡ Some so → T so.is_open → ⊥) → (l : Shown) → still_in (behind-line l).ghost o ≡ []
  still-none None f l = refl
  still-none (Some so) f l = go so.is_open refl
    where
      go : (z : Bool) → so.is_open ≡ z → elim z as (λ y. List ℕ) [ true ↦ numbers (undurable (behind-line l).ghost so.session) | false ↦ [] ] ≡ []
      go true e = absurd (f so refl (subst T (sym e) tt))
      go false e = refl

  still-others : (l : Shown) (f : ℕ) → f ≢ c → still_in (behind-line l).ghost (slot g.durable f) ≡ still_in g.ghost (slot g.durable f)
  still-others l f n = go (slot g.durable f) refl
    where
      apart : (so : Slot) → slot g.durable f ≡ Some so → so.session ≢ sl.session
      apart so q = λ e. absurd (n (ap (λ z. z.0) (same_some (sym (i.sessions.slots f so q).2 ∙ ap g.ghost.owner e ∙ (i.sessions.slots c sl in_slot).2))))

      open-one : (so : Slot) → slot g.durable f ≡ Some so → (z : Bool) → so.is_open ≡ z
          → elim z as (λ y. List ℕ) [ true ↦ numbers (undurable (behind-line l).ghost so.session) | false ↦ [] ] ≡ elim z as (λ y. List ℕ) [ true ↦ numbers (undurable g.ghost so.session) | false ↦ [] ]
      open-one so q true e = ap numbers (around.undurable-stays g i wa st c sl in_slot opened d v p others closed own-tokens cut-tokens l so.session (at-open so.session (g.durable).sessions f so (q, refl, subst T (sym e) tt)) (apart so q))
      open-one so q false e = refl

      go : (o : Option Slot) → slot g.durable f ≡ o → still_in (behind-line l).ghost o ≡ still_in g.ghost o
      go None q = refl
      go (Some so) q = open-one so q so.is_open refl

  left-watches : (l : Shown) → IsLeft w (watch c (g.ghost.shown ++ l ∷ [])) → ((f : ℕ) → (f == c) ≡ false → watch f (g.ghost.shown ++ l ∷ []) ≡ watch f g.ghost.shown) → WatchesAgree (behind-line l)
  left-watches l q same-others f = elim (cases_eq f c) [ inl e ↦ subst (λ z. WatchAgrees (behind-line l) z (watch z (g.ghost.shown ++ l ∷ []))) (sym e) own | inr n ↦ other n ]
    where
      own : WatchAgrees (behind-line l) c (watch c (g.ghost.shown ++ l ∷ []))
      own = record {
        running = q.running ∙ (wa c).running;
        early = q.early;
        still = q.undurable ∙ sym (still-none (slot d c) closed l);
        unseen = λ e. q.undurable;
        open_start = λ a e. absurd (none_some (sym q.open_start ∙ e));
        crashed = λ a m n r. q.crashed ∙ (wa c).crashed a m n r;
      }

      other : f ≢ c → WatchAgrees (behind-line l) f (watch f (g.ghost.shown ++ l ∷ []))
      other n = let x = wa f in let e = same-others f (ne_eqb f c n) in record {
        running = ap (λ z. z.running) e ∙ x.running;
        early = ap (λ z. z.early) e ∙ x.early;
        still = ap (λ z. z.undurable) e ∙ x.still ∙ sym (still-others l f n) ∙ sym (ap (still_in (behind-line l).ghost) (others f n));
        unseen = λ y. ap (λ z. z.undurable) e ∙ x.unseen (sym (ap (λ z. z.open_start) e) ∙ y);
        open_start = λ a y. let z = x.open_start a (sym (ap (λ z. z.open_start) e) ∙ y) in (z.0, others f n ∙ z.1, z.2, z.3);
        crashed = λ a y m r. ap (λ z. z.crashed) e ∙ x.crashed a y m r;
      }

  -- both lines

  told-left : (ns : List ℕ) → IsLeft w (watch c (g.ghost.shown ++ show.Ended c ns ∷ []))
  told-left ns = subst (IsLeft w) (sym (watch-step c g.ghost.shown (show.Ended c ns) ∙ ap (λ z. cond z (ended w ns) w) (same c))) (record {
    running = end-field (λ z. z.running) w ns refl refl;
    early = early-none (is_running w (owner w));
    undurable = undurable-none (is_running w (owner w));
    open_start = open-none (is_running w (owner w));
    crashed = end-field (λ z. z.crashed) w ns refl refl;
  })
    where
      early-none : (z : Bool) → (cond z (own_end w ns) (other_end w)).early ≡ []
      early-none true = refl
      early-none false = (wa c).early

      undurable-none : (z : Bool) → (cond z (own_end w ns) (other_end w)).undurable ≡ []
      undurable-none true = refl
      undurable-none false = refl

      open-none : (z : Bool) → (cond z (own_end w ns) (other_end w)).open_start ≡ None
      open-none true = refl
      open-none false = refl

  told-others : (ns : List ℕ) (f : ℕ) → (f == c) ≡ false → watch f (g.ghost.shown ++ show.Ended c ns ∷ []) ≡ watch f g.ghost.shown
  told-others ns f n = watch-step f g.ghost.shown (show.Ended c ns) ∙ ap (λ z. cond z (ended (watch f g.ghost.shown) ns) (watch f g.ghost.shown)) n

  passed-left : w.open_start ≡ None → IsLeft w (watch c (g.ghost.shown ++ show.Unseen c ∷ []))
  passed-left h = subst (IsLeft w) (sym (watch-step c g.ghost.shown (show.Unseen c))) (record { running = refl; early = (wa c).early; undurable = (wa c).unseen h; open_start = h; crashed = refl })

  -- The line of the end, whichever it is.

  abbrev line_by : Bool → Shown
  line_by z = elim z as (λ y. Shown) [ true ↦ show.Ended c w.undurable | false ↦ show.Unseen c ]

  is-none : {A : Type 0} (o : Option A) (r : Bool) → (is_some o || r) ≡ false → (o ≡ None) × (r ≡ false)
  is-none None r e = (refl, e)
  is-none (Some x) r e = absurd (true≢false e)

  both : (z : Bool) → (is_some w.open_start || runs g c b) ≡ z → EventsAgree (behind-line (line_by z)) × WatchesAgree (behind-line (line_by z))
  both true e = (
    subst (λ ns. EventsAgree (behind-line (show.Ended c ns))) (sym (its.still-now g i wa st c sl in_slot opened)) (told.told-events g i wa st c sl in_slot opened d v p others closed own-tokens cut-tokens most fits e),
    left-watches (show.Ended c w.undurable) (told-left w.undurable) (told-others w.undurable),
  )
  both false e =
      let h = is-none w.open_start (runs g c b) e in (
        unseen.passed-events g i wa st c sl in_slot opened d v p others closed own-tokens cut-tokens most h.0 h.1,
        left-watches (show.Unseen c) (passed-left h.0) (λ f n. watch-step f g.ghost.shown (show.Unseen c)),
      )

  pub end-shows : EventsAgree (behind-line (ended_line g c b)) × WatchesAgree (behind-line (ended_line g c b))
  end-shows = both (is_some w.open_start || runs g c b) refl
