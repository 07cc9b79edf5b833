-- Cut-off starts, and counted ones, behind whatever record the server commits.
use Rattle.std.proofs.Common.{◌≡◌, refl, sym, ap, subst, ◌∙◌, inl, inr, arith, ◌<◌, ℕ, Bool, true, false, not, ◌==◌, ◌||◌, cond, T, List, [], ◌∷◌, ◌++◌, Option, Some, None}
use Rattle.std.specs.Prelude.{is_some, Ok}
use Rattle.std.specs.List.{filter}
use Rattle.ec_base.specs.Tables.{keys}
use Rattle.ec_base.specs.declared.ids.Age.{Age}
use Rattle.ec_volume.specs.Update.{member}
use Rattle.ec_history.specs.Placing.{watch}
use Rattle.ec_history.specs.declared.shown.Shown.{Shown}
use Rattle.ec_history.specs.declared.shown.Shown.TheVariants as show
use Rattle.ec_history.proofs.OfLaws.ForPlacing.More.{watch-step}
use Rattle.ec_sessions.specs.declared.slot.Slot.{Slot}
use Rattle.ec_wire.specs.declared.msg.Msg.{Msg}
use Rattle.ec_durable.specs.Durable.{slot, step}
use Rattle.ec_durable.specs.declared.state.Durable.{Durable}
use Rattle.ec_durable.specs.declared.record.Record.{Record}
use Rattle.ec_durable.specs.declared.record.Record.TheVariants.{Batch, Open, End, Ids, Epoch}
use Rattle.ec_protocol.specs.declared.server.Server.{Server}
use Rattle.ec_coherence.specs.System.{System, Ghost}
use Rattle.ec_coherence.specs.Steps.{Committed, open_session, runs}
use Rattle.ec_coherence.proofs.ForServer.Tables.{differ, same_some}
use Rattle.ec_coherence.specs.CommitLaws.{AllAgree}
use Rattle.ec_coherence.specs.Ends.{show_end}
use Rattle.ec_lawful.specs.OfClerkSteps.Counts.{CountsAgree}
use Rattle.ec_lawful.specs.OfClerkSteps.Cuts.{CutsAgree}
use Rattle.ec_lawful.specs.OfClerkSteps.Frames.{RecordMakes, system_behind}
use Rattle.ec_lawful.proofs.OfClerkSteps.ForJoins.Counted.{ended-starts}
use Rattle.ec_lawful.proofs.OfClerkSteps.ForJoins.Keeping.{keeps-knowing}
use Rattle.ec_lawful.proofs.OfClerkSteps.ForJoins.Recorded.{batch-keeps, end-keeps, frozen-other, ids-keep, lines-other, next-is, open-keeps, owner-is, unfrozen-new}
use Rattle.ec_lawful.proofs.OfClerkSteps.ForJoins.Steps.{epoch-own}
use Rattle.ec_base.proofs.Options.{none_some}

module _ (g : System) (all : AllAgree g) (d : Durable) (v : Option Server) (p : List (ℕ × Msg)) where
  module _ (cuts : CutsAgree g) where
    -- where the slots and the ghosts stay
    quiet-keeps : ((c : ℕ) → slot d c ≡ slot g.durable c) → CutsAgree (system_behind g d v p g.ghost)
    quiet-keeps e c b s k ks r q o z = keeps-knowing g (system_behind g d v p g.ghost) c s k k ks (λ sl p os dur kn. kn) (e c) refl (λ o t. refl) refl (cuts c b s k ks r q o z)

    abbrev Keeps : Ghost → Type 0
    Keeps γ = CutsAgree (system_behind g d v p γ)

    opens : (c : ℕ) (age : Age) (s : ℕ) → step (Open c age s) g.durable ≡ Ok d → AllAgree (system_behind g d v p (open_session c age s g.ghost)) → Keeps (open_session c age s g.ghost)
    opens c age s steps now = open-keeps g all cuts d v p c s age steps g.ghost now refl refl
        (λ t ks z e. none_some (sym (unfrozen-new g all cuts d v p c s age steps g.ghost now refl) ∙ ap g.ghost.frozen (sym e) ∙ z)) (λ f t a n o. refl) (λ f n. refl)

    opens-over : (c : ℕ) (age : Age) (s : ℕ) (sl : Slot) → slot g.durable c ≡ Some sl → T sl.is_open → step (Open c age s) g.durable ≡ Ok d → AllAgree (system_behind g d v p (open_session c age s (show_end g c sl))) → Keeps (open_session c age s (show_end g c sl))
    opens-over c age s sl in_slot opened steps now = open-keeps g all cuts d v p c s age steps (show_end g c sl) now refl refl
        (λ t ks z e. none_some (sym (unfrozen-new g all cuts d v p c s age steps (show_end g c sl) now refl) ∙ sym (frozen-other g all cuts d v p c sl in_slot opened s new) ∙ ap (show_end g c sl).frozen (sym e) ∙ z))
        (λ f t a n o. frozen-other g all cuts d v p c sl in_slot opened t (differ t sl.session (λ e. absurd (n (ap (λ y. y.0) (same_some (sym o ∙ ap g.ghost.owner e ∙ owner-is g all cuts d v p c sl in_slot opened)))))))
        (λ f n. lines-other g all cuts d v p c sl in_slot opened f n)
      where
        above : (m n k : ℕ) → k < n → m ≡ n → (m == k) ≡ false
        above m n k l e = grind arith

        new : (s == sl.session) ≡ false
        new = above s g.durable.next_session sl.session ((all.0).sessions.slots c sl in_slot).1 (next-is g all cuts d v p c s age steps (show_end g c sl) now refl)

    pub records-cuts : (r : Option Record) (γ : Ghost) → Committed g.durable r d → RecordMakes g r γ → AllAgree (system_behind g d v p γ) → Keeps γ
    records-cuts None γ same e now = subst Keeps (sym e) (quiet-keeps (λ c. ap (λ x. slot x c) same))
    records-cuts (Some (Batch c s b ops)) γ steps m now = subst Keeps (sym m.4) (batch-keeps g all cuts d v p c s b ops m.0 m.1 m.2 steps)
    records-cuts (Some (Open c age s)) γ steps (inl m) now = subst Keeps (sym m.1) (opens c age s steps (subst (λ γ. AllAgree (system_behind g d v p γ)) m.1 now))
    records-cuts (Some (Open c age s)) γ steps (inr m) now = subst Keeps (sym m.3) (opens-over c age s m.0 m.1 m.2 steps (subst (λ γ. AllAgree (system_behind g d v p γ)) m.3 now))
    records-cuts (Some (End c s)) γ steps m now = subst Keeps (sym m.4) (end-keeps g all cuts d v p c m.0 m.1 m.2 s steps)
    records-cuts (Some (Ids c s got first)) γ steps e now = subst Keeps (sym e) (ids-keep g all cuts d v p c s got first steps)
    records-cuts (Some (Epoch n)) γ steps e now = subst Keeps (sym e) (quiet-keeps (λ c. ap (λ x. slot x c) (epoch-own n g.durable d steps)))

  -- Counts: none of these lines begins a start.

  durable-starts : (f c : ℕ) (ns : List ℕ) (ss : List Shown) → (watch f (ss ++ show.Durable c ns ∷ [])).starts ≡ (watch f ss).starts
  durable-starts f c ns ss = ap (λ w. w.starts) (watch-step f ss (show.Durable c ns)) ∙ go (f == c)
    where
      go : (z : Bool) → (cond z (record (watch f ss) { undurable = filter (λ n. not (member n ns)) (watch f ss).undurable }) (watch f ss)).starts ≡ (watch f ss).starts
      go true = refl
      go false = refl

  end-starts : (f c : ℕ) (z : Bool) (ns : List ℕ) (ss : List Shown) → (watch f (ss ++ elim z as (λ y. Shown) [ true ↦ show.Ended c ns | false ↦ show.Unseen c ] ∷ [])).starts ≡ (watch f ss).starts
  end-starts f c true ns ss = ap (λ w. w.starts) (watch-step f ss (show.Ended c ns)) ∙ go (f == c)
    where
      go : (z : Bool) → (cond z (Rattle.ec_history.specs.Placing.ended (watch f ss) ns) (watch f ss)).starts ≡ (watch f ss).starts
      go true = ended-starts (watch f ss) ns
      go false = refl
  end-starts f c false ns ss = ap (λ w. w.starts) (watch-step f ss (show.Unseen c))

  shows-end : (f c : ℕ) (sl : Slot) → (watch f (show_end g c sl).shown).starts ≡ (watch f g.ghost.shown).starts
  shows-end f c sl = end-starts f c (is_some ((watch c g.ghost.shown).open_start) || runs g c (sl.age).boot) (watch c g.ghost.shown).undurable g.ghost.shown

  starts-same : (r : Option Record) (γ : Ghost) → RecordMakes g r γ → (f : ℕ) → (watch f γ.shown).starts ≡ (watch f g.ghost.shown).starts
  starts-same None γ e f = ap (λ y. (watch f y.shown).starts) e
  starts-same (Some (Batch c s b ops)) γ m f = ap (λ y. (watch f y.shown).starts) m.4 ∙ durable-starts f c (keys ops) g.ghost.shown
  starts-same (Some (Open c age s)) γ (inl m) f = ap (λ y. (watch f y.shown).starts) m.1
  starts-same (Some (Open c age s)) γ (inr m) f = ap (λ y. (watch f y.shown).starts) m.3 ∙ shows-end f c m.0
  starts-same (Some (End c s)) γ m f = ap (λ y. (watch f y.shown).starts) m.4 ∙ shows-end f c m.0
  starts-same (Some (Ids c s got first)) γ e f = ap (λ y. (watch f y.shown).starts) e
  starts-same (Some (Epoch n)) γ e f = ap (λ y. (watch f y.shown).starts) e

  pub records-counts : (r : Option Record) (γ : Ghost) → RecordMakes g r γ → CountsAgree g → CountsAgree (system_behind g d v p γ)
  records-counts r γ m a = record { counted = λ c q. starts-same r γ m c ∙ a.counted c q; above = a.above }
