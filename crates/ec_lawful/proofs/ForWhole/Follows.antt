-- What a record makes of the ghosts follows what the facts on ids read.
use Rattle.std.proofs.Common.{◌≡◌, refl, sym, ap, subst, ◌∙◌, inl, inr, ◌⊎◌, arith, ◌≤◌, ◌+◌, ℕ, T, Bool, true, false, not, ◌==◌, ◌&&◌, List, Option, Some, None}
use Rattle.std.specs.List.{filter}
use Rattle.ec_history.specs.History.{Each, Op}
use Rattle.ec_sessions.specs.declared.slot.Slot.{Slot}
use Rattle.ec_durable.specs.Durable.{slot}
use Rattle.ec_durable.specs.declared.state.Durable.{Durable}
use Rattle.ec_durable.specs.declared.record.Record.{Record}
use Rattle.ec_durable.specs.declared.record.Record.TheVariants.{Batch, Open, End, Ids, Epoch}
use Rattle.ec_coherence.specs.System.{System, Ghost, at_session, is_of}
use Rattle.ec_coherence.specs.Steps.{Committed}
use Rattle.ec_coherence.proofs.ForServer.Lists.{each-fewer}
use Rattle.ec_coherence.proofs.ForServer.Tables.{same_some}
use Rattle.ec_coherence.proofs.ForBatches.OpenSlots.{at-open}
use Rattle.ec_coherence.specs.CommitLaws.{AllAgree}
use Rattle.ec_lawful.specs.OfClerkSteps.Frames.{RecordMakes}
use Rattle.ec_lawful.proofs.OfClerkSteps.ForNames.Serving.{step-next}
use Rattle.ec_base.proofs.Options.{none_some}
use Rattle.ec_base.proofs.Numbers.{equal}

-- Of the ghosts: ids that were given since come at or above the next one; what is kept was kept, and what is frozen was frozen or kept.
pub record Moves (g : System) (γ : Ghost) : Type 0 where
  pub given : (s : ℕ) → ((γ.grants s ≡ g.ghost.grants s) × (γ.first s ≡ g.ghost.first s)) ⊎ (γ.first s ≡ g.durable.next_id)
  pub kept : (γ.kept ≡ g.ghost.kept) ⊎ ((p : Op → Bool) × (γ.kept ≡ filter p g.ghost.kept))
  pub frozen : (s : ℕ) (ks : List Op) → γ.frozen s ≡ Some ks → (g.ghost.frozen s ≡ Some ks) ⊎ ((ks ≡ g.ghost.kept) × (g.ghost.frozen s ≡ None))
  pub unfrozen : (s : ℕ) → γ.frozen s ≡ None → g.ghost.frozen s ≡ None
  pub fresh : γ.fresh ≡ g.ghost.fresh

-- what holds of each kept operation still does
pub kept-each : (g : System) (γ : Ghost) → Moves g γ → (P : Op → Type 0) → Each P g.ghost.kept → Each P γ.kept
kept-each g γ m P e = elim m.kept [ inl q ↦ subst (Each P) (sym q) e | inr q ↦ subst (Each P) (sym q.1) (each-fewer P q.0 g.ghost.kept e) ]

module _ (g : System) (all : AllAgree g) where
  -- the session that is open in a slot isn't frozen
  open-slot : (c : ℕ) (sl : Slot) → slot g.durable c ≡ Some sl → T sl.is_open → g.ghost.frozen sl.session ≡ None
  open-slot c sl q o = (all.0).images.unfrozen sl.session (at-open sl.session g.durable.sessions c sl (q, refl, o))

  still : Moves g g.ghost
  still = record { given = λ s. inl (refl, refl); kept = inl refl; frozen = λ s ks q. inl q; unfrozen = λ s q. q; fresh = refl }

  -- where these ghosts are the same
  as-was : (γ : Ghost) → γ.grants ≡ g.ghost.grants → γ.first ≡ g.ghost.first → γ.kept ≡ g.ghost.kept → γ.frozen ≡ g.ghost.frozen → γ.fresh ≡ g.ghost.fresh → Moves g γ
  as-was γ grants first kept frozen fresh = record {
    given = λ s. inl (ap (λ f. f s) grants, ap (λ f. f s) first);
    kept = inl kept;
    frozen = λ s ks q. inl (sym (ap (λ f. f s) frozen) ∙ q);
    unfrozen = λ s q. sym (ap (λ f. f s) frozen) ∙ q;
    fresh = fresh;
  }

  -- a session ended
  with-end : (γ : Ghost) (r : ℕ) (p : Op → Bool) → g.ghost.frozen r ≡ None → γ.grants ≡ g.ghost.grants → γ.first ≡ g.ghost.first → γ.kept ≡ filter p g.ghost.kept → γ.frozen ≡ at_session r (Some g.ghost.kept) g.ghost.frozen → γ.fresh ≡ g.ghost.fresh → Moves g γ
  with-end γ r p opened grants first kept frozen fresh = record {
    given = λ s. inl (ap (λ f. f s) grants, ap (λ f. f s) first);
    kept = inr (p, kept);
    frozen = λ s ks q. go s ks (s == r) refl (sym (ap (λ f. f s) frozen) ∙ q);
    unfrozen = λ s q. back s (s == r) (sym (ap (λ f. f s) frozen) ∙ q);
    fresh = fresh;
  }
    where
      go : (s : ℕ) (ks : List Op) (b : Bool) → (s == r) ≡ b → elim b as (λ z. Option (List Op)) [ true ↦ Some g.ghost.kept | false ↦ g.ghost.frozen s ] ≡ Some ks → (g.ghost.frozen s ≡ Some ks) ⊎ ((ks ≡ g.ghost.kept) × (g.ghost.frozen s ≡ None))
      go s ks true e q = inr (sym (same_some q), ap g.ghost.frozen (equal s r e) ∙ opened)
      go s ks false e q = inl q

      back : (s : ℕ) (b : Bool) → elim b as (λ z. Option (List Op)) [ true ↦ Some g.ghost.kept | false ↦ g.ghost.frozen s ] ≡ None → g.ghost.frozen s ≡ None
      back s true q = absurd (none_some (sym q))
      back s false q = q

  -- ids were given
  with-ids : (s first : ℕ) → first ≡ g.durable.next_id → Moves g (record (g.ghost) { grants = at_session s (g.ghost.grants s + 1) g.ghost.grants; first = at_session s first g.ghost.first })
  with-ids s first q = record { given = λ t. go t (t == s); kept = inl refl; frozen = λ t ks e. inl e; unfrozen = λ t q. q; fresh = refl }
    where
      go : (t : ℕ) (b : Bool) → ((elim b as (λ z. ℕ) [ true ↦ g.ghost.grants s + 1 | false ↦ g.ghost.grants t ] ≡ g.ghost.grants t) × (elim b as (λ z. ℕ) [ true ↦ first | false ↦ g.ghost.first t ] ≡ g.ghost.first t))
          ⊎ (elim b as (λ z. ℕ) [ true ↦ first | false ↦ g.ghost.first t ] ≡ g.durable.next_id)
      go t true = inr q
      go t false = inl (refl, refl)

  pub record-moves : (r : Option Record) (d : Durable) (γ : Ghost) → Committed g.durable r d → RecordMakes g r γ → Moves g γ
  record-moves None d γ c m = subst (Moves g) (sym m) still
  record-moves (Some (Batch c s b ops)) d γ q m = subst (Moves g) (sym m.4) (as-was _ refl refl refl refl refl)
  record-moves (Some (End c s)) d γ q m = subst (Moves g) (sym m.4) (with-end _ (m.0).session (λ k. not (is_of (g.ghost.owner (m.0).session) k && not (g.ghost.is_durable k))) (open-slot c m.0 m.1 m.2) refl refl refl refl refl)
  record-moves (Some (Open c age s)) d γ q (inl m) = subst (Moves g) (sym m.1) (as-was _ refl refl refl refl refl)
  record-moves (Some (Open c age s)) d γ q (inr m) = subst (Moves g) (sym m.3) (with-end _ (m.0).session (λ k. not (is_of (g.ghost.owner (m.0).session) k && not (g.ghost.is_durable k))) (open-slot c m.0 m.1 m.2) refl refl refl refl refl)
  record-moves (Some (Ids c s got first)) d γ q m = subst (Moves g) (sym m) (with-ids s first (step-next (Ids c s got first) g.durable d q).1)
  record-moves (Some (Epoch e)) d γ q m = subst (Moves g) (sym m) still

  pub next-grows : (r : Option Record) (d : Durable) → Committed g.durable r d → g.durable.next_id ≤ d.next_id
  next-grows None d q = subst (λ x. g.durable.next_id ≤ x.next_id) (sym q) (omega arith)
  next-grows (Some r) d q = (step-next r g.durable d q).0
