-- What a server's step makes of the ghosts moves them, and ids in store stay apart.
use Rattle.std.proofs.Common.{◌≡◌, refl, sym, ap, subst, ◌∙◌, inl, inr, ◌⊎◌, arith, ◌≤◌, ◌+◌, ℕ, Bool, true, false, not, ◌&&◌, ◌==◌, T, ◌++◌}
use Rattle.std.specs.Prelude.{Option, None, Some, filter}
use Rattle.ec_history.specs.History.{Op}
use Rattle.ec_sessions.specs.declared.slot.Slot.{Slot}
use Rattle.ec_durable.specs.Durable.{slot}
use Rattle.ec_durable.specs.declared.record.Record.{Record}
use Rattle.ec_durable.specs.declared.record.Record.TheVariants.{Batch, End, Epoch, Ids, Open}
use Rattle.ec_protocol.specs.Server.{Serving}
use Rattle.ec_protocol.specs.declared.server.Server.{Server}
use Rattle.ec_coherence.specs.System.{System, Ghost, at_session, is_of}
use Rattle.ec_coherence.specs.Steps.{Committed, give_ids, serving_in}
use Rattle.ec_coherence.specs.Stops.{RunsOn}
use Rattle.ec_coherence.proofs.ForBatches.OpenSlots.{at-open}
use Rattle.ec_coherence.specs.CommitLaws.{AllAgree, StepStands}
use Rattle.ec_coherence.specs.Makes.{Makes}
use Rattle.ec_lawful.specs.OfClerkSteps.Names.{NamesAgree}
use Rattle.ec_lawful.specs.OfClerkSteps.Follows.{AreGiven}
use Rattle.ec_lawful.specs.OfClerkSteps.Moves.{GhostsMove}
use Rattle.ec_lawful.specs.OfClerkSteps.Frees.{FreesAgree}
use Rattle.ec_lawful.proofs.OfClerkSteps.ForNames.Serving.{step-next}
use Rattle.ec_lawful.proofs.OfClerkSteps.ForNames.Storing.{states-keep-frees}

module _ (g : System) (all : AllAgree g) where
  same-given : (s : ℕ) → AreGiven g g.ghost s
  same-given s = inl (refl, refl)

  -- an open session isn't frozen
  unfrozen : (c : ℕ) (sl : Slot) → slot g.durable c ≡ Some sl → T sl.is_open → g.ghost.frozen sl.session ≡ None
  unfrozen c sl p o = (all.0).images.unfrozen sl.session (at-open sl.session g.durable.sessions c sl (p, refl, o))

  -- nothing of the operations
  pub rests : (γ : Ghost) → ((s : ℕ) → AreGiven g γ s) → γ.kept ≡ g.ghost.kept → γ.frozen ≡ g.ghost.frozen → GhostsMove g γ
  rests γ given kept frozen = record { given = given; ops = inl (kept, frozen) }

  -- or a session's end
  pub ends : (γ : Ghost) (c : ℕ) (sl : Slot) → slot g.durable c ≡ Some sl → T sl.is_open → ((s : ℕ) → AreGiven g γ s) → (stays : Op → Bool) → γ.kept ≡ filter stays g.ghost.kept
      → γ.frozen ≡ at_session sl.session (Some g.ghost.kept) g.ghost.frozen → GhostsMove g γ
  ends γ c sl p o given stays kept frozen = record { given = given; ops = inr (record { session = sl.session; unfrozen = unfrozen c sl p o; stays = stays; kept = kept; frozen = frozen }) }

  pub gives : (s first : ℕ) (t : ℕ) → g.durable.next_id ≤ first → AreGiven g (give_ids s first g.ghost) t
  gives s first t l = go (t == s)
    where
      go : (z : Bool) → ((elim z as (λ y. ℕ) [ true ↦ g.ghost.grants s + 1 | false ↦ g.ghost.grants t ] ≡ g.ghost.grants t) × (elim z as (λ y. ℕ) [ true ↦ first | false ↦ g.ghost.first t ] ≡ g.ghost.first t)) ⊎ (g.durable.next_id ≤ elim z as (λ y. ℕ) [ true ↦ first | false ↦ g.ghost.first t ])
      go true = inr l
      go false = inl (refl, refl)

  abbrev lost : ℕ → Op → Bool
  lost s k = not (is_of (g.ghost.owner s) k && not (g.ghost.is_durable k))

module _ (g : System) (v : Server) (f : Serving) (γ : Ghost) (all : AllAgree g) (up : g.server ≡ Some v) (st : StepStands g f γ) where
  same-state : v.durable ≡ g.durable
  same-state = (subst (RunsOn g) up (all.0).stops.runs).0

  at-slot : (c : ℕ) (sl : Slot) → slot v.durable c ≡ Some sl → slot g.durable c ≡ Some sl
  at-slot c sl p = ap (λ d. slot d c) (sym same-state) ∙ p

  by-record : (r : Option Record) → Committed g.durable r f.server.durable → Makes g v r γ → (g.durable.next_id ≤ f.server.durable.next_id) × GhostsMove g γ
  by-record None c m = ((let a : f.server.durable.next_id ≡ g.durable.next_id = ap (λ z. z.next_id) c in omega arith), subst (GhostsMove g) (sym m) (rests g all g.ghost (same-given g all) refl refl))
  by-record (Some (Batch c s b ops)) q m = ((step-next (Batch c s b ops) g.durable f.server.durable q).0, subst (GhostsMove g) (sym m.4) (rests g all _ (same-given g all) refl refl))
  by-record (Some (End c s)) q m = ((step-next (End c s) g.durable f.server.durable q).0, subst (GhostsMove g) (sym m.4) (ends g all _ c m.0 (at-slot c m.0 m.1) m.2 (same-given g all) (lost g all (m.0).session) refl refl))
  by-record (Some (Open c age s)) q m = (
    (step-next (Open c age s) g.durable f.server.durable q).0,
    elim m [
      | inl x ↦ subst (GhostsMove g) (sym x.1) (rests g all _ (same-given g all) refl refl)
      | inr x ↦ subst (GhostsMove g) (sym x.3) (ends g all _ c x.0 (at-slot c x.0 x.1) x.2 (same-given g all) (lost g all (x.0).session) refl refl)
    ],
  )
  by-record (Some (Ids c s got first)) q m =
      let n = step-next (Ids c s got first) g.durable f.server.durable q in
      (n.0, subst (GhostsMove g) (sym m) (rests g all _ (λ t. gives g all s first t (let a : first ≡ g.durable.next_id = n.1 in omega arith)) refl refl))
  by-record (Some (Epoch e)) q m = absurd m

  pub servers-keep-frees : Makes g v f.rec γ → NamesAgree g → FreesAgree g → FreesAgree (serving_in f γ g)
  servers-keep-frees m na fa = let z = by-record f.rec (st.0).committed m in states-keep-frees g (all.0).images na fa (all.0).sessions f.server.durable (Some f.server) (g.pool ++ f.sent) γ z.1
