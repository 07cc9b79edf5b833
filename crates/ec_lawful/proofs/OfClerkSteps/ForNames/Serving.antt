-- What is named stays so behind a server's steps.
use Rattle.std.proofs.Common.{◌≡◌, refl, sym, ap, subst, ◌∙◌, inl, inr, ◌⊎◌, arith, ◌≤◌, ◌+◌, ℕ, Bool, true, false, not, ◌&&◌, ◌==◌, List, [], ◌∷◌, ◌++◌}
use Rattle.std.specs.Prelude.{Option, None, Some, Result, Ok, Err, filter, nat_le, nat_lt, ⊤}
use Rattle.ec_base.specs.declared.ids.Age.{Age}
use Rattle.ec_volume.specs.Update.{operands}
use Rattle.ec_volume.specs.declared.update.Update.{Update}
use Rattle.ec_history.specs.History.{Each, Op}
use Rattle.ec_sessions.specs.Limits.{last_first_id, last_grants}
use Rattle.ec_sessions.specs.Slots as slots
use Rattle.ec_durable.specs.Durable.{batch_step, carried_out, has_batch, is_beyond, is_full, is_next_grant, is_next_session, is_session, live, low, marked, op_fault, operations, reserved, slot, step, with_slot}
use Rattle.ec_durable.specs.Durable as durable
use Rattle.ec_durable.specs.declared.state.Durable.{Durable}
use Rattle.ec_durable.specs.declared.record.Record.{Record}
use Rattle.ec_durable.specs.declared.record.Record.TheVariants.{Batch, End, Epoch, Ids, Open}
use Rattle.ec_durable.specs.declared.record.RecordFault.{RecordFault}
use Rattle.ec_durable.specs.declared.record.RecordFault.TheVariants as fault
use Rattle.ec_protocol.specs.Server.{Serving}
use Rattle.ec_protocol.specs.declared.clerk.Clerk.{Clerk}
use Rattle.ec_protocol.specs.declared.server.Server.{Server}
use Rattle.ec_wire.specs.declared.msg.Msg.{Msg}
use Rattle.ec_coherence.specs.System.{System, Ghost, clerk_in, clerk_of, if_in, is_of}
use Rattle.ec_coherence.specs.System as system
use Rattle.ec_coherence.specs.Sessions.{SessionsAgree}
use Rattle.ec_coherence.specs.Tokens.{Names, view}
use Rattle.ec_coherence.specs.Steps.{Committed, serving_in}
use Rattle.ec_coherence.proofs.ForBatches.Committed.{session-there, start-there}
use Rattle.ec_coherence.proofs.ForServer.Lists.{each-fewer}
use Rattle.ec_coherence.proofs.ForServer.Tables.{same_some}
use Rattle.ec_coherence.specs.CommitLaws.{AllAgree, StepStands}
use Rattle.ec_coherence.specs.Makes.{Makes}
use Rattle.ec_lawful.specs.OfClerkSteps.Names.{AreOnNamed, NamesAgree}
use Rattle.ec_lawful.specs.OfClerkSteps.Follows.{AreGiven, GhostsFollow}
use Rattle.ec_lawful.proofs.OfClerkSteps.ForNames.NameFrames.{names-follow}
use Rattle.ec_base.proofs.Bools.{left as and_first, right as and_next, is-true, holds-true as holds}
use Rattle.ec_base.proofs.Options.{none_some}
use Rattle.ec_base.proofs.Numbers.{equal}

-- The next id never falls, and ids are given from it on.

took : (d e : Durable) → ◌≡◌ {A = Result Durable RecordFault} (Ok d) (Ok e) → d ≡ e
took d e p = cc

operations-next : (c : ℕ) (ops : List (ℕ × Update)) (d e : Durable) → operations c ops d ≡ Ok e → e.next_id ≡ d.next_id
operations-next c [] d e p = ap (λ z. z.next_id) (sym (took d e p))
operations-next c (op ∷ ops) d e p = go (op_fault c op.0 op.1 d) p (λ q. operations-next c ops (carried_out c op.1 d) e q)
  where
    go : (o : Option RecordFault) → elim o as (λ z. Result Durable RecordFault) [ Some f ↦ Err f | None ↦ operations c ops (carried_out c op.1 d) ] ≡ Ok e → (operations c ops (carried_out c op.1 d) ≡ Ok e → e.next_id ≡ d.next_id) → e.next_id ≡ d.next_id
    go (Some f) q r = absurd (cc)
    go None q r = r q

batch-next : (c b : ℕ) (ops : List (ℕ × Update)) (d e : Durable) → batch_step c b ops d ≡ Ok e → e.next_id ≡ d.next_id
batch-next c b ops d e p = go (operations c ops d) refl p
  where
    go : (r : Result Durable RecordFault) → operations c ops d ≡ r → elim r as (λ z. Result Durable RecordFault) [ Err f ↦ Err f | Ok x ↦ Ok (marked c b x) ] ≡ Ok e → e.next_id ≡ d.next_id
    go (Err f) q s = absurd (cc)
    go (Ok x) q s = ap (λ z. z.next_id) (sym (took (marked c b x) e s)) ∙ operations-next c ops d x q

-- the first id that a record gives
abbrev Gives : Record → Durable → Type 0
Gives (Ids c s got first) d = first ≡ d.next_id
Gives _ d = ⊤

pub step-next : (r : Record) (d e : Durable) → step r d ≡ Ok e → (d.next_id ≤ e.next_id) × Gives r d
step-next (Batch c s b ops) d e p = (go (is_session s (slot d c)) (has_batch b (slot d c)) (is_beyond b (slot d c)) p, tt)
  where
    go : (x y z : Bool) → elim x as (λ o. Result Durable RecordFault) [
      | false ↦ Err fault.NoSession
      | true ↦ elim y as (λ o. Result Durable RecordFault) [ true ↦ Err (fault.Done b) | false ↦ elim z as (λ o. Result Durable RecordFault) [ true ↦ Err (fault.Beyond (low (slot d c))) | false ↦ batch_step c b ops d ] ]
    ] ≡ Ok e → d.next_id ≤ e.next_id
    go false y z q = absurd (cc)
    go true true z q = absurd (cc)
    go true false true q = absurd (cc)
    go true false false q = let a = batch-next c b ops d e q in omega arith
step-next (Open c age s) d e p = (go (slots.is_greater (slot d c) age) (is_next_session s d) p, tt)
  where
    go : (x y : Bool) → elim x as (λ o. Result Durable RecordFault) [
      | false ↦ Err fault.BadAge
      | true ↦ elim y as (λ o. Result Durable RecordFault) [ false ↦ Err fault.BadNumber | true ↦ Ok (with_slot c (Some (slots.new_slot age s)) (record d { next_session = s + 1 })) ]
    ] ≡ Ok e → d.next_id ≤ e.next_id
    go false y q = absurd (cc)
    go true false q = absurd (cc)
    go true true q = let a : d.next_id ≡ e.next_id = ap (λ z. z.next_id) (took (with_slot c (Some (slots.new_slot age s)) (record d { next_session = s + 1 })) e q) in omega arith
step-next (End c s) d e p = (go (is_session s (slot d c)) p, tt)
  where
    go : (x : Bool) → elim x as (λ o. Result Durable RecordFault) [ false ↦ Err fault.NoSession | true ↦ Ok (with_slot c (slots.ended (slot d c)) d) ] ≡ Ok e → d.next_id ≤ e.next_id
    go false q = absurd (cc)
    go true q = let a : d.next_id ≡ e.next_id = ap (λ z. z.next_id) (took (with_slot c (slots.ended (slot d c)) d) e q) in omega arith
step-next (Ids c s got first) d e p = go (is_session s (slot d c)) (is_next_grant c got first d) refl (is_full d) p
  where
    go : (x y : Bool) → is_next_grant c got first d ≡ y → (z : Bool) → elim x as (λ o. Result Durable RecordFault) [
      | false ↦ Err fault.NoSession
      | true ↦ elim y as (λ o. Result Durable RecordFault) [
        | false ↦ Err fault.BadNumber
        | true ↦ elim z as (λ o. Result Durable RecordFault) [ true ↦ Err (fault.NoRoom (live d) (reserved d)) | false ↦ Ok (with_slot c (slots.granted first (slot d c)) (record d { next_id = first + 16 })) ]
      ]
    ] ≡ Ok e → (d.next_id ≤ e.next_id) × (first ≡ d.next_id)
    go false y n z q = absurd (cc)
    go true false n z q = absurd (cc)
    go true true n true q = absurd (cc)
    go true true n false q =
        let f : first ≡ d.next_id = equal first d.next_id (is-true (first == d.next_id) (and_next ((got == durable.grants (slot d c)) && nat_lt got last_grants) (first == d.next_id) (and_first ((got == durable.grants (slot d c)) && nat_lt got last_grants && (first == d.next_id)) (nat_le first last_first_id) (holds (is_next_grant c got first d) n)))) in
        let a : first + 16 ≡ e.next_id = ap (λ z. z.next_id) (took (with_slot c (slots.granted first (slot d c)) (record d { next_id = first + 16 })) e q) in
        (omega arith, f)
step-next (Epoch x) d e p = (go (x == d.epoch + 1) p, tt)
  where
    go : (y : Bool) → elim y as (λ o. Result Durable RecordFault) [ false ↦ Err fault.BadNumber | true ↦ Ok (record d { epoch = x }) ] ≡ Ok e → d.next_id ≤ e.next_id
    go false q = absurd (cc)
    go true q = let a : d.next_id ≡ e.next_id = ap (λ z. z.next_id) (took (record d { epoch = x }) e q) in omega arith

-- A clerk in a session is in it, whoever is said to own it.

module _ (g : System) (sa : SessionsAgree g) where
  pub still-in : (o : Option (ℕ × Age)) (s : ℕ) (k : Clerk) → clerk_of s o g.clerks ≡ Some k → clerk_in g s ≡ Some k
  still-in None s k p = absurd (none_some p)
  still-in (Some o) s k p =
      let at-start : g.clerks o.0 (o.1).boot ≡ Some k = start-there s (Some o) o.0 o.1 g.clerks k refl p in
      let in-it : k.session ≡ Some s = session-there s (Some o) g.clerks k p in
      let owns : g.ghost.owner s ≡ Some (o.0, k.age) = (sa.in_session o.0 (o.1).boot s k at-start in-it).0 in
      let boots : k.age.boot ≡ (o.1).boot = (sa.starts o.0 (o.1).boot k at-start).1 in
      ap (λ z. clerk_of s z g.clerks) owns ∙ ap (λ z. if_in s (g.clerks o.0 z)) boots ∙ p

  -- behind any change of the durable state, of messages and ghosts that follows
  pub states-keep : NamesAgree g → (d : Durable) (v : Option Server) (p : List (ℕ × Msg)) (γ : Ghost) → g.durable.next_id ≤ d.next_id → GhostsFollow g γ → NamesAgree (record g { durable = d; server = v; pool = p; ghost = γ })
  states-keep na d v p γ next ghosts = names-follow g (record g { durable = d; server = v; pool = p; ghost = γ }) na (record { origin = refl; next = next; ghosts = ghosts; clerks = λ s k q. inl (k, still-in (γ.owner s) s k q, refl, λ i. i) })

-- Each step of a server.

module _ (g : System) (v : Server) (f : Serving) (γ : Ghost) (all : AllAgree g) (up : g.server ≡ Some v) (st : StepStands g f γ) (na : NamesAgree g) where
  abbrev behind : Type 0
  behind = NamesAgree (serving_in f γ g)

  keeps : g.durable.next_id ≤ f.server.durable.next_id → GhostsFollow g γ → behind
  keeps next ghosts = states-keep g (all.0).sessions na f.server.durable (Some f.server) (g.pool ++ f.sent) γ next ghosts

  -- where the ghosts are those, or these with a session's end
  stays : (δ : Ghost) → ((s : ℕ) → AreGiven g δ s) → δ.kept ≡ g.ghost.kept → δ.frozen ≡ g.ghost.frozen → GhostsFollow g δ
  stays δ given kept frozen = record { kept = subst (AreOnNamed g) (sym kept) na.kept; frozen = λ s ks p. na.frozen s ks (ap (λ z. z s) (sym frozen) ∙ p); given = given }

  ended : (δ : Ghost) (r : ℕ) → ((s : ℕ) → AreGiven g δ s) → (p : Op → Bool) → δ.kept ≡ filter p g.ghost.kept → δ.frozen ≡ system.at_session r (Some g.ghost.kept) g.ghost.frozen → GhostsFollow g δ
  ended δ r given q kept frozen = record {
    kept = subst (AreOnNamed g) (sym kept) (each-fewer (λ o. Each (Names (view g)) (operands o.update)) q g.ghost.kept na.kept);
    frozen = λ s ks e. go s ks (s == r) (ap (λ z. z s) (sym frozen) ∙ e);
    given = given;
  }
    where
      go : (s : ℕ) (ks : List Op) (z : Bool) → elim z as (λ y. Option (List Op)) [ true ↦ Some g.ghost.kept | false ↦ g.ghost.frozen s ] ≡ Some ks → AreOnNamed g ks
      go s ks true e = subst (AreOnNamed g) (same_some e) na.kept
      go s ks false e = na.frozen s ks e

  same-given : (s : ℕ) → AreGiven g g.ghost s
  same-given s = inl (refl, refl)

  -- the records
  by-record : (r : Option Record) → Committed g.durable r f.server.durable → Makes g v r γ → behind
  by-record None c m = keeps (let a : f.server.durable.next_id ≡ g.durable.next_id = ap (λ z. z.next_id) c in omega arith) (subst (GhostsFollow g) (sym m) (stays g.ghost same-given refl refl))
  by-record (Some (Batch c s b ops)) q m = keeps (step-next (Batch c s b ops) g.durable f.server.durable q).0 (subst (GhostsFollow g) (sym m.4) (stays _ same-given refl refl))
  by-record (Some (End c s)) q m = keeps (step-next (End c s) g.durable f.server.durable q).0 (subst (GhostsFollow g) (sym m.4) (ended _ (m.0).session same-given (λ k. not (is_of (g.ghost.owner (m.0).session) k && not (g.ghost.is_durable k))) refl refl))
  by-record (Some (Open c age s)) q m = keeps (step-next (Open c age s) g.durable f.server.durable q).0 (elim m [
    | inl x ↦ subst (GhostsFollow g) (sym x.1) (stays _ same-given refl refl)
    | inr x ↦ subst (GhostsFollow g) (sym x.3) (ended _ (x.0).session same-given (λ k. not (is_of (g.ghost.owner (x.0).session) k && not (g.ghost.is_durable k))) refl refl)
  ])
  by-record (Some (Ids c s got first)) q m =
      let n = step-next (Ids c s got first) g.durable f.server.durable q in
      keeps n.0 (subst (GhostsFollow g) (sym m) (stays _ (λ t. given t (t == s) refl n.1) refl refl))
    where
      given : (t : ℕ) (z : Bool) → (t == s) ≡ z → first ≡ g.durable.next_id
          → ((elim z as (λ y. ℕ) [ true ↦ g.ghost.grants s + 1 | false ↦ g.ghost.grants t ] ≡ g.ghost.grants t) × (elim z as (λ y. ℕ) [ true ↦ first | false ↦ g.ghost.first t ] ≡ g.ghost.first t)) ⊎ (g.durable.next_id ≤ elim z as (λ y. ℕ) [ true ↦ first | false ↦ g.ghost.first t ])
      given t true e p = inr (omega arith)
      given t false e p = inl (refl, refl)
  by-record (Some (Epoch e)) q m = absurd m

  pub servers-keep : Makes g v f.rec γ → behind
  servers-keep m = by-record f.rec (st.0).committed m
