-- What a restart makes of the record in doubt that it finds, by its kind.
use Rattle.std.proofs.Common.{inl, inr, ◌≡◌, refl, sym, ap, subst, ◌∙◌, arith, ℕ, zero, suc, Bool, true, false, not, ◌==◌, ◌&&◌, ◌+◌, ◌<◌, ◌≤◌, cond, T, List, [], ◌∷◌, ◌++◌, Option, Some, None, append-nil}
use Rattle.std.specs.Prelude.{Contains, is_some, nat_le, nat_lt, Result, Ok, Err}
use Rattle.ec_base.specs.Ages.{is_older}
use Rattle.ec_base.specs.Limits.{last_counter}
use Rattle.ec_base.specs.Tables.{at, keys}
use Rattle.ec_base.specs.declared.ids.Age.{Age}
use Rattle.ec_volume.specs.declared.update.Update.{Update}
use Rattle.ec_history.specs.declared.shown.Shown.{Shown}
use Rattle.ec_sessions.specs.Limits.{last_first_id, last_grants}
use Rattle.ec_sessions.specs.Slots as slots
use Rattle.ec_sessions.specs.Slots.{Slots, is_greater, new_slot}
use Rattle.ec_sessions.specs.Windows.{has}
use Rattle.ec_sessions.specs.declared.slot.Slot.{Slot}
use Rattle.ec_wire.specs.declared.msg.Msg.TheVariants.{Flush, Hello, Room}
use Rattle.ec_durable.specs.Durable.{batch_step, grants, has_batch, is_beyond, is_full, is_next_grant, is_next_session, is_session, live, low, reserved, slot, step, with_slot}
use Rattle.ec_durable.specs.declared.state.Durable.{Durable}
use Rattle.ec_durable.specs.declared.record.Record.{Record}
use Rattle.ec_durable.specs.declared.record.Record.TheVariants as record_of
use Rattle.ec_durable.specs.declared.record.RecordFault.{RecordFault}
use Rattle.ec_durable.specs.declared.record.RecordFault.TheVariants as fault
use Rattle.ec_log.specs.Log.{batch}
use Rattle.ec_protocol.specs.World.{session_boot, stepped}
use Rattle.ec_protocol.specs.declared.clerk.Clerk.{Clerk}
use Rattle.ec_coherence.specs.System.{System, Ghost, clerk_in}
use Rattle.ec_coherence.specs.Sessions as sessions
use Rattle.ec_coherence.specs.Tokens as tokens
use Rattle.ec_coherence.specs.Tokens.{side, side_in, view}
use Rattle.ec_coherence.specs.Log as log
use Rattle.ec_coherence.specs.Steps.{end_lines, ended_line, give_ids, open_session, record_lines}
use Rattle.ec_coherence.specs.Stops.{MayStep}
use Rattle.ec_coherence.proofs.ForCommits.Needs.{each-of}
use Rattle.ec_coherence.proofs.ForBatches.OpenSlots.{at-open}
use Rattle.ec_coherence.proofs.ForServer.SlotLaws.{in-range, slot-changed}
use Rattle.ec_coherence.proofs.ForServer.Tables.{fails, same_some}
use Rattle.ec_coherence.specs.CommitLaws.{AllAgree, show_batch}
use Rattle.ec_coherence.specs.Starts.{Greets}
use Rattle.ec_coherence.specs.Ends.{show_end}
use Rattle.ec_lawful.specs.Doubts.{ComesFrom, ComesFromAny, DoubtAgrees}
use Rattle.ec_lawful.specs.Founds.{Makes, bare, end_slot, found_ghost, with_found}
use Rattle.ec_lawful.proofs.ForWhole.Batching as batching
use Rattle.ec_lawful.proofs.ForWhole.Endings as ending
use Rattle.ec_lawful.proofs.ForWhole.Entering as entering
use Rattle.ec_lawful.proofs.ForWhole.Giving as giving
use Rattle.ec_lawful.proofs.ForWhole.Ups.{bare-all}
use Rattle.ec_base.proofs.Bools.{left as and_first, right as and_next, is-true, holds-true as holds}
use Rattle.ec_base.proofs.Numbers.{same-self as same, equal}
use Rattle.ec_base.proofs.Options.{none_some, some-at}

-- Results.

pub same-ok : {x y : Durable} → ◌≡◌ {A = Result Durable RecordFault} (Ok x) (Ok y) → x ≡ y
same-ok {x} {y} e = ap (λ r. elim r [ Ok z ↦ z | Err f ↦ x ]) e

pub not-ok : {A : Type 0} {x : Durable} {f : RecordFault} → ◌≡◌ {A = Result Durable RecordFault} (Err f) (Ok x) → A
not-ok e = absurd (cc)

-- What a record that steps says of the state.

-- the slot in which a session is open
its-slot : (s : ℕ) (o : Option Slot) → is_session s o ≡ true → (sl : Slot) × (o ≡ Some sl) × T sl.is_open × (sl.session ≡ s)
its-slot s None e = absurd (cc)
its-slot s (Some sl) e = (sl, refl, and_first sl.is_open (sl.session == s) (holds (is_session s (Some sl)) e), equal sl.session s (is-true (sl.session == s) (and_next sl.is_open (sl.session == s) (holds (is_session s (Some sl)) e))))

module _ (d now : Durable) where
  pub ends-of : (c s : ℕ) → step (record_of.End c s) d ≡ Ok now → (is_session s (slot d c) ≡ true) × (now ≡ with_slot c (slots.ended (slot d c)) d)
  ends-of c s e = go (is_session s (slot d c)) e
    where
      go : (b : Bool) → (elim b as (λ z. Result Durable RecordFault) [ false ↦ Err fault.NoSession | true ↦ Ok (with_slot c (slots.ended (slot d c)) d) ]) ≡ Ok now → (b ≡ true) × (now ≡ with_slot c (slots.ended (slot d c)) d)
      go true q = (refl, sym (same-ok q))
      go false q = not-ok q

  pub opens-of : (c s : ℕ) (age : Age) → step (record_of.Open c age s) d ≡ Ok now
      → (is_greater (slot d c) age ≡ true) × (is_next_session s d ≡ true) × (now ≡ with_slot c (Some (new_slot age s)) (record d { next_session = s + 1 }))
  opens-of c s age e = go (is_greater (slot d c) age) (is_next_session s d) e
    where
      go : (a b : Bool) → (elim a as (λ z. Result Durable RecordFault) [ false ↦ Err fault.BadAge | true ↦ elim b as (λ z. Result Durable RecordFault) [ false ↦ Err fault.BadNumber | true ↦ Ok (with_slot c (Some (new_slot age s)) (record d { next_session = s + 1 })) ] ]) ≡ Ok now
          → (a ≡ true) × (b ≡ true) × (now ≡ with_slot c (Some (new_slot age s)) (record d { next_session = s + 1 }))
      go true true q = (refl, refl, sym (same-ok q))
      go true false q = not-ok q
      go false b q = not-ok q

  pub gives-of : (c s got first : ℕ) → step (record_of.Ids c s got first) d ≡ Ok now
      → (is_session s (slot d c) ≡ true) × (is_next_grant c got first d ≡ true) × (now ≡ with_slot c (slots.granted first (slot d c)) (record d { next_id = first + 16 }))
  gives-of c s got first e = go (is_session s (slot d c)) (is_next_grant c got first d) (is_full d) e
    where
      go : (a b f : Bool) → (elim a as (λ z. Result Durable RecordFault) [
        | false ↦ Err fault.NoSession
        | true ↦ elim b as (λ z. Result Durable RecordFault) [
          | false ↦ Err fault.BadNumber
          | true ↦ elim f as (λ z. Result Durable RecordFault) [ true ↦ Err (fault.NoRoom (live d) (reserved d)) | false ↦ Ok (with_slot c (slots.granted first (slot d c)) (record d { next_id = first + 16 })) ]
        ]
      ]) ≡ Ok now → (a ≡ true) × (b ≡ true) × (now ≡ with_slot c (slots.granted first (slot d c)) (record d { next_id = first + 16 }))
      go true true true q = not-ok q
      go true true false q = (refl, refl, sym (same-ok q))
      go true false f q = not-ok q
      go false b f q = not-ok q

  batches-of : (c s b : ℕ) (ops : List (ℕ × Update)) → step (record_of.Batch c s b ops) d ≡ Ok now → (is_session s (slot d c) ≡ true) × (has_batch b (slot d c) ≡ false)
  batches-of c s b ops e = go (is_session s (slot d c)) (has_batch b (slot d c)) (is_beyond b (slot d c)) e
    where
      go : (x y z : Bool) → (elim x as (λ z. Result Durable RecordFault) [
        | false ↦ Err fault.NoSession
        | true ↦ elim y as (λ z. Result Durable RecordFault) [
          | true ↦ Err (fault.Done b)
          | false ↦ elim z as (λ z. Result Durable RecordFault) [ true ↦ Err (fault.Beyond (low (slot d c))) | false ↦ batch_step c b ops d ]
        ]
      ]) ≡ Ok now → (x ≡ true) × (y ≡ false)
      go false y z q = not-ok q
      go true true z q = not-ok q
      go true false z q = (refl, refl)

twice : (l : Slots) (c : ℕ) (a b : Option Slot) → slots.with_slot c b (slots.with_slot c a l) ≡ slots.with_slot c b l
twice [] c a b = refl
twice (o ∷ l) zero a b = refl
twice (o ∷ l) (suc c) a b = ap (λ l. o ∷ l) (twice l c a b)

-- The kinds, on a stopped system.

some-clerk : (o : Option Clerk) → T (is_some (side_in o)) → (k : Clerk) × (o ≡ Some k)
some-clerk None t = absurd t
some-clerk (Some k) t = (k, refl)

module _ (g : System) (all : AllAgree (bare g)) where
  -- the state and the ghosts are those that the record makes
  abbrev at_found : Durable → Ghost → System
  at_found d γ = record (bare g) { durable = d; ghost = γ }

  end-ghost : (c : ℕ) (sl : Slot) → slot g.durable c ≡ Some sl → T sl.is_open → end_slot (bare g) c (slot g.durable c) ≡ show_end (bare g) c sl
  end-ghost c sl p o = ap (end_slot (bare g) c) p ∙ ap (λ b. elim b as (λ z. Ghost) [ true ↦ show_end (bare g) c sl | false ↦ g.ghost ]) (is-true sl.is_open o)

  end-slots : (c : ℕ) (sl : Slot) → slot g.durable c ≡ Some sl → T sl.is_open → with_slot c (slots.ended (slot g.durable c)) g.durable ≡ with_slot c (Some (record sl { is_open = false; unspent = [] })) g.durable
  end-slots c sl p o = ap (λ z. with_slot c (slots.ended z) g.durable) p ∙ ap (λ b. with_slot c (Some (cond b (record sl { is_open = false; unspent = [] }) sl)) g.durable) (is-true sl.is_open o)

  -- an end
  ended-found : (c s : ℕ) (now : Durable) → step (record_of.End c s) g.durable ≡ Ok now → AllAgree (at_found now (end_slot (bare g) c (slot g.durable c)))
  ended-found c s now e =
      let q = ends-of g.durable now c s e in
      let z = its-slot s (slot g.durable c) q.0 in
      subst (λ γ. AllAgree (at_found now γ)) (sym (end-ghost c z.0 z.1 z.2)) (subst (λ d. AllAgree (at_found d (show_end (bare g) c z.0))) (sym (q.1 ∙ end-slots c z.0 z.1 z.2)) (ending.ended-all g all c z.0 z.1 z.2))

  -- a new session
  module _ (c : ℕ) (age : Age) (sent : Contains g.pool (c, Hello c age)) where
    greeting : sessions.Fits (bare g) c (Hello c age)
    greeting = each-of (λ z. sessions.Fits (bare g) z.0 z.1) g.pool (c, Hello c age) (all.0).sessions.messages sent

    above : g.first_boot c < age.boot
    above = each-of (λ z. Greets (bare g) z.0 z.1) g.pool (c, Hello c age) (all.3).greets sent

    not-last : (a s : ℕ) → s ≡ a → nat_lt s last_counter ≡ true → nat_le last_counter a ≡ false
    not-last a s e l = not-le a last_counter (subst (λ z. nat_lt z last_counter ≡ true) e l)
      where
        not-le : (a b : ℕ) → nat_lt a b ≡ true → nat_le b a ≡ false
        not-le a b l = grind arith

    abbrev opened_state : ℕ → Durable
    opened_state s = with_slot c (Some (new_slot age s)) (record (g.durable) { next_session = s + 1 })

    by-slot : (s : ℕ) → s ≡ g.durable.next_session → nat_lt s last_counter ≡ true → (o : Option Slot) → slot g.durable c ≡ o → is_greater o age ≡ true → AllAgree (at_found (opened_state g.durable.next_session) (open_session c age g.durable.next_session (end_slot (bare g) c o)))
    by-slot s e l None p m = entering.entered-all g all c age greeting.1 (λ sl q. absurd (none_some (sym p ∙ q))) (λ sl q. absurd (none_some (sym p ∙ q))) greeting.2 above (not-last g.durable.next_session s e l)
    by-slot s e l (Some sl) p m = go sl.is_open refl
      where
        older : (so : Slot) → slot g.durable c ≡ Some so → T (is_older so.age age)
        older so q = subst (λ z. T (is_older z.age age)) (same_some (sym p ∙ q)) (holds (is_older sl.age age) m)

        go : (b : Bool) → sl.is_open ≡ b → AllAgree (at_found (opened_state g.durable.next_session) (open_session c age g.durable.next_session (elim b as (λ z. Ghost) [ true ↦ show_end (bare g) c sl | false ↦ g.ghost ])))
        go false q = entering.entered-all g all c age greeting.1 (λ so r. subst (λ z. T (not z.is_open)) (same_some (sym p ∙ r)) (fails sl.is_open q)) older greeting.2 above (not-last g.durable.next_session s e l)
        go true q =
            let o = holds sl.is_open q in
            let was = slot-there in
            subst (λ x. AllAgree (at_found (record (g.durable) { next_session = g.durable.next_session + 1; sessions = x }) (open_session c age g.durable.next_session (show_end (bare g) c sl))))
            (twice g.durable.sessions c (Some (record sl { is_open = false; unspent = [] })) (Some (new_slot age g.durable.next_session)))
            (entering.entered-all (ending.ended g all c sl p o) (ending.ended-all g all c sl p o) c age greeting.1 (λ so r. subst (λ z. T (not z.is_open)) (same_some (sym was ∙ r)) tt)
            (λ so r. subst (λ z. T (is_older z.age age)) (same_some (sym was ∙ r)) (holds (is_older sl.age age) m)) greeting.2 above (not-last g.durable.next_session s e l))
          where
            slot-there : slots.slot_at (slots.with_slot c (Some (record sl { is_open = false; unspent = [] })) g.durable.sessions) c ≡ Some (record sl { is_open = false; unspent = [] })
            slot-there = slot-changed g.durable.sessions c c (Some (record sl { is_open = false; unspent = [] })) (in-range g.durable.sessions c sl p) ∙ ap (λ z. cond z (Some (record sl { is_open = false; unspent = [] })) (slot g.durable c)) (same c)

    entered-found : (s : ℕ) (now : Durable) → step (record_of.Open c age s) g.durable ≡ Ok now → AllAgree (at_found now (open_session c age s (end_slot (bare g) c (slot g.durable c))))
    entered-found s now e =
        let q = opens-of g.durable now c s age e in
        let both = holds (is_next_session s g.durable) q.1 in
        let is-next : s ≡ g.durable.next_session = equal s g.durable.next_session (is-true (s == g.durable.next_session) (and_first (s == g.durable.next_session) (nat_lt s last_counter) both)) in
        subst (λ d. AllAgree (at_found d (open_session c age s (end_slot (bare g) c (slot g.durable c))))) (sym q.2)
        (subst (λ z. AllAgree (at_found (opened_state z) (open_session c age z (end_slot (bare g) c (slot g.durable c))))) (sym is-next)
        (by-slot s is-next (is-true (nat_lt s last_counter) (and_next (s == g.durable.next_session) (nat_lt s last_counter) both)) (slot g.durable c) refl q.0))

  -- ids
  module _ (c s got first e ask : ℕ) (sent : Contains g.pool (c, Room s e got ask)) (now : Durable) (steps : step (record_of.Ids c s got first) g.durable ≡ Ok now) where
    fits : tokens.Fits (view (bare g)) (Room s e got ask)
    fits = each-of (λ z. tokens.Fits (view (bare g)) z.1) g.pool (c, Room s e got ask) (all.0).tokens.messages sent

    abbrev given : ℕ → ℕ → Slot → System
    given t f sl = at_found (with_slot c (Some (record sl { grants = sl.grants + 1; last_first = Some f; unspent = slots.with_ids f sl.unspent })) (record (g.durable) { next_id = f + 16 })) (give_ids t f g.ghost)

    parts : (a b c d : Bool) → T (((a && b) && c) && d) → T a × T c × T d
    parts true true true true t = (tt, tt, tt)
    parts true true true false t = absurd t
    parts true true false d t = absurd t
    parts true false c d t = absurd t
    parts false b c d t = absurd t

    current : (sl : Slot) → slot g.durable c ≡ Some sl → T sl.is_open → sl.session ≡ s → got ≡ sl.grants → (k : Clerk) → clerk_in (bare g) sl.session ≡ Some k → k.got ≡ sl.grants
    current sl p o m z k i =
        let r = (fits.1 (side k) (ap side_in (ap (clerk_in (bare g)) (sym m) ∙ i))).0 in
        let t = ((all.0).tokens.got sl.session (side k) (ap side_in i)).2 in
        let f = (((all.0).logs.logs sl.session c sl p refl o k i).ids).granted in
        between got k.got sl.grants (g.ghost.grants sl.session) z r t f
      where
        between : (a b x y : ℕ) → a ≡ x → a ≤ b → b ≤ y → x ≡ y → b ≡ x
        between a b x y p q r e = omega (arith, p, q, r, e)

    given-found : AllAgree (at_found now (give_ids s first g.ghost))
    given-found =
        let q = gives-of g.durable now c s got first steps in
        let z = its-slot s (slot g.durable c) q.0 in
        let y = parts (got == grants (slot g.durable c)) (nat_lt got last_grants) (first == g.durable.next_id) (nat_le first last_first_id) (holds (is_next_grant c got first g.durable) q.1) in
        let is-first : first ≡ g.durable.next_id = equal first g.durable.next_id (is-true (first == g.durable.next_id) y.1) in
        let is-got : got ≡ (z.0).grants = equal got (grants (slot g.durable c)) (is-true (got == grants (slot g.durable c)) y.0) ∙ ap grants z.1 in
        subst (λ d. AllAgree (at_found d (give_ids s first g.ghost))) (sym (q.2 ∙ ap (λ o. with_slot c (slots.granted first o) (record (g.durable) { next_id = first + 16 })) z.1))
        (subst (λ t. AllAgree (given t first z.0)) z.3 (subst (λ f. AllAgree (given (z.0).session f z.0)) (sym is-first)
        (giving.given-all g all c z.0 z.1 z.2 (subst (λ t. T (g.ghost.taken t)) (sym z.3) (fits.0.0)) (current z.0 z.1 z.2 z.3 is-got) (subst (λ f. T (nat_le f last_first_id)) is-first y.2))))

  -- a batch
  module _ (c s b e : ℕ) (ops : List (ℕ × Update)) (sent : Contains g.pool (c, Flush s e b ops)) (now : Durable) (steps : step (record_of.Batch c s b ops) g.durable ≡ Ok now) where
    passes : tokens.Fits (view (bare g)) (Flush s e b ops)
    passes = each-of (λ z. tokens.Fits (view (bare g)) z.1) g.pool (c, Flush s e b ops) (all.0).tokens.messages sent

    carries : log.Fits (bare g) (Flush s e b ops)
    carries = each-of (λ z. log.Fits (bare g) z.1) g.pool (c, Flush s e b ops) (all.0).logs.messages sent

    abbrev kept_by : Slot → List (ℕ × Update) → Ghost
    kept_by sl os = show_batch c (sl.age).boot (keys os) g.ghost

    -- of the slot, of the clerk in it, and of what it has under way
    of-clerk : (sl : Slot) (k : Clerk) → slot g.durable c ≡ Some sl → T sl.is_open → sl.session ≡ s → T (not (has sl.window b)) → clerk_in (bare g) s ≡ Some k → ops ≡ batch b k.log → (ns : List ℕ) → at b k.log.batches ≡ Some ns
        → AllAgree (at_found now (kept_by sl ops))
    of-clerk sl k p o m n there e ns q =
        subst (λ os. AllAgree (at_found now (kept_by sl os))) (sym e) (subst (λ d. AllAgree (at_found d (kept_by sl (batch b k.log)))) same-now (batching.batched-all g all c sl k p o in-it b ns q n))
      where
        in-it : clerk_in (bare g) sl.session ≡ Some k
        in-it = ap (clerk_in (bare g)) m ∙ there

        same-step : step (record_of.Batch c sl.session b (batch b k.log)) g.durable ≡ Ok now
        same-step = ap (λ t. step (record_of.Batch c t b (batch b k.log)) g.durable) m ∙ ap (λ os. step (record_of.Batch c s b os) g.durable) (sym e) ∙ steps

        same-now : batching.now g all c sl k p o in-it b ns q n ≡ now
        same-now = same-ok (sym (batching.done g all c sl k p o in-it b ns q n).steps ∙ same-step)

    batched-found : AllAgree (at_found now (show_batch c (session_boot (slot g.durable c)) (keys ops) g.ghost))
    batched-found =
        let q = batches-of g.durable now c s b ops steps in
        let z = its-slot s (slot g.durable c) q.0 in
        let unmarked : T (not (has (z.0).window b)) = fails (has (z.0).window b) (sym (ap (has_batch b) z.1) ∙ q.1) in
        let k = some-clerk (clerk_in (bare g) s) ((all.0).tokens.present s (at-open s g.durable.sessions c z.0 (z.1, z.3, z.2)) passes.0) in
        let f = carries c z.0 z.1 z.3 z.2 unmarked k.0 k.1 in
        let ns = some-at (at b ((k.0).log).batches) f.1 in
        subst (λ o. AllAgree (at_found now (show_batch c (session_boot o) (keys ops) g.ghost))) (sym z.1) (of-clerk z.0 k.0 z.1 z.2 z.3 unmarked k.1 f.0 ns.0 ns.1)

  -- any of them
  found-all : (r : Record) → ComesFrom g r → (now : Durable) → step r g.durable ≡ Ok now → AllAgree (at_found now (found_ghost (bare g) r))
  found-all (record_of.Batch c s b ops) p now q = batched-found c s b p.0 ops p.1 now q
  found-all (record_of.Open c age s) p now q = entered-found c age p s now q
  found-all (record_of.End c s) p now q = ended-found c s now q
  found-all (record_of.Ids c s got first) p now q = given-found c s got first p.0 p.1 p.2 now q
  found-all (record_of.Epoch e) p now q = absurd p

-- Its line.

end-shown : (h : System) (c : ℕ) (o : Option Slot) → (end_slot h c o).shown ≡ h.ghost.shown ++ end_lines h c o
end-shown h c None = sym (append-nil h.ghost.shown)
end-shown h c (Some sl) = go sl.is_open
  where
    go : (b : Bool) → (elim b as (λ z. Ghost) [ true ↦ show_end h c sl | false ↦ h.ghost ]).shown ≡ h.ghost.shown ++ elim b as (λ z. List Shown) [ true ↦ ended_line h c (sl.age).boot ∷ [] | false ↦ [] ]
    go true = refl
    go false = sym (append-nil h.ghost.shown)

pub found-shown : (g : System) (r : Record) → (found_ghost g r).shown ≡ g.ghost.shown ++ record_lines g (Some r)
found-shown g (record_of.Batch c s b ops) = refl
found-shown g (record_of.Open c age s) = end-shown g c (slot g.durable c)
found-shown g (record_of.End c s) = end-shown g c (slot g.durable c)
found-shown g (record_of.Ids c s got first) = sym (append-nil g.ghost.shown)
found-shown g (record_of.Epoch e) = sym (append-nil g.ghost.shown)

-- On the system that stopped with it.

module _ (g : System) (all : AllAgree g) (from : DoubtAgrees g) (down : g.server ≡ None) (r : Record) (doubt : g.unshown ≡ Some r) where
  pub may : MayStep g (Some r)
  may = subst (MayStep g) doubt (all.0).stops.doubt

  pub stepped-is : stepped r g.durable ≡ may.0
  stepped-is = ap (λ z. elim z as (λ y. Durable) [ Ok e ↦ e | Err f ↦ g.durable ]) may.1

  pub steps-so : step r g.durable ≡ Ok (stepped r g.durable)
  steps-so = may.1 ∙ ap Ok (sym stepped-is)

  -- it makes of the ghosts what it would, where the server is None
  pub founds-make : Makes (bare g) r (found_ghost g r)
  founds-make = subst (λ z. Makes (bare g) r (found_ghost (record g { server = z }) r)) (sym down) (by r (subst (ComesFromAny g) doubt from) may.0 may.1)
    where
      by-slot : (c s : ℕ) (age : Age) (o : Option Slot) → slot g.durable c ≡ o → Makes (bare g) (record_of.Open c age s) (open_session c age s (end_slot (bare g) c o))
      by-slot c s age None p = inl ((λ sl q. absurd (none_some (sym p ∙ q))), refl)
      by-slot c s age (Some sl) p = go sl.is_open refl
        where
          go : (b : Bool) → sl.is_open ≡ b → Makes (bare g) (record_of.Open c age s) (open_session c age s (elim b as (λ z. Ghost) [ true ↦ show_end (bare g) c sl | false ↦ g.ghost ]))
          go true q = inr (sl, p, holds sl.is_open q, refl)
          go false q = inl ((λ so t. subst (λ z. T (not z.is_open)) (same_some (sym p ∙ t)) (fails sl.is_open q)), refl)

      by : (q : Record) → ComesFrom g q → (now : Durable) → step q g.durable ≡ Ok now → Makes (bare g) q (found_ghost (bare g) q)
      by (record_of.Batch c s b ops) p now e = let z = its-slot s (slot g.durable c) (batches-of g.durable now c s b ops e).0 in (z.0, z.1, z.2, z.3, ap (λ o. show_batch c (session_boot o) (keys ops) g.ghost) z.1)
      by (record_of.Open c age s) p now e = by-slot c s age (slot g.durable c) refl
      by (record_of.End c s) p now e = let z = its-slot s (slot g.durable c) (ends-of g.durable now c s e).0 in (z.0, z.1, z.2, z.3, end-ghost g (bare-all g all down) c z.0 z.1 z.2)
      by (record_of.Ids c s got first) p now e = refl
      by (record_of.Epoch n) p now e = absurd p

  pub founds-stand : AllAgree (with_found g r)
  founds-stand = subst (λ z. AllAgree (with_found (record g { server = z }) r)) (sym down)
      (subst (λ d. AllAgree (record (bare g) { durable = d; ghost = found_ghost (bare g) r })) (sym stepped-is) (found-all g (bare-all g all down) r (subst (ComesFromAny g) doubt from) may.0 may.1))
