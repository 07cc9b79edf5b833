-- A Flush of an open session that isn't marked: its record steps, the tokens are there, and so the server commits it.
use Rattle.std.proofs.Common.{◌≡◌, sym, ap, subst, ◌∙◌, arith, ℕ, Bool, true, false, not, ◌&&◌, T, ◌≤◌, List, [], ◌∷◌}
use Rattle.std.specs.Prelude.{Option, None, Some, Result, Ok, Err}
use Rattle.std.specs.List.{filter, list_all}
use Rattle.ec_base.specs.Tables.{at}
use Rattle.ec_base.specs.declared.ids.Hold.{Hold}
use Rattle.ec_base.specs.declared.ids.Hold.TheVariants.{Free, Read, Write}
use Rattle.ec_volume.specs.Update.{member, operands}
use Rattle.ec_volume.specs.declared.update.Update.{Update}
use Rattle.ec_history.specs.History.{Each, Op, updates}
use Rattle.ec_sessions.specs.Windows.{has}
use Rattle.ec_sessions.specs.declared.slot.Slot.{Slot}
use Rattle.ec_base.specs.Holds.{rank, is_write}
use Rattle.ec_sessions.specs.OfTokens.Tokens.{token, mode}
use Rattle.ec_sessions.specs.declared.tokens.token.Token.{Token}
use Rattle.ec_wire.specs.declared.msg.Msg.TheVariants.{Flush, Kept}
use Rattle.ec_durable.specs.Durable.{slot, step}
use Rattle.ec_durable.specs.declared.state.Durable.{Durable}
use Rattle.ec_durable.specs.declared.record.RecordFault.{RecordFault}
use Rattle.ec_durable.specs.declared.record.Record.TheVariants as record_of
use Rattle.ec_log.specs.Log.{batch}
use Rattle.ec_protocol.specs.Server.{Serving, flush, may_write, tell, epoch, finish}
use Rattle.ec_protocol.specs.declared.clerk.Clerk.{Clerk}
use Rattle.ec_coherence.specs.System.{System, clerk_in, is_of, recorded}
use Rattle.ec_coherence.specs.Sessions.{SessionsAgree}
use Rattle.ec_coherence.specs.Tokens.{TokensAgree, view, eff, eff_hold, IsWrite}
use Rattle.ec_coherence.specs.Log as log
use Rattle.ec_coherence.specs.Log.{LogsAgree, HasWrites}
use Rattle.ec_coherence.specs.Images.{ImagesAgree}
use Rattle.ec_coherence.proofs.ForBatches.Committing.{commits, committed, batch-updates, session-open}
use Rattle.ec_coherence.proofs.ForServer.Lists.{each-turn, each-part}
use Rattle.ec_coherence.proofs.ForBatches.OneSession.{write-eff}
use Rattle.ec_coherence.proofs.ForBatches.OpenSlots.{one-owner}
use Rattle.ec_base.proofs.Bools.{left as and_first, and-both as and_both, right as and_next, no-longer as is-false, is-true}
use Rattle.ec_base.proofs.Options.{some-at}

-- no batch under way is refused
pub every-flush-steps : (g : System) → SessionsAgree g → TokensAgree (view g) → LogsAgree g → ImagesAgree g → (c s e b : ℕ) (ops : List (ℕ × Update)) → log.Fits g (Flush s e b ops)
    → (sl : Slot) (k : Clerk) → slot g.durable c ≡ Some sl → sl.session ≡ s → T sl.is_open → clerk_in g s ≡ Some k → T (not (has sl.window b)) → (d : Durable) × (step (record_of.Batch c s b ops) g.durable ≡ Ok d)
every-flush-steps g sa ta lo im c s e b ops f sl k here of opened there unmarked =
    let q = f c sl here of opened unmarked k there in
    let u = some-at (at b k.log.batches) q.1 in
    let r = commits g sa ta lo im c s sl k here of opened there b u.0 u.1 unmarked in
    (committed g sa ta lo im c s sl k here of opened there b u.0 u.1 unmarked, ap (λ os. step (record_of.Batch c s b os) g.durable) q.0 ∙ r.steps)

pub all-hold : {A : Type 0} (p : A → Bool) (xs : List A) → Each (λ x. T (p x)) xs → T (list_all p xs)
all-hold p [] h = tt
all-hold p (x ∷ xs) h = and_both (p x) (list_all p xs) h.0 (all-hold p xs h.1)

module _ (g : System) (sa : SessionsAgree g) (ta : TokensAgree (view g)) (lo : LogsAgree g) (im : ImagesAgree g) (c s : ℕ) (sl : Slot) (k : Clerk)
    (here : slot g.durable c ≡ Some sl) (of : sl.session ≡ s) (opened : T sl.is_open) (there : clerk_in g s ≡ Some k)
    (b : ℕ) (ns : List ℕ) (under : at b k.log.batches ≡ Some ns) (unmarked : T (not (has sl.window b)))
    (t : Serving) (is-durable : t.server.durable ≡ g.durable) (claimed : (x : ℕ) → eff (view g) s x ≡ recorded (token t.server.tokens s x) g.durable.epoch) where
  abbrev own : Op → Bool
  own = is_of (g.ghost.owner s)

  abbrev dur : Op → Bool
  dur = g.ghost.is_durable

  abbrev new : Op → Bool
  new o = own o && member o.number (Rattle.ec_base.specs.Tables.keys (batch b k.log))

  is-mode : (o : Option Token) (e : ℕ) → 2 ≤ rank (eff_hold (recorded o e)) → T (is_write (mode o))
  is-mode None e l = absurd (omega arith)
  is-mode (Some t) e l = two t.hold l
    where
      two : (h : Hold) → 2 ≤ rank h → T (is_write h)
      two Free l = absurd (omega arith)
      two Read l = absurd (omega arith)
      two Write l = tt

  abbrev May : Update → Type 0
  May u = T (list_all (λ x. is_write (mode (token t.server.tokens s x))) (operands u))

  one-may : (o : Op) → T (own o) → HasWrites g o → May o.update
  one-may o mine w =
      let es : w.session ≡ s = one-owner g sa w.session s o w.is_open (session-open g sa ta lo im c s sl k here of opened there b ns under unmarked) w.own mine in
      all-hold (λ x. is_write (mode (token t.server.tokens s x))) (operands o.update) (each-turn (λ x. IsWrite (at x ((w.clerk).cache).held)) (λ x. T (is_write (mode (token t.server.tokens s x)))) (operands o.update)
      (λ x h. is-mode (token t.server.tokens s x) g.durable.epoch (subst (λ f. 2 ≤ rank (eff_hold f)) (claimed x) (subst (λ z. 2 ≤ rank (eff_hold (eff (view g) z x))) es (write-eff g ta w.session x w.clerk w.in_place h)))) w.writes)

  all-may : Each (λ o. May o.update) (filter (λ o. not (dur o) && new o) g.ghost.kept)
  all-may = each-part (λ o. May o.update) (λ o. not (dur o) && new o) g.ghost.kept (each-turn (λ o. T (not (dur o)) → HasWrites g o) (λ o. T (not (dur o) && new o) → May o.update) g.ghost.kept
      (λ o f h. one-may o (and_first (own o) _ (and_next (not (dur o)) (new o) h)) (f (and_first (not (dur o)) (new o) h))) lo.writes)

  pub may : T (may_write t.server.tokens s (batch b k.log))
  may = go (batch b k.log) (filter (λ o. not (dur o) && new o) g.ghost.kept) (batch-updates g sa ta lo im c s sl k here of opened there b ns under unmarked) all-may
    where
      go : (xs : List (ℕ × Update)) (os : List Op) → Rattle.ec_coherence.proofs.ForBatches.Carried.updates_in xs ≡ updates os → Each (λ o. May o.update) os → T (may_write t.server.tokens s xs)
      go [] os e h = tt
      go (x ∷ xs) [] e h = absurd (cc)
      go (x ∷ xs) (o ∷ os) e h = and_both (list_all (λ y. is_write (mode (token t.server.tokens s y))) (operands x.1)) (may_write t.server.tokens s xs) (subst May (sym (head e)) h.0) (go xs os (tail e) h.1)
        where
          head : ◌≡◌ {A = List Update} (x.1 ∷ Rattle.ec_coherence.proofs.ForBatches.Carried.updates_in xs) (o.update ∷ updates os) → x.1 ≡ o.update
          head e = cc

          tail : ◌≡◌ {A = List Update} (x.1 ∷ Rattle.ec_coherence.proofs.ForBatches.Carried.updates_in xs) (o.update ∷ updates os) → Rattle.ec_coherence.proofs.ForBatches.Carried.updates_in xs ≡ updates os
          tail e = cc

  -- so the server commits it, and no batch ends a session
  abbrev then : Serving
  then = record t { server = record (t.server) { durable = committed g sa ta lo im c s sl k here of opened there b ns under unmarked }; rec = Some (record_of.Batch c s b (batch b k.log)) }

  pub flushes : flush c s b (batch b k.log) sl t ≡ tell c (Kept s (epoch then) b) then
  flushes = go (has sl.window b) (may_write t.server.tokens s (batch b k.log)) (step (record_of.Batch c s b (batch b k.log)) t.server.durable) (is-false (has sl.window b) unmarked) (is-true (may_write t.server.tokens s (batch b k.log)) may)
      (ap (step (record_of.Batch c s b (batch b k.log))) is-durable ∙ (commits g sa ta lo im c s sl k here of opened there b ns under unmarked).steps)
    where
      go : (x y : Bool) (r : Result Durable RecordFault) → x ≡ false → y ≡ true → r ≡ Ok (committed g sa ta lo im c s sl k here of opened there b ns under unmarked)
          → elim x as (λ z. Serving) [
            | true ↦ tell c (Kept s (epoch t) b) t
            | false ↦ elim y as (λ z. Serving) [
              | true ↦ elim r as (λ z. Serving) [
                | Ok d ↦ tell c (Kept s (epoch (record t { server = record (t.server) { durable = d }; rec = Some (record_of.Batch c s b (batch b k.log)) })) b) (record t { server = record (t.server) { durable = d }; rec = Some (record_of.Batch c s b (batch b k.log)) })
                | Err fault ↦ finish c sl t
              ]
              | false ↦ finish c sl t
            ]
          ] ≡ tell c (Kept s (epoch then) b) then
      go false true r p q e = ap (λ z. elim z as (λ z. Serving) [
        | Ok d ↦ tell c (Kept s (epoch (record t { server = record (t.server) { durable = d }; rec = Some (record_of.Batch c s b (batch b k.log)) })) b) (record t { server = record (t.server) { durable = d }; rec = Some (record_of.Batch c s b (batch b k.log)) })
        | Err fault ↦ finish c sl t
      ]) e
      go true y r p q e = absurd (cc)
      go false false r p q e = absurd (cc)
