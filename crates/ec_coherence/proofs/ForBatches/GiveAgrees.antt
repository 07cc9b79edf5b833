-- Behind sixteen ids that a session is given, with their record, their tokens and the message, sessions, tokens, logs and images agree.
use Rattle.std.proofs.Common.{◌≡◌, ◌≢◌, refl, sym, ap, subst, ◌∙◌, cond, arith, ℕ, Bool, true, false, not, ◌&&◌, ◌||◌, T, ◌≤◌, List, [], ◌∷◌, ◌++◌}
use Rattle.std.specs.Prelude.{◌==◌, ◌+◌, nat_le, nat_lt, Some, Result, Ok, Err}
use Rattle.std.proofs.lemmas.Bool.{ne_eqb}
use Rattle.std.proofs.lemmas.List.{append_assoc}
use Rattle.ec_base.specs.Tables.{at, or_else, put}
use Rattle.ec_base.specs.declared.counter.Counter.TheVariants as counter
use Rattle.ec_volume.specs.Image.{is_gone}
use Rattle.ec_volume.specs.Update.{member}
use Rattle.ec_volume.specs.Volume.{after}
use Rattle.ec_volume.specs.declared.image.Image.TheVariants.{Gone}
use Rattle.ec_history.specs.History.{Each, updates}
use Rattle.ec_sessions.specs.Limits.{last_first_id, last_grants}
use Rattle.ec_sessions.specs.Slots as slots
use Rattle.ec_sessions.specs.Slots.{run}
use Rattle.ec_sessions.specs.declared.slot.Slot.{Slot}
use Rattle.ec_wire.specs.Messages.{is_sound}
use Rattle.ec_wire.specs.declared.msg.Msg.{Msg}
use Rattle.ec_wire.specs.declared.msg.Msg.TheVariants.{Ids, NoRoom}
use Rattle.ec_durable.specs.Durable.{slot, step, with_slot, is_session, is_next_grant, is_full, live, reserved}
use Rattle.ec_durable.specs.declared.state.Durable.{Durable}
use Rattle.ec_durable.specs.declared.record.Record.TheVariants as record_of
use Rattle.ec_durable.specs.declared.record.RecordFault.{RecordFault}
use Rattle.ec_durable.specs.declared.record.RecordFault.TheVariants as fault
use Rattle.ec_protocol.specs.Server.{Serving, grant_ids, ids_are_spent, is_last_number, record_ids, send_ids, spend, tell, epoch, with_ids, with_server}
use Rattle.ec_protocol.specs.declared.clerk.Clerk.{Clerk}
use Rattle.ec_coherence.specs.System.{System, Ghost, clerk_in, is_open, seen_ops}
use Rattle.ec_coherence.specs.Sessions as sessions
use Rattle.ec_coherence.specs.Sessions.{SessionsAgree}
use Rattle.ec_coherence.specs.Tokens.{InSession, TokensAgree, view, side_in}
use Rattle.ec_coherence.specs.Log.{LogsAgree}
use Rattle.ec_coherence.specs.Images.{ImagesAgree}
use Rattle.ec_coherence.specs.Steps.{serving_in, give_ids, Under}
use Rattle.ec_coherence.specs.BatchLaws.{BatchFacts}
use Rattle.ec_coherence.proofs.ForBatches.Carried.{gone-is}
use Rattle.ec_coherence.proofs.ForBatches.GiveIds.{give-ids-tokens}
use Rattle.ec_coherence.proofs.ForBatches.GivenIds.{given-logs, given-images}
use Rattle.ec_coherence.proofs.ForBatches.Marked.{marked-sessions}
use Rattle.ec_coherence.proofs.ForServer.SlotLaws.{in-range, slot-changed, open-at}
use Rattle.ec_coherence.proofs.ForServer.Tables.{at-put, same_some}
use Rattle.ec_base.proofs.Numbers.{same-self as same, below}
use Rattle.ec_base.proofs.Bools.{first-false, is-true, holds-true as holds}
use Rattle.ec_history.proofs.HistoryLemmas.{each-more as each-append}

both-true : (a b : Bool) → a ≡ true → b ≡ true → (a && b) ≡ true
both-true a b p q = ap (λ z. z && b) p ∙ q

second-off : (a b : Bool) → (a || b) ≡ false → b ≡ false
second-off true b e = absurd (cc)
second-off false b e = e

not-less : (a b : ℕ) → nat_lt a b ≡ false → nat_le b a ≡ true
not-less a b e = grind arith

module _ (g : System) (γ : Ghost) (t : Serving) (u : Under g t γ) (c : ℕ) (sl : Slot) (in_slot : slot t.server.durable c ≡ Some sl) (opened : T sl.is_open)
    (k : Clerk) (there : clerk_in (serving_in t γ g) sl.session ≡ Some k) (claimed : T (member sl.session t.server.claimed)) (taken : T (γ.taken sl.session)) (current : k.got ≡ sl.grants)
    (ask : ℕ) (room : is_full t.server.durable ≡ false) (enough : ids_are_spent sl.grants t ≡ false) (small : is_last_number t ≡ false) where
  abbrev here : System
  here = serving_in t γ g

  abbrev s : ℕ
  s = sl.session

  abbrev first : ℕ
  first = t.server.durable.next_id

  abbrev n : ℕ
  n = t.server.number + 1

  abbrev newslot : Slot
  newslot = record sl { grants = sl.grants + 1; last_first = Some first; unspent = slots.with_ids first sl.unspent }

  abbrev pub d' : Durable
  d' = record (t.server.durable) { next_id = first + 16; sessions = slots.with_slot c (Some newslot) t.server.durable.sessions }

  abbrev pub γ' : Ghost
  γ' = give_ids s first γ

  granted : sl.grants ≡ γ.grants s
  granted = ((u.invariant.logs.logs s c sl in_slot refl opened k there).ids).granted

  full : InSession (view here) s (λ m. m.got ≡ γ.grants s)
  full m i = ap (λ z. z.got) (same_some (sym i ∙ ap side_in there)) ∙ current ∙ granted

  its-open : T (is_open here s)
  its-open = open-at t.server.durable.sessions c s sl in_slot opened refl

  gone : (x : ℕ) → first ≤ x → (view here).seen s x ≡ Gone
  gone x l = ap (λ z. after g.origin (updates (seen_ops z γ.kept)) x) (u.invariant.images.unfrozen s its-open) ∙ gone-is (after g.origin (updates γ.kept) x) (dead (is_gone (after g.origin (updates γ.kept) x)) refl)
    where
      dead : (z : Bool) → is_gone (after g.origin (updates γ.kept) x) ≡ z → is_gone (after g.origin (updates γ.kept) x) ≡ true
      dead true e = e
      dead false e = absurd (let z = u.invariant.images.known x (subst (λ o. T (not o)) (sym e) tt) in omega arith)

  -- the step, by what the session was given before
  abbrev pub given : ℕ → Serving
  given got =
      record t {
        server = record (t.server) { durable = d'; tokens = with_ids s n (run first 16) t.server.tokens; number = n; recorded = put s n t.server.recorded };
        sent = t.sent ++ (c, Ids s t.server.durable.epoch got n first) ∷ [];
        rec = Some (record_of.Ids c s got first);
      }

  abbrev message : ℕ → List (ℕ × Msg)
  message got = (c, Ids s t.server.durable.epoch got n first) ∷ []

  -- the record steps

  next : is_next_grant c sl.grants first t.server.durable ≡ true
  next = both-true _ _ (both-true _ _ (both-true _ _ (ap (λ o. sl.grants == Rattle.ec_durable.specs.Durable.grants o) in_slot ∙ same sl.grants)
      (below last_grants sl.grants (second-off (nat_lt last_first_id first) _ enough))) (same first)) (not-less last_first_id first (first-false _ (nat_le last_grants sl.grants) enough))

  pub steps : step (record_of.Ids c s sl.grants first) t.server.durable ≡ Ok d'
  steps = ap (λ b. elim b as (λ z. Result Durable RecordFault) [
    | false ↦ Err fault.NoSession
    | true ↦ elim (is_next_grant c sl.grants first t.server.durable) as (λ z. Result Durable RecordFault) [
      | false ↦ Err fault.BadNumber
      | true ↦ elim (is_full t.server.durable) as (λ z. Result Durable RecordFault) [
        | true ↦ Err (fault.NoRoom (live t.server.durable) (reserved t.server.durable))
        | false ↦ Ok (with_slot c (slots.granted first (slot t.server.durable c)) (record (t.server.durable) { next_id = first + 16 }))
      ]
    ]
  ]) (ap (is_session s) in_slot ∙ both-true sl.is_open (s == s) (is-true sl.is_open opened) (same s)) ∙ ap (λ b. elim b as (λ z. Result Durable RecordFault) [
    | false ↦ Err fault.BadNumber
    | true ↦ elim (is_full t.server.durable) as (λ z. Result Durable RecordFault) [
      | true ↦ Err (fault.NoRoom (live t.server.durable) (reserved t.server.durable))
      | false ↦ Ok (with_slot c (slots.granted first (slot t.server.durable c)) (record (t.server.durable) { next_id = first + 16 }))
    ]
  ]) next ∙ ap (λ b. elim b as (λ z. Result Durable RecordFault) [
    | true ↦ Err (fault.NoRoom (live t.server.durable) (reserved t.server.durable))
    | false ↦ Ok (with_slot c (slots.granted first (slot t.server.durable c)) (record (t.server.durable) { next_id = first + 16 }))
  ]) room ∙ ap (λ o. Ok (with_slot c (slots.granted first o) (record (t.server.durable) { next_id = first + 16 }))) in_slot

  abbrev stepped : Serving
  stepped = record t { server = record (t.server) { durable = d' }; rec = Some (record_of.Ids c s sl.grants first) }

  recorded-is : record_ids s first stepped ≡ record stepped { server = record (stepped.server) { tokens = with_ids s n (run first 16) t.server.tokens; number = n; recorded = put s n t.server.recorded } }
  recorded-is = ap (λ b. with_server (λ z. record z { tokens = with_ids s z.number (run first 16) z.tokens; recorded = put s z.number z.recorded })
      (elim b as (λ z. Serving) [ true ↦ spend counter.Number stepped | false ↦ with_server (λ z. record z { number = z.number + 1 }) stepped ])) small

  sent-is : send_ids c s sl.grants first (record_ids s first stepped) ≡ given sl.grants
  sent-is = ap (send_ids c s sl.grants first) recorded-is ∙ ap (λ o. tell c (Ids s t.server.durable.epoch sl.grants (or_else 0 o) first)
      (record stepped { server = record (stepped.server) { tokens = with_ids s n (run first 16) t.server.tokens; number = n; recorded = put s n t.server.recorded } }))
      (at-put s s n t.server.recorded ∙ ap (λ b. cond b (Some n) (at s t.server.recorded)) (same s))

  pub grant-is : grant_ids c s sl.grants ask t ≡ given sl.grants
  grant-is = ap (λ b. elim b as (λ z. Serving) [
    | true ↦ tell c (NoRoom s (epoch t) ask (live t.server.durable) (reserved t.server.durable)) t
    | false ↦ elim (ids_are_spent sl.grants t) as (λ z. Serving) [
      | true ↦ spend counter.Id t
      | false ↦ elim (step (record_of.Ids c s sl.grants first) t.server.durable) as (λ z. Serving) [ Ok e ↦ send_ids c s sl.grants first (record_ids s first (record t { server = record (t.server) { durable = e }; rec = Some (record_of.Ids c s sl.grants first) })) | Err f ↦ t ]
    ]
  ]) room ∙ ap (λ b. elim b as (λ z. Serving) [
    | true ↦ spend counter.Id t
    | false ↦ elim (step (record_of.Ids c s sl.grants first) t.server.durable) as (λ z. Serving) [ Ok e ↦ send_ids c s sl.grants first (record_ids s first (record t { server = record (t.server) { durable = e }; rec = Some (record_of.Ids c s sl.grants first) })) | Err f ↦ t ]
  ]) enough ∙ ap (λ r. elim r as (λ z. Serving) [ Ok e ↦ send_ids c s sl.grants first (record_ids s first (record t { server = record (t.server) { durable = e }; rec = Some (record_of.Ids c s sl.grants first) })) | Err f ↦ t ]) steps ∙ sent-is

  -- the facts behind it

  abbrev behind : ℕ → System
  behind got = serving_in (given got) γ' g

  pub own : slot d' c ≡ Some newslot
  own = slot-changed t.server.durable.sessions c c (Some newslot) (in-range t.server.durable.sessions c sl in_slot) ∙ ap (λ z. cond z (Some newslot) (slot t.server.durable c)) (same c)

  pub others : (j : ℕ) → j ≢ c → slot d' j ≡ slot t.server.durable j
  others j m = slot-changed t.server.durable.sessions c j (Some newslot) (in-range t.server.durable.sessions c sl in_slot) ∙ ap (λ z. cond z (Some newslot) (slot t.server.durable j)) (ne_eqb j c m)

  given-sessions : (got : ℕ) → SessionsAgree (behind got)
  given-sessions got = let a = marked-sessions g γ t u.invariant.sessions c sl in_slot opened newslot refl refl opened (λ b h. h) t.server.durable.volume (first + 16) (record_of.Ids c s got first) in record {
    sixteen = a.sixteen;
    next = a.next;
    slots = a.slots;
    owned = a.owned;
    once = a.once;
    taken = a.taken;
    told = a.told;
    starts = a.starts;
    rounds = a.rounds;
    running = a.running;
    in_session = a.in_session;
    without = a.without;
    current = a.current;
    sound = subst (Each (λ m. T (is_sound m.1))) (append_assoc g.pool t.sent (message got)) (each-append (λ m. T (is_sound m.1)) (g.pool ++ t.sent) (message got) a.sound
        (holds (nat_le first last_first_id) (not-less last_first_id first (first-false _ (nat_le last_grants sl.grants) enough)), tt));
    messages = subst (Each (λ m. sessions.Fits (behind got) m.0 m.1)) (append_assoc g.pool t.sent (message got))
        (each-append (λ m. sessions.Fits (behind got) m.0 m.1) (g.pool ++ t.sent) (message got) a.messages ((sl.age, (u.invariant.sessions.slots c sl in_slot).2), tt));
  }

  given-tokens : TokensAgree (view (behind (γ.grants s)))
  given-tokens = give-ids-tokens g γ t u.invariant.sessions u.invariant.tokens c sl in_slot opened newslot refl refl opened (λ b h. h) s claimed taken full gone

  got-now : (m : Clerk) → clerk_in here s ≡ Some m → m.got ≡ sl.grants
  got-now m i = ap (λ z. z.got) (same_some (sym i ∙ there)) ∙ current

  given-logs-now : (got : ℕ) → LogsAgree (behind got)
  given-logs-now got = subst (λ p. LogsAgree (record (behind got) { pool = p })) (append_assoc g.pool t.sent (message got))
      (given-logs here u.invariant.sessions u.invariant.tokens u.invariant.logs u.invariant.images c s sl in_slot refl opened taken got-now d' (behind got).server (message got) refl refl others own (tt, tt))

  given-images-now : (got : ℕ) → ImagesAgree (behind got)
  given-images-now got = subst (λ p. ImagesAgree (record (behind got) { pool = p })) (append_assoc g.pool t.sent (message got))
      (given-images here u.invariant.sessions u.invariant.tokens u.invariant.logs u.invariant.images c s sl in_slot refl opened taken got-now d' (behind got).server (message got) refl refl others own)

  pub give-agrees : BatchFacts (serving_in (grant_ids c s sl.grants ask t) γ' g)
  give-agrees = subst (λ z. BatchFacts (serving_in z γ' g)) (sym grant-is) (subst (λ got. BatchFacts (behind got)) (sym granted)
      (record { sessions = given-sessions (γ.grants s); tokens = given-tokens; logs = given-logs-now (γ.grants s); images = given-images-now (γ.grants s) }))
