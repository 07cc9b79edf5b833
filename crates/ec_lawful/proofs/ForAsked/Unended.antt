-- A server ends no session for a message, but for a goodbye: batches are committed, and claims don't clash.
use Rattle.std.proofs.Common.{◌≡◌, refl, sym, ap, subst, ◌∙◌, ◌+◌, ℕ, Bool, true, false, not, ◌==◌, ◌&&◌, ◌||◌, T, List, ◌∷◌, Option, Some, None, append-nil}
use Rattle.std.specs.Prelude.{Contains, is_none, is_some, nat_le, nat_lt, Result, Ok, Err, ⊤}
use Rattle.std.specs.List.{list_all}
use Rattle.std.proofs.lemmas.Bool.{and_parts}
use Rattle.ec_base.specs.Limits.{last_counter}
use Rattle.ec_base.specs.Tables.{Table, at, keys}
use Rattle.ec_base.specs.declared.counter.Counter.TheVariants as counter
use Rattle.ec_base.specs.declared.ids.Age.{Age}
use Rattle.ec_base.specs.declared.ids.Hold.{Hold}
use Rattle.ec_volume.specs.Update.{member}
use Rattle.ec_volume.specs.declared.update.Update.{Update}
use Rattle.ec_sessions.specs.OfTokens.Tokens.{claimed, first_clash, fits_back, lowered, token}
use Rattle.ec_sessions.specs.declared.tokens.token.Token.{Token}
use Rattle.ec_sessions.specs.Slots.{greeting}
use Rattle.ec_sessions.specs.Windows.{has}
use Rattle.ec_sessions.specs.declared.slot.Greeting.{Greeting}
use Rattle.ec_sessions.specs.declared.slot.Greeting.TheVariants as greeted_of
use Rattle.ec_sessions.specs.declared.slot.Slot.{Slot}
use Rattle.ec_wire.specs.declared.msg.Msg.{Msg}
use Rattle.ec_wire.specs.Messages.{is_held_mode, is_sound, rises}
use Rattle.ec_wire.specs.declared.msg.Msg.TheVariants.{Back, Bye, Claim, Flush, Hello, Kept, NoRoom, Restarted, Room, Want}
use Rattle.ec_durable.specs.Durable.{is_full, live, reserved, slot, step}
use Rattle.ec_durable.specs.declared.record.Record.{Record}
use Rattle.ec_durable.specs.declared.record.Record.TheVariants as record_of
use Rattle.ec_durable.specs.declared.record.RecordFault.{RecordFault}
use Rattle.ec_durable.specs.declared.state.Durable.{Durable}
use Rattle.ec_protocol.specs.Server.{Serving, back, claim, commit, end, end_open, epoch, finish, flush, grant_ids, greet, has_claimed, hello, ids_are_spent, in_session, is_last_number, may_write, next_number, note, open_new, record_ids, resend_ids, room, send_grant, send_ids, serving, slot_of, spend, stay, take, taken, tell, tell_ended, tell_opened, want, with_server}
use Rattle.ec_protocol.specs.Server as server
use Rattle.ec_protocol.specs.declared.server.Server.{Server}
use Rattle.ec_protocol.specs.declared.clerk.Clerk.{Clerk}
use Rattle.ec_coherence.specs.System.{System, clerk_in, is_open}
use Rattle.ec_coherence.specs.Log as log
use Rattle.ec_coherence.specs.Steps.{serving_in}
use Rattle.ec_coherence.specs.Tokens as tokens
use Rattle.ec_coherence.specs.Tokens.{ClaimFits, side, side_in, tables_of, view}
use Rattle.ec_coherence.proofs.ForCommits.Needs.{each-of}
use Rattle.ec_coherence.proofs.ForBatches.OpenSlots.{at-open}
use Rattle.ec_coherence.proofs.ForServer.Tables.{fails}
use Rattle.ec_coherence.specs.CommitLaws.{AllAgree, StepStands}
use Rattle.ec_coherence.proofs.ForCommits.Claiming.{claims-clear}
use Rattle.ec_coherence.proofs.ForCommits.BatchCommits.{flush-is}
use Rattle.ec_coherence.proofs.ForCommits.Taking.{begins}
use Rattle.ec_coherence.proofs.Recorded.{serve-record}
use Rattle.ec_lawful.specs.Asked.{IsNoBye}
use Rattle.ec_base.proofs.Bools.{left as and_first, holds-true as holds}
use Rattle.ec_base.proofs.Numbers.{equal}

-- the record isn't an end
abbrev pub EndsNone : Option Record → Type 0
EndsNone (Some (record_of.End c s)) = ⊥
EndsNone _ = ⊤

abbrev Goes : Serving → Type 0
Goes t = EndsNone t.rec

commits : (r : Record) (f : Serving → Serving) (t : Serving) → ((u : Serving) → u.rec ≡ Some r → Goes (f u)) → Goes t → Goes (commit r f stay t)
commits r f t i h = go (step r t.server.durable)
  where
    go : (x : Result Durable RecordFault) → Goes (elim x as (λ z. Serving) [ Ok d ↦ f (record t { server = record (t.server) { durable = d }; rec = Some r }) | Err fault ↦ stay t ])
    go (Ok d) = i (record t { server = record (t.server) { durable = d }; rec = Some r }) refl
    go (Err fault) = h

opens : (c : ℕ) (age : Age) (old : Option ℕ) (t : Serving) → Goes t → Goes (open_new c age old t)
opens c age old t h = go (nat_le last_counter t.server.durable.next_session)
  where
    go : (z : Bool) → Goes (elim z as (λ y. Serving) [ true ↦ spend counter.Session t | false ↦ commit (record_of.Open c age t.server.durable.next_session) (tell_opened c age t.server.durable.next_session old) stay t ])
    go true = h
    go false = commits (record_of.Open c age t.server.durable.next_session) (tell_opened c age t.server.durable.next_session old) t (λ u q. subst EndsNone (sym q) tt) h

greets : (c : ℕ) (age : Age) (x : Greeting) (t : Serving) → Goes t → Goes (greet c age x t)
greets c age (greeted_of.Greater old) t h = opens c age old t h
greets c age (greeted_of.Same s) t h = h
greets c age (greeted_of.Ended s w) t h = h
greets c age (greeted_of.OldBoot greatest) t h = h

hellos : (c from : ℕ) (age : Age) (t : Serving) → Goes t → Goes (hello c from age t)
hellos c from age t h = go (c == from)
  where
    go : (z : Bool) → Goes (elim z as (λ y. Serving) [ true ↦ greet c age (greeting (slot_of c t) age) t | false ↦ t ])
    go true = greets c age (greeting (slot_of c t) age) t h
    go false = h

wants : (c s x : ℕ) (m : Hold) (l : ℕ) (t : Serving) → Goes t → Goes (want c s x m l t)
wants c s x m l t h = go (token t.server.tokens s x)
  where
    go : (o : Option Token) → Goes (elim o as (λ z. Serving) [ None ↦ note s x m t | Some k ↦ elim (nat_lt l k.number) as (λ y. Serving) [ true ↦ send_grant c s x k.hold k.number t | false ↦ note s x m t ] ])
    go None = h
    go (Some k) = inner (nat_lt l k.number)
      where
        inner : (z : Bool) → Goes (elim z as (λ y. Serving) [ true ↦ send_grant c s x k.hold k.number t | false ↦ note s x m t ])
        inner true = h
        inner false = h

backs : (s x n : ℕ) (m : Hold) (t : Serving) → Goes t → Goes (back s x n m t)
backs s x n m t h = go (fits_back (token t.server.tokens s x) n m)
  where
    go : (z : Bool) → Goes (elim z as (λ y. Serving) [ true ↦ with_server (λ v. record v { tokens = lowered s x m n v.tokens }) t | false ↦ t ])
    go true = h
    go false = h

records-ids : (s first : ℕ) (t : Serving) → (record_ids s first t).rec ≡ t.rec
records-ids s first t = go (is_last_number t)
  where
    go : (z : Bool) → (elim z as (λ y. Serving) [ true ↦ spend counter.Number t | false ↦ with_server (λ s. record s { number = s.number + 1 }) t ]).rec ≡ t.rec
    go true = refl
    go false = refl

gives : (c s got ask : ℕ) (t : Serving) → Goes t → Goes (grant_ids c s got ask t)
gives c s got ask t h = go (is_full t.server.durable) (ids_are_spent got t)
  where
    go : (y z : Bool) → Goes (elim y as (λ q. Serving) [
      | true ↦ tell c (NoRoom s (epoch t) ask (live t.server.durable) (reserved t.server.durable)) t
      | false ↦ elim z as (λ q. Serving) [
        | true ↦ spend counter.Id t
        | false ↦ commit (record_of.Ids c s got t.server.durable.next_id) (λ u. send_ids c s got t.server.durable.next_id (record_ids s t.server.durable.next_id u)) stay t
      ]
    ])
    go true z = h
    go false true = h
    go false false = commits (record_of.Ids c s got t.server.durable.next_id) (λ u. send_ids c s got t.server.durable.next_id (record_ids s t.server.durable.next_id u)) t
        (λ u q. subst EndsNone (sym (records-ids s t.server.durable.next_id u ∙ q)) tt) h

gives-again : (c s got : ℕ) (o : Option ℕ) (t : Serving) → Goes t → Goes (resend_ids c s got o t)
gives-again c s got None t h = h
gives-again c s got (Some first) t h = go (is_some (at s t.server.recorded))
  where
    go : (z : Bool) → Goes (elim z as (λ y. Serving) [ true ↦ t | false ↦ record_ids s first t ])
    go true = h
    go false = subst EndsNone (sym (records-ids s first t)) h

rooms : (c s got ask : ℕ) (sl : Slot) (t : Serving) → Goes t → Goes (room c s got ask sl t)
rooms c s got ask sl t h = go (got == sl.grants) (got + 1 == sl.grants)
  where
    go : (y z : Bool) → Goes (elim y as (λ q. Serving) [ true ↦ grant_ids c s got ask t | false ↦ elim z as (λ q. Serving) [ true ↦ resend_ids c s got sl.last_first t | false ↦ t ] ])
    go true z = gives c s got ask t h
    go false true = gives-again c s got sl.last_first t h
    go false false = h

-- A message by its session: one whose session is open, and that is of this epoch.
module _ (c s e : ℕ) (free : Bool) (f : Slot → Serving → Serving) (t : Serving) (h : Goes t)
    (i : (sl : Slot) → slot t.server.durable c ≡ Some sl → sl.session ≡ s → T sl.is_open → e ≡ t.server.durable.epoch → T (free || has_claimed s t.server) → Goes (f sl t)) where
  inner : (sl : Slot) → slot t.server.durable c ≡ Some sl → (x y z : Bool) → (sl.session == s) ≡ x → sl.is_open ≡ y → ((e == epoch t) && (free || has_claimed s t.server)) ≡ z → Goes (elim x as (λ q. Serving) [
    | false ↦ t
    | true ↦ elim y as (λ q. Serving) [ false ↦ tell_ended c sl t | true ↦ elim z as (λ q. Serving) [ false ↦ tell c (Restarted s (epoch t)) t | true ↦ f sl t ] ]
  ])
  inner sl q false y z a b d = h
  inner sl q true false z a b d = h
  inner sl q true true false a b d = h
  inner sl q true true true a b d = let both = and_parts (e == epoch t) (free || has_claimed s t.server) d in i sl q (equal sl.session s a) (holds sl.is_open b) (equal e (epoch t) both.0) (holds (free || has_claimed s t.server) both.1)

  within : Goes (in_session c s e free f t)
  within = go (slot_of c t) refl
    where
      go : (o : Option Slot) → slot t.server.durable c ≡ o → Goes (elim o as (λ q. Serving) [
        | None ↦ t
        | Some sl ↦ elim (sl.session == s) as (λ q. Serving) [
          | false ↦ t
          | true ↦ elim sl.is_open as (λ q. Serving) [ false ↦ tell_ended c sl t | true ↦ elim ((e == epoch t) && (free || has_claimed s t.server)) as (λ q. Serving) [ false ↦ tell c (Restarted s (epoch t)) t | true ↦ f sl t ] ]
        ]
      ])
      go None q = h
      go (Some sl) q = inner sl q (sl.session == s) sl.is_open ((e == epoch t) && (free || has_claimed s t.server)) refl refl refl

-- Messages that were sent.
module _ (g : System) (v : Server) (whole : AllAgree g) (up : g.server ≡ Some v) (c : ℕ) where
  abbrev t : Serving
  t = serving v

  abbrev here : System
  here = serving_in t g.ghost g

  st : StepStands g t g.ghost
  st = begins g v whole up

  in-pool : (m : Msg) → Contains g.pool (c, m) → Contains here.pool (c, m)
  in-pool m p = subst (λ ms. Contains ms (c, m)) (sym (append-nil g.pool)) p

  of-tokens : (m : Msg) → Contains g.pool (c, m) → tokens.Fits (view here) m
  of-tokens m p = each-of (λ z. tokens.Fits (view here) z.1) here.pool (c, m) (st.0).invariant.tokens.messages (in-pool m p)

  its-clerk : (s : ℕ) → T (is_some ((view here).clerk s)) → (k : Clerk) × (clerk_in here s ≡ Some k)
  its-clerk s y = go (clerk_in here s) refl y
    where
      go : (o : Option Clerk) → clerk_in here s ≡ o → T (is_some (side_in o)) → (k : Clerk) × (clerk_in here s ≡ Some k)
      go None q y = absurd y
      go (Some k) q y = (k, q)

  some-at : (o : Option (List ℕ)) → T (is_some o) → (ns : List ℕ) × (o ≡ Some ns)
  some-at None y = absurd y
  some-at (Some ns) y = (ns, refl)

  -- a batch that isn't marked is under way, and is committed
  flushes : (s e b : ℕ) (ops : List (ℕ × Update)) → Contains g.pool (c, Flush s e b ops) → Goes (taken c (Flush s e b ops) t)
  flushes s e b ops p = within c s e false (flush c s b ops) t tt (λ sl q r o now claimed. comes sl q r o claimed (has sl.window b) refl)
    where
      comes : (sl : Slot) → slot v.durable c ≡ Some sl → sl.session ≡ s → T sl.is_open → T (member s v.claimed) → (z : Bool) → has sl.window b ≡ z → Goes (flush c s b ops sl t)
      comes sl q r o claimed true m = subst (λ z. Goes (elim z as (λ y. Serving) [
        | true ↦ tell c (Kept s (epoch t) b) t
        | false ↦ elim (may_write v.tokens s ops) as (λ y. Serving) [ true ↦ commit (record_of.Batch c s b ops) (λ u. tell c (Kept s (epoch u) b) u) (finish c sl) t | false ↦ finish c sl t ]
      ])) (sym m) tt
      comes sl q r o claimed false m =
          let unmarked : T (not (has sl.window b)) = fails (has sl.window b) m in
          let is-open : T (is_open here s) = at-open s v.durable.sessions c sl (q, r, o) in
          let k = its-clerk s ((st.0).invariant.tokens.present s is-open (of-tokens (Flush s e b ops) p).0) in
          let its = each-of (λ z. log.Fits here z.1) here.pool (c, Flush s e b ops) (st.0).invariant.logs.messages (in-pool (Flush s e b ops) p) c sl q r o unmarked k.0 k.1 in
          let ns = some-at (at b (k.0).log.batches) its.1 in
          subst (λ x. Goes (flush c x b ops sl t)) r (subst (λ x. Goes (flush c sl.session b x sl t)) (sym its.0)
          (subst EndsNone (sym (ap (λ z. z.rec) (flush-is g g.ghost t st.0 refl st.1 c sl k.0 q o (ap (clerk_in here) r ∙ k.1) (subst (λ x. T (member x v.claimed)) (sym r) claimed) b ns.0 ns.1 unmarked))) tt))

  -- what a claim names was the session's own
  claims : (s e : ℕ) (l : Table Hold) → Contains g.pool (c, Claim s e l) → Goes (taken c (Claim s e l) t)
  claims s e l p = within c s e true (claim c s l) t tt (λ sl q r o now claimed. comes sl q r o now (member s v.claimed) refl)
    where
      fits : tokens.Fits (view here) (Claim s e l)
      fits = of-tokens (Claim s e l) p

      comes : (sl : Slot) → slot v.durable c ≡ Some sl → sl.session ≡ s → T sl.is_open → e ≡ v.durable.epoch → (b : Bool) → member s v.claimed ≡ b → Goes (claim c s l sl t)
      comes sl q r o now true m = subst (λ z. Goes (elim z as (λ y. Serving) [
        | true ↦ t
        | false ↦ elim (is_none (first_clash v.tokens s l)) as (λ y. Serving) [ true ↦ record t { server = record v { tokens = claimed s l v.tokens; claimed = s ∷ v.claimed } } | false ↦ finish c sl t ]
      ])) (sym m) tt
      comes sl q r o now false m =
          let is-open : T (is_open here s) = at-open s v.durable.sessions c sl (q, r, o) in
          let k = its-clerk s ((st.0).invariant.tokens.present s is-open (fits.0).0) in
          let of-clerk = fits.1 now is-open (fails (member s v.claimed) m) (side k.0) (ap side_in k.1) in
          let sound = each-of (λ z. T (is_sound z.1)) here.pool (c, Claim s e l) (st.0).invariant.sessions.sound (in-pool (Claim s e l) p) in
          let clear = claims-clear (view here) (tables_of v) s l refl (st.0).invariant.tokens (st.0).invariant.tokens.tables is-open (side k.0) (subst (λ z. ClaimFits (view here) s z l (side k.0)) now of-clerk)
          (and_first (rises (keys l)) (list_all (λ z. is_held_mode z.1) l) sound) in
          subst (λ z. Goes (elim z as (λ y. Serving) [
            | true ↦ t
            | false ↦ elim (is_none (first_clash v.tokens s l)) as (λ y. Serving) [ true ↦ record t { server = record v { tokens = claimed s l v.tokens; claimed = s ∷ v.claimed } } | false ↦ finish c sl t ]
          ])) (sym m) (subst (λ z. Goes (elim (is_none z) as (λ y. Serving) [ true ↦ record t { server = record v { tokens = claimed s l v.tokens; claimed = s ∷ v.claimed } } | false ↦ finish c sl t ])) (sym clear) tt)

  takes : (m : Msg) → IsNoBye m → Contains g.pool (c, m) → Goes (taken c m t)
  takes (Hello from age) n p = hellos c from age t tt
  takes (Want s e x h l) n p = within c s e false (λ sl. want c s x h l) t tt (λ sl q r o now claimed. wants c s x h l t tt)
  takes (Back s e x m h) n p = within c s e false (λ sl. back s x m h) t tt (λ sl q r o now claimed. backs s x m h t tt)
  takes (Flush s e b ops) n p = flushes s e b ops p
  takes (Room s e got ask) n p = within c s e false (room c s got ask) t tt (λ sl q r o now claimed. rooms c s got ask sl t tt)
  takes (Claim s e l) n p = claims s e l p
  takes (Bye s e) n p = absurd n
  takes m n p = tt

  pub take-ends-none : (m : Msg) → IsNoBye m → Contains g.pool (c, m) → EndsNone (take c m v).rec
  take-ends-none m n p = subst EndsNone (sym (serve-record (taken c m t))) (takes m n p)

-- The administrator's end: its record is the end of the clerk's session, if there is one.

abbrev pub EndsOne : ℕ → Option Record → Type 0
EndsOne c None = ⊤
EndsOne c (Some (record_of.End d s)) = d ≡ c
EndsOne c _ = ⊥

pub end-ends-one : (c : ℕ) (v : Server) → EndsOne c (end c v).rec
end-ends-one c v = subst (EndsOne c) (sym (serve-record (end_open c (slot v.durable c) (serving v)))) (go (slot v.durable c))
  where
    finishes : (sl : Slot) (x : Result Durable RecordFault) → EndsOne c (elim x as (λ z. Serving) [
      | Ok d ↦ tell_ended c sl (with_server (server.forget sl.session) (record (serving v) { server = record v { durable = d }; rec = Some (record_of.End c sl.session) }))
      | Err fault ↦ stay (serving v)
    ]).rec
    finishes sl (Ok d) = refl
    finishes sl (Err fault) = tt

    opened : (sl : Slot) (z : Bool) → EndsOne c (elim z as (λ y. Serving) [ true ↦ finish c sl (serving v) | false ↦ serving v ]).rec
    opened sl true = finishes sl (step (record_of.End c sl.session) v.durable)
    opened sl false = tt

    go : (o : Option Slot) → EndsOne c (end_open c o (serving v)).rec
    go None = tt
    go (Some sl) = opened sl sl.is_open
