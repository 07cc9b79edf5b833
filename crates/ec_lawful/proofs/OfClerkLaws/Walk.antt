-- A clerk's step part by part: a relation that holds of each part holds of parts one behind the other.
use Rattle.std.proofs.Common.{◌≡◌, refl, ◌+◌, ℕ, suc, zero, Bool, true, false, not, ◌&&◌, List, [], ◌∷◌, ◌++◌, Option, Some, None}
use Rattle.std.specs.Prelude.{is_none, length, nat_le, ⊤}
use Rattle.std.specs.List.{list_any}
use Rattle.std.proofs.lemmas.Bool.{and_parts}
use Rattle.ec_base.specs.Limits.{last_counter}
use Rattle.ec_base.specs.Tables.{keys}
use Rattle.ec_base.specs.declared.counter.Counter.TheVariants as counter
use Rattle.ec_base.specs.declared.ids.Hold.{Hold}
use Rattle.ec_volume.specs.declared.update.Update.{Update}
use Rattle.ec_plain.specs.declared.call.Outcome.{Outcome}
use Rattle.ec_history.specs.declared.entry.Answer.{Answer}
use Rattle.ec_history.specs.declared.entry.Answer.TheVariants as answer
use Rattle.ec_cache.specs.Cache as cache
use Rattle.ec_wire.specs.declared.msg.Msg.{Msg}
use Rattle.ec_wire.specs.declared.msg.Msg.TheVariants.{Back, Claim, Flush, Hello, Room, Want}
use Rattle.ec_log.specs.Log as log
use Rattle.ec_log.specs.declared.state.Asked.{Asked}
use Rattle.ec_log.specs.declared.state.Asked.TheVariants.{All, Object, Op}
use Rattle.ec_log.specs.declared.state.Pick.{Pick}
use Rattle.ec_log.specs.declared.state.Pick.TheVariants as pick_of
use Rattle.ec_cache.specs.OfReport.Report.{clear}
use Rattle.ec_cache.specs.declared.resolve.verdict.Verdict.{Verdict}
use Rattle.ec_cache.specs.declared.resolve.verdict.Verdict.TheVariants.{Need, Lost, NeedIds, Done}
use Rattle.ec_protocol.specs.Clerk.{Doing, Tried, Waits, Answered, answer_recalls, answer_with, ask_for, ask_pushes, ask_room, await, awaited, claim, emit, epoch, evict, give_back, has_session, hello, idless, is_need, is_owing, is_ready, is_session, is_settled, is_wanted, issue_if_room, keep_call, keep_push, keep_recall, may_want, needs, refuse_make, refuse_makes, resend_batches, resend_needs, resend_room, resend_want, send_batch, send_outstanding, send_picked, send_room, send_want, session, settle, settle_outcome, spend, suits, take_no_room, try, try_all, try_each, try_pushes, try_recalls, try_rounds, try_verdict, verdict, want, wanted, with_cache, with_clerk, with_log, with_update}
use Rattle.ec_protocol.specs.declared.clerk.Out.TheVariants as out
use Rattle.ec_protocol.specs.declared.clerk.Recalled.{Recalled}
use Rattle.ec_protocol.specs.declared.clerk.Waiting.{Waiting}
use Rattle.ec_lawful.specs.OfClerkSteps.CallLaws.{prepared}

-- neither a want nor a token that goes back
abbrev pub IsOther : Msg → Type 0
IsOther (Want s e x h last) = ⊥
IsOther (Back s e x n h) = ⊥
IsOther _ = ⊤

-- A relation between two moments of a step that holds of each of its parts.
pub record IsWalk (R : Doing → Doing → Type 0) : Type 0 where
  pub same : (d : Doing) → R d d
  pub then : (d e f : Doing) → R d e → R e f → R d f
  -- nothing comes out, and session, epoch and tokens are as before
  pub still : (d e : Doing) → e.outs ≡ d.outs → e.clerk.session ≡ d.clerk.session → e.clerk.epoch ≡ d.clerk.epoch → e.clerk.cache ≡ d.clerk.cache → R d e
  pub used : (xs : List ℕ) (d : Doing) → R d (with_cache (cache.all_used xs) d)
  pub changed : (u : Update) (d : Doing) → R d (with_clerk (with_update u) d)
  pub sends : (m : Msg) (d : Doing) → IsOther m → R d (emit (out.Send m) d)
  pub answers : (n : ℕ) (a : Answer) (op : Option ℕ) (d : Doing) → R d (emit (out.Answer n a op) d)
  pub wants : (x : ℕ) (m : Hold) (d : Doing) → may_want x m d.clerk ≡ true → R d (send_want x m d)
  pub gives : (r : Recalled) (d : Doing) → R d (give_back r d)
  pub evicts : (d : Doing) → R d (evict d)

module _ (R : Doing → Doing → Type 0) (w : IsWalk R) where
  -- What is asked for and wanted.

  asks : (a : Asked) (d : Doing) → R d (ask_for a d)
  asks a d = by-pick (log.pick a d.clerk.log)
    where
      by-pick : (p : Pick) → R d (send_picked p d)
      by-pick (pick_of.Batch n ns) = go (log.batches_are_spent d.clerk.log)
        where
          go : (z : Bool) → R d (elim z as (λ y. Doing) [ true ↦ spend counter.Batch d | false ↦ send_batch n (with_log (log.after_pick (pick_of.Batch n ns)) d) ])
          go true = w.still d (spend counter.Batch d) refl refl refl refl
          go false = let e = with_log (log.after_pick (pick_of.Batch n ns)) d in w.then d e (send_batch n e) (w.still d e refl refl refl refl) (w.sends (Flush (session e) (epoch e) n (log.batch n e.clerk.log)) e tt)
      by-pick _ = w.same d

  wants : (x : ℕ) (m : Hold) (d : Doing) → R d (want x m d)
  wants x m d = go (may_want x m d.clerk && not (list_any (is_wanted (wanted x m d.clerk)) d.clerk.wanted)) refl
    where
      go : (z : Bool) → (may_want x m d.clerk && not (list_any (is_wanted (wanted x m d.clerk)) d.clerk.wanted)) ≡ z → R d (elim z as (λ y. Doing) [ true ↦ send_want x m d | false ↦ d ])
      go true e = w.wants x m d (and_parts (may_want x m d.clerk) (not (list_any (is_wanted (wanted x m d.clerk)) d.clerk.wanted)) e).0
      go false e = w.same d

  wants-again : (x : ℕ) (m : Hold) (sent : List (ℕ × Hold)) (d : Doing) → R d (resend_want x m sent d)
  wants-again x m sent d = go (may_want x m d.clerk && not (list_any (is_need x m) sent)) refl
    where
      go : (z : Bool) → (may_want x m d.clerk && not (list_any (is_need x m) sent)) ≡ z → R d (elim z as (λ y. Doing) [ true ↦ send_want x m d | false ↦ d ])
      go true e = w.wants x m d (and_parts (may_want x m d.clerk) (not (list_any (is_need x m) sent)) e).0
      go false e = w.same d

  rooms : (d : Doing) → R d (ask_room d)
  rooms d = go (has_session d.clerk && is_none d.clerk.asking) (nat_le last_counter d.clerk.asks)
    where
      go : (z y : Bool) → R d (elim z as (λ o. Doing) [ true ↦ elim y as (λ o. Doing) [ true ↦ spend counter.Ask d | false ↦ send_room (d.clerk.asks + 1) (with_clerk (λ k. record k { asking = Some (k.asks + 1); asks = k.asks + 1 }) d) ] | false ↦ d ])
      go false y = w.same d
      go true true = w.still d (spend counter.Ask d) refl refl refl refl
      go true false =
          let e = with_clerk (λ k. record k { asking = Some (k.asks + 1); asks = k.asks + 1 }) d in
          w.then d e (send_room (d.clerk.asks + 1) e) (w.still d e refl refl refl refl) (w.sends (Room (session e) (epoch e) e.clerk.got (d.clerk.asks + 1)) e tt)

  each-recall : (rs : List Recalled) (d : Doing) → R d (try_recalls rs d)
  each-recall [] d = w.same d
  each-recall (r ∷ rs) d = go (is_ready r d.clerk) (λ e. each-recall rs e)
    where
      go : (z : Bool) → ((e : Doing) → R e (try_recalls rs e)) → R d (try_recalls rs (elim z as (λ y. Doing) [ true ↦ give_back r d | false ↦ keep_recall r (ask_for (Object r.obj) d) ]))
      go true f = w.then d (give_back r d) (try_recalls rs (give_back r d)) (w.gives r d) (f (give_back r d))
      go false f =
          let a = ask_for (Object r.obj) d in
          let e = keep_recall r a in
          w.then d e (try_recalls rs e) (w.then d a e (asks (Object r.obj) d) (w.still a e refl refl refl refl)) (f e)

  each-push : (ns : List ℕ) (d : Doing) → R d (try_pushes ns d)
  each-push [] d = w.same d
  each-push (n ∷ ns) d = go (is_settled (Op n) d.clerk) (λ e. each-push ns e)
    where
      go : (z : Bool) → ((e : Doing) → R e (try_pushes ns e)) → R d (try_pushes ns (elim z as (λ y. Doing) [ true ↦ d | false ↦ ask_for (Op n) (keep_push n d) ]))
      go true f = f d
      go false f =
          let a = keep_push n d in
          let e = ask_for (Op n) a in
          w.then d e (try_pushes ns e) (w.then d a e (w.still d a refl refl refl refl) (asks (Op n) a)) (f e)

  -- Tries.

  abbrev pub RTried : Doing → Tried → Type 0
  RTried d (Waits e) = R d e
  RTried d (Answered e) = R d e

  answers : (v : Waiting) (a : Answer) (op : Option ℕ) (xs : List ℕ) (d e : Doing) → R d e → RTried d (answer_with v a op xs e)
  answers v a op xs d e g =
      let f = with_cache (cache.all_used xs) e in
      w.then d f (emit (out.Answer v.no a op) f) (w.then d e f g (w.used xs e)) (w.answers v.no a op f)

  awaits : (v : Waiting) (o : Outcome) (a : Option Asked) (d : Doing) → RTried d (await v o a d)
  awaits v o None d = answers v (answer.Reply o.reply) None o.touched d d (w.same d)
  awaits v o (Some a) d = go (is_owing v.begun (log.first a d.clerk.log))
    where
      go : (z : Bool) → RTried d (elim z as (λ y. Tried) [ true ↦ Waits (ask_for a d) | false ↦ answer_with v (answer.Reply o.reply) None o.touched d ])
      go true = asks a d
      go false = answers v (answer.Reply o.reply) None o.touched d d (w.same d)

  issues : (v : Waiting) (o : Outcome) (u : Update) (d : Doing) → RTried d (issue_if_room v o u d)
  issues v o u d = go (suits u d.clerk.cache) (log.is_full d.clerk.log) (log.ops_are_spent d.clerk.log)
    where
      go : (x y z : Bool) → RTried d (elim x as (λ q. Tried) [
        | false ↦ Waits d
        | true ↦ elim y as (λ q. Tried) [
          | true ↦ Waits (ask_for All d)
          | false ↦ elim z as (λ q. Tried) [
            | true ↦ Waits (spend counter.Op d)
            | false ↦ answer_with v (answer.Reply o.reply) (Some d.clerk.log.next) o.touched (with_clerk (with_update u) d)
          ]
        ]
      ])
      go false y z = w.same d
      go true true z = asks All d
      go true false true = w.still d (spend counter.Op d) refl refl refl refl
      go true false false = answers v (answer.Reply o.reply) (Some d.clerk.log.next) o.touched d (with_clerk (with_update u) d) (w.changed u d)

  settles : (v : Waiting) (o : Outcome) (u : Option Update) (d : Doing) → RTried d (settle_outcome v o u d)
  settles v o None d = awaits v o (awaited v.call o) d
  settles v o (Some u) d = issues v o u d

  by-verdict : (v : Waiting) (x : Verdict) (d : Doing) → RTried d (try_verdict v x d)
  by-verdict v (Need x m) d = wants x m d
  by-verdict v (NeedIds xs) d = rooms d
  by-verdict v (Lost ns xs) d = let e = with_clerk (λ k. record k { owed = clear xs k.owed }) d in answers v (answer.Lost ns) None xs d e (w.still d e refl refl refl refl)
  by-verdict v (Done o) d = settles v o o.update d

  each-try : (before vs : List Waiting) (d : Doing) → RTried d (try_each before vs d)
  each-try before [] d = w.same d
  each-try before (v ∷ vs) d = go (try v d) (by-verdict v (verdict v.call d.clerk) d) (λ e. each-try (before ++ v ∷ []) vs e)
    where
      go : (t : Tried) → RTried d t → ((e : Doing) → RTried e (try_each (before ++ v ∷ []) vs e)) → RTried d (elim t as (λ q. Tried) [
        | Waits e ↦ try_each (before ++ v ∷ []) vs e
        | Answered e ↦ Answered (with_clerk (λ k. record k { waiting = before ++ vs }) e)
      ])
      go (Waits e) i r = on (try_each (before ++ v ∷ []) vs e) (r e)
        where
          on : (t : Tried) → RTried e t → RTried d t
          on (Waits f) h = w.then d e f i h
          on (Answered f) h = w.then d e f i h
      go (Answered e) i r = let f = with_clerk (λ k. record k { waiting = before ++ vs }) e in w.then d e f i (w.still e f refl refl refl refl)

  pub each-round : (n : ℕ) (d : Doing) → R d (try_rounds n d)
  each-round zero d = w.same d
  each-round (suc n) d = go (try_each [] d.clerk.waiting d) (each-try [] d.clerk.waiting d) (λ e. each-round n e)
    where
      go : (t : Tried) → RTried d t → ((e : Doing) → R e (try_rounds n e)) → R d (elim t as (λ q. Doing) [ Waits e ↦ e | Answered e ↦ try_rounds n e ])
      go (Waits e) i r = i
      go (Answered e) i r = w.then d e (try_rounds n e) i (r e)

  -- The end of a step.

  prepares : (d : Doing) → R d (prepared d)
  prepares d = go (has_session d.clerk)
    where
      go : (z : Bool) → R d (elim z as (λ y. Doing) [ true ↦ ask_pushes (answer_recalls d) | false ↦ d ])
      go true =
          let a = with_clerk (λ k. record k { recalls = [] }) d in
          let b = answer_recalls d in
          let c = with_clerk (λ k. record k { pushes = [] }) b in
          w.then d b (ask_pushes b) (w.then d a b (w.still d a refl refl refl refl) (each-recall d.clerk.recalls a)) (w.then b c (ask_pushes b) (w.still b c refl refl refl refl) (each-push b.clerk.pushes c))
      go false = w.same d

  pub settled : (d : Doing) → R d (settle d)
  settled d =
      let p = prepared d in
      w.then d p (settle d) (prepares d) (w.then p (try_all p) (settle d) (each-round (suc (length p.clerk.waiting)) p) (w.evicts (try_all p)))

  -- What is outstanding.

  each-need : (sent ps : List (ℕ × Hold)) (d : Doing) → R d (resend_needs sent ps d)
  each-need sent [] d = w.same d
  each-need sent (p ∷ ps) d = let e = resend_want p.0 p.1 sent d in w.then d e (resend_needs (p ∷ sent) ps e) (wants-again p.0 p.1 sent d) (each-need (p ∷ sent) ps e)

  room-again : (o : Option ℕ) (d : Doing) → R d (resend_room o d)
  room-again None d = w.same d
  room-again (Some n) d = w.sends (Room (session d) (epoch d) d.clerk.got n) d tt

  each-batch : (bs : List ℕ) (d : Doing) → R d (resend_batches bs d)
  each-batch [] d = w.same d
  each-batch (b ∷ bs) d = let e = send_batch b d in w.then d e (resend_batches bs e) (w.sends (Flush (session d) (epoch d) b (log.batch b d.clerk.log)) d tt) (each-batch bs e)

  outstanding : (d : Doing) → R d (send_outstanding d)
  outstanding d =
      let e = resend_needs [] (needs d.clerk.waiting d.clerk) d in
      let f = resend_room e.clerk.asking e in
      w.then d e (send_outstanding d) (each-need [] (needs d.clerk.waiting d.clerk) d) (w.then e f (send_outstanding d) (room-again e.clerk.asking e) (each-batch (keys e.clerk.log.batches) f))

  pub greets : (d : Doing) → R d (hello d)
  greets d = w.sends (Hello d.clerk.id d.clerk.age) d tt

  pub claims-all : (d : Doing) → R d (send_outstanding (claim d))
  claims-all d = w.then d (claim d) (send_outstanding (claim d)) (w.sends (Claim (session d) (epoch d) (cache.tokens d.clerk.cache)) d tt) (outstanding (claim d))

  -- Room is refused.

  refuses : (live reserved : ℕ) (vs : List Waiting) (d : Doing) → R d (refuse_makes live reserved vs d)
  refuses live reserved [] d = w.same d
  refuses live reserved (v ∷ vs) d = go (idless (verdict v.call d.clerk)) (λ e. refuses live reserved vs e)
    where
      go : (o : Option (List ℕ)) → ((e : Doing) → R e (refuse_makes live reserved vs e)) → R d (refuse_makes live reserved vs (elim o as (λ z. Doing) [ Some xs ↦ refuse_make live reserved v.no xs d | None ↦ keep_call v d ]))
      go (Some xs) f =
          let a = with_cache (cache.all_used xs) d in
          let e = refuse_make live reserved v.no xs d in
          w.then d e (refuse_makes live reserved vs e) (w.then d a e (w.used xs d) (w.answers v.no (answer.NoRoom live reserved) None a)) (f e)
      go None f = let e = keep_call v d in w.then d e (refuse_makes live reserved vs e) (w.still d e refl refl refl refl) (f e)

  pub no-room : (ask live reserved : ℕ) (d : Doing) → R d (take_no_room ask live reserved d)
  no-room ask live reserved d = go (is_session ask d.clerk.asking)
    where
      go : (z : Bool) → R d (elim z as (λ y. Doing) [ true ↦ refuse_makes live reserved d.clerk.waiting (with_clerk (λ k. record k { asking = None; waiting = [] }) d) | false ↦ d ])
      go true = let e = with_clerk (λ k. record k { asking = None; waiting = [] }) d in w.then d e (refuse_makes live reserved d.clerk.waiting e) (w.still d e refl refl refl refl) (refuses live reserved d.clerk.waiting e)
      go false = w.same d
