-- What a clerk asks for leaves its calls as they were; and a try answers exactly a call that doesn't wait.
use Rattle.std.proofs.Common.{◌≡◌, refl, sym, ap, subst, ◌∙◌, ◌+◌, ℕ, T, Bool, true, false, not, ◌&&◌, ◌||◌, List, [], ◌∷◌, ◌++◌, Option, Some, None}
use Rattle.std.specs.Prelude.{is_none, length, nat_le, nat_lt}
use Rattle.ec_base.specs.Limits.{last_counter}
use Rattle.ec_history.specs.declared.entry.Answer.TheVariants as answer
use Rattle.std.specs.List.{filter, list_any}
use Rattle.ec_base.specs.declared.counter.Counter.{Counter}
use Rattle.ec_base.specs.declared.counter.Counter.TheVariants as counter
use Rattle.ec_base.specs.declared.ids.Hold.{Hold}
use Rattle.ec_volume.specs.declared.update.Update.{Update}
use Rattle.ec_plain.specs.declared.call.Outcome.{Outcome}
use Rattle.ec_history.specs.History.{Each}
use Rattle.ec_base.specs.Holds.{is_write}
use Rattle.ec_cache.specs.Cache.{mode}
use Rattle.ec_log.specs.Log.{after_pick, batches_are_spent, first, first_number, is_asked, is_full, max_undurable, ops_are_spent, pick}
use Rattle.ec_log.specs.declared.state.Asked.{Asked}
use Rattle.ec_log.specs.declared.state.Asked.TheVariants.{Object, Op, All}
use Rattle.ec_log.specs.declared.state.Pick.{Pick}
use Rattle.ec_log.specs.declared.state.Pick.TheVariants as pick_of
use Rattle.ec_log.specs.declared.state.LogState.{LogState}
use Rattle.ec_cache.specs.OfResolve.Resolve.{evaluate}
use Rattle.ec_cache.specs.declared.resolve.verdict.Verdict.{Verdict}
use Rattle.ec_cache.specs.declared.resolve.verdict.Verdict.TheVariants.{Need, Lost, NeedIds, Done}
use Rattle.ec_wire.specs.declared.msg.Msg.{Msg}
use Rattle.ec_protocol.specs.Clerk.{Doing, Tried, Waits, answer_recalls, answer_with, is_wanted, wanted, with_clerk, with_update, ask_for, ask_pushes, ask_room, await, awaited, first_id, give_back, has_session, is_owing, is_ready, is_settled, issue_if_room, keep_push, keep_recall, may_want, send, send_batch, send_picked, send_room, send_want, settle_outcome, spend, suits, try, try_pushes, try_recalls, try_verdict, verdict, want}
use Rattle.ec_protocol.specs.declared.clerk.Clerk.{Clerk}
use Rattle.ec_protocol.specs.declared.clerk.Out.{Out}
use Rattle.ec_protocol.specs.declared.clerk.Out.TheVariants as out
use Rattle.ec_protocol.specs.declared.clerk.Recalled.{Recalled}
use Rattle.ec_protocol.specs.declared.clerk.Waiting.{Waiting}
use Rattle.ec_coherence.specs.ChangeLaws.{Calls}
use Rattle.ec_coherence.specs.Steps.{call_of, calls_after, less_call}
use Rattle.ec_history.proofs.OfLaws.ForPlacing.Numbers.{each-append}
use Rattle.ec_lawful.specs.OfClerkSteps.Waits.{NoneReady, does_wait, waits_by, waits_with}
use Rattle.ec_lawful.specs.OfClerkSteps.CallLaws.{IsQuiet, IsStill, IsStillIf, is_answer, prepared}
use Rattle.ec_history.proofs.OfLaws.ForPlacing.BasesAlike.{each-map}

-- Changes one after another.

pub quiet-same : (d : Doing) → IsQuiet d d
quiet-same d = record { waiting = refl; calls = refl; next = refl; first = refl; own = λ n t. t; outs = λ c x. refl }

pub quiet-then : (d e f : Doing) → IsQuiet d e → IsQuiet e f → IsQuiet d f
quiet-then d e f p q = record {
  waiting = q.waiting ∙ p.waiting;
  calls = q.calls ∙ p.calls;
  next = q.next ∙ p.next;
  first = q.first ∙ p.first;
  own = λ n t. q.own n (p.own n t);
  outs = λ c x. q.outs c x ∙ p.outs c x;
}

pub still-same : (d : Doing) → IsStill d d
still-same d = record { quiet = quiet-same d; cache = refl; owed = refl; ids = refl; undurable = refl }

pub still-then : (d e f : Doing) → IsStill d e → IsStill e f → IsStill d f
still-then d e f p q = record { quiet = quiet-then d e f p.quiet q.quiet; cache = q.cache ∙ p.cache; owed = q.owed ∙ p.owed; ids = q.ids ∙ p.ids; undurable = q.undurable ∙ p.undurable }

-- what is sent takes no call away
pub calls-sent : (c : ℕ) (os : List Out) (m : Msg) (x : Calls) → calls_after c (os ++ out.Send m ∷ []) x ≡ calls_after c os x
calls-sent c [] m x = refl
calls-sent c (out.Send y ∷ os) m x = calls-sent c os m x
calls-sent c (out.Told ns ∷ os) m x = calls-sent c os m x
calls-sent c (out.OldBoot a ∷ os) m x = calls-sent c os m x
calls-sent c (out.Answer n a op ∷ os) m x = calls-sent c os m (elim (call_of c n x) as (λ z. Calls) [ None ↦ x | Some l ↦ less_call c n x ])

pub still-sent : (m : Msg) (d : Doing) → IsStill d (send m d)
still-sent m d = record { quiet = record { waiting = refl; calls = refl; next = refl; first = refl; own = λ n t. t; outs = λ c x. calls-sent c d.outs m x }; cache = refl; owed = refl; ids = refl; undurable = refl }

-- a message, behind a change of what nobody reads here
still-on : (m : Msg) (d e : Doing) → IsStill d e → IsStill d (send m e)
still-on m d e s = still-then d e (send m e) s (still-sent m e)

still-spent : (n : Counter) (d : Doing) → IsStill d (spend n d)
still-spent n d = record { quiet = record { waiting = refl; calls = refl; next = refl; first = refl; own = λ n t. t; outs = λ c x. refl }; cache = refl; owed = refl; ids = refl; undurable = refl }

-- Asking.

pub still-ask : (a : Asked) (d : Doing) → IsStill d (ask_for a d) × ((ask_for a d).clerk.recalls ≡ d.clerk.recalls)
still-ask a d = go (pick a d.clerk.log)
  where
    at : (z : Bool) (b : ℕ) (ns : List ℕ) → IsStill d (elim z as (λ y. Doing) [ true ↦ spend counter.Batch d | false ↦ send_batch b (record d { clerk = record (d.clerk) { log = after_pick (pick_of.Batch b ns) d.clerk.log } }) ]) × ((elim z as (λ y. Doing) [ true ↦ spend counter.Batch d | false ↦ send_batch b (record d { clerk = record (d.clerk) { log = after_pick (pick_of.Batch b ns) d.clerk.log } }) ]).clerk.recalls ≡ d.clerk.recalls)
    at true b ns = (still-spent _ d, refl)
    at false b ns = (still-on _ d (record d { clerk = record (d.clerk) { log = after_pick (pick_of.Batch b ns) d.clerk.log } }) (record { quiet = record { waiting = refl; calls = refl; next = refl; first = refl; own = λ n t. t; outs = λ c x. refl }; cache = refl; owed = refl; ids = refl; undurable = refl }), refl)

    go : (p : Pick) → IsStill d (send_picked p d) × ((send_picked p d).clerk.recalls ≡ d.clerk.recalls)
    go (pick_of.Batch b ns) = at (batches_are_spent d.clerk.log) b ns
    go pick_of.Settled = (still-same d, refl)
    go (pick_of.Behind b) = (still-same d, refl)
    go (pick_of.Window b) = (still-same d, refl)

pub still-want : (x : ℕ) (h : Hold) (d : Doing) → IsStill d (want x h d) × ((want x h d).clerk.recalls ≡ d.clerk.recalls)
still-want x h d = go (may_want x h d.clerk && not (list_any (is_wanted (wanted x h d.clerk)) d.clerk.wanted))
  where
    go : (z : Bool) → IsStill d (elim z as (λ y. Doing) [ true ↦ send_want x h d | false ↦ d ]) × ((elim z as (λ y. Doing) [ true ↦ send_want x h d | false ↦ d ]).clerk.recalls ≡ d.clerk.recalls)
    go true = (still-on _ d (record d { clerk = record (d.clerk) { wanted = wanted x h d.clerk ∷ d.clerk.wanted } }) (record { quiet = record { waiting = refl; calls = refl; next = refl; first = refl; own = λ n t. t; outs = λ c x. refl }; cache = refl; owed = refl; ids = refl; undurable = refl }), refl)
    go false = (still-same d, refl)

pub still-room : (d : Doing) → IsStill d (ask_room d) × ((ask_room d).clerk.recalls ≡ d.clerk.recalls)
still-room d = go (has_session d.clerk && is_none d.clerk.asking) (nat_le last_counter d.clerk.asks)
  where
    go : (z y : Bool) → IsStill d (elim z as (λ o. Doing) [ true ↦ elim y as (λ o. Doing) [ true ↦ spend counter.Ask d | false ↦ send_room (d.clerk.asks + 1) (record d { clerk = record (d.clerk) { asking = Some (d.clerk.asks + 1); asks = d.clerk.asks + 1 } }) ] | false ↦ d ])
        × ((elim z as (λ o. Doing) [ true ↦ elim y as (λ o. Doing) [ true ↦ spend counter.Ask d | false ↦ send_room (d.clerk.asks + 1) (record d { clerk = record (d.clerk) { asking = Some (d.clerk.asks + 1); asks = d.clerk.asks + 1 } }) ] | false ↦ d ]).clerk.recalls ≡ d.clerk.recalls)
    go false y = (still-same d, refl)
    go true true = (still-spent counter.Ask d, refl)
    go true false = (still-on _ d (record d { clerk = record (d.clerk) { asking = Some (d.clerk.asks + 1); asks = d.clerk.asks + 1 } }) (record { quiet = record { waiting = refl; calls = refl; next = refl; first = refl; own = λ n t. t; outs = λ c x. refl }; cache = refl; owed = refl; ids = refl; undurable = refl }), refl)

-- Tries.

tries-await : (w : Waiting) (o : Outcome) (a : Option Asked) (d : Doing) → (is_answer (await w o a d) ≡ not (elim a as (λ z. Bool) [ None ↦ false | Some x ↦ is_owing w.begun (first x d.clerk.log) ])) × IsStillIf d (await w o a d)
tries-await w o None d = (refl, tt)
tries-await w o (Some a) d = go (is_owing w.begun (first a d.clerk.log))
  where
    go : (z : Bool) → (is_answer (elim z as (λ y. Tried) [ true ↦ Waits (ask_for a d) | false ↦ answer_with w (answer.Reply o.reply) None o.touched d ]) ≡ not z) × IsStillIf d (elim z as (λ y. Tried) [ true ↦ Waits (ask_for a d) | false ↦ answer_with w (answer.Reply o.reply) None o.touched d ])
    go true = (refl, still-ask a d)
    go false = (refl, tt)

tries-issue : (w : Waiting) (o : Outcome) (u : Update) (d : Doing) → (is_answer (issue_if_room w o u d) ≡ not (not (suits u d.clerk.cache) || (is_full d.clerk.log || ops_are_spent d.clerk.log))) × IsStillIf d (issue_if_room w o u d)
tries-issue w o u d = go (suits u d.clerk.cache) (is_full d.clerk.log) (ops_are_spent d.clerk.log)
  where
    go : (x y z : Bool) → (is_answer (elim x as (λ a. Tried) [ false ↦ Waits d | true ↦ elim y as (λ a. Tried) [ true ↦ Waits (ask_for All d) | false ↦ elim z as (λ a. Tried) [ true ↦ Waits (spend counter.Op d) | false ↦ answer_with w (answer.Reply o.reply) (Some d.clerk.log.next) o.touched (with_clerk (with_update u) d) ] ] ]) ≡ not (not x || (y || z)))
        × IsStillIf d (elim x as (λ a. Tried) [ false ↦ Waits d | true ↦ elim y as (λ a. Tried) [ true ↦ Waits (ask_for All d) | false ↦ elim z as (λ a. Tried) [ true ↦ Waits (spend counter.Op d) | false ↦ answer_with w (answer.Reply o.reply) (Some d.clerk.log.next) o.touched (with_clerk (with_update u) d) ] ] ])
    go false y z = (refl, (still-same d, refl))
    go true true z = (refl, still-ask All d)
    go true false true = (refl, (still-spent counter.Op d, refl))
    go true false false = (refl, tt)

tries-outcome : (w : Waiting) (o : Outcome) (u : Option Update) (d : Doing) → (is_answer (settle_outcome w o u d) ≡ not (waits_with w o d.clerk u)) × IsStillIf d (settle_outcome w o u d)
tries-outcome w o None d = tries-await w o (awaited w.call o) d
tries-outcome w o (Some u) d = tries-issue w o u d

tries-verdict : (w : Waiting) (v : Verdict) (d : Doing) → (is_answer (try_verdict w v d) ≡ not (waits_by w d.clerk v)) × IsStillIf d (try_verdict w v d)
tries-verdict w (Need x h) d = (refl, still-want x h d)
tries-verdict w (NeedIds xs) d = (refl, still-room d)
tries-verdict w (Lost ns xs) d = (refl, tt)
tries-verdict w (Done o) d = tries-outcome w o o.update d

pub tries-answer : (w : Waiting) (d : Doing) → (is_answer (try w d) ≡ not (does_wait w d.clerk)) × IsStillIf d (try w d)
tries-answer w d = tries-verdict w (verdict w.call d.clerk) d

-- Calls wait as they did.

still-asked : (a : Asked) (l m : LogState) → m.undurable ≡ l.undurable → first a m ≡ first a l
still-asked a l m e = ap (λ us. first_number (filter (is_asked a) us)) e

module _ (d e : Doing) (s : IsStill d e) (w : Waiting) where
  abbrev k : Clerk
  k = d.clerk

  abbrev m : Clerk
  m = e.clerk

  same-await : (a : Option Asked) → elim a as (λ z. Bool) [ None ↦ false | Some x ↦ is_owing w.begun (first x m.log) ] ≡ elim a as (λ z. Bool) [ None ↦ false | Some x ↦ is_owing w.begun (first x k.log) ]
  same-await None = refl
  same-await (Some x) = ap (is_owing w.begun) (still-asked x k.log m.log s.undurable)

  same-with : (o : Outcome) (u : Option Update) → waits_with w o m u ≡ waits_with w o k u
  same-with o None = same-await (awaited w.call o)
  same-with o (Some u) = ap (λ z. not (suits u z) || (is_full m.log || ops_are_spent m.log)) s.cache ∙ ap (λ z. not (suits u k.cache) || (nat_le max_undurable (length z) || ops_are_spent m.log)) s.undurable ∙ ap (λ z. not (suits u k.cache) || (is_full k.log || nat_lt last_counter z)) (s.quiet).next

  same-by : (v : Verdict) → waits_by w m v ≡ waits_by w k v
  same-by (Need x h) = refl
  same-by (NeedIds xs) = refl
  same-by (Lost ns xs) = refl
  same-by (Done o) = same-with o o.update

  pub still-waits : does_wait w m ≡ does_wait w k
  still-waits = ap (λ z. waits_by w m (evaluate z m.owed w.call (first_id m.ids))) s.cache ∙ ap (λ z. waits_by w m (evaluate k.cache z w.call (first_id m.ids))) s.owed ∙ ap (λ z. waits_by w m (evaluate k.cache k.owed w.call (first_id z))) s.ids ∙ same-by (evaluate k.cache k.owed w.call (first_id k.ids))

-- Recalls that aren't ready.

pub still-ready : (d e : Doing) → IsStill d e → (r : Recalled) → is_ready r e.clerk ≡ is_ready r d.clerk
still-ready d e s r = ap (λ z. not (is_write (mode r.obj z)) || is_settled (Object r.obj) e.clerk) s.cache ∙ ap (λ z. not (is_write (mode r.obj d.clerk.cache)) || is_none z) (still-asked (Object r.obj) d.clerk.log e.clerk.log s.undurable)

pub none-still : (d e : Doing) → IsStill d e → (rs : List Recalled) → Each (λ r. T (not (is_ready r d.clerk))) rs → Each (λ r. T (not (is_ready r e.clerk))) rs
none-still d e s rs h = each-map (λ r. T (not (is_ready r d.clerk))) (λ r. T (not (is_ready r e.clerk))) (λ r t. subst (λ z. T (not z)) (sym (still-ready d e s r)) t) rs h

pub still-kept : (r : Recalled) (d : Doing) → IsStill d (keep_recall r (ask_for (Object r.obj) d))
still-kept r d = still-then d (ask_for (Object r.obj) d) (keep_recall r (ask_for (Object r.obj) d)) (still-ask (Object r.obj) d).0
    (record { quiet = record { waiting = refl; calls = refl; next = refl; first = refl; own = λ n t. t; outs = λ c x. refl }; cache = refl; owed = refl; ids = refl; undurable = refl })

-- none of these is ready: they're kept
recalls-still : (rs : List Recalled) (d : Doing) → Each (λ r. T (not (is_ready r d.clerk))) rs → NoneReady d.clerk → IsStill d (try_recalls rs d) × NoneReady (try_recalls rs d).clerk
recalls-still [] d h n = (still-same d, n)
recalls-still (r ∷ rs) d h n = go (is_ready r d.clerk) h.0 (recalls-still rs (keep_recall r (ask_for (Object r.obj) d)) (none-still d (keep_recall r (ask_for (Object r.obj) d)) (still-kept r d) rs h.1) kept)
  where
    kept : NoneReady (keep_recall r (ask_for (Object r.obj) d)).clerk
    kept = subst (λ xs. Each (λ x. T (not (is_ready x (keep_recall r (ask_for (Object r.obj) d)).clerk))) (xs ++ r ∷ [])) (sym (still-ask (Object r.obj) d).1)
        (none-still d (keep_recall r (ask_for (Object r.obj) d)) (still-kept r d) (d.clerk.recalls ++ r ∷ []) (each-append (λ x. T (not (is_ready x d.clerk))) d.clerk.recalls (r ∷ []) n (h.0, tt)))

    go : (z : Bool) → T (not z) → IsStill (keep_recall r (ask_for (Object r.obj) d)) (try_recalls rs (keep_recall r (ask_for (Object r.obj) d))) × NoneReady (try_recalls rs (keep_recall r (ask_for (Object r.obj) d))).clerk
        → IsStill d (try_recalls rs (elim z as (λ y. Doing) [ true ↦ give_back r d | false ↦ keep_recall r (ask_for (Object r.obj) d) ])) × NoneReady (try_recalls rs (elim z as (λ y. Doing) [ true ↦ give_back r d | false ↦ keep_recall r (ask_for (Object r.obj) d) ])).clerk
    go true t f = absurd t
    go false t f = (still-then d (keep_recall r (ask_for (Object r.obj) d)) (try_recalls rs (keep_recall r (ask_for (Object r.obj) d))) (still-kept r d) f.0, f.1)

-- Pushes.

pushes-still : (ns : List ℕ) (d : Doing) → IsStill d (try_pushes ns d) × ((try_pushes ns d).clerk.recalls ≡ d.clerk.recalls)
pushes-still [] d = (still-same d, refl)
pushes-still (n ∷ ns) d = go (is_settled (Op n) d.clerk) (λ e. pushes-still ns e)
  where
    kept : IsStill d (keep_push n d)
    kept = record { quiet = record { waiting = refl; calls = refl; next = refl; first = refl; own = λ n t. t; outs = λ c x. refl }; cache = refl; owed = refl; ids = refl; undurable = refl }

    go : (z : Bool) → ((e : Doing) → IsStill e (try_pushes ns e) × ((try_pushes ns e).clerk.recalls ≡ e.clerk.recalls))
        → IsStill d (try_pushes ns (elim z as (λ y. Doing) [ true ↦ d | false ↦ ask_for (Op n) (keep_push n d) ])) × ((try_pushes ns (elim z as (λ y. Doing) [ true ↦ d | false ↦ ask_for (Op n) (keep_push n d) ])).clerk.recalls ≡ d.clerk.recalls)
    go true f = f d
    go false f =
        let one = still-ask (Op n) (keep_push n d) in
        let e : Doing = ask_for (Op n) (keep_push n d) in
        (still-then d e (try_pushes ns e) (still-then d (keep_push n d) e kept one.0) (f e).0, (f e).1 ∙ one.1)

pub asks-still : (d : Doing) → IsStill d (ask_pushes d) × ((ask_pushes d).clerk.recalls ≡ d.clerk.recalls)
asks-still d =
    let e : Doing = record d { clerk = record (d.clerk) { pushes = [] } } in
    let r = pushes-still d.clerk.pushes e in
    (still-then d e (ask_pushes d) (record { quiet = record { waiting = refl; calls = refl; next = refl; first = refl; own = λ n t. t; outs = λ c x. refl }; cache = refl; owed = refl; ids = refl; undurable = refl }) r.0, r.1)

-- the beginning of a step where none is ready
pub begins-still : (d : Doing) → NoneReady d.clerk → IsStill d (prepared d) × NoneReady (prepared d).clerk
begins-still d n = go (has_session d.clerk)
  where
    go : (z : Bool) → IsStill d (elim z as (λ y. Doing) [ true ↦ ask_pushes (answer_recalls d) | false ↦ d ]) × NoneReady (elim z as (λ y. Doing) [ true ↦ ask_pushes (answer_recalls d) | false ↦ d ]).clerk
    go true =
        let one = recalls-still d.clerk.recalls (record d { clerk = record (d.clerk) { recalls = [] } }) n tt in
        let two = asks-still (answer_recalls d) in (
          still-then d (answer_recalls d) (ask_pushes (answer_recalls d)) (still-then d (record d { clerk = record (d.clerk) { recalls = [] } }) (answer_recalls d) (record { quiet = record { waiting = refl; calls = refl; next = refl; first = refl; own = λ n t. t; outs = λ c x. refl }; cache = refl; owed = refl; ids = refl; undurable = refl }) one.0) two.0,
          subst (λ rs. Each (λ r. T (not (is_ready r (ask_pushes (answer_recalls d)).clerk))) rs) (sym two.1) (none-still (answer_recalls d) (ask_pushes (answer_recalls d)) two.0 (answer_recalls d).clerk.recalls one.1),
        )
    go false = (still-same d, n)
