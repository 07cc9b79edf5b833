-- The functions of a clerk that answer nothing.
use Rattle.std.proofs.Common.{◌≡◌, refl, sym, ap, subst, ◌∙◌, ℕ, T, Bool, true, false, not, ◌==◌, ◌&&◌, List, [], ◌∷◌, ◌++◌, Option, Some, None}
use Rattle.std.specs.Prelude.{filter, length, nat_le, nat_lt}
use Rattle.std.specs.List.{list_any}
use Rattle.ec_base.specs.Tables.{keys}
use Rattle.ec_base.specs.declared.counter.Counter.{Counter}
use Rattle.ec_base.specs.declared.counter.Counter.TheVariants as counter
use Rattle.ec_base.specs.declared.ids.Age.{Age}
use Rattle.ec_base.specs.declared.ids.Hold.{Hold}
use Rattle.ec_volume.specs.Update.{member}
use Rattle.ec_cache.specs.Cache as cache
use Rattle.ec_cache.specs.Cache.{last}
use Rattle.ec_cache.specs.declared.state.Held.{Held}
use Rattle.ec_log.specs.Log.{kept, ops_in}
use Rattle.ec_log.specs.LogOrder.{is_from}
use Rattle.ec_log.specs.declared.state.Asked.TheVariants.{Object}
use Rattle.ec_log.proofs.Logs.{from_part}
use Rattle.ec_sessions.specs.Limits.{last_grants}
use Rattle.ec_wire.specs.declared.msg.Msg.{Msg}
use Rattle.ec_wire.specs.declared.msg.Msg.TheVariants as msg
use Rattle.ec_protocol.specs.Clerk.{Doing, add_ids, answer_recalls, ask_for, ask_pushes, claim, doing, enter_epoch, epoch, evict, evict_unpinned, give_back, has_session, hello, in_session, is_need, is_ready, is_session, keep_push, keep_recall, may_want, needs, on_objects, or_hello, refuse_makes, resend, resend_batches, resend_needs, resend_room, resend_want, same_age, send, send_backs, send_batch, send_outstanding, send_want, spend, take_ended, take_ids, take_old_boot, take_opened, take_recall, take_restarted, taken, try_recalls, with_cache}
use Rattle.ec_protocol.specs.declared.clerk.Clerk.{Clerk}
use Rattle.ec_protocol.specs.declared.clerk.Out.{Out}
use Rattle.ec_protocol.specs.declared.clerk.Out.TheVariants as out
use Rattle.ec_protocol.specs.declared.clerk.Recalled.{Recalled}
use Rattle.ec_coherence.specs.ChangeLaws.{Calls}
use Rattle.ec_coherence.specs.Steps.{call_of, calls_after, less_call}
use Rattle.ec_lawful.specs.OfClerkSteps.CallLaws.{IsQuiet, IsStill, is_calm, prepared}
use Rattle.ec_lawful.proofs.OfClerkSteps.ForCalls.Still.{asks-still, calls-sent, quiet-same, quiet-then, still-ask, still-same, still-sent, still-then}

-- A change of what calls don't read, and a message behind it.

pub quiet-sent : (m : Msg) (d : Doing) → IsQuiet d (send m d)
quiet-sent m d = record { waiting = refl; calls = refl; next = refl; first = refl; own = λ n t. t; outs = λ c x. calls-sent c d.outs m x }

quiet-on : (m : Msg) (d e : Doing) → IsQuiet d e → IsQuiet d (send m e)
quiet-on m d e s = quiet-then d e (send m e) s (quiet-sent m e)

quiet-clerk : (d : Doing) (k : Clerk) → k.waiting ≡ d.clerk.waiting → k.calls ≡ d.clerk.calls → k.log ≡ d.clerk.log → IsQuiet d (record d { clerk = k })
quiet-clerk d k w n l = record { waiting = w; calls = n; next = ap (λ z. z.next) l; first = ap (λ z. z.first) l; own = λ i t. subst (λ z. T (is_from i z.undurable)) (sym l) t; outs = λ c x. refl }

quiet-spent : (n : Counter) (d : Doing) → IsQuiet d (spend n d)
quiet-spent n d = record { waiting = refl; calls = refl; next = refl; first = refl; own = λ i t. t; outs = λ c x. refl }

quiet-if : (z : Bool) (d e f : Doing) → IsQuiet d e → IsQuiet d f → IsQuiet d (elim z as (λ y. Doing) [ true ↦ e | false ↦ f ])
quiet-if true d e f p q = p
quiet-if false d e f p q = q

-- Recalls and pushes.

quiet-back : (r : Recalled) (d : Doing) → IsQuiet d (give_back r d)
quiet-back r d = quiet-on _ d _ (quiet-clerk d _ refl refl refl)

quiet-keep : (r : Recalled) (d : Doing) → IsQuiet d (keep_recall r (ask_for (Object r.obj) d))
quiet-keep r d = quiet-then d (ask_for (Object r.obj) d) _ ((still-ask (Object r.obj) d).0).quiet (quiet-clerk (ask_for (Object r.obj) d) _ refl refl refl)

quiet-recalls : (rs : List Recalled) (d : Doing) → IsQuiet d (try_recalls rs d)
quiet-recalls [] d = quiet-same d
quiet-recalls (r ∷ rs) d = go (is_ready r d.clerk) (λ e. quiet-recalls rs e)
  where
    go : (z : Bool) → ((e : Doing) → IsQuiet e (try_recalls rs e)) → IsQuiet d (try_recalls rs (elim z as (λ y. Doing) [ true ↦ give_back r d | false ↦ keep_recall r (ask_for (Object r.obj) d) ]))
    go true f = quiet-then d (give_back r d) _ (quiet-back r d) (f (give_back r d))
    go false f = quiet-then d (keep_recall r (ask_for (Object r.obj) d)) _ (quiet-keep r d) (f (keep_recall r (ask_for (Object r.obj) d)))

pub quiet-answered : (d : Doing) → IsQuiet d (answer_recalls d)
quiet-answered d = quiet-then d (record d { clerk = record (d.clerk) { recalls = [] } }) _ (quiet-clerk d _ refl refl refl) (quiet-recalls d.clerk.recalls (record d { clerk = record (d.clerk) { recalls = [] } }))

pub quiet-prepared : (d : Doing) → IsQuiet d (prepared d)
quiet-prepared d = quiet-if (has_session d.clerk) d (ask_pushes (answer_recalls d)) d (quiet-then d (answer_recalls d) (ask_pushes (answer_recalls d)) (quiet-answered d) ((asks-still (answer_recalls d)).0).quiet) (quiet-same d)

-- Evictions.

quiet-backs : (es : List (ℕ × Held)) (d : Doing) → IsQuiet d (send_backs es d)
quiet-backs [] d = quiet-same d
quiet-backs (e ∷ es) d = quiet-then d (send (msg.Back _ _ e.0 (e.1).number _) d) _ (quiet-sent _ d) (quiet-backs es _)

pub quiet-evict : (d : Doing) → IsQuiet d (evict d)
quiet-evict d = quiet-if (nat_le (length d.clerk.cache.held) d.clerk.cache.capacity) d d (evict_unpinned (on_objects d.clerk.log.undurable) d) (quiet-same d)
    (quiet-then d (record d { clerk = record (d.clerk) { cache = cache.evict (on_objects d.clerk.log.undurable) d.clerk.cache } }) _ (quiet-clerk d _ refl refl refl) (quiet-backs (cache.evicted (on_objects d.clerk.log.undurable) d.clerk.cache) (record d { clerk = record (d.clerk) { cache = cache.evict (on_objects d.clerk.log.undurable) d.clerk.cache } })))

-- What goes out again.

quiet-want-again : (x : ℕ) (h : Hold) (sent : List (ℕ × Hold)) (d : Doing) → IsQuiet d (resend_want x h sent d)
quiet-want-again x h sent d = quiet-if (may_want x h d.clerk && not (list_any (is_need x h) sent)) d (send_want x h d) d (quiet-on _ d _ (quiet-clerk d _ refl refl refl)) (quiet-same d)

quiet-needs : (sent ps : List (ℕ × Hold)) (d : Doing) → IsQuiet d (resend_needs sent ps d)
quiet-needs sent [] d = quiet-same d
quiet-needs sent (p ∷ ps) d = quiet-then d (resend_want p.0 p.1 sent d) _ (quiet-want-again p.0 p.1 sent d) (quiet-needs (p ∷ sent) ps (resend_want p.0 p.1 sent d))

quiet-room-again : (o : Option ℕ) (d : Doing) → IsQuiet d (resend_room o d)
quiet-room-again None d = quiet-same d
quiet-room-again (Some n) d = quiet-sent _ d

quiet-batches : (bs : List ℕ) (d : Doing) → IsQuiet d (resend_batches bs d)
quiet-batches [] d = quiet-same d
quiet-batches (b ∷ bs) d = quiet-then d (send_batch b d) _ (quiet-sent _ d) (quiet-batches bs (send_batch b d))

quiet-outstanding : (d : Doing) → IsQuiet d (send_outstanding d)
quiet-outstanding d =
    let e : Doing = resend_needs [] (needs d.clerk.waiting d.clerk) d in
    quiet-then d e (send_outstanding d) (quiet-needs [] (needs d.clerk.waiting d.clerk) d) (quiet-then e (resend_room e.clerk.asking e) (send_outstanding d) (quiet-room-again e.clerk.asking e) (quiet-batches (keys e.clerk.log.batches) (resend_room e.clerk.asking e)))

quiet-claim : (d : Doing) → IsQuiet d (claim d)
quiet-claim d = quiet-sent _ d

pub quiet-hello : (d : Doing) → IsQuiet d (hello d)
quiet-hello d = quiet-sent _ d

pub quiet-resend : (k : Clerk) → IsQuiet (doing k) (resend k)
quiet-resend k = quiet-if (has_session k) (doing k) (send_outstanding (claim (doing k))) (hello (doing k)) (quiet-then (doing k) (claim (doing k)) _ (quiet-claim (doing k)) (quiet-outstanding (claim (doing k)))) (quiet-hello (doing k))

-- it leaves what is held, too
abbrev LeavesAll : Doing → Doing → Type 0
LeavesAll d e = IsStill d e × (e.clerk.recalls ≡ d.clerk.recalls)

leaves-then : (d e f : Doing) → LeavesAll d e → LeavesAll e f → LeavesAll d f
leaves-then d e f p q = (still-then d e f p.0 q.0, q.1 ∙ p.1)

leaves-if : (z : Bool) (d e f : Doing) → LeavesAll d e → LeavesAll d f → LeavesAll d (elim z as (λ y. Doing) [ true ↦ e | false ↦ f ])
leaves-if true d e f p q = p
leaves-if false d e f p q = q

leaves-want : (x : ℕ) (h : Hold) (sent : List (ℕ × Hold)) (d : Doing) → LeavesAll d (resend_want x h sent d)
leaves-want x h sent d = leaves-if (may_want x h d.clerk && not (list_any (is_need x h) sent)) d (send_want x h d) d
    (record { quiet = quiet-on _ d _ (quiet-clerk d _ refl refl refl); cache = refl; owed = refl; ids = refl; undurable = refl }, refl) (still-same d, refl)

leaves-needs : (sent ps : List (ℕ × Hold)) (d : Doing) → LeavesAll d (resend_needs sent ps d)
leaves-needs sent [] d = (still-same d, refl)
leaves-needs sent (p ∷ ps) d = leaves-then d (resend_want p.0 p.1 sent d) _ (leaves-want p.0 p.1 sent d) (leaves-needs (p ∷ sent) ps (resend_want p.0 p.1 sent d))

leaves-room : (o : Option ℕ) (d : Doing) → LeavesAll d (resend_room o d)
leaves-room None d = (still-same d, refl)
leaves-room (Some n) d = (still-sent _ d, refl)

leaves-batches : (bs : List ℕ) (d : Doing) → LeavesAll d (resend_batches bs d)
leaves-batches [] d = (still-same d, refl)
leaves-batches (b ∷ bs) d = leaves-then d (send_batch b d) _ (still-sent _ d, refl) (leaves-batches bs (send_batch b d))

leaves-outstanding : (d : Doing) → LeavesAll d (send_outstanding d)
leaves-outstanding d =
    let e : Doing = resend_needs [] (needs d.clerk.waiting d.clerk) d in
    leaves-then d e (send_outstanding d) (leaves-needs [] (needs d.clerk.waiting d.clerk) d) (leaves-then e (resend_room e.clerk.asking e) (send_outstanding d) (leaves-room e.clerk.asking e) (leaves-batches (keys e.clerk.log.batches) (resend_room e.clerk.asking e)))

pub leaves-resend : (k : Clerk) → LeavesAll (doing k) (resend k)
leaves-resend k = leaves-if (has_session k) (doing k) (send_outstanding (claim (doing k))) (hello (doing k)) (leaves-then (doing k) (claim (doing k)) _ (still-sent _ (doing k), refl) (leaves-outstanding (claim (doing k)))) (still-sent _ (doing k), refl)

pub quiet-pushed : (n : ℕ) (d : Doing) → IsQuiet d (keep_push n d)
quiet-pushed n d = quiet-clerk d _ refl refl refl

-- Messages.

quiet-in : (s e : ℕ) (f : Doing → Doing) (d : Doing) → IsQuiet d (f d) → IsQuiet d (in_session s e f d)
quiet-in s e f d q = quiet-if (is_session s d.clerk.session && (e == epoch d)) d (f d) d q (quiet-same d)

quiet-or-hello : (s : ℕ) (f : Doing → Doing) (d : Doing) → (is_session s d.clerk.session ≡ true → IsQuiet d (f d)) → IsQuiet d (or_hello s f d)
quiet-or-hello s f d q = go (has_session d.clerk) (is_session s d.clerk.session) q
  where
    go : (x y : Bool) → (y ≡ true → IsQuiet d (f d)) → IsQuiet d (elim x as (λ z. Doing) [ false ↦ hello d | true ↦ elim y as (λ z. Doing) [ true ↦ f d | false ↦ d ] ])
    go false y q = quiet-hello d
    go true true q = q refl
    go true false q = quiet-same d

quiet-opened : (age : Age) (s e : ℕ) (d : Doing) → IsQuiet d (take_opened age s e d)
quiet-opened age s e d = quiet-if (not (has_session d.clerk) && same_age age d.clerk.age) d _ d (quiet-on _ d _ (quiet-clerk d _ refl refl refl)) (quiet-same d)

quiet-recall : (x n : ℕ) (to : Hold) (d : Doing) → IsQuiet d (take_recall x n to d)
quiet-recall x n to d = quiet-if (nat_lt n (last x d.clerk.cache)) d d _ (quiet-same d) (quiet-clerk d _ refl refl refl)

quiet-ids : (got n first : ℕ) (d : Doing) → IsQuiet d (take_ids got n first d)
quiet-ids got n first d = go (got == d.clerk.got) (nat_le last_grants got)
  where
    go : (x y : Bool) → IsQuiet d (elim x as (λ z. Doing) [ false ↦ d | true ↦ elim y as (λ z. Doing) [ true ↦ spend counter.Id d | false ↦ record d { clerk = add_ids n first d.clerk } ] ])
    go false y = quiet-same d
    go true true = quiet-spent counter.Id d
    go true false = quiet-clerk d (add_ids n first d.clerk) refl refl refl

quiet-restarted : (e : ℕ) (d : Doing) → IsQuiet d (take_restarted e d)
quiet-restarted e d = go (nat_lt e (epoch d)) (nat_lt (epoch d) e)
  where
    onward : (f : Doing) → IsQuiet d f → IsQuiet d (send_outstanding (claim f))
    onward f q = quiet-then d f _ q (quiet-then f (claim f) _ (quiet-claim f) (quiet-outstanding (claim f)))

    go : (x y : Bool) → IsQuiet d (elim x as (λ z. Doing) [ true ↦ d | false ↦ send_outstanding (claim (elim y as (λ z. Doing) [ true ↦ record d { clerk = enter_epoch e d.clerk } | false ↦ d ])) ])
    go true y = quiet-same d
    go false true = onward (record d { clerk = enter_epoch e d.clerk }) (quiet-clerk d (enter_epoch e d.clerk) refl refl refl)
    go false false = onward d (quiet-same d)

quiet-kept : (b : ℕ) (d : Doing) → IsQuiet d (record d { clerk = record (d.clerk) { log = kept b d.clerk.log } })
quiet-kept b d = record { waiting = refl; calls = refl; next = refl; first = refl; own = λ n t. part n t; outs = λ c x. refl }
  where
    true-is : (x : Bool) → T x → x ≡ true
    true-is true t = refl
    true-is false t = absurd t

    part : (n : ℕ) → T (is_from n d.clerk.log.undurable) → T (is_from n (filter (λ op. not (member op.0 (ops_in b d.clerk.log))) d.clerk.log.undurable))
    part n t = subst T (sym (from_part (λ op. not (member op.0 (ops_in b d.clerk.log))) n d.clerk.log.undurable (true-is _ t))) tt

-- what comes out of an old boot takes no call away
calls-old : (c : ℕ) (os : List Out) (a : Age) (x : Calls) → calls_after c (os ++ out.OldBoot a ∷ []) x ≡ calls_after c os x
calls-old c [] a x = refl
calls-old c (out.Send y ∷ os) a x = calls-old c os a x
calls-old c (out.Told ns ∷ os) a x = calls-old c os a x
calls-old c (out.OldBoot b ∷ os) a x = calls-old c os a x
calls-old c (out.Answer n b op ∷ os) a x = calls-old c os a (elim (call_of c n x) as (λ z. Calls) [ None ↦ x | Some l ↦ less_call c n x ])

quiet-old : (asked greatest : Age) (d : Doing) → IsQuiet d (take_old_boot asked greatest d)
quiet-old asked greatest d = quiet-if (same_age asked d.clerk.age) d _ d (record { waiting = refl; calls = refl; next = refl; first = refl; own = λ i t. t; outs = λ c x. calls-old c d.outs greatest x }) (quiet-same d)

off-on : (x : Bool) → T (not x) → x ≡ true → ⊥
off-on true t e = t
off-on false t e = cc

pub quiet-taken : (m : Msg) (d : Doing) → T (is_calm m d) → IsQuiet d (taken m d)
quiet-taken (msg.Opened age s e) d t = quiet-opened age s e d
quiet-taken (msg.Grant s e x n h i) d t = quiet-in s e (with_cache (cache.take x h n i)) d (quiet-clerk d (record (d.clerk) { cache = cache.take x h n i d.clerk.cache }) refl refl refl)
quiet-taken (msg.Recall s e x n to) d t = quiet-in s e (take_recall x n to) d (quiet-recall x n to d)
quiet-taken (msg.Kept s e b) d t = quiet-if (is_session s d.clerk.session) d _ d (quiet-kept b d) (quiet-same d)
quiet-taken (msg.Ids s e got n first) d t = quiet-in s e (take_ids got n first) d (quiet-ids got n first d)
quiet-taken (msg.NoRoom s e ask live reserved) d t = go (is_session ask d.clerk.asking) t
  where
    go : (x : Bool) → T (not x) → IsQuiet d (elim x as (λ z. Doing) [ true ↦ refuse_makes live reserved d.clerk.waiting (record d { clerk = record (d.clerk) { asking = None; waiting = [] } }) | false ↦ d ])
    go true t = absurd t
    go false t = quiet-same d
quiet-taken (msg.Ended s low mask) d t = quiet-or-hello s (take_ended (record { low = low; mask = mask })) d (λ e. absurd (off-on (is_session s d.clerk.session) t e))
quiet-taken (msg.Restarted s e) d t = quiet-or-hello s (take_restarted e) d (λ i. quiet-restarted e d)
quiet-taken (msg.OldBoot asked greatest) d t = quiet-old asked greatest d
quiet-taken m d t = quiet-same d
