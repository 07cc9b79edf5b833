-- What a clerk's step comes to while one call waits, nothing is recalled and nothing is under way, as contracts name it.
use Rattle.std.specs.Prelude.{◌≡◌, ◌⊎◌, ◌+◌, ◌≤◌, ℕ, true, false, nat_le, List, [], ◌∷◌, length, Option, None, Some}
use Rattle.ec_base.specs.Limits.{last_counter}
use Rattle.ec_base.specs.Holds.{is_below}
use Rattle.ec_base.specs.declared.ids.Hold.{Hold}
use Rattle.ec_volume.specs.declared.update.Update.{Update}
use Rattle.ec_volume.specs.declared.image.Image.{Image}
use Rattle.ec_history.specs.History.{Each}
use Rattle.ec_history.specs.declared.entry.Answer.TheVariants as answer
use Rattle.ec_plain.specs.declared.call.Outcome.{Outcome}
use Rattle.ec_log.specs.OfChains.Held.{is_behind}
use Rattle.ec_sessions.specs.Limits.{last_grants}
use Rattle.ec_wire.specs.declared.msg.Msg.TheVariants.{Grant, Ids, Kept, Recall}
use Rattle.ec_cache.specs.Cache.{mode}
use Rattle.ec_cache.specs.Cache as cache
use Rattle.ec_log.specs.Log as log
use Rattle.ec_log.specs.declared.state.Asked.{Asked}
use Rattle.ec_log.specs.declared.state.Asked.TheVariants.{Object, Op}
use Rattle.ec_log.specs.declared.state.LogState.{LogState}
use Rattle.ec_log.specs.declared.state.Pick.TheVariants as pick_of
use Rattle.ec_cache.specs.declared.resolve.verdict.Verdict.TheVariants.{Need, NeedIds, Done}
use Rattle.ec_protocol.specs.Clerk.{Doing, Tried, Waits, Answered, add_ids, answer_with, ask_for, doing, evict, give_back, has_session, is_ready, is_settled, keep_push, keep_recall, mark_recall, send_batch, send_room, send_want, settle, suits, taken, try, verdict, with_cache, with_clerk, with_log, with_update}
use Rattle.ec_protocol.specs.declared.clerk.Clerk.{Clerk}
use Rattle.ec_protocol.specs.declared.clerk.Recalled.{Recalled}
use Rattle.ec_protocol.specs.declared.clerk.Waiting.{Waiting}
use Rattle.ec_quiet.specs.Facts.{WantIsAnswered, IsFree}
use Rattle.ec_quiet.specs.Works.{Calls, asked}

-- The clerk is in a session. Nothing is recalled, owed, asked for or under way, and each want was answered.
pub record IsCalm (k : Clerk) : Type 0 where
  pub session : has_session k ≡ true
  pub free : IsFree k
  pub unowed : k.owed ≡ []
  pub asking : k.asking ≡ None
  pub answered : Each (WantIsAnswered k.cache) k.wanted

-- no counter is at its limit
pub record HasCounters (k : Clerk) : Type 0 where
  pub asks : nat_le last_counter k.asks ≡ false
  pub ops : log.ops_are_spent k.log ≡ false
  pub batches : log.batches_are_spent k.log ≡ false

-- One call waits, since whose beginning no operation was issued, and an update of it may be issued.
pub record IsWaiting (w : Waiting) (k : Clerk) : Type 0 where
  pub waiting : k.waiting ≡ w ∷ []
  pub pushes : k.pushes ≡ []
  pub begun : w.begun + 1 ≡ k.log.next
  pub behind : is_behind k.log.next k.log.undurable ≡ true
  pub issues : (o : Outcome) (u : Update) → verdict w.call k ≡ Done o → o.update ≡ Some u → (suits u k.cache ≡ true) × (log.is_full k.log ≡ false)

-- What a try of the call comes to: a token is wanted, ids are asked for, a batch of what it waits for goes out, or it's answered.

abbrev pub room_asked : Doing → Doing
room_asked d = send_room (d.clerk.asks + 1) (with_clerk (λ k. record k { asking = Some (k.asks + 1); asks = k.asks + 1 }) d)

abbrev pub batch_sent : ℕ → List ℕ → Doing → Doing
batch_sent b ns d = send_batch b (with_log (log.after_pick (pick_of.Batch b ns)) d)

abbrev pub updated : Option Update → Doing → Doing
updated None d = d
updated (Some u) d = with_clerk (with_update u) d

abbrev pub issued : Option Update → LogState → Option ℕ
issued None l = None
issued (Some u) l = Some l.next

abbrev pub IsWant : Waiting → Doing → Tried → Type 0
IsWant w d t = (x : ℕ) × (h : Hold) × (verdict w.call d.clerk ≡ Need x h) × (is_below (mode x d.clerk.cache) h ≡ true) × (t ≡ Waits (send_want x h d))

abbrev pub IsRoom : Waiting → Doing → Tried → Type 0
IsRoom w d t = (xs : List ℕ) × (verdict w.call d.clerk ≡ NeedIds xs) × (d.clerk.ids ≡ []) × (t ≡ Waits (room_asked d))

abbrev pub IsBatch : Waiting → Doing → Tried → Type 0
IsBatch w d t =
    (a : Asked) × (ns : List ℕ) × (asked (Calls w.call) d.clerk ≡ Some a) × (log.pick a d.clerk.log ≡ pick_of.Batch d.clerk.log.next_batch ns) × (t ≡ Waits (batch_sent d.clerk.log.next_batch ns d))

abbrev pub IsAnswer : Waiting → Doing → Tried → Type 0
IsAnswer w d t = (o : Outcome) × (verdict w.call d.clerk ≡ Done o) × (t ≡ answer_with w (answer.Reply o.reply) (issued o.update d.clerk.log) o.touched (updated o.update d))

abbrev pub TriesComeTo : Type 0
TriesComeTo = (w : Waiting) (d : Doing) → IsCalm d.clerk → HasCounters d.clerk → IsWaiting w d.clerk → IsWant w d (try w d) ⊎ IsRoom w d (try w d) ⊎ IsBatch w d (try w d) ⊎ IsAnswer w d (try w d)

-- A whole step: what a try leaves of it.

abbrev pub left_by : Tried → Doing
left_by (Waits e) = e
left_by (Answered e) = with_clerk (λ k. record k { waiting = [] }) e

abbrev pub StepsTryOne : Type 0
StepsTryOne = (w : Waiting) (d : Doing) → d.clerk.recalls ≡ [] → d.clerk.pushes ≡ [] → d.clerk.waiting ≡ w ∷ [] → settle d ≡ evict (left_by (try w d))

-- and one without a waiting call
abbrev pub StepsTryNone : Type 0
StepsTryNone = (d : Doing) → d.clerk.recalls ≡ [] → d.clerk.pushes ≡ [] → d.clerk.waiting ≡ [] → settle d ≡ evict d

-- Nothing is evicted where there are no more tokens than it keeps.
abbrev pub FewStay : Type 0
FewStay = (d : Doing) → length d.clerk.cache.held ≤ d.clerk.cache.capacity → evict d ≡ d

-- Recalls and pushes.

-- a recall is answered, or the closure of what its token still needs is asked for
abbrev pub recall_tried : Recalled → Doing → Doing
recall_tried r d = elim (is_ready r d.clerk) [ true ↦ give_back r d | false ↦ keep_recall r (ask_for (Object r.obj) d) ]

abbrev pub push_tried : ℕ → Doing → Doing
push_tried n d = elim (is_settled (Op n) d.clerk) [ true ↦ d | false ↦ ask_for (Op n) (keep_push n d) ]

abbrev pub without_recalls : Doing → Doing
without_recalls d = with_clerk (λ k. record k { recalls = [] }) d

abbrev pub without_pushes : Doing → Doing
without_pushes d = with_clerk (λ k. record k { pushes = [] }) d

-- where that is all that there is to do
abbrev pub StepsTryRecall : Type 0
StepsTryRecall = (r : Recalled) (d : Doing) → has_session d.clerk ≡ true → d.clerk.recalls ≡ r ∷ [] → d.clerk.pushes ≡ [] → d.clerk.waiting ≡ [] → settle d ≡ evict (recall_tried r (without_recalls d))

abbrev pub StepsTryPush : Type 0
StepsTryPush = (n : ℕ) (d : Doing) → has_session d.clerk ≡ true → d.clerk.recalls ≡ [] → d.clerk.pushes ≡ n ∷ [] → d.clerk.waiting ≡ [] → settle d ≡ evict (push_tried n (without_pushes d))

-- What is asked for and isn't durable goes out in a batch, where none is under way.
abbrev pub AsksSendOne : Type 0
AsksSendOne = (a : Asked) (n : ℕ) (d : Doing) → d.clerk.log.batches ≡ [] → log.batches_are_spent d.clerk.log ≡ false → log.first a d.clerk.log ≡ Some n
    → (ns : List ℕ) × (log.pick a d.clerk.log ≡ pick_of.Batch d.clerk.log.next_batch ns) × (ask_for a d ≡ batch_sent d.clerk.log.next_batch ns d)

-- The beginning of steps: messages of the clerk's session and epoch.

abbrev pub IsOf : ℕ → ℕ → Clerk → Type 0
IsOf s e k = (k.session ≡ Some s) × (k.epoch ≡ e)

-- a recall whose number isn't below the last one is kept, and marks the token that it's about
abbrev pub recalled : ℕ → ℕ → Hold → Clerk → Doing
recalled x n to k = keep_recall (record { obj = x; number = n; to = to }) (with_cache (mark_recall x to) (doing k))

abbrev pub MessagesBegin : Type 0
MessagesBegin = (s e : ℕ) (k : Clerk) → IsOf s e k
    → ((x n : ℕ) (h : Hold) (i : Image) → taken (Grant s e x n h i) (doing k) ≡ with_cache (cache.take x h n i) (doing k))
    × ((x n : ℕ) (to : Hold) → cache.last x k.cache ≤ n → taken (Recall s e x n to) (doing k) ≡ recalled x n to k)
    × ((b f : ℕ) → taken (Kept s f b) (doing k) ≡ with_log (log.kept b) (doing k))
    × ((n first : ℕ) → nat_le last_grants k.got ≡ false → taken (Ids s e k.got n first) (doing k) ≡ with_clerk (add_ids n first) (doing k))
