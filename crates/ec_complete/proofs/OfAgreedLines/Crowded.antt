-- Whatever the try of a call leaves, old tokens go.
use Rattle.std.proofs.Common.{◌≡◌, refl, sym, ap, ◌∙◌, subst, arith, ◌≤◌, ◌+◌, ◌*◌, ℕ, T, Bool, true, false, not, ◌&&◌, ◌||◌, List, [], ◌∷◌, ◌++◌, length, length-append}
use Rattle.std.specs.Prelude.{Option, None, Some, ◌==◌, is_none, nat_le}
use Rattle.std.specs.List.{list_any}
use Rattle.ec_base.specs.Tables.{Table}
use Rattle.ec_base.specs.declared.counter.Counter.TheVariants as counter
use Rattle.ec_base.specs.declared.ids.Hold.{Hold}
use Rattle.ec_base.specs.Limits.{last_counter}
use Rattle.ec_history.specs.History.{Each}
use Rattle.ec_history.specs.declared.entry.Answer.TheVariants as answer
use Rattle.ec_order.specs.Order.{Issued}
use Rattle.ec_plain.specs.declared.call.Outcome.{Outcome}
use Rattle.ec_volume.specs.Update.{member, operands}
use Rattle.ec_volume.specs.declared.update.Update.{Update}
use Rattle.ec_cache.specs.Cache as cache
use Rattle.ec_cache.specs.declared.state.CacheState.{CacheState}
use Rattle.ec_cache.specs.declared.state.Held.{Held}
use Rattle.ec_log.specs.Log as log
use Rattle.ec_log.specs.declared.state.Asked.{Asked}
use Rattle.ec_log.specs.declared.state.Asked.TheVariants.{All}
use Rattle.ec_log.specs.declared.state.Pick.{Pick}
use Rattle.ec_log.specs.declared.state.Pick.TheVariants as pick_of
use Rattle.ec_cache.specs.OfResolve.Resolve.{evaluate}
use Rattle.ec_cache.specs.declared.resolve.verdict.Verdict.{Verdict}
use Rattle.ec_cache.specs.declared.resolve.verdict.Verdict.TheVariants.{Need, NeedIds, Lost, Done}
use Rattle.ec_protocol.specs.Clerk as clerk
use Rattle.ec_protocol.specs.Clerk.{Doing, Tried, Waits, Answered, answer_with, ask_for, await, awaited, doing, first_id, is_owing, is_wanted, may_want, max_tokens, on_objects, send_picked, send_want, settle_outcome, suits, try, try_verdict, verdict, wanted, with_clerk, with_update}
use Rattle.ec_protocol.specs.declared.clerk.Clerk.{Clerk}
use Rattle.ec_protocol.specs.declared.clerk.Waiting.{Waiting}
use Rattle.ec_quiet.specs.Phases.{IsAged}
use Rattle.ec_quiet.specs.Works.{Work}
use Rattle.ec_quiet.specs.Evictions.{Evicts, Uses}
use Rattle.ec_quiet.specs.Tries.{batch_sent, left_by, room_asked}
use Rattle.ec_quiet.proofs.Taking.{each-map}
use Rattle.ec_quiet.proofs.Used.{all-used-uses, change-uses}
use Rattle.ec_quiet.proofs.Verdicts.{never-lost}
use Rattle.ec_complete.specs.OfAgreedLines.Room.{IsRoomy, fresh_in}
use Rattle.ec_complete.proofs.OfAgreedLines.OldTokens.{AreAged, evicts}
use Rattle.ec_complete.proofs.OfAgreedLines.Ordered.{IsOrdered, all-changed-ordered, all-used-ordered}

member-either : (x : ℕ) (xs ys : List ℕ) → T (member x xs || member x ys) → T (member x (xs ++ ys))
member-either x [] ys t = t
member-either x (z ∷ xs) ys t = go (x == z) t (member-either x xs ys)
  where
    go : (b : Bool) → T ((b || member x xs) || member x ys) → (T (member x xs || member x ys) → T (member x (xs ++ ys))) → T (b || member x (xs ++ ys))
    go true t r = tt
    go false t r = r t

either-member : (x : ℕ) (xs ys : List ℕ) → T (member x (xs ++ ys)) → T (member x xs || member x ys)
either-member x [] ys t = t
either-member x (z ∷ xs) ys t = go (x == z) t (either-member x xs ys)
  where
    go : (b : Bool) → T (b || member x (xs ++ ys)) → (T (member x (xs ++ ys)) → T (member x xs || member x ys)) → T ((b || member x xs) || member x ys)
    go true t r = tt
    go false t r = r t

or-map : (a b c d : Bool) → (T a → T c) → (T b → T d) → T (a || b) → T (c || d)
or-map true b c d f g t = go c (f tt)
  where
    go : (z : Bool) → T z → T (z || d)
    go true t = tt
    go false t = absurd t
or-map false b c d f g t = go c (g t)
  where
    go : (z : Bool) → T d → T (z || d)
    go true t = tt
    go false t = t

-- the operands of one more operation
on-more : (ops : Issued) (n : ℕ) (u : Update) (x : ℕ) → T (member x (on_objects (ops ++ (n, u) ∷ []))) → T (member x (on_objects ops ++ operands u))
on-more [] n u x t = or-none (either-member x (operands u) [] t)
  where
    or-none : T (member x (operands u) || false) → T (member x (operands u))
    or-none t = go (member x (operands u)) t
      where
        go : (b : Bool) → T (b || false) → T b
        go true t = tt
        go false t = absurd t
on-more (op ∷ ops) n u x t =
    regrouped (member-either x (operands op.1) (on_objects ops ++ operands u)
    (or-map (member x (operands op.1)) (member x (on_objects (ops ++ (n, u) ∷ []))) (member x (operands op.1)) (member x (on_objects ops ++ operands u)) (λ z. z) (on-more ops n u x) (either-member x (operands op.1) (on_objects (ops ++ (n, u) ∷ [])) t)))
  where
    regrouped : T (member x (operands op.1 ++ (on_objects ops ++ operands u))) → T (member x ((operands op.1 ++ on_objects ops) ++ operands u))
    regrouped t = subst (λ l. T (member x l)) (sym (Rattle.ec_quiet.proofs.Taking.regroup (operands op.1) (on_objects ops) (operands u))) t

module _ (j : Work) (w : Waiting) (c : Clerk) (a : IsAged j c) (unowed : c.owed ≡ []) (r : IsRoomy j w c) where
  abbrev d : Doing
  d = doing c

  abbrev k : CacheState
  k = c.cache

  abbrev fresh : List ℕ
  fresh = fresh_in j c

  abbrev Ev : Doing → Type 0
  Ev e = Evicts j.number e

  ordered : IsOrdered j.number fresh k
  ordered = record {
    aged = record {
      olds = a.olds;
      news = a.news;
      whole = a.whole;
      old = a.old;
      own = each-map {A = ℕ × Held} (λ e. T (member e.0 j.touched || member e.0 c.ids)) (λ e. T (member e.0 fresh)) (λ e t. member-either e.0 j.touched c.ids t) a.news a.fresh;
    };
    once = r.once;
  }

  -- the same operations are undurable
  same : (e : Doing) → IsOrdered j.number fresh e.clerk.cache → e.clerk.cache.capacity ≡ max_tokens → e.clerk.log.undurable ≡ c.log.undurable → Ev e
  same e o cap ops = evicts j.number e fresh r.pinned o.aged o.once (λ x t. r.stay x (subst (λ l. T (member x (on_objects l))) ops t)) (omega (arith, r.room)) cap

  unchanged : (e : Doing) → e.clerk.cache ≡ k → e.clerk.log.undurable ≡ c.log.undurable → Ev e
  unchanged e is ops = same e (subst (IsOrdered j.number fresh) (sym is) ordered) (ap (λ z. z.capacity) is ∙ r.capacity) ops

  wants : (x : ℕ) (h : Hold) → Ev (clerk.want x h d)
  wants x h = go (may_want x h c && not (list_any (is_wanted (wanted x h c)) c.wanted))
    where
      go : (b : Bool) → Ev (elim b as (λ z. Doing) [ true ↦ send_want x h d | false ↦ d ])
      go true = unchanged (send_want x h d) refl refl
      go false = unchanged d refl refl

  rooms : Ev (clerk.ask_room d)
  rooms = go (clerk.has_session c && is_none c.asking) (nat_le last_counter c.asks)
    where
      go : (x y : Bool) → Ev (elim x as (λ z. Doing) [ true ↦ elim y as (λ z. Doing) [ true ↦ clerk.spend counter.Ask d | false ↦ room_asked d ] | false ↦ d ])
      go true true = unchanged (clerk.spend counter.Ask d) refl refl
      go true false = unchanged (room_asked d) refl refl
      go false y = unchanged d refl refl

  asks : (q : Asked) → Ev (ask_for q d)
  asks q = go (log.pick q c.log)
    where
      batches : (b : ℕ) (ns : List ℕ) (z : Bool) → Ev (elim z as (λ z. Doing) [ true ↦ clerk.spend counter.Batch d | false ↦ batch_sent b ns d ])
      batches b ns true = unchanged (clerk.spend counter.Batch d) refl refl
      batches b ns false = unchanged (batch_sent b ns d) refl refl

      go : (p : Pick) → Ev (send_picked p d)
      go (pick_of.Batch b ns) = batches b ns (log.batches_are_spent c.log)
      go pick_of.Settled = unchanged d refl refl
      go (pick_of.Behind b) = unchanged d refl refl
      go (pick_of.Window b) = unchanged d refl refl

  module _ (o : Outcome) (done : verdict w.call c ≡ Done o) where
    answers : Ev (left_by (answer_with w (answer.Reply o.reply) None o.touched d))
    answers = same (left_by (answer_with w (answer.Reply o.reply) None o.touched d)) (all-used-ordered j.number fresh o.touched k (r.uses o done) ordered) ((all-used-uses o.touched k).0.capacity ∙ r.capacity) refl

    awaits : (q : Option Asked) → Ev (left_by (await w o q d))
    awaits None = answers
    awaits (Some q) = go (is_owing w.begun (log.first q c.log))
      where
        go : (b : Bool) → Ev (left_by (elim b as (λ z. Tried) [ true ↦ Waits (ask_for q d) | false ↦ answer_with w (answer.Reply o.reply) None o.touched d ]))
        go true = asks q
        go false = answers

    module _ (u : Update) (is : o.update ≡ Some u) where
      abbrev changed : CacheState
      changed = cache.change u (operands u) k

      abbrev last-step : Doing
      last-step = left_by (answer_with w (answer.Reply o.reply) (Some c.log.next) o.touched (with_clerk (with_update u) d))

      then : IsOrdered j.number fresh (cache.all_used o.touched changed)
      then = all-used-ordered j.number fresh o.touched changed (r.uses o done) (all-changed-ordered j.number fresh u (operands u) k (r.changes o u done is) ordered)

      kept : (x : ℕ) → T (member x (on_objects (c.log.undurable ++ (c.log.next, u) ∷ []))) → T (member x (r.pinned ++ fresh))
      kept x t = member-either x r.pinned fresh
          (or-map (member x (on_objects c.log.undurable)) (member x (operands u)) (member x r.pinned) (member x fresh) (r.stay x) (r.changes o u done is x) (either-member x (on_objects c.log.undurable) (operands u) (on-more c.log.undurable c.log.next u x t)))

      last-evicts : Ev last-step
      last-evicts = evicts j.number last-step fresh (r.pinned ++ fresh) then.aged then.once kept (omega (arith, r.room, length-append r.pinned fresh))
          ((all-used-uses o.touched changed).0.capacity ∙ (change-uses u (operands u) k).0.capacity ∙ r.capacity)

      issues : Ev (left_by (clerk.issue_if_room w o u d))
      issues = go (suits u k) (log.is_full c.log) (log.ops_are_spent c.log)
        where
          go : (x y z : Bool)
              → Ev (left_by (elim x as (λ z. Tried) [
                | false ↦ Waits d
                | true ↦ elim y as (λ z. Tried) [
                  | true ↦ Waits (ask_for All d)
                  | false ↦ elim z as (λ z. Tried) [ true ↦ Waits (clerk.spend counter.Op d) | false ↦ answer_with w (answer.Reply o.reply) (Some c.log.next) o.touched (with_clerk (with_update u) d) ]
                ]
              ]))
          go true false false = last-evicts
          go true false true = unchanged (clerk.spend counter.Op d) refl refl
          go true true z = asks All
          go false y z = unchanged d refl refl

    settles : (u : Option Update) → o.update ≡ u → Ev (left_by (settle_outcome w o u d))
    settles None is = awaits (awaited w.call o)
    settles (Some u) is = issues u is

  pub crowded : Ev (left_by (try w d))
  crowded = by (verdict w.call c) refl
    where
      by : (v : Verdict) → verdict w.call c ≡ v → Ev (left_by (try_verdict w v d))
      by (Need x h) e = wants x h
      by (NeedIds xs) e = rooms
      by (Lost ns xs) e = absurd (never-lost k w.call (first_id c.ids) ns xs (ap (λ o. evaluate k o w.call (first_id c.ids)) (sym unowed) ∙ e))
      by (Done o) e = settles o e o.update refl
