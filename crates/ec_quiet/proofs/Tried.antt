-- A try of the one call that waits.
use Rattle.std.proofs.Common.{◌≡◌, refl, sym, ap, ◌∙◌, arith, ◌<◌, ℕ, Bool, true, false, not, ◌&&◌, ◌||◌, List, [], ◌∷◌, ◌⊎◌, inl, inr}
use Rattle.std.specs.Prelude.{Option, None, Some, is_none, is_some, nat_le, nat_lt, filter, take as front}
use Rattle.std.specs.List.{list_any}
use Rattle.std.proofs.lemmas.Bool.{and_parts}
use Rattle.ec_base.specs.Tables.{keys}
use Rattle.ec_base.specs.Limits.{last_counter}
use Rattle.ec_base.specs.Holds.{is_below}
use Rattle.ec_base.specs.declared.ids.Hold.{Hold}
use Rattle.ec_history.specs.declared.entry.Answer.TheVariants as answer
use Rattle.ec_volume.specs.Update.{member}
use Rattle.ec_volume.specs.declared.update.Update.{Update}
use Rattle.ec_order.specs.Order.{Issued, closure, needs}
use Rattle.ec_log.specs.OfChains.Held.{is_behind}
use Rattle.ec_plain.specs.declared.call.Outcome.{Outcome}
use Rattle.ec_cache.specs.Cache.{mode}
use Rattle.ec_log.specs.Log as log
use Rattle.ec_log.specs.declared.state.Asked.{Asked}
use Rattle.ec_log.specs.declared.state.LogState.{LogState}
use Rattle.ec_log.specs.declared.state.Pick.{Pick}
use Rattle.ec_log.specs.declared.state.Pick.TheVariants as pick_of
use Rattle.ec_cache.specs.declared.resolve.verdict.Verdict.{Verdict}
use Rattle.ec_cache.specs.declared.resolve.verdict.Verdict.TheVariants.{Need, Lost, NeedIds, Done}
use Rattle.ec_protocol.specs.Clerk.{Doing, Tried, Waits, Answered, answer_with, ask_for, await, awaited, first_id, is_owing, is_wanted, issue, issue_if_room, may_want, send_batch, send_picked, send_want, suits, try, try_verdict, under_recall, verdict, want, wanted, with_log}
use Rattle.ec_protocol.specs.Clerk as clerk
use Rattle.ec_protocol.specs.declared.clerk.Waiting.{Waiting}
use Rattle.ec_quiet.specs.Works.{asked_in}
use Rattle.ec_quiet.specs.Tries.{HasCounters, IsAnswer, IsBatch, IsCalm, IsRoom, IsWaiting, IsWant, batch_sent, issued, room_asked, updated}
use Rattle.ec_cache.specs.OfResolve.Resolve.{evaluate}
use Rattle.ec_quiet.proofs.Verdicts.{idless-none, lacks-below, need-lacks, never-lost, wants-once}
use Rattle.ec_base.proofs.Numbers.{above-limit as below}

-- A token is wanted.

all-three : (a b c : Bool) → a ≡ true → b ≡ false → c ≡ true → (a && not b && c) ≡ true
all-three true false true e f g = refl
all-three true false false e f g = absurd (grind (arith, g))
all-three true true c e f g = absurd (grind (arith, f))
all-three false b c e f g = absurd (grind (arith, e))

module _ (d : Doing) (calm : IsCalm d.clerk) (x : ℕ) (h : Hold) (below : is_below (mode x d.clerk.cache) h ≡ true) where
  unrecalled : under_recall x d.clerk ≡ false
  unrecalled = ap (λ rs. list_any (λ r. Rattle.std.specs.Prelude.◌==◌ (Rattle.ec_protocol.specs.declared.clerk.Recalled.Recalled.obj r) x) rs) calm.free.recalls

  pub wants-it : want x h d ≡ send_want x h d
  wants-it = go (may_want x h d.clerk) (list_any (is_wanted (wanted x h d.clerk)) d.clerk.wanted) (all-three _ _ _ calm.session unrecalled below) (wants-once x h d.clerk d.clerk.wanted calm.answered)
    where
      go : (a b : Bool) → a ≡ true → b ≡ false → elim (a && not b) as (λ z. Doing) [ true ↦ send_want x h d | false ↦ d ] ≡ send_want x h d
      go true false e f = refl
      go true true e f = absurd (grind (arith, f))
      go false b e f = absurd (grind (arith, e))

-- Ids are asked for.

no-ids : (xs : List ℕ) → first_id xs ≡ None → xs ≡ []
no-ids [] e = refl
no-ids (x ∷ xs) e = absurd (grind (arith, e))

asks-room : (d : Doing) → IsCalm d.clerk → HasCounters d.clerk → clerk.ask_room d ≡ room_asked d
asks-room d calm counters = go (clerk.has_session d.clerk && is_none d.clerk.asking) (nat_le last_counter d.clerk.asks) (both (clerk.has_session d.clerk) d.clerk.asking calm.session calm.asking) counters.asks
  where
    both : (a : Bool) (o : Option ℕ) → a ≡ true → o ≡ None → (a && is_none o) ≡ true
    both true None e f = refl
    both true (Some n) e f = absurd (grind (arith, f))
    both false o e f = absurd (grind (arith, e))

    go : (a b : Bool) → a ≡ true → b ≡ false → elim a as (λ z. Doing) [ true ↦ elim b as (λ z. Doing) [ true ↦ clerk.spend Rattle.ec_base.specs.declared.counter.Counter.TheVariants.Ask d | false ↦ room_asked d ] | false ↦ d ] ≡ room_asked d
    go true false e f = refl
    go true true e f = absurd (grind (arith, f))
    go false b e f = absurd (grind (arith, e))

-- A batch goes out of what is asked for.

-- what is asked for by itself is in its closure
closure-has : (p : ℕ → Bool) (op : ℕ × Update) (ops : Issued) → p op.0 ≡ true → closure p (op ∷ ops) ≡ op ∷ closure p ops
closure-has p op ops e = ap (λ b. if_more (b || list_any (λ y. needs op.1 y.1) (closure p ops)) (op ∷ closure p ops) (closure p ops)) e
  where
    if_more : Bool → Issued → Issued → Issued
    if_more b xs ys = Rattle.std.specs.Prelude.cond b xs ys

abbrev HasOp : Issued → Type 0
HasOp xs = (op : ℕ × Update) × (ops : Issued) × (xs ≡ op ∷ ops)

closure-later : (p : ℕ → Bool) (op : ℕ × Update) (ops : Issued) → HasOp (closure p ops) → HasOp (closure p (op ∷ ops))
closure-later p op ops q = go (p op.0 || list_any (λ y. needs op.1 y.1) (closure p ops))
  where
    go : (b : Bool) → HasOp (Rattle.std.specs.Prelude.cond b (op ∷ closure p ops) (closure p ops))
    go true = (op, closure p ops, refl)
    go false = q

asked-some : (q : ℕ × Update → Bool) (p : ℕ → Bool) (ops : Issued) (n : ℕ) → ((m : ℕ) → member m (keys (filter q ops)) ≡ true → p m ≡ true) → log.first_number (filter q ops) ≡ Some n → HasOp (closure p ops)
asked-some q p [] n f e = absurd (grind (arith, e))
asked-some q p (op ∷ ops) n f e = go (q op) refl e f (asked-some q p ops n)
  where
    here : (xs : List ℕ) → member op.0 (op.0 ∷ xs) ≡ true
    here xs = ap (λ b. b || member op.0 xs) (Rattle.std.proofs.lemmas.Bool.eq-eqb op.0 op.0 refl)

    go : (b : Bool) → q op ≡ b → log.first_number (Rattle.std.specs.Prelude.cond b (op ∷ filter q ops) (filter q ops)) ≡ Some n
        → ((m : ℕ) → member m (keys (Rattle.std.specs.Prelude.cond b (op ∷ filter q ops) (filter q ops))) ≡ true → p m ≡ true)
        → (((m : ℕ) → member m (keys (filter q ops)) ≡ true → p m ≡ true) → log.first_number (filter q ops) ≡ Some n → HasOp (closure p ops)) → HasOp (closure p (op ∷ ops))
    go true t e f r = (op, closure p ops, closure-has p op ops (f op.0 (here (keys (filter q ops)))))
    go false t e f r = closure-later p op ops (r f e)

module _ (d : Doing) (none : d.clerk.log.batches ≡ []) (unspent : log.batches_are_spent d.clerk.log ≡ false) (a : Asked) (n : ℕ) (first : log.first a d.clerk.log ≡ Some n) where
  abbrev l : LogState
  l = d.clerk.log

  some : HasOp (log.closure_of a l)
  some = asked-some (log.is_asked a) (λ m. member m (keys (log.asked_for a l))) l.undurable n (λ m e. e) first

  abbrev pub numbers : List ℕ
  numbers = keys (front Rattle.ec_sessions.specs.Limits.max_batch_ops (log.closure_of a l))

  pub picks : log.pick a l ≡ pick_of.Batch l.next_batch numbers
  picks = ap (λ ops. log.pick_from ops l) some.2 ∙ alone l.batches none ∙ ap (λ ops. pick_of.Batch l.next_batch (keys (front Rattle.ec_sessions.specs.Limits.max_batch_ops ops))) (sym some.2)
    where
      alone : (bs : Rattle.ec_base.specs.Tables.Table (List ℕ)) → bs ≡ []
          → elim (Rattle.ec_base.specs.Tables.first (log.has_one_of (keys (some.0 ∷ some.1))) bs) as (λ z. Pick) [
            | Some b ↦ pick_of.Behind b.0
            | None ↦ elim (log.in_window l bs) as (λ z. Pick) [ true ↦ pick_of.Batch l.next_batch (keys (front Rattle.ec_sessions.specs.Limits.max_batch_ops (some.0 ∷ some.1))) | false ↦ pick_of.Window (log.least bs) ]
          ] ≡ pick_of.Batch l.next_batch (keys (front Rattle.ec_sessions.specs.Limits.max_batch_ops (some.0 ∷ some.1)))
      alone [] e = refl
      alone (b ∷ bs) e = absurd (grind (arith, e))

  pub asks-for : ask_for a d ≡ batch_sent l.next_batch numbers d
  asks-for = ap (λ p. send_picked p d) picks ∙ go (log.batches_are_spent l) unspent
    where
      go : (b : Bool) → b ≡ false → elim b as (λ z. Doing) [ true ↦ clerk.spend Rattle.ec_base.specs.declared.counter.Counter.TheVariants.Batch d | false ↦ batch_sent l.next_batch numbers d ] ≡ batch_sent l.next_batch numbers d
      go true e = absurd (grind (arith, e))
      go false e = refl

-- An operation that is asked for was issued before the next one.
first-below : (q : ℕ × Update → Bool) (m : ℕ) (ops : Issued) (n : ℕ) → is_behind m ops ≡ true → log.first_number (filter q ops) ≡ Some n → n < m
first-below q m [] n b e = absurd (grind (arith, e))
first-below q m (op ∷ ops) n b e = go (q op) refl e (and_parts (nat_lt op.0 m) (is_behind m ops) b) (first-below q m ops n)
  where
    go : (t : Bool) → q op ≡ t → log.first_number (Rattle.std.specs.Prelude.cond t (op ∷ filter q ops) (filter q ops)) ≡ Some n → (nat_lt op.0 m ≡ true) × (is_behind m ops ≡ true)
        → (is_behind m ops ≡ true → log.first_number (filter q ops) ≡ Some n → n < m) → n < m
    go true t e p r = let same : op.0 ≡ n = (cc) in omega (arith, same, below (op.0) m p.0)
    go false t e p r = r p.1 e

-- All cases.

abbrev Comes : Waiting → Doing → Tried → Type 0
Comes w d t = IsWant w d t ⊎ IsRoom w d t ⊎ IsBatch w d t ⊎ IsAnswer w d t

module _ (w : Waiting) (d : Doing) (calm : IsCalm d.clerk) (counters : HasCounters d.clerk) (waits : IsWaiting w d.clerk) where
  as-unowed : evaluate d.clerk.cache [] w.call (first_id d.clerk.ids) ≡ verdict w.call d.clerk
  as-unowed = ap (λ o. evaluate d.clerk.cache o w.call (first_id d.clerk.ids)) (sym calm.unowed)

  module _ (o : Outcome) (done : verdict w.call d.clerk ≡ Done o) where
    answers : (u : Option Update) → o.update ≡ u → (t : Tried) → t ≡ answer_with w (answer.Reply o.reply) (issued u d.clerk.log) o.touched (updated u d) → Comes w d t
    answers u is t e = inr (inr (inr (o, done, e ∙ ap (λ v. answer_with w (answer.Reply o.reply) (issued v d.clerk.log) o.touched (updated v d)) (sym is))))

    owes : (n : ℕ) → n < d.clerk.log.next → nat_le n w.begun ≡ true
    owes n l = grind (arith, waits.begun, l)

    awaits : (a : Option Asked) → awaited w.call o ≡ a → o.update ≡ None → Comes w d (await w o a d)
    awaits None is none = answers None none (await w o None d) refl
    awaits (Some a) is none = go (log.first a d.clerk.log) refl
      where
        owing : (n : ℕ) → log.first a d.clerk.log ≡ Some n → (b : Bool) → b ≡ true → Comes w d (elim b as (λ z. Tried) [ true ↦ Waits (ask_for a d) | false ↦ answer_with w (answer.Reply o.reply) None o.touched d ])
        owing n f true e = inr (inr (inl (a, numbers d calm.free.batches counters.batches a n f, ap (asked_in w.call) done ∙ is, picks d calm.free.batches counters.batches a n f, ap Waits (asks-for d calm.free.batches counters.batches a n f))))
        owing n f false e = absurd (grind (arith, e))

        go : (f : Option ℕ) → log.first a d.clerk.log ≡ f → Comes w d (elim (is_owing w.begun f) as (λ z. Tried) [ true ↦ Waits (ask_for a d) | false ↦ answer_with w (answer.Reply o.reply) None o.touched d ])
        go None f = answers None none (answer_with w (answer.Reply o.reply) None o.touched d) refl
        go (Some n) f = owing n f (nat_le n w.begun) (owes n (first-below (log.is_asked a) d.clerk.log.next d.clerk.log.undurable n waits.behind f))

    issues : (u : Update) → o.update ≡ Some u → Comes w d (issue_if_room w o u d)
    issues u is = go (suits u d.clerk.cache) (log.is_full d.clerk.log) (log.ops_are_spent d.clerk.log) (waits.issues o u done is).0 (waits.issues o u done is).1 counters.ops
      where
        go : (a b c : Bool) → a ≡ true → b ≡ false → c ≡ false
            → Comes w d (elim a as (λ z. Tried) [
              | false ↦ Waits d
              | true ↦ elim b as (λ z. Tried) [
                | true ↦ Waits (ask_for Rattle.ec_log.specs.declared.state.Asked.TheVariants.All d)
                | false ↦ elim c as (λ z. Tried) [
                  | true ↦ Waits (clerk.spend Rattle.ec_base.specs.declared.counter.Counter.TheVariants.Op d)
                  | false ↦ answer_with w (answer.Reply o.reply) (Some d.clerk.log.next) o.touched (updated (Some u) d)
                ]
              ]
            ])
        go true false false e f g = answers (Some u) is _ refl
        go true false true e f g = absurd (grind (arith, g))
        go true true c e f g = absurd (grind (arith, f))
        go false b c e f g = absurd (grind (arith, e))

    settles : (u : Option Update) → o.update ≡ u → Comes w d (clerk.settle_outcome w o u d)
    settles None is = awaits (awaited w.call o) refl is
    settles (Some u) is = issues u is

  pub comes : Comes w d (try w d)
  comes = by (verdict w.call d.clerk) refl
    where
      below : (x : ℕ) (h : Hold) → verdict w.call d.clerk ≡ Need x h → is_below (mode x d.clerk.cache) h ≡ true
      below x h e = lacks-below x h d.clerk.cache calm.free.limits (need-lacks d.clerk.cache w.call (first_id d.clerk.ids) x h (as-unowed ∙ e))

      by : (v : Verdict) → verdict w.call d.clerk ≡ v → Comes w d (try_verdict w v d)
      by (Need x h) e = inl (x, h, e, below x h e, ap Waits (wants-it d calm x h (below x h e)))
      by (NeedIds xs) e = inr (inl (xs, e, no-ids d.clerk.ids (idless-none d.clerk.cache w.call (first_id d.clerk.ids) xs (as-unowed ∙ e)), ap Waits (asks-room d calm counters)))
      by (Lost ns xs) e = absurd (never-lost d.clerk.cache w.call (first_id d.clerk.ids) ns xs (as-unowed ∙ e))
      by (Done o) e = settles o e o.update refl
