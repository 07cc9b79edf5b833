-- Tries of waiting calls: each answer issues at most one operation, and its call waits no longer.
use Rattle.std.proofs.Common.{◌≡◌, refl, sym, ap, ◌∙◌, arith, ◌≤◌, ◌+◌, ℕ, zero, suc, Bool, true, false, List, [], ◌∷◌, ◌++◌, length}
use Rattle.std.specs.Prelude.{Option, None, Some}
use Rattle.ec_base.specs.Limits.{last_counter}
use Rattle.ec_base.specs.declared.counter.Counter.TheVariants as counter
use Rattle.ec_volume.specs.declared.update.Update.{Update}
use Rattle.ec_history.specs.declared.entry.Answer.{Answer}
use Rattle.ec_history.specs.declared.entry.Answer.TheVariants as answer
use Rattle.ec_plain.specs.declared.call.Outcome.{Outcome}
use Rattle.ec_log.specs.Log as log
use Rattle.ec_log.specs.declared.state.Asked.{Asked}
use Rattle.ec_log.specs.declared.state.Asked.TheVariants.{All}
use Rattle.ec_cache.specs.declared.resolve.verdict.Verdict.{Verdict}
use Rattle.ec_cache.specs.declared.resolve.verdict.Verdict.TheVariants.{Need, Lost, NeedIds, Done}
use Rattle.ec_protocol.specs.Clerk.{Doing, Tried, Answered, Waits, answer_with, ask_for, ask_pushes, answer_recalls, await, awaited, evict, has_session, is_owing, issue, issue_if_room, settle, settle_outcome, spend, suits, try, try_all, try_each, try_rounds, try_verdict, verdict, with_clerk, with_update}
use Rattle.ec_protocol.specs.declared.clerk.Out.TheVariants as out
use Rattle.ec_protocol.specs.declared.clerk.Waiting.{Waiting}
use Rattle.ec_machine_laws.proofs.Growing.{Grows, Same, alike, as-sent, asked, asks-room, evicts, grows-on, prepares, same-on, still, wants}
use Rattle.ec_base.proofs.Numbers.{above-limit}

-- an answer, by which perhaps an operation was issued
record Answers (d e : Doing) : Type 0 where
  grows : Grows d e
  waits : e.clerk.waiting ≡ d.clerk.waiting
  next : e.clerk.log.next ≤ d.clerk.log.next + 1

abbrev Tries : Doing → Tried → Type 0
Tries d (Waits e) = Same d e
Tries d (Answered e) = Answers d e

by-answer : (d : Doing) (w : Waiting) (a : Answer) (op : Option ℕ) (xs : List ℕ) → Tries d (answer_with w a op xs d)
by-answer d w a op xs = record { grows = alike d _ refl refl refl refl (omega (arith, as-sent d.outs ((out.Answer w.no a op) ∷ []))); waits = refl; next = omega arith }

waits-for : (w : Waiting) (o : Outcome) (a : Option Asked) (d : Doing) → Tries d (await w o a d)
waits-for w o None d = by-answer d w (answer.Reply o.reply) None o.touched
waits-for w o (Some a) d = go (is_owing w.begun (log.first a d.clerk.log))
  where
    go : (b : Bool) → Tries d (elim b as (λ z. Tried) [ true ↦ Waits (ask_for a d) | false ↦ answer_with w (answer.Reply o.reply) None o.touched d ])
    go true = asked d a
    go false = by-answer d w (answer.Reply o.reply) None o.touched

issues : (w : Waiting) (o : Outcome) (u : Update) (d : Doing) → Tries d (issue w o u d)
issues w o u d = go (log.ops_are_spent d.clerk.log) refl
  where
    go : (b : Bool) → log.ops_are_spent d.clerk.log ≡ b → Tries d (elim b as (λ z. Tried) [ true ↦ Waits (spend counter.Op d) | false ↦ answer_with w (answer.Reply o.reply) (Some d.clerk.log.next) o.touched (with_clerk (with_update u) d) ])
    go true e = record {
      grows = record { asks = omega arith; ops = omega arith; batches = omega arith; sends = omega arith; unspent = λ f s. absurd (omega (arith, f.ops, above-limit last_counter d.clerk.log.next e)) };
      waits = refl;
      next = refl;
    }
    go false e = record {
      grows = record { asks = omega arith; ops = omega arith; batches = omega arith; sends = omega (arith, as-sent d.outs ((out.Answer w.no (answer.Reply o.reply) (Some d.clerk.log.next)) ∷ [])); unspent = λ f s. s };
      waits = refl;
      next = omega arith;
    }

issues-if-room : (w : Waiting) (o : Outcome) (u : Update) (d : Doing) → Tries d (issue_if_room w o u d)
issues-if-room w o u d = go (suits u d.clerk.cache) (log.is_full d.clerk.log)
  where
    go : (a b : Bool) → Tries d (elim a as (λ z. Tried) [ false ↦ Waits d | true ↦ elim b as (λ z. Tried) [ true ↦ Waits (ask_for All d) | false ↦ issue w o u d ] ])
    go false b = still d
    go true true = asked d All
    go true false = issues w o u d

settles-outcome : (w : Waiting) (o : Outcome) (u : Option Update) (d : Doing) → Tries d (settle_outcome w o u d)
settles-outcome w o None d = waits-for w o (awaited w.call o) d
settles-outcome w o (Some u) d = issues-if-room w o u d

tries-verdict : (w : Waiting) (v : Verdict) (d : Doing) → Tries d (try_verdict w v d)
tries-verdict w (Need x h) d = wants x h d
tries-verdict w (NeedIds xs) d = asks-room d
tries-verdict w (Lost ns xs) d = record { grows = alike d _ refl refl refl refl (omega (arith, as-sent d.outs ((out.Answer w.no (answer.Lost ns) None) ∷ []))); waits = refl; next = omega arith }
tries-verdict w (Done o) d = settles-outcome w o o.update d

tries : (w : Waiting) (d : Doing) → Tries d (try w d)
tries w d = tries-verdict w (verdict w.call d.clerk) d

-- A whole step: operations and calls that wait, together, don't become more.
pub record Steps (d e : Doing) : Type 0 where
  pub grows : Grows d e
  pub calls : e.clerk.log.next + length e.clerk.waiting ≤ d.clerk.log.next + length d.clerk.waiting

pub as-step : (d e : Doing) → Same d e → Steps d e
as-step d e s = record { grows = s.grows; calls = omega (arith, s.next, ap length s.waits) }

pub steps-on : (d e f : Doing) → Steps d e → Steps e f → Steps d f
steps-on d e f a b = record { grows = grows-on d e f a.grows b.grows; calls = omega (arith, a.calls, b.calls) }

abbrev EachTries : Doing → Tried → Type 0
EachTries d (Waits e) = Same d e
EachTries d (Answered e) = Steps d e

regroup : (xs : List Waiting) (y : Waiting) (zs : List Waiting) → (xs ++ y ∷ []) ++ zs ≡ xs ++ y ∷ zs
regroup [] y zs = refl
regroup (x ∷ xs) y zs = ap (λ l. x ∷ l) (regroup xs y zs)

one-less : (xs : List Waiting) (y : Waiting) (zs : List Waiting) → length (xs ++ y ∷ zs) ≡ length (xs ++ zs) + 1
one-less [] y zs = omega arith
one-less (x ∷ xs) y zs = omega (arith, one-less xs y zs)

each : (before ws : List Waiting) (d : Doing) → d.clerk.waiting ≡ before ++ ws → EachTries d (try_each before ws d)
each before [] d e = still d
each before (w ∷ ws) d e = go (try w d) (tries w d) (each (before ++ w ∷ []) ws)
  where
    later : (f : Doing) → Same d f → (t : Tried) → EachTries f t → EachTries d t
    later f s (Waits g) r = same-on d f g s r
    later f s (Answered g) r = steps-on d f g (as-step d f s) r

    go : (t : Tried) → Tries d t → ((f : Doing) → f.clerk.waiting ≡ (before ++ w ∷ []) ++ ws → EachTries f (try_each (before ++ w ∷ []) ws f)) → EachTries d (elim t as (λ z. Tried) [ Waits f ↦ try_each (before ++ w ∷ []) ws f | Answered f ↦ Answered (with_clerk (λ k. record k { waiting = before ++ ws }) f) ])
    go (Waits f) s r = later f s (try_each (before ++ w ∷ []) ws f) (r f (s.waits ∙ e ∙ sym (regroup before w ws)))
    go (Answered f) a r = record {
      grows = grows-on d f _ a.grows (alike f _ refl refl refl refl (omega arith));
      calls = omega (arith, a.next, ap length e, one-less before w ws);
    }

rounds : (n : ℕ) (d : Doing) → Steps d (try_rounds n d)
rounds zero d = as-step d d (still d)
rounds (suc n) d = go (try_each [] d.clerk.waiting d) (each [] d.clerk.waiting d refl) (rounds n)
  where
    go : (t : Tried) → EachTries d t → ((e : Doing) → Steps e (try_rounds n e)) → Steps d (elim t as (λ z. Doing) [ Waits e ↦ e | Answered e ↦ try_rounds n e ])
    go (Waits e) s r = as-step d e s
    go (Answered e) s r = steps-on d e (try_rounds n e) s (r e)

pub settles : (d : Doing) → Steps d (settle d)
settles d =
    let e : Doing = elim (has_session d.clerk) as (λ z. Doing) [ true ↦ ask_pushes (answer_recalls d) | false ↦ d ] in
    steps-on d e (settle d) (as-step d e (prepares d)) (steps-on e (try_all e) (settle d) (rounds (suc (length e.clerk.waiting)) e) (as-step (try_all e) (evict (try_all e)) (evicts (try_all e))))
