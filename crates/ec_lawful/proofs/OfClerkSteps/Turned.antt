-- What a verdict makes of its clerk, and of the operation that it issues.
use Rattle.std.proofs.Common.{◌≡◌, refl, sym, ap, ◌∙◌, inl, inr, ◌⊎◌, ◌+◌, ℕ, true, false, T, List, [], ◌∷◌, Option, Some, None}
use Rattle.std.specs.Prelude.{if◌then◌else◌, is_some}
use Rattle.std.proofs.lemmas.Bool.{true≢false}
use Rattle.ec_base.specs.Tables.{at, or_else}
use Rattle.ec_volume.specs.Update.{has_operand, listed}
use Rattle.ec_volume.specs.declared.update.Update.{Update}
use Rattle.ec_volume.specs.declared.update.Update.TheVariants.{Make, Drop, Move, Put, Len, Mode, Stamp, Order, Shift, Owner}
use Rattle.ec_plain.specs.Plain.{is_sync, plain}
use Rattle.ec_plain.specs.declared.call.Call.{Call}
use Rattle.ec_plain.specs.declared.call.Call.TheVariants as call
use Rattle.ec_plain.specs.declared.call.Reply.{Reply}
use Rattle.ec_plain.specs.declared.call.Reply.TheVariants as reply
use Rattle.ec_plain.specs.declared.call.Refusal.TheVariants as no
use Rattle.ec_plain.specs.declared.call.Outcome.{Outcome}
use Rattle.ec_cache.specs.Cache.{images_held}
use Rattle.ec_history.specs.History.{Op, numbers}
use Rattle.ec_history.specs.Placing.{shows}
use Rattle.ec_history.specs.declared.entry.Answer.{Answer}
use Rattle.ec_history.specs.declared.entry.Answer.TheVariants as answer
use Rattle.ec_durable.specs.Durable.{made}
use Rattle.ec_cache.specs.OfReport.Report.{Owed}
use Rattle.ec_cache.specs.OfResolve.Agreement.{IsFor, IsReady, Shows}
use Rattle.ec_cache.specs.declared.resolve.verdict.Verdict.{Verdict}
use Rattle.ec_cache.specs.declared.resolve.verdict.Verdict.TheVariants.{Need, Lost, NeedIds, Done}
use Rattle.ec_cache.proofs.OfResolve.Verdicts.{done-ready, done-says}
use Rattle.ec_protocol.specs.Clerk.{first_id, verdict}
use Rattle.ec_protocol.specs.declared.clerk.Clerk.{Clerk}
use Rattle.ec_coherence.specs.Tokens.{IsWrite}
use Rattle.ec_coherence.proofs.ForCommits.Needs.{holds-write}
use Rattle.ec_coherence.specs.Answers.{Gives, op_given}
use Rattle.ec_lawful.specs.OfClerkSteps.Answering.{answered_clerk, done_clerk}
use Rattle.ec_lawful.proofs.OfClerkSteps.Refusing.{plain-fair}
use Rattle.ec_base.proofs.Options.{none_some}
use Rattle.ec_base.proofs.Bools.{is-true}

-- The clerk stays who it is.

module _ (k : Clerk) where
  done-id : (o : Outcome) (u : Option Update) → (done_clerk o u k).id ≡ k.id
  done-id o None = refl
  done-id o (Some u) = refl

  pub same-id : (v : Verdict) → (answered_clerk v k).id ≡ k.id
  same-id (Need x h) = refl
  same-id (Lost ns xs) = refl
  same-id (NeedIds xs) = refl
  same-id (Done o) = done-id o o.update

  done-age : (o : Outcome) (u : Option Update) → (done_clerk o u k).age ≡ k.age
  done-age o None = refl
  done-age o (Some u) = refl

  pub same-age : (v : Verdict) → (answered_clerk v k).age ≡ k.age
  same-age (Need x h) = refl
  same-age (Lost ns xs) = refl
  same-age (NeedIds xs) = refl
  same-age (Done o) = done-age o o.update

  done-session : (o : Outcome) (u : Option Update) → (done_clerk o u k).session ≡ k.session
  done-session o None = refl
  done-session o (Some u) = refl

  pub same-session : (v : Verdict) → (answered_clerk v k).session ≡ k.session
  same-session (Need x h) = refl
  same-session (Lost ns xs) = refl
  same-session (NeedIds xs) = refl
  same-session (Done o) = done-session o o.update

-- Its numbers.

module _ (most : ℕ) (k : Clerk) (a : Answer) (op : Option ℕ) (rest : Owed) where
  abbrev number_of : Option Update → Option ℕ
  number_of u = elim u [ None ↦ None | Some w ↦ Some k.log.next ]

  pub next-is : (v : Verdict) → Gives most k v a op rest → (answered_clerk v k).log.next ≡ (if is_some op then k.log.next + 1 else k.log.next)
  next-is (Need x h) g = absurd g
  next-is (Lost ns xs) g = ap (λ z. if is_some z then k.log.next + 1 else k.log.next) (sym g.1)
  next-is (NeedIds xs) g = ap (λ z. if is_some z then k.log.next + 1 else k.log.next) (sym g.4)
  next-is (Done o) g = go o.update ∙ ap (λ z. if is_some z then k.log.next + 1 else k.log.next) (sym g.1)
    where
      go : (u : Option Update) → (done_clerk o u k).log.next ≡ (if is_some (number_of u) then k.log.next + 1 else k.log.next)
      go None = refl
      go (Some w) = refl

  pub named-is : (c b p : ℕ) (v : Verdict) → Gives most k v a op rest → numbers (op_given c b p k v) ≡ listed op
  named-is c b p (Need x h) g = absurd g
  named-is c b p (Lost ns xs) g = ap listed (sym g.1)
  named-is c b p (NeedIds xs) g = ap listed (sym g.4)
  named-is c b p (Done o) g = go o.update ∙ ap listed (sym g.1)
    where
      go : (u : Option Update) → numbers (elim u as (λ z. List Op) [ None ↦ [] | Some w ↦ record { clerk = c; boot = b; number = k.log.next; place = p; update = w } ∷ [] ]) ≡ listed (number_of u)
      go None = refl
      go (Some w) = refl

  -- an answer that doesn't show the session has no operation
  quiet-call : (cl : Call) (r : Reply) → shows cl (answer.Reply r) ≡ false → (is_sync cl ≡ true) ⊎ (r ≡ reply.Refused no.Root)
  quiet-call call.Sync r e = inl refl
  quiet-call cl (reply.Refused no.Root) e = inr refl
  quiet-call cl r e = absurd (true≢false e)

  pub quiet-is : (cl : Call) → Gives most k (verdict cl k) a op rest → shows cl a ≡ false → op ≡ None
  quiet-is cl g s = go (verdict cl k) refl g
    where
      shown : Shows k.cache (first_id k.ids) (images_held k.cache)
      shown = record { images = λ x t. refl; unmade = λ x t. refl }

      its : IsFor (first_id k.ids) (or_else 0 (first_id k.ids))
      its x q = ap (or_else 0) q

      sync : (c2 : Call) → is_sync c2 ≡ true → (plain (images_held k.cache) c2 (or_else 0 (first_id k.ids))).update ≡ None
      sync call.Sync e = refl
      sync c2 e = absurd (true≢false (sym e))

      done : (o : Outcome) → verdict cl k ≡ Done o → shows cl (answer.Reply o.reply) ≡ false → o.update ≡ None
      done o e s =
          let is : plain (images_held k.cache) cl (or_else 0 (first_id k.ids)) ≡ o = done-says k.cache k.owed cl (first_id k.ids) o e (images_held k.cache) shown (or_else 0 (first_id k.ids)) its in
          elim (quiet-call cl o.reply s) [
            | inl y ↦ sym (ap (λ z. z.update) is) ∙ sync cl y
            | inr y ↦ sym (ap (λ z. z.update) is) ∙ plain-fair (or_else 0 (first_id k.ids)) (images_held k.cache) cl no.Root (ap (λ z. z.reply) is ∙ y)
          ]

      go : (v : Verdict) → verdict cl k ≡ v → Gives most k v a op rest → op ≡ None
      go (Need x h) e g = absurd g
      go (Lost ns xs) e g = g.1
      go (NeedIds xs) e g = g.4
      go (Done o) e g = g.1 ∙ ap number_of (done o e (sym (ap (shows cl) g.0) ∙ s))

-- What an update that is done needs is there.
module _ (cl : Call) (k : Clerk) (o : Outcome) (e : verdict cl k ≡ Done o) (u : Update) (q : o.update ≡ Some u) where
  ready : IsReady k.cache k.owed cl (first_id k.ids) o
  ready = done-ready k.cache k.owed cl (first_id k.ids) o e

  pub writes-all : (x : ℕ) → T (has_operand x u) → IsWrite (at x k.cache.held)
  writes-all x m = holds-write x k.cache (is-true _ (ready.written u q x m))

  pub makes-first : (x : ℕ) → made u ≡ Some x → first_id k.ids ≡ Some x
  makes-first x m = go u q m
    where
      go : (w : Update) → o.update ≡ Some w → made w ≡ Some x → first_id k.ids ≡ Some x
      go (Make dir name obj kind) q m = ready.made dir name obj kind q ∙ m
      go (Drop dir name obj kind) q m = absurd (none_some m)
      go (Move dir from to obj kind victim) q m = absurd (none_some m)
      go (Put obj at bytes inside) q m = absurd (none_some m)
      go (Len obj len) q m = absurd (none_some m)
      go (Mode obj mode) q m = absurd (none_some m)
      go (Stamp obj stamp) q m = absurd (none_some m)
      go (Order objs) q m = absurd (none_some m)
      go (Shift dir from into to obj kind victim up) q m = absurd (none_some m)
      go (Owner obj owner) q m = absurd (none_some m)
