-- A clerk tries a waiting call.
use Rattle.std.proofs.Common.{◌≡◌, refl, sym, ap, subst, ◌∙◌, inl, inr, ◌⊎◌, ℕ, Bool, true, false, T, List, [], ◌∷◌, ◌++◌}
use Rattle.std.specs.Prelude.{Option, None, Some, if◌then◌else◌}
use Rattle.ec_base.specs.Tables.{at}
use Rattle.ec_base.specs.declared.counter.Counter.TheVariants as counter
use Rattle.ec_volume.specs.Update.{has_operand}
use Rattle.ec_volume.specs.Volume.{image_after, image_next, after}
use Rattle.ec_volume.specs.declared.image.Image.{Image}
use Rattle.ec_volume.specs.declared.update.Update.{Update}
use Rattle.ec_plain.specs.declared.call.Outcome.{Outcome}
use Rattle.ec_history.specs.History.{Each, Op, updates}
use Rattle.ec_history.specs.declared.entry.Answer.{Answer}
use Rattle.ec_history.specs.declared.entry.Answer.TheVariants as answer
use Rattle.ec_log.specs.Log as log
use Rattle.ec_log.specs.declared.state.Asked.{Asked}
use Rattle.ec_log.specs.declared.state.Asked.TheVariants.{All}
use Rattle.ec_cache.specs.OfReport.Report.{clear}
use Rattle.ec_cache.specs.declared.resolve.verdict.Verdict.{Verdict}
use Rattle.ec_cache.specs.declared.resolve.verdict.Verdict.TheVariants.{Need, Lost, NeedIds, Done}
use Rattle.ec_wire.specs.Messages.{is_held_mode}
use Rattle.ec_protocol.specs.declared.clerk.Waiting.{Waiting}
use Rattle.ec_protocol.specs.Clerk.{Doing, spend, with_clerk, with_update, Tried, Waits, Answered, answer_with, awaited, await, is_owing, suits, issue, issue_if_room, settle_outcome, try_verdict, try, verdict, need_of, ask_for}
use Rattle.ec_coherence.specs.Clerks.{acting}
use Rattle.ec_coherence.specs.System.{System, Ghost, seen, seen_ops}
use Rattle.ec_coherence.specs.Tokens.{View, side, view, Names, IsWrite}
use Rattle.ec_coherence.proofs.ForClerk.Acting.{is-in}
use Rattle.ec_coherence.proofs.ForClerk.Answer.{goes-used, goes-update, goes-answer}
use Rattle.ec_coherence.proofs.ForClerk.Goes.{Goes, goes-rest, goes-spend, goes-ask}
use Rattle.ec_coherence.proofs.ForClerk.Seen.{seen-agrees}
use Rattle.ec_coherence.proofs.ForClerk.SendWant.{goes-want-once, goes-ask-room}
use Rattle.ec_history.proofs.OfLaws.ForPlacing.Left.{updates-next}

-- whether it waits or is answered
abbrev pub OnTried : (Doing → Type 0) → Tried → Type 0
OnTried P (Waits e) = P e
OnTried P (Answered e) = P e

module _ (w : View) (c s : ℕ) (d : Doing) where
  goes-answer-with : (p : Waiting) (a : Answer) (op : Option ℕ) (xs : List ℕ) (e : Doing) → Goes w c s d e → OnTried (Goes w c s d) (answer_with p a op xs e)
  goes-answer-with p a op xs e g = goes-answer w c s d _ (goes-used w c s d e g xs) p.no a op

  goes-await : (p : Waiting) (o : Outcome) (a : Option Asked) (e : Doing) → Goes w c s d e → OnTried (Goes w c s d) (await p o a e)
  goes-await p o None e g = goes-answer-with p (answer.Reply o.reply) None o.touched e g
  goes-await p o (Some a) e g = go (is_owing p.begun (log.first a e.clerk.log))
    where
      go : (b : Bool) → OnTried (Goes w c s d) (elim b as (λ z. Tried) [ true ↦ Waits (ask_for a e) | false ↦ answer_with p (answer.Reply o.reply) None o.touched e ])
      go true = goes-ask w c s d a e g
      go false = goes-answer-with p (answer.Reply o.reply) None o.touched e g

  -- the images to be seen are still the old ones
  goes-issue : (p : Waiting) (o : Outcome) (u : Update) (e : Doing) → Goes w c s d e → OnTried (Goes w c s d) (issue p o u e)
  goes-issue p o u e g = go (log.ops_are_spent e.clerk.log)
    where
      go : (b : Bool) → OnTried (Goes w c s d) (elim b as (λ z. Tried) [ true ↦ Waits (spend counter.Op e) | false ↦ answer_with p (answer.Reply o.reply) (Some e.clerk.log.next) o.touched (with_clerk (with_update u) e) ])
      go true = goes-spend w c s d e g counter.Op
      go false = goes-answer-with p (answer.Reply o.reply) (Some e.clerk.log.next) o.touched _ (goes-update w c s d e g u)

  goes-issue-if-room : (p : Waiting) (o : Outcome) (u : Update) (e : Doing) → Goes w c s d e → OnTried (Goes w c s d) (issue_if_room p o u e)
  goes-issue-if-room p o u e g = go (suits u e.clerk.cache) (log.is_full e.clerk.log)
    where
      go : (a b : Bool) → OnTried (Goes w c s d) (elim a as (λ z. Tried) [ false ↦ Waits e | true ↦ elim b as (λ z. Tried) [ true ↦ Waits (ask_for All e) | false ↦ issue p o u e ] ])
      go false b = g
      go true true = goes-ask w c s d All e g
      go true false = goes-issue p o u e g

  goes-outcome : (p : Waiting) (o : Outcome) (u : Option Update) (e : Doing) → Goes w c s d e → OnTried (Goes w c s d) (settle_outcome p o u e)
  goes-outcome p o None e g = goes-await p o (awaited p.call o) e g
  goes-outcome p o (Some u) e g = goes-issue-if-room p o u e g

  goes-verdict : (p : Waiting) (v : Verdict) (e : Doing) → Goes w c s d e → Each (λ q. T (is_held_mode q.1) × Names (acting w c s d) q.0) (need_of v) → OnTried (Goes w c s d) (try_verdict p v e)
  goes-verdict p (Need x h) e g n = goes-want-once w c s d x h n.0.0 n.0.1 e g
  goes-verdict p (NeedIds xs) e g n = goes-ask-room w c s d e g
  goes-verdict p (Lost ns xs) e g n = goes-answer-with p (answer.Lost ns) None xs _ (goes-rest w c s d e g (record (e.clerk) { owed = clear xs e.clerk.owed }) refl refl)
  goes-verdict p (Done o) e g n = goes-outcome p o o.update e g

  pub goes-try : (p : Waiting) (e : Doing) → Goes w c s d e → Each (λ q. T (is_held_mode q.1) × Names (acting w c s d) q.0) (need_of (verdict p.call e.clerk)) → OnTried (Goes w c s d) (try p e)
  goes-try p e g n = goes-verdict p (verdict p.call e.clerk) e g n

  -- Then the images to be seen change, where the clerk holds Write.
  pub goes-seen : (f : ℕ → ℕ → Image) (e : Doing) → Goes w c s d e → T (w.is_open s) → ((t x : ℕ) → (f t x ≡ w.seen t x) ⊎ ((T (w.taken t) → T (w.is_open t)) × IsWrite (at x e.clerk.cache.held))) → Goes (record w { seen = f }) c s d e
  goes-seen f e g its changes = record { session = g.session; got = g.got; agree = seen-agrees (acting w c s e) s (side e.clerk) f g.agree (is-in w c s e) its changes }

-- What an issued operation changes of them.

image-more : (x : ℕ) (i : Image) (us : List Update) (u : Update) → image_after x i (us ++ u ∷ []) ≡ image_next x (image_after x i us) u
image-more x i [] u = refl
image-more x i (v ∷ us) u = image-more x (image_next x i v) us u

-- where each session that was taken and isn't frozen is open, they change only of such, and at the operation's operands
pub issued-seen : (g : System) (γ : Ghost) (o : Op) (P : ℕ → Type 0) → ((t : ℕ) → γ.frozen t ≡ None → T (γ.taken t) → T ((view g).is_open t)) → ((x : ℕ) → has_operand x o.update ≡ true → P x) → (t x : ℕ)
    → (seen (record g { ghost = record γ { kept = γ.kept ++ o ∷ [] } }) t x ≡ seen (record g { ghost = γ }) t x) ⊎ ((T (γ.taken t) → T ((view g).is_open t)) × P x)
issued-seen g γ o P opens writes t x = go (γ.frozen t) refl
  where
    by-operand : (b : Bool) → has_operand x o.update ≡ b → (i : Image) → γ.frozen t ≡ None
        → ((if b then Rattle.ec_volume.specs.Update.effect o.update x i else i) ≡ i) ⊎ ((T (γ.taken t) → T ((view g).is_open t)) × P x)
    by-operand true e i f = inr (opens t f, writes x e)
    by-operand false e i f = inl refl

    go : (z : Option (List Op)) → γ.frozen t ≡ z
        → (after g.origin (updates (seen_ops z (γ.kept ++ o ∷ []))) x ≡ after g.origin (updates (seen_ops z γ.kept)) x) ⊎ ((T (γ.taken t) → T ((view g).is_open t)) × P x)
    go (Some ks) e = inl refl
    go None e = subst (λ i. (i ≡ after g.origin (updates γ.kept) x) ⊎ ((T (γ.taken t) → T ((view g).is_open t)) × P x))
        (sym (ap (λ us. after g.origin us x) (updates-next γ.kept o) ∙ image-more x (g.origin x) (updates γ.kept) o.update))
        (by-operand (has_operand x o.update) refl (after g.origin (updates γ.kept) x) e)

-- An operation of the session is kept: the step stands with the images that are to be seen now.
pub issued-goes : (g : System) (c s : ℕ) (d e : Doing) (γ : Ghost) (o : Op) → Goes (view (record g { ghost = γ })) c s d e → T ((view g).is_open s) → ((t : ℕ) → γ.frozen t ≡ None → T (γ.taken t) → T ((view g).is_open t))
    → ((x : ℕ) → has_operand x o.update ≡ true → IsWrite (at x e.clerk.cache.held)) → Goes (view (record g { ghost = record γ { kept = γ.kept ++ o ∷ [] } })) c s d e
issued-goes g c s d e γ o h its opens writes = goes-seen (view (record g { ghost = γ })) c s d (λ t x. seen (record g { ghost = record γ { kept = γ.kept ++ o ∷ [] } }) t x) e h its
    (λ t x. issued-seen g γ o (λ x. IsWrite (at x e.clerk.cache.held)) opens writes t x)
