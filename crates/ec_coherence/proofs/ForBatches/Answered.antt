-- The clerk's answer with an update, the end that a record makes, and a batch that is sent again.
use Rattle.std.proofs.Common.{◌≡◌, refl, sym, ap, subst, ◌∙◌, ℕ, true, false, ◌&&◌, cond, T, List, [], ◌∷◌, ◌++◌}
use Rattle.std.specs.Prelude.{◌==◌, Option, Some, is_some, Result, Ok, Err}
use Rattle.ec_base.specs.Tables.{Table, at}
use Rattle.ec_base.specs.declared.ids.Age.{Age}
use Rattle.ec_volume.specs.Update.{has_operand, is_sound}
use Rattle.ec_volume.specs.declared.update.Update.{Update}
use Rattle.ec_plain.specs.declared.call.Call.{Call}
use Rattle.ec_sessions.specs.Slots as slots
use Rattle.ec_sessions.specs.declared.slot.Slot.{Slot}
use Rattle.ec_wire.specs.declared.msg.Msg.{Msg}
use Rattle.ec_wire.specs.declared.msg.Msg.TheVariants.{Flush, Ended}
use Rattle.ec_durable.specs.Durable.{slot, made, step, with_slot, is_session}
use Rattle.ec_durable.specs.declared.state.Durable.{Durable}
use Rattle.ec_durable.specs.declared.record.RecordFault.{RecordFault}
use Rattle.ec_durable.specs.declared.record.RecordFault.TheVariants as fault
use Rattle.ec_durable.specs.declared.record.Record.TheVariants as record_of
use Rattle.ec_cache.specs.Cache as cache
use Rattle.ec_log.specs.Log.{batch}
use Rattle.ec_protocol.specs.Clerk.{with_update, suits, less_id, first_id}
use Rattle.ec_protocol.specs.declared.clerk.Clerk.{Clerk}
use Rattle.ec_protocol.specs.declared.server.Server.{Server}
use Rattle.ec_coherence.specs.System.{System, with_start}
use Rattle.ec_coherence.specs.Sessions.{SessionsAgree}
use Rattle.ec_coherence.specs.Tokens.{TokensAgree, view, IsWrite}
use Rattle.ec_coherence.specs.Log.{LogsAgree}
use Rattle.ec_coherence.specs.Images.{ImagesAgree}
use Rattle.ec_coherence.specs.Steps.{end_session}
use Rattle.ec_coherence.proofs.ForClerk.CacheChange.{behind, behind-changed, behind-writes, suits-held, ids-left}
use Rattle.ec_coherence.proofs.ForBatches.Carried.{slot-same, slot-other}
use Rattle.ec_coherence.proofs.ForBatches.Ending as ending
use Rattle.ec_coherence.proofs.ForBatches.Issued as issued
use Rattle.ec_coherence.proofs.ForBatches.LogChange as changes
use Rattle.ec_coherence.proofs.ForServer.Tables.{same_some}
use Rattle.ec_base.proofs.Bools.{left as and_first, and-both as and_both, is-true, holds-true as holds}
use Rattle.ec_base.proofs.Numbers.{same-self as same}

-- An answer with an update.
module _ (g : System) (sa : SessionsAgree g) (ta : TokensAgree (view g)) (lo : LogsAgree g) (im : ImagesAgree g) (c s : ℕ) (age : Age) (k : Clerk)
    (is-owner : g.ghost.owner s ≡ Some (c, age)) (at-start : g.clerks c age.boot ≡ Some k) (sk : k.session ≡ Some s) (sl : Slot) (here : slot g.durable c ≡ Some sl) (of : sl.session ≡ s) (opened : T sl.is_open)
    (u : Update) (xs : List ℕ) (place : ℕ) (calls : Table (Table (ℕ × Call)))
    (fits : T (suits u k.cache)) (writes : (x : ℕ) → T (has_operand x u) → IsWrite (at x k.cache.held)) (fresh : (x : ℕ) → made u ≡ Some x → first_id k.ids ≡ Some x) where
  abbrev sound : T (is_sound u)
  sound = and_first (is_sound u) _ fits

  abbrev pub answered : Clerk
  answered = let m = with_update u k in record m { cache = cache.all_used xs m.cache }

  abbrev pub after-answer : System
  after-answer = record g { clerks = with_start c age.boot answered g.clerks; calls = calls; ghost = record (g.ghost) { kept = g.ghost.kept ++ record { clerk = c; boot = age.boot; number = k.log.next; place = place; update = u } ∷ [] } }

  pub answer-logs : LogsAgree after-answer
  answer-logs = issued.issue-logs g sa ta lo im c s age k is-owner at-start sk sl here of opened u (behind u xs k.cache sound) (less_id u k.ids) place calls sound (suits-held u k.cache fits writes)
      (behind-changed u xs k.cache sound) (behind-writes u xs k.cache sound) (ids-left u k.ids fresh)

  pub answer-images : ImagesAgree after-answer
  answer-images = issued.issue-images g sa ta lo im c s age k is-owner at-start sk sl here of opened u (behind u xs k.cache sound) (less_id u k.ids) place calls sound (suits-held u k.cache fits writes)
      (behind-changed u xs k.cache sound) (behind-writes u xs k.cache sound) (ids-left u k.ids fresh)

-- A record that ends the session.
module _ (g : System) (sa : SessionsAgree g) (ta : TokensAgree (view g)) (lo : LogsAgree g) (im : ImagesAgree g) (c s : ℕ) (sl : Slot) (here : slot g.durable c ≡ Some sl) (of : sl.session ≡ s) (opened : T sl.is_open)
    (v : Option Server) (low mask : ℕ) where
  abbrev pub ended : Durable
  ended = with_slot c (slots.ended (slot g.durable c)) g.durable

  pub end-steps : step (record_of.End c s) g.durable ≡ Ok ended
  end-steps = ap (λ b. elim b as (λ z. Result Durable RecordFault) [ false ↦ Err fault.NoSession | true ↦ Ok ended ])
      (ap (is_session s) here ∙ is-true (sl.is_open && (sl.session == s)) (and_both sl.is_open (sl.session == s) opened (holds (sl.session == s) (ap (λ t. t == s) of ∙ same s))))

  abbrev pub after-end : System
  after-end = record g { durable = ended; server = v; pool = g.pool ++ (c, Ended s low mask) ∷ []; ghost = end_session g s g.ghost }

  closed : (sm : Slot) → slot ended c ≡ Some sm → T sm.is_open → ⊥
  closed sm p t = subst (λ m. T m.is_open) (sym (same_some (sym left ∙ p))) t
    where
      left : slot ended c ≡ Some (record sl { is_open = false; unspent = [] })
      left = slot-same g.durable c sl (slots.ended (slot g.durable c)) here ∙ ap slots.ended here ∙ ap (λ b. Some (cond b (record sl { is_open = false; unspent = [] }) sl)) (is-true sl.is_open opened)

  pub end-logs : LogsAgree after-end
  end-logs = ending.end-logs g sa ta lo im c s sl here of opened ended v ((c, Ended s low mask) ∷ []) refl refl (λ j n. slot-other g.durable c j (slots.ended (slot g.durable c)) n) closed (tt, tt)

  pub end-images : ImagesAgree after-end
  end-images = ending.end-images g sa ta lo im c s sl here of opened ended v ((c, Ended s low mask) ∷ []) refl refl (λ j n. slot-other g.durable c j (slots.ended (slot g.durable c)) n) closed

-- A batch under way is sent again, in any epoch.
module _ (g : System) (lo : LogsAgree g) (im : ImagesAgree g) (c s : ℕ) (age : Age) (k : Clerk) (is-owner : g.ghost.owner s ≡ Some (c, age)) (at-start : g.clerks c age.boot ≡ Some k) (sk : k.session ≡ Some s)
    (calls : Table (Table (ℕ × Call))) (b e : ℕ) (under : T (is_some (at b k.log.batches))) where
  abbrev again : List (ℕ × Msg)
  again = (c, Flush s e b (batch b k.log)) ∷ []

  again-changes : changes.Changes g lo im c s age k is-owner at-start sk k.log calls again
  again-changes = record {
    same_next = refl;
    knows = λ sl kn j sm p q r z. kn;
    sent = λ sl kn j sm p q r z d u t. (refl, t);
    messages = (λ j sm p q r u m i. subst (λ w. (batch b k.log ≡ batch b w.log) × T (is_some (at b (w.log).batches))) (same_some (sym (changes.in-h g lo im c s age k is-owner at-start sk k.log calls again) ∙ i)) (refl, under), tt);
  }

  pub again-logs : LogsAgree (changes.h g lo im c s age k is-owner at-start sk k.log calls again)
  again-logs = changes.change-logs g lo im c s age k is-owner at-start sk k.log calls again again-changes

  pub again-images : ImagesAgree (changes.h g lo im c s age k is-owner at-start sk k.log calls again)
  again-images = changes.change-images g lo im c s age k is-owner at-start sk k.log calls again again-changes
