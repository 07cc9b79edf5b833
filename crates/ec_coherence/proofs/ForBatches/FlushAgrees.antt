-- Behind a batch under way, with its record and its message, sessions, tokens, logs and images agree.
use Rattle.std.proofs.Common.{◌≡◌, refl, sym, ap, subst, ◌∙◌, cond, arith, length-set, ℕ, suc, Bool, true, false, not, T, List, [], ◌∷◌, ◌++◌, length}
use Rattle.std.specs.Prelude.{◌==◌, Some}
use Rattle.std.proofs.lemmas.List.{append_assoc}
use Rattle.ec_base.specs.Tables.{at, keys}
use Rattle.ec_volume.specs.declared.update.Update.{Update}
use Rattle.ec_history.specs.History.{Each}
use Rattle.ec_sessions.specs.Slots.{Slots, slot_at, with_slot}
use Rattle.ec_sessions.specs.WindowLaws.{has-after_same, kept_over}
use Rattle.ec_sessions.specs.Windows.{has, after_mark}
use Rattle.ec_sessions.specs.declared.slot.Slot.{Slot}
use Rattle.ec_wire.specs.Messages.{is_sound}
use Rattle.ec_wire.specs.declared.msg.Msg.{Msg}
use Rattle.ec_wire.specs.declared.msg.Msg.TheVariants.{Kept}
use Rattle.ec_durable.specs.Durable.{slot, made, spent, carried_out}
use Rattle.ec_durable.specs.declared.state.Durable.{Durable}
use Rattle.ec_durable.specs.declared.record.Record.TheVariants as record_of
use Rattle.ec_log.specs.Log.{batch}
use Rattle.ec_sessions.specs.OfTokens.Tokens.{token}
use Rattle.ec_protocol.specs.Server.{Serving, flush, tell}
use Rattle.ec_protocol.specs.declared.clerk.Clerk.{Clerk}
use Rattle.ec_coherence.specs.System.{System, Ghost, clerk_in, recorded}
use Rattle.ec_coherence.specs.Sessions as sessions
use Rattle.ec_coherence.specs.Sessions.{SessionsAgree}
use Rattle.ec_coherence.specs.Tokens.{TokensAgree, view, eff, tables_of}
use Rattle.ec_coherence.specs.Log.{LogsAgree, mine}
use Rattle.ec_coherence.specs.Images.{ImagesAgree}
use Rattle.ec_coherence.specs.Steps.{serving_in, keep_batch, Under}
use Rattle.ec_coherence.specs.BatchLaws.{BatchFacts}
use Rattle.ec_coherence.proofs.ForBatches.Carried.{all_carried, updates_in, less}
use Rattle.ec_coherence.proofs.ForBatches.Committed.{is-new}
use Rattle.ec_coherence.proofs.ForBatches.Committing.{Commits, commits, committed, within}
use Rattle.ec_coherence.proofs.ForBatches.CommitAgrees.{commit-logs, commit-images}
use Rattle.ec_coherence.proofs.ForBatches.Flushed.{flushes}
use Rattle.ec_coherence.proofs.ForBatches.Marked.{marked_step, marked-sessions, marked-tokens}
use Rattle.ec_coherence.proofs.ForServer.Said.{said-agrees}
use Rattle.ec_coherence.proofs.ForServer.SlotLaws.{in-range, slot-changed}
use Rattle.ec_coherence.proofs.ForServer.Tables.{each-map, same_some}
use Rattle.ec_base.proofs.Numbers.{same-self as same, equal}
use Rattle.ec_history.proofs.HistoryLemmas.{each-more as each-append}
use Rattle.ec_base.proofs.Bools.{is-true, holds-true as holds}

-- lists of slots that show the same
same-slots : (xs ys : Slots) → length xs ≡ length ys → ((i : ℕ) → slot_at xs i ≡ slot_at ys i) → xs ≡ ys
same-slots [] [] l e = refl
same-slots [] (y ∷ ys) l e = absurd (omega arith)
same-slots (x ∷ xs) [] l e = absurd (omega arith)
same-slots (x ∷ xs) (y ∷ ys) l e = ap (λ z. z ∷ xs) (e 0) ∙ ap (λ zs. y ∷ zs) (same-slots xs ys (omega arith) (λ i. e (suc i)))

carried-length : (c : ℕ) (ops : List (ℕ × Update)) (d : Durable) → length (all_carried c ops d).sessions ≡ length d.sessions
carried-length c [] d = refl
carried-length c (op ∷ ops) d = carried-length c ops (carried_out c op.1 d) ∙ length-set d.sessions c (spent (made op.1) (slot d c))

module _ (g : System) (γ : Ghost) (t : Serving) (u : Under g t γ) (c : ℕ) (sl : Slot) (k : Clerk)
    (in_slot : slot t.server.durable c ≡ Some sl) (opened : T sl.is_open) (there : clerk_in (serving_in t γ g) sl.session ≡ Some k)
    (b : ℕ) (ns : List ℕ) (under : at b k.log.batches ≡ Some ns) (unmarked : T (not (has sl.window b)))
    (claimed : (x : ℕ) → eff (view (serving_in t γ g)) sl.session x ≡ recorded (token t.server.tokens sl.session x) t.server.durable.epoch) where
  abbrev here : System
  here = serving_in t γ g

  abbrev s : ℕ
  s = sl.session

  abbrev pub ops : List (ℕ × Update)
  ops = batch b k.log

  abbrev pub now : Durable
  now = committed here u.invariant.sessions u.invariant.tokens u.invariant.logs u.invariant.images c s sl k in_slot refl opened there b ns under unmarked

  abbrev pub newslot : Slot
  newslot = record sl { window = after_mark sl.window b; unspent = less (Rattle.ec_coherence.specs.Log.made_by (updates_in ops)) sl.unspent }

  abbrev γ' : Ghost
  γ' = keep_batch c (sl.age).boot (keys ops) γ

  abbrev kept : List (ℕ × Msg)
  kept = (c, Kept s now.epoch b) ∷ []

  -- the server behind this durable state
  abbrev pub committed_step : Durable → Serving
  committed_step d = record t { server = record (t.server) { durable = d }; rec = Some (record_of.Batch c s b ops) }

  abbrev pub behind : Durable → System
  behind d = serving_in (tell c (Kept s now.epoch b) (committed_step d)) γ' g

  pub done : Commits here c s b ops sl (Rattle.ec_coherence.specs.System.is_of (γ.owner s)) now
  done = commits here u.invariant.sessions u.invariant.tokens u.invariant.logs u.invariant.images c s sl k in_slot refl opened there b ns under unmarked

  more : (n : ℕ) → T (has sl.window n) → T (has newslot.window n)
  more n h = holds (has newslot.window n) (kept_over sl.window (b ∷ []) n (is-true (has sl.window n) h))

  is-marked : T (has newslot.window b)
  is-marked = holds (has newslot.window b) (has-after_same sl.window b (is-new sl.window b unmarked
      (within k.log sl.window (mine γ s) γ.is_durable ((u.invariant.logs.logs s c sl in_slot refl opened k there).knows) b ns under unmarked)))

  -- the durable state as the facts on slots see it
  abbrev seen : Durable
  seen = record (t.server.durable) { volume = now.volume; next_id = now.next_id; sessions = with_slot c (Some newslot) t.server.durable.sessions }

  pub slots-now : now.sessions ≡ with_slot c (Some newslot) t.server.durable.sessions
  slots-now = same-slots now.sessions (with_slot c (Some newslot) t.server.durable.sessions)
      (length-set (all_carried c ops t.server.durable).sessions c _ ∙ carried-length c ops t.server.durable ∙ sym (length-set t.server.durable.sessions c (Some newslot)))
      (λ i. shows i ∙ sym (slot-changed t.server.durable.sessions c i (Some newslot) (in-range t.server.durable.sessions c sl in_slot)))
    where
      shows : (i : ℕ) → slot now i ≡ cond (i == c) (Some newslot) (slot t.server.durable i)
      shows i = go (i == c) refl
        where
          go : (z : Bool) → (i == c) ≡ z → slot now i ≡ cond z (Some newslot) (slot t.server.durable i)
          go true e = ap (slot now) (equal i c e) ∙ done.own
          go false e = done.others i (λ q. absurd (differ q e))
            where
              differ : i ≡ c → (i == c) ≡ false → ⊥
              differ q f = let h : true ≡ false = sym (ap (λ z. z == c) q ∙ same c) ∙ f in absurd (cc)

  now-is : seen ≡ now
  now-is = λ i. record { volume = now.volume; sessions = sym slots-now i; next_id = now.next_id; next_session = sym done.next_session i; epoch = sym done.epoch i; max_objects = sym done.most i }

  abbrev marked : Serving
  marked = marked_step g γ t u.invariant.sessions c sl in_slot opened newslot refl refl opened more now.volume now.next_id (record_of.Batch c s b ops)

  old-sessions : SessionsAgree (serving_in marked γ g)
  old-sessions = marked-sessions g γ t u.invariant.sessions c sl in_slot opened newslot refl refl opened more now.volume now.next_id (record_of.Batch c s b ops)

  old-tokens : TokensAgree (view (serving_in marked γ' g))
  old-tokens = marked-tokens g γ t u.invariant.sessions c sl in_slot opened newslot refl refl opened more now.volume now.next_id (record_of.Batch c s b ops) done.next_id u.invariant.tokens

  kept-fits : sessions.Fits (behind seen) c (Kept s now.epoch b)
  kept-fits = ((sl.age, (u.invariant.sessions.slots c sl in_slot).2), λ so p q. subst (λ z. T (has z.window b)) (same_some (sym own ∙ p)) is-marked)
    where
      own : slot seen c ≡ Some newslot
      own = slot-changed t.server.durable.sessions c c (Some newslot) (in-range t.server.durable.sessions c sl in_slot) ∙ ap (λ z. cond z (Some newslot) (slot t.server.durable c)) (same c)

  flush-sessions : SessionsAgree (behind seen)
  flush-sessions = let a = old-sessions in record {
    sixteen = a.sixteen;
    next = a.next;
    slots = a.slots;
    owned = a.owned;
    once = a.once;
    taken = a.taken;
    told = a.told;
    starts = a.starts;
    rounds = a.rounds;
    running = a.running;
    in_session = a.in_session;
    without = a.without;
    current = a.current;
    sound = subst (Each (λ m. T (is_sound m.1))) (append_assoc g.pool t.sent kept) (each-append (λ m. T (is_sound m.1)) (g.pool ++ t.sent) kept a.sound (tt, tt));
    messages = subst (Each (λ m. sessions.Fits (behind seen) m.0 m.1)) (append_assoc g.pool t.sent kept)
        (each-append (λ m. sessions.Fits (behind seen) m.0 m.1) (g.pool ++ t.sent) kept
        (each-map (λ m. sessions.Fits (serving_in marked γ g) m.0 m.1) (λ m. sessions.Fits (behind seen) m.0 m.1) (g.pool ++ t.sent) (λ m q. q) a.messages) (kept-fits, tt));
  }

  flush-tokens : TokensAgree (view (behind seen))
  flush-tokens = subst (λ p. TokensAgree (record (view (serving_in marked γ' g)) { pool = p })) (append_assoc g.pool t.sent kept)
      (said-agrees (view (serving_in marked γ' g)) (tables_of t.server) c (Kept s now.epoch b) old-tokens tt)

  flush-logs : LogsAgree (behind now)
  flush-logs = subst (λ p. LogsAgree (record (behind now) { pool = p })) (append_assoc g.pool t.sent kept)
      (commit-logs here u.invariant.sessions u.invariant.tokens u.invariant.logs u.invariant.images c s sl k in_slot refl opened there b ns under unmarked (behind now).server now.epoch)

  flush-images : ImagesAgree (behind now)
  flush-images = subst (λ p. ImagesAgree (record (behind now) { pool = p })) (append_assoc g.pool t.sent kept)
      (commit-images here u.invariant.sessions u.invariant.tokens u.invariant.logs u.invariant.images c s sl k in_slot refl opened there b ns under unmarked (behind now).server now.epoch)

  pub flush-agrees : BatchFacts (serving_in (flush c s b ops sl t) γ' g)
  flush-agrees = subst (λ z. BatchFacts (serving_in z γ' g)) (sym (flushes here u.invariant.sessions u.invariant.tokens u.invariant.logs u.invariant.images c s sl k in_slot refl opened there b ns under unmarked t refl claimed)) (record {
    sessions = subst (λ d. SessionsAgree (behind d)) now-is flush-sessions;
    tokens = subst (λ d. TokensAgree (view (behind d))) now-is flush-tokens;
    logs = flush-logs;
    images = flush-images;
  })
