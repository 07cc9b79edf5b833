-- A batch is committed and answered.
use Rattle.std.proofs.Common.{◌≡◌, refl, sym, ap, subst, ◌∙◌, arith, ◌≤◌, ◌+◌, ℕ, Bool, true, false, ◌==◌, List, [], ◌∷◌, ◌++◌, length, Some, None, Ok}
use Rattle.ec_base.specs.Tables.{at}
use Rattle.ec_base.specs.declared.ids.Hold.{Hold}
use Rattle.ec_order.specs.Order.{Issued}
use Rattle.ec_sessions.specs.Windows.{has, after_mark}
use Rattle.ec_sessions.specs.declared.slot.Slot.{Slot}
use Rattle.ec_sessions.specs.declared.window.Window.{Window}
use Rattle.ec_sessions.specs.OfTokens.Tokens.{Holder}
use Rattle.ec_sessions.specs.OfRecall.Due.{actions, wants_after}
use Rattle.ec_wire.specs.declared.msg.Msg.{Msg}
use Rattle.ec_wire.specs.declared.msg.Msg.TheVariants as msg
use Rattle.ec_durable.specs.Durable.{step, slot}
use Rattle.ec_durable.specs.declared.record.Record.TheVariants.{Batch}
use Rattle.ec_durable.specs.declared.state.Durable.{Durable}
use Rattle.ec_log.specs.declared.state.LogState.{LogState}
use Rattle.ec_protocol.specs.Server.{Serving, serving, take, has_claimed, may_write}
use Rattle.ec_protocol.specs.declared.server.Server.{Server}
use Rattle.ec_quiet.specs.Facts.{IsOrderly, IsIn, IsSending, Lacks, session_clerk}
use Rattle.ec_quiet.specs.Measure.{measure}
use Rattle.ec_quiet.specs.Phases.{Flushes, Keeps, Saves, Saved, InPhase, IsNoted, IsRecalled, IsSaving, main, is_back}
use Rattle.ec_quiet.specs.Scenes.{Mail, Scene, delivered}
use Rattle.ec_quiet.specs.Works.{Work}
use Rattle.ec_machine_laws.specs.Records.{IsRestOf}
use Rattle.ec_machine_laws.specs.Serving.{IsAtWork}
use Rattle.ec_machine_laws.proofs.Recording.{batch-own, batch-rest}
use Rattle.ec_machine_laws.proofs.Stepping.{batch-committed}
use Rattle.ec_quiet.specs.OfDeliveries.Orderly.{HasMoved, KeepsBacks}
use Rattle.ec_quiet.proofs.OfDeliveries.Claimed.{working-at, behind}
use Rattle.ec_quiet.proofs.OfDeliveries.Idling.{idle-stays, like-record}
use Rattle.ec_quiet.proofs.OfDeliveries.Ordering.{batch-orderly}
use Rattle.ec_quiet.proofs.OfDeliveries.Returned.{first-other}
use Rattle.ec_quiet.proofs.OfDeliveries.Windowed.{next-new, next-moved}
use Rattle.ec_quiet.proofs.OfDeliveries.Working.{in-moves, working-moves, wanting-stays, keeps-backs, main-joins, main-front}
use Rattle.ec_quiet.specs.OfDeliveries.Coming.{IsTaken, IsNext}
use Rattle.ec_quiet.proofs.OfDeliveries.Frames.{like-but, other-clerk, no-back, nothing-due, want-stays}
use Rattle.ec_base.proofs.Numbers.{same-self, turned}

-- The window of a batch that is the next one.

next-number : (w : Window) (n b : ℕ) → w.low + 2 ≡ n → n ≡ b + 1 → b ≡ w.low + 1
next-number w n b p q = omega (arith, p, q)

module _ (sl : Slot) (l : LogState) (b : ℕ) (window : Lacks 1 sl l) (sending : IsSending l b) where
  is-next : b ≡ sl.window.low + 1
  is-next = next-number sl.window l.next_batch b window.0 sending.next

  pub batch-new : has sl.window b ≡ false
  batch-new = ap (has sl.window) is-next ∙ next-new sl.window window.1

  pub window-moved : (unspent : List ℕ) → Lacks 0 (record sl { window = after_mark sl.window b; unspent = unspent }) l
  window-moved unspent =
      let moved : after_mark sl.window b ≡ record { low = sl.window.low + 1; mask = 0 } = ap (after_mark sl.window) is-next ∙ next-moved sl.window window.1 in
      (omega (arith, ap (λ w. w.low) moved, window.0), ap (λ w. w.mask) moved)

-- What a batch leaves of the server.

module _ (v : Server) (c s b : ℕ) (ops : Issued) (d : Durable) (sl : Slot) (there : slot v.durable c ≡ Some sl) (ok : step (Batch c s b ops) v.durable ≡ Ok d) where
  abbrev after : Server
  after = record v { durable = d }

  pub rest-of : IsRestOf c v.durable d
  rest-of = batch-rest c s b ops v.durable d sl there ok

  abbrev pub now-slot : Slot
  now-slot = record sl { window = after_mark sl.window b; unspent = (batch-own c s b ops v.durable d sl there ok).0 }

  pub slot-moves : (xs : List ℕ) (ss : ℕ) → HasMoved xs v after c ss sl now-slot
  slot-moves xs ss = record {
    slot = (batch-own c s b ops v.durable d sl there ok).1;
    session = refl;
    is_open = refl;
    epoch = rest-of.epoch;
    claimed = λ e. e;
    number = omega arith;
    tokens = λ x m. refl;
  }

-- A holder's batch.

module _ (j : Work) (sc : Scene) (x : ℕ) (h : Hold) (r : Holder) (b : ℕ) (ops : Issued) (more : Bool) (rest : Mail) (ip : InPhase j sc (Flushes x h r b ops more)) (mail : sc.mail ≡ (session_clerk sc.server r.0, msg.Flush r.0 sc.server.durable.epoch b ops) ∷ rest)
    (d : Durable) (ok : step (Batch (session_clerk sc.server r.0) r.0 b ops) sc.server.durable ≡ Ok d) where
  abbrev noted : IsNoted j sc x h (r ∷ [])
  noted = ip.facts.0

  abbrev called : IsRecalled 1 sc x h r b more
  called = ip.facts.1

  abbrev c : ℕ
  c = session_clerk sc.server r.0

  abbrev flush : ℕ × Msg
  flush = (c, msg.Flush r.0 sc.server.durable.epoch b ops)

  abbrev kept : ℕ × Msg
  kept = (c, msg.Kept r.0 d.epoch b)

  abbrev now : Server
  now = record sc.server { durable = d }

  abbrev kept-scene : Scene
  kept-scene = record sc { server = now; mail = rest ++ kept ∷ [] }

  holder-at : IsAtWork c r.0 sc.server.durable.epoch called.slot (serving sc.server)
  holder-at = record {
    slot = called.inside.there;
    session = ap (λ z. z == r.0) called.session ∙ same-self r.0;
    is_open = called.inside.is_open;
    epoch = same-self sc.server.durable.epoch;
    claimed = sym (ap (λ z. has_claimed z sc.server) called.session) ∙ called.inside.claimed;
  }

  apart : (c == j.clerk) ≡ false
  apart = other-clerk j sc.server r.0 (record { slot_is = called.slot; there = called.inside.there; session = called.session; is_open = called.inside.is_open }) noted.wanting.slot noted.wanting.working.inside.there noted.wanting.working.session
      (first-other sc.server.tokens j.session x h r [] noted.conflicts)

  orderly : IsOrderly now sc.clerks
  orderly = batch-orderly sc.server sc.clerks c r.0 b ops d called.slot ip.orderly called.inside.there ok

  abbrev moved : Slot
  moved = now-slot sc.server c r.0 b ops d called.slot called.inside.there ok

  -- the session's clerk is the same
  same-clerk : session_clerk now r.0 ≡ c
  same-clerk = ap (session_clerk now) (sym called.session) ∙ orderly.own c moved (slot-moves sc.server c r.0 b ops d called.slot called.inside.there ok [] r.0).slot

  not-own : is_back j flush ≡ false
  not-own = no-back j c flush.1 refl

  keeps : KeepsBacks j sc.mail (rest ++ kept ∷ [])
  keeps = subst (λ ms. KeepsBacks j ms (rest ++ kept ∷ [])) (sym mail) (keeps-backs j flush rest (kept ∷ []) not-own refl)

  alone : main j rest ≡ []
  alone =
      let both : flush ∷ main j rest ≡ flush ∷ [] = sym (main-front j flush rest not-own) ∙ ap (main j) (sym mail) ∙ ip.main_is in
      cc

  rest-is : IsRestOf c sc.server.durable d
  rest-is = rest-of sc.server c r.0 b ops d called.slot called.inside.there ok

  recalled-on : IsRecalled 0 kept-scene x h r b more
  recalled-on = record {
    slot = moved;
    clerk = called.clerk;
    there = ap (λ z. at z sc.clerks) same-clerk ∙ called.there;
    inside = subst (λ z. IsIn now z moved called.clerk) (sym same-clerk)
        (in-moves [] sc.server now c r.0 called.slot moved called.clerk called.session (slot-moves sc.server c r.0 b ops d called.slot called.inside.there ok [] r.0) called.inside);
    session = called.session;
    waiting = called.waiting;
    pushes = called.pushes;
    asking = called.asking;
    recalls = called.recalls;
    limits = called.limits;
    sending = called.sending;
    window = window-moved called.slot called.clerk.log b called.window called.sending (batch-own c r.0 b ops sc.server.durable d called.slot called.inside.there ok).0;
    grants = called.grants;
    answered = called.answered;
    same = λ y m. called.same y m;
    writes = called.writes;
    last = called.last;
  }

  kept-phase : InPhase j kept-scene (Keeps x h r b more)
  kept-phase = record {
    clerk = ip.clerk;
    number = ip.number;
    main_is = main-joins j rest (kept ∷ []) refl ∙ ap (λ ms. ms ++ kept ∷ []) alone ∙ ap (λ z. (z, msg.Kept r.0 d.epoch b) ∷ []) (sym same-clerk);
    orderly = orderly;
    others = λ i k away busy there.
        let far : (c == i) ≡ false = ap (λ z. z == i) (sym same-clerk) ∙ busy in
        let o = ip.others i k away far there in
        (o.0, idle-stays [] sc.server now i o.0 k (like-record sc.server d c i (o.0).session rest-is (turned i c ∙ far)) o.1);
    facts = (
      record {
        last = noted.last;
        wanting = wanting-stays [] [] j sc now (rest ++ kept ∷ []) (λ y m. m) (like-but [] sc.server now j.clerk j.session (like-record sc.server d c j.clerk j.session rest-is (turned j.clerk c ∙ apart))) keeps x h noted.last noted.wanting;
        recalls = noted.recalls;
        conflicts = noted.conflicts;
        some = noted.some;
      },
      recalled-on,
    );
  }

  kept-less : measure j kept-scene (Keeps x h r b more) + 32 ≤ measure j sc (Flushes x h r b ops more)
  kept-less = omega (arith, ap length keeps.same)

  flush-taken : may_write sc.server.tokens r.0 ops ≡ true → take c flush.1 sc.server ≡ record { server = now; sent = kept ∷ []; rec = Some (Batch c r.0 b ops); spent = None }
  flush-taken may =
      batch-committed c r.0 sc.server.durable.epoch b ops called.slot sc.server d holder-at (batch-new called.slot called.clerk.log b called.window called.sending) may ok
      (ap (actions sc.server.tokens) noted.recalls ∙ nothing-due j x h (r ∷ []) sc.server.tokens noted.conflicts noted.some)
      (ap (wants_after sc.server.tokens) noted.recalls ∙ want-stays j x h (r ∷ []) sc.server.tokens noted.conflicts noted.some ∙ sym noted.recalls)

pub holders-flush : (j : Work) (sc : Scene) (x : ℕ) (h : Hold) (r : Holder) (b : ℕ) (ops : Issued) (more : Bool) (rest : Mail) → InPhase j sc (Flushes x h r b ops more) → IsTaken (session_clerk sc.server r.0) r.0 b ops sc.server
    → sc.mail ≡ (session_clerk sc.server r.0, msg.Flush r.0 sc.server.durable.epoch b ops) ∷ rest
    → IsNext j sc (Flushes x h r b ops more) (delivered (session_clerk sc.server r.0) (msg.Flush r.0 sc.server.durable.epoch b ops) rest sc) (Keeps x h r b more)
holders-flush j sc x h r b ops more rest ip ready mail = (
  subst (λ u. InPhase j (behind sc rest u) (Keeps x h r b more)) (sym taken) (kept-phase j sc x h r b ops more rest ip mail ready.1 ready.2),
  subst (λ u. measure j (behind sc rest u) (Keeps x h r b more) + 32 ≤ measure j sc (Flushes x h r b ops more)) (sym taken) (kept-less j sc x h r b ops more rest ip mail ready.1 ready.2),
)
  where
    answered : Serving
    answered = record { server = record sc.server { durable = ready.1 }; sent = (session_clerk sc.server r.0, msg.Kept r.0 ready.1.epoch b) ∷ []; rec = Some (Batch (session_clerk sc.server r.0) r.0 b ops); spent = None }

    taken : take (session_clerk sc.server r.0) (msg.Flush r.0 sc.server.durable.epoch b ops) sc.server ≡ answered
    taken = flush-taken j sc x h r b ops more rest ip mail ready.1 ready.2 ready.0

-- A batch of the line's clerk.

module _ (j : Work) (sc : Scene) (b : ℕ) (ops : Issued) (more : Bool) (rest : Mail) (ip : InPhase j sc (Saves b ops more)) (mail : sc.mail ≡ (j.clerk, msg.Flush j.session sc.server.durable.epoch b ops) ∷ rest) (d : Durable)
    (ok : step (Batch j.clerk j.session b ops) sc.server.durable ≡ Ok d) where
  abbrev saving : IsSaving 1 j sc b more
  saving = ip.facts.1

  abbrev in-slot : slot sc.server.durable j.clerk ≡ Some saving.slot
  in-slot = saving.working.inside.there

  abbrev own-flush : ℕ × Msg
  own-flush = (j.clerk, msg.Flush j.session sc.server.durable.epoch b ops)

  abbrev own-kept : ℕ × Msg
  own-kept = (j.clerk, msg.Kept j.session d.epoch b)

  abbrev saved : Server
  saved = record sc.server { durable = d }

  abbrev saved-scene : Scene
  saved-scene = record sc { server = saved; mail = rest ++ own-kept ∷ [] }

  abbrev own-moved : Slot
  own-moved = now-slot sc.server j.clerk j.session b ops d saving.slot in-slot ok

  flush-no-back : is_back j own-flush ≡ false
  flush-no-back = no-back j j.clerk own-flush.1 refl

  saved-keeps : KeepsBacks j sc.mail (rest ++ own-kept ∷ [])
  saved-keeps = subst (λ ms. KeepsBacks j ms (rest ++ own-kept ∷ [])) (sym mail) (keeps-backs j own-flush rest (own-kept ∷ []) flush-no-back refl)

  saved-alone : main j rest ≡ []
  saved-alone =
      let both : own-flush ∷ main j rest ≡ own-flush ∷ [] = sym (main-front j own-flush rest flush-no-back) ∙ ap (main j) (sym mail) ∙ ip.main_is in
      cc

  saved-phase : InPhase j saved-scene (Saved b more)
  saved-phase = record {
    clerk = ip.clerk;
    number = ip.number;
    main_is = main-joins j rest (own-kept ∷ []) refl ∙ ap (λ ms. ms ++ own-kept ∷ []) saved-alone;
    orderly = batch-orderly sc.server sc.clerks j.clerk j.session b ops d saving.slot ip.orderly in-slot ok;
    others = λ i k away busy there.
        let o = ip.others i k away refl there in
        (o.0, idle-stays [] sc.server saved i o.0 k (like-record sc.server d j.clerk i (o.0).session (rest-of sc.server j.clerk j.session b ops d saving.slot in-slot ok) away) o.1);
    facts = (
      ip.facts.0,
      record {
        slot = own-moved;
        clerk = saving.clerk;
        working = working-moves [] [] j sc saved (rest ++ own-kept ∷ []) (λ y m. m) saving.slot own-moved (slot-moves sc.server j.clerk j.session b ops d saving.slot in-slot ok [] j.session) saved-keeps saving.clerk saving.working;
        task = saving.task;
        asking = saving.asking;
        sending = saving.sending;
        window = window-moved saving.slot saving.clerk.log b saving.window saving.sending (batch-own j.clerk j.session b ops sc.server.durable d saving.slot in-slot ok).0;
        grants = saving.grants;
        answered = saving.answered;
        aged = saving.aged;
        last = saving.last;
      },
    );
  }

  saved-less : measure j saved-scene (Saved b more) + 32 ≤ measure j sc (Saves b ops more)
  saved-less = omega (arith, ap length saved-keeps.same)

  own-taken : may_write sc.server.tokens j.session ops ≡ true → take j.clerk own-flush.1 sc.server ≡ record { server = saved; sent = own-kept ∷ []; rec = Some (Batch j.clerk j.session b ops); spent = None }
  own-taken may =
      batch-committed j.clerk j.session sc.server.durable.epoch b ops saving.slot sc.server d (working-at [] j sc saving.slot saving.clerk saving.working) (batch-new saving.slot saving.clerk.log b saving.window saving.sending) may ok
      (ap (actions sc.server.tokens) ip.facts.0) (ap (wants_after sc.server.tokens) ip.facts.0 ∙ sym ip.facts.0)

pub clerks-save : (j : Work) (sc : Scene) (b : ℕ) (ops : Issued) (more : Bool) (rest : Mail) → InPhase j sc (Saves b ops more) → IsTaken j.clerk j.session b ops sc.server → sc.mail ≡ (j.clerk, msg.Flush j.session sc.server.durable.epoch b ops) ∷ rest
    → IsNext j sc (Saves b ops more) (delivered j.clerk (msg.Flush j.session sc.server.durable.epoch b ops) rest sc) (Saved b more)
clerks-save j sc b ops more rest ip ready mail = (
  subst (λ u. InPhase j (behind sc rest u) (Saved b more)) (sym taken) (saved-phase j sc b ops more rest ip mail ready.1 ready.2),
  subst (λ u. measure j (behind sc rest u) (Saved b more) + 32 ≤ measure j sc (Saves b ops more)) (sym taken) (saved-less j sc b ops more rest ip mail ready.1 ready.2),
)
  where
    answered : Serving
    answered = record { server = record sc.server { durable = ready.1 }; sent = (j.clerk, msg.Kept j.session ready.1.epoch b) ∷ []; rec = Some (Batch j.clerk j.session b ops); spent = None }

    taken : take j.clerk (msg.Flush j.session sc.server.durable.epoch b ops) sc.server ≡ answered
    taken = own-taken j sc b ops more rest ip mail ready.1 ready.2 ready.0
