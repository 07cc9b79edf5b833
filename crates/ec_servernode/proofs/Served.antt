-- From one turn at the lock to what the pass knows.
use Rattle.std.proofs.Common.{◌≡◌, ℕ, ◌+◌, ◌≤◌, ◌<◌, ◌⊎◌, Bool, true, false, List, [], ◌∷◌, ◌++◌, Option, Some, None, Result, Ok, Err, MatchResult, IfOk, IfErr, sym, refl, ap, ◌∙◌, subst, inl, inr, ⊎_elim, arith, append_assoc, append-nil}
use mathlib.Core.List.{IsPrefix}
use Rattle.ec_base.specs.Limits.{clerk_count}
use Rattle.ec_disk.specs.Disk.{Counts}
use Rattle.ec_wire.specs.Codes.{said, msg_code}
use Rattle.ec_wire.specs.CodeAnswers.{ReadsMessage}
use Rattle.ec_wire.specs.declared.msg.Msg.{Msg}
use Rattle.ec_wire.specs.declared.fault.WireFault.{WireFault}
use Rattle.ec_wire.specs.declared.fault.WireFault.TheVariants as wire
use Rattle.ec_durable.specs.Durable.{slot}
use Rattle.ec_durable.specs.declared.state.Durable.{Durable}
use Rattle.ec_sessions.specs.Slots.{is_open}
use Rattle.ec_protocol.specs.declared.server.Server.{Server}
use Rattle.ec_durable.specs.declared.record.Record.{Record}
use Rattle.ec_link.specs.declared.link.Got.TheVariants as got
use Rattle.ec_link.specs.Links.{Heard, added}
use Rattle.ec_link.specs.LinkAnswers.{Reads}
use Rattle.ec_lock.specs.PassViews.{first, front, IsPassOf}
use Rattle.ec_lock.specs.Steps.{of}
use Rattle.ec_lock.specs.declared.types.Pass.{Pass}
use Rattle.ec_lock.specs.declared.types.TracedLock.{TracedLock}
use Rattle.ec_servernode.specs.declared.step.Halt.{Halt}
use Rattle.ec_servernode.specs.declared.step.Deed.TheVariants.{Broke}
use Rattle.ec_servernode.specs.declared.step.Step.{Step}
use Rattle.ec_servernode.specs.declared.state.Node.{Node}
use Rattle.ec_servernode.specs.declared.state.Told.{Told}
use Rattle.ec_servernode.specs.declared.fault.ServeFault.{ServeFault}
use Rattle.ec_servernode.specs.declared.fault.ServeFault.TheVariants as fault
use Rattle.ec_servernode.specs.declared.caller.Caller.{Caller}
use Rattle.ec_servernode.specs.declared.caller.Refusal.{Refusal}
use Rattle.ec_servernode.specs.declared.passes.ServerPass.{ServerPass}
use Rattle.ec_servernode.specs.declared.shared.Turned.{Turned}
use Rattle.ec_servernode.specs.declared.shared.Turned.TheVariants as turned
use Rattle.ec_servernode.specs.Run.{number_of, is_for, owner, box_from, halted, leads, caller_from, caller_by}
use Rattle.ec_servernode.specs.Node.{queue_at, owner_at, state_of, Since}
use Rattle.ec_servernode.specs.Callers.{nobody}
use Rattle.ec_servernode.specs.TurnSteps.{More, Falls, Takes, EndsTurn, Gives, peer_of, EndsSession, Adds, AddsFall, HearFails, TakesMessage, Looked, Hears, HasNone, HasNext, NextFails, GivesNext, GaveBody, GaveNone, WasClear, ServeFails, Serves, RunsFrom, IsServerPass}
use Rattle.ec_servernode.proofs.Lists.{of_others, none_more}
use Rattle.ec_base.specs.Lists.{first_of}
use Rattle.ec_lock.proofs.StepsLemmas.{of-append}

fall_more : {K : Type 0} (pass : ℕ) (v w : Node K) → Falls pass v w → (more : List Step) × More pass v w more
fall_more pass v w t = ⊎_elim (λ (a : More pass v w []). ([], a)) (λ (a : (x : Step) × More pass v w (x ∷ []) × (x.deed ≡ Broke)). (a.0 ∷ [], a.1)) t

-- only steps of the pass were added
pub takes_more : {K : Type 0} (pass : ℕ) (bytes : List ℕ) (v w : Node K) (r : Result Told ServeFault) → Takes pass bytes v w r → (more : List Step) × More pass v w more
takes_more pass bytes v w (Ok told) t = (t.0.0 ∷ [], t.0.1)
takes_more pass bytes v w (Err fault.DiskFailed) t = (t.0 ∷ [], t.1)
takes_more pass bytes v w (Err fault.DiskStopped) t = (t.0 ∷ [], t.1)
takes_more pass bytes v w (Err (fault.Spent n)) t = (t.0 ∷ [], t.1)
takes_more pass bytes v w (Err fault.Down) t = ([], t.0)
takes_more pass bytes v w (Err fault.NoMemory) t = fall_more pass v w t
takes_more pass bytes v w (Err fault.Net) t = absurd t
takes_more pass bytes v w (Err (fault.Peer p)) t = absurd t
takes_more pass bytes v w (Err (fault.Long n)) t = absurd t

pub ends_more : {K : Type 0} (pass clerk : ℕ) (v w : Node K) (r : Result Told ServeFault) → EndsTurn pass clerk v w r → (more : List Step) × More pass v w more
ends_more pass clerk v w (Ok told) t = (t.0.0 ∷ [], t.0.1)
ends_more pass clerk v w (Err fault.DiskFailed) t = (t.0 ∷ [], t.1)
ends_more pass clerk v w (Err fault.DiskStopped) t = (t.0 ∷ [], t.1)
ends_more pass clerk v w (Err (fault.Spent n)) t = (t.0 ∷ [], t.1)
ends_more pass clerk v w (Err fault.Down) t = ([], t.0)
ends_more pass clerk v w (Err fault.NoMemory) t = fall_more pass v w t
ends_more pass clerk v w (Err fault.Net) t = absurd t
ends_more pass clerk v w (Err (fault.Peer p)) t = absurd t
ends_more pass clerk v w (Err (fault.Long n)) t = absurd t

pub gives_more : {K L : Type 0} (faults : L → ℕ) (got_by : L → Option (List (List ℕ))) (pass : ℕ) (caller : Caller) (v w : Node K) (before after : L) (r : Result Turned ServeFault) → Gives faults got_by pass caller v w before after r → (more : List Step) × More pass v w more
gives_more faults got_by pass caller v w before after (Ok turned.Gave) t = (t.0 ∷ [], t.2)
gives_more faults got_by pass caller v w before after (Ok turned.Idle) t = ([], t.0)
gives_more faults got_by pass caller v w before after (Ok turned.Replaced) t = ([], t.0)
gives_more faults got_by pass caller v w before after (Ok (turned.Took told)) t = absurd t
gives_more faults got_by pass caller v w before after (Ok turned.Busy) t = absurd t
gives_more faults got_by pass caller v w before after (Ok turned.Closed) t = absurd t
gives_more faults got_by pass caller v w before after (Err fault.Net) t = ([], t.0.0)
gives_more faults got_by pass caller v w before after (Err fault.Down) t = ([], t.0.0)
gives_more faults got_by pass caller v w before after (Err fault.NoMemory) t = ([], t.0)
gives_more faults got_by pass caller v w before after (Err fault.DiskFailed) t = absurd t.0
gives_more faults got_by pass caller v w before after (Err fault.DiskStopped) t = absurd t.0
gives_more faults got_by pass caller v w before after (Err (fault.Spent n)) t = absurd t.0
gives_more faults got_by pass caller v w before after (Err (fault.Peer p)) t = absurd t.0
gives_more faults got_by pass caller v w before after (Err (fault.Long n)) t = absurd t.0

pub own_only : {K : Type 0} (pass mine : ℕ) (before : List Step) (v w : Node K) → before ≡ v.trace.items → mine ≡ pass → (more : List Step) × More pass v w more → (n : ℕ) → ¬ (n ≡ mine) → of number_of n before ≡ of number_of n w.trace.items
own_only pass mine before v w e same m n ne =
    ap (of number_of n) e ∙ sym (ap (of number_of n) m.1.0 ∙ (of-append number_of n v.trace.items m.0 ∙ (ap (λ l. of number_of n v.trace.items ++ l) (of_others pass n m.0 m.1.1 (λ x. ne (x ∙ sym same))) ∙ append-nil (of number_of n v.trace.items))))

pub grown : {K : Type 0} (pass : ℕ) (before : List Step) (v w : Node K) → before ≡ v.trace.items → (more : List Step) × More pass v w more → IsPrefix before w.trace.items
grown pass before v w e m = (m.0, ap (λ l. l ++ m.0) e ∙ sym m.1.0)

pub none_added : (pass : ℕ) (steps : List Step) → Adds pass steps steps []
none_added pass steps = ([], append-nil steps, refl, tt)

pub adds_longer : (pass : ℕ) (before after own : List Step) → Adds pass before after own → IsPrefix before after
adds_longer pass before after own a = (a.0 ++ own, a.1)

module _ {K : Type 0} (pass : ℕ) (before after : List Step) (v w : Node K) (later : IsPrefix before v.trace.items) (own : of number_of pass before ≡ of number_of pass v.trace.items) (is : w.trace.items ≡ after)
    (halt_is : w.halt ≡ halted w.trace.items) where
  pub adds : (more : List Step) → More pass v w more → Adds pass before after more
  adds more m = (
    later.0,
    sym (append_assoc before later.0 more) ∙ (ap (λ l. l ++ more) later.1 ∙ (sym m.0 ∙ is)),
    none_more number_of pass before later.0 v.trace.items later.1 own,
    m.1,
  )

  adds_fall : Falls pass v w → AddsFall pass before after
  adds_fall t = ⊎_elim (λ (a : More pass v w []). inl (adds [] a)) (λ (a : (x : Step) × More pass v w (x ∷ []) × (x.deed ≡ Broke)). inr (a.0, adds (a.0 ∷ []) a.1, a.2)) t

  halted_is : (h : Option Halt) → w.halt ≡ h → halted after ≡ h
  halted_is h e = sym (halt_is ∙ ap halted is) ∙ e

  -- nothing was done
  pub looked_up : {A : Type 0} (otherwise : Result A ServeFault) → w.trace.items ≡ v.trace.items → w.halt ≡ None → Looked pass before after otherwise otherwise
  looked_up otherwise same e = (adds [] (same ∙ sym (append-nil v.trace.items), tt), inl (refl, halted_is None e))

  pub looked_down : {A : Type 0} (h : Halt) (otherwise : Result A ServeFault) → w.trace.items ≡ v.trace.items → w.halt ≡ Some h → Looked pass before after otherwise (Err fault.Down)
  looked_down h otherwise same e = (adds [] (same ∙ sym (append-nil v.trace.items), tt), inr (refl, (h, halted_is (Some h) e)))

  pub takes : (bytes : List ℕ) (r : Result Told ServeFault) → Takes pass bytes v w r → TakesMessage pass bytes before after r
  takes bytes (Ok told) t = ((t.0.0, adds (t.0.0 ∷ []) t.0.1, t.0.2, t.0.3), halted_is None t.1)
  takes bytes (Err fault.DiskFailed) t = (t.0, adds (t.0 ∷ []) t.1, t.2)
  takes bytes (Err fault.DiskStopped) t = (t.0, adds (t.0 ∷ []) t.1, t.2)
  takes bytes (Err (fault.Spent n)) t = (t.0, adds (t.0 ∷ []) t.1, t.2)
  takes bytes (Err fault.Down) t = (adds [] t.0, (t.1.0, halted_is (Some t.1.0) t.1.1))
  takes bytes (Err fault.NoMemory) t = adds_fall t
  takes bytes (Err fault.Net) t = absurd t
  takes bytes (Err (fault.Peer p)) t = absurd t
  takes bytes (Err (fault.Long n)) t = absurd t

  pub ends : (clerk : ℕ) (r : Result Told ServeFault) → EndsTurn pass clerk v w r → EndsSession pass clerk before after r
  ends clerk (Ok told) t = ((t.0.0, adds (t.0.0 ∷ []) t.0.1, t.0.2, t.0.3), halted_is None t.1)
  ends clerk (Err fault.DiskFailed) t = (t.0, adds (t.0 ∷ []) t.1, t.2)
  ends clerk (Err fault.DiskStopped) t = (t.0, adds (t.0 ∷ []) t.1, t.2)
  ends clerk (Err (fault.Spent n)) t = (t.0, adds (t.0 ∷ []) t.1, t.2)
  ends clerk (Err fault.Down) t = (adds [] t.0, (t.1.0, halted_is (Some t.1.0) t.1.1))
  ends clerk (Err fault.NoMemory) t = adds_fall t
  ends clerk (Err fault.Net) t = absurd t
  ends clerk (Err (fault.Peer p)) t = absurd t
  ends clerk (Err (fault.Long n)) t = absurd t

  module _ {L : Type 0} (faults : L → ℕ) (got_by : L → Option (List (List ℕ))) (boxes : ℕ → List Msg) (caller : Caller) (below : caller.clerk < clerk_count)
      (boxes_are : w.broken ≡ false → (c : ℕ) → c < clerk_count → queue_at w.boxes.items c ≡ box_from c (boxes c) w.trace.items)
      (owners_are : w.broken ≡ false → (c : ℕ) → c < clerk_count → owner_at w.boxes.items c ≡ owner c w.trace.items) (link mid : L) where
    for_as : w.broken ≡ false → (mine : Bool) → is_for pass (owner_at w.boxes.items caller.clerk) ≡ mine → is_for pass (owner caller.clerk after) ≡ mine
    for_as up mine e = sym (ap (is_for pass) (owners_are up caller.clerk below ∙ ap (owner caller.clerk) is)) ∙ e

    not_mine : w.broken ≡ false → is_for pass (owner_at w.boxes.items caller.clerk) ≡ false → is_for pass (owner caller.clerk after) ≡ false
    not_mine up e = for_as up false e

    has_none : w.broken ≡ false → caller.refusal ≡ None → (queue_at w.boxes.items caller.clerk ≡ []) ⊎ ((caller.has_greeted ≡ false) × (is_for pass (owner_at w.boxes.items caller.clerk) ≡ false)) → (caller.has_greeted ≡ true → is_for pass (owner_at w.boxes.items caller.clerk) ≡ true) → HasNone boxes pass caller after
    has_none up none h mine = (
      none,
      ⊎_elim (λ (e : queue_at w.boxes.items caller.clerk ≡ []). inl (sym (boxes_are up caller.clerk below ∙ ap (box_from caller.clerk (boxes caller.clerk)) is) ∙ e))
          (λ (e : (caller.has_greeted ≡ false) × (is_for pass (owner_at w.boxes.items caller.clerk) ≡ false)). inr (e.0, not_mine up e.1)) h,
      λ greeted. for_as up true (mine greeted),
    )

    has_next : w.broken ≡ false → ((r : Refusal) × (caller.refusal ≡ Some r)) ⊎ ((is_for pass (owner_at w.boxes.items caller.clerk) ≡ true) × ((m : Msg) × (first_of (queue_at w.boxes.items caller.clerk) ≡ Some m))) → HasNext boxes pass caller after
    has_next up h =
        ⊎_elim (λ (r : (r : Refusal) × (caller.refusal ≡ Some r)). inl r)
        (λ (t : (is_for pass (owner_at w.boxes.items caller.clerk) ≡ true) × ((m : Msg) × (first_of (queue_at w.boxes.items caller.clerk) ≡ Some m))). inr (
          sym (ap (is_for pass) (owners_are up caller.clerk below ∙ ap (owner caller.clerk) is)) ∙ t.0,
          (t.1.0, sym (ap first_of (boxes_are up caller.clerk below ∙ ap (box_from caller.clerk (boxes caller.clerk)) is)) ∙ t.1.1),
        )) h

    gave_not : (f : ServeFault) → Gives faults got_by pass caller v w link mid (Err f) → GivesNext faults got_by boxes pass caller before after link mid (Err f)
    gave_not fault.Net t = ((adds [] t.0.0, t.0.1, has_next t.0.3 t.0.4, halted_is None t.0.2), t.1)
    gave_not fault.Down t = ((adds [] t.0.0, (t.0.1.0, halted_is (Some t.0.1.0) t.0.1.1)), t.1)
    gave_not fault.NoMemory t = (adds [] t.0, t.1)
    gave_not fault.DiskFailed t = absurd t.0
    gave_not fault.DiskStopped t = absurd t.0
    gave_not (fault.Spent n) t = absurd t.0
    gave_not (fault.Peer p) t = absurd t.0
    gave_not (fault.Long n) t = absurd t.0

    pub gives : (r : Result Turned ServeFault) → Gives faults got_by pass caller v w link mid r → GivesNext faults got_by boxes pass caller before after link mid r
    gives (Ok turned.Gave) t = ((t.0, t.1, adds (t.0 ∷ []) t.2, t.3, t.4), halted_is None t.5)
    gives (Ok turned.Idle) t = (adds [] t.0, has_none t.3 t.4 t.5 t.6, t.1, halted_is None t.2)
    gives (Ok turned.Replaced) t = (adds [] t.0, (t.5, not_mine t.3 t.6, t.4), t.1, halted_is None t.2)
    gives (Ok (turned.Took told)) t = absurd t
    gives (Ok turned.Busy) t = absurd t
    gives (Ok turned.Closed) t = absurd t
    gives (Err f) t = gave_not f t

pub no_more_of : {K : Type 0} (pass : ℕ) (v : Node K) → More pass v v []
no_more_of pass v = (sym (append-nil v.trace.items), tt)

-- a body that is no message
pub refused : (pass : ℕ) (bytes : List ℕ) (why : WireFault) (old new : List Step) (r : Result Turned ServeFault) → ReadsMessage (Err why) (said bytes) → Looked pass old new (Err (peer_of why)) r → Hears pass bytes old new r
refused pass bytes why old new r is h =
    ⊎_elim (λ (e : (r ≡ Err (peer_of why)) × (halted new ≡ None)). subst (Hears pass bytes old new) (sym e.0) (by why is h.0 e.1))
    (λ (e : (r ≡ Err fault.Down) × ((why : Halt) × (halted new ≡ Some why))). subst (Hears pass bytes old new) (sym e.0) (h.0, e.1)) h.1
  where
    by : (w : WireFault) → ReadsMessage (Err w) (said bytes) → Adds pass old new [] → halted new ≡ None → HearFails pass bytes old new (peer_of w)
    by wire.NoMemory is a none = inl a
    by (wire.Short p) is a none = (a, is, none)
    by (wire.Kind b) is a none = (a, is, none)
    by (wire.Field p) is a none = (a, is, none)
    by (wire.Trailing p) is a none = (a, is, none)

pub peer_else : (w : WireFault) → (w ≡ wire.NoMemory → ⊥) → fault.Peer w ≡ peer_of w
peer_else wire.NoMemory never = absurd (never refl)
peer_else (wire.Short p) never = refl
peer_else (wire.Kind b) never = refl
peer_else (wire.Field p) never = refl
peer_else (wire.Trailing p) never = refl

-- What the link gave, and what was done with it.
module _ {L : Type 0} (faults closes : L → ℕ) (given : L → Option (List Heard)) (got_by : L → Option (List (List ℕ))) (held : L → List ℕ) (clear : L → Bool) (boxes : ℕ → List Msg) (pass : ℕ) (caller : Caller) (old new : List Step) (before after : L) where
  hear_fails : (bytes : List ℕ) → GaveBody faults closes given got_by held before after bytes → (f : ServeFault) → HearFails pass bytes old new f → ServeFails faults closes given got_by held boxes pass caller old new before after f
  hear_fails bytes g (fault.Peer why) h = (h.0, (bytes, g, h.1), h.2)
  hear_fails bytes g fault.DiskFailed h = (h.0, bytes, h.1, h.2, g)
  hear_fails bytes g fault.DiskStopped h = (h.0, bytes, h.1, h.2, g)
  hear_fails bytes g (fault.Spent n) h = (h.0, bytes, h.1, h.2, g)
  hear_fails bytes g fault.Down h = (h.0, h.1, g.1)
  hear_fails bytes g fault.NoMemory h = (h, g.1)
  hear_fails bytes g fault.Net h = absurd h
  hear_fails bytes g (fault.Long n) h = absurd h

  pub heard_body : (bytes : List ℕ) (r : Result Turned ServeFault) → GaveBody faults closes given got_by held before after bytes → Hears pass bytes old new r → Serves faults closes given got_by held clear boxes pass caller old new before after r
  heard_body bytes (Ok (turned.Took told)) g h = ((h.0.0, bytes, h.0.1, h.0.2, h.0.3, g), h.1)
  heard_body bytes (Ok turned.Gave) g h = absurd h
  heard_body bytes (Ok turned.Idle) g h = absurd h
  heard_body bytes (Ok turned.Replaced) g h = absurd h
  heard_body bytes (Ok turned.Busy) g h = absurd h
  heard_body bytes (Ok turned.Closed) g h = absurd h
  heard_body bytes (Err f) g h = hear_fails bytes g f h

  pub looked : (otherwise r : Result Turned ServeFault) → got_by after ≡ got_by before → (Adds pass old new [] → halted new ≡ None → Serves faults closes given got_by held clear boxes pass caller old new before after otherwise) → Looked pass old new otherwise r
      → Serves faults closes given got_by held clear boxes pass caller old new before after r
  looked otherwise r same then h =
      ⊎_elim (λ (e : (r ≡ otherwise) × (halted new ≡ None)). subst (Serves faults closes given got_by held clear boxes pass caller old new before after) (sym e.0) (then h.0 e.1))
      (λ (e : (r ≡ Err fault.Down) × ((why : Halt) × (halted new ≡ Some why))). subst (Serves faults closes given got_by held clear boxes pass caller old new before after) (sym e.0) (h.0, e.1, same)) h.1

  module _ (mid : L) (none : given mid ≡ added (given before) []) (reads : Reads (held before) (held mid) got.Nothing) (got_same : got_by mid ≡ got_by before) (faults_up : faults before ≤ faults mid)
      (given_same : given after ≡ given mid) (held_same : held after ≡ held mid) (is_clear : clear mid ≡ true) where
    is_none : GaveNone faults closes given got_by held before after
    is_none = (given_same ∙ none, subst (λ l. Reads (held before) l got.Nothing) (sym held_same) reads)

    was_clear : WasClear faults closes given got_by held clear before after
    was_clear = (mid, (none, reads), got_same, given_same, held_same, is_clear)

    next_fails : (f : ServeFault) → NextFails faults got_by boxes pass caller old new mid after f × (got_by after ≡ got_by mid) → ServeFails faults closes given got_by held boxes pass caller old new before after f
    next_fails fault.Net h = let more = h.0.1 in (h.0.0, omega arith, h.1 ∙ got_same, inr (is_none, h.0.2), h.0.3)
    next_fails fault.Down h = (h.0.0, h.0.1, h.1 ∙ got_same)
    next_fails fault.NoMemory h = (inl h.0, h.1 ∙ got_same)
    next_fails fault.DiskFailed h = absurd h.0
    next_fails fault.DiskStopped h = absurd h.0
    next_fails (fault.Spent n) h = absurd h.0
    next_fails (fault.Peer p) h = absurd h.0
    next_fails (fault.Long n) h = absurd h.0

    pub heard_none : (r : Result Turned ServeFault) → GivesNext faults got_by boxes pass caller old new mid after r → Serves faults closes given got_by held clear boxes pass caller old new before after r
    heard_none (Ok turned.Gave) h = ((h.0.0, h.0.1, h.0.2, h.0.3, h.0.4 ∙ ap (λ o. added o (msg_code.spell h.0.1 ∷ [])) got_same), is_none, was_clear, h.1)
    heard_none (Ok turned.Idle) h = (h.0, h.1, is_none, was_clear, h.2 ∙ got_same, h.3)
    heard_none (Ok turned.Replaced) h = (h.0, h.1, is_none, was_clear, h.2 ∙ got_same, h.3)
    heard_none (Ok (turned.Took told)) h = absurd h
    heard_none (Ok turned.Busy) h = absurd h
    heard_none (Ok turned.Closed) h = absurd h
    heard_none (Err f) h = next_fails f h

module _ {K : Type 0} (kept : K → Durable) (counts : K → Counts) (did breaks : K → Record → K → Type 0) (lock : TracedLock (Node K) Step) where
  -- a pass behind a turn
  pub pass_is : (old new : ServerPass K) (v w : Node K) → IsServerPass kept lock old → IsPassOf lock new.pass → new.pass.number ≡ old.pass.number → front new.pass ≡ w.trace.items → of number_of old.pass.number (front old.pass) ≡ of number_of old.pass.number v.trace.items
      → Since kept counts did breaks (first lock) w → new.caller.clerk < clerk_count → (old.caller ≡ caller_by old.pass.number v.trace.items → new.caller ≡ caller_by old.pass.number w.trace.items) → IsServerPass kept lock new
  pass_is old new v w p is number list own since below next = record {
    is_pass = is;
    run = subst (RunsFrom kept (first lock)) (sym list) since.run;
    caller_is = next (p.caller_is ∙ ap (caller_from nobody) own) ∙ (ap (λ n. caller_by n w.trace.items) (sym number) ∙ ap (caller_by new.pass.number) (sym list));
    below = below;
  }

  pub since_of : (v : Node K) → Since kept counts did breaks (first lock) v → (start : Node K) × Since kept counts did breaks start v
  since_of v s = (first lock, s)

  -- the other end of a link, by what its pass knows
  pub caller_of : (old : ServerPass K) (v : Node K) → IsServerPass kept lock old → of number_of old.pass.number (front old.pass) ≡ of number_of old.pass.number v.trace.items → (n : ℕ) → n ≡ old.pass.number → old.caller ≡ caller_by n v.trace.items
  caller_of old v p own n is = p.caller_is ∙ (ap (caller_from nobody) own ∙ ap (λ k. caller_by k v.trace.items) (sym is))

-- whether a session is open, by what the pass knows then
pub open_is : {K : Type 0} (kept : K → Durable) (counts : K → Counts) (did breaks : K → Record → K → Type 0) (first v : Node K) (steps : List Step) → steps ≡ v.trace.items → Since kept counts did breaks first v → (clerk : ℕ) (r : Result Bool ServeFault)
    → IfOk r (λ o. (o ≡ is_open (slot (kept v.keeper) clerk)) × (v.halt ≡ None) × (v.broken ≡ false)) → IfOk r (λ o. o ≡ is_open (slot (leads (state_of kept first) steps).durable clerk))
open_is kept counts did breaks first v steps is s clerk (Ok o) h = h.0 ∙ sym (ap (λ l. is_open (slot (leads (state_of kept first) l).durable clerk)) is ∙ ap (λ (x : Server). is_open (slot x.durable clerk)) (s.leads_to h.2))
open_is kept counts did breaks first v steps is s clerk (Err f) h = h

pub grows : (a b n : ℕ) → a + n ≤ b → a ≤ b
grows a b n h = omega arith

pub grows_both : (a b m n : ℕ) → a + n ≤ b → b ≤ m → a ≤ m
grows_both a b m n h up = omega arith
