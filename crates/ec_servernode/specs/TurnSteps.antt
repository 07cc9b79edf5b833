-- What a turn with a link adds to the list, by what it answers.
use Rattle.std.specs.Prelude.{◌≡◌, ℕ, ◌+◌, ◌≤◌, ◌<◌, ◌⊎◌, Bool, true, false, List, [], ◌∷◌, ◌++◌, Option, Some, None, Result, Ok, Err}
use Rattle.ec_base.specs.Limits.{clerk_count}
use Rattle.ec_disk.specs.Disk.{Counts}
use Rattle.ec_wire.specs.declared.msg.Msg.{Msg}
use Rattle.ec_wire.specs.Codes.{said, msg_code}
use Rattle.ec_wire.specs.declared.fault.WireFault.{WireFault}
use Rattle.ec_wire.specs.declared.fault.WireFault.TheVariants as wire
use Rattle.ec_durable.specs.declared.state.Durable.{Durable}
use Rattle.ec_durable.specs.declared.record.Record.{Record}
use Rattle.ec_server.specs.Servers.{standing}
use Rattle.ec_server.specs.declared.server.Server.{Server}
use Rattle.ec_link.specs.declared.link.Got.TheVariants as got
use Rattle.ec_streams.specs.OfFrame.Frames.{Begins}
use Rattle.ec_link.specs.Links.{Heard, added, body, long}
use Rattle.ec_link.specs.LinkAnswers.{Reads}
use Rattle.ec_lock.specs.PassViews.{first, front, note_view, IsPassOf, IsNoteOf}
use Rattle.ec_lock.specs.Steps.{of}
use Rattle.ec_lock.specs.declared.types.Note.{Note}
use Rattle.ec_lock.specs.declared.types.TracedLock.{TracedLock}
use Rattle.ec_servernode.specs.declared.step.Halt.{Halt}
use Rattle.ec_servernode.specs.declared.step.Halt.TheVariants as halt
use Rattle.ec_servernode.specs.declared.step.Deed.{Deed}
use Rattle.ec_servernode.specs.declared.step.Deed.TheVariants.{Took, Gave, Refused, Halted, Ended, HaltedEnd, Broke}
use Rattle.ec_servernode.specs.declared.step.Step.{Step}
use Rattle.ec_servernode.specs.declared.state.Node.{Node}
use Rattle.ec_servernode.specs.declared.state.Told.{Told}
use Rattle.ec_servernode.specs.declared.fault.ServeFault.{ServeFault}
use Rattle.ec_servernode.specs.declared.fault.ServeFault.TheVariants as fault
use Rattle.ec_servernode.specs.declared.caller.Caller.{Caller}
use Rattle.ec_servernode.specs.declared.caller.Refusal.{Refusal}
use Rattle.ec_servernode.specs.declared.passes.ServerPass.{ServerPass}
use Rattle.ec_servernode.specs.declared.shared.Turned.{Turned}
use Rattle.ec_servernode.specs.declared.shared.Turned.TheVariants as turned
use Rattle.ec_servernode.specs.Callers.{posted, IsRefusal}
use Rattle.ec_servernode.specs.Run.{IsRun, number_of, caller_by, is_for, owner, box_from, halted, leads, records}
use Rattle.ec_servernode.specs.OwnSteps.{By}
use Rattle.ec_servernode.specs.Node.{queue_at, owner_at, state_of, Chain, ChainInDoubt, CountsUp}
use Rattle.ec_servernode.specs.Told.{IsToldOf}
use Rattle.ec_base.specs.Lists.{first_of}
use Rattle.ec_servernode.specs.Turns.{IsReplaced}

abbrev pub fault_of : Halt → ServeFault
fault_of halt.DiskFailed = fault.DiskFailed
fault_of halt.DiskStopped = fault.DiskStopped
fault_of (halt.Spent n) = fault.Spent n

-- Deeds of one kind.

-- a message was taken that came in this body
abbrev pub IsTaking : List ℕ → Deed → Type 0
IsTaking bytes (Took c b m served) = b.value.items ≡ bytes
IsTaking bytes _ = ⊥

-- told are the clerks to which the taking sent something, or the end of a session
abbrev pub TellsClerks : Told → Deed → Type 0
TellsClerks told (Took c b m served) = IsToldOf told (posted served.value.sent)
TellsClerks told (Ended c served) = IsToldOf told served.value.sent
TellsClerks told _ = ⊥

-- this message was sent to the link: a refusal, or the first of its clerk's outbox
abbrev pub IsGiving : Caller → Msg → Deed → Type 0
IsGiving caller msg (Gave c m) = (caller.refusal ≡ None) × (c ≡ caller.clerk) × (m.value ≡ msg)
IsGiving caller msg (Refused m) = IsRefusal caller.refusal msg × (m.value ≡ msg)
IsGiving caller msg _ = ⊥

-- the taking of this body ended so
abbrev pub IsHalting : List ℕ → Halt → Deed → Type 0
IsHalting bytes why (Halted c b m h) = (b.value.items ≡ bytes) × (h ≡ why)
IsHalting bytes why _ = ⊥

-- the clerk's open session was ended
abbrev pub IsEnding : ℕ → Deed → Type 0
IsEnding clerk (Ended c served) = c ≡ clerk
IsEnding clerk _ = ⊥

-- the end of the clerk's open session ended so
abbrev pub IsHaltedEnd : ℕ → Halt → Deed → Type 0
IsHaltedEnd clerk why (HaltedEnd c h) = (c ≡ clerk) × (h ≡ why)
IsHaltedEnd clerk why _ = ⊥

-- Turns.

-- the list has grown by these steps of this pass
abbrev pub More : {K : Type 0} → ℕ → Node K → Node K → List Step → Type 0
More pass old new more = (new.trace.items ≡ old.trace.items ++ more) × By pass more

-- Memory was wanting. A mark says so where it was wanting for the server's step.
abbrev pub Falls : {K : Type 0} → ℕ → Node K → Node K → Type 0
Falls pass old new = More pass old new [] ⊎ ((x : Step) × More pass old new (x ∷ []) × (x.deed ≡ Broke))

-- a step that halts the server was added, or the server was down before, or memory was wanting
abbrev pub TakeFails : {K : Type 0} → ℕ → List ℕ → Node K → Node K → ServeFault → Type 0
TakeFails pass bytes old new fault.DiskFailed = (x : Step) × More pass old new (x ∷ []) × IsHalting bytes halt.DiskFailed x.deed
TakeFails pass bytes old new fault.DiskStopped = (x : Step) × More pass old new (x ∷ []) × IsHalting bytes halt.DiskStopped x.deed
TakeFails pass bytes old new (fault.Spent n) = (x : Step) × More pass old new (x ∷ []) × IsHalting bytes (halt.Spent n) x.deed
TakeFails pass bytes old new fault.Down = More pass old new [] × ((h : Halt) × (new.halt ≡ Some h))
TakeFails pass bytes old new fault.NoMemory = Falls pass old new
TakeFails pass bytes old new _ = ⊥

-- the message of this body was taken
abbrev pub Takes : {K : Type 0} → ℕ → List ℕ → Node K → Node K → Result Told ServeFault → Type 0
Takes pass bytes old new (Ok told) = ((x : Step) × More pass old new (x ∷ []) × IsTaking bytes x.deed × TellsClerks told x.deed) × (new.halt ≡ None)
Takes pass bytes old new (Err f) = TakeFails pass bytes old new f

-- the same of the end of a session
abbrev pub EndFails : {K : Type 0} → ℕ → ℕ → Node K → Node K → ServeFault → Type 0
EndFails pass clerk old new fault.DiskFailed = (x : Step) × More pass old new (x ∷ []) × IsHaltedEnd clerk halt.DiskFailed x.deed
EndFails pass clerk old new fault.DiskStopped = (x : Step) × More pass old new (x ∷ []) × IsHaltedEnd clerk halt.DiskStopped x.deed
EndFails pass clerk old new (fault.Spent n) = (x : Step) × More pass old new (x ∷ []) × IsHaltedEnd clerk (halt.Spent n) x.deed
EndFails pass clerk old new fault.Down = More pass old new [] × ((h : Halt) × (new.halt ≡ Some h))
EndFails pass clerk old new fault.NoMemory = Falls pass old new
EndFails pass clerk old new _ = ⊥

abbrev pub EndsTurn : {K : Type 0} → ℕ → ℕ → Node K → Node K → Result Told ServeFault → Type 0
EndsTurn pass clerk old new (Ok told) = ((x : Step) × More pass old new (x ∷ []) × IsEnding clerk x.deed × TellsClerks told x.deed) × (new.halt ≡ None)
EndsTurn pass clerk old new (Err f) = EndFails pass clerk old new f

-- a link failed by a send, so there was something for it
abbrev pub GiveFails : {K : Type 0} → ℕ → Caller → Node K → Node K → ℕ → ℕ → ServeFault → Type 0
GiveFails pass caller old new before after fault.Net = More pass old new [] × (before + 1 ≤ after) × (new.halt ≡ None) × (new.broken ≡ false)
    × (((r : Refusal) × (caller.refusal ≡ Some r)) ⊎ ((is_for pass (owner_at new.boxes.items caller.clerk) ≡ true) × ((m : Msg) × (first_of (queue_at new.boxes.items caller.clerk) ≡ Some m))))
GiveFails pass caller old new before after fault.Down = More pass old new [] × ((h : Halt) × (new.halt ≡ Some h))
GiveFails pass caller old new before after fault.NoMemory = More pass old new []
GiveFails pass caller old new before after _ = ⊥

module _ {L : Type 0} (faults : L → ℕ) (got_by : L → Option (List (List ℕ))) where
  -- A refusal was sent, or the first message of the clerk's outbox. Else there is none for this pass: nothing is there, or the outbox is another pass's. This ends a link that has greeted.
  abbrev pub Gives : {K : Type 0} → ℕ → Caller → Node K → Node K → L → L → Result Turned ServeFault → Type 0
  Gives pass caller old new before after (Ok turned.Gave) = (x : Step) × (msg : Msg) × More pass old new (x ∷ []) × IsGiving caller msg x.deed × (got_by after ≡ added (got_by before) (msg_code.spell msg ∷ [])) × (new.halt ≡ None)
  Gives pass caller old new before after (Ok turned.Idle) = More pass old new [] × (got_by after ≡ got_by before) × (new.halt ≡ None) × (new.broken ≡ false) × (caller.refusal ≡ None)
      × ((queue_at new.boxes.items caller.clerk ≡ []) ⊎ ((caller.has_greeted ≡ false) × (is_for pass (owner_at new.boxes.items caller.clerk) ≡ false)))
      × (caller.has_greeted ≡ true → is_for pass (owner_at new.boxes.items caller.clerk) ≡ true)
  Gives pass caller old new before after (Ok turned.Replaced) = More pass old new [] × (got_by after ≡ got_by before) × (new.halt ≡ None) × (new.broken ≡ false) × (caller.refusal ≡ None)
      × (caller.has_greeted ≡ true) × (is_for pass (owner_at new.boxes.items caller.clerk) ≡ false)
  Gives pass caller old new before after (Ok _) = ⊥
  Gives pass caller old new before after (Err f) = GiveFails pass caller old new (faults before) (faults after) f × (got_by after ≡ got_by before)

-- why a body is no message
abbrev pub peer_of : WireFault → ServeFault
peer_of wire.NoMemory = fault.NoMemory
peer_of (wire.Short p) = fault.Peer (wire.Short p)
peer_of (wire.Kind b) = fault.Peer (wire.Kind b)
peer_of (wire.Field p) = fault.Peer (wire.Field p)
peer_of (wire.Trailing p) = fault.Peer (wire.Trailing p)

-- What a pass knows.

-- behind the front before stand steps of other passes, and then these of this pass
abbrev pub Adds : ℕ → List Step → List Step → List Step → Type 0
Adds pass before after own = (theirs : List Step) × (before ++ (theirs ++ own) ≡ after) × (of number_of pass theirs ≡ []) × By pass own

-- the same of memory that was wanting
abbrev pub AddsFall : ℕ → List Step → List Step → Type 0
AddsFall pass before after = Adds pass before after [] ⊎ ((x : Step) × Adds pass before after (x ∷ []) × (x.deed ≡ Broke))

abbrev pub HearFails : ℕ → List ℕ → List Step → List Step → ServeFault → Type 0
HearFails pass bytes old new (fault.Peer why) = Adds pass old new [] × (said bytes ≡ Err why) × (halted new ≡ None)
HearFails pass bytes old new fault.DiskFailed = (x : Step) × Adds pass old new (x ∷ []) × IsHalting bytes halt.DiskFailed x.deed
HearFails pass bytes old new fault.DiskStopped = (x : Step) × Adds pass old new (x ∷ []) × IsHalting bytes halt.DiskStopped x.deed
HearFails pass bytes old new (fault.Spent n) = (x : Step) × Adds pass old new (x ∷ []) × IsHalting bytes (halt.Spent n) x.deed
HearFails pass bytes old new fault.Down = Adds pass old new [] × ((h : Halt) × (halted new ≡ Some h))
HearFails pass bytes old new fault.NoMemory = AddsFall pass old new
HearFails pass bytes old new _ = ⊥

-- the message of this body was taken
abbrev pub TakesMessage : ℕ → List ℕ → List Step → List Step → Result Told ServeFault → Type 0
TakesMessage pass bytes old new (Ok told) = ((x : Step) × Adds pass old new (x ∷ []) × IsTaking bytes x.deed × TellsClerks told x.deed) × (halted new ≡ None)
TakesMessage pass bytes old new (Err f) = HearFails pass bytes old new f

abbrev pub Hears : ℕ → List ℕ → List Step → List Step → Result Turned ServeFault → Type 0
Hears pass bytes old new (Ok (turned.Took told)) = ((x : Step) × Adds pass old new (x ∷ []) × IsTaking bytes x.deed × TellsClerks told x.deed) × (halted new ≡ None)
Hears pass bytes old new (Ok _) = ⊥
Hears pass bytes old new (Err f) = HearFails pass bytes old new f

-- The server did nothing: what the turn answers, unless the server is down.
abbrev pub Looked : {A : Type 0} → ℕ → List Step → List Step → Result A ServeFault → Result A ServeFault → Type 0
Looked pass old new otherwise result = Adds pass old new [] × (((result ≡ otherwise) × (halted new ≡ None)) ⊎ ((result ≡ Err fault.Down) × ((h : Halt) × (halted new ≡ Some h))))

-- The administrator's end of the clerk's open session: one step of this pass. Where it fails, the step that halts the server, or none.
abbrev pub EndSessionFails : ℕ → ℕ → List Step → List Step → ServeFault → Type 0
EndSessionFails pass clerk old new fault.DiskFailed = (x : Step) × Adds pass old new (x ∷ []) × IsHaltedEnd clerk halt.DiskFailed x.deed
EndSessionFails pass clerk old new fault.DiskStopped = (x : Step) × Adds pass old new (x ∷ []) × IsHaltedEnd clerk halt.DiskStopped x.deed
EndSessionFails pass clerk old new (fault.Spent n) = (x : Step) × Adds pass old new (x ∷ []) × IsHaltedEnd clerk (halt.Spent n) x.deed
EndSessionFails pass clerk old new fault.Down = Adds pass old new [] × ((h : Halt) × (halted new ≡ Some h))
EndSessionFails pass clerk old new fault.NoMemory = AddsFall pass old new
EndSessionFails pass clerk old new _ = ⊥

abbrev pub EndsSession : ℕ → ℕ → List Step → List Step → Result Told ServeFault → Type 0
EndsSession pass clerk old new (Ok told) = ((x : Step) × Adds pass old new (x ∷ []) × IsEnding clerk x.deed × TellsClerks told x.deed) × (halted new ≡ None)
EndsSession pass clerk old new (Err f) = EndSessionFails pass clerk old new f

-- Nothing is there for this pass: no refusal, and its clerk's outbox is empty or, where it never greeted, another pass's. Where it greeted, the outbox isn't another pass's.
abbrev pub HasNone : (ℕ → List Msg) → ℕ → Caller → List Step → Type 0
HasNone boxes pass caller steps = (caller.refusal ≡ None) × ((box_from caller.clerk (boxes caller.clerk) steps ≡ []) ⊎ ((caller.has_greeted ≡ false) × (is_for pass (owner caller.clerk steps) ≡ false)))
    × (caller.has_greeted ≡ true → is_for pass (owner caller.clerk steps) ≡ true)

-- something is there for it
abbrev pub HasNext : (ℕ → List Msg) → ℕ → Caller → List Step → Type 0
HasNext boxes pass caller steps = ((r : Refusal) × (caller.refusal ≡ Some r)) ⊎ ((is_for pass (owner caller.clerk steps) ≡ true) × ((m : Msg) × (first_of (box_from caller.clerk (boxes caller.clerk) steps) ≡ Some m)))

module _ {L : Type 0} (faults : L → ℕ) (got_by : L → Option (List (List ℕ))) where
  abbrev pub NextFails : (ℕ → List Msg) → ℕ → Caller → List Step → List Step → L → L → ServeFault → Type 0
  NextFails boxes pass caller old new before after fault.Net = Adds pass old new [] × (faults before + 1 ≤ faults after) × HasNext boxes pass caller new × (halted new ≡ None)
  NextFails boxes pass caller old new before after fault.Down = Adds pass old new [] × ((h : Halt) × (halted new ≡ Some h))
  NextFails boxes pass caller old new before after fault.NoMemory = Adds pass old new []
  NextFails boxes pass caller old new before after _ = ⊥

  -- a refusal was sent, or the first message of the clerk's outbox
  abbrev pub GivesNext : (ℕ → List Msg) → ℕ → Caller → List Step → List Step → L → L → Result Turned ServeFault → Type 0
  GivesNext boxes pass caller old new before after (Ok turned.Gave) = ((x : Step) × (msg : Msg) × Adds pass old new (x ∷ []) × IsGiving caller msg x.deed × (got_by after ≡ added (got_by before) (msg_code.spell msg ∷ []))) × (halted new ≡ None)
  GivesNext boxes pass caller old new before after (Ok turned.Idle) = Adds pass old new [] × HasNone boxes pass caller new × (got_by after ≡ got_by before) × (halted new ≡ None)
  GivesNext boxes pass caller old new before after (Ok turned.Replaced) = Adds pass old new [] × IsReplaced pass caller new × (got_by after ≡ got_by before) × (halted new ≡ None)
  GivesNext boxes pass caller old new before after (Ok _) = ⊥
  GivesNext boxes pass caller old new before after (Err f) = NextFails boxes pass caller old new before after f × (got_by after ≡ got_by before)

module _ {L : Type 0} (faults closes : L → ℕ) (given : L → Option (List Heard)) (got_by : L → Option (List (List ℕ))) (held : L → List ℕ) where
  -- the link gave this body, which is the next one in its bytes
  abbrev pub GaveBody : L → L → List ℕ → Type 0
  GaveBody before after bytes = (given after ≡ added (given before) (body bytes ∷ [])) × (got_by after ≡ got_by before) × ((more : List ℕ) × Begins (held before ++ more) bytes (held after))

  -- the link gave nothing
  abbrev pub GaveNone : L → L → Type 0
  GaveNone before after = (given after ≡ added (given before) []) × Reads (held before) (held after) got.Nothing

  -- the read failed
  abbrev pub ReadFailed : L → L → Type 0
  ReadFailed before after = (given after ≡ added (given before) []) × Reads (held before) (held after) got.Failed

  abbrev pub ServeFails : (ℕ → List Msg) → ℕ → Caller → List Step → List Step → L → L → ServeFault → Type 0
  ServeFails boxes pass caller old new before after fault.Net = Adds pass old new [] × (faults before + 1 ≤ faults after) × (got_by after ≡ got_by before)
      × (ReadFailed before after ⊎ (GaveNone before after × HasNext boxes pass caller new)) × (halted new ≡ None)
  ServeFails boxes pass caller old new before after (fault.Peer why) = Adds pass old new [] × ((bytes : List ℕ) × GaveBody before after bytes × (said bytes ≡ Err why)) × (halted new ≡ None)
  ServeFails boxes pass caller old new before after (fault.Long n) = Adds pass old new [] × (given after ≡ added (given before) (long n ∷ [])) × (got_by after ≡ got_by before) × (halted new ≡ None)
  ServeFails boxes pass caller old new before after fault.DiskFailed = (x : Step) × (bytes : List ℕ) × Adds pass old new (x ∷ []) × IsHalting bytes halt.DiskFailed x.deed × GaveBody before after bytes
  ServeFails boxes pass caller old new before after fault.DiskStopped = (x : Step) × (bytes : List ℕ) × Adds pass old new (x ∷ []) × IsHalting bytes halt.DiskStopped x.deed × GaveBody before after bytes
  ServeFails boxes pass caller old new before after (fault.Spent n) = (x : Step) × (bytes : List ℕ) × Adds pass old new (x ∷ []) × IsHalting bytes (halt.Spent n) x.deed × GaveBody before after bytes
  ServeFails boxes pass caller old new before after fault.Down = Adds pass old new [] × ((h : Halt) × (halted new ≡ Some h)) × (got_by after ≡ got_by before)
  ServeFails boxes pass caller old new before after fault.NoMemory = AddsFall pass old new × (got_by after ≡ got_by before)

  -- behind the read, which gave nothing, the link kept back nothing of what it got
  abbrev pub WasClear : (L → Bool) → L → L → Type 0
  WasClear clear before after = (mid : L) × GaveNone before mid × (got_by mid ≡ got_by before) × (given after ≡ given mid) × (held after ≡ held mid) × (clear mid ≡ true)

  -- What the answer says of the steps added and of the link: a message taken is what the body says that the link gave, and a message given is the one that it got.
  abbrev pub Serves : (L → Bool) → (ℕ → List Msg) → ℕ → Caller → List Step → List Step → L → L → Result Turned ServeFault → Type 0
  Serves clear boxes pass caller old new before after (Ok (turned.Took told)) = ((x : Step) × (bytes : List ℕ) × Adds pass old new (x ∷ []) × IsTaking bytes x.deed × TellsClerks told x.deed × GaveBody before after bytes) × (halted new ≡ None)
  Serves clear boxes pass caller old new before after (Ok turned.Gave) = ((x : Step) × (msg : Msg) × Adds pass old new (x ∷ []) × IsGiving caller msg x.deed × (got_by after ≡ added (got_by before) (msg_code.spell msg ∷ []))) × GaveNone before after × WasClear clear before after × (halted new ≡ None)
  Serves clear boxes pass caller old new before after (Ok turned.Idle) = Adds pass old new [] × HasNone boxes pass caller new × GaveNone before after × WasClear clear before after × (got_by after ≡ got_by before) × (halted new ≡ None)
  Serves clear boxes pass caller old new before after (Ok turned.Replaced) = Adds pass old new [] × IsReplaced pass caller new × GaveNone before after × WasClear clear before after × (got_by after ≡ got_by before) × (halted new ≡ None)
  Serves clear boxes pass caller old new before after (Ok turned.Busy) = Adds pass old new [] × (clear after ≡ false) × GaveNone before after × (got_by after ≡ got_by before) × (halted new ≡ None)
  Serves clear boxes pass caller old new before after (Ok turned.Closed) = Adds pass old new [] × (closes before + 1 ≤ closes after) × (given after ≡ added (given before) []) × (got_by after ≡ got_by before) × (halted new ≡ None)
  Serves clear boxes pass caller old new before after (Err f) = ServeFails boxes pass caller old new before after f

module _ {K : Type 0} (kept : K → Durable) where
  -- where the runs of this lock begin
  abbrev pub RunsFrom : Node K → List Step → Type 0
  RunsFrom first steps = IsRun (state_of kept first) (queue_at first.boxes.items) steps

  -- What is told of a pass: it's one of the lock's, whose front is a server run, and the other end of its link is this one.
  pub record IsServerPass (lock : TracedLock (Node K) Step) (own : ServerPass K) : Type 0 where
    pub is_pass : IsPassOf lock own.pass
    pub run : RunsFrom (first lock) (front own.pass)
    pub caller_is : own.caller ≡ caller_by own.pass.number (front own.pass)
    pub below : own.caller.clerk < clerk_count

  -- a note of the lock, whose front is a server run
  abbrev pub IsServerNote : TracedLock (Node K) Step → Note (Node K) Step → Type 0
  IsServerNote lock note = IsNoteOf lock note × RunsFrom (first lock) (note_view note).front

-- What is handed back, by the whole list. There is no server where memory was wanting or the disk failed in a step, and the keeper is then in doubt; else it's the one at first,
-- with all records committed.
abbrev pub Finished : {K : Type 0} → (K → Durable) → (K → Counts) → (did breaks : K → Record → K → Type 0) → Node K → List Step → Option Server → K → Type 0
Finished kept counts did breaks first steps None keeper = ChainInDoubt did breaks (records steps) first.keeper keeper × CountsUp (halted steps) (counts first.keeper) (counts keeper)
Finished kept counts did breaks first steps (Some server) keeper = (leads (state_of kept first) steps ≡ standing (kept keeper) server) × Chain did (records steps) first.keeper keeper
    × CountsUp (halted steps) (counts first.keeper) (counts keeper)
