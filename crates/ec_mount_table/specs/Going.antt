-- No public clause cites this module: it says what the private steps of a mount of several volumes do.
use Rattle.std.specs.Prelude.{◌≡◌, ◌⊎◌, ◌<◌, ◌≤◌, ◌+◌, ℕ, Bool, true, false, List, [], ◌∷◌, ◌++◌, length, map, slice_get, Option, Some, None, Result, Ok, Err, IfSome, Vec}
use Rattle.std.specs.declared.alloc.Global.{Global}
use mathlib.Core.List.{IsPrefix}
use Rattle.ec_base.specs.declared.ids.Age.{Age}
use Rattle.ec_history.specs.declared.shown.Shown.TheVariants as shown
use Rattle.ec_plain.specs.Walk.{Path}
use Rattle.ec_plain.specs.declared.call.Call.{Call}
use Rattle.ec_plain.specs.declared.call.Call.TheVariants.{Sync}
use Rattle.ec_protocol.specs.Clerk.{start}
use Rattle.ec_protocol.specs.declared.clerk.Out.{Out}
use Rattle.ec_lock.specs.PassViews.{first, front, numbers, IsPassOf}
use Rattle.ec_lock.specs.declared.types.Pass.{Pass}
use Rattle.ec_lock.specs.declared.types.TracedLock.{TracedLock}
use Rattle.ec_link.specs.Links.{Heard, added}
use Rattle.ec_link.specs.Nets.{Ended}
use Rattle.ec_outs.specs.Outs.{Reply}
use Rattle.ec_words.specs.OfText.Lines.{shown_text}
use Rattle.ec_clerknode.specs.declared.fault.NodeFault.{NodeFault}
use Rattle.ec_clerknode.specs.declared.fault.NodeFault.TheVariants as fault
use Rattle.ec_clerknode.specs.declared.state.Node.{Node}
use Rattle.ec_clerknode.specs.declared.step.Step.{Step}
use Rattle.ec_clerknode.specs.PresentLink.{has_link}
use Rattle.ec_clerknode.specs.Run.{IsRun, AreSaid, heard_by, said_by, told_by, old_boot}
use Rattle.ec_clerknode.specs.RunEnds.{nets}
use Rattle.ec_clerknode.specs.Turns.{calls_by, SaidBye}
use Rattle.ec_clerknode.specs.Lanes.{AreReplied, IsFront}
use Rattle.ec_mount.specs.Run.{NetSeen, CameUnsent, Has, Unheard, Unreached}
use Rattle.ec_mount.specs.Run.{place_in}
use Rattle.ec_mount.specs.Shown.{old_boot_text, peer_text}
use Rattle.ec_mount.specs.Work.{Took}
use Rattle.ec_mount.specs.Writes.{WroteAs, Silent}
use Rattle.ec_mount.specs.declared.status.Status.{Status}
use Rattle.ec_mount.specs.declared.status.Status.TheVariants as status
use Rattle.ec_mount_words.specs.OfRoute.Calls.{call_below, paths_of}
use Rattle.ec_mount_words.specs.OfRoute.Conditions.{AreOrdered}
use Rattle.ec_mount_words.specs.declared.route.routes.Route.{Route}
use Rattle.ec_mounts.specs.Mounts.{MadeAt, Makes, Rests}
use Rattle.ec_mount_table.specs.Rows.{AreSeen, IsNext, IsPart, IsPartOf, IsTarget, asked_of, calls_at, next_at, replies_at, reply_in, reply_of, target}
use Rattle.ec_mount_table.specs.Runs.{Each, RanAll, HasOne, MetOne, LostOne, SpendsOne, AreWithin, first_boot, links_at, view}
use Rattle.ec_mount_table.specs.Shown.{came_text, mounts_text}
use Rattle.ec_mount_table.specs.Table.{HoldsAll}
use Rattle.ec_mount_table.specs.declared.ending.Ends.{Ends}
use Rattle.ec_mount_table.specs.declared.script.Row.{Row}
use Rattle.ec_mount_table.specs.declared.seen.Cut.{Cut}
use Rattle.ec_mount_table.specs.declared.seen.Seen.{Seen}
use Rattle.ec_mount_table.specs.declared.seen.Seen.TheVariants as seen
use Rattle.ec_mount_table.specs.declared.work.Answers.{Answers}

-- for want of memory nothing is said
abbrev pub Unless : NodeFault → Type 0 → Type 0
Unless fault.Net P = P
Unless (fault.Peer why) P = P
Unless (fault.Long n) P = P
Unless (fault.OldBoot age) P = P
Unless (fault.Spent c) P = P
Unless fault.NoMemory P = Unit {0}

-- so it is at each place of two lists of one length
abbrev pub Both : {A B : Type 0} → List A → List B → (ℕ → A → B → Type 0) → Type 0
Both {A = A} {B = B} xs ys P = (length ys ≡ length xs) × ((place : ℕ) (x : A) (y : B) → slice_get xs place ≡ Some x → slice_get ys place ≡ Some y → P place x y)

-- just these calls were begun, in order and each once, and have these answers
abbrev pub HoldsCalls : List Call → List Step → List Reply → Type 0
HoldsCalls calls steps replies = (calls_by 0 steps ≡ calls) × AreReplied 0 steps 0 calls replies

-- a call with paths, or a sync
abbrev pub IsOrdered : Call → Type 0
IsOrdered call = (call ≡ Sync → ⊥) → AreOrdered (paths_of call)

-- the replies that were met, in order
abbrev pub GatherAll : List (Option (Result Reply NodeFault)) → List Reply → Type 0
GatherAll [] [] = Unit {0}
GatherAll (Some (Ok met) ∷ mets) (reply ∷ replies) = (reply ≡ met) × GatherAll mets replies
GatherAll _ _ = ⊥

-- those before the first fault
abbrev pub GatherFront : List (Option (Result Reply NodeFault)) → List Reply → NodeFault → Type 0
GatherFront (Some (Ok met) ∷ mets) (reply ∷ replies) f = (reply ≡ met) × GatherFront mets replies f
GatherFront (Some (Err g) ∷ mets) [] f = g ≡ f
GatherFront _ _ f = ⊥

abbrev pub Gathered : List (Option (Result Reply NodeFault)) → Result (Vec Reply Global) Cut → Type 0
Gathered mets (Ok replies) = GatherAll mets replies.items
Gathered mets (Err cut) = Unless cut.fault (GatherFront mets cut.replies.items cut.fault)

module _ {L : Type 0} where
  -- a call was made that has this reply; or none was
  abbrev pub Did : List Call → List Reply → Pass (Node L) Step → Pass (Node L) Step → Type 0
  Did [] [] old new = Rests old new
  Did (call ∷ []) (reply ∷ []) old new = Makes call old new (Ok reply)
  Did _ _ old new = ⊥

  -- the same, or the call has no reply here
  abbrev pub Tried : List Call → List Reply → Pass (Node L) Step → Pass (Node L) Step → Type 0
  Tried [] [] old new = Rests old new
  Tried (call ∷ []) (reply ∷ []) old new = Makes call old new (Ok reply)
  Tried (call ∷ []) [] old new = (met : Result Reply NodeFault) × Makes call old new met
  Tried _ _ old new = ⊥

  -- one of the passes has the fault's cause
  abbrev pub PassHas : NodeFault → List (Pass (Node L) Step) → Type 0
  PassHas f passes = (place : ℕ) × (pass : Pass (Node L) Step) × (slice_get passes place ≡ Some pass) × Has f (front pass)

  -- all volumes made a sync, and these replied before the first fault
  abbrev pub SyncCut : List (Pass (Node L) Step) → List (Pass (Node L) Step) → List Reply → NodeFault → Type 0
  SyncCut olds news replies f = Both olds news (λ place old new. Tried (Sync ∷ []) (reply_in replies place) old new) × PassHas f news

  -- a sync of all volumes
  abbrev pub SyncCame : List (Pass (Node L) Step) → List (Pass (Node L) Step) → Result (Vec Reply Global) Cut → Type 0
  SyncCame olds news (Ok replies) = Both olds news (λ place old new. Did (Sync ∷ []) (reply_in replies.items place) old new)
  SyncCame olds news (Err cut) = Unless cut.fault (SyncCut olds news cut.replies.items cut.fault)

  -- the same, where no replies are told that came before the fault
  abbrev pub LastCame : List (Pass (Node L) Step) → List (Pass (Node L) Step) → Result (Vec Reply Global) NodeFault → Type 0
  LastCame olds news (Ok replies) = Both olds news (λ place old new. Did (Sync ∷ []) (reply_in replies.items place) old new)
  LastCame olds news (Err f) = Unless f ((replies : List Reply) × SyncCut olds news replies f)

  -- a call went there and met a fault, before which these replies came
  abbrev pub CallCut : List Path → Call → List (Pass (Node L) Step) → List (Pass (Node L) Step) → List Reply → NodeFault → Type 0
  CallCut table call olds news replies f = (to : Option Route) × IsTarget table call to × IsPartOf to replies × Both olds news (λ place old new. Tried (asked_of table place call to) (reply_in replies place) old new) × PassHas f news

  -- the call of a row
  abbrev pub CallCame : List Path → Call → List (Pass (Node L) Step) → List (Pass (Node L) Step) → Result Seen Cut → Type 0
  CallCame table call olds news (Ok met) = IsTarget table call (target met) × Both olds news (λ place old new. Did (asked_of table place call (target met)) (reply_of place met) old new)
  CallCame table call olds news (Err cut) = Unless cut.fault (CallCut table call olds news cut.replies.items cut.fault)

  -- the same of a call to the volume with this mount path, at this place
  abbrev pub CameAt : Path → ℕ → Call → List (Pass (Node L) Step) → List (Pass (Node L) Step) → Result Seen Cut → Type 0
  CameAt path place call olds news (Ok met) = (reply : Reply) × (met ≡ seen.To place reply) × MadeAt place (call_below (length path) call) olds news (Ok reply)
  CameAt path place call olds news (Err cut) = (cut.fault ≡ fault.NoMemory) ⊎ ((cut.replies.items ≡ []) × MadeAt place (call_below (length path) call) olds news (Err cut.fault))

  -- each pass has the number 0, and holds these calls with these replies
  abbrev pub Holding : (ℕ → List Call) → (ℕ → List Reply) → List (Pass (Node L) Step) → Type 0
  Holding calls replies passes = Each passes (λ place pass. (pass.number ≡ 0) × HoldsCalls (calls place) (front pass) (replies place))

  -- These rows were made, and one volume met a fault in the next call or the last sync.
  pub record Stopped (table : List Path) (rows : List Row) (mets : List Seen) (replies : List Reply) (f : NodeFault) (passes : List (Pass (Node L) Step)) : Type 0 where
    pub done : List Row
    pub rest : List Row
    pub whole : done ++ rest ≡ rows
    pub seen : AreSeen table done mets
    pub to : Option Route
    pub next : IsNext table rest to
    pub shown : IsPart rest to replies
    pub has : PassHas f passes
    pub fronts : Each passes (λ place pass. (pass.number ≡ 0) × IsFront 0 [] (calls_at table place done mets ++ next_at table place rest to) [] (front pass) (replies_at place mets ++ reply_in replies place))

  -- the rows were made, up to a fault
  abbrev pub RowsCame : List Path → List Row → List Seen → List (Pass (Node L) Step) → Result (Unit {0}) Cut → Type 0
  RowsCame table rows mets passes (Ok u) = AreSeen table rows mets × Holding (λ place. calls_at table place rows mets) (λ place. replies_at place mets) passes
  RowsCame table rows mets passes (Err cut) = Unless cut.fault (Stopped table rows mets cut.replies.items cut.fault passes)

  -- and then a sync of all volumes
  abbrev pub MadeAll : List Path → List Row → List Seen → List Reply → List (Pass (Node L) Step) → Result (List Reply) NodeFault → Type 0
  MadeAll table rows mets replies passes (Ok lasts) = AreSeen table rows mets × Holding (λ place. calls_at table place rows mets ++ Sync ∷ []) (λ place. replies_at place mets ++ reply_in lasts place) passes × (replies ≡ [])
      × Each passes (λ place pass. (pass.number ≡ 0) × IsFront 0 [] (calls_at table place rows mets ++ Sync ∷ []) [] (front pass) (replies_at place mets ++ []))
  MadeAll table rows mets replies passes (Err f) = Unless f (Stopped table rows mets replies f passes)

-- a result by its replies
abbrev pub items_of : Result (Vec Reply Global) NodeFault → Result (List Reply) NodeFault
items_of (Ok replies) = Ok replies.items
items_of (Err f) = Err f

-- the last one first
abbrev pub backwards : {A : Type 0} → List A → List A
backwards [] = []
backwards (x ∷ xs) = backwards xs ++ x ∷ []

abbrev pub or_fault : Option NodeFault → Option NodeFault → Option NodeFault
or_fault None other = other
or_fault (Some f) other = Some f

module _ {L : Type 0} where
  -- the goodbye of a volume that is done
  abbrev pub Said : Bool → Pass (Node L) Step → List Step → Option NodeFault → Type 0
  Said is_done pass steps None = is_done ≡ true → SaidBye pass.number (front pass) steps
  Said is_done pass steps (Some f) = (is_done ≡ true) × Has f steps

  -- each said goodbye where it was to, or one met a fault
  abbrev pub Parted : Bool → List (Pass (Node L) Step) → List (List Step) → Option NodeFault → Type 0
  Parted is_done passes runs None = is_done ≡ true → Both passes runs (λ place pass steps. SaidBye pass.number (front pass) steps)
  Parted is_done passes runs (Some f) = (is_done ≡ true) × HasOne f runs

-- a pass said goodbye where it was to, and did nothing else
pub record SaidGoodbye {L : Type 0} (lock : TracedLock (Node L) Step) (old new : Pass (Node L) Step) (is_done : Bool) (met : Option NodeFault) : Type 0 where
  pub is_pass : IsPassOf lock new
  pub same : (new.number ≡ old.number) × (numbers new ≡ numbers old)
  pub later : IsPrefix (front old) (front new)
  pub begun : calls_by old.number (front new) ≡ calls_by old.number (front old)
  pub said : IfSome met (λ f. (is_done ≡ true) × Has f (front new)) × (met ≡ None → is_done ≡ true → SaidBye old.number (front old) (front new))

module _ {L : Type 0} (given : L → Option (List Heard)) (got : L → Option (List (List ℕ))) where
  -- a clerk was started with this boot, and greeted by its link, behind links that failed or were closed before that
  pub record Greeted (id boot : ℕ) (node : Node L) (before now : NetSeen) : Type 0 where
    pub outs : List Out
    pub starts : start id boot ≡ record { clerk = node.clerk; outs = outs; spent = None }
    pub came : CameUnsent outs before now
    pub took : Took outs (given node.link) (got node.link)
    pub alone : node.linker ≡ None

  -- the volumes with these locks were reached
  pub record ReachedThese (id boot many : ℕ) (before now : NetSeen) (locks : List (TracedLock (Node L) Step)) : Type 0 where
    pub links : List (ℕ × Ended)
    pub ended : now.ended ≡ before.ended ++ map (λ link. link.1) links
    pub inside : AreWithin many links
    pub low : before.bad ≤ now.bad
    pub faults : before.faults ≤ now.faults
    pub each : Each locks (λ place lock. Greeted id boot (first lock) (view place [] before) (view place links now))

  -- the last link of a clerk came back, and tells this of its steps, behind which its pass had begun no other call
  pub record ClosedOne (lock : TracedLock (Node L) Step) (pass : Pass (Node L) Step) (steps : List Step) (link : Ended) : Type 0 where
    pub run : IsRun (first lock).clerk steps
    pub whole : AreSaid steps
    pub alone : has_link steps ≡ false
    pub heard : link.0 ≡ added (given (first lock).link) (heard_by steps)
    pub sent : link.1 ≡ added (got (first lock).link) (said_by steps)
    pub later : IsPrefix (front pass) steps
    pub begun : calls_by pass.number steps ≡ calls_by pass.number (front pass)

  -- a volume ended, and its link came back
  pub record EndedOne (is_done : Bool) (before after : NetSeen) (lock : TracedLock (Node L) Step) (pass : Pass (Node L) Step) (told : List (List ℕ)) (boot : Option Age) (met : Option NodeFault) : Type 0 where
    pub steps : List Step
    pub link : Ended
    pub closed : ClosedOne lock pass steps link
    pub ended : after.ended ≡ before.ended ++ link ∷ []
    pub low : before.bad ≤ after.bad
    pub faults : after.faults ≡ before.faults
    pub rose : 0 < nets steps → before.bad < after.bad
    pub told_is : told ≡ told_by steps
    pub boot_is : boot ≡ old_boot steps
    pub said : Said is_done pass steps met

  abbrev pub AllClosed : List (TracedLock (Node L) Step) → List (Pass (Node L) Step) → List (List Step) → List Ended → Type 0
  AllClosed [] [] [] [] = Unit {0}
  AllClosed (lock ∷ locks) (pass ∷ passes) (steps ∷ runs) (link ∷ links) = ClosedOne lock pass steps link × AllClosed locks passes runs links
  AllClosed _ _ _ _ = ⊥

  -- all volumes ended, the last one first, and their links came back
  pub record EndedAll (is_done : Bool) (before after : NetSeen) (locks : List (TracedLock (Node L) Step)) (passes : List (Pass (Node L) Step)) (told : List (List (List ℕ))) (boot : Option Age) (met : Option NodeFault) : Type 0 where
    pub runs : List (List Step)
    pub links : List Ended
    pub closed : AllClosed locks passes runs links
    pub ended : after.ended ≡ before.ended ++ backwards links
    pub low : before.bad ≤ after.bad
    pub faults : after.faults ≡ before.faults
    pub rose : Each runs (λ place steps. 0 < nets steps → before.bad < after.bad)
    pub none : runs ≡ [] → after ≡ before
    pub told_is : told ≡ map told_by runs
    pub boot_is : boot ≡ first_boot runs
    pub parted : Parted is_done passes runs met

-- why a volume wasn't reached
abbrev pub NotReached : ℕ → ℕ → NetSeen → NetSeen → NodeFault → Type 0
NotReached id boot before after fault.Net = Unreached before after ⊎ ((before.bad < after.bad) × Unheard id boot before after)
NotReached id boot before after (fault.Peer why) = ⊥
NotReached id boot before after (fault.Long n) = ⊥
NotReached id boot before after (fault.OldBoot age) = ⊥
NotReached id boot before after (fault.Spent c) = ((start id boot).spent ≡ Some c) × (after ≡ before)
NotReached id boot before after fault.NoMemory = Unit {0}

module _ {L : Type 0} (given : L → Option (List Heard)) (got : L → Option (List (List ℕ))) where
  -- The volumes with these locks were reached and the next one wasn't.
  pub record ReachedNot (id boot : ℕ) (before now : NetSeen) (locks : List (TracedLock (Node L) Step)) : Type 0 where
    pub reached : ReachedThese given got id boot (length locks + 1) before now locks
    pub why : ((before.faults < now.faults) × (links_at (length locks) reached.links ≡ [])) ⊎ ((before.bad < now.bad) × Unheard id boot (view (length locks) [] before) (view (length locks) reached.links now))

  abbrev pub ReachFails : ℕ → ℕ → NetSeen → NetSeen → List (TracedLock (Node L) Step) → NodeFault → Type 0
  ReachFails id boot before now locks fault.Net = ReachedNot id boot before now locks
  ReachFails id boot before now locks (fault.Peer why) = ⊥
  ReachFails id boot before now locks (fault.Long n) = ⊥
  ReachFails id boot before now locks (fault.OldBoot age) = ⊥
  ReachFails id boot before now locks (fault.Spent c) = ((start id boot).spent ≡ Some c) × (now ≡ before) × (locks ≡ [])
  ReachFails id boot before now locks fault.NoMemory = Unit {0}

  -- so many volumes were reached, or fewer and why no more
  abbrev pub ReachedUpTo : ℕ → ℕ → ℕ → NetSeen → NetSeen → List (TracedLock (Node L) Step) → Result (Unit {0}) NodeFault → Type 0
  ReachedUpTo id boot many before now locks (Ok u) = (length locks ≡ many) × ReachedThese given got id boot (length locks) before now locks
  ReachedUpTo id boot many before now locks (Err f) = (length locks < many) × ReachFails id boot before now locks f

-- want of memory goes before a greater age, and that before any other fault
abbrev pub last_fault : NodeFault → Option Age → NodeFault
last_fault fault.NoMemory boot = fault.NoMemory
last_fault f None = f
last_fault f (Some age) = fault.OldBoot age

abbrev pub last_of : {A : Type 0} → Result A NodeFault → Option Age → Option NodeFault → Result A NodeFault
last_of (Err f) boot met = Err (last_fault f boot)
last_of (Ok x) None None = Ok x
last_of (Ok x) None (Some f) = Err f
last_of (Ok x) (Some age) met = Err (fault.OldBoot age)

-- what is answered, by how the volumes ended
abbrev pub Concludes : Option Ends → List Seen → List Reply → Result (Vec Reply Global) NodeFault → Answers → Type 0
Concludes None mets replies last answers = answers.last ≡ Err fault.NoMemory
Concludes (Some ends) mets replies last answers = (answers.mets.items ≡ mets) × (answers.replies.items ≡ replies) × (answers.told ≡ ends.told) × (answers.last ≡ last_of last ends.boot ends.fault)

-- the clerks of the volumes ran, and this is why it ended so
abbrev pub Works : ℕ → ℕ → List Path → List Row → NetSeen → NetSeen → List Seen → List Reply → List (List (List ℕ)) → Result (List Reply) NodeFault → Type 0
Works id boot table rows before after mets replies told (Ok lasts) = HoldsAll id boot table before after rows mets told lasts
Works id boot table rows before after mets replies told (Err fault.Net) = LostOne id boot table rows before after mets replies told
Works id boot table rows before after mets replies told (Err (fault.Peer why)) = MetOne id boot table rows before after (fault.Peer why) mets replies told
Works id boot table rows before after mets replies told (Err (fault.Long n)) = MetOne id boot table rows before after (fault.Long n) mets replies told
Works id boot table rows before after mets replies told (Err (fault.OldBoot age)) = (runs : List (List Step)) × RanAll id boot (length table) before after runs × (first_boot runs ≡ Some age)
Works id boot table rows before after mets replies told (Err (fault.Spent c)) = SpendsOne id boot table rows before after c mets replies told
Works id boot table rows before after mets replies told (Err fault.NoMemory) = Unit {0}

-- this text was written, with this status, or a part of it; or nothing, for want of memory
abbrev pub WroteOr : List ℕ → Status → Status → Option (List ℕ) → Option (List ℕ) → ℕ → ℕ → Type 0
WroteOr text st result held now before later = WroteAs text st result held now before later ⊎ Silent status.NoMemory result held now

-- what is told of the runs
abbrev pub TellsAll : List Path → List Row → List Seen → List Reply → List (List (List ℕ)) → Result (List Reply) NodeFault → Status → Option (List ℕ) → Option (List ℕ) → ℕ → ℕ → Type 0
TellsAll table rows mets replies told (Ok lasts) result held now before later = WroteOr (mounts_text table rows mets told lasts) status.Done result held now before later
TellsAll table rows mets replies told (Err fault.Net) result held now before later = WroteOr (came_text table rows mets replies told ++ []) status.NetFault result held now before later
TellsAll table rows mets replies told (Err (fault.Peer why)) result held now before later = WroteOr (came_text table rows mets replies told ++ peer_text (place_in why)) status.PeerFault result held now before later
TellsAll table rows mets replies told (Err (fault.Long n)) result held now before later = WroteOr (came_text table rows mets replies told ++ peer_text 0) status.PeerFault result held now before later
TellsAll table rows mets replies told (Err (fault.OldBoot age)) result held now before later = WroteOr (old_boot_text age) status.OldBoot result held now before later
TellsAll table rows mets replies told (Err (fault.Spent c)) result held now before later = WroteOr (came_text table rows mets replies told ++ shown_text (shown.Spent c)) status.Spent result held now before later
TellsAll table rows mets replies told (Err fault.NoMemory) result held now before later = Silent status.NoMemory result held now
