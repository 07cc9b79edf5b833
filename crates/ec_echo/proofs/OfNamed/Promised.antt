-- Each clause follows from what the program does by its words, and all of that follows from the clauses.
use Rattle.std.proofs.Common.{◌≡◌, ◌⊎◌, ℕ, List, [], ◌∷◌, ◌++◌, refl, ap, subst, ◌∙◌, inl, inr}
use Rattle.std.specs.Prelude.{◌↔◌, false}
use Rattle.std.proofs.Math.Logic.{∥∥₁_map}
use Rattle.ec_base.proofs.Equalities.{true_false}
use Rattle.ec_history.specs.History.{Base, Throughout}
use Rattle.ec_history.specs.History as history
use Rattle.ec_history.specs.Legal.{IsLegal, IsLegalNext}
use Rattle.ec_history.specs.Lines.{AreCovered}
use Rattle.ec_history.specs.Placing.{ArePlaceable, place}
use Rattle.ec_history.specs.declared.entry.Entry.{Entry}
use Rattle.ec_history.specs.declared.entry.Entry.TheVariants as entry
use Rattle.ec_history.specs.declared.shown.Shown.{Shown}
use Rattle.ec_lawful.specs.Headline.{AreLawful}
use Rattle.ec_drill.specs.OfPromise.OfRooms.DrillRooms.{AreWithinRoom}
use Rattle.ec_drill.specs.Drill.{Outside, Drilled}
use Rattle.ec_drill.specs.declared.status.Status as drilled
use Rattle.ec_drill.specs.declared.status.Status.TheVariants as drill
use Rattle.ec_machine_laws.specs.OfNodeLaws.Claims.{ClaimsComeFirst}
use Rattle.ec_drill.specs.OfPromise.LawfulEnds.{IsLawful}
use Rattle.ec_drill.proofs.OfPromise.Completes.{drills-complete}
use Rattle.ec_drill.proofs.OfPromise.Lawful.{drills-lawful}
use Rattle.ec_drill.proofs.OfPromise.Rooms.{drills-told}
use Rattle.ec_drill.proofs.OfPromise.Spent.{drills-spent}
use Rattle.ec_echo.specs.Echo.{Links}
use Rattle.ec_echo.specs.Forms.{DoesForm, Echoes}
use Rattle.ec_echo.specs.NetUse.{uses_net}
use Rattle.ec_script.specs.OfGenerator.Generator.{script_of}
use Rattle.ec_drill.specs.Limits.{most_objects}
use Rattle.ec_echo.specs.Made.{made_lines}
use Rattle.ec_echo.specs.Soak.{IsUnmade}
use Rattle.ec_echo.specs.SoakDrills.{Soaked}
use Rattle.ec_echo.proofs.Plain.{made-plain}
use Rattle.ec_echo.proofs.Soaks.{soaked_by}
use Rattle.ec_echo.specs.Statuses.{code, of_drill, of_leases, of_mount}
use Rattle.ec_echo.specs.Words.{Spells}
use Rattle.ec_echo.specs.declared.command.Command.{Command}
use Rattle.ec_echo.specs.declared.command.Command.TheVariants.{Drill, Check, Make, Soak, Serve, Mount, Leases, MountTable}
use Rattle.ec_echo.specs.declared.status.Status.{Status}
use Rattle.ec_echo.specs.declared.status.Status.TheVariants as status
use Rattle.ec_echo.specs.OfNamed.Forms.{Asks, DoesCheck, DoesDrill, DoesMake, DoesMount, DoesMounts, DoesServe, IsAlone, OnCheck, OnDrill, OnMake, OnMount, OnMounts, OnServe, OnSoak, TouchesNothing, outside}
use Rattle.ec_echo.specs.OfNamed.Leases.{DoesLeases, LeaseBytes, LeaseCalls, LeaseHistory, LeaseLines, LeaseSessions, LeaseStores, OnLeases}
use Rattle.ec_echo.specs.OfNamed.PlainLeases.{LeaseComplete}
use Rattle.ec_echo.specs.OfNamed.Promises.{ExactReports, Fsync, History, IsExactAt, IsLawfulAt, IsPlainAt, LawfulLosses, LinesInPlace, OfEntries, PlainReplies, Room}
use Rattle.ec_echo.specs.OfNamed.Runs.{Causes, Complete, OwnCalls, Sessions, Spent, Stores, Together, WriteBehind}
use Rattle.ec_drill.specs.Seen.{Stream, Store}
use Rattle.ec_echo.specs.OfNamed.Soaks.{DoesSoak, SoaksOnce, made, transcribed}
use Rattle.ec_echo.specs.OfNamed.States.{DiskOfCut, InOrder, Leaves, StatesInOrder}
use Rattle.ec_echo.specs.OfNamed.Told.{OfLines, WroteLines, WroteNone}
use Rattle.ec_echo.proofs.OfNamed.Facts.{Facts, facts}
use Rattle.ec_echo.proofs.OfNamed.Leased.{lease-bytes, lease-calls, lease-history, lease-lines, lease-stores}
use Rattle.ec_echo.proofs.OfNamed.LeaseSessions.{lease-sessions}
use Rattle.ec_echo.proofs.OfNamed.PlainLeased.{lease-complete}
use Rattle.ec_echo.proofs.OfNamed.Lines.{of-lines, wrote-lines}
use Rattle.ec_echo.proofs.OfNamed.Runs.{cause, complete, end-as-asked, own-calls, spends-few, stored, together, writes-behind}
use Rattle.ec_echo.proofs.OfNamed.Words.{spells-once}

-- what was done by these words, with this exit status
abbrev pub Did : ℕ → List (List ℕ) → ℕ → Outside → Links → Type 0
Did boot words result w n = (st : Status) × (result ≡ code st) × Echoes boot words st w n

does-of : (boot : ℕ) (words : List (List ℕ)) (st : Status) (w : Outside) (n : Links) → Echoes boot words st w n → (c : Command) → Spells words c → DoesForm boot words c st w n
does-of boot words st w n (inl none) c s = absurd (none.1 c s)
does-of boot words st w n (inr did) c s = subst (λ (x : Command). DoesForm boot words x st w n) (spells-once words did.0 c did.1 s) did.2

-- and back
pub asked : (words : List (List ℕ)) (result : ℕ) → Asks words result → (result ≡ 2) ↔ ((c : Command) → Spells words c → ⊥)
asked words result (inl none) = (λ two. none.1, λ no_form. none.0)
asked words result (inr (other, c, s)) = (λ two. absurd (other two), λ no_form. absurd (no_form c s))

-- The forms.

module _ (boot : ℕ) (words : List (List ℕ)) (result : ℕ) (w : Outside) (n : Links) where
  pub asks : (result ≡ 2) ↔ ((c : Command) → Spells words c → ⊥) → Did boot words result w n → Asks words result
  asks usage (st, is, inl none) = inl (is ∙ ap code none.0, none.1)
  asks usage (st, is, inr did) = inr (λ two. usage.0 two did.0 did.1, did.0, did.1)

  pub does-drill : Did boot words result w n → OnDrill words (DoesDrill result w)
  does-drill (st, is, did) most s = let d = does-of boot words st w n did (Drill most) s in (d.0.0, is ∙ ap code d.0.1, d.0.2)

  pub does-check : Did boot words result w n → OnCheck words (DoesCheck result w)
  does-check (st, is, did) most s = let d = does-of boot words st w n did (Check most) s in (st, is, d.0.0, d.0.1)

  pub does-make : Did boot words result w n → OnMake words (DoesMake result w)
  does-make (st, is, did) number s = let d = does-of boot words st w n did (Make number) s in (st, is, d.0.0, d.0.1, d.0.2)

  pub does-serve : Did boot words result w n → OnServe words (DoesServe result w n)
  does-serve (st, is, did) count s = let d = does-of boot words st w n did (Serve count) s in (st, is, d.0, d.1)

  pub does-mount : Did boot words result w n → OnMount words (DoesMount boot result w n)
  does-mount (st, is, did) c s = let d = does-of boot words st w n did (Mount c) s in (d.0, is ∙ ap code d.1, d.2, d.3, d.4, d.5)

  pub does-mounts : Did boot words result w n → OnMounts words (DoesMounts boot words result w n)
  does-mounts (st, is, did) c s = let d = does-of boot words st w n did (MountTable c) s in (d.0, is ∙ ap code d.1, d.2)

  pub does-leases : Did boot words result w n → OnLeases words (DoesLeases result w)
  does-leases (st, is, did) l e s = let d = does-of boot words st w n did (Leases l e) s in (d.0.0, is ∙ ap code d.0.1, d.0.2)

  pub touches-nothing : Did boot words result w n → TouchesNothing words w n
  touches-nothing (st, is, inl none) no_form = (none.2, none.3)
  touches-nothing (st, is, inr did) no_form = absurd (no_form did.0 did.1)

  pub is-alone : Did boot words result w n → IsAlone words n
  is-alone (st, is, inl none) no_net = none.3
  is-alone (st, is, inr (Drill most, s, does)) no_net = does.1
  is-alone (st, is, inr (Check most, s, does)) no_net = does.1
  is-alone (st, is, inr (Make k, s, does)) no_net = does.1
  is-alone (st, is, inr (Soak k, s, does)) no_net = does.1
  is-alone (st, is, inr (Serve k, s, does)) no_net = absurd (true_false (no_net (Serve k) s))
  is-alone (st, is, inr (Mount k, s, does)) no_net = absurd (true_false (no_net (Mount k) s))
  is-alone (st, is, inr (Leases l e, s, does)) no_net = does.1
  is-alone (st, is, inr (MountTable k, s, does)) no_net = absurd (true_false (no_net (MountTable k) s))

-- The parts of a legal history.

throughout : (P Q : history.History → ℕ × Entry → Type 0) → ((past : history.History) (e : ℕ × Entry) → P past e → Q past e) → (past h : history.History) → Throughout P past h → Throughout Q past h
throughout P Q f past [] each = tt
throughout P Q f past (e ∷ h) each = (f past e each.0, throughout P Q f (past ++ e ∷ []) h each.1)

plain-at : (base : Base) (limit : ℕ) (past : history.History) (e : ℕ × Entry) → IsLegalNext base limit past e → IsPlainAt base limit past e
plain-at base limit past (p, entry.Call c b l begun cl a op) is = (is.number, is.room, is.reply)
plain-at base limit past (p, entry.Loss c b ns) is = tt

exact-at : (base : Base) (limit : ℕ) (past : history.History) (e : ℕ × Entry) → IsLegalNext base limit past e → IsExactAt base limit past e
exact-at base limit past (p, entry.Call c b l begun cl a op) is = is.report
exact-at base limit past (p, entry.Loss c b ns) is = tt

lawful-at : (base : Base) (limit : ℕ) (past : history.History) (e : ℕ × Entry) → IsLegalNext base limit past e → IsLawfulAt base limit past e
lawful-at base limit past (p, entry.Call c b l begun cl a op) is = tt
lawful-at base limit past (p, entry.Loss c b ns) is = is

-- The states on the way, and what a drill that was cut off left.

in-order : (most : ℕ) (st : drilled.Status) (w : Outside) (d : Drilled most st w) → IsLawful most st w d → InOrder most st w d
in-order most drill.Done w d is = λ told. ∥∥₁_map (is.0 told) (λ a. a.1)
in-order most drill.BadLine w d is = λ told. ∥∥₁_map (is.0 told) (λ a. a.1)
in-order most drill.Limit w (inl over) is = tt
in-order most drill.Limit w (inr d) is = λ told. ∥∥₁_map (is.0 told) (λ a. a.1)
in-order most drill.Spent w d is = λ told. ∥∥₁_map (is.0 told) (λ a. a.2)
in-order most drill.SinkFault w (rose, inl part) is = λ told. ∥∥₁_map (is.0.0 told) (λ a. a.1)
in-order most drill.SinkFault w (rose, inr refused) is = tt
in-order most drill.DiskFault w (rose, inl part) is = λ told. ∥∥₁_map (is.0.0 told) (λ a. a.1)
in-order most drill.DiskFault w (rose, inr silent) is = tt
in-order most drill.NoMemory w (inl (inl part)) is = λ told. ∥∥₁_map (is.0.0 told) (λ a. a.1)
in-order most drill.NoMemory w (inl (inr refused)) is = tt
in-order most drill.NoMemory w (inr silent) is = tt
in-order most drill.Usage w d is = tt
in-order most drill.SourceFault w d is = tt
in-order most drill.BadDisk w d is = tt

leaves : (most : ℕ) (st : drilled.Status) (w : Outside) (d : Drilled most st w) → IsLawful most st w d → Leaves most st w d
leaves most drill.Spent w d is = λ told. ∥∥₁_map (is.0 told) (λ a. a.1)
leaves most drill.SinkFault w (rose, inl part) is = is.0.1
leaves most drill.SinkFault w (rose, inr refused) is = tt
leaves most drill.DiskFault w (rose, inl part) is = is.0.1
leaves most drill.DiskFault w (rose, inr silent) is = tt
leaves most drill.NoMemory w (inl (inl part)) is = is.0.1
leaves most drill.NoMemory w (inl (inr refused)) is = tt
leaves most drill.NoMemory w (inr silent) is = tt
leaves most drill.Done w d is = tt
leaves most drill.BadLine w d is = tt
leaves most drill.Limit w d is = tt
leaves most drill.Usage w d is = tt
leaves most drill.SourceFault w d is = tt
leaves most drill.BadDisk w d is = tt

-- A drill.

module _ (boot : ℕ) (words : List (List ℕ)) (result : ℕ) (source sink : Stream) (store : Store) (n : Links) (did : Did boot words result (outside source sink store) n) where
  abbrev w : Outside
  w = outside source sink store

  known : (most : ℕ) → DoesDrill result w most → Facts most result source sink store ⊎ WroteNone result sink
  known most d = facts most result source sink store d.0 d.1 d.2

  abbrev Known : ℕ → Type 0
  Known most = Facts most result source sink store ⊎ WroteNone result sink

  on-facts : (P : ℕ → Type 0) → ((most : ℕ) → Known most → P most) → OnDrill words P
  on-facts P from most s = from most (known most (does-drill boot words result w n did most s))

  on-lines : (P : Base → ℕ → List Shown → Type 0) → ((base : Base) (limit : ℕ) (front : List Shown) → AreLawful base limit front → AreWithinRoom limit front → P base limit front)
      → ((base : Base) (limit : ℕ) → P base limit []) → OnDrill words (OfLines P result sink store)
  on-lines P from none = on-facts (OfLines P result sink store) (λ most. of-lines most result source sink store P from none)

  on-entries : (P : Base → ℕ → history.History → ℕ × Entry → Type 0) → ((base : Base) (limit : ℕ) (past : history.History) (e : ℕ × Entry) → IsLegalNext base limit past e → P base limit past e) → OnDrill words (OfLines (OfEntries P) result sink store)
  on-entries P each = on-lines (OfEntries P) (λ base limit front is room. throughout (IsLegalNext base limit) (P base limit) (each base limit) [] (place front) is.history) (λ base limit. tt)

  pub has-history : OnDrill words (History result sink store)
  has-history = on-lines (λ base limit lines. IsLegal base limit (place lines)) (λ base limit front is room. is.history) (λ base limit. tt)

  pub are-placed : OnDrill words (LinesInPlace result sink store)
  are-placed = on-lines (λ base limit lines. ArePlaceable [] lines) (λ base limit front is room. is.placed) (λ base limit. tt)

  pub covers-fsync : OnDrill words (Fsync result sink store)
  covers-fsync = on-lines (λ base limit lines. AreCovered base lines) (λ base limit front is room. is.fsync) (λ base limit. tt)

  pub tells-room : OnDrill words (Room result sink store)
  tells-room = on-lines (λ base limit lines. AreWithinRoom limit lines) (λ base limit front is room. room) (λ base limit. tt)

  pub has-replies : OnDrill words (PlainReplies result sink store)
  has-replies = on-entries IsPlainAt plain-at

  pub has-reports : OnDrill words (ExactReports result sink store)
  has-reports = on-entries IsExactAt exact-at

  pub has-losses : OnDrill words (LawfulLosses result sink store)
  has-losses = on-entries IsLawfulAt lawful-at

  pub has-bytes : OnDrill words (WroteLines result sink)
  has-bytes = on-facts (WroteLines result sink) (λ most. wrote-lines most result source sink store)

  pub is-together : OnDrill words (Together result source sink store)
  is-together = on-facts (Together result source sink store) (λ most. together most result source sink store)

  pub has-own : OnDrill words (OwnCalls result source sink store)
  has-own = on-facts (OwnCalls result source sink store) (λ most. own-calls most result source sink store)

  pub has-sessions : OnDrill words (Sessions result source sink store)
  has-sessions = on-facts (Sessions result source sink store) (λ most. end-as-asked most result source sink store)

  pub tells-spent : OnDrill words (Spent result source sink store)
  tells-spent = on-facts (Spent result source sink store) (λ most. spends-few most result source sink store)

  pub is-behind : OnDrill words (WriteBehind result source sink store)
  is-behind = on-facts (WriteBehind result source sink store) (λ most. writes-behind most result source sink store)

  pub is-stored : OnDrill words (Stores result source sink store)
  is-stored = on-facts (Stores result source sink store) (λ most. stored most result source sink store)

  pub is-complete : OnDrill words (Complete result source sink store)
  is-complete most s = let d = does-drill boot words result w n did most s in complete most result source sink store d.0 d.1 d.2 (known most d)

  pub has-causes : OnDrill words (Causes result source sink store)
  has-causes most s = let d = does-drill boot words result w n did most s in cause most result source sink store d.0 d.1 d.2

  pub are-in-order : OnDrill words (StatesInOrder result w)
  are-in-order most s = let d = does-drill boot words result w n did most s in (d.0, d.1, d.2, in-order most d.0 w d.2 (drills-lawful most d.0 w d.2))

  pub has-left : OnDrill words (DiskOfCut result w)
  has-left most s = let d = does-drill boot words result w n did most s in (d.0, d.1, d.2, leaves most d.0 w d.2 (drills-lawful most d.0 w d.2))

  -- A drill with leases.

  on-leases : (P : ℕ → ℕ → Type 0) → ((l e : ℕ) → DoesLeases result w l e → P l e) → OnLeases words P
  on-leases P from l e s = from l e (does-leases boot words result w n did l e s)

  pub has-lease-history : OnLeases words (LeaseHistory result source sink store)
  has-lease-history = on-leases (LeaseHistory result source sink store) (λ l e d. lease-history l e result source sink store d.0 d.1 d.2)

  pub has-lease-lines : OnLeases words (LeaseLines result source sink store)
  has-lease-lines = on-leases (LeaseLines result source sink store) (λ l e d. lease-lines l e result source sink store d.0 d.1 d.2)

  pub has-lease-calls : OnLeases words (LeaseCalls result source sink store)
  has-lease-calls = on-leases (LeaseCalls result source sink store) (λ l e d. lease-calls l e result source sink store d.0 d.1 d.2)

  pub has-lease-sessions : OnLeases words (LeaseSessions result source sink store)
  has-lease-sessions = on-leases (LeaseSessions result source sink store) (λ l e d. lease-sessions l e result source sink store d.0 d.1 d.2)

  pub has-lease-disk : OnLeases words (LeaseStores result source sink store)
  has-lease-disk = on-leases (LeaseStores result source sink store) (λ l e d. lease-stores l e result source sink store d.0 d.1 d.2)

  pub has-lease-complete : OnLeases words (LeaseComplete result source sink store)
  has-lease-complete l e s = let d = does-leases boot words result w n did l e s in lease-complete l e result ((s.3).1.0) source sink store d.0 d.1 d.2

  pub has-lease-bytes : OnLeases words (LeaseBytes result sink)
  has-lease-bytes = on-leases (LeaseBytes result sink) (λ l e d. lease-bytes l e result source sink store d.0 d.1 d.2)

  -- A soak.

  soaks-once : (number : ℕ) (st : Status) → Soaked number st w → SoaksOnce number st sink store ⊎ IsUnmade st w
  soaks-once number st (inr unmade) = inr unmade
  soaks-once number st (inl s) =
      let from = made number s.left_after in
      let to = transcribed s.transcript in
      let known = facts most_objects (code (of_drill s.end)) from to store s.end refl s.drilled_so in
      inl (record {
        left_after = s.left_after;
        transcript = s.transcript;
        end = s.end;
        drilled_so = s.drilled_so;
        plain = made-plain number;
        complete = complete most_objects (code (of_drill s.end)) from to store s.end refl s.drilled_so known;
        together = together most_objects (code (of_drill s.end)) from to store known;
        spent = spends-few most_objects (code (of_drill s.end)) from to store known;
        told = s.told;
      })

  pub does-soak : OnSoak words (DoesSoak result source sink store)
  does-soak number s = let d = does-of boot words did.0 w n did.2 (Soak number) s in (did.0, did.1, soaks-once number did.0 d.0.0, d.0.1)

-- And back: what the program does by its words follows from the clauses of the forms.

pub record AllForms (boot : ℕ) (words : List (List ℕ)) (result : ℕ) (source sink : Stream) (store : Store) (n : Links) : Type 0 where
  pub usage : Asks words result
  pub untouched : TouchesNothing words (outside source sink store) n
  pub alone : IsAlone words n
  pub claims : ClaimsComeFirst
  pub drill : OnDrill words (DoesDrill result (outside source sink store))
  pub check : OnCheck words (DoesCheck result (outside source sink store))
  pub make : OnMake words (DoesMake result (outside source sink store))
  pub soak : OnSoak words (DoesSoak result source sink store)
  pub serve : OnServe words (DoesServe result (outside source sink store) n)
  pub mount : OnMount words (DoesMount boot result (outside source sink store) n)
  pub mounts : OnMounts words (DoesMounts boot words result (outside source sink store) n)
  pub leases : OnLeases words (DoesLeases result (outside source sink store))

pub say-all : (boot : ℕ) (words : List (List ℕ)) (result : ℕ) (source sink : Stream) (store : Store) (n : Links) → AllForms boot words result source sink store n → Did boot words result (outside source sink store) n
say-all boot words result source sink store n all = go all.usage
  where
    soaked : (number : ℕ) (st : Status) → SoaksOnce number st sink store ⊎ IsUnmade st (outside source sink store) → Soaked number st (outside source sink store)
    soaked number st (inr unmade) = inr unmade
    soaked number st (inl s) = soaked_by number s.end st (outside source sink store) (script_of number made_lines) [] s.left_after s.transcript refl refl s.drilled_so s.told

    -- a command that uses no net leaves it
    no-net : (c : Command) → uses_net c ≡ false → Spells words c → n.later ≡ n.before
    no-net c none s = all.alone (λ d t. subst (λ (x : Command). uses_net x ≡ false) (spells-once words c d s t) none)

    go : Asks words result → Did boot words result (outside source sink store) n
    go (inl none) = (status.Usage, none.0, inl (refl, none.1, (all.untouched none.1).0, (all.untouched none.1).1))
    go (inr (other, Drill most, s)) =
        let d = all.drill most s in
        let lawful = drills-lawful most d.0 (outside source sink store) d.2 in
        (of_drill d.0, d.1, inr (Drill most, s, ((d.0, refl, d.2, lawful, drills-complete most d.0 (outside source sink store) d.2 lawful, drills-told most d.0 (outside source sink store) d.2, drills-spent most d.0 (outside source sink store) d.2, all.claims), no-net (Drill most) refl s)))
    go (inr (other, Check most, s)) = let d = all.check most s in (d.0, d.1, inr (Check most, s, ((d.2, d.3), no-net (Check most) refl s)))
    go (inr (other, Make k, s)) = let d = all.make k s in (d.0, d.1, inr (Make k, s, ((d.2, d.3, d.4), no-net (Make k) refl s)))
    go (inr (other, Soak k, s)) = let d = all.soak k s in (d.0, d.1, inr (Soak k, s, ((soaked k d.0 d.2, d.3), no-net (Soak k) refl s)))
    go (inr (other, Serve k, s)) = let d = all.serve k s in (d.0, d.1, inr (Serve k, s, (d.2, d.3)))
    go (inr (other, Mount c, s)) = let d = all.mount c s in (of_mount d.0, d.1, inr (Mount c, s, (d.0, refl, d.2, d.3, d.4, d.5)))
    go (inr (other, Leases l e, s)) = let d = all.leases l e s in (of_leases d.0, d.1, inr (Leases l e, s, ((d.0, refl, d.2), no-net (Leases l e) refl s)))
    go (inr (other, MountTable c, s)) = let d = all.mounts c s in (of_mount d.0, d.1, inr (MountTable c, s, (d.0, refl, d.2)))
