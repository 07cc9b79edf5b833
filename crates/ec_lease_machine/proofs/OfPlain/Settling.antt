-- A line of a script of comments, calls and pushes does with leases what it does without them, and leaves no clerk held.
use Rattle.std.proofs.Common.{◌≡◌, refl, sym, ap, subst, ◌∙◌, arith, ◌<◌, ◌+◌, ℕ, zero, suc, T, false, length, List, [], ◌∷◌, ◌++◌, Option, Some, None, append-nil}
use Rattle.std.specs.Prelude.{is_some, map, ⊤}
use Rattle.std.proofs.lemmas.List.{map-append}
use Rattle.ec_volume.specs.Volume.{images}
use Rattle.ec_volume.specs.declared.image.Image.TheVariants.{Gone}
use Rattle.ec_history.specs.History.{Each}
use Rattle.ec_history.specs.declared.shown.Shown.{Shown}
use Rattle.ec_history.specs.declared.shown.Shown.TheVariants.{Unsettled}
use Rattle.ec_durable.specs.WellFormed.{WellFormed}
use Rattle.ec_durable.specs.declared.state.Durable.{Durable}
use Rattle.ec_protocol.specs.Drill as plain
use Rattle.ec_protocol.specs.Drill.{Fates, later_fates, reads, this_fate}
use Rattle.ec_protocol.specs.World as world
use Rattle.ec_protocol.specs.World.{Fate, runs, Moving, clerks, deliver, due}
use Rattle.ec_protocol.specs.declared.script.Line.{Line as Scripted}
use Rattle.ec_protocol.specs.declared.script.Line.TheVariants as line
use Rattle.ec_protocol.specs.declared.world.Event.TheVariants as of_world
use Rattle.ec_protocol.specs.declared.world.World.{World}
use Rattle.ec_protocol.specs.declared.world.WorldFault.{WorldFault}
use Rattle.ec_lawful.specs.DrillRuns.{IsFit}
use Rattle.ec_lease_machine.specs.Drill.{carry_out, delivered, drill_line, due_now, renewed, settle, unsettled}
use Rattle.ec_lease_machine.specs.Leases.{LeaseMoving, fails, in_world, is_held, moved, onward, renew_each, shows}
use Rattle.ec_lease_machine.specs.declared.script.LeaseLine.TheVariants as lines
use Rattle.ec_lease_machine.specs.declared.world.LeaseFault.{LeaseFault}
use Rattle.ec_lease_machine.specs.declared.world.LeaseFault.TheVariants as fault
use Rattle.ec_lease_machine.specs.declared.world.LeaseShown.{LeaseShown}
use Rattle.ec_lease_machine.specs.declared.world.LeaseShown.TheVariants.{Line}
use Rattle.ec_lease_machine.specs.declared.world.LeaseWorld.{LeaseWorld}
use Rattle.ec_lease_machine.proofs.OfPlain.Renewed.{IsEarly, Leaves, renew-leaves, same-held}
use Rattle.ec_lease_machine.proofs.OfPlain.Steps.{due-plainly, renew-step, renewed-early, renewed-free, steps-plainly}
use Rattle.ec_lease_machine.proofs.OfPlain.Worlds.{IsGood, good-later, happens-good, is-new, is-one, is-served, unsettles-good}
use Rattle.ec_base.proofs.Options.{none_some}

-- the line is a comment, a call or a push
abbrev pub IsUnclocked : Scripted → Type 0
IsUnclocked line.Comment = ⊤
IsUnclocked (line.Call c cl) = ⊤
IsUnclocked (line.Push c n) = ⊤
IsUnclocked _ = ⊥

-- the disk runs in each step
abbrev pub AllRan : Fates → Type 0
AllRan fates = Each (λ f. f ≡ runs) fates

this-runs : (fs : Fates) → AllRan fs → this_fate fs ≡ runs
this-runs [] a = refl
this-runs (f ∷ fs) a = a.0

later-run : (fs : Fates) → AllRan fs → AllRan (later_fates fs)
later-run [] a = tt
later-run (f ∷ fs) a = a.1

-- a fault of the world, as one of a world with leases
abbrev pub lease_fault : Option WorldFault → Option LeaseFault
lease_fault None = None
lease_fault (Some f) = Some (fault.World f)

-- steps under way that came to this world with these lines
abbrev moving-at : World → List Shown → Option WorldFault → Moving
moving-at w ss o = record { world = w; shown = ss; fault = o }

abbrev lease-at : LeaseWorld → List LeaseShown → Option LeaseFault → LeaseMoving
lease-at x ss o = record { world = x; shown = ss; fault = o }

abbrev plainly : List Shown → LeaseWorld → Moving
plainly ss x = moving-at x.world ss None

abbrev leased : List Shown → LeaseWorld → LeaseMoving
leased ss x = lease-at x (map Line ss) None

-- a fault ends all
settled-fault : (k : ℕ) (fs : Fates) (n : LeaseMoving) (f : LeaseFault) → n.fault ≡ Some f → settle k fs n ≡ n
settled-fault zero fs n f q = ap (λ o. elim o as (λ z. LeaseMoving) [ Some g ↦ n | None ↦ elim (due_now n.world) as (λ z. LeaseMoving) [ None ↦ n | Some i ↦ unsettled n ] ]) q
settled-fault (suc k) fs n f q = ap (λ o. elim o as (λ z. LeaseMoving) [ Some g ↦ n | None ↦ elim (due_now n.world) as (λ z. LeaseMoving) [ None ↦ n | Some i ↦ settle k (later_fates fs) (delivered (this_fate fs) i n) ] ]) q

module _ (d : Durable) (wf : WellFormed d) (sixteen : length d.sessions ≡ 16) (unmade : images d.volume 0 ≡ Gone) where
  -- a world before the line of this number, in which no clerk is held
  pub record IsReady (n : ℕ) (x : LeaseWorld) : Type 0 where
    pub good : IsGood d wf sixteen unmade n x.world
    pub early : IsEarly x
    pub free : (c : ℕ) → is_held c x ≡ false

  -- steps with leases came to what those without them came to
  pub record Alike (n : ℕ) (m : Moving) (q : LeaseMoving) : Type 0 where
    pub world : q.world.world ≡ m.world
    pub shown : q.shown ≡ map Line m.shown
    pub fault : q.fault ≡ lease_fault m.fault
    pub up : T (is_some m.world.server)
    pub ready : m.fault ≡ None → IsReady n q.world

  same-alike : (n : ℕ) (ss : List Shown) (x : LeaseWorld) → IsReady n x → Alike n (plainly ss x) (leased ss x)
  same-alike n ss x r = record { world = refl; shown = refl; fault = refl; up = r.good.linked.up; ready = λ e. r }

  -- Behind a step of the world leases are renewed.
  module _ (n : ℕ) (ss : List Shown) (x : LeaseWorld) (early : IsEarly x) (up : T (is_some x.world.server)) (mv : Moving) (good : mv.fault ≡ None → IsGood d wf sixteen unmade n mv.world) where
    abbrev y : LeaseWorld
    y = in_world mv.world x

    its-early : IsEarly y
    its-early = record { now = early.now; skews = early.skews; queued = early.queued; runs = early.runs }

    goes : mv.fault ≡ None → Alike n (moving-at mv.world (ss ++ mv.shown) None) (renewed (lease-at y (map Line ss ++ map Line mv.shown) None))
    goes q = subst (λ z. Alike n m (onward b z)) (sym (renew-step y early.queued)) (record {
      world = l.world;
      shown = append-nil (map Line ss ++ map Line mv.shown) ∙ sym (map-append Line ss mv.shown);
      fault = refl;
      up = (good q).linked.up;
      ready = λ e. (record {
        good = subst (IsGood d wf sixteen unmade n) (sym l.world) (good q);
        early = renewed-early y its-early;
        free = renewed-free y its-early (is-served d wf sixteen unmade n mv.world (good q)) (is-one d wf sixteen unmade n mv.world (good q));
      });
    })
      where
        l : Leaves y (renew_each clerks y)
        l = renew-leaves clerks y

        m : Moving
        m = moving-at mv.world (ss ++ mv.shown) None

        b : LeaseMoving
        b = lease-at y (map Line ss ++ map Line mv.shown) None

    pub behind : Alike n (plain.onward (plainly ss x) mv) (renewed (onward (leased ss x) (moved mv x)))
    behind = by mv.fault refl
      where
        by : (o : Option WorldFault) → mv.fault ≡ o
            → Alike n (elim o as (λ z. Moving) [ Some f ↦ moving-at x.world ss (Some f) | None ↦ moving-at mv.world (ss ++ mv.shown) None ])
            (renewed (onward (leased ss x) (elim o as (λ z. LeaseMoving) [ Some f ↦ fails (fault.World f) x | None ↦ shows (map Line mv.shown) (in_world mv.world x) ])))
        by (Some f) q = record { world = refl; shown = append-nil (map Line ss); fault = refl; up = up; ready = λ e. absurd (none_some (sym e)) }
        by None q = goes q

  -- What settles behind it.
  abbrev Settles : ℕ → ℕ → Fates → Type 0
  Settles n k fs = (ss : List Shown) (x : LeaseWorld) → IsReady n x → Alike n (plain.settle k fs (plainly ss x)) (settle k fs (leased ss x))

  settles-on : (n k : ℕ) (fs : Fates) → Settles n k fs → (m : Moving) (q : LeaseMoving) → Alike n m q → Alike n (elim m.fault as (λ z. Moving) [ Some f ↦ m | None ↦ plain.settle k fs m ]) (settle k fs q)
  settles-on n k fs more m q a = by m.fault refl
    where
      here : m.fault ≡ None → Alike n (plain.settle k fs m) (settle k fs q)
      here e = subst (λ z. Alike n (plain.settle k fs m) (settle k fs z)) leased-is (subst (λ z. Alike n (plain.settle k fs z) (settle k fs (leased m.shown q.world))) plainly-is (more m.shown q.world (a.ready e)))
        where
          plainly-is : plainly m.shown q.world ≡ m
          plainly-is = ap (λ w. moving-at w m.shown None) a.world ∙ ap (moving-at m.world m.shown) (sym e)

          leased-is : leased m.shown q.world ≡ q
          leased-is = ap (λ ss. lease-at q.world ss None) (sym a.shown) ∙ ap (lease-at q.world q.shown) (sym (a.fault ∙ ap lease_fault e))

      by : (o : Option WorldFault) → m.fault ≡ o → Alike n (elim o as (λ z. Moving) [ Some f ↦ m | None ↦ plain.settle k fs m ]) (settle k fs q)
      by (Some f) e = subst (Alike n m) (sym (settled-fault k fs q (fault.World f) (a.fault ∙ ap lease_fault e))) a
      by None e = here e

  delivers-alike : (n : ℕ) (ss : List Shown) (x : LeaseWorld) → IsReady n x → (i : ℕ) → Alike n (plain.onward (plainly ss x) (deliver runs i x.world)) (delivered runs i (leased ss x))
  delivers-alike n ss x r i = subst (λ z. Alike n (plain.onward (plainly ss x) (deliver runs i x.world)) (renewed (onward (leased ss x) z))) (sym (steps-plainly x r.early r.free (of_world.Deliver i) tt))
      (behind n ss x r.early r.good.linked.up (deliver runs i x.world) (λ f. happens-good d wf sixteen unmade n (of_world.Deliver i) x.world tt r.good tt tt f))

  settles : (n k : ℕ) (fs : Fates) → AllRan fs → Settles n k fs
  settles n zero fs a ss x r = subst (λ o. Alike n (plain.settle zero fs (plainly ss x)) (elim o as (λ z. LeaseMoving) [ None ↦ leased ss x | Some i ↦ unsettled (leased ss x) ])) (sym (due-plainly x r.early r.free)) (by (due x.world))
    where
      by : (o : Option ℕ) → Alike n (elim o as (λ z. Moving) [ None ↦ plainly ss x | Some i ↦ world.show_line Unsettled (plainly ss x) ]) (elim o as (λ z. LeaseMoving) [ None ↦ leased ss x | Some i ↦ unsettled (leased ss x) ])
      by None = same-alike n ss x r
      by (Some i) = record {
        world = refl;
        shown = sym (map-append Line ss (Unsettled ∷ []));
        fault = refl;
        up = r.good.linked.up;
        ready = λ e. (record {
          good = unsettles-good d wf sixteen unmade n x.world r.good;
          early = record { now = (r.early).now; skews = (r.early).skews; queued = (r.early).queued; runs = (r.early).runs };
          free = λ c. same-held x (world.show_line Unsettled (world.moving x.world)).world c refl ∙ r.free c;
        });
      }
  settles n (suc k) fs a ss x r =
      subst (λ o. Alike n (plain.settle (suc k) fs (plainly ss x)) (elim o as (λ z. LeaseMoving) [ None ↦ leased ss x | Some i ↦ settle k (later_fates fs) (delivered (this_fate fs) i (leased ss x)) ])) (sym (due-plainly x r.early r.free))
      (by (due x.world) (settles n k (later_fates fs) (later-run fs a)))
    where
      After : ℕ → Fate → Type 0
      After i f = let m = plain.onward (plainly ss x) (deliver f i x.world) in
          Alike n (elim m.fault as (λ z. Moving) [ Some g ↦ m | None ↦ plain.settle k (later_fates fs) m ]) (settle k (later_fates fs) (delivered f i (leased ss x)))

      by : (o : Option ℕ) → Settles n k (later_fates fs) → Alike n (elim o as (λ z. Moving) [
        | None ↦ plainly ss x
        | Some i ↦ (let m = plain.onward (plainly ss x) (deliver (this_fate fs) i x.world) in elim m.fault as (λ z. Moving) [ Some g ↦ m | None ↦ plain.settle k (later_fates fs) m ])
      ]) (elim o as (λ z. LeaseMoving) [ None ↦ leased ss x | Some i ↦ settle k (later_fates fs) (delivered (this_fate fs) i (leased ss x)) ])
      by None more = same-alike n ss x r
      by (Some i) more = subst (After i) (sym (this-runs fs a))
          (settles-on n k (later_fates fs) more (plain.onward (plainly ss x) (deliver runs i x.world)) (delivered runs i (leased ss x)) (delivers-alike n ss x r i))

  -- A line.

  line-plainly : (n : ℕ) (x : LeaseWorld) → IsReady n x → (l : Scripted) → IsUnclocked l → drill_line runs n l x ≡ moved (plain.line_happens runs n l x.world) x
  line-plainly n x r line.Comment p = refl
  line-plainly n x r (line.Call c cl) p = steps-plainly x r.early r.free (of_world.Call c n cl) tt
  line-plainly n x r (line.Push c i) p = steps-plainly x r.early r.free (of_world.Push c i) tt
  line-plainly n x r _ p = absurd p

  line-good : (n column : ℕ) (w : World) → IsGood d wf sixteen unmade n w → (l : Scripted) → IsUnclocked l → IsFit (reads l column) → (plain.line_happens runs n l w).fault ≡ None → IsGood d wf sixteen unmade (n + 1) (plain.line_happens runs n l w).world
  line-good n column w a line.Comment p fit f = good-later d wf sixteen unmade n w a
  line-good n column w a (line.Call c cl) p fit f =
      happens-good d wf sixteen unmade (n + 1) (of_world.Call c n cl) w tt (good-later d wf sixteen unmade n w a) (is-new d wf sixteen unmade n w a, fit.0, fit.1) (next n) f
    where
      next : (m : ℕ) → m < m + 1
      next m = omega arith
  line-good n column w a (line.Push c i) p fit f = happens-good d wf sixteen unmade (n + 1) (of_world.Push c i) w tt (good-later d wf sixteen unmade n w a) tt tt f
  line-good n column w a _ p fit f = absurd p

  pub carried-alike : (n k column : ℕ) (fs : Fates) → AllRan fs → (x : LeaseWorld) → IsReady n x → (l : Scripted) → IsUnclocked l → IsFit (reads l column)
      → Alike (n + 1) (plain.carry_out k fs n l x.world) (carry_out k fs n (lines.Drill l) x)
  carried-alike n k column fs a x r l p fit = subst Carried (sym (this-runs fs a)) (settles-on (n + 1) k (later_fates fs) (settles (n + 1) k (later_fates fs) (later-run fs a)) m (renewed (drill_line runs n l x)) first)
    where
      Carried : Fate → Type 0
      Carried f = let m = plain.onward (plainly [] x) (plain.line_happens f n l x.world) in
          Alike (n + 1) (elim m.fault as (λ z. Moving) [ Some g ↦ m | None ↦ plain.settle k (later_fates fs) m ]) (settle k (later_fates fs) (renewed (drill_line f n l x)))

      mv : Moving
      mv = plain.line_happens runs n l x.world

      m : Moving
      m = plain.onward (plainly [] x) mv

      first : Alike (n + 1) m (renewed (drill_line runs n l x))
      first = subst (λ z. Alike (n + 1) m (renewed z)) (sym (line-plainly n x r l p)) (behind (n + 1) [] x r.early r.good.linked.up mv (line-good n column x.world r.good l p fit))
