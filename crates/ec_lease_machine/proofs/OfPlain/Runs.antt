-- A script of comments, calls and pushes runs with leases as it does without them: it shows the same lines, ends as that run does, and leaves the same world.
use Rattle.std.proofs.Common.{◌≡◌, refl, sym, ap, subst, ◌∙◌, ◌≤◌, ◌+◌, ◌*◌, ℕ, T, Bool, true, false, length, List, [], ◌∷◌, ◌++◌, Option, Some, None}
use Rattle.std.specs.Prelude.{is_some, map, nat_lt, Result, Ok, Err, ⊤}
use Rattle.std.proofs.lemmas.List.{map-append}
use Rattle.ec_base.specs.Tables.{once}
use Rattle.ec_base.specs.declared.counter.Counter.{Counter}
use Rattle.ec_volume.specs.Volume.{images}
use Rattle.ec_volume.specs.declared.image.Image.TheVariants.{Gone}
use Rattle.ec_history.specs.History.{Each}
use Rattle.ec_history.specs.declared.shown.Shown.{Shown}
use Rattle.ec_durable.specs.WellFormed.{WellFormed}
use Rattle.ec_durable.specs.declared.state.Durable.{Durable}
use Rattle.ec_protocol.specs.Drill as plain
use Rattle.ec_protocol.specs.Drill.{Fates, Ending, Done, BadLine, TooMany, IsSpent, Ran, Read, clerk_in, deliveries, first_fates, last_line, max_pending, rest_fates, status}
use Rattle.ec_protocol.specs.World.{Moving, forget, open_world, pending}
use Rattle.ec_protocol.specs.Resumes.{session}
use Rattle.ec_protocol.specs.declared.server.Server.{Server}
use Rattle.ec_protocol.specs.declared.script.Line.{Line as Scripted}
use Rattle.ec_protocol.specs.declared.world.World.{World}
use Rattle.ec_protocol.specs.declared.world.WorldFault.{WorldFault}
use Rattle.ec_protocol.specs.declared.world.WorldFault.TheVariants as world_fault
use Rattle.ec_lawful.specs.DrillRuns.{AreFit}
use Rattle.ec_lawful.proofs.ForWhole.Opens.{world-stands}
use Rattle.ec_lease_machine.specs.Drill.{LeaseRan, LeaseRead, bound, carry_out, close, drill, drill_in, ends, forgotten, is_stopped, joined_lease, last_restart, lease_ending, named_in, piece_before, reads, run_from, unfit}
use Rattle.ec_lease_machine.specs.Leases.{LeaseMoving, opened_leases}
use Rattle.ec_lease_machine.specs.OfLeaseWorlds.Lines.{lease_run}
use Rattle.ec_lease_machine.specs.declared.script.LeaseLine.TheVariants as lines
use Rattle.ec_lease_machine.specs.declared.world.LeaseFault.{LeaseFault}
use Rattle.ec_lease_machine.specs.declared.world.LeaseFault.TheVariants as fault
use Rattle.ec_lease_machine.specs.declared.world.LeaseShown.{LeaseShown}
use Rattle.ec_lease_machine.specs.declared.world.LeaseShown.TheVariants.{Line}
use Rattle.ec_lease_machine.specs.declared.world.LeaseWorld.{LeaseWorld}
use Rattle.ec_lease_machine.proofs.OfPlain.Renewed.{IsEarly, same-held, unheld}
use Rattle.ec_lease_machine.proofs.OfPlain.Settling.{AllRan, Alike, IsReady, IsUnclocked, carried-alike, lease_fault}
use Rattle.ec_lease_machine.proofs.OfPlain.Worlds.{forgets-good, opens-good}
use Rattle.ec_base.proofs.Options.{none_some}

-- a line of a script without leases
abbrev pub as_lease : Read → LeaseRead
as_lease (plain.reads l column) = reads (lines.Drill l) column
as_lease (plain.unfit column) = unfit column

-- the line is a comment, a call or a push, or doesn't fit
abbrev pub IsUnclockedRead : Read → Type 0
IsUnclockedRead (plain.reads l column) = IsUnclocked l
IsUnclockedRead (plain.unfit column) = ⊤

-- the same clerks are named
named-same : (ls : List Read) → named_in (map as_lease ls) ≡ plain.named_in ls
named-same [] = refl
named-same (plain.reads l column ∷ ls) = ap (λ ns. clerk_in l ++ ns) (named-same ls)
named-same (plain.unfit column ∷ ls) = named-same ls

pub bound-same : (ls : List Read) → bound (map as_lease ls) ≡ plain.bound ls
bound-same ls = ap (λ ns. deliveries * (length (once ns) + 1)) (named-same ls)

ending-same : (n column : ℕ) (f : WorldFault) → lease_ending n column (fault.World f) ≡ plain.ending_of n column f
ending-same n column (world_fault.Spent k) = refl
ending-same n column world_fault.NoSuchOp = refl
ending-same n column world_fault.NoSuchMsg = refl
ending-same n column world_fault.DiskFailed = refl
ending-same n column world_fault.NoMemory = refl
ending-same n column (world_fault.BadDisk k) = refl

first-ran : (fs : List Fates) → Each AllRan fs → AllRan (first_fates fs)
first-ran [] a = tt
first-ran (f ∷ fs) a = a.0

rest-ran : (fs : List Fates) → Each AllRan fs → Each AllRan (rest_fates fs)
rest-ran [] a = tt
rest-ran (f ∷ fs) a = a.1

-- a run with leases came to what that without them came to
pub record RanAlike (r : Ran) (q : LeaseRan) : Type 0 where
  pub world : q.world.world ≡ r.world
  pub pieces : q.pieces ≡ map (map Line) r.pieces
  pub ending : q.ending ≡ r.ending
  pub up : T (is_some r.world.server)

-- The lines that the pieces show.

joined-same : (ps : List (List Shown)) → joined_lease (map (map Line) ps) ≡ map Line (plain.joined ps)
joined-same [] = refl
joined-same (p ∷ ps) = ap (λ ss. map Line p ++ ss) (joined-same ps) ∙ sym (map-append Line p (plain.joined ps))

pub shown-same : (r : Ran) (q : LeaseRan) → RanAlike r q → ◌≡◌ {A = List LeaseShown × ℕ} (joined_lease q.pieces ++ map Line (last_line q.ending), status q.ending) (map Line (plain.joined r.pieces ++ last_line r.ending), status r.ending)
shown-same r q a =
    ap (λ (e : Ending). (joined_lease q.pieces ++ map Line (last_line e), status e)) a.ending
    ∙ ap (λ (ps : List (List LeaseShown)). (joined_lease ps ++ map Line (last_line r.ending), status r.ending)) a.pieces
    ∙ ap (λ (ss : List LeaseShown). (ss ++ map Line (last_line r.ending), status r.ending)) (joined-same r.pieces)
    ∙ ap (λ (ss : List LeaseShown). (ss, status r.ending)) (sym (map-append Line (plain.joined r.pieces) (last_line r.ending)))

-- The close: the server runs.
close-alike : (r : Ran) (q : LeaseRan) → RanAlike r q → RanAlike (plain.close r.ending r) (close q.ending q)
close-alike r q a = subst (λ e. RanAlike (plain.close r.ending r) (close e q)) (sym a.ending) (by r.ending)
  where
    running : (o : Option Server) → T (is_some o) → elim o as (λ z. Bool) [ None ↦ true | Some s ↦ false ] ≡ false
    running None t = absurd t
    running (Some s) t = refl

    its : plain.is_stopped r ≡ false
    its = running r.world.server a.up

    lease : is_stopped q ≡ false
    lease = ap (λ w. elim w.server as (λ z. Bool) [ None ↦ true | Some s ↦ false ]) a.world ∙ its

    up : RanAlike (elim (plain.is_stopped r) as (λ z. Ran) [ true ↦ plain.last_restart r | false ↦ r ]) (elim (is_stopped q) as (λ z. LeaseRan) [ true ↦ last_restart q | false ↦ q ])
    up = subst (λ z. RanAlike (elim (plain.is_stopped r) as (λ y. Ran) [ true ↦ plain.last_restart r | false ↦ r ]) (elim z as (λ y. LeaseRan) [ true ↦ last_restart q | false ↦ q ])) (sym lease)
        (subst (λ z. RanAlike (elim z as (λ y. Ran) [ true ↦ plain.last_restart r | false ↦ r ]) q) (sym its) a)

    by : (e : Ending) → RanAlike (plain.close e r) (close e q)
    by (IsSpent n) = a
    by Done = up
    by (BadLine n k) = up
    by (TooMany n) = up

module _ (d : Durable) (wf : WellFormed d) (sixteen : length d.sessions ≡ 16) (unmade : images d.volume 0 ≡ Gone) where
  abbrev R : ℕ → LeaseWorld → Type 0
  R = IsReady d wf sixteen unmade

  -- one line, with what follows
  module _ (k n column : ℕ) (l : Scripted) (ls : List Read) (fs : List Fates) (x : LeaseWorld) (m : Moving) (q : LeaseMoving) (a : Alike d wf sixteen unmade (n + 1) m q)
      (more : (y : LeaseWorld) → R (n + 1) y → RanAlike (plain.run_from k (n + 1) ls (rest_fates fs) y.world) (run_from k (n + 1) (map as_lease ls) (rest_fates fs) y)) where
    over : RanAlike (plain.ends m.world m.shown (TooMany (pending m.world))) (ends q.world q.shown (TooMany (pending q.world.world)))
    over = record { world = a.world; pieces = ap (λ ss. ss ∷ []) a.shown; ending = ap (λ w. TooMany (pending w)) a.world; up = a.up }

    goes-on : m.fault ≡ None → RanAlike (plain.piece_before m.shown (plain.run_from k (n + 1) ls (rest_fates fs) (forget m.world))) (piece_before q.shown (run_from k (n + 1) (map as_lease ls) (rest_fates fs) (forgotten q.world)))
    goes-on e =
        let r = a.ready e in
        let s = subst (λ w. RanAlike (plain.run_from k (n + 1) ls (rest_fates fs) (forget w)) (run_from k (n + 1) (map as_lease ls) (rest_fates fs) (forgotten q.world))) a.world (more (forgotten q.world) (record {
          good = forgets-good d wf sixteen unmade (n + 1) q.world.world r.good;
          early = record { now = (r.early).now; skews = (r.early).skews; queued = (r.early).queued; runs = (r.early).runs };
          free = λ c. same-held q.world (forget q.world.world) c refl ∙ r.free c;
        })) in
        record { world = s.world; pieces = ap (λ ps. q.shown ∷ ps) s.pieces ∙ ap (λ ss. ss ∷ map (map Line) (plain.run_from k (n + 1) ls (rest_fates fs) (forget m.world)).pieces) a.shown; ending = s.ending; up = s.up }

    abbrev Next : Bool → Bool → Type 0
    Next z y = RanAlike
        (elim z as (λ i. Ran) [ true ↦ plain.ends m.world m.shown (TooMany (pending m.world)) | false ↦ plain.piece_before m.shown (plain.run_from k (n + 1) ls (rest_fates fs) (forget m.world)) ])
        (elim y as (λ i. LeaseRan) [ true ↦ ends q.world q.shown (TooMany (pending q.world.world)) | false ↦ piece_before q.shown (run_from k (n + 1) (map as_lease ls) (rest_fates fs) (forgotten q.world)) ])

    next : m.fault ≡ None → Next (nat_lt max_pending (pending m.world)) (nat_lt max_pending (pending q.world.world))
    next e = subst (λ w. Next (nat_lt max_pending (pending m.world)) (nat_lt max_pending (pending w))) (sym a.world) (by (nat_lt max_pending (pending m.world)))
      where
        by : (z : Bool) → Next z z
        by true = over
        by false = goes-on e

    abbrev LineEnds : Option WorldFault → Option LeaseFault → Type 0
    LineEnds o p = RanAlike
        (elim o as (λ i. Ran) [
          | Some f ↦ plain.ends m.world m.shown (plain.ending_of n column f)
          | None ↦ elim (nat_lt max_pending (pending m.world)) as (λ i. Ran) [ true ↦ plain.ends m.world m.shown (TooMany (pending m.world)) | false ↦ plain.piece_before m.shown (plain.run_from k (n + 1) ls (rest_fates fs) (forget m.world)) ]
        ])
        (elim p as (λ i. LeaseRan) [
          | Some f ↦ ends q.world q.shown (lease_ending n column f)
          | None ↦ elim (nat_lt max_pending (pending q.world.world)) as (λ i. LeaseRan) [ true ↦ ends q.world q.shown (TooMany (pending q.world.world)) | false ↦ piece_before q.shown (run_from k (n + 1) (map as_lease ls) (rest_fates fs) (forgotten q.world)) ]
        ])

    line-ends : LineEnds m.fault q.fault
    line-ends = subst (LineEnds m.fault) (sym a.fault) (by m.fault refl)
      where
        by : (o : Option WorldFault) → m.fault ≡ o → LineEnds o (lease_fault o)
        by (Some f) e = record { world = a.world; pieces = ap (λ ss. ss ∷ []) a.shown; ending = ending-same n column f; up = a.up }
        by None e = next e

  run-alike : (k n : ℕ) (ls : List Read) (fs : List Fates) → Each IsUnclockedRead ls → AreFit ls → Each AllRan fs → (x : LeaseWorld) → R n x → RanAlike (plain.run_from k n ls fs x.world) (run_from k n (map as_lease ls) fs x)
  run-alike k n [] fs p fit ran x r = record { world = refl; pieces = refl; ending = refl; up = r.good.linked.up }
  run-alike k n (plain.unfit column ∷ ls) fs p fit ran x r = record { world = refl; pieces = refl; ending = refl; up = r.good.linked.up }
  run-alike k n (plain.reads l column ∷ ls) fs p fit ran x r =
      line-ends k n column l ls fs x (plain.carry_out k (first_fates fs) n l x.world) (carry_out k (first_fates fs) n (lines.Drill l) x)
      (carried-alike d wf sixteen unmade n k column (first_fates fs) (first-ran fs ran) x r l p.0 fit.0)
      (λ y s. run-alike k (n + 1) ls (rest_fates fs) p.1 fit.1 (rest-ran fs ran) y s)

  -- A world that is opened.
  opens-ready : (l e : ℕ) → 1 ≤ l → (w : World) → open_world d ≡ Ok w → R 1 (opened_leases l e w)
  opens-ready l e runs w q = record { good = opens-good d wf sixteen unmade w q; early = early; free = λ c. unheld (opened_leases l e w) early c (λ s i. absurd (none_some (sym (nobody c) ∙ i))) }
    where
      early : IsEarly (opened_leases l e w)
      early = record { now = refl; skews = refl; queued = refl; runs = runs }

      nobody : (c : ℕ) → session c w ≡ None
      nobody c = ap (λ o. elim o as (λ z. Option ℕ) [ None ↦ None | Some k ↦ k.session ]) ((world-stands d sixteen w q).clerks c)

  module _ (l e : ℕ) (runs : 1 ≤ l) (ls : List Read) (fs : List Fates) (p : Each IsUnclockedRead ls) (fit : AreFit ls) (ran : Each AllRan fs) where
    -- the whole run
    pub runs-alike : (w : World) → open_world d ≡ Ok w → let r = plain.run_from (plain.bound ls) 1 ls fs w in RanAlike (plain.close r.ending r) (lease_run l e (map as_lease ls) fs w)
    runs-alike w q = close-alike (plain.run_from (plain.bound ls) 1 ls fs w) (run_from (bound (map as_lease ls)) 1 (map as_lease ls) fs (opened_leases l e w))
        (subst (λ k. RanAlike (plain.run_from (plain.bound ls) 1 ls fs w) (run_from k 1 (map as_lease ls) fs (opened_leases l e w))) (sym (bound-same ls)) (run-alike (plain.bound ls) 1 ls fs p fit ran (opened_leases l e w) (opens-ready l e runs w q)))

    -- The law: its lines are those of the drill, and so is its status.
    pub leases-as-drill : drill l e (map as_lease ls) fs d ≡ (map Line (plain.drill ls fs d).0, (plain.drill ls fs d).1)
    leases-as-drill = by (open_world d) refl
      where
        by : (o : Result World Counter) → open_world d ≡ o → drill_in l e (map as_lease ls) fs o ≡ (map Line (plain.drill_in ls fs o).0, (plain.drill_in ls fs o).1)
        by (Err n) q = refl
        by (Ok w) q =
            let r = plain.run_from (plain.bound ls) 1 ls fs w in
            shown-same (plain.close r.ending r) (lease_run l e (map as_lease ls) fs w) (runs-alike w q)
