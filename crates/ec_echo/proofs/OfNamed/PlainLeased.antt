-- A script with leases that has comments, calls and pushes alone is answered plainly on a new disk.
use Rattle.std.proofs.Common.{◌≡◌, ◌⊎◌, ◌≤◌, ◌<◌, ◌+◌, ℕ, List, [], ◌∷◌, ◌++◌, Option, Some, None, length, map, refl, sym, ap, subst, ◌∙◌, inl, inr, arith, append-nil}
use Rattle.std.specs.Io.KnownBytes.{Appends, Consumes, IsAtEnd}
use Rattle.std.proofs.Math.Logic.{∥∥₁_elim, ∥∥₁_map}
use Rattle.std.proofs.lemmas.List.{length-append, length-map}
use Rattle.ec_volume.specs.Volume.{images}
use Rattle.ec_durable.specs.Durable.{formatted}
use Rattle.ec_durable.specs.WellFormed.{WellFormed}
use Rattle.ec_durable.specs.declared.state.Durable.{Durable}
use Rattle.ec_history.specs.History.{Each}
use Rattle.ec_history.specs.declared.shown.LimitName.{LimitName}
use Rattle.ec_history.specs.declared.shown.LimitName.TheVariants as limit
use Rattle.ec_history.specs.declared.shown.Shown.TheVariants as shown
use Rattle.ec_script.specs.Lines.{lines_of}
use Rattle.ec_protocol.specs.Drill as drills
use Rattle.ec_protocol.specs.Drill.{Fates, Read}
use Rattle.ec_protocol.specs.declared.script.Line.{Line as Scripted}
use Rattle.ec_protocol.specs.declared.script.Line.TheVariants as line
use Rattle.ec_lawful.specs.DrillRuns.{AreFit}
use Rattle.ec_lawful.specs.DrillRuns as drill
use Rattle.ec_lawful.specs.Drills.{lines_in}
use Rattle.ec_complete.specs.Complete.{IsComplete, IsFaultless, IsFaultlessRead}
use Rattle.ec_complete.proofs.PlainScripts.{plain-scripts-complete}
use Rattle.ec_lease_machine.specs.Drill.{LeaseRead, reads, unfit}
use Rattle.ec_lease_machine.specs.Drill as leases
use Rattle.ec_lease_machine.specs.OfLeaseWorlds.Runs.{IsFit}
use Rattle.ec_lease_machine.specs.OfWords.Text.{lease_texts}
use Rattle.ec_lease_machine.specs.declared.script.LeaseLine.TheVariants as lines
use Rattle.ec_lease_machine.specs.declared.world.LeaseShown.{LeaseShown}
use Rattle.ec_lease_machine.specs.declared.world.LeaseShown.TheVariants.{Line}
use Rattle.ec_lease_machine.proofs.OfPlain.Runs.{IsUnclockedRead, as_lease, leases-as-drill}
use Rattle.ec_lease_machine.proofs.OfPlain.Settling.{AllRan, IsUnclocked}
use Rattle.ec_lease.specs.OfDrill.Drill.{AllRun, EachRuns, GivesBytes, GivesReads, HasTooMuch, LeaseDrilled, LeaseOutside, RanAll}
use Rattle.ec_lease.specs.OfDrill.Script.{AreRead, lease_objects}
use Rattle.ec_lease.specs.declared.drill.status.Status.{Status}
use Rattle.ec_lease.specs.declared.drill.status.Status.TheVariants as own
use Rattle.ec_lease.proofs.OfDrill.Lines.{as-many}
use Rattle.ec_lease.proofs.OfDrill.Promise.{fits_given}
use Rattle.ec_drill.specs.Seen.{Stream, Store}
use Rattle.ec_echo.specs.Echo.{leasing}
use Rattle.ec_echo.specs.Statuses.{code, of_leases}
use Rattle.ec_echo.specs.OfNamed.Forms.{outside}
use Rattle.ec_echo.specs.OfNamed.Leases.{WroteLeases, as_read}
use Rattle.ec_echo.specs.OfNamed.PlainLeases.{AnswersPlainly, DrilledPlainly, GivesPlainLease, IsDrilled, IsPlainLease, IsStill, LeaseComplete}
use Rattle.ec_echo.specs.OfNamed.Runs.{IsUncut}
use Rattle.ec_echo.specs.OfNamed.Seen.{IsNew}
use Rattle.ec_echo.proofs.OfNamed.Bytes.{more-none}
use Rattle.ec_echo.proofs.OfNamed.Leased.{said, silent}

-- A source that is read to its end gives all that it tells, and never more.

all-given : (xs script : List ℕ) (left : Option (List ℕ)) → Consumes (Some xs) left script → IsAtEnd left → script ≡ xs
all-given xs script None gave at_end = absurd gave
all-given xs script (Some ys) gave at_end = sym (append-nil script) ∙ ap (λ bytes. script ++ bytes) (sym at_end) ∙ sym gave

no-more : (xs given : List ℕ) (left : Option (List ℕ)) → Consumes (Some xs) left given → length given ≤ length xs
no-more xs given None gave = absurd gave
no-more xs given (Some ys) gave = let all = ap length gave ∙ length-append given ys in omega (arith, all)

none : (p q : ⊥) → p ≡ q
none p q = absurd p

-- A script that has lines of a drill alone is the drill's.

back : (script : List LeaseRead) → Each IsDrilled script → map as_lease (map as_read script) ≡ script
back [] a = refl
back (reads (lines.Drill l) column ∷ script) a = ap (λ rs. reads (lines.Drill l) column ∷ rs) (back script a.1)
back (reads (lines.Tick n) column ∷ script) a = absurd a.0
back (reads (lines.Skew c s) column ∷ script) a = absurd a.0
back (reads (lines.Grant c) column ∷ script) a = absurd a.0
back (reads (lines.Hand c n) column ∷ script) a = absurd a.0
back (unfit column ∷ script) a = absurd a.0

one-fits : (l : Scripted) (column : ℕ) → IsFit (reads (lines.Drill l) column) → drill.IsFit (drills.reads l column)
one-fits (line.Call c cl) column f = f
one-fits _ column f = tt

fits : (script : List LeaseRead) → Each IsDrilled script → Each IsFit script → AreFit (map as_read script)
fits [] a f = tt
fits (reads (lines.Drill l) column ∷ script) a f = (one-fits l column f.0, fits script a.1 f.1)
fits (reads (lines.Tick n) column ∷ script) a f = absurd a.0
fits (reads (lines.Skew c s) column ∷ script) a f = absurd a.0
fits (reads (lines.Grant c) column ∷ script) a f = absurd a.0
fits (reads (lines.Hand c n) column ∷ script) a f = absurd a.0
fits (unfit column ∷ script) a f = absurd a.0

one-unclocked : (l : Scripted) → IsFaultless l → IsUnclocked l
one-unclocked line.Comment f = tt
one-unclocked (line.Call c cl) f = tt
one-unclocked (line.Push c n) f = tt
one-unclocked _ f = absurd f

unclocked : (rs : List Read) → Each IsFaultlessRead rs → Each IsUnclockedRead rs
unclocked [] a = tt
unclocked (drills.reads l column ∷ rs) a = (one-unclocked l a.0, unclocked rs a.1)
unclocked (drills.unfit column ∷ rs) a = absurd a.0

-- What the disk did.

all-ran : (fs : Fates) → AllRun fs → AllRan fs
all-ran [] a = tt
all-ran (f ∷ fs) a = (a.0, all-ran fs a.1)

each-ran : (fs : List Fates) → EachRuns fs → Each AllRan fs
each-ran [] a = tt
each-ran (f ∷ fs) a = (all-ran f a.0, each-ran fs a.1)

module _ (l e result : ℕ) (long : 1 ≤ l) (source sink : Stream) (store : Store) where
  abbrev w : LeaseOutside
  w = leasing (outside source sink store)

  abbrev NoLines : Type 0
  NoLines = WroteLeases result sink []

  -- A run to its end.
  module _ (number : ℕ) (r : RanAll l e number w) (new : IsNew store) (still : IsStill store) (p : IsPlainLease r.reads) where
    abbrev rs : List Read
    rs = map as_read r.reads

    abbrev state : Durable
    state = formatted lease_objects

    state-is : r.state ≡ state
    state-is = r.opens.empty new.0 new.1

    fit : AreFit rs
    fit = fits r.reads p.0 (fits_given e w r.reads r.given)

    fates : Each AllRan r.fates
    fates = elim r.stopped [ inl a ↦ each-ran r.fates a | inr rose ↦ absurd (still rose) ]

    few : length rs ≤ 65536
    few = omega (arith, length-map r.reads as_read, as-many e (lines_of r.given.script) r.reads r.given.read, r.given.few_lines)

    -- as the drill without leases
    so : WellFormed state → leases.drill l e r.reads r.fates r.state ≡ (map Line (drills.drill rs r.fates state).0, (drills.drill rs r.fates state).1)
    so wf = ap (λ (d : Durable). leases.drill l e r.reads r.fates d) state-is ∙ ap (λ (script : List LeaseRead). leases.drill l e script r.fates state) (sym (back r.reads p.0))
        ∙ leases-as-drill state wf (ap (λ (d : Durable). length d.sessions) (sym state-is) ∙ r.opens.whole.slots) (ap (λ (d : Durable). images d.volume 0) (sym state-is) ∙ r.opens.whole.from_one)
        l e long rs r.fates (unclocked rs (p.1).faultless) fit fates

    plainly : WellFormed state → AnswersPlainly number r.reads r.shown
    plainly wf =
        let c : IsComplete (images state.volume) (lines_in rs) (drills.drill rs r.fates state).0 (drills.drill rs r.fates state).1 = plain-scripts-complete lease_objects rs r.fates wf few fit fates p.1 in
        record {
          done = sym (r.status (inl new.0)) ∙ ap (λ (x : List LeaseShown × ℕ). x.1) (so wf) ∙ c.done;
          lines = (drills.drill rs r.fates state).0;
          unheld = sym (r.lines (inl new.0)) ∙ ap (λ (x : List LeaseShown × ℕ). x.0) (so wf);
          complete = subst (λ n. IsComplete (images state.volume) (lines_in rs) (drills.drill rs r.fates state).0 n) c.done c;
        }

    ran-plainly : ∥ AnswersPlainly number r.reads r.shown ∥₁
    ran-plainly = ∥∥₁_map r.opens.whole.formed (λ wf. plainly (subst WellFormed state-is wf))

  -- With its lines.
  drilled : IsNew store → IsStill store → (number : ℕ) → result ≡ number → RanAll l e number w → DrilledPlainly e result source sink store
  drilled new still number is r = record {
    script = r.reads;
    gave = r.given;
    told = r.shown;
    wrote = record {
      why = [];
      at_most_one = omega arith;
      says = tt;
      part = [];
      in_part = inl refl;
      whole = λ five nine. refl;
      bytes = more-none sink.bytes sink.bytes_after (lease_texts (r.shown ++ [])) (subst (λ (ls : List LeaseShown). Appends sink.bytes sink.bytes_after (lease_texts ls)) (sym (append-nil r.shown)) r.bytes);
    };
    plain = λ p. ∥∥₁_map (ran-plainly number r new still p) (λ a. record { done = is ∙ a.done; lines = a.lines; unheld = append-nil r.shown ∙ a.unheld; complete = a.complete });
  }

  answered : (end : Status) → result ≡ code (of_leases end) → LeaseDrilled l e end w → IsUncut result → IsNew store → IsStill store → NoLines ⊎ DrilledPlainly e result source sink store
  answered own.Done is d uncut new still = inr (drilled new still 0 is d)
  answered own.BadLine is d uncut new still = inr (drilled new still 3 is d)
  answered own.Spent is d uncut new still = inr (drilled new still 15 is d)
  answered own.Limit is (inl over) uncut new still = inl (said l e result source sink store (shown.Limit over.0 over.1) tt over.4)
  answered own.Limit is (inr d) uncut new still = inr (drilled new still 11 is d)
  answered own.SourceFault is d uncut new still = inl (silent l e result source sink store d.1)
  answered own.SinkFault is d uncut new still = absurd (uncut.0 is)
  answered own.DiskFault is d uncut new still = absurd (uncut.1 is)
  answered own.BadDisk is d uncut new still = inl (said l e result source sink store (shown.DiskBad d.0) tt d.4)
  answered own.NoMemory is d uncut new still = absurd (uncut.2 is)

  -- A source that tells a plain script.
  module _ (new : IsNew store) (still : IsStill store) (given : GivesPlainLease e source.bytes) where
    whole : (script : List ℕ) → GivesBytes w script → script ≡ given.script
    whole script g = all-given given.script script source.bytes_after (subst (λ left. Consumes left source.bytes_after script) given.gives g.given) g.at_end

    plain : (script : List LeaseRead) → GivesReads e w script → IsPlainLease script
    plain script g = given.plain script (subst (λ s. AreRead e (lines_of s) script) (whole g.script g.bytes) g.read)

    within-limits : (name : LimitName) (n : ℕ) → HasTooMuch w name n → ⊥
    within-limits limit.Bytes n o = few n (length o.1) (length given.script) o.0 o.3 (no-more given.script o.1 source.bytes_after (subst (λ left. Consumes left source.bytes_after o.1) given.gives o.2)) given.few_bytes
      where
        few : (n k m : ℕ) → n ≡ 1048576 + 1 → k ≡ n → k ≤ m → m ≤ 1048576 → ⊥
        few n k m a b c d = absurd (omega (arith, a, b, c, d))
    within-limits limit.Lines n o = few n (length (lines_of o.0)) o.2 o.3 (subst (λ s. length (lines_of s) ≤ 65536) (sym (whole o.0 o.1)) given.few_lines)
      where
        few : (n k : ℕ) → n ≡ k → 65536 < n → k ≤ 65536 → ⊥
        few n k a b c = absurd (omega (arith, a, b, c))
    within-limits limit.Pending n o = o

    -- no other number stands behind a run to its end
    zero : {A : Type 0} (number : ℕ) → (number ≡ 0 → ⊥) → RanAll l e number w → A
    zero number other r = absurd (∥∥₁_elim (ran-plainly number r new still (plain r.reads r.given)) none (λ a. other a.done))

    ends-well : (end : Status) → result ≡ code (of_leases end) → LeaseDrilled l e end w → (result ≡ 4 → ⊥) → IsUncut result → result ≡ 0
    ends-well own.Done is d four uncut = is
    ends-well own.BadLine is d four uncut = zero 3 (λ q. absurd (omega (arith, q))) d
    ends-well own.Spent is d four uncut = zero 15 (λ q. absurd (omega (arith, q))) d
    ends-well own.Limit is (inl over) four uncut = absurd (within-limits over.0 over.1 over.2)
    ends-well own.Limit is (inr d) four uncut = zero 11 (λ q. absurd (omega (arith, q))) d
    ends-well own.SourceFault is d four uncut = absurd (four is)
    ends-well own.SinkFault is d four uncut = absurd (uncut.0 is)
    ends-well own.DiskFault is d four uncut = absurd (uncut.1 is)
    ends-well own.BadDisk is d four uncut = absurd ((d.3 new.0).0 new.1)
    ends-well own.NoMemory is d four uncut = absurd (uncut.2 is)

  pub lease-complete : (end : Status) → result ≡ code (of_leases end) → LeaseDrilled l e end w → LeaseComplete result source sink store l e
  lease-complete end is d = record { answers = answered end is d; ends_well = λ new still given four uncut. ends-well new still given end is d four uncut }
