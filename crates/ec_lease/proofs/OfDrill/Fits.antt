-- What carrying out a line makes of the run.
use Rattle.std.proofs.Common.{◌≡◌, ◌+◌, ◌*◌, ◌≤◌, ℕ, Bool, true, false, List, [], ◌∷◌, ◌++◌, Option, Some, None, Result, Err, refl, sym, ap, subst, ◌∙◌, arith, inl, inr}
use Rattle.std.specs.Prelude.{is_some, nat_lt}
use Rattle.std.specs.Io.KnownBytes.{Appends}
use Rattle.ec_base.specs.Outside.{Rose}
use Rattle.ec_base.proofs.Numbers.{is-less, not-under}
use Rattle.ec_disk.specs.Disk.{Counts}
use Rattle.ec_protocol.specs.World.{pending}
use Rattle.ec_protocol.specs.Drill.{Fates, max_pending}
use Rattle.ec_protocol.specs.Drill as machine
use Rattle.ec_protocol.specs.declared.world.WorldFault.TheVariants as world_fault
use Rattle.ec_lease_machine.specs.OfWords.Text.{lease_texts}
use Rattle.ec_lease_machine.specs.Drill.{LeaseRan, LeaseRead, carry_out, ends, forgotten, joined_lease, lease_ending, piece_before, reads, run_from, unfit}
use Rattle.ec_lease_machine.specs.Leases.{LeaseMoving}
use Rattle.ec_lease_machine.specs.declared.script.LeaseLine.{LeaseLine}
use Rattle.ec_lease_machine.specs.declared.world.LeaseFault.{LeaseFault}
use Rattle.ec_lease_machine.specs.declared.world.LeaseFault.TheVariants as fault
use Rattle.ec_lease_machine.specs.declared.world.LeaseShown.{LeaseShown}
use Rattle.ec_lease_machine.specs.declared.world.LeaseWorld.{LeaseWorld}
use Rattle.ec_lease.specs.OfDrill.Drill.{IsClear}
use Rattle.ec_lease.specs.OfDrill.Steps.{Advances, AreRun, LineEndsBy, IsAsMachine, IsInTime, IsLost, LineCut, LineDone, LineEnds, PendingEnd, behind_pieces, come, own_ending, fault_in, ran_to}
use Rattle.ec_lease.specs.OfDrill.Writing.{CutLines, IsCause}
use Rattle.ec_lease.specs.declared.drill.running.Ending.{Ending}
use Rattle.ec_lease.specs.declared.drill.running.Ending.TheVariants as ending
use Rattle.ec_lease.specs.declared.drill.writing.Cut.{Cut}
use Rattle.ec_lease.proofs.OfDrill.Writes.{front_of, no_front, none_written}

-- what a run is behind a line that came to this
behind_line : ℕ → ℕ → ℕ → List LeaseRead → List Fates → LeaseMoving → LeaseRan
behind_line k number col ls fs m =
    elim m.fault [
      | Some f ↦ ends m.world m.shown (lease_ending number col f)
      | None ↦ elim (nat_lt max_pending (pending m.world.world)) [
        | true ↦ ends m.world m.shown (machine.TooMany (pending m.world.world))
        | false ↦ piece_before m.shown (run_from k (number + 1) ls fs (forgotten m.world))
      ]
    ]

by_line : (k number col : ℕ) (l : LeaseLine) (ls : List LeaseRead) (fates : Fates) (more : List Fates) (x : LeaseWorld) (m : LeaseMoving) → carry_out k fates number l x ≡ m → run_from k number (reads l col ∷ ls) (fates ∷ more) x ≡ behind_line k number col ls more m
unfolding behind_line
by_line k number col l ls fates more x m e = ap (behind_line k number col ls more) e

settled_line : (k number col : ℕ) (l : LeaseLine) (ls : List LeaseRead) (fates : Fates) (more : List Fates) (x y : LeaseWorld) (piece : List LeaseShown) (b : Bool) → carry_out k fates number l x ≡ come None y piece → nat_lt max_pending (pending y.world) ≡ b
    → run_from k number (reads l col ∷ ls) (fates ∷ more) x ≡ elim b [ true ↦ ends y piece (machine.TooMany (pending y.world)) | false ↦ piece_before piece (run_from k (number + 1) ls more (forgotten y)) ]
unfolding behind_line
settled_line k number col l ls fates more x y piece b e is =
    by_line k number col l ls fates more x (come None y piece) e
    ∙ ap (λ (b : Bool). elim b [ true ↦ ends y piece (machine.TooMany (pending y.world)) | false ↦ piece_before piece (run_from k (number + 1) ls more (forgotten y)) ]) is

faulted_line : (k number col : ℕ) (l : LeaseLine) (ls : List LeaseRead) (fates : Fates) (more : List Fates) (x y : LeaseWorld) (piece : List LeaseShown) (f : LeaseFault) → carry_out k fates number l x ≡ come (Some f) y piece → run_from k number (reads l col ∷ ls) (fates ∷ more) x ≡ ends y piece (lease_ending number col f)
unfolding behind_line
faulted_line k number col l ls fates more x y piece f e = by_line k number col l ls fates more x (come (Some f) y piece) e

-- the piece of a line stands first
piece_first : (k number col : ℕ) (ls : List LeaseRead) (fs : List Fates) (m : LeaseMoving) → (rest : List LeaseShown) × (joined_lease (behind_line k number col ls fs m).pieces ≡ m.shown ++ rest)
unfolding behind_line
piece_first k number col ls fs m =
    elim m.fault as (λ (x : Option LeaseFault). let r : LeaseRan = elim x [
      | Some f ↦ ends m.world m.shown (lease_ending number col f)
      | None ↦ elim (nat_lt max_pending (pending m.world.world)) [
        | true ↦ ends m.world m.shown (machine.TooMany (pending m.world.world))
        | false ↦ piece_before m.shown (run_from k (number + 1) ls fs (forgotten m.world))
      ]
    ] in (rest : List LeaseShown) × (joined_lease r.pieces ≡ m.shown ++ rest)) [
      | Some f ↦ ([], refl)
      | None ↦ elim (nat_lt max_pending (pending m.world.world)) as (λ (b : Bool). let r : LeaseRan = elim b [
        | true ↦ ends m.world m.shown (machine.TooMany (pending m.world.world))
        | false ↦ piece_before m.shown (run_from k (number + 1) ls fs (forgotten m.world))
      ] in (rest : List LeaseShown) × (joined_lease r.pieces ≡ m.shown ++ rest)) [
        | true ↦ ([], refl)
        | false ↦ (joined_lease (run_from k (number + 1) ls fs (forgotten m.world)).pieces, refl)
      ]
    ]

line_shows : (k number col : ℕ) (l : LeaseLine) (ls : List LeaseRead) (fates : Fates) (more : List Fates) (x : LeaseWorld) (m : LeaseMoving) → carry_out k fates number l x ≡ m → (rest : List LeaseShown) × (joined_lease (run_from k number (reads l col ∷ ls) (fates ∷ more) x).pieces ≡ m.shown ++ rest)
line_shows k number col l ls fates more x m e =
    let shown = piece_first k number col ls more m in
    (shown.0, ap (λ (r : LeaseRan). joined_lease r.pieces) (by_line k number col l ls fates more x m e) ∙ shown.1)

-- what carrying out a line that came to this result is, by its steps
abbrev pub Carried : {X : Type 0} → Result X LeaseFault → Type 0 → Counts → Counts → ℕ → ℕ → LeaseLine → LeaseWorld → LeaseWorld → List LeaseShown → Type 0
Carried r tells old new k number l x y piece =
    (fates : Fates) × AreRun fates old.stops new.stops × (IsAsMachine r → IsClear tells old.stops new.stops → carry_out k fates number l x ≡ come (fault_in r) y piece)

module _ {X : Type 0} (r : Result X LeaseFault) (tells : Type 0) (old new : Counts) (k number column : ℕ) (l : LeaseLine) (x y : LeaseWorld) (piece : List LeaseShown) (did : Carried r tells old new k number l x y piece) where
  -- the line ends the run before its piece is known
  pub line_lost : (c : Cut) (held : Option (List ℕ)) (writes : ℕ) → (r ≡ Err (fault.World world_fault.DiskFailed) → Rose old.faults new.faults) → IsLost r c → LineCut tells old new k number (reads l column) x c held held writes writes
  line_lost c held writes failed lost = record { fates = did.0; are = did.1; front = λ ahead. no_front c (IsClear tells old.stops new.stops) (joined_lease (run_from k number (reads l column ∷ ahead) (did.0 ∷ []) x).pieces) held writes writes old.faults new.faults (by c lost) }
    where
      by : (c : Cut) → IsLost r c → IsCause c [] writes writes old.faults new.faults
      by c (inl (is, err)) = subst (λ (d : Cut). IsCause d [] writes writes old.faults new.faults) (sym is) (failed err, refl)
      by c (inr is) = subst (λ (d : Cut). IsCause d [] writes writes old.faults new.faults) (sym is) tt

  -- its piece wasn't written whole
  pub line_unwritten : (c : Cut) (held now : Option (List ℕ)) (writes later : ℕ) → IsAsMachine r → CutLines c piece held now writes later → LineCut tells old new k number (reads l column) x c held now writes later
  line_unwritten c held now writes later goes text = record {
    fates = did.0;
    are = did.1;
    front = λ ahead. front_of c (IsClear tells old.stops new.stops) piece (joined_lease (run_from k number (reads l column ∷ ahead) (did.0 ∷ []) x).pieces) held now writes later old.faults new.faults
        (λ clear. line_shows k number column l ahead did.0 [] x (come (fault_in r) y piece) (did.2 goes clear)) text;
  }

  -- the line ends the run, by a fault of the machine
  pub line_ended : (e : Ending) (held now : Option (List ℕ)) → IsAsMachine r → LineEndsBy (fault_in r) number column (Some e) → Appends held now (lease_texts piece) → LineDone tells old.stops new.stops k number (reads l column) x y (Some e) held now
  line_ended e held now goes by bytes = record {
    fates = did.0;
    are = did.1;
    piece = piece;
    run = λ clear ahead more.
        faulted_line k number column l ahead did.0 more x y piece by.0 (did.2 goes clear ∙ ap (λ (o : Option LeaseFault). come o y piece) by.1)
        ∙ ap (λ (z : machine.Ending). ran_to y z (piece ∷ [])) by.2;
    bytes = bytes;
  }

  -- the messages that are left pending decide
  pub line_pending : (p : Option Ending) (u : LeaseWorld) (held now : Option (List ℕ)) → IsAsMachine r → fault_in r ≡ None → PendingEnd p y u → Appends held now (lease_texts piece) → LineDone tells old.stops new.stops k number (reads l column) x u p held now
  line_pending p u held now goes none end bytes = record {
    fates = did.0;
    are = did.1;
    piece = piece;
    run = λ clear ahead. by p end (did.2 goes clear ∙ ap (λ (o : Option LeaseFault). come o y piece) none) ahead;
    bytes = bytes;
  }
    where
      by : (p : Option Ending) → PendingEnd p y u → carry_out k did.0 number l x ≡ come None y piece → (ahead : List LeaseRead) → LineEnds p k number (reads l column) ahead did.0 x u piece
      by None (few, is) e ahead = λ more.
          settled_line k number column l ahead did.0 more x y piece false e (not-under max_pending (pending y.world) few)
          ∙ ap (λ (z : LeaseWorld). behind_pieces (piece ∷ []) (run_from k (number + 1) ahead more z)) (sym is)
      by (Some e) (many, same, is) at ahead = λ more.
          settled_line k number column l ahead did.0 more x y piece true at (is-less max_pending (pending y.world) many)
          ∙ ap (λ (z : LeaseWorld). ran_to z (machine.TooMany (pending y.world)) (piece ∷ [])) (sym is)
          ∙ ap (λ (z : Ending). ran_to u (own_ending z) (piece ∷ [])) (sym same)

-- a line outside the grammar
pub line_unfit : (tells : Type 0) (a k number column : ℕ) (x : LeaseWorld) (held : Option (List ℕ)) → LineDone tells a a k number (unfit column) x x (Some (ending.BadLine number column)) held held
line_unfit tells a k number column x held = record { fates = []; are = inl tt; piece = []; run = λ clear ahead more. refl; bytes = none_written held [] refl }

-- The clock behind a line.
pub still_in_time : (most number : ℕ) (x y z : LeaseWorld) → IsInTime most number x → Advances x y → z ≡ forgotten y → IsInTime most (number + 1) z
still_in_time most number x y z before h is = subst (IsInTime most (number + 1)) (sym is) (record {
  is_most = h.most ∙ before.is_most;
  now = further y.now x.now number h.now before.now;
})
  where
    further : (b a n : ℕ) → b ≤ a + 1000000 → a ≤ n * 1000000 → b ≤ (n + 1) * 1000000
    further b a n le before = omega (arith, le, before)

-- a line that doesn't end the run has no fault
pub ends_none : (o : Option LeaseFault) (number column : ℕ) (e : Option Ending) → LineEndsBy o number column e → is_some e ≡ false → o ≡ None
ends_none o number column None by none = by
ends_none o number column (Some e) by none = absurd (apart none)
  where
    apart : true ≡ false → ⊥
    apart e = cc
