-- What carrying out a line makes of the run.
use Rattle.std.proofs.Common.{◌≡◌, ◌+◌, ℕ, true, false, List, [], ◌∷◌, ◌++◌, Option, Some, None, Result, Ok, Err, refl, sym, ap, subst, ◌∙◌, append_assoc, arith, inl}
use Rattle.std.specs.Prelude.{is_some, OnErr, OnOk}
use Rattle.std.specs.Io.KnownBytes.{Appends}
use Rattle.ec_base.specs.Outside.{Rose}
use Rattle.ec_disk.specs.Disk.{View, Counts}
use Rattle.ec_stands.specs.Stands.{StandsFor}
use Rattle.ec_history.specs.declared.shown.Shown.{Shown}
use Rattle.ec_protocol.specs.World.{Moving, pending}
use Rattle.ec_protocol.specs.Drill.{Fates, Read, reads, run_from, joined, carry_out}
use Rattle.ec_protocol.specs.Drill as machine
use Rattle.ec_protocol.specs.declared.script.Line.{Line}
use Rattle.ec_protocol.specs.declared.world.World.{World}
use Rattle.ec_protocol.specs.declared.world.WorldFault.{WorldFault}
use Rattle.ec_protocol.specs.declared.world.WorldFault.TheVariants as fault
use Rattle.ec_words.specs.OfText.Lines.{text_of}
use Rattle.ec_drill.specs.Arms.{LineArms}
use Rattle.ec_drill.specs.Closing.{ran_to}
use Rattle.ec_drill.specs.Fates.{IsKnown}
use Rattle.ec_drill.specs.Left.{EachLeft}
use Rattle.ec_drill.specs.Steps.{going, behind_pieces, ComesTo, StaysBut, IsLater, AreOfLine, IsCarrying, before_line, behind_some, IsInLine, none_shown, some_shown, CutLines, IsCause, LineEnds, LineFollows, LineDone, LineCut, line_end, PendingEnd, ending_of}
use Rattle.ec_drill.specs.declared.running.Ending.{Ending}
use Rattle.ec_drill.specs.declared.writing.Cut.{Cut}
use Rattle.ec_drill.proofs.Follows.{arms_fail, arms_end}
use Rattle.ec_drill.proofs.Texts.{nothing}
use Rattle.ec_drill.proofs.Writes.{written_cause, written_part}
use Rattle.ec_drill.proofs.Runs.{line_goes, line_piles, line_fails, line_shows}

-- what carrying out a line that came to this result is, by its steps
abbrev pub Carried : {X : Type 0} → Result X WorldFault → Type 0 → Counts → Counts → View → ℕ → ℕ → Line → World → World → List Shown → Type 0
Carried r tells old new seen k number l w v piece =
    (fates : Fates) × AreOfLine fates old new × (IsKnown tells old.stops new.stops → ComesTo r (carry_out k fates number l w) v piece) × OnErr r (tells → EachLeft seen (IsCarrying k fates number l w))
    × OnOk r (IsKnown tells old.stops new.stops → LineArms k fates number l w old.armed new.armed)

ok_not : {X Y : Type 0} (x : X) (y : Y) → Ok x ≡ Err y → ⊥
ok_not x y e = cc

err_not : {X Y : Type 0} (x : X) (y : Y) → Err y ≡ Ok x → ⊥
err_not x y e = cc

err_is : (c d : Cut) → ◌≡◌ {A = Result (Option Ending) Cut} (Err c) (Err d) → c ≡ d
err_is c d e = cc

ok_is : (a b : Option Ending) → ◌≡◌ {A = Result (Option Ending) Cut} (Ok a) (Ok b) → a ≡ b
ok_is a b e = cc

lost_cause : {X : Type 0} (r : Result X WorldFault) (number column : ℕ) (c : Cut) (writes writes_after faults faults_after : ℕ) → line_end r number column ≡ Err c → (r ≡ Err fault.DiskFailed → Rose faults faults_after) → IsCause c [] writes writes_after faults faults_after
lost_cause (Ok x) number column c writes writes_after faults faults_after e f = absurd (ok_not _ _ e)
lost_cause (Err (fault.Spent n)) number column c writes writes_after faults faults_after e f = absurd (ok_not _ _ e)
lost_cause (Err fault.NoSuchOp) number column c writes writes_after faults faults_after e f = absurd (ok_not _ _ e)
lost_cause (Err fault.NoSuchMsg) number column c writes writes_after faults faults_after e f = absurd (ok_not _ _ e)
lost_cause (Err fault.DiskFailed) number column c writes writes_after faults faults_after e f = subst (λ (d : Cut). IsCause d [] writes writes_after faults faults_after) (err_is _ _ e) (f refl, refl)
lost_cause (Err (fault.BadDisk p)) number column c writes writes_after faults faults_after e f = subst (λ (d : Cut). IsCause d [] writes writes_after faults faults_after) (err_is _ _ e) tt
lost_cause (Err fault.NoMemory) number column c writes writes_after faults faults_after e f = subst (λ (d : Cut). IsCause d [] writes writes_after faults faults_after) (err_is _ _ e) tt

lost_left : {X : Type 0} (r : Result X WorldFault) (number column : ℕ) (c : Cut) (P : Type 0) → line_end r number column ≡ Err c → OnErr r P → P
lost_left (Ok x) number column c P e h = absurd (ok_not _ _ e)
lost_left (Err f) number column c P e h = h

-- nothing of a line was written
nothing_shown : (k number column : ℕ) (l : Line) (w : World) (fates : Fates) (image : List ℕ) → IsCarrying k fates number l w image → IsInLine k number (reads l column) w fates [] image
nothing_shown k number column l w fates image (before_line h) = none_shown refl h
nothing_shown k number column l w fates image (behind_some j most h) = some_shown l column refl j most (carry_out j fates number l w).shown refl h

-- the line ends the run before its piece is known
pub line_lost : {X : Type 0} (r : Result X WorldFault) (tells : Type 0) (old new : Counts) (seen : View) (k number column : ℕ) (l : Line) (w v : World) (piece : List Shown) (c : Cut) (held : Option (List ℕ)) (writes : ℕ)
    → Carried r tells old new seen k number l w v piece → IsLater old new (r ≡ Err fault.DiskFailed) → line_end r number column ≡ Err c → LineCut tells old new seen k number (reads l column) w c held held writes writes
line_lost r tells old new seen k number column l w v piece c held writes did later e = record {
  fates = did.0;
  are = did.1;
  shown = [];
  unwritten = [];
  front = λ known ahead more. (joined (run_from k number (reads l column ∷ ahead) (did.0 ∷ more) w).pieces, refl);
  last = [];
  bytes = nothing held;
  part = refl;
  cause = lost_cause r number column c writes writes old.faults new.faults e later.failed;
  left = λ told image may. nothing_shown k number column l w did.0 image (lost_left r number column c _ e did.3 told image may);
}

-- the piece of a line that came to an end of its own
came_to : {X : Type 0} (r : Result X WorldFault) (number column : ℕ) (e : Option Ending) (m : Moving) (v : World) (piece : List Shown) → line_end r number column ≡ Ok e → ComesTo r m v piece → m.shown ≡ piece
came_to (Ok x) number column e m v piece is comes = ap (λ (n : Moving). n.shown) comes
came_to (Err (fault.Spent n)) number column e m v piece is comes = ap (λ (n : Moving). n.shown) (comes tt)
came_to (Err fault.NoSuchOp) number column e m v piece is comes = ap (λ (n : Moving). n.shown) (comes tt)
came_to (Err fault.NoSuchMsg) number column e m v piece is comes = ap (λ (n : Moving). n.shown) (comes tt)
came_to (Err fault.DiskFailed) number column e m v piece is comes = absurd (err_not _ _ is)
came_to (Err (fault.BadDisk p)) number column e m v piece is comes = absurd (err_not _ _ is)
came_to (Err fault.NoMemory) number column e m v piece is comes = absurd (err_not _ _ is)

came_world : {X : Type 0} (r : Result X WorldFault) (number column : ℕ) (e : Option Ending) (m : Moving) (v : World) (piece : List Shown) → line_end r number column ≡ Ok e → ComesTo r m v piece → m.world ≡ v
came_world (Ok x) number column e m v piece is comes = ap (λ (n : Moving). n.world) comes
came_world (Err (fault.Spent n)) number column e m v piece is comes = ap (λ (n : Moving). n.world) (comes tt)
came_world (Err fault.NoSuchOp) number column e m v piece is comes = ap (λ (n : Moving). n.world) (comes tt)
came_world (Err fault.NoSuchMsg) number column e m v piece is comes = ap (λ (n : Moving). n.world) (comes tt)
came_world (Err fault.DiskFailed) number column e m v piece is comes = absurd (err_not _ _ is)
came_world (Err (fault.BadDisk p)) number column e m v piece is comes = absurd (err_not _ _ is)
came_world (Err fault.NoMemory) number column e m v piece is comes = absurd (err_not _ _ is)

-- what holds behind such a line
pub came_stays : {X : Type 0} (r : Result X WorldFault) (number column : ℕ) (e : Option Ending) (P : Type 0) → line_end r number column ≡ Ok e → StaysBut r P → P
came_stays (Ok x) number column e P is h = h
came_stays (Err (fault.Spent n)) number column e P is h = h tt
came_stays (Err fault.NoSuchOp) number column e P is h = h tt
came_stays (Err fault.NoSuchMsg) number column e P is h = h tt
came_stays (Err fault.DiskFailed) number column e P is h = absurd (err_not _ _ is)
came_stays (Err (fault.BadDisk p)) number column e P is h = absurd (err_not _ _ is)
came_stays (Err fault.NoMemory) number column e P is h = absurd (err_not _ _ is)

-- its piece wasn't written whole
pub line_unwritten : {X : Type 0} (r : Result X WorldFault) (tells : Type 0) (old new : Counts) (seen : View) (k number column : ℕ) (l : Line) (w v : World) (piece : List Shown) (e : Option Ending) (c : Cut) (held now : Option (List ℕ)) (writes writes_after : ℕ)
    → Carried r tells old new seen k number l w v piece → line_end r number column ≡ Ok e → CutLines c piece held now writes writes_after → (tells → EachLeft seen (λ image. StandsFor image v.durable)) → LineCut tells old new seen k number (reads l column) w c held now writes writes_after
line_unwritten r tells old new seen k number column l w v piece e c held now writes writes_after did is cut stands = record {
  fates = did.0;
  are = did.1;
  shown = cut.written;
  unwritten = cut.first ∷ cut.more;
  front = λ known ahead more.
      let at = line_shows k number column l ahead did.0 more w (carry_out k did.0 number l w) refl in (
        at.0,
        at.1 ∙ ap (λ p. p ++ at.0) (came_to r number column e (carry_out k did.0 number l w) v piece is (did.2 known) ∙ cut.front)
            ∙ append_assoc cut.written (cut.first ∷ cut.more) at.0,
      );
  last = cut.last;
  bytes = cut.bytes;
  part = written_part c cut.first cut.more cut.last writes writes_after cut.why;
  cause = written_cause c _ cut.last writes writes_after old.faults new.faults cut.why;
  left = λ told image may.
      let m = carry_out k did.0 number l w in
      let comes = did.2 (inl told) in
      some_shown l column refl k (omega arith) (cut.first ∷ cut.more) (came_to r number column e m v piece is comes ∙ cut.front)
      (subst (λ (u : World). StandsFor image u.durable) (sym (came_world r number column e m v piece is comes)) (stands told image may));
}

some_not : (e : Option Ending) → None ≡ e → is_some e ≡ true → ⊥
some_not None is s = cc
some_not (Some e) is s = cc

-- the line ends the run, by a fault of the machine
ends_by : {X : Type 0} (r : Result X WorldFault) (k number column : ℕ) (l : Line) (w v : World) (piece : List Shown) (fates : Fates) (e : Option Ending) → ComesTo r (carry_out k fates number l w) v piece → line_end r number column ≡ Ok e → is_some e ≡ true
    → (ahead : List Read) → LineEnds e k number (reads l column) ahead fates w v piece
ends_by (Ok x) k number column l w v piece fates e comes is some ahead = absurd (some_not e (ok_is _ _ is) some)
ends_by (Err (fault.Spent n)) k number column l w v piece fates e comes is some ahead = subst (λ (x : Option Ending). LineEnds x k number (reads l column) ahead fates w v piece) (ok_is _ _ is) (λ more. line_fails k number column l ahead fates more w v piece (fault.Spent n) (comes tt))
ends_by (Err fault.NoSuchOp) k number column l w v piece fates e comes is some ahead = subst (λ (x : Option Ending). LineEnds x k number (reads l column) ahead fates w v piece) (ok_is _ _ is) (λ more. line_fails k number column l ahead fates more w v piece fault.NoSuchOp (comes tt))
ends_by (Err fault.NoSuchMsg) k number column l w v piece fates e comes is some ahead = subst (λ (x : Option Ending). LineEnds x k number (reads l column) ahead fates w v piece) (ok_is _ _ is) (λ more. line_fails k number column l ahead fates more w v piece fault.NoSuchMsg (comes tt))
ends_by (Err fault.DiskFailed) k number column l w v piece fates e comes is some ahead = absurd (err_not _ _ is)
ends_by (Err (fault.BadDisk p)) k number column l w v piece fates e comes is some ahead = absurd (err_not _ _ is)
ends_by (Err fault.NoMemory) k number column l w v piece fates e comes is some ahead = absurd (err_not _ _ is)

-- so nothing is said of its stops
follows_by : {X : Type 0} (r : Result X WorldFault) (k number column : ℕ) (l : Line) (w v : World) (piece : List Shown) (fates : Fates) (e : Option Ending) (old new : Option ℕ) → ComesTo r (carry_out k fates number l w) v piece → line_end r number column ≡ Ok e → is_some e ≡ true
    → LineFollows e k number (reads l column) fates w v old new
follows_by (Ok x) k number column l w v piece fates e old new comes is some = absurd (some_not e (ok_is _ _ is) some)
follows_by (Err (fault.Spent n)) k number column l w v piece fates e old new comes is some =
    subst (λ (x : Option Ending). LineFollows x k number (reads l column) fates w v old new) (ok_is _ _ is) (λ ahead more. arms_fail k number column l ahead fates more w v piece (fault.Spent n) old (comes tt))
follows_by (Err fault.NoSuchOp) k number column l w v piece fates e old new comes is some =
    subst (λ (x : Option Ending). LineFollows x k number (reads l column) fates w v old new) (ok_is _ _ is) (λ ahead more. arms_fail k number column l ahead fates more w v piece fault.NoSuchOp old (comes tt))
follows_by (Err fault.NoSuchMsg) k number column l w v piece fates e old new comes is some =
    subst (λ (x : Option Ending). LineFollows x k number (reads l column) fates w v old new) (ok_is _ _ is) (λ ahead more. arms_fail k number column l ahead fates more w v piece fault.NoSuchMsg old (comes tt))
follows_by (Err fault.DiskFailed) k number column l w v piece fates e old new comes is some = absurd (err_not _ _ is)
follows_by (Err (fault.BadDisk p)) k number column l w v piece fates e old new comes is some = absurd (err_not _ _ is)
follows_by (Err fault.NoMemory) k number column l w v piece fates e old new comes is some = absurd (err_not _ _ is)

pub line_ended : {X : Type 0} (r : Result X WorldFault) (tells : Type 0) (old new : Counts) (seen : View) (k number column : ℕ) (l : Line) (w v : World) (piece : List Shown) (e : Option Ending) (held now : Option (List ℕ))
    → Carried r tells old new seen k number l w v piece → line_end r number column ≡ Ok e → is_some e ≡ true → Appends held now (text_of piece) → LineDone tells old new k number (reads l column) w v e held now
line_ended r tells old new seen k number column l w v piece e held now did is some bytes = record {
  fates = did.0;
  are = did.1;
  piece = piece;
  run = λ known. ends_by r k number column l w v piece did.0 e (did.2 known) is some;
  arms = λ known. follows_by r k number column l w v piece did.0 e old.armed new.armed (did.2 known) is some;
  bytes = bytes;
}

not_none : (a : Ending) (e : Option Ending) → Some a ≡ e → is_some e ≡ false → ⊥
not_none a None is s = cc
not_none a (Some e) is s = cc

none_not : {X : Type 0} (r : Result X WorldFault) (number column : ℕ) (e : Option Ending) (m : Moving) (v : World) (piece : List Shown) → ComesTo r m v piece → line_end r number column ≡ Ok e → is_some e ≡ false → m ≡ going v piece
none_not (Ok x) number column e m v piece comes is none = comes
none_not (Err (fault.Spent n)) number column e m v piece comes is none = absurd (not_none _ e (ok_is _ _ is) none)
none_not (Err fault.NoSuchOp) number column e m v piece comes is none = absurd (not_none _ e (ok_is _ _ is) none)
none_not (Err fault.NoSuchMsg) number column e m v piece comes is none = absurd (not_none _ e (ok_is _ _ is) none)
none_not (Err fault.DiskFailed) number column e m v piece comes is none = absurd (err_not _ _ is)
none_not (Err (fault.BadDisk p)) number column e m v piece comes is none = absurd (err_not _ _ is)
none_not (Err fault.NoMemory) number column e m v piece comes is none = absurd (err_not _ _ is)

carried_out : {X : Type 0} (r : Result X WorldFault) (number column : ℕ) (e : Option Ending) (P : Type 0) → line_end r number column ≡ Ok e → is_some e ≡ false → OnOk r P → P
carried_out (Ok x) number column e P is none h = h
carried_out (Err (fault.Spent n)) number column e P is none h = absurd (not_none _ e (ok_is _ _ is) none)
carried_out (Err fault.NoSuchOp) number column e P is none h = absurd (not_none _ e (ok_is _ _ is) none)
carried_out (Err fault.NoSuchMsg) number column e P is none h = absurd (not_none _ e (ok_is _ _ is) none)
carried_out (Err fault.DiskFailed) number column e P is none h = absurd (err_not _ _ is)
carried_out (Err (fault.BadDisk p)) number column e P is none h = absurd (err_not _ _ is)
carried_out (Err fault.NoMemory) number column e P is none h = absurd (err_not _ _ is)

-- the messages that are left pending decide
goes_by : (p : Option Ending) (k number column : ℕ) (l : Line) (w v u : World) (piece : List Shown) (fates : Fates) → carry_out k fates number l w ≡ going v piece → PendingEnd p v u → (ahead : List Read) → LineEnds p k number (reads l column) ahead fates w u piece
goes_by None k number column l w v u piece fates is end ahead = λ more.
    line_goes k number column l ahead fates more w v piece is end.0 ∙ ap (λ (x : World). behind_pieces (piece ∷ []) (run_from k (number + 1) ahead more x)) (sym end.1)
goes_by (Some e) k number column l w v u piece fates is end ahead = λ more.
    line_piles k number column l ahead fates more w v piece is end.0
    ∙ ap (λ (x : World). ran_to x (machine.TooMany (pending v)) (piece ∷ [])) (sym end.2)
    ∙ ap (λ (x : Ending). ran_to u (ending_of x) (piece ∷ [])) (sym end.1)

pub line_pending : {X : Type 0} (r : Result X WorldFault) (tells : Type 0) (old new : Counts) (seen : View) (k number column : ℕ) (l : Line) (w v u : World) (piece : List Shown) (e p : Option Ending) (held now : Option (List ℕ))
    → Carried r tells old new seen k number l w v piece → line_end r number column ≡ Ok e → is_some e ≡ false → PendingEnd p v u → Appends held now (text_of piece) → LineDone tells old new k number (reads l column) w u p held now
line_pending r tells old new seen k number column l w v u piece e p held now did is none end bytes = record {
  fates = did.0;
  are = did.1;
  piece = piece;
  run = λ known. goes_by p k number column l w v u piece did.0 (none_not r number column e (carry_out k did.0 number l w) v piece (did.2 known) is none) end;
  arms = λ known. arms_end p k number column l did.0 w v u piece old.armed new.armed (none_not r number column e (carry_out k did.0 number l w) v piece (did.2 known) is none) end (carried_out r number column e _ is none did.4 known);
  bytes = bytes;
}
