-- The lines of a run, one behind the other.
use Rattle.std.proofs.Common.{◌≡◌, ◌+◌, ◌*◌, ◌≤◌, ℕ, suc, List, [], ◌∷◌, ◌++◌, Option, Some, None, refl, sym, ap, subst, ◌∙◌, append_assoc, append-nil, arith, inl, length, map}
use Rattle.std.specs.Io.KnownBytes.{Appends}
use Rattle.ec_base.proofs.Lists.{appends_two}
use Rattle.ec_disk.specs.Disk.{Counts}
use Rattle.ec_protocol.specs.Drill.{Fates}
use Rattle.ec_protocol.specs.Drill as machine
use Rattle.ec_lease_machine.specs.OfWords.Text.{lease_texts}
use Rattle.ec_lease_machine.specs.Drill.{LeaseRan, LeaseRead, joined_lease, reads, run_from, unfit}
use Rattle.ec_lease_machine.specs.declared.world.LeaseShown.{LeaseShown}
use Rattle.ec_lease_machine.specs.declared.world.LeaseWorld.{LeaseWorld}
use Rattle.ec_lease.specs.OfDrill.Drill.{IsClear}
use Rattle.ec_lease.specs.OfDrill.Lines.{AreTimed, read_of}
use Rattle.ec_lease.specs.OfDrill.Steps.{CutOff, LeaseEnded, IsInTime, LineCut, LineDone, Sofar, behind_pieces, own_ending, ran_to}
use Rattle.ec_lease.specs.declared.drill.running.Ending.{Ending}
use Rattle.ec_lease.specs.declared.drill.script.ScriptLine.{ScriptLine}
use Rattle.ec_lease.specs.declared.drill.writing.Cut.{Cut}
use Rattle.ec_lease.proofs.OfDrill.Known.{clear_first, clear_later, line_behind}
use Rattle.ec_lease.proofs.OfDrill.Writes.{front_within, joined-more, none_written, pieces-text}

behind-both : (ps qs : List (List LeaseShown)) (r : LeaseRan) → behind_pieces ps (behind_pieces qs r) ≡ behind_pieces (ps ++ qs) r
behind-both ps qs r = ap (λ l. record r { pieces = l }) (sym (append_assoc ps qs r.pieces))

pub no_lines : (tells : Type 0) (a k : ℕ) (all : List LeaseRead) (start : LeaseWorld) (held : Option (List ℕ)) → Sofar tells a a k all start 1 all start held held
no_lines tells a k all start held = record { fates = []; are = inl tt; pieces = []; run = λ clear more. refl; bytes = none_written held [] refl }

module _ (tells : Type 0) (first old new : Counts) (k : ℕ) (all : List LeaseRead) (start : LeaseWorld) (number : ℕ) (r : LeaseRead) (ahead : List LeaseRead) (x : LeaseWorld) (held mid now : Option (List ℕ)) (s : Sofar tells first.stops old.stops k all start number (r ∷ ahead) x held mid) (from : first.stops ≤ old.stops) (later : old.stops ≤ new.stops) where
  before : IsClear tells first.stops new.stops → IsClear tells first.stops old.stops
  before clear = clear_first tells first.stops old.stops new.stops later clear

  inside : IsClear tells first.stops new.stops → IsClear tells old.stops new.stops
  inside clear = clear_later tells first.stops old.stops new.stops from clear

  to_line : (fates : Fates) (more : List Fates) → IsClear tells first.stops new.stops → run_from k 1 all ((s.fates ++ fates ∷ []) ++ more) start ≡ behind_pieces s.pieces (run_from k number (r ∷ ahead) (fates ∷ more) x)
  to_line fates more clear = ap (λ fs. run_from k 1 all fs start) (append_assoc s.fates (fates ∷ []) more) ∙ s.run (before clear) (fates ∷ more)

  to_end : (fates : Fates) → IsClear tells first.stops new.stops → run_from k 1 all (s.fates ++ fates ∷ []) start ≡ behind_pieces s.pieces (run_from k number (r ∷ ahead) (fates ∷ []) x)
  to_end fates clear = ap (λ fs. run_from k 1 all fs start) (sym (append-nil (s.fates ++ fates ∷ []))) ∙ to_line fates [] clear

  written : (piece : List LeaseShown) → Appends mid now (lease_texts piece) → Appends held now (lease_texts (joined_lease (s.pieces ++ piece ∷ [])))
  written piece bytes = appends_two held mid now _ _ _ s.bytes bytes (sym (pieces-text s.pieces piece))

  -- a line more
  pub line_more : (y : LeaseWorld) → LineDone tells old.stops new.stops k number r x y None mid now → Sofar tells first.stops new.stops k all start (number + 1) ahead y held now
  line_more y did = record {
    fates = s.fates ++ did.fates ∷ [];
    are = line_behind s.fates did.fates first.stops old.stops new.stops from later s.are did.are;
    pieces = s.pieces ++ did.piece ∷ [];
    run = λ clear more. to_line did.fates more clear ∙ ap (behind_pieces s.pieces) (did.run (inside clear) ahead more) ∙ behind-both s.pieces (did.piece ∷ []) (run_from k (number + 1) ahead more y);
    bytes = written did.piece did.bytes;
  }

  -- a line that ends the run
  pub line_last : (y : LeaseWorld) (e : Ending) → LineDone tells old.stops new.stops k number r x y (Some e) mid now → LeaseEnded tells first.stops new.stops k all start (own_ending e) y held now
  line_last y e did = record {
    fates = s.fates ++ did.fates ∷ [];
    are = line_behind s.fates did.fates first.stops old.stops new.stops from later s.are did.are;
    pieces = s.pieces ++ did.piece ∷ [];
    run = λ clear. to_end did.fates clear ∙ ap (behind_pieces s.pieces) (did.run (inside clear) ahead []);
    bytes = written did.piece did.bytes;
  }

  -- one in which it's cut off
  pub line_cut : (c : Cut) (writes writes_now later_writes : ℕ) → writes ≤ writes_now → first.faults ≤ old.faults → LineCut tells old new k number r x c mid now writes_now later_writes → CutOff tells first new k all start c held now writes later_writes
  line_cut c writes writes_now later_writes le rose did = record {
    fates = s.fates ++ did.fates ∷ [];
    are = line_behind s.fates did.fates first.stops old.stops new.stops from later s.are did.are;
    front = front_within c (IsClear tells old.stops new.stops) (IsClear tells first.stops new.stops) (joined_lease s.pieces) (joined_lease (run_from k number (r ∷ ahead) (did.fates ∷ []) x).pieces)
        (joined_lease (run_from k 1 all (s.fates ++ did.fates ∷ []) start).pieces) held mid now writes writes_now later_writes first.faults old.faults new.faults le rose s.bytes
        (λ clear. (
          inside clear,
          (
            [],
            ap (λ (z : LeaseRan). joined_lease z.pieces) (to_end did.fates clear) ∙ joined-more s.pieces (run_from k number (r ∷ ahead) (did.fates ∷ []) x).pieces
                ∙ ap (λ l. joined_lease s.pieces ++ l) (sym (append-nil (joined_lease (run_from k number (r ∷ ahead) (did.fates ∷ []) x).pieces))),
          ),
        )) (did.front ahead);
  }

-- no line is left
pub all_done : (tells : Type 0) (a b k : ℕ) (all : List LeaseRead) (start : LeaseWorld) (number : ℕ) (x : LeaseWorld) (held now : Option (List ℕ)) → Sofar tells a b k all start number [] x held now → LeaseEnded tells a b k all start machine.Done x held now
all_done tells a b k all start number x held now s = record {
  fates = s.fates;
  are = s.are;
  pieces = s.pieces;
  run = λ clear. ap (λ fs. run_from k 1 all fs start) (sym (append-nil s.fates)) ∙ s.run clear [] ∙ ap (λ l. ran_to x machine.Done l) (append-nil s.pieces);
  bytes = s.bytes;
}

pub none_ahead : {X : Type 0} (xs : List X) (n : ℕ) → n ≡ length xs → n ≡ 0 → xs ≡ []
none_ahead [] n all none = refl
none_ahead (x ∷ xs) n all none = absurd (let more : suc (length xs) ≡ 0 = sym all ∙ none in omega (arith, more))

-- Bounds of the lines that are left.

timed-first : (most : ℕ) (r : LeaseRead) (rs : List LeaseRead) → AreTimed most (r ∷ rs) → AreTimed most (r ∷ [])
timed-first most (reads l column) rs h = (h.0, tt)
timed-first most (unfit column) rs h = tt

timed-rest : (most : ℕ) (r : LeaseRead) (rs : List LeaseRead) → AreTimed most (r ∷ rs) → AreTimed most rs
timed-rest most (reads l column) rs h = h.1
timed-rest most (unfit column) rs h = h

pub next_timed : (most : ℕ) (line : ScriptLine) (ls ahead : List ScriptLine) → ahead ≡ line ∷ ls → AreTimed most (map read_of ahead) → AreTimed most (read_of line ∷ [])
next_timed most line ls ahead is h = timed-first most (read_of line) (map read_of ls) (subst (λ (xs : List ScriptLine). AreTimed most (map read_of xs)) is h)

pub rest_timed : (most now : ℕ) (line : ScriptLine) (ls ahead : List ScriptLine) → ahead ≡ line ∷ ls → now ≡ most → AreTimed most (map read_of ahead) → AreTimed now (map read_of ls)
rest_timed most now line ls ahead is same h = subst (λ (n : ℕ). AreTimed n (map read_of ls)) (sym same) (timed-rest most (read_of line) (map read_of ls) (subst (λ (xs : List ScriptLine). AreTimed most (map read_of xs)) is h))

pub first_in_time : (x : LeaseWorld) → x.now ≡ 0 → IsInTime x.most 1 x
first_in_time x none = record { is_most = refl; now = early x.now none }
  where
    early : (n : ℕ) → n ≡ 0 → n ≤ 1 * 1000000
    early n is = omega (arith, is)

-- the clocks behind a line, by those behind it
pub now_in_time : (most number : ℕ) (x : LeaseWorld) → IsInTime most number x → IsInTime x.most number x
now_in_time most number x h = record { is_most = refl; now = h.now }
