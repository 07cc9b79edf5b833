-- What a pass, a turn and a note show of their lock.
use Rattle.std.specs.Prelude.{◌≡◌, ℕ, ◌≤◌, List, [], ◌∷◌, Option, Some, None}
use Rattle.atomic_table.specs.declared.shared.Seat.{Seat}
use Rattle.ec_lock.specs.declared.types.TracedLock.{TracedLock}
use Rattle.ec_lock.specs.declared.types.Pass.{Pass}
use Rattle.ec_lock.specs.declared.types.Note.{Note}
use Rattle.ec_lock.specs.declared.traced.Held.{Held}
use Rattle.ec_lock.specs.declared.view.Stage.TheVariants.{Idle, Holding}
use Rattle.ec_lock.specs.declared.view.View.{View}
use Rattle.ec_lock.specs.Steps.{Member}
use Rattle.ec_lock.specs.Passes.{answered}

module _ {V S : Type 0} where
  -- the value that the lock was made with
  abbrev pub first : TracedLock V S → V
  first lock = lock.table.shared.key.value

  abbrev pub view : Pass V S → View V S
  view pass = pass.seat.me.0

  -- the beginning of the list that the pass knows
  abbrev pub front : Pass V S → List S
  front pass = pass.seat.me.0.front

  -- the pass's own number and those of the passes that were joined into it
  abbrev pub numbers : Pass V S → List ℕ
  numbers pass = pass.seat.me.0.numbers

  -- the next pass number at the pass's last turn
  abbrev pub next_number : Pass V S → ℕ
  next_number pass = pass.seat.me.0.next

  -- the greatest number that the pass raised
  abbrev pub raised : Pass V S → ℕ
  raised pass = pass.seat.me.0.raised

  abbrev pub note_view : Note V S → View V S
  note_view note = note.seat.me.0

  -- a seat of this lock without a turn
  abbrev pub IsSeatOf : TracedLock V S → Seat (Option (Held V)) (View V S) → Type 0
  IsSeatOf lock seat = (seat.table_id ≡ lock.table.shared.table_id) × (seat.me.1 ≡ []) × (seat.me.0.stage ≡ Idle) × (seat.me.0.first ≡ Some (first lock))

  -- a pass of this lock without a turn
  abbrev pub IsPassOf : TracedLock V S → Pass V S → Type 0
  IsPassOf lock pass = IsSeatOf lock pass.seat × Member pass.number (numbers pass)

  -- a note of this lock
  abbrev pub IsNoteOf : TracedLock V S → Note V S → Type 0
  IsNoteOf lock note = IsSeatOf lock note.seat × (note.seat.me.0.numbers ≡ [])

  -- a pass of this lock with a turn, at which the next pass number was found
  abbrev pub HasTurn : TracedLock V S → Pass V S → ℕ → Type 0
  HasTurn lock pass next = (pass.seat.table_id ≡ lock.table.shared.table_id) × (pass.seat.me.1 ≡ (0, None) ∷ []) × ((t : ℕ) × (pass.seat.me.0.stage ≡ Holding t)) × (pass.seat.me.0.first ≡ Some (first lock))
      × Member pass.number (numbers pass) × (pass.seat.me.0.next ≡ next)

  -- what stays of a pass in a turn: its number, the numbers joined into it, what it raised and what it was answered
  abbrev pub Same : Pass V S → Pass V S → Type 0
  Same old new = (new.number ≡ old.number) × (numbers new ≡ numbers old) × (raised new ≡ raised old) × (answered new ≡ answered old)

  -- each number that the pass raised or was answered is at most this
  abbrev pub Marked : Pass V S → ℕ → Type 0
  Marked pass floor = (raised pass ≤ floor) × (answered pass ≤ floor)

  -- this list is one that the value had
  abbrev pub Reached : (V → List S) → (V → V → Type 0) → V → List S → Type 0
  Reached list since first steps = (v : V) × since first v × (list v ≡ steps)
