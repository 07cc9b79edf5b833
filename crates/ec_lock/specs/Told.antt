-- What the steps of the lock tell, and how views are cut and joined.
use Rattle.std.specs.Prelude.{◌≡◌, ◌==◌, ℕ, ◌+◌, ◌<◌, ◌≤◌, cond, nat_lt, max, List, [], ◌∷◌, ◌++◌, length, Option, Some, None, MatchBool}
use mathlib.Core.List.{IsPrefix}
use Rattle.atomic_table.specs.Table.{Me, Step}
use Rattle.ec_lock.specs.declared.traced.Held.{Held}
use Rattle.ec_lock.specs.declared.view.Stage.{Stage}
use Rattle.ec_lock.specs.declared.view.Stage.TheVariants.{Idle, Waiting, Holding}
use Rattle.ec_lock.specs.declared.view.View.{View}
use Rattle.ec_lock.specs.Steps.{Member, Distinct, of}

abbrev Seat : Type 0 → Type 0 → Type 0
Seat V S = Me (Option (Held V)) (View V S)

abbrev About : Type 0 → Type 0
About V = Step (Option (Held V))

module _ {V S : Type 0} where
  -- the view at the start
  abbrev pub opened_view : V → View V S
  opened_view first = record { first = Some first; front = []; stage = Idle; next = 1; numbers = 0 ∷ []; other = []; others = []; raised = 0; answered = 0 }

  abbrev pub at_stage : View V S → Stage → View V S
  at_stage v stage = record v { stage = stage }

  abbrev pub holding : View V S → ℕ → List S → ℕ → View V S
  holding v t whole next = record v { stage = Holding t; front = whole; next = next }

  abbrev pub with_front : View V S → List S → View V S
  with_front v whole = record v { front = whole; other = []; others = [] }

  abbrev pub drawn : About V → Seat V S → ℕ → Seat V S → Type 0
  drawn st m found n = n ≡ (cond (found == st.first) (at_stage m.0 (Waiting found)) m.0, m.1)

  module _ (list : V → List S) where
    abbrev pub tells_note : About V → Seat V S → ℕ → Seat V S → Type 0
    tells_note st m stored n = (held : Held V) → m.1 ≡ (0, Some held) ∷ [] → n ≡ (with_front m.0 (list held.value), m.1)

    module _ (number : S → Option ℕ) (floor : List S → ℕ) (since : V → V → Type 0) where
      abbrev pub Got : ℕ → Seat V S → Seat V S → Type 0
      Got t m n = (held : Held V) × (n ≡ (holding m.0 t (list held.value) held.next, (0, Some held) ∷ m.1))
          × ((f : V) → m.0.first ≡ Some f → since f held.value)
          × IsPrefix m.0.front (list held.value)
          × ((k : ℕ) → Member k m.0.numbers → of number k m.0.front ≡ of number k (list held.value))
          × (m.0.raised ≤ floor (list held.value)) × (m.0.answered ≤ floor (list held.value))
          × ((k : ℕ) → held.next ≤ k → of number k (list held.value) ≡ [])
          × ((k : ℕ) → Member k m.0.numbers → k < held.next)
          × (m.0.next ≤ held.next)

      abbrev pub looked : About V → Seat V S → ℕ → Seat V S → Type 0
      looked st m found n = (t : ℕ) → m.0.stage ≡ Waiting t → MatchBool (found == t) (Got t m n) (n ≡ m)

  abbrev pub tells_end : About V → Seat V S → ℕ → Seat V S → Type 0
  tells_end st m found n = n ≡ (at_stage m.0 Idle, [])

  abbrev pub met : (S → Option ℕ) → About V → Seat V S → ℕ → Seat V S → Type 0
  met number st m found n = (n ≡ (record (m.0) { other = []; others = [] }, m.1)) × IsPrefix m.0.other m.0.front
      × ((k : ℕ) → Member k m.0.others → of number k m.0.front ≡ of number k m.0.other) × Distinct m.0.numbers

  abbrev pub raises : About V → Seat V S → ℕ → Seat V S → Type 0
  raises st m found n = n ≡ (record (m.0) { raised = max m.0.raised st.first }, m.1)

  abbrev pub tells_answer : About V → Seat V S → ℕ → Seat V S → Type 0
  tells_answer st m found n = (n ≡ (record (m.0) { answered = found }, m.1)) × (m.0.raised ≤ found) × (m.0.answered ≤ found)

  -- the next number is drawn for a new pass with the same front
  abbrev pub kept : View V S → View V S
  kept v = record v { next = v.next + 1 }

  abbrev pub cut : View V S → View V S
  cut v = record v { stage = Idle; next = v.next + 1; numbers = v.next ∷ []; other = []; others = [] }

  -- a note has the same front and no number
  abbrev pub copy : View V S → View V S
  copy v = record v { stage = Idle; numbers = []; other = []; others = [] }

  -- the longer front stays, the shorter one is kept beside it until the next look
  abbrev pub longer_view : View V S → View V S → View V S
  longer_view v w = let shorter = nat_lt (length v.front) (length w.front) in record v {
    front = cond shorter w.front v.front;
    other = cond shorter v.front w.front;
    others = cond shorter v.numbers w.numbers;
    numbers = v.numbers ++ w.numbers;
    raised = max v.raised w.raised;
    answered = max v.answered w.answered;
  }

  abbrev pub spent : View V S
  spent = record { first = None; front = []; stage = Idle; next = 0; numbers = []; other = []; others = []; raised = 0; answered = 0 }
