-- The rule of the lock: of its four words (the next ticket, the ticket served, the length of the list, the mark), its slot and all views.
use Rattle.std.specs.Prelude.{◌≡◌, ℕ, ◌+◌, ◌^◌, ◌<◌, ◌≤◌, List, [], ◌∷◌, length, slice_index, Option, Some, None}
use mathlib.Core.Option.{none, some, Option as Place}
use mathlib.Core.List.{IsPrefix}
use lib.ListN.{get_elem?}
use Rattle.atomic_table.specs.Table.{State}
use Rattle.ec_base.specs.Limits.{last_counter}
use Rattle.ec_lock.specs.declared.traced.Held.{Held}
use Rattle.ec_lock.specs.declared.view.Stage.{Stage}
use Rattle.ec_lock.specs.declared.view.Stage.TheVariants.{Idle, Waiting, Holding}
use Rattle.ec_lock.specs.declared.view.View.{View}
use Rattle.ec_lock.specs.Steps.{Member, Distinct, of}

abbrev pub ticket_of : Stage → Option ℕ
ticket_of Idle = None
ticket_of (Waiting t) = Some t
ticket_of (Holding t) = Some t

abbrev pub waits : Stage → ℕ
waits Idle = 0
waits (Waiting t) = 1
waits (Holding t) = 1

abbrev pub IsOut : Stage → Type 0
IsOut Idle = ⊥
IsOut (Waiting t) = ⊥
IsOut (Holding t) = Unit {0}

abbrev pub StandsByStage : ℕ → ℕ → Stage → Type 0
StandsByStage ticket serving Idle = Unit {0}
StandsByStage ticket serving (Waiting t) = (serving ≤ t) × (t < ticket)
StandsByStage ticket serving (Holding t) = (t ≡ serving) × (t < ticket)

module _ {V S : Type 0} where
  abbrev pub waiting : List (View V S) → ℕ
  waiting [] = 0
  waiting (v ∷ vs) = waits v.stage + waiting vs

  -- the tickets in the views differ, and each is served or to be served
  pub record Tickets (ticket serving : ℕ) (views : List (View V S)) : Type 0 where
    pub few : ticket ≤ last_counter
    pub counted : serving + waiting views ≡ ticket
    pub stands : (j : ℕ) (v : View V S) → get_elem? views j ≡ some v → StandsByStage ticket serving v.stage
    pub apart : (t j k : ℕ) (v w : View V S) → get_elem? views j ≡ some v → get_elem? views k ≡ some w → ticket_of v.stage ≡ Some t → ticket_of w.stage ≡ Some t → j ≡ k

  module _ (list : V → List S) (since : V → V → Type 0) (first : V) where
    -- the value is at home, or out with the view that holds it
    pub record Slot (homes : List (Place (Option (Held V)))) (master : List S) (next : ℕ) (views : List (View V S)) : Type 0 where
      pub single : length homes ≡ 1
      pub home : ((j : ℕ) (v : View V S) → get_elem? views j ≡ some v → IsOut v.stage → ⊥)
          → (held : Held V) × (get_elem? homes 0 ≡ some (some (Some held))) × (list held.value ≡ master) × (held.next ≡ next) × since first held.value
      pub out : (j : ℕ) (v : View V S) → get_elem? views j ≡ some v → IsOut v.stage → (get_elem? homes 0 ≡ some none) × (v.front ≡ master) × (v.next ≡ next)

  module _ (number : S → Option ℕ) where
    abbrev pub Knows : List S → ℕ → View V S → Type 0
    Knows master next v = IsPrefix v.front master × IsPrefix v.other master
        × ((n : ℕ) → Member n v.numbers → (n < next) × (of number n v.front ≡ of number n master))
        × ((n : ℕ) → Member n v.others → Member n v.numbers × (of number n v.other ≡ of number n master))

    -- each view knows a beginning of the list, and of its own numbers all steps
    pub record Fronts (master : List S) (next : ℕ) (views : List (View V S)) : Type 0 where
      pub knows : (j : ℕ) (v : View V S) → get_elem? views j ≡ some v → Knows master next v
      pub unique : (n j k : ℕ) (v w : View V S) → get_elem? views j ≡ some v → get_elem? views k ≡ some w → Member n v.numbers → Member n w.numbers → j ≡ k
      pub fresh : (n : ℕ) → next ≤ n → of number n master ≡ []

  -- no view has a number twice, and none has seen a next pass number above the one kept beside the value
  pub record Numbers (next : ℕ) (views : List (View V S)) : Type 0 where
    pub distinct : (j : ℕ) (v : View V S) → get_elem? views j ≡ some v → Distinct v.numbers
    pub seen : (j : ℕ) (v : View V S) → get_elem? views j ≡ some v → v.next ≤ next

  module _ (floor : List S → ℕ) where
    -- the mark is at most the floor of the list, and at least all that was raised and answered
    pub record Marks (mark : ℕ) (master : List S) (views : List (View V S)) : Type 0 where
      pub low : mark ≤ floor master
      pub marked : (j : ℕ) (v : View V S) → get_elem? views j ≡ some v → (v.raised ≤ mark) × (v.answered ≤ mark)

  pub record Kept (list : V → List S) (number : S → Option ℕ) (floor : List S → ℕ) (since : V → V → Type 0) (first : V) (s : State (Option (Held V)) (View V S)) : Type 0 where
    pub master : List S
    pub next : ℕ
    pub wide : length s.words ≡ 4
    pub tickets : Tickets (slice_index s.words 0) (slice_index s.words 1) s.views
    pub long : slice_index s.words 2 ≡ length master
    pub slot : Slot list since first s.homes master next s.views
    pub fronts : Fronts number master next s.views
    pub numbers : Numbers next s.views
    pub marks : Marks floor (slice_index s.words 3) master s.views
