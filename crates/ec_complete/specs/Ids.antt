-- Plain answers to calls with one list of ids for new objects and with another one, as contracts name it.
use Rattle.std.specs.Prelude.{◌≡◌, ◌≤◌, ◌<◌, ◌==◌, ◌+◌, ℕ, T, true, false, not, ◌&&◌, drop, List, [], ◌∷◌, length, is_some, ⊤}
use Rattle.ec_volume.specs.Image.{is_gone}
use Rattle.ec_volume.specs.Volume.{Images, WellFormed}
use Rattle.ec_volume.specs.declared.image.Image.TheVariants.{Gone}
use Rattle.ec_history.specs.declared.shown.Shown.{Shown}
use Rattle.ec_history.specs.declared.shown.Shown.TheVariants.{Answered}
use Rattle.ec_machine_laws.specs.Answers.{Asking, Plainly, after_call, answers_to, first_number, none_yet, outcome_on}

-- What the calls come to, one behind the other.
abbrev pub behind_calls : Images → Plainly → List ℕ → List Asking → Plainly
behind_calls v s ids [] = s
behind_calls v s ids (q ∷ qs) = behind_calls v (after_call s q.1 (outcome_on v s q.2 (first_number ids)).update) (drop 1 ids) qs

-- each is above the one before it, and the first one above this
abbrev pub AreAbove : ℕ → List ℕ → Type 0
AreAbove n [] = ⊤
AreAbove n (id ∷ ids) = (n < id) × AreAbove id ids

-- With two lists of ids above all those of the volume, one for each call, the answers are the same, and each clerk issued as many operations.
abbrev pub RisingIdsAnswerAlike : Type 0
RisingIdsAnswerAlike = (v : Images) (top : ℕ) (ids others : List ℕ) (qs : List Asking) → WellFormed v → v 0 ≡ Gone → ((x : ℕ) → T (not (is_gone (v x))) → x ≤ top) → 1 ≤ top → AreAbove top ids → AreAbove top others → length ids ≡ length others
    → (answers_to v none_yet ids qs ≡ answers_to v none_yet others qs) × ((c : ℕ) → (behind_calls v none_yet ids qs).issued c ≡ (behind_calls v none_yet others qs).issued c)

-- how many operations of a clerk these answers name
abbrev pub named_by : ℕ → Shown → ℕ
named_by c (Answered l d cl a op) = elim ((c == d) && is_some op) [ true ↦ 1 | false ↦ 0 ]
named_by c _ = 0

abbrev pub operations_in : ℕ → List Shown → ℕ
operations_in c [] = 0
operations_in c (s ∷ ss) = named_by c s + operations_in c ss

abbrev pub AnswersTellOperations : Type 0
AnswersTellOperations = (v : Images) (ids : List ℕ) (qs : List Asking) (c : ℕ) → operations_in c (answers_to v none_yet ids qs) ≡ (behind_calls v none_yet ids qs).issued c
