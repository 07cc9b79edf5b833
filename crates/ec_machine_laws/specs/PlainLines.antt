-- Lines that answer their calls as one plain volume does.
use Rattle.std.specs.Prelude.{◌≡◌, ◌+◌, ℕ, List, [], ◌∷◌, ◌++◌, ⊤}
use Rattle.ec_history.specs.History.{Base}
use Rattle.ec_history.specs.Legal.{IsLegal}
use Rattle.ec_history.specs.Placing.{EachLine, place}
use Rattle.ec_history.specs.declared.entry.Answer.TheVariants as answer
use Rattle.ec_history.specs.declared.shown.Shown.{Shown}
use Rattle.ec_history.specs.declared.shown.Shown.TheVariants as show
use Rattle.ec_machine_laws.specs.Answers.{Asking, none_yet, answers_to, answers_in}

abbrev pub answered_in : Shown → List Asking
answered_in (show.Answered l c cl a op) = (l, c, cl) ∷ []
answered_in _ = []

-- the calls that they answer
abbrev pub asked_in : List Shown → List Asking
asked_in [] = []
asked_in (s ∷ ss) = answered_in s ++ asked_in ss

-- the ids that new objects of these calls have, by the places of their lines
abbrev pub id_at : Base → ℕ → Shown → List ℕ
id_at base place (show.Answered l c cl a op) = base.fresh place ∷ []
id_at base place _ = []

abbrev pub ids_from : Base → ℕ → List Shown → List ℕ
ids_from base place [] = []
ids_from base place (s ∷ ss) = id_at base place s ++ ids_from base (place + 1) ss

-- The line waits, answers by a reply, tells durable operations, or says that nothing happened.
abbrev pub IsPlain : Shown → Type 0
IsPlain (show.Waits l c cl) = ⊤
IsPlain (show.Answered l c cl (answer.Reply r) op) = ⊤
IsPlain (show.Durable c ns) = ⊤
IsPlain show.Nothing = ⊤
IsPlain _ = ⊥

-- Such lines with a legal history answer each of their calls plainly.
abbrev pub LegalLinesAnswerPlainly : Type 0
LegalLinesAnswerPlainly = (base : Base) (most : ℕ) (ss : List Shown) → IsLegal base most (place ss) → EachLine IsPlain ss → answers_in ss ≡ answers_to base.volume none_yet (ids_from base 1 ss) (asked_in ss)
