-- What is proved of lines that tell what became of operations, as contracts name it.
use Rattle.std.specs.Prelude.{◌≡◌, ◌⊎◌, ℕ, T, List, [], ◌∷◌, ◌++◌}
use Rattle.ec_volume.specs.Update.{member}
use Rattle.ec_history.specs.History.{Base, Throughout, Each, Covers, kept}
use Rattle.ec_history.specs.Legal.{IsLegal}
use Rattle.ec_history.specs.Lines.{durable}
use Rattle.ec_history.specs.Placing.{watch, place, ArePlaceable}
use Rattle.ec_history.specs.declared.shown.Shown.{Shown}
use Rattle.ec_history.specs.OfLaws.Accounts.{IsUndurable, LinesTell}

-- One more line: the history is legal before and behind it, no start has an operation before it showed its session, and what is covered isn't undurable.
pub record OneMore (base : Base) (most : ℕ) (ss : List Shown) (s : Shown) : Type 0 where
  pub placeable : ArePlaceable [] (ss ++ s ∷ [])
  pub was : IsLegal base most (place ss)
  pub legal : IsLegal base most (place (ss ++ s ∷ []))
  pub early_before : (c : ℕ) → (watch c ss).early ≡ []
  pub early : (c : ℕ) → (watch c (ss ++ s ∷ [])).early ≡ []
  pub settled : Throughout (λ h e. (c b n : ℕ) → Covers base h e c b n → IsUndurable c b n (ss ++ s ∷ []) → ⊥) [] (place (ss ++ s ∷ []))

-- no lines tell so, and behind such a line they still do
abbrev pub NothingTells : Type 0
NothingTells = (base : Base) → LinesTell base []

abbrev pub OneMoreTells : Type 0
OneMoreTells = (base : Base) (most : ℕ) (ss : List Shown) (s : Shown) → OneMore base most ss s → LinesTell base ss → LinesTell base (ss ++ s ∷ [])

-- what is kept is named by a durable line, or isn't durable yet
abbrev pub KeptAreTold : Type 0
KeptAreTold = (base : Base) (most : ℕ) (ss : List Shown) → IsLegal base most (place ss) → LinesTell base ss
    → Each (λ k. T (member k.number (durable k.clerk k.boot ss)) ⊎ IsUndurable k.clerk k.boot k.number ss) (kept base (place ss))
