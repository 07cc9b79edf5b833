-- What the lines tell of each operation that a start issued: that it's durable, that it's lost, or that it's still neither.
use Rattle.std.specs.Prelude.{◌≡◌, ◌≤◌, ◌⊎◌, ℕ, T, true, not, List, length, Some}
use Rattle.std.specs.List.{filter}
use Rattle.ec_volume.specs.Update.{member}
use Rattle.ec_history.specs.History.{Base, Each, of_start, is_lost, issued}
use Rattle.ec_history.specs.Legal.{is_op_of}
use Rattle.ec_history.specs.Lines.{AreCovered, durable}
use Rattle.ec_history.specs.Placing.{watch, place}
use Rattle.ec_history.specs.declared.shown.Shown.{Shown}

-- The operation n of the start is of its open session and not durable.
pub record IsUndurable (c b n : ℕ) (ss : List Shown) : Type 0 where
  pub open_start : (watch c ss).open_start ≡ Some b
  pub among : T (member n (watch c ss).undurable)

-- A durable line names it, or a loss does, or it isn't durable yet.
abbrev pub IsAccounted : ℕ → ℕ → ℕ → List Shown → Type 0
IsAccounted c b n ss = T (member n (durable c b ss)) ⊎ (T (is_lost c b n (place ss)) ⊎ IsUndurable c b n ss)

-- how many operations the start issued
abbrev pub count_of : ℕ → ℕ → List Shown → ℕ
count_of c b ss = length (filter (is_op_of c b) (place ss))

-- What became of each operation, and that calls cover only what durable lines name above them.
pub record LinesTell (base : Base) (ss : List Shown) : Type 0 where
  pub accounts : (c b : ℕ) → Each (λ k. of_start c b k ≡ true → IsAccounted c b k.number ss) (issued base (place ss))
  -- none is durable and not durable
  pub apart : (c b n : ℕ) → IsUndurable c b n ss → T (not (member n (durable c b ss)))
  -- lines name numbers that were issued
  pub counted : (c b n : ℕ) → T (member n (durable c b ss)) ⊎ IsUndurable c b n ss → n ≤ count_of c b ss
  pub covered : AreCovered base ss
