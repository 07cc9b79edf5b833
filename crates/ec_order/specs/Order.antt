-- The order of the operations of one start of a clerk.
use Rattle.std.specs.Prelude.{◌≡◌, ◌==◌, ◌+◌, ◌<◌, ◌⊎◌, ℕ, T, Bool, true, false, not, ◌&&◌, ◌||◌, if◌then◌else◌, nat_lt, List, [], ◌∷◌, length}
use Rattle.std.specs.List.{list_any}
use Rattle.ec_volume.specs.Update.{operands, member}
use Rattle.ec_volume.specs.declared.update.Update.{Update}
use Rattle.ec_volume.specs.declared.update.Update.TheVariants.{Put}

abbrev pub is_overwrite : Update → Bool
is_overwrite (Put obj at bytes inside) = inside
is_overwrite _ = false

-- the updates have an operand in common
abbrev pub share : Update → Update → Bool
share a b = list_any (λ o. member o (operands b)) (operands a)

-- Of two operations of one start, a the earlier: a is ordered before b.
abbrev pub before : Update → Update → Bool
before a b = share a b && not (is_overwrite a && is_overwrite b)

-- The k bytes from m on and the l bytes from n on have a place in common: neither range is empty, and each begins before the other ends.
abbrev pub meet : ℕ → ℕ → ℕ → ℕ → Bool
meet m k n l = nat_lt 0 k && nat_lt 0 l && nat_lt m (n + l) && nat_lt n (m + k)

-- The same of two overwrites of one file: their ranges of bytes meet, so a is under b.
abbrev pub under : Update → Update → Bool
under (Put o m xs true) (Put p n ys true) = (o == p) && meet m (length xs) n (length ys)
under _ _ = false

-- b may not be durable without a.
abbrev pub needs : Update → Update → Bool
needs a b = before a b || under a b

-- Operations by their numbers, in the order of issue.
abbrev pub Issued : Type 0
Issued = List (ℕ × Update)

abbrev pub Holds : Issued → ℕ → Update → Type 0
Holds [] n u = ⊥
Holds (x ∷ xs) n u = ((x.0 ≡ n) × (x.1 ≡ u)) ⊎ Holds xs n u

-- The closure of the asked operations: the least set that has them and, with each, all that it needs.
pub data InClosure (issued : Issued) (asked : ℕ → Bool) : ℕ → Type 0 where
  ask : (n : ℕ) (u : Update) → Holds issued n u → T (asked n) → InClosure issued asked n
  need : (m n : ℕ) (a b : Update) → Holds issued m a → Holds issued n b → m < n → T (needs a b) → InClosure issued asked n → InClosure issued asked m

-- The same as a list: one by one from the last to the first.
abbrev pub closure : (ℕ → Bool) → Issued → Issued
closure asked [] = []
closure asked (x ∷ xs) = if asked x.0 || list_any (λ y. needs x.1 y.1) (closure asked xs) then x ∷ closure asked xs else closure asked xs
