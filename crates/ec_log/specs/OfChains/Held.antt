-- The operations that are held, and the closures among them.
use Rattle.std.specs.Prelude.{◌==◌, ℕ, Bool, not, nat_lt, List, [], ◌∷◌, filter, Option, None, Some}
use Rattle.std.specs.List.{list_all}
use Rattle.ec_base.specs.Tables.{keys}
use Rattle.ec_volume.specs.Update.{member, has_operand}
use Rattle.ec_order.specs.Order.{Issued, closure}

-- the number is above each that is held
abbrev pub is_behind : ℕ → Issued → Bool
is_behind n held = list_all (λ x. nat_lt x.0 n) held

-- the number of the first one
abbrev pub first_number : Issued → Option ℕ
first_number [] = None
first_number (x ∷ xs) = Some x.0

-- the closure of the operations on an object
abbrev pub closure_of_object : ℕ → Issued → Issued
closure_of_object obj held = closure (λ n. member n (keys (filter (λ x. has_operand obj x.1) held))) held

-- that of one operation
abbrev pub closure_of_op : ℕ → Issued → Issued
closure_of_op op held = closure (λ n. n == op) held

-- the operations of these numbers leave
abbrev pub settle : List ℕ → Issued → Issued
settle ops held = filter (λ x. not (member x.0 ops)) held
