-- What a pick chooses, by the numbers of the closure.
use Rattle.std.specs.Prelude.{◌≡◌, ◌==◌, ◌||◌, ◌+◌, Bool, ℕ, not, ◌&&◌, if◌then◌else◌, List, [], ◌∷◌, filter, take as front, Option, None, Some}
use Rattle.ec_base.specs.Tables.{Table, keys, first as first_of}
use Rattle.ec_volume.specs.Update.{member}
use Rattle.ec_order.specs.Order.{Issued, closure}
use Rattle.std.specs.List.{list_any, list_all}
use Rattle.ec_sessions.specs.Windows.{has}
use Rattle.ec_sessions.specs.declared.window.Window.{Window}
use Rattle.ec_sessions.specs.Limits.{max_batch_ops, window_size}
use Rattle.ec_log.specs.Log.{is_asked, has_one_of}
use Rattle.ec_log.specs.declared.chains.closure.Ask.{Ask}
use Rattle.ec_log.specs.declared.chains.closure.Ask.TheVariants as ask
use Rattle.ec_log.specs.declared.state.Asked.{Asked}
use Rattle.ec_log.specs.declared.state.Asked.TheVariants as asked_of
use Rattle.ec_log.specs.declared.state.Pick.{Pick}
use Rattle.ec_log.specs.declared.state.Pick.TheVariants as pick_of
use Rattle.ec_base.specs.SmallLaws.{rises}
use Rattle.ec_log.specs.Choice.{numbers_asked}

-- the closure of what is asked for, among these operations
abbrev pub closure_in : Asked → Issued → Issued
closure_in a xs = closure (λ n. member n (keys (filter (is_asked a) xs))) xs

-- the operations but those in batches that the window has
abbrev pub lost_in : Window → Table (List ℕ) → Issued → Issued
lost_in w bs ops = filter (λ op. not (list_any (λ b. has w b.0 && member op.0 b.1) bs)) ops

-- the batch before whose answer no new one begins
abbrev pub batch_number : Option (ℕ × List ℕ) → Option ℕ
batch_number None = None
batch_number (Some b) = Some b.0

-- the least batch under way, where the next one would be a whole window above it
abbrev pub full_from : ℕ → Table (List ℕ) → Option ℕ
full_from next [] = None
full_from next (b ∷ bs) = if next == b.0 + window_size then Some b.0 else None

abbrev pub new_batch : List ℕ → ℕ → Option ℕ → Pick
new_batch ns next None = pick_of.Batch next (front max_batch_ops ns)
new_batch ns next (Some b) = pick_of.Window b

abbrev pub unless_behind : List ℕ → ℕ → Table (List ℕ) → Option ℕ → Pick
unless_behind ns next bs None = new_batch ns next (full_from next bs)
unless_behind ns next bs (Some b) = pick_of.Behind b

-- the same, where it is known before which batch no new one begins
abbrev pub chosen : List ℕ → ℕ → Table (List ℕ) → Option ℕ → Pick
chosen [] next bs behind = pick_of.Settled
chosen (n ∷ ns) next bs behind = unless_behind (n ∷ ns) next bs behind

abbrev pub choice : List ℕ → ℕ → Table (List ℕ) → Pick
choice [] next bs = pick_of.Settled
choice (n ∷ ns) next bs = unless_behind (n ∷ ns) next bs (batch_number (first_of (has_one_of (n ∷ ns)) bs))

-- the same of the operations of each batch
abbrev pub all_rise : Table (List ℕ) → Bool
all_rise bs = list_all (λ b. rises b.1) bs

-- The first ones of a closure.

abbrev pub ask_of : Asked → Ask
ask_of (asked_of.Object x) = ask.Object x
ask_of (asked_of.Op n) = ask.Op n
ask_of asked_of.All = ask.All

-- the batch has one of these operations, or one that is asked for by itself
abbrev pub is_met : List ℕ → Asked → Issued → ℕ × List ℕ → Bool
is_met ops a xs b = list_any (λ n. member n ops || member n (numbers_asked a xs)) b.1

-- The first 64 of these operations are those of the closure, which has these and those that are asked for by themselves.
pub record IsFrontOf (a : Asked) (xs : Issued) (ops : List ℕ) : Type 0 where
  pub first : front max_batch_ops ops ≡ front max_batch_ops (keys (closure_in a xs))
  pub members : (n : ℕ) → member n (keys (closure_in a xs)) ≡ (member n ops || member n (numbers_asked a xs))
