-- One chain of held operations for each object, and the places among the held ones that a walk goes on to.
use Rattle.std.specs.Prelude.{◌≡◌, ◌⊎◌, ◌<◌, ◌≤◌, ℕ, T, Bool, is_some, List, [], length, take, drop, filter, slice_get, Some}
use Rattle.ec_base.specs.Tables.{Table, at, at_or}
use Rattle.ec_volume.specs.Update.{member, has_operand}
use Rattle.ec_volume.specs.declared.update.Update.{Update}
use Rattle.ec_order.specs.Order.{Issued, Holds, needs}
use Rattle.ec_log.specs.OfChains.Walk.{passes}
use Rattle.ec_log.specs.declared.chains.closure.Ask.{Ask}
use Rattle.ec_log.specs.declared.chains.closure.Ask.TheVariants.{Object, Op, All}

-- the operation of this number is at the place
abbrev pub IsAt : ℕ → Issued → ℕ → Type 0
IsAt op held place = (place < length held) × ((x : ℕ × Update) → slice_get held place ≡ Some x → x.0 ≡ op)

-- each held operation is in the chain of each of its operands
abbrev pub AreLinked : Table (List ℕ) → Issued → Type 0
AreLinked chains held = (o n : ℕ) (u : Update) → Holds held n u → T (has_operand o u) → T (member n (at_or [] o chains))

-- those that are held stay in the chains
abbrev pub AreKept : Issued → Table (List ℕ) → Table (List ℕ) → Type 0
AreKept held old new = (o n : ℕ) (u : Update) → Holds held n u → T (member n (at_or [] o old)) → T (member n (at_or [] o new))

-- the operation has the object as an operand
abbrev pub touches : ℕ → ℕ × Update → Bool
touches o x = has_operand o x.1

-- one object or one operation is asked for
abbrev pub IsOne : Ask → Type 0
IsOne (Object obj) = Unit
IsOne (Op op) = Unit
IsOne All = ⊥

-- no operation passes
abbrev pub NonePass : (ℕ × Update → Bool) → Issued → Type 0
NonePass p held = (i : ℕ) (x : ℕ × Update) → slice_get held i ≡ Some x → T (p x) → ⊥

-- the last one that passes is at the place
pub record IsLatest (p : ℕ × Update → Bool) (held : Issued) (place : ℕ) : Type 0 where
  pub within : place < length held
  pub passing : (x : ℕ × Update) → slice_get held place ≡ Some x → T (p x)
  pub most : (i : ℕ) (x : ℕ × Update) → slice_get held i ≡ Some x → T (p x) → i ≤ place

-- the operation of this number is at the place, and on the object
pub record IsPlaceOn (op obj : ℕ) (held : Issued) (place : ℕ) : Type 0 where
  pub within : place < length held
  pub is : (x : ℕ × Update) → slice_get held place ≡ Some x → (x.0 ≡ op) × T (has_operand obj x.1)

-- places among the held operations
abbrev pub Places : Type 0
Places = Table (Unit {0})

-- each operation that passes is at one of the places, or before one at which one passes
abbrev pub Ahead : (ℕ × Update → Bool) → Issued → Places → Type 0
Ahead p held places = (i : ℕ) (x : ℕ × Update) → slice_get held i ≡ Some x → T (p x) → (k : ℕ) × (y : ℕ × Update) × T (is_some (at k places)) × (i ≤ k) × (slice_get held k ≡ Some y) × T (p y)

-- the last place is taken out
pub record IsTaken (place : ℕ) (old new : Places) : Type 0 where
  pub there : T (is_some (at place old))
  pub most : (k : ℕ) → T (is_some (at k old)) → k ≤ place
  pub rest : (k : ℕ) → T (is_some (at k old)) → (k ≡ place) ⊎ T (is_some (at k new))
  pub lower : (k : ℕ) → T (is_some (at k new)) → k < place

-- the last places of the operations on these objects are there too
pub record AreAwaited (held : Issued) (objs : List ℕ) (old new : Places) : Type 0 where
  pub kept : (k : ℕ) → T (is_some (at k old)) → T (is_some (at k new))
  pub within : (k : ℕ) → T (is_some (at k new)) → T (is_some (at k old)) ⊎ (k < length held)
  pub ahead : (o : ℕ) → T (member o objs) → Ahead (touches o) held new

-- What is asked for behind the place needs nothing that isn't asked for, and so many that are asked for come in front of it, or none behind it.
pub record IsReached (ask : Ask) (held : Issued) (most place : ℕ) : Type 0 where
  pub within : place ≤ length held
  pub needs_asked : (n : ℕ) (u : Update) → Holds (drop place held) n u → T (passes ask (n, u)) → (x : ℕ × Update) → T (needs x.1 u) → T (passes ask x)
  pub enough : (most ≤ length (filter (passes ask) (take place held))) ⊎ (filter (passes ask) (drop place held) ≡ [])
