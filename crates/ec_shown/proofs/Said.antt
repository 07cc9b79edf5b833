-- Words with which something begins.
use Rattle.std.specs.Prelude.{codes, refl, [], ◌∷◌, ℕ}
use Rattle.std.proofs.Common.{inr}
use Rattle.ec_base.specs.declared.counter.Counter.TheVariants as counter
use Rattle.ec_history.specs.declared.shown.LimitName.TheVariants as limit
use Rattle.ec_history.specs.declared.shown.Shown.TheVariants as shown
use Rattle.ec_plain.specs.declared.call.Call.TheVariants as call
use Rattle.ec_plain.specs.declared.call.Refusal.TheVariants as refusal
use Rattle.ec_volume.specs.declared.image.Kind.TheVariants as kind
use Rattle.ec_words.specs.declared.name.Verb.TheVariants as verb
use Rattle.ec_words.specs.Rows.{Last, ◌⊳◌, Begins}
use Rattle.ec_words.specs.RowsLeft.{Example}
use Rattle.ec_words.specs.Spelling.{IsSmallNumber, IsNumber, IsMode}
use Rattle.ec_words.specs.Examples.{a_small_number, a_number, a_mode}
use Rattle.ec_words.proofs.Misfits.{begins_row, begins_last}
use Rattle.ec_shown.specs.declared.answer.Outcome.TheVariants as outcome
use Rattle.ec_shown.specs.declared.name.Head.TheVariants as head
use Rattle.ec_shown.specs.declared.name.Said.TheVariants as said
use Rattle.ec_shown.specs.declared.name.Why.TheVariants as why
use Rattle.ec_shown.specs.Spelling.{IsSaid, IsWhy, IsOwner, IsKindName, IsLimit, IsCounter}
use Rattle.ec_shown.specs.Rows.{Marked, SpellsList}
use Rattle.ec_shown.specs.Answers.{Refuses, Sized, Stamped, Moded, Properties, Tells, SpellsOutcome}
use Rattle.ec_shown.specs.Calls.{Paths, SpellsAsked}
use Rattle.ec_shown.specs.Lines.{SpellsShown}
use Rattle.ec_shown.proofs.Behind.{begins_tail, begins_marked}
use Rattle.ec_shown.proofs.Rising.{begins_list}

pub a_refusal : Begins (IsWhy ⊳ Refuses) []
a_refusal = (codes "Loop" ∷ [], (refusal.Loop, (why.Loop, (refl, (tt, (refl, refl))))))

pub a_told : Begins (IsSaid ⊳ Tells) []
a_told = (codes "waits" ∷ [], (outcome.Waits, (said.Waits, (refl, (tt, (refl, refl))))))

pub an_outcome : Begins SpellsOutcome []
an_outcome = (codes "->" ∷ codes "waits" ∷ [], (outcome.Waits, (refl, (said.Waits, (refl, (tt, (refl, refl)))))))

pub an_asked : Begins SpellsAsked []
an_asked = (codes "sync" ∷ codes "->" ∷ codes "waits" ∷ [], ((call.Sync, outcome.Waits), (verb.Sync, (refl, (outcome.Waits, ((refl, (said.Waits, (refl, (tt, (refl, refl))))), refl))))))

pub no_paths : (n : ℕ) → Begins (Paths n) []
no_paths n = (codes "->" ∷ codes "waits" ∷ [], (([], outcome.Waits), (refl, (said.Waits, (refl, (tt, (refl, refl)))))))

pub a_line : Begins SpellsShown []
a_line = (codes "none" ∷ [], (shown.Nothing, (inr head.Nothing, (refl, (tt, (refl, refl))))))

pub a_kind : Example IsKindName
a_kind = (codes "dir", (kind.Dir, refl))

pub a_limit : Example IsLimit
a_limit = (codes "bytes", (limit.Bytes, refl))

pub a_counter : Example IsCounter
a_counter = (codes "Id", (counter.Id, refl))

pub a_size : Begins Sized []
a_size = begins_row IsSmallNumber _ a_small_number (begins_tail (codes "owner") IsOwner)

pub a_stamp : Begins Stamped []
a_stamp = begins_row IsNumber _ a_number a_size

pub a_mode_behind : Begins Moded []
a_mode_behind = begins_row IsMode _ a_mode a_stamp

pub properties : Begins Properties []
properties = begins_row IsKindName _ a_kind a_mode_behind

pub lost_begins : Begins (Marked (codes "lost") SpellsList) []
lost_begins = begins_marked (codes "lost") SpellsList begins_list

pub column_begins : Begins (Marked (codes "col") (Last IsSmallNumber)) []
column_begins = begins_marked (codes "col") (Last IsSmallNumber) (begins_last IsSmallNumber a_small_number)

pub place_begins : Begins (Marked (codes "bad") (Last IsNumber)) []
place_begins = begins_marked (codes "bad") (Last IsNumber) (begins_last IsNumber a_number)
