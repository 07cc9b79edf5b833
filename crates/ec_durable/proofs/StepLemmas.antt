-- Operations one by one, and slots.
use Rattle.std.proofs.Common.{◌≡◌, ◌<◌, ◌≤◌, ◌+◌, refl, sym, ap, subst, ◌∙◌, arith, ℕ, zero, suc, cond, T, List, [], ◌∷◌, length, drop, get_or, drop-cons, add-one, Option, None, Some, Result, Ok, Err}
use Rattle.std.specs.Prelude.{OnOk, OnErr}
use Rattle.ec_volume.specs.Update.{is_sound}
use Rattle.ec_volume.specs.declared.update.Update.{Update}
use Rattle.ec_sessions.specs.Slots as slots
use Rattle.ec_sessions.specs.WindowMarks.{times}
use Rattle.std.proofs.lemmas.Bool.{ne_eqb}
use Rattle.ec_durable.specs.declared.state.Durable.{Durable}
use Rattle.ec_durable.specs.declared.record.RecordFault.{RecordFault}
use Rattle.ec_durable.specs.declared.record.RecordFault.TheVariants.{NoSession, Done, Beyond, Unfit, NotReserved, BadAge, BadNumber, NoRoom, NoMemory}
use Rattle.ec_durable.specs.declared.record.Record.{Record}
use Rattle.ec_durable.specs.StepLaws.{ids_stay_below}
use Rattle.ec_durable.specs.Durable.{step, operations, op_fault, carried_out}
use Rattle.ec_durable.specs.Steps.{RefusesRecord, RefusesOp, AreSoundOps, AllBelow, IdsAreBelow}

pub sound_at : (ops : List (ℕ × Update)) (i : ℕ) (op : ℕ × Update) → AreSoundOps ops → i < length ops → op ≡ get_or ops i op → T (is_sound op.1)
sound_at [] i op h within is = absurd (omega arith)
sound_at (o ∷ ops) zero op h within is = subst (λ (p : ℕ × Update). T (is_sound p.1)) (sym is) h.0
sound_at (o ∷ ops) (suc i) op h within is = sound_at ops i op h.1 (omega arith) is

next : (ops : List (ℕ × Update)) (i : ℕ) (op : ℕ × Update) → i < length ops → op ≡ get_or ops i op → drop i ops ≡ op ∷ drop (i + 1) ops
next ops i op within is = drop-cons ops i op within ∙ (λ k. sym is k ∷ drop (sym (add-one i) k) ops)

pub op_done : (c : ℕ) (ops : List (ℕ × Update)) (i : ℕ) (op : ℕ × Update) (d d' : Durable) (all : Result Durable RecordFault) → i < length ops → op ≡ get_or ops i op → op_fault c op.0 op.1 d ≡ None → d' ≡ carried_out c op.1 d
    → operations c (drop i ops) d ≡ all → operations c (drop (i + 1) ops) d' ≡ all
op_done c ops i op d d' all within is fits new before =
    ap (operations c (drop (i + 1) ops)) new
    ∙ ap (λ (f : Option RecordFault). elim f as (λ z. Result Durable RecordFault) [ Some fault ↦ Err fault | None ↦ operations c (drop (i + 1) ops) (carried_out c op.1 d) ]) (sym fits)
    ∙ ap (λ l. operations c l d) (sym (next ops i op within is)) ∙ before

pass : (fault : RecordFault) (f : Option RecordFault) (r : Result Durable RecordFault) → RefusesOp fault f → ((g : RecordFault) → f ≡ Some g → r ≡ Err g) → RefusesRecord fault r
pass NoSession f r is g = g NoSession is
pass (Done b) f r is g = g (Done b) is
pass (Beyond b) f r is g = g (Beyond b) is
pass (Unfit n o) f r is g = g (Unfit n o) is
pass (NotReserved n o) f r is g = g (NotReserved n o) is
pass BadAge f r is g = g BadAge is
pass BadNumber f r is g = g BadNumber is
pass (NoRoom a b) f r is g = g (NoRoom a b) is
pass NoMemory f r is g = tt

pub op_refused : (c : ℕ) (ops : List (ℕ × Update)) (i : ℕ) (op : ℕ × Update) (d : Durable) (all : Result Durable RecordFault) (fault : RecordFault) → i < length ops → op ≡ get_or ops i op → RefusesOp fault (op_fault c op.0 op.1 d)
    → operations c (drop i ops) d ≡ all → RefusesRecord fault all
op_refused c ops i op d all fault within is refuses before =
    pass fault (op_fault c op.0 op.1 d) all refuses
    (λ g f. sym before ∙ ap (λ l. operations c l d) (next ops i op within is)
    ∙ ap (λ (f : Option RecordFault). elim f as (λ z. Result Durable RecordFault) [ Some fault ↦ Err fault | None ↦ operations c (drop (i + 1) ops) (carried_out c op.1 d) ]) f)

-- a slot put in its own place
pub with_slot-same : (clerk : ℕ) (table : slots.Slots) → slots.with_slot clerk (slots.slot_at table clerk) table ≡ table
with_slot-same clerk [] = refl
with_slot-same zero (s ∷ table) = refl
with_slot-same (suc clerk) (s ∷ table) = ap (λ l. s ∷ l) (with_slot-same clerk table)

pub none_unspent : (n : ℕ) (os : List ℕ) → AllBelow n os → (id : ℕ) → n ≤ id → times id os ≡ 0
none_unspent n [] h id le = refl
none_unspent n (o ∷ os) h id le =
    let head : times id (o ∷ os) ≡ 0 + times id os = ap (λ b. cond b 1 0 + times id os) (ne_eqb o id (λ e. absurd (omega (arith, h.0, le, e)))) in
    omega (arith, head, none_unspent n os h.1 id le)

pub kept_below : (r : Result (Unit {0}) RecordFault) (change : Record) (old new : Durable) → OnOk r (step change old ≡ Ok new) → OnErr r (new ≡ old) → IdsAreBelow old → IdsAreBelow new
kept_below (Ok v) change old new ok err h = ids_stay_below change old new h ok
kept_below (Err f) change old new ok err h = subst IdsAreBelow (sym err) h
