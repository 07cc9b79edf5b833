-- A word of each kind.
use Rattle.std.specs.Prelude.{codes, refl, []}
use Rattle.std.proofs.Common.{sym, arith}
use Rattle.std.proofs.lemmas.Fmt.{decimal_digit}
use Rattle.ec_disk.specs.declared.disk.Choice.TheVariants as choice
use Rattle.ec_wire.specs.declared.msg.MsgKind.TheVariants as kind
use Rattle.ec_words.specs.declared.name.Verb.TheVariants as verb
use Rattle.ec_words.specs.RowsLeft.{Example}
use Rattle.ec_words.specs.Spelling.{IsClerk, IsSmallNumber, IsNumber, IsCount, IsArmed, IsLane, IsMode, IsText, IsPathText, IsKind, IsChoice, IsVerb}

pub a_clerk : Example IsClerk
a_clerk = (codes "A", (0, (refl, omega arith)))

pub a_small_number : Example IsSmallNumber
a_small_number = (codes "0", (0, (sym (decimal_digit 0 (omega arith)), (omega arith, omega arith))))

pub a_number : Example IsNumber
a_number = (codes "0", (0, (sym (decimal_digit 0 (omega arith)), (omega arith, omega arith))))

pub a_count : Example IsCount
a_count = (codes "0", (0, (sym (decimal_digit 0 (omega arith)), (omega arith, omega arith))))

pub an_armed : Example IsArmed
an_armed = (codes "1", (1, (sym (decimal_digit 1 (omega arith)), (omega arith, omega arith))))

pub a_lane : Example IsLane
a_lane = (codes "1", (1, (sym (decimal_digit 1 (omega arith)), (omega arith, omega arith))))

pub a_mode : Example IsMode
a_mode = (codes "0000", (0, refl))

pub a_text : Example IsText
a_text = (codes "x", (codes "x", (refl, (omega arith, omega arith))))

pub a_path : Example IsPathText
a_path = (codes "/", ([], (codes "/", (refl, (refl, refl)))))

pub a_kind : Example IsKind
a_kind = (codes "bye", (kind.Bye, refl))

pub a_choice : Example IsChoice
a_choice = (codes "old", (choice.Old, refl))

pub a_verb : Example IsVerb
a_verb = (codes "sync", (verb.Sync, refl))
