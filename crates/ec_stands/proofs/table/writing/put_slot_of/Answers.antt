use Rattle.std.proofs.Common.{◌≤◌, Option, length, subst, arith}
use Rattle.std.specs.List.Sorted.{IsStrictlyIncreasing}
use Rattle.ec_sessions.specs.Slots.{unspent_of}
use Rattle.ec_sessions.specs.declared.slot.Slot.{Slot}
use Rattle.ec_stands.proofs.OfTable.Written.{slot_few}
use Rattle.ec_stands.proofs.table.writing.put_slot_of.Goals as goal

pub put_slot-requires-clause-rising : goal.put_slot-requires-clause-rising
put_slot-requires-clause-rising c = subst (λ (s : Option Slot). IsStrictlyIncreasing (unspent_of s)) c.in-Some.ensures.slot (c.slot.ensures.table.rising c.args.clerk)

pub put_slot-requires-clause-few : goal.put_slot-requires-clause-few
put_slot-requires-clause-few c =
    subst (λ (s : Option Slot). length (unspent_of s) ≤ 1024) c.in-Some.ensures.slot (omega (arith, slot_few c.args.sessions.now c.args.clerk, c.requires))
