-- Two clerks write a file each, lose what they wrote, and the first one writes again before it is told.
use Rattle.std.specs.Prelude.{◌+◌, List, [], ◌∷◌, Some}
use Rattle.ec_volume.specs.Volume.{images}
use Rattle.ec_volume.specs.declared.image.Image.TheVariants.{File, Dir}
use Rattle.ec_plain.specs.declared.call.Call.{Call}
use Rattle.ec_plain.specs.declared.call.Call.TheVariants as call
use Rattle.ec_plain.specs.declared.call.Reply.TheVariants as reply
use Rattle.ec_history.specs.History.{Base, History}
use Rattle.ec_history.specs.declared.entry.Answer.TheVariants as answer
use Rattle.ec_history.specs.declared.entry.Entry.TheVariants as entry
use Rattle.ec_history.specs.declared.shown.Shown.{Shown}
use Rattle.ec_history.specs.declared.shown.Shown.TheVariants.{Answered, Ended}

-- the root with the empty files f and g
abbrev pub two_files : Base
two_files = record {
  volume = images ((1, Dir 493 0 0 ((102 ∷ [], 2) ∷ (103 ∷ [], 3) ∷ [])) ∷ (2, File 420 0 0 []) ∷ (3, File 420 0 0 []) ∷ []);
  fresh = λ place. 3 + place;
}

abbrev pub write_f : Call
write_f = call.Write ((102 ∷ []) ∷ []) 0 (120 ∷ [])

abbrev pub write_g : Call
write_g = call.Write ((103 ∷ []) ∷ []) 0 (120 ∷ [])

abbrev pub lines : List Shown
lines =
    Answered 1 0 write_f (answer.Reply reply.Ok) (Some 1)
    ∷ Answered 2 1 write_g (answer.Reply reply.Ok) (Some 1)
    ∷ Ended 0 (1 ∷ [])
    ∷ Ended 1 (1 ∷ [])
    ∷ []

abbrev pub late_line : Shown
late_line = Answered 5 0 write_f (answer.Reply reply.Ok) (Some 2)

-- the writes, and the losses behind them
abbrev pub writes : History
writes =
    (1, entry.Call 0 1 1 0 write_f (answer.Reply reply.Ok) (Some 1))
    ∷ (2, entry.Call 1 1 2 0 write_g (answer.Reply reply.Ok) (Some 1))
    ∷ []

abbrev pub other_loss : History
other_loss = (4, entry.Loss 1 1 (1 ∷ [])) ∷ []
