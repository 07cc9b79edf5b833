-- A base and the same base with two ids exchanged, and a transcript: a clerk writes a file and makes another one, which becomes durable, and its session ends.
use Rattle.std.specs.Prelude.{◌==◌, ◌+◌, ℕ, false, if◌then◌else◌, List, [], ◌∷◌, None, Some}
use Rattle.ec_volume.specs.Volume.{images}
use Rattle.ec_volume.specs.declared.image.Image.TheVariants.{File, Dir}
use Rattle.ec_volume.specs.declared.image.Kind.TheVariants as kind
use Rattle.ec_volume.specs.declared.update.Update.{Update}
use Rattle.ec_volume.specs.declared.update.Update.TheVariants.{Make, Put}
use Rattle.ec_plain.specs.declared.call.Call.{Call}
use Rattle.ec_plain.specs.declared.call.Call.TheVariants as call
use Rattle.ec_plain.specs.declared.call.Reply.TheVariants as reply
use Rattle.ec_history.specs.History.{Base, History}
use Rattle.ec_history.specs.declared.entry.Answer.TheVariants as answer
use Rattle.ec_history.specs.declared.entry.Entry.{Entry}
use Rattle.ec_history.specs.declared.entry.Entry.TheVariants as entry
use Rattle.ec_history.specs.declared.shown.Shown.{Shown}
use Rattle.ec_history.specs.declared.shown.Shown.TheVariants.{Answered, Durable, Ended}
use Rattle.ec_history.specs.OfLaws.Example.{write_f}

abbrev pub exchange : ℕ → ℕ
exchange o = if o == 2 then 5 else if o == 5 then 2 else o

-- the base of the files f and g, where f has the id 5 and the call at the second place makes the object 2
abbrev pub exchanged_files : Base
exchanged_files = record {
  volume = images ((1, Dir 493 0 0 ((102 ∷ [], 5) ∷ (103 ∷ [], 3) ∷ [])) ∷ (5, File 420 0 0 []) ∷ (3, File 420 0 0 []) ∷ []);
  fresh = λ place. exchange (3 + place);
}

abbrev pub make_h : Call
make_h = call.Create ((104 ∷ []) ∷ [])

abbrev pub fsync_h : Call
fsync_h = call.Fsync ((104 ∷ []) ∷ [])

abbrev pub lines : List Shown
lines =
    Answered 1 0 write_f (answer.Reply reply.Ok) (Some 1)
    ∷ Answered 2 0 make_h (answer.Reply reply.Ok) (Some 2)
    ∷ Durable 0 (2 ∷ [])
    ∷ Answered 3 0 fsync_h (answer.Reply reply.Ok) None
    ∷ Ended 0 (1 ∷ [])
    ∷ []

-- the entries of the two operations, of the fsync and of the loss
abbrev pub issues : History
issues =
    (1, entry.Call 0 1 1 0 write_f (answer.Reply reply.Ok) (Some 1))
    ∷ (2, entry.Call 0 1 2 1 make_h (answer.Reply reply.Ok) (Some 2))
    ∷ []

abbrev pub fsync : ℕ × Entry
fsync = (4, entry.Call 0 1 3 2 fsync_h (answer.Reply reply.Ok) None)

abbrev pub loss : ℕ × Entry
loss = (5, entry.Loss 0 1 (1 ∷ []))

-- the write of f, where f has this id, and the making of h with this id
abbrev pub put_f : ℕ → Update
put_f o = Put o 0 (120 ∷ []) false

abbrev pub new_h : ℕ → Update
new_h o = Make 1 (104 ∷ []) o kind.File
