-- Operations of one start on a file of four bytes: two overwrites that don't meet, and a change of its mode.
use Rattle.std.specs.Prelude.{ℕ, true, List, [], ◌∷◌, Some}
use Rattle.ec_volume.specs.Volume.{Images, images}
use Rattle.ec_volume.specs.declared.image.Image.{Image}
use Rattle.ec_volume.specs.declared.image.Image.TheVariants.{File, Dir}
use Rattle.ec_volume.specs.declared.image.Kind.TheVariants as kind
use Rattle.ec_volume.specs.declared.update.Update.{Update}
use Rattle.ec_volume.specs.declared.update.Update.TheVariants.{Make, Put, Mode}
use Rattle.ec_order.specs.Order.{Issued}
use Rattle.ec_plain.specs.declared.call.Call.TheVariants as call
use Rattle.ec_plain.specs.declared.call.Reply.TheVariants as reply
use Rattle.ec_history.specs.History.{History, Op}
use Rattle.ec_history.specs.declared.entry.Answer.TheVariants as answer
use Rattle.ec_history.specs.declared.entry.Entry.TheVariants as entry

abbrev pub file : Image
file = File 420 0 0 (97 ∷ 97 ∷ 97 ∷ 97 ∷ [])

-- the root with the file f
abbrev pub one_file : Images
one_file = images ((1, Dir 493 0 0 ((102 ∷ [], 2) ∷ [])) ∷ (2, file) ∷ [])

abbrev pub early : Update
early = Put 2 0 (120 ∷ []) true

abbrev pub late_put : Update
late_put = Put 2 2 (121 ∷ []) true

abbrev pub new_mode : Update
new_mode = Mode 2 384

-- a new file g
abbrev pub make_g : Update
make_g = Make 1 (103 ∷ []) 3 kind.File

abbrev pub op : ℕ → Update → Op
op n u = record { clerk = 0; boot = 1; number = n; place = n; update = u }

abbrev pub overwrites : List Op
overwrites = op 1 early ∷ op 2 late_put ∷ []

abbrev pub numbered_puts : Issued
numbered_puts = (1, early) ∷ (2, late_put) ∷ (3, new_mode) ∷ []

-- One start of a clerk makes the file f, and the next one writes it.
abbrev pub two_starts : History
two_starts =
    (1, entry.Call 0 1 1 0 (call.Create ((102 ∷ []) ∷ [])) (answer.Reply reply.Ok) (Some 1))
    ∷ (2, entry.Call 0 2 2 0 (call.Write ((102 ∷ []) ∷ []) 0 (120 ∷ [])) (answer.Reply reply.Ok) (Some 1))
    ∷ []
