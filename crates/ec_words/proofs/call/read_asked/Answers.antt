use Rattle.std.proofs.Common.{◌-◌, ◌∷◌, refl, sym, ap}
use Rattle.ec_plain.specs.declared.call.Call.TheVariants as call
use Rattle.ec_volume.specs.Limits.{max_ordered}
use Rattle.ec_words.specs.declared.name.Verb.TheVariants as verb
use Rattle.ec_words.specs.Rows.{◌▸◌, End, Last, UpTo}
use Rattle.ec_words.specs.RowsLeft.{left}
use Rattle.ec_words.specs.Spelling.{IsSmallNumber, IsNumber, IsCount, IsMode, IsText, IsPathText}
use Rattle.ec_words.specs.Calls.{Asks}
use Rattle.ec_words.proofs.Misfits.{asked, asked_is, made}
use Rattle.ec_words.proofs.call.read_asked.Goals as goal

pub returns-in_err-one-in-Mkdir : goal.returns-in_err-one-in-Mkdir
returns-in_err-one-in-Mkdir c =
    let ws = left c.args.words in
    asked Asks _ verb.Mkdir ws _ _ c.in-Mkdir.is c.from_residual.ensures.1 (made (Last IsPathText) call.Mkdir ws _ c.in_err-one-in-Mkdir.ensures)

pub returns-in_err-one-in-Create : goal.returns-in_err-one-in-Create
returns-in_err-one-in-Create c =
    let ws = left c.args.words in
    asked Asks _ verb.Create ws _ _ c.in-Create.is c.from_residual-in_err-one-in-Create.ensures.1 (made (Last IsPathText) call.Create ws _ c.in_err-one-in-Create.ensures)

pub returns-in_err-path-in-Write : goal.returns-in_err-path-in-Write
returns-in_err-path-in-Write c =
    let ws = left c.args.words in
    asked Asks _ verb.Write ws _ _ c.in-Write.is c.from_residual-in_err-path-in-Write.ensures.1 (made (IsPathText ▸ IsSmallNumber ▸ Last IsText) (λ x. call.Write x.0 x.1.0 x.1.1) ws _ c.in_err-path-in-Write.ensures)

pub returns-in_err-path-in-SetLen : goal.returns-in_err-path-in-SetLen
returns-in_err-path-in-SetLen c =
    let ws = left c.args.words in
    asked Asks _ verb.SetLen ws _ _ c.in-SetLen.is c.from_residual-in_err-path-in-SetLen.ensures.1 (made (IsPathText ▸ Last IsSmallNumber) (λ x. call.SetLen x.0 x.1) ws _ c.in_err-path-in-SetLen.ensures)

pub returns-in_err-path-in-Read : goal.returns-in_err-path-in-Read
returns-in_err-path-in-Read c =
    let ws = left c.args.words in
    asked Asks _ verb.Read ws _ _ c.in-Read.is c.from_residual-in_err-path-in-Read.ensures.1 (made (IsPathText ▸ IsSmallNumber ▸ Last IsCount) (λ x. call.Read x.0 x.1.0 x.1.1) ws _ c.in_err-path-in-Read.ensures)

pub returns-in_err-path-in-Chmod : goal.returns-in_err-path-in-Chmod
returns-in_err-path-in-Chmod c =
    let ws = left c.args.words in
    asked Asks _ verb.Chmod ws _ _ c.in-Chmod.is c.from_residual-in_err-path-in-Chmod.ensures.1 (made (IsPathText ▸ Last IsMode) (λ x. call.Chmod x.0 x.1) ws _ c.in_err-path-in-Chmod.ensures)

pub returns-in_err-path-in-Touch : goal.returns-in_err-path-in-Touch
returns-in_err-path-in-Touch c =
    let ws = left c.args.words in
    asked Asks _ verb.Touch ws _ _ c.in-Touch.is c.from_residual-in_err-path-in-Touch.ensures.1 (made (IsPathText ▸ Last IsNumber) (λ x. call.Touch x.0 x.1) ws _ c.in_err-path-in-Touch.ensures)

pub returns-in_err-one-in-Stat : goal.returns-in_err-one-in-Stat
returns-in_err-one-in-Stat c =
    let ws = left c.args.words in
    asked Asks _ verb.Stat ws _ _ c.in-Stat.is c.from_residual-in_err-one-in-Stat.ensures.1 (made (Last IsPathText) call.Stat ws _ c.in_err-one-in-Stat.ensures)

pub returns-in_err-one-in-List : goal.returns-in_err-one-in-List
returns-in_err-one-in-List c =
    let ws = left c.args.words in
    asked Asks _ verb.List ws _ _ c.in-List.is c.from_residual-in_err-one-in-List.ensures.1 (made (Last IsPathText) call.List ws _ c.in_err-one-in-List.ensures)

pub returns-in_err-one-in-Remove : goal.returns-in_err-one-in-Remove
returns-in_err-one-in-Remove c =
    let ws = left c.args.words in
    asked Asks _ verb.Remove ws _ _ c.in-Remove.is c.from_residual-in_err-one-in-Remove.ensures.1 (made (Last IsPathText) call.Remove ws _ c.in_err-one-in-Remove.ensures)

pub returns-in_err-one-in-Rmdir : goal.returns-in_err-one-in-Rmdir
returns-in_err-one-in-Rmdir c =
    let ws = left c.args.words in
    asked Asks _ verb.Rmdir ws _ _ c.in-Rmdir.is c.from_residual-in_err-one-in-Rmdir.ensures.1 (made (Last IsPathText) call.Rmdir ws _ c.in_err-one-in-Rmdir.ensures)

pub returns-in_err-path-in-Rename : goal.returns-in_err-path-in-Rename
returns-in_err-path-in-Rename c =
    let ws = left c.args.words in
    asked Asks _ verb.Rename ws _ _ c.in-Rename.is c.from_residual-in_err-path-in-Rename.ensures.1 (made (IsPathText ▸ Last IsPathText) (λ x. call.Rename x.0 x.1) ws _ c.in_err-path-in-Rename.ensures)

pub returns-in_err-one-in-Fsync : goal.returns-in_err-one-in-Fsync
returns-in_err-one-in-Fsync c =
    let ws = left c.args.words in
    asked Asks _ verb.Fsync ws _ _ c.in-Fsync.is c.from_residual-in_err-one-in-Fsync.ensures.1 (made (Last IsPathText) call.Fsync ws _ c.in_err-one-in-Fsync.ensures)

pub returns-in_err-read_paths-in-Forder : goal.returns-in_err-read_paths-in-Forder
returns-in_err-read_paths-in-Forder c =
    let ws = left c.args.words in
    asked Asks _ verb.Forder ws _ _ c.in-Forder.is c.from_residual-in_err-read_paths-in-Forder.ensures.1 (made (IsPathText ▸ UpTo IsPathText (max_ordered - 1)) (λ x. call.Forder (x.0 ∷ x.1)) ws _ c.in_err-read_paths-in-Forder.ensures)

pub returns-in_err-no_more-in-Sync : goal.returns-in_err-no_more-in-Sync
returns-in_err-no_more-in-Sync c =
    let ws = left c.args.words in
    asked Asks _ verb.Sync ws _ _ c.in-Sync.is c.from_residual-in_err-no_more-in-Sync.ensures.1 (made End (λ x. call.Sync) ws _ c.in_err-no_more-in-Sync.ensures)

pub returns-in_err-path-in-Chown : goal.returns-in_err-path-in-Chown
returns-in_err-path-in-Chown c =
    let ws = left c.args.words in
    asked Asks _ verb.Chown ws _ _ c.in-Chown.is c.from_residual-in_err-path-in-Chown.ensures.1 (made (IsPathText ▸ Last IsSmallNumber) (λ x. call.Chown x.0 x.1) ws _ c.in_err-path-in-Chown.ensures)

pub returns-in_ok-path-in-Write : goal.returns-in_ok-path-in-Write
returns-in_ok-path-in-Write c = asked_is Asks _ verb.Write (left c.args.words) _ c.in-Write.is (_, (c.in_ok-path-in-Write.ensures, refl))

pub returns-in_ok-path-in-SetLen : goal.returns-in_ok-path-in-SetLen
returns-in_ok-path-in-SetLen c = asked_is Asks _ verb.SetLen (left c.args.words) _ c.in-SetLen.is (_, (c.in_ok-path-in-SetLen.ensures, refl))

pub returns-in_ok-path-in-Read : goal.returns-in_ok-path-in-Read
returns-in_ok-path-in-Read c = asked_is Asks _ verb.Read (left c.args.words) _ c.in-Read.is (_, (c.in_ok-path-in-Read.ensures, ap (λ n. call.Read c.in_ok-path-in-Read.path c.in_ok-path-in-Read.at n) (sym c.count.view_is)))

pub returns-in_ok-path-in-Chmod : goal.returns-in_ok-path-in-Chmod
returns-in_ok-path-in-Chmod c = asked_is Asks _ verb.Chmod (left c.args.words) _ c.in-Chmod.is (_, (c.in_ok-path-in-Chmod.ensures, ap (λ n. call.Chmod c.in_ok-path-in-Chmod.path n) (sym c.mode.view_is)))

pub returns-in_ok-path-in-Touch : goal.returns-in_ok-path-in-Touch
returns-in_ok-path-in-Touch c = asked_is Asks _ verb.Touch (left c.args.words) _ c.in-Touch.is (_, (c.in_ok-path-in-Touch.ensures, refl))

pub returns-in_ok-path-in-Rename : goal.returns-in_ok-path-in-Rename
returns-in_ok-path-in-Rename c = asked_is Asks _ verb.Rename (left c.args.words) _ c.in-Rename.is (_, (c.in_ok-path-in-Rename.ensures, refl))

pub returns-in_ok-path-in-Chown : goal.returns-in_ok-path-in-Chown
returns-in_ok-path-in-Chown c = asked_is Asks _ verb.Chown (left c.args.words) _ c.in-Chown.is (_, (c.in_ok-path-in-Chown.ensures, refl))
