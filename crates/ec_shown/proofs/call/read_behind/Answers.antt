use Rattle.std.proofs.Common.{refl, sym, ap}
use Rattle.ec_words.proofs.Misfits.{asked, asked_is, made}
use Rattle.std.specs.Prelude.{◌-◌, ◌∷◌}
use Rattle.ec_plain.specs.declared.call.Call.TheVariants as call
use Rattle.ec_volume.specs.Limits.{max_ordered}
use Rattle.ec_words.specs.declared.name.Verb.TheVariants as verb
use Rattle.ec_words.specs.Rows.{◌▸◌}
use Rattle.ec_words.specs.RowsLeft.{left}
use Rattle.ec_words.specs.Spelling.{IsSmallNumber, IsNumber, IsCount, IsMode}
use Rattle.ec_shown.specs.Spelling.{IsPathShown, IsWritten}
use Rattle.ec_shown.specs.Answers.{SpellsOutcome}
use Rattle.ec_shown.specs.Calls.{Paths, OnPath, Asks}
use Rattle.ec_shown.proofs.Behind.{both_same}
use Rattle.ec_shown.proofs.call.read_behind.Goals as goal

pub returns-in_err-path-in-Mkdir : goal.returns-in_err-path-in-Mkdir
returns-in_err-path-in-Mkdir c =
    let ws = left c.args.words in
    asked Asks _ verb.Mkdir ws _ _ c.in-Mkdir.is c.from_residual.ensures.1 (made (OnPath) (λ x. (call.Mkdir x.0, x.1)) ws _ c.in_err-path-in-Mkdir.ensures)

pub returns-in_ok-path-in-Mkdir : goal.returns-in_ok-path-in-Mkdir
returns-in_ok-path-in-Mkdir c = asked_is Asks _ verb.Mkdir (left c.args.words) _ c.in-Mkdir.is (_, (c.in_ok-path-in-Mkdir.ensures, ap (λ p. (call.Mkdir p, c.in_ok-path-in-Mkdir.outcome)) (sym c.path.view_is)))

pub returns-in_err-path-in-Create : goal.returns-in_err-path-in-Create
returns-in_err-path-in-Create c =
    let ws = left c.args.words in
    asked Asks _ verb.Create ws _ _ c.in-Create.is c.from_residual-in_err-path-in-Create.ensures.1 (made (OnPath) (λ x. (call.Create x.0, x.1)) ws _ c.in_err-path-in-Create.ensures)

pub returns-in_ok-path-in-Create : goal.returns-in_ok-path-in-Create
returns-in_ok-path-in-Create c = asked_is Asks _ verb.Create (left c.args.words) _ c.in-Create.is (_, (c.in_ok-path-in-Create.ensures, ap (λ p. (call.Create p, c.in_ok-path-in-Create.outcome)) (sym c.path-in-Create.view_is)))

pub returns-in_err-path-in-Write : goal.returns-in_err-path-in-Write
returns-in_err-path-in-Write c =
    let ws = left c.args.words in
    asked Asks _ verb.Write ws _ _ c.in-Write.is c.from_residual-in_err-path-in-Write.ensures.1 (made (IsPathShown ▸ IsSmallNumber ▸ IsWritten ▸ SpellsOutcome) (λ x. (call.Write x.0 x.1.0 x.1.1.0, x.1.1.1)) ws _ c.in_err-path-in-Write.ensures)

pub returns-in_ok-path-in-Write : goal.returns-in_ok-path-in-Write
returns-in_ok-path-in-Write c = asked_is Asks _ verb.Write (left c.args.words) _ c.in-Write.is (_, (c.in_ok-path-in-Write.ensures, both_same (λ p q. (call.Write p c.in_ok-path-in-Write.at q, c.in_ok-path-in-Write.outcome)) _ _ _ _ (sym c.path-in-Write.view_is) (sym c.text.view_is)))

pub returns-in_err-path-in-SetLen : goal.returns-in_err-path-in-SetLen
returns-in_err-path-in-SetLen c =
    let ws = left c.args.words in
    asked Asks _ verb.SetLen ws _ _ c.in-SetLen.is c.from_residual-in_err-path-in-SetLen.ensures.1 (made (IsPathShown ▸ IsSmallNumber ▸ SpellsOutcome) (λ x. (call.SetLen x.0 x.1.0, x.1.1)) ws _ c.in_err-path-in-SetLen.ensures)

pub returns-in_ok-path-in-SetLen : goal.returns-in_ok-path-in-SetLen
returns-in_ok-path-in-SetLen c = asked_is Asks _ verb.SetLen (left c.args.words) _ c.in-SetLen.is (_, (c.in_ok-path-in-SetLen.ensures, ap (λ p. (call.SetLen p c.in_ok-path-in-SetLen.len, c.in_ok-path-in-SetLen.outcome)) (sym c.path-in-SetLen.view_is)))

pub returns-in_err-path-in-Read : goal.returns-in_err-path-in-Read
returns-in_err-path-in-Read c =
    let ws = left c.args.words in
    asked Asks _ verb.Read ws _ _ c.in-Read.is c.from_residual-in_err-path-in-Read.ensures.1 (made (IsPathShown ▸ IsSmallNumber ▸ IsCount ▸ SpellsOutcome) (λ x. (call.Read x.0 x.1.0 x.1.1.0, x.1.1.1)) ws _ c.in_err-path-in-Read.ensures)

pub returns-in_ok-path-in-Read : goal.returns-in_ok-path-in-Read
returns-in_ok-path-in-Read c = asked_is Asks _ verb.Read (left c.args.words) _ c.in-Read.is (_, (c.in_ok-path-in-Read.ensures, both_same (λ p q. (call.Read p c.in_ok-path-in-Read.at q, c.in_ok-path-in-Read.outcome)) _ _ _ _ (sym c.path-in-Read.view_is) (sym c.count.view_is)))

pub returns-in_err-path-in-Chmod : goal.returns-in_err-path-in-Chmod
returns-in_err-path-in-Chmod c =
    let ws = left c.args.words in
    asked Asks _ verb.Chmod ws _ _ c.in-Chmod.is c.from_residual-in_err-path-in-Chmod.ensures.1 (made (IsPathShown ▸ IsMode ▸ SpellsOutcome) (λ x. (call.Chmod x.0 x.1.0, x.1.1)) ws _ c.in_err-path-in-Chmod.ensures)

pub returns-in_ok-path-in-Chmod : goal.returns-in_ok-path-in-Chmod
returns-in_ok-path-in-Chmod c = asked_is Asks _ verb.Chmod (left c.args.words) _ c.in-Chmod.is (_, (c.in_ok-path-in-Chmod.ensures, both_same (λ p q. (call.Chmod p q, c.in_ok-path-in-Chmod.outcome)) _ _ _ _ (sym c.path-in-Chmod.view_is) (sym c.mode.view_is)))

pub returns-in_err-path-in-Touch : goal.returns-in_err-path-in-Touch
returns-in_err-path-in-Touch c =
    let ws = left c.args.words in
    asked Asks _ verb.Touch ws _ _ c.in-Touch.is c.from_residual-in_err-path-in-Touch.ensures.1 (made (IsPathShown ▸ IsNumber ▸ SpellsOutcome) (λ x. (call.Touch x.0 x.1.0, x.1.1)) ws _ c.in_err-path-in-Touch.ensures)

pub returns-in_ok-path-in-Touch : goal.returns-in_ok-path-in-Touch
returns-in_ok-path-in-Touch c = asked_is Asks _ verb.Touch (left c.args.words) _ c.in-Touch.is (_, (c.in_ok-path-in-Touch.ensures, ap (λ p. (call.Touch p c.in_ok-path-in-Touch.stamp, c.in_ok-path-in-Touch.outcome)) (sym c.path-in-Touch.view_is)))

pub returns-in_err-path-in-Stat : goal.returns-in_err-path-in-Stat
returns-in_err-path-in-Stat c =
    let ws = left c.args.words in
    asked Asks _ verb.Stat ws _ _ c.in-Stat.is c.from_residual-in_err-path-in-Stat.ensures.1 (made (OnPath) (λ x. (call.Stat x.0, x.1)) ws _ c.in_err-path-in-Stat.ensures)

pub returns-in_ok-path-in-Stat : goal.returns-in_ok-path-in-Stat
returns-in_ok-path-in-Stat c = asked_is Asks _ verb.Stat (left c.args.words) _ c.in-Stat.is (_, (c.in_ok-path-in-Stat.ensures, ap (λ p. (call.Stat p, c.in_ok-path-in-Stat.outcome)) (sym c.path-in-Stat.view_is)))

pub returns-in_err-path-in-List : goal.returns-in_err-path-in-List
returns-in_err-path-in-List c =
    let ws = left c.args.words in
    asked Asks _ verb.List ws _ _ c.in-List.is c.from_residual-in_err-path-in-List.ensures.1 (made (OnPath) (λ x. (call.List x.0, x.1)) ws _ c.in_err-path-in-List.ensures)

pub returns-in_ok-path-in-List : goal.returns-in_ok-path-in-List
returns-in_ok-path-in-List c = asked_is Asks _ verb.List (left c.args.words) _ c.in-List.is (_, (c.in_ok-path-in-List.ensures, ap (λ p. (call.List p, c.in_ok-path-in-List.outcome)) (sym c.path-in-List.view_is)))

pub returns-in_err-path-in-Remove : goal.returns-in_err-path-in-Remove
returns-in_err-path-in-Remove c =
    let ws = left c.args.words in
    asked Asks _ verb.Remove ws _ _ c.in-Remove.is c.from_residual-in_err-path-in-Remove.ensures.1 (made (OnPath) (λ x. (call.Remove x.0, x.1)) ws _ c.in_err-path-in-Remove.ensures)

pub returns-in_ok-path-in-Remove : goal.returns-in_ok-path-in-Remove
returns-in_ok-path-in-Remove c = asked_is Asks _ verb.Remove (left c.args.words) _ c.in-Remove.is (_, (c.in_ok-path-in-Remove.ensures, ap (λ p. (call.Remove p, c.in_ok-path-in-Remove.outcome)) (sym c.path-in-Remove.view_is)))

pub returns-in_err-path-in-Rmdir : goal.returns-in_err-path-in-Rmdir
returns-in_err-path-in-Rmdir c =
    let ws = left c.args.words in
    asked Asks _ verb.Rmdir ws _ _ c.in-Rmdir.is c.from_residual-in_err-path-in-Rmdir.ensures.1 (made (OnPath) (λ x. (call.Rmdir x.0, x.1)) ws _ c.in_err-path-in-Rmdir.ensures)

pub returns-in_ok-path-in-Rmdir : goal.returns-in_ok-path-in-Rmdir
returns-in_ok-path-in-Rmdir c = asked_is Asks _ verb.Rmdir (left c.args.words) _ c.in-Rmdir.is (_, (c.in_ok-path-in-Rmdir.ensures, ap (λ p. (call.Rmdir p, c.in_ok-path-in-Rmdir.outcome)) (sym c.path-in-Rmdir.view_is)))

pub returns-in_err-path-in-Rename : goal.returns-in_err-path-in-Rename
returns-in_err-path-in-Rename c =
    let ws = left c.args.words in
    asked Asks _ verb.Rename ws _ _ c.in-Rename.is c.from_residual-in_err-path-in-Rename.ensures.1 (made (IsPathShown ▸ OnPath) (λ x. (call.Rename x.0 x.1.0, x.1.1)) ws _ c.in_err-path-in-Rename.ensures)

pub returns-in_ok-path-in-Rename : goal.returns-in_ok-path-in-Rename
returns-in_ok-path-in-Rename c = asked_is Asks _ verb.Rename (left c.args.words) _ c.in-Rename.is (_, (c.in_ok-path-in-Rename.ensures, both_same (λ p q. (call.Rename p q, c.in_ok-path-in-Rename.outcome)) _ _ _ _ (sym c.path-in-Rename.view_is) (sym c.to.view_is)))

pub returns-in_err-path-in-Fsync : goal.returns-in_err-path-in-Fsync
returns-in_err-path-in-Fsync c =
    let ws = left c.args.words in
    asked Asks _ verb.Fsync ws _ _ c.in-Fsync.is c.from_residual-in_err-path-in-Fsync.ensures.1 (made (OnPath) (λ x. (call.Fsync x.0, x.1)) ws _ c.in_err-path-in-Fsync.ensures)

pub returns-in_ok-path-in-Fsync : goal.returns-in_ok-path-in-Fsync
returns-in_ok-path-in-Fsync c = asked_is Asks _ verb.Fsync (left c.args.words) _ c.in-Fsync.is (_, (c.in_ok-path-in-Fsync.ensures, ap (λ p. (call.Fsync p, c.in_ok-path-in-Fsync.outcome)) (sym c.path-in-Fsync.view_is)))

pub returns-in_err-paths-in-Forder : goal.returns-in_err-paths-in-Forder
returns-in_err-paths-in-Forder c =
    let ws = left c.args.words in
    asked Asks _ verb.Forder ws _ _ c.in-Forder.is c.from_residual-in_err-paths-in-Forder.ensures.1 (made (IsPathShown ▸ Paths (max_ordered - 1)) (λ x. (call.Forder (x.0 ∷ x.1.0), x.1.1)) ws _ c.in_err-paths-in-Forder.ensures)

pub returns-in_ok-paths-in-Forder : goal.returns-in_ok-paths-in-Forder
returns-in_ok-paths-in-Forder c = asked_is Asks _ verb.Forder (left c.args.words) _ c.in-Forder.is (let g = c.in_ok-paths-in-Forder.ensures in (g.0, (g.1.0, ap (λ y. (call.Forder y.0, y.1)) g.1.1)))

pub returns-in_err-outcome-in-Sync : goal.returns-in_err-outcome-in-Sync
returns-in_err-outcome-in-Sync c =
    let ws = left c.args.words in
    asked Asks _ verb.Sync ws _ _ c.in-Sync.is c.from_residual-in_err-outcome-in-Sync.ensures.1 (made (SpellsOutcome) (λ o. (call.Sync, o)) ws _ c.in_err-outcome-in-Sync.ensures)

pub returns-in_ok-outcome-in-Sync : goal.returns-in_ok-outcome-in-Sync
returns-in_ok-outcome-in-Sync c = asked_is Asks _ verb.Sync (left c.args.words) _ c.in-Sync.is (_, (c.in_ok-outcome-in-Sync.ensures, refl))

pub returns-in_err-path-in-Chown : goal.returns-in_err-path-in-Chown
returns-in_err-path-in-Chown c =
    let ws = left c.args.words in
    asked Asks _ verb.Chown ws _ _ c.in-Chown.is c.from_residual-in_err-path-in-Chown.ensures.1 (made (IsPathShown ▸ IsSmallNumber ▸ SpellsOutcome) (λ x. (call.Chown x.0 x.1.0, x.1.1)) ws _ c.in_err-path-in-Chown.ensures)

pub returns-in_ok-path-in-Chown : goal.returns-in_ok-path-in-Chown
returns-in_ok-path-in-Chown c = asked_is Asks _ verb.Chown (left c.args.words) _ c.in-Chown.is (_, (c.in_ok-path-in-Chown.ensures, ap (λ p. (call.Chown p c.in_ok-path-in-Chown.owner, c.in_ok-path-in-Chown.outcome)) (sym c.path-in-Chown.view_is)))
