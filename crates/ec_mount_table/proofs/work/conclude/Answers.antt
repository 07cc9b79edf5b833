use Rattle.std.proofs.Common.{refl, sym, subst}
use Rattle.ec_mount_table.specs.Going.{Concludes}
use Rattle.ec_mount_table.specs.declared.work.Answers.{Answers}
use Rattle.ec_mount_table.proofs.work.conclude.Goals as goal

pub returns : goal.returns
returns c =
    let made = c.args.made in
    let answers : Answers = record { mets = made.mets; replies = made.replies; told = c.in-Some.ends.told; last = c.last_of.result } in
    subst (λ e. Concludes e made.mets.items made.replies.items made.last answers) (sym c.in-Some.is) (refl, refl, refl, c.last_of.ensures)
