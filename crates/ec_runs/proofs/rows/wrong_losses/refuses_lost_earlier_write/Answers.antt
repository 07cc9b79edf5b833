use Rattle.std.proofs.Common.{false, refl, inl, inr, [], ◌∷◌, Some}
use Rattle.std.specs.Prelude.{codes}
use Rattle.ec_volume.specs.declared.update.Update.TheVariants as update
use Rattle.ec_plain.specs.declared.call.Call.TheVariants as call
use Rattle.ec_plain.specs.declared.call.Reply.TheVariants as reply
use Rattle.ec_order.specs.Order.{ask}
use Rattle.ec_history.specs.Legal.{from_formatted}
use Rattle.ec_history.specs.declared.entry.Answer.TheVariants as answer
use Rattle.ec_history.specs.declared.shown.Shown.TheVariants.{Answered}
use Rattle.ec_runs.specs.OfRows.Clerks.{A}
use Rattle.ec_runs.specs.OfRows.WrongLosses.{fsync_begun}
use Rattle.ec_runs.proofs.OfRows.Tests.{covered_by_test}
use Rattle.ec_runs.proofs.rows.wrong_losses.refuses_lost_earlier_write.Goals as goal

pub returns-clause-covered : goal.returns-clause-covered
returns-clause-covered c = covered_by_test from_formatted (fsync_begun [] (Answered 3 A (call.Write (codes "f" ∷ []) 0 (codes "x")) (answer.Reply reply.Ok) (Some 2) ∷ [])) tt

-- the fsync covers the write before it
pub returns-clause-earlier_illegal : goal.returns-clause-earlier_illegal
returns-clause-earlier_illegal c h = (h.1.1.1.0).uncovered.1.1.0.0 (record { own = tt; closed_in = ask 2 (update.Put 3 0 (codes "x") false) (inr (inl (refl, refl))) tt; not_lost = tt })

pub returns-clause-earlier_uncovered : goal.returns-clause-earlier_uncovered
returns-clause-earlier_uncovered c h = h.1.1.0 2 (record { own = tt; closed_in = ask 2 (update.Put 3 0 (codes "x") false) (inr (inl (refl, refl))) tt; not_lost = tt })
