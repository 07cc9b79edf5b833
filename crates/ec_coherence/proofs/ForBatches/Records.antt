-- The facts on logs and images behind the records of a batch and of an end.
use Rattle.std.proofs.Common.{◌≡◌, subst, sym, ◌∙◌, ap}
use Rattle.std.specs.Prelude.{Result, Ok, Err}
use Rattle.ec_durable.specs.declared.state.Durable.{Durable}
use Rattle.ec_durable.specs.declared.record.RecordFault.{RecordFault}
use Rattle.ec_log.specs.Log.{batch}
use Rattle.ec_coherence.specs.Log.{LogsAgree}
use Rattle.ec_coherence.specs.Images.{ImagesAgree}
use Rattle.ec_coherence.specs.BatchLaws.{BatchesKeep, EndsKeep, behind_batch}
use Rattle.ec_coherence.proofs.ForBatches.Committing.{committed, commits}
use Rattle.ec_coherence.proofs.ForBatches.CommitAgrees.{commit-logs, commit-images}
use Rattle.ec_coherence.proofs.ForBatches.Answered.{end-steps, end-logs, end-images, ended}

abbrev stepped : Durable → Result Durable RecordFault
stepped d = Ok d

same-step : (x y : Durable) → stepped x ≡ stepped y → x ≡ y
same-step x y e = ap (λ r. elim r [ Ok z ↦ z | Err f ↦ x ]) e

pub batches-keep : BatchesKeep
batches-keep g a c s sl k here of opened there b ns under unmarked v e d steps =
    let done = commits g a.sessions a.tokens a.logs a.images c s sl k here of opened there b ns under unmarked in
    let now : Durable = committed g a.sessions a.tokens a.logs a.images c s sl k here of opened there b ns under unmarked in
    let same : now ≡ d = same-step now d (sym done.steps ∙ steps) in (
      subst (λ z. LogsAgree (behind_batch g z v c s b e sl (batch b k.log))) same (commit-logs g a.sessions a.tokens a.logs a.images c s sl k here of opened there b ns under unmarked v e),
      subst (λ z. ImagesAgree (behind_batch g z v c s b e sl (batch b k.log))) same (commit-images g a.sessions a.tokens a.logs a.images c s sl k here of opened there b ns under unmarked v e),
    )

pub ends-keep : EndsKeep
ends-keep g a c s sl here of opened v low mask = (
  ended g a.sessions a.tokens a.logs a.images c s sl here of opened v low mask,
  end-steps g a.sessions a.tokens a.logs a.images c s sl here of opened v low mask,
  end-logs g a.sessions a.tokens a.logs a.images c s sl here of opened v low mask,
  end-images g a.sessions a.tokens a.logs a.images c s sl here of opened v low mask,
)
