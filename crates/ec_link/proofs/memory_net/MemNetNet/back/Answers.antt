use Rattle.std.proofs.Common.{◌+◌, ap, ◌∙◌}
use Rattle.ec_link.specs.Happenings.{faults_in, total}
use Rattle.ec_link.specs.HappeningBodies.{closes_in}
use Rattle.ec_link.specs.NetAnswers.{is_bad}
use Rattle.ec_link.proofs.Pushed.{total-push}
use Rattle.ec_link.proofs.memory_net.MemNetNet.back.Goals as goal

pub returns-clause-bad : goal.returns-clause-bad
returns-clause-bad c =
    let before = c.args.self.now.came_back.items in
    ap (total (λ link. is_bad (faults_in link.value.happened) (closes_in link.value.happened))) c.and-self.ensures
    ∙ (total-push (λ link. is_bad (faults_in link.value.happened) (closes_in link.value.happened)) before c.of.result
    ∙ ap (λ link. total (λ l. is_bad (faults_in l.value.happened) (closes_in l.value.happened)) before + is_bad (faults_in link.happened) (closes_in link.happened)) c.of.ensures)
