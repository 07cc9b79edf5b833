use Rattle.std.proofs.Common.{◌≡◌, [], refl, sym, subst, rules, append-nil, ◌∙◌}
use Rattle.ec_script.specs.Lines.{lines_of}
use Rattle.ec_legal.specs.Tried.{Stops}
use Rattle.ec_legal.proofs.Tried.{stops-more}
use Rattle.ec_check.specs.Verdicts.{IsVerdict}
use Rattle.ec_check.specs.Judged.{IsJudged}
use Rattle.ec_legal.proofs.OfTranscript.Halves.{if-ok}
use Rattle.ec_check.proofs.Pieces.{piece-fits, taken, taken-fault, behind-ss, read-all}
use Rattle.ec_check.proofs.judged.stopped.Goals as goal
use Rattle.ec_base.proofs.Results.{taken-ok}

pub take_in-requires : goal.take_in-requires
take_in-requires g c =
    let rest = c.args.rest.now in
    record { few = piece-fits rest rest [] c.args.shown.now.items c.read_parts-read.result c.requires.few (sym (append-nil rest)) c.read_parts-read.ensures.fault }

pub returns-in-Err-clause-fault : goal.returns-in-Err-clause-fault
returns-in-Err-clause-fault g c = λ bytes h.
    let rest = c.args.rest.now in
    taken-fault bytes rest rest [] c.args.shown.now.items c.read_parts-read.result c.in-Err.fault (sym (append-nil (lines_of rest))) h c.read_parts-read.ensures.fault (rw c.in-Err.is at c.take_in.ensures.fault)

pub conclude-requires-clause-stops : goal.conclude-requires-clause-stops
conclude-requires-clause-stops g c =
    let ss = c.args.shown.now.items in
    let same : c.deref.result.now ≡ c.take_in.new.lines.items = search rules in
    let all = taken-ok c.take_in.result c.in_default.not-Err c.take_in.ensures.all in
    let read = taken-ok c.take_in.result c.in_default.not-Err c.take_in.ensures.read in
    let more = behind-ss (λ v. v.items) ss c.take_in.new.lines.items c.read_parts-read.result all read in
    let most = c.requires.stops.0 in
    (most, subst (λ ts. Stops most c.args.trial.now.ahead ts c.args.stop) (sym (same ∙ more.1)) (stops-more most c.args.trial.now.ahead ss more.0 c.args.stop c.requires.stops.1))

pub returns-clause-judged : goal.returns-clause-judged
returns-clause-judged g c = λ bytes most stopped h.
    let rest = c.args.rest.now in
    let ss = c.args.shown.now.items in
    let same : c.deref.result.now ≡ c.take_in.new.lines.items = search rules in
    let all = taken-ok c.take_in.result c.in_default.not-Err c.take_in.ensures.all in
    let read = taken-ok c.take_in.result c.in_default.not-Err c.take_in.ensures.read in
    let more = behind-ss (λ v. v.items) ss c.take_in.new.lines.items c.read_parts-read.result all read in
    let stops = subst (λ ts. Stops most c.args.trial.now.ahead ts c.args.stop) (sym (same ∙ more.1)) (stops-more most c.args.trial.now.ahead ss more.0 c.args.stop stopped) in
    let whole = taken (λ v. v.items) bytes rest rest [] ss c.take_in.new.lines.items c.read_parts-read.result (sym (append-nil (lines_of rest))) (sym (append-nil rest)) h c.read_parts-read.ensures.read all read in
    let lines = read-all bytes [] c.take_in.new.lines.items refl whole in
    if-ok _ (IsJudged most bytes) c.conclude.result
    (λ checked v. record { shown = c.take_in.new.lines.items; lines = lines; verdict = subst (λ ts. IsVerdict most ts checked) same (v most stops) })
    c.conclude.ensures.verdict
