use Rattle.std.proofs.Common.{refl, ◌++◌, sym, ap, subst, ◌∙◌, not, cond, Some}
use Rattle.ec_volume.specs.Update.{member}
use Rattle.ec_pending.specs.OfOverlay.Shown.{shown}
use Rattle.std.specs.List.{filter}
use Rattle.ec_history.specs.History.{meets}
use Rattle.ec_pending.specs.OfOwes.Rules.{IsNumbered, KeepsRules, BreaksRule, due_of}
use Rattle.ec_judge.specs.Asks.{asked_by_call}
use Rattle.ec_judge.specs.declared.carried.Start.{Start}
use Rattle.ec_judge.specs.Carried.{touches_in, is_start, touched_next, count_next}
use Rattle.ec_pending.specs.Pending.{issues_of, is_asked, rest}
use Rattle.ec_judge.proofs.AllStarts.{found-at}
use Rattle.ec_judge.proofs.Steps.{out-fits, out-same, own-at, starts-now, is-own, same-at, call-broken, call-legal, call-carried}
use Rattle.ec_judge.proofs.carried.Judge.judge_call.Goals as goal

pub returns-in-Some-2 : goal.returns-in-Some-2
returns-in-Some-2 c = λ l past turn h legal.
    let j = c.args.self.now in
    let by = c.args.issuer.now in
    let o = c.in_ok-outcome.outcome in
    let ss = c.index_of.new.self in
    let at = c.in_ok-at.ensures in
    let s = c.at-start.result.now in
    let same = out-same past by.place c.args.answered.now.call.now (shown j.firm.volume) c.in-Some.fresh o h.volume c.in-Some.ensures.some c.in_ok-outcome.ensures in
    let own = own-at past j h ss at.count at.owed at.pending by.clerk by.boot c.in_ok-at.at s at.found at.within c.at-start.ensures in
    call-broken c.args.most past by.place by.clerk by.boot c.args.answered.now.call.now c.args.answered.now.answer.now c.args.answered.now.op.now s.pending.0 s.owed o own.count own.owed same c.in-Some-2.rule
    (subst (λ n. BreaksRule n (due_of s.owed o c.args.answered.now.call.now) c.args.most o c.args.answered.now.answer.now c.args.answered.now.op.now c.in-Some-2.rule) c.count-count.ensures (rw c.in-Some-2.is at c.in_ok-rule.ensures))

pub note_at-requires-clause-next : goal.note_at-requires-clause-next
note_at-requires-clause-next c = λ t.
    let ss = c.index_of.new.self in
    let s = c.at-start.result.now in
    let o = c.in_ok-outcome.outcome in
    let rules = subst (λ n. KeepsRules n (due_of s.owed o c.args.answered.now.call.now) c.args.most o c.args.answered.now.answer.now c.args.answered.now.op.now) c.count-count.ensures (rw c.in_default-2.is at c.in_ok-rule.ensures) in
    subst (λ (x : Start). IsNumbered x.pending.0 c.args.answered.now.op.now) (sym (same-at ss c.in_ok-at.at t s c.in_ok-at.ensures.within ∙ sym c.at-start.ensures)) rules.number

pub keep-requires : goal.keep-requires
keep-requires c =
    let ready = c.requires.ready 0 in
    out-fits (shown c.args.self.now.firm.volume) c.args.answered.now.call.now c.in-Some.fresh c.args.issuer.now.place c.in_ok-outcome.outcome c.in-Some.ensures.some c.in_ok-outcome.ensures ready.formed ready.gone ready.bounded

pub returns : goal.returns
returns c = λ l past turn h legal.
    let j = c.args.self.now in
    let by = c.args.issuer.now in
    let cl = c.args.answered.now.call.now in
    let a = c.args.answered.now.answer.now in
    let op = c.args.answered.now.op.now in
    let o = c.in_ok-outcome.outcome in
    let ss = c.index_of.new.self in
    let at = c.in_ok-at.ensures in
    let s = c.at-start.result.now in
    let same = out-same past by.place cl (shown j.firm.volume) c.in-Some.fresh o h.volume c.in-Some.ensures.some c.in_ok-outcome.ensures in
    let own = own-at past j h ss at.count at.owed at.pending by.clerk by.boot c.in_ok-at.at s at.found at.within c.at-start.ensures in
    let fine = call-legal c.args.most past by.place by.clerk by.boot cl a op s.pending.0 s.owed o own.count own.owed same (subst (λ n. KeepsRules n (due_of s.owed o cl) c.args.most o a op) c.count-count.ensures (rw c.in_default-2.is at c.in_ok-rule.ensures)) in
    let noted = c.in_ok-note_at.ensures in
    let old = same-at ss c.in_ok-at.at noted.0 s at.within ∙ sym c.at-start.ensures in
    let mine = is-own by.clerk by.boot ss c.in_ok-at.at s at.found at.within c.at-start.ensures in (
      fine,
      call-carried c.args.most past by l c.args.begun cl a op j h legal _ ss c.in_ok-at.at s noted.0 c.wanted-asked.result o turn same fine (starts-now past j h ss at.count at.owed at.pending) at.found at.within own at.pending
          (found-at (is_start by.clerk by.boot) ss c.in_ok-at.at s at.found at.within c.at-start.ensures)
          (c.wanted-asked.ensures ∙ ap (λ os. asked_by_call os c.args.begun cl a) c.as_slice-touched.ensures)
          (noted.1.clerk ∙ ap (λ t. t.clerk) old ∙ mine.0) (noted.1.boot ∙ ap (λ t. t.boot) old ∙ mine.1) (noted.1.count ∙ ap (λ t. count_next t.pending.0 op) old) (noted.1.owed ∙ ap (λ t. filter (λ q. not (meets o cl q)) t.owed) old)
          (noted.1.pending ∙ ap (λ t. rest (is_asked c.wanted-asked.result) t.pending.1 ++ issues_of by.place op o.update) old) noted.2
          c.in_ok-keep.ensures.kept
          (λ x. c.in_ok-touch_all.ensures x ∙ ap (λ os. cond (member x os) (Some (touched_next by.clerk by.turn (touches_in j.touches x))) (touches_in j.touches x)) c.as_slice-touched.ensures)
          c.in_ok-keep.ensures.volume refl c.in_ok-keep.ensures.under
          (c.in_ok-keep.ensures.laid j.firm.count h.firm.within h.laid),
    )
