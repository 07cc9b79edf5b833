use Rattle.std.proofs.Common.{◌≡◌, ◌<◌, length, refl, ◌++◌, ap, sym, subst, ◌∙◌, not}
use Rattle.std.specs.List.{filter}
use Rattle.ec_volume.specs.Volume.{images, after, Fits, formatted}
use Rattle.ec_pending.specs.OfOverlay.Shown.{shown}
use Rattle.ec_history.specs.History.{updates, is_one_of, pairs_of}
use Rattle.ec_judge.specs.Carried.{touches_in, ops_of, is_among, IsFirm, AreLaid, is_start, pending_of, KeepsMarks, BreaksMarks}
use Rattle.ec_pending.specs.Pending.{numbers_in}
use Rattle.ec_judge.proofs.AllStarts.{found-at}
use Rattle.ec_judge.proofs.Steps.{own-at, starts-now, is-own, same-at, loss-broken, loss-unfit, loss-lawful, loss-carried}
use Rattle.ec_judge.proofs.carried.Judge.judge_lost.Goals as goal

pub returns-in-Some : goal.returns-in-Some
returns-in-Some c = λ most turn p past at-turn h legal.
    let ss = c.index_of.new.self in
    let at = c.in_ok-at.ensures in
    let marks = rw c.in-Some.is at c.in_ok-broken.ensures.found in
    let s = marks.0 in
    let found = found-at (is_start c.args.named.now.clerk c.args.named.now.boot) ss c.in_ok-at.at s at.found at.within marks.1 in
    let is = ap numbers_in (ap pending_of (sym found) ∙ at.pending c.args.named.now.clerk c.args.named.now.boot) in
    loss-broken most past p c.args.named.now.clerk c.args.named.now.boot c.args.named.now.ops.now c.args.self.now h (numbers_in s.pending.1) is c.in-Some.rule
    (subst (λ ks. BreaksMarks c.args.named.now.clerk c.args.named.now.boot c.args.named.now.ops.now (numbers_in s.pending.1) (touches_in c.args.self.now.touches) ks c.in-Some.rule) c.deref-2.ensures.value marks.2)

pub returns-then-not-branch : goal.returns-then-not-branch
returns-then-not-branch c = λ most turn p past at-turn h legal.
    let ss = c.index_of.new.self in
    let at = c.in_ok-at.ensures in
    let marks = rw c.in_default.is at c.in_ok-broken.ensures.found in
    let s = marks.0 in
    let found = found-at (is_start c.args.named.now.clerk c.args.named.now.boot) ss c.in_ok-at.at s at.found at.within marks.1 in
    let is = ap numbers_in (ap pending_of (sym found) ∙ at.pending c.args.named.now.clerk c.args.named.now.boot) in
    loss-unfit most past p c.args.named.now.clerk c.args.named.now.boot c.args.named.now.ops.now c.args.self.now h (numbers_in s.pending.1) is
    (subst (KeepsMarks c.args.named.now.clerk c.args.named.now.boot c.args.named.now.ops.now (numbers_in s.pending.1) (touches_in c.args.self.now.touches)) c.deref-2.ensures.value marks.2)
    (subst (λ ks. ¬ (Fits formatted (updates (filter (λ k. not (is_one_of c.args.named.now.clerk c.args.named.now.boot c.args.named.now.ops.now k)) (ops_of ks))))) c.deref-3.ensures.value (rw c.if-not-branch.true at c.in_ok-leave.ensures))

pub returns : goal.returns
returns c = λ most turn p past at-turn h legal.
    let j = c.args.self.now in
    let ns = c.args.named.now.ops.now in
    let ss = c.index_of.new.self in
    let at = c.in_ok-at.ensures in
    let known = rw c.in_default.is at c.in_ok-broken.ensures.found in
    let s = known.0 in
    let found-start = found-at (is_start c.args.named.now.clerk c.args.named.now.boot) ss c.in_ok-at.at s at.found at.within known.1 in
    let is = ap numbers_in (ap pending_of (sym found-start) ∙ at.pending c.args.named.now.clerk c.args.named.now.boot) in
    let owing = rw c.in_ok-broken.ensures.same at c.in_ok-owe_at.ensures in
    let old = same-at ss c.in_ok-at.at owing.0 s at.within ∙ sym known.1 in
    let marks = subst (KeepsMarks c.args.named.now.clerk c.args.named.now.boot ns (numbers_in s.pending.1) (touches_in j.touches)) c.deref-2.ensures.value known.2 in
    let left = rw c.if-not-branch.false at c.in_ok-leave.ensures in
    let mine = is-own c.args.named.now.clerk c.args.named.now.boot ss c.in_ok-at.at s at.found at.within known.1 in (
      loss-lawful most past p c.args.named.now.clerk c.args.named.now.boot ns j h (numbers_in s.pending.1) is marks (subst (λ ks. Fits formatted (updates (filter (λ k. not (is_one_of c.args.named.now.clerk c.args.named.now.boot ns k)) (ops_of ks)))) c.deref-3.ensures.value left.fits),
      loss-carried most past p c.args.named.now.clerk c.args.named.now.boot ns j h (numbers_in s.pending.1) is _ ss c.in_ok-at.at s owing.0 (starts-now past j h ss at.count at.owed at.pending) at.found at.within
          (own-at past j h ss at.count at.owed at.pending c.args.named.now.clerk c.args.named.now.boot c.in_ok-at.at s at.found at.within known.1)
          at.pending found-start
          (owing.1.clerk ∙ ap (λ t. t.clerk) old ∙ mine.0) (owing.1.boot ∙ ap (λ t. t.boot) old ∙ mine.1) (owing.1.count ∙ ap (λ t. t.pending.0) old)
          (owing.1.owed ∙ ap (λ t. t.owed ++ pairs_of (filter (is_one_of c.args.named.now.clerk c.args.named.now.boot ns) (ops_of c.deref-4.result.now))) old ∙ ap (λ ks. s.owed ++ pairs_of (filter (is_one_of c.args.named.now.clerk c.args.named.now.boot ns) (ops_of ks))) c.deref-4.ensures.value)
          (owing.1.pending ∙ ap (λ t. t.pending.1) old) owing.2
          c.in_ok-forget.ensures
          refl
          (λ x. subst (λ ks. shown c.leave.new.firm.volume x ≡ after formatted (updates (filter (λ k. not (is_one_of c.args.named.now.clerk c.args.named.now.boot ns k)) (ops_of ks))) x) c.deref-3.ensures.value (left.volume x))
          (subst (λ ks. IsFirm (filter (λ k. not (is_among c.args.named.now.clerk c.args.named.now.boot ns k)) ks) c.leave.new.firm.count (images c.leave.new.firm.volume.under)) c.deref-3.ensures.value left.firm)
          (subst (λ ks. AreLaid (filter (λ k. not (is_among c.args.named.now.clerk c.args.named.now.boot ns k)) ks) c.leave.new.firm.count c.leave.new.firm.volume) c.deref-3.ensures.value left.laid),
    )

pub owe_at-requires-clause-at : goal.owe_at-requires-clause-at
owe_at-requires-clause-at c = subst (λ ss. c.in_ok-at.at < length ss) (sym c.in_ok-broken.ensures.same) c.in_ok-at.ensures.within
