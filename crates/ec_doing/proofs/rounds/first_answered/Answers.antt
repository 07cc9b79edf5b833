use Rattle.std.proofs.Common.{◌≡◌, ◌∙◌, sym, ap, true, List, take, length, slice_get}
use Rattle.std.proofs.lemmas.Bool.{eqb-true}
use Rattle.ec_protocol.specs.declared.clerk.Waiting.{Waiting}
use Rattle.ec_protocol.specs.Clerk as clerk
use Rattle.ec_doing.specs.Seen.{doing_of, tried}
use Rattle.ec_doing.specs.Resting.{is_plain_at}
use Rattle.ec_doing.proofs.Steps.{each_waits}
use Rattle.ec_doing.proofs.Rests.{skipped, rest_more, rest_told}
use Rattle.ec_doing.proofs.rounds.first_answered.Goals as goal
use Rattle.ec_doing.proofs.rounds.first_answered.Goals.{then-rest-2, else-rest-2}

pub calls-init : goal.calls-init
calls-init c = record {
  went = λ ws before. skipped ws before c.args.waiting.now c.args.front c.args.doing.now c.requires;
  rest = λ r. c.requires;
}

pub returns-then-rest-clause-rest : goal.returns-then-rest-clause-rest
returns-then-rest-clause-rest c = λ p.
    let e = c.try_call.new.self in
    let answered = λ (ws : List Waiting). c.in_ok-try_call.ensures ws ∙ ap (λ t. tried t (doing_of ws e)) c.in-Answered.is in
    let is_plain : is_plain_at (slice_get e.outs.items (length c.calls.doing.outs.items)) ≡ true =
    ap (λ n. is_plain_at (slice_get e.outs.items n)) (sym c.count-sent.ensures) ∙ ap (λ os. is_plain_at (slice_get os c.count-sent.result)) (sym c.deref.ensures.value) ∙ sym c.is_plain_at-rest.ensures ∙ p in
    rest_told (take c.calls.place c.args.waiting.now) c.index-waiting-place.result c.calls.doing e answered is_plain (c.calls.invariant.rest c.if-rest.true)

pub calls-preserved : goal.calls-preserved
calls-preserved c =
    let calls = c.args.waiting.now in
    let w = c.index-waiting-place.result in
    let d = c.calls.doing in
    let e = c.try_call.new.self in
    let waits = λ (ws : List Waiting). c.in_ok-try_call.ensures ws ∙ ap (λ t. tried t (doing_of ws e)) c.in-Waits.is in
    record {
      went = λ ws before. each_waits ws before calls c.calls.place w d e (clerk.try_each before calls (doing_of ws c.args.doing.now)) c.calls-test.true c.index-waiting-place.is (waits ws) (c.calls.invariant.went ws before);
      rest = λ r. elim c.if-rest-2.branch [
        | then-rest-2 b ↦
            let rests : c.calls.rest ≡ true = assumption (b) in
            let none : length e.outs.items ≡ length d.outs.items = sym b.count.ensures ∙ eqb-true _ _ (sym b.rest-is ∙ r) ∙ c.count-sent.ensures in
            rest_more calls c.calls.place w d e c.calls-test.true c.index-waiting-place.is waits none (c.calls.invariant.rest rests)
        | else-rest-2 b ↦ absurd (cc (sym b.rest-is ∙ r))
      ];
    }
