use Rattle.std.proofs.Common.{◌∷◌, ◌++◌, ◌+◌, drop, ap, sym, ◌∙◌, append_assoc, None, Some, []}
use Rattle.ec_sessions.specs.OfTokens.Tokens.{Holder, holders}
use Rattle.ec_sessions.proofs.OfTokens.RowLemmas.{holders_left}
use Rattle.ec_sessions.proofs.tokens.rows.holders.Goals as goal
use Rattle.ec_sessions.proofs.tokens.rows.holders.Goals.{in-Some+in_ok-push, in_default}

pub loop-session-preserved : goal.loop-session-preserved
loop-session-preserved c =
    let left = holders_left c.items-session-items.result.now c.loop-session.session-index c.loop-session-item.result c.loop-session-test.true c.loop-session-item.is c.args.obj in
    let before = c.loop-session.list.items in
    let more = holders (drop (c.loop-session.session-index + 1) c.items-session-items.result.now) c.args.obj in
    elim c.match-get.branch [
      | in-Some+in_ok-push w ↦
          let token = w.in-Some.token.now in
          let holder : Holder = (c.loop-session-item.result.0, token.hold, token.number) in
          ap (λ l. l.items ++ more) w.list-is ∙ ap (λ l. l ++ more) w.in_ok-push.ensures.items ∙ append_assoc before (holder ∷ []) more ∙ ap (λ l. before ++ l) (sym (left (Some token) w.in-Some.ensures)) ∙ c.loop-session.invariant
      | in_default w ↦ ap (λ l. l.items ++ more) w.list-is ∙ ap (λ l. before ++ l) (sym (left None w.in_default.ensures)) ∙ c.loop-session.invariant
    ]
