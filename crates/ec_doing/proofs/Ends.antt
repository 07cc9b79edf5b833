-- The end of a session, and an update that waits for room.
use Rattle.std.proofs.Common.{◌≡◌, ◌<◌, ◌+◌, sym, ap, ◌∙◌, ℕ, Bool, true, false, List}
use Rattle.std.specs.Prelude.{nat_le}
use Rattle.std.proofs.lemmas.Bool.{lt-leb}
use Rattle.ec_base.specs.Tables.{keys}
use Rattle.ec_base.specs.declared.counter.Counter.TheVariants as counter
use Rattle.ec_sessions.specs.Limits.{last_round}
use Rattle.ec_sessions.specs.declared.window.Window.{Window}
use Rattle.ec_volume.specs.declared.update.Update.{Update}
use Rattle.ec_plain.specs.declared.call.Outcome.{Outcome}
use Rattle.ec_log.specs.Log as logs
use Rattle.ec_log.specs.declared.state.Asked.TheVariants.{All}
use Rattle.ec_log.specs.declared.state.LogState.{LogState}
use Rattle.ec_cache.specs.OfReport.Report.{Owed, owe}
use Rattle.ec_protocol.specs.declared.clerk.Out.TheVariants as out
use Rattle.ec_protocol.specs.declared.clerk.Waiting.{Waiting}
use Rattle.ec_protocol.specs.Clerk as clerk
use Rattle.ec_doing.specs.declared.doing.Doing.{Doing}
use Rattle.ec_doing.specs.Seen.{doing_of}
use Rattle.ec_doing.proofs.Steps.{when_false}

-- the end of a session
pub session_ended : (ws : List Waiting) (d : Doing) (w : Window) (ns : List ℕ) (l : LogState) (owed : Owed) (e f new : clerk.Doing) → d.age.round < last_round → ns ≡ keys (logs.lost w d.ledger.log) → l ≡ logs.end d.ledger.log → owed ≡ owe (clerk.with_operands (logs.lost w d.ledger.log)) d.ledger.owed
    → clerk.with_clerk clerk.no_session (clerk.with_clerk (λ k. record k { log = l; owed = owed; age = record (k.age) { round = k.age.round + 1 } }) (doing_of ws d)) ≡ e → clerk.emit (out.Told ns) e ≡ f → clerk.hello f ≡ new → clerk.take_ended w (doing_of ws d) ≡ new
session_ended ws d w ns l owed e f new room at_ns at_l at_owed went told h =
    let left = λ (m : LogState) (o : Owed). clerk.with_clerk clerk.no_session (clerk.with_clerk (λ k. record k { log = m; owed = o; age = record (k.age) { round = k.age.round + 1 } }) (doing_of ws d)) in
    let greeted = λ (xs : List ℕ) (x : clerk.Doing). clerk.hello (clerk.emit (out.Told xs) x) in
    let over = owe (clerk.with_operands (logs.lost w d.ledger.log)) d.ledger.owed in
    when_false (nat_le last_round d.age.round) (clerk.spend counter.Round (doing_of ws d)) (greeted (keys (logs.lost w d.ledger.log)) (left (logs.end d.ledger.log) over)) new (lt-leb last_round d.age.round room)
    (ap (λ xs. greeted xs (left (logs.end d.ledger.log) over)) (sym at_ns) ∙ ap (λ m. greeted ns (left m over)) (sym at_l) ∙ ap (λ o. greeted ns (left l o)) (sym at_owed) ∙ ap (greeted ns) went ∙ ap clerk.hello told ∙ h)

-- where too many operations are undurable, all are asked for
pub waits_for_room : (ws : List Waiting) (d : Doing) (w : Waiting) (o : Outcome) (u : Update) (new : clerk.Doing) → clerk.suits u d.cache ≡ true → logs.is_full d.ledger.log ≡ true → clerk.ask_for All (doing_of ws d) ≡ new → clerk.issue_if_room w o u (doing_of ws d) ≡ clerk.Waits new
waits_for_room ws d w o u new fits full h =
    let inner : Bool → clerk.Tried = λ b. elim b [ true ↦ clerk.Waits (clerk.ask_for All (doing_of ws d)) | false ↦ clerk.issue w o u (doing_of ws d) ] in
    let outer : Bool → clerk.Tried = λ b. elim b [ false ↦ clerk.Waits (doing_of ws d) | true ↦ inner (logs.is_full d.ledger.log) ] in
    ap outer fits ∙ ap inner full ∙ ap clerk.Waits h
