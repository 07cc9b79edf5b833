use Rattle.std.proofs.Common.{◌≡◌, ◌∙◌, ◌+◌, ℕ, List, [], None, sym, ap}
use Rattle.ec_base.specs.Tables.{Table}
use Rattle.ec_plain.specs.declared.call.Call.{Call}
use Rattle.ec_history.specs.declared.shown.Shown.{Shown}
use Rattle.ec_protocol.specs.World.{Moving}
use Rattle.ec_world.specs.Calls.{call_begun}
use Rattle.ec_world.specs.Worlds.{view_of}
use Rattle.ec_world.proofs.ClerkSteps.{started}
use Rattle.ec_world.proofs.world.World.start_and_call.Goals as goal

pub returns-clause-ok : goal.returns-clause-ok
returns-clause-ok c =
    let w = view_of c.args.self.now in
    let on : Table ℕ → Call → List Shown → Moving = λ boots text lines.
    call_begun c.args.clerk c.in_ok-no.no c.args.line text c.in_ok-no.before.items c.in_ok-no.outs.items (record { world = record w { clerks = c.start.new.clerks; boots = boots }; shown = lines; fault = None }) in
    started c.args.clerk c.args.line c.in-Some.boot c.in_ok-no.no c.args.call c.in_ok-no.before.items c.in_ok-no.outs.items c.start.new.clerks w
    (c.in-Some.ensures.0 ∙ ap (λ (n : ℕ). n + 1) c.boot.ensures) c.in_ok-no.ensures.ok
    ∙ ap (λ (boots : Table ℕ). on boots c.args.call []) (sym c.in_ok-insert.ensures.ok)
    ∙ ap (λ (text : Call). on c.insert.new.self text []) (sym c.requires.same)
    ∙ ap (λ (lines : List Shown). on c.insert.new.self c.args.text.now lines) (sym c.requires.piece)
    ∙ sym c.in_ok-show_begun.ensures.ok
