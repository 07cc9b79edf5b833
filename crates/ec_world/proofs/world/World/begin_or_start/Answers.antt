use Rattle.std.proofs.Common.{◌≡◌, ◌∙◌, List, [], None, sym, ap}
use Rattle.ec_plain.specs.declared.call.Call.{Call}
use Rattle.ec_history.specs.declared.shown.Shown.{Shown}
use Rattle.ec_protocol.specs.declared.clerk.Out.{Out}
use Rattle.ec_protocol.specs.World.{Moving}
use Rattle.ec_world.specs.Calls.{call_begun}
use Rattle.ec_world.specs.Worlds.{view_of}
use Rattle.ec_world.proofs.ClerkSteps.{called, with_clerks}
use Rattle.ec_world.proofs.world.World.begin_or_start.Goals as goal

pub returns-in_ok-show_begun-in-Took-clause-ok : goal.returns-in_ok-show_begun-in-Took-clause-ok
returns-in_ok-show_begun-in-Took-clause-ok c =
    let w = view_of c.args.self.now in
    let took = rw c.in-Took.is at c.in_ok-no.ensures.ok in
    let before = c.new-before.result.items in
    let on : Call → List Out → List Shown → Moving = λ text before lines. call_begun c.args.clerk c.in-Took.no c.args.line text before c.in-Took.outs.items (record { world = with_clerks c.begin.new.clerks w; shown = lines; fault = None }) in
    called c.args.clerk c.args.line c.in-Took.no c.args.call c.in-Took.outs.items c.begin.new.clerks w took.0 took.1
    ∙ ap (λ (text : Call). on text [] []) (sym c.requires.same)
    ∙ ap (λ (outs : List Out). on c.args.text.now outs []) (sym c.new-before.ensures.items)
    ∙ ap (λ (lines : List Shown). on c.args.text.now before lines) (sym c.requires.piece)
    ∙ sym c.in_ok-show_begun-in-Took.ensures.ok
