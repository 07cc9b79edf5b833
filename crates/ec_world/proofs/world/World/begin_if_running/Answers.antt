use Rattle.std.proofs.Common.{◌∙◌, ℕ, List, [], None, sym, ap}
use Rattle.ec_base.specs.Tables.{Table}
use Rattle.ec_plain.specs.declared.call.Call.{Call}
use Rattle.ec_history.specs.declared.shown.Shown.{Shown}
use Rattle.ec_protocol.specs.World.{Moving, add_call, come_out, moving}
use Rattle.ec_world.specs.Worlds.{view_of}
use Rattle.ec_world.proofs.ClerkSteps.{with_clerks}
use Rattle.ec_world.proofs.Leased.{resumed}
use Rattle.ec_world.proofs.world.World.begin_if_running.Goals as goal

pub returns-in_ok-come_out-in-Took-clause-ok : goal.returns-in_ok-come_out-in-Took-clause-ok
returns-in_ok-come_out-in-Took-clause-ok c =
    let w = view_of c.args.self.now in
    let outs = c.in-Took.outs.items in
    let took = rw c.in-Took.is at c.in_ok-no.ensures.ok in
    let begun : Call → Moving = λ text. come_out c.args.clerk outs (moving (add_call c.args.clerk c.in-Took.no c.args.line text (with_clerks c.begin.new.clerks w))) in
    let on : Table (Table (ℕ × Call)) → List Shown → Moving = λ calls lines. come_out c.args.clerk outs (record { world = record (with_clerks c.begin.new.clerks w) { calls = calls }; shown = lines; fault = None }) in
    resumed c.args.clerk c.args.line c.in-Took.no c.args.call outs c.begin.new.clerks w took.0 took.1
    ∙ ap begun (sym c.requires.same)
    ∙ ap (λ (calls : Table (Table (ℕ × Call))). on calls []) (sym c.in_ok-add_copy-in-Took.ensures)
    ∙ ap (λ (lines : List Shown). on c.add_copy.new.calls lines) (sym c.requires.piece)
    ∙ sym c.in_ok-come_out-in-Took.ensures.ok
