use Rattle.std.proofs.Common.{sym, ap, ◌∙◌}
use Rattle.std.specs.Prelude.{Option, ℕ}
use Rattle.ec_protocol.specs.declared.world.Event.TheVariants as of_world
use Rattle.ec_script.specs.declared.line.Line.{Line}
use Rattle.ec_lease_machine.specs.Drill.{drill_line, on_message}
use Rattle.ec_lease.specs.Worlds.{leased}
use Rattle.ec_lease.specs.OfDrill.Script.{machine_line}
use Rattle.ec_lease.proofs.drill.event.event_of_drill.Goals as goal

pub returns-in-Push-clause-happens : goal.returns-in-Push-clause-happens
returns-in-Push-clause-happens c = λ fate. ap (λ (l : Line). drill_line fate c.args.number (machine_line l) (leased c.args.world.now)) c.in-Push.is

pub returns-in-Cut-clause-happens : goal.returns-in-Cut-clause-happens
returns-in-Cut-clause-happens c = λ fate. ap (λ (l : Line). drill_line fate c.args.number (machine_line l) (leased c.args.world.now)) c.in-Cut.is

pub returns-in-Uncut-clause-happens : goal.returns-in-Uncut-clause-happens
returns-in-Uncut-clause-happens c = λ fate. ap (λ (l : Line). drill_line fate c.args.number (machine_line l) (leased c.args.world.now)) c.in-Uncut.is

pub returns-in-Resend-clause-happens : goal.returns-in-Resend-clause-happens
returns-in-Resend-clause-happens c = λ fate. ap (λ (l : Line). drill_line fate c.args.number (machine_line l) (leased c.args.world.now)) c.in-Resend.is

pub returns-in-Crash-clause-happens : goal.returns-in-Crash-clause-happens
returns-in-Crash-clause-happens c = λ fate. ap (λ (l : Line). drill_line fate c.args.number (machine_line l) (leased c.args.world.now)) c.in-Crash.is

pub returns-in-Stop-clause-happens : goal.returns-in-Stop-clause-happens
returns-in-Stop-clause-happens c = λ fate. ap (λ (l : Line). drill_line fate c.args.number (machine_line l) (leased c.args.world.now)) c.in-Stop.is

pub returns-in-Arm-clause-happens : goal.returns-in-Arm-clause-happens
returns-in-Arm-clause-happens c = λ fate. ap (λ (l : Line). drill_line fate c.args.number (machine_line l) (leased c.args.world.now)) c.in-Arm.is

pub returns-in-Some-clause-happens : goal.returns-in-Some-clause-happens
returns-in-Some-clause-happens c = λ fate.
    let x = leased c.args.world.now in
    ap (λ (l : Line). drill_line fate c.args.number (machine_line l) x) c.in-Drop.is ∙ ap (λ (o : Option ℕ). on_message fate of_world.Drop o x) (sym c.find.ensures ∙ c.in-Some.is)

pub returns-in-Some-find-clause-happens : goal.returns-in-Some-find-clause-happens
returns-in-Some-find-clause-happens c = λ fate.
    let x = leased c.args.world.now in
    ap (λ (l : Line). drill_line fate c.args.number (machine_line l) x) c.in-Repeat.is ∙ ap (λ (o : Option ℕ). on_message fate of_world.Repeat o x) (sym c.find-in-Repeat.ensures ∙ c.in-Some-find.is)
