use Rattle.std.proofs.Common.{Ok, Err, sym, ap, ◌∙◌, subst, rules}
use Rattle.ec_lock.specs.PassViews.{front}
use Rattle.ec_wire.specs.Codes.{said}
use Rattle.ec_wire.specs.CodeAnswers.{ReadsMessage}
use Rattle.ec_servernode.specs.declared.fault.ServeFault.{ServeFault}
use Rattle.ec_servernode.specs.declared.shared.Turned.{Turned}
use Rattle.ec_servernode.specs.TurnSteps.{HearFails, TakesMessage, Looked}
use Rattle.ec_servernode.proofs.Served.{refused}
use Rattle.ec_servernode.proofs.shared.SharedServer.hear.Goals as goal

pub take-taken-requires-clause-said : goal.take-taken-requires-clause-said
take-taken-requires-clause-said g c = ap (λ b. said b.items) c.of.ensures ∙ (ap said (sym c.deref.ensures.value) ∙ c.in-Ok.ensures.exact)

pub returns-in_err-told-in-Ok-clause-hears : goal.returns-in_err-told-in-Ok-clause-hears
returns-in_err-told-in-Ok-clause-hears g c =
    let b = subst (λ b. HearFails c.args.pass.now.pass.number b.items (front c.args.pass.now.pass) (front c.take-taken.new.pass.pass) c.in_err-told-in-Ok.field-0.0) c.of.ensures c.in_err-told-in-Ok.ensures.takes in
    search (rules, b)

pub returns-in_ok-told-in-Ok-clause-hears : goal.returns-in_ok-told-in-Ok-clause-hears
returns-in_ok-told-in-Ok-clause-hears g c =
    subst (λ b. TakesMessage c.args.pass.now.pass.number b.items (front c.args.pass.now.pass) (front c.take-taken.new.pass.pass) (Ok c.in_ok-told-in-Ok.told)) c.of.ensures c.in_ok-told-in-Ok.ensures.takes

pub returns-in-Err-clause-hears : goal.returns-in-Err-clause-hears
returns-in-Err-clause-hears g c =
    let pass = c.args.pass.now.pass in
    let old = front pass in
    let new = front c.unless_down.new.pass.pass in
    refused pass.number c.args.body.now.items c.in-Err.fault old new c.unless_down.result (subst (ReadsMessage (Err c.in-Err.fault)) (ap said c.deref.ensures.value) c.in-Err.ensures.exact)
    (subst (λ (f : ServeFault). Looked {A = Turned} pass.number old new (Err f) c.unless_down.result) c.refused.ensures c.unless_down.ensures.looked)
