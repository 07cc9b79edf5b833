use Rattle.ec_lawful.proofs.ForWhole.Frames.{called-stands, crashed-stands, forgotten-stands, nothing-stands, settled-stands, stopped-stands}
use Rattle.ec_lawful.proofs.ForWhole.Serving.{served-stands}
use Rattle.ec_lawful.proofs.ForWhole.Standing.{done-stands}
use Rattle.ec_lawful.proofs.steps.worlds_stand_behind_events.Goals as goal

pub returns-clause-served : goal.returns-clause-served
returns-clause-served z w g st all v up t γ u unspent = served-stands w g st all v up t γ u unspent

pub returns-clause-done : goal.returns-clause-done
returns-clause-done z m g st c b run d γ unspent shown = done-stands m g st c b run d γ unspent shown

pub returns-clause-called : goal.returns-clause-called
returns-clause-called z w g st c n l cl os = called-stands w g st c n l cl os

pub returns-clause-crashed : goal.returns-clause-crashed
returns-clause-crashed z w g st c k q = crashed-stands w g st c k q

pub returns-clause-stopped : goal.returns-clause-stopped
returns-clause-stopped z w g st v up = stopped-stands w g st v up

pub returns-clause-nothing : goal.returns-clause-nothing
returns-clause-nothing z w g st = nothing-stands w g st

pub returns-clause-settled : goal.returns-clause-settled
returns-clause-settled z w g st n = settled-stands w g st n

pub returns-clause-forgotten : goal.returns-clause-forgotten
returns-clause-forgotten z w g st = forgotten-stands w g st
