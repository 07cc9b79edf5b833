use Rattle.ec_machine_laws.proofs.Stepping.{back-alone, back-waits, back-granted}
use Rattle.ec_machine_laws.proofs.steps.backs_let_wants_be_granted.Goals as goal

pub returns-clause-alone : goal.returns-clause-alone
returns-clause-alone c = λ c ss e x n to sl s w none fits. back-alone c ss e x n to sl s w fits none

pub returns-clause-waits : goal.returns-clause-waits
returns-clause-waits c = λ c ss e x n to sl s w gs p work one all fits told part clear. back-waits c ss e x n to sl s work fits w one all gs p told part clear

pub returns-clause-granted : goal.returns-clause-granted
returns-clause-granted c = λ c ss e x n to sl s w work one all fits clear. back-granted c ss e x n to sl s work fits w one all clear
