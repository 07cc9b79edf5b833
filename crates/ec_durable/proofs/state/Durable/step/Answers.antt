use Rattle.ec_durable.specs.declared.record.Record.TheVariants.{Batch, Open, End, Ids}
use Rattle.ec_durable.proofs.StepLemmas.{kept_below}
use Rattle.ec_durable.proofs.state.Durable.step.Goals as goal

pub returns-in-Batch-clause-below : goal.returns-in-Batch-clause-below
returns-in-Batch-clause-below c = kept_below c.batch.result (Batch c.in-Batch.clerk c.in-Batch.session c.in-Batch.batch c.as_slice.result.now) c.args.self.now c.batch.new.self c.batch.ensures.ok c.batch.ensures.err c.requires.below

pub returns-in-Open-clause-below : goal.returns-in-Open-clause-below
returns-in-Open-clause-below c = kept_below c.open.result (Open c.in-Open.clerk c.in-Open.age c.in-Open.session) c.args.self.now c.open.new.self c.open.ensures.ok c.open.ensures.err c.requires.below

pub returns-in-End-clause-below : goal.returns-in-End-clause-below
returns-in-End-clause-below c = kept_below c.end.result (End c.in-End.clerk c.in-End.session) c.args.self.now c.end.new.self c.end.ensures.ok c.end.ensures.err c.requires.below

pub returns-in-Ids-clause-below : goal.returns-in-Ids-clause-below
returns-in-Ids-clause-below c = kept_below c.grant_ids.result (Ids c.in-Ids.clerk c.in-Ids.session c.in-Ids.got c.in-Ids.first) c.args.self.now c.grant_ids.new.self c.grant_ids.ensures.ok c.grant_ids.ensures.err c.requires.below
