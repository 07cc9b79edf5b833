use Rattle.std.proofs.lemmas.Result.{on_ok_weaker}
use Rattle.ec_wire.specs.MsgLaws.{tokens_fit}
use Rattle.ec_wire.proofs.fields_written.put_token_rows.Goals as goal

pub returns-clause-fit : goal.returns-clause-fit
returns-clause-fit c = on_ok_weaker c.put_each_token.result (λ f. tokens_fit c.args.tokens.now f c.requires.held c.requires.rise) c.put_each_token.ensures.fit
