use Rattle.std.proofs.Common.{ap, ◌∙◌}
use Rattle.ec_words.specs.RowsLeft.{column_left}
use Rattle.ec_script.specs.Last.{last_len}
use Rattle.ec_script.proofs.Lasts.{last_placed}
use Rattle.ec_script.proofs.place.last_column.Goals as goal

pub returns : goal.returns
returns c = c.column_left.ensures ∙ ap (λ n. column_left c.args.line.now n) (c.last_len.ensures ∙ ap last_len c.of.ensures) ∙ last_placed c.args.line.now
