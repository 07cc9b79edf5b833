use Rattle.std.proofs.Common.{rules, ◌∙◌, sym}
use Rattle.std.specs.Prelude.{◌≡◌, true}
use Rattle.ec_half.specs.Contents.{rested-same}
use Rattle.ec_mirror.specs.Moments.{dead-len}
use Rattle.ec_mirror.proofs.Showing.{len-is}
use Rattle.ec_mirror.proofs.parts.Parts.len.Goals as goal

pub returns-then-next_len-clause-rests : goal.returns-then-next_len-clause-rests
returns-then-next_len-clause-rests g c told = rested-same _

pub returns-then-self-clause-rests : goal.returns-then-self-clause-rests
returns-then-self-clause-rests g c told = rested-same _

pub returns-then-self-clause-len : goal.returns-then-self-clause-len
returns-then-self-clause-len g c told n is =
    let dead : c.args.self.now.is_dead ≡ true = search rules in
    len-is n _ is ∙ c.args.self.now.dead_len dead told ∙ sym (dead-len g.A.Disk.view g.B.Disk.view c.args.self.now.present (c.args.self.now.held dead))
