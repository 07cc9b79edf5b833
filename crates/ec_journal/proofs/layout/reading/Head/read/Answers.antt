use Rattle.std.proofs.Common.{◌≡◌, ◌∙◌, Bool, true, false}
use Rattle.std.proofs.lemmas.Bool.Decides.{Decides-eqb}
use Rattle.std.proofs.lemmas.Slice.Eq.{slice_eq-Decides}
use Rattle.ec_disk.specs.Disk.{part}
use Rattle.ec_journal.specs.OfLayout.Head.{first_word, form}
use Rattle.ec_journal.specs.OfLayout.Reading.{number_of_four}
use Rattle.ec_journal.proofs.layout.reading.Head.read.Goals as goal

false_not : (b : Bool) → b ≡ false → b ≡ true → ⊥
false_not true e f = cc
false_not false e f = cc

pub returns : goal.returns
returns c =
    let word = slice_eq-Decides Decides-eqb (part c.args.bytes.now 0 8) first_word c.eq.result c.eq.ensures in
    let back = slice_eq-Decides Decides-eqb (part c.args.bytes.now 13 3) form c.eq-2.result c.eq-2.ensures in
    record {
      word = word.0;
      other_word = λ is not. false_not c.eq.result is (word.1 not);
      most = c.from_be_bytes.ensures ∙ number_of_four c.args.bytes.now 8;
      side_is = c.picked_by.ensures;
      form_is = back.0;
      other_form = λ is not. false_not c.eq-2.result is (back.1 not);
    }
