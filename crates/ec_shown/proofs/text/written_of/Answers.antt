use Rattle.std.proofs.Common.{sym, ap, ◌∙◌}
use Rattle.ec_words.specs.Spelling.{led_by}
use Rattle.ec_words.proofs.Escapes.{behind_text, one_byte}
use Rattle.ec_shown.specs.Spelling.{written_of}
use Rattle.ec_shown.proofs.text.written_of.Goals as goal

pub bytes-preserved : goal.bytes-preserved
bytes-preserved c =
    let rest = written_of c.next_byte-byte.result.1.now in
    c.bytes.invariant
    ∙ ap (behind_text c.bytes.text.items) (c.next_byte-byte.ensures.text ∙ ap (λ b. led_by b rest) c.in-Some.is)
    ∙ one_byte c.bytes.text.items c.in-Some.byte rest
    ∙ ap (λ t. behind_text t rest) (sym c.in_ok-push.ensures.items)
