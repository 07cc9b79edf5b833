use Rattle.std.proofs.Common.{◌<◌, length, sym, ap, ◌∙◌, subst}
use Rattle.ec_servernode.specs.Callers.{refusal_in}
use Rattle.ec_servernode.proofs.Callers.{has_first, posted_all, posted_rest}
use Rattle.ec_servernode.proofs.caller.posted.Goals as goal

pub returns-in-None : goal.returns-in-None
returns-in-None c = posted_all c.args.sent.items (sym (c.refusal_in.ensures ∙ ap refusal_in c.as_slice.ensures.value) ∙ c.in-None.is)

pub remove-requires : goal.remove-requires
remove-requires c =
    subst (λ n. 0 < n) (sym (ap length c.as_slice.ensures.value) ∙ c.as_slice.ensures.len)
    (has_first c.args.sent.items c.in-Some.field-0 (sym (c.refusal_in.ensures ∙ ap refusal_in c.as_slice.ensures.value) ∙ c.in-Some.is))

pub returns-in-Some : goal.returns-in-Some
returns-in-Some c = c.remove.ensures.items ∙ posted_rest c.args.sent.items c.in-Some.field-0 (sym (c.refusal_in.ensures ∙ ap refusal_in c.as_slice.ensures.value) ∙ c.in-Some.is)
