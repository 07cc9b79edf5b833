use Rattle.std.proofs.Common.{ap, ◌∙◌, not, filter, rules}
use Rattle.std.proofs.lemmas.Fn.{filter_same}
use Rattle.ec_volume.specs.Update.{member}
use Rattle.ec_watch.proofs.watch.make_durable.Goals as goal

pub returns : goal.returns
returns c =
    c.of-2.ensures
    ∙ filter_same _ (λ n. not (member n c.in_ok-known.known)) _ (λ x b f' k. search rules) _ _ c.retain.ensures.filtered
    ∙ ap (λ ns. filter (λ n. not (member n ns)) c.into_vec-left.result.items) (c.in_ok-known.ensures ∙ c.in_ok-from_slice.ensures.items)
    ∙ ap (filter (λ n. not (member n c.args.durable.now))) (c.into_vec-left.ensures ∙ c.take.ensures.value)
