use Rattle.std.proofs.Common.{◌==◌, ap, ◌∙◌, not, rules}
use Rattle.std.proofs.lemmas.Fn.{filter_same}
use Rattle.ec_cache.specs.OfReport.Index.{without_object}
use Rattle.ec_cache.proofs.OfReport.Rows.{strip_one}
use Rattle.ec_cache.proofs.report.maps.strip.Goals as goal

pub returns-in-Some-clause-sorted : goal.returns-in-Some-clause-sorted
returns-in-Some-clause-sorted c =
    let left = c.of-in-Some.ensures ∙ filter_same _ (λ o. not (o == c.args.obj)) _ (λ x b f' k. search rules) _ _ c.retain.ensures.filtered ∙ ap (without_object c.args.obj) c.into_vec-left.ensures in
    (strip_one c.args.op c.args.obj c.of.result c.of-in-Some.result c.in-Some.objs c.args.rows.now c.replace.new.self c.replace-in-Some.new.self c.replace.result c.replace-in-Some.result c.replace.ensures.value c.in-Some.is c.replace.ensures.some
    c.replace-in-Some.ensures.value c.replace-in-Some.ensures.some left c.requires).0

pub returns-in-Some-clause-found : goal.returns-in-Some-clause-found
returns-in-Some-clause-found c =
    let left = c.of-in-Some.ensures ∙ filter_same _ (λ o. not (o == c.args.obj)) _ (λ x b f' k. search rules) _ _ c.retain.ensures.filtered ∙ ap (without_object c.args.obj) c.into_vec-left.ensures in
    (strip_one c.args.op c.args.obj c.of.result c.of-in-Some.result c.in-Some.objs c.args.rows.now c.replace.new.self c.replace-in-Some.new.self c.replace.result c.replace-in-Some.result c.replace.ensures.value c.in-Some.is c.replace.ensures.some
    c.replace-in-Some.ensures.value c.replace-in-Some.ensures.some left c.requires).1
