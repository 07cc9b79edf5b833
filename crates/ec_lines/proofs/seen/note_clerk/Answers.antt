use Rattle.std.proofs.Common.{◌<◌, ◌++◌, ◌∷◌, [], refl, sym, subst, ◌∙◌, arith, length}
use Rattle.std.proofs.lemmas.Option.{slice_get_within}
use Rattle.ec_base.specs.Limits.{clerk_count}
use Rattle.ec_lines.specs.Index.{AreLast}
use Rattle.ec_lines.proofs.Onward.{last-at, last-noted, last-unnoted, noted}
use Rattle.ec_lines.proofs.seen.note_clerk.Goals as goal

pub returns-in_ok-note_watches-in-Some-clause-last : goal.returns-in_ok-note_watches-in-Some-clause-last
returns-in_ok-note_watches-in-Some-clause-last c =
    let past = c.args.above.now in
    let d = c.in-Some.clerk in
    let ls = c.args.last.now in
    let within : d < clerk_count = omega (arith, slice_get_within ls d c.last_of-entry.result c.last_of-entry.ensures, c.requires.last.count) in
    subst (λ xs. AreLast xs (past ++ c.args.line.now ∷ [])) (sym c.set_last.ensures)
    (last-noted ls d d c.last_after.result past c.args.line.now refl (sym c.clerk_of.ensures ∙ c.in-Some.is) within
    (noted c.last_after.result c.start_of-before.result _ c.start_behind-after.result _ (length past) c.last_of-entry.result _ c.gives-gives.result _
    c.last_after.ensures c.start_of-before.ensures c.start_behind-after.ensures c.gives-gives.ensures
    (last-at ls past d c.last_of-entry.result c.requires.last within c.last_of-entry.ensures))
    c.requires.last)

pub returns-in_ok-note_watches-in-None-clause-last : goal.returns-in_ok-note_watches-in-None-clause-last
returns-in_ok-note_watches-in-None-clause-last c = last-unnoted c.args.last.now c.args.above.now c.args.line.now (sym c.clerk_of.ensures ∙ c.in-None.is) c.requires.last
