use Rattle.std.proofs.Common.{◌∙◌, length, sym}
use Rattle.ec_half.specs.Contents.{content_behind}
use Rattle.ec_half.specs.OfSlots.Contents.{filled}
use Rattle.ec_mirror.proofs.Joins.{joined-first, joined-second, lead-first, lead-second, joined-both, first-alone, second-alone}
use Rattle.ec_mirror.proofs.Wholes.{known-some, whole-by-first, whole-by-second, saved-by-first, saved-by-second}
use Rattle.ec_mirror.proofs.opening.joined.Goals as goal

pub returns-in_ok-joined-clause-content : goal.returns-in_ok-joined-clause-content
returns-in_ok-joined-clause-content g c first second first_long second_long =
    let a = (content_behind (g.A.Disk.view c.args.pair.now.first.disk.now)).gives in
    let b = (content_behind (g.B.Disk.view c.args.pair.now.second.disk.now)).gives in
    lead-first c.in_ok-joined.joined c.kept_by-pair.result (content_behind (g.A.Disk.view c.join_from.new.source.disk.now)) (content_behind (g.B.Disk.view c.join_from.new.other.disk.now)) (filled a (length b)) c.kept_by-pair.ensures.both c.kept_by-pair.ensures.alone (c.in_ok-joined.ensures.content first second first_long)
    ∙ sym (joined-first c.args.pair.now.first.generation.number c.args.pair.now.second.generation.number a b c.if-pair.true)

pub returns-in_ok-joined-clause-alike : goal.returns-in_ok-joined-clause-alike
returns-in_ok-joined-clause-alike g c first second first_long second_long both =
    sym (c.in_ok-joined.ensures.alike (joined-both c.in_ok-joined.joined _ _ c.kept_by-pair.ensures.alone first-alone both) first second first_long second_long)

pub returns-in_ok-joined-2-clause-content : goal.returns-in_ok-joined-2-clause-content
returns-in_ok-joined-2-clause-content g c first second first_long second_long =
    let a = (content_behind (g.A.Disk.view c.args.pair.now.first.disk.now)).gives in
    let b = (content_behind (g.B.Disk.view c.args.pair.now.second.disk.now)).gives in
    lead-second c.in_ok-joined-2.joined c.kept_by-pair-else-pair.result (content_behind (g.A.Disk.view c.join_from-else-pair.new.other.disk.now)) (content_behind (g.B.Disk.view c.join_from-else-pair.new.source.disk.now)) (filled b (length a)) c.kept_by-pair-else-pair.ensures.both c.kept_by-pair-else-pair.ensures.alone
    (λ both. c.in_ok-joined-2.ensures.alike both second first second_long first_long) (c.in_ok-joined-2.ensures.content second first second_long)
    ∙ sym (joined-second c.args.pair.now.first.generation.number c.args.pair.now.second.generation.number a b c.if-pair.false)

pub returns-in_ok-joined-2-clause-alike : goal.returns-in_ok-joined-2-clause-alike
returns-in_ok-joined-2-clause-alike g c first second first_long second_long both =
    c.in_ok-joined-2.ensures.alike (joined-both c.in_ok-joined-2.joined _ _ c.kept_by-pair-else-pair.ensures.alone second-alone both) second first second_long first_long

pub returns-in_ok-joined-clause-whole_at : goal.returns-in_ok-joined-clause-whole_at
returns-in_ok-joined-clause-whole_at g c =
    whole-by-first _ _ _ _ _ c.in_ok-joined.joined c.kept_by-pair.result c.kept_by-pair.ensures.both c.kept_by-pair.ensures.alone (known-some _ _ c.in_ok-joined.ensures.source_known.1) (λ both. known-some _ _ (c.in_ok-joined.ensures.other_known both).1)
    (λ both told. sym (c.in_ok-joined.ensures.alike both told.0.0 told.0.1 told.1.0 told.1.1))

pub returns-in_ok-joined-clause-saved : goal.returns-in_ok-joined-clause-saved
returns-in_ok-joined-clause-saved g c =
    saved-by-first _ _ _ c.in_ok-joined.joined c.kept_by-pair.result c.kept_by-pair.ensures.both c.kept_by-pair.ensures.alone (λ told. c.in_ok-joined.ensures.source_saved told.0.0) (λ told. c.in_ok-joined.ensures.source_synced told.0.0)
    (λ both told. c.in_ok-joined.ensures.other_saved both told.0.1) (λ both told. c.in_ok-joined.ensures.other_synced both told.0.1)
    (λ both told. sym (c.in_ok-joined.ensures.alike both told.0.0 told.0.1 told.1.0 told.1.1))

pub returns-in_ok-joined-2-clause-whole_at : goal.returns-in_ok-joined-2-clause-whole_at
returns-in_ok-joined-2-clause-whole_at g c =
    whole-by-second _ _ _ _ _ c.in_ok-joined-2.joined c.kept_by-pair-else-pair.result c.kept_by-pair-else-pair.ensures.both c.kept_by-pair-else-pair.ensures.alone (λ both. known-some _ _ (c.in_ok-joined-2.ensures.other_known both).1) (known-some _ _ c.in_ok-joined-2.ensures.source_known.1)
    (λ both told. c.in_ok-joined-2.ensures.alike both told.0.1 told.0.0 told.1.1 told.1.0)

pub returns-in_ok-joined-2-clause-saved : goal.returns-in_ok-joined-2-clause-saved
returns-in_ok-joined-2-clause-saved g c =
    saved-by-second _ _ _ c.in_ok-joined-2.joined c.kept_by-pair-else-pair.result c.kept_by-pair-else-pair.ensures.both c.kept_by-pair-else-pair.ensures.alone (λ told. c.in_ok-joined-2.ensures.source_saved told.0.1) (λ told. c.in_ok-joined-2.ensures.source_synced told.0.1)
    (λ both told. c.in_ok-joined-2.ensures.other_saved both told.0.0) (λ both told. c.in_ok-joined-2.ensures.other_synced both told.0.0)
    (λ both told. c.in_ok-joined-2.ensures.alike both told.0.1 told.0.0 told.1.1 told.1.0)
