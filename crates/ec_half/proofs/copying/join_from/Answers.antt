use Rattle.std.proofs.Common.{inl, inr, ◌∙◌, sym}
use Rattle.ec_half.specs.Contents.{content_behind}
use Rattle.ec_half.proofs.Joins.{filled-joined, known-length, length-joined, fits-joined}
use Rattle.ec_half.proofs.copying.join_from.Goals as goal

pub returns-in-Both-clause-content : goal.returns-in-Both-clause-content
returns-in-Both-clause-content g c source other long =
    let rests = (c.in_ok-len.ensures.rests source).gives in
    filled-joined (content_behind (g.S.Disk.view c.args.source.now.disk.now)).gives _ _ _ (content_behind (g.O.Disk.view c.args.other.now.disk.now)).gives c.in_ok-other_len.other_len rests
    (c.lengthen.ensures.filled c.in-Done.is source (c.in_ok-len.ensures.header source long) (known-length _ _ c.in_ok-len.len (c.in_ok-len.ensures.len source) rests))
    (c.join.ensures.source_stays (inl c.in-Both.is) source).gives (c.in_ok-other_len.ensures.len other)

pub returns-in-SourceAlone-clause-content : goal.returns-in-SourceAlone-clause-content
returns-in-SourceAlone-clause-content g c source other long =
    let rests = (c.in_ok-len.ensures.rests source).gives in
    filled-joined (content_behind (g.S.Disk.view c.args.source.now.disk.now)).gives _ _ _ (content_behind (g.O.Disk.view c.args.other.now.disk.now)).gives c.in_ok-other_len.other_len rests
    (c.lengthen.ensures.filled c.in-Done.is source (c.in_ok-len.ensures.header source long) (known-length _ _ c.in_ok-len.len (c.in_ok-len.ensures.len source) rests))
    (c.join.ensures.source_stays (inr c.in-SourceAlone.is) source).gives (c.in_ok-other_len.ensures.len other)

pub returns-in-Both-clause-alike : goal.returns-in-Both-clause-alike
returns-in-Both-clause-alike g c both source other source_long other_long =
    let rests = (c.in_ok-len.ensures.rests source).gives in
    let other_rests = (c.in_ok-other_len.ensures.rests other).gives in
    let known = known-length _ _ c.in_ok-len.len (c.in_ok-len.ensures.len source) rests in
    let zeros = c.lengthen.ensures.filled c.in-Done.is source (c.in_ok-len.ensures.header source source_long) known in
    c.join.ensures.alike c.in-Both.is source other (c.in_ok-other_len.ensures.header other other_long)
    (length-joined _ _ c.in_ok-len.len c.in_ok-other_len.other_len c.max.result known zeros c.max.ensures)
    (fits-joined _ _ c.in_ok-len.len c.in_ok-other_len.other_len c.max.result (c.in_ok-other_len.ensures.len other) other_rests c.max.ensures)
    ∙ sym (c.join.ensures.source_stays (inl c.in-Both.is) source).gives

pub returns-in-Both-clause-source_known : goal.returns-in-Both-clause-source_known
returns-in-Both-clause-source_known g c = c.join.ensures.source_known (inl c.in-Both.is)

pub returns-in-Both-clause-source_synced : goal.returns-in-Both-clause-source_synced
returns-in-Both-clause-source_synced g c told = c.join.ensures.source_synced (inl c.in-Both.is) told

pub returns-in-Both-clause-source_saved : goal.returns-in-Both-clause-source_saved
returns-in-Both-clause-source_saved g c told = c.join.ensures.source_saved (inl c.in-Both.is) told

pub returns-in-SourceAlone-clause-source_known : goal.returns-in-SourceAlone-clause-source_known
returns-in-SourceAlone-clause-source_known g c = c.join.ensures.source_known (inr c.in-SourceAlone.is)

pub returns-in-SourceAlone-clause-source_synced : goal.returns-in-SourceAlone-clause-source_synced
returns-in-SourceAlone-clause-source_synced g c told = c.join.ensures.source_synced (inr c.in-SourceAlone.is) told

pub returns-in-SourceAlone-clause-source_saved : goal.returns-in-SourceAlone-clause-source_saved
returns-in-SourceAlone-clause-source_saved g c told = c.join.ensures.source_saved (inr c.in-SourceAlone.is) told
