use Rattle.std.proofs.Common.{refl, sym, ap, subst, ◌∙◌, ◌++◌, not}
use Rattle.std.specs.List.{filter}
use Rattle.ec_history.specs.History.{meets}
use Rattle.ec_judge.specs.Carried.{count_next}
use Rattle.ec_pending.specs.Pending.{issues_of, rest, is_asked}
use Rattle.ec_pending.specs.OfOwes.Rules.{IsNumbered}
use Rattle.ec_judge.specs.declared.carried.Start.{Start}
use Rattle.ec_judge.proofs.Steps.{same-at, on-ok-all}
use Rattle.ec_judge.proofs.Places.{same-places}
use Rattle.ec_judge.proofs.starts.note_at.Goals as goal

pub note-requires : goal.note-requires
note-requires c = subst (λ (s : Start). IsNumbered s.pending.0 c.args.answered.now.op.now) (sym c.index_mut.ensures.value) (c.requires.next c.index_mut.result.now)

pub returns-clause-noted : goal.returns-clause-noted
returns-clause-noted c =
    let now = c.note.new.start in
    let o = c.args.outcome.now in
    let old = c.index_mut.ensures.value ∙ same-at c.args.starts.now.items c.args.at c.index_mut.result.now now c.requires.within in
    on-ok-all _ _ _ _ c.note.result (λ count owed pending. (
      now,
      record {
        clerk = c.note.ensures.clerk ∙ ap (λ t. t.clerk) old;
        boot = c.note.ensures.boot ∙ ap (λ t. t.boot) old;
        count = count ∙ ap (λ t. count_next t.pending.0 c.args.answered.now.op.now) old;
        owed = owed ∙ ap (λ t. filter (λ q. not (meets o c.args.answered.now.call.now q)) t.owed) old;
        pending = pending ∙ ap (λ t. rest (is_asked c.args.asked.now) t.pending.1 ++ issues_of c.args.place c.args.answered.now.op.now o.update) old;
      },
      refl,
    )) c.note.ensures.count c.note.ensures.owed c.note.ensures.pending

pub returns-clause-same : goal.returns-clause-same
returns-clause-same c = same-places c.args.starts.now.items c.args.at c.note.new.start c.index_mut.result.now (c.index_mut.ensures.value ∙ same-at c.args.starts.now.items c.args.at c.index_mut.result.now c.note.new.start c.requires.within) c.note.ensures.clerk c.note.ensures.boot
