use Rattle.std.proofs.Common.{rules, ◌∙◌, ℕ, List, sym, ap, subst}
use Rattle.ec_pending.specs.Deferred.{behind_notes, AreAbove}
use Rattle.ec_pending.specs.Pending.{is_asked, rest}
use Rattle.ec_pending.specs.declared.issue.Issue.{Issue}
use Rattle.ec_pending.specs.declared.note.Note.TheVariants as note
use Rattle.ec_pending.proofs.Late.{late-end}
use Rattle.ec_pending.proofs.Deferring.{above-asked, all-stay, behind-more, pair, with-rest}
use Rattle.ec_pending.proofs.deferred.Deferred.cover.Goals as goal

pub returns-in-Nothing : goal.returns-in-Nothing
returns-in-Nothing c = with-rest c.args.self.now (rest (is_asked c.args.asked.now) c.args.self.now.1) (ap (λ a. rest (is_asked a) c.args.self.now.1) c.in-Nothing.is ∙ all-stay c.args.self.now.1)

pub invariant_of-self-2 : goal.invariant_of-self-2
invariant_of-self-2 c =
    (subst (AreAbove c.self.inside.count c.self.inside.pending.0) (sym c.in_ok-push.ensures.items) (above-asked c.self.inside.count c.self.inside.pending.0 c.args.asked.now c.self.inside.notes.items c.self.invariant.0), late-end c.len-self-inside.result c.push.new.self.items (search rules))

pub returns : goal.returns
returns c =
    let a = c.args.asked.now in
    let is = c.self.inside.pending.1 in
    ap (pair c.self.inside.count) (ap (λ ns. behind_notes ns is) c.in_ok-push.ensures.items ∙ behind-more c.self.inside.notes.items (note.Cover a) is)
    ∙ ap (λ (v : ℕ × List Issue). pair v.0 (rest (is_asked a) v.1)) c.self.view_is
