use Rattle.std.proofs.Common.{◌∙◌, ◌++◌, ◌∷◌, [], ℕ, List, Some, refl, sym, ap, subst}
use Rattle.ec_pending.specs.Deferred.{behind_notes, AreAbove, AreLate}
use Rattle.ec_pending.specs.Pending.{issues_of}
use Rattle.ec_pending.specs.declared.issue.Issue.{Issue}
use Rattle.ec_pending.specs.declared.note.Note.TheVariants as note
use Rattle.ec_pending.proofs.Late.{late-more}
use Rattle.ec_pending.proofs.Deferring.{above-issued, above-raised, behind-more, issued-below, pair}
use Rattle.ec_pending.proofs.deferred.Deferred.issue.Goals as goal

pub invariant_of-self : goal.invariant_of-self
invariant_of-self c =
    let k = c.self.inside.pending.0 in (
      subst (λ n. AreAbove n k c.self.inside.notes.items) (sym c.op.view_is)
          (above-raised c.self.inside.count c.args.op k c.self.inside.notes.items (issued-below c.self.inside.count c.args.op _ c.args.self.now c.self.view_is c.requires) c.self.invariant.0),
      c.self.invariant.1,
    )

pub invariant_of-self-2 : goal.invariant_of-self-2
invariant_of-self-2 c =
    let k = c.self.inside.pending.0 in
    let ns = c.self.inside.notes.items in (
      subst (AreAbove c.op-2.inside.0 k) (sym c.in_ok-push.ensures.items)
          (subst (λ n. AreAbove n k (ns ++ note.Issue c.args.op c.args.place c.in_ok-update.update ∷ [])) (sym c.op-2.view_is)
          (above-issued c.self.inside.count k c.args.op c.args.place c.in_ok-update.update ns (issued-below c.self.inside.count c.args.op _ c.args.self.now c.self.view_is c.requires) c.self.invariant.0)),
      subst (AreLate c.self.inside.late) (sym c.in_ok-push.ensures.items) (late-more c.self.inside.late ns (note.Issue c.args.op c.args.place c.in_ok-update.update) refl c.self.invariant.1),
    )

pub returns : goal.returns
returns c =
    let is = c.self.inside.pending.1 in
    let now = c.args.self.now in
    ap (λ n. pair n (behind_notes c.push.new.self.items is)) c.op-2.view_is
    ∙ ap (pair c.args.op)
    (ap (λ ns. behind_notes ns is) c.in_ok-push.ensures.items
    ∙ behind-more c.self.inside.notes.items (note.Issue c.args.op c.args.place c.in_ok-update.update) is
    ∙ ap (λ (v : ℕ × List Issue). v.1 ++ issues_of c.args.place (Some c.args.op) (Some c.in_ok-update.update.value)) c.self.view_is
    ∙ ap (λ w. now.1 ++ issues_of c.args.place (Some c.args.op) (Some w)) c.in_ok-update.ensures.ok
    ∙ ap (λ w. now.1 ++ issues_of c.args.place (Some c.args.op) w) (sym c.in-Some.is))
