use Rattle.std.proofs.Common.{sym, subst, ◌∙◌, inr}
use Rattle.ec_history.specs.Legal.{IsLegal, from_formatted}
use Rattle.ec_judge.specs.Faults.{IsFirstEntry}
use Rattle.ec_legal.specs.Bounded.{AreEntries}
use Rattle.ec_legal.proofs.Before.{front-is, front-legal, front-entries}
use Rattle.ec_legal.proofs.fronts.legal_front.Goals as goal

pub returns-in-Err-At-clause-front : goal.returns-in-Err-At-clause-front
returns-in-Err-At-clause-front c =
    let s = c.in-Err-At in
    let first : IsFirstEntry from_formatted 0 c.args.entries.now s.line s.field-0-1 = rw s.field-0-is at s.ensures.fault in
    inr (s.line, s.field-0-1, first, c.before_line.ensures ∙ front-is c.args.entries.now s.line s.field-0-1 c.requires first)

pub returns-in-Err-At-clause-legal : goal.returns-in-Err-At-clause-legal
returns-in-Err-At-clause-legal c =
    let s = c.in-Err-At in
    let first : IsFirstEntry from_formatted 0 c.args.entries.now s.line s.field-0-1 = rw s.field-0-is at s.ensures.fault in
    subst (IsLegal from_formatted 0) (sym c.before_line.ensures) (front-legal c.args.entries.now s.line s.field-0-1 c.requires first)

pub returns-in-Err-At-clause-entries : goal.returns-in-Err-At-clause-entries
returns-in-Err-At-clause-entries c =
    let s = c.in-Err-At in
    let first : IsFirstEntry from_formatted 0 c.args.entries.now s.line s.field-0-1 = rw s.field-0-is at s.ensures.fault in
    subst AreEntries (sym c.before_line.ensures) (front-entries c.args.entries.now s.line s.field-0-1 c.requires first)
