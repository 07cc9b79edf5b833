use Rattle.std.proofs.Common.{◌≡◌, refl, inl, arith, ℕ, List, [], ◌∷◌, None, Some}
use Rattle.ec_volume.specs.declared.image.Kind.{Kind}
use Rattle.ec_volume.specs.declared.image.Kind.TheVariants as kind
use Rattle.ec_volume.specs.declared.update.Update.TheVariants as update
use Rattle.ec_plain.specs.declared.call.Call.TheVariants as call
use Rattle.ec_plain.specs.declared.call.Reply.TheVariants as reply
use Rattle.ec_order.specs.Order.{ask}
use Rattle.ec_history.specs.Legal.{IsLegal, IsLawful, from_formatted}
use Rattle.ec_history.specs.declared.entry.Answer.TheVariants as answer
use Rattle.ec_history.specs.declared.entry.Entry.TheVariants as entry
use Rattle.ec_judge.specs.Example.{f, making_entry, then_calls, loses, writes}
use Rattle.ec_judge.proofs.Steps.{none-closed}
use Rattle.ec_judge.proofs.examples.each_rule_can_break.Goals as goal

not-nil : (n : ℕ) (ns : List ℕ) → n ∷ ns ≡ [] → ⊥
not-nil n ns e = cc

not-stat : (k : Kind) (m s w z : ℕ) → reply.Ok ≡ reply.Stat k m s w z → ⊥
not-stat k m s w z e = cc

made : IsLegal from_formatted 32 (making_entry (Some 1) ∷ [])
made = (record { number = refl; report = refl; room = tt; reply = (refl, refl) }, tt)

lost : IsLawful from_formatted (making_entry (Some 1) ∷ []) 0 1 (1 ∷ [])
lost = record { kept_so_far = tt; uncovered = ((λ v. none-closed _ 1 v.closed_in, tt), tt); untouched = (tt, tt); closed = tt; fits = λ o. tt }

pub returns-clause-number : goal.returns-clause-number
returns-clause-number c = record { before = []; its = (making_entry (Some 2)).1; after = []; parts = refl; legal = tt; broken = λ e. omega (arith, e) }

pub returns-clause-report : goal.returns-clause-report
returns-clause-report c = record {
  before = making_entry (Some 1) ∷ loses 2 ∷ [];
  its = entry.Call 0 1 3 2 (call.List []) (answer.Reply (reply.Names [])) None;
  after = [];
  parts = refl;
  legal = (made.0, (lost, tt));
  broken = (tt, λ e. not-nil 1 [] e);
}

pub returns-clause-room : goal.returns-clause-room
returns-clause-room c = record { before = []; its = entry.Call 0 1 1 0 (call.Create f) (answer.NoRoom 1 15) None; after = []; parts = refl; legal = tt; broken = (tt, refl, λ e. e.1) }

pub returns-clause-full : goal.returns-clause-full
returns-clause-full c = (record { number = tt; report = refl; room = (tt, tt); reply = refl }, tt)

pub returns-clause-reply : goal.returns-clause-reply
returns-clause-reply c = record {
  before = making_entry (Some 1) ∷ [];
  its = (then_calls 0 1 (call.Stat f) (answer.Reply reply.Ok) None).1;
  after = [];
  parts = refl;
  legal = made;
  broken = (tt, refl, tt, λ e. not-stat kind.File 420 0 0 0 e.0);
}

pub returns-clause-named : goal.returns-clause-named
returns-clause-named c = record { before = []; its = (loses 1).1; after = []; parts = refl; legal = tt; broken = λ t. t }

pub returns-clause-covered : goal.returns-clause-covered
returns-clause-covered c = record {
  before = making_entry (Some 1) ∷ then_calls 0 1 call.Sync (answer.Reply reply.Ok) None ∷ [];
  its = (loses 3).1;
  after = [];
  parts = refl;
  legal = (made.0, (record { number = tt; report = refl; room = tt; reply = (refl, refl) }, tt));
  broken = (tt, λ u. (u.1.0).0 (record { own = tt; closed_in = ask 1 (update.Make 1 (102 ∷ []) 2 kind.File) (inl (refl, refl)) tt; not_lost = tt }));
}

pub returns-clause-touched : goal.returns-clause-touched
returns-clause-touched c = record {
  before = making_entry (Some 1) ∷ then_calls 1 1 (call.List []) (answer.Reply (reply.Names ((102 ∷ []) ∷ []))) None ∷ [];
  its = (loses 3).1;
  after = [];
  parts = refl;
  legal = (made.0, (record { number = tt; report = refl; room = tt; reply = (refl, refl) }, tt));
  broken = (tt, ((λ v. none-closed _ 1 v.closed_in, tt), ((λ v. none-closed _ 1 v.closed_in, tt), tt)), λ t. t.1.0);
}

pub returns-clause-closed : goal.returns-clause-closed
returns-clause-closed c = record {
  before = making_entry (Some 1) ∷ then_calls 0 1 writes (answer.Reply reply.Ok) (Some 2) ∷ [];
  its = (loses 3).1;
  after = [];
  parts = refl;
  legal = (made.0, (record { number = refl; report = refl; room = tt; reply = (refl, refl) }, tt));
  broken = (tt, ((λ v. none-closed _ 1 v.closed_in, tt), ((λ v. none-closed _ 1 v.closed_in, tt), tt)), (tt, (tt, tt)), λ t. t);
}

pub returns-clause-fits : goal.returns-clause-fits
returns-clause-fits c = record {
  before = making_entry (Some 1) ∷ then_calls 0 2 writes (answer.Reply reply.Ok) (Some 1) ∷ [];
  its = (loses 3).1;
  after = [];
  parts = refl;
  legal = (made.0, (record { number = refl; report = refl; room = tt; reply = (refl, refl) }, tt));
  broken = (tt, ((λ v. none-closed _ 1 v.closed_in, tt), ((λ v. none-closed _ 1 v.closed_in, tt), tt)), (tt, (tt, tt)), tt, λ g. g 2);
}
