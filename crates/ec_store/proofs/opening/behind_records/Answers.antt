use Rattle.std.proofs.Common.{rules, ◌+◌, ◌<◌, ℕ, List, length, ap, sym, subst, ◌∙◌}
use Rattle.ec_journal.specs.Records.{records}
use Rattle.ec_stands.specs.OfTable.Codes.{numbers_in}
use Rattle.ec_stands.specs.Stands.{IsBadAt, StepsTo}
use Rattle.ec_store.specs.Places.{ArePlaces}
use Rattle.std.specs.Prelude.{IsErrOf}
use Rattle.ec_store.specs.declared.fault.StoreFault.TheVariants.{BadDisk}
use Rattle.ec_store.specs.Replay.{HasRefused, IsUntouched}
use Rattle.ec_store.proofs.Holding.{steps_most}
use Rattle.ec_store.proofs.Heads.{same_place}
use Rattle.ec_store.proofs.ReadBack.{found_short, record_bad, past_bad, read_back}
use Rattle.ec_store.proofs.opening.behind_records.Goals as goal

pub returns-in-Err-clause-bad : goal.returns-in-Err-clause-bad
returns-in-Err-clause-bad c p is image side read found =
    let k = c.args.checkpoint in
    let one : IsErrOf c.replay-replayed.result (BadDisk p) = search rules in
    let short = subst (λ (bs : List (List ℕ)). length (records bs) < 2097152) (sym c.as_slice.ensures) (found_short image c.args.side side c.args.found found) in
    record_bad image c.args.side side c.args.found found k.version k.places.items k.state read c.requires.formed p
    (subst (λ (n : ℕ). HasRefused n k.state c.args.found.bodies p) c.journal_at-at.ensures
    (subst (λ (bs : List (List ℕ)). HasRefused c.journal_at-at.result k.state bs p) c.as_slice.ensures (c.replay-replayed.ensures.bad p one short)))

pub returns-then-not-is_whole-clause-bad : goal.returns-then-not-is_whole-clause-bad
returns-then-not-is_whole-clause-bad c p is image side read found =
    let k = c.args.checkpoint in
    let steps = subst (λ (bs : List (List ℕ)). StepsTo bs k.state c.replay-replayed.new.state) c.as_slice.ensures c.in-Ok.ensures.steps in
    subst (λ (n : ℕ). IsBadAt image n) (ap (λ (n : ℕ). n + c.args.found.end) (sym c.journal_at-at.ensures) ∙ sym (same_place (c.journal_at-at.result + c.args.found.end) p is))
    (past_bad image c.args.side side c.args.found found k.version k.places.items k.state read c.requires.formed c.replay-replayed.new.state steps (search rules))

pub returns-clause-opened : goal.returns-clause-opened
returns-clause-opened c image side read found =
    let k = c.args.checkpoint in
    record {
      base = k.state;
      bodies = c.args.found.bodies;
      read = read_back image c.args.side side c.args.found found k.version k.places.items k.state read c.requires.formed (search rules);
      side = side;
      ends = found.end;
      steps = subst (λ (bs : List (List ℕ)). StepsTo bs k.state c.replay-replayed.new.state) c.as_slice.ensures c.in-Ok.ensures.steps;
      spares = c.in-Ok.ensures.spares;
      touches = λ o un. c.in-Ok.ensures.touches o (subst (IsUntouched o) (sym c.as_slice.ensures) un);
    }

pub returns-clause-places : goal.returns-clause-places
returns-clause-places c =
    let k = c.args.checkpoint in
    subst (λ (m : ℕ). ArePlaces m (numbers_in k.places.items) k.places.items) (sym (steps_most c.as_slice.result.now k.state c.replay-replayed.new.state c.in-Ok.ensures.steps)) c.requires.places
