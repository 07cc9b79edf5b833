use Rattle.std.proofs.Common.{rules, ◌≡◌, ◌+◌, ◌++◌, ◌∷◌, [], ◌∙◌, ap, sym, subst, arith, length, List, ℕ}
use Rattle.std.proofs.lemmas.List.{places}
use Rattle.ec_disk.specs.Disk.{byte, part}
use Rattle.ec_journal.specs.Records.{open_gate, records, Front}
use Rattle.ec_journal.proofs.Reading.{front-more}
use Rattle.ec_journal.proofs.read.records_in.Goals as goal

pub records-preserved : goal.records-preserved
records-preserved c =
    let len = c.in-Some.len in
    let bytes = c.args.bytes.now in
    let end = c.records.end in
    let bodies = c.records.bodies.items in
    let body = c.of-in-records.result in
    let some = c.in-Some.ensures.some in
    let pushed : c.push.new.self.items ≡ bodies ++ body ∷ [] = c.in_ok-push.ensures.items in
    let is_open : byte bytes end ≡ open_gate = search (rules, places) in
    let is_body : c.in_ok-body.body.items ≡ part bytes (end + 5) len = search (rules, places) in
    let more = front-more bytes end len bodies body c.records.invariant.0 c.records.invariant.1 is_open some.1 some.2 (λ i. omega (arith, c.type_inv.bytes i)) (c.of-in-records.ensures ∙ is_body) some.0 in
    (subst (λ l. Front bytes 0 l) (sym pushed) more.1, omega (arith, more.0, ap (λ (l : List (List ℕ)). length (records l)) pushed), omega (arith, some.1))
