use Rattle.std.proofs.Common.{rules, arith, ◌≡◌, ◌≤◌, ap, sym, subst}
use Rattle.ec_disk.specs.declared.disk.DiskAnswer.TheVariants as said
use Rattle.ec_half.specs.Contents.{behind-synced}
use Rattle.ec_half.specs.Headers.{AllHave}
use Rattle.ec_half.proofs.Halves.{half-of, raised-behind, synced-gives}
use Rattle.ec_half.proofs.half.Half.raise.Goals as goal

pub invariant_of-self-2-clause-whole : goal.invariant_of-self-2-clause-whole
invariant_of-self-2-clause-whole g c n is told =
    let done : c.raise-answer.result ≡ said.Done = search rules in
    half-of (g.D.Disk.view c.raise-answer.new.disk) c.in-Ok.len n is (c.raise-answer.ensures.half done told c.in-Ok.len (c.in-Ok.ensures.len told))

pub returns-clause-stays : goal.returns-clause-stays
returns-clause-stays g c told is =
    let done : c.raise-answer.result ≡ said.Done = search rules in
    raised-behind (g.D.Disk.view c.args.self.now.disk.now) (g.D.Disk.view c.known_len.new.self.disk.now) (g.D.Disk.view c.raise-answer.new.disk) (c.known_len.ensures.rests told)
    (c.raise-answer.ensures.content done told (c.in-Ok.ensures.len told).long) (c.raise-answer.ensures.synced done told) (g.met.D.Disk.given told c.known_len.new.self.disk.now)

pub returns-clause-all_synced : goal.returns-clause-all_synced
returns-clause-all_synced g c told is =
    let done : c.raise-answer.result ≡ said.Done = search rules in
    behind-synced (g.D.Disk.view c.raise-answer.new.disk) (c.raise-answer.ensures.synced done told)

pub returns-clause-saved : goal.returns-clause-saved
returns-clause-saved g c told is =
    let done : c.raise-answer.result ≡ said.Done = search rules in
    synced-gives (g.D.Disk.view c.raise-answer.new.disk) (c.raise-answer.ensures.synced done told) (g.met.D.Disk.given_synced told c.raise-answer.new.disk)

pub returns-clause-have : goal.returns-clause-have
returns-clause-have g c told is rises have =
    let done : c.raise-answer.result ≡ said.Done = search rules in
    let known : c.known_len.new.self.generation.number ≤ c.args.number = omega (arith, rises, ap (λ x. x.number) c.known_len.ensures.generation) in
    subst (λ x. AllHave (g.D.Disk.view c.raise-answer.new.disk) x) (sym c.next-self.ensures)
    (c.raise-answer.ensures.raised done told known (c.known_len.ensures.have told have))
