use Rattle.std.proofs.Common.{rules, ◌≡◌, ◌+◌, ◌*◌, arith, length, List, ℕ, ap, ◌∙◌, subst, refl}
use Rattle.ec_disk.specs.Disk.{byte}
use Rattle.ec_disk.specs.Effects.{InRange, Wrote, Called, written}
use Rattle.ec_disk.specs.Images.{byte-written_out}
use Rattle.ec_disk.specs.declared.disk.DiskAnswer.TheVariants as said
use Rattle.ec_journal.specs.OfLayout.PieceLaws.{ran-more, has-more}
use Rattle.ec_disk.specs.Calls.{Write}
use Rattle.ec_journal.specs.OfLayout.Traces.{no_sync_yet, no_sync_more}
use Rattle.ec_journal.specs.Ends.{DidAll, TurnedUpTo, did_one, ends_at_once, one_turn, turns_for}
use Rattle.ec_journal.proofs.OfLayout.Calls.{no_call, one_call, did_none, did_then, ends_then, turns_none, turns_then, turns_within}
use Rattle.ec_journal.proofs.layout.slots.write_slots.Goals as goal

pub returns-then-ne-clause-ran : goal.returns-then-ne-clause-ran
returns-then-ne-clause-ran g c told =
    let x = c.piece-item.result in
    let old = g.D.Disk.view c.args.disk.now in
    let mid = g.D.Disk.view c.slots.disk in
    let new = g.D.Disk.view c.write_at-answer.new.self in
    let wrote = subst (λ k. Wrote (InRange k (length x.1.items)) mid new) c.slot_at.ensures (subst (λ bs. Wrote (InRange c.slot_at.result (length bs)) mid new) c.as_slice.ensures.value (c.write_at-answer.ensures.wrote told)) in
    ran-more c.args.pieces.now c.requires.apart c.slots.piece-index x c.slots-test.true c.piece-item.is old mid new (c.slots.invariant.ran told) wrote

pub slots-preserved : goal.slots-preserved
slots-preserved g c =
    let x = c.piece-item.result in
    let old = g.D.Disk.view c.args.disk.now in
    let mid = g.D.Disk.view c.slots.disk in
    let new = g.D.Disk.view c.write_at-answer.new.self in
    let done : c.write_at-answer.result ≡ said.Done = search rules in
    let made : g.D.Disk.tells → new.gives ≡ written (4329472 + x.0 * 65600) x.1.items mid.gives = λ told.
    c.write_at-answer.ensures.written told done ∙ ap (λ (bs : List ℕ). written c.slot_at.result bs mid.gives) c.as_slice.ensures.value ∙ ap (λ (k : ℕ). written k x.1.items mid.gives) c.slot_at.ensures in
    record {
      ran = λ told.
          let wrote = subst (λ k. Wrote (InRange k (length x.1.items)) mid new) c.slot_at.ensures (subst (λ bs. Wrote (InRange c.slot_at.result (length bs)) mid new) c.as_slice.ensures.value (c.write_at-answer.ensures.wrote told)) in
          ran-more c.args.pieces.now c.requires.apart c.slots.piece-index x c.slots-test.true c.piece-item.is old mid new (c.slots.invariant.ran told) wrote;
      written = λ told. has-more c.args.pieces.now c.requires.apart c.slots.piece-index x c.slots-test.true c.piece-item.is mid.gives new.gives (c.slots.invariant.written told) (made told);
      below = λ told i lt.
          ap (λ (image : List ℕ). byte image i) (made told)
          ∙ byte-written_out (4329472 + x.0 * 65600) x.1.items mid.gives i (λ r. absurd (omega (arith, lt, r.0)))
          ∙ c.slots.invariant.below told i lt;
      calls = one_call c.slots.piece-index (c.slots.piece-index + 1) (g.D.Disk.counts c.args.disk.now) (g.D.Disk.counts c.slots.disk) (g.D.Disk.counts c.write_at-answer.new.self) refl c.slots.invariant.calls c.write_at-answer.ensures.call c.write_at-answer.ensures.armed.next;
      did = did_then g.D.Disk.does c.slots.piece-index 1 (c.slots.piece-index + 1) c.args.disk.now c.slots.disk c.write_at-answer.new.self refl c.slots.invariant.did
          (did_one g.D.Disk.does (Write c.slot_at.result c.as_slice.result.now c.write_at-answer.result) c.slots.disk c.write_at-answer.new.self c.write_at-answer.ensures.does done);
      turns = turns_for (c.slots.piece-index + 1) (g.D.Disk.counts c.args.disk.now).armed (g.D.Disk.counts c.write_at-answer.new.self).armed (c.write_at-answer.result ≡ said.Done) (Unit {0}) (c.write_at-answer.result ≡ said.Stopped) ⊥
          (turns_then c.slots.piece-index 1 (c.slots.piece-index + 1) (g.D.Disk.counts c.args.disk.now).armed (g.D.Disk.counts c.slots.disk).armed (g.D.Disk.counts c.write_at-answer.new.self).armed (Unit {0}) (c.write_at-answer.result ≡ said.Done) ⊥ (c.write_at-answer.result ≡ said.Stopped) refl
          c.slots.invariant.turns tt (one_turn (g.D.Disk.counts c.slots.disk).armed (g.D.Disk.counts c.write_at-answer.new.self).armed (c.write_at-answer.result ≡ said.Done) (c.write_at-answer.result ≡ said.Stopped) c.write_at-answer.ensures.armed))
          (λ u. done) (λ no. absurd no);
      kept = λ told. c.write_at-answer.ensures.kept told ∙ c.slots.invariant.kept told;
      unsynced = no_sync_more g.D.Disk.does (Write c.slot_at.result c.as_slice.result.now c.write_at-answer.result) c.args.disk.now c.slots.disk c.write_at-answer.new.self c.slots.invariant.unsynced c.write_at-answer.ensures.does tt;
      counts = record {
        faults_later = omega (arith, c.slots.invariant.counts.faults_later, c.write_at-answer.ensures.counts.faults_later);
        stops_later = omega (arith, c.slots.invariant.counts.stops_later, c.write_at-answer.ensures.counts.stops_later);
        failed = λ no. absurd no;
        stopped = λ no. absurd no;
        armed = λ no. absurd no;
        not_rearmed = λ some. c.slots.invariant.counts.not_rearmed (c.write_at-answer.ensures.counts.not_rearmed some);
        stays = λ over. c.write_at-answer.ensures.counts.stays (c.slots.invariant.counts.stays over);
        over = λ no. absurd no;
      };
    }

pub slots-init : goal.slots-init
slots-init g c = record {
  ran = search rules;
  written = search rules;
  below = search rules;
  calls = no_call (g.D.Disk.counts c.args.disk.now);
  did = did_none g.D.Disk.does c.args.disk.now;
  turns = turns_none (g.D.Disk.counts c.args.disk.now).armed (Unit {0});
  kept = search rules;
  unsynced = no_sync_yet g.D.Disk.does c.args.disk.now;
  counts = search rules;
}

pub returns-clause-calls : goal.returns-clause-calls
returns-clause-calls g c is =
    let all : c.slots.piece-index ≡ length c.args.pieces.now = omega arith in
    subst (λ (n : ℕ). Called n (g.D.Disk.counts c.args.disk.now) (g.D.Disk.counts c.slots.disk)) all c.slots.invariant.calls

pub returns-then-ne-clause-unsynced : goal.returns-then-ne-clause-unsynced
returns-then-ne-clause-unsynced g c =
    no_sync_more g.D.Disk.does (Write c.slot_at.result c.as_slice.result.now c.write_at-answer.result) c.args.disk.now c.slots.disk c.write_at-answer.new.self c.slots.invariant.unsynced c.write_at-answer.ensures.does tt

pub returns-clause-did : goal.returns-clause-did
returns-clause-did g c is =
    let all : c.slots.piece-index ≡ length c.args.pieces.now = omega arith in
    subst (λ (n : ℕ). DidAll g.D.Disk.does n c.args.disk.now c.slots.disk) all c.slots.invariant.did

pub returns-clause-turns : goal.returns-clause-turns
returns-clause-turns g c =
    let all : c.slots.piece-index ≡ length c.args.pieces.now = omega arith in
    let a = (g.D.Disk.counts c.args.disk.now).armed in
    let b = (g.D.Disk.counts c.slots.disk).armed in
    turns_for (length c.args.pieces.now) a b (Unit {0}) _ ⊥ _ (subst (λ (n : ℕ). TurnedUpTo n a b (Unit {0}) ⊥) all c.slots.invariant.turns) (λ u. tt) (λ t. search rules)

pub returns-then-ne-clause-ends : goal.returns-then-ne-clause-ends
returns-then-ne-clause-ends g c other =
    ends_then g.D.Disk.does c.write_at-answer.result c.slots.piece-index 1 (length c.args.pieces.now) c.args.disk.now c.slots.disk c.write_at-answer.new.self (omega (arith, c.slots-test.true)) c.slots.invariant.did
    (ends_at_once g.D.Disk.does c.write_at-answer.result 0 (Write c.slot_at.result c.as_slice.result.now c.write_at-answer.result) c.slots.disk c.write_at-answer.new.self c.write_at-answer.ensures.does refl)

pub returns-then-ne-clause-turns : goal.returns-then-ne-clause-turns
returns-then-ne-clause-turns g c =
    let a = (g.D.Disk.counts c.args.disk.now).armed in
    let b = (g.D.Disk.counts c.slots.disk).armed in
    let d = (g.D.Disk.counts c.write_at-answer.new.self).armed in
    let done = c.write_at-answer.result ≡ said.Done in
    let stopped = c.write_at-answer.result ≡ said.Stopped in
    turns_within (c.slots.piece-index + 1) (length c.args.pieces.now) a d done done stopped stopped (omega (arith, c.slots-test.true))
    (turns_then c.slots.piece-index 1 (c.slots.piece-index + 1) a b d (Unit {0}) done ⊥ stopped refl c.slots.invariant.turns tt (one_turn b d done stopped c.write_at-answer.ensures.armed))
    (λ h. search rules) (λ t. t)
