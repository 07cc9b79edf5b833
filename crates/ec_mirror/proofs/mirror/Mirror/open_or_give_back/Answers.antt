use Rattle.std.proofs.Common.{◌≡◌, ◌∙◌, true, ap, inl, inr, sym, subst, ⊎_elim}
use Rattle.std.specs.Prelude.{Err}
use Rattle.ec_base.proofs.OutsideLemmas.{rose_later}
use Rattle.ec_base.specs.Outside.{Rose}
use Rattle.ec_half.specs.Contents.{AllSynced, HasHeader, content_behind}
use Rattle.ec_half.specs.OfSlots.Contents.{content}
use Rattle.ec_mirror.specs.Joins.{content_of, lead}
use Rattle.ec_mirror.specs.Shown.{given_by, shown_of}
use Rattle.ec_mirror.specs.declared.kept.Kept.TheVariants as left
use Rattle.ec_mirror.proofs.Joins.{joined-same, lead-rests}
use Rattle.ec_mirror.proofs.Wholes.{whole-for, whole-same, saved-for, saved-rested}
use Rattle.ec_mirror.proofs.mirror.Mirror.open_or_give_back.Goals as goal

pub returns-in-Err-joined-clause-which : goal.returns-in-Err-joined-clause-which
returns-in-Err-joined-clause-which g c k place is = absurd (c.unmade.ensures.good k place (sym c.parted.ensures.fault ∙ is))

pub returns-in-Err-joined-clause-bad_first : goal.returns-in-Err-joined-clause-bad_first
returns-in-Err-joined-clause-bad_first g c place is tells = absurd (c.unmade.ensures.good 1 place (sym c.parted.ensures.fault ∙ is))

pub returns-in-Err-joined-clause-bad_second : goal.returns-in-Err-joined-clause-bad_second
returns-in-Err-joined-clause-bad_second g c place is tells = absurd (c.unmade.ensures.good 2 place (sym c.parted.ensures.fault ∙ is))

pub returns-in-Err-joined-clause-first_is_good : goal.returns-in-Err-joined-clause-first_is_good
returns-in-Err-joined-clause-first_is_good g c place is tells = absurd (c.unmade.ensures.good 2 place (sym c.parted.ensures.fault ∙ is))

pub returns-in-Err-joined-clause-first_rests : goal.returns-in-Err-joined-clause-first_rests
returns-in-Err-joined-clause-first_rests g c k place is tells = absurd (c.unmade.ensures.good k place (sym c.parted.ensures.fault ∙ is))

pub returns-in-Err-joined-clause-second_rests : goal.returns-in-Err-joined-clause-second_rests
returns-in-Err-joined-clause-second_rests g c k place is tells = absurd (c.unmade.ensures.good k place (sym c.parted.ensures.fault ∙ is))

pub returns-in-Err-joined-clause-first_arms : goal.returns-in-Err-joined-clause-first_arms
returns-in-Err-joined-clause-first_arms g c k place is some = absurd (c.unmade.ensures.good k place (sym c.parted.ensures.fault ∙ is))

pub returns-in-Err-joined-clause-second_arms : goal.returns-in-Err-joined-clause-second_arms
returns-in-Err-joined-clause-second_arms g c k place is some = absurd (c.unmade.ensures.good k place (sym c.parted.ensures.fault ∙ is))

pub returns-in-Err-joined-clause-failed : goal.returns-in-Err-joined-clause-failed
returns-in-Err-joined-clause-failed g c is =
    let first = λ (failed : c.joined.new.pair.first.has_failed ≡ true).
    subst (λ d. Rose (g.A.Disk.counts c.args.first.now).faults (g.A.Disk.counts d).faults) (sym c.parted.ensures.first.1)
    (rose_later _ _ _ c.generations_of.ensures.first_later (c.joined.new.pair.first.failed failed c.generations_of.new.first (ap (λ f. f.items) c.joined.ensures.first_from ∙ c.new-first.ensures.from))) in
    let second = λ (failed : c.joined.new.pair.second.has_failed ≡ true).
    subst (λ d. Rose (g.B.Disk.counts c.args.second.now).faults (g.B.Disk.counts d).faults) (sym c.parted.ensures.second.1)
    (rose_later _ _ _ c.generations_of.ensures.second_later (c.joined.new.pair.second.failed failed c.generations_of.new.second (ap (λ f. f.items) c.joined.ensures.second_from ∙ c.new-second.ensures.from))) in
    ⊎_elim (λ failed. inl (first failed)) (λ failed. inr (second failed)) (c.in-Err-joined.ensures.failed (ap Err (c.unmade.ensures.failed (sym c.parted.ensures.fault ∙ is))))

pub returns-in-Err-joined-clause-first_back : goal.returns-in-Err-joined-clause-first_back
returns-in-Err-joined-clause-first_back g c = c.parted.ensures.first.0 ∙ c.joined.ensures.first_disk ∙ c.new-first.ensures.same_disk

pub returns-in-Err-joined-clause-second_back : goal.returns-in-Err-joined-clause-second_back
returns-in-Err-joined-clause-second_back g c = c.parted.ensures.second.0 ∙ c.joined.ensures.second_disk ∙ c.new-second.ensures.same_disk

pub returns-clause-both_are_good : goal.returns-clause-both_are_good
returns-clause-both_are_good g c made = c.in-Ok.ensures.both_are_good

pub returns-clause-content : goal.returns-clause-content
returns-clause-content g c first second =
    let first_is = c.new-first.ensures.disk in
    let second_is = c.new-second.ensures.disk in
    subst (λ p. (lead p.kept (content_behind (g.A.Disk.view p.first.disk.now)) (content_behind (g.B.Disk.view p.second.disk.now))).gives ≡ content_of (g.A.Disk.view c.args.first.now).gives (g.B.Disk.view c.args.second.now).gives) (sym (ap (λ p. p.present.pair) c.new.ensures ∙ c.opened.ensures.pair))
    (lead-rests _ _ _ _ _ (c.disarm.ensures.rests first) (c.disarm-2.ensures.rests second)
    ∙ c.in-Ok-joined.ensures.content first second (subst (λ d. HasHeader (g.A.Disk.view d)) (sym first_is) (c.in-Ok.ensures.first_header first)) (subst (λ d. HasHeader (g.B.Disk.view d)) (sym second_is) (c.in-Ok.ensures.second_header second))
    ∙ joined-same _ _ _ _ _ _ _ _ (ap (λ x. x.number) c.new-first.ensures.generation ∙ c.in-Ok.ensures.first_number first) (ap (λ x. x.number) c.new-second.ensures.generation ∙ c.in-Ok.ensures.second_number second)
    (ap (λ d. content (g.A.Disk.view d).gives) first_is ∙ c.in-Ok.ensures.first_content first) (ap (λ d. content (g.B.Disk.view d).gives) second_is ∙ c.in-Ok.ensures.second_content second))

pub returns-clause-gives : goal.returns-clause-gives
returns-clause-gives g c first second =
    subst (λ p. (shown_of g.A.Disk.view g.B.Disk.view p.present).gives ≡ given_by g.A.Disk.view g.B.Disk.view p.present.pair) (sym c.new.ensures) c.opened.ensures.shows ∙ returns-clause-content g c first second

pub returns-clause-alike : goal.returns-clause-alike
returns-clause-alike g c first second =
    subst (λ p. p.kept ≡ left.Both → (content_behind (g.A.Disk.view p.first.disk.now)).gives ≡ (content_behind (g.B.Disk.view p.second.disk.now)).gives) (sym (ap (λ p. p.present.pair) c.new.ensures ∙ c.opened.ensures.pair))
    (λ both.
    (c.disarm.ensures.rests first).gives
    ∙ c.in-Ok-joined.ensures.alike first second (subst (λ d. HasHeader (g.A.Disk.view d)) (sym c.new-first.ensures.disk) (c.in-Ok.ensures.first_header first))
    (subst (λ d. HasHeader (g.B.Disk.view d)) (sym c.new-second.ensures.disk) (c.in-Ok.ensures.second_header second)) both
    ∙ sym (c.disarm-2.ensures.rests second).gives)

pub opened-requires-clause-whole_at : goal.opened-requires-clause-whole_at
opened-requires-clause-whole_at g c =
    whole-same _ _ _ _ _ _ _ _ _ _ _ _
    (whole-for _ _ _ _ _ _ _ _ _ (λ told. (told, (subst (λ d. HasHeader (g.A.Disk.view d)) (sym c.new-first.ensures.disk) (c.in-Ok.ensures.first_header told.0), subst (λ d. HasHeader (g.B.Disk.view d)) (sym c.new-second.ensures.disk) (c.in-Ok.ensures.second_header told.1))))
    c.in-Ok-joined.ensures.whole_at)
    (λ told. (c.disarm.ensures.rests told.0).gives) (λ told. (c.disarm-2.ensures.rests told.1).gives) c.disarm.ensures.known c.disarm-2.ensures.known

pub opened-requires-clause-saved : goal.opened-requires-clause-saved
opened-requires-clause-saved g c =
    saved-rested _ _ _ _ _ _
    (saved-for _ _ _ _ _ (λ told. (told, (subst (λ d. HasHeader (g.A.Disk.view d)) (sym c.new-first.ensures.disk) (c.in-Ok.ensures.first_header told.0), subst (λ d. HasHeader (g.B.Disk.view d)) (sym c.new-second.ensures.disk) (c.in-Ok.ensures.second_header told.1))))
    c.in-Ok-joined.ensures.saved)
    (λ told. c.disarm.ensures.rests told.0) (λ told. c.disarm-2.ensures.rests told.1)

pub returns-clause-synced : goal.returns-clause-synced
returns-clause-synced g c told = subst (λ p. AllSynced (shown_of g.A.Disk.view g.B.Disk.view p.present)) (sym c.new.ensures) (c.opened.ensures.synced told)

pub returns-clause-counts : goal.returns-clause-counts
returns-clause-counts g c = ap (λ p. p.tally) c.new.ensures ∙ c.opened.ensures.counts

pub returns-clause-first_from : goal.returns-clause-first_from
returns-clause-first_from g c = (
  c.generations_of.new.first,
  ap (λ p. p.present.pair.first.from.items) c.new.ensures ∙ ap (λ p. p.first.from.items) c.opened.ensures.pair ∙ ap (λ f. f.items) (c.disarm.ensures.from ∙ c.joined.ensures.first_from) ∙ c.new-first.ensures.from,
  c.generations_of.ensures.first_later,
)

pub returns-clause-second_from : goal.returns-clause-second_from
returns-clause-second_from g c = (
  c.generations_of.new.second,
  ap (λ p. p.present.pair.second.from.items) c.new.ensures ∙ ap (λ p. p.second.from.items) c.opened.ensures.pair ∙ ap (λ f. f.items) (c.disarm-2.ensures.from ∙ c.joined.ensures.second_from) ∙ c.new-second.ensures.from,
  c.generations_of.ensures.second_later,
)
