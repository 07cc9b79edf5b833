use Rattle.std.proofs.Common.{rules, ◌∙◌, ap, refl, sym, subst}
use Rattle.std.specs.Prelude.{◌≡◌}
use Rattle.ec_half.specs.Contents.{Fewer, content_behind}
use Rattle.ec_mirror.specs.Moments.{synced-is}
use Rattle.ec_mirror.specs.Shown.{first_of, second_of, given_by, saved_by, shown_of, IsSaved}
use Rattle.ec_mirror.proofs.Lives.{fewer-frozen, gives-frozen, fewer-first, gives-live, gives-by-both}
use Rattle.ec_mirror.proofs.Showing.{fewer-same, fewer-stays}
use Rattle.ec_mirror.proofs.Wholes.{whole-first, saved-first, known-some}
use Rattle.ec_disk.specs.declared.disk.DiskAnswer.TheVariants as said
use Rattle.ec_mirror.proofs.parts.Parts.drop_second.Goals as goal

pub thaw-requires-clause-whole : goal.thaw-requires-clause-whole
thaw-requires-clause-whole g c =
    let done : c.raise-answer.result ≡ said.Done = search rules in
    whole-first _ _ _ _ _ _ _ _ refl (known-some _ _ (c.raise-answer.ensures.known done).1)
    (λ told clean. (c.raise-answer.ensures.stays told.0 done).gives ∙ ap (λ x. (first_of g.A.Disk.view g.B.Disk.view x).gives) c.freeze.ensures.pair ∙ c.requires.clean told (sym c.freeze.ensures.is_dirty ∙ clean) ∙ sym (ap (λ x. saved_by g.A.Disk.view g.B.Disk.view x.items) c.freeze.ensures.saved))

pub thaw-requires-clause-second_saved : goal.thaw-requires-clause-second_saved
thaw-requires-clause-second_saved g c behind told out = absurd (out refl)

pub thaw-requires-clause-first_saved : goal.thaw-requires-clause-first_saved
thaw-requires-clause-first_saved g c behind told out =
    let done : c.raise-answer.result ≡ said.Done = search rules in
    c.raise-answer.ensures.saved told.0 done ∙ (c.raise-answer.ensures.stays told.0 done).gives ∙ ap (λ x. (first_of g.A.Disk.view g.B.Disk.view x).gives) c.freeze.ensures.pair ∙ c.requires.clean told (c.freeze.ensures.ahead behind).1 ∙ sym (ap (λ x. saved_by g.A.Disk.view g.B.Disk.view x.items) c.freeze.ensures.saved)

pub returns-in_default-clause-fewer : goal.returns-in_default-clause-fewer
returns-in_default-clause-fewer g c told =
    subst (λ n. Fewer (shown_of g.A.Disk.view g.B.Disk.view c.args.self.now.present) (shown_of g.A.Disk.view g.B.Disk.view n)) (sym c.refuse.ensures.present) (fewer-same (shown_of g.A.Disk.view g.B.Disk.view c.args.self.now.present))

pub returns-in_default-clause-synced : goal.returns-in_default-clause-synced
returns-in_default-clause-synced g c =
    ap (λ n. (shown_of g.A.Disk.view g.B.Disk.view n).synced) c.refuse.ensures.present

pub returns-in_default-clause-gives : goal.returns-in_default-clause-gives
returns-in_default-clause-gives g c told =
    ap (λ n. (shown_of g.A.Disk.view g.B.Disk.view n).gives) c.refuse.ensures.present

pub returns-then-self-ge-MOST-clause-fewer : goal.returns-then-self-ge-MOST-clause-fewer
returns-then-self-ge-MOST-clause-fewer g c told =
    subst (λ n. Fewer (shown_of g.A.Disk.view g.B.Disk.view c.args.self.now.present) (shown_of g.A.Disk.view g.B.Disk.view n)) (sym c.refuse-then-self-ge-MOST.ensures.present) (fewer-same (shown_of g.A.Disk.view g.B.Disk.view c.args.self.now.present))

pub returns-then-self-ge-MOST-clause-synced : goal.returns-then-self-ge-MOST-clause-synced
returns-then-self-ge-MOST-clause-synced g c =
    ap (λ n. (shown_of g.A.Disk.view g.B.Disk.view n).synced) c.refuse-then-self-ge-MOST.ensures.present

pub returns-then-self-ge-MOST-clause-gives : goal.returns-then-self-ge-MOST-clause-gives
returns-then-self-ge-MOST-clause-gives g c told =
    ap (λ n. (shown_of g.A.Disk.view g.B.Disk.view n).gives) c.refuse-then-self-ge-MOST.ensures.present

pub returns-then-ne-clause-fewer : goal.returns-then-ne-clause-fewer
returns-then-ne-clause-fewer g c told =
    subst (λ n. Fewer (shown_of g.A.Disk.view g.B.Disk.view c.args.self.now.present) (shown_of g.A.Disk.view g.B.Disk.view n)) (sym c.count.ensures.present)
    (fewer-frozen g.A.Disk.view g.B.Disk.view _ _ _ _ _ _ _ (c.args.self.now.thawed c.requires.lives) c.freeze.ensures.shows (ap (λ x. saved_by g.A.Disk.view g.B.Disk.view x.items) c.freeze.ensures.saved) refl (fewer-same _) (fewer-same _))

pub returns-then-ne-clause-synced : goal.returns-then-ne-clause-synced
returns-then-ne-clause-synced g c =
    ap (λ n. (shown_of g.A.Disk.view g.B.Disk.view n).synced) c.count.ensures.present ∙ synced-is g.A.Disk.view g.B.Disk.view _ ∙ (ap (λ x. saved_by g.A.Disk.view g.B.Disk.view x.items) c.freeze.ensures.saved) ∙ sym (synced-is g.A.Disk.view g.B.Disk.view c.args.self.now.present)

pub returns-then-ne-clause-gives : goal.returns-then-ne-clause-gives
returns-then-ne-clause-gives g c told =
    ap (λ n. (shown_of g.A.Disk.view g.B.Disk.view n).gives) c.count.ensures.present
    ∙ gives-frozen g.A.Disk.view g.B.Disk.view _ _ _ _ _ _ _ (c.args.self.now.thawed c.requires.lives) c.freeze.ensures.shows (ap (λ x. saved_by g.A.Disk.view g.B.Disk.view x.items) c.freeze.ensures.saved) refl

pub returns-clause-fewer : goal.returns-clause-fewer
returns-clause-fewer g c told =
    let done : c.raise-answer.result ≡ said.Done = search rules in
    fewer-first g.A.Disk.view g.B.Disk.view _ _ _ _ _ _ _ (c.args.self.now.thawed c.requires.lives) c.thaw.ensures.shows c.thaw.ensures.pair (ap (λ x. saved_by g.A.Disk.view g.B.Disk.view x.items) (c.thaw.ensures.saved ∙ c.freeze.ensures.saved)) c.requires.whole refl
    (subst (λ x. Fewer (first_of g.A.Disk.view g.B.Disk.view x) (content_behind (g.A.Disk.view c.raise-answer.new.self.disk.now))) c.freeze.ensures.pair (fewer-stays _ _ (c.raise-answer.ensures.stays told.0 done)))

pub returns-clause-synced : goal.returns-clause-synced
returns-clause-synced g c =
    synced-is g.A.Disk.view g.B.Disk.view c.thaw.new.self.present ∙ (ap (λ x. saved_by g.A.Disk.view g.B.Disk.view x.items) (c.thaw.ensures.saved ∙ c.freeze.ensures.saved)) ∙ sym (synced-is g.A.Disk.view g.B.Disk.view c.args.self.now.present)

pub returns-clause-gives : goal.returns-clause-gives
returns-clause-gives g c told =
    let done : c.raise-answer.result ≡ said.Done = search rules in
    gives-live g.A.Disk.view g.B.Disk.view _ _ _ c.thaw.ensures.shows ∙ ap (λ p. given_by g.A.Disk.view g.B.Disk.view p) c.thaw.ensures.pair ∙ (c.raise-answer.ensures.stays told.0 done).gives ∙ ap (λ x. (first_of g.A.Disk.view g.B.Disk.view x).gives) c.freeze.ensures.pair
    ∙ sym (gives-by-both g.A.Disk.view g.B.Disk.view _ c.args.self.now.present.pair _ (c.args.self.now.thawed c.requires.lives) c.requires.whole)

pub returns-clause-saved : goal.returns-clause-saved
returns-clause-saved g c is =
    let done : c.raise-answer.result ≡ said.Done = search rules in
    subst (λ p. IsSaved (g.A.Disk.tells × g.B.Disk.tells) p.kept (first_of g.A.Disk.view g.B.Disk.view p) (second_of g.A.Disk.view g.B.Disk.view p)) (sym c.thaw.ensures.pair)
    (saved-first _ _ _ _ refl (λ told. c.raise-answer.ensures.saved told.0 done) (λ told. c.raise-answer.ensures.all_synced told.0 done))
