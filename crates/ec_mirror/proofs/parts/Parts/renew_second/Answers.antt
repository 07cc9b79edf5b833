use Rattle.std.proofs.Common.{◌∙◌, ap, refl, sym, subst}
use Rattle.std.specs.Prelude.{length}
use Rattle.ec_half.specs.Contents.{Fewer}
use Rattle.ec_mirror.specs.Moments.{given}
use Rattle.ec_mirror.specs.Shown.{second_of, saved_by, shown_of}
use Rattle.ec_mirror.proofs.Lives.{fewer-live, fewer-frozen, gives-by-second, given-second}
use Rattle.ec_mirror.proofs.Showing.{stays-rested, fewer-same, fewer-stays, fewer-synced}
use Rattle.ec_mirror.proofs.Wholes.{dirty-second, saved-second, known-some}
use Rattle.ec_mirror.proofs.parts.Parts.renew_second.Goals as goal

pub freeze-requires-clause-len : goal.freeze-requires-clause-len
freeze-requires-clause-len g c told =
    sym (c.in-Ok.ensures.len told.1).len_is ∙ ap (λ y. length y) (sym (given-second g.A.Disk.view g.B.Disk.view (record c.args.self.now.present.pair { second = c.known_len.new.self }) c.requires.kept))

pub returns-in-Err-clause-fewer : goal.returns-in-Err-clause-fewer
returns-in-Err-clause-fewer g c told =
    subst (λ n. Fewer (shown_of g.A.Disk.view g.B.Disk.view c.args.self.now.present) (shown_of g.A.Disk.view g.B.Disk.view n)) (sym c.cut_short.ensures.present)
    (fewer-live g.A.Disk.view g.B.Disk.view _ _ _ _ (c.args.self.now.thawed c.requires.lives) refl (fewer-same _) (fewer-stays _ _ (stays-rested _ _ (c.known_len.ensures.rests told.1))))

pub renewed-requires-clause-whole : goal.renewed-requires-clause-whole
renewed-requires-clause-whole g c =
    dirty-second _ _ _ _ _ _ _ (ap (λ p. p.kept) c.freeze.ensures.pair ∙ c.requires.kept) (known-some _ _ (c.raise.ensures.known c.in-Done.is).1)

pub renewed-requires-clause-saved : goal.renewed-requires-clause-saved
renewed-requires-clause-saved g c =
    saved-second _ _ _ _ (ap (λ p. p.kept) c.freeze.ensures.pair ∙ c.requires.kept) (λ told. c.raise.ensures.saved told.1 c.in-Done.is) (λ told. c.raise.ensures.all_synced told.1 c.in-Done.is)

pub returns-in-Done-clause-gives : goal.returns-in-Done-clause-gives
returns-in-Done-clause-gives g c told done =
    c.renewed.ensures.gives ∙ given-second g.A.Disk.view g.B.Disk.view (record c.freeze.new.self.present.pair { second = c.raise.new.self }) (ap (λ p. p.kept) c.freeze.ensures.pair ∙ c.requires.kept)
    ∙ (c.raise.ensures.stays told.1 c.in-Done.is).gives ∙ ap (λ p. (second_of g.A.Disk.view g.B.Disk.view p).gives) c.freeze.ensures.pair ∙ (c.known_len.ensures.rests told.1).gives
    ∙ sym (gives-by-second g.A.Disk.view g.B.Disk.view _ c.args.self.now.present.pair _ (c.args.self.now.thawed c.requires.lives) c.requires.kept)

pub returns-in-Done-clause-fewer : goal.returns-in-Done-clause-fewer
returns-in-Done-clause-fewer g c told =
    fewer-synced _ _ (c.renewed.ensures.all_synced told)
    (c.renewed.ensures.gives ∙ given-second g.A.Disk.view g.B.Disk.view (record c.freeze.new.self.present.pair { second = c.raise.new.self }) (ap (λ p. p.kept) c.freeze.ensures.pair ∙ c.requires.kept)
    ∙ (c.raise.ensures.stays told.1 c.in-Done.is).gives ∙ ap (λ p. (second_of g.A.Disk.view g.B.Disk.view p).gives) c.freeze.ensures.pair ∙ (c.known_len.ensures.rests told.1).gives
    ∙ sym (gives-by-second g.A.Disk.view g.B.Disk.view _ c.args.self.now.present.pair _ (c.args.self.now.thawed c.requires.lives) c.requires.kept))
    (given g.A.Disk.view g.B.Disk.view (g.met.A.Disk.given told.0) (g.met.B.Disk.given told.1) c.args.self.now.present)

pub returns-in_default-clause-fewer : goal.returns-in_default-clause-fewer
returns-in_default-clause-fewer g c told =
    subst (λ n. Fewer (shown_of g.A.Disk.view g.B.Disk.view c.args.self.now.present) (shown_of g.A.Disk.view g.B.Disk.view n)) (sym c.cut_short-in_default.ensures.present)
    (fewer-frozen g.A.Disk.view g.B.Disk.view _ _ _ _ _ _ _ (c.args.self.now.thawed c.requires.lives) c.freeze.ensures.shows (ap (λ x. saved_by g.A.Disk.view g.B.Disk.view x.items) c.freeze.ensures.saved) refl (fewer-same _) (fewer-stays _ _ (stays-rested _ _ (c.known_len.ensures.rests told.1))))
