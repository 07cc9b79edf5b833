use Rattle.std.proofs.Common.{rules, ◌∙◌, ap, refl, sym, subst, inl, inr}
use Rattle.std.specs.Prelude.{◌≤◌, length}
use Rattle.ec_half.specs.Contents.{Fewer, HasHeader}
use Rattle.ec_mirror.specs.Moments.{given}
use Rattle.ec_mirror.specs.Shown.{first_of, second_of, saved_by, shown_of}
use Rattle.ec_mirror.proofs.Lives.{fewer-live, fewer-frozen, gives-by-both, given-first, given-both}
use Rattle.ec_mirror.proofs.Showing.{stays-rested, fewer-same, fewer-stays, fewer-synced}
use Rattle.ec_mirror.proofs.Wholes.{dirty-first, dirty-both, saved-first, saved-both, known-some}
use Rattle.ec_mirror.specs.declared.kept.Kept.TheVariants as left
use Rattle.ec_mirror.proofs.parts.Parts.renew_both.Goals as goal

pub freeze-requires-clause-len : goal.freeze-requires-clause-len
freeze-requires-clause-len g c told =
    sym (c.in-Ok.ensures.len told.0).len_is ∙ ap (λ y. length y) (sym (given-both g.A.Disk.view g.B.Disk.view (record c.args.self.now.present.pair { first = c.known_len.new.self; second = c.known_len-2.new.self }) c.requires.kept))

pub returns-in-Err-clause-fewer : goal.returns-in-Err-clause-fewer
returns-in-Err-clause-fewer g c told =
    subst (λ n. Fewer (shown_of g.A.Disk.view g.B.Disk.view c.args.self.now.present) (shown_of g.A.Disk.view g.B.Disk.view n)) (sym c.cut_short.ensures.present)
    (fewer-live g.A.Disk.view g.B.Disk.view _ _ _ _ (c.args.self.now.thawed c.requires.lives) refl (fewer-stays _ _ (stays-rested _ _ (c.known_len.ensures.rests told.0))) (fewer-same _))

pub returns-in-Err-known_len-clause-fewer : goal.returns-in-Err-known_len-clause-fewer
returns-in-Err-known_len-clause-fewer g c told =
    subst (λ n. Fewer (shown_of g.A.Disk.view g.B.Disk.view c.args.self.now.present) (shown_of g.A.Disk.view g.B.Disk.view n)) (sym c.cut_short-in-Err-known_len.ensures.present)
    (fewer-live g.A.Disk.view g.B.Disk.view _ _ _ _ (c.args.self.now.thawed c.requires.lives) refl (fewer-stays _ _ (stays-rested _ _ (c.known_len.ensures.rests told.0))) (fewer-stays _ _ (stays-rested _ _ (c.known_len-2.ensures.rests told.1))))

pub returns-then-other_len-len-clause-fewer : goal.returns-then-other_len-len-clause-fewer
returns-then-other_len-len-clause-fewer g c told =
    subst (λ n. Fewer (shown_of g.A.Disk.view g.B.Disk.view c.args.self.now.present) (shown_of g.A.Disk.view g.B.Disk.view n)) (sym c.refuse.ensures.present)
    (fewer-live g.A.Disk.view g.B.Disk.view _ _ _ _ (c.args.self.now.thawed c.requires.lives) refl (fewer-stays _ _ (stays-rested _ _ (c.known_len.ensures.rests told.0))) (fewer-stays _ _ (stays-rested _ _ (c.known_len-2.ensures.rests told.1))))

pub renewed-requires-clause-whole : goal.renewed-requires-clause-whole
renewed-requires-clause-whole g c =
    dirty-both _ _ _ _ _ _ _ (ap (λ p. p.kept) c.freeze.ensures.pair ∙ c.requires.kept) (known-some _ _ (c.join.ensures.source_known (inl c.in-Both.is)).1) (known-some _ _ (c.join.ensures.other_known c.in-Both.is).1)
    (λ told. (c.join.ensures.source_stays (inl c.in-Both.is) told.0).gives
    ∙ sym (c.join.ensures.alike c.in-Both.is told.0 told.1 (subst (λ p. HasHeader (g.B.Disk.view p.second.disk.now)) (sym c.freeze.ensures.pair) (c.in-Ok-known_len.ensures.len told.1).long)
    (sym (c.in-Ok.ensures.len told.0).len_is ∙ sym (ap (λ p. length (first_of g.A.Disk.view g.B.Disk.view p).gives) c.freeze.ensures.pair))
    (subst (λ p. length (second_of g.A.Disk.view g.B.Disk.view p).gives ≤ c.in-Ok.len) (sym c.freeze.ensures.pair) (subst (λ y. y ≤ c.in-Ok.len) (sym (c.in-Ok-known_len.ensures.len told.1).len_is) (search rules)))))

pub renewed-requires-clause-saved : goal.renewed-requires-clause-saved
renewed-requires-clause-saved g c =
    saved-both _ _ _ _ (ap (λ p. p.kept) c.freeze.ensures.pair ∙ c.requires.kept) (λ told. c.join.ensures.source_saved (inl c.in-Both.is) told.0) (λ told. c.join.ensures.other_saved c.in-Both.is told.1) (λ told. c.join.ensures.source_synced (inl c.in-Both.is) told.0) (λ told. c.join.ensures.other_synced c.in-Both.is told.1)
    (λ told. (c.join.ensures.source_stays (inl c.in-Both.is) told.0).gives
    ∙ sym (c.join.ensures.alike c.in-Both.is told.0 told.1 (subst (λ p. HasHeader (g.B.Disk.view p.second.disk.now)) (sym c.freeze.ensures.pair) (c.in-Ok-known_len.ensures.len told.1).long)
    (sym (c.in-Ok.ensures.len told.0).len_is ∙ sym (ap (λ p. length (first_of g.A.Disk.view g.B.Disk.view p).gives) c.freeze.ensures.pair))
    (subst (λ p. length (second_of g.A.Disk.view g.B.Disk.view p).gives ≤ c.in-Ok.len) (sym c.freeze.ensures.pair) (subst (λ y. y ≤ c.in-Ok.len) (sym (c.in-Ok-known_len.ensures.len told.1).len_is) (search rules)))))

pub returns-in-Both-clause-gives : goal.returns-in-Both-clause-gives
returns-in-Both-clause-gives g c told done =
    c.renewed.ensures.gives ∙ given-both g.A.Disk.view g.B.Disk.view (record c.freeze.new.self.present.pair { first = c.join.new.source; second = c.join.new.other }) (ap (λ p. p.kept) c.freeze.ensures.pair ∙ c.requires.kept)
    ∙ (c.join.ensures.source_stays (inl c.in-Both.is) told.0).gives ∙ ap (λ p. (first_of g.A.Disk.view g.B.Disk.view p).gives) c.freeze.ensures.pair ∙ (c.known_len.ensures.rests told.0).gives
    ∙ sym (gives-by-both g.A.Disk.view g.B.Disk.view _ c.args.self.now.present.pair _ (c.args.self.now.thawed c.requires.lives) c.requires.kept)

pub returns-in-Both-clause-fewer : goal.returns-in-Both-clause-fewer
returns-in-Both-clause-fewer g c told =
    fewer-synced _ _ (c.renewed.ensures.all_synced told)
    (c.renewed.ensures.gives ∙ given-both g.A.Disk.view g.B.Disk.view (record c.freeze.new.self.present.pair { first = c.join.new.source; second = c.join.new.other }) (ap (λ p. p.kept) c.freeze.ensures.pair ∙ c.requires.kept)
    ∙ (c.join.ensures.source_stays (inl c.in-Both.is) told.0).gives ∙ ap (λ p. (first_of g.A.Disk.view g.B.Disk.view p).gives) c.freeze.ensures.pair ∙ (c.known_len.ensures.rests told.0).gives
    ∙ sym (gives-by-both g.A.Disk.view g.B.Disk.view _ c.args.self.now.present.pair _ (c.args.self.now.thawed c.requires.lives) c.requires.kept))
    (given g.A.Disk.view g.B.Disk.view (g.met.A.Disk.given told.0) (g.met.B.Disk.given told.1) c.args.self.now.present)

pub renewed-requires-in-SourceAlone-clause-whole : goal.renewed-requires-in-SourceAlone-clause-whole
renewed-requires-in-SourceAlone-clause-whole g c =
    dirty-first _ _ _ _ _ _ _ refl (known-some _ _ (c.join.ensures.source_known (inr c.in-SourceAlone.is)).1)

pub renewed-requires-in-SourceAlone-clause-saved : goal.renewed-requires-in-SourceAlone-clause-saved
renewed-requires-in-SourceAlone-clause-saved g c =
    saved-first _ _ _ _ refl (λ told. c.join.ensures.source_saved (inr c.in-SourceAlone.is) told.0) (λ told. c.join.ensures.source_synced (inr c.in-SourceAlone.is) told.0)

pub returns-in-SourceAlone-clause-gives : goal.returns-in-SourceAlone-clause-gives
returns-in-SourceAlone-clause-gives g c told done =
    c.renewed-in-SourceAlone.ensures.gives ∙ given-first g.A.Disk.view g.B.Disk.view (record c.freeze.new.self.present.pair { first = c.join.new.source; second = c.join.new.other; kept = left.First }) refl
    ∙ (c.join.ensures.source_stays (inr c.in-SourceAlone.is) told.0).gives ∙ ap (λ p. (first_of g.A.Disk.view g.B.Disk.view p).gives) c.freeze.ensures.pair ∙ (c.known_len.ensures.rests told.0).gives
    ∙ sym (gives-by-both g.A.Disk.view g.B.Disk.view _ c.args.self.now.present.pair _ (c.args.self.now.thawed c.requires.lives) c.requires.kept)

pub returns-in-SourceAlone-clause-fewer : goal.returns-in-SourceAlone-clause-fewer
returns-in-SourceAlone-clause-fewer g c told =
    fewer-synced _ _ (c.renewed-in-SourceAlone.ensures.all_synced told)
    (c.renewed-in-SourceAlone.ensures.gives ∙ given-first g.A.Disk.view g.B.Disk.view (record c.freeze.new.self.present.pair { first = c.join.new.source; second = c.join.new.other; kept = left.First }) refl
    ∙ (c.join.ensures.source_stays (inr c.in-SourceAlone.is) told.0).gives ∙ ap (λ p. (first_of g.A.Disk.view g.B.Disk.view p).gives) c.freeze.ensures.pair ∙ (c.known_len.ensures.rests told.0).gives
    ∙ sym (gives-by-both g.A.Disk.view g.B.Disk.view _ c.args.self.now.present.pair _ (c.args.self.now.thawed c.requires.lives) c.requires.kept))
    (given g.A.Disk.view g.B.Disk.view (g.met.A.Disk.given told.0) (g.met.B.Disk.given told.1) c.args.self.now.present)

pub returns-in-Fault-clause-fewer : goal.returns-in-Fault-clause-fewer
returns-in-Fault-clause-fewer g c told =
    subst (λ n. Fewer (shown_of g.A.Disk.view g.B.Disk.view c.args.self.now.present) (shown_of g.A.Disk.view g.B.Disk.view n)) (sym c.cut_short-in-Fault.ensures.present)
    (fewer-frozen g.A.Disk.view g.B.Disk.view _ _ _ _ _ _ _ (c.args.self.now.thawed c.requires.lives) c.freeze.ensures.shows (ap (λ x. saved_by g.A.Disk.view g.B.Disk.view x.items) c.freeze.ensures.saved) refl (fewer-stays _ _ (stays-rested _ _ (c.known_len.ensures.rests told.0))) (fewer-stays _ _ (stays-rested _ _ (c.known_len-2.ensures.rests told.1))))
