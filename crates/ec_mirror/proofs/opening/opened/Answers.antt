use Rattle.std.proofs.Common.{◌∙◌, ap, refl, sym, subst}
use Rattle.std.specs.Prelude.{false}
use Rattle.ec_half.specs.Contents.{AllSynced}
use Rattle.ec_mirror.specs.Shown.{first_of, second_of, given_by, saved_by, IsWhole}
use Rattle.ec_mirror.proofs.Lives.{shown-saved, gives-live}
use Rattle.ec_mirror.proofs.Showing.{synced-of}
use Rattle.ec_mirror.proofs.Wholes.{whole-saved}
use Rattle.ec_mirror.proofs.opening.opened.Goals as goal

pub invariant_of-result-clause-whole : goal.invariant_of-result-clause-whole
invariant_of-result-clause-whole g c sound =
    subst (λ l. IsWhole (g.A.Disk.tells × g.B.Disk.tells) c.new.result.pair.kept (first_of g.A.Disk.view g.B.Disk.view c.new.result.pair) (second_of g.A.Disk.view g.B.Disk.view c.new.result.pair) c.new.result.pair.first.len c.new.result.pair.second.len false (saved_by g.A.Disk.view g.B.Disk.view l)) (sym c.new.ensures.saved)
    (subst (λ p. IsWhole (g.A.Disk.tells × g.B.Disk.tells) p.kept (first_of g.A.Disk.view g.B.Disk.view p) (second_of g.A.Disk.view g.B.Disk.view p) p.first.len p.second.len false (given_by g.A.Disk.view g.B.Disk.view c.args.pair)) (sym c.new.ensures.pair)
    (whole-saved (g.A.Disk.tells × g.B.Disk.tells) (first_of g.A.Disk.view g.B.Disk.view c.args.pair) (second_of g.A.Disk.view g.B.Disk.view c.args.pair) _ _ c.args.pair.kept _ c.requires.whole_at refl))

pub invariant_of-result-clause-first_saved : goal.invariant_of-result-clause-first_saved
invariant_of-result-clause-first_saved g c live behind told out =
    ap (λ p. (first_of g.A.Disk.view g.B.Disk.view p).synced) c.new.ensures.pair ∙ c.requires.saved.first_saved told (λ e. out (ap (λ p. p.kept) c.new.ensures.pair ∙ e)) ∙ sym (ap (λ l. saved_by g.A.Disk.view g.B.Disk.view l) c.new.ensures.saved)

pub invariant_of-result-clause-second_saved : goal.invariant_of-result-clause-second_saved
invariant_of-result-clause-second_saved g c live behind told out =
    ap (λ p. (second_of g.A.Disk.view g.B.Disk.view p).synced) c.new.ensures.pair ∙ c.requires.saved.second_saved told (λ e. out (ap (λ p. p.kept) c.new.ensures.pair ∙ e)) ∙ sym (ap (λ l. saved_by g.A.Disk.view g.B.Disk.view l) c.new.ensures.saved)

pub returns-clause-shows : goal.returns-clause-shows
returns-clause-shows g c =
    gives-live g.A.Disk.view g.B.Disk.view _ _ _ c.new.ensures.frozen

pub returns-clause-synced : goal.returns-clause-synced
returns-clause-synced g c told =
    shown-saved g.A.Disk.view g.B.Disk.view AllSynced _ _ c.args.pair _ c.new.ensures.frozen c.new.ensures.pair c.new.ensures.saved (synced-of (g.A.Disk.tells × g.B.Disk.tells) c.args.pair.kept (first_of g.A.Disk.view g.B.Disk.view c.args.pair) (second_of g.A.Disk.view g.B.Disk.view c.args.pair) told c.requires.whole (c.requires.whole_at.alike told) c.requires.saved)
