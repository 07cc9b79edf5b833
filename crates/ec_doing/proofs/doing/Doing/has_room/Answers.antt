use Rattle.std.proofs.Common.{sym, refl, ◌∙◌}
use Rattle.std.proofs.lemmas.Bool.{lt-leb, le-leb}
use Rattle.ec_doing.specs.Seen.{doing_of}
use Rattle.ec_doing.proofs.Ends.{waits_for_room}
use Rattle.ec_doing.proofs.doing.Doing.has_room.Goals as goal

pub returns : goal.returns
returns c = (refl, sym c.in_ok-suits.ensures ∙ c.if-not-branch.false, lt-leb _ _ (rw c.count.ensures at c.if-count-ge-MAX_UNDURABLE.false))

pub returns-then-count-ge-MAX_UNDURABLE : goal.returns-then-count-ge-MAX_UNDURABLE
returns-then-count-ge-MAX_UNDURABLE c = λ ws w o. waits_for_room ws c.args.self.now w o c.args.update.now (doing_of ws c.ask_for.new.self) (sym c.in_ok-suits.ensures ∙ c.if-not-branch.false) (le-leb _ _ (rw c.count.ensures at c.if-count-ge-MAX_UNDURABLE.true)) (c.in_ok-ask_for.ensures ws)
