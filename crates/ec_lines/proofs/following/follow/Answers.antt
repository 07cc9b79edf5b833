use Rattle.std.proofs.Common.{◌≡◌, ◌<◌, ◌+◌, ◌++◌, ◌∷◌, [], sym, subst, refl, arith, rules, length, take}
use Rattle.std.proofs.lemmas.Option.{slice_get_read}
use Rattle.ec_lines.specs.Index.{AreBegins}
use Rattle.ec_lines.specs.Seen.{Sees}
use Rattle.ec_lines.proofs.Onward.{first-fault, front-at, placeable-step, begins-step, shape-of}
use Rattle.ec_lines.proofs.following.follow.Goals as goal

pub returns-in-Some-clause-fault : goal.returns-in-Some-clause-fault
returns-in-Some-clause-fault c =
    let ss = c.args.shown.now in
    let i = c.loop-at.at in
    let s = c.index-shown-at.result in
    let within : i < length ss = omega (arith, c.loop-at-test.true, c.requires.within) in
    first-fault ss i s c.in-Some.rule (slice_get_read ss (length ss) i s refl within c.index-shown-at.is) c.loop-at.invariant.placeable (rw c.in-Some.is at c.in_ok-rule.ensures)

pub begins-begun-requires-clause-shape : goal.begins-begun-requires-clause-shape
begins-begun-requires-clause-shape c = shape-of (take c.loop-at.at c.args.shown.now) c.index-shown-at.result (rw c.in_default.is at c.in_ok-rule.ensures)

pub note-requires-clause-shape : goal.note-requires-clause-shape
note-requires-clause-shape c = shape-of (take c.loop-at.at c.args.shown.now) c.index-shown-at.result (rw c.in_default.is at c.in_ok-rule.ensures)

pub loop-at-preserved : goal.loop-at-preserved
loop-at-preserved c =
    let ss = c.args.shown.now in
    let i = c.loop-at.at in
    let s = c.index-shown-at.result in
    let within : i < length ss = omega (arith, c.loop-at-test.true, c.requires.within) in
    let g = slice_get_read ss (length ss) i s refl within c.index-shown-at.is in
    let e : c.push.new.self.items ≡ c.loop-at.following.begins.items ++ c.begins-begun.result ∷ [] = search rules in
    record {
      sees = subst (Sees c.note.new.seen) (sym (front-at ss i s g)) c.in_ok-note.ensures;
      placeable = placeable-step ss i s g c.loop-at.invariant.placeable (rw c.in_default.is at c.in_ok-rule.ensures);
      begins = subst (AreBegins [] (take (i + 1) ss)) (sym e) (begins-step ss c.loop-at.following.begins.items i s c.begins-begun.result g c.loop-at.invariant.begins c.begins-begun.ensures);
    }
