use Rattle.std.proofs.Common.{◌≡◌, ◌<◌, ◌≤◌, ◌+◌, ◌++◌, sym, ap, subst, refl, ◌∙◌, arith, List, length, take, drop, get_or, Some}
use Rattle.std.proofs.lemmas.Option.{slice_get_read}
use Rattle.std.proofs.lemmas.List.{take-append-le}
use Rattle.ec_history.specs.declared.shown.Shown.{Shown}
use Rattle.ec_history.specs.Placing.{line_entries}
use Rattle.ec_watch.specs.Watches.{AreWatched}
use Rattle.ec_legal.proofs.Entries.{starts-few, front-at, place-step}
use Rattle.ec_legal.proofs.Told.{front-of, line-of, line-more, settled-line}
use Rattle.ec_legal.proofs.history.place_lines.Goals as goal

pub push-requires-clause-line : goal.push-requires-clause-line
push-requires-clause-line c =
    let ss = c.args.lines.now.shown.now in
    let i = c.loop-at.at in
    let near : i < c.args.followed = omega (arith, c.loop-at-test.true, c.requires.known) in
    let within : i < length ss = omega (arith, near, c.requires.within) in
    line-of ss i c.args.followed c.index-lines-at.result near (slice_get_read ss (length ss) i c.index-lines-at.result refl within c.index-lines-at.is) ∙ ap Some c.index-lines-at.is

pub push-requires-clause-watched : goal.push-requires-clause-watched
push-requires-clause-watched c =
    let near : c.loop-at.at ≤ c.args.followed = omega (arith, c.loop-at-test.true, c.requires.known) in
    subst (AreWatched c.loop-at.watches) (sym (front-of c.args.lines.now.shown.now c.loop-at.at c.args.followed near)) c.loop-at.invariant.0

pub note-requires-clause-starts : goal.note-requires-clause-starts
note-requires-clause-starts c w k g =
    let ss = c.args.lines.now.shown.now in
    let within : c.loop-at.at ≤ length ss = omega (arith, c.loop-at-test.true, c.requires.known, c.requires.within) in
    let below : length ss < 4294967296 = omega (arith, c.requires.few) in
    let few = starts-few c.loop-at.watches ss c.loop-at.at 4294967296 c.loop-at.invariant.0 within below w k g in
    omega (arith, few)

pub loop-at-preserved : goal.loop-at-preserved
loop-at-preserved c =
    let ss = c.args.lines.now.shown.now in
    let i = c.loop-at.at in
    let n = c.args.followed in
    let found = c.index-lines-at.result in
    let s = get_or ss i found in
    let near : i < n = omega (arith, c.loop-at-test.true, c.requires.known) in
    let within : i < length ss = omega (arith, near, c.requires.within) in
    let g = slice_get_read ss (length ss) i found refl within c.index-lines-at.is ∙ ap Some c.index-lines-at.is in
    let known : (more : List Shown) → take n (ss ++ more) ≡ take n ss = λ more. take-append-le n ss more c.requires.within in (
      subst (AreWatched c.note.new.watches) (sym (front-at ss i s g)) (c.in_ok-note.ensures (take i ss) c.loop-at.invariant.0),
      λ more settled.
          let ts = ss ++ more in
          let there = line-more ss more i s g in
          let gives = settled-line ts i n s settled near there c.push.ensures.below (front-at ts i s there) in
          let same = subst (λ k. line_entries (take i k) s (drop (i + 1) k) ≡ line_entries (take i ts) s (drop (i + 1) ts)) (known more) gives in
          place-step ts i s _ c.loop-at.entries.items c.push.new.entries.items there (c.loop-at.invariant.1 more settled)
          (c.in_ok-push.ensures.entries ∙ ap (λ h. c.loop-at.entries.items ++ h) same),
    )
