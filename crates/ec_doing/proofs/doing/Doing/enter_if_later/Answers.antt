use Rattle.std.proofs.Common.{◌≡◌, ◌<◌, ◌≤◌, ap, sym, subst, refl}
use Rattle.std.specs.Prelude.{MatchBool}
use Rattle.std.proofs.lemmas.Bool.{lt-ltb, le-ltb}
use Rattle.ec_cache.specs.Cache as cached
use Rattle.ec_doing.specs.Seen.{doing_of}
use Rattle.ec_doing.proofs.Steps.{entered, not_entered}
use Rattle.ec_doing.proofs.doing.Doing.enter_if_later.Goals as goal

pub returns : goal.returns
returns c =
    let own = c.args.self.now.epoch in
    let old = c.args.self.now.cache in
    let new = c.forget_numbers.new.cache in
    let later = subst (λ b. MatchBool b ((own < c.args.epoch) × (new ≡ cached.new_epoch old)) ((c.args.epoch ≤ own) × (new ≡ old))) c.if-not-branch.false c.in_ok-forget_numbers.ensures in
    λ ws. entered ws c.args.self.now c.args.epoch new _ (lt-ltb own c.args.epoch later.0) later.1 (rw (c.new.ensures.items, c.new-2.ensures.items) refl)

pub returns-then-not-branch : goal.returns-then-not-branch
returns-then-not-branch c =
    let own = c.args.self.now.epoch in
    let old = c.args.self.now.cache in
    let new = c.forget_numbers.new.cache in
    let early = subst (λ b. MatchBool b ((own < c.args.epoch) × (new ≡ cached.new_epoch old)) ((c.args.epoch ≤ own) × (new ≡ old))) c.if-not-branch.true c.in_ok-forget_numbers.ensures in
    λ ws. not_entered ws c.args.self.now c.args.epoch _ (le-ltb own c.args.epoch early.0) (ap (λ k. doing_of ws (record (c.args.self.now) { cache = k })) (sym early.1))
