use Rattle.std.proofs.Common.{◌≤◌, ℕ, Option, sym, subst}
use Rattle.ec_volume.specs.declared.update.Update.{Update}
use Rattle.ec_log.proofs.OfChains.Taken.{last-most, latest-found, none-found}
use Rattle.ec_log.specs.OfChains.Slots.{placed, shown_update}
use Rattle.ec_log.proofs.OfChains.Live.{placed-length, placed-last}
use Rattle.ec_log.proofs.chains.walking.last_on.Goals as goal

pub down-init : goal.down-init
down-init c =
    let held = c.args.held.now in
    let x : ℕ × Option Update = c.index-held-held.result in (
      c.up_to-count.ensures.within,
      λ n u h t. c.up_to-count.ensures.members n
          (subst (λ (y : ℕ × Option Update). n ≤ y.0) c.index-held-held.is
          (last-most (placed held) (x.0, shown_update x.1) c.requires.sorted (subst (λ k. 1 ≤ k) (sym (placed-length held)) c.in-len1-up.len_at_least) (placed-last held x c.index-held-held.is) n u h))
          (c.requires.linked n u h t),
    )

pub returns-in-Some : goal.returns-in-Some
returns-in-Some c =
    latest-found c.args.obj c.args.chain.now (placed c.args.held.now) c.requires.sorted c.requires.rising c.down.count c.index-chain-count.result c.in-Some.place c.down.invariant c.down-test.true c.index-chain-count.is c.in-Some.ensures

pub returns : goal.returns
returns c = none-found c.args.obj c.args.chain.now (placed c.args.held.now) c.requires.sorted c.requires.rising c.down.count c.down.invariant c.down-test.false
