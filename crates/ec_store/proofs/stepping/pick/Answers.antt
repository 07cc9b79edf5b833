use Rattle.std.proofs.Common.{arith, ap, sym, subst, ◌∙◌}
use Rattle.ec_volume.specs.Held.{IsVolume}
use Rattle.ec_store.specs.Stepping.{picked}
use Rattle.ec_store.proofs.Trying.{picked_volume}
use Rattle.std.proofs.lemmas.List.{take_all}
use Rattle.ec_store.proofs.stepping.pick.Goals as goal

pub of-requires : goal.of-requires
of-requires c =
    let ids = c.args.ids.now in
    let es = c.items-object-items.result.now in
    let all = c.objects.invariant ∙ ap (λ l. picked ids l) (take_all c.objects.object-index es (omega (arith, c.objects-test.false))) in
    subst IsVolume (sym all) (picked_volume ids es (subst IsVolume (sym c.items-object-items.ensures.value) c.items-object-items.ensures.volume))
