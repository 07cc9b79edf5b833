use Rattle.std.proofs.Common.{◌≡◌, ◌∙◌, ℕ, ◌+◌, [], length, ap, subst, sym, arith}
use Rattle.std.proofs.lemmas.List.{get_or_read}
use Rattle.ec_plain.specs.Walk.{Path}
use Rattle.ec_mount_words.specs.OfRoute.Routes.{path_at}
use Rattle.ec_mount_words.proofs.OfRoute.Nearest.{IsNearest, tested, nearer, passed}
use Rattle.ec_mount_words.proofs.route.table.volume_of.Goals as goal
use Rattle.ec_mount_words.proofs.route.table.volume_of.Goals.{then-not-is_longer-via-then-not-is_longer, then-not-is_longer-via-else-not-is_longer+then-not-starts_with}

pub table-preserved-then-not-is_longer : goal.table-preserved-then-not-is_longer
table-preserved-then-not-is_longer c =
    let table = c.args.table.now in
    let path = c.args.path.now in
    let mount = c.names-mount.result.now in
    let mount_is : mount ≡ path_at table c.table.place = c.names-mount.ensures.value ∙ get_or_read table c.table.place c.index-table-place.result c.table-test.true c.index-table-place.is [] in
    let many : length mount ≡ length (path_at table c.table.place) = ap (λ (m : Path). length m) mount_is in
    passed table path c.table.place c.table.found c.table.reach c.table.invariant
    (λ below. elim c.then-not-is_longer.branch [
      | then-not-is_longer-via-then-not-is_longer w ↦ omega (arith, many, w.if-not-is_longer.ensures)
      | then-not-is_longer-via-else-not-is_longer+then-not-starts_with w ↦
          absurd ((tested w.starts_with.result c.names-names.result.now mount path (path_at table c.table.place) c.names-names.ensures.value mount_is w.starts_with.ensures.value).1 w.if-not-starts_with.true below)
    ])

pub table-preserved : goal.table-preserved
table-preserved c =
    let table = c.args.table.now in
    let path = c.args.path.now in
    let mount = c.names-mount.result.now in
    let mount_is : mount ≡ path_at table c.table.place = c.names-mount.ensures.value ∙ get_or_read table c.table.place c.index-table-place.result c.table-test.true c.index-table-place.is [] in
    let many : length mount ≡ length (path_at table c.table.place) = ap (λ (m : Path). length m) mount_is in
    let below = (tested c.starts_with.result c.names-names.result.now mount path (path_at table c.table.place) c.names-names.ensures.value mount_is c.starts_with.ensures.value).0 c.if-not-starts_with.false in
    subst (λ (n : ℕ). IsNearest table path (c.table.place + 1) c.table.place (n + 1)) (sym many)
    (nearer table path c.table.place c.table.found c.table.reach c.table.invariant c.table-test.true below (omega (arith, many, c.if-not-is_longer.ensures)))
