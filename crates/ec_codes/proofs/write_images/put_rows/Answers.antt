use Rattle.std.proofs.Common.{◌≡◌, ◌∙◌, sym, arith}
use Rattle.ec_codes.specs.Images.{entry_spell}
use Rattle.ec_codes.specs.EntryLaws.{is_entry}
use Rattle.ec_codes.proofs.Written.{one_more}
use Rattle.ec_codes.proofs.write_images.put_rows.Goals as goal
use Rattle.ec_codes.proofs.write_images.put_rows.Goals.{in-Some+in_ok-put_row, in_default}

pub loop-place-preserved : goal.loop-place-preserved
loop-place-preserved c =
    elim c.match-at.branch [
      | in-Some+in_ok-put_row w ↦
          rw w.out-is (one_more entry_spell is_entry c.args.entries.now c.loop-place.place (w.in-Some.row.0.now, w.in-Some.row.1) c.args.out.now.items c.loop-place.out.items w.put_row.new.out.items
          w.in-Some.ensures c.loop-place.invariant w.in_ok-put_row.ensures.spelled w.in_ok-put_row.ensures.fit)
      | in_default w ↦ absurd (omega (arith, w.in_default.ensures, c.loop-place-test.true, c.len-place-end.ensures.value))
    ]
