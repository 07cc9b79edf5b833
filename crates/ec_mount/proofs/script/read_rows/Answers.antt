use Rattle.std.proofs.Common.{refl}
use Rattle.ec_mount.proofs.Rows.{reads}
use Rattle.ec_mount.proofs.script.read_rows.Goals as goal

pub lines-preserved : goal.lines-preserved
lines-preserved c =
    reads c.args.script.now c.lines.ahead.now c.split_line.result.1.now c.split_line.result.0.now c.lines.rows.items c.lines.line c.lines.invariant c.split_line.ensures.lines
    (record { line = c.lines.line; lane = c.in-Ok.read.0; call = c.in-Ok.read.1 }) c.push.new.self.items refl c.in-Ok.ensures c.in_ok-push.ensures.items
