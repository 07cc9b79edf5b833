use Rattle.ec_half.proofs.Halves.{length-known}
use Rattle.ec_half.proofs.half.Half.known_len.Goals as goal

pub returns-in-Len-clause-len : goal.returns-in-Len-clause-len
returns-in-Len-clause-len g c told =
    length-known c.in-Len.len (g.D.Disk.view c.args.self.now.disk.now) (g.D.Disk.view c.len.new.self) (c.len.ensures.len told c.in-Len.len c.in-Len.is) (c.len.ensures.rests told).gives c.if-len-ge-HEADER_BYTES.true
