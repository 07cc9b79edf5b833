use Rattle.ec_half.proofs.Halves.{told-length, header-rests}
use Rattle.ec_half.proofs.half.Half.len.Goals as goal

pub returns-in-Len-clause-len : goal.returns-in-Len-clause-len
returns-in-Len-clause-len g c told n is = told-length c.in-Len.len c.saturating_sub.result n (g.D.Disk.view c.args.self.now.disk.now) (c.len.ensures.len told c.in-Len.len c.in-Len.is) c.saturating_sub.ensures is

pub returns-in-Len-clause-header : goal.returns-in-Len-clause-header
returns-in-Len-clause-header g c told long = header-rests (g.D.Disk.view c.args.self.now.disk.now) (g.D.Disk.view c.len.new.self) (c.len.ensures.rests told) long

pub returns-in-Failed-clause-header : goal.returns-in-Failed-clause-header
returns-in-Failed-clause-header g c told long = header-rests (g.D.Disk.view c.args.self.now.disk.now) (g.D.Disk.view c.len.new.self) (c.len.ensures.rests told) long

pub returns-in-Stopped-clause-header : goal.returns-in-Stopped-clause-header
returns-in-Stopped-clause-header g c told long = header-rests (g.D.Disk.view c.args.self.now.disk.now) (g.D.Disk.view c.len.new.self) (c.len.ensures.rests told) long
