use Rattle.std.proofs.Common.{rules, ◌≡◌, inr, arith, subst}
use Rattle.ec_disk.specs.declared.disk.DiskAnswer.TheVariants as said
use Rattle.ec_half.specs.Headers.{IsNoHalf}
use Rattle.ec_half.proofs.Headers.{which_is, bad_place_is, found_read, bad_read}
use Rattle.ec_half.proofs.header.look_at.Goals as goal

pub returns-in-Ok-clause-ok : goal.returns-in-Ok-clause-ok
returns-in-Ok-clause-ok g c taken told =
    let done : c.read_at.result ≡ said.Done = search rules in
    inr (
      c.in-Ok.generation,
      found_read (g.D.Disk.view c.args.disk.now) (g.D.Disk.view c.len.new.self) c.read_at.new.into c.in-Len.len (c.len.ensures.len told c.in-Len.len c.in-Len.is) (omega (arith, c.if-len-le-HEADER_BYTES.false)) (c.len.ensures.rests told).gives
          (c.read_at.ensures.bytes told done) c.in-Ok.generation (c.generation_in.ensures.found c.in-Ok.generation c.in-Ok.is),
    )

pub returns-in-Ok-clause-found : goal.returns-in-Ok-clause-found
returns-in-Ok-clause-found g c told =
    let done : c.read_at.result ≡ said.Done = search rules in
    let len_is = c.len.ensures.len told c.in-Len.len c.in-Len.is in (
      omega (arith, len_is, c.if-len-le-HEADER_BYTES.false),
      found_read (g.D.Disk.view c.args.disk.now) (g.D.Disk.view c.len.new.self) c.read_at.new.into c.in-Len.len len_is (omega (arith, c.if-len-le-HEADER_BYTES.false)) (c.len.ensures.rests told).gives
          (c.read_at.ensures.bytes told done) c.in-Ok.generation (c.generation_in.ensures.found c.in-Ok.generation c.in-Ok.is),
    )

pub returns-in-Err-clause-bad : goal.returns-in-Err-clause-bad
returns-in-Err-clause-bad g c k place is = (
  which_is c.args.which k c.in-Err.place place is,
  λ told.
      let done : c.read_at.result ≡ said.Done = search rules in
      subst (IsNoHalf (g.D.Disk.view c.args.disk.now).gives) (bad_place_is c.args.which k c.in-Err.place place is)
      (bad_read (g.D.Disk.view c.args.disk.now) (g.D.Disk.view c.len.new.self) c.read_at.new.into c.in-Len.len (c.len.ensures.len told c.in-Len.len c.in-Len.is) (omega (arith, c.if-len-le-HEADER_BYTES.false)) (c.len.ensures.rests told).gives
      (c.read_at.ensures.bytes told done) c.in-Err.place (c.generation_in.ensures.bad c.in-Err.place c.in-Err.is)),
)
