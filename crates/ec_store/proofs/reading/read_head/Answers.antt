use Rattle.std.proofs.Common.{rules, arith, inl, inr}
use Rattle.ec_store.proofs.Heads.{short_bad, word_bad, most_bad, form_bad, good_head, most_stands, side_stands}
use Rattle.ec_store.proofs.reading.read_head.Goals as goal

pub returns-then-len-lt-HEAD_BYTES-clause-bad : goal.returns-then-len-lt-HEAD_BYTES-clause-bad
returns-then-len-lt-HEAD_BYTES-clause-bad g c p same told = short_bad (g.D.Disk.view c.args.disk.now).gives c.args.len (c.requires.len told) p (omega (arith, c.if-len-lt-HEAD_BYTES.true)) same

pub returns-then-not-head-clause-bad : goal.returns-then-not-head-clause-bad
returns-then-not-head-clause-bad g c p same told =
    word_bad (g.D.Disk.view c.args.disk.now).gives c.args.len (c.requires.len told) (omega (arith, c.if-len-lt-HEAD_BYTES.false)) c.read_at.new.into c.head_of-head.result (c.read_at.ensures.bytes told c.in_ok-done.ensures.ok) c.head_of-head.ensures.is p (search rules) same

pub returns-then-not-head-2-clause-bad : goal.returns-then-not-head-2-clause-bad
returns-then-not-head-2-clause-bad g c p same told =
    form_bad (g.D.Disk.view c.args.disk.now).gives c.args.len (c.requires.len told) (omega (arith, c.if-len-lt-HEAD_BYTES.false)) c.read_at.new.into c.head_of-head.result (c.read_at.ensures.bytes told c.in_ok-done.ensures.ok) c.head_of-head.ensures.is p (search rules) (omega (arith, c.if-head-lt-LEAST_MAX_OBJECTS.false)) (omega (arith, c.if-head-gt-MOST_MAX_OBJECTS.false)) (search rules) same

pub returns-then-head-lt-LEAST_MAX_OBJECTS-clause-bad : goal.returns-then-head-lt-LEAST_MAX_OBJECTS-clause-bad
returns-then-head-lt-LEAST_MAX_OBJECTS-clause-bad g c p same told =
    most_bad (g.D.Disk.view c.args.disk.now).gives c.args.len (c.requires.len told) (omega (arith, c.if-len-lt-HEAD_BYTES.false)) c.read_at.new.into c.head_of-head.result (c.read_at.ensures.bytes told c.in_ok-done.ensures.ok) c.head_of-head.ensures.is p (search rules) (inl (omega (arith, c.if-head-lt-LEAST_MAX_OBJECTS.true))) same

pub returns-then-head-gt-MOST_MAX_OBJECTS-clause-bad : goal.returns-then-head-gt-MOST_MAX_OBJECTS-clause-bad
returns-then-head-gt-MOST_MAX_OBJECTS-clause-bad g c p same told =
    most_bad (g.D.Disk.view c.args.disk.now).gives c.args.len (c.requires.len told) (omega (arith, c.if-len-lt-HEAD_BYTES.false)) c.read_at.new.into c.head_of-head.result (c.read_at.ensures.bytes told c.in_ok-done.ensures.ok) c.head_of-head.ensures.is p (search rules) (inr (omega (arith, c.if-head-gt-MOST_MAX_OBJECTS.true))) same

pub returns-clause-good : goal.returns-clause-good
returns-clause-good g c told =
    good_head (g.D.Disk.view c.args.disk.now).gives c.args.len (c.requires.len told) (omega (arith, c.if-len-lt-HEAD_BYTES.false)) c.read_at.new.into c.head_of-head.result (c.read_at.ensures.bytes told c.in_ok-done.ensures.ok) c.head_of-head.ensures.is (search rules) (omega (arith, c.if-head-lt-LEAST_MAX_OBJECTS.false)) (omega (arith, c.if-head-gt-MOST_MAX_OBJECTS.false)) (search rules)

pub returns-clause-side : goal.returns-clause-side
returns-clause-side g c told = side_stands (g.D.Disk.view c.args.disk.now).gives c.args.len (c.requires.len told) (omega (arith, c.if-len-lt-HEAD_BYTES.false)) c.read_at.new.into c.head_of-head.result (c.read_at.ensures.bytes told c.in_ok-done.ensures.ok) c.head_of-head.ensures.is

pub returns-clause-most : goal.returns-clause-most
returns-clause-most g c told = most_stands (g.D.Disk.view c.args.disk.now).gives c.args.len (c.requires.len told) (omega (arith, c.if-len-lt-HEAD_BYTES.false)) c.read_at.new.into c.head_of-head.result (c.read_at.ensures.bytes told c.in_ok-done.ensures.ok) c.head_of-head.ensures.is c.head_of-head.ensures.most
