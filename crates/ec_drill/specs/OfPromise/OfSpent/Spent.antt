-- The counters that a drill can spend, told by a line.
use Rattle.std.specs.Prelude.{⊤}
use Rattle.ec_base.specs.declared.counter.Counter.{Counter}
use Rattle.ec_base.specs.declared.counter.Counter.TheVariants.{Boot, Session, Epoch, Id}
use Rattle.ec_history.specs.declared.shown.Shown.{Shown}
use Rattle.ec_history.specs.declared.shown.Shown.TheVariants.{Spent}

-- What the disk keeps of these, a run goes on from. All other counters begin anew where their node starts.
abbrev pub MaySpend : Counter → Type 0
MaySpend Boot = ⊤
MaySpend Session = ⊤
MaySpend Epoch = ⊤
MaySpend Id = ⊤
MaySpend _ = ⊥

-- a line that tells a spent counter tells one of these
abbrev pub SpendsFew : Shown → Type 0
SpendsFew (Spent n) = MaySpend n
SpendsFew _ = ⊤
