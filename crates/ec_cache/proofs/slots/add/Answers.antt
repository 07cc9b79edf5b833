use Rattle.std.proofs.Common.{◌≡◌, ◌∙◌, ap, ℕ, T, Option, None, Result, Ok, Err}
use Rattle.std.specs.Prelude.{OnOk}
use Rattle.std.specs.Ordering.{nat_cmp}
use Rattle.std.specs.FinMap.{is_sorted}
use Rattle.ec_base.specs.Tables.{Table, put, without}
use Rattle.ec_cache.specs.Marks.{marks}
use Rattle.ec_cache.proofs.Marks.{marks-clear}
use Rattle.ec_cache.proofs.slots.add.Goals as goal

opened : {Y A E : Type 0} (k : ℕ) (old new : Table (Option Y)) (r : Result A E) → OnOk r (new ≡ put k None old) → T (is_sorted nat_cmp old) → OnOk r (marks new ≡ without k (marks old))
opened k old new (Ok a) is h = ap marks is ∙ marks-clear k old h
opened k old new (Err e) is h = is

pub returns-clause-marks : goal.returns-clause-marks
returns-clause-marks c = opened c.args.obj c.args.slots.now c.insert.new.self c.insert.result c.insert.ensures.ok c.requires
