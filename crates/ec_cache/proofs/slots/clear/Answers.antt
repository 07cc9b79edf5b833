use Rattle.std.proofs.Common.{◌≡◌, ◌∙◌, ap, sym, ℕ, T, Option, None, Some}
use Rattle.std.specs.Prelude.{OnSome, IfNone}
use Rattle.std.specs.Ordering.{nat_cmp}
use Rattle.std.specs.FinMap.{is_sorted}
use Rattle.ec_base.specs.Tables.{Table, at, put, without}
use Rattle.ec_cache.specs.Marks.{marks}
use Rattle.ec_cache.proofs.Marks.{marks-clear, marks-absent}
use Rattle.ec_cache.proofs.slots.clear.Goals as goal

cleared : {Y : Type 0} (k : ℕ) (old new : Table (Option Y)) (r : Option (Option Y)) → r ≡ at k old → OnSome r (new ≡ put k None old) → IfNone r (new ≡ old) → T (is_sorted nat_cmp old) → marks new ≡ without k (marks old)
cleared k old new None is some none h = ap marks none ∙ marks-absent k old h (sym is)
cleared k old new (Some o) is some none h = ap marks some ∙ marks-clear k old h

pub returns-clause-marks : goal.returns-clause-marks
returns-clause-marks c = cleared c.args.obj c.args.slots.now c.replace.new.self c.replace.result c.replace.ensures.value c.replace.ensures.some c.replace.ensures.none c.requires
