use Rattle.ec_sessions.specs.Windows.{new_window}
use Rattle.ec_sessions.specs.WindowLaws.{low_is_last, marked_is_had, new_marks, once}
use Rattle.ec_sessions.proofs.laws.marks_of_a_window.Goals as goal

pub returns : goal.returns
returns c = record {
  has = λ ns n h. (new_marks ns n h, marked_is_had new_window ns n);
  once = once new_window;
  low = low_is_last;
}
