-- Calls that write nothing, one behind the other.
use Rattle.std.proofs.Common.{ℕ, ◌≤◌, List, refl, sym, ◌∙◌, arith, inl, inr, ⊎_elim}
use Rattle.ec_disk.specs.Disk.{View}
use Rattle.ec_disk.specs.Effects.{Rests, IsSynced, LeavesOnly}

pub rests_same : (now : View) → Rests now now
rests_same now = record {
  gives = refl;
  crash = λ c left. left;
  time = record { later = omega arith; nothing_else = λ t c le left. inl left; keeps = λ t c le left. left };
}

pub rests_then : (a b c : View) → ((t : ℕ) (image : List ℕ) → t ≤ a.moment → a.may_leave image → a.left_since t image) → Rests a b → Rests b c → Rests a c
rests_then a b c counts first second = record {
  gives = second.gives ∙ first.gives;
  crash = λ image left. first.crash image (second.crash image left);
  time = record {
    later = omega (arith, first.time.later, second.time.later);
    nothing_else = λ t image le left.
        ⊎_elim (λ was. ⊎_elim (λ before. inl before) (λ mid. inl (counts t image le (first.crash image mid))) (first.time.nothing_else t image le was)) (λ now. inr now)
        (second.time.nothing_else t image (omega (arith, le, first.time.later)) left);
    keeps = λ t image le left. second.time.keeps t image (omega (arith, le, first.time.later)) (first.time.keeps t image le left);
  };
}

-- what is left then is what might be left before
pub rests_leave : (P : List ℕ → Type 0) (old new : View) → Rests old new → ((c : List ℕ) → old.left_since old.moment c → old.may_leave c) → ((c : List ℕ) → old.may_leave c → P c) → LeavesOnly old new P
rests_leave P old new rests only all = record {
  later = rests.time.later;
  each = λ c left. ⊎_elim (λ was. all c (only c was)) (λ now. all c (rests.crash c now)) (rests.time.nothing_else old.moment c (omega arith) left);
  before = λ t c le left. ⊎_elim (λ was. inl was) (λ now. inr (all c (rests.crash c now))) (rests.time.nothing_else t c le left);
}

pub rests_synced : (old new : View) → Rests old new → IsSynced old → IsSynced new
rests_synced old new rests synced c left = synced c (rests.crash c left) ∙ sym rests.gives
