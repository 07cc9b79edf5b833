-- Counts over two calls.
use Rattle.std.specs.Prelude.{◌≡◌, ◌⊎◌, ◌+◌, ◌-◌, ◌≤◌, ℕ, zero, suc, Option, Some, None}
use Rattle.std.proofs.Common.{⊎_elim, arith, ◌∙◌, ap, refl, subst}
use Rattle.std.proofs.lemmas.Bool.Decides.{nat_tests}
use Rattle.ec_base.specs.Outside.{Rose, one_more}
use Rattle.ec_disk.specs.Disk.{Counts, NoneDue, after_calls}
use Rattle.ec_disk.specs.Effects.{Counted, Called, CountsDown, IsDue, Turned, IsDueIn, calls_later}

one_more-rises : (a b : ℕ) → a ≤ b → one_more a ≤ one_more b
one_more-rises a b le = grind (arith, nat_tests, le)

rose-later : (a b c : ℕ) → Rose a b → b ≤ c → Rose a c
rose-later a b c rose le = omega (arith, rose, le)

later-rose : (a b c : ℕ) → a ≤ b → Rose b c → Rose a c
later-rose a b c le rose = omega (arith, one_more-rises a b le, rose)

-- one call behind another, where the whole fails or stops only as one of them does
pub counted_both : (a b c : Counts) (F S G T H K : Type 0) → Counted a b F S → Counted b c G T → (H → F ⊎ G) → (K → S ⊎ T) → Counted a c H K
counted_both a b c F S G T H K first second fails stops = record {
  faults_later = omega (arith, first.faults_later, second.faults_later);
  stops_later = omega (arith, first.stops_later, second.stops_later);
  failed = λ h. ⊎_elim (λ f. rose-later a.faults b.faults c.faults (first.failed f) second.faults_later) (λ g. later-rose a.faults b.faults c.faults first.faults_later (second.failed g)) (fails h);
  stopped = λ k. ⊎_elim (λ s. rose-later a.stops b.stops c.stops (first.stopped s) second.stops_later) (λ t. later-rose a.stops b.stops c.stops first.stops_later (second.stopped t)) (stops k);
  armed = λ k. ⊎_elim first.armed (λ t. first.not_rearmed (second.armed t)) (stops k);
  not_rearmed = λ some. first.not_rearmed (second.not_rearmed some);
  stays = λ was. second.stays (first.stays was);
  over = λ k. ⊎_elim (λ s. second.stays (first.over s)) second.over (stops k);
}

after_calls-add : (m n : ℕ) (armed : Option ℕ) → after_calls n (after_calls m armed) ≡ after_calls (m + n) armed
after_calls-add m n None = refl
after_calls-add m n (Some left) = ap (λ (k : ℕ). Some k) (omega arith)

calls_later-add : (m n : ℕ) (calls : ℕ) → calls_later n (calls_later m calls) ≡ calls_later (m + n) calls
calls_later-add m zero calls = ap (λ (k : ℕ). calls_later k calls) (none m)
  where
    none : (n : ℕ) → n ≡ n + 0
    none n = omega arith
calls_later-add m (suc n) calls = ap one_more (calls_later-add m n calls) ∙ ap (λ (k : ℕ). calls_later k calls) (step m n)
  where
    step : (j k : ℕ) → suc (j + k) ≡ j + suc k
    step j k = omega arith

pub called_both : (m n : ℕ) (a b c : Counts) → Called m a b → Called n b c → Called (m + n) a c
called_both m n a b c first second = record {
  numbered = second.numbered ∙ ap (λ (k : ℕ). calls_later n k) first.numbered ∙ calls_later-add m n a.calls;
  armed = second.armed ∙ ap (λ (armed : Option ℕ). after_calls n armed) first.armed ∙ after_calls-add m n a.armed;
}

none_at_first : (armed : Option ℕ) → NoneDue 0 armed
none_at_first None = tt
none_at_first (Some left) = omega arith

fewer_due : (n : ℕ) (armed : Option ℕ) → NoneDue n armed → NoneDue (n - 1) armed
fewer_due n None none = tt
fewer_due n (Some left) none = omega (arith, none)

due_more : (m n : ℕ) (armed : Option ℕ) → m ≤ n → IsDueIn m armed → IsDueIn n armed
due_more m n None le due = due
due_more m n (Some left) le due = omega (arith, le, due)

due_later : (m n : ℕ) (armed : Option ℕ) → IsDueIn n (after_calls m armed) → IsDueIn (m + n) armed
due_later m n None due = due
due_later m n (Some left) due = omega (arith, due)

none_then : (m n : ℕ) (armed : Option ℕ) → NoneDue m armed → NoneDue n (after_calls m armed) → NoneDue (m + n) armed
none_then m n None first second = tt
none_then m n (Some left) first second = omega (arith, first, second)

-- no call
pub turned_none : (armed : Option ℕ) (G : Type 0) → Turned 0 armed armed G ⊥
turned_none armed G = record { next = same armed; before = none_at_first armed; goes = λ g. none_at_first armed; stops = λ s. absurd s }
  where
    same : (a : Option ℕ) → a ≡ after_calls 0 a
    same None = refl
    same (Some left) = ap (λ (k : ℕ). Some k) (omega arith)

-- one call
pub turned_once : (old new : Option ℕ) (G S : Type 0) → CountsDown old new G S → Turned 1 old new G S
turned_once old new G S down = record {
  next = down.next;
  before = none_at_first old;
  goes = λ g. ahead old (down.goes g);
  stops = λ s. reached old (down.stops s);
}
  where
    ahead : (a : Option ℕ) → (IsDue a → ⊥) → NoneDue 1 a
    ahead None not_due = tt
    ahead (Some zero) not_due = absurd (not_due (omega arith))
    ahead (Some (suc zero)) not_due = absurd (not_due (omega arith))
    ahead (Some (suc (suc left))) not_due = omega arith

    reached : (a : Option ℕ) → IsDue a → IsDueIn 1 a
    reached None due = due
    reached (Some left) due = due

-- calls behind others that were done
pub turned_both : (m n : ℕ) (a b c : Option ℕ) (G H S T : Type 0) → Turned m a b G S → G → Turned n b c H T → Turned (m + n) a c H T
turned_both m n a b c G H S T first done second = record {
  next = second.next ∙ ap (λ (armed : Option ℕ). after_calls n armed) first.next ∙ after_calls-add m n a;
  before = all_but n second.before;
  goes = λ h. none_then m n a (first.goes done) (subst (NoneDue n) first.next (second.goes h));
  stops = λ t. due_later m n a (subst (IsDueIn n) first.next (second.stops t));
}
  where
    all_but : (k : ℕ) → NoneDue (k - 1) b → NoneDue ((m + k) - 1) a
    all_but zero none = fewer_due (m + 0) a (none_then m 0 a (first.goes done) (none_at_first (after_calls m a)))
    all_but (suc k) none = subst (λ (j : ℕ). NoneDue j a) (ends k) (none_then m (suc k - 1) a (first.goes done) (subst (NoneDue (suc k - 1)) first.next none))
      where
        ends : (i : ℕ) → m + (suc i - 1) ≡ (m + suc i) - 1
        ends i = omega arith

-- the same calls, said of less
pub turned_for : (n : ℕ) (a b : Option ℕ) (G H S T : Type 0) → (H → G) → (T → S) → Turned n a b G S → Turned n a b H T
turned_for n a b G H S T goes stops turned = record { next = turned.next; before = turned.before; goes = λ h. turned.goes (goes h); stops = λ t. turned.stops (stops t) }

-- the one that stops is the last of them
pub stops_at : (n left : ℕ) (b : Option ℕ) (G S : Type 0) → 1 ≤ left → 1 ≤ n → Turned n (Some left) b G S → S → left ≡ n
stops_at n left b G S some made turned stops = omega (arith, some, made, turned.before, turned.stops stops)
