-- What a turn does to a mirror's counts.
use Rattle.std.proofs.Common.{◌≡◌, ◌≤◌, ℕ, Bool, Option, Some, None, inr, refl, sym, ◌∙◌, subst, arith}
use Rattle.std.specs.Prelude.{IsSome}
use Rattle.std.proofs.lemmas.Bool.Decides.{nat_tests}
use Rattle.ec_base.specs.Outside.{one_more}
use Rattle.ec_disk.specs.Counting.{counted_both}
use Rattle.ec_disk.specs.Disk.{Counts, after_calls}
use Rattle.ec_disk.specs.Effects.{Counted, CountsDown, IsDue, IsUnarmed}
use Rattle.ec_disk.specs.declared.disk.DiskAnswer.{DiskAnswer}
use Rattle.ec_disk.specs.declared.disk.DiskAnswer.TheVariants as said
use Rattle.ec_mirror.specs.Tally.{counts_of, told, behind_cut, TallyTurned}
use Rattle.ec_mirror.specs.declared.tally.Tally.{Tally}
use Rattle.ec_disk.proofs.TurnLaws.{less_armed, less_over}

due_armed : (armed : Option ℕ) → IsDue armed → IsSome armed
due_armed None due = absurd due
due_armed (Some n) due = grind arith

due_over : (armed : Option ℕ) → IsDue armed → IsUnarmed (after_calls 1 armed)
due_over None due = tt
due_over (Some n) due = omega (arith, due)

-- a turn that goes on, and one that stops
pub counted_on : (old new : Counts) (S : Type 0) → new.faults ≡ old.faults → new.stops ≡ old.stops → new.armed ≡ after_calls 1 old.armed → (S → ⊥) → Counted old new ⊥ S
counted_on old new S faults stops armed none = record {
  faults_later = omega (arith, faults);
  stops_later = omega (arith, stops);
  failed = λ f. absurd f;
  stopped = λ s. absurd (none s);
  armed = λ s. absurd (none s);
  not_rearmed = λ some. less_armed old.armed (subst IsSome armed some);
  stays = λ over. subst IsUnarmed (sym armed) (less_over old.armed over);
  over = λ s. absurd (none s);
}

pub counted_off : (old new : Counts) (S : Type 0) → new.faults ≡ old.faults → new.stops ≡ one_more old.stops → new.armed ≡ after_calls 1 old.armed → IsDue old.armed → Counted old new ⊥ S
counted_off old new S faults stops armed due = record {
  faults_later = omega (arith, faults);
  stops_later = omega (arith, stops, more old.stops);
  failed = λ f. absurd f;
  stopped = λ s. omega (arith, stops);
  armed = λ s. due_armed old.armed due;
  not_rearmed = λ some. less_armed old.armed (subst IsSome armed some);
  stays = λ over. subst IsUnarmed (sym armed) (less_over old.armed over);
  over = λ s. subst IsUnarmed (sym armed) (due_over old.armed due);
}
  where
    more : (n : ℕ) → n ≤ one_more n
    more n = grind (arith, nat_tests)

told_calls : (answer : DiskAnswer) (t : Tally) → (told answer t).calls ≡ t.calls
told_calls said.Done t = refl
told_calls said.Failed t = refl
told_calls said.Stopped t = refl
told_calls said.NoMemory t = refl

told_armed : (answer : DiskAnswer) (t : Tally) → (told answer t).armed ≡ t.armed
told_armed said.Done t = refl
told_armed said.Failed t = refl
told_armed said.Stopped t = refl
told_armed said.NoMemory t = refl

nothing : (t : Tally) (F : Type 0) → (F → ⊥) → Counted (counts_of t) (counts_of t) F ⊥
nothing t F none = record {
  faults_later = omega arith;
  stops_later = omega arith;
  failed = λ f. absurd (none f);
  stopped = λ s. absurd s;
  armed = λ s. absurd s;
  not_rearmed = λ some. some;
  stays = λ over. over;
  over = λ s. absurd s;
}

pub told_counts : (answer : DiskAnswer) (t : Tally) → Counted (counts_of t) (counts_of (told answer t)) (answer ≡ said.Failed) ⊥
told_counts said.Done t = nothing t _ (λ e. absurd (grind (arith, e)))
told_counts said.Failed t = record {
  faults_later = more t.faults;
  stops_later = omega arith;
  failed = λ f. omega arith;
  stopped = λ s. absurd s;
  armed = λ s. absurd s;
  not_rearmed = λ some. some;
  stays = λ over. over;
  over = λ s. absurd s;
}
  where
    more : (n : ℕ) → n ≤ one_more n
    more n = grind (arith, nat_tests)
told_counts said.Stopped t = nothing t _ (λ e. absurd (grind (arith, e)))
told_counts said.NoMemory t = nothing t _ (λ e. absurd (grind (arith, e)))

told_stays : (answer : DiskAnswer) (t : Tally) → (told answer t).failed_alone ≡ t.failed_alone
told_stays said.Done t = refl
told_stays said.Failed t = refl
told_stays said.Stopped t = refl
told_stays said.NoMemory t = refl

-- behind such a turn
module _ (old mid : Tally) (G S : Type 0) (counts : Counted (counts_of old) (counts_of mid) ⊥ S) (down : CountsDown old.armed mid.armed G S) (due : IsDue old.armed → G → ⊥) (call : mid.calls ≡ one_more old.calls) (alone : mid.failed_alone ≡ old.failed_alone) where
  pub turned_on : (answer : DiskAnswer) (new : Tally) → G → (answer ≡ said.Stopped → ⊥) → new ≡ told answer mid → TallyTurned answer old new
  turned_on answer new goes never is = subst (λ (t : Tally). TallyTurned answer old t) (sym is) record {
    counts = counted_both (counts_of old) (counts_of mid) (counts_of (told answer mid)) ⊥ S (answer ≡ said.Failed) ⊥ (answer ≡ said.Failed) (answer ≡ said.Stopped) counts (told_counts answer mid) (λ f. inr f) (λ s. absurd (never s));
    armed = record { next = told_armed answer mid ∙ down.next; stops = λ s. absurd (never s); goes = λ d. λ is_due. due is_due goes };
    call = told_calls answer mid ∙ call;
    alone = told_stays answer mid ∙ alone;
  }

  pub turned_off : (answer : DiskAnswer) (new : Tally) → S → (answer ≡ said.Done → ⊥) → (answer ≡ said.Failed → ⊥) → new ≡ mid → TallyTurned answer old new
  turned_off answer new stops not_done not_failed is = subst (λ (t : Tally). TallyTurned answer old t) (sym is) record {
    counts = record {
      faults_later = counts.faults_later;
      stops_later = counts.stops_later;
      failed = λ f. absurd (not_failed f);
      stopped = λ s. counts.stopped stops;
      armed = λ s. counts.armed stops;
      not_rearmed = counts.not_rearmed;
      stays = counts.stays;
      over = λ s. counts.over stops;
    };
    armed = record { next = down.next; stops = λ s. down.stops stops; goes = λ d. absurd (not_done d) };
    call = call;
    alone = alone;
  }

pub stopped-not-done : (answer : DiskAnswer) → answer ≡ said.Stopped → answer ≡ said.Done → ⊥
stopped-not-done answer stopped done = absurd (grind (arith, stopped, done))

pub stopped-not-failed : (answer : DiskAnswer) → answer ≡ said.Stopped → answer ≡ said.Failed → ⊥
stopped-not-failed answer stopped failed = absurd (grind (arith, stopped, failed))

-- behind a power cut
pub cut_counts : (answer : DiskAnswer) (alone : Bool) (t : Tally) → (answer ≡ said.Stopped → ⊥) → Counted (counts_of t) (counts_of (behind_cut answer alone t)) (answer ≡ said.Failed) (answer ≡ said.Stopped)
cut_counts said.Done alone t never = record {
  faults_later = omega arith;
  stops_later = omega arith;
  failed = λ f. absurd (grind (arith, f));
  stopped = λ s. absurd (never s);
  armed = λ s. absurd (never s);
  not_rearmed = λ some. absurd (grind (arith, some));
  stays = λ over. tt;
  over = λ s. absurd (never s);
}
cut_counts said.Failed alone t never = record {
  faults_later = more t.faults;
  stops_later = omega arith;
  failed = λ f. omega arith;
  stopped = λ s. absurd (never s);
  armed = λ s. absurd (never s);
  not_rearmed = λ some. some;
  stays = λ over. over;
  over = λ s. absurd (never s);
}
  where
    more : (n : ℕ) → n ≤ one_more n
    more n = grind (arith, nat_tests)
cut_counts said.Stopped alone t never = absurd (never refl)
cut_counts said.NoMemory alone t never = record {
  faults_later = omega arith;
  stops_later = omega arith;
  failed = λ f. absurd (grind (arith, f));
  stopped = λ s. absurd (never s);
  armed = λ s. absurd (never s);
  not_rearmed = λ some. some;
  stays = λ over. over;
  over = λ s. absurd (never s);
}

pub cut_calls : (answer : DiskAnswer) (alone : Bool) (t : Tally) → (behind_cut answer alone t).calls ≡ t.calls
cut_calls said.Done alone t = refl
cut_calls said.Failed alone t = refl
cut_calls said.Stopped alone t = refl
cut_calls said.NoMemory alone t = refl

pub cut_stays : (answer : DiskAnswer) (alone : Bool) (t : Tally) → (answer ≡ said.Failed → ⊥) → (behind_cut answer alone t).failed_alone ≡ t.failed_alone
cut_stays said.Done alone t out = refl
cut_stays said.Failed alone t out = absurd (out refl)
cut_stays said.Stopped alone t out = refl
cut_stays said.NoMemory alone t out = refl
