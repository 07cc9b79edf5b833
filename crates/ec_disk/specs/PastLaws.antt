-- A disk in memory keeps the laws of a disk.
use Rattle.std.specs.Prelude.{◌<◌, ◌≡◌, ℕ, ◌+◌, ◌%◌, ◌≤◌, Bool, true, false, ◌==◌, ◌&&◌, nat_le, nat_lt, if◌then◌else◌, List, [], ◌∷◌, ◌++◌, length, map}
use Rattle.std.specs.List.{range_with_len}
use Rattle.std.proofs.Common.{inl, inr, ⊎_elim, arith, ◌∙◌, ap, sym, subst, refl, length-append}
use Rattle.std.proofs.lemmas.Bool.{cases_eq, cases_lt}
use Rattle.std.proofs.lemmas.Bool.Decides.{nat_tests}
use Rattle.std.proofs.lemmas.List.{ext_get_or, take_all, take-append-le}
use Rattle.std.proofs.lemmas.List.FromFn.{length-map-range_with_len, get_or-map-range_with_len}
use Rattle.ec_disk.specs.Choices.{cut}
use Rattle.ec_disk.specs.Disk.{byte}
use Rattle.ec_disk.specs.Effects.{written, InRange, Loose, Elapses, Wrote, Rests, Cut, IsSynced}
use Rattle.ec_disk.specs.Images.{in_range_or_not, length-written, byte-written_out}
use Rattle.ec_disk.specs.Undo.{torn, torn_byte}
use Rattle.ec_disk.specs.declared.memory.Step.{Step}
use Rattle.ec_disk.specs.declared.memory.Step.TheVariants as step
use Rattle.ec_disk.specs.declared.disk.Choice.{Choice}
use Rattle.ec_disk.specs.declared.disk.Choice.TheVariants as choice
use Rattle.ec_disk.specs.Past.{Shot, clean, apply, apply_all, shot_of, Left, LeftSince, view_of}

-- what is there may be left, and where nothing is written the last sync's image is there
pub record Good (s : Shot) : Type 0 where
  pub here : Left s s.now
  pub same : s.dirty ≡ false → s.now ≡ s.synced
  pub none : s.dirty ≡ false → (i : ℕ) → s.places i → ⊥

good-clean : (image : List ℕ) → Good (clean image)
good-clean image = record { here = record { no_shorter = omega arith; outside = λ i lt out. refl; nothing_written = λ is. refl }; same = λ is. refl; none = λ is i at. at }

good-apply : (s : Shot) (x : Step) → Good s → Good (apply s x)
good-apply s (step.Write at bytes) good = record {
  here = record {
    no_shorter = omega (arith, good.here.no_shorter, length-written at bytes s.now);
    outside = λ i lt out. byte-written_out at bytes s.now i (λ r. out (inr r)) ∙ good.here.outside i lt (λ p. out (inl p));
    nothing_written = λ is. absurd (grind arith);
  };
  same = λ is. absurd (grind arith);
  none = λ is. absurd (grind arith);
}
good-apply s step.Sync good = good-clean s.now
good-apply s (step.Cut choice) good = good-clean (cut choice s.now s.synced)

good-all : (s : Shot) (log : List Step) → Good s → Good (apply_all s log)
good-all s [] good = good
good-all s (x ∷ log) good = good-all (apply s x) log (good-apply s x good)

pub good : (log : List Step) → Good (shot_of log)
good log = good-all (clean []) log (good-clean [])

all-push : (s : Shot) (log : List Step) (x : Step) → apply_all s (log ++ x ∷ []) ≡ apply (apply_all s log) x
all-push s [] x = refl
all-push s (y ∷ log) x = all-push (apply s y) log x

pub shot-push : (log : List Step) (x : Step) → shot_of (log ++ x ∷ []) ≡ apply (shot_of log) x
shot-push log x = all-push (clean []) log x

-- the laws of the trait
pub given : (log : List Step) → Left (shot_of log) (shot_of log).now
given log = (good log).here

pub counts_now : (log : List Step) (t : ℕ) (c : List ℕ) → t ≤ length log → Left (shot_of log) c → LeftSince log t c
counts_now log t c le left = (length log, le, omega arith, subst (λ l. Left (shot_of l) c) (sym (take_all (length log) log (omega arith))) left)

pub only_now : (log : List Step) (c : List ℕ) → LeftSince log (length log) c → Left (shot_of log) c
only_now log c since = subst (λ l. Left (shot_of l) c) (take_all since.0 log since.1) since.3

pub elapses-same : (log : List Step) → Elapses (view_of log) (view_of log)
elapses-same log = record { later = omega arith; nothing_else = λ t c le left. inl left; keeps = λ t c le left. left }

pub elapses-push : (log : List Step) (x : Step) → Elapses (view_of log) (view_of (log ++ x ∷ []))
elapses-push log x = record {
  later = omega (arith, size);
  nothing_else = λ t c le left. elim (cases_eq left.0 (length (log ++ x ∷ []))) [
    | inl last ↦ inr (subst (λ l. Left (shot_of l) c) (take_all left.0 (log ++ x ∷ []) (omega (arith, last))) left.3)
    | inr other ↦ inl (left.0, left.1, omega (arith, left.2, other, size), subst (λ l. Left (shot_of l) c) (take-append-le left.0 log (x ∷ []) (omega (arith, left.2, other, size))) left.3)
  ];
  keeps = λ t c le left. (left.0, left.1, omega (arith, left.2, size), subst (λ l. Left (shot_of l) c) (sym (take-append-le left.0 log (x ∷ []) left.2)) left.3);
}
  where
    size : length (log ++ x ∷ []) ≡ length log + 1
    size = length-append log (x ∷ [])

-- an image before a write that this one may come from
module _ (s : Shot) (good : Good s) (at : ℕ) (bytes : List ℕ) where
  abbrev n : ℕ
  n = length bytes

  wrote-clean : (c : List ℕ) → s.dirty ≡ false → Left (apply s (step.Write at bytes)) c → (d : List ℕ) × Left s d × Loose (InRange at n) d c
  wrote-clean c is left =
      let same = good.same is in (
        s.now,
        good.here,
        record {
          no_shorter = omega (arith, ap length same, left.no_shorter);
          outside = λ i lt out. left.outside i (omega (arith, lt, ap length same)) (λ p. ⊎_elim (good.none is i) out p) ∙ ap (λ (l : List ℕ). byte l i) (sym same);
        },
      )

  -- its bytes outside the range, and the synced ones inside
  abbrev before : List ℕ → ℕ → ℕ
  before c i = if nat_le at i && nat_lt i (at + n) then byte s.synced i else byte c i

  before-in : (c : List ℕ) (i : ℕ) → InRange at n i → before c i ≡ byte s.synced i
  before-in c i r = grind (arith, nat_tests, r.0, r.1)

  before-out : (c : List ℕ) (i : ℕ) → (InRange at n i → ⊥) → before c i ≡ byte c i
  before-out c i out = elim (cases_lt i at) [
    | inl below ↦ grind (arith, nat_tests, below)
    | inr from ↦ elim (cases_lt i (at + n)) [ inl inside ↦ absurd (out (from, inside)) | inr above ↦ grind (arith, nat_tests, above) ]
  ]

  wrote-dirty : (c : List ℕ) → s.dirty ≡ true → Left (apply s (step.Write at bytes)) c → (d : List ℕ) × Left s d × Loose (InRange at n) d c
  wrote-dirty c is left =
      let d = map (before c) (range_with_len 0 (length s.synced)) in
      let size : length d ≡ length s.synced = length-map-range_with_len (before c) 0 (length s.synced) in
      let place : (i : ℕ) → i < length s.synced → byte d i ≡ before c i = λ i lt. get_or-map-range_with_len (before c) 0 (length s.synced) i i 0 lt (omega arith) in (
        d,
        record {
          no_shorter = omega (arith, size);
          outside = λ i lt out. place i lt ∙ elim (in_range_or_not at n i) [
            | inl r ↦ before-in c i r
            | inr not_in ↦ before-out c i not_in ∙ left.outside i lt (λ p. ⊎_elim out not_in p)
          ];
          nothing_written = λ clean_now. absurd (false_true (sym clean_now ∙ is));
        },
        record {
          no_shorter = omega (arith, size, left.no_shorter);
          outside = λ i lt out. sym (place i (omega (arith, lt, size)) ∙ before-out c i out);
        },
      )
    where
      false_true : false ≡ true → ⊥
      false_true is = grind arith

  pub wrote-apply : (c : List ℕ) → Left (apply s (step.Write at bytes)) c → (d : List ℕ) × Left s d × Loose (InRange at n) d c
  wrote-apply c left = by_dirt s.dirty refl
    where
      by_dirt : (b : Bool) → s.dirty ≡ b → (d : List ℕ) × Left s d × Loose (InRange at n) d c
      by_dirt false is = wrote-clean c is left
      by_dirt true is = wrote-dirty c is left

pub wrote : (log : List Step) (at : ℕ) (bytes : List ℕ) → Wrote (InRange at (length bytes)) (view_of log) (view_of (log ++ step.Write at bytes ∷ []))
wrote log at bytes = record {
  crash = λ c left. wrote-apply (shot_of log) (good log) at bytes c (subst (λ s. Left s c) (shot-push log (step.Write at bytes)) left);
  time = elapses-push log (step.Write at bytes);
}

-- a write that did nothing counts among the writes all the same
pub wrote-nothing : (log : List Step) (W : ℕ → Type 0) → Wrote W (view_of log) (view_of log)
wrote-nothing log W = record { crash = λ c left. (c, left, record { no_shorter = omega arith; outside = λ i lt out. refl }); time = elapses-same log }

pub gives-written : (log : List Step) (at : ℕ) (bytes : List ℕ) → (view_of (log ++ step.Write at bytes ∷ [])).gives ≡ written at bytes (view_of log).gives
gives-written log at bytes = ap (λ s. Shot.now s) (shot-push log (step.Write at bytes))

-- a write syncs nothing
pub synced-written : (log : List Step) (at : ℕ) (bytes : List ℕ) → (view_of (log ++ step.Write at bytes ∷ [])).synced ≡ (view_of log).synced
synced-written log at bytes = ap (λ s. Shot.synced s) (shot-push log (step.Write at bytes))

left-clean : (image c : List ℕ) → Left (clean image) c → c ≡ image
left-clean image c left = left.nothing_written refl

pub rests-same : (log : List Step) → Rests (view_of log) (view_of log)
rests-same log = record { gives = refl; crash = λ c left. left; time = elapses-same log }

pub rests-sync : (log : List Step) → Rests (view_of log) (view_of (log ++ step.Sync ∷ []))
rests-sync log = record {
  gives = ap (λ s. Shot.now s) (shot-push log step.Sync);
  crash = λ c left. subst (λ l. Left (shot_of log) l) (sym (left-clean (shot_of log).now c (subst (λ s. Left s c) (shot-push log step.Sync) left))) (given log);
  time = elapses-push log step.Sync;
}

pub saved : (log : List Step) → (view_of (log ++ step.Sync ∷ [])).synced ≡ (view_of (log ++ step.Sync ∷ [])).gives
saved log = ap (λ s. Shot.synced s) (shot-push log step.Sync) ∙ ap (λ s. Shot.now s) (sym (shot-push log step.Sync))

pub synced : (log : List Step) → IsSynced (view_of (log ++ step.Sync ∷ []))
synced log c left = left-clean (shot_of log).now c (subst (λ s. Left s c) (shot-push log step.Sync) left) ∙ ap (λ s. Shot.now s) (sym (shot-push log step.Sync))

-- a power cut leaves one of the images that a crash might have left
cut-left : (choice : Choice) (s : Shot) → Good s → Left s (cut choice s.now s.synced)
cut-left choice.Old s good = record { no_shorter = omega arith; outside = λ i lt out. refl; nothing_written = λ is. sym (good.same is) }
cut-left choice.New s good = good.here
cut-left choice.Torn s good = record {
  no_shorter = omega (arith, size, good.here.no_shorter);
  outside = λ i lt out. at_place i (omega (arith, lt, good.here.no_shorter)) ∙ either i (good.here.outside i lt out);
  nothing_written = λ is. ext_get_or 0 left s.now size (λ i lt. at_place i (omega (arith, lt, size)) ∙ either i (ap (λ (l : List ℕ). byte l i) (good.same is)) ∙ ap (λ (l : List ℕ). byte l i) (sym (good.same is)));
}
  where
    left : List ℕ
    left = torn 0 s.now s.synced

    size : length left ≡ length s.now
    size = length-map-range_with_len (torn_byte 0 s.now s.synced) 0 (length s.now)

    at_place : (i : ℕ) → i < length s.now → byte left i ≡ torn_byte 0 s.now s.synced i
    at_place i lt = get_or-map-range_with_len (torn_byte 0 s.now s.synced) 0 (length s.now) i i 0 lt (omega arith)

    either : (i : ℕ) → byte s.now i ≡ byte s.synced i → torn_byte 0 s.now s.synced i ≡ byte s.synced i
    either i same = by_test ((0 + i) % 2 == 0)
      where
        by_test : (b : Bool) → (if b then byte s.now i else byte s.synced i) ≡ byte s.synced i
        by_test true = same
        by_test false = refl

pub given_synced : (log : List Step) → Left (shot_of log) (shot_of log).synced
given_synced log = cut-left choice.Old (shot_of log) (good log)

pub leaves : (log : List Step) (choice : Choice) → (view_of (log ++ step.Cut choice ∷ [])).gives ≡ cut choice (view_of log).gives (view_of log).synced
leaves log choice = ap (λ s. Shot.now s) (shot-push log (step.Cut choice))

pub cuts : (log : List Step) (choice : Choice) → Cut (view_of log) (view_of (log ++ step.Cut choice ∷ []))
cuts log choice = record {
  crash = λ c left.
      let s = shot_of log in
      subst (λ l. Left s l) (sym (left-clean (cut choice s.now s.synced) c (subst (λ x. Left x c) (shot-push log (step.Cut choice)) left))) (cut-left choice s (good log));
  time = elapses-push log (step.Cut choice);
}

pub cut-synced : (log : List Step) (choice : Choice) → IsSynced (view_of (log ++ step.Cut choice ∷ []))
cut-synced log choice c left =
    let s = shot_of log in
    left-clean (cut choice s.now s.synced) c (subst (λ x. Left x c) (shot-push log (step.Cut choice)) left) ∙ ap (λ x. Shot.now x) (sym (shot-push log (step.Cut choice)))
