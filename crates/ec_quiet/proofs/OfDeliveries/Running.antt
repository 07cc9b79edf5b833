-- A run over lines, each of which is carried out and settles, comes to the script's end.
use Rattle.std.proofs.Common.{◌≡◌, refl, sym, ap, ◌∙◌, subst, arith, ◌+◌, ℕ, zero, suc, true, false, List, [], ◌∷◌, length}
use Rattle.std.specs.Prelude.{Option, None, Some, nat_lt}
use Rattle.ec_history.specs.History.{Each}
use Rattle.ec_protocol.specs.Drill.{Done, Fates, Ran, Read, TooMany, carry_out, ending_of, ends, first_fates, later_fates, max_pending, onward, piece_before, reads, rest_fates, run_from, settle, this_fate, unfit, line_happens}
use Rattle.ec_protocol.specs.World.{Moving, deliver, due, forget, moving, pending, runs}
use Rattle.ec_protocol.specs.declared.script.Line.{Line}
use Rattle.ec_protocol.specs.declared.world.World.{World}
use Rattle.ec_quiet.specs.OfDeliveries.Runs.{AllRun}

pub first-runs : (fates : Fates) → AllRun fates → this_fate fates ≡ runs
first-runs [] a = refl
first-runs (f ∷ fs) a = a.0

pub later-run : (fates : Fates) → AllRun fates → AllRun (later_fates fates)
later-run [] a = tt
later-run (f ∷ fs) a = a.1

pub settles-alike : (k : ℕ) (fates : Fates) (m : Moving) → AllRun fates → settle k fates m ≡ settle k [] m
settles-alike zero fates m a = refl
settles-alike (suc k) fates m a = go (due m.world) (settles-alike k)
  where
    go : (o : Option ℕ) → ((fs : Fates) (m : Moving) → AllRun fs → settle k fs m ≡ settle k [] m)
        → elim o as (λ z. Moving) [ None ↦ m | Some n ↦ elim (onward m (deliver (this_fate fates) n m.world)).fault as (λ z. Moving) [ Some f ↦ onward m (deliver (this_fate fates) n m.world) | None ↦ settle k (later_fates fates) (onward m (deliver (this_fate fates) n m.world)) ] ]
        ≡ elim o as (λ z. Moving) [ None ↦ m | Some n ↦ elim (onward m (deliver runs n m.world)).fault as (λ z. Moving) [ Some f ↦ onward m (deliver runs n m.world) | None ↦ settle k [] (onward m (deliver runs n m.world)) ] ]
    go None r = refl
    go (Some n) r =
        ap (λ f. elim (onward m (deliver f n m.world)).fault as (λ z. Moving) [ Some g ↦ onward m (deliver f n m.world) | None ↦ settle k (later_fates fates) (onward m (deliver f n m.world)) ]) (first-runs fates a)
        ∙ ap (λ (z : Moving). elim (onward m (deliver runs n m.world)).fault as (λ z. Moving) [ Some g ↦ onward m (deliver runs n m.world) | None ↦ z ]) (r (later_fates fates) (onward m (deliver runs n m.world)) (later-run fates a))

pub carries-alike : (k : ℕ) (fates : Fates) (number : ℕ) (l : Line) (w : World) → AllRun fates → carry_out k fates number l w ≡ carry_out k [] number l w
carries-alike k fates number l w a =
    ap (λ f. elim (onward (moving w) (line_happens f number l w)).fault as (λ z. Moving) [ Some g ↦ onward (moving w) (line_happens f number l w) | None ↦ settle k (later_fates fates) (onward (moving w) (line_happens f number l w)) ]) (first-runs fates a)
    ∙ ap (λ (z : Moving). elim (onward (moving w) (line_happens runs number l w)).fault as (λ z. Moving) [ Some g ↦ onward (moving w) (line_happens runs number l w) | None ↦ z ]) (settles-alike k (later_fates fates) (onward (moving w) (line_happens runs number l w)) (later-run fates a))

-- the disk runs in each step of each line
abbrev pub EachRuns : List Fates → Type 0
EachRuns fs = Each AllRun fs

each-first : (fs : List Fates) → EachRuns fs → AllRun (first_fates fs)
each-first [] a = tt
each-first (f ∷ fs) a = a.0

each-rest : (fs : List Fates) → EachRuns fs → EachRuns (rest_fates fs)
each-rest [] a = tt
each-rest (f ∷ fs) a = a.1

-- What is known of the world before the line of this number, of which the rest of the script is known, too.
module _ (k : ℕ) (Q : ℕ → World → List Read → Type 0)
    (fit : (number : ℕ) (w : World) (column : ℕ) (ls : List Read) → Q number w (unfit column ∷ ls) → ⊥)
    (one : (number : ℕ) (w : World) (l : Line) (column : ℕ) (ls : List Read) → Q number w (reads l column ∷ ls)
    → let m = carry_out k [] number l w in (m.fault ≡ None) × (pending m.world ≡ 0) × Q (number + 1) (forget m.world) ls) where
  abbrev Comes : ℕ → Ran → Type 0
  Comes last r = (r.ending ≡ Done) × Q last r.world []

  -- one line more
  module _ (l : Line) (column : ℕ) (ls : List Read) (fs : List Fates) (number : ℕ) (w : World) (all : EachRuns fs) (q : Q number w (reads l column ∷ ls)) where
    abbrev m : Moving
    m = carry_out k [] number l w

    now : (m.fault ≡ None) × (pending m.world ≡ 0) × Q (number + 1) (forget m.world) ls
    now = one number w l column ls q

    abbrev rest : Moving → Ran
    rest x = piece_before x.shown (run_from k (number + 1) ls (rest_fates fs) (forget x.world))

    abbrev behind : Moving → Ran
    behind x = elim x.fault as (λ z. Ran) [
      | Some f ↦ ends x.world x.shown (ending_of number column f)
      | None ↦ elim (nat_lt max_pending (pending x.world)) as (λ z. Ran) [ true ↦ ends x.world x.shown (TooMany (pending x.world)) | false ↦ rest x ]
    ]

    few : nat_lt max_pending (pending m.world) ≡ false
    few = ap (nat_lt max_pending) now.1

    goes-on : run_from k number (reads l column ∷ ls) fs w ≡ rest m
    goes-on = ap behind (carries-alike k (first_fates fs) number l w (each-first fs all))
        ∙ ap (λ o. elim o as (λ z. Ran) [ Some f ↦ ends m.world m.shown (ending_of number column f) | None ↦ elim (nat_lt max_pending (pending m.world)) as (λ z. Ran) [ true ↦ ends m.world m.shown (TooMany (pending m.world)) | false ↦ rest m ] ]) now.0
        ∙ ap (λ b. elim b as (λ z. Ran) [ true ↦ ends m.world m.shown (TooMany (pending m.world)) | false ↦ rest m ]) few

    line-comes : Comes (number + 1 + length ls) (run_from k (number + 1) ls (rest_fates fs) (forget m.world)) → Comes (number + length (reads l column ∷ ls)) (run_from k number (reads l column ∷ ls) fs w)
    line-comes r = subst (Comes (number + length (reads l column ∷ ls))) (sym goes-on) (r.0, subst (λ n. Q n (run_from k (number + 1) ls (rest_fates fs) (forget m.world)).world []) (next-number number (length ls)) r.1)
      where
        next-number : (a b : ℕ) → a + 1 + b ≡ a + suc b
        next-number a b = omega arith

  pub comes : (ls : List Read) (fs : List Fates) (number : ℕ) (w : World) → EachRuns fs → Q number w ls → Comes (number + length ls) (run_from k number ls fs w)
  comes [] fs number w a q = (refl, subst (λ n. Q n w []) (same number) q)
    where
      same : (n : ℕ) → n ≡ n + 0
      same n = omega arith
  comes (unfit column ∷ ls) fs number w a q = absurd (fit number w column ls q)
  comes (reads l column ∷ ls) fs number w a q = line-comes l column ls fs number w a q (comes ls (rest_fates fs) (number + 1) (forget (carry_out k [] number l w).world) (each-rest fs a) (one number w l column ls q).2)
