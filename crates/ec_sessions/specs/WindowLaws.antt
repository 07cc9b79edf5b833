-- What a window has after marks. No public clause cites this file.
use Rattle.std.proofs.Common.{◌≡◌, ◌==◌, ◌+◌, ◌-◌, ◌/◌, ◌%◌, ◌^◌, ◌<◌, ◌≤◌, ◌⊎◌, inl, inr, ℕ, zero, suc, true, false, ◌||◌, if◌then◌else◌, nat_le, nat_lt, List, [], ◌∷◌, bit_or, max, refl, sym, ◌∙◌, ap, subst, arith, lit<}
use Rattle.std.specs.Int.{bit_at}
use Rattle.std.proofs.lemmas.Bool.{le-leb, lt-leb, leb-false, eq-eqb, ne_eqb, ltb-false, or_left, or_parts, cases_order, cases_eq, cases_Bool, true≢false, both_ways}
use Rattle.std.proofs.lemmas.Nat.{or_lt, pow_below}
use Rattle.std.proofs.lemmas.Nat.Bits.{bit_at_lowest, bit_at-suc, bit_at_or, bit_at-pow_same, bit_at-pow_other, bit_at-lt, bit_at-zero}
use Rattle.ec_sessions.specs.declared.window.Window.{Window}
use Rattle.ec_sessions.specs.declared.window.Marked.TheVariants as answer
use Rattle.ec_sessions.specs.Windows.{new_window, has, moved_past, marked, mark_answer, is_marked, after_mark}
use Rattle.ec_sessions.specs.WindowMarks.{after_marks, newly_marked, times}

has_low : (w : Window) (m : ℕ) → m ≤ w.low → has w m ≡ true
has_low w m h = or_left (nat_le m w.low) (bit_at w.mask (m - w.low - 1) == 1) (le-leb m w.low h)

has_bit : (w : Window) (m : ℕ) → w.low < m → has w m ≡ (bit_at w.mask (m - w.low - 1) == 1)
has_bit w m h = ap (λ b. b || (bit_at w.mask (m - w.low - 1) == 1)) (lt-leb m w.low h)

-- `low` past one marked number
has-past_one : (low mask m : ℕ) → mask % 2 ≡ 1 → has (record { low = low + 1; mask = mask / 2 }) m ≡ has (record { low = low; mask = mask }) m
has-past_one low mask m odd =
    let w : Window = record { low = low; mask = mask } in
    let v : Window = record { low = low + 1; mask = mask / 2 } in
    elim (cases_order m (low + 1)) [
      | inl e ↦
          let at : m - low - 1 ≡ 0 = omega arith in
          has_low v m (omega arith) ∙ sym (has_bit w m (omega arith) ∙ eq-eqb (bit_at mask (m - low - 1)) 1 (ap (bit_at mask) at ∙ bit_at_lowest mask ∙ odd))
      | inr (inl l) ↦ has_low v m (omega arith) ∙ sym (has_low w m (omega arith))
      | inr (inr l) ↦
          let at : m - low - 1 ≡ suc (m - (low + 1) - 1) = omega arith in
          has_bit v m l ∙ sym (has_bit w m (omega arith) ∙ ap (λ b. b == 1) (ap (bit_at mask) at ∙ bit_at-suc mask (m - (low + 1) - 1)))
    ]

past_on : (k low mask : ℕ) → mask % 2 ≡ 1 → moved_past (suc k) low mask ≡ moved_past k (low + 1) (mask / 2)
past_on k low mask odd = rw (eq-eqb (mask % 2) 1 odd) refl

past_end : (k low mask : ℕ) → (mask % 2 ≡ 1 → ⊥) → moved_past (suc k) low mask ≡ record { low = low; mask = mask }
past_end k low mask even = rw (ne_eqb (mask % 2) 1 even) refl

pub has-moved_past : (k low mask m : ℕ) → has (moved_past k low mask) m ≡ has (record { low = low; mask = mask }) m
has-moved_past zero low mask m = refl
has-moved_past (suc k) low mask m =
    elim (cases_eq (mask % 2) 1) [
      | inl odd ↦ ap (λ w. has w m) (past_on k low mask odd) ∙ has-moved_past k (low + 1) (mask / 2) m ∙ has-past_one low mask m odd
      | inr even ↦ ap (λ w. has w m) (past_end k low mask even)
    ]

-- the bit of a further number

set_here : (mask k : ℕ) → bit_at (bit_or mask (2 ^ k)) k ≡ 1
set_here mask k = bit_at_or mask (2 ^ k) k ∙ ap (λ b. max (bit_at mask k) b) (bit_at-pow_same k) ∙ omega (arith, bit_at-lt mask k)

set_other : (mask k i : ℕ) → (i ≡ k → ⊥) → bit_at (bit_or mask (2 ^ k)) i ≡ bit_at mask i
set_other mask k i other = bit_at_or mask (2 ^ k) i ∙ ap (λ b. max (bit_at mask i) b) (bit_at-pow_other k i other) ∙ omega arith

-- a marked window has the number, and else what it had

pub has-marked_same : (w : Window) (n : ℕ) → w.low < n → has (marked w n) n ≡ true
unfolding marked
has-marked_same w n l =
    let k = n - w.low - 1 in
    let v : Window = record { low = w.low; mask = bit_or w.mask (2 ^ k) } in
    has-moved_past 8 w.low (bit_or w.mask (2 ^ k)) n ∙ has_bit v n l ∙ eq-eqb (bit_at (bit_or w.mask (2 ^ k)) k) 1 (set_here w.mask k)

pub has-marked_other : (w : Window) (n m : ℕ) → w.low < n → (m ≡ n → ⊥) → has (marked w n) m ≡ has w m
unfolding marked
has-marked_other w n m l other =
    let k = n - w.low - 1 in
    let i = m - w.low - 1 in
    let v : Window = record { low = w.low; mask = bit_or w.mask (2 ^ k) } in
    has-moved_past 8 w.low (bit_or w.mask (2 ^ k)) m
    ∙ elim (cases_order m w.low) as (λ _. has v m ≡ has w m) [
      | inl e ↦ has_low v m (omega arith) ∙ sym (has_low w m (omega arith))
      | inr (inl h) ↦ has_low v m (omega arith) ∙ sym (has_low w m (omega arith))
      | inr (inr h) ↦
          let apart : i ≡ k → ⊥ = λ e. other (omega arith) in
          has_bit v m h ∙ sym (has_bit w m h ∙ ap (λ b. b == 1) (sym (set_other w.mask k i apart)))
    ]

-- a mark: what it answers, and what it leaves

unset : (w : Window) (n : ℕ) → is_marked (mark_answer w n) ≡ true → has w n ≡ false
unset w n e =
    elim (cases_Bool (nat_lt (w.low + 8) n)) [
      | inl beyond ↦ absurd (true≢false (sym e ∙ ap (λ b. is_marked (if b then answer.Beyond w.low else (if has w n then answer.Already else answer.Marked))) beyond))
      | inr near ↦
          elim (cases_Bool (has w n)) [
            | inl had ↦ absurd (true≢false (sym e ∙ rw (near, had) refl))
            | inr free ↦ free
          ]
    ]

after_yes : (w : Window) (n : ℕ) → is_marked (mark_answer w n) ≡ true → after_mark w n ≡ marked w n
after_yes w n e = ap (λ b. if b then marked w n else w) e

after_no : (w : Window) (n : ℕ) → is_marked (mark_answer w n) ≡ false → after_mark w n ≡ w
after_no w n e = ap (λ b. if b then marked w n else w) e

above : (w : Window) (n : ℕ) → is_marked (mark_answer w n) ≡ true → w.low < n
above w n e = leb-false n w.low (or_parts (nat_le n w.low) (bit_at w.mask (n - w.low - 1) == 1) (unset w n e)).0

pub has-after_same : (w : Window) (n : ℕ) → is_marked (mark_answer w n) ≡ true → has (after_mark w n) n ≡ true
has-after_same w n e = ap (λ v. has v n) (after_yes w n e) ∙ has-marked_same w n (above w n e)

pub has-after_other : (w : Window) (n m : ℕ) → (m ≡ n → ⊥) → has (after_mark w n) m ≡ has w m
has-after_other w n m other =
    elim (cases_Bool (is_marked (mark_answer w n))) [
      | inl yes' ↦ ap (λ v. has v m) (after_yes w n yes') ∙ has-marked_other w n m (above w n yes') other
      | inr no' ↦ ap (λ v. has v m) (after_no w n no')
    ]

-- what is had stays
has-kept : (w : Window) (n m : ℕ) → has w m ≡ true → has (after_mark w n) m ≡ true
has-kept w n m h =
    elim (cases_eq m n) [
      | inl same ↦
          elim (cases_Bool (is_marked (mark_answer w n))) [
            | inl yes' ↦ absurd (both_ways (has w n) (unset w n yes') (ap (has w) (sym same) ∙ h))
            | inr no' ↦ ap (λ v. has v m) (after_no w n no') ∙ h
          ]
      | inr other ↦ has-after_other w n m other ∙ h
    ]

-- what is had later was had, or is this number, answered `Marked`
has-back : (w : Window) (n m : ℕ) → has (after_mark w n) m ≡ true → (has w m ≡ true) ⊎ ((n ≡ m) × (is_marked (mark_answer w n) ≡ true))
has-back w n m h =
    elim (cases_eq m n) [
      | inl same ↦
          elim (cases_Bool (is_marked (mark_answer w n))) [
            | inl yes' ↦ inr (sym same, yes')
            | inr no' ↦ inl (ap (λ v. has v m) (sym (after_no w n no')) ∙ h)
          ]
      | inr other ↦ inl (sym (has-after_other w n m other) ∙ h)
    ]

-- over a list of marks

newly_yes : (w : Window) (n : ℕ) (ns : List ℕ) → is_marked (mark_answer w n) ≡ true → newly_marked w (n ∷ ns) ≡ n ∷ newly_marked (after_mark w n) ns
newly_yes w n ns e = ap (λ b. if b then n ∷ newly_marked (after_mark w n) ns else newly_marked (after_mark w n) ns) e

newly_no : (w : Window) (n : ℕ) (ns : List ℕ) → is_marked (mark_answer w n) ≡ false → newly_marked w (n ∷ ns) ≡ newly_marked (after_mark w n) ns
newly_no w n ns e = ap (λ b. if b then n ∷ newly_marked (after_mark w n) ns else newly_marked (after_mark w n) ns) e

times_same : (m : ℕ) (n : ℕ) (ns : List ℕ) → n ≡ m → times m (n ∷ ns) ≡ 1 + times m ns
times_same m n ns e = ap (λ b. (if b then 1 else 0) + times m ns) (eq-eqb n m e)

times_other : (m : ℕ) (n : ℕ) (ns : List ℕ) → (n ≡ m → ⊥) → times m (n ∷ ns) ≡ times m ns
times_other m n ns other = ap (λ b. (if b then 1 else 0) + times m ns) (ne_eqb n m other) ∙ omega arith

times_more : (m n : ℕ) (ns : List ℕ) → times m ns ≤ times m (n ∷ ns)
times_more m n ns =
    elim (cases_eq n m) [ inl same ↦ omega (arith, times_same m n ns same) | inr other ↦ omega (arith, times_other m n ns other) ]

-- a number that the window has isn't marked any more
never_again : (w : Window) (m : ℕ) (ns : List ℕ) → has w m ≡ true → times m (newly_marked w ns) ≡ 0
never_again w m [] h = refl
never_again w m (n ∷ ns) h =
    let rest : times m (newly_marked (after_mark w n) ns) ≡ 0 = never_again (after_mark w n) m ns (has-kept w n m h) in
    elim (cases_Bool (is_marked (mark_answer w n))) [
      | inl yes' ↦
          let other : n ≡ m → ⊥ = λ same. both_ways (has w n) (unset w n yes') (ap (has w) same ∙ h) in
          ap (times m) (newly_yes w n ns yes') ∙ times_other m n (newly_marked (after_mark w n) ns) other ∙ rest
      | inr no' ↦ ap (times m) (newly_no w n ns no') ∙ rest
    ]

pub once : (w : Window) (ns : List ℕ) (m : ℕ) → times m (newly_marked w ns) ≤ 1
once w [] m = omega arith
once w (n ∷ ns) m =
    let rest : times m (newly_marked (after_mark w n) ns) ≤ 1 = once (after_mark w n) ns m in
    elim (cases_Bool (is_marked (mark_answer w n))) [
      | inl yes' ↦
          let whole : times m (newly_marked w (n ∷ ns)) ≡ times m (n ∷ newly_marked (after_mark w n) ns) = ap (times m) (newly_yes w n ns yes') in
          elim (cases_eq n m) [
            | inl same ↦
                let had : has (after_mark w n) m ≡ true = ap (has (after_mark w n)) (sym same) ∙ has-after_same w n yes' in
                omega (arith, whole, times_same m n (newly_marked (after_mark w n) ns) same, never_again (after_mark w n) m ns had)
            | inr other ↦ omega (arith, whole, times_other m n (newly_marked (after_mark w n) ns) other)
          ]
      | inr no' ↦
          let whole : times m (newly_marked w (n ∷ ns)) ≡ times m (newly_marked (after_mark w n) ns) = ap (times m) (newly_no w n ns no') in
          omega arith
    ]

pub had_or_marked : (w : Window) (ns : List ℕ) (m : ℕ) → has (after_marks w ns) m ≡ true → (has w m ≡ true) ⊎ (1 ≤ times m (newly_marked w ns))
had_or_marked w [] m h = inl h
had_or_marked w (n ∷ ns) m h =
    elim (cases_Bool (is_marked (mark_answer w n))) [
      | inl yes' ↦
          let whole : times m (newly_marked w (n ∷ ns)) ≡ times m (n ∷ newly_marked (after_mark w n) ns) = ap (times m) (newly_yes w n ns yes') in
          elim (had_or_marked (after_mark w n) ns m h) [
            | inl before ↦
                elim (has-back w n m before) [
                  | inl had ↦ inl had
                  | inr now ↦ inr (omega (arith, whole, times_same m n (newly_marked (after_mark w n) ns) now.0))
                ]
            | inr later ↦ inr (omega (arith, whole, times_more m n (newly_marked (after_mark w n) ns)))
          ]
      | inr no' ↦
          let whole : times m (newly_marked w (n ∷ ns)) ≡ times m (newly_marked (after_mark w n) ns) = ap (times m) (newly_no w n ns no') in
          elim (had_or_marked (after_mark w n) ns m h) [
            | inl before ↦
                elim (has-back w n m before) [
                  | inl had ↦ inl had
                  | inr now ↦ absurd (both_ways (is_marked (mark_answer w n)) no' now.1)
                ]
            | inr later ↦ inr (omega arith)
          ]
    ]

pub kept_over : (w : Window) (ns : List ℕ) (m : ℕ) → has w m ≡ true → has (after_marks w ns) m ≡ true
kept_over w [] m h = h
kept_over w (n ∷ ns) m h = kept_over (after_mark w n) ns m (has-kept w n m h)

pub marked_is_had : (w : Window) (ns : List ℕ) (m : ℕ) → 1 ≤ times m (newly_marked w ns) → has (after_marks w ns) m ≡ true
marked_is_had w [] m h = absurd (omega arith)
marked_is_had w (n ∷ ns) m h =
    elim (cases_Bool (is_marked (mark_answer w n))) [
      | inl yes' ↦
          let whole : times m (newly_marked w (n ∷ ns)) ≡ times m (n ∷ newly_marked (after_mark w n) ns) = ap (times m) (newly_yes w n ns yes') in
          elim (cases_eq n m) [
            | inl same ↦ kept_over (after_mark w n) ns m (ap (has (after_mark w n)) (sym same) ∙ has-after_same w n yes')
            | inr other ↦ marked_is_had (after_mark w n) ns m (omega (arith, whole, times_other m n (newly_marked (after_mark w n) ns) other))
          ]
      | inr no' ↦
          let whole : times m (newly_marked w (n ∷ ns)) ≡ times m (newly_marked (after_mark w n) ns) = ap (times m) (newly_no w n ns no') in
          marked_is_had (after_mark w n) ns m (omega arith)
    ]

-- a new window has no number from 1 on
pub new_has : (m : ℕ) → 1 ≤ m → has new_window m ≡ false
new_has m h = has_bit new_window m h ∙ ne_eqb (bit_at 0 (m - 0 - 1)) 1 (λ e. absurd (omega (arith, bit_at-zero (m - 0 - 1))))

pub new_marks : (ns : List ℕ) (m : ℕ) → 1 ≤ m → has (after_marks new_window ns) m ≡ true → 1 ≤ times m (newly_marked new_window ns)
new_marks ns m h e =
    elim (had_or_marked new_window ns m e) [ inl had ↦ absurd (both_ways (has new_window m) (new_has m h) had) | inr now ↦ now ]

-- `low` is past all marked numbers

pub record Normal (w : Window) : Type 0 where
  pub bits : w.mask < 2 ^ 8
  pub even : w.mask % 2 ≡ 0

past_normal : (k low mask : ℕ) → mask < 2 ^ k → mask < 2 ^ 8 → Normal (moved_past k low mask)
past_normal zero low mask b l = record { bits = l; even = omega arith }
past_normal (suc k) low mask b l =
    elim (cases_eq (mask % 2) 1) [
      | inl odd ↦ subst Normal (sym (past_on k low mask odd)) (past_normal k (low + 1) (mask / 2) (omega arith) (omega arith))
      | inr even ↦ subst Normal (sym (past_end k low mask even)) (record { bits = l; even = omega arith })
    ]

near : (w : Window) (n : ℕ) → is_marked (mark_answer w n) ≡ true → n ≤ w.low + 8
near w n e =
    elim (cases_Bool (nat_lt (w.low + 8) n)) [
      | inl beyond ↦ absurd (true≢false (sym e ∙ ap (λ b. is_marked (if b then answer.Beyond w.low else (if has w n then answer.Already else answer.Marked))) beyond))
      | inr within ↦ ltb-false (w.low + 8) n within
    ]

after_normal : (w : Window) (n : ℕ) → Normal w → Normal (after_mark w n)
unfolding marked
after_normal w n h =
    elim (cases_Bool (is_marked (mark_answer w n))) [
      | inl yes' ↦
          let k = n - w.low - 1 in
          let fits : 2 ^ k < 2 ^ 8 = pow_below k 8 (omega (arith, above w n yes', near w n yes')) in
          let mask : bit_or w.mask (2 ^ k) < 2 ^ 8 = or_lt 8 w.mask (2 ^ k) h.bits fits in
          subst Normal (sym (after_yes w n yes')) (past_normal 8 w.low (bit_or w.mask (2 ^ k)) mask mask)
      | inr no' ↦ subst Normal (sym (after_no w n no')) h
    ]

marks_normal : (w : Window) (ns : List ℕ) → Normal w → Normal (after_marks w ns)
marks_normal w [] h = h
marks_normal w (n ∷ ns) h = marks_normal (after_mark w n) ns (after_normal w n h)

-- the number behind `low` isn't marked
pub low_is_last : (ns : List ℕ) → has (after_marks new_window ns) ((after_marks new_window ns).low + 1) ≡ false
low_is_last ns =
    let w = after_marks new_window ns in
    let h : Normal w = marks_normal new_window ns (record { bits = lit< tt; even = refl }) in
    let at : (w.low + 1) - w.low - 1 ≡ 0 = omega arith in
    has_bit w (w.low + 1) (omega arith) ∙ ap (λ b. b == 1) (ap (bit_at w.mask) at ∙ bit_at_lowest w.mask ∙ h.even)
