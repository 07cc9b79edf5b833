-- Zeros behind a content.
use Rattle.std.proofs.Common.{◌≡◌, ◌+◌, ◌-◌, ◌≤◌, ℕ, List, [], ◌++◌, length, replicate, drop, arith, ◌∙◌, ap, sym, append_assoc, length-append}
use Rattle.std.specs.Prelude.{max}
use Rattle.std.proofs.Math.ListN.{drop_of_length-le}
use Rattle.std.proofs.lemmas.List.{take_all, length-replicate, replicate-append-replicate, append-nil}
use Rattle.ec_disk.specs.Effects.{written}
use Rattle.ec_half.specs.OfSlots.Contents.{filled, filled-same}

pub length-filled : (bytes : List ℕ) (len : ℕ) → length (filled bytes len) ≡ max (length bytes) len
length-filled bytes len = omega (arith, length-append bytes (replicate (len - length bytes) 0), length-replicate {A = ℕ} (len - length bytes) 0)

none : (n : ℕ) → n ≡ 0 → replicate {A = ℕ} n 0 ≡ []
none n is = ap (λ (k : ℕ). replicate {A = ℕ} k 0) is

-- what is written at the end
pub written-at_end : (at : ℕ) (bytes old : List ℕ) → length old ≡ at → written at bytes old ≡ old ++ bytes
written-at_end at bytes old size =
    ap (λ (l : List ℕ). l ++ replicate (at - length old) 0 ++ bytes ++ drop (at + length bytes) old) (take_all at old (omega (arith, size)))
    ∙ ap (λ (l : List ℕ). old ++ l ++ bytes ++ drop (at + length bytes) old) (none (at - length old) (omega (arith, size)))
    ∙ ap (λ (l : List ℕ). old ++ [] ++ bytes ++ l) (drop_of_length-le old (omega (arith, size)))
    ∙ append-nil (old ++ [] ++ bytes)
    ∙ ap (λ (l : List ℕ). l ++ bytes) (append-nil old)

-- zeros up to a place, and some more
pub filled-more : (bytes now new : List ℕ) (at n : ℕ) → length bytes ≤ at → now ≡ filled bytes at → new ≡ written at (replicate n 0) now → new ≡ filled bytes (at + n)
filled-more bytes now new at n le is done =
    done
    ∙ written-at_end at (replicate n 0) now size
    ∙ ap (λ (l : List ℕ). l ++ replicate n 0) is
    ∙ append_assoc bytes (replicate (at - length bytes) 0) (replicate n 0)
    ∙ ap (λ (l : List ℕ). bytes ++ l) (replicate-append-replicate (at - length bytes) n 0)
    ∙ ap (λ (k : ℕ). bytes ++ replicate k 0) (more (length bytes) le)
  where
    size : length now ≡ at
    size = omega (arith, ap (λ (l : List ℕ). length l) is, length-filled bytes at, le)

    more : (l : ℕ) → l ≤ at → (at - l) + n ≡ (at + n) - l
    more l le = omega (arith, le)

pub filled-piece : (bytes now new piece : List ℕ) (at n : ℕ) → piece ≡ replicate n 0 → length bytes ≤ at → now ≡ filled bytes at → new ≡ written at piece now → new ≡ filled bytes (at + n)
filled-piece bytes now new piece at n zeros le is done = filled-more bytes now new at n le is (done ∙ ap (λ (l : List ℕ). written at l now) zeros)

-- none at first, and all of them at the end
pub filled-none : (bytes : List ℕ) (at : ℕ) → at ≡ length bytes → bytes ≡ filled bytes at
filled-none bytes at is = sym (filled-same bytes at (omega (arith, is)))

pub filled-end : (bytes now : List ℕ) (at to : ℕ) → now ≡ filled bytes at → at ≤ to → to ≤ at → now ≡ filled bytes to
filled-end bytes now at to is le ge = is ∙ ap (λ (k : ℕ). filled bytes k) (same at to le ge)
  where
    same : (a b : ℕ) → a ≤ b → b ≤ a → a ≡ b
    same a b le ge = omega (arith, le, ge)

pub filled-short : (bytes : List ℕ) (from to : ℕ) → from ≡ length bytes → to ≤ from → bytes ≡ filled bytes to
filled-short bytes from to is le = sym (filled-same bytes to (omega (arith, is, le)))
