-- A content that was copied up to a place, and what a join leaves of its source.
use Rattle.std.proofs.Common.{◌≡◌, ◌⊎◌, ⊎_elim, ◌+◌, ◌-◌, ◌≤◌, ◌<◌, ℕ, List, length, inl, inr, arith, ◌∙◌, ap, sym}
use Rattle.std.proofs.lemmas.Bool.{cases_lt}
use Rattle.std.proofs.lemmas.List.{ext_get_or}
use Rattle.ec_half.specs.Contents.{Content, Rested, Stays, stays-then, stays-rested}
use Rattle.ec_half.specs.declared.copying.Joined.{Joined}
use Rattle.ec_half.specs.declared.copying.Joined.TheVariants as joined
use Rattle.ec_disk.specs.Disk.{byte, part}
use Rattle.ec_disk.specs.Effects.{written, InRange}
use Rattle.ec_disk.specs.Images.{in_range_or_not, length-written, byte-written_in, byte-written_out, byte-part}

pub record IsCopied (at : ℕ) (from to : List ℕ) : Type 0 where
  pub same : (i : ℕ) → i < at → byte to i ≡ byte from i
  pub inside : at ≤ length from
  pub reached : at ≤ length to
  pub fits : length to ≤ length from

pub copied-none : (from to : List ℕ) → length to ≤ length from → IsCopied 0 from to
copied-none from to fits = record {
  same = λ i lt. absurd (omega (arith, lt));
  inside = omega arith;
  reached = omega arith;
  fits = fits;
}

-- a piece more
pub copied-more : (at n : ℕ) (piece from to new : List ℕ) → IsCopied at from to → length piece ≡ n → at + n ≤ length from → piece ≡ part from at n → new ≡ written at piece to → IsCopied (at + n) from new
copied-more at n piece from to new so_far size inside is done = record {
  same = λ i lt. ap (λ (l : List ℕ). byte l i) done ∙ each i lt;
  inside = inside;
  reached = omega (arith, size, ap (λ (l : List ℕ). length l) done, length-written at piece to);
  fits = omega (arith, size, inside, so_far.fits, ap (λ (l : List ℕ). length l) done, length-written at piece to);
}
  where
    back : (i : ℕ) → at ≤ i → at + (i - at) ≡ i
    back i le = omega (arith, le)

    each : (i : ℕ) → i < at + n → byte (written at piece to) i ≡ byte from i
    each i lt = elim (in_range_or_not at (length piece) i) [
      | inl r ↦
          ap (λ (k : ℕ). byte (written at piece to) k) (sym (back i r.0))
          ∙ byte-written_in at piece to (i - at) (omega (arith, r.0, r.1))
          ∙ ap (λ (l : List ℕ). byte l (i - at)) is
          ∙ byte-part from at n (i - at) (omega (arith, r.0, lt))
          ∙ ap (λ (k : ℕ). byte from k) (back i r.0)
      | inr out ↦ byte-written_out at piece to i out ∙ so_far.same i (below i lt out)
    ]
      where
        below : (i : ℕ) → i < at + n → (InRange at (length piece) i → ⊥) → i < at
        below i lt out = elim (cases_lt i at) [
          | inl less ↦ less
          | inr from ↦ absurd (out (from, omega (arith, lt, size)))
        ]

-- all of it
pub copied-whole : (at : ℕ) (from to : List ℕ) → IsCopied at from to → length from ≤ at → to ≡ from
copied-whole at from to so_far le =
    ext_get_or 0 to from (omega (arith, le, so_far.inside, so_far.reached, so_far.fits)) (λ i lt. so_far.same i (omega (arith, lt, le, so_far.fits)))

pub copied-piece : (at n m : ℕ) (piece was now to new : List ℕ) → IsCopied at was to → now ≡ was → m ≡ n → length piece ≡ m → at + n ≤ length was → piece ≡ part now at m → new ≡ written at piece to → IsCopied (at + n) was new
copied-piece at n m piece was now to new so_far same size len inside is done =
    copied-more at n piece was to new so_far (len ∙ size) inside (is ∙ ap (λ (l : List ℕ). part l at m) same ∙ ap (λ (k : ℕ). part was at k) size) done

-- the source alone
pub alone-of : (how : Joined) → (how ≡ joined.Both → ⊥) → (how ≡ joined.Both) ⊎ (how ≡ joined.SourceAlone) → how ≡ joined.SourceAlone
alone-of how out is = ⊎_elim (λ both. absurd (out both)) (λ alone. alone) is

pub stays-alone : (how : Joined) (a b c d : Content) → Stays a b → Rested b c → (how ≡ joined.Both → ⊥) → (how ≡ joined.SourceAlone → Stays c d) → (how ≡ joined.Both) ⊎ (how ≡ joined.SourceAlone) → Stays a d
stays-alone how a b c d first rests out last is = stays-then a c d (stays-rested a b c first rests) (last (alone-of how out is))
