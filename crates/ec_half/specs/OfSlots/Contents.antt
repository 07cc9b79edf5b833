-- The content of a mirror's disk, and what writes and crashes are when they are seen from there.
use Rattle.std.specs.Prelude.{◌≡◌, ◌+◌, ◌-◌, ◌≤◌, ℕ, List, ◌++◌, length, take, drop, replicate}
use Rattle.std.proofs.Common.{inl, inr, arith, ◌∙◌, ap, sym, length-append}
use Rattle.std.proofs.lemmas.List.{length-drop, get_or-drop, get_or_append_left, ext_get_or, drop-drop, append-nil}
use Rattle.ec_disk.specs.Disk.{byte, part}
use Rattle.ec_disk.specs.Effects.{written, Loose, InRange}
use Rattle.ec_disk.specs.Images.{in_range_or_not, length-written, byte-written_in, byte-written_out}
use Rattle.ec_half.specs.OfSlots.Slots.{header_bytes}

-- the bytes behind the header
abbrev pub content : List ℕ → List ℕ
content image = drop header_bytes image

-- with zeros up to a length
abbrev pub filled : List ℕ → ℕ → List ℕ
filled bytes len = bytes ++ replicate (len - length bytes) 0

pub length-content : (x : List ℕ) → length (content x) ≡ length x - 4096
length-content x = length-drop 4096 x

pub byte-content : (x : List ℕ) (i : ℕ) → byte (content x) i ≡ byte x (4096 + i)
byte-content x i = get_or-drop 4096 x i 0

-- what is read behind the header is read of the content
pub part-content : (x : List ℕ) (at n : ℕ) → part x (at + 4096) n ≡ part (content x) at n
part-content x at n = ap (λ (k : ℕ). part x k n) (turn at) ∙ sym (ap (λ (l : List ℕ). take n l) (drop-drop at 4096 x))
  where
    turn : (k : ℕ) → k + 4096 ≡ 4096 + k
    turn k = omega arith

-- what is written behind the header is written over the content
pub content-written : (at : ℕ) (piece x : List ℕ) → 4096 ≤ length x → content (written (at + 4096) piece x) ≡ written at piece (content x)
content-written at piece x long =
    ext_get_or 0 (content whole) (written at piece (content x))
    (omega (arith, length-content whole, length-written (at + 4096) piece x, length-written at piece (content x), length-content x, long))
    (λ i lt. byte-content whole i ∙ each i)
  where
    whole : List ℕ
    whole = written (at + 4096) piece x

    moved : (i : ℕ) → at ≤ i → 4096 + i ≡ (at + 4096) + (i - at)
    moved i from = omega (arith, from)

    back : (i : ℕ) → at ≤ i → at + (i - at) ≡ i
    back i from = omega (arith, from)

    each : (i : ℕ) → byte whole (4096 + i) ≡ byte (written at piece (content x)) i
    each i = elim (in_range_or_not at (length piece) i) [
      | inl r ↦
          ap (λ (k : ℕ). byte whole k) (moved i r.0)
          ∙ byte-written_in (at + 4096) piece x (i - at) (omega (arith, r.0, r.1))
          ∙ sym (byte-written_in at piece (content x) (i - at) (omega (arith, r.0, r.1)))
          ∙ ap (λ (k : ℕ). byte (written at piece (content x)) k) (back i r.0)
      | inr out ↦
          byte-written_out (at + 4096) piece x (4096 + i) (λ r. out (omega (arith, r.0), omega (arith, r.1)))
          ∙ sym (byte-content x i)
          ∙ sym (byte-written_out at piece (content x) i out)
    ]

-- a crash behind such a write, seen from the content
pub content-loose : (at n : ℕ) (x c : List ℕ) → 4096 ≤ length x → Loose (InRange (at + 4096) n) x c → Loose (InRange at n) (content x) (content c)
content-loose at n x c long loose = record {
  no_shorter = omega (arith, length-content x, length-content c, loose.no_shorter);
  outside = λ i lt out.
      byte-content c i
      ∙ loose.outside (4096 + i) (omega (arith, lt, length-content x)) (λ r. out (omega (arith, r.0), omega (arith, r.1)))
      ∙ sym (byte-content x i);
}

-- a crash in a write to the header leaves the content, with any bytes behind it
pub header-loose : (at n : ℕ) (x c : List ℕ) → at + n ≤ 4096 → 4096 ≤ length x → Loose (InRange at n) x c → Loose (λ i. ⊥) (content x) (content c)
header-loose at n x c inside long loose = record {
  no_shorter = omega (arith, length-content x, length-content c, loose.no_shorter);
  outside = λ i lt out.
      byte-content c i
      ∙ loose.outside (4096 + i) (omega (arith, lt, length-content x)) (λ r. omega (arith, r.1, inside))
      ∙ sym (byte-content x i);
}

-- nothing is filled where it's as long
pub filled-same : (c : List ℕ) (len : ℕ) → len ≤ length c → filled c len ≡ c
filled-same c len le = ap (λ (k : ℕ). c ++ replicate k 0) (none len (length c) le) ∙ append-nil c
  where
    none : (m n : ℕ) → m ≤ n → m - n ≡ 0
    none m n le = omega (arith, le)

-- zeros behind an image are among what a crash may leave behind it
pub filled-loose : (W : ℕ → Type 0) (x c : List ℕ) (len : ℕ) → Loose W x c → Loose W x (filled c len)
filled-loose W x c len loose = record {
  no_shorter = omega (arith, loose.no_shorter, length-append c (replicate (len - length c) 0));
  outside = λ i lt out. get_or_append_left c (replicate (len - length c) 0) 0 i (omega (arith, lt, loose.no_shorter)) ∙ loose.outside i lt out;
}
