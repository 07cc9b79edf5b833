-- What a stream begins with is determined, and stays so as the stream goes on.
use Rattle.std.proofs.Common.{◌≡◌, ◌+◌, ◌<◌, ◌≤◌, ◌^◌, ℕ, List, ◌++◌, length, take, drop, refl, sym, ◌∙◌, ap, subst, arith, append_assoc, length-append, length-drop}
use Rattle.std.specs.Int.{w32, from_be_bytes}
use Rattle.std.proofs.lemmas.Nat.{from_be_bytes-to_be_bytes_4}
use Rattle.std.proofs.lemmas.List.{take_at, drop_at, take-append-drop, length-take-le, drop-drop}
use Rattle.ec_streams.specs.OfFrame.Frames.{max_body_bytes, header, frame, Begins, BeginsLong, BeginsNone}

pub length-header : (n : ℕ) → length (header n) ≡ 4
unfolding header
length-header n = refl

pub header_is_one : (m n : ℕ) → m < 2 ^ 32 → n < 2 ^ 32 → header m ≡ header n → m ≡ n
unfolding header
header_is_one m n p q e = sym (from_be_bytes-to_be_bytes_4 m p) ∙ ap (from_be_bytes w32) e ∙ from_be_bytes-to_be_bytes_4 n q

-- two lists with fronts of one length
pub same_halves : (p q r s : List ℕ) → length p ≡ length q → p ++ r ≡ q ++ s → (p ≡ q) × (r ≡ s)
same_halves p q r s l e = (
  sym (take_at p r (length q) l) ∙ ap (take (length q)) e ∙ take_at q s (length q) refl,
  sym (drop_at p r (length q) l) ∙ ap (drop (length q)) e ∙ drop_at q s (length q) refl,
)

-- two readings of the length at the front
pub same_header : (m n : ℕ) (r s : List ℕ) → m < 2 ^ 32 → n < 2 ^ 32 → header m ++ r ≡ header n ++ s → (m ≡ n) × (r ≡ s)
same_header m n r s p q e =
    let h = same_halves (header m) (header n) r s (length-header m ∙ sym (length-header n)) e in
    (header_is_one m n p q h.0, h.1)

small_fits : (n : ℕ) → n ≤ max_body_bytes → n < 2 ^ 32
small_fits n h = omega arith

-- one frame at the front
pub one_front : (s b c r q : List ℕ) → Begins s b r → Begins s c q → (b ≡ c) × (r ≡ q)
one_front s b c r q g h =
    let e = same_header (length b) (length c) (b ++ r) (c ++ q) (small_fits (length b) g.small) (small_fits (length c) h.small)
    (sym (append_assoc (header (length b)) b r) ∙ sym g.spelled ∙ h.spelled ∙ append_assoc (header (length c)) c q) in
    same_halves b c r q e.0 e.1

-- a length that is too large begins no frame
pub long_front : (s b r : List ℕ) (n : ℕ) → Begins s b r → BeginsLong s n → ⊥
long_front s b r n g h =
    let e = same_header (length b) n (b ++ r) h.spelled.0 (small_fits (length b) g.small) h.fits
    (sym (append_assoc (header (length b)) b r) ∙ sym g.spelled ∙ h.spelled.1) in
    let small : length b ≤ max_body_bytes = g.small in
    let large : max_body_bytes < n = h.large in
    let same : length b ≡ n = e.0 in
    absurd (omega arith)

pub one_long : (s : List ℕ) (m n : ℕ) → BeginsLong s m → BeginsLong s n → m ≡ n
one_long s m n g h = (same_header m n g.spelled.0 h.spelled.0 g.fits h.fits (sym g.spelled.1 ∙ h.spelled.1)).0

-- what comes later changes neither
pub front_stays : (s b r more : List ℕ) → Begins s b r → Begins (s ++ more) b (r ++ more)
front_stays s b r more g = record {
  small = g.small;
  spelled = ap (λ x. x ++ more) g.spelled ∙ append_assoc (frame b) r more;
}

pub long_stays : (s more : List ℕ) (n : ℕ) → BeginsLong s n → BeginsLong (s ++ more) n
long_stays s more n g = record {
  large = g.large;
  fits = g.fits;
  spelled = (g.spelled.0 ++ more, ap (λ x. x ++ more) g.spelled.1 ∙ append_assoc (header n) g.spelled.0 more);
}

-- The bytes behind a length.

with_rest : (s : List ℕ) (n : ℕ) → take 4 s ≡ header n → s ≡ header n ++ drop 4 s
with_rest s n e = sym (take-append-drop 4 s) ∙ ap (λ h. h ++ drop 4 s) e

pub begins : (s : List ℕ) (n : ℕ) → take 4 s ≡ header n → n ≤ max_body_bytes → 4 + n ≤ length s → Begins s (take n (drop 4 s)) (drop (4 + n) s)
begins s n e h l =
    let len : length (take n (drop 4 s)) ≡ n = length-take-le n (drop 4 s) (omega (arith, length-drop 4 s)) in
    record {
      small = subst (λ k. k ≤ max_body_bytes) (sym len) h;
      spelled =
          with_rest s n e
          ∙ ap (λ x. header n ++ x) (sym (take-append-drop n (drop 4 s)) ∙ ap (λ x. take n (drop 4 s) ++ x) (drop-drop n 4 s))
          ∙ sym (append_assoc (header n) (take n (drop 4 s)) (drop (4 + n) s))
          ∙ ap (λ k. (header k ++ take n (drop 4 s)) ++ drop (4 + n) s) (sym len);
    }

pub begins_long : (s : List ℕ) (n : ℕ) → take 4 s ≡ header n → max_body_bytes < n → n < 2 ^ 32 → BeginsLong s n
begins_long s n e h l = record { large = h; fits = l; spelled = (drop 4 s, with_rest s n e) }

-- a frame has its length's bytes, and so has a length that is too large
pub length-front : (s b r : List ℕ) → Begins s b r → 4 + length b ≤ length s
length-front s b r g =
    let e : length s ≡ length ((header (length b) ++ b) ++ r) = ap length g.spelled in
    omega (arith, e, length-append (header (length b) ++ b) r, length-append (header (length b)) b, length-header (length b))

length-long : (s : List ℕ) (n : ℕ) → BeginsLong s n → 4 ≤ length s
length-long s n g =
    let e : length s ≡ length (header n ++ g.spelled.0) = ap length g.spelled.1 in
    omega (arith, e, length-append (header n) g.spelled.0, length-header n)

pub none_in_short : (s : List ℕ) → length s < 4 → BeginsNone s
none_in_short s l = record {
  frame = λ b r g. absurd (omega (arith, length-front s b r g));
  long = λ n g. absurd (omega (arith, length-long s n g));
}

pub none_in_part : (s : List ℕ) (n : ℕ) → take 4 s ≡ header n → n ≤ max_body_bytes → length s < 4 + n → BeginsNone s
none_in_part s n e h l = record {
  frame = λ b r g.
      let same : length b ≡ n =
      (same_header (length b) n (b ++ r) (drop 4 s) (small_fits (length b) g.small) (small_fits n h)
      (sym (append_assoc (header (length b)) b r) ∙ sym g.spelled ∙ with_rest s n e)).0 in
      absurd (omega (arith, same, length-front s b r g));
  long = λ k g.
      let same : k ≡ n = (same_header k n g.spelled.0 (drop 4 s) g.fits (small_fits n h) (sym g.spelled.1 ∙ with_rest s n e)).0 in
      let large : max_body_bytes < k = g.large in
      absurd (omega (arith, same));
}
