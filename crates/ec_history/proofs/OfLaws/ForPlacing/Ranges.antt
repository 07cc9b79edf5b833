-- Bytes written at two ranges that don't meet, in either order.
use Rattle.std.proofs.Common.{◌≡◌, sym, ap, ◌∙◌, inl, inr, arith, ◌<◌, ◌≤◌, ◌+◌, ◌-◌, ℕ, List, [], ◌++◌, length, take, drop, replicate, length-append, length-take, length-drop}
use Rattle.std.proofs.lemmas.Bool.{cases_lt}
use Rattle.std.proofs.lemmas.List.{length-replicate, get_or-take, get_or-drop, get_or_append_left, get_or-append_right, get_or-replicate, get_or_past, ext_get_or}
use Rattle.std.proofs.Math.ListN.{get_or}
use Rattle.ec_volume.specs.Image.{overwritten, resized}

pub length-resized : (n : ℕ) (bs : List ℕ) → length (resized n bs) ≡ n
length-resized n bs = omega (arith, length-append (take n bs) (replicate (n - length bs) 0), length-take n bs, length-replicate {A = ℕ} (n - length bs) 0)

pub length-overwritten : (at : ℕ) (new bs : List ℕ) → length (overwritten at new bs) ≡ at + length new + (length bs - (at + length new))
length-overwritten at new bs =
    let whole : length (overwritten at new bs) ≡ length (resized at bs ++ new) + length (drop (at + length new) bs) = length-append (resized at bs ++ new) (drop (at + length new) bs) in
    omega (arith, whole, length-append (resized at bs) new, length-drop (at + length new) bs, length-resized at bs)

-- a byte of the front is the old one, or 0 behind the old end
byte-resized : (n : ℕ) (bs : List ℕ) (i : ℕ) → i < n → get_or (resized n bs) i 0 ≡ get_or bs i 0
byte-resized n bs i h = elim (cases_lt i (length bs)) [
  | inl l ↦ get_or_append_left (take n bs) (replicate (n - length bs) 0) 0 i (omega (arith, length-take n bs, h, l)) ∙ get_or-take n bs i 0 h
  | inr l ↦
      let n-take : length (take n bs) ≡ length bs = omega (arith, length-take n bs, h, l) in
      let m : i - length bs < n - length bs = omega (arith, h, l) in
      get_or-append_right (take n bs) (replicate (n - length bs) 0) (length bs) i 0 n-take l
      ∙ get_or-replicate (n - length bs) (i - length bs) 0 0 m
      ∙ sym (get_or_past bs i 0 l)
]

module _ (at : ℕ) (x bs : List ℕ) where
  front-length : length (resized at bs ++ x) ≡ at + length x
  front-length = length-append (resized at bs) x ∙ ap (λ n. n + length x) (length-resized at bs)

  byte-below : (i : ℕ) → i < at → get_or (overwritten at x bs) i 0 ≡ get_or bs i 0
  byte-below i h =
      get_or_append_left (resized at bs ++ x) (drop (at + length x) bs) 0 i (omega (arith, front-length, h))
      ∙ get_or_append_left (resized at bs) x 0 i (omega (arith, length-resized at bs, h))
      ∙ byte-resized at bs i h

  byte-in : (i : ℕ) → at ≤ i → i < at + length x → get_or (overwritten at x bs) i 0 ≡ get_or x (i - at) 0
  byte-in i h k =
      get_or_append_left (resized at bs ++ x) (drop (at + length x) bs) 0 i (omega (arith, front-length, k))
      ∙ get_or-append_right (resized at bs) x at i 0 (length-resized at bs) h

  byte-above : (i : ℕ) → at + length x ≤ i → get_or (overwritten at x bs) i 0 ≡ get_or bs i 0
  byte-above i h =
      get_or-append_right (resized at bs ++ x) (drop (at + length x) bs) (at + length x) i 0 front-length h
      ∙ get_or-drop (at + length x) bs (i - (at + length x)) 0
      ∙ ap (λ j. get_or bs j 0) (omega (arith, h))

pub ranges-commute : (p q : ℕ) (x y bs : List ℕ) → p + length x ≤ q → overwritten p x (overwritten q y bs) ≡ overwritten q y (overwritten p x bs)
ranges-commute p q x y bs h = ext_get_or 0 (overwritten p x (overwritten q y bs)) (overwritten q y (overwritten p x bs)) one-length (λ i l. byte i)
  where
    one-length : length (overwritten p x (overwritten q y bs)) ≡ length (overwritten q y (overwritten p x bs))
    one-length =
        omega (arith, h, length-overwritten p x (overwritten q y bs), length-overwritten q y bs, length-overwritten q y (overwritten p x bs), length-overwritten p x bs)

    byte : (i : ℕ) → get_or (overwritten p x (overwritten q y bs)) i 0 ≡ get_or (overwritten q y (overwritten p x bs)) i 0
    byte i = elim (cases_lt i p) [
      | inl a ↦
          byte-below p x (overwritten q y bs) i a ∙ byte-below q y bs i (omega (arith, a, h))
          ∙ sym (byte-below q y (overwritten p x bs) i (omega (arith, a, h)) ∙ byte-below p x bs i a)
      | inr a ↦ elim (cases_lt i (p + length x)) [
        | inl b ↦
            byte-in p x (overwritten q y bs) i a b
            ∙ sym (byte-below q y (overwritten p x bs) i (omega (arith, b, h)) ∙ byte-in p x bs i a b)
        | inr b ↦ byte-above p x (overwritten q y bs) i b ∙ (elim (cases_lt i q) [
          | inl c ↦ byte-below q y bs i c ∙ sym (byte-below q y (overwritten p x bs) i c ∙ byte-above p x bs i b)
          | inr c ↦ elim (cases_lt i (q + length y)) [
            | inl e ↦ byte-in q y bs i c e ∙ sym (byte-in q y (overwritten p x bs) i c e)
            | inr e ↦ byte-above q y bs i e ∙ sym (byte-above q y (overwritten p x bs) i e ∙ byte-above p x bs i b)
          ]
        ])
      ]
    ]

-- No bytes at a range, which may lengthen a file, and bytes at another.
pub none-commute : (p q : ℕ) (y bs : List ℕ) → overwritten p [] (overwritten q y bs) ≡ overwritten q y (overwritten p [] bs)
none-commute p q y bs = ext_get_or 0 (overwritten p [] (overwritten q y bs)) (overwritten q y (overwritten p [] bs)) one-length (λ i l. byte i)
  where
    one-length : length (overwritten p [] (overwritten q y bs)) ≡ length (overwritten q y (overwritten p [] bs))
    one-length =
        omega (arith, length-overwritten p [] (overwritten q y bs), length-overwritten q y bs, length-overwritten q y (overwritten p [] bs), length-overwritten p [] bs)

    same : (cs : List ℕ) (i : ℕ) → get_or (overwritten p [] cs) i 0 ≡ get_or cs i 0
    same cs i = elim (cases_lt i p) [ inl a ↦ byte-below p [] cs i a | inr a ↦ byte-above p [] cs i (omega (arith, a)) ]

    byte : (i : ℕ) → get_or (overwritten p [] (overwritten q y bs)) i 0 ≡ get_or (overwritten q y (overwritten p [] bs)) i 0
    byte i = same (overwritten q y bs) i ∙ elim (cases_lt i q) [
      | inl a ↦ byte-below q y bs i a ∙ sym (byte-below q y (overwritten p [] bs) i a ∙ same bs i)
      | inr a ↦ elim (cases_lt i (q + length y)) [
        | inl b ↦ byte-in q y bs i a b ∙ sym (byte-in q y (overwritten p [] bs) i a b)
        | inr b ↦ byte-above q y bs i b ∙ sym (byte-above q y (overwritten p [] bs) i b ∙ same bs i)
      ]
    ]
