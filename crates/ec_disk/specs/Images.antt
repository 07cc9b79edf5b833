-- Parts of images: what a write leaves alone, and what it puts there.
use Rattle.std.specs.Prelude.{◌<◌, ◌≡◌, ◌⊎◌, ℕ, ◌+◌, ◌-◌, ◌≤◌, List, [], ◌∷◌, ◌++◌, length, take, drop, replicate}
use Rattle.std.proofs.Common.{inl, inr, arith, ◌∙◌, ap, sym, refl, append_assoc, length-append}
use Rattle.std.proofs.Math.Seq.{take-add}
use Rattle.std.proofs.lemmas.Bool.{cases_lt}
use Rattle.std.proofs.lemmas.List.{length-take, length-drop, length-replicate, get_or-take, get_or-drop, get_or-replicate, get_or_past, get_or_append_left, get_or-append_right, ext_get_or, drop-drop, take_at, drop_at, drop_more}
use Rattle.ec_disk.specs.Disk.{byte, part}
use Rattle.ec_disk.specs.Effects.{written, Loose, InRange}

pub length-part : (image : List ℕ) (at n : ℕ) → at + n ≤ length image → length (part image at n) ≡ n
length-part image at n le = omega (arith, length-take n (drop at image), length-drop at image, le)

pub byte-part : (image : List ℕ) (at n i : ℕ) → i < n → byte (part image at n) i ≡ byte image (at + i)
byte-part image at n i lt = get_or-take n (drop at image) i 0 lt ∙ get_or-drop at image i 0

pub part-add : (image : List ℕ) (at m n : ℕ) → part image at (m + n) ≡ part image at m ++ part image (at + m) n
part-add image at m n = take-add m n (drop at image) ∙ ap (λ (l : List ℕ). part image at m ++ take n l) (drop-drop m at image)

pub part-one : (image : List ℕ) (at : ℕ) → at < length image → part image at 1 ≡ byte image at ∷ []
part-one image at lt = ap (λ (l : List ℕ). take 1 l) (drop_more image at 0 lt)

-- a part that isn't written
pub part-loose : (W : ℕ → Type 0) (old new : List ℕ) (at n : ℕ) → Loose W old new → at + n ≤ length old → ((i : ℕ) → at ≤ i → i < at + n → W i → ⊥) → part new at n ≡ part old at n
part-loose W old new at n loose le out =
    ext_get_or 0 (part new at n) (part old at n)
    (length-part new at n (omega (arith, le, loose.no_shorter)) ∙ sym (length-part old at n le))
    (λ i lt. same i (omega (arith, lt, length-part new at n (omega (arith, le, loose.no_shorter)))))
  where
    same : (i : ℕ) → i < n → byte (part new at n) i ≡ byte (part old at n) i
    same i lt = byte-part new at n i lt ∙ loose.outside (at + i) (omega (arith, lt, le)) (out (at + i) (omega arith) (omega (arith, lt))) ∙ sym (byte-part old at n i lt)

pub in_range_or_not : (at n i : ℕ) → InRange at n i ⊎ (InRange at n i → ⊥)
in_range_or_not at n i = elim (cases_lt i at) [
  | inl below ↦ inr (λ r. absurd (omega (arith, below, r.0)))
  | inr from ↦ elim (cases_lt i (at + n)) [
    | inl inside ↦ inl (from, inside)
    | inr above ↦ inr (λ r. absurd (omega (arith, above, r.1)))
  ]
]

-- a write over an image
module _ (at : ℕ) (bytes old : List ℕ) where
  abbrev gap : List ℕ
  gap = replicate (at - length old) 0

  abbrev front : List ℕ
  front = take at old ++ gap

  abbrev rest : List ℕ
  rest = drop (at + length bytes) old

  length-front : length front ≡ at
  length-front = omega (arith, length-append (take at old) gap, length-take at old, length-replicate {A = ℕ} (at - length old) 0)

  pub length-written : length (written at bytes old) ≡ (at + length bytes) + (length old - (at + length bytes))
  length-written = omega (arith, length-append (front ++ bytes) rest, length-append front bytes, length-front, length-drop (at + length bytes) old)

  -- what is written stands there
  pub part-written : part (written at bytes old) at (length bytes) ≡ bytes
  part-written =
      ap (λ (l : List ℕ). take (length bytes) (drop at l)) (append_assoc front bytes rest)
      ∙ ap (λ (l : List ℕ). take (length bytes) l) (drop_at front (bytes ++ rest) at length-front)
      ∙ take_at bytes rest (length bytes) refl

  pub byte-written_in : (i : ℕ) → i < length bytes → byte (written at bytes old) (at + i) ≡ byte bytes i
  byte-written_in i lt = sym (byte-part (written at bytes old) at (length bytes) i lt) ∙ ap (λ (l : List ℕ). byte l i) part-written

  byte-below : (i : ℕ) → i < at → byte (written at bytes old) i ≡ byte old i
  byte-below i below =
      get_or_append_left (front ++ bytes) rest 0 i (omega (arith, below, length-front, length-append front bytes))
      ∙ get_or_append_left front bytes 0 i (omega (arith, below, length-front))
      ∙ elim (cases_lt i (length old)) [
        | inl lt ↦ get_or_append_left (take at old) gap 0 i (omega (arith, lt, below, length-take at old)) ∙ get_or-take at old i 0 below
        | inr past ↦
            get_or-append_right (take at old) gap (length old) i 0 (omega (arith, past, below, length-take at old)) past
            ∙ get_or-replicate (at - length old) (i - length old) 0 0 (omega (arith, past, below))
            ∙ sym (get_or_past old i 0 past)
      ]

  byte-above : (i : ℕ) → at + length bytes ≤ i → byte (written at bytes old) i ≡ byte old i
  byte-above i above =
      get_or-append_right (front ++ bytes) rest (at + length bytes) i 0 (omega (arith, length-append front bytes, length-front)) above
      ∙ get_or-drop (at + length bytes) old (i - (at + length bytes)) 0
      ∙ ap (λ (k : ℕ). byte old k) (omega (arith, above))

  -- the places outside the range stay, those past the end too
  pub byte-written_out : (i : ℕ) → (InRange at (length bytes) i → ⊥) → byte (written at bytes old) i ≡ byte old i
  byte-written_out i out = elim (cases_lt i at) [
    | inl below ↦ byte-below i below
    | inr from ↦ byte-above i (elim (cases_lt i (at + length bytes)) [ inl inside ↦ absurd (out (from, inside)) | inr above ↦ above ])
  ]

  pub written-loose : Loose (InRange at (length bytes)) old (written at bytes old)
  written-loose = record { no_shorter = omega (arith, length-written); outside = λ i lt out. byte-written_out i out }

pub byte-written : (at b : ℕ) (old : List ℕ) → byte (written at (b ∷ []) old) at ≡ b
byte-written at b old = ap (λ (k : ℕ). byte (written at (b ∷ []) old) k) (none at) ∙ byte-written_in at (b ∷ []) old 0 (omega arith)
  where
    none : (n : ℕ) → n ≡ n + 0
    none n = omega arith
