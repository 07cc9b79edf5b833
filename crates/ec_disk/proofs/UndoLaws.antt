-- Old bytes written back restore an image.
use Rattle.std.proofs.Common.{◌≡◌, inl, inr, ℕ, ◌+◌, ◌-◌, ◌<◌, ◌≤◌, List, [], ◌∷◌, ◌++◌, length, refl, sym, ◌∙◌, ap, arith}
use Rattle.ec_disk.specs.Disk.{byte}
use Rattle.ec_disk.specs.Effects.{written, InRange}
use Rattle.ec_disk.specs.Images.{in_range_or_not, length-written, byte-written_in, byte-written_out}
use Rattle.ec_disk.specs.Undo.{undone, Restores}
use Rattle.ec_disk.specs.declared.undo.Undo.{Undo}

pub undone-push : (undos : List Undo) (undo : Undo) (image : List ℕ) → undone (undos ++ undo ∷ []) image ≡ undone undos (written undo.at undo.old image)
undone-push [] undo image = refl
undone-push (first ∷ undos) undo image = ap (λ (l : List ℕ). written first.at first.old l) (undone-push undos undo image)

-- a place of an image depends on nothing but this place
written-local : (at : ℕ) (bytes a b : List ℕ) (i : ℕ) → byte a i ≡ byte b i → byte (written at bytes a) i ≡ byte (written at bytes b) i
written-local at bytes a b i same = elim (in_range_or_not at (length bytes) i) [
  | inl r ↦
      ap (λ (k : ℕ). byte (written at bytes a) k) (place r)
      ∙ byte-written_in at bytes a (i - at) (omega (arith, r.0, r.1))
      ∙ sym (byte-written_in at bytes b (i - at) (omega (arith, r.0, r.1)))
      ∙ ap (λ (k : ℕ). byte (written at bytes b) k) (sym (place r))
  | inr out ↦ byte-written_out at bytes a i out ∙ same ∙ sym (byte-written_out at bytes b i out)
]
  where
    place : InRange at (length bytes) i → i ≡ at + (i - at)
    place r = omega (arith, r.0)

undone-local : (undos : List Undo) (a b : List ℕ) (i : ℕ) → byte a i ≡ byte b i → byte (undone undos a) i ≡ byte (undone undos b) i
undone-local [] a b i same = same
undone-local (undo ∷ undos) a b i same = written-local undo.at undo.old (undone undos a) (undone undos b) i (undone-local undos a b i same)

undone-grows : (undos : List Undo) (image : List ℕ) → length image ≤ length (undone undos image)
undone-grows [] image = omega arith
undone-grows (undo ∷ undos) image = omega (arith, undone-grows undos image, length-written undo.at undo.old (undone undos image))

-- ranges inside an image are inside a longer one
undone-inside : (undos : List Undo) (a b : List ℕ) → length a ≤ length b → length (undone undos a) ≡ length a → length (undone undos b) ≡ length b
undone-inside [] a b le inside = refl
undone-inside (undo ∷ undos) a b le inside =
    let grows = undone-grows undos a in
    let size = length-written undo.at undo.old (undone undos a) in
    let rest = undone-inside undos a b le (omega (arith, grows, size, inside)) in
    omega (arith, rest, size, grows, inside, le, length-written undo.at undo.old (undone undos b))

-- the last of them is inside the image, and stays so for those before it
pub last_inside : (undos : List Undo) (undo : Undo) (image : List ℕ) → length (undone (undos ++ undo ∷ []) image) ≡ length image → undo.at + length undo.old ≤ length image
last_inside undos undo image inside =
    omega (arith, inside, ap length (undone-push undos undo image), undone-grows undos (written undo.at undo.old image), length-written undo.at undo.old image)

pub rest_inside : (undos : List Undo) (undo : Undo) (image : List ℕ) → length (undone (undos ++ undo ∷ []) image) ≡ length image → length (undone undos (written undo.at undo.old image)) ≡ length (written undo.at undo.old image)
rest_inside undos undo image inside = omega (arith, inside, ap length (undone-push undos undo image), last_inside undos undo image inside, length-written undo.at undo.old image)

-- a write more, whose old bytes are kept
pub restores-write : (undos : List Undo) (len : ℕ) (now synced : List ℕ) (undo : Undo) (piece : List ℕ) → Restores undos len now synced → length undo.old ≡ length piece
    → ((i : ℕ) → i < length piece → byte undo.old i ≡ byte now (undo.at + i)) → Restores (undos ++ undo ∷ []) len (written undo.at piece now) synced
restores-write undos len now synced undo piece was size kept = record {
  len_is = was.len_is;
  no_shorter = omega (arith, was.no_shorter, length-written undo.at piece now);
  inside =
      ap length (undone-push undos undo new)
      ∙ undone-inside undos now back (omega (arith, length-written undo.at piece now, same_size)) was.inside
      ∙ same_size;
  bytes = λ i. ap (λ (l : List ℕ). byte l i) (undone-push undos undo new) ∙ undone-local undos back now i (same i) ∙ was.bytes i;
}
  where
    new : List ℕ
    new = written undo.at piece now

    back : List ℕ
    back = written undo.at undo.old new

    same_size : length back ≡ length new
    same_size = omega (arith, length-written undo.at undo.old new, length-written undo.at piece now, size)

    same : (i : ℕ) → byte back i ≡ byte now i
    same i = elim (in_range_or_not undo.at (length piece) i) [
      | inl r ↦
          ap (λ (k : ℕ). byte back k) (place r)
          ∙ byte-written_in undo.at undo.old new (i - undo.at) (omega (arith, r.0, r.1, size))
          ∙ kept (i - undo.at) (omega (arith, r.0, r.1))
          ∙ ap (λ (k : ℕ). byte now k) (sym (place r))
      | inr out ↦ byte-written_out undo.at undo.old new i (λ r. out (r.0, omega (arith, r.1, size))) ∙ byte-written_out undo.at piece now i out
    ]
      where
        place : InRange undo.at (length piece) i → i ≡ undo.at + (i - undo.at)
        place r = omega (arith, r.0)
