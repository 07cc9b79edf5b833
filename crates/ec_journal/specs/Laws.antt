-- An image has at most one list of bodies in a journal, and none where a record runs past it.
use Rattle.std.specs.Prelude.{◌≡◌, ◌⊎◌, ◌+◌, ℕ, List, [], ◌∷◌, ◌++◌, length, take, drop}
use Rattle.std.specs.Int.{w32, to_be_bytes, from_be_bytes}
use Rattle.std.proofs.Common.{inl, inr, ⊎_elim, refl, sym, ◌∙◌, ap, subst, arith, append_assoc, length-append}
use Rattle.std.proofs.lemmas.List.{append-nil, take-take, take_at, drop_at, drop-drop, drop-take}
use Rattle.std.proofs.lemmas.List.Elements.{All-head, All-tail}
use Rattle.std.proofs.lemmas.Nat.{from_be_bytes-to_be_bytes_4}
use Rattle.ec_disk.specs.Disk.{byte, part}
use Rattle.ec_disk.specs.Images.{byte-part}
use Rattle.ec_journal.specs.Records.{open_gate, IsShort, records, Front, HasBodies, RunsPast}

pub records-append : (xs ys : List (List ℕ)) → records (xs ++ ys) ≡ records xs ++ records ys
records-append [] ys = refl
records-append (x ∷ xs) ys =
    ap (λ (l : List ℕ). open_gate ∷ to_be_bytes w32 (length x) ++ x ++ l) (records-append xs ys) ∙ sym (append_assoc (open_gate ∷ to_be_bytes w32 (length x) ++ x) (records xs) (records ys))

pub part-split : (image : List ℕ) (at m n : ℕ) (xs ys : List ℕ) → length xs ≡ m → part image at (m + n) ≡ xs ++ ys → (part image at m ≡ xs) × (part image (at + m) n ≡ ys)
part-split image at m n xs ys size is = (
  sym (take-take m (m + n) (drop at image) (omega arith)) ∙ ap (λ (l : List ℕ). take m l) is ∙ take_at xs ys m size,
  ap (λ (l : List ℕ). take n l) (sym (drop-drop m at image)) ∙ sym (drop-take m n (drop at image)) ∙ ap (λ (l : List ℕ). drop m l) is ∙ drop_at xs ys m size,
)

abbrev size_of_record : List ℕ → ℕ
size_of_record body = 5 + length body

pub length-records : (body : List ℕ) (bodies : List (List ℕ)) → length (records (body ∷ bodies)) ≡ size_of_record body + length (records bodies)
length-records body bodies =
    omega (arith, length-append (open_gate ∷ to_be_bytes w32 (length body) ++ body) (records bodies), length-append (to_be_bytes w32 (length body)) body, four)
  where
    four : length (to_be_bytes w32 (length body)) ≡ 4
    four = refl

-- the first record of a front
pub record Head (image : List ℕ) (at : ℕ) (body : List ℕ) (bodies : List (List ℕ)) : Type 0 where
  pub gate : byte image at ≡ open_gate
  pub len : from_be_bytes w32 (part image (at + 1) 4) ≡ length body
  pub body_is : part image (at + 5) (length body) ≡ body
  pub rest : Front image (at + size_of_record body) bodies

pub head : (image : List ℕ) (at : ℕ) (body : List ℕ) (bodies : List (List ℕ)) → Front image at (body ∷ bodies) → Head image at body bodies
head image at body bodies front =
    let n = length body in
    let be = to_be_bytes w32 n in
    let whole : part image at (size_of_record body + length (records bodies)) ≡ (open_gate ∷ be ++ body) ++ records bodies = ap (λ (k : ℕ). part image at k) (sym (length-records body bodies)) ∙ front.stands in
    let first = part-split image at (size_of_record body) (length (records bodies)) (open_gate ∷ be ++ body) (records bodies) (size n be refl) whole in
    let second = part-split image at 5 n (open_gate ∷ be) body refl first.0 in
    let third = part-split image at 1 4 (open_gate ∷ []) be refl second.0 in
    record {
      gate = gate third.0;
      len = ap (λ (l : List ℕ). from_be_bytes w32 l) third.1 ∙ from_be_bytes-to_be_bytes_4 n (All-head IsShort body bodies front.short);
      body_is = second.1;
      rest = record { short = All-tail IsShort body bodies front.short; stands = first.1 };
    }
  where
    size : (n : ℕ) (be : List ℕ) → length be ≡ 4 → length (open_gate ∷ be ++ body) ≡ size_of_record body
    size n be four = omega (arith, length-append be body, four)

    gate : part image at 1 ≡ open_gate ∷ [] → byte image at ≡ open_gate
    gate is = ap (λ (k : ℕ). byte image k) (none at) ∙ sym (byte-part image at 1 0 (omega arith)) ∙ ap (λ (l : List ℕ). byte l 0) is
      where
        none : (n : ℕ) → n ≡ n + 0
        none n = omega arith

-- one of two fronts goes on where the other ends
pub fronts : (image : List ℕ) (at : ℕ) (xs ys : List (List ℕ)) → Front image at xs → Front image at ys → (rest : List (List ℕ)) × ((ys ≡ xs ++ rest) ⊎ (xs ≡ ys ++ rest))
fronts image at [] ys one other = (ys, inl refl)
fronts image at (x ∷ xs) [] one other = (x ∷ xs, inr refl)
fronts image at (x ∷ xs) (y ∷ ys) one other =
    let a = head image at x xs one in
    let b = head image at y ys other in
    let same : x ≡ y = sym a.body_is ∙ ap (λ (n : ℕ). part image (at + 5) n) (sym a.len ∙ b.len) ∙ b.body_is in
    let later = fronts image (at + size_of_record x) xs ys a.rest (subst (λ (l : List ℕ). Front image (at + size_of_record l) ys) (sym same) b.rest) in (
      later.0,
      ⊎_elim (λ is. inl (ap (λ (l : List (List ℕ)). y ∷ l) is ∙ ap (λ (l : List ℕ). l ∷ xs ++ later.0) (sym same))) (λ is. inr (ap (λ (l : List (List ℕ)). x ∷ l) is ∙ ap (λ (l : List ℕ). l ∷ ys ++ later.0) same)) later.1,
    )

-- the record behind the first ones
pub next : (image : List ℕ) (at : ℕ) (xs : List (List ℕ)) (y : List ℕ) (ys : List (List ℕ)) → Front image at (xs ++ y ∷ ys) → Front image (at + length (records xs)) (y ∷ ys)
next image at [] y ys front = subst (λ k. Front image k (y ∷ ys)) (none at) front
  where
    none : (n : ℕ) → n ≡ n + 0
    none n = omega arith
next image at (x ∷ xs) y ys front =
    subst (λ k. Front image k (y ∷ ys)) (omega (arith, length-records x xs)) (next image (at + size_of_record x) xs y ys (head image at x (xs ++ y ∷ ys) front).rest)

pub bodies-unique : (image : List ℕ) (at size : ℕ) (xs ys : List (List ℕ)) → HasBodies image at size xs → HasBodies image at size ys → xs ≡ ys
bodies-unique image at size xs ys one other =
    let both = fronts image at xs ys one.front other.front in
    ⊎_elim (λ is. sym (longer xs ys both.0 one other is)) (λ is. longer ys xs both.0 other one is) both.1
  where
    longer : (xs ys rest : List (List ℕ)) → HasBodies image at size xs → HasBodies image at size ys → ys ≡ xs ++ rest → ys ≡ xs
    longer xs ys [] one other is = is ∙ append-nil xs
    longer xs ys (y ∷ rest) one other is = absurd (one.shut (head image (at + length (records xs)) y rest (next image at xs y rest (subst (λ l. Front image at l) is other.front))).gate)

pub whole-or-past : (image : List ℕ) (at size : ℕ) (xs ys : List (List ℕ)) → HasBodies image at size xs → RunsPast image at size ys → ⊥
whole-or-past image at size xs ys has past =
    let both = fronts image at xs ys has.front past.front in
    ⊎_elim (goes_on both.0) (ends_before both.0) both.1
  where
    goes_on : (rest : List (List ℕ)) → ys ≡ xs ++ rest → ⊥
    goes_on [] is = has.shut (subst (λ (l : List (List ℕ)). byte image (at + length (records l)) ≡ open_gate) (is ∙ append-nil xs) past.is_open)
    goes_on (y ∷ rest) is = has.shut (head image (at + length (records xs)) y rest (next image at xs y rest (subst (λ l. Front image at l) is past.front))).gate

    ends_before : (rest : List (List ℕ)) → xs ≡ ys ++ rest → ⊥
    ends_before [] is = has.shut (subst (λ (l : List (List ℕ)). byte image (at + length (records l)) ≡ open_gate) (sym (is ∙ append-nil ys)) past.is_open)
    ends_before (x ∷ rest) is =
        let record_is = head image (at + length (records ys)) x rest (next image at ys x rest (subst (λ l. Front image at l) is has.front)) in
        let long = ap (λ (l : List (List ℕ)). length (records l)) is ∙ ap (λ (l : List ℕ). length l) (records-append ys (x ∷ rest)) ∙ length-append (records ys) (records (x ∷ rest)) in
        ⊎_elim (λ short. absurd (omega (arith, short, long, length-records x rest, has.room))) (λ over. absurd (omega (arith, over, long, length-records x rest, has.room, record_is.len))) past.past
