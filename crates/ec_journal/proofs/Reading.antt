-- What is read of a journal's bytes, record by record.
use Rattle.std.proofs.Common.{◌≡◌, inl, inr, ⊎_elim, ℕ, ◌+◌, ◌^◌, ◌<◌, ◌≤◌, List, [], ◌∷◌, ◌++◌, length, take, drop, get_or, refl, sym, ◌∙◌, ap, subst, arith, length-append}
use Rattle.std.specs.Int.{w32, to_be_bytes, from_be_bytes}
use Rattle.std.proofs.lemmas.Bool.{cases_lt}
use Rattle.std.proofs.lemmas.Nat.{be_bytes_4}
use Rattle.std.proofs.lemmas.List.{append-nil, drop-drop, drop-take, take-take, get_or_past}
use Rattle.std.proofs.lemmas.List.Elements.{All-push}
use Rattle.ec_disk.specs.Disk.{byte, part}
use Rattle.ec_disk.specs.Images.{length-part, byte-part, part-add, part-one}
use Rattle.ec_journal.specs.Records.{open_gate, IsShort, records, Front, HasBodies, RunsPast}
use Rattle.ec_journal.specs.Journal.{IsFound}
use Rattle.ec_journal.specs.declared.read.Found.{Found}
use Rattle.ec_journal.specs.Laws.{records-append}

part-of-part : (image : List ℕ) (at size m n : ℕ) → m + n ≤ size → part (part image at size) m n ≡ part image (at + m) n
part-of-part image at size m n le =
    sym (drop-take m n (part image at size)) ∙ ap (λ (l : List ℕ). drop m l) (take-take (m + n) size (drop at image) le) ∙ drop-take m n (drop at image) ∙ ap (λ (l : List ℕ). take n l) (drop-drop m at image)

pub records-push : (bodies : List (List ℕ)) (body : List ℕ) → records (bodies ++ body ∷ []) ≡ records bodies ++ (open_gate ∷ to_be_bytes w32 (length body) ++ body)
records-push bodies body = records-append bodies (body ∷ []) ∙ ap (λ (l : List ℕ). records bodies ++ l) (append-nil (open_gate ∷ to_be_bytes w32 (length body) ++ body))

-- a record more
pub front-more : (bytes : List ℕ) (end len : ℕ) (bodies : List (List ℕ)) (body : List ℕ) → Front bytes 0 bodies → end ≡ length (records bodies) → byte bytes end ≡ open_gate → end + 6 + len ≤ length bytes
    → len ≡ from_be_bytes w32 (part bytes (end + 1) 4) → ((i : ℕ) → byte bytes i < 256) → body ≡ part bytes (end + 5) len → len < 2 ^ 32 → (length (records (bodies ++ body ∷ [])) ≡ end + 5 + len) × Front bytes 0 (bodies ++ body ∷ [])
front-more bytes end len bodies body front ends is_open inside len_is small body_is short = (
  long_is,
  record {
    short = All-push IsShort bodies body front.short (subst (λ n. n < 2 ^ 32) size short);
    stands =
        ap (λ (k : ℕ). take k bytes) (long_is ∙ one_four)
        ∙ part-add bytes 0 end (5 + len)
        ∙ ap (λ (l : List ℕ). l ++ part bytes (0 + end) (5 + len)) (ap (λ (k : ℕ). take k bytes) ends ∙ front.stands)
        ∙ ap (λ (l : List ℕ). records bodies ++ l) (ap (λ (k : ℕ). part bytes k (5 + len)) none ∙ ap (λ (k : ℕ). part bytes end k) five_len ∙ part-add bytes end 1 (4 + len) ∙ ap (λ (l : List ℕ). l ++ part bytes (end + 1) (4 + len)) (part-one bytes end (omega (arith, inside)) ∙ ap (λ (b : ℕ). b ∷ []) is_open))
        ∙ ap (λ (l : List ℕ). records bodies ++ (open_gate ∷ l)) (part-add bytes (end + 1) 4 len ∙ ap (λ (l : List ℕ). l ++ part bytes (end + 1 + 4) len) four ∙ ap (λ (l : List ℕ). to_be_bytes w32 (length body) ++ l) (ap (λ (k : ℕ). part bytes k len) five ∙ sym body_is))
        ∙ sym (records-push bodies body);
  },
)
  where
    size : len ≡ length body
    size = sym (ap (λ (l : List ℕ). length l) body_is ∙ length-part bytes (end + 5) len (omega (arith, inside)))

    four_long : length (to_be_bytes w32 (length body)) ≡ 4
    four_long = refl

    long_is : length (records (bodies ++ body ∷ [])) ≡ end + 5 + len
    long_is = omega (arith, ap length (records-push bodies body), length-append (records bodies) (open_gate ∷ to_be_bytes w32 (length body) ++ body), length-append (to_be_bytes w32 (length body)) body, four_long, size, ends)

    one_four : end + 5 + len ≡ end + (5 + len)
    one_four = omega arith

    five_len : 5 + len ≡ 1 + (4 + len)
    five_len = omega arith

    none : 0 + end ≡ end
    none = omega arith

    five : end + 1 + 4 ≡ end + 5
    five = omega arith

    long : length (part bytes (end + 1) 4) ≡ 4
    long = length-part bytes (end + 1) 4 (omega (arith, inside))

    small_part : (i : ℕ) → get_or (part bytes (end + 1) 4) i 0 < 256
    small_part i = elim (cases_lt i 4) [
      | inl lt ↦ subst (λ b. b < 256) (sym (byte-part bytes (end + 1) 4 i lt)) (small (end + 1 + i))
      | inr past ↦ subst (λ b. b < 256) (sym (get_or_past (part bytes (end + 1) 4) i 0 (omega (arith, long, past)))) (omega arith)
    ]

    four : part bytes (end + 1) 4 ≡ to_be_bytes w32 (length body)
    four = sym (be_bytes_4 (part bytes (end + 1) 4) (length body) long small_part (sym size ∙ len_is))

-- what stands in the bytes of a journal stands in the image
module _ (image : List ℕ) (at size : ℕ) (bytes : List ℕ) (inside : at + size ≤ length image) (is : bytes ≡ part image at size) where
  size_is : length bytes ≡ size
  size_is = ap (λ (l : List ℕ). length l) is ∙ length-part image at size inside

  front-in : (bodies : List (List ℕ)) → length (records bodies) < size → Front bytes 0 bodies → Front image at bodies
  front-in bodies room front = record {
    short = front.short;
    stands = sym (take-take (length (records bodies)) size (drop at image) (omega (arith, room))) ∙ ap (λ (l : List ℕ). take (length (records bodies)) l) (sym is) ∙ front.stands;
  }

  byte-in : (i : ℕ) → i < size → byte bytes (0 + i) ≡ byte image (at + i)
  byte-in i lt = ap (λ (l : List ℕ). byte l (0 + i)) is ∙ ap (λ (k : ℕ). byte (part image at size) k) (none i) ∙ byte-part image at size i lt
    where
      none : (n : ℕ) → 0 + n ≡ n
      none n = omega arith

  pub bodies-in : (bodies : List (List ℕ)) → HasBodies bytes 0 (length bytes) bodies → HasBodies image at size bodies
  bodies-in bodies has =
      let room : length (records bodies) < size = omega (arith, has.room, size_is) in
      record {
        inside = inside;
        room = room;
        front = front-in bodies room has.front;
        shut = λ is_open. has.shut (byte-in (length (records bodies)) room ∙ is_open);
      }

  pub past-in : (bodies : List (List ℕ)) → RunsPast bytes 0 (length bytes) bodies → RunsPast image at size bodies
  past-in bodies past =
      let room : length (records bodies) < size = omega (arith, past.gate_inside, size_is) in
      record {
        front = front-in bodies room past.front;
        gate_inside = room;
        is_open = sym (byte-in (length (records bodies)) room) ∙ past.is_open;
        past = elim (cases_lt size (length (records bodies) + 6)) [
          | inl short ↦ inl short
          | inr fits ↦ ⊎_elim (λ short. inl (omega (arith, short, size_is))) (λ over. inr (omega (arith, over, size_is, ap (λ (l : List ℕ). from_be_bytes w32 l) (field fits)))) past.past
        ];
      }
    where
      field : length (records bodies) + 6 ≤ size → part bytes (0 + length (records bodies) + 1) 4 ≡ part image (at + length (records bodies) + 1) 4
      field fits =
          ap (λ (l : List ℕ). part l (0 + length (records bodies) + 1) 4) is
          ∙ part-of-part image at size (0 + length (records bodies) + 1) 4 (omega (arith, fits))
          ∙ ap (λ (k : ℕ). part image k 4) (omega arith)

  pub found-in : (found : Found) → IsFound bytes 0 (length bytes) found → IsFound image at size found
  found-in found is_found = record {
    end = is_found.end;
    whole = λ is_whole. bodies-in found.bodies (is_found.whole is_whole);
    past = λ is_cut. past-in found.bodies (is_found.past is_cut);
  }
