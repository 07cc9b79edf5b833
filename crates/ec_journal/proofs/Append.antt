-- What the two writes of an append leave.
use Rattle.std.proofs.Common.{◌≡◌, ◌⊎◌, inl, inr, ℕ, ◌+◌, ◌-◌, ◌<◌, ◌≤◌, List, [], ◌∷◌, ◌++◌, length, take, drop, refl, sym, ◌∙◌, ap, subst, arith, length-append}
use Rattle.std.specs.Int.{w32, to_be_bytes}
use Rattle.std.proofs.lemmas.Bool.{cases_eq}
use Rattle.std.proofs.lemmas.List.{get_or_at, take-take, take_at}
use Rattle.std.proofs.lemmas.List.Elements.{All-push}
use Rattle.ec_disk.specs.Disk.{View, byte, part}
use Rattle.ec_disk.specs.Effects.{written, Loose, InRange, After, IsSynced, LeavesOnly}
use Rattle.ec_disk.specs.Images.{byte-part, part-add, part-one, part-loose, part-written, byte-written}
use Rattle.ec_disk.specs.Runs.{Ran, leaves_only, leaves_then, ran_within, ran_then}
use Rattle.ec_disk.specs.Calls.{Call}
use Rattle.ec_journal.specs.Ends.{EndsBy, answer_of}
use Rattle.ec_journal.specs.declared.fault.JournalFault.{JournalFault}
use Rattle.ec_journal.specs.Records.{open_gate, IsShort, records, HasBodies}
use Rattle.ec_journal.specs.RecordBytes.{staged}
use Rattle.ec_journal.proofs.Reading.{records-push}

-- a journal whose records and closed gate aren't written
pub bodies-loose : (W : ℕ → Type 0) (d c : List ℕ) (at size : ℕ) (bodies : List (List ℕ)) → HasBodies d at size bodies → Loose W d c → ((i : ℕ) → at ≤ i → i ≤ at + length (records bodies) → W i → ⊥) → HasBodies c at size bodies
bodies-loose W d c at size bodies has loose out = record {
  inside = omega (arith, has.inside, loose.no_shorter);
  room = has.room;
  front = record { short = has.front.short; stands = part-loose W d c at (length (records bodies)) loose (omega (arith, has.inside, has.room)) (λ i le lt. out i le (omega (arith, lt))) ∙ has.front.stands };
  shut = λ is. has.shut (sym (loose.outside (at + length (records bodies)) (omega (arith, has.inside, has.room)) (out (at + length (records bodies)) (omega arith) (omega arith))) ∙ is);
}

abbrev head : List ℕ → List ℕ
head body = to_be_bytes w32 (length body)

module _ (at size : ℕ) (bodies : List (List ℕ)) (body : List ℕ) (short : IsShort body) (fits : length (records bodies) + length body + 6 ≤ size) where
  abbrev gate : ℕ
  gate = at + length (records bodies)

  size-head : length (head body) ≡ 4
  size-head = refl

  size-staged : length (staged body) ≡ length body + 5
  size-staged = omega (arith, length-append ((head body) ++ body) (0 ∷ []), length-append (head body) body, size-head)

  pub size-records : length (records (bodies ++ body ∷ [])) ≡ length (records bodies) + length body + 5
  size-records = omega (arith, ap length (records-push bodies body), length-append (records bodies) (open_gate ∷ (head body) ++ body), length-append (head body) body, size-head)

  -- the gate is open over a record that stands there whole
  pub opened : (d c : List ℕ) → HasBodies d at size bodies → part d (gate + 1) (length (staged body)) ≡ (staged body) → Loose (InRange gate 1) d c → byte c gate ≡ open_gate → HasBodies c at size (bodies ++ body ∷ [])
  opened d c has there loose is_open =
      let inside = has.inside in
      let rest : part c (gate + 1) (length (staged body)) ≡ (staged body) =
      part-loose (InRange gate 1) d c (gate + 1) (length (staged body)) loose (omega (arith, inside, fits, size-staged)) (λ i le lt in_range. omega (arith, le, in_range.1)) ∙ there in
      let front : part c at (length (records bodies)) ≡ records bodies =
      part-loose (InRange gate 1) d c at (length (records bodies)) loose (omega (arith, inside, fits)) (λ i le lt in_range. omega (arith, lt, in_range.0)) ∙ has.front.stands in
      let long : gate + 1 + length (staged body) ≤ length c = omega (arith, inside, fits, size-staged, loose.no_shorter) in
      let most : part c (gate + 1) (length ((head body) ++ body)) ≡ (head body) ++ body = front_of c (gate + 1) ((head body) ++ body) 0 rest in
      let last : byte c (gate + 1 + length ((head body) ++ body)) ≡ 0 = last_of c (gate + 1) ((head body) ++ body) 0 rest in
      record {
        inside = omega (arith, inside, loose.no_shorter);
        room = omega (arith, size-records, fits);
        front = record {
          short = All-push IsShort bodies body has.front.short short;
          stands =
              ap (λ (k : ℕ). part c at k) (size-split)
              ∙ part-add c at (length (records bodies)) (1 + length ((head body) ++ body))
              ∙ ap (λ (l : List ℕ). l ++ part c gate (1 + length ((head body) ++ body))) front
              ∙ ap (λ (l : List ℕ). records bodies ++ l) (part-add c gate 1 (length ((head body) ++ body)))
              ∙ ap (λ (l : List ℕ). records bodies ++ (l ++ part c (gate + 1) (length ((head body) ++ body)))) (part-one c gate (omega (arith, long)) ∙ ap (λ (b : ℕ). b ∷ []) is_open)
              ∙ ap (λ (l : List ℕ). records bodies ++ (open_gate ∷ l)) most
              ∙ sym (records-push bodies body);
        };
        shut = λ is. omega (arith, sym last ∙ ap (λ (k : ℕ). byte c k) place ∙ is);
      }
    where
      size-split : length (records (bodies ++ body ∷ [])) ≡ length (records bodies) + (1 + length ((head body) ++ body))
      size-split = omega (arith, size-records, length-append (head body) body, size-head)

      place : gate + 1 + length ((head body) ++ body) ≡ at + length (records (bodies ++ body ∷ []))
      place = omega (arith, size-split)

      front_of : (c : List ℕ) (from : ℕ) (xs : List ℕ) (y : ℕ) → part c from (length (xs ++ y ∷ [])) ≡ xs ++ y ∷ [] → part c from (length xs) ≡ xs
      front_of c from xs y is =
          sym (take-take (length xs) (length (xs ++ y ∷ [])) (drop from c) (omega (arith, length-append xs (y ∷ [])))) ∙ ap (λ (l : List ℕ). take (length xs) l) is ∙ take_at xs (y ∷ []) (length xs) refl

      last_of : (c : List ℕ) (from : ℕ) (xs : List ℕ) (y : ℕ) → part c from (length (xs ++ y ∷ [])) ≡ xs ++ y ∷ [] → byte c (from + length xs) ≡ y
      last_of c from xs y is =
          sym (byte-part c from (length (xs ++ y ∷ [])) (length xs) (omega (arith, length-append xs (y ∷ [])))) ∙ ap (λ (l : List ℕ). byte l (length xs)) is ∙ get_or_at xs y [] 0 (length xs) refl

-- an append's two writes with their syncs
module _ (at size end : ℕ) (bodies : List (List ℕ)) (body : List ℕ) (ends : end ≡ length (records bodies)) (short : IsShort body) (fits : length body + 6 ≤ size - end) (before : end < size) where
  abbrev Has : List (List ℕ) → List ℕ → Type 0
  Has bs image = HasBodies image at size bs

  abbrev Either : List ℕ → Type 0
  Either image = Has bodies image ⊎ Has (bodies ++ body ∷ []) image

  module _ (old mid : View) (each : (c : List ℕ) → old.may_leave c → Has bodies c) (first : Ran (InRange (at + end + 1) (length (staged body))) old mid) where
    pub kept_by_first : (c : List ℕ) → After old (InRange (at + end + 1) (length (staged body))) c → Has bodies c
    kept_by_first c after = bodies-loose (InRange (at + end + 1) (length (staged body))) after.0 c at size bodies (each after.0 after.1) after.2 (λ i le up_to in_range. omega (arith, up_to, in_range.0, ends))

    pub first_leaves : LeavesOnly old mid Either
    first_leaves = leaves_only _ Either old mid first (λ c after. inl (kept_by_first c after))

    module _ (given : mid.may_leave mid.gives) (wrote : mid.gives ≡ written (at + end + 1) (staged body) old.gives) (synced : IsSynced mid) (new : View) (second : Ran (InRange (at + end) 1) mid new) where
      has : Has bodies mid.gives
      has = kept_by_first mid.gives (first.crash mid.gives given)

      -- what was synced of the new one
      pub old_stays : new.synced ≡ mid.gives → Has bodies new.synced
      old_stays same = subst (Has bodies) (sym same) has

      stands : part mid.gives (at + length (records bodies) + 1) (length (staged body)) ≡ staged body
      stands = subst (λ k. part mid.gives (at + k + 1) (length (staged body)) ≡ staged body) ends
          (subst (λ image. part image (at + end + 1) (length (staged body)) ≡ staged body) (sym wrote) (part-written (at + end + 1) _ old.gives))

      loose : (c : List ℕ) → After mid (InRange (at + end) 1) c → Loose (InRange (at + length (records bodies)) 1) mid.gives c
      loose c after = subst (λ k. Loose (InRange (at + k) 1) mid.gives c) ends (subst (λ d. Loose (InRange (at + end) 1) d c) (synced after.0 after.1) after.2)

      either : (c : List ℕ) → After mid (InRange (at + end) 1) c → Either c
      either c after = elim (cases_eq (byte c (at + length (records bodies))) open_gate) [
        | inl is_open ↦ inr (opened at size bodies body short (omega (arith, ends, fits, before)) mid.gives c has stands (loose c after) is_open)
        | inr shut ↦ inl record {
          inside = omega (arith, has.inside, (loose c after).no_shorter);
          room = has.room;
          front = record {
            short = has.front.short;
            stands = part-loose _ mid.gives c at (length (records bodies)) (loose c after) (omega (arith, has.inside, has.room)) (λ i le lt in_range. omega (arith, lt, in_range.0)) ∙ has.front.stands;
          };
          shut = shut;
        }
      ]

      pub both_leave : LeavesOnly old new Either
      both_leave = leaves_then Either old mid new first_leaves (leaves_only _ Either mid new second either)

      -- what a read gives, where the gate's write was carried out
      pub given_both : new.gives ≡ written (at + end) (open_gate ∷ []) mid.gives → new.may_leave new.gives → Has (bodies ++ body ∷ []) new.gives
      given_both is_written now_given =
          opened at size bodies body short (omega (arith, ends, fits, before)) mid.gives new.gives has stands (loose new.gives (second.crash new.gives now_given)) gate_open
        where
          gate_open : byte new.gives (at + length (records bodies)) ≡ open_gate
          gate_open = subst (λ k. byte new.gives (at + k) ≡ open_gate) ends (subst (λ image. byte image (at + end) ≡ open_gate) (sym is_written) (byte-written (at + end) open_gate mid.gives))

      pub appended : new.gives ≡ written (at + end) (open_gate ∷ []) mid.gives → IsSynced new → new.may_leave new.gives → (c : List ℕ) → new.may_leave c → Has (bodies ++ body ∷ []) c
      appended is_written now_synced now_given c left = subst (Has (bodies ++ body ∷ [])) (sym (now_synced c left)) (given_both is_written now_given)

-- both writes are behind the records
pub both_ran : (at size end : ℕ) (body : List ℕ) → length body + 6 ≤ size - end → end < size → (W : ℕ → Type 0) → ((i : ℕ) → at + end ≤ i → i < at + size → W i) → (old mid new : View)
    → Ran (InRange (at + end + 1) (length (staged body))) old mid → Ran (InRange (at + end) 1) mid new → Ran W old new
both_ran at size end body fits before W covers old mid new first second =
    ran_then W old mid new
    (ran_within (InRange (at + end + 1) (length (staged body))) W (λ i r. covers i (omega (arith, r.0)) (omega (arith, r.1, fits, before, long))) old mid first)
    (ran_within (InRange (at + end) 1) W (λ i r. covers i (omega (arith, r.0)) (omega (arith, r.1, before))) mid new second)
  where
    long : length (staged body) ≡ length body + 5
    long = omega (arith, length-append (to_be_bytes w32 (length body) ++ body) (0 ∷ []), length-append (to_be_bytes w32 (length body)) body, four)
      where
        four : length (to_be_bytes w32 (length body)) ≡ 4
        four = refl

-- one fault for another
pub ends_for : {D : Type 0} (does : D → Call → D → Type 0) (f g : JournalFault) (most : ℕ) (old new : D) → f ≡ g → EndsBy does (answer_of f) most old new → EndsBy does (answer_of g) most old new
ends_for does f g most old new same is = subst (λ h. EndsBy does (answer_of h) most old new) same is
