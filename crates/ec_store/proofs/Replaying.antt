-- Records that are carried out again, one more.
use Rattle.std.proofs.Common.{◌≡◌, ℕ, ◌+◌, ◌<◌, ◌≤◌, false, List, [], ◌∷◌, ◌++◌, length, get_or, take, drop, refl, sym, ap, subst, ◌∙◌, arith, length-append, take-append-drop}
use Rattle.std.specs.Prelude.{◌==◌}
use Rattle.std.proofs.lemmas.List.{take_more, drop_more}
use Rattle.std.proofs.lemmas.List.Folds.{list_any-append}
use Rattle.ec_volume.specs.Update.{member}
use Rattle.ec_volume.specs.Volume.{images}
use Rattle.ec_durable.specs.declared.state.Durable.{Durable}
use Rattle.ec_journal.specs.Records.{records}
use Rattle.ec_journal.specs.Laws.{records-append, length-records}
use Rattle.ec_stands.specs.Stands.{StepsTo, IsRefused}
use Rattle.ec_stands.specs.Laws.{steps_join}
use Rattle.ec_store.specs.Replay.{Steps, Spares, Avoids, IsUntouched, HasRefused}
use Rattle.ec_base.proofs.Bools.{or_none, both_false}

more_of : (bodies : List (List ℕ)) (i : ℕ) (x : List ℕ) → i < length bodies → x ≡ get_or bodies i x → take (i + 1) bodies ≡ take i bodies ++ x ∷ []
more_of bodies i x lt is = take_more bodies i x lt ∙ ap (λ (y : List ℕ). take i bodies ++ y ∷ []) (sym is)

split_of : (bodies : List (List ℕ)) (i : ℕ) (x : List ℕ) → i < length bodies → x ≡ get_or bodies i x → bodies ≡ take i bodies ++ x ∷ drop (i + 1) bodies
split_of bodies i x lt is = sym (take-append-drop i bodies) ∙ ap (λ (l : List (List ℕ)). take i bodies ++ l) (drop_more bodies i x lt ∙ ap (λ (y : List ℕ). y ∷ drop (i + 1) bodies) (sym is))

pub steps_so_far : (bodies : List (List ℕ)) (i : ℕ) (x : List ℕ) (d mid e : Durable) → i < length bodies → x ≡ get_or bodies i x → StepsTo (take i bodies) d mid → Steps x mid e → StepsTo (take (i + 1) bodies) d e
steps_so_far bodies i x d mid e lt is so_far one =
    subst (λ l. StepsTo l d e) (sym (more_of bodies i x lt is)) (steps_join (take i bodies) (x ∷ []) d mid e so_far (one.0, e, one.1, one.2, refl))

pub spares_more : (old new : List ℕ) (d mid e : Durable) → Spares old d mid → ((o : ℕ) → member o new ≡ false → (member o old ≡ false) × (images e.volume o ≡ images mid.volume o)) → Spares new d e
spares_more old new d mid e so_far one o out = let it = one o out in it.1 ∙ so_far o it.0

longer : (xs ys : List (List ℕ)) → length (records (xs ++ ys)) ≡ length (records xs) + length (records ys)
longer xs ys = ap (λ (l : List ℕ). length l) (records-append xs ys) ∙ length-append (records xs) (records ys)

pub front_shorter : (bodies : List (List ℕ)) (i : ℕ) (x : List ℕ) → i < length bodies → x ≡ get_or bodies i x → length (records (take i bodies)) + (5 + length x) ≤ length (records bodies)
front_shorter bodies i x lt is =
    omega (arith, ap (λ (l : List (List ℕ)). length (records l)) (split_of bodies i x lt is) ∙ longer (take i bodies) (x ∷ drop (i + 1) bodies), length-records x (drop (i + 1) bodies))

pub record_more : (bodies : List (List ℕ)) (i : ℕ) (x : List ℕ) → i < length bodies → x ≡ get_or bodies i x → length (records (take (i + 1) bodies)) ≡ length (records (take i bodies)) + (5 + length x)
record_more bodies i x lt is = omega (arith, ap (λ (l : List (List ℕ)). length (records l)) (more_of bodies i x lt is) ∙ longer (take i bodies) (x ∷ []), length-records x [], none)
  where
    none : length (records []) ≡ 0
    none = refl

pub refused_at : (at gate : ℕ) (bodies : List (List ℕ)) (i : ℕ) (x : List ℕ) (d mid : Durable) (place : ℕ) → i < length bodies → x ≡ get_or bodies i x → StepsTo (take i bodies) d mid → gate ≡ at + length (records (take i bodies)) → place ≡ gate → IsRefused x mid → HasRefused at d bodies place
refused_at at gate bodies i x d mid place lt is steps gate_is place_is refused = record {
  before = take i bodies;
  body = x;
  rest = drop (i + 1) bodies;
  split = split_of bodies i x lt is;
  mid = mid;
  steps = steps;
  gate = place_is ∙ gate_is;
  refused = refused;
}

-- the operands of one record more
pub operands_more : (o : ℕ) (old operands new : List ℕ) → new ≡ old ++ operands → member o new ≡ false → (member o old ≡ false) × (member o operands ≡ false)
operands_more o old operands new made out = or_none (member o old) (member o operands) (sym (list_any-append (λ p. o == p) old operands) ∙ ap (λ (l : List ℕ). member o l) (sym made) ∙ out)

-- none of the operands of one record more
pub operands_none : (o : ℕ) (old operands new : List ℕ) → new ≡ old ++ operands → member o old ≡ false → member o operands ≡ false → member o new ≡ false
operands_none o old operands new made out other =
    ap (λ (l : List ℕ). member o l) made ∙ list_any-append (λ p. o == p) old operands ∙ both_false (member o old) (member o operands) out other

-- Objects that no record has as an operand.

pub untouched_parts : (o : ℕ) (xs ys : List (List ℕ)) → IsUntouched o (xs ++ ys) → IsUntouched o xs × IsUntouched o ys
untouched_parts o [] ys un = (tt, un)
untouched_parts o (x ∷ xs) ys un =
    let parts = untouched_parts o xs ys un.1 in
    ((un.0, parts.0), parts.1)

pub touches_more : (bodies : List (List ℕ)) (i : ℕ) (x old new : List ℕ) → i < length bodies → x ≡ get_or bodies i x → ((o : ℕ) → IsUntouched o (take i bodies) → member o old ≡ false)
    → ((o : ℕ) → Avoids o x → member o old ≡ false → member o new ≡ false) → (o : ℕ) → IsUntouched o (take (i + 1) bodies) → member o new ≡ false
touches_more bodies i x old new lt is so_far one o un =
    let parts = untouched_parts o (take i bodies) (x ∷ []) (subst (IsUntouched o) (more_of bodies i x lt is) un) in
    one o parts.1.0 (so_far o parts.0)

pub touches_all : (bodies : List (List ℕ)) (i : ℕ) (ids : List ℕ) → i ≡ length bodies → ((o : ℕ) → IsUntouched o (take i bodies) → member o ids ≡ false) → (o : ℕ) → IsUntouched o bodies → member o ids ≡ false
touches_all bodies i ids all so_far o un = so_far o (subst (IsUntouched o) (sym (ap (λ (k : ℕ). take k bodies) all ∙ whole bodies)) un)
  where
    whole : (bs : List (List ℕ)) → take (length bs) bs ≡ bs
    whole [] = refl
    whole (b ∷ bs) = ap (λ (l : List (List ℕ)). b ∷ l) (whole bs)
