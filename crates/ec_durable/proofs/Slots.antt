-- The slots of all clerks, where one of them is new: what ids and sessions they have, and that each one fits.
use Rattle.std.proofs.Common.{◌≡◌, ◌==◌, ℕ, zero, suc, ◌+◌, ◌≤◌, Bool, true, false, cond, ◌&&◌, ◌||◌, if◌then◌else◌, List, [], ◌∷◌, length, Option, None, Some, T, refl, sym, subst, arith, length-append}
use Rattle.std.specs.Prelude.{nat_lt, nat_le}
use Rattle.std.specs.List.{list_all}
use Rattle.std.proofs.lemmas.Bool.{eqb-true, leb-true, le-leb, lt-ltb}
use Rattle.ec_base.specs.SortedLaws.{first, second, both}
use Rattle.ec_sessions.specs.WindowMarks.{times}
use Rattle.ec_sessions.specs.IdLaws.{times-append}
use Rattle.ec_sessions.specs.Slots as slots
use Rattle.ec_sessions.specs.declared.slot.Slot.{Slot}
use Rattle.ec_durable.specs.WellFormed.{sessions_of, last_first_fits, fits_slot}
use Rattle.ec_base.proofs.Bools.{is-true as is_true, holds-true as told}

-- Ids.

-- the ids of the new slot stand in the place of the old one's
pub ids_with : (id c : ℕ) (new : Option Slot) (ss : slots.Slots)
    → times id (slots.all_unspent (slots.with_slot c new ss)) + times id (slots.unspent_of (slots.slot_at ss c)) ≤ times id (slots.all_unspent ss) + times id (slots.unspent_of new)
ids_with id c new [] = omega arith
ids_with id zero new (s ∷ ss) = omega (arith, times-append id (slots.unspent_of new) (slots.all_unspent ss), times-append id (slots.unspent_of s) (slots.all_unspent ss))
ids_with id (suc c) new (s ∷ ss) =
    omega (arith, times-append id (slots.unspent_of s) (slots.all_unspent (slots.with_slot c new ss)), times-append id (slots.unspent_of s) (slots.all_unspent ss), ids_with id c new ss)

-- so many more of them, at most
pub length_with : (c : ℕ) (new : Option Slot) (ss : slots.Slots)
    → length (slots.all_unspent (slots.with_slot c new ss)) + length (slots.unspent_of (slots.slot_at ss c)) ≤ length (slots.all_unspent ss) + length (slots.unspent_of new)
length_with c new [] = omega arith
length_with zero new (s ∷ ss) = omega (arith, length-append (slots.unspent_of new) (slots.all_unspent ss), length-append (slots.unspent_of s) (slots.all_unspent ss))
length_with (suc c) new (s ∷ ss) =
    omega (arith, length-append (slots.unspent_of s) (slots.all_unspent (slots.with_slot c new ss)), length-append (slots.unspent_of s) (slots.all_unspent ss), length_with c new ss)

-- Sessions.

abbrev pub number_of : Option Slot → List ℕ
number_of None = []
number_of (Some sl) = sl.session ∷ []

sessions_first : (id : ℕ) (s : Option Slot) (ss : slots.Slots) → times id (sessions_of (s ∷ ss)) ≡ times id (number_of s) + times id (sessions_of ss)
sessions_first id None ss = omega arith
sessions_first id (Some sl) ss = omega arith

pub sessions_with : (id c : ℕ) (new : Option Slot) (ss : slots.Slots)
    → times id (sessions_of (slots.with_slot c new ss)) + times id (number_of (slots.slot_at ss c)) ≤ times id (sessions_of ss) + times id (number_of new)
sessions_with id c new [] = omega arith
sessions_with id zero new (s ∷ ss) = omega (arith, sessions_first id new ss, sessions_first id s ss)
sessions_with id (suc c) new (s ∷ ss) = omega (arith, sessions_first id s (slots.with_slot c new ss), sessions_first id s ss, sessions_with id c new ss)

-- Slots that fit.

pub all_with : (p : Option Slot → Bool) (c : ℕ) (new : Option Slot) (ss : slots.Slots) → T (list_all p ss) → T (p new) → T (list_all p (slots.with_slot c new ss))
all_with p c new [] h k = h
all_with p zero new (s ∷ ss) h k = both (p new) (list_all p ss) k (second (p s) (list_all p ss) h)
all_with p (suc c) new (s ∷ ss) h k = both (p s) _ (first (p s) (list_all p ss) h) (all_with p c new ss (second (p s) (list_all p ss) h) k)

pub slot_passes : (p : Option Slot → Bool) (c : ℕ) (ss : slots.Slots) → T (list_all p ss) → T (p None) → T (p (slots.slot_at ss c))
slot_passes p c [] h none = none
slot_passes p zero (s ∷ ss) h none = first (p s) (list_all p ss) h
slot_passes p (suc c) (s ∷ ss) h none = slot_passes p c ss (second (p s) (list_all p ss) h) none

pub all_imply : (p q : Option Slot → Bool) (ss : slots.Slots) → ((s : Option Slot) → T (p s) → T (q s)) → T (list_all p ss) → T (list_all q ss)
all_imply p q [] i h = tt
all_imply p q (s ∷ ss) i h = both (q s) _ (i s (first (p s) (list_all p ss) h)) (all_imply p q ss i (second (p s) (list_all p ss) h))

abbrev last_fits : ℕ → Option ℕ → ℕ → Bool
last_fits next o grants = elim o [ None ↦ grants == 0 | Some f ↦ nat_lt 0 grants && nat_le (f + 16) next ]

last_later : (m n grants : ℕ) (o : Option ℕ) → m ≤ n → T (last_fits m o grants) → T (last_fits n o grants)
last_later m n grants None le h = h
last_later m n grants (Some f) le h =
    both (nat_lt 0 grants) (nat_le (f + 16) n) (first (nat_lt 0 grants) (nat_le (f + 16) m) h)
    (told _ (le-leb (f + 16) n (let l : f + 16 ≤ m = leb-true (f + 16) m (is_true _ (second (nat_lt 0 grants) (nat_le (f + 16) m) h)) in omega (arith, l, le))))

pub fits_later : (m n : ℕ) → m ≤ n → (s : Option Slot) → T (fits_slot m s) → T (fits_slot n s)
fits_later m n le None h = tt
fits_later m n le (Some sl) h =
    both (sl.is_open || (length sl.unspent == 0)) (last_first_fits n sl) (first (sl.is_open || (length sl.unspent == 0)) (last_first_fits m sl) h)
    (last_later m n sl.grants sl.last_first le (second (sl.is_open || (length sl.unspent == 0)) (last_first_fits m sl) h))

opened : (b c : Bool) → b ≡ true → T (b || c)
opened b c e = subst (λ a. T (a || c)) (sym e) tt

pub fits_spent : (next o : ℕ) (s : Option Slot) → T (fits_slot next s) → T (fits_slot next (slots.spent o s))
fits_spent next o None h = tt
fits_spent next o (Some sl) h = go sl.is_open refl
  where
    go : (b : Bool) → sl.is_open ≡ b → T (fits_slot next (Some (cond b (record sl { unspent = slots.without o sl.unspent }) sl)))
    go true e =
        both (sl.is_open || (length (slots.without o sl.unspent) == 0)) (last_first_fits next sl) (opened sl.is_open _ e)
        (second (sl.is_open || (length sl.unspent == 0)) (last_first_fits next sl) h)
    go false e = h

pub fits_ended : (next : ℕ) (s : Option Slot) → T (fits_slot next s) → T (fits_slot next (slots.ended s))
fits_ended next None h = tt
fits_ended next (Some sl) h = go sl.is_open
  where
    go : (b : Bool) → T (fits_slot next (Some (cond b (record sl { is_open = false; unspent = [] }) sl)))
    go true = second (sl.is_open || (length sl.unspent == 0)) (last_first_fits next sl) h
    go false = h

pub fits_marked : (next b : ℕ) (s : Option Slot) → T (fits_slot next s) → T (fits_slot next (slots.batch_marked b s))
fits_marked next b None h = tt
fits_marked next b (Some sl) h = h

pub fits_granted : (first_id : ℕ) (s : Option Slot) → slots.is_open s ≡ true → T (fits_slot (first_id + 16) (slots.granted first_id s))
fits_granted f None e = tt
fits_granted f (Some sl) e =
    both (sl.is_open || (length (slots.with_ids f sl.unspent) == 0)) (nat_lt 0 (sl.grants + 1) && nat_le (f + 16) (f + 16)) (opened sl.is_open _ e)
    (both (nat_lt 0 (sl.grants + 1)) (nat_le (f + 16) (f + 16)) (told _ (lt-ltb 0 (sl.grants + 1) (omega arith))) (told _ (le-leb (f + 16) (f + 16) (omega arith))))

-- What each change leaves of the ids and the session of a slot.

pub number_spent : (o : ℕ) (s : Option Slot) → number_of (slots.spent o s) ≡ number_of s
number_spent o None = refl
number_spent o (Some sl) = go sl.is_open
  where
    go : (b : Bool) → number_of (Some (cond b (record sl { unspent = slots.without o sl.unspent }) sl)) ≡ number_of (Some sl)
    go true = refl
    go false = refl

pub number_ended : (s : Option Slot) → number_of (slots.ended s) ≡ number_of s
number_ended None = refl
number_ended (Some sl) = go sl.is_open
  where
    go : (b : Bool) → number_of (Some (cond b (record sl { is_open = false; unspent = [] }) sl)) ≡ number_of (Some sl)
    go true = refl
    go false = refl

pub number_marked : (b : ℕ) (s : Option Slot) → number_of (slots.batch_marked b s) ≡ number_of s
number_marked b None = refl
number_marked b (Some sl) = refl

pub number_granted : (f : ℕ) (s : Option Slot) → number_of (slots.granted f s) ≡ number_of s
number_granted f None = refl
number_granted f (Some sl) = refl

pub ids_ended : (id : ℕ) (s : Option Slot) → times id (slots.unspent_of (slots.ended s)) ≤ times id (slots.unspent_of s)
ids_ended id None = omega arith
ids_ended id (Some sl) = go sl.is_open
  where
    go : (b : Bool) → times id (slots.unspent_of (Some (cond b (record sl { is_open = false; unspent = [] }) sl))) ≤ times id sl.unspent
    go true = omega arith
    go false = omega arith

pub ids_marked : (b : ℕ) (s : Option Slot) → slots.unspent_of (slots.batch_marked b s) ≡ slots.unspent_of s
ids_marked b None = refl
ids_marked b (Some sl) = refl

-- Reserved ids are all unspent ids, where only open sessions have some.

count_open : (b : Bool) (ids : List ℕ) → T (b || (length ids == 0)) → length ids ≤ (if b then length ids else 0)
count_open true ids h = omega arith
count_open false ids h = let e : length ids ≡ 0 = eqb-true (length ids) 0 (is_true (length ids == 0) h) in omega (arith, e)

pub reserved_all : (next : ℕ) (ss : slots.Slots) → T (list_all (fits_slot next) ss) → length (slots.all_unspent ss) ≤ slots.reserved ss
reserved_all next [] h = omega arith
reserved_all next (None ∷ ss) h = omega (arith, reserved_all next ss h)
reserved_all next (Some sl ∷ ss) h =
    let here : length sl.unspent ≤ slots.open_count (Some sl) =
    count_open sl.is_open sl.unspent (first (sl.is_open || (length sl.unspent == 0)) (last_first_fits next sl) (first (fits_slot next (Some sl)) (list_all (fits_slot next) ss) h)) in
    omega (arith, here, length-append sl.unspent (slots.all_unspent ss), reserved_all next ss (second (fits_slot next (Some sl)) (list_all (fits_slot next) ss) h))
