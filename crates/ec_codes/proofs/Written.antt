-- Fields written one behind the other.
use Rattle.std.proofs.Common.{◌≡◌, ℕ, zero, suc, ◌+◌, Bool, true, false, List, [], ◌∷◌, ◌++◌, take, length, Option, Some, Result, Ok, Err, refl, sym, ap, ◌∙◌, append_assoc, arith}
use Rattle.std.proofs.lemmas.List.{append-nil}
use Rattle.std.specs.Prelude.{◌&&◌, slice_get}
use Rattle.std.specs.List.{flat_map, list_all}
use Rattle.std.specs.Int.{w16, w32, w64, to_be_bytes}
use Rattle.std.proofs.lemmas.Bool.{and_from, and_parts}
use Rattle.ec_volume.specs.Entries.{Entries}
use Rattle.ec_codes.specs.Formats.{Format, number}
use Rattle.ec_codes.specs.Spelling.{KeepsFront, Writes, Puts}
use Rattle.ec_codes.specs.Fields.{mode_field, id, flag, flag_number}
use Rattle.ec_codes.specs.Updates.{is_put_length, put_fields}
use Rattle.ec_codes.specs.Images.{content, entries_field, file_fields, dir_fields}

-- what was there stays in front, from one step to the next
pub and_on : (a b c : List ℕ) → KeepsFront a b → KeepsFront b c → KeepsFront a c
and_on a b c k l = (k.0 ++ l.0, l.1 ∙ ap (λ xs. xs ++ l.0) k.1 ∙ append_assoc a k.0 l.0)

pub seven_on : (b0 b1 b2 b3 b4 b5 b6 b7 : List ℕ) → KeepsFront b0 b1 → KeepsFront b1 b2 → KeepsFront b2 b3 → KeepsFront b3 b4 → KeepsFront b4 b5 → KeepsFront b5 b6 → KeepsFront b6 b7 → KeepsFront b0 b7
seven_on b0 b1 b2 b3 b4 b5 b6 b7 k0 k1 k2 k3 k4 k5 k6 =
    and_on b0 b1 b7 k0 (and_on b1 b2 b7 k1 (and_on b2 b3 b7 k2 (and_on b3 b4 b7 k3 (and_on b4 b5 b7 k4 (and_on b5 b6 b7 k5 k6)))))

-- a last field behind what was written already
pub then_puts : {T E A B : Type 0} (r : Result T E) (F : Format A) (x : A) (G : Format B) (y : B) (old mid new : List ℕ) → KeepsFront old mid → (Writes F x mid new → Writes G y old new) → Puts F x mid r new → Puts G y old r new
then_puts (Ok t) F x G y old mid new k f p = f p
then_puts (Err e) F x G y old mid new k f p = and_on old mid new k p

pub chain : (s t : List ℕ) (old mid new : List ℕ) → mid ≡ old ++ s → new ≡ mid ++ t → new ≡ old ++ (s ++ t)
chain s t old mid new h i = i ∙ ap (λ xs. xs ++ t) h ∙ append_assoc old s t

pub file_written : (m s w : ℕ) (bs b0 b1 b2 b3 b4 : List ℕ) → Writes mode_field m b0 b1 → Writes (number w64) s b1 b2 → Writes (number w32) w b2 b3 → Writes content bs b3 b4 → Writes file_fields (m, (s, (w, bs))) b0 b4
unfolding file_fields
file_written m s w bs b0 b1 b2 b3 b4 w0 w1 w2 w3 =
    (chain _ _ b0 b1 b4 w0.0 (chain _ _ b1 b2 b4 w1.0 (chain _ _ b2 b3 b4 w2.0 w3.0)), and_from _ _ w0.1 (and_from _ _ w1.1 (and_from _ _ w2.1 w3.1)))

pub dir_written : (m s w : ℕ) (es : Entries) (b0 b1 b2 b3 b4 : List ℕ) → Writes mode_field m b0 b1 → Writes (number w64) s b1 b2 → Writes (number w32) w b2 b3 → Writes entries_field es b3 b4 → Writes dir_fields (m, (s, (w, es))) b0 b4
unfolding dir_fields
dir_written m s w es b0 b1 b2 b3 b4 w0 w1 w2 w3 =
    (chain _ _ b0 b1 b4 w0.0 (chain _ _ b1 b2 b4 w1.0 (chain _ _ b2 b3 b4 w2.0 w3.0)), and_from _ _ w0.1 (and_from _ _ w1.1 (and_from _ _ w2.1 w3.1)))

flag_fits : (b : Bool) → flag.fits b ≡ true
unfolding flag
flag_fits false = refl
flag_fits true = refl

head_and_bytes : (obj at : ℕ) (inside : Bool) (bs b0 b1 b2 : List ℕ) → b1 ≡ b0 ++ (to_be_bytes w32 obj ++ to_be_bytes w32 at ++ flag_number inside ∷ to_be_bytes w16 (length bs)) → b2 ≡ b1 ++ bs → b2 ≡ b0 ++ put_fields.spell (obj, (at, (inside, bs)))
unfolding put_fields id flag
head_and_bytes obj at inside bs b0 b1 b2 h i = chain (to_be_bytes w32 obj ++ to_be_bytes w32 at ++ flag_number inside ∷ to_be_bytes w16 (length bs)) bs b0 b1 b2 h i

put_fits : (obj at : ℕ) (inside : Bool) (bs : List ℕ) → id.fits obj ≡ true → (number w32).fits at ≡ true → (number w16).fits (length bs) ≡ true → is_put_length at (length bs) ≡ true → put_fields.fits (obj, (at, (inside, bs))) ≡ true
unfolding put_fields
put_fits obj at inside bs o a n l = and_from _ _ o (and_from _ _ a (and_from _ _ (flag_fits inside) (and_from _ _ n l)))

pub put_written : (obj at : ℕ) (inside : Bool) (bs b0 b1 b2 : List ℕ) → b1 ≡ b0 ++ (to_be_bytes w32 obj ++ to_be_bytes w32 at ++ flag_number inside ∷ to_be_bytes w16 (length bs)) → b2 ≡ b1 ++ bs
    → id.fits obj ≡ true → (number w32).fits at ≡ true → (number w16).fits (length bs) ≡ true → is_put_length at (length bs) ≡ true → Writes put_fields (obj, (at, (inside, bs))) b0 b2
put_written obj at inside bs b0 b1 b2 h i o a n l = (head_and_bytes obj at inside bs b0 b1 b2 h i, put_fits obj at inside bs o a n l)

-- One more of the rows.

take_more : {X : Type 0} (xs : List X) (i : ℕ) (x : X) → slice_get xs i ≡ Some x → take (suc i) xs ≡ take i xs ++ x ∷ []
take_more [] i x h = absurd cc
take_more (y ∷ xs) zero x h = ap (λ z. z ∷ []) (let e : Some y ≡ Some x = h in cc)
take_more (y ∷ xs) (suc i) x h = ap (λ zs. y ∷ zs) (take_more xs i x h)

flat_last : {X : Type 0} (f : X → List ℕ) (xs : List X) (x : X) → flat_map f (xs ++ x ∷ []) ≡ flat_map f xs ++ f x
flat_last f [] x = simp append-nil
flat_last f (y ∷ xs) x = ap (λ zs. f y ++ zs) (flat_last f xs x) ∙ sym (append_assoc (f y) (flat_map f xs) (f x))

all_last : {X : Type 0} (p : X → Bool) (xs : List X) (x : X) → list_all p xs ≡ true → p x ≡ true → list_all p (xs ++ x ∷ []) ≡ true
all_last p [] x h k = and_from _ _ k refl
all_last p (y ∷ xs) x h k = let a = and_parts (p y) _ h in and_from _ _ a.0 (all_last p xs x a.1 k)

pub one_more : {X : Type 0} (f : X → List ℕ) (p : X → Bool) (xs : List X) (i : ℕ) (x : X) (old mid new : List ℕ) → slice_get xs i ≡ Some x
    → (mid ≡ old ++ flat_map f (take i xs)) × (list_all p (take i xs) ≡ true) → new ≡ mid ++ f x → p x ≡ true
    → (new ≡ old ++ flat_map f (take (i + 1) xs)) × (list_all p (take (i + 1) xs) ≡ true)
one_more f p xs i x old mid new here so_far h k =
    let n : i + 1 ≡ suc i = omega arith in
    let e : take (i + 1) xs ≡ take i xs ++ x ∷ [] = ap (λ m. take m xs) n ∙ take_more xs i x here in (
      h ∙ ap (λ ys. ys ++ f x) so_far.0 ∙ append_assoc old (flat_map f (take i xs)) (f x) ∙ ap (λ ys. old ++ ys) (sym (flat_last f (take i xs) x) ∙ ap (flat_map f) (sym e)),
      ap (list_all p) e ∙ all_last p (take i xs) x so_far.1 k,
    )
