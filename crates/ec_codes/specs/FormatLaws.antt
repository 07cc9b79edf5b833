-- What is read is what the bytes spell, and what they spell is read.
use Rattle.std.proofs.Common.{◌≡◌, ℕ, zero, suc, ◌+◌, ◌-◌, ◌*◌, ◌^◌, ◌<◌, ◌≤◌, Bool, true, false, cond, ltb, ◌&&◌, List, [], ◌∷◌, ◌++◌, length, get_or, take, drop, Option, Some, None, Result, Ok, Err, refl, sym, ap, subst, ◌∙◌, append_assoc, arith, inl, inr, length-append, length-drop}
use Rattle.std.specs.Prelude.{nat_lt, max, IfOk}
use Rattle.std.specs.List.{flat_map}
use Rattle.std.specs.Int.{Width, w16, w32, w64, byte_len, from_be_bytes, to_be_bytes}
use Rattle.std.proofs.lemmas.Bool.{cases_lt, ltb-false, ltb-true, le-ltb, lt-ltb, and_parts, and_from}
use Rattle.std.proofs.lemmas.List.{append-nil, take_at, drop_at, take-append-drop, length-take, get_or-drop, get_or-take, get_or_past, drop-drop, drop_more}
use Rattle.std.proofs.lemmas.Nat.{be_bytes_2, be_bytes_4, be_bytes_8, from_be_bytes-to_be_bytes_2, from_be_bytes-to_be_bytes_4, from_be_bytes-to_be_bytes_8}
use Rattle.ec_codes.specs.declared.fault.CodeFault.{CodeFault}
use Rattle.ec_codes.specs.declared.fault.CodeFault.TheVariants.{Short, Field}
use Rattle.ec_codes.specs.Formats.{Read, ◌>>=◌, Format, missing, byte, number, such, then_by, given, is_given, standing, text, rows_read, rows_fit, list, variant, nothing, empty, tagged}
use Rattle.ec_codes.specs.Spelling.{StandsAt, Spells, Gives}

abbrev pub AreBytes : List ℕ → Type 0
AreBytes bytes = (i : ℕ) → get_or bytes i 0 < 256

-- what is read is what the bytes spell, and what they spell is read
pub record IsFormat {A : Type 0} (F : Format A) : Type 0 where
  pub takes : (bytes : List ℕ) (at : ℕ) (x : A) (next : ℕ) → AreBytes bytes → F.read bytes at ≡ Ok (x, next) → Spells F bytes at x next
  pub again : (bytes : List ℕ) (at : ℕ) (x : A) → F.fits x ≡ true → StandsAt bytes at (F.spell x) → F.read bytes at ≡ Ok (x, at + length (F.spell x))

-- Steps that did not fail.

pub bind_ok : {A B : Type 0} (r : Result A CodeFault) (f : A → Result B CodeFault) (y : B) → (r >>= f) ≡ Ok y → (x : A) × (r ≡ Ok x) × (f x ≡ Ok y)
bind_ok (Ok x) f y e = (x, refl, e)
bind_ok (Err d) f y e = absurd cc

-- a test that refuses
pub guard_ok : {A : Type 0} (b : Bool) (d : CodeFault) (x y : A) → cond b (Err d) (Ok x) ≡ Ok y → (b ≡ false) × (x ≡ y)
guard_ok true d x y e = absurd cc
guard_ok false d x y e = (refl, cc)

-- a test that lets through
pub pass_ok : {A : Type 0} (b : Bool) (d : CodeFault) (x y : A) → cond b (Ok x) (Err d) ≡ Ok y → (b ≡ true) × (x ≡ y)
pass_ok true d x y e = (refl, cc)
pass_ok false d x y e = absurd cc

abbrev done : {A : Type 0} → A → Result A CodeFault
done x = Ok x

pub ok_is : {A : Type 0} (x y : A) → done x ≡ done y → x ≡ y
ok_is x y e = cc

-- Bytes at a place.

are_dropped : (n : ℕ) (bytes : List ℕ) → AreBytes bytes → AreBytes (drop n bytes)
are_dropped n bytes h i = rw get_or-drop (h (n + i))

pub are_taken : (n : ℕ) (bytes : List ℕ) → AreBytes bytes → AreBytes (take n bytes)
are_taken n bytes h i =
    elim (cases_lt i n) [
      | inl lt ↦ rw (get_or-take n bytes i 0 lt) (h i)
      | inr le ↦ rw (get_or_past (take n bytes) i 0 (omega (arith, length-take n bytes))) (omega arith)
    ]

-- two texts at a place are one behind the other
pub stands_first : (bytes : List ℕ) (at : ℕ) (s t : List ℕ) → StandsAt bytes at (s ++ t) → StandsAt bytes at s
stands_first bytes at s t h = (t ++ h.0, h.1 ∙ append_assoc s t h.0)

pub stands_second : (bytes : List ℕ) (at : ℕ) (s t : List ℕ) → StandsAt bytes at (s ++ t) → StandsAt bytes (at + length s) t
stands_second bytes at s t h = (h.0, sym (drop-drop (length s) at bytes) ∙ ap (drop (length s)) (h.1 ∙ append_assoc s t h.0) ∙ drop_at s (t ++ h.0) (length s) refl)

pub stand_both : (bytes : List ℕ) (at : ℕ) (s t : List ℕ) → StandsAt bytes at s → StandsAt bytes (at + length s) t → StandsAt bytes at (s ++ t)
stand_both bytes at s t h k =
    let rest : h.0 ≡ t ++ k.0 = sym (drop_at s h.0 (length s) refl) ∙ ap (drop (length s)) (sym h.1) ∙ drop-drop (length s) at bytes ∙ k.1 in
    (k.0, h.1 ∙ ap (λ x. s ++ x) rest ∙ sym (append_assoc s t k.0))

-- so many bytes stand at the place only where the bytes go so far
pub length_at : (bytes : List ℕ) (at : ℕ) (t : List ℕ) → 0 < length t → StandsAt bytes at t → at + length t ≤ length bytes
length_at bytes at t n h =
    let e : length (drop at bytes) ≡ length t + length h.0 = ap length h.1 ∙ length-append t h.0 in
    let d : length (drop at bytes) ≡ length bytes - at = length-drop at bytes in
    omega arith

-- Numbers.

byte_here : (bytes : List ℕ) (at x : ℕ) → at < length bytes → StandsAt bytes at (x ∷ []) → get_or bytes at 0 ≡ x
byte_here bytes at x lt h = ap (λ bs. get_or bs 0 0) (sym (drop_more bytes at 0 lt) ∙ h.1)

byte_takes : (bytes : List ℕ) (at x next : ℕ) → AreBytes bytes → byte.read bytes at ≡ Ok (x, next) → Spells byte bytes at x next
byte_takes bytes at x next ok e =
    let g = pass_ok (ltb at (length bytes)) (Short (missing bytes at)) (get_or bytes at 0, at + 1) (x, next) e in
    let lt : at < length bytes = ltb-true _ _ g.0 in
    let x-is : get_or bytes at 0 ≡ x = ap (λ (p : ℕ × ℕ). p.0) g.1 in
    let next-is : at + 1 ≡ next = ap (λ (p : ℕ × ℕ). p.1) g.1 in
    record {
      fits = lt-ltb _ _ (subst (λ n. n < 256) x-is (ok at));
      stands = (drop (at + 1) bytes, drop_more bytes at 0 lt ∙ ap (λ n. n ∷ drop (at + 1) bytes) x-is);
      behind = sym next-is;
    }

pub byte-is : IsFormat byte
byte-is = record {
  takes = byte_takes;
  again = λ bytes at x fits h.
      let lt : at < length bytes = omega (arith, length_at bytes at (x ∷ []) (omega arith) h) in
      rw (lt-ltb _ _ lt, byte_here bytes at x lt h) refl;
}

record IsWide (w : Width) : Type 0 where
  pub some : 0 < byte_len w
  pub len : (n : ℕ) → length (to_be_bytes w n) ≡ byte_len w
  pub back : (bytes : List ℕ) → length bytes ≡ byte_len w → AreBytes bytes → to_be_bytes w (from_be_bytes w bytes) ≡ bytes
  pub again : (n : ℕ) → n < 2 ^ (8 * byte_len w) → from_be_bytes w (to_be_bytes w n) ≡ n
  pub below : (bytes : List ℕ) → AreBytes bytes → from_be_bytes w bytes < 2 ^ (8 * byte_len w)

wide16 : IsWide w16
wide16 = record {
  some = omega arith;
  len = λ n. refl;
  back = λ bytes len fits. be_bytes_2 bytes _ len fits refl;
  again = λ n lt. from_be_bytes-to_be_bytes_2 n lt;
  below = λ bytes fits. omega (arith, fits 0, fits 1);
}

wide32 : IsWide w32
wide32 = record {
  some = omega arith;
  len = λ n. refl;
  back = λ bytes len fits. be_bytes_4 bytes _ len fits refl;
  again = λ n lt. from_be_bytes-to_be_bytes_4 n lt;
  below = λ bytes fits. omega (arith, fits 0, fits 1, fits 2, fits 3);
}

wide64 : IsWide w64
wide64 = record {
  some = omega arith;
  len = λ n. refl;
  back = λ bytes len fits. be_bytes_8 bytes _ len fits refl;
  again = λ n lt. from_be_bytes-to_be_bytes_8 n lt;
  below = λ bytes fits. omega (arith, fits 0, fits 1, fits 2, fits 3, fits 4, fits 5, fits 6, fits 7);
}

number_is : (w : Width) → IsWide w → IsFormat (number w)
number_is w wide = record {
  takes = λ bytes at n next ok e.
      let k = byte_len w in
      let g = guard_ok (ltb (length bytes) (at + k)) (Short (missing bytes at)) (from_be_bytes w (take k (drop at bytes)), at + k) (n, next) e in
      let long : at + k ≤ length bytes = ltb-false _ _ g.0 in
      let front : List ℕ = take k (drop at bytes) in
      let n-is : from_be_bytes w front ≡ n = ap (λ (p : ℕ × ℕ). p.0) g.1 in
      let next-is : at + k ≡ next = ap (λ (p : ℕ × ℕ). p.1) g.1 in
      let fits : AreBytes front = are_taken k (drop at bytes) (are_dropped at bytes ok) in
      let len : length front ≡ k = omega (arith, length-take k (drop at bytes), length-drop at bytes) in
      let spelled : to_be_bytes w n ≡ front = ap (to_be_bytes w) (sym n-is) ∙ wide.back front len fits in
      record {
        fits = lt-ltb _ _ (subst (λ m. m < 2 ^ (8 * byte_len w)) n-is (wide.below front fits));
        stands = (drop k (drop at bytes), sym (take-append-drop k (drop at bytes)) ∙ ap (λ t. t ++ drop k (drop at bytes)) (sym spelled));
        behind = sym next-is ∙ ap (λ m. at + m) (sym (wide.len n));
      };
  again = λ bytes at n fits h.
      let k = byte_len w in
      let len : length (to_be_bytes w n) ≡ k = wide.len n in
      let long : at + length (to_be_bytes w n) ≤ length bytes = length_at bytes at (to_be_bytes w n) (omega (arith, len, wide.some)) h in
      let test : ltb (length bytes) (at + k) ≡ false = le-ltb _ _ (omega (arith, len, long)) in
      let front : take k (drop at bytes) ≡ to_be_bytes w n = ap (take k) h.1 ∙ take_at (to_be_bytes w n) h.0 k len in
      rw (test, front, wide.again n (ltb-true _ _ fits), len) refl;
}

pub number16-is : IsFormat (number w16)
number16-is = number_is w16 wide16

pub number32-is : IsFormat (number w32)
number32-is = number_is w32 wide32

pub number64-is : IsFormat (number w64)
number64-is = number_is w64 wide64

-- Parts put together.

pub such_is : {A : Type 0} (p : A → Bool) (F : Format A) → IsFormat F → IsFormat (such p F)
such_is p F law = record {
  takes = λ bytes at x next ok e.
      let b = bind_ok (F.read bytes at) (λ y. cond (p y.0) (Ok y) (Err (Field at))) (x, next) e in
      let g = pass_ok (p b.0.0) (Field at) b.0 (x, next) b.2 in
      let s : Spells F bytes at x next = law.takes bytes at x next ok (b.1 ∙ ap (λ y. Ok y) g.1) in
      record { fits = and_from _ _ s.fits (subst (λ y. p y.0 ≡ true) g.1 g.0); stands = s.stands; behind = s.behind };
  again = λ bytes at x fits h.
      let f = and_parts (F.fits x) (p x) fits in
      rw (law.again bytes at x f.0 h, f.1) refl;
}

pub then_is : {A B : Type 0} (F : Format A) (G : A → Format B) → IsFormat F → ((x : A) → IsFormat (G x)) → IsFormat (then_by F G)
then_is F G first second = record {
  takes = λ bytes at x next ok e.
      let a = bind_ok (F.read bytes at) (λ y. (G y.0).read bytes y.1 >>= λ z. Ok ((y.0, z.0), z.1)) (x, next) e in
      let b = bind_ok ((G a.0.0).read bytes a.0.1) (λ z. Ok ((a.0.0, z.0), z.1)) (x, next) a.2 in
      let s = first.takes bytes at a.0.0 a.0.1 ok a.1 in
      let t = (second a.0.0).takes bytes a.0.1 b.0.0 b.0.1 ok b.1 in
      let there : StandsAt bytes (at + length (F.spell a.0.0)) ((G a.0.0).spell b.0.0) = subst (λ m. StandsAt bytes m ((G a.0.0).spell b.0.0)) s.behind t.stands in
      let whole : Spells (then_by F G) bytes at (a.0.0, b.0.0) b.0.1 = record {
        fits = and_from _ _ s.fits t.fits;
        stands = stand_both bytes at (F.spell a.0.0) ((G a.0.0).spell b.0.0) s.stands there;
        behind = omega (arith, s.behind, t.behind, length-append (F.spell a.0.0) ((G a.0.0).spell b.0.0));
      } in
      subst (λ y. Spells (then_by F G) bytes at y.0 y.1) (ok_is ((a.0.0, b.0.0), b.0.1) (x, next) b.2) whole;
  again = λ bytes at x fits h.
      let f = and_parts (F.fits x.0) ((G x.0).fits x.1) fits in
      let s = F.spell x.0 in
      let t = (G x.0).spell x.1 in
      let one = first.again bytes at x.0 f.0 (stands_first bytes at s t h) in
      let two = (second x.0).again bytes (at + length s) x.1 f.1 (stands_second bytes at s t h) in
      let place : (at + length s) + length t ≡ at + length (s ++ t) = omega (arith, length-append s t) in
      rw (one, two) (ap (λ m. Ok (x, m)) place);
}

given_ok : {B : Type 0} (at : ℕ) (o : Option B) (next : ℕ) (y : B × ℕ) → given at o next ≡ Ok y → (o ≡ Some y.0) × (next ≡ y.1)
given_ok at None next y e = absurd cc
given_ok at (Some x) next y e = (ap (λ z. Some z.0) (ok_is (x, next) y e), ap (λ z. z.1) (ok_is (x, next) y e))

pub standing_is : {A B : Type 0} (to : B → A) (ok : B → Bool) (from : A → Option B) (F : Format A) → IsFormat F
    → ((y : B) → ok y ≡ true → from (to y) ≡ Some y) → ((x : A) (y : B) → from x ≡ Some y → (to y ≡ x) × (ok y ≡ true)) → IsFormat (standing to ok from F)
standing_is to ok from F law back forth = record {
  takes = λ bytes at y next bs e.
      let b = bind_ok (F.read bytes at) (λ x. given at (from x.0) x.1) (y, next) e in
      let g = given_ok at (from b.0.0) b.0.1 (y, next) b.2 in
      let there = forth b.0.0 y g.0 in
      let s = law.takes bytes at b.0.0 b.0.1 bs b.1 in
      record {
        fits = and_from _ _ (subst (λ x. F.fits x ≡ true) (sym there.0) s.fits) there.1;
        stands = subst (λ x. StandsAt bytes at (F.spell x)) (sym there.0) s.stands;
        behind = sym g.1 ∙ s.behind ∙ ap (λ x. at + length (F.spell x)) (sym there.0);
      };
  again = λ bytes at y fits h.
      let f = and_parts (F.fits (to y)) (ok y) fits in
      rw (law.again bytes at (to y) f.0 h, back y f.1) refl;
}

pub text_is : (L : Format ℕ) → ((n : ℕ) → 0 < length (L.spell n)) → IsFormat L → IsFormat (text L)
text_is L some law = record {
  takes = λ bytes at x next ok e.
      let a = bind_ok (L.read bytes at) (λ n. cond (ltb (length bytes) (n.1 + n.0)) (Err (Short (missing bytes n.1))) (Ok (take n.0 (drop n.1 bytes), n.1 + n.0))) (x, next) e in
      let n = a.0 in
      let g = guard_ok (ltb (length bytes) (n.1 + n.0)) (Short (missing bytes n.1)) (take n.0 (drop n.1 bytes), n.1 + n.0) (x, next) a.2 in
      let long : n.1 + n.0 ≤ length bytes = ltb-false _ _ g.0 in
      let x-is : take n.0 (drop n.1 bytes) ≡ x = ap (λ (p : List ℕ × ℕ). p.0) g.1 in
      let next-is : n.1 + n.0 ≡ next = ap (λ (p : List ℕ × ℕ). p.1) g.1 in
      let len : length x ≡ n.0 = subst (λ t. length t ≡ n.0) x-is (omega (arith, length-take n.0 (drop n.1 bytes), length-drop n.1 bytes)) in
      let s = law.takes bytes at n.0 n.1 ok a.1 in
      let t : Spells L bytes at (length x) n.1 = subst (λ m. Spells L bytes at m n.1) (sym len) s in
      let body : StandsAt bytes n.1 x = (drop n.0 (drop n.1 bytes), sym (take-append-drop n.0 (drop n.1 bytes)) ∙ ap (λ u. u ++ drop n.0 (drop n.1 bytes)) x-is) in
      record {
        fits = t.fits;
        stands = stand_both bytes at (L.spell (length x)) x t.stands (subst (λ m. StandsAt bytes m x) t.behind body);
        behind = omega (arith, next-is, len, t.behind, length-append (L.spell (length x)) x);
      };
  again = λ bytes at x fits h.
      let s = L.spell (length x) in
      let one = law.again bytes at (length x) fits (stands_first bytes at s x h) in
      let body = stands_second bytes at s x h in
      let joined : length (s ++ x) ≡ length s + length x = length-append s x in
      let long : at + length (s ++ x) ≤ length bytes = length_at bytes at (s ++ x) (omega (arith, joined, some (length x))) h in
      let test : ltb (length bytes) ((at + length s) + length x) ≡ false = le-ltb _ _ (omega (arith, joined, long)) in
      let there : take (length x) (drop (at + length s) bytes) ≡ x = ap (take (length x)) body.1 ∙ take_at x body.0 (length x) refl in
      let place : (at + length s) + length x ≡ at + length (s ++ x) = omega (arith, joined) in
      rw (one, test, there) (ap (λ m. Ok (x, m)) place);
}

-- what rows are read behind those before
record Rows {A : Type 0} (spell : A → List ℕ) (F : List A → Format A) (n : ℕ) (before : List A) (bytes : List ℕ) (at : ℕ) (all : List A) (next : ℕ) : Type 0 where
  pub rows : List A
  pub whole : all ≡ before ++ rows
  pub count : length rows ≡ n
  pub fit : rows_fit F before rows ≡ true
  pub stand : StandsAt bytes at (flat_map spell rows)
  pub behind : next ≡ at + length (flat_map spell rows)

rows_take : {A : Type 0} (spell : A → List ℕ) (F : List A → Format A) → ((before : List A) → IsFormat (F before)) → ((before : List A) (x : A) → (F before).spell x ≡ spell x)
    → (bytes : List ℕ) → AreBytes bytes → (n : ℕ) (before : List A) (at : ℕ) (all : List A) (next : ℕ) → rows_read F n before bytes at ≡ Ok (all, next) → Rows spell F n before bytes at all next
rows_take spell F each same bytes ok zero before at all next e =
    let y = ok_is (before, at) (all, next) e in
    record {
      rows = [];
      whole = sym (ap (λ p. p.0) y) ∙ sym (append-nil before);
      count = refl;
      fit = refl;
      stand = (drop at bytes, refl);
      behind = omega (arith, ap (λ p. p.1) y);
    }
rows_take spell F each same bytes ok (suc n) before at all next e =
    let a = bind_ok ((F before).read bytes at) (λ x. rows_read F n (before ++ x.0 ∷ []) bytes x.1) (all, next) e in
    let x = a.0.0 in
    let s = (each before).takes bytes at x a.0.1 ok a.1 in
    let r = rows_take spell F each same bytes ok n (before ++ x ∷ []) a.0.1 all next a.2 in
    let first : StandsAt bytes at (spell x) = subst (λ t. StandsAt bytes at t) (same before x) s.stands in
    let behind : a.0.1 ≡ at + length (spell x) = s.behind ∙ ap (λ t. at + length t) (same before x) in
    record {
      rows = x ∷ r.rows;
      whole = r.whole ∙ append_assoc before (x ∷ []) r.rows;
      count = omega (arith, r.count);
      fit = and_from _ _ s.fits r.fit;
      stand = stand_both bytes at (spell x) (flat_map spell r.rows) first (subst (λ m. StandsAt bytes m (flat_map spell r.rows)) behind r.stand);
      behind = omega (arith, r.behind, behind, length-append (spell x) (flat_map spell r.rows));
    }

rows_again : {A : Type 0} (spell : A → List ℕ) (F : List A → Format A) → ((before : List A) → IsFormat (F before)) → ((before : List A) (x : A) → (F before).spell x ≡ spell x)
    → (bytes : List ℕ) (before rows : List A) (at : ℕ) → rows_fit F before rows ≡ true → StandsAt bytes at (flat_map spell rows)
    → rows_read F (length rows) before bytes at ≡ Ok (before ++ rows, at + length (flat_map spell rows))
rows_again spell F each same bytes before [] at fit h = ap (λ m. Ok (m, at)) (sym (append-nil before)) ∙ ap (λ m. Ok (before ++ [], m)) (omega arith)
rows_again spell F each same bytes before (x ∷ xs) at fit h =
    let f = and_parts ((F before).fits x) (rows_fit F (before ++ x ∷ []) xs) fit in
    let s = spell x in
    let t = flat_map spell xs in
    let one : (F before).read bytes at ≡ Ok (x, at + length s) =
    (each before).again bytes at x f.0 (subst (λ u. StandsAt bytes at u) (sym (same before x)) (stands_first bytes at s t h))
    ∙ ap (λ u. Ok (x, at + length u)) (same before x) in
    let two = rows_again spell F each same bytes (before ++ x ∷ []) xs (at + length s) f.1 (stands_second bytes at s t h) in
    let place : (at + length s) + length t ≡ at + length (s ++ t) = omega (arith, length-append s t) in
    ap (λ r. r >>= λ y. rows_read F (length xs) (before ++ y.0 ∷ []) bytes y.1) one
    ∙ two
    ∙ ap (λ m. Ok (m, (at + length s) + length t)) (append_assoc before (x ∷ []) xs)
    ∙ ap (λ m. Ok (before ++ x ∷ xs, m)) place

pub list_is : {A : Type 0} (L : Format ℕ) (spell : A → List ℕ) (F : List A → Format A) → IsFormat L → ((before : List A) → IsFormat (F before))
    → ((before : List A) (x : A) → (F before).spell x ≡ spell x) → IsFormat (list L spell F)
list_is L spell F law each same = record {
  takes = λ bytes at xs next ok e.
      let a = bind_ok (L.read bytes at) (λ n. rows_read F n.0 [] bytes n.1) (xs, next) e in
      let s = law.takes bytes at a.0.0 a.0.1 ok a.1 in
      let r = rows_take spell F each same bytes ok a.0.0 [] a.0.1 xs next a.2 in
      let xs-are : xs ≡ r.rows = r.whole in
      let count : length xs ≡ a.0.0 = ap length xs-are ∙ r.count in
      let t : Spells L bytes at (length xs) a.0.1 = subst (λ m. Spells L bytes at m a.0.1) (sym count) s in
      let body : StandsAt bytes a.0.1 (flat_map spell xs) = subst (λ ys. StandsAt bytes a.0.1 (flat_map spell ys)) (sym xs-are) r.stand in
      let behind : next ≡ a.0.1 + length (flat_map spell xs) = r.behind ∙ ap (λ ys. a.0.1 + length (flat_map spell ys)) (sym xs-are) in
      record {
        fits = and_from _ _ t.fits (subst (λ ys. rows_fit F [] ys ≡ true) (sym xs-are) r.fit);
        stands = stand_both bytes at (L.spell (length xs)) (flat_map spell xs) t.stands (subst (λ m. StandsAt bytes m (flat_map spell xs)) t.behind body);
        behind = omega (arith, behind, t.behind, length-append (L.spell (length xs)) (flat_map spell xs));
      };
  again = λ bytes at xs fits h.
      let f = and_parts (L.fits (length xs)) (rows_fit F [] xs) fits in
      let s = L.spell (length xs) in
      let t = flat_map spell xs in
      let one = law.again bytes at (length xs) f.0 (stands_first bytes at s t h) in
      let two = rows_again spell F each same bytes [] xs (at + length s) f.1 (stands_second bytes at s t h) in
      let place : (at + length s) + length t ≡ at + length (s ++ t) = omega (arith, length-append s t) in
      ap (λ r. r >>= λ n. rows_read F n.0 [] bytes n.1) one ∙ two ∙ ap (λ m. Ok (xs, m)) place;
}

-- Choices.

abbrev spell_of : {A : Type 0} → (A → List ℕ) → Option A → List ℕ
spell_of s None = []
spell_of s (Some x) = s x

variant_again : {A U : Type 0} (parts : U → Option A) (make : A → U) (F : Format A) → IsFormat F → ((u : U) (x : A) → parts u ≡ Some x → make x ≡ u)
    → (bytes : List ℕ) (at : ℕ) (u : U) (o : Option A) → parts u ≡ o → is_given F.fits o ≡ true → StandsAt bytes at (spell_of F.spell o)
    → (variant parts make F).read bytes at ≡ Ok (u, at + length (spell_of F.spell o))
variant_again parts make F law back bytes at u None e fits h = absurd cc
variant_again parts make F law back bytes at u (Some x) e fits h =
    rw (law.again bytes at x fits h) (ap (λ v. Ok (v, at + length (F.spell x))) (back u x e))

pub variant_is : {A U : Type 0} (parts : U → Option A) (make : A → U) (F : Format A) → IsFormat F
    → ((x : A) → parts (make x) ≡ Some x) → ((u : U) (x : A) → parts u ≡ Some x → make x ≡ u) → IsFormat (variant parts make F)
variant_is parts make F law forth back = record {
  takes = λ bytes at u next ok e.
      let a = bind_ok (F.read bytes at) (λ x. Ok (make x.0, x.1)) (u, next) e in
      let s = law.takes bytes at a.0.0 a.0.1 ok a.1 in
      let whole : Spells (variant parts make F) bytes at (make a.0.0) a.0.1 = record {
        fits = rw (forth a.0.0) s.fits;
        stands = rw (forth a.0.0) s.stands;
        behind = rw (forth a.0.0) s.behind;
      } in
      subst (λ y. Spells (variant parts make F) bytes at y.0 y.1) (ok_is (make a.0.0, a.0.1) (u, next) a.2) whole;
  again = λ bytes at u fits h. variant_again parts make F law back bytes at u (parts u) refl fits h;
}

pub nothing_is : {U : Type 0} → IsFormat {A = U} nothing
nothing_is {U} = record { takes = λ bytes at u next ok e. absurd cc; again = λ bytes at u fits h. absurd cc }

pub empty-is : IsFormat empty
empty-is = record {
  takes = λ bytes at u next ok e.
      record { fits = refl; stands = (drop at bytes, refl); behind = omega (arith, ap (λ p. p.1) (ok_is (tt, at) (u, next) e)) };
  again = λ bytes at u fits h. ap (λ m. Ok (u, m)) (omega arith);
}

pub choice_is : {U : Type 0} (b : Bool) (F G : Format U) → IsFormat F → IsFormat G → IsFormat (cond b F G)
choice_is true F G f g = f
choice_is false F G f g = g

pub tagged_is : {U : Type 0} (known : ℕ → Bool) (tag : U → ℕ) (F : ℕ → Format U) → ((t : ℕ) → IsFormat (F t)) → ((t : ℕ) (u : U) → (F t).fits u ≡ true → tag u ≡ t) → IsFormat (tagged known tag F)
tagged_is known tag F each tags = record {
  takes = λ bytes at u next ok e.
      let a = bind_ok ((such known byte).read bytes at) (λ t. (F t.0).read bytes t.1) (u, next) e in
      let t = a.0.0 in
      let s = (such_is known byte byte-is).takes bytes at t a.0.1 ok a.1 in
      let b = (each t).takes bytes a.0.1 u next ok a.2 in
      let t-is : tag u ≡ t = tags t u b.fits in
      let first : Spells (such known byte) bytes at (tag u) a.0.1 = subst (λ m. Spells (such known byte) bytes at m a.0.1) (sym t-is) s in
      let second : Spells (F (tag u)) bytes a.0.1 u next = subst (λ m. Spells (F m) bytes a.0.1 u next) (sym t-is) b in
      record {
        fits = and_from _ _ first.fits second.fits;
        stands = stand_both bytes at (tag u ∷ []) ((F (tag u)).spell u) first.stands (subst (λ m. StandsAt bytes m ((F (tag u)).spell u)) first.behind second.stands);
        behind = omega (arith, second.behind, first.behind);
      };
  again = λ bytes at u fits h.
      let f = and_parts (nat_lt (tag u) 256 && known (tag u)) ((F (tag u)).fits u) fits in
      let s = (F (tag u)).spell u in
      let one = (such_is known byte byte-is).again bytes at (tag u) f.0 (stands_first bytes at (tag u ∷ []) s h) in
      let two = (each (tag u)).again bytes (at + 1) u f.1 (stands_second bytes at (tag u ∷ []) s h) in
      let place : (at + 1) + length s ≡ at + length (tag u ∷ s) = omega arith in
      ap (λ r. r >>= λ t. (F t.0).read bytes t.1) one ∙ two ∙ ap (λ m. Ok (u, m)) place;
}

-- What a function finds that gives what reading gives.

pub is_found : {A : Type 0} (F : Format A) → IsFormat F → (bytes : List ℕ) (at : ℕ) (r : Result (A × ℕ) CodeFault) → AreBytes bytes → Gives (λ x. x) r (F.read bytes at) → IfOk r (λ x. Spells F bytes at x.0 x.1)
is_found F law bytes at (Ok x) ok h = law.takes bytes at x.0 x.1 ok h
is_found F law bytes at (Err e) ok h = tt

pub is_only : {A : Type 0} (F : Format A) → IsFormat F → (bytes : List ℕ) (at : ℕ) (r : Result (A × ℕ) CodeFault) → Gives (λ x. x) r (F.read bytes at) → (x : A) (next : ℕ) → Spells F bytes at x next → Gives (λ y. y) r (Ok (x, next))
is_only {A} F law bytes at r h x next s = subst (λ (read : Read A). Gives (λ y. y) r read) (law.again bytes at x s.fits s.stands ∙ ap (λ m. Ok (x, m)) (sym s.behind)) h
