-- Texts that are written one behind the other.
use Rattle.std.proofs.Common.{◌≡◌, ◌==◌, ◌<◌, ◌≤◌, ◌+◌, ℕ, zero, suc, true, false, cond, List, [], ◌∷◌, ◌++◌, length, map, take, drop, Option, Vec, Result, Ok, Err, IfErr, OnOk, refl, sym, ap, ◌∙◌, subst, arith, append_assoc, append-nil, take-append-drop, length-append}
use Rattle.std.proofs.Math.ListN.{get_or}
use Rattle.std.proofs.KnownBytes.{Appends-nil, Appends-trans}
use Rattle.std.specs.Io.KnownBytes.{Appends}
use Rattle.std.specs.declared.alloc.Global.{Global}
use Rattle.std.specs.List.{flat_map}
use Rattle.ec_streams.specs.Writes.{WriteFailed, WrotePart}
use Rattle.ec_streams.specs.declared.streams.WriteFault.{WriteFault}
use Rattle.ec_streams.specs.declared.streams.WriteFault.TheVariants as write
use Rattle.ec_mount.specs.Mount.{WroteFront}
use Rattle.ec_mount.specs.Script.{rows_of}
use Rattle.ec_mount.specs.Shown.{row_text, answers_text, lanes_text, told_text, end_text, came_text}
use Rattle.ec_mount.specs.Writes.{Wrote, WroteAs}
use Rattle.ec_mount.specs.declared.script.Row.{Row}
use Rattle.ec_mount.specs.declared.status.Status.{Status}
use Rattle.ec_outs.specs.Outs.{Reply}
use Rattle.ec_base.proofs.Numbers.{differ}
use Rattle.ec_base.proofs.OutsideLemmas.{rose_later}

failed_later : (f g h : ℕ) (e : WriteFault) → f ≤ g → WriteFailed g h e → WriteFailed f h e
failed_later f g h write.Failed le r = rose_later f g h le r
failed_later f g h write.NoMemory le r = tt

length-drop : {A : Type 0} (n : ℕ) (xs : List A) → n < length xs → 0 < length (drop n xs)
length-drop zero xs h = h
length-drop (suc n) [] h = absurd (omega arith)
length-drop (suc n) (x ∷ xs) h = length-drop n xs (omega arith)

-- a piece that was to be written whole
pub wrote_piece : {A : Type 0} (piece text : List ℕ) (held now : Option (List ℕ)) (before later : ℕ) (r : Result A WriteFault) → piece ≡ text → OnOk r (Appends held now piece) → IfErr r (λ f. WrotePart held now before later piece f) → Wrote text held now before later r
wrote_piece piece text held now before later (Ok u) e p q = subst (Appends held now) e p
wrote_piece piece text held now before later (Err f) e p q = (
  record { front = take q.count piece; rest = drop q.count piece; whole = take-append-drop q.count piece ∙ e; short = length-drop q.count piece q.short; bytes = q.part },
  q.cause,
)

-- there was no memory for it
pub wrote_none : (A : Type 0) (text : List ℕ) (held : Option (List ℕ)) (before later : ℕ) → 0 < length text → Wrote {A = A} text held held before later (Err write.NoMemory)
wrote_none A text held before later some = (record { front = []; rest = text; whole = refl; short = some; bytes = Appends-nil held }, tt)

module _ (held mid now : Option (List ℕ)) (a b : List ℕ) (before between later : ℕ) (first : Appends held mid a) (le : before ≤ between) where
  front_behind : WroteFront b mid now → WroteFront (a ++ b) held now
  front_behind w = record {
    front = a ++ w.front;
    rest = w.rest;
    whole = append_assoc a w.front w.rest ∙ ap (λ l. a ++ l) w.whole;
    short = w.short;
    bytes = Appends-trans held mid now a w.front first w.bytes;
  }

  -- one text behind another
  pub wrote_behind : {A : Type 0} (r : Result A WriteFault) → Wrote b mid now between later r → Wrote (a ++ b) held now before later r
  wrote_behind (Ok u) w = Appends-trans held mid now a b first w
  wrote_behind (Err f) w = (front_behind w.0, failed_later before between later f le w.1)

-- a text that goes on
front_more : (a b : List ℕ) (held now : Option (List ℕ)) → WroteFront a held now → WroteFront (a ++ b) held now
front_more a b held now w = record {
  front = w.front;
  rest = w.rest ++ b;
  whole = sym (append_assoc w.front w.rest b) ∙ ap (λ l. l ++ b) w.whole;
  short = let some = w.short in omega (arith, length-append w.rest b);
  bytes = w.bytes;
}

pub fails_more : (A B : Type 0) (a b : List ℕ) (held now : Option (List ℕ)) (before later : ℕ) (f : WriteFault) → Wrote {A = A} a held now before later (Err f) → Wrote {A = B} (a ++ b) held now before later (Err f)
fails_more A B a b held now before later f w = (front_more a b held now w.0, w.1)

-- A text that is written in turn: this is left of the whole.
pub record Sofar (held now : Option (List ℕ)) (before later : ℕ) (left whole : List ℕ) : Type 0 where
  pub done : List ℕ
  pub whole_is : done ++ left ≡ whole
  pub bytes : Appends held now done
  pub le : before ≤ later

pub sofar_none : (held : Option (List ℕ)) (before : ℕ) (left whole : List ℕ) → left ≡ whole → Sofar held held before before left whole
sofar_none held before left whole e = record { done = []; whole_is = e; bytes = Appends-nil held; le = omega arith }

module _ (held mid : Option (List ℕ)) (before between : ℕ) (left whole : List ℕ) (s : Sofar held mid before between left whole) where
  pub sofar_same : (other : List ℕ) → left ≡ other → Sofar held mid before between other whole
  sofar_same other e = subst (λ l. Sofar held mid before between l whole) e s

  pub sofar_ends : {A : Type 0} (u : A) → left ≡ [] → Wrote whole held mid before between (Ok u)
  sofar_ends u e = subst (Appends held mid) (sym (append-nil s.done) ∙ (ap (λ l. s.done ++ l) (sym e) ∙ s.whole_is)) s.bytes

  module _ (piece rest : List ℕ) (is : left ≡ piece ++ rest) (now : Option (List ℕ)) (later : ℕ) (le : between ≤ later) where
    whole_too : s.done ++ (piece ++ rest) ≡ whole
    whole_too = ap (λ l. s.done ++ l) (sym is) ∙ s.whole_is

    pub sofar_next : Appends mid now piece → Sofar held now before later rest whole
    sofar_next w = record {
      done = s.done ++ piece;
      whole_is = append_assoc s.done piece rest ∙ whole_too;
      bytes = Appends-trans held mid now s.done piece s.bytes w;
      le = let up = s.le in omega arith;
    }

    pub sofar_fails : (A B : Type 0) (f : WriteFault) → Wrote {A = A} piece mid now between later (Err f) → Wrote {A = B} whole held now before later (Err f)
    sofar_fails A B f w = subst (λ l. Wrote {A = B} l held now before later (Err f)) whole_too (wrote_behind held mid now s.done (piece ++ rest) before between later s.bytes s.le {A = B} (Err f) (fails_more A B piece rest mid now between later f w))

-- Lists at a place.

drop_at : {A : Type 0} (xs : List A) (i : ℕ) (x : A) → i < length xs → x ≡ get_or xs i x → drop i xs ≡ x ∷ drop (suc i) xs
drop_at [] i x h e = absurd (omega arith)
drop_at (y ∷ xs) zero x h e = ap (λ z. z ∷ xs) (sym e)
drop_at (y ∷ xs) (suc i) x h e = drop_at xs i x (omega arith) e

-- the same, as a loop counts
pub drop_one : {A : Type 0} (xs : List A) (i : ℕ) (x : A) → i < length xs → x ≡ get_or xs i x → drop i xs ≡ x ∷ drop (i + 1) xs
drop_one xs i x h e = let up : suc i ≡ i + 1 = omega arith in drop_at xs i x h e ∙ ap (λ n. x ∷ drop n xs) up

pub drop_all : {A : Type 0} (xs : List A) (i : ℕ) → length xs ≤ i → drop i xs ≡ []
drop_all [] zero h = refl
drop_all [] (suc i) h = refl
drop_all (x ∷ xs) zero h = absurd (omega arith)
drop_all (x ∷ xs) (suc i) h = drop_all xs i (omega arith)

-- Rows of a lane.

pub answers_none : (rows : List Row) → answers_text rows [] ≡ []
answers_none [] = refl
answers_none (row ∷ rows) = refl

pub other_lane : (lane : ℕ) (row : Row) (rows : List Row) → (row.lane == lane) ≡ false → rows_of lane (row ∷ rows) ≡ rows_of lane rows
other_lane lane row rows e = ap (λ b. cond b (row ∷ rows_of lane rows) (rows_of lane rows)) e

pub this_lane : (lane : ℕ) (row : Row) (rows : List Row) → (row.lane == lane) ≡ true → rows_of lane (row ∷ rows) ≡ row ∷ rows_of lane rows
this_lane lane row rows e = ap (λ b. cond b (row ∷ rows_of lane rows) (rows_of lane rows)) e

-- A text has its end.
pub ends_some : (xs ys : List ℕ) → 0 < length ys → 0 < length (xs ++ ys)
ends_some xs ys h = omega (arith, length-append xs ys)

pub row_some : (row : Row) (reply : Reply) → 0 < length (row_text row reply)
row_some row reply = ends_some _ (10 ∷ []) (omega arith)

pub told_some : (ops : List ℕ) → 0 < length (told_text ops)
told_some ops = omega arith

pub end_some : (reply : Reply) → 0 < length (end_text reply)
end_some reply = omega arith

-- The next row of a lane, and a row of another lane.

are_same : (a b : ℕ) → a ≡ b → (a == b) ≡ true
are_same a b e = grind arith

pub row_next : (lane : ℕ) (row : Row) (here rest : List Row) (replies : List Reply) (reply : Reply) (more : List Reply) → here ≡ row ∷ rest → row.lane ≡ lane → replies ≡ reply ∷ more
    → answers_text (rows_of lane here) replies ≡ row_text row reply ++ answers_text (rows_of lane rest) more
row_next lane row here rest replies reply more e is next = ap (λ l. answers_text (rows_of lane l) replies) e ∙ (ap (λ l. answers_text l replies) (this_lane lane row rest (are_same row.lane lane is)) ∙ ap (λ l. answers_text (row ∷ rows_of lane rest) l) next)

pub row_other : (lane : ℕ) (row : Row) (here rest : List Row) (replies : List Reply) → here ≡ row ∷ rest → (row.lane ≡ lane → ⊥) → answers_text (rows_of lane here) replies ≡ answers_text (rows_of lane rest) replies
row_other lane row here rest replies e is = ap (λ l. answers_text (rows_of lane l) replies) e ∙ ap (λ l. answers_text l replies) (other_lane lane row rest (differ row.lane lane is))

pub lanes_next : (lane : ℕ) (rows : List Row) (here : List (Vec Reply Global)) (one : Vec Reply Global) (rest : List (Vec Reply Global)) → here ≡ one ∷ rest
    → lanes_text lane rows (map (λ w. w.items) here) ≡ answers_text (rows_of lane rows) one.items ++ lanes_text (lane + 1) rows (map (λ w. w.items) rest)
lanes_next lane rows here one rest e = ap (λ l. lanes_text lane rows (map (λ (w : Vec Reply Global). w.items) l)) e

-- The answers that came: the lanes, and what was told lost.

module _ (rows : List Row) (lanes shown : List (Vec Reply Global)) (same : shown ≡ lanes) (told listed : List (List ℕ)) (alike : listed ≡ told) (held : Option (List ℕ)) (before : ℕ) where
  lanes_same : lanes_text 1 rows (map (λ (w : Vec Reply Global). w.items) shown) ≡ lanes_text 1 rows (map (λ (w : Vec Reply Global). w.items) lanes)
  lanes_same = ap (λ vs. lanes_text 1 rows (map (λ (w : Vec Reply Global). w.items) vs)) same

  pub lanes_fail_all : (A B : Type 0) (now : Option (List ℕ)) (later : ℕ) (f : WriteFault) → Wrote {A = A} (lanes_text 1 rows (map (λ (w : Vec Reply Global). w.items) shown)) held now before later (Err f)
      → Wrote {A = B} (came_text rows (map (λ (w : Vec Reply Global). w.items) lanes) told) held now before later (Err f)
  lanes_fail_all A B now later f w =
      fails_more A B (lanes_text 1 rows (map (λ (w : Vec Reply Global). w.items) lanes)) (flat_map told_text told) held now before later f (subst (λ l. Wrote {A = A} l held now before later (Err f)) lanes_same w)

  module _ (mid : Option (List ℕ)) (between : ℕ) (first : Appends held mid (lanes_text 1 rows (map (λ (w : Vec Reply Global). w.items) shown))) (le : before ≤ between) where
    first_all : Appends held mid (lanes_text 1 rows (map (λ (w : Vec Reply Global). w.items) lanes))
    first_all = subst (Appends held mid) lanes_same first

    pub all_written : (A : Type 0) (now : Option (List ℕ)) (later : ℕ) (r : Result A WriteFault) → Wrote (flat_map told_text listed) mid now between later r
        → Wrote (came_text rows (map (λ (w : Vec Reply Global). w.items) lanes) told) held now before later r
    all_written A now later r w =
        wrote_behind held mid now (lanes_text 1 rows (map (λ (w : Vec Reply Global). w.items) lanes)) (flat_map told_text told) before between later first_all le {A = A} r
        (subst (λ l. Wrote (flat_map told_text l) mid now between later r) alike w)

-- A last line behind the answers that came.

pub behind_fails : (A B : Type 0) (came shown line : List ℕ) → shown ≡ came → (held now : Option (List ℕ)) (before later : ℕ) (f : WriteFault) → Wrote {A = A} shown held now before later (Err f) → Wrote {A = B} (came ++ line) held now before later (Err f)
behind_fails A B came shown line e held now before later f w = fails_more A B came line held now before later f (subst (λ t. Wrote {A = A} t held now before later (Err f)) e w)

pub behind_ends : (came line : List ℕ) (held mid now : Option (List ℕ)) (before between later : ℕ) (st result : Status) → Appends held mid came → before ≤ between → WroteAs line st result mid now between later → WroteAs (came ++ line) st result held now before later
behind_ends came line held mid now before between later st result first le w = (w.0, w.1, wrote_behind held mid now came line before between later first le w.0 w.2)
