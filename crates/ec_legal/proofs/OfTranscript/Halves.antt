-- Lines that are read in two parts.
use Rattle.std.proofs.Common.{◌≡◌, refl, sym, ap, subst, ◌∙◌, arith, ◌≤◌, ◌<◌, ◌+◌, ◌==◌, ℕ, zero, suc, T, Bool, true, false, cond, List, [], ◌∷◌, ◌++◌, length, take, drop, get_or, length-append, append_assoc, append-nil, add-one}
use Rattle.std.specs.Prelude.{Result, Ok, Err, IfOk, IfErr}
use Rattle.std.specs.List.{list_all}
use Rattle.std.proofs.lemmas.List.{take_all, drop_all}
use Rattle.ec_history.specs.declared.shown.Shown.{Shown}
use Rattle.ec_legal.specs.Bounded.{is_bounded_line}
use Rattle.ec_script.specs.Lines.{lines_of}
use Rattle.ec_words.specs.Pieces.{onto}
use Rattle.ec_legal.specs.OfTranscript.Lines.{AreShown, IsBadLine}
use Rattle.ec_legal.specs.OfTranscript.LinesRead.{TranscriptIsRead, HasBadLine}
use Rattle.ec_legal.specs.declared.transcript.lines.ReadFault.{ReadFault}
use Rattle.ec_legal.specs.declared.transcript.lines.ReadFault.TheVariants as fault
use Rattle.ec_legal.proofs.OfTranscript.Reading.{same-length}
use Rattle.ec_base.proofs.Bools.{both, first as left, right}

-- Where a line ends the bytes can be cut.

onto-front : (b : ℕ) (xs ys : List (List ℕ)) → 0 < length xs → onto b (xs ++ ys) ≡ onto b xs ++ ys
onto-front b [] ys l = absurd (omega (arith, l))
onto-front b (x ∷ xs) ys l = refl

some-onto : (b : ℕ) (xs : List (List ℕ)) → 0 < length (onto b xs)
some-onto b [] = omega arith
some-onto b (x ∷ xs) = omega arith

some-lines : (b : ℕ) (bs : List ℕ) → 0 < length (lines_of (b ∷ bs))
some-lines b bs = go (b == 10)
  where
    go : (q : Bool) → 0 < length (cond q ([] ∷ lines_of bs) (onto b (lines_of bs)))
    go true = omega arith
    go false = some-onto b (lines_of bs)

lines-ahead : (bs : List ℕ) (i : ℕ) → i < length bs → 0 < length (lines_of (take (suc i) bs))
lines-ahead [] i l = absurd (omega (arith, l))
lines-ahead (b ∷ bs) i l = some-lines b (take i bs)

cut-behind : (bs : List ℕ) (i : ℕ) → i < length bs → get_or bs i 0 ≡ 10 → lines_of bs ≡ lines_of (take (suc i) bs) ++ lines_of (drop (suc i) bs)
cut-behind [] i l e = absurd (omega (arith, l))
cut-behind (b ∷ bs) zero l e = subst (λ x. lines_of (x ∷ bs) ≡ lines_of (x ∷ []) ++ lines_of bs) (sym e) refl
cut-behind (b ∷ bs) (suc i) l e = go (b == 10) (cut-behind bs i (omega (arith, l)) e)
  where
    go : (q : Bool) → lines_of bs ≡ lines_of (take (suc i) bs) ++ lines_of (drop (suc i) bs)
        → cond q ([] ∷ lines_of bs) (onto b (lines_of bs)) ≡ cond q ([] ∷ lines_of (take (suc i) bs)) (onto b (lines_of (take (suc i) bs))) ++ lines_of (drop (suc i) bs)
    go true f = ap (λ ls. [] ∷ ls) f
    go false f = ap (onto b) f ∙ onto-front b (lines_of (take (suc i) bs)) (lines_of (drop (suc i) bs)) (lines-ahead bs i (omega (arith, l)))

pub cut-at : (bs : List ℕ) (i : ℕ) → i < length bs → get_or bs i 0 ≡ 10 → lines_of bs ≡ lines_of (take (i + 1) bs) ++ lines_of (drop (i + 1) bs)
cut-at bs i l e = subst (λ k. lines_of bs ≡ lines_of (take k bs) ++ lines_of (drop k bs)) (sym (add-one i)) (cut-behind bs i l e)

pub cut-end : (bs : List ℕ) (n : ℕ) → length bs ≤ n → lines_of bs ≡ lines_of (take n bs) ++ lines_of (drop n bs)
cut-end bs n l = sym (append-nil (lines_of bs)) ∙ ap (λ x. lines_of x ++ []) (sym (take_all n bs l)) ∙ ap (λ x. lines_of (take n bs) ++ lines_of x) (sym (drop_all n bs l))

-- There are no more lines than bytes.

length-onto : (b : ℕ) (xs : List (List ℕ)) → length (onto b xs) ≤ length xs + 1
length-onto b [] = omega arith
length-onto b (x ∷ xs) = omega arith

few-lines : (bs : List ℕ) → length (lines_of bs) ≤ length bs
few-lines [] = omega arith
few-lines (b ∷ bs) = go (b == 10) (few-lines bs)
  where
    go : (q : Bool) → length (lines_of bs) ≤ length bs → length (cond q ([] ∷ lines_of bs) (onto b (lines_of bs))) ≤ suc (length bs)
    go true l = omega (arith, l)
    go false l = omega (arith, l, length-onto b (lines_of bs))

pub bad-few : (bs : List ℕ) (n column : ℕ) → IsBadLine bs n column → n ≤ length bs
bad-few bs n column k =
    let all : length k.above + suc (length k.below) ≡ length (lines_of bs) = sym (length-append k.above (k.line ∷ k.below)) ∙ ap length k.parts in
    omega (arith, all, k.number_is, few-lines bs)

-- Both parts are read, or one has a bad line.

pub shown-append : (ls ms : List (List ℕ)) (ss ts : List Shown) → AreShown ls ss → AreShown ms ts → AreShown (ls ++ ms) (ss ++ ts)
shown-append [] ms [] ts h k = k
shown-append [] ms (s ∷ ss) ts h k = absurd h
shown-append (l ∷ ls) ms [] ts h k = absurd h
shown-append (l ∷ ls) ms (s ∷ ss) ts h k = (h.0, shown-append ls ms ss ts h.1 k)

pub bounded-append : (ss ts : List Shown) → T (list_all is_bounded_line ss) → T (list_all is_bounded_line ts) → T (list_all is_bounded_line (ss ++ ts))
bounded-append [] ts h k = k
bounded-append (s ∷ ss) ts h k = both (is_bounded_line s) _ (left (is_bounded_line s) _ h) (bounded-append ss ts (right (is_bounded_line s) _ h) k)

pub read-both : (bs front back : List ℕ) (ss ts : List Shown) → lines_of bs ≡ lines_of front ++ lines_of back → bs ≡ front ++ back → TranscriptIsRead front ss → TranscriptIsRead back ts → TranscriptIsRead bs (ss ++ ts)
read-both bs front back ss ts e b h k =
    let m : length (ss ++ ts) ≡ length ss + length ts = length-append ss ts in
    let n : length bs ≡ length front + length back = ap length b ∙ length-append front back in
    record {
      lines = subst (λ ls. AreShown ls (ss ++ ts)) (sym e) (shown-append (lines_of front) (lines_of back) ss ts h.lines k.lines);
      bounded = bounded-append ss ts h.bounded k.bounded;
      few = omega (arith, m, n, h.few, k.few);
    }

bad-above : (bs front back : List ℕ) (n column : ℕ) → lines_of bs ≡ lines_of front ++ lines_of back → IsBadLine front n column → IsBadLine bs n column
bad-above bs front back n column e k = record {
  above = k.above;
  shown = k.shown;
  line = k.line;
  below = k.below ++ lines_of back;
  parts = sym (append_assoc k.above (k.line ∷ k.below) (lines_of back)) ∙ ap (λ ls. ls ++ lines_of back) k.parts ∙ sym e;
  number_is = k.number_is;
  read = k.read;
  unfit = k.unfit;
}

-- a fault of the first part
pub above-fault : (bs front back : List ℕ) (f : ReadFault) → lines_of bs ≡ lines_of front ++ lines_of back → HasBadLine front f → HasBadLine bs f
above-fault bs front back (fault.BadLine n column) e k = bad-above bs front back n column e k
above-fault bs front back fault.NoMemory e k = tt

pub bad-below : (bs front back : List ℕ) (ss : List Shown) (m n column : ℕ) → lines_of bs ≡ lines_of front ++ lines_of back → TranscriptIsRead front ss → IsBadLine back n column → m ≡ length ss + n → IsBadLine bs m column
bad-below bs front back ss m n column e h k q =
    let many : length (lines_of front) ≡ length ss = same-length (lines_of front) ss h.lines in
    let long : length (lines_of front ++ k.above) ≡ length (lines_of front) + length k.above = length-append (lines_of front) k.above in
    record {
      above = lines_of front ++ k.above;
      shown = ss ++ k.shown;
      line = k.line;
      below = k.below;
      parts = append_assoc (lines_of front) k.above (k.line ∷ k.below) ∙ ap (λ ls. lines_of front ++ ls) k.parts ∙ sym e;
      number_is = omega (arith, many, long, q, k.number_is);
      read = shown-append (lines_of front) k.above ss k.shown h.lines k.read;
      unfit = k.unfit;
    }

-- A result, by another one.

pub if-ok : {A B : Type 0} (P Q : A → Type 0) (r : Result A B) → ((x : A) → P x → Q x) → IfOk r P → IfOk r Q
if-ok P Q (Ok x) k h = k x h
if-ok P Q (Err f) k h = h

pub no-memory : (bs : List ℕ) (f : ReadFault) → f ≡ fault.NoMemory → HasBadLine bs f
no-memory bs f e = subst (HasBadLine bs) (sym e) tt

pub ok-of : {A B : Type 0} (P : A → Type 0) (r : Result A B) (x : A) → r ≡ Ok x → IfOk r P → P x
ok-of P r x e h = subst (λ q. IfOk q P) e h

pub err-of : {A B : Type 0} (P : B → Type 0) (r : Result A B) (f : B) → r ≡ Err f → IfErr r P → P f
err-of P r f e h = subst (λ q. IfErr q P) e h
