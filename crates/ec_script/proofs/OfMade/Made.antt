-- Lines of made scripts are calls.
use Rattle.std.proofs.Common.{◌≡◌, ◌<◌, ◌≤◌, ◌+◌, ◌*◌, ℕ, zero, suc, Bool, List, [], ◌∷◌, ◌++◌, length, refl, sym, ap, subst, ◌∙◌, arith, append_assoc, append-nil}
use Rattle.std.proofs.lemmas.List.{length-append}
use Rattle.ec_script.specs.Lines.{lines_of}
use Rattle.ec_script.specs.OfGenerator.Generator.{call_text, clerk_text, drawn_for, line_of, script_of}
use Rattle.ec_script.specs.OfMade.Made.{AreCalling, IsCalling, MadeLinesCall, is_making, making}
use Rattle.ec_script.proofs.OfMade.Calls.{IsMadeLine, line-so}
use Rattle.ec_script.proofs.OfMade.Words.{lines-more}
use Rattle.ec_base.specs.Bools.{one_if}

module _ (start : ℕ) where
  -- a line without its end
  abbrev text_at : ℕ → List ℕ
  text_at before = clerk_text (drawn_for start before 1) ++ (32 ∷ call_text (suc before) (drawn_for start before 2) (drawn_for start before 3) (drawn_for start before 4))

  abbrev texts : ℕ → List (List ℕ)
  texts zero = []
  texts (suc before) = texts before ++ (text_at before ∷ [])

  made-line : (before : ℕ) → before < 2000 → IsMadeLine (text_at before) (is_making (suc before))
  made-line before lt = line-so (suc before) (drawn_for start before 1) (drawn_for start before 2) (drawn_for start before 3) (drawn_for start before 4) (omega (arith, lt))

  ended : (before : ℕ) (rest : List ℕ) → line_of start before ++ rest ≡ text_at before ++ (10 ∷ rest)
  ended before rest = ap (λ t. clerk_text (drawn_for start before 1) ++ (32 ∷ t)) (append_assoc (call_text (suc before) (drawn_for start before 2) (drawn_for start before 3) (drawn_for start before 4)) (10 ∷ []) rest)

  lines-so : (n : ℕ) (rest : List ℕ) → n ≤ 2000 → lines_of (script_of start n ++ rest) ≡ texts n ++ lines_of rest
  lines-so zero rest le = refl
  lines-so (suc n) rest le =
      ap lines_of (append_assoc (script_of start n) (line_of start n) rest)
      ∙ lines-so n (line_of start n ++ rest) (omega (arith, le))
      ∙ ap (λ ls. texts n ++ ls) (ap lines_of (ended n rest) ∙ lines-more (text_at n) rest ((made-line n (omega (arith, le))).within))
      ∙ sym (append_assoc (texts n) (text_at n ∷ []) (lines_of rest))

  one-more : (ts : List (List ℕ)) (k : ℕ) (t : List ℕ) (b : Bool) → AreCalling ts k → IsCalling t b → AreCalling (ts ++ (t ∷ [])) (k + one_if b)
  one-more [] k t b a c = (b, 0, c, refl, plus k (one_if b) a)
    where
      plus : (k m : ℕ) → k ≡ 0 → k + m ≡ m + 0
      plus k m e = omega (arith, e)
  one-more (u ∷ ts) k t b a c = (a.0, a.1 + one_if b, a.2, one-more ts a.1 t b a.3 c, over k (one_if a.0) a.1 (one_if b) a.4)
    where
      over : (k x y z : ℕ) → k ≡ x + y → k + z ≡ x + (y + z)
      over k x y z e = omega (arith, e)

  all-call : (n : ℕ) → n ≤ 2000 → AreCalling (texts n) (making n)
  all-call zero le = refl
  all-call (suc n) le = one-more (texts n) (making n) (text_at n) (is_making (suc n)) (all-call n (omega (arith, le))) (made-line n (omega (arith, le))).calling

  few-bytes : (n : ℕ) → n ≤ 2000 → length (script_of start n) ≤ 50 * n
  few-bytes zero le = omega arith
  few-bytes (suc n) le =
      let before = few-bytes n (omega (arith, le)) in
      let is = length-append (script_of start n) (line_of start n) in
      let one = (made-line n (omega (arith, le))).few in
      let end = length-append (text_at n) (10 ∷ []) in
      let same = ap length (sym (append-nil (line_of start n)) ∙ ended n []) in
      omega (arith, before, is, one, end, same)

  as-many : (n : ℕ) → length (texts n) ≡ n
  as-many zero = refl
  as-many (suc n) = let is = length-append (texts n) (text_at n ∷ []) in let before = as-many n in omega (arith, is, before)

  lines : (n : ℕ) → n ≤ 2000 → lines_of (script_of start n) ≡ texts n
  lines n le = ap lines_of (sym (append-nil (script_of start n))) ∙ lines-so n [] le ∙ append-nil (texts n)

pub made-lines-call : MadeLinesCall
made-lines-call start n le = (few-bytes start n le, ap length (lines start n le) ∙ as-many start n, subst (λ ts. AreCalling ts (making n)) (sym (lines start n le)) (all-call start n le))
