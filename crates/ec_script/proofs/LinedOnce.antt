-- A line of the whole grammar has one reading or one column.
use Rattle.std.proofs.Common.{◌≡◌, inl, inr, ℕ, ◌+◌, ◌≤◌, List, [], ◌∷◌, length, get_or, sym, ap, subst, ◌∙◌, arith}
use Rattle.ec_plain.specs.declared.call.Call.{Call}
use Rattle.ec_script.specs.declared.line.Line.{Line}
use Rattle.ec_script.specs.declared.line.LineFault.TheVariants as fault
use Rattle.ec_words.specs.declared.name.Keyword.{Keyword}
use Rattle.ec_words.specs.declared.name.Keyword.TheVariants as keyword
use Rattle.ec_words.specs.Pieces.{onto}
use Rattle.ec_words.specs.Words.{words_of}
use Rattle.ec_words.specs.Rows.{Word, ◌▸◌}
use Rattle.ec_script.specs.Grammar.{IsComment}
use Rattle.ec_words.specs.Rows.{Last, shown_column}
use Rattle.ec_words.specs.Spelling.{IsClerk, IsSmallNumber, IsNumber, IsArmed, IsLane, IsKind, IsChoice, keyword_name}
use Rattle.ec_words.specs.Calls.{SpellsCall}
use Rattle.ec_script.specs.Grammar.{Says, Begun, Head, IsHead, Spells, SpellsLane, IsLine, IsOutside}
use Rattle.ec_words.proofs.Named.{kind_once, choice_once}
use Rattle.ec_script.proofs.Heads.{clerk_once, head_once}
use Rattle.ec_words.proofs.OneCall.{OneValue, last_once, makes_once, choice_row_once, in_range_once, small, number, call_once}
use Rattle.ec_words.proofs.Once.{row_once, end_once, unfit_once}

-- Lines.

one_clerk : OneValue (Last IsClerk)
one_clerk = last_once IsClerk clerk_once

message : OneValue (IsClerk ▸ IsKind ▸ Last IsSmallNumber)
message = row_once IsClerk _ clerk_once (row_once IsKind _ kind_once (last_once IsSmallNumber small))

says_once : (k : Keyword) → OneValue (Says k)
says_once keyword.Push = makes_once _ _ (row_once IsClerk _ clerk_once (last_once IsNumber number))
says_once keyword.Cut = makes_once _ _ one_clerk
says_once keyword.Uncut = makes_once _ _ one_clerk
says_once keyword.Drop = makes_once _ _ message
says_once keyword.Repeat = makes_once _ _ message
says_once keyword.Deliver = makes_once _ _ message
says_once keyword.Resend = makes_once _ _ one_clerk
says_once keyword.Crash = makes_once _ _ one_clerk
says_once keyword.End = makes_once _ _ one_clerk
says_once keyword.Stop = makes_once _ _ end_once
says_once keyword.Arm = makes_once _ _ (row_once IsArmed _ (in_range_once 1 1000000 (omega arith)) (last_once IsChoice choice_once))
says_once keyword.Restart = makes_once _ _ end_once

begun_once : (h : Head) → OneValue (Begun h)
begun_once (inl c) = makes_once _ _ call_once
begun_once (inr k) = says_once k

spelled_once : OneValue Spells
spelled_once = choice_row_once IsHead Begun head_once begun_once

-- the first word of a comment is no clerk and no keyword

letter : (k : Keyword) → 97 ≤ get_or (keyword_name k) 0 0
letter keyword.Push = omega arith
letter keyword.Cut = omega arith
letter keyword.Uncut = omega arith
letter keyword.Drop = omega arith
letter keyword.Repeat = omega arith
letter keyword.Deliver = omega arith
letter keyword.Resend = omega arith
letter keyword.Crash = omega arith
letter keyword.End = omega arith
letter keyword.Stop = omega arith
letter keyword.Arm = omega arith
letter keyword.Restart = omega arith

no_head_empty : (h : Head) → IsHead [] h → ⊥
no_head_empty (inl c) g = let e : 0 ≡ 1 = ap length g.0 in absurd (omega (arith, e))
no_head_empty (inr k) g = let e : 0 ≡ get_or (keyword_name k) 0 0 = ap (λ v. get_or v 0 0) g in absurd (omega (arith, e, letter k))

no_head_hash : (w : Word) (h : Head) → IsHead (35 ∷ w) h → ⊥
no_head_hash w (inl c) g = let e : 35 ≡ 65 + c = ap (λ v. get_or v 0 0) g.0 in absurd (omega (arith, e))
no_head_hash w (inr k) g = let e : 35 ≡ get_or (keyword_name k) 0 0 = ap (λ v. get_or v 0 0) g in absurd (omega (arith, e, letter k))

hash_spells : (ws : List Word) (l : Line) → Spells (onto 35 ws) l → ⊥
hash_spells [] l g = no_head_hash [] g.0 g.1.0
hash_spells (w ∷ ws) l g = no_head_hash w g.0 g.1.0

comment_spells : (bytes : List ℕ) (l : Line) → IsComment bytes → Spells (words_of bytes) l → ⊥
comment_spells [] l i g = no_head_empty g.0 g.1.0
comment_spells (b ∷ bs) l i g = hash_spells (words_of bs) l (subst (λ n. Spells (words_of (n ∷ bs)) l) i g)

pub line_once : (bytes : List ℕ) (l m : Line) → IsLine bytes l → IsLine bytes m → l ≡ m
line_once bytes l m (inl a) (inl b) = a.1 ∙ sym b.1
line_once bytes l m (inl a) (inr h) = absurd (comment_spells bytes m a.0 h)
line_once bytes l m (inr g) (inl b) = absurd (comment_spells bytes l b.0 g)
line_once bytes l m (inr g) (inr h) = spelled_once (words_of bytes) l m g h

pub lane_once : (bytes : List ℕ) (x y : ℕ × Call) → SpellsLane (words_of bytes) x → SpellsLane (words_of bytes) y → x ≡ y
lane_once bytes x y g h = row_once IsLane SpellsCall (in_range_once 1 8 (omega arith)) call_once (words_of bytes) x y g h

pub outside_once : {X : Type 0} (G : List Word → X → Type 0) (bytes : List ℕ) (i j : ℕ) → IsOutside G bytes (fault.At i) → IsOutside G bytes (fault.At j) → i ≡ j
outside_once G bytes i j g h =
    let e : g.0 ≡ h.0 = unfit_once G (words_of bytes) g.0 h.0 g.1.0 h.1.0 in
    g.1.1 ∙ ap (shown_column bytes) e ∙ sym h.1.1
