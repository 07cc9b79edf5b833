-- Lines that are read one by one.
use Rattle.std.proofs.Common.{◌≡◌, refl, sym, subst, ap, ◌∙◌, ◌≤◌, ◌+◌, ◌==◌, ℕ, T, Bool, true, List, [], ◌∷◌, ◌++◌, length, append_assoc, append-nil, arith}
use Rattle.std.specs.Prelude.{◌&&◌, nat_le, Result, Ok, Err, MatchResult, IfOk}
use Rattle.std.specs.List.{list_all}
use Rattle.std.proofs.lemmas.Bool.{le-leb}
use Rattle.std.proofs.lemmas.Float.{T_from_true}
use Rattle.ec_base.specs.Limits.{max_path_names}
use Rattle.ec_volume.specs.Limits.{max_mode, max_write_bytes, max_ordered}
use Rattle.ec_history.specs.declared.shown.Shown.{Shown}
use Rattle.ec_history.specs.declared.shown.Shown.TheVariants as shown
use Rattle.ec_plain.specs.Bounds.{max_read_bytes}
use Rattle.ec_plain.specs.BoundedCalls.{is_bounded, is_short}
use Rattle.ec_plain.specs.Walk.{Path}
use Rattle.ec_plain.specs.declared.call.Call.{Call}
use Rattle.ec_plain.specs.declared.call.Call.TheVariants as call
use Rattle.ec_legal.specs.Bounded.{is_bounded_line}
use Rattle.ec_script.specs.Lines.{lines_of}
use Rattle.ec_script.specs.declared.line.LineFault.{LineFault}
use Rattle.ec_script.specs.declared.line.LineFault.TheVariants as unread
use Rattle.ec_shown.specs.Lines.{IsShown, IsUnfit}
use Rattle.ec_shown.specs.Showable.{IsShowable, ShowableCall, ArePaths, IsPathOf}
use Rattle.ec_shown.proofs.Ranges.{in_ranges}
use Rattle.ec_legal.specs.OfTranscript.Lines.{AreShown, IsBadLine}
use Rattle.ec_legal.specs.OfTranscript.LinesRead.{TranscriptIsRead}
use Rattle.ec_base.proofs.Bools.{both, first as left, right}
use Rattle.ec_base.proofs.Lists.{none_left}

at_most : (m n : ℕ) → m ≤ n → T (nat_le m n)
at_most m n l = T_from_true (nat_le m n) (le-leb m n l)

short : (p : Path) → IsPathOf p → T (is_short p)
short p h = at_most (length p) max_path_names h.0

all_short : (ps : List Path) → ArePaths ps → T (list_all is_short ps)
all_short [] h = tt
all_short (p ∷ ps) h = both (is_short p) _ (short p h.0) (all_short ps h.1)

three : (a b c : Bool) → T a → T b → T c → T (a && b && c)
three a b c x y z = both (a && b) c (both a b x y) z

call_bounded : (c : Call) → ShowableCall c → T (is_bounded c)
call_bounded (call.Mkdir p) h = short p h
call_bounded (call.Create p) h = short p h
call_bounded (call.Write p at bytes) h = three (is_short p) (nat_le 1 (length bytes)) (nat_le (length bytes) max_write_bytes) (short p h.0.0) (at_most 1 (length bytes) h.1.1.0) (at_most (length bytes) max_write_bytes h.1.1.1)
call_bounded (call.SetLen p len) h = short p h.0
call_bounded (call.Read p at count) h = both (is_short p) (nat_le count max_read_bytes) (short p h.0.0) (at_most count max_read_bytes h.1)
call_bounded (call.Chmod p mode) h = both (is_short p) (nat_le mode max_mode) (short p h.0) (at_most mode max_mode h.1)
call_bounded (call.Touch p stamp) h = short p h.0
call_bounded (call.Stat p) h = short p h
call_bounded (call.List p) h = short p h
call_bounded (call.Remove p) h = short p h
call_bounded (call.Rmdir p) h = short p h
call_bounded (call.Rename p q) h = both (is_short p) (is_short q) (short p h.0) (short q h.1)
call_bounded (call.Fsync p) h = short p h
call_bounded (call.Forder ps) h = three (nat_le 1 (length ps)) (nat_le (length ps) max_ordered) (list_all is_short ps) (at_most 1 (length ps) h.0.0) (at_most (length ps) max_ordered h.0.1) (all_short ps h.1)
call_bounded call.Sync h = tt
call_bounded (call.Chown p owner) h = short p h.0

line_bounded : (s : Shown) → IsShowable s → T (is_bounded_line s)
line_bounded (shown.Waits n c a) h = call_bounded a h.1
line_bounded (shown.Answered n c a answer op) h = call_bounded a h.0.1
line_bounded s h = tt

-- the call of a line that is read is within its bounds
pub read_bounded : (bytes : List ℕ) (s : Shown) → IsShown bytes s → T (is_bounded_line s)
read_bounded bytes s h = line_bounded s (in_ranges bytes s h)

pub ok-bounded : (bytes : List ℕ) (r : Result Shown LineFault) → MatchResult r (IsShown bytes) (IsUnfit bytes) → IfOk r (λ s. T (is_bounded_line s))
ok-bounded bytes (Ok s) h = read_bounded bytes s h
ok-bounded bytes (Err f) h = tt

-- One more line.

pub shown-push : (ls : List (List ℕ)) (ss : List Shown) (l : List ℕ) (s : Shown) → AreShown ls ss → IsShown l s → AreShown (ls ++ l ∷ []) (ss ++ s ∷ [])
shown-push [] [] l s h i = (i, tt)
shown-push [] (t ∷ ss) l s h i = absurd h
shown-push (k ∷ ls) [] l s h i = absurd h
shown-push (k ∷ ls) (t ∷ ss) l s h i = (h.0, shown-push ls ss l s h.1 i)

pub bounded-push : (ss : List Shown) (s : Shown) → T (list_all is_bounded_line ss) → T (is_bounded_line s) → T (list_all is_bounded_line (ss ++ s ∷ []))
bounded-push [] s h i = both (is_bounded_line s) true i tt
bounded-push (t ∷ ss) s h i = both (is_bounded_line t) _ (left (is_bounded_line t) _ h) (bounded-push ss s (right (is_bounded_line t) _ h) i)

pub same-length : (ls : List (List ℕ)) (ss : List Shown) → AreShown ls ss → length ls ≡ length ss
same-length [] [] h = refl
same-length [] (s ∷ ss) h = absurd h
same-length (l ∷ ls) [] h = absurd h
same-length (l ∷ ls) (s ∷ ss) h = omega (arith, same-length ls ss h.1)

pub next-line : (all above ahead next : List (List ℕ)) (l : List ℕ) → above ++ ahead ≡ all → ahead ≡ l ∷ next → (above ++ l ∷ []) ++ next ≡ all
next-line all above ahead next l a e = append_assoc above (l ∷ []) next ∙ ap (λ x. above ++ x) (sym e) ∙ a

-- What has been read, and what is ahead.
pub record Read (all ahead : List (List ℕ)) (ss : List Shown) : Type 0 where
  pub above : List (List ℕ)
  pub parts : above ++ ahead ≡ all
  pub shown : AreShown above ss
  pub bounded : T (list_all is_bounded_line ss)

pub reads-on : (all ahead next : List (List ℕ)) (ss : List Shown) (l : List ℕ) (s : Shown) → Read all ahead ss → ahead ≡ l ∷ next → IsShown l s → T (is_bounded_line s) → Read all next (ss ++ s ∷ [])
reads-on all ahead next ss l s r e i b = record {
  above = r.above ++ l ∷ [];
  parts = next-line all r.above ahead next l r.parts e;
  shown = shown-push r.above ss l s r.shown i;
  bounded = bounded-push ss s r.bounded b;
}

pub all-read : (all : List (List ℕ)) (ss : List Shown) → Read all [] ss → AreShown all ss
all-read all ss r = subst (λ ls. AreShown ls ss) (sym (append-nil r.above) ∙ r.parts) r.shown

-- nothing is left
all-read-in : (bytes rest : List ℕ) (ss : List Shown) → true ≡ (length rest == 0) → Read (lines_of bytes) (lines_of rest) ss → AreShown (lines_of bytes) ss
all-read-in bytes rest ss e r = all-read (lines_of bytes) ss (subst (λ x. Read (lines_of bytes) (lines_of x) ss) (none_left rest e) r)

-- the same, with each call within its bounds
pub read-whole : (bytes rest : List ℕ) (ss : List Shown) → true ≡ (length rest == 0) → Read (lines_of bytes) (lines_of rest) ss → length ss + length rest ≤ length bytes → TranscriptIsRead bytes ss
read-whole bytes rest ss e r l = record { lines = all-read-in bytes rest ss e r; bounded = r.bounded; few = omega (arith, l) }

-- the line behind those that are read is outside the grammar
pub bad-line : (bytes : List ℕ) (ahead next : List (List ℕ)) (ss : List Shown) (l : List ℕ) (n column : ℕ) → Read (lines_of bytes) ahead ss → ahead ≡ l ∷ next → n ≡ length ss + 1 → IsUnfit l (unread.At column) → IsBadLine bytes n column
bad-line bytes ahead next ss l n column r e m u = record {
  above = r.above;
  shown = ss;
  line = l;
  below = next;
  parts = ap (λ x. r.above ++ x) (sym e) ∙ r.parts;
  number_is = omega (arith, m, same-length r.above ss r.shown);
  read = r.shown;
  unfit = u;
}
