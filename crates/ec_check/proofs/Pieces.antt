-- Lines that are read piece by piece.
use Rattle.std.proofs.Common.{◌≡◌, refl, sym, ap, subst, ◌∙◌, arith, inl, inr, ◌⊎◌, ◌≤◌, ◌<◌, ◌+◌, ℕ, suc, false, List, [], ◌∷◌, ◌++◌, length, length-append, append_assoc, append-nil}
use Rattle.std.proofs.lemmas.Bool.{false≢true}
use Rattle.std.proofs.lemmas.Bool.Decides.{nat_tests}
use Rattle.ec_history.specs.declared.shown.Shown.{Shown}
use Rattle.ec_script.specs.Lines.{lines_of}
use Rattle.std.specs.Prelude.{true, eqb, Result, Ok, Err, IsOk, IfOk, IfErr, IsErrAnd}
use Rattle.ec_legal.specs.OfTranscript.Lines.{AreShown, IsBadLine}
use Rattle.ec_legal.specs.OfTranscript.LinesRead.{TranscriptIsRead, IsReadTo, HasBadLine, line_of, shifted}
use Rattle.ec_legal.specs.declared.transcript.lines.ReadFault.{ReadFault}
use Rattle.ec_legal.specs.declared.transcript.lines.ReadFault.TheVariants as fault
use Rattle.ec_legal.proofs.OfTranscript.Halves.{shown-append, bounded-append, bad-few}
use Rattle.ec_legal.proofs.OfTranscript.Reading.{same-length}
use Rattle.ec_base.proofs.Results.{if-err}

pub read-none : (bytes : List ℕ) → IsReadTo bytes bytes []
read-none bytes = record {
  heads = [];
  parts = refl;
  lines = tt;
  bounded = tt;
  few = omega arith;
}

pub read-piece : (bytes rest piece behind : List ℕ) (ss ts : List Shown) → lines_of rest ≡ lines_of piece ++ lines_of behind → rest ≡ piece ++ behind → IsReadTo bytes rest ss → TranscriptIsRead piece ts → IsReadTo bytes behind (ss ++ ts)
read-piece bytes rest piece behind ss ts e b h k =
    let m : length (ss ++ ts) ≡ length ss + length ts = length-append ss ts in
    let n : length rest ≡ length piece + length behind = ap length b ∙ length-append piece behind in
    record {
      heads = h.heads ++ lines_of piece;
      parts = append_assoc h.heads (lines_of piece) (lines_of behind) ∙ ap (λ ls. h.heads ++ ls) (sym e) ∙ h.parts;
      lines = shown-append h.heads (lines_of piece) ss ts h.lines k.lines;
      bounded = bounded-append ss ts h.bounded k.bounded;
      few = omega (arith, m, n, h.few, k.few);
    }

bad-piece : (bytes rest piece behind : List ℕ) (ss : List Shown) (n column : ℕ) → lines_of rest ≡ lines_of piece ++ lines_of behind → IsReadTo bytes rest ss → IsBadLine piece n column → IsBadLine bytes (length ss + n) column
bad-piece bytes rest piece behind ss n column e h k =
    let many : length h.heads ≡ length ss = same-length h.heads ss h.lines in
    let long : length (h.heads ++ k.above) ≡ length h.heads + length k.above = length-append h.heads k.above in
    let whole : k.above ++ k.line ∷ (k.below ++ lines_of behind) ≡ lines_of rest = sym (append_assoc k.above (k.line ∷ k.below) (lines_of behind)) ∙ ap (λ ls. ls ++ lines_of behind) k.parts ∙ sym e in
    record {
      above = h.heads ++ k.above;
      shown = ss ++ k.shown;
      line = k.line;
      below = k.below ++ lines_of behind;
      parts = append_assoc h.heads k.above (k.line ∷ (k.below ++ lines_of behind)) ∙ ap (λ ls. h.heads ++ ls) whole ∙ h.parts;
      number_is = omega (arith, many, long, k.number_is);
      read = shown-append h.heads k.above ss k.shown h.lines k.read;
      unfit = k.unfit;
    }

-- The number of a bad line of the piece fits behind those above it.
fits-fault : (rest piece behind : List ℕ) (ss : List Shown) (f : ReadFault) → length ss + length rest ≤ 16777216 → rest ≡ piece ++ behind → HasBadLine piece f → length ss + line_of f < 4294967296
fits-fault rest piece behind ss (fault.BadLine n column) l b k =
    let long : length rest ≡ length piece + length behind = ap length b ∙ length-append piece behind in
    omega (arith, l, long, bad-few piece n column k)
fits-fault rest piece behind ss fault.NoMemory l b k = omega (arith, l)

pub piece-fits : {V : Type 0} (rest piece behind : List ℕ) (ss : List Shown) (r : Result V ReadFault) → length ss + length rest ≤ 16777216 → rest ≡ piece ++ behind → IfErr r (HasBadLine piece) → IfErr r (λ f. length ss + line_of f < 4294967296)
piece-fits rest piece behind ss r l b h = if-err (HasBadLine piece) (λ f. length ss + line_of f < 4294967296) r (λ f k. fits-fault rest piece behind ss f l b k) h

-- a fault of a piece, among all lines
pub piece-fault : (bytes rest piece behind : List ℕ) (ss : List Shown) (f g : ReadFault) → lines_of rest ≡ lines_of piece ++ lines_of behind → IsReadTo bytes rest ss → HasBadLine piece g → f ≡ shifted (length ss) g → HasBadLine bytes f
piece-fault bytes rest piece behind ss f (fault.BadLine n column) e h k q = subst (HasBadLine bytes) (sym q) (bad-piece bytes rest piece behind ss n column e h k)
piece-fault bytes rest piece behind ss f fault.NoMemory e h k q = subst (HasBadLine bytes) (sym q) tt

-- the same of what came of reading it, where the lines couldn't be taken in
pub taken-fault : {V : Type 0} (bytes rest piece behind : List ℕ) (ss : List Shown) (r : Result V ReadFault) (f : ReadFault) → lines_of rest ≡ lines_of piece ++ lines_of behind → IsReadTo bytes rest ss → IfErr r (HasBadLine piece)
    → (f ≡ fault.NoMemory) ⊎ IsErrAnd r (λ g. f ≡ shifted (length ss) g) → HasBadLine bytes f
taken-fault bytes rest piece behind ss r f e h k (inl q) = subst (HasBadLine bytes) (sym q) tt
taken-fault bytes rest piece behind ss (Ok v) f e h k (inr q) = absurd q
taken-fault bytes rest piece behind ss (Err g) f e h k (inr q) = piece-fault bytes rest piece behind ss f g e h k q

-- What was taken in, of lines that were read.
pub taken : {V : Type 0} (items : V → List Shown) (bytes rest piece behind : List ℕ) (ss new : List Shown) (r : Result V ReadFault) → lines_of rest ≡ lines_of piece ++ lines_of behind → rest ≡ piece ++ behind → IsReadTo bytes rest ss
    → IfOk r (λ v. TranscriptIsRead piece (items v)) → IsOk r → IfOk r (λ v. new ≡ ss ++ items v) → IsReadTo bytes behind new
taken items bytes rest piece behind ss new (Ok v) e b h k t q = subst (IsReadTo bytes behind) (sym q) (read-piece bytes rest piece behind ss (items v) e b h k)
taken items bytes rest piece behind ss new (Err f) e b h k t q = absurd (false≢true t)

pub behind-ss : {V : Type 0} (items : V → List Shown) (ss new : List Shown) (r : Result V ReadFault) → IsOk r → IfOk r (λ v. new ≡ ss ++ items v) → (ts : List Shown) × (new ≡ ss ++ ts)
behind-ss items ss new (Ok v) t q = (items v, q)
behind-ss items ss new (Err f) t q = absurd (false≢true t)

some-bytes : (n : ℕ) → eqb (suc n) 0 ≡ false
some-bytes n = grind (arith, nat_tests)

pub no-bytes : (bs : List ℕ) → true ≡ eqb (length bs) 0 → bs ≡ []
no-bytes [] h = refl
no-bytes (b ∷ bs) h = absurd (false≢true (sym (h ∙ some-bytes (length bs))))

pub read-all : (bytes rest : List ℕ) (ss : List Shown) → rest ≡ [] → IsReadTo bytes rest ss → AreShown (lines_of bytes) ss
read-all bytes rest ss e h = subst (λ ls. AreShown ls ss) (sym (append-nil h.heads) ∙ ap (λ bs. h.heads ++ lines_of bs) (sym e) ∙ h.parts) h.lines
