-- Formats: which bytes spell a value, and what bytes say at a place, read from the left.
use Rattle.std.specs.Prelude.{◌+◌, ◌*◌, ◌^◌, ℕ, zero, suc, Bool, true, false, ◌&&◌, if◌then◌else◌, nat_lt, max, List, [], ◌∷◌, ◌++◌, length, take, drop, get_or, Option, None, Some, Result, Ok, Err}
use Rattle.std.specs.List.{flat_map}
use Rattle.std.specs.Int.{Width, byte_len, to_be_bytes, from_be_bytes}
use Rattle.ec_codes.specs.declared.fault.CodeFault.{CodeFault}
use Rattle.ec_codes.specs.declared.fault.CodeFault.TheVariants.{Short, Field}

-- a value and the place behind it, or the first fault
abbrev pub Read : Type 0 → Type 0
Read A = Result (A × ℕ) CodeFault

infixl 10 ◌>>=◌
abbrev pub ◌>>=◌ : {A B : Type 0} → Result A CodeFault → (A → Result B CodeFault) → Result B CodeFault
(Ok x) >>= f = f x
(Err e) >>= f = Err e

-- the bytes of a value, whether it has a spelling, and what is read at a place
pub record Format (A : Type 0) : Type 0 where
  pub spell : A → List ℕ
  pub fits : A → Bool
  pub read : List ℕ → ℕ → Read A

-- where the byte would stand that is missing at this place or behind it
abbrev pub missing : List ℕ → ℕ → ℕ
missing bytes at = max at (length bytes)

abbrev pub byte : Format ℕ
byte = record {
  spell = λ n. n ∷ [];
  fits = λ n. nat_lt n 256;
  read = λ bytes at. if nat_lt at (length bytes) then Ok (get_or bytes at 0, at + 1) else Err (Short (missing bytes at));
}

-- a number in so many bits, the highest byte first
abbrev pub number : Width → Format ℕ
number w = record {
  spell = to_be_bytes w;
  fits = λ n. nat_lt n (2 ^ (8 * byte_len w));
  read = λ bytes at. if nat_lt (length bytes) (at + byte_len w) then Err (Short (missing bytes at)) else Ok (from_be_bytes w (take (byte_len w) (drop at bytes)), at + byte_len w);
}

-- the values that pass a test; another one is refused at its first byte
abbrev pub such : {A : Type 0} → (A → Bool) → Format A → Format A
such p F = record {
  spell = F.spell;
  fits = λ x. F.fits x && p x;
  read = λ bytes at. F.read bytes at >>= λ x. if p x.0 then Ok x else Err (Field at);
}

-- a value, and behind it another one, in a format that the first one decides
abbrev pub then_by : {A B : Type 0} → Format A → (A → Format B) → Format (A × B)
then_by F G = record {
  spell = λ x. F.spell x.0 ++ (G x.0).spell x.1;
  fits = λ x. F.fits x.0 && (G x.0).fits x.1;
  read = λ bytes at. F.read bytes at >>= λ x. (G x.0).read bytes x.1 >>= λ y. Ok ((x.0, y.0), y.1);
}

abbrev pub given : {B : Type 0} → ℕ → Option B → ℕ → Read B
given at None next = Err (Field at)
given at (Some y) next = Ok (y, next)

abbrev pub is_given : {A : Type 0} → (A → Bool) → Option A → Bool
is_given p None = false
is_given p (Some x) = p x

-- values that others stand for; one that stands for none is refused at its first byte
abbrev pub standing : {A B : Type 0} → (B → A) → (B → Bool) → (A → Option B) → Format A → Format B
standing to ok from F = record {
  spell = λ y. F.spell (to y);
  fits = λ y. F.fits (to y) && ok y;
  read = λ bytes at. F.read bytes at >>= λ x. given at (from x.0) x.1;
}

-- a length, and so many bytes
abbrev pub text : Format ℕ → Format (List ℕ)
text L = record {
  spell = λ bs. L.spell (length bs) ++ bs;
  fits = λ bs. L.fits (length bs);
  read = λ bytes at. L.read bytes at >>= λ n. if nat_lt (length bytes) (n.1 + n.0) then Err (Short (missing bytes n.1)) else Ok (take n.0 (drop n.1 bytes), n.1 + n.0);
}

-- so many values behind those before, each in a format that the ones before it decide
abbrev pub rows_read : {A : Type 0} → (List A → Format A) → ℕ → List A → List ℕ → ℕ → Read (List A)
rows_read F zero before bytes at = Ok (before, at)
rows_read F (suc n) before bytes at = (F before).read bytes at >>= λ x. rows_read F n (before ++ x.0 ∷ []) bytes x.1

abbrev pub rows_fit : {A : Type 0} → (List A → Format A) → List A → List A → Bool
rows_fit F before [] = true
rows_fit F before (x ∷ xs) = (F before).fits x && rows_fit F (before ++ x ∷ []) xs

-- a count, and so many values, all spelled alike; which of them fit is decided by those before
abbrev pub list : {A : Type 0} → Format ℕ → (A → List ℕ) → (List A → Format A) → Format (List A)
list L spell F = record {
  spell = λ xs. L.spell (length xs) ++ flat_map spell xs;
  fits = λ xs. L.fits (length xs) && rows_fit F [] xs;
  read = λ bytes at. L.read bytes at >>= λ n. rows_read F n.0 [] bytes n.1;
}

-- a value made of parts; other values have no parts
abbrev pub variant : {A U : Type 0} → (U → Option A) → (A → U) → Format A → Format U
variant parts make F = record {
  spell = λ u. elim (parts u) [ None ↦ [] | Some x ↦ F.spell x ];
  fits = λ u. is_given F.fits (parts u);
  read = λ bytes at. F.read bytes at >>= λ x. Ok (make x.0, x.1);
}

-- no value; refused
abbrev pub nothing : {U : Type 0} → Format U
nothing = record { spell = λ u. []; fits = λ u. false; read = λ bytes at. Err (Field at) }

-- no bytes
abbrev pub empty : Format (Unit {0})
empty = record { spell = λ u. []; fits = λ u. true; read = λ bytes at. Ok (tt, at) }

-- a tag, and behind it the value in the format of this tag
abbrev pub tagged : {U : Type 0} → (ℕ → Bool) → (U → ℕ) → (ℕ → Format U) → Format U
tagged known tag F = record {
  spell = λ u. tag u ∷ (F (tag u)).spell u;
  fits = λ u. nat_lt (tag u) 256 && known (tag u) && (F (tag u)).fits u;
  read = λ bytes at. (such known byte).read bytes at >>= λ t. (F t.0).read bytes t.1;
}
