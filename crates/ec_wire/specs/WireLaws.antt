-- What is decoded is what the bytes spell, and what they spell is decoded.
use Rattle.std.proofs.Common.{◌≡◌, ℕ, zero, suc, ◌+◌, ◌≤◌, ◌<◌, Bool, true, false, cond, ◌&&◌, ltb, List, [], ◌∷◌, ◌++◌, length, get_or, drop, Option, Some, None, Result, Ok, Err, refl, sym, ap, subst, ◌∙◌, arith, length-append}
use Rattle.std.specs.Prelude.{nat_lt, nat_le, IfOk, T}
use Rattle.std.specs.List.{list_all}
use Rattle.std.proofs.lemmas.List.{append-nil, nil_from_length}
use Rattle.std.proofs.lemmas.Bool.{ltb-true, ltb-false, lt-ltb, le-ltb, and_parts, and_from}
use Rattle.ec_codes.specs.Formats.{Read, Format, byte, such}
use Rattle.ec_codes.specs.Spelling.{StandsAt, Spells}
use Rattle.ec_codes.specs.FormatLaws.{AreBytes, IsFormat}
use Rattle.ec_wire.specs.declared.fault.WireFault.{WireFault}
use Rattle.ec_wire.specs.declared.fault.WireFault.TheVariants as fault
use Rattle.ec_wire.specs.declared.msg.Msg.{Msg}
use Rattle.ec_wire.specs.Codes.{msg_byte, is_kind_byte, msg_form, msg_code, whole, said}
use Rattle.ec_wire.specs.CodeAnswers.{ReadsMessage}
use Rattle.ec_wire.specs.CodeLaws.{msg_form_is, msg-is}

pass : (b : Bool) (x : Result Msg WireFault) (f : WireFault) (m : Msg) → cond b x (Err f) ≡ Ok m → (b ≡ true) × (x ≡ Ok m)
pass true x f m e = (refl, e)
pass false x f m e = absurd cc

before_end : (b : Bool) (f : WireFault) (l m : Msg) → cond b (Err f) (Ok l) ≡ Ok m → (b ≡ false) × (l ≡ m)
before_end true f l m e = absurd cc
before_end false f l m e = (refl, cc)

whole_ok : (len : ℕ) (r : Read Msg) (m : Msg) → whole len r ≡ Ok m → (next : ℕ) × (r ≡ Ok (m, next)) × (len ≤ next)
whole_ok len (Err e) m h = absurd cc
whole_ok len (Ok x) m h =
    let g = before_end (nat_lt x.1 len) (fault.Trailing x.1) x.0 m h in
    (x.1, ap (λ l. Ok (l, x.1)) g.1, ltb-false _ _ g.0)

said_parts : (bytes : List ℕ) (m : Msg) → said bytes ≡ Ok m
    → (next : ℕ) × (nat_lt 0 (length bytes) ≡ true) × (is_kind_byte (get_or bytes 0 0) ≡ true) × ((msg_form (get_or bytes 0 0)).read bytes 1 ≡ Ok (m, next)) × (length bytes ≤ next)
unfolding said
said_parts bytes m h =
    let some = pass (nat_lt 0 (length bytes)) _ (fault.Short 0) m h in
    let known = pass (is_kind_byte (get_or bytes 0 0)) _ (fault.Kind (get_or bytes 0 0)) m some.1 in
    let w = whole_ok (length bytes) ((msg_form (get_or bytes 0 0)).read bytes 1) m known.1 in
    (w.0, some.0, known.0, w.1, w.2)

read_msg : (bytes : List ℕ) (m : Msg) (next : ℕ) → nat_lt 0 (length bytes) ≡ true → is_kind_byte (get_or bytes 0 0) ≡ true → (msg_form (get_or bytes 0 0)).read bytes 1 ≡ Ok (m, next) → msg_code.read bytes 0 ≡ Ok (m, next)
unfolding msg_code
read_msg bytes m next some known read = rw (some, known) read

pub said_ok : (bytes : List ℕ) (m : Msg) → AreBytes bytes → said bytes ≡ Ok m → (msg_code.fits m ≡ true) × (bytes ≡ msg_code.spell m)
said_ok bytes m ok h =
    let w = said_parts bytes m h in
    let s = msg-is.takes bytes 0 m w.0 ok (read_msg bytes m w.0 w.1 w.2 w.3) in
    let len : length bytes ≡ length (msg_code.spell m) + length s.stands.0 = ap length s.stands.1 ∙ length-append (msg_code.spell m) s.stands.0 in
    let over : length bytes ≤ w.0 = w.4 in
    let here : w.0 ≡ 0 + length (msg_code.spell m) = s.behind in
    let rest : s.stands.0 ≡ [] = nil_from_length s.stands.0 (omega arith) in
    (s.fits, s.stands.1 ∙ ap (λ r. msg_code.spell m ++ r) rest ∙ append-nil (msg_code.spell m))

pub said_again : (m : Msg) → msg_code.fits m ≡ true → said (msg_code.spell m) ≡ Ok m
unfolding said msg_code
said_again m fits =
    let b = msg_byte m in
    let fields = (msg_form b).spell m in
    let bytes : List ℕ = b ∷ fields in
    let f = and_parts (nat_lt b 256 && is_kind_byte b) ((msg_form b).fits m) fits in
    let known = (and_parts (nat_lt b 256) (is_kind_byte b) f.0).1 in
    let read : (msg_form b).read bytes 1 ≡ Ok (m, 1 + length fields) = (msg_form_is b).again bytes 1 m f.1 ([], sym (append-nil fields)) in
    let some : nat_lt 0 (length bytes) ≡ true = lt-ltb _ _ (omega arith) in
    let over : nat_lt (1 + length fields) (length bytes) ≡ false = le-ltb _ _ (omega arith) in
    rw (some, known, read, over) refl

pub is_found : (bytes : List ℕ) (r : Result Msg WireFault) → AreBytes bytes → ReadsMessage r (said bytes) → IfOk r (λ m. (msg_code.fits m ≡ true) × (bytes ≡ msg_code.spell m))
is_found bytes (Ok m) ok h = said_ok bytes m ok h
is_found bytes (Err e) ok h = tt

pub is_only : (bytes : List ℕ) (r : Result Msg WireFault) → ReadsMessage r (said bytes) → (m : Msg) → msg_code.fits m ≡ true → bytes ≡ msg_code.spell m → ReadsMessage r (Ok m)
is_only bytes r h m fits e = subst (λ x. ReadsMessage r x) (ap said e ∙ said_again m fits) h
