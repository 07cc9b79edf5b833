-- The words of transcript lines are as they are written, without a space in them.
use Rattle.std.proofs.Common.{◌≡◌, ℕ, ◌<◌, ◌≤◌, ◌+◌, ◌*◌, ◌-◌, ◌^◌, ◌%◌, ◌/◌, List, [], ◌∷◌, ◌++◌, Option, None, Some, true, false, refl, sym, ap, subst, ◌∙◌, append_assoc, arith}
use Rattle.std.proofs.lemmas.Bool.{and_parts, leb-true, ltb-true, lt-ltb, eqb-true, ne_eqb, false_from_ne_true}
use Rattle.std.specs.Prelude.{◌==◌, ◌&&◌, nat_le, nat_lt, eqb, cond, if◌then◌else◌}
use Rattle.std.specs.List.{flat_map, slice_split, onto_first}
use Rattle.std.specs.Fmt.{decimal}
use Rattle.ec_base.specs.Names.{is_slash, path_fault, path_names, names_fault}
use Rattle.ec_base.specs.declared.name.PathFault.TheVariants as unread
use Rattle.ec_plain.specs.Walk.{Path}
use Rattle.ec_words.specs.OfText.Pieces.{hex_digit, escaped_byte, escaped, step_text, path_text, octal}
use Rattle.ec_words.specs.Rows.{Word}
use Rattle.ec_words.specs.Spelling.{IsNumberIn, IsMode, IsClerk, is_octal, mode_of, hex_byte, led_by}
use Rattle.ec_shown.specs.Spelling.{is_plain, bare_byte, upper_digit, unless_plain, escape_of, written_of, IsPathShown}
use Rattle.ec_shown.proofs.Spaced.{clean, clean-decimal}

pub none_some : {X : Type 0} (x : X) → None ≡ Some x → ⊥
none_some x e = cc

pub same_some : {X : Type 0} (x y : X) → Some x ≡ Some y → x ≡ y
same_some x y e = cc

-- Bytes.

pub no_space : (b : ℕ) → 33 ≤ b → (b == 32) ≡ false
no_space b le = ne_eqb b 32 (λ e. omega (arith, le, e))

pub clean-cons : (b : ℕ) (w : Word) → (b == 32) ≡ false → clean w ≡ true → clean (b ∷ w) ≡ true
clean-cons b w e c = rw e c

not_below : (d : ℕ) → 10 ≤ d → nat_lt d 10 ≡ false
not_below d le = false_from_ne_true (nat_lt d 10) (λ t. let lt : d < 10 = ltb-true d 10 t in omega (arith, le, lt))

-- a digit of an escape
abbrev pub DigitShown : ℕ → ℕ → Type 0
DigitShown b d = (d < 16) × ((hex_digit d ≡ b) × ((b == 32) ≡ false))

low_digit : (b d : ℕ) → (nat_le 48 b && nat_le b 57) ≡ true → b - 48 ≡ d → DigitShown b d
low_digit b d t e =
    let p : (nat_le 48 b ≡ true) × (nat_le b 57 ≡ true) = and_parts (nat_le 48 b) (nat_le b 57) t in
    let low : 48 ≤ b = leb-true 48 b p.0 in
    let high : b ≤ 57 = leb-true b 57 p.1 in
    let small : d < 10 = omega (arith, low, high, e) in
    let value : 48 + d ≡ b = omega (arith, low, e) in
    (omega (arith, small), (rw (lt-ltb d 10 small) value, no_space b (omega (arith, low))))

high_digit : (b d : ℕ) → (nat_le 65 b && nat_le b 70) ≡ true → b - 55 ≡ d → DigitShown b d
high_digit b d t e =
    let p : (nat_le 65 b ≡ true) × (nat_le b 70 ≡ true) = and_parts (nat_le 65 b) (nat_le b 70) t in
    let low : 65 ≤ b = leb-true 65 b p.0 in
    let high : b ≤ 70 = leb-true b 70 p.1 in
    let large : 10 ≤ d = omega (arith, low, e) in
    let value : 55 + d ≡ b = omega (arith, low, e) in
    (omega (arith, high, e, low), (rw (not_below d large) value, no_space b (omega (arith, low))))

pub digit_shown : (b d : ℕ) → upper_digit b ≡ Some d → DigitShown b d
digit_shown b d e =
    elim (nat_le 48 b && nat_le b 57) as (λ t. ((nat_le 48 b && nat_le b 57) ≡ t) → (if t then Some (b - 48) else (if nat_le 65 b && nat_le b 70 then Some (b - 55) else None)) ≡ Some d → DigitShown b d) [
      | true ↦ λ s f. low_digit b d s (same_some (b - 48) d f)
      | false ↦ λ s f. elim (nat_le 65 b && nat_le b 70) as (λ t. ((nat_le 65 b && nat_le b 70) ≡ t) → (if t then Some (b - 55) else None) ≡ Some d → DigitShown b d) [
        | true ↦ λ u g. high_digit b d u (same_some (b - 55) d g)
        | false ↦ λ u g. absurd (none_some d g)
      ] refl f
    ] refl e

-- an escape
abbrev EscapeShown : ℕ → ℕ → ℕ → Type 0
EscapeShown h l x = (escaped_byte x ≡ 37 ∷ h ∷ l ∷ []) × (((h == 32) ≡ false) × ((l == 32) ≡ false))

made_escape : (h l d e x : ℕ) → DigitShown h d → DigitShown l e → is_plain (d * 16 + e) ≡ false → d * 16 + e ≡ x → EscapeShown h l x
made_escape h l d e x p q s is =
    let plain : is_plain x ≡ false = subst (λ b. is_plain b ≡ false) is s in
    let high : x / 16 ≡ d = omega (arith, is, q.0) in
    let low : x % 16 ≡ e = omega (arith, is, q.0) in
    let shown : 37 ∷ hex_digit (x / 16) ∷ hex_digit (x % 16) ∷ [] ≡ 37 ∷ h ∷ l ∷ [] = ap (λ a. 37 ∷ a ∷ hex_digit (x % 16) ∷ []) (ap hex_digit high ∙ p.1.0) ∙ ap (λ a. 37 ∷ h ∷ a ∷ []) (ap hex_digit low ∙ q.1.0) in
    (rw plain shown, (p.1.1, q.1.1))

escape_with : (h l d : ℕ) (o : Option ℕ) (x : ℕ) → DigitShown h d → ((e : ℕ) → o ≡ Some e → DigitShown l e) → unless_plain (hex_byte (Some d) o) ≡ Some x → EscapeShown h l x
escape_with h l d None x p q f = absurd (none_some x f)
escape_with h l d (Some e) x p q f =
    elim (is_plain (d * 16 + e)) as (λ t. (is_plain (d * 16 + e) ≡ t) → (if t then None else Some (d * 16 + e)) ≡ Some x → EscapeShown h l x) [
      | true ↦ λ s g. absurd (none_some x g)
      | false ↦ λ s g. made_escape h l d e x p (q e refl) s (same_some (d * 16 + e) x g)
    ] refl f

escape_of_both : (h l : ℕ) (a b : Option ℕ) (x : ℕ) → ((d : ℕ) → a ≡ Some d → DigitShown h d) → ((e : ℕ) → b ≡ Some e → DigitShown l e) → unless_plain (hex_byte a b) ≡ Some x → EscapeShown h l x
escape_of_both h l None b x p q f = absurd (none_some x f)
escape_of_both h l (Some d) b x p q f = escape_with h l d b x (p d refl) q f

escape_shown : (h l x : ℕ) → escape_of h l ≡ Some x → EscapeShown h l x
escape_shown h l x f = escape_of_both h l (upper_digit h) (upper_digit l) x (digit_shown h) (digit_shown l) f

plain_from : (b : ℕ) → is_plain b ≡ true → 33 ≤ b
plain_from b t = leb-true 33 b (and_parts (nat_le 33 b) (nat_le b 126) (and_parts (nat_le 33 b && nat_le b 126) _ t).0).0

bare_shown : (b x : ℕ) → bare_byte b ≡ Some x → (escaped_byte x ≡ b ∷ []) × ((b == 32) ≡ false)
bare_shown b x f =
    elim (is_plain b) as (λ t. (is_plain b ≡ t) → (if t then Some b else None) ≡ Some x → (escaped_byte x ≡ b ∷ []) × ((b == 32) ≡ false)) [
      | true ↦ λ s g. let e : b ≡ x = same_some b x g in (subst (λ y. escaped_byte y ≡ b ∷ []) e (rw s refl), no_space b (plain_from b s))
      | false ↦ λ s g. absurd (none_some x g)
    ] refl f

-- Texts.

pub led : (o : Option ℕ) (t : Option (List ℕ)) (bytes : List ℕ) → led_by o t ≡ Some bytes → (x : ℕ) × ((rest : List ℕ) × ((o ≡ Some x) × ((t ≡ Some rest) × (bytes ≡ x ∷ rest))))
led None t bytes e = absurd (none_some bytes e)
led (Some x) None bytes e = absurd (none_some bytes e)
led (Some x) (Some rest) bytes e = (x, (rest, (refl, (refl, sym (same_some (x ∷ rest) bytes e)))))

abbrev pub TextShown : Word → List ℕ → Type 0
TextShown w bytes = (w ≡ escaped bytes) × (clean w ≡ true)

bare_step : (b : ℕ) (ws : Word) (bytes : List ℕ) → ((rest : List ℕ) → written_of ws ≡ Some rest → TextShown ws rest) → led_by (bare_byte b) (written_of ws) ≡ Some bytes → TextShown (b ∷ ws) bytes
bare_step b ws bytes ih e =
    let p = led (bare_byte b) (written_of ws) bytes e in
    let a = bare_shown b p.0 p.1.1.0 in
    let r = ih p.1.0 p.1.1.1.0 in
    (ap (λ v. b ∷ v) r.0 ∙ sym (ap (λ v. v ++ escaped p.1.0) a.0) ∙ ap escaped (sym p.1.1.1.1), clean-cons b ws a.1 r.1)

escape_step : (b h l : ℕ) (ws : Word) (bytes : List ℕ) → b ≡ 37 → ((rest : List ℕ) → written_of ws ≡ Some rest → TextShown ws rest) → led_by (escape_of h l) (written_of ws) ≡ Some bytes → TextShown (b ∷ h ∷ l ∷ ws) bytes
escape_step b h l ws bytes is ih e =
    let p = led (escape_of h l) (written_of ws) bytes e in
    let a = escape_shown h l p.0 p.1.1.0 in
    let r = ih p.1.0 p.1.1.1.0 in
    (ap (λ v. v ∷ h ∷ l ∷ ws) is ∙ ap (λ v. 37 ∷ h ∷ l ∷ v) r.0 ∙ sym (ap (λ v. v ++ escaped p.1.0) a.0) ∙ ap escaped (sym p.1.1.1.1), clean-cons b (h ∷ l ∷ ws) (subst (λ v. (v == 32) ≡ false) (sym is) refl) (clean-cons h (l ∷ ws) a.1.0 (clean-cons l ws a.1.1 r.1)))

pub text_shown : (w : Word) (bytes : List ℕ) → written_of w ≡ Some bytes → TextShown w bytes
text_shown [] bytes e = (ap escaped (same_some [] bytes e), refl)
text_shown (b ∷ []) bytes e =
    elim (eqb b 37) as (λ t. (if t then None else led_by (bare_byte b) (Some [])) ≡ Some bytes → TextShown (b ∷ []) bytes) [
      | true ↦ λ f. absurd (none_some bytes f)
      | false ↦ λ f. bare_step b [] bytes (λ r q. text_shown [] r q) f
    ] e
text_shown (b ∷ h ∷ []) bytes e =
    elim (eqb b 37) as (λ t. (if t then None else led_by (bare_byte b) (written_of (h ∷ []))) ≡ Some bytes → TextShown (b ∷ h ∷ []) bytes) [
      | true ↦ λ f. absurd (none_some bytes f)
      | false ↦ λ f. bare_step b (h ∷ []) bytes (λ r q. text_shown (h ∷ []) r q) f
    ] e
text_shown (b ∷ h ∷ l ∷ ws) bytes e =
    elim (eqb b 37) as (λ t. (eqb b 37 ≡ t) → (if t then led_by (escape_of h l) (written_of ws) else led_by (bare_byte b) (written_of (h ∷ l ∷ ws))) ≡ Some bytes → TextShown (b ∷ h ∷ l ∷ ws) bytes) [
      | true ↦ λ s f. escape_step b h l ws bytes (eqb-true b 37 s) (λ r q. text_shown ws r q) f
      | false ↦ λ s f. bare_step b (h ∷ l ∷ ws) bytes (λ r q. text_shown (h ∷ l ∷ ws) r q) f
    ] refl e

-- Paths.

split_onto : (b : ℕ) (bs : List ℕ) (parts : List (List ℕ)) → flat_map step_text parts ≡ 47 ∷ escaped bs → flat_map step_text (onto_first b parts) ≡ 47 ∷ escaped (b ∷ bs)
split_onto b bs [] e = absurd cc
split_onto b bs (p ∷ ps) e =
    let f : escaped p ++ flat_map step_text ps ≡ escaped bs = cc in
    ap (λ v. 47 ∷ v) (append_assoc (escaped_byte b) (escaped p) (flat_map step_text ps) ∙ ap (λ v. escaped_byte b ++ v) f)

split_shown : (bs : List ℕ) → flat_map step_text (slice_split is_slash bs) ≡ 47 ∷ escaped bs
split_shown [] = refl
split_shown (b ∷ bs) =
    elim (is_slash b) as (λ t. (is_slash b ≡ t) → flat_map step_text (cond t ([] ∷ slice_split is_slash bs) (onto_first b (slice_split is_slash bs))) ≡ 47 ∷ escaped (b ∷ bs)) [
      | true ↦ λ s. ap (λ v. 47 ∷ v) (split_shown bs) ∙ ap (λ v. 47 ∷ escaped (v ∷ bs)) (sym (eqb-true b 47 s))
      | false ↦ λ s. split_onto b bs (slice_split is_slash bs) (split_shown bs)
    ] refl

some_path : (p : Path) (t : List ℕ) → flat_map step_text p ≡ 47 ∷ t → path_text p ≡ 47 ∷ t
some_path [] t e = absurd cc
some_path (n ∷ ns) t e = e

rooted_at : (b : ℕ) (bs : List ℕ) → path_fault (b ∷ bs) ≡ None → b ≡ 47
rooted_at b bs e =
    elim (is_slash b) as (λ t. (is_slash b ≡ t) → (if t then names_fault 0 (path_names (b ∷ bs)) else Some unread.NotRooted) ≡ None → b ≡ 47) [
      | true ↦ λ s f. eqb-true b 47 s
      | false ↦ λ s f. absurd (none_some unread.NotRooted (sym f))
    ] refl e

path_bytes_shown : (bytes : List ℕ) (p : Path) → path_fault bytes ≡ None → p ≡ path_names bytes → escaped bytes ≡ path_text p
path_bytes_shown [] p f e = absurd cc
path_bytes_shown (b ∷ []) p f e = ap (λ v. escaped (v ∷ [])) (rooted_at b [] f) ∙ ap path_text (sym e)
path_bytes_shown (b ∷ c ∷ cs) p f e = ap (λ v. escaped (v ∷ c ∷ cs)) (rooted_at b (c ∷ cs) f) ∙ sym (some_path (slice_split is_slash (c ∷ cs)) (escaped (c ∷ cs)) (split_shown (c ∷ cs))) ∙ ap path_text (sym e)

pub path_shown : (w : Word) (p : Path) → IsPathShown w p → (w ≡ path_text p) × (clean w ≡ true)
path_shown w p g =
    let a = text_shown w g.0 g.1.0 in
    (a.0 ∙ path_bytes_shown g.0 p g.1.1.0 g.1.1.1, a.1)

-- Numbers and clerks.

pub number_shown : (least most : ℕ) (w : Word) (n : ℕ) → most < 2 ^ 64 → IsNumberIn least most w n → (w ≡ decimal n) × (clean w ≡ true)
number_shown least most w n lm g = (g.0, subst (λ v. clean v ≡ true) (sym g.0) (clean-decimal n (omega (arith, g.1.1, lm))))

pub clerk_shown : (w : Word) (c : ℕ) → IsClerk w c → (w ≡ (65 + c) ∷ []) × (clean w ≡ true)
clerk_shown w c g = (g.0, subst (λ v. clean v ≡ true) (sym g.0) (clean-cons (65 + c) [] (no_space (65 + c) (omega arith)) refl))

pub octal_parts : (a b c d : ℕ) → (is_octal a && is_octal b && is_octal c && is_octal d) ≡ true → ((is_octal a ≡ true) × (is_octal b ≡ true)) × ((is_octal c ≡ true) × (is_octal d ≡ true))
octal_parts a b c d t =
    let p = and_parts (is_octal a && is_octal b && is_octal c) (is_octal d) t in
    let q = and_parts (is_octal a && is_octal b) (is_octal c) p.0 in
    let r = and_parts (is_octal a) (is_octal b) q.0 in
    ((r.0, r.1), (q.1, p.1))

pub octal_range : (a : ℕ) → is_octal a ≡ true → (48 ≤ a) × (a ≤ 55)
octal_range a t = let p = and_parts (nat_le 48 a) (nat_le a 55) t in (leb-true 48 a p.0, leb-true a 55 p.1)

octal_is : (a b c d m : ℕ) → (48 ≤ a) × (a ≤ 55) → (48 ≤ b) × (b ≤ 55) → (48 ≤ c) × (c ≤ 55) → (48 ≤ d) × (d ≤ 55) → (a - 48) * 512 + (b - 48) * 64 + (c - 48) * 8 + (d - 48) ≡ m → a ∷ b ∷ c ∷ d ∷ [] ≡ octal m
octal_is a b c d m p q r s is =
    let ea : a ≡ 48 + m / 512 % 8 = omega (arith, p.0, p.1, q.0, q.1, r.0, r.1, s.0, s.1, is) in
    let eb : b ≡ 48 + m / 64 % 8 = omega (arith, p.0, p.1, q.0, q.1, r.0, r.1, s.0, s.1, is) in
    let ec : c ≡ 48 + m / 8 % 8 = omega (arith, p.0, p.1, q.0, q.1, r.0, r.1, s.0, s.1, is) in
    let ed : d ≡ 48 + m % 8 = omega (arith, p.0, p.1, q.0, q.1, r.0, r.1, s.0, s.1, is) in
    ap (λ v. v ∷ b ∷ c ∷ d ∷ []) ea ∙ ap (λ v. (48 + m / 512 % 8) ∷ v ∷ c ∷ d ∷ []) eb ∙ ap (λ v. (48 + m / 512 % 8) ∷ (48 + m / 64 % 8) ∷ v ∷ d ∷ []) ec ∙ ap (λ v. (48 + m / 512 % 8) ∷ (48 + m / 64 % 8) ∷ (48 + m / 8 % 8) ∷ v ∷ []) ed

octal_clean : (a b c d : ℕ) → 48 ≤ a → 48 ≤ b → 48 ≤ c → 48 ≤ d → clean (a ∷ b ∷ c ∷ d ∷ []) ≡ true
octal_clean a b c d p q r s = clean-cons a (b ∷ c ∷ d ∷ []) (no_space a (omega (arith, p))) (clean-cons b (c ∷ d ∷ []) (no_space b (omega (arith, q))) (clean-cons c (d ∷ []) (no_space c (omega (arith, r))) (clean-cons d [] (no_space d (omega (arith, s))) refl)))

four_digits : (a b c d m : ℕ) → mode_of (a ∷ b ∷ c ∷ d ∷ []) ≡ Some m → (a ∷ b ∷ c ∷ d ∷ [] ≡ octal m) × (clean (a ∷ b ∷ c ∷ d ∷ []) ≡ true)
four_digits a b c d m e =
    let v = (a - 48) * 512 + (b - 48) * 64 + (c - 48) * 8 + (d - 48) in
    elim (is_octal a && is_octal b && is_octal c && is_octal d) as (λ t. ((is_octal a && is_octal b && is_octal c && is_octal d) ≡ t) → (if t then Some ((a - 48) * 512 + (b - 48) * 64 + (c - 48) * 8 + (d - 48)) else None) ≡ Some m → (a ∷ b ∷ c ∷ d ∷ [] ≡ octal m) × (clean (a ∷ b ∷ c ∷ d ∷ []) ≡ true)) [
      | true ↦ λ s f.
          let p = octal_parts a b c d s in
          let pa = octal_range a p.0.0 in
          let pb = octal_range b p.0.1 in
          let pc = octal_range c p.1.0 in
          let pd = octal_range d p.1.1 in
          (octal_is a b c d m pa pb pc pd (same_some _ m f), octal_clean a b c d pa.0 pb.0 pc.0 pd.0)
      | false ↦ λ s f. absurd (none_some m f)
    ] refl e

pub mode_shown : (w : Word) (m : ℕ) → IsMode w m → (w ≡ octal m) × (clean w ≡ true)
mode_shown [] m e = absurd (none_some m e)
mode_shown (a ∷ []) m e = absurd (none_some m e)
mode_shown (a ∷ b ∷ []) m e = absurd (none_some m e)
mode_shown (a ∷ b ∷ c ∷ []) m e = absurd (none_some m e)
mode_shown (a ∷ b ∷ c ∷ d ∷ []) m e = four_digits a b c d m e
mode_shown (a ∷ b ∷ c ∷ d ∷ x ∷ w) m e = absurd (none_some m e)
