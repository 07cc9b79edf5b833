-- What is read is within its ranges.
use Rattle.std.proofs.Common.{◌≡◌, inl, inr, ℕ, zero, suc, ◌<◌, ◌≤◌, ◌+◌, ◌*◌, ◌-◌, ◌^◌, List, [], ◌∷◌, length, Option, None, Some, true, false, refl, sym, ap, subst, arith}
use Rattle.std.proofs.lemmas.Bool.{and_parts, leb-true, ltb-true}
use Rattle.std.specs.Prelude.{◌&&◌, nat_le, eqb, ltb, cond, if◌then◌else◌, codes, ⊤}
use Rattle.std.specs.List.{slice_split, onto_first}
use Rattle.ec_base.specs.Limits.{clerk_count, max_path_names}
use Rattle.ec_base.specs.Names.{is_slash, name_fault, names_fault, or_later, path_fault, path_names}
use Rattle.ec_base.specs.declared.name.NameFault.{NameFault}
use Rattle.ec_base.specs.declared.name.PathFault.{PathFault}
use Rattle.ec_base.specs.declared.name.PathFault.TheVariants as unread
use Rattle.ec_history.specs.declared.entry.Answer.TheVariants as answer
use Rattle.ec_history.specs.declared.shown.Shown.{Shown}
use Rattle.ec_history.specs.declared.shown.Shown.TheVariants as shown
use Rattle.ec_plain.specs.Bounds.{max_read_bytes}
use Rattle.ec_plain.specs.Walk.{Path}
use Rattle.ec_plain.specs.declared.call.Call.{Call}
use Rattle.ec_plain.specs.declared.call.Call.TheVariants as call
use Rattle.ec_plain.specs.declared.call.Refusal.TheVariants as refusal
use Rattle.ec_plain.specs.declared.call.Reply.TheVariants as reply
use Rattle.ec_volume.specs.Limits.{max_mode, max_ordered, max_write_bytes}
use Rattle.ec_words.specs.declared.name.Verb.{Verb}
use Rattle.ec_words.specs.declared.name.Verb.TheVariants as verb
use Rattle.ec_words.specs.Words.{words_of}
use Rattle.ec_words.specs.Rows.{Word, ◌▸◌, End, Last, ◌⊳◌, ◌makes◌}
use Rattle.ec_words.specs.Spelling.{IsClerk, IsSmallNumber, IsNumber, IsCount, IsMode, IsVerb, is_octal, mode_of, hex_byte, led_by}
use Rattle.ec_shown.specs.declared.answer.Outcome.{Outcome}
use Rattle.ec_shown.specs.declared.answer.Outcome.TheVariants as outcome
use Rattle.ec_shown.specs.declared.name.Head.{Head}
use Rattle.ec_shown.specs.declared.name.Head.TheVariants as head
use Rattle.ec_shown.specs.declared.name.Said.{Said}
use Rattle.ec_shown.specs.declared.name.Said.TheVariants as said
use Rattle.ec_shown.specs.declared.name.Why.{Why}
use Rattle.ec_shown.specs.declared.name.Why.TheVariants as why
use Rattle.ec_shown.specs.Spelling.{is_plain, bare_byte, upper_digit, unless_plain, escape_of, written_of, IsWritten, IsNameText, IsPathShown, IsPlace, IsOwner, IsKindName, IsLimit, IsCounter, IsSaid, IsWhy}
use Rattle.ec_shown.specs.Rows.{Marked, Tail, Times, Rises, SpellsList}
use Rattle.ec_shown.specs.Answers.{TextOf, Refuses, Sized, Stamped, Moded, Properties, shown_owner, stat_reply, Tells, SpellsOutcome}
use Rattle.ec_shown.specs.Calls.{Asked, PathsThen, Paths, OnPath, Asks, SpellsAsked}
use Rattle.ec_shown.specs.Lines.{First, IsFirst, Begun, Says, asked_line, IsShown}
use Rattle.ec_shown.specs.Showable.{AreBytes, AreNames, IsPathOf, ArePaths, RiseFrom, IsRising, ShowableCall, ShowableRefusal, ShowableAnswered, IsShowable}
use Rattle.ec_shown.proofs.Words.{none_some, same_some, led, DigitShown, digit_shown, octal_parts, octal_range}

-- Rows, by what holds of each word's value.

abbrev WordSo : {V : Type 0} → (Word → V → Type 0) → (V → Type 0) → Type 0
WordSo {V} P Q = (w : Word) (v : V) → P w v → Q v

abbrev So : {X : Type 0} → (List Word → X → Type 0) → (X → Type 0) → Type 0
So {X} G R = (ws : List Word) (x : X) → G ws x → R x

so_end : So End (λ u. ⊤)
so_end ws u g = tt

so_row : {V X : Type 0} (P : Word → V → Type 0) (G : List Word → X → Type 0) (Q : V → Type 0) (R : X → Type 0) → WordSo P Q → So G R → So (P ▸ G) (λ x. Q (x.0) × R (x.1))
so_row P G Q R p r [] x g = absurd g
so_row P G Q R p r (w ∷ ws) x g = (p w (x.0) g.0, r ws (x.1) g.1)

so_last : {V : Type 0} (P : Word → V → Type 0) (Q : V → Type 0) → WordSo P Q → So (Last P) Q
so_last P Q p [] v g = absurd g
so_last P Q p (w ∷ ws) v g = p w v g.0

so_makes : {X Y : Type 0} (G : List Word → X → Type 0) (f : X → Y) (R : X → Type 0) (S : Y → Type 0) → So G R → ((x : X) → R x → S (f x)) → So (G makes f) S
so_makes G f R S r s ws y g = subst S g.1.1 (s g.0 (r ws g.0 g.1.0))

so_marked : {X : Type 0} (mark : Word) (G : List Word → X → Type 0) (R : X → Type 0) → So G R → So (Marked mark G) R
so_marked mark G R r [] x g = absurd g
so_marked mark G R r (w ∷ ws) x g = r ws x g.1

so_choice : {V X : Type 0} (P : Word → V → Type 0) (F : V → List Word → X → Type 0) (Q : V → Type 0) (S : X → Type 0) → WordSo P Q → ((v : V) → Q v → So (F v) S) → So (P ⊳ F) S
so_choice P F Q S p s [] x g = absurd g
so_choice P F Q S p s (w ∷ ws) x g = s g.0 (p w g.0 g.1.0) ws x g.1.1

any_word : {V : Type 0} (P : Word → V → Type 0) → WordSo P (λ v. ⊤)
any_word P w v g = tt

-- Words.

small : WordSo IsSmallNumber (λ n. n < 2 ^ 32)
small w n g = omega (arith, g.1.1)

large : WordSo IsNumber (λ n. n < 2 ^ 64)
large w n g = omega (arith, g.1.1)

counted : WordSo IsCount (λ n. n ≤ max_read_bytes)
counted w n g = g.1.1

placed : WordSo IsPlace (λ n. n < 2 ^ 8)
placed w n g = omega (arith, g.1.1)

owned : WordSo IsOwner (λ n. n < 2 ^ 32)
owned w n g = omega (arith, g.1.1)

lettered : WordSo IsClerk (λ c. c < clerk_count)
lettered w c g = g.1

four_octal : (a b c d m : ℕ) → mode_of (a ∷ b ∷ c ∷ d ∷ []) ≡ Some m → m ≤ max_mode
four_octal a b c d m e =
    elim (is_octal a && is_octal b && is_octal c && is_octal d) as (λ t. ((is_octal a && is_octal b && is_octal c && is_octal d) ≡ t) → (if t then Some ((a - 48) * 512 + (b - 48) * 64 + (c - 48) * 8 + (d - 48)) else None) ≡ Some m → m ≤ max_mode) [
      | true ↦ λ s f.
          let p = octal_parts a b c d s in
          let is : (a - 48) * 512 + (b - 48) * 64 + (c - 48) * 8 + (d - 48) ≡ m = same_some _ m f in
          omega (arith, (octal_range a p.0.0).1, (octal_range b p.0.1).1, (octal_range c p.1.0).1, (octal_range d p.1.1).1, is)
      | false ↦ λ s f. absurd (none_some m f)
    ] refl e

moded : WordSo IsMode (λ m. m ≤ max_mode)
moded [] m e = absurd (none_some m e)
moded (a ∷ []) m e = absurd (none_some m e)
moded (a ∷ b ∷ []) m e = absurd (none_some m e)
moded (a ∷ b ∷ c ∷ []) m e = absurd (none_some m e)
moded (a ∷ b ∷ c ∷ d ∷ []) m e = four_octal a b c d m e
moded (a ∷ b ∷ c ∷ d ∷ x ∷ w) m e = absurd (none_some m e)

-- Texts.

plain_small : (b : ℕ) → is_plain b ≡ true → b < 2 ^ 8
plain_small b t = let le : b ≤ 126 = leb-true b 126 (and_parts (nat_le 33 b) (nat_le b 126) (and_parts (nat_le 33 b && nat_le b 126) _ t).0).1 in omega (arith, le)

bare_small : (b x : ℕ) → bare_byte b ≡ Some x → x < 2 ^ 8
bare_small b x f =
    elim (is_plain b) as (λ t. (is_plain b ≡ t) → (if t then Some b else None) ≡ Some x → x < 2 ^ 8) [
      | true ↦ λ s g. let e : b ≡ x = same_some b x g in subst (λ y. y < 2 ^ 8) e (plain_small b s)
      | false ↦ λ s g. absurd (none_some x g)
    ] refl f

unless_is : (b x : ℕ) → unless_plain (Some b) ≡ Some x → b ≡ x
unless_is b x f =
    elim (is_plain b) as (λ t. (if t then None else Some b) ≡ Some x → b ≡ x) [
      | true ↦ λ g. absurd (none_some x g)
      | false ↦ λ g. same_some b x g
    ] f

escape_both : (h l : ℕ) (a b : Option ℕ) (x : ℕ) → ((d : ℕ) → a ≡ Some d → DigitShown h d) → ((e : ℕ) → b ≡ Some e → DigitShown l e) → unless_plain (hex_byte a b) ≡ Some x → x < 2 ^ 8
escape_both h l None b x p q f = absurd (none_some x f)
escape_both h l (Some d) None x p q f = absurd (none_some x f)
escape_both h l (Some d) (Some e) x p q f = let is : d * 16 + e ≡ x = unless_is (d * 16 + e) x f in omega (arith, is, (p d refl).0, (q e refl).0)

escape_small : (h l x : ℕ) → escape_of h l ≡ Some x → x < 2 ^ 8
escape_small h l x f = escape_both h l (upper_digit h) (upper_digit l) x (digit_shown h) (digit_shown l) f

led_bytes : (o : Option ℕ) (t : Option (List ℕ)) (bytes : List ℕ) → ((x : ℕ) → o ≡ Some x → x < 2 ^ 8) → ((rest : List ℕ) → t ≡ Some rest → AreBytes rest) → led_by o t ≡ Some bytes → AreBytes bytes
led_bytes o t bytes p q e =
    let r = led o t bytes e in
    subst AreBytes (sym r.1.1.1.1) (p r.0 r.1.1.0, q r.1.0 r.1.1.1.0)

text_bytes : (w : Word) (bytes : List ℕ) → written_of w ≡ Some bytes → AreBytes bytes
text_bytes [] bytes e = subst AreBytes (same_some [] bytes e) tt
text_bytes (b ∷ []) bytes e =
    elim (eqb b 37) as (λ t. (if t then None else led_by (bare_byte b) (Some [])) ≡ Some bytes → AreBytes bytes) [
      | true ↦ λ f. absurd (none_some bytes f)
      | false ↦ λ f. led_bytes (bare_byte b) (Some []) bytes (bare_small b) (λ r q. text_bytes [] r q) f
    ] e
text_bytes (b ∷ h ∷ []) bytes e =
    elim (eqb b 37) as (λ t. (if t then None else led_by (bare_byte b) (written_of (h ∷ []))) ≡ Some bytes → AreBytes bytes) [
      | true ↦ λ f. absurd (none_some bytes f)
      | false ↦ λ f. led_bytes (bare_byte b) (written_of (h ∷ [])) bytes (bare_small b) (λ r q. text_bytes (h ∷ []) r q) f
    ] e
text_bytes (b ∷ h ∷ l ∷ ws) bytes e =
    elim (eqb b 37) as (λ t. (if t then led_by (escape_of h l) (written_of ws) else led_by (bare_byte b) (written_of (h ∷ l ∷ ws))) ≡ Some bytes → AreBytes bytes) [
      | true ↦ λ f. led_bytes (escape_of h l) (written_of ws) bytes (escape_small h l) (λ r q. text_bytes ws r q) f
      | false ↦ λ f. led_bytes (bare_byte b) (written_of (h ∷ l ∷ ws)) bytes (bare_small b) (λ r q. text_bytes (h ∷ l ∷ ws) r q) f
    ] e

-- Paths.

abbrev EachBytes : List (List ℕ) → Type 0
EachBytes [] = ⊤
EachBytes (p ∷ ps) = AreBytes p × EachBytes ps

onto_bytes : (b : ℕ) (ps : List (List ℕ)) → b < 2 ^ 8 → EachBytes ps → EachBytes (onto_first b ps)
onto_bytes b [] lt g = ((lt, tt), tt)
onto_bytes b (p ∷ ps) lt g = ((lt, g.0), g.1)

parts_bytes : (bs : List ℕ) → AreBytes bs → EachBytes (slice_split is_slash bs)
parts_bytes [] g = (tt, tt)
parts_bytes (b ∷ bs) g =
    elim (is_slash b) as (λ t. EachBytes (cond t ([] ∷ slice_split is_slash bs) (onto_first b (slice_split is_slash bs)))) [
      | true ↦ (tt, parts_bytes bs g.1)
      | false ↦ onto_bytes b (slice_split is_slash bs) g.0 (parts_bytes bs g.1)
    ]

path_bytes : (bytes : List ℕ) → AreBytes bytes → EachBytes (path_names bytes)
path_bytes [] g = tt
path_bytes (b ∷ []) g = tt
path_bytes (b ∷ c ∷ cs) g = parts_bytes (c ∷ cs) g.1

later : (k : ℕ) (f : Option NameFault) (rest : Option PathFault) → or_later k f rest ≡ None → (f ≡ None) × (rest ≡ None)
later k (Some f) rest e = absurd (none_some (unread.Name k f) (sym e))
later k None rest e = (refl, e)

fitting : (before : ℕ) (ns : Path) → before ≤ max_path_names → names_fault before ns ≡ None → EachBytes ns → (length ns ≤ max_path_names - before) × AreNames ns
fitting before [] le e g = (omega arith, tt)
fitting before (n ∷ ns) le e g =
    elim (ltb before max_path_names) as (λ t. (ltb before max_path_names ≡ t) → (if t then or_later (before + 1) (name_fault n) (names_fault (before + 1) ns) else Some unread.Deep) ≡ None → (length (n ∷ ns) ≤ max_path_names - before) × AreNames (n ∷ ns)) [
      | true ↦ λ s f.
          let lt : before < max_path_names = ltb-true before max_path_names s in
          let p = later (before + 1) (name_fault n) (names_fault (before + 1) ns) f in
          let r = fitting (before + 1) ns (omega (arith, lt)) p.1 g.1 in
          (omega (arith, r.0, lt), ((p.0, g.0), r.1))
      | false ↦ λ s f. absurd (none_some unread.Deep (sym f))
    ] refl e

path_fits : (bytes : List ℕ) → path_fault bytes ≡ None → names_fault 0 (path_names bytes) ≡ None
path_fits [] e = absurd (none_some unread.NotRooted (sym e))
path_fits (b ∷ bs) e =
    elim (is_slash b) as (λ t. (if t then names_fault 0 (path_names (b ∷ bs)) else Some unread.NotRooted) ≡ None → names_fault 0 (path_names (b ∷ bs)) ≡ None) [
      | true ↦ λ f. f
      | false ↦ λ f. absurd (none_some unread.NotRooted (sym f))
    ] e

pathed : WordSo IsPathShown IsPathOf
pathed w p g =
    let r = fitting 0 (path_names g.0) (omega arith) (path_fits g.0 g.1.1.0) (path_bytes g.0 (text_bytes w g.0 g.1.0)) in
    subst IsPathOf (sym g.1.1.1) (omega (arith, r.0), r.1)

-- Lists.

rising : (last : ℕ) → So (Rises last) (RiseFrom last)
rising last [] ops g = subst (RiseFrom last) (sym g) tt
rising last (w ∷ ws) [] g = absurd g
rising last (w ∷ ws) (op ∷ ops) g = ((omega (arith, g.0.1.0), omega (arith, g.0.1.1)), rising op ws ops g.1)

listed : So SpellsList IsRising
listed [] ops g = absurd g
listed (w ∷ ws) [] g = tt
listed (w ∷ ws) (op ∷ ops) g = (large w op g.0, rising op ws ops g.1)

-- Answers.

text_of : (n : ℕ) → n < 2 ^ 64 → So (TextOf n) (λ bytes. AreBytes bytes × (length bytes < 2 ^ 64))
text_of zero lt ws bytes g = subst (λ bs. AreBytes bs × (length bs < 2 ^ 64)) g.1.1 (tt, omega arith)
text_of (suc n) lt [] bytes g = absurd g
text_of (suc n) lt (w ∷ ws) bytes g = (text_bytes w bytes g.0.0, omega (arith, g.0.1, lt))

named : (n : ℕ) (ws : List Word) (names : List (List ℕ)) → Times IsNameText n ws names → AreNames names × (length names ≡ n)
named zero ws names g = subst (λ ns. AreNames ns × (length ns ≡ 0)) (sym g.1) (tt, refl)
named (suc n) [] names g = absurd g
named (suc n) (w ∷ ws) [] g = absurd g
named (suc n) (w ∷ ws) (name ∷ names) g = let r = named n ws names g.1 in (((g.0.1, text_bytes w name g.0.0), r.0), ap suc r.1)

names_of : (n : ℕ) → n < 2 ^ 64 → So (Times IsNameText n) (λ names. AreNames names × (length names < 2 ^ 64))
names_of n lt ws names g = let r = named n ws names g in (r.0, omega (arith, r.1, lt))

refusing : (y : Why) → So (Refuses y) ShowableRefusal
refusing why.NotFound = so_makes (Last IsPlace) refusal.NotFound (λ n. n < 2 ^ 8) ShowableRefusal (so_last IsPlace (λ n. n < 2 ^ 8) placed) (λ x r. r)
refusing why.NotDir = so_makes (Last IsPlace) refusal.NotDir (λ n. n < 2 ^ 8) ShowableRefusal (so_last IsPlace (λ n. n < 2 ^ 8) placed) (λ x r. r)
refusing why.IsDir = so_makes End (λ u. refusal.IsDir) (λ u. ⊤) ShowableRefusal so_end (λ u r. tt)
refusing why.Exists = so_makes End (λ u. refusal.Exists) (λ u. ⊤) ShowableRefusal so_end (λ u r. tt)
refusing why.NotEmpty = so_makes End (λ u. refusal.NotEmpty) (λ u. ⊤) ShowableRefusal so_end (λ u r. tt)
refusing why.TooLong = so_makes End (λ u. refusal.TooLong) (λ u. ⊤) ShowableRefusal so_end (λ u r. tt)
refusing why.DirFull = so_makes End (λ u. refusal.DirFull) (λ u. ⊤) ShowableRefusal so_end (λ u r. tt)
refusing why.Root = so_makes End (λ u. refusal.Root) (λ u. ⊤) ShowableRefusal so_end (λ u r. tt)
refusing why.Loop = so_makes End (λ u. refusal.Loop) (λ u. ⊤) ShowableRefusal so_end (λ u r. tt)

tailed : {V : Type 0} (mark : Word) (P : Word → V → Type 0) (Q : V → Type 0) (R : Option V → Type 0) → WordSo P Q → R None → ((v : V) → Q v → R (Some v)) → So (Tail mark P) R
tailed mark P Q R p n s [] o g = subst R (sym g) n
tailed mark P Q R p n s (w ∷ ws) None g = absurd g
tailed mark P Q R p n s (w ∷ ws) (Some v) g = s v (so_last P Q p ws v g.1)

-- the ranges of properties
abbrev InRange : ℕ × (ℕ × (ℕ × Option ℕ)) → Type 0
InRange x = (x.0 ≤ max_mode) × ((x.1.0 < 2 ^ 64) × ((x.1.1.0 < 2 ^ 32) × (shown_owner x.1.1.1 < 2 ^ 32)))

so_moded : So Moded InRange
so_moded = so_row IsMode Stamped (λ m. m ≤ max_mode) (λ x. (x.0 < 2 ^ 64) × ((x.1.0 < 2 ^ 32) × (shown_owner x.1.1 < 2 ^ 32))) moded (so_row IsNumber Sized (λ n. n < 2 ^ 64) (λ x. (x.0 < 2 ^ 32) × (shown_owner x.1 < 2 ^ 32)) large (so_row IsSmallNumber (Tail (codes "owner") IsOwner) (λ n. n < 2 ^ 32) (λ o. shown_owner o < 2 ^ 32) small (tailed (codes "owner") IsOwner (λ n. n < 2 ^ 32) (λ o. shown_owner o < 2 ^ 32) owned (omega arith) (λ v q. q))))

abbrev OutcomeSo : Outcome → Type 0
OutcomeSo outcome.Waits = ⊤
OutcomeSo (outcome.Answered a op) = ShowableAnswered a op

telling : (s : Said) → So (Tells s) OutcomeSo
telling said.Waits = so_makes End (λ u. outcome.Waits) (λ u. ⊤) OutcomeSo so_end (λ u r. tt)
telling said.Ok = so_makes (Tail (codes "op") IsNumber) (outcome.Answered (answer.Reply reply.Ok)) (ShowableAnswered (answer.Reply reply.Ok)) OutcomeSo (tailed (codes "op") IsNumber (λ n. n < 2 ^ 64) (ShowableAnswered (answer.Reply reply.Ok)) large tt (λ v q. (refl, q))) (λ x r. r)
telling said.Data = so_makes (IsNumber ⊳ TextOf) (λ bytes. outcome.Answered (answer.Reply (reply.Data bytes)) None) (λ bytes. AreBytes bytes × (length bytes < 2 ^ 64)) OutcomeSo (so_choice IsNumber TextOf (λ n. n < 2 ^ 64) (λ bytes. AreBytes bytes × (length bytes < 2 ^ 64)) large text_of) (λ x r. r)
telling said.Stat = so_makes Properties (λ x. outcome.Answered (answer.Reply (stat_reply x)) None) (λ x. ⊤ × InRange x.1) OutcomeSo (so_row IsKindName Moded (λ k. ⊤) InRange (any_word IsKindName) so_moded) (λ x r. ((r.1.0, r.1.1.0), (r.1.1.1.1, r.1.1.1.0)))
telling said.Names = so_makes (IsNumber ⊳ Times IsNameText) (λ names. outcome.Answered (answer.Reply (reply.Names names)) None) (λ names. AreNames names × (length names < 2 ^ 64)) OutcomeSo (so_choice IsNumber (Times IsNameText) (λ n. n < 2 ^ 64) (λ names. AreNames names × (length names < 2 ^ 64)) large names_of) (λ x r. r)
telling said.Refused = so_makes (IsWhy ⊳ Refuses) (λ y. outcome.Answered (answer.Reply (reply.Refused y)) None) ShowableRefusal OutcomeSo (so_choice IsWhy Refuses (λ y. ⊤) ShowableRefusal (any_word IsWhy) (λ v q. refusing v)) (λ x r. r)
telling said.NoRoom = so_makes (IsSmallNumber ▸ Last IsSmallNumber) (λ x. outcome.Answered (answer.NoRoom x.0 x.1) None) (λ x. (x.0 < 2 ^ 32) × (x.1 < 2 ^ 32)) OutcomeSo (so_row IsSmallNumber (Last IsSmallNumber) (λ n. n < 2 ^ 32) (λ n. n < 2 ^ 32) small (so_last IsSmallNumber (λ n. n < 2 ^ 32) small)) (λ x r. r)
telling said.Lost = so_makes SpellsList (λ ops. outcome.Answered (answer.Lost ops) None) IsRising OutcomeSo listed (λ x r. r)

ended : So SpellsOutcome OutcomeSo
ended = so_marked (codes "->") (IsSaid ⊳ Tells) OutcomeSo (so_choice IsSaid Tells (λ s. ⊤) OutcomeSo (any_word IsSaid) (λ v q. telling v))

-- Calls.

abbrev AskedSo : Asked → Type 0
AskedSo x = ShowableCall x.0 × OutcomeSo x.1

ordered : (n : ℕ) (ws : List Word) (ps : List Path) (o : Outcome) → PathsThen n ws ps o → ((length ps ≤ n) × ArePaths ps) × OutcomeSo o
ordered n [] ps o g = absurd g
ordered n (w ∷ ws) [] o g = ((omega arith, tt), ended (w ∷ ws) o g)
ordered zero (w ∷ ws) (p ∷ ps) o g = absurd g
ordered (suc n) (w ∷ ws) (p ∷ ps) o g = let r = ordered n ws ps o g.1 in ((omega (arith, r.0.0), (pathed w p g.0, r.0.1)), r.1)

abbrev OnPathSo : Path × Outcome → Type 0
OnPathSo x = IsPathOf x.0 × OutcomeSo x.1

on_path : So OnPath OnPathSo
on_path = so_row IsPathShown SpellsOutcome IsPathOf OutcomeSo pathed ended

with_one : {V : Type 0} (P : Word → V → Type 0) (Q : V → Type 0) → WordSo P Q → So (IsPathShown ▸ P ▸ SpellsOutcome) (λ x. IsPathOf x.0 × (Q x.1.0 × OutcomeSo x.1.1))
with_one P Q p = so_row IsPathShown (P ▸ SpellsOutcome) IsPathOf (λ x. Q x.0 × OutcomeSo x.1) pathed (so_row P SpellsOutcome Q OutcomeSo p ended)

with_two : {V : Type 0} (P : Word → V → Type 0) (Q : V → Type 0) → WordSo P Q → So (IsPathShown ▸ IsSmallNumber ▸ P ▸ SpellsOutcome) (λ x. IsPathOf x.0 × ((x.1.0 < 2 ^ 32) × (Q x.1.1.0 × OutcomeSo x.1.1.1)))
with_two P Q p = so_row IsPathShown (IsSmallNumber ▸ P ▸ SpellsOutcome) IsPathOf (λ x. (x.0 < 2 ^ 32) × (Q x.1.0 × OutcomeSo x.1.1)) pathed (so_row IsSmallNumber (P ▸ SpellsOutcome) (λ n. n < 2 ^ 32) (λ x. Q x.0 × OutcomeSo x.1) small (so_row P SpellsOutcome Q OutcomeSo p ended))

abbrev WrittenSo : List ℕ → Type 0
WrittenSo bytes = AreBytes bytes × ((1 ≤ length bytes) × (length bytes ≤ max_write_bytes))

written : WordSo IsWritten WrittenSo
written w bytes g = (text_bytes w bytes g.0, g.1)

asking : (v : Verb) → So (Asks v) AskedSo
asking verb.Mkdir = so_makes (OnPath) (λ x. (call.Mkdir x.0, x.1)) (OnPathSo) AskedSo (on_path) (λ x r. r)
asking verb.Create = so_makes (OnPath) (λ x. (call.Create x.0, x.1)) (OnPathSo) AskedSo (on_path) (λ x r. r)
asking verb.Write = so_makes (IsPathShown ▸ IsSmallNumber ▸ IsWritten ▸ SpellsOutcome) (λ x. (call.Write x.0 x.1.0 x.1.1.0, x.1.1.1)) (λ x. IsPathOf x.0 × ((x.1.0 < 2 ^ 32) × (WrittenSo x.1.1.0 × OutcomeSo x.1.1.1))) AskedSo (with_two IsWritten WrittenSo written) (λ x r. (((r.0, r.1.0), r.1.1.0), r.1.1.1))
asking verb.SetLen = so_makes (IsPathShown ▸ IsSmallNumber ▸ SpellsOutcome) (λ x. (call.SetLen x.0 x.1.0, x.1.1)) (λ x. IsPathOf x.0 × ((x.1.0 < 2 ^ 32) × OutcomeSo x.1.1)) AskedSo (with_one IsSmallNumber (λ n. n < 2 ^ 32) small) (λ x r. ((r.0, r.1.0), r.1.1))
asking verb.Read = so_makes (IsPathShown ▸ IsSmallNumber ▸ IsCount ▸ SpellsOutcome) (λ x. (call.Read x.0 x.1.0 x.1.1.0, x.1.1.1)) (λ x. IsPathOf x.0 × ((x.1.0 < 2 ^ 32) × ((x.1.1.0 ≤ max_read_bytes) × OutcomeSo x.1.1.1))) AskedSo (with_two IsCount (λ n. n ≤ max_read_bytes) counted) (λ x r. (((r.0, r.1.0), r.1.1.0), r.1.1.1))
asking verb.Chmod = so_makes (IsPathShown ▸ IsMode ▸ SpellsOutcome) (λ x. (call.Chmod x.0 x.1.0, x.1.1)) (λ x. IsPathOf x.0 × ((x.1.0 ≤ max_mode) × OutcomeSo x.1.1)) AskedSo (with_one IsMode (λ n. n ≤ max_mode) moded) (λ x r. ((r.0, r.1.0), r.1.1))
asking verb.Touch = so_makes (IsPathShown ▸ IsNumber ▸ SpellsOutcome) (λ x. (call.Touch x.0 x.1.0, x.1.1)) (λ x. IsPathOf x.0 × ((x.1.0 < 2 ^ 64) × OutcomeSo x.1.1)) AskedSo (with_one IsNumber (λ n. n < 2 ^ 64) large) (λ x r. ((r.0, r.1.0), r.1.1))
asking verb.Stat = so_makes (OnPath) (λ x. (call.Stat x.0, x.1)) (OnPathSo) AskedSo (on_path) (λ x r. r)
asking verb.List = so_makes (OnPath) (λ x. (call.List x.0, x.1)) (OnPathSo) AskedSo (on_path) (λ x r. r)
asking verb.Remove = so_makes (OnPath) (λ x. (call.Remove x.0, x.1)) (OnPathSo) AskedSo (on_path) (λ x r. r)
asking verb.Rmdir = so_makes (OnPath) (λ x. (call.Rmdir x.0, x.1)) (OnPathSo) AskedSo (on_path) (λ x r. r)
asking verb.Rename = so_makes (IsPathShown ▸ OnPath) (λ x. (call.Rename x.0 x.1.0, x.1.1)) (λ x. IsPathOf x.0 × OnPathSo x.1) AskedSo (so_row IsPathShown OnPath IsPathOf OnPathSo pathed on_path) (λ x r. ((r.0, r.1.0), r.1.1))
asking verb.Fsync = so_makes (OnPath) (λ x. (call.Fsync x.0, x.1)) (OnPathSo) AskedSo (on_path) (λ x r. r)
asking verb.Forder = so_makes (IsPathShown ▸ Paths (max_ordered - 1)) (λ x. (call.Forder (x.0 ∷ x.1.0), x.1.1)) (λ x. IsPathOf x.0 × (((length x.1.0 ≤ max_ordered - 1) × ArePaths x.1.0) × OutcomeSo x.1.1)) AskedSo (so_row IsPathShown (Paths (max_ordered - 1)) IsPathOf (λ x. ((length x.0 ≤ max_ordered - 1) × ArePaths x.0) × OutcomeSo x.1) pathed (λ ws x g. ordered (max_ordered - 1) ws x.0 x.1 g)) (λ x r. (((omega arith, omega (arith, r.1.0.0)), (r.0, r.1.0.1)), r.1.1))
asking verb.Sync = so_makes (SpellsOutcome) (λ o. (call.Sync, o)) (OutcomeSo) AskedSo (ended) (λ x r. (tt, r))
asking verb.Chown = so_makes (IsPathShown ▸ IsSmallNumber ▸ SpellsOutcome) (λ x. (call.Chown x.0 x.1.0, x.1.1)) (λ x. IsPathOf x.0 × ((x.1.0 < 2 ^ 32) × OutcomeSo x.1.1)) AskedSo (with_one IsSmallNumber (λ n. n < 2 ^ 32) small) (λ x r. ((r.0, r.1.0), r.1.1))

asked_so : So SpellsAsked AskedSo
asked_so = so_choice IsVerb Asks (λ v. ⊤) AskedSo (any_word IsVerb) (λ v q. asking v)

-- Lines.

saying : (h : Head) → So (Says h) IsShowable
saying head.Durable = so_makes (IsClerk ▸ SpellsList) (λ x. shown.Durable x.0 x.1) (λ x. (x.0 < clerk_count) × IsRising x.1) IsShowable (so_row IsClerk SpellsList (λ c. c < clerk_count) IsRising lettered listed) (λ x r. r)
saying head.Ended = so_makes (IsClerk ▸ Marked (codes "lost") SpellsList) (λ x. shown.Ended x.0 x.1) (λ x. (x.0 < clerk_count) × IsRising x.1) IsShowable (so_row IsClerk (Marked (codes "lost") SpellsList) (λ c. c < clerk_count) IsRising lettered (so_marked (codes "lost") SpellsList IsRising listed)) (λ x r. r)
saying head.Unseen = so_makes (Last IsClerk) shown.Unseen (λ c. c < clerk_count) IsShowable (so_last IsClerk (λ c. c < clerk_count) lettered) (λ x r. r)
saying head.Told = so_makes (IsClerk ▸ Marked (codes "lost") SpellsList) (λ x. shown.Told x.0 x.1) (λ x. (x.0 < clerk_count) × IsRising x.1) IsShowable (so_row IsClerk (Marked (codes "lost") SpellsList) (λ c. c < clerk_count) IsRising lettered (so_marked (codes "lost") SpellsList IsRising listed)) (λ x r. r)
saying head.Crashed = so_makes (Last IsClerk) shown.Crashed (λ c. c < clerk_count) IsShowable (so_last IsClerk (λ c. c < clerk_count) lettered) (λ x r. r)
saying head.Stopped = so_makes End (λ u. shown.Stopped) (λ u. ⊤) IsShowable so_end (λ u r. tt)
saying head.Started = so_makes End (λ u. shown.Started) (λ u. ⊤) IsShowable so_end (λ u r. tt)
saying head.Nothing = so_makes End (λ u. shown.Nothing) (λ u. ⊤) IsShowable so_end (λ u r. tt)
saying head.Unsettled = so_makes End (λ u. shown.Unsettled) (λ u. ⊤) IsShowable so_end (λ u r. tt)
saying head.Bad = so_makes (IsSmallNumber ▸ Marked (codes "col") (Last IsSmallNumber)) (λ x. shown.Bad x.0 x.1) (λ x. (x.0 < 2 ^ 32) × (x.1 < 2 ^ 32)) IsShowable (so_row IsSmallNumber (Marked (codes "col") (Last IsSmallNumber)) (λ n. n < 2 ^ 32) (λ n. n < 2 ^ 32) small (so_marked (codes "col") (Last IsSmallNumber) (λ n. n < 2 ^ 32) (so_last IsSmallNumber (λ n. n < 2 ^ 32) small))) (λ x r. r)
saying head.Disk = so_makes (Marked (codes "bad") (Last IsNumber)) shown.DiskBad (λ n. n < 2 ^ 64) IsShowable (so_marked (codes "bad") (Last IsNumber) (λ n. n < 2 ^ 64) (so_last IsNumber (λ n. n < 2 ^ 64) large)) (λ x r. r)
saying head.Limit = so_makes (IsLimit ▸ Last IsNumber) (λ x. shown.Limit x.0 x.1) (λ x. ⊤ × (x.1 < 2 ^ 64)) IsShowable (so_row IsLimit (Last IsNumber) (λ n. ⊤) (λ n. n < 2 ^ 64) (any_word IsLimit) (so_last IsNumber (λ n. n < 2 ^ 64) large)) (λ x r. r.1)
saying head.Spent = so_makes (Last IsCounter) shown.Spent (λ c. ⊤) IsShowable (so_last IsCounter (λ c. ⊤) (any_word IsCounter)) (λ x r. tt)

called : (n c : ℕ) (a : Call) (o : Outcome) → n < 2 ^ 32 → c < clerk_count → ShowableCall a → OutcomeSo o → IsShowable (asked_line n c a o)
called n c a outcome.Waits ln lc g t = ((ln, lc), g)
called n c a (outcome.Answered answer op) ln lc g t = (((ln, lc), g), t)

abbrev FirstSo : First → Type 0
FirstSo (inl n) = n < 2 ^ 32
FirstSo (inr h) = ⊤

first_so : WordSo IsFirst FirstSo
first_so w (inl n) g = small w n g
first_so w (inr h) g = tt

beginning : (f : First) → FirstSo f → So (Begun f) IsShowable
beginning (inl n) lt = so_makes (IsClerk ▸ SpellsAsked) (λ x. asked_line n x.0 x.1.0 x.1.1) (λ x. (x.0 < clerk_count) × AskedSo x.1) IsShowable (so_row IsClerk SpellsAsked (λ c. c < clerk_count) AskedSo lettered asked_so) (λ x r. called n x.0 x.1.0 x.1.1 lt r.0 r.1.0 r.1.1)
beginning (inr h) q = saying h

pub in_ranges : (bytes : List ℕ) (s : Shown) → IsShown bytes s → IsShowable s
in_ranges bytes s g = so_choice IsFirst Begun FirstSo IsShowable first_so beginning (words_of bytes) s g
