-- What is printed is read back: words for each line that can be shown.
use Rattle.std.proofs.Common.{◌≡◌, inl, inr, ℕ, zero, suc, ◌<◌, ◌≤◌, ◌+◌, ◌*◌, ◌-◌, ◌^◌, ◌%◌, ◌/◌, List, [], ◌∷◌, ◌++◌, length, Option, None, Some, true, false, refl, sym, ap, subst, ◌∙◌, arith}
use Rattle.std.proofs.lemmas.Iterator.Adapters.{position_from-zero}
use Rattle.std.proofs.lemmas.List.{append-nil}
use Rattle.std.proofs.lemmas.List.Elements.{All-nil, All-cons}
use Rattle.std.proofs.lemmas.List.Splits.{slice_split_none, slice_split_at}
use Rattle.std.proofs.lemmas.Bool.{and_from, leb-true, le-leb, ltb-true, ltb-false, lt-ltb, eqb-true, or_parts, false_from_ne_true}
use Rattle.std.specs.Prelude.{◌&&◌, nat_le, nat_lt, eqb, ltb, cond, if◌then◌else◌, codes}
use Rattle.std.specs.List.{All, flat_map, slice_split, position, position_from}
use Rattle.std.specs.Fmt.{decimal}
use Rattle.ec_base.specs.Limits.{clerk_count, max_path_names, max_name_bytes}
use Rattle.ec_base.specs.Names.{IsName, is_bad, is_slash, fault_in_text, names_fault, path_names}
use Rattle.ec_base.specs.declared.name.NameFault.TheVariants as fault
use Rattle.ec_history.specs.declared.entry.Answer.{Answer}
use Rattle.ec_history.specs.declared.entry.Answer.TheVariants as answer
use Rattle.ec_history.specs.declared.shown.Shown.{Shown}
use Rattle.ec_history.specs.declared.shown.Shown.TheVariants as shown
use Rattle.ec_plain.specs.Bounds.{max_read_bytes}
use Rattle.ec_plain.specs.Walk.{Path}
use Rattle.ec_plain.specs.declared.call.Call.{Call}
use Rattle.ec_plain.specs.declared.call.Call.TheVariants as call
use Rattle.ec_plain.specs.declared.call.Refusal.{Refusal}
use Rattle.ec_plain.specs.declared.call.Refusal.TheVariants as refusal
use Rattle.ec_plain.specs.declared.call.Reply.{Reply}
use Rattle.ec_plain.specs.declared.call.Reply.TheVariants as reply
use Rattle.ec_words.specs.OfText.Answers.{kind_text}
use Rattle.ec_words.specs.OfText.Lines.{limit_text, counter_text, shown_line}
use Rattle.ec_words.specs.OfText.Pieces.{hex_digit, escaped, octal}
use Rattle.ec_volume.specs.Limits.{max_mode, max_ordered}
use Rattle.ec_words.specs.Rows.{Word, ◌▸◌, End, Last, ◌⊳◌, ◌makes◌}
use Rattle.ec_words.specs.Spelling.{IsNumberIn, IsClerk, IsSmallNumber, IsNumber, IsMode, is_octal, hex_byte, led_by}
use Rattle.ec_words.specs.declared.name.Verb.TheVariants as verb
use Rattle.ec_shown.specs.declared.answer.Outcome.{Outcome}
use Rattle.ec_shown.specs.declared.answer.Outcome.TheVariants as outcome
use Rattle.ec_shown.specs.declared.name.Head.TheVariants as head
use Rattle.ec_shown.specs.declared.name.Said.TheVariants as said
use Rattle.ec_shown.specs.declared.name.Why.TheVariants as why
use Rattle.ec_shown.specs.Spelling.{is_plain, bare_byte, upper_digit, unless_plain, escape_of, written_of, IsNameText, IsPathShown, IsPlace, IsOwner, IsAbove, IsSaid, IsWhy}
use Rattle.ec_shown.specs.Rows.{Marked, Tail, Times, Rises, SpellsList}
use Rattle.ec_shown.specs.Answers.{TextOf, Refuses, shown_owner, Tells, SpellsOutcome}
use Rattle.ec_shown.specs.Calls.{PathsThen, Paths, OnPath, SpellsAsked}
use Rattle.ec_shown.specs.Lines.{asked_line, SpellsShown, IsShown}
use Rattle.ec_shown.specs.Showable.{AreBytes, AreNames, IsPathOf, ArePaths, RiseFrom, IsRising, ShowableCall, ShowableRefusal, ShowableReply, ShowableAnswer, ShowableAnswered, IsShowable}
use Rattle.ec_shown.proofs.Escapes.{bare_next}
use Rattle.ec_shown.proofs.Spaced.{words_of_spaced}
use Rattle.ec_shown.proofs.Printed.{text_line}

-- Texts.

-- a digit that is written is read
low_read : (d : ℕ) → d < 10 → upper_digit (hex_digit d) ≡ Some d
low_read d lt = rw (lt-ltb d 10 lt, le-leb 48 (48 + d) (omega arith), le-leb (48 + d) 57 (omega (arith, lt))) (ap Some (omega arith))

high_read : (d : ℕ) → 10 ≤ d → d < 16 → upper_digit (hex_digit d) ≡ Some d
high_read d le lt =
    let large : nat_lt d 10 ≡ false = false_from_ne_true (nat_lt d 10) (λ t. let low : d < 10 = ltb-true d 10 t in omega (arith, le, low)) in
    let above : nat_le (55 + d) 57 ≡ false = false_from_ne_true (nat_le (55 + d) 57) (λ t. let low : 55 + d ≤ 57 = leb-true (55 + d) 57 t in omega (arith, le, low)) in
    rw (large, le-leb 48 (55 + d) (omega arith), above, le-leb 65 (55 + d) (omega (arith, le)), le-leb (55 + d) 70 (omega (arith, lt))) (ap Some (omega arith))

digit_read : (d : ℕ) → d < 16 → upper_digit (hex_digit d) ≡ Some d
digit_read d lt =
    elim (nat_lt d 10) as (λ t. (nat_lt d 10 ≡ t) → upper_digit (hex_digit d) ≡ Some d) [
      | true ↦ λ s. low_read d (ltb-true d 10 s)
      | false ↦ λ s. high_read d (ltb-false d 10 s) lt
    ] refl

escape_read : (b : ℕ) → b < 2 ^ 8 → is_plain b ≡ false → escape_of (hex_digit (b / 16)) (hex_digit (b % 16)) ≡ Some b
escape_read b lt s =
    let high : upper_digit (hex_digit (b / 16)) ≡ Some (b / 16) = digit_read (b / 16) (omega (arith, lt)) in
    let low : upper_digit (hex_digit (b % 16)) ≡ Some (b % 16) = digit_read (b % 16) (omega arith) in
    let whole : b / 16 * 16 + b % 16 ≡ b = omega arith in
    ap (λ o. unless_plain (hex_byte o (upper_digit (hex_digit (b % 16))))) high ∙ ap (λ o. unless_plain (hex_byte (Some (b / 16)) o)) low ∙ ap (λ x. unless_plain (Some x)) whole ∙ rw s refl

percent_next : (h l : ℕ) (ws : Word) → written_of (37 ∷ h ∷ l ∷ ws) ≡ led_by (escape_of h l) (written_of ws)
percent_next h l ws = refl

percent_plain : is_plain 37 ≡ true → ⊥
percent_plain e = cc

plain_not_percent : (b : ℕ) → is_plain b ≡ true → eqb b 37 ≡ false
plain_not_percent b s = false_from_ne_true (eqb b 37) (λ t. let e : b ≡ 37 = eqb-true b 37 t in absurd (percent_plain (subst (λ x. is_plain x ≡ true) e s)))

pub text_read : (bytes : List ℕ) → AreBytes bytes → written_of (escaped bytes) ≡ Some bytes
text_read [] g = refl
text_read (b ∷ bs) g =
    let ih : written_of (escaped bs) ≡ Some bs = text_read bs g.1 in
    elim (is_plain b) as (λ t. (is_plain b ≡ t) → written_of ((if t then b ∷ [] else 37 ∷ hex_digit (b / 16) ∷ hex_digit (b % 16) ∷ []) ++ escaped bs) ≡ Some (b ∷ bs)) [
      | true ↦ λ s. bare_next b (escaped bs) (plain_not_percent b s) ∙ ap (λ o. led_by (bare_byte b) o) ih ∙ rw s refl
      | false ↦ λ s. ap (λ o. led_by o (written_of (escaped bs))) (escape_read b g.0 s) ∙ ap (λ o. led_by (Some b) o) ih
    ] refl

-- Paths.

abbrev no_slash : List ℕ → Type 0
no_slash n = All (λ b. is_slash b ≡ false) n

none_bad : (k : ℕ) (bs : List ℕ) → position_from is_bad k bs ≡ None → no_slash bs
none_bad k [] e = All-nil (λ b. is_slash b ≡ false)
none_bad k (b ∷ bs) e =
    elim (is_bad b) as (λ t. (is_bad b ≡ t) → cond t (Some k) (position_from is_bad (k + 1) bs) ≡ None → no_slash (b ∷ bs)) [
      | true ↦ λ s f. absurd cc
      | false ↦ λ s f. All-cons (λ x. is_slash x ≡ false) b bs (or_parts (is_slash b) (eqb b 0) s).0 (none_bad (k + 1) bs f)
    ] refl e

not_bad : (n : List ℕ) (o : Option ℕ) → position is_bad n ≡ o → fault_in_text n o ≡ None → position is_bad n ≡ None
not_bad n None e f = e
not_bad n (Some k) e f = absurd cc

name_clean : (n : List ℕ) → IsName n → no_slash n
name_clean n g =
    elim (eqb (length n) 0) as (λ t. (if t then Some fault.Empty else (if ltb max_name_bytes (length n) then Some fault.Long else fault_in_text n (position is_bad n))) ≡ None → no_slash n) [
      | true ↦ λ f. absurd cc
      | false ↦ λ f. elim (ltb max_name_bytes (length n)) as (λ t. (if t then Some fault.Long else fault_in_text n (position is_bad n)) ≡ None → no_slash n) [
        | true ↦ λ h. absurd cc
        | false ↦ λ h. none_bad 0 n (sym (position_from-zero is_bad n) ∙ not_bad n (position is_bad n) refl h)
      ] f
    ] g

abbrev slashed : List ℕ → List ℕ
slashed n = 47 ∷ n

split_joined : (n : List ℕ) (ns : Path) → IsName n → AreNames ns → slice_split is_slash (n ++ flat_map slashed ns) ≡ n ∷ ns
split_joined n [] g h = ap (slice_split is_slash) (append-nil n) ∙ slice_split_none is_slash n (name_clean n g)
split_joined n (m ∷ ns) g h = slice_split_at is_slash n 47 (m ++ flat_map slashed ns) (name_clean n g) refl ∙ ap (λ ps. n ∷ ps) (split_joined m ns h.0.0 h.1)

names_fit : (before : ℕ) (ns : Path) → AreNames ns → before + length ns ≤ max_path_names → names_fault before ns ≡ None
names_fit before [] g le = refl
names_fit before (n ∷ ns) g le = rw (lt-ltb before max_path_names (omega (arith, le)), g.0.0) (names_fit (before + 1) ns g.1 (omega (arith, le)))

abbrev path_bytes : Path → List ℕ
path_bytes [] = 47 ∷ []
path_bytes (n ∷ ns) = flat_map slashed (n ∷ ns)

joined_names : (n : List ℕ) (ns : Path) → IsName n → AreNames ns → path_names (47 ∷ (n ++ flat_map slashed ns)) ≡ n ∷ ns
joined_names [] ns g h = absurd cc
joined_names (b ∷ bs) ns g h = split_joined (b ∷ bs) ns g h

joined_bytes : (n : List ℕ) → AreBytes n → (rest : List ℕ) → AreBytes rest → AreBytes (n ++ rest)
joined_bytes [] g rest h = h
joined_bytes (b ∷ bs) g rest h = (g.0, joined_bytes bs g.1 rest h)

path_are_bytes : (ns : Path) → AreNames ns → AreBytes (flat_map slashed ns)
path_are_bytes [] g = tt
path_are_bytes (n ∷ ns) g = (omega arith, joined_bytes n g.0.1 (flat_map slashed ns) (path_are_bytes ns g.1))

-- Words.

abbrev Has : {V : Type 0} → (Word → V → Type 0) → V → Type 0
Has P v = (w : Word) × P w v

path_has : (p : Path) → IsPathOf p → Has IsPathShown p
path_has [] g = (codes "/", (codes "/", (refl, (refl, refl))))
path_has (n ∷ ns) g =
    let names : path_names (path_bytes (n ∷ ns)) ≡ n ∷ ns = joined_names n ns g.1.0.0 g.1.1 in
    (escaped (path_bytes (n ∷ ns)), (path_bytes (n ∷ ns), (text_read (path_bytes (n ∷ ns)) (path_are_bytes (n ∷ ns) g.1), (ap (names_fault 0) names ∙ names_fit 0 (n ∷ ns) g.1 (omega (arith, g.0)), sym names))))

number_has : (least most n : ℕ) → least ≤ n → n ≤ most → Has (IsNumberIn least most) n
number_has least most n a b = (decimal n, (refl, (a, b)))

small_has : (n : ℕ) → n < 2 ^ 32 → Has IsSmallNumber n
small_has n lt = number_has 0 (2 ^ 32 - 1) n (omega arith) (omega (arith, lt))

large_has : (n : ℕ) → n < 2 ^ 64 → Has IsNumber n
large_has n lt = number_has 0 (2 ^ 64 - 1) n (omega arith) (omega (arith, lt))

clerk_has : (c : ℕ) → c < clerk_count → Has IsClerk c
clerk_has c lt = ((65 + c) ∷ [], (refl, lt))

octal_digit : (n : ℕ) → n < 8 → is_octal (48 + n) ≡ true
octal_digit n lt = and_from (nat_le 48 (48 + n)) (nat_le (48 + n) 55) (le-leb 48 (48 + n) (omega arith)) (le-leb (48 + n) 55 (omega (arith, lt)))

mode_has : (m : ℕ) → m ≤ max_mode → Has IsMode m
mode_has m le =
    let a : is_octal (48 + m / 512 % 8) ≡ true = octal_digit (m / 512 % 8) (omega arith) in
    let b : is_octal (48 + m / 64 % 8) ≡ true = octal_digit (m / 64 % 8) (omega arith) in
    let c : is_octal (48 + m / 8 % 8) ≡ true = octal_digit (m / 8 % 8) (omega arith) in
    let d : is_octal (48 + m % 8) ≡ true = octal_digit (m % 8) (omega arith) in
    let all : (is_octal (48 + m / 512 % 8) && is_octal (48 + m / 64 % 8) && is_octal (48 + m / 8 % 8) && is_octal (48 + m % 8)) ≡ true = and_from _ _ (and_from _ _ (and_from _ _ a b) c) d in
    let value : (48 + m / 512 % 8 - 48) * 512 + (48 + m / 64 % 8 - 48) * 64 + (48 + m / 8 % 8 - 48) * 8 + (48 + m % 8 - 48) ≡ m = omega (arith, le) in
    (octal m, ap (λ t. if t then Some ((48 + m / 512 % 8 - 48) * 512 + (48 + m / 64 % 8 - 48) * 64 + (48 + m / 8 % 8 - 48) * 8 + (48 + m % 8 - 48)) else None) all ∙ ap Some value)

-- Rows.

abbrev Spelt : {X : Type 0} → (List Word → X → Type 0) → X → Type 0
Spelt G x = (ws : List Word) × G ws x

row : {V X : Type 0} (P : Word → V → Type 0) (G : List Word → X → Type 0) (v : V) (x : X) → Has P v → Spelt G x → Spelt (P ▸ G) (v, x)
row P G v x h s = (h.0 ∷ s.0, (h.1, s.1))

last : {V : Type 0} (P : Word → V → Type 0) (v : V) → Has P v → Spelt (Last P) v
last P v h = (h.0 ∷ [], (h.1, refl))

the_end : Spelt End tt
the_end = ([], refl)

made_of : {X Y : Type 0} (G : List Word → X → Type 0) (f : X → Y) (x : X) → Spelt G x → Spelt (G makes f) (f x)
made_of G f x s = (s.0, (x, (s.1, refl)))

choice : {V X : Type 0} (P : Word → V → Type 0) (F : V → List Word → X → Type 0) (v : V) (x : X) → Has P v → Spelt (F v) x → Spelt (P ⊳ F) x
choice P F v x h s = (h.0 ∷ s.0, (v, (h.1, s.1)))

marked : {X : Type 0} (mark : Word) (G : List Word → X → Type 0) (x : X) → Spelt G x → Spelt (Marked mark G) x
marked mark G x s = (mark ∷ s.0, (refl, s.1))

rising : (first : ℕ) (ops : List ℕ) → RiseFrom first ops → Spelt (Rises first) ops
rising first [] g = ([], refl)
rising first (op ∷ ops) g =
    let h : Has (IsAbove first) op = number_has (first + 1) (2 ^ 64 - 1) op (omega (arith, g.0.0)) (omega (arith, g.0.1)) in
    let s = rising op ops g.1 in
    (h.0 ∷ s.0, (h.1, s.1))

list_spelt : (ops : List ℕ) → IsRising ops → Spelt SpellsList ops
list_spelt [] g = (codes "-" ∷ [], (refl, refl))
list_spelt (op ∷ ops) g =
    let h = large_has op g.0 in
    let s = rising op ops g.1 in
    (h.0 ∷ s.0, (h.1, s.1))

-- Answers.

text_spelt : (bytes : List ℕ) → AreBytes bytes → Spelt (TextOf (length bytes)) bytes
text_spelt [] g = ([], (tt, (refl, refl)))
text_spelt (b ∷ bs) g = (escaped (b ∷ bs) ∷ [], ((text_read (b ∷ bs) g, refl), refl))

names_spelt : (names : List (List ℕ)) → AreNames names → Spelt (Times IsNameText (length names)) names
names_spelt [] g = ([], (refl, refl))
names_spelt (n ∷ ns) g =
    let s = names_spelt ns g.1 in
    (escaped n ∷ s.0, ((text_read n g.0.1, g.0.0), s.1))

refusal_spelt : (y : Refusal) → ShowableRefusal y → Spelt (IsWhy ⊳ Refuses) y
refusal_spelt (refusal.NotFound i) g = choice IsWhy Refuses why.NotFound (refusal.NotFound i) (codes "NotFound", refl) (made_of (Last IsPlace) refusal.NotFound i (last IsPlace i (number_has 0 255 i (omega arith) (omega (arith, g)))))
refusal_spelt (refusal.NotDir i) g = choice IsWhy Refuses why.NotDir (refusal.NotDir i) (codes "NotDir", refl) (made_of (Last IsPlace) refusal.NotDir i (last IsPlace i (number_has 0 255 i (omega arith) (omega (arith, g)))))
refusal_spelt refusal.IsDir g = choice IsWhy Refuses why.IsDir refusal.IsDir (codes "IsDir", refl) (made_of End (λ u. refusal.IsDir) tt the_end)
refusal_spelt refusal.Exists g = choice IsWhy Refuses why.Exists refusal.Exists (codes "Exists", refl) (made_of End (λ u. refusal.Exists) tt the_end)
refusal_spelt refusal.NotEmpty g = choice IsWhy Refuses why.NotEmpty refusal.NotEmpty (codes "NotEmpty", refl) (made_of End (λ u. refusal.NotEmpty) tt the_end)
refusal_spelt refusal.TooLong g = choice IsWhy Refuses why.TooLong refusal.TooLong (codes "TooLong", refl) (made_of End (λ u. refusal.TooLong) tt the_end)
refusal_spelt refusal.DirFull g = choice IsWhy Refuses why.DirFull refusal.DirFull (codes "DirFull", refl) (made_of End (λ u. refusal.DirFull) tt the_end)
refusal_spelt refusal.Root g = choice IsWhy Refuses why.Root refusal.Root (codes "Root", refl) (made_of End (λ u. refusal.Root) tt the_end)
refusal_spelt refusal.Loop g = choice IsWhy Refuses why.Loop refusal.Loop (codes "Loop", refl) (made_of End (λ u. refusal.Loop) tt the_end)

owner_spelt : (owner : ℕ) → owner < 2 ^ 32 → (o : Option ℕ) × (Spelt (Tail (codes "owner") IsOwner) o × (shown_owner o ≡ owner))
owner_spelt zero lt = (None, (([], refl), refl))
owner_spelt (suc n) lt = let h : Has IsOwner (suc n) = number_has 1 (2 ^ 32 - 1) (suc n) (omega arith) (omega (arith, lt)) in (Some (suc n), ((codes "owner" ∷ h.0 ∷ [], (refl, (h.1, refl))), refl))

reply_spelt : (r : Reply) → ShowableReply r → Spelt (IsSaid ⊳ Tells) (outcome.Answered (answer.Reply r) None)
reply_spelt reply.Ok g = choice IsSaid Tells said.Ok _ (codes "ok", refl) ([], (None, (refl, refl)))
reply_spelt (reply.Data bytes) g = choice IsSaid Tells said.Data _ (codes "data", refl) (made_of (IsNumber ⊳ TextOf) (λ bs. outcome.Answered (answer.Reply (reply.Data bs)) None) bytes (choice IsNumber TextOf (length bytes) bytes (large_has (length bytes) g.1) (text_spelt bytes g.0)))
reply_spelt (reply.Stat k mode stamp owner size) g =
    let o = owner_spelt owner g.1.0 in
    let m = mode_has mode g.0.0 in
    let s = large_has stamp g.0.1 in
    let n = small_has size g.1.1 in
    (codes "stat" ∷ kind_text k ∷ m.0 ∷ s.0 ∷ n.0 ∷ o.1.0.0, (said.Stat, (refl, ((k, (mode, (stamp, (size, o.0)))), ((refl, (m.1, (s.1, (n.1, o.1.0.1)))), ap (λ w. outcome.Answered (answer.Reply (reply.Stat k mode stamp w size)) None) o.1.1)))))
reply_spelt (reply.Names names) g = choice IsSaid Tells said.Names _ (codes "names", refl) (made_of (IsNumber ⊳ Times IsNameText) (λ ns. outcome.Answered (answer.Reply (reply.Names ns)) None) names (choice IsNumber (Times IsNameText) (length names) names (large_has (length names) g.1) (names_spelt names g.0)))
reply_spelt (reply.Refused y) g = choice IsSaid Tells said.Refused _ (codes "refused", refl) (made_of (IsWhy ⊳ Refuses) (λ z. outcome.Answered (answer.Reply (reply.Refused z)) None) y (refusal_spelt y g))

answer_spelt : (a : Answer) → ShowableAnswer a → Spelt (IsSaid ⊳ Tells) (outcome.Answered a None)
answer_spelt (answer.Reply r) g = reply_spelt r g
answer_spelt (answer.NoRoom live reserved) g =
    let l = small_has live g.0 in
    let r = small_has reserved g.1 in
    (codes "noroom" ∷ l.0 ∷ r.0 ∷ [], (said.NoRoom, (refl, ((live, reserved), ((l.1, (r.1, refl)), refl)))))
answer_spelt (answer.Lost ops) g = choice IsSaid Tells said.Lost _ (codes "lost", refl) (made_of SpellsList (λ os. outcome.Answered (answer.Lost os) None) ops (list_spelt ops g))

answered_spelt : (a : Answer) (op : Option ℕ) → ShowableAnswered a op → Spelt (IsSaid ⊳ Tells) (outcome.Answered a op)
answered_spelt a None g = answer_spelt a g
answered_spelt a (Some op) g =
    let h = large_has op g.1 in
    (codes "ok" ∷ codes "op" ∷ h.0 ∷ [], (said.Ok, (refl, (Some op, ((refl, (h.1, refl)), ap (λ b. outcome.Answered b (Some op)) (sym g.0))))))

-- Calls.

no_more_paths : (n : ℕ) (ws : List Word) (o : Outcome) → SpellsOutcome ws o → PathsThen n ws [] o
no_more_paths n [] o g = absurd g
no_more_paths n (w ∷ ws) o g = g

paths_spelt : (n : ℕ) (ps : List Path) (o : Outcome) → length ps ≤ n → ArePaths ps → Spelt SpellsOutcome o → Spelt (Paths n) (ps, o)
paths_spelt n [] o le g s = (s.0, no_more_paths n s.0 o s.1)
paths_spelt zero (p ∷ ps) o le g s = absurd (omega (arith, le))
paths_spelt (suc n) (p ∷ ps) o le g s =
    let h = path_has p g.0 in
    let r = paths_spelt n ps o (omega (arith, le)) g.1 s in
    (h.0 ∷ r.0, (h.1, r.1))

on_path : (p : Path) (o : Outcome) → IsPathOf p → Spelt SpellsOutcome o → Spelt OnPath (p, o)
on_path p o g s = row IsPathShown SpellsOutcome p o (path_has p g) s

call_spelt : (a : Call) (o : Outcome) → ShowableCall a → Spelt SpellsOutcome o → Spelt SpellsAsked (a, o)
call_spelt (call.Mkdir p) o g s = let r = on_path p o g s in (codes "mkdir" ∷ r.0, (verb.Mkdir, (refl, ((p, o), (r.1, refl)))))
call_spelt (call.Create p) o g s = let r = on_path p o g s in (codes "create" ∷ r.0, (verb.Create, (refl, ((p, o), (r.1, refl)))))
call_spelt (call.Stat p) o g s = let r = on_path p o g s in (codes "stat" ∷ r.0, (verb.Stat, (refl, ((p, o), (r.1, refl)))))
call_spelt (call.List p) o g s = let r = on_path p o g s in (codes "list" ∷ r.0, (verb.List, (refl, ((p, o), (r.1, refl)))))
call_spelt (call.Remove p) o g s = let r = on_path p o g s in (codes "remove" ∷ r.0, (verb.Remove, (refl, ((p, o), (r.1, refl)))))
call_spelt (call.Rmdir p) o g s = let r = on_path p o g s in (codes "rmdir" ∷ r.0, (verb.Rmdir, (refl, ((p, o), (r.1, refl)))))
call_spelt (call.Fsync p) o g s = let r = on_path p o g s in (codes "fsync" ∷ r.0, (verb.Fsync, (refl, ((p, o), (r.1, refl)))))
call_spelt (call.Write p at bytes) o g s =
    let h = path_has p g.0.0 in
    let a = small_has at g.0.1 in
    (codes "write" ∷ h.0 ∷ a.0 ∷ escaped bytes ∷ s.0, (verb.Write, (refl, ((p, (at, (bytes, o))), ((h.1, (a.1, ((text_read bytes g.1.0, g.1.1), s.1))), refl)))))
call_spelt (call.SetLen p len) o g s = let h = path_has p g.0 in let a = small_has len g.1 in (codes "setlen" ∷ h.0 ∷ a.0 ∷ s.0, (verb.SetLen, (refl, ((p, (len, o)), ((h.1, (a.1, s.1)), refl)))))
call_spelt (call.Read p at count) o g s =
    let h = path_has p g.0.0 in
    let a = small_has at g.0.1 in
    let k = number_has 0 max_read_bytes count (omega arith) g.1 in
    (codes "read" ∷ h.0 ∷ a.0 ∷ k.0 ∷ s.0, (verb.Read, (refl, ((p, (at, (count, o))), ((h.1, (a.1, (k.1, s.1))), refl)))))
call_spelt (call.Chmod p mode) o g s = let h = path_has p g.0 in let a = mode_has mode g.1 in (codes "chmod" ∷ h.0 ∷ a.0 ∷ s.0, (verb.Chmod, (refl, ((p, (mode, o)), ((h.1, (a.1, s.1)), refl)))))
call_spelt (call.Touch p stamp) o g s = let h = path_has p g.0 in let a = large_has stamp g.1 in (codes "touch" ∷ h.0 ∷ a.0 ∷ s.0, (verb.Touch, (refl, ((p, (stamp, o)), ((h.1, (a.1, s.1)), refl)))))
call_spelt (call.Rename p q) o g s = let h = path_has p g.0 in let r = on_path q o g.1 s in (codes "rename" ∷ h.0 ∷ r.0, (verb.Rename, (refl, ((p, (q, o)), ((h.1, r.1), refl)))))
call_spelt (call.Forder []) o g s = absurd (omega (arith, g.0.0))
call_spelt (call.Forder (p ∷ ps)) o g s =
    let h = path_has p g.1.0 in
    let r = paths_spelt (max_ordered - 1) ps o (omega (arith, g.0.1)) g.1.1 s in
    (codes "forder" ∷ h.0 ∷ r.0, (verb.Forder, (refl, ((p, (ps, o)), ((h.1, r.1), refl)))))
call_spelt call.Sync o g s = (codes "sync" ∷ s.0, (verb.Sync, (refl, (o, (s.1, refl)))))
call_spelt (call.Chown p owner) o g s = let h = path_has p g.0 in let a = small_has owner g.1 in (codes "chown" ∷ h.0 ∷ a.0 ∷ s.0, (verb.Chown, (refl, ((p, (owner, o)), ((h.1, (a.1, s.1)), refl)))))

-- Lines.

called : (n c : ℕ) (a : Call) (o : Outcome) (s : Shown) → asked_line n c a o ≡ s → n < 2 ^ 32 → c < clerk_count → ShowableCall a → Spelt (IsSaid ⊳ Tells) o → Spelt SpellsShown s
called n c a o s is ln lc g t =
    let h = small_has n ln in
    let k = clerk_has c lc in
    let r = call_spelt a o g (marked (codes "->") (IsSaid ⊳ Tells) o t) in
    (h.0 ∷ k.0 ∷ r.0, (inl n, (h.1, ((c, (a, o)), ((k.1, r.1), is)))))

pub spelt : (s : Shown) → IsShowable s → Spelt SpellsShown s
spelt (shown.Waits n c a) g = called n c a outcome.Waits _ refl g.0.0 g.0.1 g.1 (codes "waits" ∷ [], (said.Waits, (refl, (tt, (refl, refl)))))
spelt (shown.Answered n c a answer op) g = called n c a (outcome.Answered answer op) _ refl g.0.0.0 g.0.0.1 g.0.1 (answered_spelt answer op g.1)
spelt (shown.Durable c ops) g = let k = clerk_has c g.0 in let s = list_spelt ops g.1 in (codes "durable" ∷ k.0 ∷ s.0, (inr head.Durable, (refl, ((c, ops), ((k.1, s.1), refl)))))
spelt (shown.Ended c ops) g = let k = clerk_has c g.0 in let s = list_spelt ops g.1 in (codes "ended" ∷ k.0 ∷ codes "lost" ∷ s.0, (inr head.Ended, (refl, ((c, ops), ((k.1, (refl, s.1)), refl)))))
spelt (shown.Unseen c) g = let k = clerk_has c g in (codes "unseen" ∷ k.0 ∷ [], (inr head.Unseen, (refl, (c, ((k.1, refl), refl)))))
spelt (shown.Told c ops) g = let k = clerk_has c g.0 in let s = list_spelt ops g.1 in (codes "told" ∷ k.0 ∷ codes "lost" ∷ s.0, (inr head.Told, (refl, ((c, ops), ((k.1, (refl, s.1)), refl)))))
spelt (shown.Crashed c) g = let k = clerk_has c g in (codes "crashed" ∷ k.0 ∷ [], (inr head.Crashed, (refl, (c, ((k.1, refl), refl)))))
spelt shown.Stopped g = (codes "stopped" ∷ [], (inr head.Stopped, (refl, (tt, (refl, refl)))))
spelt shown.Started g = (codes "started" ∷ [], (inr head.Started, (refl, (tt, (refl, refl)))))
spelt shown.Nothing g = (codes "none" ∷ [], (inr head.Nothing, (refl, (tt, (refl, refl)))))
spelt shown.Unsettled g = (codes "unsettled" ∷ [], (inr head.Unsettled, (refl, (tt, (refl, refl)))))
spelt (shown.Bad line column) g = let a = small_has line g.0 in let b = small_has column g.1 in (codes "bad" ∷ a.0 ∷ codes "col" ∷ b.0 ∷ [], (inr head.Bad, (refl, ((line, column), ((a.1, (refl, (b.1, refl))), refl)))))
spelt (shown.DiskBad place) g = let a = large_has place g in (codes "disk" ∷ codes "bad" ∷ a.0 ∷ [], (inr head.Disk, (refl, (place, ((refl, (a.1, refl)), refl)))))
spelt (shown.Limit name n) g = let a = large_has n g in (codes "limit" ∷ limit_text name ∷ a.0 ∷ [], (inr head.Limit, (refl, ((name, n), ((refl, (a.1, refl)), refl)))))
spelt (shown.Spent counter) g = (codes "spent" ∷ counter_text counter ∷ [], (inr head.Spent, (refl, (counter, ((refl, refl), refl)))))

pub read_back : (s : Shown) → IsShowable s → IsShown (shown_line s) s
read_back s g =
    let r = spelt s g in
    let t = text_line r.0 s r.1 in
    subst (λ ws. SpellsShown ws s) (sym (words_of_spaced (shown_line s) r.0 t.1 t.0)) r.1
