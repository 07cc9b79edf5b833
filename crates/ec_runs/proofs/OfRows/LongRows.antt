-- Tests for long transcripts: of lines that fit together, and of calls that are answered ok.
use Rattle.std.proofs.Common.{◌==◌, ◌≡◌, refl, sym, ap, subst, append-nil, append_assoc, take-append-drop, take, drop, ◌∙◌, ◌+◌, ℕ, T, Bool, true, false, not, ◌&&◌, ◌||◌, List, [], ◌∷◌, ◌++◌, length, Some, is_some, eqb, eqb→eq}
use Rattle.std.specs.Bool.{OnTrue}
use Rattle.std.specs.List.{filter, list_all}
use Rattle.ec_volume.specs.Update.{member}
use Rattle.ec_plain.specs.Walk.{Path}
use Rattle.ec_plain.specs.declared.call.Call.{Call}
use Rattle.ec_plain.specs.declared.call.Call.TheVariants as call
use Rattle.ec_plain.specs.declared.call.Reply.{Reply}
use Rattle.ec_plain.specs.declared.call.Reply.TheVariants as reply
use Rattle.ec_plain.specs.declared.call.Outcome.{Outcome}
use Rattle.ec_history.specs.declared.entry.Answer.TheVariants as answer
use Rattle.ec_history.specs.declared.entry.Entry.{Entry}
use Rattle.ec_history.specs.declared.entry.Entry.TheVariants as entry
use Rattle.ec_history.specs.declared.shown.Shown.{Shown}
use Rattle.ec_history.specs.declared.shown.Shown.TheVariants.{Waits, Answered, Durable}
use Rattle.ec_history.specs.History.{Base, History, Throughout, kept, outcome, due}
use Rattle.ec_history.specs.Legal.{IsLegal, IsLegalNext, is_op_of}
use Rattle.ec_history.specs.Placing.{EachLine, Agrees, Unanswered, MayFollow, ArePlaceable, shows, may_show, begun, watch}
use Rattle.ec_runs.proofs.OfRows.Tests.{throughout}
use Rattle.ec_base.proofs.Bools.{first as left, right}

-- Calls of one path.

abbrev same_bytes : List ℕ → List ℕ → Bool
same_bytes [] [] = true
same_bytes [] (y ∷ ys) = false
same_bytes (x ∷ xs) [] = false
same_bytes (x ∷ xs) (y ∷ ys) = eqb x y && same_bytes xs ys

bytes-same : (xs ys : List ℕ) → T (same_bytes xs ys) → xs ≡ ys
bytes-same [] [] h = refl
bytes-same [] (y ∷ ys) h = absurd h
bytes-same (x ∷ xs) [] h = absurd h
bytes-same (x ∷ xs) (y ∷ ys) h = ap (λ z. z ∷ xs) (eqb→eq x y (left _ _ h)) ∙ ap (λ zs. y ∷ zs) (bytes-same xs ys (right _ _ h))

abbrev same_names : Path → Path → Bool
same_names [] [] = true
same_names [] (y ∷ ys) = false
same_names (x ∷ xs) [] = false
same_names (x ∷ xs) (y ∷ ys) = same_bytes x y && same_names xs ys

names-same : (xs ys : Path) → T (same_names xs ys) → xs ≡ ys
names-same [] [] h = refl
names-same [] (y ∷ ys) h = absurd h
names-same (x ∷ xs) [] h = absurd h
names-same (x ∷ xs) (y ∷ ys) h = ap (λ z. z ∷ xs) (bytes-same x y (left _ _ h)) ∙ ap (λ zs. y ∷ zs) (names-same xs ys (right _ _ h))

-- the same call, where it makes or lists
abbrev same_call : Call → Call → Bool
same_call (call.Mkdir p) (call.Mkdir q) = same_names p q
same_call (call.Create p) (call.Create q) = same_names p q
same_call (call.List p) (call.List q) = same_names p q
same_call _ _ = false

call-same : (a b : Call) → T (same_call a b) → a ≡ b
call-same (call.Mkdir p) (call.Mkdir q) h = ap call.Mkdir (names-same p q h)
call-same (call.Create p) (call.Create q) h = ap call.Create (names-same p q h)
call-same (call.List p) (call.List q) h = ap call.List (names-same p q h)
call-same _ _ h = absurd h

-- Lines.

abbrev agrees : ℕ → ℕ → Call → Shown → Bool
agrees l c cl (Waits k d dl) = not (k == l) || (eqb d c && same_call dl cl)
agrees l c cl (Answered k d dl a op) = not (k == l) || (eqb d c && same_call dl cl)
agrees l c cl _ = true

agree : (l c : ℕ) (cl : Call) (k d : ℕ) (dl : Call) → T (not (k == l) || (eqb d c && same_call dl cl)) → OnTrue (k == l) ((d ≡ c) × (dl ≡ cl))
agree l c cl k d dl h = go (k == l) h
  where
    go : (b : Bool) → T (not b || (eqb d c && same_call dl cl)) → OnTrue b ((d ≡ c) × (dl ≡ cl))
    go true t = (eqb→eq d c (left _ _ t), call-same dl cl (right _ _ t))
    go false t = tt

each-agrees : (l c : ℕ) (cl : Call) (past : List Shown) → T (list_all (agrees l c cl) past) → EachLine (Agrees l c cl) past
each-agrees l c cl [] h = tt
each-agrees l c cl (s ∷ ss) h = (one s (left _ _ h), each-agrees l c cl ss (right _ _ h))
  where
    one : (s : Shown) → T (agrees l c cl s) → Agrees l c cl s
    one (Waits k d dl) t = agree l c cl k d dl t
    one (Answered k d dl a op) t = agree l c cl k d dl t
    one _ t = tt

abbrev unanswered : ℕ → Shown → Bool
unanswered l (Answered k d dl a op) = not (k == l)
unanswered l _ = true

each-unanswered : (l : ℕ) (past : List Shown) → T (list_all (unanswered l) past) → EachLine (Unanswered l) past
each-unanswered l [] h = tt
each-unanswered l (s ∷ ss) h = (one s (left _ _ h), each-unanswered l ss (right _ _ h))
  where
    none : (b : Bool) → T (not b) → b ≡ false
    none true t = absurd t
    none false t = refl

    one : (s : Shown) → T (unanswered l s) → Unanswered l s
    one (Answered k d dl a op) t = none (k == l) t
    one _ t = tt

-- the line may follow these, where it waits, answers or makes durable
abbrev may_follow : List Shown → Shown → Bool
may_follow past (Waits l c cl) = list_all (agrees l c cl) past
may_follow past (Answered l c cl a op) = list_all (agrees l c cl) past && (list_all (unanswered l) past && (not (shows cl a) || may_show (begun (watch c past))))
may_follow past (Durable c ns) = list_all (λ n. member n (watch c past).undurable) ns
may_follow past _ = false

follows : (past : List Shown) (s : Shown) → T (may_follow past s) → MayFollow past s
follows past (Waits l c cl) t = each-agrees l c cl past t
follows past (Answered l c cl a op) t = (each-agrees l c cl past (left _ _ t), each-unanswered l past (left _ _ (right (list_all (agrees l c cl) past) _ t)), right (list_all (unanswered l) past) _ (right (list_all (agrees l c cl) past) _ t))
follows past (Durable c ns) t = t
follows past _ t = absurd t

abbrev pub are_placeable : List Shown → List Shown → Bool
are_placeable past [] = true
are_placeable past (s ∷ ss) = may_follow past s && are_placeable (past ++ s ∷ []) ss

pub placeable_by_test : (past ss : List Shown) → T (are_placeable past ss) → ArePlaceable past ss
placeable_by_test past [] t = tt
placeable_by_test past (s ∷ ss) t = (follows past s (left _ _ t), placeable_by_test (past ++ s ∷ []) ss (right _ _ t))

-- Calls that are answered ok.

abbrev is_ok : Reply → Bool
is_ok reply.Ok = true
is_ok _ = false

ok-is : (r : Reply) → T (is_ok r) → reply.Ok ≡ r
ok-is reply.Ok t = refl
ok-is _ t = absurd t

abbrev is_empty : List ℕ → Bool
is_empty [] = true
is_empty (n ∷ ns) = false

empty-is : (ns : List ℕ) → T (is_empty ns) → ns ≡ []
empty-is [] t = refl
empty-is (n ∷ ns) t = absurd t

true-is : (b : Bool) → T b → true ≡ b
true-is true t = refl
true-is false t = absurd t

-- the entry is a call that is answered ok and has an operation
abbrev pub answers_ok : Base → History → ℕ × Entry → Bool
answers_ok base past (p, entry.Call c b l begun cl (answer.Reply reply.Ok) (Some n)) =
    let out = outcome base (kept base past) p cl in
    eqb n (length (filter (is_op_of c b) past) + 1) && (is_empty (due base past c b p cl) && (is_ok out.reply && is_some out.update))
answers_ok base past _ = false

legal-ok : (base : Base) (most : ℕ) (past : History) (e : ℕ × Entry) → T (answers_ok base past e) → IsLegalNext base most past e
legal-ok base most past (p, entry.Call c b l begun cl (answer.Reply reply.Ok) (Some n)) t =
    let out : Outcome = outcome base (kept base past) p cl in
    let rest = right (eqb n (length (filter (is_op_of c b) past) + 1)) _ t in
    let done = right (is_empty (due base past c b p cl)) _ rest in
    record {
      number = eqb→eq n _ (left _ _ t);
      report = empty-is (due base past c b p cl) (left _ _ rest);
      room = tt;
      reply = (ok-is out.reply (left _ _ done), true-is (is_some out.update) (right (is_ok out.reply) _ done));
    }
legal-ok base most past _ t = absurd t

-- A history of n such calls, and then others.
pub legal_by_test : (base : Base) (most n : ℕ) (h : History) → T (throughout (answers_ok base) [] (take n h)) → Throughout (IsLegalNext base most) (take n h) (drop n h) → IsLegal base most h
legal_by_test base most n h t rest = subst (λ k. IsLegal base most k) (take-append-drop n h) (join [] (take n h) (drop n h) t rest)
  where
    join : (past h more : History) → T (throughout (answers_ok base) past h) → Throughout (IsLegalNext base most) (past ++ h) more → Throughout (IsLegalNext base most) past (h ++ more)
    join past [] more t rest = subst (λ hs. Throughout (IsLegalNext base most) hs more) (append-nil past) rest
    join past (d ∷ h) more t rest = (legal-ok base most past d (left _ _ t), join (past ++ d ∷ []) h more (right _ _ t) (subst (λ hs. Throughout (IsLegalNext base most) hs more) (sym (append_assoc past (d ∷ []) h)) rest))
