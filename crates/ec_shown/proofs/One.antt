-- Words spell one line.
use Rattle.std.proofs.Common.{◌≡◌, inl, inr, ℕ, zero, suc, ◌+◌, ◌-◌, ◌^◌, List, [], ◌∷◌, None, Some, get_or, refl, sym, ap, subst, ◌∙◌, arith}
use Rattle.std.specs.Prelude.{codes}
use Rattle.std.specs.Fmt.{decimal}
use Rattle.ec_base.specs.Names.{path_names}
use Rattle.ec_plain.specs.Bounds.{max_read_bytes}
use Rattle.ec_plain.specs.Walk.{Path}
use Rattle.ec_volume.specs.Limits.{max_ordered}
use Rattle.ec_words.specs.declared.name.Verb.{Verb}
use Rattle.ec_words.specs.declared.name.Verb.TheVariants as verb
use Rattle.ec_words.specs.Rows.{Word, ◌▸◌, Last, ◌⊳◌}
use Rattle.ec_words.specs.Spelling.{IsClerk, IsSmallNumber, IsNumber, IsCount, IsMode, IsVerb}
use Rattle.ec_words.proofs.Named.{verb_once}
use Rattle.ec_words.proofs.Once.{row_once, end_once}
use Rattle.ec_words.proofs.OneCall.{Single, OneValue, last_once, makes_once, choice_row_once, in_range_once, mode_once, small, number}
use Rattle.ec_script.proofs.Heads.{clerk_once}
use Rattle.ec_shown.specs.declared.answer.Outcome.{Outcome}
use Rattle.ec_shown.specs.declared.name.Head.{Head}
use Rattle.ec_shown.specs.declared.name.Head.TheVariants as head
use Rattle.ec_shown.specs.declared.name.Said.{Said}
use Rattle.ec_shown.specs.declared.name.Said.TheVariants as said
use Rattle.ec_shown.specs.declared.name.Why.{Why}
use Rattle.ec_shown.specs.declared.name.Why.TheVariants as why
use Rattle.ec_shown.specs.Spelling.{written_of, IsWritten, IsTextOf, IsNameText, IsPathShown, IsPlace, IsOwner, IsAbove, IsKindName, IsLimit, IsCounter, IsSaid, IsWhy}
use Rattle.ec_shown.specs.Rows.{Marked, Tail, Times, Rises, SpellsList}
use Rattle.ec_shown.specs.Answers.{TextOf, Refuses, Sized, Stamped, Moded, Properties, Tells, SpellsOutcome}
use Rattle.ec_shown.specs.Calls.{PathsThen, Paths, OnPath, Asks, SpellsAsked}
use Rattle.ec_shown.specs.Lines.{First, Begun, Says, IsFirst, SpellsShown}
use Rattle.ec_shown.proofs.Named.{said_once, why_once, kind_once, limit_once, counter_once}
use Rattle.ec_shown.proofs.Ordered.{no_path}
use Rattle.ec_shown.proofs.Firsts.{digit_first, first_once}
use Rattle.ec_base.proofs.Options.{some_once}

-- Rows.

marked_once : {X : Type 0} (mark : Word) (G : List Word → X → Type 0) → OneValue G → OneValue (Marked mark G)
marked_once mark G one [] x y g h = absurd g
marked_once mark G one (w ∷ ws) x y g h = one ws x y g.1 h.1

tail_once : {V : Type 0} (mark : Word) (P : Word → V → Type 0) → Single P → OneValue (Tail mark P)
tail_once mark P one [] x y g h = g ∙ sym h
tail_once mark P one (w ∷ ws) None y g h = absurd g
tail_once mark P one (w ∷ ws) (Some u) None g h = absurd h
tail_once mark P one (w ∷ ws) (Some u) (Some v) g h = ap Some (last_once P one ws u v g.1 h.1)

times_once : {V : Type 0} (P : Word → V → Type 0) → Single P → (n : ℕ) → OneValue (Times P n)
times_once P one zero ws us vs g h = g.1 ∙ sym h.1
times_once P one (suc n) [] us vs g h = absurd g
times_once P one (suc n) (w ∷ ws) [] vs g h = absurd g
times_once P one (suc n) (w ∷ ws) (u ∷ us) [] g h = absurd h
times_once P one (suc n) (w ∷ ws) (u ∷ us) (v ∷ vs) g h = ap (λ x. x ∷ us) (one w u v g.0 h.0) ∙ ap (λ xs. v ∷ xs) (times_once P one n ws us vs g.1 h.1)

-- Operations.

above_once : (last : ℕ) → Single (IsAbove last)
above_once last = in_range_once (last + 1) (2 ^ 64 - 1) (omega arith)

rises_once : (last : ℕ) → OneValue (Rises last)
rises_once last [] xs ys g h = g ∙ sym h
rises_once last (w ∷ ws) [] ys g h = absurd g
rises_once last (w ∷ ws) (x ∷ xs) [] g h = absurd h
rises_once last (w ∷ ws) (x ∷ xs) (y ∷ ys) g h =
    let e : x ≡ y = above_once last w x y g.0 h.0 in
    ap (λ n. n ∷ xs) e ∙ ap (λ ns. y ∷ ns) (rises_once y ws xs ys (subst (λ n. Rises n ws xs) e g.1) h.1)

no_digit : (w : Word) (op : ℕ) → w ≡ codes "-" → IsNumber w op → ⊥
no_digit w op m p =
    let e : 45 ≡ get_or (decimal op) 0 0 = ap (λ v. get_or v 0 0) (sym m ∙ p.0) in
    omega (arith, (digit_first op (omega (arith, p.1.1))).1.0, e)

list_once : OneValue SpellsList
list_once [] xs ys g h = absurd g
list_once (w ∷ ws) [] [] g h = refl
list_once (w ∷ ws) [] (y ∷ ys) g h = absurd (no_digit w y g.0 h.0)
list_once (w ∷ ws) (x ∷ xs) [] g h = absurd (no_digit w x h.0 g.0)
list_once (w ∷ ws) (x ∷ xs) (y ∷ ys) g h =
    let e : x ≡ y = number w x y g.0 h.0 in
    ap (λ n. n ∷ xs) e ∙ ap (λ ns. y ∷ ns) (rises_once y ws xs ys (subst (λ n. Rises n ws xs) e g.1) h.1)

-- Words.

written_once : Single IsWritten
written_once w a b g h = some_once (written_of w) a b g.0 h.0

text_once : (n : ℕ) → Single (IsTextOf n)
text_once n w a b g h = some_once (written_of w) a b g.0 h.0

name_once : Single IsNameText
name_once w a b g h = some_once (written_of w) a b g.0 h.0

path_once : Single IsPathShown
path_once w p q g h = g.1.1.1 ∙ ap path_names (some_once (written_of w) g.0 h.0 g.1.0 h.1.0) ∙ sym h.1.1.1

place_once : Single IsPlace
place_once = in_range_once 0 255 (omega arith)

owner_once : Single IsOwner
owner_once = in_range_once 1 (2 ^ 32 - 1) (omega arith)

count_once : Single IsCount
count_once = in_range_once 0 max_read_bytes (omega arith)

-- Answers.

text_of_once : (n : ℕ) → OneValue (TextOf n)
text_of_once zero = makes_once _ _ end_once
text_of_once (suc n) = last_once (IsTextOf (suc n)) (text_once (suc n))

refuses_once : (y : Why) → OneValue (Refuses y)
refuses_once why.NotFound = makes_once _ _ (last_once IsPlace place_once)
refuses_once why.NotDir = makes_once _ _ (last_once IsPlace place_once)
refuses_once why.IsDir = makes_once _ _ end_once
refuses_once why.Exists = makes_once _ _ end_once
refuses_once why.NotEmpty = makes_once _ _ end_once
refuses_once why.TooLong = makes_once _ _ end_once
refuses_once why.DirFull = makes_once _ _ end_once
refuses_once why.Root = makes_once _ _ end_once
refuses_once why.Loop = makes_once _ _ end_once

properties_once : OneValue Properties
properties_once = row_once IsKindName Moded kind_once (row_once IsMode Stamped mode_once (row_once IsNumber Sized number (row_once IsSmallNumber _ small (tail_once (codes "owner") IsOwner owner_once))))

tells_once : (s : Said) → OneValue (Tells s)
tells_once said.Waits = makes_once _ _ end_once
tells_once said.Ok = makes_once _ _ (tail_once (codes "op") IsNumber number)
tells_once said.Data = makes_once _ _ (choice_row_once IsNumber TextOf number text_of_once)
tells_once said.Stat = makes_once _ _ properties_once
tells_once said.Names = makes_once _ _ (choice_row_once IsNumber (Times IsNameText) number (times_once IsNameText name_once))
tells_once said.Refused = makes_once _ _ (choice_row_once IsWhy Refuses why_once refuses_once)
tells_once said.NoRoom = makes_once _ _ (row_once IsSmallNumber _ small (last_once IsSmallNumber small))
tells_once said.Lost = makes_once _ _ list_once

outcome_once : OneValue SpellsOutcome
outcome_once = marked_once (codes "->") (IsSaid ⊳ Tells) (choice_row_once IsSaid Tells said_once tells_once)

-- Calls.

paths_then_once : (n : ℕ) (ws : List Word) (ps qs : List Path) (a b : Outcome) → PathsThen n ws ps a → PathsThen n ws qs b → (ps ≡ qs) × (a ≡ b)
paths_then_once n [] ps qs a b g h = absurd g
paths_then_once n (w ∷ ws) [] [] a b g h = (refl, outcome_once (w ∷ ws) a b g h)
paths_then_once zero (w ∷ ws) [] (q ∷ qs) a b g h = absurd h
paths_then_once (suc n) (w ∷ ws) [] (q ∷ qs) a b g h = absurd (no_path w q g.0 h.0)
paths_then_once zero (w ∷ ws) (p ∷ ps) qs a b g h = absurd g
paths_then_once (suc n) (w ∷ ws) (p ∷ ps) [] a b g h = absurd (no_path w p h.0 g.0)
paths_then_once (suc n) (w ∷ ws) (p ∷ ps) (q ∷ qs) a b g h =
    let r : (ps ≡ qs) × (a ≡ b) = paths_then_once n ws ps qs a b g.1 h.1 in
    (ap (λ x. x ∷ ps) (path_once w p q g.0 h.0) ∙ ap (λ xs. q ∷ xs) r.0, r.1)

paths_once : (n : ℕ) → OneValue (Paths n)
paths_once n ws x y g h =
    let r : (x.0 ≡ y.0) × (x.1 ≡ y.1) = paths_then_once n ws x.0 y.0 x.1 y.1 g h in
    ap (λ ps. (ps, x.1)) r.0 ∙ ap (λ o. (y.0, o)) r.1

on_path_once : OneValue OnPath
on_path_once = row_once IsPathShown SpellsOutcome path_once outcome_once

number_once : OneValue (IsPathShown ▸ IsSmallNumber ▸ SpellsOutcome)
number_once = row_once IsPathShown _ path_once (row_once IsSmallNumber SpellsOutcome small outcome_once)

asks_once : (v : Verb) → OneValue (Asks v)
asks_once verb.Mkdir = makes_once _ _ on_path_once
asks_once verb.Create = makes_once _ _ on_path_once
asks_once verb.Write = makes_once _ _ (row_once IsPathShown _ path_once (row_once IsSmallNumber _ small (row_once IsWritten SpellsOutcome written_once outcome_once)))
asks_once verb.SetLen = makes_once _ _ number_once
asks_once verb.Read = makes_once _ _ (row_once IsPathShown _ path_once (row_once IsSmallNumber _ small (row_once IsCount SpellsOutcome count_once outcome_once)))
asks_once verb.Chmod = makes_once _ _ (row_once IsPathShown _ path_once (row_once IsMode SpellsOutcome mode_once outcome_once))
asks_once verb.Touch = makes_once _ _ (row_once IsPathShown _ path_once (row_once IsNumber SpellsOutcome number outcome_once))
asks_once verb.Stat = makes_once _ _ on_path_once
asks_once verb.List = makes_once _ _ on_path_once
asks_once verb.Remove = makes_once _ _ on_path_once
asks_once verb.Rmdir = makes_once _ _ on_path_once
asks_once verb.Rename = makes_once _ _ (row_once IsPathShown OnPath path_once on_path_once)
asks_once verb.Fsync = makes_once _ _ on_path_once
asks_once verb.Forder = makes_once _ _ (row_once IsPathShown (Paths (max_ordered - 1)) path_once (paths_once (max_ordered - 1)))
asks_once verb.Sync = makes_once _ _ outcome_once
asks_once verb.Chown = makes_once _ _ number_once

-- Lines.

says_once : (h : Head) → OneValue (Says h)
says_once head.Durable = makes_once _ _ (row_once IsClerk SpellsList clerk_once list_once)
says_once head.Ended = makes_once _ _ (row_once IsClerk _ clerk_once (marked_once (codes "lost") SpellsList list_once))
says_once head.Unseen = makes_once _ _ (last_once IsClerk clerk_once)
says_once head.Told = makes_once _ _ (row_once IsClerk _ clerk_once (marked_once (codes "lost") SpellsList list_once))
says_once head.Crashed = makes_once _ _ (last_once IsClerk clerk_once)
says_once head.Stopped = makes_once _ _ end_once
says_once head.Started = makes_once _ _ end_once
says_once head.Nothing = makes_once _ _ end_once
says_once head.Unsettled = makes_once _ _ end_once
says_once head.Bad = makes_once _ _ (row_once IsSmallNumber _ small (marked_once (codes "col") (Last IsSmallNumber) (last_once IsSmallNumber small)))
says_once head.Disk = makes_once _ _ (marked_once (codes "bad") (Last IsNumber) (last_once IsNumber number))
says_once head.Limit = makes_once _ _ (row_once IsLimit _ limit_once (last_once IsNumber number))
says_once head.Spent = makes_once _ _ (last_once IsCounter counter_once)

begun_once : (f : First) → OneValue (Begun f)
begun_once (inl n) = makes_once _ _ (row_once IsClerk SpellsAsked clerk_once (choice_row_once IsVerb Asks verb_once asks_once))
begun_once (inr h) = says_once h

pub shown_once : OneValue SpellsShown
shown_once = choice_row_once IsFirst Begun first_once begun_once
