-- What is read is what is printed: the text of answers, calls and lines.
use Rattle.std.proofs.Common.{◌≡◌, inl, inr, ℕ, zero, suc, ◌≤◌, ◌+◌, ◌-◌, ◌^◌, List, [], ◌∷◌, ◌++◌, length, Option, None, Some, true, refl, sym, ap, subst, ◌∙◌, append_assoc, arith}
use Rattle.std.proofs.lemmas.Bool.{ne_eqb}
use Rattle.std.specs.Prelude.{codes}
use Rattle.std.specs.List.{flat_map}
use Rattle.std.specs.Fmt.{decimal}
use Rattle.ec_base.specs.declared.counter.Counter.{Counter}
use Rattle.ec_base.specs.declared.counter.Counter.TheVariants as counter
use Rattle.ec_history.specs.declared.entry.Answer.TheVariants as answer
use Rattle.ec_history.specs.declared.shown.Shown.{Shown}
use Rattle.ec_history.specs.declared.shown.Shown.TheVariants as shown
use Rattle.ec_history.specs.declared.shown.LimitName.{LimitName}
use Rattle.ec_history.specs.declared.shown.LimitName.TheVariants as limit
use Rattle.ec_plain.specs.Bounds.{max_read_bytes}
use Rattle.ec_plain.specs.Walk.{Path}
use Rattle.ec_plain.specs.declared.call.Call.{Call}
use Rattle.ec_plain.specs.declared.call.Call.TheVariants as call
use Rattle.ec_plain.specs.declared.call.Refusal.{Refusal}
use Rattle.ec_plain.specs.declared.call.Refusal.TheVariants as refusal
use Rattle.ec_plain.specs.declared.call.Reply.TheVariants as reply
use Rattle.ec_volume.specs.Limits.{max_ordered}
use Rattle.ec_volume.specs.declared.image.Kind.{Kind}
use Rattle.ec_volume.specs.declared.image.Kind.TheVariants as kind
use Rattle.ec_words.specs.OfText.Pieces.{escaped, path_text, octal, clerk_text, next_number, numbers_text}
use Rattle.ec_words.specs.OfText.Calls.{call_text, next_path}
use Rattle.ec_words.specs.OfText.Answers.{refusal_text, kind_text, data_text, next_name, owner_text, answered_text}
use Rattle.ec_words.specs.OfText.Lines.{limit_text, counter_text, shown_line}
use Rattle.ec_words.specs.Words.{words_of}
use Rattle.ec_words.specs.declared.name.Verb.{Verb}
use Rattle.ec_words.specs.declared.name.Verb.TheVariants as verb
use Rattle.ec_words.specs.Rows.{Word, ◌▸◌, End, Last, ◌⊳◌}
use Rattle.ec_words.specs.Spelling.{IsClerk, IsSmallNumber, IsNumber, IsCount, IsMode, IsVerb, verb_name}
use Rattle.ec_shown.specs.declared.answer.Outcome.{Outcome}
use Rattle.ec_shown.specs.declared.answer.Outcome.TheVariants as outcome
use Rattle.ec_shown.specs.declared.name.Head.{Head}
use Rattle.ec_shown.specs.declared.name.Head.TheVariants as head
use Rattle.ec_shown.specs.declared.name.Said.{Said}
use Rattle.ec_shown.specs.declared.name.Said.TheVariants as said
use Rattle.ec_shown.specs.declared.name.Why.{Why}
use Rattle.ec_shown.specs.declared.name.Why.TheVariants as why
use Rattle.ec_shown.specs.Spelling.{IsWritten, IsTextOf, IsNameText, IsPathShown, IsPlace, IsOwner, IsAbove, IsKindName, IsLimit, IsCounter, IsSaid, IsWhy, head_name, said_name, why_name}
use Rattle.ec_shown.specs.Rows.{Marked, Tail, Times, Rises, SpellsList}
use Rattle.ec_shown.specs.Answers.{TextOf, Refuses, Sized, Stamped, Moded, Properties, shown_owner, stat_reply, Tells, SpellsOutcome}
use Rattle.ec_shown.specs.Calls.{Asked, PathsThen, Paths, OnPath, Asks, SpellsAsked}
use Rattle.ec_shown.specs.Lines.{First, IsFirst, Begun, Says, asked_line, SpellsShown, IsShown}
use Rattle.ec_shown.proofs.Spaced.{spaced, clean, all_clean, spaced-words_of, Shows, Text, Behind, text_end, text_row, text_last, text_choice, behind_makes}
use Rattle.ec_shown.proofs.Words.{text_shown, path_shown, number_shown, clerk_shown, mode_shown}
use Rattle.ec_base.proofs.Bools.{and_both as both}

-- Words.

small_number : Shows IsSmallNumber decimal
small_number w n g = number_shown 0 (2 ^ 32 - 1) w n (omega arith) g

number : Shows IsNumber decimal
number w n g = number_shown 0 (2 ^ 64 - 1) w n (omega arith) g

count : Shows IsCount decimal
count w n g = number_shown 0 max_read_bytes w n (omega arith) g

place : Shows IsPlace decimal
place w n g = number_shown 0 255 w n (omega arith) g

owner : Shows IsOwner decimal
owner w n g = number_shown 1 (2 ^ 32 - 1) w n (omega arith) g

above : (last : ℕ) → Shows (IsAbove last) decimal
above last w n g = number_shown (last + 1) (2 ^ 64 - 1) w n (omega arith) g

written : Shows IsWritten escaped
written w bytes g = text_shown w bytes g.0

text_of : (n : ℕ) → Shows (IsTextOf n) escaped
text_of n w bytes g = text_shown w bytes g.0

name_text : Shows IsNameText escaped
name_text w name g = text_shown w name g.0

clerk : Shows IsClerk clerk_text
clerk w c g = clerk_shown w c g

-- a name of a table
named : {V : Type 0} (f : V → Word) → ((v : V) → clean (f v) ≡ true) → (w : Word) (v : V) → w ≡ f v → (w ≡ f v) × (clean w ≡ true)
named f c w v e = (e, subst (λ u. clean u ≡ true) (sym e) (c v))

clean_why : (v : Why) → clean (why_name v) ≡ true
clean_why why.NotFound = refl
clean_why why.NotDir = refl
clean_why why.IsDir = refl
clean_why why.Exists = refl
clean_why why.NotEmpty = refl
clean_why why.TooLong = refl
clean_why why.DirFull = refl
clean_why why.Root = refl
clean_why why.Loop = refl

clean_kind : (v : Kind) → clean (kind_text v) ≡ true
clean_kind kind.File = refl
clean_kind kind.Dir = refl

clean_limit : (v : LimitName) → clean (limit_text v) ≡ true
clean_limit limit.Bytes = refl
clean_limit limit.Lines = refl
clean_limit limit.Pending = refl

clean_counter : (v : Counter) → clean (counter_text v) ≡ true
clean_counter counter.Boot = refl
clean_counter counter.Session = refl
clean_counter counter.Epoch = refl
clean_counter counter.Number = refl
clean_counter counter.Op = refl
clean_counter counter.Batch = refl
clean_counter counter.CallNo = refl
clean_counter counter.Ask = refl
clean_counter counter.Pass = refl
clean_counter counter.Id = refl
clean_counter counter.Round = refl

clean_said : (v : Said) → clean (said_name v) ≡ true
clean_said said.Waits = refl
clean_said said.Ok = refl
clean_said said.Data = refl
clean_said said.Stat = refl
clean_said said.Names = refl
clean_said said.Refused = refl
clean_said said.NoRoom = refl
clean_said said.Lost = refl

clean_head : (v : Head) → clean (head_name v) ≡ true
clean_head head.Durable = refl
clean_head head.Ended = refl
clean_head head.Unseen = refl
clean_head head.Told = refl
clean_head head.Crashed = refl
clean_head head.Stopped = refl
clean_head head.Started = refl
clean_head head.Nothing = refl
clean_head head.Unsettled = refl
clean_head head.Bad = refl
clean_head head.Disk = refl
clean_head head.Limit = refl
clean_head head.Spent = refl

clean_verb : (v : Verb) → clean (verb_name v) ≡ true
clean_verb verb.Mkdir = refl
clean_verb verb.Create = refl
clean_verb verb.Write = refl
clean_verb verb.SetLen = refl
clean_verb verb.Read = refl
clean_verb verb.Chmod = refl
clean_verb verb.Touch = refl
clean_verb verb.Stat = refl
clean_verb verb.List = refl
clean_verb verb.Remove = refl
clean_verb verb.Rmdir = refl
clean_verb verb.Rename = refl
clean_verb verb.Fsync = refl
clean_verb verb.Forder = refl
clean_verb verb.Sync = refl
clean_verb verb.Chown = refl

-- Rows.

text_marked : {X : Type 0} (mark : Word) (G : List Word → X → Type 0) (t : X → List ℕ) → clean mark ≡ true → Text G t → Text (Marked mark G) (λ x. 32 ∷ (mark ++ t x))
text_marked mark G t c q [] x g = absurd g
text_marked mark G t c q (w ∷ ws) x g =
    let b = q ws x g.1 in
    (ap (λ u. 32 ∷ (u ++ spaced ws)) g.0 ∙ ap (λ u. 32 ∷ (mark ++ u)) b.0, both (clean w) (all_clean ws) (subst (λ u. clean u ≡ true) (sym g.0) c) b.1)

abbrev tail_text : {V : Type 0} → Word → (V → Word) → Option V → List ℕ
tail_text mark f None = []
tail_text mark f (Some v) = 32 ∷ (mark ++ (32 ∷ f v))

text_tail : {V : Type 0} (mark : Word) (P : Word → V → Type 0) (f : V → Word) → clean mark ≡ true → Shows P f → Text (Tail mark P) (tail_text mark f)
text_tail mark P f c p [] o g = (ap (tail_text mark f) (sym g), refl)
text_tail mark P f c p (w ∷ ws) None g = absurd g
text_tail mark P f c p (w ∷ ws) (Some v) g =
    let b = text_last P f p ws v g.1 in
    (ap (λ u. 32 ∷ (u ++ spaced ws)) g.0 ∙ ap (λ u. 32 ∷ (mark ++ u)) b.0, both (clean w) (all_clean ws) (subst (λ u. clean u ≡ true) (sym g.0) c) b.1)

text_rises : (last : ℕ) → Text (Rises last) (flat_map next_number)
text_rises last [] ops g = (ap (flat_map next_number) (sym g), refl)
text_rises last (w ∷ ws) [] g = absurd g
text_rises last (w ∷ ws) (op ∷ ops) g =
    let a = above last w op g.0 in
    let b = text_rises op ws ops g.1 in
    (ap (λ u. 32 ∷ (u ++ spaced ws)) a.0 ∙ ap (λ u. 32 ∷ (decimal op ++ u)) b.0, both (clean w) (all_clean ws) a.1 b.1)

text_list : Text SpellsList (λ ops. 32 ∷ numbers_text ops)
text_list [] ops g = absurd g
text_list (w ∷ ws) [] g = (ap (λ u. 32 ∷ (u ++ spaced ws)) g.0 ∙ ap (λ u. 32 ∷ (codes "-" ++ spaced u)) g.1, both (clean w) (all_clean ws) (subst (λ u. clean u ≡ true) (sym g.0) refl) (ap all_clean g.1))
text_list (w ∷ ws) (op ∷ ops) g =
    let a = number w op g.0 in
    let b = text_rises op ws ops g.1 in
    (ap (λ u. 32 ∷ (u ++ spaced ws)) a.0 ∙ ap (λ u. 32 ∷ (decimal op ++ u)) b.0, both (clean w) (all_clean ws) a.1 b.1)

-- Answers.

-- a text by its length
text_data : (n : ℕ) (ws : List Word) (bytes : List ℕ) → TextOf n ws bytes → ((n ≡ length bytes) × (spaced ws ≡ data_text bytes)) × (all_clean ws ≡ true)
text_data zero ws bytes g = let e : [] ≡ bytes = g.1.1 in ((ap length e, ap spaced g.1.0 ∙ ap data_text e), ap all_clean g.1.0)
text_data (suc n) [] bytes g = absurd g
text_data (suc n) (w ∷ ws) [] g = absurd (omega (arith, g.0.1))
text_data (suc n) (w ∷ ws) (b ∷ bytes) g =
    let a = text_last (IsTextOf (suc n)) escaped (text_of (suc n)) (w ∷ ws) (b ∷ bytes) g in
    ((sym g.0.1, a.0), a.1)

abbrev data_shown : List ℕ → List ℕ
data_shown bytes = 32 ∷ (decimal (length bytes) ++ data_text bytes)

behind_length : (n : ℕ) → Behind (decimal n) (TextOf n) data_shown
behind_length n ws bytes g =
    let a = text_data n ws bytes g in
    (ap (λ u. 32 ∷ (decimal n ++ u)) a.0.1 ∙ ap (λ m. 32 ∷ (decimal m ++ data_text bytes)) a.0.0, a.1)

text_data_row : Text (IsNumber ⊳ TextOf) data_shown
text_data_row = text_choice IsNumber decimal TextOf data_shown number behind_length

text_times : (n : ℕ) (ws : List Word) (names : List (List ℕ)) → Times IsNameText n ws names → ((n ≡ length names) × (spaced ws ≡ flat_map next_name names)) × (all_clean ws ≡ true)
text_times zero ws names g = ((ap length (sym g.1), ap spaced g.0 ∙ ap (flat_map next_name) (sym g.1)), ap all_clean g.0)
text_times (suc n) [] names g = absurd g
text_times (suc n) (w ∷ ws) [] g = absurd g
text_times (suc n) (w ∷ ws) (name ∷ names) g =
    let a = name_text w name g.0 in
    let b = text_times n ws names g.1 in
    ((ap suc b.0.0, ap (λ u. 32 ∷ (u ++ spaced ws)) a.0 ∙ ap (λ u. 32 ∷ (escaped name ++ u)) b.0.1), both (clean w) (all_clean ws) a.1 b.1)

abbrev names_shown : List (List ℕ) → List ℕ
names_shown names = 32 ∷ (decimal (length names) ++ flat_map next_name names)

behind_count : (n : ℕ) → Behind (decimal n) (Times IsNameText n) names_shown
behind_count n ws names g =
    let a = text_times n ws names g in
    (ap (λ u. 32 ∷ (decimal n ++ u)) a.0.1 ∙ ap (λ m. 32 ∷ (decimal m ++ flat_map next_name names)) a.0.0, a.1)

text_names_row : Text (IsNumber ⊳ Times IsNameText) names_shown
text_names_row = text_choice IsNumber decimal (Times IsNameText) names_shown number behind_count

abbrev refusal_shown : Refusal → List ℕ
refusal_shown y = 32 ∷ refusal_text y

refuses : (y : Why) → Behind (why_name y) (Refuses y) refusal_shown
refuses why.NotFound = behind_makes (why_name why.NotFound) (Last IsPlace) refusal.NotFound (λ v. 32 ∷ decimal v) refusal_shown (text_last IsPlace decimal place) (λ x. refl)
refuses why.NotDir = behind_makes (why_name why.NotDir) (Last IsPlace) refusal.NotDir (λ v. 32 ∷ decimal v) refusal_shown (text_last IsPlace decimal place) (λ x. refl)
refuses why.IsDir = behind_makes (why_name why.IsDir) End (λ u. refusal.IsDir) (λ u. []) refusal_shown text_end (λ x. refl)
refuses why.Exists = behind_makes (why_name why.Exists) End (λ u. refusal.Exists) (λ u. []) refusal_shown text_end (λ x. refl)
refuses why.NotEmpty = behind_makes (why_name why.NotEmpty) End (λ u. refusal.NotEmpty) (λ u. []) refusal_shown text_end (λ x. refl)
refuses why.TooLong = behind_makes (why_name why.TooLong) End (λ u. refusal.TooLong) (λ u. []) refusal_shown text_end (λ x. refl)
refuses why.DirFull = behind_makes (why_name why.DirFull) End (λ u. refusal.DirFull) (λ u. []) refusal_shown text_end (λ x. refl)
refuses why.Root = behind_makes (why_name why.Root) End (λ u. refusal.Root) (λ u. []) refusal_shown text_end (λ x. refl)
refuses why.Loop = behind_makes (why_name why.Loop) End (λ u. refusal.Loop) (λ u. []) refusal_shown text_end (λ x. refl)

text_refused : Text (IsWhy ⊳ Refuses) refusal_shown
text_refused = text_choice IsWhy why_name Refuses refusal_shown (named why_name clean_why) refuses

some_owner : (v : ℕ) → 1 ≤ v → (codes " owner " ++ decimal v) ≡ owner_text v
some_owner v le = rw (ne_eqb v 0 (λ e. omega (arith, le, e))) refl

owner_fits : (ws : List Word) (o : Option ℕ) → Tail (codes "owner") IsOwner ws o → tail_text (codes "owner") decimal o ≡ owner_text (shown_owner o)
owner_fits ws None g = refl
owner_fits [] (Some v) g = absurd cc
owner_fits (w ∷ []) (Some v) g = absurd g.1
owner_fits (w ∷ u ∷ us) (Some v) g = some_owner v g.1.0.1.0

text_owner : Text (Tail (codes "owner") IsOwner) (λ o. owner_text (shown_owner o))
text_owner ws o g =
    let a = text_tail (codes "owner") IsOwner decimal refl owner ws o g in
    (a.0 ∙ owner_fits ws o g, a.1)

abbrev sized_text : ℕ × Option ℕ → List ℕ
sized_text x = 32 ∷ (decimal x.0 ++ owner_text (shown_owner x.1))

abbrev stamped_text : ℕ × (ℕ × Option ℕ) → List ℕ
stamped_text x = 32 ∷ (decimal x.0 ++ sized_text x.1)

abbrev moded_text : ℕ × (ℕ × (ℕ × Option ℕ)) → List ℕ
moded_text x = 32 ∷ (octal x.0 ++ stamped_text x.1)

abbrev properties_text : Kind × (ℕ × (ℕ × (ℕ × Option ℕ))) → List ℕ
properties_text x = 32 ∷ (kind_text x.0 ++ moded_text x.1)

text_properties : Text Properties properties_text
text_properties = text_row IsKindName kind_text Moded moded_text (named kind_text clean_kind) (text_row IsMode octal Stamped stamped_text mode_shown (text_row IsNumber decimal Sized sized_text number (text_row IsSmallNumber decimal (Tail (codes "owner") IsOwner) (λ o. owner_text (shown_owner o)) small_number text_owner)))

-- what became of a call, behind `->`
abbrev told_text : Outcome → List ℕ
told_text outcome.Waits = codes " waits"
told_text (outcome.Answered a op) = 32 ∷ answered_text a op

abbrev outcome_text : Outcome → List ℕ
outcome_text o = codes " ->" ++ told_text o

op_shown : (op : Option ℕ) → (32 ∷ (codes "ok" ++ tail_text (codes "op") decimal op)) ≡ told_text (outcome.Answered (answer.Reply reply.Ok) op)
op_shown None = refl
op_shown (Some n) = refl

stat_shown : (x : Kind × (ℕ × (ℕ × (ℕ × Option ℕ)))) → (32 ∷ (codes "stat" ++ properties_text x)) ≡ told_text (outcome.Answered (answer.Reply (stat_reply x)) None)
stat_shown x = simp append_assoc

tells : (s : Said) → Behind (said_name s) (Tells s) told_text
tells said.Waits = behind_makes (said_name said.Waits) End (λ u. outcome.Waits) (λ u. []) told_text text_end (λ x. refl)
tells said.Ok = behind_makes (said_name said.Ok) (Tail (codes "op") IsNumber) (outcome.Answered (answer.Reply reply.Ok)) (tail_text (codes "op") decimal) told_text (text_tail (codes "op") IsNumber decimal refl number) op_shown
tells said.Data = behind_makes (said_name said.Data) (IsNumber ⊳ TextOf) (λ bytes. outcome.Answered (answer.Reply (reply.Data bytes)) None) data_shown told_text text_data_row (λ x. simp append_assoc)
tells said.Stat = behind_makes (said_name said.Stat) Properties (λ x. outcome.Answered (answer.Reply (stat_reply x)) None) properties_text told_text text_properties stat_shown
tells said.Names = behind_makes (said_name said.Names) (IsNumber ⊳ Times IsNameText) (λ names. outcome.Answered (answer.Reply (reply.Names names)) None) names_shown told_text text_names_row (λ x. simp append_assoc)
tells said.Refused = behind_makes (said_name said.Refused) (IsWhy ⊳ Refuses) (λ why. outcome.Answered (answer.Reply (reply.Refused why)) None) refusal_shown told_text text_refused (λ x. refl)
tells said.NoRoom = behind_makes (said_name said.NoRoom) (IsSmallNumber ▸ Last IsSmallNumber) (λ x. outcome.Answered (answer.NoRoom x.0 x.1) None) (λ x. 32 ∷ (decimal x.0 ++ (32 ∷ decimal x.1))) told_text (text_row IsSmallNumber decimal (Last IsSmallNumber) (λ v. 32 ∷ decimal v) small_number (text_last IsSmallNumber decimal small_number)) (λ x. simp append_assoc)
tells said.Lost = behind_makes (said_name said.Lost) SpellsList (λ ops. outcome.Answered (answer.Lost ops) None) (λ ops. 32 ∷ numbers_text ops) told_text text_list (λ x. refl)

text_outcome : Text SpellsOutcome outcome_text
text_outcome = text_marked (codes "->") (IsSaid ⊳ Tells) told_text refl (text_choice IsSaid said_name Tells told_text (named said_name clean_said) tells)

-- Calls.

abbrev asked_shown : Asked → List ℕ
asked_shown x = 32 ∷ (call_text x.0 ++ outcome_text x.1)

text_paths : (n : ℕ) (ws : List Word) (ps : List Path) (o : Outcome) → PathsThen n ws ps o → (spaced ws ≡ flat_map next_path ps ++ outcome_text o) × (all_clean ws ≡ true)
text_paths n [] ps o g = absurd g
text_paths n (w ∷ ws) [] o g = text_outcome (w ∷ ws) o g
text_paths zero (w ∷ ws) (p ∷ ps) o g = absurd g
text_paths (suc n) (w ∷ ws) (p ∷ ps) o g =
    let a = path_shown w p g.0 in
    let b = text_paths n ws ps o g.1 in
    (ap (λ u. 32 ∷ (u ++ spaced ws)) a.0 ∙ ap (λ u. 32 ∷ (path_text p ++ u)) b.0 ∙ ap (λ u. 32 ∷ u) (sym (append_assoc (path_text p) (flat_map next_path ps) (outcome_text o))), both (clean w) (all_clean ws) a.1 b.1)

abbrev on_path : Path × Outcome → List ℕ
on_path x = 32 ∷ (path_text x.0 ++ outcome_text x.1)

text_on_path : Text OnPath on_path
text_on_path = text_row IsPathShown path_text SpellsOutcome outcome_text path_shown text_outcome

abbrev with_one : (ℕ → Word) → Path × (ℕ × Outcome) → List ℕ
with_one f x = 32 ∷ (path_text x.0 ++ (32 ∷ (f x.1.0 ++ outcome_text x.1.1)))

text_with_one : (P : Word → ℕ → Type 0) (f : ℕ → Word) → Shows P f → Text (IsPathShown ▸ P ▸ SpellsOutcome) (with_one f)
text_with_one P f p = text_row IsPathShown path_text (P ▸ SpellsOutcome) _ path_shown (text_row P f SpellsOutcome outcome_text p text_outcome)

abbrev with_two : {V : Type 0} → (V → Word) → Path × (ℕ × (V × Outcome)) → List ℕ
with_two f x = 32 ∷ (path_text x.0 ++ (32 ∷ (decimal x.1.0 ++ (32 ∷ (f x.1.1.0 ++ outcome_text x.1.1.1)))))

text_with_two : {V : Type 0} (P : Word → V → Type 0) (f : V → Word) → Shows P f → Text (IsPathShown ▸ IsSmallNumber ▸ P ▸ SpellsOutcome) (with_two f)
text_with_two P f p = text_row IsPathShown path_text (IsSmallNumber ▸ P ▸ SpellsOutcome) _ path_shown (text_row IsSmallNumber decimal (P ▸ SpellsOutcome) _ small_number (text_row P f SpellsOutcome outcome_text p text_outcome))

abbrev paths_text : Path × (List Path × Outcome) → List ℕ
paths_text x = 32 ∷ (path_text x.0 ++ (flat_map next_path x.1.0 ++ outcome_text x.1.1))

text_ordered : Text (IsPathShown ▸ Paths (max_ordered - 1)) paths_text
text_ordered = text_row IsPathShown path_text (Paths (max_ordered - 1)) (λ x. flat_map next_path x.0 ++ outcome_text x.1) path_shown (λ ws x g. text_paths (max_ordered - 1) ws x.0 x.1 g)

text_renamed : Text (IsPathShown ▸ OnPath) (λ x. 32 ∷ (path_text x.0 ++ on_path x.1))
text_renamed = text_row IsPathShown path_text OnPath on_path path_shown text_on_path

asks : (v : Verb) → Behind (verb_name v) (Asks v) asked_shown
asks verb.Mkdir = behind_makes (verb_name verb.Mkdir) (OnPath) (λ x. (call.Mkdir x.0, x.1)) (on_path) asked_shown (text_on_path) (λ x. simp append_assoc)
asks verb.Create = behind_makes (verb_name verb.Create) (OnPath) (λ x. (call.Create x.0, x.1)) (on_path) asked_shown (text_on_path) (λ x. simp append_assoc)
asks verb.Write = behind_makes (verb_name verb.Write) (IsPathShown ▸ IsSmallNumber ▸ IsWritten ▸ SpellsOutcome) (λ x. (call.Write x.0 x.1.0 x.1.1.0, x.1.1.1)) (with_two escaped) asked_shown (text_with_two IsWritten escaped written) (λ x. simp append_assoc)
asks verb.SetLen = behind_makes (verb_name verb.SetLen) (IsPathShown ▸ IsSmallNumber ▸ SpellsOutcome) (λ x. (call.SetLen x.0 x.1.0, x.1.1)) (with_one decimal) asked_shown (text_with_one IsSmallNumber decimal small_number) (λ x. simp append_assoc)
asks verb.Read = behind_makes (verb_name verb.Read) (IsPathShown ▸ IsSmallNumber ▸ IsCount ▸ SpellsOutcome) (λ x. (call.Read x.0 x.1.0 x.1.1.0, x.1.1.1)) (with_two decimal) asked_shown (text_with_two IsCount decimal count) (λ x. simp append_assoc)
asks verb.Chmod = behind_makes (verb_name verb.Chmod) (IsPathShown ▸ IsMode ▸ SpellsOutcome) (λ x. (call.Chmod x.0 x.1.0, x.1.1)) (with_one octal) asked_shown (text_with_one IsMode octal mode_shown) (λ x. simp append_assoc)
asks verb.Touch = behind_makes (verb_name verb.Touch) (IsPathShown ▸ IsNumber ▸ SpellsOutcome) (λ x. (call.Touch x.0 x.1.0, x.1.1)) (with_one decimal) asked_shown (text_with_one IsNumber decimal number) (λ x. simp append_assoc)
asks verb.Stat = behind_makes (verb_name verb.Stat) (OnPath) (λ x. (call.Stat x.0, x.1)) (on_path) asked_shown (text_on_path) (λ x. simp append_assoc)
asks verb.List = behind_makes (verb_name verb.List) (OnPath) (λ x. (call.List x.0, x.1)) (on_path) asked_shown (text_on_path) (λ x. simp append_assoc)
asks verb.Remove = behind_makes (verb_name verb.Remove) (OnPath) (λ x. (call.Remove x.0, x.1)) (on_path) asked_shown (text_on_path) (λ x. simp append_assoc)
asks verb.Rmdir = behind_makes (verb_name verb.Rmdir) (OnPath) (λ x. (call.Rmdir x.0, x.1)) (on_path) asked_shown (text_on_path) (λ x. simp append_assoc)
asks verb.Rename = behind_makes (verb_name verb.Rename) (IsPathShown ▸ OnPath) (λ x. (call.Rename x.0 x.1.0, x.1.1)) (λ x. 32 ∷ (path_text x.0 ++ on_path x.1)) asked_shown (text_renamed) (λ x. simp append_assoc)
asks verb.Fsync = behind_makes (verb_name verb.Fsync) (OnPath) (λ x. (call.Fsync x.0, x.1)) (on_path) asked_shown (text_on_path) (λ x. simp append_assoc)
asks verb.Forder = behind_makes (verb_name verb.Forder) (IsPathShown ▸ Paths (max_ordered - 1)) (λ x. (call.Forder (x.0 ∷ x.1.0), x.1.1)) (paths_text) asked_shown (text_ordered) (λ x. simp append_assoc)
asks verb.Sync = behind_makes (verb_name verb.Sync) (SpellsOutcome) (λ o. (call.Sync, o)) (outcome_text) asked_shown (text_outcome) (λ x. refl)
asks verb.Chown = behind_makes (verb_name verb.Chown) (IsPathShown ▸ IsSmallNumber ▸ SpellsOutcome) (λ x. (call.Chown x.0 x.1.0, x.1.1)) (with_one decimal) asked_shown (text_with_one IsSmallNumber decimal small_number) (λ x. simp append_assoc)

text_asked : Text SpellsAsked asked_shown
text_asked = text_choice IsVerb verb_name Asks asked_shown (named verb_name clean_verb) asks

-- Lines.

abbrev line_shown : Shown → List ℕ
line_shown s = 32 ∷ shown_line s

abbrev clerk_ops : ℕ × List ℕ → List ℕ
clerk_ops x = 32 ∷ (clerk_text x.0 ++ (32 ∷ numbers_text x.1))

abbrev clerk_lost : ℕ × List ℕ → List ℕ
clerk_lost x = 32 ∷ (clerk_text x.0 ++ (32 ∷ (codes "lost" ++ (32 ∷ numbers_text x.1))))

text_lost : Text (IsClerk ▸ Marked (codes "lost") SpellsList) clerk_lost
text_lost = text_row IsClerk clerk_text (Marked (codes "lost") SpellsList) (λ ops. 32 ∷ (codes "lost" ++ (32 ∷ numbers_text ops))) clerk (text_marked (codes "lost") SpellsList (λ ops. 32 ∷ numbers_text ops) refl text_list)

says : (h : Head) → Behind (head_name h) (Says h) line_shown
says head.Durable = behind_makes (head_name head.Durable) (IsClerk ▸ SpellsList) (λ x. shown.Durable x.0 x.1) clerk_ops line_shown (text_row IsClerk clerk_text SpellsList (λ ops. 32 ∷ numbers_text ops) clerk text_list) (λ x. simp append_assoc)
says head.Ended = behind_makes (head_name head.Ended) (IsClerk ▸ Marked (codes "lost") SpellsList) (λ x. shown.Ended x.0 x.1) clerk_lost line_shown text_lost (λ x. simp append_assoc)
says head.Unseen = behind_makes (head_name head.Unseen) (Last IsClerk) shown.Unseen (λ c. 32 ∷ clerk_text c) line_shown (text_last IsClerk clerk_text clerk) (λ x. refl)
says head.Told = behind_makes (head_name head.Told) (IsClerk ▸ Marked (codes "lost") SpellsList) (λ x. shown.Told x.0 x.1) clerk_lost line_shown text_lost (λ x. simp append_assoc)
says head.Crashed = behind_makes (head_name head.Crashed) (Last IsClerk) shown.Crashed (λ c. 32 ∷ clerk_text c) line_shown (text_last IsClerk clerk_text clerk) (λ x. refl)
says head.Stopped = behind_makes (head_name head.Stopped) End (λ u. shown.Stopped) (λ u. []) line_shown text_end (λ x. refl)
says head.Started = behind_makes (head_name head.Started) End (λ u. shown.Started) (λ u. []) line_shown text_end (λ x. refl)
says head.Nothing = behind_makes (head_name head.Nothing) End (λ u. shown.Nothing) (λ u. []) line_shown text_end (λ x. refl)
says head.Unsettled = behind_makes (head_name head.Unsettled) End (λ u. shown.Unsettled) (λ u. []) line_shown text_end (λ x. refl)
says head.Bad = behind_makes (head_name head.Bad) (IsSmallNumber ▸ Marked (codes "col") (Last IsSmallNumber)) (λ x. shown.Bad x.0 x.1) (λ x. 32 ∷ (decimal x.0 ++ (32 ∷ (codes "col" ++ (32 ∷ decimal x.1))))) line_shown (text_row IsSmallNumber decimal (Marked (codes "col") (Last IsSmallNumber)) (λ v. 32 ∷ (codes "col" ++ (32 ∷ decimal v))) small_number (text_marked (codes "col") (Last IsSmallNumber) (λ v. 32 ∷ decimal v) refl (text_last IsSmallNumber decimal small_number))) (λ x. simp append_assoc)
says head.Disk = behind_makes (head_name head.Disk) (Marked (codes "bad") (Last IsNumber)) shown.DiskBad (λ v. 32 ∷ (codes "bad" ++ (32 ∷ decimal v))) line_shown (text_marked (codes "bad") (Last IsNumber) (λ v. 32 ∷ decimal v) refl (text_last IsNumber decimal number)) (λ x. refl)
says head.Limit = behind_makes (head_name head.Limit) (IsLimit ▸ Last IsNumber) (λ x. shown.Limit x.0 x.1) (λ x. 32 ∷ (limit_text x.0 ++ (32 ∷ decimal x.1))) line_shown (text_row IsLimit limit_text (Last IsNumber) (λ v. 32 ∷ decimal v) (named limit_text clean_limit) (text_last IsNumber decimal number)) (λ x. simp append_assoc)
says head.Spent = behind_makes (head_name head.Spent) (Last IsCounter) shown.Spent (λ v. 32 ∷ counter_text v) line_shown (text_last IsCounter counter_text (named counter_text clean_counter)) (λ x. refl)

call_line : (n c : ℕ) (a : Call) (o : Outcome) → (32 ∷ (decimal n ++ (32 ∷ (clerk_text c ++ asked_shown (a, o))))) ≡ line_shown (asked_line n c a o)
call_line n c a outcome.Waits = simp append_assoc
call_line n c a (outcome.Answered answer op) = simp append_assoc

abbrev first_word : First → Word
first_word (inl n) = decimal n
first_word (inr h) = head_name h

first_shown : Shows IsFirst first_word
first_shown w (inl n) g = small_number w n g
first_shown w (inr h) g = named head_name clean_head w h g

begun : (f : First) → Behind (first_word f) (Begun f) line_shown
begun (inl n) = behind_makes (decimal n) (IsClerk ▸ SpellsAsked) (λ x. asked_line n x.0 x.1.0 x.1.1) (λ x. 32 ∷ (clerk_text x.0 ++ asked_shown x.1)) line_shown (text_row IsClerk clerk_text SpellsAsked asked_shown clerk text_asked) (λ x. call_line n x.0 x.1.0 x.1.1)
begun (inr h) = says h

pub text_line : Text SpellsShown line_shown
text_line = text_choice IsFirst first_word Begun line_shown first_shown begun

behind_one : (a b : List ℕ) → 32 ∷ a ≡ 32 ∷ b → a ≡ b
behind_one a b e = cc

pub printed_so : (bytes : List ℕ) (s : Shown) → IsShown bytes s → bytes ≡ shown_line s
printed_so bytes s g = behind_one bytes (shown_line s) (sym (spaced-words_of bytes) ∙ (text_line (words_of bytes) s g).0)
