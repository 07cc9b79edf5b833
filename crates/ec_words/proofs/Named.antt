-- Names stand for one thing each.
use Rattle.std.proofs.Common.{◌≡◌, ◌+◌, ◌*◌, ◌≤◌, ℕ, [], ◌∷◌, length, refl, sym, ap, ◌∙◌, arith}
use Rattle.std.specs.Prelude.{codes, eqb, if◌then◌else◌}
use Rattle.ec_disk.specs.declared.disk.Choice.{Choice}
use Rattle.ec_disk.specs.declared.disk.Choice.TheVariants as choice
use Rattle.ec_wire.specs.declared.msg.MsgKind.{MsgKind}
use Rattle.ec_wire.specs.declared.msg.MsgKind.TheVariants as kind
use Rattle.ec_words.specs.declared.name.Verb.{Verb}
use Rattle.ec_words.specs.declared.name.Verb.TheVariants as verb
use Rattle.ec_words.specs.declared.name.Keyword.{Keyword}
use Rattle.ec_words.specs.declared.name.Keyword.TheVariants as keyword
use Rattle.ec_words.specs.Rows.{Word}
use Rattle.ec_words.specs.Spelling.{kind_name, choice_name, verb_name, keyword_name}

-- a number that tells the names of one table apart
abbrev pub hash : Word → ℕ
hash [] = 0
hash (b ∷ bs) = b + 7 * hash bs

abbrev pub kind_hashed : ℕ → MsgKind
kind_hashed n =
    if eqb n (hash (codes "hello")) then kind.Hello else if eqb n (hash (codes "want")) then kind.Want else if eqb n (hash (codes "back")) then kind.Back else if eqb n (hash (codes "flush")) then kind.Flush else if eqb n (hash (codes "room")) then kind.Room else if eqb n (hash (codes "claim")) then kind.Claim else if eqb n (hash (codes "bye")) then kind.Bye else if eqb n (hash (codes "opened")) then kind.Opened else if eqb n (hash (codes "grant")) then kind.Grant else if eqb n (hash (codes "recall")) then kind.Recall else if eqb n (hash (codes "kept")) then kind.Kept else if eqb n (hash (codes "ids")) then kind.Ids else if eqb n (hash (codes "noroom")) then kind.NoRoom else if eqb n (hash (codes "ended")) then kind.Ended else if eqb n (hash (codes "restarted")) then kind.Restarted else kind.OldBoot

kind_back : (x : MsgKind) → kind_hashed (hash (kind_name x)) ≡ x
kind_back kind.Hello = refl
kind_back kind.Want = refl
kind_back kind.Back = refl
kind_back kind.Flush = refl
kind_back kind.Room = refl
kind_back kind.Claim = refl
kind_back kind.Bye = refl
kind_back kind.Opened = refl
kind_back kind.Grant = refl
kind_back kind.Recall = refl
kind_back kind.Kept = refl
kind_back kind.Ids = refl
kind_back kind.NoRoom = refl
kind_back kind.Ended = refl
kind_back kind.Restarted = refl
kind_back kind.OldBoot = refl

pub kind_once : (w : Word) (x y : MsgKind) → w ≡ kind_name x → w ≡ kind_name y → x ≡ y
kind_once w x y e f = sym (kind_back x) ∙ ap (λ v. kind_hashed (hash v)) (sym e ∙ f) ∙ kind_back y

pub no_kind : (w : Word) → (w ≡ codes "hello" → ⊥) → (w ≡ codes "want" → ⊥) → (w ≡ codes "back" → ⊥) → (w ≡ codes "flush" → ⊥) → (w ≡ codes "room" → ⊥) → (w ≡ codes "claim" → ⊥) → (w ≡ codes "bye" → ⊥) → (w ≡ codes "opened" → ⊥) → (w ≡ codes "grant" → ⊥) → (w ≡ codes "recall" → ⊥) → (w ≡ codes "kept" → ⊥) → (w ≡ codes "ids" → ⊥) → (w ≡ codes "noroom" → ⊥) → (w ≡ codes "ended" → ⊥) → (w ≡ codes "restarted" → ⊥) → (w ≡ codes "oldboot" → ⊥) → (x : MsgKind) → w ≡ kind_name x → ⊥
no_kind w h0 h1 h2 h3 h4 h5 h6 h7 h8 h9 h10 h11 h12 h13 h14 h15 kind.Hello e = h0 e
no_kind w h0 h1 h2 h3 h4 h5 h6 h7 h8 h9 h10 h11 h12 h13 h14 h15 kind.Want e = h1 e
no_kind w h0 h1 h2 h3 h4 h5 h6 h7 h8 h9 h10 h11 h12 h13 h14 h15 kind.Back e = h2 e
no_kind w h0 h1 h2 h3 h4 h5 h6 h7 h8 h9 h10 h11 h12 h13 h14 h15 kind.Flush e = h3 e
no_kind w h0 h1 h2 h3 h4 h5 h6 h7 h8 h9 h10 h11 h12 h13 h14 h15 kind.Room e = h4 e
no_kind w h0 h1 h2 h3 h4 h5 h6 h7 h8 h9 h10 h11 h12 h13 h14 h15 kind.Claim e = h5 e
no_kind w h0 h1 h2 h3 h4 h5 h6 h7 h8 h9 h10 h11 h12 h13 h14 h15 kind.Bye e = h6 e
no_kind w h0 h1 h2 h3 h4 h5 h6 h7 h8 h9 h10 h11 h12 h13 h14 h15 kind.Opened e = h7 e
no_kind w h0 h1 h2 h3 h4 h5 h6 h7 h8 h9 h10 h11 h12 h13 h14 h15 kind.Grant e = h8 e
no_kind w h0 h1 h2 h3 h4 h5 h6 h7 h8 h9 h10 h11 h12 h13 h14 h15 kind.Recall e = h9 e
no_kind w h0 h1 h2 h3 h4 h5 h6 h7 h8 h9 h10 h11 h12 h13 h14 h15 kind.Kept e = h10 e
no_kind w h0 h1 h2 h3 h4 h5 h6 h7 h8 h9 h10 h11 h12 h13 h14 h15 kind.Ids e = h11 e
no_kind w h0 h1 h2 h3 h4 h5 h6 h7 h8 h9 h10 h11 h12 h13 h14 h15 kind.NoRoom e = h12 e
no_kind w h0 h1 h2 h3 h4 h5 h6 h7 h8 h9 h10 h11 h12 h13 h14 h15 kind.Ended e = h13 e
no_kind w h0 h1 h2 h3 h4 h5 h6 h7 h8 h9 h10 h11 h12 h13 h14 h15 kind.Restarted e = h14 e
no_kind w h0 h1 h2 h3 h4 h5 h6 h7 h8 h9 h10 h11 h12 h13 h14 h15 kind.OldBoot e = h15 e

abbrev pub choice_hashed : ℕ → Choice
choice_hashed n =
    if eqb n (hash (codes "old")) then choice.Old else if eqb n (hash (codes "new")) then choice.New else choice.Torn

choice_back : (x : Choice) → choice_hashed (hash (choice_name x)) ≡ x
choice_back choice.Old = refl
choice_back choice.New = refl
choice_back choice.Torn = refl

pub choice_once : (w : Word) (x y : Choice) → w ≡ choice_name x → w ≡ choice_name y → x ≡ y
choice_once w x y e f = sym (choice_back x) ∙ ap (λ v. choice_hashed (hash v)) (sym e ∙ f) ∙ choice_back y

pub no_choice : (w : Word) → (w ≡ codes "old" → ⊥) → (w ≡ codes "new" → ⊥) → (w ≡ codes "torn" → ⊥) → (x : Choice) → w ≡ choice_name x → ⊥
no_choice w h0 h1 h2 choice.Old e = h0 e
no_choice w h0 h1 h2 choice.New e = h1 e
no_choice w h0 h1 h2 choice.Torn e = h2 e

abbrev pub verb_hashed : ℕ → Verb
verb_hashed n =
    if eqb n (hash (codes "mkdir")) then verb.Mkdir else if eqb n (hash (codes "create")) then verb.Create else if eqb n (hash (codes "write")) then verb.Write else if eqb n (hash (codes "setlen")) then verb.SetLen else if eqb n (hash (codes "read")) then verb.Read else if eqb n (hash (codes "chmod")) then verb.Chmod else if eqb n (hash (codes "touch")) then verb.Touch else if eqb n (hash (codes "stat")) then verb.Stat else if eqb n (hash (codes "list")) then verb.List else if eqb n (hash (codes "remove")) then verb.Remove else if eqb n (hash (codes "rmdir")) then verb.Rmdir else if eqb n (hash (codes "rename")) then verb.Rename else if eqb n (hash (codes "fsync")) then verb.Fsync else if eqb n (hash (codes "forder")) then verb.Forder else if eqb n (hash (codes "sync")) then verb.Sync else verb.Chown

verb_back : (x : Verb) → verb_hashed (hash (verb_name x)) ≡ x
verb_back verb.Mkdir = refl
verb_back verb.Create = refl
verb_back verb.Write = refl
verb_back verb.SetLen = refl
verb_back verb.Read = refl
verb_back verb.Chmod = refl
verb_back verb.Touch = refl
verb_back verb.Stat = refl
verb_back verb.List = refl
verb_back verb.Remove = refl
verb_back verb.Rmdir = refl
verb_back verb.Rename = refl
verb_back verb.Fsync = refl
verb_back verb.Forder = refl
verb_back verb.Sync = refl
verb_back verb.Chown = refl

pub verb_once : (w : Word) (x y : Verb) → w ≡ verb_name x → w ≡ verb_name y → x ≡ y
verb_once w x y e f = sym (verb_back x) ∙ ap (λ v. verb_hashed (hash v)) (sym e ∙ f) ∙ verb_back y

pub no_verb : (w : Word) → (w ≡ codes "mkdir" → ⊥) → (w ≡ codes "create" → ⊥) → (w ≡ codes "write" → ⊥) → (w ≡ codes "setlen" → ⊥) → (w ≡ codes "read" → ⊥) → (w ≡ codes "chmod" → ⊥) → (w ≡ codes "touch" → ⊥) → (w ≡ codes "stat" → ⊥) → (w ≡ codes "list" → ⊥) → (w ≡ codes "remove" → ⊥) → (w ≡ codes "rmdir" → ⊥) → (w ≡ codes "rename" → ⊥) → (w ≡ codes "fsync" → ⊥) → (w ≡ codes "forder" → ⊥) → (w ≡ codes "sync" → ⊥) → (w ≡ codes "chown" → ⊥) → (x : Verb) → w ≡ verb_name x → ⊥
no_verb w h0 h1 h2 h3 h4 h5 h6 h7 h8 h9 h10 h11 h12 h13 h14 h15 verb.Mkdir e = h0 e
no_verb w h0 h1 h2 h3 h4 h5 h6 h7 h8 h9 h10 h11 h12 h13 h14 h15 verb.Create e = h1 e
no_verb w h0 h1 h2 h3 h4 h5 h6 h7 h8 h9 h10 h11 h12 h13 h14 h15 verb.Write e = h2 e
no_verb w h0 h1 h2 h3 h4 h5 h6 h7 h8 h9 h10 h11 h12 h13 h14 h15 verb.SetLen e = h3 e
no_verb w h0 h1 h2 h3 h4 h5 h6 h7 h8 h9 h10 h11 h12 h13 h14 h15 verb.Read e = h4 e
no_verb w h0 h1 h2 h3 h4 h5 h6 h7 h8 h9 h10 h11 h12 h13 h14 h15 verb.Chmod e = h5 e
no_verb w h0 h1 h2 h3 h4 h5 h6 h7 h8 h9 h10 h11 h12 h13 h14 h15 verb.Touch e = h6 e
no_verb w h0 h1 h2 h3 h4 h5 h6 h7 h8 h9 h10 h11 h12 h13 h14 h15 verb.Stat e = h7 e
no_verb w h0 h1 h2 h3 h4 h5 h6 h7 h8 h9 h10 h11 h12 h13 h14 h15 verb.List e = h8 e
no_verb w h0 h1 h2 h3 h4 h5 h6 h7 h8 h9 h10 h11 h12 h13 h14 h15 verb.Remove e = h9 e
no_verb w h0 h1 h2 h3 h4 h5 h6 h7 h8 h9 h10 h11 h12 h13 h14 h15 verb.Rmdir e = h10 e
no_verb w h0 h1 h2 h3 h4 h5 h6 h7 h8 h9 h10 h11 h12 h13 h14 h15 verb.Rename e = h11 e
no_verb w h0 h1 h2 h3 h4 h5 h6 h7 h8 h9 h10 h11 h12 h13 h14 h15 verb.Fsync e = h12 e
no_verb w h0 h1 h2 h3 h4 h5 h6 h7 h8 h9 h10 h11 h12 h13 h14 h15 verb.Forder e = h13 e
no_verb w h0 h1 h2 h3 h4 h5 h6 h7 h8 h9 h10 h11 h12 h13 h14 h15 verb.Sync e = h14 e
no_verb w h0 h1 h2 h3 h4 h5 h6 h7 h8 h9 h10 h11 h12 h13 h14 h15 verb.Chown e = h15 e

abbrev pub keyword_hashed : ℕ → Keyword
keyword_hashed n =
    if eqb n (hash (codes "push")) then keyword.Push else if eqb n (hash (codes "cut")) then keyword.Cut else if eqb n (hash (codes "uncut")) then keyword.Uncut else if eqb n (hash (codes "drop")) then keyword.Drop else if eqb n (hash (codes "repeat")) then keyword.Repeat else if eqb n (hash (codes "deliver")) then keyword.Deliver else if eqb n (hash (codes "resend")) then keyword.Resend else if eqb n (hash (codes "crash")) then keyword.Crash else if eqb n (hash (codes "end")) then keyword.End else if eqb n (hash (codes "stop")) then keyword.Stop else if eqb n (hash (codes "arm")) then keyword.Arm else keyword.Restart

keyword_back : (x : Keyword) → keyword_hashed (hash (keyword_name x)) ≡ x
keyword_back keyword.Push = refl
keyword_back keyword.Cut = refl
keyword_back keyword.Uncut = refl
keyword_back keyword.Drop = refl
keyword_back keyword.Repeat = refl
keyword_back keyword.Deliver = refl
keyword_back keyword.Resend = refl
keyword_back keyword.Crash = refl
keyword_back keyword.End = refl
keyword_back keyword.Stop = refl
keyword_back keyword.Arm = refl
keyword_back keyword.Restart = refl

pub keyword_once : (w : Word) (x y : Keyword) → w ≡ keyword_name x → w ≡ keyword_name y → x ≡ y
keyword_once w x y e f = sym (keyword_back x) ∙ ap (λ v. keyword_hashed (hash v)) (sym e ∙ f) ∙ keyword_back y

pub no_keyword : (w : Word) → (w ≡ codes "push" → ⊥) → (w ≡ codes "cut" → ⊥) → (w ≡ codes "uncut" → ⊥) → (w ≡ codes "drop" → ⊥) → (w ≡ codes "repeat" → ⊥) → (w ≡ codes "deliver" → ⊥) → (w ≡ codes "resend" → ⊥) → (w ≡ codes "crash" → ⊥) → (w ≡ codes "end" → ⊥) → (w ≡ codes "stop" → ⊥) → (w ≡ codes "arm" → ⊥) → (w ≡ codes "restart" → ⊥) → (x : Keyword) → w ≡ keyword_name x → ⊥
no_keyword w h0 h1 h2 h3 h4 h5 h6 h7 h8 h9 h10 h11 keyword.Push e = h0 e
no_keyword w h0 h1 h2 h3 h4 h5 h6 h7 h8 h9 h10 h11 keyword.Cut e = h1 e
no_keyword w h0 h1 h2 h3 h4 h5 h6 h7 h8 h9 h10 h11 keyword.Uncut e = h2 e
no_keyword w h0 h1 h2 h3 h4 h5 h6 h7 h8 h9 h10 h11 keyword.Drop e = h3 e
no_keyword w h0 h1 h2 h3 h4 h5 h6 h7 h8 h9 h10 h11 keyword.Repeat e = h4 e
no_keyword w h0 h1 h2 h3 h4 h5 h6 h7 h8 h9 h10 h11 keyword.Deliver e = h5 e
no_keyword w h0 h1 h2 h3 h4 h5 h6 h7 h8 h9 h10 h11 keyword.Resend e = h6 e
no_keyword w h0 h1 h2 h3 h4 h5 h6 h7 h8 h9 h10 h11 keyword.Crash e = h7 e
no_keyword w h0 h1 h2 h3 h4 h5 h6 h7 h8 h9 h10 h11 keyword.End e = h8 e
no_keyword w h0 h1 h2 h3 h4 h5 h6 h7 h8 h9 h10 h11 keyword.Stop e = h9 e
no_keyword w h0 h1 h2 h3 h4 h5 h6 h7 h8 h9 h10 h11 keyword.Arm e = h10 e
no_keyword w h0 h1 h2 h3 h4 h5 h6 h7 h8 h9 h10 h11 keyword.Restart e = h11 e

pub keyword_long : (k : Keyword) → 2 ≤ length (keyword_name k)
keyword_long keyword.Push = omega arith
keyword_long keyword.Cut = omega arith
keyword_long keyword.Uncut = omega arith
keyword_long keyword.Drop = omega arith
keyword_long keyword.Repeat = omega arith
keyword_long keyword.Deliver = omega arith
keyword_long keyword.Resend = omega arith
keyword_long keyword.Crash = omega arith
keyword_long keyword.End = omega arith
keyword_long keyword.Stop = omega arith
keyword_long keyword.Arm = omega arith
keyword_long keyword.Restart = omega arith
