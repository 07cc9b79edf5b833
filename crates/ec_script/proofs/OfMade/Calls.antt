-- The calls that made lines spell.
use Rattle.std.proofs.Common.{◌≡◌, ◌==◌, ◌<◌, ◌≤◌, ◌+◌, ◌%◌, ◌&&◌, ◌||◌, ℕ, zero, suc, Bool, true, false, List, [], ◌∷◌, ◌++◌, length, if◌then◌else◌, append_assoc, refl, sym, ap, subst, ◌∙◌, arith, inl, inr}
use Rattle.std.specs.Prelude.{codes, nat_le}
use Rattle.std.specs.Fmt.{decimal, digits}
use Rattle.std.specs.List.{list_all}
use Rattle.std.proofs.lemmas.Bool.{and_parts}
use Rattle.std.proofs.lemmas.List.{length-append}
use Rattle.ec_base.specs.Names.{path_names}
use Rattle.ec_plain.specs.declared.call.Call.{Call}
use Rattle.ec_plain.specs.declared.call.Call.TheVariants as call
use Rattle.ec_plain.specs.Walk.{Path}
use Rattle.ec_script.specs.OfGenerator.Generator.{call_text, clerk_text, dir_text, file_text}
use Rattle.ec_words.specs.Calls.{Asks, SpellsCall}
use Rattle.ec_words.specs.Rows.{Word}
use Rattle.ec_words.specs.Spelling.{IsPathText, verb_name}
use Rattle.ec_words.specs.Words.{words_of}
use Rattle.ec_words.specs.declared.name.Verb.{Verb}
use Rattle.ec_words.specs.declared.name.Verb.TheVariants as verb
use Rattle.ec_script.specs.Grammar.{Spells}
use Rattle.ec_script.specs.declared.line.Line.TheVariants as line
use Rattle.ec_script.specs.OfMade.Made.{IsCalling, is_making, makes}
use Rattle.ec_script.proofs.OfMade.Names.{four-digits, is_path, number-some, number-word, path-is-word, path-word}
use Rattle.ec_script.proofs.OfMade.Words.{at-below, below, is_line, is_word, line-two, text-word, word-line, words-more, words-one}
use Rattle.ec_base.proofs.Numbers.{at-limit}

-- Directories, files and numbers.

abbrev dir_at : ℕ → Word
dir_at d = codes "/d" ++ decimal d

abbrev file_at : ℕ → ℕ → Word
file_at d f = dir_at d ++ codes "/f" ++ decimal f

abbrev is_place : Word → Bool
is_place w = is_path w && nat_le (length w) 7

dirs : list_all (λ d. is_place (dir_at d)) (below 8) ≡ true
unfolding digits
dirs = refl

files : list_all (λ d. list_all (λ f. is_place (file_at d f)) (below 16)) (below 8) ≡ true
unfolding digits
files = refl

dir-place : (n : ℕ) → is_place (dir_text n) ≡ true
dir-place n = at-below (λ d. is_place (dir_at d)) 8 (n % 8) (omega arith) dirs

file-place : (n m : ℕ) → is_place (file_text n m) ≡ true
file-place n m = at-below (λ f. is_place (file_at (n % 8) f)) 16 (m % 16) (omega arith) (at-below (λ d. list_all (λ f. is_place (file_at d f)) (below 16)) 8 (n % 8) (omega arith) files)

dir-path : (n : ℕ) → is_path (dir_text n) ≡ true
dir-path n = (and_parts (is_path (dir_text n)) (nat_le (length (dir_text n)) 7) (dir-place n)).0

dir-few : (n : ℕ) → length (dir_text n) ≤ 7
dir-few n = at-limit _ 7 (and_parts (is_path (dir_text n)) (nat_le (length (dir_text n)) 7) (dir-place n)).1

file-path : (n m : ℕ) → is_path (file_text n m) ≡ true
file-path n m = (and_parts (is_path (file_text n m)) (nat_le (length (file_text n m)) 7) (file-place n m)).0

file-few : (n m : ℕ) → length (file_text n m) ≤ 7
file-few n m = at-limit _ 7 (and_parts (is_path (file_text n m)) (nat_le (length (file_text n m)) 7) (file-place n m)).1

-- What a line calls.
record IsMadeCall (t : List ℕ) (making : Bool) : Type 0 where
  calls : Call
  spelled : SpellsCall (words_of t) calls
  so : makes calls ≡ making
  within : is_line t ≡ true
  few : length t ≤ 40

module _ (v : Word) (clean : is_word v ≡ true) (p : Word) (path : is_path p ≡ true) where
  one-words : words_of (v ++ (32 ∷ p)) ≡ v ∷ p ∷ []
  one-words = words-more v p clean ∙ ap (λ ws. v ∷ ws) (words-one p (path-is-word p path))

  one-line : is_line (v ++ (32 ∷ p)) ≡ true
  one-line = line-two v (32 ∷ p) (word-line v clean) (word-line p (path-is-word p path))

  module _ (rest : List ℕ) (fine : is_line rest ≡ true) where
    more-words : words_of (v ++ (32 ∷ (p ++ (32 ∷ rest)))) ≡ v ∷ p ∷ words_of rest
    more-words = words-more v (p ++ (32 ∷ rest)) clean ∙ ap (λ ws. v ∷ ws) (words-more p rest (path-is-word p path))

    more-line : is_line (v ++ (32 ∷ (p ++ (32 ∷ rest)))) ≡ true
    more-line = line-two v (32 ∷ (p ++ (32 ∷ rest))) (word-line v clean) (line-two p (32 ∷ rest) (word-line p (path-is-word p path)) fine)

-- A verb with one path.
module _ (p : Word) (path : is_path p ≡ true) (short : length p ≤ 7) where
  one-path : (v : Verb) (k : Path → Call) (making : Bool) → is_word (verb_name v) ≡ true → length (verb_name v) ≤ 6 → makes (k (path_names p)) ≡ making → Asks v (p ∷ []) (k (path_names p)) → IsMadeCall (verb_name v ++ (32 ∷ p)) making
  one-path v k making clean few so asks = record {
    calls = k (path_names p);
    spelled = subst (λ ws. SpellsCall ws (k (path_names p))) (sym (one-words (verb_name v) clean p path)) (v, (refl, asks));
    so = so;
    within = one-line (verb_name v) clean p path;
    few = let is = length-append (verb_name v) (32 ∷ p) in omega (arith, is, few, short);
  }

module _ (d : ℕ) where
  lists : IsMadeCall (codes "list " ++ dir_text d) false
  lists = one-path (dir_text d) (dir-path d) (dir-few d) verb.List call.List false refl (omega arith) refl (path_names (dir_text d), ((path-word (dir_text d) (dir-path d), refl), refl))

  mkdirs : IsMadeCall (codes "mkdir " ++ dir_text d) true
  mkdirs = one-path (dir_text d) (dir-path d) (dir-few d) verb.Mkdir call.Mkdir true refl (omega arith) refl (path_names (dir_text d), ((path-word (dir_text d) (dir-path d), refl), refl))

module _ (d f : ℕ) where
  path : is_path (file_text d f) ≡ true
  path = file-path d f

  is_text : IsPathText (file_text d f) (path_names (file_text d f))
  is_text = path-word (file_text d f) path

  create : IsMadeCall (codes "create " ++ file_text d f) true
  create = one-path (file_text d f) path (file-few d f) verb.Create call.Create true refl (omega arith) refl (path_names (file_text d f), ((is_text, refl), refl))

  stat : IsMadeCall (codes "stat " ++ file_text d f) false
  stat = one-path (file_text d f) path (file-few d f) verb.Stat call.Stat false refl (omega arith) refl (path_names (file_text d f), ((is_text, refl), refl))

  fsync : IsMadeCall (codes "fsync " ++ file_text d f) false
  fsync = one-path (file_text d f) path (file-few d f) verb.Fsync call.Fsync false refl (omega arith) refl (path_names (file_text d f), ((is_text, refl), refl))

  -- with a second word and more behind the path
  module _ (v : Verb) (clean : is_word (verb_name v) ≡ true) (few : length (verb_name v) ≤ 6) (rest : List ℕ) (fine : is_line rest ≡ true) (short : length rest ≤ 12) where
    abbrev of_more : List ℕ
    of_more = verb_name v ++ (32 ∷ (file_text d f ++ (32 ∷ rest)))

    two-words : (calls : Call) (making : Bool) → makes calls ≡ making → Asks v (file_text d f ∷ words_of rest) calls → IsMadeCall of_more making
    two-words calls making so asks = record {
      calls = calls;
      spelled = subst (λ ws. SpellsCall ws calls) (sym (more-words (verb_name v) clean (file_text d f) path rest fine)) (v, (refl, asks));
      so = so;
      within = more-line (verb_name v) clean (file_text d f) path rest fine;
      few =
          let name = file-few d f in
          let is = length-append (verb_name v) (32 ∷ (file_text d f ++ (32 ∷ rest))) in
          let tail = length-append (file_text d f) (32 ∷ rest) in
          omega (arith, few, name, is, tail, short);
    }

  reads : IsMadeCall (codes "read " ++ file_text d f ++ codes " 0 64") false
  unfolding digits
  reads =
      two-words verb.Read refl (omega arith) (codes "0 64") refl (omega arith) (call.Read (path_names (file_text d f)) 0 64) false refl
      ((path_names (file_text d f), (0, 64)), ((is_text, ((refl, (omega arith, omega arith)), ((refl, (omega arith, omega arith)), refl))), refl))

  rename : (g : ℕ) → IsMadeCall (codes "rename " ++ file_text d f ++ codes " " ++ file_text d g) false
  rename g =
      let to = file-path d g in
      let word = path-is-word (file_text d g) to in
      let short = file-few d g in
      subst (λ t. IsMadeCall (codes "rename " ++ t) false) (sym (append_assoc (file_text d f) (codes " ") (file_text d g)))
      (two-words verb.Rename refl (omega arith) (file_text d g) (word-line (file_text d g) word) (omega (arith, short)) (call.Rename (path_names (file_text d f)) (path_names (file_text d g))) false refl
      (subst (λ ws. Asks verb.Rename (file_text d f ∷ ws) (call.Rename (path_names (file_text d f)) (path_names (file_text d g)))) (sym (words-one (file_text d g) word))
      ((path_names (file_text d f), path_names (file_text d g)), ((is_text, (path-word (file_text d g) to, refl)), refl))))

  module _ (place n : ℕ) (small : place < 64) (lt : n < 2001) where
    abbrev at : Word
    at = decimal place

    abbrev text : Word
    text = decimal n

    at-word : is_word at ≡ true
    at-word = number-word place (omega (arith, small))

    text-is-word : is_word text ≡ true
    text-is-word = number-word n (omega (arith, lt))

    few-digits : length text ≤ 4
    few-digits = four-digits n (omega (arith, lt))

    rest-few : length (at ++ (32 ∷ text)) ≤ 12
    rest-few = let one = four-digits place (omega (arith, small)) in let two = few-digits in let is = length-append at (32 ∷ text) in omega (arith, one, two, is)

    rest-words : words_of (at ++ (32 ∷ text)) ≡ at ∷ text ∷ []
    rest-words = words-more at text at-word ∙ ap (λ ws. at ∷ ws) (words-one text text-is-word)

    joined : file_text d f ++ codes " " ++ at ++ codes " " ++ text ≡ file_text d f ++ (32 ∷ (at ++ (32 ∷ text)))
    joined =
        append_assoc (file_text d f ++ codes " " ++ at) (codes " ") text
        ∙ append_assoc (file_text d f ++ codes " ") at (32 ∷ text)
        ∙ append_assoc (file_text d f) (codes " ") (at ++ (32 ∷ text))

    writes : IsMadeCall (codes "write " ++ file_text d f ++ codes " " ++ at ++ codes " " ++ text) false
    writes =
        let some = number-some n (omega (arith, lt)) in
        let few = few-digits in
        subst (λ t. IsMadeCall (codes "write " ++ t) false) (sym joined)
        (two-words verb.Write refl (omega arith) (at ++ (32 ∷ text)) (line-two at (32 ∷ text) (word-line at at-word) (word-line text text-is-word)) rest-few (call.Write (path_names (file_text d f)) place text) false refl
        (subst (λ ws. Asks verb.Write (file_text d f ∷ ws) (call.Write (path_names (file_text d f)) place text)) (sym rest-words)
        ((path_names (file_text d f), (place, text)), ((is_text, ((refl, (omega arith, omega (arith, small))), ((text-word text text-is-word, (some, omega (arith, few))), refl))), refl))))

-- By the number of the line.

abbrev choice : ℕ → List ℕ → List ℕ → List ℕ → List ℕ → List ℕ → List ℕ → List ℕ → List ℕ → List ℕ
choice m a b c d e f g h =
    if m == 0 then a
    else (if m == 1 then b
    else (if m == 2 then c
    else (if m == 3 then d
    else (if m == 4 then e
    else (if m == 5 then f
    else (if m == 6 then g
    else h))))))

module _ (n dir file fourth : ℕ) (lt : n < 2001) where
  abbrev chosen : ℕ → List ℕ
  chosen m =
      choice m (codes "list " ++ dir_text dir) (codes "mkdir " ++ dir_text dir) (codes "create " ++ file_text dir file)
      (codes "write " ++ file_text dir file ++ codes " " ++ decimal (fourth % 64) ++ codes " " ++ decimal n) (codes "read " ++ file_text dir file ++ codes " 0 64")
      (codes "rename " ++ file_text dir file ++ codes " " ++ file_text dir fourth) (codes "stat " ++ file_text dir file) (codes "fsync " ++ file_text dir file)

  by-kind : (m : ℕ) → m < 8 → IsMadeCall (chosen m) (m == 1 || m == 2)
  by-kind zero l = lists dir
  by-kind (suc zero) l = mkdirs dir
  by-kind (suc (suc zero)) l = create dir file
  by-kind (suc (suc (suc zero))) l = writes dir file (fourth % 64) n (omega arith) lt
  by-kind (suc (suc (suc (suc zero)))) l = reads dir file
  by-kind (suc (suc (suc (suc (suc zero))))) l = rename dir file fourth
  by-kind (suc (suc (suc (suc (suc (suc zero)))))) l = stat dir file
  by-kind (suc (suc (suc (suc (suc (suc (suc zero))))))) l = fsync dir file
  by-kind (suc (suc (suc (suc (suc (suc (suc (suc m)))))))) l = absurd (omega (arith, l))

  calls-so : IsMadeCall (call_text n dir file fourth) (is_making n)
  calls-so = by-kind (n % 8) (omega arith)

-- The line.

pub record IsMadeLine (t : List ℕ) (making : Bool) : Type 0 where
  pub calling : IsCalling t making
  pub within : is_line t ≡ true
  pub few : length t ≤ 42

pub line-so : (n clerk dir file fourth : ℕ) → n < 2001 → IsMadeLine (clerk_text clerk ++ (32 ∷ call_text n dir file fourth)) (is_making n)
line-so n clerk dir file fourth lt =
    let c = calls-so n dir file fourth lt in
    let name = letter (clerk % 4) (omega arith) in
    record {
      calling = record {
        clerk = clerk % 4;
        calls = c.calls;
        is = inr
            (subst (λ ws. Spells ws (line.Call (clerk % 4) c.calls)) (sym (words-more (clerk_text clerk) (call_text n dir file fourth) name)) (inl (clerk % 4), ((refl, omega arith), (c.calls, (c.spelled, refl)))));
        one_of_four = omega arith;
        so = c.so;
      };
      within = line-two (clerk_text clerk) (32 ∷ call_text n dir file fourth) (word-line (clerk_text clerk) name) c.within;
      few = let few = c.few in omega (arith, few);
    }
  where
    letter : (k : ℕ) → k < 4 → is_word ((65 + k) ∷ []) ≡ true
    letter k l = at-below (λ k. is_word ((65 + k) ∷ [])) 4 k l refl
