-- The bytes of words with their spaces, and words without spaces in them.
use Rattle.std.proofs.Common.{◌≡◌, ℕ, ◌<◌, ◌≤◌, ◌+◌, ◌^◌, ◌%◌, List, [], ◌∷◌, ◌++◌, Bool, true, false, refl, sym, ap, ◌∙◌, arith, rules}
use Rattle.std.proofs.lemmas.List.{append-nil}
use Rattle.std.specs.Prelude.{◌==◌, ◌&&◌, if◌then◌else◌}
use Rattle.std.specs.Fmt.{decimal}
use Rattle.std.proofs.lemmas.Fmt.{decimal_by_steps}
use Rattle.ec_words.specs.Words.{words_of}
use Rattle.ec_words.specs.Pieces.{onto}
use Rattle.ec_words.specs.Rows.{Word, ◌▸◌, End, Last, ◌⊳◌, ◌makes◌}
use Rattle.ec_base.proofs.Bools.{first-of, and_both}

-- words, each with a space before it
abbrev pub spaced : List Word → List ℕ
spaced [] = []
spaced (w ∷ ws) = 32 ∷ (w ++ spaced ws)

-- no byte is a space
abbrev pub clean : Word → Bool
clean [] = true
clean (b ∷ bs) = if b == 32 then false else clean bs

abbrev pub all_clean : List Word → Bool
all_clean [] = true
all_clean (w ∷ ws) = clean w && all_clean ws

pub clean-append : (a b : Word) → clean a ≡ true → clean b ≡ true → clean (a ++ b) ≡ true
clean-append [] b e f = f
clean-append (x ∷ a) b e f =
    elim (x == 32) as (λ t. (if t then false else clean a) ≡ true → (if t then false else clean (a ++ b)) ≡ true) [
      | true ↦ λ g. g
      | false ↦ λ g. clean-append a b g f
    ] e

pub right_true : (a b : Bool) → (a && b) ≡ true → b ≡ true
right_true true b e = e
right_true false b e = absurd cc

-- A line is its words with spaces between them.

behind_space : (bs : List ℕ) (ws : List Word) → words_of bs ≡ ws → spaced ws ≡ 32 ∷ bs → spaced ([] ∷ ws) ≡ 32 ∷ 32 ∷ bs
behind_space bs ws e f = ap (λ t. 32 ∷ t) f

spaced-onto : (b : ℕ) (bs : List ℕ) (ws : List Word) → spaced ws ≡ 32 ∷ bs → spaced (onto b ws) ≡ 32 ∷ b ∷ bs
spaced-onto b bs [] e = absurd cc
spaced-onto b bs (w ∷ ws) e = let f : w ++ spaced ws ≡ bs = cc in ap (λ t. 32 ∷ b ∷ t) f

is_space : (b : ℕ) → (b == 32) ≡ true → b ≡ 32
is_space b e = search (rules)

pub spaced-words_of : (bs : List ℕ) → spaced (words_of bs) ≡ 32 ∷ bs
spaced-words_of [] = refl
spaced-words_of (b ∷ bs) =
    elim (b == 32) as (λ t. ((b == 32) ≡ t) → spaced (if t then [] ∷ words_of bs else onto b (words_of bs)) ≡ 32 ∷ b ∷ bs) [
      | true ↦ λ e. ap (λ t. 32 ∷ t) (spaced-words_of bs) ∙ ap (λ x. 32 ∷ x ∷ bs) (sym (is_space b e))
      | false ↦ λ e. spaced-onto b bs (words_of bs) (spaced-words_of bs)
    ] refl

-- Words without spaces are the words of that line.

word_back : (w : Word) (bs : List ℕ) (ws : List Word) → clean w ≡ true → words_of bs ≡ [] ∷ ws → words_of (w ++ bs) ≡ w ∷ ws
word_back [] bs ws c e = e
word_back (b ∷ w) bs ws c e =
    elim (b == 32) as (λ t. (if t then false else clean w) ≡ true → (if t then [] ∷ words_of (w ++ bs) else onto b (words_of (w ++ bs))) ≡ (b ∷ w) ∷ ws) [
      | true ↦ λ g. absurd cc
      | false ↦ λ g. ap (onto b) (word_back w bs ws g e)
    ] c

words_back : (ws : List Word) → all_clean ws ≡ true → words_of (spaced ws) ≡ [] ∷ ws
words_back [] c = refl
words_back (w ∷ ws) c = ap (λ vs. [] ∷ vs) (word_back w (spaced ws) ws (first-of (clean w) (all_clean ws) c) (words_back ws (right_true (clean w) (all_clean ws) c)))

tail_same : (u v : Word) (us vs : List Word) → u ∷ us ≡ v ∷ vs → us ≡ vs
tail_same u v us vs e = cc

-- a line by its words
pub words_of_spaced : (bs : List ℕ) (ws : List Word) → all_clean ws ≡ true → spaced ws ≡ 32 ∷ bs → words_of bs ≡ ws
words_of_spaced bs ws c e =
    let f : [] ∷ words_of bs ≡ [] ∷ ws = ap words_of (sym e) ∙ words_back ws c in
    tail_same [] [] (words_of bs) ws f

-- What the words of a row look like: this text, with a space before each word, and none has a space in it.

abbrev pub Shows : {V : Type 0} → (Word → V → Type 0) → (V → Word) → Type 0
Shows {V} P f = (w : Word) (v : V) → P w v → (w ≡ f v) × (clean w ≡ true)

abbrev pub Text : {X : Type 0} → (List Word → X → Type 0) → (X → List ℕ) → Type 0
Text {X} G t = (ws : List Word) (x : X) → G ws x → (spaced ws ≡ t x) × (all_clean ws ≡ true)

pub text_end : Text End (λ u. [])
text_end ws u g = (ap spaced g, ap all_clean g)

pub text_row : {V X : Type 0} (P : Word → V → Type 0) (f : V → Word) (G : List Word → X → Type 0) (t : X → List ℕ) → Shows P f → Text G t → Text (P ▸ G) (λ x. 32 ∷ (f (x.0) ++ t (x.1)))
text_row P f G t p q [] x g = absurd g
text_row P f G t p q (w ∷ ws) x g =
    let a = p w (x.0) g.0 in
    let b = q ws (x.1) g.1 in
    (ap (λ u. 32 ∷ (u ++ spaced ws)) a.0 ∙ ap (λ u. 32 ∷ (f (x.0) ++ u)) b.0, and_both (clean w) (all_clean ws) a.1 b.1)

pub text_last : {V : Type 0} (P : Word → V → Type 0) (f : V → Word) → Shows P f → Text (Last P) (λ v. 32 ∷ f v)
text_last P f p [] v g = absurd g
text_last P f p (w ∷ ws) v g =
    let a = p w v g.0 in
    (ap (λ u. 32 ∷ (w ++ spaced u)) g.1 ∙ ap (λ u. 32 ∷ u) (append-nil w ∙ a.0), and_both (clean w) (all_clean ws) a.1 (ap all_clean g.1))

pub text_makes : {X Y : Type 0} (G : List Word → X → Type 0) (h : X → Y) (t : X → List ℕ) (u : Y → List ℕ) → Text G t → ((x : X) → t x ≡ u (h x)) → Text (G makes h) u
text_makes G h t u q e ws y g =
    let a = q ws g.0 g.1.0 in
    (a.0 ∙ e g.0 ∙ ap u g.1.1, a.1)

-- behind a word that decides what follows
abbrev pub Behind : {X : Type 0} → Word → (List Word → X → Type 0) → (X → List ℕ) → Type 0
Behind {X} w G u = (ws : List Word) (x : X) → G ws x → ((32 ∷ (w ++ spaced ws)) ≡ u x) × (all_clean ws ≡ true)

pub text_choice : {V X : Type 0} (P : Word → V → Type 0) (f : V → Word) (F : V → List Word → X → Type 0) (u : X → List ℕ) → Shows P f → ((v : V) → Behind (f v) (F v) u) → Text (P ⊳ F) u
text_choice P f F u p q [] x g = absurd g
text_choice P f F u p q (w ∷ ws) x g =
    let a = p w g.0 g.1.0 in
    let b = q g.0 ws x g.1.1 in
    (ap (λ v. 32 ∷ (v ++ spaced ws)) a.0 ∙ b.0, and_both (clean w) (all_clean ws) a.1 b.1)

pub behind_makes : {X Y : Type 0} (w : Word) (G : List Word → X → Type 0) (h : X → Y) (t : X → List ℕ) (u : Y → List ℕ) → Text G t → ((x : X) → (32 ∷ (w ++ t x)) ≡ u (h x)) → Behind w (G makes h) u
behind_makes w G h t u q e ws y g =
    let a = q ws g.0 g.1.0 in
    (ap (λ s. 32 ∷ (w ++ s)) a.0 ∙ e g.0 ∙ ap u g.1.1, a.1)

-- Numbers.

clean_digit : (n : ℕ) → n < 10 → clean ((48 + n) ∷ []) ≡ true
clean_digit n lt = search (rules)

more_clean : (n : ℕ) (ds : List ℕ) → 10 ≤ n → clean ds ≡ true → clean (ds ++ ((48 + n % 10) ∷ [])) ≡ true
more_clean n ds le c = clean-append ds ((48 + n % 10) ∷ []) c (clean_digit (n % 10) (omega arith))

pub clean-decimal : (n : ℕ) → n < 2 ^ 64 → clean (decimal n) ≡ true
clean-decimal n lt = decimal_by_steps (λ m ds. clean ds ≡ true) clean_digit more_clean n lt
