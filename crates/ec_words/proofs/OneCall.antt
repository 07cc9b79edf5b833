-- Words spell one call.
use Rattle.std.proofs.Common.{◌≡◌, ℕ, zero, suc, ◌<◌, ◌-◌, ◌^◌, List, [], ◌∷◌, sym, ap, subst, ◌∙◌, arith}
use Rattle.ec_base.specs.Names.{path_names}
use Rattle.ec_plain.specs.Bounds.{max_read_bytes}
use Rattle.ec_volume.specs.Limits.{max_ordered}
use Rattle.ec_words.specs.declared.name.Verb.{Verb}
use Rattle.ec_words.specs.declared.name.Verb.TheVariants as verb
use Rattle.ec_words.specs.Rows.{Word, ◌▸◌, Last, UpTo, ◌⊳◌, ◌makes◌}
use Rattle.ec_words.specs.Spelling.{IsNumberIn, IsSmallNumber, IsNumber, IsCount, IsMode, IsText, IsPathText, IsVerb}
use Rattle.ec_words.specs.Calls.{Asks, SpellsCall}
use Rattle.ec_words.proofs.Named.{verb_once}
use Rattle.ec_words.proofs.Numbers.{number_once}
use Rattle.ec_words.proofs.Once.{row_once, end_once}
use Rattle.ec_base.proofs.Options.{some_once}

-- a test by which a word stands for one value, and a row that has one value
abbrev pub Single : {V : Type 0} → (Word → V → Type 0) → Type 0
Single {V} P = (w : Word) (u v : V) → P w u → P w v → u ≡ v

abbrev pub OneValue : {X : Type 0} → (List Word → X → Type 0) → Type 0
OneValue {X} G = (ws : List Word) (x y : X) → G ws x → G ws y → x ≡ y

-- Rows.

pub last_once : {V : Type 0} (P : Word → V → Type 0) → Single P → OneValue (Last P)
last_once P one [] u v g h = absurd g
last_once P one (w ∷ ws) u v g h = one w u v g.0 h.0

pub up_to_once : {V : Type 0} (P : Word → V → Type 0) → Single P → (n : ℕ) → OneValue (UpTo P n)
up_to_once P one zero ws us vs g h = g.1 ∙ sym h.1
up_to_once P one (suc n) [] us vs g h = g ∙ sym h
up_to_once P one (suc n) (w ∷ ws) [] vs g h = absurd g
up_to_once P one (suc n) (w ∷ ws) (u ∷ us) [] g h = absurd h
up_to_once P one (suc n) (w ∷ ws) (u ∷ us) (v ∷ vs) g h = ap (λ x. x ∷ us) (one w u v g.0 h.0) ∙ ap (λ xs. v ∷ xs) (up_to_once P one n ws us vs g.1 h.1)

pub makes_once : {X Y : Type 0} (G : List Word → X → Type 0) (f : X → Y) → OneValue G → OneValue (G makes f)
makes_once G f one ws x y g h = sym g.1.1 ∙ ap f (one ws g.0 h.0 g.1.0 h.1.0) ∙ h.1.1

pub choice_row_once : {V X : Type 0} (P : Word → V → Type 0) (F : V → List Word → X → Type 0) → Single P → ((v : V) → OneValue (F v)) → OneValue (P ⊳ F)
choice_row_once P F one rest [] x y g h = absurd g
choice_row_once P F one rest (w ∷ ws) x y g h = rest h.0 ws x y (subst (λ v. F v ws x) (one w g.0 h.0 g.1.0 h.1.0) g.1.1) h.1.1

-- Words.

pub in_range_once : (least most : ℕ) → most < 2 ^ 64 → Single (IsNumberIn least most)
in_range_once least most lm w m n g h = number_once w least most least most m n lm lm g h

pub mode_once : Single IsMode
mode_once w m n g h = some_once _ m n g h

pub text_once : Single IsText
text_once w bs cs g h = some_once _ bs cs g.0 h.0

pub path_once : Single IsPathText
path_once w p q g h = g.1.1.1 ∙ ap path_names (some_once _ g.0 h.0 g.1.0 h.1.0) ∙ sym h.1.1.1

-- Calls.

pub small : Single IsSmallNumber
small = in_range_once 0 (2 ^ 32 - 1) (omega arith)

pub number : Single IsNumber
number = in_range_once 0 (2 ^ 64 - 1) (omega arith)

one_path : OneValue (Last IsPathText)
one_path = last_once IsPathText path_once

path_number : OneValue (IsPathText ▸ Last IsSmallNumber)
path_number = row_once IsPathText (Last IsSmallNumber) path_once (last_once IsSmallNumber small)

pub asks_once : (v : Verb) → OneValue (Asks v)
asks_once verb.Mkdir = makes_once _ _ one_path
asks_once verb.Create = makes_once _ _ one_path
asks_once verb.Write = makes_once _ _ (row_once IsPathText _ path_once (row_once IsSmallNumber _ small (last_once IsText text_once)))
asks_once verb.SetLen = makes_once _ _ path_number
asks_once verb.Read = makes_once _ _ (row_once IsPathText _ path_once (row_once IsSmallNumber _ small (last_once IsCount (in_range_once 0 max_read_bytes (omega arith)))))
asks_once verb.Chmod = makes_once _ _ (row_once IsPathText _ path_once (last_once IsMode mode_once))
asks_once verb.Touch = makes_once _ _ (row_once IsPathText _ path_once (last_once IsNumber number))
asks_once verb.Stat = makes_once _ _ one_path
asks_once verb.List = makes_once _ _ one_path
asks_once verb.Remove = makes_once _ _ one_path
asks_once verb.Rmdir = makes_once _ _ one_path
asks_once verb.Rename = makes_once _ _ (row_once IsPathText _ path_once one_path)
asks_once verb.Fsync = makes_once _ _ one_path
asks_once verb.Forder = makes_once _ _ (row_once IsPathText _ path_once (up_to_once IsPathText path_once (max_ordered - 1)))
asks_once verb.Sync = makes_once _ _ end_once
asks_once verb.Chown = makes_once _ _ path_number

pub call_once : OneValue SpellsCall
call_once = choice_row_once IsVerb Asks verb_once asks_once
