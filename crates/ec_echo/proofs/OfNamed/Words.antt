-- Words ask for one thing: the command of a form is told by its first word, and its numbers by the others.
use Rattle.std.proofs.Common.{◌≡◌, ◌+◌, ◌-◌, ◌^◌, ◌<◌, ◌≤◌, ◌==◌, ◌&&◌, if◌then◌else◌, ℕ, Bool, true, false, List, [], ◌∷◌, Option, Some, None, codes, sym, ap, subst, ◌∙◌, inl, inr, arith, lit<}
use Rattle.std.specs.Prelude.{MatchOption}
use Rattle.std.specs.Str.Parse.{digits_value}
use Rattle.std.proofs.lemmas.Fmt.{decimal_is_IsNumeral}
use Rattle.ec_words.specs.Spelling.{IsNumberIn}
use Rattle.ec_mount_words.specs.Mounts.{SpellsMounts}
use Rattle.ec_echo.specs.Tables.{IsTable}
use Rattle.ec_echo.specs.Words.{Spells}
use Rattle.ec_echo.specs.declared.command.Command.{Command}
use Rattle.ec_echo.specs.declared.command.Command.TheVariants.{Drill, Check, Make, Soak, Serve, Mount, Leases, MountTable}

-- What words tell.

-- the number of a word's digits
value : List ℕ → ℕ
value w = digits_value 10 w

-- the clerk of a letter
letter : List ℕ → ℕ
letter [] = 0
letter (b ∷ w) = b - 65

-- how many objects: a form that doesn't say so has room for 1,024
objects : List (List ℕ) → ℕ
objects [] = 0
objects (form ∷ []) = 1024
objects (form ∷ w ∷ ws) = value w

second : List (List ℕ) → List ℕ
second (v ∷ w ∷ ws) = w
second _ = []

third : List (List ℕ) → List ℕ
third (u ∷ v ∷ w ∷ ws) = w
third _ = []

same : List ℕ → List ℕ → Bool
same [] [] = true
same (a ∷ v) (b ∷ w) = a == b && same v w
same _ _ = false

-- the command whose form has this first word
pick : List ℕ → List (List ℕ) → Command
pick form words =
    if same form (codes "drill") then Drill (objects words)
    else if same form (codes "check") then Check (objects words)
    else if same form (codes "make") then Make (value (second words))
    else if same form (codes "soak") then Soak (value (second words))
    else if same form (codes "serve") then Serve (value (third words))
    else if same form (codes "mount") then Mount (letter (third words))
    else if same form (codes "leases") then Leases (value (second words)) (value (third words))
    else MountTable (letter (second words))

asked : List (List ℕ) → Command
asked [] = Drill 0
asked (form ∷ words) = pick form (form ∷ words)

value-of : (w : List ℕ) (least most n : ℕ) → most < 2 ^ 64 → IsNumberIn least most w n → value w ≡ n
unfolding value
value-of w least most n lt x = ap value x.0 ∙ (decimal_is_IsNumeral n (omega (arith, lt, x.1.1))).1

letter-of : (w : List ℕ) (c : ℕ) → w ≡ (65 + c) ∷ [] → letter w ≡ c
unfolding letter
letter-of w c e = ap letter e ∙ less c
  where
    less : (c : ℕ) → (65 + c) - 65 ≡ c
    less c = omega arith

-- one less than a number within a million
below : (n : ℕ) → n ≤ 1000000 → n - 1 < 2 ^ 64
below n le = let big : 1000000 < 2 ^ 64 = lit< tt in omega (arith, le, big)

-- words ask for what they tell
spelled : (words : List (List ℕ)) (c : Command) → Spells words c → asked words ≡ c
unfolding asked pick same objects second third value letter
spelled words (Drill n) (inl x) = ap asked x.0 ∙ ap Drill (sym x.1)
spelled words (Drill n) (inr x) = ap asked x.1 ∙ ap Drill (value-of x.0 32 1024 n (lit< tt) x.2)
spelled words (Check n) (inl x) = ap asked x.0 ∙ ap Check (sym x.1)
spelled words (Check n) (inr x) = ap asked x.1 ∙ ap Check (value-of x.0 32 1024 n (lit< tt) x.2)
spelled words (Make n) x = ap asked x.1 ∙ ap Make (value-of x.0 0 (2 ^ 32 - 1) n (lit< tt) x.2)
spelled words (Soak n) x = ap asked x.1 ∙ ap Soak (value-of x.0 0 (2 ^ 32 - 1) n (lit< tt) x.2)
spelled words (Serve n) x = ap asked x.2 ∙ ap Serve (value-of x.1 1 1000000 n (lit< tt) x.4)
spelled words (Mount c) x = ap asked x.2 ∙ ap Mount (letter-of x.1 c x.4.0)
spelled words (Leases l e) x = ap asked x.2 ∙ ap (λ n. Leases n (value x.1)) (value-of x.0 1 1000000 l (lit< tt) x.3) ∙ ap (Leases l) (value-of x.1 0 (l - 1) e (below l x.3.1.1) x.4)
spelled words (MountTable c) x = ap asked x.2 ∙ ap MountTable (letter-of x.0 c x.3.0)

pub spells-once : (words : List (List ℕ)) (c d : Command) → Spells words c → Spells words d → c ≡ d
spells-once words c d s t = sym (spelled words c s) ∙ spelled words d t

-- words of leases whose second number is within no limits ask for nothing, a mount table aside
pub no-most : (a b : List ℕ) (n : ℕ) → IsNumberIn 1 1000000 a n → ((e : ℕ) → IsNumberIn 0 (n - 1) b e → ⊥) → (c : Command) → Spells (codes "leases" ∷ a ∷ b ∷ []) c → IsTable c
unfolding asked pick same second third value
no-most a b n is none c s =
    let words : List (List ℕ) = codes "leases" ∷ a ∷ b ∷ [] in
    let t : Spells words (Leases (value a) (value b)) = subst (λ (d : Command). Spells words d) (sym (spelled words c s)) s in
    let last : IsNumberIn 0 (value a - 1) b (value b) = subst (λ (w : List ℕ). IsNumberIn 0 (value a - 1) w (value b)) (sym (ap third t.2)) t.4 in
    absurd (none (value b) (subst (λ (k : ℕ). IsNumberIn 0 (k - 1) b (value b)) (value-of a 1 1000000 n (lit< tt) is) last))

-- words of no mount table ask for nothing, where they ask for none of the other commands
not-else : (words : List (List ℕ)) → ((c : ℕ) → SpellsMounts words c → ⊥) → (c : Command) → Spells words c → IsTable c → ⊥
not-else words none (Drill n) s t = t
not-else words none (Check n) s t = t
not-else words none (Make n) s t = t
not-else words none (Soak n) s t = t
not-else words none (Serve n) s t = t
not-else words none (Mount c) s t = t
not-else words none (Leases l e) s t = t
not-else words none (MountTable c) s t = none c s

pub asked-else : (words : List (List ℕ)) → ((c : ℕ) → SpellsMounts words c → ⊥) → (other : Option Command) → MatchOption other ((c : Command) → Spells words c → IsTable c) (λ c. Spells words c) → MatchOption other ((c : Command) → Spells words c → ⊥) (λ c. Spells words c)
asked-else words none None all = λ c s. not-else words none c s (all c s)
asked-else words none (Some c) s = s
