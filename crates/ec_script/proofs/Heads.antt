-- A line begins with one thing.
use Rattle.std.proofs.Common.{subst, refl, Result, Ok, Err, MatchResult}
use Rattle.ec_plain.specs.declared.call.Call.{Call}
use Rattle.ec_words.specs.declared.cursor.Misfit.{Misfit}
use Rattle.ec_words.specs.declared.cursor.Misfit.TheVariants as misfit
use Rattle.ec_words.specs.RowsLeft.{IsMisfit, joined_len}
use Rattle.ec_words.specs.Calls.{SpellsCall}
use Rattle.ec_words.proofs.Misfits.{choice_lacks, choice_has, choice_is, made}
use Rattle.ec_script.specs.declared.line.Line.{Line}
use Rattle.ec_script.specs.declared.line.Line.TheVariants as line
use Rattle.ec_script.specs.Grammar.{Says}
use Rattle.ec_script.specs.Heads.{a_line}
use Rattle.std.proofs.Common.{inl, inr, ◌≡◌, ℕ, ◌+◌, [], ◌∷◌, List, length, get_or, sym, ap, ◌∙◌, arith}
use Rattle.ec_words.specs.declared.name.Keyword.{Keyword}
use Rattle.ec_words.specs.Rows.{Word}
use Rattle.ec_words.specs.Spelling.{IsClerk, IsKeyword, keyword_name}
use Rattle.ec_script.specs.Grammar.{Head, IsHead, Begun, Spells}
use Rattle.ec_words.proofs.Named.{keyword_once, keyword_long}

pub cons_not_nil : (w : Word) (ws : List Word) → w ∷ ws ≡ [] → ⊥
cons_not_nil w ws e = cc

pub first_of : (w : Word) (a b : ℕ) → w ≡ a ∷ [] → w ≡ b ∷ [] → a ≡ b
first_of w a b e f = ap (λ v. get_or v 0 0) (sym e ∙ f)

pub clerk_once : (w : Word) (c d : ℕ) → IsClerk w c → IsClerk w d → c ≡ d
clerk_once w c d g h = omega (arith, first_of w (65 + c) (65 + d) g.0 h.0)

-- a clerk's word is shorter than a keyword
clerk_or_keyword : (w : Word) (c : ℕ) (k : Keyword) → IsClerk w c → IsKeyword w k → ⊥
clerk_or_keyword w c k g h = let e : 1 ≡ length (keyword_name k) = ap length (sym g.0 ∙ h) in omega (arith, keyword_long k, e)

pub head_once : (w : Word) (h i : Head) → IsHead w h → IsHead w i → h ≡ i
head_once w (inl c) (inl d) g h = ap inl (clerk_once w c d g h)
head_once w (inl c) (inr k) g h = absurd (clerk_or_keyword w c k g h)
head_once w (inr k) (inl c) g h = absurd (clerk_or_keyword w c k h g)
head_once w (inr k) (inr l) g h = ap inr (keyword_once w k l g h)

-- a word that is neither
pub no_head : (w : Word) → ((c : ℕ) → IsClerk w c → ⊥) → ((k : Keyword) → IsKeyword w k → ⊥) → (h : Head) → IsHead w h → ⊥
no_head w a b (inl c) g = a c g
no_head w a b (inr k) g = b k g

pub first_is : (v w : Word) (vs ws : List Word) → v ∷ vs ≡ w ∷ ws → v ≡ w
first_is v w vs ws e = cc

pub missing : (ws : List Word) → ws ≡ [] → IsMisfit Spells ws (misfit.Unfit 0)
missing ws is = choice_lacks IsHead Begun ws (misfit.Unfit 0) a_line (subst (λ d. 0 ≡ joined_len d) (sym is) refl, λ w rest h e g. cons_not_nil w rest (sym e ∙ is))

pub unknown : (ws : List Word) (w : Word) (rest : List Word) (n : ℕ) → ws ≡ w ∷ rest → n ≡ joined_len ws → ((c : ℕ) → IsClerk w c → ⊥) → ((k : Keyword) → IsKeyword w k → ⊥) → IsMisfit Spells ws (misfit.Unfit n)
unknown ws w rest n is len a b = choice_lacks IsHead Begun ws (misfit.Unfit n) a_line (len, λ v others h e g. no_head w a b h (subst (λ u. IsHead u h) (first_is v w others rest (sym e ∙ is)) g))

-- what stands behind a clerk, or behind a keyword
pub behind_clerk : (ws : List Word) (w : Word) (rest : List Word) (c : ℕ) (e : Misfit) → ws ≡ w ∷ rest → IsClerk w c → IsMisfit SpellsCall rest e → IsMisfit Spells ws e
behind_clerk ws w rest c e is p r = choice_has IsHead Begun ws w rest (inl c) e (λ u q. head_once w u (inl c) q p) is p (made SpellsCall (line.Call c) rest e r)

pub called : (ws : List Word) (w : Word) (rest : List Word) (c : ℕ) (a : Call) → ws ≡ w ∷ rest → IsClerk w c → SpellsCall rest a → Spells ws (line.Call c a)
called ws w rest c a is p g = choice_is IsHead Begun ws w rest (inl c) (line.Call c a) is p (a, (g, refl))

pub behind_keyword : (ws : List Word) (w : Word) (rest : List Word) (k : Keyword) (r : Result Line Misfit) → ws ≡ w ∷ rest → IsKeyword w k → MatchResult r (Says k rest) (IsMisfit (Says k) rest) → MatchResult r (Spells ws) (IsMisfit Spells ws)
behind_keyword ws w rest k (Ok l) is p g = choice_is IsHead Begun ws w rest (inr k) l is p g
behind_keyword ws w rest k (Err e) is p r = choice_has IsHead Begun ws w rest (inr k) e (λ u q. head_once w u (inr k) q p) is p r
