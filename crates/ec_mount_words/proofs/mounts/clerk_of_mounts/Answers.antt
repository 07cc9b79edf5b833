use Rattle.std.proofs.Common.{◌≡◌, ◌∙◌, ℕ, ◌-◌, ◌≤◌, List, [], ◌∷◌, length, get_or, take, drop, Option, ap, subst, arith}
use Rattle.std.specs.Prelude.{map, MatchOption}
use Rattle.std.proofs.lemmas.List.{take_rest}
use Rattle.std.specs.String.{string_bytes}
use Rattle.ec_mount_words.specs.Mounts.{SpellsMounts}
use Rattle.ec_mount_words.proofs.mounts.clerk_of_mounts.Goals as goal

module _ {X : Type 0} (f : X → List ℕ) where
  two_first : (xs rest : List X) (x y : X) (a b : List ℕ) → rest ≡ drop 2 xs → 2 ≤ length xs → x ≡ get_or xs 0 x → y ≡ get_or xs 1 y → a ≡ f x → b ≡ f y → a ∷ b ∷ map f rest ≡ map f xs
  two_first [] rest x y a b behind two isx isy ea eb = absurd (omega (arith, two))
  two_first (p ∷ []) rest x y a b behind two isx isy ea eb = absurd (omega (arith, two))
  two_first (p ∷ q ∷ xs) rest x y a b behind two isx isy ea eb = ap (λ (t : List X). a ∷ b ∷ map f t) behind ∙ ap (λ (t : List ℕ). t ∷ b ∷ map f xs) (ea ∙ ap f isx) ∙ ap (λ (t : List ℕ). f p ∷ t ∷ map f xs) (eb ∙ ap f isy)

-- what is said of words is said of those that equal them
alike : (r : Option ℕ) (one other : List (List ℕ)) → one ≡ other → MatchOption r ((c : ℕ) → SpellsMounts one c → ⊥) (λ c. SpellsMounts one c) → MatchOption r ((c : ℕ) → SpellsMounts other c → ⊥) (λ c. SpellsMounts other c)
alike r one other same = subst (λ (ws : List (List ℕ)). MatchOption r ((c : ℕ) → SpellsMounts ws c → ⊥) (λ c. SpellsMounts ws c)) same

pub returns-in-len2-up : goal.returns-in-len2-up
returns-in-len2-up c =
    let words = c.args.words.now in
    let rest = take (length words - 2) (drop 2 words) in
    let same = two_first string_bytes words rest c.word-item.result c.letter-item.result c.as_bytes.result.now c.as_bytes-in-len2-up.result.now (take_rest words 2) c.in-len2-up.len_at_least c.word-item.is c.letter-item.is c.as_bytes.ensures.value c.as_bytes-in-len2-up.ensures.value in
    alike c.clerk_of_words.result (c.as_bytes.result.now ∷ c.as_bytes-in-len2-up.result.now ∷ map string_bytes rest) (map string_bytes words) same c.clerk_of_words.ensures
