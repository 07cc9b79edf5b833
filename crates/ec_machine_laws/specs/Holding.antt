-- Which holders of an object conflict, and what is left of their tokens.
use Rattle.std.specs.Prelude.{◌≡◌, ◌==◌, ℕ, if◌then◌else◌, List, [], ◌∷◌, ⊤, T, false, Option, None, Some}
use Rattle.ec_base.specs.Holds.{is_free}
use Rattle.ec_base.specs.declared.ids.Hold.{Hold}
use Rattle.ec_base.specs.declared.ids.Hold.TheVariants.{Read, Write}
use Rattle.ec_volume.specs.Update.{member}
use Rattle.ec_sessions.specs.OfTokens.Tokens.{Holder, Tokens, token}
use Rattle.ec_sessions.specs.declared.tokens.token.Token.{Token}

-- one holder, which may write
abbrev pub IsWriter : List Holder → Type 0
IsWriter gs = (t : ℕ) × (n : ℕ) × (gs ≡ (t, Write, n) ∷ [])

abbrev pub AreReaders : List Holder → Type 0
AreReaders [] = ⊤
AreReaders (g ∷ gs) = (g.1 ≡ Read) × AreReaders gs

-- what is left of a token of this number that is given back to a mode
abbrev pub left_at : Hold → ℕ → Option Token
left_at to n = if is_free to then None else Some (record { hold = to; number = n })

-- on these objects no other session has a token
abbrev pub AreOwn : ℕ → List ℕ → Tokens → Type 0
AreOwn s xs ts = (x : ℕ) → T (member x xs) → (t : ℕ) → (t == s) ≡ false → token ts t x ≡ None
