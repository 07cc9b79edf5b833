-- Tokens that don't conflict, rows of them in order, and what may be claimed.
use Rattle.std.specs.Prelude.{◌≡◌, ◌≢◌, ◌==◌, ℕ, Bool, true, false, not, ◌&&◌, T, List, [], ◌∷◌, length, nat_lt, Some}
use Rattle.std.specs.List.{list_all}
use Rattle.std.specs.Ordering.{nat_cmp}
use Rattle.std.specs.FinMap.{find, is_sorted}
use Rattle.ec_base.specs.declared.ids.Hold.{Hold}
use Rattle.ec_sessions.specs.declared.tokens.token.Token.{Token}
use Rattle.ec_base.specs.Holds.{is_free, clash}
use Rattle.ec_sessions.specs.OfTokens.Tokens.{Row, Tokens, token, mode}

-- No two tokens conflict: of two sessions' tokens on one object none is Write while the other isn't Free.
abbrev pub AllApart : Tokens → Type 0
AllApart ts = (s t x : ℕ) → s ≢ t → clash (mode (token ts s x)) (mode (token ts t x)) ≡ false

-- A token that is recorded isn't Free.
abbrev pub NoneFree : Tokens → Type 0
NoneFree ts = (s x : ℕ) (t : Token) → token ts s x ≡ Some t → is_free t.hold ≡ false

-- Each row has a token, and its objects rise.
abbrev pub is_row : Row → Bool
is_row r = not (length r == 0) && is_sorted nat_cmp r

pub record IsSound (ts : Tokens) : Type 0 where
  pub apart : AllApart ts
  pub held : NoneFree ts
  pub rising : T (is_sorted nat_cmp ts)
  pub rows : (s : ℕ) (r : Row) → find nat_cmp s ts ≡ Some r → T (is_row r)

-- What may be claimed: the ids rise, from 1, and no mode is Free.
abbrev pub rises_from : ℕ → List (ℕ × Hold) → Bool
rises_from x [] = true
rises_from x (e ∷ es) = nat_lt x e.0 && rises_from e.0 es

abbrev pub is_claim : List (ℕ × Hold) → Bool
is_claim list = rises_from 0 list && list_all (λ e. not (is_free e.1)) list
