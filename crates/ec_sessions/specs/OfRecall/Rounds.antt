-- What the actions of a round have in common.
use Rattle.std.specs.Prelude.{◌≡◌, ℕ, Bool, true, false, List, [], ◌∷◌}
use Rattle.ec_base.specs.Holds.{is_free, is_below}
use Rattle.ec_sessions.specs.declared.tokens.token.Token.{Token}
use Rattle.ec_sessions.specs.OfTokens.Tokens.{Tokens, token, is_clear, granted, Holder, conflicts}
use Rattle.ec_sessions.specs.declared.recall.want.Want.{Want}
use Rattle.ec_sessions.specs.declared.recall.want.Action.{Action}
use Rattle.ec_sessions.specs.declared.recall.want.Action.TheVariants.{Grant, Recall}
use Rattle.ec_sessions.specs.OfRecall.Due.{given_to, is_told, news, told_of}

abbrev pub is_grant : Action → Bool
is_grant (Grant s x h) = true
is_grant (Recall s x n h) = false

-- Each grant conflicts with no recorded token, and with no grant before it.
abbrev pub GrantsAreClear : Tokens → Tokens → List Action → Type 0
GrantsAreClear ts given [] = Unit {0}
GrantsAreClear ts given (Grant s x h ∷ more) = (is_clear ts s x h ≡ true) × (is_clear given s x h ≡ true) × GrantsAreClear ts (given_to s x h given) more
GrantsAreClear ts given (Recall s x n h ∷ more) = GrantsAreClear ts given more

-- No grant is Free, and each conflicts with no token of the table in which the grants before it are recorded, whatever their numbers.
abbrev pub GrantsGoIn : Tokens → List Action → Type 0
GrantsGoIn ts [] = Unit {0}
GrantsGoIn ts (Grant s x h ∷ more) = (is_free h ≡ false) × (is_clear ts s x h ≡ true) × ((n : ℕ) → GrantsGoIn (granted s x h n ts) more)
GrantsGoIn ts (Recall s x n h ∷ more) = GrantsGoIn ts more
