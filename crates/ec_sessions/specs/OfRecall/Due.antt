-- What is due to the wants that wait, and which of them stay.
use Rattle.std.specs.Prelude.{◌==◌, ℕ, Bool, not, ◌&&◌, if◌then◌else◌, List, [], ◌∷◌, ◌++◌, map, filter}
use Rattle.std.specs.List.{list_any}
use Rattle.ec_base.specs.declared.ids.Hold.{Hold}
use Rattle.ec_base.specs.declared.ids.Hold.TheVariants.{Free, Read}
use Rattle.ec_base.specs.Holds.{is_write}
use Rattle.ec_sessions.specs.OfTokens.Tokens.{Tokens, Holder, conflicts, is_clear, granted}
use Rattle.ec_sessions.specs.declared.recall.want.Want.{Want}
use Rattle.ec_sessions.specs.declared.recall.want.Action.{Action}
use Rattle.ec_sessions.specs.declared.recall.want.Action.TheVariants.{Grant, Recall}

-- The want conflicts with no recorded token, and with no grant before it in the list.
abbrev pub is_due : Tokens → Tokens → Want → Bool
is_due ts given w = is_clear ts w.session w.obj w.hold && is_clear given w.session w.obj w.hold

-- The grants of the list so far, as tokens, and one more.
abbrev pub given_to : ℕ → ℕ → Hold → Tokens → Tokens
given_to s x h given = granted s x h 0 given

-- The holder's token, by its number, was recalled for the want since its last noting.
abbrev pub is_told : List (ℕ × ℕ) → Holder → Bool
is_told told holder = list_any (λ t. (t.0 == holder.0) && (t.1 == holder.2)) told

-- The holders that conflict with the want and weren't told, in session order.
abbrev pub news : Tokens → Want → List Holder
news ts w = filter (λ holder. not (is_told w.told holder)) (conflicts ts w.session w.obj w.hold)

-- A reader needs the others down to Read, a writer down to Free.
abbrev pub recall_to : Hold → Hold
recall_to h = if is_write h then Free else Read

abbrev pub recall_of : Want → Holder → Action
recall_of w holder = Recall holder.0 w.obj holder.2 (recall_to w.hold)

abbrev pub told_of : Holder → ℕ × ℕ
told_of holder = (holder.0, holder.2)

-- What one want gets: its grant, or the recalls that weren't told.
abbrev pub answer : Tokens → Tokens → Want → List Action
answer ts given w = if is_due ts given w then Grant w.session w.obj w.hold ∷ [] else map (recall_of w) (news ts w)

-- A want that is granted leaves; another one stays. Each holder that conflicts with it was then told, now or before. Earlier ones needn't be
-- kept: a token's mode only falls and its number never comes back.
abbrev pub stay : Tokens → Tokens → Want → List Want
stay ts given w = if is_due ts given w then [] else record w { told = map told_of (conflicts ts w.session w.obj w.hold) } ∷ []

abbrev pub given_after : Tokens → Tokens → Want → Tokens
given_after ts given w = if is_due ts given w then given_to w.session w.obj w.hold given else given

-- The actions that are due, in the order of arrival, where some grants stand before them in the list.
abbrev pub actions_from : Tokens → Tokens → List Want → List Action
actions_from ts given [] = []
actions_from ts given (w ∷ ws) = answer ts given w ++ actions_from ts (given_after ts given w) ws

-- The wants that stay behind these actions.
abbrev pub wants_from : Tokens → Tokens → List Want → List Want
wants_from ts given [] = []
wants_from ts given (w ∷ ws) = stay ts given w ++ wants_from ts (given_after ts given w) ws

abbrev pub actions : Tokens → List Want → List Action
actions ts ws = actions_from ts [] ws

abbrev pub wants_after : Tokens → List Want → List Want
wants_after ts ws = wants_from ts [] ws
