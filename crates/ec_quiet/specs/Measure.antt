-- A bound on the work that is left in a line, as a number: each delivery lowers it by at least 32. It's the tokens that are still to be granted, those
-- that others have to give back for that, the operations that have to become durable, and the messages under way.
use Rattle.std.specs.Prelude.{◌==◌, ◌+◌, ◌*◌, ◌-◌, ℕ, Bool, true, false, not, ◌&&◌, nat_lt, List, [], ◌∷◌, filter, length, Option, None, Some}
use Rattle.std.specs.List.{list_any}
use Rattle.ec_base.specs.Tables.{Table, at}
use Rattle.ec_base.specs.Holds.{clash, rank}
use Rattle.ec_base.specs.declared.ids.Hold.{Hold}
use Rattle.ec_volume.specs.Update.{member}
use Rattle.ec_sessions.specs.OfTokens.Tokens.{Holder, Tokens, holders, token}
use Rattle.ec_sessions.specs.declared.tokens.token.Token.{Token}
use Rattle.ec_sessions.specs.OfRecall.Due.{recall_to}
use Rattle.ec_log.specs.declared.state.LogState.{LogState}
use Rattle.ec_protocol.specs.declared.clerk.Clerk.{Clerk}
use Rattle.ec_protocol.specs.declared.clerk.Waiting.{Waiting}
use Rattle.ec_quiet.specs.Phases.{Phase, Greets, Opens, Claims, Wants, Recalls, Flushes, Keeps, Grants, Asks, Gives, Refuses, Saves, Saved, Ends, backs}
use Rattle.ec_quiet.specs.Scenes.{Scene}
use Rattle.ec_quiet.specs.Works.{Work, is_saving}

abbrev pub sum : {A : Type 0} → (A → ℕ) → List A → ℕ
sum f [] = 0
sum f (x ∷ xs) = f x + sum f xs

-- Tokens of the line's clerk.

-- the want that is noted in a phase
abbrev pub Noted : Type 0
Noted = Option (ℕ × Hold)

abbrev pub noted_in : Phase → Noted
noted_in (Recalls x h rs bs) = Some (x, h)
noted_in (Flushes x h r b ops rest) = Some (x, h)
noted_in (Keeps x h r b rest) = Some (x, h)
noted_in _ = None

abbrev pub noted_at : Noted → ℕ → Option Hold
noted_at None x = None
noted_at (Some p) x = elim (p.0 == x) [ true ↦ Some p.1 | false ↦ None ]

-- A token counts if it was granted in this line: an older one may be evicted and wanted again.
abbrev pub fresh_rank : ℕ → Option Token → ℕ
fresh_rank n None = 0
fresh_rank n (Some t) = elim (nat_lt n t.number) [ true ↦ rank t.hold | false ↦ 0 ]

-- the rank that the clerk has on an object, or is about to have
abbrev pub own_rank : Option Hold → ℕ → Option Token → ℕ
own_rank (Some h) n t = rank h
own_rank None n t = fresh_rank n t

-- A rank costs a want and a grant, a token that goes back since there are too many, and one more asking for ids.
abbrev pub rank_price : ℕ
rank_price = 672

abbrev pub own_price : Work → Noted → Tokens → ℕ → ℕ
own_price j w ts x = rank_price * (2 - own_rank (noted_at w x) j.number (token ts j.session x))

-- Tokens of other clerks on the same objects.

-- a holder that conflicts with a noted want was recalled, and keeps what it's recalled to
abbrev pub left_by : Option Hold → Hold → Hold
left_by None h = h
left_by (Some w) h = elim (clash h w) [ true ↦ recall_to w | false ↦ h ]

abbrev pub holder_price : ℕ → Option Hold → Holder → ℕ
holder_price s w r = elim (r.0 == s) [ true ↦ 0 | false ↦ 128 * rank (left_by w r.1) ]

abbrev pub others_price : Work → Noted → Tokens → ℕ → ℕ
others_price j w ts x = sum (holder_price j.session (noted_at w x)) (holders ts x)

-- Operations that have to become durable: those that are undurable and in no batch under way, of the other clerks; of this one too where it's at that.

abbrev pub is_under_way : LogState → ℕ → Bool
is_under_way l n = list_any (λ b. member n b.1) l.batches

abbrev pub unsent : LogState → ℕ
unsent l = length (filter (λ op. not (is_under_way l op.0)) l.undurable)

abbrev pub unsent_by : Work → ℕ × Clerk → ℕ
unsent_by j e = elim ((e.0 == j.clerk) && not (is_saving j.task)) [ true ↦ 0 | false ↦ unsent (e.1).log ]

-- Ids: while it waits without any and asks for none, it may still ask.

abbrev pub asks_later : List Waiting → List ℕ → Option ℕ → ℕ
asks_later [] ids asking = 0
asks_later (w ∷ ws) [] None = 576
asks_later (w ∷ ws) (x ∷ ids) asking = 0
asks_later (w ∷ ws) [] (Some n) = 0

abbrev pub asks_later_by : Option Clerk → ℕ
asks_later_by None = 0
asks_later_by (Some k) = asks_later k.waiting k.ids k.asking

-- Messages.

abbrev pub if_more : Bool → ℕ → ℕ
if_more true n = n
if_more false n = 0

abbrev pub weight : Phase → ℕ
weight (Greets age) = 96
weight (Opens age) = 64
weight (Claims o) = 32
weight (Wants x h n) = 0
weight (Recalls x h rs bs) = 640 + 128 * length rs + 32 * length bs
weight (Flushes x h r b ops rest) = 640 + 96 + if_more rest 64
weight (Keeps x h r b rest) = 640 + 64 + if_more rest 64
weight (Grants x h n) = 640
weight (Asks again got ask) = 576 + if_more again 576
weight (Gives got n first) = 544
weight (Refuses again ask live reserved) = 32 + if_more again 576
weight (Saves b ops rest) = 64 + if_more rest 64
weight (Saved b rest) = 32 + if_more rest 64
weight Ends = 0

-- what a call that waits for durable operations may still send, while its first batch isn't under way
abbrev pub is_before_saving : Phase → Bool
is_before_saving (Saves b ops rest) = false
is_before_saving (Saved b rest) = false
is_before_saving Ends = false
is_before_saving _ = true

abbrev pub saving_price : Work → Phase → ℕ
saving_price j p = if_more (is_saving j.task && is_before_saving p) 64

-- The measure.

-- what doesn't stand in messages
abbrev pub base : Work → Noted → Tokens → Table Clerk → ℕ
base j w ts clerks = sum (own_price j w ts) j.touched + sum (others_price j w ts) j.touched + sum (unsent_by j) clerks + asks_later_by (at j.clerk clerks)

abbrev pub measure : Work → Scene → Phase → ℕ
measure j sc p = base j (noted_in p) sc.server.tokens sc.clerks + weight p + saving_price j p + 32 * length (backs j sc.mail)
