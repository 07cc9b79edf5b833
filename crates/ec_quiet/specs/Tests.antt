-- The phase of a scene as its messages tell it, and the facts of phases as tests that compute: so the definitions are tried on runs.
use Rattle.std.specs.Prelude.{◌==◌, ◌+◌, ◌-◌, ℕ, Bool, true, false, not, ◌&&◌, ◌||◌, nat_lt, nat_le, List, [], ◌∷◌, ◌++◌, map, filter, length, take, drop, Option, None, Some, is_none, is_some}
use Rattle.std.specs.List.{list_all, list_any}
use Rattle.std.specs.Ordering.{nat_cmp}
use Rattle.std.specs.FinMap.{is_sorted}
use Rattle.ec_base.specs.Tables.{Table, at, first, or_else}
use Rattle.ec_base.specs.Holds.{is_below, is_write, rank}
use Rattle.ec_base.specs.declared.ids.Hold.{Hold}
use Rattle.ec_base.specs.declared.ids.Hold.TheVariants.{Free, Write}
use Rattle.ec_volume.specs.Update.{member}
use Rattle.ec_plain.specs.declared.call.Call.{Call}
use Rattle.ec_sessions.specs.Limits.{ids_per_grant}
use Rattle.ec_sessions.specs.Slots.{is_greater, is_open, run}
use Rattle.ec_sessions.specs.declared.slot.Slot.{Slot}
use Rattle.ec_sessions.specs.OfTokens.Tokens.{Holder, conflicts, token}
use Rattle.ec_sessions.specs.declared.tokens.token.Token.{Token}
use Rattle.ec_sessions.specs.OfRecall.Due.{is_told, recall_to}
use Rattle.ec_sessions.specs.declared.recall.want.Want as noted
use Rattle.ec_wire.specs.declared.msg.Msg.{Msg}
use Rattle.ec_wire.specs.declared.msg.Msg.TheVariants as msg
use Rattle.ec_durable.specs.Durable.{slot}
use Rattle.ec_cache.specs.Cache.{last, mode}
use Rattle.ec_cache.specs.declared.state.Held.{Held}
use Rattle.ec_log.specs.declared.state.Asked.{Asked}
use Rattle.ec_log.specs.declared.state.Asked.TheVariants.{Object}
use Rattle.ec_log.specs.declared.state.LogState.{LogState}
use Rattle.ec_cache.specs.declared.resolve.verdict.Verdict.{Verdict}
use Rattle.ec_cache.specs.declared.resolve.verdict.Verdict.TheVariants.{Need, Lost, NeedIds, Done}
use Rattle.ec_protocol.specs.Clerk.{is_session, max_tokens, verdict}
use Rattle.ec_protocol.specs.Server.{all_claimed, has_claimed}
use Rattle.ec_protocol.specs.declared.clerk.Clerk.{Clerk}
use Rattle.ec_protocol.specs.declared.clerk.Recalled.{Recalled}
use Rattle.ec_protocol.specs.declared.clerk.Wanted.{Wanted}
use Rattle.ec_protocol.specs.declared.clerk.Waiting.{Waiting}
use Rattle.ec_protocol.specs.declared.server.Server.{Server}
use Rattle.ec_quiet.specs.Facts.{session_clerk as clerk_of, is_last, token_of}
use Rattle.ec_quiet.specs.Phases.{Phase, Greets, Opens, Claims, Wants, Recalls, Flushes, Keeps, Grants, Asks, Gives, Refuses, Saves, Saved, Ends, backs, excepted, is_busy, lowered_to, main, messages}
use Rattle.ec_quiet.specs.Scenes.{Mail, Scene}
use Rattle.ec_quiet.specs.Works.{Task, Calls, Pushes, Work, asked}

-- The phase.

abbrev pub is_needing : Verdict → Bool
is_needing (NeedIds xs) = true
is_needing _ = false

abbrev pub is_asking_again : Task → Option Clerk → Bool
is_asking_again (Calls cl) (Some k) = not (is_needing (verdict cl k))
is_asking_again _ _ = false

abbrev pub has_rest : Option Asked → ℕ → LogState → Bool
has_rest None b l = true
has_rest (Some a) b l = not (is_last a b l)

abbrev pub saving_rest : Task → ℕ → Option Clerk → Bool
saving_rest t b None = true
saving_rest t b (Some k) = has_rest (asked t k) b k.log

abbrev pub recalled_rest : ℕ → ℕ → Option Clerk → Bool
recalled_rest x b None = true
recalled_rest x b (Some k) = has_rest (Some (Object x)) b k.log

abbrev pub is_recall : ℕ × Msg → Bool
is_recall (c, msg.Recall s e x n h) = true
is_recall _ = false

abbrev pub wanted_first : Mail → Option (ℕ × Hold)
wanted_first ((c, msg.Want s e x h n) ∷ ms) = Some (x, h)
wanted_first _ = None

abbrev pub recalling : ℕ → Hold → List Holder → ℕ → Phase
recalling x h cs recalls = Recalls x h (drop (length cs - recalls) cs) (take (length cs - recalls) cs)

-- while a want is noted
abbrev pub phase_noted : Work → Scene → noted.Want → List Holder → Mail → Option Phase
phase_noted j sc w (r ∷ []) ((c, msg.Flush s e b ops) ∷ []) = Some (Flushes w.obj w.hold r b ops (recalled_rest w.obj b (at c sc.clerks)))
phase_noted j sc w (r ∷ []) ((c, msg.Kept s e b) ∷ []) = Some (Keeps w.obj w.hold r b (recalled_rest w.obj b (at c sc.clerks)))
phase_noted j sc w [] ms = None
phase_noted j sc w (r ∷ rs) ms = Some (recalling w.obj w.hold (r ∷ rs) (length (filter is_recall ms)))

abbrev pub phase_alone : Work → Scene → Mail → Option Phase
phase_alone j sc [] = Some Ends
phase_alone j sc ((c, msg.Hello from age) ∷ []) = Some (Greets age)
phase_alone j sc ((c, msg.Opened age s e) ∷ []) = Some (Opens age)
phase_alone j sc ((c, msg.Claim s e l) ∷ ms) = Some (Claims (wanted_first ms))
phase_alone j sc ((c, msg.Want s e x h n) ∷ []) = Some (Wants x h n)
phase_alone j sc ((c, msg.Grant s e x n h i) ∷ []) = Some (Grants x h n)
phase_alone j sc ((c, msg.Room s e got ask) ∷ []) = Some (Asks (is_asking_again j.task (at c sc.clerks)) got ask)
phase_alone j sc ((c, msg.Ids s e got n x) ∷ []) = Some (Gives got n x)
phase_alone j sc ((c, msg.NoRoom s e ask live reserved) ∷ []) = Some (Refuses (is_asking_again j.task (at c sc.clerks)) ask live reserved)
phase_alone j sc ((c, msg.Flush s e b ops) ∷ []) = Some (Saves b ops (saving_rest j.task b (at c sc.clerks)))
phase_alone j sc ((c, msg.Kept s e b) ∷ []) = Some (Saved b (saving_rest j.task b (at c sc.clerks)))
phase_alone j sc _ = None

abbrev pub phase_by : Work → Scene → List noted.Want → Mail → Option Phase
phase_by j sc [] ms = phase_alone j sc ms
phase_by j sc (w ∷ []) ms = elim (w.session == j.session) [ true ↦ phase_noted j sc w (conflicts sc.server.tokens j.session w.obj w.hold) ms | false ↦ None ]
phase_by j sc (w ∷ v ∷ ws) ms = None

abbrev pub phase_of : Work → Scene → Option Phase
phase_of j sc = phase_by j sc sc.server.recalls (main j sc.mail)

-- Its messages, by what they name.

abbrev pub name_of : Msg → List ℕ
name_of (msg.Hello c age) = 8 ∷ c ∷ age.boot ∷ age.round ∷ []
name_of (msg.Want s e x h n) = 2 ∷ s ∷ e ∷ x ∷ rank h ∷ n ∷ []
name_of (msg.Back s e x n h) = 3 ∷ s ∷ e ∷ x ∷ n ∷ rank h ∷ []
name_of (msg.Flush s e b ops) = 4 ∷ s ∷ e ∷ b ∷ map (λ op. op.0) ops
name_of (msg.Room s e got ask) = 5 ∷ s ∷ e ∷ got ∷ ask ∷ []
name_of (msg.Claim s e l) = 6 ∷ s ∷ e ∷ length l ∷ []
name_of (msg.Opened age s e) = 65 ∷ age.boot ∷ age.round ∷ s ∷ e ∷ []
name_of (msg.Grant s e x n h i) = 66 ∷ s ∷ e ∷ x ∷ n ∷ rank h ∷ []
name_of (msg.Recall s e x n h) = 67 ∷ s ∷ e ∷ x ∷ n ∷ rank h ∷ []
name_of (msg.Kept s e b) = 68 ∷ s ∷ e ∷ b ∷ []
name_of (msg.Ids s e got n x) = 69 ∷ s ∷ e ∷ got ∷ n ∷ x ∷ []
name_of (msg.NoRoom s e ask live reserved) = 70 ∷ s ∷ e ∷ ask ∷ live ∷ reserved ∷ []
name_of _ = []

abbrev pub same_numbers : List ℕ → List ℕ → Bool
same_numbers [] [] = true
same_numbers (x ∷ xs) (y ∷ ys) = (x == y) && same_numbers xs ys
same_numbers _ _ = false

abbrev pub same_mail : Mail → Mail → Bool
same_mail [] [] = true
same_mail (m ∷ ms) (n ∷ ns) = (m.0 == n.0) && same_numbers (name_of m.1) (name_of n.1) && same_mail ms ns
same_mail _ _ = false

-- Facts.

abbrev pub is_empty : {A : Type 0} → List A → Bool
is_empty [] = true
is_empty (x ∷ xs) = false

abbrev pub same_token : Option Token → Option Token → Bool
same_token None None = true
same_token (Some t) (Some u) = (rank t.hold == rank u.hold) && (t.number == u.number)
same_token _ _ = false

-- all ids that were given out
abbrev pub ids_of : Server → List ℕ
ids_of v = run 0 v.durable.next_id

abbrev pub is_same : Server → ℕ → Clerk → ℕ → Bool
is_same v s k x = same_token (token v.tokens s x) (token_of (at x k.cache.held))

abbrev pub are_same_but : List ℕ → Server → ℕ → Clerk → Bool
are_same_but xs v s k = list_all (λ x. member x xs || is_same v s k x) (ids_of v)

abbrev pub is_slot_of : Server → ℕ → Option Slot → Bool
is_slot_of v c None = true
is_slot_of v c (Some sl) = (clerk_of v sl.session == c) && nat_lt sl.session v.durable.next_session

abbrev pub runs_if_open : Table Clerk → ℕ → Option Slot → Bool
runs_if_open clerks c sl = not (is_open sl) || is_some (at c clerks)

abbrev pub session_in : Option Slot → ℕ
session_in None = 0
session_in (Some sl) = sl.session

abbrev pub is_of_open : Server → ℕ × List (ℕ × Token) → Bool
is_of_open v r = is_open (slot v.durable (clerk_of v r.0)) && (session_in (slot v.durable (clerk_of v r.0)) == r.0)

abbrev pub is_orderly : Server → Table Clerk → Bool
is_orderly v clerks =
    all_claimed v && (length v.durable.sessions == 16) && is_sorted nat_cmp clerks && list_all (λ c. is_slot_of v c (slot v.durable c) && runs_if_open clerks c (slot v.durable c)) (run 0 16) && list_all (is_of_open v) v.tokens

abbrev pub has_last : Clerk → ℕ × Held → Bool
has_last k e = (e.1).number == last e.0 k.cache

abbrev pub is_in : Server → ℕ → Slot → Clerk → Bool
is_in v c sl k =
    sl.is_open && is_session sl.session k.session && (k.epoch == v.durable.epoch) && has_claimed sl.session v && is_empty k.owed && list_all (has_last k) k.cache.held
    && list_all (λ x. nat_le (last x k.cache) v.number) (ids_of v) && nat_le (length k.cache.held) max_tokens

abbrev pub is_answered : Clerk → Wanted → Bool
is_answered k w = nat_lt w.last (last w.obj k.cache)

abbrev pub lacks : ℕ → Slot → LogState → Bool
lacks n sl l = (sl.window.low + n + 1 == l.next_batch) && (sl.window.mask == 0)

abbrev pub is_idle_but : List ℕ → Server → ℕ → Option Slot → Clerk → Bool
is_idle_but xs v c None k = false
is_idle_but xs v c (Some sl) k =
    is_in v c sl k && is_empty k.recalls && is_empty k.cache.limits && is_empty k.log.batches && is_empty k.waiting && is_empty k.pushes && is_none k.asking && lacks 0 sl k.log && (sl.grants == k.got)
    && list_all (is_answered k) k.wanted && are_same_but xs v sl.session k

abbrev pub are_idle : Work → Scene → Phase → Bool
are_idle j sc p = list_all (λ e. (e.0 == j.clerk) || is_busy sc p e.0 || is_idle_but (excepted sc p e.0) sc.server e.0 (slot sc.server.durable e.0) e.1) sc.clerks

-- the line's clerk

abbrev pub is_one_call : ℕ → List Waiting → Bool
is_one_call next (w ∷ []) = w.begun + 1 == next
is_one_call next _ = false

abbrev pub is_doing : Task → Clerk → Bool
is_doing (Calls cl) k = is_one_call k.log.next k.waiting && is_empty k.pushes
is_doing (Pushes n) k = is_empty k.waiting && same_numbers k.pushes (n ∷ [])

abbrev pub is_done : Clerk → Bool
is_done k = is_empty k.waiting && is_empty k.pushes

abbrev pub is_working : List ℕ → Work → Scene → Slot → Clerk → Bool
is_working xs j sc sl k = is_in sc.server j.clerk sl k && (sl.session == j.session) && is_empty k.recalls && is_empty k.cache.limits && are_same_but xs sc.server j.session k

abbrev pub wants_first : ℕ → Hold → ℕ → List Wanted → Bool
wants_first x h n [] = false
wants_first x h n (w ∷ ws) = (w.obj == x) && (rank w.hold == rank h) && (w.last == n)

abbrev pub is_wanting : List ℕ → Work → Scene → ℕ → Hold → ℕ → Slot → Clerk → Bool
is_wanting xs j sc x h n sl k =
    is_working xs j sc sl k && is_doing j.task k && is_none k.asking && is_empty k.log.batches && lacks 0 sl k.log && (sl.grants == k.got) && member x j.touched && (last x k.cache == n) && is_below (mode x k.cache) h
    && (length (filter (λ w. not (is_answered k w)) k.wanted) == 1) && wants_first x h n k.wanted

abbrev pub is_asking : List ℕ → Work → Scene → Bool → ℕ → Slot → Clerk → Bool
is_asking xs j sc again ask sl k =
    is_working xs j sc sl k && is_doing j.task k && is_session ask k.asking && is_empty k.ids && is_empty k.log.batches && lacks 0 sl k.log && list_all (is_answered k) k.wanted

abbrev pub is_sending : LogState → ℕ → Bool
is_sending l b = same_numbers (map (λ e. e.0) l.batches) (b ∷ []) && (l.next_batch == b + 1)

abbrev pub is_saving : ℕ → Work → Scene → ℕ → Slot → Clerk → Bool
is_saving n j sc b sl k = is_working [] j sc sl k && is_doing j.task k && is_none k.asking && is_sending k.log b && lacks n sl k.log && (sl.grants == k.got) && list_all (is_answered k) k.wanted

abbrev pub has_ended : Work → Scene → Slot → Clerk → Bool
has_ended j sc sl k = is_working [] j sc sl k && is_done k && is_none k.asking && is_empty k.log.batches && lacks 0 sl k.log && (sl.grants == k.got) && list_all (is_answered k) k.wanted

abbrev pub is_recalled_at : ℕ → Scene → ℕ → Hold → Holder → ℕ → Option Slot → Option Clerk → Bool
is_recalled_at n sc x h r b (Some sl) (Some k) =
    is_in sc.server (clerk_of sc.server r.0) sl k && is_empty k.waiting && is_empty k.pushes && is_none k.asking && list_all (λ q. (q.obj == x) && (q.number == r.2) && (rank q.to == rank (recall_to h))) k.recalls
    && (length k.recalls == 1) && list_all (λ e. (e.0 == x) && (rank e.1 == rank (recall_to h))) k.cache.limits && (length k.cache.limits == 1)
    && is_sending k.log b && lacks n sl k.log && are_same_but [] sc.server r.0 k && is_write r.1 && list_all (is_answered k) k.wanted && (sl.grants == k.got)
is_recalled_at n sc x h r b _ _ = false

abbrev pub is_recalled : ℕ → Scene → ℕ → Hold → Holder → ℕ → Bool
is_recalled n sc x h r b = is_recalled_at n sc x h r b (slot sc.server.durable (clerk_of sc.server r.0)) (at (clerk_of sc.server r.0) sc.clerks)

abbrev pub are_holders : List Holder → List Holder → Bool
are_holders [] [] = true
are_holders (q ∷ qs) (r ∷ rs) = (q.0 == r.0) && (rank q.1 == rank r.1) && (q.2 == r.2) && are_holders qs rs
are_holders _ _ = false

abbrev pub is_noted : Work → Scene → ℕ → Hold → List Holder → Slot → Clerk → Bool
is_noted j sc x h cs sl k =
    is_wanting [] j sc x h (last x k.cache) sl k && are_holders (conflicts sc.server.tokens j.session x h) cs && not (is_empty cs)
    && list_all (λ w. (w.session == j.session) && (w.obj == x) && (rank w.hold == rank h) && (length w.told == length cs) && list_all (is_told w.told) cs) sc.server.recalls && (length sc.server.recalls == 1)

abbrev pub has_lowered : ℕ → Hold → ℕ → Option Clerk → Bool
has_lowered x h n None = false
has_lowered x h n (Some k) = same_token (token_of (at x k.cache.held)) (lowered_to (recall_to h) n) && nat_le n (last x k.cache)

abbrev pub has_given_back : Scene → ℕ → Hold → Holder → Bool
has_given_back sc x h r = has_lowered x h r.2 (at (clerk_of sc.server r.0) sc.clerks)

abbrev pub is_need_of : List ℕ → Verdict → Bool
is_need_of xs (Need x h) = member x xs
is_need_of xs _ = false

abbrev pub lacks_token : List ℕ → Task → Clerk → Bool
lacks_token xs (Calls cl) k = is_need_of xs (verdict cl k)
lacks_token xs (Pushes n) k = false

abbrev pub is_starting : Work → Scene → Clerk → Bool
is_starting j sc k = is_empty (backs j sc.mail) && is_none k.session && is_empty k.cache.held && is_empty k.log.undurable && (is_done k || (is_doing j.task k && lacks_token j.touched j.task k)) && list_all (λ x. is_none (token sc.server.tokens j.session x)) (ids_of sc.server)

abbrev pub none_noted : Scene → Bool
none_noted sc = is_empty sc.server.recalls

-- the facts of a phase in which the clerk has a session
abbrev pub facts_inside : Work → Scene → Slot → Clerk → Phase → Bool
facts_inside j sc sl k (Greets age) = false
facts_inside j sc sl k (Opens age) = none_noted sc && has_claimed j.session sc.server && is_starting j sc k && sl.is_open && (sl.session == j.session) && (sl.grants == 0) && (sl.window.low == 0) && (sl.window.mask == 0)
facts_inside j sc sl k (Claims None) = none_noted sc && has_ended j sc sl k
facts_inside j sc sl k (Claims (Some p)) = none_noted sc && is_wanting [] j sc p.0 p.1 0 sl k
facts_inside j sc sl k (Wants x h n) = none_noted sc && is_wanting [] j sc x h n sl k
facts_inside j sc sl k (Recalls x h rs bs) = is_noted j sc x h (bs ++ rs) sl k && list_all (has_given_back sc x h) bs
facts_inside j sc sl k (Flushes x h r b ops rest) = is_noted j sc x h (r ∷ []) sl k && is_recalled 1 sc x h r b
facts_inside j sc sl k (Keeps x h r b rest) = is_noted j sc x h (r ∷ []) sl k && is_recalled 0 sc x h r b
facts_inside j sc sl k (Grants x h n) = none_noted sc && same_token (token sc.server.tokens j.session x) (Some (record { hold = h; number = n })) && is_wanting (x ∷ []) j sc x h (last x k.cache) sl k && nat_lt (last x k.cache) n && nat_lt j.number n
facts_inside j sc sl k (Asks again got ask) = none_noted sc && is_asking [] j sc again ask sl k && (got == k.got) && (sl.grants == got)
facts_inside j sc sl k (Gives got n x) =
    none_noted sc && is_asking (run x ids_per_grant) j sc true (or_else 0 k.asking) sl k && (got == k.got) && (sl.grants == got + 1)
    && list_all (λ y. same_token (token sc.server.tokens j.session y) (Some (record { hold = Write; number = n })) && nat_lt (last y k.cache) n) (run x ids_per_grant)
facts_inside j sc sl k (Refuses again ask live reserved) = none_noted sc && is_asking [] j sc again ask sl k && (sl.grants == k.got)
facts_inside j sc sl k (Saves b ops rest) = none_noted sc && is_saving 1 j sc b sl k
facts_inside j sc sl k (Saved b rest) = none_noted sc && is_saving 0 j sc b sl k
facts_inside j sc sl k Ends = none_noted sc && has_ended j sc sl k

abbrev pub facts_of : Work → Scene → Option Slot → Option Clerk → Phase → Bool
facts_of j sc sl (Some k) (Greets age) = none_noted sc && is_starting j sc k && not (is_open sl) && is_greater sl age && (j.session == sc.server.durable.next_session)
facts_of j sc (Some sl) (Some k) p = facts_inside j sc sl k p
facts_of j sc _ _ p = false

-- all facts of the phase, but on tokens on their way back
abbrev pub is_phase : Work → Scene → Phase → Bool
is_phase j sc p =
    nat_le j.number sc.server.number && same_mail (main j sc.mail) (messages j sc p) && is_orderly sc.server sc.clerks && are_idle j sc p && facts_of j sc (slot sc.server.durable j.clerk) (at j.clerk sc.clerks) p

-- all is quiet
abbrev pub is_idle : Scene → Bool
is_idle sc = is_empty sc.mail && is_empty sc.server.recalls && is_orderly sc.server sc.clerks && list_all (λ e. is_idle_but [] sc.server e.0 (slot sc.server.durable e.0) e.1) sc.clerks
