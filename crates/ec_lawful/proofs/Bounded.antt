-- The entries of lines whose calls are within their bounds.
use Rattle.std.proofs.Common.{ℕ, T, Bool, true, false, cond, List, [], ◌∷◌, ◌++◌}
use Rattle.std.specs.Prelude.{is_some}
use Rattle.std.specs.List.{list_all}
use Rattle.ec_plain.specs.BoundedCalls.{is_bounded}
use Rattle.ec_plain.specs.declared.call.Call.{Call}
use Rattle.ec_history.specs.History.{History}
use Rattle.ec_history.specs.Placing.{EachLine, call_entry, is_call_of, is_end_of, is_running, late, line_entries, owner, place, place_from, watch}
use Rattle.ec_history.specs.declared.shown.Shown.{Shown}
use Rattle.ec_history.specs.declared.shown.Shown.TheVariants as show
use Rattle.ec_history.specs.OfLaws.Bases.{is_bounded_entry}
use Rattle.ec_lawful.specs.Calls.{IsOf}
use Rattle.ec_base.proofs.Bools.{left as and_first, and-both as and_both, right as and_next}

abbrev pub IsBounded : ℕ → ℕ → Call → Type 0
IsBounded l c cl = T (is_bounded cl)

abbrev AllBounded : History → Type 0
AllBounded h = T (list_all (λ e. is_bounded_entry e.1) h)

both-bounded : (h k : History) → AllBounded h → AllBounded k → AllBounded (h ++ k)
both-bounded [] k a b = b
both-bounded (e ∷ h) k a b =
    and_both (is_bounded_entry e.1) (list_all (λ x. is_bounded_entry x.1) (h ++ k)) (and_first (is_bounded_entry e.1) (list_all (λ x. is_bounded_entry x.1) h) a)
    (both-bounded h k (and_next (is_bounded_entry e.1) (list_all (λ x. is_bounded_entry x.1) h) a) b)

if-bounded : (b : Bool) (h k : History) → AllBounded h → AllBounded k → AllBounded (cond b h k)
if-bounded true h k p q = p
if-bounded false h k p q = q

call-bounded : (past : List Shown) (s : Shown) → IsOf IsBounded s → AllBounded (call_entry past s)
call-bounded past (show.Answered l c cl a op) b = and_both (is_bounded cl) true b tt
call-bounded past (show.Waits l c cl) b = tt
call-bounded past (show.Durable c ns) b = tt
call-bounded past (show.Ended c ns) b = tt
call-bounded past (show.Unseen c) b = tt
call-bounded past (show.Told c ns) b = tt
call-bounded past (show.Crashed c) b = tt
call-bounded past show.Stopped b = tt
call-bounded past show.Started b = tt
call-bounded past show.Nothing b = tt
call-bounded past show.Unsettled b = tt
call-bounded past (show.Bad n k) b = tt
call-bounded past (show.DiskBad n) b = tt
call-bounded past (show.Limit n k) b = tt
call-bounded past (show.Spent n) b = tt

late-bounded : (c : ℕ) (past ss : List Shown) → EachLine (IsOf IsBounded) ss → AllBounded (late c past ss)
late-bounded c past [] b = tt
late-bounded c past (s ∷ ss) b =
    if-bounded (is_end_of c s) [] (cond (is_call_of c s) (call_entry past s) [] ++ late c (past ++ s ∷ []) ss) tt
    (both-bounded (cond (is_call_of c s) (call_entry past s) []) (late c (past ++ s ∷ []) ss) (if-bounded (is_call_of c s) (call_entry past s) [] (call-bounded past s b.0) tt) (late-bounded c (past ++ s ∷ []) ss b.1))

line-bounded : (past : List Shown) (s : Shown) (rest : List Shown) → IsOf IsBounded s → EachLine (IsOf IsBounded) rest → AllBounded (line_entries past s rest)
line-bounded past (show.Answered l c cl a op) rest b r =
    if-bounded (is_some (watch c past).untold) [] (call_entry past (show.Answered l c cl a op)) tt (call-bounded past (show.Answered l c cl a op) b)
line-bounded past (show.Ended c ns) rest b r =
    let w = watch c past in
    let calls : History = cond (is_running w (owner w)) (late c (past ++ show.Ended c ns ∷ []) rest) [] in
    both-bounded calls _ (if-bounded (is_running w (owner w)) (late c (past ++ show.Ended c ns ∷ []) rest) [] (late-bounded c (past ++ show.Ended c ns ∷ []) rest r) tt) tt
line-bounded past (show.Waits l c cl) rest b r = tt
line-bounded past (show.Durable c ns) rest b r = tt
line-bounded past (show.Unseen c) rest b r = tt
line-bounded past (show.Told c ns) rest b r = tt
line-bounded past (show.Crashed c) rest b r = tt
line-bounded past show.Stopped rest b r = tt
line-bounded past show.Started rest b r = tt
line-bounded past show.Nothing rest b r = tt
line-bounded past show.Unsettled rest b r = tt
line-bounded past (show.Bad n k) rest b r = tt
line-bounded past (show.DiskBad n) rest b r = tt
line-bounded past (show.Limit n k) rest b r = tt
line-bounded past (show.Spent n) rest b r = tt

from-bounded : (past ss : List Shown) → EachLine (IsOf IsBounded) ss → AllBounded (place_from past ss)
from-bounded past [] b = tt
from-bounded past (s ∷ ss) b = both-bounded (line_entries past s ss) (place_from (past ++ s ∷ []) ss) (line-bounded past s ss b.0 b.1) (from-bounded (past ++ s ∷ []) ss b.1)

pub place-bounded : (ss : List Shown) → EachLine (IsOf IsBounded) ss → AllBounded (place ss)
place-bounded ss b = from-bounded [] ss b
