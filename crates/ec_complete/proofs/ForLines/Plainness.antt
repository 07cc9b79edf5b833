-- Lines of a legal history without ends, in which no call is refused for want of room, wait, reply or tell what is durable.
use Rattle.std.proofs.Common.{◌≡◌, refl, sym, ap, ◌∙◌, subst, ◌+◌, ℕ, T, Bool, true, false, cond, List, [], ◌∷◌, ◌++◌, length}
use Rattle.std.specs.Prelude.{Option, None, Some, is_some, nat_lt, ⊤}
use Rattle.std.specs.List.{filter}
use Rattle.ec_plain.specs.declared.call.Call.{Call}
use Rattle.ec_history.specs.History.{Base, History, Owed, Throughout, distinct_numbers, due, kept, kept_from, kept_next, meets, outcome, owed, owed_from, owed_next, same_start}
use Rattle.ec_history.specs.Legal.{IsLegal, IsLegalNext}
use Rattle.ec_history.specs.Placing.{ArePlaceable, EachLine, before_line, begun, call_entry, last_place, line_entries, place, place_from, same_numbers, unwatched, watch}
use Rattle.ec_history.specs.declared.entry.Answer.{Answer}
use Rattle.ec_history.specs.declared.entry.Answer.TheVariants as answer
use Rattle.ec_history.specs.declared.entry.Entry.{Entry}
use Rattle.ec_history.specs.declared.entry.Entry.TheVariants as entry
use Rattle.ec_history.specs.declared.shown.Shown.{Shown}
use Rattle.ec_history.specs.declared.shown.Shown.TheVariants as show
use Rattle.ec_quiet.specs.Settling.{IsSettled}
use Rattle.ec_machine_laws.specs.PlainLines.{IsPlain}
use Rattle.ec_machine_laws.proofs.Watching.{IsOne, stays-one}
use Rattle.ec_complete.specs.SettledRuns.{HasRoom}
use Rattle.ec_history.proofs.PlacingLemmas.{watch-push}

-- no session ends
abbrev pub NoEnd : Shown → Type 0
NoEnd (show.Ended c ns) = ⊥
NoEnd (show.Unseen c) = ⊥
NoEnd _ = ⊤

owed-more : (base : Base) (c b : ℕ) (ks : List Rattle.ec_history.specs.History.Op) (qs : Owed) (h : History) (e : ℕ × Entry) → owed_from base c b ks qs (h ++ e ∷ []) ≡ owed_next base c b (kept_from base ks h) (owed_from base c b ks qs h) e
owed-more base c b ks qs [] e = refl
owed-more base c b ks qs (x ∷ h) e = owed-more base c b (kept_next base ks x) (owed_next base c b ks qs x) h e

module _ (base : Base) (most : ℕ) where
  record Front (past : List Shown) (h : History) : Type 0 where
    one : (c : ℕ) → IsOne (watch c past)
    owes : (c b : ℕ) → owed base h c b ≡ []

  goes-on : (past : List Shown) (h : History) (s : Shown) → IsPlain s → Front past h → Front (past ++ s ∷ []) h
  goes-on past h s p f = record { one = λ c. subst IsOne (sym (watch-push c unwatched past s)) (stays-one c (watch c past) s p (f.one c)); owes = f.owes }

  module _ (past : List Shown) (h : History) (f : Front past h) (l c : ℕ) (cl : Call) (a : Answer) (op : Option ℕ) where
    abbrev said : Shown
    said = show.Answered l c cl a op

    abbrev e : ℕ × Entry
    e = (length past + 1, entry.Call c (begun (watch c past)).starts l (last_place c (begun (watch c past)).starts unwatched 1 0 (before_line l past)) cl a op)

    entries-are : (rest : List Shown) → line_entries past said rest ≡ e ∷ []
    entries-are rest = ap (λ (o : Option (List ℕ)). cond (is_some o) [] (call_entry past said)) (f.one c).untold

    owes-on : (d b : ℕ) → owed base (h ++ e ∷ []) d b ≡ []
    owes-on d b = owed-more base d b [] [] h e ∙ ap (λ qs. owed_next base d b (kept base h) qs e) (f.owes d b) ∙ go (same_start d b c (begun (watch c past)).starts)
      where
        go : (x : Bool) → cond {A = Owed} x [] [] ≡ []
        go true = refl
        go false = refl

    answered-on : IsPlain said → Front (past ++ said ∷ []) (h ++ e ∷ [])
    answered-on p = record { one = (goes-on past h said p f).one; owes = owes-on }

    nothing-due : due base h c (begun (watch c past)).starts (length past + 1) cl ≡ []
    nothing-due = ap (λ qs. distinct_numbers (filter (meets (outcome base (kept base h) (length past + 1) cl) cl) qs)) (f.owes c (begun (watch c past)).starts)

  abbrev Legal : History → History → Type 0
  Legal h more = Throughout (IsLegalNext base most) h more

  none-told : (c : ℕ) (past : List Shown) (ns : List ℕ) → IsOne (watch c past) → T (elim (watch c past).untold [ Some ms ↦ same_numbers ns ms | None ↦ false ]) → ⊥
  none-told c past ns one t = subst (λ o. T (elim o as (λ z. Bool) [ Some ms ↦ same_numbers ns ms | None ↦ false ])) one.untold t

  walk : (ss past : List Shown) (h : History) → Front past h → ArePlaceable past ss → Legal h (place_from past ss) → EachLine IsSettled ss → EachLine HasRoom ss → EachLine NoEnd ss → EachLine IsPlain ss
  walk [] past h f placed legal settled room ends = tt
  walk (show.Waits l c cl ∷ ss) past h f placed legal settled room ends = (tt, walk ss (past ++ show.Waits l c cl ∷ []) h (goes-on past h (show.Waits l c cl) tt f) placed.1 legal settled.1 room.1 ends.1)
  walk (show.Durable c ns ∷ ss) past h f placed legal settled room ends = (tt, walk ss (past ++ show.Durable c ns ∷ []) h (goes-on past h (show.Durable c ns) tt f) placed.1 legal settled.1 room.1 ends.1)
  walk (show.Nothing ∷ ss) past h f placed legal settled room ends = (tt, walk ss (past ++ show.Nothing ∷ []) h (goes-on past h show.Nothing tt f) placed.1 legal settled.1 room.1 ends.1)
  walk (show.Told c ns ∷ ss) past h f placed legal settled room ends = absurd (none-told c past ns (f.one c) placed.0)
  walk (show.Answered l c cl (answer.Reply r) op ∷ ss) past h f placed legal settled room ends =
      let here : Legal h (e past h f l c cl (answer.Reply r) op ∷ place_from (past ++ show.Answered l c cl (answer.Reply r) op ∷ []) ss) =
      subst (λ es. Legal h (es ++ place_from (past ++ show.Answered l c cl (answer.Reply r) op ∷ []) ss)) (entries-are past h f l c cl (answer.Reply r) op ss) legal in
      (tt, walk ss (past ++ show.Answered l c cl (answer.Reply r) op ∷ []) (h ++ e past h f l c cl (answer.Reply r) op ∷ []) (answered-on past h f l c cl (answer.Reply r) op tt) placed.1 here.1 settled.1 room.1 ends.1)
  walk (show.Answered l c cl (answer.Lost ns) op ∷ ss) past h f placed legal settled room ends =
      let here : Legal h (e past h f l c cl (answer.Lost ns) op ∷ place_from (past ++ show.Answered l c cl (answer.Lost ns) op ∷ []) ss) =
      subst (λ es. Legal h (es ++ place_from (past ++ show.Answered l c cl (answer.Lost ns) op ∷ []) ss)) (entries-are past h f l c cl (answer.Lost ns) op ss) legal in
      absurd (subst (λ ns. T (nat_lt 0 (length ns))) (nothing-due past h f l c cl (answer.Lost ns) op) here.0.report.1)
  walk (show.Answered l c cl (answer.NoRoom x y) op ∷ ss) past h f placed legal settled room ends = absurd room.0
  walk (show.Ended c ns ∷ ss) past h f placed legal settled room ends = absurd ends.0
  walk (show.Unseen c ∷ ss) past h f placed legal settled room ends = absurd ends.0
  walk (show.Crashed c ∷ ss) past h f placed legal settled room ends = absurd settled.0
  walk (show.Stopped ∷ ss) past h f placed legal settled room ends = absurd settled.0
  walk (show.Started ∷ ss) past h f placed legal settled room ends = absurd settled.0
  walk (show.Unsettled ∷ ss) past h f placed legal settled room ends = absurd settled.0
  walk (show.Bad n m ∷ ss) past h f placed legal settled room ends = absurd settled.0
  walk (show.DiskBad n ∷ ss) past h f placed legal settled room ends = absurd settled.0
  walk (show.Limit name n ∷ ss) past h f placed legal settled room ends = absurd settled.0
  walk (show.Spent n ∷ ss) past h f placed legal settled room ends = absurd settled.0

  pub are-plain : (ss : List Shown) → ArePlaceable [] ss → IsLegal base most (place ss) → EachLine IsSettled ss → EachLine HasRoom ss → EachLine NoEnd ss → EachLine IsPlain ss
  are-plain ss placed legal settled room ends = walk ss [] [] (record { one = λ c. record { untold = refl; starts = refl }; owes = λ c b. refl }) placed legal settled room ends
