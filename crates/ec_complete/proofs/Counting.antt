-- In plain lines a clerk has one start, and the history has as many operations of it as the answers name.
use Rattle.std.proofs.Common.{◌≡◌, refl, sym, ap, ◌∙◌, subst, arith, ◌+◌, ℕ, Bool, true, false, ◌&&◌, ◌==◌, cond, List, [], ◌∷◌, ◌++◌, length}
use Rattle.std.specs.Prelude.{Option, is_some}
use Rattle.std.specs.List.{filter}
use Rattle.ec_plain.specs.declared.call.Call.{Call}
use Rattle.ec_plain.specs.declared.call.Reply.{Reply}
use Rattle.ec_history.specs.History.{History}
use Rattle.ec_history.specs.Legal.{is_op_of}
use Rattle.ec_history.specs.Placing.{EachLine, before_line, begun, call_entry, last_place, line_entries, place, place_from, unwatched, watch}
use Rattle.ec_history.specs.declared.entry.Answer.TheVariants as answer
use Rattle.ec_history.specs.declared.entry.Entry.{Entry}
use Rattle.ec_history.specs.declared.entry.Entry.TheVariants as entry
use Rattle.ec_history.specs.declared.shown.Shown.{Shown}
use Rattle.ec_history.specs.declared.shown.Shown.TheVariants as show
use Rattle.ec_machine_laws.specs.Answers.{answers_in}
use Rattle.ec_machine_laws.specs.PlainLines.{IsPlain}
use Rattle.ec_machine_laws.proofs.Watching.{IsOne, stays-one}
use Rattle.ec_complete.specs.Ids.{operations_in}
use Rattle.ec_base.proofs.Lists.{regroup, no-more}
use Rattle.ec_history.proofs.PlacingLemmas.{watch-push}

abbrev AllOne : List Shown → Type 0
AllOne past = (c : ℕ) → IsOne (watch c past)

one-on : (past : List Shown) (s : Shown) → IsPlain s → AllOne past → AllOne (past ++ s ∷ [])
one-on past s p o c = subst IsOne (sym (watch-push c unwatched past s)) (stays-one c (watch c past) s p (o c))

ones : (ss past : List Shown) → EachLine IsPlain ss → AllOne past → AllOne (past ++ ss)
ones [] past p o = subst AllOne (sym (no-more past)) o
ones (s ∷ ss) past p o = subst AllOne (regroup past (s ∷ []) ss) (ones ss (past ++ s ∷ []) p.1 (one-on past s p.0 o))

pub one-start : (ss : List Shown) → EachLine IsPlain ss → (c : ℕ) → IsOne (watch c ss)
one-start ss p = ones ss [] p (λ c. record { untold = refl; starts = refl })

-- Operations.

abbrev ops-of : ℕ → History → ℕ
ops-of c h = length (filter (is_op_of c 1) h)

one-more : (p : ℕ × Entry → Bool) (e : ℕ × Entry) (h : History) → length (filter p (e ∷ h)) ≡ elim (p e) as (λ z. ℕ) [ true ↦ 1 | false ↦ 0 ] + length (filter p h)
one-more p e h = go (p e)
  where
    go : (b : Bool) → length (cond b (e ∷ filter p h) (filter p h)) ≡ elim b as (λ z. ℕ) [ true ↦ 1 | false ↦ 0 ] + length (filter p h)
    go true = omega arith
    go false = omega arith

module _ (d : ℕ) (past : List Shown) (o : AllOne past) (l c : ℕ) (cl : Call) (r : Reply) (op : Option ℕ) where
  abbrev said : Shown
  said = show.Answered l c cl (answer.Reply r) op

  abbrev b : ℕ
  b = (begun (watch c past)).starts

  abbrev e : ℕ × Entry
  e = (length past + 1, entry.Call c b l (last_place c b unwatched 1 0 (before_line l past)) cl (answer.Reply r) op)

  entries-are : (rest : List Shown) → line_entries past said rest ≡ e ∷ []
  entries-are rest = ap (λ (o : Option (List ℕ)). cond (is_some o) [] (call_entry past said)) (o c).untold

  its : is_op_of d 1 e ≡ ((d == c) && is_some op)
  its = ap (λ m. ((d == c) && (1 == m)) && is_some op) (o c).starts ∙ go (d == c)
    where
      go : (x : Bool) → ((x && true) && is_some op) ≡ (x && is_some op)
      go true = refl
      go false = refl

  pub answer-counts : (rest : List Shown) (h : History) → ops-of d h ≡ operations_in d (answers_in rest) → ops-of d (line_entries past said rest ++ h) ≡ operations_in d (answers_in (said ∷ rest))
  answer-counts rest h q =
      ap (λ es. ops-of d (es ++ h)) (entries-are rest) ∙ one-more (is_op_of d 1) e h ∙ (λ z. elim (its z) as (λ y. ℕ) [ true ↦ 1 | false ↦ 0 ] + q z)

walk : (d : ℕ) (ss past : List Shown) → AllOne past → EachLine IsPlain ss → ops-of d (place_from past ss) ≡ operations_in d (answers_in ss)
walk d [] past o p = refl
walk d (show.Waits l c cl ∷ ss) past o p = walk d ss (past ++ show.Waits l c cl ∷ []) (one-on past (show.Waits l c cl) tt o) p.1
walk d (show.Durable c ns ∷ ss) past o p = walk d ss (past ++ show.Durable c ns ∷ []) (one-on past (show.Durable c ns) tt o) p.1
walk d (show.Nothing ∷ ss) past o p = walk d ss (past ++ show.Nothing ∷ []) (one-on past show.Nothing tt o) p.1
walk d (show.Answered l c cl (answer.Reply r) op ∷ ss) past o p =
    answer-counts d past o l c cl r op ss (place_from (past ++ show.Answered l c cl (answer.Reply r) op ∷ []) ss)
    (walk d ss (past ++ show.Answered l c cl (answer.Reply r) op ∷ []) (one-on past (show.Answered l c cl (answer.Reply r) op) tt o) p.1)
walk d (show.Answered l c cl (answer.Lost ns) op ∷ ss) past o p = absurd p.0
walk d (show.Answered l c cl (answer.NoRoom x y) op ∷ ss) past o p = absurd p.0
walk d (show.Ended c ns ∷ ss) past o p = absurd p.0
walk d (show.Unseen c ∷ ss) past o p = absurd p.0
walk d (show.Told c ns ∷ ss) past o p = absurd p.0
walk d (show.Crashed c ∷ ss) past o p = absurd p.0
walk d (show.Stopped ∷ ss) past o p = absurd p.0
walk d (show.Started ∷ ss) past o p = absurd p.0
walk d (show.Unsettled ∷ ss) past o p = absurd p.0
walk d (show.Bad n m ∷ ss) past o p = absurd p.0
walk d (show.DiskBad n ∷ ss) past o p = absurd p.0
walk d (show.Limit name n ∷ ss) past o p = absurd p.0
walk d (show.Spent n ∷ ss) past o p = absurd p.0

pub operations-told : (d : ℕ) (ss : List Shown) → EachLine IsPlain ss → length (filter (is_op_of d 1) (place ss)) ≡ operations_in d (answers_in ss)
operations-told d ss p = walk d ss [] (λ c. record { untold = refl; starts = refl }) p
