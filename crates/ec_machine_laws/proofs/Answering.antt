-- Plain lines with a legal history answer their calls plainly.
use Rattle.std.proofs.Common.{◌≡◌, refl, sym, ap, ◌∙◌, subst, arith, ◌+◌, ℕ, Bool, true, false, ◌&&◌, cond, List, [], ◌∷◌, ◌++◌, length, length-append}
use Rattle.std.specs.Prelude.{Option, None, Some, is_some, ◌==◌}
use Rattle.std.specs.List.{filter}
use Rattle.ec_volume.specs.Volume.{after}
use Rattle.ec_volume.specs.declared.update.Update.{Update}
use Rattle.ec_plain.specs.Plain.{plain}
use Rattle.ec_plain.specs.declared.call.Call.{Call}
use Rattle.ec_plain.specs.declared.call.Outcome.{Outcome}
use Rattle.ec_plain.specs.declared.call.Reply.{Reply}
use Rattle.ec_history.specs.History.{Base, History, Op, Throughout, issued_by, kept, kept_from, kept_next, outcome, same_start, updates}
use Rattle.ec_history.specs.Legal.{IsCall, IsLegal, IsLegalNext, is_op_of}
use Rattle.ec_history.specs.Placing.{EachLine, before_line, begun, call_entry, last_place, line_entries, place, place_from, unwatched, watch}
use Rattle.ec_history.specs.declared.entry.Answer.TheVariants as answer
use Rattle.ec_history.specs.declared.entry.Entry.{Entry}
use Rattle.ec_history.specs.declared.entry.Entry.TheVariants as entry
use Rattle.ec_history.specs.declared.shown.Shown.{Shown}
use Rattle.ec_history.specs.declared.shown.Shown.TheVariants as show
use Rattle.ec_machine_laws.specs.Answers.{Plainly, after_call, answers_in, answers_to, none_yet, operation_number, outcome_on}
use Rattle.ec_machine_laws.specs.PlainLines.{IsPlain, asked_in, ids_from}
use Rattle.ec_machine_laws.proofs.Watching.{IsOne, stays-one}
use Rattle.ec_history.proofs.HistoryLemmas.{updates-append}
use Rattle.ec_base.proofs.Lists.{no-more}
use Rattle.ec_history.proofs.PlacingLemmas.{watch-push}

-- Lists.

kept-more : (base : Base) (ks : List Op) (h : History) (e : ℕ × Entry) → kept_from base ks (h ++ e ∷ []) ≡ kept_next base (kept_from base ks h) e
kept-more base ks [] e = refl
kept-more base ks (x ∷ h) e = kept-more base (kept_next base ks x) h e

abbrev one-if : Bool → ℕ
one-if b = cond b 1 0

filter-more : (p : ℕ × Entry → Bool) (h : History) (e : ℕ × Entry) → length (filter p (h ++ e ∷ [])) ≡ length (filter p h) + one-if (p e)
filter-more p [] e = go (p e)
  where
    go : (b : Bool) → length (cond b (e ∷ []) []) ≡ 0 + one-if b
    go true = refl
    go false = refl
filter-more p (x ∷ h) e = go (p x) (filter-more p h e)
  where
    go : (b : Bool) → length (filter p (h ++ e ∷ [])) ≡ length (filter p h) + one-if (p e) → length (cond b (x ∷ filter p (h ++ e ∷ [])) (filter p (h ++ e ∷ []))) ≡ length (cond b (x ∷ filter p h) (filter p h)) + one-if (p e)
    go true r = omega (arith, r)
    go false r = r

module _ (base : Base) (most : ℕ) where
  -- The lines so far have this history, behind which it stands plainly so.
  record Sofar (past : List Shown) (h : History) (s : Plainly) : Type 0 where
    updated : updates (kept base h) ≡ s.updates
    issued : (c : ℕ) → length (filter (is_op_of c 1) h) ≡ s.issued c
    one : (c : ℕ) → IsOne (watch c past)

  -- a line that answers nothing
  goes-on : (past : List Shown) (h : History) (s : Plainly) (l : Shown) → IsPlain l → Sofar past h s → Sofar (past ++ l ∷ []) h s
  goes-on past h s l p f = record { updated = f.updated; issued = f.issued; one = λ c. subst IsOne (sym (watch-push c unwatched past l)) (stays-one c (watch c past) l p (f.one c)) }

  -- A line that answers a call by a reply.
  module _ (past : List Shown) (h : History) (s : Plainly) (f : Sofar past h s) (l c : ℕ) (cl : Call) (r : Reply) where
    abbrev b : ℕ
    b = (begun (watch c past)).starts

    abbrev p : ℕ
    p = length past + 1

    abbrev said : Option ℕ → Shown
    said op = show.Answered l c cl (answer.Reply r) op

    abbrev entry-of : Option ℕ → ℕ × Entry
    entry-of op = (p, entry.Call c b l (last_place c b unwatched 1 0 (before_line l past)) cl (answer.Reply r) op)

    abbrev o : Outcome
    o = outcome_on base.volume s cl (base.fresh p)

    outcome-is : outcome base (kept base h) p cl ≡ o
    outcome-is = ap (λ us. plain (after base.volume us) cl (base.fresh p)) f.updated

    first-start : b ≡ 1
    first-start = (f.one c).starts

    entries-are : (op : Option ℕ) (rest : List Shown) → line_entries past (said op) rest ≡ entry-of op ∷ []
    entries-are op rest = ap (λ (o : Option (List ℕ)). cond (is_some o) [] (call_entry past (said op))) (f.one c).untold

    record Steps (op : Option ℕ) : Type 0 where
      said-is : said op ≡ show.Answered l c cl (answer.Reply o.reply) (operation_number s c o.update)
      next : Sofar (past ++ said op ∷ []) (h ++ entry-of op ∷ []) (after_call s c o.update)

    still-one : (op : Option ℕ) (d : ℕ) → IsOne (watch d (past ++ said op ∷ []))
    still-one op d = subst IsOne (sym (watch-push d unwatched past (said op))) (stays-one d (watch d past) (said op) tt (f.one d))

    -- without an operation
    none-counts : (x : Bool) → one-if (x && false) ≡ 0
    none-counts true = refl
    none-counts false = refl

    replies : IsCall base most h c b p cl (answer.Reply r) None → o.update ≡ None → Steps None
    replies legal e = record {
      said-is = (λ z. show.Answered l c cl (answer.Reply ((legal.reply.0 ∙ ap (λ (o : Outcome). o.reply) outcome-is) z)) (sym (ap (operation_number s c) e) z));
      next = subst (Sofar (past ++ said None ∷ []) (h ++ entry-of None ∷ [])) (sym (ap (after_call s c) e)) (record {
        updated = ap updates (kept-more base [] h (entry-of None)) ∙ updates-append (kept base h) [] ∙ no-more (updates (kept base h)) ∙ f.updated;
        issued = λ d. omega (arith, filter-more (is_op_of d 1) h (entry-of None), none-counts (same_start d 1 c b), f.issued d);
        one = still-one None;
      });
    }

    -- with one
    issued-op : (n : ℕ) (u : Update) → o.update ≡ Some u → updates (issued_by base (kept base h) (entry-of (Some n))) ≡ u ∷ []
    issued-op n u e = ap (λ w. updates (elim w as (λ z. List Op) [ None ↦ [] | Some u ↦ record { clerk = c; boot = b; number = n; place = p; update = u } ∷ [] ])) (ap (λ (o : Outcome). o.update) outcome-is ∙ e)

    counts : (n d : ℕ) → one-if (is_op_of d 1 (entry-of (Some n))) ≡ one-if (d == c)
    counts n d = ap (λ m. one-if (((d == c) && (1 == m)) && true)) first-start ∙ go (d == c)
      where
        go : (x : Bool) → one-if ((x && true) && true) ≡ one-if x
        go true = refl
        go false = refl

    counted : (d : ℕ) (u : Update) → s.issued d + one-if (d == c) ≡ (after_call s c (Some u)).issued d
    counted d u = go (d == c)
      where
        go : (x : Bool) → s.issued d + one-if x ≡ elim x as (λ z. ℕ) [ true ↦ s.issued d + 1 | false ↦ s.issued d ]
        go true = refl
        go false = omega arith

    issues : (n : ℕ) (u : Update) → IsCall base most h c b p cl (answer.Reply r) (Some n) → o.update ≡ Some u → Steps (Some n)
    issues n u legal e = record {
      said-is = (λ z. show.Answered l c cl (answer.Reply ((legal.reply.0 ∙ ap (λ (o : Outcome). o.reply) outcome-is) z)) ((ap Some number ∙ sym (ap (operation_number s c) e)) z));
      next = subst (Sofar (past ++ said (Some n) ∷ []) (h ++ entry-of (Some n) ∷ [])) (sym (ap (after_call s c) e)) (record {
        updated = ap updates (kept-more base [] h (entry-of (Some n))) ∙ updates-append (kept base h) (issued_by base (kept base h) (entry-of (Some n))) ∙ (λ z. f.updated z ++ issued-op n u e z);
        issued = λ d. omega (arith, filter-more (is_op_of d 1) h (entry-of (Some n)), counts n d, f.issued d, counted d u);
        one = still-one (Some n);
      });
    }
      where
        number : n ≡ s.issued c + 1
        number = omega (arith, legal.number, ap (λ m. length (filter (is_op_of c m) h)) first-start, f.issued c)

    steps : (op : Option ℕ) → IsCall base most h c b p cl (answer.Reply r) op → Steps op
    steps None legal = go o.update refl
      where
        go : (u : Option Update) → o.update ≡ u → Steps None
        go None e = replies legal e
        go (Some u) e = let bad : false ≡ true = legal.reply.1 ∙ ap (λ (o : Outcome). is_some o.update) outcome-is ∙ ap is_some e in absurd (grind (arith, bad))
    steps (Some n) legal = go o.update refl
      where
        go : (u : Option Update) → o.update ≡ u → Steps (Some n)
        go None e = let bad : true ≡ false = legal.reply.1 ∙ ap (λ (o : Outcome). is_some o.update) outcome-is ∙ ap is_some e in absurd (grind (arith, bad))
        go (Some u) e = issues n u legal e

  -- All lines.

  abbrev Legal : History → History → Type 0
  Legal h more = Throughout (IsLegalNext base most) h more

  one-longer : (past : List Shown) (l : Shown) → length past + 1 + 1 ≡ length (past ++ l ∷ []) + 1
  one-longer past l = omega (arith, length-append past (l ∷ []))

  abbrev Answers : List Shown → ℕ → Plainly → Type 0
  Answers ss at s = answers_in ss ≡ answers_to base.volume s (ids_from base at ss) (asked_in ss)

  walk : (ss past : List Shown) (h : History) (s : Plainly) → Sofar past h s → Legal h (place_from past ss) → EachLine IsPlain ss → Answers ss (length past + 1) s
  walk [] past h s f legal plain = refl
  walk (show.Waits l c cl ∷ ss) past h s f legal plain =
      subst (λ n. Answers ss n s) (sym (one-longer past (show.Waits l c cl))) (walk ss (past ++ show.Waits l c cl ∷ []) h s (goes-on past h s (show.Waits l c cl) tt f) legal plain.1)
  walk (show.Durable c ns ∷ ss) past h s f legal plain =
      subst (λ n. Answers ss n s) (sym (one-longer past (show.Durable c ns))) (walk ss (past ++ show.Durable c ns ∷ []) h s (goes-on past h s (show.Durable c ns) tt f) legal plain.1)
  walk (show.Nothing ∷ ss) past h s f legal plain =
      subst (λ n. Answers ss n s) (sym (one-longer past show.Nothing)) (walk ss (past ++ show.Nothing ∷ []) h s (goes-on past h s show.Nothing tt f) legal plain.1)
  walk (show.Answered l c cl (answer.Reply r) op ∷ ss) past h s f legal plain =
      let here : Legal h (entry-of past h s f l c cl r op ∷ place_from (past ++ show.Answered l c cl (answer.Reply r) op ∷ []) ss) =
      subst (λ es. Legal h (es ++ place_from (past ++ show.Answered l c cl (answer.Reply r) op ∷ []) ss)) (entries-are past h s f l c cl r op ss) legal in
      let one = steps past h s f l c cl r op here.0 in
      let later = walk ss (past ++ show.Answered l c cl (answer.Reply r) op ∷ []) (h ++ entry-of past h s f l c cl r op ∷ []) (after_call s c (o past h s f l c cl r).update) one.next here.1 plain.1 in
      (λ z. one.said-is z ∷ subst (λ n. Answers ss n (after_call s c (o past h s f l c cl r).update)) (sym (one-longer past (show.Answered l c cl (answer.Reply r) op))) later z)
  walk (show.Answered l c cl (answer.Lost ns) op ∷ ss) past h s f legal plain = absurd plain.0
  walk (show.Answered l c cl (answer.NoRoom x y) op ∷ ss) past h s f legal plain = absurd plain.0
  walk (show.Ended c ns ∷ ss) past h s f legal plain = absurd plain.0
  walk (show.Unseen c ∷ ss) past h s f legal plain = absurd plain.0
  walk (show.Told c ns ∷ ss) past h s f legal plain = absurd plain.0
  walk (show.Crashed c ∷ ss) past h s f legal plain = absurd plain.0
  walk (show.Stopped ∷ ss) past h s f legal plain = absurd plain.0
  walk (show.Started ∷ ss) past h s f legal plain = absurd plain.0
  walk (show.Unsettled ∷ ss) past h s f legal plain = absurd plain.0
  walk (show.Bad n m ∷ ss) past h s f legal plain = absurd plain.0
  walk (show.DiskBad n ∷ ss) past h s f legal plain = absurd plain.0
  walk (show.Limit name n ∷ ss) past h s f legal plain = absurd plain.0
  walk (show.Spent n ∷ ss) past h s f legal plain = absurd plain.0

  pub answers : (ss : List Shown) → IsLegal base most (place ss) → EachLine IsPlain ss → answers_in ss ≡ answers_to base.volume none_yet (ids_from base 1 ss) (asked_in ss)
  answers ss legal plain = walk ss [] [] none_yet (record { updated = refl; issued = λ c. refl; one = λ c. record { untold = refl; starts = refl } }) legal plain
