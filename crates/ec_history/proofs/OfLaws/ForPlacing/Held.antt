-- A late answer: its place before the loss of its start.
use Rattle.std.proofs.Common.{◌≡◌, refl, sym, ap, subst, ◌∙◌, inl, inr, arith, ◌≤◌, ◌+◌, ℕ, Bool, true, false, ◌==◌, ◌&&◌, cond, List, [], ◌∷◌, ◌++◌, length, Option, Some, None, is_some, append_assoc, append-nil}
use Rattle.std.proofs.lemmas.Bool.{cond_both, cond-true, cases_Bool, and_parts, or_parts, or_from, and_left, and_from, eqb-true, ne_eqb, true≢false}
use Rattle.std.specs.List.{list_any}
use Rattle.std.proofs.lemmas.List.Folds.{list_any-append}
use Rattle.ec_volume.specs.Image.{is_id}
use Rattle.ec_volume.specs.Update.{listed}
use Rattle.ec_plain.specs.declared.call.Call.{Call}
use Rattle.ec_history.specs.History.{History, is_entry_of}
use Rattle.ec_history.specs.declared.entry.Answer.{Answer}
use Rattle.ec_history.specs.declared.entry.Entry.TheVariants as entry
use Rattle.ec_history.specs.Placing.{watch, unwatched, gives_entry, owner, is_running, is_end_of, is_call_of, call_entry, late, ops_in, line_entries, place_from, place}
use Rattle.ec_history.specs.declared.watch.Watch.{Watch}
use Rattle.ec_history.specs.declared.shown.Shown.{Shown}
use Rattle.ec_history.specs.declared.shown.Shown.TheVariants.{Answered, Ended}
use Rattle.ec_history.proofs.OfLaws.ForPlacing.More.{watch-step, watch-append}
use Rattle.ec_history.proofs.OfLaws.ForPlacing.Watching.{sound, IsHeld, held-next, held-from, held-ended, held-owner, running-owner, running-told}
use Rattle.ec_history.proofs.OfLaws.ForPlacing.Late.{regroup, late-append, late-other, ops_in-append, fronts, fronts-same, fronts-alone, place_from-append, ended_entries, still-held, told-late, since, place-no_call}
use Rattle.ec_base.specs.Options.{or_zero}
use Rattle.ec_base.proofs.Numbers.{same-self as same_number}

-- no entry of the start
abbrev pub Lacks : ℕ → ℕ → History → Type 0
Lacks c b h = list_any (λ e. is_entry_of c b e.1) h ≡ false

lacks-append : (c b : ℕ) (h g : History) → Lacks c b h → Lacks c b g → Lacks c b (h ++ g)
lacks-append c b h g x y = list_any-append (λ e. is_entry_of c b e.1) h g ∙ or_from _ _ x y

-- The entries of another clerk's lines.
module _ (c b : ℕ) where
  other-call : (d : ℕ) (past : List Shown) (s : Shown) → (c == d) ≡ false → is_call_of d s ≡ true → Lacks c b (call_entry past s)
  other-call d past (Answered l d' cl a op) n e = or_from ((c == d') && _) false (and_left (c == d') _ (subst (λ x. (c == x) ≡ false) (eqb-true d d' e) n)) refl
  other-call d past s n e = refl

  other-late : (d : ℕ) (past ss : List Shown) → (c == d) ≡ false → Lacks c b (late d past ss)
  other-late d past [] n = refl
  other-late d past (s ∷ ss) n =
      cond_both (is_end_of d s) [] (cond (is_call_of d s) (call_entry past s) [] ++ late d (past ++ s ∷ []) ss) (Lacks c b) (λ e. refl)
      λ e. lacks-append c b (cond (is_call_of d s) (call_entry past s) []) (late d (past ++ s ∷ []) ss)
      (cond_both (is_call_of d s) (call_entry past s) [] (Lacks c b) (other-call d past s n) (λ f. refl)) (other-late d (past ++ s ∷ []) ss n)

  other-ended : (d : ℕ) (past : List Shown) (ns : List ℕ) (calls : History) → (c == d) ≡ false → Lacks c b calls → Lacks c b (ended_entries d past ns calls)
  other-ended d past ns calls n k = lacks-append c b calls _ k (or_from ((c == d) && _) false (and_left (c == d) _ n) refl)

-- Lines of a start that was ended and not told give no entry of it.
module _ (c b : ℕ) (least : 1 ≤ b) where
  held-line : (past : List Shown) (s : Shown) (rest : List Shown) → IsHeld b (watch c past) → Lacks c b (line_entries past s rest)
  held-line past (Answered l d cl a op) rest h = elim (cases_Bool (c == d)) [
    | inl y ↦
        let u : is_some (watch d past).untold ≡ true = subst (λ x. is_some (watch x past).untold ≡ true) (eqb-true c d y) h.untold in
        subst (Lacks c b) (sym (cond-true (is_some (watch d past).untold) [] (call_entry past (Answered l d cl a op)) u)) refl
    | inr n ↦
        cond_both (is_some (watch d past).untold) [] (call_entry past (Answered l d cl a op)) (Lacks c b) (λ e. refl) (λ e. other-call c b d past (Answered l d cl a op) n (grind arith))
  ]
  held-line past (Ended d ns) rest h = elim (cases_Bool (c == d)) [
    | inl y ↦ subst (λ x. Lacks c b (line_entries past (Ended x ns) rest)) (eqb-true c d y) own
    | inr n ↦
        other-ended c b d past ns _ n (cond_both (is_running (watch d past) (owner (watch d past))) (late d (past ++ Ended d ns ∷ []) rest) [] (Lacks c b) (λ e. other-late c b d (past ++ Ended d ns ∷ []) rest n) (λ e. refl))
  ]
    where
      none : owner (watch c past) ≡ None
      none = held-owner b (watch c past) h

      zero_apart : (b == 0) ≡ false
      zero_apart = ne_eqb b 0 (λ e. omega arith)

      at_zero : (x : Bool) → (x && (b == 0)) ≡ false
      at_zero true = zero_apart
      at_zero false = refl

      alone : Lacks c b ((length past + 1, entry.Loss c 0 (ns ++ [])) ∷ [])
      alone = or_from ((c == c) && (b == 0)) false (at_zero (c == c)) refl

      no_calls : (r : Bool) → cond (r && false) (late c (past ++ Ended c ns ∷ []) rest) [] ≡ []
      no_calls true = refl
      no_calls false = refl

      own : Lacks c b (line_entries past (Ended c ns) rest)
      own =
          let e : line_entries past (Ended c ns) rest ≡ (length past + 1, entry.Loss c 0 (ns ++ [])) ∷ [] =
          ap (λ o. let calls = cond (is_running (watch c past) o) (late c (past ++ Ended c ns ∷ []) rest) [] in calls ++ (length past + 1, entry.Loss c (or_zero o) (ns ++ ops_in calls)) ∷ []) none
          ∙ ap (λ calls. calls ++ (length past + 1, entry.Loss c 0 (ns ++ ops_in calls)) ∷ []) (no_calls (watch c past).running) in
          subst (Lacks c b) (sym e) alone
  held-line past s rest h = refl

  held-lacks : (past ss : List Shown) → list_any (is_end_of c) ss ≡ false → IsHeld b (watch c past) → Lacks c b (place_from past ss)
  held-lacks past [] n h = refl
  held-lacks past (s ∷ ss) n h =
      let p = or_parts (is_end_of c s) (list_any (is_end_of c) ss) n in
      lacks-append c b (line_entries past s ss) (place_from (past ++ s ∷ []) ss) (held-line past s ss h)
      (held-lacks (past ++ s ∷ []) ss p.1 (subst (IsHeld b) (sym (watch-step c past s)) (held-next c b (watch c past) s p.0 h)))

  -- and a call behind them changes none of theirs
  held-place : (past ss : List Shown) (l : ℕ) (cl : Call) (a : Answer) (op : Option ℕ) → list_any (is_end_of c) ss ≡ false → IsHeld b (watch c past)
      → place_from past (ss ++ Answered l c cl a op ∷ []) ≡ place_from past ss
  held-place past ss l cl a op n h =
      place_from-append past ss (Answered l c cl a op ∷ [])
      ∙ ap (λ x. fronts past ss (Answered l c cl a op ∷ []) ++ (cond x [] (call_entry (past ++ ss) (Answered l c cl a op)) ++ [])) (at_end.untold)
      ∙ append-nil (fronts past ss (Answered l c cl a op ∷ []))
      ∙ fronts-same past ss [] (Answered l c cl a op) same
      ∙ sym (fronts-alone past ss)
    where
      at_end : IsHeld b (watch c (past ++ ss))
      at_end = subst (IsHeld b) (sym (watch-append c past ss)) (held-from c b (watch c past) ss n h)

      same : (pre post : List Shown) (d : ℕ) (ns : List ℕ) → ss ≡ pre ++ Ended d ns ∷ post → is_running (watch d (past ++ pre)) (owner (watch d (past ++ pre))) ≡ true
          → late d ((past ++ pre) ++ Ended d ns ∷ []) ((post ++ []) ++ Answered l c cl a op ∷ []) ≡ late d ((past ++ pre) ++ Ended d ns ∷ []) (post ++ [])
      same pre post d ns e r = elim (cases_Bool (d == c)) [
        | inr k ↦ late-other d ((past ++ pre) ++ Ended d ns ∷ []) (post ++ []) (Answered l c cl a op) k
        | inl y ↦
            let m : list_any (is_end_of c) pre ≡ false = (or_parts _ _ (sym (list_any-append (is_end_of c) pre (Ended d ns ∷ post)) ∙ ap (list_any (is_end_of c)) (sym e) ∙ n)).0 in
            let k : IsHeld b (watch c (past ++ pre)) = subst (IsHeld b) (sym (watch-append c past pre)) (held-from c b (watch c past) pre m h) in
            let r' : is_running (watch c (past ++ pre)) (owner (watch c (past ++ pre))) ≡ true = subst (λ x. is_running (watch x (past ++ pre)) (owner (watch x (past ++ pre))) ≡ true) (eqb-true d c y) r in
            absurd (none_some (sym (held-owner b (watch c (past ++ pre)) k) ∙ running-owner (watch c (past ++ pre)) r'))
      ]
        where
          none_some : {n : ℕ} → None ≡ Some n → ⊥
          none_some q = cc

-- The entries with an ended line of the running start that isn't told yet.
module _ (c : ℕ) (front back : List Shown) (ns : List ℕ) (runs : is_running (watch c front) (owner (watch c front)) ≡ true) (lasts : list_any (is_end_of c) back ≡ false) where
  abbrev all : List Shown
  all = front ++ Ended c ns ∷ back

  abbrev start : ℕ
  start = (watch c front).starts

  abbrev behind : List Shown
  behind = front ++ Ended c ns ∷ []

  abbrev calls : History
  calls = late c behind back

  held : IsHeld start (watch c behind)
  held = subst (IsHeld start) (sym (watch-step c front (Ended c ns))) (held-ended c (watch c front) ns runs)

  first_start : 1 ≤ start
  first_start = (sound c front).counted (and_parts (watch c front).running (is_id start (owner (watch c front))) runs).0

  -- the loss with its late calls, and what stands before and behind
  around : (rest : List Shown) → line_entries front (Ended c ns) rest ≡ late c behind rest ++ (length front + 1, entry.Loss c start (ns ++ ops_in (late c behind rest))) ∷ []
  around rest =
      ap (λ b. ended_entries c front ns (cond b (late c behind rest) [])) runs
      ∙ ap (λ o. late c behind rest ++ (length front + 1, entry.Loss c (or_zero o) (ns ++ ops_in (late c behind rest))) ∷ []) (running-owner (watch c front) runs)

  place-around : (rest : List Shown)
      → place (front ++ Ended c ns ∷ rest) ≡ (fronts [] front (Ended c ns ∷ rest) ++ late c behind rest) ++ (length front + 1, entry.Loss c start (ns ++ ops_in (late c behind rest))) ∷ place_from behind rest
  place-around rest =
      place_from-append [] front (Ended c ns ∷ rest)
      ∙ ap (λ x. fronts [] front (Ended c ns ∷ rest) ++ (x ++ place_from behind rest)) (around rest)
      ∙ ap (λ x. fronts [] front (Ended c ns ∷ rest) ++ x) (append_assoc (late c behind rest) _ (place_from behind rest))
      ∙ sym (append_assoc (fronts [] front (Ended c ns ∷ rest)) (late c behind rest) _)

  module _ (l : ℕ) (cl : Call) (a : Answer) (op : Option ℕ) where
    abbrev s : Shown
    s = Answered l c cl a op

    one : late c behind (back ++ s ∷ []) ≡ calls ++ call_entry all s
    one =
        late-append c behind back (s ∷ [])
        ∙ ap (λ x. calls ++ cond x [] (late c (behind ++ back) (s ∷ []))) lasts
        ∙ ap (λ x. calls ++ (cond x (call_entry (behind ++ back) s) [] ++ [])) (same_number c)
        ∙ ap (λ x. calls ++ x) (append-nil (call_entry (behind ++ back) s))
        ∙ ap (λ x. calls ++ call_entry x s) (regroup front (Ended c ns) back)

    ops : ns ++ ops_in (calls ++ call_entry all s) ≡ (ns ++ ops_in calls) ++ listed op
    ops =
        ap (λ x. ns ++ x) (ops_in-append calls (call_entry all s) ∙ ap (λ x. ops_in calls ++ x) (append-nil (listed op)))
        ∙ sym (append_assoc ns (ops_in calls) (listed op))

    place-more : place (all ++ s ∷ [])
        ≡ (fronts [] front (Ended c ns ∷ back) ++ calls) ++ call_entry all s ++ (length front + 1, entry.Loss c start ((ns ++ ops_in calls) ++ listed op)) ∷ place_from behind back
    place-more =
        ap place (append_assoc front (Ended c ns ∷ back) (s ∷ []))
        ∙ place-around (back ++ s ∷ [])
        ∙ ap (λ x. (x ++ late c behind (back ++ s ∷ [])) ++ (length front + 1, entry.Loss c start (ns ++ ops_in (late c behind (back ++ s ∷ [])))) ∷ place_from behind (back ++ s ∷ []))
        (fronts-same [] front (Ended c ns ∷ back) s (told-late front (Ended c ns ∷ back) l c cl a op (running-told (watch c front) (sound c front) runs)))
        ∙ ap (λ x. (fronts [] front (Ended c ns ∷ back) ++ late c behind (back ++ s ∷ [])) ++ (length front + 1, entry.Loss c start (ns ++ ops_in (late c behind (back ++ s ∷ [])))) ∷ x)
        (held-place c start first_start behind back l cl a op lasts held)
        ∙ ap (λ x. (fronts [] front (Ended c ns ∷ back) ++ x) ++ (length front + 1, entry.Loss c start (ns ++ ops_in x)) ∷ place_from behind back) one
        ∙ ap (λ x. x ++ (length front + 1, entry.Loss c start (ns ++ ops_in (calls ++ call_entry all s))) ∷ place_from behind back) (sym (append_assoc (fronts [] front (Ended c ns ∷ back)) calls (call_entry all s)))
        ∙ ap (λ x. ((fronts [] front (Ended c ns ∷ back) ++ calls) ++ call_entry all s) ++ (length front + 1, entry.Loss c start x) ∷ place_from behind back) ops

-- A late answer stands before its start's loss, which grows by its operation.
abbrev IsPlacedLate : List Shown → ℕ → ℕ → List ℕ → Type 0
IsPlacedLate ss c b ns =
    (h : History) × (q : ℕ) × (h' : History) × (place ss ≡ h ++ (q, entry.Loss c b ns) ∷ h') × Lacks c b h'
    × ((l : ℕ) (cl : Call) (a : Answer) (op : Option ℕ) → place (ss ++ Answered l c cl a op ∷ []) ≡ h ++ call_entry ss (Answered l c cl a op) ++ (q, entry.Loss c b (ns ++ listed op)) ∷ h')

pub place-late : (ss : List Shown) (c : ℕ) (ns : List ℕ) → (watch c ss).untold ≡ Some ns → IsPlacedLate ss c (watch c ss).starts ns
place-late ss c ns u =
    let w = since c ss ns u in
    let at : IsPlacedLate (w.front ++ Ended c w.named ∷ w.back) c (watch c w.front).starts (w.named ++ ops_in (late c (w.front ++ Ended c w.named ∷ []) w.back)) = (
      fronts [] w.front (Ended c w.named ∷ w.back) ++ late c (w.front ++ Ended c w.named ∷ []) w.back,
      length w.front + 1,
      place_from (w.front ++ Ended c w.named ∷ []) w.back,
      place-around c w.front w.back w.named w.runs w.lasts w.back,
      held-lacks c (watch c w.front).starts (first_start c w.front w.back w.named w.runs w.lasts) (w.front ++ Ended c w.named ∷ []) w.back w.lasts (held c w.front w.back w.named w.runs w.lasts),
      place-more c w.front w.back w.named w.runs w.lasts,
    ) in
    subst (λ x. IsPlacedLate x c (watch c x).starts ns) (sym w.whole)
    (subst (λ b. IsPlacedLate (w.front ++ Ended c w.named ∷ w.back) c b ns) (sym (still-held c w.front w.back w.named w.runs w.lasts).starts)
    (subst (λ ms. IsPlacedLate (w.front ++ Ended c w.named ∷ w.back) c (watch c w.front).starts ms) (sym w.losses) at))

pub place-other : (ss : List Shown) (s : Shown) → ((c b : ℕ) (w : Watch) → gives_entry c b w s ≡ false) → place (ss ++ s ∷ []) ≡ place ss
place-other ss (Answered l c cl a op) n = absurd (true≢false (sym (and_from _ _ (same_number c) (same_number 1)) ∙ n c 1 (record unwatched { starts = 0 })))
place-other ss (Ended c ns) n = absurd (true≢false (sym (and_from _ _ (same_number c) refl) ∙ n c 0 (record unwatched { running = true })))
place-other ss s n = place-no_call ss s (λ d. refl) ∙ append-nil (place ss)
