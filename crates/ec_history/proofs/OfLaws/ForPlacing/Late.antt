-- Placing with one more line behind a transcript.
use Rattle.std.proofs.Common.{◌≡◌, refl, sym, ap, subst, ◌∙◌, ◌+◌, ℕ, Bool, true, false, ◌==◌, ◌||◌, cond, List, [], ◌∷◌, ◌++◌, length, Option, Some, None, is_some, inl, inr, append_assoc, append-nil}
use Rattle.std.proofs.lemmas.Bool.{cond_both, cond-true, cond-false, cases_Bool, eqb-true, true≢false}
use Rattle.std.specs.List.{list_any}
use Rattle.std.proofs.lemmas.List.Folds.{list_any-append}
use Rattle.ec_volume.specs.Image.{is_id}
use Rattle.ec_volume.specs.Update.{listed}
use Rattle.ec_plain.specs.declared.call.Call.{Call}
use Rattle.ec_history.specs.History.{History}
use Rattle.ec_history.specs.declared.entry.Answer.{Answer}
use Rattle.ec_history.specs.declared.entry.Entry.TheVariants as entry
use Rattle.ec_history.specs.Placing.{watch, watch_from, watch_next, begun, answered, ended, owner, is_running, is_end_of, is_call_of, call_entry, late, ops_in, line_entries, place_from, place, shows}
use Rattle.ec_history.specs.declared.watch.Watch.{Watch}
use Rattle.ec_history.specs.declared.shown.Shown.{Shown}
use Rattle.ec_history.specs.declared.shown.Shown.TheVariants.{Waits, Answered, Durable, Ended, Told, Crashed}
use Rattle.ec_history.proofs.OfLaws.ForPlacing.More.{watch-step, watch-append}
use Rattle.ec_history.proofs.OfLaws.ForPlacing.Watching.{from_front, in_session, before_session, answered_as, own_end, other_end, IsHeld, held-from, held-ended}
use Rattle.ec_base.specs.Options.{or_zero}
use Rattle.ec_history.proofs.PlacingLemmas.{showing}

pub ops_in-append : (h g : History) → ops_in (h ++ g) ≡ ops_in h ++ ops_in g
ops_in-append [] g = refl
ops_in-append ((p, entry.Call c b l begun cl a op) ∷ h) g = ap (λ ns. listed op ++ ns) (ops_in-append h g) ∙ sym (append_assoc (listed op) (ops_in h) (ops_in g))
ops_in-append ((p, entry.Loss c b ns) ∷ h) g = ops_in-append h g

-- a line and those behind it, once the lines before it are known
pub regroup : (past : List Shown) (s : Shown) (ss : List Shown) → (past ++ s ∷ []) ++ ss ≡ past ++ s ∷ ss
regroup past s ss = append_assoc past (s ∷ []) ss

pub late-append : (c : ℕ) (past ss ts : List Shown) → late c past (ss ++ ts) ≡ late c past ss ++ cond (list_any (is_end_of c) ss) [] (late c (past ++ ss) ts)
late-append c past [] ts = ap (λ x. late c x ts) (sym (append-nil past))
late-append c past (s ∷ ss) ts =
    go (is_end_of c s) (cond (is_call_of c s) (call_entry past s) [])
    (late-append c (past ++ s ∷ []) ss ts ∙ ap (λ x. late c (past ++ s ∷ []) ss ++ cond (list_any (is_end_of c) ss) [] (late c x ts)) (regroup past s ss))
  where
    go : (b : Bool) (x : History) → late c (past ++ s ∷ []) (ss ++ ts) ≡ late c (past ++ s ∷ []) ss ++ cond (list_any (is_end_of c) ss) [] (late c (past ++ s ∷ ss) ts)
        → cond b [] (x ++ late c (past ++ s ∷ []) (ss ++ ts)) ≡ cond b [] (x ++ late c (past ++ s ∷ []) ss) ++ cond (b || list_any (is_end_of c) ss) [] (late c (past ++ s ∷ ss) ts)
    go true x e = refl
    go false x e = ap (λ y. x ++ y) e ∙ sym (append_assoc x (late c (past ++ s ∷ []) ss) (cond (list_any (is_end_of c) ss) [] (late c (past ++ s ∷ ss) ts)))

-- a line that is no call of the clerk isn't late
pub late-other : (c : ℕ) (past ss : List Shown) (s : Shown) → is_call_of c s ≡ false → late c past (ss ++ s ∷ []) ≡ late c past ss
late-other c past ss s e =
    late-append c past ss (s ∷ [])
    ∙ ap (λ x. late c past ss ++ x) (nothing (list_any (is_end_of c) ss) (is_end_of c s) (is_call_of c s) e)
    ∙ append-nil (late c past ss)
  where
    nothing : (a b d : Bool) → d ≡ false → cond a [] (cond b [] (cond d (call_entry (past ++ ss) s) [] ++ [])) ≡ []
    nothing true b d f = refl
    nothing false true d f = refl
    nothing false false true f = absurd (true≢false f)
    nothing false false false f = refl

-- nor is one behind the end
pub late-ended : (c : ℕ) (past ss : List Shown) (s : Shown) → list_any (is_end_of c) ss ≡ true → late c past (ss ++ s ∷ []) ≡ late c past ss
late-ended c past ss s e =
    late-append c past ss (s ∷ []) ∙ ap (λ x. late c past ss ++ x) (cond-true (list_any (is_end_of c) ss) [] (late c (past ++ ss) (s ∷ [])) e) ∙ append-nil (late c past ss)

-- The entries of an ended line of the clerk c, of which these are the late calls.
abbrev pub ended_entries : ℕ → List Shown → List ℕ → History → History
ended_entries c past ns calls = calls ++ (length past + 1, entry.Loss c (or_zero (owner (watch c past))) (ns ++ ops_in calls)) ∷ []

-- a line behind changes the entries of a line only as a late call
pub line-same : (past : List Shown) (x : Shown) (rest : List Shown) (s : Shown)
    → ((d : ℕ) (ns : List ℕ) → x ≡ Ended d ns → is_running (watch d past) (owner (watch d past)) ≡ true → late d (past ++ x ∷ []) (rest ++ s ∷ []) ≡ late d (past ++ x ∷ []) rest)
    → line_entries past x (rest ++ s ∷ []) ≡ line_entries past x rest
line-same past (Ended d ns) rest s h = ap (ended_entries d past ns) (go (is_running (watch d past) (owner (watch d past))) (h d ns refl))
  where
    go : (b : Bool) → (b ≡ true → late d (past ++ Ended d ns ∷ []) (rest ++ s ∷ []) ≡ late d (past ++ Ended d ns ∷ []) rest)
        → cond b (late d (past ++ Ended d ns ∷ []) (rest ++ s ∷ [])) [] ≡ cond b (late d (past ++ Ended d ns ∷ []) rest) []
    go true k = k refl
    go false k = refl
line-same past x rest s h = refl

-- The entries of the lines xs, with others behind.
abbrev pub fronts : List Shown → List Shown → List Shown → History
fronts past [] rest = []
fronts past (x ∷ xs) rest = line_entries past x (xs ++ rest) ++ fronts (past ++ x ∷ []) xs rest

pub place_from-append : (past xs rest : List Shown) → place_from past (xs ++ rest) ≡ fronts past xs rest ++ place_from (past ++ xs) rest
place_from-append past [] rest = ap (λ x. place_from x rest) (sym (append-nil past))
place_from-append past (x ∷ xs) rest =
    ap (λ h. line_entries past x (xs ++ rest) ++ h) (place_from-append (past ++ x ∷ []) xs rest ∙ ap (λ y. fronts (past ++ x ∷ []) xs rest ++ place_from y rest) (regroup past x xs))
    ∙ sym (append_assoc (line_entries past x (xs ++ rest)) (fronts (past ++ x ∷ []) xs rest) (place_from (past ++ x ∷ xs) rest))

pub fronts-alone : (past xs : List Shown) → place_from past xs ≡ fronts past xs []
fronts-alone past xs = ap (place_from past) (sym (append-nil xs)) ∙ place_from-append past xs [] ∙ append-nil (fronts past xs [])

-- where no line of xs gets a late call from s, behind rest
pub fronts-same : (past xs rest : List Shown) (s : Shown)
    → ((pre post : List Shown) (d : ℕ) (ns : List ℕ) → xs ≡ pre ++ Ended d ns ∷ post → is_running (watch d (past ++ pre)) (owner (watch d (past ++ pre))) ≡ true
    → late d ((past ++ pre) ++ Ended d ns ∷ []) ((post ++ rest) ++ s ∷ []) ≡ late d ((past ++ pre) ++ Ended d ns ∷ []) (post ++ rest))
    → fronts past xs (rest ++ s ∷ []) ≡ fronts past xs rest
fronts-same past [] rest s h = refl
fronts-same past (x ∷ xs) rest s h =
    ap (λ r. line_entries past x r ++ fronts (past ++ x ∷ []) xs (rest ++ s ∷ [])) (sym (append_assoc xs rest (s ∷ [])))
    ∙ ap (λ y. y ++ fronts (past ++ x ∷ []) xs (rest ++ s ∷ [])) (line-same past x (xs ++ rest) s first)
    ∙ ap (λ y. line_entries past x (xs ++ rest) ++ y) (fronts-same (past ++ x ∷ []) xs rest s more)
  where
    first : (d : ℕ) (ns : List ℕ) → x ≡ Ended d ns → is_running (watch d past) (owner (watch d past)) ≡ true → late d (past ++ x ∷ []) ((xs ++ rest) ++ s ∷ []) ≡ late d (past ++ x ∷ []) (xs ++ rest)
    first d ns e r =
        let k = h [] xs d ns (ap (λ y. y ∷ xs) e) (subst (λ p. is_running (watch d p) (owner (watch d p)) ≡ true) (sym (append-nil past)) r) in
        subst (λ y. late d (past ++ y ∷ []) ((xs ++ rest) ++ s ∷ []) ≡ late d (past ++ y ∷ []) (xs ++ rest)) (sym e)
        (subst (λ p. late d (p ++ Ended d ns ∷ []) ((xs ++ rest) ++ s ∷ []) ≡ late d (p ++ Ended d ns ∷ []) (xs ++ rest)) (append-nil past) k)

    more : (pre post : List Shown) (d : ℕ) (ns : List ℕ) → xs ≡ pre ++ Ended d ns ∷ post → is_running (watch d ((past ++ x ∷ []) ++ pre)) (owner (watch d ((past ++ x ∷ []) ++ pre))) ≡ true
        → late d (((past ++ x ∷ []) ++ pre) ++ Ended d ns ∷ []) ((post ++ rest) ++ s ∷ []) ≡ late d (((past ++ x ∷ []) ++ pre) ++ Ended d ns ∷ []) (post ++ rest)
    more pre post d ns e r =
        let k = h (x ∷ pre) post d ns (ap (λ y. x ∷ y) e) (subst (λ p. is_running (watch d p) (owner (watch d p)) ≡ true) (regroup past x pre) r) in
        subst (λ p. late d (p ++ Ended d ns ∷ []) ((post ++ rest) ++ s ∷ []) ≡ late d (p ++ Ended d ns ∷ []) (post ++ rest)) (sym (regroup past x pre)) k

-- one more line that is a late call of no ended line before it
place-step : (ss : List Shown) (s : Shown)
    → ((pre post : List Shown) (d : ℕ) (ns : List ℕ) → ss ≡ pre ++ Ended d ns ∷ post → is_running (watch d pre) (owner (watch d pre)) ≡ true
    → late d (pre ++ Ended d ns ∷ []) (post ++ s ∷ []) ≡ late d (pre ++ Ended d ns ∷ []) post)
    → place (ss ++ s ∷ []) ≡ place ss ++ line_entries ss s []
place-step ss s h =
    place_from-append [] ss (s ∷ [])
    ∙ ap (λ x. x ++ (line_entries ss s [] ++ [])) (fronts-same [] ss [] s same ∙ sym (fronts-alone [] ss))
    ∙ ap (λ x. place ss ++ x) (append-nil (line_entries ss s []))
  where
    same : (pre post : List Shown) (d : ℕ) (ns : List ℕ) → ss ≡ pre ++ Ended d ns ∷ post → is_running (watch d pre) (owner (watch d pre)) ≡ true
        → late d (pre ++ Ended d ns ∷ []) ((post ++ []) ++ s ∷ []) ≡ late d (pre ++ Ended d ns ∷ []) (post ++ [])
    same pre post d ns e r = subst (λ y. late d (pre ++ Ended d ns ∷ []) (y ++ s ∷ []) ≡ late d (pre ++ Ended d ns ∷ []) y) (sym (append-nil post)) (h pre post d ns e r)

pub place-no_call : (ss : List Shown) (s : Shown) → ((d : ℕ) → is_call_of d s ≡ false) → place (ss ++ s ∷ []) ≡ place ss ++ line_entries ss s []
place-no_call ss s n = place-step ss s (λ pre post d ns e r. late-other d (pre ++ Ended d ns ∷ []) post s (n d))

pub place-ended : (ss : List Shown) (c : ℕ) (ns : List ℕ) → place (ss ++ Ended c ns ∷ []) ≡ place ss ++ (length ss + 1, entry.Loss c (or_zero (owner (watch c ss))) ns) ∷ []
place-ended ss c ns = place-no_call ss (Ended c ns) (λ d. refl) ∙ ap (λ x. place ss ++ x) (go (is_running (watch c ss) (owner (watch c ss))))
  where
    go : (b : Bool) → ended_entries c ss ns (cond b [] []) ≡ (length ss + 1, entry.Loss c (or_zero (owner (watch c ss))) ns) ∷ []
    go true = ap (λ x. (length ss + 1, entry.Loss c (or_zero (owner (watch c ss))) x) ∷ []) (append-nil ns)
    go false = ap (λ x. (length ss + 1, entry.Loss c (or_zero (owner (watch c ss))) x) ∷ []) (append-nil ns)

-- Behind an ended line of the running start, with no end since, something is untold.
pub still-held : (c : ℕ) (pre post : List Shown) (ns : List ℕ) → is_running (watch c pre) (owner (watch c pre)) ≡ true → list_any (is_end_of c) post ≡ false
    → IsHeld (watch c pre).starts (watch c (pre ++ Ended c ns ∷ post))
still-held c pre post ns r n =
    let h : IsHeld (watch c pre).starts (watch_from c (watch c pre) (Ended c ns ∷ post)) = held-from c (watch c pre).starts (watch_next c (watch c pre) (Ended c ns)) post n (held-ended c (watch c pre) ns r) in
    subst (IsHeld (watch c pre).starts) (sym (watch-append c pre (Ended c ns ∷ post))) h

ended_since : (c : ℕ) (pre post : List Shown) (ns : List ℕ) → is_running (watch c pre) (owner (watch c pre)) ≡ true → (watch c (pre ++ Ended c ns ∷ post)).untold ≡ None → list_any (is_end_of c) post ≡ true
ended_since c pre post ns r u = go (list_any (is_end_of c) post) refl
  where
    go : (b : Bool) → list_any (is_end_of c) post ≡ b → b ≡ true
    go true e = refl
    go false e = absurd (true≢false (sym ((still-held c pre post ns r e).untold) ∙ ap is_some u))

-- the late calls of a front that was told don't grow by an answer of the clerk c
pub told-late : (front rest : List Shown) (l c : ℕ) (cl : Call) (a : Answer) (op : Option ℕ) → (watch c front).untold ≡ None
    → (pre post : List Shown) (d : ℕ) (ns : List ℕ) → front ≡ pre ++ Ended d ns ∷ post → is_running (watch d pre) (owner (watch d pre)) ≡ true
    → late d (pre ++ Ended d ns ∷ []) ((post ++ rest) ++ Answered l c cl a op ∷ []) ≡ late d (pre ++ Ended d ns ∷ []) (post ++ rest)
told-late front rest l c cl a op u pre post d ns e r = elim (cases_Bool (d == c)) [
  | inr n ↦ late-other d (pre ++ Ended d ns ∷ []) (post ++ rest) (Answered l c cl a op) n
  | inl y ↦
      let v : (watch d (pre ++ Ended d ns ∷ post)).untold ≡ None = subst (λ x. (watch x (pre ++ Ended d ns ∷ post)).untold ≡ None) (sym (eqb-true d c y)) (subst (λ x. (watch c x).untold ≡ None) e u) in
      let any : list_any (is_end_of d) (post ++ rest) ≡ true = list_any-append (is_end_of d) post rest ∙ ap (λ x. x || list_any (is_end_of d) rest) (ended_since d pre post ns r v) in
      late-ended d (pre ++ Ended d ns ∷ []) (post ++ rest) (Answered l c cl a op) any
]

pub place-answer : (ss : List Shown) (l c : ℕ) (cl : Call) (a : Answer) (op : Option ℕ) → (watch c ss).untold ≡ None
    → place (ss ++ Answered l c cl a op ∷ []) ≡ place ss ++ call_entry ss (Answered l c cl a op)
place-answer ss l c cl a op u =
    place-step ss (Answered l c cl a op) same ∙ ap (λ x. place ss ++ cond (is_some x) [] (call_entry ss (Answered l c cl a op))) u
  where
    same : (pre post : List Shown) (d : ℕ) (ns : List ℕ) → ss ≡ pre ++ Ended d ns ∷ post → is_running (watch d pre) (owner (watch d pre)) ≡ true
        → late d (pre ++ Ended d ns ∷ []) (post ++ Answered l c cl a op ∷ []) ≡ late d (pre ++ Ended d ns ∷ []) post
    same pre post d ns e r =
        subst (λ y. late d (pre ++ Ended d ns ∷ []) (y ++ Answered l c cl a op ∷ []) ≡ late d (pre ++ Ended d ns ∷ []) y) (append-nil post) (told-late ss [] l c cl a op u pre post d ns e r)

-- The ended line of a running start that isn't told yet, and the lines before and behind it.
pub record Since (c : ℕ) (ss : List Shown) (ms : List ℕ) : Type 0 where
  pub front : List Shown
  pub named : List ℕ
  pub back : List Shown
  pub whole : ss ≡ front ++ Ended c named ∷ back
  pub runs : is_running (watch c front) (owner (watch c front)) ≡ true
  pub lasts : list_any (is_end_of c) back ≡ false
  pub losses : ms ≡ named ++ ops_in (late c (front ++ Ended c named ∷ []) back)

module _ (c : ℕ) (ss : List Shown) (s : Shown) (seen : (ns : List ℕ) → (watch c ss).untold ≡ Some ns → Since c ss ns) where
  extend : (ks ms : List ℕ) → is_end_of c s ≡ false → (watch c ss).untold ≡ Some ks → ms ≡ ks ++ ops_in (cond (is_call_of c s) (call_entry ss s) []) → Since c (ss ++ s ∷ []) ms
  extend ks ms n u e =
      let h = seen ks u in
      let begin : List Shown = h.front ++ Ended c h.named ∷ [] in
      let all : begin ++ h.back ≡ ss = regroup h.front (Ended c h.named) h.back ∙ sym h.whole in
      let one : late c begin (h.back ++ s ∷ []) ≡ late c begin h.back ++ cond (is_call_of c s) (call_entry ss s) [] =
      late-append c begin h.back (s ∷ [])
      ∙ ap (λ x. late c begin h.back ++ cond x [] (late c (begin ++ h.back) (s ∷ []))) h.lasts
      ∙ ap (λ x. late c begin h.back ++ late c x (s ∷ [])) all
      ∙ ap (λ x. late c begin h.back ++ cond x [] (cond (is_call_of c s) (call_entry ss s) [] ++ [])) n
      ∙ ap (λ x. late c begin h.back ++ x) (append-nil (cond (is_call_of c s) (call_entry ss s) [])) in
      record {
        front = h.front;
        named = h.named;
        back = h.back ++ s ∷ [];
        whole = ap (λ x. x ++ s ∷ []) h.whole ∙ append_assoc h.front (Ended c h.named ∷ h.back) (s ∷ []);
        runs = h.runs;
        lasts = list_any-append (is_end_of c) h.back (s ∷ []) ∙ ap (λ x. x || (is_end_of c s || false)) h.lasts ∙ ap (λ x. x || false) n;
        losses =
            e
            ∙ ap (λ x. x ++ ops_in (cond (is_call_of c s) (call_entry ss s) [])) h.losses
            ∙ append_assoc h.named (ops_in (late c begin h.back)) (ops_in (cond (is_call_of c s) (call_entry ss s) []))
            ∙ ap (λ x. h.named ++ x) (sym (ops_in-append (late c begin h.back) (cond (is_call_of c s) (call_entry ss s) [])))
            ∙ ap (λ x. h.named ++ ops_in x) (sym one);
      }

  still : (ms : List ℕ) → is_end_of c s ≡ false → is_call_of c s ≡ false → (watch c ss).untold ≡ Some ms → Since c (ss ++ s ∷ []) ms
  still ms n k u = extend ms ms n u (sym (append-nil ms) ∙ ap (λ x. ms ++ ops_in (cond x (call_entry ss s) [])) (sym k))

pub begun-untold : (w : Watch) → (begun w).untold ≡ w.untold
begun-untold w = cond_both w.running w (record w { starts = w.starts + 1; running = true }) (λ v. v.untold ≡ w.untold) (λ e. refl) (λ e. refl)

answered-untold : (w : Watch) (sh : Bool) (op : Option ℕ) (ms : List ℕ) → (answered w sh op).untold ≡ Some ms → (ks : List ℕ) × (w.untold ≡ Some ks) × (ms ≡ ks ++ listed op)
answered-untold w sh op ms h = go w.untold refl h
  where
    go : (u : Option (List ℕ)) → w.untold ≡ u → (answered_as w sh op u).untold ≡ Some ms → (ks : List ℕ) × (w.untold ≡ Some ks) × (ms ≡ ks ++ listed op)
    go (Some ns) e k = (ns, e, some_is k)
      where
        some_is : Some (ns ++ listed op) ≡ Some ms → ms ≡ ns ++ listed op
        some_is q = cc
    go None e k =
        absurd (none_some (cond_both sh (showing w op) (cond (is_id w.starts w.open_start) (in_session w op) (before_session w op)) (λ v. v.untold ≡ Some ms → w.untold ≡ Some ms) (λ f x. x) (λ f. cond_both (is_id w.starts w.open_start) (in_session w op) (before_session w op) (λ v. v.untold ≡ Some ms → w.untold ≡ Some ms) (λ i x. x) (λ i x. x)) k))
      where
        none_some : w.untold ≡ Some ms → ⊥
        none_some q = cc

since-next : (c : ℕ) (ss : List Shown) (s : Shown) → ((ns : List ℕ) → (watch c ss).untold ≡ Some ns → Since c ss ns)
    → (ms : List ℕ) → (watch_next c (watch c ss) s).untold ≡ Some ms → Since c (ss ++ s ∷ []) ms
since-next c ss (Waits l d cl) seen ms u =
    cond_both (c == d) (begun (watch c ss)) (watch c ss) (λ v. v.untold ≡ Some ms → Since c (ss ++ Waits l d cl ∷ []) ms)
    (λ e k. still c ss (Waits l d cl) seen ms refl refl (sym (begun-untold (watch c ss)) ∙ k)) (λ e k. still c ss (Waits l d cl) seen ms refl refl k) u
since-next c ss (Answered l d cl a op) seen ms u =
    cond_both (c == d) (answered (begun (watch c ss)) (shows cl a) op) (watch c ss) (λ v. v.untold ≡ Some ms → Since c (ss ++ Answered l d cl a op ∷ []) ms)
    (λ e k.
    let x = answered-untold (begun (watch c ss)) (shows cl a) op ms k in
    extend c ss (Answered l d cl a op) seen x.0 ms refl (sym (begun-untold (watch c ss)) ∙ x.1)
    (x.2 ∙ ap (λ y. x.0 ++ y) (sym (append-nil (listed op))) ∙ ap (λ b. x.0 ++ ops_in (cond b (call_entry ss (Answered l d cl a op)) [])) (sym e)))
    (λ e k. still c ss (Answered l d cl a op) seen ms refl e k) u
since-next c ss (Durable d ns) seen ms u =
    cond_both (c == d) _ (watch c ss) (λ v. v.untold ≡ Some ms → Since c (ss ++ Durable d ns ∷ []) ms)
    (λ e k. still c ss (Durable d ns) seen ms refl refl k) (λ e k. still c ss (Durable d ns) seen ms refl refl k) u
since-next c ss (Ended d ns) seen ms u =
    cond_both (c == d) _ (watch c ss) (λ v. v.untold ≡ Some ms → Since c (ss ++ Ended d ns ∷ []) ms)
    (λ e k. new (eqb-true c d e) k) (λ e k. still c ss (Ended d ns) seen ms refl refl k) u
  where
    own : is_running (watch c ss) (owner (watch c ss)) ≡ true → ended (watch c ss) ns ≡ own_end (watch c ss) ns
    own r = cond-true (is_running (watch c ss) (owner (watch c ss))) (own_end (watch c ss) ns) (other_end (watch c ss)) r

    other : is_running (watch c ss) (owner (watch c ss)) ≡ false → ended (watch c ss) ns ≡ other_end (watch c ss)
    other r = cond-false (is_running (watch c ss) (owner (watch c ss))) (own_end (watch c ss) ns) (other_end (watch c ss)) r

    new : c ≡ d → (ended (watch c ss) ns).untold ≡ Some ms → Since c (ss ++ Ended d ns ∷ []) ms
    new e k = elim (cases_Bool (is_running (watch c ss) (owner (watch c ss)))) [
      | inl r ↦ record {
        front = ss;
        named = ns;
        back = [];
        whole = ap (λ x. ss ++ Ended x ns ∷ []) (sym e);
        runs = r;
        lasts = refl;
        losses = some_is (sym (ap (λ w. w.untold) (own r)) ∙ k) ∙ sym (append-nil ns);
      }
      | inr r ↦ still c ss (Ended d ns) seen ms refl refl (sym (ap (λ w. w.untold) (other r)) ∙ k)
    ]
      where
        some_is : Some ns ≡ Some ms → ms ≡ ns
        some_is q = cc
since-next c ss (Told d ns) seen ms u =
    cond_both (c == d) _ (watch c ss) (λ v. v.untold ≡ Some ms → Since c (ss ++ Told d ns ∷ []) ms)
    (λ e k. absurd (none_some k)) (λ e k. still c ss (Told d ns) seen ms e refl k) u
  where
    none_some : None ≡ Some ms → ⊥
    none_some q = cc
since-next c ss (Crashed d) seen ms u =
    cond_both (c == d) _ (watch c ss) (λ v. v.untold ≡ Some ms → Since c (ss ++ Crashed d ∷ []) ms)
    (λ e k. absurd (none_some k)) (λ e k. still c ss (Crashed d) seen ms e refl k) u
  where
    none_some : None ≡ Some ms → ⊥
    none_some q = cc
since-next c ss s seen ms u = still c ss s seen ms refl refl u

pub since : (c : ℕ) (ss : List Shown) (ms : List ℕ) → (watch c ss).untold ≡ Some ms → Since c ss ms
since c = from_front (λ ss. (ms : List ℕ) → (watch c ss).untold ≡ Some ms → Since c ss ms) (λ ms u. absurd (none_some ms u))
    (λ ss s seen ms u. since-next c ss s seen ms (ap (λ w. w.untold) (sym (watch-step c ss s)) ∙ u))
  where
    none_some : (ms : List ℕ) → None ≡ Some ms → ⊥
    none_some ms q = cc
