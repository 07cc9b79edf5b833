-- The entries of one line, by what stands above it.
use Rattle.std.proofs.Common.{◌≡◌, refl, sym, ap, subst, ◌∙◌, arith, ◌≤◌, ◌<◌, ◌+◌, ℕ, true, cond, List, [], ◌∷◌, ◌++◌, length, take, drop, Option, Some, append_assoc}
use Rattle.std.specs.Prelude.{slice_get}
use Rattle.std.proofs.lemmas.Option.{get_or_from_slice_get, slice_get_within}
use Rattle.ec_history.proofs.OfLaws.ForPlacing.More.{watch-step}
use Rattle.ec_history.proofs.OfLaws.ForPlacing.Watching.{held-ended}
use Rattle.ec_history.specs.History.{History}
use Rattle.ec_history.specs.declared.entry.Entry.TheVariants as entry
use Rattle.ec_history.specs.Placing.{watch, watch_next, late, ops_in, owner, is_running, line_entries, place_from}
use Rattle.ec_history.specs.declared.shown.Shown.{Shown}
use Rattle.ec_history.specs.declared.shown.Shown.TheVariants.{Answered, Ended}
use Rattle.ec_history.specs.declared.watch.Watch.{Watch}
use Rattle.ec_legal.specs.Watches.{loss_of, answer_behind}
use Rattle.ec_legal.proofs.Late.{above-at, line-at, from-laws}
use Rattle.ec_watch.proofs.Watched.{few-at}
use Rattle.ec_base.specs.Limits.{clerk_count}
use Rattle.ec_legal.specs.Watches.{IsHeld}
use Rattle.ec_watch.specs.Watches.{AreWatched}
use Rattle.ec_base.specs.Options.{or_zero}
use Rattle.ec_base.proofs.Lists.{front-length}

pub front-at : (ss : List Shown) (i : ℕ) (s : Shown) → slice_get ss i ≡ Some s → take (i + 1) ss ≡ take i ss ++ s ∷ []
front-at ss i s g = above-at ss i s s (slice_get_within ss i s g) (sym (get_or_from_slice_get ss i s s g))

pub rest-at : (ss : List Shown) (i : ℕ) (s : Shown) → slice_get ss i ≡ Some s → drop i ss ≡ s ∷ drop (i + 1) ss
rest-at ss i s g = line-at ss i s s (slice_get_within ss i s g) (sym (get_or_from_slice_get ss i s s g))

pub loss-held : (c : ℕ) (w : Watch) (ns : List ℕ) (ss : List Shown) (i : ℕ) (s : Shown) → slice_get ss i ≡ Some s → s ≡ Ended c ns → w ≡ watch c (take i ss) → is_running w (owner w) ≡ true → IsHeld w.starts (watch c (take (i + 1) ss))
loss-held c w ns ss i s g e v r =
    let past = take i ss in
    let now : watch c (take (i + 1) ss) ≡ watch_next c w (Ended c ns) =
    ap (watch c) (front-at ss i s g ∙ ap (λ x. past ++ x ∷ []) e) ∙ watch-step c past (Ended c ns) ∙ ap (λ u. watch_next c u (Ended c ns)) (sym v) in
    subst (IsHeld w.starts) (sym now) (from-laws w.starts _ (held-ended c w ns r))

abbrev ended_gives : ℕ → Watch → List ℕ → List Shown → List Shown → ℕ → History
ended_gives c w ns front rest n =
    let calls = cond (is_running w (owner w)) (late c front rest) [] in
    calls ++ (n + 1, entry.Loss c (or_zero (owner w)) (ns ++ ops_in calls)) ∷ []

pub line-loss : (c : ℕ) (w : Watch) (ns : List ℕ) (ss : List Shown) (i : ℕ) (s : Shown) → slice_get ss i ≡ Some s → s ≡ Ended c ns → w ≡ watch c (take i ss) → loss_of c w ns ss i ≡ line_entries (take i ss) s (drop (i + 1) ss)
line-loss c w ns ss i s g e v =
    let past = take i ss in
    let rest = drop (i + 1) ss in
    let within : i < length ss = slice_get_within ss i s g in
    let count : length past ≡ i = front-length ss i (omega (arith, within)) in
    ap (λ f. ended_gives c w ns f rest i) (front-at ss i s g ∙ ap (λ x. past ++ x ∷ []) e)
    ∙ ap (λ n. ended_gives c w ns (past ++ Ended c ns ∷ []) rest n) (sym count)
    ∙ ap (λ u. ended_gives c u ns (past ++ Ended c ns ∷ []) rest (length past)) v
    ∙ ap (λ x. line_entries past x rest) (sym e)

pub line-answer : (w : Watch) (past : List Shown) (l c : ℕ) (cl : _) (a : _) (op : Option ℕ) (rest : List Shown) (s : Shown) → s ≡ Answered l c cl a op → w ≡ watch c past → answer_behind w past s ≡ line_entries past s rest
line-answer w past l c cl a op rest s e v =
    ap (answer_behind w past) e ∙ ap (λ u. answer_behind u past (Answered l c cl a op)) v ∙ ap (λ x. line_entries past x rest) (sym e)

pub line-other : (past : List Shown) (s : Shown) (rest : List Shown) → ((l c : ℕ) (cl : _) (a : _) (op : Option ℕ) → s ≡ Answered l c cl a op → ⊥) → ((c : ℕ) (ns : List ℕ) → s ≡ Ended c ns → ⊥) → line_entries past s rest ≡ []
line-other past (Answered l c cl a op) rest f g = absurd (f l c cl a op refl)
line-other past (Ended c ns) rest f g = absurd (g c ns refl)
line-other past s rest f g = refl

-- Placing, one line on.

pub place-step : (ss : List Shown) (i : ℕ) (s : Shown) (all xs ys : History) → slice_get ss i ≡ Some s → all ≡ xs ++ place_from (take i ss) (drop i ss) → ys ≡ xs ++ line_entries (take i ss) s (drop (i + 1) ss) → all ≡ ys ++ place_from (take (i + 1) ss) (drop (i + 1) ss)
place-step ss i s all xs ys g a y =
    let past = take i ss in
    let rest = drop (i + 1) ss in
    a
    ∙ ap (λ ts. xs ++ place_from past ts) (rest-at ss i s g)
    ∙ sym (append_assoc xs (line_entries past s rest) (place_from (past ++ s ∷ []) rest))
    ∙ ap (λ h. h ++ place_from (past ++ s ∷ []) rest) (sym y)
    ∙ ap (λ p. ys ++ place_from p rest) (sym (front-at ss i s g))

-- starts are few where lines are
pub starts-few : (ws : List Watch) (ss : List Shown) (i n : ℕ) → AreWatched ws (take i ss) → i ≤ length ss → length ss < n → (w : Watch) (c : ℕ) → slice_get ws c ≡ Some w → w.starts < n
starts-few ws ss i n h l m w c g =
    let within : c < length ws = slice_get_within ws c w g in
    let count : length ws ≡ clerk_count = h.count in
    let below : c < clerk_count = omega (arith, within, count) in
    let many : length (take i ss) ≡ i = front-length ss i l in
    omega (arith, few-at ws (take i ss) c w h below g, many, l, m)
