-- One more answer at the end of the history, and the facts on histories stay.
use Rattle.std.proofs.Common.{◌≡◌, refl, sym, ap, subst, ◌∙◌, arith, ◌<◌, ◌≤◌, ◌+◌, ℕ, T, Bool, true, false, not, ◌==◌, ◌&&◌, ◌||◌, cond, map, List, [], ◌∷◌, ◌++◌, length, Option, Some, None, append_assoc, append-nil, length-append}
use Rattle.std.specs.Prelude.{is_some}
use Rattle.std.specs.List.{filter, list_any, list_all}
use Rattle.std.proofs.lemmas.Bool.{cond-true, and_parts, true≢false}
use Rattle.std.proofs.lemmas.List.{map-append}
use Rattle.std.proofs.lemmas.List.Elements.{filter-append}
use Rattle.std.proofs.lemmas.List.Folds.{list_any-append}
use Rattle.ec_base.specs.declared.ids.Age.{Age}
use Rattle.ec_volume.specs.Update.{member, operands, listed}
use Rattle.ec_plain.specs.declared.call.Call.{Call}
use Rattle.ec_history.specs.History.{Base, History, Op, Each, Throughout, Covers, kept, owed, numbers, of_start, is_one_of, is_entry_of, issued_by, touched}
use Rattle.ec_history.specs.Legal.{IsLegal, leaves, is_op_of}
use Rattle.ec_history.specs.declared.watch.Watch.{Watch}
use Rattle.ec_volume.specs.Image.{is_id}
use Rattle.ec_history.specs.Placing.{watch, begun, answered, or_else, shows, unwatched, last_place, before_line, place, call_entry}
use Rattle.ec_history.specs.declared.entry.Answer.{Answer}
use Rattle.ec_history.specs.declared.entry.Entry.{Entry}
use Rattle.ec_history.specs.declared.entry.Entry.TheVariants as entry
use Rattle.ec_coherence.specs.Answers.{IsAnswered}
use Rattle.ec_history.specs.declared.shown.Shown.{Shown}
use Rattle.ec_history.specs.declared.shown.Shown.TheVariants.{Answered}
use Rattle.ec_cache.specs.declared.resolve.verdict.Verdict.{Verdict}
use Rattle.ec_cache.specs.declared.resolve.verdict.Verdict.TheVariants.{Need, Lost, NeedIds, Done}
use Rattle.ec_volume.specs.declared.update.Update.{Update}
use Rattle.ec_history.proofs.OfLaws.ForPlacing.Cuts.{legal-step, legal-split, throughout-append, placeable-step}
use Rattle.ec_history.proofs.OfLaws.ForPlacing.Late.{place-answer}
use Rattle.ec_history.proofs.OfLaws.ForPlacing.More.{kept-step, owed-others, count-next, watch-step}
use Rattle.ec_history.proofs.OfLaws.ForPlacing.Numbers.{kept-up_to, each-filter, each-front}
use Rattle.ec_coherence.proofs.ForCommits.Rebased.{Alike, alike-back, throughout-map, kept-same, owed_from-same, covers-same, leaves-same, legal-same}
use Rattle.ec_protocol.specs.Clerk.{Doing, verdict}
use Rattle.ec_protocol.specs.declared.clerk.Clerk.{Clerk}
use Rattle.ec_coherence.specs.System.{System, base_of, is_of, is_open, undurable, with_start}
use Rattle.ec_coherence.specs.Events.{EventsAgree, CutAgrees, Frees, IsUncut, shown_boot, shown_op, same_op}
use Rattle.ec_coherence.proofs.ForServer.Tables.{same_some, each-map}
use Rattle.ec_coherence.specs.Answers.{IsLive, Sees, fresh_of, op_given, based}
use Rattle.ec_coherence.specs.Comes.{AnswerComes, begun_at, entry_next, ops_next, after_answer}
use Rattle.ec_coherence.proofs.ForCommits.Answering.{old_fresh, new_fresh, alike, kept-now, is-at, fresh-here, answers-stand, given-issued}
use Rattle.ec_base.proofs.Numbers.{same-self as same, equal}
use Rattle.ec_base.proofs.Options.{none_some}
use Rattle.ec_history.proofs.HistoryLemmas.{each-more as each-append}

-- Histories.

pub filter-same : (p q : Op → Bool) (xs : List Op) → Each (λ k. p k ≡ q k) xs → filter p xs ≡ filter q xs
filter-same p q [] e = refl
filter-same p q (x ∷ xs) e = ap (λ b. cond b (x ∷ filter p xs) (filter p xs)) e.0 ∙ ap (λ ys. cond (q x) (x ∷ ys) ys) (filter-same p q xs e.1)

-- of each entry with what stands before it in this history
pub throughout-in : (whole : History) (P Q : History → ℕ × Entry → Type 0) → ((past rest : History) (e : ℕ × Entry) → whole ≡ past ++ rest → P past e → Q past e)
    → (past h : History) → whole ≡ past ++ h → Throughout P past h → Throughout Q past h
throughout-in whole P Q f past [] w t = tt
throughout-in whole P Q f past (e ∷ h) w t = (f past (e ∷ h) e w t.0, throughout-in whole P Q f (past ++ e ∷ []) h (w ∙ sym (append_assoc past (e ∷ []) h)) t.1)

module _ (base : Base) (most : ℕ) (whole : History) (legal : IsLegal base most whole) (d f : ℕ) (ns ms : List ℕ) (above : Each (λ m. length (filter (is_op_of d f) whole) < m) ms) where
  above-all : (n m : ℕ) (xs : List ℕ) → n ≤ m → Each (λ x. m < x) xs → member n xs ≡ false
  above-all n m [] le a = refl
  above-all n m (x ∷ xs) le a = ap (λ b. b || member n xs) (apart n m x le a.0) ∙ above-all n m xs le a.1
    where
      apart : (n m x : ℕ) → n ≤ m → m < x → (n == x) ≡ false
      apart n m x p q = grind arith

  one : (k : Op) → (of_start d f k ≡ true → k.number ≤ length (filter (is_op_of d f) whole)) → is_one_of d f (ns ++ ms) k ≡ is_one_of d f ns k
  one k u = go (of_start d f k) refl
    where
      or-none : (b : Bool) → (b || false) ≡ b
      or-none true = refl
      or-none false = refl

      go : (b : Bool) → of_start d f k ≡ b → (b && member k.number (ns ++ ms)) ≡ (b && member k.number ns)
      go false e = refl
      go true e = list_any-append (λ p. k.number == p) ns ms ∙ ap (λ b. member k.number ns || b) (above-all k.number (length (filter (is_op_of d f) whole)) ms (u e) above) ∙ or-none (member k.number ns)

  -- more operations with new numbers are named, and none of them is kept before an entry
  pub still-lost : (past rest : History) → whole ≡ past ++ rest → filter (is_one_of d f (ns ++ ms)) (kept base past) ≡ filter (is_one_of d f ns) (kept base past)
  still-lost past rest w = filter-same (is_one_of d f (ns ++ ms)) (is_one_of d f ns) (kept base past)
      (each-map (λ k. of_start d f k ≡ true → k.number ≤ length (filter (is_op_of d f) past)) (λ k. is_one_of d f (ns ++ ms) k ≡ is_one_of d f ns k) (kept base past)
      (λ k u. one k (λ e. within (u e)))
      (kept-up_to base most d f past (legal-split base most past rest (subst (IsLegal base most) w legal)).0))
    where
      count : length (filter (is_op_of d f) whole) ≡ length (filter (is_op_of d f) past) + length (filter (is_op_of d f) rest)
      count = ap (λ h. length (filter (is_op_of d f) h)) w ∙ ap length (filter-append (is_op_of d f) past rest) ∙ length-append (filter (is_op_of d f) past) (filter (is_op_of d f) rest)

      bound : (n a b c : ℕ) → c ≡ a + b → n ≤ a → n ≤ c
      bound n a b c e l = omega (arith, e, l)

      within : {n : ℕ} → n ≤ length (filter (is_op_of d f) past) → n ≤ length (filter (is_op_of d f) whole)
      within {n} l = bound n (length (filter (is_op_of d f) past)) (length (filter (is_op_of d f) rest)) (length (filter (is_op_of d f) whole)) count l

-- Watches.

begun-runs : (w : Watch) → (begun w).running ≡ true
begun-runs w = go w.running refl
  where
    go : (b : Bool) → w.running ≡ b → (cond b w (record w { starts = w.starts + 1; running = true })).running ≡ true
    go true e = e
    go false e = refl

begun-untold : (w : Watch) → (begun w).untold ≡ w.untold
begun-untold w = go w.running
  where
    go : (b : Bool) → (cond b w (record w { starts = w.starts + 1; running = true })).untold ≡ w.untold
    go true = refl
    go false = refl

module _ (u : Watch) (op : Option ℕ) where
  abbrev shown_or : Bool → Bool → Watch
  shown_or s own = cond s (record u { open_start = or_else u.open_start u.starts; undurable = u.early ++ (u.undurable ++ listed op); early = [] })
      (cond own (record u { undurable = u.undurable ++ listed op }) (record u { early = u.early ++ listed op }))

  abbrev late_or : Option (List ℕ) → Bool → Bool → Watch
  late_or o s own = elim o as (λ z. Watch) [ Some ns ↦ record u { untold = Some (ns ++ listed op) } | None ↦ shown_or s own ]

  answered-runs : (s : Bool) → (answered u s op).running ≡ u.running
  answered-runs s = go u.untold s (is_id u.starts u.open_start)
    where
      go : (o : Option (List ℕ)) (t own : Bool) → (late_or o t own).running ≡ u.running
      go (Some ns) t own = refl
      go None true own = refl
      go None false true = refl
      go None false false = refl

  answered-starts : (s : Bool) → (answered u s op).starts ≡ u.starts
  answered-starts s = go u.untold s (is_id u.starts u.open_start)
    where
      go : (o : Option (List ℕ)) (t own : Bool) → (late_or o t own).starts ≡ u.starts
      go (Some ns) t own = refl
      go None true own = refl
      go None false true = refl
      go None false false = refl

  answered-untold : (s : Bool) → u.untold ≡ None → (answered u s op).untold ≡ None
  answered-untold s n = ap (λ o. (late_or o s (is_id u.starts u.open_start)).untold) n ∙ go s (is_id u.starts u.open_start)
    where
      go : (t own : Bool) → (late_or None t own).untold ≡ None
      go true own = n
      go false true = n
      go false false = n

pub begun-answered : (w : Watch) (s : Bool) (op : Option ℕ) → (begun (answered (begun w) s op)).starts ≡ (begun w).starts
begun-answered w s op = ap (λ z. z.starts) (cond-true (answered (begun w) s op).running (answered (begun w) s op) _ (answered-runs (begun w) op s ∙ begun-runs w)) ∙ answered-starts (begun w) op s

-- The answer of a clerk that isn't cut off.
module _ (g : System) (c b : ℕ) (k : Clerk) (d : Doing) (l : ℕ) (cl : Call) (a : Answer) (op : Option ℕ) (ev : EventsAgree g) (r : g.running c ≡ Some b) (q : g.clerks c b ≡ Some k)
    (uncut : IsLive g c k) (s : Sees g k) (t : AnswerComes g c b k d l cl a op) where
  abbrev x : ℕ
  x = fresh_of k

  abbrev B : Base
  B = based g x

  abbrev sb : ℕ
  sb = shown_boot g c b

  abbrev H : History
  H = g.ghost.history

  abbrev p : ℕ
  p = length g.ghost.shown + 1

  abbrev e : ℕ × Entry
  e = entry_next g c b l cl a op

  abbrev os : List Op
  os = ops_next g c b cl k

  abbrev line : Shown
  line = Answered l c cl a op

  abbrev after : System
  after = after_answer g c b k d l cl a op

  abbrev fo : ℕ → ℕ
  fo = old_fresh g x

  abbrev fn : ℕ → ℕ
  fn = new_fresh g x

  same-fresh : Alike fo fn H
  same-fresh = alike g x ev

  still : (watch c g.ghost.shown).untold ≡ None
  still = ev.untold c b k r q uncut.uncut

  grows : place (g.ghost.shown ++ line ∷ []) ≡ H ++ e ∷ []
  grows =
      place-answer g.ghost.shown l c cl a op still
      ∙ ap (λ h. h ++ call_entry g.ghost.shown line) ev.placed
      ∙ ap (λ st. H ++ (p, entry.Call c st l (last_place c st unwatched 1 0 (before_line l g.ghost.shown)) cl a op) ∷ []) (ev.starts c b r)

  given : IsAnswered B g.durable.max_objects H c sb p l (begun_at g c b l) cl a op d.clerk.owed
  given = answers-stand g x ev c b k r q uncut s refl g.durable.max_objects l (begun_at g c b l) cl a op d.clerk.owed t.gives

  old-legal : IsLegal B g.durable.max_objects H
  old-legal = legal-same g.origin fo fn g.durable.max_objects H same-fresh ev.legal

  legal-now : IsLegal B g.durable.max_objects (H ++ e ∷ [])
  legal-now = legal-step B g.durable.max_objects H e old-legal given.0

  shown-ops : (v : Verdict) → op_given c sb p k v ≡ map (shown_op g) (op_given c b p k v)
  shown-ops (Need y h) = refl
  shown-ops (Lost ns xs) = refl
  shown-ops (NeedIds xs) = refl
  shown-ops (Done o) = go o.update
    where
      go : (u : Option Update) → elim u as (λ z. List Op) [ None ↦ [] | Some w ↦ record { clerk = c; boot = sb; number = k.log.next; place = p; update = w } ∷ [] ]
          ≡ map (shown_op g) (elim u as (λ z. List Op) [ None ↦ [] | Some w ↦ record { clerk = c; boot = b; number = k.log.next; place = p; update = w } ∷ [] ])
      go None = refl
      go (Some w) = refl

  issues : issued_by B (kept B H) e ≡ map (shown_op g) os
  issues = given-issued B g.durable.max_objects H c sb p l (begun_at g c b l) cl k (is-at g x ev c b k r q uncut s) (fresh-here g x) (ev.counts c b k r q) (verdict cl k) a op d.clerk.owed refl t.gives ∙ shown-ops (verdict cl k)

  keeps-now : kept B (H ++ e ∷ []) ≡ map (shown_op g) (g.ghost.kept ++ os)
  keeps-now = kept-step B H e ∙ ap (λ ys. kept B H ++ ys) issues ∙ ap (λ ks. ks ++ map (shown_op g) os) (kept-now g x ev) ∙ sym (map-append (shown_op g) g.ghost.kept os)

  -- a fact of each running start: of this one, and of the others
  by-start : (P : ℕ → ℕ → Clerk → Type 0) → P c b d.clerk → ((c2 b2 : ℕ) (k2 : Clerk) → (c2 == c) ≡ false → g.running c2 ≡ Some b2 → g.clerks c2 b2 ≡ Some k2 → P c2 b2 k2)
      → (c2 b2 : ℕ) (k2 : Clerk) → g.running c2 ≡ Some b2 → with_start c b d.clerk g.clerks c2 b2 ≡ Some k2 → P c2 b2 k2
  by-start P own other c2 b2 k2 r2 q2 = go (c2 == c) refl
    where
      go : (z : Bool) → (c2 == c) ≡ z → P c2 b2 k2
      go false f = other c2 b2 k2 f r2 (sym (ap (λ y. elim (y && (b2 == b)) as (λ z. Option Clerk) [ true ↦ Some d.clerk | false ↦ g.clerks c2 b2 ]) f) ∙ q2)
      go true f =
          let pc : c2 ≡ c = equal c2 c f in
          let pb : b2 ≡ b = same_some (sym r2 ∙ ap g.running pc ∙ r) in
          let both : ((c2 == c) && (b2 == b)) ≡ true = ap (λ y. y && (b2 == b)) f ∙ ap (λ y. b2 == y) (sym pb) ∙ same b2 in
          let pk : d.clerk ≡ k2 = same_some (sym (ap (λ y. elim y as (λ z. Option Clerk) [ true ↦ Some d.clerk | false ↦ g.clerks c2 b2 ]) both) ∙ q2) in
          subst (λ z. P z b2 k2) (sym pc) (subst (λ z. P c z k2) (sym pb) (subst (λ z. P c b z) pk own))

  -- the entry isn't one of another clerk
  strange : (c2 b2 : ℕ) → (c2 == c) ≡ false → list_any (λ z. is_entry_of c2 b2 z.1) (e ∷ []) ≡ false
  strange c2 b2 f = ap (λ y. (y && (b2 == sb)) || false) f

  owes-now : (c2 b2 : ℕ) (k2 : Clerk) → g.running c2 ≡ Some b2 → with_start c b d.clerk g.clerks c2 b2 ≡ Some k2 → IsUncut g c2 k2 → owed B (H ++ e ∷ []) c2 (shown_boot g c2 b2) ≡ k2.owed
  owes-now = by-start (λ c2 b2 k2. IsUncut g c2 k2 → owed B (H ++ e ∷ []) c2 (shown_boot g c2 b2) ≡ k2.owed) (λ n. given.1)
      (λ c2 b2 k2 f r2 q2 n. owed-others B H (e ∷ []) c2 (shown_boot g c2 b2) (strange c2 (shown_boot g c2 b2) f) ∙ sym (owed_from-same g.origin fo fn c2 (shown_boot g c2 b2) [] [] H same-fresh) ∙ ev.owes c2 b2 k2 r2 q2 n)

  counts-now : (c2 b2 : ℕ) (k2 : Clerk) → g.running c2 ≡ Some b2 → with_start c b d.clerk g.clerks c2 b2 ≡ Some k2 → length (filter (is_op_of c2 (shown_boot g c2 b2)) (H ++ e ∷ [])) + 1 ≡ k2.log.next
  counts-now = by-start (λ c2 b2 k2. length (filter (is_op_of c2 (shown_boot g c2 b2)) (H ++ e ∷ [])) + 1 ≡ k2.log.next)
      (ap (λ n. n + 1) (count-next c sb H e ∙ ap (λ y. cond (y && is_some op) (length (filter (is_op_of c sb) H) + 1) (length (filter (is_op_of c sb) H))) (ap (λ y. y && (sb == sb)) (same c) ∙ same sb))
      ∙ own (is_some op) (length (filter (is_op_of c sb) H)) (ev.counts c b k r q) ∙ sym t.next)
      (λ c2 b2 k2 f r2 q2. ap (λ n. n + 1) (count-next c2 (shown_boot g c2 b2) H e
      ∙ ap (λ y. cond ((y && (shown_boot g c2 b2 == sb)) && is_some op) (length (filter (is_op_of c2 (shown_boot g c2 b2)) H) + 1) (length (filter (is_op_of c2 (shown_boot g c2 b2)) H))) f)
      ∙ ev.counts c2 b2 k2 r2 q2)
    where
      own : (y : Bool) (n : ℕ) → n + 1 ≡ k.log.next → cond y (n + 1) n + 1 ≡ cond y (k.log.next + 1) k.log.next
      own true n m = ap (λ z. z + 1) m
      own false n m = m

  watched : (c2 : ℕ) → watch c2 (g.ghost.shown ++ line ∷ []) ≡ cond (c2 == c) (answered (begun (watch c2 g.ghost.shown)) (shows cl a) op) (watch c2 g.ghost.shown)
  watched c2 = watch-step c2 g.ghost.shown line

  starts-now : (c2 b2 : ℕ) → g.running c2 ≡ Some b2 → (begun (watch c2 (g.ghost.shown ++ line ∷ []))).starts ≡ shown_boot g c2 b2
  starts-now c2 b2 r2 = ap (λ w. (begun w).starts) (watched c2) ∙ go (c2 == c) ∙ ev.starts c2 b2 r2
    where
      go : (z : Bool) → (begun (cond z (answered (begun (watch c2 g.ghost.shown)) (shows cl a) op) (watch c2 g.ghost.shown))).starts ≡ (begun (watch c2 g.ghost.shown)).starts
      go true = begun-answered (watch c2 g.ghost.shown) (shows cl a) op
      go false = refl

  untold-now : (c2 b2 : ℕ) (k2 : Clerk) → g.running c2 ≡ Some b2 → with_start c b d.clerk g.clerks c2 b2 ≡ Some k2 → IsUncut g c2 k2 → (watch c2 (g.ghost.shown ++ line ∷ [])).untold ≡ None
  untold-now = by-start (λ c2 b2 k2. IsUncut g c2 k2 → (watch c2 (g.ghost.shown ++ line ∷ [])).untold ≡ None)
      (λ n. ap (λ w. w.untold) (watched c ∙ ap (λ y. cond y (answered (begun (watch c g.ghost.shown)) (shows cl a) op) (watch c g.ghost.shown)) (same c)) ∙ answered-untold (begun (watch c g.ghost.shown)) op (shows cl a) (begun-untold (watch c g.ghost.shown) ∙ still))
      (λ c2 b2 k2 f r2 q2 n. ap (λ w. w.untold) (watched c2 ∙ ap (λ y. cond y (answered (begun (watch c2 g.ghost.shown)) (shows cl a) op) (watch c2 g.ghost.shown)) f) ∙ ev.untold c2 b2 k2 r2 q2 n)

  -- E3
  abbrev IsCoveredBy : Base → History → ℕ × Entry → Type 0
  IsCoveredBy base h z = (o : Op) → Covers base h z o.clerk (shown_boot g o.clerk o.boot) o.number → T (g.ghost.is_durable o)

  covered-now : Throughout (IsCoveredBy B) [] (H ++ e ∷ [])
  covered-now = throughout-append (IsCoveredBy B) [] H (e ∷ [])
      (throughout-map (λ z. fo z.0 ≡ fn z.0) (IsCoveredBy (base_of g)) (IsCoveredBy B) (λ past z y w v o n. v o (covers-same g.origin fn fo past z o.clerk (shown_boot g o.clerk o.boot) o.number (alike-back fo fn past y) n)) [] H tt same-fresh ev.covered)
      (t.settled, tt)

  -- E6
  abbrev LeftAlone : Base → ℕ × Age → List ℕ → History → ℕ × Entry → Type 0
  LeftAlone base o ns h z = T (leaves base (kept base h) o.0 (filter (is_one_of o.0 (shown_boot g o.0 (o.1).boot) ns) (kept base h)) z)

  abbrev pending : ℕ → Op → Bool
  pending u y = is_of (g.ghost.owner u) y && not (g.ghost.is_durable y)

  abbrev IsNew : Op → Type 0
  IsNew y = (y.clerk ≡ c) × (y.boot ≡ b) × (y.number ≡ k.log.next)

  new-ops : Each IsNew os
  new-ops = go (verdict cl k)
    where
      by : (u : Option Update) → Each IsNew (elim u as (λ z. List Op) [ None ↦ [] | Some w ↦ record { clerk = c; boot = b; number = k.log.next; place = p; update = w } ∷ [] ])
      by None = tt
      by (Some w) = ((refl, refl, refl), tt)

      go : (v : Verdict) → Each IsNew (op_given c b p k v)
      go (Need y h) = tt
      go (Lost ns xs) = tt
      go (NeedIds xs) = tt
      go (Done o) = by o.update

  undurable-now : (u : ℕ) → numbers (filter (pending u) (g.ghost.kept ++ os)) ≡ numbers (undurable g.ghost u) ++ numbers (filter (pending u) os)
  undurable-now u = ap numbers (filter-append (pending u) g.ghost.kept os) ∙ map-append (λ j. j.number) (filter (pending u) g.ghost.kept) (filter (pending u) os)

  abbrev count_in : ℕ → ℕ → ℕ
  count_in f v = length (filter (is_op_of f (shown_boot g f v)) H)

  new-numbers : (u : ℕ) (o : ℕ × Age) → g.ghost.owner u ≡ Some o → Each (λ m. count_in o.0 (o.1).boot < m) (numbers (filter (pending u) os))
  new-numbers u o w = go os new-ops
    where
      less : (n m j y : ℕ) → n ≡ m → m + 1 ≡ j → y ≡ j → n < y
      less n m j y f h i = omega (arith, f, h, i)

      above : (y : Op) → IsNew y → pending u y ≡ true → count_in o.0 (o.1).boot < y.number
      above y n m =
          let own : is_of (Some o) y ≡ true = ap (λ z. is_of z y) (sym w) ∙ (and_parts (is_of (g.ghost.owner u) y) (not (g.ghost.is_durable y)) m).0 in
          let two = and_parts (o.0 == y.clerk) ((o.1).boot == y.boot) own in
          less (count_in o.0 (o.1).boot) (count_in c b) k.log.next y.number
          (ap (λ f. count_in f (o.1).boot) (equal o.0 y.clerk two.0 ∙ n.0) ∙ ap (count_in c) (equal (o.1).boot y.boot two.1 ∙ n.1)) (ev.counts c b k r q) n.2

      by : (y : Op) (ys : List Op) (z : Bool) → pending u y ≡ z → IsNew y → Each (λ m. count_in o.0 (o.1).boot < m) (numbers (filter (pending u) ys))
          → Each (λ m. count_in o.0 (o.1).boot < m) (numbers (cond z (y ∷ filter (pending u) ys) (filter (pending u) ys)))
      by y ys false m n v = v
      by y ys true m n v = (above y n m, v)

      go : (ys : List Op) → Each IsNew ys → Each (λ m. count_in o.0 (o.1).boot < m) (numbers (filter (pending u) ys))
      go [] n = tt
      go (y ∷ ys) n = by y ys (pending u y) refl n.0 (go ys n.1)

  abbrev now : ℕ → List ℕ
  now u = numbers (undurable g.ghost u)

  abbrev more : ℕ → List ℕ
  more u = numbers (filter (pending u) os)

  untouched-now : (u : ℕ) (o : ℕ × Age) → g.ghost.owner u ≡ Some o → T (is_open g u) → Throughout (LeftAlone B o (numbers (filter (pending u) (g.ghost.kept ++ os)))) [] (H ++ e ∷ [])
  untouched-now u o w i = subst (λ ns. Throughout (LeftAlone B o ns) [] (H ++ e ∷ [])) (sym (undurable-now u)) (throughout-append (LeftAlone B o ((now u) ++ (more u))) [] H (e ∷ []) old (last (o.0 == c) refl, tt))
    where
      lost-same : (past rest : History) → H ≡ past ++ rest
          → filter (is_one_of o.0 (shown_boot g o.0 (o.1).boot) ((now u) ++ (more u))) (kept B past) ≡ filter (is_one_of o.0 (shown_boot g o.0 (o.1).boot) (now u)) (kept B past)
      lost-same = still-lost B g.durable.max_objects H old-legal o.0 (shown_boot g o.0 (o.1).boot) (now u) (more u) (new-numbers u o w)

      rebased : Throughout (LeftAlone B o (now u)) [] H
      rebased = throughout-map (λ z. fo z.0 ≡ fn z.0) (LeftAlone (base_of g) o (now u)) (LeftAlone B o (now u))
          (λ past z y n v. subst T (leaves-same g.origin fo fn past o.0 (is_one_of o.0 (shown_boot g o.0 (o.1).boot) (now u)) z y n) v) [] H tt same-fresh (ev.untouched u o w i)

      old : Throughout (LeftAlone B o ((now u) ++ (more u))) [] H
      old = throughout-in H (LeftAlone B o (now u)) (LeftAlone B o ((now u) ++ (more u))) (λ past rest z n v. subst (λ ks. T (leaves B (kept B past) o.0 ks z)) (sym (lost-same past rest n)) v) [] H refl rebased

      last : (z : Bool) → (o.0 == c) ≡ z → LeftAlone B o ((now u) ++ (more u)) H e
      last true f = subst (λ z. T (not (not z) || list_all (λ y. not (list_any (λ j. member j (touched B (kept B H) e)) (operands y.update))) (filter (is_one_of o.0 (shown_boot g o.0 (o.1).boot) ((now u) ++ (more u))) (kept B H)))) (sym f) tt
      last false f = subst (λ ks. T (leaves B (kept B H) o.0 ks e)) (sym (lost-same H [] (sym (append-nil H)))) (t.leaves_others u o w i f)

  -- E4, E5 of the others
  abbrev is_loss : Entry → Bool
  is_loss (entry.Call f m n h y z i) = false
  is_loss (entry.Loss f m ns) = true

  abbrev ForLosses : ℕ → List Op → ℕ × Entry → Type 0
  ForLosses u ks z = (m f h : ℕ) (ms : List ℕ) → z ≡ (m, entry.Loss f h ms) → Each (Frees g u) (filter (is_one_of f h ms) ks)

  abbrev MayFree : ℕ → List Op → Op → Type 0
  MayFree u ks o = T (list_any (λ j. same_op j o) ks) → Frees g u o

  cuts-now : (c2 b2 : ℕ) (k2 : Clerk) → g.running c2 ≡ Some b2 → with_start c b d.clerk g.clerks c2 b2 ≡ Some k2 → (u : ℕ) (ks : List Op) → g.ghost.owner u ≡ Some (c2, k2.age) → g.ghost.frozen u ≡ Some ks → CutAgrees after c2 b2 u k2 ks
  cuts-now = by-start (λ c2 b2 k2. (u : ℕ) (ks : List Op) → g.ghost.owner u ≡ Some (c2, k2.age) → g.ghost.frozen u ≡ Some ks → CutAgrees after c2 b2 u k2 ks)
      (λ u ks n f. absurd (none_some (sym (uncut.uncut u (n ∙ ap (λ a. Some (c, a)) t.age)) ∙ f))) others
    where
      no-loss : (m f h : ℕ) (ms : List ℕ) → e ≡ (m, entry.Loss f h ms) → ⊥
      no-loss m f h ms n = true≢false (sym (ap (λ z. is_loss z.1) n))

      others : (c2 b2 : ℕ) (k2 : Clerk) → (c2 == c) ≡ false → g.running c2 ≡ Some b2 → g.clerks c2 b2 ≡ Some k2 → (u : ℕ) (ks : List Op) → g.ghost.owner u ≡ Some (c2, k2.age) → g.ghost.frozen u ≡ Some ks → CutAgrees after c2 b2 u k2 ks
      others c2 b2 k2 n r2 q2 u ks m f = record {
        before = z.before;
        at = z.at;
        lost = z.lost;
        behind = z.behind ++ e ∷ [];
        was = grows ∙ ap (λ h. h ++ e ∷ []) z.was ∙ append_assoc z.before ((z.at, entry.Loss c2 (shown_boot g c2 b2) z.lost) ∷ z.behind) (e ∷ []);
        keeps = sym front-kept ∙ z.keeps;
        alone = list_any-append (λ y. is_entry_of c2 (shown_boot g c2 b2) y.1) z.behind (e ∷ []) ∙ ap (λ y. y || list_any (λ j. is_entry_of c2 (shown_boot g c2 b2) j.1) (e ∷ [])) z.alone ∙ strange c2 (shown_boot g c2 b2) n;
        untold = ap (λ w. w.untold) (watched c2 ∙ ap (λ y. cond y (answered (begun (watch c2 g.ghost.shown)) (shows cl a) op) (watch c2 g.ghost.shown)) n) ∙ z.untold;
        owes = sym (owed_from-same g.origin fo fn c2 (shown_boot g c2 b2) [] [] z.before front) ∙ z.owes;
        frozen = λ y i. subst (Each (MayFree u ks)) (sym (filter-append (pending y) g.ghost.kept os)) (each-append (MayFree u ks) (undurable g.ghost y) (filter (pending y) os) (z.frozen y i)
            (each-filter (MayFree u ks) (pending y) os (each-map (λ o. T (list_any (λ j. same_op j o) ks) → ⊥) (MayFree u ks) os (λ o h v. absurd (h v)) (t.unseen u ks f))));
        later = each-append (ForLosses u (kept B z.before)) z.behind (e ∷ []) (subst (λ y. Each (ForLosses u y) z.behind) front-kept z.later) ((λ j h i ms w. absurd (no-loss j h i ms w)), tt);
      }
        where
          z : CutAgrees g c2 b2 u k2 ks
          z = ev.cuts c2 b2 u k2 ks r2 q2 m f

          front : Alike fo fn z.before
          front = each-front (λ y. fo y.0 ≡ fn y.0) z.before ((z.at, entry.Loss c2 (shown_boot g c2 b2) z.lost) ∷ z.behind) (subst (Alike fo fn) z.was same-fresh)

          front-kept : kept (base_of g) z.before ≡ kept B z.before
          front-kept = kept-same g.origin fo fn z.before front

  -- All of E behind the answer.
  pub answer-keeps : EventsAgree after
  answer-keeps = record {
    placeable = placeable-step g.ghost.shown line ev.placeable t.line;
    placed = refl;
    starts = starts-now;
    untold = untold-now;
    keeps = ap (kept B) grows ∙ keeps-now;
    legal = subst (IsLegal B g.durable.max_objects) (sym grows) legal-now;
    owes = λ c2 b2 k2 r2 q2 n. ap (λ h. owed B h c2 (shown_boot g c2 b2)) grows ∙ owes-now c2 b2 k2 r2 q2 n;
    counts = λ c2 b2 k2 r2 q2. ap (λ h. length (filter (is_op_of c2 (shown_boot g c2 b2)) h) + 1) grows ∙ counts-now c2 b2 k2 r2 q2;
    covered = subst (Throughout (IsCoveredBy B) []) (sym grows) covered-now;
    untouched = λ u o w i. subst (Throughout (LeftAlone B o (numbers (filter (pending u) (g.ghost.kept ++ os)))) []) (sym grows) (untouched-now u o w i);
    cuts = λ c2 b2 u k2 ks r2 q2 n f. cuts-now c2 b2 k2 r2 q2 u ks n f;
  }
