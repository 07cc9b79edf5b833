-- The entries that lines give are of starts that the lines counted.
use Rattle.std.proofs.Common.{◌≡◌, refl, sym, ap, subst, ◌∙◌, arith, ◌<◌, ◌≤◌, ◌+◌, ℕ, Bool, true, false, not, ◌==◌, ◌&&◌, ◌||◌, cond, List, [], ◌∷◌, ◌++◌, length, Option, Some, None, append-nil}
use Rattle.std.specs.Prelude.{is_none, is_some}
use Rattle.std.specs.List.{filter, list_any}
use Rattle.ec_volume.specs.Image.{is_id}
use Rattle.ec_volume.specs.Update.{listed, member}
use Rattle.ec_plain.specs.declared.call.Call.{Call}
use Rattle.ec_history.specs.History.{Each, History, is_entry_of, same_start}
use Rattle.ec_history.specs.Legal.{is_op_of}
use Rattle.ec_history.specs.Placing.{answered, begun, call_entry, is_running, owner, place, shows, watch, watch_next}
use Rattle.ec_history.specs.declared.entry.Answer.{Answer}
use Rattle.ec_history.specs.declared.entry.Entry.{Entry}
use Rattle.ec_history.specs.declared.entry.Entry.TheVariants as entry
use Rattle.ec_history.specs.declared.shown.Shown.{Shown}
use Rattle.ec_history.specs.declared.shown.Shown.TheVariants.{Answered, Crashed, Durable, Ended, Told, Waits}
use Rattle.ec_history.specs.declared.watch.Watch.{Watch}
use Rattle.ec_history.proofs.OfLaws.ForPlacing.Held.{place-late}
use Rattle.ec_history.proofs.OfLaws.ForPlacing.Late.{place-answer, place-ended, place-no_call}
use Rattle.ec_history.proofs.OfLaws.ForPlacing.More.{watch-step}
use Rattle.ec_history.proofs.OfLaws.ForPlacing.Watching.{before_session, from_front, in_session, open-counted, other_end, own_end}
use Rattle.ec_coherence.proofs.ForServer.Lists.{each-back, each-front, each-more, each-turn}
use Rattle.ec_base.specs.Options.{or_zero}
use Rattle.ec_history.proofs.PlacingLemmas.{showing}

-- the entry is of no start of this clerk with a greater number
abbrev pub IsCounted : ℕ → ℕ → ℕ × Entry → Type 0
IsCounted c n e = (b : ℕ) → n < b → is_entry_of c b e.1 ≡ false

abbrev pub AreCounted : ℕ → ℕ → History → Type 0
AreCounted c n h = Each (IsCounted c n) h

more-counted : (c n m : ℕ) (h : History) → n ≤ m → AreCounted c n h → AreCounted c m h
more-counted c n m h l = each-turn (IsCounted c n) (IsCounted c m) h (λ e f b k. f b (omega (arith, l, k)))

-- what a line counts doesn't fall
begun-more : (w : Watch) → w.starts ≤ (begun w).starts
begun-more w = go w.running
  where
    go : (z : Bool) → w.starts ≤ (cond z w (record w { starts = w.starts + 1; running = true })).starts
    go true = omega arith
    go false = omega arith

pub answered-starts : (w : Watch) (sh : Bool) (op : Option ℕ) → (answered w sh op).starts ≡ w.starts
answered-starts w sh op = go w.untold sh (is_id w.starts w.open_start)
  where
    go : (u : Option (List ℕ)) (y z : Bool) → (elim u as (λ o. Watch) [ Some ns ↦ record w { untold = Some (ns ++ listed op) } | None ↦ cond y (showing w op) (cond z (in_session w op) (before_session w op)) ]).starts ≡ w.starts
    go (Some ns) y z = refl
    go None true z = refl
    go None false true = refl
    go None false false = refl

pub ended-starts : (w : Watch) (ns : List ℕ) → (cond (is_running w (owner w)) (own_end w ns) (other_end w)).starts ≡ w.starts
ended-starts w ns = go (is_running w (owner w))
  where
    go : (z : Bool) → (cond z (own_end w ns) (other_end w)).starts ≡ w.starts
    go true = refl
    go false = refl

starts-more : (c : ℕ) (w : Watch) (s : Shown) → w.starts ≤ (watch_next c w s).starts
starts-more c w (Waits l d cl) = go (c == d)
  where
    go : (z : Bool) → w.starts ≤ (cond z (begun w) w).starts
    go true = begun-more w
    go false = omega arith
starts-more c w (Answered l d cl a op) = go (c == d)
  where
    go : (z : Bool) → w.starts ≤ (cond z (answered (begun w) (shows cl a) op) w).starts
    go true = subst (λ n. w.starts ≤ n) (sym (answered-starts (begun w) (shows cl a) op)) (begun-more w)
    go false = omega arith
starts-more c w (Ended d ns) = go (c == d)
  where
    go : (z : Bool) → w.starts ≤ (cond z (cond (is_running w (owner w)) (own_end w ns) (other_end w)) w).starts
    go true = subst (λ n. w.starts ≤ n) (sym (ended-starts w ns)) (omega arith)
    go false = omega arith
starts-more c w (Durable d ns) = go (c == d)
  where
    go : (z : Bool) → w.starts ≤ (cond z (record w { undurable = filter (λ n. not (member n ns)) w.undurable }) w).starts
    go true = omega arith
    go false = omega arith
starts-more c w (Told d ns) = go (c == d)
  where
    go : (z : Bool) → w.starts ≤ (cond z (record w { untold = None }) w).starts
    go true = omega arith
    go false = omega arith
starts-more c w (Crashed d) = go (c == d)
  where
    go : (z : Bool) → w.starts ≤ (cond z (record w { running = false; early = []; untold = None; crashed = true }) w).starts
    go true = omega arith
    go false = omega arith
starts-more c w s = omega arith

-- an entry of a start that isn't above
of-start : (c d n b : ℕ) → ((c == d) ≡ true → b ≤ n) → (x : ℕ) → n < x → same_start c x d b ≡ false
of-start c d n b f x l = go (c == d) refl
  where
    apart : (m k : ℕ) → m < k → (k == m) ≡ false
    apart m k l = grind arith

    go : (z : Bool) → (c == d) ≡ z → (z && (x == b)) ≡ false
    go false e = refl
    go true e = apart b x (omega (arith, f e, l))

owner-counted : (c : ℕ) (ss : List Shown) → or_zero (owner (watch c ss)) ≤ (watch c ss).starts
owner-counted c ss = go (watch c ss).open_start ((watch c ss).running && is_none (watch c ss).untold) (λ b. open-counted c b ss)
  where
    go : (o : Option ℕ) (z : Bool) → ((b : ℕ) → o ≡ Some b → (1 ≤ b) × (b ≤ (watch c ss).starts)) → or_zero (elim o as (λ y. Option ℕ) [ Some b ↦ Some b | None ↦ cond z (Some (watch c ss).starts) None ]) ≤ (watch c ss).starts
    go (Some b) z f = (f b refl).1
    go None true f = omega arith
    go None false f = omega arith

module _ (c : ℕ) where
  abbrev Counts : List Shown → Type 0
  Counts ss = AreCounted c (watch c ss).starts (place ss)

  -- what was counted is, behind one more line
  still : (ss : List Shown) (s : Shown) → Counts ss → AreCounted c (watch c (ss ++ s ∷ [])).starts (place ss)
  still ss s h = more-counted c (watch c ss).starts (watch c (ss ++ s ∷ [])).starts (place ss) (subst (λ w. (watch c ss).starts ≤ w.starts) (sym (watch-step c ss s)) (starts-more c (watch c ss) s)) h

  answer-start : (ss : List Shown) (l d : ℕ) (cl : Call) (a : Answer) (op : Option ℕ) → (c == d) ≡ true → (begun (watch d ss)).starts ≤ (watch c (ss ++ Answered l d cl a op ∷ [])).starts
  answer-start ss l d cl a op e =
      subst (λ w. (begun (watch d ss)).starts ≤ w.starts) (sym (watch-step c ss (Answered l d cl a op) ∙ ap (λ z. cond z (answered (begun (watch c ss)) (shows cl a) op) (watch c ss)) e))
      (subst (λ n. (begun (watch d ss)).starts ≤ n) (sym (answered-starts (begun (watch c ss)) (shows cl a) op)) (subst (λ x. (begun (watch x ss)).starts ≤ (begun (watch c ss)).starts) (same c d e) (omega arith)))
    where
      same : (m k : ℕ) → (m == k) ≡ true → m ≡ k
      same m k e = grind arith

  its-entry : (ss : List Shown) (l d : ℕ) (cl : Call) (a : Answer) (op : Option ℕ) → AreCounted c (watch c (ss ++ Answered l d cl a op ∷ [])).starts (call_entry ss (Answered l d cl a op))
  its-entry ss l d cl a op = (λ x k. of-start c d (watch c (ss ++ Answered l d cl a op ∷ [])).starts (begun (watch d ss)).starts (answer-start ss l d cl a op) x k, tt)

  next : (ss : List Shown) (s : Shown) → Counts ss → Counts (ss ++ s ∷ [])
  next ss (Answered l d cl a op) h = go (watch d ss).untold refl
    where
      go : (u : Option (List ℕ)) → (watch d ss).untold ≡ u → Counts (ss ++ Answered l d cl a op ∷ [])
      go None e = subst (AreCounted c (watch c (ss ++ Answered l d cl a op ∷ [])).starts) (sym (place-answer ss l d cl a op e))
          (each-more (IsCounted c (watch c (ss ++ Answered l d cl a op ∷ [])).starts) (place ss) (call_entry ss (Answered l d cl a op)) (still ss (Answered l d cl a op) h) (its-entry ss l d cl a op))
      go (Some ns) e =
          let p = place-late ss d ns e in
          let all = subst (AreCounted c (watch c (ss ++ Answered l d cl a op ∷ [])).starts) p.3 (still ss (Answered l d cl a op) h) in
          let rest = each-back (IsCounted c (watch c (ss ++ Answered l d cl a op ∷ [])).starts) p.0 ((p.1, entry.Loss d (watch d ss).starts ns) ∷ p.2) all in
          subst (AreCounted c (watch c (ss ++ Answered l d cl a op ∷ [])).starts) (sym (p.5 l cl a op))
          (each-more (IsCounted c (watch c (ss ++ Answered l d cl a op ∷ [])).starts) (p.0 ++ call_entry ss (Answered l d cl a op)) ((p.1, entry.Loss d (watch d ss).starts (ns ++ listed op)) ∷ p.2)
          (each-more (IsCounted c (watch c (ss ++ Answered l d cl a op ∷ [])).starts) p.0 (call_entry ss (Answered l d cl a op)) (each-front (IsCounted c (watch c (ss ++ Answered l d cl a op ∷ [])).starts) p.0 ((p.1, entry.Loss d (watch d ss).starts ns) ∷ p.2) all) (its-entry ss l d cl a op)) (rest.0, rest.1))
  next ss (Ended d ns) h = subst (AreCounted c (watch c (ss ++ Ended d ns ∷ [])).starts) (sym (place-ended ss d ns))
      (each-more (IsCounted c (watch c (ss ++ Ended d ns ∷ [])).starts) (place ss) ((length ss + 1, entry.Loss d (or_zero (owner (watch d ss))) ns) ∷ []) (still ss (Ended d ns) h) (its, tt))
    where
      same : (m k : ℕ) → (m == k) ≡ true → m ≡ k
      same m k e = grind arith

      its : IsCounted c (watch c (ss ++ Ended d ns ∷ [])).starts (length ss + 1, entry.Loss d (or_zero (owner (watch d ss))) ns)
      its x k = of-start c d (watch c (ss ++ Ended d ns ∷ [])).starts (or_zero (owner (watch d ss))) (λ e. subst (λ w. or_zero (owner (watch d ss)) ≤ w.starts) (sym (watch-step c ss (Ended d ns)))
          (subst (λ y. or_zero (owner (watch y ss)) ≤ (watch_next c (watch c ss) (Ended d ns)).starts) (same c d e) (omega (arith, owner-counted c ss, starts-more c (watch c ss) (Ended d ns))))) x k
  next ss s h = subst (AreCounted c (watch c (ss ++ s ∷ [])).starts) (sym (place-no_call ss s (λ d. refl) ∙ append-nil (place ss))) (still ss s h)

  pub counted : (ss : List Shown) → AreCounted c (watch c ss).starts (place ss)
  counted = from_front Counts tt next

-- So a start that wasn't counted has no entry: it owes nothing, and issued nothing.
module _ (c n b : ℕ) (above : n < b) where
  pub no-entry : (h : History) → AreCounted c n h → list_any (λ e. is_entry_of c b e.1) h ≡ false
  no-entry [] f = refl
  no-entry (e ∷ h) f = ap (λ z. z || list_any (λ e. is_entry_of c b e.1) h) (f.0 b above) ∙ no-entry h f.1

  pub no-op : (h : History) → AreCounted c n h → filter (is_op_of c b) h ≡ []
  no-op [] f = refl
  no-op (e ∷ h) f = ap (λ z. cond z (e ∷ filter (is_op_of c b) h) (filter (is_op_of c b) h)) (one e (f.0 b above)) ∙ no-op h f.1
    where
      one : (e : ℕ × Entry) → is_entry_of c b e.1 ≡ false → is_op_of c b e ≡ false
      one (p, entry.Call d x l begun cl a op) q = ap (λ z. z && is_some op) q
      one (p, entry.Loss d x ns) q = refl
