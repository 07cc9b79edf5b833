-- The facts on histories behind an answer of a clerk that is cut off: its entry stands before the clerk's loss, which names its operation too.
use Rattle.std.proofs.Common.{◌≡◌, refl, sym, ap, subst, ◌∙◌, inl, inr, arith, ◌<◌, ◌+◌, ℕ, T, Bool, true, false, not, ◌==◌, ◌&&◌, ◌||◌, cond, map, List, [], ◌∷◌, ◌++◌, length, Option, Some, None, add-one, append_assoc, append-nil, length-append}
use Rattle.std.specs.Prelude.{if◌then◌else◌, is_some}
use Rattle.std.specs.List.{filter, list_any}
use Rattle.std.proofs.lemmas.Bool.{and_parts, or_parts, true≢false}
use Rattle.std.proofs.lemmas.List.{map-append}
use Rattle.std.proofs.lemmas.List.Elements.{filter-append}
use Rattle.std.proofs.lemmas.List.Folds.{list_any-append}
use Rattle.ec_base.specs.Tables.{put}
use Rattle.ec_base.specs.declared.ids.Age.{Age}
use Rattle.ec_volume.specs.Update.{listed, member}
use Rattle.ec_plain.specs.declared.call.Call.{Call}
use Rattle.ec_order.specs.Order.{InClosure, Issued}
use Rattle.ec_history.specs.History.{Base, Covers, Each, History, Op, Throughout, is_entry_of, is_one_of, issued_by, kept, numbers, of_start, owed, same_start}
use Rattle.ec_history.specs.Legal.{IsLegal, is_op_of, leaves}
use Rattle.ec_history.specs.Placing.{MayFollow, answered, before_line, begun, call_entry, last_place, place, shows, unwatched, watch}
use Rattle.ec_history.specs.declared.entry.Answer.{Answer}
use Rattle.ec_history.specs.declared.entry.Entry.{Entry}
use Rattle.ec_history.specs.declared.entry.Entry.TheVariants as entry
use Rattle.ec_history.specs.declared.shown.Shown.{Shown}
use Rattle.ec_history.specs.declared.shown.Shown.TheVariants.{Answered}
use Rattle.ec_history.specs.declared.watch.Watch.{Watch}
use Rattle.ec_wire.specs.declared.msg.Msg.{Msg}
use Rattle.ec_history.proofs.OfLaws.ForPlacing.Beside.{IsBeside, covers-same}
use Rattle.ec_history.proofs.OfLaws.ForPlacing.Cuts.{legal-split, placeable-step}
use Rattle.ec_history.proofs.OfLaws.ForPlacing.Held.{place-late}
use Rattle.ec_history.proofs.OfLaws.ForPlacing.More.{kept-step, watch-step}
use Rattle.ec_history.proofs.OfLaws.ForPlacing.Numbers.{each-append as each-join, each-back, each-filter, each-front}
use Rattle.ec_history.proofs.OfLaws.ForPlacing.Watching.{untold-runs}
use Rattle.ec_protocol.specs.declared.clerk.Clerk.{Clerk}
use Rattle.ec_coherence.specs.System.{System, at_session, base_of, is_of, is_open, undurable, with_start}
use Rattle.ec_coherence.specs.Events.{CutAgrees, EventsAgree, Frees, IsUncut, same_op, shown_boot, shown_op}
use Rattle.ec_coherence.specs.ChangeLaws.{Calls}
use Rattle.ec_coherence.proofs.ForServer.Tables.{same_some}
use Rattle.ec_coherence.specs.Answers.{IsAnswered, based, fresh_of}
use Rattle.ec_coherence.specs.Comes.{begun_at, entry_next}
use Rattle.ec_coherence.proofs.ForCommits.Answering.{alike, kept-now, new_fresh, old_fresh}
use Rattle.ec_coherence.proofs.ForCommits.Appended.{begun-answered, still-lost}
use Rattle.ec_coherence.proofs.ForCommits.Rebased.{Alike, alike-back, covers-same as covers-based, kept-same, leaves-same, legal-same, owed_from-same, throughout-map}
use Rattle.ec_lawful.proofs.OfClerkSteps.Earlier as earlier
use Rattle.ec_lawful.proofs.OfClerkSteps.Split.{apart-splits, last-same}
use Rattle.ec_base.proofs.Numbers.{same-self as same, equal}
use Rattle.ec_base.proofs.Options.{none_some}

-- Small things.

begun-untold : (w : Watch) → (begun w).untold ≡ w.untold
begun-untold w = go w.running
  where
    go : (b : Bool) → (cond b w (record w { starts = w.starts + 1; running = true })).untold ≡ w.untold
    go true = refl
    go false = refl

-- a loss asks nothing, and so covers nothing
nothing-closed : (is : Issued) (n : ℕ) → InClosure is (λ m. member m []) n → ⊥
nothing-closed is n (InClosure.ask m u h t) = t
nothing-closed is n (InClosure.need m j a b h i l t r) = nothing-closed is j r

loss-parts : (q r c d b f : ℕ) (ns ms : List ℕ) → ◌≡◌ {A = ℕ × Entry} (q, entry.Loss c b ns) (r, entry.Loss d f ms) → (c ≡ d) × (b ≡ f) × (ns ≡ ms)
loss-parts q r c d b f ns ms e = (
  ap (λ z. clerk_of z.1) e,
  ap (λ z. boot_of z.1) e,
  ap (λ z. names_of z.1) e,
)
  where
    clerk_of : Entry → ℕ
    clerk_of (entry.Loss d f ms) = d
    clerk_of (entry.Call d f l g cl a op) = 0

    boot_of : Entry → ℕ
    boot_of (entry.Loss d f ms) = f
    boot_of (entry.Call d f l g cl a op) = 0

    names_of : Entry → List ℕ
    names_of (entry.Loss d f ms) = ms
    names_of (entry.Call d f l g cl a op) = []

no-loss : (p r c b l g d f : ℕ) (cl : Call) (a : Answer) (op : Option ℕ) (ms : List ℕ) → ◌≡◌ {A = ℕ × Entry} (p, entry.Call c b l g cl a op) (r, entry.Loss d f ms) → ⊥
no-loss p r c b l g d f cl a op ms e = true≢false (ap (λ z. is_call z.1) e)
  where
    is_call : Entry → Bool
    is_call (entry.Loss d f ms) = false
    is_call (entry.Call d f l g cl a op) = true

-- each isn't, where none is
none-each : {A : Type 0} (p : A → Bool) (xs : List A) → list_any p xs ≡ false → Each (λ x. p x ≡ false) xs
none-each p [] n = tt
none-each p (x ∷ xs) n = let k = or_parts (p x) (list_any p xs) n in (k.0, none-each p xs k.1)

each-two : {A : Type 0} (P Q R : A → Type 0) (xs : List A) → ((x : A) → P x → Q x → R x) → Each P xs → Each Q xs → Each R xs
each-two P Q R [] f p q = tt
each-two P Q R (x ∷ xs) f p q = (f x p.0 q.0, each-two P Q R xs f p.1 q.1)

same-start : (c b d f : ℕ) → same_start c b d f ≡ true → (c ≡ d) × (b ≡ f)
same-start c b d f e = let p = and_parts (c == d) (b == f) e in (equal c d p.0, equal b f p.1)

own-start : (c b : ℕ) → same_start c b c b ≡ true
own-start c b = ap (λ z. z && (b == b)) (same c) ∙ same b

joined : (xs ys : History) (v : ℕ × Entry) → xs ++ (v ∷ []) ++ ys ≡ xs ++ v ∷ ys
joined xs ys v = append_assoc xs (v ∷ []) ys

-- What the answer is to keep.
pub record IsLate (g : System) (c b : ℕ) (k now : Clerk) (before : History) (at : ℕ) (lost : List ℕ) (behind : History) (os : List Op) (l : ℕ) (cl : Call) (a : Answer) (op : Option ℕ) : Type 0 where
  pub age : now.age ≡ k.age
  pub next : now.log.next ≡ (if is_some op then k.log.next + 1 else k.log.next)
  pub line : MayFollow g.ghost.shown (Answered l c cl a op)
  -- it may stand before the loss, and its operation is the clerk's next
  pub answered : IsAnswered (based g (fresh_of k)) g.durable.max_objects before c (shown_boot g c b) (length g.ghost.shown + 1) l (begun_at g c b l) cl a op now.owed
  pub issues : issued_by (based g (fresh_of k)) (kept (based g (fresh_of k)) before) (entry_next g c b l cl a op) ≡ map (shown_op g) os
  -- and the history with it is legal
  pub legal : IsLegal (based g (fresh_of k)) g.durable.max_objects (before ++ entry_next g c b l cl a op ∷ (at, entry.Loss c (shown_boot g c b) (lost ++ listed op)) ∷ behind)
  pub fresh : Each (λ o. (o.clerk ≡ c) × (o.boot ≡ b) × (o.number ≡ k.log.next)) os
  pub above : Each (λ n. length (filter (is_op_of c (shown_boot g c b)) g.ghost.history) < n) (listed op)
  -- what it covers is durable, and it leaves alone what open sessions may still lose
  pub settled : (o : Op) → Covers (based g (fresh_of k)) before (entry_next g c b l cl a op) o.clerk (shown_boot g o.clerk o.boot) o.number → T (g.ghost.is_durable o)
  pub leaves_open : (u : ℕ) (o : ℕ × Age) → g.ghost.owner u ≡ Some o → T (is_open g u)
      → T (leaves (based g (fresh_of k)) (kept (based g (fresh_of k)) before) o.0 (filter (is_one_of o.0 (shown_boot g o.0 (o.1).boot) (numbers (undurable g.ghost u))) (kept (based g (fresh_of k)) before)) (entry_next g c b l cl a op))

-- the clerk's loss, with these operations lost
abbrev pub loss_in : System → ℕ → ℕ → ℕ → List ℕ → ℕ × Entry
loss_in g c b at ns = (at, entry.Loss c (shown_boot g c b) ns)

module _ (g : System) (ev : EventsAgree g) (c b s : ℕ) (k now : Clerk) (ks os : List Op) (r : g.running c ≡ Some b) (q : g.clerks c b ≡ Some k) (own : g.ghost.owner s ≡ Some (c, k.age)) (fz : g.ghost.frozen s ≡ Some ks)
    (once : (u t : ℕ) (o : ℕ × Age) → g.ghost.owner u ≡ Some o → g.ghost.owner t ≡ Some o → u ≡ t) (below : Each (λ o. T (of_start c b o) → o.number < k.log.next) g.ghost.kept)
    (l : ℕ) (cl : Call) (a : Answer) (op : Option ℕ) (calls : Calls) (pool : List (ℕ × Msg)) where
  abbrev B : Base
  B = based g (fresh_of k)

  abbrev sb : ℕ
  sb = shown_boot g c b

  abbrev p : ℕ
  p = length g.ghost.shown + 1

  abbrev fo : ℕ → ℕ
  fo = old_fresh g (fresh_of k)

  abbrev fn : ℕ → ℕ
  fn = new_fresh g (fresh_of k)

  abbrev pub cut : CutAgrees g c b s k ks
  cut = ev.cuts c b s k ks r q own fz

  abbrev w : History
  w = cut.before

  abbrev y : History
  y = cut.behind

  abbrev line : Shown
  line = Answered l c cl a op

  abbrev e : ℕ × Entry
  e = entry_next g c b l cl a op

  abbrev old : ℕ × Entry
  old = loss_in g c b cut.at cut.lost

  abbrev new : ℕ × Entry
  new = loss_in g c b cut.at (cut.lost ++ listed op)

  abbrev pub h : System
  h = record g {
    clerks = with_start c b now g.clerks;
    calls = calls;
    pool = pool;
    ghost = record (g.ghost) {
      frozen = at_session s (Some (ks ++ os)) g.ghost.frozen;
      shown = g.ghost.shown ++ line ∷ [];
      history = place (g.ghost.shown ++ line ∷ []);
      fresh = put p (fresh_of k) g.ghost.fresh;
    };
  }

  abbrev H : History
  H = w ++ old ∷ y

  abbrev H2 : History
  H2 = w ++ e ∷ new ∷ y

  -- Its place.

  held : (watch c g.ghost.shown).starts ≡ sb
  held = ap (λ z. z.starts) (sym (untold-runs c g.ghost.shown cut.lost cut.untold).2) ∙ ev.starts c b r

  -- the clerk's last loss, wherever the lines place it
  abbrev Placed : ℕ → Type 0
  Placed st = (h : History) × (q : ℕ) × (h2 : History) × (place g.ghost.shown ≡ h ++ (q, entry.Loss c st cut.lost) ∷ h2) × (list_any (λ v. is_entry_of c st v.1) h2 ≡ false)
      × ((l : ℕ) (cl : Call) (a : Answer) (op : Option ℕ) → place (g.ghost.shown ++ Answered l c cl a op ∷ []) ≡ h ++ call_entry g.ghost.shown (Answered l c cl a op) ++ (q, entry.Loss c st (cut.lost ++ listed op)) ∷ h2)

  pub grows : place (g.ghost.shown ++ line ∷ []) ≡ H2
  grows = go (watch c g.ghost.shown).starts held (place-late g.ghost.shown c cut.lost cut.untold)
    where
      entry-is : call_entry g.ghost.shown line ≡ e ∷ []
      entry-is = ap (λ st. (p, entry.Call c st l (last_place c st unwatched 1 0 (before_line l g.ghost.shown)) cl a op) ∷ []) (ev.starts c b r)

      go : (st : ℕ) → st ≡ sb → Placed st → place (g.ghost.shown ++ line ∷ []) ≡ H2
      go st i (h0, q, h2, x, n, f) =
          let u = last-same (λ z. is_entry_of c sb z.1) h0 h2 w y (q, entry.Loss c st cut.lost) old (ap (λ z. same_start c sb c z) i ∙ own-start c sb) (own-start c sb)
          (subst (λ z. list_any (λ v. is_entry_of c z v.1) h2 ≡ false) i n) cut.alone (sym x ∙ ev.placed ∙ cut.was) in
          f l cl a op
          ∙ ap (λ z. h0 ++ z ++ (q, entry.Loss c st (cut.lost ++ listed op)) ∷ h2) entry-is
          ∙ ap (λ z. h0 ++ (e ∷ []) ++ (q, entry.Loss c z (cut.lost ++ listed op)) ∷ h2) i
          ∙ ap (λ z. z ++ (e ∷ []) ++ (q, entry.Loss c sb (cut.lost ++ listed op)) ∷ h2) u.0
          ∙ ap (λ z. w ++ (e ∷ []) ++ (z.0, entry.Loss c sb (cut.lost ++ listed op)) ∷ h2) u.1
          ∙ ap (λ z. w ++ (e ∷ []) ++ new ∷ z) u.2
          ∙ joined w (new ∷ y) e

  -- The longer base.

  whole : Alike fo fn H
  whole = subst (Alike fo fn) cut.was (alike g (fresh_of k) ev)

  front : Alike fo fn w
  front = each-front (λ z. fo z.0 ≡ fn z.0) w (old ∷ y) whole

  kept-front : kept (base_of g) w ≡ kept B w
  kept-front = kept-same g.origin fo fn w front

  kept-whole : kept B H ≡ map (shown_op g) g.ghost.kept
  kept-whole = ap (kept B) (sym cut.was) ∙ kept-now g (fresh_of k) ev

  old-legal : IsLegal B g.durable.max_objects H
  old-legal = legal-same g.origin fo fn g.durable.max_objects H whole (subst (IsLegal (base_of g) g.durable.max_objects) cut.was ev.legal)

  front-legal : IsLegal B g.durable.max_objects w
  front-legal = (legal-split B g.durable.max_objects w (old ∷ y) old-legal).0

  -- Other clerks' starts are others.

  strange : (d f : ℕ) → (d == c) ≡ false → same_start c sb d f ≡ false
  strange d f n = go (same_start c sb d f) refl
    where
      go : (z : Bool) → same_start c sb d f ≡ z → z ≡ false
      go false t = refl
      go true t = absurd (true≢false (sym (ap (λ v. v == c) (sym (same-start c sb d f t).0) ∙ same c) ∙ n))

  strange-too : (d f : ℕ) → (d == c) ≡ false → same_start d f c sb ≡ false
  strange-too d f n = ap (λ z. z && (f == sb)) n

  -- What it keeps.

  module _ (t : IsLate g c b k now w cut.at cut.lost y os l cl a op) where
    abbrev count : ℕ → ℕ → History → ℕ
    count d f z = length (filter (is_op_of d f) z)

    legal-call : Rattle.ec_history.specs.Legal.IsCall B g.durable.max_objects w c sb p cl a op
    legal-call = (t.answered).0

    beside : (z : History) → IsBeside B c sb (w ++ old ∷ z) (w ++ e ∷ new ∷ z)
    beside = earlier.beside-to B g.durable.max_objects c sb p l (begun_at g c b l) cl a op cut.at cut.lost w y front-legal legal-call

    keeps-now : kept B H2 ≡ map (shown_op g) g.ghost.kept
    keeps-now = (beside y).keeps ∙ kept-whole

    -- a fact of each running start: of this one, and of the others
    by-start : (P : ℕ → ℕ → Clerk → Type 0) → P c b now → ((d f : ℕ) (m : Clerk) → (d == c) ≡ false → g.running d ≡ Some f → g.clerks d f ≡ Some m → P d f m)
        → (d f : ℕ) (m : Clerk) → g.running d ≡ Some f → with_start c b now g.clerks d f ≡ Some m → P d f m
    by-start P its other d f m r2 q2 = go (d == c) refl
      where
        go : (z : Bool) → (d == c) ≡ z → P d f m
        go false n = other d f m n r2 (sym (ap (λ v. elim (v && (f == b)) as (λ z. Option Clerk) [ true ↦ Some now | false ↦ g.clerks d f ]) n) ∙ q2)
        go true n =
            let pc : d ≡ c = equal d c n in
            let pb : f ≡ b = same_some (sym r2 ∙ ap g.running pc ∙ r) in
            let both : ((d == c) && (f == b)) ≡ true = ap (λ v. v && (f == b)) n ∙ ap (λ v. f == v) (sym pb) ∙ same f in
            let pk : now ≡ m = same_some (sym (ap (λ v. elim v as (λ z. Option Clerk) [ true ↦ Some now | false ↦ g.clerks d f ]) both) ∙ q2) in
            subst (λ z. P z f m) (sym pc) (subst (λ z. P c z m) (sym pb) (subst (λ z. P c b z) pk its))

    -- its session is frozen with its operations, the others as they were
    frozen-own : h.ghost.frozen s ≡ Some (ks ++ os)
    frozen-own = ap (λ z. elim z as (λ v. Option (List Op)) [ true ↦ Some (ks ++ os) | false ↦ g.ghost.frozen s ]) (same s)

    frozen-other : (u : ℕ) → (u == s) ≡ false → h.ghost.frozen u ≡ g.ghost.frozen u
    frozen-other u n = ap (λ z. elim z as (λ v. Option (List Op)) [ true ↦ Some (ks ++ os) | false ↦ g.ghost.frozen u ]) n

    none-before : (u : ℕ) → h.ghost.frozen u ≡ None → g.ghost.frozen u ≡ None
    none-before u n = go (u == s) refl n
      where
        go : (z : Bool) → (u == s) ≡ z → elim z as (λ v. Option (List Op)) [ true ↦ Some (ks ++ os) | false ↦ g.ghost.frozen u ] ≡ None → g.ghost.frozen u ≡ None
        go true i n = absurd (none_some (sym n))
        go false i n = n

    its-cut : IsUncut h c now → ⊥
    its-cut n = none_some (sym (n s (own ∙ ap (λ z. Some (c, z)) (sym t.age))) ∙ frozen-own)

    was-uncut : (d : ℕ) (m : Clerk) → IsUncut h d m → IsUncut g d m
    was-uncut d m n u o = none-before u (n u o)

    -- of another clerk the session is another one
    other-session : (u d : ℕ) (m : Clerk) → (d == c) ≡ false → g.ghost.owner u ≡ Some (d, m.age) → (u == s) ≡ false
    other-session u d m n o = go (u == s) refl
      where
        go : (z : Bool) → (u == s) ≡ z → (u == s) ≡ false
        go false i = i
        go true i = absurd (true≢false (sym (ap (λ v. v == c) (ap (λ v. v.0) (same_some (sym o ∙ ap g.ghost.owner (equal u s i) ∙ own))) ∙ same c) ∙ n))

    watched : (d : ℕ) → watch d (g.ghost.shown ++ line ∷ []) ≡ cond (d == c) (answered (begun (watch d g.ghost.shown)) (shows cl a) op) (watch d g.ghost.shown)
    watched d = watch-step d g.ghost.shown line

    watched-other : (d : ℕ) → (d == c) ≡ false → watch d (g.ghost.shown ++ line ∷ []) ≡ watch d g.ghost.shown
    watched-other d n = watched d ∙ ap (λ z. cond z (answered (begun (watch d g.ghost.shown)) (shows cl a) op) (watch d g.ghost.shown)) n

    untold-own : (watch c (g.ghost.shown ++ line ∷ [])).untold ≡ Some (cut.lost ++ listed op)
    untold-own = ap (λ z. z.untold) (watched c ∙ ap (λ z. cond z (answered (begun (watch c g.ghost.shown)) (shows cl a) op) (watch c g.ghost.shown)) (same c)) ∙ go (begun (watch c g.ghost.shown)) (begun-untold (watch c g.ghost.shown) ∙ cut.untold)
      where
        go : (v : Watch) → v.untold ≡ Some cut.lost → (answered v (shows cl a) op).untold ≡ Some (cut.lost ++ listed op)
        go v u = ap (λ z. (elim z as (λ x. Watch) [
          | Some ns ↦ record v { untold = Some (ns ++ listed op) }
          | None ↦ cond (shows cl a) (record v { open_start = Rattle.ec_history.specs.Placing.or_else v.open_start v.starts; undurable = v.early ++ (v.undurable ++ listed op); early = [] })
              (cond (Rattle.ec_volume.specs.Image.is_id v.starts v.open_start) (record v { undurable = v.undurable ++ listed op }) (record v { early = v.early ++ listed op }))
        ]).untold) u

    starts-now : (d f : ℕ) → g.running d ≡ Some f → (begun (watch d (g.ghost.shown ++ line ∷ []))).starts ≡ shown_boot g d f
    starts-now d f r2 = ap (λ z. (begun z).starts) (watched d) ∙ go (d == c) ∙ ev.starts d f r2
      where
        go : (z : Bool) → (begun (cond z (answered (begun (watch d g.ghost.shown)) (shows cl a) op) (watch d g.ghost.shown))).starts ≡ (begun (watch d g.ghost.shown)).starts
        go true = begun-answered (watch d g.ghost.shown) (shows cl a) op
        go false = refl

    untold-now : (d f : ℕ) (m : Clerk) → g.running d ≡ Some f → with_start c b now g.clerks d f ≡ Some m → IsUncut h d m → (watch d (g.ghost.shown ++ line ∷ [])).untold ≡ None
    untold-now = by-start (λ d f m. IsUncut h d m → (watch d (g.ghost.shown ++ line ∷ [])).untold ≡ None) (λ n. absurd (its-cut n))
        (λ d f m i r2 q2 n. ap (λ z. z.untold) (watched-other d i) ∙ ev.untold d f m r2 q2 (was-uncut d m n))

    owed-before : (d f : ℕ) → owed B H d f ≡ owed (base_of g) g.ghost.history d f
    owed-before d f = sym (owed_from-same g.origin fo fn d f [] [] H whole) ∙ ap (λ z. owed (base_of g) z d f) (sym cut.was)

    owes-now : (d f : ℕ) (m : Clerk) → g.running d ≡ Some f → with_start c b now g.clerks d f ≡ Some m → IsUncut h d m → owed B H2 d (shown_boot g d f) ≡ m.owed
    owes-now = by-start (λ d f m. IsUncut h d m → owed B H2 d (shown_boot g d f) ≡ m.owed) (λ n. absurd (its-cut n))
        (λ d f m i r2 q2 n. (beside y).owes d (shown_boot g d f) (strange d (shown_boot g d f) i) ∙ owed-before d (shown_boot g d f) ∙ ev.owes d f m r2 q2 (was-uncut d m n))

    counts-now : (d f : ℕ) (m : Clerk) → g.running d ≡ Some f → with_start c b now g.clerks d f ≡ Some m → count d (shown_boot g d f) H2 + 1 ≡ m.log.next
    counts-now = by-start (λ d f m. count d (shown_boot g d f) H2 + 1 ≡ m.log.next)
        (its-count (is_some op) (count c sb w) (count c sb y) (count c sb H) (count c sb H2) (sum w (old ∷ y)) (sum w (e ∷ new ∷ y) ∙ ap (λ z. count c sb w + z) one) (ap (λ z. count c sb z + 1) (sym cut.was) ∙ ev.counts c b k r q) ∙ sym t.next)
        (λ d f m i r2 q2. ap (λ z. z + 1) ((beside y).counts d (shown_boot g d f) (strange d (shown_boot g d f) i)) ∙ ap (λ z. count d (shown_boot g d f) z + 1) (sym cut.was) ∙ ev.counts d f m r2 q2)
      where
        sum : (xs zs : History) → count c sb (xs ++ zs) ≡ count c sb xs + count c sb zs
        sum xs zs = ap length (filter-append (is_op_of c sb) xs zs) ∙ length-append (filter (is_op_of c sb) xs) (filter (is_op_of c sb) zs)

        one : count c sb (e ∷ new ∷ y) ≡ (if is_some op then count c sb y + 1 else count c sb y)
        one = ap (λ z. length (cond (z && is_some op) (e ∷ filter (is_op_of c sb) y) (filter (is_op_of c sb) y))) (own-start c sb) ∙ go (is_some op)
          where
            go : (z : Bool) → length {A = ℕ × Entry} (cond z (e ∷ filter (is_op_of c sb) y) (filter (is_op_of c sb) y)) ≡ cond z (count c sb y + 1) (count c sb y)
            go true = sym (add-one (count c sb y))
            go false = refl

        its-count : (z : Bool) (u v m n : ℕ) → m ≡ u + v → n ≡ u + (if z then v + 1 else v) → m + 1 ≡ k.log.next → n + 1 ≡ (if z then k.log.next + 1 else k.log.next)
        its-count true u v m n i j x = omega (arith, i, j, x)
        its-count false u v m n i j x = omega (arith, i, j, x)

    -- What is covered.

    abbrev IsCoveredBy : Base → History → ℕ × Entry → Type 0
    IsCoveredBy base z v = (o : Op) → Covers base z v o.clerk (shown_boot g o.clerk o.boot) o.number → T (g.ghost.is_durable o)

    covered-old : Throughout (IsCoveredBy B) [] H
    covered-old = throughout-map (λ z. fo z.0 ≡ fn z.0) (IsCoveredBy (base_of g)) (IsCoveredBy B)
        (λ past z i j f o n. f o (covers-based g.origin fn fo past z o.clerk (shown_boot g o.clerk o.boot) o.number (alike-back fo fn past i) n)) [] H tt whole (subst (Throughout (IsCoveredBy (base_of g)) []) cut.was ev.covered)

    covered-now : Throughout (IsCoveredBy B) [] H2
    covered-now = earlier.throughout-late B g.durable.max_objects c sb p l (begun_at g c b l) cl a op cut.at cut.lost w y front-legal legal-call (IsCoveredBy B) (IsCoveredBy B) (λ past z f. f)
        (λ past later z i n f o v. behind past later z i n o (same_start c sb o.clerk (shown_boot g o.clerk o.boot)) refl v (f o)) t.settled (λ o v. absurd (nothing-closed _ o.number v.closed_in)) cut.alone covered-old
      where
        behind : (past later : History) (z : ℕ × Entry) → IsBeside B c sb past later → is_entry_of c sb z.1 ≡ false → (o : Op) → (v : Bool) → same_start c sb o.clerk (shown_boot g o.clerk o.boot) ≡ v
            → Covers B later z o.clerk (shown_boot g o.clerk o.boot) o.number → (Covers B past z o.clerk (shown_boot g o.clerk o.boot) o.number → T (g.ghost.is_durable o)) → T (g.ghost.is_durable o)
        behind past later z i n o false x cov f = f (covers-same B c sb past later i z o.clerk (shown_boot g o.clerk o.boot) o.number n x cov)
        behind past later z i n o true x cov f =
            let two = same-start c sb o.clerk (shown_boot g o.clerk o.boot) x in
            absurd (subst T n (subst (λ d. T (is_entry_of c d z.1)) (sym two.1) (subst (λ d. T (is_entry_of d (shown_boot g o.clerk o.boot) z.1)) (sym two.0) cov.own)))

    -- What is left alone.

    abbrev LeftAlone : Base → ℕ × Age → List ℕ → History → ℕ × Entry → Type 0
    LeftAlone base o ns z v = T (leaves base (kept base z) o.0 (filter (is_one_of o.0 (shown_boot g o.0 (o.1).boot) ns) (kept base z)) v)

    untouched-now : (u : ℕ) (o : ℕ × Age) → g.ghost.owner u ≡ Some o → T (is_open g u) → Throughout (LeftAlone B o (numbers (undurable g.ghost u))) [] H2
    untouched-now u o i j =
        let ns = numbers (undurable g.ghost u) in
        earlier.throughout-late B g.durable.max_objects c sb p l (begun_at g c b l) cl a op cut.at cut.lost w y front-legal legal-call (LeftAlone B o ns) (LeftAlone B o ns) (λ past z f. f)
        (λ past later z m n f. subst (λ xs. T (leaves B xs o.0 (filter (is_one_of o.0 (shown_boot g o.0 (o.1).boot) ns) xs) z)) (sym m.keeps) f) (t.leaves_open u o i j) tt cut.alone
        (throughout-map (λ z. fo z.0 ≡ fn z.0) (LeftAlone (base_of g) o ns) (LeftAlone B o ns)
        (λ past z m n v. subst T (leaves-same g.origin fo fn past o.0 (is_one_of o.0 (shown_boot g o.0 (o.1).boot) ns) z m n) v) [] H tt whole (subst (Throughout (LeftAlone (base_of g) o ns) []) cut.was (ev.untouched u o i j)))

    -- The cuts.

    abbrev ForLosses : ℕ → List Op → ℕ × Entry → Type 0
    ForLosses u xs v = (m f j : ℕ) (ms : List ℕ) → v ≡ (m, entry.Loss f j ms) → Each (Frees g u) (filter (is_one_of f j ms) xs)

    frees-kept : (u : ℕ) (o : Op) → Frees g u o → Frees h u o
    frees-kept u o f = f

    new-shown : Each (λ o. (o.clerk ≡ c) × (o.boot ≡ sb)) (map (shown_op g) os)
    new-shown = go os t.fresh
      where
        go : (xs : List Op) → Each (λ o. (o.clerk ≡ c) × (o.boot ≡ b) × (o.number ≡ k.log.next)) xs → Each (λ o. (o.clerk ≡ c) × (o.boot ≡ sb)) (map (shown_op g) xs)
        go [] f = tt
        go (x ∷ xs) f = ((f.0.0, ap (λ z. shown_boot g z x.boot) f.0.0 ∙ ap (shown_boot g c) f.0.1), go xs f.1)

    kept-late : kept B (w ++ e ∷ []) ≡ kept B w ++ map (shown_op g) os
    kept-late = kept-step B w e ∙ ap (λ z. kept B w ++ z) t.issues

    own-later : Each (ForLosses s (kept B (w ++ e ∷ []))) y
    own-later = each-two (ForLosses s (kept (base_of g) w)) (λ v. is_entry_of c sb v.1 ≡ false) (ForLosses s (kept B (w ++ e ∷ []))) y one cut.later (none-each (λ v. is_entry_of c sb v.1) y cut.alone)
      where
        others : (d f : ℕ) (ms : List ℕ) → same_start c sb d f ≡ false → (xs : List Op) → Each (λ o. (o.clerk ≡ c) × (o.boot ≡ sb)) xs → filter (is_one_of d f ms) xs ≡ []
        others d f ms n [] h = refl
        others d f ms n (x ∷ xs) h = ap (λ z. cond (z && member x.number ms) (x ∷ filter (is_one_of d f ms) xs) (filter (is_one_of d f ms) xs)) start ∙ others d f ms n xs h.1
          where
            start : of_start d f x ≡ false
            start = go (of_start d f x) refl
              where
                go : (z : Bool) → of_start d f x ≡ z → z ≡ false
                go false i = refl
                go true i =
                    let two = same-start d f x.clerk x.boot i in
                    absurd (true≢false (sym (ap (λ z. same_start c sb z f) (two.0 ∙ h.0.0) ∙ ap (λ z. same_start c sb c z) (two.1 ∙ h.0.1) ∙ own-start c sb) ∙ n))

        one : (v : ℕ × Entry) → ForLosses s (kept (base_of g) w) v → is_entry_of c sb v.1 ≡ false → ForLosses s (kept B (w ++ e ∷ [])) v
        one v f n m d j ms i =
            let apart : same_start c sb d j ≡ false = sym (ap (λ z. is_entry_of c sb z.1) i) ∙ n in
            subst (Each (Frees g s)) (sym (ap (filter (is_one_of d j ms)) kept-late ∙ filter-append (is_one_of d j ms) (kept B w) (map (shown_op g) os)
            ∙ ap (λ z. filter (is_one_of d j ms) (kept B w) ++ z) (others d j ms apart (map (shown_op g) os) new-shown) ∙ append-nil (filter (is_one_of d j ms) (kept B w))))
            (subst (λ z. Each (Frees g s) (filter (is_one_of d j ms) z)) kept-front (f m d j ms i))

    abbrev MayFree : List Op → Op → Type 0
    MayFree xs o = T (list_any (λ j. same_op j o) xs) → Frees g s o

    -- no operation that is kept is the new one
    not-new : (xs : List Op) → Each (λ o. (o.clerk ≡ c) × (o.boot ≡ b) × (o.number ≡ k.log.next)) xs → (o : Op) → (T (of_start c b o) → o.number < k.log.next) → T (list_any (λ j. same_op j o) xs) → ⊥
    not-new [] f o u m = m
    not-new (x ∷ xs) f o u m = go (same_op x o) refl m (not-new xs f.1 o u)
      where
        never : (n m : ℕ) → n < m → n ≡ m → ⊥
        never n m i j = omega (arith, i, j)

        one : same_op x o ≡ true → ⊥
        one i =
            let z = and_parts (of_start x.clerk x.boot o && of_start o.clerk o.boot x) (x.number == o.number) i in
            let v = and_parts (of_start x.clerk x.boot o) (of_start o.clerk o.boot x) z.0 in
            never o.number k.log.next (u (subst (λ d. T (of_start d b o)) f.0.0 (subst (λ d. T (of_start x.clerk d o)) f.0.1 (subst T (sym v.0) tt)))) (sym (equal x.number o.number z.1) ∙ f.0.2)

        go : (z : Bool) → same_op x o ≡ z → T (z || list_any (λ j. same_op j o) xs) → (T (list_any (λ j. same_op j o) xs) → ⊥) → ⊥
        go true i m r = one i
        go false i m r = r m

    own-frozen : (u : ℕ) → T (is_open g u) → Each (MayFree (ks ++ os)) (undurable g.ghost u)
    own-frozen u i = each-two (MayFree ks) (λ o. T (of_start c b o) → o.number < k.log.next) (MayFree (ks ++ os)) (undurable g.ghost u)
        (λ o f n m. by o f n (list_any (λ j. same_op j o) ks) refl (subst T (list_any-append (λ j. same_op j o) ks os) m)) (cut.frozen u i)
        (each-filter (λ o. T (of_start c b o) → o.number < k.log.next) (λ o. is_of (g.ghost.owner u) o && not (g.ghost.is_durable o)) g.ghost.kept below)
      where
        by : (o : Op) → MayFree ks o → (T (of_start c b o) → o.number < k.log.next) → (z : Bool) → list_any (λ j. same_op j o) ks ≡ z → T (z || list_any (λ j. same_op j o) os) → Frees g s o
        by o f n true i m = f (subst T (sym i) tt)
        by o f n false i m = absurd (not-new os t.fresh o n m)

    own-cut : CutAgrees h c b s now (ks ++ os)
    own-cut = record {
      before = w ++ e ∷ [];
      at = cut.at;
      lost = cut.lost ++ listed op;
      behind = y;
      was = grows ∙ sym (append_assoc w (e ∷ []) (new ∷ y));
      keeps = kept-late ∙ ap (λ z. z ++ map (shown_op g) os) (sym kept-front ∙ cut.keeps) ∙ sym (map-append (shown_op g) ks os);
      alone = cut.alone;
      untold = untold-own;
      owes = (t.answered).1;
      frozen = own-frozen;
      later = own-later;
    }

    -- Of another clerk: its loss stands before this one, or behind it.
    module _ (d f u : ℕ) (m : Clerk) (xs : List Op) (i : (d == c) ≡ false) (z : CutAgrees g d f u m xs) where
      abbrev its : ℕ × Entry
      its = loss_in g d f z.at z.lost

      abbrev is_his : ℕ × Entry → Bool
      is_his v = is_entry_of d (shown_boot g d f) v.1

      other-front : kept (base_of g) z.before ≡ kept B z.before
      other-front = kept-same g.origin fo fn z.before (each-front (λ v. fo v.0 ≡ fn v.0) z.before (its ∷ z.behind) (subst (Alike fo fn) z.was (alike g (fresh_of k) ev)))

      other-owes : owed B z.before d (shown_boot g d f) ≡ m.owed
      other-owes = sym (owed_from-same g.origin fo fn d (shown_boot g d f) [] [] z.before (each-front (λ v. fo v.0 ≡ fn v.0) z.before (its ∷ z.behind) (subst (Alike fo fn) z.was (alike g (fresh_of k) ev)))) ∙ z.owes

      other-untold : (watch d (g.ghost.shown ++ line ∷ [])).untold ≡ Some z.lost
      other-untold = ap (λ v. v.untold) (watched-other d i) ∙ z.untold

      behind-it : (ms : History) → z.before ≡ w ++ old ∷ ms → y ≡ ms ++ its ∷ z.behind → CutAgrees h d f u m xs
      behind-it ms a1 a2 =
          let same-kept : kept B (w ++ e ∷ new ∷ ms) ≡ kept (base_of g) z.before = (beside ms).keeps ∙ ap (kept B) (sym a1) ∙ sym other-front in
          record {
            before = w ++ e ∷ new ∷ ms;
            at = z.at;
            lost = z.lost;
            behind = z.behind;
            was = grows ∙ ap (λ v. w ++ e ∷ new ∷ v) a2 ∙ sym (append_assoc w (e ∷ new ∷ ms) (its ∷ z.behind));
            keeps = same-kept ∙ z.keeps;
            alone = z.alone;
            untold = other-untold;
            owes = (beside ms).owes d (shown_boot g d f) (strange d (shown_boot g d f) i) ∙ ap (λ v. owed B v d (shown_boot g d f)) (sym a1) ∙ other-owes;
            frozen = z.frozen;
            later = subst (λ v. Each (ForLosses u v) z.behind) (sym same-kept) z.later;
          }

      -- what this loss names now of the operations that the other one saw is what it named
      same-lost : (ms : History) → w ≡ z.before ++ its ∷ ms → filter (is_one_of c sb (cut.lost ++ listed op)) (kept B z.before) ≡ filter (is_one_of c sb cut.lost) (kept B z.before)
      same-lost ms a1 = still-lost B g.durable.max_objects H old-legal c sb cut.lost (listed op) (subst (λ v. Each (λ n. count c sb v < n) (listed op)) cut.was t.above) z.before ((its ∷ ms) ++ old ∷ y)
          (ap (λ v. v ++ old ∷ y) a1 ∙ append_assoc z.before (its ∷ ms) (old ∷ y))

      before-it : (ms : History) → w ≡ z.before ++ its ∷ ms → z.behind ≡ ms ++ old ∷ y → CutAgrees h d f u m xs
      before-it ms a1 a2 =
          let parts = subst (λ v. Each (ForLosses u v) (ms ++ old ∷ y)) other-front (subst (Each (ForLosses u (kept (base_of g) z.before))) a2 z.later) in
          record {
            before = z.before;
            at = z.at;
            lost = z.lost;
            behind = ms ++ e ∷ new ∷ y;
            was = grows ∙ ap (λ v. v ++ e ∷ new ∷ y) a1 ∙ append_assoc z.before (its ∷ ms) (e ∷ new ∷ y);
            keeps = sym other-front ∙ z.keeps;
            alone = list_any-append is_his ms (e ∷ new ∷ y) ∙ ap (λ v. list_any is_his ms || (v || (v || list_any is_his y))) (strange-too d (shown_boot g d f) i)
                ∙ sym (list_any-append is_his ms (old ∷ y) ∙ ap (λ v. list_any is_his ms || (v || list_any is_his y)) (strange-too d (shown_boot g d f) i)) ∙ ap (list_any is_his) (sym a2) ∙ z.alone;
            untold = other-untold;
            owes = other-owes;
            frozen = z.frozen;
            later = each-join (ForLosses u (kept B z.before)) ms (e ∷ new ∷ y) (each-front (ForLosses u (kept B z.before)) ms (old ∷ y) parts)
                ((λ n d2 f2 ns v. absurd (no-loss p n c sb l (begun_at g c b l) d2 f2 cl a op ns v)), (its-loss ms a1 (each-back (ForLosses u (kept B z.before)) ms (old ∷ y) parts).0, (each-back (ForLosses u (kept B z.before)) ms (old ∷ y) parts).1));
          }
        where
          its-loss : (ms : History) → w ≡ z.before ++ its ∷ ms → ForLosses u (kept B z.before) old → ForLosses u (kept B z.before) new
          its-loss ms a1 g2 n d2 f2 ns v =
              let q3 = loss-parts cut.at n c d2 sb f2 (cut.lost ++ listed op) ns v in
              subst (λ x. Each (Frees g u) (filter (is_one_of x f2 ns) (kept B z.before))) q3.0 (subst (λ x. Each (Frees g u) (filter (is_one_of c x ns) (kept B z.before))) q3.1
              (subst (λ x. Each (Frees g u) (filter (is_one_of c sb x) (kept B z.before))) q3.2 (subst (Each (Frees g u)) (sym (same-lost ms a1)) (g2 cut.at c sb cut.lost refl))))

      pub other-cut : CutAgrees h d f u m xs
      other-cut = elim (apart-splits (λ v. is_entry_of c sb v.1) w y z.before z.behind old its (own-start c sb) (strange d (shown_boot g d f) i) (sym cut.was ∙ z.was)) [
        | inl r ↦ behind-it r.0 r.1 r.2
        | inr r ↦ before-it r.0 r.1 r.2
      ]

    cuts-now : (d f u : ℕ) (m : Clerk) (xs : List Op) → g.running d ≡ Some f → with_start c b now g.clerks d f ≡ Some m → g.ghost.owner u ≡ Some (d, m.age) → h.ghost.frozen u ≡ Some xs → CutAgrees h d f u m xs
    cuts-now d f u m xs r2 q2 = by-start (λ d f m. g.ghost.owner u ≡ Some (d, m.age) → h.ghost.frozen u ≡ Some xs → CutAgrees h d f u m xs) mine
        (λ d f m i r3 q3 o v. other-cut d f u m xs i (ev.cuts d f u m xs r3 q3 o (sym (frozen-other u (other-session u d m i o)) ∙ v))) d f m r2 q2
      where
        mine : g.ghost.owner u ≡ Some (c, now.age) → h.ghost.frozen u ≡ Some xs → CutAgrees h c b u now xs
        mine o v =
            let here : s ≡ u = once s u (c, k.age) own (o ∙ ap (λ z. Some (c, z)) t.age) in
            subst (λ z. CutAgrees h c b z now xs) here (subst (CutAgrees h c b s now) (same_some (sym frozen-own ∙ ap h.ghost.frozen here ∙ v)) own-cut)

    -- All of E behind the answer.
    pub late-keeps : EventsAgree h
    late-keeps = record {
      placeable = placeable-step g.ghost.shown line ev.placeable t.line;
      placed = refl;
      starts = starts-now;
      untold = untold-now;
      keeps = ap (kept B) grows ∙ keeps-now;
      legal = subst (IsLegal B g.durable.max_objects) (sym grows) t.legal;
      owes = λ d f m r2 q2 n. ap (λ z. owed B z d (shown_boot g d f)) grows ∙ owes-now d f m r2 q2 n;
      counts = λ d f m r2 q2. ap (λ z. count d (shown_boot g d f) z + 1) grows ∙ counts-now d f m r2 q2;
      covered = subst (Throughout (IsCoveredBy B) []) (sym grows) covered-now;
      untouched = λ u o i j. subst (Throughout (LeftAlone B o (numbers (undurable g.ghost u))) []) (sym grows) (untouched-now u o i j);
      cuts = cuts-now;
    }
