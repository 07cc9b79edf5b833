-- An answer of a clerk that is cut off, before its loss: what it covers, and its operation.
use Rattle.std.proofs.Common.{◌≡◌, refl, sym, ap, subst, ◌∙◌, inl, inr, arith, ◌<◌, ◌+◌, ℕ, T, Bool, true, false, not, ◌==◌, ◌&&◌, cond, map, List, [], ◌∷◌, ◌++◌, length, Option, Some, None, length-append}
use Rattle.std.specs.List.{filter, list_any}
use Rattle.std.proofs.lemmas.Bool.{and_parts, cases_eq, or_parts}
use Rattle.std.proofs.lemmas.List.Elements.{filter-append}
use Rattle.ec_base.specs.declared.ids.Age.{Age}
use Rattle.ec_volume.specs.Update.{listed}
use Rattle.ec_volume.specs.declared.update.Update.{Update}
use Rattle.ec_plain.specs.declared.call.Call.{Call}
use Rattle.ec_order.specs.Order.{Holds, InClosure, Issued, ask, need}
use Rattle.ec_history.specs.History.{Base, Covers, Each, History, Op, is_entry_of, is_lost, is_one_of, issued, kept, numbers, of_issue, of_start, same_start}
use Rattle.ec_history.specs.Legal.{IsLegal, is_op_of, leaves}
use Rattle.ec_history.specs.Placing.{MayFollow}
use Rattle.ec_history.specs.declared.entry.Answer.{Answer}
use Rattle.ec_history.specs.declared.entry.Entry.{Entry}
use Rattle.ec_history.specs.declared.entry.Entry.TheVariants as entry
use Rattle.ec_history.specs.declared.shown.Shown.TheVariants.{Answered}
use Rattle.ec_history.proofs.OfLaws.ForPlacing.Cuts.{legal-split}
use Rattle.ec_history.proofs.OfLaws.ForPlacing.Numbers.{each-front}
use Rattle.ec_machine_laws.proofs.Holding.{holds-kept}
use Rattle.ec_cache.specs.declared.resolve.verdict.Verdict.{Verdict}
use Rattle.ec_cache.specs.declared.resolve.verdict.Verdict.TheVariants.{Need, Lost, NeedIds, Done}
use Rattle.ec_protocol.specs.Clerk.{first_id, verdict}
use Rattle.ec_protocol.specs.declared.clerk.Clerk.{Clerk}
use Rattle.ec_coherence.specs.System.{System, at_session, is_of, is_open, undurable}
use Rattle.ec_coherence.specs.Events.{CutAgrees, shown_boot, shown_op}
use Rattle.ec_coherence.specs.Log.{numbered}
use Rattle.ec_coherence.specs.CommitLaws.{AllAgree}
use Rattle.ec_lawful.proofs.OfClerkSteps.ForCalls.Issued.{kept-of}
use Rattle.ec_lawful.proofs.OfClerkSteps.ForCalls.Settled.{shown-issue, shown-start}
use Rattle.ec_coherence.specs.Answers.{Gives, IsAnswered, IsAt, based, fresh_of, op_given}
use Rattle.ec_coherence.specs.Comes.{begun_at, entry_next}
use Rattle.ec_coherence.proofs.ForCommits.Answering.{alike, fresh-here, given-answered, given-issued, new_fresh, old_fresh}
use Rattle.ec_coherence.proofs.ForCommits.Rebased.{Alike, kept-same, legal-same}
use Rattle.ec_lawful.specs.OfClerkSteps.Answering.{answered_clerk}
use Rattle.ec_lawful.proofs.OfClerkSteps.Late.{IsLate, loss_in}
use Rattle.ec_lawful.proofs.OfClerkSteps.Turned.{named-is, next-is, same-age}
use Rattle.ec_base.proofs.Numbers.{equal}
use Rattle.ec_base.proofs.Bools.{is-true}

-- a history without an entry of the start has no operation of it
pub no-count : (c b : ℕ) (h : History) → list_any (λ e. is_entry_of c b e.1) h ≡ false → length (filter (is_op_of c b) h) ≡ 0
no-count c b [] n = refl
no-count c b (e ∷ h) n =
    let parts = or_parts (is_entry_of c b e.1) (list_any (λ y. is_entry_of c b y.1) h) n in
    ap (λ z. length (cond z (e ∷ filter (is_op_of c b) h) (filter (is_op_of c b) h))) (one e parts.0) ∙ no-count c b h parts.1
  where
    one : (e : ℕ × Entry) → is_entry_of c b e.1 ≡ false → is_op_of c b e ≡ false
    one (p, entry.Call d f l begun cl a None) n = off (same_start c b d f)
      where
        off : (z : Bool) → (z && false) ≡ false
        off true = refl
        off false = refl
    one (p, entry.Call d f l begun cl a (Some m)) n = ap (λ z. z && true) n
    one (p, entry.Loss d f ns) n = refl

-- What a session saw stays so.
pub frozen-same : (f : ℕ → Option (List Op)) (s : ℕ) (ks : List Op) → f s ≡ Some ks → at_session s (Some ks) f ≡ f
frozen-same f s ks q = λ j t. point (t == s) t refl j
  where
    point : (y : Bool) (t : ℕ) → (t == s) ≡ y → elim y as (λ z. Option (List Op)) [ true ↦ Some ks | false ↦ f t ] ≡ f t
    point true t e = sym q ∙ ap f (sym (equal t s e))
    point false t e = refl

module _ (g : System) (all : AllAgree g) (c b s : ℕ) (k : Clerk) (r : g.running c ≡ Some b) (at-start : g.clerks c b ≡ Some k) (own : g.ghost.owner s ≡ Some (c, k.age)) (ks : List Op) (fz : g.ghost.frozen s ≡ Some ks)
    (l : ℕ) (cl : Call) (a : Answer) (op : Option ℕ) (gives : Gives g.durable.max_objects k (verdict cl k) a op (answered_clerk (verdict cl k) k).owed) (line : MayFollow g.ghost.shown (Answered l c cl a op)) where
  abbrev pub v : Verdict
  v = verdict cl k

  abbrev pub now : Clerk
  now = answered_clerk v k

  abbrev pub most : ℕ
  most = g.durable.max_objects

  abbrev pub p : ℕ
  p = length g.ghost.shown + 1

  abbrev pub x : ℕ
  x = fresh_of k

  abbrev pub B : Base
  B = based g x

  abbrev pub sb : ℕ
  sb = shown_boot g c b

  abbrev pub os : List Op
  os = op_given c b p k v

  abbrev pub e : ℕ × Entry
  e = entry_next g c b l cl a op

  abbrev pub cut : CutAgrees g c b s k ks
  cut = ((all.0).events).cuts c b s k ks r at-start own fz

  -- The history up to the loss.

  abbrev pub rest : History
  rest = loss_in g c b cut.at cut.lost ∷ cut.behind

  pub whole : Alike (old_fresh g x) (new_fresh g x) (cut.before ++ rest)
  whole = subst (Alike (old_fresh g x) (new_fresh g x)) cut.was (alike g x (all.0).events)

  pub kept-before : kept B cut.before ≡ map (shown_op g) ks
  kept-before = sym (kept-same g.origin (old_fresh g x) (new_fresh g x) cut.before (each-front (λ y. old_fresh g x y.0 ≡ new_fresh g x y.0) cut.before rest whole)) ∙ cut.keeps

  pub legal-whole : IsLegal B most (cut.before ++ rest)
  legal-whole = subst (IsLegal B most) cut.was (legal-same g.origin (old_fresh g x) (new_fresh g x) most g.ghost.history (alike g x (all.0).events) (all.0).events.legal)

  pub legal-before : IsLegal B most cut.before
  legal-before = (legal-split B most cut.before rest legal-whole).0

  -- What it covers is durable.

  module _ (uncovered : Each (λ n. ¬ (Covers B cut.before e c sb n)) cut.lost) (lost-is : cut.lost ≡ numbers (filter (λ o. is_of (g.ghost.owner s) o && not (g.ghost.is_durable o)) ks)) where
    above-first : g.first_boot c < b
    above-first = (all.3).started c b k at-start

    -- each that it saw of its own is durable or not covered
    abbrev Sure : Op → Type 0
    Sure j = (of_start c b j ≡ true) × (g.ghost.is_durable j ≡ false → ¬ (Covers B cut.before e c sb j.number))

    sure : Each Sure (filter (of_start c b) ks)
    sure = go ks (subst {A = Op → Bool} (λ z. Each (λ n. ¬ (Covers B cut.before e c sb n)) (numbers (filter (λ o. z o && not (g.ghost.is_durable o)) ks))) (λ j o. its o j) (subst (Each (λ n. ¬ (Covers B cut.before e c sb n))) lost-is uncovered))
      where
        its : (o : Op) → is_of (g.ghost.owner s) o ≡ of_start c b o
        its o = ap (λ z. is_of z o) own ∙ ap (λ z. of_start c z o) (((all.0).sessions).starts c b k at-start).1

        go : (is : List Op) → Each (λ n. ¬ (Covers B cut.before e c sb n)) (numbers (filter (λ o. of_start c b o && not (g.ghost.is_durable o)) is)) → Each Sure (filter (of_start c b) is)
        go [] h = tt
        go (i ∷ is) h = by (of_start c b i) (g.ghost.is_durable i) refl refl h (go is)
          where
            by : (y z : Bool) → of_start c b i ≡ y → g.ghost.is_durable i ≡ z → Each (λ n. ¬ (Covers B cut.before e c sb n)) (numbers (cond (y && not z) (i ∷ filter (λ o. of_start c b o && not (g.ghost.is_durable o)) is) (filter (λ o. of_start c b o && not (g.ghost.is_durable o)) is)))
                → (Each (λ n. ¬ (Covers B cut.before e c sb n)) (numbers (filter (λ o. of_start c b o && not (g.ghost.is_durable o)) is)) → Each Sure (filter (of_start c b) is)) → Each Sure (cond y (i ∷ filter (of_start c b) is) (filter (of_start c b) is))
            by true true q w h f = ((q, λ n. absurd (Rattle.std.proofs.lemmas.Bool.true≢false (sym w ∙ n))), f h)
            by true false q w h f = ((q, λ n. h.0), f h.1)
            by false z q w h f = f h

    held-op : (P : Op → Type 0) (is : List Op) (n : ℕ) (w : Update) → Each P is → Holds (numbered is) n w → (j : Op) × (j.number ≡ n) × P j
    held-op P [] n w h t = absurd t
    held-op P (i ∷ is) n w h (inl q) = (i, q.0, h.0)
    held-op P (i ∷ is) n w h (inr t) = held-op P is n w h.1 t

    closure-held : (is : Issued) (asked : ℕ → Bool) (n : ℕ) → InClosure is asked n → (w : Update) × Holds is n w
    closure-held is asked n (ask m w h t) = (w, h)
    closure-held is asked n (need m j y z h i q t z2) = (y, h)

    settled-own : (o : Op) → o.clerk ≡ c → o.boot ≡ b → Covers B cut.before e c sb o.number → T (g.ghost.is_durable o)
    settled-own o oc ob w =
        let held = closure-held (of_issue c sb (issued B cut.before)) _ o.number w.closed_in in
        let j = held-op Sure (filter (of_start c b) ks) o.number held.0 sure
        (subst (λ z. Holds z o.number held.0) (sym (kept-of B most c sb cut.before legal-before) ∙ ap (of_issue c sb) kept-before ∙ shown-issue g c b above-first ks)
        (holds-kept (λ y. not (is_lost c sb y.0 cut.before)) (of_issue c sb (issued B cut.before)) o.number held.0 held.1 (is-true (not (is_lost c sb o.number cut.before)) w.not_lost))) in
        let two = and_parts (c == (j.0).clerk) (b == (j.0).boot) (j.2).0 in
        subst T (sym ((all.3).alike o (j.0) (oc ∙ equal c (j.0).clerk two.0) (ob ∙ equal b (j.0).boot two.1) (sym j.1))) (by (g.ghost.is_durable (j.0)) refl (j.2).1 (subst (Covers B cut.before e c sb) (sym j.1) w))
      where
        by : {n : ℕ} {y : Op} (z : Bool) → g.ghost.is_durable y ≡ z → (g.ghost.is_durable y ≡ false → ¬ (Covers B cut.before e c sb n)) → Covers B cut.before e c sb n → T z
        by true q f w = tt
        by false q f w = absurd (f q w)

    settled : (o : Op) → Covers B cut.before e o.clerk (shown_boot g o.clerk o.boot) o.number → T (g.ghost.is_durable o)
    settled o w =
        let who = shown-start g c b above-first o.clerk o.boot w.own in
        settled-own o who.0 who.1 (subst (λ z. Covers B cut.before e c (shown_boot g c z) o.number) who.1 (subst (λ z. Covers B cut.before e z (shown_boot g z o.boot) o.number) who.0 w))

    shown-ops : (w : Verdict) → op_given c sb p k w ≡ map (shown_op g) (op_given c b p k w)
    shown-ops (Need y h) = refl
    shown-ops (Lost ns xs) = refl
    shown-ops (NeedIds xs) = refl
    shown-ops (Done o) = go o.update
      where
        go : (w : Option Update) → elim w as (λ z. List Op) [ None ↦ [] | Some w ↦ record { clerk = c; boot = sb; number = k.log.next; place = p; update = w } ∷ [] ]
            ≡ map (shown_op g) (elim w as (λ z. List Op) [ None ↦ [] | Some w ↦ record { clerk = c; boot = b; number = k.log.next; place = p; update = w } ∷ [] ])
        go None = refl
        go (Some w) = refl

    new-ones : (w : Verdict) → Each (λ o. (o.clerk ≡ c) × (o.boot ≡ b) × (o.number ≡ k.log.next)) (op_given c b p k w)
    new-ones (Need y h) = tt
    new-ones (Lost ns xs) = tt
    new-ones (NeedIds xs) = tt
    new-ones (Done o) = go o.update
      where
        go : (w : Option Update) → Each (λ o. (o.clerk ≡ c) × (o.boot ≡ b) × (o.number ≡ k.log.next)) (elim w as (λ z. List Op) [ None ↦ [] | Some w ↦ record { clerk = c; boot = b; number = k.log.next; place = p; update = w } ∷ [] ])
        go None = tt
        go (Some w) = ((refl, refl, refl), tt)

    count-before : length (filter (is_op_of c sb) cut.before) + 1 ≡ k.log.next
    count-before = ap (λ n. n + 1) (sym total) ∙ ((all.0).events).counts c b k r at-start
      where
        sum : (n m j : ℕ) → m ≡ n + j → j ≡ 0 → m ≡ n
        sum n m j y z = omega (arith, y, z)

        total : length (filter (is_op_of c sb) g.ghost.history) ≡ length (filter (is_op_of c sb) cut.before)
        total = sum (length (filter (is_op_of c sb) cut.before)) (length (filter (is_op_of c sb) g.ghost.history)) (length (filter (is_op_of c sb) cut.behind))
            (ap (λ h. length (filter (is_op_of c sb) h)) cut.was ∙ ap length (filter-append (is_op_of c sb) cut.before rest) ∙ length-append (filter (is_op_of c sb) cut.before) (filter (is_op_of c sb) cut.behind)) (no-count c sb cut.behind cut.alone)

    above-count : Each (λ n. length (filter (is_op_of c sb) g.ghost.history) < n) (listed op)
    above-count = subst (Each (λ n. length (filter (is_op_of c sb) g.ghost.history) < n)) (named-is most k a op now.owed c b p v gives) (go os (new-ones v))
      where
        more : (m n : ℕ) → m + 1 ≡ n → m < n
        more m n q = omega (arith, q)

        go : (is : List Op) → Each (λ o. (o.clerk ≡ c) × (o.boot ≡ b) × (o.number ≡ k.log.next)) is → Each (λ n. length (filter (is_op_of c sb) g.ghost.history) < n) (numbers is)
        go [] h = tt
        go (i ∷ is) h = (more (length (filter (is_op_of c sb) g.ghost.history)) i.number (((all.0).events).counts c b k r at-start ∙ sym h.0.2), go is h.1)

    module _ (at : IsAt B cut.before c sb k.cache k.owed (first_id k.ids)) where
      pub answered : IsAnswered B most cut.before c sb p l (begun_at g c b l) cl a op now.owed
      answered = given-answered B most cut.before c sb p l (begun_at g c b l) cl k at (fresh-here g x) count-before v a op now.owed refl gives

      pub late-by : IsLegal B most (cut.before ++ e ∷ loss_in g c b cut.at (cut.lost ++ listed op) ∷ cut.behind)
          → ((u : ℕ) (o : ℕ × Age) → g.ghost.owner u ≡ Some o → T (is_open g u) → T (leaves B (kept B cut.before) o.0 (filter (is_one_of o.0 (shown_boot g o.0 (o.1).boot) (numbers (undurable g.ghost u))) (kept B cut.before)) e))
          → IsLate g c b k now cut.before cut.at cut.lost cut.behind os l cl a op
      late-by legal leaves_open = record {
        age = same-age k v;
        next = next-is most k a op now.owed v gives;
        line = line;
        answered = answered;
        issues = given-issued B most cut.before c sb p l (begun_at g c b l) cl k at (fresh-here g x) count-before v a op now.owed refl gives ∙ shown-ops v;
        legal = legal;
        fresh = new-ones v;
        above = above-count;
        settled = settled;
        leaves_open = leaves_open;
      }
