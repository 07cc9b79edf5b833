-- Answers by verdicts keep the history's rules: the laws of verdicts, in the history's words.
use Rattle.std.proofs.Common.{◌≡◌, ◌≢◌, refl, sym, ap, subst, ◌∙◌, inl, inr, arith, ◌+◌, ℕ, T, Bool, true, false, not, ◌==◌, ◌||◌, cond, map, List, [], ◌∷◌, ◌++◌, Option, Some, None}
use Rattle.std.specs.Prelude.{is_some, ◌&&◌, nat_lt, length}
use Rattle.std.specs.List.{filter}
use Rattle.std.proofs.lemmas.Bool.{and_from, cond-true, true≢false}
use Rattle.std.proofs.lemmas.Bool.Decides.{nat_tests}
use Rattle.std.proofs.lemmas.List.Folds.{list_any-append}
use Rattle.ec_base.specs.Tables.{at, once, or_else}
use Rattle.ec_base.specs.Holds.{is_below, weaker}
use Rattle.ec_base.specs.declared.ids.Hold.{Hold}
use Rattle.ec_base.specs.declared.ids.Hold.TheVariants.{Free, Read, Write}
use Rattle.ec_volume.specs.Image.{is_id}
use Rattle.ec_volume.specs.Update.{member, is_make}
use Rattle.ec_volume.specs.Volume.{Images, after}
use Rattle.ec_volume.specs.declared.image.Image.TheVariants.{Gone}
use Rattle.ec_volume.specs.declared.update.Update.{Update}
use Rattle.ec_plain.specs.Plain.{plain, is_sync}
use Rattle.ec_plain.specs.declared.call.Call.{Call}
use Rattle.ec_plain.specs.declared.call.Call.TheVariants as call
use Rattle.ec_plain.specs.declared.call.Outcome.{Outcome}
use Rattle.ec_history.specs.History.{Base, History, updates, outcome, kept, owed, meets, same_start, distinct_numbers}
use Rattle.ec_history.specs.Legal.{IsNext, is_making}
use Rattle.ec_history.specs.declared.entry.Answer.{Answer}
use Rattle.ec_history.specs.declared.entry.Answer.TheVariants as answer
use Rattle.ec_history.specs.declared.entry.Entry.TheVariants as entry
use Rattle.ec_cache.specs.Cache as cache
use Rattle.ec_cache.specs.declared.state.CacheState.{CacheState}
use Rattle.ec_cache.specs.declared.state.Held.{Held}
use Rattle.ec_cache.specs.OfReport.Report.{Owed, due, clear, objects}
use Rattle.ec_cache.specs.OfResolve.Agreement.{Shows, IsFor, IsOwed, IsReady, IsWithoutId, AreTouchedBy, is_unread}
use Rattle.ec_cache.specs.OfResolve.Resolve.{evaluate, lacks_id, met}
use Rattle.ec_cache.specs.declared.resolve.verdict.Verdict.TheVariants.{Lost, NeedIds, Done}
use Rattle.ec_cache.proofs.OfResolve.Settled.{either}
use Rattle.ec_cache.proofs.OfResolve.Verdicts.{done-says, done-ready, lost-says, ids-says}
use Rattle.ec_history.proofs.OfLaws.ForPlacing.More.{owed-step}
use Rattle.ec_coherence.specs.Answers.{IsAt, IsAnswered, IsUnowed, id_of}
use Rattle.ec_base.proofs.Numbers.{same-self as same, same-self as same_number, equal}
use Rattle.ec_base.proofs.Bools.{or-right, is-true, holds-true as holds}

-- Caches.

-- an object that is held at least for reading has a token
pub held-token : (k : CacheState) (x : ℕ) → T (cache.holds x Read k) → (h : Held) × (at x k.held ≡ Some h)
held-token k x t = go (at x k.held) refl t
  where
    free : (l : Hold) → T (not (is_below (weaker Free l) Read)) → ⊥
    free Free t = t
    free Read t = t
    free Write t = t

    go : (o : Option Held) → at x k.held ≡ o → T (not (is_below (weaker (cache.held_mode o) (or_else Write (at x k.limits))) Read)) → (h : Held) × (at x k.held ≡ Some h)
    go None e t = absurd (free (or_else Write (at x k.limits)) t)
    go (Some h) e t = (h, e)

pub shows-all : (k : CacheState) (v : Images) → ((x : ℕ) (h : Held) → at x k.held ≡ Some h → h.image ≡ v x) → (fresh : Option ℕ) → ((x : ℕ) → fresh ≡ Some x → v x ≡ Gone) → Shows k fresh v
shows-all k v s fresh g = record {
  images = λ x t. let f = held-token k x t in sym (s x f.0 f.1) ∙ ap cache.held_image (sym f.1);
  unmade = λ x t. go x (at x k.held) refl (g x (is-it x fresh t));
}
  where
    is-it : (x : ℕ) (o : Option ℕ) → T (is_id x o) → o ≡ Some x
    is-it x None t = absurd t
    is-it x (Some y) t = ap Some (sym (equal x y (is-true (x == y) t)))

    go : (x : ℕ) (o : Option Held) → at x k.held ≡ o → v x ≡ Gone → v x ≡ cache.held_image (at x k.held)
    go x None e n = n ∙ ap cache.held_image (sym e)
    go x (Some h) e n = sym (s x h e) ∙ ap cache.held_image (sym e)

-- Mentions.

abbrev on : Owed → List ℕ
on qs = map (λ q. q.1) qs

-- tests that agree on what is owed
filter-alike : (p q : ℕ × ℕ → Bool) (qs : Owed) → ((z : ℕ × ℕ) → T (member z.1 (on qs)) → p z ≡ q z) → filter p qs ≡ filter q qs
filter-alike p q [] h = refl
filter-alike p q (z ∷ qs) h =
    ap (λ b. cond b (z ∷ filter p qs) (filter p qs)) (h z (subst (λ b. T (b || member z.1 (on qs))) (sym (same z.1)) tt))
    ∙ ap (λ r. cond (q z) (z ∷ r) r) (filter-alike p q qs (λ y m. h y (or-right (y.1 == z.1) (member y.1 (on qs)) m)))

once-numbers : (qs : Owed) → once (map (λ q. q.0) qs) ≡ distinct_numbers qs
once-numbers [] = refl
once-numbers (q ∷ qs) = ap (λ ns. q.0 ∷ filter (λ n. not (n == q.0)) ns) (once-numbers qs)

kept-in : (n m : ℕ) (ns : List ℕ) → (n == m) ≡ false → T (member n ns) → T (member n (filter (λ k. not (k == m)) ns))
kept-in n m [] e h = h
kept-in n m (k ∷ ns) e h = go (n == k) refl h (kept-in n m ns e)
  where
    by : (b : Bool) → T (member n (filter (λ j. not (j == m)) ns)) → T (member n (cond b (k ∷ filter (λ j. not (j == m)) ns) (filter (λ j. not (j == m)) ns)))
    by true r = or-right (n == k) (member n (filter (λ j. not (j == m)) ns)) r
    by false r = r

    go : (b : Bool) → (n == k) ≡ b → T (b || member n ns) → (T (member n ns) → T (member n (filter (λ j. not (j == m)) ns)))
        → T (member n (cond (not (k == m)) (k ∷ filter (λ j. not (j == m)) ns) (filter (λ j. not (j == m)) ns)))
    go true s h r =
        subst (λ b. T (member n (cond (not b) (k ∷ filter (λ j. not (j == m)) ns) (filter (λ j. not (j == m)) ns)))) (sym (ap (λ x. x == m) (sym (equal n k s)) ∙ e))
        (subst (λ b. T (b || member n (filter (λ j. not (j == m)) ns))) (sym s) tt)
    go false s h r = by (not (k == m)) (r h)

once-has : (n : ℕ) (ns : List ℕ) → T (member n ns) → T (member n (once ns))
once-has n [] h = h
once-has n (m ∷ ns) h = go (n == m) refl h (once-has n ns)
  where
    go : (b : Bool) → (n == m) ≡ b → T (b || member n ns) → (T (member n ns) → T (member n (once ns))) → T (b || member n (filter (λ j. not (j == m)) (once ns)))
    go true s h r = tt
    go false s h r = kept-in n m (once ns) s (r h)

abbrev reported_by : Outcome → Call → Owed → List ℕ
reported_by out cl qs = distinct_numbers (filter (meets out cl) qs)

abbrev left_by : Outcome → Call → Owed → Owed
left_by out cl qs = filter (λ q. not (meets out cl q)) qs

-- what the clerk finds due is what the rules say, where the objects that it looks at are those that the call touched, as far as something is owed on them
abbrev Looks : Owed → Outcome → List ℕ → Type 0
Looks qs out xs = (z : ℕ × ℕ) → T (member z.1 (on qs)) → member z.1 xs ≡ member z.1 out.touched

met-at : (qs : Owed) (cl : Call) (out : Outcome) (xs : List ℕ) → Looks qs out xs → (z : ℕ × ℕ) → T (member z.1 (on qs)) → member z.1 (met qs cl xs) ≡ meets out cl z
met-at qs cl out xs l z m = go (is_sync cl)
  where
    go : (b : Bool) → member z.1 (elim b as (λ y. List ℕ) [ true ↦ objects qs | false ↦ xs ]) ≡ (b || member z.1 out.touched)
    go true = is-true (member z.1 (objects qs)) (once-has z.1 (on qs) m)
    go false = l z m

due-reports : (qs : Owed) (cl : Call) (out : Outcome) (xs : List ℕ) → Looks qs out xs → due (met qs cl xs) qs ≡ reported_by out cl qs
due-reports qs cl out xs l =
    ap (λ os. once (map (λ q. q.0) os)) (filter-alike (λ q. member q.1 (met qs cl xs)) (meets out cl) qs (met-at qs cl out xs l)) ∙ once-numbers (filter (meets out cl) qs)

clear-leaves : (qs : Owed) (cl : Call) (out : Outcome) (xs : List ℕ) → Looks qs out xs → clear (met qs cl xs) qs ≡ left_by out cl qs
clear-leaves qs cl out xs l = filter-alike (λ q. not (member q.1 (met qs cl xs))) (λ q. not (meets out cl q)) qs (λ z m. ap not (met-at qs cl out xs l z m))

-- where nothing is due, all stays owed
none-leaves : (p : ℕ × ℕ → Bool) (qs : Owed) → distinct_numbers (filter p qs) ≡ [] → filter (λ q. not (p q)) qs ≡ qs
none-leaves p [] e = refl
none-leaves p (z ∷ qs) e = go (p z) e (none-leaves p qs)
  where
    some : {A : Type 0} (n : ℕ) (ns : List ℕ) → n ∷ ns ≡ [] → A
    some n ns e = absurd (apart e)
      where
        apart : n ∷ ns ≡ [] → ⊥
        apart e = cc

    go : (b : Bool) → distinct_numbers (cond b (z ∷ filter p qs) (filter p qs)) ≡ [] → (distinct_numbers (filter p qs) ≡ [] → filter (λ q. not (p q)) qs ≡ qs)
        → cond (not b) (z ∷ filter (λ q. not (p q)) qs) (filter (λ q. not (p q)) qs) ≡ z ∷ qs
    go true e r = some z.0 _ e
    go false e r = ap (λ os. z ∷ os) (r e)

-- one more object on which nothing is owed doesn't matter
member-more : (x z : ℕ) (xs : List ℕ) → (z == x) ≡ false → member z (xs ++ x ∷ []) ≡ member z xs
member-more x z xs e = list_any-append (λ p. z == p) xs (x ∷ []) ∙ ap (λ b. member z xs || (b || false)) e ∙ off (member z xs)
  where
    off : (b : Bool) → (b || false) ≡ b
    off true = refl
    off false = refl

looks-more : (qs : Owed) (out : Outcome) (xs : List ℕ) (x : ℕ) → IsUnowed qs x → out.touched ≡ xs ++ x ∷ [] → Looks qs out xs
looks-more qs out xs x u e z m = sym (member-more x z.1 xs (go (z.1 == x) refl)) ∙ ap (member z.1) (sym e)
  where
    no : (b : Bool) → T (not b) → T b → ⊥
    no true n t = n
    no false n t = t

    go : (b : Bool) → (z.1 == x) ≡ b → (z.1 == x) ≡ false
    go true q = absurd (no (member x (on qs)) u (subst (λ y. T (member y (on qs))) (equal z.1 x q) m))
    go false q = q

looks-same : (qs : Owed) (out : Outcome) (xs : List ℕ) → out.touched ≡ xs → Looks qs out xs
looks-same qs out xs e z m = ap (member z.1) (sym e)

lacks-none : (fresh : Option ℕ) (u : Option Update) → lacks_id fresh u ≡ true → fresh ≡ None
lacks-none None u e = refl
lacks-none (Some y) None e = absurd (true≢false (sym e))
lacks-none (Some y) (Some u) e = go (is_make u) e
  where
    go : (b : Bool) → (b && false) ≡ true → Some y ≡ None
    go true e = absurd (true≢false (sym e))
    go false e = absurd (true≢false (sym e))

some-length : (ns : List ℕ) → ns ≢ [] → T (nat_lt 0 (length ns))
some-length [] n = absurd (n refl)
some-length (m ∷ ms) n = holds (nat_lt 0 (length (m ∷ ms))) above
  where
    above : nat_lt 0 (length (m ∷ ms)) ≡ true
    above = grind (arith, nat_tests)

-- a call that makes an object is no sync
syncs-make-none : (v : Images) (cl : Call) (x : ℕ) → is_making (plain v cl x).update ≡ true → is_sync cl ≡ false
syncs-make-none v call.Sync x e = absurd (true≢false (sym e))
syncs-make-none v (call.Mkdir p) x e = refl
syncs-make-none v (call.Create p) x e = refl
syncs-make-none v (call.Write p at bytes) x e = refl
syncs-make-none v (call.SetLen p len) x e = refl
syncs-make-none v (call.Read p at count) x e = refl
syncs-make-none v (call.Chmod p mode) x e = refl
syncs-make-none v (call.Touch p stamp) x e = refl
syncs-make-none v (call.Stat p) x e = refl
syncs-make-none v (call.List p) x e = refl
syncs-make-none v (call.Remove p) x e = refl
syncs-make-none v (call.Rmdir p) x e = refl
syncs-make-none v (call.Rename p q) x e = refl
syncs-make-none v (call.Fsync p) x e = refl
syncs-make-none v (call.Forder ps) x e = refl
syncs-make-none v (call.Chown p owner) x e = refl

-- what isn't unread is held, but for the fresh id
read-held : (k : CacheState) (fresh : Option ℕ) (x : ℕ) → is_unread k fresh x ≡ false → x ≢ id_of fresh → T (cache.holds x Read k)
read-held k fresh x e n = elim (either (is_id x fresh) (cache.holds x Read k) e) [
  | inl t ↦ absurd (n (is-it fresh t))
  | inr t ↦ t
]
  where
    is-it : (o : Option ℕ) → T (is_id x o) → x ≡ id_of o
    is-it None t = absurd t
    is-it (Some y) t = equal x y (is-true (x == y) t)

-- Answers.

module _ (base : Base) (most : ℕ) (past : History) (c b p l begun : ℕ) (cl : Call) (k : CacheState) (qs : Owed) (fresh : Option ℕ) (here : IsAt base past c b k qs fresh) (given : base.fresh p ≡ id_of fresh) where
  abbrev now : Images
  now = after base.volume (updates (kept base past))

  abbrev out : Outcome
  out = outcome base (kept base past) p cl

  its : IsFor fresh (base.fresh p)
  its x e = given ∙ ap (or_else 0) e

  owes : (a : Answer) (op : Option ℕ) → owed base (past ++ (p, entry.Call c b l begun cl a op) ∷ []) c b ≡ left_by out cl qs
  owes a op =
      owed-step base past (p, entry.Call c b l begun cl a op) c b
      ∙ cond-true (same_start c b c b) _ (owed base past c b) (and_from (c == c) (b == b) (same_number c) (same_number b))
      ∙ ap (filter (λ q. not (meets out cl q))) here.owes

  pub done-comes : (o : Outcome) → evaluate k qs cl fresh ≡ Done o → out ≡ o
  done-comes o e = done-says k qs cl fresh o e now here.shows (base.fresh p) its

  pub done-answered : (o : Outcome) → evaluate k qs cl fresh ≡ Done o → (op : Option ℕ) → IsNext c b past op → is_some op ≡ is_some o.update
      → IsAnswered base most past c b p l begun cl (answer.Reply o.reply) op qs
  done-answered o e op n s =
      let is : out ≡ o = done-comes o e in
      let r : IsReady k qs cl fresh o = done-ready k qs cl fresh o e in
      let none : reported_by o cl qs ≡ [] = sym (due-reports qs cl o o.touched (looks-same qs o o.touched refl)) ∙ r.unowed in (
        record {
          number = n;
          report = ap (λ x. reported_by x cl (owed base past c b)) is ∙ ap (reported_by o cl) here.owes ∙ none;
          room = tt;
          reply = (sym (ap (λ x. x.reply) is), s ∙ sym (ap (λ x. is_some x.update) is));
        },
        owes (answer.Reply o.reply) op ∙ ap (λ x. left_by x cl qs) is ∙ none-leaves (meets o cl) qs none,
      )

  looks-lost : (ns xs : List ℕ) (w : IsOwed k qs cl fresh (base.fresh p) out ns xs) → Looks qs out w.touched
  looks-lost ns xs w = go (lacks_id fresh out.update) refl w.read.touched
    where
      go : (z : Bool) → lacks_id fresh out.update ≡ z → AreTouchedBy (base.fresh p) out w.touched z → Looks qs out w.touched
      go true e t = looks-more qs out w.touched (base.fresh p) (subst (IsUnowed qs) (sym (given ∙ ap id_of (lacks-none fresh out.update e))) here.no_zero) t
      go false e t = looks-same qs out w.touched t

  pub lost-answered : (ns xs : List ℕ) → evaluate k qs cl fresh ≡ Lost ns xs → IsAnswered base most past c b p l begun cl (answer.Lost ns) None (clear xs qs)
  lost-answered ns xs e =
      let w : IsOwed k qs cl fresh (base.fresh p) out ns xs = lost-says k qs cl fresh ns xs e now here.shows (base.fresh p) its in
      let looks : Looks qs out w.touched = looks-lost ns xs w in
      let whole : reported_by out cl (owed base past c b) ≡ ns = ap (reported_by out cl) here.owes ∙ sym (due-reports qs cl out w.touched looks) ∙ ap (λ ys. due ys qs) (sym w.shown) ∙ sym w.reported in (
        record {
          number = tt;
          report = (sym whole, subst (λ ms. T (nat_lt 0 (length ms))) (sym whole) (some-length ns w.some));
          room = tt;
          reply = refl;
        },
        owes (answer.Lost ns) None ∙ sym (clear-leaves qs cl out w.touched looks) ∙ ap (λ ys. clear ys qs) (sym w.shown),
      )

  pub full-answered : (xs : List ℕ) → evaluate k qs cl fresh ≡ NeedIds xs → (live reserved : ℕ) → T (nat_lt most (live + reserved + 16))
      → IsAnswered base most past c b p l begun cl (answer.NoRoom live reserved) None qs
  full-answered xs e live reserved f =
      let w : IsWithoutId k qs fresh (base.fresh p) out xs = ids-says k qs cl fresh xs e now here.shows (base.fresh p) its in
      let makes : is_making out.update ≡ true = ap is_making w.made in
      let looks : Looks qs out xs = looks-more qs out xs (base.fresh p) (subst (IsUnowed qs) (sym (given ∙ ap id_of w.none)) here.no_zero) w.touched in
      let none : reported_by out cl qs ≡ [] =
      sym (due-reports qs cl out xs looks) ∙ ap (λ z. due (elim z as (λ y. List ℕ) [ true ↦ objects qs | false ↦ xs ]) qs) (syncs-make-none now cl (base.fresh p) makes) ∙ w.unowed in (
        record {
          number = tt;
          report = ap (reported_by out cl) here.owes ∙ none;
          room = (holds (is_making out.update) makes, f);
          reply = refl;
        },
        owes (answer.NoRoom live reserved) None ∙ none-leaves (meets out cl) qs none,
      )

  -- What the call touches is held, but for the fresh id.

  in-either : (y x : ℕ) (xs : List ℕ) → T (member y (xs ++ x ∷ [])) → y ≢ x → T (member y xs)
  in-either y x xs m n = subst T (member-more x y xs (apart (y == x) refl)) m
    where
      apart : (z : Bool) → (y == x) ≡ z → (y == x) ≡ false
      apart true q = absurd (n (equal y x q))
      apart false q = q

  pub lost-read : (ns xs : List ℕ) → evaluate k qs cl fresh ≡ Lost ns xs → (y : ℕ) → T (member y out.touched) → y ≢ id_of fresh → T (cache.holds y Read k)
  lost-read ns xs e y m n = read-held k fresh y (w.read.held y (go (lacks_id fresh out.update) w.read.touched)) n
    where
      w : IsOwed k qs cl fresh (base.fresh p) out ns xs
      w = lost-says k qs cl fresh ns xs e now here.shows (base.fresh p) its

      go : (z : Bool) → AreTouchedBy (base.fresh p) out w.touched z → T (member y w.touched)
      go true t = in-either y (base.fresh p) w.touched (subst (λ os. T (member y os)) t m) (λ q. n (q ∙ given))
      go false t = subst (λ os. T (member y os)) t m

  pub ids-read : (xs : List ℕ) → evaluate k qs cl fresh ≡ NeedIds xs → (y : ℕ) → T (member y out.touched) → y ≢ id_of fresh → T (cache.holds y Read k)
  ids-read xs e y m n =
      let w : IsWithoutId k qs fresh (base.fresh p) out xs = ids-says k qs cl fresh xs e now here.shows (base.fresh p) its in
      w.read y (in-either y (base.fresh p) xs (subst (λ os. T (member y os)) w.touched m) (λ q. n (q ∙ given)))

  pub done-read : (o : Outcome) → evaluate k qs cl fresh ≡ Done o → (y : ℕ) → T (member y out.touched) → y ≢ id_of fresh → T (cache.holds y Read k)
  done-read o e y m n =
      let r : IsReady k qs cl fresh o = done-ready k qs cl fresh o e in
      read-held k fresh y (r.read y (subst (λ z. T (member y z.touched)) (done-comes o e) m)) n
