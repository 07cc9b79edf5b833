-- Ids stay fresh in the history behind one more line.
use Rattle.std.proofs.Common.{◌≡◌, refl, sym, subst, ◌∙◌, ◌≤◌, ◌+◌, ℕ, true, false, T, List, [], ◌∷◌, ◌++◌, map, length, Option, None, Some, append_assoc}
use Rattle.std.specs.Prelude.{is_some}
use Rattle.std.specs.List.{list_any}
use Rattle.std.proofs.lemmas.Bool.{or_parts, true≢false}
use Rattle.ec_volume.specs.Update.{listed}
use Rattle.ec_plain.specs.declared.call.Call.{Call}
use Rattle.ec_history.specs.History.{Each, History, Throughout, is_entry_of, same_start}
use Rattle.ec_history.specs.Placing.{before_line, begun, last_place, place, unwatched, watch}
use Rattle.ec_history.specs.declared.entry.Answer.{Answer}
use Rattle.ec_history.specs.declared.entry.Entry.{Entry}
use Rattle.ec_history.specs.declared.entry.Entry.TheVariants as entry
use Rattle.ec_history.specs.declared.shown.Shown.{Shown}
use Rattle.ec_history.specs.declared.shown.Shown.TheVariants as show
use Rattle.ec_history.proofs.OfLaws.ForPlacing.Cuts.{throughout-append, throughout-back, throughout-front}
use Rattle.ec_history.proofs.OfLaws.ForPlacing.Held.{place-late}
use Rattle.ec_history.proofs.OfLaws.ForPlacing.Late.{place-answer}
use Rattle.ec_history.proofs.OfLaws.ForPlacing.Numbers.{each-append, each-back, each-front}
use Rattle.ec_history.proofs.OfLaws.ForPlacing.Places.{places-within}
use Rattle.ec_history.proofs.OfLaws.ForPlacing.Watching.{untold-runs}
use Rattle.ec_lawful.specs.Creates.{creates}
use Rattle.ec_lawful.specs.FreshIds.{IsFresh, MadeNone, OnCreate}

-- Where the ids at all places are the same, so is what is fresh.
module _ (f q : ℕ → ℕ) where
  abbrev pub Agree : ℕ × Entry → Type 0
  Agree e = q e.0 ≡ f e.0

  one-made : (x y : ℕ) → y ≡ x → (e : ℕ × Entry) → Agree e → OnCreate (λ p c b op. f p ≡ x → op ≡ None) e → OnCreate (λ p c b op. q p ≡ y → op ≡ None) e
  one-made x y s (p, entry.Call c b l begun cl a op) k m = λ cr e. m cr (sym k ∙ e ∙ s)
  one-made x y s (p, entry.Loss c b ns) k m = tt

  pub made-as : (x y : ℕ) → y ≡ x → (h : History) → Each Agree h → MadeNone f x h → MadeNone q y h
  made-as x y s [] k m = tt
  made-as x y s (e ∷ h) k m = (one-made x y s e k.0 m.0, made-as x y s h k.1 m.1)

  fresh-one : (past : History) (e : ℕ × Entry) → Each Agree past → Agree e → IsFresh f past e → IsFresh q past e
  fresh-one past (p, entry.Call c b l begun cl a op) k s m = λ cr. made-as (f p) (q p) s past k (m cr)
  fresh-one past (p, entry.Loss c b ns) k s m = tt

  pub fresh-as : (past h : History) → Each Agree past → Each Agree h → Throughout (IsFresh f) past h → Throughout (IsFresh q) past h
  fresh-as past [] k l t = tt
  fresh-as past (e ∷ h) k l t = (fresh-one past e k l.0 t.0, fresh-as (past ++ e ∷ []) h (each-append Agree past (e ∷ []) k (l.0, tt)) l.1 t.1)

  module _ (n : ℕ) (agree : (p : ℕ) → p ≤ n → q p ≡ f p) where
    pub agree-within : (h : History) → Each (λ p. (1 ≤ p) × (p ≤ n)) (map (λ e. e.0) h) → Each Agree h
    agree-within [] k = tt
    agree-within (e ∷ h) k = (agree e.0 k.0.1, agree-within h k.1)

-- One more entry stands in the past.
module _ (f : ℕ → ℕ) (n : ℕ × Entry) where
  -- where it made an object, it isn't with this id
  abbrev IsApart : ℕ → Type 0
  IsApart x = OnCreate (λ p c b op. f p ≡ x → op ≡ None) n

  abbrev pub Other : ℕ × Entry → Type 0
  Other e = OnCreate (λ p c b op. IsApart (f p)) e

  abbrev pub IsBeside : History → History → Type 0
  IsBeside past now = (x : ℕ) → MadeNone f x past → IsApart x → MadeNone f x now

  beside-on : (past now : History) (e : ℕ × Entry) → IsBeside past now → IsBeside (past ++ e ∷ []) (now ++ e ∷ [])
  beside-on past now e k x m o =
      each-append (OnCreate (λ p c b op. f p ≡ x → op ≡ None)) now (e ∷ []) (k x (each-front (OnCreate (λ p c b op. f p ≡ x → op ≡ None)) past (e ∷ []) m) o) (each-back (OnCreate (λ p c b op. f p ≡ x → op ≡ None)) past (e ∷ []) m)

  fresh-beside : (past now : History) (e : ℕ × Entry) → IsBeside past now → Other e → IsFresh f past e → IsFresh f now e
  fresh-beside past now (p, entry.Call c b l begun cl a op) k o m = λ cr. k (f p) (m cr) (o cr)
  fresh-beside past now (p, entry.Loss c b ns) k o m = tt

  pub goes-on : (past now h : History) → IsBeside past now → Each Other h → Throughout (IsFresh f) past h → Throughout (IsFresh f) now h
  goes-on past now [] k o t = tt
  goes-on past now (e ∷ h) k o t = (fresh-beside past now e k o.0 t.0, goes-on (past ++ e ∷ []) (now ++ e ∷ []) h (beside-on past now e k) o.1 t.1)

-- An answer is shown.
module _ (f q : ℕ → ℕ) (ss : List Shown) (l c : ℕ) (cl : Call) (a : Answer) (op : Option ℕ) where
  abbrev pub p : ℕ
  p = length ss + 1

  abbrev pub st : ℕ
  st = (begun (watch c ss)).starts

  -- its entry
  abbrev pub new : ℕ × Entry
  new = (p, entry.Call c st l (last_place c st unwatched 1 0 (before_line l ss)) cl a op)

  abbrev more : List Shown
  more = ss ++ show.Answered l c cl a op ∷ []

  -- an entry with its id is of its start
  abbrev pub IsOwn : ℕ × Entry → Type 0
  IsOwn e = OnCreate (λ r d b on. f r ≡ q p → same_start c st d b ≡ true) e

  module _ (agree : (r : ℕ) → r ≤ length ss → q r ≡ f r) (made : creates cl ≡ true → MadeNone f (q p) (place ss)) (own : creates cl ≡ true → T (is_some op) → Each IsOwn (place ss)) (was : Throughout (IsFresh f) [] (place ss)) where
    agrees : Each (Agree f q) (place ss)
    agrees = agree-within f q (length ss) agree (place ss) (places-within ss)

    before : Throughout (IsFresh q) [] (place ss)
    before = fresh-as f q [] (place ss) tt agrees was

    made-now : creates cl ≡ true → MadeNone q (q p) (place ss)
    made-now cr = made-as f q (q p) (q p) refl (place ss) agrees (made cr)

    at-end : (watch c ss).untold ≡ None → Throughout (IsFresh q) [] (place more)
    at-end u = subst (Throughout (IsFresh q) []) (sym (place-answer ss l c cl a op u)) (throughout-append (IsFresh q) [] (place ss) (new ∷ []) before ((λ cr. made-now cr), tt))

    -- Entries behind its loss are of other starts.

    other-one : (e : ℕ × Entry) → Agree f q e → (creates cl ≡ true → T (is_some op) → IsOwn e) → is_entry_of c st e.1 ≡ false → Other q new e
    other-one (r, entry.Call d b k g cd x on) s o n = λ cr crn e. go op (λ z. o crn z cr (sym s ∙ sym e)) n
      where
        go : (z : Option ℕ) → (T (is_some z) → same_start c st d b ≡ true) → same_start c st d b ≡ false → z ≡ None
        go None o n = refl
        go (Some m) o n = absurd (true≢false (sym (o tt) ∙ n))
    other-one (r, entry.Loss d b ns) s o n = tt

    others : (h : History) → Each (Agree f q) h → (creates cl ≡ true → T (is_some op) → Each IsOwn h) → list_any (λ e. is_entry_of c st e.1) h ≡ false → Each (Other q new) h
    others [] s o n = tt
    others (e ∷ h) s o n =
        let parts = or_parts (is_entry_of c st e.1) (list_any (λ y. is_entry_of c st y.1) h) n in
        (other-one e s.0 (λ cr z. (o cr z).0) parts.0, others h s.1 (λ cr z. (o cr z).1) parts.1)

    module _ (h h2 : History) (r st2 : ℕ) (ns : List ℕ) (placed : place ss ≡ h ++ (r, entry.Loss c st2 ns) ∷ h2) (alone : list_any (λ e. is_entry_of c st e.1) h2 ≡ false) where
      abbrev old : ℕ × Entry
      old = (r, entry.Loss c st2 ns)

      abbrev now : ℕ × Entry
      now = (r, entry.Loss c st2 (ns ++ listed op))

      beside : IsBeside q new (h ++ old ∷ []) ((h ++ new ∷ []) ++ now ∷ [])
      beside x m o = each-append (OnCreate (λ p c b op. q p ≡ x → op ≡ None)) (h ++ new ∷ []) (now ∷ []) (each-append (OnCreate (λ p c b op. q p ≡ x → op ≡ None)) h (new ∷ []) (each-front (OnCreate (λ p c b op. q p ≡ x → op ≡ None)) h (old ∷ []) m) (o, tt)) (tt, tt)

      split : Throughout (IsFresh q) [] (h ++ old ∷ h2)
      split = subst (Throughout (IsFresh q) []) placed before

      pub inserted : Throughout (IsFresh q) [] (h ++ new ∷ now ∷ h2)
      inserted = throughout-append (IsFresh q) [] h (new ∷ now ∷ h2) (throughout-front (IsFresh q) [] h (old ∷ h2) split) (
        (λ cr. each-front (OnCreate (λ p c b op. q p ≡ q (length ss + 1) → op ≡ None)) h (old ∷ h2) (subst (MadeNone q (q (length ss + 1))) placed (made-now cr))),
        (
          tt,
          goes-on q new (h ++ old ∷ []) ((h ++ new ∷ []) ++ now ∷ []) h2 beside
              (others h2 (each-back (Agree f q) (h ++ old ∷ []) h2 (subst (Each (Agree f q)) path agrees)) (λ cr z. each-back IsOwn (h ++ old ∷ []) h2 (subst (Each IsOwn) path (own cr z))) alone)
              (throughout-back (IsFresh q) [] h (old ∷ h2) split).1,
        ),
      )
        where
          path : place ss ≡ (h ++ old ∷ []) ++ h2
          path = placed ∙ sym (append_assoc h (old ∷ []) h2)

    late : (ns : List ℕ) → (watch c ss).untold ≡ Some ns → Throughout (IsFresh q) [] (place more)
    late ns u =
        let x = place-late ss c ns u in
        subst (Throughout (IsFresh q) []) (sym (x.5 l cl a op ∙ append_assoc x.0 (new ∷ []) ((x.1, entry.Loss c (watch c ss).starts (ns ++ listed op)) ∷ x.2)))
        (inserted x.0 x.2 x.1 (watch c ss).starts ns x.3 (subst (λ w. list_any (λ e. is_entry_of c w.starts e.1) x.2 ≡ false) (sym (untold-runs c ss ns u).2) x.4))

    pub answer-fresh : Throughout (IsFresh q) [] (place more)
    answer-fresh = go (watch c ss).untold refl
      where
        go : (o : Option (List ℕ)) → (watch c ss).untold ≡ o → Throughout (IsFresh q) [] (place more)
        go None u = at-end u
        go (Some ns) u = late ns u

-- What is so of each entry of a call is so behind an answer, if it's so of its entry.
module _ (f q : ℕ → ℕ) (ss : List Shown) (l c : ℕ) (cl : Call) (a : Answer) (op : Option ℕ) (P : ℕ → ℕ → ℕ → Option ℕ → Type 0) (was : Each (OnCreate P) (place ss)) (its : OnCreate P (new f q ss l c cl a op)) where
  abbrev more-lines : List Shown
  more-lines = ss ++ show.Answered l c cl a op ∷ []

  pub answer-each : Each (OnCreate P) (place more-lines)
  answer-each = go (watch c ss).untold refl
    where
      go : (o : Option (List ℕ)) → (watch c ss).untold ≡ o → Each (OnCreate P) (place more-lines)
      go None u = subst (Each (OnCreate P)) (sym (place-answer ss l c cl a op u)) (each-append (OnCreate P) (place ss) (new f q ss l c cl a op ∷ []) was (its, tt))
      go (Some ns) u =
          let x = place-late ss c ns u in
          let parts = subst (Each (OnCreate P)) x.3 was in
          subst (Each (OnCreate P)) (sym (x.5 l cl a op)) (each-append (OnCreate P) (x.0 ++ new f q ss l c cl a op ∷ []) ((x.1, entry.Loss c (watch c ss).starts (ns ++ listed op)) ∷ x.2)
          (each-append (OnCreate P) x.0 (new f q ss l c cl a op ∷ []) (each-front (OnCreate P) x.0 ((x.1, entry.Loss c (watch c ss).starts ns) ∷ x.2) parts) (its, tt))
          (tt, (each-back (OnCreate P) x.0 ((x.1, entry.Loss c (watch c ss).starts ns) ∷ x.2) parts).1))

-- what is so of the id at each place is so where they are the same
pub each-agree : (f q : ℕ → ℕ) (P : ℕ → ℕ → ℕ → Option ℕ → Type 0) (h : History) → Each (Agree f q) h → Each (OnCreate (λ p c b op. P (f p) c b op)) h → Each (OnCreate (λ p c b op. P (q p) c b op)) h
each-agree f q P [] k e = tt
each-agree f q P (n ∷ h) k e = (one n k.0 e.0, each-agree f q P h k.1 e.1)
  where
    one : (n : ℕ × Entry) → Agree f q n → OnCreate (λ p c b op. P (f p) c b op) n → OnCreate (λ p c b op. P (q p) c b op) n
    one (p, entry.Call c b l begun cl a op) s v = λ cr. subst (λ y. P y c b op) (sym s) (v cr)
    one (p, entry.Loss c b ns) s v = tt
