-- Calls under way behind an answer.
use Rattle.std.proofs.Common.{◌≡◌, refl, sym, ap, subst, ◌∙◌, inl, inr, ◌⊎◌, arith, ◌≤◌, ◌+◌, ℕ, T, Bool, true, false, ◌==◌, ◌&&◌, ◌||◌, cond, List, [], ◌∷◌, ◌++◌, length, Option, Some, None}
use Rattle.std.specs.Bool.{OnTrue}
use Rattle.std.specs.List.{list_any}
use Rattle.std.proofs.lemmas.Bool.{and_parts, or_parts}
use Rattle.std.proofs.lemmas.List.Folds.{list_any-append}
use Rattle.ec_base.specs.Tables.{at, at_or, or_else, without}
use Rattle.ec_plain.specs.declared.call.Call.{Call}
use Rattle.ec_history.specs.declared.entry.Answer.{Answer}
use Rattle.ec_history.specs.History.{Each}
use Rattle.ec_history.specs.Placing.{Agrees, EachLine, Unanswered, before_line, begun, is_numbered, last_place, place, unwatched, watch}
use Rattle.ec_history.specs.declared.shown.Shown.{Shown}
use Rattle.ec_history.specs.declared.shown.Shown.TheVariants as show
use Rattle.ec_log.specs.LogOrder.{is_from}
use Rattle.ec_wire.specs.declared.msg.Msg.{Msg}
use Rattle.ec_protocol.specs.declared.clerk.Clerk.{Clerk}
use Rattle.ec_protocol.specs.declared.clerk.Waiting.{Waiting}
use Rattle.ec_coherence.specs.System.{System, Ghost}
use Rattle.ec_coherence.specs.Events.{EventsAgree, shown_boot}
use Rattle.ec_coherence.specs.ChangeLaws.{Calls}
use Rattle.ec_coherence.specs.Steps.{call_of, less_call}
use Rattle.ec_coherence.proofs.ForBatches.ClerkIn.{start-same}
use Rattle.ec_coherence.proofs.ForServer.Tables.{at-put, at-without, same_some}
use Rattle.ec_coherence.specs.Comes.{begun_at}
use Rattle.ec_lawful.specs.OfClerkSteps.Calls.{HaveDistinctNumbers, Began, CallsAgree, IsBefore, IsOpenCall, LosesBelow, StartCalls, has_number, is_shown, told_to}
use Rattle.ec_lawful.specs.OfClerkSteps.Waits.{HasLine}
use Rattle.ec_lawful.specs.OfClerkSteps.CallLaws.{with_change}
use Rattle.ec_lawful.proofs.OfClerkSteps.ForCalls.CallFrames.{lines-append}
use Rattle.ec_lawful.proofs.OfClerkSteps.ForCalls.Known.{Knows, first-line}
use Rattle.ec_lawful.proofs.OfClerkSteps.ForCalls.Leave.{answer-entries, answer-knows, answer-knows-other, begun-within, new_entry}
use Rattle.ec_lawful.proofs.OfClerkSteps.ForCalls.Quiet.{other-start, split-start}
use Rattle.ec_base.proofs.Numbers.{same-self as same, flip, equal}
use Rattle.ec_base.proofs.Equalities.{apart-two}
use Rattle.ec_base.proofs.Options.{none_some}
use Rattle.ec_history.proofs.OfLaws.ForPlacing.BasesAlike.{each-map}

-- without one call
pub call-less : (c n f m : ℕ) (calls : Calls) → call_of f m (less_call c n calls) ≡ cond ((f == c) && (m == n)) None (call_of f m calls)
call-less c n f m calls = ap (λ o. at m (or_else [] o)) (at-put f c (without n (at_or [] c calls)) calls) ∙ go (f == c) refl
  where
    go : (y : Bool) → (f == c) ≡ y → at m (or_else [] (cond y (Some (without n (at_or [] c calls))) (at f calls))) ≡ cond (y && (m == n)) None (call_of f m calls)
    go true e = at-without m n (at_or [] c calls) ∙ ap (λ z. cond (m == n) None (call_of z m calls)) (sym (equal f c e))
    go false e = refl

-- Lists without one member.

each-both : {A : Type 0} (P Q : A → Type 0) (xs : List A) → Each P xs → Each Q xs → Each (λ x. P x × Q x) xs
each-both P Q [] h k = tt
each-both P Q (x ∷ xs) h k = ((h.0, k.0), each-both P Q xs h.1 k.1)

each-mid : {A : Type 0} (P : A → Type 0) (xs : List A) (y : A) (ys : List A) → Each P (xs ++ y ∷ ys) → Each P (xs ++ ys)
each-mid P [] y ys h = h.1
each-mid P (x ∷ xs) y ys h = (h.0, each-mid P xs y ys h.1)

each-at : {A : Type 0} (P : A → Type 0) (xs : List A) (y : A) (ys : List A) → Each P (xs ++ y ∷ ys) → P y
each-at P [] y ys h = h.0
each-at P (x ∷ xs) y ys h = each-at P xs y ys h.1

apart-mid : (xs : List Waiting) (w : Waiting) (ys : List Waiting) → HaveDistinctNumbers (xs ++ w ∷ ys) → Each (λ v. (v.no == w.no) ≡ false) (xs ++ ys) × HaveDistinctNumbers (xs ++ ys)
apart-mid [] w ys a = a
apart-mid (x ∷ xs) w ys a =
    let r = apart-mid xs w ys a.1 in
    ((flip w.no x.no (each-at (λ v. (v.no == x.no) ≡ false) xs w ys a.0), r.0), (each-mid (λ v. (v.no == x.no) ≡ false) xs w ys a.0, r.1))

number-left : (m n : ℕ) (xs : List Waiting) (w : Waiting) (ys : List Waiting) → (w.no == m) ≡ false → T (has_number m (xs ++ w ∷ ys)) → T (has_number m (xs ++ ys))
number-left m n [] w ys d t = subst (λ z. T (z || has_number m ys)) d t
number-left m n (x ∷ xs) w ys d t = go (x.no == m) t (number-left m n xs w ys d)
  where
    go : (z : Bool) → T (z || has_number m (xs ++ w ∷ ys)) → (T (has_number m (xs ++ w ∷ ys)) → T (has_number m (xs ++ ys))) → T (z || has_number m (xs ++ ys))
    go true t f = tt
    go false t f = f t

module _ (g : System) (old : EventsAgree g) (c b : ℕ) (k now : Clerk) (run : g.running c ≡ Some b) (there : g.clerks c b ≡ Some k) (before after : List Waiting) (w : Waiting) (l : ℕ) (is : k.waiting ≡ before ++ w ∷ after) (x : call_of c w.no g.calls ≡ Some (l, w.call))
    (p : List (ℕ × Msg)) (γ : Ghost) (a : Answer) (op : Option ℕ) (shown : γ.shown ≡ g.ghost.shown ++ show.Answered l c w.call a op ∷ []) (new : EventsAgree (with_change g c b now (less_call c w.no g.calls) p γ))
    (left : now.waiting ≡ before ++ after) (calls-same : now.calls ≡ k.calls) (first-same : now.log.first ≡ k.log.first) (next-same : op ≡ None → now.log.next ≡ k.log.next) (own : T (is_from now.log.first now.log.undurable))
    (within : now.log.first ≤ now.log.next) (turn : (op ≡ None) ⊎ Each (HasLine g c) (before ++ after)) (q : CallsAgree g) where
  abbrev h : System
  h = with_change g c b now (less_call c w.no g.calls) p γ

  abbrev ss : List Shown
  ss = g.ghost.shown

  abbrev line : Shown
  line = show.Answered l c w.call a op

  its : StartCalls g c b k
  its = q.starts c b k run there

  history-is : γ.history ≡ place (ss ++ line ∷ [])
  history-is = sym new.placed ∙ ap place shown

  shown-is : (j : ℕ) → is_shown h j ≡ (is_shown g j || ((l == j) || false))
  shown-is j = ap (list_any (is_numbered j)) shown ∙ list_any-append (is_numbered j) ss (line ∷ [])

  still-shown : (j : ℕ) → is_shown g j ≡ true → is_shown h j ≡ true
  still-shown j e = shown-is j ∙ ap (λ z. z || ((l == j) || false)) e

  was-shown : (j : ℕ) → (l == j) ≡ false → is_shown h j ≡ true → is_shown g j ≡ true
  was-shown j d e = or_false (is_shown g j) (sym (shown-is j ∙ ap (λ z. is_shown g j || (z || false)) d) ∙ e)
    where
      or_false : (z : Bool) → (z || false) ≡ true → z ≡ true
      or_false true e = refl
      or_false false e = e

  unshown-before : (j : ℕ) → is_shown h j ≡ false → is_shown g j ≡ false
  unshown-before j e = (or_parts (is_shown g j) ((l == j) || false) (sym (shown-is j) ∙ e)).0

  -- another call began as it did
  began : (f a' : ℕ) (kk kn : Clerk) (v : Waiting) (j : ℕ) → (l == j) ≡ false → (is_shown g j ≡ false → kn.log.next ≡ kk.log.next) → Began g f a' kk v j → Began h f a' kn v j
  began f a' kk kn v j d next s = record {
    now = λ e. let u = unshown-before j e in s.now u ∙ sym (next u);
    earlier = λ e. earlier (was-shown j d e);
  }
    where
      far : (n m place : ℕ) → place ≤ length ss → length ss + 1 ≤ place → m ≤ n
      far n m place i r = absurd (omega (arith, i, r))

      fresh : (o : Option ℕ) → IsBefore f (shown_boot g f a') (begun_at g f a' j) v.begun (new_entry ss l c w.call a o)
      fresh None = tt
      fresh (Some m) = λ t r. far v.begun m (begun_at g f a' j) (begun-within f (shown_boot g f a') j ss) r

      earlier : is_shown g j ≡ true → Each (IsBefore f (shown_boot g f a') (begun_at h f a' j) v.begun) γ.history
      earlier e =
          let one : begun_at h f a' j ≡ begun_at g f a' j = ap (last_place f (shown_boot g f a') unwatched 1 0) (ap (before_line j) shown ∙ first-line j ss (line ∷ []) e) in
          subst (λ m. Each (IsBefore f (shown_boot g f a') m v.begun) γ.history) (sym one)
          (subst (Each (IsBefore f (shown_boot g f a') (begun_at g f a' j) v.begun)) (sym history-is)
          (answer-entries ss l c w.call a op (IsBefore f (shown_boot g f a') (begun_at g f a' j) v.begun) (fresh op) (λ p b ns. tt)
          (subst (Each (IsBefore f (shown_boot g f a') (begun_at g f a' j) v.begun)) (sym old.placed) (s.earlier e))))

  -- another call has another line
  other-line : (f m j : ℕ) (dl : Call) → call_of f m g.calls ≡ Some (j, dl) → ((f == c) && (m == w.no)) ≡ false → (l == j) ≡ false
  other-line f m j dl y d = go (l == j) refl
    where
      go : (z : Bool) → (l == j) ≡ z → z ≡ false
      go false e = refl
      go true e =
          let t = q.lines f c m w.no l dl w.call (y ∙ ap (λ i. Some (i, dl)) (sym (equal l j e))) x in
          absurd (apart-two (sym d ∙ ap (λ i. (i == c) && (m == w.no)) t.0 ∙ ap (λ i. (c == c) && (i == w.no)) t.1 ∙ ap (λ i. i && (w.no == w.no)) (same c) ∙ same w.no))

  still-call : (f m : ℕ) → ((f == c) && (m == w.no)) ≡ false → call_of f m h.calls ≡ call_of f m g.calls
  still-call f m d = call-less c w.no f m g.calls ∙ ap (λ z. cond z None (call_of f m g.calls)) d

  mid : Each (λ v. (v.no == w.no) ≡ false) (before ++ after) × HaveDistinctNumbers (before ++ after)
  mid = apart-mid before w after (subst HaveDistinctNumbers is its.apart)

  not-it : (v : Waiting) → (v.no == w.no) ≡ false → ((c == c) && (v.no == w.no)) ≡ false
  not-it v d = ap (λ z. (c == c) && z) d ∙ and_false (c == c)
    where
      and_false : (z : Bool) → (z && false) ≡ false
      and_false true = refl
      and_false false = refl

  -- the clerk's other calls
  abbrev Lined : Waiting → Type 0
  Lined v = (j : ℕ) × (call_of c v.no g.calls ≡ Some (j, v.call)) × Began g c b k v j

  lined-one : (v : Waiting) → (v.no == w.no) ≡ false → ((op ≡ None) ⊎ HasLine g c v) → Lined v → (j : ℕ) × (call_of c v.no h.calls ≡ Some (j, v.call)) × Began h c b now v j
  lined-one v d t y = (y.0, still-call c v.no (not-it v d) ∙ y.1, began c b k now v y.0 (other-line c v.no y.0 v.call y.1 (not-it v d)) (by t) y.2)
    where
      by : (op ≡ None) ⊎ HasLine g c v → is_shown g y.0 ≡ false → now.log.next ≡ k.log.next
      by (inl e) u = next-same e
      by (inr r) u = absurd (apart-two (sym u ∙ ap (λ z. is_shown g z) (ap (λ z. z.0) (same_some (sym y.1 ∙ r.1))) ∙ r.2))

  lined-all : (vs : List Waiting) → Each (λ v. (v.no == w.no) ≡ false) vs → ((op ≡ None) ⊎ Each (HasLine g c) vs) → Each Lined vs → Each (λ v. (j : ℕ) × (call_of c v.no h.calls ≡ Some (j, v.call)) × Began h c b now v j) vs
  lined-all [] d t y = tt
  lined-all (v ∷ vs) d (inl e) y = (lined-one v d.0 (inl e) y.0, lined-all vs d.1 (inl e) y.1)
  lined-all (v ∷ vs) d (inr r) y = (lined-one v d.0 (inr r.0) y.0, lined-all vs d.1 (inr r.1) y.1)

  lost-now : (f a' n : ℕ) → ((begun (watch f ss)).starts ≡ shown_boot g f a' → Knows f (shown_boot g f a') n ss → Knows f (shown_boot g f a') n (ss ++ line ∷ [])) → g.running f ≡ Some a'
      → Each (LosesBelow f (shown_boot g f a') n) (told_to f (shown_boot g f a') (watch f ss).untold g.ghost.history) → Each (LosesBelow f (shown_boot g f a') n) (told_to f (shown_boot g f a') (watch f γ.shown).untold γ.history)
  lost-now f a' n move r s =
      subst (λ z. Each (LosesBelow f (shown_boot g f a') n) (told_to f (shown_boot g f a') (watch f z).untold γ.history)) (sym shown)
      (subst (λ z. Each (LosesBelow f (shown_boot g f a') n) (told_to f (shown_boot g f a') (watch f (ss ++ line ∷ [])).untold z)) (sym history-is)
      (move (old.starts f a' r) (subst (λ z. Each (LosesBelow f (shown_boot g f a') n) (told_to f (shown_boot g f a') (watch f ss).untold z)) (sym old.placed) s)))

  own-start : StartCalls h c b now
  own-start = record {
    lined = subst (λ vs. Each (λ v. (j : ℕ) × (call_of c v.no h.calls ≡ Some (j, v.call)) × Began h c b now v j) vs) (sym left) (lined-all (before ++ after) mid.0 turn (each-mid Lined before w after (subst (Each Lined) is its.lined)));
    apart = subst HaveDistinctNumbers (sym left) mid.1;
    numbers = subst (λ n. Each (λ v. v.no ≤ n) now.waiting) (sym calls-same) (subst (λ vs. Each (λ v. v.no ≤ k.calls) vs) (sym left) (each-mid (λ v. v.no ≤ k.calls) before w after (subst (Each (λ v. v.no ≤ k.calls)) is its.numbers)));
    own = own;
    begun = within;
    lost = subst (λ n. Each (LosesBelow c (shown_boot g c b) n) (told_to c (shown_boot g c b) (watch c γ.shown).untold γ.history)) (sym first-same) (lost-now c b k.log.first (λ s. answer-knows ss l c w.call a op (shown_boot g c b) k.log.first s) run its.lost);
  }

  -- another start
  one-start : (f a' : ℕ) → g.running f ≡ Some a' → ((f == c) && (a' == b)) ≡ false → (f == c) ≡ false
  one-start f a' r e = go (f == c) refl
    where
      go : (z : Bool) → (f == c) ≡ z → z ≡ false
      go false i = refl
      go true i =
          let one : a' ≡ b = same_some (sym r ∙ ap g.running (equal f c i) ∙ run) in
          absurd (apart-two (sym e ∙ ap (λ z. z && (a' == b)) i ∙ ap (λ z. z == b) one ∙ same b))

  left-start : (f a' : ℕ) (m : Clerk) → g.running f ≡ Some a' → (f == c) ≡ false → StartCalls g f a' m → StartCalls h f a' m
  left-start f a' m r d s = record {
    lined = each-map (λ v. (j : ℕ) × (call_of f v.no g.calls ≡ Some (j, v.call)) × Began g f a' m v j) (λ v. (j : ℕ) × (call_of f v.no h.calls ≡ Some (j, v.call)) × Began h f a' m v j)
        (λ v y. (y.0, still-call f v.no (ap (λ z. z && (v.no == w.no)) d) ∙ y.1, began f a' m m v y.0 (other-line f v.no y.0 v.call y.1 (ap (λ z. z && (v.no == w.no)) d)) (λ u. refl) y.2)) m.waiting s.lined;
    apart = s.apart;
    numbers = s.numbers;
    own = s.own;
    begun = s.begun;
    lost = lost-now f a' m.log.first (λ i. answer-knows-other ss l c w.call a op f (shown_boot g f a') m.log.first d) r s.lost;
  }

  any-start : (f a' : ℕ) (m : Clerk) → g.running f ≡ Some a' → h.clerks f a' ≡ Some m → StartCalls h f a' m
  any-start f a' m r s = split-start c b f a' m now g.clerks (λ u v z. g.running u ≡ Some v → StartCalls h u v z) s (λ i. own-start) (λ e i j. left-start f a' m j (one-start f a' j e) (q.starts f a' m j i)) r

  open-call : (f m j : ℕ) (dl : Call) → ((f == c) && (m == w.no)) ≡ false → (l == j) ≡ false → IsOpenCall g f m j dl → IsOpenCall h f m j dl
  open-call f m j dl d e o = go ((f == c) && (o.boot == b)) refl
    where
      own-lines : EachLine (Agrees j f dl) γ.shown
      own-lines = subst (EachLine (Agrees j f dl)) (sym shown) (lines-append (Agrees j f dl) ss (line ∷ []) o.own (subst (λ z. OnTrue z ((c ≡ f) × (w.call ≡ dl))) (sym e) tt, tt))

      open-lines : EachLine (Unanswered j) γ.shown
      open-lines = subst (EachLine (Unanswered j)) (sym shown) (lines-append (Unanswered j) ss (line ∷ []) o.unanswered (e, tt))

      go : (z : Bool) → ((f == c) && (o.boot == b)) ≡ z → IsOpenCall h f m j dl
      go false i = record { boot = o.boot; clerk = o.clerk; running = o.running; stands = other-start c b f o.boot now g.clerks i ∙ o.stands; waits = o.waits; bounded = o.bounded; own = own-lines; unanswered = open-lines }
      go true i =
          let two = and_parts (f == c) (o.boot == b) i in
          let one : o.clerk ≡ k = same_some (sym o.stands ∙ ap (λ z. g.clerks z o.boot) (equal f c two.0) ∙ ap (g.clerks c) (equal o.boot b two.1) ∙ there) in
          let number : (w.no == m) ≡ false = flip m w.no (sym (ap (λ z. z && (m == w.no)) two.0) ∙ d) in
          record {
            boot = b;
            clerk = now;
            running = ap g.running (equal f c two.0) ∙ run;
            stands = ap (λ z. h.clerks z b) (equal f c two.0) ∙ start-same c b now g.clerks;
            waits = subst (λ vs. T (has_number m vs)) (sym left) (number-left m m before w after number (subst (λ vs. T (has_number m vs)) is (subst (λ z. T (has_number m z.waiting)) one o.waits)));
            bounded = o.bounded;
            own = own-lines;
            unanswered = open-lines;
          }

  was-call : (f m j : ℕ) (dl : Call) → call_of f m h.calls ≡ Some (j, dl) → (((f == c) && (m == w.no)) ≡ false) × (call_of f m g.calls ≡ Some (j, dl))
  was-call f m j dl y = go ((f == c) && (m == w.no)) refl
    where
      go : (z : Bool) → ((f == c) && (m == w.no)) ≡ z → (z ≡ false) × (call_of f m g.calls ≡ Some (j, dl))
      go false e = (refl, sym (still-call f m e) ∙ y)
      go true e = absurd (none_some (sym (call-less c w.no f m g.calls ∙ ap (λ z. cond z None (call_of f m g.calls)) e) ∙ y))

  calls-now : (f m j : ℕ) (dl : Call) → call_of f m h.calls ≡ Some (j, dl) → IsOpenCall h f m j dl
  calls-now f m j dl y = let u = was-call f m j dl y in open-call f m j dl u.0 (other-line f m j dl u.1 u.0) (q.calls f m j dl u.1)

  pub left-calls : CallsAgree h
  left-calls = record {
    starts = any-start;
    calls = calls-now;
    lines = λ f o m i j dl el y z. q.lines f o m i j dl el (was-call f m j dl y).1 (was-call o i j el z).1;
  }

  pub left-lines : Each (HasLine g c) (before ++ after) → Each (HasLine h c) (before ++ after)
  left-lines r = go (before ++ after) mid.0 r
    where
      go : (vs : List Waiting) → Each (λ v. (v.no == w.no) ≡ false) vs → Each (HasLine g c) vs → Each (HasLine h c) vs
      go [] d r = tt
      go (v ∷ vs) d r = (((r.0).0, still-call c v.no (not-it v d.0) ∙ (r.0).1, still-shown (r.0).0 (r.0).2), go vs d.1 r.1)
