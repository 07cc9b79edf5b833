-- Calls under way behind the lines that tell a loss, and behind a crash and a start.
use Rattle.std.proofs.Common.{◌≡◌, refl, sym, ap, subst, ◌∙◌, arith, ◌≤◌, ℕ, T, Bool, true, false, not, ◌==◌, ◌&&◌, ◌||◌, cond, List, [], ◌∷◌, ◌++◌, Option, Some, None, append-nil}
use Rattle.std.specs.List.{list_any}
use Rattle.std.proofs.lemmas.Bool.{and_parts, cond-false}
use Rattle.std.proofs.lemmas.List.Folds.{list_any-append}
use Rattle.ec_base.specs.Tables.{at, or_else}
use Rattle.ec_plain.specs.declared.call.Call.{Call}
use Rattle.ec_history.specs.History.{History, Each, is_entry_of}
use Rattle.ec_history.specs.declared.entry.Entry.{Entry}
use Rattle.ec_history.specs.Placing.{Agrees, EachLine, Unanswered, before_line, is_numbered, last_place, place, unwatched, watch}
use Rattle.ec_history.specs.declared.shown.Shown.{Shown}
use Rattle.ec_history.specs.declared.shown.Shown.TheVariants as show
use Rattle.ec_history.proofs.OfLaws.ForPlacing.Late.{place-no_call}
use Rattle.ec_history.proofs.OfLaws.ForPlacing.More.{watch-step}
use Rattle.ec_log.specs.LogOrder.{is_from}
use Rattle.ec_wire.specs.declared.msg.Msg.{Msg}
use Rattle.ec_protocol.specs.Clerk.{is_ready}
use Rattle.ec_protocol.specs.declared.clerk.Clerk.{Clerk}
use Rattle.ec_protocol.specs.declared.clerk.Waiting.{Waiting}
use Rattle.ec_coherence.specs.System.{System, Ghost, at_session, base_of, with_start}
use Rattle.ec_coherence.specs.Events.{EventsAgree, shown_boot}
use Rattle.ec_coherence.specs.Steps.{call_of}
use Rattle.ec_coherence.proofs.ForBatches.ClerkIn.{start-same}
use Rattle.ec_coherence.proofs.ForServer.Tables.{at-without, same_some}
use Rattle.ec_coherence.specs.Comes.{begun_at}
use Rattle.ec_coherence.specs.StandLaws.{crashed}
use Rattle.ec_lawful.specs.OfClerkSteps.Calls.{HaveDistinctNumbers as AreApart, Began, CallsAgree, IsBefore, IsOpenCall, LosesBelow, StartCalls, before_last, has_number, is_shown, told_to}
use Rattle.ec_lawful.specs.OfClerkSteps.Waits.{AreAtRest, HasLine, IsAtRest, does_wait}
use Rattle.ec_lawful.specs.OfClerkSteps.CallLaws.{with_change}
use Rattle.ec_lawful.proofs.OfClerkSteps.ForCalls.CallFrames.{lines-append}
use Rattle.ec_lawful.proofs.OfClerkSteps.ForCalls.Issued.{loses-all}
use Rattle.ec_lawful.proofs.OfClerkSteps.ForCalls.Known.{first-line}
use Rattle.ec_lawful.proofs.OfClerkSteps.ForCalls.Quiet.{other-start, split-start}
use Rattle.ec_base.proofs.Numbers.{same-self as same, equal}
use Rattle.ec_base.proofs.Equalities.{apart-two}
use Rattle.ec_base.proofs.Options.{none_some}
use Rattle.ec_history.proofs.OfLaws.ForPlacing.BasesAlike.{each-map}
use Rattle.ec_base.proofs.Bools.{or_false}

-- What the start knows to be lost is a part of what is.
part-before : (c b : ℕ) (P : ℕ × Entry → Type 0) (h : History) → Each P h → Each P (before_last c b h)
part-before c b P [] k = tt
part-before c b P (e ∷ h) k = go (is_entry_of c b e.1 && not (list_any (λ f. is_entry_of c b f.1) h)) (part-before c b P h k.1)
  where
    go : (x : Bool) → Each P (before_last c b h) → Each P (elim x as (λ y. History) [ true ↦ [] | false ↦ e ∷ before_last c b h ])
    go true r = tt
    go false r = (k.0, r)

known-part : (c b : ℕ) (P : ℕ × Entry → Type 0) (o : Option (List ℕ)) (h : History) → Each P h → Each P (told_to c b o h)
known-part c b P None h k = k
known-part c b P (Some ns) h k = part-before c b P h k

-- all losses are below the next number
pub lost-below-next : (g : System) → EventsAgree g → (c b : ℕ) (k : Clerk) → g.running c ≡ Some b → g.clerks c b ≡ Some k → (o : Option (List ℕ)) (n : ℕ) → n ≡ k.log.next → Each (LosesBelow c (shown_boot g c b) n) (told_to c (shown_boot g c b) o g.ghost.history)
lost-below-next g events c b k run there o n e =
    known-part c (shown_boot g c b) (LosesBelow c (shown_boot g c b) n) o g.ghost.history
    (subst (λ m. Each (LosesBelow c (shown_boot g c b) m) g.ghost.history) (events.counts c b k run there ∙ sym e) (loses-all (base_of g) g.durable.max_objects c (shown_boot g c b) g.ghost.history events.legal))

-- A line that is of no call and gives no entry.
module _ (g : System) (line : Shown) (numbered : (j : ℕ) → is_numbered j line ≡ false) where
  -- a call under way began as it did
  pub began-still : (h : System) → h.ghost.shown ≡ g.ghost.shown ++ line ∷ [] → h.ghost.history ≡ g.ghost.history → ((c b : ℕ) → shown_boot h c b ≡ shown_boot g c b) → (c b : ℕ) (k now : Clerk) → now.log.next ≡ k.log.next → (w : Waiting) (j : ℕ) → Began g c b k w j → Began h c b now w j
  began-still h shown same_history boots c b k now next w j q = record {
    now = λ e. q.now (sym (shown-is j) ∙ e) ∙ sym next;
    earlier = λ e. earlier (sym (shown-is j) ∙ e);
  }
    where
      shown-is : (j : ℕ) → is_shown h j ≡ is_shown g j
      shown-is j = ap (list_any (is_numbered j)) shown ∙ list_any-append (is_numbered j) g.ghost.shown (line ∷ []) ∙ ap (λ z. is_shown g j || (z || false)) (numbered j) ∙ or_false (is_shown g j)

      earlier : is_shown g j ≡ true → Each (IsBefore c (shown_boot h c b) (begun_at h c b j) w.begun) h.ghost.history
      earlier e =
          let one : begun_at h c b j ≡ begun_at g c b j = ap (λ z. last_place c z unwatched 1 0 (before_line j h.ghost.shown)) (boots c b) ∙ ap (last_place c (shown_boot g c b) unwatched 1 0) (ap (before_line j) shown ∙ first-line j g.ghost.shown (line ∷ []) e) in
          subst (λ z. Each (IsBefore c z (begun_at h c b j) w.begun) h.ghost.history) (sym (boots c b)) (subst (λ z. Each (IsBefore c (shown_boot g c b) z w.begun) h.ghost.history) (sym one) (subst (Each (IsBefore c (shown_boot g c b) (begun_at g c b j) w.begun)) (sym same_history) (q.earlier e)))

  pub shown-still : (h : System) → h.ghost.shown ≡ g.ghost.shown ++ line ∷ [] → (j : ℕ) → is_shown h j ≡ is_shown g j
  shown-still h shown j = ap (list_any (is_numbered j)) shown ∙ list_any-append (is_numbered j) g.ghost.shown (line ∷ []) ∙ ap (λ z. is_shown g j || (z || false)) (numbered j) ∙ or_false (is_shown g j)

-- A loss is told.
module _ (g : System) (old : EventsAgree g) (c b : ℕ) (k now : Clerk) (run : g.running c ≡ Some b) (there : g.clerks c b ≡ Some k) (p : List (ℕ × Msg)) (γ : Ghost) (ns : List ℕ) (shown : γ.shown ≡ g.ghost.shown ++ show.Told c ns ∷ [])
    (new : EventsAgree (with_change g c b now g.calls p γ)) (waiting : now.waiting ≡ k.waiting) (calls : now.calls ≡ k.calls) (next : now.log.next ≡ k.log.next) (first : now.log.first ≡ now.log.next) (none : now.log.undurable ≡ []) (q : CallsAgree g) where
  abbrev h : System
  h = with_change g c b now g.calls p γ

  abbrev line : Shown
  line = show.Told c ns

  history-is : γ.history ≡ g.ghost.history
  history-is = sym new.placed ∙ ap place shown ∙ place-no_call g.ghost.shown line (λ d. refl) ∙ append-nil (place g.ghost.shown) ∙ old.placed

  its : StartCalls g c b k
  its = q.starts c b k run there

  own-start : StartCalls h c b now
  own-start = record {
    lined = subst (λ vs. Each (λ v. (j : ℕ) × (call_of c v.no g.calls ≡ Some (j, v.call)) × Began h c b now v j) vs) (sym waiting)
        (each-map (λ v. (j : ℕ) × (call_of c v.no g.calls ≡ Some (j, v.call)) × Began g c b k v j) (λ v. (j : ℕ) × (call_of c v.no g.calls ≡ Some (j, v.call)) × Began h c b now v j)
        (λ v y. (y.0, y.1, began-still g line (λ j. refl) h shown history-is (λ c b. refl) c b k now next v y.0 y.2)) k.waiting its.lined);
    apart = subst AreApart (sym waiting) its.apart;
    numbers = subst (λ n. Each (λ v. v.no ≤ n) now.waiting) (sym calls) (subst (λ vs. Each (λ v. v.no ≤ k.calls) vs) (sym waiting) its.numbers);
    own = subst (λ xs. T (is_from now.log.first xs)) (sym none) tt;
    begun = omega (arith, first);
    lost = lost-below-next h new c b now run (start-same c b now g.clerks) (watch c γ.shown).untold now.log.first first;
  }

  left-start : (f a : ℕ) (m : Clerk) → (f == c) ≡ false → StartCalls g f a m → StartCalls h f a m
  left-start f a m d s = record {
    lined = each-map (λ v. (j : ℕ) × (call_of f v.no g.calls ≡ Some (j, v.call)) × Began g f a m v j) (λ v. (j : ℕ) × (call_of f v.no g.calls ≡ Some (j, v.call)) × Began h f a m v j)
        (λ v y. (y.0, y.1, began-still g line (λ j. refl) h shown history-is (λ c b. refl) f a m m refl v y.0 y.2)) m.waiting s.lined;
    apart = s.apart;
    numbers = s.numbers;
    own = s.own;
    begun = s.begun;
    lost = subst (λ z. Each (LosesBelow f (shown_boot g f a) m.log.first) (told_to f (shown_boot g f a) z γ.history)) (sym untold) (subst (λ z. Each (LosesBelow f (shown_boot g f a) m.log.first) (told_to f (shown_boot g f a) (watch f g.ghost.shown).untold z)) (sym history-is) s.lost);
  }
    where
      untold : (watch f γ.shown).untold ≡ (watch f g.ghost.shown).untold
      untold = ap (λ z. (watch f z).untold) shown ∙ ap (λ z. z.untold) (watch-step f g.ghost.shown line ∙ cond-false (f == c) (record (watch f g.ghost.shown) { untold = None }) (watch f g.ghost.shown) d)

  one-start : (f a : ℕ) → g.running f ≡ Some a → ((f == c) && (a == b)) ≡ false → (f == c) ≡ false
  one-start f a r e = go (f == c) refl
    where
      go : (z : Bool) → (f == c) ≡ z → z ≡ false
      go false i = refl
      go true i =
          let one : a ≡ b = same_some (sym r ∙ ap g.running (equal f c i) ∙ run) in
          absurd (apart-two (sym e ∙ ap (λ z. z && (a == b)) i ∙ ap (λ z. z == b) one ∙ same b))

  open-call : (f m j : ℕ) (dl : Call) → IsOpenCall g f m j dl → IsOpenCall h f m j dl
  open-call f m j dl o = go ((f == c) && (o.boot == b)) refl
    where
      agrees : EachLine (Agrees j f dl) γ.shown
      agrees = subst (EachLine (Agrees j f dl)) (sym shown) (lines-append (Agrees j f dl) g.ghost.shown (line ∷ []) o.own (tt, tt))

      unanswered-still : EachLine (Unanswered j) γ.shown
      unanswered-still = subst (EachLine (Unanswered j)) (sym shown) (lines-append (Unanswered j) g.ghost.shown (line ∷ []) o.unanswered (tt, tt))

      go : (z : Bool) → ((f == c) && (o.boot == b)) ≡ z → IsOpenCall h f m j dl
      go false i = record { boot = o.boot; clerk = o.clerk; running = o.running; stands = other-start c b f o.boot now g.clerks i ∙ o.stands; waits = o.waits; bounded = o.bounded; own = agrees; unanswered = unanswered-still }
      go true i =
          let two = and_parts (f == c) (o.boot == b) i in
          let one : o.clerk ≡ k = same_some (sym o.stands ∙ ap (λ z. g.clerks z o.boot) (equal f c two.0) ∙ ap (g.clerks c) (equal o.boot b two.1) ∙ there) in
          record {
            boot = b;
            clerk = now;
            running = ap g.running (equal f c two.0) ∙ run;
            stands = ap (λ z. h.clerks z b) (equal f c two.0) ∙ start-same c b now g.clerks;
            waits = subst (λ vs. T (has_number m vs)) (sym waiting) (subst (λ z. T (has_number m z.waiting)) one o.waits);
            bounded = o.bounded;
            own = agrees;
            unanswered = unanswered-still;
          }

  pub told-calls : CallsAgree h
  told-calls = record {
    starts = λ f a m r s. split-start c b f a m now g.clerks (λ u v z. g.running u ≡ Some v → StartCalls h u v z) s (λ i. own-start) (λ e i j. left-start f a m (one-start f a j e) (q.starts f a m j i)) r;
    calls = λ f m j dl y. open-call f m j dl (q.calls f m j dl y);
    lines = q.lines;
  }

-- A start crashes.
module _ (g : System) (c : ℕ) where
  abbrev down : System
  down = crashed g c

  runs-before : (f a : ℕ) → down.running f ≡ Some a → (g.running f ≡ Some a) × ((f == c) ≡ false)
  runs-before f a r = go (f == c) refl r
    where
      go : (z : Bool) → (f == c) ≡ z → elim z as (λ y. Option ℕ) [ true ↦ None | false ↦ g.running f ] ≡ Some a → (g.running f ≡ Some a) × ((f == c) ≡ false)
      go true e r = absurd (none_some r)
      go false e r = (r, e)

  call-is : (f m : ℕ) → call_of f m down.calls ≡ cond (f == c) None (call_of f m g.calls)
  call-is f m = ap (λ o. at m (or_else [] o)) (at-without f c g.calls) ∙ go (f == c)
    where
      go : (z : Bool) → at m (or_else [] (cond z None (at f g.calls))) ≡ cond z None (call_of f m g.calls)
      go true = refl
      go false = refl

  still : (f m : ℕ) → (f == c) ≡ false → call_of f m down.calls ≡ call_of f m g.calls
  still f m d = call-is f m ∙ ap (λ z. cond z None (call_of f m g.calls)) d

  was-there : (f m : ℕ) (x : ℕ × Call) → call_of f m down.calls ≡ Some x → (call_of f m g.calls ≡ Some x) × ((f == c) ≡ false)
  was-there f m x y = go (f == c) refl
    where
      go : (z : Bool) → (f == c) ≡ z → (call_of f m g.calls ≡ Some x) × (z ≡ false)
      go true e = absurd (none_some (sym (call-is f m ∙ ap (λ z. cond z None (call_of f m g.calls)) e) ∙ y))
      go false e = (sym (still f m e) ∙ y, refl)

  left-one : (f a : ℕ) (m : Clerk) → (f == c) ≡ false → StartCalls g f a m → StartCalls down f a m
  left-one f a m d s = record {
    lined = each-map (λ v. (j : ℕ) × (call_of f v.no g.calls ≡ Some (j, v.call)) × Began g f a m v j) (λ v. (j : ℕ) × (call_of f v.no down.calls ≡ Some (j, v.call)) × Began down f a m v j)
        (λ v y. (y.0, still f v.no d ∙ y.1, began-still g (show.Crashed c) (λ j. refl) down refl refl (λ c b. refl) f a m m refl v y.0 y.2)) m.waiting s.lined;
    apart = s.apart;
    numbers = s.numbers;
    own = s.own;
    begun = s.begun;
    lost = subst (λ z. Each (LosesBelow f (shown_boot g f a) m.log.first) (told_to f (shown_boot g f a) z g.ghost.history)) (sym untold) s.lost;
  }
    where
      untold : (watch f down.ghost.shown).untold ≡ (watch f g.ghost.shown).untold
      untold = ap (λ z. z.untold) (watch-step f g.ghost.shown (show.Crashed c) ∙ cond-false (f == c) (record (watch f g.ghost.shown) { running = false; early = []; untold = None; crashed = true }) (watch f g.ghost.shown) d)

  pub crashed-calls : CallsAgree g → CallsAgree down
  crashed-calls q = record {
    starts = λ f a m r s. (let t = runs-before f a r in left-one f a m t.1 (q.starts f a m t.0 s));
    calls = λ f m j dl y. (let t = was-there f m (j, dl) y in open-call f m j dl t.1 (q.calls f m j dl t.0));
    lines = λ f o m i j dl el y z. q.lines f o m i j dl el (was-there f m (j, dl) y).0 (was-there o i (j, el) z).0;
  }
    where
      open-call : (f m j : ℕ) (dl : Call) → (f == c) ≡ false → IsOpenCall g f m j dl → IsOpenCall down f m j dl
      open-call f m j dl d o = record {
        boot = o.boot;
        clerk = o.clerk;
        running = ap (λ z. elim z as (λ y. Option ℕ) [ true ↦ None | false ↦ g.running f ]) d ∙ o.running;
        stands = o.stands;
        waits = o.waits;
        bounded = o.bounded;
        own = lines-append (Agrees j f dl) g.ghost.shown (show.Crashed c ∷ []) o.own (tt, tt);
        unanswered = lines-append (Unanswered j) g.ghost.shown (show.Crashed c ∷ []) o.unanswered (tt, tt);
      }

  pub crashed-rest : AreAtRest g → AreAtRest down
  crashed-rest q f a m r s =
      let t = runs-before f a r in
      record {
        calls = each-map (λ w. T (does_wait w m) × HasLine g f w) (λ w. T (does_wait w m) × HasLine down f w) (λ w y. (y.0, ((y.1).0, still f w.no t.1 ∙ (y.1).1, shown-still g (show.Crashed c) (λ j. refl) down refl (y.1).0 ∙ (y.1).2))) m.waiting (q f a m t.0 s).calls;
        recalls = (q f a m t.0 s).recalls;
      }

-- A start comes up, with no call yet.
module _ (g : System) (c b : ℕ) (k : Clerk) (bs : ℕ → ℕ) (p : List (ℕ × Msg)) where
  abbrev up : System
  up = record g { clerks = with_start c b k g.clerks; running = at_session c (Some b) g.running; boots = bs; pool = p }

  module _ (still-down : g.running c ≡ None) (events : EventsAgree up) (none : k.waiting ≡ []) (first : k.log.first ≡ k.log.next) (durable : k.log.undurable ≡ []) where
    own-runs : up.running c ≡ Some b
    own-runs = ap (λ z. elim z as (λ y. Option ℕ) [ true ↦ Some b | false ↦ g.running c ]) (same c)

    other-runs : (f : ℕ) → (f == c) ≡ false → up.running f ≡ g.running f
    other-runs f d = ap (λ z. elim z as (λ y. Option ℕ) [ true ↦ Some b | false ↦ g.running f ]) d

    other-clerk : (f a : ℕ) → (f == c) ≡ false → up.clerks f a ≡ g.clerks f a
    other-clerk f a d = other-start c b f a k g.clerks (ap (λ z. z && (a == b)) d)

    fresh-start : StartCalls up c b k
    fresh-start = record {
      lined = subst (Each (λ v. (j : ℕ) × (call_of c v.no g.calls ≡ Some (j, v.call)) × Began up c b k v j)) (sym none) tt;
      apart = subst AreApart (sym none) tt;
      numbers = subst (Each (λ v. v.no ≤ k.calls)) (sym none) tt;
      own = subst (λ xs. T (is_from k.log.first xs)) (sym durable) tt;
      begun = omega (arith, first);
      lost = lost-below-next up events c b k own-runs (start-same c b k g.clerks) (watch c g.ghost.shown).untold k.log.first first;
    }

    -- a running start is this one, or another clerk's
    by-clerk : (f a : ℕ) (m : Clerk) (P : ℕ → ℕ → Clerk → Type 0) → up.running f ≡ Some a → up.clerks f a ≡ Some m → P c b k → ((f == c) ≡ false → g.running f ≡ Some a → g.clerks f a ≡ Some m → P f a m) → P f a m
    by-clerk f a m P r s own other = go (f == c) refl
      where
        go : (z : Bool) → (f == c) ≡ z → P f a m
        go false e = other e (sym (other-runs f e) ∙ r) (sym (other-clerk f a e) ∙ s)
        go true e =
            let fc : f ≡ c = equal f c e in
            let ab : a ≡ b = same_some (sym r ∙ ap up.running fc ∙ own-runs) in
            let mk : m ≡ k = same_some (sym s ∙ ap (λ z. up.clerks z a) fc ∙ ap (up.clerks c) ab ∙ start-same c b k g.clerks) in
            subst (λ z. P z a m) (sym fc) (subst (λ z. P c z m) (sym ab) (subst (P c b) (sym mk) own))

    pub up-calls : CallsAgree g → CallsAgree up
    up-calls q = record {
      starts = λ f a m r s. by-clerk f a m (λ x y z. StartCalls up x y z) r s fresh-start (λ d i j. left-up f a m (q.starts f a m i j));
      calls = λ f m j dl y. open-up f m j dl (q.calls f m j dl y);
      lines = q.lines;
    }
      where
        left-up : (f a : ℕ) (m : Clerk) → StartCalls g f a m → StartCalls up f a m
        left-up f a m s = record {
          lined = each-map (λ v. (j : ℕ) × (call_of f v.no g.calls ≡ Some (j, v.call)) × Began g f a m v j) (λ v. (j : ℕ) × (call_of f v.no g.calls ≡ Some (j, v.call)) × Began up f a m v j) (λ v y. (y.0, y.1, record { now = (y.2).now; earlier = (y.2).earlier })) m.waiting s.lined;
          apart = s.apart;
          numbers = s.numbers;
          own = s.own;
          begun = s.begun;
          lost = s.lost;
        }

        open-up : (f m j : ℕ) (dl : Call) → IsOpenCall g f m j dl → IsOpenCall up f m j dl
        open-up f m j dl o = record { boot = o.boot; clerk = o.clerk; running = other-runs f apart ∙ o.running; stands = other-clerk f o.boot apart ∙ o.stands; waits = o.waits; bounded = o.bounded; own = o.own; unanswered = o.unanswered }
          where
            apart : (f == c) ≡ false
            apart = go (f == c) refl
              where
                go : (z : Bool) → (f == c) ≡ z → z ≡ false
                go false e = refl
                go true e = absurd (none_some (sym still-down ∙ ap g.running (sym (equal f c e)) ∙ o.running))

    pub up-rest : k.recalls ≡ [] → AreAtRest g → AreAtRest up
    up-rest recalls q f a m r s = by-clerk f a m (λ x y z. IsAtRest up x z) r s (record {
      calls = subst (Each (λ w. T (does_wait w k) × HasLine up c w)) (sym none) tt;
      recalls = subst (Each (λ r. T (not (is_ready r k)))) (sym recalls) tt;
    }) (λ d i j. record { calls = (q f a m i j).calls; recalls = (q f a m i j).recalls })
