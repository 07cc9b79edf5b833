-- Steps of the world, and how a line settles.
use Rattle.std.proofs.Common.{◌≡◌, ◌⊎◌, ◌-◌, ◌<◌, ◌≤◌, ℕ, zero, suc, Bool, true, false, cond, List, [], ◌∷◌, ◌++◌, Option, Some, None, Result, Ok, Err, refl, sym, ap, subst, ◌∙◌, append_assoc, append-nil, arith, inl, ◌+◌}
use Rattle.std.specs.Prelude.{OnErr, OnOk}
use Rattle.ec_disk.specs.Disk.{View, Counts}
use Rattle.ec_durable.specs.declared.state.Durable.{Durable}
use Rattle.ec_history.specs.declared.shown.Shown.{Shown}
use Rattle.ec_history.specs.declared.shown.Shown.TheVariants.{Unsettled}
use Rattle.ec_protocol.specs.World.{Fate, runs, stops_without, stops_with, Moving, moving, fails, happen, deliver, due, show_line}
use Rattle.ec_protocol.specs.Drill.{Fates, this_fate, later_fates, onward, line_happens, settle, carry_out}
use Rattle.ec_protocol.specs.declared.script.Line.{Line}
use Rattle.ec_protocol.specs.declared.world.World.{World}
use Rattle.ec_protocol.specs.declared.world.Event.{Event}
use Rattle.ec_protocol.specs.declared.world.WorldFault.{WorldFault}
use Rattle.ec_protocol.specs.declared.world.WorldFault.TheVariants as fault
use Rattle.ec_stands.specs.Stands.{StandsFor}
use Rattle.ec_world.specs.StepEnds.{IsTold, IsLeft, as_before, as_behind, armed_by}
use Rattle.ec_drill.specs.Arms.{ArmBy, SettleArms, LineArms, armed_at}
use Rattle.ec_drill.specs.Left.{EachLeft}
use Rattle.ec_drill.specs.Fates.{AllRun, IsKnown}
use Rattle.ec_drill.specs.Lines.{IsNothing}
use Rattle.ec_base.specs.Outside.{Rose}
use Rattle.ec_drill.specs.Steps.{Fares, IsSeen, going, ComesTo, StaysBut, IsLater, AreOfLine, IsSettling, IsCarrying, before_line, behind_some}
use Rattle.ec_drill.proofs.Follows.{on_ok, if_ok, arms_go, arms_rest}
use Rattle.ec_drill.proofs.Known.{known_first, known_later, told_if_known, one_fate, fate_before}
use Rattle.ec_base.proofs.Numbers.{plus_none}

-- what comes to the same
pub comes_by : {X : Type 0} (r : Result X WorldFault) (m n : Moving) (w : World) (p : List Shown) → m ≡ n → ComesTo r n w p → ComesTo r m w p
comes_by (Ok x) m n w p e c = e ∙ c
comes_by (Err g) m n w p e c = λ seen. e ∙ c seen

-- settling

pub settle_goes : (k : ℕ) (fs : Fates) (f : Fate) (n : ℕ) (w v : World) (p q : List Shown) → due w ≡ Some n → onward (going w p) (deliver f n w) ≡ going v q → settle (suc k) (f ∷ fs) (going w p) ≡ settle k fs (going v q)
settle_goes k fs f n w v p q d e =
    ap (λ (x : Option ℕ). elim x [ None ↦ going w p | Some n ↦ let r = onward (going w p) (deliver f n w) in elim r.fault [ Some g ↦ r | None ↦ settle k fs r ] ]) d
    ∙ ap (λ (r : Moving). elim r.fault [ Some g ↦ r | None ↦ settle k fs r ]) e

pub settle_fails : (k : ℕ) (fs : Fates) (f : Fate) (n : ℕ) (w v : World) (p q : List Shown) (g : WorldFault) → due w ≡ Some n → onward (going w p) (deliver f n w) ≡ record (going v q) { fault = Some g } → settle (suc k) (f ∷ fs) (going w p) ≡ record (going v q) { fault = Some g }
settle_fails k fs f n w v p q g d e =
    ap (λ (x : Option ℕ). elim x [ None ↦ going w p | Some n ↦ let r = onward (going w p) (deliver f n w) in elim r.fault [ Some g ↦ r | None ↦ settle k fs r ] ]) d
    ∙ ap (λ (r : Moving). elim r.fault [ Some g ↦ r | None ↦ settle k fs r ]) e

pub settle_rests : (k : ℕ) (fs : Fates) (w : World) (p : List Shown) → due w ≡ None → settle k fs (going w p) ≡ going w p
settle_rests zero fs w p d = ap (λ (x : Option ℕ). elim x [ None ↦ going w p | Some n ↦ show_line Unsettled (going w p) ]) d
settle_rests (suc k) fs w p d = ap (λ (x : Option ℕ). elim x [ None ↦ going w p | Some n ↦ let r = onward (going w p) (deliver (this_fate fs) n w) in elim r.fault [ Some g ↦ r | None ↦ settle k (later_fates fs) r ] ]) d

pub settle_stops : (fs : Fates) (n : ℕ) (w : World) (p : List Shown) → due w ≡ Some n → settle 0 fs (going w p) ≡ show_line Unsettled (going w p)
settle_stops fs n w p d = ap (λ (x : Option ℕ). elim x [ None ↦ going w p | Some n ↦ show_line Unsettled (going w p) ]) d

-- no more is delivered: the disk is as it was
settle_none : (fs : Fates) (w : World) (p : List Shown) → (settle 0 fs (going w p)).world.durable ≡ w.durable
settle_none fs w p = go (due w)
  where
    go : (x : Option ℕ) → (elim x as (λ z. Moving) [ None ↦ going w p | Some n ↦ show_line Unsettled (going w p) ]).world.durable ≡ w.durable
    go None = refl
    go (Some n) = refl

-- how far a line has settled: so many messages were delivered
pub record Settling (tells : Type 0) (a b bound left : ℕ) (armed here : Option ℕ) (start w : World) (before p : List Shown) : Type 0 where
  pub count : ℕ
  pub counted : count + left ≡ bound
  pub fates : Fates
  pub are : AllRun fates ⊎ Rose a b
  pub run : IsKnown tells a b → (i : ℕ) (more : Fates) → settle (count + i) (fates ++ more) (going start before) ≡ settle i more (going w p)
  pub arms : IsKnown tells a b → (i : ℕ) (more : Fates) (end : Option ℕ) → SettleArms i more (going w p) here end → SettleArms (count + i) (fates ++ more) (going start before) armed end

pub settling : (tells : Type 0) (a b bound : ℕ) (armed : Option ℕ) (w : World) (p : List Shown) → Settling tells a b bound bound armed armed w w p p
settling tells a b bound armed w p = record {
  count = 0;
  counted = no_more bound;
  fates = [];
  are = inl tt;
  run = λ known i more. ap (λ (k : ℕ). settle k more (going w p)) (no_more i);
  arms = λ known i more end h. subst (λ (k : ℕ). SettleArms k more (going w p) armed end) (sym (no_more i)) h;
}
  where
    no_more : (n : ℕ) → 0 + n ≡ n
    no_more n = omega arith

-- with all messages that are left
to_bound : (tells : Type 0) (a b bound left : ℕ) (armed here : Option ℕ) (start w : World) (before p : List Shown) (s : Settling tells a b bound left armed here start w before p) → IsKnown tells a b → (more : Fates) → settle bound (s.fates ++ more) (going start before) ≡ settle left more (going w p)
to_bound tells a b bound left armed here start w before p s known more = ap (λ k. settle k (s.fates ++ more) (going start before)) (sym s.counted) ∙ s.run known left more

-- nor is any more delivered
arms_bound : (tells : Type 0) (a b bound left : ℕ) (armed here : Option ℕ) (start w : World) (before p : List Shown) (s : Settling tells a b bound left armed here start w before p) → IsKnown tells a b → SettleArms left [] (going w p) here here → SettleArms bound s.fates (going start before) armed here
arms_bound tells a b bound left armed here start w before p s known rest =
    subst (λ (fs : Fates). SettleArms bound fs (going start before) armed here) (append-nil s.fates)
    (subst (λ (k : ℕ). SettleArms k (s.fates ++ []) (going start before) armed here) s.counted (s.arms known left [] here rest))

-- what stands for the state so far
pub settled_so : (tells : Type 0) (a b bound left : ℕ) (armed here : Option ℕ) (start w : World) (before p : List Shown) (s : Settling tells a b bound left armed here start w before p) (more : Fates) (image : List ℕ) → tells → StandsFor image w.durable → IsSettling bound (s.fates ++ more) (going start before) image
settled_so tells a b bound left armed here start w before p s more image told h = record {
  count = s.count;
  most = within s.count left bound s.counted;
  stands = subst (λ (x : Durable). StandsFor image x)
      (sym (ap (λ (k : ℕ). (settle k (s.fates ++ more) (going start before)).world.durable) (plus_none s.count) ∙ ap (λ (m : Moving). m.world.durable) (s.run (inl told) 0 more) ∙ settle_none more w p)) h;
}
  where
    within : (count left bound : ℕ) → count + left ≡ bound → count ≤ bound
    within count left bound is = omega (arith, is)

less : (left : ℕ) → 0 < left → left ≡ suc (left - 1)
less left lt = omega (arith, lt)

module _ (tells : Type 0) (a : ℕ) (old new : Counts) (bound left : ℕ) (armed here : Option ℕ) (start w v : World) (before p q : List Shown) (n : ℕ) (f : Fate) (s : Settling tells a old.stops bound left armed here start w before p) (from : a ≤ old.stops) (later : old.stops ≤ new.stops) (some : 0 < left) (d : due w ≡ Some n) (fate : Fares f old new) where
  one_more : (i : ℕ) → (s.count + 1) + i ≡ s.count + suc i
  one_more i = omega arith

  begun : IsKnown tells a new.stops → (i : ℕ) (more : Fates) → settle ((s.count + 1) + i) ((s.fates ++ f ∷ []) ++ more) (going start before) ≡ settle (suc i) (f ∷ more) (going w p)
  begun known i more =
      ap (λ fs. settle ((s.count + 1) + i) fs (going start before)) (append_assoc s.fates (f ∷ []) more)
      ∙ ap (λ k. settle k (s.fates ++ f ∷ more) (going start before)) (one_more i)
      ∙ s.run (known_first tells a old.stops new.stops later known) (suc i) (f ∷ more)

  told : IsKnown tells a new.stops → IsTold f tells
  told known = told_if_known tells f old new fate (known_later tells a old.stops new.stops from known)

  one_counted : (s.count + 1) + (left - 1) ≡ bound
  one_counted = omega (arith, some, s.counted)

  -- one message is delivered
  pub settles_on : (next : Option ℕ) → (IsTold f tells → onward (going w p) (deliver f n w) ≡ going v q) → (IsTold f tells → ArmBy f w v here next) → Settling tells a new.stops bound (left - 1) armed next start v before q
  settles_on next comes by = record {
    count = s.count + 1;
    counted = one_counted;
    fates = s.fates ++ f ∷ [];
    are = one_fate s.fates f a old new from later s.are fate;
    run = λ known i more. begun known i more ∙ settle_goes i more f n w v p q d (comes (told known));
    arms = λ known i more end rest.
        subst (λ (fs : Fates). SettleArms ((s.count + 1) + i) fs (going start before) armed end) (sym (append_assoc s.fates (f ∷ []) more))
        (subst (λ (k : ℕ). SettleArms k (s.fates ++ f ∷ more) (going start before) armed end) (sym (one_more i))
        (s.arms (known_first tells a old.stops new.stops later known) (suc i) (f ∷ more) end (arms_go i more f n w v p q here next end d (comes (told known)) (by (told known)) rest)));
  }

  -- what is left where one isn't
  left_at : (image : List ℕ) → tells → IsLeft w.durable (deliver f n w) image → IsSettling bound (s.fates ++ f ∷ []) (going start before) image
  left_at image told_it (as_before h) = settled_so tells a old.stops bound left armed here start w before p s (f ∷ []) image told_it h
  left_at image told_it (as_behind none h) = record {
    count = s.count + 1;
    most = within s.count left bound some s.counted;
    stands = subst (λ (x : Durable). StandsFor image x) (sym by) h;
  }
    where
      within : (count left bound : ℕ) → 0 < left → count + left ≡ bound → count + 1 ≤ bound
      within count left bound lt is = omega (arith, lt, is)

      m : Moving
      m = deliver f n w

      goes : onward (going w p) m ≡ going m.world (p ++ m.shown)
      goes = ap (λ (o : Option WorldFault). elim o as (λ z. Moving) [ Some g ↦ record (going w p) { fault = Some g } | None ↦ record { world = m.world; shown = p ++ m.shown; fault = None } ]) none

      by : (settle (s.count + 1) (s.fates ++ f ∷ []) (going start before)).world.durable ≡ m.world.durable
      by =
          ap (λ (k : ℕ). (settle k (s.fates ++ f ∷ []) (going start before)).world.durable) (plus_none (s.count + 1))
          ∙ ap (λ (fs : Fates). (settle ((s.count + 1) + 0) fs (going start before)).world.durable) (sym (append-nil (s.fates ++ f ∷ [])))
          ∙ ap (λ (x : Moving). x.world.durable) (begun (inl told_it) 0 [] ∙ settle_goes 0 [] f n w m.world p (p ++ m.shown) d goes)
          ∙ settle_none [] m.world (p ++ m.shown)

  -- one isn't
  pub settles_not : (now : View) (g : WorldFault) → (IsTold f tells → IsSeen g → onward (going w p) (deliver f n w) ≡ record (going v q) { fault = Some g }) → (tells → EachLeft now (IsLeft w.durable (deliver f n w)))
      → (fates : Fates) × (AllRun fates ⊎ Rose a new.stops) × (IsKnown tells a new.stops → IsSeen g → settle bound fates (going start before) ≡ record (going v q) { fault = Some g }) × (tells → EachLeft now (IsSettling bound fates (going start before))) × Unit {0}
  settles_not now g comes leaves = (
    s.fates ++ f ∷ [],
    one_fate s.fates f a old new from later s.are fate,
    λ known seen.
        ap (λ fs. settle bound fs (going start before)) (sym (append-nil (s.fates ++ f ∷ [])))
        ∙ ap (λ k. settle k ((s.fates ++ f ∷ []) ++ []) (going start before)) (sym one_counted)
        ∙ begun known (left - 1) [] ∙ settle_fails (left - 1) [] f n w v p q g d (comes (told known) seen),
    λ told_it image may. left_at image told_it (leaves told_it image may),
    tt,
  )

-- nothing more is due
pub settled : (tells : Type 0) (a b bound left : ℕ) (armed here : Option ℕ) (start w : World) (before p : List Shown) → Settling tells a b bound left armed here start w before p → due w ≡ None
    → (fates : Fates) × (AllRun fates ⊎ Rose a b) × (IsKnown tells a b → settle bound fates (going start before) ≡ going w p) × Unit {0} × (IsKnown tells a b → SettleArms bound fates (going start before) armed here)
settled tells a b bound left armed here start w before p s d = (
  s.fates,
  s.are,
  λ known. ap (λ fs. settle bound fs (going start before)) (sym (append-nil s.fates)) ∙ to_bound tells a b bound left armed here start w before p s known [] ∙ settle_rests left [] w p d,
  tt,
  λ known. arms_bound tells a b bound left armed here start w before p s known (arms_rest left w p here d),
)

pub on_err : {X : Type 0} (r : Result X WorldFault) (P : Type 0) → P → OnErr r P
on_err (Ok x) P h = tt
on_err (Err f) P h = h

-- no more is delivered, and the line comes to this
pub rested : {X : Type 0} (r : Result X WorldFault) (tells : Type 0) (now : View) (a b bound left : ℕ) (armed here : Option ℕ) (start w v : World) (before p q : List Shown) → Settling tells a b bound left armed here start w before p → left ≤ 0 → ComesTo r (settle 0 [] (going w p)) v q
    → (tells → EachLeft now (λ image. StandsFor image w.durable))
    → (fates : Fates) × (AllRun fates ⊎ Rose a b) × (IsKnown tells a b → ComesTo r (settle bound fates (going start before)) v q) × OnErr r (tells → EachLeft now (IsSettling bound fates (going start before)))
    × OnOk r (IsKnown tells a b → SettleArms bound fates (going start before) armed here)
rested r tells now a b bound left armed here start w v before p q s none comes stands = (
  s.fates,
  s.are,
  λ known.
      comes_by r (settle bound s.fates (going start before)) (settle 0 [] (going w p)) v q
      (ap (λ fs. settle bound fs (going start before)) (sym (append-nil s.fates)) ∙ to_bound tells a b bound left armed here start w before p s known [] ∙ ap (λ k. settle k [] (going w p)) (zero_is left none))
      comes,
  on_err r (tells → EachLeft now (IsSettling bound s.fates (going start before)))
      (λ told image may. subst (λ (fs : Fates). IsSettling bound fs (going start before) image) (append-nil s.fates) (settled_so tells a b bound left armed here start w before p s [] image told (stands told image may))),
  if_ok r (λ known. arms_bound tells a b bound left armed here start w before p s known (subst (λ (k : ℕ). SettleArms k [] (going w p) here here) (sym (zero_is left none)) refl)),
)
  where
    zero_is : (left : ℕ) → left ≤ 0 → left ≡ 0
    zero_is left le = omega (arith, le)

-- a line was added to a piece
pub pushed : (b : Bool) (p q : List Shown) (s : Shown) → q ≡ cond b (p ++ s ∷ []) p → b ≡ true → q ≡ p ++ s ∷ []
pushed true p q s is e = is
pushed false p q s is e = absurd (not_true e)
  where
    not_true : false ≡ true → ⊥
    not_true e = cc

-- something is due, and no more is delivered
pub unsettled : (n : ℕ) (w v : World) (p q : List Shown) (s : Shown) → due w ≡ Some n → v ≡ (show_line Unsettled (moving w)).world → s ≡ Unsettled → q ≡ p ++ s ∷ [] → settle 0 [] (going w p) ≡ going v q
unsettled n w v p q s d is line shown =
    settle_stops [] n w p d ∙ ap (λ (u : World). going u (p ++ Unsettled ∷ [])) (sym is)
    ∙ ap (λ x. going v (p ++ x ∷ [])) (sym line) ∙ ap (λ l. going v l) (sym shown)

-- what holds anyhow holds behind any result
pub stays : {X : Type 0} (r : Result X WorldFault) (P : Type 0) → P → StaysBut r P
stays (Ok x) P h = h
stays (Err f) P h = λ seen. h

pub later_same : (a : Counts) → IsLater a a ⊥
later_same a = record { faults = omega arith; stops = omega arith; failed = λ f. absurd f }

pub later_still : (a b : Counts) (P Q : Type 0) → IsLater a b P → (Q → ⊥) → IsLater a b Q
later_still a b P Q h never = record { faults = h.faults; stops = h.stops; failed = λ q. absurd (never q) }

pub later_two : (a b c : Counts) (P Q : Type 0) → IsLater a b P → IsLater b c Q → IsLater a c ⊥
later_two a b c P Q h k = record { faults = two a.faults b.faults c.faults h.faults k.faults; stops = two a.stops b.stops c.stops h.stops k.stops; failed = λ f. absurd f }
  where
    two : (i j k : ℕ) → i ≤ j → j ≤ k → i ≤ k
    two i j k le later = omega (arith, le, later)

-- A line: its event, and then it settles.

line_goes : (k number : ℕ) (fs : Fates) (f : Fate) (l : Line) (w v : World) (p : List Shown) → onward (going w []) (line_happens f number l w) ≡ going v p → carry_out k (f ∷ fs) number l w ≡ settle k fs (going v p)
line_goes k number fs f l w v p e = ap (λ (m : Moving). elim m.fault [ Some g ↦ m | None ↦ settle k fs m ]) e

line_fails : (k number : ℕ) (fs : Fates) (f : Fate) (l : Line) (w v : World) (p : List Shown) (g : WorldFault) → onward (going w []) (line_happens f number l w) ≡ record (going v p) { fault = Some g } → carry_out k (f ∷ fs) number l w ≡ record (going v p) { fault = Some g }
line_fails k number fs f l w v p g e = ap (λ (m : Moving). elim m.fault [ Some g ↦ m | None ↦ settle k fs m ]) e

-- what is left where a line doesn't settle
settling_in : (k number : ℕ) (fs : Fates) (f : Fate) (l : Line) (w v : World) (p : List Shown) (image : List ℕ) → onward (going w []) (line_happens f number l w) ≡ going v p → IsSettling k fs (going v p) image → IsCarrying k (f ∷ fs) number l w image
settling_in k number fs f l w v p image e h = behind_some h.count h.most (subst (λ (x : Durable). StandsFor image x) (sym (ap (λ (m : Moving). m.world.durable) (line_goes h.count number fs f l w v p e))) h.stands)

-- or where its event isn't taken
left_in : (k number : ℕ) (f : Fate) (l : Line) (w : World) (image : List ℕ) → IsLeft w.durable (line_happens f number l w) image → IsCarrying k (f ∷ []) number l w image
left_in k number f l w image (as_before h) = before_line h
left_in k number f l w image (as_behind none h) = behind_some 0 (omega arith) (subst (λ (x : Durable). StandsFor image x) (sym by) h)
  where
    m : Moving
    m = line_happens f number l w

    goes : onward (going w []) m ≡ going m.world m.shown
    goes = ap (λ (o : Option WorldFault). elim o as (λ z. Moving) [ Some g ↦ record (going w []) { fault = Some g } | None ↦ record { world = m.world; shown = m.shown; fault = None } ]) none

    by : (carry_out 0 (f ∷ []) number l w).world.durable ≡ m.world.durable
    by = ap (λ (x : Moving). x.world.durable) (line_goes 0 number [] f l w m.world m.shown goes) ∙ settle_none [] m.world m.shown

errs : {X : Type 0} (r : Result X WorldFault) (P Q : Type 0) → OnErr r P → (P → Q) → OnErr r Q
errs (Ok x) P Q h to = tt
errs (Err f) P Q h to = to h

pub line_settles : {X : Type 0} (tells : Type 0) (now : View) (old mid new : Counts) (k number : ℕ) (l : Line) (w v u : World) (p q : List Shown) (r : Result X WorldFault) (f : Fate) (fs : Fates)
    → old.stops ≤ mid.stops → mid.stops ≤ new.stops → Fares f old mid → (IsTold f tells → onward (going w []) (line_happens f number l w) ≡ going v p)
    → AreOfLine fs mid new → (IsKnown tells mid.stops new.stops → ComesTo r (settle k fs (going v p)) u q) → OnErr r (tells → EachLeft now (IsSettling k fs (going v p)))
    → (IsTold f tells → ArmBy f w v (armed_at l old.armed) mid.armed) → OnOk r (IsKnown tells mid.stops new.stops → SettleArms k fs (going v p) mid.armed new.armed)
    → (fates : Fates) × AreOfLine fates old new × (IsKnown tells old.stops new.stops → ComesTo r (carry_out k fates number l w) u q) × OnErr r (tells → EachLeft now (IsCarrying k fates number l w))
    × OnOk r (IsKnown tells old.stops new.stops → LineArms k fates number l w old.armed new.armed)
line_settles tells now old mid new k number l w v u p q r f fs le later fate began are settles leaves by arms = (
  f ∷ fs,
  fate_before f fs old mid new le later fate are,
  λ known.
      comes_by r _ _ u q (line_goes k number fs f l w v p (began (told_if_known tells f old mid fate (known_first tells old.stops mid.stops new.stops later known))))
      (settles (known_later tells old.stops mid.stops new.stops le known)),
  errs r _ _ leaves (λ h told image may. settling_in k number fs f l w v p image (began (told_if_known tells f old mid fate (inl told))) (h told image may)),
  on_ok r arms
      (λ rest known.
      let told = told_if_known tells f old mid fate (known_first tells old.stops mid.stops new.stops later known) in
      let is = began told in (
        mid.armed,
        subst (λ (m : Moving). ArmBy f w m.world (armed_at l old.armed) mid.armed) (sym is) (by told),
        subst (λ (m : Moving). SettleArms k fs m mid.armed new.armed) (sym is) (rest (known_later tells old.stops mid.stops new.stops le known)),
      )),
)

pub line_stops : (tells : Type 0) (now : View) (old new : Counts) (k number : ℕ) (l : Line) (w v : World) (p : List Shown) (g : WorldFault) (f : Fate)
    → old.stops ≤ new.stops → Fares f old new → (IsTold f tells → IsSeen g → onward (going w []) (line_happens f number l w) ≡ record (going v p) { fault = Some g }) → (tells → EachLeft now (IsLeft w.durable (line_happens f number l w)))
    → (fates : Fates) × AreOfLine fates old new × (IsKnown tells old.stops new.stops → IsSeen g → carry_out k fates number l w ≡ record (going v p) { fault = Some g }) × (tells → EachLeft now (IsCarrying k fates number l w)) × Unit {0}
line_stops tells now old new k number l w v p g f later fate began leaves = (
  f ∷ [],
  one_fate [] f old.stops old new (omega arith) later (inl tt) fate,
  λ known seen. line_fails k number [] f l w v p g (began (told_if_known tells f old new fate known) seen),
  λ told image may. left_in k number f l w image (leaves told image may),
  tt,
)

-- a step whose lines weren't all taken is one that was taken
pub step_left : (now : View) (d : Durable) (m : Moving) (v : World) (shown : List Shown) → m ≡ going v shown → EachLeft now (λ image. StandsFor image v.durable) → EachLeft now (IsLeft d m)
step_left now d m v shown is h image may =
    as_behind (ap (λ (x : Moving). x.fault) is) (subst (λ (x : Durable). StandsFor image x) (sym (ap (λ (x : Moving). x.world.durable) is)) (h image may))

pub told_by : (f : Fate) (tells : Type 0) → tells → IsTold f tells
told_by runs tells told = tt
told_by stops_without tells told = told
told_by stops_with tells told = told

-- a line's event, as a step of the world took it
pub begun_by : {X : Type 0} (r : Result X WorldFault) (tells : Type 0) (now : View) (old new : Counts) (number : ℕ) (l : Line) (event : Event) (w v : World) (q p : List Shown) → q ≡ [] → ((fate : Fate) → line_happens fate number l w ≡ happen fate event w)
    → armed_by event old.armed ≡ armed_at l old.armed
    → (fate : Fate) × Fares fate old new × (IsTold fate tells → ComesTo r (onward (going w q) (happen fate event w)) v p) × OnErr r (tells → EachLeft now (IsLeft w.durable (happen fate event w))) × OnOk r (IsTold fate tells → ArmBy fate w v (armed_by event old.armed) new.armed)
    → (fate : Fate) × Fares fate old new × (IsTold fate tells → ComesTo r (onward (going w []) (line_happens fate number l w)) v p) × OnErr r (tells → EachLeft now (IsLeft w.durable (line_happens fate number l w))) × OnOk r (IsTold fate tells → ArmBy fate w v (armed_at l old.armed) new.armed)
begun_by r tells now old new number l event w v q p none same here s = (
  s.0,
  s.1,
  λ told. comes_by r (onward (going w []) (line_happens s.0 number l w)) (onward (going w q) (happen s.0 event w)) v p (ap (onward (going w [])) (same s.0) ∙ ap (λ (x : List Shown). onward (going w x) (happen s.0 event w)) (sym none)) (s.2 told),
  errs r _ _ s.3 (λ h told image may. subst (λ (m : Moving). IsLeft w.durable m image) (sym (same s.0)) (h told image may)),
  on_ok r s.4 (λ by told. subst (λ (a : Option ℕ). ArmBy s.0 w v a new.armed) here (by told)),
)

-- a line that asks for nothing that there is
pub begun_not : (f : WorldFault) (tells : Type 0) (now : View) (old new : Counts) (number : ℕ) (l : Line) (w : World) (q : List Shown) → q ≡ [] → IsNothing f → ((fate : Fate) → line_happens fate number l w ≡ fails fault.NoSuchMsg w) → (tells → EachLeft now (λ image. StandsFor image w.durable))
    → (fate : Fate) × Fares fate old new × (IsTold fate tells → IsSeen f → onward (going w []) (line_happens fate number l w) ≡ record (going w q) { fault = Some f }) × (tells → EachLeft now (IsLeft w.durable (line_happens fate number l w))) × Unit {0}
begun_not f tells now old new number l w q none is same stands = (
  runs,
  tt,
  λ told seen.
      ap (onward (going w [])) (same runs) ∙ ap (λ (g : WorldFault). record (going w []) { fault = Some g }) (sym is)
      ∙ ap (λ (x : List Shown). record (going w x) { fault = Some f }) (sym none),
  λ told image may. as_before (stands told image may),
  tt,
)
