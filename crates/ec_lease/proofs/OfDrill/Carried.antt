-- Steps of a world with leases, and how a line settles.
use Rattle.std.proofs.Common.{◌≡◌, ◌-◌, ◌<◌, ◌≤◌, ◌+◌, ℕ, zero, suc, List, [], ◌∷◌, ◌++◌, Option, Some, None, refl, sym, ap, ◌∙◌, append_assoc, append-nil, arith, inl}
use Rattle.ec_history.specs.declared.shown.Shown.TheVariants.{Unsettled}
use Rattle.ec_protocol.specs.World.{Fate, show_line}
use Rattle.ec_protocol.specs.World as world
use Rattle.ec_protocol.specs.Drill.{Fates, later_fates, this_fate}
use Rattle.ec_protocol.specs.declared.world.Event.TheVariants.{Deliver}
use Rattle.ec_lease_machine.specs.Drill.{carry_out, delivered, due_now, line_happens, renewed, settle}
use Rattle.ec_lease_machine.specs.Leases.{LeaseMoving, in_world, onward, step}
use Rattle.ec_lease_machine.specs.declared.script.LeaseLine.{LeaseLine}
use Rattle.ec_lease_machine.specs.declared.world.LeaseEvent.TheVariants as event
use Rattle.ec_lease_machine.specs.declared.world.LeaseFault.{LeaseFault}
use Rattle.ec_lease_machine.specs.declared.world.LeaseShown.{LeaseShown}
use Rattle.ec_lease_machine.specs.declared.world.LeaseShown.TheVariants.{Line}
use Rattle.ec_lease_machine.specs.declared.world.LeaseWorld.{LeaseWorld}
use Rattle.ec_lease.specs.OfDrill.Drill.{IsClear}
use Rattle.ec_lease.specs.OfDrill.Steps.{AreRun, RanUnless, come}
use Rattle.ec_lease.proofs.OfDrill.Known.{clear_first, clear_later, ran_behind}

-- a step behind others
pub added : (x y : LeaseWorld) (p q lines : List LeaseShown) (m : LeaseMoving) (o : Option LeaseFault) → m ≡ come o y lines → q ≡ p ++ lines → onward (come None x p) m ≡ come o y q
added x y p q lines m o is shown = ap (onward (come None x p)) is ∙ ap (come o y) (sym shown)

-- A message is delivered, and Leases are renewed behind it.

pub delivered_not : (f : Fate) (n : ℕ) (x y : LeaseWorld) (p q lines : List LeaseShown) (g : LeaseFault) → step f (event.World (Deliver n)) x ≡ come (Some g) y lines → q ≡ p ++ lines → delivered f n (come None x p) ≡ come (Some g) y q
delivered_not f n x y p q lines g is shown = ap renewed (added x y p q lines (step f (event.World (Deliver n)) x) (Some g) is shown)

pub delivered_on : (f : Fate) (n : ℕ) (x y z : LeaseWorld) (p q r lines : List LeaseShown) (o : Option LeaseFault) → step f (event.World (Deliver n)) x ≡ come None y lines → q ≡ p ++ lines → renewed (come None y q) ≡ come o z r → delivered f n (come None x p) ≡ come o z r
delivered_on f n x y z p q r lines o is shown more = ap renewed (added x y p q lines (step f (event.World (Deliver n)) x) None is shown) ∙ more

-- Settling.

pub settle_ended : (k : ℕ) (fs : Fates) (x : LeaseWorld) (p : List LeaseShown) (g : LeaseFault) → settle k fs (come (Some g) x p) ≡ come (Some g) x p
settle_ended zero fs x p g = refl
settle_ended (suc k) fs x p g = refl

settle_on : (k : ℕ) (fs : Fates) (f : Fate) (n : ℕ) (x : LeaseWorld) (p : List LeaseShown) (m : LeaseMoving) → due_now x ≡ Some n → delivered f n (come None x p) ≡ m → settle (suc k) (f ∷ fs) (come None x p) ≡ settle k fs m
settle_on k fs f n x p m d e = ap (λ (z : Option ℕ). elim z [ None ↦ come None x p | Some n ↦ settle k fs (delivered f n (come None x p)) ]) d ∙ ap (settle k fs) e

settle_rests : (k : ℕ) (fs : Fates) (x : LeaseWorld) (p : List LeaseShown) → due_now x ≡ None → settle k fs (come None x p) ≡ come None x p
settle_rests zero fs x p d = ap (λ (z : Option ℕ). elim z [ None ↦ come None x p | Some n ↦ come None (in_world (show_line Unsettled (world.moving x.world)).world x) (p ++ Line Unsettled ∷ []) ]) d
settle_rests (suc k) fs x p d = ap (λ (z : Option ℕ). elim z [ None ↦ come None x p | Some n ↦ settle k (later_fates fs) (delivered (this_fate fs) n (come None x p)) ]) d

-- something is due, and no more is delivered
pub unsettles : (n : ℕ) (x y : LeaseWorld) (p q : List LeaseShown) (s : LeaseShown) → due_now x ≡ Some n → y ≡ in_world (show_line Unsettled (world.moving x.world)).world x → s ≡ Line Unsettled → q ≡ p ++ s ∷ [] → settle 0 [] (come None x p) ≡ come None y q
unsettles n x y p q s d is line shown =
    ap (λ (z : Option ℕ). elim z [ None ↦ come None x p | Some n ↦ come None (in_world (show_line Unsettled (world.moving x.world)).world x) (p ++ Line Unsettled ∷ []) ]) d
    ∙ ap (λ (u : LeaseWorld). come None u (p ++ Line Unsettled ∷ [])) (sym is)
    ∙ ap (λ z. come None y (p ++ z ∷ [])) (sym line) ∙ ap (come None y) (sym shown)

-- nothing is
pub rests : (x : LeaseWorld) (p : List LeaseShown) → due_now x ≡ None → settle 0 [] (come None x p) ≡ come None x p
rests x p d = settle_rests 0 [] x p d

-- how far a line has settled: so many messages were delivered
pub record Settling (tells : Type 0) (a b bound left : ℕ) (start x : LeaseWorld) (before p : List LeaseShown) : Type 0 where
  pub count : ℕ
  pub counted : count + left ≡ bound
  pub fates : Fates
  pub are : AreRun fates a b
  pub run : IsClear tells a b → (i : ℕ) (more : Fates) → settle (count + i) (fates ++ more) (come None start before) ≡ settle i more (come None x p)

pub settling : (tells : Type 0) (a bound : ℕ) (x : LeaseWorld) (p : List LeaseShown) → Settling tells a a bound bound x x p p
settling tells a bound x p = record {
  count = 0;
  counted = from_none bound;
  fates = [];
  are = inl tt;
  run = λ clear i more. ap (λ (k : ℕ). settle k more (come None x p)) (from_none i);
}
  where
    from_none : (n : ℕ) → 0 + n ≡ n
    from_none n = omega arith

module _ (tells : Type 0) (a b bound left : ℕ) (start x : LeaseWorld) (before p : List LeaseShown) (s : Settling tells a b bound left start x before p) where
  -- with all messages that are left
  to_bound : IsClear tells a b → (more : Fates) → settle bound (s.fates ++ more) (come None start before) ≡ settle left more (come None x p)
  to_bound clear more = ap (λ k. settle k (s.fates ++ more) (come None start before)) (sym s.counted) ∙ s.run clear left more

  at_end : IsClear tells a b → settle bound s.fates (come None start before) ≡ settle left [] (come None x p)
  at_end clear = ap (λ fs. settle bound fs (come None start before)) (sym (append-nil s.fates)) ∙ to_bound clear []

  -- nothing more is due
  pub settled : due_now x ≡ None → (fates : Fates) × AreRun fates a b × (Unit {0} → IsClear tells a b → settle bound fates (come None start before) ≡ come None x p)
  settled d = (s.fates, s.are, λ u clear. at_end clear ∙ settle_rests left [] x p d)

  -- no more is delivered
  pub rested : (G : Type 0) (m : LeaseMoving) → left ≤ 0 → (G → settle 0 [] (come None x p) ≡ m) → (fates : Fates) × AreRun fates a b × (G → IsClear tells a b → settle bound fates (come None start before) ≡ m)
  rested G m none by = (s.fates, s.are, λ goes clear. at_end clear ∙ ap (λ k. settle k [] (come None x p)) (zero_is left none) ∙ by goes)
    where
      zero_is : (left : ℕ) → left ≤ 0 → left ≡ 0
      zero_is left le = omega (arith, le)

  module _ (c n : ℕ) (f : Fate) (y : LeaseWorld) (q : List LeaseShown) (from : a ≤ b) (later : b ≤ c) (some : 0 < left) (d : due_now x ≡ Some n) (ran : RanUnless f b c) where
    one_more : (k i : ℕ) → (k + 1) + i ≡ k + suc i
    one_more k i = omega arith

    begun : IsClear tells a c → (i : ℕ) (more : Fates) → settle ((s.count + 1) + i) ((s.fates ++ f ∷ []) ++ more) (come None start before) ≡ settle (suc i) (f ∷ more) (come None x p)
    begun clear i more =
        ap (λ fs. settle ((s.count + 1) + i) fs (come None start before)) (append_assoc s.fates (f ∷ []) more)
        ∙ ap (λ k. settle k (s.fates ++ f ∷ more) (come None start before)) (one_more s.count i)
        ∙ s.run (clear_first tells a b c later clear) (suc i) (f ∷ more)

    one_counted : (s.count + 1) + (left - 1) ≡ bound
    one_counted = omega (arith, some, s.counted)

    inside : IsClear tells a c → IsClear tells b c
    inside clear = clear_later tells a b c from clear

    -- one message is delivered
    pub settles_on : (IsClear tells b c → delivered f n (come None x p) ≡ come None y q) → Settling tells a c bound (left - 1) start y before q
    settles_on by = record {
      count = s.count + 1;
      counted = one_counted;
      fates = s.fates ++ f ∷ [];
      are = ran_behind s.fates f a b c from later s.are ran;
      run = λ clear i more. begun clear i more ∙ settle_on i more f n x p (come None y q) d (by (inside clear));
    }

    -- one isn't
    pub settles_not : (G : Type 0) (g : LeaseFault) → (G → IsClear tells b c → delivered f n (come None x p) ≡ come (Some g) y q) → (fates : Fates) × AreRun fates a c × (G → IsClear tells a c → settle bound fates (come None start before) ≡ come (Some g) y q)
    settles_not G g by = (
      s.fates ++ f ∷ [],
      ran_behind s.fates f a b c from later s.are ran,
      λ goes clear.
          ap (λ fs. settle bound fs (come None start before)) (sym (append-nil (s.fates ++ f ∷ [])))
          ∙ ap (λ k. settle k ((s.fates ++ f ∷ []) ++ []) (come None start before)) (sym one_counted)
          ∙ begun clear (left - 1) [] ∙ settle_on (left - 1) [] f n x p (come (Some g) y q) d (by goes (inside clear)) ∙ settle_ended (left - 1) [] y q g,
    )

-- A line: its event, Leases that are renewed behind it, and then it settles.
pub carries : (k number : ℕ) (fs : Fates) (f : Fate) (l : LeaseLine) (x : LeaseWorld) (m n e : LeaseMoving) → line_happens f number l x ≡ m → renewed m ≡ n → settle k fs n ≡ e → carry_out k (f ∷ fs) number l x ≡ e
carries k number fs f l x m n e one two three = ap (λ z. settle k fs (renewed z)) one ∙ ap (settle k fs) two ∙ three
