-- A clerk's next start whose first call is answered in its own step.
use Rattle.std.proofs.Common.{◌≡◌, refl, sym, ap, subst, ◌∙◌, inl, arith, ◌<◌, ◌+◌, ◌-◌, ℕ, T, Bool, true, false, not, ◌==◌, ◌&&◌, ◌||◌, cond, List, [], ◌∷◌, ◌++◌, length, Option, Some, None, append-nil}
use Rattle.std.specs.List.{list_any}
use Rattle.std.proofs.lemmas.Bool.{and_parts, cond-false}
use Rattle.ec_base.specs.declared.ids.Age.{Age}
use Rattle.ec_plain.specs.BoundedCalls.{is_bounded}
use Rattle.ec_plain.specs.declared.call.Call.{Call}
use Rattle.ec_volume.specs.declared.update.Update.{Update}
use Rattle.ec_history.specs.History.{Covers, Op}
use Rattle.ec_history.specs.Legal.{IsLegal}
use Rattle.ec_history.specs.Placing.{MayFollow, answered, begun, may_show, shows, watch}
use Rattle.ec_history.specs.declared.entry.Answer.{Answer}
use Rattle.ec_history.specs.declared.shown.Shown.TheVariants as show
use Rattle.ec_history.proofs.OfLaws.ForPlacing.More.{watch-step}
use Rattle.ec_history.proofs.OfLaws.ForPlacing.Numbers.{count}
use Rattle.ec_cache.specs.declared.resolve.verdict.Verdict.{Verdict}
use Rattle.ec_cache.specs.declared.resolve.verdict.Verdict.TheVariants.{Need, Lost, NeedIds, Done}
use Rattle.ec_protocol.specs.Clerk.{add_call, begin, new_clerk, verdict}
use Rattle.ec_protocol.specs.World.{is_answer_to}
use Rattle.ec_protocol.specs.declared.clerk.Clerk.{Clerk}
use Rattle.ec_protocol.specs.declared.clerk.Out.TheVariants as out
use Rattle.ec_coherence.specs.System.{System, Ghost, with_start}
use Rattle.ec_coherence.specs.Events.{EventsAgree, IsUncut, shown_boot}
use Rattle.ec_coherence.specs.ChangeLaws.{Calls, with_clerk}
use Rattle.ec_coherence.specs.Steps.{call_of, doing_in, less_call}
use Rattle.ec_coherence.proofs.ForBatches.ClerkIn.{start-same}
use Rattle.ec_coherence.specs.CommitLaws.{AllAgree}
use Rattle.ec_coherence.specs.StandLaws.{SessionGoesOn}
use Rattle.ec_coherence.specs.Answers.{Gives, answered_ghost, based, fresh_of, op_given}
use Rattle.ec_coherence.specs.Comes.{after_answer, entry_next, ops_next}
use Rattle.ec_coherence.proofs.ForCommits.Answering.{alike, new_fresh, old_fresh}
use Rattle.ec_coherence.proofs.ForCommits.Rebased.{legal-same}
use Rattle.ec_lawful.specs.OfClerkSteps.Counts.{CountsAgree}
use Rattle.ec_lawful.specs.OfClerkSteps.Cuts.{CutsAgree}
use Rattle.ec_lawful.specs.OfClerkSteps.JoinLaws.{IsFresh, started}
use Rattle.ec_lawful.proofs.OfClerkSteps.ForJoins.Begins.{fresh-stands}
use Rattle.ec_lawful.proofs.OfClerkSteps.ForJoins.Going.{plain-keeps}
use Rattle.ec_lawful.proofs.OfClerkSteps.ForJoins.OutsideChanges as outside
use Rattle.ec_lawful.specs.Steps.{LineIsNew}
use Rattle.ec_lawful.specs.OfClerkSteps.Answering.{Suits, answered_clerk, answering, done_clerk}
use Rattle.ec_lawful.specs.OfClerkSteps.Zeros.{HasNoZero, ZerosAgree}
use Rattle.ec_lawful.proofs.OfClerkSteps.Without.{without-answers}
use Rattle.ec_lawful.specs.OfClerkSteps.Calls.{CallsAgree}
use Rattle.ec_lawful.specs.OfClerkSteps.Waits.{AreAtRest, HasLine, IsAtRest, does_wait}
use Rattle.ec_lawful.specs.OfClerkSteps.CallLaws.{with_change}
use Rattle.ec_lawful.proofs.OfClerkSteps.ForCalls.Begin.{call-put, fresh-lines}
use Rattle.ec_lawful.proofs.OfClerkSteps.ForCalls.RestsBehind.{rests-behind}
use Rattle.ec_lawful.proofs.OfClerkSteps.ForCalls.CallsLeft.{left-calls}
use Rattle.ec_lawful.proofs.OfClerkSteps.ForCalls.Quiet.{split-start}
use Rattle.ec_lawful.specs.BeginLaws.{answered_start, behind_first, first_call, first_ghost}
use Rattle.ec_lawful.proofs.ForBegins.Alone.{alone, used-none}
use Rattle.ec_lawful.proofs.ForBegins.First.{fresh, fresh-calls, fresh-events, own-call}
use Rattle.ec_lawful.proofs.ForBegins.Nothing.{nothing-covered}
use Rattle.ec_base.proofs.Numbers.{same-self as same, equal}
use Rattle.ec_base.proofs.Options.{none_some}
use Rattle.ec_history.proofs.OfLaws.ForPlacing.BasesAlike.{each-map}

-- one start twice
twice : (c b : ℕ) (k now : Clerk) (f : ℕ → ℕ → Option Clerk) → with_start c b now (with_start c b k f) ≡ with_start c b now f
twice c b k now f = λ j x y. point ((x == c) && (y == b)) x y j
  where
    point : (z : Bool) (x y : ℕ) → elim z as (λ o. Option Clerk) [ true ↦ Some now | false ↦ elim z as (λ o. Option Clerk) [ true ↦ Some k | false ↦ f x y ] ] ≡ elim z as (λ o. Option Clerk) [ true ↦ Some now | false ↦ f x y ]
    point true x y = refl
    point false x y = refl

-- what an answer without an operation leaves of a new start
module _ (c b : ℕ) where
  abbrev first : Clerk
  first = new_clerk c b

  none-op : (u : Option Update) → None ≡ elim u as (λ z. Option ℕ) [ None ↦ None | Some w ↦ Some first.log.next ] → u ≡ None
  none-op None e = refl
  none-op (Some u) e = absurd (none_some e)

  stays : (m : ℕ) (v : Verdict) (a : Answer) → Gives m first v a None [] → answered_clerk v first ≡ first
  stays m (Need x h) a g = absurd g
  stays m (Lost ns xs) a g = ap (λ z. record first { cache = z }) (used-none xs first.cache refl)
  stays m (NeedIds xs) a g = ap (λ z. record first { cache = z }) (used-none xs first.cache refl)
  stays m (Done o) a g = ap (λ u. answered_done u) (none-op o.update g.1) ∙ ap (λ z. record first { cache = z }) (used-none o.touched first.cache refl)
    where
      answered_done : Option Update → Clerk
      answered_done u = done_clerk o u first

  suits-none : (m : ℕ) (v : Verdict) (a : Answer) → Gives m first v a None [] → Suits v first
  suits-none m (Need x h) a g = tt
  suits-none m (Lost ns xs) a g = tt
  suits-none m (NeedIds xs) a g = tt
  suits-none m (Done o) a g = λ u e. absurd (none_some (sym (none-op o.update g.1) ∙ e))

  no-ops : (m p : ℕ) (v : Verdict) (a : Answer) → Gives m first v a None [] → op_given c b p first v ≡ []
  no-ops m p (Need x h) a g = refl
  no-ops m p (Lost ns xs) a g = refl
  no-ops m p (NeedIds xs) a g = refl
  no-ops m p (Done o) a g = ap (λ u. elim u as (λ z. List Op) [ None ↦ [] | Some w ↦ record { clerk = c; boot = b; number = first.log.next; place = p; update = w } ∷ [] ]) (none-op o.update g.1)

module _ (g : System) (all : AllAgree g) (q : CallsAgree g) (rest : AreAtRest g) (counts : CountsAgree g) (zeros : ZerosAgree g) (c : ℕ) (small : c < 16) (down : g.running c ≡ None) (l : ℕ) (cl : Call) (new : LineIsNew g l) (bounded : T (is_bounded cl))
    (a : Answer) (none : shows cl a ≡ false) (gives : (m : ℕ) → Gives m (new_clerk c (g.boots c + 1)) (verdict cl (new_clerk c (g.boots c + 1))) a None []) where
  abbrev b : ℕ
  b = g.boots c + 1

  abbrev k : Clerk
  k = new_clerk c b

  abbrev now : Clerk
  now = answered_start c b

  abbrev calls : Calls
  calls = first_call c l cl g

  abbrev S : System
  S = started g c calls

  abbrev γ : Ghost
  γ = first_ghost c l cl a g.ghost

  abbrev h : System
  h = behind_first g c l cl a

  is-fresh : IsFresh g S c
  is-fresh = fresh-stands g all counts c small down calls

  runs : S.running c ≡ Some b
  runs = ap (λ z. elim z as (λ y. Option ℕ) [ true ↦ Some b | false ↦ g.running c ]) (same c)

  there : S.clerks c b ≡ Some k
  there = start-same c b k g.clerks

  call-there : call_of c 1 calls ≡ Some (l, cl)
  call-there = own-call g all q counts c small down l cl new bounded

  -- no session is of the new start
  unopened : (s : ℕ) (age : Age) → g.ghost.owner s ≡ Some (c, age) → age.boot ≡ b → ⊥
  unopened s age o e = let w = (all.0).sessions.owned s (c, age) o in omega (arith, w.1, e)

  uncut : IsUncut S c k
  uncut s o = absurd (unopened s k.age o refl)

  line : MayFollow S.ghost.shown (show.Answered l c cl a None)
  line = let r = fresh-lines l c cl g.ghost.shown new.unshown in (r.0, r.1, subst (λ z. T (not z || may_show (begun (watch c g.ghost.shown)))) (sym none) tt)

  -- it covers nothing
  settled : (o : Op) → Covers (based S (fresh_of k)) S.ghost.history (entry_next S c b l cl a None) o.clerk (shown_boot S o.clerk o.boot) o.number → T (S.ghost.is_durable o)
  settled o v = absurd (nothing-covered (based S (fresh_of k)) S.durable.max_objects o.clerk (shown_boot S o.clerk o.boot) S.ghost.history legal zero-ops (entry_next S c b l cl a None) o.number v)
    where
      legal : IsLegal (based S (fresh_of k)) S.durable.max_objects S.ghost.history
      legal = legal-same S.origin (old_fresh S (fresh_of k)) (new_fresh S (fresh_of k)) S.durable.max_objects S.ghost.history (alike S (fresh_of k) (is-fresh.invariant).events) (is-fresh.invariant).events.legal

      truth : (x : Bool) → T x → x ≡ true
      truth true t = refl
      truth false t = absurd t

      less-one : (m : ℕ) → m + 1 ≡ 1 → m ≡ 0
      less-one m e = omega (arith, e)

      zero-ops : count o.clerk (shown_boot S o.clerk o.boot) S.ghost.history ≡ 0
      zero-ops =
          let two = and_parts (o.clerk == c) (shown_boot S o.clerk o.boot == shown_boot S c b) (truth _ v.own) in
          ap (λ z. count z (shown_boot S o.clerk o.boot) S.ghost.history) (equal o.clerk c two.0)
          ∙ ap (λ z. count c z S.ghost.history) (equal (shown_boot S o.clerk o.boot) (shown_boot S c b) two.1)
          ∙ less-one (count c (shown_boot S c b) S.ghost.history) ((is-fresh.invariant).events.counts c b k runs there)

  start-zeros : ZerosAgree S
  start-zeros = record {
    origin = zeros.origin;
    kept = zeros.kept;
    frozen = zeros.frozen;
    next = zeros.next;
    first = zeros.first;
    clerks = λ f x m p. split-start c b f x m k g.clerks (λ u y z. HasNoZero z) p (record { ids = tt; undurable = tt; owed = tt }) (λ d i. zeros.clerks f x m i);
  }

  answered-first : AllAgree (after_answer S c b k (answering (answered_clerk (verdict cl k) k) 1 a None) l cl a None) × ZerosAgree (after_answer S c b k (answering (answered_clerk (verdict cl k) k) 1 a None) l cl a None)
  answered-first =
      without-answers S is-fresh.invariant is-fresh.firsts is-fresh.starts start-zeros c b k (is-fresh.others, is-fresh.begins) there refl 1 l cl a None
      (subst (λ z. Gives S.durable.max_objects k (verdict cl k) a None z.owed) (sym (stays c b S.durable.max_objects (verdict cl k) a (gives S.durable.max_objects))) (gives S.durable.max_objects))
      (suits-none c b S.durable.max_objects (verdict cl k) a (gives S.durable.max_objects)) runs uncut line settled

  -- in plain words
  abbrev middle : System
  middle = record S { calls = less_call c 1 calls; ghost = γ }

  middle-is : after_answer S c b k (answering (answered_clerk (verdict cl k) k) 1 a None) l cl a None ≡ middle
  middle-is =
      ap (λ z. doing_in c b (answering z 1 a None) (answered_ghost c l cl a None (fresh_of k) (ops_next S c b cl k) S.ghost) S) (stays c b 0 (verdict cl k) a (gives 0))
      ∙ ap (λ z. doing_in c b (answering k 1 a None) (answered_ghost c l cl a None 0 z S.ghost) S) (no-ops c b 0 (length S.ghost.shown + 1) (verdict cl k) a (gives 0))
      ∙ ap (λ z. record S { clerks = with_start c b k S.clerks; calls = z; pool = S.pool ++ []; ghost = record γ { kept = g.ghost.kept ++ [] } }) (ap (λ z. elim z as (λ y. Calls) [ None ↦ calls | Some x ↦ less_call c 1 calls ]) call-there)
      ∙ ap (λ z. record S { clerks = z; calls = less_call c 1 calls; pool = S.pool ++ []; ghost = record γ { kept = g.ghost.kept ++ [] } }) (twice c b k k g.clerks)
      ∙ ap (λ z. record S { calls = less_call c 1 calls; pool = z; ghost = record γ { kept = g.ghost.kept ++ [] } }) (append-nil S.pool)

  middle-all : AllAgree middle
  middle-all = subst AllAgree middle-is answered-first.0

  goes : SessionGoesOn k now
  goes = record { id = refl; age = refl; session = refl; owed = refl; next = refl }

  last-is : with_clerk middle c b now middle.calls [] ≡ h
  last-is =
      ap (λ z. record middle { clerks = z; pool = middle.pool ++ [] }) (twice c b k now g.clerks)
      ∙ ap (λ z. record middle { clerks = with_start c b now g.clerks; pool = z }) (append-nil middle.pool)

  pub first-all : AllAgree h
  first-all = subst AllAgree last-is (outside.outside-all middle middle-all c b k now there refl goes refl refl refl refl middle.calls [] tt tt tt)

  pub first-zeros : ZerosAgree h
  first-zeros = record {
    origin = zeros.origin;
    kept = (subst ZerosAgree middle-is answered-first.1).kept;
    frozen = zeros.frozen;
    next = zeros.next;
    first = zeros.first;
    clerks = λ f x m p. split-start c b f x m now g.clerks (λ u y z. HasNoZero z) p (record { ids = tt; undurable = tt; owed = tt }) (λ d i. zeros.clerks f x m i);
  }

  pub first-cuts : CutsAgree g → CutsAgree h
  first-cuts x = plain-keeps S h c b k now l cl a None (record { runs = runs; stands = there; age = refl; slots = λ f. refl; running = refl; clerks = sym (twice c b k now g.clerks); owner = refl; is_durable = refl; shown = refl }) refl (inl uncut) (is-fresh.cuts x)

  watch-other : (f : ℕ) → (f == c) ≡ false → watch f h.ghost.shown ≡ watch f g.ghost.shown
  watch-other f d = watch-step f g.ghost.shown (show.Answered l c cl a None) ∙ cond-false (f == c) (answered (begun (watch f g.ghost.shown)) (shows cl a) None) (watch f g.ghost.shown) d

  pub first-counts : CountsAgree h
  first-counts = record { counted = λ f r. counted f r (f == c) refl; above = (is-fresh.counts).above }
    where
      counted : (f : ℕ) → h.running f ≡ None → (z : Bool) → (f == c) ≡ z → (watch f h.ghost.shown).starts ≡ shown_boot h f (h.boots f)
      counted f r true e = absurd (none_some (sym r ∙ ap h.running (equal f c e) ∙ runs))
      counted f r false e = ap (λ z. z.starts) (watch-other f e) ∙ (is-fresh.counts).counted f r

  -- its calls
  abbrev F : System
  F = fresh g all q counts c small down l cl new bounded

  changed-is : with_change F c b now (less_call c 1 calls) S.pool γ ≡ h
  changed-is = ap (λ z. record S { clerks = z; calls = less_call c 1 calls; ghost = γ }) (twice c b (add_call cl k) now (with_start c b k g.clerks) ∙ twice c b k now g.clerks)

  pub first-agrees : CallsAgree h
  first-agrees = subst CallsAgree changed-is
      (left-calls F (fresh-events g all q counts c small down l cl new bounded) c b (add_call cl k) now runs (start-same c b (add_call cl k) (with_start c b k g.clerks)) [] [] (record { no = 1; call = cl; begun = k.log.next - 1 }) l refl call-there S.pool γ a None refl
      (subst (λ x. EventsAgree x) (sym changed-is) (first-all.0).events) refl refl refl (λ e. refl) tt (omega arith) (inl refl) (fresh-calls g all q counts c small down l cl new bounded))

  pub first-rest : AreAtRest h
  first-rest = subst AreAtRest rests-is (rests-behind S c b (record { clerk = now; outs = out.Answer 1 a None ∷ []; spent = None }) γ (show.Answered l c cl a None ∷ []) runs refl others (record { calls = tt; recalls = tt }))
    where
      rests-is : doing_in c b (record { clerk = now; outs = out.Answer 1 a None ∷ []; spent = None }) γ S ≡ h
      rests-is =
          ap (λ z. record S { clerks = with_start c b now S.clerks; calls = z; pool = S.pool ++ []; ghost = γ }) (ap (λ z. elim z as (λ y. Calls) [ None ↦ calls | Some x ↦ less_call c 1 calls ]) call-there)
          ∙ ap (λ z. record S { clerks = z; calls = less_call c 1 calls; pool = S.pool ++ []; ghost = γ }) (twice c b k now g.clerks)
          ∙ ap (λ z. record S { clerks = with_start c b now g.clerks; calls = less_call c 1 calls; pool = z; ghost = γ }) (append-nil S.pool)

      others : (f x : ℕ) (m : Clerk) → (f == c) ≡ false → S.running f ≡ Some x → S.clerks f x ≡ Some m → IsAtRest S f m
      others f x m d r p =
          let was = rest f x m (sym (ap (λ z. elim z as (λ y. Option ℕ) [ true ↦ Some b | false ↦ g.running f ]) d) ∙ r) (sym (ap (λ z. elim (z && (x == b)) as (λ y. Option Clerk) [ true ↦ Some k | false ↦ g.clerks f x ]) d) ∙ p) in
          record {
            calls = each-map (λ w. T (does_wait w m) × HasLine g f w) (λ w. T (does_wait w m) × HasLine S f w) (λ w y. (y.0, ((y.1).0, call-put c 1 f w.no (l, cl) g.calls ∙ ap (λ z. cond (z && (w.no == 1)) (Some (l, cl)) (call_of f w.no g.calls)) d ∙ (y.1).1, (y.1).2))) m.waiting was.calls;
            recalls = was.recalls;
          }

pub first-answers : (g : System) → AllAgree g → CallsAgree g → AreAtRest g → CountsAgree g → ZerosAgree g → (c : ℕ) → c < 16 → g.running c ≡ None → (l : ℕ) (cl : Call) → LineIsNew g l → T (is_bounded cl)
    → list_any (is_answer_to 1) (begin cl (new_clerk c (g.boots c + 1))).outs ≡ true
    → (a : Answer) × (begin cl (new_clerk c (g.boots c + 1)) ≡ record { clerk = answered_start c (g.boots c + 1); outs = out.Answer 1 a None ∷ []; spent = None })
    × AllAgree (behind_first g c l cl a) × CallsAgree (behind_first g c l cl a) × AreAtRest (behind_first g c l cl a) × CountsAgree (behind_first g c l cl a) × ZerosAgree (behind_first g c l cl a)
    × (CutsAgree g → CutsAgree (behind_first g c l cl a))
first-answers g all q rest counts zeros c small down l cl new bounded answered =
    let r = alone c (g.boots c + 1) cl bounded answered in (
      r.0,
      r.3,
      first-all g all q rest counts zeros c small down l cl new bounded r.0 r.1 r.2,
      first-agrees g all q rest counts zeros c small down l cl new bounded r.0 r.1 r.2,
      first-rest g all q rest counts zeros c small down l cl new bounded r.0 r.1 r.2,
      first-counts g all q rest counts zeros c small down l cl new bounded r.0 r.1 r.2,
      first-zeros g all q rest counts zeros c small down l cl new bounded r.0 r.1 r.2,
      first-cuts g all q rest counts zeros c small down l cl new bounded r.0 r.1 r.2,
    )
