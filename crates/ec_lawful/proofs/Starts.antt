-- The first call of a clerk's next start begins: all facts stand behind the whole step.
use Rattle.std.proofs.Common.{◌≡◌, refl, sym, ap, subst, ◌∙◌, inl, inr, ◌⊎◌, arith, ◌<◌, ◌≤◌, ◌+◌, ℕ, Bool, true, false, ◌||◌, ◌&&◌, ◌==◌, cond, length, T, List, [], ◌∷◌, ◌++◌, Option, Some, None, append_assoc, append-nil}
use Rattle.std.specs.Prelude.{is_some, nat_le, nat_lt}
use Rattle.std.specs.List.{list_any}
use Rattle.std.proofs.lemmas.List.Elements.{Contains-append_left}
use Rattle.std.proofs.lemmas.List.Folds.{list_any-append}
use Rattle.ec_base.specs.Limits.{last_counter}
use Rattle.ec_base.specs.Tables.{Table, at, at_or, or_else, put}
use Rattle.ec_base.specs.declared.counter.Counter.TheVariants as counter
use Rattle.ec_plain.specs.BoundedCalls.{is_bounded}
use Rattle.ec_plain.specs.declared.call.Call.{Call}
use Rattle.ec_history.specs.History.{Each}
use Rattle.ec_history.specs.Placing.{is_numbered}
use Rattle.ec_history.specs.declared.entry.Answer.{Answer}
use Rattle.ec_history.specs.declared.shown.Shown.{Shown}
use Rattle.ec_history.specs.declared.shown.Shown.TheVariants as show
use Rattle.ec_wire.specs.declared.msg.Msg.{Msg}
use Rattle.ec_wire.specs.declared.msg.Msg.TheVariants.{Hello}
use Rattle.ec_protocol.specs.Clerk.{Doing, add_call, begin, doing, hello, new_clerk, settle, spend, start, try_all}
use Rattle.ec_protocol.specs.World.{is_answer_to}
use Rattle.ec_protocol.specs.declared.clerk.Clerk.{Clerk}
use Rattle.ec_protocol.specs.declared.clerk.Out.{Out}
use Rattle.ec_protocol.specs.declared.clerk.Out.TheVariants as out
use Rattle.ec_coherence.specs.System.{System, Ghost, with_start}
use Rattle.ec_coherence.specs.ChangeLaws.{Calls}
use Rattle.ec_coherence.specs.Steps.{call_of, calls_after, doing_in, less_call, out_lines, sends}
use Rattle.ec_coherence.proofs.ForServer.Lists.{each-more, each-turn}
use Rattle.ec_coherence.proofs.ForServer.Tables.{at-put, same_some}
use Rattle.ec_coherence.specs.CommitLaws.{AllAgree}
use Rattle.ec_coherence.specs.StandLaws.{lined}
use Rattle.ec_lawful.specs.OfClerkSteps.Calls.{is_shown}
use Rattle.ec_lawful.specs.OfClerkSteps.CallLaws.{prepared}
use Rattle.ec_lawful.specs.OfClerkSteps.Waits.{HasLine, IsAtRest, does_wait}
use Rattle.ec_lawful.proofs.OfClerkSteps.ForCalls.Begin.{call-put}
use Rattle.ec_lawful.proofs.OfClerkSteps.ForCalls.Quiet.{split-start}
use Rattle.ec_lawful.specs.OfClerkSteps.JoinLaws.{started}
use Rattle.ec_lawful.proofs.ForWhole.From.{doubts-stay}
use Rattle.ec_lawful.specs.OfClerkSteps.Orderly.{IsOrderly, OrderlyAgree}
use Rattle.ec_lawful.specs.OfClerkSteps.Names.{AreOnNamed, NamesAgree}
use Rattle.ec_lawful.proofs.OfClerkSteps.ForDoings.Calling.{order-agrees, order-stays}
use Rattle.ec_lawful.proofs.OfClerkSteps.ForNames.NamesChanging.{clerks-keep}
use Rattle.ec_lawful.proofs.OfClerkSteps.ForDoings.FreesStored.{clerks-keep-frees}
use Rattle.ec_lawful.specs.Fresh.{FreshAgrees}
use Rattle.ec_lawful.specs.FreshLaws.{HasOld}
use Rattle.ec_lawful.proofs.ForAsked.FreshAnswered.{answers-fresh}
use Rattle.ec_lawful.proofs.ForWhole.FreshSteps.{hidden-was, start-fresh, taken-was}
use Rattle.ec_lawful.proofs.ForWhole.LinesTell.{line-tells}
use Rattle.ec_lawful.specs.OfClerkSteps.Frees.{FreesAgree, FullsAgree}
use Rattle.ec_lawful.specs.OfClerkSteps.Trying.{IsTrying}
use Rattle.ec_lawful.specs.OfClerkSteps.Zeros.{HasNoZero, ZerosAgree}
use Rattle.ec_lawful.specs.OfClerkSteps.Fulls.{IsFullAt}
use Rattle.ec_lawful.proofs.OfClerkSteps.ForNames.Sent.{own-full, settle-own}
use Rattle.ec_lawful.specs.BeginLaws.{answered_start, behind_first, first_call, first_ghost}
use Rattle.ec_lawful.proofs.ForBegins.FirstAnswered.{first-answers}
use Rattle.ec_lawful.proofs.ForBegins.First.{first-begun, first-counts, first-cuts}
use Rattle.ec_lawful.specs.Steps.{StepIsDone as IsDone, LineIsNew, clerk_begun, calling, in_call}
use Rattle.ec_lawful.specs.Ties.{called, waiting}
use Rattle.ec_lawful.specs.Whole.{ShowsAll, Whole}
use Rattle.ec_lawful.specs.SettleLaws.{Beside, TriesAll}
use Rattle.ec_lawful.proofs.Settling.{settles-call}
use Rattle.ec_lawful.proofs.CallsBegin.{shown-by}
use Rattle.ec_lawful.proofs.LinesLeft.{lines-at-end}
use Rattle.ec_base.proofs.Numbers.{same-self as same}
use Rattle.ec_base.proofs.Options.{none_some}

twice : (c b : ℕ) (k now : Clerk) (f : ℕ → ℕ → Option Clerk) → with_start c b now (with_start c b k f) ≡ with_start c b now f
twice c b k now f = λ j x y. point ((x == c) && (y == b)) x y j
  where
    point : (z : Bool) (x y : ℕ) → elim z as (λ o. Option Clerk) [ true ↦ Some now | false ↦ elim z as (λ o. Option Clerk) [ true ↦ Some k | false ↦ f x y ] ] ≡ elim z as (λ o. Option Clerk) [ true ↦ Some now | false ↦ f x y ]
    point true x y = refl
    point false x y = refl

later : (n p : ℕ) → p ≤ n → (p == n + 1) ≡ false
later n p le = grind arith

put-later : (n x p : ℕ) (t : Table ℕ) → p ≤ n → at_or 0 p (put (n + 1) x t) ≡ at_or 0 p t
put-later n x p t le = ap (or_else 0) (at-put p (n + 1) x t ∙ ap (λ z. cond z (Some x) (at p t)) (later n p le))

module _ (g : System) (whole : Whole g) (c : ℕ) (down : g.running c ≡ None) (small : c < 16) (l : ℕ) (cl : Call) (new : LineIsNew g l) (bounded : T (is_bounded cl)) where
  abbrev b : ℕ
  b = g.boots c + 1

  abbrev k : Clerk
  k = new_clerk c b

  abbrev now : Clerk
  now = add_call cl k

  abbrev d : Doing
  d = doing now

  abbrev calls : Calls
  calls = first_call c l cl g

  abbrev greeting : ℕ × Msg
  greeting = (c, Hello c (record { boot = b; round = 0 }))

  call-there : call_of c 1 calls ≡ Some (l, cl)
  call-there = call-put c 1 c 1 (l, cl) g.calls ∙ ap (λ z. cond (z && true) (Some (l, cl)) (call_of c 1 g.calls)) (same c)

  other-call : (f m : ℕ) → (f == c) ≡ false → call_of f m calls ≡ call_of f m g.calls
  other-call f m e = call-put c 1 f m (l, cl) g.calls ∙ ap (λ z. cond (z && (m == 1)) (Some (l, cl)) (call_of f m g.calls)) e

  fulls-greeted : Each (λ m. IsFullAt g.durable.max_objects m.1) (g.pool ++ greeting ∷ [])
  fulls-greeted = each-more (λ m. IsFullAt g.durable.max_objects m.1) g.pool (greeting ∷ []) whole.fulls (tt, tt)

  -- Its own step answers the call.

  module _ (a : Answer) (all : AllAgree (behind_first g c l cl a)) where
    abbrev A : System
    A = behind_first g c l cl a

    abbrev γ : Ghost
    γ = first_ghost c l cl a g.ghost

    kept-same : γ.kept ≡ g.ghost.kept
    kept-same = append-nil g.ghost.kept

    answered-orderly : OrderlyAgree A
    answered-orderly =
        let o = order-stays.start c b in
        let q = order-agrees g c b (doing (answered_start c b)) g.ghost whole.orderly (record { keyed = o.keyed; recalls = o.recalls; asking = o.asking; log = o.log; sound = o.sound; batches = o.batches }) in
        record { each = q.each }

    answered-names : NamesAgree A
    answered-names = clerks-keep g whole.names c b (answered_start c b) (inr (inl refl)) A.running A.boots A.calls A.pool γ refl refl refl (subst (AreOnNamed g) (sym kept-same) (whole.names).kept) (whole.names).frozen

    answered-frees : FreesAgree A
    answered-frees = clerks-keep-frees g whole.frees c b (answered_start c b) A.running A.boots A.calls A.pool γ refl refl refl kept-same refl (inr refl)

    -- it has no ids
    answered-old : HasOld g c b (answered_start c b)
    answered-old = inr (λ s q. absurd (none_some q))

    answered-fresh : FreshAgrees A
    answered-fresh = answers-fresh g A c b l cl a None 0 whole.all all whole.names whole.zeros (record {
      origin = refl;
      first_boot = refl;
      next = refl;
      shown = refl;
      fresh = refl;
      own = inl refl;
      gone = (whole.zeros).origin;
      spent = λ cr t. absurd t;
      taken = λ d f y t. taken-was c b (answered_start c b) g A refl refl refl answered-old d f y t;
      hidden = λ d f y t. hidden-was c b (answered_start c b) g A refl refl refl answered-old d f y t;
    }) (whole.shows).fresh

    answered-shows : ShowsAll A
    answered-shows = record {
      tells = line-tells g A whole.all all (show.Answered l c cl a None) (record { origin = refl; most = refl; shown = refl; fresh = λ p le. put-later (length g.ghost.shown) 0 p g.ghost.fresh le }) (whole.shows).tells;
      fresh = answered-fresh;
    }

  abbrev C : System
  C = called c 1 l cl (clerk_begun c g)

  answered-path : (a : Answer) → doing_in c b (record { clerk = answered_start c b; outs = out.Send (Hello c (record { boot = b; round = 0 })) ∷ out.Answer 1 a None ∷ []; spent = None }) (first_ghost c l cl a g.ghost) C ≡ behind_first g c l cl a
  answered-path a = ap (λ z. record (behind_first g c l cl a) { calls = z }) (ap (λ z. elim z as (λ y. Calls) [ None ↦ calls | Some x ↦ less_call c 1 calls ]) call-there)

  answered-lines : (a : Answer) → (first_ghost c l cl a g.ghost).shown ≡ C.ghost.shown ++ out_lines c (out.Send (Hello c (record { boot = b; round = 0 })) ∷ out.Answer 1 a None ∷ []) C.calls
  answered-lines a = ap (λ z. g.ghost.shown ++ z) (sym (ap (λ z. elim z as (λ y. List Shown) [ None ↦ [] | Some x ↦ show.Answered x.0 c x.1 a None ∷ [] ]) call-there))

  abbrev greets : List Out
  greets = out.Send (Hello c (record { boot = b; round = 0 })) ∷ []

  answered-done : list_any (is_answer_to 1) (begin cl k).outs ≡ true → IsDone Whole C c b (calling cl greets k)
  answered-done answered =
      let r = first-answers g whole.all whole.calls whole.rest whole.counts whole.zeros c small down l cl new bounded answered in
      let a = r.0 in
      let w : Whole (behind_first g c l cl a) = record {
        all = r.2;
        calls = r.3;
        rest = r.4;
        orderly = answered-orderly a r.2;
        names = answered-names a r.2;
        zeros = r.6;
        frees = answered-frees a r.2;
        cuts = r.7 whole.cuts;
        counts = r.5;
        fulls = fulls-greeted;
        doubts = doubts-stay g (behind_first g c l cl a) refl (λ m q. Contains-append_left g.pool (greeting ∷ []) m q) whole.doubts;
        shows = answered-shows a r.2;
      } in
      subst (λ e. IsDone Whole C c b (record e { outs = greets ++ e.outs })) (sym r.1) (inr (first_ghost c l cl a g.ghost, answered-lines a, subst Whole (sym (answered-path a)) w))

  -- It waits behind its own step.

  abbrev S : System
  S = lined (started g c calls) (show.Waits l c cl)

  abbrev σ : Ghost
  σ = S.ghost

  abbrev X : System
  X = record S { clerks = with_start c b now g.clerks; pool = S.pool ++ [] }

  path : X ≡ doing_in c b d σ S
  path = ap (λ f. record S { clerks = f; pool = S.pool ++ [] }) (sym (twice c b k now g.clerks))

  orderly-now : IsOrderly now
  orderly-now = order-stays.add_call cl k (order-stays.start c b)

  zeros-now : ZerosAgree X
  zeros-now = record {
    origin = (whole.zeros).origin;
    kept = (whole.zeros).kept;
    frozen = (whole.zeros).frozen;
    next = (whole.zeros).next;
    first = (whole.zeros).first;
    clerks = λ f x m p. split-start c b f x m now g.clerks (λ u y z. HasNoZero z) p (record { ids = tt; undurable = tt; owed = tt }) (λ e i. (whole.zeros).clerks f x m i);
  }

  trying : IsTrying S c b d σ
  trying =
      let q = first-begun g whole.all whole.calls whole.counts c small down l cl new bounded in
      record {
        stands = q.stands;
        place = q.place;
        calls = q.calls;
        turn = q.turn;
        orderly = orderly-now;
        names = subst NamesAgree path (clerks-keep g whole.names c b now (inr (inl refl)) X.running X.boots X.calls X.pool σ refl refl refl (whole.names).kept (whole.names).frozen);
        zeros = subst ZerosAgree path zeros-now;
        frees = subst FreesAgree path (clerks-keep-frees g whole.frees c b now X.running X.boots X.calls X.pool σ refl refl refl refl refl (inr refl));
        cuts = first-cuts g whole.all whole.calls whole.counts c small down l cl new bounded whole.cuts;
      }

  shows : ShowsAll (doing_in c b d σ S)
  shows =
      let s = trying.stands in
      let all : AllAgree (doing_in c b d σ S) = ((s.0).invariant, s.1, s.2, s.3) in
      record {
        tells = line-tells g (doing_in c b d σ S) whole.all all (show.Waits l c cl) (record { origin = refl; most = refl; shown = refl; fresh = λ p le. refl }) (whole.shows).tells;
        fresh = start-fresh g (doing_in c b d σ S) whole.all all whole.names (show.Waits l c cl ∷ []) (record { quiet = tt; origin = refl; first_boot = refl; next = omega arith; shown = refl; fresh = refl }) c b now (twice c b k now g.clerks) refl refl
            (inr (λ t q. absurd (none_some q))) (whole.shows).fresh;
      }

  beside : Beside S c
  beside = record {
    orderly = (let q = order-agrees g c b (doing k) g.ghost whole.orderly (order-stays.start c b) in record { each = q.each });
    counts = first-counts g whole.all whole.calls whole.counts c small down l cl new bounded;
    doubts = doubts-stay g S refl (λ m q. Contains-append_left g.pool (greeting ∷ []) m q) whole.doubts;
    others = others;
  }
    where
      others : (f x : ℕ) (m : Clerk) → (f == c) ≡ false → S.running f ≡ Some x → S.clerks f x ≡ Some m → IsAtRest S f m
      others f x m e r p =
          let was = whole.rest f x m (sym (ap (λ z. elim z as (λ y. Option ℕ) [ true ↦ Some b | false ↦ g.running f ]) e) ∙ r) (sym (ap (λ z. elim (z && (x == b)) as (λ y. Option Clerk) [ true ↦ Some k | false ↦ g.clerks f x ]) e) ∙ p) in
          record {
            calls = each-turn (λ w. T (does_wait w m) × HasLine g f w) (λ w. T (does_wait w m) × HasLine S f w) m.waiting (λ w y. (y.0, ((y.1).0, other-call f w.no e ∙ (y.1).1, shown-by g whole c l cl (y.1).0 (y.1).2))) was.calls;
            recalls = was.recalls;
          }

  known : (e : Doing) (m j : ℕ) (cj : Call) → call_of c m calls ≡ Some (j, cj) → (is_shown S j ≡ true) ⊎ (call_of c m (calls_after c e.outs calls) ≡ None)
  known e m j cj p = by (m == 1) (sym (call-put c 1 c m (l, cl) g.calls ∙ ap (λ z. cond (z && (m == 1)) (Some (l, cl)) (call_of c m g.calls)) (same c)) ∙ p)
    where
      own : is_shown S l ≡ true
      own = list_any-append (is_numbered l) g.ghost.shown (show.Waits l c cl ∷ []) ∙ last (list_any (is_numbered l) g.ghost.shown)
        where
          last : (y : Bool) → (y || ((l == l) || false)) ≡ true
          last true = refl
          last false = ap (λ z. z || false) (same l)

      by : (y : Bool) → cond y (Some (l, cl)) (call_of c m g.calls) ≡ Some (j, cj) → (is_shown S j ≡ true) ⊎ (call_of c m (calls_after c e.outs calls) ≡ None)
      by true q = inl (subst (λ x. is_shown S x ≡ true) (ap (λ x. x.0) (same_some q)) own)
      by false q = absurd (none_some (sym down ∙ ((whole.calls).calls c m j cj q).running))

  module _ (tries : (h : System) → TriesAll h c b) where
    fulls : (δ : Ghost) → FullsAgree (doing_in c b (settle d) δ S)
    fulls δ = each-more (λ m. IsFullAt g.durable.max_objects m.1) (g.pool ++ greeting ∷ []) (sends c (settle d).outs) fulls-greeted (own-full c g.durable.max_objects (settle d).outs (settle-own d tt))

    settled : IsDone Whole S c b (settle d)
    settled = settles-call S c b (tries S) beside d σ trying tt shows (λ δ u. lines-at-end S c b (try_all (prepared d)) δ u (known (try_all (prepared d)))) fulls

    abbrev W : System
    W = lined C (show.Waits l c cl)

    moved : (e : Doing) → IsDone Whole S c b e → IsDone Whole W c b (record e { outs = greets ++ e.outs })
    moved e (inl s) = inl s
    moved e (inr (γ, shown, w)) = inr (γ, shown, subst Whole same-is w)
      where
        same-is : doing_in c b e γ S ≡ doing_in c b (record e { outs = greets ++ e.outs }) γ W
        same-is = ap (λ f. record W { clerks = f; calls = calls_after c e.outs calls; pool = (g.pool ++ greeting ∷ []) ++ sends c e.outs; ghost = γ }) (twice c b k e.clerk g.clerks)
            ∙ ap (λ p. record W { clerks = with_start c b e.clerk g.clerks; calls = calls_after c e.outs calls; pool = p; ghost = γ }) (append_assoc g.pool (greeting ∷ []) (sends c e.outs))

    -- the whole step
    started-done : IsDone Whole (in_call c l cl k (clerk_begun c g)) c b (calling cl greets k)
    started-done = by (list_any (is_answer_to 1) (begin cl k).outs) refl
      where
        by : (z : Bool) → list_any (is_answer_to 1) (begin cl k).outs ≡ z → IsDone Whole (waiting c l cl z C) c b (calling cl greets k)
        by true q = answered-done q
        by false q = count (nat_le last_counter 0) refl
          where
            count : (y : Bool) → nat_le last_counter 0 ≡ y → IsDone Whole W c b (calling cl greets k)
            count true f = inl (subst (λ y. T (is_some (elim y as (λ x. Doing) [ true ↦ spend counter.CallNo (doing k) | false ↦ settle d ]).spent)) (sym f) tt)
            count false f = subst (λ e. IsDone Whole W c b (record e { outs = greets ++ e.outs })) (sym (ap (λ y. elim y as (λ x. Doing) [ true ↦ spend counter.CallNo (doing k) | false ↦ settle d ]) f)) (moved (settle d) settled)

    pub starts-whole : (start c b).spent ≡ None → IsDone Whole (in_call c l cl (start c b).clerk (clerk_begun c g)) c b (calling cl (start c b).outs (start c b).clerk)
    starts-whole spare = by (nat_lt last_counter b) refl
      where
        by : (y : Bool) → nat_lt last_counter b ≡ y → IsDone Whole (in_call c l cl (start c b).clerk (clerk_begun c g)) c b (calling cl (start c b).outs (start c b).clerk)
        by true q = absurd (none_some (sym spare ∙ ap (λ y. (elim y as (λ x. Doing) [ true ↦ spend counter.Boot (doing k) | false ↦ hello (doing k) ]).spent) q))
        by false q = subst (λ e. IsDone Whole (in_call c l cl e.clerk (clerk_begun c g)) c b (calling cl e.outs e.clerk)) (sym (ap (λ y. elim y as (λ x. Doing) [ true ↦ spend counter.Boot (doing k) | false ↦ hello (doing k) ]) q)) started-done
