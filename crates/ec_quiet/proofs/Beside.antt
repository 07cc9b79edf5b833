-- What a step of a clerk leaves of a phase and of the measure.
use Rattle.std.proofs.Common.{◌≡◌, refl, sym, ap, ◌∙◌, subst, arith, ◌+◌, ℕ, Bool, true, false, not, ◌&&◌, cond, T, List, [], ◌∷◌, ◌++◌}
use Rattle.std.specs.Prelude.{Some, is_some, ◌==◌, filter}
use Rattle.std.specs.Ordering.{nat_cmp, eq_by_cmp}
use Rattle.std.specs.Cmp.{nat_cmp_total, unsigned_ties}
use Rattle.std.specs.FinMap.{is_sorted}
use Rattle.std.specs.FinMap.Entries.{find-put, is_sorted-put}
use Rattle.std.proofs.lemmas.Bool.{eq-eqb}
use Rattle.ec_base.specs.Tables.{Table, at, put}
use Rattle.ec_sessions.specs.declared.slot.Slot.{Slot}
use Rattle.ec_sessions.specs.OfTokens.Tokens.{Tokens}
use Rattle.ec_wire.specs.declared.msg.Msg.{Msg}
use Rattle.ec_protocol.specs.Clerk.{Doing}
use Rattle.ec_protocol.specs.declared.clerk.Clerk.{Clerk}
use Rattle.ec_protocol.specs.declared.server.Server.{Server}
use Rattle.ec_quiet.specs.Facts.{IsIdleBut, IsOrderly}
use Rattle.ec_quiet.specs.Measure.{Noted, asks_later_by, base, unsent_by}
use Rattle.ec_quiet.specs.Phases.{Phase, Greets, Opens, Claims, Wants, Recalls, Flushes, Keeps, Grants, Asks, Gives, Refuses, Saves, Saved, Ends, Facts, InPhase, excepted, is_back, is_back_message, is_busy, main, messages}
use Rattle.ec_quiet.specs.Scenes.{Mail, Scene, done_by}
use Rattle.ec_quiet.specs.Sums.{value_of}
use Rattle.ec_quiet.specs.Works.{Work}
use Rattle.ec_quiet.proofs.Terms.{put-value}
use Rattle.ec_quiet.specs.Frames.{IsAlone, own_part}

-- One clerk of the table.

module _ (a : ℕ) (k : Clerk) (es : Table Clerk) where
  pub own-at : at a (put a k es) ≡ Some k
  own-at = find-put nat_cmp nat_cmp_total a a k es ∙ ap (λ b. cond b (Some k) (at a es)) (sym (unsigned_ties a a) ∙ eq-eqb a a refl)

  pub other-at : (c : ℕ) → (c == a) ≡ false → at c (put a k es) ≡ at c es
  other-at c n = find-put nat_cmp nat_cmp_total c a k es ∙ ap (λ b. cond b (Some k) (at c es)) (sym (unsigned_ties c a) ∙ n)

  still-there : (c : ℕ) → T (is_some (at c es)) → T (is_some (at c (put a k es)))
  still-there c s = subst (λ o. T (is_some o)) (sym (find-put nat_cmp nat_cmp_total c a k es)) (go (eq_by_cmp nat_cmp c a))
    where
      go : (b : Bool) → T (is_some (cond b (Some k) (at c es)))
      go true = tt
      go false = s

  pub still-orderly : (v : Server) → IsOrderly v es → IsOrderly v (put a k es)
  still-orderly v o = record {
    sixteen = o.sixteen;
    rising = is_sorted-put nat_cmp nat_cmp_total a k es o.rising;
    sound = o.sound;
    claimed = o.claimed;
    run = λ c sl e f. still-there c (o.run c sl e f);
    own = o.own;
    earlier = o.earlier;
    holders = o.holders;
  }

-- Phases in which nobody else has anything to do.

nobody-busy : (sc : Scene) (p : Phase) → IsAlone p → (c : ℕ) → is_busy sc p c ≡ false
nobody-busy sc (Recalls x h rs bs) a c = absurd a
nobody-busy sc (Flushes x h r b ops rest) a c = absurd a
nobody-busy sc (Keeps x h r b rest) a c = absurd a
nobody-busy sc (Greets age) a c = refl
nobody-busy sc (Opens age) a c = refl
nobody-busy sc (Claims o) a c = refl
nobody-busy sc (Wants x h n) a c = refl
nobody-busy sc (Grants x h n) a c = refl
nobody-busy sc (Asks again got ask) a c = refl
nobody-busy sc (Gives got n first) a c = refl
nobody-busy sc (Refuses again ask live reserved) a c = refl
nobody-busy sc (Saves b ops rest) a c = refl
nobody-busy sc (Saved b rest) a c = refl
nobody-busy sc Ends a c = refl

none-excepted : (sc : Scene) (p : Phase) → IsAlone p → (c : ℕ) → excepted sc p c ≡ []
none-excepted sc (Recalls x h rs bs) a c = absurd a
none-excepted sc (Flushes x h r b ops rest) a c = absurd a
none-excepted sc (Keeps x h r b rest) a c = absurd a
none-excepted sc (Greets age) a c = refl
none-excepted sc (Opens age) a c = refl
none-excepted sc (Claims o) a c = refl
none-excepted sc (Wants x h n) a c = refl
none-excepted sc (Grants x h n) a c = refl
none-excepted sc (Asks again got ask) a c = refl
none-excepted sc (Gives got n first) a c = refl
none-excepted sc (Refuses again ask live reserved) a c = refl
none-excepted sc (Saves b ops rest) a c = refl
none-excepted sc (Saved b rest) a c = refl
none-excepted sc Ends a c = refl

module _ (j : Work) (sc : Scene) (p q : Phase) (is : InPhase j sc p) (before : IsAlone p) (now : IsAlone q) (d : Doing) (rest : Mail) where
  abbrev next : Scene
  next = done_by j.clerk d rest sc

  pub own-comes : main j next.mail ≡ messages j next q → Facts j next q → InPhase j next q
  own-comes m f = record {
    clerk = is.clerk;
    number = is.number;
    main_is = m;
    orderly = still-orderly j.clerk d.clerk sc.clerks sc.server is.orderly;
    others = others;
    facts = f;
  }
    where
      others : (c : ℕ) (k : Clerk) → (c == j.clerk) ≡ false → is_busy next q c ≡ false → at c next.clerks ≡ Some k → (sl : Slot) × IsIdleBut (excepted next q c) sc.server c sl k
      others c k n b e =
          let idle = is.others c k n (nobody-busy sc p before c) (sym (other-at j.clerk d.clerk sc.clerks c n) ∙ e) in
          (idle.0, subst (λ xs. IsIdleBut xs sc.server c idle.0 k) (none-excepted sc p before c ∙ sym (none-excepted next q now c)) idle.1)

-- The measure.

module _ (j : Work) (w : Noted) (ts : Tokens) (clerks : Table Clerk) where
  pub own-measure : (before now : Clerk) → T (is_sorted nat_cmp clerks) → at j.clerk clerks ≡ Some before → base j w ts (put j.clerk now clerks) + own_part j before ≡ base j w ts clerks + own_part j now
  own-measure before now rising there =
      omega (arith, put-value (unsent_by j) j.clerk now clerks rising, ap (value_of (unsent_by j) j.clerk) there, ap asks_later_by (own-at j.clerk now clerks), ap asks_later_by there)

  pub other-measure : (c : ℕ) (before now : Clerk) → (c == j.clerk) ≡ false → T (is_sorted nat_cmp clerks) → at c clerks ≡ Some before → base j w ts (put c now clerks) + unsent_by j (c, before) ≡ base j w ts clerks + unsent_by j (c, now)
  other-measure c before now n rising there =
      omega (arith, put-value (unsent_by j) c now clerks rising, ap (value_of (unsent_by j) c) there, ap asks_later_by (other-at c now clerks j.clerk (other-way n)))
    where
      other-way : (c == j.clerk) ≡ false → (j.clerk == c) ≡ false
      other-way e = grind (arith, e)

-- Messages.

pub filter-both : {A : Type 0} (p : A → Bool) (xs ys : List A) → filter p (xs ++ ys) ≡ filter p xs ++ filter p ys
filter-both p [] ys = refl
filter-both p (x ∷ xs) ys = go (p x) (filter-both p xs ys)
  where
    go : (b : Bool) → filter p (xs ++ ys) ≡ filter p xs ++ filter p ys → cond b (x ∷ filter p (xs ++ ys)) (filter p (xs ++ ys)) ≡ cond b (x ∷ filter p xs) (filter p xs) ++ filter p ys
    go true e = ap (λ l. x ∷ l) e
    go false e = e

module _ (j : Work) (c : ℕ) (m : Msg) (is : is_back_message m ≡ false) where
  not-back : is_back j (c, m) ≡ false
  not-back = go (c == j.clerk) (is_back_message m) is
    where
      go : (a b : Bool) → b ≡ false → (a && b) ≡ false
      go true b e = e
      go false b e = refl

  pub main-more : (ms : Mail) → main j ((c, m) ∷ ms) ≡ (c, m) ∷ main j ms
  main-more ms = ap (λ b. cond (not b) ((c, m) ∷ main j ms) (main j ms)) not-back

  pub backs-more : (ms : Mail) → filter (is_back j) ((c, m) ∷ ms) ≡ filter (is_back j) ms
  backs-more ms = ap (λ b. cond b ((c, m) ∷ filter (is_back j) ms) (filter (is_back j) ms)) not-back
