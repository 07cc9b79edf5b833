-- Ids in store stay apart behind a change of one start, and where it takes them.
use Rattle.std.proofs.Common.{◌≡◌, ◌≢◌, refl, sym, ap, subst, ◌∙◌, inl, inr, ◌⊎◌, arith, ◌≤◌, ◌+◌, ℕ, zero, suc, Bool, true, false, not, ◌&&◌, ◌==◌, T, List, [], ◌++◌}
use Rattle.std.specs.Prelude.{Option, None, Some, nat_le}
use Rattle.std.proofs.lemmas.Bool.{and_parts}
use Rattle.ec_base.specs.Tables.{keys}
use Rattle.ec_base.specs.declared.counter.Counter.TheVariants as counter
use Rattle.ec_base.specs.declared.ids.Age.{Age}
use Rattle.ec_volume.specs.Update.{distinct, member}
use Rattle.ec_history.specs.declared.shown.Shown.{Shown}
use Rattle.ec_sessions.specs.Limits.{last_round}
use Rattle.ec_sessions.specs.declared.window.Window.{Window}
use Rattle.ec_log.specs.Log.{lost}
use Rattle.ec_wire.specs.declared.msg.Msg.{Msg}
use Rattle.ec_wire.specs.declared.msg.Msg.TheVariants.{Claim}
use Rattle.ec_protocol.specs.Clerk.{Doing, emit, has_session, hello, lose, same_age, send, spend, take_ended, take_opened, with_clerk, is_session}
use Rattle.ec_protocol.specs.declared.clerk.Clerk.{Clerk}
use Rattle.ec_protocol.specs.declared.clerk.Out.TheVariants as out
use Rattle.ec_coherence.specs.System.{System, Ghost, clerk_in, clerk_of, if_in, seen_ops, with_start}
use Rattle.ec_coherence.specs.Clerks.{take_session}
use Rattle.ec_coherence.specs.Sessions.{HasNone}
use Rattle.ec_coherence.specs.Tokens.{in_sixteen, is_hidden, is_untaken, side, side_in, view}
use Rattle.ec_coherence.specs.Steps.{calls_after, doing_in, sends}
use Rattle.ec_coherence.specs.ChangeLaws.{Calls}
use Rattle.ec_coherence.proofs.ForBatches.ClerkIn.{start-same}
use Rattle.ec_coherence.proofs.ForServer.Tables.{same_some}
use Rattle.ec_coherence.specs.CommitLaws.{AllAgree}
use Rattle.ec_lawful.specs.OfClerkSteps.Moves.{IsStill}
use Rattle.ec_lawful.specs.OfClerkSteps.Frees.{FreesAgree}
use Rattle.ec_lawful.specs.OfClerkSteps.Zeros.{LeaveOut}
use Rattle.ec_base.proofs.Bools.{left as and_first, not-both as no_both, holds-true as holds}
use Rattle.ec_base.proofs.Numbers.{same-self as same, equal}
use Rattle.ec_base.proofs.Options.{none_some}

-- Nothing that they read changes.
module _ (g h : System) (fa : FreesAgree g) (origin : h.origin ≡ g.origin) (clerks : h.clerks ≡ g.clerks) (kept : h.ghost.kept ≡ g.ghost.kept) (frozen : h.ghost.frozen ≡ g.ghost.frozen) (owner : h.ghost.owner ≡ g.ghost.owner)
    (grants : h.ghost.grants ≡ g.ghost.grants) (first : h.ghost.first ≡ g.ghost.first) where
  same-in : (s : ℕ) → clerk_in h s ≡ clerk_in g s
  same-in s = ap (λ o. clerk_of s (o s) h.clerks) owner ∙ ap (clerk_of s (g.ghost.owner s)) clerks

  same-hidden : (s x : ℕ) → is_hidden (view h) s x ≡ is_hidden (view g) s x
  same-hidden s x = ap (λ o. is_untaken (h.ghost.grants s) (h.ghost.first s) (side_in o) x) (same-in s) ∙ ap (λ f. is_untaken (f s) (h.ghost.first s) (side_in (clerk_in g s)) x) grants ∙ ap (λ f. is_untaken (g.ghost.grants s) (f s) (side_in (clerk_in g s)) x) first

  pub frees-read : FreesAgree h
  frees-read = record {
    unused = λ s x k e w.
        let q = fa.unused s x k (sym (same-in s) ∙ e) (elim w [ inl t ↦ inl t | inr t ↦ inr (subst T (same-hidden s x) t) ]) in
        (subst (λ o. LeaveOut x (seen_ops o h.ghost.kept)) (ap (λ f. f s) (sym frozen)) (subst (λ os. LeaveOut x (seen_ops (g.ghost.frozen s) os)) (sym kept) q.0), ap (λ f. f x) origin ∙ q.1);
    once = λ s k e. fa.once s k (sym (same-in s) ∙ e);
  }

pub frees-begin : (g : System) → g.clerks ≡ (λ c b. None) → FreesAgree g
frees-begin g clerks = record { unused = λ s x k e w. absurd (none_some (sym (nobody s) ∙ e)); once = λ s k e. absurd (none_some (sym (nobody s) ∙ e)) }
  where
    nobody : (s : ℕ) → clerk_in g s ≡ None
    nobody s = ap (clerk_of s (g.ghost.owner s)) clerks ∙ go (g.ghost.owner s)
      where
        go : (o : Option (ℕ × Age)) → clerk_of s o (λ c b. None) ≡ None
        go None = refl
        go (Some o) = refl

-- One start changes.

pub if-some : (s : ℕ) (k m : Clerk) → if_in s (Some k) ≡ Some m → (k ≡ m) × (k.session ≡ Some s)
if-some s k m p = go (is_session s k.session) refl p
  where
    session : (o : Option ℕ) → is_session s o ≡ true → o ≡ Some s
    session None e = absurd (cc)
    session (Some t) e = ap Some (sym (equal s t e))

    go : (z : Bool) → is_session s k.session ≡ z → elim z as (λ y. Option Clerk) [ true ↦ Some k | false ↦ None ] ≡ Some m → (k ≡ m) × (k.session ≡ Some s)
    go true e q = (same_some q, session k.session e)
    go false e q = absurd (none_some q)

pub some-if : (s : ℕ) (k : Clerk) → k.session ≡ Some s → if_in s (Some k) ≡ Some k
some-if s k e = ap (λ o. elim (is_session s o) as (λ y. Option Clerk) [ true ↦ Some k | false ↦ None ]) e ∙ ap (λ z. elim z as (λ y. Option Clerk) [ true ↦ Some k | false ↦ None ]) (same s)

-- it's in the session with these ids, as before; or it has none at all
abbrev pub StoredAs : System → System → ℕ → Clerk → Type 0
StoredAs g h s k =
    ((m : Clerk) × (clerk_in g s ≡ Some m) × ((x : ℕ) → T (member x k.ids) ⊎ T (is_hidden (view h) s x) → T (member x m.ids) ⊎ T (is_hidden (view g) s x)) × (T (distinct m.ids) → T (distinct k.ids)))
    ⊎ ((k.ids ≡ []) × ((x : ℕ) → T (is_hidden (view h) s x) → ⊥))

pub frees-stored : (g h : System) → FreesAgree g → h.origin ≡ g.origin → h.ghost.kept ≡ g.ghost.kept → h.ghost.frozen ≡ g.ghost.frozen → ((s : ℕ) (k : Clerk) → clerk_in h s ≡ Some k → StoredAs g h s k) → FreesAgree h
frees-stored g h fa origin kept frozen stored = record {
  unused = λ s x k e w. elim (stored s k e) [
    | inl m ↦
        let q = fa.unused s x m.0 m.1 (m.2 x w) in
        (subst (λ o. LeaveOut x (seen_ops o h.ghost.kept)) (ap (λ f. f s) (sym frozen)) (subst (λ os. LeaveOut x (seen_ops (g.ghost.frozen s) os)) (sym kept) q.0), ap (λ f. f x) origin ∙ q.1)
    | inr n ↦ absurd (elim w [ inl t ↦ subst (λ z. T (member x z)) n.0 t | inr t ↦ n.1 x t ])
  ];
  once = λ s k e. elim (stored s k e) [ inl m ↦ m.3 (fa.once s m.0 m.1) | inr n ↦ subst (λ z. T (distinct z)) (sym n.0) tt ];
}

module _ (g : System) (fa : FreesAgree g) (c b : ℕ) (now : Clerk) (running : ℕ → Option ℕ) (boots : ℕ → ℕ) (calls : Calls) (p : List (ℕ × Msg)) (γ : Ghost) (owner : γ.owner ≡ g.ghost.owner) (grants : γ.grants ≡ g.ghost.grants) (first : γ.first ≡ g.ghost.first)
    (kept : γ.kept ≡ g.ghost.kept) (frozen : γ.frozen ≡ g.ghost.frozen) where
  abbrev h : System
  h = record g { clerks = with_start c b now g.clerks; running = running; boots = boots; calls = calls; pool = p; ghost = γ }

  -- of a clerk with as many ids taken the same are hidden
  hidden-as : (s x : ℕ) (k m : Clerk) → clerk_in h s ≡ Some k → clerk_in g s ≡ Some m → k.got ≡ m.got → is_hidden (view h) s x ≡ is_hidden (view g) s x
  hidden-as s x k m e f q =
      ap (λ o. is_untaken (γ.grants s) (γ.first s) (side_in o) x) e ∙ ap (λ z. (z + 1 == γ.grants s) && in_sixteen (γ.first s) x) q ∙ ap (λ z. (m.got + 1 == z s) && in_sixteen (γ.first s) x) grants ∙ ap (λ z. (m.got + 1 == g.ghost.grants s) && in_sixteen (z s) x) first
      ∙ sym (ap (λ o. is_untaken (g.ghost.grants s) (g.ghost.first s) (side_in o) x) f)

  pub one-keeps : ((s : ℕ) (m : Clerk) → now ≡ m → now.session ≡ Some s → clerk_in h s ≡ Some m → if_in s (g.clerks c b) ≡ clerk_in g s → StoredAs g h s m) → FreesAgree h
  one-keeps its = frees-stored g h fa refl kept frozen (λ s m q. by s m q (g.ghost.owner s) refl (ap (λ f. clerk_of s (f s) h.clerks) (sym owner) ∙ q))
    where
      by : (s : ℕ) (m : Clerk) → clerk_in h s ≡ Some m → (o : Option (ℕ × Age)) → g.ghost.owner s ≡ o → clerk_of s o h.clerks ≡ Some m → StoredAs g h s m
      by s m q None e r = absurd (none_some r)
      by s m q (Some o) e r = go ((o.0 == c) && ((o.1).boot == b)) refl r
        where
          go : (z : Bool) → ((o.0 == c) && ((o.1).boot == b)) ≡ z → if_in s (elim z as (λ y. Option Clerk) [ true ↦ Some now | false ↦ g.clerks o.0 (o.1).boot ]) ≡ Some m → StoredAs g h s m
          go true f t =
              let two = and_parts (o.0 == c) ((o.1).boot == b) f in
              let w = if-some s now m t in
              its s m w.0 w.1 q (sym (ap (λ z. clerk_of s z g.clerks) e ∙ ap (λ z. if_in s (g.clerks z (o.1).boot)) (equal o.0 c two.0) ∙ ap (λ z. if_in s (g.clerks c z)) (equal (o.1).boot b two.1)))
          go false f t = let there : clerk_in g s ≡ Some m = ap (λ z. clerk_of s z g.clerks) e ∙ t in inl (m, there, (λ x w. elim w [ inl i ↦ inl i | inr i ↦ inr (subst T (hidden-as s x m m q there refl) i) ]), λ i. i)

  pub clerks-keep-frees : ((k : Clerk) × (g.clerks c b ≡ Some k) × IsStill k now) ⊎ (now.session ≡ None) → FreesAgree h
  clerks-keep-frees placed = one-keeps (λ s m e session q path. elim placed [
    | inr none ↦ absurd (none_some (sym none ∙ session))
    | inl x ↦
        let there : clerk_in g s ≡ Some x.0 = sym path ∙ ap (if_in s) x.1 ∙ some-if s x.0 (sym (x.2).0 ∙ session) in
        let ids : m.ids ≡ (x.0).ids = ap (λ z. z.ids) (sym e) ∙ (x.2).2 in
        inl (
          x.0,
          there,
          (λ y w. elim w [ inl i ↦ inl (subst (λ z. T (member y z)) ids i) | inr i ↦ inr (subst T (hidden-as s y m x.0 q there (ap (λ z. z.got) (sym e) ∙ (x.2).1)) i) ]),
          λ i. subst (λ z. T (distinct z)) (sym ids) i,
        )
  ])

  -- a session is taken, for which nothing was given
  pub fresh-keeps : now.ids ≡ [] → ((s : ℕ) → now.session ≡ Some s → now.got + 1 ≢ g.ghost.grants s) → FreesAgree h
  fresh-keeps none apart = one-keeps (λ s m e session q path. inr (ap (λ z. z.ids) (sym e) ∙ none, λ x t. hidden s x m e session (subst (λ o. T (is_untaken (γ.grants s) (γ.first s) (side_in o) x)) q t)))
    where
      hidden : (s x : ℕ) (m : Clerk) → now ≡ m → now.session ≡ Some s → T (is_untaken (γ.grants s) (γ.first s) (Some (side m)) x) → ⊥
      hidden s x m e session t = apart s session (ap (λ z. z.got + 1) e ∙ equal (m.got + 1) (γ.grants s) (Rattle.ec_base.proofs.Bools.is-true (m.got + 1 == γ.grants s) (and_first (m.got + 1 == γ.grants s) (in_sixteen (γ.first s) x) t)) ∙ ap (λ f. f s) grants)

-- A step under way.

module _ (g : System) (c b : ℕ) (d : Doing) (γ : Ghost) (fa : FreesAgree (doing_in c b d γ g)) where
  abbrev here : System
  here = doing_in c b d γ g

  twice : (k : Clerk) → with_start c b k here.clerks ≡ with_start c b k g.clerks
  twice k = λ j x y. point ((x == c) && (y == b)) x y j
    where
      point : (z : Bool) (x y : ℕ) → elim z as (λ o. Option Clerk) [ true ↦ Some k | false ↦ elim z as (λ o. Option Clerk) [ true ↦ Some d.clerk | false ↦ g.clerks x y ] ] ≡ elim z as (λ o. Option Clerk) [ true ↦ Some k | false ↦ g.clerks x y ]
      point true x y = refl
      point false x y = refl

  -- the system with another clerk, of this step
  pub in-step : (e : Doing) (δ : Ghost) → FreesAgree (record here { clerks = with_start c b e.clerk here.clerks; running = here.running; boots = here.boots; calls = calls_after c e.outs g.calls; pool = g.pool ++ sends c e.outs; ghost = δ }) → FreesAgree (doing_in c b e δ g)
  in-step e δ a = subst (λ f. FreesAgree (record g { clerks = f; calls = calls_after c e.outs g.calls; pool = g.pool ++ sends c e.outs; ghost = δ })) (twice e.clerk) a

  module _ (e : Doing) (δ : Ghost) (owner : δ.owner ≡ γ.owner) (grants : δ.grants ≡ γ.grants) (first : δ.first ≡ γ.first) (kept : δ.kept ≡ γ.kept) (frozen : δ.frozen ≡ γ.frozen) where
    pub stills-keep : IsStill d.clerk e.clerk ⊎ (e.clerk.session ≡ None) → FreesAgree (doing_in c b e δ g)
    stills-keep placed = in-step e δ (clerks-keep-frees here fa c b e.clerk here.running here.boots (calls_after c e.outs g.calls) (g.pool ++ sends c e.outs) δ owner grants first kept frozen (elim placed [
      | inl i ↦ inl (d.clerk, start-same c b d.clerk g.clerks, i)
      | inr n ↦ inr n
    ]))

    pub freshes-keep : e.clerk.ids ≡ [] → ((s : ℕ) → e.clerk.session ≡ Some s → e.clerk.got + 1 ≢ γ.grants s) → FreesAgree (doing_in c b e δ g)
    freshes-keep none apart = in-step e δ (fresh-keeps here fa c b e.clerk here.running here.boots (calls_after c e.outs g.calls) (g.pool ++ sends c e.outs) δ owner grants first kept frozen none apart)

  pub opened-keeps-frees : AllAgree here → d.clerk.session ≡ None → (age : Age) (s e : ℕ) → T (not (γ.taken s)) → FreesAgree (doing_in c b (take_opened age s e d) (take_session s γ) g)
  opened-keeps-frees all none age s e untaken = go (not (has_session d.clerk) && same_age age d.clerk.age)
    where
      empty : HasNone d.clerk
      empty = (all.0).sessions.without c b d.clerk (start-same c b d.clerk g.clerks) none

      apart : (t : ℕ) → Some s ≡ Some t → d.clerk.got + 1 ≢ γ.grants t
      apart t p q = no_both (γ.taken s) (((all.0).tokens.given s (one (γ.grants s) d.clerk.got empty.got (q ∙ ap γ.grants (sym (same_some p))))).1) untaken
        where
          one : (n m : ℕ) → m ≡ 0 → m + 1 ≡ n → suc zero ≤ n
          one n m z y = omega arith

      go : (z : Bool) → FreesAgree (doing_in c b (elim z as (λ y. Doing) [ true ↦ send (Claim s e []) (with_clerk (λ k. record k { session = Some s; epoch = e }) d) | false ↦ d ]) (take_session s γ) g)
      go true = freshes-keep (send (Claim s e []) (with_clerk (λ k. record k { session = Some s; epoch = e }) d)) (take_session s γ) refl refl refl refl refl empty.ids apart
      go false = stills-keep d (take_session s γ) refl refl refl refl refl (inl (refl, refl, refl))

  pub ended-keeps-frees : (w : Window) (ls : List Shown) → FreesAgree (doing_in c b (take_ended w d) (record γ { shown = ls }) g)
  ended-keeps-frees w ls = go (nat_le last_round d.clerk.age.round)
    where
      go : (z : Bool) → FreesAgree (doing_in c b (elim z as (λ y. Doing) [
        | true ↦ spend counter.Round d
        | false ↦ hello (emit (out.Told (keys (lost w d.clerk.log))) (with_clerk (lose (lost w d.clerk.log)) d))
      ]) (record γ { shown = ls }) g)
      go true = stills-keep (spend counter.Round d) (record γ { shown = ls }) refl refl refl refl refl (inl (refl, refl, refl))
      go false = stills-keep (hello (emit (out.Told (keys (lost w d.clerk.log))) (with_clerk (lose (lost w d.clerk.log)) d))) (record γ { shown = ls }) refl refl refl refl refl (inr refl)
