-- What is named stays so behind a change of one start of a clerk.
use Rattle.std.proofs.Common.{◌≡◌, ◌≢◌, refl, sym, ap, subst, ◌∙◌, inl, inr, arith, ◌≤◌, ◌+◌, ℕ, zero, suc, Bool, true, false, not, ◌&&◌, ◌==◌, T, List, [], ◌∷◌, ◌++◌}
use Rattle.std.specs.Prelude.{Option, None, Some, nat_le}
use Rattle.std.proofs.lemmas.Bool.{and_parts}
use Rattle.ec_base.specs.Tables.{at, keys}
use Rattle.ec_base.specs.declared.counter.Counter.TheVariants as counter
use Rattle.ec_base.specs.declared.ids.Age.{Age}
use Rattle.ec_volume.specs.Update.{member, operands, root}
use Rattle.ec_volume.specs.declared.update.Update.{Update}
use Rattle.ec_plain.specs.declared.call.Call.{Call}
use Rattle.ec_plain.specs.declared.call.Outcome.{Outcome}
use Rattle.ec_history.specs.History.{Each, History, Op}
use Rattle.ec_history.specs.declared.entry.Answer.{Answer}
use Rattle.ec_history.specs.declared.shown.Shown.{Shown}
use Rattle.ec_sessions.specs.Limits.{last_round}
use Rattle.ec_sessions.specs.declared.window.Window.{Window}
use Rattle.ec_cache.specs.Cache.{images_held}
use Rattle.ec_cache.specs.declared.state.Held.{Held}
use Rattle.ec_log.specs.Log.{lost}
use Rattle.ec_cache.specs.declared.resolve.verdict.Verdict.{Verdict}
use Rattle.ec_cache.specs.declared.resolve.verdict.Verdict.TheVariants.{Need, Lost, NeedIds, Done}
use Rattle.ec_wire.specs.declared.msg.Msg.{Msg}
use Rattle.ec_wire.specs.declared.msg.Msg.TheVariants.{Claim}
use Rattle.ec_protocol.specs.Clerk.{Doing, emit, has_session, hello, lose, same_age, send, spend, take_ended, take_opened, verdict, with_clerk}
use Rattle.ec_protocol.specs.declared.clerk.Clerk.{Clerk}
use Rattle.ec_protocol.specs.declared.clerk.Out.{Out}
use Rattle.ec_protocol.specs.declared.clerk.Out.TheVariants as out
use Rattle.ec_coherence.specs.System.{System, Ghost, clerk_in, clerk_of, if_in, with_start}
use Rattle.ec_coherence.specs.Clerks.{take_session}
use Rattle.ec_coherence.specs.Tokens.{Names, TokensAgree, side, side_in, view}
use Rattle.ec_coherence.specs.Images.{ImagesAgree}
use Rattle.ec_coherence.specs.Steps.{calls_after, doing_in, sends}
use Rattle.ec_coherence.specs.ChangeLaws.{Calls}
use Rattle.ec_coherence.proofs.ForBatches.ClerkIn.{start-same}
use Rattle.ec_coherence.proofs.ForServer.Lists.{each-at, each-member, each-more}
use Rattle.ec_coherence.proofs.ForClerk.SendClaim.{held-names}
use Rattle.ec_coherence.proofs.ForServer.Tables.{same_some}
use Rattle.ec_coherence.specs.CommitLaws.{AllAgree}
use Rattle.ec_coherence.specs.Answers.{op_given}
use Rattle.ec_coherence.specs.Comes.{after_answer, ops_next}
use Rattle.ec_lawful.specs.OfClerkSteps.Names.{AreOnNamed, NamesAgree}
use Rattle.ec_lawful.proofs.OfClerkSteps.ForDoings.Entries.{Of}
use Rattle.ec_lawful.proofs.OfClerkSteps.ForDoings.Naming.{done-named, held-named}
use Rattle.ec_lawful.specs.OfClerkSteps.Follows.{IsPlaced, WasIn}
use Rattle.ec_lawful.proofs.OfClerkSteps.ForNames.NameFrames.{names-follow, names-read}
use Rattle.ec_base.proofs.Numbers.{equal}
use Rattle.ec_base.proofs.Options.{none_some}
use Rattle.ec_lawful.proofs.OfClerkSteps.ForDoings.FreesStored.{if-some, some-if}
use Rattle.ec_base.proofs.Bools.{not-both as no_both}

-- What is held, and what is issued.

pub held-is-named : (g : System) → TokensAgree (view g) → (s : ℕ) (k : Clerk) → clerk_in g s ≡ Some k → (x : ℕ) (o : Held) → at x k.cache.held ≡ Some o → Names (view g) x
held-is-named g agree s k there x o e = held-names (view g) s (side k) agree (ap side_in there) (omega arith) x o e

module _ (g : System) (k : Clerk) (cl : Call) (is-root : Names (view g) root) (names : (x : ℕ) → Of (Names (view g)) (images_held k.cache x)) (ids : Each (Names (view g)) k.ids) (c b p : ℕ) where
  given-named : AreOnNamed g (op_given c b p k (verdict cl k))
  given-named = go (verdict cl k) refl
    where
      by-update : (o : Outcome) → verdict cl k ≡ Done o → (u : Option Update) → o.update ≡ u → AreOnNamed g (elim u as (λ z. List Op) [ None ↦ [] | Some w ↦ record { clerk = c; boot = b; number = k.log.next; place = p; update = w } ∷ [] ])
      by-update o e None q = tt
      by-update o e (Some w) q = (done-named (Names (view g)) is-root cl k names ids o e w q, tt)

      go : (v : Verdict) → verdict cl k ≡ v → AreOnNamed g (op_given c b p k v)
      go (Need x h) e = tt
      go (Lost ns xs) e = tt
      go (NeedIds xs) e = tt
      go (Done o) e = by-update o e o.update refl

pub ops-named : (g : System) → NamesAgree g → ImagesAgree g → (s : ℕ) (k : Clerk) → clerk_in g s ≡ Some k → (c b p : ℕ) (cl : Call) → AreOnNamed g (op_given c b p k (verdict cl k))
ops-named g na im s k there c b p cl = given-named g k cl na.root (held-named g na im s k there) (na.ids s k there) c b p

-- One start changes.

module _ (g : System) (na : NamesAgree g) (c b : ℕ) (now : Clerk) (placed : IsPlaced g c b now) (running : ℕ → Option ℕ) (boots : ℕ → ℕ) (calls : Calls) (p : List (ℕ × Msg)) (γ : Ghost)
    (owner : γ.owner ≡ g.ghost.owner) (grants : γ.grants ≡ g.ghost.grants) (first : γ.first ≡ g.ghost.first) where
  abbrev h : System
  h = record g { clerks = with_start c b now g.clerks; running = running; boots = boots; calls = calls; pool = p; ghost = γ }

  -- of the start itself
  its : (s : ℕ) → g.ghost.owner s ≡ g.ghost.owner s → (m : Clerk) → now ≡ m → now.session ≡ Some s → (if_in s (g.clerks c b) ≡ clerk_in g s) → WasIn g h s m
  its s q m e session path = elim placed [
    | inl x ↦ inl (
      x.0,
      sym path ∙ ap (if_in s) x.1 ∙ some-if s x.0 (sym x.2 ∙ session),
      ap (λ z. z.got) (sym e) ∙ x.3,
      λ i. subst (λ z. Each (Names (view g)) z.ids) e (each-member (Names (view g)) now.ids (λ y t. each-at (Names (view g)) y (x.0).ids i (x.4 y t))),
    )
    | inr r ↦ elim r [
      | inl none ↦ absurd (none_some (sym none ∙ session))
      | inr y ↦ inr (ap (λ z. z.ids) (sym e) ∙ y.0, λ z. y.1 s session (ap (λ z. z.got + 1) e ∙ z ∙ ap (λ f. f s) grants))
    ]
  ]

  in-h : (s : ℕ) (m : Clerk) → clerk_in h s ≡ Some m → WasIn g h s m
  in-h s m q = by (g.ghost.owner s) refl (ap (λ f. clerk_of s (f s) h.clerks) (sym owner) ∙ q)
    where
      by : (o : Option (ℕ × Age)) → g.ghost.owner s ≡ o → clerk_of s o h.clerks ≡ Some m → WasIn g h s m
      by None e r = absurd (none_some r)
      by (Some o) e r = go ((o.0 == c) && ((o.1).boot == b)) refl r
        where
          go : (z : Bool) → ((o.0 == c) && ((o.1).boot == b)) ≡ z → if_in s (elim z as (λ y. Option Clerk) [ true ↦ Some now | false ↦ g.clerks o.0 (o.1).boot ]) ≡ Some m → WasIn g h s m
          go true f t =
              let two = and_parts (o.0 == c) ((o.1).boot == b) f in
              let w = if-some s now m t in
              its s refl m w.0 w.1 (sym (ap (λ z. clerk_of s z g.clerks) e ∙ ap (λ z. if_in s (g.clerks z (o.1).boot)) (equal o.0 c two.0) ∙ ap (λ z. if_in s (g.clerks c z)) (equal (o.1).boot b two.1)))
          go false f t = inl (m, ap (λ z. clerk_of s z g.clerks) e ∙ t, refl, λ i. i)

  pub clerks-keep : AreOnNamed g γ.kept → ((s : ℕ) (ks : List Op) → γ.frozen s ≡ Some ks → AreOnNamed g ks) → NamesAgree h
  clerks-keep kept frozen = names-follow g h na (record {
    origin = refl;
    next = omega arith;
    ghosts = record { kept = kept; frozen = frozen; given = λ s. inl (ap (λ f. f s) grants, ap (λ f. f s) first) };
    clerks = in-h;
  })

-- An answer.

module _ (g : System) (all : AllAgree g) (na : NamesAgree g) (c b : ℕ) (k : Clerk) (there : g.clerks c b ≡ Some k) where
  in-session : (s : ℕ) → k.session ≡ Some s → clerk_in g s ≡ Some k
  in-session s q =
      let sa = (all.0).sessions in
      ap (λ o. clerk_of s o g.clerks) (sa.in_session c b s k there q).0 ∙ ap (λ z. if_in s (g.clerks c z)) (sa.starts c b k there).1 ∙ ap (if_in s) there ∙ some-if s k q

  issued-named : (cl : Call) → AreOnNamed g (ops_next g c b cl k)
  issued-named cl = by k.session refl
    where
      by : (o : Option ℕ) → k.session ≡ o → AreOnNamed g (ops_next g c b cl k)
      by (Some s) q = ops-named g na (all.0).images s k (in-session s q) c b _ cl
      by None q =
          let none = (all.0).sessions.without c b k there q in
          given-named g k cl na.root (λ x. subst (λ z. Of (Names (view g)) (images_held z x)) (sym none.cache) tt) (subst (Each (Names (view g))) (sym none.ids) tt) c b _

  pub answers-keep : (d : Doing) → d.clerk.session ≡ k.session → d.clerk.got ≡ k.got → ((x : ℕ) → T (member x d.clerk.ids) → T (member x k.ids)) → (l : ℕ) (cl : Call) (a : Answer) (op : Option ℕ) → NamesAgree (after_answer g c b k d l cl a op)
  answers-keep d session got fewer l cl a op =
      let h = after_answer g c b k d l cl a op in
      clerks-keep g na c b d.clerk (inl (k, there, session, got, fewer)) g.running g.boots h.calls h.pool h.ghost refl refl refl
      (each-more (λ o. Each (Names (view g)) (operands o.update)) g.ghost.kept (ops_next g c b cl k) na.kept (issued-named cl)) na.frozen

-- A step under way.

module _ (g : System) (c b : ℕ) (d : Doing) (γ : Ghost) (na : NamesAgree (doing_in c b d γ g)) where
  abbrev here : System
  here = doing_in c b d γ g

  pub outs-keep : (os : List Out) (ls : List Shown) (hs : History) → NamesAgree (doing_in c b (record d { outs = os }) (record γ { shown = ls; history = hs }) g)
  outs-keep os ls hs = names-read here (doing_in c b (record d { outs = os }) (record γ { shown = ls; history = hs }) g) na refl refl (omega arith) refl refl refl refl refl

  twice : (k : Clerk) → with_start c b k here.clerks ≡ with_start c b k g.clerks
  twice k = λ j x y. point ((x == c) && (y == b)) x y j
    where
      point : (z : Bool) (x y : ℕ) → elim z as (λ o. Option Clerk) [ true ↦ Some k | false ↦ elim z as (λ o. Option Clerk) [ true ↦ Some d.clerk | false ↦ g.clerks x y ] ] ≡ elim z as (λ o. Option Clerk) [ true ↦ Some k | false ↦ g.clerks x y ]
      point true x y = refl
      point false x y = refl

  -- the clerk becomes this one
  becomes : (e : Doing) → IsPlaced here c b e.clerk → (δ : Ghost) → δ.owner ≡ γ.owner → δ.grants ≡ γ.grants → δ.first ≡ γ.first → δ.kept ≡ γ.kept → δ.frozen ≡ γ.frozen → NamesAgree (doing_in c b e δ g)
  becomes e placed δ owner grants first kept frozen =
      subst (λ f. NamesAgree (record g { clerks = f; calls = calls_after c e.outs g.calls; pool = g.pool ++ sends c e.outs; ghost = δ })) (twice e.clerk)
      (clerks-keep here na c b e.clerk placed here.running here.boots (calls_after c e.outs g.calls) (g.pool ++ sends c e.outs) δ owner grants first (subst (AreOnNamed here) (sym kept) na.kept) (λ s ks q. na.frozen s ks (ap (λ f. f s) (sym frozen) ∙ q)))

  pub opened-keeps : AllAgree here → d.clerk.session ≡ None → (age : Age) (s e : ℕ) → T (not (γ.taken s)) → NamesAgree (doing_in c b (take_opened age s e d) (take_session s γ) g)
  opened-keeps all none age s e untaken = go (not (has_session d.clerk) && same_age age d.clerk.age)
    where
      empty : Rattle.ec_coherence.specs.Sessions.HasNone d.clerk
      empty = (all.0).sessions.without c b d.clerk (start-same c b d.clerk g.clerks) none

      apart : (t : ℕ) → Some s ≡ Some t → d.clerk.got + 1 ≢ γ.grants t
      apart t p q = no_both (γ.taken s) (((all.0).tokens.given s (one (γ.grants s) d.clerk.got empty.got (q ∙ ap γ.grants (sym (same_some p))))).1) untaken
        where
          one : (n m : ℕ) → m ≡ 0 → m + 1 ≡ n → suc zero ≤ n
          one n m z y = omega arith

      go : (z : Bool) → NamesAgree (doing_in c b (elim z as (λ y. Doing) [ true ↦ send (Claim s e []) (with_clerk (λ k. record k { session = Some s; epoch = e }) d) | false ↦ d ]) (take_session s γ) g)
      go true = becomes (send (Claim s e []) (with_clerk (λ k. record k { session = Some s; epoch = e }) d)) (inr (inr (empty.ids, apart))) (take_session s γ) refl refl refl refl refl
      go false = names-read here (doing_in c b d (take_session s γ) g) na refl refl (omega arith) refl refl refl refl refl

  pub ended-keeps : (w : Window) (ls : List Shown) → NamesAgree (doing_in c b (take_ended w d) (record γ { shown = ls }) g)
  ended-keeps w ls = go (nat_le last_round d.clerk.age.round)
    where
      go : (z : Bool) → NamesAgree (doing_in c b (elim z as (λ y. Doing) [
        | true ↦ spend counter.Round d
        | false ↦ hello (emit (out.Told (keys (lost w d.clerk.log))) (with_clerk (lose (lost w d.clerk.log)) d))
      ]) (record γ { shown = ls }) g)
      go true = names-read here (doing_in c b (spend counter.Round d) (record γ { shown = ls }) g) na refl refl (omega arith) refl refl refl refl refl
      go false = becomes (hello (emit (out.Told (keys (lost w d.clerk.log))) (with_clerk (lose (lost w d.clerk.log)) d))) (inr (inl refl)) (record γ { shown = ls }) refl refl refl refl refl
