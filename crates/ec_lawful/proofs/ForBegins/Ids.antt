-- The facts on fresh ids where a clerk takes ids, and where it takes a session.
use Rattle.std.proofs.Common.{◌≡◌, refl, sym, ap, subst, ◌∙◌, inl, inr, arith, ◌≤◌, ◌+◌, ◌==◌, ℕ, zero, suc, Bool, true, false, not, T, [], None, Some, append-nil}
use Rattle.std.specs.Prelude.{nat_le}
use Rattle.ec_base.specs.declared.counter.Counter.TheVariants as counter
use Rattle.ec_volume.specs.Update.{member}
use Rattle.ec_sessions.specs.Limits.{last_grants}
use Rattle.ec_sessions.specs.Slots.{run}
use Rattle.ec_wire.specs.declared.msg.Msg.{Msg}
use Rattle.ec_wire.specs.declared.msg.Msg.TheVariants.{Claim, Ids}
use Rattle.ec_protocol.specs.Clerk.{Doing, add_ids, send, spend, take_ids, taken, with_clerk}
use Rattle.ec_protocol.specs.declared.clerk.Clerk.{Clerk}
use Rattle.ec_coherence.specs.System.{System, Ghost}
use Rattle.ec_coherence.specs.Clerks.{acting}
use Rattle.ec_coherence.specs.Sessions.{HasNone}
use Rattle.ec_coherence.specs.Steps.{doing_in}
use Rattle.ec_coherence.specs.Tokens.{Fits, in_sixteen, is_untaken, side, view}
use Rattle.ec_coherence.proofs.ForClerk.Acting.{is-in, view-is}
use Rattle.ec_coherence.proofs.ForBatches.ClerkIn.{start-same}
use Rattle.ec_coherence.proofs.ForBatches.GivenIds.{run-in}
use Rattle.ec_coherence.proofs.ForBatches.Ids.{in-either}
use Rattle.ec_coherence.proofs.ForServer.Tables.{same_some}
use Rattle.ec_coherence.proofs.ForClerk.TakeGrant.{by-session}
use Rattle.ec_coherence.specs.CommitLaws.{AllAgree}
use Rattle.ec_lawful.specs.OfClerkSteps.DoingLaws.{IsIds, IsInHand}
use Rattle.ec_lawful.proofs.OfClerkSteps.ForDoings.Moving as moving
use Rattle.ec_lawful.specs.Fresh.{FreshAgrees, Hidden, IsIn, Stored, Taken}
use Rattle.ec_lawful.specs.FreshLaws.{HasOld}
use Rattle.ec_lawful.proofs.ForWhole.Goes.{goes-fresh}
use Rattle.ec_lawful.proofs.ForWhole.FreshSteps.{in-cases, step-fresh, twice}
use Rattle.ec_base.proofs.Bools.{left as and_first, not-both as no_both, and-both as and_both, is-true, holds-true as holds}
use Rattle.ec_base.proofs.Numbers.{same-self as same, equal}
use Rattle.ec_lawful.proofs.OfClerkSteps.ForDoings.StoredIds.{within}

-- Ids are taken.
module _ (g : System) (c b s : ℕ) (d : Doing) (γ : Ghost) (h : IsInHand g c b s d γ) (fa : FreshAgrees (doing_in c b d γ g)) where
  abbrev here : System
  here = doing_in c b d γ g

  all : AllAgree here
  all = let st = (h.under_way).stands in ((st.0).invariant, st.1, st.2, st.3)

  is-in-it : IsIn here c b s d.clerk
  is-in-it = record { stands = start-same c b d.clerk g.clerks; session = (h.under_way).session }

  module _ (n first : ℕ) (given : d.clerk.got + 1 ≡ γ.grants s) (is-first : first ≡ γ.first s) where
    abbrev e : Doing
    e = with_clerk (add_ids n first) d

    abbrev on : System
    on = doing_in c b e γ g

    -- the sixteen were in store
    was-hidden : (x : ℕ) → T (member x (run first 16)) → Hidden here c b x
    was-hidden x m =
        let r = run-in x first 16 m in
        (s, d.clerk, is-in-it, and_both (d.clerk.got + 1 == γ.grants s) (in_sixteen (γ.first s) x) (holds (d.clerk.got + 1 == γ.grants s) (ap (λ z. z == γ.grants s) given ∙ same (γ.grants s))) (subst (λ z. T (in_sixteen z x)) is-first (within x first r.0 r.1)))

    own-session : (a : ℕ) (j : Clerk) → e.clerk ≡ j → j.session ≡ Some a → a ≡ s
    own-session a j q r = same_some (sym (ap (λ z. z.session) q ∙ r) ∙ (h.under_way).session)

    -- now none is hidden
    none-left : (x : ℕ) → T (is_untaken (γ.grants s) (γ.first s) (Some (side e.clerk)) x) → ⊥
    none-left x t = absurd (let q = equal (d.clerk.got + 1 + 1) (γ.grants s) (is-true (d.clerk.got + 1 + 1 == γ.grants s) (and_first (d.clerk.got + 1 + 1 == γ.grants s) (in_sixteen (γ.first s) x) t)) in let z = given in omega arith)

    at-own : (F : ℕ → ℕ → Type 0) (f a : ℕ) → f ≡ c → a ≡ b → F c b → F f a
    at-own F f a p q x = subst (λ y. F y a) (sym p) (subst (F c) (sym q) x)

    taken-on : (f a x : ℕ) → Taken on f a x → Stored here f a x
    taken-on f a x (u, k, i, t) = elim (in-cases c b e.clerk here on (twice g c b d e γ γ e.clerk) f a u k i) [
      | inl q ↦ at-own (λ y z. Stored here y z x) f a q.0 q.1 (elim (in-either x d.clerk.ids (run first 16) (subst (λ z. T (member x z.ids)) (sym q.2) t)) [ inl m ↦ inl (s, d.clerk, is-in-it, m) | inr m ↦ inr (was-hidden x m) ])
      | inr j ↦ inl (u, k, j, t)
    ]

    hidden-on : (f a x : ℕ) → Hidden on f a x → Hidden here f a x
    hidden-on f a x (u, k, i, t) = elim (in-cases c b e.clerk here on (twice g c b d e γ γ e.clerk) f a u k i) [
      | inl q ↦ absurd (
          let w = own-session u k q.2 i.session in
          none-left x (subst (λ z. T (is_untaken (γ.grants z) (γ.first z) (Some (side e.clerk)) x)) w (subst (λ z. T (is_untaken (γ.grants u) (γ.first u) (Some (side z)) x)) (sym q.2) t)))
      | inr j ↦ (u, k, j, t)
    ]

    takes-them : AllAgree on → FreshAgrees on
    takes-them after = goes-fresh here on all after h.names [] (record { quiet = tt; origin = refl; first_boot = refl; next = omega arith; shown = sym (append-nil γ.shown); fresh = refl; taken = taken-on; hidden = λ f a x t. inl (hidden-on f a x t) }) fa

  pub ids-fresh : (m : Msg) → IsIds m → Fits (view here) m → AllAgree (doing_in c b (taken m d) γ g) → FreshAgrees (doing_in c b (taken m d) γ g)
  ids-fresh (Ids t a got n first) w f after = by-session (λ z. AllAgree (doing_in c b z γ g) → FreshAgrees (doing_in c b z γ g)) d s t a (take_ids got n first) (h.under_way).session (λ z. fa) (λ p q. turn p q (got == d.clerk.got) refl) after
    where
      now : Fits (acting (view (record g { ghost = γ })) c s d) (Ids t a got n first)
      now = subst (λ v. Fits v (Ids t a got n first)) (view-is g c b s d γ (moving.own g c b s d γ h.under_way)) f

      turn : t ≡ s → a ≡ d.clerk.epoch → (z : Bool) → (got == d.clerk.got) ≡ z
          → AllAgree (doing_in c b (elim z as (λ y. Doing) [ false ↦ d | true ↦ elim (nat_le last_grants got) as (λ y. Doing) [ true ↦ spend counter.Id d | false ↦ with_clerk (add_ids n first) d ] ]) γ g)
          → FreshAgrees (doing_in c b (elim z as (λ y. Doing) [ false ↦ d | true ↦ elim (nat_le last_grants got) as (λ y. Doing) [ true ↦ spend counter.Id d | false ↦ with_clerk (add_ids n first) d ] ]) γ g)
      turn p q false r after = fa
      turn p q true r after = room (nat_le last_grants got) after
        where
          own : Fits (acting (view (record g { ghost = γ })) c s d) (Ids s d.clerk.epoch d.clerk.got n first)
          own = subst (λ z. Fits (acting (view (record g { ghost = γ })) c s d) (Ids s d.clerk.epoch z n first)) (equal got d.clerk.got r)
              (subst (λ z. Fits (acting (view (record g { ghost = γ })) c s d) (Ids s z got n first)) q (subst (λ z. Fits (acting (view (record g { ghost = γ })) c s d) (Ids z a got n first)) p now))

          given : d.clerk.got + 1 ≡ γ.grants s
          given = let x = own.3 in let z = ((moving.goes g c b s d γ h.under_way).agree.got s (side d.clerk) (is-in (view (record g { ghost = γ })) c s d)).3 in omega arith

          room : (z : Bool) → AllAgree (doing_in c b (elim z as (λ y. Doing) [ true ↦ spend counter.Id d | false ↦ with_clerk (add_ids n first) d ]) γ g) → FreshAgrees (doing_in c b (elim z as (λ y. Doing) [ true ↦ spend counter.Id d | false ↦ with_clerk (add_ids n first) d ]) γ g)
          room true after = step-fresh g c b d (spend counter.Id d) γ γ all after h.names [] tt (sym (append-nil γ.shown)) refl refl refl (inl (refl, refl, refl)) fa
          room false after = takes-them n first given (own.4 given) after
  ids-fresh _ w f after = absurd w

-- A session is taken.
module _ (g : System) (c b : ℕ) (d : Doing) (γ : Ghost) (all : AllAgree (doing_in c b d γ g)) (none : d.clerk.session ≡ None) (s e : ℕ) (untaken : T (not (γ.taken s))) where
  empty : HasNone d.clerk
  empty = (all.0).sessions.without c b d.clerk (start-same c b d.clerk g.clerks) none

  abbrev takes : Doing
  takes = send (Claim s e []) (with_clerk (λ k. record k { session = Some s; epoch = e }) d)

  pub opened-old : HasOld (doing_in c b d γ g) c b takes.clerk
  opened-old = inr (λ t q. (empty.ids, λ x u. apart t q (equal (d.clerk.got + 1) (γ.grants t) (is-true (d.clerk.got + 1 == γ.grants t) (and_first (d.clerk.got + 1 == γ.grants t) (in_sixteen (γ.first t) x) u)))))
    where
      apart : (t : ℕ) → Some s ≡ Some t → d.clerk.got + 1 ≡ γ.grants t → ⊥
      apart t p q = no_both (γ.taken s) (((all.0).tokens.given s (one (γ.grants s) d.clerk.got empty.got (q ∙ ap γ.grants (sym (same_some p))))).1) untaken
        where
          one : (n m : ℕ) → m ≡ 0 → m + 1 ≡ n → suc zero ≤ n
          one n m z y = omega arith
