-- The small functions of a clerk, on the whole system.
use Rattle.std.proofs.Common.{◌≡◌, refl, sym, ap, subst, ◌∙◌, ℕ, Bool, true, false, not, ◌&&◌, T, [], ◌∷◌, ◌++◌}
use Rattle.std.specs.Prelude.{◌==◌, Option, None, Some}
use Rattle.ec_base.specs.declared.ids.Age.{Age}
use Rattle.ec_wire.specs.declared.msg.Msg.{Msg}
use Rattle.ec_wire.specs.declared.msg.Msg.TheVariants.{Hello, Claim, Opened}
use Rattle.ec_protocol.specs.declared.clerk.Clerk.{Clerk}
use Rattle.ec_protocol.specs.declared.clerk.Out.TheVariants as out
use Rattle.ec_protocol.specs.Clerk.{Doing, send, hello, with_clerk, is_session}
use Rattle.ec_coherence.specs.Clerks.{take_session}
use Rattle.ec_coherence.specs.System.{System, Ghost, at_session, with_start, clerk_of, if_in}
use Rattle.ec_coherence.specs.Sessions.{HasNone, SessionsAgree}
use Rattle.ec_coherence.specs.Steps.{sends, doing_in}
use Rattle.ec_coherence.specs.Tokens.{View, Side, side, side_in, view, Fits, TokensAgree}
use Rattle.ec_coherence.proofs.ForClerk.Acting.{IsIn, view-is, sends-more}
use Rattle.ec_coherence.proofs.ForClerk.Goes.{Goes}
use Rattle.ec_coherence.proofs.ForClerk.Leave.{left-agrees}
use Rattle.ec_coherence.proofs.ForClerk.Opened.{fresh, opened-claims}
use Rattle.ec_coherence.proofs.ForServer.Said.{with_pool}
use Rattle.ec_coherence.proofs.ForClerk.Sends.{sent, sent-agrees}
use Rattle.ec_base.proofs.Lists.{regroup as grouped}
use Rattle.ec_base.proofs.Numbers.{same-self as same, equal}

-- A step within the session.

module _ (g : System) (c b s : ℕ) (d : Doing) (γ : Ghost) (own : IsIn g γ c b s d.clerk) where
  abbrev w : View
  w = view (record g { ghost = γ })

  pub begins : TokensAgree (view (doing_in c b d γ g)) → Goes w c s d d
  begins agree = record { session = own.session; got = refl; agree = subst TokensAgree (view-is g c b s d γ own) agree }

  pub stays-in : (e : Doing) → Goes w c s d e → IsIn g γ c b s e.clerk
  stays-in e goes = record { session = goes.session; age = own.age; owner = own.owner; boot = own.boot; before = own.before }

  pub ends : (e : Doing) → Goes w c s d e → TokensAgree (view (doing_in c b e γ g))
  ends e goes = subst TokensAgree (sym (view-is g c b s e γ (stays-in e goes))) goes.agree

  -- what a small function keeps of the step, it keeps of the system
  pub kept : (f : Doing → Doing) → (Goes w c s d d → Goes w c s d (f d)) → TokensAgree (view (doing_in c b d γ g)) → TokensAgree (view (doing_in c b (f d) γ g))
  kept f keeps agree = ends (f d) (keeps (begins agree))

-- by the facts on sessions a clerk that is in one is its clerk
pub is-its : (g : System) (c b s : ℕ) (d : Doing) (γ : Ghost) → SessionsAgree (doing_in c b d γ g) → d.clerk.session ≡ Some s → ((t : ℕ) → (t == s) ≡ false → if_in t (g.clerks c b) ≡ None) → IsIn g γ c b s d.clerk
is-its g c b s d γ agree p before = record {
  session = p;
  age = d.clerk.age;
  owner = (agree.in_session c b s d.clerk place p).0;
  boot = (agree.starts c b d.clerk place).1;
  before = before;
}
  where
    both : (a e : Bool) → a ≡ true → e ≡ true → (a && e) ≡ true
    both a e p q = cc

    place : with_start c b d.clerk g.clerks c b ≡ Some d.clerk
    place = ap (λ z. elim z [ true ↦ Some d.clerk | false ↦ g.clerks c b ]) (both (c == c) (b == b) (same c) (same b))

-- One start of a clerk changes its session.

module _ (c b : ℕ) (k : Clerk) (clerks : ℕ → ℕ → Option Clerk) where
  pub on-start : (t : ℕ) (age : Age) → age.boot ≡ b → side_in (clerk_of t (Some (c, age)) (with_start c b k clerks)) ≡ side_in (if_in t (Some k))
  on-start t age p = ap (λ z. side_in (if_in t (elim z [ true ↦ Some k | false ↦ clerks c age.boot ]))) (both (c == c) (age.boot == b) (same c) (ap (λ z. z == b) p ∙ same b))
    where
      both : (a e : Bool) → a ≡ true → e ≡ true → (a && e) ≡ true
      both a e p q = cc

  pub off-start : (k' : Clerk) (t : ℕ) (o : Option (ℕ × Age)) → side_in (if_in t (Some k)) ≡ side_in (if_in t (Some k')) → side_in (clerk_of t o (with_start c b k clerks)) ≡ side_in (clerk_of t o (with_start c b k' clerks))
  off-start k' t None p = refl
  off-start k' t (Some o) p = go ((o.0 == c) && (o.1.boot == b))
    where
      go : (z : Bool) → side_in (if_in t (elim z [ true ↦ Some k | false ↦ clerks o.0 o.1.boot ])) ≡ side_in (if_in t (elim z [ true ↦ Some k' | false ↦ clerks o.0 o.1.boot ]))
      go true = p
      go false = refl

  pub if-other : (s t : ℕ) → k.session ≡ Some s → (t == s) ≡ false → side_in (if_in t (Some k)) ≡ None
  if-other s t p e = ap (λ z. side_in (elim (is_session t z) [ true ↦ Some k | false ↦ None ])) p ∙ ap (λ z. side_in (elim z [ true ↦ Some k | false ↦ None ])) e

  pub if-none : (t : ℕ) → k.session ≡ None → side_in (if_in t (Some k)) ≡ None
  if-none t p = ap (λ z. side_in (elim (is_session t z) [ true ↦ Some k | false ↦ None ])) p

  pub if-own : (s : ℕ) → k.session ≡ Some s → side_in (if_in s (Some k)) ≡ Some (side k)
  if-own s p = ap (λ z. side_in (elim (is_session s z) [ true ↦ Some k | false ↦ None ])) p ∙ ap (λ z. side_in (elim z [ true ↦ Some k | false ↦ None ])) (same s)

-- The session leaves: the clerk's start goes on without one.

module _ (g : System) (c b s : ℕ) (d : Doing) (γ : Ghost) (own : IsIn g γ c b s d.clerk) (k : Clerk) (gone : k.session ≡ None) where
  left-clerks : (t : ℕ) → side_in (clerk_of t (γ.owner t) (with_start c b k g.clerks)) ≡ at_session s None (λ t. side_in (clerk_of t (γ.owner t) (with_start c b d.clerk g.clerks))) t
  left-clerks t = go (t == s) refl
    where
      go : (z : Bool) → (t == s) ≡ z → side_in (clerk_of t (γ.owner t) (with_start c b k g.clerks)) ≡ (elim z as (λ y. Option Side) [ true ↦ None | false ↦ side_in (clerk_of t (γ.owner t) (with_start c b d.clerk g.clerks)) ])
      go true e = ap (λ u. side_in (clerk_of u (γ.owner u) (with_start c b k g.clerks))) (equal t s e) ∙ ap (λ o. side_in (clerk_of s o (with_start c b k g.clerks))) own.owner ∙ on-start c b k g.clerks s own.age own.boot ∙ if-none c b k g.clerks s gone
      go false e = off-start c b k g.clerks d.clerk t (γ.owner t) (if-none c b k g.clerks t gone ∙ sym (if-other c b d.clerk g.clerks s t own.session e))

  pub leaves : T (not ((view (doing_in c b d γ g)).is_open s)) → TokensAgree (view (doing_in c b d γ g)) → TokensAgree (view (doing_in c b (record d { clerk = k }) γ g))
  leaves over agree = subst TokensAgree (ap (λ f. record (view (doing_in c b d γ g)) { clerk = f }) (λ j t. sym (left-clerks t) j)) (left-agrees (view (doing_in c b d γ g)) s agree over)

-- A clerk says what isn't about tokens.
module _ (g : System) (c b : ℕ) (d : Doing) (γ : Ghost) where
  pub says : (m : Msg) → TokensAgree (view (doing_in c b d γ g)) → Fits (view (doing_in c b d γ g)) m → TokensAgree (view (doing_in c b (send m d) γ g))
  says m agree f = subst (λ p. TokensAgree (with_pool p (view (doing_in c b d γ g)))) (grouped g.pool (sends c d.outs) ((c, m) ∷ []) ∙ ap (λ z. g.pool ++ z) (sym (sends-more c d.outs (out.Send m ∷ []))))
      (sent-agrees (view (doing_in c b d γ g)) c m agree f)

  pub greets : TokensAgree (view (doing_in c b d γ g)) → TokensAgree (view (doing_in c b (hello d) γ g))
  greets agree = says (Hello d.clerk.id d.clerk.age) agree tt

-- A clerk takes a session.

module _ (g : System) (c b s e : ℕ) (age : Age) (d : Doing) (γ : Ghost) (owner : γ.owner s ≡ Some (c, age)) (boot : age.boot ≡ b) (empty : d.clerk.session ≡ None) (none : HasNone d.clerk) where
  abbrev k : Clerk
  k = record (d.clerk) { session = Some s; epoch = e }

  side-is : side k ≡ fresh e d.clerk.cache.capacity
  side-is = λ j. record { epoch = e; got = none.got j; cache = none.cache j; recalls = none.recalls j }

  took-clerks : (t : ℕ) → at_session s (Some (fresh e d.clerk.cache.capacity)) (λ t. side_in (clerk_of t (γ.owner t) (with_start c b d.clerk g.clerks))) t ≡ side_in (clerk_of t (γ.owner t) (with_start c b k g.clerks))
  took-clerks t = go (t == s) refl
    where
      go : (z : Bool) → (t == s) ≡ z → (elim z as (λ y. Option Side) [ true ↦ Some (fresh e d.clerk.cache.capacity) | false ↦ side_in (clerk_of t (γ.owner t) (with_start c b d.clerk g.clerks)) ]) ≡ side_in (clerk_of t (γ.owner t) (with_start c b k g.clerks))
      go true p = sym (ap (λ u. side_in (clerk_of u (γ.owner u) (with_start c b k g.clerks))) (equal t s p) ∙ ap (λ o. side_in (clerk_of s o (with_start c b k g.clerks))) owner ∙ on-start c b k g.clerks s age boot ∙ if-own c b k g.clerks s refl ∙ ap Some side-is)
      go false p = off-start c b d.clerk g.clerks k t (γ.owner t) (if-none c b d.clerk g.clerks t empty ∙ sym (if-other c b k g.clerks s t refl p))

  pub takes-session : TokensAgree (view (doing_in c b d γ g)) → T (not (γ.taken s)) → Fits (view (doing_in c b d γ g)) (Opened age s e)
      → TokensAgree (view (doing_in c b (send (Claim s e []) (with_clerk (λ k. record k { session = Some s; epoch = e }) d)) (take_session s γ) g))
  takes-session agree untaken fits =
      subst (λ p. TokensAgree (with_pool p (view (doing_in c b (with_clerk (λ k. record k { session = Some s; epoch = e }) d) (take_session s γ) g))))
      (grouped g.pool (sends c d.outs) ((c, Claim s e []) ∷ []) ∙ ap (λ z. g.pool ++ z) (sym (sends-more c d.outs (out.Send (Claim s e []) ∷ []))))
      (subst TokensAgree (ap (λ f. sent c (Claim s e []) (record (view (doing_in c b d γ g)) { taken = at_session s true γ.taken; clerk = f })) (λ j t. took-clerks t j))
      (opened-claims (view (doing_in c b d γ g)) s e d.clerk.cache.capacity age agree untaken fits c))

-- A crashed start stays as it was.
pub crashes : (g : System) (running : ℕ → Option ℕ) → TokensAgree (view g) → TokensAgree (view (record g { running = running }))
crashes g running agree = agree
