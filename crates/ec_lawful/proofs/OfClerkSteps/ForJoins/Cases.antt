-- What a message makes of a clerk, by cases: any without a session, and in one any that isn't of it.
use Rattle.std.proofs.Common.{◌≡◌, refl, sym, ap, subst, ◌∙◌, inr, ◌⊎◌, ℕ, Bool, true, false, not, ◌==◌, ◌&&◌, T, List, [], Some, None}
use Rattle.std.specs.Prelude.{Contains, is_some}
use Rattle.std.proofs.lemmas.Bool.{and_parts}
use Rattle.ec_base.specs.Tables.{keys}
use Rattle.ec_base.specs.declared.ids.Age.{Age}
use Rattle.ec_sessions.specs.declared.window.Window.{Window}
use Rattle.ec_wire.specs.declared.msg.Msg.{Msg}
use Rattle.ec_wire.specs.declared.msg.Msg.TheVariants.{Hello, Want, Back, Flush, Room, Claim, Bye, Opened, Grant, Recall, Kept, Ids, NoRoom, Ended, Restarted, OldBoot}
use Rattle.ec_cache.specs.Cache as cache
use Rattle.ec_log.specs.Log as log
use Rattle.ec_protocol.specs.declared.clerk.Out.TheVariants as out
use Rattle.ec_protocol.specs.declared.clerk.Clerk.{Clerk}
use Rattle.ec_protocol.specs.Clerk.{Doing, doing, emit, epoch, has_session, hello, in_session, is_session, or_hello, refuse_makes, same_age, send, take_ended, take_ids, take_recall, take_restarted, taken, with_cache, with_clerk, with_log}
use Rattle.ec_coherence.specs.System.{Ghost}
use Rattle.ec_coherence.specs.Clerks.{take_session}
use Rattle.ec_coherence.proofs.ForServer.Tables.{differ}
use Rattle.ec_lawful.specs.OfClerkSteps.JoinLaws.{IsBeside, IsOfSession, ghosts_joined, tell_loss}
use Rattle.ec_base.proofs.Numbers.{equal}

same-ages : (a b : Age) → same_age a b ≡ true → a ≡ b
same-ages a b e = let q = and_parts (a.boot == b.boot) (a.round == b.round) e in λ j. record { boot = equal a.boot b.boot q.0 j; round = equal a.round b.round q.1 j }

-- what isn't of the session is beside it
pub is-beside : (s : ℕ) (k : Clerk) (m : Msg) → (IsOfSession s m → ⊥) → IsBeside s k m
is-beside s k (Grant t e x m h i) n = n
is-beside s k (Recall t e x m to) n = n
is-beside s k (Kept t e m) n = n
is-beside s k (Ids t e got m first) n = n
is-beside s k (NoRoom t e ask live reserved) n = absurd (n refl)
is-beside s k (Restarted t e) n = n
is-beside s k (Opened age t e) n = tt
is-beside s k (Ended t low mask) n = tt
is-beside s k (OldBoot asked greatest) n = tt
is-beside s k (Hello i a) n = tt
is-beside s k (Want t e x h m) n = tt
is-beside s k (Back t e x m h) n = tt
is-beside s k (Flush t e m ops) n = tt
is-beside s k (Room t e got ask) n = tt
is-beside s k (Claim t e l) n = tt
is-beside s k (Bye t e) n = tt

-- Of a clerk: what holds when a step begins, behind a greeting and behind the refusal of an old boot.
module _ (c : ℕ) (pool : List (ℕ × Msg)) (k : Clerk) (γ : Ghost) (P : Doing → Ghost → Type 0) (begins : P (doing k) γ) (greets : P (hello (doing k)) γ) (shows-old : (a : Age) → P (emit (out.OldBoot a) (doing k)) γ) where
  abbrev d : Doing
  d = doing k

  abbrev pub Is : Msg → Type 0
  Is m = T (is_some (taken m d).spent) ⊎ P (taken m d) (ghosts_joined c m d γ)

  old : (asked greatest : Age) → Is (OldBoot asked greatest)
  old asked greatest = inr (go (same_age asked k.age))
    where
      go : (z : Bool) → P (elim z as (λ y. Doing) [ true ↦ emit (out.OldBoot greatest) d | false ↦ d ]) γ
      go true = shows-old greatest
      go false = begins

  -- Without a session.
  module _ (without : k.session ≡ None) (asks-none : k.asking ≡ None)
      (opens : (age : Age) (s e : ℕ) → Contains pool (c, Opened age s e) → age ≡ k.age → P (send (Claim s e []) (with_clerk (λ k. record k { session = Some s; epoch = e }) d)) (take_session s γ)) where
    no-one : (t : ℕ) → is_session t k.session ≡ false
    no-one t = ap (is_session t) without

    no-session : has_session k ≡ false
    no-session = ap is_some without

    opened : (age : Age) (s e : ℕ) → Contains pool (c, Opened age s e) → Is (Opened age s e)
    opened age s e p = inr (go (not (has_session k) && same_age age k.age) refl)
      where
        go : (z : Bool) → (not (has_session k) && same_age age k.age) ≡ z
            → P (elim z as (λ y. Doing) [ true ↦ send (Claim s e []) (with_clerk (λ k. record k { session = Some s; epoch = e }) d) | false ↦ d ]) (elim z as (λ y. Ghost) [ true ↦ take_session s γ | false ↦ γ ])
        go true q = opens age s e p (same-ages age k.age (and_parts (not (has_session k)) (same_age age k.age) q).1)
        go false q = begins

    passed : (t e : ℕ) (f : Doing → Doing) → P (in_session t e f d) γ
    passed t e f = subst (λ z. P (elim (z && (e == epoch d)) as (λ y. Doing) [ true ↦ f d | false ↦ d ]) γ) (sym (no-one t)) begins

    or-greets : (t : ℕ) (f : Doing → Doing) → P (or_hello t f d) γ
    or-greets t f = subst (λ z. P (elim z as (λ y. Doing) [ false ↦ hello d | true ↦ elim (is_session t k.session) as (λ y. Doing) [ true ↦ f d | false ↦ d ] ]) γ) (sym no-session) greets

    ends : (t low mask : ℕ) → Is (Ended t low mask)
    ends t low mask = inr (subst (λ z. P (or_hello t (take_ended (record { low = low; mask = mask })) d) (elim z as (λ y. Ghost) [ true ↦ tell_loss c (keys (log.lost (record { low = low; mask = mask }) k.log)) γ | false ↦ γ ])) (sym (no-one t))
        (or-greets t (take_ended (record { low = low; mask = mask }))))

    pub outside : (m : Msg) → Contains pool (c, m) → Is m
    outside (Opened age s e) p = opened age s e p
    outside (Grant t e x n h i) p = inr (passed t e (with_cache (cache.take x h n i)))
    outside (Recall t e x n to) p = inr (passed t e (take_recall x n to))
    outside (Kept t e n) p = inr (subst (λ z. P (elim z as (λ y. Doing) [ true ↦ with_log (log.kept n) d | false ↦ d ]) γ) (sym (no-one t)) begins)
    outside (Ids t e got n first) p = inr (passed t e (take_ids got n first))
    outside (NoRoom t e ask live reserved) p = inr (subst (λ z. P (elim z as (λ y. Doing) [ true ↦ refuse_makes live reserved k.waiting (with_clerk (λ k. record k { asking = None; waiting = [] }) d) | false ↦ d ]) γ) (sym (ap (is_session ask) asks-none)) begins)
    outside (Ended t low mask) p = ends t low mask
    outside (Restarted t e) p = inr (or-greets t (take_restarted e))
    outside (OldBoot asked greatest) p = old asked greatest
    outside (Hello i a) p = inr begins
    outside (Want t e x h m) p = inr begins
    outside (Back t e x m h) p = inr begins
    outside (Flush t e n ops) p = inr begins
    outside (Room t e got ask) p = inr begins
    outside (Claim t e l) p = inr begins
    outside (Bye t e) p = inr begins

  -- In one.
  module _ (s : ℕ) (within : k.session ≡ Some s)
      (own-end : (low mask : ℕ) → Contains pool (c, Ended s low mask) → let w : Window = record { low = low; mask = mask } in T (is_some (take_ended w d).spent) ⊎ P (take_ended w d) (tell_loss c (keys (log.lost w k.log)) γ)) where
    has-one : has_session k ≡ true
    has-one = ap is_some within

    its : (t : ℕ) → is_session t k.session ≡ (t == s)
    its t = ap (is_session t) within

    another : (t : ℕ) → (t ≡ s → ⊥) → is_session t k.session ≡ false
    another t n = its t ∙ differ t s n

    beside : (t e : ℕ) (f : Doing → Doing) → (t ≡ s → ⊥) → P (in_session t e f d) γ
    beside t e f n = subst (λ z. P (elim (z && (e == epoch d)) as (λ y. Doing) [ true ↦ f d | false ↦ d ]) γ) (sym (another t n)) begins

    keeps : (age : Age) (t e : ℕ) → Is (Opened age t e)
    keeps age t e = inr (subst (λ z. P (elim (not z && same_age age k.age) as (λ y. Doing) [ true ↦ send (Claim t e []) (with_clerk (λ k. record k { session = Some t; epoch = e }) d) | false ↦ d ]) (elim (not z && same_age age k.age) as (λ y. Ghost) [ true ↦ take_session t γ | false ↦ γ ]))
        (sym has-one) begins)

    module _ (t low mask : ℕ) (p : Contains pool (c, Ended t low mask)) where
      abbrev w : Window
      w = record { low = low; mask = mask }

      abbrev told : Ghost
      told = tell_loss c (keys (log.lost w k.log)) γ

      abbrev Ends : Doing → Ghost → Type 0
      Ends e δ = T (is_some e.spent) ⊎ P e δ

      by-session : (z : Bool) → (t == s) ≡ z → Ends (elim z as (λ y. Doing) [ true ↦ take_ended w d | false ↦ d ]) (elim z as (λ y. Ghost) [ true ↦ told | false ↦ γ ])
      by-session true e = own-end low mask (subst (λ z. Contains pool (c, Ended z low mask)) (equal t s e) p)
      by-session false e = inr begins

      pub ends-inside : Is (Ended t low mask)
      ends-inside = subst (λ y. Ends (elim y as (λ x. Doing) [ false ↦ hello d | true ↦ elim (is_session t k.session) as (λ x. Doing) [ true ↦ take_ended w d | false ↦ d ] ]) (elim (is_session t k.session) as (λ x. Ghost) [ true ↦ told | false ↦ γ ])) (sym has-one)
          (subst (λ y. Ends (elim y as (λ x. Doing) [ true ↦ take_ended w d | false ↦ d ]) (elim y as (λ x. Ghost) [ true ↦ told | false ↦ γ ])) (sym (its t)) (by-session (t == s) refl))

    pub inside : (m : Msg) → Contains pool (c, m) → IsBeside s k m → Is m
    inside (Opened age t e) p n = keeps age t e
    inside (Grant t e x m h i) p n = inr (beside t e (with_cache (cache.take x h m i)) n)
    inside (Recall t e x m to) p n = inr (beside t e (take_recall x m to) n)
    inside (Kept t e m) p n = inr (subst (λ z. P (elim z as (λ y. Doing) [ true ↦ with_log (log.kept m) d | false ↦ d ]) γ) (sym (another t n)) begins)
    inside (Ids t e got m first) p n = inr (beside t e (take_ids got m first) n)
    inside (NoRoom t e ask live reserved) p n = inr (subst (λ z. P (elim z as (λ y. Doing) [ true ↦ refuse_makes live reserved k.waiting (with_clerk (λ k. record k { asking = None; waiting = [] }) d) | false ↦ d ]) γ) (sym n) begins)
    inside (Ended t low mask) p n = ends-inside t low mask p
    inside (Restarted t e) p n = inr (subst (λ z. P (elim z as (λ y. Doing) [ false ↦ hello d | true ↦ elim (is_session t k.session) as (λ y. Doing) [ true ↦ take_restarted e d | false ↦ d ] ]) γ) (sym has-one)
        (subst (λ z. P (elim z as (λ y. Doing) [ true ↦ take_restarted e d | false ↦ d ]) γ) (sym (another t n)) begins))
    inside (OldBoot asked greatest) p n = old asked greatest
    inside (Hello i a) p n = inr begins
    inside (Want t e x h m) p n = inr begins
    inside (Back t e x m h) p n = inr begins
    inside (Flush t e m ops) p n = inr begins
    inside (Room t e got ask) p n = inr begins
    inside (Claim t e l) p n = inr begins
    inside (Bye t e) p n = inr begins
