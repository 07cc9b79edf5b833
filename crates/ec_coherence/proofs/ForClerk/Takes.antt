-- A clerk takes any message, in a session or not, by the facts on sessions and tokens.
use Rattle.std.proofs.Common.{◌≡◌, refl, sym, ap, subst, ◌∙◌, inl, inr, arith, ℕ, Bool, true, false, not, ◌&&◌, T, List, [], ◌∷◌, ◌++◌}
use Rattle.std.specs.Prelude.{◌==◌, None, Some, is_some}
use Rattle.std.proofs.lemmas.Bool.{and_parts}
use Rattle.ec_base.specs.declared.ids.Age.{Age}
use Rattle.ec_base.specs.Ages.{is_older}
use Rattle.ec_wire.specs.declared.msg.Msg.{Msg}
use Rattle.ec_wire.specs.declared.msg.Msg.TheVariants.{Hello, Want, Back, Flush, Room, Claim, Bye, Opened, Grant, Recall, Kept, Ids, NoRoom, Ended, Restarted, OldBoot}
use Rattle.ec_protocol.specs.declared.clerk.Out.TheVariants as out
use Rattle.ec_cache.specs.Cache as cache
use Rattle.ec_log.specs.Log as log
use Rattle.ec_protocol.specs.Clerk.{Doing, send, emit, hello, with_clerk, with_cache, with_log, epoch, is_session, has_session, in_session, or_hello, same_age, take_opened, take_recall, take_ids, take_no_room, refuse_makes, take_ended, take_restarted, take_old_boot, enter_epoch, taken}
use Rattle.ec_coherence.specs.Clerks.{NeedsNamed, ghost_after, take_session}
use Rattle.ec_coherence.specs.System.{System, Ghost, with_start, if_in}
use Rattle.ec_coherence.specs.Sessions as sessions
use Rattle.ec_coherence.specs.Sessions.{HasNone, SessionsAgree}
use Rattle.ec_coherence.specs.Steps.{sends, doing_in}
use Rattle.ec_coherence.specs.Tokens.{view, Fits, TokensAgree}
use Rattle.ec_coherence.proofs.ForClerk.Acting.{IsIn, view-is, sends-more}
use Rattle.ec_coherence.proofs.ForClerk.Goes.{Goes}
use Rattle.ec_coherence.proofs.ForClerk.OnSystem.{begins, is-its, greets, takes-session}
use Rattle.ec_coherence.proofs.ForClerk.Taken.{taken-stays, ended-agrees}
use Rattle.ec_base.proofs.Numbers.{same-self as same, equal}
use Rattle.ec_base.proofs.Options.{none_some}

abbrev pub Now : System → ℕ → ℕ → Ghost → Doing → Type 0
Now g c b γ d = TokensAgree (view (doing_in c b d γ g))

not-older : (a : Age) → T (is_older a a) → ⊥
not-older a h = absurd (grind arith)

same-ages : (a b : Age) → same_age a b ≡ true → a ≡ b
same-ages a b e = let q = and_parts (a.boot == b.boot) (a.round == b.round) e in λ j. record { boot = equal a.boot b.boot q.0 j; round = equal a.round b.round q.1 j }

module _ (g : System) (c b : ℕ) (d : Doing) (γ : Ghost) (fits : SessionsAgree (doing_in c b d γ g)) (agree : TokensAgree (view (doing_in c b d γ g))) where
  place : with_start c b d.clerk g.clerks c b ≡ Some d.clerk
  place = ap (λ z. elim z [ true ↦ Some d.clerk | false ↦ g.clerks c b ]) (both (c == c) (b == b) (same c) (same b))
    where
      both : (a e : Bool) → a ≡ true → e ≡ true → (a && e) ≡ true
      both a e p q = cc

  boot : d.clerk.age.boot ≡ b
  boot = (fits.starts c b d.clerk place).1

  -- it wasn't taken before
  untaken : (s : ℕ) (age : Age) → d.clerk.session ≡ None → γ.owner s ≡ Some (c, age) → age ≡ d.clerk.age → T (not (γ.taken s))
  untaken s age none owner p = off (γ.taken s) (λ t. elim ((fits.told s (c, age) d.clerk owner (ap (λ a. with_start c b d.clerk g.clerks c a) (ap (λ z. z.boot) p ∙ boot) ∙ place)).0 t) [
    | inl q ↦ none_some (sym none ∙ q)
    | inr q ↦ not-older d.clerk.age (subst (λ a. T (is_older a d.clerk.age)) p q)
  ])
    where
      off : (z : Bool) → (T z → ⊥) → T (not z)
      off true f = absurd (f tt)
      off false f = tt

  module _ (none : d.clerk.session ≡ None) where
    has-none : HasNone d.clerk
    has-none = fits.without c b d.clerk place none

    no-session : has_session d.clerk ≡ false
    no-session = ap is_some none

    no-one : (t : ℕ) → is_session t d.clerk.session ≡ false
    no-one t = ap (is_session t) none

    -- what is for a session is passed over
    passed-over : (t e : ℕ) (f : Doing → Doing) → Now g c b γ (in_session t e f d)
    passed-over t e f = subst (λ z. Now g c b γ (elim (z && (e == epoch d)) [ true ↦ f d | false ↦ d ])) (sym (no-one t)) agree

    greeted : (t : ℕ) (f : Doing → Doing) → Now g c b γ (or_hello t f d)
    greeted t f = subst (λ z. Now g c b γ (elim z [ false ↦ hello d | true ↦ elim (is_session t d.clerk.session) [ true ↦ f d | false ↦ d ] ])) (sym no-session) (greets g c b d γ agree)

    opens : (age : Age) (s e : ℕ) → γ.owner s ≡ Some (c, age) → Fits (view (doing_in c b d γ g)) (Opened age s e) → Now g c b (ghost_after (Opened age s e) d γ) (take_opened age s e d)
    opens age s e owner f = go (not (has_session d.clerk) && same_age age d.clerk.age) refl
      where
        go : (z : Bool) → (not (has_session d.clerk) && same_age age d.clerk.age) ≡ z
            → Now g c b (elim z [ true ↦ take_session s γ | false ↦ γ ]) (elim z [ true ↦ send (Claim s e []) (with_clerk (λ k. record k { session = Some s; epoch = e }) d) | false ↦ d ])
        go true p = let q = same-ages age d.clerk.age (and_parts (not (has_session d.clerk)) (same_age age d.clerk.age) p).1 in
            takes-session g c b s e age d γ owner (ap (λ z. z.boot) q ∙ boot) none has-none agree (untaken s age none owner q) f
        go false p = agree

    refuses : (ask live reserved : ℕ) → Now g c b γ (take_no_room ask live reserved d)
    refuses ask live reserved = subst (λ z. Now g c b γ (elim z [ true ↦ refuse_makes live reserved d.clerk.waiting (with_clerk (λ k. record k { asking = None; waiting = [] }) d) | false ↦ d ])) (sym (ap (is_session ask) (has-none.asking))) agree

    old : (asked greatest : Age) → Now g c b γ (take_old_boot asked greatest d)
    old asked greatest = go (same_age asked d.clerk.age)
      where
        nothing : (xs : List (ℕ × Msg)) → xs ++ [] ≡ xs
        nothing [] = refl
        nothing (x ∷ xs) = ap (λ z. x ∷ z) (nothing xs)

        go : (z : Bool) → Now g c b γ (elim z [ true ↦ emit (out.OldBoot greatest) d | false ↦ d ])
        go true = subst (λ p. TokensAgree (record (view (doing_in c b d γ g)) { pool = g.pool ++ p })) (sym (sends-more c d.outs (out.OldBoot greatest ∷ []) ∙ nothing (sends c d.outs))) agree
        go false = agree

    pub taken-outside : (m : Msg) → sessions.Fits (doing_in c b d γ g) c m → Fits (view (doing_in c b d γ g)) m → Now g c b (ghost_after m d γ) (taken m d)
    taken-outside (Opened age t e) p q = opens age t e p q
    taken-outside (Grant t e x n h i) p q = passed-over t e (with_cache (cache.take x h n i))
    taken-outside (Recall t e x n to) p q = passed-over t e (take_recall x n to)
    taken-outside (Kept t e n) p q = subst (λ z. Now g c b γ (elim z [ true ↦ with_log (log.kept n) d | false ↦ d ])) (sym (no-one t)) agree
    taken-outside (Ids t e got n first) p q = passed-over t e (take_ids got n first)
    taken-outside (NoRoom t e ask live reserved) p q = refuses ask live reserved
    taken-outside (Ended t l i) p q = greeted t (take_ended (record { low = l; mask = i }))
    taken-outside (Restarted t e) p q = greeted t (take_restarted e)
    taken-outside (OldBoot asked greatest) p q = old asked greatest
    taken-outside (Hello i a) p q = agree
    taken-outside (Want t e x h m) p q = agree
    taken-outside (Back t e x m h) p q = agree
    taken-outside (Flush t e n ops) p q = agree
    taken-outside (Room t e got ask) p q = agree
    taken-outside (Claim t e l) p q = agree
    taken-outside (Bye t e) p q = agree

  module _ (s : ℕ) (own : d.clerk.session ≡ Some s) (begun : (t : ℕ) → (t == s) ≡ false → if_in t (g.clerks c b) ≡ None)
      (needed : NeedsNamed (view (record g { ghost = γ })) c s d d.clerk) (needed-then : (a : ℕ) → NeedsNamed (view (record g { ghost = γ })) c s d (enter_epoch a d.clerk)) where
    its : IsIn g γ c b s d.clerk
    its = is-its g c b s d γ fits own begun

    within : (m : Msg) → Fits (view (doing_in c b d γ g)) m → ((t l i : ℕ) → m ≡ Ended t l i → is_session t d.clerk.session ≡ false) → Now g c b γ (taken m d)
    within m q n = let r = taken-stays (view (record g { ghost = γ })) c s d (begins g c b s d γ its agree) (omega arith) needed needed-then m (subst (λ v. Fits v m) (view-is g c b s d γ its) q) n in
        let e : Goes (view (record g { ghost = γ })) c s (taken m d) (taken m d) = r in
        subst TokensAgree (sym (view-is g c b s (taken m d) γ (record { session = e.session; age = its.age; owner = its.owner; boot = its.boot; before = its.before }))) e.agree

    over : (t l i : ℕ) → sessions.Fits (doing_in c b d γ g) c (Ended t l i) → Fits (view (doing_in c b d γ g)) (Ended t l i) → Now g c b γ (taken (Ended t l i) d)
    over t l i p q = go (is_session t d.clerk.session) refl
      where
        in-it : has_session d.clerk ≡ true
        in-it = ap is_some own

        go : (z : Bool) → is_session t d.clerk.session ≡ z → Now g c b γ (taken (Ended t l i) d)
        go true e = subst (λ y. Now g c b γ (elim y [ false ↦ hello d | true ↦ elim (is_session t d.clerk.session) [ true ↦ take_ended (record { low = l; mask = i }) d | false ↦ d ] ])) (sym in-it)
            (subst (λ y. Now g c b γ (elim y [ true ↦ take_ended (record { low = l; mask = i }) d | false ↦ d ])) (sym e)
            (ended-agrees g c b s d γ (record { low = l; mask = i }) its (subst (λ u. T (not ((view (doing_in c b d γ g)).is_open u))) (equal t s (sym (ap (is_session t) own) ∙ e)) p.1) agree))
        go false e = within (Ended t l i) q (λ u k j r. ap (λ y. is_session y d.clerk.session) (number r) ∙ e)
          where
            number : {u k j : ℕ} → Ended t l i ≡ Ended u k j → u ≡ t
            number r = sym (ap (λ y. elim y [ Ended a m n ↦ a | _ ↦ t ]) r)

    pub taken-inside : (m : Msg) → sessions.Fits (doing_in c b d γ g) c m → Fits (view (doing_in c b d γ g)) m → Now g c b (ghost_after m d γ) (taken m d)
    taken-inside (Ended t l i) p q = over t l i p q
    taken-inside (Opened age t e) p q = subst (λ y. Now g c b (elim (not y && same_age age d.clerk.age) [ true ↦ take_session t γ | false ↦ γ ]) (take_opened age t e d)) (sym (ap is_some own)) (within (Opened age t e) q (λ u k j r. absurd (cc)))
    taken-inside (Grant t e x n h i) p q = within (Grant t e x n h i) q (λ u k j r. absurd (cc))
    taken-inside (Recall t e x n to) p q = within (Recall t e x n to) q (λ u k j r. absurd (cc))
    taken-inside (Kept t e n) p q = within (Kept t e n) q (λ u k j r. absurd (cc))
    taken-inside (Ids t e got n first) p q = within (Ids t e got n first) q (λ u k j r. absurd (cc))
    taken-inside (NoRoom t e ask live reserved) p q = within (NoRoom t e ask live reserved) q (λ u k j r. absurd (cc))
    taken-inside (Restarted t e) p q = within (Restarted t e) q (λ u k j r. absurd (cc))
    taken-inside (OldBoot asked greatest) p q = within (OldBoot asked greatest) q (λ u k j r. absurd (cc))
    taken-inside (Hello i a) p q = agree
    taken-inside (Want t e x h m) p q = agree
    taken-inside (Back t e x m h) p q = agree
    taken-inside (Flush t e n ops) p q = agree
    taken-inside (Room t e got ask) p q = agree
    taken-inside (Claim t e l) p q = agree
    taken-inside (Bye t e) p q = agree
