-- How a mirror's view changes from call to call.
use Rattle.std.specs.Prelude.{◌≡◌, ◌⊎◌, ◌+◌, ◌≤◌, ℕ, zero, suc, List, [], ◌∷◌, ◌++◌, length, Option, Some, None, slice_get}
use Rattle.std.proofs.Common.{inl, inr, ⊎_elim, refl, arith, length-append, sym, subst}
use Rattle.ec_disk.specs.Choices.{Saves}
use Rattle.ec_disk.specs.Effects.{Elapses, Rests, Wrote, Cut}
use Rattle.ec_disk.specs.declared.disk.DiskAnswer.{DiskAnswer}
use Rattle.ec_disk.specs.declared.disk.DiskAnswer.TheVariants as said
use Rattle.ec_half.specs.Contents.{Content, Rested, Stays, Loosened, Fewer}
use Rattle.ec_mirror.specs.Past.{LeftSince, view_at}
use Rattle.ec_mirror.specs.Shown.{Syncs}

some_same : {T : Type 0} (a b : T) → ◌≡◌ {A = Option T} (Some a) (Some b) → b ≡ a
some_same a b e = cc

none_some : {T : Type 0} (a : T) → ◌≡◌ {A = Option T} None (Some a) → ⊥
none_some a e = cc

at_end : {T : Type 0} (xs : List T) (x : T) → slice_get (xs ++ x ∷ []) (length xs) ≡ Some x
at_end [] x = refl
at_end (y ∷ ys) x = at_end ys x

stays : {T : Type 0} (xs : List T) (x : T) (i : ℕ) (z : T) → slice_get xs i ≡ Some z → slice_get (xs ++ x ∷ []) i ≡ Some z
stays [] x i z is = absurd (none_some z is)
stays (y ∷ ys) x zero z is = is
stays (y ∷ ys) x (suc i) z is = stays ys x i z is

at : {T : Type 0} (xs : List T) (x : T) (i : ℕ) (z : T) → slice_get (xs ++ x ∷ []) i ≡ Some z → (slice_get xs i ≡ Some z) ⊎ ((i ≡ length xs) × (z ≡ x))
at [] x zero z is = inr (refl, some_same x z is)
at [] x (suc i) z is = absurd (none_some z is)
at (y ∷ ys) x zero z is = inl is
at (y ∷ ys) x (suc i) z is = ⊎_elim (λ l. inl l) (λ r. inr (omega (arith, r.0), r.1)) (at ys x i z is)

module _ {M : Type 0} (of : M → Content) where
  -- A moment later: what might have been left stays, and nothing else comes but what may be left now.
  noted : (past : List M) (old : M) (new : Content) → Elapses (view_at of past (of old)) (view_at of (past ++ old ∷ []) new)
  noted past old new = record {
    later = omega (arith, size);
    nothing_else = λ since c le left. ⊎_elim (λ now. inr now) (λ was. inl (before since c was)) left;
    keeps = λ since c le left. ⊎_elim (λ now. inr (length past, old, le, at_end past old, now)) (λ was. inr (was.0, was.1, was.2, stays past old was.0 was.1 was.3, was.4)) left;
  }
    where
      size : length (past ++ old ∷ []) ≡ length past + 1
      size = length-append past (old ∷ [])

      before : (since : ℕ) (c : List ℕ) → (i : ℕ) × (m : M) × (since ≤ i) × (slice_get (past ++ old ∷ []) i ≡ Some m) × (of m).may_leave c → LeftSince of past (of old) since c
      before since c was = ⊎_elim (λ there. inr (was.0, was.1, was.2, there, was.4)) (λ last. inl (subst (λ (m : M). (of m).may_leave c) last.1 was.4)) (at past old was.0 was.1 was.3)

  pub elapses : (past past_now : List M) (old : M) (new : Content) → past_now ≡ past ++ old ∷ [] → Elapses (view_at of past (of old)) (view_at of past_now new)
  elapses past past_now old new is = subst (λ (l : List M). Elapses (view_at of past (of old)) (view_at of l new)) (sym is) (noted past old new)

  elapses-same : (past : List M) (now : Content) → Elapses (view_at of past now) (view_at of past now)
  elapses-same past now = record {
    later = omega arith;
    nothing_else = λ since c le left. inl left;
    keeps = λ since c le left. left;
  }

  -- the laws of a disk's calls, from what becomes of the content
  pub rests-rested : (past past_now : List M) (old : M) (new : Content) → past_now ≡ past ++ old ∷ [] → Rested (of old) new → Rests (view_at of past (of old)) (view_at of past_now new)
  rests-rested past past_now old new is rested = record { gives = rested.gives; crash = rested.crash; time = elapses past past_now old new is }

  pub rests-stays : (past past_now : List M) (old : M) (new : Content) → past_now ≡ past ++ old ∷ [] → Stays (of old) new → Rests (view_at of past (of old)) (view_at of past_now new)
  rests-stays past past_now old new is kept = record { gives = kept.gives; crash = kept.crash; time = elapses past past_now old new is }

  pub rests-same : (past : List M) (now : Content) → Rests (view_at of past now) (view_at of past now)
  rests-same past now = record { gives = refl; crash = λ c left. left; time = elapses-same past now }

  pub wrote-loosened : (W : ℕ → Type 0) (past past_now : List M) (old : M) (new : Content) → past_now ≡ past ++ old ∷ [] → Loosened W (of old) new → Wrote W (view_at of past (of old)) (view_at of past_now new)
  wrote-loosened W past past_now old new is loosened = record { crash = loosened.crash; time = elapses past past_now old new is }

  pub cut-fewer : (past past_now : List M) (old : M) (new : Content) → past_now ≡ past ++ old ∷ [] → Fewer (of old) new → Cut (view_at of past (of old)) (view_at of past_now new)
  cut-fewer past past_now old new is fewer = record { crash = fewer.crash; time = elapses past past_now old new is }

  pub saves-syncs : (answer : DiskAnswer) (past past_now : List M) (old new : Content) → Syncs answer old new → Saves answer (view_at of past old) (view_at of past_now new)
  saves-syncs said.Done past past_now old new syncs = syncs.saved refl
  saves-syncs said.Failed past past_now old new syncs = syncs.unsaved (λ e. cc)
  saves-syncs said.Stopped past past_now old new syncs = syncs.unsaved (λ e. cc)
  saves-syncs said.NoMemory past past_now old new syncs = syncs.unsaved (λ e. cc)
