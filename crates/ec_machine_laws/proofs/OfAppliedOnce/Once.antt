-- Records apply each batch of a session at most once.
use Rattle.std.proofs.Common.{◌≡◌, refl, sym, ap, subst, ◌∙◌, inl, inr, ◌⊎◌, arith, ◌≤◌, ◌<◌, ◌+◌, ℕ, zero, suc, T, Bool, true, false, not, cond, ◌==◌, ◌&&◌, ◌||◌, List, [], ◌∷◌, Option, Some, None}
use Rattle.std.specs.Prelude.{nat_lt, nat_le, Result, Ok, Err}
use Rattle.std.specs.List.{list_all}
use Rattle.std.proofs.lemmas.Bool.{eqb-true, eq-eqb, and_parts}
use Rattle.std.proofs.lemmas.Bool.Decides.{nat_tests}
use Rattle.ec_sessions.specs.Slots.{Slots, slot_at}
use Rattle.ec_sessions.specs.Windows.{has}
use Rattle.ec_sessions.specs.declared.slot.Slot.{Slot}
use Rattle.ec_volume.specs.Update.{distinct, member}
use Rattle.ec_volume.specs.declared.update.Update.{Update}
use Rattle.ec_durable.specs.Durable.{step, steps, slot}
use Rattle.ec_durable.specs.WellFormed.{IsInOrder, sessions_of}
use Rattle.ec_durable.specs.declared.record.Record.{Record}
use Rattle.ec_durable.specs.declared.record.Record.TheVariants.{Batch, Open, End, Ids, Epoch}
use Rattle.ec_durable.specs.declared.record.RecordFault.{RecordFault}
use Rattle.ec_durable.specs.declared.state.Durable.{Durable}
use Rattle.ec_durable.proofs.Batches.{same_Ok, not_Ok}
use Rattle.ec_machine_laws.specs.OfAppliedOnce.Once.{applies, applied, IsPast, NoneAgain, AllPast}
use Rattle.ec_machine_laws.proofs.OfAppliedOnce.Moves.{Moves, From, IsKept, IsOpened, moves, new-batch, applied-has, same_some}
use Rattle.ec_base.proofs.Bools.{left as first, right}
use Rattle.ec_base.proofs.Options.{none-some as none_some}

-- Each slot's session is below the next one, and no two slots have the same.
record AreSessions (d : Durable) : Type 0 where
  below : (c : ℕ) (sl : Slot) → slot d c ≡ Some sl → sl.session < d.next_session
  apart : (c e : ℕ) (sl tl : Slot) → slot d c ≡ Some sl → slot d e ≡ Some tl → sl.session ≡ tl.session → c ≡ e

module _ (c : ℕ) (d e : Durable) (m : Moves c d e) where
  sessions-stay : AreSessions d → AreSessions e
  sessions-stay h = record { below = below; apart = λ i j sl tl p q same. apart i j sl tl same (m.from i sl p) (m.from j tl q) }
    where
      below : (i : ℕ) (sl : Slot) → slot e i ≡ Some sl → sl.session < e.next_session
      below i sl p = elim (m.from i sl p) [ inl k ↦ omega (arith, k.2.session, h.below i k.0 k.1, m.later) | inr o ↦ omega (arith, o.session, o.next) ]

      differ : (i j : ℕ) (old sl tl : Slot) → slot d i ≡ Some old → IsKept old sl → IsOpened d e c j tl → sl.session ≡ tl.session → ⊥
      differ i j old sl tl p k o same = omega (arith, h.below i old p, k.session, o.session, same)

      apart : (i j : ℕ) (sl tl : Slot) → sl.session ≡ tl.session → From d e c i sl → From d e c j tl → i ≡ j
      apart i j sl tl same (inl k) (inl l) = h.apart i j k.0 l.0 k.1 l.1 (sym k.2.session ∙ same ∙ l.2.session)
      apart i j sl tl same (inl k) (inr o) = absurd (differ i j k.0 sl tl k.1 k.2 o same)
      apart i j sl tl same (inr o) (inl k) = absurd (differ j i k.0 tl sl k.1 k.2 o (sym same))
      apart i j sl tl same (inr o) (inr p) = o.here ∙ sym p.here

  past-stays : (s b : ℕ) → IsPast s b d → IsPast s b e
  past-stays s b h = record { below = omega (arith, h.below, m.later); had = λ j sl at same. go j sl same (m.from j sl at) }
    where
      go : (j : ℕ) (sl : Slot) → sl.session ≡ s → From d e c j sl → has sl.window b ≡ true
      go j sl same (inl k) = k.2.more b (h.had j k.0 k.1 (sym k.2.session ∙ same))
      go j sl same (inr o) = absurd (omega (arith, h.below, o.session, same))

-- a past batch isn't applied again
not-again : (c s b : ℕ) (ops : List (ℕ × Update)) (d e : Durable) → step (Batch c s b ops) d ≡ Ok e → IsPast s b d → ⊥
not-again c s b ops d e ok h =
    let n = new-batch c s b ops d e ok in
    apart (sym (h.had c n.slot n.at n.session) ∙ n.fresh)
  where
    apart : true ≡ false → ⊥
    apart p = cc

-- one that was applied is past
is-past : (c s b : ℕ) (ops : List (ℕ × Update)) (d e : Durable) → step (Batch c s b ops) d ≡ Ok e → AreSessions d → IsPast s b e
is-past c s b ops d e ok h =
    let n = new-batch c s b ops d e ok in
    let m = moves (Batch c s b ops) d e ok in
    record {
      below = omega (arith, n.session, h.below c n.slot n.at, m.1.later);
      had = λ j sl at same. go n.slot n.at n.session j sl at same (m.1.from j sl at);
    }
  where
    go : (old : Slot) → slot d c ≡ Some old → old.session ≡ s → (j : ℕ) (sl : Slot) → slot e j ≡ Some sl → sl.session ≡ s → From d e (moves (Batch c s b ops) d e ok).0 j sl → has sl.window b ≡ true
    go old p q j sl at same (inl k) =
        let here : j ≡ c = h.apart j c k.0 old k.1 p (sym k.2.session ∙ same ∙ sym q) in
        applied-has c s b ops d e ok sl (subst (λ i. slot e i ≡ Some sl) here at)
    go old p q j sl at same (inr o) = absurd (omega (arith, h.below c old p, q, o.session, same))

-- What records make of one batch.
record Counts (s b : ℕ) (rs : List Record) (d e : Durable) : Type 0 where
  again : IsPast s b d → (applied s b rs ≡ 0) × IsPast s b e
  most : AreSessions d → applied s b rs ≤ 1
  now : AreSessions d → 1 ≤ applied s b rs → IsPast s b e

-- one record, and those behind it
module _ (s b : ℕ) (rs : List Record) (d m e : Durable) (r : Record) (by : (c : ℕ) × Moves c d m) (rest : Counts s b rs m e) where
  stays : AreSessions d → AreSessions m
  stays = sessions-stay by.0 d m by.1

  other : applies s b r ≡ false → Counts s b (r ∷ rs) d e
  other isnt =
      let none : ◌≡◌ {A = ℕ} (cond (applies s b r) 1 0) 0 = ap (λ y. cond y 1 0) isnt in
      let same : applied s b (r ∷ rs) ≡ applied s b rs = omega (arith, none) in
      record {
        again = λ h. let q = rest.again (past-stays by.0 d m by.1 s b h) in (same ∙ q.0, q.1);
        most = λ h. omega (arith, rest.most (stays h), same);
        now = λ h le. rest.now (stays h) (omega (arith, le, same));
      }

  own : applies s b r ≡ true → (AreSessions d → IsPast s b m) → (IsPast s b d → ⊥) → Counts s b (r ∷ rs) d e
  own is now never =
      let one : ◌≡◌ {A = ℕ} (cond (applies s b r) 1 0) 1 = ap (λ y. cond y 1 0) is in
      record {
        again = λ h. absurd (never h);
        most = λ h. omega (arith, (rest.again (now h)).0, one);
        now = λ h le. (rest.again (now h)).1;
      }

counted : (s b : ℕ) (r : Record) (rs : List Record) (d m e : Durable) → step r d ≡ Ok m → Counts s b rs m e → Counts s b (r ∷ rs) d e
counted s b (Batch c t k ops) rs d m e ok rest = go ((t == s) && (k == b)) refl
  where
    r : Record
    r = Batch c t k ops

    go : (y : Bool) → ((t == s) && (k == b)) ≡ y → Counts s b (r ∷ rs) d e
    go true q =
        let p = and_parts (t == s) (k == b) q in
        let session : t ≡ s = eqb-true t s p.0 in
        let number : k ≡ b = eqb-true k b p.1 in
        own s b rs d m e r (moves r d m ok) rest q
        (λ h. subst (λ z. IsPast z b m) session (subst (λ z. IsPast t z m) number (is-past c t k ops d m ok h)))
        (λ h. not-again c t k ops d m ok (subst (λ z. IsPast z k d) (sym session) (subst (λ z. IsPast s z d) (sym number) h)))
    go false q = other s b rs d m e r (moves r d m ok) rest q
counted s b (Open c age t) rs d m e ok rest = other s b rs d m e (Open c age t) (moves (Open c age t) d m ok) rest refl
counted s b (End c t) rs d m e ok rest = other s b rs d m e (End c t) (moves (End c t) d m ok) rest refl
counted s b (Ids c t got first) rs d m e ok rest = other s b rs d m e (Ids c t got first) (moves (Ids c t got first) d m ok) rest refl
counted s b (Epoch n) rs d m e ok rest = other s b rs d m e (Epoch n) (moves (Epoch n) d m ok) rest refl

counts : (s b : ℕ) (rs : List Record) (d e : Durable) → steps rs d ≡ Ok e → Counts s b rs d e
counts s b [] d e ok = record { again = λ h. (refl, subst (IsPast s b) (same_Ok ok) h); most = λ h. omega arith; now = λ h le. absurd (omega (arith, le)) }
counts s b (r ∷ rs) d e ok = go (step r d) refl ok (λ m. counts s b rs m e)
  where
    go : (o : Result Durable RecordFault) → step r d ≡ o → elim o as (λ z. Result Durable RecordFault) [ Err fault ↦ Err fault | Ok m ↦ steps rs m ] ≡ Ok e → ((m : Durable) → steps rs m ≡ Ok e → Counts s b rs m e) → Counts s b (r ∷ rs) d e
    go (Ok m) q p more = counted s b r rs d m e q (more m p)
    go (Err fault) q p more = absurd (not_Ok p)

-- The sessions of a state in order.

none-both : (a b : Bool) → T (not a && b) → a ≡ true → ⊥
none-both true b h p = absurd h
none-both false b h p = absurd (apart p)
  where
    apart : false ≡ true → ⊥
    apart p = cc

among : (slots : Slots) (c : ℕ) (sl : Slot) → slot_at slots c ≡ Some sl → member sl.session (sessions_of slots) ≡ true
among [] c sl p = none_some sl p
among (None ∷ slots) zero sl p = none_some sl p
among (None ∷ slots) (suc c) sl p = among slots c sl p
among (Some a ∷ slots) zero sl p = ap (λ y. y || member sl.session (sessions_of slots)) (eq-eqb sl.session a.session (ap (λ z. z.session) (sym (same_some p))))
among (Some a ∷ slots) (suc c) sl p = or_second (sl.session == a.session) (member sl.session (sessions_of slots)) (among slots c sl p)
  where
    or_second : (x y : Bool) → y ≡ true → (x || y) ≡ true
    or_second true y h = refl
    or_second false y h = h

-- the first slot's session isn't a later one's
not-later : (a : Slot) (slots : Slots) (c : ℕ) (sl : Slot) → T (distinct (sessions_of (Some a ∷ slots))) → slot_at slots c ≡ Some sl → a.session ≡ sl.session → ⊥
not-later a slots c sl d p same = none-both (member a.session (sessions_of slots)) (distinct (sessions_of slots)) d (ap (λ s. member s (sessions_of slots)) same ∙ among slots c sl p)

one-place : (slots : Slots) (c e : ℕ) (sl tl : Slot) → T (distinct (sessions_of slots)) → slot_at slots c ≡ Some sl → slot_at slots e ≡ Some tl → sl.session ≡ tl.session → c ≡ e
one-place [] c e sl tl d p q same = none_some sl p
one-place (None ∷ slots) zero e sl tl d p q same = none_some sl p
one-place (None ∷ slots) (suc c) zero sl tl d p q same = none_some tl q
one-place (None ∷ slots) (suc c) (suc e) sl tl d p q same = ap suc (one-place slots c e sl tl d p q same)
one-place (Some a ∷ slots) zero zero sl tl d p q same = refl
one-place (Some a ∷ slots) zero (suc e) sl tl d p q same = absurd (not-later a slots e tl d q (ap (λ z. z.session) (same_some p) ∙ same))
one-place (Some a ∷ slots) (suc c) zero sl tl d p q same = absurd (not-later a slots c sl d p (ap (λ z. z.session) (same_some q) ∙ sym same))
one-place (Some a ∷ slots) (suc c) (suc e) sl tl d p q same = ap suc (one-place slots c e sl tl (right (not (member a.session (sessions_of slots))) (distinct (sessions_of slots)) d) p q same)

of-sessions : (P : ℕ → Bool) (slots : Slots) → T (list_all P (sessions_of slots)) → (c : ℕ) (sl : Slot) → slot_at slots c ≡ Some sl → T (P sl.session)
of-sessions P [] h c sl p = none_some sl p
of-sessions P (None ∷ slots) h zero sl p = none_some sl p
of-sessions P (None ∷ slots) h (suc c) sl p = of-sessions P slots h c sl p
of-sessions P (Some a ∷ slots) h zero sl p = subst (λ z. T (P z.session)) (same_some p) (first (P a.session) (list_all P (sessions_of slots)) h)
of-sessions P (Some a ∷ slots) h (suc c) sl p = of-sessions P slots (right (P a.session) (list_all P (sessions_of slots)) h) c sl p

in-order : (d : Durable) → IsInOrder d → AreSessions d
in-order d h = record {
  below = λ c sl at. below sl.session (of-sessions (λ s. nat_le 1 s && nat_lt s d.next_session) d.sessions h.numbered c sl at);
  apart = λ c e sl tl p q same. one-place d.sessions c e sl tl h.numbers p q same;
}
  where
    below : (s : ℕ) → T (nat_le 1 s && nat_lt s d.next_session) → s < d.next_session
    below s h = grind (arith, nat_tests, h)

pub once : (rs : List Record) (d e : Durable) → IsInOrder d → steps rs d ≡ Ok e → (s b : ℕ) → applied s b rs ≤ 1
once rs d e h ok s b = (counts s b rs d e ok).most (in-order d h)

pub again : (rs : List Record) (d e : Durable) → steps rs d ≡ Ok e → NoneAgain rs d e
again rs d e ok s b h = (counts s b rs d e ok).again h

pub past : (rs : List Record) (d e : Durable) → IsInOrder d → steps rs d ≡ Ok e → AllPast rs e
past rs d e h ok s b le = (counts s b rs d e ok).now (in-order d h) le
