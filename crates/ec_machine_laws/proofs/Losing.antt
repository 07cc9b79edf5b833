-- What the end of a session loses.
use Rattle.std.proofs.Common.{◌≡◌, refl, sym, ap, ◌∙◌, inl, inr, ◌⊎◌, ℕ, T, Bool, true, false, not, ◌&&◌, cond, List, [], ◌∷◌}
use Rattle.std.specs.List.{filter}
use Rattle.std.proofs.lemmas.Bool.{cases_Bool, true≢false}
use Rattle.ec_volume.specs.Update.{member}
use Rattle.ec_volume.specs.declared.update.Update.{Update}
use Rattle.ec_order.specs.Order.{Issued, Holds}
use Rattle.ec_sessions.specs.Windows.{has}
use Rattle.ec_sessions.specs.declared.window.Window.{Window}
use Rattle.ec_log.specs.Log.{is_kept_by, lost}
use Rattle.ec_log.specs.declared.state.LogState.{LogState}
use Rattle.ec_machine_laws.specs.Picks.{IsRest}
use Rattle.ec_machine_laws.specs.Logs.{IsUnderWay, IsLog, TellsDurable}
use Rattle.ec_machine_laws.proofs.Holding.{holds-front, holds-passed, holds-kept}
use Rattle.ec_machine_laws.proofs.Batches.{any-found, found-any}
use Rattle.ec_base.proofs.Bools.{both, first as left, right, on as holds, is-true}

module _ (w : Window) (l : LogState) where
  kept-in : (n b : ℕ) (ns : List ℕ) → IsUnderWay l b ns → T (has w b) → T (member n ns) → is_kept_by w l n ≡ true
  kept-in n b ns u h m = is-true _ (any-found (λ e. has w e.0 && member n e.1) b ns l.batches u (both (has w b) (member n ns) h m))

  kept-where : IsLog l → (n : ℕ) → is_kept_by w l n ≡ true → (b : ℕ) × (ns : List ℕ) × IsUnderWay l b ns × T (has w b) × T (member n ns)
  kept-where i n e =
      let f = found-any (λ e. has w e.0 && member n e.1) l.batches i.batches (holds e) in
      (f.0, f.1, f.2, left (has w f.0) (member n f.1) f.3, right (has w f.0) (member n f.1) f.3)

  -- A lost operation stands in no batch that the window has; each other one does.
  pub lost-in_none : (n : ℕ) (u : Update) → Holds (lost w l) n u → Holds l.undurable n u × ((b : ℕ) (ns : List ℕ) → IsUnderWay l b ns → T (member n ns) → has w b ≡ false)
  lost-in_none n u h = (
    holds-front (λ op. not (is_kept_by w l op.0)) l.undurable n u h,
    λ b ns k m. elim (cases_Bool (has w b)) [
      | inl t ↦ absurd (true≢false (sym (holds-passed (λ op. not (is_kept_by w l op.0)) l.undurable n u h) ∙ ap not (kept-in n b ns k (holds t) m)))
      | inr f ↦ f
    ],
  )

  pub lost-or_in : IsLog l → (n : ℕ) (u : Update) → Holds l.undurable n u → Holds (lost w l) n u ⊎ ((b : ℕ) × (ns : List ℕ) × IsUnderWay l b ns × T (has w b) × T (member n ns))
  lost-or_in i n u h = elim (cases_Bool (is_kept_by w l n)) [
    | inl t ↦ inr (kept-where i n t)
    | inr f ↦ inl (holds-kept (λ op. not (is_kept_by w l op.0)) l.undurable n u h (ap not f))
  ]

pub filter-held : (p q : ℕ × Update → Bool) (xs : Issued) → ((n : ℕ) (u : Update) → Holds xs n u → p (n, u) ≡ q (n, u)) → filter p xs ≡ filter q xs
filter-held p q [] h = refl
filter-held p q (x ∷ xs) h =
    ap (λ b. cond b (x ∷ filter p xs) (filter p xs)) (h x.0 x.1 (inl (refl, refl)))
    ∙ ap (λ ys. cond (q x) (x ∷ ys) ys) (filter-held p q xs (λ n u k. h n u (inr k)))

-- of two tests, each member that fails the second fails the first
filter-twice : (p q : ℕ × Update → Bool) (xs : Issued) → ((n : ℕ) (u : Update) → Holds xs n u → p (n, u) ≡ false → q (n, u) ≡ false) → filter q (filter p xs) ≡ filter q xs
filter-twice p q [] h = refl
filter-twice p q (x ∷ xs) h = go (p x) refl (filter-twice p q xs (λ n u k. h n u (inr k)))
  where
    go : (b : Bool) → p x ≡ b → filter q (filter p xs) ≡ filter q xs → filter q (cond b (x ∷ filter p xs) (filter p xs)) ≡ cond (q x) (x ∷ filter q xs) (filter q xs)
    go true e r = ap (λ ys. cond (q x) (x ∷ ys) ys) r
    go false e r = r ∙ sym (ap (λ b. cond b (x ∷ filter q xs) (filter q xs)) (h x.0 x.1 (inl (refl, refl)) e))

-- Where the window has exactly the batches that are durable, the lost operations are those that aren't durable.
pub lost-undurable : (w : Window) (l : LogState) (durable : ℕ → Bool) → IsLog l → TellsDurable w l durable → lost w l ≡ filter (λ x. not (durable x.0)) l.undurable
lost-undurable w l durable i t = filter-held (λ op. not (is_kept_by w l op.0)) (λ x. not (durable x.0)) l.undurable (λ n u h. ap not (same n u h))
  where
    same : (n : ℕ) (u : Update) → Holds l.undurable n u → is_kept_by w l n ≡ durable n
    same n u h = elim (cases_Bool (is_kept_by w l n)) [
      | inl e ↦ let k = kept-where w l i n e in e ∙ sym (t.both k.0 k.1 k.2 n k.4 ∙ is-true _ k.3)
      | inr e ↦ elim (cases_Bool (durable n)) [
        | inl d ↦ let k = t.known n u h (holds d) in absurd (true≢false (sym (kept-in w l n k.0 k.1 k.2 (holds (sym (t.both k.0 k.1 k.2 n k.3) ∙ d)) k.3) ∙ e))
        | inr d ↦ e ∙ sym d
      ]
    ]

pub lost-issued : (w : Window) (l : LogState) (issued : Issued) (known durable : ℕ → Bool) → IsLog l → TellsDurable w l durable → IsRest issued known l → ((n : ℕ) → T (known n) → T (durable n))
    → lost w l ≡ filter (λ x. not (durable x.0)) issued
lost-issued w l issued known durable i t r k =
    lost-undurable w l durable i t
    ∙ ap (filter (λ x. not (durable x.0))) r.rest
    ∙ filter-twice (λ x. not (known x.0)) (λ x. not (durable x.0)) issued (λ n u h e. off (known n) (durable n) (k n) e)
  where
    off : (a b : Bool) → (T a → T b) → not a ≡ false → not b ≡ false
    off true true f e = refl
    off true false f e = absurd (f tt)
    off false b f e = absurd (true≢false e)
