-- A rename's update is sound and fits: what it takes.
use Rattle.std.proofs.Common.{◌≡◌, refl, sym, subst, ◌∙◌, inl, inr, ℕ, T, Bool, true, false, not, ◌==◌, ◌&&◌, ◌||◌, cond, List, [], ◌∷◌, ◌++◌, eqb-true, Option, Some, None}
use Rattle.std.specs.Bool.{⊤}
use Rattle.std.specs.List.{filter, list_any}
use Rattle.std.proofs.lemmas.Bool.{cases_Bool, or_cases, true≢false}
use Rattle.ec_volume.specs.Entries.{same_name}
use Rattle.ec_volume.specs.Image.{is_dir, is_id, is_kind, is_bare, gives, yields}
use Rattle.ec_volume.specs.Update.{Above, ids_of, listed, operands, has_operand, member, distinct, fits, leads, has_room, is_way, is_within, is_sound}
use Rattle.ec_volume.specs.Volume.{Images, Names, Fits}
use Rattle.ec_volume.specs.declared.image.Kind.{Kind}
use Rattle.ec_volume.specs.declared.update.Update.{Update}
use Rattle.ec_volume.specs.declared.update.Update.TheVariants.{Move, Shift}
use Rattle.ec_volume.proofs.Distinct.{distinct_apart}
use Rattle.ec_history.proofs.OfLaws.ForFormed.Ways.{gives-named}
use Rattle.ec_base.proofs.Bools.{both, on as holds}

-- what holds of the victim, if there is one
abbrev pub OnVictim : Option ℕ → (ℕ → Type 0) → Type 0
OnVictim None P = ⊤
OnVictim (Some t) P = P t

-- It is enough to try the operands.
pub fits-one : (v : Images) (u : Update) → ((x : ℕ) → has_operand x u ≡ true → T (fits u x (v x))) → Fits v (u ∷ [])
fits-one v u h x = both (not (has_operand x u) || fits u x (v x)) true (go (has_operand x u) (h x)) tt
  where
    go : (b : Bool) → (b ≡ true → T (fits u x (v x))) → T (not b || fits u x (v x))
    go true f = f refl
    go false f = tt

listed-victim : (P : ℕ → Type 0) (x : ℕ) (victim : Option ℕ) → OnVictim victim P → member x (listed victim) ≡ true → P x
listed-victim P x None h m = absurd (true≢false (sym m))
listed-victim P x (Some t) h m = elim (or_cases (x == t) false m) [ inl e ↦ subst P (sym (eqb-true x t e)) h | inr e ↦ absurd (true≢false (sym e)) ]

id-victim : (P : ℕ → Type 0) (x : ℕ) (victim : Option ℕ) → OnVictim victim P → is_id x victim ≡ true → P x
id-victim P x None h m = absurd (true≢false (sym m))
id-victim P x (Some t) h m = subst P (sym (eqb-true x t m)) h

module _ (v : Images) (d : ℕ) (from : List ℕ) (o : ℕ) (to : List ℕ) (k : Kind) (victim : Option ℕ)
    (dir : T (is_dir (v d))) (named : Names v d from o) (is_of_kind : T (is_kind k (v o))) (bare : OnVictim victim (λ t. T (is_bare k (v t)))) where
  -- Within one directory.

  abbrev dir_at : ℕ → Bool → Bool → Bool
  dir_at x a b = cond a (gives from o (v x) && yields to victim (v x)) (cond b (is_kind k (v x)) (is_bare k (v x)))

  move-at : T (yields to victim (v d)) → (x : ℕ) → (a b : Bool) → (x == d) ≡ a → (x == o) ≡ b → (a || (b || member x (listed victim))) ≡ true → T (dir_at x a b)
  move-at yield x true b p q m = subst (λ y. T (gives from o (v y) && yields to victim (v y))) (sym (eqb-true x d p)) (both (gives from o (v d)) (yields to victim (v d)) (gives-named v d from o dir named) yield)
  move-at yield x false true p q m = subst (λ y. T (is_kind k (v y))) (sym (eqb-true x o q)) is_of_kind
  move-at yield x false false p q m = listed-victim (λ t. T (is_bare k (v t))) x victim bare m

  pub move-fits : T (yields to victim (v d)) → Fits v (Move d from to o k victim ∷ [])
  move-fits yield = fits-one v (Move d from to o k victim) (λ x m. move-at yield x (x == d) (x == o) refl refl m)

  -- Between two directories.
  module _ (e : ℕ) (up : Above) (yield : T (yields to victim (v e))) (room : T (has_room victim (v e))) (way : (x : ℕ) → T (leads up e x (v x))) where
    abbrev rest_at : ℕ → Bool → Bool → Bool → Bool
    rest_at x a b c = cond a (gives from o (v x)) (cond b (yields to victim (v x) && has_room victim (v x)) (cond c (is_kind k (v x)) (not (is_id x victim) || is_bare k (v x))))

    shift-at : (x : ℕ) (a b c : Bool) → (x == d) ≡ a → (x == e) ≡ b → (x == o) ≡ c → T (rest_at x a b c)
    shift-at x true b c p q r = subst (λ y. T (gives from o (v y))) (sym (eqb-true x d p)) (gives-named v d from o dir named)
    shift-at x false true c p q r = subst (λ y. T (yields to victim (v y) && has_room victim (v y))) (sym (eqb-true x e q)) (both (yields to victim (v e)) (has_room victim (v e)) yield room)
    shift-at x false false true p q r = subst (λ y. T (is_kind k (v y))) (sym (eqb-true x o r)) is_of_kind
    shift-at x false false false p q r = elim (cases_Bool (is_id x victim)) [
      | inl a ↦ subst (λ b. T (not b || is_bare k (v x))) (sym a) (id-victim (λ t. T (is_bare k (v t))) x victim bare a)
      | inr a ↦ subst (λ b. T (not b || is_bare k (v x))) (sym a) tt
    ]

    pub shift-fits : Fits v (Shift d from e to o k victim up ∷ [])
    shift-fits = fits-one v (Shift d from e to o k victim up) (λ x m. both (leads up e x (v x)) (rest_at x (x == d) (x == e) (x == o)) (way x) (shift-at x (x == d) (x == e) (x == o) refl refl refl))

-- The operands differ.

pub move-sound : (d : ℕ) (from to : List ℕ) (o : ℕ) (k : Kind) (victim : Option ℕ) → (d == o) ≡ false → OnVictim victim (λ t. ((d == t) ≡ false) × ((o == t) ≡ false)) → same_name from to ≡ false → T (is_sound (Move d from to o k victim))
move-sound d from to o k None a h n = holds (sound (d == o) (same_name from to) a n)
  where
    sound : (x s : Bool) → x ≡ false → s ≡ false → ((not (x || false) && true) && not s) ≡ true
    sound x s a n = λ i. (not (a i || false) && true) && not (n i)
move-sound d from to o k (Some t) a h n = holds (sound (d == o) (d == t) (o == t) (same_name from to) a h.0 h.1 n)
  where
    sound : (x y z s : Bool) → x ≡ false → y ≡ false → z ≡ false → s ≡ false → ((not (x || (y || false)) && (not (z || false) && true)) && not s) ≡ true
    sound x y z s a b c n = λ i. (not (a i || (b i || false)) && (not (c i || false) && true)) && not (n i)

module _ (d : ℕ) (from : List ℕ) (e : ℕ) (to : List ℕ) (o : ℕ) (k : Kind) (victim : Option ℕ) (up : Above)
    (d_e : (d == e) ≡ false) (d_o : (d == o) ≡ false) (e_o : (e == o) ≡ false) (others : OnVictim victim (λ t. ((d == t) ≡ false) × ((e == t) ≡ false) × ((o == t) ≡ false)))
    (apart : distinct (ids_of up) ≡ true) (e_up : member e (ids_of up) ≡ false) (o_up : member o (ids_of up) ≡ false) (victim_up : OnVictim victim (λ t. member t (ids_of up) ≡ false)) where
  four : (victim : Option ℕ) → OnVictim victim (λ t. ((d == t) ≡ false) × ((e == t) ≡ false) × ((o == t) ≡ false)) → distinct (d ∷ e ∷ o ∷ listed victim) ≡ true
  four None h = sound (d == e) (d == o) (e == o) d_e d_o e_o
    where
      sound : (x y z : Bool) → x ≡ false → y ≡ false → z ≡ false → (not (x || (y || false)) && (not (z || false) && true)) ≡ true
      sound x y z a b c = λ i. not (a i || (b i || false)) && (not (c i || false) && true)
  four (Some t) (d_t, e_t, o_t) = sound (d == e) (d == o) (d == t) (e == o) (e == t) (o == t) d_e d_o d_t e_o e_t o_t
    where
      sound : (x y z p q r : Bool) → x ≡ false → y ≡ false → z ≡ false → p ≡ false → q ≡ false → r ≡ false → (not (x || (y || (z || false))) && (not (p || (q || false)) && (not (r || false) && true))) ≡ true
      sound x y z p q r a b c f g h = λ i. not (a i || (b i || (c i || false))) && (not (f i || (g i || false)) && (not (h i || false) && true))

  none-above : (victim : Option ℕ) → OnVictim victim (λ t. member t (ids_of up) ≡ false) → list_any (λ x. member x (ids_of up)) (e ∷ o ∷ listed victim) ≡ false
  none-above None h = λ i. e_up i || (o_up i || false)
  none-above (Some t) h = λ i. e_up i || (o_up i || (h i || false))

  operands-apart : distinct ((d ∷ e ∷ o ∷ listed victim) ++ filter (λ x. not (x == d)) (ids_of up)) ≡ true
  operands-apart = distinct_apart d (e ∷ o ∷ listed victim) (ids_of up) apart ∙ (λ i. four victim others i && not (none-above victim victim_up i))

  pub shift-sound : is_way k e up ≡ true → T (is_sound (Shift d from e to o k victim up))
  shift-sound way = both (distinct (operands (Shift d from e to o k victim up))) (is_within (Shift d from e to o k victim up)) (holds operands-apart) (both (distinct (ids_of up)) (is_way k e up) (holds apart) (holds way))
