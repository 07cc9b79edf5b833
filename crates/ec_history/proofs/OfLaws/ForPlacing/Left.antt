-- What is kept fits behind calls and losses.
use Rattle.std.proofs.Common.{◌≡◌, refl, sym, ap, subst, inl, inr, ℕ, T, Bool, true, false, not, ◌&&◌, ◌||◌, cond, List, [], ◌∷◌, ◌++◌, Option, Some, None, append-nil}
use Rattle.std.specs.Prelude.{⊤}
use Rattle.std.proofs.lemmas.Bool.{cases_Bool}
use Rattle.std.specs.List.{list_any, list_all, filter}
use Rattle.ec_volume.specs.Update.{operands, has_operand, member, fits}
use Rattle.ec_volume.specs.Volume.{after, Fits}
use Rattle.ec_volume.specs.declared.update.Update.{Update}
use Rattle.ec_plain.specs.declared.call.Call.{Call}
use Rattle.ec_order.specs.Order.{before, share, is_overwrite}
use Rattle.ec_history.specs.History.{Base, History, Op, Throughout, Each, updates, kept, kept_from, kept_next, issued_by, outcome, of_start, same_start, is_one_of, is_entry_of, touched, without}
use Rattle.ec_history.specs.Legal.{IsLegal, IsLegalNext, is_call_of_other, is_closed, leaves}
use Rattle.ec_history.specs.declared.entry.Answer.{Answer}
use Rattle.ec_history.specs.declared.entry.Entry.{Entry}
use Rattle.ec_history.specs.declared.entry.Entry.TheVariants as entry
use Rattle.ec_history.proofs.OfLaws.ForPlacing.More.{kept-step}
use Rattle.ec_history.proofs.OfLaws.ForPlacing.Objects.{fits-next}
use Rattle.ec_history.proofs.OfLaws.ForPlacing.Removed.{off, removal}
use Rattle.ec_history.proofs.OfLaws.ForPlacing.Touching.{plain-touches}
use Rattle.ec_base.proofs.Bools.{or-right as or_r, both, first as left, right, or_first as or_l, on as holds}

module _ (mine lost : Op → Bool) where
  abbrev Apart : List Op → Type 0
  Apart [] = ⊤
  Apart (k ∷ ks) = (T (lost k) → Each (λ j. mine j ≡ false → T (not (before k.update j.update))) ks) × Apart ks

  merge : (u : Update) (ks : List Op) → T (list_all (λ j. lost j || not (before u j.update)) (filter mine ks)) → Each (λ j. mine j ≡ false → T (not (before u j.update))) ks
      → T (list_all (λ j. lost j || not (before u j.update)) ks)
  merge u [] h a = tt
  merge u (j ∷ ks) h a = elim (cases_Bool (mine j)) [
    | inl e ↦
        let h' : T (list_all (λ i. lost i || not (before u i.update)) (j ∷ filter mine ks)) = subst (λ b. T (list_all (λ i. lost i || not (before u i.update)) (cond b (j ∷ filter mine ks) (filter mine ks)))) e h in
        both _ _ (left (lost j || not (before u j.update)) _ h') (merge u ks (right (lost j || not (before u j.update)) _ h') a.1)
    | inr e ↦
        let h' : T (list_all (λ i. lost i || not (before u i.update)) (filter mine ks)) = subst (λ b. T (list_all (λ i. lost i || not (before u i.update)) (cond b (j ∷ filter mine ks) (filter mine ks)))) e h in
        both _ _ (or_r (lost j) _ (a.0 e)) (merge u ks h' a.1)
  ]

  closed-whole : ((k : Op) → T (lost k) → T (mine k)) → (ks : List Op) → T (is_closed lost (filter mine ks)) → Apart ks → T (is_closed lost ks)
  closed-whole own [] c a = tt
  closed-whole own (k ∷ ks) c a = elim (cases_Bool (mine k)) [
    | inl e ↦
        let c' : T (is_closed lost (k ∷ filter mine ks)) = subst (λ b. T (is_closed lost (cond b (k ∷ filter mine ks) (filter mine ks)))) e c in
        let rest : T (is_closed lost ks) = closed-whole own ks (right (not (lost k) || list_all (λ j. lost j || not (before k.update j.update)) (filter mine ks)) _ c') a.1 in
        both _ _ (elim (cases_Bool (lost k)) [
          | inl l ↦
              let c'' : T (list_all (λ j. lost j || not (before k.update j.update)) (filter mine ks)) = subst (λ b. T (not b || list_all (λ j. lost j || not (before k.update j.update)) (filter mine ks))) l (left _ _ c') in
              or_r (not (lost k)) _ (merge k.update ks c'' (a.0 (holds l)))
          | inr l ↦ or_l (not (lost k)) _ (subst (λ b. T (not b)) (sym l) tt)
        ]) rest
    | inr e ↦
        let c' : T (is_closed lost (filter mine ks)) = subst (λ b. T (is_closed lost (cond b (k ∷ filter mine ks) (filter mine ks)))) e c in
        let rest : T (is_closed lost ks) = closed-whole own ks c' a.1 in
        elim (cases_Bool (lost k)) [
          | inl l ↦ absurd (off e (own k (holds l)))
          | inr l ↦ both _ _ (or_l (not (lost k)) _ (subst (λ b. T (not b)) (sym l) tt)) rest
        ]
  ]

  each-snoc : {A : Type 0} (P : A → Type 0) (xs : List A) (x : A) → Each P xs → P x → Each P (xs ++ x ∷ [])
  each-snoc P [] x h p = (p, tt)
  each-snoc P (y ∷ xs) x h p = (h.0, each-snoc P xs x h.1 p)

  each-filter : {A : Type 0} (P : A → Type 0) (q : A → Bool) (xs : List A) → Each P xs → Each P (filter q xs)
  each-filter P q [] h = tt
  each-filter P q (x ∷ xs) h = elim (q x) as (λ b. Each P (cond b (x ∷ filter q xs) (filter q xs))) [ true ↦ (h.0, each-filter P q xs h.1) | false ↦ each-filter P q xs h.1 ]

  apart-snoc : (ks : List Op) (j : Op) → Apart ks → Each (λ k. T (lost k) → mine j ≡ false → T (not (before k.update j.update))) ks → Apart (ks ++ j ∷ [])
  apart-snoc [] j a h = (λ l. tt, tt)
  apart-snoc (k ∷ ks) j a h = (λ l. each-snoc (λ i. mine i ≡ false → T (not (before k.update i.update))) ks j (a.0 l) (h.0 l), apart-snoc ks j a.1 h.1)

  apart-filter : (q : Op → Bool) (ks : List Op) → Apart ks → Apart (filter q ks)
  apart-filter q [] a = tt
  apart-filter q (k ∷ ks) a =
      elim (q k) as (λ b. Apart (cond b (k ∷ filter q ks) (filter q ks))) [
        | true ↦ (λ l. each-filter (λ j. mine j ≡ false → T (not (before k.update j.update))) q ks (a.0 l), apart-filter q ks a.1)
        | false ↦ apart-filter q ks a.1
      ]

-- An update whose operands are touched shares none with one of which no operand is.
apart-touched : (xs ys ts : List ℕ) → T (not (list_any (λ o. member o ts) xs)) → ((o : ℕ) → T (member o ys) → T (member o ts)) → T (not (list_any (λ o. member o ys) xs))
apart-touched [] ys ts n f = tt
apart-touched (x ∷ xs) ys ts n f = go (member x ys) refl (λ m. apart-touched xs ys ts m f)
  where
    neither : (p q : Bool) → T (not (p || q)) → (T p → ⊥) × T (not q)
    neither true q h = absurd h
    neither false q h = (λ t. t, h)

    go : (b : Bool) → member x ys ≡ b → (T (not (list_any (λ o. member o ts) xs)) → T (not (list_any (λ o. member o ys) xs))) → T (not (member x ys || list_any (λ o. member o ys) xs))
    go true e rest = absurd ((neither (member x ts) (list_any (λ o. member o ts) xs) n).0 (f x (holds e)))
    go false e rest = subst (λ b. T (not (b || list_any (λ o. member o ys) xs))) (sym e) (rest (neither (member x ts) (list_any (λ o. member o ts) xs) n).1)

no-share : (u w : Update) → T (not (share u w)) → T (not (before u w))
no-share u w h = go (share u w) h
  where
    go : (s : Bool) → T (not s) → T (not (s && not (is_overwrite u && is_overwrite w)))
    go true h = absurd h
    go false h = tt

module _ (base : Base) (c b : ℕ) (ns : List ℕ) where
  abbrev pub Lost : Op → Bool
  Lost = is_one_of c b ns

  abbrev pub Mine : Op → Bool
  Mine = of_start c b

  -- no call of another start touches an operand of these
  abbrev pub Leaves : List Op → ℕ × Entry → Type 0
  Leaves ks e = is_entry_of c b e.1 ≡ false → T (list_all (λ k. not (list_any (λ o. member o (touched base ks e)) (operands k.update))) (filter Lost ks))

  abbrev pub Untouched : History → ℕ × Entry → Type 0
  Untouched h e = Leaves (kept base h) e

  from-filter : (P : Op → Bool) (ks : List Op) → T (list_all P (filter Lost ks)) → Each (λ k. T (Lost k) → T (P k)) ks
  from-filter P [] h = tt
  from-filter P (k ∷ ks) h = elim (cases_Bool (Lost k)) [
    | inl e ↦
        let h' : T (list_all P (k ∷ filter Lost ks)) = subst (λ b. T (list_all P (cond b (k ∷ filter Lost ks) (filter Lost ks)))) e h in
        (λ l. left (P k) _ h', from-filter P ks (right (P k) _ h'))
    | inr e ↦
        let h' : T (list_all P (filter Lost ks)) = subst (λ b. T (list_all P (cond b (k ∷ filter Lost ks) (filter Lost ks)))) e h in
        (λ l. absurd (off e l), from-filter P ks h')
  ]

  each-map : {A : Type 0} (P Q : A → Type 0) → ((x : A) → P x → Q x) → (xs : List A) → Each P xs → Each Q xs
  each-map P Q f [] h = tt
  each-map P Q f (x ∷ xs) h = (f x h.0, each-map P Q f xs h.1)

  -- one more call
  apart-call : (ks : List Op) (p d e l g : ℕ) (cl : Call) (a : Answer) (op : Option ℕ) → Apart Mine Lost ks
      → Leaves ks (p, entry.Call d e l g cl a op) → Apart Mine Lost (kept_next base ks (p, entry.Call d e l g cl a op))
  apart-call ks p d e l g cl a None ap' t = subst (Apart Mine Lost) (sym (append-nil ks)) ap'
  apart-call ks p d e l g cl a (Some n) ap' t = go ((outcome base ks p cl).update) refl
    where
      free : same_start c b d e ≡ false → Each (λ k. T (Lost k) → T (not (list_any (λ o. member o ((outcome base ks p cl).touched)) (operands k.update)))) ks
      free f = from-filter (λ k. not (list_any (λ o. member o ((outcome base ks p cl).touched)) (operands k.update))) ks
          (t f)

      new : (u : Update) → (outcome base ks p cl).update ≡ Some u → same_start c b d e ≡ false → Each (λ k. T (Lost k) → T (not (before k.update u))) ks
      new u q f = each-map _ (λ k. T (Lost k) → T (not (before k.update u)))
          (λ k h i. no-share k.update u (apart-touched (operands k.update) (operands u) ((outcome base ks p cl).touched) (h i) (plain-touches (after base.volume (updates ks)) cl (base.fresh p) u q))) ks (free f)

      later : (u : Update) → (same_start c b d e ≡ false → Each (λ k. T (Lost k) → T (not (before k.update u))) ks) → Each (λ k. T (Lost k) → same_start c b d e ≡ false → T (not (before k.update u))) ks
      later u h = elim (cases_Bool (same_start c b d e)) [
        | inl s ↦ all-own s ks
        | inr s ↦ each-map (λ k. T (Lost k) → T (not (before k.update u))) (λ k. T (Lost k) → same_start c b d e ≡ false → T (not (before k.update u))) (λ k x y z. x y) ks (h s)
      ]
        where
          all-own : same_start c b d e ≡ true → (xs : List Op) → Each (λ k. T (Lost k) → same_start c b d e ≡ false → T (not (before k.update u))) xs
          all-own s [] = tt
          all-own s (x ∷ xs) = (λ y z. absurd (off z (holds s)), all-own s xs)

      go : (x : Option Update) → (outcome base ks p cl).update ≡ x
          → Apart Mine Lost (ks ++ elim x [ None ↦ [] | Some u ↦ record { clerk = d; boot = e; number = n; place = p; update = u } ∷ [] ])
      go None q = subst (Apart Mine Lost) (sym (append-nil ks)) ap'
      go (Some u) q = apart-snoc Mine Lost ks (record { clerk = d; boot = e; number = n; place = p; update = u }) ap' (later u (new u q))

  apart-next : (ks : List Op) (e : ℕ × Entry) → Apart Mine Lost ks → Leaves ks e → Apart Mine Lost (kept_next base ks e)
  apart-next ks (p, entry.Call d e l g cl a op) h t = apart-call ks p d e l g cl a op h t
  apart-next ks (p, entry.Loss d e ms) h t = apart-filter Mine Lost (λ k. not (is_one_of d e ms k)) ks h

  apart-from : (past h : History) → Apart Mine Lost (kept base past) → Throughout Untouched past h → Apart Mine Lost (kept_from base (kept base past) h)
  apart-from past [] a t = a
  apart-from past (e ∷ h) a t =
      let same : kept base (past ++ e ∷ []) ≡ kept_next base (kept base past) e = kept-step base past e in
      let step : Apart Mine Lost (kept_next base (kept base past) e) = apart-next (kept base past) e a t.0 in
      let rest : Apart Mine Lost (kept_from base (kept base (past ++ e ∷ [])) h) = apart-from (past ++ e ∷ []) h (subst (Apart Mine Lost) (sym same) step) t.1 in
      subst (λ ks. Apart Mine Lost (kept_from base ks h)) same rest

  lost-mine : (k : Op) → T (Lost k) → T (Mine k)
  lost-mine k h = left (of_start c b k) _ h

  pub loss-fits : (past : History) → Fits base.volume (updates (kept base past)) → T (is_closed Lost (filter Mine (kept base past))) → Throughout Untouched [] past → Fits base.volume (updates (without c b ns (kept base past)))
  loss-fits past f cl un = removal base.volume Lost (kept base past) (closed-whole Mine Lost lost-mine (kept base past) cl (apart-from [] past tt un)) f

-- what is kept behind the loss
pub loss-kept : (base : Base) (c b p : ℕ) (ns : List ℕ) (past : History) → Fits base.volume (updates (kept base past)) → T (is_closed (is_one_of c b ns) (filter (of_start c b) (kept base past))) → Throughout (Untouched base c b ns) [] past
    → Fits base.volume (updates (kept base (past ++ (p, entry.Loss c b ns) ∷ [])))
loss-kept base c b p ns past f cl un = subst (λ ks. Fits base.volume (updates ks)) (sym (kept-step base past (p, entry.Loss c b ns))) (loss-fits base c b ns past f cl un)

-- the same, where no call of another clerk touched one, nor one of another start of the clerk
throughout-both : (P Q R : History → ℕ × Entry → Type 0) → ((h : History) (e : ℕ × Entry) → P h e → Q h e → R h e) → (past h : History) → Throughout P past h → Throughout Q past h → Throughout R past h
throughout-both P Q R f past [] t u = tt
throughout-both P Q R f past (e ∷ h) t u = (f past e t.0 u.0, throughout-both P Q R f (past ++ e ∷ []) h t.1 u.1)

pub lawful-fits : (base : Base) (c b : ℕ) (ns : List ℕ) (past : History) → Fits base.volume (updates (kept base past)) → T (is_closed (is_one_of c b ns) (filter (of_start c b) (kept base past)))
    → Throughout (λ h e. T (leaves base (kept base h) c (filter (is_one_of c b ns) (kept base h)) e)) [] past
    → Throughout (λ h e. is_call_of_other c e.1 ≡ false → Untouched base c b ns h e) [] past
    → Fits base.volume (updates (without c b ns (kept base past)))
lawful-fits base c b ns past f cl un own = loss-fits base c b ns past f cl (throughout-both Other Own (Untouched base c b ns) all [] past un own)
  where
    Other : History → ℕ × Entry → Type 0
    Other = λ h e. T (leaves base (kept base h) c (filter (is_one_of c b ns) (kept base h)) e)

    Own : History → ℕ × Entry → Type 0
    Own = λ h e. is_call_of_other c e.1 ≡ false → Untouched base c b ns h e

    all : (h : History) (e : ℕ × Entry) → T (leaves base (kept base h) c (filter (is_one_of c b ns) (kept base h)) e) → (is_call_of_other c e.1 ≡ false → Untouched base c b ns h e) → Untouched base c b ns h e
    all h e t u = elim (cases_Bool (is_call_of_other c e.1)) [
      | inl y ↦ λ n. subst (λ x. T (not x || list_all (λ k. not (list_any (λ o. member o (touched base (kept base h) e)) (operands k.update))) (filter (is_one_of c b ns) (kept base h)))) y t
      | inr n ↦ u n
    ]

-- Calls.

pub updates-next : (ks : List Op) (k : Op) → updates (ks ++ k ∷ []) ≡ updates ks ++ k.update ∷ []
updates-next [] k = refl
updates-next (j ∷ ks) k = ap (λ us. j.update ∷ us) (updates-next ks k)

module _ (base : Base) where
  -- the operation fits behind those that are kept
  abbrev pub FitsBehind : List Op → Op → Type 0
  FitsBehind ks k = (o : ℕ) → T (not (has_operand o k.update) || fits k.update o (after base.volume (updates ks) o))

  call-fits : (ks : List Op) (p c b l g : ℕ) (cl : Call) (a : Answer) (op : Option ℕ) → Fits base.volume (updates ks) → Each (FitsBehind ks) (issued_by base ks (p, entry.Call c b l g cl a op))
      → Fits base.volume (updates (ks ++ issued_by base ks (p, entry.Call c b l g cl a op)))
  call-fits ks p c b l g cl a None f h = subst (λ js. Fits base.volume (updates js)) (sym (append-nil ks)) f
  call-fits ks p c b l g cl a (Some n) f h = go ((outcome base ks p cl).update) h
    where
      go : (x : Option Update) → Each (FitsBehind ks) (elim x [ None ↦ [] | Some u ↦ record { clerk = c; boot = b; number = n; place = p; update = u } ∷ [] ])
          → Fits base.volume (updates (ks ++ elim x [ None ↦ [] | Some u ↦ record { clerk = c; boot = b; number = n; place = p; update = u } ∷ [] ]))
      go None h = subst (λ js. Fits base.volume (updates js)) (sym (append-nil ks)) f
      go (Some u) h = subst (Fits base.volume) (sym (updates-next ks (record { clerk = c; boot = b; number = n; place = p; update = u }))) (fits-next base.volume (updates ks) u f h.0)

  pub call-kept : (past : History) (p c b l g : ℕ) (cl : Call) (a : Answer) (op : Option ℕ) → Fits base.volume (updates (kept base past)) → Each (FitsBehind (kept base past)) (issued_by base (kept base past) (p, entry.Call c b l g cl a op))
      → Fits base.volume (updates (kept base (past ++ (p, entry.Call c b l g cl a op) ∷ [])))
  call-kept past p c b l g cl a op f h =
      subst (λ ks. Fits base.volume (updates ks)) (sym (kept-step base past (p, entry.Call c b l g cl a op))) (call-fits (kept base past) p c b l g cl a op f h)

  next-kept : (most : ℕ) (past : History) (e : ℕ × Entry) → IsLegalNext base most past e → Fits base.volume (updates (kept base past)) → Each (FitsBehind (kept base past)) (issued_by base (kept base past) e)
      → Fits base.volume (updates (kept base (past ++ e ∷ [])))
  next-kept most past (p, entry.Call c b l g cl a op) t f h = call-kept past p c b l g cl a op f h
  next-kept most past (p, entry.Loss c b ns) t f h = subst (λ ks. Fits base.volume (updates ks)) (sym (kept-step base past (p, entry.Loss c b ns))) t.fits

  legal-from : (most : ℕ) (past h : History) → Fits base.volume (updates (kept base past)) → Throughout (IsLegalNext base most) past h → Throughout (λ past e. Each (FitsBehind (kept base past)) (issued_by base (kept base past) e)) past h
      → Throughout (λ past e. Fits base.volume (updates (kept base (past ++ e ∷ [])))) past h
  legal-from most past [] f t u = tt
  legal-from most past (e ∷ h) f t u =
      let next : Fits base.volume (updates (kept base (past ++ e ∷ []))) = next-kept most past e t.0 f u.0 in
      (next, legal-from most (past ++ e ∷ []) h next t.1 u.1)

  pub legal-kept : (most : ℕ) (h : History) → IsLegal base most h → Throughout (λ past e. Each (FitsBehind (kept base past)) (issued_by base (kept base past) e)) [] h
      → Throughout (λ past e. Fits base.volume (updates (kept base (past ++ e ∷ [])))) [] h
  legal-kept most h t u = legal-from most [] h (λ o. tt) t u
